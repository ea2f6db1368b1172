-- The imports of tables' records meet what the import of a body requires of what is outside the function, given the same of callees: they are known after they were followed, what is mapped stays mapped, and the derived tables only grow.
use Rattle.std.specs.Prelude.{ℕ, suc, ◌+◌, ◌<◌, ◌≤◌, pred, ◌≡◌, Bool, true, false, List, [], ◌∷◌, eqb, length, get_or}
use Rattle.std.proofs.Math.Path.{refl}
use Rattle.std.proofs.Common.{ap, ◌∙◌, le_trans, not-suc-le-zero, eqb-true}
use native.Mathlib.Omega.{arith}
use Rattle.std.proofs.Math.Nat.{le_refl}
use Rattle.model.specs.Outcome.{Cells}
use Rattle.model.specs.Tree.{Function}
use Rattle.model.specs.Module.{Module}
use Rattle.model.specs.Carry.{WellFormed}
use Rattle.model.specs.Numbers.{numbered}
use Rattle.model.specs.Lower.{lower}
use Rattle.model.specs.Redirect.{name_word, function as function_at}
use Rattle.model.specs.Tables.{Tab, names, at, tables, rec_at, count}
use Rattle.model.specs.References.{Place, table, own, function, alike, index_of}
use Rattle.model.specs.Imports.{Derived, intern, commit, import_t}
use Rattle.model.specs.Bodies.{last_of, known}
use Rattle.theory_records.specs.Trace.{Trace, keep_rule₂, Keeps, import_trace}
use Rattle.theory_records.specs.Theorems.{Grows, Inside as MapsInside, trace_grows}
use Rattle.theory_records.specs.Tested.{tested_wf}
use Rattle.theory_records.specs.Imported.{Kept, import_kept, import_keeps, import_idle}
use Rattle.theory_bodies.specs.Context.{look, size_of, Inside, Grown, grown_refl, outer, Law}

-- every derived function's name is there
abbrev pub NamesTo : ℕ → List Function → Type 0
NamesTo b [] = Unit {0}
NamesTo b (f ∷ fs) = (name_word f ≤ b) × NamesTo b fs

pub record Good (M : Module) (s : Derived) : Type 0 where
  pub kept : Kept (tables M) s
  pub named : NamesTo (count s.recs names) s.functions

pub names_to : (b b' : ℕ) → b ≤ b' → (fs : List Function) → NamesTo b fs → NamesTo b' fs
names_to b b' l [] a = tt
names_to b b' l (f ∷ fs) a = (le_trans a.0 l, names_to b b' l fs a.1)

-- ---- the last function of a name
pub last-top : (fs : List Function) (j v w : ℕ) → v ≤ j → last_of fs j v w ≤ j + length fs
unfolding last_of
last-top [] j v w h = omega arith
last-top (f ∷ fs) j v w h = go (eqb (name_word f) w) (last-top fs (suc j) (suc j) w (le_refl _)) (last-top fs (suc j) v w (omega arith))
  where
    go : (b : Bool) → last_of fs (suc j) (suc j) w ≤ suc j + length fs → last_of fs (suc j) v w ≤ suc j + length fs
        → (let r : ℕ = elim b [ true ↦ last_of fs (suc j) (suc j) w | false ↦ last_of fs (suc j) v w ] in r) ≤ j + suc (length fs)
    go true x y = omega arith
    go false x y = omega arith

pub last-named : (b : ℕ) (fs : List Function) (j v w : ℕ) → NamesTo b fs → (0 < v → w ≤ b) → 0 < last_of fs j v w → w ≤ b
unfolding last_of
last-named b [] j v w a f h = f h
last-named b (g ∷ fs) j v w a f h = go (eqb (name_word g) w) refl h (last-named b fs (suc j) (suc j) w a.1) (last-named b fs (suc j) v w a.1 f)
  where
    go : (c : Bool) → eqb (name_word g) w ≡ c → 0 < (let r : ℕ = elim c [ true ↦ last_of fs (suc j) (suc j) w | false ↦ last_of fs (suc j) v w ] in r)
        → ((0 < suc j → w ≤ b) → 0 < last_of fs (suc j) (suc j) w → w ≤ b) → (0 < last_of fs (suc j) v w → w ≤ b) → w ≤ b
    go true e h x y = x (λ z. omega (arith, eqb-true (name_word g) w e, a.0)) h
    go false e h x y = y h

-- a record that is there keeps its place
pub seat_stays : (ds es : List Cells) (r : Cells) → length ds ≤ length es → ((k : ℕ) → k < length ds → get_or es k [] ≡ get_or ds k []) → index_of ds r < length ds → index_of es r ≡ index_of ds r
unfolding index_of
seat_stays [] es r l p h = absurd (not-suc-le-zero h)
seat_stays (d ∷ ds) [] r l p h = absurd (omega arith)
seat_stays (d ∷ ds) (e ∷ es) r l p h = let q : e ≡ d = p 0 (omega arith) in rw q (go (alike d r) h (λ z. seat_stays ds es r (omega arith) (λ k w. p (suc k) (omega arith)) z))
  where
    go : (b : Bool) → (let n : ℕ = elim b [ true ↦ 0 | false ↦ suc (index_of ds r) ] in n) < suc (length ds) → (index_of ds r < length ds → index_of es r ≡ index_of ds r)
        → ◌≡◌ {A = ℕ} (elim b [ true ↦ 0 | false ↦ suc (index_of es r) ]) (elim b [ true ↦ 0 | false ↦ suc (index_of ds r) ])
    go true h f = refl
    go false h f = ap suc (f (omega arith))

-- what is known stays known where the tables grow and the functions stay
pub known-stays : (M : Module) (s r : Derived) → Good M s → Grows s.recs r.recs → r.functions ≡ s.functions → (n : ℕ) → 0 < known M s n → known M r n ≡ known M s n
unfolding known count rec_at
known-stays M s r g w e n h =
    let nm : Cells = rec_at (tables M) names (pred (name_word (function_at M n))) in
    let l : suc (index_of (at names s.recs) nm) ≤ length (at names s.recs) = last-named (length (at names s.recs)) s.functions 0 0 _ g.named (λ z. absurd (omega arith)) h in
    rw (e, seat_stays (at names s.recs) (at names r.recs) nm (w.longer names) (w.prefix names) l)

-- ---- what is required of callees: of those of Q, in a state in which G holds
pub record Follows (o : ℕ) (M : Module) (follow : ℕ → Derived → Derived) (Q : ℕ → Type 0) (G : Derived → Type 0) : Type 0 where
  pub is_good : (s : Derived) → G s → Good M s
  pub imports : (t : Tab) (n : ℕ) (s : Derived) → n < count (tables M) t → G s → G (import_t o (tables M) t n s)
  pub good : (n : ℕ) (s : Derived) → Q n → G s → G (follow n s)
  pub maps : (n : ℕ) (s : Derived) → Q n → G s → 0 < known M (follow n s) n
  pub keeps : (n : ℕ) (s : Derived) → Q n → G s → Keeps s (follow n s)
  pub knows : (n : ℕ) (s : Derived) → Q n → G s → (k : ℕ) → 0 < known M s k → known M (follow n s) k ≡ known M s k
  pub idle : (n : ℕ) (s : Derived) → 0 < known M s n → follow n s ≡ s
  pub grown : (n : ℕ) (s : Derived) → Q n → G s → Grown s (follow n s)

module _ (M : Module) (well : WellFormed M) (three : numbered M ≡ true) (four : lower M ≡ true) (o : ℕ) where
  module _ (t : Tab) (n : ℕ) (s : Derived) (h : n < count (tables M) t) (g : Good M s) where
    tr : Trace o (tables M) s (import_t o (tables M) t n s)
    tr = (import_trace o (tables M) (tested_wf M well three four) t n s h g.kept.base.sized).0

    grows : Grows s.recs (import_t o (tables M) t n s).recs
    grows = trace_grows o (tables M) (tested_wf M well three four) tr

    functions_stay : (import_t o (tables M) t n s).functions ≡ s.functions
    unfolding commit intern
    functions_stay = keep_rule₂ (λ s r. r.functions ≡ s.functions) (λ s. refl) (λ a b c p q. q ∙ p) (λ s t n r. refl) tr

    pub import_good : Good M (import_t o (tables M) t n s)
    import_good = record { kept = (import_kept M well three four o t n s h g.kept).0; named = rw functions_stay (names_to _ _ (grows.longer names) s.functions g.named) }

    pub import_grown : Grown s (import_t o (tables M) t n s)
    import_grown = record { tables = grows; functions = rw functions_stay (le_refl _) }

  law_keeps : (follow : ℕ → Derived → Derived) (Q : ℕ → Type 0) (G : Derived → Type 0) → Follows o M follow Q G → (p : Place) (n : ℕ) (s : Derived) → Inside M Q p n → G s → (q : Place) (k : ℕ) → 0 < look M s q k → look M (outer o M follow p n s) q k ≡ look M s q k
  unfolding outer look Inside Keeps
  law_keeps follow Q G f (table t) n s i g (table u) k h = import_keeps M well three four o t n s i (f.is_good s g).kept u k h
  law_keeps follow Q G f (table t) n s i g own k h = refl
  law_keeps follow Q G f (table t) n s i g function k h = (let a = f.is_good s g in known-stays M s (import_t o (tables M) t n s) a (grows t n s i a) (functions_stay t n s i a) k h)
  law_keeps follow Q G f own n s i g q k h = refl
  law_keeps follow Q G f function n s i g (table u) k h = f.keeps n s i g u k h
  law_keeps follow Q G f function n s i g own k h = refl
  law_keeps follow Q G f function n s i g function k h = f.knows n s i g k h

  law-within : (s : Derived) → Good M s → (p : Place) (n : ℕ) → look M s p n ≤ size_of s p
  unfolding look size_of MapsInside known
  law-within s g (table t) n = g.kept.base.inside t n
  law-within s g own n = le_refl _
  law-within s g function n = omega (arith, last-top s.functions 0 0 (suc (index_of (at names s.recs) (rec_at (tables M) names (pred (name_word (function_at M n)))))) (le_refl _))

  -- THE LAW
  pub lawful : (follow : ℕ → Derived → Derived) (Q : ℕ → Type 0) (G : Derived → Type 0) → Follows o M follow Q G → Law o M follow Q G
  lawful follow Q G f = record { good = good; maps = maps; keeps = law_keeps follow Q G f; idle = idle; grown = grown; within = λ s g. law-within s (f.is_good s g) }
    where
      good : (p : Place) (n : ℕ) (s : Derived) → Inside M Q p n → G s → G (outer o M follow p n s)
      good (table t) n s i g = unfold outer in f.imports t n s (unfold Inside in i) g
      good own n s i g = unfold outer in g
      good function n s i g = unfold outer in f.good n s (unfold Inside in i) g

      maps : (p : Place) (n : ℕ) (s : Derived) → Inside M Q p n → G s → 0 < look M (outer o M follow p n s) p n
      maps (table t) n s i g = unfold outer look in (import_kept M well three four o t n s (unfold Inside in i) (f.is_good s g).kept).1
      maps own n s i g = unfold outer look in omega arith
      maps function n s i g = unfold outer look in f.maps n s (unfold Inside in i) g

      idle : (p : Place) (n : ℕ) (s : Derived) → Inside M Q p n → G s → 0 < look M s p n → outer o M follow p n s ≡ s
      idle (table t) n s i g h = unfold outer in import_idle M well three four o t n s (unfold Inside in i) (unfold look in h)
      idle own n s i g h = unfold outer in refl
      idle function n s i g h = unfold outer in f.idle n s (unfold look in h)

      grown : (p : Place) (n : ℕ) (s : Derived) → Inside M Q p n → G s → Grown s (outer o M follow p n s)
      grown (table t) n s i g = unfold outer in import_grown t n s (unfold Inside in i) (f.is_good s g)
      grown own n s i g = unfold outer in grown_refl s
      grown function n s i g = unfold outer in f.grown n s (unfold Inside in i) g
