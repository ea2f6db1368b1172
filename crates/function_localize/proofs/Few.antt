-- No more expressions are made than the source's function has: each that is made fills a place of the map that was empty. Whatever the way to follow calls and the state.
use mathlib.Core.Path.{◌≡◌, refl, sym, ap, ◌∙◌}
use mathlib.Core.Bool.{Bool, true, false}
use mathlib.Core.List.{List, [], ◌∷◌}
use Prim.Native.Nat.{ℕ, zero, suc, ◌+◌, ◌-◌, ◌≤◌, ◌<◌}
use native.Mathlib.Nat.{le_refl}
use native.Mathlib.Numerals.{add-one}
use native.Mathlib.Omega.{arith}
use lib.Dec.{eqb}
use lib.ListN.{length, get_or, set, replicate, length-append, length-set, length-replicate}
use lib.Seq.{get_or-set_other}
use borrow.Author.Tests.{eqb-true}
use Rattle.model.specs.Outcome.{Cell, Cells, class, word}
use Rattle.model.specs.Table.{FROM, STMT_KIND}
use Rattle.model.specs.Tree.{Function, flat_block}
use Rattle.model.specs.Module.{Module}
use Rattle.model.specs.Between.{between}
use Rattle.model.specs.References.{Place, table, own, function, Target, copied, start, upto, ref, opt, target, Node, ref_of, refs, fold_refs, first_word, alike, interned}
use Rattle.model.specs.Operands.{standing}
use Rattle.model.specs.Scope.{up_from, in_range}
use Rattle.model.specs.Imports.{Derived}
use Rattle.model.specs.Bodies.{Builder, bring, carried, step, append_expr, intern_expr, import_e, import_initialiser, compares_of, each_e}
use Rattle.theory_records.specs.RecordLaws.{All}
use Rattle.theory_image.specs.Betweens.{between_none, between_next}
use Rattle.theory_bodies.specs.Context.{once_is}
use Rattle.theory_bodies.specs.Shallow.{need, peek, glance}
use Rattle.theory_passes.specs.Pass.{atomic_kind, arrive, first, both, early, passed, after, front, begin}
use Rattle.theory_passes.specs.Light.{still}
use Rattle.derive_state.specs.Source.{mod_of}
use Rattle.function_references.specs.Fits.{Fits, FitN, Legible}
use Rattle.function_outside.proofs.Passing.{legible_next, legible_here}
use Rattle.function_runs.proofs.Firsts.{first_some}
use Rattle.function_words.proofs.Words.{Lows, compares_lows}
use Rattle.function_parts.specs.Part.{Part, Indexed, k_many, front_is, body_is}
use Rattle.function_parts.specs.Fitting.{expr_fits, front_legible, body_legible}
use Rattle.function_nesting.specs.Nested.{declared_s, walked_s}
use Rattle.function_localize.proofs.Starts.{declares, ranges}

-- ---- places that are filled
unfoldable filled : List ℕ → ℕ
filled [] = 0
filled (zero ∷ ms) = filled ms
filled (suc v ∷ ms) = suc (filled ms)

filled_low : (ms : List ℕ) → filled ms ≤ length ms
unfolding filled
filled_low [] = omega arith
filled_low (zero ∷ ms) = let h = filled_low ms in omega arith
filled_low (suc v ∷ ms) = let h = filled_low ms in omega arith

filled-set : (ms : List ℕ) (e v : ℕ) → e < length ms → get_or ms e 0 ≡ 0 → filled (set ms e (suc v)) ≡ suc (filled ms)
unfolding filled
filled-set [] e v h z = absurd (omega arith)
filled-set (zero ∷ ms) zero v h z = refl
filled-set (suc w ∷ ms) zero v h z = absurd (omega arith)
filled-set (zero ∷ ms) (suc e) v h z = filled-set ms e v (omega arith) z
filled-set (suc w ∷ ms) (suc e) v h z = ap suc (filled-set ms e v (omega arith) z)

filled_none : (n : ℕ) → filled (replicate n 0) ≡ 0
unfolding filled
filled_none zero = refl
filled_none (suc n) = filled_none n

-- what is made fills places below b
record Fills (b : ℕ) (m m' : Builder) : Type 0 where
  long : length m'.memo ≡ length m.memo
  few : length m'.made + filled m.memo ≤ length m.made + filled m'.memo
  same : (y : ℕ) → b ≤ y → get_or m'.memo y 0 ≡ get_or m.memo y 0

fills_none : (b : ℕ) (m : Builder) → Fills b m m
fills_none b m = record { long = refl; few = le_refl _; same = λ y h. refl }

fills_beside : (b : ℕ) (m m' : Builder) → m'.memo ≡ m.memo → m'.made ≡ m.made → Fills b m m'
fills_beside b m m' p q = record { long = ap length p; few = rw (p, q) (le_refl _); same = λ y h. ap (λ (l : List ℕ). get_or l y 0) p }

fills_then : (b : ℕ) {m m' m'' : Builder} → Fills b m m' → Fills b m' m'' → Fills b m m''
fills_then b p q = record { long = q.long ∙ p.long; few = let x = p.few in let y = q.few in omega arith; same = λ y h. q.same y h ∙ p.same y h }

fills_more : (b c : ℕ) {m m' : Builder} → b ≤ c → Fills b m m' → Fills c m m'
fills_more b c l p = record { long = p.long; few = p.few; same = λ y h. p.same y (omega arith) }

fills_one : (e v : ℕ) (m d : Builder) (ds : List Cells) (s : Derived) → Fills e m d → get_or m.memo e 0 ≡ 0 → e < length m.memo → length ds ≤ suc (length d.made) → Fills (suc e) m (record { out = s; memo = set d.memo e (suc v); made = ds })
fills_one e v m d ds s p z h l = record {
  long = length-set d.memo e (suc v) ∙ p.long;
  few = let a = filled-set d.memo e v (let x = p.long in omega arith) (p.same e (le_refl _) ∙ z) in let b = p.few in omega arith;
  same = λ y g. get_or-set_other d.memo e y (suc v) 0 (λ q. omega arith) ∙ p.same y (omega arith);
}

merged-more : (ds : List Cells) (r : Cells) → length (interned ds r) ≤ suc (length ds)
unfolding interned
merged-more [] r = omega arith
merged-more (d ∷ ds) r = go (alike d r) (merged-more ds r)
  where
    go : (b : Bool) → length (interned ds r) ≤ suc (length ds) → length {A = Cells} (elim b [ true ↦ d ∷ ds | false ↦ d ∷ interned ds r ]) ≤ suc (suc (length ds))
    go true h = omega arith
    go false h = omega arith

-- ---- references
module _ (words : List ℕ) (o : ℕ) (M : Module) (k : ℕ) where
  abbrev Imports : ℕ → (ℕ → Builder → Builder) → Type 0
  Imports b h = (e : ℕ) (m : Builder) → e < b → length m.memo ≡ k → Fills b m (h e m)

  module _ (follow : ℕ → Derived → Derived) (b : ℕ) (h : ℕ → Builder → Builder) (H : Imports b h) where
    step_fills : (s : Place) (n : ℕ) (m : Builder) → Fits words b s n → length m.memo ≡ k → Fills b m (step o M follow h s n m)
    unfolding step bring Fits
    step_fills (table t) n m f l = fills_beside b m _ refl refl
    step_fills own n m f l = H n m f l
    step_fills function n m f l = fills_beside b m _ refl refl

    each_fills : (js : List Node) (m : Builder) → All (FitN words b) js → length m.memo ≡ k → Fills b m (fold_refs js (step o M follow h) m)
    unfolding fold_refs
    each_fills [] m a l = fills_none b m
    each_fills (j ∷ js) m a l = let f = step_fills j.place j.num m a.0 l in fills_then b f (each_fills js (step o M follow h j.place j.num m) a.1 (f.long ∙ l))

    all_fills : (es : List ℕ) (m : Builder) → Lows b es → length m.memo ≡ k → Fills b m (each_e es h m)
    unfolding each_e
    all_fills [] m a l = fills_none b m
    all_fills (e ∷ es) m a l = let f = H e m a.0 l in fills_then b f (all_fills es (h e m) a.1 (f.long ∙ l))

  -- ---- one expression
  module _ (xs : List Cells) (fits : (e : ℕ) → e < k → All (FitN words e) (refs (get_or xs e []))) where
    idle_fills : (b : ℕ) (js : List Node) (m : Builder) → Fills b m (fold_refs js (step o M still (λ x m. m)) m)
    unfolding fold_refs
    idle_fills b [] m = fills_none b m
    idle_fills b (j ∷ js) m = fills_then b (one j.place j.num) (idle_fills b js (step o M still (λ x m. m) j.place j.num m))
      where
        one : (s : Place) (n : ℕ) → Fills b m (step o M still (λ x m. m) s n m)
        one (table t) n = unfold step bring in fills_beside b m _ refl refl
        one own n = unfold step in fills_none b m
        one function n = unfold step bring in fills_beside b m _ refl refl

    need_fills : (e : ℕ) (m : Builder) → e < k → length m.memo ≡ k → Fills (suc e) m (need o M still xs e m)
    unfolding need append_expr
    need_fills e m h l = once_is (Fills (suc e) m) (get_or m.memo e 0) _ m
        (λ z. fills_one e _ m (fold_refs (refs (get_or xs e [])) (step o M still (λ x m. m)) m) _ _ (idle_fills e (refs (get_or xs e [])) m) z (omega arith) (let d : Builder = fold_refs (refs (get_or xs e [])) (step o M still (λ x m. m)) m in let a = length-append d.made (carried o M d (get_or xs e []) ∷ []) in omega arith))
        (λ z. fills_none (suc e) m)

    peek_fills : (e : ℕ) (m : Builder) → e < k → length m.memo ≡ k → Fills (suc e) m (peek o M still xs e m)
    unfolding peek
    peek_fills e m h l = go (standing xs e)
      where
        go : (b : Bool) → Fills (suc e) m (elim b [ true ↦ need o M still xs e m | false ↦ m ])
        go true = need_fills e m h l
        go false = fills_none (suc e) m

    glance_fills : (e : ℕ) (m : Builder) → e < k → length m.memo ≡ k → Fills (suc e) m (glance o M still xs e m)
    unfolding glance
    glance_fills e m h l = once_is (Fills (suc e) m) (get_or m.memo e 0) _ m
        (λ z. fills_more e (suc e) (omega arith) (each_fills still e (peek o M still xs) (λ x d g q. fills_more (suc x) e g (peek_fills x d (omega arith) q)) (refs (get_or xs e [])) m (fits e h) l))
        (λ z. fills_none (suc e) m)

    join_fills : (n e : ℕ) (m : Builder) → e < k → length m.memo ≡ k → Fills (suc e) m (import_e o M still xs (intern_expr o M still xs) n e m)
    unfolding import_e intern_expr
    join_fills zero e m h l = fills_none (suc e) m
    join_fills (suc n) e m h l = once_is (Fills (suc e) m) (get_or m.memo e 0) _ m
        (λ z. fills_one e _ m _ _ _ (each_fills still e (import_e o M still xs (intern_expr o M still xs) n) (λ x d g q. fills_more (suc x) e g (join_fills n x d (omega arith) q)) (refs (get_or xs e [])) m (fits e h) l) z (omega arith) (merged-more _ _))
        (λ z. fills_none (suc e) m)

    need-all : Imports k (need o M still xs)
    need-all e m h l = fills_more (suc e) k h (need_fills e m h l)

    glance-all : Imports k (glance o M still xs)
    glance-all e m h l = fills_more (suc e) k h (glance_fills e m h l)

    unique_all : Imports k (import_initialiser o M still xs)
    unfolding import_initialiser
    unique_all e m h l = fills_more (suc e) k h (join_fills (length xs) e m h l)

  -- ---- the passes
  range_low : (n a : ℕ) → (0 < n → a + n ≤ k) → Lows k (up_from n a)
  unfolding up_from
  range_low zero a h = tt
  range_low (suc n) a h = let q = h (omega arith) in (omega arith, range_low n (suc a) (λ z. omega arith))

  -- cells whose numbers are the function's, in Emits and compares too
  unfoldable Sound : Cells → Type 0
  Sound [] = Unit {0}
  Sound (c ∷ cs) = All (FitN words k) (ref_of (target (class c)) (word c) []) × (class c ≡ FROM → first_word cs ≤ k) × Lows k (compares_of cs) × Sound cs

  module _ (follow : ℕ → Derived → Derived) (p q : ℕ → Builder → Builder) (P : Imports k p) (Q : Imports k q) where
    arrive_fills : (t : Target) (w : ℕ) (m : Builder) → All (FitN words k) (ref_of t w []) → length m.memo ≡ k → Fills k m (arrive o M follow p q t w m)
    unfolding arrive ref_of
    arrive_fills copied w m a l = fills_none k m
    arrive_fills start w m a l = fills_none k m
    arrive_fills upto w m a l = fills_none k m
    arrive_fills (ref s) w m a l = step_fills follow k p P s w m a.0 l
    arrive_fills (opt s) zero m a l = fills_none k m
    arrive_fills (opt s) (suc n) m a l = step_fills follow k p P s n m a.0 l

    both_fills : (a b : ℕ) (m : Builder) → b ≤ k → length m.memo ≡ k → Fills k m (both o M follow p q a b m)
    unfolding both first in_range
    both_fills a b m h l =
        let r : Lows k (up_from (b - a) a) = range_low (b - a) a (λ z. omega arith) in
        let f = all_fills follow k q Q (up_from (b - a) a) m r l in
        fills_then k f (all_fills follow k p P (up_from (b - a) a) _ r (f.long ∙ l))

    early_fills : (w : ℕ) (cs : Cells) (m : Builder) → Lows k (compares_of cs) → length m.memo ≡ k → Fills k m (early o M follow p q w cs m)
    unfolding early
    early_fills w cs m a l = go (atomic_kind w)
      where
        go : (b : Bool) → Fills k m (elim b [ true ↦ each_e (compares_of cs) p m | false ↦ m ])
        go true = all_fills follow k p P (compares_of cs) m a l
        go false = fills_none k m

    passed_fills : (c : Cell) (cs : Cells) (m : Builder) → Sound (c ∷ cs) → length m.memo ≡ k → Fills k m (passed o M follow p q c cs m)
    unfolding passed Sound
    passed_fills c cs m a l = go (eqb (class c) FROM) (eqb (class c) STMT_KIND) refl
      where
        go : (x y : Bool) → eqb (class c) FROM ≡ x → Fills k m (elim x [ true ↦ both o M follow p q (word c) (first_word cs) m | false ↦ elim y [ true ↦ early o M follow p q (word c) cs m | false ↦ arrive o M follow p q (target (class c)) (word c) m ] ])
        go true y e = both_fills (word c) (first_word cs) m (a.1 (eqb-true (class c) FROM e)) l
        go false true e = early_fills (word c) cs m a.2 l
        go false false e = arrive_fills (target (class c)) (word c) m a.0 l

    after_fills : (cs : Cells) (m : Builder) → Sound cs → length m.memo ≡ k → Fills k m (after o M follow p q cs m)
    unfolding after Sound
    after_fills [] m a l = fills_none k m
    after_fills (c ∷ cs) m a l = let f = passed_fills c cs m a l in fills_then k f (after_fills cs (passed o M follow p q c cs m) a.3 (f.long ∙ l))

-- ---- the words of the source
sound_words : (words tags : List ℕ) (o : ℕ) (M : Module) (k d i end : ℕ) → i + d ≡ end → Legible words tags k i end → ((j : ℕ) → i ≤ j → j < end → get_or tags j 0 ≡ FROM → (suc j < end) × (get_or words (suc j) 0 ≤ k)) → Sound words o M k (between tags words i end)
unfolding Sound
sound_words words tags o M k zero i end q L h = rw (between_none tags words i end (omega arith)) tt
sound_words words tags o M k (suc d) i end q L h =
    let st = L.stretch in
    let g : i < end = omega arith in
    let N = legible_next L g in
    rw (between_next tags words i end g st.in_tags st.in_words)
    (legible_here L g, (λ e. let r = h i (le_refl _) g e in rw (← first_some tags words i end (let z = r.0 in omega arith) st.in_tags st.in_words, add-one i) r.1), compares_lows words k (between tags words (suc i) end) N.fits, sound_words words tags o M k d (suc i) end (omega arith) N (λ j b l e. h j (omega arith) l e))

-- LAW
module _ {words tags : List ℕ} {n s end : ℕ} {F : Function} (p : Part words tags n s end F) {ea : ℕ} {places : List ℕ} {k named body : ℕ} (x : Indexed words tags s end ea places k named body) (o : ℕ) (follow : ℕ → Derived → Derived) (st : Derived) where
  abbrev M : Module
  M = mod_of words n

  fits : (e : ℕ) → e < k → All (FitN words e) (refs (get_or F.exprs e []))
  fits e h = expr_fits p e (let m = k_many p x in omega arith)

  front-sound : Sound words o M k (front F)
  front-sound =
      let L = front_legible p x in
      let r = L.stretch.rising in
      rw (front_is p x) (sound_words words tags o M k (ea - s) s ea (omega arith) L (λ j b l e. absurd (((declares p x).plain j b l).0 e)))

  body-sound : Sound words o M k (flat_block F.body)
  body-sound =
      let L = body_legible p x in
      let r = L.stretch.rising in
      rw (body_is p x) (sound_words words tags o M k (end - body) body end (omega arith) L (ranges p x))

  begins : length (begin F st).memo ≡ k
  unfolding begin
  begins = length-replicate {A = ℕ} (length F.exprs) 0 ∙ sym (k_many p x)

  declared_fills : Fills k (begin F st) (declared_s o M follow F st)
  unfolding declared_s
  declared_fills = after_fills words o M k still (import_initialiser o M still F.exprs) (import_initialiser o M still F.exprs) (unique_all words o M k F.exprs fits) (unique_all words o M k F.exprs fits) (front F) (begin F st) front-sound begins

  walked_fills : Fills k (declared_s o M follow F st) (walked_s o M follow F st)
  unfolding walked_s
  walked_fills = after_fills words o M k follow (need o M still F.exprs) (glance o M still F.exprs) (need-all words o M k F.exprs fits) (glance-all words o M k F.exprs fits) (flat_block F.body) (declared_s o M follow F st) body-sound (declared_fills.long ∙ begins)

  pub made_few : length (walked_s o M follow F st).made ≤ k
  unfolding begin
  made_few =
      let a = fills_then k declared_fills walked_fills in
      let b = a.few in
      let c = filled_low (walked_s o M follow F st).memo in
      let d = filled_none (length F.exprs) in
      let e = a.long ∙ begins in
      omega arith
