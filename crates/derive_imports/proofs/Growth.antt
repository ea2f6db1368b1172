-- Importing, and putting special types, only adds to a state, so that one that is too large stays too large.
use mathlib.Core.Path.{◌≡◌, refl}
use mathlib.Core.Bool.{Bool, true, false}
use mathlib.Core.List.{List, [], ◌∷◌}
use Prim.Native.Nat.{ℕ, zero, suc, ◌+◌, ◌≤◌}
use native.Mathlib.Nat.{le_refl, le_trans}
use native.Mathlib.Omega.{arith}
use lib.ListN.{length, length-append}
use Rattle.model.specs.Outcome.{Cells}
use Rattle.model.specs.Tables.{Tab, exprs, at, upd, Tables, rec_at, count, map_at}
use Rattle.model.specs.References.{Place, table, own, function, Node, refs, fold_refs, alike, interned}
use Rattle.model.specs.Imports.{Derived, unless_mapped, intern, commit, step_t, import_f, levels, import_t}
use Rattle.model.specs.Special.{force, with_special, put_ray, put_pair}
use Rattle.theory_records.specs.TableLaws.{Tab_dec, at_same, at_other}
use Rattle.derive_state.specs.Held.{size_r, words_of, Over, long, many, crowd, keys}
use Rattle.derive_state.proofs.State.{size_upd}

pub record Grow (s s' : Derived) : Type 0 where
  pub size : words_of s ≤ words_of s'
  pub rows : (t : Tab) → count s.recs t ≤ count s'.recs t
  pub functions : length s.functions ≤ length s'.functions
  pub pairs : length s.special.pairs ≤ length s'.special.pairs

pub stay : (s : Derived) → Grow s s
stay s = record { size = le_refl _; rows = λ t. le_refl _; functions = le_refl _; pairs = le_refl _ }

pub then : {a b c : Derived} → Grow a b → Grow b c → Grow a c
then p q = record { size = le_trans p.size q.size; rows = λ t. le_trans (p.rows t) (q.rows t); functions = le_trans p.functions q.functions; pairs = le_trans p.pairs q.pairs }

pub over_grow : (rest : ℕ) {a b : Derived} → Grow a b → Over rest a → Over rest b
over_grow rest g (long h) = long (omega (arith, g.size))
over_grow rest g (many t h) = many t (le_trans h (g.rows t))
over_grow rest g (crowd h) = crowd (le_trans h g.functions)
over_grow rest g (keys h) = keys (le_trans h g.pairs)

merged_grows : (ds : List Cells) (c : Cells) → (length ds ≤ length (interned ds c)) × (size_r ds ≤ size_r (interned ds c))
unfolding interned size_r
merged_grows [] c = (omega arith, omega arith)
merged_grows (d ∷ ds) c = go (alike d c) (merged_grows ds c)
  where
    go : (b : Bool) → (length ds ≤ length (interned ds c)) × (size_r ds ≤ size_r (interned ds c))
        → (suc (length ds) ≤ length {A = Cells} (elim b [ true ↦ d ∷ ds | false ↦ d ∷ interned ds c ])) × (suc (length d) + size_r ds ≤ size_r (elim b [ true ↦ d ∷ ds | false ↦ d ∷ interned ds c ]))
    go true h = (le_refl _, le_refl _)
    go false h = let x = h.0 in let y = h.1 in (omega arith, omega arith)

pub grow_settle : (t : Tab) (n : ℕ) (c : Cells) (s : Derived) → Grow s (intern t n c s)
unfolding intern count words_of
grow_settle t n c s = record {
  size = let a = size_upd t (interned (at t s.recs) c) s.recs in let b = (merged_grows (at t s.recs) c).1 in omega arith;
  rows = λ u. go u (Tab_dec t u);
  functions = le_refl _;
  pairs = le_refl _;
}
  where
    go : (u : Tab) → Dec (t ≡ u) → length (at u s.recs) ≤ length (at u (upd t (interned (at t s.recs) c) s.recs))
    go u (yes p) = rw (← p, at_same t (interned (at t s.recs) c) s.recs) (merged_grows (at t s.recs) c).0
    go u (no ne) = rw (at_other t u (interned (at t s.recs) c) s.recs ne) (le_refl _)

grow_step : (imp : Tab → ℕ → Derived → Derived) → ((t : Tab) (n : ℕ) (s : Derived) → Grow s (imp t n s)) → (p : Place) (n : ℕ) (s : Derived) → Grow s (step_t imp p n s)
unfolding step_t
grow_step imp G (table t) n s = G t n s
grow_step imp G own n s = G exprs n s
grow_step imp G function n s = stay s

pub grow_each : (imp : Tab → ℕ → Derived → Derived) → ((t : Tab) (n : ℕ) (s : Derived) → Grow s (imp t n s)) → (js : List Node) (s : Derived) → Grow s (fold_refs js (step_t imp) s)
unfolding fold_refs
grow_each imp G [] s = stay s
grow_each imp G (j ∷ js) s = then (grow_step imp G j.place j.num s) (grow_each imp G js (step_t imp j.place j.num s))

grow_once : (v : ℕ) (k : ℕ → Derived) (s : Derived) → Grow s (k 0) → Grow s (unless_mapped v k s)
unfolding unless_mapped
grow_once zero k s g = g
grow_once (suc v) k s g = stay s

grow_F : (f o : ℕ) (T : Tables) (t : Tab) (n : ℕ) (s : Derived) → Grow s (import_f f o T t n s)
unfolding import_f commit
grow_F zero o T t n s = stay s
grow_F (suc f) o T t n s =
    grow_once (map_at s.maps t n) _ s
    (then (grow_each (import_f f o T) (grow_F f o T) (refs (rec_at T t n)) s) (grow_settle t n _ _))

pub grow_T : (o : ℕ) (T : Tables) (t : Tab) (n : ℕ) (s : Derived) → Grow s (import_t o T t n s)
unfolding import_t
grow_T o T t n s = grow_F (levels T) o T t n s

-- ---- other special types
pub grow_special : (s r : Derived) → r.recs ≡ s.recs → r.functions ≡ s.functions → length s.special.pairs ≤ length r.special.pairs → Grow s r
unfolding words_of
grow_special s r p q l = record { size = rw (p, q) (omega arith); rows = λ t. rw p (le_refl _); functions = rw q (le_refl _); pairs = l }

pub grow_ray : (j n : ℕ) (s : Derived) → Grow s (put_ray j n s)
unfolding put_ray with_special
grow_ray j n s = grow_special s (put_ray j n s) refl refl (le_refl _)

pub grow_pair : (key n : ℕ) (s : Derived) → Grow s (put_pair key n s)
unfolding put_pair with_special
grow_pair key n s = grow_special s (put_pair key n s) refl refl (rw length-append (omega arith))

pub grow_force : (n v : ℕ) (s : Derived) → Grow s (force n v s)
unfolding force
grow_force n v s = grow_special s (force n v s) refl refl (le_refl _)
