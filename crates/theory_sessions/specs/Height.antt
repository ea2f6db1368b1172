-- HEIGHTS: a function of a known name has the height 0, another one more than all that it calls. Where 22 is not met (`meets_ring` says false) each function that is to be imported has a height, and it is at most the number of functions whose names are unknown.
use Rattle.std.specs.Prelude.{◌≡◌, ◌⊎◌, false, eqb}
use Rattle.std.proofs.Math.Path.{refl, ap}
use Rattle.std.proofs.Common.{inl, not-suc-le-zero, arith}
use Rattle.std.proofs.Math.Logic.{inr, ⊎_elim}
use Rattle.std.proofs.Math.Bool.{true}
use mathlib.Core.List.{List, [], ◌∷◌}
use Prim.Native.Nat.{ℕ, zero, suc, ◌+◌, ◌<◌, ◌≤◌}
use Rattle.std.proofs.Math.ListN.{length}
use borrow.Author.Tests.{eqb-true, eqb-false, eq-eqb}
use Rattle.theory_lists.specs.Booleans.{never, either}
use Rattle.model.specs.Module.{Module}
use Rattle.model.specs.Carry.{Each, each_none, each_next, WellFormed}
use Rattle.model.specs.Numbers.{numbered}
use Rattle.model.specs.Calls.{Call, In, numbers, any, keep, free, held, Rounds, rounds}
use Rattle.model.specs.Callees.{callees, calls}
use Rattle.model.specs.Redirect.{function as function_at}
use Rattle.model.specs.Imports.{Derived}
use Rattle.model.specs.Bodies.{known}
use Rattle.model.specs.Session.{unknown, stuck, meets_ring}
use Rattle.theory_order.specs.Lists.{in_keep, any_in, any_off, in_numbers}
use Rattle.theory_order.specs.Rounds.{length-round, last-round, some_round}
use Rattle.theory_order.specs.Numbered.{numbered-known}
use Rattle.theory_bodies.specs.Lists.{All, all_map}
use Rattle.theory_finish.specs.Alone.{called}

-- function n has the height d at most, where the names of s are known
unfoldable pub Low : ℕ → Module → Derived → ℕ → Type 0
Low zero m s n = 0 < known m s n
Low (suc d) m s n = (0 < known m s n) ⊎ ((n < length m.functions) × All (λ j. Low d m s j) (callees (function_at m n)))

pub low_known : (d : ℕ) (m : Module) (s : Derived) (n : ℕ) → 0 < known m s n → Low d m s n
unfolding Low
low_known zero m s n h = h
low_known (suc d) m s n h = inl h

pub low_more : (d e : ℕ) (m : Module) (s : Derived) (n : ℕ) → d ≤ e → Low d m s n → Low e m s n
unfolding Low
low_more zero e m s n l h = low_known e m s n h
low_more (suc d) zero m s n l h = absurd (not-suc-le-zero l)
low_more (suc d) (suc e) m s n l (inl h) = inl h
low_more (suc d) (suc e) m s n l (inr h) = inr (h.0, all_map (callees (function_at m n)) (λ j. low_more d e m s j (omega arith)) h.1)

-- where no less is known
pub low_on : (d : ℕ) (m : Module) (a s : Derived) → ((k : ℕ) → 0 < known m a k → 0 < known m s k) → (n : ℕ) → Low d m a n → Low d m s n
unfolding Low
low_on zero m a s f n h = f n h
low_on (suc d) m a s f n (inl h) = inl (f n h)
low_on (suc d) m a s f n (inr h) = inr (h.0, all_map (callees (function_at m n)) (λ j. low_on d m a s f j) h.1)

-- how many functions have names that are unknown
unfoldable pub unknowns : Module → Derived → ℕ
unknowns m s = length (keep (numbers (length m.functions) 0) (unknown m s))

not_any_in : (ws : List ℕ) (i : ℕ) → any ws (eqb i) ≡ false → In i ws → ⊥
not_any_in ws i e h = never (eqb i i) (eq-eqb i i refl) (any_off (eqb i) ws e i h)

module _ (m : Module) (well : WellFormed m) (three : numbered m ≡ true) (s : Derived) where
  abbrev N : ℕ
  N = length m.functions

  -- all that do not wait have the height d
  abbrev Placed : ℕ → List ℕ → Type 0
  Placed d ws = (i : ℕ) → i < N → (In i ws → ⊥) → Low d m s i

  all-called : (d : ℕ) (ws : List ℕ) (i : ℕ) → Placed d ws → any ws (calls m i) ≡ false → {js : List ℕ} → Each (Call N (calls m) i) js → All (λ j. Low d m s j) js
  all-called d ws i p e each_none = tt
  all-called d ws i p e (each_next {a = j} c cs) = (p j c.to (λ h. never (calls m i j) c.is (any_off (calls m i) ws e j h)), all-called d ws i p e cs)

  round-placed : (d : ℕ) (ws : List ℕ) → Placed d ws → Placed (suc d) (held (calls m) ws)
  unfolding held Low
  round-placed d ws p i l h = ⊎_elim (λ e. waits e) (λ e. low_more d (suc d) m s i (omega arith) (p i l (not_any_in ws i e))) (either (any ws (eqb i)))
    where
      waits : any ws (eqb i) ≡ true → Low (suc d) m s i
      waits e =
          let a = any_in (eqb i) ws e in
          let g : In i ws = rw (eqb-true i a.0 a.2) a.1 in
          ⊎_elim (λ c. absurd (h (in_keep (λ i. any ws (calls m i)) g c))) (λ c. inr (l, all-called d ws i p c (called m (numbered-known m well three) i l))) (either (any ws (calls m i)))

  rounds-placed : (f d : ℕ) (ws : List ℕ) → Placed d ws → (i : ℕ) → i < N → (In i (rounds (calls m) f ws).left → ⊥) → Low (d + length ws) m s i
  rounds-placed zero d ws p i l h = low_more d (d + length ws) m s i (omega arith) (p i l (unfold rounds in h))
  rounds-placed (suc f) d ws p i l h = go (free (calls m) ws) refl (rounds-placed f (suc d) (held (calls m) ws) (round-placed d ws p) i l)
    where
      go : (l : List ℕ) → free (calls m) ws ≡ l → ((In i (rounds (calls m) f (held (calls m) ws)).left → ⊥) → Low (suc d + length (held (calls m) ws)) m s i) → Low (d + length ws) m s i
      go [] e ih = low_more d (d + length ws) m s i (omega arith) (p i l (λ g. h (rw (ap (λ (r : Rounds). r.left) (last-round (calls m) (suc f) ws e)) g)))
      go (x ∷ xs) e ih =
          let k : length (free (calls m) ws) ≡ suc (length xs) = ap length e in
          let r = length-round (calls m) ws in
          low_more (suc d + length (held (calls m) ws)) (d + length ws) m s i (omega arith) (ih (λ g. h (rw (ap (λ (r : Rounds). r.left) (some_round (calls m) f ws (omega arith))) g)))

  start_placed : Placed 0 (keep (numbers N 0) (unknown m s))
  unfolding Low unknown
  start_placed i l h = ⊎_elim (λ e. absurd (h (in_keep (unknown m s) (in_numbers N 0 i (omega arith) (omega arith)) (unfold unknown in e)))) (λ e. (let n = eqb-false (known m s i) 0 e in omega arith)) (either (eqb (known m s i) 0))

  -- WHERE 22 IS NOT MET each of them has a height
  pub ringless : (is : List ℕ) → meets_ring is m s ≡ false → (i : ℕ) → In i is → i < N → Low (unknowns m s) m s i
  unfolding meets_ring stuck unknowns
  ringless is e i h l =
      let ws : List ℕ = keep (numbers N 0) (unknown m s) in
      low_more (0 + length ws) (length ws) m s i (omega arith) (rounds-placed N 0 ws start_placed i l (not_any_in _ i (any_off _ is e i h)))
