-- Without a ring of calls no import is refused with 22: whatever names are known, the rounds place every function.
use Rattle.std.specs.Prelude.{◌≡◌, Bool, true, false, ◌&&◌, not, eqb, ltb}
use Rattle.std.proofs.Math.Path.{refl, ap}
use Rattle.std.proofs.Common.{sym, ◌∙◌, eq-eqb, ltb-true, ltb-false}
use mathlib.Core.List.{List, [], ◌∷◌}
use Prim.Native.Nat.{ℕ, zero, suc, ◌≤◌, ◌<◌}
use native.Mathlib.Omega.{arith}
use Rattle.std.proofs.Math.ListN.{length}
use Rattle.theory_lists.specs.Lists.{length_none}
use Rattle.model.specs.Module.{Module}
use Rattle.model.specs.Calls.{Call, Ring, Reaches, on, leads, In, here, numbers, any, keep, free, held, Rounds, rounds, ordered, order}
use Rattle.model.specs.Callees.{calls, order_of}
use Rattle.model.specs.Imports.{Derived}
use Rattle.model.specs.Session.{unknown, stuck, meets_ring}
use Rattle.theory_order.specs.Lists.{in_nil, in_keep, any_in, length-numbers}
use Rattle.theory_order.specs.Rounds.{length-round, last-round, some_round}
use Rattle.theory_order.specs.Ring.{reaches}
use Rattle.theory_order.specs.Stages.{waiting, in_waiting, waiting_in, stays, gone, kept, free_is, held_is}
use Rattle.theory_order.specs.Theorems.{order_exactly, none_else}
use Rattle.theory_finish.specs.Firsts.{either}

and_no : {A : Type 0} (a b : Bool) → a ≡ true → (a && not b ≡ true → A) → (b ≡ true → A) → A
and_no true true e f g = g refl
and_no true false e f g = f refl
and_no false b e f g = let z : ◌≡◌ {A = ℕ} 0 1 = cc in absurd (omega arith)

module _ (n : ℕ) (c : ℕ → ℕ → Bool) (ringless : (i : ℕ) → Ring n c i → ⊥) where
  no_reach : {i : ℕ} → Reaches n c i → ⊥
  no_reach {i} (on g) = ringless i g
  no_reach (leads {j} d g) = ringless j g

  -- who waits and is not placed calls another that waits
  other : (p : ℕ → Bool) → free c (waiting n c p) ≡ [] → (i : ℕ) → i < n → p i ≡ true → (j : ℕ) × Call n c i j × (p j ≡ true)
  other p e i h t =
      and_no (p i) (stays n c p i) t (λ g. absurd (in_nil (rw (sym (free_is n c p) ∙ e) at (in_free g)))) λ g. called (any_in (c i) (waiting n c p) g)
    where
      in_free : gone n c p i ≡ true → In i (keep (numbers n 0) (gone n c p))
      in_free g = unfold waiting in in_waiting n c (gone n c p) i h g

      called : (j : ℕ) × In j (waiting n c p) × (c i j ≡ true) → (j : ℕ) × Call n c i j × (p j ≡ true)
      called a = let w = waiting_in n c p a.0 a.1 in (a.0, record { from = h; to = w.0; is = a.2 }, w.1)

  none_waits : (p : ℕ → Bool) → free c (waiting n c p) ≡ [] → waiting n c p ≡ []
  none_waits p e = go (waiting n c p) refl
    where
      go : (l : List ℕ) → waiting n c p ≡ l → l ≡ []
      go [] q = refl
      go (i ∷ is) q = let w = waiting_in n c p i (rw q here) in absurd (no_reach (reaches n c p (other p e) i w.0 w.1))

  -- THE ROUNDS leave none
  pub left_none : (f : ℕ) (p : ℕ → Bool) → length (waiting n c p) ≤ f → (rounds c f (waiting n c p)).left ≡ []
  left_none zero p h = unfold rounds in length_none (waiting n c p) (omega arith)
  left_none (suc f) p h = go (free c (waiting n c p)) refl (left_none f (kept n c p))
    where
      go : (l : List ℕ) → free c (waiting n c p) ≡ l → (length (waiting n c (kept n c p)) ≤ f → (rounds c f (waiting n c (kept n c p))).left ≡ []) → (rounds c (suc f) (waiting n c p)).left ≡ []
      go [] e i = ap (λ (r : Rounds). r.left) (last-round c (suc f) (waiting n c p) e) ∙ none_waits p e
      go (x ∷ xs) e i =
          let k : length (free c (waiting n c p)) ≡ suc (length xs) = ap length e in
          let r = length-round c (waiting n c p) in
          let q = held_is n c p in
          let z : length (held c (waiting n c p)) ≤ f = omega arith in
          ap (λ (r : Rounds). r.left) (some_round c f (waiting n c p) (omega arith)) ∙ rw q (i (rw q at z))

pub keep-short : (l : List ℕ) (p : ℕ → Bool) → length (keep l p) ≤ length l
unfolding keep
keep-short [] p = omega arith
keep-short (i ∷ l) p = go (p i) refl (keep-short l p)
  where
    go : (b : Bool) → p i ≡ b → length (keep l p) ≤ length l → length (keep (i ∷ l) p) ≤ suc (length l)
    go true e h = rw (keep, e) (omega arith)
    go false e h = rw (keep, e) (omega arith)

any_none : (is : List ℕ) → any is (λ i. false) ≡ false
unfolding any
any_none [] = refl
any_none (i ∷ is) = any_none is

module _ (m : Module) (os : List ℕ) (e : order_of m ≡ ordered os) where
  ordered_as : order (length m.functions) (calls m) ≡ ordered os
  ordered_as = unfold order_of in e

  -- NO FUNCTION is stuck, whatever is known
  pub none_stuck : (s : Derived) → stuck m s ≡ []
  none_stuck s = unfold stuck waiting in left_none (length m.functions) (calls m) ((order_exactly (length m.functions) (calls m)).0 (os, ordered_as)) (length m.functions) (unknown m s) few
    where
      few : length (waiting (length m.functions) (calls m) (unknown m s)) ≤ length m.functions
      few = unfold waiting in omega (arith, keep-short (numbers (length m.functions) 0) (unknown m s), length-numbers (length m.functions) 0)

  -- 22 is not met
  pub none_ringing : (is : List ℕ) (s : Derived) → meets_ring is m s ≡ false
  unfolding meets_ring any
  none_ringing is s = rw (none_stuck s) (any_none is)

  -- 13 is not met: what is in the order is a function
  pub low : (i : ℕ) → In i os → i < length m.functions
  low i h =
      let n = length m.functions in
      either (ltb i n) (ltb-true i n) λ f. absurd (empty (keep os (eqb i)) (in_keep (eqb i) h (eq-eqb i i refl)) (none_else n (calls m) os ordered_as i (ltb-false i n f)))
    where
      empty : (l : List ℕ) → In i l → length l ≡ 0 → ⊥
      empty [] j z = in_nil j
      empty (x ∷ l) j z = omega arith
