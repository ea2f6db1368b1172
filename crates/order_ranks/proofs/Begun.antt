-- The first n marks, one after the other: the set has those below i.
use mathlib.Core.Path.{◌≡◌, refl, sym, ap, ◌∙◌}
use mathlib.Core.Bool.{Bool, true, false, cond}
use mathlib.Core.Logic.{⊎_elim}
use mathlib.Core.List.{List}
use Prim.Native.Nat.{ℕ, ◌+◌, ◌≤◌, ◌<◌}
use native.Mathlib.Nat.{le_antisymm}
use native.Mathlib.Omega.{arith}
use lib.Dec.{eqb, ltb}
use lib.ListN.{replicate}
use borrow.Author.Tests.{eqb-true, eqb-false, ltb-true, ltb-false, lt-ltb, le-ltb}
use Rattle.theory_lists.specs.Booleans.{either}
use Rattle.order_ranks.specs.Marks.{PutMark, Firsts}
use Rattle.order_ranks.proofs.Marks.{zeros_hold_none}

pub record Begun (n : ℕ) (l : List ℕ) (i : ℕ) : Type 0 where
  pub within : i ≤ n
  pub firsts : Firsts i l

pub begin : (n : ℕ) → Begun n (replicate 4 0) 0
begin n = record { within = omega arith; firsts = record { long = refl; is = λ k h. zeros_hold_none 4 k ∙ sym (le-ltb k 0 (omega arith)) } }

-- below i, or i itself: below i + 1
pub one_further : (k i : ℕ) → cond (eqb k i) true (ltb k i) ≡ ltb k (i + 1)
one_further k i =
    ⊎_elim
    (λ (t : eqb k i ≡ true).
    let e = eqb-true k i t in
    rw t (sym (lt-ltb k (i + 1) (omega arith))))
    (λ (f : eqb k i ≡ false).
    rw f
    (⊎_elim
    (λ (l : ltb k i ≡ true). l ∙ sym (lt-ltb k (i + 1) (omega (arith, ltb-true k i l))))
    (λ (l : ltb k i ≡ false).
    let g = ltb-false k i l in
    let ne : k ≡ i → ⊥ = eqb-false k i f in
    l ∙ sym (le-ltb k (i + 1) (omega arith)))
    (either (ltb k i))))
    (either (eqb k i))

pub next : (n : ℕ) (l l' : List ℕ) (i : ℕ) → Begun n l i → i < n → PutMark true l i l' → Begun n l' (i + 1)
next n l l' i b h s =
    record {
      within = omega arith;
      firsts =
          record {
            long = s.long ∙ b.firsts.long;
            is = λ k g. s.is k g ∙ ap (λ (x : Bool). cond (eqb k i) true x) (b.firsts.is k g) ∙ one_further k i;
          };
    }

pub finish : (n : ℕ) (l : List ℕ) (i : ℕ) → Begun n l i → n ≤ i → Firsts n l
finish n l i b h = rw (le_antisymm h b.within) b.firsts
