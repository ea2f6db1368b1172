-- What an atomic statement compares, as an option: its word is 0, or the number of an expression plus 1.
use mathlib.Core.Path.{◌≡◌, refl, sym, ap, ◌∙◌}
use mathlib.Core.Bool.{Bool, true, false}
use mathlib.Core.List.{List, []}
use Prim.Native.Nat.{ℕ, zero, suc, ◌+◌, ◌-◌, ◌≤◌, ◌<◌}
use native.Mathlib.Omega.{arith}
use lib.Dec.{eqb}
use lib.ListN.{get_or}
use borrow.Author.Tests.{eqb-true, eqb-false}
use Rattle.std.specs.Prelude.{Option, Some, None, MatchOption, cond}
use Rattle.std.specs.Option.{SomeIff, option_map}
use Rattle.std.specs.List.{find, range_with_len}
use Rattle.model.specs.Table.{ATOMIC}
use Rattle.model.specs.Between.{between, Stretch}
use Rattle.model.specs.Operands.{optional}
use Rattle.model.specs.Bodies.{compares_of}
use Rattle.function_words.proofs.Words.{compared_as, Comparing, compare-begin, compare-next, compare_done}
use Rattle.function_passes.specs.Compared.{compared}

pub compared_word : (o : Option ℕ) (w : ℕ) → SomeIff o (1 ≤ w) (w - 1) → compared o ≡ optional w []
unfolding compared optional
compared_word None zero h = refl
compared_word None (suc w) h = absurd (h (omega arith))
compared_word (Some x) zero h = absurd (omega (arith, h.0))
compared_word (Some x) (suc w) h = let q : x ≡ w = omega (arith, h.1) in rw q

-- the first code of an atomic function, as the library's search finds it
module _ (words tags : List ℕ) (i end : ℕ) (S : Stretch words tags i end) where
  abbrev pub is_atomic : ℕ → Bool
  is_atomic j = eqb (get_or tags j 0) ATOMIC

  abbrev pub IsAtomic : Option ℕ → Type 0
  IsAtomic r = MatchOption r (optional 0 [] ≡ compares_of (between tags words i end)) (λ k. (k < end) × (get_or tags k 0 ≡ ATOMIC) × Comparing words tags i end k)

  sought : (d k : ℕ) → end ≡ k + d → Comparing words tags i end k → IsAtomic (find is_atomic (range_with_len k d))
  sought zero k e C = compare_done C (omega arith)
  sought (suc d) k e C = go (is_atomic k) refl (λ U. sought d (k + 1) (omega arith) U)
    where
      go : (b : Bool) → is_atomic k ≡ b → (Comparing words tags i end (k + 1) → IsAtomic (find is_atomic (range_with_len (k + 1) d))) → IsAtomic (cond b (Some k) (find is_atomic (range_with_len (k + 1) d)))
      go true q rest = (omega arith, eqb-true (get_or tags k 0) ATOMIC q, C)
      go false q rest = rest (compare-next C (omega arith) (eqb-false (get_or tags k 0) ATOMIC q))

  pub first_atomic : (r : Option ℕ) → option_map (λ x. x) r ≡ find is_atomic (range_with_len i (end - i)) → IsAtomic r
  first_atomic None e = rw (← e) at (sought (end - i) i (let h = S.rising in omega arith) (compare-begin S))
  first_atomic (Some x) e = rw (← e) at (sought (end - i) i (let h = S.rising in omega arith) (compare-begin S))

-- the words after one
module _ (tags words : List ℕ) (i end : ℕ) (o : Option ℕ) (is : compared o ≡ compares_of (between tags words (i + 1) end)) where
  pub compared_none : o ≡ None → optional 0 [] ≡ compares_of (between tags words (suc i) end)
  unfolding compared optional
  compared_none q = compared_as tags words i end 0 (ap compared (sym q) ∙ is)

  pub compared_some : (x : ℕ) → o ≡ Some x → optional (suc x) [] ≡ compares_of (between tags words (suc i) end)
  unfolding compared optional
  compared_some x q = compared_as tags words i end (suc x) (ap compared (sym q) ∙ is)
