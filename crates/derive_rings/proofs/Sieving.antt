-- Those of a set of which a test holds, mark by mark: of the marks below i those are left of which it holds.
use mathlib.Core.Path.{◌≡◌, sym, ap, ◌∙◌}
use mathlib.Core.Bool.{Bool, true, false, cond, ◌&&◌}
use mathlib.Core.Logic.{◌⊎◌, inl, inr}
use mathlib.Core.List.{List, []}
use Prim.Native.Nat.{ℕ, ◌+◌, ◌≤◌, ◌<◌}
use native.Mathlib.Omega.{arith}
use lib.Dec.{eqb, ltb}
use lib.ListN.{length}
use borrow.Author.Tests.{ltb-false, le-ltb}
use Rattle.theory_lists.specs.Booleans.{either}
use Rattle.model.specs.Calls.{numbers, keep}
use Rattle.order_ranks.specs.Marks.{holds, members, PutMark, Below}
use Rattle.theory_order.specs.Lists.{keep_ext, keep-keep, numbers_in}
use Rattle.order_ranks.proofs.Turn.{more_same, more_off}

module _ (u : ℕ → Bool) (n : ℕ) (began : List ℕ) where
  pub record Sieve (set : List ℕ) (i : ℕ) : Type 0 where
    pub within : i ≤ n
    pub long : length set ≡ 4
    pub is : (j : ℕ) → j < 256 → holds set j ≡ cond (ltb j i) (holds began j && u j) (holds began j)

  pub begin : length began ≡ 4 → Sieve began 0
  begin l = record { within = omega arith; long = l; is = λ j h. sym (ap (λ (b : Bool). cond b (holds began j && u j) (holds began j)) (le-ltb j 0 (omega arith))) }

  module _ (small : n ≤ 256) (low : Below n began) (set : List ℕ) (i : ℕ) (s : Sieve set i) where
    module _ (h : i < n) where
      pub there : holds began i ≡ true → holds set i ≡ true
      there w = s.is i (omega arith) ∙ ap (λ (b : Bool). cond b (holds began i && u i) (holds began i)) (le-ltb i i (omega arith)) ∙ w

      -- the three ways through the loop
      pub drops : holds began i ≡ true → u i ≡ false → (set' : List ℕ) → PutMark false set i set' → Sieve set' (i + 1)
      drops w f set' m =
          record {
            within = omega arith;
            long = m.long ∙ s.long;
            is = λ j l. m.is j l ∙ ap (λ (b : Bool). cond (eqb j i) false b) (s.is j l) ∙ more_off [] 0 [] (λ x. holds began x && u x) (holds began) i j (rw (w, f));
          }

      pub stays : holds began i ≡ true → u i ≡ true → Sieve set (i + 1)
      stays w f = record { within = omega arith; long = s.long; is = λ j l. s.is j l ∙ more_same [] 0 [] (λ x. holds began x && u x) (holds began) i j (rw (w, f)) }

      pub passes : holds began i ≡ false → Sieve set (i + 1)
      passes w = record { within = omega arith; long = s.long; is = λ j l. s.is j l ∙ more_same [] 0 [] (λ x. holds began x && u x) (holds began) i j (rw w) }

    module _ (h : n ≤ i) where
      same : (j : ℕ) → j < 256 → holds set j ≡ (holds began j && u j)
      unfolding Below
      same j l = s.is j l ∙ go (either (ltb j i))
        where
          go : (ltb j i ≡ true) ⊎ (ltb j i ≡ false) → cond (ltb j i) (holds began j && u j) (holds began j) ≡ (holds began j && u j)
          go (inl e) = rw e
          go (inr e) =
              let g = ltb-false j i e in
              let off : holds began j ≡ false = low j (omega arith) l in
              rw (e, off)

      pub sieved : members set ≡ keep (members began) u
      unfolding members
      sieved =
          keep_ext (holds set) (λ j. holds began j && u j) (numbers 256 0) (λ j g. let r = numbers_in 256 0 g in same j (omega arith))
          ∙ sym (keep-keep (holds began) u (numbers 256 0))

      pub still_low : Below n set
      unfolding Below
      still_low j g l = same j l ∙ rw (low j g l)
