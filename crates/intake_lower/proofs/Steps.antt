-- The steps of a pass: one lemma for each return and each turn of the loop.
use mathlib.Core.Path.{◌≡◌, refl, sym, ap, ◌∙◌}
use mathlib.Core.Bool.{Bool, true, false, ◌&&◌}
use mathlib.Core.List.{List}
use Prim.Native.Nat.{ℕ, suc, ◌+◌, ◌^◌, ◌≤◌, ◌<◌}
use native.Mathlib.Numerals.{add-one}
use native.Mathlib.Omega.{arith}
use lib.Dec.{eqb}
use lib.ListN.{get_or}
use Rattle.model.specs.Table.{NAMED, TYPE_KIND, EXPR_KIND}
use Rattle.model.specs.Between.{between, Stretch}
use Rattle.theory_image.specs.Betweens.{between_none, between_next}
use Rattle.intake_lower.specs.Passes.{pass, type_next, expr_next, Does, Passed}

-- ---- the loop
-- what is left from word i on, with n records begun, is the whole
pub record Left (counts : ℕ → ℕ → ℕ → Type 0) (tests : ℕ → ℕ → ℕ → Bool → Type 0) (words tags : List ℕ) (at end n i : ℕ) : Type 0 where
  pub within : i ≤ end
  pub few : n ≤ i
  pub same : (next : ℕ → ℕ → ℕ) (ok : ℕ → ℕ → ℕ → Bool) → Does counts tests next ok → pass (between tags words i end) next ok n ≡ pass (between tags words at end) next ok 0

module _ (counts : ℕ → ℕ → ℕ → Type 0) (tests : ℕ → ℕ → ℕ → Bool → Type 0) (words tags : List ℕ) (at end : ℕ) (s : Stretch words tags at end) where
  pub pass_begin : Left counts tests words tags at end 0 at
  pass_begin = record { within = s.rising; few = omega arith; same = λ next ok d. refl }

  module _ (n i : ℕ) (l : Left counts tests words tags at end n i) where
    pub pass_done : end ≤ i → Passed counts tests true words tags at end
    unfolding pass
    pass_done h = record { same = λ next ok d. rw (between_none tags words i end h) at (l.same next ok d) }

    module _ (h : i < end) where
      pub pass_room : n < 16384
      pass_room = omega (arith, l.few, s.small)

      module _ (few : get_or tags i 0 < 256) (low : get_or words i 0 < 2 ^ 32) (r : ℕ) (count : counts (get_or tags i 0) n r) (grows : r ≤ n + 1) (b : Bool) (test : tests (get_or tags i 0) (get_or words i 0) r b) where
        opened : (next : ℕ → ℕ → ℕ) (ok : ℕ → ℕ → ℕ → Bool) → Does counts tests next ok → (v : Bool) → b ≡ v → v && pass (between tags words (suc i) end) next ok r ≡ pass (between tags words at end) next ok 0
        unfolding pass
        opened next ok d v e =
            let is : r ≡ next (get_or tags i 0) n = d.counted (get_or tags i 0) n r few pass_room count in
            let tested : b ≡ ok (get_or tags i 0) (get_or words i 0) r = d.tested (get_or tags i 0) (get_or words i 0) r b few low (omega (arith, grows, pass_room)) test in
            rw (← e, tested, is)
            (sym (ap (λ cs. pass cs next ok n) (between_next tags words i end h s.in_tags s.in_words)) ∙ l.same next ok d)

        pub pass_fails : b ≡ false → Passed counts tests false words tags at end
        pass_fails e = record { same = λ next ok d. opened next ok d false e }

        pub pass_next : b ≡ true → Left counts tests words tags at end r (i + 1)
        pass_next e = rw add-one (record { within = h; few = omega (arith, l.few, grows); same = λ next ok d. opened next ok d true e })

pub type_grows : (s n : ℕ) → type_next s n ≤ suc n
unfolding type_next
type_grows s n = go (eqb s TYPE_KIND)
  where
    go : (b : Bool) → elim b [ true ↦ suc n | false ↦ n ] ≤ suc n
    go true = omega arith
    go false = omega arith

pub expr_grows : (s n : ℕ) → expr_next s n ≤ suc n
unfolding expr_next
expr_grows s n = go (eqb s EXPR_KIND) (eqb s NAMED)
  where
    go : (a b : Bool) → elim a [ true ↦ suc n | false ↦ elim b [ true ↦ 0 | false ↦ n ] ] ≤ suc n
    go true b = omega arith
    go false true = omega arith
    go false false = omega arith
