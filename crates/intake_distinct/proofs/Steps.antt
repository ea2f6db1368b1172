-- The steps of the passes: one lemma for each return, each turn of a loop and each call.
use mathlib.Core.Path.{◌≡◌, refl, sym, ap, ap₂, ◌∙◌}
use mathlib.Core.Bool.{Bool, true, false}
use mathlib.Core.List.{List, [], ◌∷◌}
use Prim.Native.Nat.{ℕ, suc, ◌+◌, ◌-◌, ◌*◌, ◌≤◌, ◌<◌}
use native.Mathlib.Numerals.{add-one}
use native.Mathlib.Omega.{arith}
use lib.ListN.{get_or, take, drop}
use lib.Seq.{slice}
use borrow.Author.Tests.{eq-eqb, ne_eqb}
use Rattle.model.specs.Module.{count_at, offset_at}
use Rattle.model.specs.View.{record_at, record_end}
use Rattle.model.specs.Names.{same}
use Rattle.theory_image.specs.Sections.{slice-take}
use Rattle.theory_image.specs.Same.{same_true}
use Rattle.intake_distinct.specs.Listed.{listing, place_of, number_at, Placed, name_at, Spelled}

-- names that are not the same
pub same-other : (xs ys : List ℕ) → (xs ≡ ys → ⊥) → same xs ys ≡ false
same-other xs ys d = go (same xs ys) refl
  where
    go : (b : Bool) → same xs ys ≡ b → b ≡ false
    go true t = absurd (d (same_true xs ys t))
    go false t = refl

-- ---- places
module _ (ws : List ℕ) (k j r : ℕ) (p : Placed ws k) (h : j < count_at k ws) where
  pub pair-placed : k ≡ 8 → r ≡ offset_at 8 ws + 3 + 2 * j → (r ≡ place_of ws k j) × (r < 16384)
  unfolding place_of
  pair-placed e is = let q : r ≡ place_of ws k j = rw (place_of, eq-eqb k 8 e) is in (q, omega (arith, p.place j h))

  pub record_placed : (k ≡ 8 → ⊥) → r ≡ record_at k j ws → (r ≡ place_of ws k j) × (r < 16384)
  unfolding place_of
  record_placed other is = let q : r ≡ place_of ws k j = rw (place_of, ne_eqb k 8 other) is in (q, omega (arith, p.place j h))

pub number_is : (ws : List ℕ) (k j a r : ℕ) → a ≡ place_of ws k j → r ≡ get_or ws a 0 → r ≡ number_at ws k j
unfolding number_at
number_is ws k j a r p e = e ∙ ap (λ x. get_or ws x 0) p

-- ---- loops over numbers and names: f of what is left is the whole
pub record Over {A : Type 0} (f : List A → Bool) (at : ℕ → A) (whole : Bool) (n i : ℕ) : Type 0 where
  pub within : i ≤ n
  pub same : f (listing at (n - i) i) ≡ whole

module _ {A : Type 0} (f : List A → Bool) (at : ℕ → A) (whole : Bool) (n : ℕ) where
  pub over_all : (c : ℕ) → n ≡ c → f (listing at c 0) ≡ whole → Over f at whole n 0
  over_all c e h = let z : n - 0 ≡ c = omega arith in record { within = omega arith; same = rw z h }

  module _ (i : ℕ) (o : Over f at whole n i) where
    pub over_none : n ≤ i → f [] ≡ whole
    unfolding listing
    over_none h = let z : n - i ≡ 0 = omega arith in rw z at o.same

    pub over_next : i < n → f (at i ∷ listing at (n - (i + 1)) (i + 1)) ≡ whole
    unfolding listing
    over_next h = let z : n - i ≡ suc (n - suc i) = omega arith in rw (add-one i) (rw z at o.same)

    pub over_on : i < n → f (at i ∷ listing at (n - (i + 1)) (i + 1)) ≡ f (listing at (n - (i + 1)) (i + 1)) → Over f at whole n (i + 1)
    over_on h e = record { within = omega arith; same = sym e ∙ over_next h }

-- ---- names
-- their offsets are words
pub names_inside : {ws : List ℕ} → Spelled ws → {j : ℕ} → j < count_at 0 ws → offset_at 0 ws + count_at 0 ws ≤ 16384
names_inside {ws} s h = omega (arith, s.placed.offset (count_at 0 ws - 1) (omega arith) (λ e. omega arith))

-- a name by its first word and where it ends
module _ {ws : List ℕ} {j b e : ℕ} (s : Spelled ws) (h : j < count_at 0 ws) (starts : b ≡ place_of ws 0 j) (ends : e ≡ record_end 0 j ws) where
  pub name_is : slice b e ws ≡ name_at ws j
  unfolding name_at place_of
  name_is = ap₂ (λ x y. slice x y ws) starts ends

  pub name_rising : b ≤ e
  unfolding place_of
  name_rising = rw (starts, ends) (s.rising j h)

  pub name_within : e ≤ 16384
  name_within = rw ends (s.within j h)

  pub name_cut : take (e - b) (drop b ws) ≡ name_at ws j
  name_cut =
      let z : b + (e - b) ≡ e = omega (arith, name_rising) in
      sym (slice-take ws b (e - b) (omega (arith, s.long, name_rising, name_within))) ∙ ap (λ x. slice b x ws) z ∙ name_is
