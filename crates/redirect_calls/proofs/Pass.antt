-- The flat pass: what is left to rewrite from word i on is the whole.
use mathlib.Core.Path.{◌≡◌, refl, ap, ◌∙◌}
use mathlib.Core.List.{List, zip_with}
use Prim.Native.Nat.{ℕ, suc, ◌+◌, ◌≤◌, ◌<◌}
use native.Mathlib.Numerals.{add-one}
use native.Mathlib.Nat.{le_refl}
use native.Mathlib.Omega.{arith}
use lib.ListN.{length, get_or, set, take, drop, length-set}
use lib.Seq.{slice, sets, slice-cons, take-set-lt, drop-set-lt}
use Rattle.theory_image.specs.Betweens.{slice-none}

slice_set : (i end : ℕ) (l : List ℕ) (v : ℕ) → i < end → slice (suc i) end (set l i v) ≡ slice (suc i) end l
slice_set i end l v h = ap (drop (suc i)) (take-set-lt end l i v h) ∙ drop-set-lt (suc i) (take end l) i v (le_refl (suc i))

module _ (f : ℕ → ℕ → ℕ) (words₀ tags : List ℕ) (at end : ℕ) where
  pub record Left (words : List ℕ) (i : ℕ) : Type 0 where
    pub within : i ≤ end
    pub long : length words ≡ 16384
    pub same : sets words i (zip_with f (slice i end tags) (slice i end words)) ≡ sets words₀ at (zip_with f (slice at end tags) (slice at end words₀))

  pub begin : at ≤ end → length words₀ ≡ 16384 → Left words₀ at
  begin h l = record { within = h; long = l; same = refl }

  module _ (words : List ℕ) (i : ℕ) (inv : Left words i) where
    pub finish : end ≤ i → words ≡ sets words₀ at (zip_with f (slice at end tags) (slice at end words₀))
    unfolding zip_with
    finish h = rw (slice-none i end tags h) at inv.same

    pub next : i < end → end ≤ 16384 → length tags ≡ 16384 → (v : ℕ) → v ≡ f (get_or tags i 0) (get_or words i 0) → Left (set words i v) (i + 1)
    unfolding zip_with
    next h small long v is =
        rw add-one
        (record {
          within = h;
          long = length-set words i v ∙ inv.long;
          same = rw (slice_set i end words v h, is) (rw (slice-cons i end tags 0 h (omega arith), slice-cons i end words 0 h (omega (arith, inv.long))) at inv.same);
        })
