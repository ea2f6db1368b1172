-- A stretch of words copied, and the classes of named expressions written: what is left from here is the whole.
use mathlib.Core.Path.{◌≡◌, sym, ap, ◌∙◌}
use mathlib.Core.List.{List, ◌++◌}
use Prim.Native.Nat.{ℕ, suc, ◌+◌, ◌*◌, ◌-◌, ◌≤◌, ◌<◌}
use native.Mathlib.Nat.{add-zero, sub-zero}
use native.Mathlib.Omega.{arith}
use lib.ListN.{length, get_or, set, take, drop, length-set}
use lib.Seq.{sets, sets-eq, slice, slice-cons, length-slice, take_all}
use borrow.Rule.Slice.PartMut.{put_mid}
use Rattle.std.proofs.lemmas.Slice.{put_mid-paste, between_is}
use Rattle.theory_image.specs.Betweens.{slice-none}
use Rattle.model.specs.Table.{NAME, NAMED-EXPR}
use Rattle.function_record.specs.Closed.{named_classes}

pub record Copying (from : List ℕ) (a n : ℕ) (out₀ : List ℕ) (p : ℕ) (out : List ℕ) (i : ℕ) : Type 0 where
  pub within : i ≤ n
  pub long : length out ≡ 16384
  pub same : sets out (p + i) (slice (a + i) (a + n) from) ≡ sets out₀ p (slice a (a + n) from)

module _ (from : List ℕ) (a n : ℕ) (out₀ : List ℕ) (p : ℕ) where
  pub copying_begin : length out₀ ≡ 16384 → Copying from a n out₀ p out₀ 0
  copying_begin l = record { within = omega arith; long = l; same = rw (add-zero p, add-zero a) }

  module _ (out : List ℕ) (i : ℕ) (inv : Copying from a n out₀ p out i) where
    pub copying_next : a + n ≤ length from → i < n → Copying from a n out₀ p (set out (p + i) (get_or from (a + i) 0)) (i + 1)
    copying_next l h =
        let e = slice-cons (a + i) (a + n) from 0 (omega arith) l in
        let y : a + (i + 1) ≡ suc (a + i) = omega arith in
        let z : p + (i + 1) ≡ suc (p + i) = omega arith in
        record { within = omega arith; long = length-set out (p + i) (get_or from (a + i) 0) ∙ inv.long; same = rw (y, z) (rw e at inv.same) }

    pub copying_done : n ≤ i → out ≡ sets out₀ p (slice a (a + n) from)
    copying_done h = rw (slice-none (a + i) (a + n) from (omega arith)) at inv.same

-- ---- classes of named expressions
pub record Naming (n : ℕ) (out₀ : List ℕ) (p : ℕ) (out : List ℕ) (i : ℕ) : Type 0 where
  pub within : i ≤ n
  pub long : length out ≡ 16384
  pub same : sets out (p + 2 * i) (named_classes (n - i)) ≡ sets out₀ p (named_classes n)

module _ (n : ℕ) (out₀ : List ℕ) (p : ℕ) where
  pub naming-begin : length out₀ ≡ 16384 → Naming n out₀ p out₀ 0
  naming-begin l = record { within = omega arith; long = l; same = rw (add-zero p, sub-zero n) }

  module _ (out : List ℕ) (i : ℕ) (inv : Naming n out₀ p out i) where
    pub naming-next : i < n → Naming n out₀ p (set (set out (p + 2 * i) NAMED-EXPR) (p + 2 * i + 1) NAME) (i + 1)
    unfolding named_classes
    naming-next h =
        let m : n - i ≡ suc (n - (i + 1)) = omega arith in
        let y : p + 2 * i + 1 ≡ suc (p + 2 * i) = omega arith in
        let z : p + 2 * (i + 1) ≡ suc (suc (p + 2 * i)) = omega arith in
        record { within = omega arith; long = length-set (set out (p + 2 * i) NAMED-EXPR) (p + 2 * i + 1) NAME ∙ length-set out (p + 2 * i) NAMED-EXPR ∙ inv.long; same = rw (y, z) (rw m at inv.same) }

    pub naming_done : n ≤ i → out ≡ sets out₀ p (named_classes n)
    unfolding named_classes
    naming_done h = let m : n - i ≡ 0 = omega arith in rw m at inv.same
