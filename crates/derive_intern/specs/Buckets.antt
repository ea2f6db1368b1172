-- What a bucket's number in the array says.
use Rattle.std.specs.Prelude.{◌≡◌, ◌≢◌, ℕ, suc}
use Rattle.derive_state.specs.Marks.{SEVERAL}
use Rattle.derive_intern.specs.declared.Bucket.{Bucket}
use Rattle.derive_intern.specs.declared.Bucket.TheVariants as code

-- the bucket that a number in the array is
abbrev pub Tells : ℕ → Bucket → Type 0
Tells v code.Empty = v ≡ 0
Tells v (code.One k) = (v ≡ suc k) × (v ≢ SEVERAL)
Tells v code.Several = v ≡ SEVERAL
