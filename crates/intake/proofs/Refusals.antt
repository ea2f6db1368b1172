-- No refusal's number is 0, and a refusal of intake, which is none by a ring, is answered as its number.
use mathlib.Core.Path.{◌≡◌, refl}
use Prim.Native.Nat.{ℕ, suc, ◌≤◌}
use native.Mathlib.Omega.{arith}
use Rattle.model.specs.Refusals.{answer_by}
use Rattle.base_refusals.specs.Numbers.{number_of, refused_by as ends_as}
use Rattle.base_refusals.specs.declared.Refusal.{Refusal}
use Rattle.base_refusals.specs.declared.Refusal.TheVariants as refusal

pub refused_by : (e : Refusal) → (k : ℕ) × (number_of e ≡ suc k)
refused_by refusal.BadSize = (0, refl)
refused_by refusal.BadLayout = (1, refl)
refused_by refusal.BadRange = (2, refl)
refused_by refusal.BadReference = (3, refl)
refused_by refusal.BadNames = (4, refl)
refused_by refusal.BadScope = (5, refl)
refused_by refusal.ShortOutput = (6, refl)
refused_by refusal.OriginalNotFound = (7, refl)
refused_by refusal.ReplacementNotFound = (8, refl)
refused_by refusal.ArgumentTypes = (9, refl)
refused_by refusal.ResultTypes = (10, refl)
refused_by (refusal.Ring left) = (11, refl)
refused_by refusal.NumberGiven = (12, refl)
refused_by refusal.NoSource = (19, refl)
refused_by refusal.Full = (20, refl)
refused_by refusal.UnknownRing = (21, refl)

pub answered : (e : Refusal) → number_of e ≤ 6 → answer_by (λ (v : ℕ). v) (ends_as e) ≡ number_of e
unfolding answer_by
answered refusal.BadSize h = refl
answered refusal.BadLayout h = refl
answered refusal.BadRange h = refl
answered refusal.BadReference h = refl
answered refusal.BadNames h = refl
answered refusal.BadScope h = refl
answered refusal.ShortOutput h = refl
answered refusal.OriginalNotFound h = refl
answered refusal.ReplacementNotFound h = refl
answered refusal.ArgumentTypes h = refl
answered refusal.ResultTypes h = refl
answered (refusal.Ring left) h = absurd (omega arith)
answered refusal.NumberGiven h = refl
answered refusal.NoSource h = refl
answered refusal.Full h = refl
answered refusal.UnknownRing h = refl
