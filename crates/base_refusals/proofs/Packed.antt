-- A refusal as one number, by cases.
use Rattle.std.proofs.Common.{◌≡◌, ℕ, refl}
use Rattle.model.specs.Refusals.{packed, answer_by}
use Rattle.base_refusals.specs.declared.Refusal.{Refusal}
use Rattle.base_refusals.specs.declared.Refusal.TheVariants as refusal
use Rattle.base_refusals.specs.Numbers.{number_of, count_of, refused_by}

pub packed_refusal : (e : Refusal) → packed (number_of e) (count_of e) ≡ answer_by (λ (v : ℕ). v) (refused_by e)
unfolding answer_by
packed_refusal refusal.BadSize = refl
packed_refusal refusal.BadLayout = refl
packed_refusal refusal.BadRange = refl
packed_refusal refusal.BadReference = refl
packed_refusal refusal.BadNames = refl
packed_refusal refusal.BadScope = refl
packed_refusal refusal.ShortOutput = refl
packed_refusal refusal.OriginalNotFound = refl
packed_refusal refusal.ReplacementNotFound = refl
packed_refusal refusal.ArgumentTypes = refl
packed_refusal refusal.ResultTypes = refl
packed_refusal (refusal.Ring left) = refl
packed_refusal refusal.NumberGiven = refl
packed_refusal refusal.NoSource = refl
packed_refusal refusal.Full = refl
packed_refusal refusal.UnknownRing = refl
