-- `base_refusals::answer` meets its contract, for a value and for a refusal.
use Rattle.std.proofs.Common.{◌∙◌, ap, ap₂, sym}
use Rattle.model.specs.Refusals.{packed, answer_by}
use Rattle.base_refusals.specs.Numbers.{ended}
use Rattle.base_refusals.proofs.Packed.{packed_refusal}
use Rattle.base_refusals.proofs.answer.Goals as goal

pub returns-in-Ok : goal.returns-in-Ok
unfolding answer_by
returns-in-Ok c = rw c.in-Ok.is c.pack.ensures

pub returns-in-Err : goal.returns-in-Err
returns-in-Err c = c.pack-in-Err.ensures ∙ ap₂ packed c.number.ensures c.count.ensures ∙ packed_refusal c.in-Err.refusal ∙ ap (λ r. answer_by (λ v. v) (ended r)) (sym c.in-Err.is)
