-- The number of each operation, as include/wuldgisp.h lists them, and the operation of a number.
use Rattle.std.specs.Prelude.{◌≡◌, ℕ, ◌≤◌, Result, MatchResult}
use Rattle.base_refusals.specs.declared.Refusal.{Refusal}
use Rattle.base_refusals.specs.declared.Refusal.TheVariants as refusal
use Rattle.session_steps.specs.declared.Operation.{Operation}
use Rattle.session_steps.specs.declared.Operation.TheVariants as operation

-- the number of an operation
abbrev pub number_of : Operation → ℕ
number_of operation.Set = 0
number_of operation.Clear = 1
number_of operation.MapSpan = 2
number_of operation.ImportType = 3
number_of operation.RenameType = 4
number_of operation.ImportConst = 5
number_of operation.ImportPipelineOverride = 6
number_of operation.ImportGlobal = 7
number_of operation.ImportGlobalExpression = 8
number_of operation.ImportFunction = 9
number_of operation.ImportFunctionIfNew = 10
number_of operation.MapFunctionHandle = 11
number_of operation.HasRequiredSpecialTypes = 12
number_of operation.Finish = 13
number_of operation.FinishWithEntryPoints = 14

-- the operation with this number, or 13 of a number that no operation has
abbrev pub Decodes : ℕ → Result Operation Refusal → Type 0
Decodes n r = MatchResult r (λ o. number_of o ≡ n) (λ e. (e ≡ refusal.NumberGiven) × (15 ≤ n))
