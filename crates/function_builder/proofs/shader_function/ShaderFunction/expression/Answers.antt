use mathlib.Core.Path.{refl}
use Rattle.function_builder.proofs.Appends.{legible}
use Rattle.function_builder.proofs.shader_function.ShaderFunction.expression.Goals as goal

pub invariant_of-result : goal.invariant_of-result
invariant_of-result c = let X = c.args.self.expressions in record { legible = legible X c.requires refl refl }
