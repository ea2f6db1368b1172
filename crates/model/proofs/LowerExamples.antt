-- What `specs/LowerExamples.antt` states holds: each side computes to the other.
use Rattle.std.specs.Prelude.{refl}
use Rattle.model.specs.Operands.{optional, operand, ops_of}
use Rattle.model.specs.Lower.{below, bases_of, types_lower, operands_lower, functions_lower, entries_lower, init_of, inits_of, inits_lower, lower}
use Rattle.model.specs.LowerExamples.{Tried}

tried : Tried
unfolding optional operand ops_of below bases_of types_lower operands_lower functions_lower entries_lower init_of inits_of inits_lower lower
tried = record {
  base = refl;
  base_own = refl;
  member = refl;
  member_later = refl;
  global = refl;
  global_own = refl;
  named-constant = refl;
  constant_own = refl;
  named-override = refl;
  override_own = refl;
  override-none = refl;
  operand-lower = refl;
  operand_own = refl;
  entry-lower = refl;
  entry_own = refl;
  elsewhere = refl;
}
