-- What `specs/WalkExamples.antt` states holds: each side computes to the other.
use Rattle.std.specs.Prelude.{◌≡◌, refl, true, false, [], ◌∷◌}
use Rattle.model.specs.Tree.{opt_of}
use Rattle.model.specs.Operands.{optional, operand, ops_of, result_of, kind, standing_kind, ops}
use Rattle.model.specs.Initial.{inits_of, roots, marked, mark, unmarked, read_by, close, reached_marks, moving, initials}
use Rattle.model.specs.Scope.{up_from, in_range, live, expand_s, seen}
use Rattle.model.specs.Walk.{ends, only, ▸read, ▸readOpt, ▸evalOpt, ▸emit, choose, pick, round_end, rounds, fall_to, walk_s, walk}
use Rattle.model.specs.WalkExamples.{samples, found, stated, forward}

walked : found samples ≡ stated samples
unfolding found stated samples opt_of optional operand ops_of result_of kind standing_kind ops inits_of roots marked mark unmarked read_by close reached_marks moving initials up_from in_range live expand_s seen ends only ▸read ▸readOpt ▸evalOpt ▸emit choose pick round_end rounds fall_to walk_s walk
walked = refl

forward_marks : reached_marks forward ≡ true ∷ true ∷ true ∷ false ∷ []
unfolding forward ops_of operand optional inits_of roots mark unmarked read_by close reached_marks
forward_marks = refl
