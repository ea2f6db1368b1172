-- `function_localize::index_expressions` meets its contract: the places are cleared, then found, and numbers are written as they are.
use Rattle.intake_initialisers.proofs.Visiting.{found_numbers}
use Rattle.function_localize.proofs.index_expressions.Goals as goal

pub returns : goal.returns
returns c = found_numbers c.places.ensures
