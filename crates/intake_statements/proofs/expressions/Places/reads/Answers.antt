use mathlib.Core.Path.{refl, ◌∙◌}
use mathlib.Core.List.{[]}
use Prim.Native.Nat.{◌-◌}
use lib.ListN.{get_or}
use Rattle.model.specs.Operands.{operand}
use Rattle.std.proofs.Common.{rules}
use Rattle.std.proofs.lemmas.Iterator.{YieldsList-from_range}
use Rattle.std.proofs.lemmas.Iterator.Search.{all_from_yields_List}
use Rattle.intake_statements.specs.Lasts.{visible_at, all_seen}
use Rattle.intake_statements.proofs.Leaves.{reads_are}
use Rattle.intake_statements.proofs.expressions.Places.reads.Goals as goal

pub returns : goal.returns
returns c =
    let seen = visible_at c.args.self.cells.words.now c.args.self.starts.now c.args.until.now c.args.self.count c.args.at in
    all_from_yields_List (λ j. all_seen (operand (get_or c.args.self.cells.tags.now j 0) (get_or c.args.self.cells.words.now j 0) []) seen) _ _ c.all.result c.all.ensures.ran (YieldsList-from_range c.args.from c.args.to (c.args.to - c.args.from) refl refl) (λ x v q k. search rules)
    ∙ reads_are c.args.self.cells.words.now c.args.self.cells.tags.now seen c.args.from c.args.to
