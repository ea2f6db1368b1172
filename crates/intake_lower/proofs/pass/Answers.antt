-- `intake_lower::pass` meets its contract: what is left from word j on, with the records that have begun, says what the whole says.
use borrow.Author.Rules.{rules}
use Rattle.intake_lower.proofs.Steps.{pass_done, pass_room, pass_fails, pass_next}
use Rattle.intake_lower.proofs.pass.Goals as goal

pub returns-then-not-ok : goal.returns-then-not-ok
returns-then-not-ok g c =
    let room = pass_room _ _ _ _ _ _ c.requires.stretch _ _ c.loop-j.invariant c.loop-j-test.true in
    pass_fails _ _ _ _ _ _ c.requires.stretch _ _ c.loop-j.invariant c.loop-j-test.true (search rules) (search rules) _ c.next-count.ensures (c.requires.grows _ _ _ (search rules) room c.next-count.ensures) _ c.ok.ensures c.if-not-ok.true

pub loop-j-preserved : goal.loop-j-preserved
loop-j-preserved g c =
    let room = pass_room _ _ _ _ _ _ c.requires.stretch _ _ c.loop-j.invariant c.loop-j-test.true in
    pass_next _ _ _ _ _ _ c.requires.stretch _ _ c.loop-j.invariant c.loop-j-test.true (search rules) (search rules) _ c.next-count.ensures (c.requires.grows _ _ _ (search rules) room c.next-count.ensures) _ c.ok.ensures c.if-not-ok.false

pub returns : goal.returns
returns g c = pass_done _ _ _ _ _ _ c.requires.stretch _ _ c.loop-j.invariant c.loop-j-test.false
