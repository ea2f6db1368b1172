use Rattle.std.proofs.Common.{refl, arith}
use Rattle.derive_state.proofs.Pairs.{writing_begin, writing_next, writing_done, written}
use borrow.Author.Rules.{rules}
use Rattle.derive_state.proofs.special_types.Special.write.Goals as goal

pub loop-j-init : goal.loop-j-init
loop-j-init c = search (writing_begin, rules)

pub loop-j-preserved : goal.loop-j-preserved
loop-j-preserved c = writing_next _ _ _ _ _ c.loop-j.invariant _ c.loop-j-test.true _ refl _ (omega arith)

pub returns : goal.returns
returns c =
    let i = c.self.inside in
    let a = c.args in
    rw (← c.self.view_is) (written a.out.now i.rays c.copy_from_slice.new.self c.loop-j.out a.at i.pairs a.n _ c.self.invariant.0 c.copy_from_slice.ensures.after (omega arith) (omega (arith, c.requires)) (writing_done _ _ _ _ _ c.loop-j.invariant c.loop-j-test.false))
