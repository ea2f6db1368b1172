use mathlib.Core.Path.{◌≡◌, refl, sym, ◌∙◌}
use Rattle.std.proofs.Common.{◌+◌, ◌-◌, arith}
use Rattle.derive_state.specs.Refers.{went_r, Small}
use Rattle.derive_state.proofs.Passes.{following_some, write-begin, write-next, write_done}
use Rattle.derive_state.proofs.write.Goals as goal

pub loop-j-init : goal.loop-j-init
loop-j-init c = let a = c.args in let r = a.original in let q = c.requires in let z : a.to + (r.at - r.at) ≡ a.to = omega arith in (rw z (write-begin Small r.cells.words.now r.cells.tags.now (went_r a.maps.now) r.at r.end a.to a.offset a.log.now a.logtags.now r.stretch r.small q.0 q.1 q.2), c.carried_or_end-w.ensures)

pub loop-j-preserved : goal.loop-j-preserved
loop-j-preserved c = let a = c.args in let r = a.original in let q = c.requires in let l = c.loop-j in let h = c.loop-j-test.true in let S = r.stretch in let z : a.to + (l.j + 1 - r.at) ≡ a.to + (l.j - r.at) + 1 = omega arith in let w = l.invariant.1 ∙ sym (following_some (went_r a.maps.now) r.cells.tags.now r.cells.words.now l.j r.end h S.in_tags S.in_words _ refl) in (rw z (write-next Small r.cells.words.now r.cells.tags.now (went_r a.maps.now) r.at r.end a.to a.offset a.log.now a.logtags.now r.stretch r.small q.0 q.1 q.2 l.log l.logtags l.j _ l.u l.invariant.0 h _ w _ (rw c.carried_or_end-next.ensures at c.undefined_at-u.ensures) _ c.moved.ensures), c.carried_or_end-next.ensures)

pub returns : goal.returns
returns c = let a = c.args in let r = a.original in let q = c.requires in let l = c.loop-j in write_done Small r.cells.words.now r.cells.tags.now (went_r a.maps.now) r.at r.end a.to a.offset a.log.now a.logtags.now r.stretch r.small q.0 q.1 q.2 l.log l.logtags l.j _ l.u l.invariant.0 c.loop-j-test.false
