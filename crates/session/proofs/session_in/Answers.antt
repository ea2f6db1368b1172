use Prim.Native.Nat.{◌/◌, ◌<◌}
use lib.ListN.{length}
use mathlib.Core.Path.{ap}
use native.Mathlib.Omega.{arith}
use Rattle.derive_state.specs.Sizes.{going}
use Rattle.session.proofs.Chunks.{says}
use Rattle.session.proofs.Firsts.{said_low}
use Rattle.session.proofs.Going.{going_first, going_next, going_last}
use Rattle.session.proofs.session_in.Goals as goal

pub loop-j-init : goal.loop-j-init
loop-j-init c = let a = c.args in going_first a.words.now a.tags.now a.derived.now.log.now a.derived.now.logtags.now a.derived.now.starts.now a.stacks.now c.requires.words_len.0 c.requires.words_len.1 c.requires.scratch_lengths a.sources.now a.steps.now a.answers.now a.output.now (length a.steps.now / 4) _ c.clear_maps.ensures _ c.new-special.ensures _ (ap going c.empty.ensures) (omega arith) (omega arith)

pub perform-said-requires : goal.perform-said-requires
perform-said-requires c = let g = c.loop-j.invariant in record { session = g.live; stacks = g.stacks_are }

pub loop-j-preserved : goal.loop-j-preserved
loop-j-preserved c =
    let p = c.perform-said in
    let w = c.as_chunks.ensures in
    let low : c.loop-j.j < length c.args.steps.now / 4 = let t = c.loop-j-test.true in omega (arith, w.front_len) in
    rw (c.tell.ensures, c.three_words.ensures) (going_next _ _ _ _ _ _ _ _ _ _ _ _ _ _ _ _ _ _ _ _ _ _ c.loop-j.invariant low _ _ _ (said_low p.result) _ _ _ _ _ _ _ _ _ _ _ _ _ _ _ _ (says _ _ _ _ _ w.front low _ _ _ _ _ _ _ _ p.ensures.does) p.ensures.valid.session p.ensures.valid.stacks c.first_of-first.ensures (omega arith))

pub returns : goal.returns
returns c = let t = c.loop-j-test.false in going_last _ _ _ _ _ _ _ _ _ _ _ _ _ _ _ _ _ _ _ _ _ _ c.loop-j.invariant (omega (arith, t))
