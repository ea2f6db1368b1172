use Rattle.derive_state.specs.Sizes.{going}
use Rattle.derive_state.proofs.Passes.{following_some, following_none}
use Rattle.function_builder.specs.Stacks.{went_of}
use Rattle.function_builder.proofs.carried_or_end.Goals as goal

pub returns-then-i-piece : goal.returns-then-i-piece
returns-then-i-piece c = let a = c.args in let S = a.piece.now.legible.stretch in following_some (went_of a.piece.now.source.image.words.now a.piece.now.source.image.n a.derived.view.now.log.now a.derived.view.now.logtags.now a.derived.view.now.starts.now a.derived.view.now.maps.now (going a.derived.view.now.sizes) a.exprmap.now) a.piece.now.source.image.tags.now a.piece.now.source.image.words.now a.i a.piece.now.end c.if-i-piece.true S.in_tags S.in_words _ c.carried_at.ensures

pub returns-else-i-piece : goal.returns-else-i-piece
returns-else-i-piece c = let a = c.args in following_none (went_of a.piece.now.source.image.words.now a.piece.now.source.image.n a.derived.view.now.log.now a.derived.view.now.logtags.now a.derived.view.now.starts.now a.derived.view.now.maps.now (going a.derived.view.now.sizes) a.exprmap.now) a.piece.now.source.image.tags.now a.piece.now.source.image.words.now a.i a.piece.now.end c.if-i-piece.false
