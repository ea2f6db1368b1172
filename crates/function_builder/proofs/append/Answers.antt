-- `append` meets its contract: there is no room for expression e, or `write` has put its cells on the top of the stack, and its place and its number are set after that.
use mathlib.Core.Path.{refl}
use native.Mathlib.Omega.{arith}
use Rattle.function_builder.proofs.Appends.{rises, room, append_full, append_done}
use Rattle.derive_state.specs.Sizes.{going}
use Rattle.function_builder.proofs.append.Goals as goal

pub overflow_sub-words : goal.overflow_sub-words
overflow_sub-words c = let X = c.args.function.expressions in let h = c.requires.e_lt_k in let r = rises X h refl refl in omega arith

pub returns-then-exprtop-words : goal.returns-then-exprtop-words
returns-then-exprtop-words c = let a = c.args in append_full a.function.source.image.words.now a.function.source.image.tags.now a.function.places.now a.function.source.image.n a.function.count c.args.function.expressions a.derived.view.now.log.now a.derived.view.now.logtags.now a.derived.view.now.starts.now a.derived.view.now.maps.now a.exprmap.now a.stacks.now (going a.derived.view.now.sizes) a.function.source.offset a.function.base a.e c.requires.e_lt_k refl c.requires.under _ _ c.expression-piece.ensures.1 c.expression-piece.ensures.2 _ refl c.if-exprtop-words.true

pub write-requires : goal.write-requires
write-requires c = let r = room c.args.function.expressions c.requires.e_lt_k c.expression-piece.ensures.1 c.expression-piece.ensures.2 c.requires.under c.if-exprtop-words.false in record { stacks = (c.requires.under.stacks_are, r.fits) }

pub overflow_add-stacks : goal.overflow_add-stacks
overflow_add-stacks c = let r = room c.args.function.expressions c.requires.e_lt_k c.expression-piece.ensures.1 c.expression-piece.ensures.2 c.requires.under c.if-exprtop-words.false in omega arith

pub offset_bounds-stacks-function : goal.offset_bounds-stacks-function
offset_bounds-stacks-function c = let r = room c.args.function.expressions c.requires.e_lt_k c.expression-piece.ensures.1 c.expression-piece.ensures.2 c.requires.under c.if-exprtop-words.false in omega arith

pub bounds-stacks-function : goal.bounds-stacks-function
bounds-stacks-function c = let r = room c.args.function.expressions c.requires.e_lt_k c.expression-piece.ensures.1 c.expression-piece.ensures.2 c.requires.under c.if-exprtop-words.false in omega arith

pub overflow_add-exprmap : goal.overflow_add-exprmap
overflow_add-exprmap c = let r = room c.args.function.expressions c.requires.e_lt_k c.expression-piece.ensures.1 c.expression-piece.ensures.2 c.requires.under c.if-exprtop-words.false in omega arith

pub overflow_cast-exprmap : goal.overflow_cast-exprmap
overflow_cast-exprmap c = let r = room c.args.function.expressions c.requires.e_lt_k c.expression-piece.ensures.1 c.expression-piece.ensures.2 c.requires.under c.if-exprtop-words.false in omega arith

pub offset_bounds-exprmap-e : goal.offset_bounds-exprmap-e
offset_bounds-exprmap-e c = let h = c.requires.e_lt_k in let f = c.requires.under.few in omega (arith, h, f)

pub bounds-exprmap-e : goal.bounds-exprmap-e
bounds-exprmap-e c = let h = c.requires.e_lt_k in let f = c.requires.under.few in omega (arith, h, f)

pub overflow_sub-exprtop : goal.overflow_sub-exprtop
overflow_sub-exprtop c = let s = c.requires.under.stacks_are.high in omega arith

pub overflow_add-result : goal.overflow_add-result
overflow_add-result c = let r = room c.args.function.expressions c.requires.e_lt_k c.expression-piece.ensures.1 c.expression-piece.ensures.2 c.requires.under c.if-exprtop-words.false in omega arith

pub overflow_add-result-2 : goal.overflow_add-result-2
overflow_add-result-2 c = let r = room c.args.function.expressions c.requires.e_lt_k c.expression-piece.ensures.1 c.expression-piece.ensures.2 c.requires.under c.if-exprtop-words.false in omega arith

pub overflow_cast-result-2 : goal.overflow_cast-result-2
overflow_cast-result-2 c = let r = room c.args.function.expressions c.requires.e_lt_k c.expression-piece.ensures.1 c.expression-piece.ensures.2 c.requires.under c.if-exprtop-words.false in omega arith

pub returns : goal.returns
returns c = let a = c.args in append_done a.function.source.image.words.now a.function.source.image.tags.now a.function.places.now a.function.source.image.n a.function.count c.args.function.expressions a.derived.view.now.log.now a.derived.view.now.logtags.now a.derived.view.now.starts.now a.derived.view.now.maps.now a.exprmap.now a.stacks.now (going a.derived.view.now.sizes) a.function.source.offset a.function.base a.e c.requires.e_lt_k refl c.requires.under _ _ c.expression-piece.ensures.1 c.expression-piece.ensures.2 c.if-exprtop-words.false _ (rw c.expression-piece.ensures.0 at c.write.ensures) _ refl
