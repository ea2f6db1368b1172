use mathlib.Core.Path.{refl}
-- `merge` meets its contract: expression e is the one that `find_equal` found, or it is appended.
use native.Mathlib.Nat.{le_refl}
use native.Mathlib.Omega.{arith}
use Rattle.function_builder.proofs.Stack.{made_low}
use Rattle.function_builder.proofs.Appends.{rises, merge_old, merge_new}
use Rattle.derive_state.specs.Sizes.{going}
use Rattle.function_builder.proofs.merge.Goals as goal

pub find_equal-requires : goal.find_equal-requires
find_equal-requires c = let U = c.requires.under in record { stacks = (U.stacks_are, U.rising, U.made_is); some = (rises c.args.function.expressions c.requires.e_lt_k c.expression.ensures.1 c.expression.ensures.2).0 }

pub overflow_add-exprmap : goal.overflow_add-exprmap
overflow_add-exprmap c = let U = c.requires.under in let t = U.stacks_are.high in let l = made_low U in let y = c.in-Some.ensures.0 in omega arith

pub overflow_cast-exprmap : goal.overflow_cast-exprmap
overflow_cast-exprmap c = let U = c.requires.under in let t = U.stacks_are.high in let l = made_low U in let y = c.in-Some.ensures.0 in omega arith

pub offset_bounds-exprmap-e : goal.offset_bounds-exprmap-e
offset_bounds-exprmap-e c = let X = c.args.function.expressions in let h = c.requires.e_lt_k in let f = X.few in omega arith

pub bounds-exprmap-e : goal.bounds-exprmap-e
bounds-exprmap-e c = let X = c.args.function.expressions in let h = c.requires.e_lt_k in let f = X.few in omega arith

pub returns-in-Some : goal.returns-in-Some
returns-in-Some c = let a = c.args in merge_old a.function.source.image.words.now a.function.source.image.tags.now a.function.places.now a.function.source.image.n a.function.count c.args.function.expressions a.derived.view.now.log.now a.derived.view.now.logtags.now a.derived.view.now.starts.now a.derived.view.now.maps.now a.exprmap.now a.stacks.now (going a.derived.view.now.sizes) a.function.source.offset a.function.base a.e c.requires.e_lt_k refl c.requires.under _ _ c.expression.ensures.1 c.expression.ensures.2 c.in-Some.j (rw c.expression.ensures.0 at c.in-Some.ensures.1) c.in-Some.ensures.0

pub returns : goal.returns
returns c = let a = c.args in merge_new a.function.source.image.words.now a.function.source.image.tags.now a.function.places.now a.function.source.image.n a.function.count c.args.function.expressions a.derived.view.now.log.now a.derived.view.now.logtags.now a.derived.view.now.starts.now a.derived.view.now.maps.now a.exprmap.now a.stacks.now (going a.derived.view.now.sizes) a.function.source.offset a.function.base a.e c.requires.e_lt_k refl c.requires.under _ _ c.expression.ensures.1 c.expression.ensures.2 _ (rw c.expression.ensures.0 at c.in_default.ensures) (le_refl _) _ _ _ c.append.ensures
