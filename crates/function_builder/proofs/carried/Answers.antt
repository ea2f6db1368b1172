-- `function_builder::carried` meets its contract: a function is known by its name, any other word goes through the maps.
use mathlib.Core.Path.{ap, ◌∙◌}
use mathlib.Core.List.{[]}
use Prim.Native.Nat.{pred}
use Rattle.function_references.specs.Fits.{Fits, FitN}
use Rattle.derive_state.specs.Sizes.{going}
use Rattle.derive_state.proofs.Classes.{code_meant, ref_through, ref_good}
use Rattle.derive_lookup.proofs.Counted.{one_less}
use Rattle.function_builder.specs.Stacks.{went_of}
use Rattle.function_builder.proofs.Carries.{no_function, through-by}
use Rattle.function_builder.proofs.carried.Goals as goal

pub known-requires : goal.known-requires
unfolding Fits
known-requires c = let a = c.args in record { f_bound = ref_good a.s a.w (FitN a.source.image.words.now 1024) c.requires.all c.in-Function.ensures.0 }

pub returns-in-Function : goal.returns-in-Function
unfolding went_of
returns-in-Function c = let a = c.args in c.unwrap_or.ensures ∙ one_less c.known.result ∙ ap pred (c.known.ensures.is [] []) ∙ ref_through a.s a.w c.in-Function.ensures.0 (went_of a.source.image.words.now a.source.image.n a.derived.view.now.log.now a.derived.view.now.logtags.now a.derived.view.now.starts.now a.derived.view.now.maps.now (going a.derived.view.now.sizes) a.exprmap.now)

pub by_maps-requires : goal.by_maps-requires
by_maps-requires c = let e = c.target_of.ensures in record { fact = λ q. no_function c.target_of.result c.in_default.not-Function e.1 (code_meant c.args.s c.args.w e.0 ∙ q); by_index = (c.args.source.image.words.now, c.requires.all) }

pub returns : goal.returns
returns c = let a = c.args in let e = c.target_of.ensures in c.by_maps.ensures ∙ through-by a.source.image.words.now a.source.image.n a.derived.view.now.log.now a.derived.view.now.logtags.now a.derived.view.now.starts.now a.derived.view.now.maps.now (going a.derived.view.now.sizes) a.exprmap.now a.s a.w (λ q. no_function c.target_of.result c.in_default.not-Function e.1 (code_meant a.s a.w e.0 ∙ q))
