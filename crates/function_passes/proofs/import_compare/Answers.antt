-- `import_compare` meets its contract: an atomic statement has what it compares, where it compares.
use mathlib.Core.Path.{sym, ap, ◌∙◌}
use Prim.Native.Nat.{suc}
use native.Mathlib.Omega.{arith}
use lib.ListN.{get_or}
use borrow.Author.Tests.{not-true, not-false}
use Rattle.model.specs.Between.{between}
use Rattle.theory_passes.proofs.Cases.{early-other}
use Rattle.theory_passes.specs.Light.{still}
use Rattle.derive_state.specs.Source.{mod_of}
use Rattle.function_outside.proofs.Passing.{legible_next}
use Rattle.function_words.specs.Runs.{needs as needsE, glances}
use Rattle.function_words.proofs.Running.{makes_as, makes-idle}
use Rattle.function_words.proofs.Words.{compare_low, early-none, early-one}
use Rattle.function_passes.proofs.Comparing.{compared_none, compared_some}
use mathlib.Core.Bool.{not}
use Rattle.derive_state.proofs.State.{arrays_same}
use mathlib.Core.Path.{refl}
use Rattle.function_passes.proofs.import_compare.Goals as goal

pub returns-then-not-atomic : goal.returns-then-not-atomic
returns-then-not-atomic c = record { does = let a = c.args in makes-idle c.requires.valid_arrays c.requires.under refl (λ m. early-other a.function.source.offset (mod_of a.function.source.image.words.now a.function.source.image.n) still (needsE a.function.source.offset a.function.source.image.words.now a.function.source.image.tags.now a.function.source.image.n a.function.places.now a.function.count) (glances a.function.source.offset a.function.source.image.words.now a.function.source.image.tags.now a.function.source.image.n a.function.places.now a.function.count) (get_or a.function.source.image.words.now a.i 0) (between a.function.source.image.tags.now a.function.source.image.words.now (suc a.i) a.end) m (sym c.atomic.ensures ∙ not-true _ (ap not c.if-not-atomic.true))); same = arrays_same _ }

pub returns-in_default : goal.returns-in_default
returns-in_default c = record { does = let a = c.args in makes-idle c.requires.valid_arrays c.requires.under refl (λ m. early-none a.function.source.offset (mod_of a.function.source.image.words.now a.function.source.image.n) (needsE a.function.source.offset a.function.source.image.words.now a.function.source.image.tags.now a.function.source.image.n a.function.places.now a.function.count) (glances a.function.source.offset a.function.source.image.words.now a.function.source.image.tags.now a.function.source.image.n a.function.places.now a.function.count) (get_or a.function.source.image.words.now a.i 0) (between a.function.source.image.tags.now a.function.source.image.words.now (suc a.i) a.end) m (compared_none a.function.source.image.tags.now a.function.source.image.words.now a.i a.end _ c.compare_operand.ensures c.in_default.is)); same = arrays_same _ }

pub import_operand-requires : goal.import_operand-requires
import_operand-requires c = let a = c.args in let L = legible_next c.requires.legible.0 c.requires.legible.1 in record { e_lt_k = compare_low a.function.source.image.words.now a.function.count (between a.function.source.image.tags.now a.function.source.image.words.now (suc a.i) a.end) L.fits _ c.in-Some.x (compared_some a.function.source.image.tags.now a.function.source.image.words.now a.i a.end _ c.compare_operand.ensures c.in-Some.x c.in-Some.is) (λ q. omega arith) (omega arith); valid_arrays = c.requires.valid_arrays; under = c.requires.under }

pub returns : goal.returns
returns c = record { does = let a = c.args in makes_as c.import_operand.ensures.does (λ m. early-one a.function.source.offset (mod_of a.function.source.image.words.now a.function.source.image.n) (needsE a.function.source.offset a.function.source.image.words.now a.function.source.image.tags.now a.function.source.image.n a.function.places.now a.function.count) (glances a.function.source.offset a.function.source.image.words.now a.function.source.image.tags.now a.function.source.image.n a.function.places.now a.function.count) (get_or a.function.source.image.words.now a.i 0) (between a.function.source.image.tags.now a.function.source.image.words.now (suc a.i) a.end) m (sym c.atomic.ensures ∙ not-false _ (ap not c.if-not-atomic.false)) _ c.in-Some.x (compared_some a.function.source.image.tags.now a.function.source.image.words.now a.i a.end _ c.compare_operand.ensures c.in-Some.x c.in-Some.is) (λ q. omega arith) (omega arith)); same = c.import_operand.ensures.same }
