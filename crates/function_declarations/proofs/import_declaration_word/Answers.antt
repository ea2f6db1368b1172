use mathlib.Core.Path.{refl}
-- `import_declaration_word` meets its contract: a word of declarations refers to a record of a table, to an expression of the function, or to nothing.
use lib.ListN.{get_or}
use Rattle.function_outside.proofs.Cells.{record_found, own_found, nothing_found}
use Rattle.function_words.specs.Runs.{unites}
use Rattle.function_words.proofs.Words.{record_low, expression_low, brings_record, brings_none, brings_expression}
use Rattle.derive_state.proofs.State.{arrays_same}
use Rattle.function_declarations.proofs.import_declaration_word.Goals as goal

pub returns-in-None : goal.returns-in-None
returns-in-None c = record { does = let a = c.args in brings_none a.function.source.image.words.now a.function.source.image.n a.function.count a.function.source.offset (unites a.function.source.offset a.function.source.image.words.now a.function.source.image.tags.now a.function.source.image.n a.function.places.now a.function.count) (unites a.function.source.offset a.function.source.image.words.now a.function.source.image.tags.now a.function.source.image.n a.function.places.now a.function.count) (get_or a.function.source.image.tags.now a.i 0) (get_or a.function.source.image.words.now a.i 0) _ _ refl refl c.requires.valid_arrays c.requires.under (nothing_found (get_or a.function.source.image.tags.now a.i 0) (get_or a.function.source.image.words.now a.i 0) c.in-None.ensures) refl; same = arrays_same _ }

pub import_record-requires : goal.import_record-requires
import_record-requires c = let a = c.args in let q = record_found (get_or a.function.source.image.tags.now a.i 0) (get_or a.function.source.image.words.now a.i 0) c.in-Some-Record.field-0-is c.in-Some-Record.ensures in record { r_bound = record_low a.function.source.image.words.now a.function.source.image.n a.function.count a.function.source.offset (unites a.function.source.offset a.function.source.image.words.now a.function.source.image.tags.now a.function.source.image.n a.function.places.now a.function.count) (unites a.function.source.offset a.function.source.image.words.now a.function.source.image.tags.now a.function.source.image.n a.function.places.now a.function.count) (get_or a.function.source.image.tags.now a.i 0) (get_or a.function.source.image.words.now a.i 0) _ _ q.1 q.2 c.requires.i_bound.1 q.0; valid_arrays = c.requires.valid_arrays }

pub returns-in-Some-Record : goal.returns-in-Some-Record
returns-in-Some-Record c = record { does = let a = c.args in let q = record_found (get_or a.function.source.image.tags.now a.i 0) (get_or a.function.source.image.words.now a.i 0) c.in-Some-Record.field-0-is c.in-Some-Record.ensures in brings_record a.function.source.image.words.now a.function.source.image.n a.function.count a.function.source.offset (unites a.function.source.offset a.function.source.image.words.now a.function.source.image.tags.now a.function.source.image.n a.function.places.now a.function.count) (unites a.function.source.offset a.function.source.image.words.now a.function.source.image.tags.now a.function.source.image.n a.function.places.now a.function.count) (get_or a.function.source.image.tags.now a.i 0) (get_or a.function.source.image.words.now a.i 0) _ _ q.1 q.2 c.requires.valid_arrays c.requires.under q.0 c.import_record.ensures.does; same = c.import_record.ensures.same }

pub import_initialiser-requires : goal.import_initialiser-requires
import_initialiser-requires c = let a = c.args in let q = own_found (get_or a.function.source.image.tags.now a.i 0) (get_or a.function.source.image.words.now a.i 0) c.in-Some-Own.field-0-is c.in-Some-Own.ensures in record { e_lt_k = expression_low a.function.source.image.words.now a.function.source.image.n a.function.count a.function.source.offset (unites a.function.source.offset a.function.source.image.words.now a.function.source.image.tags.now a.function.source.image.n a.function.places.now a.function.count) (unites a.function.source.offset a.function.source.image.words.now a.function.source.image.tags.now a.function.source.image.n a.function.places.now a.function.count) (get_or a.function.source.image.tags.now a.i 0) (get_or a.function.source.image.words.now a.i 0) _ _ q.1 q.2 c.requires.i_bound.1 q.0 refl _ refl; valid_arrays = c.requires.valid_arrays; under = c.requires.under }

pub returns-in-Some-Own : goal.returns-in-Some-Own
returns-in-Some-Own c = record { does = let a = c.args in let q = own_found (get_or a.function.source.image.tags.now a.i 0) (get_or a.function.source.image.words.now a.i 0) c.in-Some-Own.field-0-is c.in-Some-Own.ensures in brings_expression a.function.source.image.words.now a.function.source.image.n a.function.count a.function.source.offset (unites a.function.source.offset a.function.source.image.words.now a.function.source.image.tags.now a.function.source.image.n a.function.places.now a.function.count) (unites a.function.source.offset a.function.source.image.words.now a.function.source.image.tags.now a.function.source.image.n a.function.places.now a.function.count) (get_or a.function.source.image.tags.now a.i 0) (get_or a.function.source.image.words.now a.i 0) _ _ q.1 q.2 q.0 refl refl c.import_initialiser.ensures.does; same = c.import_initialiser.ensures.same }
