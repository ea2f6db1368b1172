-- `intake_names::named` meets its contract: each pass is the definition on its table, and each join is what held so far and one test more.
use mathlib.Core.Bool.{◌&&◌}
use mathlib.Core.List.{map}
use mathlib.Core.Path.{◌≡◌}
use native.Mathlib.Omega.{arith}
use Rattle.model.specs.Outcome.{word}
use Rattle.model.specs.Names.{present, function_names, entry_names, functions_named, entries_named, differ, distinct}
use Rattle.theory_image.specs.Betweens.{header_stretch}
use Rattle.intake_names.proofs.Answer.{functions_placed, entries_placed, pairs-placed, spelled, few_functions, few_entries, functions_present, entries_present, functions_named_lem, entries_named_lem, names_differ, functions_distinct, keys_distinct, then_test, else_test, last_test, no_test}
use Rattle.intake_names.proofs.named.Goals.{then-present, else-present, then-present-2, else-present-2, then-expressions, else-expressions, then-expressions-2, else-expressions-2, then-differ, else-differ}
use Rattle.intake_names.proofs.named.Goals as goal

pub present-requires : goal.present-requires
present-requires c = functions_placed c.requires

pub present-requires-then-present : goal.present-requires-then-present
present-requires-then-present c = entries_placed c.requires

pub expressions-requires : goal.expressions-requires
expressions-requires c = record { stretch = rw (c.cells-cells.ensures.0, c.cells-cells.ensures.1) (header_stretch c.requires.taped 6 _ _ (omega arith) c.offset-functions.ensures.0 c.offset-entries.ensures.0); each = rw (c.cells-cells.ensures.0, c.cells-cells.ensures.1) (few_functions c.requires _ _ c.offset-functions.ensures.0 c.offset-entries.ensures.0) }

pub expressions-requires-then-expressions : goal.expressions-requires-then-expressions
expressions-requires-then-expressions c = record { stretch = rw (c.cells-cells.ensures.0, c.cells-cells.ensures.1) (header_stretch c.requires.taped 7 _ _ (omega arith) c.offset-entries.ensures.0 c.offset-special.ensures.0); each = rw (c.cells-cells.ensures.0, c.cells-cells.ensures.1) (few_entries c.requires _ _ c.offset-entries.ensures.0 c.offset-special.ensures.0) }

pub differ-requires : goal.differ-requires
differ-requires c = spelled c.requires

pub distinct-requires : goal.distinct-requires
distinct-requires c = functions_placed c.requires

pub distinct-requires-then-distinct : goal.distinct-requires-then-distinct
distinct-requires-then-distinct c = pairs-placed c.requires

pub returns-then-distinct : goal.returns-then-distinct
returns-then-distinct c = λ m t.
    let r = c.requires in
    let one = functions_present r t c.present.ensures in
    let two : c.if-present.value ≡ c.present.result && present (entry_names m.entries) = elim c.if-present.branch [ then-present w ↦ then_test w.if-present.true (entries_present r t w.present-then-present.ensures) w.value-is | else-present w ↦ else_test _ w.if-present.false w.value-is ] in
    let three : c.if-present-2.value ≡ c.if-present.value && functions_named m.functions = elim c.if-present-2.branch [ then-present-2 w ↦ then_test w.if-present-2.true (functions_named_lem r t _ _ c.offset-functions.ensures.0 c.offset-entries.ensures.0 (rw (c.cells-cells.ensures.0, c.cells-cells.ensures.1) at w.expressions.ensures)) w.value-is | else-present-2 w ↦ else_test _ w.if-present-2.false w.value-is ] in
    let four : c.if-expressions.value ≡ c.if-present-2.value && entries_named m.entries = elim c.if-expressions.branch [ then-expressions w ↦ then_test w.if-expressions.true (entries_named_lem r t _ _ c.offset-entries.ensures.0 c.offset-special.ensures.0 (rw (c.cells-cells.ensures.0, c.cells-cells.ensures.1) at w.expressions-then-expressions.ensures)) w.value-is | else-expressions w ↦ else_test _ w.if-expressions.false w.value-is ] in
    let five : c.if-expressions-2.value ≡ c.if-expressions.value && differ (map (map word) m.names) = elim c.if-expressions-2.branch [ then-expressions-2 w ↦ then_test w.if-expressions-2.true (names_differ r t w.differ.ensures) w.value-is | else-expressions-2 w ↦ else_test _ w.if-expressions-2.false w.value-is ] in
    let six : c.if-differ.value ≡ c.if-expressions-2.value && distinct (function_names m.functions) = elim c.if-differ.branch [ then-differ w ↦ then_test w.if-differ.true (functions_distinct r t w.distinct.ensures) w.value-is | else-differ w ↦ else_test _ w.if-differ.false w.value-is ] in
    last_test m one two three four five six c.if-distinct.true (keys_distinct r t c.distinct-then-distinct.ensures)

pub returns-else-distinct : goal.returns-else-distinct
returns-else-distinct c = λ m t.
    let r = c.requires in
    let one = functions_present r t c.present.ensures in
    let two : c.if-present.value ≡ c.present.result && present (entry_names m.entries) = elim c.if-present.branch [ then-present w ↦ then_test w.if-present.true (entries_present r t w.present-then-present.ensures) w.value-is | else-present w ↦ else_test _ w.if-present.false w.value-is ] in
    let three : c.if-present-2.value ≡ c.if-present.value && functions_named m.functions = elim c.if-present-2.branch [ then-present-2 w ↦ then_test w.if-present-2.true (functions_named_lem r t _ _ c.offset-functions.ensures.0 c.offset-entries.ensures.0 (rw (c.cells-cells.ensures.0, c.cells-cells.ensures.1) at w.expressions.ensures)) w.value-is | else-present-2 w ↦ else_test _ w.if-present-2.false w.value-is ] in
    let four : c.if-expressions.value ≡ c.if-present-2.value && entries_named m.entries = elim c.if-expressions.branch [ then-expressions w ↦ then_test w.if-expressions.true (entries_named_lem r t _ _ c.offset-entries.ensures.0 c.offset-special.ensures.0 (rw (c.cells-cells.ensures.0, c.cells-cells.ensures.1) at w.expressions-then-expressions.ensures)) w.value-is | else-expressions w ↦ else_test _ w.if-expressions.false w.value-is ] in
    let five : c.if-expressions-2.value ≡ c.if-expressions.value && differ (map (map word) m.names) = elim c.if-expressions-2.branch [ then-expressions-2 w ↦ then_test w.if-expressions-2.true (names_differ r t w.differ.ensures) w.value-is | else-expressions-2 w ↦ else_test _ w.if-expressions-2.false w.value-is ] in
    let six : c.if-differ.value ≡ c.if-expressions-2.value && distinct (function_names m.functions) = elim c.if-differ.branch [ then-differ w ↦ then_test w.if-differ.true (functions_distinct r t w.distinct.ensures) w.value-is | else-differ w ↦ else_test _ w.if-differ.false w.value-is ] in
    no_test m one two three four five six c.if-distinct.false
