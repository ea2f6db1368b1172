-- `intake_scope::in_scope` meets its contract: each record's function is in scope or not, as it says, in one table and then the other.
use borrow.Author.Rules.{rules}
use Rattle.base_views.proofs.LaidOut.{tape}
use Rattle.intake_numbers.specs.declared.FunctionTable.TheVariants.{Functions, Entries}
use Rattle.intake_scope.proofs.Images.{table_begin, table_stated, passed_table, image_functions, image_entries}
use Rattle.intake_scope.proofs.in_scope.Goals as goal

pub all_functions-requires : goal.all_functions-requires
all_functions-requires c = λ s i l. let h = rw (← c.cells-cells.ensures.0, ← c.cells-cells.ensures.1) at (table_stated _ _ _ c.requires i Functions l (tape c.args.image)) in search rules

pub all_functions-requires-then-all_functions : goal.all_functions-requires-then-all_functions
all_functions-requires-then-all_functions c = λ s i l. let h = rw (← c.cells-cells.ensures.0, ← c.cells-cells.ensures.1) at (table_stated _ _ _ c.requires i Entries l (tape c.args.image)) in search rules

pub returns-else-all_functions : goal.returns-else-all_functions
returns-else-all_functions c =
    let first = passed_table _ _ _ c.requires Functions c.all_functions.ensures (table_begin _ _ _ c.requires Functions) λ i t t₁ r l p. rw (← c.cells-cells.ensures.0, ← c.cells-cells.ensures.1) (search rules) in
    rw c.if-all_functions.false (image_functions _ _ _ c.requires _ first c.if-all_functions.false)

pub returns-then-all_functions : goal.returns-then-all_functions
returns-then-all_functions c =
    let first = passed_table _ _ _ c.requires Functions c.all_functions.ensures (table_begin _ _ _ c.requires Functions) λ i t t₁ r l p. rw (← c.cells-cells.ensures.0, ← c.cells-cells.ensures.1) (search rules) in
    let second = passed_table _ _ _ c.requires Entries c.all_functions-then-all_functions.ensures (table_begin _ _ _ c.requires Entries) λ i t t₁ r l p. rw (← c.cells-cells.ensures.0, ← c.cells-cells.ensures.1) (search rules) in
    image_entries _ _ _ c.requires _ first c.if-all_functions.true _ second
