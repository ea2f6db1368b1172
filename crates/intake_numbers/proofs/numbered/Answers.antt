-- `intake_numbers::numbered` meets its contract: the two tables one after the other, each with the bounds that the one before left.
use borrow.Author.Rules.{rules}
use mathlib.Core.Bool.{false≢true}
use mathlib.Core.Path.{sym, ◌∙◌}
use Rattle.base_views.proofs.LaidOut.{tape}
use Rattle.intake_numbers.specs.declared.FunctionTable.TheVariants.{Functions, Entries}
use Rattle.intake_numbers.proofs.Framing.{framed_at, table_begin, passed_table, numbered-tables, numbered_kinds, numbered_functions, numbered_entries}
use Rattle.intake_numbers.proofs.numbered.Goals.{then-tables, else-tables, then-kinds, else-kinds}
use Rattle.intake_numbers.proofs.numbered.Goals as goal

pub all_functions-requires : goal.all_functions-requires
all_functions-requires c = λ s i l. let h = rw (← c.cells-cells.ensures.0, ← c.cells-cells.ensures.1) at (framed_at _ _ _ (tape c.args.image) Functions i l) in search rules

pub all_functions-requires-then-all_functions : goal.all_functions-requires-then-all_functions
all_functions-requires-then-all_functions c = λ s i l. let h = rw (← c.cells-cells.ensures.0, ← c.cells-cells.ensures.1) at (framed_at _ _ _ (tape c.args.image) Entries i l) in search rules

pub returns-then-all_functions : goal.returns-then-all_functions
returns-then-all_functions c = elim c.if-kinds.branch [
  | then-kinds w ↦ elim c.if-tables.branch [
    | then-tables v ↦
        let first = passed_table c.args.image.words.now c.args.image.tags.now c.args.image.n _ w.all_functions.ensures (table_begin _ _ _ _ Functions) λ i t t₁ r l p. rw (← c.cells-cells.ensures.0, ← c.cells-cells.ensures.1, ← p.shows, ← p.leaves) (search rules) in
        let second = passed_table c.args.image.words.now c.args.image.tags.now c.args.image.n _ (rw w.bounds-is at c.all_functions-then-all_functions.ensures) (table_begin _ _ _ _ Entries) λ i t t₁ r l p. rw (← c.cells-cells.ensures.0, ← c.cells-cells.ensures.1, ← p.shows, ← p.leaves) (search rules) in
        numbered_entries _ _ _ _ c.set_module.ensures _ c.tables.ensures v.if-tables.true _ v.kinds.ensures (sym v.value-is ∙ w.if-kinds.true) _ _ first (sym w.value-is ∙ c.if-all_functions.true) _ _ second
    | else-tables v ↦ absurd (false≢true (sym v.if-tables.false ∙ sym v.value-is ∙ w.if-kinds.true))
  ]
  | else-kinds w ↦ absurd (false≢true (sym w.if-kinds.false ∙ sym w.value-is ∙ c.if-all_functions.true))
]

pub returns-else-all_functions : goal.returns-else-all_functions
returns-else-all_functions c =
    rw c.if-all_functions.false
    (elim c.if-tables.branch [
      | then-tables v ↦ elim c.if-kinds.branch [
        | then-kinds w ↦
            let first = passed_table c.args.image.words.now c.args.image.tags.now c.args.image.n _ w.all_functions.ensures (table_begin _ _ _ _ Functions) λ i t t₁ r l p. rw (← c.cells-cells.ensures.0, ← c.cells-cells.ensures.1, ← p.shows, ← p.leaves) (search rules) in
            numbered_functions _ _ _ _ c.set_module.ensures _ c.tables.ensures v.if-tables.true _ v.kinds.ensures (sym v.value-is ∙ w.if-kinds.true) _ _ first (sym w.value-is ∙ c.if-all_functions.false)
        | else-kinds w ↦ numbered_kinds _ _ _ _ c.set_module.ensures _ c.tables.ensures v.if-tables.true _ v.kinds.ensures (sym v.value-is ∙ w.if-kinds.false)
      ]
      | else-tables v ↦ numbered-tables _ _ _ _ c.set_module.ensures _ c.tables.ensures v.if-tables.false
    ])
