use Rattle.model.specs.Tables.{code_t}
use borrow.Author.Rules.{rules}
use Rattle.base_handles.proofs.RecordHandle.section.Goals as goal

pub returns-in-Type : goal.returns-in-Type
unfolding code_t
returns-in-Type c = search rules

pub returns-in-Constant : goal.returns-in-Constant
unfolding code_t
returns-in-Constant c = search rules

pub returns-in-Override : goal.returns-in-Override
unfolding code_t
returns-in-Override c = search rules

pub returns-in-Global : goal.returns-in-Global
unfolding code_t
returns-in-Global c = search rules

pub returns-in-Expression : goal.returns-in-Expression
unfolding code_t
returns-in-Expression c = search rules
