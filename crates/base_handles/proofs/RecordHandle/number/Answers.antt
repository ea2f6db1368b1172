use Rattle.base_handles.proofs.Numbers.{of_type, of_constant, of_override, of_global, of_expression}
use borrow.Author.Rules.{rules}
use Rattle.base_handles.proofs.RecordHandle.number.Goals as goal

pub returns-in-Type : goal.returns-in-Type
returns-in-Type c = search (of_type, rules)

pub returns-in-Constant : goal.returns-in-Constant
returns-in-Constant c = search (of_constant, rules)

pub returns-in-Override : goal.returns-in-Override
returns-in-Override c = search (of_override, rules)

pub returns-in-Global : goal.returns-in-Global
returns-in-Global c = search (of_global, rules)

pub returns-in-Expression : goal.returns-in-Expression
returns-in-Expression c = search (of_expression, rules)
