-- What a handle of any table means: the table, and the number of the record in it.
use Rattle.std.specs.Prelude.{ℕ}
use Rattle.model.specs.Tables.{Tab, types, constants, overrides, globals, exprs}
use Rattle.base_handles.specs.declared.RecordHandle.{RecordHandle}
use Rattle.base_handles.specs.declared.RecordHandle.TheVariants.{«Type», Constant, Override, Global, Expression}

-- the table of its type
abbrev pub table_of : RecordHandle → Tab
table_of («Type» h) = types
table_of (Constant h) = constants
table_of (Override h) = overrides
table_of (Global h) = globals
table_of (Expression h) = exprs

-- the number in that table
abbrev pub number_in : RecordHandle → ℕ
number_in («Type» h) = h.0
number_in (Constant h) = h.0
number_in (Override h) = h.0
number_in (Global h) = h.0
number_in (Expression h) = h.0
