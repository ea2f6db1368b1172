-- What a word refers to: a record of a table, or an expression of its own function. A function that a word names is imported apart from these.
use Rattle.std.specs.Prelude.{ℕ, zero, suc, Option, None, Some}
use Rattle.model.specs.Tables.{code_t}
use Rattle.model.specs.References.{Place, table, own, function, Target, copied, start, upto, ref, opt}
use Rattle.derive_imports.specs.declared.Referent.{Referent}
use Rattle.derive_imports.specs.declared.Referent.TheVariants as code

-- number n of a place
unfoldable pub at_place : Place → ℕ → Option Referent
at_place (table t) n = Some (code.Record (record { table = code_t t; number = n }))
at_place own n = Some (code.Own n)
at_place function n = None

-- the word w of a target; an optional one is 0 where it refers to nothing, and else its number plus 1
unfoldable pub referent_of : Target → ℕ → Option Referent
referent_of copied w = None
referent_of start w = None
referent_of upto w = None
referent_of (ref p) w = at_place p w
referent_of (opt p) zero = None
referent_of (opt p) (suc n) = at_place p n
