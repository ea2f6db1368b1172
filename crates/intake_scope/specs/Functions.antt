-- What is required of a function record, and what is found: the record is in words and tags, its numbers are in range as far as scope needs it, and the answer is the model's.
use Rattle.std.specs.Prelude.{◌≡◌, Bool, true, List, ℕ, length}
use Rattle.model.specs.Outcome.{Cells}
use Rattle.model.specs.Tree.{Function}
use Rattle.model.specs.Module.{Module}
use Rattle.model.specs.Taped.{Taped}
use Rattle.model.specs.Initial.{initialised}
use Rattle.model.specs.Numbers.{numbered}
use Rattle.model.specs.Scope.{scoped, all_scoped, entries_scoped}
use Rattle.intake_numbers.specs.declared.FunctionTable.{FunctionTable}
use Rattle.intake_numbers.specs.declared.FunctionTable.TheVariants.{Functions, Entries}
use Rattle.intake_numbers.specs.Passes.{Frame}
use Rattle.intake_initialisers.specs.Lists.{Lists}
use Rattle.intake_statements.specs.Tape.{Ends}

-- its lists of locals and expressions have their numbers at the words `locals` and `exprs`. One private function asks this: a struct of its four values would be made once, in the call, and taken apart at once.
pub record Known (words tags : List ℕ) (locals exprs end : ℕ) : Type 0 where
  pub function : Function
  pub lists : Lists words tags locals exprs end function
  pub inits : initialised function ≡ true
  pub ends : Ends words tags (length function.exprs) exprs end

-- the answer is the model's, of a function whose initialisers are allowed
pub record Tested (r : Bool) (words tags : List ℕ) (locals exprs end : ℕ) : Type 0 where
  pub same : (f : Function) → Lists words tags locals exprs end f → initialised f ≡ true → r ≡ scoped f

-- it starts at the word `from`, and its record at the word `at`
pub record Stated (words tags : List ℕ) (at from end : ℕ) : Type 0 where
  pub function : Function
  pub cells : Cells
  pub frame : Frame words tags at from end function cells
  pub inits : initialised function ≡ true
  pub ends : Ends words tags (length function.exprs) from end

-- the same of its record
pub record Scoped (r : Bool) (words tags : List ℕ) (at from end : ℕ) : Type 0 where
  pub same : (f : Function) (cs : Cells) → Frame words tags at from end f cs → initialised f ≡ true → r ≡ scoped f

-- every module in words and tags has its numbers in range
pub record InRange (words tags : List ℕ) (n : ℕ) : Type 0 where
  pub holds : (m : Module) → Taped words tags n m → numbered m ≡ true

-- "of every function and every entry point"
abbrev pub functions_scoped : Module → Bool
functions_scoped m = all_scoped m.functions

-- the same of every entry point
abbrev pub entry_points_scoped : Module → Bool
entry_points_scoped m = entries_scoped m.entries

-- the test of a table
abbrev pub scoped_of : FunctionTable → Module → Bool
scoped_of Functions = functions_scoped
scoped_of Entries = entry_points_scoped
