-- What the passes over the sections and functions of a module answer, and where a function is.
use denote.Ref.{MutBor}
use Rattle.std.specs.Prelude.{◌≡◌, Bool, true, false, ◌&&◌, List, ℕ, ◌+◌, ◌≤◌, ◌<◌, length}
use Rattle.model.specs.Outcome.{Cells}
use Rattle.model.specs.Tree.{Function}
use Rattle.model.specs.Module.{Module, count_at}
use Rattle.model.specs.View.{record_at, record_end}
use Rattle.model.specs.Taped.{Taped}
use Rattle.model.specs.Between.{Long}
use Rattle.model.specs.Numbers.{Bounds, within, every, outside, inside, sound, sound_function, sound_entry, constant_only}
use Rattle.theory_image.specs.FunctionViews.{Part, Stands}
use Rattle.intake_ranges.specs.Ranges.{table as table_of}
use Rattle.intake_numbers.specs.declared.FunctionTable.{FunctionTable}
use Rattle.intake_numbers.specs.declared.FunctionTable.TheVariants.{Functions, Entries}

-- ---- of the module that words and tags hold
-- the answer is that of the test f
pub record TestEnsures (r : Bool) (words tags : List ℕ) (n : ℕ) (f : Module → Bool) : Type 0 where
  pub same : (m : Module) → Taped words tags n m → r ≡ f m

-- as long as the table is that of the module
pub record Tabled (r : Bool) (words tags : List ℕ) (n : ℕ) (t : List ℕ) (f : Module → Bool) : Type 0 where
  pub same : (m : Module) → Taped words tags n m → t ≡ table_of (outside m) → r ≡ f m

-- ---- a function from `from` to `end`, in a record that starts at `at` and has the cells cs
-- words and tags hold it so
pub record Frame (words tags : List ℕ) (at from end : ℕ) (f : Function) (cs : Cells) : Type 0 where
  pub long : Long words tags
  pub cells : Cells
  pub small : length cells ≤ 16384
  pub whole : Part cells at end cs
  pub own : Stands words tags cells from end f

-- they hold some function so
pub record Framed (words tags : List ℕ) (at from end : ℕ) : Type 0 where
  pub function : Function
  pub record_cells : Cells
  pub frame : Frame words tags at from end function record_cells

-- the answer is the model's of that function, and the table is left with its bounds
pub record Sound (r : Bool) (t₁ t words tags : List ℕ) (at from end : ℕ) : Type 0 where
  pub same : (f : Function) (cs : Cells) → Frame words tags at from end f cs → (b : Bounds) → t ≡ table_of b → r ≡ sound b f cs
  pub kept : (f : Function) (cs : Cells) → Frame words tags at from end f cs → (b : Bounds) → t ≡ table_of b → t₁ ≡ table_of (inside b f)

-- the table is that of the module, but for the bounds that each function sets again
pub record Loose (t : List ℕ) (m : Module) : Type 0 where
  pub bounds : Bounds
  pub is : t ≡ table_of bounds
  pub alike : (f : Function) → inside bounds f ≡ inside (outside m) f

-- the answer is that of the test f, and the table stays that of the module but for those bounds
pub record Loosely (r : Bool) (t₁ words tags : List ℕ) (n : ℕ) (t : List ℕ) (f : Module → Bool) : Type 0 where
  pub same : (m : Module) → Taped words tags n m → Loose t m → r ≡ f m
  pub kept : (m : Module) → Taped words tags n m → Loose t m → Loose t₁ m

-- ---- the parts of `numbered`, as the code tests them
-- the words of sections 1 to 5 and 8 are in range
unfoldable pub tables_fine : Module → Bool
tables_fine m =
    every (within (outside m)) m.types
    && (every (within (outside m)) m.constants
    && (every (within (outside m)) m.overrides
    && (every (within (outside m)) m.globals
    && (every (within (outside m)) m.exprs
    && (within (outside m) m.special.rays
    && every (within (outside m)) m.special.pairs)))))

-- global expressions are of kinds that are allowed there
unfoldable pub kinds_fine : Module → Bool
kinds_fine m = every constant_only m.exprs

-- functions are sound
unfoldable pub functions_fine : Module → Bool
functions_fine m = every (sound_function (outside m)) m.functions

-- entry points are
unfoldable pub entries_fine : Module → Bool
entries_fine m = every (sound_entry (outside m)) m.entries

-- ---- the tables whose records have a function: table functions, and entry points, which have words in front of it
-- a table's section
abbrev pub section_of : FunctionTable → ℕ
section_of Functions = 6
section_of Entries = 7

-- how many words a record has in front of its function
abbrev pub head_of : FunctionTable → ℕ
head_of Functions = 0
head_of Entries = 7

-- what is tested of its functions
abbrev pub fine_of : FunctionTable → Module → Bool
fine_of Functions = functions_fine
fine_of Entries = entries_fine

-- ---- code that tests record i of a table, where its scratch memory is s, and leaves s₁
-- a call of it, where that record and its function are
pub record Tests {S : Type 0} (post : MutBor S → ℕ → ℕ → ℕ → Bool → MutBor S → Type 0) (words : List ℕ) (table : FunctionTable) (i : ℕ) (s : S) (r : Bool) (s₁ : S) : Type 0 where
  pub shown : MutBor S
  pub shows : shown.now ≡ s
  pub left : MutBor S
  pub met : post shown (record_at (section_of table) i words) (record_at (section_of table) i words + head_of table) (record_end (section_of table) i words) r left
  pub leaves : left.now ≡ s₁

-- and one record after the other from record i on, up to the first that fails
pub data Passed {S : Type 0} (post : MutBor S → ℕ → ℕ → ℕ → Bool → MutBor S → Type 0) (words : List ℕ) (table : FunctionTable) : ℕ → S → Bool → S → Type 0 where
  done : {i : ℕ} {s : S} → count_at (section_of table) words ≤ i → Passed post words table i s true s
  fails : {i : ℕ} {s s₁ : S} → i < count_at (section_of table) words → Tests post words table i s false s₁ → Passed post words table i s false s₁
  next : {i : ℕ} {s s₁ s₂ : S} {r : Bool} → i < count_at (section_of table) words → Tests post words table i s true s₁ → Passed post words table (i + 1) s₁ r s₂ → Passed post words table i s r s₂
