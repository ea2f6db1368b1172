-- WORDS STAY WORDS. What an import copies, or moves as a span, is below 2^32 if the source's is; a number it maps is not looked at here, since test 3 bounds it. So every step of a session keeps that all that is derived is small, with no premise on the source but that its words are words.
use Rattle.std.specs.Prelude.{◌≡◌, Bool}
use Rattle.std.proofs.Math.Bool.{true, false}
use mathlib.Core.List.{List}
use Rattle.std.proofs.Math.Option.{Option}
use Prim.Native.Nat.{ℕ, ◌^◌, ◌<◌}
use Rattle.model.specs.Outcome.{Cell, Cells}
use Rattle.model.specs.Tree.{Stmt, Form, Block, Cases, Case, stmt, emit, block, branch, switch, loop, break, continue, return, kill, call, effect, end, ◌then◌, nomore, ◌also◌, case, Range, Function, Entry}
use Rattle.model.specs.Module.{Module}
use Rattle.model.specs.Carry.{Each}
use Rattle.model.specs.Tables.{Tab, exprs, at, tables}
use Rattle.model.specs.References.{function, Target, copied, start, upto, ref, opt, target}
use Rattle.model.specs.Imports.{Derived, made}
use Rattle.model.specs.Bodies.{Builder}
use Rattle.model.specs.Special.{rays, pairs}

-- ---- a cell
-- whether a word of this target is taken over as it is, spans moved
unfoldable pub fixed : Target → Bool
fixed copied = true
fixed start = true
fixed upto = true
fixed (ref p) = false
fixed (opt p) = false

pub record Small (c : Cell) : Type 0 where
  pub below : fixed (target c.0) ≡ true → c.1 < 2 ^ 32

abbrev pub Rows : List Cells → Type 0
Rows = Each (Each Small)

-- a map of words that takes over what is fixed
pub record Takes (m : ℕ → ℕ → ℕ) : Type 0 where
  pub over : (s w : ℕ) → fixed (target s) ≡ true → m s w ≡ w

-- ---- statements: their spans, the values of cases and the fields of effects
mutual
  pub data SmallS : Stmt Range → Type 0 where
    small_stmt : {a b : ℕ} {x : Form Range} → a < 2 ^ 32 → b < 2 ^ 32 → SmallF x → SmallS (stmt a b x)

  pub data SmallF : Form Range → Type 0 where
    small_emit : {r : Range} → SmallF (emit r)
    small_block : {b : Block Range} → SmallB b → SmallF (block b)
    small_branch : {c : ℕ} {a b : Block Range} → SmallB a → SmallB b → SmallF (branch c a b)
    small_switch : {c : ℕ} {ks : Cases Range} → SmallC ks → SmallF (switch c ks)
    small_loop : {a b : Block Range} {o : Option ℕ} → SmallB a → SmallB b → SmallF (loop a b o)
    small_break : SmallF break
    small_continue : SmallF continue
    small_return : {o : Option ℕ} → SmallF (return o)
    small_kill : SmallF kill
    small_call : {f : ℕ} {xs : List ℕ} {r : Option ℕ} → SmallF (call f xs r)
    small_effect : {k : ℕ} {cs : Cells} → k < 2 ^ 32 → Each Small cs → SmallF (effect k cs)

  pub data SmallB : Block Range → Type 0 where
    small_end : SmallB end
    small_then : {s : Stmt Range} {b : Block Range} → SmallS s → SmallB b → SmallB (s then b)

  pub data SmallK : Case Range → Type 0 where
    small_case : {v : Cells} {b : Block Range} {f : ℕ} → Each Small v → SmallB b → SmallK (case v b f)

  pub data SmallC : Cases Range → Type 0 where
    small_nomore : SmallC nomore
    small_also : {k : Case Range} {ks : Cases Range} → SmallK k → SmallC ks → SmallC (k also ks)

-- ---- functions, entry points, modules
pub record SmallFunction (f : Function) : Type 0 where
  pub in_head : Each Small f.head
  pub in_arguments : Rows f.arguments
  pub in_result : Each Small f.result
  pub in_locals : Rows f.locals
  pub in_exprs : Rows f.exprs
  pub in_named : Rows f.named
  pub in_body : SmallB f.body

pub record SmallEntry (e : Entry) : Type 0 where
  pub in_head : Each Small e.head
  pub in_function_lem : SmallFunction e.function

pub record SmallModule (t : Module) : Type 0 where
  pub in_tables_lem : (u : Tab) → Rows (at u (tables t))
  pub in_functions_lem : Each SmallFunction t.functions
  pub in_entries_lem : Each SmallEntry t.entries
  pub in_rays : Each Small t.special.rays
  pub in_pairs : Rows t.special.pairs

pub record SmallState (s : Derived) : Type 0 where
  pub in_tables_lem : (u : Tab) → Rows (at u s.recs)
  pub in_functions_lem : Each SmallFunction s.functions
  pub in_rays : Each Small s.special.rays
  pub in_pairs : Rows s.special.pairs

pub record SmallMaking (m : Builder) : Type 0 where
  pub in_out : SmallState m.out
  pub in_made : Rows m.made
