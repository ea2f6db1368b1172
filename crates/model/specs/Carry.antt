-- Carrying a module by class, and modules that are well formed.
-- A map `m` takes a class and a word to a word. To carry a tree is to rewrite every number of it by `m` at the number's class; counts, lengths, kinds and offsets are computed again by `flat`.
-- A tree is well formed where its cells are laid out by their rows, its lists are within their limits, and its blocks are at most 32 deep: no more than what reading tests.
use Rattle.std.specs.Prelude.{◌≡◌, List, [], ◌∷◌, ◌++◌, map, ℕ, suc, ◌≤◌, length}
use Rattle.std.proofs.Math.Option.{Option, some}
use Rattle.std.proofs.Math.ListN.{get_elem?}
use Rattle.model.specs.Outcome.{Cell, Cells}
use Rattle.model.specs.Table.{Row, SPAN, UPTO, CALLEE, EXPR, OPT_EXPR, FROM, TO, OPT_RESULT, PLACE, ARGUMENTS, LOCALS, EXPRESSIONS, NAMED, VALUE, RETURNS, s_effect, statements, name_row, type_row, constant_row, override_row, global_row, expression_row, function_head, entry_head, counted, limit, brings, more}
use Rattle.model.specs.Tree.{Stmt, Form, Block, Cases, Case, stmt, emit, block, branch, switch, loop, break, continue, return, kill, call, effect, end, ◌then◌, nomore, ◌also◌, case, Range, Function, Entry, opt_of, word_of, DEPTH}
use Rattle.model.specs.Module.{Special, Module, rays_row, pair_row}

-- ---- carrying
-- the classes from PLACE on say where things are and what follows: offsets, padding, counts, lengths, kinds, codes of variants
pub record Keeps (m : ℕ → ℕ → ℕ) : Type 0 where
  pub kept : (s w : ℕ) → PLACE ≤ s → m s w ≡ w

module _ (m : ℕ → ℕ → ℕ) where
  unfoldable pub carry_cell : Cell → Cell
  carry_cell c = (c.0, m c.0 c.1)

  abbrev pub carry_cells : Cells → Cells
  carry_cells = map carry_cell

  -- an optional number, by its word
  unfoldable pub carry_opt : ℕ → Option ℕ → Option ℕ
  carry_opt s o = opt_of (m s (word_of o))

  unfoldable pub carry_range : Range → Range
  carry_range r = record { from = m FROM r.from; to = m TO r.to }

  unfoldable mutual
    pub carry_s : Stmt Range → Stmt Range
    carry_s (stmt a b x) = stmt (m SPAN a) (m UPTO b) (carry_f x)

    pub carry_f : Form Range → Form Range
    carry_f (emit r) = emit (carry_range r)
    carry_f (block b) = block (carry_b b)
    carry_f (branch c a b) = branch (m EXPR c) (carry_b a) (carry_b b)
    carry_f (switch c ks) = switch (m EXPR c) (carry_c ks)
    carry_f (loop a b o) = loop (carry_b a) (carry_b b) (carry_opt OPT_EXPR o)
    carry_f break = break
    carry_f continue = continue
    carry_f (return o) = return (carry_opt OPT_EXPR o)
    carry_f kill = kill
    carry_f (call f xs r) = call (m CALLEE f) (map (m EXPR) xs) (carry_opt OPT_RESULT r)
    carry_f (effect k cs) = effect k (carry_cells cs)

    pub carry_b : Block Range → Block Range
    carry_b end = end
    carry_b (s then b) = carry_s s then carry_b b

    pub carry_k : Case Range → Case Range
    carry_k (case v b f) = case (carry_cells v) (carry_b b) (m 2 f)

    pub carry_c : Cases Range → Cases Range
    carry_c nomore = nomore
    carry_c (k also ks) = carry_k k also carry_c ks

  unfoldable pub carry_function : Function → Function
  carry_function t = record {
    head = carry_cells t.head;
    arguments = map carry_cells t.arguments;
    result = carry_cells t.result;
    locals = map carry_cells t.locals;
    exprs = map carry_cells t.exprs;
    named = map carry_cells t.named;
    body = carry_b t.body;
  }

  unfoldable pub carry_entry : Entry → Entry
  carry_entry e = record { head = carry_cells e.head; function = carry_function e.function }

  unfoldable pub carry_special : Special → Special
  carry_special s = record { rays = carry_cells s.rays; pairs = map carry_cells s.pairs }

  unfoldable pub carry : Module → Module
  carry t = record {
    names = map carry_cells t.names;
    types = map carry_cells t.types;
    constants = map carry_cells t.constants;
    overrides = map carry_cells t.overrides;
    globals = map carry_cells t.globals;
    exprs = map carry_cells t.exprs;
    functions = map carry_function t.functions;
    entries = map carry_entry t.entries;
    special = carry_special t.special;
  }

-- ---- well formed
-- the cells are laid out by the symbols
pub data Lays : Row → Cells → Type 0 where
  lays_none : Lays [] []
  lays_next : {s w : ℕ} {xs ss : Row} {cs : Cells} → more s w ≡ brings xs → Lays (xs ++ ss) cs → Lays (s ∷ ss) ((s, w) ∷ cs)

-- every element of a list
pub data Each {A : Type 0} (P : A → Type 0) : List A → Type 0 where
  each_none : Each P []
  each_next : {a : A} {l : List A} → P a → Each P l → Each P (a ∷ l)

-- a list of the class s in a function: within its limit, each record laid out by its row
pub record Listed (s : ℕ) (rs : List Cells) : Type 0 where
  pub few : length rs ≤ limit s
  pub each : Each (Lays (counted s)) rs

-- statements, with d levels of blocks left
mutual
  pub data OkS : ℕ → Stmt Range → Type 0 where
    ok_stmt : {d a b : ℕ} {x : Form Range} → OkF d x → OkS d (stmt a b x)

  pub data OkF : ℕ → Form Range → Type 0 where
    ok_emit : {d : ℕ} {r : Range} → OkF d (emit r)
    ok_block : {d : ℕ} {b : Block Range} → OkB d b → OkF d (block b)
    ok_branch : {d c : ℕ} {a b : Block Range} → OkB d a → OkB d b → OkF d (branch c a b)
    ok_switch : {d c : ℕ} {ks : Cases Range} → OkC d ks → OkF d (switch c ks)
    ok_loop : {d : ℕ} {a b : Block Range} {o : Option ℕ} → OkB d a → OkB d b → OkF d (loop a b o)
    ok_break : {d : ℕ} → OkF d break
    ok_continue : {d : ℕ} → OkF d continue
    ok_return : {d : ℕ} {o : Option ℕ} → OkF d (return o)
    ok_kill : {d : ℕ} → OkF d kill
    ok-call : {d f : ℕ} {xs : List ℕ} {r : Option ℕ} → OkF d (call f xs r)
    ok_effect : {d k : ℕ} {ss : Row} {cs : Cells} → get_elem? statements k ≡ some (s_effect ss) → Lays ss cs → OkF d (effect k cs)

  pub data OkB : ℕ → Block Range → Type 0 where
    ok_deeper : {d : ℕ} {b : Block Range} → OkBs d b → OkB (suc d) b

  pub data OkBs : ℕ → Block Range → Type 0 where
    ok_end : {d : ℕ} → OkBs d end
    ok_then : {d : ℕ} {s : Stmt Range} {b : Block Range} → OkS d s → OkBs d b → OkBs d (s then b)

  pub data OkK : ℕ → Case Range → Type 0 where
    ok_case : {d f : ℕ} {v : Cells} {b : Block Range} → Lays (VALUE ∷ []) v → OkB d b → OkK d (case v b f)

  pub data OkC : ℕ → Cases Range → Type 0 where
    ok_nomore : {d : ℕ} → OkC d nomore
    ok_also : {d : ℕ} {k : Case Range} {ks : Cases Range} → OkK d k → OkC d ks → OkC d (k also ks)

pub record WellFunction (t : Function) : Type 0 where
  pub head_ok : Lays function_head t.head
  pub arguments_ok : Listed ARGUMENTS t.arguments
  pub result_ok_lem : Lays (RETURNS ∷ []) t.result
  pub locals_ok : Listed LOCALS t.locals
  pub exprs_ok : Listed EXPRESSIONS t.exprs
  pub named_ok : Listed NAMED t.named
  pub body_ok : OkB DEPTH t.body

pub record WellEntry (e : Entry) : Type 0 where
  pub head_ok : Lays entry_head e.head
  pub function-ok : WellFunction e.function

-- a table: at most n records, each of them fine
pub record Tabled {A : Type 0} (P : A → Type 0) (n : ℕ) (l : List A) : Type 0 where
  pub few : length l ≤ n
  pub each : Each P l

pub record WellFormed (t : Module) : Type 0 where
  pub names_ok : Tabled (Lays name_row) 512 t.names
  pub types-ok : Tabled (Lays type_row) 512 t.types
  pub constants_ok : Tabled (Lays constant_row) 512 t.constants
  pub overrides_ok : Tabled (Lays override_row) 512 t.overrides
  pub globals_ok : Tabled (Lays global_row) 512 t.globals
  pub exprs_ok : Tabled (Lays expression_row) 512 t.exprs
  pub functions_ok : Tabled WellFunction 256 t.functions
  pub entries_ok : Tabled WellEntry 16 t.entries
  pub rays-ok : Lays rays_row t.special.rays
  pub pairs-ok : Tabled (Lays pair_row) 512 t.special.pairs
