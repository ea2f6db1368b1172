-- What is written is read: the words of a well-formed tree, with any words after them, are read as that tree, and those words are left.
use Rattle.std.specs.Prelude.{◌≡◌, refl, List, [], ◌∷◌, ◌++◌, map, ℕ, suc, leb, length}
use Rattle.std.proofs.Common.{ap, ◌∙◌, append_assoc, eq-eqb, le-leb}
use Rattle.std.proofs.Math.ListN.{get_elem?}
use Rattle.theory_lists.specs.Booleans.{if_true}
use Rattle.model.specs.Outcome.{Cells, word, fits, misfit, ◌⟫◌, eat, map_o}
use Rattle.model.specs.Table.{Row, EXPR, OPT_EXPR, OPT_RESULT, ARGUMENTS, LOCALS, EXPRESSIONS, NAMED, statements, counted, limit, follow, run}
use Rattle.model.specs.Tree.{Stmt, Form, Block, Cases, Case, stmt, emit, block, branch, switch, loop, break, continue, return, kill, call, effect, Range, Function, Entry, word_of, kind_of, size_b, size_c, flat_s, flat_f, flat_b, flat_k, flat_c, flat_x, flat_all, flat_list, flat_block, flat, flat_entry, rows, listed, operands, stmts, case_at, cases, form, checked, shaped, statement, block_at, function_at, entry_at}
use Rattle.model.specs.Module.{Special, flat_special, rays_row, pair_row, special_at}
use Rattle.model.specs.Carry.{Lays, lays_none, lays_next, Each, each_none, each_next, Listed, OkS, OkF, OkB, OkBs, OkK, OkC, ok_stmt, ok_emit, ok_block, ok_branch, ok_switch, ok_loop, ok_break, ok_continue, ok_return, ok_kill, ok-call, ok_effect, ok_deeper, ok_end, ok_then, ok_case, ok_nomore, ok_also, WellFunction, WellEntry}
use Rattle.theory_image.specs.Words.{words_append, opt_of_lem}

-- ---- rows and lists of rows
pub run_none : (ws : List ℕ) → run ws [] ≡ fits [] ws
unfolding run
run_none [] = refl
run_none (w ∷ ws) = refl

-- LAW, of a record laid out by a row
pub write-run : {ss : Row} {cs : Cells} → Lays ss cs → (rest : List ℕ) → run (map word cs ++ rest) ss ≡ fits cs rest
unfolding run map_o follow
write-run lays_none rest = run_none rest
write-run (lays_next {s} {w} e l) rest = rw e (ap (map_o ((s, w) ∷◌)) (write-run l rest))

pub write-rows : {ss : Row} {rs : List Cells} → Each (Lays ss) rs → (rest : List ℕ) → rows (length rs) ss (map word (flat_all rs) ++ rest) ≡ fits rs rest
unfolding rows flat_all ◌⟫◌
write-rows each_none rest = refl
write-rows (each_next {a = r} {l = rs} o q) rest = rw (words_append r (flat_all rs) rest, write-run o (map word (flat_all rs) ++ rest), write-rows q rest)

pub write-listed : {s : ℕ} {rs : List Cells} → Listed s rs → (rest : List ℕ) → listed s (map word (flat_list s rs) ++ rest) ≡ fits rs rest
unfolding listed flat_list eat
write-listed {s} {rs} o rest = if_true (leb (length rs) (limit s)) (rows (length rs) (counted s) (map word (flat_all rs) ++ rest)) misfit (le-leb (length rs) (limit s) o.few) ∙ write-rows o.each rest

write-operands : (xs : List ℕ) (rest : List ℕ) → operands (length xs) (map word (map (λ x. (EXPR, x)) xs) ++ rest) ≡ fits xs rest
unfolding operands eat ◌⟫◌
write-operands [] rest = refl
write-operands (x ∷ xs) rest = rw (write-operands xs rest)

-- ---- statements
-- a statement's length is right
right : (s : Stmt Range) (n : ℕ) (rest : List ℕ) → n ≡ length (flat_s s) → checked n s rest ≡ fits s rest
unfolding checked
right s n rest e = rw (checked, eq-eqb n (length (flat_s s)) e)

mutual
  unfolding flat_s kind_of size_b size_c stmts cases case_at form statement shaped block_at eat ◌⟫◌ statements flat_block flat_x

  pub write_s : {d : ℕ} {s : Stmt Range} → OkS d s → (rest : List ℕ) → statement (block_at d) (map word (flat_s s) ++ rest) ≡ fits s rest
  write_s (ok_stmt {a} {b} {x} o) rest = write-f o a b (suc (suc (suc (suc (length (flat_f x)))))) refl rest

  write-f : {d : ℕ} {x : Form Range} → OkF d x → (a b n : ℕ) → n ≡ length (flat_s (stmt a b x)) → (rest : List ℕ)
      → shaped (get_elem? statements (kind_of x)) (λ sh. form sh (kind_of x) (block_at d) (map word (flat_f x) ++ rest) ⟫ λ y ws. checked n (stmt a b y) ws) ≡ fits (stmt a b x) rest
  write-f (ok_emit {r}) a b n e rest = right (stmt a b (emit r)) n rest e
  write-f (ok_block {b = x} o) a b n e rest = rw (write-b o rest) (right (stmt a b (block x)) n rest e)
  write-f (ok_branch {c} {a = x} {b = y} o q) a b n e rest = rw (words_append (flat_block x) (flat_block y) rest, write-b o (map word (flat_block y) ++ rest), write-b q rest) (right (stmt a b (branch c x y)) n rest e)
  write-f (ok_switch {c} {ks} o) a b n e rest = rw (write-c o rest) (right (stmt a b (switch c ks)) n rest e)
  write-f (ok_loop {a = x} {b = y} {o = z} o q) a b n e rest =
      rw (words_append (flat_block x ++ flat_block y) ((OPT_EXPR, word_of z) ∷ []) rest, words_append (flat_block x) (flat_block y) (word_of z ∷ rest), write-b o (map word (flat_block y) ++ word_of z ∷ rest), write-b q (word_of z ∷ rest), opt_of_lem z)
      (right (stmt a b (loop x y z)) n rest e)
  write-f ok_break a b n e rest = right (stmt a b break) n rest e
  write-f ok_continue a b n e rest = right (stmt a b continue) n rest e
  write-f (ok_return {o = z}) a b n e rest = rw (opt_of_lem z) (right (stmt a b (return z)) n rest e)
  write-f ok_kill a b n e rest = right (stmt a b kill) n rest e
  write-f (ok-call {f} {xs} {r}) a b n e rest =
      rw (words_append (map (λ x. (EXPR, x)) xs) ((OPT_RESULT, word_of r) ∷ []) rest, write-operands xs (word_of r ∷ rest), opt_of_lem r) (right (stmt a b (call f xs r)) n rest e)
  write-f (ok_effect {k} {cs} f l) a b n e rest = rw (f, write-run l rest) (right (stmt a b (effect k cs)) n rest e)

  -- LAW, of a block
  pub write-b : {d : ℕ} {b : Block Range} → OkB d b → (rest : List ℕ) → block_at d (map word (flat_block b) ++ rest) ≡ fits b rest
  write-b (ok_deeper o) rest = write_bs o rest

  write_bs : {d : ℕ} {b : Block Range} → OkBs d b → (rest : List ℕ) → stmts (size_b b) (statement (block_at d)) (map word (flat_b b) ++ rest) ≡ fits b rest
  write_bs ok_end rest = refl
  write_bs (ok_then {s} {b} o q) rest = rw (words_append (flat_s s) (flat_b b) rest, write_s o (map word (flat_b b) ++ rest), write_bs q rest)

  write-k : {d : ℕ} {k : Case Range} → OkK d k → (rest : List ℕ) → case_at (block_at d) (map word (flat_k k) ++ rest) ≡ fits k rest
  write-k (ok_case {f = y} {v} {b} l o) rest =
      rw (words_append (v ++ flat_block b) ((2, y) ∷ []) rest, words_append v (flat_block b) (y ∷ rest), write-run l (map word (flat_block b) ++ y ∷ rest), write-b o (y ∷ rest))

  write-c : {d : ℕ} {ks : Cases Range} → OkC d ks → (rest : List ℕ) → cases (size_c ks) (case_at (block_at d)) (map word (flat_c ks) ++ rest) ≡ fits ks rest
  write-c ok_nomore rest = refl
  write-c (ok_also {k} {ks} o q) rest = rw (words_append (flat_k k) (flat_c ks) rest, write-k o (map word (flat_c ks) ++ rest), write-c q rest)

-- ---- functions and entry points
seven : (a b c d e f g : Cells) (rest : List ℕ)
    → map word (a ++ b ++ c ++ d ++ e ++ f ++ g) ++ rest ≡ map word a ++ (map word b ++ (map word c ++ (map word d ++ (map word e ++ (map word f ++ (map word g ++ rest))))))
seven a b c d e f g rest = simp words_append

-- LAW, of a function
pub write-function : (t : Function) → WellFunction t → (rest : List ℕ) → function_at (map word (flat t) ++ rest) ≡ fits t rest
unfolding function_at flat ◌⟫◌
write-function t w rest =
    rw (
      seven t.head (flat_list ARGUMENTS t.arguments) t.result (flat_list LOCALS t.locals) (flat_list EXPRESSIONS t.exprs) (flat_list NAMED t.named) (flat_block t.body) rest,
      write-run w.head_ok,
      write-listed w.arguments_ok,
      write-run w.result_ok_lem,
      write-listed w.locals_ok,
      write-listed w.exprs_ok,
      write-listed w.named_ok,
      write-b w.body_ok,
    )

-- LAW, of an entry point
pub write-entry : (e : Entry) → WellEntry e → (rest : List ℕ) → entry_at (map word (flat_entry e) ++ rest) ≡ fits e rest
unfolding entry_at flat_entry ◌⟫◌
write-entry e w rest = rw (words_append e.head (flat e.function) rest, write-run w.head_ok, write-function e.function w.function-ok rest)

-- LAW, of the special types
pub write-special : (s : Special) → Lays rays_row s.rays → Each (Lays pair_row) s.pairs → (rest : List ℕ) → special_at (length s.pairs) (map word (flat_special s) ++ rest) ≡ fits s rest
unfolding special_at flat_special ◌⟫◌
write-special s r ps rest = rw (words_append s.rays (flat_all s.pairs) rest, write-run r, write-rows ps rest)

-- ---- a function's cells, part by part
pub flat_right : (f : Function) → flat f ≡ f.head ++ (flat_list ARGUMENTS f.arguments ++ (f.result ++ (flat_list LOCALS f.locals ++ (flat_list EXPRESSIONS f.exprs ++ (flat_list NAMED f.named ++ flat_block f.body)))))
unfolding flat
flat_right f = simp append_assoc
