-- Trees in words and tags: a run of cells splits where the cells do, the tree is what the words are read as, and the lengths of statements lead through a block.
use mathlib.Core.Path.{◌≡◌, refl, sym, ap, ◌∙◌}
use mathlib.Core.List.{List, [], ◌∷◌, ◌++◌, map, append-nil}
use Prim.Native.Nat.{ℕ, suc, ◌+◌, ◌-◌, ◌≤◌, ◌<◌}
use native.Mathlib.Nat.{add-zero}
use native.Mathlib.Numerals.{add-one}
use native.Mathlib.Omega.{arith}
use lib.ListN.{length, get_or, length-append}
use Rattle.model.specs.Outcome.{Cell, Cells, class, word}
use Rattle.model.specs.Table.{BLOCK}
use Rattle.model.specs.Tree.{Stmt, stmt, Form, kill, Block, end, ◌then◌, Case, Cases, Range, size_b, flat_s, flat_b, flat_block, statement, block_at, DEPTH}
use Rattle.model.specs.Carry.{OkS, OkF, OkB, OkBs, OkK, OkC, ok_stmt, ok_emit, ok_block, ok_branch, ok_switch, ok_loop, ok_break, ok_continue, ok_return, ok_kill, ok-call, ok_effect, ok_deeper, ok_end, ok_then, ok_case, ok_nomore, ok_also}
use Rattle.theory_image.specs.Writing.{write_s, write-b}
use Rattle.intake_statements.specs.Tape.{cells_from, cells_in, got, block_of, stmt_of, HoldsB, HoldsS, Ends, Steps, steps-none, steps_next, stepped}

-- ---- runs
module _ (ws ts : List ℕ) where
  -- the cells from i on are cs
  abbrev pub Runs : ℕ → Cells → Type 0
  Runs i cs = cells_from (length cs) ws ts i ≡ cs

  pub runs_word : (i : ℕ) (c : Cell) (cs : Cells) → Runs i (c ∷ cs) → (get_or ts i 0 ≡ class c) × ((get_or ws i 0 ≡ word c) × Runs (suc i) cs)
  unfolding cells_from
  runs_word i c cs e =
      let q : (get_or ts i 0, get_or ws i 0) ≡ c = cc in
      (ap class q, (ap word q, cc))

  pub runs_split : (cs ds : Cells) (i : ℕ) → Runs i (cs ++ ds) → Runs i cs × Runs (i + length cs) ds
  unfolding cells_from
  runs_split [] ds i e = (refl, rw (add-zero i) e)
  runs_split (c ∷ cs) ds i e =
      let w = runs_word i c (cs ++ ds) e in
      let r = runs_split cs ds (suc i) w.1.1 in
      let q : suc i + length cs ≡ i + suc (length cs) = omega arith in
      let h : (get_or ts i 0, get_or ws i 0) ≡ c = cc in
      (ap ((get_or ts i 0, get_or ws i 0) ∷◌) r.0 ∙ ap (◌∷ cs) h, rw q at r.1)

  pub runs_between : (i j : ℕ) (cs : Cells) → cells_in ws ts i j ≡ cs → i + length cs ≡ j → Runs i cs
  unfolding cells_in
  runs_between i j cs e l = let q : j - i ≡ length cs = omega arith in rw q at e

  pub between_runs : (i j : ℕ) (cs : Cells) → Runs i cs → i + length cs ≡ j → cells_in ws ts i j ≡ cs
  unfolding cells_in
  between_runs i j cs e l = let q : j - i ≡ length cs = omega arith in rw q e

-- ---- depth: what fits d levels fits more
mutual
  pub up_s_lem : {d : ℕ} {s : Stmt Range} → OkS d s → OkS (suc d) s
  up_s_lem (ok_stmt o) = ok_stmt (up-f o)

  up-f : {d : ℕ} {f : Form Range} → OkF d f → OkF (suc d) f
  up-f ok_emit = ok_emit
  up-f (ok_block o) = ok_block (up-b o)
  up-f (ok_branch o q) = ok_branch (up-b o) (up-b q)
  up-f (ok_switch o) = ok_switch (up-c o)
  up-f (ok_loop o q) = ok_loop (up-b o) (up-b q)
  up-f ok_break = ok_break
  up-f ok_continue = ok_continue
  up-f ok_return = ok_return
  up-f ok_kill = ok_kill
  up-f ok-call = ok-call
  up-f (ok_effect e l) = ok_effect e l

  pub up-b : {d : ℕ} {b : Block Range} → OkB d b → OkB (suc d) b
  up-b (ok_deeper o) = ok_deeper (up_bs o)

  up_bs : {d : ℕ} {b : Block Range} → OkBs d b → OkBs (suc d) b
  up_bs ok_end = ok_end
  up_bs (ok_then o q) = ok_then (up_s_lem o) (up_bs q)

  up-k : {d : ℕ} {k : Case Range} → OkK d k → OkK (suc d) k
  up-k (ok_case l o) = ok_case l (up-b o)

  up-c : {d : ℕ} {ks : Cases Range} → OkC d ks → OkC (suc d) ks
  up-c ok_nomore = ok_nomore
  up-c (ok_also o q) = ok_also (up-k o) (up-c q)

pub down_b : {d : ℕ} {b : Block Range} → OkB (suc d) b → OkBs d b
down_b (ok_deeper o) = o

pub down_bs : {d : ℕ} {s : Stmt Range} {b : Block Range} → OkBs d (s then b) → OkS d s × OkBs d b
down_bs (ok_then o q) = (o, q)

-- ---- the tree is what the words are read as
module _ (ws ts : List ℕ) where
  pub block_is : (at fin : ℕ) (b : Block Range) → HoldsB ws ts at fin b → block_of ws ts at fin ≡ b
  unfolding block_of got
  block_is at fin b h =
      ap (λ l. got end (block_at DEPTH (map word l))) h.cells
      ∙ ap (λ l. got end (block_at DEPTH l)) (sym (append-nil (map word (flat_block b))))
      ∙ ap (got end) (write-b h.ok [])

  pub stmt_is : (at stop : ℕ) (s : Stmt Range) → HoldsS ws ts at stop s → stmt_of ws ts at stop ≡ s
  unfolding stmt_of got
  stmt_is at stop s h =
      ap (λ l. got (stmt 0 0 kill) (statement (block_at DEPTH) (map word l))) h.cells
      ∙ ap (λ l. got (stmt 0 0 kill) (statement (block_at DEPTH) l)) (sym (append-nil (map word (flat_s s))))
      ∙ ap (got (stmt 0 0 kill)) (write_s h.ok [])

  pub block_held : (at fin : ℕ) (b : Block Range) → HoldsB ws ts at fin b → HoldsB ws ts at fin (block_of ws ts at fin)
  block_held at fin b h = rw (block_is at fin b h) h

  pub stmt_held : (at stop : ℕ) (s : Stmt Range) → HoldsS ws ts at stop s → HoldsS ws ts at stop (stmt_of ws ts at stop)
  stmt_held at stop s h = rw (stmt_is at stop s h) h

  pub ends_in : {count at fin : ℕ} (at' fin' : ℕ) → Ends ws ts count at fin → at ≤ at' → fin' ≤ fin → Ends ws ts count at' fin'
  ends_in at' fin' e h k = record { low = λ i p q t. e.low i (omega arith) (omega arith) t }

  -- ---- through a block
  pub stmt_long : (s : Stmt Range) → 4 ≤ length (flat_s s)
  unfolding flat_s
  stmt_long (stmt a b f) = omega arith

  pub stmt_length : (s : Stmt Range) (i : ℕ) (ds : Cells) → Runs ws ts i (flat_s s ++ ds) → get_or ws i 0 ≡ length (flat_s s)
  unfolding flat_s
  stmt_length (stmt a b f) i ds e = (runs_word ws ts i _ _ e).1.0

  pub steps_of : (b : Block Range) (i : ℕ) → Runs ws ts i (flat_b b) → i + length (flat_b b) ≤ 16384 → Steps ws (size_b b) i × (stepped (size_b b) ws i ≡ i + length (flat_b b))
  unfolding flat_b size_b stepped
  steps_of end i e h = (steps-none, sym (add-zero i))
  steps_of (s then b) i e h =
      let l : get_or ws i 0 ≡ length (flat_s s) = stmt_length s i (flat_b b) e in
      let a = length-append (flat_s s) (flat_b b) in
      let q = runs_split ws ts (flat_s s) (flat_b b) i e in
      let r = steps_of b (i + length (flat_s s)) q.1 (omega arith) in
      let g = stmt_long s in
      let n : stepped (size_b b) ws (i + length (flat_s s)) ≡ i + length (flat_s s ++ flat_b b) = r.1 ∙ omega arith in
      (steps_next {n = size_b b} {i = i} (omega arith) (omega arith) (rw l r.0), ap (λ x. stepped (size_b b) ws (i + x)) l ∙ n)

  module _ (at fin : ℕ) (b : Block Range) (h : HoldsB ws ts at fin b) where
    block_runs : Runs ws ts at (flat_block b)
    block_runs = runs_between ws ts at fin (flat_block b) h.cells h.long

    pub block_tag : get_or ts at 0 ≡ BLOCK
    unfolding flat_block
    block_tag = (runs_word ws ts at (BLOCK, size_b b) (flat_b b) block_runs).0

    pub block_size : get_or ws at 0 ≡ size_b b
    unfolding flat_block
    block_size = (runs_word ws ts at (BLOCK, size_b b) (flat_b b) block_runs).1.0

    pub block_body : Runs ws ts (at + 1) (flat_b b)
    unfolding flat_block
    block_body = rw (add-one at) (runs_word ws ts at (BLOCK, size_b b) (flat_b b) block_runs).1.1

    pub block_long : at + 1 + length (flat_b b) ≡ fin
    unfolding flat_block
    block_long = omega (arith, h.long)

    pub skip_low : at < 16384
    skip_low = omega (arith, block_long, h.within)

    pub skip_ok : Steps ws (get_or ws at 0) (at + 1)
    skip_ok = rw block_size (steps_of b (at + 1) block_body (omega (arith, block_long, h.within))).0

    pub skip_is : stepped (get_or ws at 0) ws (at + 1) ≡ fin
    skip_is = rw block_size ((steps_of b (at + 1) block_body (omega (arith, block_long, h.within))).1 ∙ block_long)
