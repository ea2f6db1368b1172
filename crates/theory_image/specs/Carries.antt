-- The laws of carrying: the flat list of the carried tree is the flat list with each cell carried, and the carried tree is well formed. Both need that counts, lengths, kinds and codes are kept.
use Rattle.std.specs.Prelude.{◌≡◌, Bool, get_or}
use Rattle.std.proofs.Math.Path.{refl, sym, ap, ap₂}
use Rattle.std.proofs.Common.{◌∙◌, arith}
use Rattle.std.proofs.Math.Bool.{true, false}
use Rattle.std.proofs.Math.Option.{Option}
use mathlib.Core.List.{List, [], ◌∷◌, ◌++◌, map, zip_with}
use Prim.Native.Nat.{ℕ, zero, suc, ◌+◌, ◌≤◌, ◌<◌}
use Rattle.std.proofs.Math.Dec.{ltb}
use Rattle.std.proofs.Math.ListN.{length, length-map}
use borrow.Author.Tests.{ltb-false}
use Rattle.theory_lists.specs.Lists.{map-append, map_append₃, map-map, map_same}
use Rattle.model.specs.Outcome.{Cell, Cells, class, word}
use Rattle.model.specs.Table.{Row, EXPR, OPT_EXPR, OPT_RESULT, PLACE, PAD, OPERANDS, ARGUMENTS, LOCALS, EXPRESSIONS, NAMED, BLOCK, CASES, LENGTH, STMT_KIND, more}
use Rattle.model.specs.Tree.{Stmt, Form, Block, Cases, Case, stmt, emit, block, branch, switch, loop, break, continue, return, kill, call, effect, end, ◌then◌, nomore, ◌also◌, case, Range, Function, Entry, word_of, kind_of, size_b, size_c, flat_s, flat_f, flat_b, flat_k, flat_c, flat_x, flat_all, flat_list, flat_block, flat, flat_entry}
use Rattle.model.specs.Module.{Special, Module, places, flat_table, flat_special, Section, sections, pairs_from, bodies, flat_module, HEADER}
use Rattle.model.specs.Carry.{Keeps, carry_cell, carry_cells, carry_opt, carry_range, carry_s, carry_f, carry_b, carry_k, carry_c, carry_function, carry_entry, carry_special, carry, Lays, lays_none, lays_next, Each, each_none, each_next, Listed, OkS, OkF, OkB, OkBs, OkK, OkC, ok_stmt, ok_emit, ok_block, ok_branch, ok_switch, ok_loop, ok_break, ok_continue, ok_return, ok_kill, ok-call, ok_effect, ok_deeper, ok_end, ok_then, ok_case, ok_nomore, ok_also, WellFunction, WellEntry, Tabled, WellFormed}
use Rattle.theory_image.specs.Words.{word_of_lem}

module _ (m : ℕ → ℕ → ℕ) where
  size_b_lem : (b : Block Range) → size_b (carry_b m b) ≡ size_b b
  unfolding size_b carry_b
  size_b_lem end = refl
  size_b_lem (s then b) = ap suc (size_b_lem b)

  size_c_lem : (ks : Cases Range) → size_c (carry_c m ks) ≡ size_c ks
  unfolding size_c carry_c
  size_c_lem nomore = refl
  size_c_lem (k also ks) = ap suc (size_c_lem ks)

  kind-f : (x : Form Range) → kind_of (carry_f m x) ≡ kind_of x
  unfolding kind_of carry_f
  kind-f (emit r) = refl
  kind-f (block b) = refl
  kind-f (branch c a b) = refl
  kind-f (switch c ks) = refl
  kind-f (loop a b o) = refl
  kind-f break = refl
  kind-f continue = refl
  kind-f (return o) = refl
  kind-f kill = refl
  kind-f (call f xs r) = refl
  kind-f (effect k cs) = refl

  length-m : (cs : Cells) → length (carry_cells m cs) ≡ length cs
  length-m cs = length-map cs (carry_cell m)

  -- a cell keeps its class, and its word is rewritten by it: what a pass over words and tags does
  pub carried-classes : (cs : Cells) → map class (carry_cells m cs) ≡ map class cs
  unfolding carry_cell
  carried-classes [] = refl
  carried-classes (c ∷ cs) = ap (class c ∷◌) (carried-classes cs)

  pub carried_words : (cs : Cells) → map word (carry_cells m cs) ≡ zip_with m (map class cs) (map word cs)
  unfolding carry_cell zip_with
  carried_words [] = refl
  carried_words (c ∷ cs) = ap (m (class c) (word c) ∷◌) (carried_words cs)

  pub carried-word : (cs : Cells) (i : ℕ) → i < length cs → get_or (map word (carry_cells m cs)) i 0 ≡ m (get_or (map class cs) i 0) (get_or (map word cs) i 0)
  unfolding carry_cell
  carried-word [] i h = absurd (omega arith)
  carried-word (c ∷ cs) zero h = refl
  carried-word (c ∷ cs) (suc i) h = carried-word cs i (omega arith)

  opt_word_lem : (s : ℕ) (o : Option ℕ) → word_of (carry_opt m s o) ≡ m s (word_of o)
  unfolding carry_opt
  opt_word_lem s o = word_of_lem (m s (word_of o))

module _ (m : ℕ → ℕ → ℕ) (keeps : Keeps m) where
  -- a cell of a class that is kept
  kept-cell : (s w : ℕ) → PLACE ≤ s → carry_cell m (s, w) ≡ (s, w)
  unfolding carry_cell
  kept-cell s w h = ap (λ x. (s, x)) (keeps.kept s w h)

  -- a word whose class is kept
  pub kept_word : (cs : Cells) (i : ℕ) → i < length cs → PLACE ≤ get_or (map class cs) i 0 → get_or (map word (carry_cells m cs)) i 0 ≡ get_or (map word cs) i 0
  kept_word cs i h k = carried-word m cs i h ∙ keeps.kept (get_or (map class cs) i 0) (get_or (map word cs) i 0) k

  block_cell : (b : Block Range) → ◌≡◌ {A = Cell} (BLOCK, size_b (carry_b m b)) (carry_cell m (BLOCK, size_b b))
  block_cell b = ap (λ n. (BLOCK, n)) (size_b_lem m b) ∙ sym (kept-cell BLOCK (size_b b) (omega arith))

  cases-cell : (ks : Cases Range) → ◌≡◌ {A = Cell} (CASES, size_c (carry_c m ks)) (carry_cell m (CASES, size_c ks))
  cases-cell ks = ap (λ n. (CASES, n)) (size_c_lem m ks) ∙ sym (kept-cell CASES (size_c ks) (omega arith))

  opt_cell : (s : ℕ) (o : Option ℕ) → ◌≡◌ {A = Cell} (s, word_of (carry_opt m s o)) (carry_cell m (s, word_of o))
  unfolding carry_cell
  opt_cell s o = ap (λ n. (s, n)) (opt_word_lem m s o)

  flat-xs : (xs : List ℕ) → ◌≡◌ {A = Cells} (map (λ x. (EXPR, x)) (map (m EXPR) xs)) (carry_cells m (map (λ x. (EXPR, x)) xs))
  unfolding carry_cell
  flat-xs [] = refl
  flat-xs (x ∷ xs) = ap (λ l. (EXPR, m EXPR x) ∷ l) (flat-xs xs)

  flat-x : (xs : List ℕ) → flat_x (map (m EXPR) xs) ≡ carry_cells m (flat_x xs)
  unfolding flat_x
  flat-x xs = ap₂ (λ c l. c ∷ l) (ap (λ n. (OPERANDS, n)) (length-map xs (m EXPR)) ∙ sym (kept-cell OPERANDS (length xs) (omega arith))) (flat-xs xs)

  mutual
    unfolding flat_s carry_s carry_cell carry_range

    flat_s_lem : (s : Stmt Range) → flat_s (carry_s m s) ≡ carry_cells m (flat_s s)
    flat_s_lem (stmt a b x) =
        rw (kind-f m x, flat-f x, length-m m (flat_f x), keeps.kept LENGTH (suc (suc (suc (suc (length (flat_f x)))))) (omega arith), keeps.kept STMT_KIND (kind_of x) (omega arith))

    flat-f : (x : Form Range) → flat_f (carry_f m x) ≡ carry_cells m (flat_f x)
    flat-f (emit r) = refl
    flat-f (block b) = ap₂ (λ c l. c ∷ l) (block_cell b) (flat-b b)
    flat-f (branch c a b) = rw (block_cell a, block_cell b, flat-b a, flat-b b) (simp map-append)
    flat-f (switch c ks) = ap₂ (λ x l. (EXPR, m EXPR c) ∷ x ∷ l) (cases-cell ks) (flat-c ks)
    flat-f (loop a b o) = rw (block_cell a, block_cell b, flat-b a, flat-b b, opt_cell OPT_EXPR o) (sym (map_append₃ (carry_cell m) ((BLOCK, size_b a) ∷ flat_b a) ((BLOCK, size_b b) ∷ flat_b b) ((OPT_EXPR, word_of o) ∷ [])))
    flat-f break = refl
    flat-f continue = refl
    flat-f (return o) = ap (λ c. c ∷ []) (opt_cell OPT_EXPR o)
    flat-f kill = refl
    flat-f (call f xs r) = rw (flat-x xs, opt_cell OPT_RESULT r) (simp map-append)
    flat-f (effect k cs) = refl

    flat-b : (b : Block Range) → flat_b (carry_b m b) ≡ carry_cells m (flat_b b)
    flat-b end = refl
    flat-b (s then b) = ap₂ ◌++◌ (flat_s_lem s) (flat-b b) ∙ sym (map-append (carry_cell m) (flat_s s) (flat_b b))

    flat-k : (k : Case Range) → flat_k (carry_k m k) ≡ carry_cells m (flat_k k)
    flat-k (case v b x) = rw (block_cell b, flat-b b) (sym (map_append₃ (carry_cell m) v ((BLOCK, size_b b) ∷ flat_b b) ((2, x) ∷ [])))

    flat-c : (ks : Cases Range) → flat_c (carry_c m ks) ≡ carry_cells m (flat_c ks)
    flat-c nomore = refl
    flat-c (k also ks) = ap₂ ◌++◌ (flat-k k) (flat-c ks) ∙ sym (map-append (carry_cell m) (flat_k k) (flat_c ks))

  flat-all : (rs : List Cells) → flat_all (map (carry_cells m) rs) ≡ carry_cells m (flat_all rs)
  unfolding flat_all
  flat-all [] = refl
  flat-all (r ∷ rs) = ap (carry_cells m r ++◌) (flat-all rs) ∙ sym (map-append (carry_cell m) r (flat_all rs))

  flat_list_lem : (s : ℕ) → PLACE ≤ s → (rs : List Cells) → flat_list s (map (carry_cells m) rs) ≡ carry_cells m (flat_list s rs)
  unfolding flat_list
  flat_list_lem s h rs = ap₂ (λ c l. c ∷ l) (ap (λ n. (s, n)) (length-map rs (carry_cells m)) ∙ sym (kept-cell s (length rs) h)) (flat-all rs)

  pub flat_block_lem : (b : Block Range) → flat_block (carry_b m b) ≡ carry_cells m (flat_block b)
  unfolding flat_block
  flat_block_lem b = ap₂ (λ c l. c ∷ l) (block_cell b) (flat-b b)

  -- LAW, of a function: flat of the carried is the carried flat
  pub flat_carry_function : (t : Function) → flat (carry_function m t) ≡ carry_cells m (flat t)
  unfolding flat carry_function
  flat_carry_function t =
      rw (flat_list_lem ARGUMENTS (omega arith) t.arguments, flat_list_lem LOCALS (omega arith) t.locals, flat_list_lem EXPRESSIONS (omega arith) t.exprs, flat_list_lem NAMED (omega arith) t.named, flat_block_lem t.body)
      (simp map-append)

  pub flat_carry_entry : (e : Entry) → flat_entry (carry_entry m e) ≡ carry_cells m (flat_entry e)
  unfolding flat_entry carry_entry
  flat_carry_entry e = ap (carry_cells m e.head ++◌) (flat_carry_function e.function) ∙ sym (map-append (carry_cell m) e.head (flat e.function))

  pub flat_carry_special : (s : Special) → flat_special (carry_special m s) ≡ carry_cells m (flat_special s)
  unfolding flat_special carry_special
  flat_carry_special s = ap (carry_cells m s.rays ++◌) (flat-all s.pairs) ∙ sym (map-append (carry_cell m) s.rays (flat_all s.pairs))

  -- ---- tables and the image
  flat-places : (at : ℕ) (rs : List Cells) → places at (map (carry_cells m) rs) ≡ carry_cells m (places at rs)
  unfolding places
  flat-places at [] = refl
  flat-places at (r ∷ rs) = rw (length-m m r) (ap₂ (λ c l. c ∷ l) (sym (kept-cell PLACE at (omega arith))) (flat-places (at + length r) rs))

  pub flat_carry_table : (rs : List Cells) → flat_table (map (carry_cells m) rs) ≡ carry_cells m (flat_table rs)
  unfolding flat_table
  flat_carry_table rs = rw (length-map rs (carry_cells m), flat-places (length rs) rs, flat-all rs) (sym (map-append (carry_cell m) (places (length rs) rs) (flat_all rs)))

  -- a section's cells carried
  abbrev carry_section : Section → Section
  carry_section s = (s.0, carry_cells m s.1)

  carried-pairs : (at : ℕ) (ss : List Section) → pairs_from at (map carry_section ss) ≡ carry_cells m (pairs_from at ss)
  unfolding pairs_from
  carried-pairs at [] = refl
  carried-pairs at (s ∷ ss) =
      rw (length-m m s.1, kept-cell PLACE s.0 (omega arith), kept-cell PLACE at (omega arith)) (ap (λ l. (PLACE, s.0) ∷ (PLACE, at) ∷ l) (carried-pairs (at + length s.1) ss))

  carried-bodies : (ss : List Section) → bodies (map carry_section ss) ≡ carry_cells m (bodies ss)
  unfolding bodies
  carried-bodies [] = refl
  carried-bodies (s ∷ ss) = ap (carry_cells m s.1 ++◌) (carried-bodies ss) ∙ sym (map-append (carry_cell m) s.1 (bodies ss))

  -- a table of records that are no cells
  carried-table : {A : Type 0} (f : A → A) (g : A → Cells) → ((a : A) → g (f a) ≡ carry_cells m (g a)) → (l : List A) → flat_table (map g (map f l)) ≡ carry_cells m (flat_table (map g l))
  carried-table f g h l =
      ap flat_table (map-map g f l ∙ map_same (λ a. g (f a)) (λ a. carry_cells m (g a)) h l ∙ sym (map-map (carry_cells m) g l)) ∙ flat_carry_table (map g l)

  carried-sections : (t : Module) → sections (carry m t) ≡ map carry_section (sections t)
  unfolding sections carry carry_special
  carried-sections t =
      rw (
        length-map t.names (carry_cells m),
        length-map t.types (carry_cells m),
        length-map t.constants (carry_cells m),
        length-map t.overrides (carry_cells m),
        length-map t.globals (carry_cells m),
        length-map t.exprs (carry_cells m),
        length-map t.functions (carry_function m),
        length-map t.entries (carry_entry m),
        length-map t.special.pairs (carry_cells m),
        flat_carry_table t.names,
        flat_carry_table t.types,
        flat_carry_table t.constants,
        flat_carry_table t.overrides,
        flat_carry_table t.globals,
        flat_carry_table t.exprs,
        carried-table (carry_function m) flat flat_carry_function t.functions,
        carried-table (carry_entry m) flat_entry flat_carry_entry t.entries,
        flat_carry_special t.special,
      )

  -- LAW, of a module: flat of the carried is the carried flat
  pub flat-carry : (t : Module) → flat_module (carry m t) ≡ carry_cells m (flat_module t)
  unfolding flat_module
  flat-carry t =
      rw (
        carried-sections t,
        carried-bodies (sections t),
        carried-pairs HEADER (sections t),
        length-m m (bodies (sections t)),
        kept-cell PLACE 1 (omega arith),
        kept-cell PLACE (HEADER + length (bodies (sections t))) (omega arith),
        map-append (carry_cell m) (pairs_from HEADER (sections t)) (bodies (sections t)),
      )

  -- ---- the carried tree is well formed again: a word that others depend on is kept
  more-carried : (s w : ℕ) → more s (m s w) ≡ more s w
  unfolding more
  more-carried s w = go (ltb s PAD) refl
    where
      go : (b : Bool) → ltb s PAD ≡ b → more s (m s w) ≡ more s w
      go true e = rw (more, e)
      go false e = let h = ltb-false s PAD e in ap (more s) (keeps.kept s w (omega arith))

  pub lays_carry : {ss : Row} {cs : Cells} → Lays ss cs → Lays ss (carry_cells m cs)
  unfolding carry_cell
  lays_carry lays_none = lays_none
  lays_carry (lays_next {s} {w} e l) = lays_next (more-carried s w ∙ e) (lays_carry l)

  each_carry : {A : Type 0} {P : A → Type 0} (f : A → A) → ((a : A) → P a → P (f a)) → {l : List A} → Each P l → Each P (map f l)
  each_carry f h each_none = each_none
  each_carry f h (each_next {a} p ps) = each_next (h a p) (each_carry f h ps)

  each_lays : {ss : Row} {rs : List Cells} → Each (Lays ss) rs → Each (Lays ss) (map (carry_cells m) rs)
  each_lays = each_carry (carry_cells m) λ cs l. lays_carry l

  listed-carry : {s : ℕ} {rs : List Cells} → Listed s rs → Listed s (map (carry_cells m) rs)
  listed-carry {s} {rs} h = record { few = rw (length-map rs (carry_cells m)) h.few; each = each_lays h.each }

  mutual
    unfolding carry_s

    ok_s_lem : {d : ℕ} {s : Stmt Range} → OkS d s → OkS d (carry_s m s)
    ok_s_lem (ok_stmt x) = ok_stmt (ok_f_lem x)

    ok_f_lem : {d : ℕ} {x : Form Range} → OkF d x → OkF d (carry_f m x)
    ok_f_lem ok_emit = ok_emit
    ok_f_lem (ok_block b) = ok_block (ok-b b)
    ok_f_lem (ok_branch a b) = ok_branch (ok-b a) (ok-b b)
    ok_f_lem (ok_switch ks) = ok_switch (ok-c ks)
    ok_f_lem (ok_loop a b) = ok_loop (ok-b a) (ok-b b)
    ok_f_lem ok_break = ok_break
    ok_f_lem ok_continue = ok_continue
    ok_f_lem ok_return = ok_return
    ok_f_lem ok_kill = ok_kill
    ok_f_lem ok-call = ok-call
    ok_f_lem (ok_effect e l) = ok_effect e (lays_carry l)

    pub ok-b : {d : ℕ} {b : Block Range} → OkB d b → OkB d (carry_b m b)
    ok-b (ok_deeper b) = ok_deeper (ok_bs_lem b)

    ok_bs_lem : {d : ℕ} {b : Block Range} → OkBs d b → OkBs d (carry_b m b)
    ok_bs_lem ok_end = ok_end
    ok_bs_lem (ok_then s b) = ok_then (ok_s_lem s) (ok_bs_lem b)

    ok-k : {d : ℕ} {k : Case Range} → OkK d k → OkK d (carry_k m k)
    ok-k (ok_case v b) = ok_case (lays_carry v) (ok-b b)

    ok-c : {d : ℕ} {ks : Cases Range} → OkC d ks → OkC d (carry_c m ks)
    ok-c ok_nomore = ok_nomore
    ok-c (ok_also k ks) = ok_also (ok-k k) (ok-c ks)

  -- LAW: the carried is well formed
  pub carry_well_function : (t : Function) → WellFunction t → WellFunction (carry_function m t)
  unfolding carry_function
  carry_well_function t w = record {
    head_ok = lays_carry w.head_ok;
    arguments_ok = listed-carry w.arguments_ok;
    result_ok_lem = lays_carry w.result_ok_lem;
    locals_ok = listed-carry w.locals_ok;
    exprs_ok = listed-carry w.exprs_ok;
    named_ok = listed-carry w.named_ok;
    body_ok = ok-b w.body_ok;
  }

  pub carry_well_entry : (e : Entry) → WellEntry e → WellEntry (carry_entry m e)
  unfolding carry_entry
  carry_well_entry e w = record { head_ok = lays_carry w.head_ok; function-ok = carry_well_function e.function w.function-ok }

  tabled-carry : {A : Type 0} {P : A → Type 0} {n : ℕ} {l : List A} (f : A → A) → ((a : A) → P a → P (f a)) → Tabled P n l → Tabled P n (map f l)
  tabled-carry {l} f h t = record { few = rw (length-map l f) t.few; each = each_carry f h t.each }

  tabled_lays : {ss : Row} {n : ℕ} {rs : List Cells} → Tabled (Lays ss) n rs → Tabled (Lays ss) n (map (carry_cells m) rs)
  tabled_lays = tabled-carry (carry_cells m) λ cs l. lays_carry l

  pub carry_well : (t : Module) → WellFormed t → WellFormed (carry m t)
  unfolding carry carry_special
  carry_well t w = record {
    names_ok = tabled_lays w.names_ok;
    types-ok = tabled_lays w.types-ok;
    constants_ok = tabled_lays w.constants_ok;
    overrides_ok = tabled_lays w.overrides_ok;
    globals_ok = tabled_lays w.globals_ok;
    exprs_ok = tabled_lays w.exprs_ok;
    functions_ok = tabled-carry (carry_function m) carry_well_function w.functions_ok;
    entries_ok = tabled-carry (carry_entry m) carry_well_entry w.entries_ok;
    rays-ok = lays_carry w.rays-ok;
    pairs-ok = tabled_lays w.pairs-ok;
  }
