-- A statement with blocks that is no Loop, seen as words and blocks one after the other: what is left from here is the whole.
use mathlib.Core.Path.{◌≡◌, refl, sym, ap, ◌∙◌, subst}
use mathlib.Core.Logic.{◌⊎◌, inl, inr, ⊎_elim}
use mathlib.Core.Bool.{Bool, true, false, ◌&&◌, ◌||◌}
use Rattle.std.proofs.Math.Bool.{or_assoc, or-false}
use mathlib.Core.List.{List, [], ◌∷◌, ◌++◌, append-nil, append_assoc}
use mathlib.Core.Option.{some}
use Prim.Native.Nat.{ℕ, zero, suc, ◌+◌, ◌≤◌, ◌<◌}
use native.Mathlib.Numerals.{add-one}
use native.Mathlib.Omega.{arith}
use lib.ListN.{length, get_or, length-append, get_elem?}
use Rattle.theory_lists.specs.Booleans.{and_right}
use Rattle.model.specs.Outcome.{Cell, Cells, class, word}
use Rattle.model.specs.Table.{Row, EXPR, OPT_EXPR, WORD, VALUE, BLOCK, CASES, values, variants, variant, brings, more, statements, s_call, s_effect}
use Rattle.model.specs.Tree.{Stmt, stmt, Form, emit, block, branch, switch, loop, break, continue, return, kill, call, effect, Block, case, Cases, nomore, ◌also◌, Range, kind_of, size_b, size_c, flat_s, flat_f, flat_b, flat_c, flat_block, DEPTH}
use Rattle.model.specs.Carry.{Lays, lays_none, lays_next, Each, each_none, each_next, OkS, OkF, OkB, OkC, ok_stmt, ok_block, ok_branch, ok_switch, ok_effect, ok_case, ok_also}
use Rattle.model.specs.Operands.{operand, standing}
use Rattle.model.specs.Scope.{Place, in_switch, expand_s, expand_f, expand, expand_k, expand_c, evals_s, evals_f, evals_b, evals_k, evals_c, add_e, add_s, add_f, holds_s, holds_f, holds_b, holds_k, holds_c, cont_b, vis, all_vis}
use Rattle.intake_statements.specs.Fine.{keep_all, done_b, done_s, done_k, done_c, fine_s, fine_f, fine_b, fine_k, fine_c}
use Rattle.intake_statements.specs.Tape.{stmt_of, HoldsB, HoldsS, exprs_of, Steps, stepped, marks}
use Rattle.intake_statements.specs.Lasts.{Scope, Kept, visible_at, all_seen}
use Rattle.std.specs.Prelude.{Some, None}
use Rattle.std.specs.declared.option.Option as code
use Rattle.intake_blocks.specs.declared.Flow.{Flow}
use Rattle.intake_blocks.specs.declared.Flow.TheVariants.{Through}
use Rattle.intake_blocks.specs.Found.{flow_of, told, place_of, StmtHere, BlockHere, FindsS, FindsB, FoundS, FoundB}
use Rattle.intake_statements.proofs.Restated.{add_e-append}
use Rattle.intake_statements.proofs.Leaves.{operand_expr, operand-other}
use Rattle.intake_statements.proofs.Scopes.{seen_is, scope_on, scope_less, kept-all, kept_more, kept_then}
use Rattle.intake_statements.proofs.Results.{brings_one, plain}
use Rattle.intake_blocks.proofs.Trees.{Runs, runs_word, runs_split, runs_between, between_runs, block_is, block_held, ends_in, skip_low, skip_ok, skip_is}
use Rattle.intake_blocks.proofs.Blocks.{told_yes, told_no, told_some, finds-none, leave}

-- ---- words and blocks
pub data Parts : Type 0 where
  nothing : Parts
  cell : ℕ → ℕ → Parts → Parts
  inner : Block Range → Parts → Parts

unfoldable pub flat_p : Parts → Cells
flat_p nothing = []
flat_p (cell s w ps) = (s, w) ∷ flat_p ps
flat_p (inner b ps) = flat_block b ++ flat_p ps

-- no word of a part is a block's
pub data OkP : Parts → Type 0 where
  okp_nothing : OkP nothing
  okp_cell : {s w : ℕ} {ps : Parts} → (s ≡ BLOCK → ⊥) → OkP ps → OkP (cell s w ps)
  okp_inner : {b : Block Range} {ps : Parts} → OkB DEPTH b → OkP ps → OkP (inner b ps)

unfoldable pub fine_p : List Cells → (ℕ → Bool) → Parts → Place → List ℕ → List ℕ → Bool
fine_p xs dr nothing p ρ δ = true
fine_p xs dr (cell s w ps) p ρ δ = all_vis (standing xs) ρ (operand s w []) && fine_p xs dr ps p ρ δ
fine_p xs dr (inner b ps) p ρ δ = fine_b xs dr b p ρ δ && fine_p xs dr ps p ρ (done_b b δ)

unfoldable pub done_p : Parts → List ℕ → List ℕ
done_p nothing δ = δ
done_p (cell s w ps) δ = done_p ps δ
done_p (inner b ps) δ = done_p ps (done_b b δ)

unfoldable pub holds_p : (ℕ → Bool) → Parts → Bool
holds_p dr nothing = false
holds_p dr (cell s w ps) = holds_p dr ps
holds_p dr (inner b ps) = holds_b (expand b dr) || holds_p dr ps

-- ---- a case: its value reads nothing and is no block
record Quiet (c : Cell) : Type 0 where
  pub no_block : class c ≡ BLOCK → ⊥
  pub no_expr : class c ≡ EXPR → ⊥
  pub no_option : class c ≡ OPT_EXPR → ⊥

quiet : (s w : ℕ) → (s ≡ BLOCK → ⊥) → (s ≡ EXPR → ⊥) → (s ≡ OPT_EXPR → ⊥) → Quiet (s, w)
quiet s w a b c = record { no_block = a; no_expr = b; no_option = c }

value_row : (w : ℕ) (row : Row) → more VALUE w ≡ brings row → (row ≡ WORD ∷ []) ⊎ (row ≡ [])
unfolding more variants variant values
value_row zero row e = inl (cc)
value_row (suc zero) row e = inl (cc)
value_row (suc (suc zero)) row e = inr (cc)
value_row (suc (suc (suc w))) row e = cc

word-quiet : {cs : Cells} → Lays (WORD ∷ []) cs → Each Quiet cs
word-quiet (lays_next {w = w} e l) = go (rw (brings_one e (plain WORD w (omega arith))) at l)
  where
    go : {cs : Cells} → Lays [] cs → Each Quiet ((WORD, w) ∷ cs)
    go lays_none = each_next (quiet WORD w (λ q. omega arith) (λ q. omega arith) (λ q. omega arith)) each_none

none-quiet : {cs : Cells} → Lays [] cs → Each Quiet cs
none-quiet lays_none = each_none

value_quiet : {cs : Cells} → Lays (VALUE ∷ []) cs → Each Quiet cs
value_quiet (lays_next {w = w} {xs = row} {cs = cs} e l) =
    each_next (quiet VALUE w (λ q. omega arith) (λ q. omega arith) (λ q. omega arith)) (⊎_elim (λ q. word-quiet (rw q at l)) (λ q. none-quiet (rw q at l)) (value_row w row e))

unfoldable pub cells : Cells → Parts → Parts
cells [] ps = ps
cells (c ∷ cs) ps = cell (class c) (word c) (cells cs ps)

unfoldable pub parts_c : Cases Range → Parts
parts_c nomore = nothing
parts_c (case v b f also ks) = cells v (inner b (cell 2 f (parts_c ks)))

unfoldable pub parts_f : Form Range → Parts
parts_f (emit r) = nothing
parts_f (block b) = inner b nothing
parts_f (branch c a b) = cell EXPR c (inner a (inner b nothing))
parts_f (switch c ks) = cell EXPR c (cell CASES (size_c ks) (parts_c ks))
parts_f (loop a b x) = nothing
parts_f break = nothing
parts_f continue = nothing
parts_f (return x) = nothing
parts_f kill = nothing
parts_f (call f xs r) = nothing
parts_f (effect k cs) = nothing

flat_cells : (v : Cells) (ps : Parts) → flat_p (cells v ps) ≡ v ++ flat_p ps
unfolding cells flat_p
flat_cells [] ps = refl
flat_cells (c ∷ v) ps = ap (c ∷◌) (flat_cells v ps)

ok_cells : (v : Cells) (ps : Parts) → Each Quiet v → OkP ps → OkP (cells v ps)
unfolding cells
ok_cells [] ps q o = o
ok_cells (c ∷ v) ps (each_next q qs) o = okp_cell q.no_block (ok_cells v ps qs o)

module _ (xs : List Cells) (dr : ℕ → Bool) where
  fine_cells : (v : Cells) (ps : Parts) (p : Place) (ρ δ : List ℕ) → Each Quiet v → fine_p xs dr (cells v ps) p ρ δ ≡ fine_p xs dr ps p ρ δ
  unfolding cells fine_p all_vis
  fine_cells [] ps p ρ δ q = refl
  fine_cells (c ∷ v) ps p ρ δ (each_next q qs) = rw (operand-other (class c) (word c) [] q.no_expr q.no_option) (fine_cells v ps p ρ δ qs)

  done_cells : (v : Cells) (ps : Parts) (δ : List ℕ) → done_p (cells v ps) δ ≡ done_p ps δ
  unfolding cells done_p
  done_cells [] ps δ = refl
  done_cells (c ∷ v) ps δ = done_cells v ps δ

  holds_cells : (v : Cells) (ps : Parts) → holds_p dr (cells v ps) ≡ holds_p dr ps
  unfolding cells holds_p
  holds_cells [] ps = refl
  holds_cells (c ∷ v) ps = holds_cells v ps

  -- ---- cases
  regroup : (v b t c : Cells) → v ++ (b ++ (t ++ c)) ≡ ((v ++ b) ++ t) ++ c
  regroup v b t c = simp append_assoc

  flat-c : (ks : Cases Range) → flat_p (parts_c ks) ≡ flat_c ks
  unfolding parts_c flat_p flat_c flat_block
  flat-c nomore = refl
  flat-c (case v b f also ks) = flat_cells v (inner b (cell 2 f (parts_c ks))) ∙ rw (flat-c ks) (regroup v ((BLOCK, size_b b) ∷ flat_b b) ((2, f) ∷ []) (flat_c ks))

  ok-c : (ks : Cases Range) → OkC DEPTH ks → OkP (parts_c ks)
  unfolding parts_c
  ok-c nomore o = okp_nothing
  ok-c (case v b f also ks) (ok_also (ok_case l o) q) = ok_cells v (inner b (cell 2 f (parts_c ks))) (value_quiet l) (okp_inner o (okp_cell (λ e. omega arith) (ok-c ks q)))

  fine-c : (ks : Cases Range) (p : Place) (ρ δ : List ℕ) → OkC DEPTH ks → fine_c xs dr ks p ρ δ ≡ fine_p xs dr (parts_c ks) p ρ δ
  unfolding parts_c fine_c fine_k fine_p done_k done_b evals_k expand_k all_vis
  fine-c nomore p ρ δ o = refl
  fine-c (case v b f also ks) p ρ δ (ok_also (ok_case l o) q) =
      sym (fine_cells v (inner b (cell 2 f (parts_c ks))) p ρ δ (value_quiet l)
      ∙ ap (fine_b xs dr b p ρ δ &&◌) (rw (operand-other 2 f [] (λ e. omega arith) (λ e. omega arith)) (sym (fine-c ks p ρ (done_k (case v b f) δ) q))))

  done_c_lem : (ks : Cases Range) (δ : List ℕ) → done_c ks δ ≡ done_p (parts_c ks) δ
  unfolding parts_c done_p done_c done_b evals_c evals_k expand_c expand_k add_e
  done_c_lem nomore δ = refl
  done_c_lem (case v b f also ks) δ = add_e-append (evals_b (expand b keep_all)) (evals_c (expand_c ks keep_all)) δ ∙ done_c_lem ks (done_b b δ) ∙ sym (done_cells v (inner b (cell 2 f (parts_c ks))) δ)

  holds-c : (ks : Cases Range) → holds_c (expand_c ks dr) ≡ holds_p dr (parts_c ks)
  unfolding parts_c holds_p holds_c holds_k expand_c expand_k
  holds-c nomore = refl
  holds-c (case v b f also ks) = ap (holds_b (expand b dr) ||◌) (holds-c ks) ∙ sym (holds_cells v (inner b (cell 2 f (parts_c ks))))

-- ---- an effect is none of the other kinds
effect_low : (k : ℕ) (ss : Row) → get_elem? statements k ≡ some (s_effect ss) → 9 ≤ k
unfolding statements
effect_low zero ss e = cc
effect_low (suc zero) ss e = cc
effect_low (suc (suc zero)) ss e = cc
effect_low (suc (suc (suc zero))) ss e = cc
effect_low (suc (suc (suc (suc zero)))) ss e = cc
effect_low (suc (suc (suc (suc (suc zero))))) ss e = cc
effect_low (suc (suc (suc (suc (suc (suc zero)))))) ss e = cc
effect_low (suc (suc (suc (suc (suc (suc (suc zero))))))) ss e = cc
effect_low (suc (suc (suc (suc (suc (suc (suc (suc zero)))))))) ss e = cc
effect_low (suc (suc (suc (suc (suc (suc (suc (suc (suc k))))))))) ss e = omega arith

effect_no_call : (k : ℕ) (ss : Row) → get_elem? statements k ≡ some (s_effect ss) → k ≡ 15 → ⊥
unfolding statements
effect_no_call k ss e q = let w : some s_call ≡ some (s_effect ss) = rw q at e in cc

pub effect_kind : {d k : ℕ} {cs : Cells} → OkF d (effect k cs) → (9 ≤ k) × (k ≡ 15 → ⊥)
effect_kind {k = k} (ok_effect {ss = ss} e l) = (effect_low k ss e, effect_no_call k ss e)

expr_no_block : EXPR ≡ BLOCK → ⊥
expr_no_block e = omega arith

cases_no_block : CASES ≡ BLOCK → ⊥
cases_no_block e = omega arith

place_switch : (p : Place) → p.breaks ≡ true → in_switch p ≡ p
place_switch p e = ap (λ b. place_of b p.continues p.returns) (sym e)

-- ---- a form of the kinds 1 to 3 is its parts
pub record Parted (xs : List Cells) (dr : ℕ → Bool) (f : Form Range) (p : Place) : Type 0 where
  pub flat : flat_p (parts_f f) ≡ flat_f f
  pub ok : OkP (parts_f f)
  pub fine : (ρ δ : List ℕ) → fine_f xs dr f p ρ δ ≡ fine_p xs dr (parts_f f) p ρ δ
  pub done : (δ : List ℕ) → add_e (evals_f (expand_f f keep_all)) δ ≡ done_p (parts_f f) δ
  pub holds : holds_f (expand_f f dr) ≡ holds_p dr (parts_f f)
  pub adds : (ρ : List ℕ) → add_f (expand_f f dr) ρ ≡ ρ

module _ (xs : List Cells) (dr : ℕ → Bool) where
  see_one : (c : ℕ) (ρ : List ℕ) → all_vis (standing xs) ρ (operand EXPR c []) ≡ vis (standing xs) ρ c
  unfolding all_vis
  see_one c ρ = ap (all_vis (standing xs) ρ) (operand_expr EXPR c [] refl) ∙ and_right (vis (standing xs) ρ c)

  see_none : (s w : ℕ) (ρ : List ℕ) → (s ≡ EXPR → ⊥) → (s ≡ OPT_EXPR → ⊥) → all_vis (standing xs) ρ (operand s w []) ≡ true
  unfolding all_vis
  see_none s w ρ n m = ap (all_vis (standing xs) ρ) (operand-other s w [] n m)

  parted : (f : Form Range) (p : Place) → OkF DEPTH f → 0 < kind_of f → kind_of f < 4 → (kind_of f ≡ 3 → p.breaks ≡ true) → Parted xs dr f p
  unfolding kind_of parts_f flat_p flat_f flat_block fine_f fine_p done_p done_b done_c holds_f holds_p evals_f expand_f add_f
  parted (emit r) p o a b s = absurd (omega arith)
  parted (block x) p (ok_block o) a b s = record {
    flat = append-nil (flat_block x);
    ok = okp_inner o okp_nothing;
    fine = λ ρ δ. sym (and_right (fine_b xs dr x p ρ δ));
    done = λ δ. refl;
    holds = sym (or-false (holds_b (expand x dr)));
    adds = λ ρ. refl;
  }
  parted (branch c x y) p (ok_branch o q) a b s = record {
    flat = ap (λ l. (EXPR, c) ∷ (flat_block x ++ l)) (append-nil (flat_block y));
    ok = okp_cell expr_no_block (okp_inner o (okp_inner q okp_nothing));
    fine = λ ρ δ. sym (rw (see_one c ρ, and_right (fine_b xs dr y p ρ (done_b x δ))) refl);
    done = λ δ. add_e-append (evals_b (expand x keep_all)) (evals_b (expand y keep_all)) δ;
    holds = ap (holds_b (expand x dr) ||◌) (sym (or-false (holds_b (expand y dr))));
    adds = λ ρ. refl;
  }
  parted (switch c ks) p (ok_switch o) a b s = record {
    flat = ap (λ l. (EXPR, c) ∷ (CASES, size_c ks) ∷ l) (flat-c xs dr ks);
    ok = okp_cell expr_no_block (okp_cell cases_no_block (ok-c xs dr ks o));
    fine = λ ρ δ. let q : in_switch p ≡ p = place_switch p (s refl) in sym (rw (see_one c ρ, see_none CASES (size_c ks) ρ (λ e. omega arith) (λ e. omega arith)) (ap (vis (standing xs) ρ c &&◌) (sym (ap (λ x. fine_c xs dr ks x ρ δ) q ∙ fine-c xs dr ks p ρ δ o))));
    done = λ δ. done_c_lem xs dr ks δ;
    holds = holds-c xs dr ks;
    adds = λ ρ. refl;
  }
  parted (loop x y z) p o a b s = absurd (omega arith)
  parted break p o a b s = absurd (omega arith)
  parted continue p o a b s = absurd (omega arith)
  parted (return x) p o a b s = absurd (omega arith)
  parted kill p o a b s = absurd (omega arith)
  parted (call f ys r) p o a b s = absurd (omega arith)
  parted (effect k cs) p o a b s = absurd (omega (arith, (effect_kind o).0))

-- ---- a statement's kind and fields
pub record Header (ws ts : List ℕ) (at stop : ℕ) (s : Stmt Range) : Type 0 where
  pub a : ℕ
  pub b : ℕ
  pub f : Form Range
  pub is : s ≡ stmt a b f
  pub kind : get_or ws (at + 1) 0 ≡ kind_of f
  pub runs : Runs ws ts (at + 4) (flat_f f)
  pub long : at + 4 + length (flat_f f) ≡ stop
  pub ok : OkF DEPTH f

pub header : (ws ts : List ℕ) (at stop : ℕ) (s : Stmt Range) → HoldsS ws ts at stop s → Header ws ts at stop s
unfolding flat_s
header ws ts at stop (stmt a b f) h =
    let r = runs_between ws ts at stop (flat_s (stmt a b f)) h.cells h.long in
    let r₁ = (runs_word ws ts at _ _ r).1.1 in
    let r₂ = runs_word ws ts (suc at) _ _ r₁ in
    let r₃ = (runs_word ws ts (suc (suc at)) _ _ r₂.1.1).1.1 in
    let r₄ = (runs_word ws ts (suc (suc (suc at))) _ _ r₃).1.1 in
    let q : at + 4 ≡ suc (suc (suc (suc at))) = omega arith in
    record { a = a; b = b; f = f; is = refl; kind = rw (add-one at) r₂.1.0; runs = rw q r₄; long = omega (arith, h.long); ok = down h.ok }
  where
    down : OkS DEPTH (stmt a b f) → OkF DEPTH f
    down (ok_stmt o) = o

-- ---- the loop over the parts
pub record Passes (ws ts st : List ℕ) (ini : List Bool) (u₀ : List ℕ) (count at stop keep : ℕ) (p : Place) (s : Stmt Range) (rest : Parts) (ρ δ u : List ℕ) (i : ℕ) (cut : Flow) : Type 0 where
  pub h : Bool
  pub cut_is : cut ≡ flow_of h
  pub δ' : List ℕ
  pub scope : Scope count i keep ρ δ' u
  pub kept : Kept stop u₀ u
  pub left : fine_p (exprs_of ws ts st count) (marks ws ts st count ini) rest p ρ δ' ≡ fine_s (exprs_of ws ts st count) (marks ws ts st count ini) s p ρ δ
  pub dones : done_p rest δ' ≡ done_s s δ
  pub holds : (h || holds_p (marks ws ts st count ini) rest) ≡ holds_s (expand_s s (marks ws ts st count ini))
  pub adds : add_s (expand_s s (marks ws ts st count ini)) ρ ≡ ρ

pub record Passing (ws ts st : List ℕ) (ini : List Bool) (u₀ : List ℕ) (count at stop keep : ℕ) (p : Place) (u : List ℕ) (i : ℕ) (cut : Flow) : Type 0 where
  pub rest : Parts
  pub runs : Runs ws ts i (flat_p rest)
  pub long : i + length (flat_p rest) ≡ stop
  pub ok : OkP rest
  pub past : at < i
  pub going : (ρ δ : List ℕ) → Scope count at keep ρ δ u₀ → Passes ws ts st ini u₀ count at stop keep p (stmt_of ws ts at stop) rest ρ δ u i cut

pub parts-begin : (ws ts st : List ℕ) (ini : List Bool) (u₀ : List ℕ) (count at stop keep : ℕ) (p : Place) → StmtHere ws ts st count at stop keep → 0 < get_or ws (at + 1) 0 → get_or ws (at + 1) 0 < 4 → (get_or ws (at + 1) 0 ≡ 3 → p.breaks ≡ true) → Passing ws ts st ini u₀ count at stop keep p u₀ (at + 4) Through
unfolding flow_of expand_s evals_s add_s holds_s fine_s done_s
parts-begin ws ts st ini u₀ count at stop keep p here a b s =
    let g = header ws ts at stop (stmt_of ws ts at stop) here.holds in
    let d = parted (exprs_of ws ts st count) (marks ws ts st count ini) g.f p g.ok (omega (arith, g.kind)) (omega (arith, g.kind)) (λ e. s (g.kind ∙ e)) in
    record {
      rest = parts_f g.f;
      runs = rw d.flat g.runs;
      long = rw d.flat g.long;
      ok = d.ok;
      past = omega arith;
      going = λ ρ δ t. subst (λ x. Passes ws ts st ini u₀ count at stop keep p x (parts_f g.f) ρ δ u₀ (at + 4) Through) (sym g.is) (record {
        h = false;
        cut_is = refl;
        δ' = δ;
        scope = scope_on (at + 4) (omega arith) t;
        kept = kept-all stop u₀;
        left = sym (d.fine ρ δ);
        dones = sym (d.done δ);
        holds = sym d.holds;
        adds = d.adds ρ;
      });
    }

-- a block ahead, or a word
record Deeper (ws ts : List ℕ) (i stop : ℕ) (rest : Parts) : Type 0 where
  pub b : Block Range
  pub ps : Parts
  pub is : rest ≡ inner b ps
  pub holds : HoldsB ws ts i (i + length (flat_block b)) b
  pub runs : Runs ws ts (i + length (flat_block b)) (flat_p ps)
  pub long : i + length (flat_block b) + length (flat_p ps) ≡ stop
  pub ok : OkP ps

record Further (ws ts : List ℕ) (i stop : ℕ) (rest : Parts) : Type 0 where
  pub ps : Parts
  pub is : rest ≡ cell (get_or ts i 0) (get_or ws i 0) ps
  pub runs : Runs ws ts (i + 1) (flat_p ps)
  pub long : i + 1 + length (flat_p ps) ≡ stop
  pub ok : OkP ps

deeper : (ws ts : List ℕ) (i stop : ℕ) (rest : Parts) → Runs ws ts i (flat_p rest) → i + length (flat_p rest) ≡ stop → OkP rest → stop ≤ 16384 → i < stop → get_or ts i 0 ≡ BLOCK → Deeper ws ts i stop rest
unfolding flat_p
deeper ws ts i stop nothing r l o w h t = absurd (omega arith)
deeper ws ts i stop (cell s v ps) r l (okp_cell n o) w h t = absurd (n (sym (runs_word ws ts i (s, v) (flat_p ps) r).0 ∙ t))
deeper ws ts i stop (inner b ps) r l (okp_inner o q) w h t =
    let x = runs_split ws ts (flat_block b) (flat_p ps) i r in
    let a = length-append (flat_block b) (flat_p ps) in
    record {
      b = b;
      ps = ps;
      is = refl;
      holds = record { cells = between_runs ws ts i (i + length (flat_block b)) (flat_block b) x.0 refl; long = refl; within = omega arith; ok = o };
      runs = x.1;
      long = omega arith;
      ok = q;
    }

further : (ws ts : List ℕ) (i stop : ℕ) (rest : Parts) → Runs ws ts i (flat_p rest) → i + length (flat_p rest) ≡ stop → OkP rest → i < stop → (get_or ts i 0 ≡ BLOCK → ⊥) → Further ws ts i stop rest
unfolding flat_p flat_block
further ws ts i stop nothing r l o h t = absurd (omega arith)
further ws ts i stop (cell s v ps) r l (okp_cell n o) h t =
    let x = runs_word ws ts i (s, v) (flat_p ps) r in
    record { ps = ps; is = ap (λ y. cell y v ps) (sym x.0) ∙ ap (λ y. cell (get_or ts i 0) y ps) (sym x.1.0); runs = rw (add-one i) x.1.1; long = omega arith; ok = o }
further ws ts i stop (inner b ps) r l o h t = absurd (t (runs_word ws ts i (BLOCK, size_b b) (flat_b b ++ flat_p ps) r).0)

module _ (xs : List Cells) (dr : ℕ → Bool) where
  inner_then : (b : Block Range) (ps : Parts) (p : Place) (ρ δ : List ℕ) → fine_b xs dr b p ρ δ ≡ true → fine_p xs dr (inner b ps) p ρ δ ≡ fine_p xs dr ps p ρ (done_b b δ)
  unfolding fine_p
  inner_then b ps p ρ δ h = rw h

  inner_stop : (b : Block Range) (ps : Parts) (p : Place) (ρ δ : List ℕ) → fine_b xs dr b p ρ δ ≡ false → fine_p xs dr (inner b ps) p ρ δ ≡ false
  unfolding fine_p
  inner_stop b ps p ρ δ h = rw h

  cell_then : (s w : ℕ) (ps : Parts) (p : Place) (ρ δ : List ℕ) (r : Bool) → all_vis (standing xs) ρ (operand s w []) ≡ r → fine_p xs dr (cell s w ps) p ρ δ ≡ (r && fine_p xs dr ps p ρ δ)
  unfolding fine_p
  cell_then s w ps p ρ δ r h = rw h

inner_done : (b : Block Range) (ps : Parts) (δ : List ℕ) → done_p (inner b ps) δ ≡ done_p ps (done_b b δ)
unfolding done_p
inner_done b ps δ = refl

inner_holds : (dr : ℕ → Bool) (b : Block Range) (ps : Parts) → holds_p dr (inner b ps) ≡ (holds_b (expand b dr) || holds_p dr ps)
unfolding holds_p
inner_holds dr b ps = refl

cell_done : (s w : ℕ) (ps : Parts) (δ : List ℕ) → done_p (cell s w ps) δ ≡ done_p ps δ
unfolding done_p
cell_done s w ps δ = refl

cell_holds : (dr : ℕ → Bool) (s w : ℕ) (ps : Parts) → holds_p dr (cell s w ps) ≡ holds_p dr ps
unfolding holds_p
cell_holds dr s w ps = refl

parts_nil : (ps : Parts) → length (flat_p ps) ≡ 0 → ps ≡ nothing
unfolding flat_p flat_block
parts_nil nothing h = refl
parts_nil (cell s w ps) h = absurd (omega arith)
parts_nil (inner b ps) h = absurd (omega arith)

nil_fine : (xs : List Cells) (dr : ℕ → Bool) (p : Place) (ρ δ : List ℕ) → fine_p xs dr nothing p ρ δ ≡ true
unfolding fine_p
nil_fine xs dr p ρ δ = refl

nil_done : (δ : List ℕ) → done_p nothing δ ≡ δ
unfolding done_p
nil_done δ = refl

nil_holds : (dr : ℕ → Bool) (h : Bool) → (h || holds_p dr nothing) ≡ h
unfolding holds_p
nil_holds dr h = or-false h

module _ (ws ts st : List ℕ) (ini : List Bool) (u₀ : List ℕ) (count at stop keep : ℕ) (p : Place) (here : StmtHere ws ts st count at stop keep) where
  abbrev S : Stmt Range
  S = stmt_of ws ts at stop

  abbrev xs : List Cells
  xs = exprs_of ws ts st count

  abbrev dr : ℕ → Bool
  dr = marks ws ts st count ini

  module _ (u : List ℕ) (i : ℕ) (cut : Flow) (inv : Passing ws ts st ini u₀ count at stop keep p u i cut) (l : i < stop) where
    -- a block
    module _ (t : get_or ts i 0 ≡ BLOCK) where
      d : Deeper ws ts i stop inv.rest
      d = deeper ws ts i stop inv.rest inv.runs inv.long inv.ok here.holds.within l t

      abbrev end-at : ℕ
      end-at = i + length (flat_block d.b)

      pub parts_skip : (i < 16384) × Steps ws (get_or ws i 0) (i + 1)
      parts_skip = (skip_low ws ts i end-at d.b d.holds, skip_ok ws ts i end-at d.b d.holds)

      module _ (fin : ℕ) (fin-is : fin ≡ stepped (get_or ws i 0) ws (i + 1)) where
        fin-at : fin ≡ end-at
        fin-at = fin-is ∙ skip_is ws ts i end-at d.b d.holds

        held : HoldsB ws ts i fin d.b
        held = subst (λ x. HoldsB ws ts i x d.b) (sym fin-at) d.holds

        pub parts_far : fin ≤ stop
        parts_far = omega (arith, fin-at, d.long)

        pub parts-on : i < fin
        unfolding flat_block
        parts-on = omega (arith, fin-at)

        pub parts_block : BlockHere ws ts st count i fin fin
        parts_block = record {
          exprs = here.exprs;
          holds = block_held ws ts i fin d.b held;
          ends = ends_in ws ts i fin here.ends (omega (arith, inv.past)) parts_far;
          later = omega (arith, inv.past);
          keeps = omega arith;
        }

        module _ (u₁ : List ℕ) (r : code.Option Flow) (got : FoundB ws ts st ini count i fin fin p u u₁ r) where
          finds : (ρ δ : List ℕ) (g : Passes ws ts st ini u₀ count at stop keep p S inv.rest ρ δ u i cut) → FindsB ws ts st ini count i fin fin p u u₁ r d.b ρ g.δ'
          finds ρ δ g =
              let q : fin ≤ keep = omega (arith, parts_far, here.keeps) in
              subst (λ x. FindsB ws ts st ini count i fin fin p u u₁ r x ρ g.δ') (block_is ws ts i fin d.b held) (got.found ρ g.δ' (scope_less fin q g.scope))

          pub parts_wrong : r ≡ None → FoundS ws ts st ini count at stop keep p u₀ u₁ None
          parts_wrong z = record { found = λ ρ δ s. finds-none (bad ρ δ (inv.going ρ δ s)) }
            where
              bad : (ρ δ : List ℕ) → Passes ws ts st ini u₀ count at stop keep p S inv.rest ρ δ u i cut → fine_s xs dr S p ρ δ ≡ false
              bad ρ δ g =
                  sym g.left
                  ∙ ap (λ x. fine_p xs dr x p ρ g.δ') d.is
                  ∙ inner_stop xs dr d.b d.ps p ρ g.δ' (told_no (fine_b xs dr d.b p ρ g.δ') (holds_b (expand d.b dr)) r (finds ρ δ g).says z)

          pub parts_next : (go-on : Flow) → r ≡ Some go-on → (cut' : Flow) → ((h g : Bool) → cut ≡ flow_of h → go-on ≡ flow_of g → cut' ≡ flow_of (h || g)) → Passing ws ts st ini u₀ count at stop keep p u₁ fin cut'
          parts_next go-on n cut' is = record {
            rest = d.ps;
            runs = subst (λ x. Runs ws ts x (flat_p d.ps)) (sym fin-at) d.runs;
            long = omega (arith, fin-at, d.long);
            ok = d.ok;
            past = omega (arith, inv.past, parts-on);
            going = λ ρ δ s. step ρ δ (inv.going ρ δ s);
          }
            where
              step : (ρ δ : List ℕ) → Passes ws ts st ini u₀ count at stop keep p S inv.rest ρ δ u i cut → Passes ws ts st ini u₀ count at stop keep p S d.ps ρ δ u₁ fin cut'
              step ρ δ g =
                  let f = finds ρ δ g in
                  let hb = holds_b (expand d.b dr) in
                  let yes = told_yes (fine_b xs dr d.b p ρ g.δ') (holds_b (expand d.b dr)) r go-on f.says n in
                  let fine : fine_b xs dr d.b p ρ g.δ' ≡ true = yes.0 in
                  record {
                    h = g.h || holds_b (expand d.b dr);
                    cut_is = is g.h (holds_b (expand d.b dr)) g.cut_is yes.1;
                    δ' = done_b d.b g.δ';
                    scope = leave fin u₁ (cont_b (expand d.b dr) ρ) (done_b d.b g.δ') g.scope (omega (arith, parts-on)) (omega (arith, here.keeps, l)) (f.kept fine) (f.scope fine);
                    kept = kept_then g.kept (kept_more stop parts_far (f.kept fine));
                    left = sym (ap (λ x. fine_p xs dr x p ρ g.δ') d.is ∙ inner_then xs dr d.b d.ps p ρ g.δ' fine) ∙ g.left;
                    dones = sym (ap (λ x. done_p x g.δ') d.is ∙ inner_done d.b d.ps g.δ') ∙ g.dones;
                    holds = or_assoc g.h (holds_b (expand d.b dr)) (holds_p dr d.ps) ∙ sym (ap (λ x. g.h || holds_p dr x) d.is ∙ ap (g.h ||◌) (inner_holds dr d.b d.ps)) ∙ g.holds;
                    adds = g.adds;
                  }

    -- a word
    module _ (t : get_or ts i 0 ≡ BLOCK → ⊥) (r : Bool) (r-is : r ≡ all_seen (operand (get_or ts i 0) (get_or ws i 0) []) (visible_at ws st u count i)) where
      w : Further ws ts i stop inv.rest
      w = further ws ts i stop inv.rest inv.runs inv.long inv.ok l t

      split : (ρ δ : List ℕ) (g : Passes ws ts st ini u₀ count at stop keep p S inv.rest ρ δ u i cut) → (r && fine_p xs dr w.ps p ρ g.δ') ≡ fine_s xs dr S p ρ δ
      split ρ δ g =
          sym (ap (λ x. fine_p xs dr x p ρ g.δ') w.is
          ∙ cell_then xs dr (get_or ts i 0) (get_or ws i 0) w.ps p ρ g.δ' r (sym (seen_is ws ts st count here.exprs u ρ g.δ' i keep g.scope (omega (arith, here.keeps)) (operand (get_or ts i 0) (get_or ws i 0) [])) ∙ sym r-is))
          ∙ g.left

      pub word_wrong : r ≡ false → FoundS ws ts st ini count at stop keep p u₀ u None
      word_wrong n = record { found = λ ρ δ s. finds-none (sym (split ρ δ (inv.going ρ δ s)) ∙ ap (◌&& fine_p xs dr w.ps p ρ (inv.going ρ δ s).δ') n) }

      pub word_next : r ≡ true → Passing ws ts st ini u₀ count at stop keep p u (i + 1) cut
      word_next n = record {
        rest = w.ps;
        runs = w.runs;
        long = w.long;
        ok = w.ok;
        past = omega (arith, inv.past);
        going = λ ρ δ s. step ρ δ (inv.going ρ δ s);
      }
        where
          step : (ρ δ : List ℕ) → Passes ws ts st ini u₀ count at stop keep p S inv.rest ρ δ u i cut → Passes ws ts st ini u₀ count at stop keep p S w.ps ρ δ u (i + 1) cut
          step ρ δ g = record {
            h = g.h;
            cut_is = g.cut_is;
            δ' = g.δ';
            scope = scope_on (i + 1) (omega arith) g.scope;
            kept = g.kept;
            left = ap (◌&& fine_p xs dr w.ps p ρ g.δ') (sym n) ∙ split ρ δ g;
            dones = sym (ap (λ x. done_p x g.δ') w.is ∙ cell_done (get_or ts i 0) (get_or ws i 0) w.ps g.δ') ∙ g.dones;
            holds = sym (ap (λ x. g.h || holds_p dr x) w.is ∙ ap (g.h ||◌) (cell_holds dr (get_or ts i 0) (get_or ws i 0) w.ps)) ∙ g.holds;
            adds = g.adds;
          }

  pub parts_done : (u : List ℕ) (i : ℕ) (cut : Flow) → Passing ws ts st ini u₀ count at stop keep p u i cut → stop ≤ i → FoundS ws ts st ini count at stop keep p u₀ u (Some cut)
  parts_done u i cut inv h = record { found = λ ρ δ s. done ρ δ (inv.going ρ δ s) }
    where
      nil : inv.rest ≡ nothing
      nil = parts_nil inv.rest (omega (arith, inv.long))

      done : (ρ δ : List ℕ) → Passes ws ts st ini u₀ count at stop keep p S inv.rest ρ δ u i cut → FindsS ws ts st ini count at stop keep p u₀ u (Some cut) S ρ δ
      done ρ δ g =
          let fine : true ≡ fine_s xs dr S p ρ δ = sym (nil_fine xs dr p ρ g.δ') ∙ ap (λ x. fine_p xs dr x p ρ g.δ') (sym nil) ∙ g.left in
          let holding : g.h ≡ holds_s (expand_s S dr) = sym (nil_holds dr g.h) ∙ ap (λ x. g.h || holds_p dr x) (sym nil) ∙ g.holds in
          let delta : g.δ' ≡ done_s S δ = sym (nil_done g.δ') ∙ ap (λ x. done_p x g.δ') (sym nil) ∙ g.dones in
          let e : i ≡ stop = omega (arith, inv.long) in
          record {
            says = told_some g.h cut g.cut_is ∙ ap (λ x. told x g.h) fine ∙ ap (told (fine_s xs dr S p ρ δ)) holding;
            scope = λ q. subst (λ x. Scope count stop keep x (done_s S δ) u) (sym g.adds) (subst (λ x. Scope count stop keep ρ x u) delta (subst (λ x. Scope count x keep ρ g.δ' u) e g.scope));
            kept = λ q. kept_more keep here.keeps g.kept;
          }
