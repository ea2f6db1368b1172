-- A map that touches only NAME: it changes names, and neither expressions nor bodies nor special types.
use Rattle.std.specs.Prelude.{◌≡◌, false, ℕ, eqb}
use Rattle.std.proofs.Math.Path.{refl, ap, ap₂}
use Rattle.std.proofs.Common.{◌∙◌, arith, ne_eqb}
use Rattle.std.proofs.Math.Option.{Option}
use mathlib.Core.List.{List, [], ◌∷◌, map}
use Rattle.model.specs.Outcome.{Cells}
use Rattle.model.specs.Table.{Row, NAME, EXPR, EXPR_KIND, OPT_EXPR, OPT_RESULT}
use Rattle.model.specs.Tree.{Stmt, Form, Block, Cases, Case, ◌then◌, ◌also◌, block, return, effect, Range, opt_of}
use Rattle.model.specs.Carry.{Keeps, carry_cell, carry_cells, carry_opt, carry_range, carry_s, carry_f, carry_b, carry_k, carry_c, Lays, Each, each_none, each_next, OkS, OkF, OkB, OkBs, OkK, OkC, ok_stmt, ok_emit, ok_block, ok_branch, ok_switch, ok_loop, ok_break, ok_continue, ok_return, ok_kill, ok-call, ok_effect, ok_deeper, ok_end, ok_then, ok_case, ok_nomore, ok_also}
use Rattle.theory_image.specs.Words.{opt_of_lem}
use Rattle.theory_finish.specs.Classes.{Not, calm?, calms?, nameless, expression_not, effect_nameless}

pub record Only (m : ℕ → ℕ → ℕ) : Type 0 where
  pub only : (s w : ℕ) → eqb s NAME ≡ false → m s w ≡ w

module _ {m : ℕ → ℕ → ℕ} (o : Only m) where
  pub only_keeps : Keeps m
  only_keeps = record { kept = λ s w h. o.only s w (ne_eqb s NAME λ e. omega arith) }

  -- ---- cells without NAME
  pub same_cells : {cs : Cells} → Each (Not NAME) cs → carry_cells m cs ≡ cs
  unfolding carry_cell
  same_cells each_none = refl
  same_cells (each_next {a = c} h hs) = ap₂ ◌∷◌ (ap (λ w. (c.0, w)) (o.only c.0 c.1 h)) (same_cells hs)

  pub same_rows : {ss : Row} {rs : List Cells} → ((cs : Cells) → Lays ss cs → Each (Not NAME) cs) → Each (Lays ss) rs → map (carry_cells m) rs ≡ rs
  same_rows f each_none = refl
  same_rows f (each_next {a = r} l ls) = ap₂ ◌∷◌ (same_cells (f r l)) (same_rows f ls)

  -- EXPRESSIONS are kept
  pub same_exprs : {rs : List Cells} → Each (Lays (EXPR_KIND ∷ [])) rs → map (carry_cells m) rs ≡ rs
  same_exprs = same_rows λ cs l. expression_not NAME refl refl l

  -- ---- bodies
  same_opt : (s : ℕ) → eqb s NAME ≡ false → (x : Option ℕ) → carry_opt m s x ≡ x
  unfolding carry_opt
  same_opt s e x = ap opt_of (o.only s _ e) ∙ opt_of_lem x

  same_list : (xs : List ℕ) → map (m EXPR) xs ≡ xs
  same_list [] = refl
  same_list (x ∷ xs) = ap₂ ◌∷◌ (o.only EXPR x refl) (same_list xs)

  mutual
    unfolding carry_s carry_range calms? calm?

    same_s_lem : {d : ℕ} {s : Stmt Range} → OkS d s → carry_s m s ≡ s
    same_s_lem (ok_stmt {a} {b} x) = rw (o.only 81 a refl, o.only 82 b refl, same-f x)

    same-f : {d : ℕ} {x : Form Range} → OkF d x → carry_f m x ≡ x
    same-f (ok_emit {r}) = rw (o.only 97 r.from refl, o.only 98 r.to refl)
    same-f (ok_block b) = ap block (same-b b)
    same-f (ok_branch {c} a b) = rw (o.only EXPR c refl, same-b a, same-b b)
    same-f (ok_switch {c} ks) = rw (o.only EXPR c refl, same-c ks)
    same-f (ok_loop {o = x} a b) = rw (same-b a, same-b b, same_opt OPT_EXPR refl x)
    same-f ok_break = refl
    same-f ok_continue = refl
    same-f (ok_return {o = x}) = ap return (same_opt OPT_EXPR refl x)
    same-f ok_kill = refl
    same-f (ok-call {f} {xs} {r}) = rw (o.only 92 f refl, same_list xs, same_opt OPT_RESULT refl r)
    same-f (ok_effect {k} e l) = ap (effect k) (same_cells (effect_nameless k e l))

    -- BODIES are kept
    pub same-b : {d : ℕ} {b : Block Range} → OkB d b → carry_b m b ≡ b
    same-b (ok_deeper b) = same_bs b

    same_bs : {d : ℕ} {b : Block Range} → OkBs d b → carry_b m b ≡ b
    same_bs ok_end = refl
    same_bs (ok_then s b) = ap₂ ◌then◌ (same_s_lem s) (same_bs b)

    same-k : {d : ℕ} {k : Case Range} → OkK d k → carry_k m k ≡ k
    same-k (ok_case {f} v b) = rw (same_cells (nameless v refl), same-b b, o.only 2 f refl)

    same-c : {d : ℕ} {ks : Cases Range} → OkC d ks → carry_c m ks ≡ ks
    same-c ok_nomore = refl
    same-c (ok_also k ks) = ap₂ ◌also◌ (same-k k) (same-c ks)
