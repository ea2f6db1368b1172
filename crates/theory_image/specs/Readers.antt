-- What is read is well formed, and its words are the words that were there: for every reader of a tree one induction proves both.
use Rattle.std.specs.Prelude.{◌≡◌, Bool, leb, length}
use Rattle.std.proofs.Math.Path.{refl, ap, ap₂}
use Rattle.std.proofs.Common.{sym, ◌∙◌, subst, add-zero, zero-add, add-suc, suc-add, arith}
use Rattle.std.proofs.Math.Bool.{true, false}
use Rattle.std.proofs.Math.Option.{Option, none, some}
use mathlib.Core.List.{List, [], ◌∷◌, ◌++◌, map}
use Prim.Native.Nat.{ℕ, zero, suc, ◌+◌, ◌≤◌}
use Rattle.std.proofs.Math.Dec.{eqb}
use Rattle.std.proofs.Math.ListN.{get_elem?}
use borrow.Author.Tests.{eqb-true, leb-true}
use Rattle.model.specs.Outcome.{Cells, word, Outcome, fits, misfit, unknown, ◌⟫◌, eat, map_o}
use Rattle.model.specs.Table.{Row, EXPR, OPT_EXPR, OPT_RESULT, ARGUMENTS, LOCALS, EXPRESSIONS, NAMED, VALUE, RETURNS, Shape, s_emit, s_block, s_if, s_switch, s_loop, s_break, s_continue, s_return, s_kill, s_call, s_effect, statements, function_head, entry_head, counted, limit, More, brings, over, nothing, more, follow, run}
use Rattle.model.specs.Tree.{Stmt, Form, Block, Cases, stmt, Range, Function, Entry, opt_of, word_of, kind_of, size_b, size_c, flat_s, flat_f, flat_b, flat_k, flat_c, flat_x, flat_all, flat_list, flat_block, flat, flat_entry, rows, listed, operands, stmts, case_at, cases, form, checked, shaped, statement, block_at, DEPTH, function_at, entry_at}
use Rattle.model.specs.Module.{Special, flat_special, rays_row, pair_row, special_at}
use Rattle.model.specs.Carry.{Lays, lays_none, lays_next, Each, each_none, each_next, Listed, OkS, OkF, OkB, OkBs, OkK, OkC, ok_stmt, ok_emit, ok_block, ok_branch, ok_switch, ok_loop, ok_break, ok_continue, ok_return, ok_kill, ok-call, ok_effect, ok_deeper, ok_end, ok_then, ok_case, ok_nomore, ok_also, WellFunction, WellEntry}
use Rattle.theory_image.specs.Words.{words_append, word_of_lem}

-- ---- the judgement, and how it goes through readers that follow one another
pub data Good {A : Type 0} (P : A → List ℕ → Type 0) : Outcome A → Type 0 where
  good : {a : A} {ws : List ℕ} → P a ws → Good P (fits a ws)
  good_misfit : Good P misfit
  good_unknown : Good P unknown

-- from ws a value was taken, and the rest is left
pub record Took {A : Type 0} (ok : A → Type 0) (flatly : A → Cells) (ws : List ℕ) (a : A) (rest : List ℕ) : Type 0 where
  pub fine : ok a
  pub words : ws ≡ map word (flatly a) ++ rest

abbrev pub Takes : {A : Type 0} → (A → Type 0) → (A → Cells) → (List ℕ → Outcome A) → Type 0
Takes ok flatly p = (ws : List ℕ) → Good (Took ok flatly ws) (p ws)

pub good_then : {A B : Type 0} {P : A → List ℕ → Type 0} {Q : B → List ℕ → Type 0} {o : Outcome A} {g : A → List ℕ → Outcome B} → Good P o → ((a : A) (ws : List ℕ) → P a ws → Good Q (g a ws)) → Good Q (o ⟫ g)
unfolding ◌⟫◌
good_then (good {a} {ws} p) h = h a ws p
good_then good_misfit h = good_misfit
good_then good_unknown h = good_unknown

pub good_eat : {B : Type 0} {Q : B → List ℕ → Type 0} (ws : List ℕ) {g : ℕ → List ℕ → Outcome B} → ((x : ℕ) (vs : List ℕ) → ws ≡ x ∷ vs → Good Q (g x vs)) → Good Q (eat ws g)
unfolding eat
good_eat [] h = good_misfit
good_eat (x ∷ ws) h = h x ws refl

good_shaped : {Q : Stmt Range → List ℕ → Type 0} (o : Option Shape) {g : Shape → Outcome (Stmt Range)} → ((sh : Shape) → o ≡ some sh → Good Q (g sh)) → Good Q (shaped o g)
unfolding shaped
good_shaped none h = good_unknown
good_shaped (some sh) h = h sh refl

pub taken : {A : Type 0} {P : A → List ℕ → Type 0} {o : Outcome A} {a : A} {rest : List ℕ} → Good P o → o ≡ fits a rest → P a rest
taken {P} {o} {a} {rest} g e = inside (subst (Good P) e g)
  where
    inside : Good P (fits a rest) → P a rest
    inside (good p) = p

-- two runs of cells, one after the other
behind : (cs ds : Cells) (us : List ℕ) {ws vs : List ℕ} → ws ≡ map word cs ++ vs → vs ≡ map word ds ++ us → ws ≡ map word (cs ++ ds) ++ us
behind cs ds us e f = e ∙ ap (map word cs ++◌) f ∙ sym (words_append cs ds us)

opt_word_lem : {ws vs : List ℕ} (w : ℕ) → ws ≡ w ∷ vs → ws ≡ word_of (opt_of w) ∷ vs
opt_word_lem {vs} w e = e ∙ ap (◌∷ vs) (sym (word_of_lem w))

-- ---- rows and lists of rows
abbrev self : Cells → Cells
self cs = cs

pub run_took : (ws : List ℕ) (ss : Row) → Good (Took (Lays ss) self ws) (run ws ss)
unfolding run map_o follow
run_took [] [] = good (record { fine = lays_none; words = refl })
run_took [] (s ∷ ss) = good_misfit
run_took (x ∷ ws) [] = good (record { fine = lays_none; words = refl })
run_took (x ∷ ws) (s ∷ ss) = go (more s x) refl (λ p. run_took ws p)
  where
    put : (xs : Row) → more s x ≡ brings xs → {o : Outcome Cells} → Good (Took (Lays (xs ++ ss)) self ws) o → Good (Took (Lays (s ∷ ss)) self (x ∷ ws)) (map_o ((s, x) ∷◌) o)
    put xs e (good t) = good (record { fine = lays_next e t.fine; words = ap (x ∷◌) t.words })
    put xs e good_misfit = good_misfit
    put xs e good_unknown = good_unknown

    go : (o : More) → more s x ≡ o → ((p : Row) → Good (Took (Lays p) self ws) (run ws p)) → Good (Took (Lays (s ∷ ss)) self (x ∷ ws)) (map_o ((s, x) ∷◌) (follow o ss (run ws)))
    go (brings xs) e ih = put xs e (ih (xs ++ ss))
    go over e ih = good_misfit
    go nothing e ih = good_unknown

-- n of them
pub record Rowed (n : ℕ) (ss : Row) (rs : List Cells) : Type 0 where
  pub many : length rs ≡ n
  pub each : Each (Lays ss) rs

pub rows_took : (n : ℕ) (ss : Row) → Takes (Rowed n ss) flat_all (rows n ss)
unfolding rows flat_all
rows_took zero ss ws = good (record { fine = record { many = refl; each = each_none }; words = refl })
rows_took (suc n) ss ws =
    good_then (run_took ws ss) λ c vs t. good_then (rows_took n ss vs) λ cs us u.
    good (record { fine = record { many = ap suc u.fine.many; each = each_next t.fine u.fine.each }; words = behind c (flat_all cs) us t.words u.words })

pub listed_took : (s : ℕ) → Takes (Listed s) (flat_list s) (listed s)
unfolding listed flat_list
listed_took s ws = good_eat ws λ n vs e. go n vs e (leb n (limit s)) refl
  where
    go : (n : ℕ) (vs : List ℕ) → ws ≡ n ∷ vs → (b : Bool) → leb n (limit s) ≡ b → Good (Took (Listed s) (flat_list s) ws) (elim b [ true ↦ rows n (counted s) vs | false ↦ misfit ])
    go n vs e true h = put (rows_took n (counted s) vs)
      where
        put : {o : Outcome (List Cells)} → Good (Took (Rowed n (counted s)) flat_all vs) o → Good (Took (Listed s) (flat_list s) ws) o
        put (good {a = rs} t) = let few : length rs ≤ limit s = omega (arith, t.fine.many, leb-true n (limit s) h) in good (record { fine = record { few = few; each = t.fine.each }; words = e ∙ ap₂ ◌∷◌ (sym t.fine.many) t.words })
        put good_misfit = good_misfit
        put good_unknown = good_unknown
    go n vs e false h = good_misfit

pub operands_took : (n : ℕ) → Takes (λ xs. length xs ≡ n) (map (λ x. (EXPR, x))) (operands n)
unfolding operands
operands_took zero ws = good (record { fine = refl; words = refl })
operands_took (suc n) ws = good_eat ws λ x vs e. good_then (operands_took n vs) λ xs us t. good (record { fine = ap suc t.fine; words = e ∙ ap (x ∷◌) t.words })

-- ---- the kinds of statements: the table has each shape at the kind that a form of the shape writes
unfoldable fine? : Shape → ℕ → Bool
fine? s_emit k = eqb 0 k
fine? s_block k = eqb 1 k
fine? s_if k = eqb 2 k
fine? s_switch k = eqb 3 k
fine? s_loop k = eqb 4 k
fine? s_break k = eqb 5 k
fine? s_continue k = eqb 6 k
fine? s_return k = eqb 7 k
fine? s_kill k = eqb 8 k
fine? s_call k = eqb 15 k
fine? (s_effect ss) k = true

unfoldable all-fine? : ℕ → List Shape → Bool
all-fine? i [] = true
all-fine? i (sh ∷ l) = elim (fine? sh i) [ true ↦ all-fine? (suc i) l | false ↦ false ]

both_true : (a b : Bool) → elim a [ true ↦ b | false ↦ false ] ≡ true → (a ≡ true) × (b ≡ true)
both_true true b h = (refl, h)
both_true false b h = let z : ◌≡◌ {A = ℕ} 0 1 = cc in absurd (omega arith)

looked : (l : List Shape) (i k : ℕ) (sh : Shape) → all-fine? i l ≡ true → get_elem? l k ≡ some sh → fine? sh (i + k) ≡ true
unfolding all-fine?
looked [] i k sh h e = let z : ◌≡◌ {A = ℕ} 0 1 = cc in absurd (omega arith)
looked (x ∷ l) i zero sh h e = let q : x ≡ sh = cc in rw (← q, add-zero i) (both_true (fine? x i) _ h).0
looked (x ∷ l) i (suc k) sh h e = rw (add-suc i k, ← suc-add i k) (looked l (suc i) k sh (both_true (fine? x i) _ h).1 e)

fine-kind : (k : ℕ) (sh : Shape) → get_elem? statements k ≡ some sh → fine? sh k ≡ true
unfolding statements all-fine? fine?
fine-kind k sh e = rw zero-add at (looked statements 0 k sh refl e)

-- ---- statements, of which a reader takes blocks with d levels left
-- a form of the kind k
record Formed (d k : ℕ) (x : Form Range) : Type 0 where
  kind : kind_of x ≡ k
  ok : OkF d x

record Blocked (d n : ℕ) (b : Block Range) : Type 0 where
  many : size_b b ≡ n
  ok : OkBs d b

record Cased (d n : ℕ) (ks : Cases Range) : Type 0 where
  many : size_c ks ≡ n
  ok : OkC d ks

module _ (d : ℕ) (b-took : Takes (OkB d) flat_block (block_at d)) where
  case_took : Takes (OkK d) flat_k (case_at (block_at d))
  unfolding case_at flat_k flat_block
  case_took ws =
      good_then (run_took ws (VALUE ∷ [])) λ v vs t. good_then (b-took vs) λ b us u. good_eat us λ x rs e.
      good (record { fine = ok_case t.fine u.fine; words = behind (v ++ flat_block b) ((2, x) ∷ []) rs (behind v (flat_block b) us t.words u.words) e })

  cases_took : (n : ℕ) → Takes (Cased d n) flat_c (cases n (case_at (block_at d)))
  unfolding cases flat_c size_c
  cases_took zero ws = good (record { fine = record { many = refl; ok = ok_nomore }; words = refl })
  cases_took (suc n) ws =
      good_then (case_took ws) λ k vs t. good_then (cases_took n vs) λ ks us u.
      good (record { fine = record { many = ap suc u.fine.many; ok = ok_also t.fine u.fine.ok }; words = behind (flat_k k) (flat_c ks) us t.words u.words })

  form_took : (sh : Shape) (k : ℕ) → get_elem? statements k ≡ some sh → fine? sh k ≡ true → Takes (Formed d k) flat_f (form sh k (block_at d))
  unfolding form flat_f flat_block flat_x kind_of fine?
  form_took s_emit k e h ws =
      good_eat ws λ a vs p. good_eat vs λ b us q. good (record { fine = record { kind = eqb-true 0 k h; ok = ok_emit }; words = p ∙ ap (a ∷◌) q })
  form_took s_block k e h ws = good_then (b-took ws) λ b vs t. good (record { fine = record { kind = eqb-true 1 k h; ok = ok_block t.fine }; words = t.words })
  form_took s_if k e h ws =
      good_eat ws λ c vs p. good_then (b-took vs) λ a us t. good_then (b-took us) λ b rs u.
      good (record { fine = record { kind = eqb-true 2 k h; ok = ok_branch t.fine u.fine }; words = p ∙ ap (c ∷◌) (behind (flat_block a) (flat_block b) rs t.words u.words) })
  form_took s_switch k e h ws =
      good_eat ws λ c vs p. good_eat vs λ n us q. good_then (cases_took n us) λ ks rs t.
      good (record { fine = record { kind = eqb-true 3 k h; ok = ok_switch t.fine.ok }; words = p ∙ ap (c ∷◌) (q ∙ ap₂ ◌∷◌ (sym t.fine.many) t.words) })
  form_took s_loop k e h ws =
      good_then (b-took ws) λ a vs t. good_then (b-took vs) λ b us u. good_eat us λ o rs p.
      good (record { fine = record { kind = eqb-true 4 k h; ok = ok_loop t.fine u.fine }; words = behind (flat_block a ++ flat_block b) ((OPT_EXPR, word_of (opt_of o)) ∷ []) rs (behind (flat_block a) (flat_block b) us t.words u.words) (opt_word_lem o p) })
  form_took s_break k e h ws = good (record { fine = record { kind = eqb-true 5 k h; ok = ok_break }; words = refl })
  form_took s_continue k e h ws = good (record { fine = record { kind = eqb-true 6 k h; ok = ok_continue }; words = refl })
  form_took s_return k e h ws = good_eat ws λ o vs p. good (record { fine = record { kind = eqb-true 7 k h; ok = ok_return }; words = opt_word_lem o p })
  form_took s_kill k e h ws = good (record { fine = record { kind = eqb-true 8 k h; ok = ok_kill }; words = refl })
  form_took s_call k e h ws =
      good_eat ws λ f vs p. good_eat vs λ n us q. good_then (operands_took n us) λ xs rs t. good_eat rs λ r qs s.
      good (record { fine = record { kind = eqb-true 15 k h; ok = ok-call }; words = p ∙ ap (f ∷◌) (q ∙ ap₂ ◌∷◌ (sym t.fine) (behind (map (λ x. (EXPR, x)) xs) ((OPT_RESULT, word_of (opt_of r)) ∷ []) qs t.words (opt_word_lem r s))) })
  form_took (s_effect ss) k e h ws = good_then (run_took ws ss) λ cs vs t. good (record { fine = record { kind = refl; ok = ok_effect e t.fine }; words = t.words })

  -- the length is the length
  checked_took : {ws : List ℕ} (n : ℕ) (s : Stmt Range) (vs : List ℕ) → (n ≡ length (flat_s s) → Took (OkS d) flat_s ws s vs) → Good (Took (OkS d) flat_s ws) (checked n s vs)
  unfolding checked
  checked_took {ws} n s vs h = go (eqb n (length (flat_s s))) refl
    where
      go : (b : Bool) → eqb n (length (flat_s s)) ≡ b → Good (Took (OkS d) flat_s ws) (elim b [ true ↦ fits s vs | false ↦ misfit ])
      go true e = good (h (eqb-true n (length (flat_s s)) e))
      go false e = good_misfit

  statement_took : Takes (OkS d) flat_s (statement (block_at d))
  unfolding statement flat_s
  statement_took ws =
      good_eat ws λ n v₁ e₁. good_eat v₁ λ k v₂ e₂. good_shaped (get_elem? statements k) λ sh e. good_eat v₂ λ a v₃ e₃. good_eat v₃ λ b v₄ e₄.
      good_then (form_took sh k e (fine-kind k sh e) v₄) λ x vs t. checked_took n (stmt a b x) vs λ l.
      record { fine = ok_stmt t.fine.ok; words = e₁ ∙ ap₂ ◌∷◌ l (e₂ ∙ ap₂ ◌∷◌ (sym t.fine.kind) (e₃ ∙ ap (a ∷◌) (e₄ ∙ ap (b ∷◌) t.words))) }

  stmts_took : (n : ℕ) → Takes (Blocked d n) flat_b (stmts n (statement (block_at d)))
  unfolding stmts flat_b size_b
  stmts_took zero ws = good (record { fine = record { many = refl; ok = ok_end }; words = refl })
  stmts_took (suc n) ws =
      good_then (statement_took ws) λ s vs t. good_then (stmts_took n vs) λ b us u.
      good (record { fine = record { many = ap suc u.fine.many; ok = ok_then t.fine u.fine.ok }; words = behind (flat_s s) (flat_b b) us t.words u.words })

pub block_took : (d : ℕ) → Takes (OkB d) flat_block (block_at d)
unfolding block_at flat_block
block_took zero ws = good_misfit
block_took (suc d) ws = go ws (block_took d)
  where
    deeper : (n : ℕ) (ws vs : List ℕ) → ws ≡ n ∷ vs → {o : Outcome (Block Range)} → Good (Took (Blocked d n) flat_b vs) o → Good (Took (OkB (suc d)) flat_block ws) o
    deeper n ws vs e (good t) = good (record { fine = ok_deeper t.fine.ok; words = e ∙ ap₂ ◌∷◌ (sym t.fine.many) t.words })
    deeper n ws vs e good_misfit = good_misfit
    deeper n ws vs e good_unknown = good_unknown

    go : (ws : List ℕ) → Takes (OkB d) flat_block (block_at d) → Good (Took (OkB (suc d)) flat_block ws) (eat ws λ n ws. stmts n (statement (block_at d)) ws)
    go ws ih = good_eat ws λ n vs e. deeper n ws vs e (stmts_took d ih n vs)

-- ---- functions, entry points, special types
pub function_took : Takes WellFunction flat function_at
unfolding function_at flat
function_took ws =
    good_then (run_took ws function_head) λ h v₁ t₁. good_then (listed_took ARGUMENTS v₁) λ gs v₂ t₂. good_then (run_took v₂ (RETURNS ∷ [])) λ r v₃ t₃. good_then (listed_took LOCALS v₃) λ ls v₄ t₄.
    good_then (listed_took EXPRESSIONS v₄) λ es v₅ t₅. good_then (listed_took NAMED v₅) λ ns v₆ t₆. good_then (block_took DEPTH v₆) λ b v₇ t₇.
    good (record {
      fine = record { head_ok = t₁.fine; arguments_ok = t₂.fine; result_ok_lem = t₃.fine; locals_ok = t₄.fine; exprs_ok = t₅.fine; named_ok = t₆.fine; body_ok = t₇.fine };
      words =
          behind (h ++ flat_list ARGUMENTS gs ++ r ++ flat_list LOCALS ls ++ flat_list EXPRESSIONS es ++ flat_list NAMED ns) (flat_block b) v₇
          (behind (h ++ flat_list ARGUMENTS gs ++ r ++ flat_list LOCALS ls ++ flat_list EXPRESSIONS es) (flat_list NAMED ns) v₆
          (behind (h ++ flat_list ARGUMENTS gs ++ r ++ flat_list LOCALS ls) (flat_list EXPRESSIONS es) v₅
          (behind (h ++ flat_list ARGUMENTS gs ++ r) (flat_list LOCALS ls) v₄
          (behind (h ++ flat_list ARGUMENTS gs) r v₃
          (behind h (flat_list ARGUMENTS gs) v₂ t₁.words t₂.words)
          t₃.words)
          t₄.words)
          t₅.words)
          t₆.words)
          t₇.words;
    })

pub entry_took : Takes WellEntry flat_entry entry_at
unfolding entry_at flat_entry
entry_took ws =
    good_then (run_took ws entry_head) λ h vs t. good_then (function_took vs) λ f us u.
    good (record { fine = record { head_ok = t.fine; function-ok = u.fine }; words = behind h (flat f) us t.words u.words })

pub record WellSpecial (n : ℕ) (s : Special) : Type 0 where
  pub rays-ok : Lays rays_row s.rays
  pub pairs-ok : Rowed n pair_row s.pairs

pub special_took : (n : ℕ) → Takes (WellSpecial n) flat_special (special_at n)
unfolding special_at flat_special
special_took n ws =
    good_then (run_took ws rays_row) λ a vs t. good_then (rows_took n pair_row vs) λ ps us u.
    good (record { fine = record { rays-ok = t.fine; pairs-ok = u.fine }; words = behind a (flat_all ps) us t.words u.words })

-- ---- the laws: what was read, written out again, is the same words; what is read is well formed
pub read_write_run : (ws : List ℕ) (r : Row) (cs : Cells) (rest : List ℕ) → run ws r ≡ fits cs rest → ws ≡ map word cs ++ rest
read_write_run ws r cs rest e = (taken (run_took ws r) e).words

pub read_well_run : (ws : List ℕ) (r : Row) (cs : Cells) (rest : List ℕ) → run ws r ≡ fits cs rest → Lays r cs
read_well_run ws r cs rest e = (taken (run_took ws r) e).fine

pub read_write_block : (d : ℕ) (ws : List ℕ) (b : Block Range) (rest : List ℕ) → block_at d ws ≡ fits b rest → ws ≡ map word (flat_block b) ++ rest
read_write_block d ws b rest e = (taken (block_took d ws) e).words

pub read_well_block : (d : ℕ) (ws : List ℕ) (b : Block Range) (rest : List ℕ) → block_at d ws ≡ fits b rest → OkB d b
read_well_block d ws b rest e = (taken (block_took d ws) e).fine

pub read_write_function : (ws : List ℕ) (t : Function) (rest : List ℕ) → function_at ws ≡ fits t rest → ws ≡ map word (flat t) ++ rest
read_write_function ws t rest e = (taken (function_took ws) e).words

pub read_well_function : (ws : List ℕ) (t : Function) (rest : List ℕ) → function_at ws ≡ fits t rest → WellFunction t
read_well_function ws t rest e = (taken (function_took ws) e).fine

pub read_write_entry : (ws : List ℕ) (t : Entry) (rest : List ℕ) → entry_at ws ≡ fits t rest → ws ≡ map word (flat_entry t) ++ rest
read_write_entry ws t rest e = (taken (entry_took ws) e).words

pub read_well_entry : (ws : List ℕ) (t : Entry) (rest : List ℕ) → entry_at ws ≡ fits t rest → WellEntry t
read_well_entry ws t rest e = (taken (entry_took ws) e).fine
