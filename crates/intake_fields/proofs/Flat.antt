-- The model's reader of trees, seen flat: rows of pieces.
use mathlib.Core.Path.{◌≡◌, refl, sym, ap, ◌∙◌}
use mathlib.Core.Bool.{Bool, true, false}
use mathlib.Core.Option.{Option, none, some}
use mathlib.Core.List.{List, [], ◌∷◌, ◌++◌, map, append-nil, append_assoc}
use Prim.Native.Nat.{ℕ, zero, suc, ◌+◌, ◌-◌, ◌≤◌, ◌<◌}
use native.Mathlib.Nat.{add-zero, zero-add, add-suc, suc-add}
use native.Mathlib.Omega.{arith}
use lib.Dec.{eqb, ltb, leb}
use lib.ListN.{length, get_elem?}
use borrow.Author.Tests.{ltb-true, lt-ltb, le-ltb, ne_eqb, eqb-true}
use Rattle.model.specs.Outcome.{Cells, Outcome, fits, misfit, unknown, ◌⟫◌, eat, map_o}
use Rattle.model.specs.Table.{Row, SPAN, UPTO, EXPR, OPT_EXPR, FROM, TO, CALLEE, OPT_RESULT, OPERANDS, VALUE, TEXT, PAD, MEMBERS, ARGUMENTS, RETURNS, LOCALS, EXPRESSIONS, NAMED, TYPE_KIND, BLOCK, CASES, LENGTH, STMT_KIND, Shape, s_emit, s_block, s_if, s_switch, s_loop, s_break, s_continue, s_return, s_kill, s_call, s_effect, statements, function_head, entry_head, counted, limit, variants, types, expressions, levels, queries, values, atomics, results, repeat, variant, More, brings, over, nothing, more, follow, run}
use Rattle.model.specs.Tree.{Stmt, Form, Block, Cases, Case, stmt, emit, block, branch, switch, loop, break, continue, return, kill, call, effect, ◌then◌, ◌also◌, case, Range, opt_of, kind_of, size_b, size_c, flat_all, flat_list, flat_x, flat_s, flat_f, flat_b, flat_c, flat_k, flat_block, flat, flat_entry, rows, listed, operands, stmts, cases, case_at, form, checked, shaped, statement, block_at, function_at, entry_at, DEPTH}
use Rattle.theory_image.specs.Words.{word_of_lem}
use Rattle.intake_fields.specs.Parts.{Reader, join, times, list_of, case_of, case_row, part, parts, row_of, row_as, statement_rows, chosen, kinded, check, statement_of, block_of, read_b, piece, pieces, rows as brings-rows, over as brings_over, brings_of, brought, once, opening, function_row, entry_row}

-- ---- fusion
module _ {A B C : Type 0} where
  pub map-map : (f : B → C) (g : A → B) (o : Outcome A) → map_o f (map_o g o) ≡ map_o (λ x. f (g x)) o
  unfolding map_o
  map-map f g (fits a ws) = refl
  map-map f g misfit = refl
  map-map f g unknown = refl

  pub bind_fits : (f : B → C) (g : A → B) (o : Outcome A) → map_o f (o ⟫ λ a ws. fits (g a) ws) ≡ map_o (λ x. f (g x)) o
  unfolding map_o ◌⟫◌
  bind_fits f g (fits a ws) = refl
  bind_fits f g misfit = refl
  bind_fits f g unknown = refl

pub map_same : {A B : Type 0} (f g : A → B) → ((a : A) → f a ≡ g a) → (o : Outcome A) → map_o f o ≡ map_o g o
unfolding map_o
map_same f g h (fits a ws) = ap (λ x. fits x ws) (h a)
map_same f g h misfit = refl
map_same f g h unknown = refl

pub map-none : (o : Outcome Cells) → map_o ([] ++◌) o ≡ o
unfolding map_o
map-none (fits a ws) = refl
map-none misfit = refl
map-none unknown = refl

pub map-append : (pre cs : Cells) (o : Outcome Cells) → map_o ((pre ++ cs) ++◌) o ≡ map_o (pre ++◌) (map_o (cs ++◌) o)
map-append pre cs o = map_same _ _ (λ ds. append_assoc pre cs ds) o ∙ sym (map-map (pre ++◌) (cs ++◌) o)

pub join-none : (o : Outcome Cells) → join o (λ ws. fits [] ws) ≡ o
unfolding join map_o
join-none (fits cs ws) = ap (λ x. fits x ws) (append-nil cs)
join-none misfit = refl
join-none unknown = refl

pub join-same : (o : Outcome Cells) (p q : Reader) → ((ws : List ℕ) → p ws ≡ q ws) → join o p ≡ join o q
unfolding join
join-same (fits cs ws) p q h = ap (map_o (cs ++◌)) (h ws)
join-same misfit p q h = refl
join-same unknown p q h = refl

pub join-map : (cs : Cells) (o : Outcome Cells) (p : Reader) → map_o (cs ++◌) (join o p) ≡ join (map_o (cs ++◌) o) p
unfolding join map_o
join-map cs (fits ds ws) p = sym (map-append cs ds (p ws))
join-map cs misfit p = refl
join-map cs unknown p = refl

pub join-join : (o : Outcome Cells) (p q : Reader) → join (join o p) q ≡ join o (λ ws. join (p ws) q)
unfolding join map_o
join-join (fits cs ws) p q = sym (join-map cs (p ws) q)
join-join misfit p q = refl
join-join unknown p q = refl

pub times-same : (n : ℕ) (p q : Reader) → ((ws : List ℕ) → p ws ≡ q ws) → (ws : List ℕ) → times n p ws ≡ times n q ws
unfolding times
times-same zero p q h ws = refl
times-same (suc n) p q h ws = ap (λ o. join o (times n p)) (h ws) ∙ join-same (q ws) (times n p) (times n q) (times-same n p q h)

-- ---- runs
pub run_none : (ws : List ℕ) → run ws [] ≡ fits [] ws
unfolding run
run_none [] = refl
run_none (w ∷ ws) = refl

pub plain_more : (s w : ℕ) → s < PAD → more s w ≡ brings []
unfolding more
plain_more s w h = rw (more, lt-ltb s PAD h)

pub run-word : (s w : ℕ) (ws : List ℕ) → s < PAD → run (w ∷ ws) (s ∷ []) ≡ fits ((s, w) ∷ []) ws
unfolding run follow map_o
run-word s w ws h = rw (plain_more s w h, run_none ws)

-- a run is its symbols' runs
pub run-append : (ws a b : List ℕ) → run ws (a ++ b) ≡ join (run ws a) (λ ws. run ws b)
unfolding run join map_o follow
run-append [] [] b = sym (map-none (run [] b))
run-append [] (s ∷ a) b = refl
run-append (w ∷ ws) [] b = sym (map-none (run (w ∷ ws) b))
run-append (w ∷ ws) (s ∷ a) b = go (more s w) (λ p. run-append ws p b)
  where
    more_of : (o : Outcome Cells) → map_o ((s, w) ∷◌) (join o (λ ws. run ws b)) ≡ join (map_o ((s, w) ∷◌) o) (λ ws. run ws b)
    more_of (fits cs ws) = map-map _ _ (run ws b)
    more_of misfit = refl
    more_of unknown = refl

    go : (o : More) → ((p : List ℕ) → run ws (p ++ b) ≡ join (run ws p) (λ ws. run ws b))
        → map_o ((s, w) ∷◌) (follow o (a ++ b) (run ws)) ≡ join (map_o ((s, w) ∷◌) (follow o a (run ws))) (λ ws. run ws b)
    go (brings x) ih = ap (map_o ((s, w) ∷◌)) (ap (run ws) (sym (append_assoc x a b)) ∙ ih (x ++ a)) ∙ more_of (run ws (x ++ a))
    go over ih = refl
    go nothing ih = refl

pub run-repeat : (n : ℕ) (r : Row) (ws : List ℕ) → run ws (repeat n r) ≡ times n (λ ws. run ws r) ws
unfolding repeat times
run-repeat zero r ws = run_none ws
run-repeat (suc n) r ws = run-append ws r (repeat n r) ∙ join-same (run ws r) _ _ (run-repeat n r)

-- ---- a reader of trees is a chain of parts; pre is what comes before
pub record Chain {C : Type 0} (flat : C → Cells) (pre : Cells) (o : Outcome C) (t : Outcome Cells) : Type 0 where
  pub same : map_o flat o ≡ map_o (pre ++◌) t

module _ {C : Type 0} {flat : C → Cells} {pre : Cells} {p : Reader} where
  pub step : {A : Type 0} {g : A → List ℕ → Outcome C} (f : A → Cells) (o : Outcome A) → ((a : A) (ws : List ℕ) → Chain flat (pre ++ f a) (g a ws) (p ws)) → Chain flat pre (o ⟫ g) (join (map_o f o) p)
  unfolding ◌⟫◌ map_o join
  step f (fits a ws) h = record { same = (h a ws).same ∙ map-append pre (f a) (p ws) }
  step f misfit h = record { same = refl }
  step f unknown h = record { same = refl }

  -- the same, where the flat of what is read is known otherwise
  pub step_as_lem : {A : Type 0} {g : A → List ℕ → Outcome C} (f : A → Cells) (o : Outcome A) (t : Outcome Cells) → map_o f o ≡ t → ((a : A) (ws : List ℕ) → Chain flat (pre ++ f a) (g a ws) (p ws)) → Chain flat pre (o ⟫ g) (join t p)
  step_as_lem f o t e h = record { same = (step f o h).same ∙ ap (λ q. map_o (pre ++◌) (join q p)) e }

  -- the same, of cells as they are
  pub step_cells : {g : Cells → List ℕ → Outcome C} (o : Outcome Cells) → ((cs : Cells) (ws : List ℕ) → Chain flat (pre ++ cs) (g cs ws) (p ws)) → Chain flat pre (o ⟫ g) (join o p)
  unfolding ◌⟫◌ map_o join
  step_cells (fits a ws) h = record { same = (h a ws).same ∙ map-append pre a (p ws) }
  step_cells misfit h = record { same = refl }
  step_cells unknown h = record { same = refl }

  -- one word of a plain class
  pub step-word : {g : ℕ → List ℕ → Outcome C} (s : ℕ) (ws : List ℕ) → s < PAD → ((w : ℕ) (ws : List ℕ) → Chain flat (pre ++ (s, w) ∷ []) (g w ws) (p ws)) → Chain flat pre (eat ws g) (join (run ws (s ∷ [])) p)
  unfolding eat map_o join run
  step-word s [] k h = record { same = refl }
  step-word s (w ∷ ws) k h = record { same = rw (run-word s w ws k) ((h w ws).same ∙ map-append pre ((s, w) ∷ []) (p ws)) }

-- the last: nothing is left
pub last : {C : Type 0} {flat : C → Cells} {pre : Cells} (c : C) (ws : List ℕ) → flat c ≡ pre ++ [] → Chain flat pre (fits c ws) (fits [] ws)
unfolding map_o
last c ws e = record { same = ap (λ x. fits x ws) e }

-- nothing comes before
pub bare : {C : Type 0} {flat : C → Cells} {o : Outcome C} {t : Outcome Cells} → Chain flat [] o t → map_o flat o ≡ t
bare {t} c = c.same ∙ map-none t

-- ---- lists: what a count counts
abbrev pub with : ℕ → Cells → ℕ × Cells
with n cs = (n, cs)

-- one more in front
module _ {L : Type 0} (f : L → ℕ × Cells) (n : ℕ) (cs : Cells) (cons : L → L) (is : (l : L) → f (cons l) ≡ (suc (f l).0, cs ++ (f l).1)) where
  pub one_more : (o : Outcome L) (t : Outcome Cells) → map_o f o ≡ map_o (with n) t → map_o f (o ⟫ λ l ws. fits (cons l) ws) ≡ map_o (with (suc n)) (map_o (cs ++◌) t)
  one_more o t ih =
      bind_fits f cons o
      ∙ map_same _ _ is o
      ∙ sym (map-map (λ (x : ℕ × Cells). (suc x.0, cs ++ x.1)) f o)
      ∙ ap (map_o (λ (x : ℕ × Cells). (suc x.0, cs ++ x.1))) ih
      ∙ map-map _ _ t
      ∙ sym (map-map _ _ t)

module _ {L A : Type 0} (f : L → ℕ × Cells) (flat : A → Cells) (cons : A → L → L) (is : (a : A) (l : L) → f (cons a l) ≡ (suc (f l).0, flat a ++ (f l).1)) (p : List ℕ → Outcome A) (q : List ℕ → Outcome L) (n : ℕ)
    (ih : (ws : List ℕ) → map_o f (q ws) ≡ map_o (with n) (times n (λ ws. map_o flat (p ws)) ws)) where
  pub first : (o : Outcome A) → map_o f (o ⟫ λ a ws. q ws ⟫ λ l ws. fits (cons a l) ws) ≡ map_o (with (suc n)) (join (map_o flat o) (times n (λ ws. map_o flat (p ws))))
  unfolding ◌⟫◌ map_o join
  first (fits a ws) = one_more f n (flat a) (cons a) (is a) (q ws) (times n (λ ws. map_o flat (p ws)) ws) (ih ws)
  first misfit = refl
  first unknown = refl

abbrev pub counted_b : Block Range → ℕ × Cells
counted_b b = (size_b b, flat_b b)

pub stmts-counted : (n : ℕ) (p : List ℕ → Outcome (Stmt Range)) (ws : List ℕ) → map_o counted_b (stmts n p ws) ≡ map_o (with n) (times n (λ ws. map_o flat_s (p ws)) ws)
unfolding stmts times size_b flat_b map_o
stmts-counted zero p ws = refl
stmts-counted (suc n) p ws = first counted_b flat_s ◌then◌ (λ s b. refl) p (stmts n p) n (λ ws. stmts-counted n p ws) (p ws)

abbrev pub counted_c : Cases Range → ℕ × Cells
counted_c ks = (size_c ks, flat_c ks)

pub cases-counted : (n : ℕ) (p : List ℕ → Outcome (Case Range)) (ws : List ℕ) → map_o counted_c (cases n p ws) ≡ map_o (with n) (times n (λ ws. map_o flat_k (p ws)) ws)
unfolding cases times size_c flat_b map_o
cases-counted zero p ws = refl
cases-counted (suc n) p ws = first counted_c flat_k ◌also◌ (λ s b. refl) p (cases n p) n (λ ws. cases-counted n p ws) (p ws)

abbrev pub counted_r : List Cells → ℕ × Cells
counted_r rs = (length rs, flat_all rs)

map_id : (o : Outcome Cells) → map_o (λ cs. cs) o ≡ o
unfolding map_o
map_id (fits a ws) = refl
map_id misfit = refl
map_id unknown = refl

pub rows-counted : (n : ℕ) (r : Row) (ws : List ℕ) → map_o counted_r (rows n r ws) ≡ map_o (with n) (times n (λ ws. run ws r) ws)
unfolding rows times flat_all map_o
rows-counted n r ws = go n ws ∙ ap (map_o (with n)) (times-same n _ _ (λ ws. map_id (run ws r)) ws)
  where
    go : (n : ℕ) (ws : List ℕ) → map_o counted_r (rows n r ws) ≡ map_o (with n) (times n (λ ws. map_o (λ cs. cs) (run ws r)) ws)
    go zero ws = refl
    go (suc n) ws = first counted_r (λ cs. cs) ◌∷◌ (λ s b. refl) (λ ws. run ws r) (rows n r) n (λ ws. go n ws) (run ws r)

abbrev pub counted_x : List ℕ → ℕ × Cells
counted_x xs = (length xs, map (λ x. (EXPR, x)) xs)

pub operands-counted : (n : ℕ) (ws : List ℕ) → map_o counted_x (operands n ws) ≡ map_o (with n) (times n (λ ws. run ws (EXPR ∷ [])) ws)
unfolding operands times eat join run map_o
operands-counted zero ws = refl
operands-counted (suc n) [] = refl
operands-counted (suc n) (x ∷ ws) = rw (run-word EXPR x ws (omega arith)) (one_more counted_x n ((EXPR, x) ∷ []) (x ∷◌) (λ l. refl) (operands n ws) (times n (λ ws. run ws (EXPR ∷ [])) ws) (operands-counted n ws))

-- a count before what it counts
pub behind : {L : Type 0} (f : L → ℕ × Cells) (s n : ℕ) (o : Outcome L) (t : Outcome Cells) → map_o f o ≡ map_o (with n) t
    → map_o (λ l. (s, (f l).0) ∷ (f l).1) o ≡ map_o ((s, n) ∷◌) t
behind f s n o t e = sym (map-map (λ (x : ℕ × Cells). (s, x.0) ∷ x.1) f o) ∙ ap (map_o (λ (x : ℕ × Cells). (s, x.0) ∷ x.1)) e ∙ map-map _ _ t

-- ---- a list of rows is one symbol
module _ (s : ℕ) (low : MEMBERS ≤ s) (high : s < TYPE_KIND) where
  list_more : (w : ℕ) → more s w ≡ elim (leb w (limit s)) [ true ↦ brings (repeat w (counted s)) | false ↦ over ]
  unfolding more
  list_more w = rw (more, le-ltb s PAD (omega arith), le-ltb s TEXT (omega arith), ne_eqb s TEXT (omega arith), ne_eqb s OPERANDS (omega arith), lt-ltb s TYPE_KIND high)

  pub run_list : (w : ℕ) (ws : List ℕ) → run (w ∷ ws) (s ∷ []) ≡ elim (leb w (limit s)) [ true ↦ map_o ((s, w) ∷◌) (times w (λ ws. run ws (counted s)) ws) | false ↦ misfit ]
  unfolding run follow map_o
  run_list w ws = rw (list_more w) (go (leb w (limit s)))
    where
      go : (b : Bool) → map_o ((s, w) ∷◌) (follow (elim b [ true ↦ brings (repeat w (counted s)) | false ↦ over ]) [] (run ws)) ≡ elim b [ true ↦ map_o ((s, w) ∷◌) (times w (λ ws. run ws (counted s)) ws) | false ↦ misfit ]
      go true = ap (map_o ((s, w) ∷◌)) (ap (run ws) (append-nil (repeat w (counted s))) ∙ run-repeat w (counted s) ws)
      go false = refl

  pub listed-flat : (ws : List ℕ) → map_o (flat_list s) (listed s ws) ≡ run ws (s ∷ [])
  unfolding listed eat run map_o flat_list
  listed-flat [] = refl
  listed-flat (w ∷ ws) = go (leb w (limit s)) ∙ sym (run_list w ws)
    where
      go : (b : Bool) → map_o (flat_list s) (elim b [ true ↦ rows w (counted s) ws | false ↦ misfit ]) ≡ elim b [ true ↦ map_o ((s, w) ∷◌) (times w (λ ws. run ws (counted s)) ws) | false ↦ misfit ]
      go true = behind counted_r s w (rows w (counted s) ws) (times w (λ ws. run ws (counted s)) ws) (rows-counted w (counted s) ws)
      go false = refl

operands-more : (w : ℕ) → more OPERANDS w ≡ brings (repeat w (EXPR ∷ []))
unfolding more
operands-more w = refl

pub run-operands : (w : ℕ) (ws : List ℕ) → run (w ∷ ws) (OPERANDS ∷ []) ≡ map_o ((OPERANDS, w) ∷◌) (times w (λ ws. run ws (EXPR ∷ [])) ws)
unfolding run follow
run-operands w ws = ap (λ m. map_o ((OPERANDS, w) ∷◌) (follow m [] (run ws))) (operands-more w) ∙ ap (map_o ((OPERANDS, w) ∷◌)) (ap (run ws) (append-nil (repeat w (EXPR ∷ []))) ∙ run-repeat w (EXPR ∷ []) ws)

-- ---- the forms of statements
-- the kind that a form of the shape writes, read at kind k
unfoldable pub kind_as : Shape → ℕ → ℕ
kind_as s_emit k = 0
kind_as s_block k = 1
kind_as s_if k = 2
kind_as s_switch k = 3
kind_as s_loop k = 4
kind_as s_break k = 5
kind_as s_continue k = 6
kind_as s_return k = 7
kind_as s_kill k = 8
kind_as s_call k = 15
kind_as (s_effect ss) k = k

-- each symbol is below the bound
unfoldable pub below? : ℕ → Row → Bool
below? m [] = true
below? m (s ∷ ss) = elim (ltb s m) [ true ↦ below? m ss | false ↦ false ]

unfoldable pub fine? : Shape → ℕ → Bool
fine? s_emit k = eqb 0 k
fine? s_block k = eqb 1 k
fine? s_if k = eqb 2 k
fine? s_switch k = eqb 3 k
fine? s_loop k = eqb 4 k
fine? s_break k = eqb 5 k
fine? s_continue k = eqb 6 k
fine? s_return k = eqb 7 k
fine? s_kill k = eqb 8 k
fine? s_call k = eqb 15 k
fine? (s_effect ss) k = below? BLOCK ss

part_field : (B : Reader) (s : ℕ) (ws : List ℕ) → ltb s BLOCK ≡ true → part B s ws ≡ run ws (s ∷ [])
unfolding part
part_field B s ws h = rw (h, part)

pub run-parts : (B : Reader) (ss : Row) (ws : List ℕ) → below? BLOCK ss ≡ true → run ws ss ≡ parts B ss ws
unfolding parts below?
run-parts B [] ws h = run_none ws
run-parts B (s ∷ ss) ws h = go (ltb s BLOCK) refl h (λ ws k. run-parts B ss ws k)
  where
    go : (b : Bool) → ltb s BLOCK ≡ b → elim b [ true ↦ below? BLOCK ss | false ↦ false ] ≡ true → ((ws : List ℕ) → below? BLOCK ss ≡ true → run ws ss ≡ parts B ss ws) → run ws (s ∷ ss) ≡ join (part B s ws) (parts B ss)
    go true e h ih = run-append ws (s ∷ []) ss ∙ ap (λ o. join o (λ ws. run ws ss)) (sym (part_field B s ws e)) ∙ join-same (part B s ws) _ _ (λ ws. ih ws h)
    go false e h ih = cc

module _ (B : List ℕ → Outcome (Block Range)) where
  -- B, flat
  abbrev pub flatly : Reader
  flatly ws = map_o flat_block (B ws)

  pub case_flat : (ws : List ℕ) → map_o flat_k (case_at B ws) ≡ case_of flatly ws
  unfolding case_at case_of flat_block flat_b
  case_flat ws = bare {flat = flat_k}
      (step_cells (run ws (VALUE ∷ [])) λ v ws. step flat_block (B ws) λ b ws. step-word 2 ws (omega arith) λ f ws.
      last {pre = (v ++ flat_block b) ++ (2, f) ∷ []} (case v b f) ws (simp (append_assoc, append-nil)))

  pub cases-flat : (n : ℕ) (ws : List ℕ) → map_o (λ ks. (CASES, size_c ks) ∷ flat_c ks) (cases n (case_at B) ws) ≡ map_o ((CASES, n) ∷◌) (times n (case_of flatly) ws)
  cases-flat n ws = behind counted_c CASES n (cases n (case_at B) ws) _ (cases-counted n (case_at B) ws ∙ ap (map_o (with n)) (times-same n _ _ case_flat ws))

module _ (B : List ℕ → Outcome (Block Range)) (k a b : ℕ) where
  abbrev pub behind_kind : Form Range → Cells
  behind_kind f = (STMT_KIND, kind_of f) ∷ (SPAN, a) ∷ (UPTO, b) ∷ flat_f f

  abbrev pub lead : Shape → Cells
  lead sh = (STMT_KIND, kind_as sh k) ∷ (SPAN, a) ∷ (UPTO, b) ∷ []

  switch_flat : (c : ℕ) (ws : List ℕ) → Chain behind_kind (lead s_switch ++ (EXPR, c) ∷ []) (eat ws λ n ws. cases n (case_at B) ws ⟫ λ ks ws. fits (switch c ks) ws) (join (list_of CASES (case_of (flatly B)) ws) (λ ws. fits [] ws))
  unfolding eat list_of map_o kind_of kind_as flat_f join
  switch_flat c [] = record { same = refl }
  switch_flat c (n ∷ ws) = step_as_lem (λ ks. (CASES, size_c ks) ∷ flat_c ks) (cases n (case_at B) ws) _ (cases-flat B n ws) (λ ks ws. last {pre = (lead s_switch ++ (EXPR, c) ∷ []) ++ (CASES, size_c ks) ∷ flat_c ks} (switch c ks) ws (simp append-nil))

  call-flat : (f : ℕ) (ws : List ℕ) → Chain behind_kind (lead s_call ++ (CALLEE, f) ∷ []) (eat ws λ n ws. operands n ws ⟫ λ xs ws. eat ws λ r ws. fits (call f xs (opt_of r)) ws) (join (run ws (OPERANDS ∷ [])) (λ ws. join (run ws (OPT_RESULT ∷ [])) (λ ws. fits [] ws)))
  unfolding eat map_o kind_of kind_as flat_f join flat_x run
  call-flat f [] = record { same = refl }
  call-flat f (n ∷ ws) =
      step_as_lem flat_x (operands n ws) _ (behind counted_x OPERANDS n (operands n ws) (times n (λ ws. run ws (EXPR ∷ [])) ws) (operands-counted n ws) ∙ sym (run-operands n ws))
      (λ xs ws. step-word OPT_RESULT ws (omega arith) λ r ws. last {pre = ((lead s_call ++ (CALLEE, f) ∷ []) ++ flat_x xs) ++ (OPT_RESULT, r) ∷ []} (call f xs (opt_of r)) ws (simp (append_assoc, append-nil, word_of_lem)))

  pub form-flat : (sh : Shape) (ws : List ℕ) → fine? sh k ≡ true → Chain behind_kind (lead sh) (form sh k B ws) (parts (flatly B) (row_of sh) ws)
  unfolding form parts part row_of kind_as kind_of flat_f flat_block fine?
  form-flat s_emit ws h = step-word FROM ws (omega arith) λ s ws. step-word TO ws (omega arith) λ e ws. last (emit (record { from = s; to = e })) ws refl
  form-flat s_block ws h = step flat_block (B ws) λ b ws. last {pre = lead s_block ++ flat_block b} (block b) ws (simp append-nil)
  form-flat s_if ws h = step-word EXPR ws (omega arith) λ c ws. step flat_block (B ws) λ a ws. step flat_block (B ws) λ b ws.
      last {pre = ((lead s_if ++ (EXPR, c) ∷ []) ++ flat_block a) ++ flat_block b} (branch c a b) ws (simp (append_assoc, append-nil))
  form-flat s_switch ws h = step-word EXPR ws (omega arith) λ c ws. switch_flat c ws
  form-flat s_loop ws h = step flat_block (B ws) λ a ws. step flat_block (B ws) λ b ws. step-word OPT_EXPR ws (omega arith) λ o ws.
      last {pre = ((lead s_loop ++ flat_block a) ++ flat_block b) ++ (OPT_EXPR, o) ∷ []} (loop a b (opt_of o)) ws (simp (append_assoc, append-nil, word_of_lem))
  form-flat s_break ws h = last break ws refl
  form-flat s_continue ws h = last continue ws refl
  form-flat s_return ws h = step-word OPT_EXPR ws (omega arith) λ o ws. last {pre = lead s_return ++ (OPT_EXPR, o) ∷ []} (return (opt_of o)) ws (simp (append-nil, word_of_lem))
  form-flat s_kill ws h = last kill ws refl
  form-flat s_call ws h = step-word CALLEE ws (omega arith) λ f ws. call-flat f ws
  form-flat (s_effect ss) ws h = record { same = bind_fits behind_kind (effect k) (run ws ss) ∙ ap (map_o (lead (s_effect ss) ++◌)) (run-parts (flatly B) ss ws h) }

-- ---- the table of statements, seen flat
kind_is : (sh : Shape) (k : ℕ) → fine? sh k ≡ true → kind_as sh k ≡ k
unfolding fine? kind_as
kind_is s_emit k h = eqb-true 0 k h
kind_is s_block k h = eqb-true 1 k h
kind_is s_if k h = eqb-true 2 k h
kind_is s_switch k h = eqb-true 3 k h
kind_is s_loop k h = eqb-true 4 k h
kind_is s_break k h = eqb-true 5 k h
kind_is s_continue k h = eqb-true 6 k h
kind_is s_return k h = eqb-true 7 k h
kind_is s_kill k h = eqb-true 8 k h
kind_is s_call k h = eqb-true 15 k h
kind_is (s_effect ss) k h = refl

unfoldable pub all-fine? : ℕ → List Shape → Bool
all-fine? i [] = true
all-fine? i (sh ∷ l) = elim (fine? sh i) [ true ↦ all-fine? (suc i) l | false ↦ false ]

both_true : (a b : Bool) → elim a [ true ↦ b | false ↦ false ] ≡ true → (a ≡ true) × (b ≡ true)
both_true true b h = (refl, h)
both_true false b h = cc

looked : (l : List Shape) (i k : ℕ) (sh : Shape) → all-fine? i l ≡ true → get_elem? l k ≡ some sh → fine? sh (i + k) ≡ true
unfolding all-fine?
looked [] i k sh h e = cc
looked (x ∷ l) i zero sh h e = let q : x ≡ sh = cc in rw (← q, add-zero i) (both_true (fine? x i) _ h).0
looked (x ∷ l) i (suc k) sh h e = rw (add-suc i k, ← suc-add i k) (looked l (suc i) k sh (both_true (fine? x i) _ h).1 e)

pub fine : (k : ℕ) (sh : Shape) → get_elem? statements k ≡ some sh → fine? sh k ≡ true
unfolding statements all-fine? fine? below?
fine k sh e = rw zero-add at (looked statements 0 k sh refl e)

-- ---- a statement
check-flat : (n a b : ℕ) (o : Outcome (Form Range)) → map_o flat_s (o ⟫ λ f ws. checked n (stmt a b f) ws) ≡ check n (map_o (λ f. (STMT_KIND, kind_of f) ∷ (SPAN, a) ∷ (UPTO, b) ∷ flat_f f) o)
unfolding check ◌⟫◌ map_o flat_s checked
check-flat n a b (fits f ws) = go (eqb n (length (flat_s (stmt a b f)))) refl
  where
    go : (t : Bool) → eqb n (length (flat_s (stmt a b f))) ≡ t → map_o flat_s (checked n (stmt a b f) ws) ≡ check n (fits ((STMT_KIND, kind_of f) ∷ (SPAN, a) ∷ (UPTO, b) ∷ flat_f f) ws)
    go true e = rw (e, checked, check) (ap (λ x. fits ((LENGTH, x) ∷ (STMT_KIND, kind_of f) ∷ (SPAN, a) ∷ (UPTO, b) ∷ flat_f f) ws) (sym (eqb-true n _ e)))
    go false e = rw (e, checked, check)
check-flat n a b misfit = refl
check-flat n a b unknown = refl

led : (x k a b : ℕ) → x ≡ k → (o : Outcome Cells) → map_o (((STMT_KIND, x) ∷ (SPAN, a) ∷ (UPTO, b) ∷ []) ++◌) o ≡ map_o ((STMT_KIND, k) ∷◌) (map_o ((SPAN, a) ∷ [] ++◌) (map_o ((UPTO, b) ∷ [] ++◌) o))
unfolding map_o
led x k a b e (fits cs ws) = rw e
led x k a b e misfit = refl
led x k a b e unknown = refl

at_row : (g : List ℕ → Outcome Cells) (l : List Shape) (k n : ℕ) → chosen (get_elem? (map row_as l) k) (λ r. check n (g r)) ≡ check n (chosen (get_elem? (map row_as l) k) g)
unfolding chosen check
at_row g [] k n = refl
at_row g (sh ∷ l) zero n = refl
at_row g (sh ∷ l) (suc k) n = at_row g l k n

shaped-flat : (g : Shape → Outcome (Stmt Range)) (h : Row → Outcome Cells) (l : List Shape) (k : ℕ) → ((sh : Shape) → get_elem? l k ≡ some sh → map_o flat_s (g sh) ≡ h (row_as sh)) → map_o flat_s (shaped (get_elem? l k) g) ≡ chosen (get_elem? (map row_as l) k) h
unfolding shaped chosen map_o
shaped-flat g h [] k f = refl
shaped-flat g h (sh ∷ l) zero f = f sh refl
shaped-flat g h (sh ∷ l) (suc k) f = shaped-flat g h l k f

module _ (B : List ℕ → Outcome (Block Range)) where
  spans : (n k : ℕ) (sh : Shape) (ws : List ℕ) → get_elem? statements k ≡ some sh
      → map_o flat_s (eat ws λ a ws. eat ws λ b ws. form sh k B ws ⟫ λ f ws. checked n (stmt a b f) ws) ≡ check n (map_o ((STMT_KIND, k) ∷◌) (parts (flatly B) (row_as sh) ws))
  unfolding parts part eat map_o join check run row_as
  spans n k sh [] e = refl
  spans n k sh (a ∷ []) e = rw (run-word SPAN a [] (omega arith))
  spans n k sh (a ∷ b ∷ ws) e =
      let h = fine k sh e in
      rw (run-word SPAN a (b ∷ ws) (omega arith), run-word UPTO b ws (omega arith))
      (check-flat n a b (form sh k B ws) ∙ ap (check n) ((form-flat B k a b sh ws h).same ∙ led (kind_as sh k) k a b (kind_is sh k h) (parts (flatly B) (row_of sh) ws)))

  pub statement-flat : (ws : List ℕ) → map_o flat_s (statement B ws) ≡ statement_of (flatly B) ws
  unfolding statement statement_of kinded eat map_o check statement_rows
  statement-flat [] = refl
  statement-flat (n ∷ []) = refl
  statement-flat (n ∷ k ∷ ws) =
      shaped-flat (λ sh. eat ws λ a ws. eat ws λ b ws. form sh k B ws ⟫ λ f ws. checked n (stmt a b f) ws) (λ r. check n (map_o ((STMT_KIND, k) ∷◌) (parts (flatly B) r ws))) statements k (λ sh e. spans n k sh ws e)
      ∙ at_row (λ r. map_o ((STMT_KIND, k) ∷◌) (parts (flatly B) r ws)) statements k n

-- ---- a block, by the depth that is left
pub block_none : (ws : List ℕ) → read_b zero ws ≡ misfit
unfolding read_b block_at map_o
block_none ws = refl

pub block_some : (d : ℕ) (ws : List ℕ) → read_b (suc d) ws ≡ block_of (read_b d) ws
unfolding read_b block_at block_of list_of eat map_o flat_block
block_some d [] = refl
block_some d (n ∷ ws) = behind counted_b BLOCK n (stmts n (statement (block_at d)) ws) (times n (statement_of (read_b d)) ws) (stmts-counted n (statement (block_at d)) ws ∙ ap (map_o (with n)) (times-same n _ _ (statement-flat (block_at d)) ws))

-- ---- records
pub parts-append : (B : Reader) (a b : Row) (ws : List ℕ) → parts B (a ++ b) ws ≡ join (parts B a ws) (parts B b)
unfolding parts join
parts-append B [] b ws = sym (map-none (parts B b ws))
parts-append B (s ∷ a) b ws = join-same (part B s ws) _ _ (λ ws. parts-append B a b ws) ∙ sym (join-join (part B s ws) (parts B a) (parts B b))

-- the fields after a function's head
abbrev pub behind_head : Row
behind_head = ARGUMENTS ∷ RETURNS ∷ LOCALS ∷ EXPRESSIONS ∷ NAMED ∷ BLOCK ∷ []

head_fields : below? BLOCK function_head ≡ true
unfolding below? function_head
head_fields = refl

entry-fields : below? BLOCK entry_head ≡ true
unfolding below? entry_head
entry-fields = refl

function_chain : (ws : List ℕ) → map_o flat (function_at ws) ≡ join (run ws function_head) (parts (read_b DEPTH) behind_head)
unfolding function_at flat parts part read_b
function_chain ws =
    bare {flat = flat}
    (step_cells (run ws function_head) λ h ws.
    step_as_lem (flat_list ARGUMENTS) (listed ARGUMENTS ws) _ (listed-flat ARGUMENTS (omega arith) (omega arith) ws) λ gs ws.
    step_cells (run ws (RETURNS ∷ [])) λ r ws.
    step_as_lem (flat_list LOCALS) (listed LOCALS ws) _ (listed-flat LOCALS (omega arith) (omega arith) ws) λ ls ws.
    step_as_lem (flat_list EXPRESSIONS) (listed EXPRESSIONS ws) _ (listed-flat EXPRESSIONS (omega arith) (omega arith) ws) λ es ws.
    step_as_lem (flat_list NAMED) (listed NAMED ws) _ (listed-flat NAMED (omega arith) (omega arith) ws) λ ns ws.
    step flat_block (block_at DEPTH ws) λ b ws.
    last {pre = (((((h ++ flat_list ARGUMENTS gs) ++ r) ++ flat_list LOCALS ls) ++ flat_list EXPRESSIONS es) ++ flat_list NAMED ns) ++ flat_block b} (record { head = h; arguments = gs; result = r; locals = ls; exprs = es; named = ns; body = b }) ws (simp (append_assoc, append-nil)))

headed : (B : Reader) (h b : Row) (ws : List ℕ) → below? BLOCK h ≡ true → join (run ws h) (parts B b) ≡ parts B (h ++ b) ws
headed B h b ws f = ap (λ o. join o (parts B b)) (run-parts B h ws f) ∙ sym (parts-append B h b ws)

pub function-flat : (ws : List ℕ) → map_o flat (function_at ws) ≡ parts (read_b DEPTH) function_row ws
unfolding function_row
function-flat ws = function_chain ws ∙ headed (read_b DEPTH) function_head behind_head ws head_fields

pub entry-flat : (ws : List ℕ) → map_o flat_entry (entry_at ws) ≡ parts (read_b DEPTH) entry_row ws
unfolding entry_at entry_row flat_entry
entry-flat ws =
    bare {flat = flat_entry}
    (step_cells (run ws entry_head) λ h ws. record { same = bind_fits flat_entry (λ f. record { head = h; function = f }) (function_at ws) ∙ sym (map-map (h ++◌) flat (function_at ws)) ∙ ap (map_o (h ++◌)) (function-flat ws) })
    ∙ headed (read_b DEPTH) entry_head function_row ws entry-fields

-- ---- pieces
module _ (d : ℕ) where
  piece-part : (s : ℕ) (ws : List ℕ) → s < LENGTH → piece d s ws ≡ part (read_b d) s ws
  unfolding piece
  piece-part s ws h = rw (piece, ne_eqb s LENGTH (omega arith), ne_eqb s STMT_KIND (omega arith))

  -- where no statement starts, parts are pieces
  pub parts-pieces : (ss : Row) (ws : List ℕ) → below? LENGTH ss ≡ true → parts (read_b d) ss ws ≡ pieces d ss ws
  unfolding parts pieces below?
  parts-pieces [] ws h = refl
  parts-pieces (s ∷ ss) ws h = go (ltb s LENGTH) refl h (λ ws k. parts-pieces ss ws k)
    where
      go : (b : Bool) → ltb s LENGTH ≡ b → elim b [ true ↦ below? LENGTH ss | false ↦ false ] ≡ true → ((ws : List ℕ) → below? LENGTH ss ≡ true → parts (read_b d) ss ws ≡ pieces d ss ws) → join (part (read_b d) s ws) (parts (read_b d) ss) ≡ join (piece d s ws) (pieces d ss)
      go true e h ih = ap (λ o. join o (parts (read_b d) ss)) (sym (piece-part s ws (ltb-true s LENGTH e))) ∙ join-same (piece d s ws) _ _ (λ ws. ih ws h)
      go false e h ih = cc

  below_less : (ss : Row) → below? BLOCK ss ≡ true → below? LENGTH ss ≡ true
  unfolding below?
  below_less [] h = refl
  below_less (s ∷ ss) h = go (ltb s BLOCK) refl h (below_less ss)
    where
      go : (b : Bool) → ltb s BLOCK ≡ b → elim b [ true ↦ below? BLOCK ss | false ↦ false ] ≡ true → (below? BLOCK ss ≡ true → below? LENGTH ss ≡ true) → elim (ltb s LENGTH) [ true ↦ below? LENGTH ss | false ↦ false ] ≡ true
      go true e h ih = rw (lt-ltb s LENGTH (omega (arith, ltb-true s BLOCK e))) (ih h)
      go false e h ih = cc

  pub run-pieces : (ss : Row) (ws : List ℕ) → below? BLOCK ss ≡ true → run ws ss ≡ pieces d ss ws
  run-pieces ss ws h = run-parts (read_b d) ss ws h ∙ parts-pieces ss ws (below_less ss h)

  pub piece-one : (s : ℕ) (ws : List ℕ) → pieces d (s ∷ []) ws ≡ piece d s ws
  unfolding pieces
  piece-one s ws = join-none (piece d s ws)

  pub piece-field : (s : ℕ) (ws : List ℕ) → s < BLOCK → piece d s ws ≡ run ws (s ∷ [])
  piece-field s ws h = piece-part s ws (omega arith) ∙ part_field (read_b d) s ws (lt-ltb s BLOCK h)

  pub piece-length : (ws : List ℕ) → piece d LENGTH ws ≡ statement_of (read_b d) ws
  unfolding piece
  piece-length ws = refl

  pub piece_kind : (ws : List ℕ) → piece d STMT_KIND ws ≡ kinded (read_b d) ws
  unfolding piece
  piece_kind ws = refl

-- ---- the tables' rows hold no statements, and but for those of statements no blocks
all_below? : ℕ → List Row → Bool
all_below? m [] = true
all_below? m (r ∷ l) = elim (below? m r) [ true ↦ all_below? m l | false ↦ false ]

looked_row : (m : ℕ) (l : List Row) (k : ℕ) (r : Row) → all_below? m l ≡ true → get_elem? l k ≡ some r → below? m r ≡ true
unfolding all_below?
looked_row m [] k r h e = cc
looked_row m (x ∷ l) zero r h e = let q : x ≡ r = cc in rw (← q) (both_true (below? m x) _ h).0
looked_row m (x ∷ l) (suc k) r h e = looked_row m l k r (both_true (below? m x) _ h).1 e

statement_row_below : (k : ℕ) (r : Row) → get_elem? statement_rows k ≡ some r → below? LENGTH r ≡ true
unfolding statement_rows row_as row_of statements all_below? below?
statement_row_below k r e = looked_row LENGTH statement_rows k r refl e

seven : (f : ℕ → Bool) (i : ℕ) → f 0 ≡ true → f 1 ≡ true → f 2 ≡ true → f 3 ≡ true → f 4 ≡ true → f 5 ≡ true → f 6 ≡ true → i < 7 → f i ≡ true
seven f zero a b c d e g h l = a
seven f (suc zero) a b c d e g h l = b
seven f (suc (suc zero)) a b c d e g h l = c
seven f (suc (suc (suc zero))) a b c d e g h l = d
seven f (suc (suc (suc (suc zero)))) a b c d e g h l = e
seven f (suc (suc (suc (suc (suc zero))))) a b c d e g h l = g
seven f (suc (suc (suc (suc (suc (suc zero)))))) a b c d e g h l = h
seven f (suc (suc (suc (suc (suc (suc (suc i))))))) a b c d e g h l = absurd (omega arith)

variants-below : (s : ℕ) → TYPE_KIND ≤ s → s < BLOCK → all_below? BLOCK (variants s) ≡ true
unfolding variants all_below? below? types expressions levels queries values atomics results
variants-below s h k =
    let e : s ≡ TYPE_KIND + (s - TYPE_KIND) = omega arith in
    rw e (seven (λ i. all_below? BLOCK (variants (TYPE_KIND + i))) (s - TYPE_KIND) refl refl refl refl refl refl refl (omega arith))

five : (f : ℕ → Bool) (i : ℕ) → f 0 ≡ true → f 1 ≡ true → f 2 ≡ true → f 3 ≡ true → f 4 ≡ true → i < 5 → f i ≡ true
five f zero a b c d e l = a
five f (suc zero) a b c d e l = b
five f (suc (suc zero)) a b c d e l = c
five f (suc (suc (suc zero))) a b c d e l = d
five f (suc (suc (suc (suc zero)))) a b c d e l = e
five f (suc (suc (suc (suc (suc i))))) a b c d e l = absurd (omega arith)

counted-below : (s : ℕ) → MEMBERS ≤ s → s < TYPE_KIND → below? BLOCK (counted s) ≡ true
unfolding counted below?
counted-below s h k =
    let e : s ≡ MEMBERS + (s - MEMBERS) = omega arith in
    rw e (five (λ i. below? BLOCK (counted (MEMBERS + i))) (s - MEMBERS) refl refl refl refl refl (omega arith))

-- ---- a piece is a word, and what follows because of it
variant_more_is : (s w : ℕ) → TYPE_KIND ≤ s → more s w ≡ variant (get_elem? (variants s) w)
unfolding more
variant_more_is s w h = rw (more, le-ltb s PAD (omega arith), le-ltb s TEXT (omega arith), ne_eqb s TEXT (omega arith), ne_eqb s OPERANDS (omega arith), le-ltb s TYPE_KIND h)

block_part_is : (B : Reader) (ws : List ℕ) → part B BLOCK ws ≡ B ws
unfolding part
block_part_is B ws = refl

counted_block_is : (d : ℕ) → ((ws : List ℕ) → statement_of (read_b d) ws ≡ pieces d (LENGTH ∷ []) ws) → (ws : List ℕ) → block_of (read_b d) ws ≡ opening d BLOCK ws
unfolding block_of list_of opening eat brings_of brought
counted_block_is d h [] = refl
counted_block_is d h (n ∷ ws) = ap (map_o ((BLOCK, n) ∷◌)) (times-same n _ _ h ws)

module _ (d s : ℕ) where
  -- a list of rows
  pub piece_list : (ws : List ℕ) → MEMBERS ≤ s → s < TYPE_KIND → piece d s ws ≡ opening d s ws
  unfolding opening eat brings_of brought run
  piece_list [] h k = piece-field d s [] (omega arith)
  piece_list (w ∷ ws) h k = piece-field d s (w ∷ ws) (omega arith) ∙ run_list s h k w ws ∙ rw (brings_of, lt-ltb s TYPE_KIND k) (go (leb w (limit s)))
    where
      go : (b : Bool) → elim b [ true ↦ map_o ((s, w) ∷◌) (times w (λ ws. run ws (counted s)) ws) | false ↦ misfit ]
          ≡ brought (elim b [ true ↦ brings-rows w (counted s) | false ↦ brings_over ]) (λ n r. map_o ((s, w) ∷◌) (times n (pieces d r) ws))
      go true = ap (map_o ((s, w) ∷◌)) (times-same w _ _ (λ ws. run-pieces d (counted s) ws (counted-below s h k)) ws)
      go false = refl

  once-times : (r : Row) (ws : List ℕ) → pieces d r ws ≡ times 1 (pieces d r) ws
  unfolding times
  once-times r ws = sym (join-none (pieces d r ws))

  -- a code and its fields
  pub piece-variant : (ws : List ℕ) → TYPE_KIND ≤ s → s < BLOCK → piece d s ws ≡ opening d s ws
  unfolding opening eat brings_of brought run once follow variant map_o
  piece-variant [] h k = piece-field d s [] k
  piece-variant (w ∷ ws) h k = piece-field d s (w ∷ ws) k ∙ rw (variant-more, brings_of, le-ltb s TYPE_KIND h, lt-ltb s BLOCK k) (go (get_elem? (variants s) w) (λ r e. looked_row BLOCK (variants s) w r (variants-below s h k) e))
    where
      variant-more : more s w ≡ variant (get_elem? (variants s) w)
      variant-more = variant_more_is s w h

      go : (o : Option Row) → ((r : Row) → o ≡ some r → below? BLOCK r ≡ true) → map_o ((s, w) ∷◌) (follow (variant o) [] (run ws)) ≡ brought (once o) (λ n r. map_o ((s, w) ∷◌) (times n (pieces d r) ws))
      go none f = refl
      go (some r) f = ap (map_o ((s, w) ∷◌)) (ap (run ws) (append-nil r) ∙ run-pieces d r ws (f r refl) ∙ once-times r ws)

module _ (d : ℕ) where
  case_pieces : (ws : List ℕ) → case_of (read_b d) ws ≡ pieces d case_row ws
  unfolding case_of pieces piece part
  case_pieces ws = refl

  pub piece-cases : (ws : List ℕ) → piece d CASES ws ≡ opening d CASES ws
  unfolding piece part list_of opening eat brings_of brought
  piece-cases [] = refl
  piece-cases (n ∷ ws) = ap (map_o ((CASES, n) ∷◌)) (times-same n _ _ case_pieces ws)

  pub piece_stmt_kind : (ws : List ℕ) → piece d STMT_KIND ws ≡ opening d STMT_KIND ws
  unfolding piece kinded opening eat brings_of brought once chosen
  piece_stmt_kind [] = refl
  piece_stmt_kind (k ∷ ws) = go (get_elem? statement_rows k) (λ r e. statement_row_below k r e)
    where
      go : (o : Option Row) → ((r : Row) → o ≡ some r → below? LENGTH r ≡ true) → chosen o (λ ss. map_o ((STMT_KIND, k) ∷◌) (parts (read_b d) ss ws)) ≡ brought (once o) (λ n r. map_o ((STMT_KIND, k) ∷◌) (times n (pieces d r) ws))
      go none f = refl
      go (some r) f = ap (map_o ((STMT_KIND, k) ∷◌)) (parts-pieces d r ws (f r refl) ∙ once-times d STMT_KIND r ws)

  statement-pieces : (ws : List ℕ) → statement_of (read_b d) ws ≡ pieces d (LENGTH ∷ []) ws
  statement-pieces ws = sym (piece-one d LENGTH ws ∙ piece-length d ws)

  pub piece_block : (ws : List ℕ) → piece (suc d) BLOCK ws ≡ opening d BLOCK ws
  piece_block ws = piece-part (suc d) BLOCK ws (omega arith) ∙ block_part ws ∙ block_some d ws ∙ counted_block ws
    where
      block_part : (ws : List ℕ) → part (read_b (suc d)) BLOCK ws ≡ read_b (suc d) ws
      block_part ws = block_part_is (read_b (suc d)) ws

      counted_block : (ws : List ℕ) → block_of (read_b d) ws ≡ opening d BLOCK ws
      counted_block ws = counted_block_is d (λ ws. statement-pieces ws) ws

  -- a statement is its length, then its kind and row
  pub statement-kind : (n : ℕ) (ws : List ℕ) → statement_of (read_b d) (n ∷ ws) ≡ check n (pieces d (STMT_KIND ∷ []) ws)
  unfolding statement_of eat
  statement-kind n ws = ap (check n) (sym (piece-one d STMT_KIND ws ∙ piece_kind d ws))

pub piece_block_none : (ws : List ℕ) → piece zero BLOCK ws ≡ misfit
piece_block_none ws = piece-part zero BLOCK ws (omega arith) ∙ block_part_is (read_b zero) ws ∙ block_none ws
