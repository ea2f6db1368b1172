-- The cells of the class CALLEE in a function's cells are its callees. No row of the table has that class and no word is followed by it, so it is only where a Call statement puts it.
use Rattle.std.specs.Prelude.{◌≡◌, refl, Bool, true, false, cond, not, ◌&&◌, List, [], ◌∷◌, ◌++◌, map, ℕ, zero, suc, ◌+◌, ◌-◌, ◌/◌, ◌%◌, eqb, ltb, leb, get_or, replicate}
use Rattle.std.proofs.Common.{ap, ap₂, ◌∙◌, append-nil, arith, ne_eqb}
use Rattle.std.proofs.Math.Option.{Option, some}
use Rattle.std.proofs.Math.ListN.{get_elem?}
use Rattle.theory_lists.specs.Booleans.{and-true, and_split}
use Rattle.model.specs.Outcome.{Cells, class, word}
use Rattle.model.specs.Table.{Row, WORD, NAME, TYPE, CALLEE, EXPR, NAMED-EXPR, LOCAL-INIT, OPT_EXPR, OPT_RESULT, OPERANDS, ARGUMENTS, LOCALS, EXPRESSIONS, NAMED, TYPE_KIND, MEMBERS, PAD, TEXT, BLOCK, EXPR_KIND, VALUE, binding, spanned, types, expressions, levels, queries, values, atomics, results, Shape, s_emit, s_block, s_if, s_switch, s_loop, s_break, s_continue, s_return, s_kill, s_call, s_effect, statements, function_head, counted, limit, variants, More, brings, over, nothing, repeat, text, variant, more}
use Rattle.model.specs.Tree.{Stmt, Form, Block, Cases, Case, Range, Function, word_of, size_b, flat_all, flat_list, flat_x, flat_s, flat_f, flat_b, flat_k, flat_c, flat_block, flat}
use Rattle.model.specs.Carry.{Lays, lays_none, lays_next, Each, each_none, each_next, OkS, OkF, OkB, OkBs, OkK, OkC, ok_stmt, ok_emit, ok_block, ok_branch, ok_switch, ok_loop, ok_break, ok_continue, ok_return, ok_kill, ok-call, ok_effect, ok_deeper, ok_end, ok_then, ok_case, ok_nomore, ok_also, WellFunction}
use Rattle.model.specs.Callees.{callees_s, callees_f, callees_b, callees_k, callees_c, callees}

-- ---- the callees among cells
-- the words of the class CALLEE, of classes and their words
unfoldable pub picks : List ℕ → List ℕ → List ℕ
picks [] ws = []
picks (t ∷ ts) [] = []
picks (t ∷ ts) (w ∷ ws) = cond (eqb t CALLEE) (w ∷ picks ts ws) (picks ts ws)

-- those of cells
abbrev pub callees_in : Cells → List ℕ
callees_in cs = picks (map class cs) (map word cs)

in_append : (xs ys : Cells) → callees_in (xs ++ ys) ≡ callees_in xs ++ callees_in ys
unfolding picks
in_append [] ys = refl
in_append (x ∷ xs) ys = go (eqb (class x) CALLEE) (in_append xs ys)
  where
    go : (b : Bool) → callees_in (xs ++ ys) ≡ callees_in xs ++ callees_in ys
        → cond b (word x ∷ callees_in (xs ++ ys)) (callees_in (xs ++ ys)) ≡ cond b (word x ∷ callees_in xs) (callees_in xs) ++ callees_in ys
    go true h = ap (word x ∷◌) h
    go false h = h

in_left : (xs ys : Cells) → callees_in ys ≡ [] → callees_in (xs ++ ys) ≡ callees_in xs
in_left xs ys h = in_append xs ys ∙ ap (callees_in xs ++◌) h ∙ append-nil (callees_in xs)

in_right : (xs ys : Cells) → callees_in xs ≡ [] → callees_in (xs ++ ys) ≡ callees_in ys
in_right xs ys h = in_append xs ys ∙ ap (◌++ callees_in ys) h

-- ---- rows without the class
quiet? : Row → Bool
quiet? [] = true
quiet? (s ∷ ss) = not (eqb s CALLEE) && quiet? ss

rows? : List Row → Bool
rows? [] = true
rows? (r ∷ rs) = quiet? r && rows? rs

tables? : List (List Row) → Bool
tables? [] = true
tables? (t ∷ ts) = rows? t && tables? ts

quiet-append : (xs ys : Row) → quiet? xs ≡ true → quiet? ys ≡ true → quiet? (xs ++ ys) ≡ true
unfolding quiet?
quiet-append [] ys h k = k
quiet-append (x ∷ xs) ys h k = let a = and_split (not (eqb x CALLEE)) (quiet? xs) h in and-true a.0 (quiet-append xs ys a.1 k)

quiet-repeat : (n : ℕ) (r : Row) → quiet? r ≡ true → quiet? (repeat n r) ≡ true
unfolding repeat quiet?
quiet-repeat zero r h = refl
quiet-repeat (suc n) r h = quiet-append r (repeat n r) h (quiet-repeat n r h)

quiet_words : (n : ℕ) → quiet? (replicate n WORD) ≡ true
unfolding quiet?
quiet_words zero = refl
quiet_words (suc n) = quiet_words n

quiet-text : (b : ℕ) → quiet? (text b) ≡ true
unfolding text quiet?
quiet-text b = quiet-append (replicate (b / 4) WORD) (elim (eqb (b % 4) 0) [ true ↦ [] | false ↦ (PAD + b % 4 - 1) ∷ [] ]) (quiet_words (b / 4)) (go (eqb (b % 4) 0))
  where
    go : (e : Bool) → quiet? (elim e [ true ↦ [] | false ↦ (PAD + b % 4 - 1) ∷ [] ]) ≡ true
    go true = refl
    go false = rw (ne_eqb (PAD + b % 4 - 1) CALLEE λ e. omega arith)

-- a row, a table and a variant that are looked up
row_at : (l : List Row) (k : ℕ) → rows? l ≡ true → quiet? (get_or l k []) ≡ true
unfolding rows? quiet?
row_at [] k h = refl
row_at (r ∷ l) zero h = (and_split (quiet? r) (rows? l) h).0
row_at (r ∷ l) (suc k) h = row_at l k (and_split (quiet? r) (rows? l) h).1

table_at : (l : List (List Row)) (k : ℕ) → tables? l ≡ true → rows? (get_or l k []) ≡ true
unfolding tables? rows?
table_at [] k h = refl
table_at (t ∷ l) zero h = (and_split (rows? t) (tables? l) h).0
table_at (t ∷ l) (suc k) h = table_at l k (and_split (rows? t) (tables? l) h).1

-- what follows a word
Quietly : More → Type 0
Quietly x = (xs : Row) → x ≡ brings xs → quiet? xs ≡ true

quiet_brings : (r : Row) → quiet? r ≡ true → Quietly (brings r)
unfolding Quietly
quiet_brings r h xs e = let q : r ≡ xs = cc in rw q at h

quiet_over : Quietly over
unfolding Quietly
quiet_over xs e = let z : ◌≡◌ {A = ℕ} 0 1 = cc in absurd (omega arith)

quiet-nothing : Quietly nothing
unfolding Quietly
quiet-nothing xs e = let z : ◌≡◌ {A = ℕ} 0 1 = cc in absurd (omega arith)

quiet_if : (b : Bool) (x y : More) → Quietly x → Quietly y → Quietly (elim b [ true ↦ x | false ↦ y ])
quiet_if true x y h k = h
quiet_if false x y h k = k

quiet-variant : (l : List Row) (k : ℕ) → rows? l ≡ true → Quietly (variant (get_elem? l k))
unfolding variant rows?
quiet-variant [] k h = quiet-nothing
quiet-variant (r ∷ l) zero h = quiet_brings r (and_split (quiet? r) (rows? l) h).0
quiet-variant (r ∷ l) (suc k) h = quiet-variant l k (and_split (quiet? r) (rows? l) h).1

-- the tests of the table
quiet-counted : (s : ℕ) → quiet? (counted s) ≡ true
unfolding counted rows? quiet?
quiet-counted s = row_at ((NAME ∷ TYPE ∷ WORD ∷ binding []) ∷ (NAME ∷ TYPE ∷ binding []) ∷ (spanned (NAME ∷ TYPE ∷ LOCAL-INIT ∷ [])) ∷ (EXPR_KIND ∷ []) ∷ (NAMED-EXPR ∷ NAME ∷ []) ∷ []) (s - MEMBERS) refl

quiet-variants : (s : ℕ) → rows? (variants s) ≡ true
unfolding variants tables? rows? quiet? types expressions levels queries values atomics results
quiet-variants s = table_at (types ∷ expressions ∷ levels ∷ queries ∷ values ∷ atomics ∷ results ∷ []) (s - TYPE_KIND) refl

quiet-more : (s w : ℕ) → Quietly (more s w)
unfolding more quiet?
quiet-more s w =
    quiet_if (ltb s PAD) _ _ (quiet_brings [] refl)
    (quiet_if (ltb s TEXT) _ _ (quiet_if (ltb w _) _ _ (quiet_brings [] refl) quiet_over)
    (quiet_if (eqb s TEXT) _ _ (quiet_brings (text w) (quiet-text w))
    (quiet_if (eqb s OPERANDS) _ _ (quiet_brings (repeat w (EXPR ∷ [])) (quiet-repeat w (EXPR ∷ []) refl))
    (quiet_if (ltb s TYPE_KIND) _ _ (quiet_if (leb w (limit s)) _ _ (quiet_brings (repeat w (counted s)) (quiet-repeat w (counted s) (quiet-counted s))) quiet_over)
    (quiet-variant (variants s) w (quiet-variants s))))))

-- LAW, of cells laid out by a row without the class
lays_quiet : {ss : Row} {cs : Cells} → Lays ss cs → quiet? ss ≡ true → callees_in cs ≡ []
unfolding quiet? picks Quietly
lays_quiet lays_none h = refl
lays_quiet (lays_next {s} {w} {xs} {ss} {cs} e l) h =
    let a = and_split (not (eqb s CALLEE)) (quiet? ss) h in
    go (eqb s CALLEE) a.0 (lays_quiet l (quiet-append xs ss (quiet-more s w xs e) a.1))
  where
    go : (b : Bool) → not b ≡ true → callees_in cs ≡ [] → cond b (w ∷ callees_in cs) (callees_in cs) ≡ []
    go true x y = let z : ◌≡◌ {A = ℕ} 0 1 = cc in absurd (omega arith)
    go false x y = y

all_quiet : {ss : Row} {rs : List Cells} → Each (Lays ss) rs → quiet? ss ≡ true → callees_in (flat_all rs) ≡ []
unfolding flat_all picks
all_quiet each_none h = refl
all_quiet (each_next {a = r} {l = rs} p ps) h = in_right r (flat_all rs) (lays_quiet p h) ∙ all_quiet ps h

-- ---- statements
shapes? : List Shape → Bool
shapes? [] = true
shapes? (s_effect r ∷ l) = quiet? r && shapes? l
shapes? (s_emit ∷ l) = shapes? l
shapes? (s_block ∷ l) = shapes? l
shapes? (s_if ∷ l) = shapes? l
shapes? (s_switch ∷ l) = shapes? l
shapes? (s_loop ∷ l) = shapes? l
shapes? (s_break ∷ l) = shapes? l
shapes? (s_continue ∷ l) = shapes? l
shapes? (s_return ∷ l) = shapes? l
shapes? (s_kill ∷ l) = shapes? l
shapes? (s_call ∷ l) = shapes? l

effect_at : (l : List Shape) (k : ℕ) {ss : Row} → shapes? l ≡ true → get_elem? l k ≡ some (s_effect ss) → quiet? ss ≡ true
unfolding shapes?
effect_at [] k h e = let z : ◌≡◌ {A = ℕ} 0 1 = cc in absurd (omega arith)
effect_at (s_effect r ∷ l) zero {ss} h e = let q : r ≡ ss = cc in rw q at (and_split (quiet? r) (shapes? l) h).0
effect_at (s_effect r ∷ l) (suc k) h e = effect_at l k (and_split (quiet? r) (shapes? l) h).1 e
effect_at (s_emit ∷ l) zero h e = let z : ◌≡◌ {A = ℕ} 0 1 = cc in absurd (omega arith)
effect_at (s_emit ∷ l) (suc k) h e = effect_at l k h e
effect_at (s_block ∷ l) zero h e = let z : ◌≡◌ {A = ℕ} 0 1 = cc in absurd (omega arith)
effect_at (s_block ∷ l) (suc k) h e = effect_at l k h e
effect_at (s_if ∷ l) zero h e = let z : ◌≡◌ {A = ℕ} 0 1 = cc in absurd (omega arith)
effect_at (s_if ∷ l) (suc k) h e = effect_at l k h e
effect_at (s_switch ∷ l) zero h e = let z : ◌≡◌ {A = ℕ} 0 1 = cc in absurd (omega arith)
effect_at (s_switch ∷ l) (suc k) h e = effect_at l k h e
effect_at (s_loop ∷ l) zero h e = let z : ◌≡◌ {A = ℕ} 0 1 = cc in absurd (omega arith)
effect_at (s_loop ∷ l) (suc k) h e = effect_at l k h e
effect_at (s_break ∷ l) zero h e = let z : ◌≡◌ {A = ℕ} 0 1 = cc in absurd (omega arith)
effect_at (s_break ∷ l) (suc k) h e = effect_at l k h e
effect_at (s_continue ∷ l) zero h e = let z : ◌≡◌ {A = ℕ} 0 1 = cc in absurd (omega arith)
effect_at (s_continue ∷ l) (suc k) h e = effect_at l k h e
effect_at (s_return ∷ l) zero h e = let z : ◌≡◌ {A = ℕ} 0 1 = cc in absurd (omega arith)
effect_at (s_return ∷ l) (suc k) h e = effect_at l k h e
effect_at (s_kill ∷ l) zero h e = let z : ◌≡◌ {A = ℕ} 0 1 = cc in absurd (omega arith)
effect_at (s_kill ∷ l) (suc k) h e = effect_at l k h e
effect_at (s_call ∷ l) zero h e = let z : ◌≡◌ {A = ℕ} 0 1 = cc in absurd (omega arith)
effect_at (s_call ∷ l) (suc k) h e = effect_at l k h e

quiet_effect : (k : ℕ) {ss : Row} → get_elem? statements k ≡ some (s_effect ss) → quiet? ss ≡ true
unfolding shapes? quiet? statements
quiet_effect k e = effect_at statements k refl e

-- operands
operands-quiet : (xs : List ℕ) → callees_in (map (λ x. (EXPR, x)) xs) ≡ []
unfolding picks
operands-quiet [] = refl
operands-quiet (x ∷ xs) = operands-quiet xs

call-quiet : (xs : List ℕ) (r : Option ℕ) → callees_in (flat_x xs ++ (OPT_RESULT, word_of r) ∷ []) ≡ []
unfolding picks flat_x
call-quiet xs r = in_left (map (λ x. (EXPR, x)) xs) ((OPT_RESULT, word_of r) ∷ []) refl ∙ operands-quiet xs

value_quiet : quiet? (VALUE ∷ []) ≡ true
unfolding quiet?
value_quiet = refl

-- LAW, of a body: by its form
mutual
  unfolding picks flat_s callees_s

  cells_S : {d : ℕ} {s : Stmt Range} → OkS d s → callees_in (flat_s s) ≡ callees_s s
  cells_S (ok_stmt f) = cells_F f

  cells_F : {d : ℕ} {f : Form Range} → OkF d f → callees_in (flat_f f) ≡ callees_f f
  cells_F ok_emit = refl
  cells_F (ok_block b) = cells_B b
  cells_F (ok_branch {a} {b} x y) = in_append (flat_b a) ((BLOCK, size_b b) ∷ flat_b b) ∙ ap₂ ◌++◌ (cells_B x) (cells_B y)
  cells_F (ok_switch ks) = cells_C ks
  cells_F (ok_loop {a} {b} {o} x y) =
      in_left (((BLOCK, size_b a) ∷ flat_b a) ++ ((BLOCK, size_b b) ∷ flat_b b)) ((OPT_EXPR, word_of o) ∷ []) refl
      ∙ in_append (flat_b a) ((BLOCK, size_b b) ∷ flat_b b)
      ∙ ap₂ ◌++◌ (cells_B x) (cells_B y)
  cells_F ok_break = refl
  cells_F ok_continue = refl
  cells_F ok_return = refl
  cells_F ok_kill = refl
  cells_F (ok-call {f} {xs} {r}) = ap (f ∷◌) (call-quiet xs r)
  cells_F (ok_effect {k} e l) = lays_quiet l (quiet_effect k e)

  cells_B : {d : ℕ} {b : Block Range} → OkB d b → callees_in (flat_b b) ≡ callees_b b
  cells_B (ok_deeper b) = cells_Bs b

  cells_Bs : {d : ℕ} {b : Block Range} → OkBs d b → callees_in (flat_b b) ≡ callees_b b
  cells_Bs ok_end = refl
  cells_Bs (ok_then {s} {b} x y) = in_append (flat_s s) (flat_b b) ∙ ap₂ ◌++◌ (cells_S x) (cells_Bs y)

  cells_K : {d : ℕ} {k : Case Range} → OkK d k → callees_in (flat_k k) ≡ callees_k k
  cells_K (ok_case {f} {v} {b} l x) =
      in_left (v ++ ((BLOCK, size_b b) ∷ flat_b b)) ((2, f) ∷ []) refl
      ∙ in_right v ((BLOCK, size_b b) ∷ flat_b b) (lays_quiet l value_quiet)
      ∙ cells_B x

  cells_C : {d : ℕ} {ks : Cases Range} → OkC d ks → callees_in (flat_c ks) ≡ callees_c ks
  cells_C ok_nomore = refl
  cells_C (ok_also {k} {ks} x y) = in_append (flat_k k) (flat_c ks) ∙ ap₂ ◌++◌ (cells_K x) (cells_C y)

-- six runs without, and one after them
behind : (a b c d e f g : Cells) → callees_in a ≡ [] → callees_in b ≡ [] → callees_in c ≡ [] → callees_in d ≡ [] → callees_in e ≡ [] → callees_in f ≡ [] → callees_in (a ++ b ++ c ++ d ++ e ++ f ++ g) ≡ callees_in g
behind a b c d e f g ha hb hc hd he hf =
    in_right (a ++ b ++ c ++ d ++ e ++ f) g
    (in_left (a ++ b ++ c ++ d ++ e) f hf
    ∙ in_left (a ++ b ++ c ++ d) e he
    ∙ in_left (a ++ b ++ c) d hd
    ∙ in_left (a ++ b) c hc
    ∙ in_left a b hb
    ∙ ha)

list_quiet : (s : ℕ) {rs : List Cells} → eqb s CALLEE ≡ false → Each (Lays (counted s)) rs → callees_in (flat_list s rs) ≡ []
unfolding flat_list picks
list_quiet s h each = rw h (all_quiet each (quiet-counted s))

block_cells : (b : Block Range) → callees_in (flat_block b) ≡ callees_in (flat_b b)
unfolding flat_block picks
block_cells b = refl

-- LAW: the cells of the class CALLEE of a well-formed function are its callees
pub cells_function : {f : Function} → WellFunction f → callees_in (flat f) ≡ callees f
unfolding flat function_head quiet?
cells_function {f} w =
    behind f.head (flat_list ARGUMENTS f.arguments) f.result (flat_list LOCALS f.locals) (flat_list EXPRESSIONS f.exprs) (flat_list NAMED f.named) (flat_block f.body)
    (lays_quiet w.head_ok refl)
    (list_quiet ARGUMENTS refl w.arguments_ok.each)
    (lays_quiet w.result_ok_lem refl)
    (list_quiet LOCALS refl w.locals_ok.each)
    (list_quiet EXPRESSIONS refl w.exprs_ok.each)
    (list_quiet NAMED refl w.named_ok.each)
    ∙ block_cells f.body
    ∙ cells_B w.body_ok
