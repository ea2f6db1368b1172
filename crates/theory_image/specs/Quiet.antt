-- Which classes are where: after the kind of a type, in the head, the arguments, the result, the locals and the body of a function there is no kind of a type or an expression, and nothing of the named expressions. What a flat pass requires of the cells that it goes over.
use Rattle.std.specs.Prelude.{◌≡◌, refl, Bool, true, false, ◌&&◌, ◌||◌, not, List, [], ◌∷◌, ◌++◌, map, ℕ, zero, suc, ◌+◌, eqb, ltb, leb, length}
use Rattle.std.proofs.Math.Option.{some}
use Rattle.std.proofs.Common.{append-nil, arith, eqb-true, ltb-true, ne_eqb}
use Rattle.std.proofs.Math.ListN.{get_elem?}
use Rattle.std.proofs.lemmas.Bool.{not-true}
use Rattle.theory_lists.specs.Booleans.{and-true, and_split}
use Rattle.model.specs.Outcome.{Cell, Cells, class}
use Rattle.model.specs.Table.{Row, SPAN, UPTO, NAME, EXPR, NAMED-EXPR, PAD, MEMBERS, ARGUMENTS, LOCALS, NAMED, TYPE_KIND, EXPR_KIND, VALUE, ATOMIC, RETURNS, Shape, s_emit, s_block, s_if, s_switch, s_loop, s_break, s_continue, s_return, s_kill, s_call, s_effect, types, values, atomics, results, statements, type_row, function_head, entry_head, counted, limit, variants, brings, over, repeat, more}
use Rattle.model.specs.Tree.{Stmt, Form, Block, Cases, Case, Range, Function, Entry, flat_all, flat_list, flat_x, flat_s, flat_f, flat_b, flat_k, flat_c, flat_block}
use Rattle.model.specs.Carry.{Lays, lays_none, lays_next, Each, each_none, each_next, OkS, OkF, OkB, OkBs, OkK, OkC, ok_stmt, ok_emit, ok_block, ok_branch, ok_switch, ok_loop, ok_break, ok_continue, ok_return, ok_kill, ok-call, ok_effect, ok_deeper, ok_end, ok_then, ok_case, ok_nomore, ok_also, WellFunction, WellEntry}
use Rattle.model.specs.Module.{places}
use Rattle.theory_image.specs.Plain.{plain?, plain_more}
use Rattle.theory_image.specs.FunctionViews.{among, split_or, variant_brings}

-- ---- every element of two lists
pub each_append : {A : Type 0} {P : A → Type 0} {xs ys : List A} → Each P xs → Each P ys → Each P (xs ++ ys)
each_append each_none q = q
each_append (each_next p ps) q = each_next p (each_append ps q)

pub each_map : {A : Type 0} {P Q : A → Type 0} {xs : List A} → ((a : A) → P a → Q a) → Each P xs → Each Q xs
each_map f each_none = each_none
each_map f (each_next {a} p ps) = each_next (f a p) (each_map f ps)

-- ---- the classes
unfoldable pub quiet? : ℕ → Bool
quiet? s = not (among s (NAMED-EXPR ∷ NAMED ∷ TYPE_KIND ∷ EXPR_KIND ∷ []))

pub record Quiet (c : Cell) : Type 0 where
  pub quiet : quiet? (class c) ≡ true

none_of : (a b : Bool) → not (a || b) ≡ true → (a ≡ false) × (not b ≡ true)
none_of true b e = let z : ◌≡◌ {A = ℕ} 0 1 = cc in absurd (omega arith)
none_of false b e = (refl, e)

-- what a quiet cell is not
module _ {c : Cell} (q : Quiet c) where
  named-on : (eqb (class c) NAMED-EXPR ≡ false) × (not (among (class c) (NAMED ∷ TYPE_KIND ∷ EXPR_KIND ∷ [])) ≡ true)
  unfolding quiet?
  named-on = none_of (eqb (class c) NAMED-EXPR) (among (class c) (NAMED ∷ TYPE_KIND ∷ EXPR_KIND ∷ [])) q.quiet

  list_on : (eqb (class c) NAMED ≡ false) × (not (among (class c) (TYPE_KIND ∷ EXPR_KIND ∷ [])) ≡ true)
  list_on = none_of (eqb (class c) NAMED) (among (class c) (TYPE_KIND ∷ EXPR_KIND ∷ [])) named-on.1

  type_on : (eqb (class c) TYPE_KIND ≡ false) × (not (among (class c) (EXPR_KIND ∷ [])) ≡ true)
  type_on = none_of (eqb (class c) TYPE_KIND) (among (class c) (EXPR_KIND ∷ [])) list_on.1

  pub quiet_named_expr : eqb (class c) NAMED-EXPR ≡ false
  quiet_named_expr = named-on.0

  pub quiet-named : eqb (class c) NAMED ≡ false
  quiet-named = list_on.0

  pub quiet_type_kind : eqb (class c) TYPE_KIND ≡ false
  quiet_type_kind = type_on.0

  pub quiet_expr_kind : eqb (class c) EXPR_KIND ≡ false
  quiet_expr_kind = (none_of (eqb (class c) EXPR_KIND) false type_on.1).0

-- ---- symbols whose words are followed by quiet cells only
unfoldable inner? : ℕ → Bool
inner? s = (ltb s PAD && not (eqb s NAMED-EXPR)) || among s (MEMBERS ∷ VALUE ∷ ATOMIC ∷ RETURNS ∷ [])

unfoldable inners? : Row → Bool
inners? [] = true
inners? (s ∷ ss) = inner? s && inners? ss

rows? : List Row → Bool
rows? [] = true
rows? (r ∷ rs) = inners? r && rows? rs

one_of : {A : Type 0} (s : ℕ) → among s (MEMBERS ∷ VALUE ∷ ATOMIC ∷ RETURNS ∷ []) ≡ true → (s ≡ MEMBERS → A) → (s ≡ VALUE → A) → (s ≡ ATOMIC → A) → (s ≡ RETURNS → A) → A
one_of s h f g k l =
    split_or (eqb s MEMBERS) (among s (VALUE ∷ ATOMIC ∷ RETURNS ∷ [])) h (λ e. f (eqb-true s MEMBERS e)) λ h.
    split_or (eqb s VALUE) (among s (ATOMIC ∷ RETURNS ∷ [])) h (λ e. g (eqb-true s VALUE e)) λ h.
    split_or (eqb s ATOMIC) (among s (RETURNS ∷ [])) h (λ e. k (eqb-true s ATOMIC e)) λ h.
    split_or (eqb s RETURNS) false h (λ e. l (eqb-true s RETURNS e)) λ h.
    let z : ◌≡◌ {A = ℕ} 0 1 = cc in absurd (omega arith)

not_among : (a b c d : Bool) → a ≡ false → b ≡ false → c ≡ false → d ≡ false → not (a || (b || (c || (d || false)))) ≡ true
not_among a b c d e f g h = rw (e, f, g, h)

inner_quiet : (s w : ℕ) → inner? s ≡ true → Quiet (s, w)
unfolding inner? quiet?
inner_quiet s w h =
    split_or (ltb s PAD && not (eqb s NAMED-EXPR)) (among s (MEMBERS ∷ VALUE ∷ ATOMIC ∷ RETURNS ∷ [])) h
    (λ a.
    let b = and_split (ltb s PAD) (not (eqb s NAMED-EXPR)) a in
    let l = ltb-true s PAD b.0 in
    record { quiet = not_among (eqb s NAMED-EXPR) (eqb s NAMED) (eqb s TYPE_KIND) (eqb s EXPR_KIND) (not-true (eqb s NAMED-EXPR) b.1) (ne_eqb s NAMED λ e. omega arith) (ne_eqb s TYPE_KIND λ e. omega arith) (ne_eqb s EXPR_KIND λ e. omega arith) })
    λ a. one_of s a (λ e. record { quiet = rw e refl }) (λ e. record { quiet = rw e refl }) (λ e. record { quiet = rw e refl }) λ e. record { quiet = rw e refl }

inners_append : (xs ss : Row) → inners? xs ≡ true → inners? ss ≡ true → inners? (xs ++ ss) ≡ true
unfolding inners?
inners_append [] ss h k = k
inners_append (x ∷ xs) ss h k = let a = and_split (inner? x) (inners? xs) h in and-true a.0 (inners_append xs ss a.1 k)

inners_repeat : (n : ℕ) (r : Row) → inners? r ≡ true → inners? (repeat n r) ≡ true
unfolding repeat inners?
inners_repeat zero r h = refl
inners_repeat (suc n) r h = inners_append r (repeat n r) h (inners_repeat n r h)

rows_at : (l : List Row) (k : ℕ) {r : Row} → rows? l ≡ true → get_elem? l k ≡ some r → inners? r ≡ true
unfolding rows?
rows_at [] k h e = let z : ◌≡◌ {A = ℕ} 0 1 = cc in absurd (omega arith)
rows_at (x ∷ l) zero {r} h e = let q : x ≡ r = cc in rw q at (and_split (inners? x) (rows? l) h).0
rows_at (x ∷ l) (suc k) h e = rows_at l k (and_split (inners? x) (rows? l) h).1 e

-- the tests of the table
types_inner : rows? types ≡ true
unfolding rows? inners? inner? types
types_inner = refl

values_inner : rows? values ≡ true
unfolding rows? inners? inner? values
values_inner = refl

atomics_inner : rows? atomics ≡ true
unfolding rows? inners? inner? atomics
atomics_inner = refl

results_inner : rows? results ≡ true
unfolding rows? inners? inner? results
results_inner = refl

at-members : (w : ℕ) (xs : Row) → more MEMBERS w ≡ brings xs → inners? xs ≡ true
unfolding more counted inners? inner?
at-members w xs e = go (leb w (limit MEMBERS)) e
  where
    go : (b : Bool) → elim b [ true ↦ brings (repeat w (counted MEMBERS)) | false ↦ over ] ≡ brings xs → inners? xs ≡ true
    go true e = let n : repeat w (counted MEMBERS) ≡ xs = cc in rw n at (inners_repeat w (counted MEMBERS) refl)
    go false e = let z : ◌≡◌ {A = ℕ} 0 1 = cc in absurd (omega arith)

at_value : (w : ℕ) (xs : Row) → more VALUE w ≡ brings xs → inners? xs ≡ true
unfolding more variants
at_value w xs e = rows_at values w values_inner (variant_brings (get_elem? values w) e)

at-atomic : (w : ℕ) (xs : Row) → more ATOMIC w ≡ brings xs → inners? xs ≡ true
unfolding more variants
at-atomic w xs e = rows_at atomics w atomics_inner (variant_brings (get_elem? atomics w) e)

at-returns : (w : ℕ) (xs : Row) → more RETURNS w ≡ brings xs → inners? xs ≡ true
unfolding more variants
at-returns w xs e = rows_at results w results_inner (variant_brings (get_elem? results w) e)

inner_more : (s w : ℕ) (xs : Row) → inner? s ≡ true → more s w ≡ brings xs → inners? xs ≡ true
unfolding inners? inner?
inner_more s w xs h e =
    split_or (ltb s PAD && not (eqb s NAMED-EXPR)) (among s (MEMBERS ∷ VALUE ∷ ATOMIC ∷ RETURNS ∷ [])) h
    (λ a. let n : xs ≡ [] = cc (plain_more s w (and_split (ltb s PAD) (not (eqb s NAMED-EXPR)) a).0) in rw n refl)
    λ a. one_of s a (λ q. at-members w xs (rw q at e)) (λ q. at_value w xs (rw q at e)) (λ q. at-atomic w xs (rw q at e)) λ q. at-returns w xs (rw q at e)

-- cells laid out by a row of such symbols
lays_quiet : {ss : Row} {cs : Cells} → Lays ss cs → inners? ss ≡ true → Each Quiet cs
unfolding inners?
lays_quiet lays_none h = each_none
lays_quiet (lays_next {s} {w} {xs} {ss} e l) h =
    let a = and_split (inner? s) (inners? ss) h in
    each_next (inner_quiet s w a.0) (lays_quiet l (inners_append xs ss (inner_more s w xs a.0 e) a.1))

all_quiet : {ss : Row} {rs : List Cells} → Each (Lays ss) rs → inners? ss ≡ true → Each Quiet (flat_all rs)
unfolding flat_all
all_quiet each_none h = each_none
all_quiet (each_next l ls) h = each_append (lays_quiet l h) (all_quiet ls h)

-- ---- types: name, span, kind, and what is quiet
pub data Typed : Cells → Type 0 where
  typed : {a b d k : ℕ} {cs : Cells} → Each Quiet cs → Typed ((NAME, a) ∷ (SPAN, b) ∷ (UPTO, d) ∷ (TYPE_KIND, k) ∷ cs)

-- a plain word in front
pub data Head (s : ℕ) (ss : Row) : Cells → Type 0 where
  head : {w : ℕ} {cs : Cells} → Lays ss cs → Head s ss ((s, w) ∷ cs)

pub lays_plain : {s : ℕ} {ss : Row} {cs : Cells} → ltb s PAD ≡ true → Lays (s ∷ ss) cs → Head s ss cs
lays_plain p (lays_next {s} {w} {xs} e l) = let n : xs ≡ [] = cc (plain_more s w p) in head (rw n at l)

type_kind : {a b d : ℕ} {cs : Cells} → Lays (TYPE_KIND ∷ []) cs → Typed ((NAME, a) ∷ (SPAN, b) ∷ (UPTO, d) ∷ cs)
unfolding more variants
type_kind (lays_next {w} {xs} e l) = typed (lays_quiet (rw append-nil at l) (rows_at types w types_inner (variant_brings (get_elem? types w) e)))

type_upto : {a b : ℕ} {cs : Cells} → Head UPTO (TYPE_KIND ∷ []) cs → Typed ((NAME, a) ∷ (SPAN, b) ∷ cs)
type_upto (head l) = type_kind l

type_span : {a : ℕ} {cs : Cells} → Head SPAN (UPTO ∷ TYPE_KIND ∷ []) cs → Typed ((NAME, a) ∷ cs)
type_span (head l) = type_upto (lays_plain refl l)

type_name : {cs : Cells} → Head NAME (SPAN ∷ UPTO ∷ TYPE_KIND ∷ []) cs → Typed cs
type_name (head l) = type_span (lays_plain refl l)

pub type_shape : {r : Cells} → Lays type_row r → Typed r
unfolding type_row
type_shape l = type_name (lays_plain refl l)

-- ---- rows of plain words: a cell for each symbol
pub data Plainly : Row → Cells → Type 0 where
  plain-none : Plainly [] []
  plain-next : {s w : ℕ} {ss : Row} {cs : Cells} → Plainly ss cs → Plainly (s ∷ ss) ((s, w) ∷ cs)

pub plainly : {ss : Row} {cs : Cells} → Lays ss cs → plain? ss ≡ true → Plainly ss cs
unfolding plain?
plainly lays_none h = plain-none
plainly (lays_next {s} {w} {xs} {ss} e l) h =
    let a = and_split (ltb s PAD) (plain? ss) h in
    let n : xs ≡ [] = cc (plain_more s w a.0) in
    plain-next (rw n at (plainly l (rw n a.1)))

-- a named expression: the expression, and its name
pub named_shape : {r : Cells} → Lays (counted NAMED) r → Plainly (NAMED-EXPR ∷ NAME ∷ []) r
unfolding counted plain?
named_shape l = plainly l refl

-- ---- statements
operands-quiet : (xs : List ℕ) → Each Quiet (map (λ x. (EXPR, x)) xs)
unfolding quiet?
operands-quiet [] = each_none
operands-quiet (x ∷ xs) = each_next (record { quiet = refl }) (operands-quiet xs)

shape? : Shape → Bool
shape? s_emit = true
shape? s_block = true
shape? s_if = true
shape? s_switch = true
shape? s_loop = true
shape? s_break = true
shape? s_continue = true
shape? s_return = true
shape? s_kill = true
shape? s_call = true
shape? (s_effect ss) = inners? ss

shapes? : List Shape → Bool
shapes? [] = true
shapes? (s ∷ ss) = shape? s && shapes? ss

shape_at : (l : List Shape) (k : ℕ) {s : Shape} → shapes? l ≡ true → get_elem? l k ≡ some s → shape? s ≡ true
unfolding shapes?
shape_at [] k h e = let z : ◌≡◌ {A = ℕ} 0 1 = cc in absurd (omega arith)
shape_at (x ∷ l) zero {s} h e = let q : x ≡ s = cc in rw q at (and_split (shape? x) (shapes? l) h).0
shape_at (x ∷ l) (suc k) h e = shape_at l k (and_split (shape? x) (shapes? l) h).1 e

statements_inner : shapes? statements ≡ true
unfolding shapes? shape? inners? inner? statements
statements_inner = refl

effect_row : (k : ℕ) {ss : Row} → get_elem? statements k ≡ some (s_effect ss) → inners? ss ≡ true
unfolding shape?
effect_row k e = shape_at statements k statements_inner e

value_row : inners? (VALUE ∷ []) ≡ true
unfolding inners? inner?
value_row = refl

mutual
  unfolding quiet? flat_s flat_f flat_b flat_k flat_c flat_x

  stmt_quiet : {d : ℕ} {s : Stmt Range} → OkS d s → Each Quiet (flat_s s)
  stmt_quiet (ok_stmt f) = each_next (record { quiet = refl }) (each_next (record { quiet = refl }) (each_next (record { quiet = refl }) (each_next (record { quiet = refl }) (form-quiet f))))

  form-quiet : {d : ℕ} {f : Form Range} → OkF d f → Each Quiet (flat_f f)
  form-quiet ok_emit = each_next (record { quiet = refl }) (each_next (record { quiet = refl }) each_none)
  form-quiet (ok_block b) = each_next (record { quiet = refl }) (block_quiet b)
  form-quiet (ok_branch a b) = each_next (record { quiet = refl }) (each_next (record { quiet = refl }) (each_append (block_quiet a) (each_next (record { quiet = refl }) (block_quiet b))))
  form-quiet (ok_switch ks) = each_next (record { quiet = refl }) (each_next (record { quiet = refl }) (cases-quiet ks))
  form-quiet (ok_loop a b) =
      each_append (each_append (each_next (record { quiet = refl }) (block_quiet a)) (each_next (record { quiet = refl }) (block_quiet b))) (each_next (record { quiet = refl }) each_none)
  form-quiet ok_break = each_none
  form-quiet ok_continue = each_none
  form-quiet ok_return = each_next (record { quiet = refl }) each_none
  form-quiet ok_kill = each_none
  form-quiet (ok-call {xs}) = each_next (record { quiet = refl }) (each_append (each_next (record { quiet = refl }) (operands-quiet xs)) (each_next (record { quiet = refl }) each_none))
  form-quiet (ok_effect {k} e l) = lays_quiet l (effect_row k e)

  block_quiet : {d : ℕ} {b : Block Range} → OkB d b → Each Quiet (flat_b b)
  block_quiet (ok_deeper b) = then_quiet b

  then_quiet : {d : ℕ} {b : Block Range} → OkBs d b → Each Quiet (flat_b b)
  then_quiet ok_end = each_none
  then_quiet (ok_then s b) = each_append (stmt_quiet s) (then_quiet b)

  case_quiet : {d : ℕ} {k : Case Range} → OkK d k → Each Quiet (flat_k k)
  case_quiet (ok_case v b) = each_append (each_append (lays_quiet v value_row) (each_next (record { quiet = refl }) (block_quiet b))) (each_next (record { quiet = refl }) each_none)

  cases-quiet : {d : ℕ} {ks : Cases Range} → OkC d ks → Each Quiet (flat_c ks)
  cases-quiet ok_nomore = each_none
  cases-quiet (ok_also k ks) = each_append (case_quiet k) (cases-quiet ks)

-- ---- functions: what comes before the expressions, and the body
-- the head, the arguments, the result and the locals
abbrev pub before : Function → Cells
before f = f.head ++ flat_list ARGUMENTS f.arguments ++ f.result ++ flat_list LOCALS f.locals

pub before-quiet : {f : Function} → WellFunction f → Each Quiet (before f)
unfolding quiet? inners? inner? flat_list function_head counted
before-quiet w =
    each_append
    (each_append
    (each_append (lays_quiet w.head_ok refl) (each_next (record { quiet = refl }) (all_quiet w.arguments_ok.each refl)))
    (lays_quiet w.result_ok_lem refl))
    (each_next (record { quiet = refl }) (all_quiet w.locals_ok.each refl))

pub body-quiet : {f : Function} → WellFunction f → Each Quiet (flat_block f.body)
unfolding quiet? flat_block
body-quiet w = each_next (record { quiet = refl }) (block_quiet w.body_ok)

pub entry-quiet : {e : Entry} → WellEntry e → Each Quiet e.head
unfolding inners? inner? entry_head
entry-quiet w = lays_quiet w.head_ok refl

-- the offsets of a section
pub places-quiet : (rs : List Cells) (at : ℕ) → Each Quiet (places at rs)
unfolding quiet? places
places-quiet [] at = each_none
places-quiet (r ∷ rs) at = each_next (record { quiet = refl }) (places-quiet rs (at + length r))
