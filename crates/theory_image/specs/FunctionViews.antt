-- Views of a function's words and tags: where its lists are, what their counts and records are, and which classes their cells have.
-- Words and tags hold cells, word by word; a part of the cells from p to q is a run of cells. A function's cells are seven such parts one after the other, and the lists whose rows are plain have records at even distances, so the places that are computed from the counts are where the parts are. It holds for any cells that contain a function: for the functions of a module, and seven words after the start of its entry points.
use Rattle.std.proofs.Math.Path.{◌≡◌, refl, ap₂}
use Rattle.std.proofs.Common.{sym, ap, ◌∙◌, length-append, take-take, take_at, get_or-take, length-take-le}
use Rattle.std.specs.Prelude.{Bool, ◌&&◌, ◌||◌, ltb, leb, take, drop}
use Rattle.std.proofs.Math.Bool.{true, false}
use Rattle.std.proofs.Math.Option.{Option, none, some}
use mathlib.Core.List.{List, [], ◌∷◌, ◌++◌, map, append_assoc, append-nil}
use Prim.Native.Nat.{ℕ, zero, suc, ◌+◌, ◌*◌, ◌≤◌, ◌<◌}
use Rattle.std.proofs.Math.Nat.{suc-mul}
use native.Mathlib.Omega.{arith}
use Rattle.std.proofs.Math.Dec.{eqb}
use Rattle.std.proofs.Math.ListN.{length, get_or, get_elem?, get_or-map}
use Rattle.std.proofs.lemmas.List.{length-map}
use Rattle.std.proofs.Math.Seq.{slice, take-length, drop-append_seam, length-slice}
use borrow.Author.Tests.{eqb-true, eqb-false, ne_eqb}
use Rattle.theory_lists.specs.Lists.{looked_length}
use Rattle.theory_lists.specs.Booleans.{and-true, and_split}
use Rattle.model.specs.Outcome.{Cell, Cells, class, word}
use Rattle.model.specs.Table.{Row, PAD, SPAN, UPTO, NAME, TYPE, CONSTANT, OVERRIDE, GLOBAL, FUNCTION, EXPR, OPT_EXPR, ARGUMENT, LOCAL, NAMED-EXPR, LOCAL-INIT, OPERANDS, LEVEL, QUERY, ARGUMENTS, LOCALS, EXPRESSIONS, NAMED, EXPR_KIND, VALUE, ATOMIC, RETURNS, BLOCK, CASES, LENGTH, STMT_KIND, CALLEE, FROM, TO, RESULT, OPT_RESULT, PLACE, binding, function_head, entry_head, counted, expressions, levels, queries, results, repeat, variants, variant, brings, more}
use Rattle.model.specs.Tree.{Function, Entry, flat, flat_entry, flat_all, flat_list, flat_b, flat_block, size_b}
use Rattle.model.specs.Module.{Module, count_at, offset_at, end_at, HEADER, places, flat_table, flat_module, write}
use Rattle.model.specs.View.{tables, record_at, record_end}
use Rattle.model.specs.Taped.{Taped}
use Rattle.model.specs.Operands.{kind, kind_at}
use Rattle.model.specs.Carry.{Lays, lays_none, lays_next, Each, each_none, each_next, WellFunction, WellEntry}
use Rattle.model.specs.FunctionView.{entry_head_words, arguments_at, argument_at, returns_at, locals_at, local_at, expressions_at}
use Rattle.theory_image.specs.Plain.{plain?, plain_more, plain-length, plain_start, plain-classes}
use Rattle.theory_image.specs.Views.{length_cells, length-write, view_within, view_table, view_records, view_length, SeesRecord, sees_functions, sees_entries, sees_function, sees_entry}
use Rattle.theory_image.specs.Sections.{slice-slice, get_d_slice, slice-map, start_of, start_zero, start_end, length-places}
use Rattle.theory_image.specs.Members.{each_at, looked_each}

-- ---- words and tags that hold cells, from the first on
pub record Held (ws ts : List ℕ) (cells : Cells) : Type 0 where
  pub words : take (length cells) ws ≡ map word cells
  pub tags : take (length cells) ts ≡ map class cells

pub held_all : (cells : Cells) → Held (map word cells) (map class cells) cells
held_all cells =
    let a : length cells ≡ length (map word cells) = sym (length-map cells word) in
    let b : length cells ≡ length (map class cells) = sym (length-map cells class) in
    record {
      words = ap (λ n. take n (map word cells)) a ∙ take-length (map word cells);
      tags = ap (λ n. take n (map class cells)) b ∙ take-length (map class cells);
    }

-- ---- a part of the cells
pub record Part (cells : Cells) (p q : ℕ) (cs : Cells) : Type 0 where
  pub rising : p ≤ q
  pub within : q ≤ length cells
  pub cells_are : slice p q cells ≡ cs

-- it is as long as the cells between
pub part_end : {cells cs : Cells} {p q : ℕ} → Part cells p q cs → q ≡ p + length cs
part_end {cells} {cs} {p} {q} v = omega (arith, ap length v.cells_are, length-slice p q cells v.within)

-- a part of a part
pub part_inner : {cells cs : Cells} {p q : ℕ} → Part cells p q cs → (a b : ℕ) (ds : Cells) → a ≤ b → b ≤ length cs → slice a b cs ≡ ds → Part cells (p + a) (p + b) ds
part_inner {cells} {p} {q} v a b ds h k e =
    record {
      rising = omega arith;
      within = omega (arith, part_end v);
      cells_are = slice-slice cells p q a b v.rising v.within (omega (arith, part_end v)) ∙ ap (slice a b) v.cells_are ∙ e;
    }

-- a word, a tag and a cell of a part
pub part-cell : {cells cs : Cells} {p q : ℕ} → Part cells p q cs → (i : ℕ) (d : Cell) → i < length cs → get_or cells (p + i) d ≡ get_or cs i d
part-cell {cells} {p} {q} v i d h = sym (get_d_slice cells p q i d (omega (arith, part_end v))) ∙ ap (λ l. get_or l i d) v.cells_are

-- two runs one after the other
pub part_left : {cells : Cells} {p q : ℕ} (xs ys : Cells) → Part cells p q (xs ++ ys) → Part cells p (p + length xs) xs
part_left {cells} {p} xs ys v =
    let h : p + 0 ≡ p = omega arith in
    let k : length xs ≤ length (xs ++ ys) = omega (arith, length-append xs ys) in
    let w = part_inner v 0 (length xs) xs (omega arith) k (take_at xs ys (length xs) refl) in
    rw h at w

pub part_right : {cells : Cells} {p q : ℕ} (xs ys : Cells) → Part cells p q (xs ++ ys) → Part cells (p + length xs) q ys
part_right {cells} {p} {q} xs ys v =
    let h : p + length (xs ++ ys) ≡ q = sym (part_end v) in
    let k : length xs ≤ length (xs ++ ys) = omega (arith, length-append xs ys) in
    let w = part_inner v (length xs) (length (xs ++ ys)) ys k (omega arith) (ap (drop (length xs)) (take-length (xs ++ ys)) ∙ drop-append_seam xs ys) in
    rw h at w

-- the words and the tags of a part
module _ {ws ts : List ℕ} {cells cs : Cells} {p q : ℕ} (o : Held ws ts cells) (v : Part cells p q cs) where
  pub part_words : slice p q ws ≡ map word cs
  part_words =
      ap (drop p) (sym (take-take q (length cells) ws v.within) ∙ ap (take q) o.words) ∙ slice-map word p q cells ∙ ap (map word) v.cells_are

  pub part_tags : slice p q ts ≡ map class cs
  part_tags =
      ap (drop p) (sym (take-take q (length cells) ts v.within) ∙ ap (take q) o.tags) ∙ slice-map class p q cells ∙ ap (map class) v.cells_are

  pub part-word : (i : ℕ) → i < length cs → get_or ws (p + i) 0 ≡ word (get_or cs i (0, 0))
  part-word i h = sym (get_d_slice ws p q i 0 (omega (arith, part_end v))) ∙ ap (λ l. get_or l i 0) part_words ∙ get_or-map word cs i (0, 0)

  pub part_tag : (i : ℕ) → i < length cs → get_or ts (p + i) 0 ≡ class (get_or cs i (0, 0))
  part_tag i h = sym (get_d_slice ts p q i 0 (omega (arith, part_end v))) ∙ ap (λ l. get_or l i 0) part_tags ∙ get_or-map class cs i (0, 0)

-- ---- runs one after the other, and a list after its count
pub all_record : {cells : Cells} {p q : ℕ} (rs : List Cells) → Part cells p q (flat_all rs) → (i : ℕ) → i < length rs → Part cells (start_of p rs i) (start_of p rs (suc i)) (get_or rs i [])
unfolding flat_all start_of
all_record [] v i h = absurd (omega arith)
all_record {p} (r ∷ rs) v zero h = rw (start_zero (p + length r) rs) (part_left r (flat_all rs) v)
all_record {p} (r ∷ rs) v (suc i) h = all_record {p = p + length r} rs (part_right r (flat_all rs) v) i (omega arith)

module _ {cells : Cells} {p q : ℕ} (s : ℕ) (rs : List Cells) (v : Part cells p q (flat_list s rs)) where
  -- the records
  pub list_all : Part cells (p + 1) q (flat_all rs)
  unfolding flat_list
  list_all = part_right ((s, length rs) ∷ []) (flat_all rs) v

  pub list_count : {ws ts : List ℕ} → Held ws ts cells → get_or ws p 0 ≡ length rs
  unfolding flat_list
  list_count {ws} o = let h : p + 0 ≡ p = omega arith in rw h at (part-word o v 0 (omega arith))

  pub list_class : {ws ts : List ℕ} → Held ws ts cells → get_or ts p 0 ≡ s
  unfolding flat_list
  list_class {ts} o = let h : p + 0 ≡ p = omega arith in rw h at (part_tag o v 0 (omega arith))

  -- record i, where the records before it end
  pub list_record : (i : ℕ) → i < length rs → Part cells (start_of (p + 1) rs i) (start_of (p + 1) rs (suc i)) (get_or rs i [])
  list_record i h = all_record rs list_all i h

  -- and where the row is plain: at even distances, n words each
  module _ {ss : Row} (each : Each (Lays ss) rs) (plain : plain? ss ≡ true) (n : ℕ) (long : length ss ≡ n) where
    pub rows_end : q ≡ p + 1 + length rs * n
    rows_end = part_end list_all ∙ sym (start_end rs (p + 1)) ∙ plain_start each plain (p + 1) n (length rs) long (omega arith)

    pub rows_record : (i : ℕ) → i < length rs → Part cells (p + 1 + i * n) (p + 1 + suc i * n) (get_or rs i [])
    rows_record i h =
        let a = plain_start each plain (p + 1) n i long (omega arith) in
        let b = plain_start each plain (p + 1) n (suc i) long h in
        rw (a, b) at (list_record i h)

-- ---- a function in cells: from s to e
pub record Stands (ws ts : List ℕ) (cells : Cells) (s e : ℕ) (f : Function) : Type 0 where
  pub held : Held ws ts cells
  pub part : Part cells s e (flat f)
  pub well : WellFunction f

-- of the cells' own words and classes
pub stands-all : {cells : Cells} {s e : ℕ} {f : Function} → s ≤ e → e ≤ length cells → slice s e cells ≡ flat f → WellFunction f → Stands (map word cells) (map class cells) cells s e f
stands-all {cells} a b c w = record { held = held_all cells; part = record { rising = a; within = b; cells_are = c }; well = w }

-- where the named expressions are, and the body
abbrev pub named_at : ℕ → List ℕ → Function → ℕ
named_at s ws f = expressions_at s ws + 1 + length (flat_all f.exprs)

abbrev pub body_at : ℕ → List ℕ → Function → ℕ
body_at s ws f = named_at s ws f + 1 + 2 * length f.named

-- its parts
pub record Parts (ws : List ℕ) (cells : Cells) (s e : ℕ) (f : Function) : Type 0 where
  pub head_part : Part cells s (arguments_at s) f.head
  pub arguments_part : Part cells (arguments_at s) (returns_at s ws) (flat_list ARGUMENTS f.arguments)
  pub result_part : Part cells (returns_at s ws) (locals_at s ws) f.result
  pub locals_part : Part cells (locals_at s ws) (expressions_at s ws) (flat_list LOCALS f.locals)
  pub exprs_part : Part cells (expressions_at s ws) (named_at s ws f) (flat_list EXPRESSIONS f.exprs)
  pub named-part : Part cells (named_at s ws f) (body_at s ws f) (flat_list NAMED f.named)
  pub body-part : Part cells (body_at s ws f) e (flat_block f.body)

-- ---- the shape of a result
pub data Result : Cells → Type 0 where
  no_result : Result ((RETURNS, 0) ∷ [])
  some_result : {t : ℕ} {cs : Cells} → map class cs ≡ binding [] → Result ((RETURNS, 1) ∷ (TYPE, t) ∷ cs)

of_none : (cs : Cells) → map class cs ≡ [] → Result ((RETURNS, 0) ∷ cs)
of_none [] e = no_result
of_none (c ∷ cs) e = let z : ◌≡◌ {A = ℕ} 0 1 = cc in absurd (omega arith)

of_some : (cs : Cells) → map class cs ≡ TYPE ∷ binding [] → Result ((RETURNS, 1) ∷ cs)
of_some [] e = let z : ◌≡◌ {A = ℕ} 0 1 = cc in absurd (omega arith)
of_some ((s, t) ∷ cs) e =
    let a : s ≡ TYPE = cc in
    let b : map class cs ≡ binding [] = cc in
    rw a (some_result b)

pub result_shape : {r : Cells} → Lays (RETURNS ∷ []) r → Result r
unfolding more variants results variant plain?
result_shape (lays_next {w = zero} {xs} {cs} e l) =
    let n : xs ≡ [] = cc in
    of_none cs (plain-classes l (rw n refl) ∙ rw n refl)
result_shape (lays_next {w = suc zero} {xs} {cs} e l) =
    let n : xs ≡ TYPE ∷ binding [] = cc in
    of_some cs (plain-classes l (rw n refl) ∙ rw n refl)
result_shape (lays_next {w = suc (suc w)} e l) = let z : ◌≡◌ {A = ℕ} 0 1 = cc in absurd (omega arith)

-- it is as long as its first word says
pub result_long : {r : Cells} → Result r → length r ≡ 1 + 7 * word (get_or r 0 (0, 0))
result_long no_result = refl
result_long (some_result {cs} e) = omega (arith, sym (length-map cs class) ∙ ap length e)

pub result_class : {r : Cells} → Result r → class (get_or r 0 (0, 0)) ≡ RETURNS
result_class no_result = refl
result_class (some_result e) = refl

pub result_bound : {r : Cells} → Result r → word (get_or r 0 (0, 0)) ≤ 1
result_bound no_result = omega arith
result_bound (some_result e) = omega arith

pub result_zero : {r : Cells} → Result r → word (get_or r 0 (0, 0)) ≡ 0 → r ≡ (RETURNS, 0) ∷ []
result_zero no_result z = refl
result_zero (some_result e) z = absurd (omega arith)

pub result_one : {r : Cells} → Result r → word (get_or r 0 (0, 0)) ≡ 1 → r ≡ (RETURNS, 1) ∷ (TYPE, word (get_or r 1 (0, 0))) ∷ drop 2 r
result_one no_result z = absurd (omega arith)
result_one (some_result e) z = refl

-- ---- the shape of an expression record
pub split_or : {A : Type 0} (a b : Bool) → a || b ≡ true → (a ≡ true → A) → (b ≡ true → A) → A
split_or true b h f g = f refl
split_or false b h f g = g h

-- the classes of the fields of expressions: no count but that of operands, and no kind but of a level or a query
abbrev pub among : ℕ → List ℕ → Bool
among s [] = false
among s (x ∷ xs) = eqb s x || among s xs

unfoldable pub field? : ℕ → Bool
field? s =
    (ltb s PAD && (leb s UPTO || among s (TYPE ∷ CONSTANT ∷ OVERRIDE ∷ GLOBAL ∷ FUNCTION ∷ EXPR ∷ OPT_EXPR ∷ ARGUMENT ∷ LOCAL ∷ [])))
    || among s (OPERANDS ∷ LEVEL ∷ QUERY ∷ [])

abbrev pub Field : Cell → Type 0
Field c = field? (class c) ≡ true

-- a class that fields do not have
pub field_eqb : (s c : ℕ) → field? s ≡ true → field? c ≡ false → eqb s c ≡ false
field_eqb s c h k = ne_eqb s c λ e. let z : ◌≡◌ {A = Bool} true false = sym h ∙ ap field? e ∙ k in let y : ◌≡◌ {A = ℕ} 0 1 = cc in omega arith

-- the kind of an expression, the lists of a function and the tree of statements are none; nor is what a statement evaluates, a range, a callee, or an initialiser
abbrev pub NOT_FIELDS : List ℕ
NOT_FIELDS =
    EXPR_KIND
    ∷ ARGUMENTS
    ∷ LOCALS
    ∷ EXPRESSIONS
    ∷ NAMED
    ∷ RETURNS
    ∷ BLOCK
    ∷ CASES
    ∷ LENGTH
    ∷ STMT_KIND
    ∷ VALUE
    ∷ ATOMIC
    ∷ CALLEE
    ∷ FROM
    ∷ TO
    ∷ RESULT
    ∷ OPT_RESULT
    ∷ NAMED-EXPR
    ∷ LOCAL-INIT
    ∷ NAME
    ∷ PLACE
    ∷ []

none-fields : Each (λ c. field? c ≡ false) NOT_FIELDS
unfolding field?
none-fields = each_next refl (each_next refl (each_next refl (each_next refl (each_next refl (each_next refl (each_next refl (each_next refl (each_next refl (each_next refl (each_next refl (each_next refl (each_next refl (each_next refl (each_next refl (each_next refl (each_next refl (each_next refl (each_next refl (each_next refl (each_next refl (each_none)))))))))))))))))))))

none-among : (c : ℕ) (l : List ℕ) → Each (λ x. field? x ≡ false) l → among c l ≡ true → field? c ≡ false
none-among c [] q h = let z : ◌≡◌ {A = ℕ} 0 1 = cc in absurd (omega arith)
none-among c (x ∷ l) (each_next p ps) h = split_or (eqb c x) (among c l) h (λ e. ap field? (eqb-true c x e) ∙ p) λ e. none-among c l ps e

-- so a field's class differs from each of them: `field_not s BLOCK h refl`
pub field_not : (s c : ℕ) → field? s ≡ true → among c NOT_FIELDS ≡ true → eqb s c ≡ false
field_not s c h k = field_eqb s c h (none-among c NOT_FIELDS none-fields k)

-- rows of fields
unfoldable pub fields? : Row → Bool
fields? [] = true
fields? (s ∷ ss) = field? s && fields? ss

rows? : List Row → Bool
rows? [] = true
rows? (r ∷ rs) = fields? r && rows? rs

fields-append : (xs ss : Row) → fields? xs ≡ true → fields? ss ≡ true → fields? (xs ++ ss) ≡ true
unfolding fields?
fields-append [] ss h k = k
fields-append (x ∷ xs) ss h k = let a = and_split (field? x) (fields? xs) h in and-true a.0 (fields-append xs ss a.1 k)

fields-repeat : (n : ℕ) (r : Row) → fields? r ≡ true → fields? (repeat n r) ≡ true
unfolding repeat fields?
fields-repeat zero r h = refl
fields-repeat (suc n) r h = fields-append r (repeat n r) h (fields-repeat n r h)

rows_at : (l : List Row) (k : ℕ) {r : Row} → rows? l ≡ true → get_elem? l k ≡ some r → fields? r ≡ true
unfolding rows?
rows_at [] k h e = let z : ◌≡◌ {A = ℕ} 0 1 = cc in absurd (omega arith)
rows_at (x ∷ l) zero {r} h e = let q : x ≡ r = cc in rw q at (and_split (fields? x) (rows? l) h).0
rows_at (x ∷ l) (suc k) h e = rows_at l k (and_split (fields? x) (rows? l) h).1 e

pub variant_brings : (o : Option Row) {xs : Row} → variant o ≡ brings xs → o ≡ some xs
unfolding variant
variant_brings none e = cc
variant_brings (some r) e = cc

-- the test of the table: the rows of expressions, levels and queries
expressions-fields : rows? expressions ≡ true
unfolding rows? fields? field? expressions
expressions-fields = refl

levels-fields : rows? levels ≡ true
unfolding rows? fields? field? levels
levels-fields = refl

queries-fields : rows? queries ≡ true
unfolding rows? fields? field? queries
queries-fields = refl

at-operands : (w : ℕ) (xs : Row) → more OPERANDS w ≡ brings xs → fields? xs ≡ true
unfolding more fields? field?
at-operands w xs e = let n : repeat w (EXPR ∷ []) ≡ xs = cc in rw n at (fields-repeat w (EXPR ∷ []) refl)

at_level : (w : ℕ) (xs : Row) → more LEVEL w ≡ brings xs → fields? xs ≡ true
unfolding more variants
at_level w xs e = rows_at levels w levels-fields (variant_brings (get_elem? levels w) e)

at_query : (w : ℕ) (xs : Row) → more QUERY w ≡ brings xs → fields? xs ≡ true
unfolding more variants
at_query w xs e = rows_at queries w queries-fields (variant_brings (get_elem? queries w) e)

-- what follows a field's word are fields
fields-more : (s w : ℕ) (xs : Row) → field? s ≡ true → more s w ≡ brings xs → fields? xs ≡ true
unfolding fields? field?
fields-more s w xs h e =
    split_or (ltb s PAD && (leb s UPTO || among s (TYPE ∷ CONSTANT ∷ OVERRIDE ∷ GLOBAL ∷ FUNCTION ∷ EXPR ∷ OPT_EXPR ∷ ARGUMENT ∷ LOCAL ∷ []))) (among s (OPERANDS ∷ LEVEL ∷ QUERY ∷ [])) h
    (λ a. plain-one (and_split (ltb s PAD) (leb s UPTO || among s (TYPE ∷ CONSTANT ∷ OVERRIDE ∷ GLOBAL ∷ FUNCTION ∷ EXPR ∷ OPT_EXPR ∷ ARGUMENT ∷ LOCAL ∷ [])) a).0)
    λ b.
    split_or (eqb s OPERANDS) (among s (LEVEL ∷ QUERY ∷ [])) b (λ c. at-operands w xs (rw (eqb-true s OPERANDS c) at e)) λ c.
    split_or (eqb s LEVEL) (among s (QUERY ∷ [])) c (λ d. at_level w xs (rw (eqb-true s LEVEL d) at e)) λ d.
    split_or (eqb s QUERY) (among s []) d (λ x. at_query w xs (rw (eqb-true s QUERY x) at e)) λ x.
    let z : ◌≡◌ {A = ℕ} 0 1 = cc in absurd (omega arith)
  where
    plain-one : ltb s PAD ≡ true → fields? xs ≡ true
    plain-one a = let n : xs ≡ [] = cc (plain_more s w a) in rw n refl

-- LAW, of cells laid out by a row of fields
pub lays_fields : {ss : Row} {cs : Cells} → Lays ss cs → fields? ss ≡ true → Each Field cs
unfolding fields?
lays_fields lays_none h = each_none
lays_fields (lays_next {s} {w} {xs} {ss} e l) h =
    let a = and_split (field? s) (fields? ss) h in
    each_next a.0 (lays_fields l (fields-append xs ss (fields-more s w xs a.0 e) a.1))

-- a record begins with its kind, and after it are fields, laid out by the kind's row
pub data Expression : Cells → Type 0 where
  expression : {k : ℕ} {row : Row} {cs : Cells} → k < length expressions → get_elem? expressions k ≡ some row → Lays row cs → Each Field cs → Expression ((EXPR_KIND, k) ∷ cs)

known : (k : ℕ) {r : Row} → get_elem? expressions k ≡ some r → k < length expressions
known k a = looked_length expressions k a

pub expression_shape : {r : Cells} → Lays (EXPR_KIND ∷ []) r → Expression r
unfolding more variants
expression_shape (lays_next {w = k} {xs} {cs} e l) =
    let a : get_elem? expressions k ≡ some xs = variant_brings (get_elem? expressions k) e in
    let b : Lays xs cs = rw append-nil at l in
    expression (known k a) a b (lays_fields b (rows_at expressions k expressions-fields a))

pub expression_class : {r : Cells} → Expression r → class (get_or r 0 (0, 0)) ≡ EXPR_KIND
expression_class (expression h e l q) = refl

pub expression_kind : {r : Cells} → Expression r → word (get_or r 0 (0, 0)) ≡ kind r
unfolding kind
expression_kind (expression h e l q) = refl

pub expression_known : {r : Cells} → Expression r → kind r < length expressions
unfolding kind
expression_known (expression h e l q) = h

pub expression_first : {r : Cells} → Expression r → 0 < length r
expression_first (expression h e l q) = omega arith

pub expression_field : {r : Cells} → Expression r → (i : ℕ) → suc i < length r → field? (class (get_or r (suc i) (0, 0))) ≡ true
expression_field (expression h e l q) i k = each_at q i (0, 0) (omega arith)

pub each_expression : {rs : List Cells} → Each (Lays (EXPR_KIND ∷ [])) rs → Each Expression rs
each_expression each_none = each_none
each_expression (each_next p ps) = each_next (expression_shape p) (each_expression ps)

-- ---- the parts of a function that is in cells
joined : (a b c d e f g : Cells) → a ++ b ++ c ++ d ++ e ++ f ++ g ≡ a ++ (b ++ (c ++ (d ++ (e ++ (f ++ g)))))
joined a b c d e f g = simp append_assoc

-- the cells from each of the first six on
abbrev rest_5 : Function → Cells
rest_5 f = flat_list NAMED f.named ++ flat_block f.body

abbrev rest_4 : Function → Cells
rest_4 f = flat_list EXPRESSIONS f.exprs ++ rest_5 f

abbrev rest_3 : Function → Cells
rest_3 f = flat_list LOCALS f.locals ++ rest_4 f

abbrev rest_2 : Function → Cells
rest_2 f = f.result ++ rest_3 f

abbrev rest_1 : Function → Cells
rest_1 f = flat_list ARGUMENTS f.arguments ++ rest_2 f

abbrev rest_0 : Function → Cells
rest_0 f = f.head ++ rest_1 f

moved : {cells cs : Cells} {p q x y : ℕ} → Part cells p q cs → p ≡ x → q ≡ y → Part cells x y cs
moved v a b = rw (a, b) at v

flat_list_lem : (s : ℕ) (rs : List Cells) → length (flat_list s rs) ≡ 1 + length (flat_all rs)
unfolding flat_list
flat_list_lem s rs = omega arith

module _ {ws ts : List ℕ} {cells : Cells} {s e : ℕ} {f : Function} (v : Stands ws ts cells s e f) where
  abbrev w : WellFunction f
  w = v.well

  abbrev o : Held ws ts cells
  o = v.held

  three : length f.head ≡ 3
  unfolding function_head plain?
  three = plain-length w.head_ok refl

  part_0 : Part cells s e (rest_0 f)
  unfolding flat
  part_0 = rw joined at v.part

  part_1 : Part cells (arguments_at s) e (rest_1 f)
  part_1 = moved (part_right f.head (rest_1 f) part_0) (omega (arith, three)) refl

  arguments_here : Part cells (arguments_at s) (returns_at s ws) (flat_list ARGUMENTS f.arguments)
  unfolding returns_at counted plain?
  arguments_here =
      let a = part_left (flat_list ARGUMENTS f.arguments) (rest_2 f) part_1 in
      moved a refl (omega (arith, rows_end ARGUMENTS f.arguments a w.arguments_ok.each refl 8 refl, list_count ARGUMENTS f.arguments a o))

  part_2 : Part cells (returns_at s ws) e (rest_2 f)
  part_2 = moved (part_right (flat_list ARGUMENTS f.arguments) (rest_2 f) part_1) (sym (part_end arguments_here)) refl

  pub returns_shape : Result f.result
  returns_shape = result_shape w.result_ok_lem

  result_here : Part cells (returns_at s ws) (locals_at s ws) f.result
  unfolding locals_at
  result_here =
      let a = part_left f.result (rest_3 f) part_2 in
      let h : returns_at s ws + 0 ≡ returns_at s ws = omega arith in
      let k = rw h at (part-word o a 0 (omega (arith, result_long returns_shape))) in
      moved a refl (omega (arith, result_long returns_shape, k))

  part_3 : Part cells (locals_at s ws) e (rest_3 f)
  part_3 = moved (part_right f.result (rest_3 f) part_2) (sym (part_end result_here)) refl

  locals_here : Part cells (locals_at s ws) (expressions_at s ws) (flat_list LOCALS f.locals)
  unfolding expressions_at counted plain?
  locals_here =
      let a = part_left (flat_list LOCALS f.locals) (rest_4 f) part_3 in
      moved a refl (omega (arith, rows_end LOCALS f.locals a w.locals_ok.each refl 5 refl, list_count LOCALS f.locals a o))

  part_4 : Part cells (expressions_at s ws) e (rest_4 f)
  part_4 = moved (part_right (flat_list LOCALS f.locals) (rest_4 f) part_3) (sym (part_end locals_here)) refl

  exprs_here : Part cells (expressions_at s ws) (named_at s ws f) (flat_list EXPRESSIONS f.exprs)
  exprs_here = moved (part_left (flat_list EXPRESSIONS f.exprs) (rest_5 f) part_4) refl (omega (arith, flat_list_lem EXPRESSIONS f.exprs))

  part_5 : Part cells (named_at s ws f) e (rest_5 f)
  part_5 = moved (part_right (flat_list EXPRESSIONS f.exprs) (rest_5 f) part_4) (sym (part_end exprs_here)) refl

  named_here : Part cells (named_at s ws f) (body_at s ws f) (flat_list NAMED f.named)
  unfolding counted plain?
  named_here =
      let a = part_left (flat_list NAMED f.named) (flat_block f.body) part_5 in
      moved a refl (omega (arith, rows_end NAMED f.named a w.named_ok.each refl 2 refl))

  pub parts : Parts ws cells s e f
  parts =
      record {
        head_part = moved (part_left f.head (rest_1 f) part_0) refl (omega (arith, three));
        arguments_part = arguments_here;
        result_part = result_here;
        locals_part = locals_here;
        exprs_part = exprs_here;
        named-part = named_here;
        body-part = moved (part_right (flat_list NAMED f.named) (flat_block f.body) part_5) (sym (part_end named_here)) refl;
      }

  -- the head
  pub head_classes : map class f.head ≡ NAME ∷ SPAN ∷ UPTO ∷ []
  unfolding function_head plain?
  head_classes = plain-classes w.head_ok refl

  -- the arguments
  pub arguments_count : get_or ws (arguments_at s) 0 ≡ length f.arguments
  arguments_count = list_count ARGUMENTS f.arguments arguments_here o

  pub arguments_class : get_or ts (arguments_at s) 0 ≡ ARGUMENTS
  arguments_class = list_class ARGUMENTS f.arguments arguments_here o

  module _ (i : ℕ) (h : i < length f.arguments) where
    pub argument-part : Part cells (argument_at s i) (argument_at s i + 8) (get_or f.arguments i [])
    unfolding counted plain?
    argument-part = moved (rows_record ARGUMENTS f.arguments arguments_here w.arguments_ok.each refl 8 refl i h) (omega arith) (omega (arith, suc-mul i 8))

    pub argument-classes : map class (get_or f.arguments i []) ≡ NAME ∷ TYPE ∷ binding []
    unfolding counted plain?
    argument-classes = plain-classes (each_at w.arguments_ok.each i [] h) refl

    argument_long : length (get_or f.arguments i []) ≡ 8
    argument_long = sym (length-map (get_or f.arguments i []) class) ∙ ap length argument-classes

    pub argument_type : get_or ws (argument_at s i + 1) 0 ≡ word (get_or (get_or f.arguments i []) 1 (0, 0))
    argument_type = part-word o argument-part 1 (omega (arith, argument_long))

    pub argument_type_class : get_or ts (argument_at s i + 1) 0 ≡ TYPE
    argument_type_class = part_tag o argument-part 1 (omega (arith, argument_long)) ∙ sym (get_or-map class (get_or f.arguments i []) 1 (0, 0)) ∙ ap (λ l. get_or l 1 0) argument-classes

  -- the result
  result_first : 0 < length f.result
  result_first = omega (arith, result_long returns_shape)

  pub returns-word : get_or ws (returns_at s ws) 0 ≡ word (get_or f.result 0 (0, 0))
  returns-word = let h : returns_at s ws + 0 ≡ returns_at s ws = omega arith in rw h at (part-word o result_here 0 result_first)

  pub returns-class : get_or ts (returns_at s ws) 0 ≡ RETURNS
  returns-class = let h : returns_at s ws + 0 ≡ returns_at s ws = omega arith in rw h at (part_tag o result_here 0 result_first) ∙ result_class returns_shape

  -- 0 or 1, as there is none or one; the word after 1 is its type
  pub returns-bound : get_or ws (returns_at s ws) 0 ≤ 1
  returns-bound = rw returns-word (result_bound returns_shape)

  pub returns_zero : get_or ws (returns_at s ws) 0 ≡ 0 → f.result ≡ (RETURNS, 0) ∷ []
  returns_zero e = result_zero returns_shape (sym returns-word ∙ e)

  pub returns_one : get_or ws (returns_at s ws) 0 ≡ 1 → f.result ≡ (RETURNS, 1) ∷ (TYPE, get_or ws (returns_at s ws + 1) 0) ∷ drop 2 f.result
  returns_one e =
      let l : length f.result ≡ 8 = omega (arith, result_long returns_shape, returns-word) in
      rw (part-word o result_here 1 (omega arith)) (result_one returns_shape (sym returns-word ∙ e))

  pub returns_type_class : get_or ws (returns_at s ws) 0 ≡ 1 → get_or ts (returns_at s ws + 1) 0 ≡ TYPE
  returns_type_class e =
      let l : length f.result ≡ 8 = omega (arith, result_long returns_shape, returns-word) in
      part_tag o result_here 1 (omega arith) ∙ ap (λ c. class (get_or c 1 (0, 0))) (returns_one e)

  -- the locals
  pub locals_count : get_or ws (locals_at s ws) 0 ≡ length f.locals
  locals_count = list_count LOCALS f.locals locals_here o

  pub locals_class : get_or ts (locals_at s ws) 0 ≡ LOCALS
  locals_class = list_class LOCALS f.locals locals_here o

  module _ (i : ℕ) (h : i < length f.locals) where
    pub local-part : Part cells (local_at s i ws) (local_at s i ws + 5) (get_or f.locals i [])
    unfolding counted plain?
    local-part = moved (rows_record LOCALS f.locals locals_here w.locals_ok.each refl 5 refl i h) (omega arith) (omega (arith, suc-mul i 5))

    pub local-classes : map class (get_or f.locals i []) ≡ SPAN ∷ UPTO ∷ NAME ∷ TYPE ∷ LOCAL-INIT ∷ []
    unfolding counted plain?
    local-classes = plain-classes (each_at w.locals_ok.each i [] h) refl

    local_long : length (get_or f.locals i []) ≡ 5
    local_long = sym (length-map (get_or f.locals i []) class) ∙ ap length local-classes

    pub local_type : get_or ws (local_at s i ws + 3) 0 ≡ word (get_or (get_or f.locals i []) 3 (0, 0))
    local_type = part-word o local-part 3 (omega (arith, local_long))

    pub local-init : get_or ws (local_at s i ws + 4) 0 ≡ word (get_or (get_or f.locals i []) 4 (0, 0))
    local-init = part-word o local-part 4 (omega (arith, local_long))

    pub local_init_class : get_or ts (local_at s i ws + 4) 0 ≡ LOCAL-INIT
    local_init_class = part_tag o local-part 4 (omega (arith, local_long)) ∙ sym (get_or-map class (get_or f.locals i []) 4 (0, 0)) ∙ ap (λ l. get_or l 4 0) local-classes

  -- the expressions
  pub exprs_count : get_or ws (expressions_at s ws) 0 ≡ length f.exprs
  exprs_count = list_count EXPRESSIONS f.exprs exprs_here o

  pub exprs_class : get_or ts (expressions_at s ws) 0 ≡ EXPRESSIONS
  exprs_class = list_class EXPRESSIONS f.exprs exprs_here o

  pub exprs_all : Part cells (expressions_at s ws + 1) (named_at s ws f) (flat_all f.exprs)
  exprs_all = list_all EXPRESSIONS f.exprs exprs_here

  pub expr_part : (i : ℕ) → i < length f.exprs → Part cells (start_of (expressions_at s ws + 1) f.exprs i) (start_of (expressions_at s ws + 1) f.exprs (suc i)) (get_or f.exprs i [])
  expr_part = list_record EXPRESSIONS f.exprs exprs_here

  pub exprs_shapes : Each Expression f.exprs
  unfolding counted
  exprs_shapes = each_expression w.exprs_ok.each

  module _ (i : ℕ) (h : i < length f.exprs) where
    pub expr_shape : Expression (get_or f.exprs i [])
    expr_shape = each_at exprs_shapes i [] h

    abbrev at : ℕ
    at = start_of (expressions_at s ws + 1) f.exprs i

    -- its first word is its kind, and no other of its words is a kind, nor one of a statement or of a function's list
    pub expr_class : get_or ts (start_of (expressions_at s ws + 1) f.exprs i) 0 ≡ EXPR_KIND
    expr_class = let z : at + 0 ≡ at = omega arith in rw z at (part_tag o (expr_part i h) 0 (expression_first expr_shape)) ∙ expression_class expr_shape

    pub expr_kind : get_or ws (start_of (expressions_at s ws + 1) f.exprs i) 0 ≡ kind_at f.exprs i
    unfolding kind_at
    expr_kind = let z : at + 0 ≡ at = omega arith in rw z at (part-word o (expr_part i h) 0 (expression_first expr_shape)) ∙ expression_kind expr_shape

    pub expr_known : kind_at f.exprs i < length expressions
    unfolding kind_at
    expr_known = expression_known expr_shape

    pub expr_field : (j : ℕ) → suc j < length (get_or f.exprs i []) → field? (get_or ts (start_of (expressions_at s ws + 1) f.exprs i + suc j) 0) ≡ true
    expr_field j k = rw (part_tag o (expr_part i h) (suc j) k) (expression_field expr_shape j k)

  -- the named expressions
  pub named_count : get_or ws (named_at s ws f) 0 ≡ length f.named
  named_count = list_count NAMED f.named named_here o

  pub named-class : get_or ts (named_at s ws f) 0 ≡ NAMED
  named-class = list_class NAMED f.named named_here o

  pub named-row : (i : ℕ) → i < length f.named → Part cells (named_at s ws f + 1 + 2 * i) (named_at s ws f + 3 + 2 * i) (get_or f.named i [])
  unfolding counted plain?
  named-row i h = moved (rows_record NAMED f.named named_here w.named_ok.each refl 2 refl i h) (omega arith) (omega (arith, suc-mul i 2))

  pub named-classes : (i : ℕ) → i < length f.named → map class (get_or f.named i []) ≡ NAMED-EXPR ∷ NAME ∷ []
  unfolding counted plain?
  named-classes i h = plain-classes (each_at w.named_ok.each i [] h) refl

  -- the body
  pub body-count : get_or ws (body_at s ws f) 0 ≡ size_b f.body
  unfolding flat_block
  body-count = let h : body_at s ws f + 0 ≡ body_at s ws f = omega arith in rw h at (part-word o parts.body-part 0 (omega arith))

  pub body-class : get_or ts (body_at s ws f) 0 ≡ BLOCK
  unfolding flat_block
  body-class = let h : body_at s ws f + 0 ≡ body_at s ws f = omega arith in rw h at (part_tag o parts.body-part 0 (omega arith))

  pub stands-end : e ≡ body_at s ws f + 1 + length (flat_b f.body)
  unfolding flat_block
  stands-end = omega (arith, part_end parts.body-part)

-- ---- words and tags that hold a module

entry-classes : {x : Entry} → WellEntry x → map class x.head ≡ NAME ∷ binding []
unfolding entry_head plain?
entry-classes w = plain-classes w.head_ok refl

entry_long : {x : Entry} → WellEntry x → length x.head ≡ 7
entry_long {x} w = sym (length-map x.head class) ∙ ap length (entry-classes w)

pub table_least : (rs : List Cells) → length rs ≤ length (flat_table rs)
unfolding flat_table
table_least rs = omega (arith, length-append (places (length rs) rs) (flat_all rs), length-places rs (length rs))

module _ {words tags : List ℕ} {n : ℕ} {m : Module} (t : Taped words tags n m) where
  pub taped_write : n ≡ length (write m)
  taped_write =
      let h : n ≤ length words = omega (arith, t.small, t.words_long) in
      sym (length-take-le n words h) ∙ ap length t.words_are

  pub taped_length : n ≡ length (flat_module m)
  taped_length = taped_write ∙ length-write m

  pub taped_held : Held words tags (flat_module m)
  unfolding write
  taped_held = record { words = rw (← taped_length) t.words_are; tags = rw (← taped_length) t.tags_are }

  pub taped_word : (i : ℕ) → i < n → get_or words i 0 ≡ get_or (write m) i 0
  taped_word i h = sym (get_or-take n words i 0 h) ∙ ap (λ l. get_or l i 0) t.words_are

  pub taped_class : (i : ℕ) → i < n → get_or tags i 0 ≡ get_or (map class (flat_module m)) i 0
  taped_class i h = sym (get_or-take n tags i 0 h) ∙ ap (λ l. get_or l i 0) t.tags_are

  pub taped_slice : (a b : ℕ) → b ≤ n → slice a b words ≡ slice a b (write m)
  taped_slice a b h = ap (drop a) (sym (take-take b n words h) ∙ ap (take b) t.words_are)

  pub taped_slice_class : (a b : ℕ) → b ≤ n → slice a b tags ≡ slice a b (map class (flat_module m))
  taped_slice_class a b h = ap (drop a) (sym (take-take b n tags h) ∙ ap (take b) t.tags_are)

  -- the header
  pub taped_header : HEADER ≤ n
  taped_header = omega (arith, taped_length, length_cells m)

  pub taped_count : (k : ℕ) → k < 9 → count_at k words ≡ count_at k (write m)
  unfolding count_at
  taped_count k h = taped_word (2 + 2 * k) (omega (arith, taped_header))

  pub taped_offset : (k : ℕ) → k < 9 → offset_at k words ≡ offset_at k (write m)
  unfolding offset_at
  taped_offset k h = taped_word (3 + 2 * k) (omega (arith, taped_header))

  pub taped_end : (k : ℕ) → k < 8 → end_at k words ≡ end_at k (write m)
  unfolding end_at
  taped_end k h = go (eqb k 8) refl
    where
      go : (b : Bool) → eqb k 8 ≡ b → ◌≡◌ {A = ℕ} (elim b [ true ↦ length words | false ↦ offset_at (suc k) words ]) (elim b [ true ↦ length (write m) | false ↦ offset_at (suc k) (write m) ])
      go true e = absurd (omega (arith, eqb-true k 8 e))
      go false e = taped_offset (suc k) (omega arith)

  -- the records of the tables
  pub offset_inside : (k j : ℕ) → k < 8 → j < count_at k (write m) → offset_at k (write m) + j < n
  offset_inside k j h i =
      omega (arith, view_length m k (omega arith), ap (λ s. length s.1) (view_table m k h), table_least (get_or (tables m) k []), view_records m k h, view_within m k (omega arith), taped_write)

  pub taped_record : (k j : ℕ) → k < 8 → j < count_at k (write m) → record_at k j words ≡ record_at k j (write m)
  unfolding record_at
  taped_record k j h i = let e = taped_offset k (omega arith) in ap₂ ◌+◌ e (ap (λ o. get_or words (o + j) 0) e ∙ taped_word (offset_at k (write m) + j) (offset_inside k j h i))

  pub taped_record_end : (k j : ℕ) → k < 8 → j < count_at k (write m) → record_end k j words ≡ record_end k j (write m)
  unfolding record_end
  taped_record_end k j h i = rw (taped_count k (omega arith), record_end) (go (eqb (suc j) (count_at k (write m))) refl)
    where
      go : (b : Bool) → eqb (suc j) (count_at k (write m)) ≡ b → ◌≡◌ {A = ℕ} (elim b [ true ↦ end_at k words | false ↦ record_at k (suc j) words ]) (elim b [ true ↦ end_at k (write m) | false ↦ record_at k (suc j) (write m) ])
      go true e = taped_end k h
      go false e = taped_record k (suc j) h (omega (arith, eqb-false (suc j) (count_at k (write m)) e))

  -- record j of a table, by words that hold the module
  pub taped_part : {k j : ℕ} {r : Cells} → k < 8 → SeesRecord (write m) m k j r → Part (flat_module m) (record_at k j words) (record_end k j words) r
  taped_part {k} {j} h v =
      rw (taped_record k j h v.inside, taped_record_end k j h v.inside)
      (record { rising = v.rising; within = omega (arith, v.within, view_within m k (omega arith), length-write m); cells_are = v.cells })

  pub taped_functions : count_at 6 words ≡ length m.functions
  taped_functions = taped_count 6 (omega arith) ∙ (sees_functions m refl).count

  pub taped_entries : count_at 7 words ≡ length m.entries
  taped_entries = taped_count 7 (omega arith) ∙ (sees_entries m refl).count

  -- function j is where the offsets say
  pub taped_function : (j : ℕ) (f : Function) → get_elem? m.functions j ≡ some f → Stands words tags (flat_module m) (record_at 6 j words) (record_end 6 j words) f
  taped_function j f e =
      record { held = taped_held; part = taped_part (omega arith) (sees_function m refl j f e); well = looked_each t.well.functions_ok.each j e }

  -- and entry point j: seven words, and its function
  pub taped_entry_head : (j : ℕ) (x : Entry) → get_elem? m.entries j ≡ some x → Part (flat_module m) (record_at 7 j words) (record_at 7 j words + entry_head_words) x.head
  unfolding flat_entry
  taped_entry_head j x e = moved (part_left x.head (flat x.function) (taped_part (omega arith) (sees_entry m refl j x e))) refl (omega (arith, entry_long (looked_each t.well.entries_ok.each j e)))

  pub taped_entry_classes : (j : ℕ) (x : Entry) → get_elem? m.entries j ≡ some x → map class x.head ≡ NAME ∷ binding []
  taped_entry_classes j x e = entry-classes (looked_each t.well.entries_ok.each j e)

  pub taped_entry : (j : ℕ) (x : Entry) → get_elem? m.entries j ≡ some x → Stands words tags (flat_module m) (record_at 7 j words + entry_head_words) (record_end 7 j words) x.function
  unfolding flat_entry
  taped_entry j x e =
      let w : WellEntry x = looked_each t.well.entries_ok.each j e in
      record {
        held = taped_held;
        part = moved (part_right x.head (flat x.function) (taped_part (omega arith) (sees_entry m refl j x e))) (omega (arith, entry_long w)) refl;
        well = w.function-ok;
      }
