-- Which classes are in the records of each table, from their layout: no others refer to anything. Global expressions are of the kinds that document 01 lists for them.
use Rattle.std.specs.Prelude.{◌≡◌, Bool, true, false, ◌&&◌, ◌||◌, List, [], ◌∷◌, ◌++◌, ℕ, zero, suc, ◌+◌, ◌-◌, ◌/◌, ◌%◌, ◌^◌, ◌≤◌, eqb, ltb, leb, replicate}
use Rattle.std.proofs.Math.Path.{refl}
use Rattle.std.proofs.Common.{sym, ◌∙◌, append-nil, arith, eqb-true, ltb-false, leb-true, ne_eqb, le-ltb, lt-ltb, le-leb}
use Rattle.std.proofs.Math.Option.{none, some}
use Rattle.std.proofs.Math.ListN.{get_elem?, get_or-eq_default}
use Rattle.theory_lists.specs.Booleans.{and-true, and_split}
use Rattle.model.specs.Outcome.{Cells}
use Rattle.model.specs.Table.{Row, WORD, SPAN, UPTO, NAME, TYPE, CONSTANT, OVERRIDE, INIT, OPT_INIT, EXPR, OPT_EXPR, KEY, PLACE, PAD, TEXT, OPERANDS, MEMBERS, TYPE_KIND, EXPR_KIND, types as typeRows, expressions, name_row, type_row, constant_row, override_row, global_row, expression_row, counted, limit, variants, repeat, text, brings, over, more}
use Rattle.model.specs.Carry.{Lays, lays_none, lays_next}
use Rattle.model.specs.Operands.{kind, constant_kind}
use Rattle.model.specs.Numbers.{Bounds, caps, bound}
use Rattle.model.specs.Tables.{Tab, names, types, constants, overrides, globals, exprs}
use Rattle.model.specs.References.{table, own, copied, targets, target}
use Rattle.theory_image.specs.Plain.{plain_more}
use Rattle.theory_image.specs.FunctionViews.{among, split_or, variant_brings}
use Rattle.theory_records.specs.Well.{May, type_name, type_type, const_name, const_type, const_init, over_name, over_type, over_init, global_name, global_type, global-init, expr_type, expr_const, expr_over, expr_own}

-- a class that is allowed in a record of the table t
pub data KindOf (t : Tab) : ℕ → Type 0 where
  is_copied : {s : ℕ} → target s ≡ copied → ((b c : Bounds) → bound b s ≡ bound c s) → KindOf t s
  is_span : KindOf t SPAN
  is_upto : KindOf t UPTO
  is_name : May t (table names) → KindOf t NAME
  is_type : May t (table types) → KindOf t TYPE
  is_constant : May t (table constants) → KindOf t CONSTANT
  is_override : May t (table overrides) → KindOf t OVERRIDE
  is_init : May t (table exprs) → KindOf t INIT
  is_opt_init : May t (table exprs) → KindOf t OPT_INIT
  is_expr : May t own → KindOf t EXPR
  is_opt_expr : May t own → KindOf t OPT_EXPR

pub data Kinds (t : Tab) : Cells → Type 0 where
  no_kinds : Kinds t []
  kinds : {s w : ℕ} {cs : Cells} → KindOf t s → Kinds t cs → Kinds t ((s, w) ∷ cs)

-- ---- the classes of each table
unfoldable classes : Tab → List ℕ
classes names = []
classes types = NAME ∷ SPAN ∷ UPTO ∷ TYPE_KIND ∷ 9 ∷ WORD ∷ TYPE ∷ MEMBERS ∷ []
classes constants = NAME ∷ SPAN ∷ UPTO ∷ TYPE ∷ INIT ∷ []
classes overrides = NAME ∷ SPAN ∷ UPTO ∷ WORD ∷ TYPE ∷ OPT_INIT ∷ []
classes globals = NAME ∷ SPAN ∷ UPTO ∷ WORD ∷ TYPE ∷ OPT_INIT ∷ []
classes exprs = SPAN ∷ UPTO ∷ 10 ∷ WORD ∷ CONSTANT ∷ OVERRIDE ∷ TYPE ∷ OPERANDS ∷ EXPR ∷ OPT_EXPR ∷ 3 ∷ 4 ∷ 18 ∷ 79 ∷ 6 ∷ []

abbrev AllL : (ℕ → Type 0) → List ℕ → Type 0
AllL P [] = Unit {0}
AllL P (x ∷ xs) = P x × AllL P xs

among_elim : (P : ℕ → Type 0) (ls : List ℕ) → AllL P ls → (s : ℕ) → among s ls ≡ true → P s
among_elim P [] a s h = let z : ◌≡◌ {A = ℕ} 0 1 = cc in absurd (omega arith)
among_elim P (x ∷ xs) a s h = split_or (eqb s x) (among s xs) h (λ e. rw (eqb-true s x e) a.0) (among_elim P xs a.1 s)

target_of_lem : (t : Tab) (s : ℕ) → among s (classes t) ≡ true → KindOf t s
unfolding classes target targets bound caps
target_of_lem names s h = among_elim (KindOf names) [] tt s h
target_of_lem types s h =
    among_elim (KindOf types) (classes types)
    (is_name type_name, (is_span, (is_upto, (is_copied refl (λ b c. refl), (is_copied refl (λ b c. refl), (is_copied refl (λ b c. refl), (is_type type_type, (is_copied refl (λ b c. refl), tt)))))))) s h
target_of_lem constants s h = among_elim (KindOf constants) (classes constants) (is_name const_name, (is_span, (is_upto, (is_type const_type, (is_init const_init, tt))))) s h
target_of_lem overrides s h = among_elim (KindOf overrides) (classes overrides) (is_name over_name, (is_span, (is_upto, (is_copied refl (λ b c. refl), (is_type over_type, (is_opt_init over_init, tt)))))) s h
target_of_lem globals s h = among_elim (KindOf globals) (classes globals) (is_name global_name, (is_span, (is_upto, (is_copied refl (λ b c. refl), (is_type global_type, (is_opt_init global-init, tt)))))) s h
target_of_lem exprs s h =
    among_elim (KindOf exprs) (classes exprs)
    (is_span, (is_upto, (is_copied refl (λ b c. refl), (is_copied refl (λ b c. refl), (is_constant expr_const, (is_override expr_over, (is_type expr_type, (is_copied refl (λ b c. refl), (is_expr expr_own, (is_opt_expr expr_own, (is_copied refl (λ b c. refl), (is_copied refl (λ b c. refl), (is_copied refl (λ b c. refl), (is_copied refl (λ b c. refl), (is_copied refl (λ b c. refl), tt))))))))))))))) s h

-- ---- rows of such classes, and what their words bring
abbrev pub in_l : List ℕ → Row → Bool
in_l ls [] = true
in_l ls (s ∷ ss) = among s ls && in_l ls ss

pub in_append : (ls : List ℕ) (xs ss : Row) → in_l ls xs ≡ true → in_l ls ss ≡ true → in_l ls (xs ++ ss) ≡ true
in_append ls [] ss h k = k
in_append ls (x ∷ xs) ss h k = let a = and_split (among x ls) (in_l ls xs) h in and-true a.0 (in_append ls xs ss a.1 k)

pub in_repeat : (ls : List ℕ) (n : ℕ) (r : Row) → in_l ls r ≡ true → in_l ls (repeat n r) ≡ true
unfolding repeat
in_repeat ls zero r h = refl
in_repeat ls (suc n) r h = in_append ls r (repeat n r) h (in_repeat ls n r h)

abbrev pub rows_in : List ℕ → List Row → Bool
rows_in ls [] = true
rows_in ls (r ∷ rs) = in_l ls r && rows_in ls rs

pub row_at : (ls : List ℕ) (l : List Row) (k : ℕ) {r : Row} → rows_in ls l ≡ true → get_elem? l k ≡ some r → in_l ls r ≡ true
row_at ls [] k h e = let z : ◌≡◌ {A = ℕ} 0 1 = cc in absurd (omega arith)
row_at ls (x ∷ l) zero {r} h e = let q : x ≡ r = cc in rw q at (and_split (in_l ls x) (rows_in ls l) h).0
row_at ls (x ∷ l) (suc k) h e = row_at ls l k (and_split (in_l ls x) (rows_in ls l) h).1 e

abbrev pub Brings : List ℕ → ℕ → Type 0
Brings ls s = (w : ℕ) (xs : Row) → more s w ≡ brings xs → in_l ls xs ≡ true

pub plain_in : (ls : List ℕ) (s : ℕ) → ltb s PAD ≡ true → Brings ls s
plain_in ls s p w xs e = let n : xs ≡ [] = cc (plain_more s w p) in rw n refl

members_in : Brings (classes types) MEMBERS
unfolding more counted classes
members_in w xs e = go (leb w (limit MEMBERS)) e
  where
    go : (b : Bool) → elim b [ true ↦ brings (repeat w (counted MEMBERS)) | false ↦ over ] ≡ brings xs → in_l (classes types) xs ≡ true
    go true e = let n : repeat w (counted MEMBERS) ≡ xs = cc in rw n at (in_repeat (classes types) w (counted MEMBERS) refl)
    go false e = let z : ◌≡◌ {A = ℕ} 0 1 = cc in absurd (omega arith)

kinds_in : Brings (classes types) TYPE_KIND
unfolding more variants classes typeRows
kinds_in w xs e = row_at (classes types) typeRows w refl (variant_brings (get_elem? typeRows w) e)

operands_in : Brings (classes exprs) OPERANDS
unfolding more classes
operands_in w xs e = let n : repeat w (EXPR ∷ []) ≡ xs = cc in rw n at (in_repeat (classes exprs) w (EXPR ∷ []) refl)

brings_in : (t : Tab) (s : ℕ) → among s (classes t) ≡ true → Brings (classes t) s
unfolding classes
brings_in names s h = among_elim (Brings []) [] tt s h
brings_in types s h =
    among_elim (Brings (classes types)) (classes types)
    (plain_in (classes types) NAME refl, (plain_in (classes types) SPAN refl, (plain_in (classes types) UPTO refl, (kinds_in, (plain_in (classes types) 9 refl, (plain_in (classes types) WORD refl, (plain_in (classes types) TYPE refl, (members_in, tt)))))))) s h
brings_in constants s h =
    among_elim (Brings (classes constants)) (classes constants) (plain_in (classes constants) NAME refl, (plain_in (classes constants) SPAN refl, (plain_in (classes constants) UPTO refl, (plain_in (classes constants) TYPE refl, (plain_in (classes constants) INIT refl, tt))))) s h
brings_in overrides s h =
    among_elim (Brings (classes overrides)) (classes overrides) (plain_in (classes overrides) NAME refl, (plain_in (classes overrides) SPAN refl, (plain_in (classes overrides) UPTO refl, (plain_in (classes overrides) WORD refl, (plain_in (classes overrides) TYPE refl, (plain_in (classes overrides) OPT_INIT refl, tt)))))) s h
brings_in globals s h =
    among_elim (Brings (classes globals)) (classes globals) (plain_in (classes globals) NAME refl, (plain_in (classes globals) SPAN refl, (plain_in (classes globals) UPTO refl, (plain_in (classes globals) WORD refl, (plain_in (classes globals) TYPE refl, (plain_in (classes globals) OPT_INIT refl, tt)))))) s h
brings_in exprs s h =
    among_elim (Brings (classes exprs)) (classes exprs)
    (plain_in (classes exprs) SPAN refl, (plain_in (classes exprs) UPTO refl, (plain_in (classes exprs) 10 refl, (plain_in (classes exprs) WORD refl, (plain_in (classes exprs) CONSTANT refl, (plain_in (classes exprs) OVERRIDE refl, (plain_in (classes exprs) TYPE refl, (operands_in, (plain_in (classes exprs) EXPR refl, (plain_in (classes exprs) OPT_EXPR refl, (plain_in (classes exprs) 3 refl, (plain_in (classes exprs) 4 refl, (plain_in (classes exprs) 18 refl, (plain_in (classes exprs) 79 refl, (plain_in (classes exprs) 6 refl, tt))))))))))))))) s h

lays_kinds : (t : Tab) {ss : Row} {cs : Cells} → Lays ss cs → in_l (classes t) ss ≡ true → Kinds t cs
lays_kinds t lays_none h = no_kinds
lays_kinds t (lays_next {s} {w} {xs} {ss} e l) h =
    let a = and_split (among s (classes t)) (in_l (classes t) ss) h in
    kinds (target_of_lem t s a.0) (lays_kinds t l (in_append (classes t) xs ss (brings_in t s a.0 w xs e) a.1))

-- ---- names: bytes, which refer to nothing
pub far_copied : (s : ℕ) → KEY ≤ s → target s ≡ copied
unfolding target targets
far_copied s h = rw (le-ltb s SPAN (omega arith), target) (get_or-eq_default targets copied {n = s - SPAN} (omega arith))

far : {t : Tab} (s : ℕ) → KEY ≤ s → KindOf t s
unfolding target targets bound caps
far s h = is_copied (far_copied s h) (λ b c. free b ∙ sym (free c))
  where
    free : (b : Bounds) → bound b s ≡ none
    free b = rw (le-ltb s WORD (omega arith), bound) (get_or-eq_default (caps b) none {n = s - WORD} (omega arith))

abbrev byte? : ℕ → Bool
byte? s = eqb s WORD || (leb KEY s && ltb s TEXT)

abbrev bytes? : Row → Bool
bytes? [] = true
bytes? (s ∷ ss) = byte? s && bytes? ss

byte_kind : (s : ℕ) → byte? s ≡ true → KindOf names s
unfolding target targets bound caps
byte_kind s h = split_or (eqb s WORD) (leb KEY s && ltb s TEXT) h (λ e. rw (eqb-true s WORD e) (is_copied refl (λ b c. refl))) (λ e. far s (leb-true KEY s (and_split (leb KEY s) (ltb s TEXT) e).0))

byte_none : (s w : ℕ) (xs : Row) → byte? s ≡ true → more s w ≡ brings xs → xs ≡ []
unfolding more
byte_none s w xs h e = go (ltb s PAD) refl
  where
    go : (b : Bool) → ltb s PAD ≡ b → xs ≡ []
    go true q = cc (plain_more s w q)
    go false q =
        let l : PAD ≤ s = ltb-false s PAD q in
        split_or (eqb s WORD) (leb KEY s && ltb s TEXT) h (λ z. absurd (omega (arith, eqb-true s WORD z)))
        (λ z. padded (ltb w (256 ^ (s - PLACE))) (rw (q, (and_split (leb KEY s) (ltb s TEXT) z).1, more) at e))
      where
        padded : (b : Bool) → elim b [ true ↦ brings [] | false ↦ over ] ≡ brings xs → xs ≡ []
        padded true z = cc
        padded false z = let y : ◌≡◌ {A = ℕ} 0 1 = cc in absurd (omega arith)

lays_bytes : {ss : Row} {cs : Cells} → Lays ss cs → bytes? ss ≡ true → Kinds names cs
lays_bytes lays_none h = no_kinds
lays_bytes (lays_next {s} {w} {xs} {ss} e l) h =
    let a = and_split (byte? s) (bytes? ss) h in
    let n : xs ≡ [] = byte_none s w xs a.0 e in
    kinds (byte_kind s a.0) (lays_bytes l (rw n a.1))

words_bytes : (n : ℕ) (ss : Row) → bytes? ss ≡ true → bytes? (replicate n WORD ++ ss) ≡ true
words_bytes zero ss h = h
words_bytes (suc n) ss h = words_bytes n ss h

text_bytes : (w : ℕ) → bytes? (text w) ≡ true
unfolding text
text_bytes w = words_bytes (w / 4) (elim (eqb (w % 4) 0) [ true ↦ [] | false ↦ (PAD + w % 4 - 1) ∷ [] ]) (go (eqb (w % 4) 0))
  where
    go : (b : Bool) → bytes? (elim b [ true ↦ [] | false ↦ (PAD + w % 4 - 1) ∷ [] ]) ≡ true
    go true = refl
    go false = rw (ne_eqb (PAD + w % 4 - 1) WORD (λ e. omega arith), le-leb KEY (PAD + w % 4 - 1) (omega arith), lt-ltb (PAD + w % 4 - 1) TEXT (omega arith)) refl

name_kinds : {r : Cells} → Lays (TEXT ∷ []) r → Kinds names r
unfolding more target targets bound caps
name_kinds (lays_next {w} {xs} e l) = let n : text w ≡ xs = cc in kinds (is_copied refl (λ b c. refl)) (lays_bytes (rw append-nil at l) (rw n at (text_bytes w)))

-- ---- global expressions: the rows of the kinds that are allowed there
abbrev const_rows : List Row → ℕ → Bool
const_rows [] i = true
const_rows (r ∷ rs) i = elim (constant_kind i) [ true ↦ in_l (classes exprs) r | false ↦ true ] && const_rows rs (suc i)

const_row : (l : List Row) (i k n : ℕ) {r : Row} → const_rows l i ≡ true → get_elem? l k ≡ some r → n ≡ i + k → constant_kind n ≡ true → in_l (classes exprs) r ≡ true
const_row [] i k n h e q c = let z : ◌≡◌ {A = ℕ} 0 1 = cc in absurd (omega arith)
const_row (x ∷ l) i zero n {r} h e q c =
    let p : x ≡ r = cc in
    let m : n ≡ i = omega arith in
    let a = (and_split (elim (constant_kind i) [ true ↦ in_l (classes exprs) x | false ↦ true ]) (const_rows l (suc i)) h).0 in
    rw p at (rw (rw m at c) at a)
const_row (x ∷ l) i (suc k) n h e q c = const_row l (suc i) k n (and_split (elim (constant_kind i) [ true ↦ in_l (classes exprs) x | false ↦ true ]) (const_rows l (suc i)) h).1 e (omega arith) c

expr_kinds : {r : Cells} → Lays (EXPR_KIND ∷ []) r → constant_kind (kind r) ≡ true → Kinds exprs r
unfolding more variants target targets bound caps kind
expr_kinds (lays_next {w} {xs} e l) c =
    kinds (is_copied refl (λ b c. refl)) (lays_kinds exprs (rw append-nil at l) (const_row expressions 0 w w table-fine (variant_brings (get_elem? expressions w) e) (omega arith) c))
  where
    table-fine : const_rows expressions 0 ≡ true
    table-fine = unfold expressions constant_kind classes in refl

-- ---- the records of a table
unfoldable pub row_of : Tab → Row
row_of names = name_row
row_of types = type_row
row_of constants = constant_row
row_of overrides = override_row
row_of globals = global_row
row_of exprs = expression_row

pub record_kinds : (t : Tab) {r : Cells} → Lays (row_of t) r → (t ≡ exprs → constant_kind (kind r) ≡ true) → Kinds t r
unfolding row_of name_row type_row constant_row override_row global_row expression_row classes
record_kinds names l c = name_kinds l
record_kinds types l c = lays_kinds types l refl
record_kinds constants l c = lays_kinds constants l refl
record_kinds overrides l c = lays_kinds overrides l refl
record_kinds globals l c = lays_kinds globals l refl
record_kinds exprs l c = expr_kinds l (c refl)
