-- What the layout leaves of the cells that a pass meets: the classes of effects, of a case's value and of declarations; and the code of an atomic function that is read ahead is the statement's own.
use Rattle.std.specs.Prelude.{ℕ, zero, suc, ◌+◌, Bool, true, ◌&&◌, ◌||◌, eqb, ltb}
use Rattle.std.proofs.Math.Path.{◌≡◌, refl, ap}
use Rattle.std.proofs.Common.{sym, ⊎_elim, arith, eqb-true, ltb-true, ne_eqb}
use Rattle.std.proofs.Math.Bool.{false}
use Rattle.std.proofs.lemmas.Bool.{false≢true}
use mathlib.Core.List.{List, [], ◌∷◌, ◌++◌, append-nil}
use Rattle.std.proofs.Math.Option.{some}
use Rattle.std.proofs.Math.ListN.{get_elem?}
use Rattle.theory_lists.specs.Booleans.{and_split, or_cases}
use Rattle.model.specs.Outcome.{Cells, class, word}
use Rattle.model.specs.Table.{Row, WORD, SPAN, UPTO, NAME, TYPE, EXPR, OPT_EXPR, OPT_RESULT, LOCAL-INIT, PAD, ARGUMENTS, LOCALS, VALUE, ATOMIC, RETURNS, Shape, s_emit, s_block, s_if, s_switch, s_loop, s_break, s_continue, s_return, s_kill, s_call, s_effect, statements, function_head, counted, values, results, binding, variants, more}
use Rattle.model.specs.Carry.{carry_cell, carry_cells, Lays, lays_none, lays_next, Each, each_none, each_next}
use Rattle.model.specs.References.{Place, targets, target, through, first_word, shift}
use Rattle.model.specs.Module.{Module}
use Rattle.model.specs.Imports.{Derived}
use Rattle.model.specs.Bodies.{Builder, compare_of, compares_of, each_e}
use Rattle.theory_image.specs.Plain.{plain?, plain_more}
use Rattle.theory_image.specs.Quiet.{Plainly, plain-none, plain-next, plainly}
use Rattle.theory_image.specs.FunctionViews.{variant_brings}
use Rattle.theory_bodies.specs.Classes.{Effects, e-none, e-last, e-more, effect_cells, result_cells}
use Rattle.theory_passes.specs.Pass.{atomic_kind, early}
use Rattle.theory_passes.specs.Passage.{Calm, still?, calm?, calm_of, Fields, f-none, f_span, f-cell}
use Rattle.theory_passes.specs.Forms.{Copies}

-- ---- calm cells
abbrev pub Calms : Cells → Type 0
Calms [] = Unit {0}
Calms (c ∷ cs) = (calm? (class c) ≡ true) × Calms cs

pub calm-fields : (cs : Cells) → Calms cs → Fields cs
calm-fields [] a = f-none
calm-fields (c ∷ cs) a = f-cell (calm_of (class c) a.0) (calm-fields cs a.1)

-- no span is moved
pub calm-shift : (f : Place → ℕ → ℕ) (cs : Cells) → Calms cs → (o : ℕ) (u : Bool) → shift (carry_cells (through f) cs) o u ≡ carry_cells (through f) cs
unfolding shift carry_cell
calm-shift f [] a o u = refl
calm-shift f (c ∷ cs) a o u =
    let k = calm_of (class c) a.0 in
    let x : ℕ = through f (class c) (word c) in
    rw (k.flag x (first_word (carry_cells (through f) cs)) u, k.stays x o u, calm-shift f cs a.1 o u)

pub effect_calm : {cs : Cells} → Effects cs → Calms cs
unfolding calm? still? target targets
effect_calm e-none = tt
effect_calm (e-last {s} h) = (result_cells (λ s. calm? s ≡ true) refl refl s h, tt)
effect_calm (e-more {s} h e) = (effect_cells (λ s. calm? s ≡ true) refl refl refl refl s h, effect_calm e)

-- ---- the value of a case is copied
pub value_copies : {v : Cells} → Lays (VALUE ∷ []) v → Copies v
unfolding more variants
value_copies (lays_next {w} {xs} {cs} e l) = (unfold calm? still? target targets in refl, unfold target targets in refl, go w (variant_brings (get_elem? values w) e) (rw append-nil at l))
  where
    laid : {cs : Cells} → Plainly (WORD ∷ []) cs → Copies cs
    laid (plain-next plain-none) = unfold calm? still? target targets in (refl, refl, tt)

    empty : {cs : Cells} → Lays [] cs → Copies cs
    empty lays_none = tt

    go : (w : ℕ) {xs : Row} {cs : Cells} → get_elem? values w ≡ some xs → Lays xs cs → Copies cs
    go zero {xs} e l = let n : xs ≡ WORD ∷ [] = (unfold values in cc) in laid (plainly (rw n at l) (unfold plain? in refl))
    go (suc zero) {xs} e l = let n : xs ≡ WORD ∷ [] = (unfold values in cc) in laid (plainly (rw n at l) (unfold plain? in refl))
    go (suc (suc zero)) {xs} e l = let n : xs ≡ [] = (unfold values in cc) in empty (rw n at l)
    go (suc (suc (suc k))) e l = let z : ◌≡◌ {A = ℕ} 0 1 = (unfold values in cc) in absurd (omega arith)

-- ---- an effect's compare
-- the code of an atomic function, with a cell after it
unfoldable some? : Cells → Bool
some? [] = false
some? (c ∷ cs) = true

unfoldable held? : Cells → Bool
held? [] = false
held? (c ∷ cs) = elim (eqb (class c) ATOMIC) [ true ↦ some? cs | false ↦ held? cs ]

held_compares : (cs ts : Cells) → held? cs ≡ true → compares_of (cs ++ ts) ≡ compares_of cs
unfolding held? compares_of
held_compares [] ts h = absurd (false≢true h)
held_compares (c ∷ cs) ts h = go (eqb (class c) ATOMIC) h (held_compares cs ts)
  where
    behind : (cs : Cells) → some? cs ≡ true → compare_of (cs ++ ts) ≡ compare_of cs
    behind [] h = unfold some? in absurd (false≢true h)
    behind (d ∷ ds) h = unfold compare_of in refl

    go : (b : Bool) → elim b [ true ↦ some? cs | false ↦ held? cs ] ≡ true → (held? cs ≡ true → compares_of (cs ++ ts) ≡ compares_of cs)
        → ◌≡◌ {A = List ℕ} (elim b [ true ↦ compare_of (cs ++ ts) | false ↦ compares_of (cs ++ ts) ]) (elim b [ true ↦ compare_of cs | false ↦ compares_of cs ])
    go true h f = behind cs h
    go false h f = f h

-- a row of plain symbols has none
plain_compares : {ss : Row} {cs : Cells} → Plainly ss cs → plain? ss ≡ true → compares_of cs ≡ []
unfolding plain? compares_of
plain_compares plain-none h = refl
plain_compares (plain-next {s} {w} {ss} {cs} l) h =
    let a = and_split (ltb s PAD) (plain? ss) h in
    rw (ne_eqb s ATOMIC (λ q. omega (arith, ltb-true s PAD a.0)), compares_of) (plain_compares l a.1)

-- the rows of effects that are not atomic are plain
abbrev shape? : ℕ → Shape → Bool
shape? k s_emit = true
shape? k s_block = true
shape? k s_if = true
shape? k s_switch = true
shape? k s_loop = true
shape? k s_break = true
shape? k s_continue = true
shape? k s_return = true
shape? k s_kill = true
shape? k s_call = true
shape? k (s_effect ss) = atomic_kind k || plain? ss

abbrev shapes? : List Shape → ℕ → Bool
shapes? [] k = true
shapes? (x ∷ xs) k = shape? k x && shapes? xs (suc k)

shape_at : (l : List Shape) (i k : ℕ) {x : Shape} → shapes? l i ≡ true → get_elem? l k ≡ some x → shape? (i + k) x ≡ true
shape_at [] i k h e = let z : ◌≡◌ {A = ℕ} 0 1 = cc in absurd (omega arith)
shape_at (y ∷ l) i zero {x} h e = let q : y ≡ x = cc in let z : i + 0 ≡ i = omega arith in rw (z, ← q) (and_split (shape? i y) (shapes? l (suc i)) h).0
shape_at (y ∷ l) i (suc k) h e = let z : i + suc k ≡ suc i + k = omega arith in rw z (shape_at l (suc i) k (and_split (shape? i y) (shapes? l (suc i)) h).1 e)

statements-fine : shapes? statements 0 ≡ true
unfolding statements atomic_kind plain?
statements-fine = refl

effect_plain : (k : ℕ) {ss : Row} → atomic_kind k ≡ false → get_elem? statements k ≡ some (s_effect ss) → plain? ss ≡ true
effect_plain k {ss} h e = let z : 0 + k ≡ k = omega arith in go (atomic_kind k) h (rw z at (shape_at statements 0 k statements-fine e))
  where
    go : (b : Bool) → b ≡ false → b || plain? ss ≡ true → plain? ss ≡ true
    go true h q = absurd (false≢true (sym h))
    go false h q = q

-- the rows of those that are
nonempty : (s : ℕ) (ss xs : Row) {cs : Cells} → Lays (xs ++ (s ∷ ss)) cs → some? cs ≡ true
unfolding some?
nonempty s ss [] (lays_next e l) = refl
nonempty s ss (x ∷ xs) (lays_next e l) = refl

atomic-held : {ss : Row} {cs : Cells} → Lays (ATOMIC ∷ EXPR ∷ ss) cs → held? cs ≡ true
unfolding held?
atomic-held {ss} (lays_next {xs} e l) = nonempty EXPR ss xs l

next-held : (s : ℕ) {ss : Row} {cs : Cells} → ltb s PAD ≡ true → Lays (s ∷ ss) cs → ((ds : Cells) → Lays ss ds → held? ds ≡ true) → held? cs ≡ true
unfolding held?
next-held s {ss} h (lays_next {w} {xs} {cs} e l) f =
    let m = plain_more s w h in
    let n : xs ≡ [] = cc in
    rw (ne_eqb s ATOMIC (λ q. omega (arith, ltb-true s PAD h)), held?) (f cs (rw n at l))

held_13 : {cs : Cells} → Lays (EXPR ∷ ATOMIC ∷ EXPR ∷ OPT_RESULT ∷ []) cs → held? cs ≡ true
held_13 l = next-held EXPR refl l (λ d l. atomic-held l)

held_16 : {cs : Cells} → Lays (EXPR ∷ EXPR ∷ OPT_EXPR ∷ ATOMIC ∷ EXPR ∷ []) cs → held? cs ≡ true
held_16 l = next-held EXPR refl l (λ d l. next-held EXPR refl l (λ d l. next-held OPT_EXPR refl l (λ d l. atomic-held l)))

effect_held : (k : ℕ) {ss : Row} {cs : Cells} → atomic_kind k ≡ true → get_elem? statements k ≡ some (s_effect ss) → Lays ss cs → held? cs ≡ true
unfolding atomic_kind
effect_held k {ss} {cs} h e l = ⊎_elim (λ q. at13 (rw (eqb-true k 13 q) at e)) (λ q. at16 (rw (eqb-true k 16 q) at e)) (or_cases (eqb k 13) _ h)
  where
    at13 : get_elem? statements 13 ≡ some (s_effect ss) → held? cs ≡ true
    at13 e = let n : ss ≡ EXPR ∷ ATOMIC ∷ EXPR ∷ OPT_RESULT ∷ [] = (unfold statements in cc) in held_13 (rw n at l)

    at16 : get_elem? statements 16 ≡ some (s_effect ss) → held? cs ≡ true
    at16 e = let n : ss ≡ EXPR ∷ EXPR ∷ OPT_EXPR ∷ ATOMIC ∷ EXPR ∷ [] = (unfold statements in cc) in held_16 (rw n at l)

-- WHAT IS READ AHEAD at an effect's kind is its own compare
pub effect_early : (o : ℕ) (M : Module) (follow : ℕ → Derived → Derived) (p q : ℕ → Builder → Builder) (k : ℕ) {ss : Row} {cs : Cells} → get_elem? statements k ≡ some (s_effect ss) → Lays ss cs
    → (a b : ℕ) (ts : Cells) (st : Builder) → early o M follow p q k ((SPAN, a) ∷ (UPTO, b) ∷ (cs ++ ts)) st ≡ each_e (compares_of cs) p st
unfolding early
effect_early o M follow p q k {ss} {cs} e l a b ts st = go (atomic_kind k) refl
  where
    go : (x : Bool) → atomic_kind k ≡ x → elim x [ true ↦ each_e (compares_of ((SPAN, a) ∷ (UPTO, b) ∷ (cs ++ ts))) p st | false ↦ st ] ≡ each_e (compares_of cs) p st
    go true h = ap (λ (es : List ℕ). each_e es p st) (unfold compares_of in held_compares cs ts (effect_held k h e l))
    go false h = let z = effect_plain k h e in unfold each_e in ap (λ (es : List ℕ). each_e es p st) (sym (plain_compares (plainly l z) z))

-- ---- declarations
name_calm : Calm NAME
name_calm = calm_of NAME (unfold calm? still? target targets in refl)

type_calm : Calm TYPE
type_calm = calm_of TYPE (unfold calm? still? target targets in refl)

word-calm : Calm WORD
word-calm = calm_of WORD (unfold calm? still? target targets in refl)

bind : {cs : Cells} → Plainly (binding []) cs → Fields cs
bind (plain-next (plain-next (plain-next (plain-next (plain-next (plain-next plain-none)))))) = f-cell word-calm (f-cell word-calm (f-cell word-calm (f-cell word-calm (f-cell word-calm (f-cell word-calm f-none)))))

pub head_fields : {r : Cells} → Lays function_head r → Fields r
unfolding function_head
head_fields l = go (plainly l (unfold plain? in refl))
  where
    go : {r : Cells} → Plainly (NAME ∷ SPAN ∷ UPTO ∷ []) r → Fields r
    go (plain-next (plain-next (plain-next plain-none))) = f-cell name_calm (f_span f-none)

pub argument-fields : {r : Cells} → Lays (counted ARGUMENTS) r → Fields r
unfolding counted
argument-fields l = go (plainly l (unfold plain? in refl))
  where
    go : {r : Cells} → Plainly (NAME ∷ TYPE ∷ binding []) r → Fields r
    go (plain-next (plain-next b)) = f-cell name_calm (f-cell type_calm (bind b))

pub local-fields : {r : Cells} → Lays (counted LOCALS) r → Fields r
unfolding counted
local-fields l = go (plainly l (unfold plain? in refl))
  where
    go : {r : Cells} → Plainly (SPAN ∷ UPTO ∷ NAME ∷ TYPE ∷ LOCAL-INIT ∷ []) r → Fields r
    go (plain-next (plain-next (plain-next (plain-next (plain-next plain-none))))) = f_span (f-cell name_calm (f-cell type_calm (f-cell (calm_of LOCAL-INIT (unfold calm? still? target targets in refl)) f-none)))

pub result_fields : {r : Cells} → Lays (RETURNS ∷ []) r → Fields r
unfolding more variants
result_fields (lays_next {w} {xs} {cs} e l) = f-cell (calm_of RETURNS (unfold calm? still? target targets in refl)) (go w (variant_brings (get_elem? results w) e) (rw append-nil at l))
  where
    typed : {cs : Cells} → Plainly (TYPE ∷ binding []) cs → Fields cs
    typed (plain-next b) = f-cell type_calm (bind b)

    empty : {cs : Cells} → Lays [] cs → Fields cs
    empty lays_none = f-none

    go : (w : ℕ) {xs : Row} {cs : Cells} → get_elem? results w ≡ some xs → Lays xs cs → Fields cs
    go zero {xs} e l = let n : xs ≡ [] = (unfold results in cc) in empty (rw n at l)
    go (suc zero) {xs} e l = let n : xs ≡ TYPE ∷ binding [] = (unfold results in cc) in typed (plainly (rw n at l) (unfold plain? in refl))
    go (suc (suc k)) e l = let z : ◌≡◌ {A = ℕ} 0 1 = (unfold results in cc) in absurd (omega arith)

pub each_fields : {ss : Row} {rs : List Cells} → ((r : Cells) → Lays ss r → Fields r) → Each (Lays ss) rs → Each Fields rs
each_fields f each_none = each_none
each_fields f (each_next {a = r} l ls) = each_next (f r l) (each_fields f ls)
