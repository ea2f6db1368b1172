-- THE CLASSES of what is made are bytes: the expressions of a function that the passes make are carried from those of its source, class by class, whatever the way to follow calls and the state; so is the head of an entry point. Assumes of the source only that it is laid out by the field table.
use Rattle.std.specs.Prelude.{ℕ, ◌<◌, ◌≡◌, refl, Bool, true, false, ◌&&◌, ◌||◌, List, [], ◌∷◌, eqb, ltb, leb, get_or}
use Rattle.std.proofs.Common.{arith, eqb-true, ltb-true}
use Rattle.theory_lists.specs.Booleans.{and_split}
use Rattle.model.specs.Outcome.{Cell, Cells, class, word}
use Rattle.model.specs.Table.{Row, UPTO, TYPE, CONSTANT, OVERRIDE, GLOBAL, FUNCTION, EXPR, OPT_EXPR, ARGUMENT, LOCAL, PAD, OPERANDS, EXPR_KIND, LEVEL, QUERY, expression_row, counted, entry_head}
use Rattle.model.specs.Tree.{Function, Entry, flat_all, flat_block}
use Rattle.model.specs.Module.{Module}
use Rattle.model.specs.Carry.{carry_cell, carry_cells, Lays, lays_none, lays_next, Each, each_none, each_next, WellFunction, WellEntry}
use Rattle.model.specs.References.{target, first_word, undefined_at, through, shift, alike, interned}
use Rattle.model.specs.Imports.{Derived}
use Rattle.model.specs.Bodies.{Builder, bring, mapped_to, carried, append_expr, intern_expr}
use Rattle.theory_image.specs.Plain.{plain?, plain_more}
use Rattle.theory_image.specs.Quiet.{each_append, each_map}
use Rattle.theory_image.specs.FunctionViews.{among, split_or, field?, Expression, expression, expression_shape}
use Rattle.theory_finish.specs.Cellwise.{each_first, each_rest, all-to}
use Rattle.theory_finish.proofs.Small.{at_row}
use Rattle.theory_passes.specs.Pass.{front, begin}
use Rattle.theory_passes.proofs.Growth.{Growing}
use Rattle.theory_passes.specs.Light.{still}
use Rattle.theory_passes.proofs.Light.{still_grow_front, still_grow_body}
use Rattle.function_nesting.specs.Nested.{declared_s, walked_s}

abbrev pub Byte : Cell → Type 0
Byte c = class c < 256

-- ---- by layout
field_byte : (s : ℕ) → field? s ≡ true → s < 256
unfolding field?
field_byte s h =
    split_or (ltb s PAD && (leb s UPTO || among s (TYPE ∷ CONSTANT ∷ OVERRIDE ∷ GLOBAL ∷ FUNCTION ∷ EXPR ∷ OPT_EXPR ∷ ARGUMENT ∷ LOCAL ∷ []))) (among s (OPERANDS ∷ LEVEL ∷ QUERY ∷ [])) h
    (λ a. let l = ltb-true s PAD (and_split (ltb s PAD) (leb s UPTO || among s (TYPE ∷ CONSTANT ∷ OVERRIDE ∷ GLOBAL ∷ FUNCTION ∷ EXPR ∷ OPT_EXPR ∷ ARGUMENT ∷ LOCAL ∷ [])) a).0 in omega arith)
    λ b.
    split_or (eqb s OPERANDS) (among s (LEVEL ∷ QUERY ∷ [])) b (λ c. let e = eqb-true s OPERANDS c in omega arith) λ c.
    split_or (eqb s LEVEL) (among s (QUERY ∷ [])) c (λ d. let e = eqb-true s LEVEL d in omega arith) λ d.
    split_or (eqb s QUERY) (among s []) d (λ x. let e = eqb-true s QUERY x in omega arith) λ x.
    let z : ◌≡◌ {A = ℕ} 0 1 = cc in absurd (omega arith)

expression_bytes : {r : Cells} → Lays expression_row r → Each Byte r
unfolding expression_row
expression_bytes l = go (expression_shape l)
  where
    go : {r : Cells} → Expression r → Each Byte r
    go (expression {k} h e l f) = each_next {a = (EXPR_KIND, k)} (omega arith) (each_map (λ c a. field_byte (class c) a) f)

plain_bytes : {ss : Row} {cs : Cells} → Lays ss cs → plain? ss ≡ true → Each Byte cs
unfolding plain?
plain_bytes lays_none h = each_none
plain_bytes (lays_next {s} {w} {xs} {ss} e l) h =
    let a = and_split (ltb s PAD) (plain? ss) h in
    let m = plain_more s w a.0 in
    let n : xs ≡ [] = cc in
    let b = ltb-true s PAD a.0 in
    each_next {a = (s, w)} (omega arith) (plain_bytes l (rw n a.1))

-- ---- carried: classes stay
carry_bytes : (m : ℕ → ℕ → ℕ) {r : Cells} → Each Byte r → Each Byte (carry_cells m r)
unfolding carry_cell
carry_bytes m each_none = each_none
carry_bytes m (each_next {a = c} h hs) = each_next {a = (c.0, m c.0 c.1)} h (carry_bytes m hs)

shift_bytes : {r : Cells} → Each Byte r → (o : ℕ) (u : Bool) → Each Byte (shift r o u)
unfolding shift
shift_bytes each_none o u = each_none
shift_bytes (each_next {a = c} {l = cs} h hs) o u = each_next h (shift_bytes hs o (undefined_at (target (class c)) (word c) (first_word cs) u))

pub carried_bytes : (o : ℕ) (M : Module) (m : Builder) {r : Cells} → Each Byte r → Each Byte (carried o M m r)
unfolding carried
carried_bytes o M m a = shift_bytes (carry_bytes (through (mapped_to M m)) a) o false

merged_bytes : (ds : List Cells) (r : Cells) → Each (Each Byte) ds → Each Byte r → Each (Each Byte) (interned ds r)
unfolding interned
merged_bytes [] r e h = each_next h each_none
merged_bytes (d ∷ ds) r e h = go (alike d r) (merged_bytes ds r (each_rest e) h)
  where
    go : (b : Bool) → Each (Each Byte) (interned ds r) → Each (Each Byte) (elim b [ true ↦ d ∷ ds | false ↦ d ∷ interned ds r ])
    go true i = e
    go false i = each_next (each_first e) i

-- ---- the passes
module _ (o : ℕ) (M : Module) (follow : ℕ → Derived → Derived) (xs : List Cells) (bytes : Each (Each Byte) xs) where
  pub record Stays (m m' : Builder) : Type 0 where
    pub stays : Each (Each Byte) m.made → Each (Each Byte) m'.made

  row : (e : ℕ) (m : Builder) → Each Byte (carried o M m (get_or xs e []))
  row e m = carried_bytes o M m (at_row bytes each_none e)

  staying : Growing o M follow xs Stays
  unfolding bring append_expr intern_expr
  staying = record {
    same = λ m. record { stays = λ a. a };
    next = λ a b c p q. record { stays = λ h. q.stays (p.stays h) };
    tables = λ t n m. record { stays = λ a. a };
    functions = λ f m. record { stays = λ a. a };
    appends = λ e m. record { stays = λ a. each_append a (each_next (row e m) each_none) };
    merges = λ e m. record { stays = λ a. merged_bytes m.made (carried o M m (get_or xs e [])) a (row e m) };
  }

source_bytes_lem : (F : Function) → WellFunction F → Each (Each Byte) F.exprs
unfolding counted expression_row
source_bytes_lem F w = each_map (λ r l. expression_bytes l) w.exprs_ok.each

-- LAW: the expressions made
pub made_bytes : (o : ℕ) (M : Module) (follow : ℕ → Derived → Derived) (F : Function) → WellFunction F → (s : Derived) → Each (λ c. class c < 256) (flat_all (walked_s o M follow F s).made)
unfolding walked_s declared_s begin
made_bytes o M follow F w s =
    let b = source_bytes_lem F w in
    let d = (still_grow_front o M still F.exprs (Stays o M still F.exprs b) (staying o M still F.exprs b) (front F) (begin F s)).stays each_none in
    all-to ((still_grow_body o M follow F.exprs (Stays o M follow F.exprs b) (staying o M follow F.exprs b) (flat_block F.body) (declared_s o M follow F s)).stays d)

-- LAW: the head of an entry point
pub head_bytes : (o : ℕ) (M : Module) (m : Builder) (E : Entry) → WellEntry E → Each (λ c. class c < 256) (carried o M m E.head)
unfolding entry_head plain?
head_bytes o M m E w = carried_bytes o M m (plain_bytes w.head_ok refl)
