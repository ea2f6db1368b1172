-- The pass over the named expressions of a section is the definition: marks show whether a number was named before, and they are cleared where the list of a function begins.
use mathlib.Core.Path.{◌≡◌, refl, sym, ap, ap₂, ◌∙◌}
use mathlib.Core.Bool.{Bool, true, false, ◌&&◌, not}
use mathlib.Core.List.{List, [], ◌∷◌, ◌++◌, map, append_assoc}
use Prim.Native.Nat.{ℕ, ◌<◌}
use native.Mathlib.Omega.{arith}
use lib.Dec.{eqb, ltb}
use lib.ListN.{length, get_or, set, length-set, length-replicate, get_or-replicate, get_or-eq_default}
use lib.Seq.{get_or-set_same, get_or-set_other}
use borrow.Author.Tests.{eqb-true, eqb-false, eq-eqb, ltb-true, ltb-false}
use Rattle.theory_lists.specs.Booleans.{and_assoc, and_right}
use Rattle.model.specs.Outcome.{Cell, Cells, class}
use Rattle.model.specs.Table.{NAME, NAMED-EXPR, EXPRESSIONS, NAMED, EXPR_KIND, counted, limit}
use Rattle.model.specs.Tree.{Function, Entry, flat, flat_entry, flat_all, flat_list, flat_block}
use Rattle.model.specs.Module.{flat_table}
use Rattle.model.specs.Carry.{Lays, Each, each_none, each_next, WellFunction, WellEntry}
use Rattle.model.specs.Names.{field, present, absent, distinct, expressions_named, functions_named, entries_named, Few}
use Rattle.theory_image.specs.FunctionViews.{Field, field_not, Expression, expression, expression_shape}
use Rattle.theory_image.specs.Quiet.{each_append, each_map, Quiet, quiet_named_expr, quiet-named, Plainly, plain-none, plain-next, named_shape, before-quiet, body-quiet, entry-quiet, places-quiet}
use Rattle.intake_names.specs.Passes.{unnamed, NONE, marking, Small}

-- ---- marks
unfoldable clear : List ℕ → List Bool → Bool
clear [] ms = true
clear (x ∷ xs) ms = not (get_or ms x false) && clear xs ms

-- rows one by one, as the pass reads them
unfoldable rows_ok : List Cells → List Bool → Bool
rows_ok [] ms = true
rows_ok (r ∷ rs) ms = not (get_or ms (field NAMED-EXPR r) false) && (not (eqb (field NAME r) 0) && rows_ok rs (set ms (field NAMED-EXPR r) true))

none-clear : (xs : List ℕ) → clear xs NONE ≡ true
unfolding clear
none-clear [] = refl
none-clear (x ∷ xs) = rw (not_at (ltb x 1024) refl) (none-clear xs)
  where
    not_at : (b : Bool) → ltb x 1024 ≡ b → get_or NONE x false ≡ false
    not_at true e = get_or-replicate 1024 x false false (ltb-true x 1024 e)
    not_at false e = get_or-eq_default NONE false {n = x} (rw (length-replicate 1024 false) (ltb-false x 1024 e))

-- one more mark
swap : (a b c d : Bool) → (a && b) && (c && d) ≡ (a && c) && (b && d)
swap true true c d = refl
swap true false true d = refl
swap true false false d = refl
swap false b c d = refl

mark-clear : (xs : List ℕ) (ms : List Bool) (e : ℕ) → e < length ms → clear xs (set ms e true) ≡ absent xs e && clear xs ms
unfolding clear absent
mark-clear [] ms e h = refl
mark-clear (x ∷ xs) ms e h = ap₂ ◌&&◌ (one (eqb e x) refl) (mark-clear xs ms e h) ∙ swap (not (eqb e x)) (not (get_or ms x false)) (absent xs e) (clear xs ms)
  where
    one : (b : Bool) → eqb e x ≡ b → not (get_or (set ms e true) x false) ≡ not (eqb e x) && not (get_or ms x false)
    one true q =
        let s : e ≡ x = eqb-true e x q in
        let z : get_or (set ms e true) x false ≡ true = ap (λ y. get_or (set ms e true) y false) (sym s) ∙ get_or-set_same ms e true false h in
        rw (q, z)
    one false q = rw (q, get_or-set_other ms e x true false λ s. eqb-false e x q (sym s))

shuffle : (c p q d a k : Bool) → c && (p && (q && (d && (a && k)))) ≡ (p && q) && ((a && d) && (c && k))
shuffle true true true true a k = ap (◌&& k) (same_and a)
  where
    same_and : (a : Bool) → a ≡ a && true
    same_and true = refl
    same_and false = refl
shuffle true true true false true k = refl
shuffle true true true false false k = refl
shuffle true true false d a k = refl
shuffle true false q d a k = refl
shuffle false true true true true k = refl
shuffle false true true false true k = refl
shuffle false true true d false k = refl
shuffle false true false d a k = refl
shuffle false false q d a k = refl

rows_are : {rs : List Cells} → Each (λ r. field NAMED-EXPR r < 1024) rs → (ms : List Bool) → length ms ≡ 1024
    → rows_ok rs ms ≡ present (map (field NAME) rs) && (distinct (map (field NAMED-EXPR) rs) && clear (map (field NAMED-EXPR) rs) ms)
unfolding rows_ok present distinct clear
rows_are each_none ms l = refl
rows_are (each_next {a = r} {l = rs} h hs) ms l =
    let e = field NAMED-EXPR r in
    let xs = map (field NAMED-EXPR) rs in
    ap (λ b. not (get_or ms e false) && (not (eqb (field NAME r) 0) && b)) (rows_are hs (set ms e true) (length-set ms e true ∙ l))
    ∙ ap (λ b. not (get_or ms e false) && (not (eqb (field NAME r) 0) && (present (map (field NAME) rs) && (distinct xs && b)))) (mark-clear xs ms e (omega arith))
    ∙ shuffle (not (get_or ms e false)) (not (eqb (field NAME r) 0)) (present (map (field NAME) rs)) (distinct xs) (absent xs e) (clear xs ms)

function-rows : (f : Function) → Few f → rows_ok f.named NONE ≡ expressions_named f
unfolding expressions_named limit
function-rows f h =
    rows_are h NONE (length-replicate 1024 false)
    ∙ ap (λ b. present (map (field NAME) f.named) && (distinct (map (field NAMED-EXPR) f.named) && b)) (none-clear (map (field NAMED-EXPR) f.named))
    ∙ ap (present (map (field NAME) f.named) &&◌) (and_right (distinct (map (field NAMED-EXPR) f.named)))

-- ---- runs of cells: what they say, and what comes after them with some marks and another class before it
pub record Onward (cs : Cells) (says : Bool) (b : ℕ) (ms : List Bool) (rest : Cells) : Type 0 where
  pub last : ℕ
  pub marks : List Bool
  pub calm : eqb last NAMED-EXPR ≡ false
  pub is : marking (cs ++ rest) b ms ≡ says && marking rest last marks

onward_append : {cs ds : Cells} {x y : Bool} {b : ℕ} {ms : List Bool} {rest : Cells} (o : Onward cs x b ms (ds ++ rest)) → Onward ds y o.last o.marks rest → Onward (cs ++ ds) (x && y) b ms rest
onward_append {cs} {ds} {x} {y} {rest} o p =
    record {
      last = p.last;
      marks = p.marks;
      calm = p.calm;
      is = rw (append_assoc cs ds rest) (o.is ∙ ap (x &&◌) p.is ∙ sym (and_assoc x y (marking rest p.last p.marks)));
    }

-- cells that are neither the list nor a named number
pub record Calm (c : Cell) : Type 0 where
  pub no_list : eqb (class c) NAMED ≡ false
  pub no_number : eqb (class c) NAMED-EXPR ≡ false

quiet_calm : (c : Cell) → Quiet c → Calm c
quiet_calm c q = record { no_list = quiet-named q; no_number = quiet_named_expr q }

calm-cell : (c : Cell) (cs : Cells) (b : ℕ) (ms : List Bool) → Calm c → eqb b NAMED-EXPR ≡ false → marking (c ∷ cs) b ms ≡ marking cs (class c) ms
unfolding marking unnamed
calm-cell c cs b ms k e = rw (e, k.no_list, k.no_number)

calm-on : {cs : Cells} → Each Calm cs → (b : ℕ) (ms : List Bool) (rest : Cells) → eqb b NAMED-EXPR ≡ false → Onward cs true b ms rest
calm-on each_none b ms rest e = record { last = b; marks = ms; calm = e; is = refl }
calm-on (each_next {a = c} {l = cs} k ks) b ms rest e =
    let o = calm-on ks (class c) ms rest k.no_number in
    record { last = o.last; marks = o.marks; calm = o.calm; is = calm-cell c (cs ++ rest) b ms k e ∙ o.is }

quiet-on : {cs : Cells} → Each Quiet cs → (b : ℕ) (ms : List Bool) (rest : Cells) → eqb b NAMED-EXPR ≡ false → Onward cs true b ms rest
quiet-on q = calm-on (each_map quiet_calm q)

-- ---- expressions
field-calm : (c : Cell) → Field c → Calm c
field-calm c h = record { no_list = field_not (class c) NAMED h refl; no_number = field_not (class c) NAMED-EXPR h refl }

expression_calm : {r : Cells} → Expression r → Each Calm r
expression_calm (expression h g l q) = each_next (record { no_list = refl; no_number = refl }) (each_map field-calm q)

exprs_calm : {xs : List Cells} → Each (Lays (EXPR_KIND ∷ [])) xs → Each Calm (flat_all xs)
unfolding flat_all
exprs_calm each_none = each_none
exprs_calm (each_next l ls) = each_append (expression_calm (expression_shape l)) (exprs_calm ls)

list_calm : {xs : List Cells} → Each (Lays (counted EXPRESSIONS)) xs → Each Calm (flat_list EXPRESSIONS xs)
unfolding flat_list counted
list_calm l = each_next (record { no_list = refl; no_number = refl }) (exprs_calm l)

-- ---- named expressions
never : (a : Bool) → not (a && false) ≡ true
never true = refl
never false = refl

row_on : {r : Cells} → Plainly (NAMED-EXPR ∷ NAME ∷ []) r → (b : ℕ) (ms : List Bool) (rest : Cells)
    → marking (r ++ rest) b ms ≡ not (get_or ms (field NAMED-EXPR r) false) && (not (eqb (field NAME r) 0) && marking rest NAME (set ms (field NAMED-EXPR r) true))
unfolding marking unnamed field
row_on (plain-next {w = e} (plain-next {w = n} plain-none)) b ms rest = ap (◌&& (not (get_or ms e false) && (not (eqb n 0) && marking rest NAME (set ms e true)))) (never (eqb b NAMED-EXPR))

rows_on : {rs : List Cells} → Each (Lays (counted NAMED)) rs → (b : ℕ) (ms : List Bool) (rest : Cells) → eqb b NAMED-EXPR ≡ false → Onward (flat_all rs) (rows_ok rs ms) b ms rest
unfolding flat_all rows_ok
rows_on each_none b ms rest e = record { last = b; marks = ms; calm = e; is = refl }
rows_on (each_next {a = r} {l = rs} l ls) b ms rest e =
    let o = rows_on ls NAME (set ms (field NAMED-EXPR r) true) rest refl in
    let x = not (get_or ms (field NAMED-EXPR r) false) in
    let y = not (eqb (field NAME r) 0) in
    let z = rows_ok rs (set ms (field NAMED-EXPR r) true) in
    let w = marking rest o.last o.marks in
    record {
      last = o.last;
      marks = o.marks;
      calm = o.calm;
      is = rw (append_assoc r (flat_all rs) rest) (row_on (named_shape l) b ms (flat_all rs ++ rest) ∙ ap (λ q. x && (y && q)) o.is ∙ ap (x &&◌) (sym (and_assoc y z w)) ∙ sym (and_assoc x (y && z) w));
    }

named-on : {rs : List Cells} → Each (Lays (counted NAMED)) rs → (b : ℕ) (ms : List Bool) (rest : Cells) → Onward (flat_list NAMED rs) (rows_ok rs NONE) b ms rest
unfolding flat_list marking unnamed
named-on {rs} l b ms rest =
    let o = rows_on l NAMED NONE rest refl in
    record { last = o.last; marks = o.marks; calm = o.calm; is = ap (◌&& marking (flat_all rs ++ rest) NAMED NONE) (never (eqb b NAMED-EXPR)) ∙ o.is }

-- ---- functions
function-on : {f : Function} → WellFunction f → Few f → (b : ℕ) (ms : List Bool) (rest : Cells) → eqb b NAMED-EXPR ≡ false → Onward (flat f) (expressions_named f) b ms rest
unfolding flat
function-on {f} w h b ms rest e =
    let E = flat_list EXPRESSIONS f.exprs in
    let N = flat_list NAMED f.named in
    let B = flat_block f.body in
    let o₁ = quiet-on (before-quiet w) b ms (E ++ (N ++ (B ++ rest))) e in
    let o₂ = calm-on (list_calm w.exprs_ok.each) o₁.last o₁.marks (N ++ (B ++ rest)) o₁.calm in
    let o₃ = onward_append o₁ o₂ in
    let o₄ = named-on w.named_ok.each o₃.last o₃.marks (B ++ rest) in
    let o₅ = onward_append o₃ o₄ in
    let o₆ = quiet-on (body-quiet w) o₅.last o₅.marks rest o₅.calm in
    let o₇ = onward_append o₅ o₆ in
    let q : rows_ok f.named NONE && true ≡ expressions_named f = and_right (rows_ok f.named NONE) ∙ function-rows f h in
    rw q at o₇

functions_pass : {fs : List Function} → Each WellFunction fs → Each Few fs → (b : ℕ) (ms : List Bool) → eqb b NAMED-EXPR ≡ false → marking (flat_all (map flat fs)) b ms ≡ functions_named fs
unfolding flat_all functions_named marking
functions_pass each_none each_none b ms e = refl
functions_pass (each_next {a = f} {l = fs} w ws) (each_next h hs) b ms e =
    let o = function-on w h b ms (flat_all (map flat fs)) e in
    o.is ∙ ap (expressions_named f &&◌) (functions_pass ws hs o.last o.marks o.calm)

entry-on : {p : Entry} → WellEntry p → Few p.function → (b : ℕ) (ms : List Bool) (rest : Cells) → eqb b NAMED-EXPR ≡ false → Onward (flat_entry p) (expressions_named p.function) b ms rest
unfolding flat_entry
entry-on {p} w h b ms rest e =
    let o = quiet-on (entry-quiet w) b ms (flat p.function ++ rest) e in
    onward_append o (function-on w.function-ok h o.last o.marks rest o.calm)

entries_pass : {ps : List Entry} → Each WellEntry ps → Each (λ p. Few p.function) ps → (b : ℕ) (ms : List Bool) → eqb b NAMED-EXPR ≡ false → marking (flat_all (map flat_entry ps)) b ms ≡ entries_named ps
unfolding flat_all entries_named marking
entries_pass each_none each_none b ms e = refl
entries_pass (each_next {a = p} {l = ps} w ws) (each_next h hs) b ms e =
    let o = entry-on w h b ms (flat_all (map flat_entry ps)) e in
    o.is ∙ ap (expressions_named p.function &&◌) (entries_pass ws hs o.last o.marks o.calm)

-- the sections, after their offsets
pub functions_are : {fs : List Function} → Each WellFunction fs → Each Few fs → marking (flat_table (map flat fs)) 0 NONE ≡ functions_named fs
unfolding flat_table
functions_are {fs} w h =
    let rs = map flat fs in
    let o = quiet-on (places-quiet rs (length rs)) 0 NONE (flat_all rs) refl in
    o.is ∙ functions_pass w h o.last o.marks o.calm

pub entries_are : {ps : List Entry} → Each WellEntry ps → Each (λ p. Few p.function) ps → marking (flat_table (map flat_entry ps)) 0 NONE ≡ entries_named ps
unfolding flat_table
entries_are {ps} w h =
    let rs = map flat_entry ps in
    let o = quiet-on (places-quiet rs (length rs)) 0 NONE (flat_all rs) refl in
    o.is ∙ entries_pass w h o.last o.marks o.calm

-- ---- every named number has a mark
other_small : (c : Cell) → eqb (class c) NAMED-EXPR ≡ false → Small c
other_small c k = record { small = λ e. let z : true ≡ false = sym (eq-eqb (class c) NAMED-EXPR e) ∙ k in let y : ◌≡◌ {A = ℕ} 0 1 = cc in absurd (omega arith) }

calm_small : (c : Cell) → Calm c → Small c
calm_small c k = other_small c k.no_number

row_small : {r : Cells} → Plainly (NAMED-EXPR ∷ NAME ∷ []) r → field NAMED-EXPR r < 1024 → Each Small r
unfolding field
row_small (plain-next (plain-next {w = n} plain-none)) h = each_next (record { small = λ e. h }) (each_next (other_small (NAME, n) refl) each_none)

rows_small : {rs : List Cells} → Each (Lays (counted NAMED)) rs → Each (λ r. field NAMED-EXPR r < 1024) rs → Each Small (flat_all rs)
unfolding flat_all
rows_small each_none each_none = each_none
rows_small (each_next l ls) (each_next h hs) = each_append (row_small (named_shape l) h) (rows_small ls hs)

function_small : {f : Function} → WellFunction f → Few f → Each Small (flat f)
unfolding flat flat_list limit
function_small {f} w h =
    each_append
    (each_append (each_append (each_map (λ c q. calm_small c (quiet_calm c q)) (before-quiet w)) (each_map calm_small (list_calm w.exprs_ok.each)))
    (each_next (other_small (NAMED, length f.named) refl) (rows_small w.named_ok.each h)))
    (each_map (λ c q. calm_small c (quiet_calm c q)) (body-quiet w))

all_functions_small : {fs : List Function} → Each WellFunction fs → Each Few fs → Each Small (flat_all (map flat fs))
unfolding flat_all
all_functions_small each_none each_none = each_none
all_functions_small (each_next w ws) (each_next h hs) = each_append (function_small w h) (all_functions_small ws hs)

all_entries_small : {ps : List Entry} → Each WellEntry ps → Each (λ p. Few p.function) ps → Each Small (flat_all (map flat_entry ps))
unfolding flat_all flat_entry
all_entries_small each_none each_none = each_none
all_entries_small (each_next w ws) (each_next h hs) =
    each_append (each_append (each_map (λ c q. calm_small c (quiet_calm c q)) (entry-quiet w)) (function_small w.function-ok h)) (all_entries_small ws hs)

pub functions_small : {fs : List Function} → Each WellFunction fs → Each Few fs → Each Small (flat_table (map flat fs))
unfolding flat_table
functions_small {fs} w h = each_append (each_map (λ c q. calm_small c (quiet_calm c q)) (places-quiet (map flat fs) (length (map flat fs)))) (all_functions_small w h)

pub entries_small : {ps : List Entry} → Each WellEntry ps → Each (λ p. Few p.function) ps → Each Small (flat_table (map flat_entry ps))
unfolding flat_table
entries_small {ps} w h = each_append (each_map (λ c q. calm_small c (quiet_calm c q)) (places-quiet (map flat_entry ps) (length (map flat_entry ps)))) (all_entries_small w h)

-- ---- what refusal 3 tests, that a named number is below the count of the function's expressions, is enough
pub named_few : {f : Function} → WellFunction f → Each (λ r. field NAMED-EXPR r < length f.exprs) f.named → Few f
named_few {f} w h = each_map (λ r l. omega (arith, w.exprs_ok.few)) h
