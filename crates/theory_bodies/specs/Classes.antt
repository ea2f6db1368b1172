-- Which classes are in the records of a function, from their layout: so the expressions among the references of an expression are its operands, those of an effect its operands and its result, those of the declarations the initialisers; and a standing expression or a result has no operands.
use Rattle.std.specs.Prelude.{◌≡◌, Bool, ◌&&◌, ◌||◌, ◌⊎◌, ℕ, zero, suc, ◌+◌, ◌≤◌, eqb}
use Rattle.std.proofs.Math.Path.{refl}
use Rattle.std.proofs.Common.{sym, ap, ◌∙◌, subst, inl, inr, arith, eqb-true}
use Rattle.std.proofs.Math.Bool.{true, false}
use Rattle.std.proofs.lemmas.Bool.{false≢true}
use mathlib.Core.List.{List, [], ◌∷◌, ◌++◌, append-nil}
use Rattle.std.proofs.Math.Option.{some}
use Rattle.std.proofs.Math.ListN.{get_elem?}
use Rattle.theory_lists.specs.Booleans.{and-true, and_split}
use Rattle.model.specs.Outcome.{Cells, class, word}
use Rattle.model.specs.Table.{Row, WORD, SPAN, UPTO, NAME, TYPE, CONSTANT, OVERRIDE, GLOBAL, FUNCTION, CALLEE, EXPR, OPT_EXPR, ARGUMENT, LOCAL, FROM, TO, RESULT, OPT_RESULT, LOCAL-INIT, OPERANDS, ARGUMENTS, LOCALS, EXPR_KIND, LEVEL, QUERY, ATOMIC, RETURNS, VALUE, KEY, values, Shape, s_emit, s_block, s_if, s_switch, s_loop, s_break, s_continue, s_return, s_kill, s_call, s_effect, expressions, levels, queries, atomics, results, statements, expression_row, function_head, counted, variants, repeat, brings, more}
use Rattle.model.specs.Tree.{opt_of, flat_all}
use Rattle.model.specs.Carry.{Lays, lays_none, lays_next, Each, each_none, each_next}
use Rattle.model.specs.References.{targets, target, Node, ref_of, refs}
use Rattle.model.specs.Operands.{optional, operand, ops_of, result_of, function_of, kind, standing_kind, result_kind}
use Rattle.model.specs.Initial.{Mem, here, there, roots, inits_of}
use Rattle.model.specs.Scope.{evals_opt, is_of}
use Rattle.model.specs.Bodies.{compare_of, compares_of}
use Rattle.theory_records.specs.Kinds.{in_l, in_append, in_repeat, rows_in, row_at, Brings, plain_in}
use Rattle.theory_image.specs.Plain.{plain?, plain_more}
use Rattle.theory_image.specs.Quiet.{Plainly, plain-none, plain-next, plainly}
use Rattle.theory_image.specs.FunctionViews.{among, split_or, variant_brings, Expression, expression, expression_shape}
use Rattle.theory_finish.specs.Classes.{Not}
use Rattle.theory_finish.specs.Called.{fun_call, FunsOk, no_funs_lem}
use Rattle.theory_bodies.specs.Lists.{All}
use Rattle.theory_bodies.specs.Context.{own_of, owns}
use Rattle.theory_bodies.specs.Carried.{Nameless, Free}

-- ---- cells whose classes are listed
abbrev pub InC : List ℕ → Cells → Type 0
InC ls [] = Unit {0}
InC ls (c ∷ cs) = (among (class c) ls ≡ true) × InC ls cs

pub among_elim : (P : ℕ → Type 0) (ls : List ℕ) → All P ls → (s : ℕ) → among s ls ≡ true → P s
among_elim P [] a s h = let z : ◌≡◌ {A = ℕ} 0 1 = cc in absurd (omega arith)
among_elim P (x ∷ xs) a s h = split_or (eqb s x) (among s xs) h (λ e. rw (eqb-true s x e) a.0) (among_elim P xs a.1 s)

lays_in : (ls : List ℕ) → All (Brings ls) ls → {ss : Row} {cs : Cells} → Lays ss cs → in_l ls ss ≡ true → InC ls cs
lays_in ls b lays_none h = tt
lays_in ls b (lays_next {s} {w} {xs} {ss} e l) h =
    let a = and_split (among s ls) (in_l ls ss) h in
    (a.0, lays_in ls b l (in_append ls xs ss (among_elim (Brings ls) ls b s a.0 w xs e) a.1))

-- ---- expressions
unfoldable expr_classes : List ℕ
expr_classes = EXPR_KIND ∷ SPAN ∷ UPTO ∷ WORD ∷ CONSTANT ∷ OVERRIDE ∷ TYPE ∷ GLOBAL ∷ ARGUMENT ∷ LOCAL ∷ FUNCTION ∷ EXPR ∷ OPT_EXPR ∷ OPERANDS ∷ LEVEL ∷ QUERY ∷ 2 ∷ 3 ∷ 4 ∷ 5 ∷ 6 ∷ 10 ∷ 18 ∷ 79 ∷ []

operands_in : (ls : List ℕ) → among EXPR ls ≡ true → Brings ls OPERANDS
unfolding more
operands_in ls h w xs e = let n : repeat w (EXPR ∷ []) ≡ xs = cc in rw n at (in_repeat ls w (EXPR ∷ []) (and-true h refl))

exprs_in : Brings expr_classes EXPR_KIND
unfolding more variants expr_classes expressions
exprs_in w xs e = row_at expr_classes expressions w refl (variant_brings (get_elem? expressions w) e)

levels_in : Brings expr_classes LEVEL
unfolding more variants expr_classes levels
levels_in w xs e = row_at expr_classes levels w refl (variant_brings (get_elem? levels w) e)

queries_in : Brings expr_classes QUERY
unfolding more variants expr_classes queries
queries_in w xs e = row_at expr_classes queries w refl (variant_brings (get_elem? queries w) e)

exprs_closed : All (Brings expr_classes) expr_classes
unfolding expr_classes
exprs_closed =
    (exprs_in, (plain_in expr_classes SPAN refl, (plain_in expr_classes UPTO refl, (plain_in expr_classes WORD refl, (plain_in expr_classes CONSTANT refl, (plain_in expr_classes OVERRIDE refl, (plain_in expr_classes TYPE refl, (plain_in expr_classes GLOBAL refl, (plain_in expr_classes ARGUMENT refl, (plain_in expr_classes LOCAL refl, (plain_in expr_classes FUNCTION refl, (plain_in expr_classes EXPR refl, (plain_in expr_classes OPT_EXPR refl, (operands_in expr_classes refl, (levels_in, (queries_in, (plain_in expr_classes 2 refl, (plain_in expr_classes 3 refl, (plain_in expr_classes 4 refl, (plain_in expr_classes 5 refl, (plain_in expr_classes 6 refl, (plain_in expr_classes 10 refl, (plain_in expr_classes 18 refl, (plain_in expr_classes 79 refl, tt))))))))))))))))))))))))

expr_classes_lem : {r : Cells} → Lays expression_row r → InC expr_classes r
unfolding expression_row expr_classes
expr_classes_lem l = lays_in expr_classes exprs_closed l refl

-- what a cell's references say of expressions
abbrev OwnOp : ℕ → Type 0
OwnOp s = (w : ℕ) (js : List Node) → owns (ref_of (target s) w js) ≡ operand s w (owns js)

opt_op : OwnOp OPT_EXPR
unfolding target targets ref_of operand owns own_of optional
opt_op zero js = refl
opt_op (suc n) js = refl

expr_ops : All OwnOp expr_classes
unfolding expr_classes target targets ref_of operand owns own_of
expr_ops =
    (λ w js. refl, (λ w js. refl, (λ w js. refl, (λ w js. refl, (λ w js. refl, (λ w js. refl, (λ w js. refl, (λ w js. refl, (λ w js. refl, (λ w js. refl, (λ w js. refl, (λ w js. refl, (opt_op, (λ w js. refl, (λ w js. refl, (λ w js. refl, (λ w js. refl, (λ w js. refl, (λ w js. refl, (λ w js. refl, (λ w js. refl, (λ w js. refl, (λ w js. refl, (λ w js. refl, tt))))))))))))))))))))))))

ops_are : (r : Cells) → InC expr_classes r → owns (refs r) ≡ ops_of r
unfolding refs ops_of owns
ops_are [] a = refl
ops_are (c ∷ cs) a = among_elim OwnOp expr_classes expr_ops (class c) a.0 (word c) (refs cs) ∙ ap (operand (class c) (word c)) (ops_are cs a.1)

-- THE EXPRESSIONS AMONG THE REFERENCES OF AN EXPRESSION are its operands
pub expr_owned : {r : Cells} → Lays expression_row r → owns (refs r) ≡ ops_of r
expr_owned {r} l = ops_are r (expr_classes_lem l)

abbrev NoName : ℕ → Type 0
NoName s = eqb s NAME ≡ false

no_names : All NoName expr_classes
unfolding expr_classes
no_names = (refl, (refl, (refl, (refl, (refl, (refl, (refl, (refl, (refl, (refl, (refl, (refl, (refl, (refl, (refl, (refl, (refl, (refl, (refl, (refl, (refl, (refl, (refl, (refl, tt))))))))))))))))))))))))

nameless_of : (ls : List ℕ) → All NoName ls → (r : Cells) → InC ls r → Nameless r
unfolding Nameless
nameless_of ls n [] a = tt
nameless_of ls n (c ∷ cs) a = (among_elim NoName ls n (class c) a.0, nameless_of ls n cs a.1)

pub expr_nameless : {r : Cells} → Lays expression_row r → Nameless r
expr_nameless {r} l = nameless_of expr_classes no_names r (expr_classes_lem l)

-- ---- a standing expression or a result has no operands
unfoldable pub bare_kind : ℕ → Bool
bare_kind k = standing_kind k || result_kind k

unfoldable bare_classes : List ℕ
bare_classes = SPAN ∷ UPTO ∷ WORD ∷ CONSTANT ∷ OVERRIDE ∷ TYPE ∷ GLOBAL ∷ ARGUMENT ∷ LOCAL ∷ FUNCTION ∷ 2 ∷ 10 ∷ []

bare_closed : All (Brings bare_classes) bare_classes
unfolding bare_classes
bare_closed =
    (plain_in bare_classes SPAN refl, (plain_in bare_classes UPTO refl, (plain_in bare_classes WORD refl, (plain_in bare_classes CONSTANT refl, (plain_in bare_classes OVERRIDE refl, (plain_in bare_classes TYPE refl, (plain_in bare_classes GLOBAL refl, (plain_in bare_classes ARGUMENT refl, (plain_in bare_classes LOCAL refl, (plain_in bare_classes FUNCTION refl, (plain_in bare_classes 2 refl, (plain_in bare_classes 10 refl, tt))))))))))))

abbrev bare_rows : List Row → ℕ → Bool
bare_rows [] i = true
bare_rows (r ∷ rs) i = elim (bare_kind i) [ true ↦ in_l bare_classes r | false ↦ true ] && bare_rows rs (suc i)

bare-row : (l : List Row) (i k n : ℕ) {r : Row} → bare_rows l i ≡ true → get_elem? l k ≡ some r → n ≡ i + k → bare_kind n ≡ true → in_l bare_classes r ≡ true
bare-row [] i k n h e q c = let z : ◌≡◌ {A = ℕ} 0 1 = cc in absurd (omega arith)
bare-row (x ∷ l) i zero n {r} h e q c =
    let p : x ≡ r = cc in
    let m : n ≡ i = omega arith in
    let a = (and_split (elim (bare_kind i) [ true ↦ in_l bare_classes x | false ↦ true ]) (bare_rows l (suc i)) h).0 in
    rw p at (rw (rw m at c) at a)
bare-row (x ∷ l) i (suc k) n h e q c = bare-row l (suc i) k n (and_split (elim (bare_kind i) [ true ↦ in_l bare_classes x | false ↦ true ]) (bare_rows l (suc i)) h).1 e (omega arith) c

abbrev NoOp : ℕ → Type 0
NoOp s = (w : ℕ) (xs : List ℕ) → operand s w xs ≡ xs

no_ops : All NoOp bare_classes
unfolding bare_classes operand
no_ops = (λ w xs. refl, (λ w xs. refl, (λ w xs. refl, (λ w xs. refl, (λ w xs. refl, (λ w xs. refl, (λ w xs. refl, (λ w xs. refl, (λ w xs. refl, (λ w xs. refl, (λ w xs. refl, (λ w xs. refl, tt))))))))))))

none_read : (r : Cells) → InC bare_classes r → ops_of r ≡ []
unfolding ops_of
none_read [] a = refl
none_read (c ∷ cs) a = among_elim NoOp bare_classes no_ops (class c) a.0 (word c) (ops_of cs) ∙ none_read cs a.1

pub bare-ops : {r : Cells} → Lays expression_row r → bare_kind (kind r) ≡ true → ops_of r ≡ []
unfolding expression_row more variants kind ops_of operand
bare-ops (lays_next {w} {xs} {cs} e l) c =
    none_read cs (lays_in bare_classes bare_closed (rw append-nil at l) (bare-row expressions 0 w w table-fine (variant_brings (get_elem? expressions w) e) (omega arith) c))
  where
    table-fine : bare_rows expressions 0 ≡ true
    table-fine = unfold expressions bare_kind standing_kind result_kind bare_classes in refl

-- ---- effects: a result comes last
unfoldable pub effect_classes : List ℕ
effect_classes = WORD ∷ EXPR ∷ OPT_EXPR ∷ ATOMIC ∷ []

unfoldable pub result_classes : List ℕ
result_classes = RESULT ∷ OPT_RESULT ∷ []

abbrev none? : Row → Bool
none? [] = true
none? (s ∷ ss) = false

abbrev effect? : Row → Bool
effect? [] = true
effect? (s ∷ ss) = (among s effect_classes && effect? ss) || (among s result_classes && none? ss)

pub data Effects : Cells → Type 0 where
  e-none : Effects []
  e-last : {s w : ℕ} → among s result_classes ≡ true → Effects ((s, w) ∷ [])
  e-more : {s w : ℕ} {cs : Cells} → among s effect_classes ≡ true → Effects cs → Effects ((s, w) ∷ cs)

effect_append : (xs ss : Row) → in_l effect_classes xs ≡ true → effect? ss ≡ true → effect? (xs ++ ss) ≡ true
effect_append [] ss h k = k
effect_append (x ∷ xs) ss h k = let a = and_split (among x effect_classes) (in_l effect_classes xs) h in rw (and-true a.0 (effect_append xs ss a.1 k))

atomics_in : Brings effect_classes ATOMIC
unfolding more variants effect_classes atomics
atomics_in w xs e = row_at effect_classes atomics w refl (variant_brings (get_elem? atomics w) e)

effects_closed : All (Brings effect_classes) effect_classes
unfolding effect_classes
effects_closed = (plain_in effect_classes WORD refl, (plain_in effect_classes EXPR refl, (plain_in effect_classes OPT_EXPR refl, (atomics_in, tt))))

abbrev Nothing : ℕ → Type 0
Nothing s = (w : ℕ) (xs : Row) → more s w ≡ brings xs → xs ≡ []

result_nothing : All Nothing result_classes
unfolding result_classes
result_nothing = (λ w xs e. cc (plain_more RESULT w refl), (λ w xs e. cc (plain_more OPT_RESULT w refl), tt))

lays_end : {ss : Row} {cs : Cells} → Lays ss cs → none? ss ≡ true → cs ≡ []
lays_end lays_none h = refl
lays_end (lays_next e l) h = absurd (false≢true h)

lays_effect : {ss : Row} {cs : Cells} → Lays ss cs → effect? ss ≡ true → Effects cs
lays_effect lays_none h = e-none
lays_effect (lays_next {s} {w} {xs} {ss} {cs} e l) h =
    split_or (among s effect_classes && effect? ss) _ h
    (λ q. let a = and_split (among s effect_classes) (effect? ss) q in e-more a.0 (lays_effect l (effect_append xs ss (among_elim (Brings effect_classes) effect_classes effects_closed s a.0 w xs e) a.1)))
    (λ q. let a = and_split (among s result_classes) (none? ss) q in
    let n : xs ≡ [] = among_elim Nothing result_classes result_nothing s a.0 w xs e in
    let k : cs ≡ [] = lays_end (rw n at l) a.1 in
    rw k (e-last a.0))

-- the rows of effects are such
abbrev shape? : Shape → Bool
shape? s_emit = true
shape? s_block = true
shape? s_if = true
shape? s_switch = true
shape? s_loop = true
shape? s_break = true
shape? s_continue = true
shape? s_return = true
shape? s_kill = true
shape? s_call = true
shape? (s_effect ss) = effect? ss

abbrev shapes? : List Shape → Bool
shapes? [] = true
shapes? (x ∷ xs) = shape? x && shapes? xs

shape_at : (l : List Shape) (k : ℕ) {x : Shape} → shapes? l ≡ true → get_elem? l k ≡ some x → shape? x ≡ true
shape_at [] k h e = let z : ◌≡◌ {A = ℕ} 0 1 = cc in absurd (omega arith)
shape_at (y ∷ l) zero {x} h e = let q : y ≡ x = cc in rw q at (and_split (shape? y) (shapes? l) h).0
shape_at (y ∷ l) (suc k) h e = shape_at l k (and_split (shape? y) (shapes? l) h).1 e

pub effects_of : (k : ℕ) {ss : Row} {cs : Cells} → get_elem? statements k ≡ some (s_effect ss) → Lays ss cs → Effects cs
effects_of k {ss} e l = lays_effect l (shape_at statements k {x = s_effect ss} (unfold statements effect_classes result_classes in refl) e)

-- THE EXPRESSIONS AMONG THE REFERENCES OF AN EFFECT are its operands and then its result
abbrev OwnEffect : ℕ → Type 0
OwnEffect s = (w : ℕ) (js : List Node) (xs ys : List ℕ) → owns js ≡ xs ++ ys → owns (ref_of (target s) w js) ≡ operand s w xs ++ ys

opt_effect : OwnEffect OPT_EXPR
unfolding target targets ref_of operand owns own_of optional
opt_effect zero js xs ys e = e
opt_effect (suc n) js xs ys e = ap (n ∷◌) e

effect_ops : All OwnEffect effect_classes
unfolding effect_classes target targets ref_of operand owns own_of
effect_ops = (λ w js xs ys e. e, (λ w js xs ys e. ap (w ∷◌) e, (opt_effect, (λ w js xs ys e. e, tt))))

abbrev KeepsResult : ℕ → Type 0
KeepsResult s = (w : ℕ) (cs : Cells) → result_of ((s, w) ∷ cs) ≡ result_of cs

effect_results : All KeepsResult effect_classes
unfolding effect_classes result_of
effect_results = (λ w cs. refl, (λ w cs. refl, (λ w cs. refl, (λ w cs. refl, tt))))

abbrev LastResult : ℕ → Type 0
LastResult s = (w : ℕ) → owns (ref_of (target s) w []) ≡ operand s w [] ++ evals_opt (result_of ((s, w) ∷ []))

last_opt : LastResult OPT_RESULT
unfolding target targets ref_of operand owns own_of result_of opt_of evals_opt
last_opt zero = refl
last_opt (suc n) = refl

last-results : All LastResult result_classes
unfolding result_classes target targets ref_of operand owns own_of result_of evals_opt
last-results = (λ w. refl, (last_opt, tt))

pub effect_owned : {cs : Cells} → Effects cs → owns (refs cs) ≡ ops_of cs ++ evals_opt (result_of cs)
unfolding refs ops_of
effect_owned e-none = unfold owns result_of evals_opt in refl
effect_owned (e-last {s} {w} h) = among_elim LastResult result_classes last-results s h w
effect_owned (e-more {s} {w} {cs} h e) =
    rw (among_elim KeepsResult effect_classes effect_results s h w cs)
    (among_elim OwnEffect effect_classes effect_ops s h w (refs cs) (ops_of cs) (evals_opt (result_of cs)) (effect_owned e))

effect_names : All NoName effect_classes
unfolding effect_classes
effect_names = (refl, (refl, (refl, (refl, tt))))

result_names : All NoName result_classes
unfolding result_classes
result_names = (refl, (refl, tt))

pub effect_nameless : {cs : Cells} → Effects cs → Nameless cs
unfolding Nameless
effect_nameless e-none = tt
effect_nameless (e-last {s} h) = (among_elim NoName result_classes result_names s h, tt)
effect_nameless (e-more {s} h e) = (among_elim NoName effect_classes effect_names s h, effect_nameless e)

-- a compare is an operand
mem_operand : (s w : ℕ) (xs : List ℕ) (x : ℕ) → Mem x xs → Mem x (operand s w xs)
unfolding operand
mem_operand s w xs x m = go (eqb s EXPR) (eqb s OPT_EXPR) w
  where
    go : (a b : Bool) (w : ℕ) → Mem x (elim a [ true ↦ w ∷ xs | false ↦ elim b [ true ↦ optional w xs | false ↦ xs ] ])
    go true b w = there m
    go false true zero = unfold optional in m
    go false true (suc e) = unfold optional in there m
    go false false w = m

mem_optional : (w : ℕ) (xs : List ℕ) {x : ℕ} → Mem x (optional w []) → Mem x (optional w xs)
unfolding optional
mem_optional zero xs m = elim m [ ]
mem_optional (suc e) xs here = here
mem_optional (suc e) xs (there m) = elim m [ ]

compare_in : (cs : Cells) (x : ℕ) → Mem x (compare_of cs) → Mem x (ops_of cs)
unfolding compare_of ops_of operand
compare_in [] x m = elim m [ ]
compare_in (c ∷ cs) x m = go (eqb (class c) OPT_EXPR) refl m
  where
    go : (b : Bool) → eqb (class c) OPT_EXPR ≡ b → Mem x (elim b [ true ↦ optional (word c) [] | false ↦ [] ]) → Mem x (operand (class c) (word c) (ops_of cs))
    go true e m = rw (eqb-true (class c) OPT_EXPR e) (mem_optional (word c) (ops_of cs) m)
    go false e m = elim m [ ]

pub compares_in : (cs : Cells) (x : ℕ) → Mem x (compares_of cs) → Mem x (ops_of cs)
unfolding compares_of ops_of
compares_in [] x m = elim m [ ]
compares_in (c ∷ cs) x m = go (eqb (class c) ATOMIC) m (compares_in cs x)
  where
    go : (b : Bool) → Mem x (elim b [ true ↦ compare_of cs | false ↦ compares_of cs ]) → (Mem x (compares_of cs) → Mem x (ops_of cs)) → Mem x (operand (class c) (word c) (ops_of cs))
    go true m ih = mem_operand (class c) (word c) (ops_of cs) x (compare_in cs x m)
    go false m ih = mem_operand (class c) (word c) (ops_of cs) x (ih m)

-- ---- declarations
unfoldable decl_classes : List ℕ
decl_classes = NAME ∷ SPAN ∷ UPTO ∷ TYPE ∷ WORD ∷ RETURNS ∷ []

results_in : Brings decl_classes RETURNS
unfolding more variants decl_classes results
results_in w xs e = row_at decl_classes results w refl (variant_brings (get_elem? results w) e)

decls_closed : All (Brings decl_classes) decl_classes
unfolding decl_classes
decls_closed = (plain_in decl_classes NAME refl, (plain_in decl_classes SPAN refl, (plain_in decl_classes UPTO refl, (plain_in decl_classes TYPE refl, (plain_in decl_classes WORD refl, (results_in, tt))))))

abbrev OwnNone : ℕ → Type 0
OwnNone s = (w : ℕ) (js : List Node) → owns (ref_of (target s) w js) ≡ owns js

name_none : OwnNone NAME
unfolding target targets ref_of owns own_of
name_none zero js = refl
name_none (suc n) js = refl

decl_none : All OwnNone decl_classes
unfolding decl_classes target targets ref_of owns own_of
decl_none = (name_none, (λ w js. refl, (λ w js. refl, (λ w js. refl, (λ w js. refl, (λ w js. refl, tt))))))

-- cells of the declarations, in front of others
front-none : (r rest : Cells) → InC decl_classes r → owns (refs (r ++ rest)) ≡ owns (refs rest)
unfolding refs
front-none [] rest a = refl
front-none (c ∷ cs) rest a = among_elim OwnNone decl_classes decl_none (class c) a.0 (word c) (refs (cs ++ rest)) ∙ front-none cs rest a.1

unfoldable local_classes : List ℕ
local_classes = NAME ∷ SPAN ∷ UPTO ∷ TYPE ∷ LOCAL-INIT ∷ []

locals_closed : All (Brings local_classes) local_classes
unfolding local_classes
locals_closed = (plain_in local_classes NAME refl, (plain_in local_classes SPAN refl, (plain_in local_classes UPTO refl, (plain_in local_classes TYPE refl, (plain_in local_classes LOCAL-INIT refl, tt)))))

abbrev OwnInit : ℕ → Type 0
OwnInit s = (w : ℕ) (js : List Node) → owns (ref_of (target s) w js) ≡ elim (eqb s LOCAL-INIT) [ true ↦ optional w (owns js) | false ↦ owns js ]

init_own : OwnInit LOCAL-INIT
unfolding target targets ref_of owns own_of optional
init_own zero js = refl
init_own (suc n) js = refl

local-inits : All OwnInit local_classes
unfolding local_classes target targets ref_of owns own_of
local-inits = (name_none, (λ w js. refl, (λ w js. refl, (λ w js. refl, (init_own, tt)))))

front-inits : (r rest : Cells) → InC local_classes r → owns (refs (r ++ rest)) ≡ inits_of r (owns (refs rest))
unfolding refs inits_of
front-inits [] rest a = refl
front-inits (c ∷ cs) rest a =
    among_elim OwnInit local_classes local-inits (class c) a.0 (word c) (refs (cs ++ rest))
    ∙ ap (λ (ys : List ℕ). elim (eqb (class c) LOCAL-INIT) [ true ↦ optional (word c) ys | false ↦ ys ]) (front-inits cs rest a.1)

locals_own : (ls : List Cells) → Each (Lays (counted LOCALS)) ls → owns (refs (flat_all ls)) ≡ roots ls
unfolding flat_all roots counted local_classes
locals_own [] e = unfold refs owns in refl
locals_own (l ∷ ls) (each_next a e) = front-inits l (flat_all ls) (lays_in local_classes locals_closed a refl) ∙ ap (inits_of l) (locals_own ls e)

in_join : (ls : List ℕ) (a b : Cells) → InC ls a → InC ls b → InC ls (a ++ b)
in_join ls [] b p q = q
in_join ls (c ∷ cs) b p q = (p.0, in_join ls cs b p.1 q)

arguments_in : (rs : List Cells) → Each (Lays (counted ARGUMENTS)) rs → InC decl_classes (flat_all rs)
unfolding flat_all counted decl_classes
arguments_in [] e = tt
arguments_in (r ∷ rs) (each_next a e) = in_join decl_classes r (flat_all rs) (lays_in decl_classes decls_closed a refl) (arguments_in rs e)

-- THE EXPRESSIONS AMONG THE REFERENCES OF THE DECLARATIONS are the initialisers of the locals
pub decls-owned : {h r : Cells} {gs ls : List Cells} → Lays function_head h → Each (Lays (counted ARGUMENTS)) gs → Lays (RETURNS ∷ []) r → Each (Lays (counted LOCALS)) ls
    → owns (refs (h ++ flat_all gs ++ r ++ flat_all ls)) ≡ roots ls
unfolding function_head decl_classes
decls-owned {h} {r} {gs} {ls} a b c d =
    front-none (h ++ flat_all gs ++ r) (flat_all ls)
    (in_join decl_classes (h ++ flat_all gs) r (in_join decl_classes h (flat_all gs) (lays_in decl_classes decls_closed a refl) (arguments_in gs b)) (lays_in decl_classes decls_closed c refl))
    ∙ locals_own ls d

-- ---- the value of a case: copied words
unfoldable value_classes : List ℕ
value_classes = VALUE ∷ WORD ∷ []

values_in : Brings value_classes VALUE
unfolding more variants value_classes values
values_in w xs e = row_at value_classes values w refl (variant_brings (get_elem? values w) e)

values_closed : All (Brings value_classes) value_classes
unfolding value_classes
values_closed = (values_in, (plain_in value_classes WORD refl, tt))

free_of : (r : Cells) → InC value_classes r → Free r
unfolding value_classes
free_of [] a = tt
free_of (c ∷ cs) a = (among_elim (λ s. (s ≡ WORD) ⊎ (KEY ≤ s)) value_classes (inr (omega arith), (inl refl, tt)) (class c) a.0, free_of cs a.1)

pub value_free : (v : Cells) → Lays (VALUE ∷ []) v → Free v
unfolding value_classes
value_free v l = free_of v (lays_in value_classes values_closed l refl)

-- ---- no Emit's range
abbrev pub Plain : Cells → Type 0
Plain [] = Unit {0}
Plain (c ∷ cs) = (eqb (class c) FROM ≡ false) × (eqb (class c) TO ≡ false) × Plain cs

abbrev NoRange : ℕ → Type 0
NoRange s = (eqb s FROM ≡ false) × (eqb s TO ≡ false)

plain_of : (ls : List ℕ) → All NoRange ls → (r : Cells) → InC ls r → Plain r
plain_of ls n [] a = tt
plain_of ls n (c ∷ cs) a = let z = among_elim NoRange ls n (class c) a.0 in (z.0, z.1, plain_of ls n cs a.1)

expr_ranges : All NoRange expr_classes
unfolding expr_classes
expr_ranges = ((refl, refl), ((refl, refl), ((refl, refl), ((refl, refl), ((refl, refl), ((refl, refl), ((refl, refl), ((refl, refl), ((refl, refl), ((refl, refl), ((refl, refl), ((refl, refl), ((refl, refl), ((refl, refl), ((refl, refl), ((refl, refl), ((refl, refl), ((refl, refl), ((refl, refl), ((refl, refl), ((refl, refl), ((refl, refl), ((refl, refl), ((refl, refl), tt))))))))))))))))))))))))

decl_ranges : All NoRange decl_classes
unfolding decl_classes
decl_ranges = ((refl, refl), ((refl, refl), ((refl, refl), ((refl, refl), ((refl, refl), ((refl, refl), tt))))))

local_ranges : All NoRange local_classes
unfolding local_classes
local_ranges = ((refl, refl), ((refl, refl), ((refl, refl), ((refl, refl), ((refl, refl), tt)))))

pub expr_plain : {r : Cells} → Lays expression_row r → Plain r
expr_plain {r} l = plain_of expr_classes expr_ranges r (expr_classes_lem l)

pub head_plain : {r : Cells} → Lays function_head r → Plain r
unfolding function_head decl_classes
head_plain {r} l = plain_of decl_classes decl_ranges r (lays_in decl_classes decls_closed l refl)

pub argument-plain : {r : Cells} → Lays (counted ARGUMENTS) r → Plain r
unfolding counted decl_classes
argument-plain {r} l = plain_of decl_classes decl_ranges r (lays_in decl_classes decls_closed l refl)

pub result_plain : {r : Cells} → Lays (RETURNS ∷ []) r → Plain r
unfolding decl_classes
result_plain {r} l = plain_of decl_classes decl_ranges r (lays_in decl_classes decls_closed l refl)

pub local-plain : {r : Cells} → Lays (counted LOCALS) r → Plain r
unfolding counted local_classes
local-plain {r} l = plain_of local_classes local_ranges r (lays_in local_classes locals_closed l refl)

-- what holds of the classes of an effect holds of its cells
pub effect_cells : (P : ℕ → Type 0) → P WORD → P EXPR → P OPT_EXPR → P ATOMIC → (s : ℕ) → among s effect_classes ≡ true → P s
unfolding effect_classes
effect_cells P a b c d s h = among_elim P effect_classes (a, (b, (c, (d, tt)))) s h

pub result_cells : (P : ℕ → Type 0) → P RESULT → P OPT_RESULT → (s : ℕ) → among s result_classes ≡ true → P s
unfolding result_classes
result_cells P a b s h = among_elim P result_classes (a, (b, tt)) s h

-- ---- functions: of expressions only a CallResult names one, the one that `function_of` reads
unfoldable field_classes : List ℕ
field_classes = SPAN ∷ UPTO ∷ WORD ∷ CONSTANT ∷ OVERRIDE ∷ TYPE ∷ GLOBAL ∷ ARGUMENT ∷ LOCAL ∷ EXPR ∷ OPT_EXPR ∷ OPERANDS ∷ LEVEL ∷ QUERY ∷ 2 ∷ 3 ∷ 4 ∷ 5 ∷ 6 ∷ 10 ∷ 18 ∷ 79 ∷ []

levels-field : Brings field_classes LEVEL
unfolding more variants field_classes levels
levels-field w xs e = row_at field_classes levels w refl (variant_brings (get_elem? levels w) e)

queries-field : Brings field_classes QUERY
unfolding more variants field_classes queries
queries-field w xs e = row_at field_classes queries w refl (variant_brings (get_elem? queries w) e)

fields_closed : All (Brings field_classes) field_classes
unfolding field_classes
fields_closed =
    (plain_in field_classes SPAN refl, (plain_in field_classes UPTO refl, (plain_in field_classes WORD refl, (plain_in field_classes CONSTANT refl, (plain_in field_classes OVERRIDE refl, (plain_in field_classes TYPE refl, (plain_in field_classes GLOBAL refl, (plain_in field_classes ARGUMENT refl, (plain_in field_classes LOCAL refl, (plain_in field_classes EXPR refl, (plain_in field_classes OPT_EXPR refl, (operands_in field_classes refl, (levels-field, (queries-field, (plain_in field_classes 2 refl, (plain_in field_classes 3 refl, (plain_in field_classes 4 refl, (plain_in field_classes 5 refl, (plain_in field_classes 6 refl, (plain_in field_classes 10 refl, (plain_in field_classes 18 refl, (plain_in field_classes 79 refl, tt))))))))))))))))))))))

-- all rows but the one at n
abbrev but_in : List ℕ → List Row → ℕ → Bool
but_in ls [] n = true
but_in ls (r ∷ rs) zero = rows_in ls rs
but_in ls (r ∷ rs) (suc n) = in_l ls r && but_in ls rs n

but_at : (ls : List ℕ) (l : List Row) (n k : ℕ) {r : Row} → but_in ls l n ≡ true → (k ≡ n → ⊥) → get_elem? l k ≡ some r → in_l ls r ≡ true
but_at ls [] n k h d e = let z : ◌≡◌ {A = ℕ} 0 1 = cc in absurd (omega arith)
but_at ls (x ∷ l) zero zero h d e = absurd (d refl)
but_at ls (x ∷ l) zero (suc k) h d e = row_at ls l k h e
but_at ls (x ∷ l) (suc n) zero {r} h d e = let q : x ≡ r = cc in rw q at (and_split (in_l ls x) (but_in ls l n) h).0
but_at ls (x ∷ l) (suc n) (suc k) h d e = but_at ls l n k (and_split (in_l ls x) (but_in ls l n) h).1 (λ q. d (ap suc q)) e

field_row : (k : ℕ) {r : Row} → (k ≡ 23 → ⊥) → get_elem? expressions k ≡ some r → in_l field_classes r ≡ true
unfolding field_classes expressions
field_row k d e = but_at field_classes expressions 23 k refl d e

abbrev NoFunction : ℕ → Type 0
NoFunction s = (eqb s FUNCTION ≡ false) × (eqb s CALLEE ≡ false)

no_functions : All NoFunction field_classes
unfolding field_classes
no_functions =
    ((refl, refl), ((refl, refl), ((refl, refl), ((refl, refl), ((refl, refl), ((refl, refl), ((refl, refl), ((refl, refl), ((refl, refl), ((refl, refl), ((refl, refl), ((refl, refl), ((refl, refl), ((refl, refl), ((refl, refl), ((refl, refl), ((refl, refl), ((refl, refl), ((refl, refl), ((refl, refl), ((refl, refl), ((refl, refl), tt))))))))))))))))))))))

fields_not : (r : Cells) → InC field_classes r → Each (Not FUNCTION) r × Each (Not CALLEE) r
fields_not [] a = (each_none, each_none)
fields_not (c ∷ cs) a =
    let n = among_elim NoFunction field_classes no_functions (class c) a.0 in
    let i = fields_not cs a.1 in
    (each_next n.0 i.0, each_next n.1 i.1)

pub not_call : (Q : ℕ → Type 0) {r : Cells} → Lays expression_row r → (kind r ≡ 23 → ⊥) → FunsOk Q (refs r)
unfolding expression_row
not_call Q l d = go (expression_shape l) d
  where
    go : {r : Cells} → Expression r → (kind r ≡ 23 → ⊥) → FunsOk Q (refs r)
    go (expression {k} {row} {cs} h e l f) d =
        let n = fields_not cs (lays_in field_classes fields_closed l (field_row k (λ q. d (unfold kind in q)) e)) in
        no_funs_lem Q (each_next refl n.0) (each_next refl n.1)

call_row : {row : Row} → get_elem? expressions 23 ≡ some row → row ≡ SPAN ∷ UPTO ∷ FUNCTION ∷ []
unfolding expressions
call_row e = cc

pub call_result_lem : (Q : ℕ → Type 0) {r : Cells} → Lays expression_row r → kind r ≡ 23 → (f : ℕ) → is_of (function_of r) f ≡ true → Q f → FunsOk Q (refs r)
unfolding expression_row
call_result_lem Q l d f t q = go (expression_shape l) d t
  where
    laid : {cs : Cells} → Plainly (SPAN ∷ UPTO ∷ FUNCTION ∷ []) cs → (k : ℕ) → is_of (function_of ((EXPR_KIND, k) ∷ cs)) f ≡ true → FunsOk Q (refs ((EXPR_KIND, k) ∷ cs))
    laid (plain-next (plain-next (plain-next {w} plain-none))) k t = unfold refs ref_of target targets in (fun_call (subst Q (sym (eqb-true w f (unfold is_of function_of in t))) q), tt)

    go : {r : Cells} → Expression r → kind r ≡ 23 → is_of (function_of r) f ≡ true → FunsOk Q (refs r)
    go (expression {k} {row} {cs} h e l p) d t = (let z : k ≡ 23 = (unfold kind in d) in laid (plainly (rw (call_row (rw z at e)) at l) (unfold plain? in refl)) k t)
