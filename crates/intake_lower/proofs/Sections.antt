-- The passes over a section are the definition: the count that a pass keeps is the number of the record that it reads, plus one.
use mathlib.Core.Path.{◌≡◌, refl, sym, ap, ap₂, ◌∙◌}
use mathlib.Core.Bool.{Bool, true, false, ◌&&◌}
use mathlib.Core.List.{List, [], ◌∷◌, ◌++◌, map}
use Prim.Native.Nat.{ℕ, zero, suc, ◌+◌}
use lib.Dec.{eqb, ltb, leb, leb-zero, leb-suc-suc, eqb-suc-zero}
use lib.ListN.{length, get_or}
use Rattle.theory_lists.specs.Booleans.{and_assoc, and_right}
use Rattle.model.specs.Outcome.{Cell, Cells, class, word}
use Rattle.model.specs.Table.{NAME, TYPE, CONSTANT, OVERRIDE, EXPR, OPT_EXPR, NAMED-EXPR, PLACE, EXPRESSIONS, NAMED, EXPR_KIND, type_row, expression_row, counted}
use Rattle.model.specs.Tree.{Function, Entry, flat, flat_entry, flat_all, flat_list, flat_block}
use Rattle.model.specs.Module.{count_at, places, flat_table}
use Rattle.model.specs.Carry.{Lays, Each, each_none, each_next, WellFunction, WellEntry}
use Rattle.model.specs.Operands.{optional, operand, ops_of}
use Rattle.model.specs.Lower.{below, bases_of, types_lower, operands_lower, functions_lower, entries_lower, init_of, inits_of, inits_lower}
use Rattle.theory_image.specs.FunctionViews.{Field, field?, field_not, Expression, expression, expression_shape}
use Rattle.theory_image.specs.Quiet.{each_append, each_map, Quiet, quiet_type_kind, quiet_expr_kind, Typed, typed, type_shape, before, before-quiet, body-quiet, entry-quiet, Plainly, plain-none, plain-next, named_shape}
use Rattle.intake_lower.specs.Passes.{pass, type_next, type_ok, expr_next, expr_ok, word_at, init_ok}

-- ---- runs of cells one after the other
module _ (next : ℕ → ℕ → ℕ) where
  -- the count after the cells
  unfoldable pub count : Cells → ℕ → ℕ
  count [] n = n
  count (c ∷ cs) n = count cs (next (class c) n)

  pub count-append : (xs ys : Cells) (n : ℕ) → count (xs ++ ys) n ≡ count ys (count xs n)
  unfolding count
  count-append [] ys n = refl
  count-append (x ∷ xs) ys n = count-append xs ys (next (class x) n)

  pub pass-append : (ok : ℕ → ℕ → ℕ → Bool) (xs ys : Cells) (n : ℕ) → pass (xs ++ ys) next ok n ≡ pass xs next ok n && pass ys next ok (count xs n)
  unfolding pass count
  pass-append ok [] ys n = refl
  pass-append ok (x ∷ xs) ys n =
      ap (ok (class x) (word x) (next (class x) n) &&◌) (pass-append ok xs ys (next (class x) n)) ∙ sym (and_assoc (ok (class x) (word x) (next (class x) n)) (pass xs next ok (next (class x) n)) (pass ys next ok (count xs (next (class x) n))))

-- the offsets of a section are passed
module _ (next : ℕ → ℕ → ℕ) (ok : ℕ → ℕ → ℕ → Bool) (still : (n : ℕ) → next PLACE n ≡ n) (fine : (w n : ℕ) → ok PLACE w n ≡ true) where
  places-pass : (rs : List Cells) (at n : ℕ) → (pass (places at rs) next ok n ≡ true) × (count next (places at rs) n ≡ n)
  unfolding pass count places
  places-pass [] at n = (refl, refl)
  places-pass (r ∷ rs) at n =
      let q = places-pass rs (at + length r) n in
      (ap₂ ◌&&◌ (fine at (next PLACE n)) (ap (pass (places (at + length r) rs) next ok) (still n) ∙ q.0), ap (count next (places (at + length r) rs)) (still n) ∙ q.1)

  pub table-pass : (rs : List Cells) (n : ℕ) → pass (flat_table rs) next ok n ≡ pass (flat_all rs) next ok n
  unfolding flat_table
  table-pass rs n = let q = places-pass rs (length rs) n in pass-append next ok (places (length rs) rs) (flat_all rs) n ∙ rw (q.0, q.1)

-- ---- types
type_quiet : {c : Cell} → Quiet c → (n : ℕ) → type_next (class c) n ≡ n
unfolding type_next
type_quiet {c} q n = rw (type_next, quiet_type_kind q)

base_ok : (s w t : ℕ) (xs : List ℕ) → type_ok s w (suc t) && below xs t ≡ below (elim (eqb s TYPE) [ true ↦ w ∷ xs | false ↦ xs ]) t
unfolding type_ok below
base_ok s w t xs = go (eqb s TYPE)
  where
    go : (b : Bool) → elim b [ true ↦ ltb (suc w) (suc t) | false ↦ true ] && below xs t ≡ below (elim b [ true ↦ w ∷ xs | false ↦ xs ]) t
    go true = ap (◌&& below xs t) (leb-suc-suc (suc w) t)
    go false = refl

-- the fields of type t, of which t + 1 have begun
fields_bases : {cs : Cells} → Each Quiet cs → (t : ℕ) → (pass cs type_next type_ok (suc t) ≡ below (bases_of cs) t) × (count type_next cs (suc t) ≡ suc t)
unfolding pass count below bases_of
fields_bases each_none t = (refl, refl)
fields_bases (each_next {a = c} {l = cs} q qs) t =
    let r = fields_bases qs t in
    rw (type_quiet q (suc t)) (rw r.0 (base_ok (class c) (word c) t (bases_of cs)), r.1)

type_record : {r : Cells} → Typed r → (t : ℕ) → (pass r type_next type_ok t ≡ below (bases_of r) t) × (count type_next r t ≡ suc t)
unfolding pass count type_next type_ok bases_of
type_record (typed q) t = fields_bases q t

types-pass : {rs : List Cells} → Each (Lays type_row) rs → (t : ℕ) → pass (flat_all rs) type_next type_ok t ≡ types_lower rs t
unfolding pass flat_all types_lower
types-pass each_none t = refl
types-pass (each_next {a = r} {l = rs} l ls) t =
    let q = type_record (type_shape l) t in
    pass-append type_next type_ok r (flat_all rs) t ∙ rw (q.0, q.1) (ap (below (bases_of r) t &&◌) (types-pass ls (suc t)))

pub types_are : {rs : List Cells} → Each (Lays type_row) rs → pass (flat_table rs) type_next type_ok 0 ≡ types_lower rs 0
unfolding type_next type_ok
types_are {rs} l = table-pass type_next type_ok (λ n. refl) (λ w n. refl) rs 0 ∙ types-pass l 0

-- ---- operands
expr_field : (s n : ℕ) → field? s ≡ true → expr_next s n ≡ n
unfolding expr_next
expr_field s n h = rw (expr_next, field_not s EXPR_KIND h refl, field_not s NAMED h refl)

opt_ok : (w e : ℕ) (xs : List ℕ) → ltb w (suc e) && below xs e ≡ below (optional w xs) e
unfolding optional below
opt_ok zero e xs = ap (◌&& below xs e) (leb-suc-suc 0 e ∙ leb-zero e)
opt_ok (suc w) e xs = ap (◌&& below xs e) (leb-suc-suc (suc w) e)

begun : (s w e : ℕ) → expr_ok s w (suc e) ≡ elim (eqb s EXPR) [ true ↦ ltb (suc w) (suc e) | false ↦ elim (eqb s OPT_EXPR) [ true ↦ ltb w (suc e) | false ↦ true ] ]
unfolding expr_ok
begun s w e = rw (expr_ok, eqb-suc-zero e)

operand-ok : (s w e : ℕ) (xs : List ℕ) → expr_ok s w (suc e) && below xs e ≡ below (operand s w xs) e
unfolding operand below
operand-ok s w e xs = ap (◌&& below xs e) (begun s w e) ∙ go (eqb s EXPR) (eqb s OPT_EXPR)
  where
    go : (a b : Bool) → elim a [ true ↦ ltb (suc w) (suc e) | false ↦ elim b [ true ↦ ltb w (suc e) | false ↦ true ] ] && below xs e ≡ below (elim a [ true ↦ w ∷ xs | false ↦ elim b [ true ↦ optional w xs | false ↦ xs ] ]) e
    go true b = ap (◌&& below xs e) (leb-suc-suc (suc w) e)
    go false true = opt_ok w e xs
    go false false = refl

-- the fields of expression e, of which e + 1 have begun
fields-operands : {cs : Cells} → Each Field cs → (e : ℕ) → (pass cs expr_next expr_ok (suc e) ≡ below (ops_of cs) e) × (count expr_next cs (suc e) ≡ suc e)
unfolding pass count below ops_of
fields-operands each_none e = (refl, refl)
fields-operands (each_next {a = c} {l = cs} q qs) e =
    let r = fields-operands qs e in
    rw (expr_field (class c) (suc e) q) (rw r.0 (operand-ok (class c) (word c) e (ops_of cs)), r.1)

kind_ok : (k e : ℕ) → expr_ok EXPR_KIND k (suc e) ≡ true
unfolding expr_ok
kind_ok k e = rw (expr_ok, eqb-suc-zero e)

expr_record : {r : Cells} → Expression r → (e : ℕ) → (pass r expr_next expr_ok e ≡ below (ops_of r) e) × (count expr_next r e ≡ suc e)
unfolding pass count expr_next ops_of operand
expr_record (expression {k} h g l q) e = rw (kind_ok k e) (fields-operands q e)

exprs_pass : {xs : List Cells} → Each (Lays (EXPR_KIND ∷ [])) xs → (e : ℕ) → pass (flat_all xs) expr_next expr_ok e ≡ operands_lower xs e
unfolding pass flat_all operands_lower
exprs_pass each_none e = refl
exprs_pass (each_next {a = x} {l = xs} l ls) e =
    let q = expr_record (expression_shape l) e in
    pass-append expr_next expr_ok x (flat_all xs) e ∙ rw (q.0, q.1) (ap (below (ops_of x) e &&◌) (exprs_pass ls (suc e)))

place_ok : (w n : ℕ) → expr_ok PLACE w n ≡ true
unfolding expr_ok
place_ok w n = go (eqb n 0)
  where
    go : (b : Bool) → elim b [ true ↦ true | false ↦ true ] ≡ true
    go true = refl
    go false = refl

pub exprs_are : {xs : List Cells} → Each (Lays expression_row) xs → pass (flat_table xs) expr_next expr_ok 0 ≡ operands_lower xs 0
unfolding expr_next expression_row
exprs_are {xs} l = table-pass expr_next expr_ok (λ n. refl) place_ok xs 0 ∙ exprs_pass l 0

-- ---- functions: outside the expressions the count is 0
pub record Kindless (c : Cell) : Type 0 where
  pub kindless : eqb (class c) EXPR_KIND ≡ false

same_zero : (b : Bool) → ◌≡◌ {A = ℕ} (elim b [ true ↦ 0 | false ↦ 0 ]) 0
same_zero true = refl
same_zero false = refl

zero_next : (c : Cell) → Kindless c → expr_next (class c) 0 ≡ 0
unfolding expr_next
zero_next c k = rw (expr_next, k.kindless) (same_zero (eqb (class c) NAMED))

zero_ok : (s w : ℕ) → expr_ok s w 0 ≡ true
unfolding expr_ok
zero_ok s w = refl

outside : {cs : Cells} → Each Kindless cs → (pass cs expr_next expr_ok 0 ≡ true) × (count expr_next cs 0 ≡ 0)
unfolding pass count
outside each_none = (refl, refl)
outside (each_next {a = c} k ks) = rw (zero_next c k) (rw (zero_ok (class c) (word c)) (outside ks))

quiet-outside : {cs : Cells} → Each Quiet cs → (pass cs expr_next expr_ok 0 ≡ true) × (count expr_next cs 0 ≡ 0)
quiet-outside q = outside (each_map (λ c q. record { kindless = quiet_expr_kind q }) q)

named_kindless : {ns : List Cells} → Each (Lays (counted NAMED)) ns → Each Kindless (flat_all ns)
unfolding flat_all
named_kindless each_none = each_none
named_kindless (each_next l ls) = each_append (one (named_shape l)) (named_kindless ls)
  where
    one : {r : Cells} → Plainly (NAMED-EXPR ∷ NAME ∷ []) r → Each Kindless r
    one (plain-next (plain-next plain-none)) = each_next (record { kindless = refl }) (each_next (record { kindless = refl }) each_none)

-- the expressions after their count, and the named ones after theirs
list_pass : {xs : List Cells} → Each (Lays (counted EXPRESSIONS)) xs → pass (flat_list EXPRESSIONS xs) expr_next expr_ok 0 ≡ operands_lower xs 0
unfolding pass flat_list expr_next counted
list_pass {xs} l = ap (◌&& pass (flat_all xs) expr_next expr_ok 0) (zero_ok EXPRESSIONS (length xs)) ∙ exprs_pass l 0

named-pass : {ns : List Cells} → Each (Lays (counted NAMED)) ns → (n : ℕ) → (pass (flat_list NAMED ns) expr_next expr_ok n ≡ true) × (count expr_next (flat_list NAMED ns) n ≡ 0)
unfolding pass count flat_list expr_next
named-pass {ns} l n =
    let q = outside (named_kindless l) in
    (ap (◌&& pass (flat_all ns) expr_next expr_ok 0) (zero_ok NAMED (length ns)) ∙ q.0, q.1)

function-pass : {f : Function} → WellFunction f → (pass (flat f) expr_next expr_ok 0 ≡ operands_lower f.exprs 0) × (count expr_next (flat f) 0 ≡ 0)
unfolding flat
function-pass {f} w =
    let P = before f in
    let E = flat_list EXPRESSIONS f.exprs in
    let N = flat_list NAMED f.named in
    let B = flat_block f.body in
    let a = quiet-outside (before-quiet w) in
    let n = named-pass w.named_ok.each (count expr_next (P ++ E) 0) in
    let b = quiet-outside (body-quiet w) in
    let c : count expr_next (P ++ E ++ N) 0 ≡ 0 = count-append expr_next (P ++ E) N 0 ∙ n.1 in
    let d : pass (P ++ E) expr_next expr_ok 0 ≡ operands_lower f.exprs 0 = pass-append expr_next expr_ok P E 0 ∙ ap₂ ◌&&◌ a.0 (ap (pass E expr_next expr_ok) a.1 ∙ list_pass w.exprs_ok.each) in
    let e : pass (P ++ E ++ N) expr_next expr_ok 0 ≡ operands_lower f.exprs 0 = pass-append expr_next expr_ok (P ++ E) N 0 ∙ ap₂ ◌&&◌ d n.0 ∙ and_right (operands_lower f.exprs 0) in
    (pass-append expr_next expr_ok (P ++ E ++ N) B 0 ∙ ap₂ ◌&&◌ e (ap (pass B expr_next expr_ok) c ∙ b.0) ∙ and_right (operands_lower f.exprs 0), count-append expr_next (P ++ E ++ N) B 0 ∙ ap (count expr_next B) c ∙ b.1)

functions_pass : {fs : List Function} → Each WellFunction fs → pass (flat_all (map flat fs)) expr_next expr_ok 0 ≡ functions_lower fs
unfolding pass flat_all functions_lower
functions_pass each_none = refl
functions_pass (each_next {a = f} {l = fs} w ws) =
    let q = function-pass w in
    pass-append expr_next expr_ok (flat f) (flat_all (map flat fs)) 0 ∙ rw (q.0, q.1) (ap (operands_lower f.exprs 0 &&◌) (functions_pass ws))

pub functions_are : {fs : List Function} → Each WellFunction fs → pass (flat_table (map flat fs)) expr_next expr_ok 0 ≡ functions_lower fs
unfolding expr_next
functions_are {fs} w = table-pass expr_next expr_ok (λ n. refl) place_ok (map flat fs) 0 ∙ functions_pass w

entry-pass : {p : Entry} → WellEntry p → (pass (flat_entry p) expr_next expr_ok 0 ≡ operands_lower p.function.exprs 0) × (count expr_next (flat_entry p) 0 ≡ 0)
unfolding flat_entry
entry-pass {p} w =
    let a = quiet-outside (entry-quiet w) in
    let b = function-pass w.function-ok in
    (pass-append expr_next expr_ok p.head (flat p.function) 0 ∙ rw (a.0, a.1) b.0, count-append expr_next p.head (flat p.function) 0 ∙ rw a.1 b.1)

entries_pass : {ps : List Entry} → Each WellEntry ps → pass (flat_all (map flat_entry ps)) expr_next expr_ok 0 ≡ entries_lower ps
unfolding pass flat_all entries_lower
entries_pass each_none = refl
entries_pass (each_next {a = p} {l = ps} w ws) =
    let q = entry-pass w in
    pass-append expr_next expr_ok (flat_entry p) (flat_all (map flat_entry ps)) 0 ∙ rw (q.0, q.1) (ap (operands_lower p.function.exprs 0 &&◌) (entries_pass ws))

pub entries_are : {ps : List Entry} → Each WellEntry ps → pass (flat_table (map flat_entry ps)) expr_next expr_ok 0 ≡ entries_lower ps
unfolding expr_next
entries_are {ps} w = table-pass expr_next expr_ok (λ n. refl) place_ok (map flat_entry ps) 0 ∙ entries_pass w

-- ---- inits
below-append : (xs ys : List ℕ) (n : ℕ) → below (xs ++ ys) n ≡ below xs n && below ys n
unfolding below
below-append [] ys n = refl
below-append (x ∷ xs) ys n = ap (ltb x n &&◌) (below-append xs ys n) ∙ sym (and_assoc (ltb x n) (below xs n) (below ys n))

-- where the words and the tables of constants and overrides say the same of every number
module _ (ws : List ℕ) (ks os : List Cells)
    (constant : (w e : ℕ) → elim (leb (count_at 2 ws) w) [ true ↦ true | false ↦ ltb (suc (word_at ws 2 w 4)) (suc e) ] ≡ below (init_of (get_or ks w [])) e)
    (override : (w e : ℕ) → elim (leb (count_at 3 ws) w) [ true ↦ true | false ↦ ltb (word_at ws 3 w 5) (suc e) ] ≡ below (init_of (get_or os w [])) e) where
  init-ok : (s w e : ℕ) (xs : List ℕ)
      → init_ok ws s w (suc e) && below xs e
      ≡ below (elim (eqb s CONSTANT) [ true ↦ init_of (get_or ks w []) ++ xs | false ↦ elim (eqb s OVERRIDE) [ true ↦ init_of (get_or os w []) ++ xs | false ↦ xs ] ]) e
  unfolding init_ok
  init-ok s w e xs = go (eqb s CONSTANT) (eqb s OVERRIDE)
    where
      go : (a b : Bool)
          → elim a [
            | true ↦ elim (leb (count_at 2 ws) w) [ true ↦ true | false ↦ ltb (suc (word_at ws 2 w 4)) (suc e) ]
            | false ↦ elim b [ true ↦ elim (leb (count_at 3 ws) w) [ true ↦ true | false ↦ ltb (word_at ws 3 w 5) (suc e) ] | false ↦ true ]
          ] && below xs e
          ≡ below (elim a [ true ↦ init_of (get_or ks w []) ++ xs | false ↦ elim b [ true ↦ init_of (get_or os w []) ++ xs | false ↦ xs ] ]) e
      go true b = ap (◌&& below xs e) (constant w e) ∙ sym (below-append (init_of (get_or ks w [])) xs e)
      go false true = ap (◌&& below xs e) (override w e) ∙ sym (below-append (init_of (get_or os w [])) xs e)
      go false false = refl

  fields-inits : {cs : Cells} → Each Field cs → (e : ℕ) → (pass cs expr_next (init_ok ws) (suc e) ≡ below (inits_of cs ks os) e) × (count expr_next cs (suc e) ≡ suc e)
  unfolding pass count below inits_of
  fields-inits each_none e = (refl, refl)
  fields-inits (each_next {a = c} {l = cs} q qs) e =
      let r = fields-inits qs e in
      rw (expr_field (class c) (suc e) q) (rw r.0 (init-ok (class c) (word c) e (inits_of cs ks os)), r.1)

  init_record : {r : Cells} → Expression r → (e : ℕ) → (pass r expr_next (init_ok ws) e ≡ below (inits_of r ks os) e) × (count expr_next r e ≡ suc e)
  unfolding pass count expr_next init_ok inits_of
  init_record (expression h g l q) e = fields-inits q e

  inits-pass : {xs : List Cells} → Each (Lays (EXPR_KIND ∷ [])) xs → (e : ℕ) → pass (flat_all xs) expr_next (init_ok ws) e ≡ inits_lower xs ks os e
  unfolding pass flat_all inits_lower
  inits-pass each_none e = refl
  inits-pass (each_next {a = x} {l = xs} l ls) e =
      let q = init_record (expression_shape l) e in
      pass-append expr_next (init_ok ws) x (flat_all xs) e ∙ rw (q.0, q.1) (ap (below (inits_of x ks os) e &&◌) (inits-pass ls (suc e)))

  pub inits_are : {xs : List Cells} → Each (Lays expression_row) xs → pass (flat_table xs) expr_next (init_ok ws) 0 ≡ inits_lower xs ks os 0
  unfolding expr_next init_ok expression_row
  inits_are {xs} l = table-pass expr_next (init_ok ws) (λ n. refl) (λ w n. refl) xs 0 ∙ inits-pass l 0
