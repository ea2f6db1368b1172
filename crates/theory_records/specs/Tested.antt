-- The tables of a module that is laid out and passes tests 3 and 4 are well formed.
use Rattle.std.specs.Prelude.{◌≡◌, Bool, true, false, eqb, ltb, length, get_or}
use Rattle.std.proofs.Math.Path.{refl}
use Rattle.std.proofs.Common.{arith, le_of_suc-le-suc, not-suc-le-zero, ltb-true}
use mathlib.Core.List.{List, [], ◌∷◌, ◌++◌}
use Prim.Native.Nat.{ℕ, zero, suc, ◌+◌, ◌<◌}
use Rattle.std.proofs.Math.Decide.{dec_lt}
use Rattle.std.proofs.Math.ListN.{get_or-eq_default}
use Rattle.theory_lists.specs.Booleans.{and_split}
use Rattle.model.specs.Outcome.{Cells}
use Rattle.model.specs.Table.{TYPE, CONSTANT, OVERRIDE, INIT, OPT_INIT, EXPR, OPT_EXPR}
use Rattle.model.specs.Module.{Module}
use Rattle.model.specs.Carry.{Lays, WellFormed}
use Rattle.model.specs.Operands.{optional, operand, ops_of, kind, constant_kind}
use Rattle.model.specs.Numbers.{caps, bound, below as under, within, every, outside, constant_only, numbered}
use Rattle.model.specs.Lower.{below, bases_of, types_lower, operands_lower, init_of, inits_of, inits_lower, lower}
use Rattle.model.specs.Tables.{Tab, names, types, constants, overrides, globals, exprs, code_t, is_t, at, tables, rec_at, count}
use Rattle.model.specs.References.{Place, table, own, Target, copied, start, upto, ref, opt, targets, target, Node, node, ref_of, refs}
use Rattle.theory_image.specs.Members.{each_at}
use Rattle.theory_records.specs.TableLaws.{Tab_dec, apart}
use Rattle.theory_records.specs.RecordLaws.{All, all_map, all_both}
use Rattle.theory_records.specs.Well.{home, May, type_name, type_type, const_name, const_type, const_init, over_name, over_type, over_init, global_name, global_type, global-init, expr_own, InitLow, WF}
use Rattle.theory_records.specs.Kinds.{KindOf, is_copied, is_span, is_upto, is_name, is_type, is_constant, is_override, is_init, is_opt_init, is_expr, is_opt_expr, Kinds, no_kinds, kinds, row_of, record_kinds}

-- ---- lists

pub every-at : {A : Type 0} (p : A → Bool) (l : List A) → every p l ≡ true → (n : ℕ) (d : A) → n < length l → p (get_or l n d) ≡ true
unfolding every
every-at p [] e n d h = absurd (not-suc-le-zero h)
every-at p (x ∷ l) e zero d h = (and_split (p x) (every p l) e).0
every-at p (x ∷ l) e (suc n) d h = every-at p l (and_split (p x) (every p l) e).1 n d (le_of_suc-le-suc h)

pub cons_all : (P : Node → Type 0) (t : Target) (w : ℕ) (rest : List Node) → All P (ref_of t w []) → All P rest → All P (ref_of t w rest)
unfolding ref_of
cons_all P copied w rest a b = b
cons_all P start w rest a b = b
cons_all P upto w rest a b = b
cons_all P (ref p) w rest a b = (a.0, b)
cons_all P (opt p) zero rest a b = b
cons_all P (opt p) (suc n) rest a b = (a.0, b)

-- ---- what a record may refer to
may_cell : {t : Tab} {s : ℕ} → KindOf t s → (w : ℕ) → All (λ j. May t j.place) (ref_of (target s) w [])
unfolding target targets ref_of
may_cell (is_copied e b) w = rw e tt
may_cell is_span w = tt
may_cell is_upto w = tt
may_cell (is_name m) zero = tt
may_cell (is_name m) (suc n) = (m, tt)
may_cell (is_type m) w = (m, tt)
may_cell (is_constant m) w = (m, tt)
may_cell (is_override m) w = (m, tt)
may_cell (is_init m) w = (m, tt)
may_cell (is_opt_init m) zero = tt
may_cell (is_opt_init m) (suc n) = (m, tt)
may_cell (is_expr m) w = (m, tt)
may_cell (is_opt_expr m) zero = tt
may_cell (is_opt_expr m) (suc n) = (m, tt)

pub all_may : {t : Tab} {r : Cells} → Kinds t r → All (λ j. May t j.place) (refs r)
unfolding refs
all_may no_kinds = tt
all_may {t} (kinds {s} {w} {cs} k ks) = cons_all (λ j. May t j.place) (target s) w (refs cs) (may_cell k w) (all_may ks)

-- ---- 3: numbers in range
module _ (m : Module) where
  abbrev pub In : Node → Type 0
  In j = j.num < count (tables m) (home j.place)

  inside-cell : {t : Tab} {s : ℕ} → KindOf t s → (w : ℕ) → under (bound (outside m) s) w ≡ true → All In (ref_of (target s) w [])
  unfolding target targets ref_of bound caps under outside home count tables at
  inside-cell (is_copied e b) w h = rw e tt
  inside-cell is_span w h = tt
  inside-cell is_upto w h = tt
  inside-cell (is_name m) zero h = tt
  inside-cell (is_name m) (suc n) h = (le_of_suc-le-suc (ltb-true _ _ h), tt)
  inside-cell (is_type m) w h = (ltb-true _ _ h, tt)
  inside-cell (is_constant m) w h = (ltb-true _ _ h, tt)
  inside-cell (is_override m) w h = (ltb-true _ _ h, tt)
  inside-cell (is_init m) w h = (ltb-true _ _ h, tt)
  inside-cell (is_opt_init m) zero h = tt
  inside-cell (is_opt_init m) (suc n) h = (le_of_suc-le-suc (ltb-true _ _ h), tt)
  inside-cell (is_expr m) w h = (ltb-true _ _ h, tt)
  inside-cell (is_opt_expr m) zero h = tt
  inside-cell (is_opt_expr m) (suc n) h = (le_of_suc-le-suc (ltb-true _ _ h), tt)

  all-inside : {t : Tab} {r : Cells} → Kinds t r → within (outside m) r ≡ true → All In (refs r)
  unfolding refs within
  all-inside no_kinds h = tt
  all-inside (kinds {s} {w} {cs} k ks) h =
      let a = and_split (under (bound (outside m) s) w) (within (outside m) cs) h in
      cons_all In (target s) w (refs cs) (inside-cell k w a.0) (all-inside ks a.1)

-- ---- 4: references that are lower
abbrev pub Low : Tab → ℕ → Node → Type 0
Low t n j = home j.place ≡ t → j.num < n

-- bases and members
drop_base : (b : Bool) (w n : ℕ) (xs : List ℕ) → below (elim b [ true ↦ w ∷ xs | false ↦ xs ]) n ≡ true → below xs n ≡ true
unfolding below
drop_base true w n xs h = (and_split (ltb w n) (below xs n) h).1
drop_base false w n xs h = h

base_cell : {s : ℕ} → KindOf types s → (w n : ℕ) (xs : List ℕ) → below (elim (eqb s TYPE) [ true ↦ w ∷ xs | false ↦ xs ]) n ≡ true → All (Low types n) (ref_of (target s) w [])
unfolding target targets ref_of below home is_t code_t
base_cell (is_copied e b) w n xs h = rw e tt
base_cell is_span w n xs h = tt
base_cell is_upto w n xs h = tt
base_cell (is_name m) zero n xs h = tt
base_cell (is_name m) (suc k) n xs h = (λ e. apart names types refl e, tt)
base_cell (is_type m) w n xs h = (λ e. ltb-true w n (and_split (ltb w n) (below xs n) h).0, tt)
base_cell (is_constant m) w n xs h = (λ e. apart constants types refl e, tt)
base_cell (is_override m) w n xs h = (λ e. apart overrides types refl e, tt)
base_cell (is_init m) w n xs h = (λ e. apart exprs types refl e, tt)
base_cell (is_opt_init m) zero n xs h = tt
base_cell (is_opt_init m) (suc k) n xs h = (λ e. apart exprs types refl e, tt)
base_cell (is_expr m) w n xs h = (λ e. apart exprs types refl e, tt)
base_cell (is_opt_expr m) zero n xs h = tt
base_cell (is_opt_expr m) (suc k) n xs h = (λ e. apart exprs types refl e, tt)

low_types : {r : Cells} → Kinds types r → (n : ℕ) → below (bases_of r) n ≡ true → All (Low types n) (refs r)
unfolding refs bases_of
low_types no_kinds n h = tt
low_types (kinds {s} {w} {cs} k ks) n h =
    cons_all (Low types n) (target s) w (refs cs) (base_cell k w n (bases_of cs) h) (low_types ks n (drop_base (eqb s TYPE) w n (bases_of cs) h))

-- operands
drop-optional : (w n : ℕ) (xs : List ℕ) → below (optional w xs) n ≡ true → below xs n ≡ true
unfolding below optional
drop-optional zero n xs h = h
drop-optional (suc e) n xs h = (and_split (ltb e n) (below xs n) h).1

drop-two : (a b : Bool) (w n : ℕ) (xs : List ℕ) → below (elim a [ true ↦ w ∷ xs | false ↦ elim b [ true ↦ optional w xs | false ↦ xs ] ]) n ≡ true → below xs n ≡ true
unfolding below
drop-two true b w n xs h = (and_split (ltb w n) (below xs n) h).1
drop-two false true w n xs h = drop-optional w n xs h
drop-two false false w n xs h = h

no_expr_init : {A : Type 0} → May exprs (table exprs) → A
no_expr_init = elim [ ]

operand-cell : {s : ℕ} → KindOf exprs s → (w n : ℕ) (xs : List ℕ) → below (operand s w xs) n ≡ true → All (Low exprs n) (ref_of (target s) w [])
unfolding target targets ref_of below home is_t code_t operand optional
operand-cell (is_copied e b) w n xs h = rw e tt
operand-cell is_span w n xs h = tt
operand-cell is_upto w n xs h = tt
operand-cell (is_name m) zero n xs h = tt
operand-cell (is_name m) (suc k) n xs h = (λ e. apart names exprs refl e, tt)
operand-cell (is_type m) w n xs h = (λ e. apart types exprs refl e, tt)
operand-cell (is_constant m) w n xs h = (λ e. apart constants exprs refl e, tt)
operand-cell (is_override m) w n xs h = (λ e. apart overrides exprs refl e, tt)
operand-cell (is_init m) w n xs h = no_expr_init m
operand-cell (is_opt_init m) w n xs h = no_expr_init m
operand-cell (is_expr m) w n xs h = (λ e. ltb-true w n (and_split (ltb w n) (below xs n) h).0, tt)
operand-cell (is_opt_expr m) zero n xs h = tt
operand-cell (is_opt_expr m) (suc k) n xs h = (λ e. ltb-true k n (and_split (ltb k n) (below xs n) h).0, tt)

low_exprs : {r : Cells} → Kinds exprs r → (n : ℕ) → below (ops_of r) n ≡ true → All (Low exprs n) (refs r)
unfolding refs ops_of operand
low_exprs no_kinds n h = tt
low_exprs (kinds {s} {w} {cs} k ks) n h =
    cons_all (Low exprs n) (target s) w (refs cs) (operand-cell k w n (ops_of cs) h) (low_exprs ks n (drop-two (eqb s EXPR) (eqb s OPT_EXPR) w n (ops_of cs) h))

-- inits of constants and overrides, which have no operands
no_own : {A : Type 0} {t : Tab} → (t ≡ exprs → ⊥) → May t own → A
no_own n expr_own = absurd (n refl)

init-cell : {t : Tab} {s : ℕ} → (t ≡ exprs → ⊥) → KindOf t s → (w n : ℕ) (xs : List ℕ) → below (elim (eqb s INIT) [ true ↦ w ∷ xs | false ↦ elim (eqb s OPT_INIT) [ true ↦ optional w xs | false ↦ xs ] ]) n ≡ true → All (Low exprs n) (ref_of (target s) w [])
unfolding target targets ref_of below home is_t code_t optional
init-cell z (is_copied e b) w n xs h = rw e tt
init-cell z is_span w n xs h = tt
init-cell z is_upto w n xs h = tt
init-cell z (is_name m) zero n xs h = tt
init-cell z (is_name m) (suc k) n xs h = (λ e. apart names exprs refl e, tt)
init-cell z (is_type m) w n xs h = (λ e. apart types exprs refl e, tt)
init-cell z (is_constant m) w n xs h = (λ e. apart constants exprs refl e, tt)
init-cell z (is_override m) w n xs h = (λ e. apart overrides exprs refl e, tt)
init-cell z (is_init m) w n xs h = (λ e. ltb-true w n (and_split (ltb w n) (below xs n) h).0, tt)
init-cell z (is_opt_init m) zero n xs h = tt
init-cell z (is_opt_init m) (suc k) n xs h = (λ e. ltb-true k n (and_split (ltb k n) (below xs n) h).0, tt)
init-cell z (is_expr m) w n xs h = no_own z m
init-cell z (is_opt_expr m) w n xs h = no_own z m

low_init : {t : Tab} {r : Cells} → (t ≡ exprs → ⊥) → Kinds t r → (n : ℕ) → below (init_of r) n ≡ true → All (Low exprs n) (refs r)
unfolding refs init_of
low_init z no_kinds n h = tt
low_init z (kinds {s} {w} {cs} k ks) n h =
    cons_all (Low exprs n) (target s) w (refs cs) (init-cell z k w n (init_of cs) h) (low_init z ks n (drop-two (eqb s INIT) (eqb s OPT_INIT) w n (init_of cs) h))

-- ---- the passes of test 4, at one number; past the table there is nothing
types-at : (rs : List Cells) (i k n : ℕ) → types_lower rs i ≡ true → n ≡ i + k → below (bases_of (get_or rs k [])) n ≡ true
unfolding types_lower bases_of below
types-at [] i k n h e = refl
types-at (r ∷ rs) i zero n h e = let q : n ≡ i = omega arith in rw q (and_split (below (bases_of r) i) (types_lower rs (suc i)) h).0
types-at (r ∷ rs) i (suc k) n h e = types-at rs (suc i) k n (and_split (below (bases_of r) i) (types_lower rs (suc i)) h).1 (omega arith)

operands-at : (rs : List Cells) (i k n : ℕ) → operands_lower rs i ≡ true → n ≡ i + k → below (ops_of (get_or rs k [])) n ≡ true
unfolding operands_lower ops_of below
operands-at [] i k n h e = refl
operands-at (r ∷ rs) i zero n h e = let q : n ≡ i = omega arith in rw q (and_split (below (ops_of r) i) (operands_lower rs (suc i)) h).0
operands-at (r ∷ rs) i (suc k) n h e = operands-at rs (suc i) k n (and_split (below (ops_of r) i) (operands_lower rs (suc i)) h).1 (omega arith)

inits-at : (ks os rs : List Cells) (i k n : ℕ) → inits_lower rs ks os i ≡ true → n ≡ i + k → below (inits_of (get_or rs k []) ks os) n ≡ true
unfolding inits_lower inits_of below
inits-at ks os [] i k n h e = refl
inits-at ks os (r ∷ rs) i zero n h e = let q : n ≡ i = omega arith in rw q (and_split (below (inits_of r ks os) i) (inits_lower rs ks os (suc i)) h).0
inits-at ks os (r ∷ rs) i (suc k) n h e = inits-at ks os rs (suc i) k n (and_split (below (inits_of r ks os) i) (inits_lower rs ks os (suc i)) h).1 (omega arith)

below-append : (xs ys : List ℕ) (n : ℕ) → below (xs ++ ys) n ≡ true → (below xs n ≡ true) × (below ys n ≡ true)
unfolding below
below-append [] ys n h = (refl, h)
below-append (x ∷ xs) ys n h =
    let a = and_split (ltb x n) (below (xs ++ ys) n) h in
    let b = below-append xs ys n a.1 in
    (rw (a.0, b.0), b.1)

drop-inits : (a b : Bool) (xs ys rest : List ℕ) (n : ℕ) → below (elim a [ true ↦ xs ++ rest | false ↦ elim b [ true ↦ ys ++ rest | false ↦ rest ] ]) n ≡ true → below rest n ≡ true
drop-inits true b xs ys rest n h = (below-append xs rest n h).1
drop-inits false true xs ys rest n h = (below-append ys rest n h).1
drop-inits false false xs ys rest n h = h

-- ---- which tables name none of their own
type_apart : {A : Type 0} {p : Place} → May types p → home p ≡ exprs → A
unfolding home is_t code_t
type_apart type_name e = apart names exprs refl e
type_apart type_type e = apart types exprs refl e

const_apart : {A : Type 0} {p : Place} → May constants p → home p ≡ constants → A
unfolding home is_t code_t
const_apart const_name e = apart names constants refl e
const_apart const_type e = apart types constants refl e
const_apart const_init e = apart exprs constants refl e

over_apart : {A : Type 0} {p : Place} → May overrides p → home p ≡ overrides → A
unfolding home is_t code_t
over_apart over_name e = apart names overrides refl e
over_apart over_type e = apart types overrides refl e
over_apart over_init e = apart exprs overrides refl e

global-apart : {A : Type 0} {p : Place} → May globals p → home p ≡ globals → A
unfolding home is_t code_t
global-apart global_name e = apart names globals refl e
global-apart global_type e = apart types globals refl e
global-apart global-init e = apart exprs globals refl e

no_names : {A : Type 0} {p : Place} → May names p → A
no_names = elim [ ]

no_expr_name : {A : Type 0} → May exprs (table names) → A
no_expr_name = elim [ ]

-- ---- what tests 3 and 4 say of the tables
pub record Threes (m : Module) : Type 0 where
  pub types_in : every (within (outside m)) m.types ≡ true
  pub constants_in : every (within (outside m)) m.constants ≡ true
  pub overrides_in : every (within (outside m)) m.overrides ≡ true
  pub globals_in : every (within (outside m)) m.globals ≡ true
  pub exprs_in : every (within (outside m)) m.exprs ≡ true
  pub constant_in : every constant_only m.exprs ≡ true

pub record Fours (m : Module) : Type 0 where
  pub bases : types_lower m.types 0 ≡ true
  pub operands : operands_lower m.exprs 0 ≡ true
  pub inits : inits_lower m.exprs m.constants m.overrides 0 ≡ true

-- ---- a module that is laid out and passes
module _ (m : Module) (well : WellFormed m) (three : numbered m ≡ true) (four : lower m ≡ true) where
  pub threes : Threes m
  unfolding numbered
  threes =
      let a = and_split (every (within (outside m)) m.types) _ three in
      let b = and_split (every (within (outside m)) m.constants) _ a.1 in
      let c = and_split (every (within (outside m)) m.overrides) _ b.1 in
      let d = and_split (every (within (outside m)) m.globals) _ c.1 in
      let e = and_split (every (within (outside m)) m.exprs) _ d.1 in
      let f = and_split (every constant_only m.exprs) _ e.1 in
      record { types_in = a.0; constants_in = b.0; overrides_in = c.0; globals_in = d.0; exprs_in = e.0; constant_in = f.0 }

  pub fours : Fours m
  unfolding lower
  fours =
      let a = and_split (types_lower m.types 0) _ four in
      let b = and_split (operands_lower m.exprs 0) _ a.1 in
      let c = and_split (inits_lower m.exprs m.constants m.overrides 0) _ b.1 in
      record { bases = a.0; operands = b.0; inits = c.0 }

  pub laid-at : (t : Tab) (k : ℕ) → k < count (tables m) t → Lays (row_of t) (rec_at (tables m) t k)
  unfolding row_of rec_at tables at count
  laid-at names k h = each_at well.names_ok.each k [] h
  laid-at types k h = each_at well.types-ok.each k [] h
  laid-at constants k h = each_at well.constants_ok.each k [] h
  laid-at overrides k h = each_at well.overrides_ok.each k [] h
  laid-at globals k h = each_at well.globals_ok.each k [] h
  laid-at exprs k h = each_at well.exprs_ok.each k [] h

  pub constant-at : (t : Tab) (k : ℕ) → k < count (tables m) t → t ≡ exprs → constant_kind (kind (rec_at (tables m) t k)) ≡ true
  constant-at t k h e = rw e (go (rw e at h))
    where
      go : k < count (tables m) exprs → constant_kind (kind (rec_at (tables m) exprs k)) ≡ true
      go l = unfold rec_at tables at count constant_only in every-at constant_only m.exprs threes.constant_in k [] l

  pub kinds_at : (t : Tab) (k : ℕ) → Kinds t (rec_at (tables m) t k)
  kinds_at t k =
      elim (dec_lt k (count (tables m) t)) [
        | yes l ↦ record_kinds t (laid-at t k l) (constant-at t k l)
        | no l ↦ rw (none l) no_kinds
      ]
    where
      none : (k < count (tables m) t → ⊥) → rec_at (tables m) t k ≡ []
      none l = unfold rec_at count in get_or-eq_default (at t (tables m)) [] {n = k} (omega arith)

  inside-at : (t : Tab) (k : ℕ) → k < count (tables m) t → All (In m) (refs (rec_at (tables m) t k))
  unfolding rec_at tables at count
  inside-at names k h = all_map (refs (get_or m.names k [])) (λ j z. no_names z) (all_may (kinds_at names k))
  inside-at types k h = all-inside m (kinds_at types k) (every-at (within (outside m)) m.types threes.types_in k [] h)
  inside-at constants k h = all-inside m (kinds_at constants k) (every-at (within (outside m)) m.constants threes.constants_in k [] h)
  inside-at overrides k h = all-inside m (kinds_at overrides k) (every-at (within (outside m)) m.overrides threes.overrides_in k [] h)
  inside-at globals k h = all-inside m (kinds_at globals k) (every-at (within (outside m)) m.globals threes.globals_in k [] h)
  inside-at exprs k h = all-inside m (kinds_at exprs k) (every-at (within (outside m)) m.exprs threes.exprs_in k [] h)

  lower-at : (t : Tab) (k : ℕ) → All (Low t k) (refs (rec_at (tables m) t k))
  unfolding rec_at tables at
  lower-at names k = all_map (refs (get_or m.names k [])) (λ j z. no_names z) (all_may (kinds_at names k))
  lower-at types k = low_types (kinds_at types k) k (types-at m.types 0 k k fours.bases (omega arith))
  lower-at constants k = all_map (refs (get_or m.constants k [])) (λ j z e. const_apart z e) (all_may (kinds_at constants k))
  lower-at overrides k = all_map (refs (get_or m.overrides k [])) (λ j z e. over_apart z e) (all_may (kinds_at overrides k))
  lower-at globals k = all_map (refs (get_or m.globals k [])) (λ j z e. global-apart z e) (all_may (kinds_at globals k))
  lower-at exprs k = low_exprs (kinds_at exprs k) k (operands-at m.exprs 0 k k fours.operands (omega arith))

  -- an operand's operands are lower still
  operand-init : (k n : ℕ) → k < n → InitLow (tables m) n (node own k)
  unfolding InitLow home
  operand-init k n l = all_map (refs (rec_at (tables m) exprs k)) (λ j f e. omega (arith, f e)) (lower-at exprs k)

  init_at_cell : {s : ℕ} → KindOf exprs s → (w n : ℕ) (cs : Cells) → below (inits_of ((s, w) ∷ cs) m.constants m.overrides) n ≡ true → All (Low exprs n) (ref_of (target s) w []) → All (InitLow (tables m) n) (ref_of (target s) w [])
  unfolding target targets ref_of inits_of
  init_at_cell (is_copied e b) w n cs h a = rw e tt
  init_at_cell is_span w n cs h a = tt
  init_at_cell is_upto w n cs h a = tt
  init_at_cell (is_name z) w n cs h a = no_expr_name z
  init_at_cell (is_type z) w n cs h a = (unfold InitLow home in all_map (refs (rec_at (tables m) types w)) (λ j y e. type_apart y e) (all_may (kinds_at types w)), tt)
  init_at_cell (is_constant z) w n cs h a =
      (unfold InitLow home is_t code_t in low_init (λ e. apart constants exprs refl e) (kinds_at constants w) n (unfold rec_at tables at in (below-append (init_of (get_or m.constants w [])) (inits_of cs m.constants m.overrides) n h).0), tt)
  init_at_cell (is_override z) w n cs h a =
      (unfold InitLow home is_t code_t in low_init (λ e. apart overrides exprs refl e) (kinds_at overrides w) n (unfold rec_at tables at in (below-append (init_of (get_or m.overrides w [])) (inits_of cs m.constants m.overrides) n h).0), tt)
  init_at_cell (is_init z) w n cs h a = no_expr_init z
  init_at_cell (is_opt_init z) w n cs h a = no_expr_init z
  init_at_cell (is_expr z) w n cs h a = (operand-init w n (unfold home in a.0 refl), tt)
  init_at_cell (is_opt_expr z) zero n cs h a = tt
  init_at_cell (is_opt_expr z) (suc k) n cs h a = (operand-init k n (unfold home in a.0 refl), tt)

  all-init : {r : Cells} → Kinds exprs r → (n : ℕ) → below (inits_of r m.constants m.overrides) n ≡ true → below (ops_of r) n ≡ true → All (InitLow (tables m) n) (refs r)
  unfolding refs inits_of ops_of operand
  all-init no_kinds n h o = tt
  all-init (kinds {s} {w} {cs} k ks) n h o =
      cons_all (InitLow (tables m) n) (target s) w (refs cs) (init_at_cell k w n cs h (operand-cell k w n (ops_of cs) o))
      (all-init ks n (drop-inits (eqb s CONSTANT) (eqb s OVERRIDE) (init_of (get_or m.constants w [])) (init_of (get_or m.overrides w [])) (inits_of cs m.constants m.overrides) n h)
      (drop-two (eqb s EXPR) (eqb s OPT_EXPR) w n (ops_of cs) o))

  init-at : (t : Tab) (k : ℕ) → All (λ j. t ≡ exprs → InitLow (tables m) k j) (refs (rec_at (tables m) t k))
  init-at t k =
      elim (Tab_dec t exprs) [
        | yes p ↦ rw p (all_map (refs (rec_at (tables m) exprs k)) (λ j i e. i) here)
        | no p ↦ all_map (refs (rec_at (tables m) t k)) (λ j z e. absurd (p e)) (all_may (kinds_at t k))
      ]
    where
      here : All (InitLow (tables m) k) (refs (rec_at (tables m) exprs k))
      here = unfold rec_at tables at in all-init (kinds_at exprs k) k (inits-at m.constants m.overrides m.exprs 0 k k fours.inits (omega arith)) (operands-at m.exprs 0 k k fours.operands (omega arith))

  -- THE TABLES OF WHAT PASSES INTAKE ARE WELL FORMED
  pub tested_wf : WF (tables m)
  unfolding WF
  tested_wf t n h =
      let js : List Node = refs (rec_at (tables m) t n) in
      let both : All (λ j. In m j × May t j.place) js = all_both js (λ j x y. (x, y)) (inside-at t n h) (all_may (kinds_at t n)) in
      let lows : All (λ j. Low t n j × (t ≡ exprs → InitLow (tables m) n j)) js = all_both js (λ j x y. (x, y)) (lower-at t n) (init-at t n) in
      all_both js (λ j a b. record { inside = a.0; may = a.1; lower = b.0; init = b.1 }) both lows
