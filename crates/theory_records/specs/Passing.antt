-- The derived tables pass tests 3 and 4: every record is laid out by its table's row, its codes are the source's, and its references are in range and lower.
use Rattle.std.specs.Prelude.{◌≡◌, Bool, false, ◌&&◌, eqb, ltb, length, get_or}
use Rattle.std.proofs.Math.Path.{refl}
use Rattle.std.proofs.Common.{sym, ◌∙◌}
use Rattle.std.proofs.Math.Bool.{true}
use mathlib.Core.List.{List, [], ◌∷◌, ◌++◌}
use Prim.Native.Nat.{ℕ, zero, suc, ◌+◌, ◌<◌, suc-le-suc}
use native.Mathlib.Omega.{arith}
use Rattle.std.proofs.Math.Decide.{dec_lt}
use borrow.Author.Tests.{eqb-true, ltb-false, lt-ltb}
use Rattle.theory_lists.specs.Booleans.{and-true, and_split}
use Rattle.model.specs.Outcome.{Cells, class, word}
use Rattle.model.specs.Table.{Row, TYPE, CONSTANT, OVERRIDE, INIT, OPT_INIT, EXPR, OPT_EXPR, EXPR_KIND, PAD, more}
use Rattle.model.specs.Module.{Module}
use Rattle.model.specs.Carry.{Keeps, carry_cell, carry_cells, Lays, lays_none, lays_next, WellFormed}
use Rattle.model.specs.Operands.{optional, operand, ops_of, NO_KIND, kind, constant_kind}
use Rattle.model.specs.Numbers.{Bounds, caps, bound, below as under, within, every, outside, constant_only, numbered}
use Rattle.model.specs.Lower.{below, bases_of, types_lower, operands_lower, init_of, inits_of, inits_lower, lower}
use Rattle.model.specs.Tables.{Tab, names, types, constants, overrides, globals, exprs, code_t, is_t, at, Tables, tables, rec_at, count}
use Rattle.model.specs.References.{Target, copied, start, upto, ref, opt, targets, target, Node, ref_of, refs, carry_w, through, first_word, undefined_at, moved, shift}
use Rattle.model.specs.Imports.{Derived, made, commit, mapped_to_t}
use Rattle.theory_image.specs.Plain.{plain_more}
use Rattle.theory_image.specs.Carries.{lays_carry}
use Rattle.theory_records.specs.TableLaws.{apart}
use Rattle.theory_records.specs.RecordLaws.{All, all_map, rest_of, Went}
use Rattle.theory_records.specs.Well.{home, InitLow, Good, WF}
use Rattle.theory_records.specs.Trace.{Ready, Trace, keep_rule}
use Rattle.theory_records.specs.Theorems.{commit_grows, settle_new}
use Rattle.theory_records.specs.Kinds.{KindOf, is_copied, is_span, is_upto, is_name, is_type, is_constant, is_override, is_init, is_opt_init, is_expr, is_opt_expr, Kinds, no_kinds, kinds, row_of, record_kinds, far_copied}
use Rattle.theory_records.specs.Tested.{In, Low, Threes, Fours, threes, laid-at, constant-at, kinds_at, every-at}

-- ---- codes: copied words that have a bound, which is the same everywhere
abbrev nowhere : Bounds
nowhere = record { names = 0; types = 0; constants = 0; overrides = 0; globals = 0; inits = 0; functions = 0; exprs = 0; arguments = 0; locals = 0 }

unfoldable pub code_ok : Target → ℕ → ℕ → Bool
code_ok copied s w = under (bound nowhere s) w
code_ok start s w = true
code_ok upto s w = true
code_ok (ref p) s w = true
code_ok (opt p) s w = true

unfoldable pub codes : Cells → Bool
codes [] = true
codes (c ∷ cs) = code_ok (target (class c)) (class c) (word c) && codes cs

code_cell : (b : Bounds) {t : Tab} {s : ℕ} → KindOf t s → (w : ℕ) → under (bound b s) w ≡ true → code_ok (target s) s w ≡ true
unfolding code_ok target targets
code_cell b (is_copied {s} e f) w h = rw (e, f nowhere b) h
code_cell b is_span w h = refl
code_cell b is_upto w h = refl
code_cell b (is_name m) w h = refl
code_cell b (is_type m) w h = refl
code_cell b (is_constant m) w h = refl
code_cell b (is_override m) w h = refl
code_cell b (is_init m) w h = refl
code_cell b (is_opt_init m) w h = refl
code_cell b (is_expr m) w h = refl
code_cell b (is_opt_expr m) w h = refl

within-codes : (b : Bounds) {t : Tab} {r : Cells} → Kinds t r → within b r ≡ true → codes r ≡ true
unfolding within codes
within-codes b no_kinds h = refl
within-codes b (kinds {s} {w} {cs} k ks) h = let a = and_split (under (bound b s) w) (within b cs) h in and-true (code_cell b k w a.0) (within-codes b ks a.1)

carry_code : (f : Went) (t : Target) (s w : ℕ) → code_ok t s (carry_w f t w) ≡ code_ok t s w
unfolding code_ok carry_w
carry_code f copied s w = refl
carry_code f start s w = refl
carry_code f upto s w = refl
carry_code f (ref p) s w = refl
carry_code f (opt p) s w = refl

codes-carry : (f : Went) (r : Cells) → codes (carry_cells (through f) r) ≡ codes r
unfolding codes carry_cell through
codes-carry f [] = refl
codes-carry f (c ∷ cs) = rw (carry_code f (target (class c)) (class c) (word c), codes-carry f cs)

move_code : (t : Target) (s w o : ℕ) (u : Bool) → code_ok t s (moved t w o u) ≡ code_ok t s w
unfolding code_ok moved
move_code copied s w o u = refl
move_code start s w o u = refl
move_code upto s w o u = refl
move_code (ref p) s w o u = refl
move_code (opt p) s w o u = refl

codes-shift : (r : Cells) (o : ℕ) (u : Bool) → codes (shift r o u) ≡ codes r
unfolding codes shift
codes-shift [] o u = refl
codes-shift (c ∷ cs) o u = let v = undefined_at (target (class c)) (word c) (first_word cs) u in rw (move_code (target (class c)) (class c) (word c) o v, codes-shift cs o v)

-- ---- layout
pub through_keeps : (f : Went) → Keeps (through f)
through_keeps f = record { kept = λ s w h. unfold through carry_w in rw (far_copied s (omega arith)) refl }

pub more-moved : (s w o : ℕ) (u : Bool) → more s (moved (target s) w o u) ≡ more s w
more-moved s w o u = go (ltb s PAD) refl
  where
    go : (b : Bool) → ltb s PAD ≡ b → more s (moved (target s) w o u) ≡ more s w
    go true e = plain_more s (moved (target s) w o u) e ∙ sym (plain_more s w e)
    go false e = unfold moved in rw (far_copied s (omega (arith, ltb-false s PAD e))) refl

pub lays_shift : {ss : Row} {cs : Cells} → Lays ss cs → (o : ℕ) (u : Bool) → Lays ss (shift cs o u)
unfolding shift
lays_shift lays_none o u = lays_none
lays_shift (lays_next {s} {w} {cs} e l) o u = let v = undefined_at (target s) w (first_word cs) u in lays_next (more-moved s w o v ∙ e) (lays_shift l o v)

-- the kind of a record is as it was
kind-made : (f : Went) (r : Cells) (o : ℕ) (u : Bool) → kind (shift (carry_cells (through f) r) o u) ≡ kind r
unfolding kind shift carry_cell through
kind-made f [] o u = refl
kind-made f (c ∷ cs) o u = go (eqb (class c) EXPR_KIND) refl
  where
    v : Bool
    v = undefined_at (target (class c)) (carry_w f (target (class c)) (word c)) (first_word (carry_cells (through f) cs)) u

    stays : class c ≡ EXPR_KIND → moved (target (class c)) (carry_w f (target (class c)) (word c)) o v ≡ word c
    stays e = unfold moved carry_w in rw (far_copied (class c) (omega arith)) refl

    go : (b : Bool) → eqb (class c) EXPR_KIND ≡ b → ◌≡◌ {A = ℕ} (elim b [ true ↦ moved (target (class c)) (carry_w f (target (class c)) (word c)) o v | false ↦ NO_KIND ]) (elim b [ true ↦ word c | false ↦ NO_KIND ])
    go true e = stays (eqb-true (class c) EXPR_KIND e)
    go false e = refl

-- ---- a record that is allowed in table t
pub record FitR (t : Tab) (r : Cells) : Type 0 where
  pub laid : Lays (row_of t) r
  pub coded : (t ≡ names → ⊥) → codes r ≡ true
  pub constant : t ≡ exprs → constant_kind (kind r) ≡ true

unfoldable pub Fit : Tables → Type 0
Fit T = (t : Tab) (k : ℕ) → k < count T t → FitR t (rec_at T t k)

fit-made : (f : Went) (o : ℕ) {t : Tab} {r : Cells} → FitR t r → FitR t (shift (carry_cells (through f) r) o false)
fit-made f o {t} {r} h = record {
  laid = lays_shift (lays_carry (through f) (through_keeps f) h.laid) o false;
  coded = λ e. codes-shift (carry_cells (through f) r) o false ∙ (codes-carry f r ∙ h.coded e);
  constant = λ e. rw (kind-made f r o false) (h.constant e);
}

commit-fit : (o : ℕ) (T : Tables) → Fit T → (s : Derived) (t : Tab) (n : ℕ) → Ready T s t n → Fit s.recs → Fit (commit o T t n s).recs
unfolding Fit commit
commit-fit o T source s t n r F u k h = go (dec_lt k (count s.recs u))
  where
    go : Dec (k < count s.recs u) → FitR u (rec_at (commit o T t n s).recs u k)
    go (yes l) = rw ((commit_grows o T s t n).prefix u k l) (F u k l)
    go (no l) =
        let w = settle_new t n (made o T t n s) s u k h l in
        rw (w.2, w.0) (unfold made in fit-made (mapped_to_t s) o (source t n r.range))

pub trace_fit : (o : ℕ) (T : Tables) → Fit T → {a b : Derived} → Trace o T a b → Fit a.recs → Fit b.recs
trace_fit o T source = keep_rule (λ s. Fit s.recs) (commit-fit o T source)

-- what passes intake fits
module _ (m : Module) (well : WellFormed m) (three : numbered m ≡ true) (four : lower m ≡ true) where
  coded-at : (t : Tab) (k : ℕ) → k < count (tables m) t → (t ≡ names → ⊥) → codes (rec_at (tables m) t k) ≡ true
  unfolding rec_at tables at count
  coded-at names k h n = absurd (n refl)
  coded-at types k h n = within-codes (outside m) (kinds_at m well three four types k) (every-at (within (outside m)) m.types (threes m well three four).types_in k [] h)
  coded-at constants k h n = within-codes (outside m) (kinds_at m well three four constants k) (every-at (within (outside m)) m.constants (threes m well three four).constants_in k [] h)
  coded-at overrides k h n = within-codes (outside m) (kinds_at m well three four overrides k) (every-at (within (outside m)) m.overrides (threes m well three four).overrides_in k [] h)
  coded-at globals k h n = within-codes (outside m) (kinds_at m well three four globals k) (every-at (within (outside m)) m.globals (threes m well three four).globals_in k [] h)
  coded-at exprs k h n = within-codes (outside m) (kinds_at m well three four exprs k) (every-at (within (outside m)) m.exprs (threes m well three four).exprs_in k [] h)

  pub tested-fit : Fit (tables m)
  unfolding Fit
  tested-fit t k h = record { laid = laid-at m well three four t k h; coded = coded-at t k h; constant = constant-at m well three four t k h }

-- the references of a word, without those after it
pub first_of : (P : Node → Type 0) (t : Target) (w : ℕ) (rest : List Node) → All P (ref_of t w rest) → All P (ref_of t w [])
unfolding ref_of
first_of P copied w rest a = tt
first_of P start w rest a = tt
first_of P upto w rest a = tt
first_of P (ref p) w rest a = (a.0, tt)
first_of P (opt p) zero rest a = tt
first_of P (opt p) (suc n) rest a = (a.0, tt)

-- ---- and what fits and is well formed passes tests 3 and 4
module _ (d : Module) where
  within-cell : {t : Tab} {s : ℕ} → KindOf t s → (w : ℕ) → code_ok (target s) s w ≡ true → All (In d) (ref_of (target s) w []) → under (bound (outside d) s) w ≡ true
  unfolding code_ok target targets ref_of bound caps under outside home count tables at
  within-cell (is_copied {s} e f) w h a = rw (f (outside d) nowhere) (rw e at h)
  within-cell is_span w h a = refl
  within-cell is_upto w h a = refl
  within-cell (is_name m) zero h a = lt-ltb 0 (suc (length d.names)) (omega arith)
  within-cell (is_name m) (suc n) h a = lt-ltb _ _ (suc-le-suc a.0)
  within-cell (is_type m) w h a = lt-ltb _ _ a.0
  within-cell (is_constant m) w h a = lt-ltb _ _ a.0
  within-cell (is_override m) w h a = lt-ltb _ _ a.0
  within-cell (is_init m) w h a = lt-ltb _ _ a.0
  within-cell (is_opt_init m) zero h a = lt-ltb 0 (suc (length d.exprs)) (omega arith)
  within-cell (is_opt_init m) (suc n) h a = lt-ltb _ _ (suc-le-suc a.0)
  within-cell (is_expr m) w h a = lt-ltb _ _ a.0
  within-cell (is_opt_expr m) zero h a = lt-ltb 0 (suc (length d.exprs)) (omega arith)
  within-cell (is_opt_expr m) (suc n) h a = lt-ltb _ _ (suc-le-suc a.0)

  within_of : {t : Tab} {r : Cells} → Kinds t r → codes r ≡ true → All (In d) (refs r) → within (outside d) r ≡ true
  unfolding within codes refs
  within_of no_kinds h a = refl
  within_of (kinds {s} {w} {cs} k ks) h a =
      let c = and_split (code_ok (target s) s w) (codes cs) h in
      and-true (within-cell k w c.0 (first_of (In d) (target s) w (refs cs) a)) (within_of ks c.1 (rest_of (In d) (target s) w (refs cs) a))

-- every record of a list
every_of : {A : Type 0} (p : A → Bool) (d : A) (l : List A) → ((k : ℕ) → k < length l → p (get_or l k d) ≡ true) → every p l ≡ true
unfolding every
every_of p d [] f = refl
every_of p d (x ∷ l) f = and-true (f 0 (omega arith)) (every_of p d l (λ k h. f (suc k) (suc-le-suc h)))

-- ---- test 4
below_bases : (r : Cells) (n : ℕ) → All (Low types n) (refs r) → below (bases_of r) n ≡ true
unfolding below bases_of refs
below_bases [] n a = refl
below_bases (c ∷ cs) n a = go (eqb (class c) TYPE) refl (below_bases cs n (rest_of (Low types n) (target (class c)) (word c) (refs cs) a))
  where
    low : class c ≡ TYPE → word c < n
    low e = let z : All (Low types n) (ref_of (target TYPE) (word c) (refs cs)) = rw e at a in unfold target targets ref_of home in z.0 refl

    go : (b : Bool) → eqb (class c) TYPE ≡ b → below (bases_of cs) n ≡ true → below (elim b [ true ↦ word c ∷ bases_of cs | false ↦ bases_of cs ]) n ≡ true
    go true e ih = and-true (lt-ltb (word c) n (low (eqb-true (class c) TYPE e))) ih
    go false e ih = ih

-- a word of the class `one` of an expression, or of the class `two` of an optional one
below_two : (s w n : ℕ) (one two : ℕ) (xs : List ℕ) → (s ≡ one → w < n) → (s ≡ two → (e : ℕ) → w ≡ suc e → e < n) → below xs n ≡ true
    → below (elim (eqb s one) [ true ↦ w ∷ xs | false ↦ elim (eqb s two) [ true ↦ optional w xs | false ↦ xs ] ]) n ≡ true
unfolding below optional
below_two s w n one two xs f g ih = go (eqb s one) (eqb s two) refl refl
  where
    opt_low : (v : ℕ) → ((e : ℕ) → v ≡ suc e → e < n) → below (optional v xs) n ≡ true
    opt_low zero k = ih
    opt_low (suc e) k = and-true (lt-ltb e n (k e refl)) ih

    go : (a b : Bool) → eqb s one ≡ a → eqb s two ≡ b → below (elim a [ true ↦ w ∷ xs | false ↦ elim b [ true ↦ optional w xs | false ↦ xs ] ]) n ≡ true
    go true b p q = and-true (lt-ltb w n (f (eqb-true s one p))) ih
    go false true p q = opt_low w (g (eqb-true s two q))
    go false false p q = ih

below-ops : (r : Cells) (n : ℕ) → All (Low exprs n) (refs r) → below (ops_of r) n ≡ true
unfolding ops_of operand refs below
below-ops [] n a = refl
below-ops (c ∷ cs) n a = below_two (class c) (word c) n EXPR OPT_EXPR (ops_of cs) one two (below-ops cs n (rest_of (Low exprs n) (target (class c)) (word c) (refs cs) a))
  where
    one : class c ≡ EXPR → word c < n
    one e = let z : All (Low exprs n) (ref_of (target EXPR) (word c) (refs cs)) = rw e at a in unfold target targets ref_of home in z.0 refl

    two : class c ≡ OPT_EXPR → (e : ℕ) → word c ≡ suc e → e < n
    two e x q = let z : All (Low exprs n) (ref_of (target OPT_EXPR) (suc x) (refs cs)) = rw (e, q) at a in unfold target targets ref_of home in z.0 refl

below-init : (r : Cells) (n : ℕ) → All (Low exprs n) (refs r) → below (init_of r) n ≡ true
unfolding init_of refs below
below-init [] n a = refl
below-init (c ∷ cs) n a = below_two (class c) (word c) n INIT OPT_INIT (init_of cs) one two (below-init cs n (rest_of (Low exprs n) (target (class c)) (word c) (refs cs) a))
  where
    one : class c ≡ INIT → word c < n
    one e = let z : All (Low exprs n) (ref_of (target INIT) (word c) (refs cs)) = rw e at a in unfold target targets ref_of home in z.0 refl

    two : class c ≡ OPT_INIT → (e : ℕ) → word c ≡ suc e → e < n
    two e x q = let z : All (Low exprs n) (ref_of (target OPT_INIT) (suc x) (refs cs)) = rw (e, q) at a in unfold target targets ref_of home in z.0 refl

below-join : (xs ys : List ℕ) (n : ℕ) → below xs n ≡ true → below ys n ≡ true → below (xs ++ ys) n ≡ true
unfolding below
below-join [] ys n h k = k
below-join (x ∷ xs) ys n h k = let a = and_split (ltb x n) (below xs n) h in and-true a.0 (below-join xs ys n a.1 k)

module _ (d : Module) where
  below-inits : (r : Cells) (n : ℕ) → All (InitLow (tables d) n) (refs r) → below (inits_of r d.constants d.overrides) n ≡ true
  unfolding inits_of refs below
  below-inits [] n a = refl
  below-inits (c ∷ cs) n a = go (eqb (class c) CONSTANT) (eqb (class c) OVERRIDE) refl refl (below-inits cs n (rest_of (InitLow (tables d) n) (target (class c)) (word c) (refs cs) a))
    where
      one : class c ≡ CONSTANT → below (init_of (get_or d.constants (word c) [])) n ≡ true
      one e =
          let z : All (InitLow (tables d) n) (ref_of (target CONSTANT) (word c) (refs cs)) = rw e at a in
          below-init (get_or d.constants (word c) []) n (unfold target targets ref_of InitLow home rec_at tables at in z.0)

      two : class c ≡ OVERRIDE → below (init_of (get_or d.overrides (word c) [])) n ≡ true
      two e =
          let z : All (InitLow (tables d) n) (ref_of (target OVERRIDE) (word c) (refs cs)) = rw e at a in
          below-init (get_or d.overrides (word c) []) n (unfold target targets ref_of InitLow home rec_at tables at in z.0)

      rest : List ℕ
      rest = inits_of cs d.constants d.overrides

      go : (x y : Bool) → eqb (class c) CONSTANT ≡ x → eqb (class c) OVERRIDE ≡ y → below rest n ≡ true
          → below (elim x [ true ↦ init_of (get_or d.constants (word c) []) ++ rest | false ↦ elim y [ true ↦ init_of (get_or d.overrides (word c) []) ++ rest | false ↦ rest ] ]) n ≡ true
      go true y p q ih = below-join (init_of (get_or d.constants (word c) [])) rest n (one (eqb-true (class c) CONSTANT p)) ih
      go false true p q ih = below-join (init_of (get_or d.overrides (word c) [])) rest n (two (eqb-true (class c) OVERRIDE q)) ih
      go false false p q ih = ih

-- the passes over a table
types_of : (rs : List Cells) (i : ℕ) → ((k n : ℕ) → k < length rs → n ≡ i + k → below (bases_of (get_or rs k [])) n ≡ true) → types_lower rs i ≡ true
unfolding types_lower
types_of [] i f = refl
types_of (r ∷ rs) i f = and-true (f 0 i (omega arith) (omega arith)) (types_of rs (suc i) (λ k n h e. f (suc k) n (suc-le-suc h) (omega arith)))

operands_of : (rs : List Cells) (i : ℕ) → ((k n : ℕ) → k < length rs → n ≡ i + k → below (ops_of (get_or rs k [])) n ≡ true) → operands_lower rs i ≡ true
unfolding operands_lower
operands_of [] i f = refl
operands_of (r ∷ rs) i f = and-true (f 0 i (omega arith) (omega arith)) (operands_of rs (suc i) (λ k n h e. f (suc k) n (suc-le-suc h) (omega arith)))

inits_of_lem : (ks os rs : List Cells) (i : ℕ) → ((k n : ℕ) → k < length rs → n ≡ i + k → below (inits_of (get_or rs k []) ks os) n ≡ true) → inits_lower rs ks os i ≡ true
unfolding inits_lower
inits_of_lem ks os [] i f = refl
inits_of_lem ks os (r ∷ rs) i f = and-true (f 0 i (omega arith) (omega arith)) (inits_of_lem ks os rs (suc i) (λ k n h e. f (suc k) n (suc-le-suc h) (omega arith)))

-- THE TABLES OF A MODULE THAT FITS AND IS WELL FORMED PASS TESTS 3 AND 4
module _ (d : Module) (wf : WF (tables d)) (fit : Fit (tables d)) where
  good_at : (t : Tab) (n : ℕ) → n < count (tables d) t → All (Good (tables d) t n) (refs (rec_at (tables d) t n))
  unfolding WF
  good_at t n h = wf t n h

  fit_at : (t : Tab) (n : ℕ) → n < count (tables d) t → FitR t (rec_at (tables d) t n)
  unfolding Fit
  fit_at t n h = fit t n h

  fit_kinds : (t : Tab) (n : ℕ) → n < count (tables d) t → Kinds t (rec_at (tables d) t n)
  fit_kinds t n h = record_kinds t (fit_at t n h).laid (fit_at t n h).constant

  passes-within : (t : Tab) → (t ≡ names → ⊥) → (n : ℕ) → n < count (tables d) t → within (outside d) (rec_at (tables d) t n) ≡ true
  passes-within t e n h = within_of d (fit_kinds t n h) ((fit_at t n h).coded e) (all_map (refs (rec_at (tables d) t n)) (λ j g. g.inside) (good_at t n h))

  pub passes-three : Threes d
  unfolding rec_at tables at count is_t code_t
  passes-three = record {
    types_in = every_of (within (outside d)) [] d.types (passes-within types (λ e. apart types names refl e));
    constants_in = every_of (within (outside d)) [] d.constants (passes-within constants (λ e. apart constants names refl e));
    overrides_in = every_of (within (outside d)) [] d.overrides (passes-within overrides (λ e. apart overrides names refl e));
    globals_in = every_of (within (outside d)) [] d.globals (passes-within globals (λ e. apart globals names refl e));
    exprs_in = every_of (within (outside d)) [] d.exprs (passes-within exprs (λ e. apart exprs names refl e));
    constant_in = every_of constant_only [] d.exprs (λ k h. unfold constant_only in (fit_at exprs k h).constant refl);
  }

  pub passes_four : Fours d
  unfolding rec_at tables at count
  passes_four = record {
    bases = types_of d.types 0 (λ k n h e. let q : n ≡ k = omega arith in rw q (below_bases (get_or d.types k []) k (all_map (refs (get_or d.types k [])) (λ j g. g.lower) (good_at types k h))));
    operands = operands_of d.exprs 0 (λ k n h e. let q : n ≡ k = omega arith in rw q (below-ops (get_or d.exprs k []) k (all_map (refs (get_or d.exprs k [])) (λ j g. g.lower) (good_at exprs k h))));
    inits = inits_of_lem d.constants d.overrides d.exprs 0 (λ k n h e. let q : n ≡ k = omega arith in rw q (below-inits d (get_or d.exprs k []) k (all_map (refs (get_or d.exprs k [])) (λ j g. g.init refl) (good_at exprs k h))));
  }
