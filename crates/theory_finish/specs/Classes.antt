-- Where a class does not occur: names have no NAME and no FROM, expressions have neither, a body has no NAME, and what comes before a body has no FROM.
use Rattle.std.proofs.Math.Path.{◌≡◌, refl}
use Rattle.std.proofs.Common.{ap}
use Rattle.std.specs.Prelude.{Bool, ◌&&◌, ◌||◌, ltb, replicate}
use Rattle.std.proofs.Math.Bool.{true, false, not}
use Rattle.std.proofs.Math.Option.{some}
use mathlib.Core.List.{List, [], ◌∷◌, ◌++◌}
use Prim.Native.Nat.{ℕ, zero, suc, ◌+◌, ◌-◌, ◌/◌, ◌%◌, ◌<◌, ◌≤◌, ◌^◌}
use native.Mathlib.Omega.{arith}
use Rattle.std.proofs.Math.Nat.{mod-lt}
use Rattle.std.proofs.Math.Dec.{eqb}
use Rattle.std.proofs.Math.ListN.{get_elem?}
use borrow.Author.Tests.{eqb-true, eqb-false, lt-ltb, ne_eqb, not-true}
use Rattle.theory_lists.specs.Booleans.{and-true, and_split, or_l}
use Rattle.model.specs.Outcome.{Cell, Cells, class}
use Rattle.model.specs.Table.{Row, WORD, NAME, FUNCTION, CALLEE, FROM, PLACE, PAD, TEXT, VALUE, ATOMIC, RETURNS, EXPR_KIND, Shape, s_emit, s_block, s_if, s_switch, s_loop, s_break, s_continue, s_return, s_kill, s_call, s_effect, values, atomics, results, statements, variants, text, brings, over, more}
use Rattle.model.specs.Tree.{flat_all}
use Rattle.model.specs.Carry.{Lays, lays_none, lays_next, Each, each_none, each_next}
use Rattle.theory_image.specs.Plain.{plain_more}
use Rattle.theory_image.specs.Quiet.{each_append, each_map}
use Rattle.theory_image.specs.FunctionViews.{among, split_or, variant_brings, NOT_FIELDS, field_not, Expression, expression, expression_shape}
use Rattle.theory_finish.specs.Firsts.{either}

-- a cell of another class
abbrev pub Not : ℕ → Cell → Type 0
Not x c = eqb (class c) x ≡ false

-- ---- symbols whose words are followed by no cell of the class x
unfoldable pub calm? : ℕ → ℕ → Bool
calm? x s = (ltb s TEXT && not (eqb s x)) || among s (TEXT ∷ VALUE ∷ ATOMIC ∷ RETURNS ∷ [])

unfoldable pub calms? : ℕ → Row → Bool
calms? x [] = true
calms? x (s ∷ ss) = calm? x s && calms? x ss

unfoldable rows? : ℕ → List Row → Bool
rows? x [] = true
rows? x (r ∷ rs) = calms? x r && rows? x rs

calms_append : (x : ℕ) (xs ss : Row) → calms? x xs ≡ true → calms? x ss ≡ true → calms? x (xs ++ ss) ≡ true
unfolding calms?
calms_append x [] ss h k = k
calms_append x (s ∷ xs) ss h k = let p = and_split (calm? x s) (calms? x xs) h in and-true p.0 (calms_append x xs ss p.1 k)

rows_at : (x : ℕ) (l : List Row) (k : ℕ) {r : Row} → rows? x l ≡ true → get_elem? l k ≡ some r → calms? x r ≡ true
unfolding rows?
rows_at x [] k h e = let z : ◌≡◌ {A = ℕ} 0 1 = cc in absurd (omega arith)
rows_at x (y ∷ l) zero {r} h e = let q : y ≡ r = cc in rw q at (and_split (calms? x y) (rows? x l) h).0
rows_at x (y ∷ l) (suc k) h e = rows_at x l k (and_split (calms? x y) (rows? x l) h).1 e

-- a word of a class below TEXT has no fields after it
pub small_more : (s w : ℕ) (xs : Row) → ltb s TEXT ≡ true → more s w ≡ brings xs → xs ≡ []
small_more s w xs h e = either (ltb s PAD) (λ a. let q = plain_more s w a in (cc)) λ a. padded a (ltb w (256 ^ (s - PLACE))) refl
  where
    padded : ltb s PAD ≡ false → (b : Bool) → ltb w (256 ^ (s - PLACE)) ≡ b → xs ≡ []
    padded a true f = let q : more s w ≡ brings [] = (unfold more in rw (more, a, h, f) refl) in cc
    padded a false f = let q : more s w ≡ over = (unfold more in rw (more, a, h, f) refl) in let z : ◌≡◌ {A = ℕ} 0 1 = cc in absurd (omega arith)

module _ (x : ℕ) (low : x < PAD) (plain : calm? x WORD ≡ true) (vs : rows? x values ≡ true) (ats : rows? x atomics ≡ true) (rs : rows? x results ≡ true) where
  calms_words : (n : ℕ) → calms? x (replicate n WORD) ≡ true
  unfolding calms?
  calms_words zero = refl
  calms_words (suc n) = and-true plain (calms_words n)

  calm_small : (s : ℕ) → s < TEXT → (s ≡ x → ⊥) → calm? x s ≡ true
  unfolding calm?
  calm_small s h n = or_l (ltb s TEXT && not (eqb s x)) _ (and-true (lt-ltb s TEXT h) (ap not (ne_eqb s x n)))

  calms_last : (w : ℕ) → (w % 4 ≡ 0 → ⊥) → calms? x ((PAD + w % 4 - 1) ∷ []) ≡ true
  unfolding calms?
  calms_last w z = let n : w % 4 < 4 = mod-lt w (omega arith) in and-true (calm_small (PAD + w % 4 - 1) (omega arith) λ q. z (omega arith)) refl

  calms_text : (w : ℕ) → calms? x (text w) ≡ true
  unfolding text calms?
  calms_text w =
      either (eqb (w % 4) 0) (λ e. rw e (calms_append x (replicate (w / 4) WORD) [] (calms_words (w / 4)) refl)) λ e.
      rw e (calms_append x (replicate (w / 4) WORD) ((PAD + w % 4 - 1) ∷ []) (calms_words (w / 4)) (calms_last w (eqb-false (w % 4) 0 e)))

  calm-class : (s : ℕ) → calm? x s ≡ true → eqb s x ≡ false
  unfolding calm?
  calm-class s h =
      split_or (ltb s TEXT && not (eqb s x)) (among s (TEXT ∷ VALUE ∷ ATOMIC ∷ RETURNS ∷ [])) h (λ a. not-true (eqb s x) (and_split (ltb s TEXT) (not (eqb s x)) a).1) λ a.
      split_or (eqb s TEXT) (among s (VALUE ∷ ATOMIC ∷ RETURNS ∷ [])) a (λ e. far TEXT e (omega arith)) λ a.
      split_or (eqb s VALUE) (among s (ATOMIC ∷ RETURNS ∷ [])) a (λ e. far VALUE e (omega arith)) λ a.
      split_or (eqb s ATOMIC) (among s (RETURNS ∷ [])) a (λ e. far ATOMIC e (omega arith)) λ a.
      split_or (eqb s RETURNS) (among s []) a (λ e. far RETURNS e (omega arith)) λ a.
      let z : ◌≡◌ {A = ℕ} 0 1 = cc in absurd (omega arith)
    where
      far : (k : ℕ) → eqb s k ≡ true → PAD ≤ k → eqb s x ≡ false
      far k e h = let p = eqb-true s k e in ne_eqb s x λ q. omega arith

  calm_more : (s w : ℕ) (xs : Row) → calm? x s ≡ true → more s w ≡ brings xs → calms? x xs ≡ true
  unfolding calm?
  calm_more s w xs h e =
      split_or (ltb s TEXT && not (eqb s x)) (among s (TEXT ∷ VALUE ∷ ATOMIC ∷ RETURNS ∷ [])) h (λ a. rw (small_more s w xs (and_split (ltb s TEXT) (not (eqb s x)) a).0 e) (unfold calms? in refl)) λ a.
      split_or (eqb s TEXT) (among s (VALUE ∷ ATOMIC ∷ RETURNS ∷ [])) a (λ q. at-text (rw (eqb-true s TEXT q) at e)) λ a.
      split_or (eqb s VALUE) (among s (ATOMIC ∷ RETURNS ∷ [])) a (λ q. at_value (rw (eqb-true s VALUE q) at e)) λ a.
      split_or (eqb s ATOMIC) (among s (RETURNS ∷ [])) a (λ q. at-atomic (rw (eqb-true s ATOMIC q) at e)) λ a.
      split_or (eqb s RETURNS) (among s []) a (λ q. at-returns (rw (eqb-true s RETURNS q) at e)) λ a.
      let z : ◌≡◌ {A = ℕ} 0 1 = cc in absurd (omega arith)
    where
      at-text : more TEXT w ≡ brings xs → calms? x xs ≡ true
      at-text e = let n : text w ≡ xs = unfold more in (cc) in rw n at (calms_text w)

      at_value : more VALUE w ≡ brings xs → calms? x xs ≡ true
      at_value e = rows_at x values w vs (variant_brings (get_elem? values w) (unfold more variants in e))

      at-atomic : more ATOMIC w ≡ brings xs → calms? x xs ≡ true
      at-atomic e = rows_at x atomics w ats (variant_brings (get_elem? atomics w) (unfold more variants in e))

      at-returns : more RETURNS w ≡ brings xs → calms? x xs ≡ true
      at-returns e = rows_at x results w rs (variant_brings (get_elem? results w) (unfold more variants in e))

  lays_calm : {ss : Row} {cs : Cells} → Lays ss cs → calms? x ss ≡ true → Each (Not x) cs
  unfolding calms?
  lays_calm lays_none h = each_none
  lays_calm (lays_next {s} {w} {xs} {ss} e l) h =
      let p = and_split (calm? x s) (calms? x ss) h in
      each_next (calm-class s p.0) (lays_calm l (calms_append x xs ss (calm_more s w xs p.0 e) p.1))

-- LAW, of cells laid out by a row without NAME, or without FROM
pub nameless : {ss : Row} {cs : Cells} → Lays ss cs → calms? NAME ss ≡ true → Each (Not NAME) cs
unfolding rows? calms? calm? values atomics results
nameless = lays_calm NAME (omega arith) refl refl refl refl

pub fromless : {ss : Row} {cs : Cells} → Lays ss cs → calms? FROM ss ≡ true → Each (Not FROM) cs
unfolding rows? calms? calm? values atomics results
fromless = lays_calm FROM (omega arith) refl refl refl refl

pub all_not : {ss : Row} {rs : List Cells} (x : ℕ) → ((cs : Cells) → Lays ss cs → Each (Not x) cs) → Each (Lays ss) rs → Each (Not x) (flat_all rs)
unfolding flat_all
all_not x f each_none = each_none
all_not x f (each_next {a = r} l ls) = each_append (f r l) (all_not x f ls)

-- ---- expressions
pub expression_not : {r : Cells} (x : ℕ) → among x NOT_FIELDS ≡ true → eqb EXPR_KIND x ≡ false → Lays (EXPR_KIND ∷ []) r → Each (Not x) r
expression_not x a e l = go (expression_shape l)
  where
    go : {r : Cells} → Expression r → Each (Not x) r
    go (expression h k l q) = each_next e (each_map (λ c f. field_not (class c) x f a) q)

-- ---- the rows of effects
calm_shape : ℕ → Shape → Bool
calm_shape x s_emit = true
calm_shape x s_block = true
calm_shape x s_if = true
calm_shape x s_switch = true
calm_shape x s_loop = true
calm_shape x s_break = true
calm_shape x s_continue = true
calm_shape x s_return = true
calm_shape x s_kill = true
calm_shape x s_call = true
calm_shape x (s_effect r) = calms? x r

shapes? : ℕ → List Shape → Bool
shapes? x [] = true
shapes? x (y ∷ ys) = calm_shape x y && shapes? x ys

shapes_at : (x : ℕ) (l : List Shape) (k : ℕ) {r : Row} → shapes? x l ≡ true → get_elem? l k ≡ some (s_effect r) → calms? x r ≡ true
unfolding shapes? calm_shape
shapes_at x [] k h e = let z : ◌≡◌ {A = ℕ} 0 1 = cc in absurd (omega arith)
shapes_at x (y ∷ l) zero {r} h e = let q : y ≡ s_effect r = cc in rw q at (and_split (calm_shape x y) (shapes? x l) h).0
shapes_at x (y ∷ l) (suc k) h e = shapes_at x l k (and_split (calm_shape x y) (shapes? x l) h).1 e

pub effect_nameless : (k : ℕ) {r : Row} {cs : Cells} → get_elem? statements k ≡ some (s_effect r) → Lays r cs → Each (Not NAME) cs
unfolding statements shapes? calm_shape calms? calm?
effect_nameless k e l = nameless l (shapes_at NAME statements k refl e)

-- ---- no number of a function
pub functionless : {ss : Row} {cs : Cells} → Lays ss cs → calms? FUNCTION ss ≡ true → Each (Not FUNCTION) cs
unfolding rows? calms? calm? values atomics results
functionless = lays_calm FUNCTION (omega arith) refl refl refl refl

pub calleeless : {ss : Row} {cs : Cells} → Lays ss cs → calms? CALLEE ss ≡ true → Each (Not CALLEE) cs
unfolding rows? calms? calm? values atomics results
calleeless = lays_calm CALLEE (omega arith) refl refl refl refl

pub effect_functionless : (k : ℕ) {r : Row} {cs : Cells} → get_elem? statements k ≡ some (s_effect r) → Lays r cs → Each (Not FUNCTION) cs
unfolding statements shapes? calm_shape calms? calm?
effect_functionless k e l = functionless l (shapes_at FUNCTION statements k refl e)

pub effect_calleeless : (k : ℕ) {r : Row} {cs : Cells} → get_elem? statements k ≡ some (s_effect r) → Lays r cs → Each (Not CALLEE) cs
unfolding statements shapes? calm_shape calms? calm?
effect_calleeless k e l = calleeless l (shapes_at CALLEE statements k refl e)
