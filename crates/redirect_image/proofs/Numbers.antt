-- Digits, tested and then parsed: what that gives is what is read of them one by one.
use mathlib.Core.Path.{◌≡◌, refl, sym, ap, subst, ◌∙◌}
use mathlib.Core.Bool.{Bool, true, false}
use mathlib.Core.Logic.{◌⊎◌, inl, inr}
use mathlib.Core.List.{List, [], ◌∷◌}
use Prim.Native.Nat.{ℕ, ◌+◌, ◌-◌, ◌*◌, ◌^◌, ◌≤◌, ◌<◌}
use native.Mathlib.Omega.{arith}
use lib.Dec.{ltb}
use lib.ListN.{length}
use borrow.Author.Tests.{lt-ltb, le-ltb, ltb-true, ltb-false, le-leb, lt-leb}
use Rattle.std.specs.Prelude.{Option, Some, None, Result, Ok, Err}
use Rattle.std.specs.List.{list_all}
use Rattle.std.specs.Option.{option_and_then}
use Rattle.std.specs.Result.{result_ok, MatchResult, OkIff}
use Rattle.std.specs.Char.{is_ascii_digit, digit_value}
use Rattle.std.specs.Int.{IsInRange}
use Rattle.std.specs.Str.{IsAscii, IsUtf8}
use Rattle.std.specs.Str.Parse.{AllDigits, digits_value_after, digits_value, ParsesUnsigned}
use Rattle.std.proofs.lemmas.Str.{digit_value_digit, IsUtf8-from_ascii}
use Rattle.std.proofs.lemmas.Str.Ascii.{IsAscii-nil, IsAscii-cons}
use Rattle.std.proofs.lemmas.Str.Parse.{digit_from_value, tells_digits, numerals_by_value, parse_digits}
use Rattle.redirect_image.specs.Numbers.{stepped, steps, read}

-- ---- one digit

digit_or_not : (d : ℕ) → (IsInRange 48 57 d × (is_ascii_digit d ≡ true)) ⊎ ((is_ascii_digit d ≡ false) × ((x : ℕ) → stepped x d ≡ None))
unfolding stepped
digit_or_not d = go (ltb d 48) (ltb 57 d) refl refl
  where
    go : (a b : Bool) → ltb d 48 ≡ a → ltb 57 d ≡ b → (IsInRange 48 57 d × (is_ascii_digit d ≡ true)) ⊎ ((is_ascii_digit d ≡ false) × ((x : ℕ) → stepped x d ≡ None))
    go true b p q = inr (rw (lt-leb 48 d (ltb-true d 48 p)), λ x. rw p)
    go false true p q = inr (rw (le-leb 48 d (ltb-false d 48 p), lt-leb d 57 (ltb-true 57 d q)), λ x. rw (p, q))
    go false false p q = let l = ltb-false d 48 p in let m = ltb-false 57 d q in inl ((l, m), rw (le-leb 48 d l, le-leb d 57 m))

stepped_in : (x d : ℕ) → IsInRange 48 57 d → x * 10 + digit_value d < 2 ^ 32 → stepped x d ≡ Some (x * 10 + digit_value d)
unfolding stepped
stepped_in x d k h =
    let v : 10 * x + (d - 48) ≡ x * 10 + digit_value d = omega (arith, digit_value_digit d k) in
    let below : 10 * x + (d - 48) < 4294967296 = omega arith in
    let w : stepped x d ≡ Some (10 * x + (d - 48)) = rw (le-ltb d 48 k.0, le-ltb 57 d k.1, lt-ltb _ _ below) in
    w ∙ ap Some v

stepped_over : (x d : ℕ) → IsInRange 48 57 d → 2 ^ 32 ≤ x * 10 + digit_value d → stepped x d ≡ None
unfolding stepped
stepped_over x d k h =
    let above : 4294967296 ≤ 10 * x + (d - 48) = omega (arith, digit_value_digit d k) in
    rw (le-ltb d 48 k.0, le-ltb 57 d k.1, le-ltb _ _ above)

-- ---- all of them

after_ge : (x : ℕ) (ds : List ℕ) → x ≤ digits_value_after 10 x ds
after_ge x [] = omega arith
after_ge x (d ∷ ds) = omega (arith, after_ge (x * 10 + digit_value d) ds)

steps_value : (ds : List ℕ) (x : ℕ) → AllDigits 10 ds → digits_value_after 10 x ds < 2 ^ 32 → steps ds x ≡ Some (digits_value_after 10 x ds)
unfolding steps
steps_value [] x a h = refl
steps_value (d ∷ ds) x a h =
    rw (stepped_in x d (digit_from_value d a.0) (omega (arith, after_ge (x * 10 + digit_value d) ds))) (steps_value ds (x * 10 + digit_value d) a.1 h)

steps_over : (ds : List ℕ) (x : ℕ) → AllDigits 10 ds → x < 2 ^ 32 → 2 ^ 32 ≤ digits_value_after 10 x ds → steps ds x ≡ None
unfolding steps
steps_over [] x a l h = absurd (omega arith)
steps_over (d ∷ ds) x a l h = go (ltb (x * 10 + digit_value d) (2 ^ 32)) refl (λ m. steps_over ds (x * 10 + digit_value d) a.1 m h)
  where
    go : (b : Bool) → ltb (x * 10 + digit_value d) (2 ^ 32) ≡ b → (x * 10 + digit_value d < 2 ^ 32 → steps ds (x * 10 + digit_value d) ≡ None) → option_and_then (steps ds) (stepped x d) ≡ None
    go true p r = let m = ltb-true _ _ p in rw (stepped_in x d (digit_from_value d a.0) m) (r m)
    go false p r = rw (stepped_over x d (digit_from_value d a.0) (ltb-false _ _ p))

steps_wrong : (ds : List ℕ) (x : ℕ) → list_all is_ascii_digit ds ≡ false → steps ds x ≡ None
unfolding steps
steps_wrong [] x e = cc
steps_wrong (d ∷ ds) x e = go (digit_or_not d) (λ y. steps_wrong ds y)
  where
    go : (IsInRange 48 57 d × (is_ascii_digit d ≡ true)) ⊎ ((is_ascii_digit d ≡ false) × ((y : ℕ) → stepped y d ≡ None)) → ((y : ℕ) → list_all is_ascii_digit ds ≡ false → steps ds y ≡ None) → option_and_then (steps ds) (stepped x d) ≡ None
    go (inr n) h = rw (n.1 x)
    go (inl k) h = rest (stepped x d) (rw k.1 at e)
      where
        rest : (o : Option ℕ) → list_all is_ascii_digit ds ≡ false → option_and_then (steps ds) o ≡ None
        rest None q = refl
        rest (Some y) q = h y q

-- ---- the test, and then `parse`

pub digits_are : (ds : List ℕ) → list_all is_ascii_digit ds ≡ true → AllDigits 10 ds
digits_are [] e = tt
digits_are (d ∷ ds) e = go (digit_or_not d) (digits_are ds)
  where
    go : (IsInRange 48 57 d × (is_ascii_digit d ≡ true)) ⊎ ((is_ascii_digit d ≡ false) × ((x : ℕ) → stepped x d ≡ None)) → (list_all is_ascii_digit ds ≡ true → AllDigits 10 ds) → AllDigits 10 (d ∷ ds)
    go (inl k) r = (omega (arith, digit_value_digit d k.0), r (rw k.1 at e))
    go (inr n) r = let f : false ≡ true = rw n.0 at e in cc

digits_ascii : (ds : List ℕ) → AllDigits 10 ds → IsAscii ds
digits_ascii [] a = IsAscii-nil
digits_ascii (d ∷ ds) a = IsAscii-cons d ds (omega (arith, digit_from_value d a.0)) (digits_ascii ds a.1)

pub read_wrong : (text : List ℕ) → list_all is_ascii_digit text ≡ false → None ≡ read text
unfolding read
read_wrong [] e = refl
read_wrong (d ∷ ds) e = sym (steps_wrong (d ∷ ds) 0 e)

pub digits_utf8 : (ds : List ℕ) → list_all is_ascii_digit ds ≡ true → IsUtf8 ds
digits_utf8 ds e = IsUtf8-from_ascii ds (digits_ascii ds (digits_are ds e))

pub read_parsed : {E : Type 0} (text : List ℕ) → list_all is_ascii_digit text ≡ true → (r : Result ℕ E) → ParsesUnsigned 32 10 text r → result_ok r ≡ read text
unfolding read
read_parsed text e r h = go text (digits_are text e) r (parse_digits (numerals_by_value (AllDigits 10) tells_digits) 32 text r h (digits_are text e))
  where
    go : {E : Type 0} (l : List ℕ) → AllDigits 10 l → (r : Result ℕ E) → OkIff r ((0 < length l) × (digits_value 10 l < 2 ^ 32)) (digits_value 10 l) → result_ok r ≡ read l
    go [] a (Ok v) k = absurd (omega (arith, k.0.0))
    go [] a (Err f) k = refl
    go (d ∷ ds) a (Ok v) k = ap Some k.1 ∙ sym (steps_value (d ∷ ds) 0 a k.0.1)
    go (d ∷ ds) a (Err f) k = sym (steps_over (d ∷ ds) 0 a (omega arith) (over (ltb (digits_value 10 (d ∷ ds)) (2 ^ 32)) refl))
      where
        over : (b : Bool) → ltb (digits_value 10 (d ∷ ds)) (2 ^ 32) ≡ b → 2 ^ 32 ≤ digits_value 10 (d ∷ ds)
        over true p = absurd (k (omega arith, ltb-true _ _ p))
        over false p = ltb-false _ _ p

-- what a `Result` that is taken for an `Option` says
module _ {T E : Type 0} (A : T → Type 0) (B : E → Type 0) where
  pub some_is : (r : Result T E) → MatchResult r A B → (o : Option T) → o ≡ result_ok r → (s : T) → o ≡ Some s → A s
  some_is (Ok t) m o p s q = let u : t ≡ s = cc in subst A u m
  some_is (Err e) m o p s q = cc

  pub none_is : (r : Result T E) → MatchResult r A B → (o : Option T) → o ≡ result_ok r → o ≡ None → (e : E) × B e
  none_is (Ok t) m o p q = cc
  none_is (Err e) m o p q = (e, m)
