-- Booleans as tests: a test passes if it is true. What follows from a conjunction or disjunction that passes, when two tests are one, and cases on a test.
-- That a negation passes or fails is in the kit (borrow.Author.Tests).
use Rattle.std.specs.Prelude.{◌≡◌, refl, ◌⊎◌, Bool, true, false, ◌&&◌, ◌||◌, not, ℕ}
use Rattle.std.proofs.Common.{sym, inl, inr, arith}
use Rattle.std.proofs.lemmas.Bool.{false≢true}

-- the test passes
abbrev pub Yes : Bool → Type 0
Yes b = b ≡ true

-- ---- cases
-- a test is one or the other
pub either : (b : Bool) → (b ≡ true) ⊎ (b ≡ false)
either true = inl refl
either false = inr refl

-- and never both
pub never : (b : Bool) → b ≡ true → b ≡ false → ⊥
never b t f = let z : ◌≡◌ {A = ℕ} 0 1 = cc in omega arith

pub by : (P : Type 0) (b : Bool) → (b ≡ true → P) → (b ≡ false → P) → P
by P true f g = f refl
by P false f g = g refl

pub if_true : {A : Type 0} (b : Bool) (x y : A) → b ≡ true → elim b [ true ↦ x | false ↦ y ] ≡ x
if_true true x y e = refl
if_true false x y e = cc

-- tests that are passed together are one
pub bool_same : (a b : Bool) → (a ≡ true → b ≡ true) → (b ≡ true → a ≡ true) → a ≡ b
bool_same true b f g = sym (f refl)
bool_same false true f g = g refl
bool_same false false f g = refl

-- ---- both of two tests
pub and-true : {a b : Bool} → a ≡ true → b ≡ true → a && b ≡ true
and-true e f = rw (e, f)

pub and_split : (a b : Bool) → a && b ≡ true → (a ≡ true) × (b ≡ true)
and_split true b e = (refl, e)
and_split false b e = let z : ◌≡◌ {A = ℕ} 0 1 = cc in absurd (omega arith)

pub and_first : (a b : Bool) → a && b ≡ true → a ≡ true
and_first a b e = (and_split a b e).0

pub and_second : (a b : Bool) → a && b ≡ true → b ≡ true
and_second a b e = (and_split a b e).1

pub and_later : (a b c : Bool) → (Yes b → Yes c) → Yes (a && b) → Yes (a && c)
and_later true b c f h = f h
and_later false b c f h = h

pub and_map : {a b a' b' : Bool} → (Yes a → Yes a') → (Yes b → Yes b') → Yes (a && b) → Yes (a' && b')
and_map {a = true} {a' = true} f g h = g h
and_map {a = true} {a' = false} f g h = absurd (false≢true (f refl))
and_map {a = false} f g h = absurd (false≢true h)

pub and_assoc : (a b c : Bool) → (a && b) && c ≡ a && (b && c)
and_assoc true b c = refl
and_assoc false b c = refl

pub and_right : (a : Bool) → a && true ≡ a
and_right true = refl
and_right false = refl

-- ---- one of two tests
pub or_l : (a b : Bool) → Yes a → Yes (a || b)
or_l true b h = refl
or_l false b h = absurd (false≢true h)

pub or_r : (a b : Bool) → Yes b → Yes (a || b)
or_r true b h = refl
or_r false b h = h

pub or_later : (a b c : Bool) → (Yes b → Yes c) → Yes (a || b) → Yes (a || c)
or_later true b c h t = refl
or_later false b c h t = h t

pub or_cases : (a b : Bool) → Yes (a || b) → Yes a ⊎ Yes b
or_cases true b h = inl refl
or_cases false b h = inr h

pub or_map : {a b a' b' : Bool} → (Yes a → Yes a') → (Yes b → Yes b') → Yes (a || b) → Yes (a' || b')
or_map {a = true} {a' = true} f g h = refl
or_map {a = true} {a' = false} f g h = absurd (false≢true (f refl))
or_map {a = false} {a' = true} f g h = refl
or_map {a = false} {a' = false} f g h = g h

-- ---- not
pub not_map : (a b : Bool) → (Yes a → Yes b) → Yes (not b) → Yes (not a)
not_map true true f h = h
not_map true false f h = absurd (false≢true (f refl))
not_map false b f h = refl
