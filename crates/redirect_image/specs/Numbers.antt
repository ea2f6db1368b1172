-- Decimal numbers of 32 bits, as arguments give them. Assumes nothing: these are definitions, and examples of them.
use Rattle.std.specs.Prelude.{◌≡◌, refl, cond, List, [], ◌∷◌, ℕ, ◌+◌, ◌*◌, ◌-◌, ltb, Option, Some, None}
use Rattle.std.specs.Option.{option_and_then}

-- a number and one more digit; none where that is no digit, or no number of 32 bits
unfoldable pub stepped : ℕ → ℕ → Option ℕ
stepped x d = cond (ltb d 48) None (cond (ltb 57 d) None (cond (ltb (10 * x + (d - 48)) 4294967296) (Some (10 * x + (d - 48))) None))

-- a number and these digits after it
unfoldable pub steps : List ℕ → ℕ → Option ℕ
steps [] x = Some x
steps (d ∷ ds) x = option_and_then (steps ds) (stepped x d)

-- the number that a text is, if it is one: digits alone, and one at least
unfoldable pub read : List ℕ → Option ℕ
read [] = None
read (d ∷ ds) = steps (d ∷ ds) 0

-- "0", "4294967295", "4294967296", "1x", "1:" (the colon comes after 9), ""
pub record Reads : Type 0 where
  pub zero_is : read (48 ∷ []) ≡ Some 0
  pub most : read (52 ∷ 50 ∷ 57 ∷ 52 ∷ 57 ∷ 54 ∷ 55 ∷ 50 ∷ 57 ∷ 53 ∷ []) ≡ Some 4294967295
  pub more : read (52 ∷ 50 ∷ 57 ∷ 52 ∷ 57 ∷ 54 ∷ 55 ∷ 50 ∷ 57 ∷ 54 ∷ []) ≡ None
  pub letter : read (49 ∷ 120 ∷ []) ≡ None
  pub colon : read (49 ∷ 58 ∷ []) ≡ None
  pub nothing : read [] ≡ None

pub examples : Reads
unfolding stepped steps read
examples = record { zero_is = refl; most = refl; more = refl; letter = refl; colon = refl; nothing = refl }
