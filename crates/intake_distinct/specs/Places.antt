-- Marks of the names and numbers that were seen. Each has a hash, and equal ones have equal hashes. The place of a hash among the marks is its
-- remainder by their number, and the mark there is its print, or SEVERAL where hashes of other prints have the same place. So one whose mark is not at
-- its place is none of those that were seen.
use Rattle.std.specs.Prelude.{◌≡◌, Bool, true, ◌||◌, not, List, [], ◌∷◌, ℕ, ◌+◌, ◌*◌, ◌/◌, ◌%◌, ◌<◌, eqb, length, get_or}
use Rattle.std.specs.List.{list_all, range_with_len}

-- the hash of a name, folded from its words: bits 20 to 43 of the product with 2 ^ 32 over the golden ratio
unfoldable pub mix : ℕ → ℕ → ℕ
mix h w = (h + w) * 2654435769 / 1048576 % 16777216

-- the hash of the words, after those whose hash is h
unfoldable pub mixed : List ℕ → ℕ → ℕ
mixed [] h = h
mixed (w ∷ ws) h = mixed ws (mix h w)

-- the hash of a name
unfoldable pub hash : List ℕ → ℕ
hash ws = mixed ws 0

-- the mark that a hash leaves
abbrev pub print : ℕ → ℕ
print h = h % 254 + 1

-- the mark of a place at which hashes of other prints meet
abbrev pub SEVERAL : ℕ
SEVERAL = 255

-- a mark that the hash h may have left
unfoldable pub shows : ℕ → ℕ → Bool
shows mark h = eqb mark (print h) || eqb mark SEVERAL

-- the mark at place p may be that of the hash h
abbrev pub stands : List ℕ → ℕ → ℕ → Bool
stands marks p h = shows (get_or marks p 0) h

-- the hash h leaves its mark at place p, and r says whether it was not there yet; all marks that were there still are
pub record Leaves (before : List ℕ) (p h : ℕ) (after : List ℕ) (r : Bool) : Type 0 where
  pub answer : r ≡ not (stands before p h)
  pub long : length after ≡ length before
  pub own : stands after p h ≡ true
  pub others : (q g : ℕ) → stands before q g ≡ true → stands after q g ≡ true

-- ---- of n things, code that gives the hash of the j-th and code that says whether it is alone: h and a are what they answer, and what has the hash of no later one is alone
-- h and a are what they answer
pub record Says (hashes : ℕ → ℕ → Type 0) (asks : ℕ → Bool → Type 0) (n : ℕ) (h : ℕ → ℕ) (a : ℕ → Bool) : Type 0 where
  pub hashed : (j r : ℕ) → j < n → hashes j r → r ≡ h j
  pub asked : (j : ℕ) (b : Bool) → j < n → asks j b → b ≡ a j
  pub apart : (j : ℕ) → j < n → ((i : ℕ) → j < i → i < n → h j ≡ h i → ⊥) → a j ≡ true

-- the answer r is whether each of the n things is alone
pub record AllAlone (hashes : ℕ → ℕ → Type 0) (asks : ℕ → Bool → Type 0) (n : ℕ) (r : Bool) : Type 0 where
  pub same : (h : ℕ → ℕ) (a : ℕ → Bool) → Says hashes asks n h a → r ≡ list_all a (range_with_len 0 n)
