-- Little-endian 32-bit words and their bytes, in a list of bytes.
use Rattle.std.specs.Prelude.{List, [], ◌∷◌, ℕ, ◌+◌, ◌*◌, ◌/◌, ◌%◌, ◌<◌, length, get_or}

-- each number of the list is below k
abbrev pub AllBelow : ℕ → List ℕ → Type 0
AllBelow k l = (i : ℕ) → i < length l → get_or l i 0 < k

-- the word of four bytes, the lowest first
unfoldable pub word_of : ℕ → ℕ → ℕ → ℕ → ℕ
word_of a b c d = a + 256 * (b + 256 * (c + 256 * d))

-- the words of a list of bytes; bytes that make no whole word are left out
unfoldable pub words_of : List ℕ → List ℕ
words_of [] = []
words_of (a ∷ []) = []
words_of (a ∷ b ∷ []) = []
words_of (a ∷ b ∷ c ∷ []) = []
words_of (a ∷ b ∷ c ∷ d ∷ bs) = word_of a b c d ∷ words_of bs

-- the bytes of a list of words, four for each, the lowest first
unfoldable pub bytes_of : List ℕ → List ℕ
bytes_of [] = []
bytes_of (w ∷ ws) = w % 256 ∷ w / 256 % 256 ∷ w / 65536 % 256 ∷ w / 16777216 % 256 ∷ bytes_of ws

-- the word of the four bytes from `at` on
unfoldable pub word_at : List ℕ → ℕ → ℕ
word_at bs at = word_of (get_or bs at 0) (get_or bs (at + 1) 0) (get_or bs (at + 2) 0) (get_or bs (at + 3) 0)
