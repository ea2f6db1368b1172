-- The lines of an order, as bytes. Document 01: "prints the function count, then by line new number, source number, name".
use Rattle.std.specs.Prelude.{◌≡◌, cond, List, [], ◌∷◌, ◌++◌, map, ℕ, suc, ◌+◌, ◌*◌, ◌-◌, ◌/◌, ◌%◌, ◌≤◌, ◌<◌, ltb, length, get_or, take, drop}
use Rattle.std.proofs.Math.Option.{Option, none, some}
use Rattle.std.proofs.Math.ListN.{get_elem?}
use Rattle.std.proofs.lemmas.List.Edits.{sets}
use Rattle.model.specs.Outcome.{Cells, word}
use Rattle.model.specs.Tree.{Function}
use Rattle.model.specs.Module.{Module, offset_at}
use Rattle.model.specs.View.{record_at}
use Rattle.base_words.specs.Words.{bytes_of}
use Rattle.model.specs.Redirect.{name_word}

-- ---- bytes
-- the decimal digits of a number below 1,000
unfoldable pub decimal : ℕ → List ℕ
decimal x =
    cond (ltb x 10) ((48 + x) ∷ [])
    (cond (ltb x 100) ((48 + x / 10) ∷ (48 + x % 10) ∷ []) ((48 + x / 100) ∷ (48 + x / 10 % 10) ∷ (48 + x % 10) ∷ []))

-- "its byte length, then bytes, zero-padded to a word"
unfoldable pub name_text : Cells → List ℕ
name_text [] = []
name_text (c ∷ cs) = take (word c) (bytes_of (map word cs))

-- the name of a table function, where there is one
unfoldable pub name_in : List Cells → Option Function → List ℕ
name_in ns none = []
name_in ns (some f) = name_text (get_or ns (name_word f - 1) [])

-- the name of table function s
unfoldable pub name_of : Module → ℕ → List ℕ
name_of m s = name_in m.names (get_elem? m.functions s)

-- ---- the text
-- "by line new number, source number, name": two numbers, each with a space after it, and the rest of the line
unfoldable pub numbers_text : ℕ → ℕ → List ℕ
numbers_text new source = decimal new ++ (32 ∷ (decimal source ++ (32 ∷ [])))

-- a line: these, the name, and the end of the line
unfoldable pub line_text : ℕ → ℕ → List ℕ → List ℕ
line_text new source name = numbers_text new source ++ (name ++ (10 ∷ []))

-- the lines of these functions, of which the first has the new number `new`
unfoldable pub lines_text : List ℕ → ℕ → (ℕ → List ℕ) → List ℕ
lines_text [] new name = []
lines_text (s ∷ ss) new name = line_text new s (name s) ++ lines_text ss (suc new) name

-- a line of words and a number
unfoldable pub headed : List ℕ → ℕ → List ℕ
headed label x = label ++ (decimal x ++ (10 ∷ []))

-- "functions "
abbrev pub FUNCTIONS : List ℕ
FUNCTIONS = 102 ∷ 117 ∷ 110 ∷ 99 ∷ 116 ∷ 105 ∷ 111 ∷ 110 ∷ 115 ∷ 32 ∷ []

-- "the function count, then by line"
unfoldable pub ordered_text : List ℕ → (ℕ → List ℕ) → List ℕ
ordered_text os name = headed FUNCTIONS (length os) ++ lines_text os 0 name

-- ---- what lines are made of
-- these bytes are put at a place, and the next place is after them
pub record TextEnsures (out : List ℕ) (at : ℕ) (xs out' : List ℕ) (next : ℕ) : Type 0 where
  pub is : out' ≡ sets out at xs
  pub ends : next ≡ at + length xs

-- the text of the name at p
unfoldable pub text_at : List ℕ → ℕ → List ℕ
text_at words p = take (get_or words p 0) (bytes_of (drop (p + 1) words))

-- it lies in the words, and there is room for it
pub record Room (words : List ℕ) (p at : ℕ) : Type 0 where
  pub words_long : length words ≡ 16384
  pub here : p < 16384
  pub within : get_or words p 0 ≤ 4 * (16383 - p)
  pub fits : at + get_or words p 0 ≤ 65536

-- where the name of table function s is
abbrev pub name_at : List ℕ → ℕ → ℕ
name_at words s = record_at 0 (get_or words (record_at 6 s words) 0 - 1) words

-- its bytes
abbrev pub name_is : List ℕ → ℕ → List ℕ
name_is words s = text_at words (name_at words s)

-- what a line reads of the words
pub record Readable (words : List ℕ) (s : ℕ) : Type 0 where
  pub words_long : length words ≡ 16384
  pub slot : offset_at 6 words + s < 16384
  pub head : record_at 6 s words < 16384
  pub some : 0 < get_or words (record_at 6 s words) 0
  pub place : offset_at 0 words + (get_or words (record_at 6 s words) 0 - 1) < 16384
  pub here : name_at words s < 16384
  pub within : get_or words (name_at words s) 0 ≤ 4 * (16383 - name_at words s)

-- there is a line of function s, and room for it
pub record Line (words : List ℕ) (new s at : ℕ) : Type 0 where
  pub reads : Readable words s
  pub new_few : new < 1000
  pub few : s < 1000
  pub fits : at + length (line_text new s (name_is words s)) ≤ 65536

-- the numbers have lines
pub record Printable (words order : List ℕ) : Type 0 where
  pub count_few : length order ≤ 256
  pub known : (k : ℕ) → k < length order → Readable words (get_or order k 0)
  pub few : (k : ℕ) → k < length order → get_or order k 0 < 1000

-- and room for them
pub record Lines (words order : List ℕ) (at : ℕ) : Type 0 where
  pub prints : Printable words order
  pub fits : at + length (lines_text order 0 (name_is words)) ≤ 65536

-- and for the text as a whole
pub record Text (words order out : List ℕ) : Type 0 where
  pub prints : Printable words order
  pub long : length out ≡ 65536
  pub fits : length (ordered_text order (name_is words)) ≤ 65536
