-- The text by example, computed.
use Rattle.std.specs.Prelude.{◌≡◌, refl, [], ◌∷◌, ℕ}
use Rattle.model.specs.Table.{WORD, SPAN, UPTO, NAME, PAD, TEXT}
use Rattle.model.specs.Tree.{Function, end}
use Rattle.model.specs.Module.{Module}
use Rattle.base_words.specs.Words.{bytes_of}
use Rattle.model.specs.Redirect.{name_word}
use Rattle.model.specs.Calls.{ordered, ring}
use Rattle.order_lines.specs.Lines.{decimal, name_text, name_in, name_of, numbers_text, line_text, lines_text, headed, ordered_text}
use Rattle.order_text.specs.Telling.{refusing, telling}

abbrev function : ℕ → Function
function w = record { head = (NAME, w) ∷ (SPAN, 0) ∷ (UPTO, 0) ∷ []; arguments = []; result = []; locals = []; exprs = []; named = []; body = end }

-- the names of P6's functions: shade, tone, fog
abbrev holding : Module
holding = record {
  names = ((TEXT, 5) ∷ (WORD, 1684105331) ∷ (PAD, 101) ∷ []) ∷ ((TEXT, 4) ∷ (WORD, 1701736308) ∷ []) ∷ ((TEXT, 3) ∷ (107, 6778726) ∷ []) ∷ ((TEXT, 0) ∷ []) ∷ [];
  types = [];
  constants = [];
  overrides = [];
  globals = [];
  exprs = [];
  functions = function 1 ∷ function 2 ∷ function 3 ∷ function 4 ∷ [];
  entries = [];
  special = record { rays = []; pairs = [] };
}

pub record Shown : Type 0 where
  pub zero : decimal 0 ≡ 48 ∷ []
  pub two : decimal 42 ≡ 52 ∷ 50 ∷ []
  pub three : decimal 256 ≡ 50 ∷ 53 ∷ 54 ∷ []
  -- "functions 3", "0 1 tone", "1 2 fog", "2 0 shade"
  pub text :
      (telling holding (ordered (1 ∷ 2 ∷ 0 ∷ []))).text
      ≡ 102 ∷ 117 ∷ 110 ∷ 99 ∷ 116 ∷ 105 ∷ 111 ∷ 110 ∷ 115 ∷ 32 ∷ 51 ∷ 10 ∷ 48 ∷ 32 ∷ 49 ∷ 32 ∷ 116 ∷ 111 ∷ 110 ∷ 101 ∷ 10 ∷ 49 ∷ 32 ∷ 50 ∷ 32 ∷ 102 ∷ 111 ∷ 103 ∷ 10 ∷ 50 ∷ 32 ∷ 48 ∷ 32 ∷ 115 ∷ 104 ∷ 97 ∷ 100 ∷ 101 ∷ 10 ∷ []
  -- "the empty string is a name"
  pub nameless : line_text 3 3 (name_of holding 3) ≡ 51 ∷ 32 ∷ 51 ∷ 32 ∷ 10 ∷ []
  -- "refused 5", "refused 12 left 2"
  pub name_refused : (refusing 5).text ≡ 114 ∷ 101 ∷ 102 ∷ 117 ∷ 115 ∷ 101 ∷ 100 ∷ 32 ∷ 53 ∷ 10 ∷ []
  pub ring_refused : (telling holding (ring 2)).text ≡ 114 ∷ 101 ∷ 102 ∷ 117 ∷ 115 ∷ 101 ∷ 100 ∷ 32 ∷ 49 ∷ 50 ∷ 32 ∷ 108 ∷ 101 ∷ 102 ∷ 116 ∷ 32 ∷ 50 ∷ 10 ∷ []

pub shown : Shown
unfolding decimal name_text name_word name_in name_of numbers_text line_text lines_text headed ordered_text refusing telling bytes_of
shown = record { zero = refl; two = refl; three = refl; text = refl; nameless = refl; name_refused = refl; ring_refused = refl }
