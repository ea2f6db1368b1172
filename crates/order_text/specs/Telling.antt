-- What the program `order` prints, and what is answered beside it. Document 01: "prints the function count, then by line new number, source number, name", and "Refused: `refused 5`, or `refused 12 left 2`".
use Rattle.std.specs.Prelude.{◌≡◌, true, List, [], ◌∷◌, ℕ, ◌≤◌, ◌<◌, length, Result, Ok, Err}
use Rattle.model.specs.Refusals.{RING}
use Rattle.model.specs.Module.{Module}
use Rattle.model.specs.Taped.{Taped}
use Rattle.model.specs.Carry.{Each}
use Rattle.model.specs.Numbers.{numbered}
use Rattle.model.specs.Names.{named}
use Rattle.model.specs.Calls.{Order, ordered, ring}
use Rattle.model.specs.Callees.{order_of}
use Rattle.model.specs.Image.{on_image}
use Rattle.model.specs.Redirect.{name_word}
use Rattle.base_refusals.specs.Numbers.{number_of, count_of}
use Rattle.base_refusals.specs.declared.Refusal.{Refusal}
use Rattle.order_lines.specs.Lines.{name_of, headed, ordered_text, TextEnsures}

-- "refused "
abbrev pub REFUSED : List ℕ
REFUSED = 114 ∷ 101 ∷ 102 ∷ 117 ∷ 115 ∷ 101 ∷ 100 ∷ 32 ∷ []

-- "refused 12 left "
abbrev pub RINGS : List ℕ
RINGS = 114 ∷ 101 ∷ 102 ∷ 117 ∷ 115 ∷ 101 ∷ 100 ∷ 32 ∷ 49 ∷ 50 ∷ 32 ∷ 108 ∷ 101 ∷ 102 ∷ 116 ∷ 32 ∷ []

-- what is answered: the text that is printed, the number of the refusal, or 0, and how many functions a ring leaves
pub record Telling : Type 0 where
  pub text : List ℕ
  pub refusal : ℕ
  pub left : ℕ

-- what is told of a refusal by intake
unfoldable pub refusing : ℕ → Telling
refusing k = record { text = headed REFUSED k; refusal = k; left = 0 }

-- what is told of a module: its order, or the refusal of a ring
unfoldable pub telling : Module → Order → Telling
telling m (ordered os) = record { text = ordered_text os (name_of m); refusal = 0; left = 0 }
telling m (ring k) = record { text = headed RINGS k; refusal = RING; left = k }

-- of any bytes
unfoldable pub telling_of : List ℕ → Telling
telling_of = on_image (λ m. telling m (order_of m)) refusing

-- ---- what lines are made of
-- every table function has a name, and it is in the table of names: parts of refusals 3 and 5
abbrev pub NamesKnown : Module → Type 0
NamesKnown m = Each (λ f. (0 < name_word f) × (name_word f ≤ length m.names)) m.functions

-- the same, of the module that words and tags hold
abbrev pub Naming : List ℕ → List ℕ → ℕ → Type 0
Naming words tags n = (m : Module) → Taped words tags n m → NamesKnown m

-- the number of the refusal, or 0
abbrev pub refusal_of : Result (Unit {0}) Refusal → ℕ
refusal_of (Ok _) = 0
refusal_of (Err e) = number_of e

-- how many functions a ring leaves, or 0
abbrev pub left_of : Result (Unit {0}) Refusal → ℕ
left_of (Ok _) = 0
left_of (Err e) = count_of e

-- ---- promises
-- the text is at the start of `out`, where there was room for it, all else stays, and this is answered
pub record TellEnsures (t : Telling) (out out' : List ℕ) (count refusal left : ℕ) : Type 0 where
  pub puts : TextEnsures out 0 t.text out' count
  pub within : count ≤ length out'
  pub refusal_is : refusal ≡ t.refusal
  pub left_is : left ≡ t.left

-- of the module that words and tags hold
pub record Tells (words tags : List ℕ) (n : ℕ) (out out' : List ℕ) (count refusal left : ℕ) : Type 0 where
  pub same : (m : Module) → Taped words tags n m → TellEnsures (telling m (order_of m)) out out' count refusal left

-- what intake has shown of the module that words and tags hold, as far as it is needed here
pub record Passed (words tags : List ℕ) (n : ℕ) : Type 0 where
  pub numbers : (m : Module) → Taped words tags n m → numbered m ≡ true
  pub names : (m : Module) → Taped words tags n m → named m ≡ true
