-- Reading a list of words: what a reader answers, and how readers follow one another.
-- A reader that fits gives a value and the words after it. `misfit` is refusal 2; `unknown`, a kind or a variant code that is none of the listed, is refusal 3.
use Rattle.std.specs.Prelude.{List, [], ◌∷◌, ℕ}

-- a field of a record: its class and its word
abbrev pub Cell : Type 0
Cell = ℕ × ℕ

abbrev pub class : Cell → ℕ
class c = c.0

abbrev pub word : Cell → ℕ
word c = c.1

abbrev pub Cells : Type 0
Cells = List Cell

pub data Outcome (A : Type 0) : Type 0 where
  fits : A → List ℕ → Outcome A
  misfit unknown : Outcome A

unfoldable pub ◌⟫◌ : {A B : Type 0} → Outcome A → (A → List ℕ → Outcome B) → Outcome B
fits a ws ⟫ f = f a ws
misfit ⟫ f = misfit
unknown ⟫ f = unknown

infixr 20 ◌⟫◌
-- the next word
unfoldable pub eat : {B : Type 0} → List ℕ → (ℕ → List ℕ → Outcome B) → Outcome B
eat [] f = misfit
eat (w ∷ ws) f = f w ws

unfoldable pub map_o : {A B : Type 0} → (A → B) → Outcome A → Outcome B
map_o f (fits a ws) = fits (f a) ws
map_o f misfit = misfit
map_o f unknown = unknown

-- ---- an extent, which a reader has to fill exactly
pub data Laid (A : Type 0) : Type 0 where
  laid : A → Laid A
  bad strange : Laid A

-- "each record exactly filling its extent": words left over are a misfit
unfoldable pub exact : {A : Type 0} → Outcome A → Laid A
exact (fits a []) = laid a
exact (fits a (w ∷ ws)) = bad
exact misfit = bad
exact unknown = strange

-- "each is tested over the whole image before the next": a misfit anywhere comes before an unknown code anywhere
unfoldable pub both : {A B C : Type 0} → (A → B → C) → Laid A → Laid B → Laid C
both f (laid a) (laid b) = laid (f a b)
both f (laid a) bad = bad
both f (laid a) strange = strange
both f bad y = bad
both f strange (laid b) = strange
both f strange bad = bad
both f strange strange = strange

unfoldable pub map_l : {A B : Type 0} → (A → B) → Laid A → Laid B
map_l f (laid a) = laid (f a)
map_l f bad = bad
map_l f strange = strange
