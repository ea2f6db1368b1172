-- The words of runs of cells, and optional numbers as words: zero is none.
use Rattle.std.specs.Prelude.{◌≡◌, refl, List, [], ◌∷◌, ◌++◌, map, ℕ, zero, suc}
use Rattle.std.proofs.Common.{ap}
use Rattle.std.proofs.Math.Option.{Option, none, some}
use Rattle.model.specs.Outcome.{Cells, word}
use Rattle.model.specs.Tree.{opt_of, word_of}

-- the words of two runs of cells, before a rest
pub words_append : (cs ds : Cells) (rest : List ℕ) → map word (cs ++ ds) ++ rest ≡ map word cs ++ (map word ds ++ rest)
words_append [] ds rest = refl
words_append (c ∷ cs) ds rest = ap (word c ∷◌) (words_append cs ds rest)

pub opt_of_lem : (o : Option ℕ) → opt_of (word_of o) ≡ o
unfolding opt_of word_of
opt_of_lem none = refl
opt_of_lem (some e) = refl

pub word_of_lem : (w : ℕ) → word_of (opt_of w) ≡ w
unfolding word_of opt_of
word_of_lem zero = refl
word_of_lem (suc w) = refl
