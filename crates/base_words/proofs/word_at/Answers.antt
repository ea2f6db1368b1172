-- `base_words::word_at` meets its contract: four bytes below 256 make a word that fits.
use Rattle.std.proofs.Common.{arith, ◌∙◌}
use Rattle.base_words.specs.Words.{word_of, word_at}
use Rattle.base_words.proofs.word_at.Goals as goal

pub returns : goal.returns
unfolding word_of word_at
returns c = c.from_le_bytes.ensures ∙ omega arith
