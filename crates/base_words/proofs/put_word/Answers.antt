-- `base_words::put_word` meets its contract: what it copies is the word's bytes in order.
use Rattle.std.proofs.Common.{arith, ◌∙◌}
use Rattle.base_words.specs.Words.{bytes_of}
use Rattle.base_words.proofs.Loops.{put}
use Rattle.base_words.proofs.put_word.Goals as goal

pub returns : goal.returns
unfolding bytes_of
returns c = put c.args.at _ c.args.bytes.now _ _ (c.copy_from_slice.ensures.after ∙ c.to_le_bytes.ensures) (omega arith) (omega arith)
