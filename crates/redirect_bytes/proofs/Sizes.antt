-- What test 1 says of an image: its bytes are four to a word, and its second word counts the words.
use mathlib.Core.Path.{◌≡◌}
use mathlib.Core.Bool.{true}
use mathlib.Core.List.{List}
use Prim.Native.Nat.{ℕ, ◌*◌}
use native.Mathlib.Omega.{arith}
use lib.Dec.{eqb, leb}
use lib.ListN.{length, get_or}
use borrow.Author.Tests.{eqb-true}
use Rattle.theory_lists.specs.Booleans.{and_split}
use Rattle.base_words.specs.Words.{words_of}
use Rattle.base_words.proofs.Laws.{length_words_of}
use Rattle.model.specs.Outcome.{laid}
use Rattle.model.specs.Module.{Module, read, write, sized}
use Rattle.theory_image.specs.Modules.{read-write}

module _ (image : List ℕ) (s : sized (length image) (words_of image) ≡ true) where
  ends : (eqb (get_or (words_of image) 0 0) 1 ≡ true) × (eqb (length image) (4 * get_or (words_of image) 1 0) ≡ true)
  unfolding sized
  ends = and_split _ _ (and_split (leb (length image) 65536) _ (and_split (leb 80 (length image)) _ s).1).1

  total : length image ≡ 4 * get_or (words_of image) 1 0
  total = eqb-true (length image) (4 * get_or (words_of image) 1 0) ends.1

  pub image_long : length image ≡ 4 * length (words_of image)
  image_long = omega (arith, total, length_words_of image)

  -- an image is the words of the module that it holds
  pub image-written : (m : Module) → read (words_of image) ≡ laid m → words_of image ≡ write m
  image-written m r = read-write (words_of image) m r (eqb-true (get_or (words_of image) 0 0) 1 ends.0) (omega (arith, total, length_words_of image))
