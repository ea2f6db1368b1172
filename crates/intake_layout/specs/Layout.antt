-- What laying out an image answers and leaves: the definition for every slice of bytes. If the image is refused, nothing is promised about words and tags.
use Rattle.std.specs.Prelude.{◌≡◌, true, false, List, map, ℕ, length, Result, Ok, Err}
use Rattle.std.proofs.lemmas.List.Edits.{sets}
use Rattle.base_words.specs.Words.{words_of}
use Rattle.model.specs.Outcome.{class, Laid, laid, bad, strange}
use Rattle.model.specs.Module.{Module, read, flat_module, sized}
use Rattle.base_refusals.specs.declared.Refusal.{Refusal}
use Rattle.base_refusals.specs.declared.Refusal.TheVariants.{BadSize, BadLayout, BadRange}

-- the count of words, or the refusal
abbrev pub Layout : Type 0
Layout = Result ℕ Refusal

-- the count of words, the words and the tags; or the refusal: the size, the layout, or a kind or a code that is none of the listed
pub data Answer : Type 0 where
  fits : ℕ → List ℕ → List ℕ → Answer
  refused : Refusal → Answer

-- the refusal of a wrong size
abbrev pub size : Answer
size = refused BadSize

-- the refusal of an image that does not fit the format
abbrev pub misfit : Answer
misfit = refused BadLayout

-- the refusal of a kind or a code that is none of the listed
abbrev pub unknown : Answer
unknown = refused BadRange

-- what the code reports
unfoldable pub shows : Layout → List ℕ → List ℕ → Answer
shows (Ok n) words tags = fits n words tags
shows (Err e) words tags = refused e

-- the words of an image, and the classes of the module that they hold
unfoldable pub held : List ℕ → List ℕ → List ℕ → Laid Module → Answer
held ws words tags (laid m) = fits (length ws) (sets words 0 ws) (sets tags 0 (map class (flat_module m)))
held ws words tags bad = misfit
held ws words tags strange = unknown

-- what laying out has to answer and leave, of any bytes
unfoldable pub layout_of : List ℕ → List ℕ → List ℕ → Answer
layout_of bytes words tags = elim (sized (length bytes) (words_of bytes)) [ true ↦ held (words_of bytes) words tags (read (words_of bytes)) | false ↦ size ]

-- it answers and leaves so
pub record LayOutEnsures (r : Layout) (words₁ tags₁ bytes words tags : List ℕ) : Type 0 where
  pub same : shows r words₁ tags₁ ≡ layout_of bytes words tags

-- the same of words that are there: what is laid is the module that they hold
unfoldable pub layed : Layout → List ℕ → Answer
layed r tags = shows r tags tags

-- what it has to answer and leave, of what the words are read as
unfoldable pub laying : List ℕ → List ℕ → Laid Module → Answer
laying ws tags (laid m) = let after = sets tags 0 (map class (flat_module m)) in fits (length ws) after after
laying ws tags bad = misfit
laying ws tags strange = unknown

-- it answers and leaves so
pub record Laying (r : Layout) (tags₁ tags ws : List ℕ) : Type 0 where
  pub same : layed r tags₁ ≡ laying ws tags (read ws)
