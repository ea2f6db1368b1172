-- Words and bytes worked by hand.
use Rattle.std.specs.Prelude.{◌≡◌, refl, [], ◌∷◌}
use Rattle.base_words.specs.Words.{word_of, words_of, bytes_of, word_at}

one_word : words_of (1 ∷ 2 ∷ 3 ∷ 4 ∷ []) ≡ 67305985 ∷ []
unfolding word_of words_of
one_word = refl

its_bytes : bytes_of (67305985 ∷ []) ≡ 1 ∷ 2 ∷ 3 ∷ 4 ∷ []
unfolding bytes_of
its_bytes = refl

largest : words_of (255 ∷ 255 ∷ 255 ∷ 255 ∷ 0 ∷ 1 ∷ 0 ∷ 0 ∷ []) ≡ 4294967295 ∷ 256 ∷ []
unfolding word_of words_of
largest = refl

no_whole_word : words_of (1 ∷ 0 ∷ 0 ∷ 0 ∷ 9 ∷ 9 ∷ 9 ∷ []) ≡ 1 ∷ []
unfolding word_of words_of
no_whole_word = refl

inside : word_at (9 ∷ 1 ∷ 2 ∷ 3 ∷ 4 ∷ []) 1 ≡ 67305985
unfolding word_of word_at
inside = refl
