-- Words and their bytes: each gives back the other. Every law goes word by word, and a word's own law is arithmetic.
use mathlib.Core.Path.{◌≡◌, refl, sym, ap, ◌∙◌}
use mathlib.Core.List.{List, [], ◌∷◌, ◌++◌, append-nil}
use Prim.Native.Nat.{ℕ, zero, suc, ◌+◌, ◌*◌, ◌/◌, ◌%◌, ◌^◌, ◌≤◌, ◌<◌}
use native.Mathlib.Nat.{mod-add-div, mod-eq_of_lt, div-div-eq-div-mul}
use native.Mathlib.Omega.{arith}
use lib.ListN.{length, get_or, take, drop, drop_of_length-le}
use lib.Seq.{sets, sets-eq, length-sets, take_at, take-append-le, length-take-le, get_or-take}
use Rattle.base_words.specs.Words.{AllBelow, word_of, words_of, bytes_of, word_at}

-- ---- one word
pub word_below : (a b c d : ℕ) → a < 256 → b < 256 → c < 256 → d < 256 → word_of a b c d < 2 ^ 32
unfolding word_of
word_below a b c d ha hb hc hd = omega arith

pub word_byte_0 : (a b c d : ℕ) → a < 256 → word_of a b c d % 256 ≡ a
unfolding word_of
word_byte_0 a b c d ha = omega arith

pub word_byte_1 : (a b c d : ℕ) → a < 256 → b < 256 → word_of a b c d / 256 % 256 ≡ b
unfolding word_of
word_byte_1 a b c d ha hb = omega arith

pub word_byte_2 : (a b c d : ℕ) → a < 256 → b < 256 → c < 256 → word_of a b c d / 65536 % 256 ≡ c
unfolding word_of
word_byte_2 a b c d ha hb hc = omega arith

pub word_byte_3 : (a b c d : ℕ) → a < 256 → b < 256 → c < 256 → d < 256 → word_of a b c d / 16777216 % 256 ≡ d
unfolding word_of
word_byte_3 a b c d ha hb hc hd = omega arith

pub bytes_word : (w : ℕ) → w < 2 ^ 32 → word_of (w % 256) (w / 256 % 256) (w / 65536 % 256) (w / 16777216 % 256) ≡ w
unfolding word_of
bytes_word w h =
    let e₀ : w % 256 + 256 * (w / 256) ≡ w = mod-add-div w 256 in
    let e₁ : w / 256 % 256 + 256 * (w / 65536) ≡ w / 256 = rw (div-div-eq-div-mul w 256 256) at (mod-add-div (w / 256) 256) in
    let e₂ : w / 65536 % 256 + 256 * (w / 16777216) ≡ w / 65536 = rw (div-div-eq-div-mul w 65536 256) at (mod-add-div (w / 65536) 256) in
    let e₃ : w / 16777216 % 256 ≡ w / 16777216 = mod-eq_of_lt (omega arith) in
    let inner : w / 65536 % 256 + 256 * (w / 16777216 % 256) ≡ w / 65536 = ap (λ q. w / 65536 % 256 + 256 * q) e₃ ∙ e₂ in
    let middle : w / 256 % 256 + 256 * (w / 65536 % 256 + 256 * (w / 16777216 % 256)) ≡ w / 256 = ap (λ q. w / 256 % 256 + 256 * q) inner ∙ e₁ in
    ap (λ q. w % 256 + 256 * q) middle ∙ e₀

-- ---- lengths
pub length_words_of : (bs : List ℕ) → length (words_of bs) ≡ length bs / 4
unfolding words_of
length_words_of [] = refl
length_words_of (a ∷ []) = refl
length_words_of (a ∷ b ∷ []) = refl
length_words_of (a ∷ b ∷ c ∷ []) = refl
length_words_of (a ∷ b ∷ c ∷ d ∷ bs) = omega (arith, length_words_of bs)

pub length_bytes_of : (ws : List ℕ) → length (bytes_of ws) ≡ 4 * length ws
unfolding bytes_of
length_bytes_of [] = refl
length_bytes_of (w ∷ ws) = omega (arith, length_bytes_of ws)

-- ---- there and back
below_rest : (k a b c d : ℕ) (bs : List ℕ) → AllBelow k (a ∷ b ∷ c ∷ d ∷ bs) → AllBelow k bs
below_rest k a b c d bs h i l = h (suc (suc (suc (suc i)))) (omega arith)

pub bytes_of_words : (bs : List ℕ) → AllBelow 256 bs → length bs % 4 ≡ 0 → bytes_of (words_of bs) ≡ bs
unfolding words_of bytes_of
bytes_of_words [] h e = refl
bytes_of_words (a ∷ []) h e = absurd (omega arith)
bytes_of_words (a ∷ b ∷ []) h e = absurd (omega arith)
bytes_of_words (a ∷ b ∷ c ∷ []) h e = absurd (omega arith)
bytes_of_words (a ∷ b ∷ c ∷ d ∷ bs) h e =
    let ha : a < 256 = h 0 (omega arith) in
    let hb : b < 256 = h 1 (omega arith) in
    let hc : c < 256 = h 2 (omega arith) in
    let hd : d < 256 = h 3 (omega arith) in
    let ih : bytes_of (words_of bs) ≡ bs = bytes_of_words bs (below_rest 256 a b c d bs h) (omega arith) in
    cc (word_byte_0 a b c d ha, word_byte_1 a b c d ha hb, word_byte_2 a b c d ha hb hc, word_byte_3 a b c d ha hb hc hd, ih)

pub words_of_append : (ws : List ℕ) → AllBelow (2 ^ 32) ws → (bs : List ℕ) → words_of (bytes_of ws ++ bs) ≡ ws ++ words_of bs
unfolding words_of bytes_of
words_of_append [] h bs = refl
words_of_append (w ∷ ws) h bs =
    let hw : w < 2 ^ 32 = h 0 (omega arith) in
    let ih : words_of (bytes_of ws ++ bs) ≡ ws ++ words_of bs = words_of_append ws (λ i l. h (suc i) (omega arith)) bs in
    cc (bytes_word w hw, ih)

pub words_of_bytes : (ws : List ℕ) → AllBelow (2 ^ 32) ws → words_of (bytes_of ws) ≡ ws
unfolding words_of
words_of_bytes ws h = ap words_of (sym (append-nil (bytes_of ws))) ∙ words_of_append ws h [] ∙ append-nil ws

-- ---- each word, each byte
pub words_below : (bs : List ℕ) → AllBelow 256 bs → AllBelow (2 ^ 32) (words_of bs)
unfolding words_of
words_below [] h i l = absurd (omega arith)
words_below (a ∷ []) h i l = absurd (omega arith)
words_below (a ∷ b ∷ []) h i l = absurd (omega arith)
words_below (a ∷ b ∷ c ∷ []) h i l = absurd (omega arith)
words_below (a ∷ b ∷ c ∷ d ∷ bs) h zero l = word_below a b c d (h 0 (omega arith)) (h 1 (omega arith)) (h 2 (omega arith)) (h 3 (omega arith))
words_below (a ∷ b ∷ c ∷ d ∷ bs) h (suc i) l = words_below bs (below_rest 256 a b c d bs h) i (omega arith)

pub bytes_below : (ws : List ℕ) → AllBelow 256 (bytes_of ws)
unfolding bytes_of
bytes_below [] i l = absurd (omega arith)
bytes_below (w ∷ ws) zero l = omega arith
bytes_below (w ∷ ws) (suc zero) l = omega arith
bytes_below (w ∷ ws) (suc (suc zero)) l = omega arith
bytes_below (w ∷ ws) (suc (suc (suc zero))) l = omega arith
bytes_below (w ∷ ws) (suc (suc (suc (suc i)))) l = bytes_below ws i (omega arith)

rest-word : (a b c d : ℕ) (bs : List ℕ) (at next : ℕ) → next ≡ at + 4 → word_at (a ∷ b ∷ c ∷ d ∷ bs) next ≡ word_at bs at
unfolding word_at
rest-word a b c d bs at next e =
    let e₀ : next ≡ suc (suc (suc (suc at))) = omega arith in
    let e₁ : next + 1 ≡ suc (suc (suc (suc (at + 1)))) = omega arith in
    let e₂ : next + 2 ≡ suc (suc (suc (suc (at + 2)))) = omega arith in
    let e₃ : next + 3 ≡ suc (suc (suc (suc (at + 3)))) = omega arith in
    rw (word_at, e₃, e₂, e₁, e₀)

pub word_is : (bs : List ℕ) (i : ℕ) → 4 * i + 4 ≤ length bs → get_or (words_of bs) i 0 ≡ word_at bs (4 * i)
unfolding words_of word_at
word_is [] i h = absurd (omega arith)
word_is (a ∷ []) i h = absurd (omega arith)
word_is (a ∷ b ∷ []) i h = absurd (omega arith)
word_is (a ∷ b ∷ c ∷ []) i h = absurd (omega arith)
word_is (a ∷ b ∷ c ∷ d ∷ bs) zero h = refl
word_is (a ∷ b ∷ c ∷ d ∷ bs) (suc i) h = word_is bs i (omega arith) ∙ sym (rest-word a b c d bs (4 * i) (4 * suc i) (omega arith))

-- ---- a list stored at the start
pub sets-front : (vs l : List ℕ) → length vs ≤ length l → sets l 0 vs ≡ vs ++ drop (length vs) l
sets-front vs l h =
    let e : 0 + length vs ≡ length vs = omega arith in
    sets-eq vs l 0 (omega arith) ∙ ap (λ k. vs ++ drop k l) e

-- ---- what the contracts of load and store make of each other
-- n words that are stored and then loaded come back
module _ (ws bs bs₁ vs vs₁ : List ℕ) (n : ℕ) (small : AllBelow (2 ^ 32) ws) (enough : n ≤ length ws) (stored : bs₁ ≡ sets bs 0 (bytes_of (take n ws))) (loaded : vs₁ ≡ sets vs 0 (words_of bs₁)) where
  words_stored : 4 * n ≤ length bs → words_of bs₁ ≡ take n ws ++ words_of (drop (4 * n) bs)
  words_stored h =
      let long : length (take n ws) ≡ n = length-take-le n ws enough in
      let four : length (bytes_of (take n ws)) ≡ 4 * n = length_bytes_of (take n ws) ∙ ap (4 *◌) long in
      let front : AllBelow (2 ^ 32) (take n ws) = λ i l. rw (get_or-take n ws i 0 (omega arith)) (small i (omega arith)) in
      let is : bs₁ ≡ bytes_of (take n ws) ++ drop (4 * n) bs = stored ∙ sets-front (bytes_of (take n ws)) bs (omega arith) ∙ ap (λ k. bytes_of (take n ws) ++ drop k bs) four in
      ap words_of is ∙ words_of_append (take n ws) front (drop (4 * n) bs)

  pub load_after_store : 4 * n ≤ length bs → length bs / 4 ≤ length vs → take n vs₁ ≡ take n ws
  load_after_store h room =
      let same : length bs₁ ≡ length bs = ap length stored ∙ length-sets bs 0 (bytes_of (take n ws)) in
      let count : length (words_of bs₁) ≡ length bs / 4 = length_words_of bs₁ ∙ ap (◌/ 4) same in
      let all : vs₁ ≡ words_of bs₁ ++ drop (length (words_of bs₁)) vs = loaded ∙ sets-front (words_of bs₁) vs (omega arith) in
      ap (take n) all
      ∙ take-append-le n (words_of bs₁) _ (omega arith)
      ∙ ap (take n) (words_stored h)
      ∙ take_at (take n ws) (words_of (drop (4 * n) bs)) n (length-take-le n ws enough)

  -- and from a slice of their bytes alone, they are all that is loaded
  pub load_after_store_whole : length bs ≡ 4 * n → vs₁ ≡ sets vs 0 (take n ws)
  unfolding words_of
  load_after_store_whole e =
      let none : drop (4 * n) bs ≡ [] = drop_of_length-le bs {i = 4 * n} (omega arith) in
      let is : words_of bs₁ ≡ take n ws = words_stored (omega arith) ∙ ap (λ l. take n ws ++ words_of l) none ∙ append-nil (take n ws) in
      loaded ∙ ap (sets vs 0) is

-- bytes that are loaded and then stored come back
module _ (bs ws ws₁ cs cs₁ : List ℕ) (small : AllBelow 256 bs) (whole : length bs % 4 ≡ 0) (room : length bs / 4 ≤ length ws) (loaded : ws₁ ≡ sets ws 0 (words_of bs)) (stored : cs₁ ≡ sets cs 0 (bytes_of (take (length bs / 4) ws₁))) where
  pub store_after_load : cs₁ ≡ sets cs 0 bs
  store_after_load =
      let all : ws₁ ≡ words_of bs ++ drop (length (words_of bs)) ws = loaded ∙ sets-front (words_of bs) ws (omega (arith, length_words_of bs)) in
      let is : take (length bs / 4) ws₁ ≡ words_of bs = ap (take (length bs / 4)) all ∙ take_at (words_of bs) _ (length bs / 4) (length_words_of bs) in
      stored ∙ ap (λ l. sets cs 0 (bytes_of l)) is ∙ ap (sets cs 0) (bytes_of_words bs small whole)

  -- and into a slice of their length, they are all of it
  pub store_after_load_whole : length cs ≡ length bs → cs₁ ≡ bs
  store_after_load_whole long =
      store_after_load
      ∙ sets-front bs cs (omega arith)
      ∙ ap (bs ++◌) (drop_of_length-le cs {i = length bs} (omega arith))
      ∙ append-nil bs
