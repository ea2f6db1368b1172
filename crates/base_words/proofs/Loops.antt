-- The loops: at every turn, what is left to write completes the whole.
use mathlib.Core.Path.{◌≡◌, refl, sym, ap, ◌∙◌}
use mathlib.Core.List.{List, [], ◌∷◌}
use Prim.Native.Nat.{ℕ, suc, ◌+◌, ◌*◌, ◌/◌, ◌≤◌, ◌<◌}
use native.Mathlib.Numerals.{add-one}
use native.Mathlib.Omega.{arith}
use borrow.Rule.Slice.PartMut.{put_mid}
use Rattle.std.proofs.Common.{append_assoc}
use Rattle.std.proofs.lemmas.List.Edits.{paste_all}
use Rattle.std.proofs.lemmas.Slice.{put_mid-paste}
use lib.ListN.{length, get_or, set, take, drop, length-set, drop_of_length-le}
use lib.Seq.{sets, sets-eq, drop-cons, length-sets}
use Rattle.base_words.specs.Words.{words_of, bytes_of, word_at}
use Rattle.base_words.proofs.Laws.{length_words_of, word_is}

-- ---- load: the words before i are in place
pub record Loading (bytes words₀ words : List ℕ) (i : ℕ) : Type 0 where
  pub to : i ≤ length bytes / 4
  pub long : length words ≡ length words₀
  pub same : sets words i (drop i (words_of bytes)) ≡ sets words₀ 0 (words_of bytes)

module _ (bytes words₀ : List ℕ) where
  pub load-begin : Loading bytes words₀ words₀ 0
  load-begin = record { to = omega arith; long = refl; same = refl }

  module _ (words : List ℕ) (i : ℕ) (inv : Loading bytes words₀ words i) where
    pub load-next : i < length bytes / 4 → (w : ℕ) → w ≡ word_at bytes (4 * i) → Loading bytes words₀ (set words i w) (i + 1)
    load-next h w is =
        let inside : i < length (words_of bytes) = omega (arith, length_words_of bytes) in
        let here : get_or (words_of bytes) i 0 ≡ w = word_is bytes i (omega arith) ∙ sym is in
        let e : drop i (words_of bytes) ≡ w ∷ drop (suc i) (words_of bytes) = drop-cons (words_of bytes) i 0 inside ∙ ap (◌∷ drop (suc i) (words_of bytes)) here in
        record {
          to = omega arith;
          long = length-set words i w ∙ inv.long;
          same = rw (add-one i) (rw e at inv.same);
        }

    pub load_done : length bytes / 4 ≤ i → words ≡ sets words₀ 0 (words_of bytes)
    load_done h =
        let e : drop i (words_of bytes) ≡ [] = drop_of_length-le (words_of bytes) {i = i} (omega (arith, length_words_of bytes)) in
        rw e at inv.same

-- ---- put_word: what is copied to a part of the bytes is stored there
pub put : (at k : ℕ) (bytes part vs : List ℕ) → part ≡ vs → k ≡ length vs → at + k ≤ length bytes → put_mid at k bytes part ≡ sets bytes at vs
put at k bytes part vs is long fits =
    put_mid-paste at k bytes part vs (length vs) is (omega arith) refl
    ∙ paste_all bytes at vs (length vs) refl
    ∙ sym (sets-eq vs bytes at (omega arith) ∙ append_assoc (take at bytes) vs (drop (at + length vs) bytes))

-- ---- store: the bytes of the words before i are in place
pub record Storing (words bytes₀ bytes : List ℕ) (i : ℕ) : Type 0 where
  pub to : i ≤ length words
  pub long : length bytes ≡ length bytes₀
  pub same : sets bytes (4 * i) (bytes_of (drop i words)) ≡ sets bytes₀ 0 (bytes_of words)

module _ (words bytes₀ : List ℕ) where
  pub store-begin : Storing words bytes₀ bytes₀ 0
  store-begin = record { to = omega arith; long = refl; same = refl }

  module _ (bytes : List ℕ) (i : ℕ) (inv : Storing words bytes₀ bytes i) where
    pub store-next : i < length words → (bytes₁ : List ℕ) → bytes₁ ≡ sets bytes (4 * i) (bytes_of (get_or words i 0 ∷ [])) → Storing words bytes₀ bytes₁ (i + 1)
    unfolding bytes_of
    store-next h bytes₁ is =
        let e : drop i words ≡ get_or words i 0 ∷ drop (suc i) words = drop-cons words i 0 h in
        let four : 4 * (i + 1) ≡ suc (suc (suc (suc (4 * i)))) = omega arith in
        record {
          to = omega arith;
          long = ap length is ∙ length-sets bytes (4 * i) (bytes_of (get_or words i 0 ∷ [])) ∙ inv.long;
          same = rw (is, four, add-one i) (rw e at inv.same);
        }

    pub store_done : length words ≤ i → bytes ≡ sets bytes₀ 0 (bytes_of words)
    unfolding bytes_of
    store_done h =
        let e : drop i words ≡ [] = drop_of_length-le words {i = i} h in
        rw e at inv.same
