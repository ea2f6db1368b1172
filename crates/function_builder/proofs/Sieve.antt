-- Finding an expression on the stack that equals a record: most differ from it in their lengths, or in one word of the record.
use mathlib.Core.Path.{◌≡◌, refl, sym, ◌∙◌}
use mathlib.Core.Bool.{Bool, true, false, true≢false, ◌||◌, ◌&&◌}
use mathlib.Core.List.{List}
use Prim.Native.Nat.{ℕ, zero, suc, ◌+◌, ◌-◌, ◌≤◌, ◌<◌}
use native.Mathlib.Nat.{le_refl, le_of_lt}
use native.Mathlib.Omega.{arith}
use lib.Dec.{eqb, ltb}
use lib.ListN.{length, get_or, drop}
use borrow.Author.Tests.{ltb-true, ltb-false, eqb-true, eqb-false, lt-ltb, eq-eqb}
use Rattle.std.specs.Prelude.{Option, None, Some, MatchOption, cond}
use Rattle.std.specs.Option.{option_map}
use Rattle.std.specs.List.{find, range_with_len}
use Rattle.model.specs.Between.{between}
use Rattle.model.specs.References.{Place, through, alike_c, alike, index_of}
use Rattle.derive_state.specs.Held.{row, cell, carried_by}
use Rattle.derive_state.specs.Sizes.{Sizes}
use Rattle.derive_state.proofs.Classes.{alike-class, alike_span}
use Rattle.derive_state.proofs.Passes.{compares_short}
use Rattle.derive_state.proofs.Unlike.{unlike}
use Rattle.function_references.specs.Fits.{FitN, Legible}
use Rattle.function_references.specs.Cuts.{next_of, Rising}
use Rattle.function_builder.specs.Stacks.{seats_of, made_of, Stacks}
use Rattle.function_builder.specs.Makes.{Hops}
use Rattle.function_builder.proofs.Stacked.{Seating, seat_first, seat_at, seat_within, seat_found, seat_more, seat_last}

-- ---- a word that is another, and no span's
word_not : (c x s y : ℕ) → (eqb s 81 || eqb s 82) ≡ false → (x ≡ y → ⊥) → alike_c (c, x) (s, y) ≡ false
word_not c x s y n ne = go (eqb c s) refl
  where
    go : (b : Bool) → eqb c s ≡ b → alike_c (c, x) (s, y) ≡ false
    go true e = sym (alike_span c x s y (eqb-true c s e) ne) ∙ n
    go false e = sym (alike-class c x s y (eqb-false c s e))

-- ---- past expressions that have another word in place i
module _ (stacks : List (List ℕ)) (e₁ made i s y k : ℕ) where
  pub hop_none : k ≤ made → Hops stacks e₁ made i s y k k
  hop_none h = record { low = le_refl k; high = h; not = λ j l u c v. absurd (omega arith) }

  module _ (j : ℕ) (H : Hops stacks e₁ made i s y k j) where
    pub hop_last : made ≤ j → Hops stacks e₁ made i s y k made
    hop_last h = let l = H.low in let t = H.high in record { low = omega arith; high = le_refl made; not = λ x l u c v. H.not x l (omega arith) c v }

    module _ (n : (eqb s 81 || eqb s 82) ≡ false) (a : ℕ) (ha : a ≡ cell stacks 2 (e₁ + j)) (ne : a + i < 16384 → cell stacks 0 (a + i) ≡ y → ⊥) where
      hop_at : (x : ℕ) → k ≤ x → x < j + 1 → (b : Bool) → ltb x j ≡ b → (c : ℕ) → cell stacks 2 (e₁ + x) + i < 16384 → alike_c (c, cell stacks 0 (cell stacks 2 (e₁ + x) + i)) (s, y) ≡ false
      hop_at x l u true e c v = H.not x l (ltb-true x j e) c v
      hop_at x l u false e c v =
          let z : x ≡ j = let w = ltb-false x j e in omega arith in
          let h : a + i < 16384 = rw (z, ← ha) at v in
          rw (z, ← ha) (word_not c (cell stacks 0 (a + i)) s y n (ne h))

      pub hop_next : j < made → Hops stacks e₁ made i s y k (j + 1)
      hop_next h = record { low = let l = H.low in omega arith; high = omega arith; not = λ x l u c v. hop_at x l u (ltb x j) refl c v }

-- ---- the first expression that has the word in place i, as the library's search finds it
module _ (stacks : List (List ℕ)) (e₁ made i s y k : ℕ) (n : (eqb s 81 || eqb s 82) ≡ false) where
  abbrev pub has_word : ℕ → Bool
  has_word h = ltb (cell stacks 2 (e₁ + h) + i) 16384 && eqb (cell stacks 0 (cell stacks 2 (e₁ + h) + i)) y

  abbrev pub IsCandidate : Option ℕ → Type 0
  IsCandidate r = MatchOption r (Hops stacks e₁ made i s y k made) (λ j. (j < made) × Hops stacks e₁ made i s y k j)

  sought : (d j : ℕ) → made ≡ j + d → Hops stacks e₁ made i s y k j → IsCandidate (find has_word (range_with_len j d))
  sought zero j e H = hop_last stacks e₁ made i s y k j H (omega arith)
  sought (suc d) j e H = go (has_word j) refl (λ U. sought d (j + 1) (omega arith) U)
    where
      other : has_word j ≡ false → cell stacks 2 (e₁ + j) + i < 16384 → cell stacks 0 (cell stacks 2 (e₁ + j) + i) ≡ y → ⊥
      other q v z = true≢false (rw (lt-ltb (cell stacks 2 (e₁ + j) + i) 16384 v, eq-eqb (cell stacks 0 (cell stacks 2 (e₁ + j) + i)) y z) at q)

      go : (b : Bool) → has_word j ≡ b → (Hops stacks e₁ made i s y k (j + 1) → IsCandidate (find has_word (range_with_len (j + 1) d))) → IsCandidate (cond b (Some j) (find has_word (range_with_len (j + 1) d)))
      go true q rest = (omega arith, H)
      go false q rest = rest (hop_next stacks e₁ made i s y k j H n (cell stacks 2 (e₁ + j)) refl (other q) (omega arith))

  pub is_candidate : k ≤ made → (r : Option ℕ) → option_map (λ x. x) r ≡ find has_word (range_with_len k (made - k)) → IsCandidate r
  is_candidate h None e = rw (← e) at (sought (made - k) k (omega arith) (hop_none stacks e₁ made i s y k h))
  is_candidate h (Some x) e = rw (← e) at (sought (made - k) k (omega arith) (hop_none stacks e₁ made i s y k h))

-- ---- where an expression on the stack ends that is as long as a piece
pub even_end : {a b n : ℕ} → a < b → b - a ≡ n → b ≡ a + n
even_end l e = omega arith

-- ---- what is left from expression k on is the whole; the record's word at p becomes y
pub record Sieving (words tags : List ℕ) (went : Place → ℕ → ℕ) (at end : ℕ) (stacks : List (List ℕ)) (e₁ : ℕ) (e : Sizes) (k p y : ℕ) : Type 0 where
  pub seating : Seating stacks e₁ e (carried_by went tags words at end) k
  pub low : at ≤ p
  pub high : p < end
  pub word : y ≡ through went (get_or tags p 0) (get_or words p 0)

module _ {words tags : List ℕ} {went : Place → ℕ → ℕ} {at end : ℕ} {stacks : List (List ℕ)} {e₁ : ℕ} {e : Sizes} (L : Legible words tags 1024 at end) (S : Stacks stacks e) (R : Rising (seats_of stacks e₁ e) e₁ e.exprtop) (many : length (seats_of stacks e₁ e) ≡ e.made) where
  pub sieve_first : at < end → (y : ℕ) → y ≡ through went (get_or tags (end - 1) 0) (get_or words (end - 1) 0) → Sieving words tags went at end stacks e₁ e 0 (end - 1) y
  sieve_first h y ye = record { seating = seat_first stacks e₁ e (carried_by went tags words at end) S R many; low = omega arith; high = omega arith; word = ye }

  module _ {k p y : ℕ} (G : Sieving words tags went at end stacks e₁ e k p y) where
    pub sieve_word : p < 16384
    sieve_word = let h = G.high in let l = L.stretch.small in omega arith

    pub sieve_last : e.made ≤ k → e.made ≡ index_of (made_of stacks e₁ e) (carried_by went tags words at end)
    sieve_last h = seat_last stacks e₁ e (carried_by went tags words at end) S R many k G.seating h

    pub sieve_seat : k < e.made → e₁ + k < 16384
    sieve_seat h = seat_at stacks e₁ e (carried_by went tags words at end) S R many k G.seating h

    module _ (h : k < e.made) {a b : ℕ} (ha : a ≡ get_or (row stacks 2) (e₁ + k) 0) (hb : b ≡ next_of (drop (k + 1) (seats_of stacks e₁ e)) e.exprtop) where
      pub sieve_within : (a < b) × (b ≤ 16384)
      sieve_within = seat_within stacks e₁ e (carried_by went tags words at end) S R many k G.seating h a b ha hb

      -- it is the one, or not
      pub sieve_found : true ≡ alike (between (row stacks 1) (row stacks 0) a b) (carried_by went tags words at end) → k ≡ index_of (made_of stacks e₁ e) (carried_by went tags words at end)
      sieve_found q = seat_found stacks e₁ e (carried_by went tags words at end) S R many k G.seating h a b ha hb true q refl

      pub sieve_more : (d : ℕ) → (at ≤ d) × (d < end) × (false ≡ alike (between (row stacks 1) (row stacks 0) a b) (carried_by went tags words at end)) → (z : ℕ) → z ≡ through went (get_or tags d 0) (get_or words d 0) → Sieving words tags went at end stacks e₁ e (k + 1) d z
      sieve_more d f z ze = record { seating = seat_more stacks e₁ e (carried_by went tags words at end) S R many k G.seating h a b ha hb false f.2 refl; low = f.0; high = f.1; word = ze }

      passed : false ≡ alike (between (row stacks 1) (row stacks 0) a b) (carried_by went tags words at end) → Sieving words tags went at end stacks e₁ e (k + 1) p y
      passed q = record { seating = seat_more stacks e₁ e (carried_by went tags words at end) S R many k G.seating h a b ha hb false q refl; low = G.low; high = G.high; word = G.word }

      -- it is not as long
      pub sieve_short : (b - a ≡ end - at → ⊥) → Sieving words tags went at end stacks e₁ e (k + 1) p y
      sieve_short ne =
          let z = sieve_within in
          passed (compares_short (FitN words 1024) words tags (row stacks 0) (row stacks 1) went at end a b L.stretch L.fits (le_of_lt z.0) z.1 (S.rows 0 (omega arith)) (S.rows 1 (omega arith)) (b - a) refl ne)

      -- or not alike in that word
      module _ (long : b - a ≡ end - at) where
        place : a + (p - at) < 16384
        place =
            let z = sieve_within in
            let l = G.low in
            let u = G.high in
            omega arith

        unlike_there : alike_c (get_or (row stacks 1) (a + (p - at)) 0, get_or (row stacks 0) (a + (p - at)) 0) (get_or tags p 0, y) ≡ false → Sieving words tags went at end stacks e₁ e (k + 1) p y
        unlike_there q =
            let z = sieve_within in
            let l = G.low in
            let u = G.high in
            let m = S.rows 0 (omega arith) in
            let n = S.rows 1 (omega arith) in
            passed (sym (unlike tags words (row stacks 1) (row stacks 0) went end b L.stretch.in_tags L.stretch.in_words (omega arith) (omega arith) p (a + (p - at)) u (rw G.word at q) (p - at) at a (omega arith) refl (omega arith)))

      skip : ((c : ℕ) → a + (p - at) < 16384 → alike_c (c, get_or (row stacks 0) (a + (p - at)) 0) (get_or tags p 0, y) ≡ false) → Sieving words tags went at end stacks e₁ e (k + 1) p y
      skip f = go (eqb (b - a) (end - at)) refl
        where
          go : (x : Bool) → eqb (b - a) (end - at) ≡ x → Sieving words tags went at end stacks e₁ e (k + 1) p y
          go true q = let l = eqb-true (b - a) (end - at) q in unlike_there l (f (get_or (row stacks 1) (a + (p - at)) 0) (place l))
          go false q = sieve_short (eqb-false (b - a) (end - at) q)

  -- those that are passed
  module _ {p y k₀ r : ℕ} (H : Hops stacks e₁ e.made (p - at) (get_or tags p 0) y k₀ r) where
    hopped : (d k : ℕ) → k₀ ≤ k → r ≡ k + d → Sieving words tags went at end stacks e₁ e k p y → Sieving words tags went at end stacks e₁ e r p y
    hopped zero k l q G = let z : r ≡ k = omega arith in rw z G
    hopped (suc d) k l q G =
        let h = H.high in
        let g = skip G (omega arith) {a = cell stacks 2 (e₁ + k)} {b = next_of (drop (k + 1) (seats_of stacks e₁ e)) e.exprtop} refl refl (λ c v. H.not k l (omega arith) c v) in
        hopped d (k + 1) (omega arith) (omega arith) g

    pub sieve_hop : Sieving words tags went at end stacks e₁ e k₀ p y → Sieving words tags went at end stacks e₁ e r p y
    sieve_hop G = hopped (r - k₀) k₀ (le_refl k₀) (let l = H.low in omega arith) G
