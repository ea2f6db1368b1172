-- The header: where sections start and end, and how many records they have.
use mathlib.Core.Path.{◌≡◌, refl, sym, ap, ◌∙◌}
use mathlib.Core.Bool.{true, false, ◌&&◌}
use mathlib.Core.List.{List}
use Rattle.std.proofs.Common.{◌⊎◌, inl, inr}
use Prim.Native.Nat.{ℕ, suc, ◌+◌, ◌-◌, ◌*◌, ◌^◌, ◌≤◌, ◌<◌}
use native.Mathlib.Numerals.{add-one}
use native.Mathlib.Omega.{arith}
use lib.Dec.{eqb, leb}
use lib.ListN.{length, get_or, take, drop}
use lib.Seq.{slice, slice-cons, slice_empty, get_or-take, drop-cons, length-take-le}
use borrow.Author.Tests.{eq-eqb, ne_eqb, le-leb, lt-leb}
use Rattle.model.specs.Module.{next, limits, count_at, offset_at, end_at, placed}

-- ---- where a record ends
module _ (words : List ℕ) (base stop n j : ℕ) (h : j < n) (room : base + n ≤ stop) (enough : stop ≤ length words) where
  pub next_some : j + 1 < n → next (slice (base + j + 1) (base + n) words) (stop - base) ≡ get_or words (base + j + 1) 0
  unfolding next
  next_some k = rw (slice-cons (base + j + 1) (base + n) words 0 (omega arith) (omega arith))

  pub next-none : n ≤ j + 1 → stop ≡ base + next (slice (base + j + 1) (base + n) words) (stop - base)
  unfolding next
  next-none k =
      let e : base + j + 1 ≡ base + n = omega arith in
      let z : stop ≡ base + (stop - base) = omega arith in
      rw (e, slice_empty (base + n) words) z

-- ---- the header's words
module _ (words : List ℕ) (total : ℕ) (large : 20 ≤ total) (enough : total ≤ length words) where
  pub count_is : (k : ℕ) → k < 9 → count_at k (take total words) ≡ count_at k words
  unfolding count_at
  count_is k h = get_or-take total words (2 + 2 * k) 0 (omega arith)

  pub count-word : (k : ℕ) → k < 9 → count_at k (take total words) ≡ get_or words (2 + 2 * k) 0
  unfolding count_at
  count-word k h = get_or-take total words (2 + 2 * k) 0 (omega arith)

  pub offset_is : (k : ℕ) → k < 9 → offset_at k (take total words) ≡ offset_at k words
  unfolding offset_at
  offset_is k h = get_or-take total words (3 + 2 * k) 0 (omega arith)

  pub end-last : (k : ℕ) → k ≡ 8 → end_at k (take total words) ≡ total
  unfolding end_at
  end-last k e = rw (end_at, eq-eqb k 8 e) (length-take-le total words enough)

  pub end-next : (k : ℕ) → (k ≡ 8 → ⊥) → k < 9 → end_at k (take total words) ≡ offset_at (k + 1) words
  unfolding end_at
  end-next k n h = rw (end_at, ne_eqb k 8 n, add-one k) (offset_is (suc k) (omega arith))

-- ---- limits
limits-length : length limits ≡ 9
unfolding limits
limits-length = refl

-- ---- are the sections in place?
pub record Placing (words : List ℕ) (total : ℕ) (at k : ℕ) : Type 0 where
  pub some_left : k ≤ 9
  pub same : placed (drop k limits) k at (take total words) ≡ placed limits 0 20 (take total words)

module _ (words : List ℕ) (total : ℕ) (large : 20 ≤ total) (enough : total ≤ length words) where
  ws : List ℕ
  ws = take total words

  pub placed-begin : Placing words total 20 0
  placed-begin = record { some_left = omega arith; same = refl }

  module _ (at k : ℕ) (inv : Placing words total at k) where
    module _ (h : k < 9) where
      opened : placed (drop k limits) k at (take total words) ≡ (eqb (offset_at k ws) at && (leb (count_at k ws) (get_or limits k 0) && (leb at (end_at k ws) && (leb (end_at k ws) (length ws) && placed (drop (suc k) limits) (suc k) (end_at k ws) ws))))
      unfolding placed ws
      opened = rw (drop-cons limits k 0 (omega (arith, limits-length)))

      pub placed_start : (start : ℕ) → start ≡ offset_at k words → (start ≡ at → ⊥) → false ≡ placed limits 0 20 (take total words)
      unfolding ws
      placed_start start is n = sym (opened ∙ rw (ne_eqb (offset_at k (take total words)) at (λ q. n (is ∙ sym (offset_is words total large enough k h) ∙ q)))) ∙ inv.same

      module _ (start end most : ℕ) (is-start : start ≡ offset_at k words) (is-end : end ≡ end_at k (take total words)) (is_most : most ≡ get_or limits k 0) where
        start_is : offset_at k (take total words) ≡ start
        start_is = offset_is words total large enough k h ∙ sym is-start

        pub placed_many : start ≡ at → most < count_at k words → false ≡ placed limits 0 20 (take total words)
        unfolding ws
        placed_many e l = sym (opened ∙ rw (eq-eqb (offset_at k (take total words)) at (start_is ∙ e), lt-leb (count_at k (take total words)) (get_or limits k 0) (omega (arith, count_is words total large enough k h, is_most)))) ∙ inv.same

        module _ (e : start ≡ at) (l : count_at k words ≤ most) where
          few : count_at k (take total words) ≤ get_or limits k 0
          few = omega (arith, count_is words total large enough k h, is_most)

          pub placed_back : end < at → false ≡ placed limits 0 20 (take total words)
          unfolding ws
          placed_back q = sym (opened ∙ rw (eq-eqb (offset_at k (take total words)) at (start_is ∙ e), le-leb (count_at k (take total words)) (get_or limits k 0) few, lt-leb at (end_at k (take total words)) (omega (arith, is-end)))) ∙ inv.same

          pub placed_past : at ≤ end → total < end → false ≡ placed limits 0 20 (take total words)
          unfolding ws
          placed_past f q = sym (opened ∙ rw (eq-eqb (offset_at k (take total words)) at (start_is ∙ e), le-leb (count_at k (take total words)) (get_or limits k 0) few, le-leb at (end_at k (take total words)) (omega (arith, is-end)), lt-leb (end_at k (take total words)) (length (take total words)) (omega (arith, is-end, length-take-le total words enough)))) ∙ inv.same

          pub placed-next : at ≤ end → end ≤ total → Placing words total end (k + 1)
          unfolding ws
          placed-next f q = record {
            some_left = omega arith;
            same = rw (add-one k, is-end) (sym (opened ∙ rw (eq-eqb (offset_at k (take total words)) at (start_is ∙ e), le-leb (count_at k (take total words)) (get_or limits k 0) few, le-leb at (end_at k (take total words)) (omega (arith, is-end)), le-leb (end_at k (take total words)) (length (take total words)) (omega (arith, is-end, length-take-le total words enough)))) ∙ inv.same);
          }

      pub placed_out : (start end most : ℕ) → start ≡ offset_at k words → end ≡ end_at k (take total words) → most ≡ get_or limits k 0
          → (start ≡ at → ⊥) ⊎ (((start ≡ at) × (most < count_at k words)) ⊎ (((start ≡ at) × (count_at k words ≤ most) × (end < at)) ⊎ ((start ≡ at) × (count_at k words ≤ most) × (at ≤ end) × (total < end))))
          → false ≡ placed limits 0 20 (take total words)
      placed_out start end most e f g (inl n) = placed_start start e n
      placed_out start end most e f g (inr (inl q)) = placed_many start end most e f g q.0 q.1
      placed_out start end most e f g (inr (inr (inl q))) = placed_back start end most e f g q.0 q.1 q.2
      placed_out start end most e f g (inr (inr (inr q))) = placed_past start end most e f g q.0 q.1 q.2 q.3

    pub placed_done : 9 ≤ k → true ≡ placed limits 0 20 (take total words)
    unfolding placed limits
    placed_done h = let e : k ≡ 9 = omega (arith, inv.some_left) in rw e at inv.same

-- ---- the places as the code computes them
pub end_of_some : (words : List ℕ) (base stop n j : ℕ) → j < n → base + n ≤ stop → stop ≤ length words → stop ≤ 16384 → j + 1 < n → get_or words (base + j + 1) 0 < 2 ^ 32 → (base + get_or words (base + j + 1) 0 ≡ base + next (slice (base + j + 1) (base + n) words) (stop - base)) × (base + get_or words (base + j + 1) 0 < 2 ^ 33)
end_of_some words base stop n j h room enough small k l = (ap (base +◌) (sym (next_some words base stop n j h room enough k)), omega arith)

pub end_of_none : (words : List ℕ) (base stop n j : ℕ) → j < n → base + n ≤ stop → stop ≤ length words → stop ≤ 16384 → n ≤ j + 1 → (stop ≡ base + next (slice (base + j + 1) (base + n) words) (stop - base)) × (stop < 2 ^ 33)
end_of_none words base stop n j h room enough small k = (next-none words base stop n j h room enough k, omega arith)

pub end_at_last : (words : List ℕ) (total k : ℕ) → 20 ≤ total → total ≤ length words → total ≤ 16384 → k ≡ 8 → (total ≡ end_at k (take total words)) × (total < 2 ^ 32)
end_at_last words total k large enough small e = (sym (end-last words total large enough k e), omega arith)

pub end_at_next : (words : List ℕ) (total k : ℕ) → 20 ≤ total → total ≤ length words → k < 9 → (k ≡ 8 → ⊥) → offset_at (k + 1) words < 2 ^ 32 → (offset_at (k + 1) words ≡ end_at k (take total words)) × (offset_at (k + 1) words < 2 ^ 32)
end_at_next words total k large enough h n l = (sym (end-next words total large enough k n h), l)
