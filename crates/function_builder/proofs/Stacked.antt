-- The stacks of a function under construction: where its expressions start and end, and the first that equals a record.
use mathlib.Core.Path.{◌≡◌, refl, sym, ◌∙◌}
use mathlib.Core.Bool.{Bool, true, false}
use mathlib.Core.List.{List, [], ◌∷◌}
use Prim.Native.Nat.{ℕ, zero, suc, ◌+◌, ◌≤◌, ◌<◌}
use native.Mathlib.Nat.{zero-add, add-zero}
use native.Mathlib.Omega.{arith}
use lib.ListN.{length, get_or, take, drop, drop_of_length-le}
use lib.Seq.{slice, drop-drop, slice-cons, length-take-le}
use Rattle.model.specs.Outcome.{Cells}
use Rattle.model.specs.Between.{between}
use Rattle.model.specs.References.{alike, index_of}
use Rattle.derive_state.specs.Held.{row}
use Rattle.derive_state.specs.Sizes.{Sizes}
use Rattle.function_references.specs.Cuts.{next_of, cut, Rising}
use Rattle.function_builder.specs.Stacks.{seats_of, made_of, Stacks}
use Rattle.function_builder.proofs.Stack.{rising_low}

-- ---- where expressions start
module _ (stacks : List (List ℕ)) (e₁ : ℕ) (e : Sizes) where
  pub seats_from : (k : ℕ) → drop k (seats_of stacks e₁ e) ≡ slice (e₁ + k) (e₁ + e.made) (row stacks 2)
  unfolding seats_of
  seats_from k = drop-drop k e₁ (take (e₁ + e.made) (row stacks 2))

  module _ (S : Stacks stacks e) (room : e₁ + e.made ≤ 16384) where
    pub seats_cons : (k : ℕ) → k < e.made → drop k (seats_of stacks e₁ e) ≡ get_or (row stacks 2) (e₁ + k) 0 ∷ drop (k + 1) (seats_of stacks e₁ e)
    seats_cons k h =
        let l = S.rows 2 (omega arith) in
        let q : suc (e₁ + k) ≡ e₁ + (k + 1) = omega arith in
        seats_from k ∙ slice-cons (e₁ + k) (e₁ + e.made) (row stacks 2) 0 (omega arith) (omega arith) ∙ rw (q, seats_from (k + 1))

    pub seats_end : (k : ℕ) → e.made ≤ k → drop k (seats_of stacks e₁ e) ≡ []
    seats_end k h =
        let l = S.rows 2 (omega arith) in
        let t = length-take-le (e₁ + e.made) (row stacks 2) (omega arith) in
        seats_from k ∙ drop_of_length-le (take (e₁ + e.made) (row stacks 2)) {i = e₁ + k} (omega arith)

    -- ---- where one ends
    pub next_some : (k : ℕ) → k + 1 < e.made → (r : ℕ) → r ≡ get_or (row stacks 2) (e₁ + k + 1) 0 → r ≡ next_of (drop (k + 1) (seats_of stacks e₁ e)) e.exprtop
    unfolding next_of
    next_some k h r hr = let q : e₁ + k + 1 ≡ e₁ + (k + 1) = omega arith in hr ∙ rw (q, seats_cons (k + 1) h)

    pub next-none : (k : ℕ) → e.made ≤ k + 1 → e.exprtop ≡ next_of (drop (k + 1) (seats_of stacks e₁ e)) e.exprtop
    unfolding next_of
    next-none k h = rw (seats_end (k + 1) h)

-- ---- rising places
rising_from : (ss : List ℕ) (a end k : ℕ) → Rising ss a end → k < length ss → Rising (drop k ss) (get_or ss k 0) end
unfolding Rising
rising_from [] a end k r h = absurd (omega arith)
rising_from (b ∷ bs) a end zero r h = rw r.0 (refl, r.1, r.2)
rising_from (b ∷ bs) a end (suc k) r h = rising_from bs (next_of bs end) end k r.2 (omega arith)

rising_cons : (x : ℕ) (rest : List ℕ) (a end : ℕ) → Rising (x ∷ rest) a end → (x < next_of rest end) × (next_of rest end ≤ end)
unfolding Rising
rising_cons x rest a end r = let h = r.0 in let l = r.1 in let t = rising_low rest (next_of rest end) end r.2 in (omega arith, omega arith)

-- ---- finding an expression: what is left from number k on is the whole
pub record Seating (stacks : List (List ℕ)) (e₁ : ℕ) (e : Sizes) (c : Cells) (k : ℕ) : Type 0 where
  pub low : k ≤ e.made
  pub rest : index_of (made_of stacks e₁ e) c ≡ k + index_of (cut (drop k (seats_of stacks e₁ e)) e.exprtop (row stacks 1) (row stacks 0)) c

module _ (stacks : List (List ℕ)) (e₁ : ℕ) (e : Sizes) (c : Cells) (S : Stacks stacks e) (R : Rising (seats_of stacks e₁ e) e₁ e.exprtop) (many : length (seats_of stacks e₁ e) ≡ e.made) where
  pub seat_room : e₁ + e.made ≤ 16384
  seat_room = let r = rising_low (seats_of stacks e₁ e) e₁ e.exprtop R in let h = S.high in omega arith

  pub seat_first : Seating stacks e₁ e c 0
  unfolding made_of
  seat_first = record { low = omega arith; rest = sym (zero-add _) }

  module _ (k : ℕ) (T : Seating stacks e₁ e c k) where
    module _ (h : k < e.made) where
      pub seat_at : e₁ + k < 16384
      seat_at = let r = seat_room in omega arith

      module _ (a b : ℕ) (ha : a ≡ get_or (row stacks 2) (e₁ + k) 0) (hb : b ≡ next_of (drop (k + 1) (seats_of stacks e₁ e)) e.exprtop) where
        here : drop k (seats_of stacks e₁ e) ≡ a ∷ drop (k + 1) (seats_of stacks e₁ e)
        here = rw ha (seats_cons stacks e₁ e S seat_room k h)

        pub seat_within : (a < b) × (b ≤ 16384)
        seat_within =
            let r = rising_cons a (drop (k + 1) (seats_of stacks e₁ e)) (get_or (seats_of stacks e₁ e) k 0) e.exprtop (rw here at (rising_from (seats_of stacks e₁ e) e₁ e.exprtop k R (omega arith))) in
            let h = S.high in
            (rw hb r.0, rw hb (let z = r.1 in omega arith))

        cut-here : cut (drop k (seats_of stacks e₁ e)) e.exprtop (row stacks 1) (row stacks 0) ≡ between (row stacks 1) (row stacks 0) a b ∷ cut (drop (k + 1) (seats_of stacks e₁ e)) e.exprtop (row stacks 1) (row stacks 0)
        unfolding cut
        cut-here = rw (here, hb)

        module _ (r : Bool) (re : r ≡ alike (between (row stacks 1) (row stacks 0) a b) c) where
          pub seat_found : r ≡ true → k ≡ index_of (made_of stacks e₁ e) c
          unfolding index_of
          seat_found q = sym (T.rest ∙ rw (cut-here, sym re ∙ q, index_of) (add-zero k))

          pub seat_more : r ≡ false → Seating stacks e₁ e c (k + 1)
          unfolding index_of
          seat_more q = record { low = omega arith; rest = T.rest ∙ rw (cut-here, sym re ∙ q, index_of) (omega arith) }

    pub seat_last : e.made ≤ k → e.made ≡ index_of (made_of stacks e₁ e) c
    unfolding cut index_of
    seat_last h =
        let q : k ≡ e.made = let z = T.low in omega arith in
        sym (T.rest ∙ rw (seats_end stacks e₁ e S seat_room k h) (omega arith))
