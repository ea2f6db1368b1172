-- The rounds by rank: before round r those wait that have no rank below r, so round r places those of rank r, and when a round places none, each that waits calls
-- one that waits. `waiting p` are the functions with the mark p.
use Rattle.std.specs.Prelude.{◌≡◌, refl, Bool, true, false, ◌&&◌, ◌⊎◌, List, [], ◌∷◌, ◌++◌, length}
use Rattle.std.proofs.Common.{ap, inl, inr, ⊎_elim}
use Rattle.std.proofs.Math.Bool.{not}
use Prim.Native.Nat.{ℕ, zero, suc, ◌≤◌, ◌<◌}
use native.Mathlib.Omega.{arith}
use Rattle.std.proofs.lemmas.Bool.{not-true}
use Rattle.theory_lists.specs.Lists.{length_none}
use Rattle.theory_lists.specs.Booleans.{and-true, and_first, and_second, never, either}
use Rattle.model.specs.Calls.{Call, Rank, Before, lower, level, In, here, later, Sorted, first, numbers, any, keep, free, held, rounds}
use Rattle.theory_order.specs.Lists.{in_nil, in_append, numbers_in, in_numbers, keep_yes, keep_no, keep_in, in_keep, keep-keep, any_in, in_any}
use Rattle.theory_order.specs.Rounds.{length-round, no_round, last-round, some_round}
use Rattle.theory_order.specs.Ranks.{rank_of_function, callee-rank, ranked}

-- ---- sorted lists

module _ (n : ℕ) (calls : ℕ → ℕ → Bool) where
  pub sorted_append : (xs ys : List ℕ) → Sorted n calls xs → Sorted n calls ys → ((x y : ℕ) → In x xs → In y ys → Before n calls x y) → Sorted n calls (xs ++ ys)
  sorted_append [] ys a b h = b
  sorted_append (x ∷ xs) ys (first g a) b h =
      first (λ y k. ⊎_elim (λ i. g y i) (λ i. h x y here i) (in_append xs k)) (sorted_append xs ys a b (λ x y i j. h x y (later i) j))

  -- functions of one rank, by number
  pub sorted_level : (r k a : ℕ) (p : ℕ → Bool) → ((i : ℕ) → In i (keep (numbers k a) p) → Rank n calls i r) → Sorted n calls (keep (numbers k a) p)
  unfolding numbers keep
  sorted_level r zero a p h = Sorted.none
  sorted_level r (suc k) a p h = go (either (p a)) (λ g. sorted_level r k (suc a) p g)
    where
      go : (p a ≡ true) ⊎ (p a ≡ false) → (((i : ℕ) → In i (keep (numbers k (suc a)) p) → Rank n calls i r) → Sorted n calls (keep (numbers k (suc a)) p))
          → Sorted n calls (keep (numbers (suc k) a) p)
      go (inl t) rest =
          let e : keep (numbers (suc k) a) p ≡ a ∷ keep (numbers k (suc a)) p = keep_yes p a (numbers k (suc a)) t in
          rw e (first (λ y g.
          let b = numbers_in k (suc a) (keep_in p (numbers k (suc a)) g).0 in
          level (h a (rw e here)) (h y (rw e (later g))) (omega arith))
          (rest (λ i g. h i (rw e (later g)))))
      go (inr f) rest =
          let e : keep (numbers (suc k) a) p ≡ keep (numbers k (suc a)) p = keep_no p a (numbers k (suc a)) f in
          rw e (rest (λ i g. h i (rw e g)))

  -- ---- the stages

  unfoldable pub waiting : (ℕ → Bool) → List ℕ
  waiting p = keep (numbers n 0) p

  pub in_waiting : (p : ℕ → Bool) (i : ℕ) → i < n → p i ≡ true → In i (waiting p)
  unfolding waiting
  in_waiting p i h t = in_keep p (in_numbers n 0 i (omega arith) (omega arith)) t

  pub waiting_in : (p : ℕ → Bool) (i : ℕ) → In i (waiting p) → (i < n) × (p i ≡ true)
  unfolding waiting
  waiting_in p i g =
      let r = keep_in p (numbers n 0) g in
      let b = numbers_in n 0 r.0 in
      (omega arith, r.1)

  -- i calls one that waits
  abbrev pub stays : (ℕ → Bool) → ℕ → Bool
  stays p i = any (waiting p) (calls i)

  -- before round r
  pub record Stage (r : ℕ) (p : ℕ → Bool) : Type 0 where
    pub done : (i : ℕ) → i < n → p i ≡ false → (s : ℕ) × Rank n calls i s × (s < r)
    pub not_yet : (i s : ℕ) → p i ≡ true → Rank n calls i s → r ≤ s

  pub first_stage : Stage 0 (λ i. true)
  first_stage = record { done = λ i h f. absurd (never true refl f); not_yet = λ i s t k. omega arith }

  -- those that a round places and keeps
  abbrev pub gone : (ℕ → Bool) → ℕ → Bool
  gone p i = p i && not (stays p i)

  abbrev pub kept : (ℕ → Bool) → ℕ → Bool
  kept p i = p i && stays p i

  pub free_is : (p : ℕ → Bool) → free calls (waiting p) ≡ keep (numbers n 0) (gone p)
  unfolding free waiting
  free_is p = keep-keep p (λ i. not (stays p i)) (numbers n 0)

  pub held_is : (p : ℕ → Bool) → held calls (waiting p) ≡ waiting (kept p)
  unfolding held waiting
  held_is p = keep-keep p (stays p) (numbers n 0)

  module _ (r : ℕ) (p : ℕ → Bool) (st : Stage r p) where
    -- round r places functions of rank r
    gone-rank : (i : ℕ) → i < n → p i ≡ true → stays p i ≡ false → Rank n calls i r
    gone-rank i h t f = go (ranked n calls i r h (λ k c. callee k c (either (p k))))
      where
        callee : (k : ℕ) → Call n calls i k → (p k ≡ true) ⊎ (p k ≡ false) → (s : ℕ) × Rank n calls k s × (s < r)
        callee k c (inl e) = absurd (never _ (in_any (calls i) (in_waiting p k c.to e) c.is) f)
        callee k c (inr e) = st.done k c.to e

        go : (s : ℕ) × Rank n calls i s × (s ≤ r) → Rank n calls i r
        go a =
            let l = st.not_yet i a.0 t a.1 in
            let e : a.0 ≡ r = omega (arith, a.2) in
            rw e at a.1

    pub free-rank : (i : ℕ) → In i (free calls (waiting p)) → Rank n calls i r
    free-rank i g =
        let k = keep_in (gone p) (numbers n 0) (rw (free_is p) at g) in
        let b = numbers_in n 0 k.0 in
        gone-rank i (omega arith) (and_first (p i) (not (stays p i)) k.1) (not-true (stays p i) (and_second (p i) (not (stays p i)) k.1))

    pub next_stage : Stage (suc r) (kept p)
    next_stage = record { done = done; not_yet = not_yet }
      where
        done : (i : ℕ) → i < n → kept p i ≡ false → (s : ℕ) × Rank n calls i s × (s < suc r)
        done i h f =
            ⊎_elim
            (λ (t : p i ≡ true).
            ⊎_elim (λ (u : stays p i ≡ true). absurd (never _ (and-true t u) f)) (λ (u : stays p i ≡ false). (r, gone-rank i h t u, omega arith)) (either (stays p i)))
            (λ (t : p i ≡ false).
            let a = st.done i h t in
            (a.0, a.1, omega (arith, a.2)))
            (either (p i))

        not_yet : (i s : ℕ) → kept p i ≡ true → Rank n calls i s → suc r ≤ s
        not_yet i s t k =
            let a = any_in (calls i) (waiting p) (and_second (p i) (stays p i) t) in
            let w = waiting_in p a.0 a.1 in
            let c : Call n calls i a.0 = record { from = rank_of_function n calls k; to = w.0; is = a.2 } in
            let b = callee-rank n calls k c in
            omega (arith, st.not_yet a.0 b.0 w.1 b.1, b.2)

  -- ---- all the rounds

  -- what the rounds place is ranked, in the order of rank and number
  pub record ByRank (r : ℕ) (l : List ℕ) : Type 0 where
    pub ranks : (i : ℕ) → In i l → (s : ℕ) × Rank n calls i s × (r ≤ s)
    pub sorted : Sorted n calls l

  pub placed : (f r : ℕ) (p : ℕ → Bool) → Stage r p → ByRank r (rounds calls f (waiting p)).placed
  placed zero r p st = rw (no_round calls (waiting p)) (record { ranks = λ i g. absurd (in_nil g); sorted = Sorted.none })
  placed (suc f) r p st = go (free calls (waiting p)) refl (rw (held_is p) (placed f (suc r) (kept p) (next_stage r p st)))
    where
      F : List ℕ
      F = free calls (waiting p)

      go : (l : List ℕ) → F ≡ l → ByRank (suc r) (rounds calls f (held calls (waiting p))).placed → ByRank r (rounds calls (suc f) (waiting p)).placed
      go [] e rest = rw (last-round calls (suc f) (waiting p) e) (record { ranks = λ i g. absurd (in_nil g); sorted = Sorted.none })
      go (i ∷ is) e rest =
          let some : length F ≡ suc (length is) = ap length e in
          rw (some_round calls f (waiting p) (omega arith))
          (record {
            ranks =
                λ x g.
                ⊎_elim
                (λ (k : In x F). (r, free-rank r p st x k, omega arith))
                (λ k.
                let a = rest.ranks x k in
                (a.0, a.1, omega (arith, a.2)))
                (in_append F g);
            sorted =
                sorted_append F _ (rw (free_is p) (sorted_level r n 0 (gone p) (λ x g. free-rank r p st x (rw (free_is p) g)))) rest.sorted (λ x y g k.
                let a = rest.ranks y k in
                lower (free-rank r p st x g) a.1 a.2);
          })

  -- what the rounds leave: a stage whose round places none
  pub record Final (l : List ℕ) : Type 0 where
    pub marks : ℕ → Bool
    pub round : ℕ
    pub stage : Stage round marks
    pub is : l ≡ waiting marks
    pub stuck : free calls (waiting marks) ≡ []

  pub left : (f r : ℕ) (p : ℕ → Bool) → Stage r p → length (waiting p) ≤ f → Final (rounds calls f (waiting p)).left
  left zero r p st h =
      rw (no_round calls (waiting p))
      (record { marks = p; round = r; stage = st; is = refl; stuck = length_none _ (omega (arith, length-round calls (waiting p))) })
  left (suc f) r p st h = go (free calls (waiting p)) refl (λ l. left f (suc r) (kept p) (next_stage r p st) l)
    where
      go : (l : List ℕ) → free calls (waiting p) ≡ l → (length (waiting (kept p)) ≤ f → Final (rounds calls f (waiting (kept p))).left)
          → Final (rounds calls (suc f) (waiting p)).left
      go [] e rest = rw (last-round calls (suc f) (waiting p) e) (record { marks = p; round = r; stage = st; is = refl; stuck = e })
      go (i ∷ is) e rest =
          let some : length (free calls (waiting p)) ≡ suc (length is) = ap length e in
          let less : length (held calls (waiting p)) ≡ length (waiting (kept p)) = ap length (held_is p) in
          let parts = length-round calls (waiting p) in
          rw (some_round calls f (waiting p) (omega arith), held_is p) (rest (omega arith))
