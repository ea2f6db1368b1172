-- Rank: it falls along a chain, so a ranked function reaches no ring; a function has one rank at most; a function whose callees are all ranked is ranked.
use Rattle.std.specs.Prelude.{◌≡◌, refl, Bool, true, false, ◌&&◌, ◌⊎◌, List, [], ◌∷◌, ℕ, zero, suc, ◌≤◌, ◌<◌, leb, ltb}
use Rattle.std.proofs.Common.{ap, inl, inr, ⊎_elim, le_antisymm, arith, leb-true, leb-false, lt-ltb, ltb-true}
use Rattle.theory_lists.specs.Booleans.{and-true, and_first, and_second, never, either}
use Rattle.model.specs.Calls.{Call, Chain, one, more, Ring, Reaches, on, leads, Rank, lowest, above, In, here, later, numbers, any}
use Rattle.theory_order.specs.Lists.{in_cons, numbers_in, in_numbers, in_any}

-- of those of a list that pass a test, j is greatest
record Greatest (p : ℕ → Bool) (size : ℕ → ℕ) (l : List ℕ) (j : ℕ) : Type 0 where
  stands : In j l
  passes : p j ≡ true
  most : (k : ℕ) → In k l → p k ≡ true → size k ≤ size j

greatest : (l : List ℕ) (p : ℕ → Bool) (size : ℕ → ℕ) → any l p ≡ true → (j : ℕ) × Greatest p size l j
unfolding any
greatest [] p size h = absurd (never false h refl)
greatest (i ∷ is) p size h = go (either (p i)) (either (any is p)) (λ t. greatest is p size t)
  where
    -- i, or the greatest of the others
    compare : (j : ℕ) → p i ≡ true → Greatest p size is j → (m : ℕ) × Greatest p size (i ∷ is) m
    compare j t g =
        ⊎_elim
        (λ (e : leb (size i) (size j) ≡ true).
        (j, record { stands = later g.stands; passes = g.passes; most = λ k a b. ⊎_elim (λ (q : k ≡ i). rw q (leb-true (size i) (size j) e)) (λ c. g.most k c b) (in_cons a) }))
        (λ (e : leb (size i) (size j) ≡ false).
        (i, record { stands = here; passes = t; most = λ k a b. ⊎_elim (λ (q : k ≡ i). rw q (omega arith)) (λ c. omega (arith, leb-false (size i) (size j) e, g.most k c b)) (in_cons a) }))
        (either (leb (size i) (size j)))

    go : (p i ≡ true) ⊎ (p i ≡ false) → (any is p ≡ true) ⊎ (any is p ≡ false) → (any is p ≡ true → (j : ℕ) × Greatest p size is j)
        → (j : ℕ) × Greatest p size (i ∷ is) j
    go (inl t) (inl a) ih = compare (ih a).0 t (ih a).1
    go (inl t) (inr a) ih =
        (i, record { stands = here; passes = t; most = λ k b c. ⊎_elim (λ (q : k ≡ i). rw q (omega arith)) (λ d. absurd (never _ (in_any p d c) a)) (in_cons b) })
    go (inr f) a ih =
        let r = ih (rw f at h) in
        let g = r.1 in
        (r.0, record { stands = later g.stands; passes = g.passes; most = λ k b c. ⊎_elim (λ (q : k ≡ i). absurd (never _ (rw q at c) f)) (λ d. g.most k d c) (in_cons b) })

module _ (n : ℕ) (calls : ℕ → ℕ → Bool) where
  pub rank_of_function : {i r : ℕ} → Rank n calls i r → i < n
  rank_of_function (lowest h off) = h
  rank_of_function (above rank of le c e) = c.from

  -- a callee has a lower rank
  pub callee-rank : {i j r : ℕ} → Rank n calls i r → Call n calls i j → (s : ℕ) × Rank n calls j s × (s < r)
  callee-rank {j} (lowest h off) c = absurd (off j c)
  callee-rank {j} (above rank of le d e) c = (rank j, of j c, omega (arith, le j c))

  pub chain_rank : {i j r : ℕ} → Chain n calls i j → Rank n calls i r → (s : ℕ) × Rank n calls j s × (s < r)
  chain_rank (one c) k = callee-rank k c
  chain_rank (more c g) k =
      let a = callee-rank k c in
      let b = chain_rank g a.1 in
      (b.0, b.1, omega (arith, a.2, b.2))

  no_ring : (f : ℕ) {i r : ℕ} → r ≤ f → Rank n calls i r → Ring n calls i → ⊥
  no_ring zero h k g = let a = chain_rank g k in omega (arith, a.2)
  no_ring (suc f) h k g = let a = chain_rank g k in no_ring f (omega (arith, a.2)) a.1 g

  pub ranked_reaches_none : {i r : ℕ} → Rank n calls i r → Reaches n calls i → ⊥
  ranked_reaches_none {i} {r} k (on g) = no_ring r (omega arith) k g
  ranked_reaches_none {i} {r} k (leads c g) = let a = chain_rank c k in no_ring a.0 (omega arith) a.1 g

  -- a function has one rank at most
  pub one_rank : {i r s : ℕ} → Rank n calls i r → Rank n calls i s → r ≡ s
  one_rank (lowest h off) (lowest h' off') = refl
  one_rank (lowest h off) (above {j} rank of le c e) = absurd (off j c)
  one_rank (above {j} rank of le c e) (lowest h off) = absurd (off j c)
  one_rank (above {j} {r} rank of le c e) (above {j = j'} {r = r'} rank' of' le' c' e') =
      let a : rank j ≡ rank' j = one_rank (of j c) (of' j c) in
      let b : rank j' ≡ rank' j' = one_rank (of j' c') (of' j' c') in
      let up : r ≤ r' = omega (arith, le' j c) in
      let down : r' ≤ r = omega (arith, le j' c') in
      ap suc (le_antisymm up down)

  -- callees that are all ranked below r give a rank of r at most
  module _ (i r : ℕ) (h : i < n) (all : (k : ℕ) → Call n calls i k → (s : ℕ) × Rank n calls k s × (s < r)) where
    -- each number with a rank, which is the rank of a callee
    pick : (k : ℕ) → (s : ℕ) × (Call n calls i k → Rank n calls k s × (s < r))
    pick k = go (either (ltb k n && calls i k))
      where
        go : ((ltb k n && calls i k) ≡ true) ⊎ ((ltb k n && calls i k) ≡ false) → (s : ℕ) × (Call n calls i k → Rank n calls k s × (s < r))
        go (inl t) =
            let a = all k (record { from = h; to = ltb-true k n (and_first (ltb k n) (calls i k) t); is = and_second (ltb k n) (calls i k) t }) in
            (a.0, λ c. (a.1, a.2))
        go (inr f) = (0, λ c. absurd (never _ (and-true (lt-ltb k n c.to) c.is) f))

    pub ranked : (s : ℕ) × Rank n calls i s × (s ≤ r)
    ranked = go (either (any (numbers n 0) (calls i)))
      where
        go : (any (numbers n 0) (calls i) ≡ true) ⊎ (any (numbers n 0) (calls i) ≡ false) → (s : ℕ) × Rank n calls i s × (s ≤ r)
        go (inl t) =
            let g = greatest (numbers n 0) (calls i) (λ k. (pick k).0) t in
            let b = numbers_in n 0 g.1.stands in
            let c : Call n calls i g.0 = record { from = h; to = omega arith; is = g.1.passes } in
            (suc (pick g.0).0, above (λ k. (pick k).0) (λ k d. ((pick k).1 d).0) (λ k d. g.1.most k (in_numbers n 0 k (omega arith) (omega (arith, d.to))) d.is) c refl, ((pick g.0).1 c).1)
        go (inr f) = (0, lowest h (λ j c. never _ (in_any (calls i) (in_numbers n 0 j (omega arith) (omega (arith, c.to))) c.is) f), omega arith)
