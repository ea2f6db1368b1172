-- The claims of Claims.antt. The rounds end with marks on the functions left: each calls another of them, so it reaches a ring; each other function has a
-- rank, so it reaches none.
use Rattle.std.proofs.Math.Path.{◌≡◌, refl, sym}
use Rattle.std.proofs.Common.{ap, ◌∙◌, arith, eqb-true}
use Rattle.std.specs.Prelude.{Bool, true, false, ◌⊎◌, ◌↔◌, ℕ, ◌≤◌, ◌<◌, eqb}
use Rattle.std.proofs.Math.Logic.{inl, inr, ⊎_elim}
use mathlib.Core.List.{List, [], ◌∷◌, ◌++◌}
use Rattle.std.proofs.Math.ListN.{length}
use Rattle.theory_lists.specs.Booleans.{bool_same, either}
use Rattle.model.specs.Calls.{Call, one, Ring, Reaches, on, leads, Rank, Before, lower, level, In, here, Sorted, first, numbers, any, keep, times, Count, Rounds, rounds, ordered, ring, answer, order}
use Rattle.theory_order.specs.Lists.{in_nil, in_cons, in_append, in_numbers, numbers_in, length-numbers, keep_all_lem, keep_ext, keep_in, in_keep, any_in}
use Rattle.theory_order.specs.Rounds.{enough}
use Rattle.theory_order.specs.Ranks.{callee-rank, ranked_reaches_none, one_rank}
use Rattle.theory_order.specs.Ring.{reaches, reaches_function}
use Rattle.theory_order.specs.Stages.{waiting, in_waiting, waiting_in, first_stage, gone, free_is, ByRank, placed, Final, left}
use Rattle.theory_order.specs.Times.{times-rounds, times-once, times_past}

-- what stands in a list at least once
pub times_in : (l : List ℕ) (x : ℕ) → 0 < times l x → In x l
times_in l x h = go (keep l (eqb x)) refl h
  where
    go : (k : List ℕ) → keep l (eqb x) ≡ k → 0 < length k → In x l
    go [] e g = absurd (omega arith)
    go (y ∷ ys) e g =
        let r = keep_in (eqb x) l {i = y} (rw e here) in
        rw (eqb-true x y r.1) r.0

module _ (n : ℕ) (calls : ℕ → ℕ → Bool) where
  -- all the rounds; more rounds than functions change nothing
  abbrev pub all : Rounds
  all = rounds calls n (numbers n 0)

  pub bound : (f : ℕ) → n ≤ f → rounds calls f (numbers n 0) ≡ all
  bound f h =
      let l = length-numbers n 0 in
      enough calls f (numbers n 0) (omega arith) ∙ ap (λ (k : ℕ). rounds calls k (numbers n 0)) l

  -- ---- the last stage

  all_wait : waiting n calls (λ i. true) ≡ numbers n 0
  unfolding waiting
  all_wait = keep_all_lem (λ i. true) (numbers n 0) (λ i g. refl)

  final : Final n calls all.left
  final = rw all_wait at (left n calls n 0 (λ i. true) (first_stage n calls) (rw all_wait (omega (arith, length-numbers n 0))))

  ranked_placed : ByRank n calls 0 all.placed
  ranked_placed = rw all_wait at (placed n calls n 0 (λ i. true) (first_stage n calls))

  abbrev marks : ℕ → Bool
  marks = final.marks

  -- each function left calls one that is left
  goes_on : (i : ℕ) → i < n → marks i ≡ true → (j : ℕ) × Call n calls i j × (marks j ≡ true)
  goes_on i h t = go (either (any (waiting n calls marks) (calls i)))
    where
      go : (any (waiting n calls marks) (calls i) ≡ true) ⊎ (any (waiting n calls marks) (calls i) ≡ false) → (j : ℕ) × Call n calls i j × (marks j ≡ true)
      go (inl a) =
          let r = any_in (calls i) (waiting n calls marks) a in
          let w = waiting_in n calls marks r.0 r.1 in
          (r.0, record { from = h; to = w.0; is = r.2 }, w.1)
      go (inr f) =
          let g : In i (keep (numbers n 0) (gone n calls marks)) = in_keep (gone n calls marks) (in_numbers n 0 i (omega arith) (omega arith)) (rw (t, f)) in
          absurd (in_nil (rw final.stuck at (rw (← (free_is n calls marks)) at g)))

  left_reaches : (i : ℕ) → i < n → marks i ≡ true → Reaches n calls i
  left_reaches i h t = reaches n calls marks goes_on i h t

  reaching_left : (i : ℕ) → Reaches n calls i → marks i ≡ true
  reaching_left i g =
      ⊎_elim
      (λ (t : marks i ≡ true). t)
      (λ (f : marks i ≡ false). absurd (ranked_reaches_none n calls (final.stage.done i (reaches_function n calls g) f).1 g))
      (either (marks i))

  -- ---- rank

  -- rank is defined exactly for the functions from which no chain reaches a ring
  pub rank_exactly : (i : ℕ) → i < n → ((r : ℕ) × Rank n calls i r) ↔ (Reaches n calls i → ⊥)
  rank_exactly i h = (λ k g. ranked_reaches_none n calls k.1 g, λ off. go off (either (marks i)))
    where
      go : (Reaches n calls i → ⊥) → (marks i ≡ true) ⊎ (marks i ≡ false) → (r : ℕ) × Rank n calls i r
      go off (inl t) = absurd (off (left_reaches i h t))
      go off (inr f) =
          let a = final.stage.done i h f in
          (a.0, a.1)

  -- ---- what is left

  -- what is left waiting is exactly the functions from which a chain reaches a ring
  pub left_exactly : (i : ℕ) → In i all.left ↔ Reaches n calls i
  left_exactly i = (to, back)
    where
      to : In i all.left → Reaches n calls i
      to g =
          let w = waiting_in n calls marks i (rw final.is at g) in
          left_reaches i w.0 w.1

      back : Reaches n calls i → In i all.left
      back g = rw final.is (in_waiting n calls marks i (reaches_function n calls g) (reaching_left i g))

  -- and they are as many as that property counts
  pub left_count : Count n (Reaches n calls) (length all.left)
  unfolding waiting
  left_count =
      record {
        test = marks;
        says = λ i h. (left_reaches i h, reaching_left i);
        is = sym (ap length final.is);
      }

  -- ---- the answer

  -- the answer goes by what is left
  answer-ordered : (os : List ℕ) (p l : List ℕ) → answer p l ≡ ordered os → (os ≡ p) × (l ≡ [])
  unfolding answer
  answer-ordered os p [] e = (cc, refl)
  answer-ordered os p (i ∷ is) e = let z : ◌≡◌ {A = ℕ} 0 1 = cc in absurd (omega arith)

  answer_ring : (k : ℕ) (p l : List ℕ) → answer p l ≡ ring k → k ≡ length l
  unfolding answer
  answer_ring k p [] e = let z : ◌≡◌ {A = ℕ} 0 1 = cc in absurd (omega arith)
  answer_ring k p (i ∷ is) e = cc

  answer_either : (p l : List ℕ) → (answer p l ≡ ordered p) ⊎ ((i : ℕ) × In i l × (answer p l ≡ ring (length l)))
  unfolding answer
  answer_either p [] = inl refl
  answer_either p (i ∷ is) = inr (i, here, refl)

  pub ordered_is : (os : List ℕ) → order n calls ≡ ordered os → (os ≡ all.placed) × (all.left ≡ [])
  unfolding order
  ordered_is os e = answer-ordered os all.placed all.left e

  -- the order exists exactly if no chain comes back to its start
  pub order_exactly : ((os : List ℕ) × (order n calls ≡ ordered os)) ↔ ((i : ℕ) → Ring n calls i → ⊥)
  unfolding order
  order_exactly = (to, back)
    where
      to : (os : List ℕ) × (order n calls ≡ ordered os) → (i : ℕ) → Ring n calls i → ⊥
      to a i g = in_nil (rw (ordered_is a.0 a.1).1 at ((left_exactly i).1 (on g)))

      none_reaches : ((i : ℕ) → Ring n calls i → ⊥) → (i : ℕ) → Reaches n calls i → ⊥
      none_reaches off i (on g) = off i g
      none_reaches off i (leads {j} c g) = off j g

      back : ((i : ℕ) → Ring n calls i → ⊥) → (os : List ℕ) × (order n calls ≡ ordered os)
      back off = ⊎_elim (λ e. (all.placed, e)) (λ a. absurd (none_reaches off a.0 ((left_exactly a.0).0 a.1))) (answer_either all.placed all.left)

  -- else the answer is the count of the functions from which a chain reaches a ring
  pub ring_counts : (k : ℕ) → order n calls ≡ ring k → Count n (Reaches n calls) k
  unfolding order
  ring_counts k e = rw (answer_ring k all.placed all.left e) left_count

  pub ring_answers : (i : ℕ) → Ring n calls i → (k : ℕ) × (order n calls ≡ ring k)
  unfolding order
  ring_answers i g =
      ⊎_elim (λ e. absurd (order_exactly.0 (all.placed, e) i g)) (λ a. (length all.left, a.2)) (answer_either all.placed all.left)

  -- ---- the order

  module _ (os : List ℕ) (e : order n calls ≡ ordered os) where
    -- each function is in it once
    pub each_once : (i : ℕ) → i < n → times os i ≡ 1
    each_once i h =
        let a = ordered_is os e in
        let l : times all.left i ≡ 0 = rw a.1 (unfold keep in refl) in
        let t = times-rounds calls i n (numbers n 0) in
        let o = times-once n 0 i (omega arith) (omega arith) in
        rw a.0 (omega arith)

    -- and nothing else does
    pub none_else : (i : ℕ) → n ≤ i → times os i ≡ 0
    none_else i h =
        let a = ordered_is os e in
        let t = times-rounds calls i n (numbers n 0) in
        let o = times_past n 0 i (omega arith) in
        rw a.0 (omega arith)

    -- by rank, then source number
    pub order_sorted : Sorted n calls os
    order_sorted = rw (ordered_is os e).0 ranked_placed.sorted

    -- every callee comes before its callers
    pub callees-first : (xs ys : List ℕ) (i j : ℕ) → os ≡ xs ++ (i ∷ ys) → Call n calls i j → In j xs
    callees-first xs ys i j is c =
        let s : In j os = times_in os j (omega (arith, each_once j c.to)) in
        ⊎_elim (λ g. g) (λ (g : In j (i ∷ ys)). absurd (later-none (in_cons g))) (in_append xs (rw is at s))
      where
        tail : (zs : List ℕ) → Sorted n calls (zs ++ (i ∷ ys)) → Sorted n calls (i ∷ ys)
        tail [] s = s
        tail (z ∷ zs) (first h s) = tail zs s

        before : In j ys → Sorted n calls (i ∷ ys) → Before n calls i j
        before g (first h s) = h j g

        wrong : Before n calls i j → ⊥
        wrong (lower a b l) =
            let k = callee-rank n calls a c in
            omega (arith, k.2, one_rank n calls k.1 b)
        wrong (level a b l) =
            let k = callee-rank n calls a c in
            omega (arith, k.2, one_rank n calls k.1 b)

        later-none : (j ≡ i) ⊎ In j ys → ⊥
        later-none (inl q) = order_exactly.0 (os, e) i (rw q at (one c))
        later-none (inr g) = wrong (before g (tail xs (rw is at order_sorted)))

-- two counts of one property are one number
pub one-count : (n : ℕ) (P : ℕ → Type 0) (k m : ℕ) → Count n P k → Count n P m → k ≡ m
one-count n P k m a b =
    sym a.is
    ∙ ap length (keep_ext a.test b.test (numbers n 0) (λ i g.
    let r = numbers_in n 0 g in
    let h : i < n = omega arith in
    bool_same _ _ (λ t. (b.says i h).1 ((a.says i h).0 t)) (λ t. (a.says i h).1 ((b.says i h).0 t))))
    ∙ b.is
