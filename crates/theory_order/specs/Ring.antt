-- Where each of some functions calls another of them, a chain from each reaches a ring: it is followed with the functions passed marked, and meets a marked one
-- before it runs out of functions.
use Rattle.std.specs.Prelude.{◌≡◌, refl, Bool, cond, ◌⊎◌, length}
use Rattle.std.proofs.Math.Bool.{true, false, not}
use Rattle.std.proofs.Math.Logic.{inl, inr, ⊎_elim}
use Prim.Native.Nat.{ℕ, zero, suc, ◌≤◌, ◌<◌}
use Rattle.std.proofs.Common.{le_refl, arith, eqb-true, eq-eqb}
use Rattle.std.proofs.Math.Dec.{eqb}
use Rattle.theory_lists.specs.Booleans.{never, either}
use Rattle.model.specs.Calls.{Call, Chain, one, more, Reaches, on, leads, numbers, keep}
use Rattle.theory_order.specs.Lists.{in_numbers, length_lt}

module _ (n : ℕ) (calls : ℕ → ℕ → Bool) where
  -- a call more at the end of a chain
  then : {i j k : ℕ} → Chain n calls i j → Call n calls j k → Chain n calls i k
  then (one c) d = more c (one d)
  then (more c g) d = more c (then g d)

  pub reaches_on : {i j : ℕ} → Call n calls i j → Reaches n calls j → Reaches n calls i
  reaches_on c (on g) = leads (one c) g
  reaches_on c (leads d g) = leads (more c d) g

  pub reaches_function : {i : ℕ} → Reaches n calls i → i < n
  reaches_function (on (one c)) = c.from
  reaches_function (on (more c g)) = c.from
  reaches_function (leads (one c) g) = c.from
  reaches_function (leads (more c d) g) = c.from

  -- those of the functions that are not passed yet
  ahead : (ℕ → Bool) → ℕ
  ahead passed = length (keep (numbers n 0) (λ k. not (passed k)))

  module _ (p : ℕ → Bool) (some : (i : ℕ) → i < n → p i ≡ true → (j : ℕ) × Call n calls i j × (p j ≡ true)) where
    -- a chain leads from each function passed to i
    To : (ℕ → Bool) → ℕ → Type 0
    To passed i = (k : ℕ) → passed k ≡ true → (k ≡ i) ⊎ Chain n calls k i

    -- i's callee j is passed too
    pass : (ℕ → Bool) → ℕ → ℕ → Bool
    pass passed j k = cond (eqb k j) true (passed k)

    pass-to : (passed : ℕ → Bool) (i j : ℕ) → Call n calls i j → To passed i → To (pass passed j) j
    unfolding To pass
    pass-to passed i j c to k h = go (either (eqb k j))
      where
        go : (eqb k j ≡ true) ⊎ (eqb k j ≡ false) → (k ≡ j) ⊎ Chain n calls k j
        go (inl t) = inl (eqb-true k j t)
        go (inr f) = inr (⊎_elim (λ (e : k ≡ i). rw e (one c)) (λ g. then g c) (to k (rw f at h)))

    pass-less : (passed : ℕ → Bool) (j : ℕ) → j < n → passed j ≡ false → ahead (pass passed j) < ahead passed
    unfolding ahead pass
    pass-less passed j h f =
        length_lt (λ k. not (pass passed j k)) (λ k. not (passed k)) (in_numbers n 0 j (omega arith) (omega arith)) (λ k _ t. off k t)
        (rw (eq-eqb j j refl)) (rw f)
      where
        off : (k : ℕ) → not (pass passed j k) ≡ true → not (passed k) ≡ true
        off k t = ⊎_elim (λ (e : eqb k j ≡ true). absurd (never false (rw e at t) refl)) (λ (e : eqb k j ≡ false). rw e at t) (either (eqb k j))

    -- i's callee is passed already, or the chain goes on from there
    step : (passed : ℕ → Bool) (i : ℕ) → i < n → p i ≡ true → To passed i
        → ((j : ℕ) → Call n calls i j → p j ≡ true → passed j ≡ false → Reaches n calls j) → Reaches n calls i
    unfolding To
    step passed i h t to rest = go (some i h t)
      where
        go : (j : ℕ) × Call n calls i j × (p j ≡ true) → Reaches n calls i
        go a =
            let j : ℕ = a.0 in
            ⊎_elim
            (λ (e : passed a.0 ≡ true).
            ⊎_elim (λ (q : a.0 ≡ i). on (rw q at (one a.1))) (λ (g : Chain n calls a.0 i). leads (one a.1) (then g a.1)) (to a.0 e))
            (λ (e : passed a.0 ≡ false). reaches_on a.1 (rest a.0 a.1 a.2 e))
            (either (passed a.0))

    walk : (f : ℕ) (passed : ℕ → Bool) (i : ℕ) → ahead passed ≤ f → i < n → p i ≡ true → To passed i → Reaches n calls i
    walk zero passed i l h t to = step passed i h t to (λ j c q e. absurd (omega (arith, pass-less passed j c.to e)))
    walk (suc f) passed i l h t to =
        step passed i h t to (λ j c q e. walk f (pass passed j) j (omega (arith, pass-less passed j c.to e)) c.to q (pass-to passed i j c to))

    pub reaches : (i : ℕ) → i < n → p i ≡ true → Reaches n calls i
    unfolding To
    reaches i h t = walk (ahead (λ k. eqb k i)) (λ k. eqb k i) i (le_refl _) h t (λ k e. inl (eqb-true k i e))
