-- How often a number is in what the rounds place and leave: as often as among those that waited. Of the numbers below n each is there once.
use Rattle.std.specs.Prelude.{◌≡◌, true, false, cond, ◌&&◌}
use Rattle.std.proofs.Math.Path.{refl, ap}
use Rattle.std.proofs.Common.{sym, ◌∙◌, inl, inr, ⊎_elim, zero-add, eq-or-lt_of_le, arith, length-append, eq-eqb, ne_eqb}
use Rattle.std.proofs.Math.Bool.{Bool, not}
use mathlib.Core.List.{List, [], ◌∷◌, ◌++◌}
use Prim.Native.Nat.{ℕ, zero, suc, ◌+◌, ◌≤◌, ◌<◌}
use Rattle.std.proofs.Math.Dec.{eqb}
use Rattle.std.proofs.Math.ListN.{length}
use Rattle.model.specs.Calls.{numbers, any, keep, times, free, held, rounds}
use Rattle.theory_order.specs.Lists.{keep_append, keep-keep, keep_yes, keep_no, keep-none, numbers_in}
use Rattle.theory_order.specs.Rounds.{no_round, last-round, some_round}

times-append : (xs ys : List ℕ) (x : ℕ) → times (xs ++ ys) x ≡ times xs x + times ys x
times-append xs ys x = ap length (keep_append (eqb x) xs ys) ∙ length-append (keep xs (eqb x)) (keep ys (eqb x))

-- a part and its complement, of those of which q holds
both-parts : (p q : ℕ → Bool) (is : List ℕ) → length (keep is (λ i. not (p i) && q i)) + length (keep is (λ i. p i && q i)) ≡ length (keep is q)
unfolding keep
both-parts p q [] = refl
both-parts p q (i ∷ is) = go (p i) (q i) (both-parts p q is)
  where
    go : (a b : Bool) → length (keep is (λ i. not (p i) && q i)) + length (keep is (λ i. p i && q i)) ≡ length (keep is q)
        → length (cond (not a && b) (i ∷ keep is (λ i. not (p i) && q i)) (keep is (λ i. not (p i) && q i)))
        + length (cond (a && b) (i ∷ keep is (λ i. p i && q i)) (keep is (λ i. p i && q i)))
        ≡ length (cond b (i ∷ keep is q) (keep is q))
    go true true h = omega arith
    go true false h = h
    go false true h = omega arith
    go false false h = h

module _ (calls : ℕ → ℕ → Bool) (x : ℕ) where
  times-round : (ws : List ℕ) → times (free calls ws) x + times (held calls ws) x ≡ times ws x
  unfolding free held
  times-round ws =
      let p : ℕ → Bool = λ i. any ws (calls i) in
      let a : times (free calls ws) x ≡ length (keep ws (λ i. not (p i) && eqb x i)) = ap length (keep-keep (λ i. not (p i)) (eqb x) ws) in
      let b : times (held calls ws) x ≡ length (keep ws (λ i. p i && eqb x i)) = ap length (keep-keep p (eqb x) ws) in
      rw (a, b) (both-parts p (eqb x) ws)

  pub times-rounds : (f : ℕ) (ws : List ℕ) → times (rounds calls f ws).placed x + times (rounds calls f ws).left x ≡ times ws x
  unfolding keep
  times-rounds zero ws = rw (no_round calls ws) (zero-add _)
  times-rounds (suc f) ws = go (free calls ws) refl (times-rounds f (held calls ws))
    where
      go : (l : List ℕ) → free calls ws ≡ l
          → times (rounds calls f (held calls ws)).placed x + times (rounds calls f (held calls ws)).left x ≡ times (held calls ws) x
          → times (rounds calls (suc f) ws).placed x + times (rounds calls (suc f) ws).left x ≡ times ws x
      go [] e ih = rw (last-round calls (suc f) ws e) (zero-add _)
      go (i ∷ is) e ih =
          let some : length (free calls ws) ≡ suc (length is) = ap length e in
          let a = times-append (free calls ws) (rounds calls f (held calls ws)).placed x in
          let b = times-round ws in
          rw (some_round calls f ws (omega arith)) (omega arith)

pub times_none : (k a x : ℕ) → x < a → times (numbers k a) x ≡ 0
unfolding keep
times_none k a x h =
    ap length (keep-none (eqb x) (numbers k a) (λ i g.
    let b = numbers_in k a g in
    ne_eqb x i (λ e. omega arith)))

pub times_past : (k a x : ℕ) → a + k ≤ x → times (numbers k a) x ≡ 0
unfolding keep
times_past k a x h =
    ap length (keep-none (eqb x) (numbers k a) (λ i g.
    let b = numbers_in k a g in
    ne_eqb x i (λ e. omega arith)))

pub times-once : (k a x : ℕ) → a ≤ x → x < a + k → times (numbers k a) x ≡ 1
unfolding numbers
times-once zero a x l h = absurd (omega arith)
times-once (suc k) a x l h =
    ⊎_elim
    (λ (e : x ≡ a). ap length (keep_yes (eqb x) a (numbers k (suc a)) (eq-eqb x a e)) ∙ ap suc (times_none k (suc a) x (omega arith)))
    (λ (ne : a < x). ap length (keep_no (eqb x) a (numbers k (suc a)) (ne_eqb x a (λ e. omega arith))) ∙ times-once k (suc a) x ne (omega arith))
    (⊎_elim (λ e. inl (sym e)) (λ e. inr e) (eq-or-lt_of_le l))
