-- A round, mark by mark. What is still to be written from mark i on completes what the whole round writes; of the marks below i, those go on waiting
-- that call a waiting function.
use mathlib.Core.Path.{◌≡◌, refl, sym, ap, ◌∙◌}
use mathlib.Core.Bool.{Bool, true, false, cond, not, ◌&&◌}
use mathlib.Core.Logic.{◌⊎◌, inl, inr}
use mathlib.Core.List.{List, [], ◌∷◌}
use Prim.Native.Nat.{ℕ, suc, ◌+◌, ◌-◌, ◌≤◌, ◌<◌}
use native.Mathlib.Nat.{sub-zero}
use native.Mathlib.Numerals.{add-one}
use native.Mathlib.Omega.{arith}
use lib.Dec.{eqb, ltb}
use lib.ListN.{length, set}
use lib.Seq.{sets}
use borrow.Author.Tests.{eqb-true, ltb-false, le-ltb}
use Rattle.theory_lists.specs.Booleans.{either}
use Rattle.model.specs.Calls.{numbers, any, keep, free, held}
use Rattle.order_ranks.specs.declared.FunctionSet.{FunctionSet}
use Rattle.order_ranks.specs.Marks.{holds, members, marked, PutMark, Below}
use Rattle.order_ranks.specs.Placing.{Placed}
use Rattle.theory_order.specs.Lists.{keep_yes, keep_no, keep_ext, keep-keep, numbers_in, length-parts}
use Rattle.order_ranks.proofs.Marks.{members-below}
use Rattle.order_ranks.proofs.Begun.{one_further}

module _ (cs : List FunctionSet) (n : ℕ) (ws : List ℕ) where
  -- function i calls one that waits
  abbrev pub stays : ℕ → Bool
  stays i = any (members ws) (marked cs i)

  -- function i waits, and calls none that does
  abbrev pub goes : ℕ → Bool
  goes i = holds ws i && not (stays i)

  -- those of the marks from i on that are free
  unfoldable pub rest : ℕ → List ℕ
  rest i = keep (numbers (n - i) i) goes

  pub record Turn (out₀ : List ℕ) (at : ℕ) (kept out : List ℕ) (k i : ℕ) : Type 0 where
    pub within : i ≤ n
    pub long : length kept ≡ 4
    pub below : (j : ℕ) → j < 256 → holds kept j ≡ cond (ltb j i) (holds ws j && stays j) (holds ws j)
    pub whole : sets out k (rest i) ≡ sets out₀ at (free (marked cs) (members ws))
    pub room : k + length (rest i) ≡ at + length (free (marked cs) (members ws))

  -- ---- what is left from i on

  from_i : (i : ℕ) → i < n → numbers (n - i) i ≡ i ∷ numbers (n - (i + 1)) (i + 1)
  unfolding numbers
  from_i i h =
      let e : n - i ≡ suc (n - (i + 1)) = omega arith in
      rw (e, add-one i)

  rest_go : (i : ℕ) → i < n → goes i ≡ true → rest i ≡ i ∷ rest (i + 1)
  unfolding rest
  rest_go i h t = ap (λ (is : List ℕ). keep is goes) (from_i i h) ∙ keep_yes goes i (numbers (n - (i + 1)) (i + 1)) t

  rest_stay : (i : ℕ) → i < n → goes i ≡ false → rest i ≡ rest (i + 1)
  unfolding rest
  rest_stay i h f = ap (λ (is : List ℕ). keep is goes) (from_i i h) ∙ keep_no goes i (numbers (n - (i + 1)) (i + 1)) f

  rest-none : (i : ℕ) → n ≤ i → rest i ≡ []
  unfolding rest numbers keep
  rest-none i h = let e : n - i ≡ 0 = omega arith in rw e

  -- ---- the marks below i + 1, x of them, and the others, y of them

  pub more_same : (x y : ℕ → Bool) (i j : ℕ) → x i ≡ y i → cond (ltb j i) (x j) (y j) ≡ cond (ltb j (i + 1)) (x j) (y j)
  more_same x y i j e = go (either (eqb j i)) ∙ ap (λ (b : Bool). cond b (x j) (y j)) (one_further j i)
    where
      alike : (b : Bool) → y j ≡ x j → cond b (x j) (y j) ≡ x j
      alike true q = refl
      alike false q = q

      go : (eqb j i ≡ true) ⊎ (eqb j i ≡ false) → cond (ltb j i) (x j) (y j) ≡ cond (cond (eqb j i) true (ltb j i)) (x j) (y j)
      go (inl t) =
          let q = eqb-true j i t in
          rw t (alike (ltb j i) (ap y q ∙ sym e ∙ ap x (sym q)))
      go (inr f) = rw f

  pub more_off : (x y : ℕ → Bool) (i j : ℕ) → x i ≡ false → cond (eqb j i) false (cond (ltb j i) (x j) (y j)) ≡ cond (ltb j (i + 1)) (x j) (y j)
  more_off x y i j e = go (either (eqb j i)) ∙ ap (λ (b : Bool). cond b (x j) (y j)) (one_further j i)
    where
      go : (eqb j i ≡ true) ⊎ (eqb j i ≡ false) → cond (eqb j i) false (cond (ltb j i) (x j) (y j)) ≡ cond (cond (eqb j i) true (ltb j i)) (x j) (y j)
      go (inl t) = rw t (sym (ap x (eqb-true j i t) ∙ e))
      go (inr f) = rw f

  module _ (small : n ≤ 256) (low : Below n ws) (out₀ : List ℕ) (at : ℕ) where
    free_is : free (marked cs) (members ws) ≡ rest 0
    unfolding free rest
    free_is =
        ap (λ (is : List ℕ). keep is (λ i. not (stays i))) (members-below ws n small low) ∙ keep-keep (holds ws) (λ i. not (stays i)) (numbers n 0)
        ∙ ap (λ (m : ℕ). keep (numbers m 0) goes) (sym (sub-zero n))

    pub begin : length ws ≡ 4 → Turn out₀ at ws out₀ at 0
    begin long =
        record {
          within = omega arith;
          long = long;
          below = λ j h. sym (ap (λ (b : Bool). cond b (holds ws j && stays j) (holds ws j)) (le-ltb j 0 (omega arith)));
          whole = rw free_is;
          room = rw free_is;
        }

    module _ (kept out : List ℕ) (k i : ℕ) (t : Turn out₀ at kept out k i) where
      module _ (h : i < n) where
        -- mark i is still there
        pub there : holds ws i ≡ true → holds kept i ≡ true
        there w = t.below i (omega arith) ∙ ap (λ (b : Bool). cond b (holds ws i && stays i) (holds ws i)) (le-ltb i i (omega arith)) ∙ w

        -- the three ways through the loop
        pub keeps : holds ws i ≡ true → stays i ≡ true → Turn out₀ at kept out k (i + 1)
        keeps w s =
            let off : goes i ≡ false = rw (w, s) in
            record {
              within = omega arith;
              long = t.long;
              below = λ j l. t.below j l ∙ more_same (λ x. holds ws x && stays x) (holds ws) i j (rw (w, s));
              whole = ap (λ (is : List ℕ). sets out k is) (sym (rest_stay i h off)) ∙ t.whole;
              room = ap (λ (is : List ℕ). k + length is) (sym (rest_stay i h off)) ∙ t.room;
            }

        pub places : (kept' : List ℕ) → holds ws i ≡ true → stays i ≡ false → PutMark false kept i kept' → Turn out₀ at kept' (set out k i) (k + 1) (i + 1)
        places kept' w s m =
            let on : goes i ≡ true = rw (w, s) in
            let r : k + length (i ∷ rest (i + 1)) ≡ at + length (free (marked cs) (members ws)) = ap (λ (is : List ℕ). k + length is) (sym (rest_go i h on)) ∙ t.room in
            record {
              within = omega arith;
              long = m.long ∙ t.long;
              below = λ j l. m.is j l ∙ ap (λ (b : Bool). cond (eqb j i) false b) (t.below j l) ∙ more_off (λ x. holds ws x && stays x) (holds ws) i j (rw (w, s));
              whole = ap (λ (m : ℕ). sets (set out k i) m (rest (i + 1))) (add-one k) ∙ ap (λ (is : List ℕ). sets out k is) (sym (rest_go i h on)) ∙ t.whole;
              room = omega arith;
            }

        pub passes : holds ws i ≡ false → Turn out₀ at kept out k (i + 1)
        passes w =
            let off : goes i ≡ false = rw w in
            record {
              within = omega arith;
              long = t.long;
              below = λ j l. t.below j l ∙ more_same (λ x. holds ws x && stays x) (holds ws) i j (rw w);
              whole = ap (λ (is : List ℕ). sets out k is) (sym (rest_stay i h off)) ∙ t.whole;
              room = ap (λ (is : List ℕ). k + length is) (sym (rest_stay i h off)) ∙ t.room;
            }

        -- one more is to be written, so there is room for it
        pub fits : at + length (members ws) ≤ 256 → holds ws i ≡ true → stays i ≡ false → k < 256
        unfolding free
        fits room w s =
            let on : goes i ≡ true = rw (w, s) in
            let r : k + length (i ∷ rest (i + 1)) ≡ at + length (free (marked cs) (members ws)) = ap (λ (is : List ℕ). k + length is) (sym (rest_go i h on)) ∙ t.room in
            let parts = length-parts stays (members ws) in
            omega arith

      module _ (h : n ≤ i) where
        -- below n all marks were looked at, and from n on none waits
        same : (j : ℕ) → j < 256 → holds kept j ≡ (holds ws j && stays j)
        unfolding Below
        same j l = t.below j l ∙ go (either (ltb j i))
          where
            go : (ltb j i ≡ true) ⊎ (ltb j i ≡ false) → cond (ltb j i) (holds ws j && stays j) (holds ws j) ≡ (holds ws j && stays j)
            go (inl e) = rw e
            go (inr e) =
                let g = ltb-false j i e in
                let off : holds ws j ≡ false = low j (omega arith) l in
                rw (e, off)

        held_is : members kept ≡ held (marked cs) (members ws)
        unfolding members held
        held_is =
            keep_ext (holds kept) (λ j. holds ws j && stays j) (numbers 256 0) (λ j g. let r = numbers_in 256 0 g in same j (omega arith))
            ∙ sym (keep-keep (holds ws) stays (numbers 256 0))

        pub finish : Placed (marked cs) n (members ws) out₀ at kept out k
        unfolding Below
        finish =
            record {
              long = t.long;
              low = λ j g l. same j l ∙ rw (low j g l);
              kept = held_is;
              written = ap (λ (is : List ℕ). sets out k is) (sym (rest-none i h)) ∙ t.whole;
              ends =
                  let r : k + 0 ≡ at + length (free (marked cs) (members ws)) = ap (λ (is : List ℕ). k + length is) (sym (rest-none i h)) ∙ t.room in
                  omega arith;
            }
