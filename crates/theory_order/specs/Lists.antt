-- Laws of `keep`, `any` and `numbers`: what is in a part of a list, how long it is, and when two parts are one.
use Rattle.std.specs.Prelude.{◌≡◌, Bool, ◌&&◌, ◌⊎◌}
use Rattle.std.proofs.Math.Path.{refl, ap}
use Rattle.std.proofs.Common.{sym, ◌∙◌, inl, inr, zero-add, suc-add, add-suc, add-zero, eq-or-lt_of_le}
use Rattle.std.proofs.Math.Bool.{true, false, cond, not}
use Rattle.std.proofs.Math.Logic.{⊎_elim}
use mathlib.Core.List.{List, [], ◌∷◌, ◌++◌}
use Prim.Native.Nat.{ℕ, zero, suc, ◌+◌, ◌≤◌, ◌<◌}
use native.Mathlib.Omega.{arith}
use Rattle.std.proofs.Math.ListN.{length}
use Rattle.theory_lists.specs.Booleans.{never, either}
use Rattle.model.specs.Calls.{In, here, later, numbers, any, keep}

-- ---- what is in a list

pub in_nil : {i : ℕ} → In i [] → ⊥
in_nil h = elim h [ ]

pub in_cons : {i j : ℕ} {is : List ℕ} → In i (j ∷ is) → (i ≡ j) ⊎ In i is
in_cons here = inl refl
in_cons (later h) = inr h

pub in_left : {i : ℕ} {is : List ℕ} (js : List ℕ) → In i is → In i (is ++ js)
in_left js here = here
in_left js (later h) = later (in_left js h)

pub in_right : {i : ℕ} (is : List ℕ) {js : List ℕ} → In i js → In i (is ++ js)
in_right [] h = h
in_right (j ∷ is) h = later (in_right is h)

pub in_append : {i : ℕ} (is : List ℕ) {js : List ℕ} → In i (is ++ js) → In i is ⊎ In i js
in_append [] h = inr h
in_append {i} (j ∷ is) {js} h = ⊎_elim (λ (e : i ≡ j). rw e (inl here)) (λ (g : In i (is ++ js)). ⊎_elim (λ k. inl (later k)) (λ k. inr k) (in_append is g)) (in_cons h)

-- ---- the numbers

pub numbers_in : (k a : ℕ) {i : ℕ} → In i (numbers k a) → (a ≤ i) × (i < a + k)
unfolding numbers
numbers_in zero a h = absurd (in_nil h)
numbers_in (suc k) a {i} h =
    ⊎_elim
    (λ (e : i ≡ a). omega arith)
    (λ (g : In i (numbers k (suc a))).
    let r = numbers_in k (suc a) g in
    omega arith)
    (in_cons h)

pub in_numbers : (k a i : ℕ) → a ≤ i → i < a + k → In i (numbers k a)
unfolding numbers
in_numbers zero a i l h = absurd (omega arith)
in_numbers (suc k) a i l h = ⊎_elim (λ (e : i ≡ a). rw e here) (λ (g : a < i). later (in_numbers k (suc a) i g (omega arith))) (split l)
  where
    split : a ≤ i → (i ≡ a) ⊎ (a < i)
    split g = ⊎_elim (λ e. inl (sym e)) (λ e. inr e) (eq-or-lt_of_le g)

pub length-numbers : (k a : ℕ) → length (numbers k a) ≡ k
unfolding numbers
length-numbers zero a = refl
length-numbers (suc k) a = ap suc (length-numbers k (suc a))

pub numbers-append : (k m a : ℕ) → numbers (k + m) a ≡ numbers k a ++ numbers m (a + k)
unfolding numbers
numbers-append zero m a = rw (zero-add m, add-zero a)
numbers-append (suc k) m a = rw (suc-add, add-suc) (ap (λ (l : List ℕ). a ∷ l) (numbers-append k m (suc a) ∙ rw suc-add))

-- ---- a part of a list

module _ (p : ℕ → Bool) where
  pub keep_yes : (i : ℕ) (is : List ℕ) → p i ≡ true → keep (i ∷ is) p ≡ i ∷ keep is p
  unfolding keep
  keep_yes i is e = rw e

  pub keep_no : (i : ℕ) (is : List ℕ) → p i ≡ false → keep (i ∷ is) p ≡ keep is p
  unfolding keep
  keep_no i is e = rw e

  pub keep_in : (is : List ℕ) {i : ℕ} → In i (keep is p) → In i is × (p i ≡ true)
  unfolding keep
  keep_in [] h = absurd (in_nil h)
  keep_in (j ∷ is) {i} h = go (either (p j)) (λ k. keep_in is k)
    where
      go : (p j ≡ true) ⊎ (p j ≡ false) → (In i (keep is p) → In i is × (p i ≡ true)) → In i (j ∷ is) × (p i ≡ true)
      go (inl e) rest =
          ⊎_elim
          (λ (q : i ≡ j). (rw q here, rw q e))
          (λ (k : In i (keep is p)). (later (rest k).0, (rest k).1))
          (in_cons (rw (keep_yes j is e) at h))
      go (inr e) rest =
          let k = rest (rw (keep_no j is e) at h) in
          (later k.0, k.1)

  pub in_keep : {i : ℕ} {is : List ℕ} → In i is → p i ≡ true → In i (keep is p)
  in_keep {i} (here {xs}) e = rw (keep_yes i xs e) here
  in_keep (later {y} {xs} h) e =
      ⊎_elim (λ (t : p y ≡ true). rw (keep_yes y xs t) (later (in_keep h e))) (λ (f : p y ≡ false). rw (keep_no y xs f) (in_keep h e)) (either (p y))

  pub keep_append : (is js : List ℕ) → keep (is ++ js) p ≡ keep is p ++ keep js p
  unfolding keep
  keep_append [] js = refl
  keep_append (i ∷ is) js = go (p i) (keep_append is js)
    where
      go : (b : Bool) → keep (is ++ js) p ≡ keep is p ++ keep js p
          → cond b (i ∷ keep (is ++ js) p) (keep (is ++ js) p) ≡ cond b (i ∷ keep is p) (keep is p) ++ keep js p
      go true h = ap (λ (l : List ℕ). i ∷ l) h
      go false h = h

  pub keep-none : (is : List ℕ) → ((i : ℕ) → In i is → p i ≡ false) → keep is p ≡ []
  unfolding keep
  keep-none [] h = refl
  keep-none (i ∷ is) h = rw (h i here) (keep-none is (λ j k. h j (later k)))

  pub keep_all_lem : (is : List ℕ) → ((i : ℕ) → In i is → p i ≡ true) → keep is p ≡ is
  unfolding keep
  keep_all_lem [] h = refl
  keep_all_lem (i ∷ is) h = rw (h i here) (ap (λ (l : List ℕ). i ∷ l) (keep_all_lem is (λ j k. h j (later k))))

  -- a part and its complement
  pub length-parts : (is : List ℕ) → length (keep is p) + length (keep is (λ i. not (p i))) ≡ length is
  unfolding keep
  length-parts [] = refl
  length-parts (i ∷ is) = go (p i) (length-parts is)
    where
      go : (b : Bool) → length (keep is p) + length (keep is (λ i. not (p i))) ≡ length is
          → length (cond b (i ∷ keep is p) (keep is p)) + length (cond (not b) (i ∷ keep is (λ i. not (p i))) (keep is (λ i. not (p i)))) ≡ suc (length is)
      go true h = omega arith
      go false h = omega arith

  pub any_in : (is : List ℕ) → any is p ≡ true → (i : ℕ) × In i is × (p i ≡ true)
  unfolding any
  any_in [] h = absurd (never false h refl)
  any_in (i ∷ is) h = go (either (p i)) (λ k. any_in is k)
    where
      go : (p i ≡ true) ⊎ (p i ≡ false) → (any is p ≡ true → (j : ℕ) × In j is × (p j ≡ true)) → (j : ℕ) × In j (i ∷ is) × (p j ≡ true)
      go (inl e) rest = (i, here, e)
      go (inr e) rest =
          let r = rest (rw e at h) in
          (r.0, later r.1, r.2)

  pub in_any : {i : ℕ} {is : List ℕ} → In i is → p i ≡ true → any is p ≡ true
  unfolding any
  in_any here e = rw e
  in_any (later {y} h) e = ⊎_elim (λ (t : p y ≡ true). rw t) (λ (f : p y ≡ false). rw f (in_any h e)) (either (p y))

  pub any_off : (is : List ℕ) → any is p ≡ false → (i : ℕ) → In i is → p i ≡ false
  any_off is f i h = ⊎_elim (λ (t : p i ≡ true). absurd (never _ (in_any h t) f)) (λ e. e) (either (p i))

  pub not_any : (is : List ℕ) → ((i : ℕ) → In i is → p i ≡ false) → any is p ≡ false
  unfolding any
  not_any [] h = refl
  not_any (i ∷ is) h = rw (h i here) (not_any is (λ j k. h j (later k)))

  -- a part moved by one is as long as the part of the numbers that follow
  pub length_shift : (k a : ℕ) → length (keep (numbers k (suc a)) p) ≡ length (keep (numbers k a) (λ i. p (suc i)))
  unfolding numbers keep
  length_shift zero a = refl
  length_shift (suc k) a = go (p (suc a)) (length_shift k (suc a))
    where
      go : (b : Bool) → length (keep (numbers k (suc (suc a))) p) ≡ length (keep (numbers k (suc a)) (λ i. p (suc i)))
          → length (cond b (suc a ∷ keep (numbers k (suc (suc a))) p) (keep (numbers k (suc (suc a))) p))
          ≡ length (cond b (a ∷ keep (numbers k (suc a)) (λ i. p (suc i))) (keep (numbers k (suc a)) (λ i. p (suc i))))
      go true h = ap suc h
      go false h = h

module _ (p q : ℕ → Bool) where
  pub keep_ext : (is : List ℕ) → ((i : ℕ) → In i is → p i ≡ q i) → keep is p ≡ keep is q
  unfolding keep
  keep_ext [] h = refl
  keep_ext (i ∷ is) h = rw (h i here, keep_ext is (λ j k. h j (later k)))

  pub keep-keep : (is : List ℕ) → keep (keep is p) q ≡ keep is (λ i. p i && q i)
  unfolding keep
  keep-keep [] = refl
  keep-keep (i ∷ is) = go (p i) (keep-keep is)
    where
      go : (b : Bool) → keep (keep is p) q ≡ keep is (λ i. p i && q i)
          → keep (cond b (i ∷ keep is p) (keep is p)) q ≡ cond (b && q i) (i ∷ keep is (λ i. p i && q i)) (keep is (λ i. p i && q i))
      go true h = rw h
      go false h = h

  -- p is q but for one number that it leaves out: its part is shorter
  pub length_le : (is : List ℕ) → ((i : ℕ) → In i is → p i ≡ true → q i ≡ true) → length (keep is p) ≤ length (keep is q)
  unfolding keep
  length_le [] h = omega arith
  length_le (i ∷ is) h = go (either (p i)) (length_le is (λ j k. h j (later k)))
    where
      tail : (b : Bool) → length (keep is p) ≤ length (keep is q) → length (keep is p) ≤ length (cond b (i ∷ keep is q) (keep is q))
      tail true l = omega arith
      tail false l = l

      go : (p i ≡ true) ⊎ (p i ≡ false) → length (keep is p) ≤ length (keep is q) → length (keep (i ∷ is) p) ≤ length (keep (i ∷ is) q)
      go (inl t) l = rw (t, h i here t) (omega arith)
      go (inr f) l = rw f (tail (q i) l)

  pub length_lt : {j : ℕ} {is : List ℕ} → In j is → ((i : ℕ) → In i is → p i ≡ true → q i ≡ true) → p j ≡ false → q j ≡ true → length (keep is p) < length (keep is q)
  unfolding keep
  length_lt (here {xs}) h f t = let l = length_le xs (λ j k. h j (later k)) in rw (f, t) (omega arith)
  length_lt (later {y} {xs} g) h f t = go (either (p y)) (length_lt g (λ j k. h j (later k)) f t)
    where
      tail : (b : Bool) → length (keep xs p) < length (keep xs q) → length (keep xs p) < length (cond b (y ∷ keep xs q) (keep xs q))
      tail true l = omega arith
      tail false l = l

      go : (p y ≡ true) ⊎ (p y ≡ false) → length (keep xs p) < length (keep xs q) → length (keep (y ∷ xs) p) < length (keep (y ∷ xs) q)
      go (inl u) l = rw (u, h y here u) (omega arith)
      go (inr u) l = rw u (tail (q y) l)
