-- OUTPUT ORDER AGAIN: where functions are in output order already, their output order is the order that they are in. So of a linked module, whose functions call as the source's do at their places, a second link would import them in the order of their numbers.
use Rattle.std.specs.Prelude.{◌≡◌, Bool, false, get_or}
use Rattle.std.proofs.Math.Path.{refl, sym, ap, subst}
use Rattle.std.proofs.Common.{ap₂, ◌∙◌, arith, length-append}
use Rattle.std.proofs.Math.Bool.{true, not}
use Rattle.std.proofs.Math.Logic.{⊎_elim}
use mathlib.Core.List.{List, [], ◌∷◌, ◌++◌, append-nil}
use Prim.Native.Nat.{ℕ, zero, suc, ◌+◌, ◌<◌}
use Rattle.std.proofs.Math.ListN.{length}
use Rattle.std.proofs.lemmas.Bool.{not-true}
use Rattle.theory_lists.specs.Booleans.{either}
use Rattle.model.specs.Calls.{In, here, later, numbers, any, keep, free, held, Rounds, rounds, answer, order, ordered}
use Rattle.theory_order.specs.Lists.{in_nil, in_cons, in_left, in_right, in_append, numbers_in, length-numbers, numbers-append, keep_in, in_keep, keep_append, keep-none, keep_all_lem, any_in, in_any, any_off, not_any}
use Rattle.theory_order.specs.Rounds.{no_round, last-round, some_round}
use Rattle.theory_order.specs.Theorems.{ordered_is}
use Rattle.theory_link.specs.Exactly.{rounds-length}

-- ---- the rounds place exactly those that waited
module _ (c : ℕ → ℕ → Bool) where
  pub placed_from : (f : ℕ) (w : List ℕ) {i : ℕ} → In i (rounds c f w).placed → In i w
  placed_from zero w {i} h = absurd (in_nil (subst (λ (r : Rounds). In i r.placed) (no_round c w) h))
  placed_from (suc f) w {i} h = go (free c w) refl (λ k. placed_from f (held c w) k)
    where
      go : (l : List ℕ) → free c w ≡ l → (In i (rounds c f (held c w)).placed → In i (held c w)) → In i w
      go [] e ih = absurd (in_nil (subst (λ (r : Rounds). In i r.placed) (last-round c (suc f) w e) h))
      go (x ∷ l) e ih =
          let k : length (free c w) ≡ suc (length l) = ap length e in
          let q : In i (free c w ++ (rounds c f (held c w)).placed) = subst (λ (r : Rounds). In i r.placed) (some_round c f w (omega arith)) h in
          ⊎_elim (λ y. of_free y) (λ y. of_held (ih y)) (in_append (free c w) q)
        where
          of_free : In i (free c w) → In i w
          of_free y = unfold free in (keep_in (λ i. not (any w (c i))) w y).0

          of_held : In i (held c w) → In i w
          of_held y = unfold held in (keep_in (λ i. any w (c i)) w y).0

  pub placed_of : (f : ℕ) (w : List ℕ) → (rounds c f w).left ≡ [] → {i : ℕ} → In i w → In i (rounds c f w).placed
  placed_of zero w e {i} h = absurd (in_nil (subst (In i) (sym (ap (λ (r : Rounds). r.left) (no_round c w)) ∙ e) h))
  placed_of (suc f) w e {i} h = go (free c w) refl (λ a b. placed_of f (held c w) a b)
    where
      go : (l : List ℕ) → free c w ≡ l → ((rounds c f (held c w)).left ≡ [] → In i (held c w) → In i (rounds c f (held c w)).placed) → In i (rounds c (suc f) w).placed
      go [] q ih = absurd (in_nil (subst (In i) (sym (ap (λ (r : Rounds). r.left) (last-round c (suc f) w q)) ∙ e) h))
      go (x ∷ l) q ih =
          let k : length (free c w) ≡ suc (length l) = ap length q in
          let s = some_round c f w (omega arith) in
          let none : (rounds c f (held c w)).left ≡ [] = sym (ap (λ (r : Rounds). r.left) s) ∙ e in
          subst (λ (r : Rounds). In i r.placed) (sym s) (⊎_elim (λ (t : any w (c i) ≡ true). in_right (free c w) (ih none (is_held t))) (λ (t : any w (c i) ≡ false). in_left (rounds c f (held c w)).placed (is_free t)) (either (any w (c i))))
        where
          is_held : any w (c i) ≡ true → In i (held c w)
          is_held t = unfold held in in_keep (λ i. any w (c i)) h t

          is_free : any w (c i) ≡ false → In i (free c w)
          is_free t = unfold free in in_keep (λ i. not (any w (c i))) h (ap not t)

-- ---- a list, by the places of its numbers from a on
module _ (g : ℕ → ℕ) where
  abbrev pub Fits : List ℕ → ℕ → Type 0
  Fits [] a = Unit {0}
  Fits (i ∷ p) a = (g a ≡ i) × Fits p (suc a)

  fits_by : (p : List ℕ) (a : ℕ) → ((j : ℕ) → j < length p → g (a + j) ≡ get_or p j 0) → Fits p a
  fits_by [] a h = tt
  fits_by (i ∷ p) a h = (ap g (omega arith) ∙ h 0 (omega arith), fits_by p (suc a) λ j l. ap g (omega arith) ∙ h (suc j) (omega arith))

  fits_in : (p : List ℕ) (a : ℕ) → Fits p a → {x : ℕ} → In x (numbers (length p) a) → In (g x) p
  unfolding numbers
  fits_in [] a h k = absurd (in_nil k)
  fits_in (i ∷ p) a h {x} k = let r : In x (numbers (length p) (suc a)) → In (g x) p = λ z. fits_in p (suc a) h.1 z in ⊎_elim (λ (q : x ≡ a). rw (q, h.0) here) (λ z. later (r z)) (in_cons k)

  fits_back : (p : List ℕ) (a : ℕ) → Fits p a → {i : ℕ} → In i p → (x : ℕ) × In x (numbers (length p) a) × (g x ≡ i)
  unfolding numbers
  fits_back [] a h k = absurd (in_nil k)
  fits_back (y ∷ p) a h {i} k = let r : In i p → (x : ℕ) × In x (numbers (length p) (suc a)) × (g x ≡ i) = λ z. fits_back p (suc a) h.1 z in ⊎_elim (λ (q : i ≡ y). (a, here, h.0 ∙ sym q)) (λ z. let s = r z in (s.0, later s.1, s.2)) (in_cons k)

  fits_left : (p q : List ℕ) (a : ℕ) → Fits (p ++ q) a → Fits p a
  fits_left [] q a h = tt
  fits_left (i ∷ p) q a h = (h.0, fits_left p q (suc a) h.1)

  fits_right : (p q : List ℕ) (a : ℕ) → Fits (p ++ q) a → Fits q (a + length p)
  fits_right [] q a h = subst (Fits q) (omega arith) h
  fits_right (i ∷ p) q a h = subst (Fits q) (omega arith) (fits_right p q (suc a) h.1)

  -- ---- calls c' between places are calls c between what is there
  module _ (c c' : ℕ → ℕ → Bool) where
    Alike : List ℕ → Type 0
    Alike ws = (x y : ℕ) → In x ws → In y ws → c' x y ≡ c (g x) (g y)

    module _ (f : ℕ) (w : List ℕ) (e : (rounds c f w).left ≡ []) (a : ℕ) (fit : Fits (rounds c f w).placed a) (alike : Alike (numbers (length (rounds c f w).placed) a)) where
      abbrev places : List ℕ
      places = numbers (length (rounds c f w).placed) a

      -- one calls another that waits exactly if what is there does
      waits : (x : ℕ) → In x places → any places (c' x) ≡ any w (c (g x))
      unfolding Alike
      waits x h = ⊎_elim yes_so no_so (either (any w (c (g x))))
        where
          yes_so : any w (c (g x)) ≡ true → any places (c' x) ≡ any w (c (g x))
          yes_so t =
              let i = any_in (c (g x)) w t in
              let y = fits_back (rounds c f w).placed a fit (placed_of c f w e i.1) in
              in_any (c' x) y.1 (alike x y.0 h y.1 ∙ ap (c (g x)) y.2 ∙ i.2) ∙ sym t

          no_so : any w (c (g x)) ≡ false → any places (c' x) ≡ any w (c (g x))
          no_so t = not_any (c' x) places (λ y k. alike x y h k ∙ any_off (c (g x)) w t (g y) (placed_from c f w (fits_in (rounds c f w).placed a fit k))) ∙ sym t

    record Same (f : ℕ) (ws : List ℕ) : Type 0 where
      placed_is : (rounds c' f ws).placed ≡ ws
      left_is : (rounds c' f ws).left ≡ []

    empty : (f : ℕ) → Same f []
    unfolding free keep
    empty f = let r = last-round c' f [] refl in record { placed_is = ap (λ (x : Rounds). x.placed) r; left_is = ap (λ (x : Rounds). x.left) r }

    -- one round: what it places comes first
    one-round : (f : ℕ) (w : List ℕ) (l : List ℕ) (x : ℕ) → free c w ≡ x ∷ l → (rounds c (suc f) w).left ≡ [] → (a : ℕ) → Fits (rounds c (suc f) w).placed a → Alike (numbers (length (rounds c (suc f) w).placed) a)
        → (Fits (rounds c f (held c w)).placed (a + length (free c w)) → Alike (numbers (length (rounds c f (held c w)).placed) (a + length (free c w))) → Same f (numbers (length (rounds c f (held c w)).placed) (a + length (free c w))))
        → Same (suc f) (numbers (length (rounds c (suc f) w).placed) a)
    unfolding Alike free held
    one-round f w l x q e a fit alike ih = record { placed_is = ap (λ (r : Rounds). r.placed) rounds_are ∙ sym parts; left_is = ap (λ (r : Rounds). r.left) rounds_are }
      where
        p : List ℕ
        p = (rounds c f (held c w)).placed

        some : 0 < length (free c w)
        some = let k : length (free c w) ≡ suc (length l) = ap length q in omega arith

        placed_so : (rounds c (suc f) w).placed ≡ free c w ++ p
        placed_so = ap (λ (r : Rounds). r.placed) (some_round c f w some)

        ws : List ℕ
        ws = numbers (length (rounds c (suc f) w).placed) a

        A : List ℕ
        A = numbers (length (free c w)) a

        B : List ℕ
        B = numbers (length p) (a + length (free c w))

        parts : ws ≡ A ++ B
        parts = ap (λ k. numbers k a) (ap length placed_so ∙ length-append (free c w) p) ∙ numbers-append (length (free c w)) (length p) a

        fit' : Fits (free c w ++ p) a
        fit' = subst (λ r. Fits r a) placed_so fit

        in_A : {y : ℕ} → In y A → In y ws
        in_A {y} h = subst (In y) (sym parts) (in_left B h)

        in_B : {y : ℕ} → In y B → In y ws
        in_B {y} h = subst (In y) (sym parts) (in_right A h)

        A-free : (y : ℕ) → In y A → any ws (c' y) ≡ false
        A-free y h = waits (suc f) w e a fit alike y (in_A h) ∙ not-true (any w (c (g y))) (keep_in (λ i. not (any w (c i))) w (fits_in (free c w) a (fits_left (free c w) p a fit') h)).1

        B-held : (y : ℕ) → In y B → any ws (c' y) ≡ true
        B-held y h = waits (suc f) w e a fit alike y (in_B h) ∙ (keep_in (λ i. any w (c i)) w (placed_from c f (held c w) (fits_in p (a + length (free c w)) (fits_right (free c w) p a fit') h))).1

        free_is : free c' ws ≡ A
        free_is =
            ap (λ l. keep l (λ i. not (any ws (c' i)))) parts
            ∙ keep_append (λ i. not (any ws (c' i))) A B
            ∙ ap₂ ◌++◌ (keep_all_lem (λ i. not (any ws (c' i))) A λ y h. ap not (A-free y h)) (keep-none (λ i. not (any ws (c' i))) B λ y h. ap not (B-held y h))
            ∙ append-nil A

        held_is : held c' ws ≡ B
        held_is =
            ap (λ l. keep l (λ i. any ws (c' i))) parts
            ∙ keep_append (λ i. any ws (c' i)) A B
            ∙ ap₂ ◌++◌ (keep-none (λ i. any ws (c' i)) A A-free) (keep_all_lem (λ i. any ws (c' i)) B B-held)

        rest : Same f B
        rest = ih (fits_right (free c w) p a fit') (λ y z h k. alike y z (in_B h) (in_B k))

        rounds_are : rounds c' (suc f) ws ≡ record { placed = A ++ B; left = [] }
        rounds_are =
            some_round c' f ws (subst (λ l. 0 < length l) (sym free_is) (subst (λ n. 0 < n) (sym (length-numbers (length (free c w)) a)) some))
            ∙ ap (λ l. record { placed = l ++ (rounds c' f (held c' ws)).placed; left = (rounds c' f (held c' ws)).left }) free_is
            ∙ ap (λ l. record { placed = A ++ (rounds c' f l).placed; left = (rounds c' f l).left }) held_is
            ∙ ap₂ (λ x y. record { placed = A ++ x; left = y }) rest.placed_is rest.left_is

    again : (f : ℕ) (w : List ℕ) → (rounds c f w).left ≡ [] → (a : ℕ) → Fits (rounds c f w).placed a → Alike (numbers (length (rounds c f w).placed) a) → Same f (numbers (length (rounds c f w).placed) a)
    unfolding numbers
    again zero w e a fit alike = subst (λ (r : Rounds). Same zero (numbers (length r.placed) a)) (sym (no_round c w)) (empty zero)
    again (suc f) w e a fit alike = go (free c w) refl (λ none fit alike. again f (held c w) none (a + length (free c w)) fit alike)
      where
        go : (l : List ℕ) → free c w ≡ l → ((rounds c f (held c w)).left ≡ [] → Fits (rounds c f (held c w)).placed (a + length (free c w)) → Alike (numbers (length (rounds c f (held c w)).placed) (a + length (free c w))) → Same f (numbers (length (rounds c f (held c w)).placed) (a + length (free c w)))) → Same (suc f) (numbers (length (rounds c (suc f) w).placed) a)
        go [] q ih = subst (λ (r : Rounds). Same (suc f) (numbers (length r.placed) a)) (sym (last-round c (suc f) w q)) (empty (suc f))
        go (x ∷ l) q ih =
            let k : length (free c w) ≡ suc (length l) = ap length q in
            one-round f w l x q e a fit alike (ih (sym (ap (λ (r : Rounds). r.left) (some_round c f w (omega arith))) ∙ e))

-- THE OUTPUT ORDER OF FUNCTIONS THAT ARE IN ORDER is that order: os is an order by the calls c, and c' has the same calls between places
pub order-again : (n : ℕ) (c c' : ℕ → ℕ → Bool) (os : List ℕ) → order n c ≡ ordered os → ((x y : ℕ) → x < n → y < n → c' x y ≡ c (get_or os x 0) (get_or os y 0)) → order n c' ≡ ordered (numbers n 0)
unfolding order answer Alike
order-again n c c' os e h =
    let i = ordered_is n c os e in
    let g : ℕ → ℕ = λ x. get_or os x 0 in
    let l : length (rounds c n (numbers n 0)).placed ≡ n = (let r = rounds-length c n (numbers n 0) in let z = ap length i.1 in omega (arith, length-numbers n 0)) in
    let fit = fits_by g (rounds c n (numbers n 0)).placed 0 (λ j k. ap₂ (λ (p : List ℕ) (x : ℕ). get_or p x 0) i.0 (omega arith)) in
    let s = again g c c' n (numbers n 0) i.1 0 fit (λ x y a b. h x y (inside l x a) (inside l y b)) in
    ap₂ answer (subst (λ k. (rounds c' n (numbers k 0)).placed ≡ numbers k 0) l s.placed_is) (subst (λ k. (rounds c' n (numbers k 0)).left ≡ []) l s.left_is)
  where
    inside : {k : ℕ} → k ≡ n → (x : ℕ) → In x (numbers k 0) → x < n
    inside {k} q x a = let r = numbers_in k 0 a in omega arith
