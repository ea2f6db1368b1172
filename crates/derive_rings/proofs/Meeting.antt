-- What the rounds leave is the most that holds itself up: each of it calls one of it. So what they leave of a part of the functions lies in what they leave of all,
-- and the rounds may start from what the part has in common with that.
use mathlib.Core.Path.{◌≡◌, refl, sym, ap, ◌∙◌}
use mathlib.Core.Bool.{Bool, true, false, not, ◌&&◌}
use mathlib.Core.Logic.{◌⊎◌, inl, inr}
use mathlib.Core.List.{List, [], ◌∷◌}
use Prim.Native.Nat.{ℕ, zero, suc, ◌≤◌, ◌<◌}
use native.Mathlib.Omega.{arith}
use lib.ListN.{length}
use Rattle.theory_lists.specs.Booleans.{bool_same, either}
use Rattle.model.specs.Calls.{In, numbers, any, keep, free, held, Rounds, rounds}
use Rattle.theory_order.specs.Lists.{keep_in, in_keep, keep_all_lem, keep_ext, keep-keep, any_in, in_any, in_nil, length-parts, length-numbers}
use Rattle.theory_order.specs.Rounds.{length-round, no_round, last-round, some_round, length-rounds}

none_or : (l : List ℕ) → (l ≡ []) ⊎ (0 < length l)
none_or [] = inl refl
none_or (i ∷ is) = inr (omega arith)

whole : (ws : List ℕ) → ws ≡ keep ws (λ i. true)
whole ws = sym (keep_all_lem (λ i. true) ws (λ i k. refl))

module _ (calls : ℕ → ℕ → Bool) where
  -- each of it calls one of it
  Upheld : List ℕ → Type 0
  Upheld S = (i : ℕ) → In i S → any S (calls i) ≡ true

  Inside : List ℕ → List ℕ → Type 0
  Inside S ws = (i : ℕ) → In i S → In i ws

  held_in : (S ws : List ℕ) → Inside S ws → Upheld S → Inside S (held calls ws)
  unfolding held Upheld Inside
  held_in S ws h u i k = in_keep (λ i. any ws (calls i)) (h i k) (let q = any_in (calls i) S (u i k) in in_any (calls i) (h q.0 q.1) q.2)

  -- the least round: none is free, or some are
  left_most : (f : ℕ) (S ws : List ℕ) → Inside S ws → Upheld S → Inside S (rounds calls f ws).left
  unfolding Inside
  left_most zero S ws h u i k = rw (no_round calls ws) (h i k)
  left_most (suc f) S ws h u i k = go (none_or (free calls ws)) (left_most f S (held calls ws) (held_in S ws h u) u i k)
    where
      go : (free calls ws ≡ []) ⊎ (0 < length (free calls ws)) → In i (rounds calls f (held calls ws)).left → In i (rounds calls (suc f) ws).left
      go (inl e) r = rw (last-round calls (suc f) ws e) (h i k)
      go (inr e) r = rw (some_round calls f ws e) r

  -- none is free: each calls one
  all_held : (ws : List ℕ) → free calls ws ≡ [] → Upheld ws
  unfolding free Upheld
  all_held ws e i k = go (either (any ws (calls i)))
    where
      go : (any ws (calls i) ≡ true) ⊎ (any ws (calls i) ≡ false) → any ws (calls i) ≡ true
      go (inl t) = t
      go (inr t) = absurd (in_nil (rw e at (in_keep (λ i. not (any ws (calls i))) k (rw t))))

  left_upheld : (f : ℕ) (ws : List ℕ) → length ws ≤ f → Upheld (rounds calls f ws).left
  left_upheld zero ws h = go (none_or (free calls ws))
    where
      go : (free calls ws ≡ []) ⊎ (0 < length (free calls ws)) → Upheld (rounds calls zero ws).left
      go (inl e) = rw (last-round calls zero ws e) (all_held ws e)
      go (inr e) = absurd (omega (arith, length-round calls ws))
  left_upheld (suc f) ws h = go (none_or (free calls ws)) (λ l. left_upheld f (held calls ws) l)
    where
      go : (free calls ws ≡ []) ⊎ (0 < length (free calls ws)) → (length (held calls ws) ≤ f → Upheld (rounds calls f (held calls ws)).left) → Upheld (rounds calls (suc f) ws).left
      go (inl e) r = rw (last-round calls (suc f) ws e) (all_held ws e)
      go (inr e) r = rw (some_round calls f ws e) (r (omega (arith, length-round calls ws)))

  -- it is a part of those that waited, in their order
  left_part : (f : ℕ) (ws : List ℕ) → (q : ℕ → Bool) × ((rounds calls f ws).left ≡ keep ws q)
  unfolding held
  left_part zero ws = ((λ i. true), ap (λ (r : Rounds). r.left) (no_round calls ws) ∙ whole ws)
  left_part (suc f) ws = go (none_or (free calls ws)) (left_part f (held calls ws))
    where
      go : (free calls ws ≡ []) ⊎ (0 < length (free calls ws)) → (q : ℕ → Bool) × ((rounds calls f (held calls ws)).left ≡ keep (held calls ws) q) → (q : ℕ → Bool) × ((rounds calls (suc f) ws).left ≡ keep ws q)
      go (inl e) p = ((λ i. true), ap (λ (r : Rounds). r.left) (last-round calls (suc f) ws e) ∙ whole ws)
      go (inr e) p = ((λ i. any ws (calls i) && p.0 i), ap (λ (r : Rounds). r.left) (some_round calls f ws e) ∙ p.1 ∙ keep-keep (λ i. any ws (calls i)) p.0 ws)

-- two parts of a list that have the same members
same-part : (p q : ℕ → Bool) (ws : List ℕ) → ((i : ℕ) → In i (keep ws p) → In i (keep ws q)) → ((i : ℕ) → In i (keep ws q) → In i (keep ws p)) → keep ws p ≡ keep ws q
same-part p q ws h k = keep_ext p q ws λ i m. bool_same (p i) (q i) (λ e. (keep_in q ws (h i (in_keep p m e))).1) (λ e. (keep_in p ws (k i (in_keep q m e))).1)

-- a part is no longer than the whole
pub keep_few : (p : ℕ → Bool) (ws : List ℕ) → length (keep ws p) ≤ length ws
keep_few p ws = omega (arith, length-parts p ws)

module _ (calls : ℕ → ℕ → Bool) (n : ℕ) (u : ℕ → Bool) where
  abbrev all : List ℕ
  all = numbers n 0

  -- what is left of all
  abbrev led : List ℕ
  led = (rounds calls n all).left

  led_few : length led ≤ n
  led_few = omega (arith, length-rounds calls n all, length-numbers n 0)

  -- what is left of the part that is led to a ring, and of the whole part
  abbrev some : List ℕ
  some = (rounds calls n (keep led u)).left

  abbrev part : List ℕ
  part = (rounds calls n (keep all u)).left

  left_in : (f : ℕ) (ws : List ℕ) (i : ℕ) → In i (rounds calls f ws).left → In i ws
  left_in f ws i k = let q = left_part calls f ws in (keep_in q.0 ws (rw q.1 at k)).0

  some_in : (i : ℕ) → In i some → In i part
  unfolding Inside
  some_in i k =
      left_most calls n some (keep all u)
      (λ j m. let a = keep_in u led (left_in n (keep led u) j m) in in_keep u (left_in n all j a.0) a.1)
      (left_upheld calls n (keep led u) (omega (arith, keep_few u led, led_few)))
      i
      k

  part_in : (i : ℕ) → In i part → In i some
  unfolding Inside
  part_in i k =
      let up = left_upheld calls n (keep all u) (omega (arith, keep_few u all, length-numbers n 0)) in
      left_most calls n part (keep led u)
      (λ j m. let a = keep_in u all (left_in n (keep all u) j m) in in_keep u (left_most calls n part all (λ x l. (keep_in u all (left_in n (keep all u) x l)).0) up j m) a.1)
      up
      i
      k

  some_is : (q : ℕ → Bool) × (some ≡ keep all q)
  some_is =
      let a = left_part calls n all in
      let b = left_part calls n (keep led u) in
      let x : keep led u ≡ keep all (λ i. a.0 i && u i) = ap (λ (l : List ℕ). keep l u) a.1 ∙ keep-keep a.0 u all in
      ((λ i. (a.0 i && u i) && b.0 i), b.1 ∙ ap (λ (l : List ℕ). keep l b.0) x ∙ keep-keep (λ i. a.0 i && u i) b.0 all)

  part_is : (q : ℕ → Bool) × (part ≡ keep all q)
  part_is = let b = left_part calls n (keep all u) in ((λ i. u i && b.0 i), b.1 ∙ keep-keep u b.0 all)

  pub left_meet : (rounds calls n (keep (rounds calls n (numbers n 0)).left u)).left ≡ (rounds calls n (keep (numbers n 0) u)).left
  left_meet =
      let a = some_is in
      let b = part_is in
      a.1 ∙ same-part a.0 b.0 all (λ i k. rw b.1 at (some_in i (rw a.1 k))) (λ i k. rw a.1 at (part_in i (rw b.1 k))) ∙ sym b.1

  -- what is left has u, and each calls one that is left
  pub left_has : (i : ℕ) → In i (rounds calls n (keep (numbers n 0) u)).left → u i ≡ true
  left_has i k = (keep_in u all (left_in n (keep all u) i k)).1

  pub left_calls : (i : ℕ) → In i (rounds calls n (keep (numbers n 0) u)).left → (j : ℕ) × In j (rounds calls n (keep (numbers n 0) u)).left × (calls i j ≡ true)
  unfolding Upheld
  left_calls i k = any_in (calls i) part (left_upheld calls n (keep all u) (omega (arith, keep_few u all, length-numbers n 0)) i k)

  pub waiting_few : length (keep (rounds calls n (numbers n 0)).left u) ≤ n
  waiting_few = omega (arith, keep_few u led, led_few)
