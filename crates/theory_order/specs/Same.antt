-- The order looks only at calls between the functions there are: two tests that agree on these give one order.
use Rattle.std.specs.Prelude.{◌≡◌, Bool, true, cond, List, [], ◌∷◌}
use Rattle.std.proofs.Math.Path.{refl, ap, ap₂}
use Rattle.std.proofs.Common.{◌∙◌, arith}
use Rattle.std.proofs.Math.Bool.{not}
use Prim.Native.Nat.{ℕ, zero, suc, ◌<◌}
use Rattle.model.specs.Calls.{In, here, later, numbers, any, free, held, round, rounds, answer, order}
use Rattle.theory_order.specs.Lists.{numbers_in, keep_in, keep_ext}

any_ext : (p q : ℕ → Bool) (is : List ℕ) → ((i : ℕ) → In i is → p i ≡ q i) → any is p ≡ any is q
unfolding any
any_ext p q [] h = refl
any_ext p q (i ∷ is) h = ap₂ (λ x y. cond x true y) (h i here) (any_ext p q is (λ j k. h j (later k)))

module _ (n : ℕ) (c d : ℕ → ℕ → Bool) (same : (i j : ℕ) → i < n → j < n → c i j ≡ d i j) where
  waits_ext : (ws : List ℕ) → ((i : ℕ) → In i ws → i < n) → (i : ℕ) → In i ws → any ws (c i) ≡ any ws (d i)
  waits_ext ws h i k = any_ext (c i) (d i) ws (λ j l. same i j (h i k) (h j l))

  free_ext : (ws : List ℕ) → ((i : ℕ) → In i ws → i < n) → free c ws ≡ free d ws
  unfolding free
  free_ext ws h = keep_ext (λ i. not (any ws (c i))) (λ i. not (any ws (d i))) ws (λ i k. ap not (waits_ext ws h i k))

  held_ext : (ws : List ℕ) → ((i : ℕ) → In i ws → i < n) → held c ws ≡ held d ws
  unfolding held
  held_ext ws h = keep_ext (λ i. any ws (c i)) (λ i. any ws (d i)) ws (waits_ext ws h)

  held_in : (ws : List ℕ) → ((i : ℕ) → In i ws → i < n) → (i : ℕ) → In i (held c ws) → i < n
  unfolding held
  held_in ws h i k = h i (keep_in (λ i. any ws (c i)) ws k).0

  pub rounds_ext : (f : ℕ) (ws : List ℕ) → ((i : ℕ) → In i ws → i < n) → rounds c f ws ≡ rounds d f ws
  unfolding rounds
  rounds_ext zero ws h = refl
  rounds_ext (suc f) ws h =
      ap₂ (λ x y. round x ws y) (free_ext ws h) (rounds_ext f (held c ws) (held_in ws h) ∙ ap (rounds d f) (held_ext ws h))

  pub order_ext : order n c ≡ order n d
  unfolding order
  order_ext = ap (λ r. answer r.placed r.left) (rounds_ext n (numbers n 0) (λ i k. let b = numbers_in n 0 k in omega arith))
