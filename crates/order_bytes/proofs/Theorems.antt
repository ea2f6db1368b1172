-- The theorems on order, of images: each is about all bytes that intake accepts and about the definition alone; that the code is the definition is the
-- contract of `order`.
use mathlib.Core.Path.{◌≡◌, refl, sym, ap, ◌∙◌}
use mathlib.Core.Logic.{◌↔◌}
use mathlib.Core.List.{List, ◌∷◌, ◌++◌}
use Prim.Native.Nat.{ℕ}
use native.Mathlib.Omega.{arith}
use lib.ListN.{length}
use Rattle.base_words.specs.Words.{words_of}
use Rattle.model.specs.Outcome.{laid}
use Rattle.model.specs.Module.{Module, read}
use Rattle.model.specs.Intake.{intake_of}
use Rattle.model.specs.Calls.{Call, Ring, Reaches, In, Sorted, Count, Order, ordered, ring}
use Rattle.model.specs.Callees.{calls, order_of}
use Rattle.theory_order.proofs.Theorems.{claims}
use Rattle.model.specs.Refusals.{Ended, done, refused, ringed}
use Rattle.model.specs.Image.{on_image, order_ended, order_image, order_after}
use Rattle.theory_image.specs.OnWords.{on_module}

-- ---- A REFUSAL LEAVES THE LIST
pub refused_keeps : (k : ℕ) (out : List ℕ) (t : Ended (List ℕ)) → t ≡ refused k → order_after t out ≡ out
unfolding order_after
refused_keeps k out t e = ap (λ x. order_after x out) e

pub ring_keeps : (left : ℕ) (out : List ℕ) (t : Ended (List ℕ)) → t ≡ ringed left → order_after t out ≡ out
unfolding order_after
ring_keeps left out t e = ap (λ x. order_after x out) e

-- ---- an order that is answered is the module's
ended_listed : (x : Order) (os : List ℕ) → order_ended x ≡ done os → x ≡ ordered os
unfolding order_ended
ended_listed (ordered l) os e = cc
ended_listed (ring k) os e = let z : ◌≡◌ {A = ℕ} 0 1 = cc in absurd (omega arith)

ended_rings : (x : Order) (left : ℕ) → order_ended x ≡ ringed left → x ≡ ring left
unfolding order_ended
ended_rings (ordered l) left e = let z : ◌≡◌ {A = ℕ} 0 1 = cc in absurd (omega arith)
ended_rings (ring k) left e = cc

module _ (image : List ℕ) (m : Module) (accepted : intake_of (length image) (words_of image) ≡ 0) (reads : read (words_of image) ≡ laid m) where
  order_is : order_image image ≡ order_ended (order_of m)
  unfolding order_image on_image
  order_is = on_module (λ m. order_ended (order_of m)) refused (length image) (words_of image) m accepted reads

  -- ORDER SUCCEEDS EXACTLY IF NO CHAIN OF CALLS COMES BACK TO ITS START
  pub listed_exactly : ((os : List ℕ) × (order_image image ≡ done os)) ↔ ((i : ℕ) → Ring (length m.functions) (calls m) i → ⊥)
  unfolding order_ended order_of
  listed_exactly =
      let c = (claims (length m.functions) (calls m)).order_exactly in
      (λ a. c.0 (a.0, ended_listed (order_of m) a.0 (sym order_is ∙ a.1)), λ off. let o = c.1 off in (o.0, order_is ∙ ap order_ended o.1))

  -- EVERY CALLEE STANDS BEFORE ITS CALLERS, and the order is by rank and then by source number
  pub callees-first : (os : List ℕ) → order_image image ≡ done os → (xs ys : List ℕ) (i j : ℕ) → os ≡ xs ++ (i ∷ ys) → Call (length m.functions) (calls m) i j → In j xs
  unfolding order_of
  callees-first os e = (claims (length m.functions) (calls m)).callees-first os (ended_listed (order_of m) os (sym order_is ∙ e))

  pub sorted : (os : List ℕ) → order_image image ≡ done os → Sorted (length m.functions) (calls m) os
  unfolding order_of
  sorted os e = (claims (length m.functions) (calls m)).order_sorted os (ended_listed (order_of m) os (sym order_is ∙ e))

  -- OTHERWISE THE ANSWER IS A RING
  pub ring_answered : (i : ℕ) → Ring (length m.functions) (calls m) i → (left : ℕ) × (order_image image ≡ ringed left)
  unfolding order_ended
  ring_answered i g = go (order_of m) refl
    where
      go : (x : Order) → order_of m ≡ x → (left : ℕ) × (order_image image ≡ ringed left)
      go (ordered os) e = absurd (listed_exactly.0 (os, order_is ∙ ap order_ended e) i g)
      go (ring k) e = (k, order_is ∙ ap order_ended e)

  -- A RING IS ANSWERED WITH THE COUNT OF FUNCTIONS FROM WHICH A CHAIN REACHES ONE
  pub ring_counts : (left : ℕ) → order_image image ≡ ringed left → Count (length m.functions) (Reaches (length m.functions) (calls m)) left
  unfolding order_of
  ring_counts left e = (claims (length m.functions) (calls m)).ring_counts left (ended_rings (order_of m) left (sym order_is ∙ e))
