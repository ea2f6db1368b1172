-- LINKING SUCCEEDS exactly if no chain of calls comes back to its start; and then the words are those of the module linked in output order.
use Rattle.std.proofs.Math.Path.{◌≡◌, refl}
use Rattle.std.proofs.Common.{sym, ap, ◌∙◌, arith, length-set, length-append, get_or-set_same, get_or-set_other}
use Rattle.std.specs.Prelude.{Bool, ◌↔◌, List, [], ◌∷◌, ℕ, zero, suc, ◌+◌, ◌*◌, ◌<◌, get_or, set, replicate}
use Rattle.std.proofs.Math.Option.{some}
use Rattle.std.proofs.Math.ListN.{length, get_elem?}
use Rattle.std.proofs.lemmas.List.{length-replicate}
use borrow.Author.Tests.{le-ltb}
use Rattle.model.specs.Module.{Module, write}
use Rattle.model.specs.Initial.{Mem, here, there}
use Rattle.model.specs.Calls.{Ring, In, here as here_in, later, numbers, free, held, rounds, Order, ordered, ring}
use Rattle.model.specs.Callees.{calls, order_of}
use Rattle.model.specs.Intake.{of_laid, after_intake, on_words}
use Rattle.model.specs.Refusals.{done}
use Rattle.model.specs.Link.{link_by, in_order, link_module, link}
use Rattle.model.specs.LinkMaps.{places_of, link_maps}
use Rattle.theory_order.specs.Lists.{length-numbers}
use Rattle.theory_order.specs.Rounds.{length-round, no_round, last-round, some_round}
use Rattle.theory_order.specs.Theorems.{order_exactly, ordered_is}
use Rattle.theory_finish.specs.Firsts.{Once, once-next}
use Rattle.theory_finish.specs.Ringless.{low}
use Rattle.theory_finish.specs.Counting.{order-once}
use Rattle.theory_link.specs.Demand.{Linking}

module _ (ws : List ℕ) (room : ℕ) (m : Module) (l : Linking ws room m) where
  pub link_is : link (4 * length ws) ws room ≡ in_order (order_of m) m
  unfolding link on_words after_intake of_laid link_module
  link_is = rw (link, on_words, l.passes, after_intake, l.reads, of_laid, link_module, le-ltb room (4 * length ws) l.roomy)

  by_order : (o : Order) (vs : List ℕ) → in_order o m ≡ done vs → (os : List ℕ) × (o ≡ ordered os) × (vs ≡ write (link_by os m))
  unfolding in_order
  by_order (ordered os) vs e = (os, refl, cc)
  by_order (ring k) vs e = let z : ◌≡◌ {A = ℕ} 0 1 = cc in absurd (omega arith)

  -- what is written, if anything is
  pub linked_as : (vs : List ℕ) → link (4 * length ws) ws room ≡ done vs → (os : List ℕ) × (order_of m ≡ ordered os) × (vs ≡ write (link_by os m))
  linked_as vs e = by_order (order_of m) vs (sym link_is ∙ e)

  ringless_order : ((i : ℕ) → Ring (length m.functions) (calls m) i → ⊥) → (os : List ℕ) × (in_order (order_of m) m ≡ done (write (link_by os m)))
  unfolding order_of in_order
  ringless_order f = let o = (order_exactly (length m.functions) (calls m)).1 f in (o.0, rw o.1)

  to-order : (os : List ℕ) → order_of m ≡ ordered os → (i : ℕ) → Ring (length m.functions) (calls m) i → ⊥
  unfolding order_of
  to-order os e = (order_exactly (length m.functions) (calls m)).0 (os, e)

  pub link_exactly : ((vs : List ℕ) × (link (4 * length ws) ws room ≡ done vs)) ↔ ((i : ℕ) → Ring (length m.functions) (calls m) i → ⊥)
  link_exactly = (to, back)
    where
      to : (vs : List ℕ) × (link (4 * length ws) ws room ≡ done vs) → (i : ℕ) → Ring (length m.functions) (calls m) i → ⊥
      to a = let o = linked_as a.0 a.1 in to-order o.0 o.1

      back : ((i : ℕ) → Ring (length m.functions) (calls m) i → ⊥) → (vs : List ℕ) × (link (4 * length ws) ws room ≡ done vs)
      back f = let o = ringless_order f in (write (link_by o.0 m), link_is ∙ rw o.1)

-- ---- places
places-other : (is : List ℕ) (j : ℕ) (vs : List ℕ) (i : ℕ) → (Mem i is → ⊥) → get_or (places_of is j vs) i 0 ≡ get_or vs i 0
unfolding places_of
places-other [] j vs i h = refl
places-other (x ∷ is) j vs i h = places-other is (suc j) (set vs x (suc j)) i (λ k. h (there k)) ∙ get_or-set_other vs x i (suc j) 0 (λ q. h (rw q here))

places-at : (is : List ℕ) (k : ℕ) (vs : List ℕ) → Once is → (j i : ℕ) → get_elem? is j ≡ some i → i < length vs → get_or (places_of is k vs) i 0 ≡ suc (k + j)
unfolding places_of
places-at [] k vs o j i e l = let z : ◌≡◌ {A = ℕ} 0 1 = cc in absurd (omega arith)
places-at (x ∷ is) k vs (once-next h o) zero i e l =
    let q : x ≡ i = cc in
    let m : Mem i is → ⊥ = rw q at h in
    rw q (places-other is (suc k) (set vs i (suc k)) i m ∙ (get_or-set_same vs i (suc k) 0 l ∙ omega arith))
places-at (x ∷ is) k vs (once-next h o) (suc j) i e l = places-at is (suc k) (set vs x (suc k)) o j i e (rw (length-set vs x (suc k)) l) ∙ omega arith

at_in : (l : List ℕ) (j i : ℕ) → get_elem? l j ≡ some i → In i l
at_in [] j i e = let z : ◌≡◌ {A = ℕ} 0 1 = cc in absurd (omega arith)
at_in (x ∷ l) zero i e = let q : x ≡ i = cc in rw q here_in
at_in (x ∷ l) (suc j) i e = later (at_in l j i e)

-- EACH FUNCTION AT ITS PLACE
pub placed : (m : Module) (os : List ℕ) → order_of m ≡ ordered os → (j i : ℕ) → get_elem? os j ≡ some i → get_or (link_maps os m).functions i 0 ≡ suc j
unfolding link_maps
placed m os e j i q = let r = places-at os 0 (replicate (length m.functions) 0) (order-once m os e) j i q (rw (length-replicate {A = ℕ} (length m.functions) 0) (low m os e i (at_in os j i q))) in r ∙ omega arith

-- ---- as many as there are functions
pub rounds-length : (c : ℕ → ℕ → Bool) (f : ℕ) (w : List ℕ) → length (rounds c f w).placed + length (rounds c f w).left ≡ length w
rounds-length c zero w = rw (no_round c w) (omega arith)
rounds-length c (suc f) w = go (free c w) refl (rounds-length c f (held c w))
  where
    go : (l : List ℕ) → free c w ≡ l → length (rounds c f (held c w)).placed + length (rounds c f (held c w)).left ≡ length (held c w) → length (rounds c (suc f) w).placed + length (rounds c (suc f) w).left ≡ length w
    go [] e ih = rw (last-round c (suc f) w e) (omega arith)
    go (x ∷ l) e ih =
        let k : length (free c w) ≡ suc (length l) = ap length e in
        rw (some_round c f w (omega arith)) (omega (arith, ih, length-append (free c w) (rounds c f (held c w)).placed, length-round c w))

pub order-length : (m : Module) (os : List ℕ) → order_of m ≡ ordered os → length os ≡ length m.functions
unfolding order_of
order-length m os e =
    let n = length m.functions in
    let a = ordered_is n (calls m) os e in
    let r = rounds-length (calls m) n (numbers n 0) in
    let p = ap length a.0 in
    let q = ap length a.1 in
    omega (arith, length-numbers n 0)
