-- The sets of the first n functions alone, of an array with more: what is said of calls between those is said of the array.
use mathlib.Core.Path.{◌≡◌, ap, ◌∙◌}
use mathlib.Core.List.{List, []}
use Prim.Native.Nat.{ℕ, ◌≤◌, ◌<◌}
use native.Mathlib.Omega.{arith}
use lib.ListN.{length, take}
use lib.Seq.{length-take-le}
use Rattle.std.proofs.lemmas.List.{get_or-take}
use Rattle.std.specs.Prelude.{Result}
use Rattle.model.specs.Calls.{In, Rounds}
use Rattle.model.specs.Image.{order_ended}
use Rattle.base_refusals.specs.declared.Refusal.{Refusal}
use Rattle.theory_order.specs.Lists.{numbers_in, keep_in}
use Rattle.theory_order.specs.Same.{rounds_ext, order_ext}
use Rattle.order_ranks.specs.declared.FunctionSet.{FunctionSet}
use Rattle.order_ranks.specs.Marks.{holds, members, marked, Below}
use Rattle.order_ranks.specs.Placing.{Leaves, Orders}
use Rattle.order_ranks.proofs.Marks.{members-below}

module _ (cs : List FunctionSet) (n : ℕ) where
  marked_front : (i j : ℕ) → i < n → marked (take n cs) i j ≡ marked cs i j
  unfolding marked
  marked_front i j h = ap (λ (s : FunctionSet). holds s.0 j) (get_or-take n cs i (record { 0 = [] }) h)

  module _ (enough : n ≤ length cs) where
    pub orders_front : {out out' : List ℕ} {r : Result (Unit {0}) Refusal} → Orders (marked (take n cs)) (length (take n cs)) out r out' → Orders (marked cs) n out r out'
    orders_front {out} {out'} {r} o =
        let p : Orders (marked (take n cs)) n out r out' = rw (length-take-le n cs enough) at o in
        record { is = p.is ∙ ap order_ended (order_ext n (marked (take n cs)) (marked cs) (λ i j a b. marked_front i j a)); rest = p.rest }

    pub leaves_front : (ws : List ℕ) {left : List ℕ} → n ≤ 256 → Below n ws → Leaves (marked (take n cs)) (length (take n cs)) (members ws) left → Leaves (marked cs) n (members ws) left
    leaves_front ws {left} few low l =
        let p : Leaves (marked (take n cs)) n (members ws) left = rw (length-take-le n cs enough) at l in
        record {
          long = p.long;
          low = p.low;
          is = λ f k. p.is f k ∙ ap (λ (r : Rounds). r.left) (rounds_ext n (marked (take n cs)) (marked cs) (λ i j a b. marked_front i j a) f (members ws) within);
        }
      where
        within : (i : ℕ) → In i (members ws) → i < n
        within i k = let b = numbers_in n 0 (keep_in (holds ws) _ (rw (members-below ws n few low) at k)).0 in omega arith
