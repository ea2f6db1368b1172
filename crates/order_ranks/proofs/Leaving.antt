-- What all rounds leave: the rounds of those that still wait leave what those of all leave.
use mathlib.Core.Path.{◌≡◌, refl, sym, ap, ◌∙◌}
use mathlib.Core.List.{List, []}
use Prim.Native.Nat.{ℕ, ◌≤◌, ◌<◌}
use native.Mathlib.Omega.{arith}
use lib.ListN.{length}
use Rattle.theory_lists.specs.Lists.{length_none}
use Rattle.model.specs.Calls.{numbers, free, held, Rounds}
use Rattle.order_ranks.specs.declared.FunctionSet.{FunctionSet}
use Rattle.order_ranks.specs.Marks.{holds, members, marked, Below}
use Rattle.order_ranks.specs.Placing.{Placeable, Placed, Leaves}
use Rattle.theory_order.specs.Lists.{length-numbers, length-parts}
use Rattle.theory_order.specs.Rounds.{length-round, enough, all, all-last, all_some}

pub members_few : (l : List ℕ) → length (members l) ≤ 256
unfolding members
members_few l = omega (arith, length-parts (holds l) (numbers 256 0), length-numbers 256 0)

module _ (cs : List FunctionSet) (n : ℕ) (began : List ℕ) where
  pub record Leaving (waiting : List ℕ) : Type 0 where
    pub long : length waiting ≡ 4
    pub low : Below n waiting
    pub left : (all (marked cs) (members waiting)).left ≡ (all (marked cs) (members began)).left

  module _ (small : n ≤ 256) where
    pub begin : length began ≡ 4 → Below n began → Leaving began
    begin l b = record { long = l; low = b; left = refl }

    module _ (waiting : List ℕ) (u : Leaving waiting) where
      pub asks : Placeable n waiting 0
      asks = record { small = small; long = u.long; low = u.low; room = omega (arith, members_few waiting) }

      module _ (kept' out out' : List ℕ) (next : ℕ) (p : Placed (marked cs) n (members waiting) out 0 kept' out' next) where
        -- the round placed one
        pub again : (next ≡ 0 → ⊥) → Leaving kept'
        again ne =
            let s = all_some (marked cs) (members waiting) (omega (arith, p.ends)) in
            record { long = p.long; low = p.low; left = rw p.kept (ap (λ (r : Rounds). r.left) (sym s) ∙ u.left) }

        pub less : (next ≡ 0 → ⊥) → length (members kept') < length (members waiting)
        less ne = let m : length (members kept') ≡ length (held (marked cs) (members waiting)) = ap length p.kept in omega (arith, p.ends, length-round (marked cs) (members waiting))

        -- the round placed none
        pub finish : next ≡ 0 → Leaves (marked cs) n (members began) waiting
        unfolding all
        finish e =
            let f : free (marked cs) (members waiting) ≡ [] = length_none _ (omega (arith, p.ends)) in
            let a = all-last (marked cs) (members waiting) f in
            record {
              long = u.long;
              low = u.low;
              is = λ k h. sym (ap (λ (r : Rounds). r.left) a) ∙ u.left ∙ sym (ap (λ (r : Rounds). r.left) (enough (marked cs) k (members began) h));
            }
