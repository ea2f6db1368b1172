-- The whole order: what the rounds of those that still wait will place, written from `at` on, completes the whole; what they will leave is what is left of
-- the whole.
use mathlib.Core.Path.{◌≡◌, refl, sym, ap, ◌∙◌}
use mathlib.Core.List.{List, [], ◌∷◌}
use Prim.Native.Nat.{ℕ, suc, ◌+◌, ◌≤◌, ◌<◌}
use native.Mathlib.Omega.{arith}
use lib.ListN.{length, drop, set}
use lib.Seq.{sets, sets-eq, take_at, drop-set-lt}
use Rattle.theory_lists.specs.Stores.{sets-append}
use Rattle.theory_lists.specs.Lists.{length_none}
use Rattle.model.specs.Calls.{numbers, free, held, Rounds, ring, answer, order}
use Rattle.model.specs.Refusals.{done}
use Rattle.order_ranks.specs.declared.FunctionSet.{FunctionSet}
use Rattle.order_ranks.specs.Marks.{members, marked, Firsts, Below}
use Rattle.order_ranks.specs.Placing.{Placeable, Placed, Orders, shown}
use Rattle.model.specs.Image.{order_ended}
use Rattle.base_refusals.specs.declared.Refusal.TheVariants.{Ring}
use Rattle.std.specs.Prelude.{Ok, Err}
use Rattle.theory_order.specs.Lists.{length-numbers}
use Rattle.order_ranks.proofs.Marks.{firsts-below, firsts-members}
use Rattle.theory_order.specs.Rounds.{length-round, all, all-last, all_some, length-rounds}

-- ---- a run of stores

-- stores below n leave what is from n on
drop_long : (vs l : List ℕ) (i n : ℕ) → i + length vs ≤ n → drop n (sets l i vs) ≡ drop n l
drop_long [] l i n h = refl
drop_long (v ∷ vs) l i n h = drop_long vs (set l i v) (suc i) n (omega arith) ∙ drop-set-lt n l i v (omega arith)

-- ---- the answer

answer_ring : (placed left : List ℕ) → 0 < length left → answer placed left ≡ ring (length left)
unfolding answer
answer_ring placed [] h = absurd (omega arith)
answer_ring placed (i ∷ is) h = refl

module _ (cs : List FunctionSet) (n : ℕ) (out₀ : List ℕ) where
  abbrev whole : Rounds
  whole = all (marked cs) (numbers n 0)

  pub record Under (out waiting : List ℕ) (at : ℕ) : Type 0 where
    pub long : length waiting ≡ 4
    pub many : at + length (members waiting) ≡ n
    pub low : Below n waiting
    pub placed : sets out at (all (marked cs) (members waiting)).placed ≡ sets out₀ 0 whole.placed
    pub left : (all (marked cs) (members waiting)).left ≡ whole.left

  module _ (small : n ≤ 256) (long : length out₀ ≡ 256) where
    pub begin : (waiting : List ℕ) → Firsts n waiting → Under out₀ waiting 0
    begin waiting f =
        let m = firsts-members waiting n small f in
        let k : length (members waiting) ≡ n = ap length m ∙ length-numbers n 0 in
        record { long = f.long; many = omega arith; low = firsts-below waiting n f; placed = rw m; left = rw m }

    order_is : order n (marked cs) ≡ answer whole.placed whole.left
    unfolding order all
    order_is = rw (length-numbers n 0)

    count_is : length whole.placed + length whole.left ≡ n
    unfolding all
    count_is = length-rounds (marked cs) (length (numbers n 0)) (numbers n 0) ∙ length-numbers n 0

    module _ (out waiting : List ℕ) (at : ℕ) (u : Under out waiting at) where
      pub asks : Placeable n waiting at
      asks = record { small = small; long = u.long; low = u.low; room = omega (arith, u.many) }

      module _ (h : at < n) (kept' out' : List ℕ) (next : ℕ) (p : Placed (marked cs) n (members waiting) out at kept' out' next) where
        -- the round placed one
        pub again : (next ≡ at → ⊥) → Under out' kept' next
        again ne =
            let l = length-round (marked cs) (members waiting) in
            let e : 0 < length (free (marked cs) (members waiting)) = omega (arith, p.ends) in
            let s = all_some (marked cs) (members waiting) e in
            let m : length (members kept') ≡ length (held (marked cs) (members waiting)) = ap length p.kept in
            record {
              many = omega (arith, p.ends, u.many);
              long = p.long;
              low = p.low;
              placed =
                  rw (p.kept, p.written, p.ends)
                  (sym (sets-append (free (marked cs) (members waiting)) out at (all (marked cs) (held (marked cs) (members waiting))).placed)
                  ∙ ap (λ (r : Rounds). sets out at r.placed) (sym s) ∙ u.placed);
              left = rw p.kept (ap (λ (r : Rounds). r.left) (sym s) ∙ u.left);
            }

        pub less : (next ≡ at → ⊥) → at < next
        less ne = omega (arith, p.ends)

        -- the round placed none
        pub stuck : next ≡ at → (k : ℕ) → k ≡ length (members waiting) → Orders (marked cs) n out₀ (Err (Ring k)) out'
        unfolding shown order_ended
        stuck e k is =
            let f : free (marked cs) (members waiting) ≡ [] = length_none _ (omega (arith, p.ends)) in
            let a = all-last (marked cs) (members waiting) f in
            let l : whole.left ≡ members waiting = sym u.left ∙ ap (λ (r : Rounds). r.left) a in
            let o : out' ≡ sets out₀ 0 whole.placed = p.written ∙ rw f (sym (ap (λ (r : Rounds). sets out at r.placed) a) ∙ u.placed) in
            record {
              is =
                  ap order_ended
                  (ap ring is ∙ sym (answer_ring whole.placed (members waiting) (omega (arith, u.many))) ∙ ap (λ (x : List ℕ). answer whole.placed x) (sym l)
                  ∙ sym order_is);
              rest = rw o (drop_long whole.placed out₀ 0 n (omega (arith, count_is)));
            }

      -- none waits
      pub finish : n ≤ at → Orders (marked cs) n out₀ (Ok tt) out
      unfolding shown answer order_ended
      finish h =
          let m : members waiting ≡ [] = length_none _ (omega (arith, u.many)) in
          let f : free (marked cs) (members waiting) ≡ [] = length_none _ (omega (arith, length-round (marked cs) (members waiting), u.many)) in
          let a = all-last (marked cs) (members waiting) f in
          let l : whole.left ≡ [] = sym u.left ∙ ap (λ (r : Rounds). r.left) a ∙ m in
          let o : out ≡ sets out₀ 0 whole.placed = sym (ap (λ (r : Rounds). sets out at r.placed) a) ∙ u.placed in
          let c : length whole.placed ≡ n = omega (arith, count_is, ap length l) in
          record {
            is = rw (order_is, l, o, sets-eq whole.placed out₀ 0 (omega arith)) (ap done (take_at whole.placed _ n c));
            rest = rw o (drop_long whole.placed out₀ 0 n (omega arith));
          }
