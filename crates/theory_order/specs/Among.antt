-- CALLS AMONG SOME FUNCTIONS, those of which p holds. What the rounds leave of these, of all calls, is what they leave of all functions where only calls among them count: after one round the same functions wait. So what is left is exactly those from which a chain through such functions reaches a ring of such.
use Rattle.std.specs.Prelude.{◌≡◌, Bool, ◌&&◌}
use Rattle.std.proofs.Math.Path.{refl, sym, ap}
use Rattle.std.proofs.Common.{◌∙◌, subst, arith}
use Rattle.std.proofs.Math.Bool.{true, not}
use Rattle.std.proofs.Math.Logic.{⊎_elim}
use mathlib.Core.List.{List, [], ◌∷◌}
use Prim.Native.Nat.{ℕ, zero, suc, ◌≤◌}
use Rattle.std.proofs.Math.ListN.{length}
use Rattle.model.specs.Calls.{In, numbers, any, keep, free, held, Rounds, rounds}
use Rattle.theory_lists.specs.Booleans.{either, bool_same, and-true, and_first, and_second}
use Rattle.theory_order.specs.Lists.{in_nil, keep_in, in_keep, keep_all_lem, length-parts, any_in, in_any, keep_ext, keep-keep, length-numbers}
use Rattle.theory_order.specs.Rounds.{last-round, some_round, enough}

-- calls between functions of which p holds
unfoldable pub among : (ℕ → Bool) → (ℕ → ℕ → Bool) → ℕ → ℕ → Bool
among p c i j = p i && (p j && c i j)

module _ (c : ℕ → ℕ → Bool) where
  -- what no round places is what no later round places of those that the first leaves
  left_step : (f : ℕ) (ws : List ℕ) → (rounds c (suc f) ws).left ≡ (rounds c f (held c ws)).left
  unfolding held free
  left_step f ws = go (free c ws) refl
    where
      waits : keep ws (λ i. not (any ws (c i))) ≡ [] → (i : ℕ) → In i ws → any ws (c i) ≡ true
      waits e i h = ⊎_elim (λ t. t) (λ q. absurd (in_nil (subst (λ (l : List ℕ). In i l) e (in_keep (λ i. not (any ws (c i))) h (rw q))))) (either (any ws (c i)))

      go : (l : List ℕ) → free c ws ≡ l → (rounds c (suc f) ws).left ≡ (rounds c f (held c ws)).left
      go [] e =
          let h : held c ws ≡ ws = keep_all_lem (λ i. any ws (c i)) ws (waits e) in
          ap (λ (r : Rounds). r.left) (last-round c (suc f) ws e) ∙ sym (ap (λ (r : Rounds). r.left) (last-round c f (held c ws) (ap (free c) h ∙ e)) ∙ h)
      go (x ∷ l) e = let k : length (free c ws) ≡ suc (length l) = ap length e in ap (λ (r : Rounds). r.left) (some_round c f ws (omega arith))

module _ (c : ℕ → ℕ → Bool) (p : ℕ → Bool) where
  -- among those of which p holds it is all the same
  any_same : (ws : List ℕ) → ((i : ℕ) → In i ws → p i ≡ true) → (i : ℕ) → p i ≡ true → any ws (among p c i) ≡ any ws (c i)
  unfolding among
  any_same ws h i q =
      bool_same (any ws (among p c i)) (any ws (c i))
      (λ t. let a = any_in (among p c i) ws t in in_any (c i) a.1 (and_second (p a.0) _ (and_second (p i) _ a.2)))
      (λ t. let a = any_in (c i) ws t in in_any (among p c i) a.1 (and-true q (and-true (h a.0 a.1) a.2)))

  held_same : (ws : List ℕ) → ((i : ℕ) → In i ws → p i ≡ true) → held (among p c) ws ≡ held c ws
  unfolding held
  held_same ws h = keep_ext (λ i. any ws (among p c i)) (λ i. any ws (c i)) ws (λ i k. any_same ws h i (h i k))

  left_same : (f : ℕ) (ws : List ℕ) → ((i : ℕ) → In i ws → p i ≡ true) → (rounds (among p c) f ws).left ≡ (rounds c f ws).left
  unfolding rounds held
  left_same zero ws h = refl
  left_same (suc f) ws h = left_step (among p c) f ws ∙ (ap (λ (l : List ℕ). (rounds (among p c) f l).left) (held_same ws h) ∙ (left_same f (held c ws) (λ i k. h i (of_held i k)) ∙ sym (left_step c f ws)))
    where
      of_held : (i : ℕ) → In i (held c ws) → In i ws
      of_held i k = (keep_in (λ i. any ws (c i)) ws k).0

  -- after one round the same wait, whether all waited or those of which p holds
  first-held : (ns : List ℕ) → held (among p c) ns ≡ held c (keep ns p)
  unfolding held among
  first-held ns =
      keep_ext (λ i. any ns (among p c i)) (λ i. p i && any (keep ns p) (c i)) ns (λ i k. bool_same _ _ (there i) (back i))
      ∙ sym (keep-keep p (λ i. any (keep ns p) (c i)) ns)
    where
      there : (i : ℕ) → any ns (among p c i) ≡ true → (p i && any (keep ns p) (c i)) ≡ true
      there i t =
          let a = any_in (among p c i) ns t in
          let r = and_second (p i) _ a.2 in
          and-true (and_first (p i) _ a.2) (in_any (c i) (in_keep p a.1 (and_first (p a.0) _ r)) (and_second (p a.0) _ r))

      back : (i : ℕ) → (p i && any (keep ns p) (c i)) ≡ true → any ns (among p c i) ≡ true
      back i t =
          let a = any_in (c i) (keep ns p) (and_second (p i) _ t) in
          let k = keep_in p ns a.1 in
          in_any (among p c i) k.0 (and-true (and_first (p i) _ t) (and-true k.1 a.2))

  pub left_among : (n : ℕ) → (rounds (among p c) n (numbers n 0)).left ≡ (rounds c n (keep (numbers n 0) p)).left
  unfolding held
  left_among n =
      ap (λ (r : Rounds). r.left) (more (among p c) (numbers n 0) (omega (arith, length-numbers n 0)))
      ∙ (left_step (among p c) n (numbers n 0)
      ∙ (ap (λ (l : List ℕ). (rounds (among p c) n l).left) (first-held (numbers n 0))
      ∙ (left_same n (held c (keep (numbers n 0) p)) of_p
      ∙ (sym (left_step c n (keep (numbers n 0) p))
      ∙ sym (ap (λ (r : Rounds). r.left) (more c (keep (numbers n 0) p) (omega (arith, length-numbers n 0, length-parts p (numbers n 0)))))))))
    where
      more : (d : ℕ → ℕ → Bool) (ws : List ℕ) → length ws ≤ n → rounds d n ws ≡ rounds d (suc n) ws
      more d ws h = enough d n ws h ∙ sym (enough d (suc n) ws (omega arith))

      of_p : (i : ℕ) → In i (held c (keep (numbers n 0) p)) → p i ≡ true
      of_p i k = (keep_in p (numbers n 0) (keep_in (λ i. any (keep (numbers n 0) p) (c i)) (keep (numbers n 0) p) k).0).1
