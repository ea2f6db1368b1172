-- The rounds without their bound: as many as there are functions waiting are enough, since each but the last places one at least.
use Rattle.std.specs.Prelude.{◌≡◌, Bool}
use Rattle.std.proofs.Math.Path.{refl, ap}
use Rattle.std.proofs.Common.{◌∙◌}
use mathlib.Core.List.{List, [], ◌∷◌, ◌++◌}
use Prim.Native.Nat.{ℕ, zero, suc, ◌+◌, ◌≤◌, ◌<◌}
use Rattle.std.proofs.Math.Nat.{add_comm, zero-add}
use Rattle.std.proofs.Math.Decide.{le_ind}
use native.Mathlib.Omega.{arith}
use Rattle.std.proofs.Math.ListN.{length, length-append}
use Rattle.model.specs.Calls.{any, keep, free, held, Rounds, round, rounds}
use Rattle.theory_order.specs.Lists.{length-parts}

module _ (calls : ℕ → ℕ → Bool) where
  pub length-round : (ws : List ℕ) → length (free calls ws) + length (held calls ws) ≡ length ws
  unfolding free held
  length-round ws = add_comm _ _ ∙ length-parts (λ i. any ws (calls i)) ws

  pub no_round : (ws : List ℕ) → rounds calls zero ws ≡ record { placed = []; left = ws }
  unfolding rounds
  no_round ws = refl

  -- a round that places none is the last
  pub last-round : (f : ℕ) (ws : List ℕ) → free calls ws ≡ [] → rounds calls f ws ≡ record { placed = []; left = ws }
  unfolding rounds round
  last-round zero ws e = refl
  last-round (suc f) ws e = rw e

  pub some_round : (f : ℕ) (ws : List ℕ) → 0 < length (free calls ws)
      → rounds calls (suc f) ws ≡ record { placed = free calls ws ++ (rounds calls f (held calls ws)).placed; left = (rounds calls f (held calls ws)).left }
  unfolding rounds round
  some_round f ws h = go (free calls ws) h
    where
      go : (l : List ℕ) → 0 < length l
          → round l ws (rounds calls f (held calls ws)) ≡ record { placed = l ++ (rounds calls f (held calls ws)).placed; left = (rounds calls f (held calls ws)).left }
      go [] h = absurd (omega arith)
      go (i ∷ is) h = refl

  more : (f : ℕ) (ws : List ℕ) → length ws ≤ f → rounds calls (suc f) ws ≡ rounds calls f ws
  unfolding rounds round free keep
  more zero [] h = refl
  more zero (i ∷ is) h = absurd (omega arith)
  more (suc f) ws h = go (free calls ws) refl (λ l. more f (held calls ws) l)
    where
      go : (l : List ℕ) → free calls ws ≡ l → (length (held calls ws) ≤ f → rounds calls (suc f) (held calls ws) ≡ rounds calls f (held calls ws))
          → round l ws (rounds calls (suc f) (held calls ws)) ≡ round l ws (rounds calls f (held calls ws))
      go [] e ih = refl
      go (i ∷ is) e ih =
          let n : length (free calls ws) ≡ suc (length is) = ap length e in
          let p = length-round ws in
          ap (λ (r : Rounds). round (i ∷ is) ws r) (ih (omega arith))

  pub enough : (f : ℕ) (ws : List ℕ) → length ws ≤ f → rounds calls f ws ≡ rounds calls (length ws) ws
  enough f ws h = le_ind (λ (m : ℕ). rounds calls m ws ≡ rounds calls (length ws) ws) refl (λ m k e. more m ws k ∙ e) f h

  -- all the rounds of those that wait
  unfoldable pub all : List ℕ → Rounds
  all ws = rounds calls (length ws) ws

  pub all-last : (ws : List ℕ) → free calls ws ≡ [] → all ws ≡ record { placed = []; left = ws }
  unfolding all
  all-last ws e = last-round (length ws) ws e

  pub all_some : (ws : List ℕ) → 0 < length (free calls ws)
      → all ws ≡ record { placed = free calls ws ++ (all (held calls ws)).placed; left = (all (held calls ws)).left }
  unfolding all
  all_some ws h = go (length ws) refl
    where
      go : (m : ℕ) → length ws ≡ m → rounds calls m ws ≡ record { placed = free calls ws ++ (all (held calls ws)).placed; left = (all (held calls ws)).left }
      go zero e = absurd (omega (arith, length-round ws))
      go (suc m) e =
          let p = length-round ws in
          let r : rounds calls m (held calls ws) ≡ all (held calls ws) = enough m (held calls ws) (omega arith) in
          some_round m ws h ∙ ap (λ (x : Rounds). record { placed = free calls ws ++ x.placed; left = x.left }) r

  -- each that waits is placed or left
  pub length-rounds : (f : ℕ) (ws : List ℕ) → length (rounds calls f ws).placed + length (rounds calls f ws).left ≡ length ws
  unfolding rounds round
  length-rounds zero ws = zero-add (length ws)
  length-rounds (suc f) ws = go (free calls ws) refl (length-rounds f (held calls ws))
    where
      go : (l : List ℕ) → free calls ws ≡ l
          → length (rounds calls f (held calls ws)).placed + length (rounds calls f (held calls ws)).left ≡ length (held calls ws)
          → length (round l ws (rounds calls f (held calls ws))).placed + length (round l ws (rounds calls f (held calls ws))).left ≡ length ws
      go [] e ih = zero-add (length ws)
      go (i ∷ is) e ih =
          let n : length (free calls ws) ≡ suc (length is) = ap length e in
          let p = length-round ws in
          let q = length-append is (rounds calls f (held calls ws)).placed in
          omega arith
