-- What a round and the whole order do to the lists that the caller provides, in the words of the model.
use Rattle.std.specs.Prelude.{◌≡◌, Bool, List, ℕ, ◌+◌, ◌≤◌, length, take, drop, Result, Ok, Err}
use Rattle.std.proofs.lemmas.List.Edits.{sets}
use Rattle.model.specs.Calls.{free, held, rounds, order}
use Rattle.model.specs.Refusals.{Ended, done}
use Rattle.model.specs.Image.{order_ended}
use Rattle.base_refusals.specs.Numbers.{refused_by}
use Rattle.base_refusals.specs.declared.Refusal.{Refusal}
use Rattle.order_ranks.specs.Marks.{members, Below}

-- before a round: the marks of those that wait are below n, and there is room in `out` for all of them
pub record Placeable (n : ℕ) (waiting : List ℕ) (at : ℕ) : Type 0 where
  pub small : n ≤ 256
  pub long : length waiting ≡ 4
  pub low : Below n waiting
  pub room : at + length (members waiting) ≤ 256

-- a round: the free ones of those that wait are written to `out` from `at` on, up to `next`, and the others go on waiting, all below n
pub record Placed (calls : ℕ → ℕ → Bool) (n : ℕ) (waiting out : List ℕ) (at : ℕ) (waiting' out' : List ℕ) (next : ℕ) : Type 0 where
  pub long : length waiting' ≡ 4
  pub low : Below n waiting'
  pub kept : members waiting' ≡ held calls waiting
  pub written : out' ≡ sets out at (free calls waiting)
  pub ends : next ≡ at + length (free calls waiting)

-- what all rounds of those that wait leave, all below n; as many rounds as there are functions waiting are enough
pub record Leaves (calls : ℕ → ℕ → Bool) (n : ℕ) (waiting left : List ℕ) : Type 0 where
  pub long : length left ≡ 4
  pub low : Below n left
  pub is : (f : ℕ) → length waiting ≤ f → members left ≡ (rounds calls f waiting).left

-- how ordering ended, of the code's answer and the list that it wrote
unfoldable pub shown : Result (Unit {0}) Refusal → List ℕ → Ended (List ℕ)
shown (Ok _) placed = done placed
shown (Err e) placed = refused_by e

-- the answer and the first n words of `out` are the model's order of the n functions; the words from n on stay
pub record Orders (calls : ℕ → ℕ → Bool) (n : ℕ) (out : List ℕ) (answer : Result (Unit {0}) Refusal) (out' : List ℕ) : Type 0 where
  pub is : shown answer (take n out') ≡ order_ended (order n calls)
  pub rest : drop n out' ≡ drop n out
