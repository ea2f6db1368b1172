-- The callees of functions as they are in words and tags: the words of the class CALLEE between two places, and what marking them does.
use Rattle.std.specs.Prelude.{◌≡◌, true, cond, ◌&&◌, List, ℕ, ◌<◌, eqb, length, take, drop, Result}
use Rattle.std.proofs.Math.Seq.{slice}
use Rattle.model.specs.Module.{Module}
use Rattle.model.specs.View.{record_at, record_end}
use Rattle.model.specs.Taped.{Taped}
use Rattle.model.specs.Calls.{any}
use Rattle.model.specs.Callees.{calls, order_of, CalleesKnown}
use Rattle.model.specs.Image.{order_ended}
use Rattle.theory_order.specs.Cells.{picks}
use Rattle.order_ranks.specs.Marks.{marked}
use Rattle.order_ranks.specs.declared.FunctionSet.{FunctionSet}
use Rattle.order_ranks.specs.Placing.{shown}
use Rattle.base_refusals.specs.declared.Refusal.{Refusal}

-- ---- callees in words and tags
-- the words of the class CALLEE from one place to another
unfoldable pub picked : List ℕ → List ℕ → ℕ → ℕ → List ℕ
picked words tags at end = picks (slice at end tags) (slice at end words)

-- those of the record of table function i
unfoldable pub called_by : List ℕ → List ℕ → ℕ → List ℕ
called_by words tags i = picked words tags (record_at 6 i words) (record_end 6 i words)

-- ---- what the passes are given
-- what test 3 has shown of the callees, of the module that words and tags hold. A clause of two public functions, which five places call: each would wrap its image
-- for that call alone, `Calls { image }.order_of(out)` for `order_of(image, out)`. Test 3 itself, which a source's type says, is more than they ask.
abbrev pub Known : List ℕ → List ℕ → ℕ → Type 0
Known words tags n = (m : Module) → Taped words tags n m → CalleesKnown m

-- ---- what the passes do
-- function i calls these too, and all else stays
pub record Marks (before : List FunctionSet) (i : ℕ) (js : List ℕ) (after : List FunctionSet) : Type 0 where
  pub long : length after ≡ length before
  pub is : (k l : ℕ) → l < 256 → marked after k l ≡ cond (eqb k i && any js (λ j. eqb l j)) true (marked before k l)

-- every function calls what it calls in the module that words and tags hold, and nothing else
pub record Gathered (words tags : List ℕ) (n : ℕ) (callees : List FunctionSet) : Type 0 where
  pub long : length callees ≡ 256
  pub is : (m : Module) → Taped words tags n m → (i j : ℕ) → j < 256 → marked callees i j ≡ calls m i j

-- the answer, and as many of the first words of `out` as there are functions, are the module's order; the words after them stay
pub record Listed (words tags : List ℕ) (n : ℕ) (out : List ℕ) (answer : Result (Unit {0}) Refusal) (out' : List ℕ) : Type 0 where
  pub is : (m : Module) → Taped words tags n m → shown answer (take (length m.functions) out') ≡ order_ended (order_of m)
  pub rest : (m : Module) → Taped words tags n m → drop (length m.functions) out' ≡ drop (length m.functions) out
