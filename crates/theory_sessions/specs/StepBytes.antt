-- EVERY IMAGE THAT A STEP OF AN EXPORTED SESSION WRITES, in the bytes of the output: where the step says, and as many bytes as it answers, the output holds an image that is read back as the module that was derived, and intake accepts it, but for 5 where a function's name stands twice. The sources are bytes; nothing else is assumed.
use Rattle.std.proofs.Math.Path.{◌≡◌}
use Rattle.std.specs.Prelude.{true, false, ◌⊎◌, List, [], ◌∷◌, ℕ, length}
use Rattle.std.proofs.lemmas.List.Edits.{sets}
use Rattle.base_words.specs.Words.{words_of, bytes_of}
use Rattle.model.specs.Outcome.{laid}
use Rattle.model.specs.Module.{Module, read, write}
use Rattle.model.specs.Names.{distinct, function_names}
use Rattle.model.specs.Scope.{in_scope}
use Rattle.model.specs.Intake.{intake_of}
use Rattle.model.specs.Steps.{functions, Said, part}

-- ---- THE STATEMENT
-- the n bytes of `out` from `at` on are an image that holds m
pub record ImageAt (out : List ℕ) (at n : ℕ) (m : Module) : Type 0 where
  pub counted : length (part at n out) ≡ n
  pub bytes : part at n out ≡ bytes_of (write m)
  pub reads : read (words_of (part at n out)) ≡ laid m
  -- intake accepts it, or refuses it by 5 where two functions have one name, and only there
  pub intake : intake_of n (words_of (part at n out)) ≡ elim (distinct (function_names m.functions)) [ true ↦ 0 | false ↦ 5 ]
  -- test 6, which 5 comes before, is passed then too
  pub scope : in_scope m ≡ true

-- what a step leaves in the output `out`: nothing of it, or the image that it tells the bytes of
pub record Leaves (out : List ℕ) (x : Said) : Type 0 where
  pub image : (x.written ≡ []) ⊎ ((m : Module) × ImageAt out x.at x.first m)

-- each step, in the output as it is right after it; a later step may write over what an earlier one wrote
pub data AllLeave : List Said → List ℕ → Type 0 where
  none_left : {out : List ℕ} → AllLeave [] out
  next_left : {x : Said} {xs : List Said} {out : List ℕ} → Leaves (sets out x.at (bytes_of x.written)) x → AllLeave xs (sets out x.at (bytes_of x.written)) → AllLeave (x ∷ xs) out
