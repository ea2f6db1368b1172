-- What the functions of this crate answer and do, in terms of the module that words and tags hold.
use Rattle.std.specs.Prelude.{◌≡◌, Bool, List, ℕ, Result, Ok, Err, Some, None, Option as Found}
use Rattle.std.proofs.Math.Option.{Option, none, some}
use Rattle.std.proofs.lemmas.List.Edits.{sets}
use Rattle.model.specs.Refusals.{Ended, done}
use Rattle.model.specs.Module.{Module, write}
use Rattle.model.specs.Taped.{Taped}
use Rattle.model.specs.Redirect.{find, argument_types, agree, result_type, same as sameType, Answer, after, function, compared, redirect_function}
use Rattle.model.specs.Image.{redirect_ended, redirect_after}
use Rattle.base_handles.specs.declared.FunctionHandle.{FunctionHandle}
use Rattle.base_views.specs.declared.Image.{Image}
use Rattle.base_refusals.specs.declared.Refusal.{Refusal}
use Rattle.base_refusals.specs.Numbers.{refused_by}
use Rattle.redirect_words.specs.declared.Request.{Request}

-- ---- answers
-- the number of a function that was found
unfoldable pub found_at : Found FunctionHandle → Option ℕ
found_at (Some f) = some f.0
found_at None = none

-- both functions, or why they are refused
abbrev pub Redirected : Type 0
Redirected = Result (FunctionHandle × FunctionHandle) Refusal

-- how the model's answer ends, without its module
unfoldable pub shown : Redirected → Ended (ℕ × ℕ)
shown (Ok p) = done (p.0.0, p.1.0)
shown (Err e) = refused_by e

-- how a test of functions a and b ends: with both, where it passes
unfoldable pub both_or : ℕ → ℕ → Result (Unit {0}) Refusal → Ended (ℕ × ℕ)
both_or a b (Ok u) = done (a, b)
both_or a b (Err e) = refused_by e

-- what the model answers of a module, as it is asked
abbrev pub asked : Module → Request → Answer
asked m q = redirect_function m q.original q.replacement q.omit.now

-- ---- tests
-- the function that is found is the one that the model finds
pub record Finds (r : Found FunctionHandle) (image : Image) (name : ℕ) : Type 0 where
  pub same : (m : Module) → Taped image.words.now image.tags.now image.n m → found_at r ≡ find m.functions 0 name

-- whether the argument types of two functions agree
pub record Agrees (r : Bool) (image : Image) (a b : FunctionHandle) : Type 0 where
  pub same : (m : Module) → Taped image.words.now image.tags.now image.n m → r ≡ agree (argument_types (function m a.0)) (argument_types (function m b.0))

-- whether they have the same result
pub record Returns (r : Bool) (image : Image) (a b : FunctionHandle) : Type 0 where
  pub same : (m : Module) → Taped image.words.now image.tags.now image.n m → r ≡ sameType (result_type (function m a.0)) (result_type (function m b.0))

-- how comparing them ends, whatever is omitted
pub record Compares (r : Result (Unit {0}) Refusal) (image : Image) (a b : FunctionHandle) : Type 0 where
  pub same : (m : Module) → Taped image.words.now image.tags.now image.n m → (omit : List ℕ) → both_or a.0 b.0 r ≡ redirect_ended (compared m a.0 b.0 omit)

-- how all tests end
pub record Tests (r : Redirected) (image : Image) (q : Request) : Type 0 where
  pub same : (m : Module) → Taped image.words.now image.tags.now image.n m → shown r ≡ redirect_ended (asked m q)

-- ---- the whole
-- the words from the first on are the module's that the answer leaves: the redirected one, or, where it is refused, the one that was there
pub record Redirects (r : Redirected) (words₁ words tags : List ℕ) (n : ℕ) (q : Request) : Type 0 where
  pub answer : (m : Module) → Taped words tags n m → shown r ≡ redirect_ended (asked m q)
  pub words_are : (m : Module) → Taped words tags n m → words₁ ≡ sets words 0 (write (after m (asked m q)))

-- and so are the bytes of the image
pub record Stores (r : Redirected) (image₁ image words tags : List ℕ) (n : ℕ) (q : Request) : Type 0 where
  pub answer : (m : Module) → Taped words tags n m → shown r ≡ redirect_ended (asked m q)
  pub bytes_are : (m : Module) → Taped words tags n m → image₁ ≡ redirect_after image (asked m q)
