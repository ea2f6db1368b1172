-- The tests in sequence.
use mathlib.Core.Path.{◌≡◌, refl, sym, ap, ◌∙◌}
use mathlib.Core.Bool.{Bool, true, false}
use mathlib.Core.List.{List, ◌∷◌}
use Prim.Native.Nat.{ℕ, ◌<◌}
use native.Mathlib.Omega.{arith}
use lib.ListN.{length}
use Rattle.model.specs.Module.{Module, count_at}
use Rattle.model.specs.Taped.{Taped}
use Rattle.model.specs.Redirect.{all_below, with_replacement, with_original, redirect_function}
use Rattle.theory_image.specs.Views.{sees_names}
use Rattle.theory_image.specs.FunctionViews.{taped_count}
use Rattle.model.specs.Image.{redirect_ended}
use Rattle.redirect_words.specs.Passes.{found_at, shown, both_or, Finds, Compares, Tests}
use Rattle.std.specs.Prelude.{Result, Ok, Err, Some, None, Option}
use Rattle.std.specs.Option.{ok_or}
use Rattle.base_refusals.specs.declared.Refusal.{Refusal}
use Rattle.base_refusals.specs.declared.Refusal.TheVariants.{NumberGiven, OriginalNotFound, ReplacementNotFound}
use Rattle.base_views.specs.declared.Image.{Image}
use Rattle.base_views.proofs.LaidOut.{tape}
use Rattle.redirect_words.specs.declared.Request.{Request}
use Rattle.redirect_calls.proofs.Places.{many}
use Rattle.redirect_words.proofs.Finding.{find_in}
use Rattle.base_handles.specs.declared.FunctionHandle.{FunctionHandle}

names_many : {words tags : List ℕ} {n : ℕ} {m : Module} → Taped words tags n m → count_at 0 words ≡ length m.names
names_many {m} t = taped_count t 0 (omega arith) ∙ (sees_names m refl).count

-- the numbers given are compared with the count of names
pub names_told : (words l : List ℕ) (r : Bool) (x : ℕ) → r ≡ all_below l x → x ≡ count_at 0 words → r ≡ all_below l (count_at 0 words)
names_told words l r x is e = is ∙ ap (all_below l) e

-- a name that is not found is refused
pub not_found : (f : Option FunctionHandle) (e y : Refusal) (r : Result FunctionHandle Refusal) → r ≡ ok_or f e → r ≡ Err y → (f ≡ None) × (y ≡ e)
not_found None e y r is q = (refl, cc)
not_found (Some a) e y r is q = absurd (cc)

-- a function that was found is in the table
pub found_in : (image : Image) (name : ℕ) (f : Option FunctionHandle) (a : FunctionHandle) → f ≡ Some a → Finds f image name → a.0 < count_at 6 image.words.now
unfolding found_at
found_in image name f a e s = let h = tape image in omega (arith, find_in h.holds.functions 0 name a.0 (sym (s.same h.holds h.taped) ∙ ap found_at e), many h.taped)

-- the numbers of names that a request gives
abbrev numbers_of : Request → List ℕ
numbers_of q = q.original ∷ q.replacement ∷ q.omit.now

module _ (image : Image) (q : Request) (r : Bool) (is : r ≡ all_below (numbers_of q) (count_at 0 image.words.now)) where
  below : (m : Module) → Taped image.words.now image.tags.now image.n m → all_below (numbers_of q) (length m.names) ≡ r
  below m t = sym (is ∙ ap (all_below (numbers_of q)) (names_many t))

  pub test-outside : r ≡ false → Tests (Err NumberGiven) image q
  unfolding redirect_function shown redirect_ended
  test-outside e = record { same = λ m t. rw (redirect_function, below m t ∙ e) }

  module _ (e : r ≡ true) (f : Option FunctionHandle) (s : Finds f image q.original) where
    pub test_original : f ≡ None → Tests (Err OriginalNotFound) image q
    unfolding redirect_function with_original shown redirect_ended found_at
    test_original z = record { same = λ m t. rw (redirect_function, below m t ∙ e, sym (s.same m t) ∙ ap found_at z) }

    module _ (a : FunctionHandle) (z : f ≡ Some a) (g : Option FunctionHandle) (u : Finds g image q.replacement) where
      pub test_replacement : g ≡ None → Tests (Err ReplacementNotFound) image q
      unfolding redirect_function with_original with_replacement shown redirect_ended found_at
      test_replacement y = record { same = λ m t. rw (redirect_function, below m t ∙ e, sym (s.same m t) ∙ ap found_at z, with_replacement, sym (u.same m t) ∙ ap found_at y) }

      module _ (b : FunctionHandle) (y : g ≡ Some b) where
        pub test_differ : (x : Refusal) → Compares (Err x) image a b → Tests (Err x) image q
        unfolding redirect_function with_original with_replacement shown both_or found_at
        test_differ x d = record { same = λ m t. rw (redirect_function, below m t ∙ e, sym (s.same m t) ∙ ap found_at z, with_replacement, sym (u.same m t) ∙ ap found_at y) (d.same m t q.omit.now) }

        pub test_agree : (x : Unit {0}) → Compares (Ok x) image a b → Tests (Ok (a, b)) image q
        unfolding redirect_function with_original with_replacement shown both_or found_at
        test_agree x d = record { same = λ m t. rw (redirect_function, below m t ∙ e, sym (s.same m t) ∙ ap found_at z, with_replacement, sym (u.same m t) ∙ ap found_at y) (d.same m t q.omit.now) }
