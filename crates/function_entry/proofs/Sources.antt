-- A session with a source, between operations: what it hands to the import of functions, where 22 is not met.
use mathlib.Core.Path.{◌≡◌, refl, ◌∙◌}
use mathlib.Core.Bool.{true, false}
use mathlib.Core.List.{List, [], ◌∷◌}
use Prim.Native.Nat.{ℕ, ◌≤◌, ◌<◌}
use native.Mathlib.Omega.{arith}
use lib.ListN.{length, replicate}
use lib.Seq.{slice, sets}
use Rattle.model.specs.Module.{Module, count_at}
use Rattle.model.specs.Callees.{callees}
use Rattle.model.specs.Redirect.{function}
use Rattle.model.specs.Imports.{Derived}
use Rattle.model.specs.Bodies.{append, follow}
use Rattle.model.specs.Scope.{in_scope}
use Rattle.model.specs.Session.{Source, meets_ring}
use Rattle.theory_image.specs.FunctionViews.{taped_functions}
use Rattle.intake_initialisers.specs.Marks.{finds}
use Rattle.derive_limits.specs.Reached.{At}
use Rattle.derive_limits.proofs.Reached.{at_source}
use Rattle.function_nesting.specs.Nested.{append_s, follow_s, ReadyF, Ready}
use Rattle.function_nesting.specs.Theorems.{append_is, follow_is}
use Rattle.derive_state.specs.Source.{mod_of}
use Rattle.derive_state.specs.Held.{st_of}
use Rattle.derive_state.specs.Sizes.{Sizes}
use Rattle.function_references.specs.Fits.{Ground}
use Rattle.function_localize.specs.Localized.{NestedF, NestedAt}
use Rattle.derive_session.specs.Valid.{session_of, ValidSession}

-- no function in progress, no expression that has a place
pub no_places : (tags : List ℕ) → length tags ≡ 16384 → ((length tags ≡ 16384) × (0 ≤ 0) × (0 ≤ 16384) × (length (finds 0 (slice 0 0 tags)) ≤ 1025)) × (replicate 1025 0 ≡ sets (replicate 1025 0) 0 (finds 0 (slice 0 0 tags)))
unfolding finds
no_places tags h = ((h, omega arith, omega arith, omega arith), refl)

module _ (n o : ℕ) (words tags log logtags : List ℕ) (starts maps : List (List ℕ)) (buckets special : List ℕ) (e : Sizes) (L : ValidSession true n o words tags log logtags starts maps buckets special e) where
  abbrev m : Module
  m = mod_of words n

  abbrev x : Source
  x = record { image = mod_of words n; offset = o }

  abbrev s : Derived
  s = st_of words log logtags starts maps special e

  pub at : At x s
  unfolding session_of
  at = at_source L.reached x refl

  pub ground : Ground words tags n
  ground = record {
    source = record { taped = L.taped refl; three = (L.passes refl).numbers; four = (L.passes refl).lowers };
    names = (L.passes refl).names;
  }

  pub scope : in_scope (mod_of words n) ≡ true
  scope = (L.passes refl).scope

  pub functions_are : count_at 6 words ≡ length (mod_of words n).functions
  functions_are = taped_functions (L.taped refl)

  -- ---- function f, with room for as many in progress as there are
  module _ (f room : ℕ) (l : f < count_at 6 words) (k : room ≡ count_at 6 words) where
    low : f < length (mod_of words n).functions
    low = omega (arith, functions_are)

    all : room ≡ length (mod_of words n).functions
    all = k ∙ functions_are

    module _ (q : meets_ring (f ∷ callees (function (mod_of words n) f)) (mod_of words n) (st_of words log logtags starts maps special e) ≡ false) where
      pub ready-function : ReadyF o (mod_of words n) (Ready o (mod_of words n) room) (follow_s o (mod_of words n) room) (function (mod_of words n) f) (st_of words log logtags starts maps special e)
      ready-function = rw all (append_is x s at.set f low q).1

      pub nested-function : NestedF words n log logtags starts maps e o room (function (mod_of words n) f)
      nested-function = record { special = special; scopes = scope; ready = ready-function }

      pub append-same : append_s o (mod_of words n) (follow_s o (mod_of words n) room) f (st_of words log logtags starts maps special e) ≡ append o (mod_of words n) (follow o (mod_of words n)) f (st_of words log logtags starts maps special e)
      append-same = rw all (append_is x s at.set f low q).0

    module _ (q : meets_ring (f ∷ []) (mod_of words n) (st_of words log logtags starts maps special e) ≡ false) where
      pub ready_handle : Ready o (mod_of words n) room f (st_of words log logtags starts maps special e)
      ready_handle = rw all (follow_is x s at.set f low q).1

      pub nested_handle : NestedAt words n log logtags starts maps e o room f
      nested_handle = record { special = special; scopes = scope; ready = ready_handle }

      pub follow-same : follow_s o (mod_of words n) room f (st_of words log logtags starts maps special e) ≡ follow o (mod_of words n) f (st_of words log logtags starts maps special e)
      follow-same = rw all (follow_is x s at.set f low q).0
