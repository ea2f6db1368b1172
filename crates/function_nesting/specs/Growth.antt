-- THE IMPORT BY PASSES ONLY ADDS, in words and in records, whatever the source: where a callee that is followed only adds, so does a function that is imported; hence calls followed to any depth do. A function that is appended adds its words, and one for its place.
use Prim.Native.Nat.{ℕ, zero, suc, ◌+◌}
use Rattle.std.specs.Prelude.{◌≡◌, List, [], ◌∷◌}
use Rattle.std.proofs.Math.Path.{ap}
use Rattle.std.proofs.Common.{le_refl, length-append}
use native.Mathlib.Omega.{arith}
use Rattle.std.proofs.Math.ListN.{length}
use Rattle.theory_lists.specs.Lists.{map-append}
use Rattle.model.specs.Outcome.{Cells}
use Rattle.model.specs.Tree.{Function, flat, flat_block}
use Rattle.model.specs.Module.{Module}
use Rattle.model.specs.Tables.{tables}
use Rattle.model.specs.Redirect.{function as function_at}
use Rattle.model.specs.Imports.{Derived}
use Rattle.model.specs.Bodies.{known, Builder, bring, append_expr, intern_expr, appended}
use Rattle.theory_bodies.specs.Context.{once_is}
use Rattle.theory_passes.specs.Pass.{front, begin}
use Rattle.theory_passes.proofs.Growth.{Growing, grow_names}
use Rattle.theory_passes.specs.Light.{still}
use Rattle.theory_passes.proofs.Light.{still_grow_front, still_grow_body}
use Rattle.derive_state.specs.Flats.{function_of}
use Rattle.derive_state.specs.Held.{words_of}
use Rattle.derive_state.proofs.State.{size_r-append}
use Rattle.derive_imports.proofs.Growth.{Grow, stay, then, grow_T}
use Rattle.function_nesting.specs.Nested.{declared_s, walked_s, kept_s, final_s, cells_s, append_s, follow_s}

-- ---- one function more
pub appended_words : (f : Function) (s : Derived) → words_of (appended f s) ≡ words_of s + suc (length (flat f))
unfolding appended words_of
appended_words f s = rw (map-append flat s.functions (f ∷ []), size_r-append) (omega arith)

pub appended_grows : (f : Function) (s : Derived) → Grow s (appended f s)
unfolding appended
appended_grows f s = record { size = omega (arith, appended_words f s); rows = λ t. le_refl _; functions = omega (arith, length-append s.functions (f ∷ [])); pairs = le_refl _ }

module _ (o : ℕ) (M : Module) where
  abbrev Adds : Builder → Builder → Type 0
  Adds m m' = Grow m.out m'.out

  adding : (follow : ℕ → Derived → Derived) (xs : List Cells) → ((n : ℕ) (s : Derived) → Grow s (follow n s)) → Growing o M follow xs Adds
  unfolding bring append_expr intern_expr
  adding follow xs calls = record {
    same = λ m. stay m.out;
    next = λ a b c p q. then p q;
    tables = λ t n m. grow_T o (tables M) t n m.out;
    functions = λ f m. calls f m.out;
    appends = λ e m. stay m.out;
    merges = λ e m. stay m.out;
  }

  -- ---- a function, and import_function
  module _ (follow : ℕ → Derived → Derived) (calls : (n : ℕ) (s : Derived) → Grow s (follow n s)) where
    pub declared_grows : (F : Function) (s : Derived) → Grow s (declared_s o M follow F s).out
    unfolding declared_s begin
    declared_grows F s = still_grow_front o M still F.exprs Adds (adding still F.exprs (λ n r. stay r)) (front F) (begin F s)

    pub walked_grows : (F : Function) (s : Derived) → Grow s (walked_s o M follow F s).out
    unfolding walked_s
    walked_grows F s = then (declared_grows F s) (still_grow_body o M follow F.exprs Adds (adding follow F.exprs calls) (flat_block F.body) (declared_s o M follow F s))

    pub final_grows : (F : Function) (s : Derived) → Grow s (final_s o M follow F s).out
    unfolding final_s
    final_grows F s = then (walked_grows F s) (grow_names o M still F.exprs Adds (adding still F.exprs (λ n r. stay r)) (kept_s o M follow F s) (walked_s o M follow F s))

    pub append_grows : (n : ℕ) (s : Derived) → Grow s (append_s o M follow n s)
    unfolding append_s
    append_grows n s = then (final_grows (function_at M n) s) (appended_grows _ _)

  -- where its record can be read back, that is what is added
  pub append_words : (follow : ℕ → Derived → Derived) (n : ℕ) (s : Derived) → flat (function_of (cells_s o M follow (function_at M n) s)) ≡ cells_s o M follow (function_at M n) s
      → words_of (append_s o M follow n s) ≡ words_of (final_s o M follow (function_at M n) s).out + suc (length (cells_s o M follow (function_at M n) s))
  unfolding append_s
  append_words follow n s e =
      let a = appended_words (function_of (cells_s o M follow (function_at M n) s)) (final_s o M follow (function_at M n) s).out in
      let b = ap (λ (cs : Cells). length cs) e in
      omega arith

  -- ---- A CALL FOLLOWED, with any room
  pub follow_grows : (k n : ℕ) (s : Derived) → Grow s (follow_s o M k n s)
  unfolding follow_s
  follow_grows zero n s = stay s
  follow_grows (suc k) n s = once_is (Grow s) (known M s n) _ s (λ z. append_grows (follow_s o M k) (λ n r. follow_grows k n r) n s) (λ z. stay s)

  -- so all of it, as `follow_s` is what follows calls
  pub nested_final_grows : (k : ℕ) (F : Function) (s : Derived) → Grow s (final_s o M (follow_s o M k) F s).out
  nested_final_grows k = final_grows (follow_s o M k) (follow_grows k)

  pub nested_append_grows : (k n : ℕ) (s : Derived) → Grow s (append_s o M (follow_s o M k) n s)
  nested_append_grows k = append_grows (follow_s o M k) (follow_grows k)
