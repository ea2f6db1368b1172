-- THE LEVELS of an expression's import do not matter once they are more than its number, since operands are lower: so the import of an expression satisfies the equation that a reader expects (`import_is`), whichever way it ends.
use Prim.Native.Nat.{ℕ, zero, suc, ◌<◌}
use Rattle.std.specs.Prelude.{◌≡◌, length, get_or}
use Rattle.std.proofs.Math.Path.{refl, ap}
use Rattle.std.proofs.Common.{arith}
use mathlib.Core.List.{List, [], ◌∷◌}
use Rattle.model.specs.Outcome.{Cells}
use Rattle.model.specs.Module.{Module}
use Rattle.model.specs.References.{Place, table, own, function, Node, refs, fold_refs}
use Rattle.model.specs.Imports.{Derived, unless_mapped}
use Rattle.model.specs.Bodies.{Builder, step, append_expr, intern_expr, append_standing, import_e, import_body, import_initialiser, import_standing}
use Rattle.theory_records.specs.RecordLaws.{All as AllN}
use Rattle.theory_bodies.specs.Context.{OwnP, Own, once_cong}

-- operands have lower numbers
abbrev pub Lower : List Cells → Type 0
Lower xs = (e : ℕ) → e < length xs → AllN (Own (λ x. x < e)) (refs (get_or xs e []))

module _ (o : ℕ) (M : Module) (follow : ℕ → Derived → Derived) (xs : List Cells) (lower : Lower xs) where
  step_same : (b : ℕ) (h h' : ℕ → Builder → Builder) → ((x : ℕ) (st : Builder) → x < b → h x st ≡ h' x st) → (p : Place) (n : ℕ) (st : Builder) → OwnP (λ x. x < b) p n → step o M follow h p n st ≡ step o M follow h' p n st
  unfolding step OwnP
  step_same b h h' f (table t) n st l = refl
  step_same b h h' f own n st l = f n st l
  step_same b h h' f function n st l = refl

  each_same : (b : ℕ) (h h' : ℕ → Builder → Builder) → ((x : ℕ) (st : Builder) → x < b → h x st ≡ h' x st) → (js : List Node) (st : Builder) → AllN (Own (λ x. x < b)) js → fold_refs js (step o M follow h) st ≡ fold_refs js (step o M follow h') st
  unfolding fold_refs
  each_same b h h' f [] st l = refl
  each_same b h h' f (j ∷ js) st l = rw (step_same b h h' f j.place j.num st l.0) (each_same b h h' f js (step o M follow h' j.place j.num st) l.1)

  module _ (ending : ℕ → Builder → Builder) where
    pub levels-same : (f g e : ℕ) (st : Builder) → e < f → e < g → e < length xs → import_e o M follow xs ending f e st ≡ import_e o M follow xs ending g e st
    unfolding import_e
    levels-same zero g e st a b l = absurd (omega arith)
    levels-same (suc f) zero e st a b l = absurd (omega arith)
    levels-same (suc f) (suc g) e st a b l =
        once_cong (get_or st.memo e 0) _ _ st (λ z. ap (ending e) (each_same e (import_e o M follow xs ending f) (import_e o M follow xs ending g) (λ x s h. levels-same f g x s (omega arith) (omega arith) (omega arith)) (refs (get_or xs e [])) st (lower e l)))

    -- THE EQUATION, with the levels that all imports of expressions have
    import_is : (e : ℕ) (st : Builder) → e < length xs → import_e o M follow xs ending (length xs) e st ≡ unless_mapped (get_or st.memo e 0) (λ z. ending e (fold_refs (refs (get_or xs e [])) (step o M follow (import_e o M follow xs ending (length xs))) st)) st
    unfolding import_e
    import_is e st l = levels-same (length xs) (suc (length xs)) e st l (omega arith) l

  -- in a body, of initialisers, and in an Emit's first pass
  pub plain_is : (e : ℕ) (st : Builder) → e < length xs → import_body o M follow xs e st ≡ unless_mapped (get_or st.memo e 0) (λ z. append_expr o M follow xs e (fold_refs (refs (get_or xs e [])) (step o M follow (import_body o M follow xs)) st)) st
  unfolding import_body
  plain_is = import_is (append_expr o M follow xs)

  pub unique_is : (e : ℕ) (st : Builder) → e < length xs → import_initialiser o M follow xs e st ≡ unless_mapped (get_or st.memo e 0) (λ z. intern_expr o M follow xs e (fold_refs (refs (get_or xs e [])) (step o M follow (import_initialiser o M follow xs)) st)) st
  unfolding import_initialiser
  unique_is = import_is (intern_expr o M follow xs)

  pub quiet_is : (e : ℕ) (st : Builder) → e < length xs → import_standing o M follow xs e st ≡ unless_mapped (get_or st.memo e 0) (λ z. append_standing o M follow xs e (fold_refs (refs (get_or xs e [])) (step o M follow (import_standing o M follow xs)) st)) st
  unfolding import_standing
  quiet_is = import_is (append_standing o M follow xs)
