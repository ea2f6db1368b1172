-- A Call: its callee is followed above what is on the stacks, then its word is pushed. That is what the pass does at its word.
use mathlib.Core.Path.{◌≡◌, refl, sym, ap, ◌∙◌}
use mathlib.Core.Bool.{Bool, false, false≢true}
use mathlib.Core.List.{List, [], ◌∷◌}
use Prim.Native.Nat.{ℕ}
use native.Mathlib.Omega.{arith}
use lib.Seq.{slice, slice_empty}
use Rattle.theory_lists.specs.Lists.{take_less}
use Rattle.model.specs.Outcome.{Cells}
use Rattle.model.specs.Table.{CALLEE}
use Rattle.model.specs.References.{target, targets, carry_w, through, moved}
use Rattle.model.specs.Imports.{Derived}
use Rattle.model.specs.Bodies.{known, Builder, bring, mapped_to, step}
use Rattle.theory_passes.specs.Pass.{arrive, passed, word_of}
use Rattle.derive_state.specs.Source.{mod_of}
use Rattle.derive_state.specs.Held.{row, st_of, ValidArrays}
use Rattle.derive_state.specs.Sizes.{Sizes}
use Rattle.function_builder.specs.Stacks.{went_of, made_of, making_of, Under}
use Rattle.function_builder.specs.Makes.{Pushed}
use Rattle.function_builder.proofs.Stack.{made_low, made-same, under_same}
use Rattle.function_builder.proofs.Then.{making_is}
use Rattle.function_words.specs.Runs.{Runs}
use Rattle.function_words.proofs.Running.{runs_push, runs_then}
use Rattle.function_localize.specs.Localized.{ImportFunctionEnsures}

module _ (words : List ℕ) (n k o e₁ : ℕ) (follow : ℕ → Derived → Derived) (p q : ℕ → Builder → Builder) (f : ℕ) (cs : Cells) (u : Bool) where
  -- the pass at its word
  pub called : (m : Builder) → passed o (mod_of words n) follow p q (CALLEE, f) cs m ≡ record { out = follow f m.out; memo = m.memo; made = m.made }
  unfolding passed arrive target targets step bring
  called m = refl

  abbrev P : Builder → Builder
  P = passed o (mod_of words n) follow p q (CALLEE, f) cs

  abbrev W : Builder → List ℕ
  W m = word_of o (mod_of words n) follow p q (CALLEE, f) cs u m ∷ []

  -- its word, by the builder after it
  abbrev behind : Builder → ℕ
  behind m = moved (target CALLEE) (through (mapped_to (mod_of words n) m) CALLEE f) o u

  word_is : (m : Builder) → W m ≡ behind (P m) ∷ []
  unfolding word_of
  word_is m = refl

  module _ (log₀ logtags₀ : List ℕ) (starts₀ maps₀ : List (List ℕ)) (buckets₀ exprmap : List ℕ) (stacks₀ : List (List ℕ)) (e₀ : Sizes) (U₀ : Under k exprmap stacks₀ e₁ e₀) (K₀ : ValidArrays log₀ logtags₀ starts₀ maps₀ buckets₀ e₀)
      (d : Sizes) (log logtags : List ℕ) (starts maps : List (List ℕ)) (buckets : List ℕ) (stacks : List (List ℕ)) (ready : Derived → Type 0) (N : ImportFunctionEnsures words ready (follow f) log₀ logtags₀ starts₀ maps₀ buckets₀ stacks₀ e₀ d log logtags starts maps buckets stacks) (z : d.full ≡ false) where
    abbrev m₀ : List ℕ → Builder
    m₀ special = making_of words k log₀ logtags₀ starts₀ maps₀ special e₀ exprmap stacks₀ e₁

    same-made : made_of stacks e₁ d ≡ made_of stacks₀ e₁ e₀
    same-made = made-same U₀ stacks d (N.deep z).expressions (N.tops z).0 (N.tops z).2

    call-under : Under k exprmap stacks e₁ d
    call-under = under_same U₀ stacks d (N.deep z).expressions (N.tops z).0 (N.tops z).2 (N.stacks_are z)

    call_is : (special : List ℕ) → P (m₀ special) ≡ making_of words k log logtags starts maps special d exprmap stacks e₁
    unfolding making_of
    call_is special = called (m₀ special) ∙ making_is (N.is z special) refl (sym same-made)

    -- the callee is there, and nothing is written
    call_runs : Runs words k P (λ m. []) log₀ logtags₀ starts₀ maps₀ buckets₀ exprmap stacks₀ e₁ e₀ d log logtags starts maps buckets exprmap stacks
    call_runs = record {
      over = λ y. absurd (false≢true (sym z ∙ y));
      is = λ y special. call_is special;
      wrote = λ y special. ap (λ (b : ℕ). slice e₀.bodytop b (row stacks 3)) (N.tops z).1 ∙ slice_empty e₀.bodytop (row stacks 3);
      kept = N.kept;
      under = λ y. call-under;
      along = N.along;
      more = N.more;
      deep = λ y. record { expressions = λ t h. take_less e₁ e₀.exprtop (row stacks t) (row stacks₀ t) (let a = made_low U₀ in omega arith) ((N.deep z).expressions t h); body = (N.deep z).body };
      below = N.below;
      log_long = N.log_long;
      tags_long = N.tags_long;
      marks_stay = N.marks_stay;
    }

    -- the word is pushed, or there is no room for it
    pub call-put : (r : Sizes) (stacks' : List (List ℕ)) → Pushed (moved (target CALLEE) (through (went_of words n log logtags starts maps d exprmap) CALLEE f) o u) stacks d r stacks'
        → Runs words k P W log₀ logtags₀ starts₀ maps₀ buckets₀ exprmap stacks₀ e₁ e₀ r log logtags starts maps buckets exprmap stacks'
    call-put r stacks' B = runs_then K₀ call_runs (λ m. m) (λ m. behind m ∷ []) (λ m. refl) word_is z (runs_push call-under B (N.kept z) behind by-maps)
      where
        by-maps : (special : List ℕ) → moved (target CALLEE) (through (went_of words n log logtags starts maps d exprmap) CALLEE f) o u ≡ behind (making_of words k log logtags starts maps special d exprmap stacks e₁)
        by-maps special = unfold through target targets carry_w mapped_to went_of making_of known st_of in refl
