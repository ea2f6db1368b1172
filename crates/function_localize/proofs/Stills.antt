-- A word that names no function: the pass is the same, however calls are followed.
use mathlib.Core.Path.{◌≡◌, refl, sym, ap, ◌∙◌}
use mathlib.Core.Logic.{⊎_elim}
use mathlib.Core.Bool.{Bool, true, false}
use mathlib.Core.List.{List, [], ◌∷◌}
use Prim.Native.Nat.{ℕ, suc, ◌≤◌, ◌<◌}
use lib.Dec.{eqb, ltb}
use lib.ListN.{length, get_or}
use borrow.Author.Tests.{ltb-true, ltb-false}
use Rattle.model.specs.Outcome.{Cells}
use Rattle.model.specs.Table.{EXPR, FROM, TO, STMT_KIND, CALLEE}
use Rattle.model.specs.Tree.{Function}
use Rattle.model.specs.Module.{Module}
use Rattle.model.specs.Between.{between}
use Rattle.model.specs.References.{target, through, first_word, moved}
use Rattle.model.specs.Imports.{Derived}
use Rattle.model.specs.Bodies.{Builder, mapped_to}
use Rattle.theory_bodies.specs.Shallow.{need, glance}
use Rattle.theory_passes.specs.Pass.{arrive, first, both, early, passed, word_of}
use Rattle.theory_passes.specs.Light.{still}
use Rattle.derive_state.specs.Refers.{target_of}
use Rattle.derive_state.specs.Source.{mod_of, refers_to}
use Rattle.derive_state.specs.Held.{ValidArrays}
use Rattle.derive_state.specs.Sizes.{Sizes}
use Rattle.derive_state.proofs.State.{same_or}
use Rattle.function_outside.proofs.Cells.{arrive_own, arrive_none, arrive-other, arrive-still}
use Rattle.function_parts.specs.Part.{Part, Indexed}
use Rattle.function_parts.specs.Exprs.{exprs_are}
use Rattle.function_parts.specs.Body.{callee-class}
use Rattle.function_words.specs.Runs.{needs, glances, Runs}
use Rattle.function_words.proofs.Running.{runs_as}

module _ (o : ℕ) (M : Module) (follow : ℕ → Derived → Derived) (p q : ℕ → Builder → Builder) (s w : ℕ) (no : target_of (target s) ≡ 7 → ⊥) where
  arrive-alike : (m : Builder) → arrive o M follow p q (target s) w m ≡ arrive o M still p q (target s) w m
  arrive-alike m = go (ltb s EXPR) refl
    where
      go : (b : Bool) → ltb s EXPR ≡ b → arrive o M follow p q (target s) w m ≡ arrive o M still p q (target s) w m
      go true l = let h = ltb-true s EXPR l in arrive-other o M follow p q s w m h no ∙ sym (arrive-still o M p q s w m h)
      go false l =
          let h = ltb-false s EXPR l in
          ⊎_elim
          (λ (t : refers_to (target s) w ≡ 5). arrive_own o M follow p q s w m h t ∙ sym (arrive_own o M still p q s w m h t))
          (λ (t : refers_to (target s) w ≡ 5 → ⊥). arrive_none o M follow p q s w m h t ∙ sym (arrive_none o M still p q s w m h t))
          (same_or (refers_to (target s) w) 5)

  passed-alike : (cs : Cells) (m : Builder) → passed o M follow p q (s, w) cs m ≡ passed o M still p q (s, w) cs m
  unfolding passed both first early
  passed-alike cs m = ap (λ (x : Builder). let y : Builder = elim (eqb s FROM) [ true ↦ both o M follow p q w (first_word cs) m | false ↦ elim (eqb s STMT_KIND) [ true ↦ early o M follow p q w cs m | false ↦ x ] ] in y) (arrive-alike m)

  word-alike : (cs : Cells) (u : Bool) (m : Builder) → word_of o M follow p q (s, w) cs u m ≡ word_of o M still p q (s, w) cs u m
  unfolding word_of first
  word-alike cs u m = ap (λ (x : Builder). let n : ℕ = elim (eqb s FROM) [ true ↦ length (first o M follow p q w (first_word cs) m).made | false ↦ elim (eqb s TO) [ true ↦ length m.made | false ↦ moved (target s) (through (mapped_to M x) s w) o u ] ] in n) (passed-alike cs m)

-- word i of a body that is no Call's, as `import_word` writes it
module _ {words tags : List ℕ} {n s end : ℕ} {F : Function} (p : Part words tags n s end F) {ea : ℕ} {places : List ℕ} {k named body : ℕ} (x : Indexed words tags s end ea places k named body) (o : ℕ) (follow : ℕ → Derived → Derived) (i : ℕ) (low : body ≤ i) (high : i < end) (no : get_or tags i 0 ≡ CALLEE → ⊥) (u : Bool) where
  pub passed_runs : {log₀ logtags₀ : List ℕ} {starts₀ maps₀ : List (List ℕ)} {buckets₀ exprmap₀ : List ℕ} {stacks₀ : List (List ℕ)} {e₁ : ℕ} {e r : Sizes} {log logtags : List ℕ} {starts maps : List (List ℕ)} {buckets exprmap : List ℕ} {stacks : List (List ℕ)} → ValidArrays log₀ logtags₀ starts₀ maps₀ buckets₀ e
      → Runs words k (passed o (mod_of words n) still (needs o words tags n places k) (glances o words tags n places k) (get_or tags i 0, get_or words i 0) (between tags words (suc i) end)) (λ (m : Builder). word_of o (mod_of words n) still (needs o words tags n places k) (glances o words tags n places k) (get_or tags i 0, get_or words i 0) (between tags words (suc i) end) u m ∷ []) log₀ logtags₀ starts₀ maps₀ buckets₀ exprmap₀ stacks₀ e₁ e r log logtags starts maps buckets exprmap stacks
      → Runs words k (passed o (mod_of words n) follow (need o (mod_of words n) still F.exprs) (glance o (mod_of words n) still F.exprs) (get_or tags i 0, get_or words i 0) (between tags words (suc i) end)) (λ (m : Builder). word_of o (mod_of words n) follow (need o (mod_of words n) still F.exprs) (glance o (mod_of words n) still F.exprs) (get_or tags i 0, get_or words i 0) (between tags words (suc i) end) u m ∷ []) log₀ logtags₀ starts₀ maps₀ buckets₀ exprmap₀ stacks₀ e₁ e r log logtags starts maps buckets exprmap stacks
  passed_runs K₀ R =
      rw (exprs_are p x)
      (runs_as K₀ R
      (λ m. passed-alike o (mod_of words n) follow (needs o words tags n places k) (glances o words tags n places k) (get_or tags i 0) (get_or words i 0) free (between tags words (suc i) end) m)
      (λ m. ap (◌∷ []) (word-alike o (mod_of words n) follow (needs o words tags n places k) (glances o words tags n places k) (get_or tags i 0) (get_or words i 0) free (between tags words (suc i) end) u m)))
    where
      free : target_of (target (get_or tags i 0)) ≡ 7 → ⊥
      free h = no (callee-class p x i low high h)
