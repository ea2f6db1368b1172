-- One word of a body, by its class: an Emit's range, a statement's kind, or a word that refers to something or is copied.
use mathlib.Core.Path.{◌≡◌, refl, sym, ap, ap₂, ◌∙◌}
use mathlib.Core.Bool.{Bool, true, false}
use mathlib.Core.List.{List, [], ◌∷◌}
use Prim.Native.Nat.{ℕ, suc, ◌+◌, ◌≤◌, ◌<◌}
use native.Mathlib.Nat.{le_refl}
use native.Mathlib.Numerals.{add-one}
use native.Mathlib.Omega.{arith}
use lib.ListN.{length, get_or}
use Rattle.model.specs.Outcome.{Cells}
use Rattle.model.specs.Table.{FROM, TO, STMT_KIND}
use Rattle.model.specs.Module.{Module}
use Rattle.model.specs.Between.{between}
use Rattle.model.specs.References.{target, ref_of, through, moved}
use Rattle.model.specs.Bodies.{Builder, mapped_to}
use Rattle.theory_records.specs.RecordLaws.{All}
use Rattle.theory_passes.specs.Pass.{arrive, first, both, early, passed, word_of}
use Rattle.theory_passes.specs.Light.{still}
use Rattle.derive_state.specs.Source.{mod_of}
use Rattle.derive_state.specs.Held.{ValidArrays}
use Rattle.derive_state.specs.Sizes.{Sizes}
use Rattle.function_references.specs.Fits.{FitN}
use Rattle.function_builder.specs.Stacks.{went_of, Under}
use Rattle.function_builder.specs.Makes.{Makes, Pushed}
use Rattle.function_words.specs.Runs.{Bodied, Runs}
use Rattle.function_words.proofs.Running.{runs_push, runs_as, runs_put, runs_stop, made-count}
use Rattle.function_runs.proofs.Firsts.{first_some}
use Rattle.function_words.proofs.Words.{passed_from, word_from, passed_to, word-to, passed-kind, word-kind, passed-plain, word-plain, through_is}

-- the words of an Emit's range
pub range_in : {words tags : List ℕ} {k i end : ℕ} → Bodied words tags k i end → i < end → get_or tags i 0 ≡ FROM → (i + 1 < end) × (end ≤ 16384)
range_in {i = i} B h e = let z = (B.ranges i (le_refl _) h e).0 in let y = B.legible.stretch.small in (omega arith, y)

pub range_low : {words tags : List ℕ} {k i end : ℕ} → Bodied words tags k i end → i < end → get_or tags i 0 ≡ FROM → (b : ℕ) → b ≡ get_or words (i + 1) 0 → b ≤ k
range_low {i = i} B h e b q = rw (q, add-one i) (B.ranges i (le_refl _) h e).1

module _ (words tags : List ℕ) (n k o : ℕ) (p q : ℕ → Builder → Builder) (i end : ℕ) (u : Bool) where
  abbrev M : Module
  M = mod_of words n

  abbrev s : ℕ
  s = get_or tags i 0

  abbrev w : ℕ
  w = get_or words i 0

  abbrev cs : Cells
  cs = between tags words (suc i) end

  abbrev F : Builder → Builder
  F = passed o M still p q (s, w) cs

  abbrev G : Builder → List ℕ
  G m = word_of o M still p q (s, w) cs u m ∷ []

  module _ {log₀ logtags₀ : List ℕ} {starts₀ maps₀ : List (List ℕ)} {buckets₀ : List ℕ} {e₀ : Sizes} (K₀ : ValidArrays log₀ logtags₀ starts₀ maps₀ buckets₀ e₀) where
    -- an Emit's start and end
    pub pass_from : Bodied words tags k i end → i < end → s ≡ FROM → {a b : ℕ} → a ≡ w → b ≡ get_or words (i + 1) 0
        → {exprmap₀ : List ℕ} {stacks₀ : List (List ℕ)} {e₁ : ℕ} {r : Sizes} {log logtags : List ℕ} {starts maps : List (List ℕ)} {buckets exprmap : List ℕ} {stacks : List (List ℕ)}
        → Runs words k (both o M still p q a b) (λ m. length (first o M still p q a b m).made ∷ []) log₀ logtags₀ starts₀ maps₀ buckets₀ exprmap₀ stacks₀ e₁ e₀ r log logtags starts maps buckets exprmap stacks
        → Runs words k F G log₀ logtags₀ starts₀ maps₀ buckets₀ exprmap₀ stacks₀ e₁ e₀ r log logtags starts maps buckets exprmap stacks
    pass_from B h e {a} {b} ha hb A =
        let S = B.legible.stretch in
        let f = first_some tags words i end (range_in B h e).0 S.in_tags S.in_words in
        runs_as K₀ A (λ m. passed_from o M p q s w cs m e ∙ ap₂ (λ (x y : ℕ). both o M still p q x y m) (sym ha) (sym (hb ∙ f)))
        (λ m. ap (◌∷ []) (word_from o M p q s w cs u m e ∙ ap₂ (λ (x y : ℕ). length (first o M still p q x y m).made) (sym ha) (sym (hb ∙ f))))

    pub pass-to : s ≡ TO → {exprmap₀ : List ℕ} {stacks₀ : List (List ℕ)} {e₁ : ℕ} → Under k exprmap₀ stacks₀ e₁ e₀ → {r : Sizes} {stacks : List (List ℕ)} → Pushed e₀.made stacks₀ e₀ r stacks
        → Runs words k F G log₀ logtags₀ starts₀ maps₀ buckets₀ exprmap₀ stacks₀ e₁ e₀ r log₀ logtags₀ starts₀ maps₀ buckets₀ exprmap₀ stacks
    pass-to e U P = runs_as K₀ (runs_push U P K₀ (λ m. length m.made) (made-count U words log₀ logtags₀ starts₀ maps₀)) (λ m. passed_to o M p q s w cs m e) (λ m. ap (◌∷ []) (word-to o M p q s w cs u m e))

    -- a statement's kind
    module _ (e : s ≡ STMT_KIND) {exprmap₀ : List ℕ} {stacks₀ : List (List ℕ)} {e₁ : ℕ} {r : Sizes} {log logtags : List ℕ} {starts maps : List (List ℕ)} {buckets exprmap : List ℕ} {stacks : List (List ℕ)} (A : Makes words k (early o M still p q w cs) log₀ logtags₀ starts₀ maps₀ buckets₀ exprmap₀ stacks₀ e₁ e₀ r log logtags starts maps buckets exprmap stacks) where
      pub kind_stop : r.full ≡ true → Runs words k F G log₀ logtags₀ starts₀ maps₀ buckets₀ exprmap₀ stacks₀ e₁ e₀ r log logtags starts maps buckets exprmap stacks
      kind_stop z = runs_as K₀ (runs_stop K₀ A (λ m. w) z) (λ m. passed-kind o M p q s w cs m e) (λ m. ap (◌∷ []) (word-kind o M p q s w cs u m e))

      pub kind-put : r.full ≡ false → {r' : Sizes} {stacks' : List (List ℕ)} → Pushed w stacks r r' stacks' → Runs words k F G log₀ logtags₀ starts₀ maps₀ buckets₀ exprmap₀ stacks₀ e₁ e₀ r' log logtags starts maps buckets exprmap stacks'
      kind-put z P = runs_as K₀ (runs_put K₀ A (λ m. w) z P (λ special. refl)) (λ m. passed-kind o M p q s w cs m e) (λ m. ap (◌∷ []) (word-kind o M p q s w cs u m e))

    -- every other class
    module _ (nf : s ≡ FROM → ⊥) (nt : s ≡ TO → ⊥) (nk : s ≡ STMT_KIND → ⊥) {exprmap₀ : List ℕ} {stacks₀ : List (List ℕ)} {e₁ : ℕ} {r : Sizes} {log logtags : List ℕ} {starts maps : List (List ℕ)} {buckets exprmap : List ℕ} {stacks : List (List ℕ)}
        (A : Makes words k (arrive o M still p q (target s) w) log₀ logtags₀ starts₀ maps₀ buckets₀ exprmap₀ stacks₀ e₁ e₀ r log logtags starts maps buckets exprmap stacks) where
      abbrev becomes : Builder → ℕ
      becomes m = moved (target s) (through (mapped_to M m) s w) o u

      pub plain_stop : r.full ≡ true → Runs words k F G log₀ logtags₀ starts₀ maps₀ buckets₀ exprmap₀ stacks₀ e₁ e₀ r log logtags starts maps buckets exprmap stacks
      plain_stop z = runs_as K₀ (runs_stop K₀ A becomes z) (λ m. passed-plain o M p q s w cs m nf nk) (λ m. ap (◌∷ []) (word-plain o M p q s w cs u m nf nt nk))

      pub plain-put : r.full ≡ false → All (FitN words k) (ref_of (target s) w []) → {r' : Sizes} {stacks' : List (List ℕ)} → Pushed (moved (target s) (through (went_of words n log logtags starts maps r exprmap) s w) o u) stacks r r' stacks'
          → Runs words k F G log₀ logtags₀ starts₀ maps₀ buckets₀ exprmap₀ stacks₀ e₁ e₀ r' log logtags starts maps buckets exprmap stacks'
      plain-put z fits P =
          runs_as K₀ (runs_put K₀ A becomes z P (λ special. ap (λ (x : ℕ). moved (target s) x o u) (through_is words n k log logtags starts maps special r exprmap stacks e₁ s w fits))) (λ m. passed-plain o M p q s w cs m nf nk)
          (λ m. ap (◌∷ []) (word-plain o M p q s w cs u m nf nt nk))
