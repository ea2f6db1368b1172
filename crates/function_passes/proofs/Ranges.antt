-- The expressions of a range, one at a turn: what those that are left make of the builder is what all of them make. And both passes of an Emit over a range.
use mathlib.Core.Path.{◌≡◌, refl, ◌∙◌}
use mathlib.Core.Bool.{true, false}
use mathlib.Core.List.{List, [], ◌∷◌}
use Prim.Native.Nat.{ℕ, ◌+◌, ◌≤◌, ◌<◌}
use native.Mathlib.Numerals.{add-one}
use lib.ListN.{length}
use Rattle.model.specs.Module.{Module}
use Rattle.model.specs.Scope.{in_range}
use Rattle.model.specs.Bodies.{Builder, each_e}
use Rattle.theory_passes.specs.Pass.{first, both}
use Rattle.theory_passes.specs.Cases.{range_end, range_next}
use Rattle.theory_passes.proofs.Growth.{grow_all, grow_need, grow_glance}
use Rattle.theory_passes.specs.Light.{still}
use Rattle.derive_state.specs.Source.{mod_of}
use Rattle.derive_state.specs.Held.{ValidArrays}
use Rattle.derive_state.specs.Sizes.{Sizes}
use Rattle.function_references.specs.Cuts.{exprs_of}
use Rattle.function_builder.specs.Stacks.{Under}
use Rattle.function_builder.specs.Makes.{Makes, Pushed}
use Rattle.function_builder.proofs.Growth.{GrowM, growing}
use Rattle.function_builder.proofs.Then.{makes_then, makes_full}
use Rattle.function_words.specs.Runs.{needs, glances, Runs}
use Rattle.function_words.proofs.Running.{runs_of, runs_then, runs_full, runs_put, made-count, makes_as, makes-idle}

abbrev ranged : ℕ → ℕ → (ℕ → Builder → Builder) → Builder → Builder
ranged a b h = each_e (in_range (record { from = a; to = b })) h

pub record Ranging (words : List ℕ) (k : ℕ) (h : ℕ → Builder → Builder) (a b : ℕ) (log₀ logtags₀ : List ℕ) (starts₀ maps₀ : List (List ℕ)) (buckets₀ exprmap₀ : List ℕ) (stacks₀ : List (List ℕ)) (e₁ : ℕ) (e₀ : Sizes)
    (e : Sizes) (log logtags : List ℕ) (starts maps : List (List ℕ)) (buckets exprmap : List ℕ) (stacks : List (List ℕ)) (x : ℕ) : Type 0 where
  pub going : e.full ≡ false
  pub so_far : Builder → Builder
  pub makes : Makes words k so_far log₀ logtags₀ starts₀ maps₀ buckets₀ exprmap₀ stacks₀ e₁ e₀ e log logtags starts maps buckets exprmap stacks
  pub same : (m : Builder) → each_e (in_range (record { from = a; to = b })) h m ≡ each_e (in_range (record { from = x; to = b })) h (so_far m)

module _ {log₀ logtags₀ : List ℕ} {starts₀ maps₀ : List (List ℕ)} {buckets₀ : List ℕ} {e₀ : Sizes} (K₀ : ValidArrays log₀ logtags₀ starts₀ maps₀ buckets₀ e₀) where
  pub range_begin : {words : List ℕ} {k : ℕ} {h : ℕ → Builder → Builder} {a b : ℕ} {exprmap₀ : List ℕ} {stacks₀ : List (List ℕ)} {e₁ : ℕ} → Under k exprmap₀ stacks₀ e₁ e₀ → e₀.full ≡ false → Ranging words k h a b log₀ logtags₀ starts₀ maps₀ buckets₀ exprmap₀ stacks₀ e₁ e₀ e₀ log₀ logtags₀ starts₀ maps₀ buckets₀ exprmap₀ stacks₀ a
  range_begin U nf = record { going = nf; so_far = λ m. m; makes = makes-idle K₀ U nf (λ m. refl); same = λ m. refl }

  module _ {words : List ℕ} {k : ℕ} {h : ℕ → Builder → Builder} {a b : ℕ} {exprmap₀ : List ℕ} {stacks₀ : List (List ℕ)} {e₁ : ℕ} {e : Sizes} {log logtags : List ℕ} {starts maps : List (List ℕ)} {buckets exprmap : List ℕ} {stacks : List (List ℕ)} {x : ℕ}
      (inv : Ranging words k h a b log₀ logtags₀ starts₀ maps₀ buckets₀ exprmap₀ stacks₀ e₁ e₀ e log logtags starts maps buckets exprmap stacks x) where
    pub range_done : b ≤ x → Makes words k (ranged a b h) log₀ logtags₀ starts₀ maps₀ buckets₀ exprmap₀ stacks₀ e₁ e₀ e log logtags starts maps buckets exprmap stacks
    range_done l = makes_as inv.makes (λ m. inv.same m ∙ range_end x b h (inv.so_far m) l)

    module _ (less : x < b) {r : Sizes} {log' logtags' : List ℕ} {starts' maps' : List (List ℕ)} {buckets' exprmap' : List ℕ} {stacks' : List (List ℕ)} (A : Makes words k (h x) log logtags starts maps buckets exprmap stacks e₁ e r log' logtags' starts' maps' buckets' exprmap' stacks') where
      next : (m : Builder) → ranged a b h m ≡ ranged (x + 1) b h (h x (inv.so_far m))
      next m = rw (add-one x) (inv.same m ∙ range_next x b h (inv.so_far m) less)

      more : Makes words k (λ m. h x (inv.so_far m)) log₀ logtags₀ starts₀ maps₀ buckets₀ exprmap₀ stacks₀ e₁ e₀ r log' logtags' starts' maps' buckets' exprmap' stacks'
      more =
          makes_then words k e₁ log₀ logtags₀ starts₀ maps₀ buckets₀ exprmap₀ stacks₀ e₀ K₀ inv.so_far e log logtags starts maps buckets exprmap stacks inv.makes (h x) (λ m. h x (inv.so_far m)) (λ special. refl) inv.going r log' logtags' starts' maps' buckets' exprmap' stacks' A

      pub range_more : r.full ≡ false → Ranging words k h a b log₀ logtags₀ starts₀ maps₀ buckets₀ exprmap₀ stacks₀ e₁ e₀ r log' logtags' starts' maps' buckets' exprmap' stacks' (x + 1)
      range_more q = record { going = q; so_far = λ m. h x (inv.so_far m); makes = more; same = next }

      pub range_full : r.full ≡ true → ((es : List ℕ) (m : Builder) → GrowM m (each_e es h m)) → Makes words k (ranged a b h) log₀ logtags₀ starts₀ maps₀ buckets₀ exprmap₀ stacks₀ e₁ e₀ r log' logtags' starts' maps' buckets' exprmap' stacks'
      range_full q grows =
          makes_full words k e₁ log₀ logtags₀ starts₀ maps₀ buckets₀ exprmap₀ stacks₀ e₀ K₀ (λ m. h x (inv.so_far m)) r log' logtags' starts' maps' buckets' exprmap' stacks' more (ranged (x + 1) b h) (ranged a b h) (λ special. next _) q (λ m. grows _ m)

-- ---- they only add
pub needs_grow : (o : ℕ) (words tags : List ℕ) (n : ℕ) (places : List ℕ) (k : ℕ) (es : List ℕ) (m : Builder) → GrowM m (each_e es (needs o words tags n places k) m)
needs_grow o words tags n places k es m =
    let M = mod_of words n in
    let xs = exprs_of words tags places k in
    grow_all o M still xs GrowM (growing o M xs) (needs o words tags n places k) (grow_need o M still xs GrowM (growing o M xs)) es m

pub glances_grow : (o : ℕ) (words tags : List ℕ) (n : ℕ) (places : List ℕ) (k : ℕ) (es : List ℕ) (m : Builder) → GrowM m (each_e es (glances o words tags n places k) m)
glances_grow o words tags n places k es m =
    let M = mod_of words n in
    let xs = exprs_of words tags places k in
    grow_all o M still xs GrowM (growing o M xs) (glances o words tags n places k) (grow_glance o M still xs GrowM (growing o M xs)) es m

-- ---- an Emit: its first pass, the number of expressions made, its second pass
module _ (o : ℕ) (M : Module) (p q : ℕ → Builder → Builder) (a b : ℕ) {log₀ logtags₀ : List ℕ} {starts₀ maps₀ : List (List ℕ)} {buckets₀ : List ℕ} {e₀ : Sizes} (K₀ : ValidArrays log₀ logtags₀ starts₀ maps₀ buckets₀ e₀) {words : List ℕ} {k e₁ : ℕ} {exprmap₀ : List ℕ} {stacks₀ : List (List ℕ)} {e : Sizes} {log logtags : List ℕ} {starts maps : List (List ℕ)} {buckets exprmap : List ℕ} {stacks : List (List ℕ)}
    (A : Makes words k (ranged a b q) log₀ logtags₀ starts₀ maps₀ buckets₀ exprmap₀ stacks₀ e₁ e₀ e log logtags starts maps buckets exprmap stacks) where
  pub emit_stop : e.full ≡ true → ((es : List ℕ) (m : Builder) → GrowM m (each_e es p m)) → Runs words k (both o M still p q a b) (λ m. length (first o M still p q a b m).made ∷ []) log₀ logtags₀ starts₀ maps₀ buckets₀ exprmap₀ stacks₀ e₁ e₀ e log logtags starts maps buckets exprmap stacks
  unfolding both first
  emit_stop z grows = runs_full K₀ (runs_of A) (ranged a b p) (λ m. length m.made ∷ []) (λ m. refl) (λ m. refl) z (λ m. grows _ m)

  module _ (nf : e.full ≡ false) {r : Sizes} {stacks' : List (List ℕ)} (P : Pushed e.made stacks e r stacks') where
    pub emit_put : Runs words k (ranged a b q) (λ m. length (ranged a b q m).made ∷ []) log₀ logtags₀ starts₀ maps₀ buckets₀ exprmap₀ stacks₀ e₁ e₀ r log logtags starts maps buckets exprmap stacks'
    emit_put = runs_put K₀ A (λ m. length m.made) nf P (made-count (A.under nf) words log logtags starts maps)

    pub emit_over : r.full ≡ true → ((es : List ℕ) (m : Builder) → GrowM m (each_e es p m)) → Runs words k (both o M still p q a b) (λ m. length (first o M still p q a b m).made ∷ []) log₀ logtags₀ starts₀ maps₀ buckets₀ exprmap₀ stacks₀ e₁ e₀ r log logtags starts maps buckets exprmap stacks'
    unfolding both first
    emit_over z grows = runs_full K₀ emit_put (ranged a b p) (λ m. []) (λ m. refl) (λ m. refl) z (λ m. grows _ m)

    pub emit_done : r.full ≡ false → {r' : Sizes} {log' logtags' : List ℕ} {starts' maps' : List (List ℕ)} {buckets' exprmap' : List ℕ} {stacks'' : List (List ℕ)} → Makes words k (ranged a b p) log logtags starts maps buckets exprmap stacks' e₁ r r' log' logtags' starts' maps' buckets' exprmap' stacks''
        → Runs words k (both o M still p q a b) (λ m. length (first o M still p q a b m).made ∷ []) log₀ logtags₀ starts₀ maps₀ buckets₀ exprmap₀ stacks₀ e₁ e₀ r' log' logtags' starts' maps' buckets' exprmap' stacks''
    unfolding both first
    emit_done z B = runs_then K₀ emit_put (ranged a b p) (λ m. []) (λ m. refl) (λ m. refl) z (runs_of B)
