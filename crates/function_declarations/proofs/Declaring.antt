-- The words of declarations, one at a turn: what those that are left make of the builder, and become, is what all of them make and become.
use mathlib.Core.Path.{◌≡◌, refl, sym, ap, ◌∙◌}
use mathlib.Core.Bool.{Bool, true, false}
use mathlib.Core.List.{List, [], ◌∷◌, ◌++◌, map, append_assoc, append-nil}
use Prim.Native.Nat.{ℕ, suc, ◌+◌, ◌≤◌, ◌<◌}
use native.Mathlib.Nat.{le_refl}
use native.Mathlib.Numerals.{add-one}
use native.Mathlib.Omega.{arith}
use lib.ListN.{get_or}
use Rattle.model.specs.Outcome.{Cells, word}
use Rattle.model.specs.Module.{Module}
use Rattle.model.specs.Between.{between}
use Rattle.model.specs.References.{target, ref_of, through, first_word, undefined_at, moved}
use Rattle.model.specs.Bodies.{Builder, mapped_to}
use Rattle.theory_records.specs.RecordLaws.{All}
use Rattle.theory_passes.specs.Pass.{arrive, passed, word_of, after, written}
use Rattle.theory_passes.proofs.Growth.{grow_front}
use Rattle.theory_passes.specs.Light.{still}
use Rattle.theory_image.specs.Betweens.{between_none, between_next}
use Rattle.derive_state.specs.Source.{mod_of}
use Rattle.derive_state.specs.Held.{ValidArrays}
use Rattle.derive_state.specs.Sizes.{Sizes}
use Rattle.function_references.specs.Fits.{FitN}
use Rattle.function_outside.proofs.Passing.{legible_next, legible_here}
use Rattle.function_references.specs.Cuts.{exprs_of}
use Rattle.function_builder.specs.Stacks.{went_of, Under}
use Rattle.function_builder.specs.Makes.{Makes, Pushed}
use Rattle.function_builder.proofs.Growth.{GrowM, growing}
use Rattle.function_words.specs.Runs.{unites, Declares, Runs}
use Rattle.function_words.proofs.Running.{runs_of, runs_push, runs_then, runs_full, runs_as, makes-idle}
use Rattle.function_words.proofs.Words.{passed-plain, word-plain, through_is}

pub record Declaring (words tags : List ℕ) (n k o : ℕ) (p : ℕ → Builder → Builder) (at end : ℕ) (log₀ logtags₀ : List ℕ) (starts₀ maps₀ : List (List ℕ)) (buckets₀ exprmap₀ : List ℕ) (stacks₀ : List (List ℕ)) (e₁ : ℕ) (e₀ : Sizes)
    (e : Sizes) (log logtags : List ℕ) (starts maps : List (List ℕ)) (buckets exprmap : List ℕ) (stacks : List (List ℕ)) (i : ℕ) (u : Bool) : Type 0 where
  pub left : Declares words tags k i end
  pub going : e.full ≡ false
  pub so_far : Builder → Builder
  pub out : Builder → List ℕ
  pub runs : Runs words k so_far out log₀ logtags₀ starts₀ maps₀ buckets₀ exprmap₀ stacks₀ e₁ e₀ e log logtags starts maps buckets exprmap stacks
  pub same : (m : Builder) → after o (mod_of words n) still p p (between tags words at end) m ≡ after o (mod_of words n) still p p (between tags words i end) (so_far m)
  pub wrote : (m : Builder) → map word (written o (mod_of words n) still p p (between tags words at end) false m) ≡ out m ++ map word (written o (mod_of words n) still p p (between tags words i end) u (so_far m))

pub declares-next : {words tags : List ℕ} {k i end : ℕ} → Declares words tags k i end → i < end → Declares words tags k (suc i) end
declares-next D less = record { legible = legible_next D.legible less; plain = λ j h l. D.plain j (omega arith) l }

module _ {log₀ logtags₀ : List ℕ} {starts₀ maps₀ : List (List ℕ)} {buckets₀ : List ℕ} {e₀ : Sizes} (K₀ : ValidArrays log₀ logtags₀ starts₀ maps₀ buckets₀ e₀) where
  pub declare_begin : {words tags : List ℕ} {n k o : ℕ} {p : ℕ → Builder → Builder} {at end : ℕ} {exprmap₀ : List ℕ} {stacks₀ : List (List ℕ)} {e₁ : ℕ} → Under k exprmap₀ stacks₀ e₁ e₀ → e₀.full ≡ false → Declares words tags k at end
      → Declaring words tags n k o p at end log₀ logtags₀ starts₀ maps₀ buckets₀ exprmap₀ stacks₀ e₁ e₀ e₀ log₀ logtags₀ starts₀ maps₀ buckets₀ exprmap₀ stacks₀ at false
  declare_begin U nf D = record {
    left = D;
    going = nf;
    so_far = λ m. m;
    out = λ m. [];
    runs = runs_of (makes-idle K₀ U nf (λ m. refl));
    same = λ m. refl;
    wrote = λ m. refl;
  }

  module _ {words tags : List ℕ} {n k o : ℕ} {p : ℕ → Builder → Builder} {at end : ℕ} {exprmap₀ : List ℕ} {stacks₀ : List (List ℕ)} {e₁ : ℕ} {e : Sizes} {log logtags : List ℕ} {starts maps : List (List ℕ)} {buckets exprmap : List ℕ} {stacks : List (List ℕ)} {i : ℕ} {u : Bool}
      (inv : Declaring words tags n k o p at end log₀ logtags₀ starts₀ maps₀ buckets₀ exprmap₀ stacks₀ e₁ e₀ e log logtags starts maps buckets exprmap stacks i u) where
    abbrev M : Module
    M = mod_of words n

    abbrev A : Cells → Builder → Builder
    A = after o M still p p

    abbrev W : Cells → Bool → Builder → List ℕ
    W cs v m = map word (written o M still p p cs v m)

    pub declare_done : end ≤ i → Runs words k (A (between tags words at end)) (W (between tags words at end) false) log₀ logtags₀ starts₀ maps₀ buckets₀ exprmap₀ stacks₀ e₁ e₀ e log logtags starts maps buckets exprmap stacks
    unfolding after written
    declare_done h =
        let z = between_none tags words i end h in
        runs_as K₀ inv.runs (λ m. inv.same m ∙ ap (λ (cs : Cells). A cs (inv.so_far m)) z) (λ m. inv.wrote m ∙ ap (λ (cs : Cells). inv.out m ++ W cs u (inv.so_far m)) z ∙ append-nil (inv.out m))

    module _ (less : i < end) where
      abbrev s : ℕ
      s = get_or tags i 0

      abbrev w : ℕ
      w = get_or words i 0

      abbrev cs : Cells
      cs = between tags words (suc i) end

      abbrev to : Builder → Builder
      to = arrive o M still p p (target s) w

      pub declare_in : i < 16384
      declare_in = let a = inv.left.legible.stretch.small in omega arith

      pub declare_fits : All (FitN words k) (ref_of (target s) w [])
      declare_fits = legible_here inv.left.legible less

      cells : between tags words i end ≡ (s, w) ∷ cs
      cells = let S = inv.left.legible.stretch in between_next tags words i end less S.in_tags S.in_words

      passes : (m : Builder) → passed o M still p p (s, w) cs m ≡ to m
      passes m = let z = inv.left.plain i (le_refl _) less in passed-plain o M p p s w cs m z.0 z.2

      module _ {v : Bool} (hv : v ≡ undefined_at (target s) w (first_word cs) u) where
        abbrev becomes : Builder → ℕ
        becomes m = moved (target s) (through (mapped_to M m) s w) o v

        becoming : (m : Builder) → word_of o M still p p (s, w) cs v m ≡ becomes (to m)
        becoming m = let z = inv.left.plain i (le_refl _) less in word-plain o M p p s w cs v m z.0 z.1 z.2

        cut : (m : Builder) → A (between tags words at end) m ≡ A cs (to (inv.so_far m))
        unfolding after
        cut m = inv.same m ∙ ap (λ (x : Cells). A x (inv.so_far m)) cells ∙ ap (A cs) (passes (inv.so_far m))

        cut_words : (m : Builder) → W (between tags words at end) false m ≡ inv.out m ++ (becomes (to (inv.so_far m)) ∷ W cs v (to (inv.so_far m)))
        unfolding written
        cut_words m =
            let x = inv.so_far m in
            inv.wrote m ∙ ap (λ (l : Cells). inv.out m ++ W l u x) cells ∙ rw (← hv, becoming x, passes x)

        module _ {r : Sizes} {log' logtags' : List ℕ} {starts' maps' : List (List ℕ)} {buckets' exprmap' : List ℕ} {stacks' : List (List ℕ)} (B : Makes words k to log logtags starts maps buckets exprmap stacks e₁ e r log' logtags' starts' maps' buckets' exprmap' stacks') where
          arrived : Runs words k (λ m. to (inv.so_far m)) inv.out log₀ logtags₀ starts₀ maps₀ buckets₀ exprmap₀ stacks₀ e₁ e₀ r log' logtags' starts' maps' buckets' exprmap' stacks'
          arrived = runs_then K₀ inv.runs to (λ m. []) (λ m. refl) (λ m. sym (append-nil (inv.out m))) inv.going (runs_of B)

          pub declare_full : r.full ≡ true → ((l : Cells) (m : Builder) → GrowM m (A l m)) → Runs words k (A (between tags words at end)) (W (between tags words at end) false) log₀ logtags₀ starts₀ maps₀ buckets₀ exprmap₀ stacks₀ e₁ e₀ r log' logtags' starts' maps' buckets' exprmap' stacks'
          declare_full q grows = runs_full K₀ arrived (A cs) (λ m. becomes m ∷ W cs v m) cut cut_words q (grows cs)

          module _ (q : r.full ≡ false) {r' : Sizes} {stacks'' : List (List ℕ)} (P : Pushed (moved (target s) (through (went_of words n log' logtags' starts' maps' r exprmap') s w) o v) stacks' r r' stacks'') where
            put : Runs words k (λ m. to (inv.so_far m)) (λ m. inv.out m ++ (becomes (to (inv.so_far m)) ∷ [])) log₀ logtags₀ starts₀ maps₀ buckets₀ exprmap₀ stacks₀ e₁ e₀ r' log' logtags' starts' maps' buckets' exprmap' stacks''
            put =
                runs_then K₀ arrived (λ m. m) (λ m. becomes m ∷ []) (λ m. refl) (λ m. refl) q
                (runs_push (B.under q) P (B.kept q) becomes (λ special. ap (λ (x : ℕ). moved (target s) x o v) (through_is words n k log' logtags' starts' maps' special r exprmap' stacks' e₁ s w declare_fits)))

            put_words : (m : Builder) → W (between tags words at end) false m ≡ (inv.out m ++ (becomes (to (inv.so_far m)) ∷ [])) ++ W cs v (to (inv.so_far m))
            put_words m = cut_words m ∙ sym (append_assoc (inv.out m) (becomes (to (inv.so_far m)) ∷ []) (W cs v (to (inv.so_far m))))

            pub declare_over : r'.full ≡ true → ((l : Cells) (m : Builder) → GrowM m (A l m)) → Runs words k (A (between tags words at end)) (W (between tags words at end) false) log₀ logtags₀ starts₀ maps₀ buckets₀ exprmap₀ stacks₀ e₁ e₀ r' log' logtags' starts' maps' buckets' exprmap' stacks''
            declare_over z grows = runs_full K₀ put (A cs) (W cs v) cut put_words z (grows cs)

            pub declare_next : r'.full ≡ false → Declaring words tags n k o p at end log₀ logtags₀ starts₀ maps₀ buckets₀ exprmap₀ stacks₀ e₁ e₀ r' log' logtags' starts' maps' buckets' exprmap' stacks'' (i + 1) v
            declare_next z = rw (add-one i) (record { left = declares-next inv.left less; going = z; so_far = λ m. to (inv.so_far m); out = λ m. inv.out m ++ (becomes (to (inv.so_far m)) ∷ []); runs = put; same = cut; wrote = put_words })

-- they only add
pub unites_grow : (o : ℕ) (words tags : List ℕ) (n : ℕ) (places : List ℕ) (k : ℕ) (cs : Cells) (m : Builder) → GrowM m (after o (mod_of words n) still (unites o words tags n places k) (unites o words tags n places k) cs m)
unites_grow o words tags n places k cs m = let xs = exprs_of words tags places k in grow_front o (mod_of words n) still xs GrowM (growing o (mod_of words n) xs) cs m
