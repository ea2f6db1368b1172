-- A function of the source before its first word: nothing is made, its declarations and its body are the words that the code passes, and after the declarations the body is
-- to come.
use mathlib.Core.Path.{◌≡◌, refl, sym, ap, ap₂, ◌∙◌}
use mathlib.Core.Bool.{true, false}
use mathlib.Core.List.{List, [], ◌∷◌, ◌++◌, map}
use Prim.Native.Nat.{ℕ, zero, suc, ◌+◌, ◌≤◌, ◌<◌}
use native.Mathlib.Nat.{le_refl}
use native.Mathlib.Omega.{arith}
use lib.ListN.{length, get_or, take, replicate, length-map, length-replicate}
use lib.Seq.{slice, length-slice, slice_empty}
use borrow.Author.Tests.{eqb-false}
use Rattle.theory_lists.specs.Lists.{zeros}
use Rattle.model.specs.Outcome.{word}
use Rattle.model.specs.Table.{FROM, TO, STMT_KIND}
use Rattle.model.specs.Tree.{Function, flat_block}
use Rattle.model.specs.Between.{between}
use Rattle.model.specs.Imports.{Derived}
use Rattle.model.specs.Bodies.{Builder}
use Rattle.theory_image.specs.Betweens.{held-between}
use Rattle.theory_bodies.specs.Shallow.{need, glance}
use Rattle.theory_passes.specs.Pass.{after, written, front, begin}
use Rattle.theory_passes.specs.Light.{still}
use Rattle.theory_passes.proofs.Light.{still_grow_body}
use Rattle.derive_state.specs.Flats.{function_of}
use Rattle.derive_state.specs.Source.{mod_of}
use Rattle.derive_state.specs.Held.{row, table_of, st_of, size_r, Over, ValidArrays}
use Rattle.derive_state.specs.Sizes.{Sizes}
use Rattle.derive_imports.proofs.Growth.{Grow}
use Rattle.function_references.specs.Cuts.{cut, Rising}
use Rattle.function_builder.specs.Stacks.{seats_of, made_of, making_of, Stacks, Under}
use Rattle.function_builder.proofs.Growth.{GrowM, growing_by, over_more}
use Rattle.function_builder.proofs.Then.{making_is}
use Rattle.function_parts.specs.Part.{Part, Indexed, k_many, k_few, front_is, body_is, order, long}
use Rattle.function_parts.specs.Exprs.{exprs_are}
use Rattle.function_parts.specs.Fitting.{front_legible, body_legible}
use Rattle.function_parts.specs.Front.{front_declaring}
use Rattle.function_parts.specs.Body.{emit_at}
use Rattle.function_words.specs.Runs.{unites, Declares, Runs}
use Rattle.function_nesting.specs.Nested.{declared_s, walked_s, final_s, front_s, body_s, cells_s}
use Rattle.function_nesting.specs.Single.{function_back}
use Rattle.function_localize.specs.Localized.{LocalizeEnsures}
use Rattle.function_localize.proofs.Ways.{Turn, front_long, walked_over, way_full}

-- ---- the record of a function's words is read as the function
pub part-function : {words tags : List ℕ} {n s end : ℕ} {F : Function} → Part words tags n s end F → function_of (between tags words s end) ≡ F
part-function {F = F} p = ap function_of (held-between p.stands.held p.stands.part) ∙ function_back F p.pass.well

-- ---- nothing is made yet
take_zeros : (k n : ℕ) → k ≤ n → ◌≡◌ {A = List ℕ} (take k (replicate n 0)) (replicate k 0)
take_zeros zero n h = refl
take_zeros (suc k) zero h = absurd (omega arith)
take_zeros (suc k) (suc n) h = ap (0 ∷◌) (take_zeros k n (omega arith))

abbrev pub begun : Sizes → Sizes
begun e = record { full = false; loglen = e.loglen; counts = e.counts; pairs = e.pairs; exprtop = e.exprtop; bodytop = e.bodytop; made = 0 }

no_seats : (stacks : List (List ℕ)) (e : Sizes) → seats_of stacks e.exprtop (begun e) ≡ []
unfolding seats_of
no_seats stacks e = let q : e.exprtop + 0 ≡ e.exprtop = omega arith in rw q (slice_empty e.exprtop (row stacks 2))

pub start_under : (k : ℕ) (stacks : List (List ℕ)) (e : Sizes) → k ≤ 1024 → Stacks stacks e → Under k (replicate 1024 0) stacks e.exprtop (begun e)
unfolding Rising
start_under k stacks e h S = record {
  few = h;
  em_long = length-replicate {A = ℕ} 1024 0;
  stacks_are = record { four = S.four; rows = S.rows; high = S.high; high' = S.high' };
  rising = rw (no_seats stacks e) refl;
  made_is = rw (no_seats stacks e) refl;
  within = λ x. let z = zeros 1024 x in omega arith;
}

pub start_is : (F : Function) (words : List ℕ) (k : ℕ) (log logtags : List ℕ) (starts maps : List (List ℕ)) (special : List ℕ) (stacks : List (List ℕ)) (e : Sizes) → k ≡ length F.exprs → k ≤ 1024
    → making_of words k log logtags starts maps special (begun e) (replicate 1024 0) stacks e.exprtop ≡ begin F (st_of words log logtags starts maps special e)
unfolding making_of begin made_of st_of
start_is F words k log logtags starts maps special stacks e hk h = making_is refl (take_zeros k 1024 h ∙ ap (λ (n : ℕ). replicate n 0) hk) (rw (no_seats stacks e) (unfold cut in refl))

-- ---- what the code reads
module _ {words tags : List ℕ} {n s end : ℕ} {F : Function} (p : Part words tags n s end F) {ea : ℕ} {places : List ℕ} {k named body : ℕ} (x : Indexed words tags s end ea places k named body) where
  pub declares : Declares words tags k s ea
  declares = record {
    legible = front_legible p x;
    plain = λ i h l. let d = front_declaring p x i h l in (eqb-false (get_or tags i 0) FROM d.no_from, eqb-false (get_or tags i 0) TO d.no_to, eqb-false (get_or tags i 0) STMT_KIND d.no_kind, d.no_function_lem);
  }

  pub ranges : (i : ℕ) → body ≤ i → i < end → get_or tags i 0 ≡ FROM → (suc i < end) × (get_or words (suc i) 0 ≤ k)
  ranges i h l q = let e = emit_at p x i h l q in (e.next_in, e.few)

  -- ---- after the declarations
  module _ (o : ℕ) (follow : ℕ → Derived → Derived) (calls : (f : ℕ) (s : Derived) → Grow s (follow f s)) (ready : ℕ → Derived → Type 0) (log₀ logtags₀ : List ℕ) (starts₀ maps₀ : List (List ℕ)) (buckets₀ : List ℕ) (stacks₀ : List (List ℕ)) (e₀ : Sizes) (K₀ : ValidArrays log₀ logtags₀ starts₀ maps₀ buckets₀ e₀)
      (r : Sizes) (log logtags : List ℕ) (starts maps : List (List ℕ)) (buckets exprmap : List ℕ) (stacks : List (List ℕ))
      (R : Runs words k (after o (mod_of words n) still (unites o words tags n places k) (unites o words tags n places k) (between tags words s ea)) (λ (m : Builder). map word (written o (mod_of words n) still (unites o words tags n places k) (unites o words tags n places k) (between tags words s ea) false m))
      log₀ logtags₀ starts₀ maps₀ buckets₀ (replicate 1024 0) stacks₀ e₀.exprtop (begun e₀) r log logtags starts maps buckets exprmap stacks) where
    abbrev m₀ : List ℕ → Builder
    m₀ special = making_of words k log₀ logtags₀ starts₀ maps₀ special (begun e₀) (replicate 1024 0) stacks₀ e₀.exprtop

    abbrev S₀ : List ℕ → Derived
    S₀ special = st_of words log₀ logtags₀ starts₀ maps₀ special e₀

    begun_is : (special : List ℕ) → m₀ special ≡ begin F (S₀ special)
    begun_is special = start_is F words k log₀ logtags₀ starts₀ maps₀ special stacks₀ e₀ (k_many p x) (k_few p x)

    declared_is : (special : List ℕ) → after o (mod_of words n) still (unites o words tags n places k) (unites o words tags n places k) (between tags words s ea) (m₀ special) ≡ declared_s o (mod_of words n) follow F (S₀ special)
    unfolding declared_s
    declared_is special = rw (← exprs_are p x, ← front_is p x, begun_is special) refl

    front_words : (special : List ℕ) → map word (written o (mod_of words n) still (unites o words tags n places k) (unites o words tags n places k) (between tags words s ea) false (m₀ special)) ≡ map word (front_s o (mod_of words n) follow F (S₀ special))
    unfolding front_s
    front_words special = rw (← exprs_are p x, ← front_is p x, begun_is special) refl

    hw : end ≤ length words
    hw = let a = (order p x).in_words in let b = (long p).words_long in omega arith

    ht : end ≤ length tags
    ht = let a = (order p x).in_words in let b = (long p).tags_long in omega arith

    low : body ≤ end
    low = let a = (order p x).to_end in omega arith

    pub declare_full : r.full ≡ true → LocalizeEnsures words n o ready follow F log₀ logtags₀ starts₀ maps₀ buckets₀ stacks₀ e₀ r log logtags starts maps buckets stacks
    declare_full z = way_full words tags n o follow calls ready F k body end low hw ht (body_is p x) log₀ logtags₀ starts₀ maps₀ buckets₀ stacks₀ e₀ K₀ log logtags starts maps buckets stacks r z (λ special b. over special) R.below R.log_long R.tags_long R.marks_stay
      where
        over : (special : List ℕ) → Over (size_r (table_of log₀ logtags₀ starts₀ e₀.counts 7) + (e₀.exprtop + e₀.bodytop + length (cells_s o (mod_of words n) follow F (S₀ special)))) (final_s o (mod_of words n) follow F (S₀ special)).out
        over special =
            let d : Builder = declared_s o (mod_of words n) follow F (S₀ special) in
            let g : GrowM d (walked_s o (mod_of words n) follow F (S₀ special)) = (unfold walked_s in still_grow_body o (mod_of words n) follow F.exprs GrowM (growing_by o (mod_of words n) follow F.exprs calls) (flat_block F.body) d) in
            let v = rw (declared_is special, front_words special) at (R.over z special) in
            let a = length-map (front_s o (mod_of words n) follow F (S₀ special)) word in
            let b = front_long words tags n o follow calls ready F k body end low hw ht (body_is p x) log₀ logtags₀ starts₀ maps₀ buckets₀ stacks₀ e₀ K₀ (S₀ special) in
            walked_over words tags n o follow calls ready F k body end low hw ht (body_is p x) log₀ logtags₀ starts₀ maps₀ buckets₀ stacks₀ e₀ K₀ (S₀ special) d (e₀.exprtop + e₀.bodytop + length (front F)) g (omega arith) (over_more _ _ (omega arith) v)

    module _ (z : r.full ≡ false) where
      high : r.bodytop ≤ length (row stacks 3)
      high = let a = (R.under z).stacks_are in let h = a.high' in let y = a.rows 3 (omega arith) in omega arith

      front_is_there : (special : List ℕ) → slice e₀.bodytop r.bodytop (row stacks 3) ≡ map word (front_s o (mod_of words n) follow F (S₀ special))
      front_is_there special = R.wrote z special ∙ front_words special

      top : r.bodytop ≡ e₀.bodytop + length (front F)
      top =
          let a = ap length (front_is_there []) in
          let b = length-slice e₀.bodytop r.bodytop (row stacks 3) high in
          let c = length-map (front_s o (mod_of words n) follow F (S₀ [])) word in
          let d = front_long words tags n o follow calls ready F k body end low hw ht (body_is p x) log₀ logtags₀ starts₀ maps₀ buckets₀ stacks₀ e₀ K₀ (S₀ []) in
          let e = (R.along z).bt_more in
          omega arith

      abbrev m : List ℕ → Builder
      m special = making_of words k log logtags starts maps special r exprmap stacks e₀.exprtop

      abbrev P : ℕ → Builder → Builder
      P = need o (mod_of words n) still F.exprs

      abbrev Q : ℕ → Builder → Builder
      Q = glance o (mod_of words n) still F.exprs

      same : (special : List ℕ) → after o (mod_of words n) follow P Q (between tags words body end) (m special) ≡ walked_s o (mod_of words n) follow F (S₀ special)
      unfolding walked_s
      same special = rw (← body_is p x) (ap (after o (mod_of words n) follow P Q (flat_block F.body)) (sym (R.is z special) ∙ declared_is special))

      wrote : (special : List ℕ) → slice (e₀.bodytop + length (front F)) r.bodytop (row stacks 3) ++ map word (written o (mod_of words n) follow P Q (between tags words body end) false (m special)) ≡ map word (body_s o (mod_of words n) follow F (S₀ special))
      unfolding body_s
      wrote special =
          let a : slice (e₀.bodytop + length (front F)) r.bodytop (row stacks 3) ≡ [] = ap (λ (b : ℕ). slice (e₀.bodytop + length (front F)) b (row stacks 3)) top ∙ slice_empty (e₀.bodytop + length (front F)) (row stacks 3) in
          rw (← body_is p x) (ap₂ (λ (l : List ℕ) (d : Builder). l ++ map word (written o (mod_of words n) follow P Q (flat_block F.body) false d)) a (sym (R.is z special) ∙ declared_is special))

      pub turn_start : Turn words tags n o follow ready F k body end log₀ logtags₀ starts₀ maps₀ buckets₀ stacks₀ e₀ log logtags starts maps buckets exprmap stacks r body false
      turn_start = record {
        from = le_refl _;
        within = low;
        legible = body_legible p x;
        way = record {
          going = z;
          kept = R.kept z;
          under = R.under z;
          along = record { entries_same = (R.along z).entries_same; pairs-same = (R.along z).pairs-same; et_more = (R.along z).et_more; bt_more = (R.along z).bt_more };
          more = R.more z;
          deep = R.deep z;
          below = R.below;
          marks_stay = R.marks_stay;
        };
        top = let a = top in omega arith;
        fronts = λ special. rw (← top) (front_is_there special);
        same = same;
        wrote = wrote;
        left = λ special y. rw (← body_is p x, ← R.is z special, declared_is special) y;
      }
