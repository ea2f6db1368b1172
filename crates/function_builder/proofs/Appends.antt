-- An expression appended to a function under construction, or found there: what the arrays hold then, or that it is too large.
use mathlib.Core.Path.{◌≡◌, refl, sym, ap, ◌∙◌}
use mathlib.Core.Bool.{true, false, false≢true}
use mathlib.Core.List.{List, [], ◌∷◌, ◌++◌}
use Prim.Native.Nat.{ℕ, suc, ◌+◌, ◌-◌, ◌≤◌, ◌<◌}
use native.Mathlib.Nat.{le_refl}
use native.Mathlib.Numerals.{add-one}
use native.Mathlib.Omega.{arith}
use lib.ListN.{length, get_or, set, length-append, length-set}
use lib.Seq.{take-set-lt}
use Rattle.model.specs.Outcome.{Cells}
use Rattle.model.specs.Tree.{flat_all}
use Rattle.model.specs.Module.{Module}
use Rattle.model.specs.Between.{between}
use Rattle.model.specs.References.{shift, index_of}
use Rattle.model.specs.Bodies.{Builder, carried, append_expr, intern_expr}
use Rattle.theory_records.specs.RecordLaws.{length_shift, length-carry}
use Rattle.theory_passes.specs.Light.{still}
use Rattle.derive_state.specs.Source.{mod_of}
use Rattle.derive_state.specs.Held.{put, st_of, long, carried_by}
use Rattle.derive_state.specs.Sizes.{Sizes}
use Rattle.derive_state.proofs.Passes.{length-between}
use Rattle.derive_state.proofs.State.{same_refl, marks_refl, seat_low, seat_shift, merged_old, merged-new}
use Rattle.function_references.specs.Fits.{Legible}
use Rattle.function_references.specs.Cuts.{exprs_of, Expressions}
use Rattle.function_builder.specs.Stacks.{went_of, made_of, making_of, Under}
use Rattle.function_builder.specs.Makes.{Lays, Wrote}
use Rattle.function_builder.proofs.Stack.{expr_is, expr_some, expr_low, expr_fits, expr_legible, made_low, made_many, made_words, set_low, stays-more, made_more, under_more}
use Rattle.function_builder.proofs.Went.{moved_is}
use Rattle.function_builder.proofs.Then.{aside_refl, stays_refl, kept_tops, making_is}

flat-more : (a : List Cells) (c : Cells) → length (flat_all (a ++ (c ∷ []))) ≡ length (flat_all a) + length c
unfolding flat_all
flat-more [] c = omega (arith, length-append c [])
flat-more (r ∷ a) c = omega (arith, flat-more a c, length-append r (flat_all (a ++ (c ∷ []))), length-append r (flat_all a))

-- ---- expression e, as its places are read
module _ {words tags places : List ℕ} {k : ℕ} (X : Expressions words tags places k) {e at end : ℕ} (h : e < k) (ha : at ≡ get_or places e 0) (he : end ≡ get_or places (e + 1) 0) where
  next_place : end ≡ get_or places (suc e) 0
  next_place = rw (add-one e) at he

  pub rises : (at < end) × (end ≤ 16384)
  rises = (rw (ha, next_place) (expr_some X e h), rw next_place (expr_low X e h))

  pub legible : Legible words tags 1024 at end
  legible = rw (ha, next_place) (expr_legible X e h)

-- there is room for it
pub record Room (d : Sizes) (e₁ at end : ℕ) : Type 0 where
  pub some : at < end
  pub low : end ≤ 16384
  pub fits : d.exprtop + (end - at) ≤ 16384
  pub seat : e₁ + d.made ≤ d.exprtop

pub room : {words tags places : List ℕ} {k : ℕ} → Expressions words tags places k → {e at end : ℕ} → e < k → at ≡ get_or places e 0 → end ≡ get_or places (e + 1) 0 → {exprmap : List ℕ} {stacks : List (List ℕ)} {d : Sizes} {e₁ : ℕ} → Under k exprmap stacks e₁ d → end - at ≤ 16384 - d.exprtop → Room d e₁ at end
room X h ha he U l =
    let r = rises X h ha he in
    let t = U.stacks_are.high in
    record { some = r.0; low = r.1; fits = omega arith; seat = made_low U }

-- ---- expression e, which reaches from at to end
module _ (words tags places : List ℕ) (n k : ℕ) (X : Expressions words tags places k) (log logtags : List ℕ) (starts maps : List (List ℕ)) (exprmap : List ℕ) (stacks : List (List ℕ)) (d : Sizes) (o e₁ e : ℕ) (h : e < k) (nf : d.full ≡ false) (U : Under k exprmap stacks e₁ d)
    (at end : ℕ) (ha : at ≡ get_or places e 0) (he : end ≡ get_or places (e + 1) 0) where
  abbrev M : Module
  M = mod_of words n

  abbrev xs : List Cells
  xs = exprs_of words tags places k

  abbrev C : Cells
  C = shift (carried_by (went_of words n log logtags starts maps d exprmap) tags words at end) o false

  abbrev m : List ℕ → Builder
  m special = making_of words k log logtags starts maps special d exprmap stacks e₁

  he' : end ≡ get_or places (suc e) 0
  he' = next_place X h ha he

  c_long : length C ≡ end - at
  unfolding carried_by
  c_long =
      let w = X.words_long in
      let t = X.tags_long in
      let l = (rises X h ha he).1 in
      length_shift (carried_by (went_of words n log logtags starts maps d exprmap) tags words at end) o false ∙ length-carry _ (between tags words at end) ∙ length-between tags words at end (omega arith) (omega arith)

  c_is : (special : List ℕ) → carried o M (m special) (get_or xs e []) ≡ C
  c_is special =
      rw (expr_is X e h, ← ha, ← he')
      (moved_is words n k log logtags starts maps special d exprmap stacks e₁ o tags at end (rw (ha, he') (expr_fits X e h k (omega arith))))

  -- what is made then, in words
  push_words : (special : List ℕ) → e₁ + length (flat_all (append_expr o M still xs e (m special)).made) ≡ d.exprtop + (end - at)
  unfolding append_expr making_of
  push_words special = rw (c_is special) (omega (arith, flat-more (made_of stacks e₁ d) C, made_words U, c_long))

  -- it is too long
  pub append_full : (r : Sizes) → r.full ≡ true → 16384 - d.exprtop < end - at → Lays words k (append_expr o M still xs e) log logtags starts maps exprmap stacks e₁ d r exprmap stacks
  append_full r q l = record {
    lays = λ buckets K. record {
      over = λ z special. let s = push_words special in long (omega arith);
      is = λ z. absurd (false≢true (sym z ∙ q));
      kept = λ z. absurd (false≢true (sym z ∙ q));
      under = λ z. absurd (false≢true (sym z ∙ q));
      aside = λ z. absurd (false≢true (sym z ∙ q));
      more = λ z. absurd (false≢true (sym z ∙ q));
      stays = λ z. absurd (false≢true (sym z ∙ q));
      below = same_refl d.loglen log logtags;
      log_long = K.log_long;
      tags_long = K.tags_long;
      marks_stay = marks_refl buckets K.marks_long;
    };
  }

  e_low : e < 1024
  e_low = let a = X.few in omega arith

  -- it is on the top
  module _ (fits : end - at ≤ 16384 - d.exprtop) (stacks' : List (List ℕ)) (W : Wrote C d.exprtop stacks stacks') where
    abbrev pub D : Sizes
    D = record { full = false; loglen = d.loglen; counts = d.counts; pairs = d.pairs; exprtop = d.exprtop + (end - at); bodytop = d.bodytop; made = d.made + 1 }

    c_some : 0 < length C
    c_some = let a = (rises X h ha he).0 in let b = c_long in omega arith

    c_fits : d.exprtop + length C ≤ 16384
    c_fits = let a = U.stacks_are.high in let b = c_long in omega arith

    et_is : d.exprtop + (end - at) ≡ d.exprtop + length C
    et_is = let b = c_long in omega arith

    push_is : (special : List ℕ) → append_expr o M still xs e (m special) ≡ making_of words k log logtags starts maps special D (set exprmap e (d.made + 1)) (put stacks' 2 (e₁ + d.made) d.exprtop) e₁
    unfolding append_expr making_of st_of
    push_is special = making_is refl
        (rw (made_many U, ← add-one d.made) (sym (take-set-lt k exprmap e (d.made + 1) h)))
        (ap (λ (c : Cells). made_of stacks e₁ d ++ (c ∷ [])) (c_is special) ∙ sym (made_more U C c_some c_fits stacks' W D et_is refl))

    pub append_done : (r : Sizes) → r ≡ D → Lays words k (append_expr o M still xs e) log logtags starts maps exprmap stacks e₁ d r (set exprmap e (d.made + 1)) (put stacks' 2 (e₁ + d.made) d.exprtop)
    append_done r q = rw q (record {
      lays = λ buckets K. record {
        over = λ z. absurd (false≢true z);
        is = λ z special. push_is special;
        kept = λ z. kept_tops K D refl refl refl;
        under = λ z. under_more U C c_some c_fits stacks' W D et_is refl refl e e_low;
        aside = λ z. record { functions_same = (refl, refl); entries_same = (refl, refl); pairs-same = refl; bt_same = refl; et_more = omega arith };
        more = λ z. le_refl _;
        stays = λ z. stays-more U C c_some c_fits stacks' W;
        below = same_refl d.loglen log logtags;
        log_long = K.log_long;
        tags_long = K.tags_long;
        marks_stay = marks_refl buckets K.marks_long;
      };
    })

  -- ---- the equal one, ignoring spans
  module _ (j : ℕ) (hj : j ≡ index_of (made_of stacks e₁ d) (carried_by (went_of words n log logtags starts maps d exprmap) tags words at end)) where
    seat_is : index_of (made_of stacks e₁ d) C ≡ j
    seat_is = seat_shift (made_of stacks e₁ d) (carried_by (went_of words n log logtags starts maps d exprmap) tags words at end) o false ∙ sym hj

    module _ (l : j < d.made) where
      join_is : (special : List ℕ) → intern_expr o M still xs e (m special) ≡ making_of words k log logtags starts maps special d (set exprmap e (j + 1)) stacks e₁
      unfolding intern_expr making_of
      join_is special =
          let a = made_many U in
          let b = seat_is in
          making_is refl
          (rw (c_is special, b, ← add-one j) (sym (take-set-lt k exprmap e (j + 1) h)))
          (rw (c_is special) (merged_old (made_of stacks e₁ d) C (omega arith)))

      pub merge_old : Lays words k (intern_expr o M still xs e) log logtags starts maps exprmap stacks e₁ d d (set exprmap e (j + 1)) stacks
      merge_old = record {
        lays = λ buckets K. record {
          over = λ z. absurd (false≢true (sym nf ∙ z));
          is = λ z special. join_is special;
          kept = λ z. K;
          under = λ z. record {
            few = U.few;
            em_long = length-set exprmap e (j + 1) ∙ U.em_long;
            stacks_are = U.stacks_are;
            rising = U.rising;
            made_is = U.made_is;
            within = set_low exprmap e (j + 1) d.made (let a = U.em_long in let b = e_low in omega arith) U.within (omega arith);
          };
          aside = λ z. aside_refl starts d;
          more = λ z. le_refl _;
          stays = λ z. stays_refl e₁ stacks;
          below = same_refl d.loglen log logtags;
          log_long = K.log_long;
          tags_long = K.tags_long;
          marks_stay = marks_refl buckets K.marks_long;
        };
      }

    module _ (l : d.made ≤ j) where
      join_push : (special : List ℕ) → intern_expr o M still xs e (m special) ≡ append_expr o M still xs e (m special)
      unfolding intern_expr append_expr making_of
      join_push special =
          let a = made_many U in
          let b = seat_is in
          let c = seat_low (made_of stacks e₁ d) C in
          let s : index_of (made_of stacks e₁ d) C ≡ length (made_of stacks e₁ d) = omega arith in
          making_is refl
          (rw (c_is special, s))
          (rw (c_is special) (merged-new (made_of stacks e₁ d) C (omega arith)))

      pub merge_new : (r : Sizes) (exprmap' : List ℕ) (stacks' : List (List ℕ)) → Lays words k (append_expr o M still xs e) log logtags starts maps exprmap stacks e₁ d r exprmap' stacks' → Lays words k (intern_expr o M still xs e) log logtags starts maps exprmap stacks e₁ d r exprmap' stacks'
      merge_new r exprmap' stacks' A = record {
        lays = λ buckets K. let L = A.lays buckets K in record {
          over = λ z special. rw (join_push special) (L.over z special);
          is = λ z special. join_push special ∙ L.is z special;
          kept = L.kept;
          under = L.under;
          aside = L.aside;
          more = L.more;
          stays = L.stays;
          below = L.below;
          log_long = L.log_long;
          tags_long = L.tags_long;
          marks_stay = L.marks_stay;
        };
      }
