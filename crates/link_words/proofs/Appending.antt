-- One function after the other: what importing the next one requires, that it is never full, and that the session after it is valid.
use mathlib.Core.Path.{◌≡◌, refl, sym, ap, ◌∙◌, subst}
use mathlib.Core.Bool.{Bool, true, false}
use mathlib.Core.List.{List, ◌∷◌}
use mathlib.Core.Option.{some}
use Prim.Native.Nat.{ℕ, suc, ◌+◌, ◌<◌, ◌≤◌}
use native.Mathlib.Omega.{arith}
use lib.ListN.{length, get_or, take}
use lib.Seq.{slice, slice-cons, slice_empty, take-length, length-take-le}
use Rattle.model.specs.Module.{Module, count_at}
use Rattle.model.specs.Tables.{types, count}
use Rattle.model.specs.Calls.{ordered}
use Rattle.model.specs.Callees.{callees}
use Rattle.model.specs.Redirect.{function}
use Rattle.model.specs.Imports.{Derived}
use Rattle.model.specs.Bodies.{append, follow}
use Rattle.model.specs.Session.{Source as Src, meets_ring}
use Rattle.model.specs.Link.{append_all}
use Rattle.theory_finish.specs.Fresh.{source}
use Rattle.theory_finish.specs.Ringless.{none_ringing}
use Rattle.theory_finish.specs.NamedSession.{NamedBy}
use Rattle.theory_sessions.specs.Operating.{GoodBy, Good}
use Rattle.theory_sessions.specs.Holding.{function-next}
use Rattle.derive_limits.specs.Reached.{Reached, At}
use Rattle.derive_limits.proofs.Reached.{function-at}
use Rattle.function_nesting.specs.Nested.{append_s, follow_s, ReadyF, Ready}
use Rattle.derive_state.specs.Refers.{tab_of}
use Rattle.derive_state.specs.Source.{mod_of}
use Rattle.derive_state.specs.Held.{table_of, st_of, size_r, Over, ValidArrays}
use Rattle.derive_state.specs.Sizes.{Sizes}
use Rattle.derive_state.proofs.Laws.{none-held}
use Rattle.derive_state.proofs.State.{tab_long}
use Rattle.derive_special.proofs.Deriving.{specials_more}
use Rattle.function_references.specs.Fits.{Ground}
use Rattle.function_builder.specs.Stacks.{Stacks}
use Rattle.function_entry.proofs.Sources.{at, ground, functions_are, ready-function, nested-function, append-same}
use Rattle.function_localize.specs.Localized.{NestedF, ImportFunctionEnsures}
use Rattle.derive_session.specs.Valid.{session_of, ValidSession}
use Rattle.link_words.specs.Appends.{Roomy, Sequence, AppendAllEnsures}

-- ---- a session that is reached
pub at-reached : {x : Src} {s : Derived} → At x s → Reached (record { source = some x; state = s })
unfolding Good GoodBy NamedBy
at-reached a = record { good = a.set; named = (a.set.well, a.set.passes.numbers, a.shown) }

types_many : (words special log logtags : List ℕ) (starts maps : List (List ℕ)) (buckets : List ℕ) (e : Sizes) → ValidArrays log logtags starts maps buckets e → count (st_of words log logtags starts maps special e).recs types ≡ get_or e.counts 1 0
unfolding st_of count tab_of
types_many words special log logtags starts maps buckets e K = tab_long log logtags starts maps buckets e K 1 (omega arith)

-- ---- the next function
module _ (words tags : List ℕ) (n : ℕ) (order : List ℕ) (all : ℕ) (S : Sequence words n order all) (log₀ logtags₀ : List ℕ) (starts₀ maps₀ : List (List ℕ)) (buckets₀ special : List ℕ) (e : Sizes) (L : ValidSession true n 0 words tags log₀ logtags₀ starts₀ maps₀ buckets₀ special e)
    (f : ℕ) (is : List ℕ) (R : Roomy (mod_of words n) (f ∷ is) (st_of words log₀ logtags₀ starts₀ maps₀ special e)) where
  abbrev m : Module
  m = mod_of words n

  abbrev s : Derived
  s = st_of words log₀ logtags₀ starts₀ maps₀ special e

  abbrev next : Derived
  next = append 0 (mod_of words n) (follow 0 (mod_of words n)) f (st_of words log₀ logtags₀ starts₀ maps₀ special e)

  low : f < length (mod_of words n).functions
  unfolding Roomy
  low = R.0

  pub next_low : f < count_at 6 words
  next_low = omega (arith, low, functions_are n 0 words tags log₀ logtags₀ starts₀ maps₀ buckets₀ special e L)

  not_over : Over 0 next → ⊥
  unfolding Roomy
  not_over = R.1

  off_rings : meets_ring (f ∷ callees (function (mod_of words n) f)) (mod_of words n) s ≡ false
  off_rings = none_ringing (mod_of words n) (take all order) S.is (f ∷ callees (function (mod_of words n) f)) s

  appends : append_s 0 (mod_of words n) (follow_s 0 (mod_of words n) all) f s ≡ next
  appends = append-same n 0 words tags log₀ logtags₀ starts₀ maps₀ buckets₀ special e L f all next_low S.counts off_rings

  pub next-nested : NestedF words n log₀ logtags₀ starts₀ maps₀ e 0 all (function (mod_of words n) f)
  next-nested = nested-function n 0 words tags log₀ logtags₀ starts₀ maps₀ buckets₀ special e L f all next_low S.counts off_rings

  here : At (source (mod_of words n)) s
  here = at n 0 words tags log₀ logtags₀ starts₀ maps₀ buckets₀ special e L

  next-at : At (source (mod_of words n)) next
  next-at = function-at here f low off_rings

  module _ (stacks₀ : List (List ℕ)) (r : Sizes) (log logtags : List ℕ) (starts maps : List (List ℕ)) (buckets : List ℕ) (stacks : List (List ℕ)) (N : ImportFunctionEnsures words (ReadyF 0 (mod_of words n) (Ready 0 (mod_of words n) all) (follow_s 0 (mod_of words n) all) (function (mod_of words n) f)) (append_s 0 (mod_of words n) (follow_s 0 (mod_of words n) all) f) log₀ logtags₀ starts₀ maps₀ buckets₀ stacks₀ e r log logtags starts maps buckets stacks) where
    pub next-room : r.full ≡ true → ⊥
    next-room q =
        let z : size_r (table_of log₀ logtags₀ starts₀ e.counts 7) + (e.exprtop + e.bodytop) ≡ 0 = omega (arith, (none-held log₀ logtags₀ starts₀ e.counts L.no_entries).1, L.lowest.0, L.lowest.1) in
        not_over (subst (λ (y : Derived). Over 0 y) appends (subst (λ (k : ℕ). Over k (append_s 0 (mod_of words n) (follow_s 0 (mod_of words n) all) f s)) z (N.over q special (ready-function n 0 words tags log₀ logtags₀ starts₀ maps₀ buckets₀ special e L f all next_low S.counts off_rings))))

    module _ (q : r.full ≡ false) where
      next-same : next ≡ st_of words log logtags starts maps special r
      next-same = sym appends ∙ N.is q special

      next-reached : Reached (session_of true n 0 words log logtags starts maps special r)
      unfolding session_of
      next-reached = at-reached (subst (At (source (mod_of words n))) next-same next-at)

      more-types : get_or e.counts 1 0 ≤ get_or r.counts 1 0
      more-types =
          let g = (function-next (mod_of words n) here.set.well here.set.passes 0 f s low off_rings here.set.holds).grown.tables.longer types in
          let h : count s.recs types ≤ count (st_of words log logtags starts maps special r).recs types = subst (λ (y : Derived). count s.recs types ≤ count y.recs types) next-same g in
          omega (arith, h, types_many words special log₀ logtags₀ starts₀ maps₀ buckets₀ e L.kept, types_many words special log logtags starts maps buckets r (N.kept q))

      pub next-live : ValidSession true n 0 words tags log logtags starts maps buckets special r
      next-live = record {
        reached = next-reached;
        kept = N.kept q;
        specials = specials_more (N.along q).pairs-same more-types L.specials;
        words_long = L.words_long;
        tape_long = L.tape_long;
        taped = L.taped;
        passes = L.passes;
        no_entries = (N.along q).entries_same.1 ∙ L.no_entries;
        lowest = ((N.tops q).0 ∙ L.lowest.0, (N.tops q).1 ∙ L.lowest.1);
        going = q;
      }

      pub next_roomy : Roomy (mod_of words n) is (st_of words log logtags starts maps special r)
      unfolding Roomy
      next_roomy = subst (Roomy (mod_of words n) is) next-same R.2

      pub next_left : append_all is 0 (mod_of words n) (st_of words log logtags starts maps special r) ≡ append_all (f ∷ is) 0 (mod_of words n) s
      unfolding append_all
      next_left = sym (ap (append_all is 0 (mod_of words n)) next-same)

-- ---- the loop
pub never : (b : Bool) → (b ≡ true → ⊥) → b ≡ false
never true h = absurd (h refl)
never false h = refl

-- at function i: the session is valid, and what is left to append gives the whole
pub record Turn (words tags : List ℕ) (n : ℕ) (order : List ℕ) (all : ℕ) (whole : Derived) (i : ℕ) (log logtags : List ℕ) (starts maps : List (List ℕ)) (buckets special : List ℕ) (stacks : List (List ℕ)) (e : Sizes) : Type 0 where
  pub upto : i ≤ all
  pub live : ValidSession true n 0 words tags log logtags starts maps buckets special e
  pub stacks_are : Stacks stacks e
  pub roomy : Roomy (mod_of words n) (slice i all order) (st_of words log logtags starts maps special e)
  pub left : append_all (slice i all order) 0 (mod_of words n) (st_of words log logtags starts maps special e) ≡ whole

module _ (words tags : List ℕ) (n : ℕ) (order : List ℕ) (all : ℕ) (S : Sequence words n order all) where
  module _ (log logtags : List ℕ) (starts maps : List (List ℕ)) (buckets special : List ℕ) (stacks : List (List ℕ)) (e : Sizes) (L : ValidSession true n 0 words tags log logtags starts maps buckets special e) where
    pub turn-first : Stacks stacks e → Roomy (mod_of words n) (take all order) (st_of words log logtags starts maps special e) → Turn words tags n order all (append_all (take all order) 0 (mod_of words n) (st_of words log logtags starts maps special e)) 0 log logtags starts maps buckets special stacks e
    turn-first K R = record { upto = omega arith; live = L; stacks_are = K; roomy = R; left = refl }

  module _ (whole : Derived) (i : ℕ) (log₀ logtags₀ : List ℕ) (starts₀ maps₀ : List (List ℕ)) (buckets₀ special : List ℕ) (stacks₀ : List (List ℕ)) (e : Sizes) (A : Turn words tags n order all whole i log₀ logtags₀ starts₀ maps₀ buckets₀ special stacks₀ e) where
    module _ (go : i < all) (f : ℕ) (fs : f ≡ get_or order i 0) where
      cons : slice i all order ≡ f ∷ slice (suc i) all order
      cons = slice-cons i all order 0 go (omega (arith, S.long)) ∙ ap (λ (k : ℕ). k ∷ slice (suc i) all order) (sym fs)

      roomy_cons : Roomy (mod_of words n) (f ∷ slice (suc i) all order) (st_of words log₀ logtags₀ starts₀ maps₀ special e)
      roomy_cons = subst (λ (l : List ℕ). Roomy (mod_of words n) l (st_of words log₀ logtags₀ starts₀ maps₀ special e)) cons A.roomy

      pub turn_asks : Ground words tags n × (f < count_at 6 words) × NestedF words n log₀ logtags₀ starts₀ maps₀ e 0 all (function (mod_of words n) f) × ((e.full ≡ false) × (Stacks stacks₀ e)) × ValidArrays log₀ logtags₀ starts₀ maps₀ buckets₀ e
      turn_asks =
          (ground n 0 words tags log₀ logtags₀ starts₀ maps₀ buckets₀ special e A.live, next_low words tags n order all S log₀ logtags₀ starts₀ maps₀ buckets₀ special e A.live f (slice (suc i) all order) roomy_cons, next-nested words tags n order all S log₀ logtags₀ starts₀ maps₀ buckets₀ special e A.live f (slice (suc i) all order) roomy_cons, (A.live.going, A.stacks_are), A.live.kept)

      behind : (r : Sizes) (log logtags : List ℕ) (starts maps : List (List ℕ)) (buckets : List ℕ) (stacks : List (List ℕ)) → ImportFunctionEnsures words (ReadyF 0 (mod_of words n) (Ready 0 (mod_of words n) all) (follow_s 0 (mod_of words n) all) (function (mod_of words n) f)) (append_s 0 (mod_of words n) (follow_s 0 (mod_of words n) all) f) log₀ logtags₀ starts₀ maps₀ buckets₀ stacks₀ e r log logtags starts maps buckets stacks
          → Turn words tags n order all whole (suc i) log logtags starts maps buckets special stacks r
      behind r log logtags starts maps buckets stacks N =
          let q = never r.full (next-room words tags n order all S log₀ logtags₀ starts₀ maps₀ buckets₀ special e A.live f (slice (suc i) all order) roomy_cons stacks₀ r log logtags starts maps buckets stacks N) in
          record {
            upto = omega arith;
            live = next-live words tags n order all S log₀ logtags₀ starts₀ maps₀ buckets₀ special e A.live f (slice (suc i) all order) roomy_cons stacks₀ r log logtags starts maps buckets stacks N q;
            stacks_are = N.stacks_are q;
            roomy = next_roomy words tags n order all S log₀ logtags₀ starts₀ maps₀ buckets₀ special e A.live f (slice (suc i) all order) roomy_cons stacks₀ r log logtags starts maps buckets stacks N q;
            left = next_left words tags n order all S log₀ logtags₀ starts₀ maps₀ buckets₀ special e A.live f (slice (suc i) all order) roomy_cons stacks₀ r log logtags starts maps buckets stacks N q ∙ sym (ap (λ (l : List ℕ). append_all l 0 (mod_of words n) (st_of words log₀ logtags₀ starts₀ maps₀ special e)) cons) ∙ A.left;
          }

      pub turn-next : (r : Sizes) (log logtags : List ℕ) (starts maps : List (List ℕ)) (buckets : List ℕ) (stacks : List (List ℕ)) → ImportFunctionEnsures words (ReadyF 0 (mod_of words n) (Ready 0 (mod_of words n) all) (follow_s 0 (mod_of words n) all) (function (mod_of words n) f)) (append_s 0 (mod_of words n) (follow_s 0 (mod_of words n) all) f) log₀ logtags₀ starts₀ maps₀ buckets₀ stacks₀ e r log logtags starts maps buckets stacks
          → Turn words tags n order all whole (i + 1) log logtags starts maps buckets special stacks r
      turn-next r log logtags starts maps buckets stacks N = subst (λ (k : ℕ). Turn words tags n order all whole k log logtags starts maps buckets special stacks r) (let q : suc i ≡ i + 1 = omega arith in q) (behind r log logtags starts maps buckets stacks N)

    pub turn_last : all ≤ i → (log₁ logtags₁ : List ℕ) (starts₁ maps₁ : List (List ℕ)) (e₁ : Sizes) → whole ≡ append_all (take all order) 0 (mod_of words n) (st_of words log₁ logtags₁ starts₁ maps₁ special e₁) → AppendAllEnsures words tags n (take all order) log₁ logtags₁ starts₁ maps₁ e₁ e log₀ logtags₀ starts₀ maps₀ buckets₀ special stacks₀
    unfolding append_all
    turn_last h log₁ logtags₁ starts₁ maps₁ e₁ w =
        let k : i ≡ all = omega (arith, A.upto) in
        record {
          same = sym w ∙ sym A.left ∙ ap (λ (l : List ℕ). append_all l 0 (mod_of words n) (st_of words log₀ logtags₀ starts₀ maps₀ special e)) (ap (λ (j : ℕ). slice j all order) k ∙ slice_empty all order);
          live = A.live;
          stacks_are = A.stacks_are;
        }

-- ---- a part of an order as a list of its own
pub seq_taken : (words : List ℕ) (n : ℕ) (order : List ℕ) (all : ℕ) → Sequence words n order all → Sequence words n (take all order) (length (take all order))
seq_taken words n order all S = record { is = S.is ∙ sym (ap ordered (take-length (take all order))); counts = length-take-le all order S.long ∙ S.counts; long = omega arith }
