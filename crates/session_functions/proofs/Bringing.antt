-- import_function and map_function_handle answer what the model's operations answer, and the session after them is valid: each refusal in its sequence, and what is
-- answered where the function is imported.
use mathlib.Core.Path.{◌≡◌, refl, sym, ap, subst, ◌∙◌}
use mathlib.Core.Bool.{Bool, true, false}
use mathlib.Core.List.{List, [], ◌∷◌}
use mathlib.Core.Option.{some}
use Prim.Native.Nat.{ℕ, pred, ◌+◌, ◌≤◌, ◌<◌}
use native.Mathlib.Omega.{arith}
use lib.Dec.{ltb}
use lib.ListN.{length, get_or, length-map}
use borrow.Author.Tests.{lt-ltb, le-ltb}
use Rattle.model.specs.Module.{Module, count_at}
use Rattle.model.specs.Callees.{callees}
use Rattle.model.specs.Redirect.{function}
use Rattle.model.specs.Tables.{types, count}
use Rattle.model.specs.Imports.{Derived}
use Rattle.model.specs.Bodies.{known, append, follow}
use Rattle.model.specs.Refusals.{NUMBER_GIVEN, NO_SOURCE, FULL, UNKNOWN_RING}
use Rattle.model.specs.Session.{Source, Session, Answer, answered, refused, after, with_source, unless_full, meets_ring, import_function, map_function_handle}
use Rattle.theory_sessions.specs.Operating.{does, functions, handles}
use Rattle.theory_sessions.specs.Holding.{handle_last}
use Rattle.derive_imports.proofs.Growth.{Grow}
use Rattle.derive_limits.proofs.Growing.{function_grows, follow_grows}
use Rattle.derive_limits.specs.Reached.{Reached, At, Public}
use Rattle.derive_limits.proofs.Reached.{does-reached, function-at, handle_at}
use Rattle.derive_limits.proofs.Theorems.{exact-at, kept_full, kept-room, kept_not_over}
use Rattle.derive_special.proofs.Deriving.{specials_more}
use Rattle.derive_state.specs.Refers.{tab_of}
use Rattle.derive_state.specs.Flats.{function_of}
use Rattle.derive_state.specs.Source.{mod_of}
use Rattle.derive_state.specs.Held.{table_of, functions_of, st_of, size_r, Over, ValidArrays}
use Rattle.derive_state.specs.Sizes.{Sizes}
use Rattle.derive_state.proofs.State.{table_long, tab_long}
use Rattle.derive_state.proofs.Laws.{none-held}
use Rattle.function_nesting.specs.Nested.{append_s, follow_s}
use Rattle.derive_session.specs.Valid.{session_of, ValidSession}
use Rattle.session_operations.specs.Operations.{answer_of, OperationEnsures}
use Rattle.session_functions.specs.Brought.{Brings}
use Rattle.function_entry.proofs.Sources as Sources

-- ---- refusals in their sequence: no such function, then a ring
abbrev tests : Bool → Bool → Answer ℕ → Answer ℕ
tests b c a = elim b [ true ↦ elim c [ true ↦ refused UNKNOWN_RING | false ↦ a ] | false ↦ refused NUMBER_GIVEN ]

tests_out : (b c : Bool) (a : Answer ℕ) → b ≡ false → tests b c a ≡ refused NUMBER_GIVEN
tests_out b c a p = rw p

tests_ring : (b c : Bool) (a : Answer ℕ) → b ≡ true → c ≡ true → tests b c a ≡ refused UNKNOWN_RING
tests_ring b c a p q = rw (p, q)

tests_free : (b c : Bool) (a : Answer ℕ) → b ≡ true → c ≡ false → tests b c a ≡ a
tests_free b c a p q = rw (p, q)

-- ---- no source
module _ (n o : ℕ) (words log logtags : List ℕ) (starts maps : List (List ℕ)) (special : List ℕ) (e : Sizes) (f : ℕ) where
  abbrev none : Session
  none = session_of false n o words log logtags starts maps special e

  pub import_none : OperationEnsures {A = ℕ} (import_function f) none NO_SOURCE 0 none
  unfolding import_function with_source session_of answer_of
  import_none = record { is = refl; stays = λ q. refl }

  pub handle_none : OperationEnsures {A = ℕ} (map_function_handle f) none NO_SOURCE 0 none
  unfolding map_function_handle with_source session_of answer_of
  handle_none = record { is = refl; stays = λ q. refl }

module _ (n o : ℕ) (words tags log logtags : List ℕ) (starts maps : List (List ℕ)) (buckets special : List ℕ) (e : Sizes) (L : ValidSession true n o words tags log logtags starts maps buckets special e) where
  abbrev m : Module
  m = mod_of words n

  abbrev x : Source
  x = record { image = mod_of words n; offset = o }

  abbrev s : Derived
  s = st_of words log logtags starts maps special e

  abbrev before : Session
  before = session_of true n o words log logtags starts maps special e

  functions_are : count_at 6 words ≡ length (mod_of words n).functions
  functions_are = Sources.functions_are n o words tags log logtags starts maps buckets special e L

  at : At x s
  at = Sources.at n o words tags log logtags starts maps buckets special e L

  -- ---- what becomes of its state
  module _ (g : Derived → Derived) (R : Derived) (same : g s ≡ R) (there : At x R) (more : Grow s R)
      (r : Sizes) (log' logtags' : List ℕ) (starts' maps' : List (List ℕ)) (buckets' : List ℕ) (stacks : List (List ℕ)) (B : Brings words special g log logtags starts maps e r log' logtags' starts' maps' buckets' stacks) where
    abbrev behind : Session
    behind = session_of true n o words log' logtags' starts' maps' special r

    abbrev stayed : Session
    stayed = session_of true n o words log' logtags' starts' maps' special e

    -- it does not fit
    module _ (q : r.full ≡ true) where
      full_over : Over 0 R
      full_over =
          let z = (none-held log logtags starts e.counts L.no_entries).1 in
          let k : size_r (table_of log logtags starts e.counts 7) + (e.exprtop + e.bodytop) ≡ 0 = omega (arith, L.lowest.0, L.lowest.1) in
          subst (λ i. Over i R) k (subst (λ (t : Derived). Over (size_r (table_of log logtags starts e.counts 7) + (e.exprtop + e.bodytop)) t) same (B.over q))

      answer_full : {A : Type 0} (a : A) → unless_full x R a ≡ refused FULL
      answer_full a = kept_full x a (exact-at there) full_over

      session-stays : stayed ≡ before
      unfolding session_of
      session-stays = ap (λ (t : Derived). record { source = some x; state = t }) (B.stays q).0

      pub live-stays : ValidSession true n o words tags log' logtags' starts' maps' buckets' special e
      live-stays = record {
        reached = subst Reached (sym session-stays) L.reached;
        kept = (B.stays q).1;
        specials = L.specials;
        words_long = L.words_long;
        tape_long = L.tape_long;
        taped = L.taped;
        passes = L.passes;
        no_entries = L.no_entries;
        lowest = L.lowest;
        going = L.going;
      }

    -- it fits
    module _ (q : r.full ≡ false) where
      abbrev K : ValidArrays log' logtags' starts' maps' buckets' r
      K = (B.is q).1

      state_is : R ≡ st_of words log' logtags' starts' maps' special r
      state_is = sym same ∙ (B.is q).0

      no_entries : get_or r.counts 7 0 ≡ 0
      no_entries = (B.beside q).0 ∙ L.no_entries

      answer_done : {A : Type 0} (a : A) → unless_full x R a ≡ answered a behind
      unfolding session_of
      answer_done a = kept-room x a (exact-at there) (λ z. kept_not_over K no_entries words special (subst (Over 0) state_is z)) ∙ ap (λ (t : Derived). answered a (record { source = some x; state = t })) state_is

      functions_long : length R.functions ≡ get_or r.counts 6 0
      unfolding st_of functions_of
      functions_long = ap (λ (t : Derived). length t.functions) state_is ∙ length-map (table_of log' logtags' starts' r.counts 6) function_of ∙ table_long log' logtags' starts' maps' buckets' r K 6 (omega arith)

      types_more : get_or e.counts 1 0 ≤ get_or r.counts 1 0
      unfolding st_of count tab_of
      types_more =
          let a = tab_long log logtags starts maps buckets e L.kept 1 (omega arith) in
          let b = tab_long log' logtags' starts' maps' buckets' r K 1 (omega arith) in
          let c = more.rows types in
          let d = ap (λ (t : Derived). count t.recs types) state_is in
          omega arith

      pub live_done : Reached behind → ValidSession true n o words tags log' logtags' starts' maps' buckets' special r
      live_done h = record {
        reached = h;
        kept = K;
        specials = specials_more (B.beside q).1 types_more L.specials;
        words_long = L.words_long;
        tape_long = L.tape_long;
        taped = L.taped;
        passes = L.passes;
        no_entries = no_entries;
        lowest = ((B.beside q).2 ∙ L.lowest.0, (B.beside q).3 ∙ L.lowest.1);
        going = q;
      }

  -- ---- function f
  module _ (f : ℕ) where
    module _ (h : count_at 6 words ≤ f) where
      pub import_no_record : OperationEnsures {A = ℕ} (import_function f) before NUMBER_GIVEN 0 before
      unfolding import_function with_source session_of answer_of
      import_no_record = record { is = tests_out (ltb f (length (mod_of words n).functions)) (meets_ring (f ∷ callees (function (mod_of words n) f)) (mod_of words n) s) (let r = append o (mod_of words n) (follow o (mod_of words n)) f s in unless_full x r (pred (length r.functions))) (le-ltb f (length (mod_of words n).functions) (omega (arith, functions_are))); stays = λ q. refl }

      pub handle_no_record : OperationEnsures {A = ℕ} (map_function_handle f) before NUMBER_GIVEN 0 before
      unfolding map_function_handle with_source session_of answer_of
      handle_no_record = record { is = tests_out (ltb f (length (mod_of words n).functions)) (meets_ring (f ∷ []) (mod_of words n) s) (let r = follow o (mod_of words n) f s in unless_full x r (pred (known (mod_of words n) r f))) (le-ltb f (length (mod_of words n).functions) (omega (arith, functions_are))); stays = λ q. refl }

    module _ (l : f < count_at 6 words) where
      low : f < length (mod_of words n).functions
      low = omega (arith, functions_are)

      -- ---- import_function
      pub import_ring : meets_ring (f ∷ callees (function (mod_of words n) f)) (mod_of words n) s ≡ true → OperationEnsures {A = ℕ} (import_function f) before UNKNOWN_RING 0 before
      unfolding import_function with_source session_of answer_of
      import_ring q = record { is = tests_ring (ltb f (length (mod_of words n).functions)) (meets_ring (f ∷ callees (function (mod_of words n) f)) (mod_of words n) s) _ (lt-ltb f (length (mod_of words n).functions) low) q; stays = λ z. refl }

      module _ (c : meets_ring (f ∷ callees (function (mod_of words n) f)) (mod_of words n) s ≡ false) (room : ℕ) (k : room ≡ count_at 6 words)
          (r : Sizes) (log' logtags' : List ℕ) (starts' maps' : List (List ℕ)) (buckets' : List ℕ) (stacks : List (List ℕ))
          (B : Brings words special (append_s o (mod_of words n) (follow_s o (mod_of words n) room) f) log logtags starts maps e r log' logtags' starts' maps' buckets' stacks) where
        abbrev R : Derived
        R = append o (mod_of words n) (follow o (mod_of words n)) f s

        same : append_s o (mod_of words n) (follow_s o (mod_of words n) room) f s ≡ R
        same = Sources.append-same n o words tags log logtags starts maps buckets special e L f room l k c

        there : At x R
        there = function-at at f low c

        more : Grow s R
        more = function_grows (mod_of words n) (L.passes refl).numbers o s f

        import_is : import_function f before ≡ unless_full x R (pred (length R.functions))
        unfolding import_function with_source session_of
        import_is = tests_free (ltb f (length (mod_of words n).functions)) (meets_ring (f ∷ callees (function (mod_of words n) f)) (mod_of words n) s) _ (lt-ltb f (length (mod_of words n).functions) low) c

        pub import_full : r.full ≡ true → OperationEnsures {A = ℕ} (import_function f) before FULL 0 (session_of true n o words log' logtags' starts' maps' special e)
        unfolding answer_of
        import_full q = record { is = import_is ∙ answer_full _ R same there more r log' logtags' starts' maps' buckets' stacks B q _; stays = λ z. session-stays _ R same there more r log' logtags' starts' maps' buckets' stacks B q }

        pub import_full_live : r.full ≡ true → ValidSession true n o words tags log' logtags' starts' maps' buckets' special e
        import_full_live q = live-stays _ R same there more r log' logtags' starts' maps' buckets' stacks B q

        module _ (q : r.full ≡ false) where
          import_answers : import_function f before ≡ answered (pred (get_or r.counts 6 0)) (session_of true n o words log' logtags' starts' maps' special r)
          import_answers = import_is ∙ answer_done _ R same there more r log' logtags' starts' maps' buckets' stacks B q _
              ∙ ap (λ v. answered (pred v) (session_of true n o words log' logtags' starts' maps' special r)) (functions_long _ R same there more r log' logtags' starts' maps' buckets' stacks B q)

          pub import_done : (v : ℕ) → v ≡ pred (get_or r.counts 6 0) → OperationEnsures {A = ℕ} (import_function f) before 0 v (session_of true n o words log' logtags' starts' maps' special r)
          unfolding answer_of
          import_done v p = record { is = rw p import_answers; stays = λ z. absurd (omega arith) }

          pub import_done_live : ValidSession true n o words tags log' logtags' starts' maps' buckets' special r
          unfolding does after Public
          import_done_live = live_done _ R same there more r log' logtags' starts' maps' buckets' stacks B q (subst (λ (a : Answer ℕ). Reached (after before a)) import_answers (does-reached (functions f) tt before L.reached))

      -- ---- map_function_handle
      pub handle_ring : meets_ring (f ∷ []) (mod_of words n) s ≡ true → OperationEnsures {A = ℕ} (map_function_handle f) before UNKNOWN_RING 0 before
      unfolding map_function_handle with_source session_of answer_of
      handle_ring q = record { is = tests_ring (ltb f (length (mod_of words n).functions)) (meets_ring (f ∷ []) (mod_of words n) s) _ (lt-ltb f (length (mod_of words n).functions) low) q; stays = λ z. refl }

      module _ (c : meets_ring (f ∷ []) (mod_of words n) s ≡ false) (room : ℕ) (k : room ≡ count_at 6 words)
          (r : Sizes) (log' logtags' : List ℕ) (starts' maps' : List (List ℕ)) (buckets' : List ℕ) (stacks : List (List ℕ))
          (B : Brings words special (follow_s o (mod_of words n) room f) log logtags starts maps e r log' logtags' starts' maps' buckets' stacks) where
        abbrev Q : Derived
        Q = follow o (mod_of words n) f s

        same' : follow_s o (mod_of words n) room f s ≡ Q
        same' = Sources.follow-same n o words tags log logtags starts maps buckets special e L f room l k c

        there' : At x Q
        there' = handle_at at f low c

        more' : Grow s Q
        more' = follow_grows (mod_of words n) (L.passes refl).numbers o s f

        handle_is : map_function_handle f before ≡ unless_full x Q (pred (known (mod_of words n) Q f))
        unfolding map_function_handle with_source session_of
        handle_is = tests_free (ltb f (length (mod_of words n).functions)) (meets_ring (f ∷ []) (mod_of words n) s) _ (lt-ltb f (length (mod_of words n).functions) low) c

        pub handle_full : r.full ≡ true → OperationEnsures {A = ℕ} (map_function_handle f) before FULL 0 (session_of true n o words log' logtags' starts' maps' special e)
        unfolding answer_of
        handle_full q = record { is = handle_is ∙ answer_full _ Q same' there' more' r log' logtags' starts' maps' buckets' stacks B q _; stays = λ z. session-stays _ Q same' there' more' r log' logtags' starts' maps' buckets' stacks B q }

        pub handle_full_live : r.full ≡ true → ValidSession true n o words tags log' logtags' starts' maps' buckets' special e
        handle_full_live q = live-stays _ Q same' there' more' r log' logtags' starts' maps' buckets' stacks B q

        module _ (q : r.full ≡ false) where
          -- by its name, which the state that is left has
          handle_answers : map_function_handle f before ≡ answered (pred (known (mod_of words n) (st_of words log' logtags' starts' maps' special r) f)) (session_of true n o words log' logtags' starts' maps' special r)
          handle_answers = handle_is ∙ answer_done _ Q same' there' more' r log' logtags' starts' maps' buckets' stacks B q _
              ∙ ap (λ (t : Derived). answered (pred (known (mod_of words n) t f)) (session_of true n o words log' logtags' starts' maps' special r)) (state_is _ Q same' there' more' r log' logtags' starts' maps' buckets' stacks B q)

          pub handle_done : (d : ℕ) → d ≡ known (mod_of words n) (st_of words log' logtags' starts' maps' special r) f → (v : ℕ) → v ≡ pred d → OperationEnsures {A = ℕ} (map_function_handle f) before 0 v (session_of true n o words log' logtags' starts' maps' special r)
          unfolding answer_of
          handle_done d h v p = record { is = rw (p, h) handle_answers; stays = λ z. absurd (omega arith) }

          -- it was not known: then it is the last function
          pub handle_made : known (mod_of words n) s f ≡ 0 → get_or r.counts 6 0 ≡ known (mod_of words n) (st_of words log' logtags' starts' maps' special r) f
          handle_made z = sym (functions_long _ Q same' there' more' r log' logtags' starts' maps' buckets' stacks B q) ∙ sym (handle_last (mod_of words n) at.set.well at.set.passes o f s low c at.set.holds z)
              ∙ ap (λ (t : Derived). known (mod_of words n) t f) (state_is _ Q same' there' more' r log' logtags' starts' maps' buckets' stacks B q)

          pub handle_done_live : ValidSession true n o words tags log' logtags' starts' maps' buckets' special r
          unfolding does after Public
          handle_done_live = live_done _ Q same' there' more' r log' logtags' starts' maps' buckets' stacks B q (subst (λ (a : Answer ℕ). Reached (after before a)) handle_answers (does-reached (handles f) tt before L.reached))
