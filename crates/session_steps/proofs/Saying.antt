-- What each operation answers and leaves is what its step answers and leaves: an operation's answer as three words, and the part of the output that a finish writes.
use mathlib.Core.Path.{◌≡◌, refl, sym, ap, ◌∙◌, subst}
use mathlib.Core.Bool.{Bool, true, false, false≢true}
use mir.Val.{bool_byte}
use mathlib.Core.List.{List}
use Prim.Native.Nat.{ℕ, zero, suc, ◌≤◌}
use native.Mathlib.Omega.{arith}
use lib.ListN.{length, get_or-eq_default}
use Rattle.base_words.specs.Words.{words_of, bytes_of}
use Rattle.model.specs.Imports.{emptied}
use Rattle.model.specs.Session.{Session, Answer as Answered, with_source, set, clear, map_span, importing, rename_type, import_function, map_function_handle}
use Rattle.model.specs.Steps.{Said, operations, unknown, says, bit, perform, part}
use Rattle.derive_limits.specs.Reached.{Reached, Public}
use Rattle.derive_limits.proofs.Reached.{does-reached}
use Rattle.theory_sessions.specs.Operating.{does, clears}
use Rattle.model.specs.Tables.{types, constants, overrides, globals, exprs}
use Rattle.derive_state.specs.Sizes.{Sizes}
use Rattle.derive_session.specs.Valid.{session_of, ValidSession}
use Rattle.std.specs.Prelude.{Result, Ok, Err}
use Rattle.base_refusals.specs.Numbers.{number_of as refused_by}
use Rattle.base_refusals.specs.declared.Refusal.{Refusal}
use Rattle.derive_finish.specs.Told.{refusal_of}
use Rattle.session_operations.specs.Answers.{value_in}
use Rattle.session_operations.specs.Operations.{answer_of, OperationEnsures, MapSpanEnsures, RequiredEnsures}
use Rattle.session_steps.specs.declared.Operation.{Operation}
use Rattle.session_steps.specs.Numbers.{number_of}
use Rattle.session_steps.specs.Stepped.{saying, PerformEnsures, Quiet, Recorded, value_of}

-- ---- answers as words
pub value_none : (k : ℕ) → value_of k 0 ≡ 0
unfolding value_of
value_none zero = refl
value_none (suc k) = refl

says-stepped : {A : Type 0} (op : Session → Answered A) (values : A → ℕ × ℕ) (s : Session) (k : ℕ) (v : A) (s' : Session) (output : List ℕ) → OperationEnsures op s k v s' → PerformEnsures (says s values (op s)) k (value_of k (values v).0) (value_of k (values v).1) output output s'
unfolding says answer_of value_of bytes_of
says-stepped op values s zero v s' output d = rw d.is (record { refusal_is = refl; first_is = refl; second_is = refl; output_is = refl; session_is = refl })
says-stepped op values s (suc k) v s' output d = rw d.is (record { refusal_is = refl; first_is = refl; second_is = refl; output_is = refl; session_is = d.stays (omega arith) })

-- ---- steps that import
module _ {o a b c : ℕ} {s s' : Session} {k v : ℕ} where
  recorded : (op : Session → Answered ℕ) → ((sources output : List ℕ) → saying o a b c sources output s ≡ says s (λ (n : ℕ). (n, 0)) (op s)) → OperationEnsures op s k v s' → Recorded o a b c s k (value_of k v) s'
  recorded op e d = record {
    is = λ sources output.
        let h = says-stepped op (λ (n : ℕ). (n, 0)) s k v s' output d in
        subst (λ (x : Said). PerformEnsures x k (value_of k v) 0 output output s') (sym (e sources output))
        (record { refusal_is = h.refusal_is; first_is = h.first_is; second_is = sym (value_none k) ∙ h.second_is; output_is = h.output_is; session_is = h.session_is });
  }

  pub type_recorded : o ≡ 3 → OperationEnsures (importing types a) s k v s' → Recorded o a b c s k (value_of k v) s'
  unfolding operations perform
  type_recorded e = recorded (importing types a) (λ sources output. rw (e))

  pub rename_recorded : o ≡ 4 → OperationEnsures (rename_type a b) s k v s' → Recorded o a b c s k (value_of k v) s'
  unfolding operations perform
  rename_recorded e = recorded (rename_type a b) (λ sources output. rw (e))

  pub constant_recorded : o ≡ 5 → OperationEnsures (importing constants a) s k v s' → Recorded o a b c s k (value_of k v) s'
  unfolding operations perform
  constant_recorded e = recorded (importing constants a) (λ sources output. rw (e))

  pub override_recorded : o ≡ 6 → OperationEnsures (importing overrides a) s k v s' → Recorded o a b c s k (value_of k v) s'
  unfolding operations perform
  override_recorded e = recorded (importing overrides a) (λ sources output. rw (e))

  pub global_recorded : o ≡ 7 → OperationEnsures (importing globals a) s k v s' → Recorded o a b c s k (value_of k v) s'
  unfolding operations perform
  global_recorded e = recorded (importing globals a) (λ sources output. rw (e))

  pub expression_recorded : o ≡ 8 → OperationEnsures (importing exprs a) s k v s' → Recorded o a b c s k (value_of k v) s'
  unfolding operations perform
  expression_recorded e = recorded (importing exprs a) (λ sources output. rw (e))

  pub function_recorded : o ≡ 9 → OperationEnsures (import_function a) s k v s' → Recorded o a b c s k (value_of k v) s'
  unfolding operations perform
  function_recorded e = recorded (import_function a) (λ sources output. rw (e))

  pub new_recorded : o ≡ 10 → OperationEnsures (map_function_handle a) s k v s' → Recorded o a b c s k (value_of k v) s'
  unfolding operations perform
  new_recorded e = recorded (map_function_handle a) (λ sources output. rw (e))

  pub handle_recorded : o ≡ 11 → OperationEnsures (map_function_handle a) s k v s' → Recorded o a b c s k (value_of k v) s'
  unfolding operations perform
  handle_recorded e = recorded (map_function_handle a) (λ sources output. rw (e))

-- 13: no operation
pub none_stepped : (o a b c : ℕ) (sources output : List ℕ) (s : Session) → 15 ≤ o → PerformEnsures (saying o a b c sources output s) 13 0 0 output output s
unfolding operations perform says bytes_of
none_stepped o a b c sources output s h = rw (get_or-eq_default operations unknown h) (record { refusal_is = refl; first_is = refl; second_is = refl; output_is = refl; session_is = refl })

-- ---- setting a source
pub set-quiet : (a b c : ℕ) (sources image : List ℕ) (s s' : Session) (k : ℕ) → part a b sources ≡ image → OperationEnsures (set (length image) (words_of image) c) s k tt s' → Quiet 0 a b c sources s (record { refusal = k; first = 0; second = 0 }) s'
unfolding operations perform
set-quiet a b c sources image s s' k e d = record {
  is = λ output.
      rw (e)
      (let h = says-stepped (set (length image) (words_of image) c) (λ u. (0, 0)) s k tt s' output d in
      record { refusal_is = h.refusal_is; first_is = sym (value_none k) ∙ h.first_is; second_is = sym (value_none k) ∙ h.second_is; output_is = h.output_is; session_is = h.session_is });
}

-- ---- operations that import nothing
module _ (set : Bool) (n o : ℕ) (words log logtags : List ℕ) (starts maps : List (List ℕ)) (special : List ℕ) (e : Sizes) (a b c : ℕ) (sources output : List ℕ) where
  abbrev held : Session
  held = session_of set n o words log logtags starts maps special e

  cleared : session_of false n o words log logtags starts maps special e ≡ clear held
  unfolding session_of clear emptied
  cleared = go set
    where
      go : (set : Bool) → session_of false n o words log logtags starts maps special e ≡ clear (session_of set n o words log logtags starts maps special e)
      go true = refl
      go false = refl

  pub clear-stepped : PerformEnsures (saying 1 a b c sources output held) 0 0 0 output output (session_of false n o words log logtags starts maps special e)
  unfolding operations perform says bytes_of
  clear-stepped = record { refusal_is = refl; first_is = refl; second_is = refl; output_is = refl; session_is = cleared }

  pub clear-live : (tags buckets : List ℕ) → ValidSession set n o words tags log logtags starts maps buckets special e → ValidSession false n o words tags log logtags starts maps buckets special e
  unfolding does Public
  clear-live tags buckets L = record {
    reached = subst Reached (sym cleared) (does-reached clears tt held L.reached);
    kept = L.kept;
    specials = L.specials;
    words_long = L.words_long;
    tape_long = L.tape_long;
    taped = λ q. absurd (false≢true q);
    passes = λ q. absurd (false≢true q);
    no_entries = L.no_entries;
    lowest = L.lowest;
    going = L.going;
  }

  pub span_stepped : (k x y : ℕ) → MapSpanEnsures set o a b k x y → PerformEnsures (saying 2 a b c sources output held) k x y output output held
  unfolding operations perform says bytes_of map_span with_source session_of
  span_stepped k x y d = go set d
    where
      go : (set : Bool) → MapSpanEnsures set o a b k x y → PerformEnsures (saying 2 a b c sources output (session_of set n o words log logtags starts maps special e)) k x y output output (session_of set n o words log logtags starts maps special e)
      go true d = let h = d.is refl in record { refusal_is = h.0; first_is = ap (λ (p : ℕ × ℕ). p.0) h.1; second_is = ap (λ (p : ℕ × ℕ). p.1) h.1; output_is = refl; session_is = refl }
      go false d = let h = d.none-set refl in record { refusal_is = h.0; first_is = h.1; second_is = h.2; output_is = refl; session_is = refl }

  pub required_stepped : (r : Bool) → RequiredEnsures special e r → (v : ℕ) → v ≡ bit r → PerformEnsures (saying 12 a b c sources output held) 0 v 0 output output held
  unfolding operations perform says bytes_of
  required_stepped r d v q = record { refusal_is = refl; first_is = q ∙ ap bit (d.is set n o words log logtags starts maps); second_is = refl; output_is = refl; session_is = refl }

pub bit_is : (r : Bool) (v : ℕ) → v ≡ bool_byte r → v ≡ bit r
unfolding bit
bit_is true v q = q
bit_is false v q = q

-- ---- a step by the number of its operation
pub number_is : {o p : Operation} {n : ℕ} → number_of o ≡ n → o ≡ p → n ≡ number_of p
number_is h e = sym h ∙ ap number_of e

pub by_number : (a b c : ℕ) (sources output₀ : List ℕ) (s : Session) {o p k u v : ℕ} {output : List ℕ} {s' : Session} → o ≡ p → PerformEnsures (saying p a b c sources output₀ s) k u v output₀ output s' → PerformEnsures (saying o a b c sources output₀ s) k u v output₀ output s'
by_number a b c sources output₀ s {k = k} {u = u} {v = v} {output = output} {s' = s'} e h = subst (λ (y : ℕ). PerformEnsures (saying y a b c sources output₀ s) k u v output₀ output s') (sym e) h

pub by_first : {x : Said} {k u u' v : ℕ} {output₀ output : List ℕ} {s' : Session} → u' ≡ u → PerformEnsures x k u v output₀ output s' → PerformEnsures x k u' v output₀ output s'
by_first e h = record { refusal_is = h.refusal_is; first_is = e ∙ h.first_is; second_is = h.second_is; output_is = h.output_is; session_is = h.session_is }

-- a refused import answers no number
pub first_is : (said : Result ℕ Refusal) → value_in said ≡ value_of (refusal_of said) (value_in said)
unfolding value_of
first_is (Ok i) = refl
first_is (Err e) = sym (value_none (refused_by e))
