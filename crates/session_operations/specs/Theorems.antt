-- CLEARING: a session whose source is cleared is held by the arrays that held it before. What `MapSpanEnsures` says is what the model's map_span answers. STACKS: an operation on records
-- that leaves stacks as they were leaves a valid session valid.
use Rattle.std.specs.Prelude.{◌≡◌, ℕ, Bool, true, false, List}
use Rattle.std.proofs.Math.Path.{refl, subst}
use Rattle.std.proofs.lemmas.Bool.{false≢true}
use native.Mathlib.Omega.{arith}
use Rattle.model.specs.Imports.{emptied}
use Rattle.model.specs.Session.{Session as Session', Answer, with_source, clear, map_span}
use Rattle.theory_sessions.specs.Operating.{clears, does}
use Rattle.derive_limits.specs.Reached.{Public, Reached}
use Rattle.derive_limits.proofs.Reached.{does-reached}
use Rattle.derive_state.specs.Sizes.{Sizes}
use Rattle.function_builder.specs.Stacks.{Stacks}
use Rattle.derive_session.specs.Valid.{session_of, ValidSession}
use Rattle.session_operations.specs.Operations.{answer_of, OperationEnsures, MapSpanEnsures}
use Rattle.session_operations.specs.declared.Session.{Session}
use Rattle.session_operations.specs.Sessions.{Valid, OperatesOnRecords, FinishesRecords, Operates, Finishes}

-- ---- clear_shader_source: nothing is written
module _ (n o : ℕ) (words tags log logtags : List ℕ) (starts maps : List (List ℕ)) (buckets special : List ℕ) (e : Sizes) where
  pub clears_to : (set : Bool) → clear (session_of set n o words log logtags starts maps special e) ≡ session_of false n o words log logtags starts maps special e
  unfolding session_of clear emptied
  clears_to true = refl
  clears_to false = refl

  pub valid_cleared : (set : Bool) → ValidSession set n o words tags log logtags starts maps buckets special e → ValidSession false n o words tags log logtags starts maps buckets special e
  unfolding does Public
  valid_cleared set L = record {
    reached = subst Reached (clears_to set) (does-reached clears tt _ L.reached);
    kept = L.kept;
    specials = L.specials;
    words_long = L.words_long;
    tape_long = L.tape_long;
    taped = λ q. absurd (false≢true q);
    passes = λ q. absurd (false≢true q);
    no_entries = L.no_entries;
    lowest = L.lowest;
    going = L.going;
  }

  -- ---- map_span
  pub span_does : (set : Bool) (a b refusal start end : ℕ) → MapSpanEnsures set o a b refusal start end → OperationEnsures (map_span (a, b)) (session_of set n o words log logtags starts maps special e) refusal (start, end) (session_of set n o words log logtags starts maps special e)
  unfolding session_of map_span with_source answer_of
  span_does false a b refusal start end s = let z = (s.none-set refl).0 in record { is = rw z; stays = λ l. refl }
  span_does true a b refusal start end s = let z = s.is refl in record { is = rw (z.0, z.1); stays = λ l. refl }

-- ---- the stacks: between operations their tops are 0, and their lengths stay
pub stacks_low : {stacks : List (List ℕ)} {e e' : Sizes} → Stacks stacks e → (e'.exprtop ≡ 0) × (e'.bodytop ≡ 0) → Stacks stacks e'
stacks_low h l = record { four = h.four; rows = h.rows; high = let p = l.0 in omega arith; high' = let p = l.1 in omega arith }

module _ {s s' : Session} (v : Valid s) (same : s'.stacks.now ≡ s.stacks.now) where
  pub operates_valid : {A : Type 0} {op : Session' → Answer A} {refusal : ℕ} {value : A} → OperatesOnRecords op s refusal value s' → Operates op s refusal value s'
  operates_valid h = record { does = h.does; valid = record { session = h.valid; stacks = rw same (stacks_low v.stacks h.valid.lowest) }; same = h.same }

  pub finishes_valid : {op : Session' → Answer (List ℕ)} {refusal bytes : ℕ} {output₀ output : List ℕ} → FinishesRecords op s refusal bytes output₀ output s' → Finishes op s refusal bytes output₀ output s'
  finishes_valid h = record { does = h.does; valid = record { session = h.valid; stacks = rw same (stacks_low v.stacks h.valid.lowest) }; same = h.same }
