-- What an operation on a session promises: what the model's operation answers, with the session that the arrays hold after it.
use Rattle.std.specs.Prelude.{◌≡◌, ℕ, zero, suc, ◌<◌, Bool, true, false, List}
use Rattle.model.specs.Refusals.{NO_SOURCE}
use Rattle.model.specs.References.{span_by}
use Rattle.model.specs.Session.{Session, Answer, answered, refused, new, has_required_special_types}
use Rattle.derive_finish.specs.Told.{told}
use Rattle.derive_state.specs.Sizes.{Sizes}
use Rattle.derive_session.specs.Valid.{session_of}

-- a refusal, 0 for none, and a value
unfoldable pub answer_of : {A : Type 0} → ℕ → A → Session → Answer A
answer_of zero v s = answered v s
answer_of (suc k) v s = refused (suc k)

-- what an operation answers, with the session that the arrays hold then: the one that it leaves, or, where it is refused, the one that was there
pub record OperationEnsures {A : Type 0} (op : Session → Answer A) (before : Session) (refusal : ℕ) (value : A) (behind : Session) : Type 0 where
  pub is : op before ≡ answer_of refusal value behind
  pub stays : 0 < refusal → behind ≡ before

-- map_span: it leaves the session as it is
pub record MapSpanEnsures (set : Bool) (o a b refusal start end : ℕ) : Type 0 where
  pub none-set : set ≡ false → (refusal ≡ NO_SOURCE) × (start ≡ 0) × (end ≡ 0)
  pub is : set ≡ true → (refusal ≡ 0) × ((start, end) ≡ span_by o (a, b))

-- has_required_special_types, whatever the source
pub record RequiredEnsures (special : List ℕ) (e : Sizes) (r : Bool) : Type 0 where
  pub is : (set : Bool) (n o : ℕ) (words log logtags : List ℕ) (starts maps : List (List ℕ)) → r ≡ has_required_special_types (session_of set n o words log logtags starts maps special e)

-- a finish: what is answered and left in the output, and the session after it
pub record FinishEnsures (answer : Answer (List ℕ)) (before : Session) (refusal bytes : ℕ) (output₀ output : List ℕ) (behind : Session) : Type 0 where
  pub is : (refusal, bytes, output) ≡ told answer output₀
  pub done : refusal ≡ 0 → behind ≡ new
  pub stays : 0 < refusal → behind ≡ before
