-- What an operation answers, as numbers, and the operations that leave the session as it is.
use Rattle.std.proofs.Common.{◌≡◌, ℕ, zero, suc, ◌+◌, ◌%◌, ◌^◌, ◌<◌, Bool, true, false, not, ◌||◌, ltb, ◌⊎◌, List, sym, refl, ◌∙◌, ap₂, ⊎_elim, arith, le-ltb, lt-ltb, eq-eqb, ne_eqb}
use mathlib.Core.Bool.{false≢true}
use borrow.Author.Tests.{not-false}
use Rattle.model.specs.Imports.{emptied}
use Rattle.model.specs.References.{undefined, add, span_by}
use Rattle.model.specs.Session.{Session, Answer, answered, refused, any_ray, has_required_special_types}
use Rattle.derive_state.specs.Flats.{special_of}
use Rattle.derive_state.specs.Held.{st_of}
use Rattle.derive_state.specs.Sizes.{Sizes}
use Rattle.derive_state.proofs.State.{pairs_long}
use Rattle.derive_session.specs.Valid.{session_of}
use Rattle.session_operations.specs.Operations.{answer_of, OperationEnsures, MapSpanEnsures, RequiredEnsures}

-- ---- answers
-- it is refused, and the arrays hold the session that was there
pub refuses : {A : Type 0} (op : Session → Answer A) (s s' : Session) (k : ℕ) (v : A) → 0 < k → op s ≡ refused k → s' ≡ s → OperationEnsures op s k v s'
unfolding answer_of
refuses op s s' zero v h e q = absurd (omega arith)
refuses op s s' (suc k) v h e q = record { is = e; stays = λ _. q }

pub answers : {A : Type 0} (op : Session → Answer A) (s s' : Session) (v : A) → op s ≡ answered v s' → OperationEnsures op s 0 v s'
unfolding answer_of
answers op s s' v e = record { is = e; stays = λ h. absurd (omega arith) }

-- ---- map_span
module _ (set : Bool) (o a b : ℕ) where
  module _ (h : not set ≡ false) where
    pub span_undefined : a ≡ 0 → b ≡ 0 → MapSpanEnsures set o a b 0 0 0
    unfolding span_by undefined add
    span_undefined p q = record { none-set = λ z. absurd (false≢true (sym z ∙ not-false set h)); is = λ z. (refl, rw (p, q)) }

    defined : ((a ≡ 0) × (b ≡ 0 → ⊥)) ⊎ (a ≡ 0 → ⊥) → undefined a b ≡ false
    unfolding undefined
    defined = ⊎_elim (λ p. rw (eq-eqb a 0 p.0, ne_eqb b 0 p.1)) (λ p. rw (ne_eqb a 0 p))

    pub span_moved : ((a ≡ 0) × (b ≡ 0 → ⊥)) ⊎ (a ≡ 0 → ⊥) → (x y : ℕ) → x ≡ (a + o) % 2 ^ 32 → y ≡ (b + o) % 2 ^ 32 → MapSpanEnsures set o a b 0 x y
    unfolding span_by add
    span_moved p x y hx hy = record { none-set = λ z. absurd (false≢true (sym z ∙ not-false set h)); is = λ z. (refl, rw (defined p) (ap₂ (λ (u v : ℕ). (u, v)) hx hy)) }

-- ---- has_required_special_types
module _ (special : List ℕ) (e : Sizes) where
  asks : (set : Bool) (n o : ℕ) (words log logtags : List ℕ) (starts maps : List (List ℕ)) → has_required_special_types (session_of set n o words log logtags starts maps special e) ≡ ltb 0 e.pairs || any_ray (special_of special 0).rays
  unfolding has_required_special_types session_of emptied st_of special_of any_ray
  asks true n o words log logtags starts maps = rw (pairs_long special e.pairs 3)
  asks false n o words log logtags starts maps = rw (pairs_long special e.pairs 3)

  pub by-pairs : (e.pairs ≡ 0 → ⊥) → RequiredEnsures special e true
  by-pairs h = record { is = λ set n o words log logtags starts maps. rw (asks set n o words log logtags starts maps, lt-ltb 0 e.pairs (omega arith)) refl }

  pub by_rays : e.pairs ≡ 0 → (r : Bool) → r ≡ any_ray (special_of special 0).rays → RequiredEnsures special e r
  by_rays h r q = record { is = λ set n o words log logtags starts maps. rw (asks set n o words log logtags starts maps, le-ltb 0 e.pairs (omega arith)) q }
