-- What a caller of `order` has of its answer: the words written are the order, or the refusal is a ring's, and its count is that of the ring.
use mathlib.Core.Path.{◌≡◌, refl}
use mathlib.Core.Logic.{◌⊎◌, inl, inr}
use mathlib.Core.List.{List}
use Prim.Native.Nat.{ℕ}
use Rattle.std.specs.Prelude.{Ok, Err}
use Rattle.model.specs.Calls.{Order, ordered, ring}
use Rattle.model.specs.Refusals.{Ended, done, refused, ringed}
use Rattle.model.specs.Image.{order_ended}
use Rattle.base_refusals.specs.Numbers.{refused_by, number_of}
use Rattle.base_refusals.specs.declared.Refusal.{Refusal}
use Rattle.base_refusals.specs.declared.Refusal.TheVariants as refusal
use Rattle.order_ranks.specs.Placing.{shown}

pub all_is : (o : Order) (placed : List ℕ) → shown (Ok tt) placed ≡ order_ended o → o ≡ ordered placed
unfolding shown order_ended
all_is (ordered os) placed e = cc
all_is (ring k) placed e = cc

-- a ring's refusal, or a number alone
alone : {A : Type 0} (e : Refusal) → ((left : ℕ) × (e ≡ refusal.Ring left)) ⊎ (◌≡◌ {A = Ended A} (refused_by e) (refused (number_of e)))
alone (refusal.Ring left) = inl (left, refl)
alone e = inr refl

-- no refusal but a ring's
pub ring_is : (o : Order) (e : Refusal) (placed : List ℕ) → shown (Err e) placed ≡ order_ended o → (left : ℕ) × (e ≡ refusal.Ring left) × (o ≡ ring left)
unfolding shown order_ended
ring_is (ordered os) e placed h = elim (alone {A = List ℕ} e) [ inl r ↦ let q : ◌≡◌ {A = Ended (List ℕ)} (ringed r.0) (done os) = rw r.1 at h in cc | inr n ↦ cc ]
ring_is (ring k) e placed h = elim (alone {A = List ℕ} e) [ inl r ↦ (r.0, r.1, (let q : ◌≡◌ {A = Ended (List ℕ)} (ringed r.0) (ringed k) = rw r.1 at h in cc)) | inr n ↦ cc ]
