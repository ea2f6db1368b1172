-- REFUSAL 22, EXACTLY. Document 01: "22: an import would follow calls, through functions whose names are unknown, back to one of those." The definition (`stuck`) is by rounds, as the code has it; here it is said by chains, in both directions: an import is refused by 22 exactly if one of the functions that it would follow is of unknown name and a chain of calls between functions of unknown names leads from it to a ring of such.
use Rattle.std.specs.Prelude.{◌≡◌, refl, Bool, true, false, ◌↔◌, List, [], ◌∷◌, ℕ, ◌*◌, ◌<◌, eqb, ltb, length}
use Rattle.std.proofs.Common.{sym, subst, arith, eqb-true, eq-eqb, ltb-true, lt-ltb}
use Rattle.std.proofs.lemmas.Bool.{false≢true}
use Rattle.std.proofs.Math.Option.{some}
use Rattle.model.specs.Refusals.{UNKNOWN_RING}
use Rattle.model.specs.Module.{Module, write}
use Rattle.model.specs.Calls.{Reaches, In, any}
use Rattle.model.specs.Callees.{callees, calls}
use Rattle.model.specs.Redirect.{function}
use Rattle.model.specs.Imports.{Derived}
use Rattle.model.specs.Finish.{finished, too_large}
use Rattle.model.specs.Session.{Source, Session, Answer, answered, refused, new, with_source, unless_full, unknown, stuck, meets_ring, import_function, map_function_handle, write_if_fits, callees_of, with_entries, finish_with_entry_points}
use Rattle.theory_order.specs.Lists.{any_in, in_any}
use Rattle.theory_order.specs.Among.{among}
use Rattle.theory_order.proofs.Among.{left_reaches}

-- a chain of calls through functions of unknown names leads from i to a ring of such, or i is on one
abbrev pub LeadsToRing : Module → Derived → ℕ → Type 0
LeadsToRing M s i = Reaches (length M.functions) (among (unknown M s) (calls M)) i

pub stuck_exactly : (M : Module) (s : Derived) (i : ℕ) → In i (stuck M s) ↔ LeadsToRing M s i
unfolding stuck
stuck_exactly M s i = left_reaches (calls M) (unknown M s) (length M.functions) i

-- one of these functions does
abbrev pub OneLeads : List ℕ → Module → Derived → Type 0
OneLeads is M s = (i : ℕ) × In i is × LeadsToRing M s i

pub meets_exactly : (is : List ℕ) (M : Module) (s : Derived) → (meets_ring is M s ≡ true) ↔ OneLeads is M s
unfolding meets_ring
meets_exactly is M s = (there, back)
  where
    there : any is (λ i. any (stuck M s) (eqb i)) ≡ true → OneLeads is M s
    there t =
        let a = any_in (λ i. any (stuck M s) (eqb i)) is t in
        let b = any_in (eqb a.0) (stuck M s) a.2 in
        (a.0, a.1, (stuck_exactly M s a.0).0 (subst (λ (j : ℕ). In j (stuck M s)) (sym (eqb-true a.0 b.0 b.2)) b.1))

    back : OneLeads is M s → any is (λ i. any (stuck M s) (eqb i)) ≡ true
    back r = in_any (λ i. any (stuck M s) (eqb i)) r.1 (in_any (eqb r.0) ((stuck_exactly M s r.0).1 r.2) (eq-eqb r.0 r.0 refl))

-- ---- THE OPERATIONS, of a session in which a source is set
-- what comes after 22 is never 22
full_other : {A : Type 0} (x : Source) (r : Derived) (a : A) → unless_full x r a ≡ refused UNKNOWN_RING → ⊥
unfolding unless_full
full_other {A} x r a = go (too_large (finished r []))
  where
    go : (b : Bool) → (let v : Answer A = elim b [ true ↦ refused 21 | false ↦ answered a (record { source = some x; state = r }) ] in v) ≡ refused 22 → ⊥
    go true h = let z : ◌≡◌ {A = ℕ} 21 22 = cc in omega (arith, z)
    go false h = let z : ◌≡◌ {A = ℕ} 0 1 = cc in omega (arith, z)

write-other : (m : Module) (room : ℕ) → write_if_fits m room ≡ refused UNKNOWN_RING → ⊥
unfolding write_if_fits
write-other m room = go (too_large m) (ltb room (4 * length (write m)))
  where
    go : (b c : Bool) → (let v : Answer (List ℕ) = elim b [ true ↦ refused 21 | false ↦ elim c [ true ↦ refused 7 | false ↦ answered (write m) new ] ] in v) ≡ refused 22 → ⊥
    go true c h = let z : ◌≡◌ {A = ℕ} 21 22 = cc in omega (arith, z)
    go false true h = let z : ◌≡◌ {A = ℕ} 7 22 = cc in omega (arith, z)
    go false false h = let z : ◌≡◌ {A = ℕ} 0 1 = cc in omega (arith, z)

-- 22 behind the test of 13, and alone
by_ring : {A : Type 0} (c : Bool) (a : Answer A) → (a ≡ refused UNKNOWN_RING → ⊥) → (let v : Answer A = elim c [ true ↦ refused 22 | false ↦ a ] in v) ≡ refused UNKNOWN_RING → c ≡ true
by_ring true a n h = refl
by_ring false a n h = absurd (n h)

by_range : {A : Type 0} (i k : ℕ) (c : Bool) (a : Answer A) → (a ≡ refused UNKNOWN_RING → ⊥) → (let v : Answer A = elim (ltb i k) [ true ↦ elim c [ true ↦ refused 22 | false ↦ a ] | false ↦ refused 13 ] in v) ≡ refused UNKNOWN_RING → (i < k) × (c ≡ true)
by_range {A} i k c a n h = go (ltb i k) refl h
  where
    go : (b : Bool) → ltb i k ≡ b → (let v : Answer A = elim b [ true ↦ elim c [ true ↦ refused 22 | false ↦ a ] | false ↦ refused 13 ] in v) ≡ refused 22 → (i < k) × (c ≡ true)
    go true e h = (ltb-true i k e, by_ring c a n h)
    go false e h = let z : ◌≡◌ {A = ℕ} 13 22 = cc in absurd (omega (arith, z))

-- and back
ring_back : {A : Type 0} (c : Bool) (a : Answer A) → c ≡ true → (let v : Answer A = elim c [ true ↦ refused 22 | false ↦ a ] in v) ≡ refused UNKNOWN_RING
ring_back true a e = refl
ring_back false a e = absurd (false≢true e)

range_back : {A : Type 0} (i k : ℕ) (c : Bool) (a : Answer A) → i < k → c ≡ true → (let v : Answer A = elim (ltb i k) [ true ↦ elim c [ true ↦ refused 22 | false ↦ a ] | false ↦ refused 13 ] in v) ≡ refused UNKNOWN_RING
range_back {A} i k c a l e = go (ltb i k) (lt-ltb i k l)
  where
    go : (b : Bool) → b ≡ true → (let v : Answer A = elim b [ true ↦ elim c [ true ↦ refused 22 | false ↦ a ] | false ↦ refused 13 ] in v) ≡ refused 22
    go true q = ring_back c a e
    go false q = absurd (false≢true q)

module _ (x : Source) (s : Derived) where
  abbrev here : Session
  here = record { source = some x; state = s }

  -- import_function: of the function itself and of those that it calls
  pub function_22 : (n : ℕ) → (import_function n here ≡ refused UNKNOWN_RING) ↔ ((n < length x.image.functions) × OneLeads (n ∷ callees (function x.image n)) x.image s)
  unfolding import_function with_source
  function_22 n = (
    (λ h. let r = by_range n (length x.image.functions) (meets_ring (n ∷ callees (function x.image n)) x.image s) _ (full_other x _ _) h in (r.0, (meets_exactly (n ∷ callees (function x.image n)) x.image s).0 r.1)),
    λ r. range_back n (length x.image.functions) (meets_ring (n ∷ callees (function x.image n)) x.image s) _ r.0 ((meets_exactly (n ∷ callees (function x.image n)) x.image s).1 r.1),
  )

  -- map_function_handle: of the function itself
  pub handle_22 : (n : ℕ) → (map_function_handle n here ≡ refused UNKNOWN_RING) ↔ ((n < length x.image.functions) × OneLeads (n ∷ []) x.image s)
  unfolding map_function_handle with_source
  handle_22 n = (
    (λ h. let r = by_range n (length x.image.functions) (meets_ring (n ∷ []) x.image s) _ (full_other x _ _) h in (r.0, (meets_exactly (n ∷ []) x.image s).0 r.1)),
    λ r. range_back n (length x.image.functions) (meets_ring (n ∷ []) x.image s) _ r.0 ((meets_exactly (n ∷ []) x.image s).1 r.1),
  )

  -- finishing with entry points: of the functions that these call
  pub finish_22 : (room : ℕ) → (finish_with_entry_points room here ≡ refused UNKNOWN_RING) ↔ OneLeads (callees_of x.image.entries) x.image s
  unfolding finish_with_entry_points with_source
  finish_22 room = (
    (λ h. (meets_exactly (callees_of x.image.entries) x.image s).0 (by_ring (meets_ring (callees_of x.image.entries) x.image s) _ (write-other (with_entries x s) room) h)),
    λ r. ring_back (meets_ring (callees_of x.image.entries) x.image s) _ ((meets_exactly (callees_of x.image.entries) x.image s).1 r),
  )
