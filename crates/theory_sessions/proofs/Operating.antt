-- What is written at the end of a session is the finished module, and passes.
use Rattle.std.specs.Prelude.{◌≡◌, Bool, List, []}
use Rattle.std.proofs.Math.Path.{refl}
use Rattle.std.proofs.Common.{subst, arith}
use Rattle.std.proofs.Math.Bool.{true, false}
use Rattle.std.proofs.Math.Option.{some}
use Prim.Native.Nat.{ℕ, ◌*◌}
use Rattle.std.proofs.Math.Dec.{ltb}
use Rattle.std.proofs.Math.ListN.{length}
use Rattle.model.specs.Module.{Module, write}
use Rattle.model.specs.Carry.{each_none}
use Rattle.model.specs.Imports.{Derived}
use Rattle.model.specs.Finish.{finished, too_large}
use Rattle.model.specs.Session.{Source, Session, Answer, answered, refused, new, with_source, meets_ring, write_if_fits, finish, callees_of, with_entries, finish_with_entry_points}
use Rattle.theory_sessions.specs.Following.{holds_from, from_next}
use Rattle.theory_sessions.specs.Entering.{all-entered, entries_sound}
use Rattle.theory_sessions.specs.Ending.{Written}
use Rattle.theory_sessions.proofs.Ending.{all-written}
use Rattle.theory_sessions.specs.Operating.{Set, Good, good_holds}

-- ---- WHAT IS WRITTEN
-- what `write_if_fits` answers is the module's words
ended : (m : Module) (room : ℕ) (ws : List ℕ) (r : Session) → write_if_fits m room ≡ answered ws r → (too_large m ≡ false) × (write m ≡ ws)
unfolding write_if_fits
ended m room ws r h = go (too_large m) (ltb room (4 * length (write m))) refl h
  where
    go : (b c : Bool) → too_large m ≡ b → (let v : Answer (List ℕ) = elim b [ true ↦ refused 21 | false ↦ elim c [ true ↦ refused 7 | false ↦ answered (write m) new ] ] in v) ≡ answered ws r → (too_large m ≡ false) × (write m ≡ ws)
    go true c e h = let z : ◌≡◌ {A = ℕ} 0 1 = cc in absurd (omega arith)
    go false true e h = let z : ◌≡◌ {A = ℕ} 0 1 = cc in absurd (omega arith)
    go false false e h = (e, cc)

written_as : {m : Module} {ws : List ℕ} → write m ≡ ws → Written m (write m) → Written m ws
written_as {m} e w = subst (Written m) e w

pub finish-written : (s : Session) → Good s → (room : ℕ) (ws : List ℕ) (r : Session) → finish room s ≡ answered ws r → Written (finished s.state []) ws
unfolding Good finish
finish-written s g room ws r e =
    let h = good_holds s.source s.state g in
    let a = ended (finished s.state []) room ws r e in
    written_as a.1 (all-written h.1 each_none a.0)

pub finish_with_written : (x : Source) (s : Derived) → Set x s → (room : ℕ) (ws : List ℕ) (r : Session) → finish_with_entry_points room (record { source = some x; state = s }) ≡ answered ws r → Written (with_entries x s) ws
unfolding finish_with_entry_points with_source with_entries
finish_with_written x s k room ws r h = go (meets_ring (callees_of x.image.entries) x.image s) refl h
  where
    go : (b : Bool) → meets_ring (callees_of x.image.entries) x.image s ≡ b → (let v : Answer (List ℕ) = elim b [ true ↦ refused 22 | false ↦ write_if_fits (with_entries x s) room ] in v) ≡ answered ws r → Written (with_entries x s) ws
    go true e h = let z : ◌≡◌ {A = ℕ} 0 1 = cc in absurd (omega arith)
    go false e h =
        let a = ended (with_entries x s) room ws r h in
        let i = all-entered x.image k.well k.passes x.offset s (entries_sound x.image k.well k.passes x.offset s e) s (holds_from k.holds) in
        written_as a.1 (all-written (from_next i.from).holds i.pieces a.0)
