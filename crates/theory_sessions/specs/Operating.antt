-- ANY SESSION: any list of operations from the start, whatever is answered or refused. What its state holds (`Good`) is kept by every operation; so what it writes at the end passes.
use Rattle.std.specs.Prelude.{◌≡◌, Bool, List, [], ◌∷◌}
use Rattle.std.proofs.Math.Path.{refl}
use Rattle.std.proofs.Common.{arith, ltb-true}
use Rattle.std.proofs.Math.Bool.{true, false}
use Rattle.std.proofs.Math.Option.{Option, none, some}
use Prim.Native.Nat.{ℕ, zero, suc, ◌*◌, ◌<◌}
use Rattle.std.proofs.Math.Dec.{ltb}
use Rattle.std.proofs.Math.ListN.{length}
use Rattle.model.specs.Outcome.{Laid, laid, bad, strange}
use Rattle.model.specs.Module.{Module, read, write}
use Rattle.model.specs.Carry.{each_none, WellFormed}
use Rattle.model.specs.Intake.{Passes, intake_of, of_laid, after_intake, on_words}
use Rattle.model.specs.Callees.{callees}
use Rattle.model.specs.Redirect.{function}
use Rattle.model.specs.Tables.{Tab, names, types, Tables, tables, count}
use Rattle.model.specs.Imports.{Derived}
use Rattle.model.specs.Special.{sourced}
use Rattle.model.specs.Bodies.{enter_all}
use Rattle.model.specs.Finish.{finished, too_large}
use Rattle.model.specs.Session.{Source, Session, Answer, answered, refused, after, new, with_source, unless_full, meets_ring, set_module, set, clear, map_span, importing, rename_type, import_function, map_function_handle, write_if_fits, finish, callees_of, with_entries, finish_with_entry_points}
use Rattle.theory_image.specs.Modules.{read_well}
use Rattle.theory_finish.specs.Linking.{intake_passes}
use Rattle.theory_sessions.specs.Following.{Holds, Next, holds_from, from_next}
use Rattle.theory_sessions.specs.Holding.{none-set, cleared_holds, fresh_holds, sourced-holds, import_next, rename-next, function-next, handle_from}
use Rattle.theory_sessions.specs.Entering.{all-entered, entries_sound}
use Rattle.theory_sessions.specs.Ending.{Origins, all_origins}

-- ---- operations; import_type and its like are one, `imports`
pub data Operation : Type 0 where
  sets : (bytes : ℕ) (words : List ℕ) (offset : ℕ) → Operation
  clears : Operation
  spans : ℕ × ℕ → Operation
  imports : Tab → ℕ → Operation
  renames : (type name : ℕ) → Operation
  functions : ℕ → Operation
  handles : ℕ → Operation
  finishes : (room : ℕ) → Operation
  finishes_with : (room : ℕ) → Operation

-- the session after an operation; "a refusal returns its number alone"
unfoldable pub does : Operation → Session → Session
does (sets bytes ws o) s = after s (set bytes ws o s)
does clears s = clear s
does (spans p) s = after s (map_span p s)
does (imports t n) s = after s (importing t n s)
does (renames n name) s = after s (rename_type n name s)
does (functions n) s = after s (import_function n s)
does (handles n) s = after s (map_function_handle n s)
does (finishes room) s = after s (finish room s)
does (finishes_with room) s = after s (finish_with_entry_points room s)

unfoldable pub run : List Operation → Session → Session
run [] s = s
run (p ∷ ps) s = run ps (does p s)

-- ---- what holds of a session
-- a source that passed, and a state that has its maps
pub record Set (x : Source) (s : Derived) : Type 0 where
  pub well : WellFormed x.image
  pub passes : Passes x.image
  pub holds : Holds (tables x.image) s

unfoldable pub GoodBy : Option Source → Derived → Type 0
GoodBy none s = Holds none-set s
GoodBy (some x) s = Set x s

unfoldable pub Good : Session → Type 0
Good s = GoodBy s.source s.state

pub good_holds : (x : Option Source) (s : Derived) → GoodBy x s → (T : Tables) × Holds T s
unfolding GoodBy
good_holds none s g = (none-set, g)
good_holds (some x) s g = (tables x.image, g.holds)

-- ---- a fact P of sessions that holds of s holds of the session after an operation, if it holds of what the operation takes over
module _ (P : Session → Type 0) (s : Session) (p : P s) where
  -- 21
  pub kept-after : {A : Type 0} (x : Source) (r : Derived) (a : A) → P (record { source = some x; state = r }) → P (after s (unless_full x r a))
  unfolding unless_full after
  kept-after {A} x r a k = go (too_large (finished r []))
    where
      go : (b : Bool) → P (after s (let v : Answer A = elim b [ true ↦ refused 21 | false ↦ answered a (record { source = some x; state = r }) ] in v))
      go true = p
      go false = k

  -- 13
  pub ranged_after : {A : Type 0} (n k : ℕ) (a : Answer A) → (n < k → P (after s a)) → P (after {A = A} s (elim (ltb n k) [ true ↦ a | false ↦ refused 13 ]))
  unfolding after
  ranged_after {A} n k a f = go (ltb n k) refl
    where
      go : (b : Bool) → ltb n k ≡ b → P (after s (let v : Answer A = elim b [ true ↦ a | false ↦ refused 13 ] in v))
      go true e = f (ltb-true n k e)
      go false e = p

  -- 22
  pub ringless_after : {A : Type 0} (c : Bool) (a : Answer A) → (c ≡ false → P (after s a)) → P (after {A = A} s (elim c [ true ↦ refused 22 | false ↦ a ]))
  unfolding after
  ringless_after true a f = p
  ringless_after false a f = f refl

  -- the end
  pub ending-after : (m : Module) (room : ℕ) → P new → P (after s (write_if_fits m room))
  unfolding write_if_fits after
  ending-after m room n = go (too_large m) (ltb room (4 * length (write m)))
    where
      go : (b c : Bool) → P (after s (let v : Answer (List ℕ) = elim b [ true ↦ refused 21 | false ↦ elim c [ true ↦ refused 7 | false ↦ answered (write m) new ] ] in v))
      go true c = p
      go false true = p
      go false false = n

  -- setting
  pub set_after : (bytes : ℕ) (ws : List ℕ) (o : ℕ) → ((m : Module) → WellFormed m → Passes m → P (record { source = some (record { image = m; offset = o }); state = sourced o m s.state })) → P (after s (set bytes ws o s))
  unfolding set on_words after_intake of_laid set_module after
  set_after bytes ws o f = go (intake_of bytes ws) refl (read ws) refl
    where
      go : (n : ℕ) → intake_of bytes ws ≡ n → (r : Laid Module) → read ws ≡ r → P (after s (let v : Answer (Unit {0}) = elim n [ zero ↦ of_laid (set_module o s) refused r | suc n ↦ refused (suc n) ] in v))
      go zero e (laid m) q = kept-after (record { image = m; offset = o }) (sourced o m s.state) tt (f m (read_well ws m q) (intake_passes bytes ws m e q))
      go zero e bad q = p
      go zero e strange q = p
      go (suc n) e r q = p

  module _ (g : Good s) where
    -- 20
    pub needing_after : {A : Type 0} (f : Source → Answer A) → ((x : Source) → s.source ≡ some x → Set x s.state → P (after s (f x))) → P (after s (with_source s.source f))
    unfolding with_source after Good GoodBy
    needing_after {A} f k = go s.source refl g
      where
        go : (x : Option Source) → s.source ≡ x → GoodBy x s.state → P (after s (with_source x f))
        go none e h = p
        go (some x) e h = k x e h

    pub span_after : (v : ℕ × ℕ) → P (after s (map_span v s))
    unfolding map_span after
    span_after v = needing_after _ λ x e k. p

    pub finish_with_after : (room : ℕ) → P new → P (after s (finish_with_entry_points room s))
    unfolding finish_with_entry_points
    finish_with_after room n =
        needing_after _ λ x q k.
        ringless_after (meets_ring (callees_of x.image.entries) x.image s.state) _ λ e.
        ending-after (with_entries x s.state) room n

    -- what an import takes over is a next state
    module _ (next : (x : Source) (r : Derived) → Set x s.state → Next x.image s.state r → P (record { source = some x; state = r })) where
      pub import_after : (t : Tab) (n : ℕ) → P (after s (importing t n s))
      unfolding importing
      import_after t n =
          needing_after _ λ x q k.
          ranged_after n (count (tables x.image) t) _ λ l.
          kept-after x _ _ (next x _ k (import_next x.image k.well k.passes x.offset t n s.state l k.holds))

      pub rename-after : (n name : ℕ) → P (after s (rename_type n name s))
      unfolding rename_type
      rename-after n name =
          needing_after _ λ x q k.
          ranged_after n (count (tables x.image) types) _ λ l.
          ranged_after name (count (tables x.image) names) _ λ w.
          kept-after x _ _ (next x _ k (rename-next x.image k.well k.passes x.offset n name s.state l w k.holds))

      pub function-after : (n : ℕ) → P (after s (import_function n s))
      unfolding import_function
      function-after n =
          needing_after _ λ x q k.
          ranged_after n (length x.image.functions) _ λ l.
          ringless_after (meets_ring (n ∷ callees (function x.image n)) x.image s.state) _ λ e.
          kept-after x _ _ (next x _ k (function-next x.image k.well k.passes x.offset n s.state l e k.holds))

      pub handle_after : (n : ℕ) → P (after s (map_function_handle n s))
      unfolding map_function_handle
      handle_after n =
          needing_after _ λ x q k.
          ranged_after n (length x.image.functions) _ λ l.
          ringless_after (meets_ring (n ∷ []) x.image s.state) _ λ e.
          kept-after x _ _ (next x _ k (from_next (handle_from x.image k.well k.passes x.offset n s.state l e k.holds)))

-- ---- each operation keeps it
pub new_good : Good new
unfolding Good GoodBy new
new_good = fresh_holds

clear_good : (s : Session) → Good s → Good (clear s)
unfolding clear Good GoodBy
clear_good s g = let h = good_holds s.source s.state g in cleared_holds h.0 s.state h.1

pub set_good : (s : Session) → Good s → (o : ℕ) (m : Module) → WellFormed m → Passes m → Good (record { source = some (record { image = m; offset = o }); state = sourced o m s.state })
unfolding Good GoodBy
set_good s g o m w p = let h = good_holds s.source s.state g in record { well = w; passes = p; holds = sourced-holds m w p o h.0 s.state h.1 }

next_good : (s : Session) (x : Source) (r : Derived) → Set x s.state → Next x.image s.state r → Good (record { source = some x; state = r })
unfolding Good GoodBy
next_good s x r k n = record { well = k.well; passes = k.passes; holds = n.holds }

-- EVERY OPERATION KEEPS IT
pub does_good : (p : Operation) (s : Session) → Good s → Good (does p s)
unfolding does finish
does_good (sets bytes ws o) s g = set_after Good s g bytes ws o (set_good s g o)
does_good clears s g = clear_good s g
does_good (spans v) s g = span_after Good s g g v
does_good (imports t n) s g = import_after Good s g g (next_good s) t n
does_good (renames n name) s g = rename-after Good s g g (next_good s) n name
does_good (functions n) s g = function-after Good s g g (next_good s) n
does_good (handles n) s g = handle_after Good s g g (next_good s) n
does_good (finishes room) s g = ending-after Good s g (finished s.state []) room new_good
does_good (finishes_with room) s g = finish_with_after Good s g g room new_good

pub run_good : (ps : List Operation) (s : Session) → Good s → Good (run ps s)
unfolding run
run_good [] s g = g
run_good (p ∷ ps) s g = run_good ps (does p s) (does_good p s g)

-- ---- a source that is set passed intake
pub record Newly (s : Session) (o : ℕ) (ws : List ℕ) (r : Session) : Type 0 where
  pub image : Module
  pub reads : read ws ≡ laid image
  pub well : WellFormed image
  pub passes : Passes image
  pub is : r ≡ record { source = some (record { image = image; offset = o }); state = sourced o image s.state }

pub set_answered : (bytes : ℕ) (ws : List ℕ) (o : ℕ) (s : Session) (v : Unit {0}) (r : Session) → set bytes ws o s ≡ answered v r → Newly s o ws r
unfolding set on_words after_intake of_laid set_module unless_full
set_answered bytes ws o s v r h = go (intake_of bytes ws) refl (read ws) refl h
  where
    taken_over : (m : Module) → read ws ≡ laid m → WellFormed m → Passes m → (b : Bool) → (let a : Answer (Unit {0}) = elim b [ true ↦ refused 21 | false ↦ answered tt (record { source = some (record { image = m; offset = o }); state = sourced o m s.state }) ] in a) ≡ answered v r → Newly s o ws r
    taken_over m q w p true h = let z : ◌≡◌ {A = ℕ} 0 1 = cc in absurd (omega arith)
    taken_over m q w p false h = record { image = m; reads = q; well = w; passes = p; is = cc }

    go : (n : ℕ) → intake_of bytes ws ≡ n → (x : Laid Module) → read ws ≡ x → (let a : Answer (Unit {0}) = elim n [ zero ↦ of_laid (set_module o s) refused x | suc n ↦ refused (suc n) ] in a) ≡ answered v r → Newly s o ws r
    go zero e (laid m) q h = taken_over m q (read_well ws m q) (intake_passes bytes ws m e q) (too_large (finished (sourced o m s.state) [])) h
    go zero e bad q h = let z : ◌≡◌ {A = ℕ} 0 1 = cc in absurd (omega arith)
    go zero e strange q h = let z : ◌≡◌ {A = ℕ} 0 1 = cc in absurd (omega arith)
    go (suc n) e x q h = let z : ◌≡◌ {A = ℕ} 0 1 = cc in absurd (omega arith)

-- ---- AND WHERE ITS FUNCTIONS COME FROM: each agrees with a function of a source that was set
pub finish_origins : (s : Session) → Good s → Origins s.state (finished s.state [])
unfolding Good
finish_origins s g = all_origins (good_holds s.source s.state g).1 each_none

pub finish_with_origins : (x : Source) (s : Derived) → Set x s → meets_ring (callees_of x.image.entries) x.image s ≡ false → Origins (enter_all x.image.entries x.offset x.image s) (with_entries x s)
unfolding with_entries
finish_with_origins x s k e =
    let i = all-entered x.image k.well k.passes x.offset s (entries_sound x.image k.well k.passes x.offset s e) s (holds_from k.holds) in
    all_origins (from_next i.from).holds i.pieces
