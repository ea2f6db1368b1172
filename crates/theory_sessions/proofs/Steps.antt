-- Of all steps that a session is given, `Stepped` holds of each.
use Rattle.std.proofs.Math.Path.{◌≡◌, refl, subst}
use Rattle.std.proofs.Common.{sym, ap, ◌∙◌, inr, arith, length-take, length-drop, leb-true, ltb-false}
use Rattle.std.specs.Prelude.{Bool, ◌⊎◌, ℕ, ◌+◌, ◌*◌, ◌<◌, ◌≤◌, leb, ltb, get_or, drop}
use Rattle.std.proofs.Math.Bool.{true, false}
use Rattle.std.proofs.Math.Logic.{inl}
use mathlib.Core.List.{List, [], ◌∷◌}
use Rattle.std.proofs.Math.Option.{Option, none, some}
use Rattle.std.proofs.Math.ListN.{length}
use Rattle.theory_lists.specs.Booleans.{and_first}
use Rattle.base_words.specs.Words.{words_of}
use Rattle.model.specs.Module.{Module, write, sized}
use Rattle.model.specs.Tables as Tab
use Rattle.model.specs.Imports.{Derived}
use Rattle.model.specs.Bodies.{enter_all}
use Rattle.model.specs.Finish.{finished, too_large}
use Rattle.model.specs.Session.{Source, Session, Answer, answered, refused, after, new, with_source, meets_ring, set, clear, map_span, importing, rename_type, import_function, map_function_handle, write_if_fits, finish, callees_of, with_entries, finish_with_entry_points}
use Rattle.model.specs.Steps.{Operation, sets-source, clears_source, maps_span, types, renames, constants, overrides, globals, expressions, functions, new_functions, handles, required, finishes, finishes_entries, unknown, operations, Said, part, says, writes, perform, run}
use Rattle.model.specs.Tree.{Function}
use Rattle.model.specs.Carry.{Each}
use Rattle.theory_image.specs.Quiet.{each_map}
use Rattle.theory_sessions.specs.Following.{Origin}
use Rattle.theory_sessions.specs.Ending.{Written, Origins}
use Rattle.theory_sessions.specs.Operating.{does, Good, ending-after, finish_with_after, new_good, does_good, finish_with_origins, finish_origins}
use Rattle.theory_sessions.proofs.Operating.{finish-written}
use Rattle.theory_sessions.specs.Operating as Op
use Rattle.theory_sessions.specs.Growing.{Grew, grew_refl, ends, all-distinct}
use Rattle.theory_sessions.proofs.Theorems.{source-set, written-with, only_grows, walks}
use Rattle.theory_sessions.specs.Steps.{step_as, Image, Stepped, StepByStep, no_steps, and_step, Walks}

-- ---- one operation
does_or_new : (p : Op.Operation) (s : Session) → Good s → Grew s.state (does p s).state ⊎ (does p s ≡ new)
unfolding does ends finish
does_or_new (Op.sets bytes ws o) s g = inl (only_grows (Op.sets bytes ws o) refl s g)
does_or_new Op.clears s g = inl (only_grows Op.clears refl s g)
does_or_new (Op.spans v) s g = inl (only_grows (Op.spans v) refl s g)
does_or_new (Op.imports t n) s g = inl (only_grows (Op.imports t n) refl s g)
does_or_new (Op.renames n name) s g = inl (only_grows (Op.renames n name) refl s g)
does_or_new (Op.functions n) s g = inl (only_grows (Op.functions n) refl s g)
does_or_new (Op.handles n) s g = inl (only_grows (Op.handles n) refl s g)
does_or_new (Op.finishes room) s g = ending-after (λ r. Grew s.state r.state ⊎ (r ≡ new)) s (inl (grew_refl s.state)) (finished s.state []) room (inr refl)
does_or_new (Op.finishes_with room) s g = finish_with_after (λ r. Grew s.state r.state ⊎ (r ≡ new)) s (inl (grew_refl s.state)) g room (inr refl)

-- ---- steps that write nothing
says-session : {A : Type 0} (s : Session) (v : A → ℕ × ℕ) (a : Answer A) → (says s v a).session ≡ after s a
unfolding says after
says-session s v (answered a t) = refl
says-session s v (refused n) = refl

pub says_nothing : {A : Type 0} (s : Session) (v : A → ℕ × ℕ) (a : Answer A) → (says s v a).written ≡ []
unfolding says
says_nothing s v (answered a t) = refl
says_nothing s v (refused n) = refl

says_keeps : {A : Type 0} (s : Session) (v : A → ℕ × ℕ) (a : Answer A) → 0 < (says s v a).refusal → (says s v a).session ≡ s
unfolding says
says_keeps s v (answered a t) h = absurd (omega arith)
says_keeps s v (refused n) h = refl

-- a finish
writes-session : (s : Session) (start : ℕ) (a : Answer (List ℕ)) → (writes s start a).session ≡ after s a
unfolding writes after
writes-session s start (answered ws t) = refl
writes-session s start (refused n) = refl

-- what fits into a part of the output fits into the output, from where the part starts
part_room : (a b k : ℕ) (output : List ℕ) → 0 < k → k ≤ length (part a b output) → a + k ≤ length output
unfolding part
part_room a b k output h l =
    let p = length-take b (drop a output) in
    let q = length-drop a output in
    omega (arith, p, q, h, l)

-- an image has words
some_words : {m : Module} {ws : List ℕ} → Written m ws → 0 < length ws
unfolding sized
some_words {m} {ws} w = let e = leb-true 80 (4 * length ws) (and_first (leb 80 (4 * length ws)) _ w.one) in omega (arith, e)

finish-room : (m : Module) (room : ℕ) (ws : List ℕ) (r : Session) → write_if_fits m room ≡ answered ws r → 4 * length ws ≤ room
unfolding write_if_fits
finish-room m room ws r h = go (too_large m) (ltb room (4 * length (write m))) refl h
  where
    go : (b c : Bool) → ltb room (4 * length (write m)) ≡ c → (let v : Answer (List ℕ) = elim b [ true ↦ refused 21 | false ↦ elim c [ true ↦ refused 7 | false ↦ answered (write m) new ] ] in v) ≡ answered ws r → 4 * length ws ≤ room
    go true c e h = let z : ◌≡◌ {A = ℕ} 0 1 = cc in absurd (omega arith)
    go false true e h = let z : ◌≡◌ {A = ℕ} 0 1 = cc in absurd (omega arith)
    go false false e h = let q : write m ≡ ws = cc in let l = ltb-false room (4 * length (write m)) e in omega (arith, ap length q, l)

module _ (a b c : ℕ) (sources output : List ℕ) (s : Session) (g : Good s) where
  abbrev S : Said → Type 0
  S = Stepped (length output) s

  said : {A : Type 0} (v : A → ℕ × ℕ) (x : Answer A) (p : Op.Operation) → after s x ≡ does p s → S (says s v x)
  unfolding Op.run
  said v x p e =
      let h = says-session s v x ∙ e in
      let k : Good (says s v x).session = subst Good (sym h) (does_good p s g) in
      record {
        does_them = (p ∷ [], h);
        good = k;
        differ = all-distinct (says s v x).session k;
        grows = subst (λ (r : Session). Grew s.state r.state ⊎ (r ≡ new)) (sym h) (does_or_new p s g);
        keeps = λ l. (says_keeps s v x l, says_nothing s v x);
        writes-image = inl (says_nothing s v x);
      }

  -- a step that does no operation
  stays : {A : Type 0} (v : A → ℕ × ℕ) (x : Answer A) → after s x ≡ s → S (says s v x)
  unfolding Op.run
  stays v x e =
      let h = says-session s v x ∙ e in
      let k : Good (says s v x).session = subst Good (sym h) g in
      record {
        does_them = ([], h);
        good = k;
        differ = all-distinct (says s v x).session k;
        grows = inl (subst (λ (r : Session). Grew s.state r.state) (sym h) (grew_refl s.state));
        keeps = λ l. (says_keeps s v x l, says_nothing s v x);
        writes-image = inl (says_nothing s v x);
      }

  module _ (x : Answer (List ℕ)) (p : Op.Operation) (e : after s x ≡ does p s) where
    wrote : ((ws : List ℕ) (r : Session) → x ≡ answered ws r → (m : Module) × Written m ws × (d : Derived) × Origins d m × (4 * length ws ≤ length (part a b output))) → S (writes s a x)
    unfolding Op.run writes
    wrote f =
        let h = writes-session s a x ∙ e in
        let k : Good (writes s a x).session = subst Good (sym h) (does_good p s g) in
        record {
          does_them = (p ∷ [], h);
          good = k;
          differ = all-distinct (writes s a x).session k;
          grows = subst (λ (r : Session). Grew s.state r.state ⊎ (r ≡ new)) (sym h) (does_or_new p s g);
          keeps = kept x;
          writes-image = image x f;
        }
      where
        kept : (x : Answer (List ℕ)) → 0 < (writes s a x).refusal → ((writes s a x).session ≡ s) × ((writes s a x).written ≡ [])
        kept (answered ws t) l = absurd (omega arith)
        kept (refused n) l = (refl, refl)

        image : (x : Answer (List ℕ)) → ((ws : List ℕ) (r : Session) → x ≡ answered ws r → (m : Module) × Written m ws × (d : Derived) × Origins d m × (4 * length ws ≤ length (part a b output))) → ((writes s a x).written ≡ []) ⊎ Image (length output) (writes s a x)
        image (answered ws t) f =
            let y = f ws t refl in
            let w = some_words y.1 in
            inr (record { accepted = refl; told = refl; fits = part_room a b (4 * length ws) output (omega (arith, w)) y.4; holds = y.0; written = y.1; derived = y.2; origins = y.3 })
        image (refused n) f = inl refl

  -- what the two finishes write
  plainly : (room : ℕ) (ws : List ℕ) (r : Session) → finish room s ≡ answered ws r → (m : Module) × Written m ws × (d : Derived) × Origins d m × (4 * length ws ≤ room)
  unfolding finish
  plainly room ws r e = (finished s.state [], finish-written s g room ws r e, s.state, finish_origins s g, finish-room (finished s.state []) room ws r e)

  with_entries_lem : (room : ℕ) (ws : List ℕ) (r : Session) → finish_with_entry_points room s ≡ answered ws r → (m : Module) × Written m ws × (d : Derived) × Origins d m × (4 * length ws ≤ room)
  unfolding finish_with_entry_points with_source
  with_entries_lem room ws r e = go s.source refl
    where
      ringless : (x : Source) → s.source ≡ some x → (b : Bool) → meets_ring (callees_of x.image.entries) x.image s.state ≡ b → (let v : Answer (List ℕ) = elim b [ true ↦ refused 22 | false ↦ write_if_fits (with_entries x s.state) room ] in v) ≡ answered ws r
          → (m : Module) × Written m ws × (d : Derived) × Origins d m × (4 * length ws ≤ room)
      ringless x q true n h = let z : ◌≡◌ {A = ℕ} 0 1 = cc in absurd (omega arith)
      ringless x q false n h = (
        with_entries x s.state,
        written-with s g x q room ws r (unfold finish_with_entry_points in e),
        enter_all x.image.entries x.offset x.image s.state,
        finish_with_origins x s.state (source-set s g x q) n,
        finish-room (with_entries x s.state) room ws r h,
      )

      go : (y : Option Source) → s.source ≡ y → (m : Module) × Written m ws × (d : Derived) × Origins d m × (4 * length ws ≤ room)
      go none q = let z : refused 20 ≡ answered ws r = rw q at e in let w : ◌≡◌ {A = ℕ} 0 1 = cc in absurd (omega arith)
      go (some x) q = ringless x q (meets_ring (callees_of x.image.entries) x.image s.state) refl (rw q at e)

  -- ---- EVERY STEP
  pub step_is : (o : Operation) → (perform o a b c sources output s).session ≡ Op.run (step_as o a b c sources output) s
  unfolding perform step_as does Op.run after
  step_is sets-source = says-session s _ _
  step_is clears_source = says-session s _ (answered 0 (clear s))
  step_is maps_span = says-session s _ (map_span (a, b) s)
  step_is types = says-session s _ (importing Tab.types a s)
  step_is renames = says-session s _ (rename_type a b s)
  step_is constants = says-session s _ (importing Tab.constants a s)
  step_is overrides = says-session s _ (importing Tab.overrides a s)
  step_is globals = says-session s _ (importing Tab.globals a s)
  step_is expressions = says-session s _ (importing Tab.exprs a s)
  step_is functions = says-session s _ (import_function a s)
  step_is new_functions = says-session s _ (map_function_handle a s)
  step_is handles = says-session s _ (map_function_handle a s)
  step_is required = says-session s _ (answered _ s)
  step_is finishes = writes-session s a (finish (length (part a b output)) s)
  step_is finishes_entries = writes-session s a (finish_with_entry_points (length (part a b output)) s)
  step_is unknown = says-session s _ (refused 13)

  pub step-stepped : (o : Operation) → S (perform o a b c sources output s)
  unfolding perform does after
  step-stepped sets-source = said _ (set (length (part a b sources)) (words_of (part a b sources)) c s) (Op.sets (length (part a b sources)) (words_of (part a b sources)) c) refl
  step-stepped clears_source = said _ (answered 0 (clear s)) Op.clears refl
  step-stepped maps_span = said _ (map_span (a, b) s) (Op.spans (a, b)) refl
  step-stepped types = said _ (importing Tab.types a s) (Op.imports Tab.types a) refl
  step-stepped renames = said _ (rename_type a b s) (Op.renames a b) refl
  step-stepped constants = said _ (importing Tab.constants a s) (Op.imports Tab.constants a) refl
  step-stepped overrides = said _ (importing Tab.overrides a s) (Op.imports Tab.overrides a) refl
  step-stepped globals = said _ (importing Tab.globals a s) (Op.imports Tab.globals a) refl
  step-stepped expressions = said _ (importing Tab.exprs a s) (Op.imports Tab.exprs a) refl
  step-stepped functions = said _ (import_function a s) (Op.functions a) refl
  step-stepped new_functions = said _ (map_function_handle a s) (Op.handles a) refl
  step-stepped handles = said _ (map_function_handle a s) (Op.handles a) refl
  step-stepped required = stays _ (answered _ s) refl
  step-stepped finishes = wrote (finish (length (part a b output)) s) (Op.finishes (length (part a b output))) refl (plainly (length (part a b output)))
  step-stepped finishes_entries = wrote (finish_with_entry_points (length (part a b output)) s) (Op.finishes_with (length (part a b output))) refl (with_entries_lem (length (part a b output)))
  step-stepped unknown = stays _ (refused 13) refl

run-stepped : (steps sources output : List ℕ) (s : Session) → Good s → StepByStep (Stepped (length output)) s (run steps sources output s)
unfolding run
run-stepped [] sources output s g = no_steps
run-stepped (o ∷ []) sources output s g = no_steps
run-stepped (o ∷ a ∷ []) sources output s g = no_steps
run-stepped (o ∷ a ∷ b ∷ []) sources output s g = no_steps
run-stepped (o ∷ a ∷ b ∷ c ∷ steps) sources output s g =
    let x = step-stepped a b c sources output s g (get_or operations o unknown) in
    and_step x (run-stepped steps sources output _ x.good)

-- THE THEOREM: of all steps that a session is given, on any sources and into any output
pub every-step : (steps sources output : List ℕ) → StepByStep (Stepped (length output)) new (run steps sources output new)
every-step steps sources output = run-stepped steps sources output new new_good

walks_of : (m : Module) {d : Derived} {f : Function} → Origin d f → Walks d f
walks_of m p = record { from = p; carried = walks p m }

pub image_walks : {room : ℕ} {x : Said} (i : Image room x) → Each (Walks i.derived) i.holds.functions × Each (λ E. Walks i.derived E.function) i.holds.entries
image_walks i = (each_map (λ f p. walks_of i.holds p) i.origins.functions, each_map (λ E p. walks_of i.holds p) i.origins.entries)
