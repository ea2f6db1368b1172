-- Nothing is refused on the way: from the answers of the fresh session that links, no state on the way is too large, in the code's sense.
use mathlib.Core.Path.{◌≡◌, refl, sym, ap, ◌∙◌, subst}
use mathlib.Core.Bool.{Bool, true, false}
use mathlib.Core.List.{List, ◌∷◌}
use Prim.Native.Nat.{ℕ, ◌<◌, pred}
use native.Mathlib.Omega.{arith}
use lib.Dec.{ltb}
use lib.ListN.{length}
use borrow.Author.Tests.{ltb-true, lt-ltb}
use Rattle.model.specs.Outcome.{laid}
use Rattle.model.specs.Refusals.{FULL}
use Rattle.model.specs.Module.{Module, read, write}
use Rattle.model.specs.Carry.{each_none, WellFormed}
use Rattle.model.specs.Intake.{Passes, intake_of, of_laid, after_intake, on_words}
use Rattle.model.specs.Calls.{ordered}
use Rattle.model.specs.Callees.{callees, order_of}
use Rattle.model.specs.Redirect.{function}
use Rattle.model.specs.Imports.{Derived, fresh}
use Rattle.model.specs.Special.{sourced}
use Rattle.model.specs.Bodies.{append, follow, enter_all, entries_made}
use Rattle.model.specs.Session.{Session, Answer, answered, refused, new, with_source, unless_full, meets_ring, set_module, set, import_function, write_if_fits, callees_of, with_entries, finish_with_entry_points}
use Rattle.model.specs.Link.{link_by, in_order}
use Rattle.theory_finish.specs.Fresh.{source, with, Imported, no_more, and_then}
use Rattle.theory_finish.specs.Ringless.{none_ringing}
use Rattle.theory_sessions.specs.Operating.{run}
use Rattle.derive_limits.specs.Full.{Full}
use Rattle.derive_limits.specs.Reached.{At}
use Rattle.derive_limits.proofs.Reached.{reached, function-at, sourced-at}
use Rattle.derive_limits.proofs.Theorems.{exact-at, exact-end, kept_full, kept-room}
use Rattle.theory_link.specs.Demand.{Linking, Output}
use Rattle.theory_link.specs.Exactly.{link_is}
use Rattle.theory_link.proofs.Theorem.{demand3}
use Rattle.derive_state.specs.Held.{Over}
use Rattle.link_words.specs.Appends.{Roomy}

-- ---- a source that is set in a fresh session
pub fresh_at : (m : Module) → WellFormed m → Passes m → At (source m) (sourced 0 m fresh)
unfolding run new
fresh_at m w p = sourced-at {s = new} (reached each_none) 0 m w p

pub set_fits : (bytes : ℕ) (ws : List ℕ) (m : Module) → intake_of bytes ws ≡ 0 → read ws ≡ laid m → At (source m) (sourced 0 m fresh) → set bytes ws 0 new ≡ answered tt (with m (sourced 0 m fresh)) → Over 0 (sourced 0 m fresh) → ⊥
unfolding set on_words after_intake of_laid set_module new
set_fits bytes ws m p r a e h =
    let k : set bytes ws 0 new ≡ refused FULL = rw (set, p, r) (kept_full (source m) tt (exact-at a) h) in
    let z : ◌≡◌ {A = ℕ} 0 1 = cc in
    absurd (omega arith)

module _ (m : Module) (os : List ℕ) (order : order_of m ≡ ordered os) where
  abbrev next : ℕ → Derived → Derived
  next i s = append 0 m (follow 0 m) i s

  -- ---- an import that is answered
  module _ (i v : ℕ) (s : Derived) (t : Session) (a : At (source m) s) (e : import_function i (with m s) ≡ answered v t) where
    pub import_low : i < length m.functions
    unfolding import_function with_source
    import_low = go (ltb i (length m.functions)) refl e
      where
        go : (b : Bool) → ltb i (length m.functions) ≡ b → (let w : Answer ℕ = elim b [ true ↦ elim (meets_ring (i ∷ callees (function m i)) m s) [ true ↦ refused 22 | false ↦ unless_full (source m) (next i s) (pred (length (next i s).functions)) ] | false ↦ refused 13 ] in w) ≡ answered v t → i < length m.functions
        go true q w = ltb-true i (length m.functions) q
        go false q w = let z : ◌≡◌ {A = ℕ} 0 1 = cc in absurd (omega arith)

    import_at : At (source m) (next i s)
    import_at = function-at a i import_low (none_ringing m os order (i ∷ callees (function m i)) s)

    import_kept : import_function i (with m s) ≡ unless_full (source m) (next i s) (pred (length (next i s).functions))
    unfolding import_function with_source
    import_kept = rw (import_function, with_source, lt-ltb i (length m.functions) import_low, none_ringing m os order (i ∷ callees (function m i)) s)

    import_fits : Over 0 (next i s) → ⊥
    import_fits h =
        let k = kept_full (source m) (pred (length (next i s).functions)) (exact-at import_at) h in
        let q : answered v t ≡ refused FULL = sym e ∙ import_kept ∙ k in
        let z : ◌≡◌ {A = ℕ} 0 1 = cc in
        absurd (omega arith)

    import_after : t ≡ with m (next i s)
    import_after =
        let q : answered v t ≡ answered (pred (length (next i s).functions)) (with m (next i s)) = sym e ∙ import_kept ∙ kept-room (source m) (pred (length (next i s).functions)) (exact-at import_at) import_fits in
        cc

  pub imported_roomy : {is : List ℕ} {S U : Session} → Imported is S U → (s : Derived) → S ≡ with m s → At (source m) s → Roomy m is s
  unfolding Roomy
  imported_roomy no_more s q a = tt
  imported_roomy (and_then {i = i} {v = v} {t = T} e rest) s q a =
      let e' : import_function i (with m s) ≡ answered v T = sym (ap (import_function i) q) ∙ e in
      (import_low i v s T a e', import_fits i v s T a e', imported_roomy rest (next i s) (import_after i v s T a e') (import_at i v s T a e'))

  -- ---- entry points
  pub finish_fits : (room : ℕ) (s : Derived) (ws : List ℕ) → At (source m) s → finish_with_entry_points room (with m s) ≡ answered ws new → Full (enter_all m.entries 0 m s) (entries_made m.entries 0 m s) → ⊥
  unfolding finish_with_entry_points with_source write_if_fits with_entries
  finish_fits room s ws a e f =
      let q = none_ringing m os order (callees_of m.entries) s in
      let x = exact-end a q in
      let k : finish_with_entry_points room (with m s) ≡ refused FULL = rw (finish_with_entry_points, with_source, q, write_if_fits, with_entries, x.full f) in
      let z : ◌≡◌ {A = ℕ} 0 1 = cc in
      absurd (omega arith)

-- ---- the session, of an image that passes intake and has an order
pub link-output : (ws : List ℕ) (room : ℕ) (m : Module) (os : List ℕ) → Linking ws room m → order_of m ≡ ordered os → Output ws room m os
unfolding in_order
link-output ws room m os l e =
    let d = (demand3 ws room m l).output (write (link_by os m)) (link_is ws room m l ∙ ap (λ o. in_order o m) e) in
    subst (Output ws room m) (same (sym d.1 ∙ e)) d.3
  where
    same : {xs ys : List ℕ} → ordered xs ≡ ordered ys → xs ≡ ys
    same h = cc
