-- LINK AS A FRESH SESSION: an image that passes intake and has no ring is set with offset 0, its functions are imported in output order, and it is finished with entry points in a room at least the image's length. Nothing is refused, and the words are those of `link`.
-- That what is derived stays within the source (`Within`, at every state) is a premise here.
use Rattle.std.specs.Prelude.{◌≡◌, refl, true, false, ℕ, ◌*◌, ◌≤◌, ◌<◌, pred}
use Rattle.std.proofs.Common.{ap, arith}
use mathlib.Core.List.{List, [], ◌∷◌, ◌++◌, map}
use Rattle.std.proofs.Math.Option.{some}
use Rattle.std.proofs.Math.ListN.{length}
use borrow.Author.Tests.{le-ltb, lt-ltb}
use Rattle.model.specs.Outcome.{word, laid}
use Rattle.model.specs.Tree.{Entry}
use Rattle.model.specs.Module.{Module, read, write}
use Rattle.model.specs.Intake.{intake_of, of_laid, after_intake, on_words}
use Rattle.model.specs.Calls.{In, here, later, ordered}
use Rattle.model.specs.Callees.{callees, order_of}
use Rattle.model.specs.Redirect.{function}
use Rattle.model.specs.Names.{differ}
use Rattle.model.specs.Numbers.{numbered}
use Rattle.model.specs.Imports.{Derived, fresh}
use Rattle.model.specs.Bodies.{append, follow, enter_all, entries_made}
use Rattle.model.specs.Special.{sourced}
use Rattle.model.specs.Finish.{gathered, finished, too_large}
use Rattle.model.specs.Session.{Source, Session, answered, new, with_source, unless_full, set_module, set, import_function, write_if_fits, callees_of, with_entries, finish_with_entry_points}
use Rattle.model.specs.Refusals.{done}
use Rattle.model.specs.Link.{append_all, link_by, in_order, link_module, link}
use Rattle.theory_finish.specs.Kept.{Parts}
use Rattle.theory_finish.specs.Size.{Within, finished-length, finished_small, source-whole, source_small}
use Rattle.theory_finish.specs.Ringless.{none_ringing, low}

-- the session that has m set with offset 0
abbrev pub source : Module → Source
source m = record { image = m; offset = 0 }

abbrev pub with : Module → Derived → Session
with m s = record { source = some (source m); state = s }

-- imports of functions, one after the other, each accepted
pub data Imported : List ℕ → Session → Session → Type 0 where
  no_more : {s : Session} → Imported [] s s
  and_then : {i v : ℕ} {is : List ℕ} {s t u : Session} → import_function i s ≡ answered v t → Imported is t u → Imported (i ∷ is) s u

-- ---- each operation is accepted
pub set_accepted : (bytes : ℕ) (ws : List ℕ) (m : Module) → intake_of bytes ws ≡ 0 → read ws ≡ laid m → too_large (finished (sourced 0 m fresh) []) ≡ false → set bytes ws 0 new ≡ answered tt (with m (sourced 0 m fresh))
unfolding set on_words after_intake of_laid set_module unless_full new
set_accepted bytes ws m p r l = rw (set, p, r, unless_full, l)

module _ (m : Module) (os : List ℕ) (e : order_of m ≡ ordered os) where
  abbrev next : ℕ → Derived → Derived
  next i s = append 0 m (follow 0 m) i s

  pub import_accepted : (i : ℕ) (s : Derived) → i < length m.functions → too_large (finished (next i s) []) ≡ false → import_function i (with m s) ≡ answered (pred (length (next i s).functions)) (with m (next i s))
  unfolding import_function with_source unless_full
  import_accepted i s h l = rw (import_function, with_source, lt-ltb i (length m.functions) h, none_ringing m os e (i ∷ callees (function m i)) s, unless_full, l)

  pub finish_accepted : (room : ℕ) (s : Derived) → too_large (with_entries (source m) s) ≡ false → 4 * length (write (with_entries (source m) s)) ≤ room → finish_with_entry_points room (with m s) ≡ answered (write (with_entries (source m) s)) new
  unfolding finish_with_entry_points with_source write_if_fits
  finish_accepted room s l h = rw (finish_with_entry_points, with_source, none_ringing m os e (callees_of m.entries) s, write_if_fits, l, le-ltb room (4 * length (write (with_entries (source m) s))) h)

  imports_accepted : (is : List ℕ) (s : Derived) → ((i : ℕ) → In i is → i < length m.functions) → ((xs ys : List ℕ) → is ≡ xs ++ ys → too_large (finished (append_all xs 0 m s) []) ≡ false) → Imported is (with m s) (with m (append_all is 0 m s))
  unfolding append_all
  imports_accepted [] s h l = no_more
  imports_accepted (i ∷ is) s h l = and_then (import_accepted i s (h i here) (l (i ∷ []) is refl)) (imports_accepted is (next i s) (λ j g. h j (later g)) λ xs ys q. l (i ∷ xs) ys (ap (i ∷◌) q))

-- ---- THE THEOREM
pub record FreshLink (bytes : ℕ) (ws : List ℕ) (room : ℕ) (m : Module) (os : List ℕ) : Type 0 where
  pub sets : set bytes ws 0 new ≡ answered tt (with m (sourced 0 m fresh))
  pub imports : Imported os (with m (sourced 0 m fresh)) (with m (append_all os 0 m (sourced 0 m fresh)))
  pub finishes : finish_with_entry_points room (with m (append_all os 0 m (sourced 0 m fresh))) ≡ answered (write (link_by os m)) new
  pub links : link bytes ws room ≡ done (write (link_by os m))

-- the states of the session: after the special types and some of the functions, and at the end
abbrev pub state_at : Module → List ℕ → Derived
state_at m xs = append_all xs 0 m (sourced 0 m fresh)

-- a state with entry points whose parts are well formed, whose numbers are in range, whose names differ, and that stays within the source
pub record Stays (m : Module) (s : Derived) (es : List Entry) : Type 0 where
  pub parts : Parts (gathered s es)
  pub numbers : numbered (gathered s es) ≡ true
  pub names : differ (map (map word) (gathered s es).names) ≡ true
  pub within : Within (gathered s es) m

pub stays_small : {m : Module} {s : Derived} {es : List Entry} → Stays m s es → too_large m ≡ false → too_large (finished s es) ≡ false
unfolding finished
stays_small k l = finished_small k.parts k.numbers k.names k.within l

pub stays-short : {m : Module} {s : Derived} {es : List Entry} → Stays m s es → length (write (finished s es)) ≤ length (write m)
unfolding finished
stays-short k = finished-length k.parts k.numbers k.names k.within

module _ (bytes : ℕ) (ws : List ℕ) (room : ℕ) (m : Module) (os : List ℕ)
    (passes : intake_of bytes ws ≡ 0) (reads : read ws ≡ laid m) (whole : bytes ≡ 4 * length ws) (roomy : bytes ≤ room) (order : order_of m ≡ ordered os)
    (stays : (xs ys : List ℕ) → os ≡ xs ++ ys → Stays m (state_at m xs) [])
    (ends : Stays m (enter_all m.entries 0 m (state_at m os)) (entries_made m.entries 0 m (state_at m os))) where
  small : too_large m ≡ false
  small = source_small bytes ws m passes reads whole

  linked_as : link bytes ws room ≡ done (write (link_by os m))
  unfolding link on_words after_intake of_laid link_module in_order
  linked_as = rw (link, on_words, passes, after_intake, reads, of_laid, link_module, le-ltb room bytes roomy, order)

  pub fresh-link : FreshLink bytes ws room m os
  unfolding link_by with_entries append_all
  fresh-link = record {
    sets = set_accepted bytes ws m passes reads (stays_small (stays [] os refl) small);
    imports = imports_accepted m os order os (sourced 0 m fresh) (low m os order) (λ xs ys q. stays_small (stays xs ys q) small);
    finishes = finish_accepted m os order room (state_at m os) (stays_small ends small) (omega (arith, stays-short ends, source-whole bytes ws m passes reads whole));
    links = linked_as;
  }
