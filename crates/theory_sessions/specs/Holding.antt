-- WHAT A SESSION'S STATE HOLDS, kept by every operation on a source that passed: setting it with its special types, clearing it, and the imports of types, constants, overrides, globals, expressions and functions.
use Rattle.std.specs.Prelude.{◌≡◌, false, List, [], ◌∷◌, ℕ, suc, ◌<◌, ◌≤◌, length}
use Rattle.std.proofs.Math.Path.{refl}
use Rattle.std.proofs.Common.{le_refl, arith}
use Rattle.model.specs.Module.{Special, Module}
use Rattle.model.specs.Carry.{Each, each_none, each_next, WellFormed}
use Rattle.model.specs.Intake.{Passes}
use Rattle.model.specs.Calls.{In, here, later, numbers}
use Rattle.model.specs.Callees.{callees}
use Rattle.model.specs.Redirect.{function as function_at}
use Rattle.model.specs.Tables.{Tab, names, types, at, six, Tables, tables, count}
use Rattle.model.specs.Imports.{Derived, import_t, renamed, unmapped, emptied, fresh}
use Rattle.model.specs.Special.{force, with_special, put_ray, put_pair, sourced}
use Rattle.model.specs.Bodies.{known, append, follow}
use Rattle.model.specs.Session.{unknown, meets_ring}
use Rattle.theory_order.specs.Lists.{length-numbers}
use Rattle.theory_order.specs.Numbered.{numbered-known}
use Rattle.theory_records.specs.Imported.{emptied-kept, fresh_kept}
use Rattle.theory_image.specs.Quiet.{plain-none, plain-next, each_map}
use Rattle.model.specs.Names.{distinct}
use Rattle.theory_bodies.specs.Context.{Grown, grown_refl}
use Rattle.theory_bodies.specs.Lists.{All}
use Rattle.theory_bodies.specs.Lawful as Lawful
use Rattle.theory_finish.specs.Known as Known
use Rattle.theory_finish.specs.Ringless.{keep-short}
use Rattle.theory_finish.specs.Alone.{called}
use Rattle.theory_finish.specs.Sessions.{Setting, sourced-kept}
use Rattle.theory_finish.specs.Output.{follows_setting, emptied_follows}
use Rattle.theory_finish.specs.Specials.{typed_setting, no_rays}
use Rattle.theory_sessions.specs.Height.{Low, unknowns, ringless}
use Rattle.theory_sessions.specs.Following.{followed_last, Piece, pieces_grown, Holds, Next, holds_from, from_next, From, from_import, follows, append-next}
use Rattle.theory_sessions.specs.Renaming.{from_rename}

-- tables and functions are no matter of maps and special types
pub same_grown : (s r : Derived) → r.recs ≡ s.recs → r.functions ≡ s.functions → Grown s r
same_grown s r p q = record { tables = rw p (grown_refl s).tables; functions = rw q (le_refl _) }

-- ---- without a source
abbrev pub none-set : Tables
none-set = fresh.recs

pub none_unmapped : unmapped none-set ≡ six (λ t. [])
unfolding unmapped fresh six count at
none_unmapped = refl

-- "Setting and clearing empty every map but the function map"
pub emptied-holds : (T T' : Tables) (s : Derived) → Holds T s → Holds T' (emptied (unmapped T') s)
unfolding emptied
emptied-holds T T' s h = record {
  typed = record { kept = (unfold emptied in emptied-kept T T' s h.typed.kept); shaped = h.typed.shaped; low = h.typed.low; paired = h.typed.paired; keys = h.typed.keys };
  names = (unfold emptied in emptied_follows T' s);
  pieces = pieces_grown (same_grown s (emptied (unmapped T') s) refl refl) h.pieces;
}

pub cleared_holds : (T : Tables) (s : Derived) → Holds T s → Holds none-set (emptied (six (λ t. [])) s)
cleared_holds T s h = rw none_unmapped at (emptied-holds T none-set s h)

fresh-emptied : emptied (unmapped none-set) fresh ≡ fresh
unfolding emptied unmapped fresh six count at
fresh-emptied = refl

pub fresh_holds : Holds none-set fresh
fresh_holds = record {
  typed = record { kept = rw fresh-emptied at fresh_kept; shaped = (unfold fresh in plain-next (plain-next (plain-next plain-none))); low = (unfold fresh in no_rays _); paired = (unfold fresh in each_none); keys = (unfold fresh distinct in refl) };
  names = rw fresh-emptied at (emptied_follows none-set fresh);
  pieces = (unfold fresh in each_none);
}

special-pieces : (p : Special) (r : Derived) → Each (Piece r) r.functions → Each (Piece (with_special p r)) (with_special p r).functions
unfolding with_special
special-pieces p r ps = pieces_grown (same_grown r (with_special p r) (unfold with_special in refl) (unfold with_special in refl)) ps

module _ (m : Module) (well : WellFormed m) (ok : Passes m) (o : ℕ) where
  abbrev T : Tables
  T = tables m

  -- ---- setting
  pub holds_setting : Setting m o (Holds T)
  holds_setting = record {
    ray-new = λ j n s l h. record {
      typed = (typed_setting m well ok.numbers ok.lowers o).ray-new j n s l h.typed;
      names = Known.follows_refl ((follows_setting m well ok.numbers ok.lowers o s).ray-new j n s l h.names);
      pieces = unfold put_ray in special-pieces _ _ (from_import m well ok o s types n s l (holds_from h)).pieces;
    };
    ray_old = λ j n v s e h. record {
      typed = (typed_setting m well ok.numbers ok.lowers o).ray_old j n v s e h.typed;
      names = Known.follows_refl ((follows_setting m well ok.numbers ok.lowers o s).ray_old j n v s e h.names);
      pieces = unfold force in pieces_grown (same_grown s (force n (suc v) s) (unfold force in refl) (unfold force in refl)) h.pieces;
    };
    pair-new = λ key n s l e h. record {
      typed = (typed_setting m well ok.numbers ok.lowers o).pair-new key n s l e h.typed;
      names = Known.follows_refl ((follows_setting m well ok.numbers ok.lowers o s).pair-new key n s l e h.names);
      pieces = unfold put_pair in special-pieces _ _ (from_import m well ok o s types n s l (holds_from h)).pieces;
    };
    pair_old = λ key n v s e h. record {
      typed = (typed_setting m well ok.numbers ok.lowers o).pair_old key n v s e h.typed;
      names = Known.follows_refl ((follows_setting m well ok.numbers ok.lowers o s).pair_old key n v s e h.names);
      pieces = unfold force in pieces_grown (same_grown s (force n (suc v) s) (unfold force in refl) (unfold force in refl)) h.pieces;
    };
  }

  pub sourced-holds : (S : Tables) (s : Derived) → Holds S s → Holds T (sourced o m s)
  sourced-holds S s h = sourced-kept m ok.numbers holds_setting well s (emptied-holds S T s h)

  -- ---- imports
  pub import_next : (t : Tab) (n : ℕ) (s : Derived) → n < count T t → Holds T s → Next m s (import_t o T t n s)
  import_next t n s l h = from_next (from_import m well ok o s t n s l (holds_from h))

  pub rename-next : (n name : ℕ) (s : Derived) → n < count T types → name < count T names → Holds T s → Next m s (import_t o (renamed T n name) types n s)
  rename-next n name s l k h = from_next (from_rename m well ok o n name l k s (holds_from h))

  -- where 22 is not met, `follow` is as imports of bodies require
  pub few : (s : Derived) → unknowns m s ≤ length m.functions
  unfolding unknowns
  few s = omega (arith, keep-short (numbers (length m.functions) 0) (unknown m s), length-numbers (length m.functions) 0)

  pub follow_follows : (s : Derived) → Lawful.Follows o m (follow o m) (λ j. Low (unknowns m s) m s j) (From m s)
  unfolding follow
  follow_follows s = follows m well ok o (unknowns m s) (length m.functions) (few s) s

  -- the height of each that is to be imported
  pub heights : (s : Derived) (is : List ℕ) → meets_ring is m s ≡ false → {js : List ℕ} → ((j : ℕ) → In j js → In j is) → Each (λ j. j < length m.functions) js → All (λ j. Low (unknowns m s) m s j) js
  heights s is e i each_none = tt
  heights s is e i (each_next {a = j} l ls) = (ringless m well ok.numbers s is e j (i j here) l, heights s is e (λ k h. i k (later h)) ls)

  pub callees_low : (s : Derived) (n : ℕ) → n < length m.functions → meets_ring (n ∷ callees (function_at m n)) m s ≡ false → All (λ j. Low (unknowns m s) m s j) (callees (function_at m n))
  callees_low s n l e = heights s (n ∷ callees (function_at m n)) e (λ j i. later i) (each_map (λ j c. c.to) (called m (numbered-known m well ok.numbers) n l))

  -- import_function
  pub function-next : (n : ℕ) (s : Derived) → n < length m.functions → meets_ring (n ∷ callees (function_at m n)) m s ≡ false → Holds T s → Next m s (append o m (follow o m) n s)
  function-next n s l e h = append-next m well ok o (follow o m) (λ j. Low (unknowns m s) m s j) s (follow_follows s) n l (callees_low s n l e) (holds_from h)

  -- map_function_handle
  pub handle_from : (n : ℕ) (s : Derived) → n < length m.functions → meets_ring (n ∷ []) m s ≡ false → Holds T s → From m s (follow o m n s)
  handle_from n s l e h = (follow_follows s).good n s (ringless m well ok.numbers s (n ∷ []) e n here l) (holds_from h)

  -- what has just been imported is the last function
  pub handle_last : (n : ℕ) (s : Derived) → n < length m.functions → meets_ring (n ∷ []) m s ≡ false → Holds T s → known m s n ≡ 0 → known m (follow o m n s) n ≡ length (follow o m n s).functions
  unfolding follow
  handle_last n s l e h = followed_last m well ok o (unknowns m s) (length m.functions) (few s) n s (ringless m well ok.numbers s (n ∷ []) e n here l) (holds_from h)
