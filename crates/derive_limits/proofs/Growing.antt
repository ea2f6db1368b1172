-- FULL STAYS FULL: functions imported, calls followed, entry points entered and a source that is set only add to a state, from a source that passed test 3. So the code may refuse as soon as it is full, with the entry points that it has by then.
use Rattle.std.specs.Prelude.{◌≡◌, refl, true, List, [], ◌∷◌, ◌++◌, map, ℕ, suc, ◌≤◌}
use Rattle.std.proofs.Common.{ap, le_refl, arith, length-append}
use Rattle.theory_lists.specs.Lists.{map-append}
use Rattle.model.specs.Tree.{Function, Entry, flat, flat_entry}
use Rattle.model.specs.Module.{Module}
use Rattle.model.specs.Carry.{WellFormed}
use Rattle.model.specs.Numbers.{numbered, every, outside, sound_entry}
use Rattle.model.specs.Tables.{types, tables}
use Rattle.model.specs.Imports.{Derived, import_t, unmapped, emptied}
use Rattle.model.specs.Special.{sourced}
use Rattle.model.specs.Bodies.{appended, append, follow, entered, entry_made, enter_all, entries_made}
use Rattle.theory_finish.specs.Sessions.{Keeping, Setting, function-kept, follow-kept, enter_all_kept, sourced-kept}
use Rattle.derive_state.specs.Held.{size_r, words_of, Over, long, many, crowd, keys}
use Rattle.derive_state.proofs.State.{size_r-append}
use Rattle.derive_imports.proofs.Growth.{Grow, stay, then, over_grow, grow_T, grow_special, grow_ray, grow_pair, grow_force}
use Rattle.derive_limits.specs.Full.{Full, over, entries}

-- ---- one function more
grow_append : (f : Function) (s : Derived) → Grow s (appended f s)
unfolding appended words_of
grow_append f s = record {
  size = rw (map-append flat s.functions (f ∷ []), size_r-append (map flat s.functions) (flat f)) (omega arith);
  rows = λ t. le_refl _;
  functions = rw (length-append s.functions (f ∷ [])) (omega arith);
  pairs = le_refl _;
}

pub grow_keeping : (m : Module) (o : ℕ) (a : Derived) → Keeping m o (Grow a)
grow_keeping m o a = record { imports = λ t n s l g. then g (grow_T o (tables m) t n s); appends = λ f s g. then g (grow_append f s) }

-- ---- maps do not count
grow_emptied : (m : Module) (s : Derived) → Grow s (emptied (unmapped (tables m)) s)
unfolding emptied
grow_emptied m s = grow_special s (emptied (unmapped (tables m)) s) refl refl (le_refl _)

pub grow_setting : (m : Module) (o : ℕ) (a : Derived) → Setting m o (Grow a)
grow_setting m o a = record {
  ray-new = λ j n s l g. then (then g (grow_T o (tables m) types n s)) (grow_ray j n (import_t o (tables m) types n s));
  ray_old = λ j n v s e g. then g (grow_force n (suc v) s);
  pair-new = λ key n s l e g. then (then g (grow_T o (tables m) types n s)) (grow_pair key n (import_t o (tables m) types n s));
  pair_old = λ key n v s e g. then g (grow_force n (suc v) s);
}

module _ (m : Module) (three : numbered m ≡ true) (o : ℕ) (s : Derived) where
  -- A FUNCTION IMPORTED, A CALL FOLLOWED, A SOURCE SET
  pub function_grows : (n : ℕ) → Grow s (append o m (follow o m) n s)
  function_grows n = function-kept m three (grow_keeping m o s) n s (stay s)

  pub follow_grows : (n : ℕ) → Grow s (follow o m n s)
  follow_grows n = follow-kept m three (grow_keeping m o s) n s (stay s)

  pub sourced_grows : WellFormed m → Grow s (sourced o m s)
  sourced_grows w = sourced-kept m three (grow_setting m o s) w s (grow_emptied m s)

  -- ENTRY POINTS
  pub enter_grows : (es : List Entry) → every (sound_entry (outside m)) es ≡ true → Grow s (enter_all es o m s)
  enter_grows es q = enter_all_kept m three (grow_keeping m o s) es q s (stay s)

-- ---- FULL, with some of the entry points, is full with more
more_size : (es fs : List Entry) → size_r (map flat_entry es) ≤ size_r (map flat_entry (es ++ fs))
unfolding size_r
more_size [] fs = omega arith
more_size (e ∷ es) fs = omega (arith, more_size es fs)

over_more : {k n : ℕ} {s : Derived} → k ≤ n → Over k s → Over n s
over_more l (long h) = long (omega arith)
over_more l (many t h) = many t h
over_more l (crowd h) = crowd h
over_more l (keys h) = keys h

pub full_later : {s r : Derived} {es : List Entry} (fs : List Entry) → Grow s r → Full s es → Full r (es ++ fs)
full_later {es} fs g (over h) = over (over_more (more_size es fs) (over_grow (size_r (map flat_entry es)) g h))
full_later {es} fs g (entries h) = entries (omega (arith, length-append es fs))

-- those that are entered first, and the rest
pub entered_then : (es fs : List Entry) (o : ℕ) (m : Module) (s : Derived)
    → (enter_all (es ++ fs) o m s ≡ enter_all fs o m (enter_all es o m s)) × (entries_made (es ++ fs) o m s ≡ entries_made es o m s ++ entries_made fs o m (enter_all es o m s))
unfolding enter_all entries_made
entered_then [] fs o m s = (refl, refl)
entered_then (e ∷ es) fs o m s = let i = entered_then es fs o m (entered o m e s).out in (i.0, ap (entry_made o m e s ∷◌) i.1)

-- SO it is full at the end where it is full on the way
pub full_end : (m : Module) → numbered m ≡ true → (o : ℕ) (es fs : List Entry) → every (sound_entry (outside m)) fs ≡ true → (s : Derived) → Full (enter_all es o m s) (entries_made es o m s) → Full (enter_all (es ++ fs) o m s) (entries_made (es ++ fs) o m s)
full_end m three o es fs q s h = let i = entered_then es fs o m s in rw (i.0, i.1) (full_later (entries_made fs o m (enter_all es o m s)) (enter_grows m three o (enter_all es o m s) fs q) h)
