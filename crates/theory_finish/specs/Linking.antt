-- LINK AS A FRESH SESSION, with what is known of tables and special types put in: what is left to show is of the functions and entry points that are derived, each well formed, in range, and no longer than the source's.
use Rattle.std.specs.Prelude.{◌≡◌, refl, Bool, true, false, ℕ, suc, ◌*◌, ◌<◌, ◌≤◌, length, get_or}
use Rattle.std.proofs.Math.Path.{sym}
use Rattle.std.proofs.Common.{◌∙◌, arith}
use mathlib.Core.List.{List, [], ◌∷◌, ◌++◌, map}
use Rattle.theory_lists.specs.Booleans.{and-true}
use Rattle.model.specs.Outcome.{Cells, laid}
use Rattle.model.specs.Tree.{Entry, flat, flat_entry}
use Rattle.model.specs.Module.{Module, read, write}
use Rattle.model.specs.Carry.{Lays, Each, each_none, each_next, WellFunction, WellEntry, WellFormed}
use Rattle.model.specs.Intake.{Passes, tested, verdict, intake_of}
use Rattle.model.specs.Numbers.{every, outside, sound_function, sound_entry, numbered}
use Rattle.model.specs.Lower.{functions_lower, entries_lower, lower}
use Rattle.model.specs.Names.{present, distinct, functions_named, entries_named, function_names, entry_names, named}
use Rattle.model.specs.Scope.{in_scope}
use Rattle.model.specs.Calls.{ordered}
use Rattle.model.specs.Callees.{order_of}
use Rattle.model.specs.Tables.{Tab, names, types, constants, overrides, globals, exprs, at, Tables, tables, rec_at, count}
use Rattle.model.specs.Imports.{Derived}
use Rattle.model.specs.Bodies.{enter_all, entries_made}
use Rattle.model.specs.Finish.{gathered, finished}
use Rattle.model.specs.Session.{with_entries}
use Rattle.model.specs.Link.{link_by}
use Rattle.theory_image.specs.Plain.{plain?, plain-length}
use Rattle.theory_image.specs.Modules.{read_well}
use Rattle.theory_image.specs.Members.{each_at}
use Rattle.theory_records.specs.Kinds.{row_of}
use Rattle.theory_records.specs.Passing.{FitR, Fit}
use Rattle.theory_records.specs.Imported.{derived-three, derived_four}
use Rattle.theory_finish.specs.Kept.{Parts}
use Rattle.theory_finish.specs.Finished.{each_mem, appearing_low, finished-parts}
use Rattle.theory_finish.specs.Size.{Smaller, Within, intake_sized, source-whole, source_small}
use Rattle.theory_finish.specs.Images.{image-read, finished_intake}
use Rattle.theory_finish.specs.Fresh.{state_at, Stays, stays_small, stays-short, FreshLink, fresh-link}
use Rattle.theory_finish.specs.Tabled.{Fits, state_fits, end_fits, fits_smaller, kept-differ}
use Rattle.theory_finish.specs.Specials.{Typed, state-typed, end-typed, typed-rays, typed-pairs, typed-within, state-pairs, end-pairs}

-- what is to be shown of functions and entry points
pub record Functions (m : Module) (s : Derived) (es : List Entry) : Type 0 where
  pub functions_well : Each WellFunction s.functions
  pub entries_well : Each WellEntry es
  pub functions_sound : every (sound_function (outside (gathered s es))) s.functions ≡ true
  pub entries_sound : every (sound_entry (outside (gathered s es))) es ≡ true
  pub functions_in_lem : Smaller (map flat s.functions) (map flat m.functions)
  pub entries_in : Smaller (map flat_entry es) (map flat_entry m.entries)

each_by : {P : Cells → Type 0} (l : List Cells) → ((i : ℕ) → i < length l → P (get_or l i [])) → Each P l
each_by [] h = each_none
each_by (x ∷ l) h = each_next (h 0 (omega arith)) (each_by l λ i k. h (suc i) (omega arith))

-- that they are laid out and their numbers are in range
pub record LaidOut (s : Derived) (es : List Entry) : Type 0 where
  pub functions_well : Each WellFunction s.functions
  pub entries_well : Each WellEntry es
  pub functions_sound : every (sound_function (outside (gathered s es))) s.functions ≡ true
  pub entries_sound : every (sound_entry (outside (gathered s es))) es ≡ true

module _ {T : Tables} (s : Derived) (es : List Entry) (k : Typed T s) (g : LaidOut s es) where
  table-laid : (t : Tab) → Each (Lays (row_of t)) (at t s.recs)
  table-laid t = each_by (at t s.recs) λ i h. laid-at i h
    where
      laid-at : (i : ℕ) → i < length (at t s.recs) → Lays (row_of t) (get_or (at t s.recs) i [])
      laid-at i h =
          let c : i < count s.recs t = (unfold count in h) in
          let r : FitR t (rec_at s.recs t i) = (unfold Fit in k.kept.fit t i c) in
          (unfold rec_at in r.laid)

  pub gathered-parts : Parts (gathered s es)
  unfolding gathered row_of at
  gathered-parts = record {
    names_each = table-laid names;
    types_each = table-laid types;
    constants_each = table-laid constants;
    overrides_each = table-laid overrides;
    globals_each = table-laid globals;
    exprs_each = table-laid exprs;
    functions_each = g.functions_well;
    entries_each = g.entries_well;
    rays_lays = typed-rays k;
    pairs_each = typed-pairs k;
  }

  pub gathered-numbers : numbered (gathered s es) ≡ true
  unfolding numbered gathered
  gathered-numbers =
      let t = derived-three T s es k.kept in
      let b = outside (gathered s es) in
      let c : count s.recs types ≡ b.types = (unfold outside count at gathered in refl) in
      let z = typed-within b c k in
      and-true t.types_in (and-true t.constants_in (and-true t.overrides_in (and-true t.globals_in (and-true t.exprs_in (and-true t.constant_in (and-true g.functions_sound (and-true g.entries_sound (and-true z.0 z.1))))))))

module _ (m : Module) (well : WellFormed m) (s : Derived) (es : List Entry) (k : Typed (tables m) s) (f : Fits 0 (tables m) s) (q : Smaller s.special.pairs m.special.pairs) (g : Functions m s es) where
  laid_out : LaidOut s es
  laid_out = record { functions_well = g.functions_well; entries_well = g.entries_well; functions_sound = g.functions_sound; entries_sound = g.entries_sound }

  parts : Parts (gathered s es)
  parts = gathered-parts s es k laid_out

  numbers : numbered (gathered s es) ≡ true
  numbers = gathered-numbers s es k laid_out

  rays_long : length s.special.rays ≡ length m.special.rays
  rays_long = plain-length (typed-rays k) (unfold plain? in refl) ∙ sym (plain-length well.rays-ok (unfold plain? in refl))

  inside-source : Within (gathered s es) m
  unfolding gathered tables at
  inside-source = record {
    types_in = fits_smaller f types;
    constants_in = fits_smaller f constants;
    overrides_in = fits_smaller f overrides;
    globals_in = fits_smaller f globals;
    exprs_in = fits_smaller f exprs;
    functions_in_lem = g.functions_in_lem;
    entries_in = g.entries_in;
    rays_in = omega (arith, rays_long);
    pairs_in_lem = q;
    names_in_lem = each_mem _ λ n i. each_at f.among n [] (appearing_low parts numbers n i);
  }

  pub all-stays : Stays m s es
  all-stays = record { parts = parts; numbers = numbers; names = unfold gathered at in kept-differ k.kept; within = inside-source }

-- what is to be shown for tests 4, 5 and 6
pub record Tests (s : Derived) (es : List Entry) : Type 0 where
  pub functions_lower_lem : functions_lower s.functions ≡ true
  pub entries_lower_lem : entries_lower es ≡ true
  pub functions_present : present (function_names s.functions) ≡ true
  pub entries_present : present (entry_names es) ≡ true
  pub functions_named_lem : functions_named s.functions ≡ true
  pub entries_named_lem : entries_named es ≡ true
  pub names_apart : distinct (function_names s.functions) ≡ true
  pub scope : in_scope (gathered s es) ≡ true

pub gathered-passes : {T : Tables} (s : Derived) (es : List Entry) → Typed T s → numbered (gathered s es) ≡ true → Tests s es → Passes (gathered s es)
gathered-passes {T} s es k n t = record {
  numbers = n;
  lowers = unfold lower gathered in (let f = derived_four T s es k.kept in and-true f.bases (and-true f.operands (and-true f.inits (and-true t.functions_lower_lem t.entries_lower_lem))));
  names = unfold named gathered at in and-true t.functions_present (and-true t.entries_present (and-true t.functions_named_lem (and-true t.entries_named_lem (and-true (kept-differ k.kept) (and-true t.names_apart k.keys)))));
  scope = t.scope;
}

-- intake's answer 0 is the four tests
tested-passes : (m : Module) → tested m ≡ 0 → Passes m
unfolding tested
tested-passes m h = go (numbered m) (lower m) (named m) (in_scope m) refl refl refl refl h
  where
    go : (a b c d : Bool) → numbered m ≡ a → lower m ≡ b → named m ≡ c → in_scope m ≡ d → (let v : ℕ = elim a [ true ↦ elim b [ true ↦ elim c [ true ↦ elim d [ true ↦ 0 | false ↦ 6 ] | false ↦ 5 ] | false ↦ 4 ] | false ↦ 3 ] in v) ≡ 0 → Passes m
    go true true true true p q r s h = record { numbers = p; lowers = q; names = r; scope = s }
    go true true true false p q r s h = absurd (omega arith)
    go true true false d p q r s h = absurd (omega arith)
    go true false c d p q r s h = absurd (omega arith)
    go false b c d p q r s h = absurd (omega arith)

pub intake_passes : (bytes : ℕ) (ws : List ℕ) (m : Module) → intake_of bytes ws ≡ 0 → read ws ≡ laid m → Passes m
unfolding intake_of verdict
intake_passes bytes ws m h r = tested-passes m (rw (intake_of, intake_sized bytes ws h, r) at h)

-- ---- THE THEOREMS
module _ (bytes : ℕ) (ws : List ℕ) (room : ℕ) (m : Module) (os : List ℕ)
    (passes : intake_of bytes ws ≡ 0) (reads : read ws ≡ laid m) (whole : bytes ≡ 4 * length ws) (roomy : bytes ≤ room) (order : order_of m ≡ ordered os)
    (funs : (xs ys : List ℕ) → os ≡ xs ++ ys → Functions m (state_at m xs) [])
    (ends : Functions m (enter_all m.entries 0 m (state_at m os)) (entries_made m.entries 0 m (state_at m os))) where
  well : WellFormed m
  well = read_well ws m reads

  ok : Passes m
  ok = intake_passes bytes ws m passes reads

  typed : Typed (tables m) (enter_all m.entries 0 m (state_at m os))
  typed = end-typed m well ok.numbers ok.lowers 0 os

  last : Stays m (enter_all m.entries 0 m (state_at m os)) (entries_made m.entries 0 m (state_at m os))
  last = all-stays m well _ _ typed (end_fits m well ok.numbers ok.lowers 0 os) (end-pairs m well ok.numbers 0 os typed) ends

  -- A FRESH SESSION accepts it all, and gives the words of link
  pub link-fresh : FreshLink bytes ws room m os
  link-fresh =
      fresh-link bytes ws room m os passes reads whole roomy order
      (λ xs ys e. let k = state-typed m well ok.numbers ok.lowers 0 xs in all-stays m well (state_at m xs) [] k (state_fits m well ok.numbers ok.lowers 0 xs) (state-pairs m well ok.numbers 0 xs k) (funs xs ys e))
      last

  -- WHAT IS LINKED passes intake again, and is no longer than the source
  pub link_intake : Tests (enter_all m.entries 0 m (state_at m os)) (entries_made m.entries 0 m (state_at m os)) → intake_of (4 * length (write (link_by os m))) (write (link_by os m)) ≡ 0
  unfolding link_by with_entries
  link_intake t = finished_intake _ _ last.parts (gathered-passes _ _ typed last.numbers t) (stays_small last (source_small bytes ws m passes reads whole))

  -- and it reads back
  pub link-read : read (write (link_by os m)) ≡ laid (link_by os m)
  unfolding link_by with_entries finished
  link-read = image-read (finished-parts last.parts last.numbers) (unfold finished in stays_small last (source_small bytes ws m passes reads whole))

  pub link-length : 4 * length (write (link_by os m)) ≤ bytes
  unfolding link_by with_entries
  link-length = omega (arith, stays-short last, source-whole bytes ws m passes reads whole)
