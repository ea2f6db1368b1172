-- THE FUNCTIONS AND ENTRY POINTS of a fresh session, from what holds of each of them when it is imported: that it alone is appended, is well formed and in range, and is no longer than its source. Each function is imported once, so there are no more of them, and no more words, than in the source.
use Rattle.std.specs.Prelude.{◌≡◌, Bool, true, eqb, set, replicate}
use Rattle.std.proofs.Math.Path.{refl, ap}
use Rattle.std.proofs.Common.{sym, ◌∙◌, le_trans}
use Rattle.std.proofs.Math.Bool.{false}
use mathlib.Core.List.{List, [], ◌∷◌, ◌++◌, map, append_assoc, append-nil}
use Prim.Native.Nat.{ℕ, zero, suc, ◌+◌, ◌<◌, ◌≤◌}
use native.Mathlib.Omega.{arith}
use Rattle.std.proofs.Math.ListN.{length, get_or, length-append}
use Rattle.std.proofs.lemmas.List.{length-map, get_or-replicate}
use borrow.Author.Tests.{eq-eqb}
use Rattle.theory_lists.specs.Sums.{sum, sum-set, sum_at}
use Rattle.theory_lists.specs.Booleans.{and-true, and_split}
use Rattle.model.specs.Outcome.{Cells}
use Rattle.model.specs.Tree.{Function, Entry, flat, flat_entry, flat_all}
use Rattle.model.specs.Module.{Module}
use Rattle.model.specs.Carry.{Each, each_none, each_next, WellFunction, WellEntry, WellFormed}
use Rattle.model.specs.Numbers.{every, outside, sound_function, sound_entry, numbered}
use Rattle.model.specs.Lower.{lower}
use Rattle.model.specs.Initial.{Mem, here, there}
use Rattle.theory_finish.specs.Exact.{sum_at_away}
use Rattle.theory_image.specs.Members.{mem_left}
use Rattle.model.specs.Calls.{In, here as first, later, keep, times, ordered}
use Rattle.model.specs.Callees.{calls, order_of}
use Rattle.model.specs.Redirect.{nothing, function as function_at}
use Rattle.model.specs.Tables.{Tab, names, types, constants, overrides, globals, exprs, at, Tables, tables, rec_at, count, map_at}
use Rattle.model.specs.References.{Place, table, own, function, Node, refs, fold_refs}
use Rattle.model.specs.Imports.{Derived, unless_mapped, intern, commit, step_t, import_f, import_t, emptied, fresh}
use Rattle.model.specs.Special.{force, with_special, put_ray, put_pair, sourced}
use Rattle.model.specs.Bodies.{final, localized, appended, append, follow, entered, entry_made, enter_all, entries_made}
use Rattle.model.specs.Finish.{gathered}
use Rattle.model.specs.Link.{append_all}
use Rattle.theory_image.specs.Quiet.{each_append}
use Rattle.theory_order.specs.Lists.{in_left, in_right, in_keep}
use Rattle.theory_order.specs.Theorems.{each_once}
use Rattle.theory_records.specs.Trace.{Trace, Sized, trace_sized, import_trace}
use Rattle.theory_records.specs.Theorems.{trace_grows}
use Rattle.theory_records.specs.Tested.{tested_wf}
use Rattle.theory_finish.specs.Firsts.{Once, once-none, once-next}
use Rattle.theory_finish.specs.Size.{Smaller}
use Rattle.theory_finish.specs.Ringless.{low}
use Rattle.theory_finish.specs.Sessions.{Keeping, Setting, specials_in, function-kept, entered-kept, enter_all_kept, sourced-kept}
use Rattle.theory_finish.specs.Tabled.{state_fits}
use Rattle.theory_finish.specs.Fresh.{state_at}
use Rattle.theory_finish.specs.Linking.{Functions}
use Rattle.theory_finish.specs.Wider.{Wider, functions_wider, entry_wider, every_snoc}

-- ---- sums over numbers, none of them twice

sum-once : {ns : List ℕ} (ws : List ℕ) → Once ns → sum_at ws ns ≤ sum ws
unfolding sum_at
sum-once ws once-none = omega arith
sum-once ws (once-next {x} {xs} h o) = omega (arith, sum-once (set ws x 0) o, sum_at_away ws x xs h, sum-set ws x)

sum_at_snoc : (ws xs : List ℕ) (i : ℕ) → sum_at ws (xs ++ (i ∷ [])) ≡ sum_at ws xs + get_or ws i 0
unfolding sum_at
sum_at_snoc ws [] i = omega arith
sum_at_snoc ws (x ∷ xs) i = omega (arith, sum_at_snoc ws xs i)

sum_ones : (n : ℕ) → sum (replicate n 1) ≡ n
unfolding sum
sum_ones zero = refl
sum_ones (suc n) = omega (arith, sum_ones n)

sum_at_ones : (n : ℕ) (xs : List ℕ) → ((i : ℕ) → In i xs → i < n) → sum_at (replicate n 1) xs ≡ length xs
unfolding sum_at
sum_at_ones n [] h = refl
sum_at_ones n (x ∷ xs) h = omega (arith, get_or-replicate {A = ℕ} n x 1 0 (h x first), sum_at_ones n xs λ i g. h i (later g))

sum-lengths : (rs : List Cells) → sum (map length rs) ≡ length (flat_all rs)
unfolding sum flat_all
sum-lengths [] = refl
sum-lengths (r ∷ rs) = ap (length r +◌) (sum-lengths rs) ∙ sym (length-append r (flat_all rs))

-- ---- the order has no number twice
mem_in : {x : ℕ} {xs : List ℕ} → Mem x xs → In x xs
mem_in here = first
mem_in (there m) = later (mem_in m)

in_length : {x : ℕ} {xs : List ℕ} → In x xs → 0 < length xs
in_length first = omega arith
in_length (later g) = omega arith

times-once : (xs : List ℕ) → ((i : ℕ) → In i xs → times xs i ≤ 1) → Once xs
times-once [] h = once-none
times-once (x ∷ xs) h = once-next (λ m. two (mem_in m) (h x first)) (times-once xs λ i g. less i (h i (later g)))
  where
    less : (i : ℕ) → times (x ∷ xs) i ≤ 1 → times xs i ≤ 1
    less i l = go (eqb i x) refl
      where
        go : (b : Bool) → eqb i x ≡ b → times xs i ≤ 1
        go true e = let k : suc (times xs i) ≤ 1 = (unfold keep in rw (keep, e) at l) in omega arith
        go false e = unfold keep in rw (keep, e) at l

    two : In x xs → times (x ∷ xs) x ≤ 1 → ⊥
    two g l =
        let k : suc (times xs x) ≤ 1 = (unfold keep in rw (keep, eq-eqb x x refl) at l) in
        let p : 0 < times xs x = in_length (in_keep (eqb x) g (eq-eqb x x refl)) in
        omega arith

module _ (m : Module) (os : List ℕ) (e : order_of m ≡ ordered os) where
  -- ONCE
  pub order-once : Once os
  order-once = times-once os λ i g. omega (arith, each_once (length m.functions) (calls m) os (unfold order_of in e) i (low m os e i g))

  prefix_once : (xs ys : List ℕ) → os ≡ xs ++ ys → Once xs
  prefix_once xs ys q = left xs (rw q at order-once)
    where
      left : (xs : List ℕ) → Once (xs ++ ys) → Once xs
      left [] o = once-none
      left (x ∷ xs) (once-next h o) = once-next (λ k. h (mem_left ys k)) (left xs o)

-- ---- imports of tables' records leave the functions
each_functions : (step : Place → ℕ → Derived → Derived) → ((p : Place) (n : ℕ) (s : Derived) → (step p n s).functions ≡ s.functions) → (js : List Node) (s : Derived) → (fold_refs js step s).functions ≡ s.functions
unfolding fold_refs
each_functions step h [] s = refl
each_functions step h (j ∷ js) s = each_functions step h js (step j.place j.num s) ∙ h j.place j.num s

import_functions : (f o : ℕ) (T : Tables) (t : Tab) (n : ℕ) (s : Derived) → (import_f f o T t n s).functions ≡ s.functions
unfolding import_f
import_functions zero o T t n s = refl
import_functions (suc f) o T t n s = go (map_at s.maps t n) (λ js s. each_functions (step_t (import_f f o T)) (λ p n s. stepped p n s (import_functions f o T)) js s)
  where
    stepped : (p : Place) (n : ℕ) (s : Derived) → ((t : Tab) (n : ℕ) (s : Derived) → (import_f f o T t n s).functions ≡ s.functions) → (step_t (import_f f o T) p n s).functions ≡ s.functions
    stepped (table t) n s h = unfold step_t in h t n s
    stepped own n s h = unfold step_t in h _ n s
    stepped function n s h = unfold step_t in refl

    go : (v : ℕ) → ((js : List Node) (s : Derived) → (fold_refs js (step_t (import_f f o T)) s).functions ≡ s.functions) → (unless_mapped v (λ z. commit o T t n (fold_refs (refs (rec_at T t n)) (step_t (import_f f o T)) s)) s).functions ≡ s.functions
    go zero h = unfold unless_mapped commit intern in h _ s
    go (suc v) h = unfold unless_mapped in refl

pub type_functions : (o : ℕ) (T : Tables) (t : Tab) (n : ℕ) (s : Derived) → (import_t o T t n s).functions ≡ s.functions
unfolding import_t
type_functions o T t n s = import_functions _ o T t n s

none_setting : (m : Module) (o : ℕ) → Setting m o (λ s. s.functions ≡ [])
none_setting m o = record {
  ray-new = λ j n s l h. unfold put_ray with_special in (let e : (import_t o (tables m) types n s).functions ≡ [] = type_functions o (tables m) types n s ∙ h in e);
  ray_old = λ j n v s e h. unfold force in h;
  pair-new = λ key n s l e h. unfold put_pair with_special in (let e : (import_t o (tables m) types n s).functions ≡ [] = type_functions o (tables m) types n s ∙ h in e);
  pair_old = λ key n v s e h. unfold force in h;
}

-- before the first function is imported there is none
pub none_functions : (m : Module) → WellFormed m → numbered m ≡ true → (sourced 0 m fresh).functions ≡ []
none_functions m well three = sourced-kept m three (none_setting m 0) well fresh (unfold emptied fresh in refl)

-- ---- tables grow
pub record Longer (T : Tables) (a s : Derived) : Type 0 where
  pub sized : Sized T s
  pub counts : (u : Tab) → count a.recs u ≤ count s.recs u

longer_keeping : (m : Module) → WellFormed m → numbered m ≡ true → lower m ≡ true → (a : Derived) → Keeping m 0 (Longer (tables m) a)
longer_keeping m well three four a = record {
  imports = λ t n s l k. grown t n s k (import_trace 0 (tables m) (tested_wf m well three four) t n s l k.sized).0;
  appends = λ f s k. unfold appended Sized in record { sized = k.sized; counts = k.counts };
}
  where
    grown : (t : Tab) (n : ℕ) (s : Derived) → Longer (tables m) a s → Trace 0 (tables m) s (import_t 0 (tables m) t n s) → Longer (tables m) a (import_t 0 (tables m) t n s)
    grown t n s k tr = record { sized = trace_sized 0 (tables m) tr k.sized; counts = λ u. le_trans (k.counts u) ((trace_grows 0 (tables m) (tested_wf m well three four) tr).longer u) }

longer_wider : {T : Tables} {a s : Derived} (es fs : List Entry) → Longer T a s → length a.functions ≤ length s.functions → Wider (outside (gathered a es)) (outside (gathered s fs))
unfolding outside gathered
longer_wider es fs l h = record {
  names = unfold count at in l.counts names;
  types = unfold count at in l.counts types;
  constants = unfold count at in l.counts constants;
  overrides = unfold count at in l.counts overrides;
  globals = unfold count at in l.counts globals;
  inits = unfold count at in l.counts exprs;
  functions = h;
  exprs = unfold count at in l.counts exprs;
  arguments = omega arith;
  locals = omega arith;
}

-- ---- FUNCTIONS
-- what is to be shown of function i, imported in the state s
pub record Made (m : Module) (s : Derived) (i : ℕ) : Type 0 where
  pub alone : (final 0 m (follow 0 m) (function_at m i) s).out.functions ≡ s.functions
  pub well : WellFunction (localized 0 m (follow 0 m) (function_at m i) s)
  pub short : length (flat (localized 0 m (follow 0 m) (function_at m i) s)) ≤ length (flat (function_at m i))
  pub sound : sound_function (outside (gathered (append 0 m (follow 0 m) i s) [])) (localized 0 m (follow 0 m) (function_at m i) s) ≡ true

abbrev pub lengths : Module → List ℕ
lengths m = map length (map flat m.functions)

pub record Sofar (m : Module) (xs : List ℕ) (s : Derived) : Type 0 where
  pub many : length s.functions ≡ length xs
  pub words : length (flat_all (map flat s.functions)) ≤ sum_at (lengths m) xs
  pub wells : Each WellFunction s.functions
  pub sounds : every (sound_function (outside (gathered s []))) s.functions ≡ true

flat_snoc : (fs : List Function) (f : Function) → length (flat_all (map flat (fs ++ (f ∷ [])))) ≡ length (flat_all (map flat fs)) + length (flat f)
unfolding flat_all
flat_snoc [] f = length-append (flat f) [] ∙ omega arith
flat_snoc (g ∷ fs) f =
    length-append (flat g) (flat_all (map flat (fs ++ (f ∷ [])))) ∙ (ap (length (flat g) +◌) (flat_snoc fs f) ∙ omega (arith, length-append (flat g) (flat_all (map flat fs))))

pub append_all_snoc : (xs : List ℕ) (i o : ℕ) (m : Module) (s : Derived) → append_all (xs ++ (i ∷ [])) o m s ≡ append o m (follow o m) i (append_all xs o m s)
unfolding append_all
append_all_snoc [] i o m s = refl
append_all_snoc (x ∷ xs) i o m s = append_all_snoc xs i o m (append o m (follow o m) x s)

module _ (m : Module) (well : WellFormed m) (three : numbered m ≡ true) (four : lower m ≡ true) where
  length_at : (i : ℕ) → i < length m.functions → get_or (lengths m) i 0 ≡ length (flat (function_at m i))
  unfolding function_at
  length_at i h = at_map m.functions i h
    where
      at_map : (fs : List Function) (i : ℕ) → i < length fs → get_or (map length (map flat fs)) i 0 ≡ length (flat (get_or fs i nothing))
      at_map [] i h = absurd (omega arith)
      at_map (f ∷ fs) zero h = refl
      at_map (f ∷ fs) (suc i) h = at_map fs i (omega arith)

  one_more : (xs : List ℕ) (i : ℕ) (s : Derived) → i < length m.functions → Sized (tables m) s → Made m s i → Sofar m xs s → Sofar m (xs ++ (i ∷ [])) (append 0 m (follow 0 m) i s)
  one_more xs i s h z k f = go (append 0 m (follow 0 m) i s).functions (unfold append appended in ap (◌++ (g ∷ [])) k.alone) k.sound (function-kept m three (longer_keeping m well three four s) i s (record { sized = z; counts = λ u. omega arith }))
    where
      g : Function
      g = localized 0 m (follow 0 m) (function_at m i) s

      go : (fs : List Function) → (append 0 m (follow 0 m) i s).functions ≡ s.functions ++ (g ∷ []) → sound_function (outside (gathered (append 0 m (follow 0 m) i s) [])) g ≡ true → Longer (tables m) s (append 0 m (follow 0 m) i s) → Sofar m (xs ++ (i ∷ [])) (append 0 m (follow 0 m) i s)
      go fs e q l = record {
        many = rw e (length-append s.functions (g ∷ []) ∙ omega (arith, f.many, length-append xs (i ∷ [])));
        words = rw e (omega (arith, flat_snoc s.functions g, sum_at_snoc (lengths m) xs i, length_at i h, k.short, f.words));
        wells = rw e (each_append f.wells (each_next k.well each_none));
        sounds = ap (every (sound_function (outside (gathered (append 0 m (follow 0 m) i s) [])))) e ∙ every_snoc _ s.functions g (functions_wider (longer_wider [] [] l (rw e (omega (arith, length-append s.functions (g ∷ []))))) s.functions f.sounds) q;
      }

  -- along the order
  module _ (os : List ℕ) (e : order_of m ≡ ordered os) (made : (xs ys : List ℕ) (i : ℕ) → os ≡ xs ++ (i ∷ ys) → Made m (state_at m xs) i) where
    start : Sofar m [] (sourced 0 m fresh)
    start = go (sourced-kept m three (none_setting m 0) well fresh (unfold emptied fresh in refl))
      where
        go : (sourced 0 m fresh).functions ≡ [] → Sofar m [] (sourced 0 m fresh)
        go e = record {
          many = rw e refl;
          words = rw e (unfold flat_all sum_at in omega arith);
          wells = rw e each_none;
          sounds = ap (every (sound_function (outside (gathered (sourced 0 m fresh) [])))) e ∙ (unfold every in refl);
        }

    onwards : (zs xs ys : List ℕ) → os ≡ xs ++ (zs ++ ys) → Sofar m xs (state_at m xs) → Sofar m (xs ++ zs) (state_at m (xs ++ zs))
    onwards [] xs ys q f = rw (append-nil xs) f
    onwards (z ∷ zs) xs ys q f =
        let i : z < length m.functions = low m os e z (rw q (in_right xs first)) in
        let n = one_more xs z (state_at m xs) i (state_fits m well three four 0 xs).sized (made xs (zs ++ ys) z q) f in
        let g : Sofar m (xs ++ (z ∷ [])) (state_at m (xs ++ (z ∷ []))) = rw (append_all_snoc xs z 0 m (sourced 0 m fresh)) n in
        rw (append_assoc xs (z ∷ []) zs) at (onwards zs (xs ++ (z ∷ [])) ys (q ∙ sym (append_assoc xs (z ∷ []) (zs ++ ys))) g)

    pub sofar : (xs ys : List ℕ) → os ≡ xs ++ ys → Sofar m xs (state_at m xs)
    sofar xs ys q = onwards xs [] ys q (unfold append_all in start)

    -- THE FUNCTIONS are no more and no longer than the source's
    pub functions_smaller : (xs ys : List ℕ) → os ≡ xs ++ ys → Smaller (map flat (state_at m xs).functions) (map flat m.functions)
    functions_smaller xs ys q =
        let f = sofar xs ys q in
        let o = prefix_once m os e xs ys q in
        let n = length m.functions in
        let a = sum-once (replicate n 1) o in
        let b = sum_at_ones n xs (λ i g. low m os e i (rw q (in_left ys g))) in
        let c = sum-once (lengths m) o in
        record {
          few = omega (arith, length-map (state_at m xs).functions flat, length-map m.functions flat, f.many, sum_ones n);
          short = omega (arith, f.words, sum-lengths (map flat m.functions));
        }

    pub functions_facts : (xs ys : List ℕ) → os ≡ xs ++ ys → Functions m (state_at m xs) []
    functions_facts xs ys q = let f = sofar xs ys q in record {
      functions_well = f.wells;
      entries_well = each_none;
      functions_sound = f.sounds;
      entries_sound = unfold every in refl;
      functions_in_lem = functions_smaller xs ys q;
      entries_in = record { few = omega arith; short = unfold flat_all in omega arith };
    }

-- ---- ENTRY POINTS
pub record EntryMade (m : Module) (e : Entry) (s : Derived) : Type 0 where
  pub alone : (entered 0 m e s).out.functions ≡ s.functions
  pub well : WellEntry (entry_made 0 m e s)
  pub short : length (flat_entry (entry_made 0 m e s)) ≤ length (flat_entry e)
  pub sound : sound_entry (outside (gathered (entered 0 m e s).out [])) (entry_made 0 m e s) ≡ true

pub data EntriesMade (m : Module) : List Entry → Derived → Type 0 where
  made_none : {s : Derived} → EntriesMade m [] s
  made-next : {e : Entry} {es : List Entry} {s : Derived} → EntryMade m e s → EntriesMade m es (entered 0 m e s).out → EntriesMade m (e ∷ es) s

module _ (m : Module) (well : WellFormed m) (three : numbered m ≡ true) (four : lower m ≡ true) where
  ends_functions : {es : List Entry} {s : Derived} → EntriesMade m es s → (enter_all es 0 m s).functions ≡ s.functions
  unfolding enter_all
  ends_functions made_none = refl
  ends_functions (made-next k ks) = ends_functions ks ∙ k.alone

  ends_well : {es : List Entry} {s : Derived} → EntriesMade m es s → Each WellEntry (entries_made es 0 m s)
  unfolding entries_made
  ends_well made_none = each_none
  ends_well (made-next k ks) = each_next k.well (ends_well ks)

  ends_smaller : {es : List Entry} {s : Derived} → EntriesMade m es s → Smaller (map flat_entry (entries_made es 0 m s)) (map flat_entry es)
  unfolding entries_made flat_all
  ends_smaller made_none = record { few = omega arith; short = omega arith }
  ends_smaller (made-next {e} {es} {s} k ks) =
      let i = ends_smaller ks in
      record {
        few = omega (arith, i.few);
        short = omega (arith, i.short, k.short, length-append (flat_entry (entry_made 0 m e s)) (flat_all (map flat_entry (entries_made es 0 m (entered 0 m e s).out))), length-append (flat_entry e) (flat_all (map flat_entry es)));
      }

  ends-sound : {es : List Entry} {s : Derived} (fs : List Entry) → every (sound_entry (outside m)) es ≡ true → Sized (tables m) s → EntriesMade m es s → every (sound_entry (outside (gathered (enter_all es 0 m s) fs))) (entries_made es 0 m s) ≡ true
  unfolding enter_all entries_made every
  ends-sound fs q z made_none = refl
  ends-sound fs q z (made-next {e} {es} {s} k ks) =
      let a = and_split (sound_entry (outside m) e) (every (sound_entry (outside m)) es) q in
      let s₁ : Derived = (entered 0 m e s).out in
      let z₁ : Sized (tables m) s₁ = (entered-kept m three (longer_keeping m well three four s) e a.0 s (record { sized = z; counts = λ u. omega arith })).sized in
      let l : Longer (tables m) s₁ (enter_all es 0 m s₁) = enter_all_kept m three (longer_keeping m well three four s₁) es a.1 s₁ (record { sized = z₁; counts = λ u. omega arith }) in
      and-true (entry_wider (longer_wider [] fs l (omega (arith, ap length (ends_functions ks)))) (entry_made 0 m e s) k.sound) (ends-sound fs a.1 z₁ ks)

  pub entries_facts : (os : List ℕ) → Functions m (state_at m os) [] → EntriesMade m m.entries (state_at m os) → Functions m (enter_all m.entries 0 m (state_at m os)) (entries_made m.entries 0 m (state_at m os))
  entries_facts os f k =
      let s : Derived = state_at m os in
      let es : List Entry = entries_made m.entries 0 m s in
      let z : Sized (tables m) s = (state_fits m well three four 0 os).sized in
      let q = ends_functions k in
      let l : Longer (tables m) s (enter_all m.entries 0 m s) = enter_all_kept m three (longer_keeping m well three four s) m.entries (specials_in m three).2 s (record { sized = z; counts = λ u. omega arith }) in
      record {
        functions_well = rw q f.functions_well;
        entries_well = ends_well k;
        functions_sound = ap (every (sound_function (outside (gathered (enter_all m.entries 0 m s) es)))) q ∙ functions_wider (longer_wider [] es l (omega (arith, ap length q))) s.functions f.functions_sound;
        entries_sound = ends-sound es (specials_in m three).2 z k;
        functions_in_lem = rw q f.functions_in_lem;
        entries_in = ends_smaller k;
      }
