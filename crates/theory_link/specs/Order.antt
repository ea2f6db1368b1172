-- IN OUTPUT ORDER: every state is one that imports may start from, so what is to be shown of each function (`Made`) holds. The same of entry points.
use Rattle.std.specs.Prelude.{◌≡◌, Bool, true}
use Rattle.std.proofs.Math.Path.{refl}
use Rattle.std.proofs.Common.{sym, ap, ◌∙◌, le_trans}
use mathlib.Core.List.{List, [], ◌∷◌, ◌++◌, append_assoc, append-nil}
use Rattle.std.proofs.Math.Option.{some}
use Prim.Native.Nat.{ℕ, zero, suc, ◌<◌, ◌≤◌}
use Rattle.std.proofs.Math.Nat.{le_refl}
use native.Mathlib.Omega.{arith}
use Rattle.std.proofs.Math.ListN.{length, get_elem?, length-append}
use Rattle.theory_lists.specs.Booleans.{and_split}
use Rattle.model.specs.Outcome.{Cells}
use Rattle.model.specs.Table.{WORD, NAME}
use Rattle.model.specs.Tree.{Function, Entry, flat, flat_entry}
use Rattle.model.specs.Module.{Module}
use Rattle.model.specs.Carry.{carry_cell, Each, each_none, each_next, WellEntry, WellFormed}
use Rattle.model.specs.Numbers.{Bounds, caps, bound, below as under, within, rising, ordered as rises, every, outside, inside, sound, sound_entry}
use Rattle.model.specs.Agreement.{Among, first, later}
use Rattle.model.specs.Intake.{Passes}
use Rattle.model.specs.Calls.{In, ordered}
use Rattle.model.specs.Callees.{callees, calls, order_of}
use Rattle.model.specs.Redirect.{name_word, function as function_at}
use Rattle.model.specs.Tables.{Tab, names, at, tables, count}
use Rattle.model.specs.References.{target, targets, refs, through, carry_w, shift, moved}
use Rattle.model.specs.Imports.{Derived, import_t, fresh}
use Rattle.model.specs.Special.{sourced}
use Rattle.model.specs.Bodies.{known, Builder, mapped_to, carried, final, localized, appended, append, follow, entered, entry_made}
use Rattle.model.specs.Finish.{gathered}
use Rattle.model.specs.Link.{append_all}
use Rattle.theory_order.specs.Numbered.{cells_below}
use Rattle.theory_bodies.specs.EntryHeads.{Head, headed, entry_head_lem, name_to, rising_word, sound_of, sound-parts}
use Rattle.theory_bodies.specs.Names.{name_low}
use Rattle.theory_order.specs.Cells.{cells_function}
use Rattle.theory_order.specs.Theorems.{each_once, times_in}
use Rattle.theory_image.specs.Within.{within-append}
use Rattle.theory_records.specs.Functions.{cells_in}
use Rattle.theory_records.specs.Theorems.{Inside}
use Rattle.theory_bodies.specs.Context.{Grown, grown_refl, grown_trans}
use Rattle.theory_bodies.specs.Lists.{All}
use Rattle.theory_bodies.specs.Passing as Bodies
use Rattle.theory_bodies.specs.Layout.{lays_carried}
use Rattle.theory_bodies.specs.Lawful as Lawful
use Rattle.theory_bodies.specs.Source.{entry-passes, good_start}
use Rattle.theory_bodies.specs.Theorems as Theorems
use Rattle.theory_finish.specs.Fresh.{state_at}
use Rattle.theory_finish.specs.Known as Known
use Rattle.theory_finish.specs.Sessions.{specials_in}
use Rattle.theory_finish.specs.Output.{all-follow, source_follows, bears_kept, all_known}
use Rattle.theory_finish.specs.Specials.{state-typed}
use Rattle.theory_finish.specs.Called.{low_funs, each_kept}
use Rattle.theory_finish.specs.Counting.{Made, EntryMade, EntriesMade, made_none, made-next, append_all_snoc, none_functions}
use Rattle.theory_link.specs.Function.{Going, idle_follows, all_of_each, ends, made_one}

names_snoc : (b : ℕ) (fs : List Function) (f : Function) → Lawful.NamesTo b fs → name_word f ≤ b → Lawful.NamesTo b (fs ++ (f ∷ []))
names_snoc b [] f a h = (h, tt)
names_snoc b (g ∷ fs) f a h = (a.0, names_snoc b fs f a.1 h)

module _ (m : Module) (well : WellFormed m) (ok : Passes m) (os : List ℕ) (e : order_of m ≡ ordered os) where
  good_next : (xs ys : List ℕ) (i : ℕ) → os ≡ xs ++ (i ∷ ys) → Lawful.Good m (state_at m xs) → Lawful.Good m (state_at m (xs ++ (i ∷ [])))
  good_next xs ys i q g =
      record {
        kept = (state-typed m well ok.numbers ok.lowers 0 (xs ++ (i ∷ []))).kept;
        named = rw (append_all_snoc xs i 0 m (sourced 0 m fresh)) (named (made_one m well ok os e xs ys i q g));
      }
    where
      named : Made m (state_at m xs) i → Lawful.NamesTo (count (append 0 m (follow 0 m) i (state_at m xs)).recs names) (append 0 m (follow 0 m) i (state_at m xs)).functions
      named k = snoc (ends m well ok os e xs ys i q g).good.named (name_low (outside (gathered (append 0 m (follow 0 m) i (state_at m xs)) [])) (localized 0 m (follow 0 m) (function_at m i) (state_at m xs)) k.well k.sound)
        where
          b : Bounds
          b = outside (gathered (append 0 m (follow 0 m) i (state_at m xs)) [])

          snoc : Lawful.NamesTo (count (final 0 m (follow 0 m) (function_at m i) (state_at m xs)).out.recs names) (final 0 m (follow 0 m) (function_at m i) (state_at m xs)).out.functions
              → name_word (localized 0 m (follow 0 m) (function_at m i) (state_at m xs)) ≤ b.names
              → Lawful.NamesTo (count (append 0 m (follow 0 m) i (state_at m xs)).recs names) (append 0 m (follow 0 m) i (state_at m xs)).functions
          snoc a h = unfold append appended outside gathered count at in names_snoc (length (final 0 m (follow 0 m) (function_at m i) (state_at m xs)).out.recs.of_names) (final 0 m (follow 0 m) (function_at m i) (state_at m xs)).out.functions (localized 0 m (follow 0 m) (function_at m i) (state_at m xs)) a h

  onwards : (zs xs ys : List ℕ) → os ≡ xs ++ (zs ++ ys) → Lawful.Good m (state_at m xs) → Lawful.Good m (state_at m (xs ++ zs))
  onwards [] xs ys q g = rw (append-nil xs) g
  onwards (z ∷ zs) xs ys q g =
      rw (append_assoc xs (z ∷ []) zs) at (onwards zs (xs ++ (z ∷ [])) ys (q ∙ sym (append_assoc xs (z ∷ []) (zs ++ ys))) (good_next xs (zs ++ ys) z q g))

  start : Lawful.Good m (state_at m [])
  start = good_start m _ (state-typed m well ok.numbers ok.lowers 0 []).kept (unfold append_all in none_functions m well ok.numbers)

  pub good_at : (xs ys : List ℕ) → os ≡ xs ++ ys → Lawful.Good m (state_at m xs)
  good_at xs ys q = onwards xs [] ys q start

  -- THE FUNCTIONS
  pub functions_made : (xs ys : List ℕ) (i : ℕ) → os ≡ xs ++ (i ∷ ys) → Made m (state_at m xs) i
  functions_made xs ys i q = made_one m well ok os e xs ys i q (good_at xs (i ∷ ys) q)

-- ---- ENTRY POINTS
-- an entry point that passed
pub record Sound (m : Module) (E : Entry) : Type 0 where
  pub laid : WellEntry E
  pub three : sound_entry (outside m) E ≡ true
  pub pass : Bodies.Passes m E.function

pub head_carried : (m : Module) (x : Builder) {r : Cells} → Head r → (v : ℕ) × (cs : Cells) × (r ≡ (NAME, v) ∷ cs) × (carried 0 m x r ≡ (NAME, name_to x v) ∷ cs) × ((b : Bounds) (ds : Cells) → within b ds ≡ true → rises ds ≡ true → (within b (cs ++ ds) ≡ true) × (rises ((NAME, name_to x v) ∷ (cs ++ ds)) ≡ true))
head_carried m x (headed {v} {a} {b} {c} {d} {e} {f}) =
    (v, (WORD, a) ∷ (WORD, b) ∷ (WORD, c) ∷ (WORD, d) ∷ (WORD, e) ∷ (WORD, f) ∷ [], refl, word_of_lem v, λ y ds h o. (unfold within bound caps under in h, unfold rises rising in rising_word f ds o))
  where
    word_of_lem : (v : ℕ) → carried 0 m x ((NAME, v) ∷ (WORD, a) ∷ (WORD, b) ∷ (WORD, c) ∷ (WORD, d) ∷ (WORD, e) ∷ (WORD, f) ∷ []) ≡ (NAME, name_to x v) ∷ (WORD, a) ∷ (WORD, b) ∷ (WORD, c) ∷ (WORD, d) ∷ (WORD, e) ∷ (WORD, f) ∷ []
    word_of_lem zero = unfold carried shift carry_cell through carry_w target targets moved name_to in refl
    word_of_lem (suc n) = unfold carried shift carry_cell through carry_w target targets moved name_to mapped_to in refl

module _ (m : Module) (well : WellFormed m) (ok : Passes m) (os : List ℕ) (e : order_of m ≡ ordered os) where
  abbrev pub last : Derived
  last = state_at m os

  abbrev pub Any : ℕ → Type 0
  Any j = j < length m.functions

  -- in the end every function is known
  pub known_at : (j : ℕ) (s : Derived) → Any j → Known.Follows (tables m) last s → 0 < known m s j
  known_at j s h f =
      let g : In j os = times_in os j (omega (arith, each_once (length m.functions) (calls m) os (unfold order_of in e) j h)) in
      (bears_kept m well ok.numbers ok.lowers 0 j f (all_known m well ok.numbers ok.lowers ok.names os e fresh j g)).found

  pub any_follows : Lawful.Follows 0 m (follow 0 m) Any (Going m last)
  any_follows = idle_follows m well ok last Any known_at

  pub at-end : Going m last last
  at-end = record { good = good_at m well ok os e os [] (rw (append-nil os)); after = Known.follows_refl (all-follow m well ok.numbers ok.lowers 0 _ os _ (source_follows m well ok.numbers ok.lowers ok.names os e fresh)); same = refl }

  module _ (E : Entry) (p : Sound m E) (s : Derived) (g : Going m last s) where
    abbrev F : Function
    F = E.function

    abbrev b : Bounds
    b = inside (outside m) F

    both : (within b E.head ≡ true) × (within b (flat F) ≡ true)
    both = unfold sound flat_entry in within-append b E.head (flat F) (and_split (within b (E.head ++ flat F)) _ p.three).0

    pub calls-any : All Any (callees F)
    calls-any = all_of_each (low_callees (rw (cells_function p.laid.function-ok) at (cells_below b (flat F) both.1)))
      where
        low_callees : Each (λ j. j < b.functions) (callees F) → Each Any (callees F)
        low_callees a = unfold inside outside in a

    abbrev out : Derived
    out = (final 0 m (follow 0 m) F s).out

    body_going : Going m last out
    body_going = Theorems.out_good m well ok.numbers ok.lowers 0 (follow 0 m) Any (Going m last) any_follows F p.pass calls-any s g

    abbrev ent : Builder
    ent = entered 0 m E s

    on : Going m last ent.out × Grown out ent.out
    on = unfold entered in each_kept m 0 K ik (follow 0 m) Any fk (λ x y. y) (λ x y k. k) (refs E.head) (cells_in m F E.head both.0) (unfold inside outside in low_funs b E.head both.0) (final 0 m (follow 0 m) F s) (body_going, grown_refl out)
      where
        K : Derived → Type 0
        K r = Going m last r × Grown out r

        ik : (t : Tab) (n : ℕ) (r : Derived) → n < count (tables m) t → K r → K (import_t 0 (tables m) t n r)
        ik t n r h k = (any_follows.imports t n r h k.0, grown_trans k.1 (Lawful.import_grown m well ok.numbers ok.lowers 0 t n r h k.0.good))

        fk : (j : ℕ) (r : Derived) → Any j → K r → K (follow 0 m j r)
        fk j r h k = (any_follows.good j r h k.0, grown_trans k.1 (any_follows.grown j r h k.0))

    pub entry_going : Going m last ent.out
    entry_going = on.0

    abbrev D : Module
    D = gathered ent.out []

    pub entry-again : (C : Module) → ((t : Tab) → count ent.out.recs t ≤ count (tables C) t) → length ent.out.functions ≤ length C.functions → Bodies.Passes C (localized 0 m (follow 0 m) F s)
    entry-again C r f = Theorems.passes-again m well ok.numbers ok.lowers 0 (follow 0 m) Any (Going m last) any_follows F p.pass calls-any s g C (λ t. le_trans (on.1.tables.longer t) (r t)) (le_trans on.1.functions f)

    pub again : Bodies.Passes D (localized 0 m (follow 0 m) F s)
    unfolding tables gathered
    again = entry-again D (λ t. le_refl _) (le_refl _)

    name_in_lem : (v : ℕ) → name_to ent v ≤ count ent.out.recs names
    unfolding name_to Inside
    name_in_lem zero = omega arith
    name_in_lem (suc n) = entry_going.good.kept.base.inside names n

    abbrev F' : Function
    F' = localized 0 m (follow 0 m) F s

    abbrev Carried : Type 0
    Carried = (v : ℕ) × (cs : Cells) × (E.head ≡ (NAME, v) ∷ cs) × (carried 0 m ent E.head ≡ (NAME, name_to ent v) ∷ cs) × ((b : Bounds) (ds : Cells) → within b ds ≡ true → rises ds ≡ true → (within b (cs ++ ds) ≡ true) × (rises ((NAME, name_to ent v) ∷ (cs ++ ds)) ≡ true))

    pub the_head : Carried
    the_head = head_carried m ent (entry_head_lem p.laid)

    sound-at : sound_entry (outside D) (entry_made 0 m E s) ≡ true
    unfolding entry_made flat_entry
    sound-at =
        let t = sound-parts (outside D) F' again.three in
        let a = the_head in
        let h = a.4 (inside (outside D) F') (flat F') t.0 t.1 in
        rw a.3 (sound_of (outside D) F' (name_to ent a.0) a.1 (unfold outside gathered count at in name_in_lem a.0) h.0 h.1 t.2)

    short-at : length (flat_entry (entry_made 0 m E s)) ≤ length (flat_entry E)
    unfolding entry_made flat_entry
    short-at =
        let a = the_head in
        let w = Theorems.words_fewer m well ok.numbers ok.lowers 0 (follow 0 m) Any (Going m last) any_follows F p.pass calls-any s g in
        let h : length (carried 0 m ent E.head) ≡ length E.head = rw a.3 (sym (ap length a.2)) in
        omega (arith, length-append (carried 0 m ent E.head) (flat F'), length-append E.head (flat F))

    pub entry-made : EntryMade m E s
    entry-made = record { alone = entry_going.same ∙ sym g.same; well = unfold entry_made in record { head_ok = lays_carried 0 m ent p.laid.head_ok; function-ok = again.well }; short = short-at; sound = sound-at }

  -- all of them
  pub entries_made_lem : (es : List Entry) → ((E : Entry) → Among E es → Sound m E) → (s : Derived) → Going m last s → EntriesMade m es s
  entries_made_lem [] h s g = made_none
  entries_made_lem (E ∷ es) h s g = made-next (entry-made E (h E first) s g) (entries_made_lem es (λ D k. h D (later k)) (entered 0 m E s).out (entry_going E (h E first) s g))

  among-at : {A : Type 0} {x : A} (l : List A) → Among x l → (i : ℕ) × (get_elem? l i ≡ some x)
  among-at [] k = elim k [ ]
  among-at (y ∷ l) first = (0, refl)
  among-at (y ∷ l) (later k) = let r = among-at l k in (suc r.0, r.1)

  every_in : {A : Type 0} (p : A → Bool) {x : A} (l : List A) → every p l ≡ true → Among x l → p x ≡ true
  unfolding every
  every_in p [] h k = elim k [ ]
  every_in p {x} (y ∷ l) h first = (and_split (p x) (every p l) h).0
  every_in p (y ∷ l) h (later k) = every_in p l (and_split (p y) (every p l) h).1 k

  each_in : {A : Type 0} {P : A → Type 0} {x : A} {l : List A} → Each P l → Among x l → P x
  each_in each_none k = elim k [ ]
  each_in (each_next a ps) first = a
  each_in (each_next a ps) (later k) = each_in ps k

  pub entry-sound : (E : Entry) → Among E m.entries → Sound m E
  entry-sound E k = let r = among-at m.entries k in record {
    laid = each_in well.entries_ok.each k;
    three = every_in (sound_entry (outside m)) m.entries (specials_in m ok.numbers).2 k;
    pass = entry-passes m well ok.numbers ok.lowers ok.scope r.0 E r.1;
  }

  pub all_entries : EntriesMade m m.entries last
  all_entries = entries_made_lem m.entries entry-sound last at-end
