-- ENTRY POINTS: those of the source that is set, as a session ends with them. Each that is derived passes, in the derived module as it is in the end.
use Rattle.std.specs.Prelude.{◌≡◌, true, false, eqb, length}
use Rattle.std.proofs.Math.Path.{refl, ap}
use Rattle.std.proofs.Math.Bool.{not}
use Rattle.std.proofs.lemmas.Bool.{false≢true}
use mathlib.Core.List.{List, [], ◌∷◌, ◌++◌}
use Rattle.std.proofs.Math.Option.{some}
use Prim.Native.Nat.{ℕ, zero, suc, ◌<◌, ◌≤◌}
use Rattle.std.proofs.Math.Nat.{le_refl}
use Rattle.std.proofs.Common.{le_trans, ne_eqb}
use native.Mathlib.Omega.{arith}
use Rattle.std.proofs.Math.ListN.{get_elem?}
use Rattle.theory_lists.specs.Booleans.{and_split}
use Rattle.model.specs.Outcome.{Cells}
use Rattle.model.specs.Table.{WORD, NAME}
use Rattle.model.specs.Tree.{Function, Entry, flat, flat_entry}
use Rattle.model.specs.Module.{Module}
use Rattle.model.specs.Carry.{carry_cell, Each, each_none, each_next, WellEntry, WellFormed}
use Rattle.model.specs.Numbers.{Bounds, caps, bound, below as under, within, rising, ordered as rises, every, outside, inside, sound, sound_entry}
use Rattle.model.specs.Intake.{Passes}
use Rattle.model.specs.Names.{field, present, expressions_named, functions_named, entries_named, function_names, entry_names, named}
use Rattle.model.specs.Calls.{In}
use Rattle.model.specs.Callees.{callees}
use Rattle.model.specs.Tables.{Tab, names, at, tables, count, map_at}
use Rattle.model.specs.References.{table, opt, target, targets, ref_of, refs, fold_refs, through, carry_w, shift, moved}
use Rattle.model.specs.Imports.{Derived, import_t}
use Rattle.model.specs.Bodies.{Builder, bring, mapped_to, carried, step, final, localized, follow, entered, entry_made, enter_all, entries_made}
use Rattle.model.specs.Finish.{gathered}
use Rattle.model.specs.Session.{meets_ring, callees_of}
use Rattle.theory_bodies.specs.EntryHeads.{Head, headed, entry_head_lem, name_to, rising_word, sound_of, sound-parts}
use Rattle.theory_order.specs.Numbered.{sound-below}
use Rattle.theory_order.specs.Lists.{in_left, in_right}
use Rattle.theory_image.specs.Within.{within-append}
use Rattle.theory_records.specs.Theorems.{Inside}
use Rattle.theory_records.specs.Imported.{import_kept, gathered-tables}
use Rattle.theory_bodies.specs.Context.{Grown, grown_refl, grown_trans}
use Rattle.theory_bodies.specs.Lists.{All, all_map}
use Rattle.theory_bodies.specs.Lawful as Lawful
use Rattle.theory_bodies.specs.Passing as Bodies
use Rattle.theory_bodies.specs.Layout.{lays_carried}
use Rattle.theory_bodies.specs.Source.{entry-passes}
use Rattle.theory_finish.specs.Cellwise.{each_first}
use Rattle.theory_finish.specs.Finished.{Low as LowCell, within_low}
use Rattle.theory_finish.specs.Sessions.{specials_in}
use Rattle.theory_sessions.specs.Height.{Low, low_on, unknowns}
use Rattle.theory_sessions.specs.Following.{Of, of_entry, Origin, origin_grown, origin, From, from_refl, from_trans, from_import, follows, ends, again, names_again}
use Rattle.theory_sessions.specs.Holding.{few, heights}

pub record EntryPiece (s : Derived) (E : Entry) : Type 0 where
  pub laid : WellEntry E
  pub passes : (D : Module) → ((t : Tab) → count s.recs t ≤ count (tables D) t) → length s.functions ≤ length D.functions → (sound_entry (outside D) E ≡ true) × Bodies.Passes D E.function
  pub called : not (eqb (field NAME E.head) 0) ≡ true
  pub names : expressions_named E.function ≡ true
  pub origin : Origin s E.function

entry_grown : {s r : Derived} {E : Entry} → Grown s r → EntryPiece s E → EntryPiece r E
entry_grown g p = record { laid = p.laid; passes = λ D t l. p.passes D (λ u. le_trans (g.tables.longer u) (t u)) (le_trans g.functions l); called = p.called; names = p.names; origin = origin_grown g p.origin }

-- ---- the head

-- a carried head
record Carried (o : ℕ) (m : Module) (x : Builder) (r : Cells) : Type 0 where
  name : ℕ
  rest : Cells
  is : field NAME r ≡ name
  goes : carried o m x r ≡ (NAME, name_to x name) ∷ rest
  within-rest : (b : Bounds) (ds : Cells) → within b ds ≡ true → within b (rest ++ ds) ≡ true
  rises_rest : (v : ℕ) (ds : Cells) → rises ds ≡ true → rises ((NAME, v) ∷ (rest ++ ds)) ≡ true

head_carried : (o : ℕ) (m : Module) (x : Builder) {r : Cells} → Head r → Carried o m x r
head_carried o m x (headed {v} {a} {b} {c} {d} {e} {f}) = record {
  name = v;
  rest = (WORD, a) ∷ (WORD, b) ∷ (WORD, c) ∷ (WORD, d) ∷ (WORD, e) ∷ (WORD, f) ∷ [];
  is = unfold field in refl;
  goes = word_of_lem v;
  within-rest = λ y ds h. unfold within bound caps under in h;
  rises_rest = λ y ds h. unfold rises rising in rising_word f ds h;
}
  where
    word_of_lem : (v : ℕ) → carried o m x ((NAME, v) ∷ (WORD, a) ∷ (WORD, b) ∷ (WORD, c) ∷ (WORD, d) ∷ (WORD, e) ∷ (WORD, f) ∷ []) ≡ (NAME, name_to x v) ∷ (WORD, a) ∷ (WORD, b) ∷ (WORD, c) ∷ (WORD, d) ∷ (WORD, e) ∷ (WORD, f) ∷ []
    word_of_lem zero = unfold carried shift carry_cell through carry_w target targets moved name_to in refl
    word_of_lem (suc n) = unfold carried shift carry_cell through carry_w target targets moved name_to mapped_to in refl

-- what it imports: its name
head_brings : (K : Derived → Type 0) (o : ℕ) (m : Module) (fol : ℕ → Derived → Derived) {r : Cells} → Head r → (y : Builder) → (field NAME r ≡ 0 → K y.out) → ((n : ℕ) → field NAME r ≡ suc n → K (import_t o (tables m) names n y.out)) → K (fold_refs (refs r) (step o m fol (λ x n. n)) y).out
unfolding refs ref_of target targets field
head_brings K o m fol (headed {v}) y k f = go v k f
  where
    go : (v : ℕ) → (v ≡ 0 → K y.out) → ((n : ℕ) → v ≡ suc n → K (import_t o (tables m) names n y.out)) → K (fold_refs (ref_of (opt (table names)) v []) (step o m fol (λ x n. n)) y).out
    go zero k f = unfold ref_of fold_refs in k refl
    go (suc n) k f = unfold ref_of fold_refs step bring in f n refl

module _ (m : Module) (well : WellFormed m) (ok : Passes m) (o : ℕ) (a : Derived) where
  -- ---- one entry point of the source
  pub record Sound (E : Entry) : Type 0 where
    pub laid : WellEntry E
    pub three : sound_entry (outside m) E ≡ true
    pub pass : Bodies.Passes m E.function
    pub is : Of m E.function
    pub called : not (eqb (field NAME E.head) 0) ≡ true
    pub names : expressions_named E.function ≡ true
    pub calls : All (λ j. Low (unknowns m a) m a j) (callees E.function)

  module _ (E : Entry) (p : Sound E) (s : Derived) (f : From m a s) where
    abbrev F : Function
    F = E.function

    abbrev Q : ℕ → Type 0
    Q j = Low (unknowns m a) m s j

    fol_follows : Lawful.Follows o m (follow o m) (λ j. Low (unknowns m a) m s j) (From m s)
    unfolding follow
    fol_follows = follows m well ok o (unknowns m a) (length m.functions) (few m well ok o a) s

    calls_low : All (λ j. Low (unknowns m a) m s j) (callees F)
    calls_low = all_map (callees F) (λ j. low_on (unknowns m a) m a s (λ k h. rw (f.knows k h) h) j) p.calls

    abbrev e : Derived
    e = (final o m (follow o m) F s).out

    body : From m s e
    body = ends m well ok o (follow o m) (λ j. Low (unknowns m a) m s j) s fol_follows F p.pass calls_low (from_refl f)

    abbrev ent : Builder
    ent = entered o m E s

    head_within : within (inside (outside m) F) E.head ≡ true
    head_within = unfold sound flat_entry in (within-append (inside (outside m) F) E.head (flat F) (and_split (within (inside (outside m) F) (E.head ++ flat F)) _ p.three).0).0

    head_low : (n : ℕ) → field NAME E.head ≡ suc n → n < count (tables m) names
    head_low n q = at_head (entry_head_lem p.laid) (within_low (inside (outside m) F) E.head head_within) q
      where
        at_head : {r : Cells} → Head r → Each (LowCell (inside (outside m) F).names) r → field NAME r ≡ suc n → n < count (tables m) names
        at_head (headed {v}) c q = unfold count tables at in (let z : v ≡ suc n = (unfold field in q) in let y : v < suc (length m.names) = (unfold inside outside in each_first c refl) in omega arith)

    pub on : From m e ent.out
    unfolding entered
    on = head_brings (From m e) o m (follow o m) (entry_head_lem p.laid) (final o m (follow o m) F s) (λ z. from_refl body) (λ n q. from_import m well ok o e names n e (head_low n q) (from_refl body))

    pub entry_from : From m a ent.out
    entry_from = from_trans f (from_trans body on)

    name_in_lem : (v : ℕ) → name_to ent v ≤ count ent.out.recs names
    unfolding name_to Inside
    name_in_lem zero = omega arith
    name_in_lem (suc n) = on.typed.kept.base.inside names n

    name_mapped : (v : ℕ) → field NAME E.head ≡ v → not (eqb v 0) ≡ true → not (eqb (name_to ent v) 0) ≡ true
    unfolding name_to entered
    name_mapped zero q k = absurd (false≢true k)
    name_mapped (suc n) q k = ap not (ne_eqb (map_at ent.out.maps names n) 0 (λ z. (let w = mapped in omega arith)))
      where
        mapped : 0 < map_at ent.out.maps names n
        mapped = head_brings (λ r. 0 < map_at r.maps names n) o m (follow o m) (entry_head_lem p.laid) (final o m (follow o m) F s) (λ z. absurd (omega arith)) (λ j r. (let i : n ≡ j = omega arith in rw i (import_kept m well ok.numbers ok.lowers o names j e (head_low j r) body.typed.kept).1))

    -- THE ENTRY POINT that is made
    pub entry-piece : EntryPiece ent.out (entry_made o m E s)
    unfolding entry_made flat_entry
    entry-piece = record {
      laid = record { head_ok = lays_carried o m ent p.laid.head_ok; function-ok = (function-again ent.out).well };
      passes = λ D t l. (sound-at D t l, passes_at D t l);
      called = name_at_lem;
      names = names_again m well ok o (follow o m) (λ j. Low (unknowns m a) m s j) s fol_follows F p.pass calls_low (from_refl f) p.names;
      origin = origin_grown on.grown (origin m well ok o (follow o m) (λ j. Low (unknowns m a) m s j) s fol_follows F p.pass calls_low (from_refl f) p.is);
    }
      where
        F' : Function
        F' = localized o m (follow o m) F s

        c : Carried o m ent E.head
        c = head_carried o m ent (entry_head_lem p.laid)

        passes_at : (D : Module) → ((t : Tab) → count ent.out.recs t ≤ count (tables D) t) → length ent.out.functions ≤ length D.functions → Bodies.Passes D F'
        passes_at D t l = again m well ok o (follow o m) (λ j. Low (unknowns m a) m s j) s fol_follows F p.pass calls_low (from_refl f) D (λ u. le_trans (on.grown.tables.longer u) (t u)) (le_trans on.grown.functions l)

        function-again : (r : Derived) → Bodies.Passes (gathered ent.out []) F'
        function-again r = passes_at (gathered ent.out []) (λ t. rw (gathered-tables ent.out []) (le_refl _)) (unfold gathered in le_refl _)

        sound-at : (D : Module) → ((t : Tab) → count ent.out.recs t ≤ count (tables D) t) → length ent.out.functions ≤ length D.functions → sound (outside D) F' (carried o m ent E.head ++ flat F') ≡ true
        sound-at D t l =
            let q = sound-parts (outside D) F' (passes_at D t l).three in
            let n : count ent.out.recs names ≤ (outside D).names = (unfold count tables at outside in t names) in
            rw c.goes (sound_of (outside D) F' (name_to ent c.name) c.rest (le_trans (name_in_lem c.name) n) (c.within-rest (inside (outside D) F') (flat F') q.0) (c.rises_rest (name_to ent c.name) (flat F') q.1) q.2)

        name_at_lem : not (eqb (field NAME (carried o m ent E.head)) 0) ≡ true
        name_at_lem = rw c.goes (unfold field in name_mapped c.name c.is (rw c.is at p.called))

  -- ---- all of them
  pub record Entered (es : List Entry) (s : Derived) : Type 0 where
    pub from : From m a (enter_all es o m s)
    pub grown : Grown s (enter_all es o m s)
    pub pieces : Each (EntryPiece (enter_all es o m s)) (entries_made es o m s)

  pub all-entered : {es : List Entry} → Each Sound es → (s : Derived) → From m a s → Entered es s
  unfolding enter_all entries_made
  all-entered each_none s f = record { from = f; grown = grown_refl s; pieces = each_none }
  all-entered (each_next {a = E} {l = es} p ps) s f =
      let i = all-entered ps (entered o m E s).out (entry_from E p s f) in
      record {
        from = i.from;
        grown = grown_trans (grown_trans (body E p s f).grown (on E p s f).grown) i.grown;
        pieces = each_next (entry_grown i.grown (entry-piece E p s f)) i.pieces;
      }

  -- ---- those of the source, where 22 is not met
  record Five : Type 0 where
    called : present (entry_names m.entries) ≡ true
    names : entries_named m.entries ≡ true

  five : Five
  unfolding named
  five =
      let h₁ = and_split (present (function_names m.functions)) _ ok.names in
      let h₂ = and_split (present (entry_names m.entries)) _ h₁.1 in
      let h₃ = and_split (functions_named m.functions) _ h₂.1 in
      let h₄ = and_split (entries_named m.entries) _ h₃.1 in
      record { called = h₂.0; names = h₄.0 }

  low_callees : (f : Function) → Bodies.Passes m f → Each (λ j. j < length m.functions) (callees f)
  unfolding outside
  low_callees f p = sound-below (outside m) f p.well p.three

  each_sound : (is : List ℕ) → meets_ring is m a ≡ false → (es : List Entry) → ((k : ℕ) (E : Entry) → get_elem? es k ≡ some E → Bodies.Passes m E.function × Of m E.function) → Each WellEntry es → every (sound_entry (outside m)) es ≡ true
      → present (entry_names es) ≡ true → entries_named es ≡ true → ((j : ℕ) → In j (callees_of es) → In j is) → Each Sound es
  unfolding every present entry_names entries_named callees_of
  each_sound is e [] ps ws t c n h = each_none
  each_sound is e (E ∷ es) ps (each_next w ws) t c n h =
      let t₁ = and_split (sound_entry (outside m) E) (every (sound_entry (outside m)) es) t in
      let c₁ = and_split (not (eqb (field NAME E.head) 0)) (present (entry_names es)) c in
      let n₁ = and_split (expressions_named E.function) (entries_named es) n in
      let p = ps 0 E refl in
      each_next (record { laid = w; three = t₁.0; pass = p.0; is = p.1; called = c₁.0; names = n₁.0; calls = heights m well ok o a is e (λ j k. h j (in_left (callees_of es) k)) (low_callees E.function p.0) }) (each_sound is e es (λ k D q. ps (suc k) D q) ws t₁.1 c₁.1 n₁.1 (λ j k. h j (in_right (callees E.function) k)))

  pub entries_sound : meets_ring (callees_of m.entries) m a ≡ false → Each Sound m.entries
  entries_sound e = each_sound (callees_of m.entries) e m.entries (λ k E q. (entry-passes m well ok.numbers ok.lowers ok.scope k E q, of_entry k q)) well.entries_ok.each (specials_in m ok.numbers).2 five.called five.names (λ j k. k)
