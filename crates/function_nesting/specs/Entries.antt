-- ENTRY POINTS by passes: one after the other, each leaves the model's state and is the model's, and its record, with those of the functions that it imports, can be read back and names what is derived.
use Rattle.std.specs.Prelude.{ℕ, zero, suc, ◌≡◌, List, [], ◌∷◌, ◌++◌, length}
use Rattle.std.proofs.Math.Nat.{le_refl}
use Rattle.std.proofs.Math.Path.{refl, ap, ap₂, sym}
use Rattle.std.proofs.Common.{◌∙◌}
use Rattle.model.specs.Outcome.{Cells}
use Rattle.model.specs.Table.{NAME, entry_head, binding}
use Rattle.model.specs.Tree.{Entry, flat_entry}
use Rattle.model.specs.Module.{Module}
use Rattle.model.specs.Carry.{Each, each_none, each_next, WellFormed}
use Rattle.model.specs.Intake.{Passes}
use Rattle.model.specs.Callees.{callees}
use Rattle.model.specs.Tables.{names, count}
use Rattle.model.specs.References.{targets, target, ref_of, refs, fold_refs}
use Rattle.model.specs.Imports.{Derived}
use Rattle.model.specs.Bodies.{Builder, bring, carried, step, final, follow_f, follow, entered, entry_made, enter_all, entries_made}
use Rattle.model.specs.Finish.{gathered}
use Rattle.theory_image.specs.Plain.{plain?}
use Rattle.theory_image.specs.Quiet.{Plainly, plain-none, plain-next, plainly}
use Rattle.theory_records.specs.Imported.{gathered-tables}
use Rattle.theory_bodies.specs.Context.{outer}
use Rattle.theory_bodies.specs.Lists.{all_map}
use Rattle.theory_sessions.specs.Height.{low_on, unknowns}
use Rattle.theory_sessions.specs.Following.{From, from_refl}
use Rattle.theory_sessions.specs.Holding.{few}
use Rattle.theory_sessions.specs.Entering.{Sound, entry_from, entry-piece}
use Rattle.theory_passes.specs.Operands.{outward1, outward, inside}
use Rattle.theory_passes.specs.Light.{still}
use Rattle.derive_state.specs.Flats.{entry_of}
use Rattle.derive_state.specs.Held.{Named}
use Rattle.function_nesting.specs.Nested.{follow_s, entered_s, entry_cells_s, entry_s, ReadyF, Ready}
use Rattle.function_nesting.specs.Single.{entry_back, low_named}
use Rattle.function_nesting.specs.Deep.{Made, made}

-- ---- all entry points, as code makes them
module _ (o : ℕ) (M : Module) (follow : ℕ → Derived → Derived) where
  unfoldable pub enter_all_s : List Entry → Derived → Derived
  enter_all_s [] s = s
  enter_all_s (e ∷ es) s = enter_all_s es (entered_s o M follow e s).out

  unfoldable pub entries_s : List Entry → Derived → List Entry
  entries_s [] s = []
  entries_s (e ∷ es) s = entry_s o M follow e s ∷ entries_s es (entered_s o M follow e s).out

-- ---- what is shown of one, and of each at its turn
pub record EntryMade (o : ℕ) (m : Module) (k : ℕ) (e : Entry) (s : Derived) : Type 0 where
  pub ends : entered_s o m (follow_s o m k) e s ≡ entered o m e s
  pub cells : entry_cells_s o m (follow_s o m k) e s ≡ flat_entry (entry_made o m e s)
  pub entry : entry_s o m (follow_s o m k) e s ≡ entry_made o m e s
  pub ready : ReadyF o m (Ready o m k) (follow_s o m k) e.function s
  pub reads : flat_entry (entry_of (entry_cells_s o m (follow_s o m k) e s)) ≡ entry_cells_s o m (follow_s o m k) e s
  pub named : Named (count (entered_s o m (follow_s o m k) e s).out.recs names) (entry_cells_s o m (follow_s o m k) e s)

unfoldable pub EntriesMade : ℕ → Module → ℕ → List Entry → Derived → Type 0
EntriesMade o m k [] s = Unit {0}
EntriesMade o m k (e ∷ es) s = EntryMade o m k e s × EntriesMade o m k es (entered_s o m (follow_s o m k) e s).out

-- ---- the head of an entry point imports its name
head_out : (o : ℕ) (M : Module) (follow : ℕ → Derived → Derived) {r : Cells} → Plainly (NAME ∷ binding []) r → (x : Builder) → inside o M still (outward o M still r x.out) x ≡ fold_refs (refs r) (step o M follow (λ e m. m)) x
unfolding outward outward1 outer refs ref_of target targets fold_refs step bring
head_out o M follow (plain-next {w = w} (plain-next (plain-next (plain-next (plain-next (plain-next (plain-next plain-none))))))) x = go w
  where
    go : (w : ℕ) → inside o M still (outward1 o M still (target NAME) w x.out) x ≡ fold_refs (ref_of (target NAME) w []) (step o M follow (λ e m. m)) x
    go zero = unfold outward1 target targets ref_of fold_refs in refl
    go (suc n) = unfold outward1 outer target targets ref_of fold_refs step bring in refl

module _ (m : Module) (well : WellFormed m) (ok : Passes m) (o : ℕ) (a : Derived) where
  -- room for as many functions in progress as there are functions
  abbrev k : ℕ
  k = length m.functions

  module _ (E : Entry) (p : Sound m well ok o a E) (s : Derived) (f : From m a s) where
    body : Made o m k E.function s
    body = made m well ok o (unknowns m a) k (few m well ok o a) s (from_refl f) E.function p.pass (all_map (callees E.function) (λ j. low_on (unknowns m a) m a s (λ x h. rw (f.knows x h) h) j) p.calls)

    shape : Plainly (NAME ∷ binding []) E.head
    unfolding entry_head
    shape = plainly p.laid.head_ok (unfold plain? in refl)

    ends : entered_s o m (follow_s o m k) E s ≡ entered o m E s
    unfolding entered_s entered follow
    ends = rw body.ends (head_out o m (follow_f k o m) shape (final o m (follow_f k o m) E.function s))

    cells : entry_cells_s o m (follow_s o m k) E s ≡ flat_entry (entry_made o m E s)
    unfolding entry_cells_s flat_entry entry_made follow
    cells = ap₂ (λ (x : Builder) (cs : Cells). carried o m x E.head ++ cs) ends body.cells

    entry : entry_s o m (follow_s o m k) E s ≡ entry_made o m E s
    unfolding entry_s
    entry = ap entry_of cells ∙ entry_back (entry_made o m E s) (entry-piece m well ok o a E p s f).laid

    named : Named (count (entered_s o m (follow_s o m k) E s).out.recs names) (entry_cells_s o m (follow_s o m k) E s)
    named = rw (ends, cells) (low_named (entered o m E s).out (entry_made o m E s).function (flat_entry (entry_made o m E s)) ((entry-piece m well ok o a E p s f).passes (gathered (entered o m E s).out []) (λ t. rw (gathered-tables (entered o m E s).out []) (le_refl _)) (unfold gathered in le_refl _)).0)

    pub entry-alike : EntryMade o m k E s
    unfolding entry_s
    entry-alike = record { ends = ends; cells = cells; entry = entry; ready = body.ready; reads = ap flat_entry entry ∙ sym cells; named = named }

  -- ---- all of them
  pub record Alike (es : List Entry) (s : Derived) : Type 0 where
    pub each : EntriesMade o m k es s
    pub out : enter_all_s o m (follow_s o m k) es s ≡ enter_all es o m s
    pub entries : entries_s o m (follow_s o m k) es s ≡ entries_made es o m s

  pub entries_alike : {es : List Entry} → Each (Sound m well ok o a) es → (s : Derived) → From m a s → Alike es s
  unfolding EntriesMade enter_all_s entries_s enter_all entries_made
  entries_alike each_none s f = record { each = tt; out = refl; entries = refl }
  entries_alike (each_next {a = E} {l = es} p ps) s f =
      let h = entry-alike E p s f in
      let e : (entered_s o m (follow_s o m k) E s).out ≡ (entered o m E s).out = ap (λ (x : Builder). x.out) h.ends in
      let i = entries_alike ps (entered o m E s).out (entry_from m well ok o a E p s f) in
      record {
        each = (h, rw e i.each);
        out = rw e i.out;
        entries = rw (e, h.entry, i.entries) refl;
      }
