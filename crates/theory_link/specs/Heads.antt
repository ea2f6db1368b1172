-- THE HEADS OF ENTRY POINTS: the name, which is imported after the function, and copied words. So the head of a linked entry point agrees with its source's.
use Rattle.std.specs.Prelude.{◌≡◌, true, false, List, []}
use Rattle.std.proofs.Math.Path.{refl}
use Rattle.std.proofs.Math.Option.{some}
use Prim.Native.Nat.{ℕ, zero, suc, ◌<◌}
use Rattle.std.proofs.Math.ListN.{get_elem?}
use Rattle.model.specs.Outcome.{Cells}
use Rattle.model.specs.Table.{NAME}
use Rattle.model.specs.Tree.{Entry, flat_entry}
use Rattle.model.specs.Module.{Module}
use Rattle.model.specs.Carry.{carry_cells, carry_entry, Each, WellFormed}
use Rattle.model.specs.Intake.{Passes}
use Rattle.model.specs.Calls.{ordered}
use Rattle.model.specs.Callees.{order_of}
use Rattle.model.specs.Names.{field}
use Rattle.model.specs.Tables.{names, tables, map_at}
use Rattle.model.specs.References.{table, opt, target, targets, ref_of, refs, fold_refs, through}
use Rattle.model.specs.Imports.{import_t}
use Rattle.model.specs.Bodies.{Builder, bring, mapped_to, carried, step, final, follow, entered, entry_made}
use Rattle.model.specs.Finish.{renumber, gathered}
use Rattle.model.specs.Link.{link_by}
use Rattle.model.specs.LinkMaps.{link_maps}
use Rattle.model.specs.Agreement.{agrees_r}
use Rattle.theory_bodies.specs.EntryHeads.{Head, headed, entry_head_lem}
use Rattle.theory_image.specs.Members.{looked_each}
use Rattle.theory_records.specs.RecordLaws.{All, bare-shift}
use Rattle.theory_records.specs.Trace.{Keeps}
use Rattle.theory_records.specs.Imported.{import_kept}
use Rattle.theory_finish.specs.Cellwise.{each_both}
use Rattle.theory_finish.specs.Finished.{Seen}
use Rattle.theory_link.specs.Order.{last}
use Rattle.theory_link.specs.Walking.{end, body_good, Turn, the_turn, linked-entry}
use Rattle.theory_link.specs.Tested.{head_low}
use Rattle.theory_link.specs.NameTexts.{ns, whole-seen, went_to, Leads, carried_agrees}

module _ (m : Module) (well : WellFormed m) (ok : Passes m) (os : List ℕ) (e : order_of m ≡ ordered os) where
  abbrev global : List ℕ
  global = (link_maps os m).in_tables.of_exprs

  -- a head refers to its name, which leads where link's maps say once it is imported
  led : (y : Builder) {r : Cells} → Head r → ((n : ℕ) → field NAME r ≡ suc n → 0 < map_at (import_t 0 (tables m) names n y.out).maps names n)
      → Keeps (fold_refs (refs r) (step 0 m (follow 0 m) (λ x n. n)) y).out (end m well ok os e)
      → All (Leads m well ok os e global (mapped_to m (fold_refs (refs r) (step 0 m (follow 0 m) (λ x n. n)) y))) (refs r)
  unfolding field refs ref_of target targets
  led y (headed {v}) h k = go v h k
    where
      go : (v : ℕ) → ((n : ℕ) → v ≡ suc n → 0 < map_at (import_t 0 (tables m) names n y.out).maps names n)
          → Keeps (fold_refs (ref_of (opt (table names)) v []) (step 0 m (follow 0 m) (λ x n. n)) y).out (end m well ok os e)
          → All (Leads m well ok os e global (mapped_to m (fold_refs (ref_of (opt (table names)) v []) (step 0 m (follow 0 m) (λ x n. n)) y))) (ref_of (opt (table names)) v [])
      go zero h k = unfold ref_of in tt
      go (suc n) h k = unfold ref_of fold_refs step bring mapped_to went_to Keeps in ((h n refl, k names n (h n refl)), tt)

  module _ (p : ℕ) (E : Entry) (q : get_elem? m.entries p ≡ some E) where
    abbrev turn : Turn m well ok os e m.entries (last m well ok os e) p E
    turn = the_turn m well ok os e p E q

    abbrev ent : Builder
    ent = entered 0 m E turn.state

    head_led : All (Leads m well ok os e global (mapped_to m ent)) (refs E.head)
    unfolding entered
    head_led = led (final 0 m (follow 0 m) E.function turn.state) (entry_head_lem turn.sound.laid) (λ n g. (import_kept m well ok.numbers ok.lowers 0 names n (final 0 m (follow 0 m) E.function turn.state).out (head_low m well ok os e E turn.sound n g) (body_good m well ok os e E turn.sound turn.state turn.going)).1) turn.head_keeps

    head_seen : Each (Seen (ns m well ok os e)) (carried 0 m ent E.head)
    unfolding entry_made flat_entry gathered
    head_seen = (each_both (carried 0 m ent E.head) (looked_each (whole-seen m well ok os e).in_entries_lem p turn.is)).0

    made_agrees : agrees_r m (link_by os m) (link_maps os m) global E.head (carry_cells (renumber (ns m well ok os e)) (carried 0 m ent E.head)) ≡ true
    made_agrees = carried_agrees m well ok os e global (mapped_to m ent) E.head (carried 0 m ent E.head) head_led (unfold carried in bare-shift (carry_cells (through (mapped_to m ent)) E.head) 0 false) head_seen

    pub heads-agree : (E' : Entry) → get_elem? (link_by os m).entries p ≡ some E' → agrees_r m (link_by os m) (link_maps os m) global E.head E'.head ≡ true
    heads-agree E' r =
        let i : carry_entry (renumber (ns m well ok os e)) (entry_made 0 m E turn.state) ≡ E' = (let l = linked-entry m well ok os e p (entry_made 0 m E turn.state) turn.is in cc) in
        rw (← i) (unfold carry_entry entry_made in made_agrees)
