-- RECORDS OF TABLES AND SPECIAL TYPES of the linked module agree with the source's. Functions and entry points import records of tables and add functions, nothing else; so in the end every record that is mapped is its source's carried, ignoring spans, and the special types are those that were put when the source was set.
use Rattle.std.specs.Prelude.{◌≡◌, true, false, length, get_or}
use Rattle.std.proofs.Math.Path.{refl}
use Rattle.std.proofs.Common.{sym, ap, ◌∙◌, arith, lt-ltb}
use Rattle.std.proofs.lemmas.Bool.{false≢true}
use mathlib.Core.List.{List, [], map}
use Prim.Native.Nat.{ℕ, suc, ◌<◌}
use Rattle.std.proofs.lemmas.List.{length-map}
use Rattle.std.proofs.Math.ListN.{get_or-map}
use Rattle.theory_lists.specs.Booleans.{and-true}
use Rattle.model.specs.Outcome.{Cells}
use Rattle.model.specs.Module.{Special, Module}
use Rattle.model.specs.Carry.{carry_cells, carry_special, carry, Each, each_next, WellFormed}
use Rattle.model.specs.Intake.{Passes}
use Rattle.model.specs.Calls.{ordered}
use Rattle.model.specs.Callees.{order_of}
use Rattle.model.specs.Tables.{Tab, names, types, constants, overrides, globals, exprs, code_t, is_t, at, tables, rec_at, count, map_at}
use Rattle.model.specs.References.{Place, table, own, function, Node, refs, through}
use Rattle.model.specs.Imports.{Derived, mapped_to_t, fresh}
use Rattle.model.specs.Special.{sourced}
use Rattle.model.specs.Bodies.{appended}
use Rattle.model.specs.Finish.{renumber, with_names, named_by, gathered, finished}
use Rattle.model.specs.Session.{with_entries}
use Rattle.model.specs.Link.{link_by}
use Rattle.model.specs.LinkMaps.{link_maps}
use Rattle.model.specs.Agreement.{agrees_r, agrees_l, stands}
use Rattle.theory_image.specs.Members.{each_at}
use Rattle.theory_records.specs.RecordLaws.{All, all_map, Has, bare}
use Rattle.theory_records.specs.Theorems.{Inside, Entry, Sound, Inv}
use Rattle.theory_finish.specs.Sessions.{Keeping, functions_kept, entries_kept}
use Rattle.theory_finish.specs.Finished.{Seen}
use Rattle.theory_link.specs.Walking.{end}
use Rattle.theory_link.specs.NameTexts.{ns, whole-seen, went_to, Leads, carried_agrees}
use Rattle.theory_link.specs.Setting.{Carried, Rows, rows_none, rows_next, carried_as, rows_as, carried-stays, rows_stay, Goes, goes_trans, still_goes, import_goes, sets}

module _ (m : Module) (well : WellFormed m) (ok : Passes m) where
  -- ---- along the session
  -- from a on: what holds of imports, what was mapped is mapped as it was, and the special types are the same
  pub record Since (a s : Derived) : Type 0 where
    pub goes : Goes (tables m) a s
    pub special : s.special ≡ a.special

  since_keeping : (a : Derived) → Keeping m 0 (Since a)
  since_keeping a = record {
    imports = λ t n s l k. let w = import_goes m well ok t n s l k.goes.inv in record { goes = goes_trans k.goes w.0; special = w.1 ∙ k.special };
    appends = λ f s k. unfold appended in record { goes = goes_trans k.goes (still_goes (tables m) s _ refl refl k.goes.inv); special = k.special };
  }

  module _ (os : List ℕ) (e : order_of m ≡ ordered os) where
    abbrev z : Derived
    z = end m well ok os e

    -- the maps of global expressions are those of their own ones
    abbrev global : List ℕ
    global = (link_maps os m).in_tables.of_exprs

    pub end_since : Since (sourced 0 m fresh) z
    end_since = entries_kept m ok.numbers (since_keeping (sourced 0 m fresh)) _ (functions_kept m ok.numbers (since_keeping (sourced 0 m fresh)) os _ (record { goes = still_goes (tables m) _ _ refl refl (sets m well ok).inv; special = refl }))

    pub end-inv : Inv (tables m) z
    end-inv = end_since.goes.inv

    -- what a record of a table refers to leads where link's maps say
    led : (j : Node) → Has (mapped_to_t z) j → Leads m well ok os e global (mapped_to_t z) j
    unfolding went_to mapped_to_t link_maps map_at at
    led j h = (h, to j.place j.num h)
      where
        to : (p : Place) (n : ℕ) → 0 < mapped_to_t z p n → went_to m well ok os e global p n ≡ mapped_to_t z p n
        to (table t) n h = refl
        to own n h = refl
        to function n h = absurd (omega arith)

    all_led : (r : Cells) → All (Has (mapped_to_t z)) (refs r) → All (Leads m well ok os e global (mapped_to_t z)) (refs r)
    all_led r a = all_map (refs r) led a

    -- ---- THE RECORDS
    linked-table : (t : Tab) → is_t t names ≡ false → at t (tables (link_by os m)) ≡ map (carry_cells (renumber (ns m well ok os e))) (at t z.recs)
    unfolding is_t code_t at tables link_by with_entries finished named_by with_names carry gathered
    linked-table names h = absurd (false≢true (sym h))
    linked-table types h = refl
    linked-table constants h = refl
    linked-table overrides h = refl
    linked-table globals h = refl
    linked-table exprs h = refl

    record_seen : (t : Tab) (k : ℕ) → is_t t names ≡ false → k < count z.recs t → Each (Seen (ns m well ok os e)) (rec_at z.recs t k)
    unfolding is_t code_t at count rec_at gathered
    record_seen names k h l = absurd (false≢true (sym h))
    record_seen types k h l = each_at (whole-seen m well ok os e).in_types k [] l
    record_seen constants k h l = each_at (whole-seen m well ok os e).in_constants k [] l
    record_seen overrides k h l = each_at (whole-seen m well ok os e).in_overrides k [] l
    record_seen globals k h l = each_at (whole-seen m well ok os e).in_globals k [] l
    record_seen exprs k h l = each_at (whole-seen m well ok os e).in_exprs k [] l

    pub records-agree : (t : Tab) (n k : ℕ) → is_t t names ≡ false → map_at (link_maps os m).in_tables t n ≡ suc k → stands m (link_by os m) (link_maps os m) global (at t (tables (link_by os m))) (suc k) (rec_at (tables m) t n) ≡ true
    unfolding stands rec_at count Inside
    records-agree t n k h q = rw (linked-table t h) (and-true (lt-ltb k _ (rw (length-map (at t z.recs) (carry_cells (renumber (ns m well ok os e)))) l)) (rw (get_or-map (carry_cells (renumber (ns m well ok os e))) (at t z.recs) k []) agrees))
      where
        q' : map_at z.maps t n ≡ suc k
        q' = unfold link_maps in q

        l : k < length (at t z.recs)
        l = omega (arith, end-inv.base.inside t n, q')

        agrees : agrees_r m (link_by os m) (link_maps os m) global (rec_at (tables m) t n) (carry_cells (renumber (ns m well ok os e)) (get_or (at t z.recs) k [])) ≡ true
        agrees =
            let sound : (t : Tab) (n : ℕ) → 0 < map_at z.maps t n → Entry (tables m) z t n = (unfold Sound in end-inv.sound) in
            let s = sound t n (omega (arith, q')) in
            let b : bare (rec_at z.recs t k) ≡ bare (carry_cells (through (mapped_to_t z)) (rec_at (tables m) t n)) = rw q' at s.alike in
            carried_agrees m well ok os e global (mapped_to_t z) (rec_at (tables m) t n) (get_or (at t z.recs) k []) (all_led (rec_at (tables m) t n) s.closed) b (record_seen t k h l)

    -- ---- THE SPECIAL TYPES
    pub rays-carried : Carried z m.special.rays z.special.rays
    rays-carried = carried_as (ap (λ (p : Special). p.rays) end_since.special) (carried-stays end_since.goes.keeps (sets m well ok).rays)

    pub pairs-carried : Rows z m.special.pairs z.special.pairs
    pairs-carried = rows_as (ap (λ (p : Special). p.pairs) end_since.special) (rows_stay end_since.goes.keeps (sets m well ok).pairs)

    one_agrees : {r r' : Cells} → Carried z r r' → Each (Seen (ns m well ok os e)) r' → agrees_r m (link_by os m) (link_maps os m) global r (carry_cells (renumber (ns m well ok os e)) r') ≡ true
    one_agrees {r} {r'} c s = carried_agrees m well ok os e global (mapped_to_t z) r r' (all_led r c.has) (ap bare c.is) s

    rows_agree : {rs rs' : List Cells} → Rows z rs rs' → Each (Each (Seen (ns m well ok os e))) rs' → agrees_l m (link_by os m) (link_maps os m) global rs (map (carry_cells (renumber (ns m well ok os e))) rs') ≡ true
    unfolding agrees_l
    rows_agree rows_none s = refl
    rows_agree (rows_next c cs) (each_next s ss) = and-true (one_agrees c s) (rows_agree cs ss)

    pub rays-agree : agrees_r m (link_by os m) (link_maps os m) global m.special.rays (link_by os m).special.rays ≡ true
    unfolding link_by with_entries finished named_by with_names carry carry_special gathered
    rays-agree = one_agrees rays-carried (whole-seen m well ok os e).in_rays

    pub pairs-agree : agrees_l m (link_by os m) (link_maps os m) global m.special.pairs (link_by os m).special.pairs ≡ true
    unfolding link_by with_entries finished named_by with_names carry carry_special gathered
    pairs-agree = rows_agree pairs-carried (whole-seen m well ok os e).in_pairs
