-- DEMAND 3 ON WORDS, proved: the theorem `demand3` has no premise but that of `Linking`.
use Rattle.std.specs.Prelude.{◌≡◌, refl, List, [], ℕ, suc, ◌*◌, ◌<◌, length, get_or}
use Rattle.std.proofs.Common.{ap, ◌∙◌, arith}
use Rattle.std.proofs.Math.Bool.{true}
use Rattle.std.proofs.Math.Option.{some}
use Rattle.std.proofs.Math.ListN.{get_elem?, length-map}
use Rattle.theory_lists.specs.Lists.{looked_length}
use Rattle.theory_lists.specs.Booleans.{and_first, and_second}
use Rattle.model.specs.Tree.{Function, Entry, flat_all}
use Rattle.model.specs.Outcome.{laid}
use Rattle.model.specs.Module.{Module, read, write, flat_special}
use Rattle.theory_walks.specs.WholeLaws.{closed_records, agrees_append, agrees_flat}
use Rattle.model.specs.Carry.{carry, carry_function, Each, each_none, each_next, WellFormed}
use Rattle.model.specs.Initial.{Mem, here, there}
use Rattle.model.specs.Intake.{Passes}
use Rattle.model.specs.Scope.{scoped, all_scoped, in_scope}
use Rattle.model.specs.Calls.{ordered}
use Rattle.model.specs.Callees.{callees, calls, order_of}
use Rattle.model.specs.Bodies.{enter_all, entries_made}
use Rattle.model.specs.Finish.{renumber, appearing, with_names, named_by, gathered, finished}
use Rattle.model.specs.Session.{with_entries}
use Rattle.model.specs.Link.{link_by}
use Rattle.model.specs.LinkMaps.{link_maps}
use Rattle.model.specs.Agreement.{Mapping, agrees_r, Holds, as_function, as_entry, Agreement}
use Rattle.model.specs.Agreement as Whole
use Rattle.theory_order.specs.Theorems.{each_once, callees-first}
use Rattle.theory_image.specs.Modules.{read_well}
use Rattle.theory_image.specs.Members.{looked_each}
use Rattle.theory_walks.specs.WholeWords.{made}
use Rattle.theory_walks.specs.Members as Members
use Rattle.theory_walks.specs.Events.{MappedIn}
use Rattle.theory_walks.proofs.Theorems.{carries, carries_sound, whole-carried, all_placed, whole-sound}
use Rattle.theory_walks.proofs.FunctionProof.{scoped_at, entry_at}
use Rattle.theory_finish.specs.Fresh.{state_at}
use Rattle.theory_finish.specs.Linking.{intake_passes}
use Rattle.theory_finish.specs.Whole.{session_links, linked-length, linked-read, linked_intake}
use Rattle.theory_link.specs.Demand.{Linking, Walks, WalksMapped, Output, OutputMapped, Demand3}
use Rattle.theory_link.specs.Exactly.{linked_as, link_exactly, placed, order-length}
use Rattle.theory_link.specs.Order.{functions_made, all_entries}
use Rattle.theory_link.specs.Places.{both-length}
use Rattle.theory_link.specs.Tested.{tests}
use Rattle.theory_order.specs.Numbered.{numbered-known, entries_known}
use Rattle.theory_link.specs.LinkedCalls.{callees-before}
use Rattle.theory_link.specs.Records.{records-agree, rays-agree, pairs-agree}
use Rattle.theory_link.specs.Heads.{heads-agree}
use Rattle.theory_link.specs.SameCells.{SameCells}
use Rattle.theory_link.specs.Functions.{functions_same, entries_same}
use Rattle.theory_link.specs.Walking.{Apart, end_going, all-agree, function_agrees, function-apart, place_is, places-once, places_onto, the_turn, entry-apart, entries_count, entry_agrees}

mem_each : {P : ℕ → Type 0} {ks : List ℕ} {h : ℕ} → Each P ks → Mem h ks → P h
mem_each each_none i = elim i [ ]
mem_each (each_next p b) here = p
mem_each (each_next p b) (there i) = mem_each b i

-- cells and what may share a record make agreement in full
same_agrees : (M M' : Module) (μ : Mapping) (o : List ℕ) (F F' : Function) → SameCells M M' μ o F F' → Apart o F → Whole.Agrees M M' μ o F F'
same_agrees M M' μ o F F' c a = record { head = c.head; arguments = c.arguments; result = c.result; locals = c.locals; body = c.body; kept = c.kept; named = c.named; apart = a }

module _ (ws : List ℕ) (room : ℕ) (m : Module) (l : Linking ws room m) where
  well : WellFormed m
  well = read_well ws m l.reads

  ok : Passes m
  ok = intake_passes (4 * length ws) ws m l.passes l.reads

  module _ (os : List ℕ) (e : order_of m ≡ ordered os) where
    walks_functions : (i : ℕ) (F : Function) → get_elem? m.functions i ≡ some F
        → (F' : Function) × (get_elem? (link_by os m).functions ((made (link_maps os m)).function i) ≡ some F') × ((cs : List ℕ) → Walks (made (link_maps os m)) F F' ((made (link_maps os m)).in_function i) cs)
    unfolding in_scope
    walks_functions i F q =
        let a = function_agrees m well ok os e i F q in
        let s : scoped F ≡ true = scoped_at m.functions (and_first (all_scoped m.functions) _ (unfold in_scope in ok.scope)) i F q in
        (a.0, a.1, λ cs. record { carries = carries m (link_by os m) (made (link_maps os m)) F a.0 ((made (link_maps os m)).in_function i) a.2 cs; sound = carries_sound m (link_by os m) (made (link_maps os m)) F a.0 ((made (link_maps os m)).in_function i) a.2 s cs })

    walks_entries : (i : ℕ) (E : Entry) → get_elem? m.entries i ≡ some E
        → (E' : Entry) × (get_elem? (link_by os m).entries i ≡ some E') × ((cs : List ℕ) → Walks (made (link_maps os m)) E.function E'.function ((made (link_maps os m)).in_entry i) cs)
    unfolding in_scope
    walks_entries i E q =
        let a = entry_agrees m well ok os e i E q in
        let s : scoped E.function ≡ true = entry_at m.entries (and_second (all_scoped m.functions) _ (unfold in_scope in ok.scope)) i E q in
        (a.0, a.1, λ cs. record { carries = carries m (link_by os m) (made (link_maps os m)) E.function a.0.function ((made (link_maps os m)).in_entry i) a.2 cs; sound = carries_sound m (link_by os m) (made (link_maps os m)) E.function a.0.function ((made (link_maps os m)).in_entry i) a.2 s cs })

    count : length (link_by os m).functions ≡ length m.functions
    count = linked-count ∙ (ap length (end_going m well ok os e).same ∙ (both-length (all-agree m well ok os e) ∙ order-length m os e))
      where
        linked-count : length (link_by os m).functions ≡ length (enter_all m.entries 0 m (state_at m os)).functions
        linked-count = unfold link_by with_entries finished named_by with_names carry gathered in length-map (enter_all m.entries 0 m (state_at m os)).functions (carry_function (renumber (appearing (gathered (enter_all m.entries 0 m (state_at m os)) (entries_made m.entries 0 m (state_at m os))))))

    agrees_function : (i : ℕ) (F : Function) → get_elem? m.functions i ≡ some F → (F' : Function) × (get_elem? (link_by os m).functions ((made (link_maps os m)).function i) ≡ some F') × Whole.Agrees m (link_by os m) (link_maps os m) (get_or (link_maps os m).in_functions i []) F F'
    agrees_function i F q = let a = function_agrees m well ok os e i F q in (a.0, a.1, same_agrees m (link_by os m) (link_maps os m) (get_or (link_maps os m).in_functions i []) F a.0 (functions_same m well ok os e i F a.0 q a.1) (function-apart m well ok os e i F q))

    agrees_entry : (i : ℕ) (E : Entry) → get_elem? m.entries i ≡ some E → (E' : Entry) × (get_elem? (link_by os m).entries i ≡ some E') × Whole.Agrees m (link_by os m) (link_maps os m) (get_or (link_maps os m).in_entries i []) E.function E'.function
    agrees_entry i E q = let a = entry_agrees m well ok os e i E q in (a.0, a.1, same_agrees m (link_by os m) (link_maps os m) (get_or (link_maps os m).in_entries i []) E.function a.0.function (entries_same m well ok os e i E a.0 q a.1) (entry-apart m well ok os e i E (the_turn m well ok os e i E q)))

    held : (o : List ℕ) (F : Function) → Holds m (link_by os m) (link_maps os m) o F → (F' : Function) × Whole.Agrees m (link_by os m) (link_maps os m) o F F'
    held o F (as_function i G q) = let a = agrees_function i G q in (a.0, a.2)
    held o F (as_entry i E q) = let a = agrees_entry i E q in (a.0.function, a.2)

    special : agrees_r m (link_by os m) (link_maps os m) (link_maps os m).in_tables.of_exprs (flat_special m.special) (flat_special (link_by os m).special) ≡ true
    unfolding flat_special
    special = agrees_append m (link_by os m) (link_maps os m) (link_maps os m).in_tables.of_exprs m.special.rays (link_by os m).special.rays (flat_all m.special.pairs) (flat_all (link_by os m).special.pairs) (rays-agree m well ok os e) (agrees_flat m (link_by os m) (link_maps os m) (link_maps os m).in_tables.of_exprs m.special.pairs (link_by os m).special.pairs (pairs-agree m well ok os e))

    agreement : Agreement m (link_by os m) (link_maps os m)
    agreement = record {
      records = closed_records m (link_by os m) (link_maps os m) (record { in_tables_lem = records-agree m well ok os e; held = held; special = special });
      functions = λ i F q. let a = agrees_function i F q in ((made (link_maps os m)).function i, a.0, place_is m well ok os e i (looked_length m.functions i q), a.1, a.2);
      once = places-once m well ok os e;
      onto = λ j h. places_onto m well ok os e j (rw (order-length m os e, ← count) h);
      entries = λ i E q. let a = agrees_entry i E q in (a.0, a.1, heads-agree m well ok os e i E q a.0 a.1, a.2);
      no_entry_added = entries_count m well ok os e;
      rays = rays-agree m well ok os e;
      pairs = pairs-agree m well ok os e;
    }

    -- what is written is read back, so the linked module is well formed
    reads_back : read (write (link_by os m)) ≡ laid (link_by os m)
    reads_back = linked-read (4 * length ws) ws room m os l.passes l.reads refl l.roomy e (functions_made m well ok os e) (all_entries m well ok os e)

    well' : WellFormed (link_by os m)
    well' = read_well (write (link_by os m)) (link_by os m) reads_back

    -- every callee is mapped
    called : (ks : List ℕ) → Each (λ h. h < length m.functions) ks → Members.Each (MappedIn (link_maps os m).functions) ks
    called ks b = all_placed m (link_by os m) (link_maps os m) agreement ks (λ h i. mem_each b i)

    mapped_functions : (i : ℕ) (F : Function) → get_elem? m.functions i ≡ some F
        → (j : ℕ) × (F' : Function) × (get_or (link_maps os m).functions i 0 ≡ suc j) × (get_elem? (link_by os m).functions j ≡ some F') × ((cs : List ℕ) → WalksMapped (link_maps os m) (get_or (link_maps os m).in_functions i []) F F' cs)
    unfolding in_scope
    mapped_functions i F q =
        let a = agreement.functions i F q in
        let s : scoped F ≡ true = scoped_at m.functions (and_first (all_scoped m.functions) _ (unfold in_scope in ok.scope)) i F q in
        let p = looked_each well.functions_ok.each i q in
        let p' = looked_each well'.functions_ok.each a.0 a.3 in (
          a.0,
          a.1,
          a.2,
          a.3,
          λ cs. record {
            carries = whole-carried m (link_by os m) (link_maps os m) (get_or (link_maps os m).in_functions i []) F a.1 p.body_ok p'.body_ok a.4 (called (callees F) (looked_each (numbered-known m well ok.numbers) i q)) cs;
            sound = whole-sound m (link_by os m) (link_maps os m) (get_or (link_maps os m).in_functions i []) F a.1 p.body_ok p'.body_ok a.4 s cs;
          },
        )

    mapped_entries : (i : ℕ) (E : Entry) → get_elem? m.entries i ≡ some E
        → (E' : Entry) × (get_elem? (link_by os m).entries i ≡ some E') × ((cs : List ℕ) → WalksMapped (link_maps os m) (get_or (link_maps os m).in_entries i []) E.function E'.function cs)
    unfolding in_scope
    mapped_entries i E q =
        let a = agreement.entries i E q in
        let s : scoped E.function ≡ true = entry_at m.entries (and_second (all_scoped m.functions) _ (unfold in_scope in ok.scope)) i E q in
        let p = looked_each well.entries_ok.each i q in
        let p' = looked_each well'.entries_ok.each i a.1 in (
          a.0,
          a.1,
          λ cs. record {
            carries = whole-carried m (link_by os m) (link_maps os m) (get_or (link_maps os m).in_entries i []) E.function a.0.function p.function-ok.body_ok p'.function-ok.body_ok a.3 (called (callees E.function) (looked_each (entries_known m well ok.numbers) i q)) cs;
            sound = whole-sound m (link_by os m) (link_maps os m) (get_or (link_maps os m).in_entries i []) E.function a.0.function p.function-ok.body_ok p'.function-ok.body_ok a.3 s cs;
          },
        )

    output : Output ws room m os
    output = record {
      session = session_links (4 * length ws) ws room m os l.passes l.reads refl l.roomy e (functions_made m well ok os e) (all_entries m well ok os e);
      intake = linked_intake (4 * length ws) ws room m os l.passes l.reads refl l.roomy e (functions_made m well ok os e) (all_entries m well ok os e) (tests m well ok os e);
      shorter = omega (arith, linked-length (4 * length ws) ws room m os l.passes l.reads refl l.roomy e (functions_made m well ok os e) (all_entries m well ok os e));
      reads = reads_back;
      count = count;
      once = each_once (length m.functions) (calls m) os (unfold order_of in e);
      places = placed m os e;
      callees-first = callees-first (length m.functions) (calls m) os (unfold order_of in e);
      agree = agreement;
      functions = walks_functions;
      entries = walks_entries;
    }

    -- and more of it
    pub output_mapped : OutputMapped m os
    output_mapped = record {
      callees-before = callees-before m well ok os e count;
      records-agree = records-agree m well ok os e;
      functions_mapped = mapped_functions;
      entries_mapped = mapped_entries;
    }

  -- THE THEOREM
  pub demand3 : Demand3 ws room m
  demand3 = record { exactly = link_exactly ws room m l; output = λ vs q. let a = linked_as ws room m l vs q in (a.0, a.1, a.2, output a.0 a.1) }
