-- LINK AS A FRESH SESSION, from what holds of each function and each entry point when it is imported (`Made`, `EntryMade`): nothing is refused, the words are those of `link`, they are no longer than the source and pass intake.
use Rattle.std.specs.Prelude.{◌≡◌, List, [], ◌∷◌, ◌++◌, ℕ, ◌*◌, ◌≤◌, length}
use Rattle.std.proofs.Common.{append-nil}
use Rattle.model.specs.Outcome.{laid}
use Rattle.model.specs.Module.{Module, read, write}
use Rattle.model.specs.Carry.{WellFormed}
use Rattle.model.specs.Intake.{Passes, intake_of}
use Rattle.model.specs.Calls.{ordered}
use Rattle.model.specs.Callees.{order_of}
use Rattle.model.specs.Bodies.{enter_all, entries_made}
use Rattle.model.specs.Link.{link_by}
use Rattle.theory_image.specs.Modules.{read_well}
use Rattle.theory_finish.specs.Fresh.{state_at, FreshLink}
use Rattle.theory_finish.specs.Linking.{Functions, Tests, intake_passes, link-fresh, link_intake, link-read, link-length}
use Rattle.theory_finish.specs.Counting.{Made, EntriesMade, functions_facts, entries_facts}

module _ (bytes : ℕ) (ws : List ℕ) (room : ℕ) (m : Module) (os : List ℕ)
    (passes : intake_of bytes ws ≡ 0) (reads : read ws ≡ laid m) (whole : bytes ≡ 4 * length ws) (roomy : bytes ≤ room) (order : order_of m ≡ ordered os)
    (made : (xs ys : List ℕ) (i : ℕ) → os ≡ xs ++ (i ∷ ys) → Made m (state_at m xs) i)
    (entered : EntriesMade m m.entries (state_at m os)) where
  well : WellFormed m
  well = read_well ws m reads

  ok : Passes m
  ok = intake_passes bytes ws m passes reads

  functions : (xs ys : List ℕ) → os ≡ xs ++ ys → Functions m (state_at m xs) []
  functions = functions_facts m well ok.numbers ok.lowers os order made

  entries : Functions m (enter_all m.entries 0 m (state_at m os)) (entries_made m.entries 0 m (state_at m os))
  entries = entries_facts m well ok.numbers ok.lowers os (functions os [] (rw (append-nil os))) entered

  -- ACCEPTED, with the words of link
  pub session_links : FreshLink bytes ws room m os
  session_links = link-fresh bytes ws room m os passes reads whole roomy order functions entries

  -- NO LONGER than the source
  pub linked-length : 4 * length (write (link_by os m)) ≤ bytes
  linked-length = link-length bytes ws room m os passes reads whole roomy order functions entries

  -- READ back
  pub linked-read : read (write (link_by os m)) ≡ laid (link_by os m)
  linked-read = link-read bytes ws room m os passes reads whole roomy order functions entries

  -- INTAKE passes what is linked, given tests 4, 5 and 6 of the functions
  pub linked_intake : Tests (enter_all m.entries 0 m (state_at m os)) (entries_made m.entries 0 m (state_at m os)) → intake_of (4 * length (write (link_by os m))) (write (link_by os m)) ≡ 0
  linked_intake = link_intake bytes ws room m os passes reads whole roomy order functions entries
