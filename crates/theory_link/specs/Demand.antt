-- DEMAND 3 ON WORDS, as a statement: the lemma of the one on bytes, which is in OnBytes.antt. Document 01 and the paper of demands: "Linking succeeds exactly if no chain of calls comes back to its start. Then the output holds what a fresh session writes that sets the image as its source with span offset 0, imports its functions in output order and finishes with entry points: each function stands once, every callee before its callers. And for every function or entry point and every finite list of numbers the walk in the linked module reads, apart from standing expressions, only what it has already evaluated; and its events from first to last equal those of the source's walk by the same list, carried through the maps, and both end alike."
-- The premises, "the image passes intake, the output is at least as long as the image", are those of `Linking`.
use Rattle.std.specs.Prelude.{◌≡◌, true, false, ◌↔◌, List, [], ◌∷◌, ◌++◌, ℕ, suc, ◌*◌, ◌<◌, ◌≤◌, length, get_or}
use Rattle.std.proofs.Math.Option.{some}
use Rattle.std.proofs.Math.ListN.{get_elem?}
use Rattle.model.specs.Outcome.{laid}
use Rattle.model.specs.Tree.{Function, Entry}
use Rattle.model.specs.Module.{Module, read, write}
use Rattle.model.specs.Intake.{intake_of}
use Rattle.model.specs.Operands.{standing}
use Rattle.model.specs.Calls.{Call, Ring, In, times, ordered}
use Rattle.model.specs.Callees.{calls, order_of}
use Rattle.model.specs.Walk.{walk}
use Rattle.model.specs.Tables.{Tab, names, is_t, at, tables, rec_at, map_at}
use Rattle.model.specs.Agreement.{Mapping, stands, Agreement}
use Rattle.model.specs.Refusals.{done}
use Rattle.model.specs.Link.{link_by, link}
use Rattle.model.specs.LinkMaps.{link_maps}
use Rattle.theory_walks.specs.Reads.{Sound}
use Rattle.theory_walks.specs.Agreement.{Maps, Carries, CarriedT}
use Rattle.theory_walks.specs.WholeWords.{made}
use Rattle.theory_finish.specs.Fresh.{FreshLink}

-- an image that passes intake, its module, and room for the output
pub record Linking (ws : List ℕ) (room : ℕ) (m : Module) : Type 0 where
  pub passes : intake_of (4 * length ws) ws ≡ 0
  pub reads : read ws ≡ laid m
  pub roomy : 4 * length ws ≤ room

-- F' walks as F does, the events carried, by every list of numbers; and reads only what is standing or has been evaluated
pub record Walks (μ : Maps) (F F' : Function) (f : ℕ → ℕ) (cs : List ℕ) : Type 0 where
  pub carries : Carries μ F F' f cs
  pub sound : Sound (standing F'.exprs) (walk F' cs) []

-- F' walks as F does by the list cs: its events are F's carried through the maps, every one of a number that is mapped, and both end alike; and it reads only what is standing or has been evaluated. o is the map of F's expressions.
pub record WalksMapped (μ : Mapping) (o : List ℕ) (F F' : Function) (cs : List ℕ) : Type 0 where
  pub carries : CarriedT μ o (walk F cs) (walk F' cs)
  pub sound : Sound (standing F'.exprs) (walk F' cs) []

-- what linking by the order os gives: the words of the module `link_by os m`
pub record Output (ws : List ℕ) (room : ℕ) (m : Module) (os : List ℕ) : Type 0 where
  -- "what a fresh session writes that sets the image as its source with span offset 0, imports its functions in output order and finishes with entry points": each step is answered, and the last gives the words of link
  pub session : FreshLink (4 * length ws) ws room m os
  -- it passes intake, is no longer than the source, and reads back as that module
  pub intake : intake_of (4 * length (write (link_by os m))) (write (link_by os m)) ≡ 0
  pub shorter : length (write (link_by os m)) ≤ length ws
  pub reads : read (write (link_by os m)) ≡ laid (link_by os m)
  -- "each function stands once", at its place, "every callee before its callers"
  pub count : length (link_by os m).functions ≡ length m.functions
  pub once : (i : ℕ) → i < length m.functions → times os i ≡ 1
  pub places : (j i : ℕ) → get_elem? os j ≡ some i → get_or (link_maps os m).functions i 0 ≡ suc j
  pub callees-first : (xs ys : List ℕ) (i j : ℕ) → os ≡ xs ++ (i ∷ ys) → Call (length m.functions) (calls m) i j → In j xs
  -- every record that is reached equals the source's, through link's maps
  pub agree : Agreement m (link_by os m) (link_maps os m)
  -- "for every function or entry point and every finite list of numbers"
  pub functions : (i : ℕ) (F : Function) → get_elem? m.functions i ≡ some F
      → (F' : Function) × (get_elem? (link_by os m).functions ((made (link_maps os m)).function i) ≡ some F') × ((cs : List ℕ) → Walks (made (link_maps os m)) F F' ((made (link_maps os m)).in_function i) cs)
  pub entries : (i : ℕ) (E : Entry) → get_elem? m.entries i ≡ some E
      → (E' : Entry) × (get_elem? (link_by os m).entries i ≡ some E') × ((cs : List ℕ) → Walks (made (link_maps os m)) E.function E'.function ((made (link_maps os m)).in_entry i) cs)

-- and more of the module `link_by os m`: in it too every callee stands before its callers; every record that is mapped, reached or not, equals the source's; and every event is carried by a
-- number that is mapped
pub record OutputMapped (m : Module) (os : List ℕ) : Type 0 where
  pub callees-before : (i j : ℕ) → Call (length (link_by os m).functions) (calls (link_by os m)) i j → j < i
  pub records-agree : (t : Tab) (n k : ℕ) → is_t t names ≡ false → map_at (link_maps os m).in_tables t n ≡ suc k
      → stands m (link_by os m) (link_maps os m) (link_maps os m).in_tables.of_exprs (at t (tables (link_by os m))) (suc k) (rec_at (tables m) t n) ≡ true
  pub functions_mapped : (i : ℕ) (F : Function) → get_elem? m.functions i ≡ some F
      → (j : ℕ) × (F' : Function) × (get_or (link_maps os m).functions i 0 ≡ suc j) × (get_elem? (link_by os m).functions j ≡ some F') × ((cs : List ℕ) → WalksMapped (link_maps os m) (get_or (link_maps os m).in_functions i []) F F' cs)
  pub entries_mapped : (i : ℕ) (E : Entry) → get_elem? m.entries i ≡ some E
      → (E' : Entry) × (get_elem? (link_by os m).entries i ≡ some E') × ((cs : List ℕ) → WalksMapped (link_maps os m) (get_or (link_maps os m).in_entries i []) E.function E'.function cs)

-- THE DEMAND
pub record Demand3 (ws : List ℕ) (room : ℕ) (m : Module) : Type 0 where
  -- "Linking succeeds exactly if no chain of calls comes back to its start"
  pub exactly : ((vs : List ℕ) × (link (4 * length ws) ws room ≡ done vs)) ↔ ((i : ℕ) → Ring (length m.functions) (calls m) i → ⊥)
  -- "Then": what it writes is this
  pub output : (vs : List ℕ) → link (4 * length ws) ws room ≡ done vs → (os : List ℕ) × (order_of m ≡ ordered os) × (vs ≡ write (link_by os m)) × Output ws room m os
