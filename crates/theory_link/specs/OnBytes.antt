-- DEMAND 3, ON BYTES: the statement that a reader is sent to. Document 01 and the paper of demands: "Linking succeeds exactly if no chain of calls comes back to its start. Then the output holds what a fresh session writes that sets the image as its source with span offset 0, imports its functions in output order and finishes with entry points: each function stands once, every callee before its callers. And for every function or entry point and every finite list of numbers the walk in the linked module reads, apart from standing expressions, only what it has already evaluated; and its events from first to last equal those of the source's walk by the same list, carried through the maps, and both end alike."
-- The premises are document 01's: the image passes intake, the output is at least as long as the image. An image and an output are lists of bytes; `link_image` is the answer and the output afterwards, and what is said of the linked module is said of the module that the output's bytes hold. Demand.antt has the statement on words, which is the lemma.
use Rattle.std.specs.Prelude.{◌≡◌, true, false, ◌↔◌, List, [], ◌∷◌, ◌++◌, ℕ, suc, ◌*◌, ◌<◌, ◌≤◌, get_or, take, drop}
use Rattle.std.proofs.Math.Option.{some}
use Rattle.std.proofs.Math.ListN.{length, get_elem?}
use Rattle.base_words.specs.Words.{words_of, bytes_of}
use Rattle.model.specs.Refusals.{done, ringed}
use Rattle.model.specs.Outcome.{laid}
use Rattle.model.specs.Tree.{Function, Entry}
use Rattle.model.specs.Module.{Module, read, write}
use Rattle.model.specs.Intake.{intake_of}
use Rattle.model.specs.Calls.{Call, Ring, Reaches, Count, In, Sorted, times, ordered}
use Rattle.model.specs.Callees.{calls, order_of}
use Rattle.model.specs.Tables.{Tab, names, is_t, at, tables, rec_at, map_at}
use Rattle.model.specs.Agreement.{stands, Agreement}
use Rattle.model.specs.Link.{link_by, link_image, link_answer}
use Rattle.model.specs.LinkMaps.{link_maps}
use Rattle.theory_walks.specs.WholeWords.{made}
use Rattle.theory_finish.specs.Fresh.{FreshLink}
use Rattle.theory_link.specs.Demand.{Walks, WalksMapped}

-- ---- THE STATEMENT
-- what n bytes at the start of the output `out` hold, when the module m was linked by the order os: the module m'
pub record Held (image output out : List ℕ) (m : Module) (os : List ℕ) (n : ℕ) (m' : Module) : Type 0 where
  -- the order: "by rank, then source number"
  pub order : order_of m ≡ ordered os
  pub sorted : Sorted (length m.functions) (calls m) os
  -- "what a fresh session writes that sets the image as its source with span offset 0, imports its functions in output order and finishes with entry points": each step is answered, and the last writes these bytes
  pub session : FreshLink (length image) (words_of image) (length output) m os
  pub bytes : take n out ≡ bytes_of (write (link_by os m))
  -- "bytes past what it writes stay"
  pub behind : drop n out ≡ drop n output
  pub as_long : length out ≡ length output
  -- they are an image, no longer than the source, that passes intake and holds the module m'
  pub counted : n ≡ length (take n out)
  pub shorter : n ≤ length image
  pub intake : intake_of n (words_of (take n out)) ≡ 0
  pub holds : read (words_of (take n out)) ≡ laid m'
  pub is : m' ≡ link_by os m
  -- "each function stands once", at its place, "every callee before its callers"
  pub count : length m'.functions ≡ length m.functions
  pub once : (i : ℕ) → i < length m.functions → times os i ≡ 1
  pub places : (j i : ℕ) → get_elem? os j ≡ some i → get_or (link_maps os m).functions i 0 ≡ suc j
  pub callees-first : (xs ys : List ℕ) (i j : ℕ) → os ≡ xs ++ (i ∷ ys) → Call (length m.functions) (calls m) i j → In j xs
  -- every record that is reached equals the source's, through link's maps
  pub agree : Agreement m m' (link_maps os m)
  -- "for every function or entry point and every finite list of numbers": the walk in m' reads only what it has evaluated, its events are the source's carried, and both end alike
  pub functions : (i : ℕ) (F : Function) → get_elem? m.functions i ≡ some F
      → (F' : Function) × (get_elem? m'.functions ((made (link_maps os m)).function i) ≡ some F') × ((cs : List ℕ) → Walks (made (link_maps os m)) F F' ((made (link_maps os m)).in_function i) cs)
  pub entries : (i : ℕ) (E : Entry) → get_elem? m.entries i ≡ some E
      → (E' : Entry) × (get_elem? m'.entries i ≡ some E') × ((cs : List ℕ) → Walks (made (link_maps os m)) E.function E'.function ((made (link_maps os m)).in_entry i) cs)

-- and more of the module m' that the bytes hold: in it too every callee stands before its callers; every record that is mapped, reached or not, equals the source's; and every event is
-- carried by a number that is mapped
pub record HeldMapped (m : Module) (os : List ℕ) (m' : Module) : Type 0 where
  pub callees-before : (i j : ℕ) → Call (length m'.functions) (calls m') i j → j < i
  pub records-agree : (t : Tab) (n k : ℕ) → is_t t names ≡ false → map_at (link_maps os m).in_tables t n ≡ suc k
      → stands m m' (link_maps os m) (link_maps os m).in_tables.of_exprs (at t (tables m')) (suc k) (rec_at (tables m) t n) ≡ true
  pub functions_mapped : (i : ℕ) (F : Function) → get_elem? m.functions i ≡ some F
      → (j : ℕ) × (F' : Function) × (get_or (link_maps os m).functions i 0 ≡ suc j) × (get_elem? m'.functions j ≡ some F') × ((cs : List ℕ) → WalksMapped (link_maps os m) (get_or (link_maps os m).in_functions i []) F F' cs)
  pub entries_mapped : (i : ℕ) (E : Entry) → get_elem? m.entries i ≡ some E
      → (E' : Entry) × (get_elem? m'.entries i ≡ some E') × ((cs : List ℕ) → WalksMapped (link_maps os m) (get_or (link_maps os m).in_entries i []) E.function E'.function cs)

-- linking the image that holds m, with this output
pub record Demand3 (image output : List ℕ) (m : Module) : Type 0 where
  -- "Linking succeeds exactly if no chain of calls comes back to its start"
  pub exactly : ((vs : List ℕ) × ((link_image image output).0 ≡ done vs)) ↔ ((i : ℕ) → Ring (length m.functions) (calls m) i → ⊥)
  -- otherwise it is refused with 12 and the count of the functions from which a chain reaches a ring, and the output stays
  pub ring_told : (i : ℕ) → Ring (length m.functions) (calls m) i → (k : ℕ) × Count (length m.functions) (Reaches (length m.functions) (calls m)) k × (link_image image output ≡ (ringed k, output))
  -- "Then the output holds .."; the answer is the count of its bytes
  pub output-holds : (vs : List ℕ) → (link_image image output).0 ≡ done vs
      → (os : List ℕ) × (n : ℕ) × (m' : Module) × (link_answer (link_image image output).0 ≡ n * 4294967296) × Held image output (link_image image output).1 m os n m'
