-- WHAT IS LINKED LINKS AGAIN: the output order of a linked module is the order of its functions, so no chain of calls comes back to its start, and a second link is accepted and imports the functions in the order of their numbers.
use Rattle.std.specs.Prelude.{◌≡◌, List, ℕ, ◌*◌, ◌≤◌, length, take}
use Rattle.std.proofs.Common.{sym, ap, ◌∙◌, le-ltb}
use Rattle.base_words.specs.Words.{words_of}
use Rattle.model.specs.Outcome.{laid}
use Rattle.model.specs.Module.{Module, read, write}
use Rattle.model.specs.Intake.{intake_of, of_laid, after_intake, on_words}
use Rattle.model.specs.Calls.{numbers, ordered}
use Rattle.model.specs.Callees.{order_of}
use Rattle.model.specs.Refusals.{done}
use Rattle.model.specs.Link.{link_by, in_order, link_module, link, link_image}
use Rattle.theory_image.specs.Modules.{read_well}
use Rattle.theory_finish.specs.Linking.{intake_passes}
use Rattle.theory_link.specs.Demand.{Linking, Output}
use Rattle.theory_link.specs.OnBytes.{Held}
use Rattle.theory_link.specs.Exactly.{link_is}
use Rattle.theory_link.specs.LinkedCalls.{linked-order}

-- AND IT IS LINKED AGAIN: no refusal, in the order of the numbers
pub links_again : (ws : List ℕ) (room : ℕ) (m : Module) (os : List ℕ) → Linking ws room m → order_of m ≡ ordered os → Output ws room m os → (room' : ℕ) → 4 * length (write (link_by os m)) ≤ room'
    → link (4 * length (write (link_by os m))) (write (link_by os m)) room' ≡ done (write (link_by (numbers (length m.functions) 0) (link_by os m)))
unfolding in_order
links_again ws room m os l e o room' h =
    let k : Linking (write (link_by os m)) room' (link_by os m) = record { passes = o.intake; reads = o.reads; roomy = h } in
    link_is (write (link_by os m)) room' (link_by os m) k ∙ ap (λ x. in_order x (link_by os m)) (linked-order m (read_well ws m l.reads) (intake_passes (4 * length ws) ws m l.passes l.reads) os e o.count)

-- ON BYTES: what the output holds is linked again, into every output that is as long
pub links_again_bytes : (image output out : List ℕ) (m : Module) (os : List ℕ) (n : ℕ) (m' : Module) → intake_of (length image) (words_of image) ≡ 0 → read (words_of image) ≡ laid m → Held image output out m os n m' → (output' : List ℕ) → n ≤ length output'
    → (link_image (take n out) output').0 ≡ done (write (link_by (numbers (length m.functions) 0) m'))
unfolding link_image link on_words after_intake of_laid link_module in_order
links_again_bytes image output out m os n m' p r h output' l =
    let k : length (link_by os m).functions ≡ length m.functions = ap (λ x. length x.functions) (sym h.is) ∙ h.count in
    let o : order_of m' ≡ ordered (numbers (length m.functions) 0) = ap order_of h.is ∙ linked-order m (read_well (words_of image) m r) (intake_passes (length image) (words_of image) m p r) os h.order k in
    ap (λ x. link x (words_of (take n out)) (length output')) (sym h.counted) ∙ rw (link, on_words, h.intake, after_intake, h.holds, of_laid, link_module, le-ltb (length output') n l, o, in_order)
