-- THE WORDS OF A LINKED IMAGE ARE BELOW 2^32 where the source's are, so its bytes give them back.
use Rattle.std.specs.Prelude.{refl, List, ℕ, ◌*◌, ◌^◌, length}
use Rattle.base_words.specs.Words.{AllBelow}
use Rattle.model.specs.Module.{Module, write}
use Rattle.model.specs.Session.{with_entries}
use Rattle.model.specs.Link.{link_by}
use Rattle.theory_finish.specs.Small.{SmallModule}
use Rattle.theory_finish.proofs.Small.{sourced_small, functions_small, enter_small, entries_small, fresh_small, finished_small}
use Rattle.theory_finish.proofs.Words.{read_small, written_words}
use Rattle.theory_finish.specs.Size.{intake_sized}
use Rattle.theory_finish.specs.Linking.{intake_passes}
use Rattle.theory_link.specs.Demand.{Linking, Output}

-- LINK'S MODULE IS SMALL where the source is
pub link_small : (os : List ℕ) (m : Module) → SmallModule m → SmallModule (link_by os m)
unfolding link_by with_entries
link_small os m k =
    let s = functions_small 0 m k os _ (sourced_small 0 m k _ fresh_small) in
    finished_small _ _ (enter_small 0 m k k.in_entries_lem _ s) (entries_small 0 m k k.in_entries_lem _ s)

pub linked_words : (ws : List ℕ) (room : ℕ) (m : Module) (os : List ℕ) → Linking ws room m → Output ws room m os → AllBelow (2 ^ 32) ws → AllBelow (2 ^ 32) (write (link_by os m))
linked_words ws room m os l o h =
    let vs = write (link_by os m) in
    let k : SmallModule m = read_small (4 * length ws) ws m l.passes l.reads refl h in
    let p = intake_passes (4 * length vs) vs (link_by os m) o.intake o.reads in
    written_words (link_by os m) (link_small os m k) p.numbers o.reads (intake_sized (4 * length vs) vs o.intake)
