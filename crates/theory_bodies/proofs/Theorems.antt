-- The body of a derived function is that of its source, carried, spans apart.
use Rattle.std.specs.Prelude.{ℕ, ◌≡◌, true}
use Rattle.model.specs.Tree.{Function}
use Rattle.model.specs.Module.{Module}
use Rattle.model.specs.Carry.{carry_cells, WellFormed}
use Rattle.model.specs.Numbers.{numbered}
use Rattle.model.specs.Lower.{lower}
use Rattle.model.specs.References.{through}
use Rattle.model.specs.Callees.{callees}
use Rattle.model.specs.Imports.{Derived}
use Rattle.model.specs.Agreement.{body_of}
use Rattle.model.specs.Bodies.{Builder, mapped_to, final, localized}
use Rattle.theory_records.specs.RecordLaws.{bare}
use Rattle.theory_bodies.specs.Lists.{All}
use Rattle.theory_bodies.specs.Context.{Law}
use Rattle.theory_bodies.specs.Inv.{place}
use Rattle.theory_bodies.specs.Function.{maps_of, maps_match}
use Rattle.theory_bodies.specs.Function as Function
use Rattle.theory_bodies.specs.Passing.{Passes, fine}
use Rattle.theory_bodies.specs.Layout as Layout
use Rattle.theory_bodies.specs.Opened.{body_copied}
use Rattle.theory_bodies.specs.Lawful.{Follows, lawful}
use Rattle.theory_bodies.specs.Theorems.{mapped, Opened}

module _ (M : Module) (well : WellFormed M) (three : numbered M ≡ true) (four : lower M ≡ true) (o : ℕ) (follow : ℕ → Derived → Derived) (Q : ℕ → Type 0) (G : Derived → Type 0) (follows : Follows o M follow Q G)
    (F : Function) (pass : Passes M F) (calls : All Q (callees F)) (s : Derived) (good : G s) where
  abbrev law : Law o M follow Q G
  law = lawful M well three four o follow Q G follows

  abbrev fit : Function.Fine (Function.ctx o M follow Q G law F) F
  fit = fine o M follow Q G law F pass calls

  abbrev F' : Function
  F' = localized o M follow F s

  abbrev fin : Builder
  fin = final o M follow F s

  pub body_opened : Opened M well three four o follow Q G follows F pass calls s good
  body_opened = record { body_same = body_copied M (mapped_to M fin) F F' pass.well.body_ok (Layout.well_again o M follow Q G law F pass calls s good).body_ok (unfold place mapped_to in Function.body-carried o M follow Q G law F fit s good (Function.maps_of (mapped_to M fin)) (Function.maps_match M Q fin) M) (unfold mapped_to in mapped M well three four o follow Q G follows F pass calls s good) }

  pub body_same : bare (body_of F') ≡ bare (carry_cells (through (mapped_to M fin)) (body_of F))
  body_same = body_opened.body_same
