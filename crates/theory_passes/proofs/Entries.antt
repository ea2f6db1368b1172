-- An entry point: its function is imported first, and then its head is passed, of which only the name refers to anything.
use Prim.Native.Nat.{ℕ, zero, suc}
use Rattle.std.specs.Prelude.{◌≡◌, refl, [], ◌∷◌, ◌++◌}
use Rattle.std.proofs.Math.Path.{ap}
use Rattle.std.proofs.Common.{sym}
use Rattle.std.proofs.Math.Bool.{false}
use Rattle.model.specs.Outcome.{Cells}
use Rattle.model.specs.Table.{NAME, binding, entry_head}
use Rattle.model.specs.Tree.{Entry, flat, flat_entry}
use Rattle.model.specs.Module.{Module}
use Rattle.model.specs.Carry.{Lays}
use Rattle.model.specs.References.{targets, target, ref_of, refs, fold_refs}
use Rattle.model.specs.Imports.{Derived}
use Rattle.model.specs.Bodies.{Builder, carried, step, final, localized, follow, entered, entry_made}
use Rattle.theory_image.specs.Plain.{plain?}
use Rattle.theory_image.specs.Quiet.{Plainly, plain-none, plain-next, plainly}
use Rattle.theory_passes.specs.Pass.{after, written}
use Rattle.theory_passes.specs.Passage.{still?, calm?, Fields, Passage, alone-after, alone-written, Steady, fields-carried}
use Rattle.theory_passes.proofs.Shapes.{calm-fields}

abbrev idle : ℕ → Builder → Builder
idle e m = m

module _ (o : ℕ) (M : Module) (e : Entry) where
  abbrev f : ℕ → Derived → Derived
  f = follow o M

  steady : {r : Cells} → Plainly (NAME ∷ binding []) r → (m : Builder) → Steady o M f idle idle (refs r) (fold_refs (refs r) (step o M f idle) m) m
  unfolding refs target targets ref_of Steady fold_refs
  steady (plain-next {w = w} (plain-next (plain-next (plain-next (plain-next (plain-next (plain-next plain-none))))))) m = go w
    where
      go : (w : ℕ) → Steady o M f idle idle (ref_of (target NAME) w []) (fold_refs (ref_of (target NAME) w []) (step o M f idle) m) m
      go zero = unfold ref_of target targets Steady fold_refs in tt
      go (suc n) = unfold ref_of target targets Steady fold_refs in (refl, tt)

  head_fields : {r : Cells} → Plainly (NAME ∷ binding []) r → Fields r
  head_fields {r} (plain-next (plain-next (plain-next (plain-next (plain-next (plain-next (plain-next plain-none))))))) = unfold calm? still? target targets in calm-fields r (refl, (refl, (refl, (refl, (refl, (refl, (refl, tt)))))))

  module _ (laid : Lays entry_head e.head) (s : Derived) where
    -- after its function
    abbrev fin : Builder
    fin = final o M f e.function s

    shape : Plainly (NAME ∷ binding []) e.head
    unfolding entry_head
    shape = plainly laid (unfold plain? in refl)

    entry_passage : Passage o M f idle idle e.head fin (entered o M e s) (carried o M (entered o M e s) e.head)
    unfolding entered
    entry_passage = fields-carried o M f idle idle (head_fields shape) (fold_refs (refs e.head) (step o M f idle) fin) fin (steady shape fin)

    pub entry-after : after o M f idle idle e.head fin ≡ entered o M e s
    entry-after = alone-after o M f idle idle entry_passage

    pub entry-written : written o M f idle idle e.head false fin ≡ (entry_made o M e s).head
    unfolding entry_made
    entry-written = alone-written o M f idle idle entry_passage false

    pub entry-parts : flat_entry (entry_made o M e s) ≡ written o M f idle idle e.head false fin ++ flat (localized o M f e.function s)
    unfolding flat_entry entry_made
    entry-parts = ap (◌++ flat (localized o M f e.function s)) (sym (unfold entry_made in entry-written))
