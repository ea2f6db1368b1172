-- Words whose numbers lie in their tables are carried by the arrays as they are by the builder.
use mathlib.Core.Path.{◌≡◌, refl}
use mathlib.Core.Bool.{false}
use mathlib.Core.List.{List}
use Prim.Native.Nat.{ℕ}
use lib.Seq.{get_or-take}
use Rattle.model.specs.Outcome.{Cells}
use Rattle.model.specs.Carry.{carry_cells}
use Rattle.model.specs.Between.{between}
use Rattle.model.specs.References.{Place, table, own, function, refs, through, shift}
use Rattle.model.specs.Bodies.{known, mapped_to, carried}
use Rattle.theory_records.specs.RecordLaws.{All, all_map, carry_same}
use Rattle.derive_state.specs.Source.{mod_of}
use Rattle.derive_state.specs.Held.{st_of, carried_by}
use Rattle.derive_state.specs.Sizes.{Sizes}
use Rattle.derive_imports.proofs.Turns.{map_is}
use Rattle.function_references.specs.Fits.{Fits, FitN}
use Rattle.function_builder.specs.Stacks.{went_of, making_of}

module _ (words : List ℕ) (n k : ℕ) (log logtags : List ℕ) (starts maps : List (List ℕ)) (special : List ℕ) (e : Sizes) (exprmap : List ℕ) (stacks : List (List ℕ)) (e₁ : ℕ) where
  went_is : (p : Place) (j : ℕ) → Fits words k p j → mapped_to (mod_of words n) (making_of words k log logtags starts maps special e exprmap stacks e₁) p j ≡ went_of words n log logtags starts maps e exprmap p j
  unfolding mapped_to went_of making_of Fits
  went_is (table t) j h = map_is words log logtags starts maps special e t j h.0
  went_is own j h = get_or-take k exprmap j 0 h
  went_is function j h = unfold known st_of in refl

  pub carried_is : (cs : Cells) → All (FitN words k) (refs cs)
      → carry_cells (through (mapped_to (mod_of words n) (making_of words k log logtags starts maps special e exprmap stacks e₁))) cs ≡ carry_cells (through (went_of words n log logtags starts maps e exprmap)) cs
  carried_is cs a =
      carry_same (went_of words n log logtags starts maps e exprmap) (mapped_to (mod_of words n) (making_of words k log logtags starts maps special e exprmap stacks e₁)) cs (all_map (refs cs) (λ j f. went_is j.place j.num f) a)

  -- a record of the source, through the maps and with its span moved
  pub moved_is : (o : ℕ) (tags : List ℕ) (at end : ℕ) → All (FitN words k) (refs (between tags words at end))
      → carried o (mod_of words n) (making_of words k log logtags starts maps special e exprmap stacks e₁) (between tags words at end) ≡ shift (carried_by (went_of words n log logtags starts maps e exprmap) tags words at end) o false
  unfolding carried carried_by
  moved_is o tags at end a = rw (carried_is (between tags words at end) a)
