-- What is read of a source and of a derived module, by the structs that have it.
use Rattle.std.specs.Prelude.{List, ℕ, Result}
use Rattle.model.specs.Outcome.{Cells}
use Rattle.model.specs.Module.{Module}
use Rattle.model.specs.References.{Place}
use Rattle.model.specs.Bodies.{Builder}
use Rattle.derive_state.specs.Source.{mod_of}
use Rattle.derive_state.specs.Held.{carried_by}
use Rattle.derive_state.specs.Sizes.{going, told}
use Rattle.derive_state.specs.declared.NamedSource.{NamedSource}
use Rattle.derive_state.specs.declared.Derived.{Derived}
use Rattle.derive_state.specs.declared.DerivedMut.{DerivedMut}
use Rattle.derive_state.specs.declared.Full.{Full}
use Rattle.derive_state.specs.declared.Sizes.{Sizes}
use Rattle.function_references.specs.Cuts.{exprs_of}
use Rattle.function_references.specs.declared.Piece.{Piece}
use Rattle.function_builder.specs.Stacks.{went_of}
use Rattle.function_builder.specs.Makes.{Lays, Builds}
use Rattle.function_builder.specs.declared.shader_function.ShaderFunction.{ShaderFunction}

-- the module that a source is
abbrev pub module_of : NamedSource → Module
module_of s = mod_of s.image.words.now s.image.n

-- the expressions of a function
abbrev pub expressions_of : ShaderFunction → List Cells
expressions_of f = exprs_of f.source.image.words.now f.source.image.tags.now f.places.now f.count

-- what numbers of a source are mapped to in a derived module
abbrev pub went_in : NamedSource → Derived → List ℕ → Place → ℕ → ℕ
went_in s d exprmap = went_of s.image.words.now s.image.n d.log.now d.logtags.now d.starts.now d.maps.now (going d.sizes) exprmap

-- what the words of a piece become there
abbrev pub carried_piece : Piece → Derived → List ℕ → Cells
carried_piece p d exprmap = carried_by (went_in p.source d exprmap) p.source.image.tags.now p.source.image.words.now p.at p.end

-- `Lays` of what is read of a function and of a derived module
abbrev pub LaysOf : ShaderFunction → (Builder → Builder) → Derived → List ℕ → List (List ℕ) → Result Sizes Full → List ℕ → List (List ℕ) → Type 0
LaysOf f g d exprmap₀ stacks₀ r exprmap stacks = Lays f.source.image.words.now f.count g d.log.now d.logtags.now d.starts.now d.maps.now exprmap₀ stacks₀ f.base (going d.sizes) (told r) exprmap stacks

-- `Builds` of what is read of a function
abbrev pub BuildsOf : ShaderFunction → (Builder → Builder) → DerivedMut → List ℕ → List (List ℕ) → Sizes → Result Sizes Full → DerivedMut → List ℕ → List (List ℕ) → Type 0
BuildsOf f g d exprmap₀ stacks₀ e r d' exprmap stacks = Builds f.source.image.words.now f.count g d exprmap₀ stacks₀ f.base e r d' exprmap stacks
