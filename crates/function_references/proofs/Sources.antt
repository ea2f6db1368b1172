-- A source whose functions are told apart by their names passed intake.
use Rattle.derive_state.specs.declared.NamedSource.{NamedSource}
use Rattle.derive_state.proofs.Sources.{named_source_of}
use Rattle.function_references.specs.Fits.{Ground}

pub ground : (s : NamedSource) → Ground s.image.words.now s.image.tags.now s.image.n
ground s = record { source = named_source_of s; names = s.test_5 }
