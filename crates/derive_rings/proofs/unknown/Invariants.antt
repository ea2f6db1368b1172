-- `derive_rings::unknown` meets its contract. The invariant: of the marks below i those are left whose names are unknown.
use Rattle.derive_rings.proofs.Sieving.{Sieve}
use Rattle.derive_rings.proofs.Wholes.{is_unknown}
use Rattle.derive_state.specs.Sizes.{going}
use Rattle.derive_rings.proofs.unknown.Given as goal

abbrev pub invariant-loop-f : goal.invariant-loop-f
invariant-loop-f l = Sieve (is_unknown l.source.image.words.now l.source.image.n l.derived.view.now.log.now l.derived.view.now.logtags.now l.derived.view.now.starts.now (going l.derived.view.now.sizes)) l.functions l.began.0 l.set.0 l.f
