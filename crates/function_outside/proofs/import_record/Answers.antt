-- `function_outside::import_record` meets its contract: what is not missing is left as it is.
use Rattle.std.proofs.Common.{refl}
use Rattle.derive_imports.proofs.Sources.{small_number}
use Rattle.derive_state.proofs.State.{arrays_same}
use Rattle.function_references.proofs.Sources.{ground}
use Rattle.function_outside.proofs.Records.{lands_mapped, lands_record}
use Rattle.function_outside.proofs.import_record.Goals as goal

pub missing-requires : goal.missing-requires
missing-requires c = λ l. let a = c.args in small_number a.source.image.words.now a.source.image.tags.now a.source.image.n (ground c.args.source).source a.r.table a.r.number l (c.requires.r_bound l)

pub returns-then-not-missing : goal.returns-then-not-missing
returns-then-not-missing c = record { does = lands_mapped (ground c.args.source).source c.args.source.offset c.requires.r_bound refl c.requires.valid_arrays (c.missing.ensures.h_nonzero c.if-not-missing.true); same = arrays_same _ }

pub import-requires : goal.import-requires
import-requires c = let l = (c.missing.ensures.t_bound c.if-not-missing.false).0 in record { number_bound = (l, rw c.source.ensures.0 (c.requires.r_bound l)); valid_arrays = c.requires.valid_arrays }

pub returns : goal.returns
returns c = let a = c.args in let l = (c.missing.ensures.t_bound c.if-not-missing.false).0 in record { does = lands_record a.source.offset _ a.r.table a.r.number _ l refl (rw (c.source.ensures.0, c.source.ensures.1) at c.import.ensures.does); same = c.import.ensures.same }
