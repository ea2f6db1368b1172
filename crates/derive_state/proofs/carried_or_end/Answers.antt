use native.Mathlib.Omega.{arith}
use Prim.Native.Nat.{◌-◌}
use Rattle.derive_state.specs.Refers.{went_r, Small}
use Rattle.derive_state.proofs.Passes.{following_some, following_none}
use Rattle.derive_state.proofs.Unlike.{all-at}
use Rattle.derive_state.proofs.carried_or_end.Goals as goal

pub carried-requires : goal.carried-requires
carried-requires c = let a = c.args in let r = a.original in let S = r.stretch in record { all = all-at r.cells.tags.now r.cells.words.now r.end S.in_tags S.in_words Small a.i c.if-i-original.true (a.i - r.at) r.at (omega (arith, c.requires)) r.small }

pub returns-then-i-original : goal.returns-then-i-original
returns-then-i-original c = let a = c.args in let r = a.original in let S = r.stretch in following_some (went_r a.maps.now) r.cells.tags.now r.cells.words.now a.i r.end c.if-i-original.true S.in_tags S.in_words _ c.carried.ensures

pub returns-else-i-original : goal.returns-else-i-original
returns-else-i-original c = let a = c.args in let r = a.original in following_none (went_r a.maps.now) r.cells.tags.now r.cells.words.now a.i r.end c.if-i-original.false
