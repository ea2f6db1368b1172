-- `source_with` meets its contract: none is set, it has no such record, or it has.
use mathlib.Core.Logic.{inl, inr}
use mathlib.Core.Path.{refl}
use native.Mathlib.Omega.{arith}
use Rattle.std.proofs.lemmas.Result.{err_from_is_err_and}
use Rattle.base_refusals.specs.declared.Refusal.TheVariants.{NoSource}
use Rattle.session_operations.proofs.Memory.{no_source}
use Rattle.session_operations.proofs.source_with.Goals as goal

pub returns-in_err-set : goal.returns-in_err-set
returns-in_err-set c = let p = err_from_is_err_and c.from_residual.result c.from_residual.ensures.1 in let q = no_source _ NoSource _ _ c.ok_or.ensures.value c.in_err-set.was in rw (p.1, p.2, q.1) (inl (q.0, refl))

pub over-requires : goal.over-requires
over-requires c = c.requires.passed _ c.in_ok-set.ensures.ok_part

pub returns-then-count-r : goal.returns-then-count-r
returns-then-count-r c = let k = c.count.ensures.0 in let h = c.if-count-r.true in inr (rw c.in_ok-set.ensures.ok_part refl, omega arith, refl)

pub returns : goal.returns
returns c = let o = c.over.ensures in let k = c.count.ensures.0 in let h = c.if-count-r.false in (rw (o.2, o.3) c.in_ok-set.ensures.ok_part, o.0, o.1, omega arith)
