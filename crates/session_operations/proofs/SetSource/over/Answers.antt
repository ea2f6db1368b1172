use Rattle.base_views.proofs.LaidOut.{laid_out}
use Rattle.session_operations.proofs.SetSource.over.Goals as goal

pub invariant_of-result-clause-laid_out : goal.invariant_of-result-clause-laid_out
invariant_of-result-clause-laid_out c = laid_out (record { holds = _; taped = c.requires.source.taped })

pub invariant_of-result-2-clause-test_3 : goal.invariant_of-result-2-clause-test_3
invariant_of-result-2-clause-test_3 c = c.requires.source.three

pub invariant_of-result-2-clause-test_4 : goal.invariant_of-result-2-clause-test_4
invariant_of-result-2-clause-test_4 c = c.requires.source.four

pub invariant_of-result-2-clause-test_5 : goal.invariant_of-result-2-clause-test_5
invariant_of-result-2-clause-test_5 c = c.requires.names
