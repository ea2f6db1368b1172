-- `order_text::tell_of` meets its contract: what intake accepts has passed tests 3 and 5.
use native.Mathlib.Omega.{arith}
use Rattle.base_views.proofs.LaidOut.{laid_out}
use Rattle.order_text.proofs.Orders.{held_tape, held-passed, accepted_says, refused_few, refused_says}
use Rattle.order_text.proofs.tell_of.Goals as goal

pub invariant_of-tell-clause-laid_out : goal.invariant_of-tell-clause-laid_out
invariant_of-tell-clause-laid_out c = laid_out (held_tape c.in-Ok.ensures)

pub tell-requires : goal.tell-requires
tell-requires c = let t = c.in-Ok.ensures in record { passed = held-passed t; out_len = c.requires }

pub returns-in-Ok : goal.returns-in-Ok
returns-in-Ok c = accepted_says c.in-Ok.ensures c.tell.ensures

pub head-requires : goal.head-requires
head-requires c = record { out_len = c.requires; label_len_bound = (omega arith, omega (arith, refused_few c.in-Err.ensures, c.number.ensures)) }

pub returns-in-Err : goal.returns-in-Err
returns-in-Err c = refused_says c.in-Err.ensures c.number.ensures c.requires c.head.ensures
