-- What `specs/CalleesExamples.antt` states holds: each side computes to the other.
use Rattle.std.specs.Prelude.{refl}
use Rattle.model.specs.Calls.{numbers, any, keep, free, held, round, rounds, answer, order}
use Rattle.model.specs.Callees.{callees_s, callees_at, calls, order_of}
use Rattle.model.specs.CalleesExamples.{Called}

pub computed : Called
unfolding callees_s callees_at calls order_of numbers any keep free held round rounds answer order
computed = record {
  result_only = refl;
  with_result = refl;
  not_reached = refl;
  nested = refl;
  branches = refl;
  past = refl;
  p5 = refl;
  p6 = refl;
  p9 = refl;
  p12 = refl;
  behind = refl;
}
