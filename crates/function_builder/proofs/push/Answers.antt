use mathlib.Core.Path.{refl, sym}
use mathlib.Core.Bool.{false≢true}
use native.Mathlib.Omega.{arith}
use Rattle.function_builder.proofs.push.Goals as goal

pub returns-then-bodytop-eq-ROW_LEN : goal.returns-then-bodytop-eq-ROW_LEN
returns-then-bodytop-eq-ROW_LEN c = record { over = λ q. c.if-bodytop-eq-ROW_LEN.true; stays = λ q. refl; is = λ q. absurd (false≢true (sym q)); ends = λ q. absurd (false≢true (sym q)); room = λ q. absurd (false≢true (sym q)) }

pub returns : goal.returns
returns c = record { over = λ q. absurd (false≢true q); stays = λ q. absurd (false≢true q); is = λ q. refl; ends = λ q. refl; room = λ q. omega arith }
