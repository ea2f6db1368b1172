use mathlib.Core.Path.{refl}
use native.Mathlib.Omega.{arith}
use Rattle.order_lines.proofs.Bytes.{puts_at}
use Rattle.order_lines.proofs.Cursor.put.Goals as goal

pub returns-clause-puts : goal.returns-clause-puts
returns-clause-puts c = puts_at _ _ _ _ _ refl c.copy_from_slice.ensures.after (omega (arith, c.args.self.now.long, c.requires))
