-- The numbers go to the start, as far as there is room.
use Rattle.order_bytes.proofs.Copying.{copied}
use Rattle.order_bytes.proofs.copy.Goals as goal

pub returns : goal.returns
returns c = copied _ _ _ _ c.min-n.ensures c.copy_from_slice.ensures.after
