-- What linking counts is in the output.
use Rattle.link_image.proofs.Within.{within}
use Rattle.link_image.proofs.answer.Goals as goal

pub slice_bounds-output-end : goal.slice_bounds-output-end
slice_bounds-output-end g c = (within _ c.in-Ok.is c.link.ensures (λ i h. (c.type_inv.image i).fits)).0

pub slice_bounds-write-end-in-Ok : goal.slice_bounds-write-end-in-Ok
slice_bounds-write-end-in-Ok g c = (within _ c.in-Ok.is c.link.ensures (λ i h. (c.type_inv.image i).fits)).1
