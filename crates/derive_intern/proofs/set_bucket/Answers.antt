use Rattle.derive_state.proofs.State.{left_first, left_more}
use Rattle.derive_intern.proofs.set_bucket.Goals.{in-Empty, in-One}
use Rattle.derive_intern.proofs.set_bucket.Goals as goal

pub returns : goal.returns
returns c =
    let a = c.args in
    let p = c.requires in
    elim c.match-bucket_at.branch [
      | in-Empty w ↦ rw w.buckets-is (left_first a.buckets.now a.p a.k p.0 p.2 w.in-Empty.ensures)
      | in-One w ↦ rw w.buckets-is (left_more a.buckets.now a.p a.k p.0 p.2)
    ]
