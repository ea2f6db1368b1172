-- `order_callees::function` meets its contract. The invariant: what is left of the record, marked too, is what is there from its start on.
use mathlib.Core.Path.{refl}
use native.Mathlib.Omega.{arith}
use Rattle.base_views.proofs.LaidOut.{tape}
use Rattle.order_ranks.proofs.Marks.{calls_too}
use Rattle.order_callees.proofs.Marking.{Markable, begin, finish, may, again, pass}
use Rattle.order_callees.proofs.Whole.{asks, calls-these}
use Rattle.order_callees.proofs.function.Goals as goal
use Rattle.order_callees.proofs.function.Goals.{then-calls, else-calls}

pub loop-k-init : goal.loop-k-init
loop-k-init c =
    let p : Markable c.args.image.words.now c.args.image.tags.now c.record-at.result.0 c.record-at.result.1 c.args.i c.args.callees.now = asks (tape c.args.image).taped c.requires.known c.requires.i_bound (omega arith) c.record-at.ensures.0 c.record-at.ensures.1 in
    begin p

pub bounds-image-k : goal.bounds-image-k
bounds-image-k c =
    let p : Markable c.args.image.words.now c.args.image.tags.now c.record-at.result.0 c.record-at.result.1 c.args.i c.args.callees.now = asks (tape c.args.image).taped c.requires.known c.requires.i_bound (omega arith) c.record-at.ensures.0 c.record-at.ensures.1 in
    omega (arith, p.within, c.loop-k-test.true)

pub offset_bounds-callees-i : goal.offset_bounds-callees-i
offset_bounds-callees-i c =
    let p : Markable c.args.image.words.now c.args.image.tags.now c.record-at.result.0 c.record-at.result.1 c.args.i c.args.callees.now = asks (tape c.args.image).taped c.requires.known c.requires.i_bound (omega arith) c.record-at.ensures.0 c.record-at.ensures.1 in
    record { fits = omega (arith, p.row) }

pub bounds-callees-i : goal.bounds-callees-i
bounds-callees-i c =
    let p : Markable c.args.image.words.now c.args.image.tags.now c.record-at.result.0 c.record-at.result.1 c.args.i c.args.callees.now = asks (tape c.args.image).taped c.requires.known c.requires.i_bound (omega arith) c.record-at.ensures.0 c.record-at.ensures.1 in
    omega (arith, p.row)

pub join-requires : goal.join-requires
join-requires c =
    let p : Markable c.args.image.words.now c.args.image.tags.now c.record-at.result.0 c.record-at.result.1 c.args.i c.args.callees.now = asks (tape c.args.image).taped c.requires.known c.requires.i_bound (omega arith) c.record-at.ensures.0 c.record-at.ensures.1 in
    may p c.loop-k.invariant c.loop-k-test.true c.if-calls.true refl

pub loop-k-preserved : goal.loop-k-preserved
loop-k-preserved c =
    let p : Markable c.args.image.words.now c.args.image.tags.now c.record-at.result.0 c.record-at.result.1 c.args.i c.args.callees.now = asks (tape c.args.image).taped c.requires.known c.requires.i_bound (omega arith) c.record-at.ensures.0 c.record-at.ensures.1 in
    elim c.if-calls.branch [
      | then-calls w ↦ rw w.callees-is (again p c.loop-k.invariant c.loop-k-test.true w.if-calls.true refl (calls_too _ _ _ _ (omega (arith, p.row)) w.join.ensures))
      | else-calls w ↦ rw w.callees-is (pass p c.loop-k.invariant c.loop-k-test.true w.if-calls.false)
    ]

pub returns : goal.returns
returns c =
    let p : Markable c.args.image.words.now c.args.image.tags.now c.record-at.result.0 c.record-at.result.1 c.args.i c.args.callees.now = asks (tape c.args.image).taped c.requires.known c.requires.i_bound (omega arith) c.record-at.ensures.0 c.record-at.ensures.1 in
    calls-these _ _ c.record-at.ensures.0 c.record-at.ensures.1 (finish p c.loop-k.invariant c.loop-k-test.false)
