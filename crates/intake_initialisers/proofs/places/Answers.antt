use native.Mathlib.Omega.{arith}
use Rattle.intake_initialisers.proofs.Visiting.{places-begin, places_last_room, places-last, places-room, places-next, places_skip, places_done}
use borrow.Author.Rules.{rules}
use Rattle.intake_initialisers.proofs.places.Goals.{in-116, in_default}
use Rattle.intake_initialisers.proofs.places.Goals as goal

pub loop-j-init : goal.loop-j-init
loop-j-init g c = places-begin _ _ _ _ _ c.requires.at_le_end c.told-starts c.requires.tags_len_bound

pub listed : goal.listed
listed g c = omega (arith, c.loop-j.invariant.long, places_last_room _ _ _ _ _ _ _ _ c.loop-j.invariant c.loop-j-test.true c.requires.tags_len c.requires.end_bound c.in-114.is)

pub bounds-starts-k : goal.bounds-starts-k
bounds-starts-k g c = places_last_room _ _ _ _ _ _ _ _ c.loop-j.invariant c.loop-j-test.true c.requires.tags_len c.requires.end_bound c.in-114.is

pub returns-in-114 : goal.returns-in-114
returns-in-114 g c = places-last _ _ _ _ _ _ _ _ c.loop-j.invariant c.loop-j-test.true c.requires.tags_len c.requires.end_bound c.in-114.is _ c.from.ensures

pub listed-in-116 : goal.listed-in-116
listed-in-116 g c = omega (arith, c.loop-j.invariant.long, places-room _ _ _ _ _ _ _ _ c.loop-j.invariant c.loop-j-test.true c.requires.tags_len c.requires.end_bound (λ q. omega (arith, q, c.in-116.is)) c.in-116.is)

pub bounds-starts-k-in-116 : goal.bounds-starts-k-in-116
bounds-starts-k-in-116 g c = places-room _ _ _ _ _ _ _ _ c.loop-j.invariant c.loop-j-test.true c.requires.tags_len c.requires.end_bound (λ q. omega (arith, q, c.in-116.is)) c.in-116.is

pub loop-j-preserved : goal.loop-j-preserved
loop-j-preserved g c = elim c.match-tags-j.branch [
  | in-116 w ↦ rw (w.starts-is, w.k-is) (places-next _ _ _ _ _ _ _ _ c.loop-j.invariant c.loop-j-test.true c.requires.tags_len c.requires.end_bound (λ q. omega (arith, q, w.in-116.is)) w.in-116.is _ w.from-in-116.ensures)
  | in_default w ↦ rw (w.starts-is, w.k-is) (places_skip _ _ _ _ _ _ _ _ c.loop-j.invariant c.loop-j-test.true c.requires.tags_len c.requires.end_bound (search rules) (search rules))
]

pub returns : goal.returns
returns g c = places_done _ _ _ _ _ _ _ _ c.loop-j.invariant c.loop-j-test.false
