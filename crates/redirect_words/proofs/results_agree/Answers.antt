use Rattle.redirect_words.proofs.Finding.{differ_presence, both-none, type_a, type_b, types_decide}
use borrow.Author.Rules.{rules}
use Rattle.redirect_words.proofs.results_agree.Goals as goal

pub returns-else-image-x : goal.returns-else-image-x
returns-else-image-x c = search (differ_presence, rules)

pub returns-then-image-x-eq0 : goal.returns-then-image-x-eq0
returns-then-image-x-eq0 c = search (both-none, rules)

pub bounds-image-x-else-image-x-eq0 : goal.bounds-image-x-else-image-x-eq0
bounds-image-x-else-image-x-eq0 c = type_a c.args.image c.args.original c.args.replacement c.requires.0 c.requires.1 c.returns_at-x.result c.returns_at-y.result c.returns_at-x.ensures.0 c.returns_at-y.ensures.0 c.if-image-x.true c.if-image-x-eq0.false

pub bounds-image-y-else-image-x-eq0 : goal.bounds-image-y-else-image-x-eq0
bounds-image-y-else-image-x-eq0 c = type_b c.args.image c.args.original c.args.replacement c.requires.0 c.requires.1 c.returns_at-x.result c.returns_at-y.result c.returns_at-x.ensures.0 c.returns_at-y.ensures.0 c.if-image-x.true c.if-image-x-eq0.false

pub returns-else-image-x-eq0 : goal.returns-else-image-x-eq0
returns-else-image-x-eq0 c = search (types_decide, rules)
