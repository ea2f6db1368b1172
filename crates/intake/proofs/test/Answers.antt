use Rattle.base_views.proofs.LaidOut.{tape}
use Rattle.intake.proofs.Tests.{number_fails, names_ready, scope_ready, order_fails, name_fails, scope_fails, all_pass}
use borrow.Author.Rules.{rules}
use mathlib.Core.Bool.{not}
use mathlib.Core.Path.{ap}
use Rattle.intake.proofs.test.Goals as goal

pub returns-then-not-numbered : goal.returns-then-not-numbered
returns-then-not-numbered c = search (number_fails, tape c.args.image, rules)

pub returns-then-not-lower : goal.returns-then-not-lower
returns-then-not-lower c = search (order_fails, tape c.args.image, rules)

pub named-requires : goal.named-requires
named-requires c = search (names_ready, tape c.args.image, rules)

pub returns-then-not-named : goal.returns-then-not-named
returns-then-not-named c = search (name_fails, tape c.args.image, rules)

pub in_scope-requires : goal.in_scope-requires
in_scope-requires c = search (scope_ready, tape c.args.image, rules)

pub returns-then-not-in_scope : goal.returns-then-not-in_scope
returns-then-not-in_scope c = search (scope_fails, tape c.args.image, rules)

pub returns : goal.returns
returns c = all_pass c.args.image.words.now c.args.image.tags.now c.args.image.n c.numbered.result c.numbered.ensures (ap not c.if-not-numbered.false) c.lower.result c.lower.ensures (ap not c.if-not-lower.false) c.named.result c.named.ensures (ap not c.if-not-named.false) c.in_scope.result c.in_scope.ensures (ap not c.if-not-in_scope.false)
