use mathlib.Core.Path.{sym, subst, ◌∙◌}
use borrow.Author.Tests.{tests}
use Rattle.std.proofs.Common.{rules}
use Rattle.std.proofs.lemmas.Iterator.{YieldsList-from_slice}
use Rattle.std.proofs.lemmas.Iterator.Search.{all_from_yields_List}
use Rattle.std.specs.Char.{is_ascii_digit}
use Rattle.std.specs.Str.Parse.{ParsesUnsigned}
use Rattle.redirect_image.proofs.Numbers.{read_wrong, digits_utf8, read_parsed, some_is, none_is}
use Rattle.redirect_image.proofs.read.Goals as goal

pub returns-then-not-all : goal.returns-then-not-all
returns-then-not-all c =
    let e = all_from_yields_List is_ascii_digit _ _ c.all.result c.all.ensures.ran (YieldsList-from_slice c.args.text.now cc) (λ x b q k. search (rules, tests)) in
    read_wrong _ (sym e ∙ c.if-not-all.true)

pub returns-in_err-ok : goal.returns-in_err-ok
returns-in_err-ok c =
    let e = all_from_yields_List is_ascii_digit _ _ c.all.result c.all.ensures.ran (YieldsList-from_slice c.args.text.now cc) (λ x b q k. search (rules, tests)) in
    absurd ((none_is _ _ c.from_utf8.result c.from_utf8.ensures.cases c.ok.result c.ok.ensures.value c.in_err-ok.was).1.0 (digits_utf8 _ (sym e ∙ c.if-not-all.false)))

pub returns : goal.returns
returns c =
    let e = all_from_yields_List is_ascii_digit _ _ c.all.result c.all.ensures.ran (YieldsList-from_slice c.args.text.now cc) (λ x b q k. search (rules, tests)) in
    let s = some_is _ _ c.from_utf8.result c.from_utf8.ensures.cases c.ok.result c.ok.ensures.value c.in_ok-ok.field-0 c.in_ok-ok.was in
    c.ok-2.ensures.value ∙ read_parsed c.args.text.now (sym e ∙ c.if-not-all.false) c.parse.result (subst (λ l. ParsesUnsigned 32 10 l c.parse.result) s.0 c.parse.ensures.value.0)
