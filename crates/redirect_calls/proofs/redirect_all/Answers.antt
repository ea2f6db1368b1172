use Rattle.redirect_calls.proofs.Turning.{all-turns, all_asks}
use Rattle.redirect_calls.proofs.redirect_all.Goals as goal

pub redirect_fn-requires : goal.redirect_fn-requires
redirect_fn-requires c = all_asks c.args.words.now c.redirect_functions.new.words c.args.tags.now c.args.n c.args.redirection c.requires c.redirect_functions.ensures c.offset-at.result c.offset-end.result c.offset-at.ensures.0 c.offset-end.ensures.0

pub returns : goal.returns
returns c = all-turns c.args.words.now c.redirect_functions.new.words c.args.tags.now c.args.n c.args.redirection c.requires c.redirect_functions.ensures c.offset-at.result c.offset-end.result c.offset-at.ensures.0 c.offset-end.ensures.0 c.redirect_fn.new.words c.redirect_fn.ensures
