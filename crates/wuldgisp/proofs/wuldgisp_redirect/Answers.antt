-- `wuldgisp_redirect` meets its contract: the answer of `redirect_function`, as one number.
use Rattle.redirect_bytes.proofs.Images.{number_asks, packs}
use borrow.Author.Rules.{rules}
use Rattle.wuldgisp.proofs.wuldgisp_redirect.Goals as goal

pub functions_answer-requires : goal.functions_answer-requires
functions_answer-requires c = search (number_asks, rules)

pub returns : goal.returns
returns c = packs _ _ _ _ c.redirect_function.ensures _ c.functions_answer.ensures
