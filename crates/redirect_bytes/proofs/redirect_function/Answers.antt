use Rattle.std.proofs.lemmas.Result.{err_from_is_err_and}
use Rattle.redirect_bytes.proofs.Images.{intake_refuses, loaded_asks, loaded_tells}
use Rattle.redirect_bytes.proofs.redirect_function.Goals as goal

pub returns-in_err-n : goal.returns-in_err-n
returns-in_err-n c =
    let p = err_from_is_err_and c.from_residual.result c.from_residual.ensures.1 in
    rw (p.1, p.2) (intake_refuses c.args.image.now c.args.request _ _ _ c.in_err-n.ensures)

pub redirect_loaded-requires : goal.redirect_loaded-requires
redirect_loaded-requires c = let p = loaded_asks c.args.image.now c.args.request _ _ _ c.in_ok-n.ensures in record { tape = p.0; image_len = p.1 }

pub returns : goal.returns
returns c = loaded_tells c.args.image.now c.args.request _ _ _ c.in_ok-n.ensures _ _ c.redirect_loaded.ensures
