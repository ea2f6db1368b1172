use mathlib.Core.Path.{refl}
use Rattle.std.proofs.lemmas.Result.{err_from_is_err_and}
use Rattle.redirect_words.proofs.Storing.{store_asks, stays_stored, turned_stored}
use Rattle.redirect_words.proofs.redirect_loaded.Goals as goal

pub returns-in_err-both : goal.returns-in_err-both
returns-in_err-both c =
    let p = err_from_is_err_and c.from_residual.result c.from_residual.ensures.1 in
    rw (p.1, p.2) (stays_stored c.args.image.now c.args.words.now c.args.tags.now c.args.n c.args.request c.requires.tape c.requires.image_len _ c.redirect_words.new.words c.in_err-both.ensures _ refl)

pub store-requires : goal.store-requires
store-requires c = store_asks c.args.image.now c.args.words.now c.args.tags.now c.args.n c.args.request c.requires.tape c.requires.image_len _ c.redirect_words.new.words c.in_ok-both.ensures

pub returns : goal.returns
returns c = turned_stored c.args.image.now c.args.words.now c.args.tags.now c.args.n c.args.request c.requires.tape c.requires.image_len _ c.redirect_words.new.words c.in_ok-both.ensures _ refl c.store.new.bytes c.store.ensures
