use lib.ListN.{get_or}
use Rattle.derive_image.proofs.finish_words.Given as goal

abbrev pub ghost-appearing : goal.ghost-appearing
ghost-appearing a = get_or a.derived.now.sizes.counts 0 0
