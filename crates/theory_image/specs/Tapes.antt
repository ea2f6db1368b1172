-- Words and tags hold one module at most.
use Rattle.std.specs.Prelude.{◌≡◌, List, ℕ}
use Rattle.std.proofs.Common.{sym, ap, ◌∙◌}
use Rattle.model.specs.Outcome.{laid}
use Rattle.model.specs.Module.{Module, read}
use Rattle.model.specs.Taped.{Taped}
use Rattle.theory_image.specs.Modules.{write_read}

pub taped_same : {words tags : List ℕ} {n : ℕ} {m o : Module} → Taped words tags n m → Taped words tags n o → m ≡ o
taped_same {m} {o} t u = let p : laid m ≡ laid o = sym (write_read m t.well) ∙ ap read (sym t.words_are ∙ u.words_are) ∙ write_read o u.well in cc
