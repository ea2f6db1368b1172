-- What the types of a source say of it: it is laid out and passed tests 3 and 4. And what makes such a source.
use Rattle.std.specs.Prelude.{◌≡◌, List, ℕ}
use Rattle.std.proofs.Math.Path.{sym, ap}
use Rattle.std.proofs.Common.{subst, ◌∙◌}
use Rattle.model.specs.Module.{read}
use Rattle.model.specs.Taped.{Taped, Tape}
use Rattle.theory_image.specs.Modules.{write_read}
use Rattle.base_views.specs.declared.Image.{Image}
use Rattle.base_views.proofs.LaidOut.{tape}
use Rattle.derive_state.specs.Source.{held_by, mod_of, Source}
use Rattle.derive_state.specs.declared.ShaderSource.{ShaderSource}
use Rattle.derive_state.specs.declared.NamedSource.{NamedSource}

-- the module that an image holds is the one that is read
module _ {words tags : List ℕ} {n : ℕ} (t : Tape words tags n) where
  held_is : t.holds ≡ mod_of words n
  unfolding mod_of held_by
  held_is = sym (ap held_by (ap read t.taped.words_are ∙ write_read t.holds t.taped.well))

  pub taped_mod : Taped words tags n (mod_of words n)
  taped_mod = subst (λ m. Taped words tags n m) held_is t.taped

pub taped : (i : Image) → Taped i.words.now i.tags.now i.n (mod_of i.words.now i.n)
taped i = taped_mod (tape i)

pub source_of : (s : ShaderSource) → Source s.image.words.now s.image.tags.now s.image.n
source_of s = record { taped = taped s.image; three = s.test_3; four = s.test_4 }

pub named_source_of : (s : NamedSource) → Source s.image.words.now s.image.tags.now s.image.n
named_source_of s = record { taped = taped s.image; three = s.test_3; four = s.test_4 }
