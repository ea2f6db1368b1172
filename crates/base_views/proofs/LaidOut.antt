-- An image that is laid out by the equation of its type is laid out as `Tape` says, and the other way round.
use Rattle.std.specs.Prelude.{◌≡◌, refl, List, map, take, ℕ, ◌≤◌, Option, Some, None}
use Rattle.std.proofs.Math.Path.{sym, ap}
use Rattle.std.proofs.Common.{◌∙◌}
use Rattle.std.proofs.lemmas.Option.{none-some, same_Some}
use Rattle.model.specs.Outcome.{Laid, laid, bad, strange, class}
use Rattle.model.specs.Module.{Module, read, write, flat_module}
use Rattle.model.specs.Between.{Long}
use Rattle.model.specs.Taped.{Taped, Tape}
use Rattle.theory_image.specs.Modules.{read_well, write_read}
use Rattle.base_views.specs.LaidOut.{written, LaidOut}
use Rattle.base_views.specs.declared.Image.{Image}

module _ {words tags : List ℕ} {n : ℕ} where
  -- the module that is read
  from-read : Long words tags → n ≤ 16384 → (r : Laid Module) → read (take n words) ≡ r → written r ≡ Some (take n words, take n tags) → Tape words tags n
  unfolding written
  from-read long small (laid m) e same =
      let p = same_Some _ _ same in
      record { holds = m; taped = record { small = small; words_long = long.words_long; tags_long = long.tags_long; words_are = sym (ap (λ q. q.0) p); tags_are = sym (ap (λ q. q.1) p); well = read_well (take n words) m e } }
  from-read long small bad e same = absurd (none-some _ same)
  from-read long small strange e same = absurd (none-some _ same)

  pub tape_of : Long words tags → LaidOut words tags n → Tape words tags n
  tape_of long is = from-read long is.small (read (take n words)) refl is.same

  pub laid_out : Tape words tags n → LaidOut words tags n
  unfolding written
  laid_out tape = record { small = tape.taped.small; same = same }
    where
      same : written (read (take n words)) ≡ Some (take n words, take n tags)
      same = rw (tape.taped.words_are, write_read tape.holds tape.taped.well, tape.taped.tags_are) refl

-- what an image's type says
pub tape : (i : Image) → Tape i.words.now i.tags.now i.n
tape i = tape_of i.long i.laid_out
