-- What finishing answers and leaves: the refusal, the bytes written, and the output afterwards. Bytes past what is written stay, and a refusal leaves them all.
use Rattle.std.specs.Prelude.{◌≡◌, List, ℕ, ◌*◌, length, Result, Ok, Err}
use Rattle.std.proofs.lemmas.List.Edits.{sets}
use Rattle.base_words.specs.Words.{bytes_of}
use Rattle.model.specs.Finish.{finished}
use Rattle.model.specs.Session.{Answer, answered, refused, write_if_fits}
use Rattle.base_refusals.specs.declared.Refusal.{Refusal}
use Rattle.base_refusals.specs.Numbers.{number_of}
use Rattle.derive_state.specs.Held.{entries_of, st_of, ValidArrays}
use Rattle.derive_state.specs.Sizes.{Sizes}

-- the number of the refusal, 0 for none
abbrev pub refusal_of : {A : Type 0} → Result A Refusal → ℕ
refusal_of (Ok a) = 0
refusal_of (Err e) = number_of e

-- the count of bytes written, 0 where it is refused
abbrev pub bytes_in : Result ℕ Refusal → ℕ
bytes_in (Ok bytes) = bytes
bytes_in (Err e) = 0

-- the same of the model's answer, with the output afterwards
unfoldable pub told : Answer (List ℕ) → List ℕ → ℕ × ℕ × List ℕ
told (answered ws s) output = (0, 4 * length ws, sets output 0 (bytes_of ws))
told (refused k) output = (k, 0, output)

-- arrays that hold a good state, with some maps and buckets
pub record Held (log logtags : List ℕ) (starts : List (List ℕ)) (e : Sizes) : Type 0 where
  pub maps : List (List ℕ)
  pub buckets : List ℕ
  pub kept : ValidArrays log logtags starts maps buckets e

-- of the state that they hold, whatever its source and maps, and the entry points that they hold, the model's ending is answered
pub record Ended (log logtags : List ℕ) (starts : List (List ℕ)) (special : List ℕ) (e : Sizes) (output₀ : List ℕ) (refusal bytes : ℕ) (output : List ℕ) : Type 0 where
  pub same : (words : List ℕ) (maps : List (List ℕ)) → (refusal, bytes, output) ≡ told (write_if_fits (finished (st_of words log logtags starts maps special e) (entries_of log logtags starts e.counts)) (length output₀)) output₀
