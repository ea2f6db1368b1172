-- What the arrays hold, and what is finished.
use Rattle.std.specs.Prelude.{◌≡◌, List, [], ℕ, ◌*◌, ◌≤◌, ◌<◌, length, get_or, drop, Result, Ok, Err}
use Rattle.std.proofs.lemmas.List.Edits.{sets}
use Rattle.model.specs.Outcome.{Cells}
use Rattle.base_refusals.specs.declared.Refusal.{Refusal}
use Rattle.base_refusals.specs.declared.Refusal.TheVariants.{Full, ShortOutput}
use Rattle.base_words.specs.Words.{bytes_of}
use Rattle.model.specs.Finish.{names_in}
use Rattle.derive_state.specs.Held.{rec_at}
use Rattle.derive_state.specs.declared.Full.{Full as TooLarge}
use Rattle.derive_sections.specs.Flat.{firsts_t, ordered, total, finished_words}
use Rattle.derive_sections.specs.Rows.{Rows}

-- what is derived: every name that is met has a record, and names' records have no names
pub record ValidTables (log logtags : List ℕ) (starts : List (List ℕ)) (counts : List ℕ) : Type 0 where
  pub rows : Rows (get_or counts 0 0) log logtags starts counts
  pub plain : (k : ℕ) → k < get_or counts 0 0 → names_in (rec_at log logtags (get_or (get_or starts 0 []) k 0)) ≡ []

-- ---- finished, or too long: then nothing is written
pub record Finishes (rss : List (List Cells)) (pairs : ℕ) (special out₀ : List ℕ) (r : Result ℕ TooLarge) (out : List ℕ) : Type 0 where
  pub over : (e : TooLarge) → r ≡ Err e → (16384 < total (ordered rss) special) × (out ≡ out₀)
  pub size : (k : ℕ) → r ≡ Ok k → k ≡ total (ordered rss) special
  pub fits : (k : ℕ) → r ≡ Ok k → k ≤ 16384
  pub names : (k : ℕ) → r ≡ Ok k → length (firsts_t (drop 1 rss) []) ≤ 512
  pub is : (k : ℕ) → r ≡ Ok k → out ≡ sets out₀ 0 (finished_words rss pairs special)

-- refused: too long, or a table past its limit (the others have rows of 512)
pub data Large (rss : List (List Cells)) (special : List ℕ) : Type 0 where
  long : 16384 < total (ordered rss) special → Large rss special
  functions : 256 < length (get_or rss 6 []) → Large rss special
  entries : 16 < length (get_or rss 7 []) → Large rss special

-- an image that is no larger than one may be
pub record Fits (rss : List (List Cells)) (special : List ℕ) : Type 0 where
  pub short : total (ordered rss) special ≤ 16384
  pub names : length (firsts_t (drop 1 rss) []) ≤ 512
  pub functions : length (get_or rss 6 []) ≤ 256
  pub entries : length (get_or rss 7 []) ≤ 16

-- the bytes written or the refusal, and what the output is then
pub data Stored (rss : List (List Cells)) (pairs : ℕ) (special bytes₀ : List ℕ) : Result ℕ Refusal → List ℕ → Type 0 where
  large : Large rss special → Stored rss pairs special bytes₀ (Err Full) bytes₀
  short : Fits rss special → length bytes₀ < 4 * total (ordered rss) special → Stored rss pairs special bytes₀ (Err ShortOutput) bytes₀
  done : Fits rss special → 4 * total (ordered rss) special ≤ length bytes₀ → Stored rss pairs special bytes₀ (Ok (4 * total (ordered rss) special)) (sets bytes₀ 0 (bytes_of (finished_words rss pairs special)))
