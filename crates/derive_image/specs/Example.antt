-- A small module's words from its cells, and a state that meets what finish requires.
use Rattle.std.specs.Prelude.{◌≡◌, refl, List, [], ◌∷◌, ℕ, zero, suc, ◌<◌, ◌≤◌, get_or, replicate}
use Rattle.std.proofs.Common.{arith}
use Rattle.std.proofs.lemmas.List.{length-replicate, get_or-replicate}
use Rattle.model.specs.Outcome.{Cells}
use Rattle.model.specs.Table.{NAME}
use Rattle.model.specs.Between.{between, beside}
use Rattle.model.specs.Finish.{names_in, firsts, keep_n, index_n, renumber}
use Rattle.derive_sections.specs.Flat.{finished_words, image_words, total, firsts_t, firsts_r, chosen, new_name, heads, tables, sizes, table_size, lengths, table_words, offsets, joined}
use Rattle.derive_state.specs.Held.{rec_at}
use Rattle.derive_sections.specs.Rows.{Rec, Row}
use Rattle.derive_image.specs.Held.{ValidTables}

-- of two names the second appears
cells : List (List Cells)
cells = (((2, 10) ∷ []) ∷ ((2, 11) ∷ []) ∷ []) ∷ (((83, 2) ∷ (0, 7) ∷ []) ∷ []) ∷ [] ∷ [] ∷ [] ∷ [] ∷ [] ∷ [] ∷ []

words : finished_words cells 0 (0 ∷ 0 ∷ 0 ∷ [])
    ≡ 1 ∷ 28 ∷ 1 ∷ 20 ∷ 1 ∷ 22 ∷ 0 ∷ 25 ∷ 0 ∷ 25 ∷ 0 ∷ 25 ∷ 0 ∷ 25 ∷ 0 ∷ 25 ∷ 0 ∷ 25 ∷ 0 ∷ 25 ∷ 1 ∷ 11 ∷ 1 ∷ 1 ∷ 7 ∷ 0 ∷ 0 ∷ 0 ∷ []
unfolding finished_words cells image_words total firsts_t firsts_r firsts keep_n names_in chosen new_name renumber index_n heads tables sizes table_size lengths table_words offsets joined
words = refl

-- ---- a state: one name, and one type of that name
abbrev log : List ℕ
log = 1 ∷ 11 ∷ 2 ∷ 1 ∷ 7 ∷ replicate 16379 0

abbrev logtags : List ℕ
logtags = 0 ∷ 2 ∷ 0 ∷ 83 ∷ 0 ∷ replicate 16379 0

abbrev starts : List (List ℕ)
starts = (0 ∷ replicate 511 0) ∷ (2 ∷ replicate 511 0) ∷ replicate 6 (replicate 512 0)

abbrev counts : List ℕ
counts = 1 ∷ 1 ∷ replicate 6 0

first : Rec 1 log logtags 0
first = record { log_long = omega (arith, length-replicate {A = ℕ} 16379 0); tags_long = omega (arith, length-replicate {A = ℕ} 16379 0); within = omega arith; low = go }
  where
    go : (i : ℕ) → 0 < i → i < 2 → get_or logtags i 0 ≡ NAME → get_or log i 0 ≤ 1
    go zero a b e = absurd (omega arith)
    go (suc zero) a b e = absurd (omega arith)
    go (suc (suc i)) a b e = absurd (omega arith)

second : Rec 1 log logtags 2
second = record { log_long = omega (arith, length-replicate {A = ℕ} 16379 0); tags_long = omega (arith, length-replicate {A = ℕ} 16379 0); within = omega arith; low = go }
  where
    go : (i : ℕ) → 2 < i → i < 5 → get_or logtags i 0 ≡ NAME → get_or log i 0 ≤ 1
    go zero a b e = absurd (omega arith)
    go (suc zero) a b e = absurd (omega arith)
    go (suc (suc zero)) a b e = absurd (omega arith)
    go (suc (suc (suc zero))) a b e = omega arith
    go (suc (suc (suc (suc zero)))) a b e = absurd (omega arith)
    go (suc (suc (suc (suc (suc i))))) a b e = absurd (omega arith)

one : (s : ℕ) → Rec 1 log logtags s → Row 1 log logtags (s ∷ replicate 511 0) 1
one s r = record { row_long = omega (arith, length-replicate {A = ℕ} 511 0); few = omega arith; recs = go }
  where
    go : (k : ℕ) → k < 1 → Rec 1 log logtags (get_or (s ∷ replicate 511 0) k 0)
    go zero h = r
    go (suc k) h = absurd (omega arith)

none : Row 1 log logtags (replicate 512 0) 0
none = record { row_long = length-replicate {A = ℕ} 512 0; few = omega arith; recs = λ k h. absurd (omega arith) }

rows : (t : ℕ) → t < 8 → Row 1 log logtags (get_or starts t []) (get_or counts t 0)
rows zero h = one 0 first
rows (suc zero) h = one 2 second
rows (suc (suc t)) h = rw (get_or-replicate 6 t (replicate {A = ℕ} 512 0) [] (omega arith), get_or-replicate {A = ℕ} 6 t 0 0 (omega arith)) none

pub held : ValidTables log logtags starts counts
unfolding rec_at names_in between beside
held = record {
  rows = record { eight = refl; eight' = refl; log_long = first.log_long; tags_long = first.tags_long; rows = rows };
  plain = go;
}
  where
    go : (k : ℕ) → k < 1 → names_in (rec_at log logtags (get_or (0 ∷ replicate 511 0) k 0)) ≡ []
    go zero h = refl
    go (suc k) h = absurd (omega arith)
