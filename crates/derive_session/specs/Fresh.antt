-- THE START: arrays of these lengths with nothing in them hold a new session, and meet what every operation requires; zeros are such arrays.
use Rattle.std.specs.Prelude.{◌≡◌, refl, false, List, [], ℕ, zero, suc, ◌<◌, length, get_or, replicate}
use Rattle.std.proofs.Common.{sym, ◌∙◌, arith}
use Rattle.std.proofs.Math.Path.{ap, subst}
use Rattle.std.proofs.lemmas.Bool.{false≢true}
use Rattle.std.proofs.Math.Option.{none}
use Rattle.std.proofs.lemmas.List.{length-replicate}
use Rattle.model.specs.Carry.{each_none}
use Rattle.model.specs.Tables.{six}
use Rattle.model.specs.Imports.{Derived, emptied, fresh}
use Rattle.model.specs.Session.{new}
use Rattle.model.specs.Image.{ScratchLengths}
use Rattle.theory_sessions.specs.Operating.{run}
use Rattle.derive_limits.specs.Reached.{Reached}
use Rattle.derive_limits.proofs.Reached.{reached}
use Rattle.derive_state.specs.Marks.{MARKS}
use Rattle.derive_state.specs.Held.{row}
use Rattle.derive_state.specs.Sizes.{Sizes}
use Rattle.derive_state.proofs.Fresh.{rows_at, kept-nothing, st_nothing}
use Rattle.derive_session.specs.Valid.{session_of, ValidSession}

-- ---- the start
abbrev pub Nothing : Sizes
Nothing = record { full = false; loglen = 0; counts = replicate 8 0; pairs = 0; exprtop = 0; bodytop = 0; made = 0 }

abbrev pub unmapped : List (List ℕ)
unmapped = replicate 6 (replicate 512 0)

-- arrays of a session, by their lengths, and no special types
pub record Empty (words tags log logtags : List ℕ) (starts : List (List ℕ)) (buckets special : List ℕ) : Type 0 where
  pub words_long : length words ≡ 16384
  pub tape_long : length tags ≡ 16384
  pub log_long : length log ≡ 16384
  pub tags_long : length logtags ≡ 16384
  pub starts_eight : length starts ≡ 8
  pub rows : (t : ℕ) → t < 8 → length (row starts t) ≡ 512
  pub marks_long : length buckets ≡ MARKS
  pub special_long : length special ≡ 1027
  pub rays-none : (i : ℕ) → i < 3 → get_or special i 0 ≡ 0

module _ {words tags log logtags : List ℕ} {starts : List (List ℕ)} {buckets special : List ℕ} (h : Empty words tags log logtags starts buckets special) (n o : ℕ) where
  pub starts-new : session_of false n o words log logtags starts unmapped special Nothing ≡ new
  unfolding session_of new emptied fresh
  starts-new =
      ap (λ (s : Derived). record { source = none; state = emptied (six (λ t. [])) s })
      (st_nothing log logtags starts buckets h.log_long h.tags_long h.marks_long h.starts_eight h.rows words special (h.rays-none 0 (omega arith)) (h.rays-none 1 (omega arith)) (h.rays-none 2 (omega arith)))

  pub valid_new : ValidSession false n o words tags log logtags starts unmapped buckets special Nothing
  unfolding run
  valid_new = record {
    reached = subst Reached (sym starts-new) (reached each_none);
    kept = kept-nothing log logtags starts buckets h.log_long h.tags_long h.marks_long h.starts_eight h.rows;
    specials = record { special_long = h.special_long; rays_in = λ i l. let z = h.rays-none i l in omega arith; pairs_in_lem = λ i l. absurd (omega arith) };
    words_long = h.words_long;
    tape_long = h.tape_long;
    taped = λ q. absurd (false≢true q);
    passes = λ q. absurd (false≢true q);
    no_entries = refl;
    lowest = (refl, refl);
    going = refl;
  }

-- such arrays: zeros
pub zeros : Empty (replicate 16384 0) (replicate 16384 0) (replicate 16384 0) (replicate 16384 0) (replicate 8 (replicate 512 0)) (replicate 16384 0) (replicate 1027 0)
zeros = record {
  words_long = length-replicate {A = ℕ} 16384 0;
  tape_long = length-replicate {A = ℕ} 16384 0;
  log_long = length-replicate {A = ℕ} 16384 0;
  tags_long = length-replicate {A = ℕ} 16384 0;
  starts_eight = refl;
  rows = λ t l. ap length (rows_at (replicate 512 0) 8 t l) ∙ length-replicate {A = ℕ} 512 0;
  marks_long = length-replicate {A = ℕ} 16384 0;
  special_long = length-replicate {A = ℕ} 1027 0;
  rays-none = rays;
}
  where
    rays : (i : ℕ) → i < 3 → ◌≡◌ {A = ℕ} (get_or (replicate 1027 0) i 0) 0
    rays zero l = refl
    rays (suc zero) l = refl
    rays (suc (suc zero)) l = refl
    rays (suc (suc (suc i))) l = absurd (omega arith)

-- a caller may provide them
pub zeros_spaces : ScratchLengths (replicate 16384 0) (replicate 16384 0) (replicate 8 (replicate 512 0)) (replicate 4 (replicate 16384 0))
zeros_spaces = record {
  log_long = zeros.log_long;
  logtags_long = zeros.tags_long;
  starts_eight = zeros.starts_eight;
  starts-rows = zeros.rows;
  stacks_four = refl;
  stacks_rows = λ t l. ap length (rows_at (replicate 16384 0) 4 t l) ∙ length-replicate {A = ℕ} 16384 0;
}
