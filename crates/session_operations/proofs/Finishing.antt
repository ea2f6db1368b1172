-- What finishing does to a session whose state the arrays hold: it answers what the model answers, and an empty session follows; or it is refused, and the
-- session is as it was.
use mathlib.Core.Bool.{false≢true}
use Rattle.std.proofs.Common.{◌≡◌, ℕ, zero, suc, ◌<◌, Bool, true, false, List, [], length, get_or, set, sym, refl, ap, ◌∙◌, arith, length-set, get_or-set_other, get_or-set_same}
use mathlib.Core.Option.{none, some}
use Rattle.model.specs.Tables.{six}
use Rattle.model.specs.Imports.{Derived, emptied}
use Rattle.model.specs.Finish.{gathered, finished}
use Rattle.model.specs.Session.{Session, Answer, answered, refused, finish}
use Rattle.derive_finish.specs.Told.{told, Held, Ended}
use Rattle.derive_finish.specs.Theorems.{finish-told}
use Rattle.derive_state.specs.Source.{mod_of}
use Rattle.derive_state.specs.Held.{st_of}
use Rattle.derive_state.specs.Sizes.{Sizes}
use Rattle.derive_session.specs.Valid.{session_of, ValidSession}
use Rattle.session_operations.specs.Operations.{FinishEnsures}
use Rattle.derive_session.specs.Fresh.{Nothing, unmapped, Empty, starts-new, valid_new}

-- maps do not matter
finish_cleared : (room : ℕ) (s : Derived) → finish room (record { source = none; state = emptied (six (λ t. [])) s }) ≡ finish room (record { source = none; state = s })
unfolding finish finished gathered emptied
finish_cleared room s = refl

-- nothing is written where it is refused
pub none_written : (a : Answer (List ℕ)) (output₀ : List ℕ) (k b : ℕ) (output : List ℕ) → (k, b, output) ≡ told a output₀ → (k ≡ 0 → ⊥) → b ≡ 0
unfolding told
none_written (answered ws s) output₀ k b output h ne = absurd (ne (ap (λ (p : ℕ × ℕ × List ℕ). p.0) h))
none_written (refused j) output₀ k b output h ne = ap (λ (p : ℕ × ℕ × List ℕ). p.1) h

-- the special types of an empty session
abbrev pub unset : List ℕ → List ℕ
unset special = set (set (set special 0 0) 1 0) 2 0

module _ (special : List ℕ) (long : length special ≡ 1027) where
  pub unset_long : length (unset special) ≡ 1027
  unset_long = length-set (set (set special 0 0) 1 0) 2 0 ∙ length-set (set special 0 0) 1 0 ∙ length-set special 0 0 ∙ long

  unset_third : get_or (unset special) 2 0 ≡ 0
  unset_third = let a = length-set special 0 0 in let b = length-set (set special 0 0) 1 0 in get_or-set_same (set (set special 0 0) 1 0) 2 0 0 (omega arith)

  unset_second : get_or (unset special) 1 0 ≡ 0
  unset_second = let a = length-set special 0 0 in get_or-set_other (set (set special 0 0) 1 0) 2 1 0 0 (λ p. omega arith) ∙ get_or-set_same (set special 0 0) 1 0 0 (omega arith)

  unset_first : get_or (unset special) 0 0 ≡ 0
  unset_first = get_or-set_other (set (set special 0 0) 1 0) 2 0 0 0 (λ p. omega arith) ∙ get_or-set_other (set special 0 0) 1 0 0 0 (λ p. omega arith) ∙ get_or-set_same special 0 0 0 (omega arith)

  pub unset_all : (i : ℕ) → i < 3 → get_or (unset special) i 0 ≡ 0
  unset_all zero h = unset_first
  unset_all (suc zero) h = unset_second
  unset_all (suc (suc zero)) h = unset_third
  unset_all (suc (suc (suc i))) h = absurd (omega arith)

module _ (set : Bool) (n o : ℕ) (words tags log logtags : List ℕ) (starts maps : List (List ℕ)) (buckets special : List ℕ) (e : Sizes) (L : ValidSession set n o words tags log logtags starts maps buckets special e) where
  abbrev before : Session
  before = session_of set n o words log logtags starts maps special e

  pub held-live : Held log logtags starts e
  held-live = record { maps = maps; buckets = buckets; kept = L.kept }

  module _ (output₀ : List ℕ) (k b : ℕ) (output : List ℕ) (d : Ended log logtags starts special e output₀ k b output) where
    tells : (k, b, output) ≡ told (finish (length output₀) before) output₀
    unfolding session_of
    tells = go set
      where
        go : (set : Bool) → (k, b, output) ≡ told (finish (length output₀) (session_of set n o words log logtags starts maps special e)) output₀
        go true = finish-told d L.no_entries words maps (some (record { image = mod_of words n; offset = o }))
        go false = finish-told d L.no_entries words maps none ∙ ap (λ (a : Answer (List ℕ)). told a output₀) (sym (finish_cleared (length output₀) (st_of words log logtags starts maps special e)))

    -- 21, 7
    pub finish_refused : (k ≡ 0 → ⊥) → FinishEnsures (finish (length output₀) before) before k 0 output₀ output before × ValidSession set n o words tags log logtags starts maps buckets special e
    finish_refused ne =
        let z = none_written (finish (length output₀) before) output₀ k b output tells ne in
        (record { is = ap (λ (y : ℕ). (k, y, output)) (sym z) ∙ tells; done = λ q. absurd (ne q); stays = λ q. refl }, L)

    -- it starts afresh
    module _ (ok : k ≡ 0) (maps' : List (List ℕ)) (hm : maps' ≡ unmapped) (r : Sizes) (hr : r ≡ Nothing) where
      empty : Empty words tags log logtags starts buckets (unset special)
      empty = record {
        words_long = L.words_long;
        tape_long = L.tape_long;
        log_long = L.kept.log_long;
        tags_long = L.kept.tags_long;
        starts_eight = L.kept.starts_eight;
        rows = L.kept.rows;
        marks_long = L.kept.marks_long;
        special_long = unset_long special L.specials.special_long;
        rays-none = unset_all special L.specials.special_long;
      }

      pub finish_done : FinishEnsures (finish (length output₀) before) before 0 b output₀ output (session_of false n o words log logtags starts maps' (unset special) r) × ValidSession false n o words tags log logtags starts maps' buckets (unset special) r
      finish_done = rw (hm, hr) (record { is = ap (λ (y : ℕ). (y, b, output)) (sym ok) ∙ tells; done = λ q. starts-new empty n o; stays = λ q. absurd (omega arith) }, valid_new empty n o)

-- ---- without a source its words and its offset do not matter
module _ {n o : ℕ} {words tags log logtags : List ℕ} {starts maps : List (List ℕ)} {buckets special : List ℕ} {e : Sizes} where
  pub unset_valid : ValidSession false n o words tags log logtags starts maps buckets special e → ValidSession false 0 0 words tags log logtags starts maps buckets special e
  unfolding session_of
  unset_valid L = record {
    reached = L.reached;
    kept = L.kept;
    specials = L.specials;
    words_long = L.words_long;
    tape_long = L.tape_long;
    taped = λ q. absurd (false≢true q);
    passes = λ q. absurd (false≢true q);
    no_entries = L.no_entries;
    lowest = L.lowest;
    going = L.going;
  }
