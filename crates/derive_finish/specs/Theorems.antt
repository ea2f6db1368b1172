-- WHAT IS ANSWERED is what the model's operations answer: finish, where the arrays hold no entry points, and finishing with entry points, where they hold the state that these leave and the entry points that are made; and it is what a step of a session answers.
use Rattle.std.specs.Prelude.{◌≡◌, refl, Bool, ℕ, ◌<◌, length, get_or, replicate}
use Rattle.std.proofs.Math.Path.{ap, ap₂}
use Rattle.std.proofs.Common.{◌∙◌}
use Rattle.std.proofs.Math.Bool.{true, false}
use mathlib.Core.List.{List, []}
use Rattle.std.proofs.Math.Option.{Option, some}
use Rattle.std.proofs.lemmas.List.{length-replicate}
use Rattle.std.proofs.lemmas.List.Edits.{sets}
use Rattle.base_words.specs.Words.{bytes_of}
use Rattle.model.specs.Tree.{Entry}
use Rattle.model.specs.Imports.{Derived}
use Rattle.model.specs.Bodies.{enter_all, entries_made}
use Rattle.model.specs.Finish.{finished}
use Rattle.model.specs.Refusals.{UNKNOWN_RING}
use Rattle.model.specs.Session.{Source, Session, Answer, answered, refused, with_source, meets_ring, write_if_fits, finish, callees_of, with_entries, finish_with_entry_points}
use Rattle.model.specs.Steps.{writes}
use Rattle.derive_state.specs.Held.{entries_of, st_of}
use Rattle.derive_state.specs.Sizes.{Sizes}
use Rattle.derive_state.proofs.Fresh.{kept-nothing}
use Rattle.derive_state.proofs.Laws.{none-held}
use Rattle.derive_finish.specs.Told.{told, Held, Ended}

module _ {log logtags : List ℕ} {starts : List (List ℕ)} {special : List ℕ} {e : Sizes} {output₀ : List ℕ} {refusal bytes : ℕ} {output : List ℕ} (d : Ended log logtags starts special e output₀ refusal bytes output) where
  -- finish
  pub finish-told : get_or e.counts 7 0 ≡ 0 → (words : List ℕ) (maps : List (List ℕ)) (x : Option Source) → (refusal, bytes, output) ≡ told (finish (length output₀) (record { source = x; state = st_of words log logtags starts maps special e })) output₀
  unfolding finish
  finish-told z words maps x = d.same words maps ∙ ap (λ (es : List Entry). told (write_if_fits (finished (st_of words log logtags starts maps special e) es) (length output₀)) output₀) (none-held log logtags starts e.counts z).0

  -- finish_with_entry_points
  pub finish_with_told : (words : List ℕ) (maps : List (List ℕ)) (x : Source) (s : Derived) → meets_ring (callees_of x.image.entries) x.image s ≡ false
      → st_of words log logtags starts maps special e ≡ enter_all x.image.entries x.offset x.image s → entries_of log logtags starts e.counts ≡ entries_made x.image.entries x.offset x.image s
      → (refusal, bytes, output) ≡ told (finish_with_entry_points (length output₀) (record { source = some x; state = s })) output₀
  unfolding finish_with_entry_points with_source with_entries
  finish_with_told words maps x s q p r =
      d.same words maps
      ∙ ap₂ (λ (y : Derived) (es : List Entry). told (write_if_fits (finished y es) (length output₀)) output₀) p r
      ∙ ap (λ (a : Answer (List ℕ)). told a output₀) (no_ring (meets_ring (callees_of x.image.entries) x.image s) q (write_if_fits (with_entries x s) (length output₀)))
    where
      no_ring : (b : Bool) → b ≡ false → (a : Answer (List ℕ)) → a ≡ elim b [ true ↦ refused UNKNOWN_RING | false ↦ a ]
      no_ring b e a = rw e

-- as a step of a session answers it, with an output that starts at its first byte
pub told_writes : (s : Session) (a : Answer (List ℕ)) (output : List ℕ) → told a output ≡ ((writes s 0 a).refusal, (writes s 0 a).first, sets output (writes s 0 a).at (bytes_of (writes s 0 a).written))
unfolding told writes bytes_of
told_writes s (answered ws r) output = refl
told_writes s (refused k) output = refl

-- ---- arrays that meet what finish requires: those of an empty session
pub held-nothing : (log logtags : List ℕ) (starts : List (List ℕ)) → length log ≡ 16384 → length logtags ≡ 16384 → length starts ≡ 8 → ((t : ℕ) → t < 8 → length (get_or starts t []) ≡ 512)
    → Held log logtags starts (record { full = false; loglen = 0; counts = replicate 8 0; pairs = 0; exprtop = 0; bodytop = 0; made = 0 })
held-nothing log logtags starts hl ht hs hr = record { maps = replicate 6 (replicate 512 0); buckets = replicate 16384 0; kept = kept-nothing log logtags starts (replicate 16384 0) hl ht (length-replicate {A = ℕ} 16384 0) hs hr }
