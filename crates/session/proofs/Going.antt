-- The loop over the steps: the arrays hold the session that was reached, and what is left from here is the whole.
use mathlib.Core.Path.{◌≡◌, refl}
use mathlib.Core.Bool.{Bool, false}
use mathlib.Core.List.{List, [], ◌∷◌}
use Prim.Native.Nat.{ℕ, suc, ◌+◌, ◌*◌, ◌≤◌, ◌<◌}
use native.Mathlib.Omega.{arith}
use lib.ListN.{length, get_or, replicate}
use lib.Seq.{sets}
use Rattle.derive_state.specs.Sizes.{Sizes}
use Rattle.function_builder.specs.Stacks.{Stacks}
use Rattle.derive_session.specs.Valid.{session_of, ValidSession}
use Rattle.model.specs.Image.{ScratchLengths, SessionEnsures}
use Rattle.derive_session.specs.Fresh.{Nothing, unmapped, Empty, starts-new, valid_new, zeros}
use Rattle.session_steps.specs.Stepped.{saying, PerformEnsures}
use Rattle.session.specs.Sessions.{or_else, numbered}
use Rattle.session.proofs.Running.{Left, left_start, left_end, left_next}

-- between the steps
pub record Going (sources steps answers₀ output₀ : List ℕ) (count : ℕ) (answers output words tags log logtags : List ℕ) (starts maps : List (List ℕ)) (buckets special : List ℕ) (stacks : List (List ℕ)) (e : Sizes) (set : Bool) (n o first i : ℕ) : Type 0 where
  pub live : ValidSession set n o words tags log logtags starts maps buckets special e
  pub stacks_are : Stacks stacks e
  pub left : Left sources steps answers₀ output₀ i first answers output (session_of set n o words log logtags starts maps special e)
  pub below : i ≤ count
  pub all : 4 * count ≤ length steps
  pub no_more : length steps < 4 * count + 4

-- ---- the start: arrays of these lengths, whose contents do not matter
module _ (words tags log logtags : List ℕ) (starts stacks : List (List ℕ)) (words_long : length words ≡ 16384) (tape_long : length tags ≡ 16384) (P : ScratchLengths log logtags starts stacks) where
  empty-first : Empty words tags log logtags starts (replicate 16384 0) (replicate 1027 0)
  empty-first = record {
    words_long = words_long;
    tape_long = tape_long;
    log_long = P.log_long;
    tags_long = P.logtags_long;
    starts_eight = P.starts_eight;
    rows = P.starts-rows;
    marks_long = zeros.marks_long;
    special_long = zeros.special_long;
    rays-none = zeros.rays-none;
  }

  stacks_first : Stacks stacks Nothing
  stacks_first = record { four = P.stacks_four; rows = P.stacks_rows; high = omega arith; high' = omega arith }

  module _ (sources steps answers₀ output₀ : List ℕ) (count : ℕ) (maps : List (List ℕ)) (hm : maps ≡ unmapped) (special : List ℕ) (hs : special ≡ replicate 1027 0) (e : Sizes) (he : e ≡ Nothing) (all : 4 * count ≤ length steps) (more : length steps < 4 * count + 4) where
    pub going_first : Going sources steps answers₀ output₀ count answers₀ output₀ words tags log logtags starts maps (replicate 16384 0) special stacks e false 0 0 0 0
    going_first = rw (hm, hs, he) (record { live = valid_new empty-first 0 0; stacks_are = stacks_first; left = left_start sources steps answers₀ output₀ _ (starts-new empty-first 0 0); below = omega arith; all = all; no_more = more })

module _ (sources steps answers₀ output₀ : List ℕ) (count : ℕ) (answers output words tags log logtags : List ℕ) (starts maps : List (List ℕ)) (buckets special : List ℕ) (stacks : List (List ℕ)) (e : Sizes) (set : Bool) (n o first i : ℕ) (G : Going sources steps answers₀ output₀ count answers output words tags log logtags starts maps buckets special stacks e set n o first i) where
  pub going_last : count ≤ i → SessionEnsures sources steps answers₀ output₀ first answers output
  going_last h = let b = G.below in let m = G.no_more in left_end sources steps answers₀ output₀ i first answers output (session_of set n o words log logtags starts maps special e) (omega arith) G.left

  pub going_next : i < count → (k u v : ℕ) → k < 4294967296 → (output' words' tags' log' logtags' : List ℕ) (starts' maps' : List (List ℕ)) (buckets' special' : List ℕ) (stacks' : List (List ℕ)) (e' : Sizes) (set' : Bool) (n' o' first' i' : ℕ)
      → PerformEnsures (saying (get_or steps (4 * i) 0) (get_or steps (4 * i + 1) 0) (get_or steps (4 * i + 2) 0) (get_or steps (4 * i + 3) 0) sources output (session_of set n o words log logtags starts maps special e)) k u v output output' (session_of set' n' o' words' log' logtags' starts' maps' special' e')
      → ValidSession set' n' o' words' tags' log' logtags' starts' maps' buckets' special' e' → Stacks stacks' e' → first' ≡ or_else first (numbered k i) → i' ≡ suc i
      → Going sources steps answers₀ output₀ count (sets answers (3 * i) (k ∷ u ∷ v ∷ [])) output' words' tags' log' logtags' starts' maps' buckets' special' stacks' e' set' n' o' first' i'
  going_next h k u v low output' words' tags' log' logtags' starts' maps' buckets' special' stacks' e' set' n' o' first' i' d live stacks_are f hi =
      let a = G.all in
      rw (hi)
      (record {
        live = live;
        stacks_are = stacks_are;
        left = left_next sources steps answers₀ output₀ i first answers output (session_of set n o words log logtags starts maps special e) G.left (omega arith) k u v output' (session_of set' n' o' words' log' logtags' starts' maps' special' e') d low first' f;
        below = omega arith;
        all = G.all;
        no_more = G.no_more;
      })
