-- Writing an expression on the top of the stack: words and classes go to their rows, and the other rows stay.
use mathlib.Core.Path.{◌≡◌, refl, ◌∙◌}
use mathlib.Core.Bool.{Bool, false}
use mathlib.Core.List.{List, []}
use Prim.Native.Nat.{ℕ, ◌+◌, ◌-◌, ◌≤◌, ◌<◌}
use native.Mathlib.Omega.{arith}
use lib.ListN.{length, get_or, set, length-set}
use lib.Seq.{get_or-set_same}
use Rattle.model.specs.References.{Place, target, through, first_word, undefined_at, moved, shift}
use Rattle.derive_state.specs.Held.{row, put, carried_by}
use Rattle.derive_state.specs.Sizes.{Sizes}
use Rattle.derive_state.proofs.Passes.{Writing, write-begin, write_done, write-next}
use Rattle.derive_state.proofs.State.{row_other}
use Rattle.function_references.specs.Fits.{FitN, Legible}
use Rattle.function_builder.specs.Stacks.{Stacks}
use Rattle.function_builder.specs.Makes.{Wrote}

module _ (words tags : List ℕ) (went : Place → ℕ → ℕ) (at end o : ℕ) (stacks₀ : List (List ℕ)) (e : Sizes) where
  pub record Laying (stacks : List (List ℕ)) (i p : ℕ) (u : Bool) : Type 0 where
    pub four : length stacks ≡ 4
    pub writing : Writing (FitN words 1024) words tags went at end e.exprtop o (row stacks₀ 0) (row stacks₀ 1) (row stacks 0) (row stacks 1) i p u
    pub seats_same : row stacks 2 ≡ row stacks₀ 2
    pub body_same : row stacks 3 ≡ row stacks₀ 3

module _ {words tags : List ℕ} {went : Place → ℕ → ℕ} {at end o : ℕ} {stacks₀ : List (List ℕ)} {e : Sizes} (L : Legible words tags 1024 at end) (S : Stacks stacks₀ e) (room : e.exprtop + (end - at) ≤ 16384) where
  pub lay_begin : Laying words tags went at end o stacks₀ e stacks₀ at e.exprtop false
  lay_begin = record {
    four = S.four;
    writing = write-begin (FitN words 1024) words tags went at end e.exprtop o (row stacks₀ 0) (row stacks₀ 1) L.stretch L.fits room (S.rows 0 (omega arith)) (S.rows 1 (omega arith));
    seats_same = refl;
    body_same = refl;
  }

  module _ {stacks : List (List ℕ)} {i p : ℕ} {u : Bool} (inv : Laying words tags went at end o stacks₀ e stacks i p u) where
    pub lay_done : end ≤ i → Wrote (shift (carried_by went tags words at end) o false) e.exprtop stacks₀ stacks
    lay_done h = record {
      cells = write_done (FitN words 1024) words tags went at end e.exprtop o (row stacks₀ 0) (row stacks₀ 1) L.stretch L.fits room (S.rows 0 (omega arith)) (S.rows 1 (omega arith)) (row stacks 0) (row stacks 1) i p u inv.writing h;
      seats_same = inv.seats_same;
      body_same = inv.body_same;
      four = inv.four;
    }

    module _ (less : i < end) where
      pub lay_in : p < 16384
      lay_in = let l = inv.writing.level in omega arith

      pub lay_next : (w : ℕ) → w ≡ through went (get_or tags i 0) (get_or words i 0)
          → (v : Bool) → v ≡ undefined_at (target (get_or tags i 0)) w (first_word (carried_by went tags words (i + 1) end)) u → (x : ℕ) → x ≡ moved (target (get_or tags i 0)) w o v → (s : ℕ) → s ≡ get_or tags i 0
          → Laying words tags went at end o stacks₀ e (put (put stacks 0 p x) 1 p s) (i + 1) (p + 1) v
      lay_next w we v ve x xe s se =
          let f = inv.four in
          let m = length-set stacks 0 (set (row stacks 0) p x) in
          let z : row (put (put stacks 0 p x) 1 p s) 0 ≡ set (row stacks 0) p x = row_other (put stacks 0 p x) 1 0 p s (λ q. omega arith) ∙ get_or-set_same stacks 0 (set (row stacks 0) p x) [] (omega arith) in
          let y : row (put (put stacks 0 p x) 1 p s) 1 ≡ set (row stacks 1) p (get_or tags i 0) = get_or-set_same (put stacks 0 p x) 1 (set (row (put stacks 0 p x) 1) p s) [] (omega arith) ∙ rw (row_other stacks 0 1 p x (λ q. omega arith), se) in
          record {
            four = length-set (put stacks 0 p x) 1 (set (row (put stacks 0 p x) 1) p s) ∙ m ∙ f;
            writing = rw (z, y) (write-next (FitN words 1024) words tags went at end e.exprtop o (row stacks₀ 0) (row stacks₀ 1) L.stretch L.fits room (S.rows 0 (omega arith)) (S.rows 1 (omega arith)) (row stacks 0) (row stacks 1) i p u inv.writing less w we v ve x xe);
            seats_same = row_other (put stacks 0 p x) 1 2 p s (λ q. omega arith) ∙ row_other stacks 0 2 p x (λ q. omega arith) ∙ inv.seats_same;
            body_same = row_other (put stacks 0 p x) 1 3 p s (λ q. omega arith) ∙ row_other stacks 0 3 p x (λ q. omega arith) ∙ inv.body_same;
          }
