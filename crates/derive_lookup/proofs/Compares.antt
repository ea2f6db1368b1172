-- Comparing a record of the log with words that are not carried: a case of derive_state's comparison, by maps that leave every number where it is.
use mathlib.Core.Path.{◌≡◌, refl, sym, ap, ap₂, ◌∙◌}
use mathlib.Core.Bool.{Bool}
use mathlib.Core.List.{List, [], ◌∷◌}
use Prim.Native.Nat.{ℕ, zero, suc}
use Rattle.model.specs.Outcome.{Cells, class, word}
use Rattle.model.specs.Carry.{carry_cell, carry_cells}
use Rattle.model.specs.Between.{between}
use Rattle.model.specs.References.{Place, Target, copied, start, upto, ref, opt, target, carry_w, through, alike}
use Rattle.derive_state.specs.Held.{carried_by}

abbrev pub stay : Place → ℕ → ℕ
stay p n = suc n

word_at : (t : Target) (w : ℕ) → w ≡ carry_w stay t w
unfolding carry_w
word_at copied w = refl
word_at start w = refl
word_at upto w = refl
word_at (ref p) w = refl
word_at (opt p) zero = refl
word_at (opt p) (suc n) = refl

pub word-stays : (s w : ℕ) → w ≡ through stay s w
unfolding through
word-stays s w = word_at (target s) w

cells_stay : (cs : Cells) → carry_cells (through stay) cs ≡ cs
unfolding carry_cell
cells_stay [] = refl
cells_stay (c ∷ cs) = ap₂ (λ w l. (class c, w) ∷ l) (sym (word-stays (class c) (word c))) (cells_stay cs)

pub plainly : (words tags : List ℕ) (at end : ℕ) (c : Cells) (b : Bool) → b ≡ alike c (carried_by stay tags words at end) → b ≡ alike c (between tags words at end)
unfolding carried_by
plainly words tags at end c b e = e ∙ ap (alike c) (cells_stay (between tags words at end))
