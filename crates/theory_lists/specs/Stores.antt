-- Runs of stores: `sets l i vs` is l with vs stored from place i on (lib.Seq).
use Rattle.std.specs.Prelude.{◌≡◌, List, [], ◌∷◌, ◌++◌, ℕ, suc, ◌+◌, length, set}
use Rattle.std.proofs.Common.{sym, ap, ◌∙◌, add-zero, suc-add, add-suc}
use Rattle.std.proofs.lemmas.List.Edits.{sets}

-- two runs, one after the other, are one
pub sets-append : (xs l : List ℕ) (i : ℕ) (ys : List ℕ) → sets l i (xs ++ ys) ≡ sets (sets l i xs) (i + length xs) ys
sets-append [] l i ys = ap (λ k. sets l k ys) (sym (add-zero i))
sets-append (x ∷ xs) l i ys = sets-append xs (set l i x) (suc i) ys ∙ ap (λ k. sets (sets (set l i x) (suc i) xs) k ys) (suc-add i (length xs) ∙ sym (add-suc i (length xs)))
