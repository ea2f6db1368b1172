-- A RECORD CARRIED AGREES, as agreement in full has it, if the maps at the end map each number that it refers to as it was carried (`Becomes`).
use Rattle.std.proofs.Math.Path.{◌≡◌, refl, ap}
use Rattle.std.proofs.Common.{sym, ◌∙◌, arith}
use Rattle.std.proofs.Math.Bool.{true}
use mathlib.Core.List.{List, [], ◌∷◌}
use Prim.Native.Nat.{ℕ, zero, suc, ◌<◌, pred}
use borrow.Author.Tests.{eq-eqb}
use Rattle.theory_lists.specs.Booleans.{and-true}
use Rattle.model.specs.Outcome.{Cells, class, word}
use Rattle.model.specs.Module.{Module}
use Rattle.model.specs.Carry.{carry_cell, carry_cells}
use Rattle.model.specs.References.{Target, copied, start, upto, ref, opt, target, Node, ref_of, refs, carry_w, through}
use Rattle.model.specs.Agreement.{Mapping, becomes, agrees_w, agrees_r}
use Rattle.theory_records.specs.RecordLaws.{All, Went, bare_w, bare, rest_of}

module _ (M M' : Module) (μ : Mapping) (o : List ℕ) (w : Went) where
  -- it is mapped, and the maps say so
  abbrev pub Becomes : Node → Type 0
  Becomes j = (0 < w j.place j.num) × (becomes M M' μ o j.place j.num (pred (w j.place j.num)) ≡ true)

  pub word_agrees : (t : Target) (v : ℕ) (rest : List Node) → All Becomes (ref_of t v rest) → agrees_w M M' μ o t v (carry_w w t v) ≡ true
  unfolding ref_of agrees_w carry_w
  word_agrees copied v rest a = eq-eqb v v refl
  word_agrees start v rest a = refl
  word_agrees upto v rest a = refl
  word_agrees (ref p) v rest a = a.0.1
  word_agrees (opt p) zero rest a = refl
  word_agrees (opt p) (suc n) rest a = go (w p n) a.0.0 a.0.1
    where
      go : (x : ℕ) → 0 < x → becomes M M' μ o p n (pred x) ≡ true → agrees_w M M' μ o (opt p) (suc n) x ≡ true
      go zero h b = absurd (omega arith)
      go (suc x) h b = b

  pub bare_agrees : (t : Target) (v x y : ℕ) → bare_w t x ≡ bare_w t y → agrees_w M M' μ o t v x ≡ agrees_w M M' μ o t v y
  unfolding bare_w agrees_w
  bare_agrees copied v x y e = rw e
  bare_agrees start v x y e = refl
  bare_agrees upto v x y e = refl
  bare_agrees (ref p) v x y e = rw e
  bare_agrees (opt p) v x y e = rw e

  pub cells_agree : (r r' : Cells) → All Becomes (refs r) → bare r' ≡ bare (carry_cells (through w) r) → agrees_r M M' μ o r r' ≡ true
  unfolding agrees_r bare carry_cell refs through
  cells_agree [] [] a e = refl
  cells_agree [] (d ∷ ds) a e = let z : ◌≡◌ {A = ℕ} 0 1 = cc in absurd (omega arith)
  cells_agree (c ∷ cs) [] a e = let z : ◌≡◌ {A = ℕ} 0 1 = cc in absurd (omega arith)
  cells_agree (c ∷ cs) (d ∷ ds) a e =
      let k : class d ≡ class c = ap class (first e) in
      let b : bare_w (target (class d)) (word d) ≡ bare_w (target (class c)) (carry_w w (target (class c)) (word c)) = ap word (first e) in
      let b' : bare_w (target (class c)) (word d) ≡ bare_w (target (class c)) (carry_w w (target (class c)) (word c)) = rw k at b in
      and-true (eq-eqb (class c) (class d) (sym k)) (and-true (bare_agrees (target (class c)) (word c) (word d) _ b' ∙ word_agrees (target (class c)) (word c) (refs cs) a) (cells_agree cs ds (rest_of Becomes (target (class c)) (word c) (refs cs) a) (cc)))
    where
      first : {x y : ℕ × ℕ} {xs ys : Cells} → ◌≡◌ {A = Cells} (x ∷ xs) (y ∷ ys) → x ≡ y
      first e = cc
