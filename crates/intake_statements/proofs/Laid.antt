-- Expressions that are read back as they are, which their type says, are laid out by their rows, and the other way round.
use mathlib.Core.Path.{◌≡◌, refl, sym, ap, ◌∙◌, subst}
use mathlib.Core.List.{List, [], map, append-nil}
use Prim.Native.Nat.{ℕ, zero, suc, ◌<◌}
use native.Mathlib.Nat.{not-suc-le-zero}
use native.Mathlib.Omega.{arith}
use lib.ListN.{length, get_or}
use Rattle.model.specs.Outcome.{Cells, word, Outcome, fits, misfit, unknown}
use Rattle.model.specs.Table.{Row, expression_row, run}
use Rattle.model.specs.Carry.{Lays}
use Rattle.theory_image.specs.Writing.{write-run}
use Rattle.theory_image.specs.Readers.{read_well_run}
use Rattle.intake_statements.specs.declared.expressions.Expressions.{Expressions}
use Rattle.intake_statements.specs.Tape.{got, cells_from, cells_in, record_of, Exprs, ReadBack}

some_cells : (n : ℕ) (ws ts : List ℕ) (i : ℕ) → 0 < n → 0 < length (cells_from n ws ts i)
unfolding cells_from
some_cells zero ws ts i h = absurd (not-suc-le-zero h)
some_cells (suc n) ws ts i h = omega arith

laid : (row : Row) (cs : Cells) → 0 < length cs → (o : Outcome Cells) → run (map word cs) row ≡ o → got [] o ≡ cs → Lays row cs
unfolding got
laid row cs h (fits xs rest) e same = subst (λ x. Lays row x) same (read_well_run (map word cs) row xs rest e)
laid row cs h misfit e same = absurd (not-suc-le-zero (subst (λ x. 0 < length x) (sym same) h))
laid row cs h unknown e same = absurd (not-suc-le-zero (subst (λ x. 0 < length x) (sym same) h))

-- what a value of the type says
pub exprs : (x : Expressions) → let p = x.places in Exprs p.cells.words.now p.cells.tags.now p.starts.now p.count
unfolding record_of cells_in
exprs x = let p = x.places in record {
  placed = p.placed;
  lays = λ e h. laid expression_row (record_of p.cells.words.now p.cells.tags.now p.starts.now e) (some_cells _ p.cells.words.now p.cells.tags.now (get_or p.starts.now e 0) (let r = p.placed.rising e h in omega (arith, r))) _ refl (x.read_back.same e h);
}

-- what makes one
pub read_back : {ws ts st : List ℕ} {count : ℕ} → Exprs ws ts st count → ReadBack ws ts st count
unfolding got
read_back {ws} {ts} {st} x = record { same = λ e h. ap (got []) (ap (λ l. run l expression_row) (sym (append-nil (map word (record_of ws ts st e)))) ∙ write-run (x.lays e h) []) }
