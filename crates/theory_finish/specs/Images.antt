-- The image of a finished module: where no limit is passed the module is well formed, so that reading what is written gives it back, and intake passes it.
use Rattle.std.specs.Prelude.{◌≡◌, refl, Bool, true, false, ◌||◌, List, ℕ, ◌*◌, ◌≤◌, ltb, length, get_or}
use Rattle.std.proofs.Common.{sym, ap, arith, ltb-false, le-leb, eq-eqb}
use Rattle.theory_lists.specs.Booleans.{and-true}
use Rattle.model.specs.Outcome.{laid}
use Rattle.model.specs.Tree.{Entry}
use Rattle.model.specs.Module.{Module, limits, sections, flat_module, read, write, sized}
use Rattle.model.specs.Carry.{WellFormed}
use Rattle.model.specs.Intake.{Passes, tested, verdict, intake_of}
use Rattle.model.specs.Imports.{Derived}
use Rattle.model.specs.Finish.{passes, too_large, gathered, finished}
use Rattle.theory_image.specs.Views.{length_cells, length-write, view_edition, view_total}
use Rattle.theory_image.specs.Modules.{write_read}
use Rattle.theory_finish.specs.Kept.{Parts}
use Rattle.theory_finish.specs.Finished.{finished-parts, finished-passes}

pub or_false : (a b : Bool) → a || b ≡ false → (a ≡ false) × (b ≡ false)
or_false true b e = let z : ◌≡◌ {A = ℕ} 0 1 = cc in absurd (omega arith)
or_false false b e = (refl, e)

under : (l n : ℕ) (rest : Bool) → ltb l n || rest ≡ false → (n ≤ l) × (rest ≡ false)
under l n rest e = let p = or_false (ltb l n) rest e in (ltb-false l n p.0, p.1)

-- WELL FORMED: parts that are well formed, within the limits
pub image_well : {t : Module} → Parts t → too_large t ≡ false → WellFormed t
unfolding too_large passes sections limits
image_well {t} p e =
    let h = (or_false (ltb 65536 (4 * length (flat_module t))) _ e).1 in
    let h₁ = under 512 (length t.names) _ h in
    let h₂ = under 512 (length t.types) _ h₁.1 in
    let h₃ = under 512 (length t.constants) _ h₂.1 in
    let h₄ = under 512 (length t.overrides) _ h₃.1 in
    let h₅ = under 512 (length t.globals) _ h₄.1 in
    let h₆ = under 512 (length t.exprs) _ h₅.1 in
    let h₇ = under 256 (length t.functions) _ h₆.1 in
    let h₈ = under 16 (length t.entries) _ h₇.1 in
    let h₉ = under 512 (length t.special.pairs) _ h₈.1 in
    record {
      names_ok = record { few = h₁.0; each = p.names_each };
      types-ok = record { few = h₂.0; each = p.types_each };
      constants_ok = record { few = h₃.0; each = p.constants_each };
      overrides_ok = record { few = h₄.0; each = p.overrides_each };
      globals_ok = record { few = h₅.0; each = p.globals_each };
      exprs_ok = record { few = h₆.0; each = p.exprs_each };
      functions_ok = record { few = h₇.0; each = p.functions_each };
      entries_ok = record { few = h₈.0; each = p.entries_each };
      rays-ok = p.rays_lays;
      pairs-ok = record { few = h₉.0; each = p.pairs_each };
    }

-- SIZED: "the slice is four times word 1 long, at least 80 bytes"
pub image-sized : (t : Module) → too_large t ≡ false → sized (4 * length (write t)) (write t) ≡ true
unfolding too_large sized
image-sized t e =
    let h = ltb-false 65536 (4 * length (flat_module t)) (or_false (ltb 65536 (4 * length (flat_module t))) (passes (sections t) limits) e).0 in
    let n = length-write t in
    let k = length_cells t in
    and-true (le-leb 80 (4 * length (write t)) (omega arith)) (and-true (le-leb (4 * length (write t)) 65536 (omega arith)) (and-true (eq-eqb (get_or (write t) 0 0) 1 (view_edition t)) (eq-eqb (4 * length (write t)) (4 * get_or (write t) 1 0) (ap (4 *◌) (sym (view_total t))))))

-- READ back
pub image-read : {t : Module} → Parts t → too_large t ≡ false → read (write t) ≡ laid t
image-read {t} p e = write_read t (image_well p e)

passed : {t : Module} → Passes t → tested t ≡ 0
unfolding tested
passed k = rw (tested, k.numbers, k.lowers, k.names, k.scope)

-- INTAKE passes it
pub image_intake : {t : Module} → Parts t → Passes t → too_large t ≡ false → intake_of (4 * length (write t)) (write t) ≡ 0
unfolding intake_of verdict
image_intake {t} p k e = rw (intake_of, image-sized t e, image-read p e) (passed k)

-- ---- THE FINISHED MODULE, from what is gathered
module _ (s : Derived) (es : List Entry) (p : Parts (gathered s es)) (k : Passes (gathered s es)) where
  parts : Parts (finished s es)
  unfolding finished
  parts = finished-parts p k.numbers

  pub finished-pass : Passes (finished s es)
  unfolding finished
  finished-pass = finished-passes p k

  pub finished_well : too_large (finished s es) ≡ false → WellFormed (finished s es)
  finished_well e = image_well parts e

  pub finished-read : too_large (finished s es) ≡ false → read (write (finished s es)) ≡ laid (finished s es)
  finished-read e = image-read parts e

  pub finished-sized : too_large (finished s es) ≡ false → sized (4 * length (write (finished s es))) (write (finished s es)) ≡ true
  finished-sized e = image-sized (finished s es) e

  pub finished_intake : too_large (finished s es) ≡ false → intake_of (4 * length (write (finished s es))) (write (finished s es)) ≡ 0
  finished_intake e = image_intake parts finished-pass e
