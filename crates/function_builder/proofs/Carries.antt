-- A word through the maps, by what its class refers to: through the rows of the tables, through the function's own map, by name, or as it is.
use mathlib.Core.Path.{◌≡◌, refl, sym, ◌∙◌}
use mathlib.Core.Bool.{Bool, true, false}
use mathlib.Core.List.{List, []}
use Prim.Native.Nat.{ℕ, zero, suc, ◌-◌, ◌≤◌, ◌<◌}
use lib.ListN.{get_or}
use native.Mathlib.Omega.{arith}
use lib.Dec.{ltb}
use borrow.Author.Tests.{ltb-true, ltb-false}
use Rattle.model.specs.References.{Place, table, own, function, Target, copied, start, upto, ref, opt, target, ref_of, carry_w, through}
use Rattle.theory_records.specs.RecordLaws.{All}
use Rattle.theory_records.specs.Kinds.{far_copied}
use Rattle.derive_state.specs.declared.Target.{Target as Target'}
use Rattle.derive_state.specs.declared.Target.TheVariants as code
use Rattle.derive_state.specs.Refers.{means, unspanned, InTable, tab_of, code_p, target_of, went_r, Small}
use Rattle.derive_state.specs.Sizes.{Sizes}
use Rattle.derive_state.proofs.Classes.{kind_small, code_meant, refs_meant, through_meant}
use Rattle.derive_state.proofs.State.{code_low}
use Rattle.derive_state.proofs.Unlike.{all-at}
use Rattle.function_references.specs.Fits.{Fits, FitN, Legible}
use Rattle.function_builder.specs.Stacks.{went_by, went_of}

-- ---- what classes refer to
pub kind_few : (s : ℕ) → target_of (target s) < 14
kind_few s = go (ltb s 256) refl
  where
    go : (x : Bool) → ltb s 256 ≡ x → target_of (target s) < 14
    go true e = kind_small s (ltb-true s 256 e)
    go false e = let l = ltb-false s 256 e in unfold target_of in rw (far_copied s (omega arith)) (omega arith)

-- not a function
pub no_function : (r : Target') → (r ≡ code.Function → ⊥) → InTable r → target_of (means r) ≡ 7 → ⊥
unfolding target_of code_p
no_function code.Nothing ne l e = omega arith
no_function code.Function ne l e = ne refl
no_function (code.Record t) ne l e = omega (arith, code_low (tab_of t))
no_function (code.Optional t) ne l e = omega arith
no_function code.Own ne l e = omega arith
no_function code.OptionalOwn ne l e = omega arith

-- ---- a word that names neither a function nor an expression of its own, through the rows
module _ (words : List ℕ) (maps : List (List ℕ)) (exprmap : List ℕ) where
  abbrev W : Place → ℕ → ℕ
  W = went_by maps exprmap

  row_small : (r : Target') → (target_of (means r) ≡ 7 → ⊥) → (r ≡ code.Own → ⊥) → (r ≡ code.OptionalOwn → ⊥) → (w : ℕ) → All (FitN words 1024) (ref_of (means r) w []) → All Small (ref_of (means r) w [])
  unfolding target_of code_p ref_of Fits
  row_small code.Nothing f a b w fit = tt
  row_small code.Function f a b w fit = absurd (f refl)
  row_small (code.Record t) f a b w fit = (fit.0.1, tt)
  row_small (code.Optional t) f a b zero fit = tt
  row_small (code.Optional t) f a b (suc w) fit = (fit.0.1, tt)
  row_small code.Own f a b w fit = absurd (a refl)
  row_small code.OptionalOwn f a b w fit = absurd (b refl)

  row-W : (r : Target') → (target_of (means r) ≡ 7 → ⊥) → (r ≡ code.Own → ⊥) → (r ≡ code.OptionalOwn → ⊥) → (w : ℕ) → carry_w (went_r maps) (means r) w ≡ carry_w W (means r) w
  unfolding target_of code_p carry_w went_r went_by
  row-W code.Nothing f a b w = refl
  row-W code.Function f a b w = absurd (f refl)
  row-W (code.Record t) f a b w = refl
  row-W (code.Optional t) f a b zero = refl
  row-W (code.Optional t) f a b (suc w) = refl
  row-W code.Own f a b w = absurd (a refl)
  row-W code.OptionalOwn f a b w = absurd (b refl)

  module _ (s w : ℕ) (ne : target_of (target s) ≡ 7 → ⊥) (r : Target') (is : means r ≡ unspanned (target s)) (a : r ≡ code.Own → ⊥) (b : r ≡ code.OptionalOwn → ⊥) where
    none : target_of (means r) ≡ 7 → ⊥
    none q = ne (sym (code_meant s w is) ∙ q)

    pub carries_small : All (FitN words 1024) (ref_of (target s) w []) → All Small (ref_of (target s) w [])
    carries_small fit = rw (← refs_meant s w is []) (row_small r none a b w (rw (← refs_meant s w is []) at fit))

    pub carries_row : through (went_r maps) s w ≡ through W s w
    carries_row = sym (through_meant s w is (went_r maps)) ∙ row-W r none a b w ∙ through_meant s w is W

-- functions by name, and all others as above
module _ (words : List ℕ) (n : ℕ) (log logtags : List ℕ) (starts maps : List (List ℕ)) (e : Sizes) (exprmap : List ℕ) where
  abbrev U : Place → ℕ → ℕ
  U = went_of words n log logtags starts maps e exprmap

  by-W : (g : Target) (w : ℕ) → (target_of g ≡ 7 → ⊥) → target_of g < 14 → carry_w (went_by maps exprmap) g w ≡ carry_w U g w
  unfolding target_of code_p carry_w went_by went_of
  by-W copied w ne l = refl
  by-W start w ne l = refl
  by-W upto w ne l = refl
  by-W (ref (table t)) w ne l = refl
  by-W (ref own) w ne l = refl
  by-W (ref function) w ne l = absurd (ne refl)
  by-W (opt (table t)) zero ne l = refl
  by-W (opt (table t)) (suc w) ne l = refl
  by-W (opt own) zero ne l = refl
  by-W (opt own) (suc w) ne l = refl
  by-W (opt function) w ne l = absurd (omega arith)

  pub through-by : (s w : ℕ) → (target_of (target s) ≡ 7 → ⊥) → through (went_by maps exprmap) s w ≡ through U s w
  unfolding through
  through-by s w ne = by-W (target s) w ne (kind_few s)

-- ---- the reference of a word of a piece fits
pub fits_at : {words tags : List ℕ} {at end : ℕ} → Legible words tags 1024 at end → (i : ℕ) → at ≤ i → i < end → All (FitN words 1024) (ref_of (target (get_or tags i 0)) (get_or words i 0) [])
fits_at {words} {tags} {at} {end} L i l h = all-at tags words end L.stretch.in_tags L.stretch.in_words (FitN words 1024) i h (i - at) at (omega arith) L.fits
