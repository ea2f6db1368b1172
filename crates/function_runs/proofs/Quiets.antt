-- Words that import nothing, written one after another: each is one word of a pass, which leaves the builder as it is.
use mathlib.Core.Path.{◌≡◌, refl, sym}
use mathlib.Core.Bool.{Bool, true, false, not, false≢true}
use mathlib.Core.List.{List, []}
use Prim.Native.Nat.{ℕ, suc, ◌+◌, ◌≤◌, ◌<◌}
use native.Mathlib.Numerals.{add-one}
use native.Mathlib.Omega.{arith}
use lib.ListN.{get_or}
use lib.Dec.{eqb, ltb}
use borrow.Author.Tests.{eq-eqb, ne_eqb, ltb-true, ltb-false}
use Rattle.model.specs.Table.{EXPR, FROM, TO, STMT_KIND}
use Rattle.model.specs.References.{Place, Target, targets, target, ref_of, through, moved}
use Rattle.theory_records.specs.RecordLaws.{All}
use Rattle.theory_passes.specs.Pass.{atomic_kind}
use Rattle.derive_state.specs.Refers.{target_of, code_p, tab_of, means, InTable}
use Rattle.derive_state.specs.declared.Target.{Target as Target'}
use Rattle.derive_state.specs.declared.Target.TheVariants as code
use Rattle.derive_state.specs.Source.{refers_to, number_of}
use Rattle.derive_state.specs.Held.{cell, put}
use Rattle.derive_state.proofs.State.{code_low}
use Rattle.function_references.specs.Fits.{FitN, Legible}
use Rattle.function_outside.proofs.Cells.{fit_own, fit-table}
use Rattle.function_outside.proofs.Passing.{legible_next, legible_here}
use Rattle.function_runs.specs.Copied.{Quiet, becomes, flag_of, flagged, ran, Ran}

-- ---- what a word becomes
module _ (W : Place → ℕ → ℕ) (made o s w : ℕ) (u : Bool) where
  pub becomes-made : s ≡ TO → made ≡ becomes W made o s w u
  unfolding becomes
  becomes-made e = rw (eq-eqb s TO e, becomes)

  pub becomes-other : (s ≡ TO → ⊥) → moved (target s) (through W s w) o u ≡ becomes W made o s w u
  unfolding becomes
  becomes-other ne = rw (ne_eqb s TO ne, becomes)

-- ---- which words import nothing

pub ne_zero : (x : ℕ) → not (eqb x 0) ≡ true → x ≡ 0 → ⊥
ne_zero x e z = false≢true (rw (eq-eqb x 0 z) at e)

-- an Emit's start and the kind of a statement refer to nothing
emit_none : (s : ℕ) → s ≡ FROM → target_of (target s) ≡ 6
unfolding target_of target targets
emit_none s e = rw e

kind-none : (s : ℕ) → s ≡ STMT_KIND → target_of (target s) ≡ 6
unfolding target_of target targets
kind-none s e = rw e

refers_none : (g : Target) (w : ℕ) → target_of g ≡ 6 → refers_to g w ≡ 6
unfolding refers_to
refers_none g w e = rw e

pub quiet-nothing : (maps : List (List ℕ)) (exprmap : List ℕ) (s w : ℕ) → target_of (target s) ≡ 6 → (s ≡ FROM → ⊥) → (s ≡ STMT_KIND → atomic_kind w ≡ false) → Quiet maps exprmap s w
quiet-nothing maps exprmap s w e nf na = let r = refers_none (target s) w e in record { callee = λ q. omega arith; emit = nf; atomic = na; outside = λ l z. absurd (omega arith); inside = λ l z. absurd (omega arith) }

-- nothing alone has the code 6
pub code-some : (r : Target') → InTable r → (r ≡ code.Nothing → ⊥) → target_of (means r) ≡ 6 → ⊥
unfolding target_of code_p
code-some code.Nothing l ne q = ne refl
code-some code.Function l ne q = omega arith
code-some (code.Record t) l ne q = omega (arith, code_low (tab_of t))
code-some (code.Optional t) l ne q = omega arith
code-some code.Own l ne q = omega arith
code-some code.OptionalOwn l ne q = omega arith

module _ (maps : List (List ℕ)) (exprmap : List ℕ) (s w : ℕ) (some : target_of (target s) ≡ 6 → ⊥) (callee : target_of (target s) ≡ 7 → ⊥) {t h : ℕ} (ht : t ≡ refers_to (target s) w) (hh : h ≡ number_of (target s) w) where
  pub quiet_record : s < EXPR → (cell maps t h ≡ 0 → ⊥) → Quiet maps exprmap s w
  quiet_record l ne = record { callee = callee; emit = λ e. some (emit_none s e); atomic = λ e. absurd (some (kind-none s e)); outside = λ x y. rw (ht, hh) at ne; inside = λ x. absurd (omega arith) }

  pub quiet_own : EXPR ≤ s → (get_or exprmap h 0 ≡ 0 → ⊥) → Quiet maps exprmap s w
  quiet_own l ne = record { callee = callee; emit = λ e. some (emit_none s e); atomic = λ e. absurd (some (kind-none s e)); outside = λ x. absurd (omega arith); inside = λ x y. rw hh at ne }

-- a word that refers to no record
pub quiet-beyond : (maps : List (List ℕ)) (exprmap : List ℕ) (s w : ℕ) → (target_of (target s) ≡ 6 → ⊥) → (target_of (target s) ≡ 7 → ⊥) → 6 ≤ refers_to (target s) w → Quiet maps exprmap s w
quiet-beyond maps exprmap s w some callee r = record { callee = callee; emit = λ e. some (emit_none s e); atomic = λ e. absurd (some (kind-none s e)); outside = λ l z. absurd (omega arith); inside = λ l z. absurd (omega arith) }

-- the numbers that are looked up are in range
pub numbers_low : (words : List ℕ) (s w : ℕ) → All (FitN words 1024) (ref_of (target s) w []) → (s < EXPR → refers_to (target s) w < 6 → number_of (target s) w < 512) × (EXPR ≤ s → refers_to (target s) w ≡ 5 → number_of (target s) w < 1024)
numbers_low words s w fits = (λ l z. (fit-table words 1024 s w l z fits).1, λ l z. fit_own words 1024 s w l z fits)

-- ---- the loop: what is left of a run from word i on gives what the whole run gives
pub record Onto (words tags : List ℕ) (maps : List (List ℕ)) (exprmap : List ℕ) (W : Place → ℕ → ℕ) (made o at end bodytop : ℕ) (u₀ : Bool) (stacks₀ stacks : List (List ℕ)) (i p : ℕ) (u : Bool) : Type 0 where
  pub left : Legible words tags 1024 i end
  pub count : ℕ
  pub reach : i ≡ at + count
  pub place : p ≡ bodytop + count
  pub room : p ≤ 16384
  pub quiet : (j : ℕ) → at ≤ j → j < i → Quiet maps exprmap (get_or tags j 0) (get_or words j 0)
  pub on : (d : ℕ) → ran words tags W made o end (count + d) at bodytop u₀ stacks₀ ≡ ran words tags W made o end d i p u stacks
  pub flags : (d : ℕ) → flagged words tags end (count + d) at u₀ ≡ flagged words tags end d i u

module _ {words tags : List ℕ} {maps : List (List ℕ)} {exprmap : List ℕ} {W : Place → ℕ → ℕ} {made o at end bodytop : ℕ} {u₀ : Bool} {stacks₀ stacks : List (List ℕ)} {i p : ℕ} {u : Bool} (inv : Onto words tags maps exprmap W made o at end bodytop u₀ stacks₀ stacks i p u) where
  pub onto_done : Ran words tags maps exprmap W made o at end bodytop u₀ stacks₀ i u stacks
  unfolding ran flagged
  onto_done =
      let z : inv.count + 0 ≡ inv.count = omega arith in
      let a = inv.room in
      let b = inv.place in
      record { count = inv.count; reach = inv.reach; high = inv.left.stretch.rising; room = omega arith; quiet = inv.quiet; is = sym (rw z at (inv.on 0)); flag = sym (rw z at (inv.flags 0)) }

  pub onto_all : end ≤ i → Ran words tags maps exprmap W made o at end bodytop u₀ stacks₀ end u stacks
  onto_all h = let l = inv.left.stretch.rising in let e : i ≡ end = omega arith in rw e at onto_done

  module _ (less : i < end) where
    pub onto_fits : All (FitN words 1024) (ref_of (target (get_or tags i 0)) (get_or words i 0) [])
    onto_fits = legible_here inv.left less

    pub onto_next : p < 16384 → Quiet maps exprmap (get_or tags i 0) (get_or words i 0) → {v : Bool} → v ≡ flag_of words tags end i u → {x : ℕ} → x ≡ becomes W made o (get_or tags i 0) (get_or words i 0) v → Onto words tags maps exprmap W made o at end bodytop u₀ stacks₀ (put stacks 3 p x) (i + 1) (p + 1) v
    unfolding ran flagged
    onto_next low Q {v} hv {x} hx =
        let a = inv.reach in
        let b = inv.place in
        rw (add-one i, add-one p)
        (record {
          left = legible_next inv.left less;
          count = suc inv.count;
          reach = omega arith;
          place = omega arith;
          room = low;
          quiet = λ j f g. go j f g;
          on = λ d. let z : suc inv.count + d ≡ inv.count + suc d = omega arith in rw (z, hx, hv) (inv.on (suc d));
          flags = λ d. let z : suc inv.count + d ≡ inv.count + suc d = omega arith in rw (z, hv) (inv.flags (suc d));
        })
      where
        go : (j : ℕ) → at ≤ j → j < suc i → Quiet maps exprmap (get_or tags j 0) (get_or words j 0)
        go j f g = by (ltb j i) refl
          where
            by : (b : Bool) → ltb j i ≡ b → Quiet maps exprmap (get_or tags j 0) (get_or words j 0)
            by true e = inv.quiet j f (ltb-true j i e)
            by false e = let l = ltb-false j i e in let z : j ≡ i = omega arith in rw z Q
