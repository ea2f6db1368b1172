-- The result of a statement, and statements without blocks.
use mathlib.Core.Path.{◌≡◌, refl, sym, ap, ◌∙◌}
use mathlib.Core.Bool.{Bool, true, false}
use mathlib.Core.List.{List, [], ◌∷◌, ◌++◌}
use mathlib.Core.Option.{Option, none, some}
use Prim.Native.Nat.{ℕ, zero, suc, ◌+◌, ◌-◌, ◌≤◌, ◌<◌}
use native.Mathlib.Omega.{arith}
use lib.Dec.{eqb, ltb}
use lib.ListN.{get_or, set}
use borrow.Author.Tests.{eq-eqb, ne_eqb, lt-ltb, le-ltb, ltb-true, ltb-false}
use Rattle.std.specs.Prelude.{Some, None}
use Rattle.std.proofs.lemmas.Option.{none-some, same_Some}
use Rattle.model.specs.Outcome.{Cell, Cells, word}
use Rattle.model.specs.Table.{Row, EXPR_KIND, FUNCTION, expression_row, expressions, variants, variant, More, brings, more}
use Rattle.model.specs.Carry.{Lays, lays_none, lays_next}
use Rattle.model.specs.Operands.{ops_of, result_of, function_of, kind_at, standing}
use Rattle.model.specs.Scope.{add_e, add_opt, evals_opt, is_of, call_result, effect_result, all_vis}
use Rattle.intake_statements.specs.Fine.{fresh}
use Rattle.intake_statements.specs.Tape.{cells_from, cells_in, exprs_of, Exprs}
use Rattle.intake_statements.specs.Lasts.{Scope, visible_at, all_seen, option_of, fits_result, result_in, FoundO, FoundL}
use Rattle.intake_statements.proofs.Scopes.{expr_in, kind_tag, kind_in, kind-out, record_begins, seen_is, kept-all, kept_set, scope_add, tells_false}

-- ---- a CallResult: kind, span, function
pub record Called (cs : Cells) : Type 0 where
  pub a : ℕ
  pub b : ℕ
  pub g : ℕ
  pub is : cs ≡ (81, a) ∷ (82, b) ∷ (FUNCTION, g) ∷ []

call-row : more EXPR_KIND 23 ≡ brings (81 ∷ 82 ∷ FUNCTION ∷ [])
unfolding more variants variant expressions
call-row = refl

pub plain : (s w : ℕ) → s < 105 → more s w ≡ brings []
unfolding more
plain s w h = rw (more, lt-ltb s 105 h)

-- what a word is followed by is one row
pub brings_one : {xs ys : Row} {m : More} → m ≡ brings xs → m ≡ brings ys → xs ≡ ys
brings_one p q = cc

lays_split : {s t w : ℕ} {ss : Row} {cs : Cells} (row : Row) → Lays (s ∷ ss) ((t, w) ∷ cs) → more s w ≡ brings row → Lays (row ++ ss) cs
lays_split row (lays_next e l) m = rw (brings_one e m) at l

pub lays_done : {cs : Cells} → Lays [] cs → cs ≡ []
lays_done lays_none = refl

called_of : {cs : Cells} → Lays (81 ∷ 82 ∷ FUNCTION ∷ []) cs → Called cs
called_of (lays_next {w = a} e l) = second a (rw (brings_one e (plain 81 a (omega arith))) at l)
  where
    third : (a b : ℕ) {cs : Cells} → Lays (FUNCTION ∷ []) cs → Called ((81, a) ∷ (82, b) ∷ cs)
    third a b (lays_next {w = g} e l) = record { a = a; b = b; g = g; is = ap (λ x. (81, a) ∷ (82, b) ∷ (FUNCTION, g) ∷ x) (lays_done (rw (brings_one e (plain FUNCTION g (omega arith))) at l)) }

    second : (a : ℕ) {cs : Cells} → Lays (82 ∷ FUNCTION ∷ []) cs → Called ((81, a) ∷ cs)
    second a (lays_next {w = b} e l) = third a b (rw (brings_one e (plain 82 b (omega arith))) at l)

-- three cells of a run
run-three : (n : ℕ) (ws ts : List ℕ) (i : ℕ) (c₁ c₂ c₃ : Cell) → cells_from n ws ts i ≡ c₁ ∷ c₂ ∷ c₃ ∷ [] → (n ≡ 3) × (get_or ws (i + 2) 0 ≡ word c₃)
unfolding cells_from
run-three zero ws ts i c₁ c₂ c₃ e = cc
run-three (suc zero) ws ts i c₁ c₂ c₃ e = cc
run-three (suc (suc zero)) ws ts i c₁ c₂ c₃ e = cc
run-three (suc (suc (suc zero))) ws ts i c₁ c₂ c₃ e =
    let q : (get_or ts (suc (suc i)) 0, get_or ws (suc (suc i)) 0) ≡ c₃ = cc in
    let s : i + 2 ≡ suc (suc i) = omega arith in
    (refl, rw s (ap word q))
run-three (suc (suc (suc (suc n)))) ws ts i c₁ c₂ c₃ e = cc

function-later : (s w : ℕ) (cs : Cells) → s ≡ EXPR_KIND → function_of ((s, w) ∷ cs) ≡ function_of cs
unfolding function_of
function-later s w cs e = rw (function_of, ne_eqb s FUNCTION (λ q. omega arith))

function-here : (a b g : ℕ) → function_of ((81, a) ∷ (82, b) ∷ (FUNCTION, g) ∷ []) ≡ some g
unfolding function_of
function-here a b g = refl

-- ---- does the result fit?
module _ (ws ts st : List ℕ) (count e : ℕ) (x : Exprs ws ts st count) (i : e < count) (kd : ℕ) (kd-is : kd ≡ get_or ws (get_or st e 0) 0) where
  module _ (c : kd ≡ 23) where
    rest : Called (cells_from (get_or st (suc e) 0 - (get_or st e 0 + 1)) ws ts (get_or st e 0 + 1))
    unfolding expression_row
    rest = called_of (rw (append-none (81 ∷ 82 ∷ FUNCTION ∷ [])) at (lays_split (81 ∷ 82 ∷ FUNCTION ∷ []) (rw (record_begins ws ts st count x e i) at (x.lays e i)) (rw (sym kd-is ∙ c) call-row)))
      where
        append-none : (r : Row) → r ++ [] ≡ r
        append-none [] = refl
        append-none (s ∷ r) = ap (s ∷◌) (append-none r)

    fourth : (get_or st (suc e) 0 - (get_or st e 0 + 1) ≡ 3) × (get_or ws (get_or st e 0 + 1 + 2) 0 ≡ rest.g)
    fourth = run-three (get_or st (suc e) 0 - (get_or st e 0 + 1)) ws ts (get_or st e 0 + 1) (81, rest.a) (82, rest.b) (FUNCTION, rest.g) rest.is

    pub function_in_lem : get_or st e 0 + 3 < 16384
    function_in_lem = omega (arith, fourth.0, x.placed.within e i)

    function_is : function_of (get_or (exprs_of ws ts st count) e []) ≡ some (get_or ws (get_or st e 0 + 3) 0)
    function_is =
        let q : get_or st e 0 + 1 + 2 ≡ get_or st e 0 + 3 = omega arith in
        ap function_of (expr_in ws ts st count e i ∙ record_begins ws ts st count x e i ∙ ap ((get_or ts (get_or st e 0) 0, get_or ws (get_or st e 0) 0) ∷◌) rest.is)
        ∙ function-later (get_or ts (get_or st e 0) 0) (get_or ws (get_or st e 0) 0) ((81, rest.a) ∷ (82, rest.b) ∷ (FUNCTION, rest.g) ∷ []) (kind_tag ws ts st count x e i)
        ∙ function-here rest.a rest.b rest.g
        ∙ ap some (sym fourth.1 ∙ ap (λ j. get_or ws j 0) q)

  kind_is : kind_at (exprs_of ws ts st count) e ≡ kd
  kind_is = kind_in ws ts st count x e i ∙ sym kd-is

  module _ (k f : ℕ) where
    pub fits_call : k ≡ 15 → kd ≡ 23 → eqb (get_or ws (get_or st e 0 + 3) 0) f ≡ fits_result (exprs_of ws ts st count) k f (some e)
    unfolding fits_result call_result is_of
    fits_call h c = rw (fits_result, eq-eqb k 15 h, kind_is, eq-eqb kd 23 c, function_is c)

    pub fits_no_call : k ≡ 15 → (kd ≡ 23 → ⊥) → false ≡ fits_result (exprs_of ws ts st count) k f (some e)
    unfolding fits_result call_result
    fits_no_call h n = rw (fits_result, eq-eqb k 15 h, kind_is, ne_eqb kd 23 n)

    pub fits_load : (k ≡ 15 → ⊥) → k ≡ 14 → eqb kd 25 ≡ fits_result (exprs_of ws ts st count) k f (some e)
    unfolding fits_result effect_result
    fits_load n h = rw (fits_result, ne_eqb k 15 n, kind_is, eq-eqb k 14 h)

    pub fits_atomic : (k ≡ 15 → ⊥) → (k ≡ 14 → ⊥) → eqb kd 24 ≡ fits_result (exprs_of ws ts st count) k f (some e)
    unfolding fits_result effect_result
    fits_atomic n m = rw (fits_result, ne_eqb k 15 n, kind_is, ne_eqb k 14 m)

-- ---- the result
option_none : (o : Option ℕ) → None ≡ option_of o → o ≡ none
unfolding option_of
option_none none h = refl
option_none (some e) h = absurd (none-some e h)

option_some : (o : Option ℕ) (e : ℕ) → Some e ≡ option_of o → o ≡ some e
unfolding option_of
option_some none e h = absurd (none-some e (sym h))
option_some (some x) e h = ap some (sym (same_Some e x h))

pub fits_none : (xs : List Cells) (k f : ℕ) → fits_result xs k f none ≡ true
unfolding fits_result call_result effect_result
fits_none xs k f = go (eqb k 15)
  where
    go : (b : Bool) → elim b [ true ↦ true | false ↦ true ] ≡ true
    go true = refl
    go false = refl

fits_out : (ws ts st : List ℕ) (count e k f : ℕ) → count ≤ e → fits_result (exprs_of ws ts st count) k f (some e) ≡ false
unfolding fits_result call_result effect_result expressions
fits_out ws ts st count e k f h = go (eqb k 15) refl (eqb k 14) refl
  where
    go : (b : Bool) → eqb k 15 ≡ b → (c : Bool) → eqb k 14 ≡ c → fits_result (exprs_of ws ts st count) k f (some e) ≡ false
    go true b c d = rw (fits_result, b, kind-out ws ts st count e h)
    go false b true c = rw (fits_result, b, kind-out ws ts st count e h, c)
    go false b false c = rw (fits_result, b, kind-out ws ts st count e h, c)

-- where there is a result there is a field
pub result_in_lem : (ws ts : List ℕ) (at stop e : ℕ) → Some e ≡ option_of (result_in ws ts at stop) → at + 4 < stop
unfolding cells_in cells_from result_of option_of
result_in_lem ws ts at stop e is = go (ltb (at + 4) stop) refl
  where
    go : (b : Bool) → ltb (at + 4) stop ≡ b → at + 4 < stop
    go true h = ltb-true (at + 4) stop h
    go false h = let z : stop - (at + 4) ≡ 0 = omega (arith, ltb-false (at + 4) stop h) in absurd (none-some e (sym (rw z at is)))

module _ (ws ts st u : List ℕ) (count at stop keep : ℕ) (x : Exprs ws ts st count) (keeps : stop ≤ keep) (short : at + 4 ≤ stop) where
  pub result_none : None ≡ option_of (result_in ws ts at stop) → FoundO ws ts st count at stop keep u u true
  unfolding evals_opt add_opt fresh add_e
  result_none is = let o : result_in ws ts at stop ≡ none = option_none (result_in ws ts at stop) is in
      record { found = λ ρ δ s. rw o (record { says = rw (fits_none (exprs_of ws ts st count) (get_or ws (at + 1) 0) (get_or ws (at + 4) 0)); scope = λ g. s; kept = λ g. kept-all keep u }) }

  module _ (e : ℕ) (is : Some e ≡ option_of (result_in ws ts at stop)) where
    o_is : result_in ws ts at stop ≡ some e
    o_is = option_some (result_in ws ts at stop) e is

    pub result_out : count ≤ e → FoundO ws ts st count at stop keep u u false
    result_out h = record { found = λ ρ δ s. tells_false (rw (o_is, fits_out ws ts st count e (get_or ws (at + 1) 0) (get_or ws (at + 4) 0) h)) }

    module _ (i : e < count) (ok : Bool) (ok-is : ok ≡ fits_result (exprs_of ws ts st count) (get_or ws (at + 1) 0) (get_or ws (at + 4) 0) (some e)) where
      pub result_unfit : ok ≡ false → FoundO ws ts st count at stop keep u u false
      result_unfit h = record { found = λ ρ δ s. tells_false (rw (o_is, sym ok-is, h)) }

      module _ (y : ok ≡ true) where
        pub result_twice : (get_or u e 0 ≡ 0 → ⊥) → FoundO ws ts st count at stop keep u u false
        unfolding evals_opt fresh
        result_twice z = record { found = λ ρ δ s. tells_false (rw (o_is, sym ok-is, y, s.done e i, lt-ltb 0 (get_or u e 0) (omega arith))) }

        pub result_fine : get_or u e 0 ≡ 0 → FoundO ws ts st count at stop keep u (set u e keep) true
        unfolding evals_opt fresh add_opt add_e
        result_fine z = record {
          found = λ ρ δ s. rw o_is (record {
            says = rw (sym ok-is, y, s.done e i, le-ltb 0 (get_or u e 0) (omega arith));
            scope = λ g. scope_add u e keep z count at keep ρ δ s x.placed.few i (omega arith) refl;
            kept = λ g. kept_set u e keep z keep (omega arith) (omega (arith, s.long, x.placed.few));
          });
        }

-- ---- a statement without blocks
module _ (ws ts st u : List ℕ) (count at stop keep : ℕ) (x : Exprs ws ts st count) (keeps : stop ≤ keep) (short : at + 4 ≤ stop) (r : Bool) (r-is : r ≡ all_seen (ops_of (cells_in ws ts (at + 4) stop)) (visible_at ws st u count at)) where
  simple_is : (ρ δ : List ℕ) → Scope count at keep ρ δ u → all_vis (standing (exprs_of ws ts st count)) ρ (ops_of (cells_in ws ts (at + 4) stop)) ≡ r
  simple_is ρ δ s = sym (seen_is ws ts st count x u ρ δ at keep s (omega arith) (ops_of (cells_in ws ts (at + 4) stop))) ∙ sym r-is

  pub simple_reads : r ≡ false → FoundL ws ts st count at stop keep u u false
  simple_reads h = record { found = λ ρ δ s. tells_false (rw (simple_is ρ δ s, h)) }

  pub simple_result : r ≡ true → (u₁ : List ℕ) (q : Bool) → FoundO ws ts st count at stop keep u u₁ q → FoundL ws ts st count at stop keep u u₁ q
  simple_result h u₁ q got = record { found = λ ρ δ s. rw (simple_is ρ δ s, h) (got.found ρ δ s) }
