-- Agreement is met, and shuts out what it is to shut out.
-- Met: P10 and P11 of document 01 with their derived functions, P10 in two modules of one function. Shut out: every map that sends all expressions to one record, whatever the target; a target whose record differs in its kind alone; names that are equal by number and not by text.
use Rattle.std.specs.Prelude.{◌≡◌, refl, true, List, [], ◌∷◌, ℕ, zero, suc, get_or}
use Rattle.std.proofs.Common.{ap, sym, ◌∙◌, subst, inl, ⊎_elim, arith}
use Rattle.std.proofs.lemmas.Bool.{false≢true}
use Rattle.std.proofs.Math.Option.{none, some}
use Rattle.std.proofs.Math.ListN.{get_elem?}
use Rattle.model.specs.Outcome.{Cells}
use Rattle.model.specs.Table.{SPAN, UPTO, NAME, TYPE, INIT, EXPR, OPT_EXPR, PAD, TEXT}
use Rattle.model.specs.Tree.{stmt, branch, kill, call, end, ◌then◌, Range, Function}
use Rattle.model.specs.Module.{Module}
use Rattle.model.specs.Operands.{optional, operand, ops_of, kind, standing_kind, result_kind, emitted_kind, ops, kind_at, standing}
use Rattle.model.specs.Initial.{here, there, inits_of, roots, marked, mark, unmarked, read_by, close, reached_marks, moving, initials, initial, constant_at, initialised}
use Rattle.model.specs.Scope.{XForm, up_from, in_range, live, expand_s, shape_s, emitted, kinds_s, evals_s, has, distinct, add_e, add_f, add_s, vis, all_vis, ok_e, ok_s, all_of, seen, scoped_as, scoped}
use Rattle.model.specs.SampleBodies.{record_with, literal, negate, splat, add, evals, local, function}
use Rattle.theory_image.specs.Members.{no_mem}
use Rattle.theory_walks.specs.Members.{Each, each_none, each_cons}
use Rattle.theory_walks.specs.Agreement.{Maps, opt_word, carriers, through, carried, text_of, plain, Alike, start, upto, text, field, AlikeR, over, next, carry_opt, carry_cells, carry_s, carry_f, carry_b, mentions_e, mentions_s, mentioned, Agrees, Agreement}
use Rattle.theory_walks.proofs.AgreementProof.{nameless, alike-carried}
use Rattle.theory_walks.proofs.Theorems.{agrees_kind}

-- ---- P10: "literals c, a, b, Binary(1,2), Binary(3,0), Emit 3..5: they become 2, 0, 1, 3, 4, Emit 3..5"
abbrev source : Function
source = function [] (literal 12 ∷ literal 10 ∷ literal 11 ∷ add 1 2 ∷ add 3 0 ∷ []) (evals 3 5 then end)

abbrev target : Function
target = function [] (literal 10 ∷ literal 11 ∷ literal 12 ∷ add 0 1 ∷ add 3 2 ∷ []) (evals 3 5 then end)

abbrev becomes : ℕ → ℕ
becomes e = get_or (2 ∷ 0 ∷ 1 ∷ 3 ∷ 4 ∷ []) e 0

abbrev maps : Maps
maps = record { type = λ n. n; constant = λ n. n; override = λ n. n; global = λ n. n; global_expr = λ n. n; function = λ n. n; in_function = λ i. becomes; in_entry = λ i. becomes }

abbrev holds : Function → Module
holds F = record { names = []; types = []; constants = []; overrides = []; globals = []; exprs = []; functions = F ∷ []; entries = []; special = record { rays = []; pairs = [] } }

-- the record of e in the target is the source's carried
p10_record : (e : ℕ) → get_or target.exprs (becomes e) [] ≡ carry_cells maps becomes (get_or source.exprs e [])
    → nameless (get_or source.exprs e []) ≡ true
    → AlikeR (holds source) (holds target) maps becomes (get_or source.exprs e []) (get_or target.exprs (becomes e) [])
p10_record e q n = rw q (alike-carried maps becomes (holds source) (holds target) (get_or source.exprs e []) n)

-- the five become five
abbrev Inside : ℕ → Type 0
Inside e = becomes (becomes (becomes e)) ≡ e

p10-inside : Each Inside (mentioned source)
unfolding mentioned mentions_s mentions_e seen expand_s live in_range up_from marked initials moving reached_marks close mark read_by unmarked roots ops ops_of operand
p10-inside = each_cons refl (each_cons refl (each_cons refl (each_cons refl (each_cons refl (each_cons refl (each_none Inside))))))

p10 : Agrees (holds source) (holds target) maps source target becomes
unfolding mentioned mentions_s mentions_e seen expand_s live in_range up_from marked initials moving reached_marks close mark read_by unmarked roots ops ops_of operand carry_s carry_cells carried carriers through nameless
p10 = record {
  body = refl;
  records = each_cons (p10_record 3 refl refl) (each_cons (p10_record 1 refl refl) (each_cons (p10_record 2 refl refl) (each_cons (p10_record 4 refl refl) (each_cons (p10_record 3 refl refl) (each_cons (p10_record 0 refl refl) (each_none _))))));
  apart = λ e d m n q. inl (sym (p10-inside e m) ∙ ap (λ x. becomes (becomes x)) q ∙ p10-inside d n);
}

p10_modules : Agreement (holds source) (holds target) maps
p10_modules = record { functions = at; entries = λ i E q. absurd (let z : ◌≡◌ {A = ℕ} 0 1 = cc in omega arith) }
  where
    at : (i : ℕ) (F : Function) → get_elem? (source ∷ []) i ≡ some F
        → (F' : Function) × (get_elem? (target ∷ []) i ≡ some F') × Agrees (holds source) (holds target) maps F F' becomes
    at zero F q = (target, refl, let p : source ≡ F = cc in subst (λ x. Agrees (holds source) (holds target) maps x target becomes) p p10)
    at (suc i) F q = absurd (let z : ◌≡◌ {A = ℕ} 0 1 = cc in omega arith)

-- what the theorems require of the source beside agreement
p10-passes : (scoped source ≡ true) × (initialised source ≡ true)
unfolding scoped scoped_as all_of seen initialised constant_at expand_s live in_range up_from shape_s kinds_s emitted emitted_kind result_kind standing_kind standing kind_at kind evals_s distinct has ok_s ok_e all_vis vis add_s add_f add_e marked initials moving reached_marks close mark read_by unmarked roots ops ops_of operand
p10-passes = (refl, refl)

-- ---- P11: "literal, Splat(0) as a local's init, Emit 1..2: Emit 2..2"; both evaluate nothing
abbrev splatted : Range → Function
splatted r = function (local 2 ∷ []) (literal 7 ∷ splat 0 ∷ []) (evals r.from r.to then end)

abbrev before : Function
before = splatted (record { from = 1; to = 2 })

abbrev after : Function
after = splatted (record { from = 2; to = 2 })

p11 : Agrees (holds before) (holds after) maps before after (λ e. e)
unfolding mentioned mentions_s mentions_e seen expand_s live in_range up_from marked initials moving reached_marks close mark read_by unmarked roots inits_of optional ops ops_of operand kind standing_kind carry_s
p11 = record { body = refl; records = each_none _; apart = λ e d m n q. absurd (no_mem m) }

-- ---- shut out: all expressions to one record
-- two negations of a literal, both evaluated: equal records, and yet two
abbrev twice : Function
twice = function [] (literal 7 ∷ negate 0 ∷ negate 0 ∷ []) (evals 1 3 then end)

one_record : (M M' : Module) (μ : Maps) (F' : Function) (n : ℕ) → Agrees M M' μ twice F' (λ e. n) → ⊥
unfolding mentioned mentions_s mentions_e seen expand_s live in_range up_from marked initials moving reached_marks close mark read_by unmarked roots ops ops_of operand standing kind_at kind standing_kind initial
one_record M M' μ F' n a = ⊎_elim (λ q. omega (arith, q)) (λ s. ⊎_elim false≢true false≢true s.0) (a.apart 1 2 here (there (there here)) refl)

-- ---- shut out: a record that differs in its kind alone
-- Load (12) and ArrayLength (26) have the same fields
abbrev loads : Function
loads = function [] (literal 7 ∷ record_with 12 ((EXPR, 0) ∷ []) ∷ []) (evals 1 2 then end)

abbrev measures : Function
measures = function [] (literal 7 ∷ record_with 26 ((EXPR, 0) ∷ []) ∷ []) (evals 1 2 then end)

other-kind : (M M' : Module) (μ : Maps) → Agrees M M' μ loads measures (λ e. e) → ⊥
unfolding mentioned mentions_s mentions_e seen expand_s live in_range up_from marked initials moving reached_marks close mark read_by unmarked roots ops ops_of operand kind_at kind
other-kind M M' μ a = let q : ◌≡◌ {A = ℕ} 26 12 = agrees_kind M M' μ loads measures (λ e. e) a 1 here in omega arith

-- ---- names are compared by text: "a" is the first name of one module and the second of the other
abbrev named : List Cells → Module
named ns = record { names = ns; types = []; constants = []; overrides = []; globals = []; exprs = []; functions = []; entries = []; special = record { rays = []; pairs = [] } }

abbrev a : Cells
a = (TEXT, 1) ∷ (PAD, 97) ∷ []

abbrev b : Cells
b = (TEXT, 1) ∷ (PAD, 98) ∷ []

-- a constant's record: its name, its span, its type and its init
by-text : AlikeR (named (a ∷ b ∷ [])) (named (b ∷ a ∷ [])) maps (λ e. e) ((NAME, 1) ∷ (SPAN, 3) ∷ (UPTO, 4) ∷ (TYPE, 0) ∷ (INIT, 0) ∷ []) ((NAME, 2) ∷ (SPAN, 5) ∷ (UPTO, 6) ∷ (TYPE, 0) ∷ (INIT, 0) ∷ [])
unfolding text_of plain carried carriers through
by-text = next (text refl) (next start (next upto (next (field refl refl) (next (field refl refl) over))))

not_by_number : Alike (named (a ∷ b ∷ [])) (named (b ∷ a ∷ [])) maps (λ e. e) NAME 1 1 → ⊥
unfolding text_of plain
not_by_number (text h) = let z : ◌≡◌ {A = ℕ} 97 98 = cc in omega arith
not_by_number (field h q) = false≢true h

-- ---- what is carried, computed where each map adds 1: an optional operand, and none; a callee; the arms of an If, each in its place
abbrev raised : Maps
raised = record { type = suc; constant = suc; override = suc; global = suc; global_expr = suc; function = suc; in_function = λ i. suc; in_entry = λ i. suc }

abbrev calling : ℕ → XForm
calling h = call h [] none

carried-operand : carry_cells raised suc ((OPT_EXPR, 1) ∷ (OPT_EXPR, 0) ∷ []) ≡ (OPT_EXPR, 2) ∷ (OPT_EXPR, 0) ∷ []
unfolding carry_cells carried carriers through opt_word
carried-operand = refl

carried-callee : carry_f (calling 1) raised suc ≡ calling 2
unfolding carry_f carry_opt
carried-callee = refl

carried_arms : carry_f (branch 0 (stmt 0 0 kill then end) end) raised suc ≡ branch 1 (stmt 0 0 kill then end) end
unfolding carry_f carry_b carry_s
carried_arms = refl
