-- `is_mapped_word` meets its contract: each arm is one kind of word.
use mathlib.Core.Path.{sym, ◌∙◌}
use native.Mathlib.Omega.{arith}
use borrow.Author.Tests.{not-true}
use Rattle.derive_state.proofs.Classes.{code_meant}
use Rattle.derive_imports.proofs.Steps.{code_none}
use Rattle.function_outside.proofs.Cells.{record_found, own_found, nothing_found}
use Rattle.function_builder.proofs.Carries.{no_function}
use Rattle.function_runs.proofs.Quiets.{ne_zero, code-some, quiet-nothing, quiet_record, quiet_own, quiet-beyond}
use Rattle.function_runs.proofs.is_mapped_word.Goals as goal

pub offset_bounds-maps-r : goal.offset_bounds-maps-r
offset_bounds-maps-r c = let a = c.args in let q = record_found a.s a.w c.in-Some-Record.field-0-is c.in-Some-Record.ensures in let low = q.3 in omega arith

pub bounds-maps-r : goal.bounds-maps-r
bounds-maps-r c = let a = c.args in let q = record_found a.s a.w c.in-Some-Record.field-0-is c.in-Some-Record.ensures in q.3

pub bounds-maps-r-in-Some-Record : goal.bounds-maps-r-in-Some-Record
bounds-maps-r-in-Some-Record c = let a = c.args in let q = record_found a.s a.w c.in-Some-Record.field-0-is c.in-Some-Record.ensures in let low = q.3 in rw q.2 (c.requires.w_bound.0 q.0 (rw q.1 at low))

pub bounds-exprmap-e : goal.bounds-exprmap-e
bounds-exprmap-e c = let a = c.args in let q = own_found a.s a.w c.in-Some-Own.field-0-is c.in-Some-Own.ensures in rw q.2 (c.requires.w_bound.1 q.0 (sym q.1))

pub returns-then-s-ne-STMT_KIND : goal.returns-then-s-ne-STMT_KIND
returns-then-s-ne-STMT_KIND c = let a = c.args in λ _. quiet-nothing a.maps.now a.exprmap.now a.s a.w (sym (code_none a.s a.w c.in-Nothing.ensures.0)) c.if-s-ne-FROM.true (λ q. absurd (c.if-s-ne-STMT_KIND.true q))

pub returns-else-s-ne-STMT_KIND : goal.returns-else-s-ne-STMT_KIND
returns-else-s-ne-STMT_KIND c = let a = c.args in λ q. quiet-nothing a.maps.now a.exprmap.now a.s a.w (sym (code_none a.s a.w c.in-Nothing.ensures.0)) c.if-s-ne-FROM.true (λ _. sym c.atomic.ensures ∙ not-true _ q)

pub returns-in-None : goal.returns-in-None
returns-in-None c = let a = c.args in let u = c.target_of in let e = u.ensures in λ _. quiet-beyond a.maps.now a.exprmap.now a.s a.w (λ q. code-some u.result e.1 c.in_default.not-Nothing (code_meant a.s a.w e.0 ∙ q)) (λ q. no_function u.result c.in_default.not-Function e.1 (code_meant a.s a.w e.0 ∙ q)) (nothing_found a.s a.w c.in-None.ensures)

pub returns-in-Some-Record : goal.returns-in-Some-Record
returns-in-Some-Record c = let a = c.args in let u = c.target_of in let e = u.ensures in let r = record_found a.s a.w c.in-Some-Record.field-0-is c.in-Some-Record.ensures in λ q. quiet_record a.maps.now a.exprmap.now a.s a.w (λ q. code-some u.result e.1 c.in_default.not-Nothing (code_meant a.s a.w e.0 ∙ q)) (λ q. no_function u.result c.in_default.not-Function e.1 (code_meant a.s a.w e.0 ∙ q)) r.1 r.2 r.0 (ne_zero _ q)

pub returns-in-Some-Own : goal.returns-in-Some-Own
returns-in-Some-Own c = let a = c.args in let u = c.target_of in let e = u.ensures in let r = own_found a.s a.w c.in-Some-Own.field-0-is c.in-Some-Own.ensures in λ q. quiet_own a.maps.now a.exprmap.now a.s a.w (λ q. code-some u.result e.1 c.in_default.not-Nothing (code_meant a.s a.w e.0 ∙ q)) (λ q. no_function u.result c.in_default.not-Function e.1 (code_meant a.s a.w e.0 ∙ q)) r.1 r.2 r.0 (ne_zero _ q)
