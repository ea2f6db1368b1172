-- Layout again: the derived function is laid out as its source, its lists are within their limits, and its blocks are as deep.
use Rattle.std.specs.Prelude.{ℕ, suc, ◌<◌, ◌≡◌, refl, Bool, true, false, ◌||◌, List, [], ◌∷◌, ◌++◌, map, eqb, length, get_or}
use Rattle.std.proofs.Common.{sym, ◌∙◌, subst, arith, eqb-true}
use Rattle.std.proofs.lemmas.Bool.{false≢true}
use Rattle.std.proofs.Math.Nat.{le_trans}
use Rattle.std.proofs.Math.Decide.{dec_lt}
use Rattle.std.proofs.lemmas.List.{length-map}
use Rattle.std.proofs.Math.ListN.{get_or-eq_default}
use Rattle.model.specs.Outcome.{Cells, class, word}
use Rattle.model.specs.Table.{Row, SPAN, UPTO, NAME, NAMED-EXPR, EXPRESSIONS, NAMED, expression_row, counted, brings, more}
use Rattle.model.specs.Tree.{Stmt, Form, Block, Case, Cases, Range, Function}
use Rattle.model.specs.Module.{Module}
use Rattle.model.specs.Carry.{carry_f, Each, each_none, each_next, Lays, lays_none, lays_next, OkS, OkF, OkB, OkBs, OkK, OkC, ok_stmt, ok_emit, ok_block, ok_branch, ok_switch, ok_loop, ok_break, ok_continue, ok_return, ok_kill, ok-call, ok_effect, ok_deeper, ok_end, ok_then, ok_case, ok_nomore, ok_also, WellFunction}
use Rattle.model.specs.References.{through, alike_c, alike}
use Rattle.model.specs.Callees.{callees}
use Rattle.model.specs.Imports.{Derived}
use Rattle.model.specs.Bodies.{Builder, mapped_to, carried, import_stmt, import_block, import_case, carried_form, rebuild_stmt, rebuild_form, rebuild_block, rebuild_case, rebuild_cases, named_rows, declared, rebuilt, kept_names, derived, final, localized}
use Rattle.theory_records.specs.Passing.{through_keeps, lays_shift}
use Rattle.theory_image.specs.Plain.{plain_more}
use Rattle.theory_image.specs.Carries.{lays_carry}
use Rattle.theory_records.specs.RecordLaws.{alike_self}
use Rattle.theory_bodies.specs.Lists.{All}
use Rattle.theory_bodies.specs.Context.{Law}
use Rattle.theory_bodies.specs.Inv.{Has, place, Inv}
use Rattle.theory_bodies.specs.Function.{Fine, ctx, holds}
use Rattle.theory_bodies.specs.Size.{exprs_fewer, named_fewer}
use Rattle.theory_bodies.specs.Passing.{Passes, fine, row_lays}

-- ---- a record carried, its span moved

pub lays_carried : (o : ℕ) (M : Module) (st : Builder) {ss : Row} {r : Cells} → Lays ss r → Lays ss (carried o M st r)
unfolding carried
lays_carried o M st l = lays_shift (lays_carry (through (mapped_to M st)) (through_keeps (mapped_to M st)) l) o false

pub each_carried : (o : ℕ) (M : Module) (st : Builder) {ss : Row} {rs : List Cells} → Each (Lays ss) rs → Each (Lays ss) (map (carried o M st) rs)
each_carried o M st each_none = each_none
each_carried o M st (each_next l e) = each_next (lays_carried o M st l) (each_carried o M st e)

-- ---- records that are equal, ignoring spans
lays_alike : {ss : Row} {b : Cells} → Lays ss b → (a : Cells) → alike a b ≡ true → Lays ss a
unfolding alike alike_c
lays_alike lays_none [] h = lays_none
lays_alike lays_none (d ∷ ds) h = absurd (false≢true h)
lays_alike (lays_next e l) [] h = absurd (false≢true h)
lays_alike (lays_next {s} {w} {xs} {ss} {cs} e l) (d ∷ ds) h = go (eqb (class d) s) (eqb (word d) w) (eqb (class d) SPAN) (eqb (class d) UPTO) refl refl refl refl h (lays_alike l ds)
  where
    same_more : class d ≡ s → more (class d) (word d) ≡ brings xs → (alike ds cs ≡ true → Lays (xs ++ ss) ds) → alike ds cs ≡ true → Lays (s ∷ ss) (d ∷ ds)
    same_more k m ih t = subst (λ (x : ℕ). Lays (x ∷ ss) (d ∷ ds)) k (lays_next m (ih t))

    go : (p q x y : Bool) → eqb (class d) s ≡ p → eqb (word d) w ≡ q → eqb (class d) SPAN ≡ x → eqb (class d) UPTO ≡ y
        → elim (let t : Bool = elim p [ true ↦ elim q [ true ↦ true | false ↦ x || y ] | false ↦ false ] in t) [ true ↦ alike ds cs | false ↦ false ] ≡ true
        → (alike ds cs ≡ true → Lays (xs ++ ss) ds) → Lays (s ∷ ss) (d ∷ ds)
    go true true x y a b c z h ih = let k = eqb-true (class d) s a in same_more k (rw (k, eqb-true (word d) w b) e) ih h
    go true false true y a b c z h ih =
        let k = eqb-true (class d) s a in
        let t : class d ≡ SPAN = eqb-true (class d) SPAN c in
        same_more k (rw t (plain_more SPAN (word d) refl ∙ (sym (plain_more SPAN w refl) ∙ (let f : s ≡ SPAN = sym k ∙ t in rw f at e)))) ih h
    go true false false true a b c z h ih =
        let k = eqb-true (class d) s a in
        let t : class d ≡ UPTO = eqb-true (class d) UPTO z in
        same_more k (rw t (plain_more UPTO (word d) refl ∙ (sym (plain_more UPTO w refl) ∙ (let f : s ≡ UPTO = sym k ∙ t in rw f at e)))) ih h
    go true false false false a b c z h ih = absurd (false≢true h)
    go false q x y a b c z h ih = absurd (false≢true h)

each_of : {ss : Row} (rs : List Cells) → ((k : ℕ) → k < length rs → Lays ss (get_or rs k [])) → Each (Lays ss) rs
each_of [] f = each_none
each_of (r ∷ rs) f = each_next (f 0 (omega arith)) (each_of rs (λ k h. f (suc k) (omega arith)))

-- ---- statements
module _ (o : ℕ) (M : Module) (follow : ℕ → Derived → Derived) (p q : ℕ → Builder → Builder) where
  mutual
    unfolding rebuild_form carried_form carry_f

    ok_s : {s : Stmt Range} {d : ℕ} → OkS d s → (st : Builder) → OkS d (rebuild_stmt o M follow p q s st)
    ok_s (ok_stmt w) st = ok_stmt (ok_f w st)

    ok_f : {g : Form Range} {d : ℕ} → OkF d g → (st : Builder) → OkF d (rebuild_form o M follow p q g st)
    ok_f ok_emit st = ok_emit
    ok_f (ok_block w) st = ok_block (ok_b w st)
    ok_f (ok_branch {c = e} {a = a} w v) st = ok_branch (ok_b w (p e st)) (ok_b v (import_block o M follow p q a (p e st)))
    ok_f (ok_switch {c = e} w) st = ok_switch (ok_c w (p e st))
    ok_f (ok_loop {a = a} w v) st = ok_loop (ok_b w st) (ok_b v (import_block o M follow p q a st))
    ok_f ok_break st = ok_break
    ok_f ok_continue st = ok_continue
    ok_f ok_return st = ok_return
    ok_f ok_kill st = ok_kill
    ok_f ok-call st = ok-call
    ok_f (ok_effect e l) st = ok_effect e (lays_carry _ (through_keeps _) l)

    pub ok_b : {b : Block Range} {d : ℕ} → OkB d b → (st : Builder) → OkB d (rebuild_block o M follow p q b st)
    ok_b (ok_deeper w) st = ok_deeper (ok_bs w st)

    ok_bs : {b : Block Range} {d : ℕ} → OkBs d b → (st : Builder) → OkBs d (rebuild_block o M follow p q b st)
    ok_bs ok_end st = ok_end
    ok_bs (ok_then {s = s} w v) st = ok_then (ok_s w st) (ok_bs v (import_stmt o M follow p q s st))

    ok_k : {k : Case Range} {d : ℕ} → OkK d k → (st : Builder) → OkK d (rebuild_case o M follow p q k st)
    ok_k (ok_case l w) st = ok_case l (ok_b w st)

    ok_c : {ks : Cases Range} {d : ℕ} → OkC d ks → (st : Builder) → OkC d (rebuild_cases o M follow p q ks st)
    ok_c ok_nomore st = ok_nomore
    ok_c (ok_also {k = k} w v) st = ok_also (ok_k w st) (ok_c v (import_case o M follow p q k st))

-- ---- the function
named_lays : (ps : List (ℕ × ℕ)) (f : ℕ → ℕ) → Each (Lays (counted NAMED)) (named_rows ps f)
unfolding named_rows counted
named_lays [] f = each_none
named_lays (p ∷ ps) f = each_next (lays_next (plain_more NAMED-EXPR p.0 refl) (lays_next (plain_more NAME (f p.1) refl) lays_none)) (named_lays ps f)

module _ (o : ℕ) (M : Module) (follow : ℕ → Derived → Derived) (Q : ℕ → Type 0) (G : Derived → Type 0) (law : Law o M follow Q G) (F : Function) (pass : Passes M F) (calls : All Q (callees F)) (s : Derived) (good : G s) where
  abbrev fit : Fine (ctx o M follow Q G law F) F
  fit = fine o M follow Q G law F pass calls

  abbrev fin : Builder
  fin = final o M follow F s

  abbrev inv : Inv (ctx o M follow Q G law F) fin
  inv = holds o M follow Q G law F fit s good

  made_lays : (k : ℕ) → k < length fin.made → Lays expression_row (get_or fin.made k [])
  made_lays k h = go (inv.from k h)
    where
      here : (e : ℕ) → Has fin.memo e → e < length F.exprs
      here e h = elim (dec_lt e (length F.exprs)) [ yes l ↦ l | no l ↦ absurd (omega (arith, get_or-eq_default fin.memo 0 {n = e} (omega (arith, inv.size)))) ]

      go : (e : ℕ) × Has fin.memo e × (place fin.memo e ≡ k) → Lays expression_row (get_or fin.made k [])
      go b = rw (← b.2) (lays_alike (lays_carry (through (mapped_to M fin)) (through_keeps (mapped_to M fin)) (row_lays o M follow Q G law F pass calls b.0 (here b.0 b.1))) _ (alike_self _ _ (inv.found b.0 b.1).same))

  made_each : Each (Lays (counted EXPRESSIONS)) fin.made
  unfolding counted expression_row
  made_each = each_of fin.made made_lays

  -- LAYOUT AGAIN
  pub well_again : WellFunction (localized o M follow F s)
  unfolding localized derived rebuilt kept_names
  well_again =
      let d : Builder = declared o M follow F s in
      let w = pass.well in
      record {
        head_ok = lays_carried o M d w.head_ok;
        arguments_ok = record { few = rw (length-map F.arguments (carried o M d)) w.arguments_ok.few; each = each_carried o M d w.arguments_ok.each };
        result_ok_lem = lays_carried o M d w.result_ok_lem;
        locals_ok = record { few = rw (length-map F.locals (carried o M d)) w.locals_ok.few; each = each_carried o M d w.locals_ok.each };
        exprs_ok = record { few = le_trans (exprs_fewer o M follow Q G law F fit s good) w.exprs_ok.few; each = made_each };
        named_ok = record { few = le_trans (named_fewer o M follow Q G law F fit s good) w.named_ok.few; each = named_lays _ _ };
        body_ok = ok_b o M follow _ _ w.body_ok d;
      }
