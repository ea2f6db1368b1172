-- The words of a body, by places: an Emit's start is followed by its end, a range of the function's expressions; the callees are what `callees` lists, functions of the table; and no other word names a function.
-- What holds of the cells of each form of statement, and of runs one after the other, holds of the body's (`Closed`).
use Rattle.std.specs.Prelude.{◌≡◌, ◌⊎◌, Bool, true, false, cond, ◌&&◌, ◌||◌, not, List, [], ◌∷◌, ◌++◌, map, ℕ, zero, suc, ◌+◌, ◌-◌, ◌≤◌, ◌<◌, eqb, ltb, length, get_or}
use Rattle.std.proofs.Math.Path.{refl}
use Rattle.std.proofs.Common.{sym, ap, ◌∙◌, subst, inl, inr, ⊎_elim, arith}
use Rattle.std.proofs.Math.Option.{some}
use Rattle.std.proofs.Math.ListN.{get_elem?}
use borrow.Author.Tests.{eq-eqb, eqb-true, eqb-false, ltb-true, ltb-false, not-true}
use Rattle.theory_lists.specs.Booleans.{and_split}
use Rattle.model.specs.Outcome.{Cell, Cells, class, word}
use Rattle.model.specs.Table.{Row, SPAN, UPTO, FUNCTION, CALLEE, EXPR, OPT_EXPR, FROM, TO, OPT_RESULT, OPERANDS, VALUE, BLOCK, CASES, LENGTH, STMT_KIND, s_effect, statements}
use Rattle.model.specs.Tree.{Stmt, Form, Block, Case, Cases, Range, Function, flat, flat_x, flat_s, flat_f, flat_b, flat_k, flat_c, flat_block}
use Rattle.model.specs.Module.{count_at}
use Rattle.model.specs.Carry.{Lays, Each, each_none, each_next, OkS, OkF, OkB, OkBs, OkK, OkC, ok_stmt, ok_emit, ok_block, ok_branch, ok_switch, ok_loop, ok_break, ok_continue, ok_return, ok_kill, ok-call, ok_effect, ok_deeper, ok_end, ok_then, ok_case, ok_nomore, ok_also, WellFunction}
use Rattle.model.specs.Numbers.{caps, bound, below, outside, inside}
use Rattle.model.specs.Tables.{code_t}
use Rattle.model.specs.References.{Target, copied, targets, target}
use Rattle.model.specs.Callees.{callees}
use Rattle.model.specs.Initial.{Mem, here, there}
use Rattle.theory_image.specs.Quiet.{each_append}
use Rattle.theory_image.specs.FunctionViews.{among, split_or, part_end, taped_functions}
use Rattle.theory_order.specs.Cells.{picks, callees_in, cells_function}
use Rattle.theory_order.specs.Numbered.{sound-below}
use Rattle.theory_finish.specs.Classes.{Not, calm?, calms?, fromless, functionless, effect_functionless}
use Rattle.theory_bodies.specs.Lists.{All, mem_all}
use Rattle.theory_bodies.specs.Classes.{among_elim, Effects, e-none, e-last, e-more, effects_of, effect_cells, result_cells}
use Rattle.derive_state.specs.Refers.{code_p, target_of}
use Rattle.derive_state.specs.Source.{mod_of}
use Rattle.function_parts.specs.Part.{Part, Indexed, k_many, body_run, order}
use Rattle.function_parts.specs.Places.{place_in, place-class, place-word, each_place, place-below, ordered_at}
use Rattle.function_parts.specs.Fitting.{withins}

-- ---- what holds of every part
-- the classes of the tree of statements, but for an Emit's range; fall_through is a code below 2
abbrev TREE : List ℕ
TREE = 2 ∷ SPAN ∷ UPTO ∷ CALLEE ∷ EXPR ∷ OPT_EXPR ∷ OPT_RESULT ∷ OPERANDS ∷ BLOCK ∷ CASES ∷ LENGTH ∷ STMT_KIND ∷ []

record Closed (L : Cells → Type 0) : Type 0 where
  none : L []
  append : {xs ys : Cells} → L xs → L ys → L (xs ++ ys)
  one : {s : ℕ} (w : ℕ) {cs : Cells} → among s TREE ≡ true → L cs → L ((s, w) ∷ cs)
  range : (a b : ℕ) → L ((FROM, a) ∷ (TO, b) ∷ [])
  effect : (k : ℕ) {ss : Row} {cs : Cells} → get_elem? statements k ≡ some (s_effect ss) → Lays ss cs → L cs
  value : {v : Cells} → Lays (VALUE ∷ []) v → L v

module _ (L : Cells → Type 0) (c : Closed L) where
  operands_hold : (xs : List ℕ) → L (map (λ x. (EXPR, x)) xs)
  operands_hold [] = c.none
  operands_hold (x ∷ xs) = c.one x refl (operands_hold xs)

  mutual
    unfolding flat_s flat_f flat_b flat_k flat_c flat_x

    stmt_holds : {d : ℕ} {s : Stmt Range} → OkS d s → L (flat_s s)
    stmt_holds (ok_stmt f) = c.one _ refl (c.one _ refl (c.one _ refl (c.one _ refl (form-holds f))))

    form-holds : {d : ℕ} {f : Form Range} → OkF d f → L (flat_f f)
    form-holds ok_emit = c.range _ _
    form-holds (ok_block b) = c.one _ refl (block_holds b)
    form-holds (ok_branch a b) = c.one _ refl (c.append (c.one _ refl (block_holds a)) (c.one _ refl (block_holds b)))
    form-holds (ok_switch ks) = c.one _ refl (c.one _ refl (cases_hold ks))
    form-holds (ok_loop a b) = c.append (c.append (c.one _ refl (block_holds a)) (c.one _ refl (block_holds b))) (c.one _ refl c.none)
    form-holds ok_break = c.none
    form-holds ok_continue = c.none
    form-holds ok_return = c.one _ refl c.none
    form-holds ok_kill = c.none
    form-holds (ok-call {xs}) = c.one _ refl (c.append (c.one _ refl (operands_hold xs)) (c.one _ refl c.none))
    form-holds (ok_effect {k} e l) = c.effect k e l

    block_holds : {d : ℕ} {b : Block Range} → OkB d b → L (flat_b b)
    block_holds (ok_deeper b) = then_holds b

    then_holds : {d : ℕ} {b : Block Range} → OkBs d b → L (flat_b b)
    then_holds ok_end = c.none
    then_holds (ok_then s b) = c.append (stmt_holds s) (then_holds b)

    case_holds : {d : ℕ} {k : Case Range} → OkK d k → L (flat_k k)
    case_holds (ok_case v b) = c.append (c.append (c.value v) (c.one _ refl (block_holds b))) (c.one _ refl c.none)

    cases_hold : {d : ℕ} {ks : Cases Range} → OkC d ks → L (flat_c ks)
    cases_hold ok_nomore = c.none
    cases_hold (ok_also k ks) = c.append (case_holds k) (cases_hold ks)

  body-holds : {F : Function} → WellFunction F → L (flat_block F.body)
  unfolding flat_block
  body-holds w = c.one _ refl (block_holds w.body_ok)

-- ---- a start is followed by an end
data Paired : Cells → Type 0 where
  p-none : Paired []
  p-cell : {c : Cell} {cs : Cells} → Not FROM c → Paired cs → Paired (c ∷ cs)
  p_range : {a b : ℕ} {cs : Cells} → Paired cs → Paired ((FROM, a) ∷ (TO, b) ∷ cs)

paired_append : {xs ys : Cells} → Paired xs → Paired ys → Paired (xs ++ ys)
paired_append p-none q = q
paired_append (p-cell n p) q = p-cell n (paired_append p q)
paired_append (p_range p) q = p_range (paired_append p q)

each_paired : {cs : Cells} → Each (Not FROM) cs → Paired cs
each_paired each_none = p-none
each_paired (each_next n ns) = p-cell n (each_paired ns)

effects_paired : {cs : Cells} → Effects cs → Paired cs
effects_paired e-none = p-none
effects_paired (e-last {s} h) = p-cell (result_cells (λ s. eqb s FROM ≡ false) refl refl s h) p-none
effects_paired (e-more {s} h e) = p-cell (effect_cells (λ s. eqb s FROM ≡ false) refl refl refl refl s h) (effects_paired e)

tree_not_from : (s : ℕ) → among s TREE ≡ true → eqb s FROM ≡ false
tree_not_from = among_elim (λ s. eqb s FROM ≡ false) TREE (refl, (refl, (refl, (refl, (refl, (refl, (refl, (refl, (refl, (refl, (refl, (refl, tt))))))))))))

pairs_closed : Closed Paired
pairs_closed = record {
  none = p-none;
  append = paired_append;
  one = λ {s} w h q. p-cell (tree_not_from s h) q;
  range = λ a b. p_range p-none;
  effect = λ k e l. effects_paired (effects_of k e l);
  value = λ l. each_paired (fromless l (unfold calms? calm? in refl));
}

paired_at : {cs : Cells} → Paired cs → (j : ℕ) → j < length cs → class (get_or cs j (0, 0)) ≡ FROM → (suc j < length cs) × (class (get_or cs (suc j) (0, 0)) ≡ TO)
paired_at p-none j h e = absurd (omega arith)
paired_at (p-cell {c} n p) zero h e = absurd (eqb-false (class c) FROM n e)
paired_at (p-cell n p) (suc j) h e = let r = paired_at p j (omega arith) e in (omega (arith, r.0), r.1)
paired_at (p_range p) zero h e = (omega arith, refl)
paired_at (p_range p) (suc zero) h e = absurd (omega arith)
paired_at (p_range p) (suc (suc j)) h e = let r = paired_at p j (omega arith) e in (omega (arith, r.0), r.1)

-- ---- no word of a body is the function of a CallResult
tree_not_function : (s : ℕ) → among s TREE ≡ true → eqb s FUNCTION ≡ false
tree_not_function = among_elim (λ s. eqb s FUNCTION ≡ false) TREE (refl, (refl, (refl, (refl, (refl, (refl, (refl, (refl, (refl, (refl, (refl, (refl, tt))))))))))))

functions_closed : Closed (Each (Not FUNCTION))
functions_closed = record {
  none = each_none;
  append = each_append;
  one = λ {s} w h q. each_next (tree_not_function s h) q;
  range = λ a b. each_next refl (each_next refl each_none);
  effect = λ k e l. effect_functionless k e l;
  value = λ l. functionless l (unfold calms? calm? in refl);
}

-- ---- the classes that refer to a function: FUNCTION and CALLEE
only : List Target → ℕ → Bool
only [] i = true
only (t ∷ ts) i = (not (eqb (target_of t) 7) || (eqb i (FUNCTION - SPAN) || eqb i (CALLEE - SPAN))) && only ts (suc i)

only_at : (ts : List Target) (i : ℕ) → only ts i ≡ true → (j : ℕ) → target_of (get_or ts j copied) ≡ 7 → (i + j ≡ FUNCTION - SPAN) ⊎ (i + j ≡ CALLEE - SPAN)
unfolding only target_of
only_at [] i h j e = absurd (omega arith)
only_at (t ∷ ts) i h zero e =
    let a = and_split (not (eqb (target_of t) 7) || (eqb i (FUNCTION - SPAN) || eqb i (CALLEE - SPAN))) (only ts (suc i)) h in
    split_or (not (eqb (target_of t) 7)) (eqb i (FUNCTION - SPAN) || eqb i (CALLEE - SPAN)) a.0 (λ n. absurd (eqb-false (target_of t) 7 (not-true (eqb (target_of t) 7) n) e)) λ b.
    split_or (eqb i (FUNCTION - SPAN)) (eqb i (CALLEE - SPAN)) b (λ q. inl (omega (arith, eqb-true i (FUNCTION - SPAN) q))) λ q. inr (omega (arith, eqb-true i (CALLEE - SPAN) q))
only_at (t ∷ ts) i h (suc j) e =
    ⊎_elim (λ q. inl (omega arith)) (λ q. inr (omega arith))
    (only_at ts (suc i) (and_split (not (eqb (target_of t) 7) || (eqb i (FUNCTION - SPAN) || eqb i (CALLEE - SPAN))) (only ts (suc i)) h).1 j e)

pub function-class : (s : ℕ) → target_of (target s) ≡ 7 → (s ≡ FUNCTION) ⊎ (s ≡ CALLEE)
unfolding target only targets target_of code_p code_t
function-class s h = go (ltb s SPAN) refl h
  where
    go : (b : Bool) → ltb s SPAN ≡ b → target_of (elim b [ true ↦ copied | false ↦ get_or targets (s - SPAN) copied ]) ≡ 7 → (s ≡ FUNCTION) ⊎ (s ≡ CALLEE)
    go true l e = absurd (omega arith)
    go false l e =
        let m : SPAN ≤ s = ltb-false s SPAN l in
        ⊎_elim (λ q. inl (omega arith)) (λ q. inr (omega arith)) (only_at targets 0 refl (s - SPAN) e)

-- ---- the words of the class CALLEE are the callees
picked : (cs : Cells) (j : ℕ) → j < length cs → class (get_or cs j (0, 0)) ≡ CALLEE → Mem (word (get_or cs j (0, 0))) (callees_in cs)
unfolding picks
picked [] j h e = absurd (omega arith)
picked (c ∷ cs) zero h e = rw (eq-eqb (class c) CALLEE e) here
picked (c ∷ cs) (suc j) h e = go (eqb (class c) CALLEE) (picked cs j (omega arith) e)
  where
    go : (b : Bool) → Mem (word (get_or cs j (0, 0))) (callees_in cs) → Mem (word (get_or cs j (0, 0))) (cond b (word c ∷ callees_in cs) (callees_in cs))
    go true m = there m
    go false m = m

-- an Emit at its place
pub record EmitAt (words tags : List ℕ) (k end i : ℕ) : Type 0 where
  pub next_in : suc i < end
  pub next_is : get_or tags (suc i) 0 ≡ TO
  pub rises : get_or words i 0 ≤ get_or words (suc i) 0
  pub few : get_or words (suc i) 0 ≤ k

all_of : {P Q : ℕ → Type 0} {js : List ℕ} → ((j : ℕ) → P j → Q j) → Each P js → All Q js
all_of f each_none = tt
all_of f (each_next {a} p ps) = (f a p, all_of f ps)

-- LAW: what is called is in the table
pub callees-known : {words tags : List ℕ} {n s end : ℕ} {F : Function} → Part words tags n s end F → All (λ j. j < count_at 6 words) (callees F)
unfolding outside
callees-known {n} {F = F} p = all_of (λ j h. omega (arith, taped_functions p.source.taped)) (sound-below (outside (mod_of _ n)) F p.pass.well p.pass.three)

module _ {words tags : List ℕ} {n s end : ℕ} {F : Function} (p : Part words tags n s end F) {ea : ℕ} {places : List ℕ} {k named body : ℕ} (x : Indexed words tags s end ea places k named body) (i : ℕ) (low : body ≤ i) (high : i < end) where
  -- LAW: no function of a CallResult
  pub no_function_lem : get_or tags i 0 ≡ FUNCTION → ⊥
  no_function_lem e = eqb-false (get_or tags i 0) FUNCTION (each_place p.stands.held (body_run p x) i low high (body-holds (Each (Not FUNCTION)) functions_closed p.pass.well)) e

  -- so a word that refers to a function is a Call's
  pub callee-class : target_of (target (get_or tags i 0)) ≡ 7 → get_or tags i 0 ≡ CALLEE
  callee-class h = ⊎_elim (λ q. absurd (no_function_lem q)) (λ q. q) (function-class (get_or tags i 0) h)

  -- where it is in the whole function
  start_low : s ≤ i
  start_low = omega (arith, order p x)

  -- LAW: an Emit's range
  module _ (e : get_or tags i 0 ≡ FROM) where
    pair : (suc (i - body) < length (flat_block F.body)) × (class (get_or (flat_block F.body) (suc (i - body)) (0, 0)) ≡ TO)
    pair =
        let v = body_run p x in
        let o = p.stands.held in
        paired_at (body-holds Paired pairs_closed p.pass.well) (i - body) (place_in o v i low high) (sym (place-class o v i low high) ∙ e)

    next_here : suc i < end
    next_here = omega (arith, pair.0, part_end (body_run p x))

    to-here : get_or tags (suc i) 0 ≡ TO
    to-here =
        let q : suc i - body ≡ suc (i - body) = omega arith in
        place-class p.stands.held (body_run p x) (suc i) (omega arith) next_here ∙ ap (λ j. class (get_or (flat_block F.body) j (0, 0))) q ∙ pair.1

    low_end : get_or words (suc i) 0 ≤ k
    unfolding bound caps below inside outside
    low_end =
        let h = rw to-here at (place-below p.stands.held (body_run p x) (suc i) (omega arith) next_here (inside (outside (mod_of words n)) F) (withins p).in_body) in
        omega (arith, ltb-true (get_or words (suc i) 0) (suc (length F.exprs)) h, k_many p x)

    in_order_lem : get_or words i 0 ≤ get_or words (suc i) 0
    in_order_lem =
        let v = p.stands.part in
        let o = p.stands.held in
        let q : suc i - s ≡ suc (i - s) = omega (arith, start_low) in
        let a = place-word o v i start_low high in
        let b = place-word o v (suc i) (omega (arith, start_low)) next_here ∙ ap (λ j. word (get_or (flat F) j (0, 0))) q in
        rw (a, b) (ordered_at (flat F) (withins p).in_order_lem (i - s) (omega (arith, place_in o v (suc i) (omega (arith, start_low)) next_here)) (sym (place-class o v i start_low high) ∙ e))

    pub emit_at : EmitAt words tags k end i
    emit_at = record { next_in = next_here; next_is = to-here; rises = in_order_lem; few = low_end }

  -- LAWS: a Call's function
  module _ (e : get_or tags i 0 ≡ CALLEE) where
    pub callee_is : Mem (get_or words i 0) (callees F)
    callee_is =
        let v = p.stands.part in
        let o = p.stands.held in
        rw (place-word o v i start_low high) (subst (Mem _) (cells_function p.pass.well) (picked (flat F) (i - s) (place_in o v i start_low high) (sym (place-class o v i start_low high) ∙ e)))

    pub callee_in : get_or words i 0 < count_at 6 words
    callee_in = mem_all (λ j. j < count_at 6 words) callee_is (callees-known p)

    pub callee_may : (Q : ℕ → Type 0) → All Q (callees F) → Q (get_or words i 0)
    callee_may Q a = mem_all Q callee_is a
