-- From agreement in full to agreement as walks need it: bodies. Two opened bodies that agree word by word are of one tree, since each statement says its kind, each block, list and Emit its count, and each statement its length; so the target's body is the source's carried, and all that the source's mentions is kept.
use Rattle.std.specs.Prelude.{◌≡◌, Bool, get_or}
use Rattle.std.proofs.Math.Path.{refl, ap}
use Rattle.std.proofs.Common.{sym, ◌∙◌, subst, arith}
use Rattle.std.proofs.Math.Bool.{true, false}
use Rattle.std.proofs.lemmas.Bool.{false≢true}
use mathlib.Core.List.{List, [], ◌∷◌, ◌++◌, map, append_assoc, append-nil}
use Rattle.std.proofs.Math.Option.{Option, none, some}
use Prim.Native.Nat.{ℕ, zero, suc}
use Rattle.std.proofs.Math.Dec.{eqb}
use Rattle.std.proofs.Math.ListN.{length, get_elem?}
use borrow.Author.Tests.{eqb-true}
use Rattle.theory_lists.specs.Booleans.{and_first, and_second}
use Rattle.model.specs.Outcome.{Cells, class, word}
use Rattle.model.specs.Table.{SPAN, UPTO, CALLEE, EXPR, OPT_EXPR, RESULT, OPT_RESULT, OPERANDS, BLOCK, CASES, LENGTH, STMT_KIND, VALUE, WORD, Shape, s_emit, s_block, s_if, s_switch, s_loop, s_break, s_continue, s_return, s_kill, s_call, s_effect, statements}
use Rattle.model.specs.Tree.{Stmt, Form, Block, Case, Cases, stmt, emit, block, branch, switch, loop, break, continue, return, kill, call, effect, end, ◌then◌, case, nomore, ◌also◌, Range, opt_of, word_of, kind_of, size_b, size_c, flat_x, flat_s, flat_f, flat_b, flat_k, flat_c, flat_block}
use Rattle.model.specs.Module.{Module}
use Rattle.model.specs.Carry.{OkS, OkF, OkB, OkBs, OkK, OkC, ok_stmt, ok_emit, ok_block, ok_branch, ok_switch, ok_loop, ok_break, ok_continue, ok_return, ok_kill, ok-call, ok_effect, ok_deeper, ok_then, ok_case, ok_also}
use Rattle.model.specs.Operands.{optional, operand, ops_of, result_of, ops}
use Rattle.model.specs.Initial.{here, there}
use Rattle.model.specs.Scope.{XStmt, XForm, XBlock, XCase, XCases, in_range, live, evals_opt, expand_s, expand_f, expand, expand_k, expand_c}
use Rattle.model.specs.References.{Target, copied, ref, opt, own, function, targets, target, first_word}
use Rattle.model.specs.Agreement.{Mapping, opened, becomes, agrees_w, agrees_r}
use Rattle.theory_image.specs.Words.{word_of_lem}
use Rattle.theory_walks.specs.Members.{Each, each_none, each_append, each_cons}
use Rattle.theory_walks.specs.Agreement.{carried, plain, Alike, AlikeR, over, next, carry_opt, carry_cells, carry_s, carry_f, carry_b, carry_k, carry_c, mentions_e, mentions_s, mentions_f, mentions_b, mentions_k, mentions_c}
use Rattle.theory_walks.specs.Agreement as Old
use Rattle.theory_walks.specs.WholeLaws.{parts, joined}
use Rattle.theory_walks.specs.WholeWords.{made, to}
use Rattle.theory_walks.proofs.WholeWords.{record_with}
use Rattle.theory_walks.specs.WholeRows.{calm, calm_c, effect_calm, opened-calm, Value, v_i32, v_u32, v_default, value_of}

-- ---- forms of one kind
data View : Shape → Form Range → Type 0 where
  v_emit : {r : Range} → View s_emit (emit r)
  v_block : {d : ℕ} {b : Block Range} → OkB d b → View s_block (block b)
  v_branch : {d c : ℕ} {a b : Block Range} → OkB d a → OkB d b → View s_if (branch c a b)
  v_switch : {d c : ℕ} {ks : Cases Range} → OkC d ks → View s_switch (switch c ks)
  v_loop : {d : ℕ} {a b : Block Range} {x : Option ℕ} → OkB d a → OkB d b → View s_loop (loop a b x)
  v_break : View s_break break
  v_continue : View s_continue continue
  v_return : {x : Option ℕ} → View s_return (return x)
  v_kill : View s_kill kill
  v-call : {f : ℕ} {ys : List ℕ} {r : Option ℕ} → View s_call (call f ys r)
  v_effect : {ss : List ℕ} {k : ℕ} {cs : Cells} → calm_c cs ≡ true → View (s_effect ss) (effect k cs)

view : {d : ℕ} {f : Form Range} → OkF d f → (sh : Shape) × (get_elem? statements (kind_of f) ≡ some sh) × View sh f
unfolding statements kind_of
view ok_emit = (s_emit, refl, v_emit)
view (ok_block p) = (s_block, refl, v_block p)
view (ok_branch p q) = (s_if, refl, v_branch p q)
view (ok_switch p) = (s_switch, refl, v_switch p)
view (ok_loop p q) = (s_loop, refl, v_loop p q)
view ok_break = (s_break, refl, v_break)
view ok_continue = (s_continue, refl, v_continue)
view ok_return = (s_return, refl, v_return)
view ok_kill = (s_kill, refl, v_kill)
view ok-call = (s_call, refl, v-call)
view (ok_effect {k = k} {ss = ss} {cs = cs} q l) = (s_effect ss, q, v_effect (effect_calm k ss cs q l))

data Same : Form Range → Form Range → Type 0 where
  s_emit_lem : {r r' : Range} → Same (emit r) (emit r')
  s_block_lem : {d d' : ℕ} {b b' : Block Range} → OkB d b → OkB d' b' → Same (block b) (block b')
  s_branch : {d d' c c' : ℕ} {a b a' b' : Block Range} → OkB d a → OkB d b → OkB d' a' → OkB d' b' → Same (branch c a b) (branch c' a' b')
  s_switch_lem : {d d' c c' : ℕ} {ks ks' : Cases Range} → OkC d ks → OkC d' ks' → Same (switch c ks) (switch c' ks')
  s_loop_lem : {d d' : ℕ} {a b a' b' : Block Range} {x x' : Option ℕ} → OkB d a → OkB d b → OkB d' a' → OkB d' b' → Same (loop a b x) (loop a' b' x')
  s_break_lem : Same break break
  s_continue_lem : Same continue continue
  s_return_lem : {x x' : Option ℕ} → Same (return x) (return x')
  s_kill_lem : Same kill kill
  s_call_lem : {f f' : ℕ} {ys ys' : List ℕ} {r r' : Option ℕ} → Same (call f ys r) (call f' ys' r')
  s_effect_lem : {k : ℕ} {cs cs' : Cells} → calm_c cs ≡ true → calm_c cs' ≡ true → Same (effect k cs) (effect k cs')

same_view : {sh : Shape} {f f' : Form Range} → View sh f → View sh f' → kind_of f ≡ kind_of f' → Same f f'
unfolding kind_of
same_view v_emit v_emit q = s_emit_lem
same_view (v_block a) (v_block b) q = s_block_lem a b
same_view (v_branch a b) (v_branch c d) q = s_branch a b c d
same_view (v_switch a) (v_switch b) q = s_switch_lem a b
same_view (v_loop a b) (v_loop c d) q = s_loop_lem a b c d
same_view v_break v_break q = s_break_lem
same_view v_continue v_continue q = s_continue_lem
same_view v_return v_return q = s_return_lem
same_view v_kill v_kill q = s_kill_lem
same_view v-call v-call q = s_call_lem
same_view (v_effect {k = k} {cs = cs} a) (v_effect {k = k'} {cs = cs'} b) q = subst (λ j. Same (effect k cs) (effect j cs')) q (s_effect_lem a b)

same_of : {d d' : ℕ} {f f' : Form Range} → OkF d f → OkF d' f' → kind_of f ≡ kind_of f' → Same f f'
same_of {f = f} {f' = f'} p p' q =
    let a = view p in
    let b = view p' in
    let z : some b.0 ≡ some a.0 = sym b.1 ∙ ap (get_elem? statements) (sym q) ∙ a.1 in
    let y : b.0 ≡ a.0 = cc in
    same_view a.2 (subst (λ s. View s f') y b.2) q

-- ---- words
module _ (M M' : Module) (μ : Mapping) (o : List ℕ) where
  abbrev pub Kept : ℕ → Type 0
  Kept e = (k : ℕ) × (get_or o e 0 ≡ suc k)

  abbrev A : Cells → Cells → Type 0
  A r r' = agrees_r M M' μ o r r' ≡ true

  copied_word : (T : Target) → T ≡ copied → (w w' : ℕ) → agrees_w M M' μ o T w w' ≡ true → w ≡ w'
  unfolding agrees_w
  copied_word T e w w' q = eqb-true w w' (rw e at q)

  own_word : (T : Target) → T ≡ ref own → (w w' : ℕ) → agrees_w M M' μ o T w w' ≡ true → (w' ≡ to o w) × Kept w
  unfolding agrees_w becomes to
  own_word T e w w' q = let z = eqb-true (get_or o w 0) (suc w') (rw e at q) in (rw z, (w', z))

  own_opt : (x x' : Option ℕ) → agrees_w M M' μ o (opt own) (word_of x) (word_of x') ≡ true → (x' ≡ carry_opt (to o) x) × Each Kept (evals_opt x)
  unfolding agrees_w becomes to word_of carry_opt evals_opt
  own_opt none none q = (refl, each_none Kept)
  own_opt none (some e') q = absurd (false≢true q)
  own_opt (some e) none q = absurd (false≢true q)
  own_opt (some e) (some e') q = let z = eqb-true (get_or o e 0) (suc e') q in (rw z, each_cons (e', z) (each_none Kept))

  callee-word : (w w' : ℕ) → agrees_w M M' μ o (ref function) w w' ≡ true → w' ≡ (made μ).function w
  unfolding agrees_w becomes made
  callee-word w w' q = rw (eqb-true (get_or μ.functions w 0) (suc w') q)

  -- ---- rows of words of one class
  words_split : (s : ℕ) → target s ≡ ref own → (es es' : List ℕ) (y y' : Cells) → length es ≡ length es' → A (map (λ e. (s, e)) es ++ y) (map (λ e. (s, e)) es' ++ y') → (es' ≡ map (to o) es) × Each Kept es × A y y'
  words_split s t [] [] y y' l h = (refl, each_none Kept, h)
  words_split s t [] (e' ∷ es') y y' l h = absurd (omega (arith, l))
  words_split s t (e ∷ es) [] y y' l h = absurd (omega (arith, l))
  words_split s t (e ∷ es) (e' ∷ es') y y' l h =
      let p = parts M M' μ o (s, e) (s, e') (map (λ e. (s, e)) es ++ y) (map (λ e. (s, e)) es' ++ y') h in
      let w = own_word (target s) t e e' p.words in
      let r = words_split s t es es' y y' (omega (arith, l)) p.others in
      (let a = w.0 in let b = r.0 in cc, each_cons w.1 r.1, r.2)

  -- ---- cells of an effect
  cells_split : (cs cs' y y' : Cells) → length cs ≡ length cs' → A (cs ++ y) (cs' ++ y') → A cs cs' × A y y'
  unfolding agrees_r
  cells_split [] [] y y' l h = (refl, h)
  cells_split [] (d ∷ ds) y y' l h = absurd (omega (arith, l))
  cells_split (c ∷ cs) [] y y' l h = absurd (omega (arith, l))
  cells_split (c ∷ cs) (d ∷ ds) y y' l h =
      let p = parts M M' μ o c d (cs ++ y) (ds ++ y') h in
      let r = cells_split cs ds y y' (omega (arith, l)) p.others in
      (joined M M' μ o c d cs ds (record { classes = p.classes; words = p.words; others = r.0 }), r.1)

  alike-word : {s w w' : ℕ} → Alike M M' (made μ) (to o) s w w' → plain s ≡ true → w' ≡ carried (made μ) (to o) s w
  unfolding plain
  alike-word Old.start h = absurd (false≢true h)
  alike-word Old.upto h = absurd (false≢true h)
  alike-word (Old.text q) h = absurd (false≢true h)
  alike-word (Old.field p q) h = q

  alike_cells : {r r' : Cells} → AlikeR M M' (made μ) (to o) r r' → calm_c r ≡ true → r' ≡ carry_cells (made μ) (to o) r
  unfolding carry_cells calm_c calm
  alike_cells over h = refl
  alike_cells (next {s = s} {w = w} {w' = w'} {r = r} {r' = r'} a b) h =
      let p = alike-word a (and_first (plain s) _ (and_first (calm s) _ h)) in
      let q = alike_cells b (and_second (calm s) _ h) in
      cc

  optional-kept : (w w' : ℕ) (zs : List ℕ) → agrees_w M M' μ o (opt own) w w' ≡ true → Each Kept zs → Each Kept (optional w zs)
  unfolding agrees_w becomes optional
  optional-kept zero w' zs q f = f
  optional-kept (suc e) zero zs q f = absurd (false≢true q)
  optional-kept (suc e) (suc e') zs q f = each_cons (e', eqb-true (get_or o e 0) (suc e') q) f

  operand-kept : (s w w' : ℕ) (zs : List ℕ) → agrees_w M M' μ o (target s) w w' ≡ true → Each Kept zs → Each Kept (operand s w zs)
  unfolding operand target targets
  operand-kept s w w' zs q f = go (eqb s EXPR) (eqb s OPT_EXPR) refl refl
    where
      go : (p r : Bool) → eqb s EXPR ≡ p → eqb s OPT_EXPR ≡ r → Each Kept (elim p [ true ↦ w ∷ zs | false ↦ elim r [ true ↦ optional w zs | false ↦ zs ] ])
      go true r h i = each_cons (own_word (ref own) refl w w' (rw (eqb-true s EXPR h) at q)).1 f
      go false true h i = optional-kept w w' zs (rw (eqb-true s OPT_EXPR i) at q) f
      go false false h i = f

  pub ops-kept : (cs cs' : Cells) → A cs cs' → Each Kept (ops_of cs)
  unfolding ops_of agrees_r
  ops-kept [] cs' h = each_none Kept
  ops-kept (c ∷ cs) [] h = absurd (false≢true h)
  ops-kept (c ∷ cs) (d ∷ ds) h = let p = parts M M' μ o c d cs ds h in operand-kept (class c) (word c) (word d) (ops_of cs) p.words (ops-kept cs ds p.others)

  result_kept : (cs cs' : Cells) → A cs cs' → Each Kept (evals_opt (result_of cs))
  unfolding result_of agrees_r evals_opt target targets
  result_kept [] cs' h = each_none Kept
  result_kept (c ∷ cs) [] h = absurd (false≢true h)
  result_kept (c ∷ cs) (d ∷ ds) h = let p = parts M M' μ o c d cs ds h in go (eqb (class c) RESULT) (eqb (class c) OPT_RESULT) refl refl p.words (result_kept cs ds p.others)
    where
      go : (p q : Bool) → eqb (class c) RESULT ≡ p → eqb (class c) OPT_RESULT ≡ q → agrees_w M M' μ o (target (class c)) (word c) (word d) ≡ true → Each Kept (evals_opt (result_of cs))
          → Each Kept (evals_opt (elim p [ true ↦ some (word c) | false ↦ elim q [ true ↦ opt_of (word c) | false ↦ result_of cs ] ]))
      go true q i j w r = each_cons (own_word (ref own) refl (word c) (word d) (rw (eqb-true (class c) RESULT i) at w)).1 (each_none Kept)
      go false true i j w r = (own_opt (opt_of (word c)) (opt_of (word d)) (rw (word_of_lem (word c), word_of_lem (word d)) (rw (eqb-true (class c) OPT_RESULT j) at w))).1
      go false false i j w r = r

  -- ---- bodies: xs are the source's expressions, of which a kept one reads kept ones
  module _ (xs : List Cells) (closed : (e : ℕ) → Kept e → Each Kept (ops xs e)) (drop drop' : ℕ → Bool) where
    emits_kept : (es : List ℕ) → Each Kept es → Each Kept (mentions_e es xs)
    unfolding mentions_e
    emits_kept [] f = each_none Kept
    emits_kept (e ∷ es) f = each_cons (f e here) (each_append (ops xs e) (mentions_e es xs) (closed e (f e here)) (emits_kept es (λ d m. f d (there m))))

    abbrev Opened : Cells → Cells → Type 0
    Opened r r' = agrees_r M M' μ o (opened r drop) (opened r' drop') ≡ true

    re : (u v y u' v' y' : Cells) → Opened ((u ++ v) ++ y) ((u' ++ v') ++ y') → Opened (u ++ (v ++ y)) (u' ++ (v' ++ y'))
    re u v y u' v' y' h = rw (append_assoc u v y, append_assoc u' v' y') at h

    opened_exprs : (d : ℕ → Bool) (ys : List ℕ) (y : Cells) → opened (map (λ e. (EXPR, e)) ys ++ y) d ≡ map (λ e. (EXPR, e)) ys ++ opened y d
    unfolding opened
    opened_exprs d [] y = refl
    opened_exprs d (e ∷ ys) y = ap ((EXPR, e) ∷◌) (opened_exprs d ys y)

    -- the values of two cases are the same
    values_split : {v v' : Cells} → Value v → Value v' → (x z y x' z' y' : Cells) → Opened (((v ++ x) ++ z) ++ y) (((v' ++ x') ++ z') ++ y') → (v' ≡ v) × Opened ((x ++ z) ++ y) ((x' ++ z') ++ y')
    unfolding opened target targets
    values_split (v_i32 {x = n}) (v_i32 {x = n'}) x z y x' z' y' h =
        let p = parts M M' μ o (VALUE, 0) (VALUE, 0) _ _ h in
        let q = parts M M' μ o (WORD, n) (WORD, n') _ _ p.others in
        (rw (copied_word copied refl n n' q.words), q.others)
    values_split (v_u32 {x = n}) (v_u32 {x = n'}) x z y x' z' y' h =
        let p = parts M M' μ o (VALUE, 1) (VALUE, 1) _ _ h in
        let q = parts M M' μ o (WORD, n) (WORD, n') _ _ p.others in
        (rw (copied_word copied refl n n' q.words), q.others)
    values_split v_default v_default x z y x' z' y' h = let p = parts M M' μ o (VALUE, 2) (VALUE, 2) _ _ h in (refl, p.others)
    values_split v_i32 v_u32 x z y x' z' y' h = absurd (let z = copied_word copied refl 0 1 (parts M M' μ o (VALUE, 0) (VALUE, 1) _ _ h).words in omega (arith, z))
    values_split v_i32 v_default x z y x' z' y' h = absurd (let z = copied_word copied refl 0 2 (parts M M' μ o (VALUE, 0) (VALUE, 2) _ _ h).words in omega (arith, z))
    values_split v_u32 v_i32 x z y x' z' y' h = absurd (let z = copied_word copied refl 1 0 (parts M M' μ o (VALUE, 1) (VALUE, 0) _ _ h).words in omega (arith, z))
    values_split v_u32 v_default x z y x' z' y' h = absurd (let z = copied_word copied refl 1 2 (parts M M' μ o (VALUE, 1) (VALUE, 2) _ _ h).words in omega (arith, z))
    values_split v_default v_i32 x z y x' z' y' h = absurd (let z = copied_word copied refl 2 0 (parts M M' μ o (VALUE, 2) (VALUE, 0) _ _ h).words in omega (arith, z))
    values_split v_default v_u32 x z y x' z' y' h = absurd (let z = copied_word copied refl 2 1 (parts M M' μ o (VALUE, 2) (VALUE, 1) _ _ h).words in omega (arith, z))

    abbrev GotS : Stmt Range → Stmt Range → Cells → Cells → Type 0
    GotS s s' y y' = (expand_s s' drop' ≡ carry_s (expand_s s drop) (made μ) (to o)) × Each Kept (mentions_s (expand_s s drop) xs) × Opened y y'

    abbrev GotF : Form Range → Form Range → Cells → Cells → Type 0
    GotF f f' y y' = (expand_f f' drop' ≡ carry_f (expand_f f drop) (made μ) (to o)) × Each Kept (mentions_f (expand_f f drop) xs) × Opened y y'

    abbrev GotB : Block Range → Block Range → Cells → Cells → Type 0
    GotB b b' y y' = (expand b' drop' ≡ carry_b (expand b drop) (made μ) (to o)) × Each Kept (mentions_b (expand b drop) xs) × Opened y y'

    abbrev GotK : Case Range → Case Range → Cells → Cells → Type 0
    GotK k k' y y' = (expand_k k' drop' ≡ carry_k (expand_k k drop) (made μ) (to o)) × Each Kept (mentions_k (expand_k k drop) xs) × Opened y y'

    abbrev GotC : Cases Range → Cases Range → Cells → Cells → Type 0
    GotC ks ks' y y' = (expand_c ks' drop' ≡ carry_c (expand_c ks drop) (made μ) (to o)) × Each Kept (mentions_c (expand_c ks drop) xs) × Opened y y'

    -- a block after its count
    inner : {d : ℕ} {b : Block Range} → OkB d b → (n : ℕ) × OkBs n b
    inner (ok_deeper {d = d} p) = (d, p)

    counted : (b b' : Block Range) (y y' : Cells) → Opened ((BLOCK, size_b b) ∷ flat_b b ++ y) ((BLOCK, size_b b') ∷ flat_b b' ++ y') → (size_b b ≡ size_b b') × Opened (flat_b b ++ y) (flat_b b' ++ y')
    unfolding opened target targets
    counted b b' y y' h = let w = parts M M' μ o (BLOCK, size_b b) (BLOCK, size_b b') _ _ h in (copied_word copied refl _ _ w.words, w.others)

    exprs_behind : (ys ys' : List ℕ) (y y' : Cells) → Opened (map (λ e. (EXPR, e)) ys ++ y) (map (λ e. (EXPR, e)) ys' ++ y') → A (map (λ e. (EXPR, e)) ys ++ opened y drop) (map (λ e. (EXPR, e)) ys' ++ opened y' drop')
    exprs_behind ys ys' y y' h = rw (opened_exprs drop ys y, opened_exprs drop' ys' y') at h

    branch_is : {c' d : ℕ} {a' e b' f : XBlock} → c' ≡ d → a' ≡ e → b' ≡ f → ◌≡◌ {A = XForm} (branch c' a' b') (branch d e f)
    branch_is p q r = cc

    switch_is : {c' d : ℕ} {a' e : XCases} → c' ≡ d → a' ≡ e → ◌≡◌ {A = XForm} (switch c' a') (switch d e)
    switch_is p q = cc

    loop_is : {a' e b' f : XBlock} {x' z : Option ℕ} → a' ≡ e → b' ≡ f → x' ≡ z → ◌≡◌ {A = XForm} (loop a' b' x') (loop e f z)
    loop_is p q r = cc

    call_is : {f' g : ℕ} {ys zs : List ℕ} {r' t : Option ℕ} → f' ≡ g → ys ≡ zs → r' ≡ t → ◌≡◌ {A = XForm} (call f' ys r') (call g zs t)
    call_is p q r = cc

    case_is : {v' v : Cells} {b' c : XBlock} {f' f : ℕ} → v' ≡ v → b' ≡ c → f' ≡ f → ◌≡◌ {A = XCase} (case v' b' f') (case v c f)
    case_is p q r = cc

    then_is : {s' s : XStmt} {b' b : XBlock} → s' ≡ s → b' ≡ b → ◌≡◌ {A = XBlock} (s' then b') (s then b)
    then_is p q = cc

    also_is : {k' k : XCase} {ks' ks : XCases} → k' ≡ k → ks' ≡ ks → ◌≡◌ {A = XCases} (k' also ks') (k also ks)
    also_is p q = cc

    -- ---- one step for each form; the parts of the form are taken as they come
    break_step : (y y' : Cells) → Opened (flat_f break ++ y) (flat_f break ++ y') → GotF break break y y'
    unfolding expand_s carry_s mentions_s flat_s
    break_step y y' h = (refl, each_none Kept, h)

    continue_step : (y y' : Cells) → Opened (flat_f continue ++ y) (flat_f continue ++ y') → GotF continue continue y y'
    unfolding expand_s carry_s mentions_s flat_s
    continue_step y y' h = (refl, each_none Kept, h)

    kill_step : (y y' : Cells) → Opened (flat_f kill ++ y) (flat_f kill ++ y') → GotF kill kill y y'
    unfolding expand_s carry_s mentions_s flat_s
    kill_step y y' h = (refl, each_none Kept, h)

    end_step : (y y' : Cells) → Opened (flat_b end ++ y) (flat_b end ++ y') → GotB end end y y'
    unfolding expand_s carry_s mentions_s flat_s
    end_step y y' h = (refl, each_none Kept, h)

    nomore_step : (y y' : Cells) → Opened (flat_c nomore ++ y) (flat_c nomore ++ y') → GotC nomore nomore y y'
    unfolding expand_s carry_s mentions_s flat_s
    nomore_step y y' h = (refl, each_none Kept, h)

    then_step : (s s' : Stmt Range) (b b' : Block Range) (y y' : Cells) → Opened (flat_b (s then b) ++ y) (flat_b (s' then b') ++ y')
        → (Opened (flat_s s ++ (flat_b b ++ y)) (flat_s s' ++ (flat_b b' ++ y')) → GotS s s' (flat_b b ++ y) (flat_b b' ++ y')) → (Opened (flat_b b ++ y) (flat_b b' ++ y') → GotB b b' y y') → GotB (s then b) (s' then b') y y'
    unfolding expand_s carry_s mentions_s flat_s
    then_step s s' b b' y y' h ih jh =
        let g = ih (re (flat_s s) (flat_b b) y (flat_s s') (flat_b b') y' h) in
        let k = jh g.2 in
        (then_is g.0 k.0, each_append (mentions_s (expand_s s drop) xs) (mentions_b (expand b drop) xs) g.1 k.1, k.2)

    also_step : (k k' : Case Range) (ks ks' : Cases Range) (y y' : Cells) → Opened (flat_c (k also ks) ++ y) (flat_c (k' also ks') ++ y')
        → (Opened (flat_k k ++ (flat_c ks ++ y)) (flat_k k' ++ (flat_c ks' ++ y')) → GotK k k' (flat_c ks ++ y) (flat_c ks' ++ y')) → (Opened (flat_c ks ++ y) (flat_c ks' ++ y') → GotC ks ks' y y') → GotC (k also ks) (k' also ks') y y'
    unfolding expand_s carry_s mentions_s flat_s
    also_step k k' ks ks' y y' h ih jh =
        let g = ih (re (flat_k k) (flat_c ks) y (flat_k k') (flat_c ks') y' h) in
        let r = jh g.2 in
        (also_is g.0 r.0, each_append (mentions_k (expand_k k drop) xs) (mentions_c (expand_c ks drop) xs) g.1 r.1, r.2)

    stmt_step : (a b a' b' : ℕ) (f f' : Form Range) (y y' : Cells) → Opened (flat_s (stmt a b f) ++ y) (flat_s (stmt a' b' f') ++ y')
        → (kind_of f ≡ kind_of f' → length (flat_f f) ≡ length (flat_f f') → Opened (flat_f f ++ y) (flat_f f' ++ y') → GotF f f' y y') → GotS (stmt a b f) (stmt a' b' f') y y'
    unfolding expand_s carry_s mentions_s flat_s opened target targets
    stmt_step a b a' b' f f' y y' h ih =
        let n = suc (suc (suc (suc (length (flat_f f))))) in
        let n' = suc (suc (suc (suc (length (flat_f f'))))) in
        let z = opened (flat_f f ++ y) drop in
        let z' = opened (flat_f f' ++ y') drop' in
        let p₁ = parts M M' μ o (LENGTH, n) (LENGTH, n') ((STMT_KIND, kind_of f) ∷ (SPAN, a) ∷ (UPTO, b) ∷ z) ((STMT_KIND, kind_of f') ∷ (SPAN, a') ∷ (UPTO, b') ∷ z') h in
        let p₂ = parts M M' μ o (STMT_KIND, kind_of f) (STMT_KIND, kind_of f') ((SPAN, a) ∷ (UPTO, b) ∷ z) ((SPAN, a') ∷ (UPTO, b') ∷ z') p₁.others in
        let p₃ = parts M M' μ o (SPAN, a) (SPAN, a') ((UPTO, b) ∷ z) ((UPTO, b') ∷ z') p₂.others in
        let p₄ = parts M M' μ o (UPTO, b) (UPTO, b') z z' p₃.others in
        let l = copied_word copied refl n n' p₁.words in
        let g = ih (copied_word copied refl (kind_of f) (kind_of f') p₂.words) (omega (arith, l)) p₄.others in
        (ap (stmt 0 0) g.0, g.1, g.2)

    emit_step : (r r' : Range) (y y' : Cells) → Opened (flat_f (emit r) ++ y) (flat_f (emit r') ++ y') → GotF (emit r) (emit r') y y'
    unfolding expand_s carry_s mentions_s flat_s opened target targets first_word
    emit_step r r' y y' h =
        let es = live (in_range r) drop in
        let es' = live (in_range r') drop' in
        let p = parts M M' μ o (OPERANDS, length es) (OPERANDS, length es') (map (λ e. (RESULT, e)) es ++ opened y drop) (map (λ e. (RESULT, e)) es' ++ opened y' drop') h in
        let w = words_split RESULT refl es es' (opened y drop) (opened y' drop') (copied_word copied refl (length es) (length es') p.words) p.others in
        (ap emit w.0, emits_kept es w.1, w.2)

    block_step : (b b' : Block Range) (y y' : Cells) → Opened (flat_f (block b) ++ y) (flat_f (block b') ++ y') → (size_b b ≡ size_b b' → Opened (flat_b b ++ y) (flat_b b' ++ y') → GotB b b' y y') → GotF (block b) (block b') y y'
    unfolding expand_s carry_s mentions_s flat_s
    block_step b b' y y' h ih = let c = counted b b' y y' h in let g = ih c.0 c.1 in (ap block g.0, g.1, g.2)

    branch_step : (c c' : ℕ) (a b a' b' : Block Range) (y y' : Cells) → Opened (flat_f (branch c a b) ++ y) (flat_f (branch c' a' b') ++ y')
        → (size_b a ≡ size_b a' → Opened (flat_b a ++ ((BLOCK, size_b b) ∷ flat_b b ++ y)) (flat_b a' ++ ((BLOCK, size_b b') ∷ flat_b b' ++ y')) → GotB a a' ((BLOCK, size_b b) ∷ flat_b b ++ y) ((BLOCK, size_b b') ∷ flat_b b' ++ y'))
        → (size_b b ≡ size_b b' → Opened (flat_b b ++ y) (flat_b b' ++ y') → GotB b b' y y') → GotF (branch c a b) (branch c' a' b') y y'
    unfolding expand_s carry_s mentions_s flat_s opened target targets
    branch_step c c' a b a' b' y y' h ih jh =
        let u : Cells = (BLOCK, size_b a) ∷ flat_b a in
        let v : Cells = (BLOCK, size_b b) ∷ flat_b b in
        let u' : Cells = (BLOCK, size_b a') ∷ flat_b a' in
        let v' : Cells = (BLOCK, size_b b') ∷ flat_b b' in
        let w = parts M M' μ o (EXPR, c) (EXPR, c') (opened ((u ++ v) ++ y) drop) (opened ((u' ++ v') ++ y') drop') h in
        let e = own_word (ref own) refl c c' w.words in
        let i = counted a a' (v ++ y) (v' ++ y') (re u v y u' v' y' w.others) in
        let g = ih i.0 i.1 in
        let j = counted b b' y y' g.2 in
        let k = jh j.0 j.1 in
        (branch_is e.0 g.0 k.0, each_cons e.1 (each_append (mentions_b (expand a drop) xs) (mentions_b (expand b drop) xs) g.1 k.1), k.2)

    switch_step : (c c' : ℕ) (ks ks' : Cases Range) (y y' : Cells) → Opened (flat_f (switch c ks) ++ y) (flat_f (switch c' ks') ++ y')
        → (size_c ks ≡ size_c ks' → Opened (flat_c ks ++ y) (flat_c ks' ++ y') → GotC ks ks' y y') → GotF (switch c ks) (switch c' ks') y y'
    unfolding expand_s carry_s mentions_s flat_s opened target targets
    switch_step c c' ks ks' y y' h ih =
        let z = opened (flat_c ks ++ y) drop in
        let z' = opened (flat_c ks' ++ y') drop' in
        let w = parts M M' μ o (EXPR, c) (EXPR, c') ((CASES, size_c ks) ∷ z) ((CASES, size_c ks') ∷ z') h in
        let e = own_word (ref own) refl c c' w.words in
        let v = parts M M' μ o (CASES, size_c ks) (CASES, size_c ks') z z' w.others in
        let g = ih (copied_word copied refl (size_c ks) (size_c ks') v.words) v.others in
        (switch_is e.0 g.0, each_cons e.1 g.1, g.2)

    loop_step : (a b a' b' : Block Range) (x x' : Option ℕ) (y y' : Cells) → Opened (flat_f (loop a b x) ++ y) (flat_f (loop a' b' x') ++ y')
        → (size_b a ≡ size_b a' → Opened (flat_b a ++ ((BLOCK, size_b b) ∷ flat_b b ++ ((OPT_EXPR, word_of x) ∷ y))) (flat_b a' ++ ((BLOCK, size_b b') ∷ flat_b b' ++ ((OPT_EXPR, word_of x') ∷ y'))) → GotB a a' ((BLOCK, size_b b) ∷ flat_b b ++ ((OPT_EXPR, word_of x) ∷ y)) ((BLOCK, size_b b') ∷ flat_b b' ++ ((OPT_EXPR, word_of x') ∷ y')))
        → (size_b b ≡ size_b b' → Opened (flat_b b ++ ((OPT_EXPR, word_of x) ∷ y)) (flat_b b' ++ ((OPT_EXPR, word_of x') ∷ y')) → GotB b b' ((OPT_EXPR, word_of x) ∷ y) ((OPT_EXPR, word_of x') ∷ y')) → GotF (loop a b x) (loop a' b' x') y y'
    unfolding expand_s carry_s mentions_s flat_s opened target targets
    loop_step a b a' b' x x' y y' h ih jh =
        let u : Cells = (BLOCK, size_b a) ∷ flat_b a in
        let v : Cells = (BLOCK, size_b b) ∷ flat_b b in
        let q : Cells = (OPT_EXPR, word_of x) ∷ [] in
        let u' : Cells = (BLOCK, size_b a') ∷ flat_b a' in
        let v' : Cells = (BLOCK, size_b b') ∷ flat_b b' in
        let q' : Cells = (OPT_EXPR, word_of x') ∷ [] in
        let i = counted a a' (v ++ (q ++ y)) (v' ++ (q' ++ y')) (re u v (q ++ y) u' v' (q' ++ y') (re (u ++ v) q y (u' ++ v') q' y' h)) in
        let g = ih i.0 i.1 in
        let j = counted b b' (q ++ y) (q' ++ y') g.2 in
        let k = jh j.0 j.1 in
        let w = parts M M' μ o (OPT_EXPR, word_of x) (OPT_EXPR, word_of x') (opened y drop) (opened y' drop') k.2 in
        let e = own_opt x x' w.words in
        (loop_is g.0 k.0 e.0, each_append (evals_opt x) (mentions_b (expand a drop) xs ++ mentions_b (expand b drop) xs) e.1 (each_append (mentions_b (expand a drop) xs) (mentions_b (expand b drop) xs) g.1 k.1), w.others)

    return_step : (x x' : Option ℕ) (y y' : Cells) → Opened (flat_f (return x) ++ y) (flat_f (return x') ++ y') → GotF (return x) (return x') y y'
    unfolding expand_s carry_s mentions_s flat_s opened target targets
    return_step x x' y y' h =
        let w = parts M M' μ o (OPT_EXPR, word_of x) (OPT_EXPR, word_of x') (opened y drop) (opened y' drop') h in
        let e = own_opt x x' w.words in
        (ap return e.0, e.1, w.others)

    call_step : (f f' : ℕ) (ys ys' : List ℕ) (r r' : Option ℕ) (y y' : Cells) → Opened (flat_f (call f ys r) ++ y) (flat_f (call f' ys' r') ++ y') → GotF (call f ys r) (call f' ys' r') y y'
    unfolding expand_s carry_s mentions_s flat_s flat_x opened target targets
    call_step f f' ys ys' r r' y y' h =
        let u : Cells = map (λ e. (EXPR, e)) ys in
        let u' : Cells = map (λ e. (EXPR, e)) ys' in
        let q : Cells = (OPT_RESULT, word_of r) ∷ [] in
        let q' : Cells = (OPT_RESULT, word_of r') ∷ [] in
        let z = opened ((u ++ q) ++ y) drop in
        let z' = opened ((u' ++ q') ++ y') drop' in
        let w = parts M M' μ o (CALLEE, f) (CALLEE, f') ((OPERANDS, length ys) ∷ z) ((OPERANDS, length ys') ∷ z') h in
        let v = parts M M' μ o (OPERANDS, length ys) (OPERANDS, length ys') z z' w.others in
        let s = words_split EXPR refl ys ys' (opened (q ++ y) drop) (opened (q' ++ y') drop') (copied_word copied refl (length ys) (length ys') v.words) (exprs_behind ys ys' (q ++ y) (q' ++ y') (re u q y u' q' y' v.others)) in
        let t = parts M M' μ o (OPT_RESULT, word_of r) (OPT_RESULT, word_of r') (opened y drop) (opened y' drop') s.2 in
        let e = own_opt r r' t.words in
        (call_is (callee-word f f' w.words) s.0 e.0, each_append ys (evals_opt r) s.1 e.1, t.others)

    effect_step : (k : ℕ) (cs cs' : Cells) → calm_c cs ≡ true → calm_c cs' ≡ true → length cs ≡ length cs' → (y y' : Cells) → Opened (cs ++ y) (cs' ++ y') → GotF (effect k cs) (effect k cs') y y'
    unfolding expand_s carry_s mentions_s
    effect_step k cs cs' c c' l y y' h =
        let s = cells_split cs cs' (opened y drop) (opened y' drop') l (rw (opened-calm cs y drop c, opened-calm cs' y' drop' c') at h) in
        (ap (effect k) (alike_cells (record_with M M' μ o cs cs' s.0) c), each_append (ops_of cs) (evals_opt (result_of cs)) (ops-kept cs cs' s.0) (result_kept cs cs' s.0), s.1)

    effects : (k : ℕ) (cs cs' : Cells) → calm_c cs ≡ true → calm_c cs' ≡ true → length (flat_f (effect k cs)) ≡ length (flat_f (effect k cs')) → (y y' : Cells) → Opened (flat_f (effect k cs) ++ y) (flat_f (effect k cs') ++ y') → GotF (effect k cs) (effect k cs') y y'
    unfolding flat_s
    effects = effect_step

    case_step : (v v' : Cells) (b b' : Block Range) (f f' : ℕ) → Value v → Value v' → (y y' : Cells) → Opened (flat_k (case v b f) ++ y) (flat_k (case v' b' f') ++ y')
        → (size_b b ≡ size_b b' → Opened (flat_b b ++ ((2, f) ∷ y)) (flat_b b' ++ ((2, f') ∷ y')) → GotB b b' ((2, f) ∷ y) ((2, f') ∷ y')) → GotK (case v b f) (case v' b' f') y y'
    unfolding expand_s carry_s mentions_s flat_s opened target targets
    case_step v v' b b' f f' i i' y y' h ih =
        let u : Cells = (BLOCK, size_b b) ∷ flat_b b in
        let u' : Cells = (BLOCK, size_b b') ∷ flat_b b' in
        let s = values_split i i' u ((2, f) ∷ []) y u' ((2, f') ∷ []) y' h in
        let c = counted b b' ((2, f) ∷ y) ((2, f') ∷ y') (re u ((2, f) ∷ []) y u' ((2, f') ∷ []) y' s.1) in
        let g = ih c.0 c.1 in
        let w = parts M M' μ o (2, f) (2, f') (opened y drop) (opened y' drop') g.2 in
        (case_is s.0 g.0 (sym (copied_word copied refl f f' w.words)), g.1, w.others)

    mutual
      unfolding size_b size_c

      go_s : (s s' : Stmt Range) {d d' : ℕ} → OkS d s → OkS d' s' → (y y' : Cells) → Opened (flat_s s ++ y) (flat_s s' ++ y') → GotS s s' y y'
      go_s (stmt a b f) (stmt a' b' f') (ok_stmt p) (ok_stmt p') y y' h = stmt_step a b a' b' f f' y y' h (λ q l i. go_f f f' (same_of p p' q) l y y' i)

      go_f : (f f' : Form Range) → Same f f' → length (flat_f f) ≡ length (flat_f f') → (y y' : Cells) → Opened (flat_f f ++ y) (flat_f f' ++ y') → GotF f f' y y'
      go_f (emit r) (emit r') s_emit_lem l y y' h = emit_step r r' y y' h
      go_f (block b) (block b') (s_block_lem p p') l y y' h = block_step b b' y y' h (λ n i. go_b b b' (inner p).1 (inner p').1 n y y' i)
      go_f (branch c a b) (branch c' a' b') (s_branch p q p' q') l y y' h =
          branch_step c c' a b a' b' y y' h (λ n i. go_b a a' (inner p).1 (inner p').1 n _ _ i) (λ n i. go_b b b' (inner q).1 (inner q').1 n y y' i)
      go_f (switch c ks) (switch c' ks') (s_switch_lem p p') l y y' h = switch_step c c' ks ks' y y' h (λ n i. go_c ks ks' p p' n y y' i)
      go_f (loop a b x) (loop a' b' x') (s_loop_lem p q p' q') l y y' h =
          loop_step a b a' b' x x' y y' h (λ n i. go_b a a' (inner p).1 (inner p').1 n _ _ i) (λ n i. go_b b b' (inner q).1 (inner q').1 n _ _ i)
      go_f break break s_break_lem l y y' h = break_step y y' h
      go_f continue continue s_continue_lem l y y' h = continue_step y y' h
      go_f (return x) (return x') s_return_lem l y y' h = return_step x x' y y' h
      go_f kill kill s_kill_lem l y y' h = kill_step y y' h
      go_f (call f ys r) (call f' ys' r') s_call_lem l y y' h = call_step f f' ys ys' r r' y y' h
      go_f (effect k cs) (effect k' cs') (s_effect_lem c c') l y y' h = effects k cs cs' c c' l y y' h
      go_f f f' s l y y' h = elim s [ ]

      go_b : (b b' : Block Range) {d d' : ℕ} → OkBs d b → OkBs d' b' → size_b b ≡ size_b b' → (y y' : Cells) → Opened (flat_b b ++ y) (flat_b b' ++ y') → GotB b b' y y'
      go_b end end p p' n y y' h = end_step y y' h
      go_b end (s' then b') p p' n y y' h = absurd (omega (arith, n))
      go_b (s then b) end p p' n y y' h = absurd (omega (arith, n))
      go_b (s then b) (s' then b') (ok_then p q) (ok_then p' q') n y y' h =
          then_step s s' b b' y y' h (λ i. go_s s s' p p' (flat_b b ++ y) (flat_b b' ++ y') i) (λ i. go_b b b' q q' (omega (arith, n)) y y' i)

      go_k : (k k' : Case Range) {d d' : ℕ} → OkK d k → OkK d' k' → (y y' : Cells) → Opened (flat_k k ++ y) (flat_k k' ++ y') → GotK k k' y y'
      go_k (case v b f) (case v' b' f') (ok_case l p) (ok_case l' p') y y' h = case_step v v' b b' f f' (value_of l) (value_of l') y y' h (λ n i. go_b b b' (inner p).1 (inner p').1 n _ _ i)

      go_c : (ks ks' : Cases Range) {d d' : ℕ} → OkC d ks → OkC d' ks' → size_c ks ≡ size_c ks' → (y y' : Cells) → Opened (flat_c ks ++ y) (flat_c ks' ++ y') → GotC ks ks' y y'
      go_c nomore nomore p p' n y y' h = nomore_step y y' h
      go_c nomore (k' also ks') p p' n y y' h = absurd (omega (arith, n))
      go_c (k also ks) nomore p p' n y y' h = absurd (omega (arith, n))
      go_c (k also ks) (k' also ks') (ok_also p q) (ok_also p' q') n y y' h =
          also_step k k' ks ks' y y' h (λ i. go_k k k' p p' (flat_c ks ++ y) (flat_c ks' ++ y') i) (λ i. go_c ks ks' q q' (omega (arith, n)) y y' i)

    -- two bodies
    pub body_walks : (b b' : Block Range) {d d' : ℕ} → OkB d b → OkB d' b' → Opened (flat_block b) (flat_block b') → (expand b' drop' ≡ carry_b (expand b drop) (made μ) (to o)) × Each Kept (mentions_b (expand b drop) xs)
    unfolding flat_block
    body_walks b b' p p' h =
        let c = counted b b' [] [] (rw (append-nil (flat_b b), append-nil (flat_b b')) h) in
        let g = go_b b b' (inner p).1 (inner p').1 c.0 [] [] c.1 in
        (g.0, g.1)
