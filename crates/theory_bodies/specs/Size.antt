-- Size: the derived function has at most as many expressions, named expressions and words as its source. The body and the declarations have exactly as many words, whatever is imported.
use Rattle.std.specs.Prelude.{ℕ, zero, suc, ◌+◌, ◌<◌, ◌≤◌, ◌≡◌, ◌≢◌, Bool, true, false, eqb, get_or, set}
use Rattle.std.proofs.Math.Path.{refl, ap}
use Rattle.std.proofs.Common.{sym, ◌∙◌, le_refl, get_or-set_other}
use mathlib.Core.List.{List, [], ◌∷◌, map}
use native.Mathlib.Omega.{arith}
use Rattle.std.proofs.Math.Decide.{dec_lt}
use Rattle.std.proofs.Math.ListN.{length, length-append, get_or-eq_default}
use Rattle.theory_lists.specs.Sums.{sum, sum-set, sum_at}
use Rattle.model.specs.Outcome.{Cell, Cells}
use Rattle.model.specs.Module.{Module}
use Rattle.model.specs.Table.{NAME, EXPR, NAMED-EXPR}
use Rattle.model.specs.Tree.{Stmt, stmt, Form, emit, block, branch, switch, loop, break, continue, return, kill, call, effect, Block, end, ◌then◌, Case, case, Cases, nomore, ◌also◌, Range, Function, flat_all, flat_list, flat_x, flat_s, flat_f, flat_b, flat_k, flat_c, flat_block, flat}
use Rattle.model.specs.Carry.{carry_cells, carry_f}
use Rattle.model.specs.References.{through}
use Rattle.model.specs.Names.{field}
use Rattle.model.specs.Imports.{Derived}
use Rattle.model.specs.Bodies.{Builder, mapped_to, carried, import_stmt, import_block, import_case, carried_form, rebuild_stmt, rebuild_form, rebuild_block, rebuild_case, rebuild_cases, put_name, name_if, keep_names, named_rows, declared, rebuilt, kept_names, derived, final, localized}
use Rattle.theory_finish.specs.Tabled.{total-one, total-length}
use Rattle.theory_records.specs.RecordLaws.{bare, length_shift, length-carry}
use Rattle.theory_records.specs.Theorems.{total}
use Rattle.theory_bodies.specs.Lists.{All, Distinct, all_map}
use Rattle.theory_bodies.specs.Context.{Law, Ctx}
use Rattle.theory_bodies.specs.Inv.{Has, place, Inv}
use Rattle.theory_bodies.specs.Function.{Fine, ctx, holds}

-- ---- distinct places hold no more than all

sum_at_set : (vs xs : List ℕ) (x : ℕ) → All (λ y. x ≢ y) xs → sum_at (set vs x 0) xs ≡ sum_at vs xs
unfolding sum_at
sum_at_set vs [] x a = refl
sum_at_set vs (y ∷ xs) x a = rw (get_or-set_other vs x y 0 0 (λ q. a.0 (sym q)), sum_at_set vs xs x a.1)

distinct_le : (xs vs : List ℕ) → Distinct xs → sum_at vs xs ≤ sum vs
unfolding sum_at
distinct_le [] vs d = omega arith
distinct_le (x ∷ xs) vs d = omega (arith, distinct_le xs (set vs x 0) d.1, sum-set vs x, sum_at_set vs xs x d.0)

sum-total : (w : Cells → ℕ) (ds : List Cells) → sum (map w ds) ≡ total w ds
unfolding sum total
sum-total w [] = refl
sum-total w (d ∷ ds) = rw (sum-total w ds)

get_d_map : (w : Cells → ℕ) (ds : List Cells) (k : ℕ) → k < length ds → get_or (map w ds) k 0 ≡ w (get_or ds k [])
get_d_map w [] k h = absurd (omega arith)
get_d_map w (d ∷ ds) zero h = refl
get_d_map w (d ∷ ds) (suc k) h = get_d_map w ds k (omega arith)

-- ---- each derived record comes from one of the source, and no two from the same
module _ (w : Cells → ℕ) (xs : List Cells) (m : List ℕ) where
  abbrev From : List Cells → ℕ → Type 0
  From ds k = (i : ℕ) → i < length ds → (e : ℕ) × (e < length xs) × (place m e ≡ k + i) × (w (get_or ds i []) ≡ w (get_or xs e []))

  record Backs (ds : List Cells) (k : ℕ) : Type 0 where
    ys : List ℕ
    distinct : Distinct ys
    above : All (λ y. k ≤ place m y) ys
    weighs : total w ds ≡ sum_at (map w xs) ys

  backs : (ds : List Cells) (k : ℕ) → From ds k → Backs ds k
  unfolding total sum_at
  backs [] k f = record { ys = []; distinct = tt; above = tt; weighs = refl }
  backs (d ∷ ds) k f = go (f 0 (omega arith)) (backs ds (suc k) (λ i h. (let r = f (suc i) (omega arith) in (r.0, r.1, r.2 ∙ omega arith, r.3))))
    where
      go : (e : ℕ) × (e < length xs) × (place m e ≡ k + 0) × (w d ≡ w (get_or xs e [])) → Backs ds (suc k) → Backs (d ∷ ds) k
      go b r =
          let p = b.2 in
          record {
            ys = b.0 ∷ r.ys;
            distinct = (all_map r.ys (λ y h z. omega (arith, p, ap (place m) z)) r.above, r.distinct);
            above = (omega arith, all_map r.ys (λ y h. omega arith) r.above);
            weighs = rw (r.weighs, get_d_map w xs b.0 b.1, b.3);
          }

  pub no_heavier : (ds : List Cells) → From ds 0 → total w ds ≤ total w xs
  no_heavier ds f = let b = backs ds 0 f in rw (b.weighs, ← sum-total w xs) (distinct_le b.ys (map w xs) b.distinct)

-- ---- for a weight that does not see words
module _ (w : Cells → ℕ) (w-bare : (a b : Cells) → bare a ≡ bare b → w a ≡ w b) (w-carry : (f : ℕ → ℕ → ℕ) (r : Cells) → w (carry_cells f r) ≡ w r) where
  pub made_no_heavier : (c : Ctx) (st : Builder) → Inv c st → total w st.made ≤ total w c.xs
  made_no_heavier c st i = no_heavier w c.xs st.memo st.made (λ k h. from k (i.from k h))
    where
      here : (e : ℕ) → Has st.memo e → e < length st.memo
      here e h = elim (dec_lt e (length st.memo)) [ yes l ↦ l | no l ↦ absurd (omega (arith, get_or-eq_default st.memo 0 {n = e} (omega arith))) ]

      from : (k : ℕ) → (e : ℕ) × Has st.memo e × (place st.memo e ≡ k) → (e : ℕ) × (e < length c.xs) × (place st.memo e ≡ 0 + k) × (w (get_or st.made k []) ≡ w (get_or c.xs e []))
      from k b =
          let n = i.found b.0 b.1 in
          (b.0, omega (arith, here b.0 b.1, i.size), omega (arith, b.2), ap (λ (t : ℕ). w (get_or st.made t [])) (sym b.2) ∙ (w-bare _ _ n.same ∙ w-carry _ _))

bare-length : (a : Cells) → length (bare a) ≡ length a
unfolding bare
bare-length [] = refl
bare-length (c ∷ cs) = ap suc (bare-length cs)

pub length-carried : (o : ℕ) (M : Module) (st : Builder) (r : Cells) → length (carried o M st r) ≡ length r
unfolding carried
length-carried o M st r = length_shift (carry_cells (through (mapped_to M st)) r) o false ∙ length-carry (through (mapped_to M st)) r

pub made_words : (c : Ctx) (st : Builder) → Inv c st → length (flat_all st.made) ≤ length (flat_all c.xs)
made_words c st i = rw (← total-length st.made, ← total-length c.xs) (made_no_heavier length (λ a b e. sym (bare-length a) ∙ (ap length e ∙ bare-length b)) length-carry c st i)

pub made-records : (c : Ctx) (st : Builder) → Inv c st → length st.made ≤ length c.xs
made-records c st i = rw (← total-one st.made, ← total-one c.xs) (made_no_heavier (λ d. 1) (λ a b e. refl) (λ f r. refl) c st i)

-- ---- the body keeps its length, whatever is imported
flat_x-length : (f : ℕ → ℕ) (ys : List ℕ) → length (flat_x (map f ys)) ≡ length (flat_x ys)
unfolding flat_x
flat_x-length f ys = ap suc (go ys)
  where
    go : (ys : List ℕ) → length {A = Cell} (map (λ (x : ℕ). (EXPR, x)) (map f ys)) ≡ length {A = Cell} (map (λ (x : ℕ). (EXPR, x)) ys)
    go [] = refl
    go (y ∷ ys) = ap suc (go ys)

module _ (o : ℕ) (M : Module) (follow : ℕ → Derived → Derived) (p q : ℕ → Builder → Builder) where
  mutual
    unfolding rebuild_form flat_f carried_form carry_f

    long_s : (s : Stmt Range) (st : Builder) → length (flat_s (rebuild_stmt o M follow p q s st)) ≡ length (flat_s s)
    long_s (stmt a b g) st = ap (λ (n : ℕ). suc (suc (suc (suc n)))) (long_f g st)

    long_f : (g : Form Range) (st : Builder) → length (flat_f (rebuild_form o M follow p q g st)) ≡ length (flat_f g)
    long_f (emit r) st = refl
    long_f (block b) st = ap suc (long_b b st)
    long_f (branch e a b) st = simp (length-append, long_b a (p e st), long_b b (import_block o M follow p q a (p e st)))
    long_f (switch e ks) st = ap (λ (n : ℕ). suc (suc n)) (long_c ks (p e st))
    long_f (loop a b x) st = simp (length-append, long_b a st, long_b b (import_block o M follow p q a st))
    long_f break st = refl
    long_f continue st = refl
    long_f (return x) st = refl
    long_f kill st = refl
    long_f (call h ys r) st = simp (length-append, flat_x-length)
    long_f (effect n cs) st = length-carry _ cs

    pub long_b : (b : Block Range) (st : Builder) → length (flat_b (rebuild_block o M follow p q b st)) ≡ length (flat_b b)
    long_b end st = refl
    long_b (s then b) st = simp (length-append, long_s s st, long_b b (import_stmt o M follow p q s st))

    long_k : (k : Case Range) (st : Builder) → length (flat_k (rebuild_case o M follow p q k st)) ≡ length (flat_k k)
    long_k (case v b f) st = simp (length-append, long_b b st)

    long_c : (ks : Cases Range) (st : Builder) → length (flat_c (rebuild_cases o M follow p q ks st)) ≡ length (flat_c ks)
    long_c nomore st = refl
    long_c (k also ks) st = simp (length-append, long_k k st, long_c ks (import_case o M follow p q k st))

-- ---- named expressions
put-length : (ps : List (ℕ × ℕ)) (k w : ℕ) → length (put_name ps k w) ≤ suc (length ps)
unfolding put_name
put-length [] k w = le_refl _
put-length (p ∷ ps) k w = go (eqb p.0 k) (put-length ps k w)
  where
    go : (t : Bool) → length (put_name ps k w) ≤ suc (length ps) → length {A = ℕ × ℕ} (elim t [ true ↦ (k, w) ∷ ps | false ↦ p ∷ put_name ps k w ]) ≤ suc (suc (length ps))
    go true h = omega arith
    go false h = omega arith

if_length : (v w : ℕ) (ps : List (ℕ × ℕ)) → length (name_if v w ps) ≤ suc (length ps)
unfolding name_if
if_length zero w ps = omega arith
if_length (suc k) w ps = put-length ps k w

keep-length : (rs : List Cells) (memo : List ℕ) (ps : List (ℕ × ℕ)) → length (keep_names rs memo ps) ≤ length rs + length ps
unfolding keep_names
keep-length [] memo ps = omega arith
keep-length (r ∷ rs) memo ps = omega (arith, keep-length rs memo (name_if (get_or memo (field NAMED-EXPR r) 0) (field NAME r) ps), if_length (get_or memo (field NAMED-EXPR r) 0) (field NAME r) ps)

rows-length : (ps : List (ℕ × ℕ)) (f : ℕ → ℕ) → length (named_rows ps f) ≡ length ps
unfolding named_rows
rows-length [] f = refl
rows-length (p ∷ ps) f = ap suc (rows-length ps f)

rows_words : (ps : List (ℕ × ℕ)) (f : ℕ → ℕ) → length (flat_all (named_rows ps f)) ≡ length ps + length ps
unfolding named_rows flat_all
rows_words [] f = refl
rows_words (p ∷ ps) f = omega (arith, rows_words ps f)

-- a named expression has two words
abbrev pub Twos : List Cells → Type 0
Twos [] = Unit {0}
Twos (r ∷ rs) = (length r ≡ 2) × Twos rs

twos_words : (rs : List Cells) → Twos rs → length (flat_all rs) ≡ length rs + length rs
unfolding flat_all
twos_words [] a = refl
twos_words (r ∷ rs) a = simp length-append (omega (arith, a.0, twos_words rs a.1))

carried_words : (o : ℕ) (M : Module) (st : Builder) (rs : List Cells) → length (flat_all (map (carried o M st) rs)) ≡ length (flat_all rs)
unfolding flat_all
carried_words o M st [] = refl
carried_words o M st (r ∷ rs) = simp (length-append, length-carried o M st r, carried_words o M st rs)

-- ---- the whole function
module _ (o : ℕ) (M : Module) (follow : ℕ → Derived → Derived) (Q : ℕ → Type 0) (G : Derived → Type 0) (law : Law o M follow Q G) (F : Function) (fine : Fine (ctx o M follow Q G law F) F) (s : Derived) (good : G s) where
  abbrev fin : Builder
  fin = final o M follow F s

  abbrev F₁ : Function
  F₁ = localized o M follow F s

  abbrev inv : Inv (ctx o M follow Q G law F) fin
  inv = holds o M follow Q G law F fine s good

  pub exprs_fewer : length F₁.exprs ≤ length F.exprs
  unfolding localized derived
  exprs_fewer = made-records (ctx o M follow Q G law F) fin inv

  pub exprs_shorter : length (flat_all F₁.exprs) ≤ length (flat_all F.exprs)
  unfolding localized derived
  exprs_shorter = made_words (ctx o M follow Q G law F) fin inv

  pub named_fewer : length F₁.named ≤ length F.named
  unfolding localized derived kept_names
  named_fewer = rw (rows-length (keep_names F.named fin.memo []) (through (mapped_to M fin) NAME)) (omega (arith, keep-length F.named fin.memo []))

  pub named_shorter : Twos F.named → length (flat_all F₁.named) ≤ length (flat_all F.named)
  unfolding localized derived kept_names
  named_shorter t = rw (rows_words (keep_names F.named fin.memo []) (through (mapped_to M fin) NAME), twos_words F.named t) (omega (arith, keep-length F.named fin.memo []))

  pub body_same : length (flat_b F₁.body) ≡ length (flat_b F.body)
  unfolding localized derived rebuilt
  body_same = long_b o M follow _ _ F.body (declared o M follow F s)

  list_words : (n : ℕ) (rs : List Cells) → length (flat_list n rs) ≡ suc (length (flat_all rs))
  unfolding flat_list
  list_words n rs = refl

  block_words : (b : Block Range) → length (flat_block b) ≡ suc (length (flat_b b))
  unfolding flat_block
  block_words b = refl

  flat_words : (t : Function) → length (flat t) ≡ length t.head + suc (length (flat_all t.arguments)) + length t.result + suc (length (flat_all t.locals)) + suc (length (flat_all t.exprs)) + suc (length (flat_all t.named)) + suc (length (flat_b t.body))
  unfolding flat flat_list flat_block
  flat_words t = simp length-append

  decl_words : (length F₁.head ≡ length F.head) × (length (flat_all F₁.arguments) ≡ length (flat_all F.arguments)) × (length F₁.result ≡ length F.result) × (length (flat_all F₁.locals) ≡ length (flat_all F.locals))
  unfolding localized derived
  decl_words = let d = declared o M follow F s in (length-carried o M d F.head, carried_words o M d F.arguments, length-carried o M d F.result, carried_words o M d F.locals)

  -- NO MORE WORDS
  pub words_fewer : Twos F.named → length (flat F₁) ≤ length (flat F)
  words_fewer t = rw (flat_words F₁, flat_words F) (omega (arith, decl_words.0, decl_words.1, decl_words.2, decl_words.3, exprs_shorter, named_shorter t, body_same))
