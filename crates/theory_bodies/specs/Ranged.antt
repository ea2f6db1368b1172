-- Test 3 again: every number of the derived function is in range, and each Emit's start is at most its end, in any module whose tables hold at least what this import derived.
use Prim.Native.Nat.{ℕ, zero, suc, ◌+◌, ◌-◌, ◌<◌, ◌≤◌, pred}
use Rattle.std.specs.Prelude.{◌≡◌, ◌⊎◌, Bool, ◌||◌, eqb}
use Rattle.std.proofs.Math.Path.{refl}
use Rattle.std.proofs.Common.{ap, sym, ◌∙◌}
use Rattle.std.proofs.Math.Logic.{inl, inr, ⊎_elim}
use Rattle.std.proofs.Math.Bool.{true, false}
use Rattle.std.proofs.lemmas.Bool.{false≢true}
use mathlib.Core.List.{List, [], ◌∷◌, ◌++◌, map}
use Rattle.std.proofs.Math.Option.{Option, none, some}
use native.Mathlib.Omega.{arith}
use Rattle.std.proofs.Math.Nat.{le_trans}
use Rattle.std.proofs.Math.Decide.{dec_lt}
use Rattle.std.proofs.Math.Dec.{ltb}
use Rattle.std.proofs.Math.ListN.{length, get_or, length-map, get_or-eq_default}
use borrow.Author.Tests.{eqb-true, ltb-true, ltb-false, lt-ltb, le-ltb, le-leb, ne_eqb}
use Rattle.theory_lists.specs.Lists.{behind, get_d_behind}
use Rattle.theory_lists.specs.Booleans.{and_split}
use Rattle.model.specs.Outcome.{Cells, class, word}
use Rattle.model.specs.Table.{WORD, SPAN, UPTO, NAME, CALLEE, EXPR, OPT_EXPR, FROM, TO, RESULT, OPT_RESULT, NAMED-EXPR, KEY, ATOMIC, ARGUMENTS, LOCALS, EXPRESSIONS, NAMED, BLOCK}
use Rattle.model.specs.Tree.{Function, flat_all, flat_list, flat_b, flat_block, flat, word_of}
use Rattle.model.specs.Module.{Module}
use Rattle.model.specs.Carry.{carry_cell, carry_cells, Each, each_none, each_next}
use Rattle.model.specs.Names.{field}
use Rattle.model.specs.Numbers.{Bounds, caps, bound, below as under, within, rising, ordered, outside, inside, sound, sound_function}
use Rattle.model.specs.Tables.{Tab, names, types, constants, overrides, globals, exprs, at, tables, count}
use Rattle.model.specs.References.{Place, table, own, function, Target, copied, ref, opt, targets, target, Node, ref_of, refs, carry_w, through, alike_c, alike}
use Rattle.model.specs.Scope.{evals_opt}
use Rattle.model.specs.Callees.{callees}
use Rattle.model.specs.Imports.{Derived}
use Rattle.model.specs.Bodies.{Builder, mapped_to, carried, put_name, name_if, keep_names, named_rows, declarations, declared, kept_names, derived, final, localized}
use Rattle.theory_walks.specs.Agreement.{Maps, carry_opt as carryOptA}
use Rattle.theory_image.specs.FunctionViews.{among}
use Rattle.theory_image.specs.Quiet.{each_map}
use Rattle.theory_image.specs.Within.{within-append}
use Rattle.theory_records.specs.RecordLaws.{All as AllN, Has as HasN, bare, alike_self, rest_of}
use Rattle.theory_bodies.specs.Lists.{All, split}
use Rattle.theory_bodies.specs.Context.{look, size_of, Law, Ctx}
use Rattle.theory_bodies.specs.Inv.{Has, place, ext_all, carry_ext, bare-carried, Inv}
use Rattle.theory_bodies.specs.Carried.{Free, both_ok, cells_carry}
use Rattle.theory_bodies.specs.Classes.{Effects, e-none, e-last, e-more, effect_classes, result_classes, Plain, expr_plain, head_plain, argument-plain, result_plain, local-plain, effect_cells, result_cells}
use Rattle.theory_bodies.specs.Body.{Room}
use Rattle.theory_bodies.specs.Function.{Fine, ctx, maps_of, maps_match, holds, grows, decl_has, refs-append, body-laid, initialised-again}
use Rattle.theory_bodies.specs.Passing.{Passes, fine, initials-fine, parts, row_lays, row_in}

-- ---- cells in range, and an Emit's range in order: B are the bounds
pub data Laid (B : Bounds) : Cells → Type 0 where
  l_none : Laid B []
  l_cell : {s w : ℕ} {cs : Cells} → eqb s FROM ≡ false → under (bound B s) w ≡ true → Laid B cs → Laid B ((s, w) ∷ cs)
  l_range : {a b : ℕ} {cs : Cells} → a ≤ b → b ≤ B.exprs → Laid B cs → Laid B ((FROM, a) ∷ (TO, b) ∷ cs)

module _ (B : Bounds) where
  laid-append : {xs : Cells} (ys : Cells) → Laid B xs → Laid B ys → Laid B (xs ++ ys)
  laid-append ys l_none b = b
  laid-append ys (l_cell p q a) b = l_cell p q (laid-append ys a b)
  laid-append ys (l_range p q a) b = l_range p q (laid-append ys a b)

  laid-rows : (rs : List Cells) → ((k : ℕ) → k < length rs → Laid B (get_or rs k [])) → Laid B (flat_all rs)
  unfolding flat_all
  laid-rows [] f = l_none
  laid-rows (r ∷ rs) f = laid-append (flat_all rs) (f 0 (omega arith)) (laid-rows rs (λ k h. f (suc k) (omega arith)))

  laid-within : {cs : Cells} → Laid B cs → within B cs ≡ true
  unfolding within bound caps under
  laid-within l_none = refl
  laid-within (l_cell {s} {w} {cs} p q a) = rw (q, laid-within a)
  laid-within (l_range {a} {b} {cs} p q l) = rw (lt-ltb b (suc B.exprs) (omega arith)) (laid-within l)

  rising_not : (s w : ℕ) (cs : Cells) → eqb s FROM ≡ false → rising (s, w) cs ≡ true
  unfolding rising
  rising_not s w [] h = refl
  rising_not s w (d ∷ cs) h = rw (h, rising)

  laid-ordered : {cs : Cells} → Laid B cs → ordered cs ≡ true
  unfolding ordered rising
  laid-ordered l_none = refl
  laid-ordered (l_cell {s} {w} {cs} p q a) = rw (rising_not s w cs p) (laid-ordered a)
  laid-ordered (l_range {a} {b} {cs} p q l) = rw (le-leb a b p, rising_not TO b cs refl) (laid-ordered l)

  -- a word that has no bound
  free-cell : (s w : ℕ) → (s ≡ WORD) ⊎ ((s ≡ SPAN) ⊎ ((s ≡ UPTO) ⊎ (KEY ≤ s))) → (eqb s FROM ≡ false) × (under (bound B s) w ≡ true)
  free-cell s w (inl e) = rw e (refl, unfold bound caps under in refl)
  free-cell s w (inr (inl e)) = rw e (refl, unfold bound caps under in refl)
  free-cell s w (inr (inr (inl e))) = rw e (refl, unfold bound caps under in refl)
  free-cell s w (inr (inr (inr h))) = (ne_eqb s FROM (λ e. omega arith), unfold bound in (rw (le-ltb s WORD (omega arith), bound) (unfold caps under in rw (get_or-eq_default (caps B) none {n = s - WORD} (omega arith)))))

  free-laid : (v : Cells) → Free v → Laid B v
  free-laid [] a = l_none
  free-laid (c ∷ cs) a = let z = free-cell (class c) (word c) (⊎_elim inl (λ h. inr (inr (inr h))) a.0) in l_cell z.0 z.1 (free-laid cs a.1)

module _ (o : ℕ) (M : Module) (follow : ℕ → Derived → Derived) (Q : ℕ → Type 0) (G : Derived → Type 0) (law : Law o M follow Q G) (F : Function) (pass : Passes M F) (calls : All Q (callees F)) (s : Derived) (good : G s) where
  abbrev c : Ctx
  c = ctx o M follow Q G law F

  abbrev fit : Fine c F
  fit = fine o M follow Q G law F pass calls

  abbrev dec : Builder
  dec = declared o M follow F s

  abbrev fin : Builder
  fin = final o M follow F s

  abbrev F' : Function
  F' = localized o M follow F s

  abbrev W : Place → ℕ → ℕ
  W = mapped_to M fin

  abbrev inv : Inv c fin
  inv = holds o M follow Q G law F fit s good

  abbrev φ : ℕ → ℕ
  φ = place fin.memo

  module _ (D : Module) (tables-room : (t : Tab) → count fin.out.recs t ≤ count (tables D) t) (functions-room : length fin.out.functions ≤ length D.functions) where
    abbrev B : Bounds
    B = inside (outside M) F

    abbrev B' : Bounds
    B' = inside (outside D) F'

    unfoldable cap : Place → ℕ
    cap (table t) = count (tables D) t
    cap own = length fin.made
    cap function = length D.functions

    own_bounded : (e : ℕ) → get_or fin.memo e 0 ≤ length fin.made
    unfolding place
    own_bounded e = ⊎_elim (λ z. omega arith) (λ h. let b : pred (get_or fin.memo e 0) < length fin.made = (inv.found e h).below in omega arith) (split (get_or fin.memo e 0))

    bounded : (p : Place) (n : ℕ) → W p n ≤ cap p
    unfolding cap mapped_to look size_of
    bounded (table t) n = le_trans (law.within fin.out inv.good (table t) n) (tables-room t)
    bounded own n = own_bounded n
    bounded function n = le_trans (law.within fin.out inv.good function n) functions-room

    -- ---- a word of the class s, its target and its bounds
    abbrev Rel : ℕ → Target → Option ℕ → Option ℕ → Type 0
    Rel s t a b = eqb s TO ≡ false → (w : ℕ) (rest : List Node) → under a w ≡ true → AllN (HasN W) (ref_of t w rest) → under b (carry_w W t w) ≡ true

    abbrev Rels : ℕ → List Target → List (Option ℕ) → List (Option ℕ) → Type 0
    Rels s [] cs bs = Unit {0}
    Rels s (t ∷ ts) [] bs = ⊥
    Rels s (t ∷ ts) (a ∷ cs) [] = ⊥
    Rels s (t ∷ ts) (a ∷ cs) (b ∷ bs) = Rel s t a b × Rels (suc s) ts cs bs

    rel_at : (ts : List Target) (cs bs : List (Option ℕ)) (s i : ℕ) → Rels s ts cs bs → i < length ts → Rel (s + i) (get_or ts i copied) (get_or cs i none) (get_or bs i none)
    rel_at [] cs bs s i r h = absurd (omega arith)
    rel_at (t ∷ ts) [] bs s i r h = absurd r
    rel_at (t ∷ ts) (a ∷ cs) [] s i r h = absurd r
    rel_at (t ∷ ts) (a ∷ cs) (b ∷ bs) s zero r h = let q : s + 0 ≡ s = omega arith in rw q r.0
    rel_at (t ∷ ts) (a ∷ cs) (b ∷ bs) s (suc i) r h = let q : s + suc i ≡ suc s + i = omega arith in rw q (rel_at ts cs bs (suc s) i r.1 (omega arith))

    ref_rel : (s : ℕ) (p : Place) (a : Option ℕ) (n : ℕ) → cap p ≡ n → Rel s (ref p) a (some n)
    unfolding ref_of carry_w under
    ref_rel s p a n q t w rest h m = lt-ltb (pred (W p w)) n (omega (arith, bounded p w, m.0))

    opt_rel : (s : ℕ) (p : Place) (a : Option ℕ) (n : ℕ) → cap p ≡ n → Rel s (opt p) a (some (suc n))
    unfolding ref_of carry_w under
    opt_rel s p a n q t zero rest h m = lt-ltb 0 (suc n) (omega arith)
    opt_rel s p a n q t (suc w) rest h m = lt-ltb (W p w) (suc n) (omega (arith, bounded p w))

    same_rel : (s : ℕ) (a b : Option ℕ) → a ≡ b → Rel s copied a b
    unfolding carry_w
    same_rel s a b q t w rest h m = rw q at h

    made_size : length F'.exprs ≡ length fin.made
    unfolding localized derived
    made_size = refl

    arguments_size : length F'.arguments ≡ length F.arguments
    unfolding localized derived
    arguments_size = length-map F.arguments (carried o M dec)

    locals_size : length F'.locals ≡ length F.locals
    unfolding localized derived
    locals_size = length-map F.locals (carried o M dec)

    rels : Rels SPAN targets (behind (caps B)) (behind (caps B'))
    unfolding targets caps inside outside count tables at cap
    rels =
        (λ t w rest h m. unfold under in refl, (λ t w rest h m. unfold under in refl, (opt_rel 83 (table names) _ _ refl, (ref_rel 84 (table types) _ _ refl, (opt_rel 85 (table types) _ _ refl, (ref_rel 86 (table constants) _ _ refl, (ref_rel 87 (table overrides) _ _ refl, (ref_rel 88 (table globals) _ _ refl, (ref_rel 89 (table exprs) _ _ refl, (opt_rel 90 (table exprs) _ _ refl, (ref_rel 91 function _ _ refl, (ref_rel 92 function _ _ refl, (ref_rel 93 own _ _ (sym made_size), (opt_rel 94 own _ _ (sym made_size), (same_rel 95 _ _ (ap some (sym arguments_size)), (same_rel 96 _ _ (ap some (sym locals_size)), (same_rel 97 none none refl, (λ t w rest h m. absurd (false≢true (sym t)), (ref_rel 99 own _ _ (sym made_size), (opt_rel 100 own _ _ (sym made_size), (ref_rel 101 own _ _ (sym made_size), (opt_rel 102 own _ _ (sym made_size), tt))))))))))))))))))))))

    cell-carried : (s w : ℕ) (rest : List Node) → eqb s TO ≡ false → under (bound B s) w ≡ true → AllN (HasN W) (ref_of (target s) w rest) → under (bound B' s) (through W s w) ≡ true
    unfolding target bound through
    cell-carried s w rest t h m = go (ltb s SPAN) refl m
      where
        low : s < SPAN → (b : Bool) → ltb s WORD ≡ b → under (elim b [ true ↦ some s | false ↦ get_or (caps B) (s - WORD) none ]) w ≡ true → under (elim b [ true ↦ some s | false ↦ get_or (caps B') (s - WORD) none ]) w ≡ true
        low l true e h = h
        low l false e h = unfold caps under in (let q : s - WORD ≡ 0 = omega (arith, ltb-false s WORD e) in rw q)

        past : SPAN ≤ s → Dec (s - SPAN < length targets) → AllN (HasN W) (ref_of (get_or targets (s - SPAN) copied) w rest) → under (get_or (caps B') (s - WORD) none) (carry_w W (get_or targets (s - SPAN) copied) w) ≡ true
        past l (yes k) m =
            let q : s - WORD ≡ suc (s - SPAN) = omega arith in
            let h' : under (get_or (caps B) (s - WORD) none) w ≡ true = rw (le-ltb s WORD (omega arith), bound) at h in
            let z = rel_at targets (behind (caps B)) (behind (caps B')) SPAN (s - SPAN) rels k in
            let e : SPAN + (s - SPAN) ≡ s = omega arith in
            rw (q, get_d_behind (caps B') (s - SPAN) none) (z (rw e t) w rest (rw (q, get_d_behind (caps B) (s - SPAN) none) at h') m)
        past l (no k) m = unfold caps under in (let q : length (caps B') ≤ s - WORD = omega (arith, many, more) in rw (get_or-eq_default (caps B') none {n = s - WORD} q))
          where
            many : length targets ≡ 22
            many = unfold targets in refl

            more : length (caps B') ≡ 23
            more = unfold caps in refl

        go : (b : Bool) → ltb s SPAN ≡ b → AllN (HasN W) (ref_of (elim b [ true ↦ copied | false ↦ get_or targets (s - SPAN) copied ]) w rest)
            → under (bound B' s) (carry_w W (elim b [ true ↦ copied | false ↦ get_or targets (s - SPAN) copied ]) w) ≡ true
        go true e m = unfold carry_w in low (ltb-true s SPAN e) (ltb s WORD) refl h
        go false e m = rw (le-ltb s WORD (omega (arith, ltb-false s SPAN e)), bound) (past (ltb-false s SPAN e) (dec_lt (s - SPAN) (length targets)) m)

    -- ---- a derived record
    abbrev same? : ℕ → ℕ → ℕ → ℕ → Bool
    same? s s' v v' = elim (eqb s s') [ true ↦ elim (eqb v v') [ true ↦ true | false ↦ eqb s SPAN || eqb s UPTO ] | false ↦ false ]

    alike-under : (s s' v v' : ℕ) → same? s s' v v' ≡ true → under (bound B' s') v' ≡ true → (s ≡ s') × (under (bound B' s) v ≡ true)
    alike-under s s' v v' e h = go (eqb s s') (eqb v v') (eqb s SPAN) (eqb s UPTO) refl refl refl refl e
      where
        go : (a b x y : Bool) → eqb s s' ≡ a → eqb v v' ≡ b → eqb s SPAN ≡ x → eqb s UPTO ≡ y → elim a [ true ↦ elim b [ true ↦ true | false ↦ x || y ] | false ↦ false ] ≡ true → (s ≡ s') × (under (bound B' s) v ≡ true)
        go true true x y p q u z e = let k = eqb-true s s' p in (k, rw (k, eqb-true v v' q) h)
        go true false true y p q u z e = (eqb-true s s' p, rw (eqb-true s SPAN u) (unfold bound caps under in refl))
        go true false false true p q u z e = (eqb-true s s' p, rw (eqb-true s UPTO z) (unfold bound caps under in refl))
        go true false false false p q u z e = absurd (false≢true e)
        go false b x y p q u z e = absurd (false≢true e)

    record_laid : (r r' : Cells) → Plain r → within B r ≡ true → AllN (HasN W) (refs r) → alike r' (carry_cells (through W) r) ≡ true → Laid B' r'
    unfolding within refs alike alike_c carry_cell
    record_laid [] [] p h m e = l_none
    record_laid [] (d ∷ ds) p h m e = absurd (false≢true e)
    record_laid (b ∷ cs) [] p h m e = absurd (false≢true e)
    record_laid (b ∷ cs) (d ∷ ds) p h m e =
        let a = and_split (under (bound B (class b)) (word b)) (within B cs) h in
        go (alike_c d (class b, through W (class b) (word b))) refl e (record_laid cs ds p.2 a.1 (rest_of (HasN W) (target (class b)) (word b) (refs cs) m)) (cell-carried (class b) (word b) (refs cs) p.1 a.0 m)
      where
        go : (x : Bool) → alike_c d (class b, through W (class b) (word b)) ≡ x → elim x [ true ↦ alike ds (carry_cells (through W) cs) | false ↦ false ] ≡ true
            → (alike ds (carry_cells (through W) cs) ≡ true → Laid B' ds) → under (bound B' (class b)) (through W (class b) (word b)) ≡ true → Laid B' (d ∷ ds)
        go true q e ih u = let z = alike-under (class d) (class b) (word d) (through W (class b) (word b)) q u in l_cell {s = class d} {w = word d} (rw z.0 p.0) z.1 (ih e)
        go false q e ih u = absurd (false≢true e)

    -- ---- expressions
    exprs_laid : Laid B' (flat_all fin.made)
    exprs_laid = laid-rows B' fin.made (λ k h. one k h (inv.from k h))
      where
        one : (k : ℕ) → k < length fin.made → (e : ℕ) × Has fin.memo e × (φ e ≡ k) → Laid B' (get_or fin.made k [])
        one k h b =
            let e : ℕ = b.0 in
            let n = inv.found e b.1 in
            rw (← b.2) (record_laid (get_or F.exprs e []) (get_or fin.made (φ e) []) (plain e) (row_in M F F.exprs (parts o M follow Q G law F pass calls).rows e) n.ready (alike_self _ _ n.same))
          where
            plain : (e : ℕ) → Plain (get_or F.exprs e [])
            plain e = elim (dec_lt e (length F.exprs)) [ yes l ↦ expr_plain (row_lays o M follow Q G law F pass calls e l) | no l ↦ rw (get_or-eq_default F.exprs [] {n = e} (omega arith)) tt ]

    -- ---- declarations
    row_laid : (r : Cells) → Plain r → within B r ≡ true → AllN (HasN (mapped_to M dec)) (refs r) → Laid B' (carried o M dec r)
    row_laid r p h m =
        let x = grows o M follow Q G law F fit s good in
        record_laid r (carried o M dec r) p h (ext_all M x (refs r) m) (alike_self _ _ (bare-carried o M dec r ∙ ap bare (sym (carry_ext M x r m))))

    rows-laid : {rs : List Cells} → Each Plain rs → within B (flat_all rs) ≡ true → AllN (HasN (mapped_to M dec)) (refs (flat_all rs)) → Laid B' (flat_all (map (carried o M dec) rs))
    unfolding flat_all
    rows-laid each_none h m = l_none
    rows-laid (each_next {a = r} {l = rs} p ps) h m =
        let a = within-append B r (flat_all rs) h in
        let b = refs-append (HasN (mapped_to M dec)) r (flat_all rs) m in
        laid-append B' (flat_all (map (carried o M dec) rs)) (row_laid r p a.0 b.0) (rows-laid ps a.1 b.1)

    record Declared : Type 0 where
      head : Laid B' (carried o M dec F.head)
      arguments : Laid B' (flat_all (map (carried o M dec) F.arguments))
      result : Laid B' (carried o M dec F.result)
      locals : Laid B' (flat_all (map (carried o M dec) F.locals))

    declared-laid : Declared
    unfolding declarations
    declared-laid =
        let w = (parts o M follow Q G law F pass calls).decls in
        let m = decl_has o M follow Q G law F fit s good in
        let w₁ = within-append B (F.head ++ flat_all F.arguments ++ F.result) (flat_all F.locals) w in
        let w₂ = within-append B (F.head ++ flat_all F.arguments) F.result w₁.0 in
        let w₃ = within-append B F.head (flat_all F.arguments) w₂.0 in
        let m₁ = refs-append (HasN (mapped_to M dec)) (F.head ++ flat_all F.arguments ++ F.result) (flat_all F.locals) m in
        let m₂ = refs-append (HasN (mapped_to M dec)) (F.head ++ flat_all F.arguments) F.result m₁.0 in
        let m₃ = refs-append (HasN (mapped_to M dec)) F.head (flat_all F.arguments) m₂.0 in
        record {
          head = row_laid F.head (head_plain pass.well.head_ok) w₃.0 m₃.0;
          arguments = rows-laid (each_map (λ r l. argument-plain l) pass.well.arguments_ok.each) w₃.1 m₃.1;
          result = row_laid F.result (result_plain pass.well.result_ok_lem) w₂.1 m₂.1;
          locals = rows-laid (each_map (λ r l. local-plain l) pass.well.locals_ok.each) w₁.1 m₁.1;
        }

    -- ---- named expressions
    abbrev PairsBelow : List (ℕ × ℕ) → Type 0
    PairsBelow [] = Unit {0}
    PairsBelow (p ∷ ps) = (p.0 < length fin.made) × PairsBelow ps

    put-below : (ps : List (ℕ × ℕ)) (k w : ℕ) → k < length fin.made → PairsBelow ps → PairsBelow (put_name ps k w)
    unfolding put_name
    put-below [] k w h a = (h, tt)
    put-below (p ∷ ps) k w h a = go (eqb p.0 k) (put-below ps k w h a.1)
      where
        go : (t : Bool) → PairsBelow (put_name ps k w) → PairsBelow (elim t [ true ↦ (k, w) ∷ ps | false ↦ p ∷ put_name ps k w ])
        go true i = (h, a.1)
        go false i = (a.0, i)

    if_below : (v w : ℕ) (ps : List (ℕ × ℕ)) → v ≤ length fin.made → PairsBelow ps → PairsBelow (name_if v w ps)
    unfolding name_if
    if_below zero w ps h a = a
    if_below (suc k) w ps h a = put-below ps k w h a

    keep-below : (rs : List Cells) (ps : List (ℕ × ℕ)) → PairsBelow ps → PairsBelow (keep_names rs fin.memo ps)
    unfolding keep_names
    keep-below [] ps a = a
    keep-below (r ∷ rs) ps a = keep-below rs _ (if_below (get_or fin.memo (field NAMED-EXPR r) 0) (field NAME r) ps (own_bounded (field NAMED-EXPR r)) a)

    name_under : (w : ℕ) → under (bound B' NAME) (through W NAME w) ≡ true
    unfolding bound caps under inside outside through target targets carry_w
    name_under zero = lt-ltb 0 (suc (length D.names)) (omega arith)
    name_under (suc n) = lt-ltb (W (table names) n) (suc (length D.names)) (omega (arith, top))
      where
        top : W (table names) n ≤ length D.names
        top = unfold cap count tables at in bounded (table names) n

    place-under : (s k : ℕ) → get_or (caps B') (s - WORD) none ≡ some (length fin.made) → WORD ≤ s → k < length fin.made → under (bound B' s) k ≡ true
    unfolding bound
    place-under s k q l h = rw (le-ltb s WORD l, bound, q) (unfold under in lt-ltb k (length fin.made) h)

    named-laid : (ps : List (ℕ × ℕ)) → PairsBelow ps → Laid B' (flat_all (named_rows ps (through W NAME)))
    unfolding named_rows flat_all
    named-laid [] a = l_none
    named-laid (p ∷ ps) a = l_cell refl (place-under NAMED-EXPR p.0 named-cap (omega arith) a.0) (l_cell refl (name_under p.1) (named-laid ps a.1))
      where
        named-cap : get_or (caps B') (NAMED-EXPR - WORD) none ≡ some (length fin.made)
        named-cap = unfold caps inside localized derived in refl

    -- ---- the body
    abbrev μ : Maps
    μ = maps_of W

    expr_cap : get_or (caps B') (EXPR - WORD) none ≡ some (length fin.made)
    unfolding caps inside localized derived
    expr_cap = refl

    result_cap : get_or (caps B') (RESULT - WORD) none ≡ some (length fin.made)
    unfolding caps inside localized derived
    result_cap = refl

    opt_cap : get_or (caps B') (OPT_EXPR - WORD) none ≡ some (suc (length fin.made))
    unfolding caps inside localized derived
    opt_cap = refl

    opt_result_cap : get_or (caps B') (OPT_RESULT - WORD) none ≡ some (suc (length fin.made))
    unfolding caps inside localized derived
    opt_result_cap = refl

    opt_under : (s v : ℕ) → get_or (caps B') (s - WORD) none ≡ some (suc (length fin.made)) → WORD ≤ s → v ≤ length fin.made → under (bound B' s) v ≡ true
    unfolding bound
    opt_under s v q l h = rw (le-ltb s WORD l, bound, q) (unfold under in lt-ltb v (suc (length fin.made)) (omega arith))

    has-below : (e : ℕ) → Has fin.memo e → φ e < length fin.made
    has-below e h = (inv.found e h).below

    -- an effect's words
    abbrev Goes : ℕ → Type 0
    Goes s = (w : ℕ) (rest : List Node) → AllN (HasN W) (ref_of (target s) w rest) → (eqb s FROM ≡ false) × (under (bound B' s) (through W s w) ≡ true)

    ref_goes : (s : ℕ) → eqb s FROM ≡ false → target s ≡ ref own → get_or (caps B') (s - WORD) none ≡ some (length fin.made) → WORD ≤ s → Goes s
    unfolding through place carry_w mapped_to ref_of
    ref_goes s f t q l w rest = rw t (λ m. (f, place-under s (pred (W own w)) q l (has-below w m.0)))

    opt_goes : (s : ℕ) → eqb s FROM ≡ false → target s ≡ opt own → get_or (caps B') (s - WORD) none ≡ some (suc (length fin.made)) → WORD ≤ s → Goes s
    unfolding through
    opt_goes s f t q l w rest = rw t (λ m. (f, opt_under s (carry_w W (opt own) w) q l (top w)))
      where
        top : (w : ℕ) → carry_w W (opt own) w ≤ length fin.made
        top zero = unfold carry_w in omega arith
        top (suc n) = unfold carry_w mapped_to in own_bounded n

    free_goes : (s : ℕ) → target s ≡ copied → (s ≡ WORD) ⊎ (KEY ≤ s) → Goes s
    unfolding through carry_w
    free_goes s t h w rest = rw t (λ m. free-cell B' s w (⊎_elim inl (λ k. inr (inr (inr k))) h))

    effect_goes : (s : ℕ) → among s effect_classes ≡ true → Goes s
    unfolding target targets
    effect_goes = effect_cells Goes (free_goes WORD refl (inl refl)) (ref_goes EXPR refl refl expr_cap (omega arith)) (opt_goes OPT_EXPR refl refl opt_cap (omega arith)) (free_goes ATOMIC refl (inr (omega arith)))

    result_goes : (s : ℕ) → among s result_classes ≡ true → Goes s
    unfolding target targets
    result_goes = result_cells Goes (ref_goes RESULT refl refl result_cap (omega arith)) (opt_goes OPT_RESULT refl refl opt_result_cap (omega arith))

    effect_laid : {cs : Cells} → Effects cs → AllN (HasN W) (refs cs) → Laid B' (carry_cells (through W) cs)
    unfolding refs carry_cell
    effect_laid e-none m = l_none
    effect_laid (e-last {s} {w} h) m = let z = result_goes s h w [] m in l_cell z.0 z.1 l_none
    effect_laid (e-more {s} {w} {cs} h e) m = let z = effect_goes s h w (refs cs) m in l_cell z.0 z.1 (effect_laid e (rest_of (HasN W) (target s) w (refs cs) m))

    callee-under : (h : ℕ) → 0 < W function h → under (bound B' CALLEE) (pred (W function h)) ≡ true
    unfolding bound caps under inside outside
    callee-under h p = lt-ltb (pred (W function h)) (length D.functions) (omega (arith, top))
      where
        top : W function h ≤ length D.functions
        top = unfold cap in bounded function h

    opt_word_lem : (x : Option ℕ) → All (Has fin.memo) (evals_opt x) → word_of (carryOptA φ x) ≤ length fin.made
    unfolding word_of carryOptA evals_opt
    opt_word_lem none a = omega arith
    opt_word_lem (some e) a = has-below e a.0

    two-under : (f : ℕ) → f < 2 → under (bound B' 2) f ≡ true
    unfolding bound under
    two-under f h = lt-ltb f 2 h

    bound-made : (b : ℕ) → b ≤ length fin.made → b ≤ B'.exprs
    unfolding inside localized derived
    bound-made b h = h

    room : Room (Laid B') c fin μ
    room = record {
      none = l_none;
      append = λ xs ys a b. laid-append B' ys a b;
      free = λ s w h. (let z = free-cell B' s w (inr h) in l_cell z.0 z.1 l_none);
      range = λ a b h l. l_range h (bound-made b l) l_none;
      expr = λ e h. l_cell refl (place-under EXPR (φ e) expr_cap (omega arith) (has-below e h)) l_none;
      optional = λ s x h a. optional-laid s x h a;
      callee = λ h p. l_cell refl (callee-under h p) l_none;
      effect = λ cs k m. rw (← cells_carry μ φ M Q W (maps_match M Q fin) cs k.nameless (both_ok μ φ M Q W (maps_match M Q fin) (refs cs) m k.inside)) (effect_laid k.shape m);
      case = λ v f k. (free-laid B' v k.value, l_cell refl (two-under f k.falls) l_none);
    }
      where
        optional-laid : (s : ℕ) (x : Option ℕ) → (s ≡ OPT_EXPR) ⊎ (s ≡ OPT_RESULT) → All (Has fin.memo) (evals_opt x) → Laid B' ((s, word_of (carryOptA φ x)) ∷ [])
        optional-laid s x (inl e) a = rw e (l_cell refl (opt_under OPT_EXPR _ opt_cap (omega arith) (opt_word_lem x a)) l_none)
        optional-laid s x (inr e) a = rw e (l_cell refl (opt_under OPT_RESULT _ opt_result_cap (omega arith) (opt_word_lem x a)) l_none)

    body_in : Laid B' (flat_b F'.body)
    body_in = body-laid o M follow Q G law F fit s good μ (maps_match M Q fin) M (Laid B') room

    -- ---- the whole
    count-laid : (s n : ℕ) (cs : Cells) → KEY ≤ s → Laid B' cs → Laid B' ((s, n) ∷ cs)
    count-laid s n cs h a = let z = free-cell B' s n (inr (inr (inr h))) in l_cell z.0 z.1 a

    flat-laid : Laid B' (flat F')
    unfolding flat flat_list flat_block localized derived kept_names
    flat-laid =
        laid-append B' _ (laid-append B' _ (laid-append B' _ (laid-append B' _ (laid-append B' _ (laid-append B' _ declared-laid.head
        (count-laid ARGUMENTS _ _ (omega arith) declared-laid.arguments))
        declared-laid.result)
        (count-laid LOCALS _ _ (omega arith) declared-laid.locals))
        (count-laid EXPRESSIONS _ _ (omega arith) exprs_laid))
        (count-laid NAMED _ _ (omega arith) (named-laid (keep_names F.named fin.memo []) (keep-below F.named [] tt))))
        (count-laid BLOCK _ _ (omega arith) body_in)

    -- TEST 3 AGAIN
    pub sound-again : sound_function (outside D) F' ≡ true
    unfolding sound
    sound-again = rw (laid-within B' flat-laid, laid-ordered B' flat-laid) (initialised-again o M follow Q G law F fit s good (initials-fine o M follow Q G law F pass calls))
