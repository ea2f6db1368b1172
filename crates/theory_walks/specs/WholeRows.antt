-- The cells of statements that are no Emit: no span, no name and no Emit's range among them, so that they are in an opened body as they are.
use Rattle.std.specs.Prelude.{◌≡◌, refl, Bool, true, false, ◌&&◌, ◌||◌, not, List, [], ◌∷◌, ◌++◌, ℕ, zero, suc, eqb, ltb}
use Rattle.std.proofs.Common.{sym, ap, ◌∙◌, subst, arith, eqb-true}
use Rattle.std.proofs.lemmas.Bool.{false≢true}
use Rattle.std.proofs.Math.Option.{Option, none, some}
use Rattle.std.proofs.Math.ListN.{get_elem?}
use Rattle.theory_lists.specs.Booleans.{and_first, and_second, and-true, by}
use Rattle.model.specs.Outcome.{Cell, Cells, class}
use Rattle.model.specs.Table.{Row, FROM, TO, WORD, PAD, ATOMIC, VALUE, Shape, s_emit, s_block, s_if, s_switch, s_loop, s_break, s_continue, s_return, s_kill, s_call, s_effect, statements, atomics, values, variants, variant, brings, more}
use Rattle.model.specs.Carry.{Lays, lays_none, lays_next}
use Rattle.model.specs.Agreement.{opened}
use Rattle.theory_walks.specs.Agreement.{plain}

-- neither a span nor a name nor an Emit's range
unfoldable pub calm : ℕ → Bool
calm s = plain s && not (eqb s FROM || eqb s TO)

unfoldable pub calm_c : Cells → Bool
calm_c [] = true
calm_c (c ∷ cs) = calm (class c) && calm_c cs

-- of these classes only ATOMIC is followed by something
unfoldable quiet : Row → Bool
quiet [] = true
quiet (s ∷ ss) = (calm s && (ltb s PAD || eqb s ATOMIC)) && quiet ss

unfoldable quiet_all : List Row → Bool
quiet_all [] = true
quiet_all (r ∷ rs) = quiet r && quiet_all rs

quiet_at : (rs : List Row) → quiet_all rs ≡ true → (i : ℕ) (r : Row) → get_elem? rs i ≡ some r → quiet r ≡ true
unfolding quiet_all
quiet_at [] h i r q = absurd (let z : ◌≡◌ {A = ℕ} 0 1 = cc in omega arith)
quiet_at (x ∷ rs) h zero r q = let p : x ≡ r = cc in subst (λ y. quiet y ≡ true) p (and_first (quiet x) _ h)
quiet_at (x ∷ rs) h (suc i) r q = quiet_at rs (and_second (quiet x) _ h) i r q

unfoldable quiet_shapes : List Shape → Bool
quiet_shapes [] = true
quiet_shapes (s_emit ∷ hs) = quiet_shapes hs
quiet_shapes (s_block ∷ hs) = quiet_shapes hs
quiet_shapes (s_if ∷ hs) = quiet_shapes hs
quiet_shapes (s_switch ∷ hs) = quiet_shapes hs
quiet_shapes (s_loop ∷ hs) = quiet_shapes hs
quiet_shapes (s_break ∷ hs) = quiet_shapes hs
quiet_shapes (s_continue ∷ hs) = quiet_shapes hs
quiet_shapes (s_return ∷ hs) = quiet_shapes hs
quiet_shapes (s_kill ∷ hs) = quiet_shapes hs
quiet_shapes (s_call ∷ hs) = quiet_shapes hs
quiet_shapes (s_effect r ∷ hs) = quiet r && quiet_shapes hs

shape_at : (hs : List Shape) → quiet_shapes hs ≡ true → (i : ℕ) (r : Row) → get_elem? hs i ≡ some (s_effect r) → quiet r ≡ true
unfolding quiet_shapes
shape_at [] h i r q = absurd (let z : ◌≡◌ {A = ℕ} 0 1 = cc in omega arith)
shape_at (x ∷ hs) h zero r q = let p : x ≡ s_effect r = cc in and_first (quiet r) (quiet_shapes hs) (subst (λ y. quiet_shapes (y ∷ hs) ≡ true) p h)
shape_at (s_emit ∷ hs) h (suc i) r q = shape_at hs h i r q
shape_at (s_block ∷ hs) h (suc i) r q = shape_at hs h i r q
shape_at (s_if ∷ hs) h (suc i) r q = shape_at hs h i r q
shape_at (s_switch ∷ hs) h (suc i) r q = shape_at hs h i r q
shape_at (s_loop ∷ hs) h (suc i) r q = shape_at hs h i r q
shape_at (s_break ∷ hs) h (suc i) r q = shape_at hs h i r q
shape_at (s_continue ∷ hs) h (suc i) r q = shape_at hs h i r q
shape_at (s_return ∷ hs) h (suc i) r q = shape_at hs h i r q
shape_at (s_kill ∷ hs) h (suc i) r q = shape_at hs h i r q
shape_at (s_call ∷ hs) h (suc i) r q = shape_at hs h i r q
shape_at (s_effect x ∷ hs) h (suc i) r q = shape_at hs (and_second (quiet x) _ h) i r q

quiet-append : (a b : Row) → quiet a ≡ true → quiet b ≡ true → quiet (a ++ b) ≡ true
unfolding quiet
quiet-append [] b h g = g
quiet-append (s ∷ a) b h g = and-true {a = calm s && (ltb s PAD || eqb s ATOMIC)} (and_first (calm s && (ltb s PAD || eqb s ATOMIC)) _ h) (quiet-append a b (and_second (calm s && (ltb s PAD || eqb s ATOMIC)) _ h) g)

-- what follows a quiet class is quiet
variant-quiet : (m : Option Row) (w : ℕ) (xs : Row) → get_elem? atomics w ≡ m → variant m ≡ brings xs → quiet xs ≡ true
unfolding variant atomics quiet_all quiet calm plain
variant-quiet none w xs e p = absurd (let z : ◌≡◌ {A = ℕ} 0 1 = cc in omega arith)
variant-quiet (some r) w xs e p = let q : r ≡ xs = cc in quiet_at atomics refl w xs (e ∙ ap some q)

more-quiet : (s w : ℕ) (xs : Row) → (ltb s PAD || eqb s ATOMIC) ≡ true → more s w ≡ brings xs → quiet xs ≡ true
unfolding more variants quiet
more-quiet s w xs h q =
    by _ (ltb s PAD) (λ i. let p : brings [] ≡ brings xs = (rw (i, more) at q) in let z : [] ≡ xs = cc in subst (λ y. quiet y ≡ true) z refl)
    (λ i. let z = eqb-true s ATOMIC (rw i at h) in variant-quiet (get_elem? atomics w) w xs refl (rw z at q))

-- ---- the cells of an effect
lays_calm : {ss : Row} {cs : Cells} → Lays ss cs → quiet ss ≡ true → calm_c cs ≡ true
unfolding quiet calm_c
lays_calm lays_none h = refl
lays_calm (lays_next {s = s} {w = w} {xs = xs} {ss = ss} {cs = cs} q l) h =
    let a = and_first (calm s && (ltb s PAD || eqb s ATOMIC)) _ h in
    and-true {a = calm s} (and_first (calm s) _ a) (lays_calm l (quiet-append xs ss (more-quiet s w xs (and_second (calm s) _ a) q) (and_second (calm s && (ltb s PAD || eqb s ATOMIC)) _ h)))

pub effect_calm : (k : ℕ) (ss : Row) (cs : Cells) → get_elem? statements k ≡ some (s_effect ss) → Lays ss cs → calm_c cs ≡ true
unfolding statements quiet_shapes quiet calm plain
effect_calm k ss cs q l = lays_calm l (shape_at statements refl k ss q)

-- what is calm stays when a body is opened
neither : (p q : Bool) → not (p || q) ≡ true → (p ≡ false) × (q ≡ false)
neither true q h = absurd (false≢true h)
neither false true h = absurd (false≢true h)
neither false false h = (refl, refl)

opened_cons : (c : Cell) (cs : Cells) (drop : ℕ → Bool) → eqb (class c) FROM ≡ false → eqb (class c) TO ≡ false → opened (c ∷ cs) drop ≡ c ∷ opened cs drop
unfolding opened
opened_cons c cs drop h i = rw (opened, h, i)

pub opened-calm : (cs r : Cells) (drop : ℕ → Bool) → calm_c cs ≡ true → opened (cs ++ r) drop ≡ cs ++ opened r drop
unfolding calm_c calm opened
opened-calm [] r drop h = refl
opened-calm (c ∷ cs) r drop h =
    let n = neither (eqb (class c) FROM) (eqb (class c) TO) (and_second (plain (class c)) _ (and_first (calm (class c)) _ h)) in
    opened_cons c (cs ++ r) drop n.0 n.1 ∙ ap (c ∷◌) (opened-calm cs r drop (and_second (calm (class c)) _ h))

-- ---- the value of a case
pub data Value : Cells → Type 0 where
  v_i32 : {x : ℕ} → Value ((VALUE, 0) ∷ (WORD, x) ∷ [])
  v_u32 : {x : ℕ} → Value ((VALUE, 1) ∷ (WORD, x) ∷ [])
  v_default : Value ((VALUE, 2) ∷ [])

lays_end : {cs : Cells} → Lays [] cs → cs ≡ []
lays_end lays_none = refl

lays_word : {cs : Cells} → Lays (WORD ∷ []) cs → (x : ℕ) × (cs ≡ (WORD, x) ∷ [])
unfolding more
lays_word (lays_next {w = w} {xs = xs} {cs = cs} q l) =
    let z : [] ≡ xs = cc in
    (w, ap ((WORD, w) ∷◌) (lays_end (subst (λ y. Lays (y ++ []) cs) (sym z) l)))

pub value_of : {v : Cells} → Lays (VALUE ∷ []) v → Value v
unfolding more variants values variant
value_of (lays_next {w = zero} {xs = xs} {cs = cs} q l) =
    let z : WORD ∷ [] ≡ xs = cc in
    let r = lays_word (subst (λ y. Lays (y ++ []) cs) (sym z) l) in
    subst (λ y. Value ((VALUE, 0) ∷ y)) (sym r.1) v_i32
value_of (lays_next {w = suc zero} {xs = xs} {cs = cs} q l) =
    let z : WORD ∷ [] ≡ xs = cc in
    let r = lays_word (subst (λ y. Lays (y ++ []) cs) (sym z) l) in
    subst (λ y. Value ((VALUE, 1) ∷ y)) (sym r.1) v_u32
value_of (lays_next {w = suc (suc zero)} {xs = xs} {cs = cs} q l) =
    let z : [] ≡ xs = cc in
    subst (λ y. Value ((VALUE, 2) ∷ y)) (sym (lays_end (subst (λ y. Lays (y ++ []) cs) (sym z) l))) v_default
value_of (lays_next {w = suc (suc (suc w))} q l) = absurd (let z : ◌≡◌ {A = ℕ} 0 1 = cc in omega arith)
