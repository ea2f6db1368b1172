-- Records one after the other, and the stacks that hold those of a function under construction: cut at their places they are the stretch that they fill; one more is pushed
-- on their end; and what lies above the end does not count.
use mathlib.Core.Path.{◌≡◌, refl, sym, ap, ap₂, ◌∙◌}
use mathlib.Core.Logic.{⊎_elim}
use mathlib.Core.List.{List, [], ◌∷◌, ◌++◌, map}
use Prim.Native.Nat.{ℕ, zero, suc, ◌+◌, ◌≤◌, ◌<◌}
use native.Mathlib.Nat.{le_refl}
use native.Mathlib.Omega.{arith}
use lib.ListN.{length, get_or, set, take, drop, length-append, length-set, length-map, take-append-drop}
use lib.Seq.{slice, sets, sets-eq, length-sets, length-slice, length-take-le, take-take, take-append-le, drop-append-le, take_at, drop_at, take-suc-set, take-set-le, get_or-take, get_or-set_same, get_or-set_other}
use Rattle.theory_lists.specs.Lists.{take_less}
use Rattle.model.specs.Outcome.{Cells, class, word}
use Rattle.model.specs.Tree.{flat_all}
use Rattle.model.specs.Between.{beside, between}
use Rattle.model.specs.References.{Place, table, own, function, Node, refs}
use Rattle.theory_records.specs.RecordLaws.{All, all_map}
use Rattle.theory_image.specs.Betweens.{beside_cells, between_none}
use Rattle.derive_state.specs.Held.{row, put, Written}
use Rattle.derive_state.specs.Sizes.{Sizes}
use Rattle.derive_state.proofs.Passes.{length-between}
use Rattle.derive_state.proofs.State.{same_or, row_other}
use Rattle.function_references.specs.Fits.{Fits, FitN, Legible}
use Rattle.function_references.specs.Cuts.{next_of, cut, Rising, exprs_of, Expressions}
use Rattle.function_builder.specs.Stacks.{seats_of, made_of, Stacks, Under}
use Rattle.function_builder.specs.Makes.{Stays, Wrote}

-- ---- stretches

pub slice-join : (a b c : ℕ) (l : List ℕ) → a ≤ b → b ≤ c → c ≤ length l → slice a b l ++ slice b c l ≡ slice a c l
slice-join a b c l h i j =
    let m = length-take-le c l j in
    let n = length-take-le b (take c l) (omega arith) in
    ap (λ (x : List ℕ). drop a x ++ drop b (take c l)) (sym (take-take b c l i)) ∙ sym (drop-append-le a (take b (take c l)) (drop b (take c l)) (omega arith)) ∙ ap (drop a) (take-append-drop b (take c l))

beside-join : (a b x y : List ℕ) → length a ≡ length x → beside a x ++ beside b y ≡ beside (a ++ b) (x ++ y)
unfolding beside
beside-join [] b [] y e = refl
beside-join [] b (w ∷ x) y e = absurd (omega arith)
beside-join (s ∷ a) b [] y e = absurd (omega arith)
beside-join (s ∷ a) b (w ∷ x) y e = ap ((s, w) ∷◌) (beside-join a b x y (omega arith))

module _ (tags words : List ℕ) where
  pub between_join : (a b c : ℕ) → a ≤ b → b ≤ c → c ≤ length tags → c ≤ length words → between tags words a b ++ between tags words b c ≡ between tags words a c
  unfolding between
  between_join a b c h i t w =
      let x = length-slice a b tags (omega arith) in
      let y = length-slice a b words (omega arith) in
      beside-join (slice a b tags) (slice b c tags) (slice a b words) (slice b c words) (x ∙ sym y) ∙ ap₂ beside (slice-join a b c tags h i t) (slice-join a b c words h i w)

-- only what is below a place counts
pub between-same : (tags words tags' words' : List ℕ) (a b end : ℕ) → b ≤ end → take end tags' ≡ take end tags → take end words' ≡ take end words → between tags' words' a b ≡ between tags words a b
unfolding between
between-same tags words tags' words' a b end h t w = ap₂ (λ (x y : List ℕ). beside (drop a x) (drop a y)) (take_less b end tags' tags h t) (take_less b end words' words h w)

-- ---- places that rise
pub rising_low : (ss : List ℕ) (a end : ℕ) → Rising ss a end → a + length ss ≤ end
unfolding Rising
rising_low [] a end r = omega arith
rising_low (b ∷ bs) a end r = let h = rising_low bs (next_of bs end) end r.2 in let x = r.1 in omega arith

next_more : (ss : List ℕ) (end end' : ℕ) → next_of (ss ++ (end ∷ [])) end' ≡ next_of ss end
unfolding next_of
next_more [] end end' = refl
next_more (s ∷ ss) end end' = refl

pub rising-more : (ss : List ℕ) (a end end' : ℕ) → Rising ss a end → end < end' → Rising (ss ++ (end ∷ [])) a end'
unfolding Rising next_of
rising-more [] a end end' r h = (sym r, rw r h, refl)
rising-more (b ∷ bs) a end end' r h = (r.0, rw (next_more bs end end') r.1, rw (next_more bs end end') (rising-more bs (next_of bs end) end end' r.2 h))

-- each starts below the next, which is no later than the end
pub rising-at : (ss : List ℕ) (a end e : ℕ) → Rising ss a end → e < length ss → (get_or ss e 0 < next_of (drop (suc e) ss) end) × (next_of (drop (suc e) ss) end ≤ end)
unfolding Rising
rising-at [] a end e r h = absurd (omega arith)
rising-at (b ∷ bs) a end zero r h = let x = r.0 in let y = r.1 in let z = rising_low bs (next_of bs end) end r.2 in (omega arith, omega arith)
rising-at (b ∷ bs) a end (suc e) r h = rising-at bs (next_of bs end) end e r.2 (omega arith)

-- ---- records cut at their places
pub cut_long : (ss : List ℕ) (end : ℕ) (tags words : List ℕ) → length (cut ss end tags words) ≡ length ss
unfolding cut
cut_long [] end tags words = refl
cut_long (s ∷ ss) end tags words = ap suc (cut_long ss end tags words)

pub cut_at : (ss : List ℕ) (end : ℕ) (tags words : List ℕ) (e : ℕ) → e < length ss → get_or (cut ss end tags words) e [] ≡ between tags words (get_or ss e 0) (next_of (drop (suc e) ss) end)
unfolding cut
cut_at [] end tags words e h = absurd (omega arith)
cut_at (s ∷ ss) end tags words zero h = refl
cut_at (s ∷ ss) end tags words (suc e) h = cut_at ss end tags words e (omega arith)

pub cut-more : (ss : List ℕ) (end end' : ℕ) (tags words : List ℕ) → cut (ss ++ (end ∷ [])) end' tags words ≡ cut ss end tags words ++ (between tags words end end' ∷ [])
unfolding cut next_of
cut-more [] end end' tags words = refl
cut-more (s ∷ ss) end end' tags words = ap₂ (λ (n : ℕ) (l : List Cells). between tags words s n ∷ l) (next_more ss end end') (cut-more ss end end' tags words)

pub cut-same : (ss : List ℕ) (a end : ℕ) (tags words tags' words' : List ℕ) → Rising ss a end → take end tags' ≡ take end tags → take end words' ≡ take end words → cut ss end tags' words' ≡ cut ss end tags words
unfolding cut Rising
cut-same [] a end tags words tags' words' r t w = refl
cut-same (s ∷ ss) a end tags words tags' words' r t w =
    let h = rising_low ss (next_of ss end) end r.2 in
    ap₂ ◌∷◌ (between-same tags words tags' words' s (next_of ss end) end (omega arith) t w) (cut-same ss (next_of ss end) end tags words tags' words' r.2 t w)

pub cut-flat : (ss : List ℕ) (a end : ℕ) (tags words : List ℕ) → Rising ss a end → end ≤ length tags → end ≤ length words → flat_all (cut ss end tags words) ≡ between tags words a end
unfolding cut Rising flat_all
cut-flat [] a end tags words r t w = sym (rw r (none end))
  where
    none : (n : ℕ) → between tags words n n ≡ []
    none n = between_none tags words n n (le_refl n)
cut-flat (s ∷ ss) a end tags words r t w =
    let h = rising_low ss (next_of ss end) end r.2 in
    ap₂ (λ (x y : Cells). x ++ y) (ap (λ (n : ℕ). between tags words n (next_of ss end)) r.0) (cut-flat ss (next_of ss end) end tags words r.2 t w)
    ∙ between_join tags words a (next_of ss end) end (let x = r.1 in omega arith) (omega arith) t w

-- ---- the source's expressions
next-first : (ps : List ℕ) (k : ℕ) → k < length ps → next_of (take k ps) (get_or ps k 0) ≡ get_or ps 0 0
unfolding next_of
next-first [] k h = absurd (omega arith)
next-first (p ∷ ps) zero h = refl
next-first (p ∷ ps) (suc k) h = refl

next-at : (ps : List ℕ) (k e : ℕ) → e < k → k < length ps → next_of (drop (suc e) (take k ps)) (get_or ps k 0) ≡ get_or ps (suc e) 0
next-at [] k e h l = absurd (omega arith)
next-at (p ∷ ps) zero e h l = absurd (omega arith)
next-at (p ∷ ps) (suc k) zero h l = next-first ps k (omega arith)
next-at (p ∷ ps) (suc k) (suc e) h l = next-at ps k e (omega arith) (omega arith)

-- more expressions are allowed
pub fit-more : (words : List ℕ) (k n : ℕ) → k ≤ n → (j : Node) → FitN words k j → FitN words n j
unfolding Fits
fit-more words k n h j f = go j.place f
  where
    go : (p : Place) → Fits words k p j.num → Fits words n p j.num
    go (table t) g = g
    go own g = omega arith
    go function g = g

module _ {words tags places : List ℕ} {k : ℕ} (X : Expressions words tags places k) (e : ℕ) (h : e < k) where
  abbrev at : ℕ
  at = get_or places e 0

  abbrev end : ℕ
  end = get_or places (suc e) 0

  taken : length (take k places) ≡ k
  taken = let a = X.few in let b = X.places_long in length-take-le k places (omega arith)

  ends : next_of (drop (suc e) (take k places)) (get_or places k 0) ≡ end
  ends = let a = X.few in let b = X.places_long in next-at places k e h (omega arith)

  pub expr_is : get_or (exprs_of words tags places k) e [] ≡ between tags words at end
  unfolding exprs_of
  expr_is =
      let a = taken in
      cut_at (take k places) (get_or places k 0) tags words e (omega arith) ∙ ap₂ (between tags words) (get_or-take k places e 0 h) ends

  places_rise : (at < end) × (end ≤ 16384)
  places_rise =
      let a = taken in
      let r = rising-at (take k places) (get_or places 0 0) (get_or places k 0) e X.rising (omega arith) in
      let x = get_or-take k places e 0 h in
      let y = ends in
      let b = X.inside in
      let p = r.0 in
      let q = r.1 in
      (omega arith, omega arith)

  pub expr_some : at < end
  expr_some = places_rise.0

  pub expr_low : end ≤ 16384
  expr_low = places_rise.1

  pub expr_fits : (n : ℕ) → e ≤ n → All (FitN words n) (refs (between tags words at end))
  expr_fits n l = rw (← expr_is) (all_map (refs (get_or (exprs_of words tags places k) e [])) (fit-more words e n l) (X.fits e h))

  pub expr_legible : Legible words tags 1024 at end
  expr_legible =
      let a = expr_some in
      let b = expr_low in
      let x = X.words_long in
      let y = X.tags_long in
      let z = X.few in
      record {
        stretch = record { rising = omega arith; small = b; in_words = omega arith; in_tags = omega arith };
        words_long = x;
        tags_long = y;
        fits = expr_fits 1024 (omega arith);
      }

-- ---- the stacks
module _ {k : ℕ} {exprmap : List ℕ} {stacks : List (List ℕ)} {e₁ : ℕ} {e : Sizes} (U : Under k exprmap stacks e₁ e) where
  pub made_low : e₁ + e.made ≤ e.exprtop
  made_low = let a = rising_low (seats_of stacks e₁ e) e₁ e.exprtop U.rising in let b = U.made_is in omega arith

  pub made_many : length (made_of stacks e₁ e) ≡ e.made
  unfolding made_of
  made_many = cut_long (seats_of stacks e₁ e) e.exprtop (row stacks 1) (row stacks 0) ∙ U.made_is

  pub made-flat : flat_all (made_of stacks e₁ e) ≡ between (row stacks 1) (row stacks 0) e₁ e.exprtop
  unfolding made_of
  made-flat =
      let s = U.stacks_are in
      let h = s.high in
      let a = s.rows 0 (omega arith) in
      let b = s.rows 1 (omega arith) in
      cut-flat (seats_of stacks e₁ e) e₁ e.exprtop (row stacks 1) (row stacks 0) U.rising (omega arith) (omega arith)

  pub made_words : e₁ + length (flat_all (made_of stacks e₁ e)) ≡ e.exprtop
  made_words =
      let s = U.stacks_are in
      let h = s.high in
      let a = s.rows 0 (omega arith) in
      let b = s.rows 1 (omega arith) in
      let l = made_low in
      let c = ap length made-flat in
      let d = length-between (row stacks 1) (row stacks 0) e₁ e.exprtop (omega arith) (omega arith) in
      omega arith

  -- what lies above the top does not count
  module _ (stacks' : List (List ℕ)) (e' : Sizes) (stay : (t : ℕ) → t < 3 → take e.exprtop (row stacks' t) ≡ take e.exprtop (row stacks t)) (et_same : e'.exprtop ≡ e.exprtop) (made_is : e'.made ≡ e.made) where
    pub seats_same : seats_of stacks' e₁ e' ≡ seats_of stacks e₁ e
    unfolding seats_of
    seats_same = rw made_is (ap (drop e₁) (take_less (e₁ + e.made) e.exprtop (row stacks' 2) (row stacks 2) made_low (stay 2 (omega arith))))

    pub made-same : made_of stacks' e₁ e' ≡ made_of stacks e₁ e
    unfolding made_of
    made-same = rw (seats_same, et_same) (cut-same (seats_of stacks e₁ e) e₁ e.exprtop (row stacks 1) (row stacks 0) (row stacks' 1) (row stacks' 0) U.rising (stay 1 (omega arith)) (stay 0 (omega arith)))

    pub under_same : Stacks stacks' e' → Under k exprmap stacks' e₁ e'
    under_same S = record {
      few = U.few;
      em_long = U.em_long;
      stacks_are = S;
      rising = rw (seats_same, et_same) U.rising;
      made_is = rw seats_same (U.made_is ∙ sym made_is);
      within = λ x. rw made_is (U.within x);
    }

-- ---- cells written from p on
module _ (cs : Cells) (p : ℕ) (words tags words' tags' : List ℕ) (hw : length words ≡ 16384) (ht : length tags ≡ 16384) (fits : p + length cs ≤ 16384) (W : Written cs p words tags words' tags') where
  below : (l vs : List ℕ) → p + length vs ≤ length l → take p (sets l p vs) ≡ take p l
  below l vs h =
      let a = length-take-le p l (omega arith) in
      rw (sets-eq vs l p h, take-append-le p (take p l ++ vs) (drop (p + length vs) l) (omega (arith, length-append (take p l) vs))) (take_at (take p l) vs p a)

  there : (l vs : List ℕ) → p + length vs ≤ length l → slice p (p + length vs) (sets l p vs) ≡ vs
  there l vs h =
      let a = length-take-le p l (omega arith) in
      let b = length-append (take p l) vs in
      rw (sets-eq vs l p h, take_at (take p l ++ vs) (drop (p + length vs) l) (p + length vs) (omega arith), drop_at (take p l) vs p a)

  pub wrote_words : take p words' ≡ take p words
  wrote_words = rw W.words_are (below words (map word cs) (omega (arith, length-map cs word)))

  pub wrote_tags : take p tags' ≡ take p tags
  wrote_tags = rw W.tags_are (below tags (map class cs) (omega (arith, length-map cs class)))

  pub wrote_long : length words' ≡ 16384
  wrote_long = rw W.words_are (length-sets words p (map word cs) ∙ hw)

  pub wrote_long' : length tags' ≡ 16384
  wrote_long' = rw W.tags_are (length-sets tags p (map class cs) ∙ ht)

  pub wrote_cells : between tags' words' p (p + length cs) ≡ cs
  unfolding between
  wrote_cells =
      let a : slice p (p + length cs) (sets tags p (map class cs)) ≡ map class cs = rw (length-map cs class) at (there tags (map class cs) (omega (arith, length-map cs class))) in
      let b : slice p (p + length cs) (sets words p (map word cs)) ≡ map word cs = rw (length-map cs word) at (there words (map word cs) (omega (arith, length-map cs word))) in
      rw (W.words_are, W.tags_are) (ap₂ beside a b ∙ beside_cells cs)

-- ---- one expression more on the top
pub set_low : (ms : List ℕ) (i v n : ℕ) → i < length ms → ((y : ℕ) → get_or ms y 0 ≤ n) → v ≤ n → (y : ℕ) → get_or (set ms i v) y 0 ≤ n
set_low ms i v n l h hv y = ⊎_elim (λ (q : y ≡ i). rw (q, get_or-set_same ms i v 0 l) hv) (λ (ne : y ≡ i → ⊥). rw (get_or-set_other ms i y v 0 ne) (h y)) (same_or y i)

module _ {k : ℕ} {exprmap : List ℕ} {stacks : List (List ℕ)} {e₁ : ℕ} {e : Sizes} (U : Under k exprmap stacks e₁ e) (cs : Cells) (some : 0 < length cs) (fits : e.exprtop + length cs ≤ 16384) (stacks' : List (List ℕ)) (W : Wrote cs e.exprtop stacks stacks') where
  abbrev pub seated : List (List ℕ)
  seated = put stacks' 2 (e₁ + e.made) e.exprtop

  others : (t : ℕ) → (t ≡ 2 → ⊥) → row seated t ≡ row stacks' t
  others t ne = row_other stacks' 2 t (e₁ + e.made) e.exprtop ne

  seats : row seated 2 ≡ set (row stacks 2) (e₁ + e.made) e.exprtop
  seats = let f = W.four in rw (← W.seats_same) (get_or-set_same stacks' 2 (set (get_or stacks' 2 []) (e₁ + e.made) e.exprtop) [] (omega arith))

  abbrev R : (t : ℕ) → t < 4 → length (row stacks t) ≡ 16384
  R = U.stacks_are.rows

  words_below : take e.exprtop (row seated 0) ≡ take e.exprtop (row stacks 0)
  words_below = rw (others 0 (λ q. omega arith)) (wrote_words cs e.exprtop (row stacks 0) (row stacks 1) (row stacks' 0) (row stacks' 1) (R 0 (omega arith)) (R 1 (omega arith)) fits W.cells)

  tags_below : take e.exprtop (row seated 1) ≡ take e.exprtop (row stacks 1)
  tags_below = rw (others 1 (λ q. omega arith)) (wrote_tags cs e.exprtop (row stacks 0) (row stacks 1) (row stacks' 0) (row stacks' 1) (R 0 (omega arith)) (R 1 (omega arith)) fits W.cells)

  room : e₁ + e.made < 16384
  room = let a = made_low U in omega arith

  -- what was below the function's first expression is there
  pub stays-more : Stays e₁ stacks seated
  stays-more = record { expressions = kept; body = others 3 (λ q. omega arith) ∙ W.body_same }
    where
      low : e₁ ≤ e.exprtop
      low = let a = made_low U in omega arith

      kept : (t : ℕ) → t < 3 → take e₁ (row seated t) ≡ take e₁ (row stacks t)
      kept zero h = take_less e₁ e.exprtop (row seated 0) (row stacks 0) low words_below
      kept (suc zero) h = take_less e₁ e.exprtop (row seated 1) (row stacks 1) low tags_below
      kept (suc (suc zero)) h = rw seats (take-set-le e₁ (row stacks 2) (e₁ + e.made) e.exprtop (omega arith))
      kept (suc (suc (suc t))) h = absurd (omega arith)

  module _ (r : Sizes) (et_is : r.exprtop ≡ e.exprtop + length cs) (made_is : r.made ≡ e.made + 1) where
    pub seats_more : seats_of seated e₁ r ≡ seats_of stacks e₁ e ++ (e.exprtop ∷ [])
    unfolding seats_of
    seats_more =
        let l = R 2 (omega arith) in
        let b = room in
        let t = length-take-le (e₁ + e.made) (row stacks 2) (omega arith) in
        let n : e₁ + r.made ≡ suc (e₁ + e.made) = omega arith in
        rw (seats, n, take-suc-set (row stacks 2) (e₁ + e.made) e.exprtop (omega arith)) (drop-append-le e₁ (take (e₁ + e.made) (row stacks 2)) (e.exprtop ∷ []) (omega arith))

    pub made_more : made_of seated e₁ r ≡ made_of stacks e₁ e ++ (cs ∷ [])
    unfolding made_of
    made_more =
        let a = cut-same (seats_of stacks e₁ e) e₁ e.exprtop (row stacks 1) (row stacks 0) (row seated 1) (row seated 0) U.rising tags_below words_below in
        let b = wrote_cells cs e.exprtop (row stacks 0) (row stacks 1) (row stacks' 0) (row stacks' 1) (R 0 (omega arith)) (R 1 (omega arith)) fits W.cells in
        let c : between (row seated 1) (row seated 0) e.exprtop (e.exprtop + length cs) ≡ cs = rw (others 0 (λ q. omega arith), others 1 (λ q. omega arith)) b in
        rw (seats_more, et_is, cut-more (seats_of stacks e₁ e) e.exprtop (e.exprtop + length cs) (row seated 1) (row seated 0), a, c)

    pub under_more : r.bodytop ≡ e.bodytop → (i : ℕ) → i < 1024 → Under k (set exprmap i (e.made + 1)) seated e₁ r
    under_more bt_is i hi = record {
      few = U.few;
      em_long = length-set exprmap i (e.made + 1) ∙ U.em_long;
      stacks_are = record { four = length-set stacks' 2 _ ∙ W.four; rows = rows; high = rw et_is fits; high' = rw bt_is U.stacks_are.high' };
      rising = rw (seats_more, et_is) (rising-more (seats_of stacks e₁ e) e₁ e.exprtop (e.exprtop + length cs) U.rising (omega arith));
      made_is = rw seats_more (length-append (seats_of stacks e₁ e) (e.exprtop ∷ []) ∙ (let z = U.made_is in omega arith));
      within = λ x. rw made_is (set_low exprmap i (e.made + 1) (e.made + 1) (let z = U.em_long in omega arith) (λ y. let z = U.within y in omega arith) (le_refl _) x);
    }
      where
        rows : (t : ℕ) → t < 4 → length (row seated t) ≡ 16384
        rows zero h = rw (others 0 (λ q. omega arith)) (wrote_long cs e.exprtop (row stacks 0) (row stacks 1) (row stacks' 0) (row stacks' 1) (R 0 (omega arith)) (R 1 (omega arith)) fits W.cells)
        rows (suc zero) h = rw (others 1 (λ q. omega arith)) (wrote_long' cs e.exprtop (row stacks 0) (row stacks 1) (row stacks' 0) (row stacks' 1) (R 0 (omega arith)) (R 1 (omega arith)) fits W.cells)
        rows (suc (suc zero)) h = rw seats (length-set (row stacks 2) (e₁ + e.made) e.exprtop ∙ R 2 (omega arith))
        rows (suc (suc (suc zero))) h = rw (others 3 (λ q. omega arith), W.body_same) (R 3 (omega arith))
        rows (suc (suc (suc (suc t)))) h = absurd (omega arith)
