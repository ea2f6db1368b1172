-- What every import of an expression keeps: mapped stays mapped, the derived lists only grow, and the record at the place of a mapped expression is the source's carried, ignoring spans, its references in range and its operands lower.
use Rattle.std.specs.Prelude.{ℕ, suc, ◌<◌, ◌≤◌, pred, ◌≡◌, ◌≢◌, ◌⊎◌, false, get_or}
use Rattle.std.proofs.Math.Path.{refl}
use Rattle.std.proofs.Common.{ap, sym, ◌∙◌, arith, le_trans, lt_of_lt_of_le, get_or-set_same}
use Rattle.std.proofs.Math.Logic.{inl, inr, ⊎_elim}
use mathlib.Core.List.{List, [], ◌∷◌, ◌++◌, map}
use Rattle.std.proofs.Math.Decide.{ℕ_discrete, dec_lt}
use Rattle.std.proofs.Math.Nat.{le_refl}
use Rattle.std.proofs.Math.ListN.{length, set, length-append, length-set, get_or-append}
use Rattle.std.proofs.Math.Seq.{get_or-set_other, get_or-append_seam}
use Rattle.model.specs.Outcome.{Cells}
use Rattle.model.specs.Module.{Module}
use Rattle.model.specs.Carry.{carry_cells}
use Rattle.model.specs.References.{Place, table, own, function, Node, refs, through, index_of, interned}
use Rattle.model.specs.Imports.{Derived}
use Rattle.model.specs.Bodies.{Builder, bring, mapped_to, carried, append_expr, intern_expr}
use Rattle.theory_records.specs.RecordLaws.{All as AllN, all_map as alln-map, all-image, Has as HasN, image, bare, bare-shift, refs-shift, refs-carry, carry_same, Kept, kept, kept_in, kept_at, kept_longer, kept_prefix, kept-last}
use Rattle.theory_bodies.specs.Context.{look, size_of, Inside, Grown, grown_refl, grown_trans, grown_size, outer, Ctx}

abbrev pub Has : List ℕ → ℕ → Type 0
Has m e = 0 < get_or m e 0

abbrev pub Un : List ℕ → ℕ → Type 0
Un m e = get_or m e 0 ≡ 0

unfoldable pub place : List ℕ → ℕ → ℕ
place m e = pred (get_or m e 0)

-- a reference of the derived record k: its operands are lower, the others in range
unfoldable pub Low : Derived → ℕ → Place → ℕ → Type 0
Low s k (table t) n = n < size_of s (table t)
Low s k own n = n < k
Low s k function n = n < size_of s function

abbrev pub LowN : Derived → ℕ → Node → Type 0
LowN s k j = Low s k j.place j.num

pub low_grown : {s s' : Derived} (k : ℕ) → Grown s s' → (p : Place) (n : ℕ) → Low s k p n → Low s' k p n
unfolding Low
low_grown k g (table t) n h = lt_of_lt_of_le h (grown_size g (table t))
low_grown k g own n h = h
low_grown k g function n h = lt_of_lt_of_le h (grown_size g function)

module _ (M : Module) where
  -- st' is st with more in it
  pub record Ext (st st' : Builder) : Type 0 where
    pub keeps : (p : Place) (n : ℕ) → 0 < mapped_to M st p n → mapped_to M st' p n ≡ mapped_to M st p n
    pub grown : Grown st.out st'.out
    pub longer : length st.made ≤ length st'.made
    pub prefix : (t : ℕ) → t < length st.made → get_or st'.made t [] ≡ get_or st.made t []

  pub ext_refl : (st : Builder) → Ext st st
  ext_refl st = record { keeps = λ p n h. refl; grown = grown_refl st.out; longer = le_refl _; prefix = λ t h. refl }

  pub ext_went : {st st' : Builder} → Ext st st' → (p : Place) (n : ℕ) → 0 < mapped_to M st p n → 0 < mapped_to M st' p n
  ext_went x p n h = rw (x.keeps p n h) h

  pub ext_trans : {a b c : Builder} → Ext a b → Ext b c → Ext a c
  ext_trans x y = record {
    keeps = λ p n h. y.keeps p n (ext_went x p n h) ∙ x.keeps p n h;
    grown = grown_trans x.grown y.grown;
    longer = le_trans x.longer y.longer;
    prefix = λ t h. y.prefix t (lt_of_lt_of_le h x.longer) ∙ x.prefix t h;
  }

  pub ext_same : {st st' : Builder} → Ext st st' → (e : ℕ) → Has st.memo e → get_or st'.memo e 0 ≡ get_or st.memo e 0
  unfolding mapped_to
  ext_same x e h = x.keeps own e h

  pub ext_has : {st st' : Builder} → Ext st st' → (e : ℕ) → Has st.memo e → Has st'.memo e
  unfolding mapped_to
  ext_has x e h = ext_went x own e h

  pub ext_place : {st st' : Builder} → Ext st st' → (e : ℕ) → Has st.memo e → place st'.memo e ≡ place st.memo e
  unfolding place
  ext_place x e h = rw (ext_same x e h)

  pub ext_all : {st st' : Builder} → Ext st st' → (js : List Node) → AllN (HasN (mapped_to M st)) js → AllN (HasN (mapped_to M st')) js
  ext_all x js a = alln-map js (λ j h. ext_went x j.place j.num h) a

  -- a record carried stays as it is
  pub carry_ext : {st st' : Builder} → Ext st st' → (r : Cells) → AllN (HasN (mapped_to M st)) (refs r) → carry_cells (through (mapped_to M st')) r ≡ carry_cells (through (mapped_to M st)) r
  carry_ext {st} {st'} x r a = carry_same (mapped_to M st) (mapped_to M st') r (alln-map (refs r) (λ j h. x.keeps j.place j.num h) a)

pub bare-carried : (o : ℕ) (M : Module) (st : Builder) (r : Cells) → bare (carried o M st r) ≡ bare (carry_cells (through (mapped_to M st)) r)
unfolding carried
bare-carried o M st r = bare-shift (carry_cells (through (mapped_to M st)) r) o false

pub refs-carried : (o : ℕ) (M : Module) (st : Builder) (r : Cells) → AllN (HasN (mapped_to M st)) (refs r) → refs (carried o M st r) ≡ map (image (mapped_to M st)) (refs r)
unfolding carried
refs-carried o M st r a = refs-shift (carry_cells (through (mapped_to M st)) r) o false ∙ refs-carry (mapped_to M st) r a

module _ (c : Ctx) where
  -- ---- a reference outside
  pub ext_bring : (p : Place) (n : ℕ) (st : Builder) → Inside c.M c.calls p n → c.G st.out → Ext c.M st (bring (outer c.o c.M c.follow p n) st)
  unfolding bring mapped_to look
  ext_bring p n st i g = record { keeps = k; grown = c.law.grown p n st.out i g; longer = le_refl _; prefix = λ t h. refl }
    where
      k : (q : Place) (m : ℕ) → 0 < mapped_to c.M st q m → mapped_to c.M (bring (outer c.o c.M c.follow p n) st) q m ≡ mapped_to c.M st q m
      k (table t) m h = c.law.keeps p n st.out i g (table t) m h
      k own m h = refl
      k function m h = c.law.keeps p n st.out i g function m h

  pub record Entry (st : Builder) (e : ℕ) : Type 0 where
    pub below : place st.memo e < length st.made
    pub same : bare (get_or st.made (place st.memo e) []) ≡ bare (carry_cells (through (mapped_to c.M st)) (get_or c.xs e []))
    pub ready : AllN (HasN (mapped_to c.M st)) (refs (get_or c.xs e []))

  pub record Inv (st : Builder) : Type 0 where
    pub good : c.G st.out
    pub size : length st.memo ≡ length c.xs
    pub found : (e : ℕ) → Has st.memo e → Entry st e
    pub low : (k : ℕ) → k < length st.made → AllN (LowN st.out k) (refs (get_or st.made k []))
    pub from : (k : ℕ) → k < length st.made → (e : ℕ) × Has st.memo e × (place st.memo e ≡ k)

  pub entry_ext : {st st' : Builder} → Ext c.M st st' → (e : ℕ) → Has st.memo e → Entry st e → Entry st' e
  entry_ext {st} {st'} x e h n = record {
    below = rw (ext_place c.M x e h) (lt_of_lt_of_le n.below x.longer);
    same = rw (ext_place c.M x e h, x.prefix _ n.below, carry_ext c.M x (get_or c.xs e []) n.ready) n.same;
    ready = ext_all c.M x (refs (get_or c.xs e [])) n.ready;
  }

  pub inv-bring : (p : Place) (n : ℕ) (st : Builder) → Inside c.M c.calls p n → Inv st → Inv (bring (outer c.o c.M c.follow p n) st)
  unfolding bring
  inv-bring p n st w i = let x = ext_bring p n st w i.good in record {
    good = c.law.good p n st.out w i.good;
    size = i.size;
    found = λ e h. entry_ext x e h (i.found e h);
    low = λ k h. alln-map (refs (get_or st.made k [])) (λ j. low_grown k x.grown j.place j.num) (i.low k h);
    from = i.from;
  }

  -- ---- what ending with e does: its place is set to k, where its record is in a list that holds at least what it held
  pub record Put (e k : ℕ) (st st' : Builder) : Type 0 where
    pub inv : Inv st'
    pub ext : Ext c.M st st'
    pub at : get_or st'.memo e 0 ≡ suc k
    pub other : (y : ℕ) → y ≢ e → get_or st'.memo y 0 ≡ get_or st.memo y 0

  module _ (e : ℕ) (st : Builder) (i : Inv st) (l : e < length c.xs) (z : Un st.memo e) (a : AllN (HasN (mapped_to c.M st)) (refs (get_or c.xs e []))) where
    -- the references of the new record
    new_low : AllN (LowN st.out (length st.made)) (refs (carried c.o c.M st (get_or c.xs e [])))
    unfolding Low mapped_to look place
    new_low = rw (refs-carried c.o c.M st (get_or c.xs e []) a)
        (all-image (LowN st.out (length st.made)) (image (mapped_to c.M st)) (refs (get_or c.xs e []))
        (alln-map (refs (get_or c.xs e [])) (λ j h. one j.place j.num h) a))
      where
        one : (p : Place) (n : ℕ) → 0 < mapped_to c.M st p n → Low st.out (length st.made) p (pred (mapped_to c.M st p n))
        one (table t) n h = omega (arith, c.law.within st.out i.good (table t) n)
        one own n h = (i.found n h).below
        one function n h = omega (arith, c.law.within st.out i.good function n)

    put : (k : ℕ) (rs : List Cells)
        → length st.made ≤ length rs → ((t : ℕ) → t < length st.made → get_or rs t [] ≡ get_or st.made t [])
        → k < length rs → bare (get_or rs k []) ≡ bare (carry_cells (through (mapped_to c.M st)) (get_or c.xs e []))
        → ((t : ℕ) → t < length rs → AllN (LowN st.out t) (refs (get_or rs t [])))
        → ((t : ℕ) → t < length rs → (t < length st.made) ⊎ (t ≡ k))
        → Put e k st (record { out = st.out; memo = set st.memo e (suc k); made = rs })
    unfolding mapped_to place
    put k rs lg pf kl ks lo fr = record {
      inv = record {
        good = i.good;
        size = length-set st.memo e _ ∙ i.size;
        found = λ y h. entry y (ℕ_discrete y e) h;
        low = lo;
        from = λ t h. ⊎_elim (λ w. older t (i.from t w)) (λ w. (e, rw here (omega arith), rw here (sym w))) (fr t h);
      };
      ext = x;
      at = here;
      other = λ y q. get_or-set_other st.memo e y _ 0 q;
    }
      where
        st' : Builder
        st' = record { out = st.out; memo = set st.memo e (suc k); made = rs }

        not_has : (y : ℕ) → Has st.memo y → y ≡ e → ⊥
        not_has y h q = let r : get_or st.memo y 0 ≡ 0 = rw q z in omega arith

        kp : (p : Place) (n : ℕ) → 0 < mapped_to c.M st p n → mapped_to c.M st' p n ≡ mapped_to c.M st p n
        kp (table t) n h = refl
        kp own n h = get_or-set_other st.memo e n _ 0 (λ q. not_has n h q)
        kp function n h = refl

        x : Ext c.M st st'
        x = record { keeps = kp; grown = grown_refl st.out; longer = lg; prefix = pf }

        here : get_or (set st.memo e (suc k)) e 0 ≡ suc k
        here = get_or-set_same st.memo e _ 0 (omega (arith, i.size))

        older : (t : ℕ) → (y : ℕ) × Has st.memo y × (place st.memo y ≡ t) → (y : ℕ) × Has (set st.memo e (suc k)) y × (place (set st.memo e (suc k)) y ≡ t)
        older t p = (p.0, ext_has c.M x p.0 p.1, ext_place c.M x p.0 p.1 ∙ p.2)

        mine : Entry st' e
        mine = record {
          below = rw here kl;
          same = rw (here, carry_ext c.M x (get_or c.xs e []) a) ks;
          ready = ext_all c.M x (refs (get_or c.xs e [])) a;
        }

        entry : (y : ℕ) → Dec (y ≡ e) → Has (set st.memo e (suc k)) y → Entry st' y
        entry y (yes p) h = rw p mine
        entry y (no q) h =
            let w : Has st.memo y = rw (get_or-set_other st.memo e y (suc k) 0 q) at h in
            entry_ext x y w (i.found y w)

    abbrev rec : Cells
    rec = carried c.o c.M st (get_or c.xs e [])

    pub push_put : Put e (length st.made) st (append_expr c.o c.M c.follow c.xs e st)
    unfolding append_expr
    push_put =
        put (length st.made) (st.made ++ (rec ∷ [])) (simp length-append (omega arith))
        (λ t h. get_or-append st.made _ [] t h) (simp length-append (omega arith)) (ap bare (get_or-append_seam st.made rec [] []) ∙ bare-carried c.o c.M st (get_or c.xs e []))
        (λ t h. lows t (dec_lt t (length st.made)) h) (λ t h. sides t (dec_lt t (length st.made)) h)
      where
        sides : (t : ℕ) → Dec (t < length st.made) → t < length (st.made ++ (rec ∷ [])) → (t < length st.made) ⊎ (t ≡ length st.made)
        sides t (yes p) h = inl p
        sides t (no q) h = inr (let u = simp length-append at h in omega arith)

        lows : (t : ℕ) → Dec (t < length st.made) → t < length (st.made ++ (rec ∷ [])) → AllN (LowN st.out t) (refs (get_or (st.made ++ (rec ∷ [])) t []))
        lows t (yes p) h = rw (get_or-append st.made (rec ∷ []) [] t p) (i.low t p)
        lows t (no q) h =
            let u : t ≡ length st.made = (let v = simp length-append at h in omega arith) in
            rw (u, get_or-append_seam st.made rec [] []) new_low

    pub join-put : Put e (index_of st.made rec) st (intern_expr c.o c.M c.follow c.xs e st)
    unfolding intern_expr
    join-put =
        put (index_of st.made rec) (interned st.made rec) (kept_longer K) (kept_prefix K) (kept_in K) (kept_at K ∙ bare-carried c.o c.M st (get_or c.xs e []))
        (λ t h. lows t (dec_lt t (length st.made)) h) (λ t h. sides t (dec_lt t (length st.made)) h)
      where
        K : Kept rec st.made (index_of st.made rec) (interned st.made rec)
        K = kept rec st.made

        sides : (t : ℕ) → Dec (t < length st.made) → t < length (interned st.made rec) → (t < length st.made) ⊎ (t ≡ index_of st.made rec)
        sides t (yes p) h = inl p
        sides t (no q) h = inr (kept-last K t h q).2

        lows : (t : ℕ) → Dec (t < length st.made) → t < length (interned st.made rec) → AllN (LowN st.out t) (refs (get_or (interned st.made rec) t []))
        lows t (yes p) h = rw (kept_prefix K t p) (i.low t p)
        lows t (no q) h = let w = kept-last K t h q in rw (w.1, w.0) new_low
