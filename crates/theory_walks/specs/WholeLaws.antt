-- On agreement in full (`Agreement` of the crate model): what agrees has its references mapped, so that maps under which every mapped record agrees cover all that is reached; and tests that compute.
use Rattle.std.specs.Prelude.{◌≡◌, ◌⊎◌, Bool, true, false, ◌&&◌, ◌||◌, ltb, length, get_or}
use Rattle.std.proofs.Math.Path.{refl, subst}
use Rattle.std.proofs.Common.{sym, ◌∙◌, inl, inr, arith}
use Rattle.std.proofs.lemmas.Bool.{false≢true}
use mathlib.Core.List.{List, [], ◌∷◌, ◌++◌}
use Prim.Native.Nat.{ℕ, zero, suc, ◌+◌}
use Rattle.std.proofs.Math.Dec.{eqb}
use borrow.Author.Tests.{eqb-true}
use Rattle.theory_lists.specs.Booleans.{and_first, and_second, and-true, or_cases}
use Rattle.model.specs.Outcome.{Cell, Cells, class, word}
use Rattle.model.specs.Tree.{Function, flat_all}
use Rattle.model.specs.Module.{Module, flat_special}
use Rattle.model.specs.Operands.{standing}
use Rattle.model.specs.Initial.{initial}
use Rattle.model.specs.Tables.{Tab, names, is_t, at, tables, rec_at, map_at}
use Rattle.model.specs.References.{Place, table, own, function, Target, copied, start, upto, ref, opt, target, Node, node, ref_of, refs}
use Rattle.model.specs.Agreement.{Mapping, Among, first, later, MayShare, body_of, stated, becomes, agrees_w, agrees_r, agrees_l, stands, Agrees, Holds, Reached, from_function, from_kept, from_special, from_record, from_operand, global}

none-among : {A : Type 0} {x : A} → Among x [] → ⊥
none-among = elim [ ]

no_suc : {k : ℕ} → ◌≡◌ {A = ℕ} 0 (suc k) → ⊥
no_suc q = omega (arith, q)

module _ (M M' : Module) (μ : Mapping) where
  -- what a number is mapped to: 0, or the target's number plus 1
  unfoldable pub went : List ℕ → Place → ℕ → ℕ
  went o (table t) n = map_at μ.in_tables t n
  went o own n = get_or o n 0
  went o function n = get_or μ.functions n 0

  unfoldable pub is_name_word : Place → Bool
  is_name_word (table t) = is_t t names
  is_name_word own = false
  is_name_word function = false

  -- ---- what agrees has its references mapped
  module _ (o : List ℕ) where
    pub becomes-went : (p : Place) (n n' : ℕ) → is_name_word p ≡ false → becomes M M' μ o p n n' ≡ true → went o p n ≡ suc n'
    unfolding becomes went is_name_word
    becomes-went (table t) n n' h q = eqb-true _ _ (rw (h, becomes) at q)
    becomes-went own n n' h q = eqb-true _ _ q
    becomes-went function n n' h q = eqb-true _ _ q

    abbrev pub Mapped : Node → Type 0
    Mapped x = (k : ℕ) × (went o x.place x.num ≡ suc k)

    word-mapped : (T : Target) (w w' : ℕ) → agrees_w M M' μ o T w w' ≡ true → (rest : List Node) (x : Node) → is_name_word x.place ≡ false → Among x (ref_of T w rest) → (Among x rest → Mapped x) → Mapped x
    unfolding agrees_w ref_of
    word-mapped copied w w' q rest x h a f = f a
    word-mapped start w w' q rest x h a f = f a
    word-mapped upto w w' q rest x h a f = f a
    word-mapped (ref p) w w' q rest x h first f = (w', becomes-went p w w' h q)
    word-mapped (ref p) w w' q rest x h (later a) f = f a
    word-mapped (opt p) zero w' q rest x h a f = f a
    word-mapped (opt p) (suc n) zero q rest x h a f = absurd (false≢true q)
    word-mapped (opt p) (suc n) (suc n') q rest x h first f = (n', becomes-went p n n' h q)
    word-mapped (opt p) (suc n) (suc n') q rest x h (later a) f = f a

    -- a record's first word and the others
    pub record Parts (c d : Cell) (cs ds : Cells) : Type 0 where
      pub classes : eqb (class c) (class d) ≡ true
      pub words : agrees_w M M' μ o (target (class c)) (word c) (word d) ≡ true
      pub others : agrees_r M M' μ o cs ds ≡ true

    pub parts : (c d : Cell) (cs ds : Cells) → agrees_r M M' μ o (c ∷ cs) (d ∷ ds) ≡ true → Parts c d cs ds
    unfolding agrees_r
    parts c d cs ds q =
        let q₁ = and_second (eqb (class c) (class d)) _ q in
        record { classes = and_first (eqb (class c) (class d)) _ q; words = and_first (agrees_w M M' μ o (target (class c)) (word c) (word d)) _ q₁; others = and_second (agrees_w M M' μ o (target (class c)) (word c) (word d)) _ q₁ }

    pub joined : (c d : Cell) (cs ds : Cells) → Parts c d cs ds → agrees_r M M' μ o (c ∷ cs) (d ∷ ds) ≡ true
    unfolding agrees_r
    joined c d cs ds p = and-true {a = eqb (class c) (class d)} p.classes (and-true {a = agrees_w M M' μ o (target (class c)) (word c) (word d)} p.words p.others)

    pub refs-mapped : (r r' : Cells) → agrees_r M M' μ o r r' ≡ true → (x : Node) → is_name_word x.place ≡ false → Among x (refs r) → Mapped x
    unfolding agrees_r refs
    refs-mapped [] r' q x h a = absurd (none-among a)
    refs-mapped (c ∷ cs) [] q x h a = absurd (false≢true q)
    refs-mapped (c ∷ cs) (d ∷ ds) q x h a =
        let p = parts c d cs ds q in
        word-mapped (target (class c)) (word c) (word d) p.words (refs cs) x h a (refs-mapped cs ds p.others x h)

    -- ---- records after one another
    pub agrees_append : (r r' s s' : Cells) → agrees_r M M' μ o r r' ≡ true → agrees_r M M' μ o s s' ≡ true → agrees_r M M' μ o (r ++ s) (r' ++ s') ≡ true
    unfolding agrees_r
    agrees_append [] [] s s' p q = q
    agrees_append [] (d ∷ ds) s s' p q = absurd (false≢true p)
    agrees_append (c ∷ cs) [] s s' p q = absurd (false≢true p)
    agrees_append (c ∷ cs) (d ∷ ds) s s' p q =
        let r = parts c d cs ds p in
        joined c d (cs ++ s) (ds ++ s') (record { classes = r.classes; words = r.words; others = agrees_append cs ds s s' r.others q })

    pub agrees_flat : (rs rs' : List Cells) → agrees_l M M' μ o rs rs' ≡ true → agrees_r M M' μ o (flat_all rs) (flat_all rs') ≡ true
    unfolding agrees_l flat_all agrees_r
    agrees_flat [] [] p = refl
    agrees_flat [] (d ∷ ds) p = absurd (false≢true p)
    agrees_flat (c ∷ cs) [] p = absurd (false≢true p)
    agrees_flat (c ∷ cs) (d ∷ ds) p = agrees_append c d (flat_all cs) (flat_all ds) (and_first _ (agrees_l M M' μ o cs ds) p) (agrees_flat cs ds (and_second (agrees_r M M' μ o c d) _ p))

    pub agrees_stated : (F F' : Function) → Agrees M M' μ o F F' → agrees_r M M' μ o (stated F) (stated F') ≡ true
    unfolding stated
    agrees_stated F F' a =
        agrees_append _ _ (body_of F) (body_of F')
        (agrees_append _ _ (flat_all F.locals) (flat_all F'.locals)
        (agrees_append _ _ F.result F'.result
        (agrees_append F.head F'.head (flat_all F.arguments) (flat_all F'.arguments) a.head (agrees_flat F.arguments F'.arguments a.arguments))
        a.result)
        (agrees_flat F.locals F'.locals a.locals))
        a.body

    -- ---- every mapped record of a list agrees: a test, and what it says
    unfoldable pub all_stand : List ℕ → List Cells → List Cells → Bool
    all_stand [] rs xs' = true
    all_stand (v ∷ vs) [] xs' = eqb v 0 && all_stand vs [] xs'
    all_stand (zero ∷ vs) (r ∷ rs) xs' = all_stand vs rs xs'
    all_stand (suc k ∷ vs) (r ∷ rs) xs' = stands M M' μ o xs' (suc k) r && all_stand vs rs xs'

    pub stand_at : (vs : List ℕ) (rs xs' : List Cells) → all_stand vs rs xs' ≡ true → (n k : ℕ) → get_or vs n 0 ≡ suc k → stands M M' μ o xs' (suc k) (get_or rs n []) ≡ true
    unfolding all_stand
    stand_at [] rs xs' h n k q = absurd (no_suc q)
    stand_at (v ∷ vs) [] xs' h zero k q = absurd (no_suc (sym (eqb-true v 0 (and_first (eqb v 0) _ h)) ∙ q))
    stand_at (v ∷ vs) [] xs' h (suc n) k q = stand_at vs [] xs' (and_second (eqb v 0) _ h) n k q
    stand_at (zero ∷ vs) (r ∷ rs) xs' h zero k q = absurd (no_suc q)
    stand_at (zero ∷ vs) (r ∷ rs) xs' h (suc n) k q = stand_at vs rs xs' h n k q
    stand_at (suc j ∷ vs) (r ∷ rs) xs' h zero k q = subst (λ x. stands M M' μ o xs' x r ≡ true) q (and_first (stands M M' μ o xs' (suc j) r) _ h)
    stand_at (suc j ∷ vs) (r ∷ rs) xs' h (suc n) k q = stand_at vs rs xs' (and_second (stands M M' μ o xs' (suc j) r) _ h) n k q

  -- ---- maps under which every mapped record agrees cover all that is reached
  pub record Closed : Type 0 where
    pub in_tables_lem : (t : Tab) (n k : ℕ) → is_t t names ≡ false → map_at μ.in_tables t n ≡ suc k → stands M M' μ (global M M' μ) (at t (tables M')) (suc k) (rec_at (tables M) t n) ≡ true
    pub held : (o : List ℕ) (F : Function) → Holds M M' μ o F → (F' : Function) × Agrees M M' μ o F F'
    pub special : agrees_r M M' μ (global M M' μ) (flat_special M.special) (flat_special M'.special) ≡ true

  stands_agrees : (o : List ℕ) (xs' : List Cells) (k : ℕ) (r : Cells) → stands M M' μ o xs' (suc k) r ≡ true → agrees_r M M' μ o r (get_or xs' k []) ≡ true
  unfolding stands
  stands_agrees o xs' k r h = and_second (ltb k (length xs')) _ h

  module _ (c : Closed) where
    reached-mapped : {t : Tab} {n : ℕ} → Reached M M' μ t n → is_t t names ≡ false → (k : ℕ) × (map_at μ.in_tables t n ≡ suc k)
    unfolding went is_name_word map_at at
    reached-mapped (from_function {o = o} {F = F} {t = t} {n = n} s a) h = let r = c.held o F s in refs-mapped o _ _ (agrees_stated o F r.0 r.1) (node (table t) n) h a
    reached-mapped (from_kept {o = o} {F = F} {t = t} {n = n} e k s q a) h = let r = c.held o F s in refs-mapped o _ _ (stands_agrees o _ k _ (r.1.kept e k q)) (node (table t) n) h a
    reached-mapped (from_special {t = t} {n = n} a) h = refs-mapped (global M M' μ) _ _ c.special (node (table t) n) h a
    reached-mapped (from_record {t = t} {u = u} {n = n} {m = m} i r a) h =
        let q = reached-mapped r i in refs-mapped (global M M' μ) _ _ (stands_agrees (global M M' μ) _ q.0 _ (c.in_tables_lem t n q.0 i q.1)) (node (table u) m) h a
    reached-mapped (from_operand {t = t} {n = n} {m = m} i r a) h =
        let q = reached-mapped r i in refs-mapped (global M M' μ) _ _ (stands_agrees (global M M' μ) _ q.0 _ (c.in_tables_lem t n q.0 i q.1)) (node own m) refl a

    pub closed_records : (t : Tab) (n : ℕ) → is_t t names ≡ false → Reached M M' μ t n → stands M M' μ (global M M' μ) (at t (tables M')) (map_at μ.in_tables t n) (rec_at (tables M) t n) ≡ true
    closed_records t n h r =
        let q = reached-mapped r h in
        subst (λ v. stands M M' μ (global M M' μ) (at t (tables M')) v (rec_at (tables M) t n) ≡ true) (sym q.1) (c.in_tables_lem t n q.0 h q.1)

-- ---- sharing, tested: `who` says of each record of the target 0 where it is shared, else the number plus 1 of the only expression mapped to it
unfoldable pub may_share : Function → ℕ → Bool
may_share F e = standing F.exprs e || initial F e

unfoldable pub owned : Bool → ℕ → ℕ → Bool
owned true w i = eqb w 0
owned false w i = eqb w (suc i)

unfoldable pub sole : List ℕ → ℕ → (ℕ → Bool) → List ℕ → Bool
sole [] i share who = true
sole (zero ∷ vs) i share who = sole vs (suc i) share who
sole (suc k ∷ vs) i share who = owned (share i) (get_or who k 0) i && sole vs (suc i) share who

pub sole-at : (vs : List ℕ) (i : ℕ) (share : ℕ → Bool) (who : List ℕ) → sole vs i share who ≡ true → (e k : ℕ) → get_or vs e 0 ≡ suc k → owned (share (i + e)) (get_or who k 0) (i + e) ≡ true
unfolding sole
sole-at [] i share who h e k q = absurd (no_suc q)
sole-at (zero ∷ vs) i share who h zero k q = absurd (no_suc q)
sole-at (zero ∷ vs) i share who h (suc e) k q =
    let z : suc i + e ≡ i + suc e = omega arith in subst (λ x. owned (share x) (get_or who k 0) x ≡ true) z (sole-at vs (suc i) share who h e k q)
sole-at (suc j ∷ vs) i share who h zero k q =
    let z : i ≡ i + 0 = omega arith in
    let y : j ≡ k = omega (arith, q) in
    subst (λ x. owned (share x) (get_or who k 0) x ≡ true) z (subst (λ x. owned (share i) (get_or who x 0) i ≡ true) y (and_first (owned (share i) (get_or who j 0) i) _ h))
sole-at (suc j ∷ vs) i share who h (suc e) k q =
    let z : suc i + e ≡ i + suc e = omega arith in
    subst (λ x. owned (share x) (get_or who k 0) x ≡ true) z (sole-at vs (suc i) share who (and_second (owned (share i) (get_or who j 0) i) _ h) e k q)

may_share_lem : (F : Function) (e : ℕ) → may_share F e ≡ true → MayShare F e
unfolding may_share
may_share_lem F e h = or_cases (standing F.exprs e) _ h

pub sole-apart : (F : Function) (o who : List ℕ) → sole o 0 (may_share F) who ≡ true → (e d k : ℕ) → get_or o e 0 ≡ suc k → get_or o d 0 ≡ suc k → (e ≡ d) ⊎ (MayShare F e × MayShare F d)
unfolding owned
sole-apart F o who h e d k p q = go (may_share F e) (may_share F d) refl refl (at_of e p) (at_of d q)
  where
    at_of : (x : ℕ) → get_or o x 0 ≡ suc k → owned (may_share F x) (get_or who k 0) x ≡ true
    at_of x r = let z : 0 + x ≡ x = omega arith in subst (λ y. owned (may_share F y) (get_or who k 0) y ≡ true) z (sole-at o 0 (may_share F) who h x k r)

    go : (a b : Bool) → may_share F e ≡ a → may_share F d ≡ b → owned a (get_or who k 0) e ≡ true → owned b (get_or who k 0) d ≡ true → (e ≡ d) ⊎ (MayShare F e × MayShare F d)
    go true true s t u v = inr (may_share_lem F e s, may_share_lem F d t)
    go true false s t u v = let x = eqb-true (get_or who k 0) 0 u in let y = eqb-true (get_or who k 0) (suc d) v in absurd (omega (arith, x, y))
    go false true s t u v = let x = eqb-true (get_or who k 0) (suc e) u in let y = eqb-true (get_or who k 0) 0 v in absurd (omega (arith, x, y))
    go false false s t u v = let x = eqb-true (get_or who k 0) (suc e) u in let y = eqb-true (get_or who k 0) (suc d) v in inl (omega (arith, x, y))
