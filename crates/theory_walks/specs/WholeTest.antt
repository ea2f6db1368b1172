-- A test of two modules and maps, which computes, and of which passing is agreement in full. It requires that every mapped record agrees, reached or not, which link's maps meet; agreement requires it of what is reached.
use Rattle.std.proofs.Math.Path.{◌≡◌, refl, ap, subst}
use Rattle.std.proofs.Common.{sym, ◌∙◌}
use Rattle.std.specs.Prelude.{Bool, false, ◌&&◌, eqb, ltb, length}
use Rattle.std.proofs.Math.Bool.{true}
use Rattle.std.proofs.lemmas.Bool.{false≢true}
use mathlib.Core.List.{List, [], ◌∷◌, map}
use Rattle.std.proofs.Math.Option.{Option, none, some}
use Prim.Native.Nat.{ℕ, zero, suc, ◌+◌, ◌<◌}
use native.Mathlib.Omega.{arith}
use Rattle.std.proofs.Math.ListN.{get_or, get_elem?}
use borrow.Author.Tests.{eqb-true, ltb-true, ltb-false}
use Rattle.theory_lists.specs.Booleans.{and_first, and_second, by}
use Rattle.model.specs.Tree.{Function, Entry, flat_all}
use Rattle.model.specs.Module.{Module, flat_special}
use Rattle.model.specs.Scope.{up_from}
use Rattle.model.specs.Tables.{Tab, names, types, constants, overrides, globals, exprs, code_t, is_t, at, tables, rec_at, map_at}
use Rattle.model.specs.Bodies.{keep_names}
use Rattle.model.specs.Agreement.{Mapping, body_of, agrees_r, agrees_l, stands, agrees_n, Agrees, Holds, as_function, as_entry, global, Agreement}
use Rattle.theory_walks.specs.WholeLaws.{all_stand, stand_at, may_share, owned, sole, sole-at, sole-apart, closed_records, agrees_append, agrees_flat}

-- of record k of the target: 0 where it is shared, or the number plus 1 of the first expression mapped to it
unfoldable pub owner : List ℕ → ℕ → (ℕ → Bool) → ℕ → ℕ
owner [] i share k = 0
owner (v ∷ vs) i share k = elim (eqb v (suc k)) [ true ↦ elim (share i) [ true ↦ 0 | false ↦ suc i ] | false ↦ owner vs (suc i) share k ]

unfoldable pub owners : ℕ → List ℕ → (ℕ → Bool) → List ℕ
owners n vs share = map (owner vs 0 share) (up_from n 0)

unfoldable pub below : ℕ → (ℕ → Bool) → Bool
below zero p = true
below (suc n) p = p n && below n p

below_at : (n : ℕ) (p : ℕ → Bool) → below n p ≡ true → (j : ℕ) → j < n → p j ≡ true
unfolding below
below_at zero p h j l = absurd (omega (arith, l))
below_at (suc n) p h j l =
    by _ (ltb j n) (λ q. below_at n p (and_second (p n) _ h) j (ltb-true j n q))
    (λ q. let x = ltb-false j n q in let z : n ≡ j = omega (arith, x, l) in subst (λ y. p y ≡ true) z (and_first (p n) _ h))

module _ (M M' : Module) (μ : Mapping) where
  -- ---- a function
  unfoldable pub test_f : List ℕ → Function → Function → Bool
  test_f o F F' =
      agrees_r M M' μ o F.head F'.head
      && (agrees_l M M' μ o F.arguments F'.arguments
      && (agrees_r M M' μ o F.result F'.result
      && (agrees_l M M' μ o F.locals F'.locals
      && (agrees_r M M' μ o (body_of F) (body_of F')
      && (all_stand M M' μ o o F.exprs F'.exprs
      && (agrees_n M M' μ o (keep_names F.named o []) F'.named
      && sole o 0 (may_share F) (owners (length F'.exprs) o (may_share F))))))))

  test-function : (o : List ℕ) (F F' : Function) → test_f o F F' ≡ true → Agrees M M' μ o F F'
  unfolding test_f
  test-function o F F' h =
      let h₁ = and_second (agrees_r M M' μ o F.head F'.head) _ h in
      let h₂ = and_second (agrees_l M M' μ o F.arguments F'.arguments) _ h₁ in
      let h₃ = and_second (agrees_r M M' μ o F.result F'.result) _ h₂ in
      let h₄ = and_second (agrees_l M M' μ o F.locals F'.locals) _ h₃ in
      let h₅ = and_second (agrees_r M M' μ o (body_of F) (body_of F')) _ h₄ in
      let h₆ = and_second (all_stand M M' μ o o F.exprs F'.exprs) _ h₅ in
      record {
        head = and_first (agrees_r M M' μ o F.head F'.head) _ h;
        arguments = and_first (agrees_l M M' μ o F.arguments F'.arguments) _ h₁;
        result = and_first (agrees_r M M' μ o F.result F'.result) _ h₂;
        locals = and_first (agrees_l M M' μ o F.locals F'.locals) _ h₃;
        body = and_first (agrees_r M M' μ o (body_of F) (body_of F')) _ h₄;
        kept = stand_at M M' μ o o F.exprs F'.exprs (and_first (all_stand M M' μ o o F.exprs F'.exprs) _ h₅);
        named = and_first (agrees_n M M' μ o (keep_names F.named o []) F'.named) _ h₆;
        apart = sole-apart F o (owners (length F'.exprs) o (may_share F)) (and_second (agrees_n M M' μ o (keep_names F.named o []) F'.named) _ h₆);
      }

  -- ---- functions: each at its place
  unfoldable pub test_o : List ℕ → Function → Option Function → Bool
  test_o o F none = false
  test_o o F (some F') = test_f o F F'

  unfoldable pub test_p : List ℕ → Function → ℕ → Bool
  test_p o F zero = false
  test_p o F (suc j) = test_o o F (get_elem? M'.functions j)

  abbrev Placed : ℕ → Function → Type 0
  Placed i F = (j : ℕ) × (F' : Function) × (get_or μ.functions i 0 ≡ suc j) × (get_elem? M'.functions j ≡ some F') × Agrees M M' μ (get_or μ.in_functions i []) F F'

  test-place : (i : ℕ) (F : Function) → test_p (get_or μ.in_functions i []) F (get_or μ.functions i 0) ≡ true → Placed i F
  unfolding test_p test_o
  test-place i F h = go (get_or μ.functions i 0) refl h
    where
      at_place : (j : ℕ) → get_or μ.functions i 0 ≡ suc j → (x : Option Function) → get_elem? M'.functions j ≡ x → test_o (get_or μ.in_functions i []) F x ≡ true → Placed i F
      at_place j q none p t = absurd (false≢true t)
      at_place j q (some F') p t = (j, F', q, p, test-function (get_or μ.in_functions i []) F F' t)

      go : (v : ℕ) → get_or μ.functions i 0 ≡ v → test_p (get_or μ.in_functions i []) F v ≡ true → Placed i F
      go zero q t = absurd (false≢true t)
      go (suc j) q t = at_place j q (get_elem? M'.functions j) refl t

  unfoldable pub test_fs : List Function → ℕ → Bool
  test_fs [] i = true
  test_fs (F ∷ Fs) i = test_p (get_or μ.in_functions i []) F (get_or μ.functions i 0) && test_fs Fs (suc i)

  test_functions : (Fs : List Function) (i : ℕ) → test_fs Fs i ≡ true → (k : ℕ) (F : Function) → get_elem? Fs k ≡ some F → Placed (i + k) F
  unfolding test_fs
  test_functions [] i h k F q = absurd (let z : ◌≡◌ {A = ℕ} 0 1 = cc in omega arith)
  test_functions (G ∷ Fs) i h zero F q =
      let p : G ≡ F = cc in
      let z : i ≡ i + 0 = omega arith in
      subst (λ x. Placed x F) z (subst (Placed i) p (test-place i G (and_first (test_p (get_or μ.in_functions i []) G (get_or μ.functions i 0)) _ h)))
  test_functions (G ∷ Fs) i h (suc k) F q =
      let z : suc i + k ≡ i + suc k = omega arith in
      subst (λ x. Placed x F) z (test_functions Fs (suc i) (and_second (test_p (get_or μ.in_functions i []) G (get_or μ.functions i 0)) _ h) k F q)

  -- ---- one to one, and onto
  unfoldable pub inverse : List ℕ
  inverse = owners (length M'.functions) μ.functions (λ i. false)

  unfoldable pub comes : ℕ → ℕ → Bool
  comes j zero = false
  comes j (suc i) = ltb i (length M.functions) && eqb (get_or μ.functions i 0) (suc j)

  inside-at : (l : List Function) (i : ℕ) → i < length l → (F : Function) × (get_elem? l i ≡ some F)
  inside-at [] i h = absurd (omega (arith, h))
  inside-at (F ∷ l) zero h = (F, refl)
  inside-at (F ∷ l) (suc i) h = inside-at l i (omega (arith, h))

  come_from : (j v : ℕ) → comes j v ≡ true → (i : ℕ) × (F : Function) × (get_elem? M.functions i ≡ some F) × (get_or μ.functions i 0 ≡ suc j)
  unfolding comes
  come_from j zero h = absurd (false≢true h)
  come_from j (suc i) h =
      let l = ltb-true i (length M.functions) (and_first (ltb i (length M.functions)) _ h) in
      let r = inside-at M.functions i l in
      (i, r.0, r.1, eqb-true (get_or μ.functions i 0) (suc j) (and_second (ltb i (length M.functions)) _ h))

  alone_at : (i k : ℕ) → sole μ.functions 0 (λ e. false) inverse ≡ true → get_or μ.functions i 0 ≡ suc k → get_or inverse k 0 ≡ suc i
  unfolding owned
  alone_at i k h q = let z : suc (0 + i) ≡ suc i = omega arith in eqb-true (get_or inverse k 0) (suc (0 + i)) (sole-at μ.functions 0 (λ e. false) inverse h i k q) ∙ z

  -- ---- entry points, each at its own place
  unfoldable pub test_es : List Entry → List Entry → ℕ → Bool
  test_es [] [] i = true
  test_es [] (E' ∷ Es') i = false
  test_es (E ∷ Es) [] i = false
  test_es (E ∷ Es) (E' ∷ Es') i = (agrees_r M M' μ (global M M' μ) E.head E'.head && test_f (get_or μ.in_entries i []) E.function E'.function) && test_es Es Es' (suc i)

  test-count : (Es Es' : List Entry) (i : ℕ) → test_es Es Es' i ≡ true → length Es' ≡ length Es
  unfolding test_es
  test-count [] [] i h = refl
  test-count [] (E' ∷ Es') i h = absurd (false≢true h)
  test-count (E ∷ Es) [] i h = absurd (false≢true h)
  test-count (E ∷ Es) (E' ∷ Es') i h = ap suc (test-count Es Es' (suc i) (and_second (agrees_r M M' μ (global M M' μ) E.head E'.head && test_f (get_or μ.in_entries i []) E.function E'.function) _ h))

  abbrev Entered : ℕ → Entry → Entry → Type 0
  Entered i E E' = (agrees_r M M' μ (global M M' μ) E.head E'.head ≡ true) × Agrees M M' μ (get_or μ.in_entries i []) E.function E'.function

  test_entries : (Es Es' : List Entry) (i : ℕ) → test_es Es Es' i ≡ true → (k : ℕ) (E : Entry) → get_elem? Es k ≡ some E → (E' : Entry) × (get_elem? Es' k ≡ some E') × Entered (i + k) E E'
  unfolding test_es
  test_entries [] Es' i h k E q = absurd (let z : ◌≡◌ {A = ℕ} 0 1 = cc in omega arith)
  test_entries (D ∷ Es) [] i h k E q = absurd (false≢true h)
  test_entries (D ∷ Es) (D' ∷ Es') i h zero E q =
      let p : D ≡ E = cc in
      let z : i ≡ i + 0 = omega arith in
      let t = and_first (agrees_r M M' μ (global M M' μ) D.head D'.head && test_f (get_or μ.in_entries i []) D.function D'.function) _ h in
      let r : Entered i D D' = (and_first (agrees_r M M' μ (global M M' μ) D.head D'.head) _ t, test-function (get_or μ.in_entries i []) D.function D'.function (and_second (agrees_r M M' μ (global M M' μ) D.head D'.head) _ t)) in
      (D', refl, subst (λ x. Entered x E D') z (subst (λ x. Entered i x D') p r))
  test_entries (D ∷ Es) (D' ∷ Es') i h (suc k) E q =
      let z : suc i + k ≡ i + suc k = omega arith in
      let r = test_entries Es Es' (suc i) (and_second (agrees_r M M' μ (global M M' μ) D.head D'.head && test_f (get_or μ.in_entries i []) D.function D'.function) _ h) k E q in
      (r.0, r.1, subst (λ x. Entered x E r.0) z r.2)

  -- ---- tables
  unfoldable pub test_t : Tab → Bool
  test_t t = all_stand M M' μ (global M M' μ) (at t μ.in_tables) (at t (tables M)) (at t (tables M'))

  unfoldable pub test_ts : Bool
  test_ts = test_t types && (test_t constants && (test_t overrides && (test_t globals && test_t exprs)))

  test_table : (t : Tab) → test_t t ≡ true → (n k : ℕ) → map_at μ.in_tables t n ≡ suc k → stands M M' μ (global M M' μ) (at t (tables M')) (suc k) (rec_at (tables M) t n) ≡ true
  unfolding test_t map_at rec_at
  test_table t h n k q = stand_at M M' μ (global M M' μ) (at t μ.in_tables) (at t (tables M)) (at t (tables M')) h n k q

  test-tables : test_ts ≡ true → (t : Tab) (n k : ℕ) → is_t t names ≡ false → map_at μ.in_tables t n ≡ suc k → stands M M' μ (global M M' μ) (at t (tables M')) (suc k) (rec_at (tables M) t n) ≡ true
  unfolding test_ts is_t code_t
  test-tables h names n k i q = absurd (false≢true (sym i))
  test-tables h types n k i q = test_table types (and_first (test_t types) _ h) n k q
  test-tables h constants n k i q = test_table constants (and_first (test_t constants) _ (and_second (test_t types) _ h)) n k q
  test-tables h overrides n k i q = test_table overrides (and_first (test_t overrides) _ (and_second (test_t constants) _ (and_second (test_t types) _ h))) n k q
  test-tables h globals n k i q = test_table globals (and_first (test_t globals) _ (and_second (test_t overrides) _ (and_second (test_t constants) _ (and_second (test_t types) _ h)))) n k q
  test-tables h exprs n k i q = test_table exprs (and_second (test_t globals) _ (and_second (test_t overrides) _ (and_second (test_t constants) _ (and_second (test_t types) _ h)))) n k q

  -- ---- THE TEST
  unfoldable pub test : Bool
  test =
      test_ts
      && (test_fs M.functions 0
      && (sole μ.functions 0 (λ e. false) inverse
      && (below (length M'.functions) (λ j. comes j (get_or inverse j 0))
      && (test_es M.entries M'.entries 0
      && (agrees_r M M' μ (global M M' μ) M.special.rays M'.special.rays
      && agrees_l M M' μ (global M M' μ) M.special.pairs M'.special.pairs)))))

  both-special : agrees_r M M' μ (global M M' μ) M.special.rays M'.special.rays ≡ true → agrees_l M M' μ (global M M' μ) M.special.pairs M'.special.pairs ≡ true
      → agrees_r M M' μ (global M M' μ) (flat_special M.special) (flat_special M'.special) ≡ true
  unfolding flat_special
  both-special p q = agrees_append M M' μ (global M M' μ) M.special.rays M'.special.rays (flat_all M.special.pairs) (flat_all M'.special.pairs) p (agrees_flat M M' μ (global M M' μ) M.special.pairs M'.special.pairs q)

  at_0 : (P : ℕ → Type 0) (k : ℕ) → P (0 + k) → P k
  at_0 P k p = let z : 0 + k ≡ k = omega arith in subst P z p

  pub test_agrees : test ≡ true → Agreement M M' μ
  unfolding test
  test_agrees h = record {
    records = closed_records M M' μ (record { in_tables_lem = test-tables (and_first test_ts _ h); held = held; special = special });
    functions = functions;
    once = once;
    onto = λ j l. come_from j (get_or inverse j 0) (below_at (length M'.functions) (λ j. comes j (get_or inverse j 0)) (and_first (below (length M'.functions) (λ j. comes j (get_or inverse j 0))) _ h₃) j l);
    entries = entries;
    no_entry_added = test-count M.entries M'.entries 0 (and_first (test_es M.entries M'.entries 0) _ h₄);
    rays = and_first (agrees_r M M' μ (global M M' μ) M.special.rays M'.special.rays) _ h₅;
    pairs = and_second (agrees_r M M' μ (global M M' μ) M.special.rays M'.special.rays) _ h₅;
  }
    where
      h₁ : (test_fs M.functions 0 && (sole μ.functions 0 (λ e. false) inverse && (below (length M'.functions) (λ j. comes j (get_or inverse j 0)) && (test_es M.entries M'.entries 0 && (agrees_r M M' μ (global M M' μ) M.special.rays M'.special.rays && agrees_l M M' μ (global M M' μ) M.special.pairs M'.special.pairs))))) ≡ true
      h₁ = and_second test_ts _ h

      h₂ : (sole μ.functions 0 (λ e. false) inverse && (below (length M'.functions) (λ j. comes j (get_or inverse j 0)) && (test_es M.entries M'.entries 0 && (agrees_r M M' μ (global M M' μ) M.special.rays M'.special.rays && agrees_l M M' μ (global M M' μ) M.special.pairs M'.special.pairs)))) ≡ true
      h₂ = and_second (test_fs M.functions 0) _ h₁

      h₃ : (below (length M'.functions) (λ j. comes j (get_or inverse j 0)) && (test_es M.entries M'.entries 0 && (agrees_r M M' μ (global M M' μ) M.special.rays M'.special.rays && agrees_l M M' μ (global M M' μ) M.special.pairs M'.special.pairs))) ≡ true
      h₃ = and_second (sole μ.functions 0 (λ e. false) inverse) _ h₂

      h₄ : (test_es M.entries M'.entries 0 && (agrees_r M M' μ (global M M' μ) M.special.rays M'.special.rays && agrees_l M M' μ (global M M' μ) M.special.pairs M'.special.pairs)) ≡ true
      h₄ = and_second (below (length M'.functions) (λ j. comes j (get_or inverse j 0))) _ h₃

      h₅ : (agrees_r M M' μ (global M M' μ) M.special.rays M'.special.rays && agrees_l M M' μ (global M M' μ) M.special.pairs M'.special.pairs) ≡ true
      h₅ = and_second (test_es M.entries M'.entries 0) _ h₄

      functions : (i : ℕ) (F : Function) → get_elem? M.functions i ≡ some F → Placed i F
      functions i F q = at_0 (λ x. Placed x F) i (test_functions M.functions 0 (and_first (test_fs M.functions 0) _ h₁) i F q)

      entries : (i : ℕ) (E : Entry) → get_elem? M.entries i ≡ some E
          → (E' : Entry) × (get_elem? M'.entries i ≡ some E') × (agrees_r M M' μ (global M M' μ) E.head E'.head ≡ true) × Agrees M M' μ (get_or μ.in_entries i []) E.function E'.function
      entries i E q =
          let r = test_entries M.entries M'.entries 0 (and_first (test_es M.entries M'.entries 0) _ h₄) i E q in
          let t = at_0 (λ x. Entered x E r.0) i r.2 in
          (r.0, r.1, t.0, t.1)

      once : (i j : ℕ) → i < length M.functions → j < length M.functions → get_or μ.functions i 0 ≡ get_or μ.functions j 0 → i ≡ j
      once i j l m q =
          let a = inside-at M.functions i l in
          let r = functions i a.0 a.1 in
          let s = and_first (sole μ.functions 0 (λ e. false) inverse) _ h₂ in
          let x = alone_at i r.0 s r.2 in
          let y = alone_at j r.0 s (sym q ∙ r.2) in
          let z : suc i ≡ suc j = sym x ∙ y in
          omega (arith, z)

      held : (o : List ℕ) (F : Function) → Holds M M' μ o F → (F' : Function) × Agrees M M' μ o F F'
      held o F (as_function i G q) = let r = functions i G q in (r.1, r.4)
      held o F (as_entry i E q) = let r = entries i E q in (r.0.function, r.3)

      special : agrees_r M M' μ (global M M' μ) (flat_special M.special) (flat_special M'.special) ≡ true
      special = both-special (and_first (agrees_r M M' μ (global M M' μ) M.special.rays M'.special.rays) _ h₅) (and_second (agrees_r M M' μ (global M M' μ) M.special.rays M'.special.rays) _ h₅)
