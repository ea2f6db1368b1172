-- Cells through the linker's maps are cells carried, as agreement has it; a derived record that equals the carried source record, ignoring spans, is alike.
use Prim.Native.Nat.{ℕ, zero, suc, ◌+◌, ◌-◌, ◌<◌, ◌≤◌, pred}
use Rattle.std.specs.Prelude.{◌≡◌, ◌⊎◌, Bool, ◌||◌, ltb, get_or}
use Rattle.std.proofs.Math.Path.{refl, sym}
use Rattle.std.proofs.Common.{subst, inl, inr}
use Rattle.std.proofs.Math.Bool.{true, false}
use Rattle.std.proofs.lemmas.Bool.{false≢true}
use mathlib.Core.List.{List, [], ◌∷◌}
use native.Mathlib.Omega.{arith}
use Rattle.std.proofs.Math.Dec.{eqb}
use Rattle.std.proofs.Math.Decide.{dec_lt}
use Rattle.std.proofs.Math.ListN.{length, get_or-eq_default}
use borrow.Author.Tests.{eqb-true, ne_eqb, ltb-true, ltb-false}
use Rattle.model.specs.Outcome.{Cells, class, word}
use Rattle.model.specs.Module.{Module}
use Rattle.model.specs.Table.{WORD, KEY, SPAN, UPTO, NAME, TYPE, OPT_TYPE, CONSTANT, OVERRIDE, GLOBAL, INIT, OPT_INIT, FUNCTION, CALLEE, EXPR, OPT_EXPR, RESULT, OPT_RESULT, NAMED-EXPR, LOCAL-INIT}
use Rattle.model.specs.Carry.{carry_cell, carry_cells}
use Rattle.model.specs.Tables.{types, constants, overrides, globals, exprs}
use Rattle.model.specs.References.{Place, table, own, function, Target, copied, ref, opt, targets, target, Node, ref_of, refs, carry_w, through, alike_c, alike}
use Rattle.theory_walks.specs.Agreement.{Maps, opt_word, carriers, through as throughM, carried as carriedM, carry_cells as carryCellsM, plain, Alike, start as span-start, upto as span-upto, field, AlikeR, over, next}
use Rattle.theory_records.specs.RecordLaws.{All as AllN, Went, Has as HasN, rest_of}
use Rattle.theory_bodies.specs.Context.{Inside, InN}

-- no name among the cells
unfoldable pub Nameless : Cells → Type 0
Nameless [] = Unit {0}
Nameless (c ∷ cs) = (eqb (class c) NAME ≡ false) × Nameless cs

-- words that refer to nothing and have no bound
abbrev pub Free : Cells → Type 0
Free [] = Unit {0}
Free (c ∷ cs) = ((class c ≡ WORD) ⊎ (KEY ≤ class c)) × Free cs

-- the maps of agreement are the linker's, wherever it has mapped
pub record Match (μ : Maps) (f : ℕ → ℕ) (Q : ℕ → Type 0) (w : Went) : Type 0 where
  pub of_types_lem : (n : ℕ) → 0 < w (table types) n → μ.type n ≡ pred (w (table types) n)
  pub of_constants_lem : (n : ℕ) → 0 < w (table constants) n → μ.constant n ≡ pred (w (table constants) n)
  pub of_overrides_lem : (n : ℕ) → 0 < w (table overrides) n → μ.override n ≡ pred (w (table overrides) n)
  pub of_globals_lem : (n : ℕ) → 0 < w (table globals) n → μ.global n ≡ pred (w (table globals) n)
  pub of_inits : (n : ℕ) → 0 < w (table exprs) n → μ.global_expr n ≡ pred (w (table exprs) n)
  -- of functions, those that may be followed
  pub of_functions : (n : ℕ) → Q n → 0 < w function n → μ.function n ≡ pred (w function n)
  pub of_own : (n : ℕ) → 0 < w own n → f n ≡ pred (w own n)

module _ (μ : Maps) (f : ℕ → ℕ) (M₀ : Module) (Q : ℕ → Type 0) (w : Went) (m : Match μ f Q w) where
  -- mapped, and a number that may be met
  abbrev Ok : Node → Type 0
  Ok j = HasN w j × InN M₀ Q j

  pub both_ok : (js : List Node) → AllN (HasN w) js → AllN (InN M₀ Q) js → AllN Ok js
  both_ok [] a b = tt
  both_ok (j ∷ js) a b = ((a.0, b.0), both_ok js a.1 b.1)

  opt_same : (g : ℕ → ℕ) (p : Place) (v : ℕ) (rest : List Node) → ((n : ℕ) → (0 < w p n) × Inside M₀ Q p n → g n ≡ pred (w p n)) → AllN Ok (ref_of (opt p) v rest) → carry_w w (opt p) v ≡ opt_word g v
  unfolding ref_of carry_w opt_word
  opt_same g p zero rest h a = refl
  opt_same g p (suc n) rest h a = omega (arith, h n a.0, a.0.0)

  ref_same : (g : ℕ → ℕ) (p : Place) (v : ℕ) (rest : List Node) → ((n : ℕ) → (0 < w p n) × Inside M₀ Q p n → g n ≡ pred (w p n)) → AllN Ok (ref_of (ref p) v rest) → carry_w w (ref p) v ≡ g v
  unfolding ref_of carry_w
  ref_same g p v rest h a = sym (h v a.0)

  -- a class that no map is for
  abbrev Apart : ℕ → List (ℕ × (ℕ → ℕ)) → Type 0
  Apart s [] = Unit {0}
  Apart s (p ∷ ps) = (eqb s p.0 ≡ false) × Apart s ps

  none_for : (ps : List (ℕ × (ℕ → ℕ))) (s v : ℕ) → Apart s ps → throughM ps s v ≡ v
  unfolding throughM
  none_for [] s v a = refl
  none_for (p ∷ ps) s v a = rw (a.0, throughM) (none_for ps s v a.1)

  far : (s v : ℕ) → (s < SPAN) ⊎ (LOCAL-INIT < s) → carriedM μ f s v ≡ v
  unfolding carriedM carriers
  far s v h =
      none_for (carriers μ f) s v
      (no EXPR (omega arith, omega arith), (no OPT_EXPR (omega arith, omega arith), (no RESULT (omega arith, omega arith), (no OPT_RESULT (omega arith, omega arith), (no NAMED-EXPR (omega arith, omega arith), (no LOCAL-INIT (omega arith, omega arith), (no FUNCTION (omega arith, omega arith), (no CALLEE (omega arith, omega arith), (no TYPE (omega arith, omega arith), (no OPT_TYPE (omega arith, omega arith), (no CONSTANT (omega arith, omega arith), (no OVERRIDE (omega arith, omega arith), (no GLOBAL (omega arith, omega arith), (no INIT (omega arith, omega arith), (no OPT_INIT (omega arith, omega arith), tt)))))))))))))))
    where
      no : (k : ℕ) → (SPAN ≤ k) × (k ≤ LOCAL-INIT) → eqb s k ≡ false
      no k b = ne_eqb s k (λ e. apart h e b)
        where
          apart : (s < SPAN) ⊎ (LOCAL-INIT < s) → s ≡ k → (SPAN ≤ k) × (k ≤ LOCAL-INIT) → ⊥
          apart (inl a) e b = omega (arith, b.0, b.1)
          apart (inr a) e b = omega (arith, b.0, b.1)

  abbrev Same : ℕ → Target → Type 0
  Same s t = eqb s NAME ≡ false → (v : ℕ) (rest : List Node) → AllN Ok (ref_of t v rest) → carry_w w t v ≡ carriedM μ f s v

  abbrev Sames : ℕ → List Target → Type 0
  Sames s [] = Unit {0}
  Sames s (t ∷ ts) = Same s t × Sames (suc s) ts

  sames_at : (ts : List Target) (s k : ℕ) → Sames s ts → k < length ts → Same (s + k) (get_or ts k copied)
  sames_at [] s k a h = absurd (omega arith)
  sames_at (t ∷ ts) s zero a h = let q : s + 0 ≡ s = omega arith in rw q a.0
  sames_at (t ∷ ts) s (suc k) a h = let q : s + suc k ≡ suc s + k = omega arith in rw q (sames_at ts (suc s) k a.1 (omega arith))

  all_same : Sames SPAN targets
  unfolding targets carriedM throughM carriers carry_w Inside
  all_same =
      (λ n v rest a. refl, (λ n v rest a. refl, (λ n v rest a. absurd (false≢true (sym n)), (λ n v rest a. ref_same μ.type (table types) v rest (λ n h. m.of_types_lem n h.0) a, (λ n v rest a. opt_same μ.type (table types) v rest (λ n h. m.of_types_lem n h.0) a, (λ n v rest a. ref_same μ.constant (table constants) v rest (λ n h. m.of_constants_lem n h.0) a, (λ n v rest a. ref_same μ.override (table overrides) v rest (λ n h. m.of_overrides_lem n h.0) a, (λ n v rest a. ref_same μ.global (table globals) v rest (λ n h. m.of_globals_lem n h.0) a, (λ n v rest a. ref_same μ.global_expr (table exprs) v rest (λ n h. m.of_inits n h.0) a, (λ n v rest a. opt_same μ.global_expr (table exprs) v rest (λ n h. m.of_inits n h.0) a, (λ n v rest a. ref_same μ.function function v rest (λ n h. m.of_functions n h.1 h.0) a, (λ n v rest a. ref_same μ.function function v rest (λ n h. m.of_functions n h.1 h.0) a, (λ n v rest a. ref_same f own v rest (λ n h. m.of_own n h.0) a, (λ n v rest a. opt_same f own v rest (λ n h. m.of_own n h.0) a, (λ n v rest a. refl, (λ n v rest a. refl, (λ n v rest a. refl, (λ n v rest a. refl, (λ n v rest a. ref_same f own v rest (λ n h. m.of_own n h.0) a, (λ n v rest a. opt_same f own v rest (λ n h. m.of_own n h.0) a, (λ n v rest a. ref_same f own v rest (λ n h. m.of_own n h.0) a, (λ n v rest a. opt_same f own v rest (λ n h. m.of_own n h.0) a, tt))))))))))))))))))))))

  many : length targets ≡ 22
  unfolding targets
  many = refl

  word_same : (s v : ℕ) (rest : List Node) → eqb s NAME ≡ false → AllN Ok (ref_of (target s) v rest) → through w s v ≡ carriedM μ f s v
  unfolding through target
  word_same s v rest n a = go (ltb s SPAN) refl a
    where
      past : SPAN ≤ s → Dec (s - SPAN < length targets) → AllN Ok (ref_of (get_or targets (s - SPAN) copied) v rest) → carry_w w (get_or targets (s - SPAN) copied) v ≡ carriedM μ f s v
      past l (yes h) b =
          let q : SPAN + (s - SPAN) ≡ s = omega arith in
          let z = sames_at targets SPAN (s - SPAN) all_same h in
          (rw q at z) n v rest b
      past l (no h) b = unfold carry_w in (let q : length targets ≤ s - SPAN = omega arith in rw (get_or-eq_default targets copied {n = s - SPAN} q) (sym (far s v (inr (omega (arith, many))))))

      go : (b : Bool) → ltb s SPAN ≡ b → AllN Ok (ref_of (elim b [ true ↦ copied | false ↦ get_or targets (s - SPAN) copied ]) v rest)
          → carry_w w (elim b [ true ↦ copied | false ↦ get_or targets (s - SPAN) copied ]) v ≡ carriedM μ f s v
      go true e b = unfold carry_w in sym (far s v (inl (ltb-true s SPAN e)))
      go false e b = past (ltb-false s SPAN e) (dec_lt (s - SPAN) (length targets)) b

  -- cells through the maps
  pub cells_carry : (r : Cells) → Nameless r → AllN Ok (refs r) → carry_cells (through w) r ≡ carryCellsM μ f r
  unfolding Nameless refs carry_cell carryCellsM
  cells_carry [] n a = refl
  cells_carry (c ∷ cs) n a =
      rw (word_same (class c) (word c) (refs cs) n.0 a, cells_carry cs n.1 (rest_of Ok (target (class c)) (word c) (refs cs) a))

-- ---- alike
module _ (M M' : Module) (μ : Maps) (f : ℕ → ℕ) where
  alike-cell : (s w w' : ℕ) → eqb s NAME ≡ false → elim (eqb w' (carriedM μ f s w)) [ true ↦ true | false ↦ eqb s SPAN || eqb s UPTO ] ≡ true → Alike M M' μ f s w w'
  unfolding plain
  alike-cell s w w' n h = go (eqb s SPAN) (eqb s UPTO) (eqb w' (carriedM μ f s w)) refl refl refl h
    where
      go : (x y a : Bool) → eqb s SPAN ≡ x → eqb s UPTO ≡ y → eqb w' (carriedM μ f s w) ≡ a → elim a [ true ↦ true | false ↦ x || y ] ≡ true → Alike M M' μ f s w w'
      go true y a u v p h = rw (eqb-true s SPAN u) span-start
      go false true a u v p h = rw (eqb-true s UPTO v) span-upto
      go false false true u v p h = field {s = s} {w = w} {w' = w'} (rw (u, v, n)) (eqb-true w' (carriedM μ f s w) p)
      go false false false u v p h = absurd (false≢true h)

  pub alike_of : (r r' : Cells) → Nameless r → alike r' (carryCellsM μ f r) ≡ true → AlikeR M M' μ f r r'
  unfolding Nameless alike alike_c carryCellsM
  alike_of [] [] n h = over
  alike_of [] (d ∷ ds) n h = absurd (false≢true h)
  alike_of (c ∷ cs) [] n h = absurd (false≢true h)
  alike_of (c ∷ cs) (d ∷ ds) n h = go (alike_c d (class c, carriedM μ f (class c) (word c))) refl h (alike_of cs ds n.1)
    where
      head : (x : Bool) → eqb (class d) (class c) ≡ x → elim x [ true ↦ elim (eqb (word d) (carriedM μ f (class c) (word c))) [ true ↦ true | false ↦ eqb (class d) SPAN || eqb (class d) UPTO ] | false ↦ false ] ≡ true
          → (class d ≡ class c) × Alike M M' μ f (class c) (word c) (word d)
      head true e q = let k = eqb-true (class d) (class c) e in (k, alike-cell (class c) (word c) (word d) n.0 (subst (λ (t : ℕ). elim (eqb (word d) (carriedM μ f (class c) (word c))) [ true ↦ true | false ↦ eqb t SPAN || eqb t UPTO ] ≡ true) k q))
      head false e q = absurd (false≢true q)

      go : (x : Bool) → alike_c d (class c, carriedM μ f (class c) (word c)) ≡ x → elim x [ true ↦ alike ds (carryCellsM μ f cs) | false ↦ false ] ≡ true
          → (alike ds (carryCellsM μ f cs) ≡ true → AlikeR M M' μ f cs ds) → AlikeR M M' μ f (c ∷ cs) (d ∷ ds)
      go true e q ih = let z = head (eqb (class d) (class c)) refl e in subst (λ (s : ℕ). AlikeR M M' μ f (c ∷ cs) ((s, word d) ∷ ds)) (sym z.0) (next z.1 (ih q))
      go false e q ih = absurd (false≢true q)
