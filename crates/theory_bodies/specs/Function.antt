-- The import of a function that passed intake: the derived function agrees with its source, its body as walks see it is the source's carried, no Emit of it holds an initialiser expression, and it passes test 6 again.
use Prim.Native.Nat.{ℕ, zero, suc, ◌+◌, ◌<◌, ◌≤◌, pred}
use Rattle.std.specs.Prelude.{◌≡◌, ◌≢◌, ◌⊎◌, true, eqb, get_or, replicate}
use Rattle.std.proofs.Math.Path.{refl, ap, subst}
use Rattle.std.proofs.Common.{sym, ◌∙◌, arith, le_refl, eqb-true, lt-ltb}
use Rattle.std.proofs.Math.Logic.{inl, inr, ⊎_elim}
use Rattle.std.proofs.Math.Bool.{Bool, false, false≢true}
use mathlib.Core.List.{List, [], ◌∷◌, ◌++◌, map}
use Rattle.std.proofs.Math.Decide.{ℕ_discrete, dec_lt}
use Rattle.std.proofs.Math.ListN.{length, get_or-eq_default}
use Rattle.std.proofs.lemmas.List.{length-replicate}
use Rattle.theory_lists.specs.Booleans.{by}
use Rattle.model.specs.Lower.{below, operands_lower}
use Rattle.model.specs.Outcome.{Cells, class, word}
use Rattle.model.specs.Module.{Module}
use Rattle.model.specs.Table.{NAME, LOCAL-INIT}
use Rattle.model.specs.Tree.{Function, flat_all, flat_b}
use Rattle.model.specs.Carry.{carry_cell, carry_cells}
use Rattle.model.specs.Names.{field}
use Rattle.model.specs.Tables.{names, types, constants, overrides, globals, exprs}
use Rattle.model.specs.References.{Place, table, own, function, Target, copied, start, upto, ref, opt, targets, target, Node, ref_of, refs, carry_w, through, first_word, undefined_at, moved, shift}
use Rattle.model.specs.Operands.{optional, ops_of, constant_kind, ops, kind_at, standing}
use Rattle.model.specs.Initial.{Mem, here, there, root, step as reach_step, Reached, roots, inits_of, marked, initials, initial, initialised}
use Rattle.theory_image.specs.Reached.{initial_is, initial-all, initialised_is, initialised-all}
use Rattle.model.specs.Scope.{expand, evals_b, ok_b, seen, all_of, scoped}
use Rattle.model.specs.Imports.{Derived}
use Rattle.model.specs.Bodies.{Builder, mapped_to, carried, intern_expr, import_body, import_initialiser, put_name, name_if, keep_names, name_cells, declarations, declared, walked, rebuilt, kept_names, named_after, derived, final, localized}
use Rattle.theory_walks.specs.Agreement.{Maps, carry_b, mentioned, MayShare, AlikeR, Agrees}
use Rattle.theory_walks.proofs.AgreementProof.{alike-ops, alike-kind}
use Rattle.theory_walks.proofs.Theorems.{carries_scope}
use Rattle.theory_records.specs.RecordLaws.{All as AllN, all_map as alln-map, all_both as alln-both, Has as HasN, image, bare, alike_self, rest_of, refs-alike, refs-carry}
use Rattle.theory_bodies.specs.Lists.{All, Distinct, all_map, all_both, all_any, all_mem, mem_all, mem_map, all_of_map, split}
use Rattle.theory_bodies.specs.Context.{InN, Grown, grown_trans, Law, Ctx, OwnP, Own, owns, owns-all}
use Rattle.theory_bodies.specs.Inv.{Has, Un, place, Ext, ext_trans, ext_has, ext_place, Low, LowN, Inv, join-put}
use Rattle.theory_bodies.specs.Gen.{Wants, Ends, Res, Many, many, import_res}
use Rattle.theory_bodies.specs.Carried.{Nameless, Match, both_ok, cells_carry, alike_of}
use Rattle.theory_bodies.specs.Steps.{Exprs, own_ops, ops_own, plain_c, import_idle, each_idle, Brought, brought, Soft}
use Rattle.theory_bodies.specs.Body.{FitB, Room, no_room, Pre, Does, does_b, has-owns}

-- the maps of a state, as agreement has them
abbrev pub maps_of : (Place → ℕ → ℕ) → Maps
maps_of w = record {
  type = λ n. pred (w (table types) n);
  constant = λ n. pred (w (table constants) n);
  override = λ n. pred (w (table overrides) n);
  global = λ n. pred (w (table globals) n);
  global_expr = λ n. pred (w (table exprs) n);
  function = λ n. pred (w function n);
  in_function = λ i n. 0;
  in_entry = λ i n. 0;
}

pub maps_match : (M : Module) (Q : ℕ → Type 0) (m : Builder) → Match (maps_of (mapped_to M m)) (place m.memo) Q (mapped_to M m)
unfolding mapped_to place
maps_match M Q m = record { of_types_lem = λ n h. refl; of_constants_lem = λ n h. refl; of_overrides_lem = λ n h. refl; of_globals_lem = λ n h. refl; of_inits = λ n h. refl; of_functions = λ n q h. refl; of_own = λ n h. refl }

-- a name's word is in range
abbrev pub NameIn : Module → (ℕ → Type 0) → ℕ → Type 0
NameIn M Q w = AllN (InN M Q) (ref_of (target NAME) w [])

abbrev pub NamesIn : Module → (ℕ → Type 0) → List Cells → Type 0
NamesIn M Q [] = Unit {0}
NamesIn M Q (r ∷ rs) = NameIn M Q (field NAME r) × NamesIn M Q rs

abbrev pub PairsIn : Module → (ℕ → Type 0) → List (ℕ × ℕ) → Type 0
PairsIn M Q [] = Unit {0}
PairsIn M Q (p ∷ ps) = NameIn M Q p.1 × PairsIn M Q ps

-- what intake leaves of a function
pub record Fine (c : Ctx) (F : Function) : Type 0 where
  pub exprs : Exprs c
  pub nameless : (e : ℕ) → Nameless (get_or c.xs e [])
  pub declared-owned : owns (refs (declarations c.o c.M c.follow F)) ≡ roots F.locals
  pub declared_in : AllN (InN c.M c.calls) (refs (declarations c.o c.M c.follow F))
  pub roots_in : All (λ x. x < length c.xs) (roots F.locals)
  pub named_in : NamesIn c.M c.calls F.named
  pub fit : FitB F.body c
  pub inside : All (λ x. x < length c.xs) (evals_b (seen F))
  pub may : All c.may (evals_b (seen F))
  pub hard : All (λ x. standing c.xs x ≡ false) (evals_b (seen F))
  pub soft : All (λ x. initial F x ≡ false) (evals_b (seen F))
  pub once : Distinct (evals_b (seen F))
  pub scope : ok_b (seen F) c.xs [] ≡ true

pub no_has : (n e : ℕ) → Has (replicate n 0) e → ⊥
no_has zero e h = omega arith
no_has (suc n) zero h = omega arith
no_has (suc n) (suc e) h = no_has n e h

-- ---- names of the named expressions that stay
put_in : (M : Module) (Q : ℕ → Type 0) (ps : List (ℕ × ℕ)) (k w : ℕ) → PairsIn M Q ps → NameIn M Q w → PairsIn M Q (put_name ps k w)
unfolding put_name
put_in M Q [] k w a b = (b, tt)
put_in M Q (p ∷ ps) k w a b = go (eqb p.0 k) (put_in M Q ps k w a.1 b)
  where
    go : (t : Bool) → PairsIn M Q (put_name ps k w) → PairsIn M Q (elim t [ true ↦ (k, w) ∷ ps | false ↦ p ∷ put_name ps k w ])
    go true i = (b, a.1)
    go false i = (a.0, i)

if_in : (M : Module) (Q : ℕ → Type 0) (v w : ℕ) (ps : List (ℕ × ℕ)) → PairsIn M Q ps → NameIn M Q w → PairsIn M Q (name_if v w ps)
unfolding name_if
if_in M Q zero w ps a b = a
if_in M Q (suc k) w ps a b = put_in M Q ps k w a b

pub keep_in : (M : Module) (Q : ℕ → Type 0) (rs : List Cells) (memo : List ℕ) (ps : List (ℕ × ℕ)) → NamesIn M Q rs → PairsIn M Q ps → PairsIn M Q (keep_names rs memo ps)
unfolding keep_names
keep_in M Q [] memo ps a b = b
keep_in M Q (r ∷ rs) memo ps a b = keep_in M Q rs memo _ a.1 (if_in M Q _ (field NAME r) ps b a.0)

pub names_in_lem : (M : Module) (Q : ℕ → Type 0) (ps : List (ℕ × ℕ)) → PairsIn M Q ps → AllN (InN M Q) (refs (name_cells ps))
unfolding name_cells refs target targets ref_of
names_in_lem M Q [] a = tt
names_in_lem M Q (p ∷ ps) a = go p.1 a.0 (names_in_lem M Q ps a.1)
  where
    go : (w : ℕ) → AllN (InN M Q) (ref_of (opt (table names)) w []) → AllN (InN M Q) (refs (name_cells ps)) → AllN (InN M Q) (ref_of (opt (table names)) w (refs (name_cells ps)))
    go zero a b = b
    go (suc n) a b = (a.0, b)

pub names_own : (P : ℕ → Type 0) (ps : List (ℕ × ℕ)) → AllN (Own P) (refs (name_cells ps))
unfolding name_cells refs target targets
names_own P [] = tt
names_own P (p ∷ ps) = go p.1 (names_own P ps)
  where
    go : (w : ℕ) → AllN (Own P) (refs (name_cells ps)) → AllN (Own P) (ref_of (opt (table names)) w (refs (name_cells ps)))
    go zero b = unfold ref_of in b
    go (suc n) b = unfold ref_of OwnP in (tt, b)

-- ---- lists of references
cons_split : (P : Node → Type 0) (t : Target) (w : ℕ) (rest js : List Node) → AllN P (ref_of t w rest) → AllN P js → AllN P (ref_of t w js)
unfolding ref_of
cons_split P copied w rest js a b = b
cons_split P start w rest js a b = b
cons_split P upto w rest js a b = b
cons_split P (ref p) w rest js a b = (a.0, b)
cons_split P (opt p) zero rest js a b = b
cons_split P (opt p) (suc n) rest js a b = (a.0, b)

pub refs-append : (P : Node → Type 0) (a b : Cells) → AllN P (refs (a ++ b)) → AllN P (refs a) × AllN P (refs b)
unfolding refs
refs-append P [] b h = (tt, h)
refs-append P (c ∷ cs) b h =
    let r = refs-append P cs b (rest_of P (target (class c)) (word c) (refs (cs ++ b)) h) in
    (cons_split P (target (class c)) (word c) (refs (cs ++ b)) (refs cs) h r.0, r.1)

-- ---- the initialisers of derived locals
module _ (M : Module) (o : ℕ) (d : Builder) (φ : ℕ → ℕ) (is : (e : ℕ) → Has d.memo e → φ e ≡ place d.memo e) where
  opt_init : (v : ℕ) (rest : List Node) (xs : List ℕ) → AllN (HasN (mapped_to M d)) (ref_of (opt own) v rest) → optional (carry_w (mapped_to M d) (opt own) v) (map φ xs) ≡ map φ (optional v xs)
  unfolding ref_of carry_w mapped_to optional place
  opt_init zero rest xs a = refl
  opt_init (suc n) rest xs a = front (get_or d.memo n 0) a.0 (is n a.0)
    where
      front : (v : ℕ) → 0 < v → φ n ≡ pred v → optional v (map φ xs) ≡ φ n ∷ map φ xs
      front zero h q = absurd (omega arith)
      front (suc v) h q = rw q

  inits-carried : (l : Cells) (u : Bool) (xs : List ℕ) → AllN (HasN (mapped_to M d)) (refs l) → inits_of (shift (carry_cells (through (mapped_to M d)) l) o u) (map φ xs) ≡ map φ (inits_of l xs)
  unfolding inits_of shift carry_cell refs
  inits-carried [] u xs a = refl
  inits-carried (c ∷ cs) u xs a = go (eqb (class c) LOCAL-INIT) refl (inits-carried cs v xs (rest_of _ (target (class c)) (word c) (refs cs) a))
    where
      v : Bool
      v = undefined_at (target (class c)) (through (mapped_to M d) (class c) (word c)) (first_word (carry_cells (through (mapped_to M d)) cs)) u

      init-word : class c ≡ LOCAL-INIT → (ys : List ℕ) → optional (moved (target (class c)) (through (mapped_to M d) (class c) (word c)) o v) (map φ ys) ≡ map φ (optional (word c) ys)
      init-word e ys = subst (λ (s : ℕ). AllN (HasN (mapped_to M d)) (ref_of (target s) (word c) (refs cs)) → optional (moved (target s) (through (mapped_to M d) s (word c)) o v) (map φ ys) ≡ map φ (optional (word c) ys)) (sym e)
          (λ b. unfold target targets moved through in opt_init (word c) (refs cs) ys (unfold target targets in b)) a

      go : (b : Bool) → eqb (class c) LOCAL-INIT ≡ b → inits_of (shift (carry_cells (through (mapped_to M d)) cs) o v) (map φ xs) ≡ map φ (inits_of cs xs)
          → elim b [ true ↦ optional (moved (target (class c)) (through (mapped_to M d) (class c) (word c)) o v) (inits_of (shift (carry_cells (through (mapped_to M d)) cs) o v) (map φ xs)) | false ↦ inits_of (shift (carry_cells (through (mapped_to M d)) cs) o v) (map φ xs) ]
          ≡ map φ (elim b [ true ↦ optional (word c) (inits_of cs xs) | false ↦ inits_of cs xs ])
      go true e ih = rw ih (init-word (eqb-true (class c) LOCAL-INIT e) (inits_of cs xs))
      go false e ih = ih

  roots-carried : (ls : List Cells) → AllN (HasN (mapped_to M d)) (refs (flat_all ls)) → roots (map (carried o M d) ls) ≡ map φ (roots ls)
  unfolding roots flat_all carried
  roots-carried [] a = refl
  roots-carried (l ∷ ls) a =
      let r = refs-append _ l (flat_all ls) a in
      rw (roots-carried ls r.1) (inits-carried l false (roots ls) r.0)

image-all : (P : Node → Type 0) (g : Node → Node) (js : List Node) → AllN P (map g js) → AllN (λ j. P (g j)) js
image-all P g [] a = tt
image-all P g (j ∷ js) a = (a.0, image-all P g js a.1)

-- ---- test 4 from what it says
below_of : (xs : List ℕ) (n : ℕ) → All (λ x. x < n) xs → below xs n ≡ true
unfolding below
below_of [] n a = refl
below_of (x ∷ xs) n a = rw (lt-ltb x n a.0) (below_of xs n a.1)

lower_of : (xs : List Cells) (i : ℕ) → ((e : ℕ) → e < length xs → All (λ x. x < i + e) (ops_of (get_or xs e []))) → operands_lower xs i ≡ true
unfolding operands_lower
lower_of [] i f = refl
lower_of (x ∷ xs) i f =
    rw (below_of (ops_of x) i (all_map (ops_of x) (λ y q. omega arith) (f 0 (omega arith))))
    (lower_of xs (suc i) (λ e h. all_map (ops_of (get_or xs e [])) (λ y q. omega arith) (f (suc e) (omega arith))))

mem_or : (e : ℕ) (l : List ℕ) → Mem e l ⊎ All (λ x. e ≢ x) l
mem_or e [] = inr tt
mem_or e (x ∷ l) = go (ℕ_discrete e x) (mem_or e l)
  where
    go : Dec (e ≡ x) → Mem e l ⊎ All (λ x. e ≢ x) l → Mem e (x ∷ l) ⊎ All (λ x. e ≢ x) (x ∷ l)
    go (yes q) r = inl (rw q here)
    go (no n) r = ⊎_elim (λ k. inl (there k)) (λ a. inr (n, a)) r

-- what may be imported: standing expressions, what the body evaluates, and what initialisers reach
abbrev pub May : Function → ℕ → Type 0
May F e = (standing F.exprs e ≡ true) ⊎ (Mem e (evals_b (seen F)) ⊎ Reached F e)

module _ (o : ℕ) (M : Module) (follow : ℕ → Derived → Derived) (Q : ℕ → Type 0) (G : Derived → Type 0) (law : Law o M follow Q G) (F : Function) where
  abbrev pub ctx : Ctx
  ctx = record { o = o; M = M; follow = follow; calls = Q; may = May F; G = G; law = law; xs = F.exprs }

  module _ (fine : Fine ctx F) (s : Derived) (good : G s) where
    abbrev xs : List Cells
    xs = F.exprs

    abbrev ex : Exprs ctx
    ex = fine.exprs

    abbrev R : ℕ → Type 0
    R = Reached F

    abbrev init : ℕ → Bool
    init = marked (initials F)

    abbrev evals : List ℕ
    evals = evals_b (seen F)

    abbrev join_f : ℕ → Builder → Builder
    join_f = intern_expr o M follow xs

    abbrev dec : Builder
    dec = declared o M follow F s

    abbrev fin : Builder
    fin = final o M follow F s

    abbrev φ : ℕ → ℕ
    φ = place fin.memo

    abbrev begin : Builder
    begin = record { out = s; memo = replicate (length xs) 0; made = [] }

    -- ---- the declarations
    join-ends : (e : ℕ) (st : Builder) → e < length xs → R e → Un st.memo e → Inv ctx st → Unit {0} → AllN (Wants ctx join_f (λ e. true) R (λ y. R y → ⊥) (λ s. Unit {0}) st) (refs (get_or xs e []))
        → Ends ctx join_f (λ e. true) R (λ y. R y → ⊥) (λ s. Unit {0}) e st (join_f e st)
    join-ends e st l r z i j a =
        let p = join-put ctx e st i l z (alln-both (refs (get_or xs e [])) (λ j f g. f g) a (own_ops ctx ex (λ y. true ≡ true) e (all_any (ops xs e) (λ y. refl)))) in
        record { inv = p.inv; j = tt; ext = p.ext; has = λ w. omega (arith, p.at); other = λ y n u. p.other y n ∙ u; self = λ q u. absurd (q r) }

    begin-inv : Inv ctx begin
    begin-inv = record { good = good; size = length-replicate (length xs) 0; found = λ e h. absurd (no_has (length xs) e h); low = λ k h. absurd (omega arith); from = λ k h. absurd (omega arith) }

    reach_ops : (e : ℕ) → R e → AllN (Own R) (refs (get_or xs e []))
    reach_ops e h = own_ops ctx ex R e (all_mem R (ops xs e) (λ y m. reach_step h m))

    one : (x : ℕ) (st : Builder) → x < length xs → R x → Inv ctx st → Unit {0} → Res ctx join_f (λ e. true) R (λ y. R y → ⊥) (λ s. Unit {0}) x st (import_initialiser o M follow xs x st)
    unfolding import_initialiser
    one x st l r i j =
        import_res ctx join_f (λ e. true) R (λ y. R y → ⊥) (λ s. Unit {0}) (λ e m. own_ops ctx ex _ e (ex.lower e m)) (λ e r. ex.inside e (inr (inr r))) reach_ops
        (λ p n s j. tt) join-ends (length xs) x st l l r i j

    abbrev drefs : List Node
    drefs = refs (declarations o M follow F)

    decls : Many ctx join_f (λ e. true) R (λ y. R y → ⊥) (λ s. Unit {0}) (length xs) drefs begin dec
    unfolding declared
    decls =
        many ctx join_f (λ e. true) R (λ y. R y → ⊥) (λ s. Unit {0}) (λ e m. own_ops ctx ex _ e (ex.lower e m)) (λ e r. ex.inside e (inr (inr r))) reach_ops
        (λ p n s j. tt) join-ends (length xs) (import_initialiser o M follow xs) one drefs begin
        (owns-all _ drefs (rw fine.declared-owned fine.roots_in)) (owns-all R drefs (rw fine.declared-owned (all_mem R (roots F.locals) (λ x m. root m))))
        fine.declared_in begin-inv tt

    pub decl_has : AllN (HasN (mapped_to M dec)) drefs
    decl_has = alln-both drefs (λ j f g. f g) decls.has (owns-all (λ y. true ≡ true) drefs (all_any (owns drefs) (λ y. refl)))

    -- what is reached is mapped
    reach_has : {e : ℕ} → R e → Has dec.memo e
    reach_has (root m) = mem_all _ m (rw fine.declared-owned at (has-owns ctx ex init init 0 fin dec drefs decl_has))
    reach_has (reach_step {e = e} r m) = mem_all _ m (rw (ex.owned e) at (has-owns ctx ex init init 0 fin dec (refs (get_or xs e [])) (decls.inv.found e (reach_has r)).ready))

    -- and nothing but standing and initialiser expressions
    un_begin : (y : ℕ) → Un begin.memo y
    un_begin y = ⊎_elim (λ z. z) (λ h. absurd (no_has (length xs) y h)) (split (get_or (replicate (length xs) 0) y 0))

    un_hard : (y : ℕ) → standing xs y ≡ false → init y ≡ false → Un dec.memo y
    unfolding initial
    un_hard y m n = elim (dec_lt y (length xs)) [
      | yes l ↦ decls.apart y (λ r. false≢true (sym n ∙ initial-all F y l r m)) (un_begin y)
      | no l ↦ get_or-eq_default dec.memo 0 {n = y} (omega (arith, decls.inv.size))
    ]

    soft : (y : ℕ) → Has dec.memo y → Soft ctx ex init y
    soft y h = by _ (standing xs y) inl (λ m. by _ (init y) inr (λ n. absurd (let z = un_hard y m n in omega arith)))

    abbrev n₀ : ℕ
    n₀ = length dec.made

    inits-has : (e : ℕ) → init e ≡ true → Has dec.memo e
    unfolding initial
    inits-has e h = reach_has (initial_is F e h).0

    soft_evals : All (λ x. init x ≡ false) evals
    unfolding initial
    soft_evals = fine.soft

    pub before : (init' : ℕ → Bool) → Pre ctx ex init init' n₀ fin evals [] dec
    before init' = record {
      inv = decls.inv;
      shared = λ e e' h h' q. inr (soft e h, soft e' h');
      inits = inits-has;
      scope = tt;
      high = le_refl _;
      un = all_both evals un_hard fine.hard soft_evals;
      inside = fine.inside;
      may = fine.may;
      hard = fine.hard;
      once = fine.once;
    }

    -- ---- the names
    abbrev mid : Builder
    mid = walked o M follow F dec

    named_res : Inv ctx mid → Brought ctx (refs (name_cells (kept_names o M follow F mid))) mid fin
    unfolding final named_after import_body kept_names
    named_res i =
        let js = refs (name_cells (keep_names F.named mid.memo [])) in
        rw (each_idle ctx (plain_c ctx) (import_idle ctx _ (length xs)) js mid (names_own _ (keep_names F.named mid.memo [])))
        (brought ctx js mid i (names_in_lem M Q (keep_names F.named mid.memo []) (keep_in M Q F.named mid.memo [] fine.named_in tt)))

    -- ---- the body; μ are maps that are the linker's where it has mapped
    module _ (μ : Maps) (match : Match μ φ Q (mapped_to M fin)) where
      body : (L : Cells → Type 0) → Room L ctx fin μ → (init' : ℕ → Bool) → ((k : ℕ) → n₀ ≤ k → init' k ≡ false)
          → Does ctx ex init init' n₀ fin evals dec mid ((expand (rebuilt o M follow F dec) init' ≡ carry_b (seen F) μ φ) × All (Has fin.memo) (mentioned F) × L (flat_b (rebuilt o M follow F dec)))
      unfolding walked rebuilt seen mentioned
      body L room init' high = does_b ctx ex init init' n₀ fin μ match high L room F.body [] dec fine.fit (before init') fine.scope

    whole : Does ctx ex init (λ k. false) n₀ fin evals dec mid ((expand (rebuilt o M follow F dec) (λ k. false) ≡ carry_b (seen F) (maps_of (mapped_to M fin)) φ) × All (Has fin.memo) (mentioned F) × Unit {0})
    whole = body (maps_of (mapped_to M fin)) (maps_match M Q fin) (λ cs. Unit {0}) (no_room ctx fin (maps_of (mapped_to M fin))) (λ k. false) (λ k l. refl)

    tail : Brought ctx (refs (name_cells (kept_names o M follow F mid))) mid fin
    tail = named_res whole.inv

    -- the names of the named expressions that stay are mapped
    pub names_has : AllN (HasN (mapped_to M fin)) (refs (name_cells (kept_names o M follow F fin)))
    unfolding kept_names
    names_has = subst (λ (q : List ℕ). AllN (HasN (mapped_to M fin)) (refs (name_cells (keep_names F.named q [])))) (sym tail.memo) (alln-both (refs (name_cells (keep_names F.named mid.memo []))) (λ j f g. f g) (unfold kept_names in tail.has) (names_own _ (keep_names F.named mid.memo [])))

    -- (1) tables only grow, and what is mapped stays mapped
    pub begun : Ext M begin dec
    begun = decls.ext

    pub grows : Ext M dec fin
    grows = ext_trans M whole.ext tail.ext

    pub out_grows : Grown s fin.out
    out_grows = grown_trans begun.grown grows.grown

    pub holds : Inv ctx fin
    holds = tail.inv

    -- all that is read and evaluated is mapped
    pub mentions_mapped : All (Has fin.memo) (mentioned F)
    mentions_mapped = (whole.carry tail.ext).1

    -- nothing but standing expressions, initialiser expressions and what the body evaluates is mapped
    pub only-mapped : (y : ℕ) → standing xs y ≡ false → init y ≡ false → All (λ x. y ≢ x) evals → Un fin.memo y
    only-mapped y m n a = rw tail.memo (whole.apart y m a (un_hard y m n))

    -- so what is mapped is what may be
    pub mapped_may : (e : ℕ) → Has fin.memo e → May F e
    unfolding initial
    mapped_may e h =
        by _ (standing xs e) inl (λ m.
        by _ (init e) (λ n. inr (inr (initial_is F e n).0)) (λ n.
        ⊎_elim (λ k. inr (inl k)) (λ a. absurd (let z = only-mapped e m n a in omega arith)) (mem_or e evals)))

    -- only standing or initialiser expressions share a record
    pub shares : (e e' : ℕ) → Has fin.memo e → Has fin.memo e' → φ e ≡ φ e' → (e ≡ e') ⊎ (MayShare F e × MayShare F e')
    unfolding initial
    shares = rw tail.memo whole.shared

    abbrev pub F' : Function
    F' = localized o M follow F s

    module _ (μ : Maps) (match : Match μ φ Q (mapped_to M fin)) (M' : Module) where
      -- (3) the record of a mapped expression is the source's carried, ignoring spans
      pub record_alike : (e : ℕ) → Has fin.memo e → AlikeR M M' μ φ (get_or xs e []) (get_or F'.exprs (φ e) [])
      unfolding localized derived
      record_alike e h =
          let n = holds.found e h in
          alike_of M M' μ φ (get_or xs e []) _ (fine.nameless e)
          (alike_self _ _ (n.same ∙ ap bare (cells_carry μ φ M Q (mapped_to M fin) match (get_or xs e []) (fine.nameless e) (both_ok μ φ M Q (mapped_to M fin) match (refs (get_or xs e [])) n.ready (ex.inside e (mapped_may e h))))))

      pub ops-same : (e : ℕ) → Has fin.memo e → ops F'.exprs (φ e) ≡ map φ (ops xs e)
      unfolding ops
      ops-same e h = alike-ops μ φ M M' (record_alike e h)

      local-roots : roots F'.locals ≡ map φ (roots F.locals)
      unfolding localized derived declarations
      local-roots =
          let d = (refs-append (HasN (mapped_to M dec)) (F.head ++ flat_all F.arguments ++ F.result) (flat_all F.locals) decl_has).1 in
          roots-carried M o dec φ (ext_place M grows) F.locals d

      -- what the derived locals reach is what the source's reach, carried
      reach_back : {k : ℕ} → Reached F' k → (e : ℕ) × R e × (φ e ≡ k)
      reach_back (root {e = x} m) =
          let r = mem_map φ (roots F.locals) (subst (λ ys. Mem x ys) local-roots m) in
          (r.0, root r.1, r.2)
      reach_back (reach_step {e = k} {x = x} h m) =
          let r = reach_back h in
          let t = mem_map φ (ops xs r.0) (subst (λ ys. Mem x ys) (ap (ops F'.exprs) (sym r.2) ∙ ops-same r.0 (ext_has M grows r.0 (reach_has r.1))) m) in
          (t.0, reach_step r.1 t.1, t.2)

      high : (k : ℕ) → n₀ ≤ k → marked (initials F') k ≡ false
      unfolding initial
      high k l =
          by _ (marked (initials F') k)
          (λ t.
          let r = reach_back (initial_is F' k t).0 in
          let h = reach_has r.1 in
          absurd (omega (arith, r.2, ext_place M grows r.0 h, (decls.inv.found r.0 h).below)))
          (λ t. t)

      -- the body carried, each Emit a range that evaluates exactly the images of what it evaluated, in order
      pub body-carried : seen F' ≡ carry_b (seen F) μ φ
      unfolding seen localized derived
      body-carried = ((body μ match (λ cs. Unit {0}) (no_room ctx fin μ) (marked (initials F')) high).carry tail.ext).0

      pub all-carried : all_of F' ≡ carry_b (seen F) μ φ
      unfolding all_of localized derived
      all-carried = ((body μ match (λ cs. Unit {0}) (no_room ctx fin μ) (λ k. false) (λ k l. refl)).carry tail.ext).0

      -- what holds of the cells of a derived body part by part
      pub body-laid : (L : Cells → Type 0) → Room L ctx fin μ → L (flat_b F'.body)
      unfolding localized derived
      body-laid L room = ((body μ match L room (λ k. false) (λ k l. refl)).carry tail.ext).2

      -- (4) no Emit of the derived function holds an initialiser expression
      pub nothing_dropped : all_of F' ≡ seen F'
      nothing_dropped = all-carried ∙ sym body-carried

      -- THE DERIVED FUNCTION AGREES WITH ITS SOURCE
      pub agrees : Agrees M M' μ F F' φ
      agrees = record {
        body = body-carried;
        records = λ e m. record_alike e (mem_all _ m mentions_mapped);
        apart = λ e d m n q. shares e d (mem_all _ m mentions_mapped) (mem_all _ n mentions_mapped) q;
      }

      -- and passes test 6 again
      pub scoped_again : scoped F ≡ true → initialised F ≡ true → scoped F' ≡ true
      unfolding scoped
      scoped_again h i = rw nothing_dropped (carries_scope M M' μ F F' φ agrees (unfold scoped in h) i)

    -- (4) references of the derived expressions are in range, and operands lower
    pub derived_low : (k : ℕ) → k < length F'.exprs → AllN (LowN fin.out k) (refs (get_or F'.exprs k []))
    unfolding localized derived
    derived_low k h = holds.low k h

    ops-made : (e : ℕ) → ops F'.exprs (φ e) ≡ map φ (ops xs e) → ops_of (get_or fin.made (φ e) []) ≡ map φ (ops xs e)
    unfolding ops localized derived
    ops-made e h = h

    -- test 4 of the derived expressions
    derived-lower : (k : ℕ) → k < length fin.made → All (λ x. x < k) (ops_of (get_or fin.made k []))
    derived-lower k h = go (holds.from k h)
      where
        low_own : (p : Place) (n : ℕ) → Low fin.out k p (pred (mapped_to M fin p n)) → OwnP (λ x. φ x < k) p n
        low_own (table t) n l = unfold OwnP in tt
        low_own own n l = unfold OwnP place in (unfold Low mapped_to in l)
        low_own function n l = unfold OwnP in tt

        go : (e : ℕ) × Has fin.memo e × (φ e ≡ k) → All (λ x. x < k) (ops_of (get_or fin.made k []))
        go b =
            let n = holds.found b.0 b.1 in
            let same = ops-same (maps_of (mapped_to M fin)) (maps_match M Q fin) M b.0 b.1 in
            let e : ℕ = b.0 in
            let q : refs (get_or fin.made k []) ≡ map (image (mapped_to M fin)) (refs (get_or xs e [])) =
            ap (λ (t : ℕ). refs (get_or fin.made t [])) (sym b.2) ∙ (refs-alike _ _ n.same ∙ refs-carry (mapped_to M fin) (get_or xs e []) n.ready) in
            let a : AllN (LowN fin.out k) (map (image (mapped_to M fin)) (refs (get_or xs e []))) = rw q at (holds.low k h) in
            let l = ops_own ctx ex (λ x. φ x < k) e (alln-map (refs (get_or xs e [])) (λ j. low_own j.place j.num) (image-all (LowN fin.out k) (image (mapped_to M fin)) (refs (get_or xs e [])) a)) in
            let z : ops_of (get_or fin.made k []) ≡ map φ (ops xs e) = ap (λ (t : ℕ). ops_of (get_or fin.made t [])) (sym b.2) ∙ ops-made e same in
            rw z (all_of_map (λ x. x < k) φ (ops xs e) l)

    pub lower-again : operands_lower F'.exprs 0 ≡ true
    unfolding localized derived
    lower-again = lower_of fin.made 0 (λ e h. all_map (ops_of (get_or fin.made e [])) (λ x l. omega arith) (derived-lower e h))

    -- test 3: what the body reads and evaluates is in range, and initialisers reach only the kinds that they may
    pub mentions_in : All (λ e. φ e < length F'.exprs) (mentioned F)
    unfolding localized derived
    mentions_in = all_map (mentioned F) (λ e h. (holds.found e h).below) mentions_mapped

    pub initialised-again : initialised F ≡ true → initialised F' ≡ true
    initialised-again i = initialised-all F' (λ k l r. go k (reach_back (maps_of (mapped_to M fin)) (maps_match M Q fin) M r))
      where
        go : (k : ℕ) → (e : ℕ) × R e × (φ e ≡ k) → constant_kind (kind_at F'.exprs k) ≡ true
        go k b =
            let h = ext_has M grows b.0 (reach_has b.1) in
            let q : kind_at F'.exprs (φ b.0) ≡ kind_at xs b.0 = unfold kind_at in alike-kind (maps_of (mapped_to M fin)) φ M M (record_alike (maps_of (mapped_to M fin)) (maps_match M Q fin) M b.0 h) in
            rw (← b.2, q) (initialised_is F i b.0 (here b.0 h) b.1)
          where
            here : (e : ℕ) → Has fin.memo e → e < length xs
            here e h = elim (dec_lt e (length xs)) [ yes l ↦ l | no l ↦ absurd (omega (arith, get_or-eq_default fin.memo 0 {n = e} (omega (arith, holds.size)))) ]
