-- From bodies to functions: the tests of `scoped` taken apart, what intake's refusal 3 adds, and the parts of agreement put to use.
use Rattle.std.specs.Prelude.{◌≡◌, Bool, true, false, ◌&&◌, ℕ, zero, suc, ◌<◌, ltb, leb, length}
use Rattle.std.proofs.Math.Path.{ap}
use Rattle.std.proofs.Common.{sym, ◌∙◌, subst, arith, ltb-true, ltb-false, leb-true}
use Rattle.std.proofs.Math.Logic.{⊎_elim}
use Rattle.std.proofs.Math.Bool.{false≢true}
use mathlib.Core.List.{List, [], ◌∷◌}
use Rattle.std.proofs.Math.Option.{some}
use Rattle.std.proofs.Math.ListN.{get_elem?, get_or-eq_default}
use Rattle.theory_lists.specs.Booleans.{Yes, and_first, and_second, and-true, or_cases, by}
use Rattle.model.specs.Table.{expressions}
use Rattle.model.specs.Outcome.{Cells}
use Rattle.model.specs.Tree.{Function, Entry}
use Rattle.model.specs.Module.{Module}
use Rattle.model.specs.Operands.{kind, standing_kind, result_kind, emitted_kind, constant_kind, ops, kind_at, standing}
use Rattle.model.specs.Initial.{Mem, marked, initials, initial, initialised}
use Rattle.theory_image.specs.Reached.{initial_is, initialised_is}
use Rattle.model.specs.Scope.{XBlock, in_body, shape_b, kinds_b, distinct, evals_b, ok_b, all_of, seen, scoped_as, scoped, all_scoped, entries_scoped}
use Rattle.model.specs.Walk.{walk}
use Rattle.theory_walks.specs.Members.{Each, each_none}
use Rattle.theory_walks.specs.Reads.{Sound}
use Rattle.theory_walks.specs.Agreement.{Maps, mentioned, MayShare, Agrees}
use Rattle.theory_walks.specs.SoundProof.{body-sound}
use Rattle.theory_walks.proofs.AgreementProof.{alike-ops, alike-kind, alike-function}
use Rattle.theory_walks.proofs.ScopeProof.{Kept, ok_b_carry}
use Rattle.theory_walks.specs.ExpandProof.{part-distinct, part_b, kinds_b_drop, Evaluated, emits, results, evaluated_b}
use Rattle.theory_walks.specs.MentionProof.{mention_b, is_b}
use Rattle.theory_walks.proofs.KeptProof.{Kinds, Apart, shape_b_carry, evals_b_carry, distinct-carry, kinds_b_carry}

-- ---- the tests of a function
record Rules (all b : XBlock) (xs : List Cells) : Type 0 where
  shape : Yes (shape_b b in_body)
  kinds : Yes (kinds_b all xs)
  once : Yes (distinct (evals_b all))
  reads : Yes (ok_b b xs [])

rules : (all b : XBlock) (xs : List Cells) → Yes (scoped_as all b xs) → Rules all b xs
unfolding scoped_as
rules all b xs h =
    let h₁ = and_second (shape_b b in_body) _ h in
    let h₂ = and_second (kinds_b all xs) _ h₁ in
    record { shape = and_first (shape_b b in_body) _ h; kinds = and_first (kinds_b all xs) _ h₁; once = and_first (distinct (evals_b all)) _ h₂; reads = and_second (distinct (evals_b all)) _ h₂ }

scoped_of : (all b : XBlock) (xs : List Cells) → Rules all b xs → Yes (scoped_as all b xs)
unfolding scoped_as
scoped_of all b xs r = and-true r.shape (and-true r.kinds (and-true r.once r.reads))

-- ---- kinds
result_stands : (k : ℕ) → result_kind k ≡ true → standing_kind k ≡ true → ⊥
unfolding result_kind standing_kind
result_stands k h s =
    let a = leb-true 23 k (and_first (leb 23 k) _ h) in
    ⊎_elim (λ q. let b = leb-true k 3 q in omega arith) (λ q. let b = leb-true k 11 (and_second (leb 9 k) _ q) in omega arith) (or_cases (leb k 3) _ s)

result_constant : (k : ℕ) → result_kind k ≡ true → constant_kind k ≡ true → ⊥
unfolding result_kind constant_kind
result_constant k h s =
    let a = leb-true 23 k (and_first (leb 23 k) _ h) in
    ⊎_elim (λ q. let b = leb-true k 8 q in omega arith)
    (λ t. ⊎_elim (λ q. let b = leb-true k 18 (and_second (leb 16 k) _ q) in omega arith) (λ q. let b = leb-true k 22 (and_second (leb 20 k) _ q) in omega arith) (or_cases (leb 16 k && leb k 18) _ t))
    (or_cases (leb k 8) _ s)

emitted-stands : (k : ℕ) → emitted_kind k ≡ true → standing_kind k ≡ true → ⊥
unfolding emitted_kind
emitted-stands k h s = go (standing_kind k) s h
  where
    go : (t : Bool) → t ≡ true → elim t [ true ↦ false | false ↦ elim (result_kind k) [ true ↦ false | false ↦ true ] ] ≡ true → ⊥
    go true q h = false≢true h
    go false q h = false≢true q

-- a result is in the table
result_inside : (xs : List Cells) (e : ℕ) → result_kind (kind_at xs e) ≡ true → e < length xs
unfolding result_kind kind_at kind expressions
result_inside xs e h = by _ (ltb e (length xs)) (ltb-true e (length xs)) (λ q. absurd (false≢true (rw (get_or-eq_default xs [] (ltb-false e (length xs) q)) at h)))

-- ---- one function that passes
module _ (F : Function) (h : scoped F ≡ true) where
  the_rules : Rules (all_of F) (seen F) F.exprs
  unfolding scoped
  the_rules = rules _ _ _ h

  pub function-sound : (cs : List ℕ) → Sound (standing F.exprs) (walk F cs) []
  unfolding walk
  function-sound cs = body-sound F.exprs (seen F) the_rules.reads cs

  abbrev drop : ℕ → Bool
  drop = marked (initials F)

  seen_kinds : Yes (kinds_b (seen F) F.exprs)
  unfolding seen all_of
  seen_kinds = kinds_b_drop drop F.exprs F.body the_rules.kinds

  seen-once : Yes (distinct (evals_b (seen F)))
  unfolding seen all_of
  seen-once = part-distinct (part_b drop F.body) the_rules.once

  evaluated : Each (Evaluated drop F.exprs) (evals_b (seen F))
  unfolding seen
  evaluated = evaluated_b drop F.exprs F.body seen_kinds

  -- what is evaluated is not standing
  moves : (e : ℕ) → Mem e (evals_b (seen F)) → standing F.exprs e ≡ true → ⊥
  unfolding standing
  moves e m s = go (evaluated e m)
    where
      go : Evaluated drop F.exprs e → ⊥
      go (emits k d) = emitted-stands _ k s
      go (results k) = result_stands _ k s

  -- "initialisers of locals reach only those kinds" (3)
  module _ (i : initialised F ≡ true) where
    no_initial : (e : ℕ) → Mem e (evals_b (seen F)) → initial F e ≡ true → ⊥
    unfolding initial
    no_initial e m q = go (evaluated e m)
      where
        go : Evaluated drop F.exprs e → ⊥
        go (emits k d) = false≢true (sym d ∙ q)
        go (results k) = result_constant _ k (initialised_is F i e (result_inside F.exprs e k) (initial_is F e q).0)

    pub function-unread : (e : ℕ) → Mem e (mentioned F) → initial F e ≡ false
    unfolding mentioned
    function-unread =
        is_b F.exprs (λ e. initial F e ≡ false)
        (λ e s. by _ (initial F e) (λ q. absurd (false≢true (sym (initial_is F e q).1 ∙ s))) (λ q. q))
        (seen F) [] (each_none _) (λ e m. by _ (initial F e) (λ q. absurd (no_initial e m q)) (λ q. q)) the_rules.reads

-- ---- two functions that agree
module _ (M M' : Module) (μ : Maps) (F F' : Function) (f : ℕ → ℕ) (a : Agrees M M' μ F F' f) (h : scoped F ≡ true) where
  kept : Each (Kept μ f F.exprs F'.exprs) (mentioned F)
  unfolding standing kind_at ops
  kept e m = record { same = alike-ops μ f M M' (a.records e m); stands = λ s. ap standing_kind (alike-kind μ f M M' (a.records e m)) ∙ s }

  target-reads : Yes (ok_b (seen F') F'.exprs [])
  unfolding mentioned
  target-reads = rw a.body (ok_b_carry μ f F.exprs F'.exprs (seen F) [] kept (the_rules F h).reads)

  pub agreed_sound : (cs : List ℕ) → Sound (standing F'.exprs) (walk F' cs) []
  unfolding walk
  agreed_sound cs = body-sound F'.exprs (seen F') target-reads cs

  module _ (i : initialised F ≡ true) where
    -- what is evaluated is neither standing nor an initialiser expression
    own : (e : ℕ) → Mem e (evals_b (seen F)) → MayShare F e → ⊥
    own e m s = ⊎_elim (moves F h e m) (no_initial F h i e m) s

    apart : Apart μ f (evals_b (seen F))
    unfolding mentioned
    apart e d m n q = ⊎_elim (λ p. p) (λ s. absurd (own e m s.0)) (a.apart e d (mention_b F.exprs (seen F) m) (mention_b F.exprs (seen F) n) q)

    kinds : Each (Kinds μ f F.exprs F'.exprs) (evals_b (seen F))
    unfolding mentioned kind_at
    kinds e m =
        let r = a.records e (mention_b F.exprs (seen F) m) in
        record { kind = alike-kind μ f M M' r; callee = alike-function μ f M M' r }

    pub agreed_scope : scoped_as (seen F') (seen F') F'.exprs ≡ true
    agreed_scope = scoped_of _ _ _ (record {
      shape = rw a.body (shape_b_carry μ f (seen F) in_body ∙ (the_rules F h).shape);
      kinds = rw a.body (kinds_b_carry μ f F.exprs F'.exprs (seen F) kinds (seen_kinds F h));
      once = rw (a.body, evals_b_carry μ f (seen F)) (distinct-carry μ f (evals_b (seen F)) apart (seen-once F h));
      reads = target-reads;
    })

-- ---- all functions of a module
pub scoped_at : (Fs : List Function) → all_scoped Fs ≡ true → (i : ℕ) (F : Function) → get_elem? Fs i ≡ some F → scoped F ≡ true
unfolding all_scoped
scoped_at [] h i F q = absurd (let z : ◌≡◌ {A = ℕ} 0 1 = cc in omega arith)
scoped_at (G ∷ Fs) h zero F q = let p : G ≡ F = cc in subst (λ x. scoped x ≡ true) p (and_first (scoped G) _ h)
scoped_at (G ∷ Fs) h (suc i) F q = scoped_at Fs (and_second (scoped G) _ h) i F q

pub entry_at : (es : List Entry) → entries_scoped es ≡ true → (i : ℕ) (E : Entry) → get_elem? es i ≡ some E → scoped E.function ≡ true
unfolding entries_scoped
entry_at [] h i E q = absurd (let z : ◌≡◌ {A = ℕ} 0 1 = cc in omega arith)
entry_at (D ∷ es) h zero E q = let p : D ≡ E = cc in subst (λ x. scoped x.function ≡ true) p (and_first (scoped D.function) _ h)
entry_at (D ∷ es) h (suc i) E q = entry_at es (and_second (scoped D.function) _ h) i E q
