-- Agreement in full is agreement as walks need it, of functions and of modules; and a target in scope, whole.
use Rattle.std.specs.Prelude.{◌≡◌, Bool, true, false, ltb, length, get_or}
use Rattle.std.proofs.Math.Path.{refl, ap, subst}
use Rattle.std.proofs.Common.{sym, ◌∙◌, arith}
use mathlib.Core.List.{List, [], ◌∷◌}
use Rattle.std.proofs.Math.Option.{some}
use Prim.Native.Nat.{ℕ, zero, suc, ◌<◌, pred}
use Rattle.std.proofs.Math.ListN.{get_elem?}
use Rattle.theory_lists.specs.Booleans.{and_first, and_second, and-true}
use Rattle.model.specs.Outcome.{Cells}
use Rattle.model.specs.Tree.{Stmt, Form, Block, Case, Cases, stmt, emit, block, branch, switch, loop, break, continue, return, kill, call, effect, end, ◌then◌, case, nomore, ◌also◌, Range, Function, Entry}
use Rattle.model.specs.Module.{Module}
use Rattle.model.specs.Carry.{Each as All, each_next, OkB, WellFormed}
use Rattle.model.specs.Operands.{ops}
use Rattle.model.specs.Initial.{here, there, initial, initialised}
use Rattle.theory_image.specs.Members.{mem_left, mem_right}
use Rattle.model.specs.Numbers.{Bounds, within, ordered, every, outside, inside, sound, sound_function, sound_entry, constant_only, numbered}
use Rattle.model.specs.Scope.{in_range, live, evals_s, evals_f, evals_b, evals_k, evals_c, expand_s, expand_f, expand, expand_k, expand_c, all_of, seen, scoped_as, scoped, all_scoped, entries_scoped, in_scope}
use Rattle.model.specs.Agreement.{Mapping, body_of, agrees_r, stands}
use Rattle.model.specs.Agreement as Whole
use Rattle.theory_walks.specs.Members.{Each}
use Rattle.theory_walks.specs.Agreement.{mentioned, Agrees, Agreement}
use Rattle.theory_walks.proofs.FunctionProof.{agreed_scope, scoped_at, entry_at}
use Rattle.theory_walks.specs.WholeWords.{made, to}
use Rattle.theory_walks.proofs.WholeWords.{record_with}
use Rattle.theory_walks.proofs.WholeBody.{Kept, ops-kept, body_walks}

-- ---- functions
module _ (M M' : Module) (μ : Mapping) (o : List ℕ) (F F' : Function) (a : Whole.Agrees M M' μ o F F') where
  kept_agrees : (e k : ℕ) → get_or o e 0 ≡ suc k → agrees_r M M' μ o (get_or F.exprs e []) (get_or F'.exprs k []) ≡ true
  unfolding stands
  kept_agrees e k q = and_second (ltb k (length F'.exprs)) _ (a.kept e k q)

  kept-reads : (e : ℕ) → Kept M M' μ o e → Each (Kept M M' μ o) (ops F.exprs e)
  unfolding ops
  kept-reads e q = ops-kept M M' μ o (get_or F.exprs e []) (get_or F'.exprs q.0 []) (kept_agrees e q.0 q.1)

  module _ {d d' : ℕ} (p : OkB d F.body) (p' : OkB d' F'.body) where
    pub mentions_kept : Each (Kept M M' μ o) (mentioned F)
    unfolding mentioned seen initial body_of
    mentions_kept = (body_walks M M' μ o F.exprs kept-reads (initial F) (initial F') F.body F'.body p p' a.body).1

    pub function_walks : Agrees M M' (made μ) F F' (to o)
    unfolding seen initial body_of to
    function_walks = record {
      body = (body_walks M M' μ o F.exprs kept-reads (initial F) (initial F') F.body F'.body p p' a.body).0;
      records = λ e m. let q = mentions_kept e m in record_with M M' μ o (get_or F.exprs e []) (get_or F'.exprs (to o e) []) (subst (λ k. agrees_r M M' μ o (get_or F.exprs e []) (get_or F'.exprs k []) ≡ true) (ap pred (sym q.1)) (kept_agrees e q.0 q.1));
      apart = λ e d m n z. let q = mentions_kept e m in let r = mentions_kept d n in
          let y : q.0 ≡ r.0 = ap pred (sym q.1) ∙ z ∙ ap pred r.1 in
          a.apart e d q.0 q.1 (r.1 ∙ ap suc (sym y));
    }

-- ---- modules, of which reading an image gives such as are well formed
all-at : {A : Type 0} {P : A → Type 0} (l : List A) → All P l → (i : ℕ) (x : A) → get_elem? l i ≡ some x → P x
all-at [] h i x q = absurd (let z : ◌≡◌ {A = ℕ} 0 1 = cc in omega arith)
all-at {P = P} (y ∷ l) (each_next p h) zero x q = let z : y ≡ x = cc in subst P z p
all-at (y ∷ l) (each_next p h) (suc i) x q = all-at l h i x q

pub module_walks : (M M' : Module) (μ : Mapping) → WellFormed M → WellFormed M' → Whole.Agreement M M' μ → Agreement M M' (made μ)
unfolding made to
module_walks M M' μ w w' a = record {
  functions = λ i F q. let r = a.functions i F q in (
    r.1,
    subst (λ j. get_elem? M'.functions j ≡ some r.1) (ap pred (sym r.2)) r.3,
    function_walks M M' μ (get_or μ.in_functions i []) F r.1 r.4 (all-at M.functions w.functions_ok.each i F q).body_ok (all-at M'.functions w'.functions_ok.each r.0 r.1 r.3).body_ok,
  );
  entries = λ i E q. let r = a.entries i E q in (
    r.0,
    r.1,
    function_walks M M' μ (get_or μ.in_entries i []) E.function r.0.function r.3 (all-at M.entries w.entries_ok.each i E q).function-ok.body_ok (all-at M'.entries w'.entries_ok.each i r.0 r.1).function-ok.body_ok,
  );
}

-- ---- scope, whole: where no Emit holds an initialiser expression, nothing is left out
module _ (drop : ℕ → Bool) where
  abbrev Stays : List ℕ → Type 0
  Stays es = Each (λ e. drop e ≡ false) es

  live_all : (es : List ℕ) → Stays (live es (λ e. false)) → live es drop ≡ live es (λ e. false)
  unfolding live
  live_all [] f = refl
  live_all (e ∷ es) f = rw (live, f e here) (ap (e ∷◌) (live_all es (λ d m. f d (there m))))

  mutual
    unfolding expand_s evals_s

    stay_s : (s : Stmt Range) → Stays (evals_s (expand_s s (λ e. false))) → expand_s s drop ≡ expand_s s (λ e. false)
    stay_s (stmt a b f) h = ap (stmt 0 0) (stay_f f h)

    stay_f : (f : Form Range) → Stays (evals_f (expand_f f (λ e. false))) → expand_f f drop ≡ expand_f f (λ e. false)
    stay_f (emit r) h = ap emit (live_all (in_range r) h)
    stay_f (block b) h = ap block (stay_b b h)
    stay_f (branch c a b) h = let p = stay_b a (λ e m. h e (mem_left _ m)) in let q = stay_b b (λ e m. h e (mem_right (evals_b (expand a (λ e. false))) m)) in cc
    stay_f (switch c ks) h = ap (switch c) (stay_c ks h)
    stay_f (loop a b x) h = let p = stay_b a (λ e m. h e (mem_left _ m)) in let q = stay_b b (λ e m. h e (mem_right (evals_b (expand a (λ e. false))) m)) in cc
    stay_f break h = refl
    stay_f continue h = refl
    stay_f (return x) h = refl
    stay_f kill h = refl
    stay_f (call f xs r) h = refl
    stay_f (effect k cs) h = refl

    stay_b : (b : Block Range) → Stays (evals_b (expand b (λ e. false))) → expand b drop ≡ expand b (λ e. false)
    stay_b end h = refl
    stay_b (s then b) h = let p = stay_s s (λ e m. h e (mem_left _ m)) in let q = stay_b b (λ e m. h e (mem_right (evals_s (expand_s s (λ e. false))) m)) in cc

    stay_k : (k : Case Range) → Stays (evals_k (expand_k k (λ e. false))) → expand_k k drop ≡ expand_k k (λ e. false)
    stay_k (case v b f) h = let p = stay_b b h in cc

    stay_c : (ks : Cases Range) → Stays (evals_c (expand_c ks (λ e. false))) → expand_c ks drop ≡ expand_c ks (λ e. false)
    stay_c nomore h = refl
    stay_c (k also ks) h = let p = stay_k k (λ e m. h e (mem_left _ m)) in let q = stay_c ks (λ e m. h e (mem_right (evals_k (expand_k k (λ e. false))) m)) in cc

pub nothing_left : (F : Function) → Each (λ e. initial F e ≡ false) (evals_b (all_of F)) → seen F ≡ all_of F
unfolding seen all_of initial
nothing_left F h = stay_b (initial F) F.body h

-- "the source's passing test 6" (and of 3, that initialisers reach only constant kinds), agreement, and that no Emit of the target holds an initialiser expression of the target
pub scope_whole : (M M' : Module) (μ : Mapping) (o : List ℕ) (F F' : Function) {d d' : ℕ} → OkB d F.body → OkB d' F'.body → Whole.Agrees M M' μ o F F' → scoped F ≡ true → initialised F ≡ true → seen F' ≡ all_of F' → scoped F' ≡ true
unfolding scoped
scope_whole M M' μ o F F' p p' a h i q =
    subst (λ b. scoped_as b (seen F') F'.exprs ≡ true) q (agreed_scope M M' (made μ) F F' (to o) (function_walks M M' μ o F F' a p p') h i)

-- ---- every function and every entry point of the target
abbrev pub Plain : Module → Type 0
Plain M = ((j : ℕ) (F : Function) → get_elem? M.functions j ≡ some F → seen F ≡ all_of F) × ((j : ℕ) (E : Entry) → get_elem? M.entries j ≡ some E → seen E.function ≡ all_of E.function)

at-inside : {A : Type 0} (l : List A) (i : ℕ) (x : A) → get_elem? l i ≡ some x → i < length l
at-inside [] i x q = absurd (let z : ◌≡◌ {A = ℕ} 0 1 = cc in omega arith)
at-inside (y ∷ l) zero x q = omega arith
at-inside (y ∷ l) (suc i) x q = let z = at-inside l i x q in omega (arith, z)

inside-at : {A : Type 0} (l : List A) (i : ℕ) → i < length l → (x : A) × (get_elem? l i ≡ some x)
inside-at [] i h = absurd (omega (arith, h))
inside-at (y ∷ l) zero h = (y, refl)
inside-at (y ∷ l) (suc i) h = inside-at l i (omega (arith, h))

functions_scoped_lem : (Fs : List Function) → ((j : ℕ) (F : Function) → get_elem? Fs j ≡ some F → scoped F ≡ true) → all_scoped Fs ≡ true
unfolding all_scoped
functions_scoped_lem [] h = refl
functions_scoped_lem (F ∷ Fs) h = and-true {a = scoped F} (h 0 F refl) (functions_scoped_lem Fs (λ j G q. h (suc j) G q))

entries_scoped_lem : (Es : List Entry) → ((j : ℕ) (E : Entry) → get_elem? Es j ≡ some E → scoped E.function ≡ true) → entries_scoped Es ≡ true
unfolding entries_scoped
entries_scoped_lem [] h = refl
entries_scoped_lem (E ∷ Es) h = and-true {a = scoped E.function} (h 0 E refl) (entries_scoped_lem Es (λ j G q. h (suc j) G q))

-- the part of test 3 that is needed
pub record Initialised (M : Module) : Type 0 where
  pub in_functions_lem : (i : ℕ) (F : Function) → get_elem? M.functions i ≡ some F → initialised F ≡ true
  pub in_entries_lem : (i : ℕ) (E : Entry) → get_elem? M.entries i ≡ some E → initialised E.function ≡ true

every-at : {A : Type 0} (p : A → Bool) (l : List A) → every p l ≡ true → (i : ℕ) (x : A) → get_elem? l i ≡ some x → p x ≡ true
unfolding every
every-at p [] h i x q = absurd (let z : ◌≡◌ {A = ℕ} 0 1 = cc in omega arith)
every-at p (y ∷ l) h zero x q = let z : y ≡ x = cc in subst (λ w. p w ≡ true) z (and_first (p y) _ h)
every-at p (y ∷ l) h (suc i) x q = every-at p l (and_second (p y) _ h) i x q

sound-initialised : (b : Bounds) (F : Function) (cs : Cells) → sound b F cs ≡ true → initialised F ≡ true
unfolding sound
sound-initialised b F cs h = and_second (ordered cs) _ (and_second (within (inside b F) cs) _ h)

pub numbered-initialised : (M : Module) → numbered M ≡ true → Initialised M
unfolding numbered
numbered-initialised M h =
    let h₁ = and_second (every (within (outside M)) M.types) _ h in
    let h₂ = and_second (every (within (outside M)) M.constants) _ h₁ in
    let h₃ = and_second (every (within (outside M)) M.overrides) _ h₂ in
    let h₄ = and_second (every (within (outside M)) M.globals) _ h₃ in
    let h₅ = and_second (every (within (outside M)) M.exprs) _ h₄ in
    let h₆ = and_second (every constant_only M.exprs) _ h₅ in
    let h₇ = and_second (every (sound_function (outside M)) M.functions) _ h₆ in
    record {
      in_functions_lem = λ i F q. sound-initialised (outside M) F _ (every-at (sound_function (outside M)) M.functions (and_first (every (sound_function (outside M)) M.functions) _ h₆) i F q);
      in_entries_lem = λ i E q. sound-initialised (outside M) E.function _ (every-at (sound_entry (outside M)) M.entries (and_first (every (sound_entry (outside M)) M.entries) _ h₇) i E q);
    }

module _ (M M' : Module) (μ : Mapping) (w : WellFormed M) (w' : WellFormed M') (a : Whole.Agreement M M' μ) (s : in_scope M ≡ true) (i : Initialised M) (n : Plain M') where
  target-function : (j : ℕ) (F' : Function) → get_elem? M'.functions j ≡ some F' → scoped F' ≡ true
  unfolding in_scope
  target-function j F' q =
      let b = a.onto j (at-inside M'.functions j F' q) in
      let r = a.functions b.0 b.1 b.2 in
      let z : r.0 ≡ j = (let x = r.2 in let y = b.3 in omega (arith, x, y)) in
      let q₁ : get_elem? M'.functions r.0 ≡ some F' = rw z q in
      let y : r.1 ≡ F' = (let x = r.3 in cc) in
      subst (λ G. scoped G ≡ true) y
      (scope_whole M M' μ (get_or μ.in_functions b.0 []) b.1 r.1 (all-at M.functions w.functions_ok.each b.0 b.1 b.2).body_ok (all-at M'.functions w'.functions_ok.each r.0 r.1 r.3).body_ok r.4
      (scoped_at M.functions (and_first (all_scoped M.functions) _ s) b.0 b.1 b.2) (i.in_functions_lem b.0 b.1 b.2) (n.0 r.0 r.1 r.3))

  target-entry : (j : ℕ) (E' : Entry) → get_elem? M'.entries j ≡ some E' → scoped E'.function ≡ true
  unfolding in_scope
  target-entry j E' q =
      let l = at-inside M'.entries j E' q in
      let e = a.no_entry_added in
      let b = inside-at M.entries j (omega (arith, l, e)) in
      let r = a.entries j b.0 b.1 in
      let y : r.0 ≡ E' = (let x = r.1 in cc) in
      subst (λ G. scoped G.function ≡ true) y
      (scope_whole M M' μ (get_or μ.in_entries j []) b.0.function r.0.function (all-at M.entries w.entries_ok.each j b.0 b.1).function-ok.body_ok (all-at M'.entries w'.entries_ok.each j r.0 r.1).function-ok.body_ok r.3
      (entry_at M.entries (and_second (all_scoped M.functions) _ s) j b.0 b.1) (i.in_entries_lem j b.0 b.1) (n.1 j r.0 r.1))

  pub target_in_scope : in_scope M' ≡ true
  unfolding in_scope
  target_in_scope = and-true {a = all_scoped M'.functions} (functions_scoped_lem M'.functions target-function) (entries_scoped_lem M'.entries target-entry)
