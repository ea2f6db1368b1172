-- The functions that a body calls, as walks see it. They are the callees of the stored body, and where two functions agree, those of the second are those of the first, carried.
use Rattle.std.specs.Prelude.{◌≡◌, refl, Bool, List, [], ◌∷◌, ◌++◌, map, ℕ}
use Rattle.std.proofs.Common.{sym, ap, ap₂, ◌∙◌}
use Rattle.theory_lists.specs.Lists.{map-append}
use Rattle.model.specs.Tree.{Stmt, Form, Block, Cases, Case, stmt, emit, block, branch, switch, loop, break, continue, return, kill, call, effect, end, ◌then◌, nomore, ◌also◌, case, Range, Function}
use Rattle.model.specs.Module.{Module}
use Rattle.model.specs.Scope.{XStmt, XForm, XBlock, XCase, XCases, expand_s, expand_f, expand, expand_k, expand_c, seen}
use Rattle.model.specs.Callees.{callees_s, callees_f, callees_b, callees_k, callees_c, callees}
use Rattle.theory_walks.specs.Agreement.{Maps, Agrees, carry_s, carry_f, carry_b, carry_k, carry_c}

-- ---- the functions that a body calls, as walks see it
unfoldable mutual
  pub called_s : XStmt → List ℕ
  called_s (stmt a b f) = called_f f

  pub called_f : XForm → List ℕ
  called_f (emit es) = []
  called_f (block b) = called_b b
  called_f (branch c a b) = called_b a ++ called_b b
  called_f (switch c ks) = called_c ks
  called_f (loop a b o) = called_b a ++ called_b b
  called_f break = []
  called_f continue = []
  called_f (return o) = []
  called_f kill = []
  called_f (call f xs r) = f ∷ []
  called_f (effect k cs) = []

  pub called_b : XBlock → List ℕ
  called_b end = []
  called_b (s then b) = called_s s ++ called_b b

  pub called_k : XCase → List ℕ
  called_k (case v b f) = called_b b

  pub called_c : XCases → List ℕ
  called_c nomore = []
  called_c (k also ks) = called_k k ++ called_c ks

module _ (drop : ℕ → Bool) where
  mutual
    unfolding called_s expand_s callees_s

    same_s_lem : (s : Stmt Range) → called_s (expand_s s drop) ≡ callees_s s
    same_s_lem (stmt a b f) = same-f f

    same-f : (f : Form Range) → called_f (expand_f f drop) ≡ callees_f f
    same-f (emit r) = refl
    same-f (block b) = same-b b
    same-f (branch c a b) = ap₂ ◌++◌ (same-b a) (same-b b)
    same-f (switch c ks) = same-c ks
    same-f (loop a b o) = ap₂ ◌++◌ (same-b a) (same-b b)
    same-f break = refl
    same-f continue = refl
    same-f (return o) = refl
    same-f kill = refl
    same-f (call f xs r) = refl
    same-f (effect k cs) = refl

    same-b : (b : Block Range) → called_b (expand b drop) ≡ callees_b b
    same-b end = refl
    same-b (s then b) = ap₂ ◌++◌ (same_s_lem s) (same-b b)

    same-k : (k : Case Range) → called_k (expand_k k drop) ≡ callees_k k
    same-k (case v b f) = same-b b

    same-c : (ks : Cases Range) → called_c (expand_c ks drop) ≡ callees_c ks
    same-c nomore = refl
    same-c (k also ks) = ap₂ ◌++◌ (same-k k) (same-c ks)

module _ (μ : Maps) (f : ℕ → ℕ) where
  both : (xs ys xs' ys' : List ℕ) → xs' ≡ map μ.function xs → ys' ≡ map μ.function ys → xs' ++ ys' ≡ map μ.function (xs ++ ys)
  both xs ys xs' ys' p q = ap₂ ◌++◌ p q ∙ sym (map-append μ.function xs ys)

  mutual
    unfolding called_s carry_s

    carried_s : (s : XStmt) → called_s (carry_s s μ f) ≡ map μ.function (called_s s)
    carried_s (stmt a b x) = carried-f x

    carried-f : (x : XForm) → called_f (carry_f x μ f) ≡ map μ.function (called_f x)
    carried-f (emit es) = refl
    carried-f (block b) = carried-b b
    carried-f (branch c a b) = both (called_b a) (called_b b) (called_b (carry_b a μ f)) (called_b (carry_b b μ f)) (carried-b a) (carried-b b)
    carried-f (switch c ks) = carried-c ks
    carried-f (loop a b o) = both (called_b a) (called_b b) (called_b (carry_b a μ f)) (called_b (carry_b b μ f)) (carried-b a) (carried-b b)
    carried-f break = refl
    carried-f continue = refl
    carried-f (return o) = refl
    carried-f kill = refl
    carried-f (call h xs r) = refl
    carried-f (effect k cs) = refl

    carried-b : (b : XBlock) → called_b (carry_b b μ f) ≡ map μ.function (called_b b)
    carried-b end = refl
    carried-b (s then b) = both (called_s s) (called_b b) (called_s (carry_s s μ f)) (called_b (carry_b b μ f)) (carried_s s) (carried-b b)

    carried-k : (k : XCase) → called_k (carry_k k μ f) ≡ map μ.function (called_k k)
    carried-k (case v b t) = carried-b b

    carried-c : (ks : XCases) → called_c (carry_c ks μ f) ≡ map μ.function (called_c ks)
    carried-c nomore = refl
    carried-c (k also ks) = both (called_k k) (called_c ks) (called_k (carry_k k μ f)) (called_c (carry_c ks μ f)) (carried-k k) (carried-c ks)

-- what is called is what document 01 calls callees
pub called_is : (F : Function) → called_b (seen F) ≡ callees F
unfolding seen
called_is F = same-b _ F.body

-- CALLEES ARE CARRIED where functions agree
pub callees-carried : (M M' : Module) (μ : Maps) (F F' : Function) (f : ℕ → ℕ) → Agrees M M' μ F F' f → callees F' ≡ map μ.function (callees F)
unfolding seen
callees-carried M M' μ F F' f a = sym (same-b _ F'.body) ∙ ap called_b a.body ∙ carried-b μ f _ ∙ ap (map μ.function) (same-b _ F.body)
