-- WRONG ANSWERS OF wuldgisp_intake, wuldgisp_order AND wuldgisp_redirect, on document 01's marked cases P5, P6 and P8: each contradicts what the function promises, so no program that gives it is proved. The right answers are computed in Answers.antt.
use Rattle.std.specs.Prelude.{◌≡◌, List, [], ◌∷◌, ℕ, suc, ◌+◌, ◌*◌, get_or}
use Rattle.std.proofs.Common.{sym, ap, ◌∙◌, arith}
use Rattle.model.specs.Image.{wuldgisp_order, IntakeEnsures, OrderEnsures, RedirectEnsures}
use Rattle.wuldgisp_refuted.specs.Answers.{p5, p6, p8, twice, p6_accepted, twice_refused, p5-ordered, p8_left, p6-called, p6_redirected, p6_answered}

-- ---- intake
-- one that refuses P6, whatever the number
pub not_refused : (k : ℕ) → IntakeEnsures (suc k) p6 → ⊥
not_refused k a = let e : suc k ≡ 0 = a.answer ∙ p6_accepted in absurd (omega arith)

-- one that accepts P6 with two functions of one name, or takes it for a wrong number
pub not_accepted : IntakeEnsures 0 twice → ⊥
not_accepted a = let e : ◌≡◌ {A = ℕ} 0 5 = a.answer ∙ twice_refused in absurd (omega arith)

pub not_number : IntakeEnsures 3 twice → ⊥
not_number a = let e : ◌≡◌ {A = ℕ} 3 5 = a.answer ∙ twice_refused in absurd (omega arith)

-- ---- order
-- the depth_first order of P5: b, a, c
pub not_depth_first : (r : ℕ) → OrderEnsures r (9 ∷ 9 ∷ 9 ∷ []) (1 ∷ 0 ∷ 2 ∷ []) p5 → ⊥
not_depth_first r a = let e : ◌≡◌ {A = ℕ} 0 2 = ap (λ l. get_or l 1 0) (a.left ∙ p5-ordered) in absurd (omega arith)

-- the order of the source, and no order at all
pub not_as_given : (r : ℕ) → OrderEnsures r (9 ∷ 9 ∷ 9 ∷ []) (0 ∷ 1 ∷ 2 ∷ []) p5 → ⊥
not_as_given r a = let e : ◌≡◌ {A = ℕ} 0 1 = ap (λ l. get_or l 0 0) (a.left ∙ p5-ordered) in absurd (omega arith)

pub not_left_alone : (r : ℕ) → OrderEnsures r (9 ∷ 9 ∷ 9 ∷ []) (9 ∷ 9 ∷ 9 ∷ []) p5 → ⊥
not_left_alone r a = let e : ◌≡◌ {A = ℕ} 9 1 = ap (λ l. get_or l 0 0) (a.left ∙ p5-ordered) in absurd (omega arith)

-- the order without its last number
pub last_not_copied : (r : ℕ) → OrderEnsures r (9 ∷ 9 ∷ 9 ∷ []) (1 ∷ 2 ∷ 9 ∷ []) p5 → ⊥
last_not_copied r a = let e : ◌≡◌ {A = ℕ} 9 0 = ap (λ l. get_or l 2 0) (a.left ∙ p5-ordered) in absurd (omega arith)

-- of P8 one function left, or all three, or none at all: the refusal without its count
pub not_one_left : (order₀ order : List ℕ) → OrderEnsures (12 + 1 * 4294967296) order₀ order p8 → ⊥
unfolding wuldgisp_order
not_one_left order₀ order a = let e : 12 + 1 * 4294967296 ≡ 8589934604 = a.answer ∙ p8_left in absurd (omega arith)

pub not_three_left : (order₀ order : List ℕ) → OrderEnsures (12 + 3 * 4294967296) order₀ order p8 → ⊥
unfolding wuldgisp_order
not_three_left order₀ order a = let e : 12 + 3 * 4294967296 ≡ 8589934604 = a.answer ∙ p8_left in absurd (omega arith)

pub not_uncounted : (order₀ order : List ℕ) → OrderEnsures 12 order₀ order p8 → ⊥
unfolding wuldgisp_order
not_uncounted order₀ order a = let e : ◌≡◌ {A = ℕ} 12 8589934604 = a.answer ∙ p8_left in absurd (omega arith)

-- P8 ordered, as though its last function called none
pub not_ordered : (order₀ order : List ℕ) → OrderEnsures (3 * 4294967296) order₀ order p8 → ⊥
unfolding wuldgisp_order
not_ordered order₀ order a = let e : 3 * 4294967296 ≡ 8589934604 = a.answer ∙ p8_left in absurd (omega arith)

-- ---- redirecting calls of fog to tone in P6
-- the image unchanged
pub not_unchanged : (r : ℕ) → RedirectEnsures r p6 p6 2 1 [] → ⊥
not_unchanged r a = let e : ◌≡◌ {A = ℕ} 2 1 = sym p6-called ∙ ap (λ l. get_or l 184 0) a.left ∙ p6_redirected in absurd (omega arith)

-- the two functions in the other order, or neither
pub not_swapped : (image : List ℕ) → RedirectEnsures ((1 + 65536 * 2) * 4294967296) p6 image 2 1 [] → ⊥
not_swapped image a = let e : (1 + 65536 * 2) * 4294967296 ≡ 281483566645248 = a.answer ∙ p6_answered in absurd (omega arith)

pub not_numberless : (image : List ℕ) → RedirectEnsures 0 p6 image 2 1 [] → ⊥
not_numberless image a = let e : ◌≡◌ {A = ℕ} 0 281483566645248 = a.answer ∙ p6_answered in absurd (omega arith)
