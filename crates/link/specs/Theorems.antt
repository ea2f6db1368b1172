-- DEMAND 3, OF THE CODE: whatever answers r and leaves `output` as `link` and `link_in` promise (`Links`), for every image that passes intake and every output that is at least as long. Document 01: "Linking succeeds exactly if no chain of calls comes back to its start. Then the output holds what a fresh session writes that sets the image as its source with span offset 0, imports its functions in output order and finishes with entry points", and the walks agree. It is said of the two halves of r and of the bytes that are left.
-- Where a premise fails, r is that refusal and the output is as it was; so a low half of 0 says that the premises hold.
use Rattle.std.specs.Prelude.{◌≡◌, Bool, true, false, ◌↔◌, List, ℕ, zero, suc, ◌+◌, ◌*◌, ◌<◌, ◌≤◌, ltb}
use Rattle.std.proofs.Math.Path.{refl, ap}
use Rattle.std.proofs.Common.{sym, ◌∙◌, subst}
use native.Mathlib.Omega.{arith}
use Rattle.std.proofs.Math.ListN.{length}
use Rattle.base_words.specs.Words.{AllBelow, words_of}
use Rattle.model.specs.Outcome.{Laid, laid, bad, strange}
use Rattle.model.specs.Module.{Module, read}
use Rattle.model.specs.Intake.{intake_of, of_laid, after_intake, on_words}
use Rattle.model.specs.Calls.{Ring, Reaches, Count, Order, ordered, ring}
use Rattle.model.specs.Callees.{calls, order_of}
use Rattle.model.specs.Refusals.{done, refused, ringed, answer_by}
use Rattle.model.specs.Link.{Linked, in_order, link_module, link, link_image, link_answer}
use Rattle.theory_link.specs.OnBytes.{Held, Demand3}
use Rattle.theory_link.proofs.OnBytes.{demand3_bytes, not_taken, too_short, linked-only}
use Rattle.theory_image.specs.IntakeNumbers.{intake_low}
use Rattle.model.specs.Image.{wuldgisp_link, LinkEnsures}

-- ---- THE STATEMENT
-- the two halves of an answer
pub record Halves (r low high : ℕ) : Type 0 where
  pub is : r ≡ low + high * 4294967296
  pub low_half : low < 4294967296

-- linking the image that holds m: r is the answer, `output` what was `output₀`
pub record Demand3Code (r : ℕ) (output₀ output image : List ℕ) (m : Module) : Type 0 where
  -- "Linking succeeds exactly if no chain of calls comes back to its start"
  pub exactly : ((n : ℕ) × Halves r 0 n) ↔ ((i : ℕ) → Ring (length m.functions) (calls m) i → ⊥)
  -- "Then the output holds ..", and the walks agree: as many of its first bytes as the high half says; the others are as they were
  pub output-holds : (n : ℕ) → Halves r 0 n → (os : List ℕ) × (m' : Module) × Held image output₀ output m os n m'
  -- otherwise it is refused with 12 and the count of the functions from which a chain reaches a ring, and the output is as it was
  pub ring_told : (i : ℕ) → Ring (length m.functions) (calls m) i → (k : ℕ) × Count (length m.functions) (Reaches (length m.functions) (calls m)) k × Halves r 12 k × (output ≡ output₀)

-- a refusal of link is one of 1 to 7
refused_low : (image output : List ℕ) (k : ℕ) → (link_image image output).0 ≡ refused k → (0 < k) × (k ≤ 7)
unfolding link_image link on_words after_intake of_laid link_module in_order
refused_low image output k e = go (intake_of (length image) (words_of image)) (intake_low (length image) (words_of image)) e
  where
    by_order : (o : Order) (m : Module) → in_order o m ≡ refused k → (0 < k) × (k ≤ 7)
    by_order (ordered os) m q = let z : ◌≡◌ {A = ℕ} 0 1 = cc in absurd (omega arith)
    by_order (ring j) m q = let z : ◌≡◌ {A = ℕ} 0 1 = cc in absurd (omega arith)

    by-room : (b : Bool) (m : Module) → (let v : Linked = elim b [ true ↦ refused 7 | false ↦ in_order (order_of m) m ] in v) ≡ refused k → (0 < k) × (k ≤ 7)
    by-room true m q = let z : 7 ≡ k = cc in (omega arith, omega arith)
    by-room false m q = by_order (order_of m) m q

    by_module : (x : Laid Module) → of_laid (link_module (length image) (length output)) refused x ≡ refused k → (0 < k) × (k ≤ 7)
    by_module (laid m) q = by-room (ltb (length output) (length image)) m q
    by_module bad q = let z : 2 ≡ k = cc in (omega arith, omega arith)
    by_module strange q = let z : 3 ≡ k = cc in (omega arith, omega arith)

    go : (n : ℕ) → n ≤ 6 → after_intake (link_module (length image) (length output)) refused (words_of image) n ≡ refused k → (0 < k) × (k ≤ 7)
    go zero l q = by_module (read (words_of image)) q
    go (suc n) l q = let z : suc n ≡ k = cc in (omega arith, omega arith)

-- ---- THE PROOF
module _ {r : ℕ} {output₀ output image : List ℕ} (l : LinkEnsures r output₀ output image) where
  answer_is : r ≡ link_answer (link_image image output₀).0
  unfolding wuldgisp_link
  answer_is = l.answer

  left_is : output ≡ (link_image image output₀).1
  unfolding wuldgisp_link
  left_is = l.left

  module _ (m : Module) (d : Demand3 image output₀ m) where
    ringing : (i : ℕ) → Ring (length m.functions) (calls m) i → (k : ℕ) × Count (length m.functions) (Reaches (length m.functions) (calls m)) k × Halves r 12 k × (output ≡ output₀)
    unfolding answer_by
    ringing i g =
        let t = d.ring_told i g in
        (t.0, t.1, record { is = answer_is ∙ ap (λ p. link_answer p.0) t.2; low_half = omega arith }, left_is ∙ ap (λ p. p.1) t.2)

    ringless : (n : ℕ) → Halves r 0 n → (i : ℕ) → Ring (length m.functions) (calls m) i → ⊥
    ringless n h i g = let t = ringing i g in absurd (omega (arith, h.is, t.2.is))

    holding : (n : ℕ) → Halves r 0 n → (os : List ℕ) × (m' : Module) × Held image output₀ output m os n m'
    holding n h =
        let v = d.exactly.1 (ringless n h) in
        let o = d.output-holds v.0 v.1 in
        let q : o.1 ≡ n = omega (arith, h.is, answer_is, o.3) in
        (o.0, o.2, subst (λ (k : ℕ). Held image output₀ output m o.0 k o.2) q (subst (λ (out : List ℕ). Held image output₀ out m o.0 o.1 o.2) (sym (left_is)) o.4))

    linking : ((i : ℕ) → Ring (length m.functions) (calls m) i → ⊥) → (n : ℕ) × Halves r 0 n
    linking f =
        let v = d.exactly.1 f in
        let o = d.output-holds v.0 v.1 in
        (o.1, record { is = omega (arith, answer_is, o.3); low_half = omega arith })

    of_module_lem : Demand3Code r output₀ output image m
    of_module_lem = record { exactly = ((λ h. ringless h.0 h.1), linking); output-holds = holding; ring_told = ringing }

  -- THE THEOREM: an image that passes intake holds a module, and demand 3 holds of the answer and the bytes left
  pub demand3_code : AllBelow 256 image → intake_of (length image) (words_of image) ≡ 0 → length image ≤ length output₀ → (m : Module) × (read (words_of image) ≡ laid m) × Demand3Code r output₀ output image m
  demand3_code bytes passes roomy = let d = demand3_bytes image output₀ bytes passes roomy in (d.0, d.1, of_module_lem d.0 d.2)

  -- ---- WHERE THE PREMISES FAIL
  -- 1 to 6: what intake refuses
  pub intake_told : (k : ℕ) → intake_of (length image) (words_of image) ≡ suc k → (r ≡ suc k) × (output ≡ output₀)
  unfolding answer_by
  intake_told k e = let t = not_taken image output₀ k e in (answer_is ∙ ap (λ p. link_answer p.0) t, left_is ∙ ap (λ p. p.1) t)

  -- 7: an output shorter than the image
  pub short-told : intake_of (length image) (words_of image) ≡ 0 → (m : Module) → read (words_of image) ≡ laid m → length output₀ < length image → (r ≡ 7) × (output ≡ output₀)
  unfolding answer_by
  short-told p m e h = let t = too_short image output₀ p m e h in (answer_is ∙ ap (λ p. link_answer p.0) t, left_is ∙ ap (λ p. p.1) t)

  -- so a low half of 0 says that they hold
  pub premises_hold : (n : ℕ) → Halves r 0 n → (intake_of (length image) (words_of image) ≡ 0) × (length image ≤ length output₀)
  unfolding answer_by
  premises_hold n h = go (link_image image output₀).0 refl
    where
      go : (x : Linked) → (link_image image output₀).0 ≡ x → (intake_of (length image) (words_of image) ≡ 0) × (length image ≤ length output₀)
      go (done vs) e = linked-only image output₀ vs e
      go (refused k) e = let b = refused_low image output₀ k e in absurd (omega (arith, h.is, answer_is, ap link_answer e, b.0, b.1))
      go (ringed k) e = absurd (omega (arith, h.is, answer_is, ap link_answer e))
