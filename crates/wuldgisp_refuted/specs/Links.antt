-- THE LINKERS THAT THE PROMISE OF wuldgisp_link RULES OUT, on the marked cases P5, P6, P8 and P11, with any output that is long enough: no program that keeps `LinkEnsures` is one of these. Document 01: "One refusing each image; one emitting the same empty module, or returning the image unlinked; one that maps in the first round and passes later functions through; a ring count not from its definition; full before the limit", "copying the old Emit range", "depth_first order". What the images link to is computed in `crates/model_vectors`.
use Rattle.std.specs.Prelude.{◌≡◌, Bool, true, false, List, [], ◌∷◌, ◌++◌, ℕ, zero, suc, ◌+◌, ◌*◌, ◌<◌, ◌≤◌, ltb}
use Rattle.std.proofs.Math.Path.{sym, ap}
use Rattle.std.proofs.Common.{◌∙◌, get_or-take}
use native.Mathlib.Omega.{arith}
use Rattle.std.proofs.Math.ListN.{length, get_or, take, drop}
use Rattle.std.proofs.Math.Seq.{take-append_seam}
use Rattle.base_words.specs.Words.{words_of, bytes_of}
use Rattle.base_words.proofs.Laws.{length_bytes_of, sets-front}
use Rattle.model.specs.Refusals.{done, refused, ringed, answer_by}
use Rattle.model.specs.Outcome.{Laid, laid, bad, strange}
use Rattle.model.specs.Module.{Module, read}
use Rattle.model.specs.Intake.{intake_of, of_laid, after_intake, on_words}
use Rattle.model.specs.Calls.{Order, ordered, ring}
use Rattle.model.specs.Callees.{order_of}
use Rattle.model.specs.Link.{in_order, link_module, link, output_after, link_image, link_answer}
use Rattle.model.specs.Image.{wuldgisp_link, LinkEnsures}
use Rattle.model_vectors.specs.Links.{P5, P5-linked, P6, P6-linked, P8, P11, P11-linked, p5_links, p6_links, p8-rings, p11_links}
use Rattle.model_vectors.specs.LinkedBytes.{linked_so, left_so, whole}
use Rattle.theory_image.specs.IntakeNumbers.{intake_low}

-- no functions, no records
unfoldable pub empty : List ℕ
empty = 1 ∷ 23 ∷ 0 ∷ 20 ∷ 0 ∷ 20 ∷ 0 ∷ 20 ∷ 0 ∷ 20 ∷ 0 ∷ 20 ∷ 0 ∷ 20 ∷ 0 ∷ 20 ∷ 0 ∷ 20 ∷ 0 ∷ 20 ∷ 0 ∷ 0 ∷ 0 ∷ []

-- ---- what the promise says of an image that is given as words
module _ (ws : List ℕ) (whole : words_of (bytes_of ws) ≡ ws) (output : List ℕ) (roomy : 4 * length ws ≤ length output) where
  module _ (vs : List ℕ) (e : link (4 * length ws) ws (4 * length ws) ≡ done vs) (r : ℕ) (out : List ℕ) (m : LinkEnsures r output out (bytes_of ws)) where
    counted : r ≡ 4 * length vs * 4294967296
    unfolding wuldgisp_link answer_by
    counted = let a : r ≡ link_answer (done vs) = m.answer ∙ ap link_answer (linked_so ws whole output roomy ∙ e) in omega arith

    bytes_are : length vs ≤ length ws → take (4 * length vs) out ≡ bytes_of vs
    unfolding wuldgisp_link output_after
    bytes_are l =
        let n = length_bytes_of vs in
        ap (take (4 * length vs)) (m.left ∙ left_so ws whole output roomy (done vs) (linked_so ws whole output roomy ∙ e) ∙ sets-front (bytes_of vs) output (omega arith)) ∙ ap (λ k. take k (bytes_of vs ++ drop (length (bytes_of vs)) output)) (sym n) ∙ take-append_seam (bytes_of vs) (drop (length (bytes_of vs)) output)

    -- each byte that is written
    byte : length vs ≤ length ws → (i : ℕ) → i < 4 * length vs → get_or out i 0 ≡ get_or (bytes_of vs) i 0
    byte l i h = sym (get_or-take (4 * length vs) out i 0 h) ∙ ap (λ x. get_or x i 0) (bytes_are l)

  pub ring_so : (k : ℕ) → link (4 * length ws) ws (4 * length ws) ≡ ringed k → (r : ℕ) (out : List ℕ) → LinkEnsures r output out (bytes_of ws) → (r ≡ 12 + k * 4294967296) × (out ≡ output)
  unfolding wuldgisp_link answer_by output_after
  ring_so k e r out m = (m.answer ∙ ap link_answer (linked_so ws whole output roomy ∙ e), m.left ∙ left_so ws whole output roomy (ringed k) (linked_so ws whole output roomy ∙ e))

-- ---- ONE REFUSING EACH IMAGE: P5 is linked into every output that is as long, so no refusal is its answer, with a count or without
module _ (output : List ℕ) (roomy : 276 ≤ length output) (r : ℕ) (out : List ℕ) where
  p5-answer : LinkEnsures r output out (bytes_of P5) → r ≡ 1185410973696
  unfolding P5 P5-linked
  p5-answer m = counted P5 whole.of_p5 output roomy P5-linked p5_links r out m

  pub refusing : LinkEnsures r output out (bytes_of P5) → (k n : ℕ) → 0 < k → k < 4294967296 → r ≡ k + n * 4294967296 → ⊥
  refusing m k n l h e = let a = p5-answer m in absurd (omega arith)

module _ (output : List ℕ) (roomy : 308 ≤ length output) (r : ℕ) (out : List ℕ) where
  p5_byte : LinkEnsures r output out (bytes_of P5) → (i : ℕ) → i < 276 → get_or out i 0 ≡ get_or (bytes_of P5-linked) i 0
  unfolding P5 P5-linked
  p5_byte m i h = byte P5 whole.of_p5 output (omega arith) P5-linked p5_links r out m (omega arith) i h

  p6-answer : LinkEnsures r output out (bytes_of P6) → r ≡ 1322849927168
  unfolding P6 P6-linked
  p6-answer m = counted P6 whole.of_p6 output (omega arith) P6-linked p6_links r out m

  p6_byte : LinkEnsures r output out (bytes_of P6) → (i : ℕ) → i < 308 → get_or out i 0 ≡ get_or (bytes_of P6-linked) i 0
  unfolding P6 P6-linked
  p6_byte m i h = byte P6 whole.of_p6 output (omega arith) P6-linked p6_links r out m (omega arith) i h

  p11_byte : LinkEnsures r output out (bytes_of P11) → (i : ℕ) → i < 280 → get_or out i 0 ≡ get_or (bytes_of P11-linked) i 0
  unfolding P11 P11-linked
  p11_byte m i h = byte P11 whole.of_p11 output (omega arith) P11-linked p11_links r out m (omega arith) i h

  -- ---- ONE EMITTING THE SAME EMPTY MODULE: byte 4 of its image is 23, the count of its words; P5's has 69
  pub emptying : LinkEnsures r output out (bytes_of P5) → take 92 out ≡ bytes_of empty → ⊥
  unfolding P5-linked empty bytes_of
  emptying m e = let a : get_or out 4 0 ≡ 69 = p5_byte m 4 (omega arith) in let b : get_or out 4 0 ≡ 23 = sym (get_or-take 92 out 4 0 (omega arith)) ∙ ap (λ x. get_or x 4 0) e in absurd (omega arith)

  -- or any one answer for every image
  pub constant : (out' : List ℕ) → LinkEnsures r output out (bytes_of P5) → LinkEnsures r output out' (bytes_of P6) → ⊥
  constant out' m n = let a = p5-answer output (omega arith) r out m in let b = other out' n in absurd (omega arith)
    where
      other : (out' : List ℕ) → LinkEnsures r output out' (bytes_of P6) → r ≡ 1322849927168
      other out' n = unfold P6 P6-linked in counted P6 whole.of_p6 output (omega arith) P6-linked p6_links r out' n

  -- ---- ONE RETURNING THE IMAGE UNLINKED: the first name of P5 is a, byte 96; that of what is linked is b
  pub unlinked : LinkEnsures r output out (bytes_of P5) → take 276 out ≡ bytes_of P5 → ⊥
  unfolding P5 P5-linked bytes_of
  unlinked m e = let a : get_or out 96 0 ≡ 98 = p5_byte m 96 (omega arith) in let b : get_or out 96 0 ≡ 97 = sym (get_or-take 276 out 96 0 (omega arith)) ∙ ap (λ x. get_or x 96 0) e in absurd (omega arith)

  -- ---- ONE THAT MAPS IN THE FIRST ROUND AND PASSES LATER FUNCTIONS THROUGH: fog, of the second round, calls tone, which was 1 and is 0; shade, of the third, calls fog, which was 2 and is 1
  pub passing_fog : LinkEnsures r output out (bytes_of P6) → get_or out 220 0 ≡ 1 → ⊥
  unfolding P6-linked bytes_of
  passing_fog m e = let a : get_or out 220 0 ≡ 0 = p6_byte m 220 (omega arith) in absurd (omega arith)

  pub passing_shade : LinkEnsures r output out (bytes_of P6) → get_or out 284 0 ≡ 2 → ⊥
  unfolding P6-linked bytes_of
  passing_shade m e = let a : get_or out 284 0 ≡ 1 = p6_byte m 284 (omega arith) in absurd (omega arith)

  -- ---- A RING COUNT NOT FROM ITS DEFINITION: of P8 it is 2, which is all that is answered beside 12, and the output stays
  pub record Miscounted : Type 0 where
    pub miscounting : LinkEnsures r output out (bytes_of P8) → (k : ℕ) → r ≡ 12 + k * 4294967296 → k ≡ 2

  pub ring_answer : LinkEnsures r output out (bytes_of P8) → r ≡ 12 + 2 * 4294967296
  unfolding P8
  ring_answer m = (ring_so P8 whole.of_p8 output (omega arith) 2 p8-rings r out m).0

  pub ring_stays : LinkEnsures r output out (bytes_of P8) → out ≡ output
  unfolding P8
  ring_stays m = (ring_so P8 whole.of_p8 output (omega arith) 2 p8-rings r out m).1

  -- ---- DEPTH-FIRST ORDER would give b, a, c: the second name, byte 104, is c
  pub depth_first : LinkEnsures r output out (bytes_of P5) → get_or out 104 0 ≡ 97 → ⊥
  unfolding P5-linked bytes_of
  depth_first m e = let a : get_or out 104 0 ≡ 99 = p5_byte m 104 (omega arith) in absurd (omega arith)

  -- ---- THE OLD EMIT RANGE COPIED: of P11 it is 2..2, and the old start was 1
  pub old_range : LinkEnsures r output out (bytes_of P11) → get_or out 260 0 ≡ 1 → ⊥
  unfolding P11-linked bytes_of
  old_range m e = let a : get_or out 260 0 ≡ 2 = p11_byte m 260 (omega arith) in absurd (omega arith)

-- ---- "FULL": link never answers it, of any image and any output
pub never_full : (image output : List ℕ) (r : ℕ) (out : List ℕ) → LinkEnsures r output out image → r ≡ 21 → ⊥
unfolding wuldgisp_link link_image link on_words after_intake of_laid link_module in_order answer_by
never_full image output r out m e = let a = m.answer in go (intake_of (length image) (words_of image)) (intake_low (length image) (words_of image)) (sym a ∙ e)
  where
    by_order : (o : Order) (m : Module) → link_answer (in_order o m) ≡ 21 → ⊥
    by_order (ordered os) m q = absurd (omega arith)
    by_order (ring k) m q = absurd (omega arith)

    by-room : (b : Bool) (m : Module) → link_answer (elim b [ true ↦ refused 7 | false ↦ in_order (order_of m) m ]) ≡ 21 → ⊥
    by-room true m q = absurd (omega arith)
    by-room false m q = by_order (order_of m) m q

    by_module : (x : Laid Module) → link_answer (of_laid (link_module (length image) (length output)) refused x) ≡ 21 → ⊥
    by_module (laid m) q = by-room (ltb (length output) (length image)) m q
    by_module bad q = absurd (omega arith)
    by_module strange q = absurd (omega arith)

    go : (n : ℕ) → n ≤ 6 → link_answer (after_intake (link_module (length image) (length output)) refused (words_of image) n) ≡ 21 → ⊥
    go zero l q = by_module (read (words_of image)) q
    go (suc n) l q = absurd (omega arith)
