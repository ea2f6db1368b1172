-- The proof of the demand on bytes, `Demand3` of `specs/OnBytes.antt`.
use Rattle.std.specs.Prelude.{◌≡◌, refl, Bool, true, false, List, ◌++◌, ℕ, zero, suc, ◌*◌, ◌<◌, ◌≤◌, eqb, leb, ltb, get_or, take, drop}
use Rattle.std.proofs.Math.Path.{sym, ap, ap₂, subst}
use Rattle.std.proofs.Common.{◌∙◌, arith, eqb-true, lt-ltb, ltb-false}
use Rattle.std.proofs.Math.ListN.{length}
use Rattle.std.proofs.Math.Seq.{length-sets, take-append_seam, drop-append_seam}
use Rattle.theory_lists.specs.Booleans.{and_split}
use Rattle.base_words.specs.Words.{AllBelow, words_of, bytes_of}
use Rattle.base_words.proofs.Laws.{length_words_of, length_bytes_of, words_of_bytes, words_below, sets-front}
use Rattle.model.specs.Refusals.{SHORT_OUTPUT, done, refused, ringed, answer_by}
use Rattle.model.specs.Outcome.{Laid, laid, bad, strange}
use Rattle.model.specs.Module.{Module, read, write, sized}
use Rattle.model.specs.Intake.{verdict, intake_of, of_laid, after_intake, on_words}
use Rattle.model.specs.Calls.{Ring, Reaches, Count, ordered, ring}
use Rattle.model.specs.Callees.{calls, order_of}
use Rattle.model.specs.Link.{Linked, in_order, link_module, link, link_by, output_after, link_image, link_answer}
use Rattle.theory_order.proofs.Theorems.{claims}
use Rattle.theory_finish.specs.Fresh.{FreshLink}
use Rattle.theory_finish.specs.Size.{intake_sized}
use Rattle.theory_link.specs.Demand.{Linking, Output}
use Rattle.theory_link.specs.Demand as Words
use Rattle.theory_link.specs.Exactly.{link_is}
use Rattle.theory_link.proofs.Theorem.{demand3, output_mapped}
use Rattle.theory_link.specs.Words.{linked_words}
use Rattle.theory_link.specs.OnBytes.{Held, HeldMapped, Demand3}

-- ---- THE PROOF
-- an image that passes intake is its words
pub whole_words : (image : List ℕ) → intake_of (length image) (words_of image) ≡ 0 → length image ≡ 4 * length (words_of image)
unfolding sized
whole_words image passes =
    let ws = words_of image in
    let s = intake_sized (length image) ws passes in
    let e = (and_split (eqb (get_or ws 0 0) 1) _ (and_split (leb (length image) 65536) _ (and_split (leb 80 (length image)) _ s).1).1).1 in
    omega (arith, eqb-true (length image) (4 * get_or ws 1 0) e, length_words_of image)

module _ (image output : List ℕ) (bytes : AllBelow 256 image) (passes : intake_of (length image) (words_of image) ≡ 0) (roomy : length image ≤ length output) where
  abbrev ws : List ℕ
  ws = words_of image

  abbrev room : ℕ
  room = length output

  long : length image ≡ 4 * length ws
  long = whole_words image passes

  -- what passes intake holds a module
  held : (x : Laid Module) → read ws ≡ x → (m : Module) × (read ws ≡ laid m)
  unfolding intake_of verdict
  held (laid m) e = (m, e)
  held bad e = let z : intake_of (length image) ws ≡ 2 = rw (intake_of, intake_sized (length image) ws passes, e) in absurd (omega (arith, passes))
  held strange e = let z : intake_of (length image) ws ≡ 3 = rw (intake_of, intake_sized (length image) ws passes, e) in absurd (omega (arith, passes))

  module _ (m : Module) (reads : read ws ≡ laid m) where
    linking : Linking ws room m
    linking = record { passes = subst (λ n. intake_of n ws ≡ 0) long passes; reads = reads; roomy = omega (arith, long, roomy) }

    on_words_lem : Words.Demand3 ws room m
    on_words_lem = demand3 ws room m linking

    same-link : link (length image) ws room ≡ link (4 * length ws) ws room
    same-link = ap (λ n. link n ws room) long

    answer : (link_image image output).0 ≡ link (4 * length ws) ws room
    unfolding link_image
    answer = same-link

    after_is : (r : Linked) → (link_image image output).0 ≡ r → link_image image output ≡ (r, output_after r output)
    unfolding link_image
    after_is r e = ap (λ x. (x, output_after x output)) e

    told : (i : ℕ) → Ring (length m.functions) (calls m) i → (k : ℕ) × Count (length m.functions) (Reaches (length m.functions) (calls m)) k × (link_image image output ≡ (ringed k, output))
    unfolding order_of in_order output_after
    told i g =
        let a = (claims (length m.functions) (calls m)).ring_answers i g in
        let o : order_of m ≡ ring a.0 = a.1 in
        let r : (link_image image output).0 ≡ ringed a.0 = answer ∙ link_is ws room m linking ∙ ap (λ x. in_order x m) o in
        (a.0, (claims (length m.functions) (calls m)).ring_counts a.0 a.1, after_is (ringed a.0) r)

    module _ (os : List ℕ) (e : order_of m ≡ ordered os) (o : Output ws room m os) (is : (link_image image output).0 ≡ done (write (link_by os m))) where
      abbrev vs : List ℕ
      vs = write (link_by os m)

      abbrev n : ℕ
      n = length (bytes_of vs)

      four : n ≡ 4 * length vs
      four = length_bytes_of vs

      fits : n ≤ length output
      fits = omega (arith, four, long, o.shorter, roomy)

      out_is : (link_image image output).1 ≡ bytes_of vs ++ drop n output
      unfolding output_after
      out_is = ap (λ p. p.1) (after_is (done vs) is) ∙ sets-front (bytes_of vs) output fits

      front : take n (link_image image output).1 ≡ bytes_of vs
      front = ap (take n) out_is ∙ take-append_seam (bytes_of vs) (drop n output)

      again : words_of (take n (link_image image output).1) ≡ vs
      again = ap words_of front ∙ words_of_bytes vs (linked_words ws room m os linking o (words_below image bytes))

      all_held : Held image output (link_image image output).1 m os n (link_by os m)
      unfolding order_of output_after
      all_held = record {
        order = e;
        sorted = (claims (length m.functions) (calls m)).order_sorted os e;
        session = subst (λ k. FreshLink k ws room m os) (sym long) o.session;
        bytes = front;
        behind = ap (drop n) out_is ∙ drop-append_seam (bytes_of vs) (drop n output);
        as_long = ap length (ap (λ p. p.1) (after_is (done vs) is)) ∙ length-sets output 0 (bytes_of vs);
        counted = sym (ap length front);
        shorter = omega (arith, four, long, o.shorter);
        intake = ap₂ intake_of four again ∙ o.intake;
        holds = ap read again ∙ o.reads;
        is = refl;
        count = o.count;
        once = o.once;
        places = o.places;
        callees-first = o.callees-first;
        agree = o.agree;
        functions = o.functions;
        entries = o.entries;
      }

      counts : link_answer (link_image image output).0 ≡ n * 4294967296
      unfolding answer_by
      counts = let a : link_answer (link_image image output).0 ≡ link_answer (done (write (link_by os m))) = ap link_answer is in omega (arith, four)

    -- AND MORE of what the output holds where it is held
    pub held_mapped : (out os : List ℕ) (n : ℕ) (m' : Module) → Held image output out m os n m' → HeldMapped m os m'
    held_mapped out os n m' h =
        let w = output_mapped ws room m linking os h.order in
        subst (λ (x : Module). HeldMapped m os x) (sym h.is) (record { callees-before = w.callees-before; records-agree = w.records-agree; functions_mapped = w.functions_mapped; entries_mapped = w.entries_mapped })

    of_module_lem : Demand3 image output m
    of_module_lem = record {
      exactly = ((λ a. on_words_lem.exactly.0 (a.0, sym answer ∙ a.1)), λ f. let a = on_words_lem.exactly.1 f in (a.0, answer ∙ a.1));
      ring_told = told;
      output-holds = λ us e. let a = on_words_lem.output us (sym answer ∙ e) in let is = e ∙ ap done a.2 in (a.0, length (bytes_of (write (link_by a.0 m))), link_by a.0 m, counts a.0 a.1 a.3 is, all_held a.0 a.1 a.3 is);
    }

  -- THE THEOREM: the image holds a module, and demand 3 holds of linking it
  pub demand3_bytes : (m : Module) × (read (words_of image) ≡ laid m) × Demand3 image output m
  demand3_bytes = let a = held (read ws) refl in (a.0, a.1, of_module_lem a.0 a.1)

-- ---- WHERE THE PREMISES FAIL, the answer is that refusal and the output stays
pub refused_stays : (image output : List ℕ) (k : ℕ) → (link_image image output).0 ≡ refused k → (link_image image output).1 ≡ output
unfolding link_image output_after
refused_stays image output k e = ap (λ r. output_after r output) e

pub not_taken : (image output : List ℕ) (k : ℕ) → intake_of (length image) (words_of image) ≡ suc k → link_image image output ≡ (refused (suc k), output)
unfolding link_image link on_words after_intake output_after
not_taken image output k e = rw (link_image, link, on_words, e, after_intake)

pub too_short : (image output : List ℕ) → intake_of (length image) (words_of image) ≡ 0 → (m : Module) → read (words_of image) ≡ laid m → length output < length image → link_image image output ≡ (refused SHORT_OUTPUT, output)
unfolding link_image link on_words after_intake of_laid link_module output_after
too_short image output p m r l = rw (link_image, link, on_words, p, after_intake, r, of_laid, link_module, lt-ltb (length output) (length image) l)

-- AND ONLY THERE is anything linked
pub linked-only : (image output vs : List ℕ) → (link_image image output).0 ≡ done vs → (intake_of (length image) (words_of image) ≡ 0) × (length image ≤ length output)
unfolding link_image link on_words after_intake of_laid link_module
linked-only image output vs e = go (intake_of (length image) (words_of image)) e
  where
    roomy : (m : Module) (b : Bool) → ltb (length output) (length image) ≡ b → (let v : Linked = elim b [ true ↦ refused 7 | false ↦ in_order (order_of m) m ] in v) ≡ done vs → length image ≤ length output
    roomy m true q e = let z : ◌≡◌ {A = ℕ} 0 1 = cc in absurd (omega arith)
    roomy m false q e = ltb-false (length output) (length image) q

    laid_out : (x : Laid Module) → of_laid (link_module (length image) (length output)) refused x ≡ done vs → length image ≤ length output
    laid_out (laid m) e = roomy m (ltb (length output) (length image)) refl e
    laid_out bad e = let z : ◌≡◌ {A = ℕ} 0 1 = cc in absurd (omega arith)
    laid_out strange e = let z : ◌≡◌ {A = ℕ} 0 1 = cc in absurd (omega arith)

    go : (n : ℕ) → after_intake (link_module (length image) (length output)) refused (words_of image) n ≡ done vs → (n ≡ 0) × (length image ≤ length output)
    go zero e = (refl, laid_out (read (words_of image)) e)
    go (suc n) e = let z : ◌≡◌ {A = ℕ} 0 1 = cc in absurd (omega arith)
