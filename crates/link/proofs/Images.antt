-- From intake's answer, the order of a module and linking by it to the promise on all bytes.
use mathlib.Core.Path.{◌≡◌, refl, sym, ap, ◌∙◌, subst}
use mathlib.Core.List.{List}
use Prim.Native.Nat.{ℕ, suc, ◌<◌, ◌≤◌}
use native.Mathlib.Omega.{arith}
use lib.ListN.{length, take}
use borrow.Author.Tests.{le-ltb}
use Rattle.base_words.specs.Words.{words_of}
use Rattle.model.specs.Outcome.{laid}
use Rattle.model.specs.Module.{read, write, count_at}
use Rattle.model.specs.Intake.{intake_of, of_laid, after_intake, on_words}
use Rattle.model.specs.Taped.{Taped, Tape}
use Rattle.model.specs.Calls.{Order, ordered}
use Rattle.model.specs.Callees.{order_of}
use Rattle.model.specs.Refusals.{done, refused, ringed, answer_by}
use Rattle.model.specs.Link.{Linked, in_order, link_module, link, link_by, output_after, link_image, link_answer}
use Rattle.theory_image.specs.IntakeNumbers.{intake_low}
use Rattle.theory_image.specs.FunctionViews.{taped_functions}
use Rattle.theory_image.specs.Modules.{sized_read_write}
use Rattle.order_ranks.proofs.Answers.{all_is, ring_is}
use Rattle.base_refusals.specs.Numbers.{refused_by as ends_as}
use Rattle.base_refusals.specs.declared.Refusal.{Refusal}
use Rattle.std.specs.Prelude.{Result, Ok, Err}
use Rattle.order_callees.specs.Gathering.{Known, Listed}
use Rattle.intake.specs.Taken.{Accepts, TakeInEnsures}
use Rattle.std.specs.Prelude.{Ok, Err}
use Rattle.base_refusals.specs.declared.Refusal.{Refusal}
use Rattle.intake.proofs.Refusals.{refused_by, answered}
use Rattle.derive_imports.proofs.Sources.{mod_is, source_of}
use Rattle.order_bytes.proofs.Images.{count_few, list_long, list_asks}
use Rattle.theory_link.specs.Demand.{Linking}
use Rattle.theory_link.proofs.OnBytes.{whole_words, not_taken, too_short}
use Rattle.derive_state.specs.Source.{mod_of}
use Rattle.model.specs.Image.{wuldgisp_link, LinkEnsures}
use Rattle.link_words.specs.Appends.{Linkable, LinkInOrderEnsures}

-- what linking is, where its answer and its output are known
links_as : (image output₀ : List ℕ) (x : Linked) → (link_image image output₀).0 ≡ x → (r : ℕ) (output : List ℕ) → r ≡ link_answer x → output ≡ output_after x output₀ → LinkEnsures r output₀ output image
unfolding wuldgisp_link link_image
links_as image output₀ x e r output a b = record { answer = a ∙ sym (ap link_answer e); left = b ∙ sym (ap (λ (y : Linked). output_after y output₀) e) }

module _ (image words tags : List ℕ) where
  -- ---- refused by intake
  pub intake_refuses : (e : Refusal) → TakeInEnsures (Err e) words tags image → (output : List ℕ) → LinkEnsures (answer_by (λ v. v) (ends_as e)) output output image
  unfolding answer_by output_after
  intake_refuses e got output =
      let x = refused_by e in
      let a = answered e (omega (arith, got.same, intake_low (length image) (words_of image))) in
      let i = not_taken image output x.0 (sym got.same ∙ x.1) in
      links_as image output (refused (suc x.0)) (ap (λ p. p.0) i) _ output (a ∙ x.1) refl

  module _ (n : ℕ) (got : TakeInEnsures (Ok n) words tags image) where
    held : Accepts image words tags n
    held = got.held n refl

    accepted : intake_of (length image) (words_of image) ≡ 0
    accepted = sym got.same

    -- ---- 7
    pub short_refuses : (output : List ℕ) → length output < length image → LinkEnsures (answer_by (λ (v : ℕ). v) (refused 7)) output output image
    unfolding answer_by output_after
    short_refuses output h = links_as image output (refused 7) (ap (λ p. p.0) (too_short image output accepted held.holds held.reads h)) 7 output refl refl

    pub order_asks : Tape words tags n × Known words tags n
    order_asks = list_asks image words tags n got

    is : mod_of words n ≡ held.holds
    is = mod_is held.taped

    taped : Taped words tags n (mod_of words n)
    taped = subst (Taped words tags n) (sym is) held.taped

    words_are : take n words ≡ words_of image
    words_are = held.taped.words_are ∙ sym (sized_read_write (length image) (words_of image) held.holds held.sized_right (whole_words image accepted) held.reads)

    reads : read (words_of image) ≡ laid (mod_of words n)
    reads = held.reads ∙ ap laid (sym is)

    linked_as : (output : List ℕ) → length image ≤ length output → (link_image image output).0 ≡ in_order (order_of (mod_of words n)) (mod_of words n)
    unfolding link_image link on_words after_intake of_laid link_module
    linked_as output h = rw (link_image, link, on_words, accepted, after_intake, reads, of_laid, link_module, le-ltb (length output) (length image) h)

    -- ---- what order_of gives
    module _ (order₀ order : List ℕ) (a : Result (Unit {0}) Refusal) (o : Listed words tags n order₀ a order) where
      -- an order
      module _ (q : a ≡ Ok tt) where
        ordered_so : order_of (mod_of words n) ≡ ordered (take (count_at 6 words) order)
        ordered_so = all_is (order_of (mod_of words n)) _ (rw q at (o.is (mod_of words n) taped)) ∙ ap (λ (k : ℕ). ordered (take k order)) (sym (taped_functions taped))

        pub by_asks : length order₀ ≡ 256 → (output : List ℕ) → length image ≤ length output → Linkable words tags n order output
        by_asks long output h =
            record {
              source_is = source_of held.taped held.passes.numbers held.passes.lowers;
              linking = subst (λ (ws : List ℕ). Linking ws (length output) (mod_of words n)) (sym words_are) (record { passes = subst (λ (k : ℕ). intake_of k (words_of image) ≡ 0) (whole_words image accepted) accepted; reads = reads; roomy = omega (arith, whole_words image accepted, h) });
              sequence = record { is = ordered_so; counts = refl; long = omega (arith, list_long words tags n order_asks.0 order₀ order a o q long, count_few words tags n order_asks.0 (count_at 6 words) refl) };
            }

        pub by_tells : (output₀ : List ℕ) → length image ≤ length output₀ → (r : ℕ) (output : List ℕ) → LinkInOrderEnsures words n order output₀ r output → LinkEnsures r output₀ output image
        unfolding in_order output_after
        by_tells output₀ h r output l = links_as image output₀ (done (write (link_by (take (count_at 6 words) order) (mod_of words n)))) (linked_as output₀ h ∙ ap (λ (x : Order). in_order x (mod_of words n)) ordered_so) _ output l.answer l.left

      -- a ring
      pub ring_tells : (refusal : Refusal) → a ≡ Err refusal → (output : List ℕ) → length image ≤ length output → LinkEnsures (answer_by (λ v. v) (ends_as refusal)) output output image
      unfolding in_order answer_by output_after
      ring_tells refusal q output h =
          let s = ring_is (order_of (mod_of words n)) refusal _ (rw q at (o.is (mod_of words n) taped)) in
          links_as image output (ringed s.0) (linked_as output h ∙ ap (λ (x : Order). in_order x (mod_of words n)) s.2) _ output (ap (λ (x : Refusal). answer_by (λ v. v) (ends_as x)) s.1) refl
