-- From intake's answer and the order of a module to the promise on all bytes.
use mathlib.Core.Path.{◌≡◌, refl, sym, ap, ◌∙◌, subst}
use mathlib.Core.Bool.{Bool, true}
use mathlib.Core.List.{List, [], ◌∷◌}
use Prim.Native.Nat.{ℕ, suc, ◌+◌, ◌≤◌}
use native.Mathlib.Omega.{arith}
use lib.ListN.{length, take, length-take, length-drop}
use lib.Seq.{sets}
use Rattle.model.specs.Module.{Module, count_at}
use Rattle.model.specs.Taped.{Taped, Tape}
use Rattle.model.specs.Numbers.{numbered}
use Rattle.model.specs.Calls.{numbers, rounds, ordered, ring, answer, order}
use Rattle.model.specs.Callees.{calls, order_of}
use Rattle.model.specs.Refusals.{done, refused, packed, answer_by}
use Rattle.model.specs.Image.{on_image, order_ended, order_image, order_answer, order_after, wuldgisp_order, OrderEnsures}
use Rattle.base_words.specs.Words.{words_of}
use Rattle.theory_image.specs.OnWords.{on_refused, on_module}
use Rattle.theory_image.specs.IntakeNumbers.{intake_low}
use Rattle.theory_image.specs.FunctionViews.{taped_functions}
use Rattle.theory_image.specs.Tapes.{taped_same}
use Rattle.order_ranks.proofs.Answers.{all_is, ring_is}
use Rattle.base_refusals.specs.Numbers.{refused_by as ends_as}
use Rattle.base_refusals.specs.declared.Refusal.{Refusal}
use Rattle.std.specs.Prelude.{Result, Ok, Err}
use Rattle.theory_order.specs.Lists.{length-numbers}
use Rattle.theory_order.specs.Rounds.{length-rounds}
use Rattle.order_callees.specs.Gathering.{Known, Listed}
use Rattle.order_callees.proofs.Numbered.{passed-known}
use Rattle.order_callees.proofs.Whole.{few}
use Rattle.intake.specs.Taken.{Accepts, TakeInEnsures}
use Rattle.intake.proofs.Refusals.{refused_by, answered}
use Rattle.order_bytes.specs.Listing.{ListEnsures}

-- ---- an order has as many numbers as there are functions
ordered_long : (n : ℕ) (c : ℕ → ℕ → Bool) (os : List ℕ) → order n c ≡ ordered os → length os ≡ n
unfolding order answer
ordered_long n c os e = go (rounds c n (numbers n 0)).placed (rounds c n (numbers n 0)).left e (length-rounds c n (numbers n 0) ∙ length-numbers n 0)
  where
    go : (p l : List ℕ) → answer p l ≡ ordered os → length p + length l ≡ n → length os ≡ n
    go p [] q k = let i : p ≡ os = cc in omega (arith, ap length i)
    go p (i ∷ is) q k = let z : ◌≡◌ {A = ℕ} 0 1 = cc in absurd (omega arith)

-- ---- list
module _ (words tags : List ℕ) (n : ℕ) (h : Tape words tags n) where
  pub count_few : (count : ℕ) → count ≡ count_at 6 words → count ≤ 256
  count_few count e = omega (arith, few h.taped, taped_functions h.taped)

  module _ (list list₁ : List ℕ) (r : Result (Unit {0}) Refusal) (got : Listed words tags n list r list₁) where
    taken : r ≡ Ok tt → {m : Module} → Taped words tags n m → length (take (length m.functions) list₁) ≡ length m.functions
    unfolding order_of
    taken e {m} t = ordered_long (length m.functions) (calls m) (take (length m.functions) list₁) (all_is (order_of m) _ (rw e at (got.is m t)))

    pub list_long : r ≡ Ok tt → length list ≡ 256 → length list₁ ≡ 256
    list_long e long =
        let t = h.taped in
        let k = length h.holds.functions in
        let a = taken e t in
        let b = length-take k list₁ in
        let c = ap length (got.rest h.holds t) in
        let d = length-drop k list₁ in
        let f = length-drop k list in
        omega (arith, few t)

    pub listed-all : r ≡ Ok tt → (count : ℕ) → count ≡ count_at 6 words → (out₀ out : List ℕ) → out ≡ sets out₀ 0 (take count list₁) → ListEnsures (answer_by (λ (v : ℕ). v) (done count)) out₀ out words tags n
    unfolding order_ended answer_by order_after
    listed-all e count is out₀ out w =
        record {
          answer = λ m t. ap (packed 0) (is ∙ taped_functions t ∙ sym (taken e t)) ∙ sym (ap (λ x. order_answer (order_ended x)) (listed e m t));
          left = λ m t. w ∙ ap (λ k. sets out₀ 0 (take k list₁)) (is ∙ taped_functions t) ∙ sym (ap (λ x. order_after (order_ended x) out₀) (listed e m t));
        }
      where
        listed : r ≡ Ok tt → (m : Module) → Taped words tags n m → order_of m ≡ ordered (take (length m.functions) list₁)
        listed q m t = all_is (order_of m) _ (rw q at (got.is m t))

  pub listed_ring : (list list₁ : List ℕ) (e : Refusal) → Listed words tags n list (Err e) list₁ → (out : List ℕ) → ListEnsures (answer_by (λ v. v) (ends_as e)) out out words tags n
  unfolding order_ended answer_by order_after
  listed_ring list list₁ e got out =
      record {
        answer = λ m t. let r = rings m t in ap (λ x. answer_by (λ v. v) (ends_as x)) r.1 ∙ sym (ap (λ x. order_answer (order_ended x)) r.2);
        left = λ m t. let r = rings m t in sym (ap (λ x. order_after (order_ended x) out) r.2);
      }
    where
      rings : (m : Module) → Taped words tags n m → (left : ℕ) × (e ≡ Refusal.Ring left) × (order_of m ≡ ring left)
      rings m t = ring_is (order_of m) e _ (got.is m t)

-- ---- order
module _ (image words tags : List ℕ) where
  pub intake_refuses : (e : Refusal) → TakeInEnsures (Err e) words tags image → (out : List ℕ) → OrderEnsures (answer_by (λ v. v) (ends_as e)) out out image
  unfolding wuldgisp_order order_image on_image answer_by order_after
  intake_refuses e got out =
      let x = refused_by e in
      let a = answered e (omega (arith, got.same, intake_low (length image) (words_of image))) in
      let i : order_image image ≡ refused (suc x.0) = on_refused (λ m. order_ended (order_of m)) refused (length image) (words_of image) x.0 (sym got.same ∙ x.1) in
      record { answer = a ∙ x.1 ∙ sym (ap order_answer i); left = sym (ap (λ y. order_after y out) i) }

  module _ (n : ℕ) (got : TakeInEnsures (Ok n) words tags image) where
    held : Accepts image words tags n
    held = got.held n refl

    pub list_asks : Tape words tags n × Known words tags n
    list_asks =
        let p : Tape words tags n = record { holds = held.holds; taped = held.taped } in
        (p, passed-known (λ o u. subst (λ x. numbered x ≡ true) (taped_same held.taped u) held.passes.numbers))

    pub list_tells : (r : ℕ) (out₀ out : List ℕ) → ListEnsures r out₀ out words tags n → OrderEnsures r out₀ out image
    unfolding wuldgisp_order order_image on_image
    list_tells r out₀ out l =
        let m = held.holds in
        let i : order_image image ≡ order_ended (order_of m) = on_module (λ m. order_ended (order_of m)) refused (length image) (words_of image) m (sym got.same) held.reads in
        record { answer = l.answer m held.taped ∙ sym (ap order_answer i); left = l.left m held.taped ∙ sym (ap (λ y. order_after y out₀) i) }
