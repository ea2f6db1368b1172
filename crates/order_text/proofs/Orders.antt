-- From intake's answer and the order of a module to the text: the numbers of an order are those of table functions, each once.
use mathlib.Core.Path.{◌≡◌, refl, sym, ap, ap₂, ◌∙◌, subst}
use mathlib.Core.Logic.{◌⊎◌, inl, inr, ⊎_elim}
use mathlib.Core.Bool.{Bool}
use mathlib.Core.List.{List, [], ◌∷◌, ◌++◌}
use Prim.Native.Nat.{ℕ, zero, suc, ◌+◌, ◌≤◌, ◌<◌}
use native.Mathlib.Omega.{arith}
use lib.Dec.{eqb, ltb}
use lib.ListN.{length, get_or, take, replicate, length-replicate}
use lib.Seq.{length-take-le}
use borrow.Author.Tests.{eq-eqb, ltb-true, ltb-false}
use Rattle.theory_lists.specs.Booleans.{either}
use Rattle.model.specs.Module.{Module, count_at}
use Rattle.model.specs.Taped.{Taped, Tape}
use Rattle.model.specs.Calls.{In, here, later, times, numbers, rounds, answer, ordered, ring, order}
use Rattle.model.specs.Callees.{calls, order_of}
use Rattle.order_ranks.proofs.Answers.{all_is, ring_is}
use Rattle.base_refusals.specs.Numbers.{number_of as refusal_number, count_of}
use Rattle.base_refusals.specs.declared.Refusal.{Refusal}
use Rattle.std.specs.Prelude.{Result, Ok, Err}
use Rattle.theory_order.specs.Lists.{in_keep, length-numbers}
use Rattle.theory_order.specs.Rounds.{length-rounds}
use Rattle.theory_order.proofs.Theorems.{claims}
use Rattle.base_words.specs.Words.{words_of}
use Rattle.model.specs.Image.{on_image}
use Rattle.theory_image.specs.OnWords.{on_refused, on_module}
use Rattle.theory_image.specs.IntakeNumbers.{intake_low}
use Rattle.theory_image.specs.FunctionViews.{taped_functions}
use Rattle.order_callees.specs.Gathering.{Listed}
use Rattle.order_callees.proofs.Whole.{few}
use Rattle.intake.specs.Taken.{Accepts, TakeInEnsures}
use Rattle.std.specs.Prelude.{Ok, Err}
use Rattle.base_refusals.specs.declared.Refusal.{Refusal}
use Rattle.base_refusals.specs.declared.Refusal.TheVariants as refusal
use Rattle.intake.proofs.Refusals.{refused_by}
use Rattle.order_bytes.proofs.Images.{count_few, list_long}
use Rattle.order_lines.specs.Lines.{name_of, line_text, lines_text, headed, FUNCTIONS, ordered_text, name_is, TextEnsures, Text}
use Rattle.order_text.specs.Telling.{REFUSED, RINGS, refusing, telling, telling_of, Passed, TellEnsures, Tells}
use Rattle.order_lines.proofs.Bytes.{puts_long}
use Rattle.order_text.proofs.Names.{text_of, readable}
use Rattle.order_lines.proofs.Joining.{decimal_long, headed_long}
use Rattle.order_text.proofs.Known.{passed-naming, passed-one, functions_distinct}
use Rattle.order_text.proofs.Fits.{distinct-once, text_fits}

less_or_not : (a b : ℕ) → (a < b) ⊎ (b ≤ a)
less_or_not a b = ⊎_elim (λ h. inl (ltb-true a b h)) (λ h. inr (ltb-false a b h)) (either (ltb a b))

in_at : (l : List ℕ) (k : ℕ) → k < length l → In (get_or l k 0) l
in_at [] k h = absurd (omega arith)
in_at (x ∷ l) zero h = here
in_at (x ∷ l) (suc k) h = later (in_at l k (omega arith))

in_long : {x : ℕ} {l : List ℕ} → In x l → 0 < length l
in_long here = omega arith
in_long (later h) = omega arith

-- a number of an order is that of a function
order-known : (n : ℕ) (c : ℕ → ℕ → Bool) (os : List ℕ) → order n c ≡ ordered os → (k : ℕ) → k < length os → get_or os k 0 < n
order-known n c os e k h =
    ⊎_elim (λ (a : get_or os k 0 < n). a)
    (λ (b : n ≤ get_or os k 0).
    let i = in_long (in_keep (eqb (get_or os k 0)) (in_at os k h) (eq-eqb (get_or os k 0) (get_or os k 0) refl)) in
    absurd (omega (arith, (claims n c).none_else os e (get_or os k 0) b)))
    (less_or_not (get_or os k 0) n)

-- a ring leaves no more functions than there are
ring_few : (n : ℕ) (c : ℕ → ℕ → Bool) (k : ℕ) → order n c ≡ ring k → k ≤ n
unfolding order answer
ring_few n c k e = go (rounds c n (numbers n 0)).placed (rounds c n (numbers n 0)).left e (length-rounds c n (numbers n 0) ∙ length-numbers n 0)
  where
    go : (p l : List ℕ) → answer p l ≡ ring k → length p + length l ≡ n → k ≤ n
    go p [] q h = let z : ◌≡◌ {A = ℕ} 0 1 = cc in absurd (omega arith)
    go p (i ∷ is) q h = let j : length (i ∷ is) ≡ k = cc in omega arith

-- no function is in an order twice
order-once : (n : ℕ) (c : ℕ → ℕ → Bool) (os : List ℕ) → order n c ≡ ordered os → (x : ℕ) → times os x ≤ 1
order-once n c os e x = ⊎_elim (λ (a : x < n). omega (arith, (claims n c).each_once os e x a)) (λ (b : n ≤ x). omega (arith, (claims n c).none_else os e x b)) (less_or_not x n)

lines_ext : (os : List ℕ) (new : ℕ) (f g : ℕ → List ℕ) → ((k : ℕ) → k < length os → f (get_or os k 0) ≡ g (get_or os k 0)) → lines_text os new f ≡ lines_text os new g
unfolding lines_text
lines_ext [] new f g h = refl
lines_ext (s ∷ os) new f g h = ap₂ (λ x y. line_text new s x ++ y) (h 0 (omega arith)) (lines_ext os (suc new) f g λ k i. h (suc k) (omega arith))

-- ---- the text of an order
module _ {words tags : List ℕ} {n : ℕ} (p : Tape words tags n) (q : Passed words tags n) {order : List ℕ} (l : Listed words tags n (replicate 256 0) (Ok tt) order) {count : ℕ} (e : count ≡ count_at 6 words) where
  order_long : length order ≡ 256
  order_long = list_long words tags n p (replicate 256 0) order (Ok tt) l refl (length-replicate {A = ℕ} 256 0)

  count_fits : count ≤ 256
  count_fits = count_few words tags n p count e

  taken_long : length (take count order) ≡ count
  taken_long = length-take-le count order (omega (arith, order_long, count_fits))

  module _ {m : Module} (t : Taped words tags n m) where
    functions_are : count ≡ length m.functions
    functions_are = e ∙ taped_functions t

    order_is : order_of m ≡ ordered (take count order)
    order_is = all_is (order_of m) _ (l.is m t) ∙ ap (λ k. ordered (take k order)) (sym functions_are)

    known : (k : ℕ) → k < length (take count order) → get_or (take count order) k 0 < length m.functions
    unfolding order_of
    known k h = order-known (length m.functions) (calls m) (take count order) order_is k h

    named-same : ordered_text (take count order) (name_is words) ≡ ordered_text (take count order) (name_of m)
    unfolding ordered_text
    named-same = ap (headed FUNCTIONS (length (take count order)) ++◌) (lines_ext (take count order) 0 (name_is words) (name_of m) λ k h. text_of t (get_or (take count order) k 0) (passed-naming q m t) (omega (arith, known k h, functions_are)))

    fitting : length (ordered_text (take count order) (name_of m)) ≤ 65536
    unfolding order_of
    fitting =
        text_fits t (passed-naming q m t) (functions_distinct m (q.names m t)) (take count order)
        (distinct-once (take count order) (order-once (length m.functions) (calls m) (take count order) order_is))
        (taken_long ∙ functions_are)
        known

  of_table : (k : ℕ) → k < length (take count order) → get_or (take count order) k 0 < count_at 6 words
  of_table k h = omega (arith, known p.taped k h, functions_are p.taped)

  pub all_long : count ≤ length order
  all_long = omega (arith, order_long, count_fits)

  pub text_asks : {out : List ℕ} → length out ≡ 65536 → Text words (take count order) out
  text_asks h =
      record {
        prints =
            record {
              count_few = omega (arith, taken_long, count_fits);
              known = λ k i. readable p (passed-naming q) (get_or (take count order) k 0) (of_table k i);
              few = λ k i. omega (arith, of_table k i, few p.taped);
            };
        long = h;
        fits = omega (arith, ap length (named-same p.taped), fitting p.taped);
      }

  pub text_tells : {out out' : List ℕ} {r : ℕ} → length out ≡ 65536 → TextEnsures out 0 (ordered_text (take count order) (name_is words)) out' r → Tells words tags n out out' r 0 0
  unfolding telling
  text_tells {out} {out'} {r} h u =
      record {
        same = λ m t.
            let v : TextEnsures out 0 (ordered_text (take count order) (name_of m)) out' r = rw (named-same t) at u in
            rw (order_is t) (record { puts = v; within = omega (arith, v.ends, fitting t, puts_long v); refusal_is = refl; left_is = refl });
      }

-- ---- a ring
module _ {words tags : List ℕ} {n : ℕ} {before order : List ℕ} {e : Refusal} (l : Listed words tags n before (Err e) order) where
  pub left_few : Tape words tags n → count_of e < 1000
  unfolding order_of
  left_few p =
      let r = ring_is (order_of p.holds) e _ (l.is p.holds p.taped) in
      omega (arith, ap count_of r.1, ring_few (length p.holds.functions) (calls p.holds) r.0 r.2, few p.taped, taped_functions p.taped)

  pub ring_tells : {out out' : List ℕ} {x r : ℕ} → x ≡ count_of e → length out ≡ 65536 → TextEnsures out 0 (headed RINGS x) out' r → Tells words tags n out out' r (refusal_number e) (count_of e)
  unfolding telling
  ring_tells {out} {out'} {x} {r} f h u =
      record {
        same = λ m t.
            let is = ring_is (order_of m) e _ (l.is m t) in
            let v : TextEnsures out 0 (headed RINGS is.0) out' r = rw (f ∙ ap count_of is.1) at u in
            rw is.2 (record { puts = v; within = omega (arith, v.ends, headed_long RINGS is.0, (decimal_long is.0).1, puts_long v); refusal_is = ap refusal_number is.1; left_is = ap count_of is.1 });
      }

-- the same, of an answer that is known to be one of them
pub long_all : {words tags : List ℕ} {n : ℕ} {order : List ℕ} {a : Result (Unit {0}) Refusal} → Tape words tags n → Passed words tags n → a ≡ Ok tt → Listed words tags n (replicate 256 0) a order → {count : ℕ} → count ≡ count_at 6 words → count ≤ length order
long_all p q e l c = all_long p q (rw e at l) c

pub asks_all : {words tags : List ℕ} {n : ℕ} {order : List ℕ} {a : Result (Unit {0}) Refusal} → Tape words tags n → Passed words tags n → a ≡ Ok tt → Listed words tags n (replicate 256 0) a order → {count : ℕ} → count ≡ count_at 6 words → {out : List ℕ} → length out ≡ 65536 → Text words (take count order) out
asks_all p q e l c h = text_asks p q (rw e at l) c h

pub tells_all : {words tags : List ℕ} {n : ℕ} {order : List ℕ} {a : Result (Unit {0}) Refusal} → Tape words tags n → Passed words tags n → a ≡ Ok tt → Listed words tags n (replicate 256 0) a order → {count : ℕ} → count ≡ count_at 6 words
    → {out out' : List ℕ} {r : ℕ} → length out ≡ 65536 → TextEnsures out 0 (ordered_text (take count order) (name_is words)) out' r → Tells words tags n out out' r 0 0
tells_all p q e l c h u = text_tells p q (rw e at l) c h u

pub few_ring : {words tags : List ℕ} {n : ℕ} {before order : List ℕ} {a : Result (Unit {0}) Refusal} {refusal : Refusal} → Tape words tags n → a ≡ Err refusal → Listed words tags n before a order → count_of refusal < 1000
few_ring p e l = left_few (rw e at l) p

pub tells_ring : {words tags : List ℕ} {n : ℕ} {before order : List ℕ} {a : Result (Unit {0}) Refusal} {refusal : Refusal} → a ≡ Err refusal → Listed words tags n before a order
    → {out out' : List ℕ} {x r : ℕ} → x ≡ count_of refusal → length out ≡ 65536 → TextEnsures out 0 (headed RINGS x) out' r → Tells words tags n out out' r (refusal_number refusal) (count_of refusal)
tells_ring e l i h u = ring_tells (rw e at l) i h u

-- ---- any bytes
no_count : (e : Refusal) → refusal_number e ≤ 6 → count_of e ≡ 0
no_count refusal.BadSize h = refl
no_count refusal.BadLayout h = refl
no_count refusal.BadRange h = refl
no_count refusal.BadReference h = refl
no_count refusal.BadNames h = refl
no_count refusal.BadScope h = refl
no_count refusal.ShortOutput h = refl
no_count refusal.OriginalNotFound h = refl
no_count refusal.ReplacementNotFound h = refl
no_count refusal.ArgumentTypes h = refl
no_count refusal.ResultTypes h = refl
no_count (refusal.Ring left) h = absurd (omega arith)
no_count refusal.NumberGiven h = refl
no_count refusal.NoSource h = refl
no_count refusal.Full h = refl
no_count refusal.UnknownRing h = refl

module _ {image words tags : List ℕ} where
  module _ {n : ℕ} (got : TakeInEnsures (Ok n) words tags image) where
    held : Accepts image words tags n
    held = got.held n refl

    pub held_tape : Tape words tags n
    held_tape = record { holds = held.holds; taped = held.taped }

    pub held-passed : Passed words tags n
    held-passed = passed-one held.taped held.passes.numbers held.passes.names

    pub accepted_says : {out out' : List ℕ} {r k left : ℕ} → Tells words tags n out out' r k left → TellEnsures (telling_of image) out out' r k left
    unfolding telling_of on_image
    accepted_says {out} {out'} {r} {k} {left} l =
        let i : telling_of image ≡ telling held.holds (order_of held.holds) = on_module (λ m. telling m (order_of m)) refusing (length image) (words_of image) held.holds (sym got.same) held.reads in
        subst (λ x. TellEnsures x out out' r k left) (sym i) (l.same held.holds held.taped)

  low : {e : Refusal} → TakeInEnsures (Err e) words tags image → refusal_number e ≤ 6
  low got = omega (arith, got.same, intake_low (length image) (words_of image))

  pub refused_few : {e : Refusal} → TakeInEnsures (Err e) words tags image → refusal_number e < 1000
  refused_few got = omega (arith, low got)

  pub refused_says : {e : Refusal} → TakeInEnsures (Err e) words tags image → {out out' : List ℕ} {x r : ℕ} → x ≡ refusal_number e → length out ≡ 65536 → TextEnsures out 0 (headed REFUSED x) out' r → TellEnsures (telling_of image) out out' r (refusal_number e) (count_of e)
  unfolding telling_of on_image refusing
  refused_says {e} got {out} {out'} {x} {r} f g u =
      let y = refused_by e in
      let i : telling_of image ≡ refusing (suc y.0) = on_refused (λ m. telling m (order_of m)) refusing (length image) (words_of image) y.0 (sym got.same ∙ y.1) in
      let v : TextEnsures out 0 (headed REFUSED (suc y.0)) out' r = rw (f ∙ y.1) at u in
      subst (λ z. TellEnsures z out out' r (refusal_number e) (count_of e)) (sym i) (record { puts = v; within = omega (arith, v.ends, headed_long REFUSED (suc y.0), (decimal_long (suc y.0)).1, puts_long v); refusal_is = y.1; left_is = no_count e (low got) })
