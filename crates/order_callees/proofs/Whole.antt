-- From one function to all of them, and from words and tags to the module that they hold.
use mathlib.Core.Path.{◌≡◌, refl, sym, ap, ap₂, ◌∙◌}
use mathlib.Core.Bool.{Bool, true, false, cond, ◌&&◌}
use mathlib.Core.Option.{some}
use mathlib.Core.List.{List, map}
use Prim.Native.Nat.{ℕ, ◌+◌, ◌≤◌, ◌<◌}
use native.Mathlib.Omega.{arith}
use lib.Dec.{eqb, ltb}
use lib.ListN.{length, get_elem?, length-map}
use borrow.Author.Tests.{eqb-true, eqb-false, ltb-true, ltb-false, lt-ltb, le-ltb}
use Rattle.theory_lists.specs.Lists.{found, missed}
use Rattle.model.specs.Tree.{Function, flat}
use Rattle.model.specs.Module.{Module, count_at, offset_at, sections}
use Rattle.model.specs.View.{record_at, record_end}
use Rattle.model.specs.Taped.{Taped}
use Rattle.model.specs.Carry.{Each, each_none, each_next}
use Rattle.model.specs.Calls.{any}
use Rattle.model.specs.Callees.{callees, callees_at, calls, order_of}
use Rattle.order_ranks.specs.Marks.{marked, NoCalls}
use Rattle.order_ranks.specs.declared.FunctionSet.{FunctionSet}
use Rattle.order_ranks.specs.Placing.{Orders}
use Rattle.base_refusals.specs.declared.Refusal.{Refusal}
use Rattle.std.specs.Prelude.{Result}
use Rattle.model.specs.Image.{order_ended}
use Rattle.theory_image.specs.Views.{view_length, view_within}
use Rattle.theory_image.specs.FunctionViews.{part_words, part_tags, taped_write, taped_length, taped_offset, taped_functions, taped_function, table_least}
use Rattle.theory_image.specs.Members.{looked_each}
use Rattle.order_callees.specs.Gathering.{picked, called_by, Known, Marks, Gathered, Listed}
use Rattle.theory_order.specs.Cells.{picks, cells_function}
use Rattle.order_callees.proofs.Marking.{among, Markable}
use Rattle.theory_order.specs.Same.{order_ext}

-- ---- one function
pub calls-these : (words tags : List ℕ) {before after : List FunctionSet} {i from to : ℕ} → from ≡ record_at 6 i words → to ≡ record_end 6 i words → Marks before i (picked words tags from to) after → Marks before i (called_by words tags i) after
unfolding called_by
calls-these words tags a b m = rw (a, b) at m

-- ---- all of them, one after the other
pub record Going (words tags : List ℕ) (i : ℕ) (callees : List FunctionSet) : Type 0 where
  pub high : i ≤ count_at 6 words
  pub long : length callees ≡ 256
  pub is : (k l : ℕ) → l < 256 → marked callees k l ≡ cond (ltb k i) (among (called_by words tags k) l) false

pub begin : (words tags : List ℕ) {callees : List FunctionSet} → NoCalls callees → Going words tags 0 callees
begin words tags c = record { high = omega arith; long = c.long; is = λ k l h. c.is k l ∙ rw (le-ltb k 0 (omega arith)) }

-- function k, once i is marked: those before i, i, and those after it
one_more : (k i : ℕ) (x y : Bool) → (k ≡ i → x ≡ y) → cond (eqb k i && x) true (cond (ltb k i) y false) ≡ cond (ltb k (i + 1)) y false
one_more k i x y s = go (ltb k i) refl (eqb k i) refl
  where
    go : (a : Bool) → ltb k i ≡ a → (b : Bool) → eqb k i ≡ b → cond (b && x) true (cond a y false) ≡ cond (ltb k (i + 1)) y false
    go true e true f = absurd (omega (arith, ltb-true k i e, eqb-true k i f))
    go true e false f = rw (lt-ltb k (i + 1) (omega (arith, ltb-true k i e)))
    go false e true f = rw (lt-ltb k (i + 1) (omega (arith, eqb-true k i f)), s (eqb-true k i f)) (same y)
      where
        same : (z : Bool) → cond z true false ≡ z
        same true = refl
        same false = refl
    go false e false f = let n : k ≡ i → ⊥ = eqb-false k i f in rw (le-ltb k (i + 1) (apart (ltb-false k i e) n))
      where
        apart : i ≤ k → (k ≡ i → ⊥) → i + 1 ≤ k
        apart h n = omega (arith, n)

pub again : {words tags : List ℕ} {callees after : List FunctionSet} {i : ℕ} → Going words tags i callees → i < count_at 6 words → Marks callees i (called_by words tags i) after → Going words tags (i + 1) after
again {words} {tags} {callees} {after} {i} g h m =
    record {
      high = omega arith;
      long = m.long ∙ g.long;
      is = λ k l b.
          m.is k l b
          ∙ ap (cond (eqb k i && among (called_by words tags i) l) true) (g.is k l b)
          ∙ one_more k i (among (called_by words tags i) l) (among (called_by words tags k) l) (λ e. ap (λ x. among (called_by words tags x) l) (sym e));
    }

-- ---- the module

wider : {a b : ℕ} → a ≤ b → {l : List ℕ} → Each (λ j. j < a) l → Each (λ j. j < b) l
wider h each_none = each_none
wider h (each_next {a = x} p ps) = each_next {a = x} (omega arith) (wider h ps)

module _ {words tags : List ℕ} {n : ℕ} {m : Module} (t : Taped words tags n m) where
  -- the callees of a record are those of the function
  called_is : (i : ℕ) (f : Function) → get_elem? m.functions i ≡ some f → called_by words tags i ≡ callees f
  unfolding called_by picked
  called_is i f e = let s = taped_function t i f e in ap₂ picks (part_tags s.held s.part) (part_words s.held s.part) ∙ cells_function s.well

  called_at : (i : ℕ) → i < count_at 6 words → called_by words tags i ≡ callees_at (get_elem? m.functions i)
  unfolding callees_at
  called_at i h =
      let x = found m.functions i (omega (arith, taped_functions t)) in
      called_is i x.0 x.1 ∙ sym (ap callees_at x.1)

  calls_is : (i l : ℕ) → cond (ltb i (count_at 6 words)) (among (called_by words tags i) l) false ≡ calls m i l
  unfolding calls callees_at any
  calls_is i l = go (ltb i (count_at 6 words)) refl
    where
      go : (b : Bool) → ltb i (count_at 6 words) ≡ b → cond b (among (called_by words tags i) l) false ≡ calls m i l
      go true e = ap (λ x. among x l) (called_at i (ltb-true i (count_at 6 words) e))
      go false e = sym (ap (λ x. among (callees_at x) l) (missed m.functions i (omega (arith, taped_functions t, ltb-false i (count_at 6 words) e))))

  pub few : count_at 6 words ≤ 256
  few = omega (arith, taped_functions t, t.well.functions_ok.few)

  -- each function has a set
  pub enough : {c : ℕ} (callees : List FunctionSet) → c ≡ count_at 6 words → length callees ≡ 256 → c ≤ length callees
  enough callees e l = omega (arith, few)

  pub offsets : offset_at 6 words + count_at 6 words ≤ 16384
  unfolding sections
  offsets =
      omega (arith, taped_offset t 6 (omega arith), taped_functions t, view_length m 6 (omega arith), table_least (map flat m.functions), length-map m.functions flat, view_within m 6 (omega arith), taped_write t, t.small)

  -- where a record lies, and that its callees can be marked
  pub asks : Known words tags n → {i : ℕ} → i < count_at 6 words → {callees : List FunctionSet} → length callees ≡ 256 → {from to : ℕ} → from ≡ record_at 6 i words → to ≡ record_end 6 i words → Markable words tags from to i callees
  unfolding called_by
  asks k {i} h l a b =
      let x = found m.functions i (omega (arith, taped_functions t)) in
      let p = (taped_function t i x.0 x.1).part in
      rw (a, b) (record {
        words_long = t.words_long;
        tags_long = t.tags_long;
        rising = p.rising;
        within = omega (arith, p.within, taped_length t, t.small);
        row = omega (arith, few);
        long = l;
        known = rw (called_is i x.0 x.1) (wider t.well.functions_ok.few (looked_each (k m t) i x.1));
      })

pub finish : {words tags : List ℕ} {callees : List FunctionSet} {i : ℕ} (n : ℕ) → Going words tags i callees → count_at 6 words ≤ i → Gathered words tags n callees
finish {words} {tags} {callees} {i} n g h =
    let e : i ≡ count_at 6 words = omega (arith, g.high) in
    record { long = g.long; is = λ m t k l b. g.is k l b ∙ ap (λ x. cond (ltb k x) (among (called_by words tags k) l) false) e ∙ calls_is t k l }

-- ---- the order
pub lists : {words tags : List ℕ} {callees : List FunctionSet} {out out' : List ℕ} {n c : ℕ} {r : Result (Unit {0}) Refusal} → c ≡ count_at 6 words → Gathered words tags n callees → Orders (marked callees) c out r out' → Listed words tags n out r out'
unfolding order_of
lists {words} {tags} {callees} {out} {out'} {n} {c} {r} e g o =
    record {
      is = λ m t. let q = e ∙ taped_functions t in rw (← q) (o.is ∙ ap order_ended (order_ext c (marked callees) (calls m) (λ i j h k. g.is m t i j (omega (arith, few t)))));
      rest = λ m t. let q = e ∙ taped_functions t in rw (← q) o.rest;
    }
