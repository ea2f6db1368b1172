-- Names in the order of first appearance, and their places.
use mathlib.Core.Path.{◌≡◌, refl, sym, ap, ◌∙◌}
use mathlib.Core.Bool.{cond}
use mathlib.Core.Logic.{◌⊎◌, inl, inr}
use mathlib.Core.List.{List, [], ◌∷◌, ◌++◌}
use Prim.Native.Nat.{ℕ, zero, suc, ◌+◌, ◌-◌, ◌≤◌, ◌<◌}
use native.Mathlib.Numerals.{add-one}
use native.Mathlib.Omega.{arith}
use lib.Dec.{eqb}
use lib.ListN.{length, get_or, set, take, replicate, length-set, length-replicate}
use lib.Seq.{take-suc-set, get_or-set_same, get_or-set_other, length-take-le}
use borrow.Author.Tests.{eqb-true, eqb-false, eq-eqb, ne_eqb}
use Rattle.theory_lists.specs.Lists.{zeros}
use Rattle.model.specs.Outcome.{Cell, Cells}
use Rattle.model.specs.Table.{NAME}
use Rattle.model.specs.Finish.{names_in, firsts, keep_n}
use Rattle.theory_finish.specs.Firsts.{either}
use Rattle.derive_sections.specs.Rows.{up, place_of, nonzero, AppearingEnsures}

up_zero : (x : ℕ) → up x ≡ 0 → x ≡ 0
unfolding up
up_zero zero e = refl
up_zero (suc x) e = absurd (omega arith)

pub keep_there : (ns : List ℕ) (m : ℕ) → (place_of ns m ≡ 0 → ⊥) → keep_n ns m ≡ ns
unfolding keep_n place_of up
keep_there [] m h = absurd (h refl)
keep_there (y ∷ ys) m h = let i = keep_there ys m in either (eqb y m) (λ e. rw (keep_n, e)) λ e. rw (keep_n, e) (ap (y ∷◌) (i λ z. h (rw (place_of, e, z))))

pub keep-new : (ns : List ℕ) (m : ℕ) → place_of ns m ≡ 0 → keep_n ns m ≡ ns ++ (m ∷ [])
unfolding keep_n place_of
keep-new [] m h = refl
keep-new (y ∷ ys) m h = let i = keep-new ys m in either (eqb y m) (λ e. let z : ◌≡◌ {A = ℕ} 1 0 = rw (place_of, e) at h in absurd (omega arith)) λ e. rw (keep_n, e) (ap (y ∷◌) (i (up_zero _ (rw (place_of, e) at h))))

place-new : (ns : List ℕ) (m : ℕ) → place_of ns m ≡ 0 → place_of (ns ++ (m ∷ [])) m ≡ suc (length ns)
unfolding place_of up
place-new [] m h = rw (place_of, eq-eqb m m refl)
place-new (y ∷ ys) m h = let i = place-new ys m in either (eqb y m) (λ e. let z : ◌≡◌ {A = ℕ} 1 0 = rw (place_of, e) at h in absurd (omega arith)) λ e. rw (place_of, e, i (up_zero _ (rw (place_of, e) at h)))

place_other : (ns : List ℕ) (m x : ℕ) → (m ≡ x → ⊥) → place_of (ns ++ (m ∷ [])) x ≡ place_of ns x
unfolding place_of up
place_other [] m x h = rw (place_of, ne_eqb m x h)
place_other (y ∷ ys) m x h = ap (λ k. cond (eqb y x) 1 (up k)) (place_other ys m x h)

nonzero-set : (l : List ℕ) (i v : ℕ) → i < length l → get_or l i 0 ≡ 0 → nonzero (set l i (suc v)) ≡ suc (nonzero l)
unfolding nonzero
nonzero-set [] i v h e = absurd (omega arith)
nonzero-set (zero ∷ l) zero v h e = refl
nonzero-set (suc x ∷ l) zero v h e = absurd (omega arith)
nonzero-set (zero ∷ l) (suc i) v h e = nonzero-set l i v (omega arith) e
nonzero-set (suc x ∷ l) (suc i) v h e = ap suc (nonzero-set l i v (omega arith) e)

nonzero_le : (l : List ℕ) → nonzero l ≤ length l
unfolding nonzero
nonzero_le [] = omega arith
nonzero_le (zero ∷ l) = omega (arith, nonzero_le l)
nonzero_le (suc x ∷ l) = omega (arith, nonzero_le l)

-- ---- nothing noted

none : (n : ℕ) → nonzero (replicate n 0) ≡ 0
unfolding nonzero
none zero = refl
none (suc n) = none n

pub noted_none : (names : ℕ) → names ≤ 512 → AppearingEnsures names [] (replicate 512 0) (replicate 512 0) 0
unfolding place_of
noted_none names h = record { names_few = h; order_long = length-replicate {A = ℕ} 512 0; places_long = length-replicate {A = ℕ} 512 0; few = omega arith; is = refl; filled = none 512; agree = zeros 512; inside = λ j l. absurd (omega arith) }

-- ---- one name
pub noted_self : {names : ℕ} {ns order places : List ℕ} {n : ℕ} → AppearingEnsures names ns order places n → AppearingEnsures names (take n order) order places n
noted_self v = rw v.is v

module _ (names : ℕ) (order places : List ℕ) (n m : ℕ) (v : AppearingEnsures names (take n order) order places n) where
  pub note_same : (get_or places m 0 ≡ 0 → ⊥) → AppearingEnsures names (keep_n (take n order) m) order places n
  note_same h = rw (keep_there (take n order) m λ z. h (v.agree m ∙ z)) v

  pub note_room : m < names → get_or places m 0 ≡ 0 → n < 512
  note_room h e = let a = nonzero-set places m 0 (omega (arith, v.places_long, v.names_few)) e in let b = nonzero_le (set places m 1) in omega (arith, v.filled, v.places_long, length-set places m 1)

  pub note_new : m < names → get_or places m 0 ≡ 0 → AppearingEnsures names (keep_n (take n order) m) (set order n m) (set places m (n + 1)) (n + 1)
  note_new h e =
      let room = note_room h e in
      let low : m < length places = omega (arith, v.places_long, v.names_few) in
      let z : place_of (take n order) m ≡ 0 = sym (v.agree m) ∙ e in
      let k = keep-new (take n order) m z in
      let l : length (take n order) ≡ n = length-take-le n order (omega (arith, v.order_long)) in
      record {
        names_few = v.names_few;
        order_long = length-set order n m ∙ v.order_long;
        places_long = length-set places m (n + 1) ∙ v.places_long;
        few = omega arith;
        is = rw (add-one n) (take-suc-set order n m (omega (arith, v.order_long)) ∙ sym k);
        filled = rw (add-one n) (nonzero-set places m n low e ∙ ap suc v.filled);
        agree = λ x. rw k (either (eqb m x)
            (λ q. let p : m ≡ x = eqb-true m x q in rw (← p) (get_or-set_same places m (n + 1) 0 low ∙ sym (place-new (take n order) m z ∙ omega arith)))
            (λ q. get_or-set_other places m x (n + 1) 0 (λ p. eqb-false m x q (sym p)) ∙ v.agree x ∙ sym (place_other (take n order) m x (eqb-false m x q))));
        inside = λ j g. either (eqb j n)
            (λ q. rw (eqb-true j n q, get_or-set_same order n m 0 (omega (arith, v.order_long))) h)
            (λ q. rw (get_or-set_other order n j m 0 (eqb-false j n q)) (v.inside j (let d = eqb-false j n q in omega arith)));
      }

-- ---- one word
names_none : (s w : ℕ) → (s ≡ NAME → ⊥) → names_in ((s, w) ∷ []) ≡ []
unfolding names_in
names_none s w h = rw (names_in, ne_eqb s NAME h)

names_zero : (s w : ℕ) → w ≡ 0 → names_in ((s, w) ∷ []) ≡ []
unfolding names_in
names_zero s w h = rw h (either (eqb s NAME) (λ e. rw (names_in, e)) λ e. rw (names_in, e))

names_one : (s w : ℕ) → s ≡ NAME → (w ≡ 0 → ⊥) → names_in ((s, w) ∷ []) ≡ (w - 1) ∷ []
unfolding names_in
names_one s zero e h = absurd (h refl)
names_one s (suc w) e h = let z : w ≡ suc w - 1 = omega arith in rw (names_in, eq-eqb s NAME e) (ap (◌∷ []) z)

module _ (names : ℕ) (order places : List ℕ) (n s w : ℕ) where
  abbrev After : List ℕ → List ℕ → ℕ → Type 0
  After order₁ places₁ n₁ = AppearingEnsures names (firsts (names_in ((s, w) ∷ [])) (take n order)) order₁ places₁ n₁

  pub word_none : AppearingEnsures names (take n order) order places n → ((s ≡ NAME → ⊥) ⊎ (w ≡ 0)) → After order places n
  unfolding firsts
  word_none v (inl h) = rw (names_none s w h) v
  word_none v (inr h) = rw (names_zero s w h) v

  pub word_low : (s ≡ NAME → w ≤ names) → s ≡ NAME → (w ≡ 0 → ⊥) → (m : ℕ) → m ≡ w - 1 → m < names
  word_low f e h m q = let g = f e in omega arith

  pub word_name : s ≡ NAME → (w ≡ 0 → ⊥) → (m : ℕ) → m ≡ w - 1 → (order₁ places₁ : List ℕ) (n₁ : ℕ) → AppearingEnsures names (keep_n (take n order) m) order₁ places₁ n₁ → After order₁ places₁ n₁
  unfolding firsts
  word_name e h m q order₁ places₁ n₁ v = rw (names_one s w e h, ← q) v

pub firsts-cell : (c : Cell) (cs : Cells) (seen : List ℕ) → firsts (names_in (c ∷ cs)) seen ≡ firsts (names_in cs) (firsts (names_in (c ∷ [])) seen)
unfolding names_in firsts
firsts-cell (s, zero) cs seen = either (eqb s NAME) (λ e. rw (names_in, e)) λ e. rw (names_in, e)
firsts-cell (s, suc n) cs seen = either (eqb s NAME) (λ e. rw (names_in, e)) λ e. rw (names_in, e)
