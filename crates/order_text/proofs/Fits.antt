-- There is room for the text of every order. A line is at most 9 bytes longer than its name; the functions of an order have different names, so their
-- names together are no longer than the table of names; and each name takes 8 bytes more of the image than its own, each function 4.
use mathlib.Core.Path.{◌≡◌, refl, sym, ap, ap₂, ◌∙◌}
use mathlib.Core.Bool.{Bool, true, false, cond, not, ◌&&◌}
use mathlib.Core.Option.{some}
use mathlib.Core.List.{List, [], ◌∷◌, map}
use Prim.Native.Nat.{ℕ, zero, suc, ◌+◌, ◌*◌, ◌-◌, ◌≤◌, ◌<◌}
use native.Mathlib.Omega.{arith}
use lib.Dec.{eqb}
use lib.ListN.{length, get_or, get_elem?, set, length-append, length-take, length-map}
use lib.Seq.{get_or-set_other}
use borrow.Author.Tests.{eq-eqb, eqb-false, not-true}
use Rattle.theory_lists.specs.Lists.{found, looked_get_d}
use Rattle.theory_lists.specs.Booleans.{and_split, and-true, never}
use Rattle.model.specs.Outcome.{Cells, word}
use Rattle.model.specs.Table.{name_row}
use Rattle.model.specs.Tree.{Function, flat, flat_all}
use Rattle.model.specs.Module.{Module, sections, places, flat_table}
use Rattle.model.specs.Taped.{Taped}
use Rattle.model.specs.Carry.{Lays, Each, each_none, each_next, WellFunction}
use Rattle.model.specs.Names.{absent, distinct, function_names}
use Rattle.model.specs.Calls.{keep, times}
use Rattle.model.specs.Redirect.{name_word}
use Rattle.theory_image.specs.Sections.{length-places}
use Rattle.theory_image.specs.Views.{view_first, view_next, view_length, view_rising, view_within}
use Rattle.theory_image.specs.FunctionViews.{taped_write, table_least}
use Rattle.base_words.specs.Words.{bytes_of}
use Rattle.order_lines.specs.Lines.{name_text, name_in, name_of, line_text, lines_text, headed, FUNCTIONS, ordered_text}
use Rattle.order_text.specs.Telling.{NamesKnown}
use Rattle.order_text.proofs.Names.{Text, texts, text_shape}
use Rattle.order_lines.proofs.Joining.{decimal_long, numbers_long, line_long, headed_long}
use Rattle.order_text.proofs.Known.{head_field}

-- ---- sums over places, none of them twice
unfoldable sum : List ℕ → ℕ
sum [] = 0
sum (w ∷ ws) = w + sum ws

unfoldable sum_at : List ℕ → List ℕ → ℕ
sum_at [] ws = 0
sum_at (i ∷ is) ws = get_or ws i 0 + sum_at is ws

sum-set : (ws : List ℕ) (i : ℕ) → sum (set ws i 0) + get_or ws i 0 ≡ sum ws
unfolding sum
sum-set [] zero = refl
sum-set [] (suc i) = refl
sum-set (w ∷ ws) zero = omega arith
sum-set (w ∷ ws) (suc i) = omega (arith, sum-set ws i)

sum_at_set : (is ws : List ℕ) (i : ℕ) → absent is i ≡ true → sum_at is (set ws i 0) ≡ sum_at is ws
unfolding sum_at absent
sum_at_set [] ws i h = refl
sum_at_set (k ∷ is) ws i h =
    let a = and_split (not (eqb i k)) (absent is i) h in
    let n : i ≡ k → ⊥ = eqb-false i k (not-true (eqb i k) a.0) in
    ap₂ ◌+◌ (get_or-set_other ws i k 0 0 λ e. n (sym e)) (sum_at_set is ws i a.1)

sum-once : (is ws : List ℕ) → distinct is ≡ true → sum_at is ws ≤ sum ws
unfolding sum_at distinct
sum-once [] ws h = omega arith
sum-once (i ∷ is) ws h = let a = and_split (absent is i) (distinct is) h in omega (arith, sum-once is (set ws i 0) a.1, sum_at_set is ws i a.0, sum-set ws i)

-- a list in which nothing is twice
absent_none : (is : List ℕ) (x : ℕ) → times is x ≡ 0 → absent is x ≡ true
unfolding absent keep
absent_none [] x h = refl
absent_none (i ∷ is) x h = go (eqb x i) h (absent_none is x)
  where
    go : (b : Bool) → length (cond b (i ∷ keep is (eqb x)) (keep is (eqb x))) ≡ 0 → (times is x ≡ 0 → absent is x ≡ true) → not b && absent is x ≡ true
    go true k f = absurd (omega arith)
    go false k f = f k

pub distinct-once : (is : List ℕ) → ((x : ℕ) → times is x ≤ 1) → distinct is ≡ true
unfolding distinct keep
distinct-once [] h = refl
distinct-once (i ∷ is) h = and-true (absent_none is i (here (eqb i i) (eq-eqb i i refl) (h i))) (distinct-once is λ x. less (eqb x i) x (h x))
  where
    here : (b : Bool) → b ≡ true → length (cond b (i ∷ keep is (eqb i)) (keep is (eqb i))) ≤ 1 → times is i ≡ 0
    here true e k = omega arith
    here false e k = absurd (never false e refl)

    less : (b : Bool) (x : ℕ) → length (cond b (i ∷ keep is (eqb x)) (keep is (eqb x))) ≤ 1 → times is x ≤ 1
    less true x k = omega arith
    less false x k = k

-- ---- what a name takes
abbrev weight : Cells → ℕ
weight r = 8 + length (name_text r)

name_weight : {r : Cells} → Text r → weight r ≤ 4 * suc (length r)
unfolding name_text
name_weight (texts b cs h) = omega (arith, length-take b (bytes_of (map word cs)))

names_weight : {rs : List Cells} → Each (Lays name_row) rs → sum (map weight rs) ≤ 4 * (length rs + length (flat_all rs))
unfolding sum flat_all
names_weight each_none = omega arith
names_weight (each_next {a = r} {l = rs} l ls) = omega (arith, name_weight (text_shape l), names_weight ls, length-append r (flat_all rs))

table_weight : {rs : List Cells} → Each (Lays name_row) rs → sum (map weight rs) ≤ 4 * length (flat_table rs)
unfolding flat_table
table_weight {rs} ls = omega (arith, names_weight ls, length-append (places (length rs) rs) (flat_all rs), length-places rs (length rs))

-- ---- of functions
module _ (ns : List Cells) where
  abbrev named : Function → ℕ
  named f = 8 + length (name_in ns (some f))

  looked_map : {A : Type 0} (g : A → ℕ) (l : List A) (i : ℕ) {x : A} → get_elem? l i ≡ some x → get_or (map g l) i 0 ≡ g x
  looked_map g [] i e = let z : ◌≡◌ {A = ℕ} 0 1 = cc in absurd (omega arith)
  looked_map g (y ∷ l) zero e = cc
  looked_map g (y ∷ l) (suc i) e = looked_map g l i e

  one_weight : (f : Function) → 0 < name_word f → name_word f ≤ length ns → named f ≡ get_or (0 ∷ map weight ns) (name_word f) 0
  unfolding name_in
  one_weight f a b = go (name_word f) a b
    where
      go : (w : ℕ) → 0 < w → w ≤ length ns → weight (get_or ns (w - 1) []) ≡ get_or (0 ∷ map weight ns) w 0
      go zero a b = absurd (omega arith)
      go (suc w) a b = let z : suc w - 1 ≡ w = omega arith in let r = found ns w (omega arith) in ap (λ j. weight (get_or ns j [])) z ∙ ap weight (looked_get_d ns w [] r.1) ∙ sym (looked_map weight ns w r.1)

  functions_weight : {fs : List Function} → Each WellFunction fs → Each (λ f. (0 < name_word f) × (name_word f ≤ length ns)) fs → sum (map named fs) ≡ sum_at (function_names fs) (0 ∷ map weight ns)
  unfolding sum sum_at function_names name_word
  functions_weight each_none k = refl
  functions_weight (each_next {a = f} {l = fs} w ws) (each_next k ks) =
      ap₂ ◌+◌ (one_weight f k.0 k.1 ∙ ap (λ i. get_or (0 ∷ map weight ns) i 0) (sym (head_field w.head_ok))) (functions_weight ws ks)

-- ---- of lines
module _ (m : Module) where
  abbrev weights : List ℕ
  weights = map (named m.names) m.functions

  line_weight : (new s : ℕ) → s < length m.functions → length (line_text new s (name_of m s)) ≤ 1 + get_or weights s 0
  unfolding name_of
  line_weight new s h =
      let f = found m.functions s h in
      omega (arith, (decimal_long new).1, (decimal_long s).1, numbers_long new s, line_long new s (name_of m s), looked_map m.names (named m.names) m.functions s f.1, ap (λ o. length (name_in m.names o)) f.1)

  lines_weight : (os : List ℕ) (new : ℕ) → ((k : ℕ) → k < length os → get_or os k 0 < length m.functions) → length (lines_text os new (name_of m)) ≤ length os + sum_at os weights
  unfolding lines_text sum_at
  lines_weight [] new h = omega arith
  lines_weight (s ∷ os) new h =
      omega (arith, line_weight new s (h 0 (omega arith)), lines_weight os (suc new) (λ k i. h (suc k) (omega arith)), length-append (line_text new s (name_of m s)) (lines_text os (suc new) (name_of m)))

-- ---- the text
module _ {words tags : List ℕ} {n : ℕ} {m : Module} (t : Taped words tags n m) where
  image_weight : 20 + length (flat_table m.names) + length m.functions ≤ n
  unfolding sections
  image_weight =
      let a = view_first m in
      let b = view_length m 0 (omega arith) in
      let c = view_next m 0 (omega arith) in
      let d₁ = view_rising m 1 (omega arith) in
      let e₁ = view_next m 1 (omega arith) in
      let d₂ = view_rising m 2 (omega arith) in
      let e₂ = view_next m 2 (omega arith) in
      let d₃ = view_rising m 3 (omega arith) in
      let e₃ = view_next m 3 (omega arith) in
      let d₄ = view_rising m 4 (omega arith) in
      let e₄ = view_next m 4 (omega arith) in
      let d₅ = view_rising m 5 (omega arith) in
      let e₅ = view_next m 5 (omega arith) in
      let f = view_length m 6 (omega arith) in
      let g = view_within m 6 (omega arith) in
      omega (arith, table_least (map flat m.functions), length-map m.functions flat, taped_write t)

  pub text_fits : NamesKnown m → distinct (function_names m.functions) ≡ true → (os : List ℕ) → distinct os ≡ true → length os ≡ length m.functions → ((k : ℕ) → k < length os → get_or os k 0 < length m.functions) → length (ordered_text os (name_of m)) ≤ 65536
  unfolding ordered_text sum
  text_fits k d os e l h =
      let a = lines_weight m os 0 h in
      let b = sum-once os (weights m) e in
      let c = functions_weight m.names t.well.functions_ok.each k in
      let f = sum-once (function_names m.functions) (0 ∷ map weight m.names) d in
      let g = table_weight t.well.names_ok.each in
      omega (arith, image_weight, t.small, headed_long FUNCTIONS (length os), (decimal_long (length os)).1, length-append (headed FUNCTIONS (length os)) (lines_text os 0 (name_of m)))
