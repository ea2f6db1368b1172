-- A function's record after the log's end: the parts were written one after the other, words and classes alike, so that what was written is the whole.
use mathlib.Core.Path.{◌≡◌, refl, sym, ap, ap₂, ◌∙◌}
use mathlib.Core.Logic.{◌⊎◌, inl, inr, ⊎_elim}
use mathlib.Core.Bool.{true, false, false≢true}
use mathlib.Core.List.{List, [], ◌∷◌, ◌++◌, map, append_assoc, map-append}
use Prim.Native.Nat.{ℕ, zero, suc, ◌+◌, ◌*◌, ◌-◌, ◌/◌, ◌≤◌, ◌<◌}
use native.Mathlib.Nat.{add-zero, div-eq_of_eq-mul_left}
use native.Mathlib.Omega.{arith}
use lib.ListN.{length, get_or, set, length-append, length-map}
use lib.Seq.{sets, slice, length-slice}
use Rattle.model.specs.Outcome.{Cell, Cells, class, word}
use Rattle.model.specs.Table.{NAME, NAMED-EXPR, EXPRESSIONS, NAMED}
use Rattle.model.specs.Between.{beside, between}
use Rattle.derive_state.specs.Held.{row, put, Written}
use Rattle.derive_state.specs.Sizes.{Sizes}
use Rattle.derive_state.proofs.State.{same_or, same_refl, wrote-same, wrote-log, wrote_tags, wrote_head, wrote-rec}
use Rattle.function_builder.specs.Stacks.{Stacks}
use Rattle.function_names.specs.Named.{pairs_in}
use Rattle.function_record.specs.Closed.{name_cells, named_classes, closing, AppendRecordEnsures}

-- ---- contiguous writes
sets_then : (xs l : List ℕ) (i : ℕ) (ys : List ℕ) → sets (sets l i xs) (i + length xs) ys ≡ sets l i (xs ++ ys)
sets_then [] l i ys = rw (add-zero i)
sets_then (x ∷ xs) l i ys = let z : i + suc (length xs) ≡ suc i + length xs = omega arith in rw z (sets_then xs (set l i x) (suc i) ys)

joined : (xs ys l m r : List ℕ) (i j : ℕ) → m ≡ sets l i xs → r ≡ sets m j ys → j ≡ i + length xs → r ≡ sets l i (xs ++ ys)
joined xs ys l m r i j p q e = q ∙ ap₂ (λ (m : List ℕ) (j : ℕ). sets m j ys) p e ∙ sets_then xs l i ys

-- seven parts, two of them one word
abbrev seven : List ℕ → List ℕ → ℕ → List ℕ → ℕ → List ℕ → List ℕ → List ℕ
seven H F v X w N T = H ++ (F ++ (v ∷ (X ++ (w ∷ (N ++ T)))))

module _ (H F X N T l₁ l₂ l₃ l₅ l₇ l₈ : List ℕ) (v w i p f x q n t : ℕ)
    (h : l₂ ≡ sets l₁ i H) (g : l₃ ≡ sets l₂ p F) (y : l₅ ≡ sets (set l₃ f v) x X) (z : l₇ ≡ sets (set l₅ q w) n N) (k : l₈ ≡ sets l₇ t T)
    (ep : p ≡ i + length H) (ef : f ≡ p + length F) (ex : x ≡ suc f) (eq : q ≡ x + length X) (en : n ≡ suc q) (exprtop : t ≡ n + length N) where
  seven-joined : l₈ ≡ sets l₁ i (seven H F v X w N T)
  seven-joined =
      let a = joined N T (set l₅ q w) l₇ l₈ n t z k exprtop ∙ ap (λ (j : ℕ). sets (set l₅ q w) j (N ++ T)) en in
      let b = joined X (w ∷ (N ++ T)) (set l₃ f v) l₅ l₈ x q y a eq ∙ ap (λ (j : ℕ). sets (set l₃ f v) j (X ++ (w ∷ (N ++ T)))) ex in
      let c = joined F (v ∷ (X ++ (w ∷ (N ++ T)))) l₂ l₃ l₈ p f g b ef in
      joined H (F ++ (v ∷ (X ++ (w ∷ (N ++ T))))) l₁ l₂ l₈ i p h c ep

length-seven : (H F : List ℕ) (v : ℕ) (X : List ℕ) (w : ℕ) (N T : List ℕ) → length (seven H F v X w N T) ≡ length H + length F + 1 + length X + 1 + length N + length T
length-seven H F v X w N T =
    let a = length-append N T in
    let b = length-append X (w ∷ (N ++ T)) in
    let c = length-append F (v ∷ (X ++ (w ∷ (N ++ T)))) in
    let d = length-append H (F ++ (v ∷ (X ++ (w ∷ (N ++ T))))) in
    omega arith

seven-same : {H H' F F' X X' N N' T T' : List ℕ} {v v' w w' : ℕ} → H ≡ H' → F ≡ F' → v ≡ v' → X ≡ X' → w ≡ w' → N ≡ N' → T ≡ T' → seven H F v X w N T ≡ seven H' F' v' X' w' N' T'
seven-same h f v x w n t i = seven (h i) (f i) (v i) (x i) (w i) (n i) (t i)

seven-map : (g : Cell → ℕ) (H F : Cells) (v : Cell) (X : Cells) (w : Cell) (N T : Cells)
    → map g (H ++ (((F ++ (v ∷ X)) ++ (w ∷ N)) ++ T)) ≡ seven (map g H) (map g F) (g v) (map g X) (g w) (map g N) (map g T)
seven-map g H F v X w N T = simp (map-append g, append_assoc)

-- ---- words and classes of cells
word-beside : (ss ws : List ℕ) → length ss ≡ length ws → map word (beside ss ws) ≡ ws
unfolding beside
word-beside [] [] e = refl
word-beside [] (w ∷ ws) e = absurd (omega arith)
word-beside (s ∷ ss) [] e = absurd (omega arith)
word-beside (s ∷ ss) (w ∷ ws) e = ap (w ∷◌) (word-beside ss ws (omega arith))

class-beside : (ss ws : List ℕ) → length ss ≡ length ws → map class (beside ss ws) ≡ ss
unfolding beside
class-beside [] ws e = refl
class-beside (s ∷ ss) [] e = absurd (omega arith)
class-beside (s ∷ ss) (w ∷ ws) e = ap (s ∷◌) (class-beside ss ws (omega arith))

word_names : (ws : List ℕ) → length (pairs_in ws) * 2 ≡ length ws → map word (name_cells ws) ≡ ws
unfolding name_cells pairs_in
word_names [] e = refl
word_names (k ∷ []) e = absurd (omega arith)
word_names (k ∷ w ∷ ws) e = ap (λ (l : List ℕ). k ∷ w ∷ l) (word_names ws (omega arith))

class_names : (ws : List ℕ) → map class (name_cells ws) ≡ named_classes (length (pairs_in ws))
unfolding name_cells pairs_in named_classes
class_names [] = refl
class_names (k ∷ []) = refl
class_names (k ∷ w ∷ ws) = ap (λ (l : List ℕ). NAMED-EXPR ∷ NAME ∷ l) (class_names ws)

length_cut : (a n : ℕ) (l : List ℕ) → a + n ≤ length l → length (slice a (a + n) l) ≡ n
length_cut a n l h = length-slice a (a + n) l h ∙ omega arith

-- ---- sizes, as the code has them
abbrev pub names_of : Sizes → Sizes → ℕ → ℕ → ℕ → ℕ → ℕ
names_of before e s exprs body end = e.bodytop - before.bodytop - (exprs - s) - (end - body)

abbrev pub size_of : Sizes → Sizes → ℕ → ℕ → ℕ → ℕ → ℕ → ℕ
size_of before e s exprs body end head = head + (exprs - s) + 1 + (e.exprtop - before.exprtop) + 1 + names_of before e s exprs body end + (end - body)

abbrev pub whole : List ℕ → List (List ℕ) → Sizes → Sizes → ℕ → ℕ → ℕ → ℕ → ℕ → Cells
whole tags stacks before e s exprs body end head = between (row stacks 1) (row stacks 0) e.exprtop (e.exprtop + head) ++ closing tags stacks before e s exprs body end

-- where the body and the named expressions start on the stack of words
abbrev pub tail_from : Sizes → ℕ → ℕ → ℕ
tail_from before s exprs = before.bodytop + (exprs - s)

abbrev pub names_from : Sizes → ℕ → ℕ → ℕ → ℕ → ℕ
names_from before s exprs body end = before.bodytop + (exprs - s) + (end - body)

-- where the counts of expressions and of named expressions go
abbrev pub made_at : Sizes → ℕ → ℕ → ℕ → ℕ
made_at e s exprs head = e.loglen + 1 + head + (exprs - s)

abbrev pub named_at : Sizes → Sizes → ℕ → ℕ → ℕ → ℕ
named_at before e s exprs head = e.loglen + 1 + head + (exprs - s) + 1 + (e.exprtop - before.exprtop)

-- the parts, by row of the stacks: the words above the expressions, declarations, expressions, named expressions, body
abbrev pub top_part : List (List ℕ) → Sizes → ℕ → ℕ → List ℕ
top_part stacks e head t = slice e.exprtop (e.exprtop + head) (row stacks t)

abbrev pub front_part : List (List ℕ) → Sizes → ℕ → ℕ → List ℕ
front_part stacks before s exprs = slice before.bodytop (tail_from before s exprs) (row stacks 3)

abbrev pub made_part : List (List ℕ) → Sizes → Sizes → ℕ → List ℕ
made_part stacks before e t = slice before.exprtop (before.exprtop + (e.exprtop - before.exprtop)) (row stacks t)

abbrev pub names_part : List (List ℕ) → Sizes → Sizes → ℕ → ℕ → ℕ → ℕ → List ℕ
names_part stacks before e s exprs body end = slice (names_from before s exprs body end) (names_from before s exprs body end + names_of before e s exprs body end) (row stacks 3)

abbrev pub tail_part : List (List ℕ) → Sizes → ℕ → ℕ → ℕ → ℕ → List ℕ
tail_part stacks before s exprs body end = slice (tail_from before s exprs) (names_from before s exprs body end) (row stacks 3)

-- the parts of words and of classes
abbrev pub spelled : List (List ℕ) → Sizes → Sizes → ℕ → ℕ → ℕ → ℕ → ℕ → List ℕ
spelled stacks before e s exprs body end head =
    seven (top_part stacks e head 0)
    (front_part stacks before s exprs)
    e.made
    (made_part stacks before e 0)
    (names_of before e s exprs body end / 2)
    (names_part stacks before e s exprs body end)
    (tail_part stacks before s exprs body end)

abbrev pub classed : List ℕ → List (List ℕ) → Sizes → Sizes → ℕ → ℕ → ℕ → ℕ → ℕ → List ℕ
classed tags stacks before e s exprs body end head =
    seven (top_part stacks e head 1)
    (slice s (s + (exprs - s)) tags)
    EXPRESSIONS
    (made_part stacks before e 1)
    NAMED
    (named_classes (names_of before e s exprs body end / 2))
    (slice body (body + (end - body)) tags)

length-named : (n : ℕ) → length (named_classes n) ≡ 2 * n
unfolding named_classes
length-named zero = refl
length-named (suc n) = let h = length-named n in omega arith

-- ---- a table below its limit has a free place
free : (n limit : ℕ) → n ≤ limit → (n ≡ limit → ⊥) → n < limit
free n limit h more = ⊎_elim (λ (q : n ≡ limit). absurd (more q)) (λ (q : n ≡ limit → ⊥). omega arith) (same_or n limit)

pub seated : (n limit : ℕ) → n ≤ limit → (n ≡ limit → ⊥) → limit ≤ 512 → n < 512
seated n limit h more l = let k = free n limit h more in omega arith

-- ---- room: what the code's sums come to
pub record Room (loglen pairs exprtop₀ exprtop bodytop₀ bodytop s body head front tail made names : ℕ) : Type 0 where
  pub fits : 23 + 2 * pairs + (loglen + 1 + (head + front + 1 + made + 1 + names + tail)) ≤ 16384
  pub top : exprtop + head ≤ 16384
  pub made_in : exprtop₀ + made ≡ exprtop
  pub names_in_lem : bodytop₀ + front + tail + names ≡ bodytop
  pub high : bodytop ≤ 16384
  pub front_in : s + front ≤ 16384
  pub tail_in : body + tail ≤ 16384

pub room : {stacks : List (List ℕ)} (tags : List ℕ) (before e : Sizes) (s exprs body end head : ℕ) → (s ≤ exprs) × (exprs ≤ body) × (body ≤ end) × (end ≤ 16384) × (length tags ≡ 16384) → e.exprtop + head ≤ 16384
    → (Stacks stacks e) × (before.exprtop ≤ e.exprtop) × (before.bodytop + ((exprs - s) + (end - body)) ≤ e.bodytop)
    → (r : ℕ) → r + (23 + 2 * e.pairs + e.loglen) ≡ 16384 → 1 + size_of before e s exprs body end head ≤ r
    → Room e.loglen e.pairs before.exprtop e.exprtop before.bodytop e.bodytop s body head (exprs - s) (end - body) (e.exprtop - before.exprtop) (names_of before e s exprs body end)
room tags before e s exprs body end head p₁ top p₃ r left h = record {
  fits = omega arith;
  top = top;
  made_in = let k = p₃.1 in omega arith;
  names_in_lem = let k = p₃.2 in omega arith;
  high = p₃.0.high';
  front_in = omega arith;
  tail_in = omega arith;
}

module _ (tags : List ℕ) (stacks : List (List ℕ)) (before e : Sizes) (s exprs body end head : ℕ)
    (p₁ : (s ≤ exprs) × (exprs ≤ body) × (body ≤ end) × (end ≤ 16384) × (length tags ≡ 16384))
    (top : e.exprtop + head ≤ 16384)
    (p₃ : (Stacks stacks e) × (before.exprtop ≤ e.exprtop) × (before.bodytop + ((exprs - s) + (end - body)) ≤ e.bodytop))
    (p₄ : length (pairs_in (slice (before.bodytop + ((exprs - s) + (end - body))) e.bodytop (row stacks 3))) * 2 + (before.bodytop + ((exprs - s) + (end - body))) ≡ e.bodytop) where
  row_long : (t : ℕ) → t < 4 → length (row stacks t) ≡ 16384
  row_long t h = p₃.0.rows t h

  names_from_lem : before.bodytop + ((exprs - s) + (end - body)) ≡ names_from before s exprs body end
  names_from_lem = omega arith

  made_is : before.exprtop + (e.exprtop - before.exprtop) ≡ e.exprtop
  made_is = let h = p₃.1 in omega arith

  front_is : s + (exprs - s) ≡ exprs
  front_is = let h = p₁.0 in omega arith

  tail_is : body + (end - body) ≡ end
  tail_is = let h = p₁.2 in omega arith

  names_is : names_from before s exprs body end + names_of before e s exprs body end ≡ e.bodytop
  names_is = let h = p₃.2 in omega arith

  pairs_are : length (pairs_in (slice (names_from before s exprs body end) e.bodytop (row stacks 3))) * 2 ≡ names_of before e s exprs body end
  pairs_are = let a = rw names_from_lem at p₄ in let b = names_is in omega arith

  half : names_of before e s exprs body end / 2 ≡ length (pairs_in (slice (names_from before s exprs body end) e.bodytop (row stacks 3)))
  half = div-eq_of_eq-mul_left (omega arith) (sym pairs_are)

  length_names : length (slice (names_from before s exprs body end) e.bodytop (row stacks 3)) ≡ names_of before e s exprs body end
  length_names = let l = row_long 3 (omega arith) in let h = p₃.0.high' in let n = names_is in length-slice (names_from before s exprs body end) e.bodytop (row stacks 3) (omega arith) ∙ omega arith

  -- how long the parts are
  top_long : (t : ℕ) → t < 4 → length (top_part stacks e head t) ≡ head
  top_long t h = let a = row_long t h in length_cut e.exprtop head (row stacks t) (omega arith)

  made_long : (t : ℕ) → t < 4 → length (made_part stacks before e t) ≡ e.exprtop - before.exprtop
  made_long t h = let a = row_long t h in let b = made_is in length_cut before.exprtop (e.exprtop - before.exprtop) (row stacks t) (omega arith)

  -- as long as each other
  even_top : length (top_part stacks e head 1) ≡ length (top_part stacks e head 0)
  even_top = top_long 1 (omega arith) ∙ sym (top_long 0 (omega arith))

  even_front : length (slice s exprs tags) ≡ length (front_part stacks before s exprs)
  even_front =
      let a = row_long 3 (omega arith) in
      let h = p₃.0.high' in
      let k = p₃.2 in
      length-slice s exprs tags (let z = p₁ in omega arith) ∙ sym (length_cut before.bodytop (exprs - s) (row stacks 3) (omega arith))

  even_made : length (slice before.exprtop e.exprtop (row stacks 1)) ≡ length (slice before.exprtop e.exprtop (row stacks 0))
  even_made = rw made_is at (made_long 1 (omega arith) ∙ sym (made_long 0 (omega arith)))

  even_tail : length (slice body end tags) ≡ length (tail_part stacks before s exprs body end)
  even_tail =
      let a = row_long 3 (omega arith) in
      let h = p₃.0.high' in
      let k = p₃.2 in
      length-slice body end tags (let z = p₁ in omega arith) ∙ sym (length_cut (tail_from before s exprs) (end - body) (row stacks 3) (omega arith))

  parts_are : (g : Cell → ℕ) → map g (whole tags stacks before e s exprs body end head) ≡
      seven (map g (beside (top_part stacks e head 1) (top_part stacks e head 0)))
      (map g (beside (slice s exprs tags) (front_part stacks before s exprs)))
      (g (EXPRESSIONS, e.made))
      (map g (beside (slice before.exprtop e.exprtop (row stacks 1)) (slice before.exprtop e.exprtop (row stacks 0))))
      (g (NAMED, length (pairs_in (slice (names_from before s exprs body end) e.bodytop (row stacks 3)))))
      (map g (name_cells (slice (names_from before s exprs body end) e.bodytop (row stacks 3))))
      (map g (beside (slice body end tags) (tail_part stacks before s exprs body end)))
  unfolding closing between
  parts_are g = seven-map g (between (row stacks 1) (row stacks 0) e.exprtop (e.exprtop + head)) (beside (slice s exprs tags) (front_part stacks before s exprs)) (EXPRESSIONS, e.made) (between (row stacks 1) (row stacks 0) before.exprtop e.exprtop) (NAMED, length (pairs_in (slice (names_from before s exprs body end) e.bodytop (row stacks 3)))) (name_cells (slice (names_from before s exprs body end) e.bodytop (row stacks 3))) (beside (slice body end tags) (tail_part stacks before s exprs body end))

  words_are : map word (whole tags stacks before e s exprs body end head) ≡ spelled stacks before e s exprs body end head
  words_are = rw (names_is, made_is, half) (parts_are word ∙ seven-same (word-beside _ _ even_top) (word-beside _ _ even_front) refl (word-beside _ _ even_made) refl (word_names _ (pairs_are ∙ sym length_names)) (word-beside _ _ even_tail))

  classes_are : map class (whole tags stacks before e s exprs body end head) ≡ classed tags stacks before e s exprs body end head
  classes_are = rw (made_is, front_is, tail_is, half) (parts_are class ∙ seven-same (class-beside _ _ even_top) (class-beside _ _ even_front) refl (class-beside _ _ even_made) refl (class_names _) (class-beside _ _ even_tail))

  words_front : length (front_part stacks before s exprs) ≡ exprs - s
  words_front = sym even_front ∙ length-slice s exprs tags (let z = p₁ in omega arith)

  words_names : length (names_part stacks before e s exprs body end) ≡ names_of before e s exprs body end
  words_names = rw names_is length_names

  words_tail : length (tail_part stacks before s exprs body end) ≡ end - body
  words_tail = sym even_tail ∙ length-slice body end tags (let z = p₁ in omega arith)

  classes-front : length (slice s (s + (exprs - s)) tags) ≡ exprs - s
  classes-front = rw front_is (even_front ∙ words_front)

  classes_names : length (named_classes (names_of before e s exprs body end / 2)) ≡ names_of before e s exprs body end
  classes_names = length-named (names_of before e s exprs body end / 2) ∙ rw half (let a = pairs_are in omega arith)

  size_is : length (whole tags stacks before e s exprs body end head) ≡ size_of before e s exprs body end head
  size_is =
      sym (length-map (whole tags stacks before e s exprs body end head) word)
      ∙ ap length words_are
      ∙ length-seven (top_part stacks e head 0) (front_part stacks before s exprs) e.made (made_part stacks before e 0) (names_of before e s exprs body end / 2) (names_part stacks before e s exprs body end) (tail_part stacks before s exprs body end)
      ∙ rw (top_long 0 (omega arith), words_front, made_long 0 (omega arith), words_names, words_tail)

  module _ (log₀ logtags₀ : List ℕ) {l₂ l₃ l₅ l₇ l₈ k₂ k₃ k₅ k₇ k₈ : List ℕ}
      (w₂ : l₂ ≡ sets (set log₀ e.loglen (size_of before e s exprs body end head)) (e.loglen + 1) (top_part stacks e head 0))
      (w₃ : l₃ ≡ sets l₂ (e.loglen + 1 + head) (front_part stacks before s exprs))
      (w₅ : l₅ ≡ sets (set l₃ (made_at e s exprs head) e.made) (made_at e s exprs head + 1) (made_part stacks before e 0))
      (w₇ : l₇ ≡ sets (set l₅ (named_at before e s exprs head) (names_of before e s exprs body end / 2)) (named_at before e s exprs head + 1) (names_part stacks before e s exprs body end))
      (w₈ : l₈ ≡ sets l₇ (named_at before e s exprs head + 1 + names_of before e s exprs body end) (tail_part stacks before s exprs body end))
      (c₂ : k₂ ≡ sets logtags₀ (e.loglen + 1) (top_part stacks e head 1))
      (c₃ : k₃ ≡ sets k₂ (e.loglen + 1 + head) (slice s (s + (exprs - s)) tags))
      (c₅ : k₅ ≡ sets (set k₃ (made_at e s exprs head) EXPRESSIONS) (made_at e s exprs head + 1) (made_part stacks before e 1))
      (c₇ : k₇ ≡ sets (set k₅ (named_at before e s exprs head) NAMED) (named_at before e s exprs head + 1) (named_classes (names_of before e s exprs body end / 2)))
      (c₈ : k₈ ≡ sets k₇ (named_at before e s exprs head + 1 + names_of before e s exprs body end) (slice body (body + (end - body)) tags)) where
    written : Written (whole tags stacks before e s exprs body end head) (e.loglen + 1) (set log₀ e.loglen (size_of before e s exprs body end head)) logtags₀ l₈ k₈
    written = record {
      words_are = rw words_are (seven-joined (top_part stacks e head 0) (front_part stacks before s exprs) (made_part stacks before e 0) (names_part stacks before e s exprs body end) (tail_part stacks before s exprs body end) (set log₀ e.loglen (size_of before e s exprs body end head)) l₂ l₃ l₅ l₇ l₈ e.made (names_of before e s exprs body end / 2) (e.loglen + 1) (e.loglen + 1 + head) (made_at e s exprs head) (made_at e s exprs head + 1) (named_at before e s exprs head) (named_at before e s exprs head + 1) (named_at before e s exprs head + 1 + names_of before e s exprs body end) w₂ w₃ w₅ w₇ w₈ (ap (λ (n : ℕ). e.loglen + 1 + n) (sym (top_long 0 (omega arith)))) (ap (λ (n : ℕ). e.loglen + 1 + head + n) (sym words_front)) (omega arith) (ap (λ (n : ℕ). made_at e s exprs head + 1 + n) (sym (made_long 0 (omega arith)))) (omega arith) (ap (λ (n : ℕ). named_at before e s exprs head + 1 + n) (sym words_names)));
      tags_are = rw classes_are (seven-joined (top_part stacks e head 1) (slice s (s + (exprs - s)) tags) (made_part stacks before e 1) (named_classes (names_of before e s exprs body end / 2)) (slice body (body + (end - body)) tags) logtags₀ k₂ k₃ k₅ k₇ k₈ EXPRESSIONS NAMED (e.loglen + 1) (e.loglen + 1 + head) (made_at e s exprs head) (made_at e s exprs head + 1) (named_at before e s exprs head) (named_at before e s exprs head + 1) (named_at before e s exprs head + 1 + names_of before e s exprs body end) c₂ c₃ c₅ c₇ c₈ (ap (λ (n : ℕ). e.loglen + 1 + n) (sym (top_long 1 (omega arith)))) (ap (λ (n : ℕ). e.loglen + 1 + head + n) (sym classes-front)) (omega arith) (ap (λ (n : ℕ). made_at e s exprs head + 1 + n) (sym (made_long 1 (omega arith)))) (omega arith) (ap (λ (n : ℕ). named_at before e s exprs head + 1 + n) (sym classes_names)));
    }

    module _ (limit t : ℕ) (starts₀ : List (List ℕ)) (few : get_or e.counts t 0 ≤ limit) (more : get_or e.counts t 0 ≡ limit → ⊥) (hl : length log₀ ≡ 16384) (hk : length logtags₀ ≡ 16384)
        (r : ℕ) (left : r + (23 + 2 * e.pairs + e.loglen) ≡ 16384) (fits : 1 + size_of before e s exprs body end head ≤ r) where
      room_is : 23 + 2 * e.pairs + (e.loglen + suc (length (whole tags stacks before e s exprs body end head))) ≤ 16384
      room_is = rw size_is (omega arith)

      inside : e.loglen + suc (length (whole tags stacks before e s exprs body end head)) ≤ 16384
      inside = let h = room_is in omega arith

      end_is : e.loglen + (1 + size_of before e s exprs body end head) ≡ e.loglen + suc (length (whole tags stacks before e s exprs body end head))
      end_is = rw size_is (omega arith)

      pub closes : AppendRecordEnsures (whole tags stacks before e s exprs body end head) limit t before e log₀ logtags₀ starts₀ (record { full = false; loglen = e.loglen + (1 + size_of before e s exprs body end head); counts = set e.counts t (get_or e.counts t 0 + 1); pairs = e.pairs; exprtop = before.exprtop; bodytop = before.bodytop; made = before.made }) l₈ k₈ (put starts₀ t (get_or e.counts t 0) e.loglen)
      closes = record {
        over = λ q. absurd (false≢true q);
        is = λ q. wrote-rec log₀ logtags₀ l₈ k₈ e.loglen (whole tags stacks before e s exprs body end head) hl hk inside (size_of before e s exprs body end head) (sym size_is) written;
        size = λ q. wrote_head log₀ logtags₀ l₈ k₈ e.loglen (whole tags stacks before e s exprs body end head) hl hk inside (size_of before e s exprs body end head) (sym size_is) written;
        below = wrote-same log₀ logtags₀ l₈ k₈ e.loglen (whole tags stacks before e s exprs body end head) hl hk inside (size_of before e s exprs body end head) (sym size_is) written;
        log_long = wrote-log log₀ logtags₀ l₈ k₈ e.loglen (whole tags stacks before e s exprs body end head) hl hk inside (size_of before e s exprs body end head) (sym size_is) written;
        tags_long = wrote_tags log₀ logtags₀ l₈ k₈ e.loglen (whole tags stacks before e s exprs body end head) hl hk inside (size_of before e s exprs body end head) (sym size_is) written;
        room = λ q. (free (get_or e.counts t 0) limit few more, room_is);
        starts_are = λ q. refl;
        ends = λ q i. record { full = false; loglen = end_is i; counts = set e.counts t (get_or e.counts t 0 + 1); pairs = e.pairs; exprtop = before.exprtop; bodytop = before.bodytop; made = before.made };
      }

  -- no room
  module _ (log₀ logtags₀ : List ℕ) (starts₀ : List (List ℕ)) (limit t : ℕ) (R : Sizes) (full : R.full ≡ true) (hl : length log₀ ≡ 16384) (hk : length logtags₀ ≡ 16384) where
    refused : (get_or e.counts t 0 ≡ limit) ⊎ (16384 < 23 + 2 * e.pairs + (e.loglen + suc (length (whole tags stacks before e s exprs body end head)))) → AppendRecordEnsures (whole tags stacks before e s exprs body end head) limit t before e log₀ logtags₀ starts₀ R log₀ logtags₀ starts₀
    refused o = record {
      over = λ q. o;
      is = λ q. absurd (false≢true (sym q ∙ full));
      size = λ q. absurd (false≢true (sym q ∙ full));
      below = same_refl e.loglen log₀ logtags₀;
      log_long = hl;
      tags_long = hk;
      room = λ q. absurd (false≢true (sym q ∙ full));
      starts_are = λ q. absurd (false≢true (sym q ∙ full));
      ends = λ q. absurd (false≢true (sym q ∙ full));
    }

    pub many : get_or e.counts t 0 ≡ limit → AppendRecordEnsures (whole tags stacks before e s exprs body end head) limit t before e log₀ logtags₀ starts₀ R log₀ logtags₀ starts₀
    many h = refused (inl h)

    pub long : (r : ℕ) → r + (23 + 2 * e.pairs + e.loglen) ≡ 16384 → r < 1 + size_of before e s exprs body end head → AppendRecordEnsures (whole tags stacks before e s exprs body end head) limit t before e log₀ logtags₀ starts₀ R log₀ logtags₀ starts₀
    long r left h = refused (inr (rw size_is (omega arith)))
