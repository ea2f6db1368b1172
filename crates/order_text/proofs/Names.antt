-- The name of a table function in the words: where it is, how long it is, and which bytes it has.
use mathlib.Core.Path.{◌≡◌, refl, sym, ap, ap₂, ◌∙◌}
use mathlib.Core.Bool.{Bool, true, false, ◌&&◌}
use mathlib.Core.Option.{some}
use mathlib.Core.List.{List, [], ◌∷◌, ◌++◌, map, append-nil}
use Prim.Native.Nat.{ℕ, zero, suc, ◌+◌, ◌*◌, ◌-◌, ◌/◌, ◌%◌, ◌≤◌, ◌<◌}
use native.Mathlib.Nat.{div-add-mod', mod-lt, zero-lt-suc}
use native.Mathlib.Omega.{arith}
use lib.Dec.{eqb, ltb}
use lib.ListN.{length, get_or, get_elem?, take, drop, replicate, length-append, length-map, length-replicate, take-append-drop}
use lib.Seq.{slice, length-take-le, take-append-le, drop-append-le}
use borrow.Author.Tests.{eqb-true, lt-ltb}
use Rattle.theory_lists.specs.Lists.{found, looked_get_d}
use Rattle.theory_lists.specs.Booleans.{and_split}
use Rattle.model.specs.Outcome.{Cells, class, word}
use Rattle.model.specs.Table.{Row, WORD, PAD, TEXT, name_row, text, More, brings, over, more}
use Rattle.model.specs.Tree.{Function}
use Rattle.model.specs.Module.{Module, count_at, offset_at, sections, flat_module}
use Rattle.model.specs.View.{record_at}
use Rattle.model.specs.FunctionView.{arguments_at}
use Rattle.model.specs.Taped.{Taped, Tape}
use Rattle.model.specs.Carry.{Lays, lays_none, lays_next}
use Rattle.theory_image.specs.Views.{view_length, view_within, sees_name}
use Rattle.theory_image.specs.FunctionViews.{Part, part_end, part_right, part-word, part_words, parts, head_classes, taped_held, taped_write, taped_length, taped_offset, taped_functions, taped_function, taped_part, table_least}
use Rattle.theory_image.specs.Members.{looked_each as each-found}
use Rattle.base_words.specs.Words.{bytes_of}
use Rattle.base_words.proofs.Laws.{length_bytes_of}
use Rattle.order_callees.proofs.Whole.{offsets}
use Rattle.model.specs.Redirect.{name_word}
use Rattle.order_lines.specs.Lines.{name_text, name_in, name_of, text_at, Readable}
use Rattle.order_text.specs.Telling.{NamesKnown, Naming}

-- ---- the shape of a name's record
short? : Row → Bool
short? [] = true
short? (s ∷ ss) = ltb s TEXT && short? ss

Empty : More → Type 0
Empty x = (xs : Row) → x ≡ brings xs → xs ≡ []

empty_if : (b : Bool) (x y : More) → Empty x → Empty y → Empty (elim b [ true ↦ x | false ↦ y ])
empty_if true x y h k = h
empty_if false x y h k = k

empty-none : Empty (brings [])
unfolding Empty
empty-none xs e = cc

empty_over : Empty over
unfolding Empty
empty_over xs e = let z : ◌≡◌ {A = ℕ} 0 1 = cc in absurd (omega arith)

short-more : (s w : ℕ) → ltb s TEXT ≡ true → Empty (more s w)
unfolding more
short-more s w h = empty_if (ltb s PAD) _ _ empty-none (rw h (empty_if (ltb w _) _ _ empty-none empty_over))

short-length : {ss : Row} {cs : Cells} → Lays ss cs → short? ss ≡ true → length cs ≡ length ss
unfolding short? Empty
short-length lays_none h = refl
short-length (lays_next {s} {w} {xs} {ss} e l) h =
    let a = and_split (ltb s TEXT) (short? ss) h in
    let n : xs ≡ [] = short-more s w a.0 xs e in
    ap suc (short-length l (rw n a.1) ∙ ap (λ x. length (x ++ ss)) n)

short_words : (n : ℕ) (r : Row) → short? r ≡ true → short? (replicate n WORD ++ r) ≡ true
unfolding short?
short_words zero r h = h
short_words (suc n) r h = short_words n r h

text-short : (b : ℕ) → short? (text b) ≡ true
unfolding text short?
text-short b = short_words (b / 4) (elim (eqb (b % 4) 0) [ true ↦ [] | false ↦ (PAD + b % 4 - 1) ∷ [] ]) (go (eqb (b % 4) 0))
  where
    go : (e : Bool) → short? (elim e [ true ↦ [] | false ↦ (PAD + b % 4 - 1) ∷ [] ]) ≡ true
    go true = refl
    go false = let m : b % 4 < 4 = mod-lt b (zero-lt-suc 3) in rw (lt-ltb (PAD + b % 4 - 1) TEXT (omega arith))

text_long : (b : ℕ) → b ≤ 4 * length (text b)
unfolding text
text_long b = go (eqb (b % 4) 0) refl
  where
    d : b / 4 * 4 + b % 4 ≡ b
    d = div-add-mod' b 4

    go : (e : Bool) → eqb (b % 4) 0 ≡ e → b ≤ 4 * length (replicate (b / 4) WORD ++ elim e [ true ↦ [] | false ↦ (PAD + b % 4 - 1) ∷ [] ])
    go true q = omega (arith, d, eqb-true (b % 4) 0 q, length-append (replicate (b / 4) WORD) [], length-replicate (b / 4) WORD)
    go false q =
        let m : b % 4 < 4 = mod-lt b (zero-lt-suc 3) in
        omega (arith, d, length-append (replicate (b / 4) WORD) ((PAD + b % 4 - 1) ∷ []), length-replicate (b / 4) WORD)

pub data Text : Cells → Type 0 where
  texts : (b : ℕ) (cs : Cells) → b ≤ 4 * length cs → Text ((TEXT, b) ∷ cs)

pub text_shape : {r : Cells} → Lays name_row r → Text r
unfolding name_row more
text_shape (lays_next {w = b} {xs} {cs} e l) =
    let n : text b ≡ xs = cc in
    let k : Lays (text b) cs = rw n (rw append-nil at l) in
    texts b cs (omega (arith, text_long b, short-length k (text-short b)))

-- ---- its bytes
bytes_append : (xs ys : List ℕ) → bytes_of (xs ++ ys) ≡ bytes_of xs ++ bytes_of ys
unfolding bytes_of
bytes_append [] ys = refl
bytes_append (x ∷ xs) ys = ap (λ l. x % 256 ∷ x / 256 % 256 ∷ x / 65536 % 256 ∷ x / 16777216 % 256 ∷ l) (bytes_append xs ys)

drop_split : (ws : List ℕ) (a q : ℕ) → a ≤ q → q ≤ length ws → drop a ws ≡ slice a q ws ++ drop q ws
drop_split ws a q h k = ap (drop a) (sym (take-append-drop q ws)) ∙ drop-append-le a (take q ws) (drop q ws) (rw (length-take-le q ws k) h)

-- a name's record in words that hold it
record Standing (words : List ℕ) (n p : ℕ) (r : Cells) : Type 0 where
  inside : p < n
  within : get_or words p 0 ≤ 4 * (n - 1 - p)
  is : text_at words p ≡ name_text r

standing : {words tags : List ℕ} {n : ℕ} {m : Module} (t : Taped words tags n m) {p q : ℕ} {r : Cells} → Part (flat_module m) p q r → Text r → Standing words n p r
unfolding text_at name_text
standing {words} {tags} {n} {m} t {p} {q} {r} v (texts b cs h) =
    let o = taped_held t in
    let z : p + 0 ≡ p = omega arith in
    let e : get_or words p 0 ≡ b = rw z at (part-word o v 0 (omega arith)) in
    let y : q ≡ p + suc (length cs) = part_end v in
    let x : q ≤ n = omega (arith, v.within, taped_length t) in
    let u : slice (p + 1) q words ≡ map word cs = part_words o (part_right ((TEXT, b) ∷ []) cs v) in
    let d : drop (p + 1) words ≡ map word cs ++ drop q words = drop_split words (p + 1) q (omega arith) (omega (arith, t.words_long, t.small)) ∙ ap (◌++ drop q words) u in
    let c : b ≤ length (bytes_of (map word cs)) = rw (length_bytes_of (map word cs), length-map cs word) h in
    record {
      inside = omega arith;
      within = omega arith;
      is = ap₂ take e (ap bytes_of d ∙ bytes_append (map word cs) (drop q words)) ∙ take-append-le b (bytes_of (map word cs)) (bytes_of (drop q words)) c;
    }

-- ---- the name of a function
module _ {words tags : List ℕ} {n : ℕ} {m : Module} (t : Taped words tags n m) (s : ℕ) (f : Function) (e : get_elem? m.functions s ≡ some f) where
  abbrev at : ℕ
  at = record_at 6 s words

  -- the first word of its record
  function_head_lem : Part (flat_module m) (record_at 6 s words) (arguments_at (record_at 6 s words)) f.head
  function_head_lem = (parts (taped_function t s f e)).head_part

  three : length f.head ≡ 3
  three = sym (length-map f.head class) ∙ ap length (head_classes (taped_function t s f e))

  name_word_lem : get_or words (record_at 6 s words) 0 ≡ name_word f
  unfolding name_word
  name_word_lem = let z : at + 0 ≡ at = omega arith in rw z at (part-word (taped_held t) function_head_lem 0 (omega (arith, three)))

  name_inside : record_at 6 s words < n
  name_inside = omega (arith, function_head_lem.within, taped_length t)

module _ {words tags : List ℕ} {n : ℕ} {m : Module} (t : Taped words tags n m) where
  -- a name by its number
  name_standing : (j : ℕ) (r : Cells) → get_elem? m.names j ≡ some r → Standing words n (record_at 0 j words) r
  name_standing j r e = standing t (taped_part t (omega arith) (sees_name m refl j r e)) (text_shape (each-found t.well.names_ok.each j e))

  name_slot : (j : ℕ) → j < length m.names → offset_at 0 words + j < 16384
  unfolding sections
  name_slot j h = omega (arith, taped_offset t 0 (omega arith), view_length m 0 (omega arith), table_least m.names, view_within m 0 (omega arith), taped_write t, t.small)

  -- what a line reads
  readable_of : (s : ℕ) → NamesKnown m → s < count_at 6 words → Readable words s
  readable_of s k h =
      let f = found m.functions s (omega (arith, taped_functions t)) in
      let g = each-found k s f.1 in
      let w = name_word_lem t s f.0 f.1 in
      let j : get_or words (record_at 6 s words) 0 - 1 < length m.names = omega (arith, g.0, g.1, w) in
      let r = found m.names (get_or words (record_at 6 s words) 0 - 1) j in
      let d = name_standing (get_or words (record_at 6 s words) 0 - 1) r.0 r.1 in
      record {
        words_long = t.words_long;
        slot = omega (arith, offsets t);
        head = omega (arith, name_inside t s f.0 f.1, t.small);
        some = omega (arith, g.0, w);
        place = name_slot (get_or words (record_at 6 s words) 0 - 1) j;
        here = omega (arith, d.inside, t.small);
        within = omega (arith, d.inside, d.within, t.small);
      }

  -- and the text that it puts
  pub text_of : (s : ℕ) → NamesKnown m → s < count_at 6 words → text_at words (record_at 0 (get_or words (record_at 6 s words) 0 - 1) words) ≡ name_of m s
  unfolding name_of name_in
  text_of s k h =
      let f = found m.functions s (omega (arith, taped_functions t)) in
      let g = each-found k s f.1 in
      let w = name_word_lem t s f.0 f.1 in
      let j : name_word f.0 - 1 < length m.names = omega (arith, g.0, g.1) in
      let r = found m.names (name_word f.0 - 1) j in
      let d = name_standing (name_word f.0 - 1) r.0 r.1 in
      ap (λ x. text_at words (record_at 0 (x - 1) words)) w
      ∙ d.is
      ∙ ap name_text (sym (looked_get_d m.names (name_word f.0 - 1) [] r.1))
      ∙ sym (ap (name_in m.names) f.1)

pub readable : {words tags : List ℕ} {n : ℕ} → Tape words tags n → Naming words tags n → (s : ℕ) → s < count_at 6 words → Readable words s
readable t k s h = readable_of t.taped s (k t.holds t.taped) h
