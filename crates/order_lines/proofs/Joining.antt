-- The pieces that are put one after the other are a line, lines, and the text.
use mathlib.Core.Path.{◌≡◌, sym, ap, ap₂, ◌∙◌}
use mathlib.Core.Bool.{Bool, true, false, cond}
use mathlib.Core.List.{List, [], ◌∷◌, ◌++◌, append_assoc}
use Prim.Native.Nat.{ℕ, suc, ◌+◌, ◌/◌, ◌%◌, ◌≤◌, ◌<◌}
use native.Mathlib.Omega.{arith}
use native.Mathlib.Numerals.{add-one}
use lib.Dec.{ltb}
use lib.ListN.{length, get_or, drop, length-append}
use lib.Seq.{sets, drop-cons, drop-length}
use Rattle.order_lines.specs.Lines.{decimal, numbers_text, line_text, lines_text, headed, FUNCTIONS, ordered_text, name_at, name_is, text_at, TextEnsures, Room, Line, Lines, Text}
use Rattle.order_lines.proofs.Bytes.{puts_both, text_long, sets-append}

-- ---- how long the pieces are
pub decimal_long : (x : ℕ) → (0 < length (decimal x)) × (length (decimal x) ≤ 3)
unfolding decimal
decimal_long x = go (ltb x 10) (ltb x 100)
  where
    digits : Bool → Bool → List ℕ
    digits a b = cond a ((48 + x) ∷ []) (cond b ((48 + x / 10) ∷ (48 + x % 10) ∷ []) ((48 + x / 100) ∷ (48 + x / 10 % 10) ∷ (48 + x % 10) ∷ []))

    go : (a b : Bool) → (0 < length (digits a b)) × (length (digits a b) ≤ 3)
    go true b = (omega arith, omega arith)
    go false true = (omega arith, omega arith)
    go false false = (omega arith, omega arith)

pub numbers_long : (new s : ℕ) → length (numbers_text new s) ≡ length (decimal new) + length (decimal s) + 2
unfolding numbers_text
numbers_long new s = omega (arith, length-append (decimal new) (32 ∷ (decimal s ++ (32 ∷ []))), length-append (decimal s) (32 ∷ []))

pub line_long : (new s : ℕ) (x : List ℕ) → length (line_text new s x) ≡ length (numbers_text new s) + length x + 1
unfolding line_text
line_long new s x = omega (arith, length-append (numbers_text new s) (x ++ (10 ∷ [])), length-append x (10 ∷ []))

pub headed_long : (label : List ℕ) (x : ℕ) → length (headed label x) ≡ length label + length (decimal x) + 1
unfolding headed
headed_long label x = omega (arith, length-append label (decimal x ++ (10 ∷ [])), length-append (decimal x) (10 ∷ []))

-- ---- two numbers
joined : (a b c d : List ℕ) → a ++ b ++ c ++ d ≡ a ++ (b ++ (c ++ d))
joined a b c d = simp append_assoc

pub numbers-end : (new s : ℕ) {o₀ o₁ o₂ o₃ o₄ : List ℕ} {at a b c r : ℕ} → TextEnsures o₀ at (decimal new) o₁ a → TextEnsures o₁ a (32 ∷ []) o₂ b → TextEnsures o₂ b (decimal s) o₃ c → TextEnsures o₃ c (32 ∷ []) o₄ r → TextEnsures o₀ at (numbers_text new s) o₄ r
unfolding numbers_text
numbers-end new s p₁ p₂ p₃ p₄ = rw (joined (decimal new) (32 ∷ []) (decimal s) (32 ∷ [])) at (puts_both (puts_both (puts_both p₁ p₂) p₃) p₄)

-- ---- a line
module _ {words : List ℕ} {new s at : ℕ} (q : Line words new s at) where
  pub numbers_fit : at + length (numbers_text new s) < 65536
  numbers_fit = omega (arith, q.fits, line_long new s (name_is words s))

  is_long : length (name_is words s) ≡ get_or words (name_at words s) 0
  is_long = text_long words (name_at words s) q.reads.words_long q.reads.here q.reads.within

  module _ {out o₁ : List ℕ} {a : ℕ} (p₁ : TextEnsures out at (numbers_text new s) o₁ a) {p : ℕ} (e : p ≡ name_at words s) where
    pub name_room : Room words p a
    name_room =
        rw e (record {
          words_long = q.reads.words_long;
          here = q.reads.here;
          within = q.reads.within;
          fits = omega (arith, p₁.ends, is_long, q.fits, line_long new s (name_is words s));
        })

    module _ {o₂ : List ℕ} {b : ℕ} (p₂ : TextEnsures o₁ a (text_at words p) o₂ b) where
      named : TextEnsures o₁ a (name_is words s) o₂ b
      named = rw e at p₂

      pub last_fits : b < 65536
      last_fits = omega (arith, p₁.ends, named.ends, q.fits, line_long new s (name_is words s))

      pub line_end : {o₃ : List ℕ} {r : ℕ} → TextEnsures o₂ b (10 ∷ []) o₃ r → TextEnsures out at (line_text new s (name_is words s)) o₃ r
      unfolding line_text
      line_end p₃ = rw (append_assoc (numbers_text new s) (name_is words s) (10 ∷ [])) at (puts_both (puts_both p₁ named) p₃)

-- ---- lines: what is left of them, put too, is all of them
pub record Going (words order out : List ℕ) (at i next : ℕ) (now : List ℕ) : Type 0 where
  pub high : i ≤ length order
  pub is : sets now next (lines_text (drop i order) i (name_is words)) ≡ sets out at (lines_text order 0 (name_is words))
  pub ends : next + length (lines_text (drop i order) i (name_is words)) ≡ at + length (lines_text order 0 (name_is words))

module _ {words order : List ℕ} {at : ℕ} (q : Lines words order at) where
  module _ {out : List ℕ} {i next : ℕ} {now : List ℕ} (g : Going words order out at i next now) where
    module _ (h : i < length order) {s : ℕ} (e : s ≡ get_or order i 0) where
      split : lines_text (drop i order) i (name_is words) ≡ line_text i s (name_is words s) ++ lines_text (drop (suc i) order) (suc i) (name_is words)
      unfolding lines_text
      split =
          ap (λ l. lines_text l i (name_is words)) (drop-cons order i 0 h ∙ ap (◌∷ drop (suc i) order) (sym e))

      split_long : length (lines_text (drop i order) i (name_is words)) ≡ length (line_text i s (name_is words s)) + length (lines_text (drop (suc i) order) (suc i) (name_is words))
      split_long = ap length split ∙ length-append (line_text i s (name_is words s)) (lines_text (drop (suc i) order) (suc i) (name_is words))

      pub line_asks : Line words i s next
      line_asks =
          record {
            reads = rw e (q.prints.known i h);
            new_few = omega (arith, q.prints.count_few);
            few = omega (arith, q.prints.few i h);
            fits = omega (arith, split_long, g.ends, q.fits);
          }

      pub lines_again : {now' : List ℕ} {r : ℕ} → TextEnsures now next (line_text i s (name_is words s)) now' r → Going words order out at (i + 1) r now'
      lines_again {now'} {r} p =
          rw (add-one i) (record {
            high = omega arith;
            is =
                ap₂ (λ l j. sets l j (lines_text (drop (suc i) order) (suc i) (name_is words))) p.is p.ends
                ∙ sets-append (line_text i s (name_is words s)) now next (lines_text (drop (suc i) order) (suc i) (name_is words))
                ∙ sym (ap (sets now next) split)
                ∙ g.is;
            ends = omega (arith, p.ends, split_long, g.ends);
          })

    pub lines_end : length order ≤ i → TextEnsures out at (lines_text order 0 (name_is words)) now next
    unfolding lines_text
    lines_end h =
        let f : i ≡ length order = omega (arith, g.high) in
        let z : lines_text (drop i order) i (name_is words) ≡ [] = ap (λ l. lines_text l i (name_is words)) (ap (λ j. drop j order) f ∙ drop-length order) in
        record { is = sym (ap (sets now next) z) ∙ g.is; ends = omega (arith, ap length z, g.ends) }

-- ---- a first line, and the text
pub headed-end : (label : List ℕ) (x : ℕ) {o₀ o₁ o₂ o₃ : List ℕ} {at a b r : ℕ} → TextEnsures o₀ at label o₁ a → TextEnsures o₁ a (decimal x) o₂ b → TextEnsures o₂ b (10 ∷ []) o₃ r → TextEnsures o₀ at (headed label x) o₃ r
unfolding headed
headed-end label x p₁ p₂ p₃ = rw (append_assoc label (decimal x) (10 ∷ [])) at (puts_both (puts_both p₁ p₂) p₃)

module _ {words order out : List ℕ} (q : Text words order out) {o₁ : List ℕ} {at : ℕ} (p : TextEnsures out 0 (headed FUNCTIONS (length order)) o₁ at) where
  pub text_lines : Lines words order at
  unfolding ordered_text
  text_lines =
      record {
        prints = q.prints;
        fits = omega (arith, p.ends, q.fits, length-append (headed FUNCTIONS (length order)) (lines_text order 0 (name_is words)));
      }

  pub text-end : {o₂ : List ℕ} {r : ℕ} → TextEnsures o₁ at (lines_text order 0 (name_is words)) o₂ r → TextEnsures out 0 (ordered_text order (name_is words)) o₂ r
  unfolding ordered_text
  text-end u = puts_both p u
