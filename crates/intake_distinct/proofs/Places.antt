-- Those that were seen have left their marks, so that one whose mark is not there is another: the steps of the passes that go from the last to the first.
use mathlib.Core.Path.{◌≡◌, refl, sym, ap, ap₂, ◌∙◌}
use mathlib.Core.Bool.{Bool, true, false, ◌&&◌, not, and-false, or-true}
use mathlib.Core.List.{List, [], ◌∷◌}
use Prim.Native.Nat.{ℕ, zero, suc, ◌+◌, ◌-◌, ◌*◌, ◌/◌, ◌%◌, ◌^◌, ◌≤◌, ◌<◌}
use native.Mathlib.Numerals.{add-one}
use native.Mathlib.Nat.{mod-lt}
use native.Mathlib.Omega.{arith}
use lib.Dec.{eqb}
use lib.ListN.{length, drop, drop_of_length-le, get_or, set, replicate, length-set, length-replicate}
use lib.Seq.{drop-cons, get_or-set_same, get_or-set_other}
use borrow.Author.Tests.{eqb-true, eqb-false, eq-eqb, ne_eqb, not-true}
use Rattle.std.specs.List.{list_all, range_with_len}
use Rattle.model.specs.Carry.{Each, each_none, each_next}
use Rattle.model.specs.Names.{absent, distinct, same, unlike, differ}
use lib.Pointwise.{pointwise}
use Rattle.std.proofs.Common.{nat_eq}
use Rattle.std.specs.Cmp.Lexicographic.{same_text, other_text}
use Rattle.theory_image.specs.Same.{same_self}
use Rattle.intake_distinct.specs.Listed.{listing}
use Rattle.intake_distinct.proofs.Steps.{same-other}
use Rattle.intake_distinct.specs.Places.{mix, mixed, hash, print, SEVERAL, shows, stands, Leaves, Says, AllAlone}

-- ---- the hash, word by word
pub mix_is : (h w x : ℕ) → x ≡ w → ((h + x) * 2654435769 / 1048576 % 16777216 ≡ mix h w) × ((h + x) * 2654435769 / 1048576 % 16777216 < 2 ^ 24)
unfolding mix
mix_is h w x e = (rw e refl, mod-lt _ (omega arith))

pub record Hashing (name : List ℕ) (h i : ℕ) : Type 0 where
  pub small : h < 2 ^ 24
  pub left : mixed (drop i name) h ≡ hash name

module _ (name : List ℕ) where
  pub hash-all : Hashing name 0 0
  unfolding hash
  hash-all = record { small = omega arith; left = refl }

  module _ (h i : ℕ) (o : Hashing name h i) where
    pub hash_done : length name ≤ i → h ≡ hash name
    unfolding mixed
    hash_done l = rw (drop_of_length-le name l) at o.left

    pub hash-next : i < length name → (r : ℕ) → (r ≡ mix h (get_or name i 0)) × (r < 2 ^ 24) → Hashing name r (i + 1)
    unfolding mixed
    hash-next l r is = record { small = is.1; left = rw (add-one i, is.0) (rw (drop-cons name i 0 l) at o.left) }

never : {A : Type 0} {b : Bool} → b ≡ true → b ≡ false → A
never t f = let z : ◌≡◌ {A = ℕ} 0 1 = cc in absurd (omega arith)

-- ---- lists whose members differ: each from the later ones, as is said of it and of them
pub record Pairwise {A : Type 0} (f : List A → Bool) (said : List A → A → Bool) : Type 0 where
  pub none : f [] ≡ true
  pub next : (x : A) (xs : List A) → f (x ∷ xs) ≡ said xs x && f xs
  pub apart : (xs : List A) (x : A) → Each (λ y. x ≡ y → ⊥) xs → said xs x ≡ true

-- numbers
absent-apart : (xs : List ℕ) (x : ℕ) → Each (λ y. x ≡ y → ⊥) xs → absent xs x ≡ true
unfolding absent
absent-apart [] x each_none = refl
absent-apart (y ∷ ys) x (each_next d ds) = rw (absent, ne_eqb x y d) (absent-apart ys x ds)

pub numbers : Pairwise distinct absent
unfolding distinct
numbers = record { none = refl; next = λ x xs. refl; apart = absent-apart }

unlike-apart : (xs : List (List ℕ)) (x : List ℕ) → Each (λ y. x ≡ y → ⊥) xs → unlike xs x ≡ true
unfolding unlike
unlike-apart [] x each_none = refl
unlike-apart (y ∷ ys) x (each_next d ds) = rw (unlike, same-other x y d) (unlike-apart ys x ds)

pub names : Pairwise differ unlike
unfolding differ
names = record { none = refl; next = λ x xs. refl; apart = unlike-apart }

-- each of them is another, and so the list
pub absent_is : (at : ℕ → ℕ) (x n from : ℕ) → list_all (λ j. not (eqb x (at j))) (range_with_len from n) ≡ absent (listing at n from) x
unfolding absent listing
absent_is at x zero from = refl
absent_is at x (suc n) from = ap (not (eqb x (at from)) &&◌) (rw (← add-one from) (absent_is at x n (from + 1)))

text_is : (xs ys : List ℕ) (b : Bool) → b ≡ pointwise nat_eq xs ys → b ≡ same xs ys
text_is xs ys true e = sym (ap (same xs) (sym (same_text xs ys e)) ∙ same_self xs)
text_is xs ys false e = sym (same-other xs ys (other_text xs ys e))

pub unlike_is : (at : ℕ → List ℕ) (x : List ℕ) (n from : ℕ) → list_all (λ j. not (pointwise nat_eq x (at j))) (range_with_len from n) ≡ unlike (listing at n from) x
unfolding unlike listing
unlike_is at x zero from = refl
unlike_is at x (suc n) from = ap₂ (λ b c. not b && c) (text_is x (at from) _ refl) (rw (← add-one from) (unlike_is at x n (from + 1)))

-- ---- marks
module _ (v h : ℕ) where
  shows_own : v ≡ print h → shows v h ≡ true
  unfolding shows
  shows_own e = rw (shows, eq-eqb v (print h) e)

  shows_several : v ≡ SEVERAL → shows v h ≡ true
  unfolding shows
  shows_several e = rw (shows, eq-eqb v SEVERAL e) (or-true (eqb v (print h)))

  shows-other : (v ≡ print h → ⊥) → (v ≡ SEVERAL → ⊥) → shows v h ≡ false
  unfolding shows
  shows-other d e = rw (shows, ne_eqb v (print h) d, ne_eqb v SEVERAL e)

  shows-none : v ≡ 0 → shows v h ≡ false
  shows-none e = shows-other (λ q. omega arith) λ q. omega arith

-- the hash h at place p
module _ (marks : List ℕ) (p h : ℕ) where
  kept : stands marks p h ≡ true → Leaves marks p h marks false
  kept t = record { answer = ap not (sym t); long = refl; own = t; others = λ q g u. u }

  pub mark_own : (x : ℕ) → x ≡ print h → get_or marks p 0 ≡ x → Leaves marks p h marks false
  mark_own x is e = kept (shows_own (get_or marks p 0) h (e ∙ is))

  pub mark_several : get_or marks p 0 ≡ SEVERAL → Leaves marks p h marks false
  mark_several e = kept (shows_several (get_or marks p 0) h e)

  module _ (l : p < length marks) where
    -- another mark, which shows what the one before it showed, and h
    put : (v : ℕ) → stands marks p h ≡ false → shows v h ≡ true → ((g : ℕ) → stands marks p g ≡ true → shows v g ≡ true) → Leaves marks p h (set marks p v) true
    put v f t on =
        record {
          answer = ap not (sym f);
          long = length-set marks p v;
          own = rw (get_or-set_same marks p v 0 l) t;
          others = λ q g u. go q g u (eqb q p) refl;
        }
      where
        go : (q g : ℕ) → stands marks q g ≡ true → (b : Bool) → eqb q p ≡ b → stands (set marks p v) q g ≡ true
        go q g u true e = let z = eqb-true q p e in rw (z, get_or-set_same marks p v 0 l) (on g (rw z at u))
        go q g u false e = rw (get_or-set_other marks p q v 0 (eqb-false q p e)) u

    pub mark-first : (x : ℕ) → x ≡ print h → get_or marks p 0 ≡ 0 → Leaves marks p h (set marks p x) true
    mark-first x is e = put x (shows-none (get_or marks p 0) h e) (shows_own x h is) λ g u. never u (shows-none (get_or marks p 0) g e)

    pub mark-more : (x : ℕ) → x ≡ print h → (get_or marks p 0 ≡ x → ⊥) → (get_or marks p 0 ≡ SEVERAL → ⊥) → Leaves marks p h (set marks p SEVERAL) true
    mark-more x is d e = put SEVERAL (shows-other (get_or marks p 0) h (λ q. d (q ∙ sym is)) e) (shows_several SEVERAL h refl) λ g u. shows_several SEVERAL g refl

-- ---- from the last to the first: those from number i on are alone, and have left their marks
module _ (hashes : ℕ → ℕ → Type 0) (asks : ℕ → Bool → Type 0) (n size : ℕ) where
  pub record Down (marks : List ℕ) (i : ℕ) : Type 0 where
    pub within : i ≤ n
    pub long : length marks ≡ size
    pub passed : (h : ℕ → ℕ) (a : ℕ → Bool) → Says hashes asks n h a → list_all a (range_with_len i (n - i)) ≡ true
    pub seen : (h : ℕ → ℕ) (a : ℕ → Bool) → Says hashes asks n h a → (j : ℕ) → i ≤ j → j < n → stands marks (h j % size) (h j) ≡ true

-- one that is not fails all
all_fails : (a : ℕ → Bool) (k i j : ℕ) → i ≤ j → j < i + k → a j ≡ false → list_all a (range_with_len i k) ≡ false
all_fails a zero i j l m e = absurd (omega arith)
all_fails a (suc k) i j l m e = go (eqb i j) refl λ q. all_fails a k (i + 1) j (omega (arith, eqb-false i j q)) (omega arith) e
  where
    go : (b : Bool) → eqb i j ≡ b → ((eqb i j ≡ false) → list_all a (range_with_len (i + 1) k) ≡ false) → (a i && list_all a (range_with_len (i + 1) k)) ≡ false
    go true q on = rw (eqb-true i j q, e) refl
    go false q on = ap (a i &&◌) (on q) ∙ and-false (a i)

module _ {hashes : ℕ → ℕ → Type 0} {asks : ℕ → Bool → Type 0} {n size : ℕ} where
  pub down_all : (i : ℕ) → i ≡ n → Down hashes asks n size (replicate size 0) i
  down_all i e =
      let z : n - i ≡ 0 = omega arith in
      record { within = omega arith; long = length-replicate {A = ℕ} size 0; passed = λ h a s. rw z refl; seen = λ h a s j l m. absurd (omega arith) }

  module _ {marks : List ℕ} {i : ℕ} (o : Down hashes asks n size marks i) where
    pub down_done : i ≤ 0 → AllAlone hashes asks n true
    down_done l = let z : i ≡ 0 = omega arith in let y : n - 0 ≡ n = omega arith in record { same = λ h a s. sym (rw (z, y) at (o.passed h a s)) }

    module _ (l : 0 < i) where
      pub down_number : i - 1 < n
      down_number = omega (arith, o.within)

      module _ {r : ℕ} (hash-is : hashes (i - 1) r) {marks₁ : List ℕ} {b : Bool} (left : Leaves marks (r % size) r marks₁ b) where
        pub down_fails : asks (i - 1) false → AllAlone hashes asks n false
        down_fails asked = record { same = λ h a s. sym (all_fails a n 0 (i - 1) (omega arith) (omega (arith, down_number)) (sym (s.asked (i - 1) false down_number asked))) }

        next : ((h : ℕ → ℕ) (a : ℕ → Bool) → Says hashes asks n h a → a (i - 1) ≡ true) → Down hashes asks n size marks₁ (i - 1)
        next alone = record {
          within = omega (arith, o.within);
          long = left.long ∙ o.long;
          passed = λ h a s.
              let z : n - (i - 1) ≡ suc (n - i) = omega (arith, o.within) in
              let y : i - 1 + 1 ≡ i = omega arith in
              rw (z, y) (rw (alone h a s) (o.passed h a s));
          seen = λ h a s j m w. go h a s j m w (eqb (i - 1) j) refl;
        }
          where
            go : (h : ℕ → ℕ) (a : ℕ → Bool) → Says hashes asks n h a → (j : ℕ) → i - 1 ≤ j → j < n → (c : Bool) → eqb (i - 1) j ≡ c → stands marks₁ (h j % size) (h j) ≡ true
            go h a s j m w true q = rw (← eqb-true (i - 1) j q) (rw (← s.hashed (i - 1) r down_number hash-is) left.own)
            go h a s j m w false q = let d = eqb-false (i - 1) j q in left.others (h j % size) (h j) (o.seen h a s j (omega (arith, d)) w)

        pub down_unmarked : b ≡ true → Down hashes asks n size marks₁ (i - 1)
        down_unmarked t = next λ h a s. s.apart (i - 1) down_number λ j m w e.
            never {b = stands marks (h j % size) (h j)}
            (o.seen h a s j (omega arith) w)
            (ap (λ x. stands marks (x % size) x) (sym e ∙ sym (s.hashed (i - 1) r down_number hash-is)) ∙ not-true (stands marks (r % size) r) (sym left.answer ∙ t))

        pub down_asked : asks (i - 1) true → Down hashes asks n size marks₁ (i - 1)
        down_asked asked = next λ h a s. sym (s.asked (i - 1) true down_number asked)

-- ---- what lists whose members differ are: each is said to be none of the later ones
module _ {A : Type 0} {f : List A → Bool} {said : List A → A → Bool} (pairs : Pairwise f said) (at : ℕ → A) where
  -- number j of n
  abbrev pub alone : ℕ → ℕ → Bool
  alone n j = said (listing at (n - (j + 1)) (j + 1)) (at j)

  from_number : (n k j : ℕ) → j + k ≡ n → list_all (alone n) (range_with_len j k) ≡ f (listing at k j)
  unfolding listing
  from_number n zero j e = sym pairs.none
  from_number n (suc k) j e =
      let z : n - (j + 1) ≡ k = omega arith in
      ap (alone n j &&◌) (from_number n k (j + 1) (omega arith)) ∙ rw (z, add-one j) (sym (pairs.next (at j) (listing at k (suc j))))

  others : (x : A) (k j : ℕ) → ((i : ℕ) → j ≤ i → i < j + k → x ≡ at i → ⊥) → Each (λ y. x ≡ y → ⊥) (listing at k j)
  unfolding listing
  others x zero j d = each_none
  others x (suc k) j d = each_next (d j (omega arith) (omega arith)) (others x k (suc j) λ i l m. d i (omega arith) (omega arith))

  -- code that is asked of each whether it is, and hashes what they are
  pub all_alone_is : {hashes : ℕ → ℕ → Type 0} {asks : ℕ → Bool → Type 0} {n : ℕ} {r : Bool} → AllAlone hashes asks n r → (of : A → ℕ)
      → ((j r : ℕ) → j < n → hashes j r → r ≡ of (at j)) → ((j : ℕ) (b : Bool) → j < n → asks j b → b ≡ alone n j) → r ≡ f (listing at n 0)
  all_alone_is {n = n} got of hashed asked =
      got.same (λ j. of (at j)) (alone n) (record {
        hashed = hashed;
        asked = asked;
        apart = λ j l d. pairs.apart (listing at (n - (j + 1)) (j + 1)) (at j) (others (at j) (n - (j + 1)) (j + 1) λ i m w e. d i (omega arith) (omega arith) (ap of e));
      })
      ∙ from_number n n 0 (omega arith)
