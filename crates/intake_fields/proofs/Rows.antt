-- The code's table is the model's: its rows, where they start, and what follows a word. A table's rule is a test that is computed once over the whole table.
use mathlib.Core.Path.{◌≡◌, refl, sym, ap, ◌∙◌, subst}
use mathlib.Core.Bool.{Bool, true, false}
use Rattle.std.proofs.Common.{◌⊎◌, inl, inr}
use mathlib.Core.Option.{some}
use mathlib.Core.List.{List, [], ◌∷◌, ◌++◌, map}
use Prim.Native.Nat.{ℕ, zero, suc, ◌+◌, ◌*◌, ◌-◌, ◌≤◌, ◌<◌}
use native.Mathlib.Nat.{le_of_suc-le-suc, not-suc-le-zero, add-zero, zero-add, add-suc, suc-add}
use native.Mathlib.Numerals.{add-one}
use native.Mathlib.Omega.{arith}
use lib.Dec.{T, eqb, ltb, leb, ltb→lt, leb→le}
use lib.ListN.{length, get_or, drop, take, get_elem?, length-map, length-append, get_or-append}
use lib.Seq.{drop-cons, get_or-drop, get_or-take}
use Rattle.std.proofs.lemmas.Bool.{eqb-false}
use borrow.Author.Tests.{lt-ltb, le-ltb, ne_eqb, eqb-true, le-leb, lt-leb}
use Rattle.theory_lists.specs.Lists.{missed}
use Rattle.model.specs.Table.{Row, TYPE_KIND, BLOCK, CASES, LENGTH, limit, counted, variants}
use Rattle.intake_fields.specs.Parts.{case_row, statement_rows, rows, over, nothing, once, brings_of}
use Rattle.intake_fields.specs.Rows.{laid, starts, symbols, coded, listed, records, all_rows, ROWS, SYMBOLS, pairs, numbers, SIZE, row, row_at}

-- ---- a rule of a list, at each entry
abbrev pub and : Bool → Bool → Bool
and true b = b
and false b = false

and_left : (a b : Bool) → T (and a b) → T a
and_left true b t = tt
and_left false b t = t

and_right : (a b : Bool) → T (and a b) → T b
and_right true b t = t
and_right false b t = absurd t

abbrev pub every : (ℕ → ℕ → Bool) → ℕ → List ℕ → Bool
every f i [] = true
every f i (x ∷ xs) = and (f i x) (every f (suc i) xs)

from : (f : ℕ → ℕ → Bool) (xs : List ℕ) (i : ℕ) → T (every f i xs) → (k : ℕ) → k < length xs → T (f (i + k) (get_or xs k 0))
from f [] i t k h = absurd (not-suc-le-zero h)
from f (x ∷ xs) i t zero h = subst (λ (m : ℕ). T (f m x)) (sym (add-zero i)) (and_left (f i x) (every f (suc i) xs) t)
from f (x ∷ xs) i t (suc k) h =
    subst (λ (m : ℕ). T (f m (get_or xs k 0))) (suc-add i k ∙ sym (add-suc i k))
    (from f xs (suc i) (and_right (f i x) (every f (suc i) xs) t) k (le_of_suc-le-suc h))

pub at : (f : ℕ → ℕ → Bool) (xs : List ℕ) → T (every f 0 xs) → (k : ℕ) → k < length xs → T (f k (get_or xs k 0))
at f xs t k h = subst (λ (m : ℕ). T (f m (get_or xs k 0))) (zero-add k) (from f xs 0 t k h)

get_elem?_map : {A : Type 0} (f : ℕ → A) (l : List ℕ) (k : ℕ) → k < length l → get_elem? (map f l) k ≡ some (f (get_or l k 0))
get_elem?_map f [] k h = absurd (not-suc-le-zero h)
get_elem?_map f (x ∷ l) zero h = refl
get_elem?_map f (x ∷ l) (suc k) h = get_elem?_map f l k (le_of_suc-le-suc h)

either : Bool → Bool → Bool
either true b = true
either false b = b

second : (a b : Bool) → T (either a b) → a ≡ false → T b
unfolding either
second true b t e = absurd (subst (λ (x : Bool). T x) e tt)
second false b t e = t

-- ---- the table
behind : ROWS ≤ length numbers
unfolding ROWS numbers
behind = omega (arith, length-append (laid all_rows) (starts 0 (coded symbols) ++ (pairs (length (laid (coded symbols))) ROWS symbols ++ starts (length (laid (coded symbols ++ listed symbols))) records)))

-- a place of the rows is in the table
pub rows_few : ROWS ≤ 510
unfolding SIZE
rows_few = leb→le ROWS 510 tt

row-end : (ns : List ℕ) (n : ℕ) → n ≡ 0 → row (n ∷ ns) ≡ []
unfolding row
row-end ns zero e = refl
row-end ns (suc n) e = absurd (omega arith)

row_more : (ns : List ℕ) (n : ℕ) → 0 < n → row (n ∷ ns) ≡ n ∷ row ns
unfolding row
row_more ns zero h = absurd (not-suc-le-zero h)
row_more ns (suc n) h = refl

-- in the rows each number but 0 is a symbol of a row, and one more follows
fine : ℕ → Bool
fine x = and (ltb x 126) (either (ltb x 105) (leb 108 x))

fines : Row → Bool
fines [] = true
fines (s ∷ ss) = and (fine s) (fines ss)

all-fine : List Row → Bool
all-fine [] = true
all-fine (r ∷ rs) = and (fines r) (all-fine rs)

record Ruled (l : List ℕ) (p : ℕ) : Type 0 where
  follows : suc p < length l
  is_fine : T (fine (get_or l p 0))

ruled_row : (r : Row) (l : List ℕ) → ((p : ℕ) → p < length l → (get_or l p 0 ≡ 0 → ⊥) → Ruled l p) → T (fines r) → (p : ℕ) → p < length (r ++ (0 ∷ l)) → (get_or (r ++ (0 ∷ l)) p 0 ≡ 0 → ⊥) → Ruled (r ++ (0 ∷ l)) p
unfolding fines
ruled_row [] l ih t zero h g = absurd (g refl)
ruled_row [] l ih t (suc p) h g = let q = ih p (le_of_suc-le-suc h) g in record { follows = omega (arith, q.follows); is_fine = q.is_fine }
ruled_row (s ∷ ss) l ih t zero h g = record { follows = omega (arith, length-append ss (0 ∷ l)); is_fine = and_left (fine s) (fines ss) t }
ruled_row (s ∷ ss) l ih t (suc p) h g = let q = ruled_row ss l ih (and_right (fine s) (fines ss) t) p (le_of_suc-le-suc h) g in record { follows = omega (arith, q.follows); is_fine = q.is_fine }

ruled_rows : (rs : List Row) → T (all-fine rs) → (p : ℕ) → p < length (laid rs) → (get_or (laid rs) p 0 ≡ 0 → ⊥) → Ruled (laid rs) p
unfolding laid all-fine
ruled_rows [] t p h g = absurd (not-suc-le-zero h)
ruled_rows (r ∷ rs) t p h g = ruled_row r (laid rs) (ruled_rows rs (and_right (fines r) (all-fine rs) t)) (and_left (fines r) (all-fine rs) t) p h g

rows-fine : T (all-fine all_rows)
unfolding SIZE all-fine fines fine either
rows-fine = tt

module _ (p : ℕ) (h : p < ROWS) where
  opened : row_at p ≡ row (get_or numbers p 0 ∷ drop (suc p) numbers)
  unfolding row_at
  opened = ap row (drop-cons numbers p 0 (omega (arith, behind)))

  pub ended : get_or numbers p 0 ≡ 0 → row_at p ≡ []
  ended e = opened ∙ row-end (drop (suc p) numbers) (get_or numbers p 0) e

  pub further : (get_or numbers p 0 ≡ 0 → ⊥) → row_at p ≡ get_or numbers p 0 ∷ row_at (p + 1)
  unfolding row_at
  further g = rw add-one (opened ∙ row_more (drop (suc p) numbers) (get_or numbers p 0) (omega arith))

  in_rows : get_or numbers p 0 ≡ get_or (laid all_rows) p 0
  unfolding numbers ROWS
  in_rows = get_or-append (laid all_rows) (starts 0 (coded symbols) ++ (pairs (length (laid (coded symbols))) ROWS symbols ++ starts (length (laid (coded symbols ++ listed symbols))) records)) 0 p h

  module _ (g : get_or numbers p 0 ≡ 0 → ⊥) where
    ruled : Ruled (laid all_rows) p
    unfolding ROWS
    ruled = ruled_rows all_rows rows-fine p h (λ z. g (in_rows ∙ z))

    pub row_next : p + 1 < ROWS
    unfolding ROWS
    row_next = omega (arith, ruled.follows)

    rest : T (and (ltb (get_or numbers p 0) 126) (either (ltb (get_or numbers p 0) 105) (leb 108 (get_or numbers p 0))))
    unfolding fine
    rest = rw in_rows ruled.is_fine

    pub symbol : get_or numbers p 0 < 126
    symbol = ltb→lt (get_or numbers p 0) 126 (and_left (ltb (get_or numbers p 0) 126) _ rest)

    pub large : 105 ≤ get_or numbers p 0 → 108 ≤ get_or numbers p 0
    unfolding either
    large l = leb→le 108 (get_or numbers p 0) (second (ltb (get_or numbers p 0) 105) _ (and_right (ltb (get_or numbers p 0) 126) _ rest) (le-ltb (get_or numbers p 0) 105 l))

  -- a number of the rows is a class or 0
  pub class_or_0 : get_or numbers p 0 < 126
  class_or_0 = go (eqb (get_or numbers p 0) 0) refl
    where
      go : (b : Bool) → eqb (get_or numbers p 0) 0 ≡ b → get_or numbers p 0 < 126
      go true e = omega (arith, eqb-true (get_or numbers p 0) 0 e)
      go false e = symbol (eqb-false (get_or numbers p 0) 0 e)

-- ---- lists of rows, blocks and cases
pub record ListEntry (s : ℕ) (r : Row) : Type 0 where
  pub start : get_or numbers (SYMBOLS + 2 * (s - 110)) 0 < ROWS
  pub is : row_at (get_or numbers (SYMBOLS + 2 * (s - 110)) 0) ≡ r

five : (P : ℕ → Type 0) → P 110 → P 111 → P 112 → P 113 → P 114 → (s : ℕ) → 110 ≤ s → s < 115 → P s
five P a b c d e s h k =
    subst P (omega arith) (go (s - 110) (omega arith))
  where
    go : (i : ℕ) → i < 5 → P (110 + i)
    go zero l = a
    go (suc zero) l = b
    go (suc (suc zero)) l = c
    go (suc (suc (suc zero))) l = d
    go (suc (suc (suc (suc zero)))) l = e
    go (suc (suc (suc (suc (suc i))))) l = absurd (omega arith)

list_entry : (s : ℕ) → 110 ≤ s → s < 115 → ListEntry s (counted s)
unfolding SIZE row row_at
list_entry = five (λ s. ListEntry s (counted s))
    (record { start = omega arith; is = refl })
    (record { start = omega arith; is = refl })
    (record { start = omega arith; is = refl })
    (record { start = omega arith; is = refl })
    (record { start = omega arith; is = refl })

list_limit : (s : ℕ) → 110 ≤ s → s < 115 → get_or numbers (SYMBOLS + 2 * (s - 110) + 1) 0 ≡ limit s
unfolding SIZE
list_limit = five (λ s. get_or numbers (SYMBOLS + 2 * (s - 110) + 1) 0 ≡ limit s) refl refl refl refl refl

block_entry : ListEntry BLOCK (LENGTH ∷ [])
unfolding SIZE row row_at
block_entry = record { start = omega arith; is = refl }

cases-entry : ListEntry CASES case_row
unfolding SIZE row row_at
cases-entry = record { start = omega arith; is = refl }

-- ---- variants and statements
unfoldable pub group : ℕ → List Row
group s = elim (ltb s BLOCK) [ true ↦ variants s | false ↦ statement_rows ]

-- the starts of a group's rows
starts_of : ℕ → ℕ → List ℕ
starts_of from most = take most (drop from numbers)

record GroupEntry (s from most : ℕ) : Type 0 where
  is_from : get_or numbers (SYMBOLS + 2 * (s - 110)) 0 ≡ from
  is_most : get_or numbers (SYMBOLS + 2 * (s - 110) + 1) 0 ≡ most
  fits : from + most ≤ SIZE
  are : map row_at (starts_of from most) ≡ group s
  each : T (every (λ i x. ltb x ROWS) 0 (starts_of from most))
  long : length (starts_of from most) ≡ most

abbrev Entry : ℕ → Type 0
Entry s = GroupEntry s (get_or numbers (SYMBOLS + 2 * (s - 110)) 0) (get_or numbers (SYMBOLS + 2 * (s - 110) + 1) 0)

eight : (P : ℕ → Type 0) → P 115 → P 116 → P 117 → P 118 → P 119 → P 120 → P 121 → P 125 → (s : ℕ) → 115 ≤ s → s < 126 → (s ≡ 122 → ⊥) → (s ≡ 123 → ⊥) → (s ≡ 124 → ⊥) → P s
eight P a b c d e f g z s h k n₁ n₂ n₃ =
    subst P (omega arith) (go (s - 115) (omega arith) (λ q. n₁ (omega arith)) (λ q. n₂ (omega arith)) (λ q. n₃ (omega arith)))
  where
    go : (i : ℕ) → i < 11 → (i ≡ 7 → ⊥) → (i ≡ 8 → ⊥) → (i ≡ 9 → ⊥) → P (115 + i)
    go zero l n₁ n₂ n₃ = a
    go (suc zero) l n₁ n₂ n₃ = b
    go (suc (suc zero)) l n₁ n₂ n₃ = c
    go (suc (suc (suc zero))) l n₁ n₂ n₃ = d
    go (suc (suc (suc (suc zero)))) l n₁ n₂ n₃ = e
    go (suc (suc (suc (suc (suc zero))))) l n₁ n₂ n₃ = f
    go (suc (suc (suc (suc (suc (suc zero)))))) l n₁ n₂ n₃ = g
    go (suc (suc (suc (suc (suc (suc (suc zero))))))) l n₁ n₂ n₃ = absurd (n₁ refl)
    go (suc (suc (suc (suc (suc (suc (suc (suc zero)))))))) l n₁ n₂ n₃ = absurd (n₂ refl)
    go (suc (suc (suc (suc (suc (suc (suc (suc (suc zero))))))))) l n₁ n₂ n₃ = absurd (n₃ refl)
    go (suc (suc (suc (suc (suc (suc (suc (suc (suc (suc zero)))))))))) l n₁ n₂ n₃ = z
    go (suc (suc (suc (suc (suc (suc (suc (suc (suc (suc (suc i))))))))))) l n₁ n₂ n₃ = absurd (omega arith)

entry_of : (s : ℕ) → 115 ≤ s → s < 126 → (s ≡ 122 → ⊥) → (s ≡ 123 → ⊥) → (s ≡ 124 → ⊥) → Entry s
unfolding SIZE row row_at group variants starts_of
entry_of = eight Entry
    (record { is_from = refl; is_most = refl; fits = omega arith; are = refl; each = tt; long = refl })
    (record { is_from = refl; is_most = refl; fits = omega arith; are = refl; each = tt; long = refl })
    (record { is_from = refl; is_most = refl; fits = omega arith; are = refl; each = tt; long = refl })
    (record { is_from = refl; is_most = refl; fits = omega arith; are = refl; each = tt; long = refl })
    (record { is_from = refl; is_most = refl; fits = omega arith; are = refl; each = tt; long = refl })
    (record { is_from = refl; is_most = refl; fits = omega arith; are = refl; each = tt; long = refl })
    (record { is_from = refl; is_most = refl; fits = omega arith; are = refl; each = tt; long = refl })
    (record { is_from = refl; is_most = refl; fits = omega arith; are = refl; each = tt; long = refl })

-- ---- what the code looks up
module _ (s w from most : ℕ) (low : 110 ≤ s) (high : s < 126) (is_from : from ≡ get_or numbers (468 + 2 * (s - 110)) 0) (is_most : most ≡ get_or numbers (468 + 2 * (s - 110) + 1) 0) where
  from_is : from ≡ get_or numbers (SYMBOLS + 2 * (s - 110)) 0
  unfolding SIZE
  from_is = is_from

  most_is : most ≡ get_or numbers (SYMBOLS + 2 * (s - 110) + 1) 0
  unfolding SIZE
  most_is = is_most

  module _ (h : s < 115) where
    listing : brings_of s w ≡ elim (leb w (limit s)) [ true ↦ rows w (counted s) | false ↦ over ]
    unfolding brings_of
    listing = rw (brings_of, lt-ltb s TYPE_KIND h)

    limit_is : most ≡ limit s
    limit_is = most_is ∙ list_limit s low h

    pub brings_over : most < w → brings_of s w ≡ over
    brings_over g = listing ∙ rw (lt-leb w (limit s) (omega (arith, limit_is)))

    pub brings_list : w ≤ most → (from < ROWS) × (brings_of s w ≡ rows w (row_at from))
    brings_list g =
        let e = list_entry s low h in
        (rw from_is e.start, rw from_is (listing ∙ rw (le-leb w (limit s) (omega (arith, limit_is))) (ap (rows w) (sym e.is))))

  of_block : (s ≡ 122) ⊎ (s ≡ 123) → (from < ROWS) × (brings_of s w ≡ rows w (row_at from))
  unfolding brings_of
  of_block (inl e) = (rw (from_is, e) block_entry.start, rw (from_is, e) (ap (rows w) (sym block_entry.is)))
  of_block (inr e) = (rw (from_is, e) cases-entry.start, rw (from_is, e) (ap (rows w) (sym cases-entry.is)))

  two : (x : Bool) → eqb s 122 ≡ x → 122 ≤ s → s < 124 → (s ≡ 122) ⊎ (s ≡ 123)
  two true e l h = inl (eqb-true s 122 e)
  two false e l h = let n = eqb-false s 122 e in inr (omega (arith, n))

  pub brings_block : 122 ≤ s → s < 124 → (from < ROWS) × (brings_of s w ≡ rows w (row_at from))
  brings_block l h = of_block (two (eqb s 122) refl l h)

  f : ℕ
  f = get_or numbers (SYMBOLS + 2 * (s - 110)) 0

  m : ℕ
  m = get_or numbers (SYMBOLS + 2 * (s - 110) + 1) 0

  not_between : (s < 122) ⊎ (124 ≤ s) → (k : ℕ) → 122 ≤ k → k < 124 → s ≡ k → ⊥
  not_between (inl l) k a b e = omega (arith, l, a, e)
  not_between (inr l) k a b e = omega (arith, l, b, e)

  module _ (h : 115 ≤ s) (out : (s < 122) ⊎ (124 ≤ s)) (n₃ : s ≡ 124 → ⊥) where
    n₁ : s ≡ 122 → ⊥
    n₁ = not_between out 122 (omega arith) (omega arith)

    n₂ : s ≡ 123 → ⊥
    n₂ = not_between out 123 (omega arith) (omega arith)

    group_entry : Entry s
    group_entry = entry_of s h high n₁ n₂ n₃

    grouped : brings_of s w ≡ once (get_elem? (group s) w)
    unfolding brings_of group
    grouped = go (ltb s BLOCK) refl
      where
        go : (b : Bool) → ltb s BLOCK ≡ b → brings_of s w ≡ once (get_elem? (elim b [ true ↦ variants s | false ↦ statement_rows ]) w)
        go true e = rw (brings_of, le-ltb s TYPE_KIND h, e)
        go false e = rw (brings_of, le-ltb s TYPE_KIND h, e, ne_eqb s BLOCK n₁, ne_eqb s CASES n₂)

    group_long : length (group s) ≡ most
    unfolding f m
    group_long = sym (ap length group_entry.are) ∙ length-map (starts_of f m) row_at ∙ group_entry.long ∙ sym most_is

    pub brings_none : most ≤ w → brings_of s w ≡ nothing
    unfolding once
    brings_none g = grouped ∙ ap once (missed (group s) w (omega (arith, group_long)))

    pub in_group : w < most → from + w < SIZE
    in_group g = omega (arith, group_entry.fits, from_is, most_is)

    start_is : w < most → get_or (starts_of f m) w 0 ≡ get_or numbers (from + w) 0
    unfolding starts_of f m
    start_is g =
        let l : w < m = omega (arith, most_is) in
        get_or-take m (drop f numbers) w 0 l ∙ get_or-drop f numbers w 0 ∙ ap (λ x. get_or numbers (x + w) 0) (sym from_is)

    pub brings_row : (pc : ℕ) → pc ≡ get_or numbers (from + w) 0 → w < most → (pc < ROWS) × (brings_of s w ≡ rows 1 (row_at pc))
    unfolding once f m
    brings_row pc is g =
        let l : w < length (starts_of f m) = omega (arith, group_entry.long, most_is) in
        let e : get_or (starts_of f m) w 0 ≡ pc = start_is g ∙ sym is in (
          rw e at (ltb→lt (get_or (starts_of f m) w 0) ROWS (at (λ i x. ltb x ROWS) (starts_of f m) group_entry.each w l)),
          grouped ∙ ap (λ q. once (get_elem? q w)) (sym group_entry.are) ∙ ap once (get_elem?_map row_at (starts_of f m) w l) ∙ ap (λ x. rows 1 (row_at x)) e,
        )
