-- The passes that compare each word with the bound of its class, and each Emit's start with its end: the test of each word in turn is the definition on its cells.
use mathlib.Core.Path.{◌≡◌, refl, sym, ap, ◌∙◌}
use mathlib.Core.Bool.{Bool, true, false, ◌&&◌}
use mathlib.Core.Option.{Option, none, some}
use mathlib.Core.List.{List, map}
use Prim.Native.Nat.{ℕ, zero, suc, ◌+◌, ◌-◌, ◌^◌, ◌≤◌, ◌<◌}
use native.Mathlib.Numerals.{add-one}
use native.Mathlib.Omega.{arith}
use lib.Dec.{ltb}
use lib.ListN.{get_or, set}
use borrow.Author.Tests.{lt-ltb}
use Rattle.model.specs.Module.{count_at}
use Rattle.model.specs.Numbers.{Bounds, caps, bound, below, within, rising, ordered}
use Rattle.model.specs.Between.{between, Long}
use Rattle.theory_image.specs.Betweens.{between_none, between_cons}
use Rattle.std.specs.List.{list_all, range_with_len}
use Rattle.intake_ranges.specs.Ranges.{cap, up_to, table, codes, headed, owned, with_own, Owned}

-- ---- the table
map_up_to : (f : ℕ → ℕ) (n k s : ℕ) → s < n → get_or (map f (up_to k n)) s 0 ≡ f (k + s)
unfolding up_to
map_up_to f zero k s h = absurd (omega arith)
map_up_to f (suc n) k zero h = let z : k ≡ k + 0 = omega arith in ap f z
map_up_to f (suc n) k (suc s) h = let z : suc k + s ≡ k + suc s = omega arith in map_up_to f n (suc k) s (omega arith) ∙ ap f z

pub table_at : (b : Bounds) (s : ℕ) → s < 256 → get_or (table b) s 0 ≡ cap (bound b s)
unfolding table
table_at b s h = let z : 0 + s ≡ s = omega arith in map_up_to (λ s. cap (bound b s)) 256 0 s h ∙ ap (λ x. cap (bound b x)) z

cap-below : (o : Option ℕ) (w : ℕ) → w < 2 ^ 32 → ltb w (cap o) ≡ below o w
unfolding cap below
cap-below none w h = lt-ltb w (2 ^ 32) h
cap-below (some n) w h = refl

-- ---- each word in turn
-- the table is that of the bounds b; a word has 32 bits, and a class 8
pub tested : (words tags t : List ℕ) (b : Bounds) → t ≡ table b → (i : ℕ) → get_or words i 0 < 2 ^ 32 → get_or tags i 0 < 256 → ltb (get_or words i 0) (get_or t (get_or tags i 0) 0) ≡ below (bound b (get_or tags i 0)) (get_or words i 0)
tested words tags t b is i low few = ap (ltb (get_or words i 0)) (ap (λ l. get_or l (get_or tags i 0) 0) is ∙ table_at b (get_or tags i 0) few) ∙ cap-below (bound b (get_or tags i 0)) (get_or words i 0) low

module _ (words tags : List ℕ) (b : Bounds) (end : ℕ) (long : Long words tags) (ok : end ≤ 16384) where
  -- the test of word i, and that of Emit's start
  abbrev pub test : ℕ → Bool
  test i = below (bound b (get_or tags i 0)) (get_or words i 0)

  abbrev pub emit : ℕ → Bool
  emit i = rising (get_or tags i 0, get_or words i 0) (between tags words (i + 1) end)

  within_from : (n i : ℕ) → i + n ≡ end → list_all test (range_with_len i n) ≡ within b (between tags words i end)
  unfolding within
  within_from zero i h = sym (ap (within b) (between_none tags words i end (omega arith)))
  within_from (suc n) i h = rw (between_cons tags words i end (omega arith) long ok) (ap (below (bound b (get_or tags i 0)) (get_or words i 0) &&◌) (within_from n (i + 1) (omega arith)))

  swap : (p q x y : Bool) → (p && q) && (x && y) ≡ (p && x) && (q && y)
  swap true true x y = refl
  swap true false true y = refl
  swap true false false y = refl
  swap false q x y = refl

  ordered_from : (n i : ℕ) → i + n ≡ end → list_all (λ j. test j && emit j) (range_with_len i n) ≡ within b (between tags words i end) && ordered (between tags words i end)
  unfolding within ordered
  ordered_from zero i h = sym (ap (λ cs. within b cs && ordered cs) (between_none tags words i end (omega arith)))
  ordered_from (suc n) i h =
      rw (between_cons tags words i end (omega arith) long ok)
      (ap ((below (bound b (get_or tags i 0)) (get_or words i 0) && emit i) &&◌) (ordered_from n (i + 1) (omega arith))
      ∙ swap (below (bound b (get_or tags i 0)) (get_or words i 0)) (emit i) (within b (between tags words (i + 1) end)) (ordered (between tags words (i + 1) end)))

  module _ (at : ℕ) (rises : at ≤ end) where
    pub all_within : list_all test (range_with_len at (end - at)) ≡ within b (between tags words at end)
    all_within = within_from (end - at) at (omega arith)

    pub all_ordered : list_all (λ j. test j && emit j) (range_with_len at (end - at)) ≡ within b (between tags words at end) && ordered (between tags words at end)
    all_ordered = ordered_from (end - at) at (omega arith)

-- ---- the counts put in
pub outside_is : (words t t₁ : List ℕ) → t ≡ codes → (a b c d e f g h : ℕ) → a ≡ count_at 0 words → b ≡ count_at 1 words → f ≡ count_at 5 words → g ≡ count_at 6 words → c ≡ count_at 2 words → d ≡ count_at 3 words → e ≡ count_at 4 words → h ≡ f
    → t₁ ≡ with_own (set (set (set (set (set (set (set (set (set (set t 83 (a + 1)) 84 b) 85 (b + 1)) 86 c) 87 d) 88 e) 89 f) 90 (f + 1)) 91 g) 92 g) h 0 0
    → t₁ ≡ table (headed words)
unfolding codes up_to table cap bound caps headed with_own
outside_is words t t₁ q a b c d e f g h qa qb qf qg qc qd qe qh is = is ∙ rw (q, qh, add-one a, add-one b, add-one f, qa, qb, qc, qd, qe, qf, qg)

pub inside_is : (t t₁ : List ℕ) (e a l : ℕ) → t₁ ≡ with_own t e a l → Owned t₁ t e a l
unfolding up_to table cap bound caps owned with_own
inside_is t t₁ e a l is = record { same = λ b q. is ∙ rw (q, add-one e) }
