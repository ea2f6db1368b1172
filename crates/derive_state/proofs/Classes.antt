-- What the classes refer to, and what becomes of their words.
use Rattle.std.proofs.Common.{◌≡◌, ℕ, zero, suc, pred, ◌+◌, ◌-◌, ◌%◌, ◌^◌, ◌<◌, ◌≤◌, Bool, true, false, ◌&&◌, ◌||◌, eqb, ltb, List, [], length, get_or, sym, refl, ap, subst, ◌∙◌, arith, ltb-false, ltb-true, lt-ltb, eq-eqb, ne_eqb, eqb-true}
use lib.ListN.{get_or-eq_default}
use mathlib.Core.Bool.{false≢true}
use borrow.Author.Tests.{eqb-false}
use Rattle.theory_lists.specs.Booleans.{and_split}
use Rattle.model.specs.Tables.{code_t}
use Rattle.model.specs.References.{Place, table, own, function, Target, copied, start, upto, ref, opt, targets, target, Node, node, ref_of, carry_w, through, undefined, add, undefined_at, moved, alike_c}
use Rattle.derive_state.proofs.State.{code_low, code_tab}
use Rattle.theory_records.specs.RecordLaws.{All, bare_w}
use Rattle.theory_records.specs.Kinds.{far_copied}
use Rattle.derive_state.specs.Refers.{code_p, target_of, unspanned, tab_of, went_r}

-- ---- a value that a function has on a range of numbers
abbrev agrees : (ℕ → ℕ) → ℕ → ℕ → ℕ → Bool
agrees f v lo zero = true
agrees f v lo (suc n) = eqb v (f lo) && agrees f v (suc lo) n

span_of : (f : ℕ → ℕ) (v lo n : ℕ) → agrees f v lo n ≡ true → (s : ℕ) → lo ≤ s → s < lo + n → v ≡ f s
span_of f v lo zero e s a b = absurd (omega arith)
span_of f v lo (suc n) e s a b =
    let q = and_split (eqb v (f lo)) (agrees f v (suc lo) n) e in
    go (eqb s lo) refl (eqb-true v (f lo) q.0) (λ (h : suc lo ≤ s). span_of f v (suc lo) n q.1 s h (omega arith))
  where
    go : (x : Bool) → eqb s lo ≡ x → v ≡ f lo → (suc lo ≤ s → v ≡ f s) → v ≡ f s
    go true p here there = rw (eqb-true s lo p) here
    go false p here there = there (omega (arith, eqb-false s lo p))

-- ---- targets
-- a test that holds on a range of numbers
abbrev below : (ℕ → ℕ) → ℕ → ℕ → ℕ → Bool
below f v lo zero = true
below f v lo (suc n) = ltb (f lo) v && below f v (suc lo) n

below_at : (f : ℕ → ℕ) (v lo n : ℕ) → below f v lo n ≡ true → (s : ℕ) → lo ≤ s → s < lo + n → f s < v
below_at f v lo zero e s a b = absurd (omega arith)
below_at f v lo (suc n) e s a b =
    let q = and_split (ltb (f lo) v) (below f v (suc lo) n) e in
    go (eqb s lo) refl (ltb-true (f lo) v q.0) (λ (h : suc lo ≤ s). below_at f v (suc lo) n q.1 s h (omega arith))
  where
    go : (x : Bool) → eqb s lo ≡ x → f lo < v → (suc lo ≤ s → f s < v) → f s < v
    go true p here there = rw (eqb-true s lo p) here
    go false p here there = there (omega (arith, eqb-false s lo p))

pub kind_small : (s : ℕ) → s < 256 → target_of (target s) < 14
unfolding target_of code_p code_t target targets
kind_small s h = below_at (λ s. target_of (target s)) 14 0 256 refl s (omega arith) h

-- ---- codes of places
place-six : (p : Place) → code_p p ≡ 6 → ⊥
unfolding code_p
place-six (table t) e = omega (arith, code_low t)
place-six own e = omega arith
place-six function e = omega arith

place-top : (p : Place) → code_p p < 8
unfolding code_p
place-top (table t) = omega (arith, code_low t)
place-top own = omega arith
place-top function = omega arith

-- ---- classes whose words refer to nothing
six_none : (g : Target) → 6 ≡ target_of g → copied ≡ unspanned g
unfolding target_of unspanned
six_none copied e = refl
six_none start e = refl
six_none upto e = refl
six_none (ref p) e = absurd (place-six p (sym e))
six_none (opt p) e = absurd (omega arith)

pub nothing_of : (s : ℕ) → s < 256 → (83 ≤ s → s < 95 → ⊥) → (99 ≤ s → s < 103 → ⊥) → copied ≡ unspanned (target s)
unfolding target_of code_p code_t target targets
nothing_of s h f g = six_none (target s) (go (ltb s 83) (ltb s 95) (ltb s 99) (ltb s 103) refl refl refl refl)
  where
    go : (a b c d : Bool) → ltb s 83 ≡ a → ltb s 95 ≡ b → ltb s 99 ≡ c → ltb s 103 ≡ d → 6 ≡ target_of (target s)
    go true b c d p q r t = span_of (λ s. target_of (target s)) 6 0 83 refl s (omega arith) (ltb-true s 83 p)
    go false true c d p q r t = absurd (f (ltb-false s 83 p) (ltb-true s 95 q))
    go false false true d p q r t = span_of (λ s. target_of (target s)) 6 95 4 refl s (ltb-false s 95 q) (ltb-true s 99 r)
    go false false false true p q r t = absurd (g (ltb-false s 99 r) (ltb-true s 103 t))
    go false false false false p q r t = span_of (λ s. target_of (target s)) 6 103 153 refl s (ltb-false s 103 t) (omega arith)

-- ---- a word by what its class refers to: spans are as copied words there
carry_unspanned : (went : Place → ℕ → ℕ) (g : Target) (w : ℕ) → carry_w went (unspanned g) w ≡ carry_w went g w
unfolding unspanned carry_w
carry_unspanned went copied w = refl
carry_unspanned went start w = refl
carry_unspanned went upto w = refl
carry_unspanned went (ref p) w = refl
carry_unspanned went (opt p) w = refl

refs_unspanned : (g : Target) (w : ℕ) (rest : List Node) → ref_of (unspanned g) w rest ≡ ref_of g w rest
unfolding unspanned ref_of
refs_unspanned copied w rest = refl
refs_unspanned start w rest = refl
refs_unspanned upto w rest = refl
refs_unspanned (ref p) w rest = refl
refs_unspanned (opt p) w rest = refl

code_unspanned : (g : Target) → target_of (unspanned g) ≡ target_of g
unfolding unspanned target_of
code_unspanned copied = refl
code_unspanned start = refl
code_unspanned upto = refl
code_unspanned (ref p) = refl
code_unspanned (opt p) = refl

module _ (s w : ℕ) where
  module _ {m : Target} (is : m ≡ unspanned (target s)) where
    pub code_meant : target_of m ≡ target_of (target s)
    code_meant = rw is (code_unspanned (target s))

    pub refs_meant : (rest : List Node) → ref_of m w rest ≡ ref_of (target s) w rest
    refs_meant rest = rw is (refs_unspanned (target s) w rest)

    pub through_meant : (went : Place → ℕ → ℕ) → carry_w went m w ≡ through went s w
    unfolding through
    through_meant went = rw is (carry_unspanned went (target s) w)

  pub nothing_through : copied ≡ unspanned (target s) → (went : Place → ℕ → ℕ) → w ≡ through went s w
  unfolding carry_w
  nothing_through is went = through_meant is went

  pub ref_through : {p : Place} → ref p ≡ unspanned (target s) → (went : Place → ℕ → ℕ) → pred (went p w) ≡ through went s w
  unfolding carry_w
  ref_through is went = through_meant is went

  opt_through : {p : Place} → opt p ≡ unspanned (target s) → (went : Place → ℕ → ℕ) → (v : ℕ) → w ≡ v → carry_w went (opt p) v ≡ through went s w
  opt_through {p} is went v e = ap (carry_w went (opt p)) (sym e) ∙ through_meant is went

  pub zero_through : {p : Place} → opt p ≡ unspanned (target s) → w ≡ 0 → (went : Place → ℕ → ℕ) → 0 ≡ through went s w
  unfolding carry_w
  zero_through is none went = opt_through is went 0 none

  pub some_through : {p : Place} → opt p ≡ unspanned (target s) → (w ≡ 0 → ⊥) → (went : Place → ℕ → ℕ) → went p (w - 1) ≡ through went s w
  unfolding carry_w
  some_through is some went = opt_through is went (suc (w - 1)) (omega arith)

  -- the number that it has
  module _ (P : Node → Type 0) (all : All P (ref_of (target s) w [])) where
    pub ref_good : {p : Place} → ref p ≡ unspanned (target s) → P (node p w)
    unfolding ref_of
    ref_good is = (rw (← refs_meant is []) at all).0

    pub some_good : {p : Place} → opt p ≡ unspanned (target s) → (w ≡ 0 → ⊥) → P (node p (w - 1))
    unfolding ref_of
    some_good {p} is some = let q : w ≡ suc (w - 1) = omega (arith, some) in (subst (λ (v : ℕ). All P (ref_of (opt p) v [])) q (rw (← refs_meant is []) at all)).0

-- a row of the maps
pub row_is : (maps : List (List ℕ)) (t : ℕ) → t < 6 → (n : ℕ) → get_or (get_or maps t []) n 0 ≡ went_r maps (table (tab_of t)) n
unfolding went_r code_p
row_is maps t low n = rw (code_tab t low)

pub no_row : (maps : List (List ℕ)) → length maps ≡ 6 → (n : ℕ) → 0 ≡ pred (went_r maps function n)
unfolding went_r code_p
no_row maps six n = rw (get_or-eq_default maps [] {n = 7} (omega arith))

-- ---- spans
span_code : Target → ℕ
span_code copied = 0
span_code start = 1
span_code upto = 2
span_code (ref p) = 0
span_code (opt p) = 0

low_code : (s : ℕ) → s < 81 → 0 ≡ span_code (target s)
unfolding span_code target
low_code s h = rw (lt-ltb s 81 h, target)

high_code : (s : ℕ) → 83 ≤ s → 0 ≡ span_code (target s)
unfolding span_code target targets
high_code s h = go (ltb s 103) refl
  where
    go : (x : Bool) → ltb s 103 ≡ x → 0 ≡ span_code (target s)
    go true e = span_of (λ s. span_code (target s)) 0 83 20 refl s h (ltb-true s 103 e)
    go false e = rw (far_copied s (ltb-false s 103 e))

-- a class is a span's, or not
span_is : (s : ℕ) → (eqb s 81 || eqb s 82) ≡ true → (81 ≤ s) × (s ≤ 82)
span_is s e = go (eqb s 81) refl e
  where
    go : (x : Bool) → eqb s 81 ≡ x → (x || eqb s 82) ≡ true → (81 ≤ s) × (s ≤ 82)
    go true q h = let z = eqb-true s 81 q in (omega arith, omega arith)
    go false q h = let z = eqb-true s 82 h in (omega arith, omega arith)

no_span : (s : ℕ) → (eqb s 81 || eqb s 82) ≡ false → 0 ≡ span_code (target s)
no_span s e = go (eqb s 81) (ltb s 81) refl refl e
  where
    go : (x y : Bool) → eqb s 81 ≡ x → ltb s 81 ≡ y → (x || eqb s 82) ≡ false → 0 ≡ span_code (target s)
    go true y p q h = absurd (false≢true (sym h))
    go false true p q h = low_code s (ltb-true s 81 q)
    go false false p q h = high_code s (omega (arith, eqb-false s 81 p, eqb-false s 82 h, ltb-false s 81 q))

still : (g : Target) (w next : ℕ) (u : Bool) → 0 ≡ span_code g → (u ≡ undefined_at g w next u) × ((o : ℕ) → w ≡ moved g w o u)
unfolding span_code undefined_at moved
still copied w next u e = (refl, λ o. refl)
still start w next u e = absurd (omega arith)
still upto w next u e = absurd (omega arith)
still (ref p) w next u e = (refl, λ o. refl)
still (opt p) w next u e = (refl, λ o. refl)

pub undefined-other : (s w next : ℕ) (u : Bool) → (s ≡ 81 → ⊥) → u ≡ undefined_at (target s) w next u
unfolding target targets undefined_at
undefined-other s w next u ne = go (ltb s 81) (eqb s 82) refl refl
  where
    go : (x y : Bool) → ltb s 81 ≡ x → eqb s 82 ≡ y → u ≡ undefined_at (target s) w next u
    go true y p q = (still (target s) w next u (low_code s (ltb-true s 81 p))).0
    go false true p q = rw (eqb-true s 82 q)
    go false false p q = (still (target s) w next u (high_code s (omega (arith, ltb-false s 81 p, eqb-false s 82 q)))).0

pub undefined_start : (s w next : ℕ) (u : Bool) → s ≡ 81 → (eqb w 0 && eqb next 0) ≡ undefined_at (target s) w next u
unfolding target targets undefined_at undefined
undefined_start s w next u e = rw e

still-bare : (g : Target) (w : ℕ) → 0 ≡ span_code g → w ≡ bare_w g w
unfolding span_code bare_w
still-bare copied w e = refl
still-bare start w e = absurd (omega arith)
still-bare upto w e = absurd (omega arith)
still-bare (ref p) w e = refl
still-bare (opt p) w e = refl

pub bare_other : (s w : ℕ) → (eqb s 81 || eqb s 82) ≡ false → w ≡ bare_w (target s) w
bare_other s w e = still-bare (target s) w (no_span s e)

pub bare_span : (s w : ℕ) → (eqb s 81 || eqb s 82) ≡ true → 0 ≡ bare_w (target s) w
unfolding target targets bare_w
bare_span s w h = go (eqb s 81) refl
  where
    go : (x : Bool) → eqb s 81 ≡ x → 0 ≡ bare_w (target s) w
    go true e = rw (eqb-true s 81 e)
    go false e = let r = span_is s h in let q : s ≡ 82 = omega (arith, r, eqb-false s 81 e) in rw q

span_moved : (s w o : ℕ) (u : Bool) → 81 ≤ s → s ≤ 82 → add u o w ≡ moved (target s) w o u
unfolding target targets moved
span_moved s w o u a b = go (eqb s 81) refl
  where
    go : (x : Bool) → eqb s 81 ≡ x → add u o w ≡ moved (target s) w o u
    go true e = rw (eqb-true s 81 e)
    go false e = let q : s ≡ 82 = omega (arith, eqb-false s 81 e) in rw q

pub moved_other : (s w o : ℕ) (u : Bool) → (eqb s 81 || eqb s 82) ≡ false → w ≡ moved (target s) w o u
moved_other s w o u e = (still (target s) w 0 u (no_span s e)).1 o

pub moved_kept : (s w o : ℕ) (u : Bool) → (eqb s 81 || eqb s 82) ≡ true → u ≡ true → w ≡ moved (target s) w o u
unfolding add
moved_kept s w o u h e = let r = span_is s h in rw e (span_moved s w o true r.0 r.1)

pub moved_on : (s w o : ℕ) (u : Bool) → (eqb s 81 || eqb s 82) ≡ true → u ≡ false → (r : ℕ) → r ≡ (w + o) % 2 ^ 32 → r ≡ moved (target s) w o u
unfolding add
moved_on s w o u h e r is = let q = span_is s h in is ∙ rw e (span_moved s w o false q.0 q.1)

-- ---- cells alike
module _ (a x b y : ℕ) where
  pub alike-class : (a ≡ b → ⊥) → false ≡ alike_c (a, x) (b, y)
  unfolding alike_c
  alike-class ne = rw (ne_eqb a b ne, alike_c)

  pub alike-word : a ≡ b → x ≡ y → true ≡ alike_c (a, x) (b, y)
  unfolding alike_c
  alike-word e f = rw (eq-eqb a b e, alike_c, eq-eqb x y f)

  pub alike_span : a ≡ b → (x ≡ y → ⊥) → (eqb b 81 || eqb b 82) ≡ alike_c (a, x) (b, y)
  unfolding alike_c
  alike_span e f = rw (eq-eqb a b e, alike_c, ne_eqb x y f, e)
