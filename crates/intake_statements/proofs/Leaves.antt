-- Reads and results: what the words from here on read, and what is left to look at where a result is looked for.
use mathlib.Core.Path.{◌≡◌, refl, sym, ap, ◌∙◌}
use mathlib.Core.Bool.{Bool, true, false, ◌&&◌}
use Rattle.std.proofs.Math.Bool.{and_assoc}
use mathlib.Core.List.{List, [], ◌∷◌, ◌++◌}
use mathlib.Core.Option.{none, some}
use Prim.Native.Nat.{ℕ, zero, suc, ◌+◌, ◌-◌, ◌≤◌, ◌<◌}
use native.Mathlib.Numerals.{add-one}
use native.Mathlib.Omega.{arith}
use lib.Dec.{eqb}
use lib.ListN.{length, get_or}
use borrow.Author.Tests.{eq-eqb, ne_eqb, lt-ltb, le-ltb}
use Rattle.std.specs.List.{list_all, range_with_len}
use Rattle.std.specs.Prelude.{SomeIff, Some, None}
use Rattle.std.specs.declared.option.Option as code
use Rattle.theory_lists.specs.Booleans.{and_right}
use Rattle.model.specs.Outcome.{Cells}
use Rattle.model.specs.Tree.{opt_of}
use Rattle.model.specs.Operands.{optional, operand, ops_of, result_of, standing_kind}
use Rattle.model.specs.Between.{between}
use Rattle.theory_image.specs.Betweens.{between_none, between_next}
use Rattle.intake_statements.specs.Tape.{cells_from, cells_in, Placed}
use Rattle.intake_statements.specs.Lasts.{visible_at, all_seen, option_of}

-- ---- visible
module _ (ws st u : List ℕ) (count at e : ℕ) where
  pub visible_out : count ≤ e → false ≡ visible_at ws st u count at e
  unfolding visible_at
  visible_out h = rw (visible_at, le-ltb e count h)

  pub visible_in : e < count → at < get_or u e 0 → true ≡ visible_at ws st u count at e
  unfolding visible_at
  visible_in h g = rw (visible_at, lt-ltb e count h, lt-ltb at (get_or u e 0) g)

  pub visible_kind : e < count → get_or u e 0 ≤ at → (k : ℕ) → k ≡ get_or ws (get_or st e 0) 0 → (r : Bool) → r ≡ standing_kind k → r ≡ visible_at ws st u count at e
  unfolding visible_at
  visible_kind h g k is r said = rw (visible_at, lt-ltb e count h, le-ltb at (get_or u e 0) g) (said ∙ ap standing_kind is)

-- the record of an expression starts among the words
pub start_in : (st : List ℕ) (count e : ℕ) → Placed st count → e < count → (e < 1025) × (get_or st e 0 < 16384)
start_in st count e p h = (omega (arith, p.few), omega (arith, p.rising e h, p.within e h))

-- ---- reads
seen-append : (xs ys : List ℕ) (f : ℕ → Bool) → all_seen (xs ++ ys) f ≡ (all_seen xs f && all_seen ys f)
unfolding all_seen
seen-append [] ys f = refl
seen-append (x ∷ xs) ys f = ap (f x &&◌) (seen-append xs ys f) ∙ sym (and_assoc (f x) (all_seen xs f) (all_seen ys f))

optional-append : (w : ℕ) (xs : List ℕ) → optional w xs ≡ optional w [] ++ xs
unfolding optional
optional-append zero xs = refl
optional-append (suc w) xs = refl

pub operand-append : (s w : ℕ) (xs : List ℕ) → operand s w xs ≡ operand s w [] ++ xs
unfolding operand
operand-append s w xs = go (eqb s 93) (eqb s 94)
  where
    go : (a b : Bool) → elim a [ true ↦ w ∷ xs | false ↦ elim b [ true ↦ optional w xs | false ↦ xs ] ] ≡ elim a [ true ↦ w ∷ [] | false ↦ elim b [ true ↦ optional w [] | false ↦ [] ] ] ++ xs
    go true b = refl
    go false true = optional-append w xs
    go false false = refl

pub operand_expr : (s w : ℕ) (xs : List ℕ) → s ≡ 93 → operand s w xs ≡ w ∷ xs
unfolding operand
operand_expr s w xs e = rw (operand, eq-eqb s 93 e)

pub operand-optional : (s w : ℕ) (xs : List ℕ) → s ≡ 94 → operand s w xs ≡ optional w xs
unfolding operand
operand-optional s w xs e = rw (operand, ne_eqb s 93 (λ q. omega arith), eq-eqb s 94 e)

pub operand-other : (s w : ℕ) (xs : List ℕ) → (s ≡ 93 → ⊥) → (s ≡ 94 → ⊥) → operand s w xs ≡ xs
unfolding operand
operand-other s w xs n m = rw (operand, ne_eqb s 93 n, ne_eqb s 94 m)

module _ (s w : ℕ) (f : ℕ → Bool) where
  pub read_expr : s ≡ 93 → (r : Bool) → r ≡ f w → r ≡ all_seen (operand s w []) f
  unfolding all_seen
  read_expr e r h = h ∙ sym (ap (λ l. all_seen l f) (operand_expr s w [] e) ∙ and_right (f w))

  pub read_none : s ≡ 94 → w ≡ 0 → true ≡ all_seen (operand s w []) f
  unfolding all_seen optional
  read_none e z = sym (ap (λ l. all_seen l f) (operand-optional s w [] e) ∙ ap (λ x. all_seen (optional x []) f) z)

  pub read_some : s ≡ 94 → (w ≡ 0 → ⊥) → (r : Bool) → r ≡ f (w - 1) → r ≡ all_seen (operand s w []) f
  unfolding all_seen optional
  read_some e z r h = let k : w ≡ suc (w - 1) = omega arith in h ∙ sym (ap (λ l. all_seen l f) (operand-optional s w [] e) ∙ ap (λ x. all_seen (optional x []) f) k ∙ and_right (f (w - 1)))

pub read-other : (s w : ℕ) (f : ℕ → Bool) → (s ≡ 93 → ⊥) → (s ≡ 94 → ⊥) → true ≡ all_seen (operand s w []) f
unfolding all_seen
read-other s w f n m = sym (ap (λ l. all_seen l f) (operand-other s w [] n m))

-- ---- a run of cells
pub cells_next : (ws ts : List ℕ) (i to : ℕ) → i < to → cells_from (to - i) ws ts i ≡ (get_or ts i 0, get_or ws i 0) ∷ cells_from (to - (i + 1)) ws ts (i + 1)
unfolding cells_from
cells_next ws ts i to h =
    let e : to - i ≡ suc (to - (i + 1)) = omega arith in
    rw (e, add-one i)

pub cells_none : (ws ts : List ℕ) (i to : ℕ) → to ≤ i → cells_from (to - i) ws ts i ≡ []
unfolding cells_from
cells_none ws ts i to h = let e : to - i ≡ 0 = omega arith in rw e

-- inside words and tags they are the model's cells between two places
pub cells_between : (ws ts : List ℕ) (from to : ℕ) → from ≤ to → to ≤ length ws → to ≤ length ts → cells_in ws ts from to ≡ between ts ws from to
unfolding cells_in cells_from
cells_between ws ts from to h w t = go (to - from) from (omega arith)
  where
    go : (n i : ℕ) → i + n ≡ to → cells_from n ws ts i ≡ between ts ws i to
    go zero i e = sym (between_none ts ws i to (omega arith))
    go (suc n) i e = ap ((get_or ts i 0, get_or ws i 0) ∷◌) (go n (suc i) (omega arith)) ∙ sym (between_next ts ws i to (omega arith) t w)

-- ---- the reads of a run
module _ (ws ts : List ℕ) (f : ℕ → Bool) where
  reads_from : (n i : ℕ) → list_all (λ j. all_seen (operand (get_or ts j 0) (get_or ws j 0) []) f) (range_with_len i n) ≡ all_seen (ops_of (cells_from n ws ts i)) f
  unfolding cells_from ops_of all_seen
  reads_from zero i = refl
  reads_from (suc n) i =
      ap (all_seen (operand (get_or ts i 0) (get_or ws i 0) []) f &&◌) (ap (λ k. list_all (λ j. all_seen (operand (get_or ts j 0) (get_or ws j 0) []) f) (range_with_len k n)) (add-one i) ∙ reads_from n (suc i))
      ∙ sym (seen-append (operand (get_or ts i 0) (get_or ws i 0) []) (ops_of (cells_from n ws ts (suc i))) f)
      ∙ ap (λ l. all_seen l f) (sym (operand-append (get_or ts i 0) (get_or ws i 0) (ops_of (cells_from n ws ts (suc i)))))

  pub reads_are : (from to : ℕ) → list_all (λ j. all_seen (operand (get_or ts j 0) (get_or ws j 0) []) f) (range_with_len from (to - from)) ≡ all_seen (ops_of (cells_in ws ts from to)) f
  unfolding cells_in
  reads_are from to = reads_from (to - from) from

-- ---- the search for a result
-- the word i says of a result, or says nothing of one
abbrev pub Says : List ℕ → ℕ → Type 0
Says ts i = (get_or ts i 0 ≡ 99 → ⊥) → get_or ts i 0 ≡ 100

abbrev pub Silent : List ℕ → ℕ → Type 0
Silent ts i = (get_or ts i 0 ≡ 99 → ⊥) × (get_or ts i 0 ≡ 100 → ⊥)

result_here : (s w : ℕ) (cs : Cells) → s ≡ 99 → result_of ((s, w) ∷ cs) ≡ some w
unfolding result_of
result_here s w cs e = rw (result_of, eq-eqb s 99 e)

result_optional : (s w : ℕ) (cs : Cells) → s ≡ 100 → result_of ((s, w) ∷ cs) ≡ opt_of w
unfolding result_of
result_optional s w cs e = rw (result_of, ne_eqb s 99 (λ q. omega arith), eq-eqb s 100 e)

result_later : (s w : ℕ) (cs : Cells) → (s ≡ 99 → ⊥) → (s ≡ 100 → ⊥) → result_of ((s, w) ∷ cs) ≡ result_of cs
unfolding result_of
result_later s w cs n m = rw (result_of, ne_eqb s 99 n, ne_eqb s 100 m)

one_less : (w : ℕ) (o : code.Option ℕ) → SomeIff o (1 ≤ w) (w - 1) → o ≡ option_of (opt_of w)
unfolding option_of opt_of
one_less zero None is = refl
one_less zero (Some x) is = absurd (omega (arith, is.0))
one_less (suc w) None is = absurd (is (omega arith))
one_less (suc w) (Some x) is = let q : x ≡ w = omega (arith, is.1) in ap Some q

result_none : result_of [] ≡ none
unfolding result_of
result_none = refl

module _ (ws ts : List ℕ) (from to : ℕ) where
  -- after n words that say nothing
  looked : (n : ℕ) → from + n ≤ to → ((k : ℕ) → from ≤ k → k < from + n → Silent ts k) → result_of (cells_in ws ts from to) ≡ result_of (cells_from (to - (from + n)) ws ts (from + n))
  unfolding cells_in
  looked zero h silent = let z : from + 0 ≡ from = omega arith in rw z refl
  looked (suc n) h silent =
      let z : from + suc n ≡ from + n + 1 = omega arith in
      let o = silent (from + n) (omega arith) (omega arith) in
      rw z (looked n (omega arith) (λ k l m. silent k l (omega arith)) ∙ ap result_of (cells_next ws ts (from + n) to (omega arith)) ∙ result_later (get_or ts (from + n) 0) (get_or ws (from + n) 0) _ o.0 o.1)

  pub looked_none : ((k : ℕ) → from ≤ k → k < to → Silent ts k) → None ≡ option_of (result_of (cells_in ws ts from to))
  unfolding cells_in cells_from option_of
  looked_none silent = go (to - from) refl
    where
      go : (n : ℕ) → to - from ≡ n → None ≡ option_of (result_of (cells_from (to - from) ws ts from))
      go zero e = rw e (sym (ap option_of result_none))
      go (suc n) e =
          let z : to - (from + suc n) ≡ 0 = omega arith in
          sym (ap option_of (looked (suc n) (omega arith) (λ k l m. silent k l (omega arith)) ∙ ap (λ i. result_of (cells_from i ws ts (from + suc n))) z ∙ result_none))

  module _ (j : ℕ) (first : (from ≤ j) × (j < to) × Says ts j × ((k : ℕ) → from ≤ k → k < j → Silent ts k)) where
    found : result_of (cells_in ws ts from to) ≡ result_of ((get_or ts j 0, get_or ws j 0) ∷ cells_from (to - (j + 1)) ws ts (j + 1))
    found = let z : from + (j - from) ≡ j = omega (arith, first.0) in rw z at (looked (j - from) (omega (arith, first.1)) (λ k l m. first.3 k l (omega (arith, first.0)))) ∙ ap result_of (cells_next ws ts j to first.1)

    pub looked_result : get_or ts j 0 ≡ 99 → Some (get_or ws j 0) ≡ option_of (result_of (cells_in ws ts from to))
    unfolding option_of
    looked_result e = sym (ap option_of (found ∙ result_here (get_or ts j 0) (get_or ws j 0) _ e))

    pub looked_optional : (get_or ts j 0 ≡ 99 → ⊥) → (o : code.Option ℕ) → SomeIff o (1 ≤ get_or ws j 0) (get_or ws j 0 - 1) → o ≡ option_of (result_of (cells_in ws ts from to))
    looked_optional n o is = one_less (get_or ws j 0) o is ∙ sym (ap option_of (found ∙ result_optional (get_or ts j 0) (get_or ws j 0) _ (first.2 n)))
