-- What the passes of an image say together: the test of refusal 4, for the module that words and tags hold.
use mathlib.Core.Path.{◌≡◌, refl, sym, ap, ◌∙◌}
use mathlib.Core.Bool.{Bool, true, false, ◌&&◌}
use mathlib.Core.List.{List, [], ◌∷◌}
use Prim.Native.Nat.{ℕ, zero, suc, ◌≤◌, ◌<◌}
use native.Mathlib.Omega.{arith}
use lib.Dec.{ltb, leb, leb-zero, leb-suc-suc}
use lib.ListN.{length, get_or, get_or-eq_default}
use borrow.Author.Tests.{leb-true, leb-false}
use Rattle.theory_lists.specs.Booleans.{and_right, and_assoc}
use Rattle.model.specs.Outcome.{Cells, class, word}
use Rattle.model.specs.Table.{SPAN, UPTO, NAME, TYPE, INIT, OPT_INIT, WORD, constant_row, override_row}
use Rattle.model.specs.Module.{Module, count_at, offset_at, flat_table}
use Rattle.model.specs.View.{tables}
use Rattle.model.specs.Taped.{Tape, Taped}
use Rattle.model.specs.Operands.{optional}
use Rattle.model.specs.Lower.{below, types_lower, operands_lower, functions_lower, entries_lower, init_of, inits_lower, lower}
use Rattle.theory_image.specs.Plain.{plain?}
use Rattle.theory_image.specs.Quiet.{Plainly, plain-none, plain-next, plainly}
use Rattle.theory_image.specs.FunctionViews.{part_end, part-word, taped_held, taped_length}
use Rattle.theory_image.specs.Betweens.{table-between, table-count, record_offset, record_part}
use Rattle.theory_image.specs.Members.{each_at}
use Rattle.intake_lower.specs.Passes.{pass, type_next, type_ok, expr_next, expr_ok, word_at, init_ok, Reaches, Does, Passed}
use Rattle.intake_lower.proofs.Sections.{types_are, exprs_are, functions_are, entries_are, inits_are}

-- the init is word 4 of a constant, and word 5 of an override
pub record Held (d : ℕ) (r : Cells) (inits : List ℕ) : Type 0 where
  pub long : length r ≡ suc d
  pub is : init_of r ≡ inits

constant-held : {r : Cells} → Plainly (NAME ∷ SPAN ∷ UPTO ∷ TYPE ∷ INIT ∷ []) r → Held 4 r (word (get_or r 4 (0, 0)) ∷ [])
unfolding init_of
constant-held (plain-next (plain-next (plain-next (plain-next (plain-next plain-none))))) = record { long = refl; is = refl }

override-held : {r : Cells} → Plainly (NAME ∷ SPAN ∷ UPTO ∷ WORD ∷ TYPE ∷ OPT_INIT ∷ []) r → Held 5 r (optional (word (get_or r 5 (0, 0))) [])
unfolding init_of
override-held (plain-next (plain-next (plain-next (plain-next (plain-next (plain-next plain-none)))))) = record { long = refl; is = refl }

opt_below : (o e : ℕ) → ltb o (suc e) ≡ below (optional o []) e
unfolding optional below
opt_below zero e = leb-suc-suc 0 e ∙ leb-zero e
opt_below (suc o) e = leb-suc-suc (suc o) e ∙ sym (and_right (ltb o e))

one_below : (i e : ℕ) → ltb (suc i) (suc e) ≡ below (i ∷ []) e
unfolding below
one_below i e = leb-suc-suc (suc i) e ∙ sym (and_right (ltb i e))

-- a pass with two tests is the passes with each
and_swap : (a b c d : Bool) → (a && b) && (c && d) ≡ (a && c) && (b && d)
and_swap true true c d = refl
and_swap true false true d = refl
and_swap true false false d = refl
and_swap false b c d = refl

pass_both : (next : ℕ → ℕ → ℕ) (f g : ℕ → ℕ → ℕ → Bool) (cs : Cells) (n : ℕ) → pass cs next (λ s w n. f s w n && g s w n) n ≡ pass cs next f n && pass cs next g n
unfolding pass
pass_both next f g [] n = refl
pass_both next f g (c ∷ cs) n =
    let k : ℕ = next (class c) n in
    ap ((f (class c) (word c) k && g (class c) (word c) k) &&◌) (pass_both next f g cs k) ∙ and_swap (f (class c) (word c) k) (g (class c) (word c) k) (pass cs next f k) (pass cs next g k)

-- code whose contracts are the definitions
does : (next : ℕ → ℕ → ℕ) (ok : ℕ → ℕ → ℕ → Bool) → Does (λ s n r. r ≡ next s n) (λ s w n b. b ≡ ok s w n) next ok
does next ok = record { counted = λ s n r _ _ is. is; tested = λ s w n b _ _ _ is. is }

-- a pass whose code is that
abbrev pub Answers : (ℕ → ℕ → ℕ) → (ℕ → ℕ → ℕ → Bool) → Bool → List ℕ → List ℕ → ℕ → ℕ → Type 0
Answers next ok = Passed (λ s n r. r ≡ next s n) (λ s w n b. b ≡ ok s w n)

module _ {words tags : List ℕ} {n : ℕ} {m : Module} (t : Taped words tags n m) where
  constant-at : (j : ℕ) → j < count_at 2 words → Held 4 (get_or m.constants j []) (word (get_or (get_or m.constants j []) 4 (0, 0)) ∷ [])
  unfolding constant_row tables plain?
  constant-at j h = constant-held (plainly (each_at t.well.constants_ok.each j [] (omega (arith, table-count t 2 (omega arith)))) refl)

  override-at : (j : ℕ) → j < count_at 3 words → Held 5 (get_or m.overrides j []) (optional (word (get_or (get_or m.overrides j []) 5 (0, 0))) [])
  unfolding override_row tables plain?
  override-at j h = override-held (plainly (each_at t.well.overrides_ok.each j [] (omega (arith, table-count t 3 (omega arith)))) refl)

  -- a word of a record
  word_of_lem : (k j d : ℕ) → k < 8 → j < count_at k words → d < length (get_or (get_or (tables m) k []) j []) → word_at words k j d ≡ word (get_or (get_or (get_or (tables m) k []) j []) d (0, 0))
  unfolding word_at
  word_of_lem k j d h i l = part-word (taped_held t) (record_part t k j h i) d l

  constant-same : (w e : ℕ) → elim (leb (count_at 2 words) w) [ true ↦ true | false ↦ ltb (suc (word_at words 2 w 4)) (suc e) ] ≡ below (init_of (get_or m.constants w [])) e
  unfolding tables init_of below
  constant-same w e = go (leb (count_at 2 words) w) refl
    where
      go : (b : Bool) → leb (count_at 2 words) w ≡ b → elim b [ true ↦ true | false ↦ ltb (suc (word_at words 2 w 4)) (suc e) ] ≡ below (init_of (get_or m.constants w [])) e
      go true q =
          let h : length m.constants ≤ w = omega (arith, leb-true (count_at 2 words) w q, table-count t 2 (omega arith)) in
          sym (ap (λ r. below (init_of r) e) (get_or-eq_default m.constants [] h))
      go false q =
          let h : w < count_at 2 words = leb-false (count_at 2 words) w q in
          let c = constant-at w h in
          ap (λ x. ltb (suc x) (suc e)) (word_of_lem 2 w 4 (omega arith) h (omega (arith, c.long))) ∙ one_below (word (get_or (get_or m.constants w []) 4 (0, 0))) e ∙ sym (ap (λ xs. below xs e) c.is)

  override-same : (w e : ℕ) → elim (leb (count_at 3 words) w) [ true ↦ true | false ↦ ltb (word_at words 3 w 5) (suc e) ] ≡ below (init_of (get_or m.overrides w [])) e
  unfolding tables init_of below
  override-same w e = go (leb (count_at 3 words) w) refl
    where
      go : (b : Bool) → leb (count_at 3 words) w ≡ b → elim b [ true ↦ true | false ↦ ltb (word_at words 3 w 5) (suc e) ] ≡ below (init_of (get_or m.overrides w [])) e
      go true q =
          let h : length m.overrides ≤ w = omega (arith, leb-true (count_at 3 words) w q, table-count t 3 (omega arith)) in
          sym (ap (λ r. below (init_of r) e) (get_or-eq_default m.overrides [] h))
      go false q =
          let h : w < count_at 3 words = leb-false (count_at 3 words) w q in
          let c = override-at w h in
          ap (λ x. ltb x (suc e)) (word_of_lem 3 w 5 (omega arith) h (omega (arith, c.long))) ∙ opt_below (word (get_or (get_or m.overrides w []) 5 (0, 0))) e ∙ sym (ap (λ xs. below xs e) c.is)

  -- word d is there
  reaches : (k d : ℕ) → k < 8 → ((j : ℕ) → j < count_at k words → length (get_or (get_or (tables m) k []) j []) ≡ suc d) → Reaches words k d
  reaches k d h l =
      record {
        offset = λ j i. omega (arith, record_offset t k j h i, t.small);
        reach = λ j i. omega (arith, part_end (record_part t k j h i), (record_part t k j h i).within, l j i, taped_length t, t.small);
      }

  both_reach : Reaches words 2 4 × Reaches words 3 5
  unfolding tables
  both_reach = (reaches 2 4 (omega arith) (λ j i. (constant-at j i).long), reaches 3 5 (omega arith) (λ j i. (override-at j i).long))

  -- the sections, by their places in the header
  pub types-answer : (a e : ℕ) → a ≡ offset_at 1 words → e ≡ offset_at 2 words → (r : Bool) → Answers type_next type_ok r words tags a e → r ≡ types_lower m.types 0
  unfolding tables
  types-answer a e p q r got = got.same type_next type_ok (does type_next type_ok) ∙ rw (p, q) (ap (λ cs. pass cs type_next type_ok 0) (table-between t 1 (omega arith)) ∙ types_are t.well.types-ok.each)

  pub globals_answer : (a e : ℕ) → a ≡ offset_at 5 words → e ≡ offset_at 6 words → (tests : ℕ → ℕ → ℕ → Bool → Type 0) → ((s w n : ℕ) (b : Bool) → tests s w n b → b ≡ expr_ok s w n && init_ok words s w n) → (r : Bool) → Passed (λ s n r. r ≡ expr_next s n) tests r words tags a e → r ≡ operands_lower m.exprs 0 && inits_lower m.exprs m.constants m.overrides 0
  unfolding tables
  globals_answer a e p q tests tested r got =
      got.same expr_next (λ s w n. expr_ok s w n && init_ok words s w n) (record { counted = λ s n r _ _ is. is; tested = λ s w n b _ _ _ is. tested s w n b is })
      ∙ rw (p, q)
      (ap (λ cs. pass cs expr_next (λ s w n. expr_ok s w n && init_ok words s w n) 0) (table-between t 5 (omega arith))
      ∙ pass_both expr_next expr_ok (init_ok words) (flat_table m.exprs) 0
      ∙ ap (◌&& pass (flat_table m.exprs) expr_next (init_ok words) 0) (exprs_are t.well.exprs_ok.each)
      ∙ ap (operands_lower m.exprs 0 &&◌) (inits_are words m.constants m.overrides constant-same override-same t.well.exprs_ok.each))

  pub functions_answer : (a e : ℕ) → a ≡ offset_at 6 words → e ≡ offset_at 7 words → (r : Bool) → Answers expr_next expr_ok r words tags a e → r ≡ functions_lower m.functions
  unfolding tables
  functions_answer a e p q r got = got.same expr_next expr_ok (does expr_next expr_ok) ∙ rw (p, q) (ap (λ cs. pass cs expr_next expr_ok 0) (table-between t 6 (omega arith)) ∙ functions_are t.well.functions_ok.each)

  pub entries_answer : (a e : ℕ) → a ≡ offset_at 7 words → e ≡ offset_at 8 words → (r : Bool) → Answers expr_next expr_ok r words tags a e → r ≡ entries_lower m.entries
  unfolding tables
  entries_answer a e p q r got = got.same expr_next expr_ok (does expr_next expr_ok) ∙ rw (p, q) (ap (λ cs. pass cs expr_next expr_ok 0) (table-between t 7 (omega arith)) ∙ entries_are t.well.entries_ok.each)

-- ---- what the code requires of the tags
pub reach : {words tags : List ℕ} {n : ℕ} → Tape words tags n → Reaches words 2 4 × Reaches words 3 5
reach t = both_reach t.taped

-- ---- the returns: the first test that fails, or the last
module _ (m : Module) (a : Bool) (types : a ≡ types_lower m.types 0) where
  pub types_fail : a ≡ false → false ≡ lower m
  unfolding lower
  types_fail e = rw (lower, sym types ∙ e)

  module _ (a-ok : a ≡ true) (b : Bool) (globals : b ≡ operands_lower m.exprs 0 && inits_lower m.exprs m.constants m.overrides 0) where
    opened : lower m ≡ b && (functions_lower m.functions && entries_lower m.entries)
    unfolding lower
    opened = rw (lower, sym types ∙ a-ok) (sym (and_assoc (operands_lower m.exprs 0) (inits_lower m.exprs m.constants m.overrides 0) (functions_lower m.functions && entries_lower m.entries)) ∙ ap (◌&& (functions_lower m.functions && entries_lower m.entries)) (sym globals))

    pub globals_fail : b ≡ false → false ≡ lower m
    globals_fail e = sym (opened ∙ rw e refl)

    module _ (b-ok : b ≡ true) (d : Bool) (functions : d ≡ functions_lower m.functions) where
      pub functions_fail : d ≡ false → false ≡ lower m
      functions_fail e = sym (opened ∙ rw (b-ok, sym functions ∙ e) refl)

      pub last : d ≡ true → (r : Bool) → r ≡ entries_lower m.entries → r ≡ lower m
      last d-ok r e = e ∙ sym (opened ∙ rw (b-ok, sym functions ∙ d-ok) refl)
