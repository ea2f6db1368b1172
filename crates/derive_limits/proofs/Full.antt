-- The theorems on what is defined in `specs/Full.antt`.
use Rattle.std.specs.Prelude.{◌≡◌, true, List, [], ◌∷◌, map, ℕ, ◌+◌, ◌*◌, ◌<◌, ltb}
use Rattle.std.proofs.Math.Path.{refl}
use Rattle.std.proofs.Common.{◌∙◌, length-append}
use Rattle.std.proofs.Math.Logic.{⊎_elim}
use Rattle.std.proofs.lemmas.Bool.{false≢true}
use native.Mathlib.Omega.{arith}
use Rattle.std.proofs.Math.ListN.{length}
use borrow.Author.Tests.{lt-ltb, ltb-true}
use Rattle.theory_lists.specs.Booleans.{or_l, or_r, or_cases}
use Rattle.model.specs.Outcome.{Cells}
use Rattle.model.specs.Tree.{Entry, flat, flat_entry, flat_all}
use Rattle.model.specs.Module.{Module, Section, pair_row, flat_table, flat_special, limits, sections, flat_module}
use Rattle.model.specs.Carry.{Lays, Each, each_none, each_next}
use Rattle.model.specs.Tables.{Tab, names, types, constants, overrides, globals, exprs, at, count}
use Rattle.model.specs.Imports.{Derived}
use Rattle.model.specs.Finish.{gathered, passes, too_large}
use Rattle.theory_image.specs.Plain.{plain?, plain-length}
use Rattle.theory_image.specs.Views.{length_cells, table-length}
use Rattle.theory_finish.specs.Kept.{Parts}
use Rattle.theory_finish.specs.Size.{special-length, all-length}
use Rattle.derive_state.specs.Held.{size_r, size_s, words_of, long, many, crowd, keys}
use Rattle.derive_limits.specs.Full.{Full, over, entries}

-- ---- counts
-- one of the sections passes its limit
data Passed : List Section → List ℕ → Type 0 where
  first : {s : Section} {ss : List Section} {l : ℕ} {ls : List ℕ} → l < s.0 → Passed (s ∷ ss) (l ∷ ls)
  later : {s : Section} {ss : List Section} {l : ℕ} {ls : List ℕ} → Passed ss ls → Passed (s ∷ ss) (l ∷ ls)

passed_is : {ss : List Section} {ls : List ℕ} → Passed ss ls → passes ss ls ≡ true
unfolding passes
passed_is (first {s} {ss} {l} {ls} h) = or_l (ltb l s.0) (passes ss ls) (lt-ltb l s.0 h)
passed_is (later {s} {ss} {l} {ls} p) = or_r (ltb l s.0) (passes ss ls) (passed_is p)

is_passed : (ss : List Section) (ls : List ℕ) → passes ss ls ≡ true → Passed ss ls
unfolding passes
is_passed [] ls h = absurd (false≢true h)
is_passed (s ∷ ss) [] h = absurd (false≢true h)
is_passed (s ∷ ss) (l ∷ ls) h = ⊎_elim (λ e. first (ltb-true l s.0 e)) (λ e. later (is_passed ss ls e)) (or_cases (ltb l s.0) (passes ss ls) h)

module _ (s : Derived) (es : List Entry) where
  crowded : (t : Tab) → 512 < count s.recs t → Passed (sections (gathered s es)) limits
  unfolding sections limits gathered count at
  crowded names h = first h
  crowded types h = later (first h)
  crowded constants h = later (later (first h))
  crowded overrides h = later (later (later (first h)))
  crowded globals h = later (later (later (later (first h))))
  crowded exprs h = later (later (later (later (later (first h)))))

  many_functions : 256 < length s.functions → Passed (sections (gathered s es)) limits
  unfolding sections limits gathered
  many_functions h = later (later (later (later (later (later (first h))))))

  many_entries : 16 < length es → Passed (sections (gathered s es)) limits
  unfolding sections limits gathered
  many_entries h = later (later (later (later (later (later (later (first h)))))))

  many_pairs : 512 < length s.special.pairs → Passed (sections (gathered s es)) limits
  unfolding sections limits gathered
  many_pairs h = later (later (later (later (later (later (later (later (first h))))))))

  counted : Passed (sections (gathered s es)) limits → Full s es
  unfolding sections limits gathered count at
  counted (first h) = over (many names h)
  counted (later (first h)) = over (many types h)
  counted (later (later (first h))) = over (many constants h)
  counted (later (later (later (first h)))) = over (many overrides h)
  counted (later (later (later (later (first h))))) = over (many globals h)
  counted (later (later (later (later (later (first h)))))) = over (many exprs h)
  counted (later (later (later (later (later (later (first h))))))) = over (crowd h)
  counted (later (later (later (later (later (later (later (first h)))))))) = entries h
  counted (later (later (later (later (later (later (later (later (first h))))))))) = over (keys h)
  counted (later (later (later (later (later (later (later (later (later p))))))))) = elim p [ ]

-- ---- words
-- a record and its offset
all_size : (rs : List Cells) → length rs + length (flat_all rs) ≡ size_r rs
unfolding flat_all size_r
all_size [] = refl
all_size (r ∷ rs) = omega (arith, length-append r (flat_all rs), all_size rs)

pub table_size_lem : (rs : List Cells) → length (flat_table rs) ≡ size_r rs
table_size_lem rs = table-length rs ∙ all_size rs

pairs_size : {rs : List Cells} → Each (Lays pair_row) rs → length (flat_all rs) ≡ 2 * length rs
unfolding flat_all plain?
pairs_size each_none = refl
pairs_size (each_next {a = r} {l = rs} l ls) = omega (arith, length-append r (flat_all rs), plain-length l refl, pairs_size ls)

module _ (s : Derived) (es : List Entry) (p : Parts (gathered s es)) where
  abbrev g : Module
  g = gathered s es

  special_size : length (flat_special g.special) ≡ 3 + 2 * length s.special.pairs
  unfolding gathered plain?
  special_size = omega (arith, special-length (gathered s es), plain-length p.rays_lays refl, pairs_size p.pairs_each)

  -- THE WORDS of what is gathered are those that the code counts
  pub words_counted : length (flat_module g) ≡ words_of s + size_r (map flat_entry es)
  unfolding words_of size_s gathered
  words_counted =
      omega (
        arith,
        length_cells g,
        all-length g,
        special_size,
        table_size_lem s.recs.of_names,
        table_size_lem s.recs.of_types,
        table_size_lem s.recs.of_constants,
        table_size_lem s.recs.of_overrides,
        table_size_lem s.recs.of_globals,
        table_size_lem s.recs.of_exprs,
        table_size_lem (map flat s.functions),
        table_size_lem (map flat_entry es),
      )

  -- TOO LARGE exactly if it is full
  pub full_large : Full s es → too_large g ≡ true
  unfolding too_large
  full_large (over (long h)) = or_l (ltb 65536 (4 * length (flat_module g))) _ (lt-ltb 65536 (4 * length (flat_module g)) (omega (arith, words_counted)))
  full_large (over (many t h)) = or_r (ltb 65536 (4 * length (flat_module g))) _ (passed_is (crowded s es t h))
  full_large (over (crowd h)) = or_r (ltb 65536 (4 * length (flat_module g))) _ (passed_is (many_functions s es h))
  full_large (over (keys h)) = or_r (ltb 65536 (4 * length (flat_module g))) _ (passed_is (many_pairs s es h))
  full_large (entries h) = or_r (ltb 65536 (4 * length (flat_module g))) _ (passed_is (many_entries s es h))

  pub large_full : too_large g ≡ true → Full s es
  unfolding too_large
  large_full h =
      ⊎_elim
      (λ e. over (long (omega (arith, words_counted, ltb-true 65536 (4 * length (flat_module g)) e))))
      (λ e. counted s es (is_passed (sections g) limits e))
      (or_cases (ltb 65536 (4 * length (flat_module g))) (passes (sections g) limits) h)
