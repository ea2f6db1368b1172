-- Refusal 21 by the model's test and by the counts that the code looks at.
use mathlib.Core.Path.{◌≡◌, refl, sym, ap, ap₂, ◌∙◌}
use mathlib.Core.Bool.{Bool, true, false, ◌||◌}
use mathlib.Core.List.{List, [], ◌∷◌, map}
use Prim.Native.Nat.{ℕ, ◌*◌, ◌<◌, ◌≤◌}
use native.Mathlib.Omega.{arith}
use lib.Dec.{ltb}
use lib.ListN.{length, get_or, drop, length-map}
use borrow.Author.Tests.{lt-ltb, ltb-true}
use Rattle.theory_lists.specs.Booleans.{or_l}
use Rattle.model.specs.Outcome.{Cells, word}
use Rattle.model.specs.Table.{NAME}
use Rattle.model.specs.Tree.{flat, flat_entry}
use Rattle.model.specs.Module.{Module, Section, limits, flat_special, sections, flat_module, write}
use Rattle.model.specs.Carry.{carry_cells, Each}
use Rattle.model.specs.Finish.{appearing, renumber, named_by, passes, too_large}
use Rattle.theory_finish.specs.Classes.{Not}
use Rattle.derive_sections.specs.Flat.{total, ordered, chosen, cells_of}
use Rattle.derive_image.specs.Held.{Large, Fits, long, functions, entries}
use Rattle.derive_image.proofs.Bridge.{sections_of, sections_are, named_cells, named-pairs, appearing_cells, finished_cells}
use Rattle.derive_image.proofs.Storing.{length-finished}

or_right : (a b : Bool) → b ≡ true → a || b ≡ true
or_right true b e = refl
or_right false b e = e

neither : (a b : Bool) → a ≡ false → b ≡ false → a || b ≡ false
neither a b e f = rw (e, f)

not_more : (l n : ℕ) → n ≤ l → ltb l n ≡ false
not_more l n h = go (ltb l n) refl
  where
    go : (b : Bool) → ltb l n ≡ b → ltb l n ≡ false
    go true e = let z = ltb-true l n e in absurd (omega arith)
    go false e = e

passes-carried : (g : Cells → Cells) (rss : List (List Cells)) (k : ℕ) (sp sp' : Cells) (ls : List ℕ) → passes (sections_of (map (map g) rss) k sp) ls ≡ passes (sections_of rss k sp') ls
unfolding passes sections_of
passes-carried g [] k sp sp' [] = refl
passes-carried g [] k sp sp' (l ∷ ls) = refl
passes-carried g (rs ∷ rss) k sp sp' [] = refl
passes-carried g (rs ∷ rss) k sp sp' (l ∷ ls) = ap₂ (λ (n : ℕ) (b : Bool). ltb l n || b) (length-map rs g) (passes-carried g rss k sp sp' ls)

module _ (a b c d e f g h i : ℕ) where
  abbrev tests : Bool
  tests = ltb 512 a || (ltb 512 b || (ltb 512 c || (ltb 512 d || (ltb 512 e || (ltb 512 f || (ltb 256 g || (ltb 16 h || (ltb 512 i || false))))))))

  many_functions : 256 < g → tests ≡ true
  many_functions l = or_right (ltb 512 a) _ (or_right (ltb 512 b) _ (or_right (ltb 512 c) _ (or_right (ltb 512 d) _ (or_right (ltb 512 e) _ (or_right (ltb 512 f) _ (or_l (ltb 256 g) (ltb 16 h || (ltb 512 i || false)) (lt-ltb 256 g l)))))))

  many_entries : 16 < h → tests ≡ true
  many_entries l = or_right (ltb 512 a) _ (or_right (ltb 512 b) _ (or_right (ltb 512 c) _ (or_right (ltb 512 d) _ (or_right (ltb 512 e) _ (or_right (ltb 512 f) _ (or_right (ltb 256 g) _ (or_l (ltb 16 h) (ltb 512 i || false) (lt-ltb 16 h l))))))))

  none_many : a ≤ 512 → b ≤ 512 → c ≤ 512 → d ≤ 512 → e ≤ 512 → f ≤ 512 → g ≤ 256 → h ≤ 16 → i ≤ 512 → tests ≡ false
  none_many ha hb hc hd he hf hg hh hi = rw (not_more 512 a ha, not_more 512 b hb, not_more 512 c hc, not_more 512 d hd, not_more 512 e he, not_more 512 f hf, not_more 256 g hg, not_more 16 h hh, not_more 512 i hi)

module _ (t : Module) (names_plain : Each (Each (Not NAME)) t.names) (special-plain : Each (Not NAME) (flat_special t.special)) where
  abbrev ns : List ℕ
  ns = appearing t

  abbrev m : Module
  m = named_by ns t

  abbrev sp : List ℕ
  sp = map word (flat_special t.special)

  words_length : length (flat_module m) ≡ total (ordered (cells_of t)) sp
  unfolding write
  words_length = sym (length-map (flat_module m) word) ∙ sym (ap length (finished_cells t names_plain special-plain)) ∙ length-finished (cells_of t) (length t.special.pairs) sp (unfold cells_of in refl)

  passes_are : passes (sections m) limits ≡ tests (length (chosen ns t.names)) (length t.types) (length t.constants) (length t.overrides) (length t.globals) (length t.exprs) (length (map flat t.functions)) (length (map flat_entry t.entries)) (length t.special.pairs)
  unfolding passes sections_of limits cells_of
  passes_are =
      ap (λ (ss : List Section). passes ss limits) (sections_are m)
      ∙ ap₂ (λ (rss : List (List Cells)) (k : ℕ). passes (sections_of rss k (flat_special m.special)) limits) (named_cells t names_plain special-plain ns) (named-pairs t names_plain special-plain ns)
      ∙ passes-carried (carry_cells (renumber ns)) (chosen ns t.names ∷ drop 1 (cells_of t)) (length t.special.pairs) (flat_special m.special) (flat_special t.special) limits

  -- 21, where the code says so
  pub large_is : Large (cells_of t) sp → too_large m ≡ true
  unfolding too_large cells_of
  large_is (long h) = or_l (ltb 65536 (4 * length (flat_module m))) (passes (sections m) limits) (lt-ltb 65536 (4 * length (flat_module m)) (let z = words_length in omega arith))
  large_is (functions h) = or_right (ltb 65536 (4 * length (flat_module m))) (passes (sections m) limits) (passes_are ∙ many_functions (length (chosen ns t.names)) (length t.types) (length t.constants) (length t.overrides) (length t.globals) (length t.exprs) (length (map flat t.functions)) (length (map flat_entry t.entries)) (length t.special.pairs) h)
  large_is (entries h) = or_right (ltb 65536 (4 * length (flat_module m))) (passes (sections m) limits) (passes_are ∙ many_entries (length (chosen ns t.names)) (length t.types) (length t.constants) (length t.overrides) (length t.globals) (length t.exprs) (length (map flat t.functions)) (length (map flat_entry t.entries)) (length t.special.pairs) h)

  -- and not where it does not: tables have rows of 512
  pub fits_is : Fits (cells_of t) sp → length t.types ≤ 512 → length t.constants ≤ 512 → length t.overrides ≤ 512 → length t.globals ≤ 512 → length t.exprs ≤ 512 → length t.special.pairs ≤ 512 → too_large m ≡ false
  unfolding too_large cells_of chosen
  fits_is f hb hc hd he hf hi =
      neither (ltb 65536 (4 * length (flat_module m))) (passes (sections m) limits) (not_more 65536 (4 * length (flat_module m)) (let z = words_length in let y = f.short in omega arith))
      (passes_are ∙ none_many (length (chosen ns t.names)) (length t.types) (length t.constants) (length t.overrides) (length t.globals) (length t.exprs) (length (map flat t.functions)) (length (map flat_entry t.entries)) (length t.special.pairs) (omega (arith, length-map ns (λ (n : ℕ). get_or t.names n []), ap length (appearing_cells t names_plain special-plain), f.names)) hb hc hd he hf f.functions f.entries hi)
