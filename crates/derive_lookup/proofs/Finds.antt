-- The name of the source's function, and the function that has it.
use mathlib.Core.Path.{◌≡◌, ap, ◌∙◌}
use mathlib.Core.Bool.{true, not}
use mathlib.Core.List.{List, [], map}
use Prim.Native.Nat.{ℕ, zero, suc, pred, ◌+◌, ◌-◌, ◌≤◌, ◌<◌}
use native.Mathlib.Numerals.{add-one}
use native.Mathlib.Omega.{arith}
use lib.Dec.{eqb}
use lib.ListN.{length, get_or, take}
use borrow.Author.Tests.{eqb-false, not-true}
use Rattle.theory_lists.specs.Booleans.{and_split}
use Rattle.model.specs.Table.{NAME}
use Rattle.model.specs.Tree.{Function}
use Rattle.model.specs.Module.{count_at}
use Rattle.model.specs.View.{record_at, record_end, tables as tablesL}
use Rattle.model.specs.Carry.{Each, each_none, each_next, WellFunction}
use Rattle.model.specs.Numbers.{Bounds, every, outside, sound_function}
use Rattle.model.specs.Names.{field, present, function_names, named}
use Rattle.model.specs.Between.{between}
use Rattle.model.specs.Redirect.{name_word, nothing, function}
use Rattle.model.specs.Tables.{names, code_t, six, at, tables, rec_at as recT}
use Rattle.model.specs.References.{index_of}
use Rattle.model.specs.Bodies.{last_of, known}
use Rattle.theory_bodies.specs.Names.{head_field, name_low}
use Rattle.theory_image.specs.Betweens.{table-count}
use Rattle.theory_image.specs.Members.{each_at}
use Rattle.theory_order.specs.Numbered.{functions_sound}
use Rattle.redirect_calls.proofs.Places.{name_is_lem, start_in, many}
use Rattle.derive_state.specs.Refers.{tab_of}
use Rattle.derive_state.specs.Flats.{function_of}
use Rattle.derive_state.specs.Source.{mod_of, src_of, Source}
use Rattle.derive_state.specs.Held.{recs_at, recs_of, functions_of, st_of}
use Rattle.derive_state.specs.Sizes.{Sizes}
use Rattle.derive_imports.proofs.Sources.{count_few, record_is}
use Rattle.derive_lookup.specs.Bearing.{KnownEnsures}

-- ---- every function has a name, and it is in the table
not_zero : (x : ℕ) → not (eqb x 0) ≡ true → 0 < x
not_zero x h = let n : x ≡ 0 → ⊥ = eqb-false x 0 (not-true (eqb x 0) h) in omega arith

abbrev Bears : ℕ → Function → Type 0
Bears n f = (0 < name_word f) × (name_word f ≤ n)

all_bear : (b : Bounds) {fs : List Function} → Each WellFunction fs → every (sound_function b) fs ≡ true → present (function_names fs) ≡ true → Each (Bears b.names) fs
unfolding every present function_names
all_bear b each_none h k = each_none
all_bear b (each_next {a = f} {l = fs} w ws) h k =
    let a = and_split (sound_function b f) (every (sound_function b) fs) h in
    let c = and_split (not (eqb (field NAME f.head) 0)) (present (function_names fs)) k in
    let n : 0 < name_word f = rw (head_field f w) at (not_zero (field NAME f.head) c.0) in
    each_next {a = f} (n, name_low b f w a.0) (all_bear b ws a.1 c.1)

module _ (words tags : List ℕ) (n : ℕ) (src : Source words tags n) (five : named (mod_of words n) ≡ true) (f : ℕ) (hf : f < count_at 6 words) where
  names_many : count_at 0 words ≡ length (mod_of words n).names
  unfolding tablesL
  names_many = table-count src.taped 0 (omega arith)

  bears : Bears (length (mod_of words n).names) (function (mod_of words n) f)
  unfolding named outside function
  bears =
      each_at
      (all_bear (outside (mod_of words n)) src.taped.well.functions_ok.each (functions_sound (mod_of words n) src.three) (and_split (present (function_names (mod_of words n).functions)) _ five).0)
      f
      nothing
      (omega (arith, many src.taped))

  module _ (s : ℕ) (hs : s ≡ record_at 6 f words) where
    pub head_in : s < 16384
    head_in = let a = start_in src.taped f hf in omega arith

    word_is : get_or words s 0 ≡ name_word (function (mod_of words n) f)
    word_is = ap (λ p. get_or words p 0) hs ∙ name_is_lem src.taped f hf

    module _ (v : ℕ) (hv : v ≡ get_or words s 0) where
      pub some_name : 1 ≤ v
      some_name = let a = bears.0 in let b = word_is in omega arith

      pub name_in_lem : v - 1 < count_at 0 words
      name_in_lem = let a = bears.1 in let b = word_is in let c = names_many in let d = some_name in omega arith

      pub name_few : v - 1 < 512
      name_few = let a = name_in_lem in let b = count_few words tags n src 0 (omega arith) in omega arith

      module _ (from to : ℕ) (hb : from ≡ record_at 0 (v - 1) words) (he : to ≡ record_end 0 (v - 1) words) where
        name_text_lem : between tags words from to ≡ recT (tables (mod_of words n)) names (pred (name_word (function (mod_of words n) f)))
        unfolding src_of tab_of
        name_text_lem =
            let p : v - 1 ≡ pred (name_word (function (mod_of words n) f)) = less v (name_word (function (mod_of words n) f)) (hv ∙ word_is) in
            record_is words tags n src 0 (v - 1) (omega arith) name_in_lem from to hb he ∙ ap (recT (tables (mod_of words n)) names) p
          where
            less : (x y : ℕ) → x ≡ y → x - 1 ≡ pred y
            less x zero e = omega arith
            less x (suc y) e = omega arith

        module _ (log logtags : List ℕ) (starts : List (List ℕ)) (e : Sizes) where
          pub knows : (d r : ℕ) → d ≡ index_of (recs_at log logtags (take (get_or e.counts 0 0) (get_or starts 0 []))) (between tags words from to)
              → (r ≡ last_of (map function_of (recs_at log logtags (take (get_or e.counts 6 0) (get_or starts 6 [])))) 0 0 (d + 1)) × (r ≤ get_or e.counts 6 0)
              → KnownEnsures words n log logtags starts e f r
          unfolding known st_of recs_of functions_of six at code_t
          knows d r hd hr = record {
            is = λ maps special. hr.0 ∙ ap (last_of (map function_of (recs_at log logtags (take (get_or e.counts 6 0) (get_or starts 6 [])))) 0 0) (add-one d ∙ ap suc (hd ∙ ap (index_of (recs_at log logtags (take (get_or e.counts 0 0) (get_or starts 0 [])))) name_text_lem));
            low = hr.1;
          }
