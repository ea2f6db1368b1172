-- A good state has its functions' names in their first words.
use mathlib.Core.Path.{◌≡◌, refl, sym, ap, ◌∙◌}
use mathlib.Core.List.{List, [], ◌++◌, map}
use Prim.Native.Nat.{ℕ, suc, ◌+◌, ◌≤◌, ◌<◌}
use native.Mathlib.Omega.{arith}
use lib.ListN.{length, get_or, length-map}
use Rattle.theory_lists.specs.Lists.{map_at_lem}
use Rattle.model.specs.Outcome.{Cells, word, Outcome, fits, misfit, unknown}
use Rattle.model.specs.Table.{ARGUMENTS, LOCALS, EXPRESSIONS, NAMED, function_head}
use Rattle.model.specs.Tree.{Function, flat_list, flat_block, flat, function_at}
use Rattle.model.specs.Carry.{Lays, lays_next, WellFunction}
use Rattle.model.specs.Redirect.{name_word, nothing}
use Rattle.theory_image.specs.Writing.{flat_right}
use Rattle.theory_image.specs.Readers.{read_well_function}
use Rattle.theory_image.specs.Betweens.{between_next}
use Rattle.derive_state.specs.Flats.{function_in, function_of}
use Rattle.derive_state.specs.Held.{cell, rec_at, table_of, functions_of, ValidArrays}
use Rattle.derive_state.specs.Sizes.{Sizes}
use Rattle.derive_state.proofs.Passes.{length-between}
use Rattle.derive_state.proofs.State.{table_at, table_long}
use Rattle.derive_lookup.specs.Bearing.{Bearing}

-- ---- a flat function begins with its name
record Begins (f : Function) : Type 0 where
  some : 0 < length (flat f)
  first : name_word f ≡ word (get_or (flat f) 0 (0, 0))

head_begins : (h rest : Cells) → Lays function_head h → (0 < length (h ++ rest)) × (word (get_or h 0 (0, 0)) ≡ word (get_or (h ++ rest) 0 (0, 0)))
unfolding function_head
head_begins h rest (lays_next e l) = (omega arith, refl)

abbrev behind : Function → Cells
behind f = flat_list ARGUMENTS f.arguments ++ (f.result ++ (flat_list LOCALS f.locals ++ (flat_list EXPRESSIONS f.exprs ++ (flat_list NAMED f.named ++ flat_block f.body))))

well_begins : (f : Function) → WellFunction f → Begins f
unfolding name_word
well_begins f w =
    let a = head_begins f.head (behind f) w.head_ok in
    let e : flat f ≡ f.head ++ behind f = flat_right f in
    record { some = rw e a.0; first = a.1 ∙ ap (λ c. word (get_or c 0 (0, 0))) (sym e) }

nothing-begins : Begins nothing
unfolding name_word nothing flat flat_list
nothing-begins = record { some = omega arith; first = refl }

function-begins : (c : Cells) → Begins (function_of c)
unfolding function_of function_in
function-begins c = go (function_at (map word c)) refl
  where
    go : (o : Outcome Function) → function_at (map word c) ≡ o → Begins (function_in o)
    go (fits f ws) e = well_begins f (read_well_function (map word c) f ws e)
    go misfit e = nothing-begins
    go unknown e = nothing-begins

-- ---- of a record that is a flat function
record Headed (log logtags : List ℕ) (s : ℕ) : Type 0 where
  some : 0 < get_or log s 0
  first : name_word (function_of (rec_at log logtags s)) ≡ get_or log (suc s) 0

headed : (log logtags : List ℕ) (s : ℕ) → length log ≡ 16384 → length logtags ≡ 16384 → s + suc (get_or log s 0) ≤ 16384 → flat (function_of (rec_at log logtags s)) ≡ rec_at log logtags s → Headed log logtags s
unfolding rec_at
headed log logtags s hl ht h e =
    let b = function-begins (rec_at log logtags s) in
    let l = length-between logtags log (suc s) (suc s + get_or log s 0) (omega arith) (omega arith) in
    let m : length (flat (function_of (rec_at log logtags s))) ≡ get_or log s 0 = ap length e ∙ l ∙ omega arith in
    let n = between_next logtags log (suc s) (suc s + get_or log s 0) (omega (arith, b.some)) (omega arith) (omega arith) in
    record { some = omega (arith, b.some); first = b.first ∙ ap (λ c. word (get_or c 0 (0, 0))) (e ∙ n) }

module _ {log logtags : List ℕ} {starts maps : List (List ℕ)} {buckets : List ℕ} {e : Sizes} (K : ValidArrays log logtags starts maps buckets e) where
  inside : (t k : ℕ) → t < 8 → k < get_or e.counts t 0 → cell starts t k + suc (get_or log (cell starts t k) 0) ≤ 16384
  inside t k ht hk = let a = K.within t k ht hk in let b = K.room in omega arith

  flat-at : (k : ℕ) → k < get_or e.counts 6 0 → flat (function_of (rec_at log logtags (cell starts 6 k))) ≡ rec_at log logtags (cell starts 6 k)
  unfolding functions_of
  flat-at k h =
      let T = table_of log logtags starts e.counts 6 in
      let l = table_long log logtags starts maps buckets e K 6 (omega arith) in
      let a = table_at log logtags starts maps buckets e K 6 k (omega arith) h in
      let q = ap (λ (x : List Cells). get_or x k []) K.flats in
      let m = map_at_lem flat (map function_of T) k (function_of []) [] (omega (arith, length-map T function_of)) in
      let o = map_at_lem function_of T k [] (function_of []) (omega arith) in
      ap (λ c. flat (function_of c)) (sym a) ∙ ap flat (sym o) ∙ sym m ∙ q ∙ a

  head_at : (k : ℕ) → k < get_or e.counts 6 0 → Headed log logtags (cell starts 6 k)
  head_at k h = headed log logtags (cell starts 6 k) K.log_long K.tags_long (inside 6 k (omega arith) h) (flat-at k h)

  pub bearing : Bearing log logtags starts e
  bearing = record {
    names = record {
      few = K.few 0 (omega arith);
      log_long = K.log_long;
      tags_long = K.tags_long;
      starts_long = K.rows 0 (omega arith);
      within = λ k h. inside 0 k (omega arith) h;
      apart = K.apart;
    };
    functions = record {
      few = K.few_functions;
      starts_long = K.rows 6 (omega arith);
      within = λ k h. let a = inside 6 k (omega arith) h in let b = (head_at k h).some in omega arith;
      first = λ k h. (head_at k h).first;
    };
  }
