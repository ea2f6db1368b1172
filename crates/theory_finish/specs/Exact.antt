-- "FULL" IS NEVER SAID BEFORE THE LIMIT: where every name appears, the finished module has as many names as what is gathered and is as long, so the one is too large exactly if the other is.
use Rattle.std.proofs.Math.Path.{◌≡◌}
use Rattle.std.specs.Prelude.{refl, Bool, true, false, ℕ, zero, suc, ◌+◌, ◌≤◌, ◌<◌, eqb, get_or, set, replicate}
use Rattle.std.proofs.Common.{sym, ap, ap₂, ◌∙◌, ⊎_elim, arith, length-append, get_or-set_other, eqb-true}
use mathlib.Core.List.{List, [], ◌∷◌, map}
use Rattle.std.proofs.Math.ListN.{length, get_or-map}
use Rattle.std.proofs.lemmas.List.{length-map, get_or-replicate}
use Rattle.std.proofs.lemmas.Bool.{eqb-false}
use Rattle.theory_lists.specs.Sums.{sum_at}
use Rattle.model.specs.Outcome.{Cells}
use Rattle.model.specs.Tree.{Entry, flat, flat_entry, flat_all}
use Rattle.model.specs.Table.{PLACE}
use Rattle.model.specs.Module.{Module, Section, HEADER, places, flat_table, sections, pairs_from, bodies, flat_module}
use Rattle.model.specs.Carry.{carry_cells, carry, carry_special}
use Rattle.model.specs.Initial.{Mem, here, there}
use Rattle.theory_order.specs.Lists.{length-numbers}
use Rattle.theory_image.specs.Members.{no_mem}
use Rattle.model.specs.Calls.{numbers}
use Rattle.model.specs.Tables.{Tab, names, types, constants, overrides, globals, exprs, is_t, code_t, at, Tables}
use Rattle.model.specs.Imports.{Derived}
use Rattle.model.specs.Finish.{names_in, appearing, renumber, with_names, named_by, gathered, finished, too_large}
use Rattle.theory_finish.specs.Firsts.{either, Once, once-none, once-next, firsts-once, firsts-all, mem_first, all-at}
use Rattle.theory_finish.specs.Finished.{renumber-only}
use Rattle.theory_finish.specs.Size.{Smaller, Under, under-length, under_small, carried-all, carried-flat, carried_entries}
use Rattle.theory_finish.specs.Borne.{behind-cell, left_names, right_names}
use Rattle.theory_finish.specs.Shown.{in_table, in_function_lem, appears, waits, held, Where, Shown}
use Rattle.theory_finish.specs.ShownSource.{None}

-- ---- sums over numbers that differ

zeroed : (ws : List ℕ) (n : ℕ) → get_or (set ws n 0) n 0 ≡ 0
zeroed [] n = refl
zeroed (w ∷ ws) zero = refl
zeroed (w ∷ ws) (suc n) = zeroed ws n

pub sum_at_away : (ws : List ℕ) (n : ℕ) (ns : List ℕ) → (Mem n ns → ⊥) → sum_at (set ws n 0) ns ≡ sum_at ws ns
unfolding sum_at
sum_at_away ws n [] h = refl
sum_at_away ws n (k ∷ ns) h = ap₂ ◌+◌ (get_or-set_other ws n k 0 0 λ e. h (rw e here)) (sum_at_away ws n ns λ m. h (there m))

sum_at_less : (ws : List ℕ) (n : ℕ) (ns : List ℕ) → sum_at (set ws n 0) ns ≤ sum_at ws ns
unfolding sum_at
sum_at_less ws n [] = omega arith
sum_at_less ws n (k ∷ ns) = let i = sum_at_less ws n ns in either (eqb k n) (λ e. at_same k (eqb-true k n e) i) λ e. let z = get_or-set_other ws n k 0 0 (eqb-false k n e) in omega arith
  where
    at_same : (k : ℕ) → k ≡ n → sum_at (set ws n 0) ns ≤ sum_at ws ns → get_or (set ws n 0) k 0 + sum_at (set ws n 0) ns ≤ get_or ws k 0 + sum_at ws ns
    at_same k e i = rw e (let z = zeroed ws n in omega arith)

-- one that is there counts
sum_at_there : (ws : List ℕ) (n : ℕ) {ns : List ℕ} → Mem n ns → get_or ws n 0 + sum_at (set ws n 0) ns ≤ sum_at ws ns
unfolding sum_at
sum_at_there ws n (here {xs}) = let i = sum_at_less ws n xs in let z = zeroed ws n in omega arith
sum_at_there ws n (there {y} {xs} m) =
    let i = sum_at_there ws n m in
    either (eqb y n) (λ e. at_same y (eqb-true y n e) i) λ e. let z = get_or-set_other ws n y 0 0 (eqb-false y n e) in omega arith
  where
    at_same : (y : ℕ) → y ≡ n → get_or ws n 0 + sum_at (set ws n 0) xs ≤ sum_at ws xs → get_or ws n 0 + (get_or (set ws n 0) y 0 + sum_at (set ws n 0) xs) ≤ get_or ws y 0 + sum_at ws xs
    at_same y e i = rw e (let z = zeroed ws n in omega arith)

sum_at_among : {xs : List ℕ} (ws ys : List ℕ) → Once xs → ((x : ℕ) → Mem x xs → Mem x ys) → sum_at ws xs ≤ sum_at ws ys
unfolding sum_at
sum_at_among ws ys once-none h = omega arith
sum_at_among ws ys (once-next {x} {xs} n o) h = omega (arith, sum_at_among (set ws x 0) ys o (λ y m. h y (there m)), sum_at_away ws x xs n, sum_at_there ws x (h x here))

-- ---- all numbers
numbers_from : (n k : ℕ) {x : ℕ} → Mem x (numbers n k) → (k ≤ x) × (x < k + n)
unfolding numbers
numbers_from zero k m = absurd (no_mem m)
numbers_from (suc n) k {x} m = ⊎_elim (λ e. (omega arith, omega arith)) (λ q. let z = numbers_from n (suc k) q in (omega arith, omega arith)) (mem_first m)

numbers-once : (n k : ℕ) → Once (numbers n k)
unfolding numbers
numbers-once zero k = once-none
numbers-once (suc n) k = once-next (λ m. let z : suc k ≤ k = (numbers_from n (suc k) m).0 in omega arith) (numbers-once n (suc k))

numbers-all : (n k : ℕ) (x : ℕ) → k ≤ x → x < k + n → Mem x (numbers n k)
unfolding numbers
numbers-all zero k x a b = absurd (omega arith)
numbers-all (suc n) k x a b = either (eqb k x) (λ e. rw (eqb-true k x e) here) λ e. there (numbers-all n (suc k) x (let z = eqb-false k x e in omega arith) (omega arith))

-- ---- records chosen by numbers
chosen-length : (rs : List Cells) (ns : List ℕ) → length (flat_all (map (λ n. get_or rs n []) ns)) ≡ sum_at (map length rs) ns
unfolding flat_all sum_at
chosen-length rs [] = refl
chosen-length rs (n ∷ ns) = length-append (get_or rs n []) (flat_all (map (λ n. get_or rs n []) ns)) ∙ ap₂ ◌+◌ (sym (get_or-map length rs n [])) (chosen-length rs ns)

ones : (n : ℕ) (xs : List ℕ) → ((i : ℕ) → Mem i xs → i < n) → sum_at (replicate n 1) xs ≡ length xs
unfolding sum_at
ones n [] h = refl
ones n (x ∷ xs) h = omega (arith, get_or-replicate {A = ℕ} n x 1 0 (h x here), ones n xs λ i g. h i (there g))

module _ (rs : List Cells) (ns : List ℕ) (o : Once ns) (low : (n : ℕ) → Mem n ns → n < length rs) (all : (n : ℕ) → n < length rs → Mem n ns) where
  abbrev N : List ℕ
  N = numbers (length rs) 0

  to : (x : ℕ) → Mem x ns → Mem x N
  to x m = numbers-all (length rs) 0 x (omega arith) (let z = low x m in omega arith)

  from : (x : ℕ) → Mem x N → Mem x ns
  from x m = all x (let z = numbers_from (length rs) 0 m in omega arith)

  abbrev cs : List Cells
  cs = map (λ n. get_or rs n []) ns

  same : (ws : List ℕ) → sum_at ws ns ≡ sum_at ws N
  same ws = omega (arith, sum_at_among ws N o to, sum_at_among ws ns (numbers-once (length rs) 0) from)

  chosen_few : length cs ≡ length rs
  chosen_few =
      length-map ns (λ n. get_or rs n []) ∙ sym (ones (length rs) ns low) ∙ same (replicate (length rs) 1)
      ∙ ones (length rs) N (λ i m. let z = numbers_from (length rs) 0 m in omega arith) ∙ length-numbers (length rs) 0

  chosen-short : length (flat_all cs) ≡ length (flat_all rs)
  chosen-short = chosen-length rs ns ∙ same (map length rs) ∙ sym (chosen-length rs N) ∙ ap (λ (l : List Cells). length (flat_all l)) (all-at rs [])

  pub chosen_less : Smaller cs rs
  chosen_less = record { few = let z = chosen_few in omega arith; short = let z = chosen-short in omega arith }

  pub chosen_more : Smaller rs cs
  chosen_more = record { few = let z = chosen_few in omega arith; short = let z = chosen-short in omega arith }

-- ---- the finished module beside what is gathered
module _ (t : Module) (low : (n : ℕ) → Mem n (appearing t) → n < length t.names) (all : (n : ℕ) → n < length t.names → Mem n (appearing t)) where
  abbrev ns : List ℕ
  ns = appearing t

  once : Once ns
  unfolding appearing
  once = firsts-once (names_in (flat_module t)) [] once-none

  carried-less : (rs : List Cells) → Smaller (map (carry_cells (renumber ns)) rs) rs
  carried-less rs = record { few = rw (length-map rs (carry_cells (renumber ns))) (omega arith); short = rw (carried-all (renumber-only ns) rs) (omega arith) }

  carried-more : (rs : List Cells) → Smaller rs (map (carry_cells (renumber ns)) rs)
  carried-more rs = record { few = rw (length-map rs (carry_cells (renumber ns))) (omega arith); short = rw (carried-all (renumber-only ns) rs) (omega arith) }

  less : Under (named_by ns t) t
  unfolding named_by with_names carry carry_special
  less = record {
    names_in_lem = chosen_less t.names ns once low all;
    types_in = carried-less t.types;
    constants_in = carried-less t.constants;
    overrides_in = carried-less t.overrides;
    globals_in = carried-less t.globals;
    exprs_in = carried-less t.exprs;
    functions_in_lem = rw (carried-flat (renumber-only ns) t.functions) (carried-less (map flat t.functions));
    entries_in = rw (carried_entries (renumber-only ns) t.entries) (carried-less (map flat_entry t.entries));
    rays_in = rw (length-map t.special.rays _) (omega arith);
    pairs_in_lem = carried-less t.special.pairs;
  }

  more : Under t (named_by ns t)
  unfolding named_by with_names carry carry_special
  more = record {
    names_in_lem = chosen_more t.names ns once low all;
    types_in = carried-more t.types;
    constants_in = carried-more t.constants;
    overrides_in = carried-more t.overrides;
    globals_in = carried-more t.globals;
    exprs_in = carried-more t.exprs;
    functions_in_lem = rw (carried-flat (renumber-only ns) t.functions) (carried-more (map flat t.functions));
    entries_in = rw (carried_entries (renumber-only ns) t.entries) (carried-more (map flat_entry t.entries));
    rays_in = rw (length-map t.special.rays _) (omega arith);
    pairs_in_lem = carried-more t.special.pairs;
  }

  -- AS LONG, and too large together
  pub same_length : length (flat_module (named_by ns t)) ≡ length (flat_module t)
  same_length = omega (arith, under-length less, under-length more)

  pub same_large : too_large (named_by ns t) ≡ too_large t
  same_large = go (too_large (named_by ns t)) (too_large t) refl refl
    where
      go : (a b : Bool) → too_large (named_by ns t) ≡ a → too_large t ≡ b → too_large (named_by ns t) ≡ too_large t
      go true true p q = p ∙ sym q
      go false false p q = p ∙ sym q
      go true false p q = under_small less q ∙ sym q
      go false true p q = p ∙ sym (under_small more p)

-- ---- in the image
table_names : {j : ℕ} (rs : List Cells) → Mem j (names_in (flat_all rs)) → Mem j (names_in (flat_table rs))
unfolding flat_table
table_names rs m = right_names (places (length rs) rs) (flat_all rs) m

in_section : {j : ℕ} (ss : List Section) (k : ℕ) → Mem j (names_in (get_or ss k (0, [])).1) → Mem j (names_in (bodies ss))
unfolding bodies names_in
in_section [] k m = absurd (no_mem m)
in_section (x ∷ ss) zero m = left_names x.1 (bodies ss) m
in_section (x ∷ ss) (suc k) m = right_names x.1 (bodies ss) (in_section ss k m)

module _ (s : Derived) (es : List Entry) where
  abbrev g : Module
  g = gathered s es

  image_names : {j : ℕ} → Mem j (names_in (bodies (sections g))) → Mem j (names_in (flat_module g))
  unfolding flat_module
  image_names m = behind-cell (PLACE, 1) _ (behind-cell (PLACE, HEADER + length (bodies (sections g))) _ (right_names (pairs_from HEADER (sections g)) (bodies (sections g)) m))

  table_there : {j : ℕ} (t : Tab) → is_t t names ≡ false → Mem j (names_in (flat_all (at t s.recs))) → Mem j (names_in (bodies (sections g)))
  unfolding sections gathered at is_t code_t
  table_there names q m = let z : ◌≡◌ {A = ℕ} 0 1 = cc in absurd (omega arith)
  table_there types q m = in_section (sections g) 1 (table_names s.recs.of_types m)
  table_there constants q m = in_section (sections g) 2 (table_names s.recs.of_constants m)
  table_there overrides q m = in_section (sections g) 3 (table_names s.recs.of_overrides m)
  table_there globals q m = in_section (sections g) 4 (table_names s.recs.of_globals m)
  table_there exprs q m = in_section (sections g) 5 (table_names s.recs.of_exprs m)

  function_there : {j : ℕ} → Mem j (names_in (flat_all (map flat s.functions))) → Mem j (names_in (bodies (sections g)))
  unfolding sections gathered
  function_there m = in_section (sections g) 6 (table_names (map flat s.functions) m)

  entry_there : {j : ℕ} → Mem j (names_in (flat_all (map flat_entry es))) → Mem j (names_in (bodies (sections g)))
  unfolding sections gathered
  entry_there m = in_section (sections g) 7 (table_names (map flat_entry es) m)

  -- EVERY NAME is among those that appear
  pub all_appear : {T : Tables} → Shown T None (λ j. Mem j (names_in (flat_all (map flat_entry es)))) s → (n : ℕ) → n < length g.names → Mem n (appearing g)
  unfolding appearing gathered at
  all_appear v n l = firsts-all (names_in (flat_module g)) [] (image_names (go (v.all n l)))
    where
      go : Where None (λ j. Mem j (names_in (flat_all (map flat_entry es)))) s n → Mem n (names_in (bodies (sections g)))
      go (appears (in_table t q m)) = table_there t q m
      go (appears (in_function_lem m)) = function_there m
      go (waits k h e) = absurd h
      go (held h) = entry_there h

  -- SO the finished module is too large exactly if what is gathered is
  pub exact : {T : Tables} → Shown T None (λ j. Mem j (names_in (flat_all (map flat_entry es)))) s → ((n : ℕ) → Mem n (appearing g) → n < length g.names) → too_large (finished s es) ≡ too_large (gathered s es)
  unfolding finished
  exact v low = same_large g low (all_appear v)

  pub exact-length : {T : Tables} → Shown T None (λ j. Mem j (names_in (flat_all (map flat_entry es)))) s → ((n : ℕ) → Mem n (appearing g) → n < length g.names) → length (flat_module (finished s es)) ≡ length (flat_module (gathered s es))
  unfolding finished
  exact-length v low = same_length g low (all_appear v)
