-- SIZE: where every table of what is gathered has at most the records and the words of the source's, and every name that appears is a name of the source, the finished image is no longer than the source's, table by table and in all, so it is not too large.
use Rattle.std.specs.Prelude.{◌≡◌, Bool, true, false, ◌||◌, not, ltb, leb, length}
use Rattle.std.proofs.Math.Path.{refl, sym}
use Rattle.std.proofs.Common.{ap, ap₂, ◌∙◌}
use mathlib.Core.List.{List, [], ◌∷◌, ◌++◌, map}
use Prim.Native.Nat.{ℕ, suc, ◌+◌, ◌*◌, ◌≤◌}
use native.Mathlib.Omega.{arith}
use Rattle.std.proofs.Math.ListN.{get_or, length-append}
use Rattle.std.proofs.lemmas.List.{length-map}
use borrow.Author.Tests.{ltb-false, le-ltb, leb-true, not-true}
use Rattle.theory_lists.specs.Booleans.{and_split}
use Rattle.model.specs.Outcome.{Cells, word, laid}
use Rattle.model.specs.Tree.{Function, Entry, flat, flat_entry, flat_all}
use Rattle.model.specs.Module.{Module, flat_table, flat_special, limits, sections, flat_module, read, write, sized}
use Rattle.model.specs.Carry.{carry_cells, carry_function, carry_entry, carry_special, carry, Each, each_none, each_next, WellFormed}
use Rattle.model.specs.Names.{same, unlike, differ}
use Rattle.model.specs.Numbers.{numbered}
use Rattle.model.specs.Intake.{verdict, intake_of}
use Rattle.model.specs.Finish.{appearing, with_names, named_by, passes, too_large}
use Rattle.theory_image.specs.Sections.{cells_of}
use Rattle.theory_image.specs.Views.{length_cells, length-write, table-length}
use Rattle.theory_image.specs.Modules.{read_well, sized_read_write}
use Rattle.theory_image.specs.Carries.{flat_carry_function, flat_carry_entry}
use Rattle.theory_image.specs.Same.{same_self}
use Rattle.theory_finish.specs.Touching.{Only, only_keeps}
use Rattle.theory_finish.specs.Kept.{Parts}
use Rattle.theory_finish.specs.Finished.{renumber-only, finished-differ}

-- ---- fewer records, and fewer words
pub record Smaller (a b : List Cells) : Type 0 where
  pub few : length a ≤ length b
  pub short : length (flat_all a) ≤ length (flat_all b)

pub record Under (m t : Module) : Type 0 where
  pub names_in_lem : Smaller m.names t.names
  pub types_in : Smaller m.types t.types
  pub constants_in : Smaller m.constants t.constants
  pub overrides_in : Smaller m.overrides t.overrides
  pub globals_in : Smaller m.globals t.globals
  pub exprs_in : Smaller m.exprs t.exprs
  pub functions_in_lem : Smaller (map flat m.functions) (map flat t.functions)
  pub entries_in : Smaller (map flat_entry m.entries) (map flat_entry t.entries)
  pub rays_in : length m.special.rays ≤ length t.special.rays
  pub pairs_in_lem : Smaller m.special.pairs t.special.pairs

smaller_table : {a b : List Cells} → Smaller a b → length (flat_table a) ≤ length (flat_table b)
smaller_table {a} {b} s = omega (arith, table-length a, table-length b)

pub special-length : (t : Module) → length (flat_special t.special) ≡ length t.special.rays + length (flat_all t.special.pairs)
unfolding flat_special
special-length t = length-append t.special.rays (flat_all t.special.pairs)

pub all-length : (t : Module) → length (flat_all (map cells_of (sections t))) ≡ length (flat_table t.names) + (length (flat_table t.types) + (length (flat_table t.constants) + (length (flat_table t.overrides) + (length (flat_table t.globals) + (length (flat_table t.exprs) + (length (flat_table (map flat t.functions)) + (length (flat_table (map flat_entry t.entries)) + length (flat_special t.special))))))))
unfolding sections flat_all
all-length t = simp length-append (omega arith)

-- THE IMAGE is no longer
pub under-length : {m t : Module} → Under m t → length (flat_module m) ≤ length (flat_module t)
under-length {m} {t} u =
    let a₁ = smaller_table u.names_in_lem in
    let a₂ = smaller_table u.types_in in
    let a₃ = smaller_table u.constants_in in
    let a₄ = smaller_table u.overrides_in in
    let a₅ = smaller_table u.globals_in in
    let a₆ = smaller_table u.exprs_in in
    let a₇ = smaller_table u.functions_in_lem in
    let a₈ = smaller_table u.entries_in in
    let b = special-length m in
    let c = special-length t in
    let d = u.pairs_in_lem.short in
    let e = u.rays_in in
    omega (arith, length_cells m, length_cells t, all-length m, all-length t)

under : (l n k : ℕ) (x y : Bool) → k ≤ n → (x ≡ false → y ≡ false) → ltb l n || x ≡ false → ltb l k || y ≡ false
under l n k x y h f e = go (ltb l n) refl e
  where
    go : (b : Bool) → ltb l n ≡ b → b || x ≡ false → ltb l k || y ≡ false
    go true q e = let z : ◌≡◌ {A = ℕ} 0 1 = cc in absurd (omega arith)
    go false q e = rw (le-ltb l k (omega (arith, ltb-false l n q)), f e)

fewer_functions : {m t : Module} → Under m t → length m.functions ≤ length t.functions
fewer_functions {m} {t} u = omega (arith, length-map m.functions flat, length-map t.functions flat, u.functions_in_lem.few)

fewer_entries : {m t : Module} → Under m t → length m.entries ≤ length t.entries
fewer_entries {m} {t} u = omega (arith, length-map m.entries flat_entry, length-map t.entries flat_entry, u.entries_in.few)

-- so it is not too large where the source is not
pub under_small : {m t : Module} → Under m t → too_large t ≡ false → too_large m ≡ false
unfolding too_large passes sections limits
under_small {m} {t} u e =
    let l = under-length u in
    under 65536 (4 * length (flat_module t)) (4 * length (flat_module m)) _ _ (omega arith)
    (under 512 (length t.names) (length m.names) _ _ u.names_in_lem.few
    (under 512 (length t.types) (length m.types) _ _ u.types_in.few
    (under 512 (length t.constants) (length m.constants) _ _ u.constants_in.few
    (under 512 (length t.overrides) (length m.overrides) _ _ u.overrides_in.few
    (under 512 (length t.globals) (length m.globals) _ _ u.globals_in.few
    (under 512 (length t.exprs) (length m.exprs) _ _ u.exprs_in.few
    (under 256 (length t.functions) (length m.functions) _ _ (fewer_functions u)
    (under 16 (length t.entries) (length m.entries) _ _ (fewer_entries u)
    (under 512 (length t.special.pairs) (length m.special.pairs) _ _ u.pairs_in_lem.few λ q. q)))))))))
    e

-- ---- records that differ and are all in a list are no more and no longer than it
pub data In {A : Type 0} (x : A) : List A → Type 0 where
  now : {xs : List A} → In x (x ∷ xs)
  later : {y : A} {xs : List A} → In x xs → In x (y ∷ xs)

without : {A : Type 0} {x : A} {ys : List A} → In x ys → List A
without (now {xs}) = xs
without (later {y} i) = y ∷ without i

without_few : {A : Type 0} {x : A} {ys : List A} (i : In x ys) → length ys ≡ suc (length (without i))
unfolding without
without_few now = refl
without_few (later i) = ap suc (without_few i)

without_short : {x : Cells} {ys : List Cells} (i : In x ys) → length (flat_all ys) ≡ length x + length (flat_all (without i))
unfolding without flat_all
without_short {x} (now {xs}) = length-append x (flat_all xs)
without_short {x} (later {y} {xs} i) = let h = without_short i in length-append y (flat_all xs) ∙ (ap (length y +◌) h ∙ tidy)
  where
    tidy : length y + (length x + length (flat_all (without i))) ≡ length x + length (y ++ flat_all (without i))
    tidy = omega (arith, length-append y (flat_all (without i)))

stays : {A : Type 0} {x y : A} {ys : List A} (i : In x ys) → In y ys → (y ≡ x → ⊥) → In y (without i)
unfolding without
stays now now n = absurd (n refl)
stays now (later j) n = j
stays (later i) now n = now
stays (later i) (later j) n = later (stays i j n)

pub data Apart : List Cells → Type 0 where
  apart_none : Apart []
  apart_next : {x : Cells} {xs : List Cells} → Each (λ y. y ≡ x → ⊥) xs → Apart xs → Apart (x ∷ xs)

each_stays : {x : Cells} {ys xs : List Cells} (i : In x ys) → Each (λ y. y ≡ x → ⊥) xs → Each (λ y. In y ys) xs → Each (λ y. In y (without i)) xs
each_stays i each_none each_none = each_none
each_stays i (each_next n ns) (each_next j js) = each_next (stays i j n) (each_stays i ns js)

joined : {x : Cells} {xs ys : List Cells} (i : In x ys) → Smaller xs (without i) → Smaller (x ∷ xs) ys
joined {x} {xs} i s = record { few = omega (arith, without_few i); short = unfold flat_all in omega (arith, without_short i, length-append x (flat_all xs)) }

pub picked_smaller : {xs : List Cells} (ys : List Cells) → Apart xs → Each (λ x. In x ys) xs → Smaller xs ys
picked_smaller ys apart_none e = record { few = omega arith; short = unfold flat_all in omega arith }
picked_smaller ys (apart_next n a) (each_next i js) = joined i (picked_smaller (without i) a (each_stays i n js))

unlike-apart : (x : Cells) (xs : List Cells) → unlike (map (map word) xs) (map word x) ≡ true → Each (λ y. y ≡ x → ⊥) xs
unfolding unlike
unlike-apart x [] h = each_none
unlike-apart x (y ∷ xs) h = let p = and_split (not (same (map word x) (map word y))) (unlike (map (map word) xs) (map word x)) h in each_next (other (not-true _ p.0)) (unlike-apart x xs p.1)
  where
    other : same (map word x) (map word y) ≡ false → y ≡ x → ⊥
    other f e = let q : same (map word x) (map word y) ≡ true = rw e (same_self (map word x)) in let z : ◌≡◌ {A = ℕ} 0 1 = cc in omega arith

pub differ-apart : (xs : List Cells) → differ (map (map word) xs) ≡ true → Apart xs
unfolding differ
differ-apart [] h = apart_none
differ-apart (x ∷ xs) h = let p = and_split (unlike (map (map word) xs) (map word x)) (differ (map (map word) xs)) h in apart_next (unlike-apart x xs p.0) (differ-apart xs p.1)

-- ---- what is carried is as many records and words
module _ {f : ℕ → ℕ → ℕ} (o : Only f) where
  pub carried-all : (rs : List Cells) → length (flat_all (map (carry_cells f) rs)) ≡ length (flat_all rs)
  unfolding flat_all
  carried-all [] = refl
  carried-all (r ∷ rs) = length-append (carry_cells f r) (flat_all (map (carry_cells f) rs)) ∙ (ap₂ ◌+◌ (length-map r _) (carried-all rs) ∙ sym (length-append r (flat_all rs)))

  carried_smaller : (rs : List Cells) {b : List Cells} → Smaller rs b → Smaller (map (carry_cells f) rs) b
  carried_smaller rs s = record { few = rw (length-map rs (carry_cells f)) s.few; short = rw (carried-all rs) s.short }

  pub carried-flat : (fs : List Function) → map flat (map (carry_function f) fs) ≡ map (carry_cells f) (map flat fs)
  carried-flat [] = refl
  carried-flat (t ∷ fs) = ap₂ ◌∷◌ (flat_carry_function f (only_keeps o) t) (carried-flat fs)

  pub carried_entries : (es : List Entry) → map flat_entry (map (carry_entry f) es) ≡ map (carry_cells f) (map flat_entry es)
  carried_entries [] = refl
  carried_entries (e ∷ es) = ap₂ ◌∷◌ (flat_carry_entry f (only_keeps o) e) (carried_entries es)

-- ---- THE THEOREM
-- what is gathered, table by table, within the source; and the names that appear are names of the source
pub record Within (m t : Module) : Type 0 where
  pub types_in : Smaller m.types t.types
  pub constants_in : Smaller m.constants t.constants
  pub overrides_in : Smaller m.overrides t.overrides
  pub globals_in : Smaller m.globals t.globals
  pub exprs_in : Smaller m.exprs t.exprs
  pub functions_in_lem : Smaller (map flat m.functions) (map flat t.functions)
  pub entries_in : Smaller (map flat_entry m.entries) (map flat_entry t.entries)
  pub rays_in : length m.special.rays ≤ length t.special.rays
  pub pairs_in_lem : Smaller m.special.pairs t.special.pairs
  pub names_in_lem : Each (λ n. In (get_or m.names n []) t.names) (appearing m)

each_picked : {A B : Type 0} {P : B → Type 0} (f : A → B) {xs : List A} → Each (λ a. P (f a)) xs → Each P (map f xs)
each_picked f each_none = each_none
each_picked f (each_next p ps) = each_next p (each_picked f ps)

module _ {m t : Module} (p : Parts m) (h : numbered m ≡ true) (d : differ (map (map word) m.names) ≡ true) (w : Within m t) where
  pub finished-under : Under (named_by (appearing m) m) t
  unfolding named_by with_names carry carry_special
  finished-under =
      let o = renumber-only (appearing m) in
      record {
        names_in_lem = picked_smaller t.names (differ-apart _ (finished-differ p h d)) (each_picked (λ n. get_or m.names n []) w.names_in_lem);
        types_in = carried_smaller o m.types w.types_in;
        constants_in = carried_smaller o m.constants w.constants_in;
        overrides_in = carried_smaller o m.overrides w.overrides_in;
        globals_in = carried_smaller o m.globals w.globals_in;
        exprs_in = carried_smaller o m.exprs w.exprs_in;
        functions_in_lem = rw (carried-flat o m.functions) (carried_smaller o (map flat m.functions) w.functions_in_lem);
        entries_in = rw (carried_entries o m.entries) (carried_smaller o (map flat_entry m.entries) w.entries_in);
        rays_in = rw (length-map m.special.rays _) w.rays_in;
        pairs_in_lem = carried_smaller o m.special.pairs w.pairs_in_lem;
      }

  -- NO LONGER than the source
  pub finished-length : length (write (named_by (appearing m) m)) ≤ length (write t)
  finished-length = omega (arith, length-write (named_by (appearing m) m), length-write t, under-length finished-under)

  -- NOT TOO LARGE where the source is not
  pub finished_small : too_large t ≡ false → too_large (named_by (appearing m) m) ≡ false
  finished_small = under_small finished-under

-- ---- THE SOURCE: an image that passes intake is not too large
pub well_small : {t : Module} → WellFormed t → 4 * length (write t) ≤ 65536 → too_large t ≡ false
unfolding too_large passes sections limits
well_small {t} w h =
    rw (
      le-ltb 65536 (4 * length (flat_module t)) (omega (arith, length-write t)),
      le-ltb 512 (length t.names) w.names_ok.few,
      le-ltb 512 (length t.types) w.types-ok.few,
      le-ltb 512 (length t.constants) w.constants_ok.few,
      le-ltb 512 (length t.overrides) w.overrides_ok.few,
      le-ltb 512 (length t.globals) w.globals_ok.few,
      le-ltb 512 (length t.exprs) w.exprs_ok.few,
      le-ltb 256 (length t.functions) w.functions_ok.few,
      le-ltb 16 (length t.entries) w.entries_ok.few,
      le-ltb 512 (length t.special.pairs) w.pairs-ok.few,
    )

pub intake_sized : (bytes : ℕ) (ws : List ℕ) → intake_of bytes ws ≡ 0 → sized bytes ws ≡ true
unfolding intake_of
intake_sized bytes ws h = go (sized bytes ws) refl h
  where
    go : (b : Bool) → sized bytes ws ≡ b → (let v : ℕ = elim b [ true ↦ verdict (read ws) | false ↦ 1 ] in v) ≡ 0 → b ≡ true
    go true e q = refl
    go false e q = absurd (omega arith)

module _ (bytes : ℕ) (ws : List ℕ) (t : Module) (passes : intake_of bytes ws ≡ 0) (reads : read ws ≡ laid t) (whole : bytes ≡ 4 * length ws) where
  pub source_is : ws ≡ write t
  source_is = sized_read_write bytes ws t (intake_sized bytes ws passes) whole reads

  pub source-whole : bytes ≡ 4 * length (write t)
  source-whole = whole ∙ ap (λ l. 4 * length l) source_is

  pub source_small : too_large t ≡ false
  source_small = well_small (read_well ws t reads) (under-limit (intake_sized bytes ws passes))
    where
      under-limit : sized bytes ws ≡ true → 4 * length (write t) ≤ 65536
      under-limit h = let p : bytes ≤ 65536 = (unfold sized in leb-true bytes 65536 (and_split (leb bytes 65536) _ (and_split (leb 80 bytes) _ h).1).0) in omega (arith, source-whole)
