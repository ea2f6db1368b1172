-- Changing the words: a part of them rewritten by class is the module with that part carried.
use mathlib.Core.Path.{◌≡◌, refl, sym, ap, ap₂, ◌∙◌}
use mathlib.Core.Bool.{Bool, true, false}
use mathlib.Core.List.{List, [], ◌∷◌, ◌++◌, map, zip_with, append_assoc}
use Prim.Native.Nat.{ℕ, zero, suc, ◌+◌, ◌≤◌, ◌<◌}
use native.Mathlib.Numerals.{add-one}
use native.Mathlib.Omega.{arith}
use lib.ListN.{length, get_or, take, drop, set, length-map, length-set, take-append-drop}
use lib.Seq.{slice, sets, length-sets, set-get_or, take_at, drop_at}
use borrow.Author.Tests.{ne_eqb}
use Rattle.theory_lists.specs.Lists.{map-append, map-map, map_same}
use Rattle.model.specs.Outcome.{Cells, class, word}
use Rattle.model.specs.Table.{CALLEE, FUNCTION}
use Rattle.model.specs.Tree.{Function, Entry, flat, flat_entry}
use Rattle.model.specs.Module.{Module, count_at, offset_at, flat_table, sections, flat_module, write}
use Rattle.model.specs.View.{record_at, record_end}
use Rattle.model.specs.Carry.{Keeps, carry_cell, carry_cells, carry_entry, Each, each_none, each_next, WellFunction, WellEntry, WellFormed}
use Rattle.model.specs.Taped.{Taped, Tape}
use Rattle.model.specs.Redirect.{name_word, redirecting, redirect_fn, redirect_entry, stays, redirect_fns, with_functions, with_entries, redirect, nothing, function}
use Rattle.theory_image.specs.Carries.{carried-classes, carried_words, flat_carry_function, flat_carry_entry, flat_carry_table, carry_well_function, carry_well_entry}
use Rattle.theory_image.specs.Sections.{slice_middle}
use Rattle.theory_image.specs.Views.{length-write, view_length, view_next, view_within}
use Rattle.theory_image.specs.FunctionViews.{taped_write, taped_offset, taped_record, taped_count, part_end}
use Rattle.redirect_calls.specs.Turns.{RedirectAllEnsures, redirecting_by, stays_by, turned, turned_by, turn_one, turn_all, redirected_by}
use Rattle.redirect_calls.specs.declared.Redirection.{Redirection}
use Rattle.redirect_calls.proofs.Contexts.{function-before, function-behind, function_in_lem, function-here, function_long, entries_before, entries_behind, entries_in, entries_long}
use Rattle.redirect_calls.proofs.Places.{many, standing, end_in, name_is_lem}

-- ---- the map keeps counts, lengths, kinds and offsets
pub redirecting_keeps : (a b : ℕ) → Keeps (redirecting a b)
unfolding redirecting
redirecting_keeps a b = record { kept = λ s w h. rw (redirecting, ne_eqb s CALLEE (λ e. omega arith), ne_eqb s FUNCTION (λ e. omega arith)) }

-- ---- a run in the middle replaced by one of the same length
sets_cons : {A : Type 0} (vs : List A) (x : A) (l : List A) (i : ℕ) → sets (x ∷ l) (suc i) vs ≡ x ∷ sets l i vs
sets_cons [] x l i = refl
sets_cons (v ∷ vs) x l i = sets_cons vs x (set l i v) (suc i)

sets-front : {A : Type 0} (vs r q : List A) → length vs ≡ length r → sets (r ++ q) 0 vs ≡ vs ++ q
sets-front [] [] q e = refl
sets-front [] (x ∷ r) q e = absurd (omega arith)
sets-front (v ∷ vs) [] q e = absurd (omega arith)
sets-front (v ∷ vs) (x ∷ r) q e = sets_cons vs v (r ++ q) 0 ∙ ap (v ∷◌) (sets-front vs r q (omega arith))

pub sets_middle : {A : Type 0} (p vs r q : List A) → length vs ≡ length r → sets (p ++ (r ++ q)) (length p) vs ≡ p ++ (vs ++ q)
sets_middle [] vs r q e = sets-front vs r q e
sets_middle (x ∷ p) vs r q e = sets_cons vs x (p ++ (r ++ q)) (length p) ∙ ap (x ∷◌) (sets_middle p vs r q e)

-- ---- words that hold a module, a part of which is rewritten by class
module _ (f : ℕ → ℕ → ℕ) {words tags : List ℕ} {n : ℕ} {m : Module} (t : Taped words tags n m) (m' : Module) (well : WellFormed m') (p r q : Cells) (here : flat_module m ≡ p ++ (r ++ q)) (there : flat_module m' ≡ p ++ (carry_cells f r ++ q)) where
  words_split : words ≡ map word p ++ (map word r ++ (map word q ++ drop n words))
  unfolding write
  words_split =
      sym (take-append-drop n words)
      ∙ ap (◌++ drop n words) (t.words_are ∙ ap (map word) here ∙ map-append word p (r ++ q) ∙ ap (map word p ++◌) (map-append word r q))
      ∙ append_assoc (map word p) (map word r ++ map word q) (drop n words)
      ∙ ap (map word p ++◌) (append_assoc (map word r) (map word q) (drop n words))

  tags_split : tags ≡ map class p ++ (map class r ++ (map class q ++ drop n tags))
  tags_split =
      sym (take-append-drop n tags)
      ∙ ap (◌++ drop n tags) (t.tags_are ∙ ap (map class) here ∙ map-append class p (r ++ q) ∙ ap (map class p ++◌) (map-append class r q))
      ∙ append_assoc (map class p) (map class r ++ map class q) (drop n tags)
      ∙ ap (map class p ++◌) (append_assoc (map class r) (map class q) (drop n tags))

  module _ (s e : ℕ) (starts : s ≡ length p) (ends : e ≡ s + length r) where
    part_of_words : slice s e words ≡ map word r
    part_of_words =
        let a : s ≡ length (map word p) = starts ∙ sym (length-map p word) in
        let b : e ≡ length (map word p) + length (map word r) = omega (arith, length-map p word, length-map r word) in
        ap₂ (λ i j. slice i j words) a b ∙ ap (slice (length (map word p)) (length (map word p) + length (map word r))) words_split ∙ slice_middle (map word p) (map word r) (map word q ++ drop n words)

    part_of_tags : slice s e tags ≡ map class r
    part_of_tags =
        let a : s ≡ length (map class p) = starts ∙ sym (length-map p class) in
        let b : e ≡ length (map class p) + length (map class r) = omega (arith, length-map p class, length-map r class) in
        ap₂ (λ i j. slice i j tags) a b ∙ ap (slice (length (map class p)) (length (map class p) + length (map class r))) tags_split ∙ slice_middle (map class p) (map class r) (map class q ++ drop n tags)

    rewritten : sets words s (zip_with f (slice s e tags) (slice s e words)) ≡ write m' ++ drop n words
    unfolding write
    rewritten =
        let v : zip_with f (slice s e tags) (slice s e words) ≡ map word (carry_cells f r) = ap₂ (zip_with f) part_of_tags part_of_words ∙ sym (carried_words f r) in
        let l : length (map word (carry_cells f r)) ≡ length (map word r) = length-map (carry_cells f r) word ∙ length-map r (carry_cell f) ∙ sym (length-map r word) in
        let a : s ≡ length (map word p) = starts ∙ sym (length-map p word) in
        ap₂ (λ x y. sets words x y) a v
        ∙ ap (λ w. sets w (length (map word p)) (map word (carry_cells f r))) words_split
        ∙ sets_middle (map word p) (map word (carry_cells f r)) (map word r) (map word q ++ drop n words) l
        ∙ ap (map word p ++◌) (sym (append_assoc (map word (carry_cells f r)) (map word q) (drop n words)))
        ∙ sym (append_assoc (map word p) (map word (carry_cells f r) ++ map word q) (drop n words))
        ∙ ap (◌++ drop n words) (sym (ap (map word) there ∙ map-append word p (carry_cells f r ++ q) ∙ ap (map word p ++◌) (map-append word (carry_cells f r) q)))

    classes_stay : map class (flat_module m') ≡ map class (flat_module m)
    classes_stay =
        ap (map class) there ∙ map-append class p (carry_cells f r ++ q) ∙ ap (map class p ++◌) (map-append class (carry_cells f r) q ∙ ap (◌++ map class q) (carried-classes f r))
        ∙ sym (ap (map class) here ∙ map-append class p (r ++ q) ∙ ap (map class p ++◌) (map-append class r q))

    length-stays : length (write m') ≡ n
    length-stays = length-write m' ∙ sym (length-map (flat_module m') class) ∙ ap length classes_stay ∙ length-map (flat_module m) class ∙ sym (length-write m) ∙ sym (taped_write t)

    -- LAW
    pub rewrite_part : (words₁ : List ℕ) → words₁ ≡ sets words s (zip_with f (slice s e tags) (slice s e words)) → Taped words₁ tags n m' × (drop n words₁ ≡ drop n words)
    rewrite_part words₁ is =
        let w : words₁ ≡ write m' ++ drop n words = is ∙ rewritten in (
          record {
            small = t.small;
            words_long = ap length is ∙ length-sets words s (zip_with f (slice s e tags) (slice s e words)) ∙ t.words_long;
            tags_long = t.tags_long;
            words_are = ap (take n) w ∙ take_at (write m') (drop n words) n length-stays;
            tags_are = t.tags_are ∙ sym classes_stay;
            well = well;
          },
          ap (drop n) w ∙ drop_at (write m') (drop n words) n length-stays,
        )

-- ---- functions replaced
each_set : {A : Type 0} {P : A → Type 0} {l : List A} → Each P l → (k : ℕ) (x : A) → P x → Each P (set l k x)
each_set each_none k x p = each_none
each_set (each_next q qs) zero x p = each_next p qs
each_set (each_next q qs) (suc k) x p = each_next q (each_set qs k x p)

each_in : {A : Type 0} {P : A → Type 0} {l : List A} → Each P l → (k : ℕ) (d : A) → k < length l → P (get_or l k d)
each_in each_none k d h = absurd (omega arith)
each_in (each_next q qs) zero d h = q
each_in (each_next q qs) (suc k) d h = each_in qs k d (omega arith)

pub well_functions : (m : Module) → WellFormed m → (fs : List Function) → length fs ≡ length m.functions → Each WellFunction fs → WellFormed (with_functions m fs)
unfolding with_functions
well_functions m w fs e ws = record {
  names_ok = w.names_ok;
  types-ok = w.types-ok;
  constants_ok = w.constants_ok;
  overrides_ok = w.overrides_ok;
  globals_ok = w.globals_ok;
  exprs_ok = w.exprs_ok;
  functions_ok = record { few = rw e w.functions_ok.few; each = ws };
  entries_ok = w.entries_ok;
  rays-ok = w.rays-ok;
  pairs-ok = w.pairs-ok;
}

pub well_entries : (m : Module) → WellFormed m → (es : List Entry) → length es ≡ length m.entries → Each WellEntry es → WellFormed (with_entries m es)
unfolding with_entries
well_entries m w es e ws = record {
  names_ok = w.names_ok;
  types-ok = w.types-ok;
  constants_ok = w.constants_ok;
  overrides_ok = w.overrides_ok;
  globals_ok = w.globals_ok;
  exprs_ok = w.exprs_ok;
  functions_ok = w.functions_ok;
  entries_ok = record { few = rw e w.entries_ok.few; each = ws };
  rays-ok = w.rays-ok;
  pairs-ok = w.pairs-ok;
}

-- ---- redirect_one
module _ (words tags : List ℕ) (n j : ℕ) (h : j < count_at 6 words) (q : Redirection) where
  turn-part : (m : Module) (t : Taped words tags n m) → stays_by q j (name_word (function m j)) ≡ false → (s e : ℕ) → s ≡ record_at 6 j words → e ≡ record_end 6 j words → (words₁ : List ℕ) → words₁ ≡ sets words s (zip_with (redirecting_by q) (slice s e tags) (slice s e words)) → Taped words₁ tags n (turn_one j q m) × (drop n words₁ ≡ drop n words)
  unfolding turn_one turned redirect_fn
  turn-part m t goes s e s-is e-is words₁ is =
      let k : j < length m.functions = omega (arith, many t) in
      let f = function m j in
      let g = redirect_fn q.original.0 q.replacement.0 f in
      let keeps = redirecting_keeps q.original.0 q.replacement.0 in
      let c : flat g ≡ carry_cells (redirecting_by q) (flat f) = flat_carry_function (redirecting_by q) keeps f in
      let l : length (flat g) ≡ length (flat f) = ap length c ∙ length-map (flat f) (carry_cell (redirecting_by q)) in
      let x : turned_by q j f ≡ g = rw (turned, goes) in
      let w : WellFormed (with_functions m (set m.functions j g)) = well_functions m t.well (set m.functions j g) (length-set m.functions j g) (each_set t.well.functions_ok.each j g (carry_well_function (redirecting_by q) keeps f (standing t j h).well)) in
      let r = rewrite_part (redirecting_by q) t (with_functions m (set m.functions j g)) w (function-before m j) (flat f) (function-behind m j) (function-here m j k) (function_in_lem m j k g l ∙ ap (λ y. function-before m j ++ (y ++ function-behind m j)) c) s e (s-is ∙ taped_record t 6 j (omega arith) (omega (arith, taped_count t 6 (omega arith))) ∙ sym (function_long m j k)) (e-is ∙ part_end (standing t j h).part ∙ ap (◌+ length (flat f)) (sym s-is)) words₁ is in
      rw x r

  turn-none : (m : Module) (t : Taped words tags n m) → stays_by q j (name_word (function m j)) ≡ true → Taped words tags n (turn_one j q m)
  unfolding turn_one turned with_functions function
  turn-none m t stay =
      let x : turned_by q j (function m j) ≡ function m j = rw (turned, stay) in
      rw (x, set-get_or m.functions j nothing) t

  module _ (s : ℕ) (s-is : s ≡ record_at 6 j words) (r : Bool) (r-is : r ≡ stays_by q j (get_or words s 0)) where
    test_is : (m : Module) → Taped words tags n m → r ≡ stays_by q j (name_word (function m j))
    test_is m t = r-is ∙ ap (stays_by q j) (ap (λ p. get_or words p 0) s-is ∙ name_is_lem t j h)

    pub one-stays : r ≡ true → RedirectAllEnsures words words tags n (turn_one j q)
    one-stays y = record { holds = λ m t. turn-none m t (sym (test_is m t) ∙ y); rest = refl }

    pub one-turns : Tape words tags n → r ≡ false → (e : ℕ) → e ≡ record_end 6 j words → (words₁ : List ℕ) → words₁ ≡ sets words s (zip_with (redirecting_by q) (slice s e tags) (slice s e words)) → RedirectAllEnsures words₁ words tags n (turn_one j q)
    one-turns t₀ y e e-is words₁ is =
        record {
          holds = λ m t. (turn-part m t (sym (test_is m t) ∙ y) s e s-is e-is words₁ is).0;
          rest = (turn-part t₀.holds t₀.taped (sym (test_is t₀.holds t₀.taped) ∙ y) s e s-is e-is words₁ is).1;
        }

pub one_asks : (words tags : List ℕ) (n j : ℕ) → Tape words tags n → j < count_at 6 words → (s e : ℕ) → s ≡ record_at 6 j words → e ≡ record_end 6 j words → (s ≤ e) × (e ≤ 16384) × (length words ≡ 16384) × (length tags ≡ 16384)
one_asks words tags n j t h s e s-is e-is =
    let p = (standing t.taped j h).part in
    (omega (arith, p.rising), omega (arith, end_in t.taped j h, t.taped.small), t.taped.words_long, t.taped.tags_long)

-- ---- redirect_functions
-- the first k functions redirected, numbered from i on
unfoldable pub mix : Redirection → ℕ → List Function → ℕ → List Function
mix q zero fs i = fs
mix q (suc k) [] i = []
mix q (suc k) (f ∷ fs) i = turned_by q i f ∷ mix q k fs (suc i)

module _ (q : Redirection) where
  length-mix : (k : ℕ) (fs : List Function) (i : ℕ) → length (mix q k fs i) ≡ length fs
  unfolding mix
  length-mix zero fs i = refl
  length-mix (suc k) [] i = refl
  length-mix (suc k) (f ∷ fs) i = ap suc (length-mix k fs (suc i))

  mix-step : (k : ℕ) (fs : List Function) (i j : ℕ) → i + k ≡ j → k < length fs → set (mix q k fs i) k (turned_by q j (get_or (mix q k fs i) k nothing)) ≡ mix q (suc k) fs i
  unfolding mix
  mix-step k [] i j e h = absurd (omega arith)
  mix-step zero (f ∷ fs) i j e h = let e : j ≡ i = omega arith in ap (λ x. turned_by q x f ∷ fs) e
  mix-step (suc k) (f ∷ fs) i j e h = ap (turned_by q i f ∷◌) (mix-step k fs (suc i) j (omega arith) (omega arith))

  mix_all : (k : ℕ) (fs : List Function) (i : ℕ) → length fs ≤ k → mix q k fs i ≡ redirect_fns fs i q.original.0 q.replacement.0 q.omit.now
  unfolding mix redirect_fns turned
  mix_all zero [] i h = refl
  mix_all zero (f ∷ fs) i h = absurd (omega arith)
  mix_all (suc k) [] i h = refl
  mix_all (suc k) (f ∷ fs) i h = ap (turned_by q i f ∷◌) (mix_all k fs (suc i) (omega arith))

module _ (words₀ tags : List ℕ) (n : ℕ) (q : Redirection) where
  pub record Turning (count : ℕ) (words : List ℕ) (j : ℕ) : Type 0 where
    pub within : j ≤ count
    pub count_is : count ≡ count_at 6 words₀
    pub holds : (m : Module) → Taped words₀ tags n m → Taped words tags n (with_functions m (mix q j m.functions 0))
    pub rest : drop n words ≡ drop n words₀

  pub turning_begin : (count : ℕ) → count ≡ count_at 6 words₀ → Turning count words₀ 0
  unfolding mix with_functions
  turning_begin count e = record { within = omega arith; count_is = e; holds = λ m t. t; rest = refl }

  module _ (h : Tape words₀ tags n) (count j : ℕ) (words : List ℕ) (inv : Turning count words j) (less : j < count) where
    pub turning_tape : Tape words tags n
    turning_tape = record { holds = with_functions h.holds (mix q j h.holds.functions 0); taped = inv.holds h.holds h.taped }

    pub turning_in : j < count_at 6 words
    unfolding with_functions
    turning_in = omega (arith, inv.count_is, many h.taped, many (inv.holds h.holds h.taped), length-mix q j h.holds.functions 0)

    pub turning_asks : Tape words tags n × (j < count_at 6 words)
    turning_asks = (turning_tape, turning_in)

    pub turning_next : (words₁ : List ℕ) → RedirectAllEnsures words₁ words tags n (turn_one j q) → Turning count words₁ (j + 1)
    unfolding turn_one with_functions function
    turning_next words₁ t =
        rw add-one
        (record {
          within = less;
          count_is = inv.count_is;
          holds = λ m x. rw (mix-step q j m.functions 0 j (omega arith) (omega (arith, inv.count_is, many x))) at (t.holds (with_functions m (mix q j m.functions 0)) (inv.holds m x));
          rest = t.rest ∙ inv.rest;
        })

  pub turning_done : (count j : ℕ) (words : List ℕ) → Turning count words j → count ≤ j → RedirectAllEnsures words words₀ tags n (turn_all q)
  unfolding turn_all
  turning_done count j words inv h =
      record {
        holds = λ m x. rw (mix_all q j m.functions 0 (omega (arith, inv.count_is, many x))) at (inv.holds m x);
        rest = inv.rest;
      }

-- ---- redirect_all: the section of entry points
each_map : {A : Type 0} {P : A → Type 0} (f : A → A) → ((a : A) → P a → P (f a)) → {l : List A} → Each P l → Each P (map f l)
each_map f h each_none = each_none
each_map f h (each_next {a} p ps) = each_next (h a p) (each_map f h ps)

carried_entries : (f : ℕ → ℕ → ℕ) → Keeps f → (es : List Entry) → flat_table (map flat_entry (map (carry_entry f) es)) ≡ carry_cells f (flat_table (map flat_entry es))
carried_entries f keeps es =
    ap flat_table (map-map flat_entry (carry_entry f) es ∙ map_same (λ e. flat_entry (carry_entry f e)) (λ e. carry_cells f (flat_entry e)) (flat_carry_entry f keeps) es ∙ sym (map-map (carry_cells f) flat_entry es))
    ∙ flat_carry_table f keeps (map flat_entry es)

entries_end : (m : Module) → offset_at 8 (write m) ≡ offset_at 7 (write m) + length (flat_table (map flat_entry m.entries))
unfolding sections
entries_end m = sym (view_next m 7 (omega arith)) ∙ view_length m 7 (omega arith)

module _ (words tags : List ℕ) (n : ℕ) (q : Redirection) where
  module _ (s e : ℕ) (s-is : s ≡ offset_at 7 words) (e-is : e ≡ offset_at 8 words) where
    entries_start : {m : Module} → Taped words tags n m → s ≡ offset_at 7 (write m)
    entries_start t = s-is ∙ taped_offset t 7 (omega arith)

    entries_stop : {m : Module} → Taped words tags n m → e ≡ s + length (flat_table (map flat_entry m.entries))
    entries_stop {m} t = e-is ∙ taped_offset t 8 (omega arith) ∙ entries_end m ∙ ap (◌+ length (flat_table (map flat_entry m.entries))) (sym (entries_start t))

    pub entries_asks : Tape words tags n → (s ≤ e) × (e ≤ 16384) × (length words ≡ 16384) × (length tags ≡ 16384)
    entries_asks t =
        let m = t.holds in
        let k = t.taped in
        (omega (arith, entries_stop k), omega (arith, entries_stop k, entries_start k, entries_end m, view_next m 7 (omega arith), view_within m 7 (omega arith), taped_write k, k.small), k.words_long, k.tags_long)

    turn_entries : {m : Module} (t : Taped words tags n m) (words₁ : List ℕ) → words₁ ≡ sets words s (zip_with (redirecting_by q) (slice s e tags) (slice s e words)) → Taped words₁ tags n (with_entries m (map (redirect_entry q.original.0 q.replacement.0) m.entries)) × (drop n words₁ ≡ drop n words)
    unfolding redirect_entry with_entries
    turn_entries {m} t words₁ is =
        let keeps = redirecting_keeps q.original.0 q.replacement.0 in
        let c = carried_entries (redirecting_by q) keeps m.entries in
        let l = ap length c ∙ length-map (flat_table (map flat_entry m.entries)) (carry_cell (redirecting_by q)) in
        rewrite_part (redirecting_by q) t (with_entries m (map (redirect_entry q.original.0 q.replacement.0) m.entries)) (well_entries m t.well (map (redirect_entry q.original.0 q.replacement.0) m.entries) (length-map m.entries (redirect_entry q.original.0 q.replacement.0)) (each_map (redirect_entry q.original.0 q.replacement.0) (carry_well_entry (redirecting_by q) keeps) t.well.entries_ok.each)) (entries_before m) (flat_table (map flat_entry m.entries)) (entries_behind m) (entries_in m m.entries refl refl) (entries_in m (map (redirect_entry q.original.0 q.replacement.0) m.entries) (length-map m.entries (redirect_entry q.original.0 q.replacement.0)) l ∙ ap (λ y. entries_before m ++ (y ++ entries_behind m)) c) s e (entries_start t ∙ sym (entries_long m)) (entries_stop t) words₁ is

pub all-turns : (words₀ words tags : List ℕ) (n : ℕ) (q : Redirection) → Tape words₀ tags n → RedirectAllEnsures words words₀ tags n (turn_all q) → (s e : ℕ) → s ≡ offset_at 7 words → e ≡ offset_at 8 words → (words₁ : List ℕ) → words₁ ≡ sets words s (zip_with (redirecting_by q) (slice s e tags) (slice s e words)) → RedirectAllEnsures words₁ words₀ tags n (redirected_by q)
unfolding turn_all redirected_by redirect with_functions
all-turns words₀ words tags n q h t s e s-is e-is words₁ is =
    record {
      holds = λ m x. (turn_entries words tags n q s e s-is e-is (t.holds m x) words₁ is).0;
      rest = (turn_entries words tags n q s e s-is e-is (t.holds h.holds h.taped) words₁ is).1 ∙ t.rest;
    }

pub turned_tape : (words₀ words tags : List ℕ) (n : ℕ) (f : Module → Module) → Tape words₀ tags n → RedirectAllEnsures words words₀ tags n f → Tape words tags n
turned_tape words₀ words tags n f h t = record { holds = f h.holds; taped = t.holds h.holds h.taped }

pub all_asks : (words₀ words tags : List ℕ) (n : ℕ) (q : Redirection) → Tape words₀ tags n → RedirectAllEnsures words words₀ tags n (turn_all q) → (s e : ℕ) → s ≡ offset_at 7 words → e ≡ offset_at 8 words → (s ≤ e) × (e ≤ 16384) × (length words ≡ 16384) × (length tags ≡ 16384)
all_asks words₀ words tags n q h t s e s-is e-is = entries_asks words tags n q s e s-is e-is (turned_tape words₀ words tags n (turn_all q) h t)
