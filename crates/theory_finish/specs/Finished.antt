-- THE FINISHED MODULE. Its names are those that appear, in the order of first appearance; every record is kept except for its NAME words, and the name that each of these refers to has the same text; tests 3, 4, 5 and 6 are passed again; to number the names again changes nothing.
use Rattle.std.specs.Prelude.{◌≡◌, Bool, false, ◌&&◌, ltb, length}
use Rattle.std.proofs.Math.Path.{refl, ap}
use Rattle.std.proofs.Common.{sym, ap₂, ◌∙◌}
use Rattle.std.proofs.Math.Bool.{true, not}
use Rattle.std.proofs.Math.Logic.{⊎_elim}
use mathlib.Core.List.{List, [], ◌∷◌, ◌++◌, map}
use Prim.Native.Nat.{ℕ, zero, suc, ◌<◌}
use native.Mathlib.Omega.{arith}
use Rattle.std.proofs.Math.Dec.{eqb}
use Rattle.std.proofs.Math.ListN.{get_or, length-map, get_or-map}
use borrow.Author.Tests.{eqb-true, eqb-false, ltb-true, not-true, eq-eqb, ne_eqb}
use Rattle.theory_lists.specs.Lists.{map-map, map_same}
use Rattle.theory_lists.specs.Booleans.{and-true, and_split}
use Rattle.model.specs.Outcome.{Cell, Cells, class, word}
use Rattle.model.specs.Table.{NAME, KEY, name_row}
use Rattle.model.specs.Tree.{Function, Entry, flat, flat_entry}
use Rattle.model.specs.Module.{Module, flat_table, sections, pairs_from, bodies, flat_module, HEADER}
use Rattle.model.specs.Carry.{carry_cell, carry_cells, carry_function, carry_entry, carry_special, carry, Lays, Each, each_none, each_next, WellFunction, WellEntry}
use Rattle.model.specs.Initial.{Mem, here, there}
use Rattle.theory_image.specs.Members.{no_mem, each_at}
use Rattle.model.specs.Numbers.{Bounds, bound, caps, below, within, every, outside, inside, sound, sound_function, sound_entry, constant_only, numbered}
use Rattle.model.specs.Lower.{lower}
use Rattle.model.specs.Names.{field, present, distinct, same, unlike, differ, functions_named, entries_named, function_names, entry_names, named}
use Rattle.model.specs.Scope.{in_scope}
use Rattle.model.specs.Intake.{Passes}
use Rattle.model.specs.Finish.{names_in, index_n, appearing, renumber, with_names, named_by}
use Rattle.theory_image.specs.Quiet.{each_map}
use Rattle.theory_image.specs.Carries.{lays_carry, carry_well_function, carry_well_entry}
use Rattle.theory_finish.specs.Firsts.{Once, once-none, once-next, either, mem_first, firsts-once, firsts-all, firsts-only, index_in, index_at, index_apart}
use Rattle.theory_finish.specs.Classes.{Not, calm?, calms?, nameless}
use Rattle.theory_finish.specs.Touching.{Only, only_keeps}
use Rattle.theory_finish.specs.Kept.{Parts, carried-lower, carried_scope}
use Rattle.theory_finish.specs.Numbering.{Goes, Cellwise, carried-numbered}
use Rattle.theory_finish.specs.Naming.{Names, carried-named}
use Rattle.theory_finish.specs.Cellwise.{each_to, cellwise, image_of, table_to, pairs-to, function_cells}

-- ---- names in cells
pub names_in-append : (cs ds : Cells) → names_in (cs ++ ds) ≡ names_in cs ++ names_in ds
unfolding names_in
names_in-append [] ds = refl
names_in-append ((s, zero) ∷ cs) ds = let i = names_in-append cs ds in either (eqb s NAME) (λ e. rw (names_in, e) i) λ e. rw (names_in, e) i
names_in-append ((s, suc n) ∷ cs) ds = let i = names_in-append cs ds in either (eqb s NAME) (λ e. rw (names_in, e) (ap (n ∷◌) i)) λ e. rw (names_in, e) i

pub no_names : {cs : Cells} → Each (Not NAME) cs → names_in cs ≡ []
unfolding names_in
no_names each_none = refl
no_names (each_next h hs) = rw (names_in, h) (no_names hs)

-- a NAME word of a cell is a number of the list, or none
abbrev pub Seen : List ℕ → Cell → Type 0
Seen ns c = (n : ℕ) → eqb (class c) NAME ≡ true → word c ≡ suc n → Mem n ns

never : {A : Type 0} (n : ℕ) → zero ≡ suc n → A
never n e = absurd (omega arith)

pub all_seen_lem : (cs : Cells) (ns : List ℕ) → ((n : ℕ) → Mem n (names_in cs) → Mem n ns) → Each (Seen ns) cs
unfolding names_in
all_seen_lem [] ns h = each_none
all_seen_lem ((s, zero) ∷ cs) ns h = each_next (λ n e q. never n q) (all_seen_lem cs ns λ n m. h n (more (eqb s NAME) refl m))
  where
    more : {n : ℕ} (b : Bool) → eqb s NAME ≡ b → Mem n (names_in cs) → Mem n (names_in ((s, zero) ∷ cs))
    more true e m = rw (names_in, e) m
    more false e m = rw (names_in, e) m
all_seen_lem ((s, suc k) ∷ cs) ns h = each_next first (all_seen_lem cs ns λ n m. h n (more (eqb s NAME) refl m))
  where
    first : (n : ℕ) → eqb s NAME ≡ true → suc k ≡ suc n → Mem n ns
    first n e q = let p : k ≡ n = omega arith in h n (rw (names_in, e, p) here)

    more : {n : ℕ} (b : Bool) → eqb s NAME ≡ b → Mem n (names_in cs) → Mem n (names_in ((s, suc k) ∷ cs))
    more true e m = rw (names_in, e) (there m)
    more false e m = rw (names_in, e) m

-- a NAME word of a cell is below a count of names
abbrev pub Low : ℕ → Cell → Type 0
Low n c = eqb (class c) NAME ≡ true → word c < suc n

pub low_names : {N : ℕ} {cs : Cells} → Each (Low N) cs → (k : ℕ) → Mem k (names_in cs) → k < N
unfolding names_in
low_names each_none k m = absurd (no_mem m)
low_names (each_next {a = (s, zero)} h hs) k m = either (eqb s NAME) (λ e. low_names hs k (rw (names_in, e) at m)) λ e. low_names hs k (rw (names_in, e) at m)
low_names {N} (each_next {a = (s, suc w)} {l = cs} h hs) k m = let i = low_names hs k in either (eqb s NAME) (λ e. first e i (rw (names_in, e) at m)) λ e. i (rw (names_in, e) at m)
  where
    first : eqb s NAME ≡ true → (Mem k (names_in cs) → k < N) → Mem k (w ∷ names_in cs) → k < N
    first e i m = ⊎_elim (λ p. rw p (below e)) i (mem_first m)
      where
        below : eqb s NAME ≡ true → w < N
        below e = omega (arith, h e)

pub within_low : (b : Bounds) (cs : Cells) → within b cs ≡ true → Each (Low b.names) cs
unfolding within
within_low b [] h = each_none
within_low b ((s, w) ∷ cs) h = let p = and_split (below (bound b s) w) (within b cs) h in each_next (low p.0) (within_low b cs p.1)
  where
    low : below (bound b s) w ≡ true → Low b.names (s, w)
    low q e = let r : ltb w (suc b.names) ≡ true = (unfold bound caps below in rw (eqb-true s NAME e) at q) in ltb-true w (suc b.names) r

every_low : (b : Bounds) (rs : List Cells) → every (within b) rs ≡ true → Each (Each (Low b.names)) rs
unfolding every
every_low b [] h = each_none
every_low b (r ∷ rs) h = let p = and_split (within b r) (every (within b) rs) h in each_next (within_low b r p.0) (every_low b rs p.1)

functions_low : (b : Bounds) (fs : List Function) → every (sound_function b) fs ≡ true → Each (λ f. Each (Low b.names) (flat f)) fs
unfolding every sound inside
functions_low b [] h = each_none
functions_low b (f ∷ fs) h = let p = and_split (sound_function b f) (every (sound_function b) fs) h in each_next (within_low (inside b f) (flat f) (and_split (within (inside b f) (flat f)) _ p.0).0) (functions_low b fs p.1)

entries_low : (b : Bounds) (es : List Entry) → every (sound_entry b) es ≡ true → Each (λ e. Each (Low b.names) (flat_entry e)) es
unfolding every sound inside
entries_low b [] h = each_none
entries_low b (e ∷ es) h = let p = and_split (sound_entry b e) (every (sound_entry b) es) h in each_next (within_low (inside b e.function) (flat_entry e) (and_split (within (inside b e.function) (flat_entry e)) _ p.0).0) (entries_low b es p.1)

-- test 3 has every NAME word of a module below the count of its names
pub numbered_low : (t : Module) → numbered t ≡ true → Cellwise (Low (length t.names)) t
unfolding numbered outside
numbered_low t h =
    let b = outside t in
    let h₁ = and_split _ _ h in
    let h₂ = and_split _ _ h₁.1 in
    let h₃ = and_split _ _ h₂.1 in
    let h₄ = and_split _ _ h₃.1 in
    let h₅ = and_split _ _ h₄.1 in
    let h₆ = and_split (every constant_only t.exprs) _ h₅.1 in
    let h₇ = and_split _ _ h₆.1 in
    let h₈ = and_split _ _ h₇.1 in
    let h₉ = and_split _ _ h₈.1 in
    record {
      in_types = every_low b t.types h₁.0;
      in_constants = every_low b t.constants h₂.0;
      in_overrides = every_low b t.overrides h₃.0;
      in_globals = every_low b t.globals h₄.0;
      in_exprs = every_low b t.exprs h₅.0;
      in_functions_lem = functions_low b t.functions h₇.0;
      in_entries_lem = entries_low b t.entries h₈.0;
      in_rays = within_low b t.special.rays h₉.0;
      in_pairs = every_low b t.special.pairs h₉.1;
    }

-- ---- names are no part of what appears
pub names_nameless : {rs : List Cells} → Each (Lays name_row) rs → Each (Each (Not NAME)) rs
unfolding name_row calms? calm?
names_nameless each_none = each_none
names_nameless (each_next l ls) = each_next (nameless l refl) (names_nameless ls)

header_names : (t : Module) → Each (Lays name_row) t.names → names_in (flat_module t) ≡ names_in (bodies (sections t))
unfolding flat_module names_in
header_names t n = names_in-append (pairs_from HEADER (sections t)) (bodies (sections t)) ∙ ap (◌++ names_in (bodies (sections t))) (no_names (pairs-to (λ w. refl) HEADER (sections t)))

pub names_apart : (t : Module) (ns : List Cells) → Each (Lays name_row) t.names → Each (Lays name_row) ns → names_in (flat_module (with_names ns t)) ≡ names_in (flat_module t)
unfolding sections bodies with_names
names_apart t ns p q = header_names (with_names ns t) q ∙ behind ns _ q ∙ sym (header_names t p ∙ behind t.names _ p)
  where
    behind : (ns : List Cells) (rest : Cells) → Each (Lays name_row) ns → names_in (flat_table ns ++ rest) ≡ names_in rest
    behind ns rest q = names_in-append (flat_table ns) rest ∙ ap (◌++ names_in rest) (no_names (table_to (λ w. refl) (names_nameless q)))

-- ---- to renumber touches only NAME
module _ (ns : List ℕ) where
  pub renumber-only : Only (renumber ns)
  renumber-only = record { only = go }
    where
      go : (s w : ℕ) → eqb s NAME ≡ false → renumber ns s w ≡ w
      go s zero e = unfold renumber in refl
      go s (suc n) e = unfold renumber in rw (renumber, e)

  pub renumber_names : Names (renumber ns)
  renumber_names = record { none = unfold renumber in refl; some = λ n e. go n e }
    where
      go : (n : ℕ) → renumber ns NAME (suc n) ≡ 0 → ⊥
      go n e = let z : suc (index_n ns n) ≡ 0 = (unfold renumber in e) in omega arith

  name_to_lem : (n : ℕ) → renumber ns NAME (suc n) ≡ suc (index_n ns n)
  unfolding renumber
  name_to_lem n = refl

  pub names_in-carried : (cs : Cells) → names_in (carry_cells (renumber ns) cs) ≡ map (index_n ns) (names_in cs)
  unfolding names_in carry_cell renumber
  names_in-carried [] = refl
  names_in-carried ((s, zero) ∷ cs) = let i = names_in-carried cs in either (eqb s NAME) (λ e. rw (names_in, e) i) λ e. rw (names_in, e) i
  names_in-carried ((s, suc n) ∷ cs) = let i = names_in-carried cs in either (eqb s NAME) (λ e. rw (eqb-true s NAME e) (ap (index_n ns n ∷◌) i)) λ e. rw (names_in, e) i

  -- ONE-TO-ONE on the words that are seen
  pub renumber-apart : (x y : ℕ) → ((n : ℕ) → x ≡ suc n → Mem n ns) → ((n : ℕ) → y ≡ suc n → Mem n ns) → renumber ns NAME x ≡ renumber ns NAME y → x ≡ y
  unfolding renumber
  renumber-apart zero zero p q e = refl
  renumber-apart zero (suc y) p q e = absurd (omega arith)
  renumber-apart (suc x) zero p q e = absurd (omega arith)
  renumber-apart (suc x) (suc y) p q e = ap suc (index_apart (p x refl) (q y refl) (omega arith))

  -- ---- the text of a name
  at-mapped : {A : Type 0} (f : ℕ → A) (d : A) (l : List ℕ) (i : ℕ) → i < length l → get_or (map f l) i d ≡ f (get_or l i 0)
  at-mapped f d [] i h = absurd (omega arith)
  at-mapped f d (x ∷ l) zero h = refl
  at-mapped f d (x ∷ l) (suc i) h = at-mapped f d l i (omega arith)

-- the text that a NAME word stands for
unfoldable pub text_of : Module → ℕ → Cells
text_of t zero = []
text_of t (suc n) = get_or t.names n []

-- a cell with its text in place of its name
unfoldable pub spelled : Module → Cell → Cell × Cells
spelled t c = elim (eqb (class c) NAME) [ true ↦ ((NAME, 0), text_of t (word c)) | false ↦ (c, []) ]

module _ (ns : List ℕ) (t : Module) where
  text_at_lem : (n : ℕ) → Mem n ns → get_or (named_by ns t).names (index_n ns n) [] ≡ get_or t.names n []
  unfolding named_by with_names
  text_at_lem n m = at-mapped ns (λ k. get_or t.names k []) [] ns (index_n ns n) (index_in m) ∙ ap (λ k. get_or t.names k []) (index_at m)

  -- THE TEXT of each name is the same
  pub text-kept : (w : ℕ) → ((n : ℕ) → w ≡ suc n → Mem n ns) → text_of (named_by ns t) (renumber ns NAME w) ≡ text_of t w
  unfolding text_of renumber
  text-kept zero p = refl
  text-kept (suc n) p = text_at_lem n (p n refl)

  cell-kept : (c : Cell) → Seen ns c → spelled (named_by ns t) (carry_cell (renumber ns) c) ≡ spelled t c
  unfolding spelled carry_cell
  cell-kept (s, w) h = either (eqb s NAME) (λ e. named e (eqb-true s NAME e)) λ e. rw (spelled, e, (renumber-only ns).only s w e)
    where
      named : eqb s NAME ≡ true → s ≡ NAME → spelled (named_by ns t) (carry_cell (renumber ns) (s, w)) ≡ spelled t (s, w)
      named e q = rw (q, text-kept w (λ n. h n e))

  -- EVERY RECORD is kept but for its NAME words, and spells the same
  pub spelled_kept : {cs : Cells} → Each (Seen ns) cs → map (spelled (named_by ns t)) (carry_cells (renumber ns) cs) ≡ map (spelled t) cs
  spelled_kept each_none = refl
  spelled_kept (each_next {a = c} h hs) = ap₂ ◌∷◌ (cell-kept c h) (spelled_kept hs)

-- ---- lists
pub each_mem : {P : ℕ → Type 0} (ns : List ℕ) → ((n : ℕ) → Mem n ns → P n) → Each P ns
each_mem [] h = each_none
each_mem (n ∷ ns) h = each_next (h n here) (each_mem ns λ k m. h k (there m))

each_lays : {m : ℕ → ℕ → ℕ} {ss : List ℕ} {rs : List Cells} → Only m → Each (Lays ss) rs → Each (Lays ss) (map (carry_cells m) rs)
each_lays o each_none = each_none
each_lays {m} o (each_next l ls) = each_next (lays_carry m (only_keeps o) l) (each_lays o ls)

pub carried_names : {m : ℕ → ℕ → ℕ} (t : Module) → Only m → Each (Lays name_row) t.names → Each (Lays name_row) (carry m t).names
unfolding carry
carried_names t o l = each_lays o l

each_function : {m : ℕ → ℕ → ℕ} {fs : List Function} → Only m → Each WellFunction fs → Each WellFunction (map (carry_function m) fs)
each_function o each_none = each_none
each_function {m} o (each_next {a = f} w ws) = each_next (carry_well_function m (only_keeps o) f w) (each_function o ws)

each_entry : {m : ℕ → ℕ → ℕ} {es : List Entry} → Only m → Each WellEntry es → Each WellEntry (map (carry_entry m) es)
each_entry o each_none = each_none
each_entry {m} o (each_next {a = e} w ws) = each_next (carry_well_entry m (only_keeps o) e w) (each_entry o ws)

-- the parts of a carried module with other names
pub carried-parts : {m : ℕ → ℕ → ℕ} {t : Module} (ns : List Cells) → Only m → Each (Lays name_row) ns → Parts t → Parts (with_names ns (carry m t))
unfolding with_names carry carry_special
carried-parts {m} ns o l p = record {
  names_each = l;
  types_each = each_lays o p.types_each;
  constants_each = each_lays o p.constants_each;
  overrides_each = each_lays o p.overrides_each;
  globals_each = each_lays o p.globals_each;
  exprs_each = each_lays o p.exprs_each;
  functions_each = each_function o p.functions_each;
  entries_each = each_entry o p.entries_each;
  rays_lays = lays_carry m (only_keeps o) p.rays_lays;
  pairs_each = each_lays o p.pairs_each;
}

-- ---- names that differ, picked by different numbers
same_sym : (x y : List ℕ) → same x y ≡ same y x
unfolding same
same_sym [] [] = refl
same_sym [] (y ∷ ys) = refl
same_sym (x ∷ xs) [] = refl
same_sym (x ∷ xs) (y ∷ ys) = ap₂ ◌&&◌ (eqb_sym x y) (same_sym xs ys)
  where
    eqb_sym : (x y : ℕ) → eqb x y ≡ eqb y x
    eqb_sym x y = either (eqb x y) (λ e. e ∙ sym (eq-eqb y x (sym (eqb-true x y e)))) λ e. e ∙ sym (ne_eqb y x λ q. eqb-false x y e (sym q))

unlike-at : (l : List (List ℕ)) (x : List ℕ) (j : ℕ) → unlike l x ≡ true → j < length l → same x (get_or l j []) ≡ false
unfolding unlike
unlike-at [] x j u h = absurd (omega arith)
unlike-at (y ∷ l) x zero u h = not-true (same x y) (and_split (not (same x y)) (unlike l x) u).0
unlike-at (y ∷ l) x (suc j) u h = unlike-at l x j (and_split (not (same x y)) (unlike l x) u).1 (omega arith)

pub differ-at : (l : List (List ℕ)) (i j : ℕ) → differ l ≡ true → i < length l → j < length l → (i ≡ j → ⊥) → same (get_or l i []) (get_or l j []) ≡ false
unfolding differ
differ-at [] i j d h k n = absurd (omega arith)
differ-at (x ∷ l) zero zero d h k n = absurd (n refl)
differ-at (x ∷ l) zero (suc j) d h k n = unlike-at l x j (and_split (unlike l x) (differ l) d).0 (omega arith)
differ-at (x ∷ l) (suc i) zero d h k n = same_sym (get_or l i []) x ∙ unlike-at l x i (and_split (unlike l x) (differ l) d).0 (omega arith)
differ-at (x ∷ l) (suc i) (suc j) d h k n = differ-at l i j (and_split (unlike l x) (differ l) d).1 (omega arith) (omega arith) λ e. n (ap suc e)

module _ (l : List (List ℕ)) (d : differ l ≡ true) where
  unlike-pick : (i : ℕ) (ns : List ℕ) → i < length l → (Mem i ns → ⊥) → ((n : ℕ) → Mem n ns → n < length l) → unlike (map (λ n. get_or l n []) ns) (get_or l i []) ≡ true
  unfolding unlike
  unlike-pick i [] h k b = refl
  unlike-pick i (n ∷ ns) h k b = and-true (ap not (differ-at l i n d h (b n here) λ e. k (rw e here))) (unlike-pick i ns h (λ m. k (there m)) λ n m. b n (there m))

  differ-pick : {ns : List ℕ} → Once ns → ((n : ℕ) → Mem n ns → n < length l) → differ (map (λ n. get_or l n []) ns) ≡ true
  unfolding differ
  differ-pick once-none b = refl
  differ-pick (once-next {x} {xs} k o) b = and-true (unlike-pick x xs (b x here) k λ n m. b n (there m)) (differ-pick o λ n m. b n (there m))

pub names_differ : (t : Module) → named t ≡ true → differ (map (map word) t.names) ≡ true
unfolding named
names_differ t h =
    let d = distinct (function_names t.functions) && distinct (map (field KEY) t.special.pairs) in
    let n = differ (map (map word) t.names) in
    let h₁ = and_split (present (function_names t.functions)) (present (entry_names t.entries) && (functions_named t.functions && (entries_named t.entries && (n && d)))) h in
    let h₂ = and_split (present (entry_names t.entries)) (functions_named t.functions && (entries_named t.entries && (n && d))) h₁.1 in
    let h₃ = and_split (functions_named t.functions) (entries_named t.entries && (n && d)) h₂.1 in
    let h₄ = and_split (entries_named t.entries) (n && d) h₃.1 in
    (and_split n d h₄.1).0

impossible : {A : Type 0} → false ≡ true → A
impossible e = let z : ◌≡◌ {A = ℕ} 0 1 = cc in absurd (omega arith)

-- ---- THE THEOREMS, of a module whose parts are well formed and that passes test 3
module _ {t : Module} (p : Parts t) (h : numbered t ≡ true) where
  abbrev ns : List ℕ
  ns = appearing t

  abbrev ts : List Cells
  ts = map (λ n. get_or t.names n []) ns

  abbrev o : Only (renumber ns)
  o = renumber-only ns

  image_low : Each (Low (length t.names)) (flat_module t)
  image_low = image_of (λ w e. impossible e) (each_map (λ r q. each_map (λ c f e. impossible (sym f ∙ e)) q) (names_nameless p.names_each)) (numbered_low t h)

  -- APPEARING: no number twice, the names that appear and no other, each of them a name of the module
  pub appearing-once : Once ns
  unfolding appearing
  appearing-once = firsts-once (names_in (flat_module t)) [] once-none

  pub appearing-all : (n : ℕ) → Mem n (names_in (flat_module t)) → Mem n ns
  unfolding appearing
  appearing-all n m = firsts-all (names_in (flat_module t)) [] m

  pub appearing-only : (n : ℕ) → Mem n ns → Mem n (names_in (flat_module t))
  unfolding appearing
  appearing-only n m = ⊎_elim (λ k. k) (λ k. absurd (no_mem k)) (firsts-only (names_in (flat_module t)) [] m)

  pub appearing_low : (n : ℕ) → Mem n ns → n < length t.names
  appearing_low n m = low_names image_low n (appearing-only n m)

  pub image-seen : Each (Seen ns) (flat_module t)
  image-seen = all_seen_lem (flat_module t) ns appearing-all

  goes : (c : Cell) → Seen ns c → Goes o (length ts) c
  goes (s, zero) q e = unfold renumber in omega arith
  goes (s, suc n) q e = rw (name_to_lem ns n, length-map ns (λ n. get_or t.names n [])) (omega (arith, index_in (q n e refl)))

  pub picked : Each (Lays name_row) ts
  picked = each_to (λ n. get_or t.names n []) (each_mem ns λ n m. each_at p.names_each n [] (appearing_low n m))

  -- PARTS are well formed again
  pub finished-parts : Parts (named_by ns t)
  unfolding named_by
  finished-parts = carried-parts ts o picked p

  -- TEST 3 is passed again
  pub finished-numbered : numbered (named_by ns t) ≡ true
  unfolding named_by
  finished-numbered = carried-numbered o ts p (cellwise t (each_map goes image-seen)) h

  -- TESTS 4 AND 6 answer the same
  pub finished-lower : lower (named_by ns t) ≡ lower t
  unfolding named_by
  finished-lower = carried-lower o ts p

  pub finished_scope : in_scope (named_by ns t) ≡ in_scope t
  unfolding named_by
  finished_scope = carried_scope o ts p

  -- NAMES differ where those of the module do
  pub finished-differ : differ (map (map word) t.names) ≡ true → differ (map (map word) ts) ≡ true
  finished-differ d =
      ap differ (map-map (map word) (λ n. get_or t.names n []) ns ∙ map_same _ _ (λ n. sym (get_or-map (map word) t.names n [])) ns)
      ∙ differ-pick (map (map word) t.names) d appearing-once λ n m. rw (length-map t.names (map word)) (appearing_low n m)

  field-seen : {cs : Cells} → Each (Seen ns) cs → (n : ℕ) → field NAME cs ≡ suc n → Mem n ns
  unfolding field
  field-seen each_none n e = never n e
  field-seen (each_next {a = (s, w)} q qs) n e = either (eqb s NAME) (λ a. q n a (rw (field, a) at e)) λ a. field-seen qs n (rw (field, a) at e)

  pub names_seen : {fs : List Function} → Each (λ f. Each (Seen ns) (flat f)) fs → Each (λ w. (n : ℕ) → w ≡ suc n → Mem n ns) (function_names fs)
  unfolding function_names
  names_seen each_none = each_none
  names_seen (each_next {a = f} q qs) = each_next (field-seen (function_cells f q).in_head) (names_seen qs)

  -- TEST 5 is passed again
  pub finished-named : named t ≡ true → named (named_by ns t) ≡ true
  unfolding named_by
  finished-named q = carried-named o (renumber_names ns) (λ w. (n : ℕ) → w ≡ suc n → Mem n ns) (renumber-apart ns) ts t (names_seen (cellwise t image-seen).in_functions_lem) (finished-differ (names_differ t q)) q

-- INTAKE is passed again, sizes apart
pub finished-passes : {t : Module} → Parts t → Passes t → Passes (named_by (appearing t) t)
finished-passes p k = record {
  numbers = finished-numbered p k.numbers;
  lowers = finished-lower p k.numbers ∙ k.lowers;
  names = finished-named p k.numbers k.names;
  scope = finished_scope p k.numbers ∙ k.scope;
}
