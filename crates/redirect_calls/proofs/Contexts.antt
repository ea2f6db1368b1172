-- What surrounds a function, and the section of entry points, in the cells of a module: cells before and cells after, which are the same for every function of the same length in its place. So to replace a function is to replace its cells where they are.
use mathlib.Core.Path.{◌≡◌, refl, sym, ap, ap₂, ◌∙◌}
use mathlib.Core.List.{List, [], ◌∷◌, ◌++◌, map, append_assoc}
use Prim.Native.Nat.{ℕ, zero, suc, ◌+◌, ◌<◌}
use native.Mathlib.Omega.{arith}
use lib.ListN.{length, get_or, take, drop, set, length-append, length-map, length-set}
use lib.Seq.{set-get_or}
use Rattle.model.specs.Outcome.{Cells}
use Rattle.model.specs.Table.{PLACE}
use Rattle.model.specs.Tree.{Function, Entry, flat, flat_entry, flat_all}
use Rattle.model.specs.Module.{Module, offset_at, HEADER, places, flat_table, Section, sections, pairs_from, bodies, flat_module, write}
use Rattle.model.specs.View.{tables, record_at}
use Rattle.model.specs.Redirect.{with_functions, with_entries, nothing, function}
use Rattle.theory_image.specs.Sections.{start_of, cells_of, length-places, length_pairs}
use Rattle.theory_image.specs.Views.{offset_start, at_start}

-- ---- one run of many replaced
flat-set : (rs : List Cells) (k : ℕ) (r : Cells) → k < length rs → flat_all (set rs k r) ≡ flat_all (take k rs) ++ (r ++ flat_all (drop (suc k) rs))
unfolding flat_all
flat-set [] k r h = absurd (omega arith)
flat-set (x ∷ rs) zero r h = refl
flat-set (x ∷ rs) (suc k) r h = ap (x ++◌) (flat-set rs k r (omega arith)) ∙ sym (append_assoc x (flat_all (take k rs)) (r ++ flat_all (drop (suc k) rs)))

bodies-set : (ss : List Section) (k : ℕ) (s : Section) → k < length ss → bodies (set ss k s) ≡ bodies (take k ss) ++ (s.1 ++ bodies (drop (suc k) ss))
unfolding bodies
bodies-set [] k s h = absurd (omega arith)
bodies-set (x ∷ ss) zero s h = refl
bodies-set (x ∷ ss) (suc k) s h = ap (x.1 ++◌) (bodies-set ss k s (omega arith)) ∙ sym (append_assoc x.1 (bodies (take k ss)) (s.1 ++ bodies (drop (suc k) ss)))

-- offsets and the header's pairs depend on lengths only
places-set : (rs : List Cells) (k at : ℕ) (r : Cells) → length r ≡ length (get_or rs k []) → places at (set rs k r) ≡ places at rs
unfolding places
places-set [] k at r e = refl
places-set (x ∷ rs) zero at r e = ap (λ n. (PLACE, at) ∷ places (at + n) rs) e
places-set (x ∷ rs) (suc k) at r e = ap ((PLACE, at) ∷◌) (places-set rs k (at + length x) r e)

pairs_set : (ss : List Section) (k at : ℕ) (s : Section) → s.0 ≡ (get_or ss k (0, [])).0 → length s.1 ≡ length (get_or ss k (0, [])).1 → pairs_from at (set ss k s) ≡ pairs_from at ss
unfolding pairs_from
pairs_set [] k at s d e = refl
pairs_set (x ∷ ss) zero at s d e = ap₂ (λ c n. (PLACE, c) ∷ (PLACE, at) ∷ pairs_from (at + n) ss) d e
pairs_set (x ∷ ss) (suc k) at s d e = ap (λ l. (PLACE, x.0) ∷ (PLACE, at) ∷ l) (pairs_set ss k (at + length x.1) s d e)

-- where a run starts
start_flat : (rs : List Cells) (at k : ℕ) → start_of at rs k ≡ at + length (flat_all (take k rs))
unfolding start_of flat_all
start_flat [] at zero = omega arith
start_flat [] at (suc k) = omega arith
start_flat (r ∷ rs) at zero = omega arith
start_flat (r ∷ rs) at (suc k) = omega (arith, start_flat rs (at + length r) k, length-append r (flat_all (take k rs)))

start_bodies : (ss : List Section) (at k : ℕ) → start_of at (map cells_of ss) k ≡ at + length (bodies (take k ss))
unfolding start_of bodies
start_bodies [] at zero = omega arith
start_bodies [] at (suc k) = omega arith
start_bodies (s ∷ ss) at zero = omega arith
start_bodies (s ∷ ss) at (suc k) = omega (arith, start_bodies ss (at + length s.1) k, length-append s.1 (bodies (take k ss)))

-- ---- one section replaced
head_of : List Section → Cells
head_of ss = (PLACE, 1) ∷ (PLACE, HEADER + length (bodies ss)) ∷ pairs_from HEADER ss

length_head : (ss : List Section) → length (head_of ss) ≡ 2 + (length ss + length ss)
unfolding head_of
length_head ss = omega (arith, length_pairs ss HEADER)

length-bodies : (ss : List Section) (k : ℕ) (s : Section) → length s.1 ≡ length (get_or ss k (0, [])).1 → length (bodies (set ss k s)) ≡ length (bodies ss)
unfolding bodies
length-bodies [] k s e = refl
length-bodies (x ∷ ss) zero s e = omega (arith, length-append s.1 (bodies ss), length-append x.1 (bodies ss))
length-bodies (x ∷ ss) (suc k) s e = omega (arith, length-append x.1 (bodies (set ss k s)), length-append x.1 (bodies ss), length-bodies ss k s e)

head_set : (ss : List Section) (k : ℕ) (s : Section) → k < length ss → s.0 ≡ (get_or ss k (0, [])).0 → length s.1 ≡ length (get_or ss k (0, [])).1 → head_of (set ss k s) ≡ head_of ss
unfolding head_of
head_set ss k s h d e = ap₂ (λ n l. (PLACE, 1) ∷ (PLACE, HEADER + n) ∷ l) (length-bodies ss k s e) (pairs_set ss k HEADER s d e)

module _ (m : Module) (k : ℕ) where
  -- the cells before section k, and those after it
  before : Cells
  before = head_of (sections m) ++ bodies (take k (sections m))

  behind : Cells
  behind = bodies (drop (suc k) (sections m))

  section_in : k < 9 → (s : Section) → s.0 ≡ (get_or (sections m) k (0, [])).0 → length s.1 ≡ length (get_or (sections m) k (0, [])).1 → head_of (set (sections m) k s) ++ bodies (set (sections m) k s) ≡ before ++ (s.1 ++ behind)
  unfolding sections before behind
  section_in h s d e =
      ap₂ ◌++◌ (head_set (sections m) k s h d e) (bodies-set (sections m) k s h) ∙ sym (append_assoc (head_of (sections m)) (bodies (take k (sections m))) (s.1 ++ bodies (drop (suc k) (sections m))))

  before_long : k < 9 → length before ≡ offset_at k (write m)
  unfolding before sections
  before_long h =
      length-append (head_of (sections m)) (bodies (take k (sections m))) ∙ ap (◌+ length (bodies (take k (sections m)))) (length_head (sections m)) ∙ sym (offset_start m k h ∙ start_bodies (sections m) HEADER k)

-- ---- entry points
pub entries_before : Module → Cells
entries_before m = before m 7

pub entries_behind : Module → Cells
entries_behind m = behind m 7

pub entries_in : (m : Module) (es : List Entry) → length es ≡ length m.entries → length (flat_table (map flat_entry es)) ≡ length (flat_table (map flat_entry m.entries)) → flat_module (with_entries m es) ≡ entries_before m ++ (flat_table (map flat_entry es) ++ entries_behind m)
unfolding flat_module with_entries sections head_of entries_before entries_behind
entries_in m es d e = section_in m 7 (omega arith) (length es, flat_table (map flat_entry es)) d e

pub entries_long : (m : Module) → length (entries_before m) ≡ offset_at 7 (write m)
unfolding entries_before
entries_long m = before_long m 7 (omega arith)

-- ---- table functions
pub functions_before : Module → Cells
functions_before m = before m 6

pub functions_behind : Module → Cells
functions_behind m = behind m 6

pub functions_in_lem : (m : Module) (fs : List Function) → length fs ≡ length m.functions → length (flat_table (map flat fs)) ≡ length (flat_table (map flat m.functions)) → flat_module (with_functions m fs) ≡ functions_before m ++ (flat_table (map flat fs) ++ functions_behind m)
unfolding flat_module with_functions sections head_of functions_before functions_behind
functions_in_lem m fs d e = section_in m 6 (omega arith) (length fs, flat_table (map flat fs)) d e

-- ---- a function
map-set : {A B : Type 0} (g : A → B) (l : List A) (k : ℕ) (x : A) → map g (set l k x) ≡ set (map g l) k (g x)
map-set g [] k x = refl
map-set g (y ∷ l) zero x = refl
map-set g (y ∷ l) (suc k) x = ap (g y ∷◌) (map-set g l k x)

pub map_at_lem : {A B : Type 0} (g : A → B) (l : List A) (k : ℕ) (a : A) (b : B) → k < length l → get_or (map g l) k b ≡ g (get_or l k a)
map_at_lem g [] k a b h = absurd (omega arith)
map_at_lem g (x ∷ l) zero a b h = refl
map_at_lem g (x ∷ l) (suc k) a b h = map_at_lem g l k a b (omega arith)

table-set : (rs : List Cells) (k : ℕ) (r : Cells) → k < length rs → length r ≡ length (get_or rs k []) → flat_table (set rs k r) ≡ (places (length rs) rs ++ flat_all (take k rs)) ++ (r ++ flat_all (drop (suc k) rs))
unfolding flat_table
table-set rs k r h e =
    ap₂ ◌++◌ (ap (λ n. places n (set rs k r)) (length-set rs k r) ∙ places-set rs k (length rs) r e) (flat-set rs k r h)
    ∙ sym (append_assoc (places (length rs) rs) (flat_all (take k rs)) (r ++ flat_all (drop (suc k) rs)))

length-flat : (rs : List Cells) (k : ℕ) (r : Cells) → length r ≡ length (get_or rs k []) → length (flat_all (set rs k r)) ≡ length (flat_all rs)
unfolding flat_all
length-flat [] k r e = refl
length-flat (x ∷ rs) zero r e = omega (arith, length-append r (flat_all rs), length-append x (flat_all rs))
length-flat (x ∷ rs) (suc k) r e = omega (arith, length-append x (flat_all (set rs k r)), length-append x (flat_all rs), length-flat rs k r e)

length-table : (rs : List Cells) (k : ℕ) (r : Cells) → length r ≡ length (get_or rs k []) → length (flat_table (set rs k r)) ≡ length (flat_table rs)
unfolding flat_table
length-table rs k r e =
    omega (
      arith,
      length-append (places (length (set rs k r)) (set rs k r)) (flat_all (set rs k r)),
      length-append (places (length rs) rs) (flat_all rs),
      length-places (set rs k r) (length (set rs k r)),
      length-places rs (length rs),
      length-set rs k r,
      length-flat rs k r e,
    )

module _ (m : Module) (k : ℕ) where
  abbrev rs : List Cells
  rs = map flat m.functions

  pub function-before : Cells
  function-before = before m 6 ++ (places (length rs) rs ++ flat_all (take k rs))

  pub function-behind : Cells
  function-behind = flat_all (drop (suc k) rs) ++ behind m 6

  pub function_in_lem : k < length m.functions → (f : Function) → length (flat f) ≡ length (flat (function m k)) → flat_module (with_functions m (set m.functions k f)) ≡ function-before ++ (flat f ++ function-behind)
  unfolding flat_module with_functions sections head_of function-before function-behind function
  function_in_lem h f e =
      let q : length (flat f) ≡ length (get_or rs k []) = e ∙ sym (ap length (map_at_lem flat m.functions k nothing [] h)) in
      let t : flat_table (map flat (set m.functions k f)) ≡ flat_table (set rs k (flat f)) = ap flat_table (map-set flat m.functions k f) in
      section_in m 6 (omega arith) (length (set m.functions k f), flat_table (map flat (set m.functions k f))) (length-set m.functions k f) (ap length t ∙ length-table rs k (flat f) q)
      ∙ ap (λ l. before m 6 ++ (l ++ behind m 6)) (t ∙ table-set rs k (flat f) (rw (length-map m.functions flat) h) q)
      ∙ around (before m 6) (places (length rs) rs ++ flat_all (take k rs)) (flat f) (flat_all (drop (suc k) rs)) (behind m 6)
    where
      around : (a b c d e : Cells) → a ++ ((b ++ (c ++ d)) ++ e) ≡ (a ++ b) ++ (c ++ (d ++ e))
      around a b c d e = simp append_assoc

  -- the function itself
  pub function-here : k < length m.functions → flat_module m ≡ function-before ++ (flat (function m k) ++ function-behind)
  unfolding with_functions function
  function-here h = ap (λ l. flat_module (with_functions m l)) (sym (set-get_or m.functions k nothing)) ∙ function_in_lem h (function m k) refl

  pub function_long : k < length m.functions → length function-before ≡ record_at 6 k (write m)
  unfolding function-before tables
  function_long h =
      let q : k < length rs = rw (length-map m.functions flat) h in
      length-append (before m 6) (places (length rs) rs ++ flat_all (take k rs))
      ∙ ap₂ ◌+◌ (before_long m 6 (omega arith)) (length-append (places (length rs) rs) (flat_all (take k rs)) ∙ ap (◌+ length (flat_all (take k rs))) (length-places rs (length rs)) ∙ sym (start_flat rs (length rs) k))
      ∙ sym (at_start m 6 (omega arith) k q)
