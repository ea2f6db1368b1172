-- The names that cells have: spans do not matter, equal records have the same, a record that is carried has what its names are mapped to, and all that a record refers to in the table of names is a name that it has.
use Rattle.std.specs.Prelude.{◌≡◌, refl, Bool, true, false, ◌&&◌, not, ◌⊎◌, List, [], ◌∷◌, ◌++◌, eqb, ltb, get_or}
use Rattle.std.proofs.Common.{sym, ap, ◌∙◌, inl, inr, ⊎_elim, arith}
use Prim.Native.Nat.{ℕ, zero, suc, ◌-◌, ◌<◌}
use borrow.Author.Tests.{eqb-true, eqb-false, ltb-false, not-true}
use Rattle.theory_lists.specs.Booleans.{and_split}
use Rattle.model.specs.Outcome.{Cell, Cells}
use Rattle.model.specs.Table.{SPAN, NAME}
use Rattle.model.specs.Tree.{flat_all}
use Rattle.model.specs.Carry.{carry_cell, carry_cells}
use Rattle.model.specs.Initial.{Mem, here, there}
use Rattle.theory_image.specs.Members.{no_mem, mem_left, mem_right, mem_cases}
use Rattle.model.specs.Tables.{Tab, names, is_t, code_t, Tables, count}
use Rattle.model.specs.References.{Place, table, own, function, Target, copied, start, upto, ref, opt, targets, target, Node, ref_of, refs, carry_w, through, undefined_at, first_word, moved, shift, alike, interned}
use Rattle.model.specs.Finish.{names_in}
use Rattle.theory_records.specs.RecordLaws.{All, all_map, rest_of, Went, bare_w, bare, alike_is}
use Rattle.theory_records.specs.Tested.{cons_all}
use Rattle.theory_records.specs.Functions.{TabIn, in_table, TabsIn}
use Rattle.theory_finish.specs.Firsts.{either, mem_first}
use Rattle.theory_finish.specs.Finished.{names_in-append}

-- ---- one cell
pub no_names : {A : Type 0} {n : ℕ} → Mem n (names_in []) → A
unfolding names_in
no_names m = absurd (no_mem m)

pub same-cell : (s v w : ℕ) (cs ds : Cells) → (eqb s NAME ≡ true → v ≡ w) → names_in cs ≡ names_in ds → names_in ((s, v) ∷ cs) ≡ names_in ((s, w) ∷ ds)
unfolding names_in
same-cell s v w cs ds f i = either (eqb s NAME) (λ e. rw (f e) (go w e)) λ e. rw (names_in, e) i
  where
    go : (w : ℕ) → eqb s NAME ≡ true → names_in ((s, w) ∷ cs) ≡ names_in ((s, w) ∷ ds)
    go zero e = rw (names_in, e) i
    go (suc n) e = rw (names_in, e) (ap (n ∷◌) i)

pub behind-cell : {j : ℕ} (c : Cell) (cs : Cells) → Mem j (names_in cs) → Mem j (names_in (c ∷ cs))
unfolding names_in
behind-cell (s, zero) cs m = either (eqb s NAME) (λ e. rw (names_in, e) m) λ e. rw (names_in, e) m
behind-cell (s, suc n) cs m = either (eqb s NAME) (λ e. rw (names_in, e) (there m)) λ e. rw (names_in, e) m

name_cell : (s n : ℕ) (cs : Cells) → eqb s NAME ≡ true → Mem n (names_in ((s, suc n) ∷ cs))
unfolding names_in
name_cell s n cs e = rw (names_in, e) here

-- the first cell's, or one after it
pub cell-cases : {n : ℕ} (s w : ℕ) (cs : Cells) → Mem n (names_in ((s, w) ∷ cs)) → ((eqb s NAME ≡ true) × (w ≡ suc n)) ⊎ Mem n (names_in cs)
unfolding names_in
cell-cases s zero cs m = either (eqb s NAME) (λ e. inr (rw (names_in, e) at m)) λ e. inr (rw (names_in, e) at m)
cell-cases s (suc k) cs m = either (eqb s NAME) (λ e. ⊎_elim (λ p. inl (e, ap suc (sym p))) inr (mem_first (rw (names_in, e) at m))) λ e. inr (rw (names_in, e) at m)

-- ---- ignoring spans
moved_name : (s w o : ℕ) (u : Bool) → eqb s NAME ≡ true → moved (target s) w o u ≡ w
unfolding target targets moved
moved_name s w o u e = rw (eqb-true s NAME e)

pub shift_names : (r : Cells) (o : ℕ) (u : Bool) → names_in (shift r o u) ≡ names_in r
unfolding shift
shift_names [] o u = refl
shift_names ((s, w) ∷ cs) o u = let v = undefined_at (target s) w (first_word cs) u in same-cell s (moved (target s) w o v) w (shift cs o v) cs (moved_name s w o v) (shift_names cs o v)

bare_name : (s w : ℕ) → eqb s NAME ≡ true → bare_w (target s) w ≡ w
unfolding target targets bare_w
bare_name s w e = rw (eqb-true s NAME e)

bare_names : (r : Cells) → names_in (bare r) ≡ names_in r
unfolding bare
bare_names [] = refl
bare_names ((s, w) ∷ cs) = same-cell s (bare_w (target s) w) w (bare cs) cs (bare_name s w) (bare_names cs)

alike_names : (d r : Cells) → alike d r ≡ true → names_in d ≡ names_in r
alike_names d r e = sym (bare_names d) ∙ ap names_in (alike_is d r e) ∙ bare_names r

-- ---- carried
went_name : (g : Went) (s n : ℕ) → eqb s NAME ≡ true → through g s (suc n) ≡ g (table names) n
unfolding through target targets carry_w
went_name g s n e = rw (eqb-true s NAME e)

pub carry_names : (g : Went) (r : Cells) {n j : ℕ} → Mem n (names_in r) → g (table names) n ≡ suc j → Mem j (names_in (carry_cells (through g) r))
unfolding carry_cell
carry_names g [] m e = no_names m
carry_names g ((s, w) ∷ cs) {n} {j} m e =
    let i : Mem n (names_in cs) → g (table names) n ≡ suc j → Mem j (names_in (carry_cells (through g) cs)) = carry_names g cs in
    ⊎_elim (λ p. rw (p.1, went_name g s n p.0, e) (name_cell s j (carry_cells (through g) cs) p.0)) (λ k. behind-cell (s, through g s w) (carry_cells (through g) cs) (i k e)) (cell-cases s w cs m)

-- ---- one row after another
pub left_names : {j : ℕ} (xs ys : Cells) → Mem j (names_in xs) → Mem j (names_in (xs ++ ys))
left_names xs ys m = rw (names_in-append xs ys) (mem_left (names_in ys) m)

pub right_names : {j : ℕ} (xs ys : Cells) → Mem j (names_in ys) → Mem j (names_in (xs ++ ys))
right_names xs ys m = rw (names_in-append xs ys) (mem_right (names_in xs) m)

pub split_names : {j : ℕ} (xs ys : Cells) → Mem j (names_in (xs ++ ys)) → Mem j (names_in xs) ⊎ Mem j (names_in ys)
split_names xs ys m = mem_cases (names_in xs) (names_in ys) (rw (names_in-append xs ys) at m)

-- ---- a table keeps the first of equal records
pub merged_old : {j : ℕ} (ds : List Cells) (r : Cells) → Mem j (names_in (flat_all ds)) → Mem j (names_in (flat_all (interned ds r)))
unfolding interned flat_all names_in
merged_old [] r m = absurd (no_mem m)
merged_old (d ∷ ds) r m =
    let i = merged_old ds r in
    either (alike d r) (λ e. rw (interned, e) m) λ e. rw (interned, e) (⊎_elim (left_names d (flat_all (interned ds r))) (λ k. right_names d (flat_all (interned ds r)) (i k)) (split_names d (flat_all ds) m))

pub merged-new : {j : ℕ} (ds : List Cells) (r : Cells) → Mem j (names_in r) → Mem j (names_in (flat_all (interned ds r)))
unfolding interned flat_all
merged-new [] r m = left_names r [] m
merged-new (d ∷ ds) r m =
    let i = merged-new ds r m in
    either (alike d r) (λ e. rw (interned, e) (left_names d (flat_all ds) (rw (alike_names d r e) m))) λ e. rw (interned, e) (right_names d (flat_all (interned ds r)) i)

-- ---- references: to a name that L allows, or to anything else
pub data Allowed (L : ℕ → Type 0) : Place → ℕ → Type 0 where
  a_name : {n : ℕ} → L n → Allowed L (table names) n
  a_record : {t : Tab} {n : ℕ} → is_t t names ≡ false → Allowed L (table t) n
  an_own : {n : ℕ} → Allowed L own n
  a-function : {n : ℕ} → Allowed L function n

abbrev pub Alloweds : (ℕ → Type 0) → List Node → Type 0
Alloweds L js = All (λ j. Allowed L j.place j.num) js

pub more_allowed : {L M : ℕ → Type 0} → ((n : ℕ) → L n → M n) → {p : Place} {n : ℕ} → Allowed L p n → Allowed M p n
more_allowed f (a_name l) = a_name (f _ l)
more_allowed f (a_record e) = a_record e
more_allowed f an_own = an_own
more_allowed f a-function = a-function

pub mores_allowed : {L M : ℕ → Type 0} → ((n : ℕ) → L n → M n) → (js : List Node) → Alloweds L js → Alloweds M js
mores_allowed f js a = all_map js (λ j. more_allowed f) a

other_p : Place → Bool
other_p (table t) = not (is_t t names)
other_p own = true
other_p function = true

other : Target → Bool
other copied = true
other start = true
other upto = true
other (ref p) = other_p p
other (opt p) = other_p p

others : List Target → Bool
others [] = true
others (t ∷ ts) = other t && others ts

other_at : (ts : List Target) (k : ℕ) → others ts ≡ true → other (get_or ts k copied) ≡ true
unfolding others other
other_at [] k h = refl
other_at (t ∷ ts) zero h = (and_split (other t) (others ts) h).0
other_at (t ∷ ts) (suc k) h = other_at ts k (and_split (other t) (others ts) h).1

abbrev rest : List Target → List Target
rest [] = []
rest (t ∷ ts) = ts

targets-at : (k : ℕ) → (k ≡ 2 → ⊥) → other (get_or targets k copied) ≡ true
unfolding targets other other_p others is_t code_t
targets-at zero a = refl
targets-at (suc zero) a = refl
targets-at (suc (suc zero)) a = absurd (a refl)
targets-at (suc (suc (suc k))) a = other_at (rest (rest (rest targets))) k refl

target-other : (s : ℕ) → eqb s NAME ≡ false → other (target s) ≡ true
unfolding target
target-other s a = either (ltb s SPAN) (λ e. rw (target, e) (unfold other in refl)) λ e. rw (target, e) (targets-at (s - SPAN) λ q. eqb-false s NAME a (omega (arith, ltb-false s SPAN e)))

place_other : (L : ℕ → Type 0) (p : Place) (n : ℕ) → other_p p ≡ true → Allowed L p n
unfolding other_p
place_other L (table t) n h = a_record (not-true (is_t t names) h)
place_other L own n h = an_own
place_other L function n h = a-function

refs-other : (L : ℕ → Type 0) (t : Target) (w : ℕ) → other t ≡ true → Alloweds L (ref_of t w [])
unfolding ref_of other
refs-other L copied w h = tt
refs-other L start w h = tt
refs-other L upto w h = tt
refs-other L (ref p) w h = (place_other L p w h, tt)
refs-other L (opt p) zero h = tt
refs-other L (opt p) (suc n) h = (place_other L p n h, tt)

first_ref : (s w : ℕ) (cs : Cells) → Alloweds (λ n. Mem n (names_in ((s, w) ∷ cs))) (ref_of (target s) w [])
first_ref s w cs = either (eqb s NAME) (λ e. named w e) λ e. refs-other _ (target s) w (target-other s e)
  where
    named : (w : ℕ) → eqb s NAME ≡ true → Alloweds (λ n. Mem n (names_in ((s, w) ∷ cs))) (ref_of (target s) w [])
    named w e = rw (eqb-true s NAME e) (unfold target targets in at w)
      where
        at : (w : ℕ) → Alloweds (λ n. Mem n (names_in ((NAME, w) ∷ cs))) (ref_of (opt (table names)) w [])
        at zero = unfold ref_of in tt
        at (suc n) = unfold ref_of in (a_name (name_cell NAME n cs refl), tt)

-- ALL REFERENCES of a record to names are to names that it has
pub refs_names : (r : Cells) → Alloweds (λ n. Mem n (names_in r)) (refs r)
unfolding refs
refs_names [] = tt
refs_names ((s, w) ∷ cs) = cons_all _ (target s) w (refs cs) (first_ref s w cs) (mores_allowed (λ n. behind-cell (s, w) cs) (refs cs) (refs_names cs))

pub refs-nameless : (L : ℕ → Type 0) (r : Cells) → names_in r ≡ [] → Alloweds L (refs r)
refs-nameless L r e = mores_allowed (λ n m. absurd (no_mem (rw e at m))) (refs r) (refs_names r)

-- and where references are in range, so are names
pub names_low : (T : Tables) (r : Cells) → TabsIn T (refs r) → (n : ℕ) → Mem n (names_in r) → n < count T names
unfolding refs
names_low T [] a n m = no_names m
names_low T ((s, w) ∷ cs) a n m = ⊎_elim (λ p. first p.0 (rw p.1 at a)) (λ k. names_low T cs (rest_of _ (target s) w (refs cs) a) n k) (cell-cases s w cs m)
  where
    low : TabIn T (table names) n → n < count T names
    low (in_table l) = l

    first : eqb s NAME ≡ true → TabsIn T (ref_of (target s) (suc n) (refs cs)) → n < count T names
    first e a = let b : TabsIn T (ref_of (target NAME) (suc n) (refs cs)) = rw (eqb-true s NAME e) at a in low (unfold target targets ref_of in b.0)
