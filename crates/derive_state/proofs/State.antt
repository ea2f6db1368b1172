-- The arrays as the model's state: one map more, one record more, and what interning a record does.
use Rattle.std.proofs.Common.{◌≡◌, ℕ, zero, suc, ◌+◌, ◌-◌, ◌*◌, ◌<◌, ◌≤◌, Bool, true, false, eqb, ◌⊎◌, List, [], ◌∷◌, ◌++◌, map, length, get_or, take, drop, set, sym, refl, ap, ◌∙◌, subst, ap₂, inl, inr, ⊎_elim, le_refl, not-suc-le-zero, add-one, arith, length-append, length-set, length-take-le, get_or-set_other, get_or-take, get_or-set_same, take-suc-set, take_at, drop_at, eqb-true}
use mathlib.Core.Bool.{false≢true}
use lib.ListN.{length-map, get_or-append}
use lib.Seq.{slice, sets, sets-eq, length-sets, take-set-le, take-set-lt, get_or-append_seam}
use borrow.Author.Tests.{eqb-false}
use Rattle.theory_lists.specs.Lists.{take_less}
use Rattle.theory_lists.specs.Booleans.{bool_same}
use Rattle.model.specs.Outcome.{Cells, class, word}
use Rattle.model.specs.Module.{Special, count_at}
use Rattle.model.specs.Between.{beside, between, Stretch}
use Rattle.model.specs.Carry.{carry_cell, carry_cells}
use Rattle.model.specs.Tables.{Tab, names, types, constants, overrides, globals, exprs, Six, code_t, is_t, at, upd, six, Tables, count, Maps}
use Rattle.model.specs.References.{target, targets, through, carry_w, first_word, undefined_at, moved, shift, alike, index_of, interned}
use Rattle.model.specs.Tree.{Function, flat, flat_entry}
use Rattle.model.specs.Table.{NAME}
use Rattle.model.specs.Carry.{each_none, each_next}
use Rattle.model.specs.Imports.{Derived, intern}
use Rattle.theory_records.specs.RecordLaws.{bare, alike_is, alike_self, bare-shift, length_shift, length-carry}
use Rattle.theory_records.specs.TableLaws.{Tab_dec, at_same, at_other, upd-at, at-six}
use Rattle.theory_image.specs.Betweens.{beside_cells}
use Rattle.intake_distinct.specs.Places.{mixed}
use Rattle.theory_image.specs.Quiet.{each_map}
use Rattle.derive_state.specs.Refers.{code_p, tab_of, went_r}
use Rattle.derive_state.specs.Flats.{function_of, entry_of, pairs_at, special_of}
use Rattle.derive_state.specs.Marks.{MARKS, SEVERAL, hash_r, place_r, Shows, alone, several, Marked, Marks, Left}
use Rattle.derive_state.specs.Held.{row, cell, put, rec_at, recs_at, table_of, recs_of, functions_of, entries_of, maps_of, st_of, size_r, size_s, sizes_of, words_of, Over, long, many, Named, Nameless, Apart, ValidArrays, Same, SameArrays, Beside, ImportEnsures, Written, carried_by}
use Rattle.derive_state.specs.Sizes.{Sizes}
use Rattle.derive_state.specs.declared.DerivedMut.{DerivedMut}
use Rattle.derive_state.proofs.Passes.{length-between}

-- ---- tables by their codes
pub code_tab : (t : ℕ) → t < 6 → code_t (tab_of t) ≡ t
unfolding tab_of code_t
code_tab zero h = refl
code_tab (suc zero) h = refl
code_tab (suc (suc zero)) h = refl
code_tab (suc (suc (suc zero))) h = refl
code_tab (suc (suc (suc (suc zero)))) h = refl
code_tab (suc (suc (suc (suc (suc zero))))) h = refl
code_tab (suc (suc (suc (suc (suc (suc t)))))) h = absurd (omega arith)

pub tab_code : (t : Tab) → tab_of (code_t t) ≡ t
unfolding tab_of code_t
tab_code names = refl
tab_code types = refl
tab_code constants = refl
tab_code overrides = refl
tab_code globals = refl
tab_code exprs = refl

pub code_low : (t : Tab) → code_t t < 6
unfolding code_t
code_low names = omega arith
code_low types = omega arith
code_low constants = omega arith
code_low overrides = omega arith
code_low globals = omega arith
code_low exprs = omega arith

code_other : (t : ℕ) (u : Tab) → (tab_of t ≡ u → ⊥) → code_t u ≡ t → ⊥
code_other t u ne e = ne (rw (← e) (tab_code u))

pub six_ext : {A : Type 0} (a b : Six A) → ((u : Tab) → at u a ≡ at u b) → a ≡ b
unfolding at
six_ext a b h i = record { of_names = h names i; of_types = h types i; of_constants = h constants i; of_overrides = h overrides i; of_globals = h globals i; of_exprs = h exprs i }

pub same_or : (a b : ℕ) → (a ≡ b) ⊎ (a ≡ b → ⊥)
same_or a b = go (eqb a b) refl
  where
    go : (x : Bool) → eqb a b ≡ x → (a ≡ b) ⊎ (a ≡ b → ⊥)
    go true q = inl (eqb-true a b q)
    go false q = inr (eqb-false a b q)

-- ---- an array of arrays
pub cell_same : (m : List (List ℕ)) (t i v : ℕ) → t < length m → i < length (row m t) → cell (put m t i v) t i ≡ v
cell_same m t i v ht hi = rw (get_or-set_same m t (set (get_or m t []) i v) [] ht) (get_or-set_same (get_or m t []) i v 0 hi)

pub cell_column : (m : List (List ℕ)) (t i j v : ℕ) → t < length m → (j ≡ i → ⊥) → cell (put m t i v) t j ≡ cell m t j
cell_column m t i j v ht ne = rw (get_or-set_same m t (set (get_or m t []) i v) [] ht) (get_or-set_other (get_or m t []) i j v 0 ne)

pub row_other : (m : List (List ℕ)) (t u i v : ℕ) → (u ≡ t → ⊥) → row (put m t i v) u ≡ row m u
row_other m t u i v ne = get_or-set_other m t u (set (get_or m t []) i v) [] ne

pub put-row : (m : List (List ℕ)) (t u i v : ℕ) → t < length m → length (row (put m t i v) u) ≡ length (row m u)
put-row m t u i v ht = ⊎_elim (λ (e : u ≡ t). rw (e, get_or-set_same m t (set (get_or m t []) i v) [] ht) (length-set (get_or m t []) i v)) (λ (ne : u ≡ t → ⊥). ap length (row_other m t u i v ne)) (same_or u t)

-- ---- one map more
pub maps-put : (words : List ℕ) (maps : List (List ℕ)) (t k v : ℕ) → t < 6 → length maps ≡ 6 → k < count_at t words
    → upd (tab_of t) (set (at (tab_of t) (maps_of words maps)) k v) (maps_of words maps) ≡ maps_of words (put maps t k v)
unfolding maps_of
maps-put words maps t k v ht hm hk = six_ext _ _ (λ u. go u (Tab_dec (tab_of t) u))
  where
    f : List (List ℕ) → Tab → List ℕ
    f m u = take (count_at (code_t u) words) (get_or m (code_t u) [])

    here : set (take (count_at (code_t (tab_of t)) words) (get_or maps (code_t (tab_of t)) [])) k v ≡ take (count_at (code_t (tab_of t)) words) (get_or (put maps t k v) (code_t (tab_of t)) [])
    here = rw (code_tab t ht, get_or-set_same maps t (set (get_or maps t []) k v) [] (omega arith)) (sym (take-set-lt (count_at t words) (get_or maps t []) k v hk))

    go : (u : Tab) → Dec (tab_of t ≡ u) → at u (upd (tab_of t) (set (at (tab_of t) (six (λ t. take (count_at (code_t t) words) (get_or maps (code_t t) [])))) k v) (six (λ t. take (count_at (code_t t) words) (get_or maps (code_t t) [])))) ≡ at u (six (λ u. take (count_at (code_t u) words) (get_or (put maps t k v) (code_t u) [])))
    go u (yes p) =
        rw (← p, at_same (tab_of t) (set (at (tab_of t) (six (λ t. take (count_at (code_t t) words) (get_or maps (code_t t) [])))) k v) (six (λ t. take (count_at (code_t t) words) (get_or maps (code_t t) []))), at-six (tab_of t) (λ t. take (count_at (code_t t) words) (get_or maps (code_t t) [])), at-six (tab_of t) (λ u. take (count_at (code_t u) words) (get_or (put maps t k v) (code_t u) []))) here
    go u (no ne) =
        rw (at_other (tab_of t) u (set (at (tab_of t) (six (λ t. take (count_at (code_t t) words) (get_or maps (code_t t) [])))) k v) (six (λ t. take (count_at (code_t t) words) (get_or maps (code_t t) []))) ne, at-six u (λ t. take (count_at (code_t t) words) (get_or maps (code_t t) [])), at-six u (λ u. take (count_at (code_t u) words) (get_or (put maps t k v) (code_t u) [])), row_other maps t (code_t u) k v (code_other t u ne))

-- ---- the log below its end

pub same_refl : (loglen : ℕ) (log logtags : List ℕ) → Same loglen log logtags log logtags
same_refl loglen log logtags = record { words_same = refl; tags_same = refl }

pub same_then : (u v : ℕ) (log logtags log' logtags' log'' logtags'' : List ℕ) → u ≤ v → Same u log logtags log' logtags' → Same v log' logtags' log'' logtags'' → Same u log logtags log'' logtags''
same_then u v log logtags log' logtags' log'' logtags'' h a b = record {
  words_same = take_less u v log'' log' h b.words_same ∙ a.words_same;
  tags_same = take_less u v logtags'' logtags' h b.tags_same ∙ a.tags_same;
}

module _ (loglen : ℕ) (log logtags log' logtags' : List ℕ) (F : Same loglen log logtags log' logtags') where
  pub get_same : (s : ℕ) → s < loglen → get_or log' s 0 ≡ get_or log s 0
  get_same s h = sym (get_or-take loglen log' s 0 h) ∙ ap (λ (l : List ℕ). get_or l s 0) F.words_same ∙ get_or-take loglen log s 0 h

  pub rec-same : (s : ℕ) → s + suc (get_or log s 0) ≤ loglen → rec_at log' logtags' s ≡ rec_at log logtags s
  unfolding rec_at between
  rec-same s h =
      let g : get_or log' s 0 ≡ get_or log s 0 = get_same s (omega arith) in
      let a = take_less (suc s + get_or log s 0) loglen log' log (omega arith) F.words_same in
      let b = take_less (suc s + get_or log s 0) loglen logtags' logtags (omega arith) F.tags_same in
      rw (g, a, b)

  pub recs_same : (ss : List ℕ) → ((k : ℕ) → k < length ss → get_or ss k 0 + suc (get_or log (get_or ss k 0) 0) ≤ loglen) → recs_at log' logtags' ss ≡ recs_at log logtags ss
  unfolding recs_at
  recs_same [] h = refl
  recs_same (s ∷ ss) h = rw (rec-same s (h 0 (omega arith)), recs_same ss (λ k l. h (suc k) (omega arith)))

pub short : (n : ℕ) (ss : List ℕ) (k : ℕ) → k < length (take n ss) → k < n
short zero ss k h = h
short (suc n) [] k h = absurd (not-suc-le-zero h)
short (suc n) (x ∷ ss) zero h = omega arith
short (suc n) (x ∷ ss) (suc k) h = let r = short n ss k (omega arith) in omega arith

pub recs_append : (log logtags ss : List ℕ) (s : ℕ) → recs_at log logtags (ss ++ (s ∷ [])) ≡ recs_at log logtags ss ++ (rec_at log logtags s ∷ [])
unfolding recs_at
recs_append log logtags [] s = refl
recs_append log logtags (x ∷ ss) s = ap (λ (l : List Cells). rec_at log logtags x ∷ l) (recs_append log logtags ss s)

pub recs_long : (log logtags ss : List ℕ) → length (recs_at log logtags ss) ≡ length ss
unfolding recs_at
recs_long log logtags [] = refl
recs_long log logtags (s ∷ ss) = ap suc (recs_long log logtags ss)

pub recs_at_lem : (log logtags ss : List ℕ) (k : ℕ) → k < length ss → get_or (recs_at log logtags ss) k [] ≡ rec_at log logtags (get_or ss k 0)
unfolding recs_at
recs_at_lem log logtags [] k h = absurd (omega arith)
recs_at_lem log logtags (s ∷ ss) zero h = refl
recs_at_lem log logtags (s ∷ ss) (suc k) h = recs_at_lem log logtags ss k (omega arith)

-- ---- sizes
pub size_r-append : (cs : List Cells) (c : Cells) → size_r (cs ++ (c ∷ [])) ≡ size_r cs + suc (length c)
unfolding size_r
size_r-append [] c = omega arith
size_r-append (d ∷ ds) c = let h = size_r-append ds c in omega arith

-- a table replaced by another
pub size_upd : (t : Tab) (xs : List Cells) (T : Tables) → size_s (upd t xs T) + size_r (at t T) ≡ size_s T + size_r xs
unfolding size_s upd at is_t code_t
size_upd names xs T = omega arith
size_upd types xs T = omega arith
size_upd constants xs T = omega arith
size_upd overrides xs T = omega arith
size_upd globals xs T = omega arith
size_upd exprs xs T = omega arith

pub size_append : (t : Tab) (c : Cells) (T : Tables) → size_s (upd t (at t T ++ (c ∷ [])) T) ≡ size_s T + suc (length c)
size_append t c T = let a = size_upd t (at t T ++ (c ∷ [])) T in let b = size_r-append (at t T) c in omega arith

-- ---- merging
pub seat_low : (ds : List Cells) (c : Cells) → index_of ds c ≤ length ds
unfolding index_of
seat_low [] c = omega arith
seat_low (d ∷ ds) c = go (alike d c) (seat_low ds c)
  where
    go : (b : Bool) → index_of ds c ≤ length ds → elim b [ true ↦ 0 | false ↦ suc (index_of ds c) ] ≤ suc (length ds)
    go true h = omega arith
    go false h = omega arith

pub merged_old : (ds : List Cells) (c : Cells) → index_of ds c < length ds → interned ds c ≡ ds
unfolding index_of interned
merged_old [] c h = absurd (not-suc-le-zero h)
merged_old (d ∷ ds) c h = go (alike d c) h (merged_old ds c)
  where
    go : (b : Bool) → elim b [ true ↦ 0 | false ↦ suc (index_of ds c) ] < suc (length ds) → (index_of ds c < length ds → interned ds c ≡ ds) → elim b [ true ↦ d ∷ ds | false ↦ d ∷ interned ds c ] ≡ d ∷ ds
    go true l ih = refl
    go false l ih = ap (d ∷◌) (ih (omega arith))

pub merged-new : (ds : List Cells) (c : Cells) → length ds ≤ index_of ds c → interned ds c ≡ ds ++ (c ∷ [])
unfolding index_of interned
merged-new [] c h = refl
merged-new (d ∷ ds) c h = go (alike d c) h (merged-new ds c)
  where
    go : (b : Bool) → suc (length ds) ≤ elim b [ true ↦ 0 | false ↦ suc (index_of ds c) ] → (length ds ≤ index_of ds c → interned ds c ≡ ds ++ (c ∷ [])) → elim b [ true ↦ d ∷ ds | false ↦ d ∷ interned ds c ] ≡ d ∷ (ds ++ (c ∷ []))
    go true l ih = absurd (omega arith)
    go false l ih = ap (d ∷◌) (ih (omega arith))

-- spans do not count
alike_same : (d a c : Cells) → bare a ≡ bare c → alike d a ≡ alike d c
alike_same d a c q = bool_same (alike d a) (alike d c) (λ e. alike_self d c (alike_is d a e ∙ q)) (λ e. alike_self d a (alike_is d c e ∙ sym q))

seat_same : (ds : List Cells) (a c : Cells) → bare a ≡ bare c → index_of ds a ≡ index_of ds c
unfolding index_of
seat_same [] a c q = refl
seat_same (d ∷ ds) a c q = ap₂ (λ (b : Bool) (n : ℕ). elim b [ true ↦ 0 | false ↦ suc n ]) (alike_same d a c q) (seat_same ds a c q)

pub seat_shift : (ds : List Cells) (c : Cells) (o : ℕ) (u : Bool) → index_of ds (shift c o u) ≡ index_of ds c
seat_shift ds c o u = seat_same ds (shift c o u) c (bare-shift c o u)

-- ---- records of which no two are alike
-- the one that is alike is the first
pub apart-first : (ds : List Cells) (c : Cells) (j : ℕ) → Apart ds → j < length ds → alike (get_or ds j []) c ≡ true → j ≡ index_of ds c
apart-first ds c j A h a = sym (A j h) ∙ seat_same ds (get_or ds j []) c (alike_is (get_or ds j []) c a)

seat_before : (ds : List Cells) (c x : Cells) → index_of ds x < length ds → index_of (ds ++ (c ∷ [])) x ≡ index_of ds x
unfolding index_of
seat_before [] c x h = absurd (not-suc-le-zero h)
seat_before (d ∷ ds) c x h = go (alike d x) h (seat_before ds c x)
  where
    go : (b : Bool) → elim b [ true ↦ 0 | false ↦ suc (index_of ds x) ] < suc (length ds) → (index_of ds x < length ds → index_of (ds ++ (c ∷ [])) x ≡ index_of ds x)
        → ◌≡◌ {A = ℕ} (elim b [ true ↦ 0 | false ↦ suc (index_of (ds ++ (c ∷ [])) x) ]) (elim b [ true ↦ 0 | false ↦ suc (index_of ds x) ])
    go true l r = refl
    go false l r = ap suc (r (omega arith))

seat_behind : (ds : List Cells) (c : Cells) → index_of ds c ≡ length ds → index_of (ds ++ (c ∷ [])) c ≡ length ds
unfolding index_of
seat_behind [] c h = rw (index_of, alike_self c c refl)
seat_behind (d ∷ ds) c h = go (alike d c) h (seat_behind ds c)
  where
    go : (b : Bool) → elim b [ true ↦ 0 | false ↦ suc (index_of ds c) ] ≡ suc (length ds) → (index_of ds c ≡ length ds → index_of (ds ++ (c ∷ [])) c ≡ length ds)
        → elim b [ true ↦ 0 | false ↦ suc (index_of (ds ++ (c ∷ [])) c) ] ≡ suc (length ds)
    go true l r = absurd (omega arith)
    go false l r = ap suc (r (omega arith))

apart_more : (ds : List Cells) (c : Cells) → Apart ds → index_of ds c ≡ length ds → Apart (ds ++ (c ∷ []))
apart_more ds c A n k h =
    let l = length-append ds (c ∷ []) in
    ⊎_elim
    (λ (q : k ≡ length ds). rw (q, get_or-append_seam ds c [] []) (seat_behind ds c n))
    (λ (ne : k ≡ length ds → ⊥). let z : k < length ds = omega arith in let a = A k z in rw (get_or-append ds (c ∷ []) [] k z) (seat_before ds c (get_or ds k []) (omega arith) ∙ a))
    (same_or k (length ds))

-- ---- what is written after the end
take-sets : (vs l : List ℕ) (n i : ℕ) → n ≤ i → take n (sets l i vs) ≡ take n l
take-sets [] l n i h = refl
take-sets (v ∷ vs) l n i h = take-sets vs (set l i v) n (suc i) (omega arith) ∙ take-set-le n l i v h

get_d_sets : (vs l : List ℕ) (j i : ℕ) → j < i → get_or (sets l i vs) j 0 ≡ get_or l j 0
get_d_sets [] l j i h = refl
get_d_sets (v ∷ vs) l j i h = get_d_sets vs (set l i v) j (suc i) (omega arith) ∙ get_or-set_other l i j v 0 (λ e. omega arith)

slice-sets : (vs l : List ℕ) (i : ℕ) → i + length vs ≤ length l → slice i (i + length vs) (sets l i vs) ≡ vs
slice-sets vs l i h =
    let a = length-take-le i l (omega arith) in
    let b = length-append (take i l) vs in
    rw (sets-eq vs l i h, take_at (take i l ++ vs) (drop (i + length vs) l) (i + length vs) (omega arith), drop_at (take i l) vs i a)

module _ (log logtags log' logtags' : List ℕ) (loglen : ℕ) (c : Cells) (hl : length log ≡ 16384) (hl' : length logtags ≡ 16384) (fits : loglen + suc (length c) ≤ 16384) (v : ℕ) (hv : v ≡ length c)
    (W : Written c (loglen + 1) (set log loglen v) logtags log' logtags') where
  pub wrote-same : Same loglen log logtags log' logtags'
  wrote-same = record {
    words_same = ap (take loglen) W.words_are ∙ take-sets (map word c) (set log loglen v) loglen (loglen + 1) (omega arith) ∙ take-set-le loglen log loglen v (le_refl loglen);
    tags_same = ap (take loglen) W.tags_are ∙ take-sets (map class c) logtags loglen (loglen + 1) (omega arith);
  }

  pub wrote-log : length log' ≡ 16384
  wrote-log = ap length W.words_are ∙ length-sets (set log loglen v) (loglen + 1) (map word c) ∙ length-set log loglen v ∙ hl

  pub wrote_tags : length logtags' ≡ 16384
  wrote_tags = ap length W.tags_are ∙ length-sets logtags (loglen + 1) (map class c) ∙ hl'

  pub wrote_head : get_or log' loglen 0 ≡ length c
  wrote_head = ap (λ (l : List ℕ). get_or l loglen 0) W.words_are ∙ get_d_sets (map word c) (set log loglen v) loglen (loglen + 1) (omega arith) ∙ get_or-set_same log loglen v 0 (omega arith) ∙ hv

  pub wrote-rec : rec_at log' logtags' loglen ≡ c
  unfolding rec_at between
  wrote-rec =
      let a = length-map c word in
      let b = length-map c class in
      let l = length-set log loglen v in
      let p : slice (suc loglen) (suc loglen + length (map word c)) (sets (set log loglen v) (suc loglen) (map word c)) ≡ map word c = slice-sets (map word c) (set log loglen v) (suc loglen) (omega arith) in
      let q : slice (suc loglen) (suc loglen + length (map class c)) (sets logtags (suc loglen) (map class c)) ≡ map class c = slice-sets (map class c) logtags (suc loglen) (omega arith) in
      let x : log' ≡ sets (set log loglen v) (suc loglen) (map word c) = rw (add-one loglen) at W.words_are in
      let y : logtags' ≡ sets logtags (suc loglen) (map class c) = rw (add-one loglen) at W.tags_are in
      rw (wrote_head) (ap₂ beside (rw (y, ← b) q) (rw (x, ← a) p) ∙ beside_cells c)

-- ---- names, buckets
named_more : {m n : ℕ} → m ≤ n → {cs : Cells} → Named m cs → Named n cs
named_more h = each_map (λ c f e. let g = f e in omega arith)

-- buckets still show what they showed
pub marks_refl : (buckets : List ℕ) → length buckets ≡ MARKS → Marks buckets buckets
marks_refl buckets h = record { marks_long = h; others = λ p g u. u }

pub marks_then : (a b c : List ℕ) → Marks a b → Marks b c → Marks a c
marks_then a b c x y = record { marks_long = y.marks_long; others = λ p g u. y.others p g (x.others p g u) }

hash-alike : (t : ℕ) (a b : Cells) → bare a ≡ bare b → hash_r t a ≡ hash_r t b
unfolding hash_r
hash-alike t a b e = ap (λ (cs : Cells). mixed (map word cs) t) e

-- what a bucket shows
shows-only : (v k j : ℕ) → Shows v k → v ≡ suc j → (v ≡ SEVERAL → ⊥) → k ≡ j
shows-only v k j (alone e) q ne = omega arith
shows-only v k j (several e) q ne = absurd (ne e)

shows_some : (v k : ℕ) → Shows v k → v ≡ 0 → ⊥
shows_some v k (alone e) q = omega arith
shows_some v k (several e) q = omega arith

module _ (buckets : List ℕ) (p k : ℕ) (hp : p < MARKS) (hm : length buckets ≡ MARKS) where
  left_by : (v : ℕ) → Shows v k → ((g : ℕ) → Shows (get_or buckets p 0) g → Shows v g) → Left buckets p k (set buckets p v)
  left_by v own on = record {
    own = rw (get_or-set_same buckets p v 0 (omega arith)) own;
    stay = record { marks_long = length-set buckets p v ∙ hm; others = λ q g u. ⊎_elim (λ (e : q ≡ p). rw (e, get_or-set_same buckets p v 0 (omega arith)) (on g (rw e at u))) (λ (ne : q ≡ p → ⊥). rw (get_or-set_other buckets p q v 0 ne) u) (same_or q p) };
  }

  pub left_first : get_or buckets p 0 ≡ 0 → Left buckets p k (set buckets p (k + 1))
  left_first e = left_by (k + 1) (alone (add-one k)) (λ g u. absurd (shows_some (get_or buckets p 0) g u e))

  pub left_more : Left buckets p k (set buckets p 65535)
  left_more = left_by 65535 (several refl) (λ g u. several refl)

-- ---- the one record that may be alike
seat_none : (ds : List Cells) (c : Cells) → ((k : ℕ) → k < length ds → alike (get_or ds k []) c ≡ true → ⊥) → index_of ds c ≡ length ds
unfolding index_of
seat_none [] c h = refl
seat_none (d ∷ ds) c h = go (alike d c) refl (seat_none ds c (λ k l. h (suc k) (omega arith)))
  where
    go : (b : Bool) → alike d c ≡ b → index_of ds c ≡ length ds → elim b [ true ↦ 0 | false ↦ suc (index_of ds c) ] ≡ suc (length ds)
    go true e r = absurd (h 0 (omega arith) e)
    go false e r = ap suc r

seat_only : (ds : List Cells) (c : Cells) (j : ℕ) → j < length ds → alike (get_or ds j []) c ≡ true → ((k : ℕ) → k < length ds → alike (get_or ds k []) c ≡ true → k ≡ j) → index_of ds c ≡ j
unfolding index_of
seat_only [] c j l a h = absurd (omega arith)
seat_only (d ∷ ds) c zero l a h = ap (λ (b : Bool). elim b [ true ↦ 0 | false ↦ suc (index_of ds c) ]) a
seat_only (d ∷ ds) c (suc j) l a h = go (alike d c) refl (seat_only ds c j (omega arith) a (λ k q e. let z = h (suc k) (omega arith) e in omega arith))
  where
    go : (b : Bool) → alike d c ≡ b → index_of ds c ≡ j → elim b [ true ↦ 0 | false ↦ suc (index_of ds c) ] ≡ suc j
    go true e r = let z = h 0 (omega arith) e in absurd (omega arith)
    go false e r = ap suc r

pub pairs_long : (ws : List ℕ) (n i : ℕ) → length (pairs_at ws i n) ≡ n
unfolding pairs_at
pairs_long ws zero i = refl
pairs_long ws (suc n) i = ap suc (pairs_long ws n (2 + i))

-- ---- a kept state
module _ (log logtags : List ℕ) (starts maps : List (List ℕ)) (buckets : List ℕ) (e : Sizes) (K : ValidArrays log logtags starts maps buckets e) where
  pub table_long : (t : ℕ) → t < 8 → length (table_of log logtags starts e.counts t) ≡ get_or e.counts t 0
  table_long t ht =
      let r = K.rows t ht in
      let f = K.few t ht in
      recs_long log logtags (take (get_or e.counts t 0) (row starts t)) ∙ length-take-le (get_or e.counts t 0) (row starts t) (omega arith)

  pub table_at : (t k : ℕ) → t < 8 → k < get_or e.counts t 0 → get_or (table_of log logtags starts e.counts t) k [] ≡ rec_at log logtags (cell starts t k)
  table_at t k ht hk =
      let r = K.rows t ht in
      let f = K.few t ht in
      let l = length-take-le (get_or e.counts t 0) (row starts t) (omega arith) in
      recs_at_lem log logtags (take (get_or e.counts t 0) (row starts t)) k (omega arith) ∙ rw (get_or-take (get_or e.counts t 0) (row starts t) k 0 hk)

  module _ (t : ℕ) (ht : t < 6) where
    pub tab_is : at (tab_of t) (recs_of log logtags starts e.counts) ≡ table_of log logtags starts e.counts t
    unfolding recs_of
    tab_is = at-six (tab_of t) (λ t. table_of log logtags starts e.counts (code_t t)) ∙ rw (code_tab t ht)

    pub tab_long : length (at (tab_of t) (recs_of log logtags starts e.counts)) ≡ get_or e.counts t 0
    tab_long = ap length tab_is ∙ table_long t (omega arith)

    -- a record that is alike has its number in its bucket
    module _ (c : Cells) (p : ℕ) (hp : p ≡ place_r t c) where
      alike-shows : (k : ℕ) → k < length (table_of log logtags starts e.counts t) → alike (get_or (table_of log logtags starts e.counts t) k []) c ≡ true → Shows (get_or buckets p 0) k
      alike-shows k l a =
          let lt = table_long t (omega arith) in
          let at = table_at t k (omega arith) (omega arith) in
          let q = hash-alike t (rec_at log logtags (cell starts t k)) c (alike_is (rec_at log logtags (cell starts t k)) c (rw at at a)) in
          rw (hp, ← q) (K.marked t k ht (omega arith))

      pub sought_none : get_or buckets p 0 ≡ 0 → get_or e.counts t 0 ≡ index_of (table_of log logtags starts e.counts t) c
      sought_none z = sym (seat_none (table_of log logtags starts e.counts t) c (λ k l a. shows_some (get_or buckets p 0) k (alike-shows k l a) z) ∙ table_long t (omega arith))

      module _ (v j : ℕ) (hv : v ≡ get_or buckets p 0) (one : v ≡ suc j) (ne : v ≡ SEVERAL → ⊥) where
        only : (k : ℕ) → k < length (table_of log logtags starts e.counts t) → alike (get_or (table_of log logtags starts e.counts t) k []) c ≡ true → k ≡ j
        only k l a = shows-only v k j (rw hv (alike-shows k l a)) one ne

        pub sought_stale : get_or e.counts t 0 ≤ j → get_or e.counts t 0 ≡ index_of (table_of log logtags starts e.counts t) c
        sought_stale h =
            let lt = table_long t (omega arith) in
            sym (seat_none (table_of log logtags starts e.counts t) c (λ k l a. let z = only k l a in omega arith) ∙ lt)

        module _ (h : j < get_or e.counts t 0) (s : ℕ) (hs : s ≡ cell starts t j) (b : Bool) (hb : b ≡ alike (rec_at log logtags s) c) where
          pub sought_one : b ≡ true → j ≡ index_of (table_of log logtags starts e.counts t) c
          sought_one q =
              let lt = table_long t (omega arith) in
              sym (seat_only (table_of log logtags starts e.counts t) c j (omega arith) (rw (table_at t j (omega arith) h, ← hs) (sym hb ∙ q)) only)

          pub sought_other : b ≡ false → get_or e.counts t 0 ≡ index_of (table_of log logtags starts e.counts t) c
          sought_other q =
              let lt = table_long t (omega arith) in
              sym (seat_none (table_of log logtags starts e.counts t) c (λ k l a. let z = only k l a in false≢true (sym (sym hb ∙ q) ∙ rw (hs, ← table_at t j (omega arith) h, ← z) a)) ∙ lt)

  -- the words of the rows are those of the tables, functions and entry points
  pub sizes_are : sizes_of log logtags starts e.counts 8 ≡ size_s (recs_of log logtags starts e.counts) + (size_r (table_of log logtags starts e.counts 6) + size_r (table_of log logtags starts e.counts 7))
  unfolding sizes_of size_s recs_of six code_t
  sizes_are = omega arith

  pub words_are : (words special : List ℕ) → words_of (st_of words log logtags starts maps special e) + size_r (table_of log logtags starts e.counts 7) ≡ 23 + 2 * e.pairs + e.loglen
  unfolding words_of st_of special_of
  words_are words special =
      let p = pairs_long special e.pairs 3 in
      let s = sizes_are in
      let f = ap size_r K.flats in
      let u = K.size in
      omega arith

-- ---- what lies after the end is free
module _ (log logtags log' logtags' : List ℕ) (starts maps : List (List ℕ)) (buckets buckets' : List ℕ) (e : Sizes) (K : ValidArrays log logtags starts maps buckets e) (F : Same e.loglen log logtags log' logtags') (hl : length log' ≡ 16384) (hl' : length logtags' ≡ 16384) (M : Marks buckets buckets') where
  pub table_stays : (u : ℕ) → u < 8 → table_of log' logtags' starts e.counts u ≡ table_of log logtags starts e.counts u
  table_stays u hu = recs_same e.loglen log logtags log' logtags' F (take (get_or e.counts u 0) (row starts u))
      (λ k l. rw (get_or-take (get_or e.counts u 0) (row starts u) k 0 (short (get_or e.counts u 0) (row starts u) k l)) (K.within u k hu (short (get_or e.counts u 0) (row starts u) k l)))

  rec-stays : (t k : ℕ) → t < 8 → k < get_or e.counts t 0 → rec_at log' logtags' (cell starts t k) ≡ rec_at log logtags (cell starts t k)
  rec-stays t k ht hk = rec-same e.loglen log logtags log' logtags' F (cell starts t k) (K.within t k ht hk)

  recs_stay : recs_of log' logtags' starts e.counts ≡ recs_of log logtags starts e.counts
  unfolding recs_of
  recs_stay = six_ext _ _ (λ u. at-six u (λ t. table_of log' logtags' starts e.counts (code_t t)) ∙ table_stays (code_t u) (omega (arith, code_low u)) ∙ sym (at-six u (λ t. table_of log logtags starts e.counts (code_t t))))

  sizes_stay : (m : ℕ) → m ≤ 8 → sizes_of log' logtags' starts e.counts m ≡ sizes_of log logtags starts e.counts m
  unfolding sizes_of
  sizes_stay zero h = refl
  sizes_stay (suc m) h = ap₂ ◌+◌ (sizes_stay m (omega arith)) (ap size_r (table_stays m (omega arith)))

  pub st_stays : (words special : List ℕ) → st_of words log' logtags' starts maps special e ≡ st_of words log logtags starts maps special e
  unfolding st_of functions_of
  st_stays words special = rw (recs_stay, table_stays 6 (omega arith))

  pub kept-stays : ValidArrays log' logtags' starts maps buckets' e
  unfolding functions_of entries_of
  kept-stays = record {
    room = K.room;
    few = K.few;
    few_functions = K.few_functions;
    few_entries = K.few_entries;
    few_pairs = K.few_pairs;
    log_long = hl;
    tags_long = hl';
    marks_long = M.marks_long;
    starts_eight = K.starts_eight;
    maps-six = K.maps-six;
    counts_eight = K.counts_eight;
    rows = K.rows;
    rows' = K.rows';
    within = λ t k ht hk. let w = K.within t k ht hk in rw (get_same e.loglen log logtags log' logtags' F (cell starts t k) (omega arith)) w;
    size = sizes_stay 8 (omega arith) ∙ K.size;
    flats = rw (table_stays 6 (omega arith)) K.flats;
    flats' = rw (table_stays 7 (omega arith)) K.flats';
    named = λ t k ht hk. rw (rec-stays t k ht hk) (K.named t k ht hk);
    plain = λ k hk. rw (rec-stays 0 k (omega arith) hk) (K.plain k hk);
    apart = rw (table_stays 0 (omega arith)) K.apart;
    mapped = K.mapped;
    marked = λ t k ht hk. rw (rec-stays t k (omega arith) hk) (M.others _ _ (K.marked t k ht hk));
  }

-- ---- one number is mapped to a record
pub kept-point : (log logtags : List ℕ) (starts maps : List (List ℕ)) (buckets : List ℕ) (e : Sizes) → ValidArrays log logtags starts maps buckets e → (t i v : ℕ) → t < 6 → i < 512 → v ≤ get_or e.counts t 0 → ValidArrays log logtags starts (put maps t i v) buckets e
kept-point log logtags starts maps buckets e K t i v ht hi hv =
    let a = K.maps-six in
    record {
      room = K.room;
      few = K.few;
      few_functions = K.few_functions;
      few_entries = K.few_entries;
      few_pairs = K.few_pairs;
      log_long = K.log_long;
      tags_long = K.tags_long;
      marks_long = K.marks_long;
      starts_eight = K.starts_eight;
      maps-six = length-set maps t _ ∙ K.maps-six;
      counts_eight = K.counts_eight;
      rows = K.rows;
      rows' = λ u hu. put-row maps t u i v (omega arith) ∙ K.rows' u hu;
      within = K.within;
      size = K.size;
      flats = K.flats;
      flats' = K.flats';
      named = K.named;
      plain = K.plain;
      apart = K.apart;
      mapped = point;
      marked = K.marked;
    }
  where
    point : (u k : ℕ) → u < 6 → cell (put maps t i v) u k ≤ get_or e.counts u 0
    point u k hu =
        let a = K.maps-six in
        let r = K.rows' t ht in
        ⊎_elim
        (λ (q : u ≡ t). ⊎_elim
        (λ (ki : k ≡ i). rw (q, ki, cell_same maps t i v (omega arith) (omega arith)) hv)
        (λ (ne : k ≡ i → ⊥). rw (q, cell_column maps t i k v (omega arith) ne) (K.mapped t k ht))
        (same_or k i))
        (λ (ne : u ≡ t → ⊥). rw (row_other maps t u i v ne) (K.mapped u k hu))
        (same_or u t)

-- ---- one record more, in any row
-- what a record has to be to be in row t, after its records ds
pub record Joins (t n names : ℕ) (ds : List Cells) (c : Cells) (buckets : List ℕ) : Type 0 where
  pub few : n < 512
  pub few_functions : t ≡ 6 → n < 256
  pub few_entries : t ≡ 7 → n < 16
  pub named : Named names c
  pub plain : t ≡ 0 → Nameless c
  pub apart : t ≡ 0 → index_of ds c ≡ length ds
  pub marked : t < 6 → Marked buckets t n c
  pub flats : t ≡ 6 → flat (function_of c) ≡ c
  pub flats' : t ≡ 7 → flat_entry (entry_of c) ≡ c

map-append : {A B : Type 0} (f : A → B) (xs : List A) (x : A) → map f (xs ++ (x ∷ [])) ≡ map f xs ++ (f x ∷ [])
map-append f [] x = refl
map-append f (y ∷ ys) x = ap (f y ∷◌) (map-append f ys x)

module _ (log logtags log' logtags' : List ℕ) (starts maps : List (List ℕ)) (buckets buckets' : List ℕ) (e : Sizes) (K : ValidArrays log logtags starts maps buckets e) (F : Same e.loglen log logtags log' logtags') (hl : length log' ≡ 16384) (hl' : length logtags' ≡ 16384) (M : Marks buckets buckets')
    (t : ℕ) (ht : t < 8) (c : Cells) (rec : rec_at log' logtags' e.loglen ≡ c) (head : get_or log' e.loglen 0 ≡ length c) (fits : 23 + 2 * e.pairs + (e.loglen + suc (length c)) ≤ 16384) (few : get_or e.counts t 0 < 512) where
  abbrev n : ℕ
  n = get_or e.counts t 0

  abbrev starts⁺ : List (List ℕ)
  starts⁺ = put starts t (get_or e.counts t 0) e.loglen

  abbrev counts⁺ : List ℕ
  counts⁺ = set e.counts t (get_or e.counts t 0 + 1)

  abbrev E : Sizes
  E = record { full = false; loglen = e.loglen + suc (length c); counts = set e.counts t (get_or e.counts t 0 + 1); pairs = e.pairs; exprtop = e.exprtop; bodytop = e.bodytop; made = e.made }

  stays : (u : ℕ) → u < 8 → table_of log' logtags' starts e.counts u ≡ table_of log logtags starts e.counts u
  stays u hu = table_stays log logtags log' logtags' starts maps buckets buckets' e K F hl hl' M u hu

  pub table_more : table_of log' logtags' starts⁺ counts⁺ t ≡ table_of log logtags starts e.counts t ++ (c ∷ [])
  table_more =
      let a = K.starts_eight in
      let b = K.counts_eight in
      let r = K.rows t ht in
      rw (get_or-set_same e.counts t (n + 1) 0 (omega arith), get_or-set_same starts t (set (get_or starts t []) n e.loglen) [] (omega arith), add-one n, take-suc-set (get_or starts t []) n e.loglen (omega arith), recs_append log' logtags' (take n (row starts t)) e.loglen, rec, stays t ht)

  pub table_same : (u : ℕ) → u < 8 → (u ≡ t → ⊥) → table_of log' logtags' starts⁺ counts⁺ u ≡ table_of log logtags starts e.counts u
  table_same u hu ne = rw (get_or-set_other e.counts t u (n + 1) 0 ne, row_other starts t u n e.loglen ne, stays u hu)

  pub recs_are : t < 6 → upd (tab_of t) (at (tab_of t) (recs_of log logtags starts e.counts) ++ (c ∷ [])) (recs_of log logtags starts e.counts) ≡ recs_of log' logtags' starts⁺ counts⁺
  unfolding recs_of
  recs_are h6 = six_ext _ _ (λ u. go u (Tab_dec (tab_of t) u))
    where
      T : Tables
      T = recs_of log logtags starts e.counts

      old : Tab → List Cells
      old u = table_of log logtags starts e.counts (code_t u)

      new : Tab → List Cells
      new u = table_of log' logtags' starts⁺ counts⁺ (code_t u)

      here : table_of log logtags starts e.counts t ++ (c ∷ []) ≡ table_of log' logtags' starts⁺ counts⁺ (code_t (tab_of t))
      here = rw (code_tab t h6) (sym table_more)

      go : (u : Tab) → Dec (tab_of t ≡ u) → at u (upd (tab_of t) (at (tab_of t) (recs_of log logtags starts e.counts) ++ (c ∷ [])) (recs_of log logtags starts e.counts)) ≡ at u (six (λ u. table_of log' logtags' starts⁺ counts⁺ (code_t u)))
      go u (yes p) = rw (← p, at_same (tab_of t) (at (tab_of t) (recs_of log logtags starts e.counts) ++ (c ∷ [])) (recs_of log logtags starts e.counts), at-six (tab_of t) (λ u. table_of log' logtags' starts⁺ counts⁺ (code_t u)), tab_is log logtags starts maps buckets e K t h6) here
      go u (no ne) = at_other (tab_of t) u (at (tab_of t) (recs_of log logtags starts e.counts) ++ (c ∷ [])) (recs_of log logtags starts e.counts) ne ∙ at-six u (λ t. table_of log logtags starts e.counts (code_t t)) ∙ sym (at-six u (λ u. table_of log' logtags' starts⁺ counts⁺ (code_t u)) ∙ table_same (code_t u) (omega (arith, code_low u)) (code_other t u ne))

  sizes-same : (m : ℕ) → m ≤ t → sizes_of log' logtags' starts⁺ counts⁺ m ≡ sizes_of log logtags starts e.counts m
  unfolding sizes_of
  sizes-same zero h = refl
  sizes-same (suc m) h = ap₂ ◌+◌ (sizes-same m (omega arith)) (ap size_r (table_same m (omega arith) (λ q. omega arith)))

  sizes-more : (m : ℕ) → t < m → m ≤ 8 → sizes_of log' logtags' starts⁺ counts⁺ m ≡ sizes_of log logtags starts e.counts m + suc (length c)
  unfolding sizes_of
  sizes-more zero h l = absurd (omega arith)
  sizes-more (suc m) h l = ⊎_elim
      (λ (q : m ≡ t). let a = sizes-same t (omega arith) in let b = ap size_r table_more ∙ size_r-append (table_of log logtags starts e.counts t) c in rw q (omega arith))
      (λ (ne : m ≡ t → ⊥). let a = sizes-more m (omega arith) (omega arith) in let b = ap size_r (table_same m (omega arith) ne) in omega arith)
      (same_or m t)

  module _ (J : Joins t (get_or e.counts t 0) (get_or e.counts 0 0) (table_of log logtags starts e.counts t) c buckets') where
    count-up : (u : ℕ) → u < 8 → get_or e.counts u 0 ≤ get_or counts⁺ u 0
    count-up u hu =
        let b = K.counts_eight in
        ⊎_elim (λ (q : u ≡ t). rw (q, get_or-set_same e.counts t (n + 1) 0 (omega arith)) (omega arith)) (λ (ne : u ≡ t → ⊥). rw (get_or-set_other e.counts t u (n + 1) 0 ne) (le_refl _)) (same_or u t)

    -- below a bound
    count_low : (u m : ℕ) → u < 8 → (u ≡ t → n < m) → get_or e.counts u 0 ≤ m → get_or counts⁺ u 0 ≤ m
    count_low u m hu h l =
        let b = K.counts_eight in
        ⊎_elim (λ (q : u ≡ t). let z = h q in rw (q, get_or-set_same e.counts t (n + 1) 0 (omega arith)) (omega arith)) (λ (ne : u ≡ t → ⊥). rw (get_or-set_other e.counts t u (n + 1) 0 ne) l) (same_or u t)

    -- of each record: an old one, or the new one
    each_rec : (P : ℕ → ℕ → ℕ → Type 0) → ((u k : ℕ) → u < 8 → k < get_or e.counts u 0 → P u k (cell starts u k)) → P t n e.loglen → (u k : ℕ) → u < 8 → k < get_or counts⁺ u 0 → P u k (cell starts⁺ u k)
    each_rec P old new u k hu hk =
        let a = K.starts_eight in
        let b = K.counts_eight in
        let r = K.rows t ht in
        ⊎_elim
        (λ (q : u ≡ t). let hk' : k < n + 1 = rw (q, get_or-set_same e.counts t (n + 1) 0 (omega arith)) at hk in
        ⊎_elim
        (λ (kn : k ≡ n). rw (q, kn, cell_same starts t n e.loglen (omega arith) (omega arith)) new)
        (λ (ne : k ≡ n → ⊥). rw (q, cell_column starts t n k e.loglen (omega arith) ne) (old t k ht (omega arith)))
        (same_or k n))
        (λ (ne : u ≡ t → ⊥). rw (row_other starts t u n e.loglen ne) (old u k hu (rw (get_or-set_other e.counts t u (n + 1) 0 ne) at hk)))
        (same_or u t)

    rec_old : (u k : ℕ) → u < 8 → k < get_or e.counts u 0 → rec_at log' logtags' (cell starts u k) ≡ rec_at log logtags (cell starts u k)
    rec_old u k hu hk = rec-same e.loglen log logtags log' logtags' F (cell starts u k) (K.within u k hu hk)

    flats_new : map flat (map function_of (table_of log' logtags' starts⁺ counts⁺ 6)) ≡ table_of log' logtags' starts⁺ counts⁺ 6
    unfolding functions_of
    flats_new = ⊎_elim
        (λ (q : 6 ≡ t). rw (q, table_more, map-append function_of (table_of log logtags starts e.counts t) c, map-append flat (map function_of (table_of log logtags starts e.counts t)) (function_of c), J.flats (sym q)) (rw (← q) (ap (λ (l : List Cells). l ++ (c ∷ [])) K.flats)))
        (λ (ne : 6 ≡ t → ⊥). rw (table_same 6 (omega arith) ne) K.flats)
        (same_or 6 t)

    flats_new' : map flat_entry (map entry_of (table_of log' logtags' starts⁺ counts⁺ 7)) ≡ table_of log' logtags' starts⁺ counts⁺ 7
    unfolding entries_of
    flats_new' = ⊎_elim
        (λ (q : 7 ≡ t). rw (q, table_more, map-append entry_of (table_of log logtags starts e.counts t) c, map-append flat_entry (map entry_of (table_of log logtags starts e.counts t)) (entry_of c), J.flats' (sym q)) (rw (← q) (ap (λ (l : List Cells). l ++ (c ∷ [])) K.flats')))
        (λ (ne : 7 ≡ t → ⊥). rw (table_same 7 (omega arith) ne) K.flats')
        (same_or 7 t)

    apart-new : Apart (table_of log' logtags' starts⁺ counts⁺ 0)
    apart-new = ⊎_elim
        (λ (q : 0 ≡ t). subst (λ (u : ℕ). Apart (table_of log' logtags' starts⁺ counts⁺ u)) (sym q)
        (rw table_more (apart_more (table_of log logtags starts e.counts t) c (subst (λ (u : ℕ). Apart (table_of log logtags starts e.counts u)) q K.apart) (J.apart (sym q)))))
        (λ (ne : 0 ≡ t → ⊥). rw (table_same 0 (omega arith) ne) K.apart)
        (same_or 0 t)

    pub kept_more : ValidArrays log' logtags' starts⁺ maps buckets' E
    unfolding functions_of entries_of
    kept_more =
        let a = K.starts_eight in
        let s = K.size in
        let z = sizes-more 8 ht (omega arith) in
        record {
          room = fits;
          few = λ u hu. count_low u 512 hu (λ q. J.few) (K.few u hu);
          few_functions = count_low 6 256 (omega arith) (λ q. J.few_functions (sym q)) K.few_functions;
          few_entries = count_low 7 16 (omega arith) (λ q. J.few_entries (sym q)) K.few_entries;
          few_pairs = K.few_pairs;
          log_long = hl;
          tags_long = hl';
          marks_long = M.marks_long;
          starts_eight = length-set starts t _ ∙ K.starts_eight;
          maps-six = K.maps-six;
          counts_eight = length-set e.counts t _ ∙ K.counts_eight;
          rows = λ u hu. put-row starts t u n e.loglen (omega arith) ∙ K.rows u hu;
          rows' = K.rows';
          within = each_rec (λ u k s. s + suc (get_or log' s 0) ≤ e.loglen + suc (length c)) (λ u k hu hk. let w = K.within u k hu hk in let g = get_same e.loglen log logtags log' logtags' F (cell starts u k) (omega arith) in omega arith) (omega arith);
          size = z ∙ rw s refl;
          flats = flats_new;
          flats' = flats_new';
          named = each_rec (λ u k s. Named (get_or counts⁺ 0 0) (rec_at log' logtags' s)) (λ u k hu hk. rw (rec_old u k hu hk) (named_more (count-up 0 (omega arith)) (K.named u k hu hk))) (rw rec (named_more (count-up 0 (omega arith)) J.named));
          plain = λ k hk. each_rec (λ u k s. u ≡ 0 → Nameless (rec_at log' logtags' s)) (λ u k hu hk q. rw (rec_old u k hu hk, q) (K.plain k (rw q at hk))) (λ q. rw rec (J.plain q)) 0 k (omega arith) hk refl;
          apart = apart-new;
          mapped = λ u k hu. let m = K.mapped u k hu in let g = count-up u (omega arith) in omega arith;
          marked = λ u k hu hk. each_rec (λ u k s. u < 6 → Marked buckets' u k (rec_at log' logtags' s)) (λ u k hu hk h6. rw (rec_old u k hu hk) (M.others _ _ (K.marked u k h6 hk))) (λ h6. rw rec (J.marked h6)) u k (omega arith) hk hu;
        }

-- ---- what a record becomes has the names that were mapped
by_name : (maps : List (List ℕ)) (n : ℕ) → ((k : ℕ) → cell maps 0 k ≤ n) → (w : ℕ) → through (went_r maps) NAME w ≤ n
unfolding through target targets carry_w went_r code_p code_t
by_name maps n h zero = omega arith
by_name maps n h (suc w) = h w

carried-named : (maps : List (List ℕ)) (n : ℕ) → ((k : ℕ) → cell maps 0 k ≤ n) → (cs : Cells) → Named n (carry_cells (through (went_r maps)) cs)
unfolding carry_cell
carried-named maps n h [] = each_none
carried-named maps n h ((s, w) ∷ cs) = each_next one (carried-named maps n h cs)
  where
    one : s ≡ NAME → through (went_r maps) s w ≤ n
    one e = rw e (by_name maps n h w)

moved_name : (w o : ℕ) (u : Bool) → moved (target NAME) w o u ≡ w
unfolding moved target targets
moved_name w o u = refl

shift-named : (n : ℕ) {cs : Cells} → Named n cs → (o : ℕ) (u : Bool) → Named n (shift cs o u)
unfolding shift
shift-named n each_none o u = each_none
shift-named n (each_next {a = c} {l = cs} f q) o u =
    each_next {a = (class c, moved (target (class c)) (word c) o (undefined_at (target (class c)) (word c) (first_word cs) u))} (λ e. rw (e, moved_name (word c) o (undefined_at (target NAME) (word c) (first_word cs) u)) (f e)) (shift-named n q o (undefined_at (target (class c)) (word c) (first_word cs) u))

shift-nameless : {cs : Cells} → Nameless cs → (o : ℕ) (u : Bool) → Nameless (shift cs o u)
unfolding shift
shift-nameless each_none o u = each_none
shift-nameless (each_next {a = c} {l = cs} f q) o u = each_next f (shift-nameless q o (undefined_at (target (class c)) (word c) (first_word cs) u))

carried-nameless : (m : ℕ → ℕ → ℕ) {cs : Cells} → Nameless cs → Nameless (carry_cells m cs)
unfolding carry_cell
carried-nameless m each_none = each_none
carried-nameless m (each_next f q) = each_next f (carried-nameless m q)

hash-shift : (t : ℕ) (c : Cells) (o : ℕ) (u : Bool) → hash_r t (shift c o u) ≡ hash_r t c
hash-shift t c o u = hash-alike t (shift c o u) c (bare-shift c o u)

-- ---- interning
module _ (words tags₀ log logtags : List ℕ) (starts maps : List (List ℕ)) (buckets : List ℕ) (e : Sizes) (nf : e.full ≡ false) (K : ValidArrays log logtags starts maps buckets e) (t k at₀ end o : ℕ) (ht : t < 6) (hk : k < count_at t words) (hk' : k < 512) (st : Stretch words tags₀ at₀ end)
    (pl : t ≡ 0 → Nameless (between tags₀ words at₀ end)) (j : ℕ) (So : j ≡ index_of (table_of log logtags starts e.counts t) (carried_by (went_r maps) tags₀ words at₀ end)) where
  abbrev C : Cells
  C = shift (carried_by (went_r maps) tags₀ words at₀ end) o false

  abbrev T : Tables
  T = recs_of log logtags starts e.counts

  abbrev S : List ℕ → Derived
  S special = st_of words log logtags starts maps special e

  pub c_long : length C ≡ end - at₀
  unfolding carried_by
  c_long =
      length_shift (carried_by (went_r maps) tags₀ words at₀ end) o false ∙ length-carry (through (went_r maps)) (between tags₀ words at₀ end) ∙ length-between tags₀ words at₀ end st.in_tags st.in_words

  seat_is : index_of (at (tab_of t) (recs_of log logtags starts e.counts)) C ≡ j
  seat_is = seat_shift (at (tab_of t) (recs_of log logtags starts e.counts)) (carried_by (went_r maps) tags₀ words at₀ end) o false ∙ rw (tab_is log logtags starts maps buckets e K t ht) (sym So)

  same_beside : Beside starts starts e e
  same_beside = record { functions_same = (refl, refl); entries_same = (refl, refl); pairs-same = refl; tops_same = (refl, refl, refl) }

  pub settle_old : j < get_or e.counts t 0 → ImportEnsures words (intern (tab_of t) k C) log logtags starts maps buckets e e log logtags starts (put maps t k (j + 1)) buckets
  unfolding intern st_of
  settle_old h =
      let l = tab_long log logtags starts maps buckets e K t ht in
      let s = seat_is in
      let m = merged_old (at (tab_of t) (recs_of log logtags starts e.counts)) C (omega arith) in
      record {
        over = λ q. absurd (false≢true (sym nf ∙ q));
        is = λ q special. st_is (rw m (upd-at (tab_of t) (recs_of log logtags starts e.counts))) (rw (s, ← add-one j) (maps-put words maps t k (j + 1) ht K.maps-six hk));
        kept = λ q. kept-point log logtags starts maps buckets e K t k (j + 1) ht hk' (omega arith);
        beside = λ q. same_beside;
        more = λ q. le_refl _;
        below = same_refl e.loglen log logtags;
        log_long = K.log_long;
        tags_long = K.tags_long;
        marks_stay = marks_refl buckets K.marks_long;
      }
    where
      st_is : {R R' : Tables} {M M' : Maps} {fs : List Function} {sp : Special} → R ≡ R' → M ≡ M' → ◌≡◌ {A = Derived} (record { recs = R; maps = M; functions = fs; special = sp }) (record { recs = R'; maps = M'; functions = fs; special = sp })
      st_is {fs} {sp} a b = ap₂ (λ (r : Tables) (m : Maps). record { recs = r; maps = m; functions = fs; special = sp }) a b

  module _ (h : get_or e.counts t 0 ≤ j) where
    new_is : interned (at (tab_of t) (recs_of log logtags starts e.counts)) C ≡ at (tab_of t) (recs_of log logtags starts e.counts) ++ (C ∷ [])
    new_is = let l = tab_long log logtags starts maps buckets e K t ht in let s = seat_is in merged-new (at (tab_of t) (recs_of log logtags starts e.counts)) C (omega arith)

    full_lands : (r : Sizes) → r.full ≡ true → ((special : List ℕ) → Over (size_r (table_of log logtags starts e.counts 7)) (intern (tab_of t) k C (S special))) → ImportEnsures words (intern (tab_of t) k C) log logtags starts maps buckets e r log logtags starts maps buckets
    full_lands r q x = record { over = λ _. x; is = λ z. absurd (false≢true (sym z ∙ q)); kept = λ z. absurd (false≢true (sym z ∙ q)); beside = λ z. absurd (false≢true (sym z ∙ q)); more = λ z. absurd (false≢true (sym z ∙ q)); below = same_refl e.loglen log logtags; log_long = K.log_long; tags_long = K.tags_long; marks_stay = marks_refl buckets K.marks_long }

    pub settle_many : get_or e.counts t 0 ≡ 512 → (r : Sizes) → r.full ≡ true → ImportEnsures words (intern (tab_of t) k C) log logtags starts maps buckets e r log logtags starts maps buckets
    unfolding intern st_of count
    settle_many q r f =
        let l = tab_long log logtags starts maps buckets e K t ht in
        full_lands r f
        (λ special. many (tab_of t)
        (rw (at_same (tab_of t) (interned (at (tab_of t) (recs_of log logtags starts e.counts)) C) (recs_of log logtags starts e.counts), new_is, length-append (at (tab_of t) (recs_of log logtags starts e.counts)) (C ∷ [])) (omega arith)))

    pub settle_long : (room : ℕ) → room + (23 + 2 * e.pairs + e.loglen) ≡ 16384 → room < 1 + (end - at₀) → (r : Sizes) → r.full ≡ true → ImportEnsures words (intern (tab_of t) k C) log logtags starts maps buckets e r log logtags starts maps buckets
    unfolding intern st_of words_of
    settle_long room hr q r f =
        let c = c_long in
        full_lands r f (λ special.
        let w = words_are log logtags starts maps buckets e K words special in
        long (rw (new_is, size_append (tab_of t) C (recs_of log logtags starts e.counts)) (omega arith)))

    module _ (ne : get_or e.counts t 0 ≡ 512 → ⊥) (room : ℕ) (hr : room + (23 + 2 * e.pairs + e.loglen) ≡ 16384) (q : 1 + (end - at₀) ≤ room) (log' logtags' : List ℕ) (W : Written C (e.loglen + 1) (set log e.loglen (end - at₀)) logtags log' logtags') (p : ℕ) (hp : p ≡ place_r t (carried_by (went_r maps) tags₀ words at₀ end)) (buckets' : List ℕ) (Le : Left buckets p (get_or e.counts t 0) buckets') where
      fits : 23 + 2 * e.pairs + (e.loglen + suc (length C)) ≤ 16384
      fits = let c = c_long in omega arith

      wf : e.loglen + suc (length C) ≤ 16384
      wf = let z = fits in omega arith

      F : Same e.loglen log logtags log' logtags'
      F = wrote-same log logtags log' logtags' e.loglen C K.log_long K.tags_long wf (end - at₀) (sym c_long) W

      g : length log' ≡ 16384
      g = wrote-log log logtags log' logtags' e.loglen C K.log_long K.tags_long wf (end - at₀) (sym c_long) W

      g' : length logtags' ≡ 16384
      g' = wrote_tags log logtags log' logtags' e.loglen C K.log_long K.tags_long wf (end - at₀) (sym c_long) W

      rc : rec_at log' logtags' e.loglen ≡ C
      rc = wrote-rec log logtags log' logtags' e.loglen C K.log_long K.tags_long wf (end - at₀) (sym c_long) W

      hd : get_or log' e.loglen 0 ≡ length C
      hd = wrote_head log logtags log' logtags' e.loglen C K.log_long K.tags_long wf (end - at₀) (sym c_long) W

      few : get_or e.counts t 0 < 512
      few = let f = K.few t (omega arith) in omega arith

      none : index_of (table_of log logtags starts e.counts t) C ≡ length (table_of log logtags starts e.counts t)
      none =
          let s = seat_shift (table_of log logtags starts e.counts t) (carried_by (went_r maps) tags₀ words at₀ end) o false in
          let l = table_long log logtags starts maps buckets e K t (omega arith) in
          let b = seat_low (table_of log logtags starts e.counts t) C in
          omega arith

      joins : Joins t (get_or e.counts t 0) (get_or e.counts 0 0) (table_of log logtags starts e.counts t) C buckets'
      unfolding carried_by
      joins = record {
        few = few;
        few_functions = λ x. absurd (omega arith);
        few_entries = λ x. absurd (omega arith);
        named = shift-named _ (carried-named maps (get_or e.counts 0 0) (λ k. K.mapped 0 k (omega arith)) (between tags₀ words at₀ end)) o false;
        plain = λ x. shift-nameless (carried-nameless (through (went_r maps)) (pl x)) o false;
        apart = λ x. none;
        marked = λ x. rw (hash-shift t (carried_by (went_r maps) tags₀ words at₀ end) o false, ← hp) Le.own;
        flats = λ x. absurd (omega arith);
        flats' = λ x. absurd (omega arith);
      }

      pub settle_new : (r : Sizes) → r ≡ record { full = false; loglen = e.loglen + (1 + (end - at₀)); counts = set e.counts t (get_or e.counts t 0 + 1); pairs = e.pairs; exprtop = e.exprtop; bodytop = e.bodytop; made = e.made }
          → ImportEnsures words (intern (tab_of t) k C) log logtags starts maps buckets e r log' logtags' (put starts t (get_or e.counts t 0) e.loglen) (put maps t k (get_or e.counts t 0 + 1)) buckets'
      unfolding intern st_of functions_of
      settle_new r er =
          let c = c_long in
          let l = tab_long log logtags starts maps buckets e K t ht in
          let sl = seat_low (at (tab_of t) (recs_of log logtags starts e.counts)) C in
          let s = seat_is in
          let x : 1 + (end - at₀) ≡ suc (length C) = omega arith in
          let jn : j ≡ get_or e.counts t 0 = omega arith in
          let b = K.counts_eight in
          let ce = get_or-set_same e.counts t (get_or e.counts t 0 + 1) 0 (omega arith) in
          let er' : r ≡ record { full = false; loglen = e.loglen + suc (length C); counts = set e.counts t (get_or e.counts t 0 + 1); pairs = e.pairs; exprtop = e.exprtop; bodytop = e.bodytop; made = e.made } = rw x at er in
          rw er'
          (record {
            over = λ y. absurd (false≢true y);
            is = λ y special. st_is (rw new_is (recs_are log logtags log' logtags' starts maps buckets buckets' e K F g g' Le.stay t (omega arith) C rc hd fits few ht)) (rw (s, jn, ← add-one (get_or e.counts t 0)) (maps-put words maps t k (get_or e.counts t 0 + 1) ht K.maps-six hk)) (ap (map function_of) (sym (table_same log logtags log' logtags' starts maps buckets buckets' e K F g g' Le.stay t (omega arith) C rc hd fits few 6 (omega arith) (λ z. omega arith))));
            kept = λ y. kept-point log' logtags' (put starts t (get_or e.counts t 0) e.loglen) maps buckets' _ (kept_more log logtags log' logtags' starts maps buckets buckets' e K F g g' Le.stay t (omega arith) C rc hd fits few joins) t k (get_or e.counts t 0 + 1) ht hk' (rw ce (le_refl _));
            beside = λ y. record {
              functions_same = (row_other starts t 6 (get_or e.counts t 0) e.loglen (λ z. omega arith), get_or-set_other e.counts t 6 (get_or e.counts t 0 + 1) 0 (λ z. omega arith));
              entries_same = (row_other starts t 7 (get_or e.counts t 0) e.loglen (λ z. omega arith), get_or-set_other e.counts t 7 (get_or e.counts t 0 + 1) 0 (λ z. omega arith));
              pairs-same = refl;
              tops_same = (refl, refl, refl);
            };
            more = λ y. omega arith;
            below = F;
            log_long = g;
            tags_long = g';
            marks_stay = Le.stay;
          })
        where
          st_is : {R R' : Tables} {M M' : Maps} {fs fs' : List Function} {sp : Special} → R ≡ R' → M ≡ M' → fs ≡ fs' → ◌≡◌ {A = Derived} (record { recs = R; maps = M; functions = fs; special = sp }) (record { recs = R'; maps = M'; functions = fs'; special = sp })
          st_is {fs} {fs'} {sp} a b c i = record { recs = a i; maps = b i; functions = c i; special = sp }

-- ---- the arrays of the caller
pub arrays_same : (d : DerivedMut) → SameArrays d d
arrays_same d = record { log_same = refl; logtags_same = refl; starts_same = refl; maps_same = refl; buckets_same = refl }

pub arrays_then : {d d' d'' : DerivedMut} → SameArrays d d' → SameArrays d' d'' → SameArrays d d''
arrays_then a b = record { log_same = b.log_same ∙ a.log_same; logtags_same = b.logtags_same ∙ a.logtags_same; starts_same = b.starts_same ∙ a.starts_same; maps_same = b.maps_same ∙ a.maps_same; buckets_same = b.buckets_same ∙ a.buckets_same }
