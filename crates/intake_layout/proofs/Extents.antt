-- The steps of laying out extents: one record, the records of a section, a section, the special types. What is left from here on is the whole.
use mathlib.Core.Path.{subst, ◌≡◌, refl, sym, ap, ◌∙◌}
use mathlib.Core.Bool.{Bool, true, false, ◌&&◌}
use mathlib.Core.List.{List, [], ◌∷◌, ◌++◌}
use Prim.Native.Nat.{ℕ, zero, suc, ◌+◌, ◌-◌, ◌≤◌, ◌<◌}
use native.Mathlib.Numerals.{add-one}
use native.Mathlib.Omega.{arith}
use lib.Dec.{eqb, leb}
use lib.ListN.{length, get_or, take, drop, replicate, length-map, length-append, length-replicate}
use lib.Seq.{slice, sets, slice-cons, slice_empty, length-slice, drop-drop, take-take}
use borrow.Author.Tests.{eq-eqb, ne_eqb, le-leb, lt-leb, eqb-true, leb-true, leb-false}
use Rattle.theory_lists.specs.Stores.{sets-append}
use Rattle.theory_lists.specs.Lists.{map-append}
use Rattle.theory_lists.specs.Booleans.{bool_same}
use Rattle.model.specs.Outcome.{Cells, class, Outcome, fits, misfit, unknown, Laid, laid, bad, strange, exact, both, map_l}
use Rattle.model.specs.Table.{PLACE}
use Rattle.model.specs.Tree.{flat_all, DEPTH}
use Rattle.model.specs.Module.{next, records, table, rays_row, pair_row}
use Rattle.intake_fields.specs.Parts.{Reader, join, times, pieces}
use Rattle.intake_fields.specs.Rows.{SIZE, RAYS_ROW, PAIR_ROW, row, row_at}
use Rattle.std.specs.Prelude.{Ok, Err}
use Rattle.std.proofs.Common.{◌⊎◌, inl, inr}
use Rattle.intake_fields.specs.Walks.{Walked, Final, next as next-final, refused as refused-final, stopped as stopped-final, seen, final, RowEnsures, filled, Fills}
use Rattle.intake_layout.specs.Extents.{Held, Classes, done, refused, odd, stopped, shown, ending, Covers, after, noted, classes, extent, records_left, table_classes, tabled, special_of, special}
use Rattle.intake_fields.specs.declared.Misread.{Misread}
use Rattle.intake_fields.specs.declared.Misread.TheVariants.{Misfit, Strange}
use Rattle.intake_fields.proofs.Reading.{Reads, reads, Reading, reads-pieces, reads_times, reads-join}
use Rattle.intake_fields.proofs.Walk.{Onto, Taken, taken, chain_err, chain_next}

-- ---- outcomes that a walk shows
-- what was read where a walk was stopped
pub lost : {A : Type 0} → Misread → Outcome A
lost Misfit = misfit
lost Strange = unknown

pub is_lost : (tags : List ℕ) (i end : ℕ) (r : Walked) (tags₁ : List ℕ) (o : Outcome Cells) → RowEnsures r tags₁ tags i end o → (e : Misread) → r ≡ Err e → o ≡ lost e
unfolding seen stopped-final final lost
is_lost tags i end r tags₁ o w e h = go o e (rw h at w.same)
  where
    go : (o : Outcome Cells) (e : Misread) → stopped-final e ≡ final tags i end o → o ≡ lost e
    go (fits cs ws) Misfit g = cc
    go (fits cs ws) Strange g = cc
    go misfit Misfit g = refl
    go misfit Strange g = cc
    go unknown Misfit g = cc
    go unknown Strange g = refl

exact-more : {A : Type 0} (a : A) (ws : List ℕ) → 0 < length ws → exact (fits a ws) ≡ bad
unfolding exact
exact-more a [] h = absurd (omega arith)
exact-more a (w ∷ ws) h = refl

-- ---- a walk over the whole of an extent
module _ (words tags : List ℕ) (at end : ℕ) (enough : end ≤ length words) (h : at ≤ end) (o : Outcome Cells) (rd : Reads (slice at end words) o) (r : Walked) (tags₁ : List ℕ) (got : RowEnsures r tags₁ tags at end o) where
  took : (i : ℕ) → r ≡ Ok i → Taken words tags at end tags₁ i o
  unfolding seen
  took i e = taken words tags at end enough h o rd tags₁ i (rw e at got.same)

  pub exact_fits : (i : ℕ) → r ≡ Ok i → i ≡ end → Covers (Ok tt) tags₁ tags at (map_l classes (exact o))
  unfolding shown ending map_l exact
  exact_fits i e z =
      let t = took i e in
      let k : o ≡ fits t.cells [] = t.is ∙ ap (λ ws. fits t.cells ws) (ap (λ j. slice j end words) z ∙ slice_empty end words) in
      record { same = rw k (ap done t.tagged) }

  pub exact-short : (i : ℕ) → r ≡ Ok i → (i ≡ end → ⊥) → Covers (Err Misfit) tags₁ tags at (map_l classes (exact o))
  unfolding shown stopped ending map_l
  exact-short i e n =
      let t = took i e in
      let l : 0 < length (slice i end words) = omega (arith, length-slice i end words enough, t.end-at, n) in
      let k : exact o ≡ bad = ap exact t.is ∙ exact-more t.cells (slice i end words) l in
      record { same = rw k }

  at_lost : (e : Misread) → stopped e ≡ ending tags at (map_l classes (exact (lost e)))
  unfolding stopped ending map_l exact lost
  at_lost Misfit = refl
  at_lost Strange = refl

  pub exact_err : (e : Misread) → r ≡ Err e → Covers (Err e) tags₁ tags at (map_l classes (exact o))
  unfolding shown
  exact_err e h = record { same = at_lost e ∙ ap (λ p. ending tags at (map_l classes (exact p))) (sym (is_lost tags at end r tags₁ o got e h)) }

pub covered : {r : Held} {tags₁ tags : List ℕ} {at : ℕ} (o p : Laid Classes) → o ≡ p → Covers r tags₁ tags at p → Covers r tags₁ tags at o
covered {r} {tags₁} {tags} {at} o p e c = record { same = c.same ∙ ap (ending tags at) (sym e) }

-- ---- one record
-- the front of a slice
take_none : (n : ℕ) → take {A = ℕ} n [] ≡ []
take_none zero = refl
take_none (suc n) = refl

front : (a e s : ℕ) (l : List ℕ) → a ≤ e → e ≤ s → take (e - a) (drop a (take s l)) ≡ drop a (take e l)
front zero e s l h k = let z : e - 0 ≡ e = omega arith in rw z (take-take e s l k)
front (suc a) zero s l h k = absurd (omega arith)
front (suc a) (suc e) zero l h k = absurd (omega arith)
front (suc a) (suc e) (suc s) [] h k = take_none (suc e - suc a)
front (suc a) (suc e) (suc s) (x ∷ l) h k = let z : suc e - suc a ≡ e - a = omega arith in rw z (front a e s l (omega arith) (omega arith))

pub slice_front : (words : List ℕ) (at end stop : ℕ) → at ≤ end → end ≤ stop → take (end - at) (slice at stop words) ≡ slice at end words
slice_front words at end stop h k = front at end stop words h k

pub slice_back : (words : List ℕ) (at end stop : ℕ) → at ≤ end → drop (end - at) (slice at stop words) ≡ slice end stop words
slice_back words at end stop h = let f : at + (end - at) ≡ end = omega arith in drop-drop (end - at) at (take stop words) ∙ ap (λ k. drop k (take stop words)) f

module _ (p : Reader) (words tags : List ℕ) (start at end stop : ℕ) where
  extent_bad : extent p start at end stop (slice at stop words) ≡ bad → Covers (Err Misfit) tags tags at (extent p start at end stop (slice at stop words))
  unfolding shown stopped ending
  extent_bad e = record { same = rw e }

  pub extent_out : (start ≡ at → ⊥) ⊎ (((start ≡ at) × (end < at)) ⊎ ((start ≡ at) × (at ≤ end) × (stop < end))) → Covers (Err Misfit) tags tags at (extent p start at end stop (slice at stop words))
  unfolding extent
  extent_out (inl n) = extent_bad (rw (extent, ne_eqb start at n))
  extent_out (inr (inl q)) = extent_bad (rw (extent, eq-eqb start at q.0, lt-leb at end q.1))
  extent_out (inr (inr q)) = extent_bad (rw (extent, eq-eqb start at q.0, le-leb at end q.1, lt-leb end stop q.2))

  module _ (e : start ≡ at) (h : at ≤ end) (k : end ≤ stop) where
    pub extent_is : extent p start at end stop (slice at stop words) ≡ map_l classes (exact (p (slice at end words)))
    unfolding extent
    extent_is = rw (extent, eq-eqb start at e, le-leb at end h, le-leb end stop k) (ap (λ ws. map_l classes (exact (p ws))) (slice_front words at end stop h k))

module _ (words tags : List ℕ) (start at end stop pc : ℕ) (enough : stop ≤ length words) (e : start ≡ at) (h : at ≤ end) (k : end ≤ stop) (r : Walked) (tags₁ : List ℕ) (got : RowEnsures r tags₁ tags at end (pieces 32 (row_at pc) (slice at end words))) where
  p : Reader
  p = pieces 32 (row_at pc)

  rd : Reads (slice at end words) (pieces 32 (row_at pc) (slice at end words))
  rd = reads-pieces 32 (row_at pc) (slice at end words)

  of_extent : {r : Held} → Covers r tags₁ tags at (map_l classes (exact (pieces 32 (row_at pc) (slice at end words)))) → Covers r tags₁ tags at (extent (pieces 32 (row_at pc)) start at end stop (slice at stop words))
  of_extent c = covered _ _ (extent_is (pieces 32 (row_at pc)) words tags start at end stop e h k) c

  pub record_fits : (i : ℕ) → r ≡ Ok i → i ≡ end → Covers (Ok tt) tags₁ tags at (extent (pieces 32 (row_at pc)) start at end stop (slice at stop words))
  record_fits i q z = of_extent (exact_fits words tags at end (omega arith) h _ rd r tags₁ got i q z)

  pub record_short : (i : ℕ) → r ≡ Ok i → (i ≡ end → ⊥) → Covers (Err Misfit) tags₁ tags at (extent (pieces 32 (row_at pc)) start at end stop (slice at stop words))
  record_short i q n = of_extent (exact-short words tags at end (omega arith) h _ rd r tags₁ got i q n)

  pub record_err : (f : Misread) → r ≡ Err f → Covers (Err f) tags₁ tags at (extent (pieces 32 (row_at pc)) start at end stop (slice at stop words))
  record_err f q = of_extent (exact_err words tags at end (omega arith) h _ rd r tags₁ got f q)

-- ---- one extent, and then the others
bad_first : (q : Laid Classes) → both {A = Classes} ◌++◌ bad q ≡ bad
unfolding both
bad_first (laid c) = refl
bad_first bad = refl
bad_first strange = refl

pub after_bad : (b : Bool) → after b bad ≡ bad
unfolding after
after_bad true = refl
after_bad false = refl

module _ (tags : List ℕ) (at : ℕ) (x : Laid Classes) (r : Held) (tags₁ : List ℕ) (got : Covers r tags₁ tags at x) (b : Bool) (rest : Laid Classes) where
  is_bad : (x : Laid Classes) → r ≡ Err Misfit → shown r tags₁ ≡ ending tags at x → x ≡ bad
  unfolding shown stopped ending
  is_bad (laid c) e g = let k : refused ≡ done _ = rw e at g in cc
  is_bad bad e g = refl
  is_bad strange e g = let k : refused ≡ odd = rw e at g in cc

  pub then_bad : r ≡ Err Misfit → refused ≡ ending tags at (after b (both ◌++◌ x rest))
  unfolding ending
  then_bad e = sym (ap (λ y. ending tags at (after b (both ◌++◌ y rest))) (is_bad x e got.same) ∙ ap (λ y. ending tags at (after b y)) (bad_first rest) ∙ ap (ending tags at) (after_bad b))

  is_strange : (x : Laid Classes) → r ≡ Err Strange → shown r tags₁ ≡ ending tags at x → x ≡ strange
  unfolding shown stopped ending
  is_strange (laid c) e g = let k : odd ≡ done _ = rw e at g in cc
  is_strange bad e g = let k : odd ≡ refused = rw e at g in cc
  is_strange strange e g = refl

  pub then_strange : r ≡ Err Strange → (k : ℕ) → ending tags₁ k (after true rest) ≡ ending tags at (after b (both ◌++◌ x rest))
  unfolding ending after both
  then_strange e k = sym (ap (λ y. ending tags at (after b (both ◌++◌ y rest))) (is_strange x e got.same) ∙ go b rest)
    where
      go : (b : Bool) (rest : Laid Classes) → ending tags at (after b (both ◌++◌ strange rest)) ≡ ending tags₁ k (after true rest)
      go true (laid c) = refl
      go true bad = refl
      go true strange = refl
      go false (laid c) = refl
      go false bad = refl
      go false strange = refl

  laid_is : (x : Laid Classes) → r ≡ Ok tt → shown r tags₁ ≡ ending tags at x → (k : ℕ) → ((cs : Classes) → x ≡ laid cs → at + length cs ≡ k) → ending tags₁ k (after b rest) ≡ ending tags at (after b (both ◌++◌ x rest))
  unfolding shown ending after both
  laid_is (laid c) e g k l =
      let t : done tags₁ ≡ done (sets tags at c) = rw e at g in
      let u : tags₁ ≡ sets tags at c = cc in
      go b rest u
    where
      go : (b : Bool) (rest : Laid Classes) → tags₁ ≡ sets tags at c → ending tags₁ k (after b rest) ≡ ending tags at (after b (both ◌++◌ (laid c) rest))
      go true (laid d) u = refl
      go true bad u = refl
      go true strange u = refl
      go false (laid d) u = ap done (ap (λ t. sets t k d) u ∙ ap (λ j. sets (sets tags at c) j d) (sym (l c refl)) ∙ sym (sets-append c tags at d))
      go false bad u = refl
      go false strange u = refl
  laid_is bad e g k l = let t : done tags₁ ≡ refused = rw e at g in cc
  laid_is strange e g k l = let t : done tags₁ ≡ odd = rw e at g in cc

  pub then_fits : r ≡ Ok tt → (k : ℕ) → ((cs : Classes) → x ≡ laid cs → at + length cs ≡ k) → ending tags₁ k (after b rest) ≡ ending tags at (after b (both ◌++◌ x rest))
  then_fits e k l = laid_is x e got.same k l

-- ---- where an extent is no misfit, its bounds hold, and what is laid fills it
module _ (p : Reader) (rd : Reading p) (words : List ℕ) (start at end stop : ℕ) (enough : stop ≤ length words) where
  pub record Bounds : Type 0 where
    pub starts : start ≡ at
    pub forth : at ≤ end
    pub within : end ≤ stop

  pub bounds : (extent p start at end stop (slice at stop words) ≡ bad → ⊥) → Bounds
  unfolding extent
  bounds n = go (eqb start at) refl (leb at end) refl (leb end stop) refl n
    where
      go : (a : Bool) → eqb start at ≡ a → (b : Bool) → leb at end ≡ b → (c : Bool) → leb end stop ≡ c → (◌≡◌ {A = Laid Classes} (elim (a && (b && c)) [ true ↦ map_l classes (exact (p (take (end - at) (slice at stop words)))) | false ↦ bad ]) bad → ⊥) → Bounds
      go true a true b true c n = record { starts = eqb-true start at a; forth = leb-true at end b; within = leb-true end stop c }
      go true a true b false c n = absurd (n refl)
      go true a false b c e n = absurd (n refl)
      go false a b e c f n = absurd (n refl)

  filled-length : (o : Outcome Cells) → Reads (slice at end words) o → at ≤ end → end ≤ stop → (cs : Classes) → map_l classes (exact o) ≡ laid cs → at + length cs ≡ end
  unfolding map_l exact
  filled-length (fits ds []) (reads e) h k cs q =
      let all : length ds + 0 ≡ length (slice at end words) = rw (length-append, length-map) at (sym (ap length e)) in
      let long = length-slice at end words (omega arith) in
      let same : cs ≡ classes ds = cc in
      let l : length cs ≡ length ds = ap length same ∙ length-map ds class in
      omega (arith, all, long, l, h)
  filled-length (fits ds (w ∷ ws)) r h k cs q = cc
  filled-length misfit r h k cs q = cc
  filled-length unknown r h k cs q = cc

  pub extent-length : (cs : Classes) → extent p start at end stop (slice at stop words) ≡ laid cs → at + length cs ≡ end
  extent-length cs q =
      let b : Bounds = bounds (λ e. cc) in
      filled-length (p (slice at end words)) (rd (slice at end words)) b.forth b.within cs (sym (extent_is p words words start at end stop b.starts b.forth b.within) ∙ q)

-- ---- the records of a section
abbrev pub all_classes : List Cells → Classes
all_classes rs = classes (flat_all rs)

both-classes : (x : Laid Cells) (y : Laid (List Cells)) → map_l all_classes (both ◌∷◌ x y) ≡ both ◌++◌ (map_l classes x) (map_l all_classes y)
unfolding map_l both flat_all
both-classes (laid a) (laid b) = ap laid (map-append class a (flat_all b))
both-classes (laid a) bad = refl
both-classes (laid a) strange = refl
both-classes bad (laid b) = refl
both-classes bad bad = refl
both-classes bad strange = refl
both-classes strange (laid b) = refl
both-classes strange bad = refl
both-classes strange strange = refl

module _ (p : Reader) (words : List ℕ) (base stop n : ℕ) where
  -- where record j ends
  abbrev pub ends : ℕ → ℕ
  ends j = base + next (slice (base + j + 1) (base + n) words) (stop - base)

  module _ (j at : ℕ) (enough : stop ≤ length words) (room : base + n ≤ stop) (h : j < n) (low : base ≤ at) where
    o : ℕ
    o = get_or words (base + j) 0

    os : List ℕ
    os = slice (base + j + 1) (base + n) words

    ws : List ℕ
    ws = slice at stop words

    e : ℕ
    e = next os (stop - base)

    offsets : slice (base + j) (base + n) words ≡ o ∷ os
    unfolding o os
    offsets = rw (add-one (base + j)) (slice-cons (base + j) (base + n) words 0 (omega arith) (omega arith))

    start_same : eqb o (at - base) ≡ eqb (base + o) at
    start_same = bool_same (eqb o (at - base)) (eqb (base + o) at) (λ q. eq-eqb (base + o) at (omega (arith, eqb-true o (at - base) q))) (λ q. eq-eqb o (at - base) (omega (arith, eqb-true (base + o) at q)))

    forth_same : leb (at - base) e ≡ leb at (base + e)
    forth_same = bool_same (leb (at - base) e) (leb at (base + e)) (λ q. le-leb at (base + e) (omega (arith, leb-true (at - base) e q))) (λ q. le-leb (at - base) e (omega (arith, leb-true at (base + e) q)))

    within_same : leb e (stop - base) ≡ leb (base + e) stop
    within_same = bool_same (leb e (stop - base)) (leb (base + e) stop) (λ q. le-leb (base + e) stop (omega (arith, leb-true e (stop - base) q))) (λ q. le-leb e (stop - base) (omega (arith, leb-true (base + e) stop q)))

    cut : e - (at - base) ≡ base + e - at
    cut = omega arith

    back_is : at ≤ base + e → drop (base + e - at) ws ≡ slice (base + e) stop words
    unfolding ws
    back_is f = slice_back words at (base + e) stop f

    os_is : os ≡ slice (base + (j + 1)) (base + n) words
    unfolding os
    os_is = let q : base + j + 1 ≡ base + (j + 1) = omega arith in ap (λ k. slice k (base + n) words) q

    left : Laid Classes
    left = records_left p words base stop n (j + 1) (base + e)

    chosen : (c : Bool) → c ≡ (eqb (base + o) at && (leb at (base + e) && leb (base + e) stop))
        → map_l all_classes (elim c [ true ↦ both ◌∷◌ (exact (p (take (e - (at - base)) ws))) (records p (stop - base) e os (drop (e - (at - base)) ws)) | false ↦ bad ])
        ≡ both ◌++◌ (elim c [ true ↦ map_l classes (exact (p (take (base + e - at) ws))) | false ↦ bad ]) left
    unfolding map_l left records_left
    chosen true q =
        let f : at ≤ base + e = forth in
        both-classes (exact (p (take (e - (at - base)) ws))) (records p (stop - base) e os (drop (e - (at - base)) ws))
        ∙ ap (λ k. both ◌++◌ (map_l classes (exact (p (take k ws)))) (map_l all_classes (records p (stop - base) e os (drop (e - (at - base)) ws)))) cut
        ∙ ap (λ l. both ◌++◌ (map_l classes (exact (p (take (base + e - at) ws)))) (map_l all_classes (records p (stop - base) e os l))) (ap (λ k. drop k ws) cut ∙ back f)
        ∙ ap (λ k. both ◌++◌ (map_l classes (exact (p (take (base + e - at) ws)))) (map_l all_classes (records p (stop - base) k os (slice (base + e) stop words)))) rel
        ∙ ap (λ l. both ◌++◌ (map_l classes (exact (p (take (base + e - at) ws)))) (map_l all_classes (records p (stop - base) (base + e - base) l (slice (base + e) stop words)))) same_os
      where
        and_second : (a b c : Bool) → true ≡ (a && (b && c)) → b ≡ true
        and_second true true c q = refl
        and_second true false c q = sym q
        and_second false b c q = cc

        forth : at ≤ base + e
        forth = leb-true at (base + e) (and_second (eqb (base + o) at) (leb at (base + e)) (leb (base + e) stop) q)

        back : at ≤ base + e → drop (base + e - at) ws ≡ slice (base + e) stop words
        back f = back_is f

        rel : e ≡ base + e - base
        rel = omega arith

        same_os : os ≡ slice (base + (j + 1)) (base + n) words
        same_os = os_is
    chosen false q = sym (bad_first left)

    tests_same : (eqb o (at - base) && (leb (at - base) e && leb e (stop - base))) ≡ (eqb (base + o) at && (leb at (base + e) && leb (base + e) stop))
    tests_same = rw (start_same, forth_same, within_same)

    pub records-step : records_left p words base stop n j at ≡ both ◌++◌ (extent p (base + get_or words (base + j) 0) at (ends j) stop (slice at stop words)) (records_left p words base stop n (j + 1) (ends j))
    unfolding records_left records extent o os ws e left
    records-step =
        ap (λ l. map_l all_classes (records p (stop - base) (at - base) l ws)) offsets
        ∙ chosen (eqb o (at - base) && (leb (at - base) e && leb e (stop - base))) tests_same
        ∙ ap {A = Bool} (λ c. both ◌++◌ (elim c [ true ↦ map_l classes (exact (p (take (base + e - at) ws))) | false ↦ bad ]) left) tests_same

-- ---- what is remembered
pub noted_err : (b : Bool) (r : Held) (e : Misread) → Err e ≡ noted b r → (r ≡ Err Misfit) × (e ≡ Misfit)
unfolding noted
noted_err b (Ok u) e g = cc
noted_err b (Err Misfit) e g = (refl, cc)
noted_err b (Err Strange) e g = cc

pub noted_ok : (P : Bool → Type 0) (b : Bool) (r : Held) (b' : Bool) → Ok b' ≡ noted b r → (r ≡ Ok tt → P b) → (r ≡ Err Strange → P true) → P b'
unfolding noted
noted_ok P b (Ok u) b' g good other = let z : b ≡ b' = cc in subst P z (good refl)
noted_ok P b (Err Misfit) b' g good other = cc
noted_ok P b (Err Strange) b' g good other = let z : true ≡ b' = cc in subst P z (other refl)

-- what the loop over records keeps
pub record Recording (words tags₀ : List ℕ) (base stop n pc : ℕ) (tags : List ℕ) (at j : ℕ) (b : Bool) : Type 0 where
  pub some_left : j ≤ n
  pub low : base ≤ at
  pub high : at ≤ stop
  pub same : ending tags at (after b (records_left (pieces 32 (row_at pc)) words base stop n j at)) ≡ ending tags₀ (base + n) (records_left (pieces 32 (row_at pc)) words base stop n 0 (base + n))

module _ (words tags₀ : List ℕ) (base stop n pc : ℕ) (room : base + n ≤ stop) (enough : stop ≤ length words) where
  pub records-begin : Recording words tags₀ base stop n pc tags₀ (base + n) 0 false
  unfolding after
  records-begin = record { some_left = omega arith; low = omega arith; high = room; same = refl }

  module _ (tags : List ℕ) (at j : ℕ) (b : Bool) (inv : Recording words tags₀ base stop n pc tags at j b) where
    module _ (h : j < n) (start end : ℕ) (is-start : start ≡ base + get_or words (base + j) 0) (is-end : end ≡ base + next (slice (base + j + 1) (base + n) words) (stop - base)) (r : Held) (tags₁ : List ℕ) (got : Covers r tags₁ tags at (extent (pieces 32 (row_at pc)) start at end stop (slice at stop words))) where
      stepped : records_left (pieces 32 (row_at pc)) words base stop n j at ≡ both ◌++◌ (extent (pieces 32 (row_at pc)) start at end stop (slice at stop words)) (records_left (pieces 32 (row_at pc)) words base stop n (j + 1) end)
      stepped = rw (is-start, is-end) (records-step (pieces 32 (row_at pc)) words base stop n j at enough room h inv.low)

      whole : ending tags at (after b (both ◌++◌ (extent (pieces 32 (row_at pc)) start at end stop (slice at stop words)) (records_left (pieces 32 (row_at pc)) words base stop n (j + 1) end))) ≡ ending tags₀ (base + n) (records_left (pieces 32 (row_at pc)) words base stop n 0 (base + n))
      whole = ap (λ o. ending tags at (after b o)) (sym stepped) ∙ inv.same

      pub records_bad : (e : Misread) → Err e ≡ noted b r → Covers (Err e) tags₁ tags₀ (base + n) (records_left (pieces 32 (row_at pc)) words base stop n 0 (base + n))
      unfolding shown stopped
      records_bad e g = let q = noted_err b r e g in rw q.1 (record { same = then_bad tags at _ r tags₁ got b (records_left (pieces 32 (row_at pc)) words base stop n (j + 1) end) q.0 ∙ whole })

      not_bad : (o : Laid Classes) → (r ≡ Err Misfit → ⊥) → shown r tags₁ ≡ ending tags at o → o ≡ bad → ⊥
      unfolding shown stopped ending
      not_bad o n g q = go r n (rw q at g)
        where
          go : (r : Held) → (r ≡ Err Misfit → ⊥) → shown r tags₁ ≡ refused → ⊥
          go (Ok u) n g = cc
          go (Err Misfit) n g = n refl
          go (Err Strange) n g = cc

      bounded : (r ≡ Err Misfit → ⊥) → Bounds (pieces 32 (row_at pc)) (reads-pieces 32 (row_at pc)) words start at end stop enough
      bounded n = bounds (pieces 32 (row_at pc)) (reads-pieces 32 (row_at pc)) words start at end stop enough (not_bad _ n got.same)

      records_fits : r ≡ Ok tt → Recording words tags₀ base stop n pc tags₁ end (j + 1) b
      records_fits e = let k = bounded (λ q. cc) in record {
        some_left = omega arith;
        low = omega (arith, inv.low, k.forth);
        high = k.within;
        same = then_fits tags at _ r tags₁ got b (records_left (pieces 32 (row_at pc)) words base stop n (j + 1) end) e end (extent-length (pieces 32 (row_at pc)) (reads-pieces 32 (row_at pc)) words start at end stop enough) ∙ whole;
      }

      records_strange : r ≡ Err Strange → Recording words tags₀ base stop n pc tags₁ end (j + 1) true
      records_strange e = let k = bounded (λ q. cc) in record {
        some_left = omega arith;
        low = omega (arith, inv.low, k.forth);
        high = k.within;
        same = then_strange tags at _ r tags₁ got b (records_left (pieces 32 (row_at pc)) words base stop n (j + 1) end) e end ∙ whole;
      }

      pub records_next : (b' : Bool) → Ok b' ≡ noted b r → Recording words tags₀ base stop n pc tags₁ end (j + 1) b'
      records_next b' g = noted_ok (Recording words tags₀ base stop n pc tags₁ end (j + 1)) b r b' g records_fits records_strange

    module _ (h : n ≤ j) where
      none_left : records_left (pieces 32 (row_at pc)) words base stop n j at ≡ map_l all_classes (elim (eqb (at - base) (stop - base)) [ true ↦ laid [] | false ↦ bad ])
      unfolding records_left records
      none_left =
          let e : j ≡ n = omega (arith, inv.some_left) in
          rw e (ap (λ l. map_l all_classes (records (pieces 32 (row_at pc)) (stop - base) (at - base) l (slice at stop words))) (slice_empty (base + n) words))

      ended_so : (o : Laid Classes) → records_left (pieces 32 (row_at pc)) words base stop n j at ≡ o → ending tags at (after b o) ≡ ending tags₀ (base + n) (records_left (pieces 32 (row_at pc)) words base stop n 0 (base + n))
      ended_so o e = ap (λ q. ending tags at (after b q)) (sym e) ∙ inv.same

      pub records-short : (at ≡ stop → ⊥) → Covers (Err Misfit) tags tags₀ (base + n) (records_left (pieces 32 (row_at pc)) words base stop n 0 (base + n))
      unfolding shown stopped ending map_l
      records-short q =
          let e : records_left (pieces 32 (row_at pc)) words base stop n j at ≡ bad = none_left ∙ rw (ne_eqb (at - base) (stop - base) (λ z. q (omega (arith, inv.low, inv.high, z)))) in
          record { same = sym (ap (ending tags at) (after_bad b)) ∙ ended_so bad e }

      all_left : at ≡ stop → records_left (pieces 32 (row_at pc)) words base stop n j at ≡ laid []
      unfolding map_l flat_all
      all_left q = none_left ∙ rw (eq-eqb (at - base) (stop - base) (omega (arith, q)))

      pub records-odd : at ≡ stop → b ≡ true → Covers (Err Strange) tags tags₀ (base + n) (records_left (pieces 32 (row_at pc)) words base stop n 0 (base + n))
      unfolding shown stopped ending after
      records-odd q e = record { same = sym (rw e) ∙ ended_so (laid []) (all_left q) }

      pub records_done : at ≡ stop → b ≡ false → Covers (Ok tt) tags tags₀ (base + n) (records_left (pieces 32 (row_at pc)) words base stop n 0 (base + n))
      unfolding shown ending after
      records_done q e = record { same = sym (rw e) ∙ ended_so (laid []) (all_left q) }

-- ---- the special types
rays-row : row_at RAYS_ROW ≡ rays_row
unfolding row_at row SIZE RAYS_ROW
rays-row = refl

pair_row_lem : row_at PAIR_ROW ≡ pair_row
unfolding row_at row SIZE PAIR_ROW
pair_row_lem = refl

module _ (words tags : List ℕ) (base stop count : ℕ) (enough : stop ≤ length words) (h : base ≤ stop) (r : Walked) (tags₁ : List ℕ) (got : RowEnsures r tags₁ tags base stop (pieces 32 (row_at RAYS_ROW) (slice base stop words))) where
  pairs : Reader
  pairs = times count (pieces DEPTH pair_row)

  all : Outcome Cells
  all = special_of count (slice base stop words)

  is_all : all ≡ join (pieces 32 (row_at RAYS_ROW) (slice base stop words)) pairs
  unfolding all special_of pairs
  is_all = ap (λ w. join (pieces 32 w (slice base stop words)) (times count (pieces 32 pair_row))) (sym rays-row)

  rd_rays : Reads (slice base stop words) (pieces 32 (row_at RAYS_ROW) (slice base stop words))
  rd_rays = reads-pieces 32 (row_at RAYS_ROW) (slice base stop words)

  rd_pairs : Reading pairs
  unfolding pairs
  rd_pairs = reads_times count (reads-pieces 32 pair_row)

  rd_all : Reads (slice base stop words) all
  rd_all = rw is_all (reads-join rd_rays rd_pairs)

  pub special_err : (f : Misread) → r ≡ Err f → Covers (Err f) tags₁ tags base (special count (slice base stop words))
  unfolding special all seen
  special_err f e = exact_err words tags base stop enough h all rd_all (Err f) tags₁ (record { same = sym (ap (final tags base stop) is_all ∙ chain_err words tags base stop enough h _ rd_rays r tags₁ got pairs f e) }) f refl

  module _ (i : ℕ) (e : r ≡ Ok i) where
    onward : Onto words base stop i (final tags base stop (join (pieces 32 (row_at RAYS_ROW) (slice base stop words)) pairs)) (final tags₁ i stop (pairs (slice i stop words)))
    onward = chain_next words tags base stop enough h _ rd_rays r tags₁ got pairs i e

    pub special-within : i ≤ stop
    special-within = onward.within

    module _ (q : Walked) (tags₂ : List ℕ) (then : RowEnsures q tags₂ tags₁ i stop (times count (pieces 32 (row_at PAIR_ROW)) (slice i stop words))) where
      whole-special : RowEnsures q tags₂ tags base stop all
      unfolding pairs
      whole-special = record { same = (rw pair_row_lem at then.same) ∙ sym (ap (final tags base stop) is_all ∙ onward.same) }

      pub special_fits : (j : ℕ) → q ≡ Ok j → j ≡ stop → Covers (Ok tt) tags₂ tags base (special count (slice base stop words))
      unfolding special all
      special_fits j f z = exact_fits words tags base stop enough h all rd_all q tags₂ whole-special j f z

      pub special-short : (j : ℕ) → q ≡ Ok j → (j ≡ stop → ⊥) → Covers (Err Misfit) tags₂ tags base (special count (slice base stop words))
      unfolding special all
      special-short j f n = exact-short words tags base stop enough h all rd_all q tags₂ whole-special j f n

      pub pairs_err : (f : Misread) → q ≡ Err f → Covers (Err f) tags₂ tags base (special count (slice base stop words))
      unfolding special all
      pairs_err f e = exact_err words tags base stop enough h all rd_all q tags₂ whole-special f e

-- ---- a section: its offsets, and its records
module _ (words tags : List ℕ) (base stop n pc : ℕ) (enough : stop ≤ length words) (h : base ≤ stop) where
  abbrev pub sect : List ℕ
  sect = slice base stop words

  sect_long : length sect ≡ stop - base
  sect_long = length-slice base stop words enough

  pub section-short : stop - base < n → ending tags base (tabled (row_at pc) n sect) ≡ refused
  unfolding tabled table map_l ending
  section-short k = rw (tabled, table, lt-leb n (length sect) (omega (arith, sect_long)))

  behind : (x : Laid (List Cells)) → ending (sets tags base (replicate n PLACE)) (base + n) (map_l all_classes x) ≡ ending tags base (map_l (table_classes n) x)
  unfolding map_l ending
  behind (laid rs) = ap done (sym (sets-append (replicate n PLACE) tags base (all_classes rs) ∙ ap (λ k. sets (sets tags base (replicate n PLACE)) (base + k) (all_classes rs)) (length-replicate n PLACE)))
  behind bad = refl
  behind strange = refl

  tabled_is : n ≤ stop - base → tabled (row_at pc) n sect ≡ map_l (table_classes n) (records (pieces 32 (row_at pc)) (length sect) n (take n sect) (drop n sect))
  unfolding tabled table
  tabled_is k = rw (tabled, table, le-leb n (length sect) (omega (arith, sect_long)))

  opened-section : n ≤ stop - base → map_l (table_classes n) (records (pieces 32 (row_at pc)) (stop - base) (base + n - base) (slice (base + 0) (base + n) words) (slice (base + n) stop words)) ≡ tabled (row_at pc) n sect
  opened-section k =
      let a : base + n - base ≡ n = omega arith in
      let z : base + 0 ≡ base = omega arith in
      let t : take n sect ≡ slice base (base + n) words = ap (λ m. take m sect) (sym a) ∙ slice_front words base (base + n) stop (omega arith) (omega arith) in
      let d : drop n sect ≡ slice (base + n) stop words = ap (λ m. drop m sect) (sym a) ∙ slice_back words base (base + n) stop (omega arith) in
      sym (tabled_is k
      ∙ ap (λ l. map_l (table_classes n) (records (pieces 32 (row_at pc)) l n (take n sect) (drop n sect))) sect_long
      ∙ ap (λ l. map_l (table_classes n) (records (pieces 32 (row_at pc)) (stop - base) n l (drop n sect))) t
      ∙ ap (λ l. map_l (table_classes n) (records (pieces 32 (row_at pc)) (stop - base) n (slice base (base + n) words) l)) d
      ∙ ap (λ m. map_l (table_classes n) (records (pieces 32 (row_at pc)) (stop - base) m (slice base (base + n) words) (slice (base + n) stop words))) (sym a)
      ∙ ap (λ m. map_l (table_classes n) (records (pieces 32 (row_at pc)) (stop - base) (base + n - base) (slice m (base + n) words) (slice (base + n) stop words))) (sym z))

  pub section-whole : n ≤ stop - base → ending (sets tags base (replicate n PLACE)) (base + n) (records_left (pieces 32 (row_at pc)) words base stop n 0 (base + n)) ≡ ending tags base (tabled (row_at pc) n sect)
  unfolding records_left
  section-whole k = behind (records (pieces 32 (row_at pc)) (stop - base) (base + n - base) (slice (base + 0) (base + n) words) (slice (base + n) stop words)) ∙ ap (ending tags base) (opened-section k)

fill_room : (tags tags₁ : List ℕ) (i end c n : ℕ) (r : Walked) → Fills r tags₁ tags i end c n → (k : ℕ) → r ≡ Ok k → (i + n ≤ end) × (tags₁ ≡ sets tags i (replicate n c))
unfolding seen filled
fill_room tags tags₁ i end c n r got k e = go (leb (i + n) end) refl (rw e at got.same)
  where
    go : (b : Bool) → leb (i + n) end ≡ b → ◌≡◌ {A = Final} (next-final k tags₁) (elim b [ true ↦ next-final (i + n) (sets tags i (replicate n c)) | false ↦ refused-final ]) → (i + n ≤ end) × (tags₁ ≡ sets tags i (replicate n c))
    go true q g = (leb-true (i + n) end q, cc)
    go false q g = cc

fill_none : (tags tags₁ : List ℕ) (i end c n : ℕ) (r : Walked) → Fills r tags₁ tags i end c n → (e : Misread) → r ≡ Err e → (end < i + n) × (e ≡ Misfit)
unfolding seen stopped-final filled
fill_none tags tags₁ i end c n r got e h = go (leb (i + n) end) refl e (rw h at got.same)
  where
    go : (b : Bool) → leb (i + n) end ≡ b → (e : Misread) → ◌≡◌ {A = Final} (stopped-final e) (elim b [ true ↦ next-final (i + n) (sets tags i (replicate n c)) | false ↦ refused-final ]) → (end < i + n) × (e ≡ Misfit)
    go true q Misfit g = cc
    go true q Strange g = cc
    go false q Misfit g = (leb-false (i + n) end q, refl)
    go false q Strange g = cc

module _ (words tags : List ℕ) (base stop n pc : ℕ) (enough : stop ≤ length words) (h : base ≤ stop) (r : Walked) (tags₁ : List ℕ) (got : Fills r tags₁ tags base stop 104 n) where
  module _ (k : ℕ) (e : r ≡ Ok k) where
    pub section-room : base + n ≤ stop
    section-room = (fill_room tags tags₁ base stop 104 n r got k e).0

    pub section-records : (q : Held) (tags₂ : List ℕ) → Covers q tags₂ tags₁ (base + n) (records_left (pieces 32 (row_at pc)) words base stop n 0 (base + n)) → Covers q tags₂ tags base (tabled (row_at pc) n (slice base stop words))
    section-records q tags₂ c =
        let f = fill_room tags tags₁ base stop 104 n r got k e in
        record { same = (rw f.1 at c.same) ∙ section-whole words tags base stop n pc enough h (omega (arith, f.0)) }

  pub section_err : (f : Misread) → r ≡ Err f → Covers (Err f) tags₁ tags base (tabled (row_at pc) n (slice base stop words))
  unfolding shown stopped
  section_err f e =
      let m = fill_none tags tags₁ base stop 104 n r got f e in
      record { same = rw m.1 (sym (section-short words tags base stop n pc enough h (omega (arith, m.0)))) }
