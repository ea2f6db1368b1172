-- Theorems on the import of tables' records: the tables only grow; what is mapped stays mapped, to a record that is its source's carried; the derived tables are well formed and hold no two equal records; and they are no larger than what is mapped. Each is a fact of one commit, taken to every import by the keep rule.
use Rattle.std.specs.Prelude.{◌≡◌, refl, List, [], ◌∷◌, ◌++◌, map, ℕ, zero, suc, ◌+◌, ◌<◌, ◌≤◌, pred, length, get_or, set}
use Rattle.std.proofs.Common.{ap, ◌∙◌, le_trans, lt_of_lt_of_le, le_of_suc-le-suc, not-suc-le-zero}
use Rattle.std.proofs.Math.Path.{sym}
use Rattle.std.proofs.Math.Bool.{false}
use native.Mathlib.Omega.{arith}
use Rattle.std.proofs.Math.Nat.{le_refl}
use Rattle.std.proofs.Math.Decide.{dec_lt}
use Rattle.std.proofs.Math.ListN.{get_or-append}
use Rattle.model.specs.Outcome.{Cells}
use Rattle.model.specs.Carry.{carry_cells}
use Rattle.model.specs.Tables.{Tab, at, Tables, rec_at, count, map_at}
use Rattle.model.specs.References.{Node, refs, through, shift, index_of, interned}
use Rattle.model.specs.Imports.{Derived, intern, mapped_to_t, made, commit}
use Rattle.theory_records.specs.TableLaws.{Tab_dec, at_same, at_other}
use Rattle.theory_records.specs.RecordLaws.{All, all_map, all_both, all-image, Went, Has, image, bare, refs-shift, bare-shift, carry_same, refs-carry, Kept, old, new, kept, kept_in, kept_at, kept_longer, kept_prefix, kept-last}
use Rattle.theory_records.specs.Well.{home, InitLow, Good, WF}
use Rattle.theory_records.specs.Trace.{went-home, Other, node-cases, settle_recs, settle_here, settle_other, Ready, Trace, keep_rule, keep_rule₂, Sized, commit-sized, Keeps, keeps_went, commit_keeps}

pub settle_at : (t : Tab) (n : ℕ) (c : Cells) (s : Derived) → at t (intern t n c s).recs ≡ interned (at t s.recs) c
unfolding intern
settle_at t n c s = at_same t (interned (at t s.recs) c) s.recs

-- ---- (a) the tables only grow
pub record Grows (m m' : Tables) : Type 0 where
  pub longer : (u : Tab) → count m u ≤ count m' u
  pub prefix : (u : Tab) (k : ℕ) → k < count m u → rec_at m' u k ≡ rec_at m u k

pub grows_trans : {a b c : Tables} → Grows a b → Grows b c → Grows a c
grows_trans p q =
    record { longer = λ u. le_trans (p.longer u) (q.longer u); prefix = λ u k h. q.prefix u k (lt_of_lt_of_le h (p.longer u)) ∙ p.prefix u k h }

pub settle_grows : (t : Tab) (n : ℕ) (c : Cells) (s : Derived) → Grows s.recs (intern t n c s).recs
unfolding count rec_at
settle_grows t n c s =
    record {
      longer = λ u. settle_recs t n c s u (λ es. length (at u s.recs) ≤ length es) (λ p. kept_longer (kept c (at u s.recs))) (le_refl _);
      prefix = λ u k h. settle_recs t n c s u (λ es. get_or es k [] ≡ get_or (at u s.recs) k []) (λ p. kept_prefix (kept c (at u s.recs)) k h) refl;
    }

pub commit_grows : (o : ℕ) (T : Tables) (s : Derived) (t : Tab) (n : ℕ) → Grows s.recs (commit o T t n s).recs
unfolding commit
commit_grows o T s t n = settle_grows t n (made o T t n s) s

-- ---- what is mapped is mapped to a derived record
unfoldable pub Inside : Derived → Type 0
Inside s = (t : Tab) (n : ℕ) → map_at s.maps t n ≤ count s.recs t

commit-inside : (o : ℕ) (T : Tables) (s : Derived) (t : Tab) (n : ℕ) → Ready T s t n → Inside s → Inside (commit o T t n s)
unfolding Inside commit count
commit-inside o T s t n r I =
    node-cases (λ u k. map_at (commit o T t n s).maps u k ≤ count (commit o T t n s).recs u) t n
    (rw (settle_here t n c s r.room, settle_at t n c s) (kept_in (kept c (at t s.recs))))
    (λ u k a. rw (settle_other t n c s u k a) (le_trans (I u k) ((settle_grows t n c s).longer u)))
  where
    c : Cells
    c = made o T t n s

-- ---- (c) the record of what is mapped is its source record, carried
pub record Entry (T : Tables) (s : Derived) (t : Tab) (n : ℕ) : Type 0 where
  pub alike : bare (rec_at s.recs t (pred (map_at s.maps t n))) ≡ bare (carry_cells (through (mapped_to_t s)) (rec_at T t n))
  pub closed : All (Has (mapped_to_t s)) (refs (rec_at T t n))

unfoldable pub Sound : Tables → Derived → Type 0
Sound T s = (t : Tab) (n : ℕ) → 0 < map_at s.maps t n → Entry T s t n

pub entry-stays : (T : Tables) (s r : Derived) (t : Tab) (n : ℕ) → map_at s.maps t n ≤ count s.recs t → Grows s.recs r.recs → Keeps s r → 0 < map_at s.maps t n → Entry T s t n → Entry T r t n
unfolding Keeps
entry-stays T s r t n in-s g k h e =
    let same = k t n h in
    record {
      alike = rw (same, g.prefix t (pred (map_at s.maps t n)) (omega arith), carry_same (mapped_to_t s) (mapped_to_t r) (rec_at T t n) (all_map (refs (rec_at T t n)) (λ j. keeps_went s r k j.place j.num) e.closed)) e.alike;
      closed = all_map (refs (rec_at T t n)) (λ j u. rw (keeps_went s r k j.place j.num u) u) e.closed;
    }

commit-sound : (o : ℕ) (T : Tables) (s : Derived) (t : Tab) (n : ℕ) → Ready T s t n → Inside s → Sound T s → Sound T (commit o T t n s)
unfolding Sound Keeps commit rec_at count Inside
commit-sound o T s t n r I S =
    node-cases (λ u k. 0 < map_at (commit o T t n s).maps u k → Entry T (commit o T t n s) u k) t n (λ h. here)
    (λ u k a h. let w : 0 < map_at s.maps u k = rw (other u k a) at h in entry-stays T s (commit o T t n s) u k (I u k) (commit_grows o T s t n) K w (S u k w))
  where
    c : Cells
    c = made o T t n s

    K : Keeps s (commit o T t n s)
    K = commit_keeps o T s t n r

    other : (u : Tab) (k : ℕ) → Other t n u k → map_at (commit o T t n s).maps u k ≡ map_at s.maps u k
    other u k a = settle_other t n c s u k a

    here : Entry T (commit o T t n s) t n
    here =
        let at-t = settle_here t n c s r.room in
        let K' : Kept c (at t s.recs) (index_of (at t s.recs) c) (interned (at t s.recs) c) = kept c (at t s.recs) in
        record {
          alike = rw (at-t, settle_at t n c s, carry_same (mapped_to_t s) (mapped_to_t (commit o T t n s)) (rec_at T t n) (all_map (refs (rec_at T t n)) (λ j. keeps_went s (commit o T t n s) K j.place j.num) r.refs_in)) (kept_at K' ∙ made-bare);
          closed = all_map (refs (rec_at T t n)) (λ j u. rw (keeps_went s (commit o T t n s) K j.place j.num u) u) r.refs_in;
        }
      where
        made-bare : bare c ≡ bare (carry_cells (through (mapped_to_t s)) (rec_at T t n))
        made-bare = unfold made in bare-shift (carry_cells (through (mapped_to_t s)) (rec_at T t n)) o false

-- ---- (d) the derived tables are well-formed
good_grows : {m m' : Tables} {t : Tab} {n : ℕ} (j : Node) → Grows m m' → Good m t n j → Good m' t n j
unfolding InitLow
good_grows j g o =
    record {
      inside = lt_of_lt_of_le o.inside (g.longer (home j.place));
      may = o.may;
      lower = o.lower;
      init = λ e. rw (g.prefix (home j.place) j.num o.inside) (o.init e);
    }

-- what is not old is the new record
pub settle_new : (t : Tab) (n : ℕ) (c : Cells) (s : Derived) (u : Tab) (k : ℕ) → k < count (intern t n c s).recs u → (k < count s.recs u → ⊥)
    → (u ≡ t) × (k ≡ count s.recs u) × (rec_at (intern t n c s).recs u k ≡ c) × (k ≡ index_of (at u s.recs) c)
unfolding count rec_at
settle_new t n c s u k =
    settle_recs t n c s u (λ es. k < length es → (k < length (at u s.recs) → ⊥) → (u ≡ t) × (k ≡ length (at u s.recs)) × (get_or es k [] ≡ c) × (k ≡ index_of (at u s.recs) c))
    (λ p h o. let w = kept-last (kept c (at u s.recs)) k h o in (p, w.0, w.1, w.2)) (λ h o. absurd (o h))

commit_wf : (o : ℕ) (T : Tables) → WF T → (s : Derived) (t : Tab) (n : ℕ) → Ready T s t n → Inside s → WF s.recs → WF (commit o T t n s).recs
unfolding WF Inside commit
commit_wf o T wf s t n r I W u k h = go (dec_lt k (count s.recs u))
  where
    c : Cells
    c = made o T t n s

    G : Grows s.recs (commit o T t n s).recs
    G = commit_grows o T s t n

    N : ℕ
    N = count s.recs t

    -- a reference of the new record
    one : (j : Node) → Good T t n j → Has (mapped_to_t s) j → Good (commit o T t n s).recs t N (image (mapped_to_t s) j)
    one j g m =
        let k : ℕ = mapped_to_t s j.place j.num in
        let h : Tab = home j.place in
        let l : pred k < count s.recs h = omega (arith, I h j.num, went-home g.may s j.num) in
        record {
          inside = lt_of_lt_of_le l (G.longer h);
          may = g.may;
          lower = λ p. rw (ap (count s.recs) p) at l;
          init = λ p. unfold InitLow in rw (G.prefix h (pred k) l) (all_map (refs (rec_at s.recs h (pred k))) (λ i b q. rw (q ∙ sym p) at b.inside) (W h (pred k) l));
        }

    made-refs : refs c ≡ map (image (mapped_to_t s)) (refs (rec_at T t n))
    made-refs = unfold made in refs-shift (carry_cells (through (mapped_to_t s)) (rec_at T t n)) o false ∙ refs-carry (mapped_to_t s) (rec_at T t n) r.refs_in

    fresh_good : All (Good (commit o T t n s).recs t N) (refs c)
    fresh_good = rw made-refs (all-image (Good (commit o T t n s).recs t N) (image (mapped_to_t s)) (refs (rec_at T t n)) (all_both (refs (rec_at T t n)) one (wf t n r.range) r.refs_in))

    go : Dec (k < count s.recs u) → All (Good (commit o T t n s).recs u k) (refs (rec_at (commit o T t n s).recs u k))
    go (yes l) = rw (G.prefix u k l) (all_map (refs (rec_at s.recs u k)) (λ j. good_grows j G) (W u k l))
    go (no l) = let w = settle_new t n c s u k h l in rw (w.2, w.1, w.0) fresh_good

-- ---- (f) no two records of a table are equal
unfoldable pub NoDup : List Cells → Type 0
NoDup ds = (i j : ℕ) → i < length ds → j < length ds → bare (get_or ds i []) ≡ bare (get_or ds j []) → i ≡ j

kept_nodup : {c : Cells} {ds : List Cells} {k : ℕ} {es : List Cells} → Kept c ds k es → NoDup ds → NoDup es
unfolding NoDup
kept_nodup (old h q) d i j a b e = d i j a b e
kept_nodup {c} {ds} (new f) d i j a b e =
    elim (dec_lt i (length ds)) [
      | yes x ↦ elim (dec_lt j (length ds)) [
        | yes y ↦ d i j x y (ap bare (sym (old_at i x)) ∙ (e ∙ ap bare (old_at j y)))
        | no y ↦ absurd (f i x (ap bare (sym (old_at i x)) ∙ (e ∙ ap bare (last j b y).1)))
      ]
      | no x ↦ elim (dec_lt j (length ds)) [
        | yes y ↦ absurd (f j y (ap bare (sym (old_at j y)) ∙ (sym e ∙ ap bare (last i a x).1)))
        | no y ↦ omega (arith, (last i a x).0, (last j b y).0)
      ]
    ]
  where
    last : (k : ℕ) → k < length (ds ++ (c ∷ [])) → (k < length ds → ⊥) → (k ≡ length ds) × (get_or (ds ++ (c ∷ [])) k [] ≡ c)
    last k h o = let w = kept-last {c = c} {ds = ds} (new f) k h o in (w.0, w.1)

    old_at : (k : ℕ) → k < length ds → get_or (ds ++ (c ∷ [])) k [] ≡ get_or ds k []
    old_at k h = get_or-append ds (c ∷ []) [] k h

unfoldable pub Distinct : Derived → Type 0
Distinct s = (u : Tab) → NoDup (at u s.recs)

commit-distinct : (o : ℕ) (T : Tables) (s : Derived) (t : Tab) (n : ℕ) → Ready T s t n → Distinct s → Distinct (commit o T t n s)
unfolding Distinct commit
commit-distinct o T s t n r D u = settle_recs t n (made o T t n s) s u NoDup (λ p. kept_nodup (kept (made o T t n s) (at u s.recs)) (D u)) (D u)

-- ---- (e) size, for any weight of a record that carrying and shifting keep
unfoldable pub total : (Cells → ℕ) → List Cells → ℕ
total w [] = 0
total w (d ∷ ds) = w d + total w ds

-- the weight of the records that are mapped
unfoldable pub mapped : (Cells → ℕ) → List ℕ → List Cells → ℕ
mapped w [] ds = 0
mapped w (v ∷ vs) [] = 0
mapped w (zero ∷ vs) (d ∷ ds) = mapped w vs ds
mapped w (suc v ∷ vs) (d ∷ ds) = w d + mapped w vs ds

pub total_snoc : (w : Cells → ℕ) (c : Cells) (ds : List Cells) → total w (ds ++ (c ∷ [])) ≡ total w ds + w c
unfolding total
total_snoc w c [] = omega arith
total_snoc w c (d ∷ ds) = omega (arith, total_snoc w c ds)

kept-total : (w : Cells → ℕ) {c : Cells} {ds : List Cells} {k : ℕ} {es : List Cells} → Kept c ds k es → total w es ≤ total w ds + w c
kept-total w (old h e) = omega arith
kept-total w {c} {ds} (new f) = omega (arith, total_snoc w c ds)

mapped-set : (w : Cells → ℕ) (vs : List ℕ) (ds : List Cells) (n v : ℕ) → n < length vs → n < length ds → get_or vs n 0 ≡ 0 → mapped w (set vs n (suc v)) ds ≡ mapped w vs ds + w (get_or ds n [])
unfolding mapped
mapped-set w [] ds n v a b e = absurd (not-suc-le-zero a)
mapped-set w (x ∷ vs) [] n v a b e = absurd (not-suc-le-zero b)
mapped-set w (zero ∷ vs) (d ∷ ds) zero v a b e = omega arith
mapped-set w (suc x ∷ vs) (d ∷ ds) zero v a b e = absurd (omega arith)
mapped-set w (zero ∷ vs) (d ∷ ds) (suc n) v a b e = mapped-set w vs ds n v (le_of_suc-le-suc a) (le_of_suc-le-suc b) e
mapped-set w (suc x ∷ vs) (d ∷ ds) (suc n) v a b e = omega (arith, mapped-set w vs ds n v (le_of_suc-le-suc a) (le_of_suc-le-suc b) e)

pub mapped_le : (w : Cells → ℕ) (vs : List ℕ) (ds : List Cells) → mapped w vs ds ≤ total w ds
unfolding mapped total
mapped_le w [] ds = omega arith
mapped_le w (v ∷ vs) [] = omega arith
mapped_le w (zero ∷ vs) (d ∷ ds) = omega (arith, mapped_le w vs ds)
mapped_le w (suc v ∷ vs) (d ∷ ds) = omega (arith, mapped_le w vs ds)

-- what the tables gained is at most what was mapped
unfoldable pub Within : (Cells → ℕ) → Tables → Derived → Derived → Type 0
Within w T s r = (u : Tab) → total w (at u r.recs) + mapped w (at u s.maps) (at u T) ≤ total w (at u s.recs) + mapped w (at u r.maps) (at u T)

commit-within : (w : Cells → ℕ) (o : ℕ) (T : Tables) → ((f : Went) (r : Cells) → w (shift (carry_cells (through f) r) o false) ≡ w r)
    → (s : Derived) (t : Tab) (n : ℕ) → Ready T s t n → Within w T s (commit o T t n s)
unfolding Within commit intern
commit-within w o T hw s t n r u =
    elim (Tab_dec t u) [
      | yes p ↦ rw (← p, at_same t (interned (at t s.recs) c) s.recs, at_same t (set (at t s.maps) n (suc (index_of (at t s.recs) c))) s.maps) here
      | no p ↦ rw (at_other t u (interned (at t s.recs) c) s.recs p, at_other t u (set (at t s.maps) n (suc (index_of (at t s.recs) c))) s.maps p) (omega arith)
    ]
  where
    c : Cells
    c = made o T t n s

    here : total w (interned (at t s.recs) c) + mapped w (at t s.maps) (at t T) ≤ total w (at t s.recs) + mapped w (set (at t s.maps) n (suc (index_of (at t s.recs) c))) (at t T)
    here =
        let a = kept-total w (kept c (at t s.recs)) in
        let b = mapped-set w (at t s.maps) (at t T) n (index_of (at t s.recs) c) r.room (unfold count in r.range) (unfold map_at in r.unmapped) in
        let e : w c ≡ w (get_or (at t T) n []) = unfold made rec_at in hw (mapped_to_t s) (rec_at T t n) in
        omega arith

-- ---- all of it
-- what every session keeps, whatever is mapped by hand
pub record Base (T : Tables) (s : Derived) : Type 0 where
  pub sized : Sized T s
  pub inside : Inside s
  pub wf : WF s.recs
  pub distinct : Distinct s

-- and where nothing was mapped by hand
pub record Inv (T : Tables) (s : Derived) : Type 0 where
  pub base : Base T s
  pub sound : Sound T s

module _ (o : ℕ) (T : Tables) (wfs : WF T) where
  pub trace_grows : {a b : Derived} → Trace o T a b → Grows a.recs b.recs
  trace_grows = keep_rule₂ (λ s r. Grows s.recs r.recs) (λ s. record { longer = λ u. le_refl _; prefix = λ u k h. refl }) (λ a b c. grows_trans) (λ s t n r. commit_grows o T s t n)

  pub trace_within : (w : Cells → ℕ) → ((f : Went) (r : Cells) → w (shift (carry_cells (through f) r) o false) ≡ w r) → {a b : Derived} → Trace o T a b → Within w T a b
  unfolding Within
  trace_within w hw = keep_rule₂ (Within w T) (λ s u. le_refl _) (λ a b c p q u. omega (arith, p u, q u)) (commit-within w o T hw)

  commit_base : (s : Derived) (t : Tab) (n : ℕ) → Ready T s t n → Base T s → Base T (commit o T t n s)
  commit_base s t n r i =
      record {
        sized = commit-sized o T s t n r i.sized;
        inside = commit-inside o T s t n r i.inside;
        wf = commit_wf o T wfs s t n r i.inside i.wf;
        distinct = commit-distinct o T s t n r i.distinct;
      }

  pub trace_base : {a b : Derived} → Trace o T a b → Base T a → Base T b
  trace_base = keep_rule (Base T) commit_base

  pub trace_inv : {a b : Derived} → Trace o T a b → Inv T a → Inv T b
  trace_inv = keep_rule (Inv T) (λ s t n r i. record { base = commit_base s t n r i.base; sound = commit-sound o T s t n r i.base.inside i.sound })
