-- THE DERIVED TABLES of a session that has one source only are within the source's: at most as many records and words, and every name is one of the source's. No two names are equal.
use Rattle.std.specs.Prelude.{◌≡◌, false, length, get_or}
use Rattle.std.proofs.Math.Path.{refl}
use Rattle.std.proofs.Common.{sym, ap, ◌∙◌, le_trans, arith, length-append, length-set}
use Rattle.std.proofs.Math.Bool.{true, not}
use mathlib.Core.List.{List, [], ◌∷◌, ◌++◌, map}
use Prim.Native.Nat.{ℕ, zero, suc, ◌+◌, ◌<◌, ◌≤◌}
use Rattle.std.proofs.Math.ListN.{set, replicate, get_or-map}
use Rattle.std.proofs.lemmas.List.{length-map, length-replicate}
use Rattle.theory_lists.specs.Booleans.{and-true}
use Rattle.model.specs.Outcome.{Cells, word, fits}
use Rattle.model.specs.Table.{name_row, run}
use Rattle.model.specs.Tree.{flat_all}
use Rattle.model.specs.Module.{Special, Module}
use Rattle.model.specs.Carry.{carry_cells, Lays, Each, each_none, each_next, WellFormed}
use Rattle.model.specs.Names.{same, unlike, differ}
use Rattle.model.specs.Numbers.{numbered}
use Rattle.model.specs.Lower.{lower}
use Rattle.model.specs.Tables.{Tab, names, types, at, upd, six, Tables, tables, rec_at, count}
use Rattle.model.specs.References.{through, shift, alike, interned}
use Rattle.model.specs.Imports.{Derived, intern, made, commit, import_t, unmapped, emptied, fresh}
use Rattle.model.specs.Special.{force, with_special, put_ray, put_pair, sourced}
use Rattle.model.specs.Bodies.{appended, enter_all}
use Rattle.model.specs.Link.{append_all}
use Rattle.theory_image.specs.Writing.{write-run}
use Rattle.theory_image.specs.Same.{same_true}
use Rattle.theory_image.specs.Members.{each_at}
use Rattle.theory_records.specs.TableLaws.{Tab_dec, at_same, at_other, at-six}
use Rattle.theory_records.specs.RecordLaws.{Went, bare, length_shift, length-carry}
use Rattle.theory_records.specs.Kinds.{row_of}
use Rattle.theory_records.specs.Well.{WF}
use Rattle.theory_records.specs.Trace.{Ready, Trace, keep_rule, Sized, trace_sized, import_trace}
use Rattle.theory_records.specs.Theorems.{NoDup, Distinct, total, mapped, mapped_le, Within, trace_within}
use Rattle.theory_records.specs.Passing.{FitR, Fit}
use Rattle.theory_records.specs.Imported.{Kept}
use Rattle.theory_records.specs.Tested.{tested_wf}
use Rattle.theory_finish.specs.Firsts.{either}
use Rattle.theory_finish.specs.Size.{Smaller, In, now, later}
use Rattle.theory_finish.specs.Known.{Copied, name_copied, name_table, made_name}
use Rattle.theory_finish.specs.Sessions.{Keeping, Setting, functions_kept, entries_kept, sourced-kept}

-- a weight that carrying and shifting keep
abbrev Neutral : ℕ → (Cells → ℕ) → Type 0
Neutral o w = (f : Went) (r : Cells) → w (shift (carry_cells (through f) r) o false) ≡ w r

pub record Fits (o : ℕ) (T : Tables) (s : Derived) : Type 0 where
  pub sized : Sized T s
  -- what is derived weighs no more than what is mapped
  pub weighs : (w : Cells → ℕ) → Neutral o w → (u : Tab) → total w (at u s.recs) ≤ mapped w (at u s.maps) (at u T)
  pub among : Each (λ r. In r (at names T)) (name_table s)

-- ---- lists
each_merged : {P : Cells → Type 0} {ds : List Cells} (c : Cells) → P c → Each P ds → Each P (interned ds c)
unfolding interned
each_merged c p each_none = each_next p each_none
each_merged c p (each_next {a = d} q qs) = let i = each_merged c p qs in either (alike d c) (λ e. rw (interned, e) (each_next q qs)) λ e. rw (interned, e) (each_next q i)

in_at : {A : Type 0} (l : List A) (n : ℕ) (d : A) → n < length l → In (get_or l n d) l
in_at [] n d h = absurd (omega arith)
in_at (x ∷ l) zero d h = now
in_at (x ∷ l) (suc n) d h = later (in_at l n d (omega arith))

mapped-more : (w : Cells → ℕ) (vs : List ℕ) (ds : List Cells) (n v : ℕ) → mapped w vs ds ≤ mapped w (set vs n (suc v)) ds
unfolding mapped
mapped-more w [] ds n v = omega arith
mapped-more w (x ∷ vs) [] zero v = omega arith
mapped-more w (x ∷ vs) [] (suc n) v = omega arith
mapped-more w (zero ∷ vs) (d ∷ ds) zero v = omega arith
mapped-more w (suc x ∷ vs) (d ∷ ds) zero v = omega arith
mapped-more w (zero ∷ vs) (d ∷ ds) (suc n) v = mapped-more w vs ds n v
mapped-more w (suc x ∷ vs) (d ∷ ds) (suc n) v = omega (arith, mapped-more w vs ds n v)

-- ---- a session keeps it
module _ (m : Module) (well : WellFormed m) (three : numbered m ≡ true) (four : lower m ≡ true) (o : ℕ) where
  abbrev T : Tables
  T = tables m

  wf : WF T
  wf = tested_wf m well three four

  plain : (k : ℕ) → k < count T names → Copied (rec_at T names k)
  unfolding rec_at count tables at
  plain k h = name_copied (each_at well.names_ok.each k [] h)

  abbrev Among : Derived → Type 0
  Among s = Each (λ r. In r (at names T)) (name_table s)

  commit-among : (s : Derived) (t : Tab) (n : ℕ) → Ready T s t n → Among s → Among (commit o T t n s)
  commit-among s t n rd a =
      elim (Tab_dec t names) [
        | yes p ↦ rw p (here (rw p at rd))
        | no p ↦ unfold commit intern in rw (at_other t names (interned (at t s.recs) (made o T t n s)) s.recs p) a
      ]
    where
      source : (k : ℕ) → k < count T names → In (rec_at T names k) (at names T)
      source k h = unfold rec_at count in in_at (at names T) k [] h

      here : Ready T s names n → Among (commit o T names n s)
      here rd = unfold commit intern in rw (at_same names (interned (name_table s) (made o T names n s)) s.recs) (each_merged (made o T names n s) (rw (made_name o T plain n s rd.range) (source n rd.range)) a)

  import_fits : (t : Tab) (n : ℕ) (s : Derived) → n < count T t → Fits o T s → Fits o T (import_t o T t n s)
  import_fits t n s h f =
      let tr = (import_trace o T wf t n s h f.sized).0 in
      record {
        sized = trace_sized o T tr f.sized;
        weighs = λ w q u. heavier w q tr u;
        among = keep_rule Among commit-among tr f.among;
      }
    where
      heavier : (w : Cells → ℕ) → Neutral o w → {r : Derived} → Trace o T s r → (u : Tab) → total w (at u r.recs) ≤ mapped w (at u r.maps) (at u T)
      heavier w q {r} tr u = let z : total w (at u r.recs) + mapped w (at u s.maps) (at u T) ≤ total w (at u s.recs) + mapped w (at u r.maps) (at u T) = (unfold Within in trace_within o T wf w q tr u) in omega (arith, f.weighs w q u)

  force_fits : (n v : ℕ) (s : Derived) → Fits o T s → Fits o T (force n (suc v) s)
  unfolding force Sized
  force_fits n v s f = record { sized = sizes; weighs = λ w q u. heavier w u (f.weighs w q u); among = f.among }
    where
      new : List ℕ
      new = set (at types s.maps) n (suc v)

      sizes : (u : Tab) → length (at u (upd types (set (at types s.maps) n (suc v)) s.maps)) ≡ count T u
      sizes u =
          elim (Tab_dec types u) [
            | yes p ↦ rw (← p, at_same types (set (at types s.maps) n (suc v)) s.maps) (length-set (at types s.maps) n (suc v) ∙ f.sized types)
            | no p ↦ rw (at_other types u (set (at types s.maps) n (suc v)) s.maps p) (f.sized u)
          ]

      heavier : (w : Cells → ℕ) (u : Tab) → total w (at u s.recs) ≤ mapped w (at u s.maps) (at u T) → total w (at u s.recs) ≤ mapped w (at u (upd types (set (at types s.maps) n (suc v)) s.maps)) (at u T)
      heavier w u h =
          elim (Tab_dec types u) [
            | yes p ↦ at-types u p h
            | no p ↦ rw (at_other types u (set (at types s.maps) n (suc v)) s.maps p) h
          ]
        where
          at-types : (u : Tab) → types ≡ u → total w (at u s.recs) ≤ mapped w (at u s.maps) (at u T) → total w (at u s.recs) ≤ mapped w (at u (upd types (set (at types s.maps) n (suc v)) s.maps)) (at u T)
          at-types u p h = rw (← p, at_same types (set (at types s.maps) n (suc v)) s.maps) (le_trans (rw (← p) at h) (mapped-more w (at types s.maps) (at types T) n v))

  special_fits : (p : Special) (s : Derived) → Fits o T s → Fits o T (with_special p s)
  unfolding with_special Sized
  special_fits p s f = record { sized = f.sized; weighs = f.weighs; among = f.among }

  fits_keeping : Keeping m o (Fits o T)
  fits_keeping = record { imports = import_fits; appends = λ g s f. unfold appended Sized in record { sized = f.sized; weighs = f.weighs; among = f.among } }

  fits_setting : Setting m o (Fits o T)
  fits_setting = record {
    ray-new = λ j n s l f. unfold put_ray in special_fits _ _ (import_fits types n s l f);
    ray_old = λ j n v s e f. force_fits n v s f;
    pair-new = λ key n s l e f. unfold put_pair in special_fits _ _ (import_fits types n s l f);
    pair_old = λ key n v s e f. force_fits n v s f;
  }

  fresh_fits : Fits o T (emptied (unmapped T) fresh)
  unfolding emptied unmapped fresh Sized count total
  fresh_fits = record {
    sized = λ u. rw (at-six u (λ t. replicate {A = ℕ} (count T t) 0)) (length-replicate {A = ℕ} (count T u) 0);
    weighs = λ w q u. rw (at-six {A = List Cells} u (λ t. [])) (omega arith);
    among = unfold six at in each_none;
  }

  -- THE STATES of a session that has this source alone
  pub state_fits : (is : List ℕ) → Fits o T (append_all is o m (sourced o m fresh))
  state_fits is = functions_kept m three fits_keeping is _ (sourced-kept m three fits_setting well fresh fresh_fits)

  pub end_fits : (is : List ℕ) → Fits o T (enter_all m.entries o m (append_all is o m (sourced o m fresh)))
  end_fits is = entries_kept m three fits_keeping _ (state_fits is)

-- ---- records and words
pub total-one : (l : List Cells) → total (λ r. 1) l ≡ length l
unfolding total
total-one [] = refl
total-one (x ∷ l) = omega (arith, total-one l)

pub total-length : (l : List Cells) → total length l ≡ length (flat_all l)
unfolding total flat_all
total-length [] = refl
total-length (x ∷ l) = ap (length x +◌) (total-length l) ∙ sym (length-append x (flat_all l))

-- EACH TABLE is within the source's
pub fits_smaller : {o : ℕ} {T : Tables} {s : Derived} → Fits o T s → (u : Tab) → Smaller (at u s.recs) (at u T)
fits_smaller {o} {T} {s} f u = record {
  few = omega (arith, total-one (at u s.recs), total-one (at u T), f.weighs (λ r. 1) (λ g r. refl) u, mapped_le (λ r. 1) (at u s.maps) (at u T));
  short = omega (arith, total-length (at u s.recs), total-length (at u T), f.weighs length (λ g r. length_shift _ o false ∙ length-carry _ r) u, mapped_le length (at u s.maps) (at u T));
}

-- ---- NAMES differ

-- a name's words say its cells
same_name : {a b : Cells} → Lays name_row a → Lays name_row b → map word a ≡ map word b → a ≡ b
same_name {a} {b} l k e =
    let p : run (map word a ++ []) name_row ≡ fits a [] = write-run l [] in
    let q : run (map word b ++ []) name_row ≡ fits b [] = write-run k [] in
    let r : fits a [] ≡ fits b [] = sym p ∙ ap (λ ws. run (ws ++ []) name_row) e ∙ q in
    cc

module _ (l : List Cells) (laid : (i : ℕ) → i < length l → Lays name_row (get_or l i [])) (d : (i j : ℕ) → i < length l → j < length l → bare (get_or l i []) ≡ bare (get_or l j []) → i ≡ j) where
  apart-at : (i j : ℕ) → i < length l → j < length l → (i ≡ j → ⊥) → same (map word (get_or l i [])) (map word (get_or l j [])) ≡ false
  apart-at i j h k n = either (same (map word (get_or l i [])) (map word (get_or l j []))) (λ e. absurd (n (d i j h k (ap bare (same_name (laid i h) (laid j k) (same_true _ _ e)))))) λ e. e

differ-all : (l : List (List ℕ)) → ((i j : ℕ) → i < length l → j < length l → (i ≡ j → ⊥) → same (get_or l i []) (get_or l j []) ≡ false) → differ l ≡ true
unfolding differ
differ-all [] h = refl
differ-all (x ∷ l) h = and-true (first l λ j k. h 0 (suc j) (omega arith) (omega arith) λ e. omega arith) (differ-all l λ i j a b n. h (suc i) (suc j) (omega arith) (omega arith) λ e. n (omega arith))
  where
    first : (ys : List (List ℕ)) → ((j : ℕ) → j < length ys → same x (get_or ys j []) ≡ false) → unlike ys x ≡ true
    first [] g = unfold unlike in refl
    first (y ∷ ys) g = two (ap not (g 0 (omega arith))) (first ys λ j k. g (suc j) (omega arith))
      where
        two : not (same x y) ≡ true → unlike ys x ≡ true → unlike (y ∷ ys) x ≡ true
        two p q = unfold unlike in and-true p q

pub kept-differ : {T : Tables} {s : Derived} → Kept T s → differ (map (map word) (name_table s)) ≡ true
kept-differ {T} {s} k =
    differ-all (map (map word) (name_table s)) λ i j a b n.
    let i' : i < length (name_table s) = rw (length-map (name_table s) (map word)) at a in
    let j' : j < length (name_table s) = rw (length-map (name_table s) (map word)) at b in
    rw (get_or-map (map word) (name_table s) i [], get_or-map (map word) (name_table s) j []) (apart-at (name_table s) (λ i h. laid_name i h) (λ i j h k e. distinct_name i j h k e) i j i' j' n)
  where
    laid_name : (i : ℕ) → i < length (name_table s) → Lays name_row (get_or (name_table s) i [])
    laid_name i h =
        let c : i < count s.recs names = (unfold count in h) in
        let f : FitR names (rec_at s.recs names i) = (unfold Fit in k.fit names i c) in
        (unfold row_of rec_at in f.laid)

    distinct_name : (i j : ℕ) → i < length (name_table s) → j < length (name_table s) → bare (get_or (name_table s) i []) ≡ bare (get_or (name_table s) j []) → i ≡ j
    distinct_name i j h g e = unfold Distinct NoDup in k.base.distinct names i j h g e
