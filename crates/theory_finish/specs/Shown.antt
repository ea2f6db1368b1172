-- EVERY DERIVED NAME APPEARS after each import. A name is taken into the table for a record that is under construction; that record, or the equal one with which it merges, then has it. Between, the name waits: one of the names that the record has is mapped to it.
use Rattle.std.specs.Prelude.{◌≡◌, refl, false, ◌⊎◌, set}
use Rattle.std.proofs.Common.{sym, ap, ◌∙◌, inl, ⊎_elim}
use Rattle.std.proofs.Math.Logic.{inr}
use mathlib.Core.List.{List, [], ◌∷◌, map}
use Prim.Native.Nat.{ℕ, zero, suc, ◌≤◌, ◌<◌}
use native.Mathlib.Omega.{arith}
use Rattle.std.proofs.Math.Decide.{ℕ_discrete, dec_lt}
use Rattle.std.proofs.Math.ListN.{length}
use Rattle.model.specs.Outcome.{Cells}
use Rattle.model.specs.Tree.{flat, flat_all}
use Rattle.model.specs.Initial.{Mem}
use Rattle.model.specs.Tables.{Tab, names, exprs, is_t, code_t, at, Tables, rec_at, count, map_at}
use Rattle.model.specs.References.{Place, table, own, function, Node, refs, fold_refs, through, index_of, interned}
use Rattle.model.specs.Imports.{Derived, intern, mapped_to_t, made, commit, step_t, import_f, import_t}
use Rattle.model.specs.Carry.{carry_cells}
use Rattle.model.specs.Finish.{names_in}
use Rattle.theory_records.specs.TableLaws.{at_same, at_other, apart}
use Rattle.theory_records.specs.RecordLaws.{kept, kept-last}
use Rattle.theory_records.specs.Trace.{Other, once_is, settle_recs, settle_here, settle_other, settle_size}
use Rattle.theory_finish.specs.Known.{name_table}
use Rattle.theory_finish.specs.Borne.{shift_names, carry_names, merged_old, merged-new, Allowed, a_name, a_record, Alloweds, mores_allowed, refs_names}

-- ---- a name appears: a record of a table has it, or a function
pub data Appears (s : Derived) (j : ℕ) : Type 0 where
  in_table : (t : Tab) → is_t t names ≡ false → Mem j (names_in (flat_all (at t s.recs))) → Appears s j
  in_function_lem : Mem j (names_in (flat_all (map flat s.functions))) → Appears s j

-- or it waits: a name of the source that L holds is mapped to it; or it is one that J holds
pub data Where (L J : ℕ → Type 0) (s : Derived) (j : ℕ) : Type 0 where
  appears : Appears s j → Where L J s j
  waits : (n : ℕ) → L n → map_at s.maps names n ≡ suc j → Where L J s j
  held : J j → Where L J s j

-- EVERY derived name appears, waits, or is held
pub record Shown (T : Tables) (L J : ℕ → Type 0) (s : Derived) : Type 0 where
  pub room : count T names ≤ length (at names s.maps)
  pub range : (n : ℕ) → L n → n < count T names
  pub all : (j : ℕ) → j < length (name_table s) → Where L J s j

abbrev pub Or : (ℕ → Type 0) → (ℕ → Type 0) → ℕ → Type 0
Or L M n = L n ⊎ M n

abbrev pub Bears : Cells → ℕ → Type 0
Bears r n = Mem n (names_in r)

-- ---- other names wait, others are held
pub where_map : {L M J K : ℕ → Type 0} {s : Derived} {j : ℕ} → ((n : ℕ) → L n → map_at s.maps names n ≡ suc j → Where M K s j) → (J j → K j) → Where L J s j → Where M K s j
where_map f g (appears a) = appears a
where_map f g (waits n l e) = f n l e
where_map f g (held h) = held (g h)

pub more_waits : {T : Tables} {L M J : ℕ → Type 0} {s : Derived} → ((n : ℕ) → M n → n < count T names) → Shown T L J s → Shown T (Or L M) J s
more_waits h v = record { room = v.room; range = λ n. ⊎_elim (v.range n) (h n); all = λ j l. where_map (λ n k e. waits n (inl k) e) (λ k. k) (v.all j l) }

-- those that wait are held now
pub waits_held : {T : Tables} {L M J K : ℕ → Type 0} {s : Derived} → ((n j : ℕ) → M n → map_at s.maps names n ≡ suc j → K j) → Shown T (Or L M) J s → Shown T L (Or J K) s
waits_held f v = record { room = v.room; range = λ n l. v.range n (inl l); all = λ j l. where_map (λ n k e. ⊎_elim (λ a. waits n a e) (λ b. held (inr (f n j b e))) k) inl (v.all j l) }

pub held-map : {T : Tables} {L J K : ℕ → Type 0} {s : Derived} → ((j : ℕ) → J j → K j) → Shown T L J s → Shown T L K s
held-map g v = record { room = v.room; range = v.range; all = λ j l. where_map (λ n k e. waits n k e) (g j) (v.all j l) }

-- ---- interning a name: it waits
module _ {T : Tables} {L J : ℕ → Type 0} (n : ℕ) (r : Cells) (s : Derived) (l : L n) (e : map_at s.maps names n ≡ 0) (v : Shown T L J s) where
  abbrev s₁ : Derived
  s₁ = intern names n r s

  table_there : (t : Tab) {j : ℕ} → is_t t names ≡ false → Mem j (names_in (flat_all (at t s.recs))) → Appears s₁ j
  unfolding intern
  table_there t q m = in_table t q (rw (at_other names t (interned (name_table s) r) s.recs λ p. apart t names q (sym p)) m)

  there : {j : ℕ} → Appears s j → Appears s₁ j
  unfolding intern
  there (in_table t q m) = table_there t q m
  there (in_function_lem m) = in_function_lem m

  still : {j : ℕ} → Where L J s j → Where L J s₁ j
  unfolding Other
  still (appears a) = appears (there a)
  still {j} (waits k h p) =
      elim (ℕ_discrete k n) [
        | yes q ↦ absurd (differ k q p)
        | no q ↦ waits k h (settle_other names n r s names k (λ a b. q b) ∙ p)
      ]
    where
      differ : (k : ℕ) → k ≡ n → map_at s.maps names k ≡ suc j → ⊥
      differ k q p = let z : map_at s.maps names n ≡ suc j = rw q at p in omega arith
  still (held h) = held h

  pub settle_name : Shown T L J (intern names n r s)
  settle_name = record {
    room = rw (settle_size names n r s names) v.room;
    range = v.range;
    all = λ j h. every j (unfold intern in rw (at_same names (interned (name_table s) r) s.recs) at h);
  }
    where
      in_map : n < length (at names s.maps)
      in_map = omega (arith, v.range n l, v.room)

      every : (j : ℕ) → j < length (interned (name_table s) r) → Where L J s₁ j
      every j h =
          elim (dec_lt j (length (name_table s))) [
            | yes q ↦ still (v.all j q)
            | no q ↦ waits n l (settle_here names n r s in_map ∙ ap suc (sym (kept-last (kept r (name_table s)) j h q).2))
          ]

-- ---- interning another record: what waits for it appears
module _ {T : Tables} {L M J : ℕ → Type 0} (t : Tab) (q : is_t t names ≡ false) (n : ℕ) (r : Cells) (s : Derived) (f : (k j : ℕ) → M k → map_at s.maps names k ≡ suc j → Mem j (names_in r)) (v : Shown T (Or L M) J s) where
  abbrev s₂ : Derived
  s₂ = intern t n r s

  names_same : name_table s₂ ≡ name_table s
  unfolding intern
  names_same = at_other t names (interned (at t s.recs) r) s.recs (apart t names q)

  maps-same : at names s₂.maps ≡ at names s.maps
  unfolding intern
  maps-same = at_other t names (set (at t s.maps) n (suc (index_of (at t s.recs) r))) s.maps (apart t names q)

  there' : {j : ℕ} → Appears s j → Appears s₂ j
  there' {j} (in_table u p m) = in_table u p (settle_recs t n r s u (λ (ds : List Cells). Mem j (names_in (flat_all ds))) (λ z. merged_old (at u s.recs) r m) m)
  there' (in_function_lem m) = in_function_lem (unfold intern in m)

  new : {j : ℕ} → Mem j (names_in r) → Appears s₂ j
  unfolding intern
  new m = in_table t q (rw (at_same t (interned (at t s.recs) r) s.recs) (merged-new (at t s.recs) r m))

  still' : {j : ℕ} → Where (Or L M) J s j → Where L J s₂ j
  still' (appears a) = appears (there' a)
  still' {j} (waits k (inl l) e) = waits k l (unfold map_at in rw maps-same (unfold map_at in e))
  still' {j} (waits k (inr m) e) = appears (new (f k j m e))
  still' (held h) = held h

  pub settle_record : Shown T L J (intern t n r s)
  settle_record = record {
    room = rw maps-same v.room;
    range = λ k l. v.range k (inl l);
    all = λ j h. still' (v.all j (rw names_same at h));
  }

an_expression : (L : ℕ → Type 0) (n : ℕ) → Allowed L (table exprs) n
unfolding is_t code_t
an_expression L n = a_record refl

-- ---- the import, from a source whose names refer to nothing and whose records have names in range
module _ (o : ℕ) (T : Tables) (plain : (k : ℕ) → refs (rec_at T names k) ≡ []) (low : (t : Tab) (n k : ℕ) → Mem k (names_in (rec_at T t n)) → k < count T names) where
  each_shown : (imp : Tab → ℕ → Derived → Derived) (L J : ℕ → Type 0) → ((t : Tab) (n : ℕ) (s : Derived) → Allowed L (table t) n → Shown T L J s → Shown T L J (imp t n s))
      → (js : List Node) → Alloweds L js → (s : Derived) → Shown T L J s → Shown T L J (fold_refs js (step_t imp) s)
  unfolding fold_refs step_t
  each_shown imp L J h [] a s v = v
  each_shown imp L J h (j ∷ js) a s v = each_shown imp L J h js a.1 (step_t imp j.place j.num s) (one j.place j.num a.0)
    where
      one : (p : Place) (n : ℕ) → Allowed L p n → Shown T L J (step_t imp p n s)
      one (table t) n a = h t n s a v
      one own n a = h exprs n s (an_expression L n) v
      one function n a = v

  borne : (t : Tab) (n : ℕ) (s : Derived) (k j : ℕ) → Bears (rec_at T t n) k → map_at s.maps names k ≡ suc j → Mem j (names_in (made o T t n s))
  borne t n s k j m p = unfold made in rw (shift_names (carry_cells (through (mapped_to_t s)) (rec_at T t n)) o false) (carry_names (mapped_to_t s) (rec_at T t n) m (unfold mapped_to_t in p))

  fuel_shown : (f : ℕ) (L J : ℕ → Type 0) (t : Tab) (n : ℕ) (s : Derived) → Allowed L (table t) n → Shown T L J s → Shown T L J (import_f f o T t n s)
  unfolding import_f
  fuel_shown zero L J t n s a v = v
  fuel_shown (suc f) L J t n s a v = once_is o T (Shown T L J) (map_at s.maps t n) _ s (λ e. go t n a e (λ M js b r w. each_shown (import_f f o T) M J (λ u k x c y. fuel_shown f M J u k x c y) js b r w)) (λ h. v)
    where
      go : (t : Tab) (n : ℕ) → Allowed L (table t) n → map_at s.maps t n ≡ 0
          → ((M : ℕ → Type 0) (js : List Node) → Alloweds M js → (r : Derived) → Shown T M J r → Shown T M J (fold_refs js (step_t (import_f f o T)) r))
          → Shown T L J (commit o T t n (fold_refs (refs (rec_at T t n)) (step_t (import_f f o T)) s))
      go t n (a_name l) e ih = rw (plain n) (unfold commit fold_refs in settle_name n (made o T names n s) s l e v)
      go t n (a_record q) e ih =
          let r = rec_at T t n in
          let s₁ : Derived = fold_refs (refs r) (step_t (import_f f o T)) s in
          let w : Shown T (Or L (Bears r)) J s₁ = ih (Or L (Bears r)) (refs r) (mores_allowed (λ k m. inr m) (refs r) (refs_names r)) s (more_waits (low t n) v) in
          unfold commit in settle_record t q n (made o T t n s₁) s₁ (λ k j m p. borne t n s₁ k j m p) w

  -- AN IMPORT of what is allowed
  pub import_shown : (L J : ℕ → Type 0) (t : Tab) (n : ℕ) (s : Derived) → Allowed L (table t) n → Shown T L J s → Shown T L J (import_t o T t n s)
  unfolding import_t
  import_shown L J t n s a v = fuel_shown _ L J t n s a v
