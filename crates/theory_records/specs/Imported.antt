-- What a session's imports of tables' records keep, from a source that passed intake: the maps are those of the source, what is mapped is a derived record, and the derived tables are well formed, hold no two equal records and pass tests 3 and 4. The start of a session, a new source, an import and a special type that is mapped by hand each keep it.
use Rattle.std.specs.Prelude.{◌≡◌, refl, true, List, [], ◌∷◌, ℕ, zero, suc, ◌<◌, ◌≤◌, length, get_or, set, replicate}
use Rattle.std.proofs.Common.{sym, ◌∙◌, arith, length-set}
use Rattle.std.proofs.lemmas.List.{length-replicate}
use Rattle.theory_lists.specs.Lists.{zeros}
use Rattle.model.specs.Tree.{Entry}
use Rattle.model.specs.Module.{Module}
use Rattle.model.specs.Carry.{WellFormed}
use Rattle.model.specs.Numbers.{numbered}
use Rattle.model.specs.Lower.{lower}
use Rattle.model.specs.Tables.{Tab, types, at, Tables, tables, count, map_at}
use Rattle.model.specs.Imports.{Derived, import_t, unmapped, emptied, fresh}
use Rattle.model.specs.Special.{force}
use Rattle.model.specs.Finish.{gathered}
use Rattle.theory_records.specs.TableLaws.{Tab_dec, at_same, at_other, at-six}
use Rattle.theory_records.specs.Well.{WF}
use Rattle.theory_records.specs.Trace.{Sized, Keeps, trace_keeps, once_is, import_is, import_trace}
use Rattle.theory_records.specs.Theorems.{Inside, NoDup, Distinct, Base, trace_base}
use Rattle.theory_records.specs.Tested.{Threes, Fours, tested_wf}
use Rattle.theory_records.specs.Passing.{Fit, trace_fit, tested-fit, passes-three, passes_four}

pub record Kept (T : Tables) (s : Derived) : Type 0 where
  pub base : Base T s
  pub fit : Fit s.recs

-- ---- the start

pub none-mapped : (T : Tables) (t : Tab) (n : ℕ) → map_at (unmapped T) t n ≡ 0
unfolding unmapped map_at
none-mapped T t n = rw (at-six t (λ u. replicate {A = ℕ} (count T u) 0)) (zeros (count T t) n)

no_records : (t : Tab) → at t fresh.recs ≡ []
unfolding fresh
no_records t = at-six t (λ u. [])

-- "Setting and clearing empty every map but the function map": the tables stay, nothing is mapped
pub emptied-kept : (T T' : Tables) (s : Derived) → Kept T s → Kept T' (emptied (unmapped T') s)
unfolding emptied Sized Inside Distinct unmapped count
emptied-kept T T' s k = record {
  base = record {
    sized = λ u. rw (at-six u (λ t. replicate {A = ℕ} (count T' t) 0)) (length-replicate {A = ℕ} (count T' u) 0);
    inside = λ t n. omega (arith, none-mapped T' t n);
    wf = k.base.wf;
    distinct = k.base.distinct;
  };
  fit = k.fit;
}

pub fresh_kept : Kept fresh.recs (emptied (unmapped fresh.recs) fresh)
unfolding emptied Sized Inside Distinct NoDup unmapped count WF Fit
fresh_kept = record {
  base = record {
    sized = λ u. rw (at-six u (λ t. replicate {A = ℕ} (count fresh.recs t) 0)) (length-replicate {A = ℕ} (count fresh.recs u) 0);
    inside = λ t n. omega (arith, none-mapped fresh.recs t n);
    wf = λ t n h. absurd (let z : n < 0 = rw (no_records t) at h in omega arith);
    distinct = λ u i j a b e. absurd (let z : i < 0 = rw (no_records u) at a in omega arith);
  };
  fit = λ t n h. absurd (let z : n < 0 = rw (no_records t) at h in omega arith);
}

-- ---- a source that passed
module _ (m : Module) (well : WellFormed m) (three : numbered m ≡ true) (four : lower m ≡ true) (o : ℕ) where
  -- an import, after which its number is mapped
  pub import_kept : (t : Tab) (n : ℕ) (s : Derived) → n < count (tables m) t → Kept (tables m) s → Kept (tables m) (import_t o (tables m) t n s) × (0 < map_at (import_t o (tables m) t n s).maps t n)
  import_kept t n s h k =
      let w = import_trace o (tables m) (tested_wf m well three four) t n s h k.base.sized in
      (record { base = trace_base o (tables m) (tested_wf m well three four) w.0 k.base; fit = trace_fit o (tables m) (tested-fit m well three four) w.0 k.fit }, w.1)

  -- what is mapped stays mapped, and a number that is mapped is not imported again: with the above, all that the import of a function requires of the tables
  pub import_keeps : (t : Tab) (n : ℕ) (s : Derived) → n < count (tables m) t → Kept (tables m) s → Keeps s (import_t o (tables m) t n s)
  import_keeps t n s h k = trace_keeps o (tables m) (import_trace o (tables m) (tested_wf m well three four) t n s h k.base.sized).0

  pub import_idle : (t : Tab) (n : ℕ) (s : Derived) → n < count (tables m) t → 0 < map_at s.maps t n → import_t o (tables m) t n s ≡ s
  import_idle t n s h l = import_is o (tables m) (tested_wf m well three four) t n s h ∙ once_is o (tables m) (λ r. r ≡ s) (map_at s.maps t n) _ s (λ e. absurd (omega arith)) (λ g. refl)

-- ---- a special type whose place is taken
force-maps : (n v : ℕ) (s : Derived) (u : Tab) (P : List ℕ → Type 0) → (u ≡ types → P (set (at u s.maps) n v)) → P (at u s.maps) → P (at u (force n v s).maps)
unfolding force
force-maps n v s u P f g =
    elim (Tab_dec types u) [
      | yes p ↦ rw (← p, at_same types (set (at types s.maps) n v) s.maps) (let h = f (sym p) in rw (← p) at h)
      | no p ↦ rw (at_other types u (set (at types s.maps) n v) s.maps p) g
    ]

set_le : (l : List ℕ) (n v b j : ℕ) → v ≤ b → get_or l j 0 ≤ b → get_or (set l n v) j 0 ≤ b
set_le [] n v b j h g = g
set_le (x ∷ l) zero v b zero h g = h
set_le (x ∷ l) zero v b (suc j) h g = g
set_le (x ∷ l) (suc n) v b zero h g = g
set_le (x ∷ l) (suc n) v b (suc j) h g = set_le l n v b j h g

pub force-kept : (T : Tables) (n v : ℕ) (s : Derived) → v ≤ count s.recs types → Kept T s → Kept T (force n v s)
unfolding force Sized Inside Distinct map_at
force-kept T n v s h k = record {
  base = record {
    sized = λ u. force-maps n v s u (λ l. length l ≡ count T u) (λ p. length-set (at u s.maps) n v ∙ k.base.sized u) (k.base.sized u);
    inside = λ u j. force-maps n v s u (λ l. get_or l j 0 ≤ count s.recs u) (λ p. set_le (at u s.maps) n v (count s.recs u) j (rw p h) (k.base.inside u j)) (k.base.inside u j);
    wf = k.base.wf;
    distinct = k.base.distinct;
  };
  fit = k.fit;
}

-- ---- THE DERIVED TABLES PASS TESTS 3 AND 4
pub gathered-tables : (s : Derived) (es : List Entry) → tables (gathered s es) ≡ s.recs
unfolding tables gathered
gathered-tables s es = refl

pub derived-three : (T : Tables) (s : Derived) (es : List Entry) → Kept T s → Threes (gathered s es)
derived-three T s es k = passes-three (gathered s es) (rw (gathered-tables s es) k.base.wf) (rw (gathered-tables s es) k.fit)

pub derived_four : (T : Tables) (s : Derived) (es : List Entry) → Kept T s → Fours (gathered s es)
derived_four T s es k = passes_four (gathered s es) (rw (gathered-tables s es) k.base.wf) (rw (gathered-tables s es) k.fit)
