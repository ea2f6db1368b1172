-- THE SPECIAL TYPES of the source that a fresh session sets. No place is taken yet and no key is there twice, so each type is imported and put, and none is mapped by hand: what holds of imports holds after setting, and the special types are the source's, carried through the maps.
use Rattle.std.specs.Prelude.{◌≡◌, true, false, not, eqb, ltb, length, get_or}
use Rattle.std.proofs.Math.Path.{refl, sym, ap}
use Rattle.std.proofs.Common.{◌∙◌, le_refl, le_of_suc-le-suc, arith, ltb-true}
use mathlib.Core.List.{List, [], ◌∷◌, ◌++◌, map, append_assoc, append-nil}
use Prim.Native.Nat.{ℕ, zero, suc, ◌<◌, ◌≤◌, pred}
use Rattle.std.proofs.Math.ListN.{set}
use Rattle.std.proofs.lemmas.Bool.{not-true}
use Rattle.theory_lists.specs.Booleans.{and_split}
use Rattle.model.specs.Outcome.{Cell, Cells, class, word}
use Rattle.model.specs.Table.{OPT_TYPE, KEY, TYPE}
use Rattle.model.specs.Module.{Special, Module, pair_row}
use Rattle.model.specs.Carry.{carry_cell, carry_cells, Lays, Each, each_none, each_next, WellFormed}
use Rattle.model.specs.Intake.{Passes}
use Rattle.model.specs.Names.{field, absent, distinct}
use Rattle.model.specs.Numbers.{bound, caps, below as under, within, every, outside}
use Rattle.model.specs.Tables.{Tab, types, at, Tables, tables, count, map_at}
use Rattle.model.specs.References.{table, Target, copied, start, upto, ref, opt, target, targets, Node, ref_of, refs, carry_w, through}
use Rattle.model.specs.Imports.{Derived, mapped_to_t, import_t, unmapped, emptied, fresh}
use Rattle.model.specs.Special.{with_special, put_ray, ray_to, ray, rays, keyed, put_pair, pair_to, pairs, sourced}
use Rattle.theory_bodies.specs.Names.{keys_distinct}
use Rattle.theory_image.specs.Plain.{plain?}
use Rattle.theory_image.specs.Quiet.{Plainly, plain-none, plain-next, plainly}
use Rattle.theory_records.specs.RecordLaws.{All, all_map, Has, carry_same}
use Rattle.theory_records.specs.Trace.{Sized, Keeps, keeps_trans, keeps_went, trace_keeps, import_trace}
use Rattle.theory_records.specs.Theorems.{Grows, Inside, Distinct, Sound, entry-stays, Inv, trace_inv}
use Rattle.theory_records.specs.Tested.{tested_wf}
use Rattle.theory_records.specs.Imported.{none-mapped, emptied-kept, fresh_kept}
use Rattle.theory_records.specs.Sources.{trace_special}
use Rattle.theory_finish.specs.Firsts.{either}
use Rattle.theory_finish.specs.Sessions.{specials_in, pair_in}

-- ---- carried: all that r refers to is mapped, and r' is r through the maps
pub record Carried (s : Derived) (r r' : Cells) : Type 0 where
  pub has : All (Has (mapped_to_t s)) (refs r)
  pub is : r' ≡ carry_cells (through (mapped_to_t s)) r

-- of lists of records, one by one
pub data Rows (s : Derived) : List Cells → List Cells → Type 0 where
  rows_none : Rows s [] []
  rows_next : {r r' : Cells} {rs rs' : List Cells} → Carried s r r' → Rows s rs rs' → Rows s (r ∷ rs) (r' ∷ rs')

pub carried_as : {s : Derived} {r r' r'' : Cells} → r'' ≡ r' → Carried s r r' → Carried s r r''
carried_as e c = record { has = c.has; is = e ∙ c.is }

pub rows_as : {s : Derived} {rs rs' rs'' : List Cells} → rs'' ≡ rs' → Rows s rs rs' → Rows s rs rs''
rows_as e c = rw e c

-- what is mapped stays mapped, so what is carried stays carried
pub carried-stays : {s t : Derived} {r r' : Cells} → Keeps s t → Carried s r r' → Carried t r r'
carried-stays {s} {t} {r} k c = record {
  has = all_map (refs r) (λ j h. rw (keeps_went s t k j.place j.num h) h) c.has;
  is = c.is ∙ sym (carry_same (mapped_to_t s) (mapped_to_t t) r (all_map (refs r) (λ j h. keeps_went s t k j.place j.num h) c.has));
}

pub rows_stay : {s t : Derived} {rs rs' : List Cells} → Keeps s t → Rows s rs rs' → Rows t rs rs'
rows_stay k rows_none = rows_none
rows_stay k (rows_next c cs) = rows_next (carried-stays k c) (rows_stay k cs)

refs_cons : (P : Node → Type 0) (t : Target) (w : ℕ) (rest : List Node) → All P (ref_of t w []) → All P rest → All P (ref_of t w rest)
unfolding ref_of
refs_cons P copied w rest a b = b
refs_cons P start w rest a b = b
refs_cons P upto w rest a b = b
refs_cons P (ref p) w rest a b = (a.0, b)
refs_cons P (opt p) zero rest a b = b
refs_cons P (opt p) (suc n) rest a b = (a.0, b)

carried_cons : {s : Derived} {c d : Cell} {cs ds : Cells} → Carried s (c ∷ []) (d ∷ []) → Carried s cs ds → Carried s (c ∷ cs) (d ∷ ds)
unfolding refs
carried_cons {s} {c} {d} {cs} {ds} p q = record { has = refs_cons (Has (mapped_to_t s)) (target (class c)) (word c) (refs cs) p.has q.has; is = cons p.is q.is }
  where
    cons : d ∷ [] ≡ carry_cells (through (mapped_to_t s)) (c ∷ []) → ds ≡ carry_cells (through (mapped_to_t s)) cs → d ∷ ds ≡ carry_cells (through (mapped_to_t s)) (c ∷ cs)
    cons p q = cc

-- ---- keys
-- a key that is not there is not there after a pair of another key
keyed_snoc : (rs : List Cells) (k t key : ℕ) → keyed rs key ≡ 0 → eqb k key ≡ false → keyed (rs ++ (((KEY, k) ∷ (TYPE, t) ∷ []) ∷ [])) key ≡ 0
unfolding keyed field
keyed_snoc [] k t key h e = rw (keyed, e)
keyed_snoc (r ∷ rs) k t key h e = let i = keyed_snoc rs k t key in either (eqb (field KEY r) key) (λ q. absurd (never (rw (keyed, q) at h))) λ q. rw (keyed, q) (i (rw (keyed, q) at h) e)
  where
    never : suc (field TYPE r) ≡ 0 → ⊥
    never q = omega arith

abbrev Free : List Cells → List Cells → Type 0
Free ps rs = Each (λ r. keyed ps (field KEY r) ≡ 0) rs

free_snoc : (ps : List Cells) (k t : ℕ) {rs : List Cells} → absent (map (field KEY) rs) k ≡ true → Free ps rs → Free (ps ++ (((KEY, k) ∷ (TYPE, t) ∷ []) ∷ [])) rs
unfolding absent
free_snoc ps k t h each_none = each_none
free_snoc ps k t h (each_next {a = r} {l = rs} p fs) = let a = and_split (not (eqb k (field KEY r))) (absent (map (field KEY) rs) k) h in each_next (keyed_snoc ps k t (field KEY r) p (not-true (eqb k (field KEY r)) a.0)) (free_snoc ps k t a.1 fs)

-- ---- steps of a session
-- from a to s: what holds of imports, and what was mapped is mapped as it was
pub record Goes (T : Tables) (a s : Derived) : Type 0 where
  pub inv : Inv T s
  pub keeps : Keeps a s

pub goes_trans : {T : Tables} {a b c : Derived} → Goes T a b → Goes T b c → Goes T a c
goes_trans {T} {a} {b} {c} p q = record { inv = q.inv; keeps = keeps_trans a b c p.keeps q.keeps }

-- functions and special types are no matter
pub still_goes : (T : Tables) (s r : Derived) → r.recs ≡ s.recs → r.maps ≡ s.maps → Inv T s → Goes T s r
unfolding Sized Inside Distinct Sound
still_goes T s r p q i = record {
  inv = record {
    base = record { sized = λ u. rw q (i.base.sized u); inside = λ t n. rw (p, q) (i.base.inside t n); wf = rw p i.base.wf; distinct = λ u. rw p (i.base.distinct u) };
    sound = λ t n h. let l : 0 < map_at s.maps t n = rw q at h in entry-stays T s r t n (i.base.inside t n) grown same l (i.sound t n l);
  };
  keeps = same;
}
  where
    same : Keeps s r
    same = unfold Keeps in λ u k h. rw q

    grown : Grows s.recs r.recs
    grown = record { longer = λ u. rw p (le_refl _); prefix = λ u k h. rw p }

module _ (m : Module) (well : WellFormed m) (ok : Passes m) where
  abbrev T : Tables
  T = tables m

  -- an import
  pub import_goes : (t : Tab) (n : ℕ) (s : Derived) → n < count T t → Inv T s → Goes T s (import_t 0 T t n s) × ((import_t 0 T t n s).special ≡ s.special) × (0 < map_at (import_t 0 T t n s).maps t n)
  import_goes t n s l i =
      let wf = tested_wf m well ok.numbers ok.lowers in
      let w = import_trace 0 T wf t n s l i.base.sized in
      (record { inv = trace_inv 0 T wf w.0 i; keeps = trace_keeps 0 T w.0 }, trace_special 0 T w.0, w.1)

  special_goes : (p : Special) (s : Derived) → Inv T s → Goes T s (with_special p s)
  unfolding with_special
  special_goes p s i = still_goes T s _ refl refl i

  -- ---- the three by place
  record RayPut (w k : ℕ) (s r : Derived) : Type 0 where
    goes : Goes T s r
    rays : r.special.rays ≡ set s.special.rays k (OPT_TYPE, carry_w (mapped_to_t r) (opt (table types)) w)
    pairs : r.special.pairs ≡ s.special.pairs
    has : All (Has (mapped_to_t r)) (ref_of (opt (table types)) w [])

  ray-put : (w k : ℕ) (s : Derived) → word (get_or s.special.rays k (0, 0)) ≡ 0 → set s.special.rays k (OPT_TYPE, 0) ≡ s.special.rays → w ≤ count T types → Inv T s → RayPut w k s (ray w k 0 T s)
  unfolding ray carry_w ref_of
  ray-put zero k s h z l i = record { goes = still_goes T s s refl refl i; rays = sym z; pairs = refl; has = tt }
  ray-put (suc n) k s h z l i = rw h (put (import_goes types n s l i))
    where
      put : Goes T s (import_t 0 T types n s) × ((import_t 0 T types n s).special ≡ s.special) × (0 < map_at (import_t 0 T types n s).maps types n) → RayPut (suc n) k s (ray_to 0 k n 0 T s)
      put w = unfold ray_to put_ray with_special mapped_to_t in record {
        goes = goes_trans w.0 (unfold with_special in special_goes _ _ w.0.inv);
        rays = rw w.1;
        pairs = rw w.1;
        has = (w.2, tt);
      }

  abbrev three : Cells
  three = (OPT_TYPE, 0) ∷ (OPT_TYPE, 0) ∷ (OPT_TYPE, 0) ∷ []

  pub record RaysPut (cs : Cells) (s r : Derived) : Type 0 where
    pub goes : Goes T s r
    pub rays : Carried r cs r.special.rays
    pub pairs : r.special.pairs ≡ s.special.pairs

  ray-cell : (w : ℕ) (s : Derived) → All (Has (mapped_to_t s)) (ref_of (opt (table types)) w []) → Carried s ((OPT_TYPE, w) ∷ []) ((OPT_TYPE, carry_w (mapped_to_t s) (opt (table types)) w) ∷ [])
  unfolding refs target targets carry_cell through
  ray-cell w s h = record { has = h; is = refl }

  rays-put : (cs : Cells) → Plainly (OPT_TYPE ∷ OPT_TYPE ∷ OPT_TYPE ∷ []) cs → within (outside m) cs ≡ true → (s : Derived) → s.special.rays ≡ three → Inv T s → RaysPut cs s (rays cs 0 0 T s)
  unfolding rays within bound caps under outside count tables at
  rays-put _ (plain-next {w = x} (plain-next {w = y} (plain-next {w = z} plain-none))) q s e i =
      let a = and_split (ltb x (suc (length m.types))) _ q in
      let b = and_split (ltb y (suc (length m.types))) _ a.1 in
      let c = and_split (ltb z (suc (length m.types))) _ b.1 in
      let s₁ : Derived = ray x 0 0 T s in
      let p₁ = ray-put x 0 s (rw e) (rw e) (le_of_suc-le-suc (ltb-true _ _ a.0)) i in
      let e₁ : s₁.special.rays ≡ (OPT_TYPE, carry_w (mapped_to_t s₁) (opt (table types)) x) ∷ (OPT_TYPE, 0) ∷ (OPT_TYPE, 0) ∷ [] = p₁.rays ∙ ap (λ l. set l 0 (OPT_TYPE, carry_w (mapped_to_t s₁) (opt (table types)) x)) e in
      let s₂ : Derived = ray y 1 0 T s₁ in
      let p₂ = ray-put y 1 s₁ (rw e₁) (rw e₁) (le_of_suc-le-suc (ltb-true _ _ b.0)) p₁.goes.inv in
      let e₂ : s₂.special.rays ≡ (OPT_TYPE, carry_w (mapped_to_t s₁) (opt (table types)) x) ∷ (OPT_TYPE, carry_w (mapped_to_t s₂) (opt (table types)) y) ∷ (OPT_TYPE, 0) ∷ [] = p₂.rays ∙ ap (λ l. set l 1 (OPT_TYPE, carry_w (mapped_to_t s₂) (opt (table types)) y)) e₁ in
      let s₃ : Derived = ray z 2 0 T s₂ in
      let p₃ = ray-put z 2 s₂ (rw e₂) (rw e₂) (le_of_suc-le-suc (ltb-true _ _ c.0)) p₂.goes.inv in
      let e₃ : s₃.special.rays ≡ (OPT_TYPE, carry_w (mapped_to_t s₁) (opt (table types)) x) ∷ (OPT_TYPE, carry_w (mapped_to_t s₂) (opt (table types)) y) ∷ (OPT_TYPE, carry_w (mapped_to_t s₃) (opt (table types)) z) ∷ [] = p₃.rays ∙ ap (λ l. set l 2 (OPT_TYPE, carry_w (mapped_to_t s₃) (opt (table types)) z)) e₂ in
      let g = goes_trans p₂.goes p₃.goes in
      record {
        goes = goes_trans p₁.goes g;
        rays = carried_as e₃ (carried_cons (carried-stays g.keeps (ray-cell x s₁ p₁.has)) (carried_cons (carried-stays p₃.goes.keeps (ray-cell y s₂ p₂.has)) (ray-cell z s₃ p₃.has)));
        pairs = p₃.pairs ∙ (p₂.pairs ∙ p₁.pairs);
      }

  -- ---- the pairs by key
  record PairPut (r : Cells) (s t : Derived) : Type 0 where
    goes : Goes T s t
    rays : t.special.rays ≡ s.special.rays
    type : ℕ
    pairs : t.special.pairs ≡ s.special.pairs ++ (((KEY, field KEY r) ∷ (TYPE, type) ∷ []) ∷ [])
    carried : Carried t r ((KEY, field KEY r) ∷ (TYPE, type) ∷ [])

  pair_put : (r : Cells) → Plainly (KEY ∷ TYPE ∷ []) r → field TYPE r < count T types → (s : Derived) → Inv T s → PairPut r s (pair_to 0 (field KEY r) (field TYPE r) 0 T s)
  unfolding field
  pair_put _ (plain-next {w = k} (plain-next {w = n} plain-none)) l s i = put (import_goes types n s l i)
    where
      put : Goes T s (import_t 0 T types n s) × ((import_t 0 T types n s).special ≡ s.special) × (0 < map_at (import_t 0 T types n s).maps types n) → PairPut ((KEY, k) ∷ (TYPE, n) ∷ []) s (pair_to 0 k n 0 T s)
      put w = unfold pair_to put_pair with_special field in record {
        goes = goes_trans w.0 (unfold with_special in special_goes _ _ w.0.inv);
        rays = rw w.1;
        type = pred (map_at (import_t 0 T types n s).maps types n);
        pairs = rw w.1;
        carried = unfold refs ref_of target targets carry_cell through carry_w mapped_to_t in record { has = (w.2, tt); is = refl };
      }

  pub record PairsPut (rs : List Cells) (s t : Derived) : Type 0 where
    pub goes : Goes T s t
    pub rays : t.special.rays ≡ s.special.rays
    pub added : List Cells
    pub pairs : t.special.pairs ≡ s.special.pairs ++ added
    pub carried : Rows t rs added

  pairs-put : {rs : List Cells} → Each (Lays pair_row) rs → every (within (outside m)) rs ≡ true → distinct (map (field KEY) rs) ≡ true → (s : Derived) → Free s.special.pairs rs → Inv T s → PairsPut rs s (pairs rs 0 T s)
  unfolding pairs every distinct plain?
  pairs-put each_none q d s f i = record { goes = still_goes T s s refl refl i; rays = refl; added = []; pairs = sym (append-nil s.special.pairs); carried = rows_none }
  pairs-put (each_next {a = r} {l = rs} p ps) q d s (each_next f fs) i =
      let x = and_split (within (outside m) r) (every (within (outside m)) rs) q in
      let y = and_split (absent (map (field KEY) rs) (field KEY r)) (distinct (map (field KEY) rs)) d in
      let one = pair_put r (plainly p refl) (pair_in m ok.numbers (plainly p refl) x.0) s i in
      let s₁ : Derived = pair_to 0 (field KEY r) (field TYPE r) 0 T s in
      let more = pairs-put ps x.1 y.1 s₁ (rw one.pairs (free_snoc s.special.pairs (field KEY r) one.type y.0 fs)) one.goes.inv in
      rw f (record {
        goes = goes_trans one.goes more.goes;
        rays = more.rays ∙ one.rays;
        added = ((KEY, field KEY r) ∷ (TYPE, one.type) ∷ []) ∷ more.added;
        pairs = more.pairs ∙ (ap (◌++ more.added) one.pairs ∙ append_assoc s.special.pairs _ more.added);
        carried = rows_next (carried-stays more.goes.keeps one.carried) more.carried;
      })

  -- ---- SETTING THE SOURCE
  pub record Sets (s : Derived) : Type 0 where
    pub inv : Inv T s
    pub rays : Carried s m.special.rays s.special.rays
    pub pairs : Rows s m.special.pairs s.special.pairs

  start_inv : Inv T (emptied (unmapped T) fresh)
  unfolding Sound
  start_inv = record { base = (unfold emptied fresh in (emptied-kept fresh.recs T _ fresh_kept).base); sound = λ t n h. absurd (unmapped-all t n h) }
    where
      unmapped-all : (t : Tab) (n : ℕ) → 0 < map_at (emptied (unmapped T) fresh).maps t n → ⊥
      unmapped-all t n h = let z : 0 < map_at (unmapped T) t n = (unfold emptied in h) in omega (arith, none-mapped T t n)

  pub sets : Sets (sourced 0 m fresh)
  unfolding sourced plain?
  sets =
      let s₀ : Derived = emptied (unmapped T) fresh in
      let s₁ : Derived = rays m.special.rays 0 0 T s₀ in
      let p₁ = rays-put m.special.rays (plainly well.rays-ok refl) (specials_in m ok.numbers).0 s₀ (unfold emptied fresh in refl) start_inv in
      let none : s₁.special.pairs ≡ [] = p₁.pairs ∙ (unfold emptied fresh in refl) in
      let p₂ = pairs-put well.pairs-ok.each (specials_in m ok.numbers).1 (keys_distinct m ok.names) s₁ (rw none (none_free m.special.pairs)) p₁.goes.inv in
      record {
        inv = p₂.goes.inv;
        rays = carried_as p₂.rays (carried-stays p₂.goes.keeps p₁.rays);
        pairs = rows_as (p₂.pairs ∙ ap (◌++ p₂.added) none) p₂.carried;
      }
    where
      none_free : (rs : List Cells) → Free [] rs
      none_free [] = each_none
      none_free (r ∷ rs) = let k : keyed [] (field KEY r) ≡ 0 = (unfold keyed in refl) in each_next k (none_free rs)
