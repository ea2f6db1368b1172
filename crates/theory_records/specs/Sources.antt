-- A source that is set, with its special types, keeps what imports keep; and so do entry points. So the tables that link derives pass tests 3 and 4.
use Rattle.std.specs.Prelude.{◌≡◌, refl, Bool, false, eqb, ltb, length, get_or, set}
use Rattle.std.proofs.Common.{◌∙◌, arith, le_trans, le_of_suc-le-suc}
use Rattle.std.proofs.Math.Bool.{true}
use mathlib.Core.List.{List, [], ◌∷◌, ◌++◌}
use Prim.Native.Nat.{ℕ, zero, suc, ◌<◌, ◌≤◌, pred}
use borrow.Author.Tests.{ltb-true}
use Rattle.theory_lists.specs.Booleans.{and_split}
use Rattle.model.specs.Outcome.{Cells, word}
use Rattle.model.specs.Table.{TYPE, OPT_TYPE, KEY}
use Rattle.model.specs.Tree.{Entry, flat, flat_entry}
use Rattle.model.specs.Module.{Special, Module, pair_row}
use Rattle.model.specs.Carry.{Each, each_none, each_next, Lays, WellFormed}
use Rattle.model.specs.Names.{field}
use Rattle.model.specs.Numbers.{caps, bound, below as under, within, every, outside, inside, constant_only, sound, sound_function, sound_entry, numbered}
use Rattle.model.specs.Lower.{lower}
use Rattle.model.specs.Tables.{types, at, six, Tables, tables, count, map_at}
use Rattle.model.specs.Imports.{Derived, intern, commit, import_t, unmapped, emptied, fresh}
use Rattle.model.specs.References.{refs}
use Rattle.model.specs.Bodies.{follow, entered, enter_all}
use Rattle.model.specs.Special.{force, with_special, put_ray, ray_to, ray, rays, keyed, put_pair, pair_to, pairs, sourced}
use Rattle.model.specs.Finish.{gathered}
use Rattle.model.specs.Link.{append_all}
use Rattle.theory_image.specs.Plain.{plain?}
use Rattle.theory_image.specs.Quiet.{Plainly, plain-none, plain-next, plainly}
use Rattle.theory_image.specs.Within.{within-append}
use Rattle.theory_records.specs.Trace.{Sized, Trace, keep_rule₂, import_trace}
use Rattle.theory_records.specs.Theorems.{Inside, Distinct, trace_grows}
use Rattle.theory_records.specs.Tested.{Threes, Fours, tested_wf}
use Rattle.theory_records.specs.Imported.{Kept, emptied-kept, fresh_kept, import_kept, force-kept, derived-three, derived_four}
use Rattle.theory_records.specs.Functions.{cells_in, each_kept, final-kept, import_function_kept, map_function_kept}

-- what is kept, and the special types that are derived are there
pub record Held (T : Tables) (s : Derived) : Type 0 where
  pub kept : Kept T s
  pub rays : (k : ℕ) → word (get_or s.special.rays k (0, 0)) ≤ count s.recs types
  pub keys : (key : ℕ) → keyed s.special.pairs key ≤ count s.recs types

special-kept : (T : Tables) (p : Special) (s : Derived) → Kept T s → Kept T (with_special p s)
unfolding with_special Sized Inside Distinct
special-kept T p s k = record { base = record { sized = k.base.sized; inside = k.base.inside; wf = k.base.wf; distinct = k.base.distinct }; fit = k.fit }

-- imports leave the special types
pub trace_special : (o : ℕ) (T : Tables) {a b : Derived} → Trace o T a b → b.special ≡ a.special
unfolding commit intern
trace_special o T = keep_rule₂ (λ s r. r.special ≡ s.special) (λ s. refl) (λ a b c p q. q ∙ p) (λ s t n r. refl)

set_word : (l : Cells) (k v b j : ℕ) → v ≤ b → word (get_or l j (0, 0)) ≤ b → word (get_or (set l k (OPT_TYPE, v)) j (0, 0)) ≤ b
set_word [] k v b j h g = g
set_word (x ∷ l) zero v b zero h g = h
set_word (x ∷ l) zero v b (suc j) h g = g
set_word (x ∷ l) (suc k) v b zero h g = g
set_word (x ∷ l) (suc k) v b (suc j) h g = set_word l k v b j h g

keyed-append : (ps : List Cells) (r : Cells) (key b : ℕ) → keyed ps key ≤ b → suc (field TYPE r) ≤ b → keyed (ps ++ (r ∷ [])) key ≤ b
unfolding keyed
keyed-append [] r key b h g = go (eqb (field KEY r) key)
  where
    go : (z : Bool) → (let v : ℕ = elim z [ true ↦ suc (field TYPE r) | false ↦ 0 ] in v) ≤ b
    go true = g
    go false = omega arith
keyed-append (q ∷ ps) r key b h g = go (eqb (field KEY q) key) h (keyed-append ps r key b)
  where
    go : (z : Bool) → (let v : ℕ = elim z [ true ↦ suc (field TYPE q) | false ↦ keyed ps key ] in v) ≤ b → (keyed ps key ≤ b → suc (field TYPE r) ≤ b → keyed (ps ++ (r ∷ [])) key ≤ b)
        → (let v : ℕ = elim z [ true ↦ suc (field TYPE q) | false ↦ keyed (ps ++ (r ∷ [])) key ] in v) ≤ b
    go true h ih = h
    go false h ih = ih h g

module _ (m : Module) (well : WellFormed m) (three : numbered m ≡ true) (four : lower m ≡ true) (o : ℕ) where
  abbrev T : Tables
  T = tables m

  type_held : (n : ℕ) (s : Derived) → n < count T types → Held T s → Held T (import_t o T types n s)
  type_held n s h k =
      let w = (import_trace o T (tested_wf m well three four) types n s h k.kept.base.sized).0 in
      let g : count s.recs types ≤ count (import_t o T types n s).recs types = (trace_grows o T (tested_wf m well three four) w).longer types in
      let e : (import_t o T types n s).special ≡ s.special = trace_special o T w in
      record { kept = (import_kept m well three four o types n s h k.kept).0; rays = λ j. rw e (le_trans (k.rays j) g); keys = λ key. rw e (le_trans (k.keys key) g) }

  -- ---- the three by place
  force-held : (n v : ℕ) (s : Derived) → v ≤ count s.recs types → Held T s → Held T (force n v s)
  unfolding force
  force-held n v s h k = record { kept = force-kept T n v s h k.kept; rays = k.rays; keys = k.keys }

  put_ray_held : (k n : ℕ) (s : Derived) → Held T s → Held T (put_ray k n s)
  unfolding put_ray with_special Inside
  put_ray_held k n s h = record {
    kept = special-kept T _ s h.kept;
    rays = λ j. set_word s.special.rays k (map_at s.maps types n) (count s.recs types) j (h.kept.base.inside types n) (h.rays j);
    keys = h.keys;
  }

  ray_to_held : (v k n : ℕ) (s : Derived) → v ≤ count s.recs types → n < count T types → Held T s → Held T (ray_to v k n o T s)
  unfolding ray_to
  ray_to_held zero k n s l h d = put_ray_held k n (import_t o T types n s) (type_held n s h d)
  ray_to_held (suc v) k n s l h d = force-held n (suc v) s l d

  ray-held : (w k : ℕ) (s : Derived) → w ≤ count T types → Held T s → Held T (ray w k o T s)
  unfolding ray
  ray-held zero k s l d = d
  ray-held (suc n) k s l d = ray_to_held (word (get_or s.special.rays k (0, 0))) k n s (d.rays k) l d

  rays-held : (cs : Cells) → Plainly (OPT_TYPE ∷ OPT_TYPE ∷ OPT_TYPE ∷ []) cs → within (outside m) cs ≡ true → (s : Derived) → Held T s → Held T (rays cs 0 o T s)
  unfolding rays within bound caps under outside count tables at
  rays-held _ (plain-next {w = a} (plain-next {w = b} (plain-next {w = c} plain-none))) h s d =
      let x = and_split (ltb a (suc (length m.types))) _ h in
      let y = and_split (ltb b (suc (length m.types))) _ x.1 in
      let z = and_split (ltb c (suc (length m.types))) _ y.1 in
      ray-held c 2 _ (le_of_suc-le-suc (ltb-true _ _ z.0)) (ray-held b 1 _ (le_of_suc-le-suc (ltb-true _ _ y.0)) (ray-held a 0 s (le_of_suc-le-suc (ltb-true _ _ x.0)) d))

  -- ---- the pairs by key
  put_pair_held : (key n : ℕ) (s : Derived) → 0 < map_at s.maps types n → Held T s → Held T (put_pair key n s)
  unfolding put_pair with_special Inside
  put_pair_held key n s l h = record {
    kept = special-kept T _ s h.kept;
    rays = h.rays;
    keys = λ j. keyed-append s.special.pairs _ j (count s.recs types) (h.keys j) (unfold field in (let g : suc (pred (map_at s.maps types n)) ≤ count s.recs types = omega (arith, l, h.kept.base.inside types n) in g));
  }

  pair_to_held : (v key n : ℕ) (s : Derived) → v ≤ count s.recs types → n < count T types → Held T s → Held T (pair_to v key n o T s)
  unfolding pair_to
  pair_to_held zero key n s l h d = put_pair_held key n (import_t o T types n s) (import_kept m well three four o types n s h d.kept).1 (type_held n s h d)
  pair_to_held (suc v) key n s l h d = force-held n (suc v) s l d

  pair_in : {r : Cells} → Plainly (KEY ∷ TYPE ∷ []) r → within (outside m) r ≡ true → field TYPE r < count T types
  unfolding within bound caps under outside count tables at field
  pair_in (plain-next {w = a} (plain-next {w = b} plain-none)) h = ltb-true b (length m.types) (and_split (ltb b (length m.types)) true h).0

  pairs-held : (rs : List Cells) → Each (Lays pair_row) rs → every (within (outside m)) rs ≡ true → (s : Derived) → Held T s → Held T (pairs rs o T s)
  unfolding pairs every plain?
  pairs-held _ each_none h s d = d
  pairs-held _ (each_next {a = r} {l = rs} p ps) h s d =
      let a = and_split (within (outside m) r) (every (within (outside m)) rs) h in
      pairs-held rs ps a.1 _ (pair_to_held (keyed s.special.pairs (field KEY r)) (field KEY r) (field TYPE r) s (d.keys (field KEY r)) (pair_in (plainly p refl) a.0) d)

  -- ---- set_shader_source
  specials : (within (outside m) m.special.rays ≡ true) × (every (within (outside m)) m.special.pairs ≡ true) × (every (sound_entry (outside m)) m.entries ≡ true)
  unfolding numbered
  specials =
      let a = and_split (every (within (outside m)) m.types) _ three in
      let b = and_split (every (within (outside m)) m.constants) _ a.1 in
      let c = and_split (every (within (outside m)) m.overrides) _ b.1 in
      let d = and_split (every (within (outside m)) m.globals) _ c.1 in
      let e = and_split (every (within (outside m)) m.exprs) _ d.1 in
      let f = and_split (every constant_only m.exprs) _ e.1 in
      let g = and_split (every (sound_function (outside m)) m.functions) _ f.1 in
      let i = and_split (every (sound_entry (outside m)) m.entries) _ g.1 in
      let j = and_split (within (outside m) m.special.rays) _ i.1 in
      (j.0, j.1, i.0)

  emptied-held : (T' : Tables) (s : Derived) → Held T' s → Held T (emptied (unmapped T) s)
  unfolding emptied
  emptied-held T' s h = record { kept = emptied-kept T' T s h.kept; rays = h.rays; keys = h.keys }

  -- SETTING A SOURCE KEEPS IT
  pub sourced-held : (T' : Tables) (s : Derived) → Held T' s → Held T (sourced o m s)
  unfolding sourced plain?
  sourced-held T' s h =
      pairs-held m.special.pairs well.pairs-ok.each specials.1 _ (rays-held m.special.rays (plainly well.rays-ok refl) specials.0 (emptied (unmapped T) s) (emptied-held T' s h))

  -- ---- functions in order, and entry points
  pub append_all_kept : (is : List ℕ) (s : Derived) → Kept T s → Kept T (append_all is o m s)
  unfolding append_all
  append_all_kept [] s k = k
  append_all_kept (i ∷ is) s k = append_all_kept is _ (import_function_kept m well three four o i s k)

  entered-kept : (e : Entry) → sound_entry (outside m) e ≡ true → (s : Derived) → Kept T s → Kept T (entered o m e s).out
  unfolding entered sound flat_entry
  entered-kept e h s k =
      let b = inside (outside m) e.function in
      let w = within-append b e.head (flat e.function) (and_split (within b (e.head ++ flat e.function)) _ h).0 in
      each_kept m well three four o (follow o m) (map_function_kept m well three four o) (λ x y. y) (λ x y z. z) (refs e.head) (cells_in m e.function e.head w.0) _
      (final-kept m well three four o (follow o m) (map_function_kept m well three four o) e.function w.1 s k)

  enter_all_kept : (es : List Entry) → every (sound_entry (outside m)) es ≡ true → (s : Derived) → Kept T s → Kept T (enter_all es o m s)
  unfolding enter_all every
  enter_all_kept [] h s k = k
  enter_all_kept (e ∷ es) h s k = let a = and_split (sound_entry (outside m) e) (every (sound_entry (outside m)) es) h in enter_all_kept es a.1 _ (entered-kept e a.0 s k)

  pub entries_kept : (s : Derived) → Kept T s → Kept T (enter_all m.entries o m s)
  entries_kept s k = enter_all_kept m.entries specials.2 s k

-- ---- from nothing
pub fresh-held : Held fresh.recs (emptied (unmapped fresh.recs) fresh)
unfolding emptied fresh keyed
fresh-held = record { kept = fresh_kept; rays = none; keys = λ key. omega arith }
  where
    none : (k : ℕ) → word (get_or ((OPT_TYPE, 0) ∷ (OPT_TYPE, 0) ∷ (OPT_TYPE, 0) ∷ []) k (0, 0)) ≤ count fresh.recs types
    none zero = omega arith
    none (suc zero) = omega arith
    none (suc (suc zero)) = omega arith
    none (suc (suc (suc k))) = omega arith

fresh_is : emptied (unmapped fresh.recs) fresh ≡ fresh
unfolding emptied unmapped fresh six count at
fresh_is = refl

-- THE TABLES THAT LINK DERIVES PASS TESTS 3 AND 4, whatever the order of functions; names are not numbered again yet
module _ (m : Module) (well : WellFormed m) (three : numbered m ≡ true) (four : lower m ≡ true) (is : List ℕ) where
  abbrev pub end : Derived
  end = enter_all m.entries 0 m (append_all is 0 m (sourced 0 m fresh))

  pub link-kept : Kept (tables m) end
  link-kept = entries_kept m well three four 0 _ (append_all_kept m well three four 0 is _ (sourced-held m well three four 0 fresh.recs fresh (rw fresh_is at fresh-held)).kept)

  pub link-three : (es : List Entry) → Threes (gathered end es)
  link-three es = derived-three (tables m) end es link-kept

  pub link_four : (es : List Entry) → Fours (gathered end es)
  link_four es = derived_four (tables m) end es link-kept
