-- What a session keeps: a fact of a state that every import of a table's record keeps, and every function that is appended, every special type that is put or mapped by hand, holds at every state of a session with a source that passed test 3.
use Rattle.std.specs.Prelude.{◌≡◌, ltb, get_or}
use Rattle.std.proofs.Math.Path.{refl}
use Rattle.std.proofs.Math.Bool.{true}
use mathlib.Core.List.{List, [], ◌∷◌, ◌++◌}
use Prim.Native.Nat.{ℕ, zero, suc, ◌<◌, ◌≤◌}
use Rattle.std.proofs.Common.{le_of_suc-le-suc}
use Rattle.std.proofs.Math.ListN.{length, get_or-eq_default}
use borrow.Author.Tests.{ltb-true, ltb-false}
use Rattle.theory_lists.specs.Booleans.{and_split}
use Rattle.model.specs.Outcome.{Cells, word}
use Rattle.model.specs.Table.{OPT_TYPE, KEY, TYPE}
use Rattle.model.specs.Tree.{Function, Entry, flat_all, flat_list, flat_block, flat_b, size_b, flat, flat_entry}
use Rattle.model.specs.Module.{Module, pair_row}
use Rattle.model.specs.Carry.{Lays, Each, each_none, each_next, WellFormed}
use Rattle.model.specs.Names.{field}
use Rattle.model.specs.Numbers.{bound, caps, below as under, within, every, outside, inside, constant_only, sound, sound_function, sound_entry, numbered}
use Rattle.model.specs.Redirect.{nothing, function as function_at}
use Rattle.model.specs.Tables.{Tab, types, at, tables, count}
use Rattle.model.specs.References.{refs}
use Rattle.model.specs.Imports.{Derived, unless_mapped, import_t, unmapped, emptied}
use Rattle.model.specs.Special.{force, put_ray, ray_to, ray, rays, keyed, put_pair, pair_to, pairs, sourced}
use Rattle.model.specs.Bodies.{known, localized, appended, append, follow_f, follow, entered, enter_all}
use Rattle.model.specs.Link.{append_all}
use Rattle.theory_image.specs.Plain.{plain?}
use Rattle.theory_image.specs.Quiet.{Plainly, plain-none, plain-next, plainly}
use Rattle.theory_image.specs.Within.{within-append}
use Rattle.theory_records.specs.Functions.{cells_in}
use Rattle.theory_records.specs.Tested.{every-at}
use Rattle.theory_finish.specs.Firsts.{either}
use Rattle.theory_finish.specs.Lifted.{each_kept, final-kept}

pub record Keeping (m : Module) (o : ℕ) (K : Derived → Type 0) : Type 0 where
  pub imports : (t : Tab) (n : ℕ) (s : Derived) → n < count (tables m) t → K s → K (import_t o (tables m) t n s)
  pub appends : (f : Function) (s : Derived) → K s → K (appended f s)

-- and for setting a source: a special type that is imported, by place and by key, and one that is mapped to what was derived for its place or its key
pub record Setting (m : Module) (o : ℕ) (K : Derived → Type 0) : Type 0 where
  pub ray-new : (j n : ℕ) (s : Derived) → n < count (tables m) types → K s → K (put_ray j n (import_t o (tables m) types n s))
  pub ray_old : (j n v : ℕ) (s : Derived) → word (get_or s.special.rays j (0, 0)) ≡ suc v → K s → K (force n (suc v) s)
  pub pair-new : (key n : ℕ) (s : Derived) → n < count (tables m) types → keyed s.special.pairs key ≡ 0 → K s → K (put_pair key n (import_t o (tables m) types n s))
  pub pair_old : (key n v : ℕ) (s : Derived) → keyed s.special.pairs key ≡ suc v → K s → K (force n (suc v) s)

module _ (m : Module) (three : numbered m ≡ true) where
  functions_in_lem : every (sound_function (outside m)) m.functions ≡ true
  unfolding numbered
  functions_in_lem =
      let a = and_split (every (within (outside m)) m.types) _ three in
      let b = and_split (every (within (outside m)) m.constants) _ a.1 in
      let c = and_split (every (within (outside m)) m.overrides) _ b.1 in
      let d = and_split (every (within (outside m)) m.globals) _ c.1 in
      let e = and_split (every (within (outside m)) m.exprs) _ d.1 in
      let f = and_split (every constant_only m.exprs) _ e.1 in
      (and_split (every (sound_function (outside m)) m.functions) _ f.1).0

  pub function_in_lem : (n : ℕ) → within (inside (outside m) (function_at m n)) (flat (function_at m n)) ≡ true
  function_in_lem n = either (ltb n (length m.functions)) (λ l. there (ltb-true n (length m.functions) l)) λ l. rw (none_there (ltb-false n (length m.functions) l)) (unfold nothing flat flat_list flat_all flat_block flat_b size_b within bound caps under in refl)
    where
      there : n < length m.functions → within (inside (outside m) (function_at m n)) (flat (function_at m n)) ≡ true
      there l = unfold function_at sound in (and_split (within (inside (outside m) (function_at m n)) (flat (function_at m n))) _ (every-at (sound_function (outside m)) m.functions functions_in_lem n nothing l)).0

      none_there : length m.functions ≤ n → function_at m n ≡ nothing
      none_there l = unfold function_at in get_or-eq_default m.functions nothing {n = n} l

  pub specials_in : (within (outside m) m.special.rays ≡ true) × (every (within (outside m)) m.special.pairs ≡ true) × (every (sound_entry (outside m)) m.entries ≡ true)
  unfolding numbered
  specials_in =
      let a = and_split (every (within (outside m)) m.types) _ three in
      let b = and_split (every (within (outside m)) m.constants) _ a.1 in
      let c = and_split (every (within (outside m)) m.overrides) _ b.1 in
      let d = and_split (every (within (outside m)) m.globals) _ c.1 in
      let e = and_split (every (within (outside m)) m.exprs) _ d.1 in
      let f = and_split (every constant_only m.exprs) _ e.1 in
      let g = and_split (every (sound_function (outside m)) m.functions) _ f.1 in
      let i = and_split (every (sound_entry (outside m)) m.entries) _ g.1 in
      let j = and_split (within (outside m) m.special.rays) _ i.1 in
      (j.0, j.1, i.0)

  pub pair_in : {r : Cells} → Plainly (KEY ∷ TYPE ∷ []) r → within (outside m) r ≡ true → field TYPE r < count (tables m) types
  unfolding within bound caps under outside count tables at field
  pair_in (plain-next {w = x} (plain-next {w = y} plain-none)) h = ltb-true y (length m.types) (and_split (ltb y (length m.types)) true h).0

  module _ {o : ℕ} {K : Derived → Type 0} (k : Keeping m o K) where
    -- ---- functions
    append-kept : (fol : ℕ → Derived → Derived) → ((f : ℕ) (s : Derived) → K s → K (fol f s)) → (n : ℕ) (s : Derived) → K s → K (append o m fol n s)
    unfolding append
    append-kept fol fk n s h = k.appends (localized o m fol (function_at m n) s) _ (final-kept m o K k.imports fol fk (function_at m n) (function_in_lem n) s h)

    once-kept : (v : ℕ) (f : ℕ → Derived) (s : Derived) → K (f 0) → K s → K (unless_mapped v f s)
    unfolding unless_mapped
    once-kept zero f s p q = p
    once-kept (suc v) f s p q = q

    depth_kept : (d n : ℕ) (s : Derived) → K s → K (follow_f d o m n s)
    unfolding follow_f
    depth_kept zero n s h = h
    depth_kept (suc d) n s h = once-kept (known m s n) _ s (append-kept (follow_f d o m) (depth_kept d) n s h) h

    pub follow-kept : (n : ℕ) (s : Derived) → K s → K (follow o m n s)
    unfolding follow
    follow-kept n s h = depth_kept (length m.functions) n s h

    pub function-kept : (n : ℕ) (s : Derived) → K s → K (append o m (follow o m) n s)
    function-kept n s h = append-kept (follow o m) follow-kept n s h

    pub functions_kept : (is : List ℕ) (s : Derived) → K s → K (append_all is o m s)
    unfolding append_all
    functions_kept [] s h = h
    functions_kept (i ∷ is) s h = functions_kept is _ (function-kept i s h)

    -- ---- entry points
    pub entered-kept : (e : Entry) → sound_entry (outside m) e ≡ true → (s : Derived) → K s → K (entered o m e s).out
    unfolding entered sound flat_entry
    entered-kept e q s h =
        let b = inside (outside m) e.function in
        let w = within-append b e.head (flat e.function) (and_split (within b (e.head ++ flat e.function)) _ q).0 in
        each_kept m o K k.imports (follow o m) follow-kept (λ x y. y) (λ x y z. z) (refs e.head) (cells_in m e.function e.head w.0) _ (final-kept m o K k.imports (follow o m) follow-kept e.function w.1 s h)

    pub enter_all_kept : (es : List Entry) → every (sound_entry (outside m)) es ≡ true → (s : Derived) → K s → K (enter_all es o m s)
    unfolding enter_all every
    enter_all_kept [] q s h = h
    enter_all_kept (e ∷ es) q s h = let a = and_split (sound_entry (outside m) e) (every (sound_entry (outside m)) es) q in enter_all_kept es a.1 _ (entered-kept e a.0 s h)

    pub entries_kept : (s : Derived) → K s → K (enter_all m.entries o m s)
    entries_kept s h = enter_all_kept m.entries specials_in.2 s h

  -- ---- special types
  module _ {o : ℕ} {K : Derived → Type 0} (z : Setting m o K) where
    ray-kept : (w j : ℕ) (s : Derived) → w ≤ count (tables m) types → K s → K (ray w j o (tables m) s)
    unfolding ray
    ray-kept zero j s l h = h
    ray-kept (suc n) j s l h = go (word (get_or s.special.rays j (0, 0))) refl
      where
        go : (v : ℕ) → word (get_or s.special.rays j (0, 0)) ≡ v → K (ray_to v j n o (tables m) s)
        go zero e = unfold ray_to in z.ray-new j n s l h
        go (suc v) e = unfold ray_to in z.ray_old j n v s e h

    rays-kept : (cs : Cells) → Plainly (OPT_TYPE ∷ OPT_TYPE ∷ OPT_TYPE ∷ []) cs → within (outside m) cs ≡ true → (s : Derived) → K s → K (rays cs 0 o (tables m) s)
    unfolding rays within bound caps under outside count tables at
    rays-kept _ (plain-next {w = x} (plain-next {w = y} (plain-next {w = z} plain-none))) q s h =
        let a = and_split (ltb x (suc (length m.types))) _ q in
        let b = and_split (ltb y (suc (length m.types))) _ a.1 in
        let c = and_split (ltb z (suc (length m.types))) _ b.1 in
        ray-kept z 2 _ (le_of_suc-le-suc (ltb-true _ _ c.0)) (ray-kept y 1 _ (le_of_suc-le-suc (ltb-true _ _ b.0)) (ray-kept x 0 s (le_of_suc-le-suc (ltb-true _ _ a.0)) h))

    pair-kept : (v key n : ℕ) (s : Derived) → keyed s.special.pairs key ≡ v → n < count (tables m) types → K s → K (pair_to v key n o (tables m) s)
    unfolding pair_to
    pair-kept zero key n s e l h = z.pair-new key n s l e h
    pair-kept (suc v) key n s e l h = z.pair_old key n v s e h

    pairs-kept : (rs : List Cells) → Each (Lays pair_row) rs → every (within (outside m)) rs ≡ true → (s : Derived) → K s → K (pairs rs o (tables m) s)
    unfolding pairs every plain?
    pairs-kept _ each_none q s h = h
    pairs-kept _ (each_next {a = r} {l = rs} p ps) q s h =
        let x = and_split (within (outside m) r) (every (within (outside m)) rs) q in
        pairs-kept rs ps x.1 _ (pair-kept (keyed s.special.pairs (field KEY r)) (field KEY r) (field TYPE r) s refl (pair_in (plainly p refl) x.0) h)

    pub sourced-kept : WellFormed m → (s : Derived) → K (emptied (unmapped (tables m)) s) → K (sourced o m s)
    unfolding sourced plain?
    sourced-kept well s h = pairs-kept m.special.pairs well.pairs-ok.each specials_in.1 _ (rays-kept m.special.rays (plainly well.rays-ok refl) specials_in.0 (emptied (unmapped (tables m)) s) h)
