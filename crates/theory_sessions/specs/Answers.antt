-- WHAT OPERATIONS ANSWER: the number of the derived record that the number given is mapped to; of functions, the last one, which comes from the function given, or the one that has its name.
use Rattle.std.specs.Prelude.{◌≡◌, refl, Bool, true, false, [], ◌∷◌, ℕ, suc, ◌<◌, ◌≤◌, pred, ltb, length, get_or}
use Rattle.std.proofs.Common.{ap, ◌∙◌, le_refl, arith, ltb-true}
use Rattle.std.proofs.Math.Option.{some}
use Rattle.model.specs.Module.{Module}
use Rattle.model.specs.Tree.{Function}
use Rattle.model.specs.Calls.{here as first}
use Rattle.model.specs.Callees.{callees}
use Rattle.model.specs.Redirect.{nothing, name_word, function}
use Rattle.model.specs.Tables.{Tab, names, types, at, tables, rec_at, count, map_at}
use Rattle.model.specs.References.{index_of}
use Rattle.model.specs.Imports.{Derived, import_t, renamed}
use Rattle.model.specs.Bodies.{known, final, localized, append, follow}
use Rattle.model.specs.Finish.{finished, too_large}
use Rattle.model.specs.Session.{Source, Session, Answer, answered, refused, with_source, unless_full, meets_ring, importing, rename_type, import_function, map_function_handle}
use Rattle.theory_records.specs.Theorems.{Inside}
use Rattle.theory_records.specs.Imported.{import_kept}
use Rattle.theory_bodies.specs.Lawful as Lawful
use Rattle.theory_sessions.specs.Height.{Low, unknowns, ringless}
use Rattle.theory_sessions.specs.Following.{Origin, Holds, holds_from, piece, piece_from, last}
use Rattle.theory_sessions.specs.Renaming.{renamed-mapped}
use Rattle.theory_sessions.specs.Holding.{import_next, rename-next, follow_follows, callees_low}
use Rattle.theory_sessions.specs.Operating.{Set}

-- v is answered, and the state r is taken over
pub record Takes (x : Source) (v : ℕ) (q : Session) (r : Derived) : Type 0 where
  pub is : q ≡ record { source = some x; state = r }
  pub small : too_large (finished r []) ≡ false

impossible : {A : Type 0} {v : ℕ} {q : Session} (n : ℕ) → ◌≡◌ {A = Answer ℕ} (refused n) (answered v q) → A
impossible n e = let z : ◌≡◌ {A = ℕ} 0 1 = cc in absurd (omega arith)

-- 21
kept_takes : (x : Source) (r : Derived) (a v : ℕ) (q : Session) → unless_full x r a ≡ answered v q → (a ≡ v) × Takes x v q r
unfolding unless_full
kept_takes x r a v q h = go (too_large (finished r [])) refl h
  where
    go : (b : Bool) → too_large (finished r []) ≡ b → (let w : Answer ℕ = elim b [ true ↦ refused 21 | false ↦ answered a (record { source = some x; state = r }) ] in w) ≡ answered v q → (a ≡ v) × Takes x v q r
    go true e h = impossible 21 h
    go false e h = (cc, record { is = cc; small = e })

-- 13 and 22
ranged_takes : {A : Type 0} (n k v : ℕ) (q : Session) (a : Answer ℕ) → ◌≡◌ {A = Answer ℕ} (elim (ltb n k) [ true ↦ a | false ↦ refused 13 ]) (answered v q) → (n < k → a ≡ answered v q → A) → A
ranged_takes {A} n k v q a h f = go (ltb n k) refl h
  where
    go : (b : Bool) → ltb n k ≡ b → (let w : Answer ℕ = elim b [ true ↦ a | false ↦ refused 13 ] in w) ≡ answered v q → A
    go true e h = f (ltb-true n k e) h
    go false e h = impossible 13 h

ringless_takes : {A : Type 0} (c : Bool) (v : ℕ) (q : Session) (a : Answer ℕ) → ◌≡◌ {A = Answer ℕ} (elim c [ true ↦ refused 22 | false ↦ a ]) (answered v q) → (c ≡ false → a ≡ answered v q → A) → A
ringless_takes true v q a h f = impossible 22 h
ringless_takes false v q a h f = f refl h

known_in : (m : Module) (r : Derived) (n : ℕ) → known m r n ≤ length r.functions
unfolding known
known_in m r n = omega (arith, Lawful.last-top r.functions 0 0 (suc (index_of (at names r.recs) (rec_at (tables m) names (pred (name_word (function m n)))))) (le_refl _))

pred_is : (w v b : ℕ) → 0 < w → w ≤ b → pred w ≡ v → (w ≡ suc v) × (v < b)
pred_is w v b h l e = (omega arith, omega arith)

module _ (x : Source) (s : Derived) (k : Set x s) where
  abbrev m : Module
  m = x.image

  abbrev here : Session
  here = record { source = some x; state = s }

  -- ---- imports of tables' records, and rename_type
  pub record Gives (t : Tab) (n v : ℕ) (q : Session) (r : Derived) : Type 0 where
    pub takes : Takes x v q r
    pub mapped : map_at r.maps t n ≡ suc v
    pub there : v < count r.recs t

  gives : (t : Tab) (n v : ℕ) (q : Session) (r : Derived) → Holds (tables m) r → 0 < map_at r.maps t n → unless_full x r (pred (map_at r.maps t n)) ≡ answered v q → Gives t n v q r
  gives t n v q r h z e =
      let a = kept_takes x r (pred (map_at r.maps t n)) v q e in
      let i : map_at r.maps t n ≤ count r.recs t = (unfold Inside in h.typed.kept.base.inside t n) in
      let c = pred_is (map_at r.maps t n) v (count r.recs t) z i a.0 in
      record { takes = a.1; mapped = c.0; there = c.1 }

  pub import_gives : (t : Tab) (n v : ℕ) (q : Session) → importing t n here ≡ answered v q → Gives t n v q (import_t x.offset (tables m) t n s)
  unfolding importing with_source
  import_gives t n v q e =
      ranged_takes n (count (tables m) t) v q _ e λ l e.
      gives t n v q _ (import_next m k.well k.passes x.offset t n s l k.holds).holds (import_kept m k.well k.passes.numbers k.passes.lowers x.offset t n s l k.holds.typed.kept).1 e

  pub rename-gives : (n name v : ℕ) (q : Session) → rename_type n name here ≡ answered v q → Gives types n v q (import_t x.offset (renamed (tables m) n name) types n s)
  unfolding rename_type with_source
  rename-gives n name v q e =
      ranged_takes n (count (tables m) types) v q _ e λ l e.
      ranged_takes name (count (tables m) names) v q _ e λ w e.
      gives types n v q _ (rename-next m k.well k.passes x.offset n name s l w k.holds).holds (renamed-mapped m k.well k.passes x.offset n name l w s (holds_from k.holds)) e

  -- ---- import_function: the last function, which comes from the one given
  pub record Appends (n v : ℕ) (q : Session) (r : Derived) : Type 0 where
    pub takes : Takes x v q r
    pub last : suc v ≡ length r.functions
    pub derived : Function
    pub is : get_or r.functions v nothing ≡ derived
    pub origin : Origin r derived
    pub from : (origin.source ≡ m) × (origin.function ≡ function m n)
    -- it agrees with that function through the maps of tables as they are now
    pub now : origin.under.out.maps ≡ r.maps

  abbrev after_it : ℕ → Derived
  after_it n = append x.offset m (follow x.offset m) n s

  appends : (n v : ℕ) (q : Session) → n < length m.functions → meets_ring (n ∷ callees (function m n)) m s ≡ false → (pred (length (after_it n).functions) ≡ v) × Takes x v q (after_it n) → Appends n v q (after_it n)
  appends n v w l z a =
      let c = callees_low m k.well k.passes x.offset s n l z in
      let f = follow_follows m k.well k.passes x.offset s in
      let h = holds_from k.holds in
      let e = last m k.well k.passes x.offset (follow x.offset m) (λ j. Low (unknowns m s) m s j) s f n l c h in
      let p = piece m k.well k.passes x.offset (follow x.offset m) (λ j. Low (unknowns m s) m s j) s f n l c h in
      let q = piece_from m k.well k.passes x.offset (follow x.offset m) (λ j. Low (unknowns m s) m s j) s f n l c h in
      let d : v ≡ length (final x.offset m (follow x.offset m) (function m n) s).out.functions = omega (arith, a.0, e.0) in
      record {
        takes = a.1;
        last = omega (arith, a.0, e.0);
        derived = localized x.offset m (follow x.offset m) (function m n) s;
        is = ap (λ (i : ℕ). get_or (after_it n).functions i nothing) d ∙ e.1;
        origin = p.origin;
        from = (q.0, q.1);
        now = q.2;
      }

  pub function-gives : (n v : ℕ) (q : Session) → import_function n here ≡ answered v q → Appends n v q (append x.offset m (follow x.offset m) n s)
  unfolding import_function with_source
  function-gives n v q e =
      ranged_takes n (length m.functions) v q _ e λ l e.
      ringless_takes (meets_ring (n ∷ callees (function m n)) m s) v q _ e λ z e.
      appends n v q l z (kept_takes x (after_it n) (pred (length (after_it n).functions)) v q e)

  -- ---- map_function_handle: the function that has the name of the one given
  pub record Bears (n v : ℕ) (q : Session) (r : Derived) : Type 0 where
    pub takes : Takes x v q r
    pub knows : known m r n ≡ suc v
    pub there : v < length r.functions

  pub handle_gives : (n v : ℕ) (q : Session) → map_function_handle n here ≡ answered v q → Bears n v q (follow x.offset m n s)
  unfolding map_function_handle with_source
  handle_gives n v q e =
      ranged_takes n (length m.functions) v q _ e λ l e.
      ringless_takes (meets_ring (n ∷ []) m s) v q _ e λ z e.
      let r = follow x.offset m n s in
      let a = kept_takes x r (pred (known m r n)) v q e in
      let g = (follow_follows m k.well k.passes x.offset s).maps n s (ringless m k.well k.passes.numbers s (n ∷ []) z n first l) (holds_from k.holds) in
      let c = pred_is (known m r n) v (length r.functions) g (known_in m r n) a.0 in
      record { takes = a.1; knows = c.0; there = c.1 }
