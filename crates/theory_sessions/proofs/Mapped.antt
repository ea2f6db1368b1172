-- The theorems on what is defined in `specs/Mapped.antt`.
use Rattle.std.specs.Prelude.{◌≡◌, ◌⊎◌, true, false, List, [], ◌∷◌, ◌++◌, ltb, length, get_or}
use Rattle.std.proofs.Math.Path.{refl}
use Rattle.std.proofs.Common.{sym, subst, ◌∙◌, inl, inr, ⊎_elim, le_of_suc-le-suc, arith, ltb-true}
use Rattle.std.proofs.Math.Option.{some}
use Prim.Native.Nat.{ℕ, zero, suc, ◌<◌, ◌≤◌}
use Rattle.theory_lists.specs.Booleans.{and_split}
use Rattle.model.specs.Outcome.{Cells, word}
use Rattle.model.specs.Table.{OPT_TYPE, KEY, TYPE}
use Rattle.model.specs.Module.{Special, Module, pair_row}
use Rattle.model.specs.Carry.{Lays, Each, each_none, each_next, WellFormed}
use Rattle.model.specs.Intake.{Passes}
use Rattle.model.specs.Initial.{Mem, here}
use Rattle.theory_image.specs.Members.{mem_left, mem_right}
use Rattle.model.specs.Names.{field}
use Rattle.model.specs.Numbers.{bound, caps, below as under, within, every, outside}
use Rattle.model.specs.Callees.{callees}
use Rattle.model.specs.Redirect.{function}
use Rattle.model.specs.Tables.{Tab, names, types, at, Tables, tables, rec_at, count}
use Rattle.model.specs.Imports.{Derived, import_t, renamed, unmapped, emptied}
use Rattle.model.specs.Special.{with_special, put_ray, ray_to, ray, rays, keyed, put_pair, pair_to, pairs, sourced}
use Rattle.model.specs.Bodies.{appended, append, follow}
use Rattle.model.specs.Session.{Source, Session, meets_ring, importing, rename_type, import_function, map_function_handle}
use Rattle.theory_image.specs.Plain.{plain?}
use Rattle.theory_image.specs.Quiet.{Plainly, plain-none, plain-next, plainly}
use Rattle.theory_records.specs.Well.{WF}
use Rattle.theory_records.specs.Trace.{Trace, keep_rule, then, done, import_trace}
use Rattle.theory_records.specs.Theorems.{Inside, Base, Sound, trace_base}
use Rattle.theory_records.specs.Tested.{tested_wf}
use Rattle.theory_records.specs.Imported.{none-mapped}
use Rattle.theory_finish.specs.Sessions.{Keeping, specials_in, pair_in, follow-kept, function-kept}
use Rattle.theory_finish.specs.Specials.{Typed, typed_keeping, typed_setting}
use Rattle.theory_sessions.specs.Following.{Holds, holds_from}
use Rattle.theory_sessions.specs.Renaming.{renamed-elsewhere, source-fit, source_wf, sized-to, renamed_trace}
use Rattle.theory_sessions.specs.Holding.{emptied-holds}
use Rattle.theory_sessions.specs.Replaced.{Hand, SoundBut, but_same, but_none, commit_but, force_but, sound-all}
use Rattle.theory_sessions.specs.Operating.{Operation, sets, clears, spans, imports, renames, functions, handles, finishes, finishes_with, does, run, Good, good_holds, set_good, does_good, kept-after, ranged_after, ringless_after, needing_after, span_after}
use Rattle.theory_sessions.specs.Growing.{turns}
use Rattle.theory_sessions.specs.Mapped.{hand_if, hand_ray, hand_rays, hand_pairs, taken, But, renamed_by, all_renamed, Stays, stays-none, stays-next}

-- ---- imports of tables' records
record Both (hs : List ℕ) (T S : Tables) (s : Derived) : Type 0 where
  base : Base S s
  but : SoundBut hs T s

trace_but : (hs : List ℕ) (o : ℕ) (T S : Tables) → WF S → ((t : Tab) (n : ℕ) → Hand hs t n ⊎ (rec_at S t n ≡ rec_at T t n)) → {a b : Derived} → Trace o S a b → Base S a → SoundBut hs T a → SoundBut hs T b
trace_but hs o T S wf agree tr base but =
    (keep_rule (Both hs T S) (λ s t n rd b. record { base = trace_base o S wf (then rd done) b.base; but = commit_but hs o T S agree s t n rd b.base.inside b.but }) tr (record { base = base; but = but })).but

module _ (m : Module) (well : WellFormed m) (ok : Passes m) (o : ℕ) (hs : List ℕ) where
  abbrev T : Tables
  T = tables m

  -- what is kept beside it
  record Known (s : Derived) : Type 0 where
    typed : Typed T s
    but : SoundBut hs T s

  import_but : (t : Tab) (n : ℕ) (s : Derived) → n < count T t → Known s → SoundBut hs T (import_t o T t n s)
  import_but t n s l k = let wf = tested_wf m well ok.numbers ok.lowers in trace_but hs o T T wf (λ t n. inr refl) (import_trace o T wf t n s l k.typed.kept.base.sized).0 k.typed.kept.base k.but

  known_keeping : Keeping m o Known
  known_keeping = let z = typed_keeping m well ok.numbers ok.lowers o in record {
    imports = λ t n s l k. record { typed = z.imports t n s l k.typed; but = import_but t n s l k };
    appends = λ f s k. record { typed = z.appends f s k.typed; but = unfold appended in but_same hs T s (appended f s) (unfold appended in refl) (unfold appended in refl) k.typed.kept.base.inside k.but };
  }

  pub type_but : (t : Tab) (n : ℕ) (s : Derived) → n < count T t → Holds T s → SoundBut hs T s → SoundBut hs T (import_t o T t n s)
  type_but t n s l h b = import_but t n s l (record { typed = h.typed; but = b })

  pub function_but : (n : ℕ) (s : Derived) → Holds T s → SoundBut hs T s → SoundBut hs T (append o m (follow o m) n s)
  function_but n s h b = (function-kept m ok.numbers known_keeping n s (record { typed = h.typed; but = b })).but

  pub handle_but : (n : ℕ) (s : Derived) → Holds T s → SoundBut hs T s → SoundBut hs T (follow o m n s)
  handle_but n s h b = (follow-kept m ok.numbers known_keeping n s (record { typed = h.typed; but = b })).but

  -- a type that is renamed is one of these
  pub rename_but : (n name : ℕ) (s : Derived) → n < count T types → name < count T names → Mem n hs → Holds T s → SoundBut hs T s → SoundBut hs T (import_t o (renamed T n name) types n s)
  rename_but n name s l k i h b =
      let c = h.typed.kept.base in
      trace_but hs o T (renamed T n name) (source_wf m well ok o n name l k) elsewhere (renamed_trace m well ok o n name l k s (holds_from h)).0 (record { sized = sized-to m well ok o n name l k s c.sized; inside = c.inside; wf = c.wf; distinct = c.distinct }) b
    where
      elsewhere : (t : Tab) (j : ℕ) → Hand hs t j ⊎ (rec_at (renamed T n name) t j ≡ rec_at T t j)
      elsewhere t j = ⊎_elim (λ q. inl (there_it t j q.0 q.1)) (λ q. inr q) (renamed-elsewhere T n name l k (source-fit m well ok o n name l k) t j)
        where
          there_it : (t : Tab) (j : ℕ) → types ≡ t → j ≡ n → Hand hs t j
          there_it t j p q = rw (← p, q) (unfold Hand in i)

  -- ---- setting the source
  special_but : (p : Special) (r : Derived) → Inside r → SoundBut hs T r → SoundBut hs T (with_special p r)
  unfolding with_special
  special_but p r i b = but_same hs T r (with_special p r) (unfold with_special in refl) (unfold with_special in refl) i b

  type_inside : (n : ℕ) (s : Derived) → n < count T types → Known s → Inside (import_t o T types n s)
  type_inside n s l d = ((typed_keeping m well ok.numbers ok.lowers o).imports types n s l d.typed).kept.base.inside

  ray_to_known : (v k n : ℕ) (s : Derived) → word (get_or s.special.rays k (0, 0)) ≡ v → n < count T types → ((j : ℕ) → Mem j (hand_if v n) → Mem j hs) → Known s → Known (ray_to v k n o T s)
  unfolding hand_if ray_to
  ray_to_known zero k n s e l f d = record { typed = (typed_setting m well ok.numbers ok.lowers o).ray-new k n s l d.typed; but = unfold put_ray in special_but _ _ (type_inside n s l d) (import_but types n s l d) }
  ray_to_known (suc v) k n s e l f d = record { typed = (typed_setting m well ok.numbers ok.lowers o).ray_old k n v s e d.typed; but = force_but hs T n (suc v) s (f n here) d.but }

  ray-known : (w k : ℕ) (s : Derived) → w ≤ count T types → ((j : ℕ) → Mem j (hand_ray w k s) → Mem j hs) → Known s → Known (ray w k o T s)
  unfolding ray hand_ray
  ray-known zero k s l f d = d
  ray-known (suc n) k s l f d = ray_to_known (word (get_or s.special.rays k (0, 0))) k n s refl l f d

  rays-known : {cs : Cells} → Each (λ c. word c ≤ count T types) cs → (k : ℕ) (s : Derived) → ((j : ℕ) → Mem j (hand_rays cs k o T s) → Mem j hs) → Known s → Known (rays cs k o T s)
  unfolding rays hand_rays
  rays-known each_none k s f d = d
  rays-known (each_next {a = c} {l = cs} l ls) k s f d = rays-known ls (suc k) (ray (word c) k o T s) (λ j i. f j (mem_right (hand_ray (word c) k s) i)) (ray-known (word c) k s l (λ j i. f j (mem_left (hand_rays cs (suc k) o T (ray (word c) k o T s)) i)) d)

  pair-known : (v key n : ℕ) (s : Derived) → keyed s.special.pairs key ≡ v → n < count T types → ((j : ℕ) → Mem j (hand_if v n) → Mem j hs) → Known s → Known (pair_to v key n o T s)
  unfolding hand_if pair_to
  pair-known zero key n s e l f d = record { typed = (typed_setting m well ok.numbers ok.lowers o).pair-new key n s l e d.typed; but = unfold put_pair in special_but _ _ (type_inside n s l d) (import_but types n s l d) }
  pair-known (suc v) key n s e l f d = record { typed = (typed_setting m well ok.numbers ok.lowers o).pair_old key n v s e d.typed; but = force_but hs T n (suc v) s (f n here) d.but }

  pairs-known : {rs : List Cells} → Each (λ r. field TYPE r < count T types) rs → (s : Derived) → ((j : ℕ) → Mem j (hand_pairs rs o T s) → Mem j hs) → Known s → Known (pairs rs o T s)
  unfolding pairs hand_pairs
  pairs-known each_none s f d = d
  pairs-known (each_next {a = r} {l = rs} l ls) s f d =
      let v = keyed s.special.pairs (field KEY r) in
      pairs-known ls (pair_to v (field KEY r) (field TYPE r) o T s) (λ j i. f j (mem_right (hand_if v (field TYPE r)) i)) (pair-known v (field KEY r) (field TYPE r) s refl l (λ j i. f j (mem_left (hand_pairs rs o T (pair_to v (field KEY r) (field TYPE r) o T s)) i)) d)

  ray_words : {cs : Cells} → Plainly (OPT_TYPE ∷ OPT_TYPE ∷ OPT_TYPE ∷ []) cs → within (outside m) cs ≡ true → Each (λ c. word c ≤ count T types) cs
  unfolding within bound caps under outside count tables at
  ray_words (plain-next {w = x} (plain-next {w = y} (plain-next {w = z} plain-none))) q =
      let a = and_split (ltb x (suc (length m.types))) _ q in
      let b = and_split (ltb y (suc (length m.types))) _ a.1 in
      let c = and_split (ltb z (suc (length m.types))) _ b.1 in
      each_next (le_of_suc-le-suc (ltb-true _ _ a.0)) (each_next (le_of_suc-le-suc (ltb-true _ _ b.0)) (each_next (le_of_suc-le-suc (ltb-true _ _ c.0)) each_none))

  pair_types : {rs : List Cells} → Each (Lays pair_row) rs → every (within (outside m)) rs ≡ true → Each (λ r. field TYPE r < count T types) rs
  unfolding every plain?
  pair_types each_none q = each_none
  pair_types (each_next {a = r} {l = rs} p ps) q = let x = and_split (within (outside m) r) (every (within (outside m)) rs) q in each_next (pair_in m ok.numbers (plainly p refl) x.0) (pair_types ps x.1)

  -- with the types that it maps by hand
  pub sourced_but : (S : Tables) (s : Derived) → Holds S s → ((j : ℕ) → Mem j (taken o m s) → Mem j hs) → SoundBut hs T (sourced o m s)
  unfolding sourced taken plain?
  sourced_but S s h f =
      let a : Derived = emptied (unmapped T) s in
      let b : Derived = rays m.special.rays 0 o T a in
      let d : Known a = record { typed = (emptied-holds S T s h).typed; but = but_none hs T a (λ t n. unfold emptied in none-mapped T t n) } in
      (pairs-known (pair_types well.pairs-ok.each (specials_in m ok.numbers).1) b (λ j i. f j (mem_right (hand_rays m.special.rays 0 o T a) i))
      (rays-known (ray_words (plainly well.rays-ok refl) (specials_in m ok.numbers).0) 0 a (λ j i. f j (mem_left (hand_pairs m.special.pairs o T b) i)) d)).but

never : {A : Type 0} → true ≡ false → A
never e = let z : ◌≡◌ {A = ℕ} 0 1 = cc in absurd (omega arith)

same_source : {x y : Source} → some x ≡ some y → x ≡ y
same_source e = cc

does_but : (hs : List ℕ) (x : Source) (p : Operation) → turns p ≡ false → (s : Session) → Good s → ((j : ℕ) → Mem j (renamed_by p) → Mem j hs) → But hs x s → But hs x (does p s)
unfolding does turns renamed_by
does_but hs x p e s g f b = go p e f
  where
    P : Session → Type 0
    P = But hs x

    -- the state's own, and what is taken over
    own : (y : Source) → s.source ≡ some y → SoundBut hs (tables y.image) s.state
    own y q = subst (λ (z : Source). SoundBut hs (tables z.image) s.state) (same_source (sym b.is ∙ q)) b.sound

    over : (y : Source) → s.source ≡ some y → {r : Derived} → SoundBut hs (tables y.image) r → P (record { source = some y; state = r })
    over y q {r} h = record { is = sym q ∙ b.is; sound = subst (λ (z : Source). SoundBut hs (tables z.image) r) (same_source (sym q ∙ b.is)) h }

    go : (p : Operation) → turns p ≡ false → ((j : ℕ) → Mem j (renamed_by p) → Mem j hs) → P (does p s)
    go (sets bytes ws o) e f = never e
    go clears e f = never e
    go (spans v) e f = span_after P s b g v
    go (imports t n) e f =
        unfold importing in needing_after P s b g _ λ y q k.
        ranged_after P s b n (count (tables y.image) t) _ λ l.
        kept-after P s b y _ _ (over y q (type_but y.image k.well k.passes y.offset hs t n s.state l k.holds (own y q)))
    go (renames n name) e f =
        unfold rename_type in needing_after P s b g _ λ y q k.
        ranged_after P s b n (count (tables y.image) types) _ λ l.
        ranged_after P s b name (count (tables y.image) names) _ λ w.
        kept-after P s b y _ _ (over y q (rename_but y.image k.well k.passes y.offset hs n name s.state l w (f n here) k.holds (own y q)))
    go (functions n) e f =
        unfold import_function in needing_after P s b g _ λ y q k.
        ranged_after P s b n (length y.image.functions) _ λ l.
        ringless_after P s b (meets_ring (n ∷ callees (function y.image n)) y.image s.state) _ λ r.
        kept-after P s b y _ _ (over y q (function_but y.image k.well k.passes y.offset hs n s.state k.holds (own y q)))
    go (handles n) e f =
        unfold map_function_handle in needing_after P s b g _ λ y q k.
        ranged_after P s b n (length y.image.functions) _ λ l.
        ringless_after P s b (meets_ring (n ∷ []) y.image s.state) _ λ r.
        kept-after P s b y _ _ (over y q (handle_but y.image k.well k.passes y.offset hs n s.state k.holds (own y q)))
    go (finishes room) e f = never e
    go (finishes_with room) e f = never e

run_but : (hs : List ℕ) (x : Source) {ps : List Operation} → Stays ps → (s : Session) → Good s → ((j : ℕ) → Mem j (all_renamed ps) → Mem j hs) → But hs x s → But hs x (run ps s)
unfolding run all_renamed
run_but hs x stays-none s g f b = b
run_but hs x (stays-next {p = p} {ps = ps} e st) s g f b = run_but hs x st (does p s) (does_good p s g) (λ j i. f j (mem_right (renamed_by p) i)) (does_but hs x p e s g (λ j i. f j (mem_left (all_renamed ps) i)) b)

-- WHATEVER WAS DERIVED BEFORE: from the time that a source is set on, while it stays, all that is mapped has its source's record, but for special types whose place or key was taken when it was set and types that were renamed since
pub while_set : (x : Source) → WellFormed x.image → Passes x.image → (s : Session) → Good s → {ps : List Operation} → Stays ps
    → But (taken x.offset x.image s.state ++ all_renamed ps) x (run ps (record { source = some x; state = sourced x.offset x.image s.state }))
unfolding Good
while_set x w p s g {ps} st =
    let h = good_holds s.source s.state g in
    let o = x.offset in
    let m = x.image in
    run_but (taken o m s.state ++ all_renamed ps) x st (record { source = some x; state = sourced o m s.state }) (set_good s g o m w p) (λ j i. mem_right (taken o m s.state) i)
    (record { is = refl; sound = sourced_but m w p o (taken o m s.state ++ all_renamed ps) h.0 s.state h.1 (λ j i. mem_left (all_renamed ps) i) })

-- and where none was taken and none renamed, all of it has
pub while_plain : (x : Source) → WellFormed x.image → Passes x.image → (s : Session) → Good s → {ps : List Operation} → Stays ps → taken x.offset x.image s.state ≡ [] → all_renamed ps ≡ []
    → Sound (tables x.image) (run ps (record { source = some x; state = sourced x.offset x.image s.state })).state
while_plain x w p s g {ps} st a b = sound-all (tables x.image) _ (rw (a, b) at (while_set x w p s g st).sound)
