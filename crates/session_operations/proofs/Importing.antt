-- What an import does to a session whose state the arrays hold: 20 without a source, 13 outside of a table, 21 exactly where it is full, else the derived number;
-- and the arrays hold the session that is left.
use Rattle.std.proofs.Common.{◌≡◌, ℕ, zero, suc, pred, ◌<◌, ◌≤◌, Bool, true, false, not, ltb, List, get_or, sym, refl, ap, ◌∙◌, subst, arith, le-ltb, lt-ltb}
use mathlib.Core.Bool.{false≢true}
use mathlib.Core.Option.{none, some}
use borrow.Author.Tests.{not-false}
use Rattle.model.specs.Module.{count_at}
use Rattle.model.specs.Tables.{Tab, names, types, is_t, code_t, tables, count, map_at}
use Rattle.model.specs.Imports.{Derived, import_t, renamed}
use Rattle.model.specs.Refusals.{NUMBER_GIVEN, NO_SOURCE}
use Rattle.model.specs.Session.{Source, Session, Answer, answered, refused, after, with_source, unless_full, importing, rename_type}
use Rattle.theory_sessions.specs.Operating.{Operation, imports, renames, does}
use Rattle.derive_limits.specs.Reached.{Public, Reached, At}
use Rattle.derive_limits.proofs.Reached.{does-reached, at_source, import_at, rename-at}
use Rattle.derive_limits.proofs.Theorems.{exact-at, kept_full, kept-room, kept_not_over}
use Rattle.derive_state.specs.Refers.{tab_of}
use Rattle.derive_state.specs.Source.{mod_of, src_of, Source as Held}
use Rattle.derive_state.specs.Held.{st_of, ValidArrays, ImportOrUndoEnsures}
use Rattle.derive_state.specs.Sizes.{Sizes}
use Rattle.base_handles.specs.declared.RecordHandle.{RecordHandle}
use Rattle.base_handles.specs.declared.RecordHandle.TheVariants.{«Type», Constant, Override, Global, Expression}
use Rattle.base_handles.specs.Handles.{table_of}
use Rattle.derive_state.proofs.State.{tab_long, tab_code}
use Rattle.derive_state.proofs.Laws.{none-held}
use Rattle.derive_imports.proofs.Sources.{count_is}
use Rattle.derive_imports.proofs.Growth.{Grow, grow_T}
use Rattle.derive_rollback.specs.Answered.{MappedToEnsures}
use Rattle.derive_special.proofs.Deriving.{specials_more}
use Rattle.derive_session.specs.Valid.{session_of, ValidSession}
use Rattle.session_operations.specs.Operations.{OperationEnsures}
use Rattle.session_operations.proofs.Plain.{refuses, answers}

-- ---- the tests in their sequence
in_range_lem : (h k : ℕ) (a : Answer ℕ) → h < k → ◌≡◌ {A = Answer ℕ} (elim (ltb h k) [ true ↦ a | false ↦ refused NUMBER_GIVEN ]) a
in_range_lem h k a l = rw (lt-ltb h k l)

out_of_range : (h k : ℕ) (a : Answer ℕ) → k ≤ h → ◌≡◌ {A = Answer ℕ} (elim (ltb h k) [ true ↦ a | false ↦ refused NUMBER_GIVEN ]) (refused NUMBER_GIVEN)
out_of_range h k a l = rw (le-ltb h k l)

module _ (x : Source) (s : Derived) where
  import_outside : (t : Tab) (h : ℕ) → count (tables x.image) t ≤ h → importing t h (record { source = some x; state = s }) ≡ refused NUMBER_GIVEN
  unfolding importing with_source
  import_outside t h l = out_of_range h (count (tables x.image) t) _ l

  import_inside : (t : Tab) (h : ℕ) → h < count (tables x.image) t → importing t h (record { source = some x; state = s }) ≡ unless_full x (import_t x.offset (tables x.image) t h s) (pred (map_at (import_t x.offset (tables x.image) t h s).maps t h))
  unfolding importing with_source
  import_inside t h l = in_range_lem h (count (tables x.image) t) _ l

  rename-outside : (h name : ℕ) → count (tables x.image) types ≤ h → rename_type h name (record { source = some x; state = s }) ≡ refused NUMBER_GIVEN
  unfolding rename_type with_source
  rename-outside h name l = out_of_range h (count (tables x.image) types) _ l

  rename-nameless : (h name : ℕ) → h < count (tables x.image) types → count (tables x.image) names ≤ name → rename_type h name (record { source = some x; state = s }) ≡ refused NUMBER_GIVEN
  unfolding rename_type with_source
  rename-nameless h name l k = in_range_lem h (count (tables x.image) types) _ l ∙ out_of_range name (count (tables x.image) names) _ k

  rename-inside : (h name : ℕ) → h < count (tables x.image) types → name < count (tables x.image) names
      → rename_type h name (record { source = some x; state = s }) ≡ unless_full x (import_t x.offset (renamed (tables x.image) h name) types h s) (pred (map_at (import_t x.offset (renamed (tables x.image) h name) types h s).maps types h))
  unfolding rename_type with_source
  rename-inside h name l k = in_range_lem h (count (tables x.image) types) _ l ∙ in_range_lem name (count (tables x.image) names) _ k

-- ---- by the handle of a record
pub section_low : (h : RecordHandle) (t : ℕ) → t ≡ code_t (table_of h) → (1 ≤ t) × (t < 6)
unfolding code_t
section_low («Type» x) t e = (omega arith, omega arith)
section_low (Constant x) t e = (omega arith, omega arith)
section_low (Override x) t e = (omega arith, omega arith)
section_low (Global x) t e = (omega arith, omega arith)
section_low (Expression x) t e = (omega arith, omega arith)

pub section_is : (h : RecordHandle) (t : ℕ) → t ≡ code_t (table_of h) → tab_of t ≡ table_of h
section_is h t e = ap tab_of e ∙ tab_code (table_of h)

-- ---- by the code of a table
pub below : {a b c h : ℕ} → a ≡ c → b ≡ h → b < a → h < c
below p q l = omega arith

public_tab : (t : ℕ) → 1 ≤ t → is_t (tab_of t) names ≡ false
unfolding is_t tab_of code_t
public_tab zero h = absurd (omega arith)
public_tab (suc zero) h = refl
public_tab (suc (suc zero)) h = refl
public_tab (suc (suc (suc zero))) h = refl
public_tab (suc (suc (suc (suc zero)))) h = refl
public_tab (suc (suc (suc (suc (suc t))))) h = refl

-- ---- what an operation answers, and what the arrays then hold
abbrev pub Says : (Session → Answer ℕ) → (set : Bool) (n o : ℕ) (words tags log logtags : List ℕ) (starts maps : List (List ℕ)) (special : List ℕ) (e : Sizes) (refusal value : ℕ) (log' logtags' : List ℕ) (starts' maps' : List (List ℕ)) (buckets' : List ℕ) (r : Sizes) → Type 0
Says op set n o words tags log logtags starts maps special e refusal value log' logtags' starts' maps' buckets' r =
    OperationEnsures op (session_of set n o words log logtags starts maps special e) refusal value (session_of set n o words log' logtags' starts' maps' special r)
    × ValidSession set n o words tags log' logtags' starts' maps' buckets' special r

module _ (n o : ℕ) (words tags log logtags : List ℕ) (starts maps : List (List ℕ)) (buckets special : List ℕ) (e : Sizes) where
  abbrev Here : Bool → (Session → Answer ℕ) → ℕ → Type 0
  Here set op k = Says op set n o words tags log logtags starts maps special e k 0 log logtags starts maps buckets e

  -- 20
  unset : (op : Session → Answer ℕ) → ((s : Derived) → op (record { source = none; state = s }) ≡ refused NO_SOURCE) → (set : Bool) → ValidSession set n o words tags log logtags starts maps buckets special e → not set ≡ true → Here set op 20
  unfolding session_of
  unset op f true L h = absurd (false≢true h)
  unset op f false L h = (refuses op _ _ 20 0 (omega arith) (f _) refl, L)

  pub import_unset : (t : Tab) (h : ℕ) (set : Bool) → ValidSession set n o words tags log logtags starts maps buckets special e → not set ≡ true → Here set (importing t h) 20
  unfolding importing with_source
  import_unset t h = unset (importing t h) (λ s. refl)

  pub rename_unset : (h name : ℕ) (set : Bool) → ValidSession set n o words tags log logtags starts maps buckets special e → not set ≡ true → Here set (rename_type h name) 20
  unfolding rename_type with_source
  rename_unset h name = unset (rename_type h name) (λ s. refl)

  -- with a source
  pub source-held : (set : Bool) → ValidSession set n o words tags log logtags starts maps buckets special e → not set ≡ false → Held words tags n
  source-held set L q = let z = not-false set q in record { taped = L.taped z; three = (L.passes z).numbers; four = (L.passes z).lowers }

  abbrev x : Source
  x = record { image = mod_of words n; offset = o }

  abbrev S : Derived
  S = st_of words log logtags starts maps special e

  count_held : (set : Bool) → ValidSession set n o words tags log logtags starts maps buckets special e → not set ≡ false → (t : ℕ) → t < 6 → count_at t words ≡ count (tables (mod_of words n)) (tab_of t)
  unfolding src_of
  count_held set L q t h = count_is words tags n (source-held set L q) t h

  -- 13
  refused_here : (op : Session → Answer ℕ) → op (record { source = some x; state = S }) ≡ refused NUMBER_GIVEN → (set : Bool) → ValidSession set n o words tags log logtags starts maps buckets special e → not set ≡ false → Here set op 13
  unfolding session_of
  refused_here op f false L q = absurd (false≢true (sym q))
  refused_here op f true L q = (refuses op _ _ 13 0 (omega arith) f refl, L)

  pub import_none : (set : Bool) → ValidSession set n o words tags log logtags starts maps buckets special e → not set ≡ false → (t h : ℕ) → t < 6 → (a b : ℕ) → a ≡ count_at t words → b ≡ h → a ≤ b → Here set (importing (tab_of t) h) 13
  import_none set L q t h ht a b ha hb l = let c = count_held set L q t ht in refused_here (importing (tab_of t) h) (import_outside x S (tab_of t) h (omega arith)) set L q

  module _ (set : Bool) (L : ValidSession set n o words tags log logtags starts maps buckets special e) (q : not set ≡ false) (h name : ℕ) where
    types-held : count_at 1 words ≡ count (tables (mod_of words n)) types
    unfolding tab_of
    types-held = count_held set L q 1 (omega arith)

    names_held : count_at 0 words ≡ count (tables (mod_of words n)) names
    unfolding tab_of
    names_held = count_held set L q 0 (omega arith)

    pub rename-none : (a b : ℕ) → a ≡ count_at 1 words → b ≡ h → a ≤ b → Here set (rename_type h name) 13
    rename-none a b ha hb l = let c = types-held in refused_here (rename_type h name) (rename-outside x S h name (omega arith)) set L q

    pub rename_no_name : h < count_at 1 words → (a b : ℕ) → a ≡ count_at 0 words → b ≡ name → a ≤ b → Here set (rename_type h name) 13
    rename_no_name k a b ha hb l = let c = types-held in let d = names_held in refused_here (rename_type h name) (rename-nameless x S h name (omega arith) (omega arith)) set L q

  -- ---- what is imported is taken over, or not: 21
  module _ (L : ValidSession true n o words tags log logtags starts maps buckets special e) (p : Operation) (shown : Public p) (op : Session → Answer ℕ) (f : Derived → Derived) (value : Derived → ℕ)
      (runs : (s : Session) → does p s ≡ after s (op s)) (grows : (s : Derived) → Grow s (f s)) (is : op (record { source = some x; state = S }) ≡ unless_full x (f S) (value (f S))) (lands : At x (f S))
      (r : Sizes) (log' logtags' : List ℕ) (starts' maps' : List (List ℕ)) (buckets' : List ℕ) (w : ImportOrUndoEnsures words f log logtags starts maps e r log' logtags' starts' maps' buckets') where
    taken_not : r.full ≡ true → Says op true n o words tags log logtags starts maps special e 21 0 log' logtags' starts' maps' buckets' e
    unfolding session_of
    taken_not q =
        let same : ◌≡◌ {A = Session} (record { source = some x; state = st_of words log' logtags' starts' maps' special e }) (record { source = some x; state = S }) = ap (λ (y : Derived). record { source = some x; state = y }) ((w.stays q).0 special) in (
          refuses op _ _ 21 0 (omega arith) (is ∙ kept_full x (value (f S)) (exact-at lands) (rw (none-held log logtags starts e.counts L.no_entries).1 at (w.over q special))) same,
          record {
            reached = subst Reached (sym same) L.reached;
            kept = (w.stays q).1;
            specials = L.specials;
            words_long = L.words_long;
            tape_long = L.tape_long;
            taped = L.taped;
            passes = L.passes;
            no_entries = L.no_entries;
            lowest = L.lowest;
            going = L.going;
          },
        )

    module _ (q : r.full ≡ false) where
      abbrev S' : Derived
      S' = st_of words log' logtags' starts' maps' special r

      made : f S ≡ S'
      made = (w.is q).0 special

      no_entries : get_or r.counts 7 0 ≡ 0
      no_entries = (w.beside q).entries_same.1 ∙ L.no_entries

      said : op (record { source = some x; state = S }) ≡ answered (value S') (record { source = some x; state = S' })
      said =
          is
          ∙ kept-room x (value (f S)) (exact-at lands) (λ y. kept_not_over (w.is q).1 no_entries words special (rw made at y))
          ∙ ap (λ (y : Derived). answered (value y) (record { source = some x; state = y })) made

      types_many : {log logtags : List ℕ} {starts maps : List (List ℕ)} {buckets : List ℕ} {e : Sizes} → ValidArrays log logtags starts maps buckets e → count (st_of words log logtags starts maps special e).recs types ≡ get_or e.counts 1 0
      unfolding st_of count tab_of
      types_many {log} {logtags} {starts} {maps} {buckets} {e} K = tab_long log logtags starts maps buckets e K 1 (omega arith)

      more-types : get_or e.counts 1 0 ≤ get_or r.counts 1 0
      more-types =
          let a = types_many L.kept in
          let b = types_many (w.is q).1 in
          let g : count S.recs types ≤ count S'.recs types = rw made at ((grows S).rows types) in
          omega arith

      reached' : Reached (record { source = some x; state = S' })
      unfolding session_of after
      reached' = subst Reached (runs _ ∙ ap (after (record { source = some x; state = S })) said) (does-reached p shown _ L.reached)

      taken : (v : ℕ) → v ≡ value S' → Says op true n o words tags log logtags starts maps special e 0 v log' logtags' starts' maps' buckets' r
      unfolding session_of
      taken v hv = (
        answers op _ _ v (said ∙ ap (λ (y : ℕ). answered y (record { source = some x; state = S' })) (sym hv)),
        record {
          reached = reached';
          kept = (w.is q).1;
          specials = specials_more (w.beside q).pairs-same more-types L.specials;
          words_long = L.words_long;
          tape_long = L.tape_long;
          taped = L.taped;
          passes = L.passes;
          no_entries = no_entries;
          lowest = ((w.beside q).tops_same.0 ∙ L.lowest.0, (w.beside q).tops_same.1 ∙ L.lowest.1);
          going = q;
        },
      )

  set_at : ValidSession true n o words tags log logtags starts maps buckets special e → At x S
  unfolding session_of
  set_at L = at_source L.reached x refl

  -- import_type and its like
  module _ (t h : ℕ) (h1 : 1 ≤ t) (ht : t < 6) (r : Sizes) (log' logtags' : List ℕ) (starts' maps' : List (List ℕ)) (buckets' : List ℕ) where
    abbrev Imports : Type 0
    Imports = ImportOrUndoEnsures words (import_t o (src_of words n) (tab_of t) h) log logtags starts maps e r log' logtags' starts' maps' buckets'

    pub import_full : (set : Bool) → ValidSession set n o words tags log logtags starts maps buckets special e → not set ≡ false → h < count_at t words → Imports → r.full ≡ true
        → Says (importing (tab_of t) h) set n o words tags log logtags starts maps special e 21 0 log' logtags' starts' maps' buckets' e
    unfolding does Public src_of
    import_full false L q l w z = absurd (false≢true (sym q))
    import_full true L q l w z =
        let c = count_held true L q t ht in
        taken_not L (imports (tab_of t) h) (public_tab t h1) (importing (tab_of t) h) (import_t o (tables (mod_of words n)) (tab_of t) h) (λ s. pred (map_at s.maps (tab_of t) h)) (λ s. refl) (grow_T o (tables (mod_of words n)) (tab_of t) h) (import_inside x S (tab_of t) h (omega arith)) (import_at (set_at L) (tab_of t) (public_tab t h1) h (omega arith)) r log' logtags' starts' maps' buckets' w z

    pub import_room : (set : Bool) → ValidSession set n o words tags log logtags starts maps buckets special e → not set ≡ false → h < count_at t words → Imports → r.full ≡ false → (v : ℕ) → MappedToEnsures maps' t h v
        → Says (importing (tab_of t) h) set n o words tags log logtags starts maps special e 0 v log' logtags' starts' maps' buckets' r
    unfolding does Public src_of
    import_room false L q l w z v a = absurd (false≢true (sym q))
    import_room true L q l w z v a =
        let c = count_held true L q t ht in
        taken L (imports (tab_of t) h) (public_tab t h1) (importing (tab_of t) h) (import_t o (tables (mod_of words n)) (tab_of t) h) (λ s. pred (map_at s.maps (tab_of t) h)) (λ s. refl) (grow_T o (tables (mod_of words n)) (tab_of t) h) (import_inside x S (tab_of t) h (omega arith)) (import_at (set_at L) (tab_of t) (public_tab t h1) h (omega arith)) r log' logtags' starts' maps' buckets' w z v
        (a.is words log' logtags' starts' special r l)

  -- rename_type
  module _ (h name : ℕ) (r : Sizes) (log' logtags' : List ℕ) (starts' maps' : List (List ℕ)) (buckets' : List ℕ) where
    abbrev Renames : Type 0
    Renames = ImportOrUndoEnsures words (import_t o (renamed (src_of words n) h name) types h) log logtags starts maps e r log' logtags' starts' maps' buckets'

    pub rename_full : (set : Bool) → ValidSession set n o words tags log logtags starts maps buckets special e → not set ≡ false → h < count_at 1 words → name < count_at 0 words → Renames → r.full ≡ true
        → Says (rename_type h name) set n o words tags log logtags starts maps special e 21 0 log' logtags' starts' maps' buckets' e
    unfolding does Public src_of
    rename_full false L q l k w z = absurd (false≢true (sym q))
    rename_full true L q l k w z =
        let c = types-held true L q h name in
        let d = names_held true L q h name in
        taken_not L (renames h name) tt (rename_type h name) (import_t o (renamed (tables (mod_of words n)) h name) types h) (λ s. pred (map_at s.maps types h)) (λ s. refl) (grow_T o (renamed (tables (mod_of words n)) h name) types h) (rename-inside x S h name (omega arith) (omega arith)) (rename-at (set_at L) h name (omega arith) (omega arith)) r log' logtags' starts' maps' buckets' w z

    pub rename-room : (set : Bool) → ValidSession set n o words tags log logtags starts maps buckets special e → not set ≡ false → h < count_at 1 words → name < count_at 0 words → Renames → r.full ≡ false → (v : ℕ) → MappedToEnsures maps' 1 h v
        → Says (rename_type h name) set n o words tags log logtags starts maps special e 0 v log' logtags' starts' maps' buckets' r
    unfolding does Public src_of tab_of
    rename-room false L q l k w z v a = absurd (false≢true (sym q))
    rename-room true L q l k w z v a =
        let c = types-held true L q h name in
        let d = names_held true L q h name in
        taken L (renames h name) tt (rename_type h name) (import_t o (renamed (tables (mod_of words n)) h name) types h) (λ s. pred (map_at s.maps types h)) (λ s. refl) (grow_T o (renamed (tables (mod_of words n)) h name) types h) (rename-inside x S h name (omega arith) (omega arith)) (rename-at (set_at L) h name (omega arith) (omega arith)) r log' logtags' starts' maps' buckets' w z v
        (a.is words log' logtags' starts' special r l)
