-- An import is a sequence of commits, each of a record that was not mapped and whose references were. That is the one induction over the import; every other theorem is on one commit, and the keep rule takes it to the whole. Here too: the equation of the import without fuel.
use Rattle.std.specs.Prelude.{◌≡◌, length, set}
use Rattle.std.proofs.Math.Path.{refl, ap, sym}
use Rattle.std.proofs.Common.{◌∙◌, not-suc-le-zero, length-set, get_or-set_same, get_or-set_other}
use mathlib.Core.List.{List, [], ◌∷◌}
use Prim.Native.Nat.{ℕ, zero, suc, ◌+◌, ◌*◌, ◌<◌, ◌≤◌}
use native.Mathlib.Omega.{arith}
use Rattle.std.proofs.Math.Decide.{ℕ_discrete}
use Rattle.model.specs.Outcome.{Cells}
use Rattle.model.specs.Tables.{Tab, types, exprs, at, Tables, rec_at, count, map_at}
use Rattle.model.specs.References.{Place, table, own, function, Node, refs, fold_refs, index_of, interned}
use Rattle.model.specs.Imports.{Derived, unless_mapped, intern, mapped_to_t, made, commit, step_t, import_f, levels, import_t}
use Rattle.theory_records.specs.TableLaws.{Tab_dec, at_same, at_other}
use Rattle.theory_records.specs.RecordLaws.{All, Has}
use Rattle.theory_records.specs.Well.{home, May, type_name, type_type, const_name, const_type, const_init, over_name, over_type, over_init, global_name, global_type, global-init, expr_type, expr_const, expr_over, expr_own, WF, rank, Lower, falls, rank_below}

-- ---- a place that a table's record may name is in a table
pub step-home : {t : Tab} {p : Place} → May t p → (imp : Tab → ℕ → Derived → Derived) (n : ℕ) (s : Derived) → step_t imp p n s ≡ imp (home p) n s
unfolding step_t home
step-home type_name imp n s = refl
step-home type_type imp n s = refl
step-home const_name imp n s = refl
step-home const_type imp n s = refl
step-home const_init imp n s = refl
step-home over_name imp n s = refl
step-home over_type imp n s = refl
step-home over_init imp n s = refl
step-home global_name imp n s = refl
step-home global_type imp n s = refl
step-home global-init imp n s = refl
step-home expr_type imp n s = refl
step-home expr_const imp n s = refl
step-home expr_over imp n s = refl
step-home expr_own imp n s = refl

pub went-home : {t : Tab} {p : Place} → May t p → (s : Derived) (n : ℕ) → mapped_to_t s p n ≡ map_at s.maps (home p) n
unfolding mapped_to_t home
went-home type_name s n = refl
went-home type_type s n = refl
went-home const_name s n = refl
went-home const_type s n = refl
went-home const_init s n = refl
went-home over_name s n = refl
went-home over_type s n = refl
went-home over_init s n = refl
went-home global_name s n = refl
went-home global_type s n = refl
went-home global-init s n = refl
went-home expr_type s n = refl
went-home expr_const s n = refl
went-home expr_over s n = refl
went-home expr_own s n = refl

-- ---- a node is this one or another
unfoldable pub Other : Tab → ℕ → Tab → ℕ → Type 0
Other t n u k = u ≡ t → k ≡ n → ⊥

pub node-cases : (P : Tab → ℕ → Type 0) (t : Tab) (n : ℕ) → P t n → ((u : Tab) (k : ℕ) → Other t n u k → P u k) → (u : Tab) (k : ℕ) → P u k
unfolding Other
node-cases P t n here there u k =
    elim (Tab_dec u t) [
      | yes p ↦ elim (ℕ_discrete k n) [ yes q ↦ rw (p, q) here | no q ↦ there u k (λ a b. q b) ]
      | no p ↦ there u k (λ a b. p a)
    ]

-- ---- what interning does
module _ (t : Tab) (n : ℕ) (c : Cells) (s : Derived) where
  pub settle_recs : (u : Tab) (P : List Cells → Type 0) → (u ≡ t → P (interned (at u s.recs) c)) → P (at u s.recs) → P (at u (intern t n c s).recs)
  unfolding intern
  settle_recs u P f g =
      elim (Tab_dec t u) [
        | yes p ↦ rw (← p, at_same t (interned (at t s.recs) c) s.recs) (let h = f (sym p) in rw (← p) at h)
        | no p ↦ rw (at_other t u (interned (at t s.recs) c) s.recs p) g
      ]

  pub settle_here : n < length (at t s.maps) → map_at (intern t n c s).maps t n ≡ suc (index_of (at t s.recs) c)
  unfolding intern map_at
  settle_here h = rw (at_same t (set (at t s.maps) n (suc (index_of (at t s.recs) c))) s.maps) (get_or-set_same (at t s.maps) n _ 0 h)

  pub settle_other : (u : Tab) (k : ℕ) → Other t n u k → map_at (intern t n c s).maps u k ≡ map_at s.maps u k
  unfolding intern map_at Other
  settle_other u k o =
      elim (Tab_dec t u) [
        | yes p ↦ rw (← p, at_same t (set (at t s.maps) n (suc (index_of (at t s.recs) c))) s.maps) (get_or-set_other (at t s.maps) n k _ 0 (o (sym p)))
        | no p ↦ rw (at_other t u (set (at t s.maps) n (suc (index_of (at t s.recs) c))) s.maps p)
      ]

  pub settle_size : (u : Tab) → length (at u (intern t n c s).maps) ≡ length (at u s.maps)
  unfolding intern
  settle_size u =
      elim (Tab_dec t u) [
        | yes p ↦ rw (← p, at_same t (set (at t s.maps) n (suc (index_of (at t s.recs) c))) s.maps) (length-set (at t s.maps) n _)
        | no p ↦ rw (at_other t u (set (at t s.maps) n (suc (index_of (at t s.recs) c))) s.maps p)
      ]

-- ---- the import without fuel
pub each_cong : (P : Node → Type 0) (f g : Place → ℕ → Derived → Derived) → ((j : Node) (s : Derived) → P j → f j.place j.num s ≡ g j.place j.num s)
    → (js : List Node) (s : Derived) → All P js → fold_refs js f s ≡ fold_refs js g s
unfolding fold_refs
each_cong P f g h [] s a = refl
each_cong P f g h (j ∷ js) s a = rw (h j s a.0) (each_cong P f g h js (g j.place j.num s) a.1)

module _ (o : ℕ) (T : Tables) (wf : WF T) where
  -- how many levels there are does not matter, once they are more than the rank
  pub fuel : (f g : ℕ) (t : Tab) (n : ℕ) (s : Derived) → n < count T t → rank T t n < f → rank T t n < g → import_f f o T t n s ≡ import_f g o T t n s
  unfolding import_f Lower
  fuel zero g t n s r a b = absurd (not-suc-le-zero a)
  fuel (suc f) zero t n s r a b = absurd (not-suc-le-zero b)
  fuel (suc f) (suc g) t n s r a b =
      ap (λ (x : Derived). unless_mapped (map_at s.maps t n) (λ z. commit o T t n x) s)
      (each_cong (Lower T t n) (step_t (import_f f o T)) (step_t (import_f g o T))
      (λ j s' l. step-home l.2 (import_f f o T) j.num s' ∙ (fuel f g (home j.place) j.num s' l.0 (omega (arith, l.1)) (omega (arith, l.1)) ∙ sym (step-home l.2 (import_f g o T) j.num s')))
      (refs (rec_at T t n)) s (falls T wf t n r))

  -- THE EQUATION that a reader expects
  pub import_is : (t : Tab) (n : ℕ) (s : Derived) → n < count T t → import_t o T t n s ≡ unless_mapped (map_at s.maps t n) (λ z. commit o T t n (fold_refs (refs (rec_at T t n)) (step_t (import_t o T)) s)) s
  unfolding import_t import_f levels
  import_is t n s r = fuel (2 + (count T types + 2 * count T exprs)) (suc (2 + (count T types + 2 * count T exprs))) t n s r (rank_below T wf t n r) (omega (arith, rank_below T wf t n r)) ∙ refl

  -- so any number of levels from `levels` on gives the import
  pub levels_enough : (f : ℕ) (t : Tab) (n : ℕ) (s : Derived) → n < count T t → levels T ≤ f → import_f f o T t n s ≡ import_t o T t n s
  unfolding import_t levels
  levels_enough f t n s r l = fuel f (2 + (count T types + 2 * count T exprs)) t n s r (omega (arith, rank_below T wf t n r)) (rank_below T wf t n r)

-- ---- the one induction
pub record Ready (T : Tables) (s : Derived) (t : Tab) (n : ℕ) : Type 0 where
  pub range : n < count T t
  pub room : n < length (at t s.maps)
  pub unmapped : map_at s.maps t n ≡ 0
  pub refs_in : All (Has (mapped_to_t s)) (refs (rec_at T t n))

-- commits, one after the other, each of what was ready
pub data Trace (o : ℕ) (T : Tables) : Derived → Derived → Type 0 where
  done : {s : Derived} → Trace o T s s
  then : {s r : Derived} {t : Tab} {n : ℕ} → Ready T s t n → Trace o T (commit o T t n s) r → Trace o T s r

module _ {o : ℕ} {T : Tables} where
  pub trace_join : {a b c : Derived} → Trace o T a b → Trace o T b c → Trace o T a c
  trace_join done q = q
  trace_join (then r p) q = then r (trace_join p q)

  -- THE KEEP RULE, for a fact of a state
  pub keep_rule : (I : Derived → Type 0) → ((s : Derived) (t : Tab) (n : ℕ) → Ready T s t n → I s → I (commit o T t n s)) → {a b : Derived} → Trace o T a b → I a → I b
  keep_rule I h done i = i
  keep_rule I h (then {s = s} {t = t} {n = n} r p) i = keep_rule I h p (h s t n r i)

  -- and for a fact of two states, as they were and as they are
  pub keep_rule₂ : (R : Derived → Derived → Type 0) → ((s : Derived) → R s s) → ((a b c : Derived) → R a b → R b c → R a c) → ((s : Derived) (t : Tab) (n : ℕ) → Ready T s t n → R s (commit o T t n s))
      → {a b : Derived} → Trace o T a b → R a b
  keep_rule₂ R rf tr h {a} done = rf a
  keep_rule₂ R rf tr h {a} {b} (then {t = t} {n = n} r p) = tr a (commit o T t n a) b (h a t n r) (keep_rule₂ R rf tr h p)

-- a map for each source record
unfoldable pub Sized : Tables → Derived → Type 0
Sized T s = (u : Tab) → length (at u s.maps) ≡ count T u

pub commit-sized : (o : ℕ) (T : Tables) (s : Derived) (t : Tab) (n : ℕ) → Ready T s t n → Sized T s → Sized T (commit o T t n s)
unfolding Sized commit
commit-sized o T s t n r z u = settle_size t n (made o T t n s) s u ∙ z u

-- what is mapped stays mapped to the same
unfoldable pub Keeps : Derived → Derived → Type 0
Keeps s r = (u : Tab) (k : ℕ) → 0 < map_at s.maps u k → map_at r.maps u k ≡ map_at s.maps u k

pub keeps_trans : (a b c : Derived) → Keeps a b → Keeps b c → Keeps a c
unfolding Keeps
keeps_trans a b c p q u k h = let e = p u k h in q u k (rw e h) ∙ e

-- and so does what a record's reference is mapped to
pub keeps_went : (s r : Derived) → Keeps s r → (p : Place) (k : ℕ) → 0 < mapped_to_t s p k → mapped_to_t r p k ≡ mapped_to_t s p k
unfolding Keeps mapped_to_t
keeps_went s r K (table t) k h = K t k h
keeps_went s r K own k h = K exprs k h
keeps_went s r K function k h = refl

pub commit_keeps : (o : ℕ) (T : Tables) (s : Derived) (t : Tab) (n : ℕ) → Ready T s t n → Keeps s (commit o T t n s)
unfolding Keeps commit
commit_keeps o T s t n r =
    node-cases (λ u k. 0 < map_at s.maps u k → map_at (commit o T t n s).maps u k ≡ map_at s.maps u k) t n
    (λ h. absurd (omega (arith, r.unmapped))) (λ u k w h. settle_other t n (made o T t n s) s u k w)

module _ (o : ℕ) (T : Tables) where
  pub trace_sized : {a b : Derived} → Trace o T a b → Sized T a → Sized T b
  trace_sized = keep_rule (Sized T) (commit-sized o T)

  pub trace_keeps : {a b : Derived} → Trace o T a b → Keeps a b
  unfolding Keeps
  trace_keeps = keep_rule₂ Keeps (λ s u k h. refl) keeps_trans (commit_keeps o T)

  pub trace_has : {a b : Derived} (j : Node) → Trace o T a b → Has (mapped_to_t a) j → Has (mapped_to_t b) j
  trace_has {a} {b} j p h = rw (keeps_went a b (trace_keeps p) j.place j.num h) h

  -- what an import does; nothing above it is touched
  pub record Res (t : Tab) (n : ℕ) (s r : Derived) : Type 0 where
    pub trace : Trace o T s r
    pub has : 0 < map_at r.maps t n
    pub frame : (u : Tab) (k : ℕ) → rank T t n < rank T u k → map_at r.maps u k ≡ map_at s.maps u k

  pub record ResAll (b : ℕ) (js : List Node) (s r : Derived) : Type 0 where
    pub trace : Trace o T s r
    pub has : All (Has (mapped_to_t r)) js
    pub frame : (u : Tab) (k : ℕ) → b ≤ rank T u k → map_at r.maps u k ≡ map_at s.maps u k

  pub each_res : (b : ℕ) (P : Node → Type 0) (imp : Tab → ℕ → Derived → Derived)
      → ((j : Node) → P j → (t : Tab) × May t j.place)
      → ((j : Node) (s : Derived) → P j → Sized T s → (rank T (home j.place) j.num < b) × Res (home j.place) j.num s (imp (home j.place) j.num s))
      → (js : List Node) (s : Derived) → All P js → Sized T s → ResAll b js s (fold_refs js (step_t imp) s)
  unfolding fold_refs
  each_res b P imp may h [] s a z = record { trace = done; has = tt; frame = λ u k l. refl }
  each_res b P imp may h (j ∷ js) s a z =
      let one = h j s a.0 z in
      let m = may j a.0 in
      let more = each_res b P imp may h js (imp (home j.place) j.num s) a.1 (trace_sized one.1.trace z) in
      let hj : Has (mapped_to_t (imp (home j.place) j.num s)) j = rw (went-home m.1 (imp (home j.place) j.num s) j.num) one.1.has in
      rw (step-home m.1 imp j.num s)
      (record {
        trace = trace_join one.1.trace more.trace;
        has = (trace_has j more.trace hj, more.has);
        frame = λ u k l. more.frame u k l ∙ one.1.frame u k (omega (arith, one.0));
      })

  pub once_is : (P : Derived → Type 0) (v : ℕ) (k : ℕ → Derived) (s : Derived) → (v ≡ 0 → P (k 0)) → (0 < v → P s) → P (unless_mapped v k s)
  unfolding unless_mapped
  once_is P zero k s f g = f refl
  once_is P (suc v) k s f g = g (omega arith)

  module _ (wf : WF T) where
    pub import_res : (f : ℕ) (t : Tab) (n : ℕ) (s : Derived) → rank T t n < f → n < count T t → Sized T s → Res t n s (import_f f o T t n s)
    unfolding import_f Lower Sized commit Other
    import_res zero t n s l r z = absurd (not-suc-le-zero l)
    import_res (suc f) t n s l r z =
        once_is (Res t n s) (map_at s.maps t n) _ s
        (λ e.
        let all = each_res (rank T t n) (Lower T t n) (import_f f o T) (λ j w. (t, w.2))
        (λ j s' w z'. (w.1, import_res f (home j.place) j.num s' (omega (arith, w.1)) w.0 z')) (refs (rec_at T t n)) s (falls T wf t n r) z in
        let s₁ : Derived = fold_refs (refs (rec_at T t n)) (step_t (import_f f o T)) s in
        let z₁ : Sized T s₁ = trace_sized all.trace z in
        let ready : Ready T s₁ t n = record { range = r; room = rw (z₁ t) r; unmapped = all.frame t n (omega arith) ∙ e; refs_in = all.has } in
        record {
          trace = trace_join all.trace (then ready done);
          has = rw (settle_here t n (made o T t n s₁) s₁ ready.room) (omega arith);
          frame = λ u k w. settle_other t n (made o T t n s₁) s₁ u k (above u k w) ∙ all.frame u k (omega arith);
        })
        (λ h. record { trace = done; has = h; frame = λ u k w. refl })
      where
        above : (u : Tab) (k : ℕ) → rank T t n < rank T u k → Other t n u k
        above u k w p q = let x : rank T t n < rank T t n = rw (p, q) at w in omega arith

    -- THE IMPORT: a row of commits, after which the number is mapped
    pub import_trace : (t : Tab) (n : ℕ) (s : Derived) → n < count T t → Sized T s → Trace o T s (import_t o T t n s) × (0 < map_at (import_t o T t n s).maps t n)
    unfolding import_t levels
    import_trace t n s r z = let w = import_res (2 + (count T types + 2 * count T exprs)) t n s (rank_below T wf t n r) r z in (w.trace, w.has)
