-- An Emit's first pass leaves nothing outside the function to its second: a record that was imported is mapped and stays so, and one that is mapped imports nothing, so that the second pass appends.
use mathlib.Core.Path.{◌≡◌, refl, sym, ap, ◌∙◌}
use mathlib.Core.Bool.{false}
use mathlib.Core.List.{List, [], ◌∷◌}
use Prim.Native.Nat.{ℕ, zero, suc, ◌+◌, ◌≤◌, ◌<◌}
use native.Mathlib.Decide.{ℕ_discrete}
use native.Mathlib.Nat.{le_refl}
use native.Mathlib.Omega.{arith}
use lib.ListN.{length, get_or, set, take}
use lib.Seq.{get_or-take}
use Rattle.model.specs.Outcome.{Cells}
use Rattle.model.specs.Module.{Module, count_at}
use Rattle.model.specs.Tables.{Tab, exprs, code_t, at, Tables, tables, rec_at, map_at}
use Rattle.model.specs.References.{Place, table, own, function, Node, refs, fold_refs, index_of}
use Rattle.model.specs.Scope.{in_range}
use Rattle.model.specs.Imports.{Derived, intern, made, commit, step_t, import_f, levels, import_t}
use Rattle.model.specs.Bodies.{Builder, bring, step, each_e, append_expr, intern_expr}
use Rattle.theory_records.specs.RecordLaws.{All, all_map}
use Rattle.theory_records.specs.TableLaws.{Tab_dec, at_same, at_other, at-six}
use Rattle.theory_records.specs.Trace.{settle_here, settle_size}
use Rattle.theory_bodies.specs.Context.{once_is}
use Rattle.theory_bodies.specs.Shallow.{need, peek, glance}
use Rattle.theory_passes.specs.Cases.{range_next}
use Rattle.theory_passes.proofs.Growth.{Growing, grow_all, grow_peek, grow_glance}
use Rattle.theory_passes.specs.Light.{still}
use Rattle.derive_state.specs.Source.{mod_of}
use Rattle.derive_state.specs.Held.{maps_of, st_of, ValidArrays}
use Rattle.derive_state.specs.Sizes.{Sizes}
use Rattle.derive_state.proofs.State.{code_low}
use Rattle.function_references.specs.Fits.{Fits, FitN}
use Rattle.function_references.specs.Cuts.{exprs_of, Expressions}
use Rattle.function_builder.specs.Stacks.{making_of, Under}
use Rattle.function_builder.specs.Makes.{Makes}
use Rattle.function_builder.proofs.Then.{makes_then}
use Rattle.function_words.specs.Runs.{glances, Met, MetN, Drawn}
use Rattle.function_words.proofs.Running.{makes-idle}

-- ---- an import of a table's record: the maps keep their lengths, and what was mapped is
record Spread (s s' : Derived) : Type 0 where
  long : (u : Tab) → length (at u s'.maps) ≡ length (at u s.maps)
  new : (u : Tab) (k : ℕ) → map_at s'.maps u k ≡ 0 → map_at s.maps u k ≡ 0

stay : (s : Derived) → Spread s s
stay s = record { long = λ u. refl; new = λ u k z. z }

then : {a b c : Derived} → Spread a b → Spread b c → Spread a c
then p q = record { long = λ u. q.long u ∙ p.long u; new = λ u k z. p.new u k (q.new u k z) }

set_new : (l : List ℕ) (e v y : ℕ) → get_or (set l e (suc v)) y 0 ≡ 0 → get_or l y 0 ≡ 0
set_new [] e v y z = z
set_new (x ∷ l) zero v zero z = absurd (omega arith)
set_new (x ∷ l) zero v (suc y) z = z
set_new (x ∷ l) (suc e) v zero z = z
set_new (x ∷ l) (suc e) v (suc y) z = set_new l e v y z

spread_settle : (t : Tab) (n : ℕ) (c : Cells) (s : Derived) → Spread s (intern t n c s)
unfolding intern map_at
spread_settle t n c s = record { long = settle_size t n c s; new = λ u k. go u k (Tab_dec t u) }
  where
    go : (u : Tab) (k : ℕ) → Dec (t ≡ u) → map_at (intern t n c s).maps u k ≡ 0 → map_at s.maps u k ≡ 0
    go u k (yes p) z = rw (← p) (set_new (at t s.maps) n _ k (rw (← p, at_same t (set (at t s.maps) n (suc (index_of (at t s.recs) c))) s.maps) at z))
    go u k (no ne) z = rw (at_other t u (set (at t s.maps) n (suc (index_of (at t s.recs) c))) s.maps ne) at z

spread_step : (imp : Tab → ℕ → Derived → Derived) → ((t : Tab) (n : ℕ) (s : Derived) → Spread s (imp t n s)) → (p : Place) (n : ℕ) (s : Derived) → Spread s (step_t imp p n s)
unfolding step_t
spread_step imp G (table t) n s = G t n s
spread_step imp G own n s = G exprs n s
spread_step imp G function n s = stay s

spread_each : (imp : Tab → ℕ → Derived → Derived) → ((t : Tab) (n : ℕ) (s : Derived) → Spread s (imp t n s)) → (js : List Node) (s : Derived) → Spread s (fold_refs js (step_t imp) s)
unfolding fold_refs
spread_each imp G [] s = stay s
spread_each imp G (j ∷ js) s = then (spread_step imp G j.place j.num s) (spread_each imp G js (step_t imp j.place j.num s))

module _ (o : ℕ) (T : Tables) where
  spread_F : (f : ℕ) (t : Tab) (n : ℕ) (s : Derived) → Spread s (import_f f o T t n s)
  unfolding import_f commit
  spread_F zero t n s = stay s
  spread_F (suc f) t n s = once_is (Spread s) (map_at s.maps t n) _ s (λ z. then (spread_each (import_f f o T) (spread_F f) (refs (rec_at T t n)) s) (spread_settle t n _ _)) (λ h. stay s)

  spread_T : (t : Tab) (n : ℕ) (s : Derived) → Spread s (import_t o T t n s)
  unfolding import_t
  spread_T t n s = spread_F (levels T) t n s

  -- its number is mapped then
  met_F : (f : ℕ) → 0 < f → (t : Tab) (n : ℕ) (s : Derived) → n < length (at t s.maps) → map_at (import_f f o T t n s).maps t n ≡ 0 → ⊥
  unfolding import_f commit
  met_F zero p t n s l = absurd (omega arith)
  met_F (suc f) p t n s l =
      let s₁ : Derived = fold_refs (refs (rec_at T t n)) (step_t (import_f f o T)) s in
      let w = spread_each (import_f f o T) (spread_F f) (refs (rec_at T t n)) s in
      once_is (λ r. map_at r.maps t n ≡ 0 → ⊥) (map_at s.maps t n) _ s (λ z q. omega (arith, settle_here t n (made o T t n s₁) s₁ (rw (w.long t) l))) (λ h q. omega arith)

  import_met : (t : Tab) (n : ℕ) (s : Derived) → n < length (at t s.maps) → map_at (import_t o T t n s).maps t n ≡ 0 → ⊥
  unfolding import_t levels
  import_met t n s l = met_F (levels T) (omega arith) t n s l

  -- and where it is, nothing is done
  idle-F : (f : ℕ) (t : Tab) (n : ℕ) (s : Derived) → (map_at s.maps t n ≡ 0 → ⊥) → import_f f o T t n s ≡ s
  unfolding import_f
  idle-F zero t n s ne = refl
  idle-F (suc f) t n s ne = once_is (λ r. r ≡ s) (map_at s.maps t n) _ s (λ z. absurd (ne z)) (λ h. refl)

  import_idle : (t : Tab) (n : ℕ) (s : Derived) → (map_at s.maps t n ≡ 0 → ⊥) → import_t o T t n s ≡ s
  unfolding import_t
  import_idle t n s ne = idle-F (levels T) t n s ne

-- ---- the same of the builder
record Widens (m m' : Builder) : Type 0 where
  out : Spread m.out m'.out
  new : (y : ℕ) → get_or m'.memo y 0 ≡ 0 → get_or m.memo y 0 ≡ 0

met_on : {m m' : Builder} → Widens m m' → (p : Place) (n : ℕ) → Met m.out.maps p n → Met m'.out.maps p n
unfolding Met
met_on w (table t) n h = λ z. h (w.out.new t n z)
met_on w own n h = tt
met_on w function n h = tt

-- the maps have room for what fits
abbrev Wide : List ℕ → Builder → Type 0
Wide words m = (t : Tab) (n : ℕ) → n < count_at (code_t t) words → n < 512 → n < length (at t m.out.maps)

wide-on : (words : List ℕ) {m m' : Builder} → Widens m m' → Wide words m → Wide words m'
wide-on words w h t n l g = rw (w.out.long t) (h t n l g)

module _ (o : ℕ) (M : Module) (xs : List Cells) where
  widening : Growing o M still xs Widens
  unfolding bring append_expr intern_expr
  widening = record {
    same = λ m. record { out = stay m.out; new = λ y z. z };
    next = λ a b c p q. record { out = then p.out q.out; new = λ y z. p.new y (q.new y z) };
    tables = λ t n m. record { out = spread_T o (tables M) t n m.out; new = λ y z. z };
    functions = λ f m. record { out = stay m.out; new = λ y z. z };
    appends = λ e m. record { out = stay m.out; new = λ y z. set_new m.memo e _ y z };
    merges = λ e m. record { out = stay m.out; new = λ y z. set_new m.memo e _ y z };
  }

  -- an expression is mapped, or what it refers to outside is
  abbrev Seen : Builder → ℕ → Type 0
  Seen m y = get_or m.memo y 0 ≡ 0 → All (MetN m.out.maps) (refs (get_or xs y []))

  seen-on : {m m' : Builder} → Widens m m' → (y : ℕ) → Seen m y → Seen m' y
  seen-on w y h z = all_map (refs (get_or xs y [])) (λ j. met_on w j.place j.num) (h (w.new y z))

  module _ (words : List ℕ) (k : ℕ) where
    abbrev steps : Place → ℕ → Builder → Builder
    steps = step o M still (peek o M still xs)

    step_met : (p : Place) (n : ℕ) (m : Builder) → Fits words k p n → Wide words m → Widens m (steps p n m) × Met (steps p n m).out.maps p n
    unfolding step bring Fits Met
    step_met (table t) n m f w = (widening.tables t n m, import_met o (tables M) t n m.out (w t n f.0 f.1))
    step_met own n m f w = (grow_peek o M still xs Widens widening n m, tt)
    step_met function n m f w = (widening.same m, tt)

    each_met : (js : List Node) (m : Builder) → All (FitN words k) js → Wide words m → Widens m (fold_refs js steps m) × All (MetN (fold_refs js steps m).out.maps) js
    unfolding fold_refs
    each_met [] m f w = (widening.same m, tt)
    each_met (j ∷ js) m f w =
        let s = step_met j.place j.num m f.0 w in
        let r = each_met js (steps j.place j.num m) f.1 (wide-on words s.0 w) in
        (widening.next m _ _ s.0 r.0, (met_on r.0 j.place j.num s.1, r.1))

    glance-seen : (y : ℕ) (m : Builder) → All (FitN words k) (refs (get_or xs y [])) → Wide words m → Seen (glance o M still xs y m) y
    unfolding glance
    glance-seen y m f w = once_is (λ r. Seen r y) (get_or m.memo y 0) _ m (λ z q. (each_met (refs (get_or xs y [])) m f w).1) (λ h q. absurd (omega arith))

  -- a first pass
  range_seen : (words : List ℕ) (d a b : ℕ) (m : Builder) → b ≤ a + d → ((y : ℕ) → y < b → All (FitN words y) (refs (get_or xs y []))) → Wide words m
      → (y : ℕ) → a ≤ y → y < b → Seen (each_e (in_range (record { from = a; to = b })) (glance o M still xs) m) y
  range_seen words zero a b m e f w y l h = absurd (omega arith)
  range_seen words (suc d) a b m e f w y l h =
      let g = grow_glance o M still xs Widens widening in
      rw (range_next a b (glance o M still xs) m (omega arith))
      (elim (ℕ_discrete y a) [
        | yes p ↦ seen-on (grow_all o M still xs Widens widening (glance o M still xs) g (in_range (record { from = suc a; to = b })) (glance o M still xs a m)) y (rw p (glance-seen words a a m (f a (omega arith)) w))
        | no ne ↦ range_seen words d (suc a) b (glance o M still xs a m) (omega arith) f (wide-on words (g a m) w) y (omega arith) h
      ])

  -- what is left of an expression whose references outside are mapped
  each_idle : (js : List Node) (m : Builder) → All (MetN m.out.maps) js → fold_refs js (step o M still (λ x m. m)) m ≡ m
  unfolding fold_refs step bring Met
  each_idle [] m a = refl
  each_idle (j ∷ js) m a = rw (go j.place j.num a.0) (each_idle js m a.1)
    where
      go : (p : Place) (n : ℕ) → Met m.out.maps p n → step o M still (λ x m. m) p n m ≡ m
      go (table t) n h = rw (import_idle o (tables M) t n m.out h)
      go own n h = refl
      go function n h = refl

  need_push : (y : ℕ) (m : Builder) → get_or m.memo y 0 ≡ 0 → All (MetN m.out.maps) (refs (get_or xs y [])) → need o M still xs y m ≡ append_expr o M still xs y m
  unfolding need
  need_push y m z a = once_is (λ r. r ≡ append_expr o M still xs y m) (get_or m.memo y 0) _ m (λ q. ap (append_expr o M still xs y) (each_idle (refs (get_or xs y [])) m a)) (λ h. absurd (omega arith))

-- ---- as the arrays hold it
take_long : (c n : ℕ) (l : List ℕ) → n < c → n < length l → n < length (take c l)
take_long zero n l h g = absurd (omega arith)
take_long (suc c) n [] h g = g
take_long (suc c) zero (x ∷ l) h g = omega arith
take_long (suc c) (suc n) (x ∷ l) h g = let z = take_long c n l (omega arith) (omega arith) in omega arith

module _ {words tags places : List ℕ} {k : ℕ} (X : Expressions words tags places k) (n o : ℕ) where
  abbrev M : Module
  M = mod_of words n

  abbrev xs : List Cells
  xs = exprs_of words tags places k

  module _ {log₀ logtags₀ : List ℕ} {starts₀ maps₀ : List (List ℕ)} {buckets₀ exprmap₀ : List ℕ} {stacks₀ : List (List ℕ)} {e₁ : ℕ} {e : Sizes} (K : ValidArrays log₀ logtags₀ starts₀ maps₀ buckets₀ e) (U : Under k exprmap₀ stacks₀ e₁ e) where
    abbrev m₀ : List ℕ → Builder
    m₀ special = making_of words k log₀ logtags₀ starts₀ maps₀ special e exprmap₀ stacks₀ e₁

    wide_of : (special : List ℕ) → Wide words (m₀ special)
    unfolding making_of st_of maps_of
    wide_of special t j l g =
        let q = K.rows' (code_t t) (code_low t) in
        rw (at-six t (λ u. take (count_at (code_t u) words) (get_or maps₀ (code_t u) []))) (take_long (count_at (code_t t) words) j (get_or maps₀ (code_t t) []) l (omega arith))

    module _ {r : Sizes} {log logtags : List ℕ} {starts maps : List (List ℕ)} {buckets exprmap : List ℕ} {stacks : List (List ℕ)} (nf : r.full ≡ false) {a b : ℕ} (low : b ≤ k) where
      -- after a first pass
      pub drawn_first : Makes words k (each_e (in_range (record { from = a; to = b })) (glances o words tags n places k)) log₀ logtags₀ starts₀ maps₀ buckets₀ exprmap₀ stacks₀ e₁ e r log logtags starts maps buckets exprmap stacks → Drawn words tags places k maps exprmap a b
      unfolding making_of st_of
      drawn_first A = record {
        met = λ y f h z.
            let s = range_seen o M xs words b a b (m₀ []) (omega arith) (λ x g. X.fits x (omega arith)) (wide_of []) y f h in
            let s' : Seen o M xs (making_of words k log logtags starts maps [] r exprmap stacks e₁) y = rw (A.is nf []) at s in
            s' (get_or-take k exprmap y 0 (omega arith) ∙ z);
      }

      -- after one that was appended
      pub drawn_on : (y : ℕ) → Makes words k (append_expr o M still xs y) log₀ logtags₀ starts₀ maps₀ buckets₀ exprmap₀ stacks₀ e₁ e r log logtags starts maps buckets exprmap stacks → Drawn words tags places k maps₀ exprmap₀ a b → Drawn words tags places k maps₀ exprmap (a + 1) b
      unfolding making_of
      drawn_on y A D = record {
        met = λ x f h z.
            let q : get_or (append_expr o M still xs y (m₀ [])).memo x 0 ≡ 0 = rw (A.is nf []) (get_or-take k exprmap x 0 (omega arith) ∙ z) in
            D.met x (omega arith) h (sym (get_or-take k exprmap₀ x 0 (omega arith)) ∙ ((widening o M xs).appends y (m₀ [])).new x q);
      }

    -- one that is not mapped is appended
    pub need_appends : e.full ≡ false → {y b : ℕ} → y < b → b ≤ k → Drawn words tags places k maps₀ exprmap₀ y b → get_or exprmap₀ y 0 ≡ 0
        → {r : Sizes} {log logtags : List ℕ} {starts maps : List (List ℕ)} {buckets exprmap : List ℕ} {stacks : List (List ℕ)} → Makes words k (append_expr o M still xs y) log₀ logtags₀ starts₀ maps₀ buckets₀ exprmap₀ stacks₀ e₁ e r log logtags starts maps buckets exprmap stacks
        → Makes words k (need o M still xs y) log₀ logtags₀ starts₀ maps₀ buckets₀ exprmap₀ stacks₀ e₁ e r log logtags starts maps buckets exprmap stacks
    unfolding making_of st_of
    need_appends nf {y} h low D z {r} {log} {logtags} {starts} {maps} {buckets} {exprmap} {stacks} A =
        makes_then words k e₁ log₀ logtags₀ starts₀ maps₀ buckets₀ exprmap₀ stacks₀ e K (λ m. m) e log₀ logtags₀ starts₀ maps₀ buckets₀ exprmap₀ stacks₀ (makes-idle K U nf (λ m. refl)) (append_expr o M still xs y) (need o M still xs y)
        (λ special. need_push o M xs y (m₀ special) (get_or-take k exprmap₀ y 0 (omega arith) ∙ z) (D.met y (le_refl y) h z)) nf r log logtags starts maps buckets exprmap stacks A

-- one that is mapped is passed by
pub drawn_next : {words tags places : List ℕ} {k : ℕ} {maps : List (List ℕ)} {exprmap : List ℕ} {a b : ℕ} → Drawn words tags places k maps exprmap a b → Drawn words tags places k maps exprmap (a + 1) b
drawn_next D = record { met = λ y f h z. D.met y (omega arith) h z }
