-- One cell of a pass, by its class: the equations that a loop over the cells uses. In each, what is left from the next cell on is the whole.
use Rattle.std.specs.Prelude.{◌≡◌, Bool, true, ℕ, suc, ◌<◌, ◌≤◌, ◌-◌, pred, length, get_or}
use Rattle.std.proofs.Math.Path.{refl, ap}
use Rattle.std.proofs.Common.{◌∙◌, arith}
use mathlib.Core.List.{[], ◌∷◌}
use Rattle.model.specs.Outcome.{Cells, class, word}
use Rattle.model.specs.Table.{SPAN, UPTO, FROM, TO, STMT_KIND}
use Rattle.model.specs.Module.{Module}
use Rattle.model.specs.Tables.{Tab, tables, map_at}
use Rattle.model.specs.References.{Place, table, own, function, Target, copied, ref, opt, targets, target, carry_w, through, undefined, add, first_word, undefined_at, moved, refs, fold_refs}
use Rattle.model.specs.Scope.{up_from, in_range}
use Rattle.model.specs.Imports.{Derived, import_t}
use Rattle.model.specs.Bodies.{known, Builder, bring, mapped_to, step, each_e}
use Rattle.theory_passes.specs.Pass.{arrive, first, both, early, passed, word_of, after, written}
use Rattle.theory_passes.specs.Passage.{calm?, calm_of, calm-passed, calm-word, arrive_each}

-- ---- a range, from its start on
pub range_end : (a b : ℕ) (h : ℕ → Builder → Builder) (m : Builder) → b ≤ a → each_e (in_range (record { from = a; to = b })) h m ≡ m
unfolding in_range up_from each_e
range_end a b h m l = let z : b - a ≡ 0 = omega arith in rw z

pub range_next : (a b : ℕ) (h : ℕ → Builder → Builder) (m : Builder) → a < b → each_e (in_range (record { from = a; to = b })) h m ≡ each_e (in_range (record { from = suc a; to = b })) h (h a m)
unfolding in_range
range_next a b h m l = let z : b - a ≡ suc (b - suc a) = omega arith in rw z (unfold up_from each_e in refl)

module _ (o : ℕ) (M : Module) (follow : ℕ → Derived → Derived) (p q : ℕ → Builder → Builder) where
  abbrev A : Cells → Builder → Builder
  A = after o M follow p q

  abbrev W : Cells → Bool → Builder → Cells
  W = written o M follow p q

  abbrev to : Target → ℕ → Builder → Builder
  to = arrive o M follow p q

  -- ---- a span
  pub after_start : (a : ℕ) (cs : Cells) (m : Builder) → A ((SPAN, a) ∷ cs) m ≡ A cs m
  unfolding after passed arrive target targets
  after_start a cs m = refl

  pub after_upto : (b : ℕ) (cs : Cells) (m : Builder) → A ((UPTO, b) ∷ cs) m ≡ A cs m
  unfolding after passed arrive target targets
  after_upto b cs m = refl

  pub written_start : (a : ℕ) (cs : Cells) (u : Bool) (m : Builder) → W ((SPAN, a) ∷ cs) u m ≡ (SPAN, add (undefined a (first_word cs)) o a) ∷ W cs (undefined a (first_word cs)) m
  unfolding written passed word_of arrive target targets undefined_at moved through carry_w
  written_start a cs u m = refl

  pub written_upto : (b : ℕ) (cs : Cells) (u : Bool) (m : Builder) → W ((UPTO, b) ∷ cs) u m ≡ (UPTO, add u o b) ∷ W cs u m
  unfolding written passed word_of arrive target targets undefined_at moved through carry_w
  written_upto b cs u m = refl

  -- ---- an Emit: both passes at its start, nothing at its end
  pub after_from : (a : ℕ) (cs : Cells) (m : Builder) → A ((FROM, a) ∷ cs) m ≡ A cs (both o M follow p q a (first_word cs) m)
  unfolding after passed
  after_from a cs m = refl

  pub written_from : (a : ℕ) (cs : Cells) (u : Bool) (m : Builder) → W ((FROM, a) ∷ cs) u m ≡ (FROM, length (first o M follow p q a (first_word cs) m).made) ∷ W cs u (both o M follow p q a (first_word cs) m)
  unfolding written passed word_of target targets undefined_at
  written_from a cs u m = refl

  pub after-to : (b : ℕ) (cs : Cells) (m : Builder) → A ((TO, b) ∷ cs) m ≡ A cs m
  unfolding after passed arrive target targets
  after-to b cs m = refl

  pub written-to : (b : ℕ) (cs : Cells) (u : Bool) (m : Builder) → W ((TO, b) ∷ cs) u m ≡ (TO, length m.made) ∷ W cs u m
  unfolding written passed word_of arrive target targets undefined_at
  written-to b cs u m = refl

  -- ---- a statement's kind
  pub after-kind : (k : ℕ) (cs : Cells) (m : Builder) → A ((STMT_KIND, k) ∷ cs) m ≡ A cs (early o M follow p q k cs m)
  unfolding after passed
  after-kind k cs m = refl

  pub written-kind : (k : ℕ) (cs : Cells) (u : Bool) (m : Builder) → W ((STMT_KIND, k) ∷ cs) u m ≡ (STMT_KIND, k) ∷ W cs u (early o M follow p q k cs m)
  unfolding written passed word_of target targets undefined_at moved through carry_w
  written-kind k cs u m = refl

  -- ---- every other class (`calm?`), by what its word refers to
  pub after-calm : (s w : ℕ) (cs : Cells) (m : Builder) → calm? s ≡ true → A ((s, w) ∷ cs) m ≡ A cs (to (target s) w m)
  unfolding after
  after-calm s w cs m c = ap (A cs) (calm-passed o M follow p q w cs m (calm_of s c))

  pub written-calm : (s w : ℕ) (cs : Cells) (u : Bool) (m : Builder) → calm? s ≡ true → W ((s, w) ∷ cs) u m ≡ (s, through (mapped_to M (to (target s) w m)) s w) ∷ W cs u (to (target s) w m)
  unfolding written
  written-calm s w cs u m c = let k = calm_of s c in rw (k.flag w (first_word cs) u, calm-word o M follow p q w cs u m k, calm-passed o M follow p q w cs m k)

  -- a copied word
  pub after_copied : (s w : ℕ) (cs : Cells) (m : Builder) → calm? s ≡ true → target s ≡ copied → A ((s, w) ∷ cs) m ≡ A cs m
  after_copied s w cs m c t = after-calm s w cs m c ∙ rw t (unfold arrive in refl)

  pub written_copied : (s w : ℕ) (cs : Cells) (u : Bool) (m : Builder) → calm? s ≡ true → target s ≡ copied → W ((s, w) ∷ cs) u m ≡ (s, w) ∷ W cs u m
  unfolding through
  written_copied s w cs u m c t = written-calm s w cs u m c ∙ rw t (unfold arrive carry_w in refl)

  -- a number, and an optional number
  pub after_ref : (s w : ℕ) (pl : Place) (cs : Cells) (m : Builder) → calm? s ≡ true → target s ≡ ref pl → A ((s, w) ∷ cs) m ≡ A cs (step o M follow p pl w m)
  after_ref s w pl cs m c t = after-calm s w cs m c ∙ rw t (unfold arrive in refl)

  pub written_ref : (s w : ℕ) (pl : Place) (cs : Cells) (u : Bool) (m : Builder) → calm? s ≡ true → target s ≡ ref pl → W ((s, w) ∷ cs) u m ≡ (s, pred (mapped_to M (step o M follow p pl w m) pl w)) ∷ W cs u (step o M follow p pl w m)
  unfolding through
  written_ref s w pl cs u m c t = written-calm s w cs u m c ∙ rw t (unfold arrive carry_w in refl)

  pub after_none : (s : ℕ) (pl : Place) (cs : Cells) (m : Builder) → calm? s ≡ true → target s ≡ opt pl → A ((s, 0) ∷ cs) m ≡ A cs m
  after_none s pl cs m c t = after-calm s 0 cs m c ∙ rw t (unfold arrive in refl)

  pub written_none : (s : ℕ) (pl : Place) (cs : Cells) (u : Bool) (m : Builder) → calm? s ≡ true → target s ≡ opt pl → W ((s, 0) ∷ cs) u m ≡ (s, 0) ∷ W cs u m
  unfolding through
  written_none s pl cs u m c t = written-calm s 0 cs u m c ∙ rw t (unfold arrive carry_w in refl)

  pub after_some : (s n : ℕ) (pl : Place) (cs : Cells) (m : Builder) → calm? s ≡ true → target s ≡ opt pl → A ((s, suc n) ∷ cs) m ≡ A cs (step o M follow p pl n m)
  after_some s n pl cs m c t = after-calm s (suc n) cs m c ∙ rw t (unfold arrive in refl)

  pub written_some : (s n : ℕ) (pl : Place) (cs : Cells) (u : Bool) (m : Builder) → calm? s ≡ true → target s ≡ opt pl → W ((s, suc n) ∷ cs) u m ≡ (s, mapped_to M (step o M follow p pl n m) pl n) ∷ W cs u (step o M follow p pl n m)
  unfolding through
  written_some s n pl cs u m c t = written-calm s (suc n) cs u m c ∙ rw t (unfold arrive carry_w in refl)

  -- what a number imports, and what it is mapped to
  pub step_own : (e : ℕ) (m : Builder) → step o M follow p own e m ≡ p e m
  unfolding step
  step_own e m = refl

  pub step-table : (t : Tab) (n : ℕ) (m : Builder) → step o M follow p (table t) n m ≡ record { out = import_t o (tables M) t n m.out; memo = m.memo; made = m.made }
  unfolding step bring
  step-table t n m = refl

  pub step-function : (f : ℕ) (m : Builder) → step o M follow p function f m ≡ record { out = follow f m.out; memo = m.memo; made = m.made }
  unfolding step bring
  step-function f m = refl

  pub went_own : (m : Builder) (e : ℕ) → mapped_to M m own e ≡ get_or m.memo e 0
  unfolding mapped_to
  went_own m e = refl

  pub went-table : (m : Builder) (t : Tab) (n : ℕ) → mapped_to M m (table t) n ≡ map_at m.out.maps t n
  unfolding mapped_to
  went-table m t n = refl

  pub went-function : (m : Builder) (f : ℕ) → mapped_to M m function f ≡ known M m.out f
  unfolding mapped_to
  went-function m f = refl

  -- ---- the references of a record, cell by cell
  unfoldable pub along : Cells → Builder → Builder
  along [] m = m
  along (c ∷ cs) m = along cs (to (target (class c)) (word c) m)

  pub along_is : (cs : Cells) (m : Builder) → fold_refs (refs cs) (step o M follow p) m ≡ along cs m
  unfolding along refs fold_refs
  along_is [] m = refl
  along_is (c ∷ cs) m = arrive_each o M follow p q (target (class c)) (word c) (refs cs) m ∙ along_is cs (to (target (class c)) (word c) m)
