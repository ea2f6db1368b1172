-- WHERE NO SPECIAL TYPE IS DERIVED YET (has_required_special_types says no) no place or key is taken, so setting a source maps none by hand: each place is met once, and keys are distinct.
use Rattle.std.specs.Prelude.{◌≡◌, Bool, true, false, not, List, [], ◌∷◌, ◌++◌, map, ℕ, zero, suc, ◌≤◌, pred, eqb, ltb, length, get_or}
use Rattle.std.proofs.Math.Path.{refl, ap}
use Rattle.std.proofs.Common.{◌∙◌, arith, get_or-set_other, ltb-false}
use Rattle.std.proofs.lemmas.Bool.{not-true}
use Rattle.theory_lists.specs.Booleans.{and_split}
use Rattle.model.specs.Outcome.{Cells, word}
use Rattle.model.specs.Table.{OPT_TYPE, KEY, TYPE}
use Rattle.model.specs.Module.{Special, Module}
use Rattle.model.specs.Names.{field, absent, distinct, named}
use Rattle.model.specs.Tables.{types, Tables, tables, map_at}
use Rattle.model.specs.Imports.{Derived, import_t, unmapped, emptied}
use Rattle.model.specs.Special.{with_special, put_ray, ray_to, ray, rays, keyed, put_pair, pair_to}
use Rattle.model.specs.Session.{Session, any_ray, has_required_special_types}
use Rattle.theory_bodies.specs.Names.{keys_distinct}
use Rattle.theory_finish.specs.Specials.{import_special}
use Rattle.theory_finish.specs.Images.{or_false}
use Rattle.theory_sessions.specs.Mapped.{hand_if, hand_ray, hand_rays, hand_pairs, taken}

-- ---- places
abbrev Open : ℕ → Derived → Type 0
Open k s = (j : ℕ) → k ≤ j → word (get_or s.special.rays j (0, 0)) ≡ 0

kept-special : (o : ℕ) (T : Tables) (n : ℕ) (s : Derived) → (import_t o T types n s).special ≡ s.special
unfolding import_t
kept-special o T n s = import_special _ o T types n s

ray_open : (w k o : ℕ) (T : Tables) (s : Derived) → Open k s → Open (suc k) (ray w k o T s) × ((ray w k o T s).special.pairs ≡ s.special.pairs) × (hand_ray w k s ≡ [])
unfolding ray hand_ray
ray_open zero k o T s f = (λ j l. f j (omega arith), refl, refl)
ray_open (suc n) k o T s f = go (word (get_or s.special.rays k (0, 0))) (f k (omega arith))
  where
    go : (v : ℕ) → v ≡ 0 → Open (suc k) (ray_to v k n o T s) × ((ray_to v k n o T s).special.pairs ≡ s.special.pairs) × (hand_if v n ≡ [])
    go zero e = (
      λ j l. unfold ray_to put_ray with_special in (ap word (get_or-set_other (import_t o T types n s).special.rays k j (OPT_TYPE, map_at (import_t o T types n s).maps types n) (0, 0) (λ q. omega arith)) ∙ ap (λ (p : Special). word (get_or p.rays j (0, 0))) (kept-special o T n s) ∙ f j (omega arith)),
      unfold ray_to put_ray with_special in ap (λ (p : Special). p.pairs) (kept-special o T n s),
      unfold hand_if in refl,
    )
    go (suc v) e = absurd (omega arith)

rays_open : (cs : Cells) (k o : ℕ) (T : Tables) (s : Derived) → Open k s → ((rays cs k o T s).special.pairs ≡ s.special.pairs) × (hand_rays cs k o T s ≡ [])
unfolding rays hand_rays
rays_open [] k o T s f = (refl, refl)
rays_open (c ∷ cs) k o T s f = let a = ray_open (word c) k o T s f in let b = rays_open cs (suc k) o T (ray (word c) k o T s) a.0 in (b.0 ∙ a.1, rw a.2 b.1)

-- ---- keys
abbrev Free : List Cells → List Cells → Type 0
Free ps [] = Unit {0}
Free ps (r ∷ rs) = (keyed ps (field KEY r) ≡ 0) × Free ps rs

keyed-other : (ps : List Cells) (key t k : ℕ) → eqb key k ≡ false → keyed ps k ≡ 0 → keyed (ps ++ (((KEY, key) ∷ (TYPE, t) ∷ []) ∷ [])) k ≡ 0
unfolding keyed field
keyed-other [] key t k e h = rw (keyed, e) refl
keyed-other (p ∷ ps) key t k e h = go (eqb (field KEY p) k) h (keyed-other ps key t k e)
  where
    go : (b : Bool) → ◌≡◌ {A = ℕ} (elim b [ true ↦ suc (field TYPE p) | false ↦ keyed ps k ]) 0 → (keyed ps k ≡ 0 → keyed (ps ++ (((KEY, key) ∷ (TYPE, t) ∷ []) ∷ [])) k ≡ 0) → ◌≡◌ {A = ℕ} (elim b [ true ↦ suc (field TYPE p) | false ↦ keyed (ps ++ (((KEY, key) ∷ (TYPE, t) ∷ []) ∷ [])) k ]) 0
    go true h ih = absurd (omega arith)
    go false h ih = ih h

free-next : (ps rs : List Cells) (key t : ℕ) → absent (map (field KEY) rs) key ≡ true → Free ps rs → Free (ps ++ (((KEY, key) ∷ (TYPE, t) ∷ []) ∷ [])) rs
unfolding absent
free-next ps [] key t a f = tt
free-next ps (r ∷ rs) key t a f = let b = and_split (not (eqb key (field KEY r))) (absent (map (field KEY) rs) key) a in (keyed-other ps key t (field KEY r) (not-true (eqb key (field KEY r)) b.0) f.0, free-next ps rs key t b.1 f.1)

pairs-free : (rs : List Cells) (o : ℕ) (T : Tables) (s : Derived) → distinct (map (field KEY) rs) ≡ true → Free s.special.pairs rs → hand_pairs rs o T s ≡ []
unfolding hand_pairs distinct hand_if
pairs-free [] o T s d f = refl
pairs-free (r ∷ rs) o T s d f = go (keyed s.special.pairs (field KEY r)) f.0 (pairs-free rs o T)
  where
    key : ℕ
    key = field KEY r

    n : ℕ
    n = field TYPE r

    parts : (absent (map (field KEY) rs) key ≡ true) × (distinct (map (field KEY) rs) ≡ true)
    parts = and_split (absent (map (field KEY) rs) key) (distinct (map (field KEY) rs)) d

    go : (v : ℕ) → v ≡ 0 → ((s : Derived) → distinct (map (field KEY) rs) ≡ true → Free s.special.pairs rs → hand_pairs rs o T s ≡ []) → hand_if v n ++ hand_pairs rs o T (pair_to v key n o T s) ≡ []
    go zero e ih = ih (pair_to 0 key n o T s) parts.1 (next parts.0)
      where
        next : absent (map (field KEY) rs) key ≡ true → Free (pair_to 0 key n o T s).special.pairs rs
        next b = unfold pair_to put_pair with_special in rw (kept-special o T n s) (free-next s.special.pairs rs key (pred (map_at (import_t o T types n s).maps types n)) b f.1)
    go (suc v) e ih = absurd (omega arith)

-- ---- none of either
none-keyed : (rs : List Cells) → Free [] rs
unfolding keyed
none-keyed [] = tt
none-keyed (r ∷ rs) = (refl, none-keyed rs)

no_ray : (cs : Cells) → any_ray cs ≡ false → (j : ℕ) → word (get_or cs j (0, 0)) ≡ 0
unfolding any_ray
no_ray [] h j = refl
no_ray (c ∷ cs) h zero = let a = ltb-false 0 (word c) (or_false (ltb 0 (word c)) (any_ray cs) h).0 in omega arith
no_ray (c ∷ cs) h (suc j) = no_ray cs (or_false (ltb 0 (word c)) (any_ray cs) h).1 j

no_pairs : (l : List Cells) → ltb 0 (length l) ≡ false → l ≡ []
no_pairs [] h = refl
no_pairs (r ∷ l) h = absurd (let a = ltb-false 0 (suc (length l)) h in omega arith)

-- THE THEOREM
pub none-taken : (o : ℕ) (m : Module) → named m ≡ true → (s : Session) → has_required_special_types s ≡ false → taken o m s.state ≡ []
unfolding taken emptied has_required_special_types
none-taken o m n s h =
    let a = or_false (ltb 0 (length s.state.special.pairs)) (any_ray s.state.special.rays) h in
    let e : Derived = emptied (unmapped (tables m)) s.state in
    let b = rays_open m.special.rays 0 o (tables m) e (λ j l. no_ray s.state.special.rays a.1 j) in
    rw b.1 (pairs-free m.special.pairs o (tables m) (rays m.special.rays 0 o (tables m) e) (keys_distinct m n) (rw (b.0, no_pairs s.state.special.pairs a.0) (none-keyed m.special.pairs)))
