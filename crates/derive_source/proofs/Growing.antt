-- Setting a source only adds to a state, so that one that is too large stays too large.
use mathlib.Core.List.{List, [], ◌∷◌}
use Prim.Native.Nat.{ℕ, zero, suc}
use lib.ListN.{get_or}
use Rattle.model.specs.Outcome.{Cells, word}
use Rattle.model.specs.Table.{TYPE, KEY}
use Rattle.model.specs.Names.{field}
use Rattle.model.specs.Tables.{types, Tables}
use Rattle.model.specs.Imports.{Derived, import_t}
use Rattle.model.specs.Special.{ray_to, ray, rays, keyed, pair_to, pairs}
use Rattle.derive_imports.proofs.Growth.{Grow, stay, then, grow_T, grow_force, grow_ray, grow_pair}

grow_ray_to : (v k n o : ℕ) (T : Tables) (s : Derived) → Grow s (ray_to v k n o T s)
unfolding ray_to
grow_ray_to zero k n o T s = then (grow_T o T types n s) (grow_ray k n (import_t o T types n s))
grow_ray_to (suc v) k n o T s = grow_force n (suc v) s

grow_place : (w k o : ℕ) (T : Tables) (s : Derived) → Grow s (ray w k o T s)
unfolding ray
grow_place zero k o T s = stay s
grow_place (suc n) k o T s = grow_ray_to (word (get_or s.special.rays k (0, 0))) k n o T s

pub grow_rays : (cs : Cells) (k o : ℕ) (T : Tables) (s : Derived) → Grow s (rays cs k o T s)
unfolding rays
grow_rays [] k o T s = stay s
grow_rays (c ∷ cs) k o T s = then (grow_place (word c) k o T s) (grow_rays cs (suc k) o T (ray (word c) k o T s))

grow_pair_to : (v key n o : ℕ) (T : Tables) (s : Derived) → Grow s (pair_to v key n o T s)
unfolding pair_to
grow_pair_to zero key n o T s = then (grow_T o T types n s) (grow_pair key n (import_t o T types n s))
grow_pair_to (suc v) key n o T s = grow_force n (suc v) s

pub grow_pairs : (rs : List Cells) (o : ℕ) (T : Tables) (s : Derived) → Grow s (pairs rs o T s)
unfolding pairs
grow_pairs [] o T s = stay s
grow_pairs (r ∷ rs) o T s = then (grow_pair_to (keyed s.special.pairs (field KEY r)) (field KEY r) (field TYPE r) o T s) (grow_pairs rs o T (pair_to (keyed s.special.pairs (field KEY r)) (field KEY r) (field TYPE r) o T s))
