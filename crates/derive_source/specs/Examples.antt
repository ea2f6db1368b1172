-- Setting two sources by example, computed. The first has a type for place 1 and a type for key 7. The second has one type, for place 0 and for key 7: for the place,
-- which was free, it is imported; then the key maps it to the type that the first source has for the key, whatever mapping it had.
use Rattle.std.specs.Prelude.{◌≡◌, refl, List, [], ◌∷◌, ℕ, length}
use Rattle.model.specs.Outcome.{Cells}
use Rattle.model.specs.Table.{TYPE, OPT_TYPE, KEY}
use Rattle.model.specs.Module.{Special, Module}
use Rattle.model.specs.Names.{field}
use Rattle.model.specs.ImportExamples.{leaf, module_of_lem}
use Rattle.model.specs.Tables.{code_t, is_t, at, upd, six, tables, rec_at, count, map_at}
use Rattle.model.specs.References.{targets, target, ref_of, refs, fold_refs, carry_w, through, undefined, add as addSpan, span_by, first_word, undefined_at, moved, shift, alike_c, alike, index_of, interned}
use Rattle.model.specs.Carry.{carry_cell}
use Rattle.model.specs.Imports.{Derived, unless_mapped, intern, mapped_to_t, made, commit, step_t, import_f, levels, import_t, unmapped, emptied, fresh}
use Rattle.model.specs.Special.{force, with_special, put_ray, ray_to, ray, rays, keyed, put_pair, pair_to, pairs, sourced}
use Rattle.derive_state.specs.Flats.{pairs_at, special_of}

abbrev with-special : List Cells → Special → Module
with-special ts p = let m = module_of_lem ts [] in record { names = m.names; types = m.types; constants = []; overrides = []; globals = []; exprs = []; functions = []; entries = []; special = p }

abbrev three : ℕ → ℕ → ℕ → Cells
three a b c = (OPT_TYPE, a) ∷ (OPT_TYPE, b) ∷ (OPT_TYPE, c) ∷ []

abbrev pair : ℕ → ℕ → Cells
pair key t = (KEY, key) ∷ (TYPE, t) ∷ []

abbrev one : Module
one = with-special (leaf 0 1 0 ∷ leaf 0 2 1 ∷ []) (record { rays = three 0 2 0; pairs = pair 7 0 ∷ [] })

abbrev other : Module
other = with-special (leaf 0 3 2 ∷ []) (record { rays = three 1 0 0; pairs = pair 7 0 ∷ [] })

abbrev after : Derived
after = sourced 0 other (sourced 0 one fresh)

pub example : (after.maps.of_types ≡ 2 ∷ []) × (length after.recs.of_types ≡ 3) × (after.special ≡ special_of (3 ∷ 1 ∷ 0 ∷ 7 ∷ 1 ∷ []) 1)
unfolding field code_t is_t at upd six tables rec_at count map_at targets target ref_of refs fold_refs carry_w through undefined addSpan span_by first_word undefined_at moved shift alike_c alike index_of interned carry_cell unless_mapped intern mapped_to_t made commit step_t import_f levels import_t unmapped emptied fresh force with_special put_ray ray_to ray rays keyed put_pair pair_to pairs sourced pairs_at special_of
example = (refl, refl, refl)
