-- The source that words and tags hold: how many records its tables have, where they are, and what they may refer to.
use mathlib.Core.Path.{◌≡◌, refl, ap, ◌∙◌}
use mathlib.Core.Bool.{true}
use mathlib.Core.List.{List, []}
use Prim.Native.Nat.{ℕ, zero, suc, ◌≤◌, ◌<◌}
use native.Mathlib.Omega.{arith}
use lib.ListN.{length, get_or}
use Rattle.model.specs.Outcome.{Cells}
use Rattle.model.specs.Table.{NAME}
use Rattle.model.specs.Module.{Module, read, count_at, flat_module}
use Rattle.model.specs.View.{record_at, record_end, tables as tablesL}
use Rattle.model.specs.Carry.{WellFormed, each_none, each_next}
use Rattle.model.specs.Taped.{Taped, Tape}
use Rattle.model.specs.Numbers.{numbered}
use Rattle.model.specs.Lower.{lower}
use Rattle.model.specs.Between.{between, Stretch}
use Rattle.model.specs.Tables.{Tab, names, types, constants, overrides, globals, exprs, at, tables, rec_at, count}
use Rattle.model.specs.References.{Place, Node, copied, target, targets, refs}
use Rattle.theory_records.specs.RecordLaws.{All, all_map}
use Rattle.theory_records.specs.Well.{home, WF, Lower, falls, May}
use Rattle.theory_records.specs.Kinds.{KindOf, is_copied, is_span, is_upto, is_name, is_type, is_constant, is_override, is_init, is_opt_init, is_expr, is_opt_expr, Kinds, no_kinds, kinds}
use Rattle.theory_records.specs.Tested.{tested_wf, kinds_at}
use Rattle.theory_image.specs.FunctionViews.{Part, taped_length}
use Rattle.theory_image.specs.Betweens.{part-between, table-count, record_part}
use Rattle.theory_image.specs.Modules.{write_read}
use Rattle.derive_state.specs.Refers.{tab_of, Small}
use Rattle.derive_state.specs.Source.{held_by, mod_of, src_of, Source}
use Rattle.derive_state.specs.Held.{Nameless}

-- ---- words and tags of a module that passed tests 3 and 4 are a source
pub mod_is : {words tags : List ℕ} {n : ℕ} {m : Module} → Taped words tags n m → mod_of words n ≡ m
unfolding mod_of held_by
mod_is {m} t = ap held_by (ap read t.words_are ∙ write_read m t.well)

pub source_of : {words tags : List ℕ} {n : ℕ} {m : Module} → Taped words tags n m → numbered m ≡ true → lower m ≡ true → Source words tags n
source_of t a b = record { taped = rw (mod_is t) t; three = rw (mod_is t) a; four = rw (mod_is t) b }

table_same : (m : Module) (t : ℕ) → t < 6 → get_or (tablesL m) t [] ≡ at (tab_of t) (tables m)
unfolding tablesL tables at tab_of
table_same m zero h = refl
table_same m (suc zero) h = refl
table_same m (suc (suc zero)) h = refl
table_same m (suc (suc (suc zero))) h = refl
table_same m (suc (suc (suc (suc zero)))) h = refl
table_same m (suc (suc (suc (suc (suc zero))))) h = refl
table_same m (suc (suc (suc (suc (suc (suc t)))))) h = absurd (omega arith)

-- ---- a name's record has no name
no_names : {A : Type 0} {p : Place} → May names p → A
no_names = elim [ ]

copied_name : {A : Type 0} → target NAME ≡ copied → A
unfolding target targets
copied_name e = let z : ◌≡◌ {A = ℕ} 0 1 = cc in absurd (omega arith)

kind-nameless : {s : ℕ} → KindOf names s → s ≡ NAME → ⊥
kind-nameless (is_copied c b) e = copied_name (rw e at c)
kind-nameless is_span e = omega arith
kind-nameless is_upto e = omega arith
kind-nameless (is_name m) e = no_names m
kind-nameless (is_type m) e = no_names m
kind-nameless (is_constant m) e = no_names m
kind-nameless (is_override m) e = no_names m
kind-nameless (is_init m) e = no_names m
kind-nameless (is_opt_init m) e = no_names m
kind-nameless (is_expr m) e = no_names m
kind-nameless (is_opt_expr m) e = no_names m

nameless : {cs : Cells} → Kinds names cs → Nameless cs
nameless no_kinds = each_none
nameless (kinds k ks) = each_next (kind-nameless k) (nameless ks)

-- ---- the tables
few_at : (m : Module) → WellFormed m → (u : Tab) → count (tables m) u ≤ 512
unfolding count at tables
few_at m w names = w.names_ok.few
few_at m w types = w.types-ok.few
few_at m w constants = w.constants_ok.few
few_at m w overrides = w.overrides_ok.few
few_at m w globals = w.globals_ok.few
few_at m w exprs = w.exprs_ok.few

module _ (words tags : List ℕ) (n : ℕ) (src : Source words tags n) where
  pub tape : Tape words tags n
  tape = record { holds = mod_of words n; taped = src.taped }

  pub wf : WF (src_of words n)
  unfolding src_of
  wf = tested_wf (mod_of words n) src.taped.well src.three src.four

  pub count_is : (t : ℕ) → t < 6 → count_at t words ≡ count (src_of words n) (tab_of t)
  unfolding src_of count
  count_is t h = table-count src.taped t (omega arith) ∙ ap length (table_same (mod_of words n) t h)

  pub few : (u : Tab) → count (src_of words n) u ≤ 512
  unfolding src_of
  few u = few_at (mod_of words n) src.taped.well u

  pub count_few : (t : ℕ) → t < 6 → count_at t words ≤ 512
  count_few t h = let a = count_is t h in let b = few (tab_of t) in omega arith

  pub small_of : (t : Tab) (k : ℕ) (j : Node) → Lower (src_of words n) t k j → Small j
  unfolding Lower
  small_of t k j l = let a = l.0 in let b = few (home j.place) in omega arith

  -- record k of table t
  module _ (t k : ℕ) (ht : t < 6) (hk : k < count_at t words) where
    part : Part (flat_module (mod_of words n)) (record_at t k words) (record_end t k words) (get_or (get_or (tablesL (mod_of words n)) t []) k [])
    part = record_part src.taped t k (omega arith) hk

    pub inside : k < count (src_of words n) (tab_of t)
    inside = let a = count_is t ht in omega arith

    pub small_number : k < 512
    small_number = let a = count_few t ht in omega arith

    module _ (begin end : ℕ) (hb : begin ≡ record_at t k words) (he : end ≡ record_end t k words) where
      pub record_is : between tags words begin end ≡ rec_at (src_of words n) (tab_of t) k
      unfolding src_of rec_at
      record_is = rw (hb, he) (part-between src.taped part ∙ ap (λ (l : List Cells). get_or l k []) (table_same (mod_of words n) t ht))

      pub stretch : Stretch words tags begin end
      stretch =
          let l : record_end t k words ≤ n = omega (arith, part.within, taped_length src.taped) in
          let s = src.taped.small in
          rw (hb, he) (record { rising = part.rising; small = omega arith; in_words = omega (arith, src.taped.words_long); in_tags = omega (arith, src.taped.tags_long) })

      pub record_lower : All (Lower (src_of words n) (tab_of t) k) (refs (between tags words begin end))
      record_lower = rw record_is (falls (src_of words n) wf (tab_of t) k inside)

      pub refs_small : All Small (refs (between tags words begin end))
      refs_small = all_map (refs (between tags words begin end)) (λ j l. small_of (tab_of t) k j l) record_lower

      pub plain_name : t ≡ 0 → Nameless (between tags words begin end)
      unfolding src_of tab_of
      plain_name e = rw (record_is, e) (nameless (kinds_at (mod_of words n) src.taped.well src.three src.four names k))
