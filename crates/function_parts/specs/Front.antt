-- Which classes are in a function's declarations: names, spans, types, bindings, initialisers, and the counts of the lists. So a pass over them meets no Emit, no statement's kind and no function.
use Rattle.std.specs.Prelude.{◌≡◌, ◌⊎◌, Bool, true, false, ◌&&◌, List, [], ◌∷◌, map, ℕ, ◌+◌, ◌≤◌, ◌<◌, eqb, get_or}
use Rattle.std.proofs.Math.Path.{refl}
use Rattle.std.proofs.Common.{inl, inr, arith}
use Rattle.std.proofs.Math.Option.{some}
use Rattle.std.proofs.Math.ListN.{get_elem?}
use Rattle.theory_lists.specs.Booleans.{and_split}
use Rattle.model.specs.Outcome.{Cell, Cells, class}
use Rattle.model.specs.Table.{Row, WORD, SPAN, UPTO, NAME, TYPE, LOCAL-INIT, FROM, TO, ARGUMENTS, LOCALS, RETURNS, STMT_KIND, function_head, entry_head, counted}
use Rattle.model.specs.Tree.{Function, Entry, flat_all, flat_list}
use Rattle.model.specs.View.{record_at}
use Rattle.model.specs.FunctionView.{entry_head_words}
use Rattle.model.specs.Carry.{Lays, Each, each_none, each_next, WellFunction}
use Rattle.model.specs.Tables.{code_t}
use Rattle.model.specs.References.{target, targets}
use Rattle.theory_image.specs.Plain.{plain?, plain-classes}
use Rattle.theory_image.specs.Quiet.{each_append}
use Rattle.theory_image.specs.FunctionViews.{among, Result, no_result, some_result, result_shape, taped_held, taped_entry_head}
use Rattle.theory_image.specs.Members.{looked_each}
use Rattle.theory_bodies.specs.Lists.{All}
use Rattle.theory_bodies.specs.Classes.{among_elim}
use Rattle.theory_passes.specs.Pass.{front}
use Rattle.theory_passes.specs.Passage.{still?, calm?, calm_of}
use Rattle.derive_state.specs.Refers.{code_p, target_of}
use Rattle.derive_state.specs.Source.{mod_of, Source}
use Rattle.function_parts.specs.Part.{Part, Indexed, front-run}
use Rattle.function_parts.specs.Places.{each_place}

-- the classes of declarations
abbrev pub DECLARED : List ℕ
DECLARED = WORD ∷ SPAN ∷ UPTO ∷ NAME ∷ TYPE ∷ LOCAL-INIT ∷ ARGUMENTS ∷ LOCALS ∷ RETURNS ∷ []

pub record Declared (c : Cell) : Type 0 where
  pub listed : among (class c) DECLARED ≡ true

-- ---- rows of them
unfoldable rows? : Row → Bool
rows? [] = true
rows? (s ∷ ss) = among s DECLARED && rows? ss

classes-declared : (cs : Cells) → rows? (map class cs) ≡ true → Each Declared cs
unfolding rows?
classes-declared [] h = each_none
classes-declared (c ∷ cs) h = let a = and_split (among (class c) DECLARED) (rows? (map class cs)) h in each_next (record { listed = a.0 }) (classes-declared cs a.1)

lays_declared : {ss : Row} {cs : Cells} → Lays ss cs → plain? ss ≡ true → rows? ss ≡ true → Each Declared cs
lays_declared {ss} {cs} l q h = classes-declared cs (rw (plain-classes l q) h)

all-declared : {ss : Row} {rs : List Cells} → Each (Lays ss) rs → plain? ss ≡ true → rows? ss ≡ true → Each Declared (flat_all rs)
unfolding flat_all
all-declared each_none q h = each_none
all-declared (each_next l ls) q h = each_append (lays_declared l q h) (all-declared ls q h)

list_declared : (s : ℕ) {ss : Row} {rs : List Cells} → among s DECLARED ≡ true → Each (Lays ss) rs → plain? ss ≡ true → rows? ss ≡ true → Each Declared (flat_list s rs)
unfolding flat_list
list_declared s d ls q h = each_next (record { listed = d }) (all-declared ls q h)

result_declared : {r : Cells} → Result r → Each Declared r
unfolding rows?
result_declared no_result = each_next (record { listed = refl }) each_none
result_declared (some_result {cs = cs} e) = each_next (record { listed = refl }) (each_next (record { listed = refl }) (classes-declared cs (rw e refl)))

pub front-declared : {F : Function} → WellFunction F → Each Declared (front F)
unfolding front rows? plain? function_head counted
front-declared w =
    each_append
    (each_append (each_append (lays_declared w.head_ok refl refl) (list_declared ARGUMENTS refl w.arguments_ok.each refl refl)) (result_declared (result_shape w.result_ok_lem)))
    (list_declared LOCALS refl w.locals_ok.each refl refl)

-- ---- what such a class is
pub record Declaring (s : ℕ) : Type 0 where
  pub no_from : eqb s FROM ≡ false
  pub no_to : eqb s TO ≡ false
  pub no_kind : eqb s STMT_KIND ≡ false
  pub no_function_lem : target_of (target s) ≡ 7 → ⊥
  pub calm : (calm? s ≡ true) ⊎ ((s ≡ SPAN) ⊎ (s ≡ UPTO))

calmly : (s : ℕ) → calm? s ≡ true → (target_of (target s) ≡ 7 → ⊥) → Declaring s
unfolding calm?
calmly s h f =
    let a = calm_of s h in
    record { no_from = a.no_from; no_to = a.no_to; no_kind = a.no_kind; no_function_lem = f; calm = inl h }

declarings : All Declaring DECLARED
unfolding calm? still? target targets target_of code_p code_t
declarings = (
  calmly WORD refl (λ e. omega arith),
  (
    record { no_from = refl; no_to = refl; no_kind = refl; no_function_lem = λ e. omega arith; calm = inr (inl refl) },
    (
      record { no_from = refl; no_to = refl; no_kind = refl; no_function_lem = λ e. omega arith; calm = inr (inr refl) },
      (
        calmly NAME refl (λ e. omega arith),
        (
          calmly TYPE refl (λ e. omega arith),
          (
            calmly LOCAL-INIT refl (λ e. omega arith),
            (
              calmly ARGUMENTS refl (λ e. omega arith),
              (
                calmly LOCALS refl (λ e. omega arith),
                (calmly RETURNS refl (λ e. omega arith), tt),
              ),
            ),
          ),
        ),
      ),
    ),
  ),
)

pub declaring : (s : ℕ) → among s DECLARED ≡ true → Declaring s
declaring = among_elim Declaring DECLARED declarings

-- ---- LAWS, by places
module _ {words tags : List ℕ} {n s end : ℕ} {F : Function} (p : Part words tags n s end F) {ea : ℕ} {places : List ℕ} {k named body : ℕ} (x : Indexed words tags s end ea places k named body) (i : ℕ) (low : s ≤ i) (high : i < ea) where
  pub front-among : among (get_or tags i 0) DECLARED ≡ true
  front-among = (each_place p.stands.held (front-run p) i low (omega (arith, x.ea_is)) (front-declared p.pass.well)).listed

  pub front_declaring : Declaring (get_or tags i 0)
  front_declaring = declaring (get_or tags i 0) front-among

-- the head of an entry point
module _ {words tags : List ℕ} {n : ℕ} (src : Source words tags n) (j : ℕ) (E : Entry) (e : get_elem? (mod_of words n).entries j ≡ some E) (i : ℕ) (low : record_at 7 j words ≤ i) (high : i < record_at 7 j words + entry_head_words) where
  pub head_declaring : Declaring (get_or tags i 0)
  unfolding rows? plain? entry_head
  head_declaring = declaring (get_or tags i 0) (each_place (taped_held src.taped) (taped_entry_head src.taped j E e) i low high (lays_declared (looked_each src.taped.well.entries_ok.each j e).head_ok refl refl)).listed
