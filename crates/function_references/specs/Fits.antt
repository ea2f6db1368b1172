-- What a word of a function may refer to, a source that passed intake, a stretch of a function's words; and what a record of a table imports.
use Rattle.std.specs.Prelude.{◌≡◌, true, false, List, [], ◌∷◌, ℕ, ◌<◌, ltb, length}
use Rattle.std.specs.Coded.{×_prop, Unit-prop, le_prop}
use Rattle.std.proofs.Props.{props}
use Rattle.model.specs.Module.{count_at}
use Rattle.model.specs.Names.{named}
use Rattle.model.specs.Between.{between, Stretch}
use Rattle.model.specs.Tables.{code_t, Tables}
use Rattle.model.specs.References.{Place, table, own, function, Node, refs}
use Rattle.model.specs.Imports.{Derived, import_t}
use Rattle.theory_records.specs.RecordLaws.{All}
use Rattle.derive_state.specs.Refers.{tab_of}
use Rattle.derive_state.specs.Source.{mod_of, Source}

-- a number that may be met in a function of k expressions: it is in its table, which has at most 512 records
unfoldable pub Fits : List ℕ → ℕ → Place → ℕ → Type 0
Fits words k (table t) j = (j < count_at (code_t t) words) × (j < 512)
Fits words k own j = j < k
Fits words k function j = j < count_at 6 words

-- the same of what a word refers to
abbrev pub FitN : List ℕ → ℕ → Node → Type 0
FitN words k j = Fits words k j.place j.num

-- that such numbers fit has one proof at most
Fits-prop : (words : List ℕ) (k : ℕ) (p : Place) (j : ℕ) → IsProp (Fits words k p j)
unfolding Fits
Fits-prop words k (table t) j = ×_prop le_prop le_prop
Fits-prop words k own j = le_prop
Fits-prop words k function j = le_prop

-- and so that all of them do
pub all_prop : (words : List ℕ) (k : ℕ) (js : List Node) → IsProp (All (FitN words k) js)
all_prop words k [] = Unit-prop
all_prop words k (j ∷ js) = ×_prop (Fits-prop words k j.place j.num) (all_prop words k js)

-- a source that passed intake: what the type `NamedSource` says (`ground` of function_references/proofs/Sources.antt)
pub record Ground (words tags : List ℕ) (n : ℕ) : Type 0 where
  pub source : Source words tags n
  pub names : named (mod_of words n) ≡ true

-- a stretch of a function of k expressions; a ghost field of a `Piece`, and a clause where code goes along a function, since there the stretch that is left begins one word further on at each turn
pub record Legible (words tags : List ℕ) (k at end : ℕ) : Type 0 where
  pub stretch : Stretch words tags at end
  pub words_long : length words ≡ 16384
  pub tags_long : length tags ≡ 16384
  pub fits : All (FitN words k) (refs (between tags words at end))

-- a stretch is such a one by one proof at most
pub Legible-prop : (words tags : List ℕ) (k at end : ℕ) → IsProp (Legible words tags k at end)
Legible-prop words tags k at end = hlevel (props, le_prop, all_prop)

-- record h of table t with all that it refers to; nothing where there is no such table
unfoldable pub record_of : ℕ → Tables → ℕ → ℕ → Derived → Derived
record_of o T t h s = elim (ltb t 6) [ true ↦ import_t o T (tab_of t) h s | false ↦ s ]
