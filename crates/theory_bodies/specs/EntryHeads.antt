-- The head of an entry point is a name and six words; carried to what is derived, only the name changes, and test 3 passes if the name is in range and the
-- function passes. Assumes nothing.
use Rattle.std.specs.Prelude.{◌≡◌, refl, true, ◌&&◌, [], ◌∷◌, ◌++◌, ℕ, zero, suc, ◌≤◌}
use Rattle.std.proofs.Common.{arith}
use borrow.Author.Tests.{lt-ltb}
use Rattle.theory_lists.specs.Booleans.{and-true, and_split}
use Rattle.model.specs.Outcome.{Cells}
use Rattle.model.specs.Table.{WORD, NAME, entry_head, binding}
use Rattle.model.specs.Tree.{Function, Entry, flat}
use Rattle.model.specs.Carry.{WellEntry}
use Rattle.model.specs.Numbers.{Bounds, caps, bound, below as under, within, rising, ordered as rises, inside, sound, sound_function}
use Rattle.model.specs.Initial.{initialised}
use Rattle.model.specs.Tables.{names, map_at}
use Rattle.model.specs.Bodies.{Builder}
use Rattle.theory_image.specs.Plain.{plain?}
use Rattle.theory_image.specs.Quiet.{Plainly, plain-none, plain-next, plainly}

-- the head: a name and six words
pub data Head : Cells → Type 0 where
  headed : {v a b c d e f : ℕ} → Head ((NAME, v) ∷ (WORD, a) ∷ (WORD, b) ∷ (WORD, c) ∷ (WORD, d) ∷ (WORD, e) ∷ (WORD, f) ∷ [])

pub head_of : {r : Cells} → Plainly (NAME ∷ binding []) r → Head r
head_of (plain-next (plain-next (plain-next (plain-next (plain-next (plain-next (plain-next plain-none))))))) = headed

pub entry_head_lem : {E : Entry} → WellEntry E → Head E.head
entry_head_lem w = unfold entry_head plain? in head_of (plainly w.head_ok refl)

-- what a name is mapped to
unfoldable pub name_to : Builder → ℕ → ℕ
name_to x zero = zero
name_to x (suc n) = map_at x.out.maps names n

pub rising_word : (f : ℕ) (ds : Cells) → rises ds ≡ true → (rising (WORD, f) ds && rises ds) ≡ true
unfolding rising
rising_word f [] o = o
rising_word f (g ∷ ds) o = o

pub sound_of : (b : Bounds) (f : Function) (v : ℕ) (cs : Cells) → v ≤ b.names → within (inside b f) (cs ++ flat f) ≡ true → rises ((NAME, v) ∷ (cs ++ flat f)) ≡ true → initialised f ≡ true → sound b f (((NAME, v) ∷ cs) ++ flat f) ≡ true
unfolding sound within
sound_of b f v cs l h r i = and-true (and-true name h) (and-true r i)
  where
    name : under (bound (inside b f) NAME) v ≡ true
    name = unfold bound caps under inside in lt-ltb v (suc b.names) (omega arith)

pub sound-parts : (b : Bounds) (f : Function) → sound_function b f ≡ true → (within (inside b f) (flat f) ≡ true) × (rises (flat f) ≡ true) × (initialised f ≡ true)
unfolding sound
sound-parts b f h = let a = and_split (within (inside b f) (flat f)) _ h in let c = and_split (rises (flat f)) (initialised f) a.1 in (a.0, c.0, c.1)
