-- Rows of plain symbols, each of which is one word with no fields after it: the classes of their cells are the row, so they are as long as it.
use Rattle.std.specs.Prelude.{◌≡◌, refl, Bool, true, ◌&&◌, List, [], ◌∷◌, ◌++◌, map, ℕ, zero, suc, ◌+◌, ◌*◌, ◌≤◌, ltb, length}
use Rattle.std.proofs.Common.{sym, ap, ◌∙◌, zero-mul, suc-mul, arith}
use Rattle.std.proofs.lemmas.List.{length-map}
use Rattle.theory_lists.specs.Booleans.{and_split}
use Rattle.model.specs.Outcome.{Cells, class}
use Rattle.model.specs.Table.{Row, PAD, brings, more}
use Rattle.model.specs.Carry.{Lays, lays_none, lays_next, Each, each_none, each_next}
use Rattle.theory_image.specs.Sections.{start_of}

unfoldable pub plain? : Row → Bool
plain? [] = true
plain? (s ∷ ss) = ltb s PAD && plain? ss

-- a plain word has no fields after it
pub plain_more : (s w : ℕ) → ltb s PAD ≡ true → more s w ≡ brings []
unfolding more
plain_more s w e = rw (more, e)

pub plain-classes : {ss : Row} {cs : Cells} → Lays ss cs → plain? ss ≡ true → map class cs ≡ ss
unfolding plain?
plain-classes lays_none h = refl
plain-classes (lays_next {s} {w} {xs} {ss} e l) h =
    let a = and_split (ltb s PAD) (plain? ss) h in
    let m = plain_more s w a.0 in
    let n : xs ≡ [] = cc in
    ap (s ∷◌) (plain-classes l (rw n a.1) ∙ ap (◌++ ss) n)

pub plain-length : {ss : Row} {cs : Cells} → Lays ss cs → plain? ss ≡ true → length cs ≡ length ss
plain-length {cs} l h = sym (length-map cs class) ∙ ap length (plain-classes l h)

-- records of one plain row start at even distances
pub plain_start : {ss : Row} {rs : List Cells} → Each (Lays ss) rs → plain? ss ≡ true → (at n j : ℕ) → length ss ≡ n → j ≤ length rs → start_of at rs j ≡ at + j * n
unfolding start_of
plain_start each_none p at n zero e h = omega (arith, zero-mul n)
plain_start each_none p at n (suc j) e h = absurd (omega arith)
plain_start (each_next l ls) p at n zero e h = omega (arith, zero-mul n)
plain_start (each_next {a = r} l ls) p at n (suc j) e h = omega (arith, plain_start ls p (at + length r) n j e (omega arith), plain-length l p, suc-mul j n)
