-- WRONG TEXTS OF THE PROGRAM order, on document 01's marked case P6: each contradicts what `order_text::tell_of` promises. The right text is computed in Answers.antt.
use Rattle.std.specs.Prelude.{◌≡◌, List, [], ◌∷◌, ◌++◌, ℕ, length, get_or, drop}
use Rattle.std.proofs.Common.{ap, ◌∙◌, arith}
use Rattle.std.proofs.lemmas.List.Edits.{sets}
use Rattle.base_words.proofs.Laws.{sets-front}
use Rattle.order_text.specs.Telling.{telling_of, TellEnsures}
use Rattle.wuldgisp_refuted.specs.Answers.{p6, p6-told}

-- P6's lines counted from 1, in a buffer as long as they are
abbrev from_one : List ℕ
from_one = 102 ∷ 117 ∷ 110 ∷ 99 ∷ 116 ∷ 105 ∷ 111 ∷ 110 ∷ 115 ∷ 32 ∷ 51 ∷ 10 ∷ 49 ∷ 32 ∷ 49 ∷ 32 ∷ 116 ∷ 111 ∷ 110 ∷ 101 ∷ 10 ∷ 50 ∷ 32 ∷ 50 ∷ 32 ∷ 102 ∷ 111 ∷ 103 ∷ 10 ∷ 51 ∷ 32 ∷ 48 ∷ 32 ∷ 115 ∷ 104 ∷ 97 ∷ 100 ∷ 101 ∷ 10 ∷ []

pub not_from_one : (out : List ℕ) (count refusal left : ℕ) → length out ≡ 39 → TellEnsures (telling_of p6) out from_one count refusal left → ⊥
not_from_one out count refusal left h a =
    let e : from_one ≡ sets out 0 (telling_of p6).text = a.puts.is in
    let f : sets out 0 (telling_of p6).text ≡ (telling_of p6).text ++ drop (length (telling_of p6).text) out = sets-front (telling_of p6).text out (omega (arith, ap length p6-told)) in
    let g : ◌≡◌ {A = ℕ} 49 48 = ap (λ l. get_or l 12 0) (e ∙ f ∙ ap (λ t. t ++ drop (length (telling_of p6).text) out) p6-told) in
    absurd (omega arith)

-- the text without its last line
pub not_cut : (out out' : List ℕ) (refusal left : ℕ) → TellEnsures (telling_of p6) out out' 29 refusal left → ⊥
not_cut out out' refusal left a = absurd (omega (arith, a.puts.ends, ap length p6-told))
