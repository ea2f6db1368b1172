-- The named expressions of a function of the source: two words each, an expression's number and an optional name.
use Rattle.std.specs.Prelude.{◌≡◌, List, [], ◌∷◌, map, ℕ, suc, ◌+◌, ◌*◌, ◌≤◌, ◌<◌, ltb, length, get_or}
use Rattle.std.proofs.Common.{sym, ap, ◌∙◌, arith}
use borrow.Author.Tests.{ltb-true}
use Rattle.theory_lists.specs.Booleans.{and_split}
use Rattle.model.specs.Outcome.{class}
use Rattle.model.specs.Table.{NAME, NAMED, NAMED-EXPR}
use Rattle.model.specs.Tree.{Function}
use Rattle.model.specs.Module.{count_at, flat_module}
use Rattle.model.specs.View.{tables}
use Rattle.model.specs.Numbers.{caps, bound, below, within, outside, inside}
use Rattle.theory_image.specs.Betweens.{held-between, between_next, between_none, table-count}
use Rattle.theory_image.specs.FunctionViews.{Part as Run, named-class, named-row, named-classes}
use Rattle.theory_bodies.specs.Passing.{row_in}
use Rattle.derive_state.specs.Source.{mod_of}
use Rattle.function_parts.specs.Part.{Part, Indexed, stretch, k_many, named_here, named_many}
use Rattle.function_parts.specs.Fitting.{withins}

-- record i, at its place
pub record NamedAt (words tags : List ℕ) (k named : ℕ) (F : Function) (i : ℕ) : Type 0 where
  pub is : get_or F.named i [] ≡ (NAMED-EXPR, get_or words (named + 1 + 2 * i) 0) ∷ (NAME, get_or words (named + 2 + 2 * i) 0) ∷ []
  pub expr_class : get_or tags (named + 1 + 2 * i) 0 ≡ NAMED-EXPR
  pub name_class : get_or tags (named + 2 + 2 * i) 0 ≡ NAME
  pub expr_in : get_or words (named + 1 + 2 * i) 0 < k
  pub name_in_lem : get_or words (named + 2 + 2 * i) 0 ≤ count_at 0 words

module _ {words tags : List ℕ} {n s end : ℕ} {F : Function} (p : Part words tags n s end F) {ea : ℕ} {places : List ℕ} {k named body : ℕ} (x : Indexed words tags s end ea places k named body) where
  -- their count
  pub named_count_class : get_or tags named 0 ≡ NAMED
  named_count_class = ap (λ i. get_or tags i 0) (named_here p x) ∙ named-class p.stands

  module _ (i : ℕ) (h : i < get_or words named 0) where
    inside_list : i < length F.named
    inside_list = omega (arith, named_many p x)

    abbrev at : ℕ
    at = named + 1 + 2 * i

    run : Run (flat_module (mod_of words n)) at (suc (suc at)) (get_or F.named i [])
    run =
        let q : named + 3 + 2 * i ≡ suc (suc at) = omega arith in
        let v = named-row p.stands i inside_list in
        rw q at (rw (sym (named_here p x)) at v)

    two : get_or F.named i [] ≡ (get_or tags at 0, get_or words at 0) ∷ (get_or tags (suc at) 0, get_or words (suc at) 0) ∷ []
    two =
        let t = stretch p run in
        sym (held-between p.stands.held run)
        ∙ between_next tags words at (suc (suc at)) (omega arith) t.in_tags t.in_words
        ∙ ap ((get_or tags at 0, get_or words at 0) ∷◌) (between_next tags words (suc at) (suc (suc at)) (omega arith) t.in_tags t.in_words ∙ ap ((get_or tags (suc at) 0, get_or words (suc at) 0) ∷◌) (between_none tags words (suc (suc at)) (suc (suc at)) (omega arith)))

    logtags : get_or tags at 0 ∷ get_or tags (suc at) 0 ∷ [] ≡ NAMED-EXPR ∷ NAME ∷ []
    logtags = ap (map class) (sym two) ∙ named-classes p.stands i inside_list

    first : get_or tags at 0 ≡ NAMED-EXPR
    first = cc logtags

    second : get_or tags (suc at) 0 ≡ NAME
    second = cc logtags

    both : (get_or words at 0 < k) × (get_or words (suc at) 0 ≤ count_at 0 words)
    unfolding within bound caps below inside outside tables
    both =
        let b = inside (outside (mod_of words n)) F in
        let w = rw (two, first, second) at (row_in (mod_of words n) F F.named (withins p).in_named i) in
        let e = and_split (ltb (get_or words at 0) (length F.exprs)) _ w in
        let m = and_split (ltb (get_or words (suc at) 0) (suc (length (mod_of words n).names))) _ e.1 in
        let u = ltb-true (get_or words at 0) (length F.exprs) e.0 in
        let v = ltb-true (get_or words (suc at) 0) (suc (length (mod_of words n).names)) m.0 in
        (omega (arith, k_many p x), omega (arith, table-count p.source.taped 0 (omega arith)))

    -- LAW
    pub named-at : NamedAt words tags k named F i
    named-at =
        let q : named + 2 + 2 * i ≡ suc at = omega arith in
        record { is = rw q (rw (← first, ← second) two); expr_class = first; name_class = rw q second; expr_in = both.0; name_in_lem = rw q both.1 }
