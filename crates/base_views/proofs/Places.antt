-- Sections, records and the lists of functions are inside the words: what indexing them needs, and what is read there.
use mathlib.Core.Path.{◌≡◌, refl, sym, ap, ap₂, ◌∙◌}
use mathlib.Core.Bool.{Bool, true, false}
use mathlib.Core.List.{List, []}
use Prim.Native.Nat.{ℕ, suc, ◌+◌, ◌*◌, ◌-◌, ◌≤◌, ◌<◌}
use native.Mathlib.Numerals.{add-one}
use native.Mathlib.Omega.{arith}
use lib.Dec.{ltb}
use lib.ListN.{length, get_or}
use borrow.Author.Tests.{eq-eqb, ne_eqb, eqb-false, ltb-true, ltb-false}
use Rattle.theory_lists.specs.Lists.{looked_at}
use Rattle.model.specs.Outcome.{Cell, Cells, class}
use Rattle.model.specs.Table.{NAMED, EXPR_KIND}
use Rattle.model.specs.Tree.{Function, flat_all}
use Rattle.model.specs.Module.{count_at, offset_at, end_at, flat_module}
use Rattle.model.specs.View.{record_at, record_end}
use Rattle.model.specs.FunctionView.{entry_head_words, returns_at, locals_at, expressions_at}
use Rattle.model.specs.Taped.{Tape}
use Rattle.model.specs.Carry.{Each, each_none, each_next}
use Rattle.model.specs.Redirect.{nothing}
use Rattle.theory_image.specs.Quiet.{each_append, each_map}
use Rattle.theory_image.specs.Betweens.{record_offset}
use Rattle.theory_image.specs.FunctionViews.{part_tag, Stands, named_at, body_at, field_not, Expression, expression, exprs_all, exprs_shapes, named_count, named-class, stands-end, taped_length, taped_functions, taped_entries, taped_function, taped_entry}
use Rattle.theory_image.specs.Members.{each_at}
use Rattle.base_views.specs.Functions.{Standing, Named, Body}

-- ---- records
-- where a record starts
pub start_is : (ws : List ℕ) (k j at x : ℕ) → at ≡ offset_at k ws → x ≡ get_or ws (at + j) 0 → at + x ≡ record_at k j ws
unfolding record_at
start_is ws k j at x e f = ap₂ ◌+◌ e (f ∙ ap (λ o. get_or ws (o + j) 0) e)

-- where the last one ends, and one that another follows
pub end-last : (ws : List ℕ) (k j x : ℕ) → k < 8 → j + 1 ≡ count_at k ws → x ≡ offset_at (k + 1) ws → x ≡ record_end k j ws
unfolding record_end end_at
end-last ws k j x h e f =
    let u : suc j ≡ count_at k ws = omega arith in
    rw (record_end, eq-eqb (suc j) (count_at k ws) u, end_at, ne_eqb k 8 (λ q. omega arith)) (f ∙ ap (λ i. offset_at i ws) (add-one k))

pub end-next : (ws : List ℕ) (k j x : ℕ) → (j + 1 ≡ count_at k ws → ⊥) → x ≡ record_at k (j + 1) ws → x ≡ record_end k j ws
unfolding record_end
end-next ws k j x e f = rw (record_end, ne_eqb (suc j) (count_at k ws) (λ q. e (omega arith))) (f ∙ ap (λ i. record_at k i ws) (add-one j))

module _ {words tags : List ℕ} {n : ℕ} (tape : Tape words tags n) {k : ℕ} (h : k < 8) {j : ℕ} (i : j < count_at k words) where
  -- the offsets of a table are words
  pub offset_inside : offset_at k words + j < 16384
  offset_inside = omega (arith, record_offset tape.taped k j h i, tape.taped.small)

  pub offsets-inside : offset_at k words + count_at k words ≤ 16384
  offsets-inside =
      let p : count_at k words - 1 < count_at k words = omega arith in
      omega (arith, record_offset tape.taped k (count_at k words - 1) h p, tape.taped.small)

-- ---- functions: the tables' and the entry points'
few : {words tags : List ℕ} {n : ℕ} (tape : Tape words tags n) → length (flat_module tape.holds) ≤ 16384
few tape = omega (arith, taped_length tape.taped, tape.taped.small)

module _ {words tags : List ℕ} {n : ℕ} (tape : Tape words tags n) {j : ℕ} where
  pub standing-function : j < count_at 6 words → Standing words tags (record_at 6 j words)
  standing-function i =
      let h : j < length tape.holds.functions = omega (arith, taped_functions tape.taped) in
      record { end = _; function = _; cells = _; small = few tape; own = taped_function tape.taped j _ (looked_at tape.holds.functions j nothing h) }

  pub standing-entry : j < count_at 7 words → Standing words tags (record_at 7 j words + entry_head_words)
  standing-entry i =
      let h : j < length tape.holds.entries = omega (arith, taped_entries tape.taped) in
      record { end = _; function = _; cells = _; small = few tape; own = taped_entry tape.taped j _ (looked_at tape.holds.entries j (record { head = []; function = nothing }) h) }

-- ---- their lists
pub standing-inside : {words tags : List ℕ} {s : ℕ} → Standing words tags s → expressions_at s words < 16384
standing-inside st = omega (arith, stands-end st.own, st.own.part.within, st.small)

module _ (ws : List ℕ) (s : ℕ) (h : expressions_at s ws < 16384) where
  pub arguments_inside : s + 3 < 16384
  unfolding expressions_at locals_at returns_at
  arguments_inside = omega arith

  pub returns-inside : returns_at s ws < 16384
  unfolding expressions_at locals_at
  returns-inside = omega arith

  pub locals_inside : locals_at s ws < 16384
  unfolding expressions_at
  locals_inside = omega arith

  pub returns_is : (a : ℕ) → a ≡ get_or ws (s + 3) 0 → s + 4 + 8 * a ≡ returns_at s ws
  unfolding returns_at
  returns_is a e = rw e

  pub locals_is : (at r : ℕ) → at ≡ returns_at s ws → r ≡ get_or ws at 0 → at + 1 + 7 * r ≡ locals_at s ws
  unfolding locals_at
  locals_is at r e f = rw (f, e)

  pub expressions_is : (at l : ℕ) → at ≡ locals_at s ws → l ≡ get_or ws at 0 → at + 1 + 5 * l ≡ expressions_at s ws
  unfolding expressions_at
  expressions_is at l e f = rw (f, e)

-- ---- the named expressions: no word of an expression has the class of their count
abbrev Other : Cell → Type 0
Other c = class c ≡ NAMED → ⊥

kind-other : (k : ℕ) → Other (EXPR_KIND, k)
kind-other k x = let y : ◌≡◌ {A = ℕ} EXPR_KIND NAMED = x in omega arith

expression_other : {r : Cells} → Expression r → Each Other r
expression_other (expression {k} h e l q) = each_next (kind-other k) (each_map (λ c p. eqb-false (class c) NAMED (field_not (class c) NAMED p refl)) q)

expressions-other : {rs : List Cells} → Each Expression rs → Each Other (flat_all rs)
unfolding flat_all
expressions-other each_none = each_none
expressions-other (each_next p ps) = each_append (expression_other p) (expressions-other ps)

-- the search has passed expressions only
pub record Seeking (words tags : List ℕ) (s i : ℕ) : Type 0 where
  pub from : expressions_at s words + 1 ≤ i
  pub upto : {cells : Cells} {end : ℕ} {f : Function} → Stands words tags cells s end f → i ≤ named_at s words f

module _ {words tags : List ℕ} {s : ℕ} where
  pub seek_begin : (i : ℕ) → i ≡ expressions_at s words → Seeking words tags s (i + 1)
  seek_begin i e = record { from = omega arith; upto = λ st. omega arith }

  module _ {i : ℕ} (inv : Seeking words tags s i) where
    pub seek_inside : Standing words tags s → i < 16384
    seek_inside st = omega (arith, inv.upto st.own, stands-end st.own, st.own.part.within, st.small)

    pub seek_next : (get_or tags i 0 ≡ NAMED → ⊥) → Seeking words tags s (i + 1)
    seek_next h = record { from = omega (arith, inv.from); upto = more }
      where
        more : {cells : Cells} {end : ℕ} {f : Function} → Stands words tags cells s end f → i + 1 ≤ named_at s words f
        more {f} st = go (ltb i (named_at s words f)) refl
          where
            go : (b : Bool) → ltb i (named_at s words f) ≡ b → i + 1 ≤ named_at s words f
            go true q = omega (arith, ltb-true i (named_at s words f) q)
            go false q =
                let z : i ≡ named_at s words f = omega (arith, ltb-false i (named_at s words f) q, inv.upto st) in
                absurd (h (ap (λ p. get_or tags p 0) z ∙ named-class st))

    pub seek_done : Standing words tags s → get_or tags i 0 ≡ NAMED → Named i words tags s
    seek_done here h = record { inside = seek_inside here; same = this }
      where
        this : {cells : Cells} {end : ℕ} {f : Function} → Stands words tags cells s end f → i ≡ named_at s words f
        this {f} st = go (ltb i (named_at s words f)) refl
          where
            go : (b : Bool) → ltb i (named_at s words f) ≡ b → i ≡ named_at s words f
            go true q =
                let d : i - (expressions_at s words + 1) < length (flat_all f.exprs) = omega (arith, inv.from, ltb-true i (named_at s words f) q) in
                let z : expressions_at s words + 1 + (i - (expressions_at s words + 1)) ≡ i = omega (arith, inv.from) in
                absurd
                (each_at (expressions-other (exprs_shapes st)) (i - (expressions_at s words + 1)) (0, 0) d
                (sym (part_tag st.held (exprs_all st) (i - (expressions_at s words + 1)) d) ∙ ap (λ p. get_or tags p 0) z ∙ h))
            go false q = omega (arith, ltb-false i (named_at s words f) q, inv.upto st)

-- ---- the body
module _ {words tags : List ℕ} {s at : ℕ} (got : Named at words tags s) (v : ℕ) (is : v ≡ get_or words at 0) where
  same : {cells : Cells} {end : ℕ} {f : Function} → Stands words tags cells s end f → at + 1 + 2 * v ≡ body_at s words f
  same {f} st =
      let z : v ≡ length f.named = is ∙ ap (λ p. get_or words p 0) (got.same st) ∙ named_count st in
      omega (arith, got.same st)

  pub body_is : Standing words tags s → Body (at + 1 + 2 * v) words tags s
  body_is here = record { inside = omega (arith, same here.own, stands-end here.own, here.own.part.within, here.small); same = same }
