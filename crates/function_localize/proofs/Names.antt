-- The names of the expressions that stay, as pairs on the stack: those of the source, whose names lie in their table; and their import, in which no expression has a say.
use mathlib.Core.Path.{◌≡◌, refl, sym, ap, ap₂, ◌∙◌}
use mathlib.Core.Bool.{Bool, true, false}
use mathlib.Core.List.{List, [], ◌∷◌}
use Prim.Native.Nat.{ℕ, zero, suc, ◌+◌, ◌*◌, ◌≤◌, ◌<◌}
use native.Mathlib.Omega.{arith}
use lib.Dec.{eqb}
use lib.ListN.{length, get_or, take}
use lib.Seq.{slice, get_or-take, get_or-drop, ext_get_or}
use Rattle.model.specs.Outcome.{Cells}
use Rattle.model.specs.Table.{NAME, NAMED-EXPR}
use Rattle.model.specs.Names.{field}
use Rattle.model.specs.Tree.{Function}
use Rattle.model.specs.Module.{Module, count_at}
use Rattle.model.specs.References.{target, targets, through, carry_w}
use Rattle.model.specs.Imports.{Derived}
use Rattle.model.specs.Bodies.{Builder, bring, mapped_to, step, put_name, name_if, keep_names}
use Rattle.theory_passes.specs.Pass.{arrive, named, rows}
use Rattle.theory_passes.specs.Light.{still}
use Rattle.function_parts.specs.Part.{Part, Indexed, named_many}
use Rattle.function_parts.specs.Named.{named-at}
use Rattle.function_names.specs.Named.{pair_words, pairs_in, named_records, bare, idle, names_out, names_rows}

-- ---- pairs as words
pub pairs_back : (ps : List (ℕ × ℕ)) → pairs_in (pair_words ps) ≡ ps
unfolding pairs_in pair_words
pairs_back [] = refl
pairs_back (p ∷ ps) = ap ((p.0, p.1) ∷◌) (pairs_back ps)

-- whose names are among the first n
abbrev Low : ℕ → List (ℕ × ℕ) → Type 0
Low n [] = Unit {0}
Low n (p ∷ ps) = (p.1 ≤ n) × Low n ps

pair_low : (n : ℕ) (ps : List (ℕ × ℕ)) → Low n ps → (i : ℕ) → i < length ps → get_or (pair_words ps) (suc (2 * i)) 0 ≤ n
unfolding pair_words
pair_low n [] a i h = absurd (omega arith)
pair_low n (p ∷ ps) a zero h = a.0
pair_low n (p ∷ ps) a (suc i) h = let q : suc (2 * suc i) ≡ suc (suc (suc (2 * i))) = omega arith in rw q (pair_low n ps a.1 i (omega arith))

-- ---- those that stay
put_low : (n : ℕ) (ps : List (ℕ × ℕ)) (k w : ℕ) → Low n ps → w ≤ n → Low n (put_name ps k w)
unfolding put_name
put_low n [] k w a h = (h, tt)
put_low n (p ∷ ps) k w a h = go (eqb p.0 k) (put_low n ps k w a.1 h)
  where
    go : (b : Bool) → Low n (put_name ps k w) → Low n (elim b [ true ↦ (k, w) ∷ ps | false ↦ p ∷ put_name ps k w ])
    go true r = (h, a.1)
    go false r = (a.0, r)

if_low : (n : ℕ) (v : ℕ) (ps : List (ℕ × ℕ)) (w : ℕ) → Low n ps → w ≤ n → Low n (name_if v w ps)
unfolding name_if
if_low n zero ps w a h = a
if_low n (suc k) ps w a h = put_low n ps k w a h

keep_low : (n : ℕ) (words : List ℕ) (memo : List ℕ) (c at : ℕ) (ps : List (ℕ × ℕ)) → ((i : ℕ) → i < c → get_or words (suc (at + 2 * i)) 0 ≤ n) → Low n ps → Low n (keep_names (named_records words at c) memo ps)
unfolding keep_names named_records field
keep_low n words memo zero at ps h a = a
keep_low n words memo (suc c) at ps h a =
    keep_low n words memo c (suc (suc at)) _ (λ i l. let q : suc (suc (suc at) + 2 * i) ≡ suc (at + 2 * suc i) = omega arith in rw q (h (suc i) (omega arith)))
    (if_low n (get_or memo (get_or words at 0) 0) ps (get_or words (suc at) 0) a (let q : suc (at + 2 * 0) ≡ suc at = omega arith in rw q at (h 0 (omega arith))))

-- ---- the source's
records_long : (words : List ℕ) (at c : ℕ) → length (named_records words at c) ≡ c
unfolding named_records
records_long words at zero = refl
records_long words at (suc c) = ap suc (records_long words (suc (suc at)) c)

records-at : (words : List ℕ) (at c i : ℕ) → i < c → get_or (named_records words at c) i [] ≡ (NAMED-EXPR, get_or words (at + 2 * i) 0) ∷ (NAME, get_or words (suc (at + 2 * i)) 0) ∷ []
unfolding named_records
records-at words at zero i h = absurd (omega arith)
records-at words at (suc c) zero h = let q : at + 2 * 0 ≡ at = omega arith in rw q refl
records-at words at (suc c) (suc i) h = let q : suc (suc at) + 2 * i ≡ at + 2 * suc i = omega arith in rw q at (records-at words (suc (suc at)) c i (omega arith))

module _ {words tags : List ℕ} {n s end : ℕ} {F : Function} (p : Part words tags n s end F) {ea : ℕ} {places : List ℕ} {k named body : ℕ} (x : Indexed words tags s end ea places k named body) where
  pub named-records : F.named ≡ named_records words (named + 1) (get_or words named 0)
  named-records =
      let m = named_many p x in
      let l = records_long words (named + 1) (get_or words named 0) in
      ext_get_or [] F.named (named_records words (named + 1) (get_or words named 0)) (omega arith)
      (λ i h. let q : suc (named + 1 + 2 * i) ≡ named + 2 + 2 * i = omega arith in (named-at p x i (omega arith)).is ∙ sym (records-at words (named + 1) (get_or words named 0) i (omega arith) ∙ rw q refl))

  pub named_exprs : (i : ℕ) → i < get_or words named 0 → get_or words (named + 1 + 2 * i) 0 < k
  named_exprs i h = (named-at p x i h).expr_in

  -- the names of those that stay, where they are from b on
  pub kept_low : (memo stack : List ℕ) (b top : ℕ) → slice b top stack ≡ pair_words (keep_names (named_records words (named + 1) (get_or words named 0)) memo [])
      → top ≡ b + 2 * length (keep_names (named_records words (named + 1) (get_or words named 0)) memo []) → (i : ℕ) → b + 2 * i < top → (suc (b + 2 * i) < top) × (get_or stack (suc (b + 2 * i)) 0 ≤ count_at 0 words)
  kept_low memo stack b top is t i h =
      let ps = keep_names (named_records words (named + 1) (get_or words named 0)) memo [] in
      let l : Low (count_at 0 words) ps = keep_low (count_at 0 words) words memo (get_or words named 0) (named + 1) [] (λ j g. let q : suc (named + 1 + 2 * j) ≡ named + 2 + 2 * j = omega arith in rw q (named-at p x j g).name_in_lem) tt in
      let j : i < length ps = omega arith in
      let g : get_or stack (suc (b + 2 * i)) 0 ≡ get_or (pair_words ps) (suc (2 * i)) 0
      = (let q : suc (b + 2 * i) ≡ b + suc (2 * i) = omega arith in ap (λ (y : ℕ). get_or stack y 0) q)
      ∙ sym (ap (λ (y : List ℕ). get_or y (suc (2 * i)) 0) (sym is) ∙ get_or-drop b (take top stack) (suc (2 * i)) 0 ∙ get_or-take top stack (b + suc (2 * i)) 0 (omega arith)) in
      (omega arith, rw g (pair_low (count_at 0 words) ps l i j))

-- ---- their import
module _ (o : ℕ) (M : Module) where
  -- one of them
  abbrev lone : ℕ → Derived → Builder
  lone w s = arrive o M still idle idle (target NAME) w (bare s)

  lone_bare : (w : ℕ) (s : Derived) → lone w s ≡ bare (lone w s).out
  unfolding arrive target targets step bring
  lone_bare zero s = refl
  lone_bare (suc j) s = refl

  module _ (p q : ℕ → Builder → Builder) where
    lone_is : (w : ℕ) (m : Builder) → arrive o M still p q (target NAME) w m ≡ record { out = (lone w m.out).out; memo = m.memo; made = m.made }
    unfolding arrive target targets step bring
    lone_is zero m = refl
    lone_is (suc j) m = refl

    lone_went : (w : ℕ) (m : Builder) → through (mapped_to M (arrive o M still p q (target NAME) w m)) NAME w ≡ through (mapped_to M (lone w m.out)) NAME w
    unfolding arrive target targets step bring through carry_w mapped_to
    lone_went zero m = refl
    lone_went (suc j) m = refl

    pub named_is : (ks : List (ℕ × ℕ)) (m : Builder) → named o M still p q ks m ≡ record { out = names_out o M ks m.out; memo = m.memo; made = m.made }
    unfolding named names_out
    named_is [] m = refl
    named_is (k ∷ ks) m =
        named_is ks (arrive o M still p q (target NAME) k.1 m)
        ∙ ap (λ (a : Builder). record { out = (named o M still idle idle ks (bare a.out)).out; memo = a.memo; made = a.made }) (lone_is k.1 m)
        ∙ ap (λ (b : Builder). record { out = (named o M still idle idle ks b).out; memo = m.memo; made = m.made }) (sym (lone_bare k.1 m.out))

    pub rows_is : (ks : List (ℕ × ℕ)) (m : Builder) → rows o M still p q ks m ≡ names_rows o M ks m.out
    unfolding rows names_rows
    rows_is [] m = refl
    rows_is (k ∷ ks) m =
        ap₂ (λ (w : ℕ) (l : Cells). (NAMED-EXPR, k.0) ∷ (NAME, w) ∷ l) (lone_went k.1 m)
        (rows_is ks (arrive o M still p q (target NAME) k.1 m)
        ∙ ap (λ (a : Builder). rows o M still idle idle ks (bare a.out)) (lone_is k.1 m)
        ∙ ap (λ (b : Builder). rows o M still idle idle ks b) (sym (lone_bare k.1 m.out)))

pub rows_long : (o : ℕ) (M : Module) (follow : ℕ → Derived → Derived) (p q : ℕ → Builder → Builder) (ks : List (ℕ × ℕ)) (m : Builder) → length (rows o M follow p q ks m) ≡ 2 * length ks
unfolding rows
rows_long o M follow p q [] m = refl
rows_long o M follow p q (k ∷ ks) m = let h = rows_long o M follow p q ks (arrive o M follow p q (target NAME) k.1 m) in omega arith
