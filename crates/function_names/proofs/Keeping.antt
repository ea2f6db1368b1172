-- The named expressions that stay, as pairs on the stack: an expression's seat is 0, or the place of its pair plus 1. What the records that are left make of the pairs so far is what all of them make.
use mathlib.Core.Path.{◌≡◌, refl, sym, ap, subst, ◌∙◌}
use mathlib.Core.Bool.{Bool, true, false, cond, false≢true}
use mathlib.Core.Logic.{⊎_elim}
use mathlib.Core.List.{List, [], ◌∷◌, ◌++◌, append_assoc}
use Prim.Native.Nat.{ℕ, zero, suc, ◌+◌, ◌*◌, ◌-◌, ◌/◌, ◌≤◌, ◌<◌}
use native.Mathlib.Nat.{le_refl, le_trans, div-eq_of_eq-mul_right}
use native.Mathlib.Numerals.{add-one}
use native.Mathlib.Omega.{arith}
use lib.Dec.{eqb}
use lib.ListN.{length, get_or, set, take, drop, replicate, length-set, length-append, length-replicate}
use lib.Seq.{slice, take-suc-set, take-set-le, take-set-lt, drop-set-add, drop-append-le, length-take-le, get_or-set_same, get_or-set_other}
use borrow.Author.Tests.{eq-eqb, ne_eqb, eqb-true}
use Rattle.theory_lists.specs.Lists.{zeros}
use Rattle.model.specs.Outcome.{Cells}
use Rattle.model.specs.Table.{NAME, NAMED-EXPR}
use Rattle.model.specs.Names.{field}
use Rattle.model.specs.Bodies.{put_name, name_if, keep_names}
use Rattle.theory_image.specs.Betweens.{slice-none}
use Rattle.derive_state.specs.Held.{row, put}
use Rattle.std.specs.Prelude.{Result, Err}
use Rattle.derive_state.specs.declared.Full.{Full}
use Rattle.derive_state.specs.declared.Sizes.{Sizes as Sizes'}
use Rattle.derive_state.specs.Sizes.{Sizes, told}
use Rattle.derive_state.proofs.State.{same_or, row_other, put-row}
use Rattle.function_builder.specs.Stacks.{Stacks}
use Rattle.function_builder.specs.Makes.{Pushed}
use Rattle.function_names.specs.Named.{pair_words, named_records, KeepNamesEnsures}

-- ---- where an expression's pair is
unfoldable pub up : ℕ → ℕ
up zero = zero
up (suc n) = suc (suc n)

unfoldable pub seat_of : List (ℕ × ℕ) → ℕ → ℕ
seat_of [] x = 0
seat_of (p ∷ ps) x = cond (eqb p.0 x) 1 (up (seat_of ps x))

up_zero : (n : ℕ) → up n ≡ 0 → n ≡ 0
unfolding up
up_zero zero e = refl
up_zero (suc n) e = absurd (omega arith)

either : {A : Type 0} (b : Bool) → (b ≡ true → A) → (b ≡ false → A) → A
either true f g = f refl
either false f g = g refl

-- ---- a new pair
pub put-new : (ps : List (ℕ × ℕ)) (x w : ℕ) → seat_of ps x ≡ 0 → put_name ps x w ≡ ps ++ ((x, w) ∷ [])
unfolding put_name seat_of
put-new [] x w h = refl
put-new (p ∷ ps) x w h = let i = put-new ps x w in either (eqb p.0 x) (λ e. let z : ◌≡◌ {A = ℕ} 1 0 = rw (seat_of, e) at h in absurd (omega arith)) λ e. rw (put_name, e) (ap (p ∷◌) (i (up_zero _ (rw (seat_of, e) at h))))

seat_new : (ps : List (ℕ × ℕ)) (x w : ℕ) → seat_of ps x ≡ 0 → seat_of (ps ++ ((x, w) ∷ [])) x ≡ suc (length ps)
unfolding seat_of up
seat_new [] x w h = rw (seat_of, eq-eqb x x refl)
seat_new (p ∷ ps) x w h = let i = seat_new ps x w in either (eqb p.0 x) (λ e. let z : ◌≡◌ {A = ℕ} 1 0 = rw (seat_of, e) at h in absurd (omega arith)) λ e. rw (seat_of, e, i (up_zero _ (rw (seat_of, e) at h)))

seat_other : (ps : List (ℕ × ℕ)) (x w y : ℕ) → (x ≡ y → ⊥) → seat_of (ps ++ ((x, w) ∷ [])) y ≡ seat_of ps y
unfolding seat_of up
seat_other [] x w y h = rw (seat_of, ne_eqb x y h)
seat_other (p ∷ ps) x w y h = ap (λ (k : ℕ). cond (eqb p.0 y) 1 (up k)) (seat_other ps x w y h)

words_new : (ps : List (ℕ × ℕ)) (x w : ℕ) → pair_words (ps ++ ((x, w) ∷ [])) ≡ pair_words ps ++ (x ∷ w ∷ [])
unfolding pair_words
words_new [] x w = refl
words_new (p ∷ ps) x w = ap (λ (l : List ℕ). p.0 ∷ p.1 ∷ l) (words_new ps x w)

-- ---- a pair that is there
seat_in : (ps : List (ℕ × ℕ)) (x j : ℕ) → seat_of ps x ≡ suc j → j < length ps
unfolding seat_of up
seat_in [] x j h = absurd (omega arith)
seat_in (p ∷ ps) x j h = let i = seat_in ps x in either (eqb p.0 x) (λ e. let z : ◌≡◌ {A = ℕ} 1 (suc j) = rw (seat_of, e) at h in omega arith) λ e. go (seat_of ps x) i (rw (seat_of, e) at h)
  where
    go : (s : ℕ) → ((k : ℕ) → s ≡ suc k → k < length ps) → up s ≡ suc j → j < suc (length ps)
    go zero i q = absurd (omega arith)
    go (suc s) i q = let z = i s refl in omega arith

put-length : (ps : List (ℕ × ℕ)) (x w j : ℕ) → seat_of ps x ≡ suc j → length (put_name ps x w) ≡ length ps
unfolding seat_of put_name up
put-length [] x w j h = absurd (omega arith)
put-length (p ∷ ps) x w j h = let i = put-length ps x w in either (eqb p.0 x) (λ e. rw (put_name, e)) λ e. rw (put_name, e) (ap suc (go (seat_of ps x) i (rw (seat_of, e) at h)))
  where
    go : (s : ℕ) → ((k : ℕ) → s ≡ suc k → length (put_name ps x w) ≡ length ps) → up s ≡ suc j → length (put_name ps x w) ≡ length ps
    go zero i q = absurd (omega arith)
    go (suc s) i q = i s refl

put_words : (ps : List (ℕ × ℕ)) (x w j : ℕ) → seat_of ps x ≡ suc j → pair_words (put_name ps x w) ≡ set (pair_words ps) (suc (2 * j)) w
unfolding seat_of put_name pair_words up
put_words [] x w j h = absurd (omega arith)
put_words (p ∷ ps) x w j h = let i = put_words ps x w in either (eqb p.0 x) (λ e. first e (rw (seat_of, e) at h)) λ e. rw (put_name, e) (go (seat_of ps x) i (rw (seat_of, e) at h))
  where
    first : eqb p.0 x ≡ true → 1 ≡ suc j → pair_words (put_name (p ∷ ps) x w) ≡ set (p.0 ∷ p.1 ∷ pair_words ps) (suc (2 * j)) w
    first e q = let z : 2 * j ≡ 0 = omega arith in rw (put_name, e, z, eqb-true p.0 x e)

    go : (s : ℕ) → ((k : ℕ) → s ≡ suc k → pair_words (put_name ps x w) ≡ set (pair_words ps) (suc (2 * k)) w) → up s ≡ suc j → p.0 ∷ p.1 ∷ pair_words (put_name ps x w) ≡ set (p.0 ∷ p.1 ∷ pair_words ps) (suc (2 * j)) w
    go zero i q = absurd (omega arith)
    go (suc s) i q = let z : 2 * j ≡ suc (suc (2 * s)) = omega arith in rw (z, i s refl)

put_seat : (ps : List (ℕ × ℕ)) (x w y : ℕ) → (seat_of ps x ≡ 0 → ⊥) → seat_of (put_name ps x w) y ≡ seat_of ps y
unfolding seat_of put_name up
put_seat [] x w y h = absurd (h refl)
put_seat (p ∷ ps) x w y h = let i = put_seat ps x w y in either (eqb p.0 x) (λ e. rw (put_name, e, eqb-true p.0 x e)) λ e. rw (put_name, e) (ap (λ (k : ℕ). cond (eqb p.0 y) 1 (up k)) (i λ z. h (rw (seat_of, e, z))))

-- ---- pairs are never fewer
put-more : (ps : List (ℕ × ℕ)) (x w : ℕ) → length ps ≤ length (put_name ps x w)
unfolding put_name
put-more [] x w = omega arith
put-more (p ∷ ps) x w = let i = put-more ps x w in either (eqb p.0 x) (λ e. rw (put_name, e) (le_refl _)) λ e. rw (put_name, e) (omega arith)

if_more : (v w : ℕ) (ps : List (ℕ × ℕ)) → length ps ≤ length (name_if v w ps)
unfolding name_if
if_more zero w ps = le_refl _
if_more (suc x) w ps = put-more ps x w

keep-more : (rs : List Cells) (memo : List ℕ) (ps : List (ℕ × ℕ)) → length ps ≤ length (keep_names rs memo ps)
unfolding keep_names
keep-more [] memo ps = le_refl _
keep-more (r ∷ rs) memo ps = le_trans (if_more (get_or memo (field NAMED-EXPR r) 0) (field NAME r) ps) (keep-more rs memo (name_if (get_or memo (field NAMED-EXPR r) 0) (field NAME r) ps))

-- ---- the stack's words
words_pushed : (R : List ℕ) (b t x w : ℕ) → b ≤ t → suc t < length R → slice b (suc (suc t)) (set (set R t x) (suc t) w) ≡ slice b t R ++ (x ∷ w ∷ [])
words_pushed R b t x w h l =
    let m = length-set R t x in
    let n = length-take-le t R (omega arith) in
    ap (drop b) (take-suc-set (set R t x) (suc t) w (omega arith) ∙ ap (λ (l : List ℕ). l ++ (w ∷ [])) (take-suc-set R t x (omega arith)) ∙ append_assoc (take t R) (x ∷ []) (w ∷ []))
    ∙ drop-append-le b (take t R) (x ∷ w ∷ []) (omega arith)

words_put : (R : List ℕ) (b t i w : ℕ) → b + i < t → slice b t (set R (b + i) w) ≡ set (slice b t R) i w
words_put R b t i w h = ap (drop b) (take-set-lt t R (b + i) w h) ∙ drop-set-add b (take t R) i w

-- ---- the sizes, with another top
abbrev pub atop : Sizes → ℕ → Sizes
atop e t = record { full = false; loglen = e.loglen; counts = e.counts; pairs = e.pairs; exprtop = e.exprtop; bodytop = t; made = e.made }

-- a push that has room
module _ {w : ℕ} {stacks : List (List ℕ)} {e r : Sizes} {stacks' : List (List ℕ)} (S : Stacks stacks e) (P : Pushed w stacks e r stacks') (room : e.bodytop < 16384) where
  pushed : r.full ≡ false
  pushed = either r.full (λ q. let z = P.over q in absurd (omega arith)) (λ q. q)

  pushed_row : row stacks' 3 ≡ set (row stacks 3) e.bodytop w
  pushed_row = let f = S.four in rw (P.is pushed) (get_or-set_same stacks 3 (set (row stacks 3) e.bodytop w) [] (omega arith))

  pushed_other : (t : ℕ) → t < 3 → row stacks' t ≡ row stacks t
  pushed_other t h = rw (P.is pushed) (row_other stacks 3 t e.bodytop w (λ q. omega arith))

  pub pushed_ends : (e₀ : Sizes) (t : ℕ) → e ≡ atop e₀ t → r ≡ atop e₀ (t + 1)
  pushed_ends e₀ t h = P.ends pushed ∙ ap (λ (x : Sizes). atop x (x.bodytop + 1)) h

  pub pushed_stacks : Stacks stacks' r
  pushed_stacks =
      let f = S.four in
      record {
        four = rw (P.is pushed) (length-set stacks 3 (set (row stacks 3) e.bodytop w) ∙ f);
        rows = λ t ht. rw (P.is pushed) (put-row stacks 3 t e.bodytop w (omega arith) ∙ S.rows t ht);
        high = rw (P.ends pushed) S.high;
        high' = rw (P.ends pushed) (omega arith);
      }

-- a refusal, as `?` hands it on
pub refused : {ps : List (ℕ × ℕ)} {stacks₀ : List (List ℕ)} {e : Sizes} {stacks : List (List ℕ)} (r : Result Sizes' Full) (y : Full) → r ≡ Err y → KeepNamesEnsures ps stacks₀ e (told (Err y)) stacks → KeepNamesEnsures ps stacks₀ e (told r) stacks
refused {ps} {stacks₀} {e} {stacks} r y q K = subst (λ (r : Result Sizes' Full). KeepNamesEnsures ps stacks₀ e (told r) stacks) (sym q) K

-- ---- the loop
pub record Keeping (words exprmap : List ℕ) (at : ℕ) (stacks₀ : List (List ℕ)) (e₀ : Sizes) (stacks : List (List ℕ)) (seats : List ℕ) (e : Sizes) (i : ℕ) : Type 0 where
  pub ps : List (ℕ × ℕ)
  pub within : i ≤ get_or words at 0
  pub ends : e ≡ atop e₀ (e₀.bodytop + 2 * length ps)
  pub stacks_are : Stacks stacks e
  pub is : slice e₀.bodytop e.bodytop (row stacks 3) ≡ pair_words ps
  pub below : take e₀.bodytop (row stacks 3) ≡ take e₀.bodytop (row stacks₀ 3)
  pub expressions : (t : ℕ) → t < 3 → row stacks t ≡ row stacks₀ t
  pub seats_long : length seats ≡ 1025
  pub agree : (x : ℕ) → x < 1024 → get_or seats x 0 ≡ seat_of ps x
  pub same : keep_names (named_records words (at + 1 + 2 * i) (get_or words at 0 - i)) exprmap ps ≡ keep_names (named_records words (at + 1) (get_or words at 0)) exprmap []

module _ (words exprmap : List ℕ) (at : ℕ) (stacks₀ : List (List ℕ)) (e₀ : Sizes) where
  abbrev whole : List (ℕ × ℕ)
  whole = keep_names (named_records words (at + 1) (get_or words at 0)) exprmap []

  pub keep-first : e₀.full ≡ false → Stacks stacks₀ e₀ → Keeping words exprmap at stacks₀ e₀ stacks₀ (replicate 1025 0) e₀ 0
  unfolding pair_words seat_of
  keep-first nf S = record {
    ps = [];
    within = omega arith;
    ends = let z : e₀.bodytop ≡ e₀.bodytop + 2 * 0 = omega arith in λ i. record { full = nf i; loglen = e₀.loglen; counts = e₀.counts; pairs = e₀.pairs; exprtop = e₀.exprtop; bodytop = z i; made = e₀.made };
    stacks_are = S;
    is = slice-none e₀.bodytop e₀.bodytop (row stacks₀ 3) (le_refl _);
    below = refl;
    expressions = λ t h. refl;
    seats_long = length-replicate {A = ℕ} 1025 0;
    agree = λ x h. zeros 1025 x;
    same = let z : at + 1 + 2 * 0 ≡ at + 1 = omega arith in let y : get_or words at 0 - 0 ≡ get_or words at 0 = omega arith in rw (z, y);
  }

  module _ (stacks : List (List ℕ)) (seats : List ℕ) (e : Sizes) (i : ℕ) (inv : Keeping words exprmap at stacks₀ e₀ stacks seats e i) where
    abbrev R : List ℕ
    R = row stacks 3

    top : e.bodytop ≡ e₀.bodytop + 2 * length inv.ps
    top = ap (λ (x : Sizes). x.bodytop) inv.ends

    pub keep-top : e₀.bodytop ≤ e.bodytop
    keep-top = let t = top in omega arith

    pub keep_half : (e.bodytop - e₀.bodytop) / 2 ≡ length inv.ps
    keep_half = let t = top in div-eq_of_eq-mul_right (omega arith) (omega arith)

    pub keep_few : (e.bodytop - e₀.bodytop) / 2 ≤ 8192
    keep_few = let h = keep_half in let t = top in let s = inv.stacks_are.high' in omega arith

    long : length R ≡ 16384
    long = inv.stacks_are.rows 3 (omega arith)

    -- one record: its expression y is mapped to v, or not mapped; w is its name's word
    module _ (less : i < get_or words at 0) (y v w : ℕ) (hy : y ≡ get_or words (at + 1 + 2 * i) 0) (hv : v ≡ get_or exprmap y 0) (hw : w ≡ get_or words (at + 1 + 2 * i + 1) 0) where
      cut : (ps : List (ℕ × ℕ)) → ps ≡ name_if v w inv.ps → keep_names (named_records words (at + 1 + 2 * (i + 1)) (get_or words at 0 - (i + 1))) exprmap ps ≡ whole
      unfolding named_records keep_names field
      cut ps hps =
          let a : at + 1 + 2 * (i + 1) ≡ suc (suc (at + 1 + 2 * i)) = omega arith in
          let b : get_or words at 0 - i ≡ suc (get_or words at 0 - (i + 1)) = omega arith in
          let m : get_or exprmap (get_or words (at + 1 + 2 * i) 0) 0 ≡ v = rw (← hy) (sym hv) in
          let n : get_or words (suc (at + 1 + 2 * i)) 0 ≡ w = sym (rw (add-one (at + 1 + 2 * i)) at hw) in
          rw (a, hps, ← m, ← n) (rw b at inv.same)

      -- it is not mapped
      pub keep_skip : v ≡ 0 → Keeping words exprmap at stacks₀ e₀ stacks seats e (i + 1)
      unfolding name_if
      keep_skip z = record {
        ps = inv.ps;
        within = omega arith;
        ends = inv.ends;
        stacks_are = inv.stacks_are;
        is = inv.is;
        below = inv.below;
        expressions = inv.expressions;
        seats_long = inv.seats_long;
        agree = inv.agree;
        same = cut inv.ps (rw z refl);
      }

      module _ (some : v ≡ 0 → ⊥) (small : v ≤ 1024) (j : ℕ) (hj : j ≡ get_or seats (v - 1) 0) where
        named : (ps : List (ℕ × ℕ)) → ps ≡ put_name inv.ps (v - 1) w → keep_names (named_records words (at + 1 + 2 * (i + 1)) (get_or words at 0 - (i + 1))) exprmap ps ≡ whole
        unfolding name_if
        named ps h = let z : v ≡ suc (v - 1) = omega arith in cut ps (h ∙ ap (λ (x : ℕ). name_if x w inv.ps) (sym z))

        seat : seat_of inv.ps (v - 1) ≡ j
        seat = sym (hj ∙ inv.agree (v - 1) (omega arith))

        -- its pair is there
        module _ (there : j ≡ 0 → ⊥) where
          seat_is : seat_of inv.ps (v - 1) ≡ suc (j - 1)
          seat_is = let s = seat in omega arith

          pub keep-under : e₀.bodytop + 2 * j - 1 < e.bodytop
          keep-under = let s = seat_in inv.ps (v - 1) (j - 1) seat_is in let t = top in omega arith

          pub keep_there : (stacks' : List (List ℕ)) → stacks' ≡ put stacks 3 (e₀.bodytop + 2 * j - 1) w → Keeping words exprmap at stacks₀ e₀ stacks' seats e (i + 1)
          keep_there stacks' put_is = record {
            ps = put_name inv.ps (v - 1) w;
            within = omega arith;
            ends = rw (put-length inv.ps (v - 1) w (j - 1) seat_is) inv.ends;
            stacks_are = rw put_is (record { four = length-set stacks 3 (set R (e₀.bodytop + 2 * j - 1) w) ∙ f; rows = λ t ht. put-row stacks 3 t (e₀.bodytop + 2 * j - 1) w (omega arith) ∙ inv.stacks_are.rows t ht; high = inv.stacks_are.high; high' = inv.stacks_are.high' });
            is = rw (row_is, words_put R e₀.bodytop e.bodytop (suc (2 * (j - 1))) w (let u = keep-under in omega arith), inv.is) (sym (put_words inv.ps (v - 1) w (j - 1) seat_is));
            below = rw row_is (take-set-le e₀.bodytop R (e₀.bodytop + suc (2 * (j - 1))) w (omega arith) ∙ inv.below);
            expressions = λ t ht. rw put_is (row_other stacks 3 t (e₀.bodytop + 2 * j - 1) w (λ q. omega arith) ∙ inv.expressions t ht);
            seats_long = inv.seats_long;
            agree = λ x h. inv.agree x h ∙ sym (put_seat inv.ps (v - 1) w x (λ z. let s = seat_is in omega arith));
            same = named (put_name inv.ps (v - 1) w) refl;
          }
            where
              f : length stacks ≡ 4
              f = inv.stacks_are.four

              row_is : row stacks' 3 ≡ set R (e₀.bodytop + suc (2 * (j - 1))) w
              row_is =
                  let z : e₀.bodytop + 2 * j - 1 ≡ e₀.bodytop + suc (2 * (j - 1)) = omega arith in
                  rw (put_is, get_or-set_same stacks 3 (set R (e₀.bodytop + 2 * j - 1) w) [] (omega arith), z)

        -- it has none
        module _ (new : j ≡ 0) where
          seat_none : seat_of inv.ps (v - 1) ≡ 0
          seat_none = seat ∙ new

          too_many : 16382 < e.bodytop → (r : Sizes) → r.full ≡ true → (stacks' : List (List ℕ)) → ((t : ℕ) → t < 3 → row stacks' t ≡ row stacks₀ t) → KeepNamesEnsures whole stacks₀ e₀ r stacks'
          too_many over r q stacks' rows = record {
            over = λ z. let t = top in let a = keep-more (named_records words (at + 1 + 2 * (i + 1)) (get_or words at 0 - (i + 1))) exprmap (inv.ps ++ ((v - 1, w) ∷ [])) in let b = length-append inv.ps ((v - 1, w) ∷ []) in let d = rw (named (inv.ps ++ ((v - 1, w) ∷ [])) (sym (put-new inv.ps (v - 1) w seat_none))) at a in omega arith;
            is = λ z. absurd (false≢true (sym z ∙ q));
            ends = λ z. absurd (false≢true (sym z ∙ q));
            below = λ z. absurd (false≢true (sym z ∙ q));
            expressions = rows;
            stacks_are = λ z. absurd (false≢true (sym z ∙ q));
          }

          -- no room for the first of its words
          pub keep_full : (r₁ : Sizes) (stacks₁ : List (List ℕ)) → Pushed (v - 1) stacks e r₁ stacks₁ → r₁.full ≡ true → KeepNamesEnsures whole stacks₀ e₀ r₁ stacks₁
          keep_full r₁ stacks₁ P₁ q = let z = P₁.over q in too_many (omega arith) r₁ q stacks₁ (λ t h. ap (λ (s : List (List ℕ)). row s t) (P₁.stays q) ∙ inv.expressions t h)

          module _ (less₁ : e.bodytop < 16384) (r₁ : Sizes) (stacks₁ : List (List ℕ)) (P₁ : Pushed (v - 1) stacks e r₁ stacks₁) where
            pub keep_stacks : Stacks stacks₁ r₁
            keep_stacks = pushed_stacks inv.stacks_are P₁ less₁

            ends₁ : r₁ ≡ atop e₀ (e₀.bodytop + 2 * length inv.ps + 1)
            ends₁ = pushed_ends inv.stacks_are P₁ less₁ e₀ (e₀.bodytop + 2 * length inv.ps) inv.ends

            top₁ : r₁.bodytop ≡ suc e.bodytop
            top₁ = let a = ap (λ (x : Sizes). x.bodytop) ends₁ in let t = top in omega arith

            -- none for the second
            pub keep_full_then : (r₂ : Sizes) (stacks₂ : List (List ℕ)) → Pushed w stacks₁ r₁ r₂ stacks₂ → r₂.full ≡ true → KeepNamesEnsures whole stacks₀ e₀ r₂ stacks₂
            keep_full_then r₂ stacks₂ P₂ q = let z = P₂.over q in let t = top₁ in too_many (omega arith) r₂ q stacks₂ (λ t h. ap (λ (s : List (List ℕ)). row s t) (P₂.stays q) ∙ pushed_other inv.stacks_are P₁ less₁ t h ∙ inv.expressions t h)

            module _ (less₂ : r₁.bodytop < 16384) (r₂ : Sizes) (stacks₂ : List (List ℕ)) (P₂ : Pushed w stacks₁ r₁ r₂ stacks₂) where
              ps₂ : List (ℕ × ℕ)
              ps₂ = inv.ps ++ ((v - 1, w) ∷ [])

              count₂ : length ps₂ ≡ suc (length inv.ps)
              unfolding ps₂
              count₂ = length-append inv.ps ((v - 1, w) ∷ []) ∙ omega arith

              ends₂ : r₂ ≡ atop e₀ (e₀.bodytop + 2 * length ps₂)
              ends₂ = let c = count₂ in let z : e₀.bodytop + 2 * length ps₂ ≡ e₀.bodytop + 2 * length inv.ps + 1 + 1 = omega arith in rw z (pushed_ends keep_stacks P₂ less₂ e₀ (e₀.bodytop + 2 * length inv.ps + 1) ends₁)

              top₂ : r₂.bodytop ≡ suc (suc e.bodytop)
              top₂ = let a = ap (λ (x : Sizes). x.bodytop) ends₂ in let t = top in let c = count₂ in omega arith

              row₂ : row stacks₂ 3 ≡ set (set R e.bodytop (v - 1)) (suc e.bodytop) w
              row₂ = pushed_row keep_stacks P₂ less₂ ∙ rw (pushed_row inv.stacks_are P₁ less₁, top₁)

              pub keep-new : (s : ℕ) → s ≡ (e.bodytop - e₀.bodytop) / 2 + 1 → Keeping words exprmap at stacks₀ e₀ stacks₂ (set seats (v - 1) s) r₂ (i + 1)
              unfolding ps₂
              keep-new s hs = record {
                ps = ps₂;
                within = omega arith;
                ends = ends₂;
                stacks_are = pushed_stacks keep_stacks P₂ less₂;
                is = let a = long in let b = keep-top in let y = less₂ in let x = top₁ in rw (row₂, top₂, words_pushed R e₀.bodytop e.bodytop (v - 1) w b (omega arith), inv.is) (sym (words_new inv.ps (v - 1) w));
                below = let b = keep-top in rw row₂ (take-set-le e₀.bodytop (set R e.bodytop (v - 1)) (suc e.bodytop) w (omega arith) ∙ take-set-le e₀.bodytop R e.bodytop (v - 1) b ∙ inv.below);
                expressions = λ t ht. pushed_other keep_stacks P₂ less₂ t ht ∙ pushed_other inv.stacks_are P₁ less₁ t ht ∙ inv.expressions t ht;
                seats_long = length-set seats (v - 1) s ∙ inv.seats_long;
                agree = agreed;
                same = named ps₂ (sym (put-new inv.ps (v - 1) w seat_none));
              }
                where
                  agreed : (x : ℕ) → x < 1024 → get_or (set seats (v - 1) s) x 0 ≡ seat_of (inv.ps ++ ((v - 1, w) ∷ [])) x
                  agreed x h =
                      let l = inv.seats_long in
                      ⊎_elim
                      (λ (q : x ≡ v - 1). rw (q, get_or-set_same seats (v - 1) s 0 (omega arith), seat_new inv.ps (v - 1) w seat_none) (let a = keep_half in omega arith))
                      (λ (ne : x ≡ v - 1 → ⊥). get_or-set_other seats (v - 1) x s 0 ne ∙ inv.agree x h ∙ sym (seat_other inv.ps (v - 1) w x (λ q. ne (sym q))))
                      (same_or x (v - 1))

    pub keep_done : get_or words at 0 ≤ i → KeepNamesEnsures whole stacks₀ e₀ e stacks
    unfolding named_records keep_names
    keep_done h = record {
      over = λ q. absurd (false≢true (sym (ap (λ (x : Sizes). x.full) inv.ends) ∙ q));
      is = λ q. rw (← all) inv.is;
      ends = λ q. rw (← all) inv.ends;
      below = λ q. inv.below;
      expressions = inv.expressions;
      stacks_are = λ q. inv.stacks_are;
    }
      where
        all : inv.ps ≡ whole
        all = let z : get_or words at 0 - i ≡ 0 = omega arith in rw z at inv.same
