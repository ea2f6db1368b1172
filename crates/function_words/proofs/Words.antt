-- One word of a function: whether the span at it is undefined, what an atomic statement compares, what the word imports, and what becomes of it.
use mathlib.Core.Path.{◌≡◌, refl, sym, ap, ◌∙◌}
use mathlib.Core.Bool.{Bool, true, false}
use mathlib.Core.List.{List, [], ◌∷◌}
use Prim.Native.Nat.{ℕ, zero, suc, ◌+◌, ◌-◌, ◌≤◌, ◌<◌}
use native.Mathlib.Numerals.{add-one}
use native.Mathlib.Omega.{arith}
use lib.Dec.{eqb, ltb}
use lib.ListN.{length, get_or}
use borrow.Author.Tests.{eqb-true, eq-eqb, ne_eqb, ltb-true, ltb-false}
use Rattle.model.specs.Outcome.{Cells, class, word}
use Rattle.model.specs.Table.{EXPR, OPT_EXPR, FROM, TO, ATOMIC, STMT_KIND}
use Rattle.model.specs.Module.{Module, count_at}
use Rattle.model.specs.Between.{between, Stretch}
use Rattle.model.specs.Carry.{carry_cell}
use Rattle.model.specs.Operands.{optional}
use Rattle.model.specs.References.{Target, targets, target, ref_of, refs, carry_w, through, first_word, moved}
use Rattle.model.specs.Bodies.{Builder, mapped_to, compare_of, compares_of, each_e}
use Rattle.theory_records.specs.RecordLaws.{All, all_map, rest_of}
use Rattle.theory_passes.specs.Pass.{atomic_kind, arrive, first, both, early, passed, word_of}
use Rattle.theory_passes.proofs.Cases.{early-atomic}
use Rattle.theory_passes.specs.Light.{still}
use Rattle.theory_image.specs.Betweens.{between_none, between_next}
use Rattle.derive_state.specs.Source.{mod_of, src_of, refers_to, number_of}
use Rattle.derive_state.specs.Held.{ValidArrays, ImportEnsures}
use Rattle.derive_state.specs.Sizes.{Sizes}
use Rattle.function_references.specs.Fits.{Fits, FitN, record_of}
use Rattle.function_outside.proofs.Cells.{arrive-still, arrive_own, arrive_none, fit_own, fit-table}
use Rattle.function_outside.proofs.Records.{lands_none}
use Rattle.function_builder.specs.Stacks.{went_of, making_of, Under}
use Rattle.function_builder.specs.Makes.{Makes, Pushed}
use Rattle.function_builder.proofs.Stack.{fit-more}
use Rattle.function_builder.proofs.Went.{carried_is}
use Rattle.function_builder.proofs.Then.{makes_lift}
use Rattle.function_words.proofs.Running.{makes_as, makes-idle}

-- what they compare: the words from k on say it as all of them do
pub record Comparing (words tags : List ℕ) (i end k : ℕ) : Type 0 where
  pub left : Stretch words tags k end
  pub same : compares_of (between tags words k end) ≡ compares_of (between tags words i end)

pub compare-begin : {words tags : List ℕ} {i end : ℕ} → Stretch words tags i end → Comparing words tags i end i
compare-begin S = record { left = S; same = refl }

module _ {words tags : List ℕ} {i end k : ℕ} (inv : Comparing words tags i end k) where
  pub compare_done : end ≤ k → optional 0 [] ≡ compares_of (between tags words i end)
  unfolding compares_of optional
  compare_done h = ap compares_of (sym (between_none tags words k end h)) ∙ inv.same

  module _ (less : k < end) where
    here : compares_of ((get_or tags k 0, get_or words k 0) ∷ between tags words (suc k) end) ≡ compares_of (between tags words i end)
    here = ap compares_of (sym (between_next tags words k end less inv.left.in_tags inv.left.in_words)) ∙ inv.same

    pub compare-next : (get_or tags k 0 ≡ ATOMIC → ⊥) → Comparing words tags i end (k + 1)
    unfolding compares_of
    compare-next ne = rw (add-one k) (record { left = record { rising = less; small = inv.left.small; in_words = inv.left.in_words; in_tags = inv.left.in_tags }; same = rw (ne_eqb (get_or tags k 0) ATOMIC ne, compares_of) at here })

    module _ (is : get_or tags k 0 ≡ ATOMIC) where
      behind : compare_of (between tags words (suc k) end) ≡ compares_of (between tags words i end)
      unfolding compares_of
      behind = rw (eq-eqb (get_or tags k 0) ATOMIC is, compares_of) at here

      pub compare-last : end ≤ k + 1 → optional 0 [] ≡ compares_of (between tags words i end)
      unfolding compare_of optional
      compare-last h = ap compare_of (sym (between_none tags words (suc k) end (omega arith))) ∙ behind

      module _ (more : k + 1 < end) where
        second : compare_of ((get_or tags (k + 1) 0, get_or words (k + 1) 0) ∷ between tags words (suc (k + 1)) end) ≡ compares_of (between tags words i end)
        second = ap compare_of (sym (between_next tags words (k + 1) end more inv.left.in_tags inv.left.in_words)) ∙ ap (λ (n : ℕ). compare_of (between tags words n end)) (add-one k) ∙ behind

        pub compare_some : get_or tags (k + 1) 0 ≡ OPT_EXPR → optional (get_or words (k + 1) 0) [] ≡ compares_of (between tags words i end)
        unfolding compare_of
        compare_some e = rw (eq-eqb (get_or tags (k + 1) 0) OPT_EXPR e, compare_of) at second

        pub compare-other : (get_or tags (k + 1) 0 ≡ OPT_EXPR → ⊥) → optional 0 [] ≡ compares_of (between tags words i end)
        unfolding compare_of optional
        compare-other ne = rw (ne_eqb (get_or tags (k + 1) 0) OPT_EXPR ne, compare_of) at second

-- the words after one
pub compared_as : (tags words : List ℕ) (i end x : ℕ) → optional x [] ≡ compares_of (between tags words (i + 1) end) → optional x [] ≡ compares_of (between tags words (suc i) end)
compared_as tags words i end x e = rw (add-one i) at e

-- and that is an expression of the function
abbrev pub Lows : ℕ → List ℕ → Type 0
Lows k [] = Unit {0}
Lows k (e ∷ es) = (e < k) × Lows k es

module _ (words : List ℕ) (k : ℕ) where
  opt_low : (s w : ℕ) (cs : Cells) → s ≡ OPT_EXPR → All (FitN words k) (ref_of (target s) w (refs cs)) → Lows k (optional w [])
  unfolding ref_of target targets optional Fits
  opt_low s zero cs e a = tt
  opt_low s (suc n) cs e a = ((rw e at a).0, tt)

  compare_lows : (cs : Cells) → All (FitN words k) (refs cs) → Lows k (compare_of cs)
  unfolding compare_of refs
  compare_lows [] a = tt
  compare_lows (c ∷ cs) a = go (eqb (class c) OPT_EXPR) refl
    where
      go : (b : Bool) → eqb (class c) OPT_EXPR ≡ b → Lows k (elim b [ true ↦ optional (word c) [] | false ↦ [] ])
      go true e = opt_low (class c) (word c) cs (eqb-true (class c) OPT_EXPR e) a
      go false e = tt

  pub compares_lows : (cs : Cells) → All (FitN words k) (refs cs) → Lows k (compares_of cs)
  unfolding compares_of refs
  compares_lows [] a = tt
  compares_lows (c ∷ cs) a = let b = rest_of (FitN words k) (target (class c)) (word c) (refs cs) a in go (eqb (class c) ATOMIC) b (compares_lows cs b)
    where
      go : (x : Bool) → All (FitN words k) (refs cs) → Lows k (compares_of cs) → Lows k (elim x [ true ↦ compare_of cs | false ↦ compares_of cs ])
      go true b h = compare_lows cs b
      go false b h = h

  pub compare_low : (cs : Cells) → All (FitN words k) (refs cs) → (x r : ℕ) → optional x [] ≡ compares_of cs → (x ≡ 0 → ⊥) → r ≡ x - 1 → r < k
  unfolding optional
  compare_low cs a zero r e ne q = absurd (ne refl)
  compare_low cs a (suc y) r e ne q = let h = (rw (← e) at (compares_lows cs a)).0 in omega arith

-- ---- what a word imports: p imports an expression, q is an Emit's first pass
module _ (o : ℕ) (M : Module) (p q : ℕ → Builder → Builder) where
  pub early-none : (w : ℕ) (cs : Cells) (m : Builder) → optional 0 [] ≡ compares_of cs → early o M still p q w cs m ≡ m
  unfolding early optional each_e
  early-none w cs m e = go (atomic_kind w)
    where
      go : (b : Bool) → ◌≡◌ {A = Builder} (elim b [ true ↦ each_e (compares_of cs) p m | false ↦ m ]) m
      go true = rw (← e)
      go false = refl

  pub early-one : (w : ℕ) (cs : Cells) (m : Builder) → atomic_kind w ≡ true → (x r : ℕ) → optional x [] ≡ compares_of cs → (x ≡ 0 → ⊥) → r ≡ x - 1 → early o M still p q w cs m ≡ p r m
  unfolding optional each_e
  early-one w cs m h zero r e ne z = absurd (ne refl)
  early-one w cs m h (suc y) r e ne z = early-atomic o M still p q w cs m h ∙ rw (← e) (let z' : r ≡ y = omega arith in rw z')

  -- ---- one cell, by its class
  pub passed_from : (s w : ℕ) (cs : Cells) (m : Builder) → s ≡ FROM → passed o M still p q (s, w) cs m ≡ both o M still p q w (first_word cs) m
  unfolding passed
  passed_from s w cs m e = rw e

  pub word_from : (s w : ℕ) (cs : Cells) (u : Bool) (m : Builder) → s ≡ FROM → word_of o M still p q (s, w) cs u m ≡ length (first o M still p q w (first_word cs) m).made
  unfolding word_of
  word_from s w cs u m e = rw e

  pub passed_to : (s w : ℕ) (cs : Cells) (m : Builder) → s ≡ TO → passed o M still p q (s, w) cs m ≡ m
  unfolding passed arrive target targets
  passed_to s w cs m e = rw e

  pub word-to : (s w : ℕ) (cs : Cells) (u : Bool) (m : Builder) → s ≡ TO → word_of o M still p q (s, w) cs u m ≡ length m.made
  unfolding word_of
  word-to s w cs u m e = rw e

  pub passed-kind : (s w : ℕ) (cs : Cells) (m : Builder) → s ≡ STMT_KIND → passed o M still p q (s, w) cs m ≡ early o M still p q w cs m
  unfolding passed
  passed-kind s w cs m e = rw e

  pub word-kind : (s w : ℕ) (cs : Cells) (u : Bool) (m : Builder) → s ≡ STMT_KIND → word_of o M still p q (s, w) cs u m ≡ w
  unfolding word_of target targets moved through carry_w
  word-kind s w cs u m e = rw e

  pub passed-plain : (s w : ℕ) (cs : Cells) (m : Builder) → (s ≡ FROM → ⊥) → (s ≡ STMT_KIND → ⊥) → passed o M still p q (s, w) cs m ≡ arrive o M still p q (target s) w m
  unfolding passed
  passed-plain s w cs m nf nk = rw (ne_eqb s FROM nf, passed, ne_eqb s STMT_KIND nk)

  pub word-plain : (s w : ℕ) (cs : Cells) (u : Bool) (m : Builder) → (s ≡ FROM → ⊥) → (s ≡ TO → ⊥) → (s ≡ STMT_KIND → ⊥) → word_of o M still p q (s, w) cs u m ≡ moved (target s) (through (mapped_to M (arrive o M still p q (target s) w m)) s w) o u
  unfolding word_of
  word-plain s w cs u m nf nt nk = rw (ne_eqb s FROM nf, word_of, ne_eqb s TO nt, passed-plain s w cs m nf nk)

-- ---- a word of the class s: what it refers to, by the code t of the table and the number h
module _ (words : List ℕ) (n k o : ℕ) (p q : ℕ → Builder → Builder) (s w : ℕ) (t h : ℕ) (ht : t ≡ refers_to (target s) w) (hh : h ≡ number_of (target s) w) where
  abbrev brings : Builder → Builder
  brings = arrive o (mod_of words n) still p q (target s) w

  pub record_low : All (FitN words k) (ref_of (target s) w []) → s < EXPR → t < 6 → h < count_at t words
  record_low fits l z = rw (ht, hh) (fit-table words k s w l (rw ht at z) fits).0

  pub expression_low : All (FitN words k) (ref_of (target s) w []) → EXPR ≤ s → t ≡ 5 → (e : ℕ) → e ≡ h → e < k
  expression_low fits l z e is = rw (is, hh) (fit_own words k s w l (sym ht ∙ z) fits)

  module _ {log₀ logtags₀ : List ℕ} {starts₀ maps₀ : List (List ℕ)} {buckets₀ : List ℕ} {e₀ : Sizes} (K₀ : ValidArrays log₀ logtags₀ starts₀ maps₀ buckets₀ e₀) {exprmap₀ : List ℕ} {stacks₀ : List (List ℕ)} {e₁ : ℕ} (U₀ : Under k exprmap₀ stacks₀ e₁ e₀) where
    pub brings_record : s < EXPR → {r : Sizes} {log logtags : List ℕ} {starts maps : List (List ℕ)} {buckets : List ℕ} → ImportEnsures words (record_of o (src_of words n) t h) log₀ logtags₀ starts₀ maps₀ buckets₀ e₀ r log logtags starts maps buckets
        → Makes words k brings log₀ logtags₀ starts₀ maps₀ buckets₀ exprmap₀ stacks₀ e₁ e₀ r log logtags starts maps buckets exprmap₀ stacks₀
    unfolding src_of
    brings_record l {r} {log} {logtags} {starts} {maps} {buckets} L =
        makes_as (makes_lift words k e₁ log₀ logtags₀ starts₀ maps₀ buckets₀ exprmap₀ stacks₀ e₀ K₀ U₀ (record_of o (src_of words n) t h) r log logtags starts maps buckets L) (λ m. rw (ht, hh) (arrive-still o (mod_of words n) p q s w m l))

    pub brings_nothing : EXPR ≤ s → (t ≡ 5 → ⊥) → e₀.full ≡ false → Makes words k brings log₀ logtags₀ starts₀ maps₀ buckets₀ exprmap₀ stacks₀ e₁ e₀ e₀ log₀ logtags₀ starts₀ maps₀ buckets₀ exprmap₀ stacks₀
    brings_nothing l ne nf = makes-idle K₀ U₀ nf (λ m. arrive_none o (mod_of words n) still p q s w m l (λ z. ne (ht ∙ z)))

    -- neither a record of a table nor an expression
    pub brings_none : 6 ≤ t → e₀.full ≡ false → Makes words k brings log₀ logtags₀ starts₀ maps₀ buckets₀ exprmap₀ stacks₀ e₁ e₀ e₀ log₀ logtags₀ starts₀ maps₀ buckets₀ exprmap₀ stacks₀
    brings_none z nf = go (ltb s EXPR) refl
      where
        go : (b : Bool) → ltb s EXPR ≡ b → Makes words k brings log₀ logtags₀ starts₀ maps₀ buckets₀ exprmap₀ stacks₀ e₁ e₀ e₀ log₀ logtags₀ starts₀ maps₀ buckets₀ exprmap₀ stacks₀
        go true l = brings_record (ltb-true s EXPR l) (lands_none o (src_of words n) t h words log₀ logtags₀ starts₀ maps₀ buckets₀ e₀ nf K₀ z)
        go false l = brings_nothing (ltb-false s EXPR l) (λ q. omega arith) nf

  pub brings_expression : EXPR ≤ s → t ≡ 5 → {e : ℕ} → e ≡ h → {log₀ logtags₀ : List ℕ} {starts₀ maps₀ : List (List ℕ)} {buckets₀ exprmap₀ : List ℕ} {stacks₀ : List (List ℕ)} {e₁ : ℕ} {e₀ r : Sizes} {log logtags : List ℕ} {starts maps : List (List ℕ)} {buckets exprmap : List ℕ} {stacks : List (List ℕ)}
      → Makes words k (p e) log₀ logtags₀ starts₀ maps₀ buckets₀ exprmap₀ stacks₀ e₁ e₀ r log logtags starts maps buckets exprmap stacks → Makes words k brings log₀ logtags₀ starts₀ maps₀ buckets₀ exprmap₀ stacks₀ e₁ e₀ r log logtags starts maps buckets exprmap stacks
  brings_expression l z {e} is A = makes_as A (λ m. arrive_own o (mod_of words n) still p q s w m l (sym ht ∙ z) ∙ ap (λ x. p x m) (sym (is ∙ hh)))

-- ---- what becomes of it
-- numbers in a function's range are in the greatest
pub fits_all : (words : List ℕ) {k : ℕ} (g : Target) (w : ℕ) → k ≤ 1024 → All (FitN words k) (ref_of g w []) → All (FitN words 1024) (ref_of g w [])
fits_all words {k} g w l a = all_map (ref_of g w []) (fit-more words k 1024 l) a

pub pushed_as : {w w' : ℕ} {stacks₀ stacks : List (List ℕ)} {e r : Sizes} → w ≡ w' → Pushed w stacks₀ e r stacks → Pushed w' stacks₀ e r stacks
pushed_as q P = rw q at P

pub through_is : (words : List ℕ) (n k : ℕ) (log logtags : List ℕ) (starts maps : List (List ℕ)) (special : List ℕ) (e : Sizes) (exprmap : List ℕ) (stacks : List (List ℕ)) (e₁ s w : ℕ) → All (FitN words k) (ref_of (target s) w [])
    → through (went_of words n log logtags starts maps e exprmap) s w ≡ through (mapped_to (mod_of words n) (making_of words k log logtags starts maps special e exprmap stacks e₁)) s w
unfolding carry_cell refs first_word
through_is words n k log logtags starts maps special e exprmap stacks e₁ s w a = sym (ap first_word (carried_is words n k log logtags starts maps special e exprmap stacks e₁ ((s, w) ∷ []) a))
