-- From agreement in full to agreement as walks need it: words and records.
use Rattle.std.specs.Prelude.{◌≡◌, ◌⊎◌, Bool, true, false, ◌&&◌, ltb, leb, get_or}
use Rattle.std.proofs.Math.Path.{refl, sym, ap, subst}
use Rattle.std.proofs.Common.{◌∙◌, arith}
use Rattle.std.proofs.Math.Logic.{inl, inr, ⊎_elim}
use Rattle.std.proofs.lemmas.Bool.{false≢true}
use mathlib.Core.List.{List, [], ◌∷◌}
use Rattle.std.proofs.Math.Option.{some}
use Prim.Native.Nat.{ℕ, zero, suc, ◌+◌, ◌-◌, ◌<◌, pred}
use borrow.Author.Tests.{eqb-true, ltb-true, ltb-false, leb-true, ne_eqb}
use Rattle.theory_lists.specs.Booleans.{and_first, and_second, by}
use Rattle.model.specs.Outcome.{Cells}
use Rattle.model.specs.Table.{SPAN, UPTO, NAME}
use Rattle.model.specs.Module.{Module}
use Rattle.model.specs.Tables.{names, types, constants, overrides, globals, exprs, code_t, is_t, at, map_at}
use Rattle.model.specs.References.{Place, table, own, function, copied, ref, opt, targets, target}
use Rattle.model.specs.Agreement.{Mapping, becomes, agrees_w, agrees_r}
use Rattle.theory_image.specs.Same.{same_true}
use Rattle.theory_walks.specs.Agreement.{opt_word, carriers, through, carried, text_of, plain, Alike, AlikeR, over, next}
use Rattle.theory_walks.specs.Agreement as Old
use Rattle.theory_walks.specs.WholeLaws.{went, is_name_word, becomes-went, parts}
use Rattle.theory_walks.specs.WholeWords.{made, to}

-- ---- classes of no reference
unfoldable within : List (ℕ × (ℕ → ℕ)) → Bool
within [] = true
within (p ∷ ps) = leb 84 p.0 && (leb p.0 102 && within ps)

through-out : (ps : List (ℕ × (ℕ → ℕ))) → within ps ≡ true → (s w : ℕ) → (s < 84) ⊎ (102 < s) → through ps s w ≡ w
unfolding within through
through-out [] h s w d = refl
through-out (p ∷ ps) h s w d =
    let a = leb-true 84 p.0 (and_first (leb 84 p.0) _ h) in
    let h₁ = and_second (leb 84 p.0) _ h in
    let b = leb-true p.0 102 (and_first (leb p.0 102) _ h₁) in
    rw (ne_eqb s p.0 (λ q. ⊎_elim (λ x. omega (arith, a, b, q, x)) (λ x. omega (arith, a, b, q, x)) d), through) (through-out ps (and_second (leb p.0 102) _ h₁) s w d)

module _ (M M' : Module) (μ : Mapping) (o : List ℕ) where
  ref_to : (p : Place) (w w' : ℕ) → is_name_word M M' μ p ≡ false → agrees_w M M' μ o (ref p) w w' ≡ true → w' ≡ pred (went M M' μ o p w)
  unfolding agrees_w
  ref_to p w w' h q = rw (becomes-went M M' μ o p w w' h q)

  opt_to : (p : Place) (w w' : ℕ) → is_name_word M M' μ p ≡ false → agrees_w M M' μ o (opt p) w w' ≡ true → w' ≡ opt_word (λ n. pred (went M M' μ o p n)) w
  unfolding agrees_w opt_word
  opt_to p zero zero h q = refl
  opt_to p zero (suc n') h q = absurd (false≢true q)
  opt_to p (suc n) zero h q = absurd (false≢true q)
  opt_to p (suc n) (suc n') h q = rw (becomes-went M M' μ o p n n' h q)

  name_to_lem : (w w' : ℕ) → agrees_w M M' μ o (opt (table names)) w w' ≡ true → text_of M.names w ≡ text_of M'.names w'
  unfolding agrees_w becomes text_of is_t code_t
  name_to_lem zero zero q = refl
  name_to_lem zero (suc n') q = absurd (false≢true q)
  name_to_lem (suc n) zero q = absurd (false≢true q)
  name_to_lem (suc n) (suc n') q = ap some (same_true _ _ q)

  copy_to : (w w' : ℕ) → agrees_w M M' μ o copied w w' ≡ true → w' ≡ w
  unfolding agrees_w
  copy_to w w' q = sym (eqb-true w w' q)

  abbrev A : ℕ → ℕ → ℕ → Type 0
  A s w w' = Alike M M' (made μ) (to o) s w w'

  outside : (s w w' : ℕ) → (s < 81) ⊎ (102 < s) → agrees_w M M' μ o copied w w' ≡ true → A s w w'
  unfolding plain carried carriers within
  outside s w w' d q =
      Old.field {s = s}
      (rw (ne_eqb s SPAN (λ e. ⊎_elim (λ x. omega (arith, e, x)) (λ x. omega (arith, e, x)) d), ne_eqb s UPTO (λ e. ⊎_elim (λ x. omega (arith, e, x)) (λ x. omega (arith, e, x)) d), ne_eqb s NAME (λ e. ⊎_elim (λ x. omega (arith, e, x)) (λ x. omega (arith, e, x)) d)))
      (copy_to w w' q ∙ sym (through-out (carriers (made μ) (to o)) refl s w (⊎_elim (λ x. inl (omega (arith, x))) inr d)))

  -- the classes from SPAN on, one by one
  alike_from : (k w w' : ℕ) → agrees_w M M' μ o (get_or targets k copied) w w' ≡ true → A (81 + k) w w'
  unfolding targets plain carried carriers through made to went is_name_word is_t code_t map_at at
  alike_from zero w w' q = Old.start
  alike_from (suc zero) w w' q = Old.upto
  alike_from (suc (suc zero)) w w' q = Old.text (name_to_lem w w' q)
  alike_from (suc (suc (suc zero))) w w' q = Old.field refl (ref_to (table types) w w' refl q)
  alike_from (suc (suc (suc (suc zero)))) w w' q = Old.field refl (opt_to (table types) w w' refl q)
  alike_from (suc (suc (suc (suc (suc zero))))) w w' q = Old.field refl (ref_to (table constants) w w' refl q)
  alike_from (suc (suc (suc (suc (suc (suc zero)))))) w w' q = Old.field refl (ref_to (table overrides) w w' refl q)
  alike_from (suc (suc (suc (suc (suc (suc (suc zero))))))) w w' q = Old.field refl (ref_to (table globals) w w' refl q)
  alike_from (suc (suc (suc (suc (suc (suc (suc (suc zero)))))))) w w' q = Old.field refl (ref_to (table exprs) w w' refl q)
  alike_from (suc (suc (suc (suc (suc (suc (suc (suc (suc zero))))))))) w w' q = Old.field refl (opt_to (table exprs) w w' refl q)
  alike_from (suc (suc (suc (suc (suc (suc (suc (suc (suc (suc zero)))))))))) w w' q = Old.field refl (ref_to function w w' refl q)
  alike_from (suc (suc (suc (suc (suc (suc (suc (suc (suc (suc (suc zero))))))))))) w w' q = Old.field refl (ref_to function w w' refl q)
  alike_from (suc (suc (suc (suc (suc (suc (suc (suc (suc (suc (suc (suc zero)))))))))))) w w' q = Old.field refl (ref_to own w w' refl q)
  alike_from (suc (suc (suc (suc (suc (suc (suc (suc (suc (suc (suc (suc (suc zero))))))))))))) w w' q = Old.field refl (opt_to own w w' refl q)
  alike_from (suc (suc (suc (suc (suc (suc (suc (suc (suc (suc (suc (suc (suc (suc zero)))))))))))))) w w' q = Old.field refl (copy_to w w' q)
  alike_from (suc (suc (suc (suc (suc (suc (suc (suc (suc (suc (suc (suc (suc (suc (suc zero))))))))))))))) w w' q = Old.field refl (copy_to w w' q)
  alike_from (suc (suc (suc (suc (suc (suc (suc (suc (suc (suc (suc (suc (suc (suc (suc (suc zero)))))))))))))))) w w' q = Old.field refl (copy_to w w' q)
  alike_from (suc (suc (suc (suc (suc (suc (suc (suc (suc (suc (suc (suc (suc (suc (suc (suc (suc zero))))))))))))))))) w w' q = Old.field refl (copy_to w w' q)
  alike_from (suc (suc (suc (suc (suc (suc (suc (suc (suc (suc (suc (suc (suc (suc (suc (suc (suc (suc zero)))))))))))))))))) w w' q = Old.field refl (ref_to own w w' refl q)
  alike_from (suc (suc (suc (suc (suc (suc (suc (suc (suc (suc (suc (suc (suc (suc (suc (suc (suc (suc (suc zero))))))))))))))))))) w w' q = Old.field refl (opt_to own w w' refl q)
  alike_from (suc (suc (suc (suc (suc (suc (suc (suc (suc (suc (suc (suc (suc (suc (suc (suc (suc (suc (suc (suc zero)))))))))))))))))))) w w' q = Old.field refl (ref_to own w w' refl q)
  alike_from (suc (suc (suc (suc (suc (suc (suc (suc (suc (suc (suc (suc (suc (suc (suc (suc (suc (suc (suc (suc (suc zero))))))))))))))))))))) w w' q = Old.field refl (opt_to own w w' refl q)
  alike_from (suc (suc (suc (suc (suc (suc (suc (suc (suc (suc (suc (suc (suc (suc (suc (suc (suc (suc (suc (suc (suc (suc k)))))))))))))))))))))) w w' q = outside _ w w' (inr (omega arith)) q

  pub alike_of : (s w w' : ℕ) → agrees_w M M' μ o (target s) w w' ≡ true → A s w w'
  unfolding target
  alike_of s w w' q =
      by _ (ltb s SPAN) (λ h. outside s w w' (inl (ltb-true s SPAN h)) (rw (h, target) at q))
      (λ h. let z : 81 + (s - 81) ≡ s = (let l = ltb-false s SPAN h in omega (arith, l)) in subst (λ x. A x w w') z (alike_from (s - 81) w w' (rw (h, target) at q)))

  pub record_with : (r r' : Cells) → agrees_r M M' μ o r r' ≡ true → AlikeR M M' (made μ) (to o) r r'
  unfolding agrees_r
  record_with [] [] q = over
  record_with [] (d ∷ ds) q = absurd (false≢true q)
  record_with (c ∷ cs) [] q = absurd (false≢true q)
  record_with ((s, w) ∷ cs) ((t, v) ∷ ds) q =
      let p = parts M M' μ o (s, w) (t, v) cs ds q in
      subst (λ x. AlikeR M M' (made μ) (to o) ((s, w) ∷ cs) ((x, v) ∷ ds)) (eqb-true s t p.classes) (next (alike_of s w v p.words) (record_with cs ds p.others))
