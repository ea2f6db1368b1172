-- One expression: it is mapped and nothing is done; or it is new, and what it refers to outside the function comes, and then the expression itself. And whether it is standing.
use mathlib.Core.Path.{◌≡◌, refl, sym, ap, ◌∙◌}
use mathlib.Core.Bool.{Bool, true, false, false≢true}
use mathlib.Core.List.{List, []}
use Prim.Native.Nat.{ℕ, suc, ◌+◌, ◌<◌}
use native.Mathlib.Nat.{le_refl}
use native.Mathlib.Numerals.{add-one}
use native.Mathlib.Omega.{arith}
use lib.ListN.{length, get_or, take}
use lib.Seq.{get_or-take, length-take-le}
use Rattle.model.specs.Outcome.{Cells}
use Rattle.model.specs.Module.{Module}
use Rattle.model.specs.Between.{between}
use Rattle.model.specs.References.{Place, table, own, function, refs}
use Rattle.model.specs.Operands.{kind, standing_kind, kind_at, standing}
use Rattle.model.specs.Bodies.{Builder, bring, append_expr, intern_expr, import_initialiser}
use Rattle.theory_records.specs.RecordLaws.{all_map}
use Rattle.theory_bodies.specs.Context.{OwnP}
use Rattle.theory_bodies.specs.Shallow.{need, peek, glance}
use Rattle.theory_passes.specs.Cases.{along}
use Rattle.theory_passes.specs.Operands.{Lower, outward, need-mapped, need-new, peek-moving, peek-standing, glance-mapped, glance-new, unique_mapped, unique_new}
use Rattle.theory_passes.specs.Light.{still}
use Rattle.theory_image.specs.Betweens.{between_next}
use Rattle.derive_state.specs.Source.{mod_of}
use Rattle.derive_state.specs.Held.{ValidArrays, ImportEnsures}
use Rattle.derive_state.specs.Sizes.{Sizes}
use Rattle.function_references.specs.Fits.{Fits, Legible}
use Rattle.function_references.specs.Cuts.{exprs_of, Expressions}
use Rattle.function_builder.specs.Stacks.{making_of, Under}
use Rattle.function_builder.specs.Makes.{Makes, Lays}
use Rattle.function_builder.proofs.Stack.{cut_long, expr_is, expr_some, expr_low, expr_fits, expr_legible}
use Rattle.function_builder.proofs.Growth.{growing}
use Rattle.function_builder.proofs.Then.{makes_then, makes_full, makes_none, makes_lift}

-- ---- the source's expressions
module _ {words tags places : List ℕ} {k : ℕ} (X : Expressions words tags places k) where
  exprs_many : length (exprs_of words tags places k) ≡ k
  unfolding exprs_of
  exprs_many =
      let a = X.few in
      let b = X.places_long in
      cut_long (take k places) (get_or places k 0) tags words ∙ length-take-le k places (omega arith)

  lower_own : (e : ℕ) (p : Place) (j : ℕ) → Fits words e p j → OwnP (λ x. x < e) p j
  unfolding Fits OwnP
  lower_own e (table t) j f = tt
  lower_own e own j f = f
  lower_own e function j f = tt

  -- operands have lower numbers
  exprs_lower : (n o : ℕ) → Lower o (mod_of words n) still (exprs_of words tags places k)
  exprs_lower n o e h =
      let m = exprs_many in
      all_map (refs (get_or (exprs_of words tags places k) e [])) (λ j f. lower_own e j.place j.num f) (X.fits e (omega arith))

  module _ {e : ℕ} (h : e < k) where
    -- the cells of expression e, as its places are read
    module _ {at end : ℕ} (ha : at ≡ get_or places e 0) (he : end ≡ get_or places (e + 1) 0) where
      pub cells_are : get_or (exprs_of words tags places k) e [] ≡ between tags words at end
      cells_are = let he' : end ≡ get_or places (suc e) 0 = rw (add-one e) at he in rw (ha, he') (expr_is X e h)

      -- what they name of the function's own expressions is lower
      pub cells_legible : Legible words tags e at end
      cells_legible =
          let he' : end ≡ get_or places (suc e) 0 = rw (add-one e) at he in
          let L = expr_legible X e h in
          rw (ha, he') (record { stretch = L.stretch; words_long = L.words_long; tags_long = L.tags_long; fits = expr_fits X e h e (le_refl e) })

    pub first_in : get_or places e 0 < 16384
    first_in = let a = expr_some X e h in let b = expr_low X e h in omega arith

    -- its first word shows whether it is standing
    kind_is : kind_at (exprs_of words tags places k) e ≡ get_or words (get_or places e 0) 0
    unfolding kind_at kind
    kind_is =
        let a = expr_some X e h in
        let b = expr_low X e h in
        let c = X.words_long in
        let d = X.tags_long in
        rw (expr_is X e h, between_next tags words (get_or places e 0) (get_or places (suc e) 0) a (omega arith) (omega arith), X.kinds e h)

    standing_is : standing (exprs_of words tags places k) e ≡ standing_kind (get_or words (get_or places e 0) 0)
    unfolding standing
    standing_is = ap standing_kind kind_is

-- ---- expression e of a function under construction
module _ {words tags places : List ℕ} {k : ℕ} (X : Expressions words tags places k) (n o : ℕ)
    {log₀ logtags₀ : List ℕ} {starts₀ maps₀ : List (List ℕ)} {buckets₀ exprmap₀ : List ℕ} {stacks₀ : List (List ℕ)} {e₁ : ℕ} {d : Sizes} (nf : d.full ≡ false) (K : ValidArrays log₀ logtags₀ starts₀ maps₀ buckets₀ d) (U : Under k exprmap₀ stacks₀ e₁ d)
    {e : ℕ} (h : e < k) where
  abbrev M : Module
  M = mod_of words n

  abbrev xs : List Cells
  xs = exprs_of words tags places k

  abbrev m : List ℕ → Builder
  m special = making_of words k log₀ logtags₀ starts₀ maps₀ special d exprmap₀ stacks₀ e₁

  memo_is : (special : List ℕ) → get_or (m special).memo e 0 ≡ get_or exprmap₀ e 0
  unfolding making_of
  memo_is special = get_or-take k exprmap₀ e 0 h

  -- nothing is done
  pub idle : (f : Builder → Builder) → ((special : List ℕ) → f (m special) ≡ m special) → Makes words k f log₀ logtags₀ starts₀ maps₀ buckets₀ exprmap₀ stacks₀ e₁ d d log₀ logtags₀ starts₀ maps₀ buckets₀ exprmap₀ stacks₀
  idle f is = makes_none words k e₁ log₀ logtags₀ starts₀ maps₀ buckets₀ exprmap₀ stacks₀ d K U nf f is

  -- ---- it is mapped
  module _ (ne : get_or exprmap₀ e 0 ≡ 0 → ⊥) where
    has : (special : List ℕ) → 0 < get_or (m special).memo e 0
    has special = rw (memo_is special) (omega arith)

    pub need-idle : Makes words k (need o M still xs e) log₀ logtags₀ starts₀ maps₀ buckets₀ exprmap₀ stacks₀ e₁ d d log₀ logtags₀ starts₀ maps₀ buckets₀ exprmap₀ stacks₀
    need-idle = idle (need o M still xs e) (λ special. need-mapped o M still xs e (m special) (has special))

    pub glance-idle : Makes words k (glance o M still xs e) log₀ logtags₀ starts₀ maps₀ buckets₀ exprmap₀ stacks₀ e₁ d d log₀ logtags₀ starts₀ maps₀ buckets₀ exprmap₀ stacks₀
    glance-idle = idle (glance o M still xs e) (λ special. glance-mapped o M still xs e (m special) (has special))

    pub unique_idle : Makes words k (import_initialiser o M still xs e) log₀ logtags₀ starts₀ maps₀ buckets₀ exprmap₀ stacks₀ e₁ d d log₀ logtags₀ starts₀ maps₀ buckets₀ exprmap₀ stacks₀
    unique_idle = idle (import_initialiser o M still xs e) (λ special. unique_mapped o M still xs e (m special) (has special))

  -- ---- it is new
  module _ (new : get_or exprmap₀ e 0 ≡ 0) {at end : ℕ} (ha : at ≡ get_or places e 0) (he : end ≡ get_or places (e + 1) 0) where
    -- a first pass takes its references one by one
    pub glance_is : (special : List ℕ) → glance o M still xs e (m special) ≡ along o M still (peek o M still xs) (peek o M still xs) (between tags words at end) (m special)
    glance_is special = glance-new o M still xs e (m special) (memo_is special ∙ new) ∙ ap (λ (cs : Cells). along o M still (peek o M still xs) (peek o M still xs) cs (m special)) (cells_are X h ha he)

    -- so does an initialiser, which is merged after them
    pub unique_is : (special : List ℕ) → import_initialiser o M still xs e (m special) ≡ intern_expr o M still xs e (along o M still (import_initialiser o M still xs) (import_initialiser o M still xs) (between tags words at end) (m special))
    unique_is special =
        let l = exprs_many X in
        unique_new o M still xs (exprs_lower X n o) e (m special) (omega arith) (memo_is special ∙ new)
        ∙ ap (λ (cs : Cells). intern_expr o M still xs e (along o M still (import_initialiser o M still xs) (import_initialiser o M still xs) cs (m special))) (cells_are X h ha he)

    -- what it refers to outside has come
    module _ {r : Sizes} {log logtags : List ℕ} {starts maps : List (List ℕ)} {buckets : List ℕ} (L : ImportEnsures words (outward o M still (between tags words at end)) log₀ logtags₀ starts₀ maps₀ buckets₀ d r log logtags starts maps buckets) where
      pub brought : Makes words k (bring (outward o M still (between tags words at end))) log₀ logtags₀ starts₀ maps₀ buckets₀ exprmap₀ stacks₀ e₁ d r log logtags starts maps buckets exprmap₀ stacks₀
      brought = makes_lift words k e₁ log₀ logtags₀ starts₀ maps₀ buckets₀ exprmap₀ stacks₀ d K U (outward o M still (between tags words at end)) r log logtags starts maps buckets L

      need_is : (special : List ℕ) → need o M still xs e (m special) ≡ append_expr o M still xs e (bring (outward o M still (between tags words at end)) (m special))
      unfolding append_expr bring
      need_is special = need-new o M still xs e (m special) (memo_is special ∙ new) ∙ ap (λ (cs : Cells). append_expr o M still xs e (bring (outward o M still cs) (m special))) (cells_are X h ha he)

      pub need_full : r.full ≡ true → Makes words k (need o M still xs e) log₀ logtags₀ starts₀ maps₀ buckets₀ exprmap₀ stacks₀ e₁ d r log logtags starts maps buckets exprmap₀ stacks₀
      need_full q = makes_full words k e₁ log₀ logtags₀ starts₀ maps₀ buckets₀ exprmap₀ stacks₀ d K (bring (outward o M still (between tags words at end))) r log logtags starts maps buckets exprmap₀ stacks₀ brought (append_expr o M still xs e) (need o M still xs e) need_is q ((growing o M xs).appends e)

      pub need_done : r.full ≡ false → {r' : Sizes} {exprmap : List ℕ} {stacks : List (List ℕ)} → Lays words k (append_expr o M still xs e) log logtags starts maps exprmap₀ stacks₀ e₁ r r' exprmap stacks
          → Makes words k (need o M still xs e) log₀ logtags₀ starts₀ maps₀ buckets₀ exprmap₀ stacks₀ e₁ d r' log logtags starts maps buckets exprmap stacks
      need_done q {r'} {exprmap} {stacks} A =
          makes_then words k e₁ log₀ logtags₀ starts₀ maps₀ buckets₀ exprmap₀ stacks₀ d K (bring (outward o M still (between tags words at end))) r log logtags starts maps buckets exprmap₀ stacks₀ brought (append_expr o M still xs e) (need o M still xs e) need_is q
          r' log logtags starts maps buckets exprmap stacks (A.lays buckets (L.kept q))

  -- ---- it is standing, or not
  pub peek-idle : (get_or exprmap₀ e 0 ≡ 0 → standing_kind (get_or words (get_or places e 0) 0) ≡ false) → Makes words k (peek o M still xs e) log₀ logtags₀ starts₀ maps₀ buckets₀ exprmap₀ stacks₀ e₁ d d log₀ logtags₀ starts₀ maps₀ buckets₀ exprmap₀ stacks₀
  peek-idle q = idle (peek o M still xs e) (go (standing xs e) refl)
    where
      go : (b : Bool) → standing xs e ≡ b → (special : List ℕ) → peek o M still xs e (m special) ≡ m special
      go true s special = peek-standing o M still xs e (m special) s ∙ need-mapped o M still xs e (m special) (has (λ z. false≢true (sym (q z) ∙ sym (standing_is X h) ∙ s)) special)
      go false s special = peek-moving o M still xs e (m special) s

  pub peek_done : standing_kind (get_or words (get_or places e 0) 0) ≡ true → {r : Sizes} {log logtags : List ℕ} {starts maps : List (List ℕ)} {buckets exprmap : List ℕ} {stacks : List (List ℕ)}
      → Makes words k (need o M still xs e) log₀ logtags₀ starts₀ maps₀ buckets₀ exprmap₀ stacks₀ e₁ d r log logtags starts maps buckets exprmap stacks
      → Makes words k (peek o M still xs e) log₀ logtags₀ starts₀ maps₀ buckets₀ exprmap₀ stacks₀ e₁ d r log logtags starts maps buckets exprmap stacks
  peek_done q {r} {log} {logtags} {starts} {maps} {buckets} {exprmap} {stacks} A =
      makes_then words k e₁ log₀ logtags₀ starts₀ maps₀ buckets₀ exprmap₀ stacks₀ d K (λ m. m) d log₀ logtags₀ starts₀ maps₀ buckets₀ exprmap₀ stacks₀ (idle (λ m. m) (λ special. refl)) (need o M still xs e) (peek o M still xs e) (λ special. peek-standing o M still xs e (m special) (standing_is X h ∙ q)) nf
      r log logtags starts maps buckets exprmap stacks A
