-- The references of an expression, one by one: what those that are passed make of the function under construction at the entry is what the arrays hold. A record of a table is one import, an operand one step of h; what is full on the way is full at the end.
use mathlib.Core.Path.{◌≡◌, refl, sym, ap, ◌∙◌}
use mathlib.Core.Bool.{Bool, true, false}
use mathlib.Core.List.{List, [], ◌∷◌, ◌++◌}
use Prim.Native.Nat.{ℕ, suc, ◌+◌, ◌≤◌, ◌<◌}
use native.Mathlib.Nat.{le_refl}
use native.Mathlib.Numerals.{add-one}
use native.Mathlib.Omega.{arith}
use lib.ListN.{get_or}
use lib.Dec.{ltb}
use borrow.Author.Tests.{ltb-true, ltb-false}
use Rattle.model.specs.Outcome.{Cells, class, word}
use Rattle.model.specs.Table.{EXPR}
use Rattle.model.specs.Module.{Module, count_at}
use Rattle.model.specs.Between.{between}
use Rattle.model.specs.References.{target}
use Rattle.model.specs.Operands.{standing_kind}
use Rattle.model.specs.Bodies.{Builder, bring, intern_expr, import_initialiser}
use Rattle.theory_bodies.specs.Shallow.{need, peek, glance}
use Rattle.theory_passes.specs.Pass.{arrive}
use Rattle.theory_passes.specs.Cases.{along}
use Rattle.theory_passes.proofs.Growth.{grow_all, grow_arrive, grow_peek, grow_unique}
use Rattle.theory_passes.specs.Light.{still}
use Rattle.theory_image.specs.Betweens.{between_none, between_next}
use Rattle.derive_state.specs.Source.{mod_of, src_of, refers_to, number_of}
use Rattle.derive_state.specs.Held.{ValidArrays, ImportEnsures}
use Rattle.derive_state.specs.Sizes.{Sizes}
use Rattle.function_references.specs.Fits.{Legible, record_of}
use Rattle.function_outside.proofs.Cells.{arrive_own, arrive_none, arrive-still, fit_own, fit-table}
use Rattle.function_outside.proofs.Passing.{legible_next, legible_here}
use Rattle.function_outside.proofs.Records.{lands_none}
use Rattle.function_references.specs.Cuts.{exprs_of, Expressions}
use Rattle.function_builder.specs.Stacks.{making_of, Under}
use Rattle.function_builder.specs.Makes.{Makes, Lays}
use Rattle.function_builder.proofs.Stack.{between_join}
use Rattle.function_builder.proofs.Growth.{GrowM, growing}
use Rattle.function_builder.proofs.Then.{makes_then, makes_full, makes_none, makes_lift}
use Rattle.function_expressions.proofs.Needs.{glance_is, unique_is, peek-idle, peek_done}

-- ---- h imports an expression
module _ (o : ℕ) (M : Module) (h : ℕ → Builder → Builder) where
  abbrev To : Cells → Builder → Builder
  To = along o M still h h

  along-both : (cs ds : Cells) (m : Builder) → To (cs ++ ds) m ≡ To ds (To cs m)
  unfolding along
  along-both [] ds m = refl
  along-both (c ∷ cs) ds m = along-both cs ds (arrive o M still h h (target (class c)) (word c) m)

  grow_along : (xs : List Cells) → ((e : ℕ) (m : Builder) → GrowM m (h e m)) → (cs : Cells) (m : Builder) → GrowM m (To cs m)
  unfolding along
  grow_along xs g [] m = (growing o M xs).same m
  grow_along xs g (c ∷ cs) m = (growing o M xs).next m _ _ (grow_arrive o M still xs GrowM (growing o M xs) h g h (grow_all o M still xs GrowM (growing o M xs) h g) (target (class c)) (word c) m) (grow_along xs g cs (arrive o M still h h (target (class c)) (word c) m))

-- ---- the loop over the words from `at` to `end`, whose operands are below b
pub record Alongs (words tags : List ℕ) (n k o b at end : ℕ) (h : ℕ → Builder → Builder) (log₀ logtags₀ : List ℕ) (starts₀ maps₀ : List (List ℕ)) (buckets₀ exprmap₀ : List ℕ) (stacks₀ : List (List ℕ)) (e₁ : ℕ) (e₀ : Sizes)
    (log logtags : List ℕ) (starts maps : List (List ℕ)) (buckets exprmap : List ℕ) (stacks : List (List ℕ)) (e : Sizes) (i : ℕ) : Type 0 where
  pub left : Legible words tags b i end
  pub behind : at ≤ i
  pub going : e.full ≡ false
  pub passed : Makes words k (along o (mod_of words n) still h h (between tags words at i)) log₀ logtags₀ starts₀ maps₀ buckets₀ exprmap₀ stacks₀ e₁ e₀ e log logtags starts maps buckets exprmap stacks

module _ {words tags : List ℕ} {n k o b at end : ℕ} {h : ℕ → Builder → Builder} {log₀ logtags₀ : List ℕ} {starts₀ maps₀ : List (List ℕ)} {buckets₀ exprmap₀ : List ℕ} {stacks₀ : List (List ℕ)} {e₁ : ℕ} {e₀ : Sizes} (K₀ : ValidArrays log₀ logtags₀ starts₀ maps₀ buckets₀ e₀) where
  pub along-begin : Legible words tags b at end → e₀.full ≡ false → Under k exprmap₀ stacks₀ e₁ e₀ → Alongs words tags n k o b at end h log₀ logtags₀ starts₀ maps₀ buckets₀ exprmap₀ stacks₀ e₁ e₀ log₀ logtags₀ starts₀ maps₀ buckets₀ exprmap₀ stacks₀ e₀ at
  unfolding along
  along-begin L nf U = record {
    left = L;
    behind = le_refl at;
    going = nf;
    passed = makes_none words k e₁ log₀ logtags₀ starts₀ maps₀ buckets₀ exprmap₀ stacks₀ e₀ K₀ U nf (along o (mod_of words n) still h h (between tags words at at)) (λ special. nothing (making_of words k log₀ logtags₀ starts₀ maps₀ special e₀ exprmap₀ stacks₀ e₁));
  }
    where
      nothing : (m : Builder) → along o (mod_of words n) still h h (between tags words at at) m ≡ m
      nothing m = rw (between_none tags words at at (le_refl at))

  module _ {log logtags : List ℕ} {starts maps : List (List ℕ)} {buckets exprmap : List ℕ} {stacks : List (List ℕ)} {e : Sizes} {i : ℕ} (inv : Alongs words tags n k o b at end h log₀ logtags₀ starts₀ maps₀ buckets₀ exprmap₀ stacks₀ e₁ e₀ log logtags starts maps buckets exprmap stacks e i) where
    abbrev M : Module
    M = mod_of words n

    abbrev m₀ : List ℕ → Builder
    m₀ special = making_of words k log₀ logtags₀ starts₀ maps₀ special e₀ exprmap₀ stacks₀ e₁

    pub along-kept : ValidArrays log logtags starts maps buckets e
    along-kept = inv.passed.kept inv.going

    pub along_under : Under k exprmap stacks e₁ e
    along_under = inv.passed.under inv.going

    -- nothing is done
    stay : Makes words k (λ m. m) log logtags starts maps buckets exprmap stacks e₁ e e log logtags starts maps buckets exprmap stacks
    stay = makes_none words k e₁ log logtags starts maps buckets exprmap stacks e along-kept along_under inv.going (λ m. m) (λ special. refl)

    module _ (less : i < end) where
      -- one cell more is passed
      abbrev pub Turned : Sizes → List ℕ → List ℕ → List (List ℕ) → List (List ℕ) → List ℕ → List ℕ → List (List ℕ) → Type 0
      Turned r log' logtags' starts' maps' buckets' exprmap' stacks' = Makes words k (along o M still h h (between tags words at (suc i))) log₀ logtags₀ starts₀ maps₀ buckets₀ exprmap₀ stacks₀ e₁ e₀ r log' logtags' starts' maps' buckets' exprmap' stacks'

      next_is : (m : Builder) → along o M still h h (between tags words at (suc i)) m ≡ arrive o M still h h (target (get_or tags i 0)) (get_or words i 0) (along o M still h h (between tags words at i) m)
      unfolding along
      next_is m =
          let a = inv.left.stretch.in_tags in
          let b = inv.left.stretch.in_words in
          rw (← between_join tags words at i (suc i) inv.behind (omega arith) (omega arith) (omega arith), along-both o M h (between tags words at i) (between tags words i (suc i)) m, between_next tags words i (suc i) (omega arith) (omega arith) (omega arith), between_none tags words (suc i) (suc i) (le_refl (suc i)))

      rest_is : (m : Builder) → along o M still h h (between tags words at end) m ≡ along o M still h h (between tags words (suc i) end) (along o M still h h (between tags words at (suc i)) m)
      rest_is m =
          let p = inv.behind in
          rw (← between_join tags words at (suc i) end (omega arith) less inv.left.stretch.in_tags inv.left.stretch.in_words) (along-both o M h (between tags words at (suc i)) (between tags words (suc i) end) m)

      turn : (g : Builder → Builder) → ((m : Builder) → arrive o M still h h (target (get_or tags i 0)) (get_or words i 0) m ≡ g m) → (r : Sizes) (log' logtags' : List ℕ) (starts' maps' : List (List ℕ)) (buckets' exprmap' : List ℕ) (stacks' : List (List ℕ))
          → Makes words k g log logtags starts maps buckets exprmap stacks e₁ e r log' logtags' starts' maps' buckets' exprmap' stacks' → Turned r log' logtags' starts' maps' buckets' exprmap' stacks'
      turn g is = makes_then words k e₁ log₀ logtags₀ starts₀ maps₀ buckets₀ exprmap₀ stacks₀ e₀ K₀ (along o M still h h (between tags words at i)) e log logtags starts maps buckets exprmap stacks inv.passed g (along o M still h h (between tags words at (suc i))) (λ special. next_is (m₀ special) ∙ is _) inv.going

      -- the class s, and what its word refers to
      module _ {s t j : ℕ} (hs : s ≡ get_or tags i 0) (ht : t ≡ refers_to (target s) (get_or words i 0)) (hj : j ≡ number_of (target s) (get_or words i 0)) where
        -- a record of a table
        pub along_number : s < EXPR → t < 6 → j < count_at t words
        along_number low l = rw (ht, hj) (fit-table words b s (get_or words i 0) low (rw ht at l) (rw hs (legible_here inv.left less))).0

        pub along_record : s < EXPR → {r : Sizes} {log' logtags' : List ℕ} {starts' maps' : List (List ℕ)} {buckets' : List ℕ} → ImportEnsures words (record_of o (src_of words n) t j) log logtags starts maps buckets e r log' logtags' starts' maps' buckets' → Turned r log' logtags' starts' maps' buckets' exprmap stacks
        unfolding src_of
        along_record low {r} {log'} {logtags'} {starts'} {maps'} {buckets'} L =
            turn (bring (record_of o (src_of words n) t j)) brings r log' logtags' starts' maps' buckets' exprmap stacks
            (makes_lift words k e₁ log logtags starts maps buckets exprmap stacks e along-kept along_under (record_of o (src_of words n) t j) r log' logtags' starts' maps' buckets' L)
          where
            brings : (m : Builder) → arrive o M still h h (target (get_or tags i 0)) (get_or words i 0) m ≡ bring (record_of o (src_of words n) t j) m
            brings m = rw (ht, hj, ← hs) (arrive-still o M h h s (get_or words i 0) m low)

        -- an operand
        pub along-lower : EXPR ≤ s → t ≡ 5 → j < b
        along-lower high q = rw hj (fit_own words b s (get_or words i 0) high (sym ht ∙ q) (rw hs (legible_here inv.left less)))

        pub along_own : EXPR ≤ s → t ≡ 5 → {r : Sizes} {log' logtags' : List ℕ} {starts' maps' : List (List ℕ)} {buckets' exprmap' : List ℕ} {stacks' : List (List ℕ)} → Makes words k (h j) log logtags starts maps buckets exprmap stacks e₁ e r log' logtags' starts' maps' buckets' exprmap' stacks' → Turned r log' logtags' starts' maps' buckets' exprmap' stacks'
        along_own high q {r} {log'} {logtags'} {starts'} {maps'} {buckets'} {exprmap'} {stacks'} A =
            turn (h j) (λ m. rw (hj, ← hs) (arrive_own o M still h h s (get_or words i 0) m high (sym ht ∙ q))) r log' logtags' starts' maps' buckets' exprmap' stacks' A

        -- nothing
        pub along-none : EXPR ≤ s → (t ≡ 5 → ⊥) → Turned e log logtags starts maps buckets exprmap stacks
        along-none high ne = turn (λ m. m) (λ m. rw (← hs) (arrive_none o M still h h s (get_or words i 0) m high (λ q. ne (ht ∙ q)))) e log logtags starts maps buckets exprmap stacks stay

        -- no record, and so no operand
        pub along_absent : 6 ≤ t → Turned e log logtags starts maps buckets exprmap stacks
        along_absent l = go (ltb s EXPR) refl
          where
            go : (b : Bool) → ltb s EXPR ≡ b → Turned e log logtags starts maps buckets exprmap stacks
            go true q = along_record (ltb-true s EXPR q) (lands_none o (src_of words n) t j words log logtags starts maps buckets e inv.going along-kept l)
            go false q = along-none (ltb-false s EXPR q) (λ z. absurd (omega arith))

      module _ {r : Sizes} {log' logtags' : List ℕ} {starts' maps' : List (List ℕ)} {buckets' exprmap' : List ℕ} {stacks' : List (List ℕ)} (A : Turned r log' logtags' starts' maps' buckets' exprmap' stacks') where
        pub along-next : r.full ≡ false → Alongs words tags n k o b at end h log₀ logtags₀ starts₀ maps₀ buckets₀ exprmap₀ stacks₀ e₁ e₀ log' logtags' starts' maps' buckets' exprmap' stacks' r (i + 1)
        along-next q = rw (add-one i) (record { left = legible_next inv.left less; behind = let p = inv.behind in omega arith; going = q; passed = A })

        -- f ends with g after the references, and so is full
        pub along_full : (xs : List Cells) → ((x : ℕ) (m : Builder) → GrowM m (h x m)) → (f g : Builder → Builder) → ((m : Builder) → GrowM m (g m)) → ((special : List ℕ) → f (m₀ special) ≡ g (along o M still h h (between tags words at end) (m₀ special)))
            → r.full ≡ true → Makes words k f log₀ logtags₀ starts₀ maps₀ buckets₀ exprmap₀ stacks₀ e₁ e₀ r log' logtags' starts' maps' buckets' exprmap' stacks'
        along_full xs grows f g more is q =
            makes_full words k e₁ log₀ logtags₀ starts₀ maps₀ buckets₀ exprmap₀ stacks₀ e₀ K₀ (along o M still h h (between tags words at (suc i))) r log' logtags' starts' maps' buckets' exprmap' stacks' A (λ m. g (along o M still h h (between tags words (suc i) end) m)) f (λ special. is special ∙ ap g (rest_is (m₀ special))) q
            (λ m. (growing o M xs).next m _ _ (grow_along o M h xs grows (between tags words (suc i) end) m) (more _))

    -- all are passed, and g is after them
    module _ (past : end ≤ i) where
      whole : Makes words k (along o M still h h (between tags words at end)) log₀ logtags₀ starts₀ maps₀ buckets₀ exprmap₀ stacks₀ e₁ e₀ e log logtags starts maps buckets exprmap stacks
      whole = let a = inv.left.stretch.rising in let q : end ≡ i = omega arith in rw q inv.passed

      pub along_then : (f g : Builder → Builder) → ((special : List ℕ) → f (m₀ special) ≡ g (along o M still h h (between tags words at end) (m₀ special))) → {r : Sizes} {log' logtags' : List ℕ} {starts' maps' : List (List ℕ)} {buckets' exprmap' : List ℕ} {stacks' : List (List ℕ)}
          → Makes words k g log logtags starts maps buckets exprmap stacks e₁ e r log' logtags' starts' maps' buckets' exprmap' stacks' → Makes words k f log₀ logtags₀ starts₀ maps₀ buckets₀ exprmap₀ stacks₀ e₁ e₀ r log' logtags' starts' maps' buckets' exprmap' stacks'
      along_then f g is {r} {log'} {logtags'} {starts'} {maps'} {buckets'} {exprmap'} {stacks'} A =
          makes_then words k e₁ log₀ logtags₀ starts₀ maps₀ buckets₀ exprmap₀ stacks₀ e₀ K₀ (along o M still h h (between tags words at end)) e log logtags starts maps buckets exprmap stacks whole g f is inv.going r log' logtags' starts' maps' buckets' exprmap' stacks' A

      -- nothing is after them
      pub along_done : (f : Builder → Builder) → ((special : List ℕ) → f (m₀ special) ≡ along o M still h h (between tags words at end) (m₀ special)) → Makes words k f log₀ logtags₀ starts₀ maps₀ buckets₀ exprmap₀ stacks₀ e₁ e₀ e log logtags starts maps buckets exprmap stacks
      along_done f is = along_then f (λ m. m) is stay

-- ---- an operand of expression x, in an Emit's first pass
module _ {words tags places : List ℕ} {k : ℕ} (X : Expressions words tags places k) {n o x at end : ℕ} (hx : x < k) {log₀ logtags₀ : List ℕ} {starts₀ maps₀ : List (List ℕ)} {buckets₀ exprmap₀ : List ℕ} {stacks₀ : List (List ℕ)} {e₁ : ℕ} {e₀ : Sizes} (K : ValidArrays log₀ logtags₀ starts₀ maps₀ buckets₀ e₀)
    {log logtags : List ℕ} {starts maps : List (List ℕ)} {buckets exprmap : List ℕ} {stacks : List (List ℕ)} {e : Sizes} {i : ℕ} (inv : Alongs words tags n k o x at end (peek o (mod_of words n) still (exprs_of words tags places k)) log₀ logtags₀ starts₀ maps₀ buckets₀ exprmap₀ stacks₀ e₁ e₀ log logtags starts maps buckets exprmap stacks e i) (less : i < end)
    {s t j : ℕ} (hs : s ≡ get_or tags i 0) (ht : t ≡ refers_to (target s) (get_or words i 0)) (hj : j ≡ number_of (target s) (get_or words i 0)) (high : EXPR ≤ s) (q : t ≡ 5) where
  pub operand_in : j < k
  operand_in = let l = along-lower K inv less hs ht hj high q in omega arith

  pub operand-idle : (get_or exprmap j 0 ≡ 0 → standing_kind (get_or words (get_or places j 0) 0) ≡ false) → Turned K inv less e log logtags starts maps buckets exprmap stacks
  operand-idle z = along_own K inv less hs ht hj high q (peek-idle X n o inv.going (along-kept K inv) (along_under K inv) operand_in z)

  pub operand_done : standing_kind (get_or words (get_or places j 0) 0) ≡ true → {r : Sizes} {log' logtags' : List ℕ} {starts' maps' : List (List ℕ)} {buckets' exprmap' : List ℕ} {stacks' : List (List ℕ)}
      → Makes words k (need o (mod_of words n) still (exprs_of words tags places k) j) log logtags starts maps buckets exprmap stacks e₁ e r log' logtags' starts' maps' buckets' exprmap' stacks' → Turned K inv less r log' logtags' starts' maps' buckets' exprmap' stacks'
  operand_done z A = along_own K inv less hs ht hj high q (peek_done X n o inv.going (along-kept K inv) (along_under K inv) operand_in z A)

-- ---- expression x, which is new
module _ {words tags places : List ℕ} {k : ℕ} (X : Expressions words tags places k) (n o : ℕ)
    {log₀ logtags₀ : List ℕ} {starts₀ maps₀ : List (List ℕ)} {buckets₀ exprmap₀ : List ℕ} {stacks₀ : List (List ℕ)} {e₁ : ℕ} {d : Sizes} (nf : d.full ≡ false) (K : ValidArrays log₀ logtags₀ starts₀ maps₀ buckets₀ d) (U : Under k exprmap₀ stacks₀ e₁ d)
    {x : ℕ} (hx : x < k) (new : get_or exprmap₀ x 0 ≡ 0) {at end : ℕ} (ha : at ≡ get_or places x 0) (he : end ≡ get_or places (x + 1) 0) where
  abbrev T : Module
  T = mod_of words n

  abbrev xs : List Cells
  xs = exprs_of words tags places k

  -- in an Emit's first pass: of its operands the standing ones
  module _ {log logtags : List ℕ} {starts maps : List (List ℕ)} {buckets exprmap : List ℕ} {stacks : List (List ℕ)} {e : Sizes} {i : ℕ}
      (inv : Alongs words tags n k o x at end (peek o T still xs) log₀ logtags₀ starts₀ maps₀ buckets₀ exprmap₀ stacks₀ e₁ d log logtags starts maps buckets exprmap stacks e i) where
    pub glance_full : (less : i < end) {r : Sizes} {log' logtags' : List ℕ} {starts' maps' : List (List ℕ)} {buckets' exprmap' : List ℕ} {stacks' : List (List ℕ)} → Turned K inv less r log' logtags' starts' maps' buckets' exprmap' stacks'
        → r.full ≡ true → Makes words k (glance o T still xs x) log₀ logtags₀ starts₀ maps₀ buckets₀ exprmap₀ stacks₀ e₁ d r log' logtags' starts' maps' buckets' exprmap' stacks'
    glance_full less A q = along_full K inv less A xs (grow_peek o T still xs GrowM (growing o T xs)) (glance o T still xs x) (λ m. m) (growing o T xs).same (glance_is X n o nf K U hx new ha he) q

    pub glance_done : end ≤ i → Makes words k (glance o T still xs x) log₀ logtags₀ starts₀ maps₀ buckets₀ exprmap₀ stacks₀ e₁ d e log logtags starts maps buckets exprmap stacks
    glance_done past = along_done K inv past (glance o T still xs x) (glance_is X n o nf K U hx new ha he)

  -- of an initialiser: all its operands, and it is merged after them
  module _ {log logtags : List ℕ} {starts maps : List (List ℕ)} {buckets exprmap : List ℕ} {stacks : List (List ℕ)} {e : Sizes} {i : ℕ}
      (inv : Alongs words tags n k o x at end (import_initialiser o T still xs) log₀ logtags₀ starts₀ maps₀ buckets₀ exprmap₀ stacks₀ e₁ d log logtags starts maps buckets exprmap stacks e i) where
    pub unique_full : (less : i < end) {r : Sizes} {log' logtags' : List ℕ} {starts' maps' : List (List ℕ)} {buckets' exprmap' : List ℕ} {stacks' : List (List ℕ)} → Turned K inv less r log' logtags' starts' maps' buckets' exprmap' stacks'
        → r.full ≡ true → Makes words k (import_initialiser o T still xs x) log₀ logtags₀ starts₀ maps₀ buckets₀ exprmap₀ stacks₀ e₁ d r log' logtags' starts' maps' buckets' exprmap' stacks'
    unique_full less A q = along_full K inv less A xs (grow_unique o T still xs GrowM (growing o T xs)) (import_initialiser o T still xs x) (intern_expr o T still xs x) ((growing o T xs).merges x) (unique_is X n o nf K U hx new ha he) q

    pub unique_done : end ≤ i → {r : Sizes} {exprmap' : List ℕ} {stacks' : List (List ℕ)} → Lays words k (intern_expr o T still xs x) log logtags starts maps exprmap stacks e₁ e r exprmap' stacks'
        → Makes words k (import_initialiser o T still xs x) log₀ logtags₀ starts₀ maps₀ buckets₀ exprmap₀ stacks₀ e₁ d r log logtags starts maps buckets exprmap' stacks'
    unique_done past A = along_then K inv past (import_initialiser o T still xs x) (intern_expr o T still xs x) (unique_is X n o nf K U hx new ha he) (A.lays buckets (along-kept K inv))
