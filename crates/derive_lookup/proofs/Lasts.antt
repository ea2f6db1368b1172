-- The last function of a name, from the end on.
use mathlib.Core.Path.{◌≡◌, refl, sym, ap, ◌∙◌}
use mathlib.Core.Bool.{Bool, true, false}
use mathlib.Core.List.{List, [], ◌∷◌, ◌++◌, map}
use Prim.Native.Nat.{ℕ, zero, suc, ◌+◌, ◌-◌, ◌≤◌, ◌<◌}
use native.Mathlib.Numerals.{add-one}
use native.Mathlib.Omega.{arith}
use lib.Dec.{eqb}
use lib.ListN.{length, get_or, take, length-map}
use lib.Seq.{take-suc, length-take-le}
use borrow.Author.Tests.{eq-eqb, ne_eqb, eqb-true, eqb-false}
use Rattle.std.specs.Prelude.{Option, None, Some, MatchOption, IsSomeAnd, cond}
use Rattle.std.specs.Option.{option_map}
use Rattle.std.specs.Iterator.{AlwaysYields}
use Rattle.std.specs.Iterator.Adapters.{rev_source, rev_steps}
use Rattle.std.specs.List.{find}
use Rattle.std.specs.declared.iter.Rev.{Rev}
use Rattle.std.specs.declared.ops.Range.{Range}
use Rattle.std.proofs.lemmas.Iterator.{YieldsList}
use Rattle.model.specs.Tree.{Function}
use Rattle.model.specs.Redirect.{name_word}
use Rattle.model.specs.Bodies.{last_of}
use Rattle.theory_bodies.specs.Names.{last_miss}
use Rattle.derive_state.specs.Flats.{function_of}
use Rattle.derive_state.specs.Held.{rec_at, recs_at}
use Rattle.derive_state.proofs.State.{recs_append, recs_long}
use Rattle.derive_lookup.specs.Bearing.{Heads, plus_one}

last_hit : (fs : List Function) (f : Function) (j v w : ℕ) → eqb (name_word f) w ≡ true → last_of (fs ++ (f ∷ [])) j v w ≡ suc (j + length fs)
unfolding last_of
last_hit [] f j v w h = rw (last_of, h) (omega arith)
last_hit (g ∷ fs) f j v w h = go (eqb (name_word g) w) (last_hit fs f (suc j) (suc j) w h) (last_hit fs f (suc j) v w h)
  where
    go : (b : Bool) → last_of (fs ++ (f ∷ [])) (suc j) (suc j) w ≡ suc (suc j + length fs) → last_of (fs ++ (f ∷ [])) (suc j) v w ≡ suc (suc j + length fs)
        → ◌≡◌ {A = ℕ} (elim b [ true ↦ last_of (fs ++ (f ∷ [])) (suc j) (suc j) w | false ↦ last_of (fs ++ (f ∷ [])) (suc j) v w ]) (suc (j + suc (length fs)))
    go true x y = omega arith
    go false x y = omega arith

map-end : {A B : Type 0} (f : A → B) (l : List A) (x : A) → map f (l ++ (x ∷ [])) ≡ map f l ++ (f x ∷ [])
map-end f [] x = refl
map-end f (y ∷ l) x = ap (f y ∷◌) (map-end f l x)

-- ---- the search
abbrev pub functions_in : List ℕ → List ℕ → List ℕ → ℕ → List Function
functions_in log logtags starts n = map function_of (recs_at log logtags (take n starts))

-- the answer is among the first k
pub record Left (log logtags starts : List ℕ) (n w k : ℕ) : Type 0 where
  pub low : k ≤ n
  pub rest : last_of (functions_in log logtags starts k) 0 0 w ≡ last_of (functions_in log logtags starts n) 0 0 w

-- ---- the numbers below n, from the last on
abbrev pub down : ℕ → List ℕ
down zero = []
down (suc n) = n ∷ down n

abbrev back : Range ℕ → Option ℕ → Range ℕ → Type 0
back s r t = (t.start ≡ s.start) × MatchOption r ((s.end - s.start ≡ 0) × (t.end ≡ s.end)) (λ x. (0 < s.end - s.start) × (x ≡ t.end) × (s.end ≡ t.end + 1))

goes_down : (n : ℕ) (s : Rev (Range ℕ)) → (rev_source s).start ≡ 0 → (rev_source s).end ≡ n → AlwaysYields (rev_steps back) (λ x. x) s (down n)
goes_down zero s a e = λ x t p. absurd (omega (arith, p.1.0, a, e))
goes_down (suc n) s a e = (λ t p. absurd (omega (arith, p.1.0, a, e)), λ x t p. (p.1.1 ∙ omega (arith, p.1.2, e), goes_down n t (p.0 ∙ a) (omega (arith, p.1.2, e))))

pub YieldsList-from_rev_range : {s : Rev (Range ℕ)} (n : ℕ) → rev_source s ≡ record { start = 0; end = n } → YieldsList (rev_steps back) (λ x. x) s (down n)
YieldsList-from_rev_range {s} n e = record { runs = goes_down n s (ap (λ q. q.start) e) (ap (λ q. q.end) e) }

module _ (log logtags starts : List ℕ) (n w : ℕ) (H : Heads log logtags starts n) where
  pub none : (k : ℕ) → Left log logtags starts n w k → (0 < k → ⊥) → 0 ≡ last_of (map function_of (recs_at log logtags (take n starts))) 0 0 w
  unfolding recs_at last_of
  none zero L h = L.rest
  none (suc k) L h = absurd (h (omega arith))

  module _ (j s : ℕ) (L : Left log logtags starts n w (suc j)) (is : s ≡ get_or starts j 0) where
    long : j < length starts
    long = let a = L.low in let b = H.few in let c = H.starts_long in omega arith

    functions_more : functions_in log logtags starts (suc j) ≡ functions_in log logtags starts j ++ (function_of (rec_at log logtags (get_or starts j 0)) ∷ [])
    functions_more =
        ap (λ l. map function_of (recs_at log logtags l)) (take-suc starts j 0 long)
        ∙ ap (map function_of) (recs_append log logtags (take j starts) (get_or starts j 0))
        ∙ map-end function_of (recs_at log logtags (take j starts)) (rec_at log logtags (get_or starts j 0))

    functions_long : length (functions_in log logtags starts j) ≡ j
    functions_long =
        let l = long in
        length-map (recs_at log logtags (take j starts)) function_of ∙ recs_long log logtags (take j starts) ∙ length-take-le j starts (omega arith)

    word_is : name_word (function_of (rec_at log logtags (get_or starts j 0))) ≡ get_or log (s + 1) 0
    word_is = H.first j L.low ∙ rw (is, add-one)

    hit : get_or log (s + 1) 0 ≡ w → suc j ≡ last_of (map function_of (recs_at log logtags (take n starts))) 0 0 w
    hit e =
        let q = last_hit (functions_in log logtags starts j) (function_of (rec_at log logtags (get_or starts j 0))) 0 0 w (eq-eqb _ w (word_is ∙ e)) in
        let l = functions_long in
        let g : last_of (functions_in log logtags starts (suc j)) 0 0 w ≡ suc j = rw functions_more (omega arith) in
        sym g ∙ L.rest

    miss : (get_or log (s + 1) 0 ≡ w → ⊥) → Left log logtags starts n w j
    miss ne =
        let q = last_miss (functions_in log logtags starts j) (function_of (rec_at log logtags (get_or starts j 0))) 0 0 w (ne_eqb _ w (λ e. ne (sym word_is ∙ e))) in
        record { low = let a = L.low in omega arith; rest = sym q ∙ sym (ap (λ l. last_of l 0 0 w) functions_more) ∙ L.rest }

  -- their places go down from n
  abbrev pub has : ℕ → Bool
  has k = eqb (get_or log (get_or starts k 0 + 1) 0) w

  abbrev pub IsLast : ℕ → Type 0
  IsLast r = (r ≡ last_of (functions_in log logtags starts n) 0 0 w) × (r ≤ n)

  sought : (m : ℕ) → Left log logtags starts n w m → IsLast (plus_one (find has (down m)))
  sought zero L = (none zero L (omega arith), omega arith)
  sought (suc j) L = go (has j) refl (λ T. sought j T)
    where
      go : (b : Bool) → has j ≡ b → (Left log logtags starts n w j → IsLast (plus_one (find has (down j)))) → IsLast (plus_one (cond b (Some j) (find has (down j))))
      go true q rest = (hit j _ L refl (eqb-true _ _ q), L.low)
      go false q rest = rest (miss j _ L refl (eqb-false _ _ q))

  -- what the library's search finds, after a map that keeps the number
  pub last_is : (r q : Option ℕ) → option_map (λ x. x) r ≡ find has (down n) → (P : ℕ → ℕ → Type 0) → MatchOption r (q ≡ None) (λ k. IsSomeAnd q (P k)) → ((k u : ℕ) → P k u → u ≡ k) → IsLast (plus_one q)
  last_is r q e P v h = rw (same r q v e) (sought n (record { low = omega arith; rest = refl }))
    where
      same : (r q : Option ℕ) → MatchOption r (q ≡ None) (λ k. IsSomeAnd q (P k)) → option_map (λ x. x) r ≡ find has (down n) → plus_one q ≡ plus_one (find has (down n))
      same None q v e = ap plus_one (v ∙ e)
      same (Some k) (Some u) v e = ap suc (h k u v) ∙ ap plus_one e
      same (Some k) None v e = absurd v
