-- From sets of marks to the model: unknown names, the stuck functions, and what meets one of them.
use mathlib.Core.Path.{◌≡◌, refl, sym, ap, ◌∙◌}
use mathlib.Core.Bool.{Bool, true, false, cond, not, false≢true}
use mathlib.Core.Logic.{◌⊎◌, inl, inr}
use mathlib.Core.List.{List, [], ◌∷◌}
use Prim.Native.Nat.{ℕ, ◌≤◌, ◌<◌}
use native.Mathlib.Omega.{arith}
use lib.Dec.{eqb}
use lib.ListN.{length, get_or, take}
use lib.Seq.{length-take-le}
use borrow.Author.Tests.{eqb-true, eq-eqb, ne_eqb}
use Rattle.theory_lists.specs.Lists.{looked_at}
use Rattle.theory_lists.specs.Booleans.{bool_same, either}
use Rattle.model.specs.Tree.{Function}
use Rattle.model.specs.Module.{Module, count_at}
use Rattle.model.specs.Calls.{In, here, later, numbers, any, keep, Rounds, rounds}
use Rattle.model.specs.Callees.{callees, callees_at, calls}
use Rattle.model.specs.Redirect.{nothing, function}
use Rattle.model.specs.Imports.{Derived}
use Rattle.model.specs.Bodies.{known}
use Rattle.model.specs.Session.{unknown, stuck, meets_ring}
use Rattle.theory_image.specs.FunctionViews.{taped_functions}
use Rattle.order_ranks.specs.declared.FunctionSet.{FunctionSet}
use Rattle.order_ranks.specs.Marks.{holds, members, marked, Firsts, Below}
use Rattle.order_ranks.specs.Placing.{Leaves}
use Rattle.theory_order.specs.Lists.{any_in, in_any, numbers_in, keep_in, keep_ext, length-numbers}
use Rattle.order_ranks.proofs.Marks.{firsts-below, firsts-members, members_in}
use Rattle.order_ranks.proofs.Front.{leaves_front}
use Rattle.order_callees.specs.Gathering.{Known, Gathered}
use Rattle.order_callees.proofs.Numbered.{passed-known}
use Rattle.theory_order.specs.Same.{rounds_ext}
use Rattle.derive_state.specs.Source.{mod_of, Source}
use Rattle.derive_state.specs.Held.{st_of}
use Rattle.derive_state.specs.Sizes.{Sizes}
use Rattle.derive_imports.proofs.Sources.{mod_is}
use Rattle.std.specs.Prelude.{Option}
use Rattle.std.specs.Option.{is_some}
use Rattle.derive_lookup.specs.Bearing.{plus_one, KnownEnsures}
use Rattle.derive_lookup.proofs.Counted.{counted, not_counted}
use Rattle.derive_rings.specs.Rings.{unknown_by, Unknowns, Stuck, RingsEnsures}
use Rattle.derive_rings.proofs.Sieving.{Sieve, sieved, still_low}
use Rattle.derive_rings.proofs.Meeting.{left_meet, waiting_few, left_has, left_calls}
use Rattle.derive_rings.proofs.Asking.{is_of, holds_is}

-- ---- what gathering requires
pub callees-known : {words tags : List ℕ} {n : ℕ} → Source words tags n → Known words tags n
callees-known src = passed-known (λ m t. rw (mod_is t) at src.three)

pub few : {words tags : List ℕ} {n : ℕ} → Source words tags n → count_at 6 words ≤ 256
few src = omega (arith, taped_functions src.taped, src.taped.well.functions_ok.few)

-- the same of a count
pub few_at : {words tags : List ℕ} {n : ℕ} → Source words tags n → {c : ℕ} → c ≡ count_at 6 words → c ≤ 256
few_at src h = omega (arith, few src)

pub below_at : {c k : ℕ} (l : List ℕ) → c ≡ k → Below k l → Below c l
below_at l h b = rw h b

module _ (words : List ℕ) (n : ℕ) (log logtags : List ℕ) (starts : List (List ℕ)) (e : Sizes) where
  -- ---- unknown names, with any maps and special types
  abbrev pub is_unknown : ℕ → Bool
  is_unknown = unknown_by words n log logtags starts e

  same-unknown : (maps : List (List ℕ)) (special : List ℕ) (f : ℕ) → is_unknown f ≡ unknown (mod_of words n) (st_of words log logtags starts maps special e) f
  unfolding unknown known st_of
  same-unknown maps special f = refl

  -- as `known` tells it
  pub unknown_is : (f : ℕ) (o : Option ℕ) → KnownEnsures words n log logtags starts e f (plus_one o) → (b : Bool) → is_some o ≡ not b → b ≡ is_unknown f
  unfolding unknown
  unknown_is f o k true h = sym (eq-eqb _ 0 (sym (k.is [] []) ∙ not_counted o h))
  unknown_is f o k false h = sym (ne_eqb _ 0 (λ q. counted o h (k.is [] [] ∙ q)))

  pub unknowns : (began set : List ℕ) (c i : ℕ) → c ≡ count_at 6 words → c ≤ 256 → Below (count_at 6 words) began → Sieve is_unknown c began set i → c ≤ i → Unknowns words n log logtags starts e began set
  unknowns began set c i hc small low s h =
      let low' : Below c began = rw hc low in
      record {
        long = s.long;
        low = rw (← hc) (still_low is_unknown c began small low' set i s h);
        is = λ maps special. sieved is_unknown c began small low' set i s h ∙ keep_ext is_unknown (unknown (mod_of words n) (st_of words log logtags starts maps special e)) (members began) (λ f k. same-unknown maps special f);
      }

  -- ---- no name is unknown: no ring
  module _ (tags : List ℕ) (src : Source words tags n) (maps : List (List ℕ)) (special : List ℕ) where
    abbrev M : Module
    M = mod_of words n

    abbrev S : Derived
    S = st_of words log logtags starts maps special e

    stuck-unknown : (i : ℕ) → In i (stuck M S) → is_unknown i ≡ true
    unfolding stuck
    stuck-unknown i k = same-unknown maps special i ∙ left_has (calls M) (length M.functions) (unknown M S) i k

    -- whoever is stuck calls one of unknown name
    stuck_leads : (f : ℕ) → f < count_at 6 words → In f (stuck M S) → any (callees (function M f)) is_unknown ≡ true
    unfolding stuck calls callees_at function
    stuck_leads f hf k =
        let q = left_calls (calls M) (length M.functions) (unknown M S) f k in
        let l = looked_at M.functions f nothing (omega (arith, taped_functions src.taped)) in
        let r = any_in (λ k. eqb q.0 k) (callees (get_or M.functions f nothing)) (sym (ap (λ x. any (callees_at x) (λ k. eqb q.0 k)) l) ∙ q.2) in
        in_any is_unknown r.1 (rw (sym (eqb-true q.0 r.0 r.2)) (stuck-unknown q.0 q.1))

    none_of : (js : List ℕ) → ((i : ℕ) → In i js → In i (stuck M S) → ⊥) → false ≡ meets_ring js M S
    unfolding meets_ring
    none_of js h = go (either (any js (λ i. any (stuck M S) (eqb i))))
      where
        go : (any js (λ i. any (stuck M S) (eqb i)) ≡ true) ⊎ (any js (λ i. any (stuck M S) (eqb i)) ≡ false) → false ≡ any js (λ i. any (stuck M S) (eqb i))
        go (inl t) =
            let a = any_in (λ i. any (stuck M S) (eqb i)) js t in
            let b = any_in (eqb a.0) (stuck M S) a.2 in
            absurd (h a.0 a.1 (rw (eqb-true a.0 b.0 b.2) b.1))
        go (inr t) = sym t

  module _ (tags : List ℕ) (src : Source words tags n) where
    -- none of js is stuck, with any maps and special types
    abbrev Free : List ℕ → Type 0
    Free js = (maps : List (List ℕ)) (special : List ℕ) (i : ℕ) → In i js → In i (stuck (mod_of words n) (st_of words log logtags starts maps special e)) → ⊥

    free_not : (js : List ℕ) → Free js → RingsEnsures js words n log logtags starts e false
    free_not js h = record { is = λ maps special. none_of tags src maps special js (h maps special) }

    known-all : (js : List ℕ) → any js is_unknown ≡ false → Free js
    known-all js h maps special i m k = false≢true (sym h ∙ in_any is_unknown m (stuck-unknown tags src maps special i k))

    pub entries_not : (js : List ℕ) (b : Bool) → b ≡ any js is_unknown → b ≡ false → RingsEnsures js words n log logtags starts e false
    entries_not js b hb t = free_not js (known-all js (sym hb ∙ t))

    module _ (f : ℕ) (hf : f < count_at 6 words) where
      pub known-free : is_unknown f ≡ false → RingsEnsures (f ∷ []) words n log logtags starts e false
      known-free h = free_not (f ∷ []) (known-all (f ∷ []) (unfold any in rw h refl))

      module _ (b : Bool) (hb : b ≡ any (callees (function (mod_of words n) f)) is_unknown) (no : b ≡ false) where
        free-itself : (js : List ℕ) → Free js → Free (f ∷ js)
        free-itself js h maps special i here k = false≢true (sym no ∙ hb ∙ stuck_leads tags src maps special f hf k)
        free-itself js h maps special i (later m) k = h maps special i m k

        pub leads_not : RingsEnsures (f ∷ []) words n log logtags starts e false
        leads_not = free_not (f ∷ []) (free-itself [] (known-all [] (unfold any in refl)))

        pub calls_not : RingsEnsures (f ∷ callees (function (mod_of words n) f)) words n log logtags starts e false
        calls_not = free_not (f ∷ callees (function (mod_of words n) f)) (free-itself (callees (function (mod_of words n) f)) (known-all (callees (function (mod_of words n) f)) (sym hb ∙ no)))

  -- ---- what meets them
  module _ (tags : List ℕ) (src : Source words tags n) (set : List ℕ) (s : Stuck words n log logtags starts e set) where
    pub rings-any : (js : List ℕ) (r : Bool) → r ≡ any js (is_of set) → RingsEnsures js words n log logtags starts e r
    unfolding meets_ring
    rings-any js r h = record { is = λ maps special. h ∙ ap (λ (x : List ℕ). any js (λ i. any x (eqb i))) (s.is maps special) }

    module _ (f : ℕ) (hf : f < count_at 6 words) where
      low : f < 256
      low = omega (arith, few src)

      one : (b : Bool) → b ≡ cond b true false
      one true = refl
      one false = refl

      pub rings-one : (r : Bool) → r ≡ holds set f → RingsEnsures (f ∷ []) words n log logtags starts e r
      rings-one r h = rings-any (f ∷ []) r (unfold any in h ∙ holds_is set f low ∙ one (is_of set f))

      pub rings-itself : (r : Bool) → r ≡ holds set f → r ≡ true → RingsEnsures (f ∷ callees (function (mod_of words n) f)) words n log logtags starts e true
      rings-itself r h t = rings-any (f ∷ callees (function (mod_of words n) f)) true (unfold any in rw (sym (holds_is set f low) ∙ sym h ∙ t))

  module _ (tags : List ℕ) (src : Source words tags n) (cs : List FunctionSet) (g : Gathered words tags n cs) where
    -- ---- the stuck ones
    module _ (c : ℕ) (hc : c ≡ count_at 6 words) (every : List ℕ) (fs : Firsts c every) where
      small : c ≤ 256
      small = omega (arith, few src)

      enough : c ≤ length cs
      enough = omega (arith, small, g.long)

      -- the sets of the functions alone
      front_long : length (take c cs) ≡ c
      front_long = length-take-le c cs enough

      every_low : Below c every
      every_low = firsts-below every c fs

      pub all_asks : (length (take c cs) ≤ 256) × Below (length (take c cs)) every
      all_asks = rw front_long (small, every_low)

      module _ (led : List ℕ) (leads : Leaves (marked (take c cs)) (length (take c cs)) (members every) led) where
        l : Leaves (marked cs) c (members every) led
        l = leaves_front cs c enough every small every_low leads

        pub led_below : Below (count_at 6 words) led
        led_below = below_at led (sym hc) l.low

        led_is : members led ≡ (rounds (marked cs) c (numbers c 0)).left
        led_is =
            let m = firsts-members every c small fs in
            l.is c (omega (arith, ap length m, length-numbers c 0)) ∙ ap (λ (x : List ℕ). (rounds (marked cs) c x).left) m

        module _ (waiting : List ℕ) (w : Unknowns words n log logtags starts e led waiting) where
          waiting_is : members waiting ≡ keep (rounds (marked cs) c (numbers c 0)).left is_unknown
          waiting_is = w.is [] [] ∙ ap (λ (x : List ℕ). keep x is_unknown) led_is

          waiting_low : Below c waiting
          waiting_low = rw hc w.low

          pub waiting_asks : (length (take c cs) ≤ 256) × Below (length (take c cs)) waiting
          waiting_asks = rw front_long (small, waiting_low)

          pub stuck_is : (set : List ℕ) → Leaves (marked (take c cs)) (length (take c cs)) (members waiting) set → Stuck words n log logtags starts e set
          unfolding stuck
          stuck_is set remains =
              let r = leaves_front cs c enough waiting small waiting_low remains in
              let M = mod_of words n in
              let k : c ≡ length M.functions = hc ∙ taped_functions src.taped in
              record {
                long = r.long;
                low = rw (← hc) r.low;
                is = λ maps special.
                    r.is c (rw waiting_is (waiting_few (marked cs) c is_unknown))
                    ∙ ap (λ (x : List ℕ). (rounds (marked cs) c x).left) waiting_is
                    ∙ left_meet (marked cs) c is_unknown
                    ∙ ap (λ (x : Rounds). x.left) (rounds_ext c (marked cs) (calls M) (λ i j a b. g.is M src.taped i j (omega (arith, small))) c (keep (numbers c 0) is_unknown) (λ i q. let z = numbers_in c 0 (keep_in is_unknown (numbers c 0) q).0 in omega arith))
                    ∙ ap (λ (x : List ℕ). (rounds (calls M) c x).left) (keep_ext is_unknown (unknown M (st_of words log logtags starts maps special e)) (numbers c 0) (λ f q. same-unknown maps special f))
                    ∙ ap (λ (x : ℕ). (rounds (calls M) x (keep (numbers x 0) (unknown M (st_of words log logtags starts maps special e)))).left) k;
              }

    -- ---- and one that is called meets them
    module _ (set : List ℕ) (s : Stuck words n log logtags starts e set) where
      module _ (f : ℕ) (hf : f < count_at 6 words) where
        abbrev F : Function
        F = get_or (mod_of words n).functions f nothing

        called : (j : ℕ) → j < 256 → marked cs f j ≡ any (callees F) (λ k. eqb j k)
        unfolding calls callees_at
        called j h = g.is (mod_of words n) src.taped f j h ∙ ap (λ x. any (callees_at x) (λ k. eqb j k)) (looked_at (mod_of words n).functions f nothing (omega (arith, taped_functions src.taped)))

        -- one of them is called, or one that is called is one of them
        swap : any (members set) (marked cs f) ≡ any (callees (function (mod_of words n) f)) (is_of set)
        unfolding function
        swap =
            bool_same (any (members set) (marked cs f)) (any (callees F) (is_of set))
            (λ t.
            let a = any_in (marked cs f) (members set) t in
            let b = any_in (λ k. eqb a.0 k) (callees F) (sym (called a.0 (members_in set a.0 a.1).0) ∙ a.2) in
            in_any (is_of set) b.1 (in_any (eqb b.0) a.1 (eq-eqb b.0 a.0 (sym (eqb-true a.0 b.0 b.2)))))
            (λ t.
            let a = any_in (is_of set) (callees F) t in
            let b = any_in (eqb a.0) (members set) a.2 in
            in_any (marked cs f) b.1 (called b.0 (members_in set b.0 b.1).0 ∙ in_any (λ k. eqb b.0 k) a.1 (eq-eqb b.0 a.0 (sym (eqb-true a.0 b.0 b.2)))))

        pub rings-callees : (b r : Bool) → b ≡ holds set f → b ≡ false → r ≡ any (members set) (marked cs f) → RingsEnsures (f ∷ callees (function (mod_of words n) f)) words n log logtags starts e r
        rings-callees b r h t q = rings-any tags src set s (f ∷ callees (function (mod_of words n) f)) r (unfold any in rw (sym (holds_is set f (low tags src set s f hf)) ∙ sym h ∙ t) (q ∙ swap))
