-- One operand, as plain equations. At a word of the body (`need`): nothing where it is mapped, else its references outside and ONE append. In an Emit's first pass (`glance`): the references outside and, of the operands, the standing ones. Of an initialiser (`import_initialiser`): its references, its operands among them, and then it is merged; the number of levels does not matter.
use Rattle.std.specs.Prelude.{◌≡◌, Bool, length, get_or, set}
use Rattle.std.proofs.Math.Path.{refl, ap}
use Rattle.std.proofs.Common.{◌∙◌, arith}
use Rattle.std.proofs.Math.Bool.{true, false}
use mathlib.Core.List.{List, [], ◌∷◌, ◌++◌}
use Prim.Native.Nat.{ℕ, zero, suc, ◌<◌}
use Rattle.model.specs.Outcome.{Cells, class, word}
use Rattle.model.specs.Module.{Module}
use Rattle.model.specs.References.{Place, table, own, function, Target, copied, start, upto, ref, opt, target, Node, refs, fold_refs}
use Rattle.model.specs.Operands.{standing}
use Rattle.model.specs.Imports.{Derived, unless_mapped}
use Rattle.model.specs.Bodies.{Builder, bring, carried, step, append_expr, intern_expr, import_e, import_initialiser}
use Rattle.theory_records.specs.RecordLaws.{All as AllN}
use Rattle.theory_bodies.specs.Context.{outer, OwnP, Own, owns-map, once_is, once_cong}
use Rattle.theory_bodies.specs.Shallow.{need, peek, glance}
use Rattle.theory_passes.specs.Pass.{arrive}
use Rattle.theory_passes.specs.Cases.{along, along_is}

once-mapped : {S : Type 0} (v : ℕ) (k : ℕ → S) (s : S) → 0 < v → unless_mapped v k s ≡ s
once-mapped v k s h = once_is (λ x. x ≡ s) v k s (λ z. absurd (omega arith)) (λ h. refl)

once-new : {S : Type 0} (v : ℕ) (k : ℕ → S) (s : S) → v ≡ 0 → unless_mapped v k s ≡ k 0
once-new v k s z = once_is (λ x. x ≡ k 0) v k s (λ q. refl) (λ h. absurd (omega arith))

-- ---- references outside: what they import concerns the tables and functions alone
module _ (o : ℕ) (M : Module) (follow : ℕ → Derived → Derived) where
  unfoldable pub outward1 : Target → ℕ → Derived → Derived
  outward1 copied w s = s
  outward1 start w s = s
  outward1 upto w s = s
  outward1 (ref p) w s = outer o M follow p w s
  outward1 (opt p) zero s = s
  outward1 (opt p) (suc n) s = outer o M follow p n s

  unfoldable pub outward : Cells → Derived → Derived
  outward [] s = s
  outward (c ∷ cs) s = outward cs (outward1 (target (class c)) (word c) s)

  abbrev idle : ℕ → Builder → Builder
  idle x m = m

  abbrev pub inside : Derived → Builder → Builder
  inside s m = record { out = s; memo = m.memo; made = m.made }

  step-out : (p : Place) (n : ℕ) (m : Builder) → step o M follow idle p n m ≡ inside (outer o M follow p n m.out) m
  unfolding step bring outer
  step-out (table t) n m = refl
  step-out own n m = refl
  step-out function n m = refl

  arrive-out : (t : Target) (w : ℕ) (m : Builder) → arrive o M follow idle idle t w m ≡ inside (outward1 t w m.out) m
  unfolding arrive outward1
  arrive-out copied w m = refl
  arrive-out start w m = refl
  arrive-out upto w m = refl
  arrive-out (ref p) w m = step-out p w m
  arrive-out (opt p) zero m = refl
  arrive-out (opt p) (suc n) m = step-out p n m

  along-out : (cs : Cells) (m : Builder) → along o M follow idle idle cs m ≡ inside (outward cs m.out) m
  unfolding along outward
  along-out [] m = refl
  along-out (c ∷ cs) m = rw (arrive-out (target (class c)) (word c) m) (along-out cs (inside (outward1 (target (class c)) (word c) m.out) m))

  module _ (xs : List Cells) where
    -- ---- need
    pub need-mapped : (e : ℕ) (m : Builder) → 0 < get_or m.memo e 0 → need o M follow xs e m ≡ m
    unfolding need
    need-mapped e m h = once-mapped (get_or m.memo e 0) _ m h

    pub need-new : (e : ℕ) (m : Builder) → get_or m.memo e 0 ≡ 0 → need o M follow xs e m
        ≡ record { out = outward (get_or xs e []) m.out; memo = set m.memo e (suc (length m.made)); made = m.made ++ (carried o M (inside (outward (get_or xs e []) m.out) m) (get_or xs e []) ∷ []) }
    unfolding need append_expr
    need-new e m z = once-new (get_or m.memo e 0) _ m z ∙ ap (append_expr o M follow xs e) (along_is o M follow idle idle (get_or xs e []) m ∙ along-out (get_or xs e []) m)

    -- ---- glance
    pub peek-mapped : (e : ℕ) (m : Builder) → 0 < get_or m.memo e 0 → peek o M follow xs e m ≡ m
    unfolding peek
    peek-mapped e m h = go (standing xs e)
      where
        go : (b : Bool) → elim b [ true ↦ need o M follow xs e m | false ↦ m ] ≡ m
        go true = need-mapped e m h
        go false = refl

    pub peek-moving : (e : ℕ) (m : Builder) → standing xs e ≡ false → peek o M follow xs e m ≡ m
    unfolding peek
    peek-moving e m s = rw (s, peek)

    pub peek-standing : (e : ℕ) (m : Builder) → standing xs e ≡ true → peek o M follow xs e m ≡ need o M follow xs e m
    unfolding peek
    peek-standing e m s = rw (s, peek)

    pub glance-mapped : (e : ℕ) (m : Builder) → 0 < get_or m.memo e 0 → glance o M follow xs e m ≡ m
    unfolding glance
    glance-mapped e m h = once-mapped (get_or m.memo e 0) _ m h

    pub glance-new : (e : ℕ) (m : Builder) → get_or m.memo e 0 ≡ 0 → glance o M follow xs e m ≡ along o M follow (peek o M follow xs) (peek o M follow xs) (get_or xs e []) m
    unfolding glance
    glance-new e m z = once-new (get_or m.memo e 0) _ m z ∙ along_is o M follow (peek o M follow xs) (peek o M follow xs) (get_or xs e []) m

    -- ---- unique, where operands have lower numbers
    abbrev pub Lower : Type 0
    Lower = (e : ℕ) → e < length xs → AllN (Own (λ x. x < e)) (refs (get_or xs e []))

    -- two ways to import that agree on an expression
    abbrev pub Agree : (ℕ → Builder → Builder) → (ℕ → Builder → Builder) → ℕ → Type 0
    Agree h k x = (m : Builder) → h x m ≡ k x m

    pub step_same : (h k : ℕ → Builder → Builder) (p : Place) (n : ℕ) (m : Builder) → OwnP (Agree h k) p n → step o M follow h p n m ≡ step o M follow k p n m
    unfolding step OwnP
    step_same h k (table t) n m a = refl
    step_same h k own n m a = a m
    step_same h k function n m a = refl

    pub each_same : (h k : ℕ → Builder → Builder) (js : List Node) (m : Builder) → AllN (Own (Agree h k)) js → fold_refs js (step o M follow h) m ≡ fold_refs js (step o M follow k) m
    unfolding fold_refs
    each_same h k [] m a = refl
    each_same h k (j ∷ js) m a = rw (step_same h k j.place j.num m a.0) (each_same h k js (step o M follow k j.place j.num m) a.1)

    lower-same : (h k : ℕ → Builder → Builder) (e : ℕ) (js : List Node) → ((x : ℕ) → x < e → Agree h k x) → AllN (Own (λ x. x < e)) js → AllN (Own (Agree h k)) js
    lower-same h k e js f a = owns-map f js a

    -- levels enough are as good as more
    enough : (ending : ℕ → Builder → Builder) → Lower → (n k e : ℕ) (m : Builder) → e < n → e < k → e < length xs → import_e o M follow xs ending n e m ≡ import_e o M follow xs ending k e m
    unfolding import_e
    enough ending low zero k e m l r w = absurd (omega arith)
    enough ending low (suc n) zero e m l r w = absurd (omega arith)
    enough ending low (suc n) (suc k) e m l r w =
        once_cong (get_or m.memo e 0) _ _ m (λ z. ap (ending e) (each_same (import_e o M follow xs ending n) (import_e o M follow xs ending k) (refs (get_or xs e [])) m
        (lower-same (import_e o M follow xs ending n) (import_e o M follow xs ending k) e (refs (get_or xs e [])) (λ x h m. enough ending low n k x m (omega arith) (omega arith) (omega arith)) (low e w))))

    pub unique_mapped : (e : ℕ) (m : Builder) → 0 < get_or m.memo e 0 → import_initialiser o M follow xs e m ≡ m
    unfolding import_initialiser
    unique_mapped e m h = go (length xs)
      where
        go : (n : ℕ) → import_e o M follow xs (intern_expr o M follow xs) n e m ≡ m
        go zero = unfold import_e in refl
        go (suc n) = unfold import_e in once-mapped (get_or m.memo e 0) _ m h

    pub unique_new : Lower → (e : ℕ) (m : Builder) → e < length xs → get_or m.memo e 0 ≡ 0
        → import_initialiser o M follow xs e m ≡ intern_expr o M follow xs e (along o M follow (import_initialiser o M follow xs) (import_initialiser o M follow xs) (get_or xs e []) m)
    unfolding import_initialiser
    unique_new low e m w z =
        go (length xs) w (λ x h k. refl)
        ∙ ap (intern_expr o M follow xs e) (along_is o M follow (import_initialiser o M follow xs) (import_initialiser o M follow xs) (get_or xs e []) m)
      where
        go : (n : ℕ) → e < n → ((x : ℕ) → x < e → (k : Builder) → import_e o M follow xs (intern_expr o M follow xs) n x k ≡ import_initialiser o M follow xs x k)
            → import_e o M follow xs (intern_expr o M follow xs) n e m ≡ intern_expr o M follow xs e (fold_refs (refs (get_or xs e [])) (step o M follow (import_initialiser o M follow xs)) m)
        go zero l f = absurd (omega arith)
        go (suc n) l f = unfold import_e in (once-new (get_or m.memo e 0) _ m z ∙ ap (intern_expr o M follow xs e) (each_same (import_e o M follow xs (intern_expr o M follow xs) n) (import_initialiser o M follow xs) (refs (get_or xs e [])) m
            (lower-same (import_e o M follow xs (intern_expr o M follow xs) n) (import_initialiser o M follow xs) e (refs (get_or xs e [])) (λ x h k. enough (intern_expr o M follow xs) low n (suc n) x k (omega arith) (omega arith) (omega arith) ∙ f x h k) (low e w))))
