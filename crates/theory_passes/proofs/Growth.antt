-- The passes only add: whatever relation between the builder before and after holds of each single step (a record of a table, a callee, an expression appended or merged) holds of every pass. So what is too large at some cell is too large in the end. Assumes nothing of the source.
use Rattle.std.specs.Prelude.{◌≡◌, refl, Bool, eqb, get_or, set}
use Rattle.std.proofs.Common.{◌∙◌}
use Rattle.std.proofs.Math.Bool.{true, false}
use mathlib.Core.List.{List, [], ◌∷◌, ◌++◌}
use Prim.Native.Nat.{ℕ, zero, suc, ◌+◌, ◌≤◌}
use native.Mathlib.Omega.{arith}
use Rattle.std.proofs.Math.Nat.{le_refl, le_trans}
use Rattle.std.proofs.Math.ListN.{length, length-append, length-set}
use Rattle.model.specs.Outcome.{Cell, Cells, class, word}
use Rattle.model.specs.Table.{FROM, STMT_KIND, NAME}
use Rattle.model.specs.Tree.{flat_all}
use Rattle.model.specs.Module.{Module}
use Rattle.model.specs.Tables.{Tab, tables}
use Rattle.model.specs.References.{Place, table, own, function, Target, copied, start, upto, ref, opt, target, Node, refs, fold_refs, first_word, alike, interned}
use Rattle.model.specs.Operands.{standing}
use Rattle.model.specs.Scope.{in_range}
use Rattle.model.specs.Imports.{Derived, unless_mapped, import_t}
use Rattle.model.specs.Bodies.{Builder, bring, carried, step, compares_of, each_e, append_expr, intern_expr, import_e, import_initialiser}
use Rattle.theory_records.specs.RecordLaws.{kept, kept_in, kept_longer}
use Rattle.theory_bodies.specs.Context.{once_is}
use Rattle.theory_bodies.specs.Shallow.{need, peek, glance}
use Rattle.theory_passes.specs.Pass.{atomic_kind, arrive, first, both, early, passed, after, named}

module _ (o : ℕ) (M : Module) (follow : ℕ → Derived → Derived) (xs : List Cells) where
  -- a relation that each single step keeps
  pub record Growing (R : Builder → Builder → Type 0) : Type 0 where
    pub same : (m : Builder) → R m m
    pub next : (a b c : Builder) → R a b → R b c → R a c
    pub tables : (t : Tab) (n : ℕ) (m : Builder) → R m (bring (import_t o (tables M) t n) m)
    pub functions : (f : ℕ) (m : Builder) → R m (bring (follow f) m)
    pub appends : (e : ℕ) (m : Builder) → R m (append_expr o M follow xs e m)
    pub merges : (e : ℕ) (m : Builder) → R m (intern_expr o M follow xs e m)

  module _ (R : Builder → Builder → Type 0) (g : Growing R) where
    abbrev Grows : (Builder → Builder) → Type 0
    Grows f = (m : Builder) → R m (f m)

    chain : (f h : Builder → Builder) → Grows f → Grows h → Grows (λ m. h (f m))
    chain f h a b m = g.next m (f m) (h (f m)) (a m) (b (f m))

    when : (v : ℕ) (k : ℕ → Builder) (m : Builder) → R m (k 0) → R m (unless_mapped v k m)
    when v k m h = once_is (R m) v k m (λ z. h) (λ z. g.same m)

    -- ---- p imports an expression, q is a first pass
    module _ (p : ℕ → Builder → Builder) (a : (e : ℕ) → Grows (p e)) where
      grow_step : (s : Place) (n : ℕ) → Grows (step o M follow p s n)
      unfolding step
      grow_step (table t) n m = g.tables t n m
      grow_step own n m = a n m
      grow_step function n m = g.functions n m

      grow_each : (js : List Node) → Grows (fold_refs js (step o M follow p))
      unfolding fold_refs
      grow_each [] m = g.same m
      grow_each (j ∷ js) m = g.next m _ _ (grow_step j.place j.num m) (grow_each js (step o M follow p j.place j.num m))

      pub grow_all : (es : List ℕ) → Grows (each_e es p)
      unfolding each_e
      grow_all [] m = g.same m
      grow_all (e ∷ es) m = g.next m _ _ (a e m) (grow_all es (p e m))

      module _ (q : ℕ → Builder → Builder) (b : (es : List ℕ) → Grows (each_e es q)) where
        pub grow_arrive : (t : Target) (w : ℕ) → Grows (arrive o M follow p q t w)
        unfolding arrive
        grow_arrive copied w m = g.same m
        grow_arrive start w m = g.same m
        grow_arrive upto w m = g.same m
        grow_arrive (ref s) w m = grow_step s w m
        grow_arrive (opt s) zero m = g.same m
        grow_arrive (opt s) (suc n) m = grow_step s n m

        pub grow_passed : (c : Cell) (cs : Cells) → Grows (passed o M follow p q c cs)
        unfolding passed
        grow_passed c cs m = go (eqb (class c) FROM) (eqb (class c) STMT_KIND)
          where
            kinds : (x : Bool) → R m (elim x [ true ↦ each_e (compares_of cs) p m | false ↦ m ])
            kinds true = grow_all (compares_of cs) m
            kinds false = g.same m

            go : (x y : Bool) → R m (elim x [ true ↦ both o M follow p q (word c) (first_word cs) m | false ↦ elim y [ true ↦ early o M follow p q (word c) cs m | false ↦ arrive o M follow p q (target (class c)) (word c) m ] ])
            go true y = unfold both first in chain (each_e (in_range (record { from = word c; to = first_word cs })) q) (each_e (in_range (record { from = word c; to = first_word cs })) p) (b _) (grow_all _) m
            go false true = unfold early in kinds (atomic_kind (word c))
            go false false = grow_arrive (target (class c)) (word c) m

        -- from any cell on
        pub grow_after : (cs : Cells) → Grows (after o M follow p q cs)
        unfolding after
        grow_after [] m = g.same m
        grow_after (c ∷ cs) m = g.next m _ _ (grow_passed c cs m) (grow_after cs (passed o M follow p q c cs m))

        pub grow_named : (ks : List (ℕ × ℕ)) → Grows (named o M follow p q ks)
        unfolding named
        grow_named [] m = g.same m
        grow_named (k ∷ ks) m = g.next m _ _ (grow_arrive (target NAME) k.1 m) (grow_named ks _)

    -- ---- one expression
    pub grow_need : (e : ℕ) → Grows (need o M follow xs e)
    unfolding need
    grow_need e m = when (get_or m.memo e 0) _ m (g.next m _ _ (grow_each (λ x m. m) (λ e m. g.same m) (refs (get_or xs e [])) m) (g.appends e _))

    pub grow_peek : (e : ℕ) → Grows (peek o M follow xs e)
    unfolding peek
    grow_peek e m = go (standing xs e)
      where
        go : (b : Bool) → R m (elim b [ true ↦ need o M follow xs e m | false ↦ m ])
        go true = grow_need e m
        go false = g.same m

    pub grow_glance : (e : ℕ) → Grows (glance o M follow xs e)
    unfolding glance
    grow_glance e m = when (get_or m.memo e 0) _ m (grow_each (peek o M follow xs) grow_peek (refs (get_or xs e [])) m)

    grow_levels : (n e : ℕ) → Grows (import_e o M follow xs (intern_expr o M follow xs) n e)
    unfolding import_e
    grow_levels zero e m = g.same m
    grow_levels (suc n) e m = when (get_or m.memo e 0) _ m (g.next m _ _ (grow_each (import_e o M follow xs (intern_expr o M follow xs) n) (λ e m. grow_levels n e m) (refs (get_or xs e [])) m) (g.merges e _))

    pub grow_unique : (e : ℕ) → Grows (import_initialiser o M follow xs e)
    unfolding import_initialiser
    grow_unique e m = grow_levels (length xs) e m

    -- ---- the passes, from any cell on
    pub grow_front : (cs : Cells) → Grows (after o M follow (import_initialiser o M follow xs) (import_initialiser o M follow xs) cs)
    grow_front cs m = grow_after (import_initialiser o M follow xs) grow_unique (import_initialiser o M follow xs) (grow_all (import_initialiser o M follow xs) grow_unique) cs m

    pub grow_body : (cs : Cells) → Grows (after o M follow (need o M follow xs) (glance o M follow xs) cs)
    grow_body cs m = grow_after (need o M follow xs) grow_need (glance o M follow xs) (grow_all (glance o M follow xs) grow_glance) cs m

    pub grow_names : (ks : List (ℕ × ℕ)) → Grows (named o M follow (need o M follow xs) (glance o M follow xs) ks)
    grow_names ks m = grow_named (need o M follow xs) grow_need (glance o M follow xs) (grow_all (glance o M follow xs) grow_glance) ks m

  -- ---- the expressions made, by number and by words
  pub record Longer (m m' : Builder) : Type 0 where
    pub many : length m.made ≤ length m'.made
    pub long : length (flat_all m.made) ≤ length (flat_all m'.made)

  flat_append : (a b : List Cells) → length (flat_all (a ++ b)) ≡ length (flat_all a) + length (flat_all b)
  unfolding flat_all
  flat_append [] b = omega arith
  flat_append (r ∷ a) b = omega (arith, flat_append a b, length-append r (flat_all (a ++ b)), length-append r (flat_all a))

  merged_longer : (ds : List Cells) (r : Cells) → (length ds ≤ length (interned ds r)) × (length (flat_all ds) ≤ length (flat_all (interned ds r)))
  unfolding interned flat_all
  merged_longer [] r = (omega arith, omega arith)
  merged_longer (d ∷ ds) r = go (alike d r) (merged_longer ds r)
    where
      go : (b : Bool) → (length ds ≤ length (interned ds r)) × (length (flat_all ds) ≤ length (flat_all (interned ds r)))
          → (suc (length ds) ≤ length {A = Cells} (elim b [ true ↦ d ∷ ds | false ↦ d ∷ interned ds r ])) × (length (d ++ flat_all ds) ≤ length (flat_all (elim b [ true ↦ d ∷ ds | false ↦ d ∷ interned ds r ])))
      go true h = (le_refl _, le_refl _)
      go false h = let x = h.0 in let y = h.1 in (omega arith, omega (arith, length-append d (flat_all ds), length-append d (flat_all (interned ds r))))

  pub longer : Growing Longer
  unfolding bring append_expr intern_expr
  longer = record {
    same = λ m. record { many = le_refl _; long = le_refl _ };
    next = λ a b c p q. record { many = le_trans p.many q.many; long = le_trans p.long q.long };
    tables = λ t n m. record { many = le_refl _; long = le_refl _ };
    functions = λ f m. record { many = le_refl _; long = le_refl _ };
    appends = λ e m. let r = carried o M m (get_or xs e []) in record { many = omega (arith, length-append m.made (r ∷ [])); long = omega (arith, flat_append m.made (r ∷ [])) };
    merges = λ e m. let z = merged_longer m.made (carried o M m (get_or xs e [])) in record { many = z.0; long = z.1 };
  }

  -- ---- the memo keeps its length, and sends to what is made
  pub record Placed (m : Builder) : Type 0 where
    pub within : (e : ℕ) → get_or m.memo e 0 ≤ length m.made

  pub record Stays (m m' : Builder) : Type 0 where
    pub long : length m'.memo ≡ length m.memo
    pub places : Placed m → Placed m'

  set-within : (ms : List ℕ) (e v n : ℕ) → ((y : ℕ) → get_or ms y 0 ≤ n) → v ≤ n → (y : ℕ) → get_or (set ms e v) y 0 ≤ n
  set-within [] e v n h l y = h y
  set-within (m ∷ ms) zero v n h l zero = l
  set-within (m ∷ ms) zero v n h l (suc y) = h (suc y)
  set-within (m ∷ ms) (suc e) v n h l zero = h zero
  set-within (m ∷ ms) (suc e) v n h l (suc y) = set-within ms e v n (λ y. h (suc y)) l y

  pub stays : Growing Stays
  unfolding bring append_expr intern_expr
  stays = record {
    same = λ m. record { long = refl; places = λ h. h };
    next = λ a b c p q. record { long = q.long ∙ p.long; places = λ h. q.places (p.places h) };
    tables = λ t n m. record { long = refl; places = λ h. record { within = h.within } };
    functions = λ f m. record { long = refl; places = λ h. record { within = h.within } };
    appends = λ e m.
        let r = carried o M m (get_or xs e []) in
        let z = length-append m.made (r ∷ []) in
        record { long = length-set m.memo e _; places = λ h. record { within = set-within m.memo e _ (length (m.made ++ (r ∷ []))) (λ y. omega (arith, h.within y, z)) (omega (arith, z)) } };
    merges = λ e m.
        let r = carried o M m (get_or xs e []) in
        let k = kept r m.made in
        record { long = length-set m.memo e _; places = λ h. record { within = set-within m.memo e _ (length (interned m.made r)) (λ y. le_trans (h.within y) (kept_longer k)) (kept_in k) } };
  }
