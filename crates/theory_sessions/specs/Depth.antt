-- THE BOUND ON NESTING PLAYS NO PART where 22 is not met: any bound that is no less than the number of functions of unknown name does what `follow` does, and `follow` is what a reader expects: of a known name nothing, of another the import of that function, whose calls are followed in the same way.
use Rattle.std.specs.Prelude.{◌≡◌, false, [], ◌∷◌, length}
use Rattle.std.proofs.Math.Path.{sym, ap₂}
use Rattle.std.proofs.Common.{◌∙◌, inl, inr, not-suc-le-zero, arith}
use Prim.Native.Nat.{ℕ, zero, suc, ◌<◌, ◌≤◌}
use Rattle.model.specs.Tree.{Function}
use Rattle.model.specs.Module.{Module}
use Rattle.model.specs.Carry.{WellFormed}
use Rattle.model.specs.Intake.{Passes}
use Rattle.model.specs.Calls.{here}
use Rattle.model.specs.Callees.{callees}
use Rattle.model.specs.Redirect.{function as function_at}
use Rattle.model.specs.Tables.{tables}
use Rattle.model.specs.Imports.{Derived, unless_mapped}
use Rattle.model.specs.Bodies.{known, Builder, final, localized, appended, append, follow_f, follow}
use Rattle.model.specs.Session.{meets_ring}
use Rattle.theory_bodies.specs.Context.{Law, once_cong}
use Rattle.theory_bodies.specs.Lists.{All}
use Rattle.theory_bodies.specs.Passing as Bodies
use Rattle.theory_bodies.specs.Lawful as Lawful
use Rattle.theory_sessions.specs.Height.{Low, low_on, unknowns, ringless}
use Rattle.theory_sessions.specs.Following.{From, from_refl, Holds, holds_from, follow-idle, follows, source-passes}
use Rattle.theory_sessions.specs.Alike.{final-same, localized-same}
use Rattle.theory_sessions.specs.Holding.{few, callees_low}

module _ (m : Module) (well : WellFormed m) (ok : Passes m) (o : ℕ) where
  -- one function, where its callees are followed alike
  append-same : (d k k' : ℕ) → d ≤ k → (s : Derived) → From m s s → (n : ℕ) → n < length m.functions → All (λ j. Low d m s j) (callees (function_at m n))
      → ((j : ℕ) (r : Derived) → Low d m s j → From m s r → follow_f k' o m j r ≡ follow_f k o m j r) → append o m (follow_f k' o m) n s ≡ append o m (follow_f k o m) n s
  unfolding append
  append-same d k k' l s f n h calls same = ap₂ (λ (g : Function) (x : Builder). appended g x.out) alike ends
    where
      Q : ℕ → Type 0
      Q j = Low d m s j

      law : Law o m (follow_f k o m) Q (From m s)
      law = Lawful.lawful m well ok.numbers ok.lowers o (follow_f k o m) Q (From m s) (follows m well ok o d k l s)

      pass : Bodies.Passes m (function_at m n)
      pass = source-passes m well ok o n h

      ends : final o m (follow_f k' o m) (function_at m n) s ≡ final o m (follow_f k o m) (function_at m n) s
      ends = final-same o m (follow_f k o m) (follow_f k' o m) Q (From m s) law (function_at m n) (Bodies.fine o m (follow_f k o m) Q (From m s) law (function_at m n) pass calls) (Bodies.mentions_may o m (follow_f k o m) Q (From m s) law (function_at m n) pass calls) same s f

      alike : localized o m (follow_f k' o m) (function_at m n) s ≡ localized o m (follow_f k o m) (function_at m n) s
      alike = localized-same o m (follow_f k o m) (follow_f k' o m) Q (From m s) law (function_at m n) (Bodies.fine o m (follow_f k o m) Q (From m s) law (function_at m n) pass calls) (Bodies.mentions_may o m (follow_f k o m) Q (From m s) law (function_at m n) pass calls) same s f

  depth_same : (d k k' : ℕ) → d ≤ k → d ≤ k' → (s : Derived) → From m s s → (n : ℕ) → Low d m s n → follow_f k' o m n s ≡ follow_f k o m n s
  unfolding follow_f Low
  depth_same zero k k' l l' s f n h = follow-idle m well ok o k' s n h ∙ sym (follow-idle m well ok o k s n h)
  depth_same (suc d) zero k' l l' s f n h = absurd (not-suc-le-zero l)
  depth_same (suc d) (suc k) zero l l' s f n h = absurd (not-suc-le-zero l')
  depth_same (suc d) (suc k) (suc k') l l' s f n h = once_cong (known m s n) _ _ s (λ z. new z h (λ r g j. depth_same d k k' (omega arith) (omega arith) r g j))
    where
      new : known m s n ≡ 0 → Low (suc d) m s n → ((r : Derived) → From m r r → (j : ℕ) → Low d m r j → follow_f k' o m j r ≡ follow_f k o m j r) → append o m (follow_f k' o m) n s ≡ append o m (follow_f k o m) n s
      new z (inl w) ih = absurd (omega arith)
      new z (inr w) ih = append-same d k k' (omega arith) s f n w.0 w.1 (λ j r q g. ih r (from_refl g) j (low_on d m s r (λ x y. rw (g.knows x y) y) j q))

  module _ (s : Derived) (h : Holds (tables m) s) (n : ℕ) (l : n < length m.functions) (free : meets_ring (n ∷ []) m s ≡ false) where
    -- ANY BOUND that is no less than the number of unknown names
    pub fuel_removed : (k : ℕ) → unknowns m s ≤ k → follow_f k o m n s ≡ follow o m n s
    unfolding follow
    fuel_removed k g = depth_same (unknowns m s) (length m.functions) k (few m well ok o s) g s (holds_from h) n (ringless m well ok.numbers s (n ∷ []) free n here l)

    -- THE EQUATION without it
    pub follow_is : follow o m n s ≡ unless_mapped (known m s n) (λ z. append o m (follow o m) n s) s
    unfolding follow follow_f
    follow_is = depth_same (unknowns m s) (suc (length m.functions)) (length m.functions) (omega (arith, few m well ok o s)) (few m well ok o s) s (holds_from h) n (ringless m well ok.numbers s (n ∷ []) free n here l)

  -- the same of import_function, which appends whether the name is known or not
  pub function_fuel : (s : Derived) → Holds (tables m) s → (n : ℕ) → n < length m.functions → meets_ring (n ∷ callees (function_at m n)) m s ≡ false → (k : ℕ) → unknowns m s ≤ k → append o m (follow_f k o m) n s ≡ append o m (follow o m) n s
  unfolding follow
  function_fuel s h n l free k g =
      append-same (unknowns m s) (length m.functions) k (few m well ok o s) s (holds_from h) n l (callees_low m well ok o s n l free)
      (λ j r q f. depth_same (unknowns m s) (length m.functions) k (few m well ok o s) g r (from_refl f) j (low_on (unknowns m s) m s r (λ x y. rw (f.knows x y) y) j q))
