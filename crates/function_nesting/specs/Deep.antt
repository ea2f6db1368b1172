-- THE NESTED IMPORT by passes does what the model's does, by induction on the room for functions in progress: where callees have heights below it, each that is imported is imported alike, and its record can be read back and names what is derived.
use Prim.Native.Nat.{ℕ, zero, suc, ◌<◌, ◌≤◌}
use Rattle.std.specs.Prelude.{◌≡◌, refl}
use Rattle.std.proofs.Common.{ap₂, ◌∙◌, inl, inr, arith}
use Rattle.std.proofs.Math.Path.{sym}
use Rattle.std.proofs.Math.ListN.{length}
use Rattle.model.specs.Tree.{Function, flat}
use Rattle.model.specs.Module.{Module}
use Rattle.model.specs.Carry.{WellFormed}
use Rattle.model.specs.Intake.{Passes}
use Rattle.model.specs.Callees.{callees}
use Rattle.model.specs.Redirect.{function as function_at}
use Rattle.model.specs.Imports.{Derived}
use Rattle.model.specs.Bodies.{known, Builder, final, localized, appended, append, follow_f}
use Rattle.theory_bodies.specs.Context.{once_is, once_cong}
use Rattle.theory_bodies.specs.Lists.{All, all_map}
use Rattle.theory_bodies.specs.Passing as Bodies
use Rattle.theory_bodies.specs.Lawful as Lawful
use Rattle.theory_sessions.specs.Height.{Low, low_on}
use Rattle.theory_sessions.specs.Following.{From, from_refl, follows, source-passes}
use Rattle.theory_sessions.specs.Following as Following
use Rattle.derive_state.specs.Flats.{function_of}
use Rattle.function_nesting.specs.Nested.{final_s, cells_s, append_s, follow_s, ReadyF, Ready}
use Rattle.function_nesting.specs.Single.{ends_same, cells_same, function-same, ready-same}

-- a callee whose name is known imports nothing
follow-idle : (o : ℕ) (m : Module) (k n : ℕ) (s : Derived) → 0 < known m s n → follow_s o m k n s ≡ s
unfolding follow_s
follow-idle o m zero n s h = refl
follow-idle o m (suc k) n s h = once_is (λ r. r ≡ s) (known m s n) _ s (λ e. absurd (omega arith)) (λ e. refl)

-- what is shown of a callee, and of a function with its calls
pub record Brought (o : ℕ) (m : Module) (k n : ℕ) (s : Derived) : Type 0 where
  pub same : follow_s o m k n s ≡ follow_f k o m n s
  pub ready : Ready o m k n s

pub record Made (o : ℕ) (m : Module) (k : ℕ) (F : Function) (s : Derived) : Type 0 where
  pub ends : final_s o m (follow_s o m k) F s ≡ final o m (follow_f k o m) F s
  pub cells : cells_s o m (follow_s o m k) F s ≡ flat (localized o m (follow_f k o m) F s)
  pub function : function_of (cells_s o m (follow_s o m k) F s) ≡ localized o m (follow_f k o m) F s
  pub ready : ReadyF o m (Ready o m k) (follow_s o m k) F s

pub record Appended (o : ℕ) (m : Module) (k n : ℕ) (s : Derived) : Type 0 where
  pub same : append_s o m (follow_s o m k) n s ≡ append o m (follow_f k o m) n s
  pub ready : ReadyF o m (Ready o m k) (follow_s o m k) (function_at m n) s

appends : {o : ℕ} {m : Module} {k n : ℕ} {s : Derived} → Made o m k (function_at m n) s → Appended o m k n s
unfolding append_s append
appends p = record { same = ap₂ (λ (g : Function) (x : Builder). appended g x.out) p.function p.ends; ready = p.ready }

module _ (m : Module) (well : WellFormed m) (ok : Passes m) (o : ℕ) where
  -- ---- one function, where its callees are imported alike
  made_by : (d k : ℕ) → d ≤ k → (s : Derived) → From m s s → ((n : ℕ) (r : Derived) → Low d m s n → From m s r → Brought o m k n r) → (F : Function) → Bodies.Passes m F → All (λ n. Low d m s n) (callees F) → Made o m k F s
  made_by d k l s f ih F pass calls = record {
    ends = ends_same m well ok.numbers ok.lowers o (follow_f k o m) (follow_s o m k) (λ n. Low d m s n) (From m s) fol (λ n r q g. (ih n r q g).same) (follow-idle o m k) F pass calls s f;
    cells = cells_same m well ok.numbers ok.lowers o (follow_f k o m) (follow_s o m k) (λ n. Low d m s n) (From m s) fol (λ n r q g. (ih n r q g).same) (follow-idle o m k) F pass calls s f;
    function = function-same m well ok.numbers ok.lowers o (follow_f k o m) (follow_s o m k) (λ n. Low d m s n) (From m s) fol (λ n r q g. (ih n r q g).same) (follow-idle o m k) F pass calls s f;
    ready = ready-same m well ok.numbers ok.lowers o (follow_f k o m) (follow_s o m k) (λ n. Low d m s n) (From m s) fol (λ n r q g. (ih n r q g).same) (follow-idle o m k) F pass calls s f (Ready o m k) (λ n r q g. (ih n r q g).ready);
  }
    where
      fol : Lawful.Follows o m (follow_f k o m) (λ n. Low d m s n) (From m s)
      fol = follows m well ok o d k l s

  -- ---- a callee
  pub brought : (d k : ℕ) → d ≤ k → (a : Derived) (n : ℕ) (s : Derived) → Low d m a n → From m a s → Brought o m k n s
  unfolding follow_s follow_f Ready Low
  brought d zero l a n s q f = record { same = refl; ready = tt }
  brought zero (suc k) l a n s q f =
      let h : 0 < known m s n = rw (f.knows n q) q in
      record { same = follow-idle o m (suc k) n s h ∙ sym (Following.follow-idle m well ok o (suc k) s n h); ready = λ z. absurd (omega arith) }
  brought (suc d) (suc k) l a n s q f =
      let ih : (j : ℕ) (r : Derived) → Low d m s j → From m s r → Brought o m k j r = λ j r q g. brought d k (omega arith) s j r q g in
      record { same = once_cong (known m s n) _ _ s (λ z. (new ih (side z q)).same); ready = λ z. (new ih (side z q)).ready }
    where
      side : known m s n ≡ 0 → Low (suc d) m a n → (n < length m.functions) × All (λ j. Low d m a j) (callees (function_at m n))
      side z (inl h) = absurd (let e = f.knows n h in omega arith)
      side z (inr w) = w

      new : ((j : ℕ) (r : Derived) → Low d m s j → From m s r → Brought o m k j r) → (n < length m.functions) × All (λ j. Low d m a j) (callees (function_at m n)) → Appended o m k n s
      new ih w = appends (made_by d k (omega arith) s (from_refl f) ih (function_at m n) (source-passes m well ok o n w.0) (all_map (callees (function_at m n)) (λ j. low_on d m a s (λ x h. rw (f.knows x h) h) j) w.1))

  -- ---- a function with its calls
  pub made : (d k : ℕ) → d ≤ k → (s : Derived) → From m s s → (F : Function) → Bodies.Passes m F → All (λ n. Low d m s n) (callees F) → Made o m k F s
  made d k l s f = made_by d k l s f (λ n r q g. brought d k l s n r q g)

  pub appended-alike : (d k : ℕ) → d ≤ k → (s : Derived) → From m s s → (n : ℕ) → n < length m.functions → All (λ j. Low d m s j) (callees (function_at m n)) → Appended o m k n s
  appended-alike d k l s f n h calls = appends (made d k l s f (function_at m n) (source-passes m well ok o n h) calls)
