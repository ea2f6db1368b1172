-- A FUNCTION IN OUTPUT ORDER: what the import of a body requires of callees (`Follows` of the crate theory_bodies) holds of those that it calls, since each of them is known. So what is derived is well formed, in range and no longer than its source.
use Rattle.std.specs.Prelude.{◌≡◌, refl, List, [], ◌∷◌, ◌++◌, ℕ, ◌<◌, length}
use Rattle.std.proofs.Common.{◌∙◌, arith}
use Rattle.std.proofs.Math.Option.{some}
use Rattle.std.proofs.Math.Nat.{le_refl}
use Rattle.std.proofs.Math.ListN.{get_elem?, length-append}
use Rattle.theory_lists.specs.Lists.{looked_at}
use Rattle.model.specs.Tree.{Function}
use Rattle.model.specs.Module.{Module}
use Rattle.model.specs.Carry.{Each, each_none, each_next, WellFormed}
use Rattle.model.specs.Intake.{Passes}
use Rattle.model.specs.Calls.{Call, here, ordered}
use Rattle.model.specs.Callees.{callees, calls, order_of}
use Rattle.model.specs.Redirect.{nothing, function as function_at}
use Rattle.model.specs.Tables.{tables}
use Rattle.model.specs.Imports.{Derived, fresh}
use Rattle.model.specs.Bodies.{known, final, localized, appended, append, follow}
use Rattle.model.specs.Finish.{gathered}
use Rattle.theory_order.specs.Lists.{in_right}
use Rattle.theory_order.specs.Numbered.{numbered-known}
use Rattle.theory_records.specs.Trace.{Keeps}
use Rattle.theory_bodies.specs.Context.{grown_refl}
use Rattle.theory_bodies.specs.Lists.{All}
use Rattle.theory_bodies.specs.Passing as Bodies
use Rattle.theory_bodies.specs.Lawful as Lawful
use Rattle.theory_bodies.specs.Source.{function-passes}
use Rattle.theory_bodies.specs.Theorems as Theorems
use Rattle.theory_finish.specs.Fresh.{state_at}
use Rattle.theory_finish.specs.Ringless.{low}
use Rattle.theory_finish.specs.Known as Known
use Rattle.theory_finish.specs.Output.{follows_keeping, source_follows, all-follow, bears_kept, follow-idle, callees-known}
use Rattle.theory_finish.specs.Alone.{called}
use Rattle.theory_finish.specs.Counting.{Made, type_functions}

pub all_of_each : {P : ℕ → Type 0} {js : List ℕ} → Each P js → All P js
all_of_each each_none = tt
all_of_each (each_next p ps) = (p, all_of_each ps)

-- what stays as it was is no matter
pub keeps_self : (s : Derived) → Keeps s s
unfolding Keeps
keeps_self s t n h = refl

-- the state while callees are known, from a on
pub record Going (m : Module) (a s : Derived) : Type 0 where
  pub good : Lawful.Good m s
  pub after : Known.Follows (tables m) a s
  pub same : s.functions ≡ a.functions

module _ (m : Module) (well : WellFormed m) (ok : Passes m) where
  -- where all of Q are known whatever follows, following them does nothing
  pub idle_follows : (a : Derived) (Q : ℕ → Type 0) → ((j : ℕ) (s : Derived) → Q j → Known.Follows (tables m) a s → 0 < known m s j) → Lawful.Follows 0 m (follow 0 m) Q (Going m a)
  idle_follows a Q knows = record {
    is_good = λ s g. g.good;
    imports = λ t n s h g. record {
      good = Lawful.import_good m well ok.numbers ok.lowers 0 t n s h g.good;
      after = (follows_keeping m well ok.numbers ok.lowers 0 a).imports t n s h g.after;
      same = type_functions 0 (tables m) t n s ∙ g.same;
    };
    good = λ j s q g. rw (stays j s q g) g;
    maps = λ j s q g. rw (stays j s q g) (knows j s q g.after);
    keeps = λ j s q g. rw (stays j s q g) (keeps_self s);
    knows = λ j s q g k h. rw (stays j s q g);
    idle = λ j s h. follow-idle m well ok.numbers ok.lowers 0 s j h;
    grown = λ j s q g. rw (stays j s q g) (grown_refl s);
  }
    where
      stays : (j : ℕ) (s : Derived) → Q j → Going m a s → follow 0 m j s ≡ s
      stays j s q g = follow-idle m well ok.numbers ok.lowers 0 s j (knows j s q g.after)

  module _ (os : List ℕ) (e : order_of m ≡ ordered os) where
    abbrev pub Called : ℕ → ℕ → Type 0
    Called i = Call (length m.functions) (calls m) i

    -- function i, when its turn comes
    module _ (xs ys : List ℕ) (i : ℕ) (q : os ≡ xs ++ (i ∷ ys)) where
      abbrev a : Derived
      a = state_at m xs

      abbrev F : Function
      F = function_at m i

      l : i < length m.functions
      l = low m os e i (rw q (in_right xs here))

      pub at_i : get_elem? m.functions i ≡ some F
      unfolding function_at
      at_i = looked_at m.functions i nothing l

      pub pass : Bodies.Passes m F
      pass = function-passes m well ok.numbers ok.lowers ok.scope i F at_i

      pub calls-all : All (Called i) (callees F)
      calls-all = all_of_each (called m (numbered-known m well ok.numbers) i l)

      -- what it calls is known, whatever follows
      pub callee_known : (j : ℕ) (s : Derived) → Called i j → Known.Follows (tables m) a s → 0 < known m s j
      callee_known j s c f = (bears_kept m well ok.numbers ok.lowers 0 j f (callees-known m well ok.numbers ok.lowers ok.names os e fresh xs ys i j q c)).found

      pub follows : Lawful.Follows 0 m (follow 0 m) (Called i) (Going m a)
      follows = idle_follows a (Called i) callee_known

      pub start : Lawful.Good m a → Going m a a
      start g = record { good = g; after = Known.follows_refl (all-follow m well ok.numbers ok.lowers 0 _ xs _ (source_follows m well ok.numbers ok.lowers ok.names os e fresh)); same = refl }

      module _ (g : Lawful.Good m a) where
        abbrev D : Module
        D = gathered (append 0 m (follow 0 m) i a) []

        pub ends : Going m a (final 0 m (follow 0 m) F a).out
        ends = Theorems.out_good m well ok.numbers ok.lowers 0 (follow 0 m) (Called i) (Going m a) follows F pass calls-all a (start g)

        pub again : Bodies.Passes D (localized 0 m (follow 0 m) F a)
        unfolding tables gathered append appended
        again = Theorems.passes-again m well ok.numbers ok.lowers 0 (follow 0 m) (Called i) (Going m a) follows F pass calls-all a (start g) D (λ t. le_refl _) (simp length-append (omega arith))

        pub made_one : Made m a i
        made_one = record {
          alone = ends.same;
          well = again.well;
          short = Theorems.words_fewer m well ok.numbers ok.lowers 0 (follow 0 m) (Called i) (Going m a) follows F pass calls-all a (start g);
          sound = again.three;
        }
