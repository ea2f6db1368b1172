-- The tests in sequence: the first that fails gives the number.
use mathlib.Core.Path.{◌≡◌, refl, sym, ap, ◌∙◌}
use mathlib.Core.Bool.{Bool, true, false, not}
use mathlib.Core.List.{List}
use Prim.Native.Nat.{ℕ}
use native.Mathlib.Omega.{arith}
use lib.ListN.{length}
use borrow.Author.Tests.{not-true, not-false}
use Rattle.base_words.specs.Words.{words_of}
use Rattle.model.specs.Module.{Module}
use Rattle.model.specs.Taped.{Taped, Tape}
use Rattle.model.specs.Numbers.{numbered}
use Rattle.model.specs.Lower.{lower}
use Rattle.model.specs.Names.{named, Numbered}
use Rattle.model.specs.Scope.{in_scope}
use Rattle.model.specs.Intake.{tested, verdict, intake_of, Passes}
use Rattle.intake_numbers.specs.Passes.{TestEnsures}
use Rattle.intake_scope.specs.Functions.{InRange}
use Rattle.intake_layout.specs.Layout.{LayOutEnsures}
use Rattle.intake_layout.proofs.Held.{HoldsImage, holds, refused_by}
use Rattle.model.specs.Image.{wuldgisp_intake, IntakeEnsures}
use Rattle.intake.specs.Taken.{number_of, Tested, TakeInEnsures}
use Rattle.std.specs.Prelude.{Result, Ok, Err}
use Rattle.base_refusals.specs.declared.Refusal.{Refusal}
use Rattle.base_refusals.specs.declared.Refusal.TheVariants.{BadRange, BadReference, BadNames, BadScope}
use Rattle.intake.proofs.Few.{numbers_few}

-- a test of the module that words and tags hold
abbrev pub Of : List ℕ → List ℕ → ℕ → Bool → (Module → Bool) → Type 0
Of words tags n b f = (m : Module) → Taped words tags n m → b ≡ f m

module _ (words tags : List ℕ) (n : ℕ) where
  module _ (b₃ : Bool) (t₃ : TestEnsures b₃ words tags n numbered) where
    pub number_fails : not b₃ ≡ true → Tested (Err BadRange) words tags n
    unfolding tested
    number_fails e = record { passed = λ q. cc; failed = λ d q m t. let z : d ≡ BadRange = cc in rw z (rw (tested, sym (t₃.same m t) ∙ not-true b₃ e)) }

    module _ (y₃ : not b₃ ≡ false) where
      first : (m : Module) → Taped words tags n m → numbered m ≡ true
      first m t = sym (t₃.same m t) ∙ not-false b₃ y₃

      pub names_ready : Tape words tags n → Numbered words tags n
      names_ready h = record { holds = h.holds; taped = h.taped; few = numbers_few h.holds h.taped.well (first h.holds h.taped) }

      pub numbers_right : (m : Module) → Taped words tags n m → numbered m ≡ true
      numbers_right = first

      pub scope_ready : InRange words tags n
      scope_ready = record { holds = first }

      module _ (b₄ : Bool) (t₄ : Of words tags n b₄ lower) where
        pub order_fails : not b₄ ≡ true → Tested (Err BadReference) words tags n
        unfolding tested
        order_fails e = record { passed = λ q. cc; failed = λ d q m t. let z : d ≡ BadReference = cc in rw z (rw (tested, first m t, sym (t₄ m t) ∙ not-true b₄ e)) }

        module _ (y₄ : not b₄ ≡ false) where
          second : (m : Module) → Taped words tags n m → lower m ≡ true
          second m t = sym (t₄ m t) ∙ not-false b₄ y₄

          pub lowers_right : (m : Module) → Taped words tags n m → lower m ≡ true
          lowers_right = second

          module _ (b₅ : Bool) (t₅ : Of words tags n b₅ named) where
            pub name_fails : not b₅ ≡ true → Tested (Err BadNames) words tags n
            unfolding tested
            name_fails e = record { passed = λ q. cc; failed = λ d q m t. let z : d ≡ BadNames = cc in rw z (rw (tested, first m t, second m t, sym (t₅ m t) ∙ not-true b₅ e)) }

            module _ (y₅ : not b₅ ≡ false) where
              third : (m : Module) → Taped words tags n m → named m ≡ true
              third m t = sym (t₅ m t) ∙ not-false b₅ y₅

              module _ (b₆ : Bool) (t₆ : TestEnsures b₆ words tags n in_scope) where
                pub scope_fails : not b₆ ≡ true → Tested (Err BadScope) words tags n
                unfolding tested
                scope_fails e = record { passed = λ q. cc; failed = λ d q m t. let z : d ≡ BadScope = cc in rw z (rw (tested, first m t, second m t, third m t, sym (t₆.same m t) ∙ not-true b₆ e)) }

                pub all_pass : not b₆ ≡ false → Tested (Ok tt) words tags n
                unfolding tested
                all_pass e = record { passed = λ q m t. sym (rw (tested, first m t, second m t, third m t, sym (t₆.same m t) ∙ not-false b₆ e)); failed = λ d q. cc }

-- ---- what passes
pub passes : (m : Module) → tested m ≡ 0 → Passes m
unfolding tested
passes m h = go (numbered m) refl (lower m) refl (named m) refl (in_scope m) refl h
  where
    go : (a : Bool) → numbered m ≡ a → (b : Bool) → lower m ≡ b → (c : Bool) → named m ≡ c → (d : Bool) → in_scope m ≡ d → ◌≡◌ {A = ℕ} (elim a [ true ↦ elim b [ true ↦ elim c [ true ↦ elim d [ true ↦ 0 | false ↦ 6 ] | false ↦ 5 ] | false ↦ 4 ] | false ↦ 3 ]) 0 → Passes m
    go true a true b true c true d h = record { numbers = a; lowers = b; names = c; scope = d }
    go true a true b true c false d h = absurd (omega arith)
    go true a true b false c d e h = absurd (omega arith)
    go true a false b c e d f h = absurd (omega arith)
    go false a b e c f d g h = absurd (omega arith)

-- ---- from bytes
module _ (bytes words tags words₁ tags₁ : List ℕ) (words_long : length words ≡ 16384) (tags_long : length tags ≡ 16384) where
  pub not_laid : (e : Refusal) → LayOutEnsures (Err e) words₁ tags₁ bytes words tags → TakeInEnsures (Err e) words₁ tags₁ bytes
  not_laid e got = record { same = refused_by bytes words tags words₁ tags₁ 0 words_long tags_long e got; held = λ n q. cc }

  module _ (n : ℕ) (got : LayOutEnsures (Ok n) words₁ tags₁ bytes words tags) where
    held_so : HoldsImage bytes words₁ tags₁ n
    held_so = holds bytes words tags words₁ tags₁ n words_long tags_long got

    pub tape_so : Tape words₁ tags₁ n
    tape_so = record { holds = held_so.module_of_lem; taped = held_so.taped }

    passed_so : 0 ≡ tested held_so.module_of_lem → TakeInEnsures (Ok n) words₁ tags₁ bytes
    unfolding intake_of verdict
    passed_so s = record {
      same = s ∙ sym (rw (intake_of, held_so.sized_right, held_so.reads));
      held = λ k g. let i : k ≡ n = cc in record {
        holds = held_so.module_of_lem;
        sized_right = held_so.sized_right;
        reads = held_so.reads;
        long = i ∙ held_so.long;
        taped = rw i held_so.taped;
        passes = passes held_so.module_of_lem (sym s);
      };
    }

    pub all_passed : Tested (Ok tt) words₁ tags₁ n → TakeInEnsures (Ok n) words₁ tags₁ bytes
    all_passed t = passed_so (t.passed refl held_so.module_of_lem held_so.taped)

    pub one_failed : (e : Refusal) → Tested (Err e) words₁ tags₁ n → TakeInEnsures (Err e) words₁ tags₁ bytes
    unfolding intake_of verdict
    one_failed e t = record {
      same = t.failed e refl held_so.module_of_lem held_so.taped ∙ sym (rw (intake_of, held_so.sized_right, held_so.reads));
      held = λ k g. cc;
    }

pub answer_so : (bytes words tags : List ℕ) (q : Result ℕ Refusal) → TakeInEnsures q words tags bytes → IntakeEnsures (number_of q) bytes
unfolding wuldgisp_intake
answer_so bytes words tags q t = record { answer = t.same }

pub many_so : (bytes words tags : List ℕ) (q : Result ℕ Refusal) → TakeInEnsures q words tags bytes → (n : ℕ) → q ≡ Ok n → n ≡ length (words_of bytes)
many_so bytes words tags q t n e = (t.held n e).long
