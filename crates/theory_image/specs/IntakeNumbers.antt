-- INTAKE ANSWERS 0 TO 6: nothing but the numbers of its six tests, for any words.
use Rattle.std.specs.Prelude.{Bool, true, false, List, ℕ, ◌≤◌}
use native.Mathlib.Omega.{arith}
use Rattle.model.specs.Outcome.{Laid, laid, bad, strange}
use Rattle.model.specs.Module.{Module, read, sized}
use Rattle.model.specs.Numbers.{numbered}
use Rattle.model.specs.Lower.{lower}
use Rattle.model.specs.Names.{named}
use Rattle.model.specs.Scope.{in_scope}
use Rattle.model.specs.Intake.{tested, verdict, intake_of}

tested_low : (m : Module) → tested m ≤ 6
unfolding tested
tested_low m = go (numbered m) (lower m) (named m) (in_scope m)
  where
    go : (a b c d : Bool) → (let v : ℕ = elim a [ true ↦ elim b [ true ↦ elim c [ true ↦ elim d [ true ↦ 0 | false ↦ 6 ] | false ↦ 5 ] | false ↦ 4 ] | false ↦ 3 ] in v) ≤ 6
    go true true true true = omega arith
    go true true true false = omega arith
    go true true false d = omega arith
    go true false c d = omega arith
    go false b c d = omega arith

pub intake_low : (bytes : ℕ) (ws : List ℕ) → intake_of bytes ws ≤ 6
unfolding intake_of
intake_low bytes ws = go (sized bytes ws) (judged (read ws))
  where
    judged : (x : Laid Module) → verdict x ≤ 6
    judged (laid m) = unfold verdict in tested_low m
    judged bad = unfold verdict in omega arith
    judged strange = unfold verdict in omega arith

    go : (b : Bool) → verdict (read ws) ≤ 6 → (let v : ℕ = elim b [ true ↦ verdict (read ws) | false ↦ 1 ] in v) ≤ 6
    go true h = h
    go false h = omega arith
