-- The bytes that linking writes are in the output: what the theorem on an accepted link says of their count.
use mathlib.Core.Path.{◌≡◌, subst}
use mathlib.Core.List.{List}
use Prim.Native.Nat.{ℕ, ◌+◌, ◌*◌, ◌≤◌}
use native.Mathlib.Omega.{arith}
use lib.ListN.{length, take, length-take}
use Rattle.std.specs.Prelude.{Result, Ok}
use Rattle.base_words.specs.Words.{AllBelow}
use Rattle.base_refusals.specs.declared.Refusal.{Refusal}
use Rattle.base_refusals.specs.Numbers.{ended}
use Rattle.model.specs.Refusals.{answer_by}
use Rattle.model.specs.Image.{LinkEnsures}
use Rattle.link.specs.Theorems.{Halves, premises_hold, demand3_code}

pub within : {output₀ output image : List ℕ} {r : Result ℕ Refusal} (n : ℕ) → r ≡ Ok n → LinkEnsures (answer_by (λ v. v) (ended r)) output₀ output image → AllBelow 256 image → (n ≤ length output) × (n ≡ length (take n output))
unfolding answer_by
within {output₀} {output} {image} n e l bytes =
    let k = subst (λ x. LinkEnsures (answer_by (λ v. v) (ended x)) output₀ output image) e l in
    let h : Halves (0 + n * 4294967296) 0 n = record { is = omega arith; low_half = omega arith } in
    let p = premises_hold k n h in
    let d = demand3_code k bytes p.0 p.1 in
    let o = d.2.output-holds n h in
    let c = o.2.counted in
    (omega (arith, c, length-take n output), c)
