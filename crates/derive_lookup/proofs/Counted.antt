-- A number plus 1 is 0 where there is none.
use Rattle.std.specs.Prelude.{◌≡◌, ℕ, pred, true, false, Option, None, Some}
use Rattle.std.proofs.Common.{arith}
use mathlib.Core.Path.{refl, sym}
use Rattle.std.proofs.lemmas.Bool.{false≢true}
use Rattle.std.specs.Option.{is_some, unwrap_or}
use Rattle.derive_lookup.specs.Bearing.{plus_one}

pub counted : (o : Option ℕ) → is_some o ≡ true → plus_one o ≡ 0 → ⊥
counted None e h = absurd (false≢true e)
counted (Some x) e h = omega (arith, h)

pub not_counted : (o : Option ℕ) → is_some o ≡ false → plus_one o ≡ 0
not_counted None e = refl
not_counted (Some x) e = absurd (false≢true (sym e))

pub one_less : (o : Option ℕ) → unwrap_or o 0 ≡ pred (plus_one o)
one_less None = refl
one_less (Some x) = refl
