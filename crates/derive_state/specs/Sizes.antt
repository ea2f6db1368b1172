-- The sizes of a derived module as the definitions have them: with what says whether the module fits beside them. Code has a result in place of it.
use Rattle.std.specs.Prelude.{ℕ, Bool, true, false, List, [], Result, Ok, Err}
use Rattle.derive_state.specs.declared.Full.{Full}
use Rattle.derive_state.specs.declared.Sizes.{Sizes as Sizes'}

pub record Sizes : Type 0 where
  -- it did not fit: the other fields say nothing then
  pub full : Bool
  pub loglen : ℕ
  pub counts : List ℕ
  pub pairs : ℕ
  pub exprtop : ℕ
  pub bodytop : ℕ
  pub made : ℕ

-- sizes of what fits
abbrev pub going : Sizes' → Sizes
going e = record { full = false; loglen = e.loglen; counts = e.counts; pairs = e.pairs; exprtop = e.exprtop; bodytop = e.bodytop; made = e.made }

-- what an operation answers
abbrev pub told : Result Sizes' Full → Sizes
told (Ok e) = going e
told (Err f) = record { full = true; loglen = 0; counts = []; pairs = 0; exprtop = 0; bodytop = 0; made = 0 }
