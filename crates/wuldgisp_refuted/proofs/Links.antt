-- A ring is counted by its definition: the proof of `Miscounted` in `specs/Links.antt`.
use Rattle.std.specs.Prelude.{◌≡◌, List, ℕ, ◌+◌, ◌*◌, ◌≤◌}
use native.Mathlib.Omega.{arith}
use Rattle.std.proofs.Math.ListN.{length}
use Rattle.base_words.specs.Words.{bytes_of}
use Rattle.model.specs.Image.{LinkEnsures}
use Rattle.model_vectors.specs.Links.{P8, p8-rings}
use Rattle.model_vectors.specs.LinkedBytes.{whole}
use Rattle.wuldgisp_refuted.specs.Links.{ring_so, Miscounted}

module _ (output : List ℕ) (roomy : 308 ≤ length output) (r : ℕ) (out : List ℕ) where
  pub miscounted : Miscounted output roomy r out
  unfolding P8
  miscounted = record { miscounting = λ m k e. let a = (ring_so P8 whole.of_p8 output (omega arith) 2 p8-rings r out m).0 in omega arith }

  pub miscounting : LinkEnsures r output out (bytes_of P8) → (k : ℕ) → r ≡ 12 + k * 4294967296 → k ≡ 2
  miscounting = miscounted.miscounting
