-- DEMAND 3 ON BYTES BY EXAMPLE: the marked case P5 as an image, with any output that is as long. So the theorem is not empty: its premises hold of these bytes, and it says what the output holds.
use Rattle.std.specs.Prelude.{◌≡◌, List, ℕ, ◌≤◌, length}
use Rattle.base_words.specs.Words.{words_of, bytes_of}
use Rattle.base_words.proofs.Laws.{bytes_below}
use Rattle.model.specs.Outcome.{laid}
use Rattle.model.specs.Module.{Module, read}
use Rattle.model.specs.Intake.{intake_of}
use Rattle.model.specs.Link.{link_image}
use Rattle.theory_link.specs.OnBytes.{Held, Demand3}
use Rattle.theory_link.proofs.OnBytes.{demand3_bytes, linked-only}
use Rattle.model_vectors.specs.Links.{P5, P5-linked}
use Rattle.model_vectors.specs.LinkedBytes.{p5-image}

module _ (output : List ℕ) (roomy : 276 ≤ length output) where
  -- the premises: bytes that pass intake, and room
  pub p5-taken : (intake_of (length (bytes_of P5)) (words_of (bytes_of P5)) ≡ 0) × (length (bytes_of P5) ≤ length output)
  p5-taken = linked-only (bytes_of P5) output P5-linked (p5-image output roomy)

  -- WHAT THE THEOREM SAYS OF P5
  pub p5_demand : (m : Module) × (read (words_of (bytes_of P5)) ≡ laid m) × Demand3 (bytes_of P5) output m
  p5_demand = demand3_bytes (bytes_of P5) output (bytes_below P5) p5-taken.0 p5-taken.1

  -- it is linked, so the output holds a module that walks as it does
  pub p5-held : (m : Module) × (os : List ℕ) × (n : ℕ) × (m' : Module) × Held (bytes_of P5) output (link_image (bytes_of P5) output).1 m os n m'
  p5-held = let d = p5_demand in let h = d.2.output-holds P5-linked (p5-image output roomy) in (d.0, h.0, h.1, h.2, h.4)
