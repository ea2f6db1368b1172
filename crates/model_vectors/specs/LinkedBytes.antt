-- THE BYTES OF AN IMAGE LINKED: what is computed in Links.antt of the words of P5, P6, P8 and P11, in an output as long as the image, holds of their bytes in every output that is as long or longer.
use Rattle.std.specs.Prelude.{◌≡◌, refl, List, ℕ, ◌*◌, ◌≤◌}
use Rattle.std.proofs.Math.Path.{ap, fun_ext}
use Rattle.std.proofs.Common.{◌∙◌, arith}
use Rattle.std.proofs.Math.ListN.{length}
use borrow.Author.Tests.{le-ltb}
use Rattle.base_words.specs.Words.{word_of, words_of, bytes_of}
use Rattle.base_words.proofs.Laws.{length_bytes_of}
use Rattle.model.specs.Module.{Module}
use Rattle.model.specs.Intake.{on_words}
use Rattle.model.specs.Refusals.{done, refused}
use Rattle.model.specs.Link.{Linked, link_module, link, output_after, link_image}
use Rattle.model_vectors.specs.Links.{P5, P5-linked, P6, P8, P11, p5_links}

more_room : (bytes : ℕ) (ws : List ℕ) (room : ℕ) → bytes ≤ room → link bytes ws room ≡ link bytes ws bytes
unfolding link
more_room bytes ws room h = ap (λ f. on_words f refused bytes ws) (fun_ext go)
  where
    go : (m : Module) → link_module bytes room m ≡ link_module bytes bytes m
    go m = unfold link_module in rw (link_module, le-ltb room bytes h, le-ltb bytes bytes (omega arith))

module _ (ws : List ℕ) (whole : words_of (bytes_of ws) ≡ ws) (output : List ℕ) (roomy : 4 * length ws ≤ length output) where
  pub linked_so : (link_image (bytes_of ws) output).0 ≡ link (4 * length ws) ws (4 * length ws)
  unfolding link_image
  linked_so = ap (λ n. link n (words_of (bytes_of ws)) (length output)) (length_bytes_of ws) ∙ ap (λ l. link (4 * length ws) l (length output)) whole ∙ more_room (4 * length ws) ws (length output) roomy

  pub left_so : (x : Linked) → (link_image (bytes_of ws) output).0 ≡ x → (link_image (bytes_of ws) output).1 ≡ output_after x output
  unfolding link_image
  left_so x e = ap (λ y. output_after y output) e

-- each image comes back from its bytes
pub record Whole : Type 0 where
  pub of_p5 : words_of (bytes_of P5) ≡ P5
  pub of_p6 : words_of (bytes_of P6) ≡ P6
  pub of_p8 : words_of (bytes_of P8) ≡ P8
  pub of_p11 : words_of (bytes_of P11) ≡ P11

pub whole : Whole
unfolding P5 P6 P8 P11 words_of bytes_of word_of
whole = record { of_p5 = refl; of_p6 = refl; of_p8 = refl; of_p11 = refl }

-- P5's image is linked, into every output that is as long
pub p5-image : (output : List ℕ) → 276 ≤ length output → (link_image (bytes_of P5) output).0 ≡ done P5-linked
unfolding P5
p5-image output roomy = linked_so P5 whole.of_p5 output roomy ∙ p5_links
