-- LINK IS A SESSION, the exported one: given the steps of linking, `session` of the model's Steps.antt, which is what wuldgisp_session promises, leaves the bytes that `link_image` leaves, which is what wuldgisp_link promises. Demand 3's "what a fresh session writes" is so said of the exported session.
use Rattle.std.specs.Prelude.{◌≡◌, List, [], ◌∷◌, ℕ, suc, length}
use Rattle.std.proofs.Math.Path.{refl}
use Rattle.std.proofs.Common.{sym, ap, ◌∙◌, le_refl, take_all}
use Rattle.std.proofs.lemmas.List.Edits.{sets}
use Rattle.base_words.specs.Words.{words_of, bytes_of}
use Rattle.model.specs.Module.{Module, write}
use Rattle.model.specs.Session.{Session, answered, new, import_function, finish_with_entry_points}
use Rattle.model.specs.Link.{append_all, link_by, output_after, link_image}
use Rattle.model.specs.Steps.{operations, Said, part, says, writes, perform, run, output_of, first_refused, session}
use Rattle.model.specs.Imports.{fresh}
use Rattle.model.specs.Special.{sourced}
use Rattle.theory_finish.specs.Fresh.{with, FreshLink, Imported, no_more, and_then}

-- import_function of each, and the steps that follow
unfoldable pub imports : List ℕ → List ℕ → List ℕ
imports [] k = k
imports (i ∷ is) k = 9 ∷ i ∷ 0 ∷ 0 ∷ imports is k

-- THE STEPS OF LINKING: set the image, of n bytes, with span offset 0; import_function of each function in this order; finish with entry points into the output, which is `room` bytes long
unfoldable pub link_steps : List ℕ → ℕ → ℕ → List ℕ
link_steps os n room = 0 ∷ 0 ∷ n ∷ 0 ∷ imports os (14 ∷ 0 ∷ room ∷ 0 ∷ [])

part-all : (l : List ℕ) → part 0 (length l) l ≡ l
unfolding part
part-all l = take_all (length l) l (le_refl (length l))

-- steps that are all accepted, and what they leave of an output
pub record Ends (xs : List Said) (i : ℕ) (out : List ℕ) (o : List ℕ) : Type 0 where
  pub leaves : output_of xs out ≡ o
  pub none : first_refused xs i ≡ 0

module _ (sources output : List ℕ) where
  one_import : (i v j : ℕ) (k : List ℕ) (s t : Session) (out o : List ℕ) → import_function i s ≡ answered v t → Ends (run k sources output t) (suc j) out o → Ends (run (9 ∷ i ∷ 0 ∷ 0 ∷ k) sources output s) j out o
  unfolding run operations perform says output_of first_refused bytes_of
  one_import i v j k s t out o e h = record { leaves = rw e h.leaves; none = rw e h.none }

  all-imports : {is : List ℕ} {s t : Session} → Imported is s t → (k : List ℕ) (out o : List ℕ) → ((j : ℕ) → Ends (run k sources output t) j out o) → (j : ℕ) → Ends (run (imports is k) sources output s) j out o
  unfolding imports
  all-imports no_more k out o h j = h j
  all-imports (and_then {i} {v} {is} {s} {t} {u} e r) k out o h j = one_import i v j (imports is k) s t out o e (all-imports r k out o h (suc j))

  last_step : (s : Session) (ws : List ℕ) → finish_with_entry_points (length output) s ≡ answered ws new → (j : ℕ) → Ends (run (14 ∷ 0 ∷ length output ∷ 0 ∷ []) sources output s) j output (sets output 0 (bytes_of ws))
  unfolding run operations perform writes output_of first_refused
  last_step s ws e j = record { leaves = rw (part-all output, e) refl; none = rw (part-all output, e) refl }

-- THE THEOREM: where linking succeeds, the exported session that is given these steps accepts each, and leaves the output that link leaves
pub session_is_link : (image output answers : List ℕ) (m : Module) (os : List ℕ) → FreshLink (length image) (words_of image) (length output) m os
    → ((session image (link_steps os (length image) (length output)) answers output).output ≡ (link_image image output).1) × ((session image (link_steps os (length image) (length output)) answers output).result ≡ 0)
unfolding session link_steps run operations perform says output_of first_refused bytes_of link_image output_after
session_is_link image output answers m os f = (first.leaves ∙ sym left, first.none)
  where
    rest : (j : ℕ) → Ends (run (imports os (14 ∷ 0 ∷ length output ∷ 0 ∷ [])) image output (with m (sourced 0 m fresh))) j output (sets output 0 (bytes_of (write (link_by os m))))
    rest = all-imports image output f.imports (14 ∷ 0 ∷ length output ∷ 0 ∷ []) output (sets output 0 (bytes_of (write (link_by os m)))) (last_step image output (with m (append_all os 0 m (sourced 0 m fresh))) (write (link_by os m)) f.finishes)

    first : Ends (run (0 ∷ 0 ∷ length image ∷ 0 ∷ imports os (14 ∷ 0 ∷ length output ∷ 0 ∷ [])) image output new) 0 output (sets output 0 (bytes_of (write (link_by os m))))
    first = record { leaves = rw (part-all image, f.sets) (rest 1).leaves; none = rw (part-all image, f.sets) (rest 1).none }

    left : (link_image image output).1 ≡ sets output 0 (bytes_of (write (link_by os m)))
    left = ap (λ r. output_after r output) f.links
