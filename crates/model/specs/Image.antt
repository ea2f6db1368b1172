-- WHAT THE EXPORTED FUNCTIONS MEAN, on any bytes: for each function of include/wuldgisp.h, in its order and under its name, what it answers and what the caller's memory holds afterwards.
-- All begin with intake, but for a session, in which setting a source does. Document 01: "A refusal returns its number alone (12 adds its count); image, output, derived module, set source and maps stay."
use Rattle.std.specs.Prelude.{◌≡◌, List, [], ℕ, ◌+◌, ◌*◌, ◌%◌, ◌<◌, length, get_or}
use Rattle.std.proofs.lemmas.List.Edits.{sets}
use Rattle.base_words.specs.Words.{words_of, bytes_of}
use Rattle.model.specs.Refusals.{ORIGINAL_NOT_FOUND, REPLACEMENT_NOT_FOUND, ARGUMENT_TYPES, RESULT_TYPES, NUMBER_GIVEN, Ended, done, refused, ringed, answer_by}
use Rattle.model.specs.Module.{Module, write}
use Rattle.model.specs.Intake.{intake_of, on_words}
use Rattle.model.specs.Calls.{Order, ordered, ring}
use Rattle.model.specs.Callees.{order_of}
use Rattle.model.specs.Redirect.{Answer, redirected, outside, no_original, no_replacement, arguments_differ, results_differ, redirect_function}
use Rattle.model.specs.Link.{link_image, link_answer}
use Rattle.model.specs.Steps.{session}

-- intake's refusal, or f of the module that the bytes hold
unfoldable pub on_image : {A : Type 0} → (Module → A) → (ℕ → A) → List ℕ → A
on_image f refuse image = on_words f refuse (length image) (words_of image)

-- ---- wuldgisp_intake: 0, or the number of the test that refuses the image
unfoldable pub wuldgisp_intake : List ℕ → ℕ
wuldgisp_intake image = intake_of (length image) (words_of image)

pub record IntakeEnsures (r : ℕ) (image : List ℕ) : Type 0 where
  pub answer : r ≡ wuldgisp_intake image

-- ---- wuldgisp_order: the functions in output order go to the start of `order`, as far as there is room; their count is answered
unfoldable pub order_ended : Order → Ended (List ℕ)
order_ended (ordered os) = done os
order_ended (ring left) = ringed left

unfoldable pub order_image : List ℕ → Ended (List ℕ)
order_image = on_image (λ m. order_ended (order_of m)) refused

abbrev pub order_answer : Ended (List ℕ) → ℕ
order_answer = answer_by length

unfoldable pub order_after : Ended (List ℕ) → List ℕ → List ℕ
order_after (done os) order = sets order 0 os
order_after (refused k) order = order
order_after (ringed left) order = order

unfoldable pub wuldgisp_order : List ℕ → List ℕ → ℕ × List ℕ
wuldgisp_order image order = (order_answer (order_image image), order_after (order_image image) order)

pub record OrderEnsures (r : ℕ) (order₀ order image : List ℕ) : Type 0 where
  pub answer : r ≡ (wuldgisp_order image order₀).0
  pub left : order ≡ (wuldgisp_order image order₀).1

-- ---- wuldgisp_redirect: calls are redirected in the image itself; both functions are answered, the replacement times 65,536
unfoldable pub redirect_ended : Answer → Ended (ℕ × ℕ)
redirect_ended (redirected a b m) = done (a, b)
redirect_ended outside = refused NUMBER_GIVEN
redirect_ended no_original = refused ORIGINAL_NOT_FOUND
redirect_ended no_replacement = refused REPLACEMENT_NOT_FOUND
redirect_ended arguments_differ = refused ARGUMENT_TYPES
redirect_ended results_differ = refused RESULT_TYPES

unfoldable pub redirect_after : List ℕ → Answer → List ℕ
redirect_after image (redirected a b m) = bytes_of (write m)
redirect_after image outside = image
redirect_after image no_original = image
redirect_after image no_replacement = image
redirect_after image arguments_differ = image
redirect_after image results_differ = image

unfoldable pub redirect_image : List ℕ → ℕ → ℕ → List ℕ → Ended (ℕ × ℕ) × List ℕ
redirect_image image original replacement omit =
    on_image (λ m. let x = redirect_function m original replacement omit in (redirect_ended x, redirect_after image x)) (λ k. (refused k, image)) image

abbrev pub redirect_answer : Ended (ℕ × ℕ) → ℕ
redirect_answer = answer_by (λ p. p.0 + 65536 * p.1)

unfoldable pub wuldgisp_redirect : List ℕ → ℕ → ℕ → List ℕ → ℕ × List ℕ
wuldgisp_redirect image original replacement omit = let x = redirect_image image original replacement omit in (redirect_answer x.0, x.1)

pub record RedirectEnsures (r : ℕ) (image₀ image : List ℕ) (original replacement : ℕ) (omit : List ℕ) : Type 0 where
  pub answer : r ≡ (wuldgisp_redirect image₀ original replacement omit).0
  pub left : image ≡ (wuldgisp_redirect image₀ original replacement omit).1

-- ---- wuldgisp_link: the linked image goes to the start of the output; its bytes are answered
unfoldable pub wuldgisp_link : List ℕ → List ℕ → ℕ × List ℕ
wuldgisp_link image output = let x = link_image image output in (link_answer x.0, x.1)

pub record LinkEnsures (r : ℕ) (output₀ output image : List ℕ) : Type 0 where
  pub answer : r ≡ (wuldgisp_link image output₀).0
  pub left : output ≡ (wuldgisp_link image output₀).1

-- ---- wuldgisp_session: the steps are run (`session`, in Steps.antt); the result is of 64 bits
unfoldable pub wuldgisp_session : List ℕ → List ℕ → List ℕ → List ℕ → ℕ × List ℕ × List ℕ
wuldgisp_session sources steps answers output = let x = session sources steps answers output in (x.result % 18446744073709551616, x.answers, x.output)

pub record SessionEnsures (sources steps answers₀ output₀ : List ℕ) (r : ℕ) (answers output : List ℕ) : Type 0 where
  pub result_is : r ≡ (wuldgisp_session sources steps answers₀ output₀).0
  pub answers_is : answers ≡ (wuldgisp_session sources steps answers₀ output₀).1
  pub output_is : output ≡ (wuldgisp_session sources steps answers₀ output₀).2

-- ---- wuldgisp_link_in and wuldgisp_session_in promise the same; they require their work arrays to have the lengths of their types
pub record ScratchLengths (log logtags : List ℕ) (starts stacks : List (List ℕ)) : Type 0 where
  pub log_long : length log ≡ 16384
  pub logtags_long : length logtags ≡ 16384
  pub starts_eight : length starts ≡ 8
  pub starts-rows : (t : ℕ) → t < 8 → length (get_or starts t []) ≡ 512
  pub stacks_four : length stacks ≡ 4
  pub stacks_rows : (t : ℕ) → t < 4 → length (get_or stacks t []) ≡ 16384
