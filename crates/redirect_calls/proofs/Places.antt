-- Where functions are, and what their words say: starts and ends, names, argument types and result types.
use mathlib.Core.Path.{◌≡◌, sym, ap, ◌∙◌}
use mathlib.Core.Option.{none, some}
use mathlib.Core.List.{List, []}
use Prim.Native.Nat.{ℕ, ◌+◌, ◌≤◌, ◌<◌}
use native.Mathlib.Omega.{arith}
use lib.ListN.{length, get_or, length-map}
use Rattle.theory_lists.specs.Lists.{looked_at}
use Rattle.model.specs.Outcome.{class, word}
use Rattle.model.specs.Module.{Module, count_at, flat_module}
use Rattle.model.specs.View.{record_at, record_end}
use Rattle.model.specs.FunctionView.{arguments_at, argument_at, returns_at, locals_at}
use Rattle.model.specs.Taped.{Taped}
use Rattle.model.specs.Redirect.{name_word, argument_types, type_behind, result_type, nothing, function}
use Rattle.theory_image.specs.FunctionViews.{part-word, Stands, parts, head_classes, arguments_count, argument-part, argument_type, returns-bound, returns_zero, returns_one, taped_length, taped_functions, taped_function}
use Rattle.redirect_calls.proofs.Contexts.{map_at_lem}

-- ---- a function of a module that words and tags hold
module _ {words tags : List ℕ} {n : ℕ} {m : Module} (t : Taped words tags n m) where
  pub many : count_at 6 words ≡ length m.functions
  many = taped_functions t

  pub few : count_at 6 words ≤ 256
  few = omega (arith, many, t.well.functions_ok.few)

  module _ (j : ℕ) (h : j < count_at 6 words) where
    pub standing : Stands words tags (flat_module m) (record_at 6 j words) (record_end 6 j words) (function m j)
    unfolding function
    standing = taped_function t j (function m j) (looked_at m.functions j nothing (omega (arith, many)))

    pub end_in : record_end 6 j words ≤ n
    end_in = omega (arith, standing.part.within, taped_length t)

    -- its name
    pub start_in : record_at 6 j words + 3 ≤ 16384
    start_in = omega (arith, (parts standing).head_part.within, taped_length t, t.small)

    pub name_is_lem : get_or words (record_at 6 j words) 0 ≡ name_word (function m j)
    unfolding name_word
    name_is_lem =
        let z : record_at 6 j words + 0 ≡ record_at 6 j words = omega arith in
        let l : 0 < length (function m j).head = omega (arith, sym (length-map (function m j).head class) ∙ ap length (head_classes standing)) in
        rw z at (part-word standing.held (parts standing).head_part 0 l)

    -- its arguments
    pub types_many : get_or words (arguments_at (record_at 6 j words)) 0 ≡ length (argument_types (function m j))
    unfolding argument_types
    types_many = arguments_count standing ∙ sym (length-map (function m j).arguments (λ a. word (get_or a 1 (0, 0))))

    module _ (i : ℕ) (k : i < length (argument_types (function m j))) where
      given : i < length (function m j).arguments
      unfolding argument_types
      given = rw (length-map (function m j).arguments (λ a. word (get_or a 1 (0, 0)))) at k

      pub type_in : argument_at (record_at 6 j words) i + 1 < 16384
      type_in = omega (arith, (argument-part standing i given).within, taped_length t, t.small)

      pub type_is : get_or words (argument_at (record_at 6 j words) i + 1) 0 ≡ get_or (argument_types (function m j)) i 0
      unfolding argument_types
      type_is =
          argument_type standing i given ∙ sym (map_at_lem (λ a. word (get_or a 1 (0, 0))) (function m j).arguments i [] 0 given)

    -- its result
    pub result_type_in : get_or words (returns_at (record_at 6 j words) words) 0 ≡ 1 → returns_at (record_at 6 j words) words + 1 < 16384
    unfolding locals_at
    result_type_in e = omega (arith, (parts standing).result_part.within, taped_length t, t.small)

    pub result_few : get_or words (returns_at (record_at 6 j words) words) 0 ≤ 1
    result_few = returns-bound standing

    pub result_none : get_or words (returns_at (record_at 6 j words) words) 0 ≡ 0 → result_type (function m j) ≡ none
    unfolding result_type type_behind
    result_none e = rw (returns_zero standing e)

    pub result_some : get_or words (returns_at (record_at 6 j words) words) 0 ≡ 1 → result_type (function m j) ≡ some (get_or words (returns_at (record_at 6 j words) words + 1) 0)
    unfolding result_type type_behind
    result_some e = ap (λ r. type_behind (word (get_or r 0 (0, 0))) (word (get_or r 1 (0, 0)))) (returns_one standing e)
