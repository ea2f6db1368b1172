-- What `specs/RedirectExamples.antt` states holds: each side computes to the other.
use Rattle.std.specs.Prelude.{refl}
use Rattle.model.specs.Tree.{opt_of, word_of, kind_of, size_b, size_c, flat_all, flat_list, flat_x, flat_s, flat_block, flat}
use Rattle.model.specs.Carry.{carry_cell, carry_opt, carry_range, carry_s, carry_function, carry_entry}
use Rattle.model.specs.Redirect.{name_word, find, omitted, all_below, argument_types, agree, type_behind, result_type, same, redirecting, redirect_fn, redirect_entry, stays, redirect_fns, with_functions, with_entries, redirect, refusal, nothing, function, compared, with_replacement, with_original, redirect_function}
use Rattle.model.specs.RedirectExamples.{Redirects}

pub redirects : Redirects
unfolding opt_of word_of kind_of size_b size_c flat_all flat_list flat_x flat_s flat_block flat carry_cell carry_opt carry_range carry_s carry_function carry_entry name_word find omitted all_below argument_types agree type_behind result_type same redirecting redirect_fn redirect_entry stays redirect_fns with_functions with_entries redirect refusal nothing function compared with_replacement with_original redirect_function
redirects = record {
  itself = refl;
  omits = refl;
  omits_none = refl;
  own = refl;
  self = refl;
  twice = refl;
  results = refl;
  entries = refl;
  no_name = refl;
  no_omitted_name = refl;
  no_original_lem = refl;
  no_replacement_lem = refl;
  arguments = refl;
  shorter = refl;
  none_some = refl;
  some_some = refl;
}
