-- What `specs/NamesExamples.antt` states holds: each side computes to the other.
use Rattle.std.specs.Prelude.{refl}
use Rattle.std.proofs.Common.{lit<}
use Rattle.model.specs.Table.{limit}
use Rattle.model.specs.Carry.{each_none, each_next}
use Rattle.model.specs.Names.{field, present, absent, distinct, same, unlike, differ, expressions_named, functions_named, entries_named, function_names, entry_names, named, NumbersFew}
use Rattle.model.specs.Sample.{sample, function as sampled}
use Rattle.model.specs.NamesExamples.{Tried}

tried : Tried
unfolding field present absent distinct same unlike differ expressions_named functions_named entries_named function_names entry_names named
tried = record {
  fine = refl;
  function-unnamed = refl;
  entry-unnamed = refl;
  expression_unnamed = refl;
  entry_expression_unnamed = refl;
  names_equal = refl;
  functions_equal = refl;
  named-twice = refl;
  entry_named_twice = refl;
  keys_equal = refl;
}

-- a module whose named numbers are few
sample_few : NumbersFew sample
unfolding sample sampled field limit
sample_few = record { in_functions_lem = each_next (each_next (lit< tt) each_none) each_none; in_entries_lem = each_next (each_next (lit< tt) each_none) each_none }
