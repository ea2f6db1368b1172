-- From agreement in full to agreement as walks need it: words and records.
use Rattle.std.specs.Prelude.{get_or}
use mathlib.Core.List.{List, []}
use Prim.Native.Nat.{ℕ, pred}
use Rattle.model.specs.Tables.{types, constants, overrides, globals, exprs, map_at}
use Rattle.model.specs.References.{function}
use Rattle.model.specs.Agreement.{Mapping}
use Rattle.theory_walks.specs.Agreement.{Maps}

-- the maps as functions
unfoldable pub made : Mapping → Maps
made μ = record {
  type = λ n. pred (map_at μ.in_tables types n);
  constant = λ n. pred (map_at μ.in_tables constants n);
  override = λ n. pred (map_at μ.in_tables overrides n);
  global = λ n. pred (map_at μ.in_tables globals n);
  global_expr = λ n. pred (map_at μ.in_tables exprs n);
  function = λ n. pred (get_or μ.functions n 0);
  in_function = λ i e. pred (get_or (get_or μ.in_functions i []) e 0);
  in_entry = λ i e. pred (get_or (get_or μ.in_entries i []) e 0);
}

unfoldable pub to : List ℕ → ℕ → ℕ
to o e = pred (get_or o e 0)
