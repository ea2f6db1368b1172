-- Redirecting by example: where calls stay and where they change, and each refusal. One table, one theorem; P7 and P8 are in Marked.antt.
use Rattle.std.specs.Prelude.{◌≡◌, List, [], ◌∷◌, map, ℕ, suc}
use Rattle.std.proofs.Math.Option.{none, some}
use Rattle.model.specs.Outcome.{Cells}
use Rattle.model.specs.Table.{WORD, SPAN, UPTO, NAME, TYPE, OPT_TYPE, PAD, TEXT, RETURNS}
use Rattle.model.specs.Tree.{Block, call, end, ◌then◌, Range, Function, Entry}
use Rattle.model.specs.Module.{Module}
use Rattle.model.specs.SampleBodies.{does, called}
use Rattle.model.specs.Redirect.{redirected, refusal, function, redirect_function}

-- a function by its name number, argument types, result, expressions and body
abbrev pub made : ℕ → List ℕ → Cells → List Cells → Block Range → Function
made name args result xs b = record {
  head = (NAME, suc name) ∷ (SPAN, 0) ∷ (UPTO, 0) ∷ [];
  arguments = map (λ t. (NAME, 0) ∷ (TYPE, t) ∷ (WORD, 0) ∷ (WORD, 0) ∷ (WORD, 0) ∷ (WORD, 0) ∷ (WORD, 0) ∷ (WORD, 0) ∷ []) args;
  result = result;
  locals = [];
  exprs = xs;
  named = [];
  body = b;
}

abbrev pub no_result : Cells
no_result = (RETURNS, 0) ∷ []

abbrev result_of_lem : ℕ → Cells
result_of_lem t = (RETURNS, 1) ∷ (TYPE, t) ∷ (WORD, 0) ∷ (WORD, 0) ∷ (WORD, 0) ∷ (WORD, 0) ∷ (WORD, 0) ∷ (WORD, 0) ∷ []

-- one call, without arguments or result
abbrev pub to : ℕ → Block Range
to f = does (call f [] none) then end

abbrev pub plain : ℕ → Block Range → Function
plain name b = made name [] no_result [] b

-- an entry point, whose function may have a name
abbrev entry : Function → Entry
entry f = record { head = (NAME, 1) ∷ (WORD, 0) ∷ (WORD, 0) ∷ (WORD, 0) ∷ (WORD, 0) ∷ (WORD, 0) ∷ (WORD, 0) ∷ []; function = f }

abbrev pub letter : ℕ → Cells
letter c = (TEXT, 1) ∷ (PAD, c) ∷ []

-- four names: shade, tone, fog, and one that no function has
abbrev pub holding : List Function → List Entry → Module
holding fs es = record { names = letter 115 ∷ letter 116 ∷ letter 102 ∷ letter 120 ∷ []; types = []; constants = []; overrides = []; globals = []; exprs = []; functions = fs; entries = es; special = record { rays = (OPT_TYPE, 0) ∷ (OPT_TYPE, 0) ∷ (OPT_TYPE, 0) ∷ []; pairs = [] } }

-- "P6 shade calls fog; tone; fog calls tone"
abbrev pub shades : List Function
shades = plain 0 (to 2) ∷ plain 1 end ∷ plain 2 (to 1) ∷ []

abbrev pub P6 : Module
P6 = holding shades []

-- a function that calls tone (1) for a value, and one that calls fog for it
abbrev valued : ℕ → ℕ → Function
valued name f = made name [] (result_of_lem 0) (called f ∷ []) (does (call f [] (some 0)) then end)

pub record Redirects : Type 0 where
  -- a function replaced by itself
  pub itself : redirect_function P6 2 2 [] ≡ redirected 2 2 P6
  -- an omitted function stays; a name that no function has may be omitted
  pub omits : redirect_function P6 2 1 (0 ∷ []) ≡ redirected 2 1 P6
  pub omits_none : redirect_function P6 2 1 (3 ∷ []) ≡ redirect_function P6 2 1 []
  -- the replacement's own call stays: fog replaced by shade, which calls it
  pub own : redirect_function P6 2 0 [] ≡ redirected 2 0 P6
  -- the original's call of itself changes
  pub self : redirect_function (holding (plain 0 (to 0) ∷ plain 1 end ∷ []) []) 0 1 [] ≡ redirected 0 1 (holding (plain 0 (to 1) ∷ plain 1 end ∷ []) [])
  -- every call changes, and a CallResult with its Call
  pub twice : redirect_function (holding (plain 0 (does (call 2 [] none) then to 2) ∷ plain 1 end ∷ plain 2 end ∷ []) []) 2 1 [] ≡ redirected 2 1 (holding (plain 0 (does (call 1 [] none) then to 1) ∷ plain 1 end ∷ plain 2 end ∷ []) [])
  pub results : redirect_function (holding (valued 0 2 ∷ valued 1 0 ∷ valued 2 1 ∷ []) []) 2 1 [] ≡ redirected 2 1 (holding (valued 0 1 ∷ valued 1 0 ∷ valued 2 1 ∷ []) [])
  -- an entry point changes, whatever name its function has
  pub entries : redirect_function (holding shades (entry (plain 0 (to 2)) ∷ [])) 2 1 (0 ∷ []) ≡ redirected 2 1 (holding shades (entry (plain 0 (to 1)) ∷ []))
  -- refusals, each with a second fault that comes later in the sequence
  pub no_name : refusal (redirect_function P6 4 3 []) ≡ 13
  pub no_omitted_name : refusal (redirect_function P6 3 3 (4 ∷ [])) ≡ 13
  pub no_original_lem : refusal (redirect_function P6 3 3 []) ≡ 8
  pub no_replacement_lem : refusal (redirect_function P6 0 3 []) ≡ 9
  -- arguments up to the shorter list; results with none and some
  pub arguments : refusal (redirect_function (holding (made 0 (0 ∷ 1 ∷ []) no_result [] end ∷ made 1 (0 ∷ 2 ∷ []) (result_of_lem 0) [] end ∷ []) []) 0 1 []) ≡ 10
  pub shorter : redirect_function (holding (made 0 (0 ∷ 1 ∷ []) no_result [] end ∷ made 1 (0 ∷ []) no_result [] end ∷ []) []) 0 1 [] ≡ redirected 0 1 (holding (made 0 (0 ∷ 1 ∷ []) no_result [] end ∷ made 1 (0 ∷ []) no_result [] end ∷ []) [])
  pub none_some : refusal (redirect_function (holding (made 0 [] no_result [] end ∷ made 1 [] (result_of_lem 0) [] end ∷ []) []) 0 1 []) ≡ 11
  pub some_some : refusal (redirect_function (holding (made 0 [] (result_of_lem 1) [] end ∷ made 1 [] (result_of_lem 0) [] end ∷ []) []) 0 1 []) ≡ 11
