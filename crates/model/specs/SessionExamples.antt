-- Sessions by example, computed: each refusal before the one that document 01 names after it, what setting and clearing keep, special types of two sources, names by first appearance, and a list of steps. One table, one theorem.
use Rattle.std.specs.Prelude.{◌≡◌, List, [], ◌∷◌, ℕ, ◌*◌, length, replicate}
use Rattle.std.proofs.Math.Option.{some}
use Rattle.base_words.specs.Words.{bytes_of}
use Rattle.model.specs.Table.{OPT_TYPE}
use Rattle.model.specs.Tree.{end}
use Rattle.model.specs.Module.{Module, write}
use Rattle.model.specs.Tables.{tables}
use Rattle.model.specs.Imports.{Derived, unmapped, fresh}
use Rattle.model.specs.Finish.{finished}
use Rattle.model.specs.Session.{Session, Answer, answered, refused, after, new, set, clear, map_span, import_type, rename_type, import_function, map_function_handle, finish, finish_with_entry_points}
use Rattle.model.specs.Steps.{run, answers_of, first_refused}
use Rattle.model.specs.ImportExamples.{leaf, module_of_lem, function_with, calling}
use Rattle.model.specs.RedirectExamples.{letter}

-- ---- sources: one function a; a function a that calls itself; three types and a function c; and sources with one special type
abbrev plainly : Module
plainly = module_of_lem [] (function_with 0 [] [] [] end ∷ [])

abbrev ringed : Module
ringed = module_of_lem [] (calling 0 0 ∷ [])

abbrev typed : Module
typed = module_of_lem (leaf 2 1 0 ∷ []) (function_with 2 [] [] [] end ∷ [])

abbrev with_ray : ℕ → Module
with_ray k = record { names = []; types = leaf 0 1 k ∷ []; constants = []; overrides = []; globals = []; exprs = []; functions = []; entries = []; special = record { rays = (OPT_TYPE, 1) ∷ (OPT_TYPE, 0) ∷ (OPT_TYPE, 0) ∷ []; pairs = [] } }

-- a session with this source, set by its words with an offset
unfoldable pub on : ℕ → Module → Session → Session
on o m s = after s (set (4 * length (write m)) (write m) o s)

-- the refusal, 0 for none
unfoldable pub refusal : {A : Type 0} → Answer A → ℕ
refusal (answered a s) = 0
refusal (refused n) = n

-- a session with a source in which k functions b are derived
abbrev pub derived_functions : ℕ → Module → Session
derived_functions k m = record {
  source = some (record { image = m; offset = 0 });
  state = record {
    recs = record { of_names = letter 97 ∷ letter 98 ∷ []; of_types = []; of_constants = []; of_overrides = []; of_globals = []; of_exprs = [] };
    maps = unmapped (tables m);
    functions = replicate k (function_with 1 [] [] [] end);
    special = fresh.special;
  };
}

-- the function a of one source; then another source
unfoldable pub known-before : Session
known-before = on 0 plainly (after new (import_function 0 (on 0 plainly new)))

-- a special type in the same place of two sources, of different kinds
unfoldable pub rays_of_two : Derived
rays_of_two = (on 0 (with_ray 1) (on 0 (with_ray 0) new)).state

-- a function c first, then a type b
unfoldable pub function-first : Module
function-first = finished (after (on 0 typed new) (import_type 0 (after (on 0 typed new) (import_function 0 (on 0 typed new))))).state []

-- the bytes of a source, and steps: finish with entry points; set; is there a special type; import a, a type that is not there, an unknown operation; finish into too little, and into enough; and a step that is not whole
unfoldable pub source_bytes : List ℕ
source_bytes = bytes_of (write plainly)

unfoldable pub steps : List ℕ
steps =
    14 ∷ 0 ∷ 0 ∷ 0
    ∷ 0 ∷ 0 ∷ 1000 ∷ 0
    ∷ 12 ∷ 0 ∷ 0 ∷ 0
    ∷ 9 ∷ 0 ∷ 0 ∷ 0
    ∷ 3 ∷ 0 ∷ 0 ∷ 0
    ∷ 15 ∷ 0 ∷ 0 ∷ 0
    ∷ 13 ∷ 900 ∷ 1000 ∷ 0
    ∷ 13 ∷ 0 ∷ 1000 ∷ 0
    ∷ 13 ∷ 0
    ∷ []

pub record Sessions : Type 0 where
  -- "setting 1 to 6, 21": an image of no bytes
  pub too_short : refusal (set 0 [] 0 new) ≡ 1
  -- "20: no source set (imports, spans, finish with entry points)", before "13: a number given by the caller lies outside its table"
  pub no_source : refusal (import_type 0 new) ≡ 20
  pub no_span : refusal (map_span (1, 2) new) ≡ 20
  pub no_entries : refusal (finish_with_entry_points 0 new) ≡ 20
  pub outside : refusal (import_type 1 (on 0 typed new)) ≡ 13
  pub outside_name : refusal (rename_type 0 3 (on 0 typed new)) ≡ 13
  -- 22, before 21; a call of a known name closes no ring
  pub rings : refusal (import_function 0 (on 0 ringed new)) ≡ 22
  pub rings_before_full : refusal (import_function 0 (derived_functions 256 ringed)) ≡ 22
  pub full : refusal (import_function 0 (derived_functions 256 plainly)) ≡ 21
  pub no_ring_by_name : refusal (import_function 0 (on 0 ringed (after new (import_function 0 (on 0 plainly new))))) ≡ 0
  -- 21 before "7: output shorter than .. the derived image"; a session with nothing in it finishes
  pub full_before_short : refusal (finish 0 (derived_functions 257 plainly)) ≡ 21
  pub short : refusal (finish 91 new) ≡ 7
  pub empty : refusal (finish 92 new) ≡ 0
  -- "Setting and clearing empty every map but the function map": a is known by its name, and nothing is imported again
  pub still-known : map_function_handle 0 known-before ≡ answered 0 known-before
  pub cleared : refusal (import_type 0 (clear (on 0 typed new))) ≡ 20
  -- "one whose place or key is already derived maps to the derived type"
  pub first-ray : rays_of_two.special.rays ≡ (OPT_TYPE, 1) ∷ (OPT_TYPE, 0) ∷ (OPT_TYPE, 0) ∷ []
  pub one_type_lem : rays_of_two.recs.of_types ≡ leaf 0 1 0 ∷ []
  pub maps_there : rays_of_two.maps.of_types ≡ 1 ∷ []
  -- "Derived images number names by first appearance in the sections after it"
  pub names_first : function-first.names ≡ letter 98 ∷ letter 99 ∷ []
  pub types-first : function-first.types ≡ leaf 1 1 0 ∷ []
  -- steps of four words, answers of three
  pub answers : answers_of (run steps source_bytes (replicate 1000 0) new) ≡
      20 ∷ 0 ∷ 0
      ∷ 0 ∷ 0 ∷ 0
      ∷ 0 ∷ 0 ∷ 0
      ∷ 0 ∷ 0 ∷ 0
      ∷ 13 ∷ 0 ∷ 0
      ∷ 13 ∷ 0 ∷ 0
      ∷ 7 ∷ 0 ∷ 0
      ∷ 0 ∷ 144 ∷ 0
      ∷ []
  pub first_refused_lem : first_refused (run steps source_bytes (replicate 1000 0) new) 0 ≡ 20
