-- The import of a function as the code does it: passes over its cells (crate theory_passes), where calls are followed at a Call's word alone; the record that they write is read as a function. `follow` imports a callee, and `follow_s` is the nested import with a number
-- of functions in progress that there is room for. `Ready` says that each record on the way can be read.
use Rattle.std.specs.Prelude.{◌≡◌, false, List, [], ◌∷◌, ◌++◌, ℕ, zero, suc, length}
use Rattle.model.specs.Outcome.{Cells, class, word}
use Rattle.model.specs.Table.{EXPRESSIONS, NAMED, CALLEE}
use Rattle.model.specs.Tree.{Function, flat_list, flat_block, flat, Entry}
use Rattle.model.specs.Module.{Module}
use Rattle.model.specs.Redirect.{function as function_at}
use Rattle.model.specs.Tables.{names, count}
use Rattle.model.specs.Imports.{Derived, unless_mapped}
use Rattle.model.specs.Bodies.{known, Builder, carried, import_initialiser, keep_names, appended}
use Rattle.theory_bodies.specs.Shallow.{need, glance}
use Rattle.theory_passes.specs.Pass.{passed, after, written, named, rows, front, begin}
use Rattle.theory_passes.specs.Light.{still}
use Rattle.theory_passes.specs.Operands.{outward, inside}
use Rattle.derive_state.specs.Flats.{function_of, entry_of}
use Rattle.derive_state.specs.Held.{Named}

-- o is the offset of spans, M the source
module _ (o : ℕ) (M : Module) where
  -- ---- a function
  module _ (follow : ℕ → Derived → Derived) (F : Function) where
    -- its initialisers merge; its body imports an expression (`need`), or looks at it in an Emit's first pass (`glance`)
    abbrev u : ℕ → Builder → Builder
    u = import_initialiser o M still F.exprs

    abbrev p : ℕ → Builder → Builder
    p = need o M still F.exprs

    abbrev q : ℕ → Builder → Builder
    q = glance o M still F.exprs

    -- after the declarations, the body and the names
    unfoldable pub declared_s : Derived → Builder
    declared_s s = after o M still u u (front F) (begin F s)

    unfoldable pub walked_s : Derived → Builder
    walked_s s = after o M follow p q (flat_block F.body) (declared_s s)

    unfoldable pub kept_s : Derived → List (ℕ × ℕ)
    kept_s s = keep_names F.named (walked_s s).memo []

    unfoldable pub final_s : Derived → Builder
    final_s s = named o M still p q (kept_s s) (walked_s s)

    -- what they write
    unfoldable pub front_s : Derived → Cells
    front_s s = written o M still u u (front F) false (begin F s)

    unfoldable pub names_s : Derived → Cells
    names_s s = rows o M still p q (kept_s s) (walked_s s)

    unfoldable pub body_s : Derived → Cells
    body_s s = written o M follow p q (flat_block F.body) false (declared_s s)

    unfoldable pub cells_s : Derived → Cells
    cells_s s = front_s s ++ flat_list EXPRESSIONS (walked_s s).made ++ ((NAMED, length (kept_s s)) ∷ names_s s) ++ body_s s

  -- ---- import_function, and a call to a name that is not yet known
  -- function n is appended
  unfoldable pub append_s : (ℕ → Derived → Derived) → ℕ → Derived → Derived
  append_s follow n s = appended (function_of (cells_s follow (function_at M n) s)) (final_s follow (function_at M n) s).out

  -- it is, if its name is not known and there is room for one more function in progress
  unfoldable pub follow_s : ℕ → ℕ → Derived → Derived
  follow_s zero n s = s
  follow_s (suc k) n s = unless_mapped (known M s n) (λ z. append_s (follow_s k) n s) s

  -- ---- an entry point: its function, then what its head refers to
  unfoldable pub entered_s : (ℕ → Derived → Derived) → Entry → Derived → Builder
  entered_s follow e s = let m = final_s follow e.function s in inside o M still (outward o M still e.head m.out) m

  unfoldable pub entry_cells_s : (ℕ → Derived → Derived) → Entry → Derived → Cells
  entry_cells_s follow e s = carried o M (entered_s follow e s) e.head ++ cells_s follow e.function s

  unfoldable pub entry_s : (ℕ → Derived → Derived) → Entry → Derived → Entry
  entry_s follow e s = entry_of (entry_cells_s follow e s)

  -- ---- records that can be read, whose names are among the first n: that of a function, and those of the functions that its calls import
  pub record Reads (n : ℕ) (cs : Cells) : Type 0 where
    pub whole : flat (function_of cs) ≡ cs
    pub named : Named n cs

  module _ (ready : ℕ → Derived → Type 0) (follow : ℕ → Derived → Derived) (F : Function) where
    -- from any cell of the body on
    unfoldable pub ReadyFrom : Cells → Builder → Type 0
    ReadyFrom [] m = Unit {0}
    ReadyFrom (c ∷ cs) m = (class c ≡ CALLEE → ready (word c) m.out) × ReadyFrom cs (passed o M follow (need o M still F.exprs) (glance o M still F.exprs) c cs m)

    -- the record of F, and those of the functions that it calls
    unfoldable pub ReadyF : Derived → Type 0
    ReadyF s = Reads (count (final_s follow F s).out.recs names) (cells_s follow F s) × ReadyFrom (flat_block F.body) (declared_s follow F s)

  -- those of function n, if its name is not known
  unfoldable pub Ready : ℕ → ℕ → Derived → Type 0
  Ready zero n s = Unit {0}
  Ready (suc k) n s = known M s n ≡ 0 → ReadyF (Ready k) (follow_s k) (function_at M n) s
