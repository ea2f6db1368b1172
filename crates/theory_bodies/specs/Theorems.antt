-- The theorems on the import of a function, each with its statement in full, for a source that passed intake's tests 3, 4 and 6 and a way to follow calls (`Follows`): the derived function agrees with its source, passes layout and tests 3, 4 and 6 again, is no larger, its body is imported without recursion, and its cells are the source's, carried.
use Rattle.std.specs.Prelude.{ℕ, zero, suc, ◌<◌, ◌≤◌, pred, ◌≡◌, refl, ◌≢◌, ◌⊎◌, true, false, length, get_or}
use Rattle.std.proofs.Common.{arith, sym, ◌∙◌}
use mathlib.Core.List.{List, [], ◌∷◌, map}
use Rattle.model.specs.Tree.{Function, flat}
use Rattle.model.specs.Module.{Module}
use Rattle.model.specs.Carry.{carry_cells, WellFormed}
use Rattle.model.specs.Numbers.{numbered, outside, sound_function}
use Rattle.model.specs.Tables.{Tab, tables, count}
use Rattle.model.specs.Lower.{lower, operands_lower}
use Rattle.model.specs.References.{function, Node, refs, through}
use Rattle.model.specs.Operands.{standing}
use Rattle.model.specs.Initial.{Mem, here, there, initial, initialised}
use Rattle.model.specs.Scope.{evals_b, all_of, seen, scoped}
use Rattle.model.specs.Callees.{callees}
use Rattle.model.specs.Imports.{Derived}
use Rattle.model.specs.Agreement.{body_of}
use Rattle.model.specs.Bodies.{Builder, mapped_to, import_block, rebuild_block, keep_names, name_cells, kept_names, declarations, declared, walked, rebuilt, derived, final, localized}
use Rattle.theory_walks.specs.Agreement.{Maps, mentioned, MayShare, Agrees, Carries}
use Rattle.theory_walks.specs.Called.{callees-carried}
use Rattle.theory_walks.proofs.Theorems.{carries}
use Rattle.theory_records.specs.RecordLaws.{All as AllN, all_both as alln-both, Has as HasN, bare}
use Rattle.theory_bodies.specs.Lists.{All}
use Rattle.theory_bodies.specs.Context.{InN, Grown, Law}
use Rattle.theory_bodies.specs.Inv.{Has, Un, place, Ext, LowN}
use Rattle.theory_bodies.specs.Carried.{Match}
use Rattle.theory_bodies.specs.Function.{maps_of, maps_match}
use Rattle.theory_bodies.specs.Function as Function
use Rattle.theory_bodies.specs.Shallow.{need, glance}
use Rattle.theory_bodies.specs.Quick as Quick
use Rattle.theory_bodies.specs.Steps.{own_ops}
use Rattle.theory_bodies.specs.Levels.{Lower}
use Rattle.theory_bodies.specs.Size as Size
use Rattle.theory_bodies.specs.Passing.{Passes, fine, initials-fine, named_twos}
use Rattle.theory_bodies.specs.Ranged as Ranged
use Rattle.theory_bodies.specs.Layout as Layout
use Rattle.theory_bodies.specs.Opened.{body_copied}
use Rattle.theory_bodies.specs.Lawful.{Good, import_good, Follows, lawful}

-- ---- what is required of callees can be met: where none is called, by doing nothing
pub none_followed : (M : Module) → WellFormed M → numbered M ≡ true → lower M ≡ true → (o : ℕ) → Follows o M (λ n s. s) (λ n. ⊥) (Good M)
none_followed M well three four o = record {
  is_good = λ s g. g;
  imports = λ t n s h g. import_good M well three four o t n s h g;
  good = λ n s h g. g;
  maps = λ n s h g. absurd h;
  keeps = λ n s h g. absurd h;
  knows = λ n s h g k w. refl;
  idle = λ n s h. refl;
  grown = λ n s h g. absurd h;
}

-- ---- a number that is not 0, less 1; for 0 another than its own
abbrev apart : ℕ → ℕ
apart zero = 1
apart (suc k) = k

apart-known : (v : ℕ) → 0 < v → apart v ≡ pred v
apart-known zero l = absurd (omega arith)
apart-known (suc k) l = refl

known_by : (v : ℕ) → pred v ≡ apart v → 0 < v
known_by zero e = absurd (omega (arith, e))
known_by (suc k) e = omega arith

same_at : (f g : ℕ → ℕ) (l : List ℕ) → map f l ≡ map g l → {h : ℕ} → Mem h l → f h ≡ g h
same_at f g [] e i = elim i [ ]
same_at f g (x ∷ l) e here = let z : f x ≡ g x = cc in z
same_at f g (x ∷ l) e (there i) = let z : map f l ≡ map g l = cc in same_at f g l z i

module _ (M : Module) (well : WellFormed M) (three : numbered M ≡ true) (four : lower M ≡ true) (o : ℕ) (follow : ℕ → Derived → Derived) (Q : ℕ → Type 0) (G : Derived → Type 0) (follows : Follows o M follow Q G)
    (F : Function) (pass : Passes M F) (calls : All Q (callees F)) (s : Derived) (good : G s) where
  abbrev law : Law o M follow Q G
  law = lawful M well three four o follow Q G follows

  abbrev fit : Function.Fine (Function.ctx o M follow Q G law F) F
  fit = fine o M follow Q G law F pass calls

  abbrev pub F' : Function
  F' = localized o M follow F s

  -- the builder after the declarations, and at the end
  abbrev pub dec : Builder
  dec = declared o M follow F s

  abbrev pub fin : Builder
  fin = final o M follow F s

  -- what an expression is mapped to
  abbrev pub φ : ℕ → ℕ
  φ = place fin.memo

  -- ---- 1. the invariant of the pass
  -- the derived tables and expressions only grow, and what is mapped stays mapped to the same
  pub grows : Ext M dec fin
  grows = Function.grows o M follow Q G law F fit s good

  pub out_grows : Grown s fin.out
  out_grows = Function.out_grows o M follow Q G law F fit s good

  pub out_good : G fin.out
  out_good = (Function.holds o M follow Q G law F fit s good).good

  -- all that the body reads and evaluates is mapped
  pub mapped : All (Has fin.memo) (mentioned F)
  mapped = Function.mentions_mapped o M follow Q G law F fit s good

  -- and nothing else but standing and initialiser expressions
  pub unmapped : (y : ℕ) → standing F.exprs y ≡ false → initial F y ≡ false → All (λ x. y ≢ x) (evals_b (seen F)) → Un fin.memo y
  unfolding initial
  unmapped = Function.only-mapped o M follow Q G law F fit s good

  -- the names of the named expressions that stay are mapped
  pub names_mapped : AllN (HasN (mapped_to M fin)) (refs (name_cells (kept_names o M follow F fin)))
  names_mapped = Function.names_has o M follow Q G law F fit s good

  -- ---- 2. the one_level form: `need` for an operand, `glance` for an Emit's first pass
  pub one_level : (import_block o M follow (need o M follow F.exprs) (glance o M follow F.exprs) F.body dec ≡ walked o M follow F dec)
      × (rebuild_block o M follow (need o M follow F.exprs) (glance o M follow F.exprs) F.body dec ≡ rebuilt o M follow F dec)
  one_level = Quick.quick o M follow Q G law F fit s good

  -- operands are lower, as the equations of an expression's import require (`Levels`)
  pub lower-refs : Lower F.exprs
  lower-refs e l = own_ops (Function.ctx o M follow Q G law F) fit.exprs (λ x. x < e) e (fit.exprs.lower e l)

  -- ---- 3. agreement, by any maps that are the linker's where it has mapped, at the end of this import or later
  pub agrees : (M' : Module) (μ : Maps) → Match μ φ Q (mapped_to M fin) → Agrees M M' μ F F' φ
  agrees M' μ match = Function.agrees o M follow Q G law F fit s good μ match M'

  -- so every walk of the derived function is the source's, carried
  pub walks : (M' : Module) (μ : Maps) → Match μ φ Q (mapped_to M fin) → (cs : List ℕ) → Carries μ F F' φ cs
  walks M' μ match cs = carries M M' μ F F' φ (agrees M' μ match) cs

  -- all that the body calls is known: callees are carried by any maps that match, also by maps that differ in what they make of unknown ones
  pub called : (h : ℕ) → Mem h (callees F) → 0 < mapped_to M fin function h
  called h i = known_by (mapped_to M fin function h) (same_at (maps_of (mapped_to M fin)).function (λ n. apart (mapped_to M fin function n)) (callees F) (sym (carried-callees (maps_of (mapped_to M fin)) (maps_match M Q fin)) ∙ carried-callees others others_match) i)
    where
      carried-callees : (μ : Maps) → Match μ φ Q (mapped_to M fin) → callees F' ≡ map μ.function (callees F)
      carried-callees μ match = callees-carried M M μ F F' φ (agrees M μ match)

      others : Maps
      others = record {
        type = (maps_of (mapped_to M fin)).type;
        constant = (maps_of (mapped_to M fin)).constant;
        override = (maps_of (mapped_to M fin)).override;
        global = (maps_of (mapped_to M fin)).global;
        global_expr = (maps_of (mapped_to M fin)).global_expr;
        function = λ n. apart (mapped_to M fin function n);
        in_function = λ i n. 0;
        in_entry = λ i n. 0;
      }

      others_match : Match others φ Q (mapped_to M fin)
      others_match = let m = maps_match M Q fin in record { of_types_lem = m.of_types_lem; of_constants_lem = m.of_constants_lem; of_overrides_lem = m.of_overrides_lem; of_globals_lem = m.of_globals_lem; of_inits = m.of_inits; of_functions = λ n q l. apart-known (mapped_to M fin function n) l; of_own = m.of_own }

  -- only standing or initialiser expressions share a record
  pub shares : (x y : ℕ) → Has fin.memo x → Has fin.memo y → φ x ≡ φ y → (x ≡ y) ⊎ (MayShare F x × MayShare F y)
  shares = Function.shares o M follow Q G law F fit s good

  -- ---- 4. no Emit of the derived function holds an initialiser expression
  pub nothing_dropped : all_of F' ≡ seen F'
  nothing_dropped = Function.nothing_dropped o M follow Q G law F fit s good (Function.maps_of (mapped_to M fin)) (Function.maps_match M Q fin) M

  -- test 6
  pub scoped_again : scoped F' ≡ true
  scoped_again = Function.scoped_again o M follow Q G law F fit s good (Function.maps_of (mapped_to M fin)) (Function.maps_match M Q fin) M pass.six (initials-fine o M follow Q G law F pass calls)

  -- references are in range, operands lower
  pub in_range_lem : (k : ℕ) → k < length F'.exprs → AllN (LowN fin.out k) (refs (get_or F'.exprs k []))
  in_range_lem = Function.derived_low o M follow Q G law F fit s good

  -- so is what the body reads and evaluates
  pub mentions_in : All (λ e. φ e < length F'.exprs) (mentioned F)
  mentions_in = Function.mentions_in o M follow Q G law F fit s good

  -- "initialisers of locals reach only those kinds", a rule of test 3
  pub initialised-again : initialised F' ≡ true
  initialised-again = Function.initialised-again o M follow Q G law F fit s good (initials-fine o M follow Q G law F pass calls)

  -- test 3, in any module that holds at least the tables and the functions derived by then
  pub sound-again : (D : Module) → ((t : Tab) → count fin.out.recs t ≤ count (tables D) t) → length fin.out.functions ≤ length D.functions → sound_function (outside D) F' ≡ true
  sound-again = Ranged.sound-again o M follow Q G law F pass calls s good

  -- test 4
  pub lower-again : operands_lower F'.exprs 0 ≡ true
  lower-again = Function.lower-again o M follow Q G law F fit s good

  -- so the derived function passes layout and the tests 3, 4 and 6, as its source did: it can be a source again
  pub passes-again : (D : Module) → ((t : Tab) → count fin.out.recs t ≤ count (tables D) t) → length fin.out.functions ≤ length D.functions → Passes D F'
  passes-again D r f = record { well = Layout.well_again o M follow Q G law F pass calls s good; three = sound-again D r f; four = lower-again; six = scoped_again }

  -- ---- 5. size
  pub expressions_fewer : length F'.exprs ≤ length F.exprs
  expressions_fewer = Size.exprs_fewer o M follow Q G law F fit s good

  pub named_fewer : length F'.named ≤ length F.named
  named_fewer = Size.named_fewer o M follow Q G law F fit s good

  pub words_fewer : length (flat F') ≤ length (flat F)
  words_fewer = Size.words_fewer o M follow Q G law F fit s good (named_twos o M follow Q G law F pass calls)

  -- ---- 6. cell by cell: the declarations are carried by the maps after them (`derived`), expressions and body by those in the end
  -- a number that is mapped, and may be met
  abbrev pub Met : Builder → Node → Type 0
  Met x j = HasN (mapped_to M x) j × InN M Q j

  pub declared_met : AllN (Met dec) (refs (declarations o M follow F))
  declared_met = alln-both (refs (declarations o M follow F)) (λ j h i. (h, i)) (Function.decl_has o M follow Q G law F fit s good) fit.declared_in

  -- an expression that is mapped, and its record
  pub record Kept (e : ℕ) : Type 0 where
    pub below : φ e < length F'.exprs
    pub same : bare (get_or F'.exprs (φ e) []) ≡ bare (carry_cells (through (mapped_to M fin)) (get_or F.exprs e []))
    pub met : AllN (Met fin) (refs (get_or F.exprs e []))

  pub kept : (e : ℕ) → Has fin.memo e → Kept e
  unfolding localized derived
  kept e h = let n = (Function.holds o M follow Q G law F fit s good).found e h in record {
    below = n.below;
    same = n.same;
    met = alln-both (refs (get_or F.exprs e [])) (λ j h i. (h, i)) n.ready (fit.exprs.inside e (Function.mapped_may o M follow Q G law F fit s good e h));
  }

  -- the body, opened (`body_opened` of proofs/Theorems.antt)
  pub record Opened : Type 0 where
    pub body_same : bare (body_of F') ≡ bare (carry_cells (through (mapped_to M fin)) (body_of F))

  -- the names of the named expressions that stay
  pub names_met : AllN (Met fin) (refs (name_cells (kept_names o M follow F fin)))
  unfolding kept_names
  names_met = alln-both (refs (name_cells (keep_names F.named fin.memo []))) (λ j h i. (h, i)) (unfold kept_names in names_mapped) (Function.names_in_lem M Q (keep_names F.named fin.memo []) (Function.keep_in M Q F.named fin.memo [] fit.named_in tt))
