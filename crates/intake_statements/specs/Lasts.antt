-- How long each expression stays in scope. For expression e, of count, there is the word up to which it is in scope: 0 while it is not evaluated; what follows them is left from another function. At the word q, in a block whose scope stays at least up to the word k, those in scope (ρ) last up to k at least, and the others up to q at most.
use Rattle.std.specs.Prelude.{◌≡◌, Bool, true, false, ◌&&◌, List, [], ◌∷◌, ℕ, ◌+◌, ◌≤◌, ◌<◌, eqb, ltb, length, get_or, Some, None}
use Rattle.std.specs.declared.option.Option as code
use Rattle.std.proofs.Math.Option.{Option, none, some}
use Rattle.model.specs.Outcome.{Cells}
use Rattle.model.specs.Operands.{ops_of, result_of, standing_kind, standing}
use Rattle.model.specs.Scope.{in_range, live, has, add_e, add_opt, evals_opt, call_result, effect_result, all_vis}
use Rattle.intake_statements.specs.declared.expressions.Places.{Places}
use Rattle.intake_statements.specs.declared.expressions.Expressions.{Expressions}
use Rattle.intake_statements.specs.Fine.{fresh, one_e, next_e, fine_e}
use Rattle.intake_statements.specs.Tape.{cells_in, exprs_of, marks}

-- of count expressions those in scope, those evaluated (δ), and how long each lasts (u), at the word q
pub record Scope (count q k : ℕ) (ρ δ u : List ℕ) : Type 0 where
  pub long : length u ≡ 1024
  pub later : 0 < q
  pub known : (e : ℕ) → has ρ e ≡ true → e < count
  pub inside : (e : ℕ) → has ρ e ≡ true → k ≤ get_or u e 0
  pub outside : (e : ℕ) → e < count → has ρ e ≡ false → get_or u e 0 ≤ q
  pub done : (e : ℕ) → e < count → has δ e ≡ ltb 0 (get_or u e 0)

-- what was evaluated lasts as before, and what was not lasts at most up to k
pub record Kept (k : ℕ) (u₀ u : List ℕ) : Type 0 where
  pub same : (e : ℕ) → 0 < get_or u₀ e 0 → get_or u e 0 ≡ get_or u₀ e 0
  pub most : (e : ℕ) → get_or u₀ e 0 ≡ 0 → get_or u e 0 ≤ k

-- ---- answers
-- the answer, and where it is good the scope that is left
pub record Tells (count q k : ℕ) (u₀ u : List ℕ) (r ok : Bool) (ρ δ : List ℕ) : Type 0 where
  pub says : r ≡ ok
  pub scope : ok ≡ true → Scope count q k ρ δ u
  pub kept : ok ≡ true → Kept k u₀ u

-- ---- reads
-- is expression e in scope at the word `at`?
unfoldable pub visible_at : List ℕ → List ℕ → List ℕ → ℕ → ℕ → ℕ → Bool
visible_at ws st u count at e = elim (ltb e count) [ true ↦ elim (ltb at (get_or u e 0)) [ true ↦ true | false ↦ standing_kind (get_or ws (get_or st e 0) 0) ] | false ↦ false ]

-- are all of the list seen?
unfoldable pub all_seen : List ℕ → (ℕ → Bool) → Bool
all_seen [] seen = true
all_seen (e ∷ es) seen = seen e && all_seen es seen

-- the model's number, or none, as the code has it
unfoldable pub option_of : Option ℕ → code.Option ℕ
option_of none = None
option_of (some e) = Some e

-- the result o of a statement of the kind k whose first field is f
unfoldable pub fits_result : List Cells → ℕ → ℕ → Option ℕ → Bool
fits_result xs k f o = elim (eqb k 15) [ true ↦ call_result xs f o | false ↦ effect_result xs k o ]

-- ---- what is found of a statement without blocks
-- expression e of an Emit
pub record FoundE (ws ts st : List ℕ) (ini : List Bool) (count at keep e : ℕ) (u₀ u : List ℕ) (r : Bool) : Type 0 where
  pub found : (ρ δ : List ℕ) → Scope count at keep ρ δ u₀ → Tells count at keep u₀ u r (one_e (exprs_of ws ts st count) (marks ws ts st count ini) e ρ δ) (next_e (exprs_of ws ts st count) (marks ws ts st count ini) e ρ) (e ∷ δ)

-- the expressions from a on, before b
abbrev pub range_of : ℕ → ℕ → List ℕ
range_of a b = in_range (record { from = a; to = b })

-- an Emit, of the expressions from a on, before b
pub record FoundR (ws ts st : List ℕ) (ini : List Bool) (count at keep a b : ℕ) (u₀ u : List ℕ) (r : Bool) : Type 0 where
  pub found : (ρ δ : List ℕ) → Scope count at keep ρ δ u₀
      → Tells count at keep u₀ u r (fine_e (exprs_of ws ts st count) (marks ws ts st count ini) (range_of a b) ρ δ) (add_e (live (range_of a b) (marks ws ts st count ini)) ρ) (add_e (range_of a b) δ)

-- the result of a statement, and the whole of a statement without blocks
abbrev pub result_in : List ℕ → List ℕ → ℕ → ℕ → Option ℕ
result_in ws ts at stop = result_of (cells_in ws ts (at + 4) stop)

-- whether it fits, and is evaluated for the first time
abbrev pub result_ok : List ℕ → List ℕ → List ℕ → ℕ → ℕ → ℕ → List ℕ → Bool
result_ok ws ts st count at stop δ = fits_result (exprs_of ws ts st count) (get_or ws (at + 1) 0) (get_or ws (at + 4) 0) (result_in ws ts at stop) && fresh (evals_opt (result_in ws ts at stop)) δ

-- what is found of the result
pub record FoundO (ws ts st : List ℕ) (count at stop keep : ℕ) (u₀ u : List ℕ) (r : Bool) : Type 0 where
  pub found : (ρ δ : List ℕ) → Scope count at keep ρ δ u₀
      → Tells count at keep u₀ u r (result_ok ws ts st count at stop δ) (add_opt (result_in ws ts at stop) ρ) (add_e (evals_opt (result_in ws ts at stop)) δ)

-- what is found of the whole: its reads, and its result
pub record FoundL (ws ts st : List ℕ) (count at stop keep : ℕ) (u₀ u : List ℕ) (r : Bool) : Type 0 where
  pub found : (ρ δ : List ℕ) → Scope count at keep ρ δ u₀
      → Tells count at keep u₀ u r (all_vis (standing (exprs_of ws ts st count)) ρ (ops_of (cells_in ws ts (at + 4) stop)) && result_ok ws ts st count at stop δ) (add_opt (result_in ws ts at stop) ρ) (add_e (evals_opt (result_in ws ts at stop)) δ)

-- ---- the same of expressions as the code has them
-- whether an expression is in scope at the word `at`
abbrev pub seen_at : Places → List ℕ → ℕ → ℕ → Bool
seen_at x u at = visible_at x.cells.words.now x.starts.now u x.count at

-- expression e of an Emit
abbrev pub EvaluatedEnsures : Expressions → ℕ → ℕ → ℕ → List ℕ → List ℕ → Bool → Type 0
EvaluatedEnsures x = let p = x.places in FoundE p.cells.words.now p.cells.tags.now p.starts.now x.initial.now p.count

-- the Emit at the word `at`
abbrev pub EmitEnsures : Expressions → ℕ → ℕ → List ℕ → List ℕ → Bool → Type 0
EmitEnsures x at keep = let p = x.places in FoundR p.cells.words.now p.cells.tags.now p.starts.now x.initial.now p.count at keep (get_or p.cells.words.now (at + 4) 0) (get_or p.cells.words.now (at + 5) 0)

-- whether expression e may be the result of the statement at the word `at`
abbrev pub may_be_result : Places → ℕ → ℕ → Bool
may_be_result x at e = fits_result (exprs_of x.cells.words.now x.cells.tags.now x.starts.now x.count) (get_or x.cells.words.now (at + 1) 0) (get_or x.cells.words.now (at + 4) 0) (some e)

-- the result of the statement from `at` to `stop`
abbrev pub ResultEnsures : Places → ℕ → ℕ → ℕ → List ℕ → List ℕ → Bool → Type 0
ResultEnsures x = FoundO x.cells.words.now x.cells.tags.now x.starts.now x.count

-- the whole of it
abbrev pub SimpleEnsures : Places → ℕ → ℕ → ℕ → List ℕ → List ℕ → Bool → Type 0
SimpleEnsures x = FoundL x.cells.words.now x.cells.tags.now x.starts.now x.count
