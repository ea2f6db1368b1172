-- What the functions on a body require, and what they find: the answer of Fine.antt, whether a Continue of the Loop around was met, and how long each expression then stays in scope.
use Rattle.std.specs.Prelude.{◌≡◌, Bool, true, false, List, [], ℕ, ◌≤◌, ◌<◌, length, get_or, Some, None}
use Rattle.std.specs.declared.option.Option.{Option}
use Rattle.intake_blocks.specs.declared.Place as code
use Rattle.intake_blocks.specs.declared.Flow.{Flow}
use Rattle.intake_blocks.specs.declared.Flow.TheVariants.{Through, Continues}
use Rattle.model.specs.Tree.{Stmt, Block, Range}
use Rattle.model.specs.Scope.{Place, in_body, expand_s, expand, add_s, holds_s, holds_b, cont_b}
use Rattle.intake_statements.specs.declared.expressions.Expressions.{Expressions}
use Rattle.intake_statements.specs.Fine.{done_b, done_s, fine_s, fine_b}
use Rattle.intake_statements.specs.Tape.{block_of, stmt_of, HoldsB, HoldsS, Ends, exprs_of, Exprs, marks}
use Rattle.intake_statements.specs.Lasts.{Scope, Kept}

-- none of the first count is evaluated
pub record Cleared (u : List ℕ) (count : ℕ) : Type 0 where
  pub long : length u ≡ 1024
  pub none : (e : ℕ) → e < count → get_or u e 0 ≡ 0

-- ---- answers
-- whether there is a Continue of the Loop around
unfoldable pub flow_of : Bool → Flow
flow_of false = Through
flow_of true = Continues

-- out of scope, or in scope, with a Continue of the Loop around or not
unfoldable pub told : Bool → Bool → Option Flow
told false h = None
told true h = Some (flow_of h)

-- the answer, and where it is good the scope that is left
pub record Finds (count q k : ℕ) (u₀ u : List ℕ) (r : Option Flow) (ok holds : Bool) (ρ δ : List ℕ) : Type 0 where
  pub says : r ≡ told ok holds
  pub scope : ok ≡ true → Scope count q k ρ δ u
  pub kept : ok ≡ true → Kept k u₀ u

-- a place, by what may stand there: a Break, a Continue, a Return
abbrev pub place_of : Bool → Bool → Bool → Place
place_of b c r = record { breaks = b; continues = c; returns = r }

-- the same, as the code has it
abbrev pub place_at : code.Place → Place
place_at p = place_of p.breaks p.continues p.returns

-- what a block keeps: up to the word keep, and from its first Continue on up to its end
unfoldable pub kept_of : Bool → ℕ → ℕ → ℕ
kept_of h keep fin = elim h [ true ↦ fin | false ↦ keep ]

-- ---- what the functions on a body require, and what they find
-- the words from `at` to `stop` are a statement, which keeps what it evaluates up to the word keep
pub record StmtHere (ws ts st : List ℕ) (count at stop keep : ℕ) : Type 0 where
  pub exprs : Exprs ws ts st count
  pub holds : HoldsS ws ts at stop (stmt_of ws ts at stop)
  pub ends : Ends ws ts count at stop
  pub later : 0 < at
  pub keeps : stop ≤ keep

-- the words from `at` to `fin` are a block, whose scope stays up to the word keep
pub record BlockHere (ws ts st : List ℕ) (count at fin keep : ℕ) : Type 0 where
  pub exprs : Exprs ws ts st count
  pub holds : HoldsB ws ts at fin (block_of ws ts at fin)
  pub ends : Ends ws ts count at fin
  pub later : 0 < at
  pub keeps : fin ≤ keep

-- what is found of a statement s, with ρ in scope and δ evaluated before it
abbrev pub FindsS : List ℕ → List ℕ → List ℕ → List Bool → ℕ → ℕ → ℕ → ℕ → Place → List ℕ → List ℕ → Option Flow → Stmt Range → List ℕ → List ℕ → Type 0
FindsS ws ts st ini count at stop keep p u₀ u r s ρ δ =
    Finds count stop keep u₀ u r (fine_s (exprs_of ws ts st count) (marks ws ts st count ini) s p ρ δ) (holds_s (expand_s s (marks ws ts st count ini))) (add_s (expand_s s (marks ws ts st count ini)) ρ) (done_s s δ)

-- the same of a block b
abbrev pub FindsB : List ℕ → List ℕ → List ℕ → List Bool → ℕ → ℕ → ℕ → ℕ → Place → List ℕ → List ℕ → Option Flow → Block Range → List ℕ → List ℕ → Type 0
FindsB ws ts st ini count at fin keep p u₀ u r b ρ δ =
    Finds count fin keep u₀ u r (fine_b (exprs_of ws ts st count) (marks ws ts st count ini) b p ρ δ) (holds_b (expand b (marks ws ts st count ini))) (cont_b (expand b (marks ws ts st count ini)) ρ) (done_b b δ)

-- what is found of the statement from `at` to `stop`, whatever is in scope before it
pub record FoundS (ws ts st : List ℕ) (ini : List Bool) (count at stop keep : ℕ) (p : Place) (u₀ u : List ℕ) (r : Option Flow) : Type 0 where
  pub found : (ρ δ : List ℕ) → Scope count at keep ρ δ u₀ → FindsS ws ts st ini count at stop keep p u₀ u r (stmt_of ws ts at stop) ρ δ

-- the same of the block from `at` to `fin`
pub record FoundB (ws ts st : List ℕ) (ini : List Bool) (count at fin keep : ℕ) (p : Place) (u₀ u : List ℕ) (r : Option Flow) : Type 0 where
  pub found : (ρ δ : List ℕ) → Scope count at keep ρ δ u₀ → FindsB ws ts st ini count at fin keep p u₀ u r (block_of ws ts at fin) ρ δ

-- ---- the same of expressions as the code has them, whose type says that they are laid out by their rows. Clauses: each call is of another statement or block, so that a struct with one as its ghost field would be made, with the proof, at each, as now the clause is shown
-- the words from `at` to `stop` are a statement, which keeps what it evaluates up to the word keep
pub record StmtRequires (x : Expressions) (at stop keep : ℕ) : Type 0 where
  pub holds : HoldsS x.places.cells.words.now x.places.cells.tags.now at stop (stmt_of x.places.cells.words.now x.places.cells.tags.now at stop)
  pub ends : Ends x.places.cells.words.now x.places.cells.tags.now x.places.count at stop
  pub later : 0 < at
  pub keeps : stop ≤ keep

-- the words from `at` to `fin` are a block, whose scope stays up to the word keep
pub record BlockRequires (x : Expressions) (at fin keep : ℕ) : Type 0 where
  pub holds : HoldsB x.places.cells.words.now x.places.cells.tags.now at fin (block_of x.places.cells.words.now x.places.cells.tags.now at fin)
  pub ends : Ends x.places.cells.words.now x.places.cells.tags.now x.places.count at fin
  pub later : 0 < at
  pub keeps : fin ≤ keep

-- what is found of the statement from `at` to `stop`
abbrev pub StmtEnsures : Expressions → ℕ → ℕ → ℕ → code.Place → List ℕ → List ℕ → Option Flow → Type 0
StmtEnsures x at stop keep p = FoundS x.places.cells.words.now x.places.cells.tags.now x.places.starts.now x.initial.now x.places.count at stop keep (place_at p)

-- the same of the block from `at` to `fin`
abbrev pub BlockEnsures : Expressions → ℕ → ℕ → ℕ → code.Place → List ℕ → List ℕ → Option Flow → Type 0
BlockEnsures x at fin keep p = FoundB x.places.cells.words.now x.places.cells.tags.now x.places.starts.now x.initial.now x.places.count at fin keep (place_at p)

-- whether the body from `at` to `end` is in scope, where nothing is evaluated before it
abbrev pub body_fine : Expressions → ℕ → ℕ → Bool
body_fine x at end =
    let p = x.places in
    fine_b (exprs_of p.cells.words.now p.cells.tags.now p.starts.now p.count) (marks p.cells.words.now p.cells.tags.now p.starts.now p.count x.initial.now) (block_of p.cells.words.now p.cells.tags.now at end) in_body [] []
