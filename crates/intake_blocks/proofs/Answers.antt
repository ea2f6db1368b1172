-- The way through a block, and answers. At every turn of a loop, what is left to do gives the answer of the whole.
use mathlib.Core.Path.{◌≡◌, refl, sym, ap}
use mathlib.Core.Bool.{Bool, true, false, ◌||◌}
use mathlib.Core.List.{List}
use Prim.Native.Nat.{ℕ, suc, ◌+◌, ◌-◌, ◌≤◌, ◌<◌}
use native.Mathlib.Omega.{arith}
use lib.ListN.{get_or}
use Rattle.intake_statements.specs.Tape.{Steps, steps_next, stepped}
use Rattle.std.specs.Bool.{then_some}
use Rattle.intake_blocks.specs.declared.Flow.{Flow}
use Rattle.intake_blocks.specs.declared.Flow.TheVariants.{Through, Continues}
use Rattle.intake_statements.specs.declared.expressions.Expressions.{Expressions}
use Rattle.intake_statements.proofs.Laid.{exprs}
use Rattle.intake_blocks.specs.Found.{flow_of, told, kept_of, StmtHere, BlockHere, StmtRequires, BlockRequires}

-- ---- through a block
pub record Skipping (ws : List ℕ) (n₀ i₀ k i : ℕ) : Type 0 where
  pub left : Steps ws (n₀ - k) i
  pub same : stepped (n₀ - k) ws i ≡ stepped n₀ ws i₀

steps_split : {ws : List ℕ} {m i : ℕ} → Steps ws (suc m) i → (i < 16384) × ((i + get_or ws i 0 ≤ 16384) × Steps ws m (i + get_or ws i 0))
steps_split (steps_next a b s) = (a, (b, s))

module _ (ws : List ℕ) (n₀ i₀ : ℕ) where
  pub skip_begin : Steps ws n₀ i₀ → Skipping ws n₀ i₀ 0 i₀
  skip_begin s = let e : n₀ - 0 ≡ n₀ = omega arith in record { left = rw e s; same = ap (λ n. stepped n ws i₀) e }

  module _ (k i : ℕ) (inv : Skipping ws n₀ i₀ k i) (h : k < n₀) where
    next : n₀ - k ≡ suc (n₀ - (k + 1))
    next = omega arith

    pub skip_in : i < 16384
    skip_in = (steps_split (rw next at inv.left)).0

    pub skip_far : i + get_or ws i 0 ≤ 16384
    skip_far = (steps_split (rw next at inv.left)).1.0

    pub skip_next : Skipping ws n₀ i₀ (k + 1) (i + get_or ws i 0)
    unfolding stepped
    skip_next = record { left = (steps_split (rw next at inv.left)).1.1; same = rw next at inv.same }

  pub skip_done : (k i : ℕ) → Skipping ws n₀ i₀ k i → n₀ ≤ k → i ≡ stepped n₀ ws i₀
  unfolding stepped
  skip_done k i inv h = let e : n₀ - k ≡ 0 = omega arith in rw e at inv.same

-- ---- answers
pub found_is : (b : Bool) → then_some b Through ≡ told b false
unfolding told flow_of
found_is true = refl
found_is false = refl

other : Through ≡ Continues → ⊥
other e = cc

pub then_through : (b : Flow) (h g : Bool) → Through ≡ flow_of h → b ≡ flow_of g → b ≡ flow_of (h || g)
unfolding flow_of
then_through b true g p q = absurd (other p)
then_through b false g p q = q

pub then_continues : (h g : Bool) → Continues ≡ flow_of h → Continues ≡ flow_of (h || g)
unfolding flow_of
then_continues true g p = refl
then_continues false g p = absurd (other (sym p))

pub kept_through : (keep fin : ℕ) (h : Bool) → Through ≡ flow_of h → keep ≡ kept_of h keep fin
unfolding flow_of kept_of
kept_through keep fin true p = absurd (other p)
kept_through keep fin false p = refl

pub kept_continues : (keep fin : ℕ) (h : Bool) → Continues ≡ flow_of h → fin ≡ kept_of h keep fin
unfolding flow_of kept_of
kept_continues keep fin true p = refl
kept_continues keep fin false p = absurd (other (sym p))

-- ---- a statement whose scope stays up to any word from its end on
pub here_for : {ws ts st : List ℕ} {count at stop k keep : ℕ} → StmtHere ws ts st count at stop k → stop ≤ keep → StmtHere ws ts st count at stop keep
here_for here h = record { exprs = here.exprs; holds = here.holds; ends = here.ends; later = here.later; keeps = h }

-- ---- what the functions require, with what the type of expressions says, and without
pub stmt_here : (x : Expressions) {at stop keep : ℕ} → StmtRequires x at stop keep → let p = x.places in StmtHere p.cells.words.now p.cells.tags.now p.starts.now p.count at stop keep
stmt_here x here = record { exprs = exprs x; holds = here.holds; ends = here.ends; later = here.later; keeps = here.keeps }

pub block_here : (x : Expressions) {at fin keep : ℕ} → BlockRequires x at fin keep → let p = x.places in BlockHere p.cells.words.now p.cells.tags.now p.starts.now p.count at fin keep
block_here x here = record { exprs = exprs x; holds = here.holds; ends = here.ends; later = here.later; keeps = here.keeps }

pub stmt_asks : (x : Expressions) {at stop keep : ℕ} → (let p = x.places in StmtHere p.cells.words.now p.cells.tags.now p.starts.now p.count at stop keep) → StmtRequires x at stop keep
stmt_asks x here = record { holds = here.holds; ends = here.ends; later = here.later; keeps = here.keeps }

pub block_asks : (x : Expressions) {at fin keep : ℕ} → (let p = x.places in BlockHere p.cells.words.now p.cells.tags.now p.starts.now p.count at fin keep) → BlockRequires x at fin keep
block_asks x here = record { holds = here.holds; ends = here.ends; later = here.later; keeps = here.keeps }
