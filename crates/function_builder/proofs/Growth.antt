-- Each step only adds to the builder, in the tables and in the words of the expressions made: what is too large stays too large.
use mathlib.Core.List.{List}
use Prim.Native.Nat.{ℕ, ◌+◌, ◌≤◌}
use native.Mathlib.Nat.{le_refl, le_trans}
use native.Mathlib.Omega.{arith}
use lib.ListN.{length}
use Rattle.model.specs.Outcome.{Cells}
use Rattle.model.specs.Tree.{flat_all}
use Rattle.model.specs.Module.{Module}
use Rattle.model.specs.Tables.{tables}
use Rattle.model.specs.Imports.{Derived}
use Rattle.model.specs.Bodies.{Builder, bring, append_expr, intern_expr}
use Rattle.theory_passes.proofs.Growth.{Growing, longer}
use Rattle.theory_passes.specs.Light.{still}
use Rattle.derive_state.specs.Held.{Over, long, many, crowd, keys}
use Rattle.derive_imports.proofs.Growth.{Grow, stay, then, over_grow, grow_T}

pub record GrowM (m m' : Builder) : Type 0 where
  pub out_grows : Grow m.out m'.out
  pub made_grows : length (flat_all m.made) ≤ length (flat_all m'.made)

pub growing_by : (o : ℕ) (M : Module) (follow : ℕ → Derived → Derived) (xs : List Cells) → ((f : ℕ) (s : Derived) → Grow s (follow f s)) → Growing o M follow xs GrowM
unfolding bring append_expr intern_expr
growing_by o M follow xs calls = record {
  same = λ m. record { out_grows = stay m.out; made_grows = le_refl _ };
  next = λ a b c p q. record { out_grows = then p.out_grows q.out_grows; made_grows = le_trans p.made_grows q.made_grows };
  tables = λ t n m. record { out_grows = grow_T o (tables M) t n m.out; made_grows = le_refl _ };
  functions = λ f m. record { out_grows = calls f m.out; made_grows = le_refl _ };
  appends = λ e m. record { out_grows = stay m.out; made_grows = ((longer o M follow xs).appends e m).long };
  merges = λ e m. record { out_grows = stay m.out; made_grows = ((longer o M follow xs).merges e m).long };
}

pub growing : (o : ℕ) (M : Module) (xs : List Cells) → Growing o M still xs GrowM
growing o M xs = growing_by o M still xs (λ f s. stay s)

-- with more words beside it
pub over_more : (a b : ℕ) {s : Derived} → a ≤ b → Over a s → Over b s
over_more a b l (long h) = long (omega arith)
over_more a b l (many t h) = many t h
over_more a b l (crowd h) = crowd h
over_more a b l (keys h) = keys h

-- and the expressions made are beside it
pub over_grow_m : (p : ℕ) {m m' : Builder} → GrowM m m' → Over (p + length (flat_all m.made)) m.out → Over (p + length (flat_all m'.made)) m'.out
over_grow_m p {m} {m'} g h =
    let l = g.made_grows in
    over_more (p + length (flat_all m.made)) (p + length (flat_all m'.made)) (omega arith) (over_grow _ g.out_grows h)
