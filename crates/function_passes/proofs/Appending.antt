-- An Emit's second pass, one expression of the range at a turn: it is mapped, or appended.
use mathlib.Core.Path.{◌≡◌, sym, subst}
use mathlib.Core.Bool.{true, false}
use mathlib.Core.List.{List}
use Prim.Native.Nat.{ℕ, ◌+◌, ◌≤◌, ◌<◌}
use native.Mathlib.Omega.{arith}
use lib.ListN.{get_or}
use Rattle.model.specs.Scope.{in_range}
use Rattle.model.specs.Bodies.{Builder, each_e, append_expr}
use Rattle.theory_passes.specs.Light.{still}
use Rattle.derive_state.specs.Source.{mod_of}
use Rattle.derive_state.specs.Held.{ValidArrays}
use Rattle.std.specs.Prelude.{Result, Err}
use Rattle.derive_state.specs.declared.Full.{Full}
use Rattle.derive_state.specs.declared.Sizes.{Sizes as Sizes'}
use Rattle.derive_state.specs.Sizes.{Sizes, told}
use Rattle.function_references.specs.Cuts.{exprs_of, Expressions}
use Rattle.function_builder.specs.Stacks.{Under}
use Rattle.function_builder.specs.Makes.{Makes, Lays}
use Rattle.function_expressions.proofs.Needs.{need-idle}
use Rattle.function_words.specs.Runs.{needs, Drawn}
use Rattle.function_passes.proofs.Drawn.{drawn_on, drawn_next, need_appends}
use Rattle.function_passes.proofs.Ranges.{Ranging, range_begin, range_more, range_full, range_done, needs_grow}

pub record Appending (words tags : List ℕ) (n : ℕ) (places : List ℕ) (k o a b : ℕ) (log logtags : List ℕ) (starts maps : List (List ℕ)) (exprmap₀ : List ℕ) (stacks₀ : List (List ℕ)) (e₁ : ℕ) (e₀ : Sizes)
    (e : Sizes) (exprmap : List ℕ) (stacks : List (List ℕ)) (x : ℕ) : Type 0 where
  pub ranging : (buckets : List ℕ) → ValidArrays log logtags starts maps buckets e₀ → Ranging words k (needs o words tags n places k) a b log logtags starts maps buckets exprmap₀ stacks₀ e₁ e₀ e log logtags starts maps buckets exprmap stacks x
  pub drawn : Drawn words tags places k maps exprmap x b

pub appending : {words tags : List ℕ} {n : ℕ} {places : List ℕ} {k o a b : ℕ} {log logtags : List ℕ} {starts maps : List (List ℕ)} {exprmap₀ : List ℕ} {stacks₀ : List (List ℕ)} {e₁ : ℕ} {e₀ : Sizes}
    → Under k exprmap₀ stacks₀ e₁ e₀ → e₀.full ≡ false → Drawn words tags places k maps exprmap₀ a b → Appending words tags n places k o a b log logtags starts maps exprmap₀ stacks₀ e₁ e₀ e₀ exprmap₀ stacks₀ a
appending U nf D = record { ranging = λ buckets K. range_begin K U nf; drawn = D }

module _ {words tags : List ℕ} {n : ℕ} {places : List ℕ} {k o a b : ℕ} {log logtags : List ℕ} {starts maps : List (List ℕ)} {exprmap₀ : List ℕ} {stacks₀ : List (List ℕ)} {e₁ : ℕ} {e₀ e : Sizes} {exprmap : List ℕ} {stacks : List (List ℕ)} {x : ℕ}
    (inv : Appending words tags n places k o a b log logtags starts maps exprmap₀ stacks₀ e₁ e₀ e exprmap stacks x) where
  pub append_done : b ≤ x → Lays words k (each_e (in_range (record { from = a; to = b })) (needs o words tags n places k)) log logtags starts maps exprmap₀ stacks₀ e₁ e₀ e exprmap stacks
  append_done l = record { lays = λ buckets K. range_done K (inv.ranging buckets K) l }

  module _ (X : Expressions words tags places k) (low : b ≤ k) (less : x < b) where
    pub append_skip : (get_or exprmap x 0 ≡ 0 → ⊥) → Appending words tags n places k o a b log logtags starts maps exprmap₀ stacks₀ e₁ e₀ e exprmap stacks (x + 1)
    append_skip ne = record {
      ranging = λ buckets K.
          let R = inv.ranging buckets K in
          range_more K R less (need-idle X n o R.going (R.makes.kept R.going) (R.makes.under R.going) (omega arith) ne) R.going;
      drawn = drawn_next inv.drawn;
    }

    module _ (new : get_or exprmap x 0 ≡ 0) {r : Sizes} {exprmap' : List ℕ} {stacks' : List (List ℕ)} (A : Lays words k (append_expr o (mod_of words n) still (exprs_of words tags places k) x) log logtags starts maps exprmap stacks e₁ e r exprmap' stacks') where
      module _ (buckets : List ℕ) (K : ValidArrays log logtags starts maps buckets e₀) where
        abbrev R : Ranging words k (needs o words tags n places k) a b log logtags starts maps buckets exprmap₀ stacks₀ e₁ e₀ e log logtags starts maps buckets exprmap stacks x
        R = inv.ranging buckets K

        abbrev K' : ValidArrays log logtags starts maps buckets e
        K' = R.makes.kept R.going

        turn : Makes words k (needs o words tags n places k x) log logtags starts maps buckets exprmap stacks e₁ e r log logtags starts maps buckets exprmap' stacks'
        turn = need_appends X n o K' (R.makes.under R.going) R.going less low inv.drawn new (A.lays buckets K')

      pub append_full : r.full ≡ true → Lays words k (each_e (in_range (record { from = a; to = b })) (needs o words tags n places k)) log logtags starts maps exprmap₀ stacks₀ e₁ e₀ r exprmap' stacks'
      append_full q = record { lays = λ buckets K. range_full K (R buckets K) less (turn buckets K) q (needs_grow o words tags n places k) }

      pub append-more : ((buckets : List ℕ) × ValidArrays log logtags starts maps buckets e₀) → r.full ≡ false → Appending words tags n places k o a b log logtags starts maps exprmap₀ stacks₀ e₁ e₀ r exprmap' stacks' (x + 1)
      append-more p q = record {
        ranging = λ buckets K. range_more K (R buckets K) less (turn buckets K) q;
        drawn = drawn_on X n o (K' p.0 p.1) ((R p.0 p.1).makes.under (R p.0 p.1).going) q low x (A.lays p.0 (K' p.0 p.1)) inv.drawn;
      }

-- ---- an answer that is passed on
pub refused : {words : List ℕ} {k : ℕ} {f : Builder → Builder} {log logtags : List ℕ} {starts maps : List (List ℕ)} {exprmap₀ : List ℕ} {stacks₀ : List (List ℕ)} {e₁ : ℕ} {e : Sizes} {exprmap : List ℕ} {stacks : List (List ℕ)} (r : Result Sizes' Full) (y : Full) → r ≡ Err y
    → Lays words k f log logtags starts maps exprmap₀ stacks₀ e₁ e (told (Err y)) exprmap stacks → Lays words k f log logtags starts maps exprmap₀ stacks₀ e₁ e (told r) exprmap stacks
refused {words} {k} {f} {log} {logtags} {starts} {maps} {exprmap₀} {stacks₀} {e₁} {e} {exprmap} {stacks} r y q L = subst (λ (r : Result Sizes' Full). Lays words k f log logtags starts maps exprmap₀ stacks₀ e₁ e (told r) exprmap stacks) (sym q) L
