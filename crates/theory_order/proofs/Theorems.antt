-- All claims of `specs/Claims.antt` hold, by the theorems of `specs/Theorems.antt`.
use Rattle.std.specs.Prelude.{Bool, ℕ}
use Rattle.model.specs.Calls.{Reaches}
use Rattle.theory_order.specs.Claims.{Claims}
use Rattle.theory_order.specs.Ranks.{one_rank}
use Rattle.theory_order.specs.Theorems.{bound, rank_exactly, left_exactly, order_exactly, ring_counts, ring_answers, each_once, none_else, order_sorted, callees-first, one-count}

pub claims : (n : ℕ) (calls : ℕ → ℕ → Bool) → Claims n calls
claims n calls =
    record {
      rank_exactly = rank_exactly n calls;
      rank_unique = λ i r s a b. one_rank n calls a b;
      order_exactly = order_exactly n calls;
      each_once = each_once n calls;
      none_else = none_else n calls;
      callees-first = callees-first n calls;
      order_sorted = order_sorted n calls;
      ring_answers = ring_answers n calls;
      ring_counts = ring_counts n calls;
      count_unique = one-count n (Reaches n calls);
      left_exactly = left_exactly n calls;
      bound = bound n calls;
    }
