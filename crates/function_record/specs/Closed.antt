-- A function whole on the stacks becomes a record of the log, its parts in their order.
use Rattle.std.specs.Prelude.{◌≡◌, true, false, ◌⊎◌, List, [], ◌∷◌, ◌++◌, ℕ, zero, suc, ◌+◌, ◌*◌, ◌-◌, ◌≤◌, ◌<◌, length, get_or, set}
use Rattle.std.proofs.Math.Seq.{slice}
use Rattle.model.specs.Outcome.{Cells}
use Rattle.model.specs.Table.{NAME, NAMED-EXPR, EXPRESSIONS, NAMED}
use Rattle.model.specs.Between.{beside, between}
use Rattle.derive_state.specs.Held.{row, put, rec_at, Same}
use Rattle.derive_state.specs.Sizes.{Sizes}
use Rattle.function_names.specs.Named.{pairs_in}
use Rattle.function_record.specs.declared.FunctionPlace.{FunctionPlace}

-- ---- the record of what is on the stacks
-- the cells of named expressions, from their words
unfoldable pub name_cells : List ℕ → Cells
name_cells [] = []
name_cells (k ∷ []) = []
name_cells (k ∷ w ∷ ws) = (NAMED-EXPR, k) ∷ (NAME, w) ∷ name_cells ws

-- their classes
unfoldable pub named_classes : ℕ → List ℕ
named_classes zero = []
named_classes (suc n) = NAMED-EXPR ∷ NAME ∷ named_classes n

-- front words whose classes are in the source from s on, expressions, named expressions, and a body whose classes are there from `body` on
unfoldable pub closing : List ℕ → List (List ℕ) → Sizes → Sizes → ℕ → ℕ → ℕ → ℕ → Cells
closing logtags stacks before e s exprs body end =
    let b = before.bodytop in
    let f = b + (exprs - s) in
    let t = f + (end - body) in
    beside (slice s exprs logtags) (slice b f (row stacks 3))
    ++ ((EXPRESSIONS, e.made) ∷ between (row stacks 1) (row stacks 0) before.exprtop e.exprtop)
    ++ ((NAMED, length (pairs_in (slice t e.bodytop (row stacks 3)))) ∷ name_cells (slice t e.bodytop (row stacks 3)))
    ++ beside (slice body end logtags) (slice f t (row stacks 3))

-- the same by the function's place in the source
abbrev pub closed : List ℕ → List (List ℕ) → Sizes → Sizes → FunctionPlace → Cells
closed logtags stacks before e place = closing logtags stacks before e place.start place.exprs place.body place.end

-- how many words its declarations and its body have
abbrev pub carried_words : FunctionPlace → ℕ
carried_words place = (place.exprs - place.start) + (place.end - place.body)

-- c is a record of table t, after the log's end; or that is too large
pub record AppendRecordEnsures (c : Cells) (limit t : ℕ) (before e : Sizes) (log₀ logtags₀ : List ℕ) (starts₀ : List (List ℕ)) (r : Sizes) (log logtags : List ℕ) (starts : List (List ℕ)) : Type 0 where
  pub over : r.full ≡ true → (get_or e.counts t 0 ≡ limit) ⊎ (16384 < 23 + 2 * e.pairs + (e.loglen + suc (length c)))
  pub is : r.full ≡ false → rec_at log logtags e.loglen ≡ c
  pub size : r.full ≡ false → get_or log e.loglen 0 ≡ length c
  pub below : Same e.loglen log₀ logtags₀ log logtags
  pub log_long : length log ≡ 16384
  pub tags_long : length logtags ≡ 16384
  pub room : r.full ≡ false → (get_or e.counts t 0 < limit) × (23 + 2 * e.pairs + (e.loglen + suc (length c)) ≤ 16384)
  pub starts_are : r.full ≡ false → starts ≡ put starts₀ t (get_or e.counts t 0) e.loglen
  pub ends : r.full ≡ false → r ≡ record { full = false; loglen = e.loglen + suc (length c); counts = set e.counts t (get_or e.counts t 0 + 1); pairs = e.pairs; exprtop = before.exprtop; bodytop = before.bodytop; made = before.made }
