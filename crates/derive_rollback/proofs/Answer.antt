-- The number that the maps have is what an import answers.
use mathlib.Core.Path.{◌≡◌, sym, ap, ◌∙◌}
use mathlib.Core.List.{List}
use Prim.Native.Nat.{ℕ, ◌<◌, pred}
use Rattle.derive_state.specs.Refers.{tab_of}
use Rattle.derive_state.specs.Held.{cell}
use Rattle.derive_state.proofs.State.{code_tab}
use Rattle.derive_imports.proofs.Turns.{map_is}
use Rattle.derive_rollback.specs.Answered.{MappedToEnsures}

pub answers : (maps : List (List ℕ)) (t h r : ℕ) → t < 6 → r ≡ pred (cell maps t h) → MappedToEnsures maps t h r
answers maps t h r ht hr = record {
  is = λ words log logtags starts special e l.
      let m = map_is words log logtags starts maps special e (tab_of t) h (rw (code_tab t ht) l) in
      hr ∙ ap pred (sym (rw (code_tab t ht) at m));
}
