-- SETTING A SOURCE that passed intake, in a session whose state the arrays hold and that has no entry points, is what the model's `set` answers: refusal 21 exactly
-- where they are full, else the session with that source and the state that they hold then. What is mapped before, and whether a source is set, does not matter.
use Rattle.std.specs.Prelude.{◌≡◌, true, false, List, [], ℕ, get_or}
use Rattle.std.proofs.Math.Path.{refl, ap}
use Rattle.std.proofs.Common.{◌∙◌}
use Rattle.std.proofs.Math.Option.{some}
use Rattle.model.specs.Refusals.{FULL}
use Rattle.model.specs.Carry.{WellFormed}
use Rattle.model.specs.Intake.{Passes}
use Rattle.model.specs.Tables.{six, tables, Maps}
use Rattle.model.specs.Imports.{Derived, unmapped, emptied}
use Rattle.model.specs.Special.{rays, pairs, sourced}
use Rattle.model.specs.Session.{Source, Session, answered, refused, set_module}
use Rattle.derive_state.specs.Source.{mod_of}
use Rattle.derive_state.specs.Held.{st_of}
use Rattle.derive_state.specs.Sizes.{Sizes}
use Rattle.derive_state.proofs.Laws.{none-held}
use Rattle.derive_limits.specs.Reached.{Reached}
use Rattle.derive_limits.proofs.Reached.{sourced-at}
use Rattle.derive_limits.specs.Theorems.{Exactly}
use Rattle.derive_limits.proofs.Theorems.{exact-at, kept_full, kept-room, kept_not_over}
use Rattle.derive_source.specs.SourceSet.{SetSourceEnsures}

-- the arrays hold the state, apart from the maps
pub record Holding (s : Derived) (log logtags : List ℕ) (starts : List (List ℕ)) (special : List ℕ) (e : Sizes) : Type 0 where
  pub holds : (m : Maps) (words : List ℕ) (maps : List (List ℕ)) → emptied m s ≡ emptied m (st_of words log logtags starts maps special e)

module _ (words log logtags : List ℕ) (starts maps : List (List ℕ)) (special : List ℕ) (e : Sizes) where
  -- with a source
  pub holding-set : Holding (st_of words log logtags starts maps special e) log logtags starts special e
  unfolding emptied st_of
  holding-set = record { holds = λ m words' maps'. refl }

  -- without one
  pub holding_cleared : Holding (emptied (six (λ t. [])) (st_of words log logtags starts maps special e)) log logtags starts special e
  unfolding emptied st_of
  holding_cleared = record { holds = λ m words' maps'. refl }

module _ {s : Session} (reach : Reached s) {words : List ℕ} {n o : ℕ} (well : WellFormed (mod_of words n)) (passes : Passes (mod_of words n)) {log₀ logtags₀ : List ℕ} {starts₀ maps₀ : List (List ℕ)} {special₀ : List ℕ} {e r : Sizes} {log logtags : List ℕ} {starts maps : List (List ℕ)} {buckets special : List ℕ}
    (h : Holding s.state log₀ logtags₀ starts₀ special₀ e) (no_entries : get_or e.counts 7 0 ≡ 0) (d : SetSourceEnsures words n o log₀ logtags₀ starts₀ maps₀ special₀ e r log logtags starts maps buckets special) where
  abbrev x : Source
  x = record { image = mod_of words n; offset = o }

  from : sourced o (mod_of words n) s.state ≡ sourced o (mod_of words n) (st_of words log₀ logtags₀ starts₀ maps₀ special₀ e)
  unfolding sourced
  from = ap (λ (y : Derived). pairs (mod_of words n).special.pairs o (tables (mod_of words n)) (rays (mod_of words n).special.rays 0 o (tables (mod_of words n)) y)) (h.holds (unmapped (tables (mod_of words n))) words maps₀)

  exact : Exactly (sourced o (mod_of words n) s.state) []
  exact = exact-at (sourced-at reach o (mod_of words n) well passes)

  pub set_full : r.full ≡ true → set_module o s (mod_of words n) ≡ refused FULL
  unfolding set_module
  set_full q = kept_full x tt exact (rw from (rw (none-held log₀ logtags₀ starts₀ e.counts no_entries).1 at (d.over q words)))

  pub set_room : r.full ≡ false → set_module o s (mod_of words n) ≡ answered tt (record { source = some x; state = st_of words log logtags starts maps special r })
  unfolding set_module
  set_room q =
      let is : sourced o (mod_of words n) s.state ≡ st_of words log logtags starts maps special r = from ∙ (d.is q).0 words in
      kept-room x tt exact (λ y. kept_not_over (d.is q).1 ((d.aside q).entries_same.1 ∙ no_entries) words special (rw is at y))
      ∙ ap (λ (y : Derived). answered tt (record { source = some x; state = y })) is
