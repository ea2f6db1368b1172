-- Clearing a source: what is mapped, and of which source, does not matter in a session that has none. So nothing has to be written: the arrays hold the state
-- that they held, with no maps.
use Rattle.std.specs.Prelude.{◌≡◌, List, [], ℕ}
use Rattle.std.proofs.Math.Path.{refl}
use Rattle.std.proofs.Math.Option.{Option, none}
use Rattle.model.specs.Module.{count_at}
use Rattle.model.specs.Tables.{Tab, names, types, constants, overrides, globals, exprs, code_t, six}
use Rattle.model.specs.Imports.{emptied}
use Rattle.model.specs.Session.{Source, clear}
use Rattle.derive_state.specs.Held.{maps_of, st_of}
use Rattle.derive_state.specs.Sizes.{Sizes}

module _ (words words' log logtags : List ℕ) (starts maps maps' : List (List ℕ)) (special : List ℕ) (e : Sizes) where
  pub cleared : (x : Option Source) → clear (record { source = x; state = st_of words log logtags starts maps special e }) ≡ record { source = none; state = emptied (six (λ t. [])) (st_of words' log logtags starts maps' special e) }
  unfolding clear emptied st_of
  cleared x = refl

  -- it is what they hold for words that have no records
  pub cleared_words : ((u : Tab) → count_at (code_t u) words ≡ 0) → st_of words log logtags starts maps special e ≡ emptied (six (λ t. [])) (st_of words' log logtags starts maps' special e)
  unfolding emptied st_of maps_of six code_t
  cleared_words h = rw (h names, h types, h constants, h overrides, h globals, h exprs)
