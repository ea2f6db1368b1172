-- `put_word` meets its contract: the word that is pushed is the one that was carried and moved.
use mathlib.Core.Path.{ap, ◌∙◌}
use Prim.Native.Nat.{ℕ}
use lib.ListN.{get_or}
use Rattle.model.specs.References.{target, moved}
use Rattle.function_words.proofs.Words.{pushed_as}
use Rattle.function_words.proofs.put_word.Goals as goal

pub carried-w-requires : goal.carried-w-requires
carried-w-requires c = record { all = c.requires.i_bound.1 }

pub returns : goal.returns
returns c = let a = c.args in pushed_as (c.moved.ensures ∙ ap (λ (x : ℕ). moved (target (get_or a.source.image.tags.now a.i 0)) x a.source.offset a.u) c.carried-w.ensures) c.push.ensures
