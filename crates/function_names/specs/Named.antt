-- The named expressions of a function that stay, as pairs on the stack of words, and their names imported.
use Rattle.std.specs.Prelude.{◌≡◌, true, false, List, [], ◌∷◌, map, ℕ, zero, suc, ◌+◌, ◌*◌, ◌<◌, length, get_or, take, Result}
use Rattle.std.proofs.Math.Seq.{slice}
use Rattle.model.specs.Outcome.{Cells, word}
use Rattle.model.specs.Table.{NAME, NAMED-EXPR}
use Rattle.model.specs.Module.{Module}
use Rattle.model.specs.Imports.{Derived}
use Rattle.model.specs.Bodies.{Builder}
use Rattle.theory_passes.specs.Pass.{named, rows}
use Rattle.theory_passes.specs.Light.{still}
use Rattle.derive_state.specs.Source.{mod_of}
use Rattle.derive_state.specs.Held.{row, st_of, ImportEnsures, SameArrays}
use Rattle.derive_state.specs.Sizes.{Sizes, going, told}
use Rattle.function_builder.specs.Stacks.{Stacks}
use Rattle.derive_state.specs.declared.Full.{Full as Full'}
use Rattle.derive_state.specs.declared.Sizes.{Sizes as Sizes'}
use Rattle.derive_state.specs.declared.DerivedMut.{DerivedMut}

-- ---- named expressions, as pairs on the stack of words
-- pairs as words
unfoldable pub pair_words : List (ℕ × ℕ) → List ℕ
pair_words [] = []
pair_words (p ∷ ps) = p.0 ∷ p.1 ∷ pair_words ps

-- words as pairs; a word that is left over is none
unfoldable pub pairs_in : List ℕ → List (ℕ × ℕ)
pairs_in [] = []
pairs_in (k ∷ []) = []
pairs_in (k ∷ w ∷ ws) = (k, w) ∷ pairs_in ws

-- those of the source, from `at` on
unfoldable pub named_records : List ℕ → ℕ → ℕ → List Cells
named_records words at zero = []
named_records words at (suc n) = ((NAMED-EXPR, get_or words at 0) ∷ (NAME, get_or words (suc at) 0) ∷ []) ∷ named_records words (suc (suc at)) n

-- pairs pushed after what is there
pub record KeepNamesEnsures (ps : List (ℕ × ℕ)) (stacks₀ : List (List ℕ)) (e r : Sizes) (stacks : List (List ℕ)) : Type 0 where
  pub over : r.full ≡ true → 16384 < e.bodytop + 2 * length ps
  pub is : r.full ≡ false → slice e.bodytop r.bodytop (row stacks 3) ≡ pair_words ps
  pub ends : r.full ≡ false → r ≡ record { full = false; loglen = e.loglen; counts = e.counts; pairs = e.pairs; exprtop = e.exprtop; bodytop = e.bodytop + 2 * length ps; made = e.made }
  pub below : r.full ≡ false → take e.bodytop (row stacks 3) ≡ take e.bodytop (row stacks₀ 3)
  pub expressions : (t : ℕ) → t < 3 → row stacks t ≡ row stacks₀ t
  pub stacks_are : r.full ≡ false → Stacks stacks r

-- ---- their names imported: no expression has a say in it
abbrev pub bare : Derived → Builder
bare s = record { out = s; memo = []; made = [] }

abbrev pub idle : ℕ → Builder → Builder
idle x m = m

unfoldable pub names_out : ℕ → Module → List (ℕ × ℕ) → Derived → Derived
names_out o M ps s = (named o M still idle idle ps (bare s)).out

unfoldable pub names_rows : ℕ → Module → List (ℕ × ℕ) → Derived → Cells
names_rows o M ps s = rows o M still idle idle ps (bare s)

-- the pairs that are on the stack from b on
unfoldable pub pairs_of : List (List ℕ) → ℕ → Sizes → List (ℕ × ℕ)
pairs_of stacks b e = pairs_in (slice b e.bodytop (row stacks 3))

pub record ImportNamesEnsures (words : List ℕ) (n o b : ℕ) (log₀ logtags₀ : List ℕ) (starts₀ maps₀ : List (List ℕ)) (buckets₀ : List ℕ) (stacks₀ : List (List ℕ)) (e : Sizes)
    (r : Sizes) (log logtags : List ℕ) (starts maps : List (List ℕ)) (buckets : List ℕ) (stacks : List (List ℕ)) : Type 0 where
  pub lands : ImportEnsures words (names_out o (mod_of words n) (pairs_of stacks₀ b e)) log₀ logtags₀ starts₀ maps₀ buckets₀ e r log logtags starts maps buckets
  pub rows_are : r.full ≡ false → (special : List ℕ) → slice b e.bodytop (row stacks 3) ≡ map word (names_rows o (mod_of words n) (pairs_of stacks₀ b e) (st_of words log₀ logtags₀ starts₀ maps₀ special e))
  pub below : r.full ≡ false → take b (row stacks 3) ≡ take b (row stacks₀ 3)
  pub expressions : (t : ℕ) → t < 3 → row stacks t ≡ row stacks₀ t
  pub stacks_are : r.full ≡ false → Stacks stacks r

-- ImportNamesEnsures of what an operation makes of a derived module and its sizes, in the caller's arrays
pub record ImportsNames (words : List ℕ) (n o b : ℕ) (d : DerivedMut) (stacks₀ : List (List ℕ)) (e : Sizes') (r : Result Sizes' Full') (d' : DerivedMut) (stacks : List (List ℕ)) : Type 0 where
  pub does : ImportNamesEnsures words n o b d.log.now d.logtags.now d.starts.now d.maps.now d.buckets.now stacks₀ (going e) (told r) d'.log.now d'.logtags.now d'.starts.now d'.maps.now d'.buckets.now stacks
  pub same : SameArrays d d'
