-- What the import of a function does to the arrays of a session.
use Rattle.std.specs.Prelude.{◌≡◌, true, false, List, ℕ, ◌+◌, get_or, Result}
use Rattle.model.specs.Imports.{Derived}
use Rattle.derive_state.specs.Held.{table_of, st_of, size_r, Over, ValidArrays, SameArrays}
use Rattle.derive_state.specs.Sizes.{Sizes, going, told}
use Rattle.derive_state.specs.declared.Full.{Full}
use Rattle.derive_state.specs.declared.Sizes.{Sizes as Sizes'}
use Rattle.derive_state.specs.declared.DerivedMut.{DerivedMut}
use Rattle.function_builder.specs.Stacks.{Stacks}

-- the arrays now hold f of the state that they held; or that is too large, and they hold the state that they held; in both cases the stacks are as before
pub record Brings (words special : List ℕ) (f : Derived → Derived) (log₀ logtags₀ : List ℕ) (starts₀ maps₀ : List (List ℕ)) (e : Sizes) (r : Sizes) (log logtags : List ℕ) (starts maps : List (List ℕ)) (buckets : List ℕ) (stacks : List (List ℕ)) : Type 0 where
  pub over : r.full ≡ true → Over (size_r (table_of log₀ logtags₀ starts₀ e.counts 7) + (e.exprtop + e.bodytop)) (f (st_of words log₀ logtags₀ starts₀ maps₀ special e))
  pub stays : r.full ≡ true → (st_of words log logtags starts maps special e ≡ st_of words log₀ logtags₀ starts₀ maps₀ special e) × ValidArrays log logtags starts maps buckets e × Stacks stacks e
  pub is : r.full ≡ false → (f (st_of words log₀ logtags₀ starts₀ maps₀ special e) ≡ st_of words log logtags starts maps special r) × ValidArrays log logtags starts maps buckets r × Stacks stacks r
  pub beside : r.full ≡ false → (get_or r.counts 7 0 ≡ get_or e.counts 7 0) × (r.pairs ≡ e.pairs) × (r.exprtop ≡ e.exprtop) × (r.bodytop ≡ e.bodytop)

-- the same of a derived module in the caller's arrays
pub record BringsTo (words special : List ℕ) (f : Derived → Derived) (d : DerivedMut) (e : Sizes') (r : Result Sizes' Full) (d' : DerivedMut) (stacks : List (List ℕ)) : Type 0 where
  pub does : Brings words special f d.log.now d.logtags.now d.starts.now d.maps.now (going e) (told r) d'.log.now d'.logtags.now d'.starts.now d'.maps.now d'.buckets.now stacks
  pub same : SameArrays d d'
