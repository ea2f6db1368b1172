-- What deriving special types does to the arrays of a session: they change with the records and the maps.
use Rattle.std.specs.Prelude.{◌≡◌, true, false, List, ℕ, ◌≤◌, length, get_or, Result}
use Rattle.model.specs.Imports.{Derived}
use Rattle.model.specs.Tables.{Tables}
use Rattle.model.specs.Special.{keyed, pair_to}
use Rattle.derive_state.specs.Held.{row, table_of, st_of, size_r, Over, ValidArrays, Specials, Same, SameArrays}
use Rattle.derive_state.specs.Marks.{Marks}
use Rattle.derive_state.specs.Sizes.{Sizes, going, told}
use Rattle.derive_state.specs.declared.Full.{Full as Full'}
use Rattle.derive_state.specs.declared.Sizes.{Sizes as Sizes'}
use Rattle.derive_state.specs.declared.DerivedMut.{DerivedMut}

-- one pair of the source: a key and a type
unfoldable pub pair_of : ℕ → ℕ → ℕ → Tables → Derived → Derived
pair_of key h o T s = pair_to (keyed s.special.pairs key) key h o T s

-- functions and entry points are as they were, and so are the stacks of functions in progress
pub record Aside (starts starts' : List (List ℕ)) (e r : Sizes) : Type 0 where
  pub functions_same : (row starts' 6 ≡ row starts 6) × (get_or r.counts 6 0 ≡ get_or e.counts 6 0)
  pub entries_same : (row starts' 7 ≡ row starts 7) × (get_or r.counts 7 0 ≡ get_or e.counts 7 0)
  pub tops_same : (r.exprtop ≡ e.exprtop) × (r.bodytop ≡ e.bodytop) × (r.made ≡ e.made)

-- the arrays now hold f of the state that they held, special types included, or that is too large; what the log held is there
pub record SpecialEnsures (words : List ℕ) (f : Derived → Derived) (log₀ logtags₀ : List ℕ) (starts₀ maps₀ : List (List ℕ)) (buckets₀ special₀ : List ℕ) (e : Sizes) (r : Sizes) (log logtags : List ℕ) (starts maps : List (List ℕ)) (buckets special : List ℕ) : Type 0 where
  pub over : r.full ≡ true → Over (size_r (table_of log₀ logtags₀ starts₀ e.counts 7)) (f (st_of words log₀ logtags₀ starts₀ maps₀ special₀ e))
  pub is : r.full ≡ false → f (st_of words log₀ logtags₀ starts₀ maps₀ special₀ e) ≡ st_of words log logtags starts maps special r
  pub kept : r.full ≡ false → ValidArrays log logtags starts maps buckets r
  pub specials : r.full ≡ false → Specials special r
  pub aside : r.full ≡ false → Aside starts₀ starts e r
  pub more : r.full ≡ false → e.loglen ≤ r.loglen
  pub below : Same e.loglen log₀ logtags₀ log logtags
  pub log_long : length log ≡ 16384
  pub tags_long : length logtags ≡ 16384
  pub marks_stay : Marks buckets₀ buckets

-- SpecialEnsures of what an operation makes of a derived module and its sizes, in the caller's arrays
pub record Derives (words : List ℕ) (f : Derived → Derived) (d : DerivedMut) (special₀ : List ℕ) (e : Sizes') (r : Result Sizes' Full') (d' : DerivedMut) (special : List ℕ) : Type 0 where
  pub does : SpecialEnsures words f d.log.now d.logtags.now d.starts.now d.maps.now d.buckets.now special₀ (going e) (told r) d'.log.now d'.logtags.now d'.starts.now d'.maps.now d'.buckets.now special
  pub same : SameArrays d d'
