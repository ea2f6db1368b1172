-- What setting a source does to the arrays of a session.
use Rattle.std.specs.Prelude.{◌≡◌, Bool, true, false, List, ℕ, ◌≤◌, length, Result}
use Rattle.model.specs.Special.{sourced}
use Rattle.derive_state.specs.Source.{mod_of}
use Rattle.derive_state.specs.Held.{table_of, st_of, size_r, Over, ValidArrays, Specials, Same, SameArrays}
use Rattle.derive_state.specs.Marks.{Marks}
use Rattle.derive_state.specs.Sizes.{Sizes, going, told}
use Rattle.derive_special.specs.Derives.{Aside}
use Rattle.derive_state.specs.declared.Full.{Full as Full'}
use Rattle.derive_state.specs.declared.Sizes.{Sizes as Sizes'}
use Rattle.derive_state.specs.declared.DerivedMut.{DerivedMut}

-- the arrays hold the state with the source of the first n words set; what was mapped, and of which source, does not matter
pub record SourceTypesEnsures (words : List ℕ) (n o : ℕ) (log₀ logtags₀ : List ℕ) (starts₀ : List (List ℕ)) (buckets₀ special₀ : List ℕ) (e : Sizes) (r : Sizes) (log logtags : List ℕ) (starts maps : List (List ℕ)) (buckets special : List ℕ) : Type 0 where
  pub over : r.full ≡ true → (words₀ : List ℕ) (maps₀ : List (List ℕ)) → Over (size_r (table_of log₀ logtags₀ starts₀ e.counts 7)) (sourced o (mod_of words n) (st_of words₀ log₀ logtags₀ starts₀ maps₀ special₀ e))
  pub is : r.full ≡ false → (words₀ : List ℕ) (maps₀ : List (List ℕ)) → sourced o (mod_of words n) (st_of words₀ log₀ logtags₀ starts₀ maps₀ special₀ e) ≡ st_of words log logtags starts maps special r
  pub kept : r.full ≡ false → ValidArrays log logtags starts maps buckets r
  pub specials : r.full ≡ false → Specials special r
  pub aside : r.full ≡ false → Aside starts₀ starts e r
  pub more : r.full ≡ false → e.loglen ≤ r.loglen
  pub below : Same e.loglen log₀ logtags₀ log logtags
  pub log_long : length log ≡ 16384
  pub tags_long : length logtags ≡ 16384
  pub marks_stay : Marks buckets₀ buckets

-- the same, but where it is full the state is as it was, whatever source is set
pub record SetSourceEnsures (words : List ℕ) (n o : ℕ) (log₀ logtags₀ : List ℕ) (starts₀ maps₀ : List (List ℕ)) (special₀ : List ℕ) (e : Sizes) (r : Sizes) (log logtags : List ℕ) (starts maps : List (List ℕ)) (buckets special : List ℕ) : Type 0 where
  pub over : r.full ≡ true → (words₀ : List ℕ) → Over (size_r (table_of log₀ logtags₀ starts₀ e.counts 7)) (sourced o (mod_of words n) (st_of words₀ log₀ logtags₀ starts₀ maps₀ special₀ e))
  pub stays : r.full ≡ true → ((words₀ : List ℕ) → st_of words₀ log logtags starts maps special e ≡ st_of words₀ log₀ logtags₀ starts₀ maps₀ special₀ e) × ValidArrays log logtags starts maps buckets e × Specials special e
  pub is : r.full ≡ false → ((words₀ : List ℕ) → sourced o (mod_of words n) (st_of words₀ log₀ logtags₀ starts₀ maps₀ special₀ e) ≡ st_of words log logtags starts maps special r) × ValidArrays log logtags starts maps buckets r × Specials special r
  pub aside : r.full ≡ false → Aside starts₀ starts e r
  pub below : Same e.loglen log₀ logtags₀ log logtags

-- the special types as they were before, where something did not fit; else as they were made
pub record Replaced (full : Bool) (special₀ made special : List ℕ) : Type 0 where
  pub stays : full ≡ true → special ≡ special₀
  pub taken : full ≡ false → special ≡ made

-- SourceTypesEnsures of what an operation makes of a derived module and its sizes, in the caller's arrays
pub record SetsTypes (words : List ℕ) (n o : ℕ) (d : DerivedMut) (special₀ : List ℕ) (e : Sizes') (r : Result Sizes' Full') (d' : DerivedMut) (special : List ℕ) : Type 0 where
  pub does : SourceTypesEnsures words n o d.log.now d.logtags.now d.starts.now d.buckets.now special₀ (going e) (told r) d'.log.now d'.logtags.now d'.starts.now d'.maps.now d'.buckets.now special
  pub same : SameArrays d d'

-- SetSourceEnsures of what an operation makes of a derived module and its sizes, in the caller's arrays
pub record SetsSource (words : List ℕ) (n o : ℕ) (d : DerivedMut) (special₀ : List ℕ) (e : Sizes') (r : Result Sizes' Full') (d' : DerivedMut) (special : List ℕ) : Type 0 where
  pub does : SetSourceEnsures words n o d.log.now d.logtags.now d.starts.now d.maps.now special₀ (going e) (told r) d'.log.now d'.logtags.now d'.starts.now d'.maps.now d'.buckets.now special
  pub same : SameArrays d d'
