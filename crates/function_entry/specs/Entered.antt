-- What the import of an entry point, and of all of them, does to the arrays.
use Rattle.std.specs.Prelude.{◌≡◌, true, false, ◌⊎◌, List, [], ◌∷◌, ◌++◌, ℕ, suc, ◌+◌, ◌≤◌, length, get_or, Result}
use Rattle.model.specs.Tree.{Entry}
use Rattle.model.specs.Imports.{Derived}
use Rattle.model.specs.Bodies.{enter_all, entries_made}
use Rattle.derive_limits.specs.Full.{Full}
use Rattle.function_nesting.specs.Nested.{entered_s, entry_cells_s, ReadyF, Ready, follow_s}
use Rattle.function_nesting.specs.Entries.{EntryMade}
use Rattle.derive_state.specs.Source.{mod_of}
use Rattle.derive_state.specs.Held.{table_of, entries_of, st_of, size_r, Over, ValidArrays, Same, SameArrays}
use Rattle.derive_state.specs.Marks.{Marks}
use Rattle.derive_state.specs.Sizes.{Sizes, going, told}
use Rattle.function_builder.specs.Stacks.{Stacks}
use Rattle.function_words.specs.Runs.{Deep}
use Rattle.derive_state.specs.declared.Full.{Full as Full'}
use Rattle.derive_state.specs.declared.Sizes.{Sizes as Sizes'}
use Rattle.derive_state.specs.declared.DerivedMut.{DerivedMut}
use Rattle.derive_state.specs.declared.NamedSource.{NamedSource}
use Rattle.function_builder.specs.Read.{module_of}
use Rattle.function_parts.specs.Part.{entry}

-- an entry point whose function and callees can be imported
pub record NestedE (words : List ℕ) (n : ℕ) (log logtags : List ℕ) (starts maps : List (List ℕ)) (e : Sizes) (o room : ℕ) (E : Entry) : Type 0 where
  pub special : List ℕ
  pub made : EntryMade o (mod_of words n) room E (st_of words log logtags starts maps special e)

-- it is imported, or, where the records of its functions can be read, that is too large: too many words with its record, or 16 are there; with what waits on the stacks, which are as they were
pub record EnterEnsures (words : List ℕ) (n o : ℕ) (ready : ℕ → Derived → Type 0) (follow : ℕ → Derived → Derived) (E : Entry) (log₀ logtags₀ : List ℕ) (starts₀ maps₀ : List (List ℕ)) (buckets₀ : List ℕ) (stacks₀ : List (List ℕ)) (e : Sizes)
    (r : Sizes) (log logtags : List ℕ) (starts maps : List (List ℕ)) (buckets : List ℕ) (stacks : List (List ℕ)) : Type 0 where
  pub over : r.full ≡ true → (special : List ℕ) → ReadyF o (mod_of words n) ready follow E.function (st_of words log₀ logtags₀ starts₀ maps₀ special e)
      → Over (size_r (table_of log₀ logtags₀ starts₀ e.counts 7) + suc (e.exprtop + e.bodytop + length (entry_cells_s o (mod_of words n) follow E (st_of words log₀ logtags₀ starts₀ maps₀ special e)))) (entered_s o (mod_of words n) follow E (st_of words log₀ logtags₀ starts₀ maps₀ special e)).out
      ⊎ (16 ≤ get_or e.counts 7 0)
  pub is : r.full ≡ false → (special : List ℕ) → (entered_s o (mod_of words n) follow E (st_of words log₀ logtags₀ starts₀ maps₀ special e)).out ≡ st_of words log logtags starts maps special r
  pub table : r.full ≡ false → (special : List ℕ) → table_of log logtags starts r.counts 7 ≡ table_of log₀ logtags₀ starts₀ e.counts 7 ++ (entry_cells_s o (mod_of words n) follow E (st_of words log₀ logtags₀ starts₀ maps₀ special e) ∷ [])
  pub count : r.full ≡ false → get_or r.counts 7 0 ≡ suc (get_or e.counts 7 0)
  pub kept : r.full ≡ false → ValidArrays log logtags starts maps buckets r
  pub pairs-same : r.full ≡ false → r.pairs ≡ e.pairs
  pub tops : r.full ≡ false → (r.exprtop ≡ e.exprtop) × (r.bodytop ≡ e.bodytop) × (r.made ≡ e.made)
  pub more : r.full ≡ false → e.loglen ≤ r.loglen
  pub deep : r.full ≡ false → Deep e.exprtop e.bodytop stacks₀ stacks
  pub stacks_are : r.full ≡ false → Stacks stacks r
  pub below : Same e.loglen log₀ logtags₀ log logtags
  pub log_long : length log ≡ 16384
  pub tags_long : length logtags ≡ 16384
  pub marks_stay : Marks buckets₀ buckets

-- all entry points of the source of the first n words, with the offset o; what the log held is there
pub record EnterAllEnsures (words : List ℕ) (n o : ℕ) (special log₀ logtags₀ : List ℕ) (starts₀ maps₀ : List (List ℕ)) (buckets₀ : List ℕ) (e : Sizes) (r : Sizes) (log logtags : List ℕ) (starts maps : List (List ℕ)) (buckets : List ℕ) (stacks : List (List ℕ)) : Type 0 where
  pub over : r.full ≡ true → Full (enter_all (mod_of words n).entries o (mod_of words n) (st_of words log₀ logtags₀ starts₀ maps₀ special e)) (entries_made (mod_of words n).entries o (mod_of words n) (st_of words log₀ logtags₀ starts₀ maps₀ special e))
  pub is : r.full ≡ false → st_of words log logtags starts maps special r ≡ enter_all (mod_of words n).entries o (mod_of words n) (st_of words log₀ logtags₀ starts₀ maps₀ special e)
  pub entries : r.full ≡ false → entries_of log logtags starts r.counts ≡ entries_made (mod_of words n).entries o (mod_of words n) (st_of words log₀ logtags₀ starts₀ maps₀ special e)
  pub kept : r.full ≡ false → ValidArrays log logtags starts maps buckets r
  pub stacks_are : r.full ≡ false → Stacks stacks r
  pub below : Same e.loglen log₀ logtags₀ log logtags
  pub log_long : length log ≡ 16384
  pub tags_long : length logtags ≡ 16384
  pub marks_stay : Marks buckets₀ buckets

-- EnterEnsures of what an operation makes of a derived module and its sizes, in the caller's arrays
pub record Enters (words : List ℕ) (n o : ℕ) (ready : ℕ → Derived → Type 0) (follow : ℕ → Derived → Derived) (E : Entry) (d : DerivedMut) (stacks₀ : List (List ℕ)) (e : Sizes') (r : Result Sizes' Full') (d' : DerivedMut) (stacks : List (List ℕ)) : Type 0 where
  pub does : EnterEnsures words n o ready follow E d.log.now d.logtags.now d.starts.now d.maps.now d.buckets.now stacks₀ (going e) (told r) d'.log.now d'.logtags.now d'.starts.now d'.maps.now d'.buckets.now stacks
  pub same : SameArrays d d'

-- EnterAllEnsures of what an operation makes of a derived module and its sizes, in the caller's arrays
pub record EntersAll (words : List ℕ) (n o : ℕ) (special : List ℕ) (d : DerivedMut) (e : Sizes') (r : Result Sizes' Full') (d' : DerivedMut) (stacks : List (List ℕ)) : Type 0 where
  pub does : EnterAllEnsures words n o special d.log.now d.logtags.now d.starts.now d.maps.now d.buckets.now (going e) (told r) d'.log.now d'.logtags.now d'.starts.now d'.maps.now d'.buckets.now stacks
  pub same : SameArrays d d'

-- ---- the same of a source and of a derived module with its sizes
-- entry point j can be imported
abbrev pub NestedEIn : NamedSource → DerivedMut → Sizes' → ℕ → ℕ → Type 0
NestedEIn x d e room j = NestedE x.image.words.now x.image.n d.log.now d.logtags.now d.starts.now d.maps.now (going e) x.offset room (entry (module_of x) j)

-- it is
abbrev pub EntersIn : NamedSource → ℕ → ℕ → DerivedMut → List (List ℕ) → Sizes' → Result Sizes' Full' → DerivedMut → List (List ℕ) → Type 0
EntersIn x room j d stacks₀ e r d' stacks = Enters x.image.words.now x.image.n x.offset (Ready x.offset (module_of x) room) (follow_s x.offset (module_of x) room) (entry (module_of x) j) d stacks₀ e r d' stacks

-- all are
abbrev pub EntersAllIn : NamedSource → List ℕ → DerivedMut → Sizes' → Result Sizes' Full' → DerivedMut → List (List ℕ) → Type 0
EntersAllIn x special d e r d' stacks = EntersAll x.image.words.now x.image.n x.offset special d e r d' stacks
