-- A function in progress, whole on the stacks; and a function imported with those that it calls.
use Rattle.std.specs.Prelude.{◌≡◌, true, false, List, map, ℕ, ◌+◌, ◌≤◌, length, Result}
use Rattle.std.proofs.Math.Seq.{slice}
use Rattle.model.specs.Outcome.{word}
use Rattle.model.specs.Tree.{Function, flat_all, flat_block}
use Rattle.model.specs.Between.{between}
use Rattle.model.specs.Scope.{in_scope}
use Rattle.model.specs.Redirect.{function as function_at}
use Rattle.model.specs.Imports.{Derived}
use Rattle.theory_passes.specs.Pass.{front}
use Rattle.function_nesting.specs.Nested.{walked_s, final_s, front_s, names_s, body_s, cells_s, ReadyFrom, ReadyF, Ready, append_s, follow_s, declared_s}
use Rattle.derive_state.specs.Flats.{function_of}
use Rattle.derive_state.specs.Source.{mod_of}
use Rattle.derive_state.specs.Held.{row, table_of, st_of, size_r, Over, ValidArrays, Same, SameArrays}
use Rattle.derive_state.specs.Marks.{Marks}
use Rattle.derive_state.specs.Sizes.{Sizes, going, told}
use Rattle.function_builder.specs.Stacks.{Stacks}
use Rattle.function_words.specs.Runs.{Along, Deep}
use Rattle.derive_state.specs.declared.Full.{Full as Full'}
use Rattle.derive_state.specs.declared.Sizes.{Sizes as Sizes'}
use Rattle.derive_state.specs.declared.DerivedMut.{DerivedMut}
use Rattle.derive_state.specs.declared.NamedSource.{NamedSource}
use Rattle.function_builder.specs.Read.{module_of}

-- ---- a function of a source whose functions are in scope, with room for `room` functions in progress; each callee can be imported
-- F, after its declarations
pub record Nested (words : List ℕ) (n : ℕ) (log logtags : List ℕ) (starts maps : List (List ℕ)) (e : Sizes) (o room : ℕ) (F : Function) : Type 0 where
  pub scopes : in_scope (mod_of words n) ≡ true
  pub special : List ℕ
  pub ready : ReadyFrom o (mod_of words n) (Ready o (mod_of words n) room) (follow_s o (mod_of words n) room) F (flat_block F.body) (declared_s o (mod_of words n) (follow_s o (mod_of words n) room) F (st_of words log logtags starts maps special e))

-- the same where its declarations are still to come
pub record NestedF (words : List ℕ) (n : ℕ) (log logtags : List ℕ) (starts maps : List (List ℕ)) (e : Sizes) (o room : ℕ) (F : Function) : Type 0 where
  pub scopes : in_scope (mod_of words n) ≡ true
  pub special : List ℕ
  pub ready : ReadyF o (mod_of words n) (Ready o (mod_of words n) room) (follow_s o (mod_of words n) room) F (st_of words log logtags starts maps special e)

-- function f, if its name is not known
pub record NestedAt (words : List ℕ) (n : ℕ) (log logtags : List ℕ) (starts maps : List (List ℕ)) (e : Sizes) (o room f : ℕ) : Type 0 where
  pub scopes : in_scope (mod_of words n) ≡ true
  pub special : List ℕ
  pub ready : Ready o (mod_of words n) room f (st_of words log logtags starts maps special e)

-- ---- whole on the stacks: F's declarations, its body and its names, and its expressions; the tables are those after it. It is too large in each state where each callee can be imported (`ready`)
pub record LocalizeEnsures (words : List ℕ) (n o : ℕ) (ready : ℕ → Derived → Type 0) (follow : ℕ → Derived → Derived) (F : Function) (log₀ logtags₀ : List ℕ) (starts₀ maps₀ : List (List ℕ)) (buckets₀ : List ℕ) (stacks₀ : List (List ℕ)) (e : Sizes)
    (r : Sizes) (log logtags : List ℕ) (starts maps : List (List ℕ)) (buckets : List ℕ) (stacks : List (List ℕ)) : Type 0 where
  pub over : r.full ≡ true → (special : List ℕ) → ReadyFrom o (mod_of words n) ready follow F (flat_block F.body) (declared_s o (mod_of words n) follow F (st_of words log₀ logtags₀ starts₀ maps₀ special e))
      → Over (size_r (table_of log₀ logtags₀ starts₀ e.counts 7) + (e.exprtop + e.bodytop + length (cells_s o (mod_of words n) follow F (st_of words log₀ logtags₀ starts₀ maps₀ special e)))) (final_s o (mod_of words n) follow F (st_of words log₀ logtags₀ starts₀ maps₀ special e)).out
  pub is : r.full ≡ false → (special : List ℕ) → (final_s o (mod_of words n) follow F (st_of words log₀ logtags₀ starts₀ maps₀ special e)).out ≡ st_of words log logtags starts maps special r
  pub exprs : r.full ≡ false → (special : List ℕ) → between (row stacks 1) (row stacks 0) e.exprtop r.exprtop ≡ flat_all (walked_s o (mod_of words n) follow F (st_of words log₀ logtags₀ starts₀ maps₀ special e)).made
  pub made : r.full ≡ false → (special : List ℕ) → r.made ≡ length (walked_s o (mod_of words n) follow F (st_of words log₀ logtags₀ starts₀ maps₀ special e)).made
  pub fronts : r.full ≡ false → (special : List ℕ) → slice e.bodytop (e.bodytop + length (front F)) (row stacks 3) ≡ map word (front_s o (mod_of words n) follow F (st_of words log₀ logtags₀ starts₀ maps₀ special e))
  pub bodies : r.full ≡ false → (special : List ℕ)
      → slice (e.bodytop + length (front F)) (e.bodytop + length (front F) + length (flat_block F.body)) (row stacks 3) ≡ map word (body_s o (mod_of words n) follow F (st_of words log₀ logtags₀ starts₀ maps₀ special e))
  pub names : r.full ≡ false → (special : List ℕ) → slice (e.bodytop + length (front F) + length (flat_block F.body)) r.bodytop (row stacks 3) ≡ map word (names_s o (mod_of words n) follow F (st_of words log₀ logtags₀ starts₀ maps₀ special e))
  pub longer : r.full ≡ false → e.bodytop + length (front F) + length (flat_block F.body) ≤ r.bodytop
  pub kept : r.full ≡ false → ValidArrays log logtags starts maps buckets r
  pub along : r.full ≡ false → Along starts₀ starts e r
  pub more : r.full ≡ false → e.loglen ≤ r.loglen
  pub deep : r.full ≡ false → Deep e.exprtop e.bodytop stacks₀ stacks
  pub stacks_are : r.full ≡ false → Stacks stacks r
  pub below : Same e.loglen log₀ logtags₀ log logtags
  pub log_long : length log ≡ 16384
  pub tags_long : length logtags ≡ 16384
  pub marks_stay : Marks buckets₀ buckets

-- ---- imported: the arrays now hold f of the state that they held, or that is too large where the records on the way can be read (`ready`), with what waits on the stacks; these are as they were
pub record ImportFunctionEnsures (words : List ℕ) (ready : Derived → Type 0) (f : Derived → Derived) (log₀ logtags₀ : List ℕ) (starts₀ maps₀ : List (List ℕ)) (buckets₀ : List ℕ) (stacks₀ : List (List ℕ)) (e : Sizes)
    (r : Sizes) (log logtags : List ℕ) (starts maps : List (List ℕ)) (buckets : List ℕ) (stacks : List (List ℕ)) : Type 0 where
  pub over : r.full ≡ true → (special : List ℕ) → ready (st_of words log₀ logtags₀ starts₀ maps₀ special e) → Over (size_r (table_of log₀ logtags₀ starts₀ e.counts 7) + (e.exprtop + e.bodytop)) (f (st_of words log₀ logtags₀ starts₀ maps₀ special e))
  pub is : r.full ≡ false → (special : List ℕ) → f (st_of words log₀ logtags₀ starts₀ maps₀ special e) ≡ st_of words log logtags starts maps special r
  pub kept : r.full ≡ false → ValidArrays log logtags starts maps buckets r
  pub along : r.full ≡ false → Along starts₀ starts e r
  pub tops : r.full ≡ false → (r.exprtop ≡ e.exprtop) × (r.bodytop ≡ e.bodytop) × (r.made ≡ e.made)
  pub more : r.full ≡ false → e.loglen ≤ r.loglen
  pub deep : r.full ≡ false → Deep e.exprtop e.bodytop stacks₀ stacks
  pub stacks_are : r.full ≡ false → Stacks stacks r
  pub below : Same e.loglen log₀ logtags₀ log logtags
  pub log_long : length log ≡ 16384
  pub tags_long : length logtags ≡ 16384
  pub marks_stay : Marks buckets₀ buckets

-- LocalizeEnsures of what an operation makes of a derived module and its sizes, in the caller's arrays
pub record Localizes (words : List ℕ) (n o : ℕ) (ready : ℕ → Derived → Type 0) (follow : ℕ → Derived → Derived) (F : Function) (d : DerivedMut) (stacks₀ : List (List ℕ)) (e : Sizes') (r : Result Sizes' Full') (d' : DerivedMut) (stacks : List (List ℕ)) : Type 0 where
  pub does : LocalizeEnsures words n o ready follow F d.log.now d.logtags.now d.starts.now d.maps.now d.buckets.now stacks₀ (going e) (told r) d'.log.now d'.logtags.now d'.starts.now d'.maps.now d'.buckets.now stacks
  pub same : SameArrays d d'

-- ImportFunctionEnsures of what an operation makes of a derived module and its sizes, in the caller's arrays
pub record ImportsFunction (words : List ℕ) (ready : Derived → Type 0) (f : Derived → Derived) (d : DerivedMut) (stacks₀ : List (List ℕ)) (e : Sizes') (r : Result Sizes' Full') (d' : DerivedMut) (stacks : List (List ℕ)) : Type 0 where
  pub does : ImportFunctionEnsures words ready f d.log.now d.logtags.now d.starts.now d.maps.now d.buckets.now stacks₀ (going e) (told r) d'.log.now d'.logtags.now d'.starts.now d'.maps.now d'.buckets.now stacks
  pub same : SameArrays d d'

-- ---- the same of a source and of a derived module with its sizes
-- the function whose words lie from s to end
abbrev pub function_in : NamedSource → ℕ → ℕ → Function
function_in x s end = function_of (between x.image.tags.now x.image.words.now s end)

-- F can be imported after its declarations
abbrev pub NestedIn : NamedSource → DerivedMut → Sizes' → ℕ → Function → Type 0
NestedIn x d e room F = Nested x.image.words.now x.image.n d.log.now d.logtags.now d.starts.now d.maps.now (going e) x.offset room F

-- function f can be imported
abbrev pub NestedFIn : NamedSource → DerivedMut → Sizes' → ℕ → ℕ → Type 0
NestedFIn x d e room f = NestedF x.image.words.now x.image.n d.log.now d.logtags.now d.starts.now d.maps.now (going e) x.offset room (function_at (module_of x) f)

-- it can, if its name is not known
abbrev pub NestedAtIn : NamedSource → DerivedMut → Sizes' → ℕ → ℕ → Type 0
NestedAtIn x d e room f = NestedAt x.image.words.now x.image.n d.log.now d.logtags.now d.starts.now d.maps.now (going e) x.offset room f

-- F is whole on the stacks
abbrev pub LocalizesIn : NamedSource → ℕ → Function → DerivedMut → List (List ℕ) → Sizes' → Result Sizes' Full' → DerivedMut → List (List ℕ) → Type 0
LocalizesIn x room F d stacks₀ e r d' stacks = Localizes x.image.words.now x.image.n x.offset (Ready x.offset (module_of x) room) (follow_s x.offset (module_of x) room) F d stacks₀ e r d' stacks

-- function f is imported
abbrev pub AppendsIn : NamedSource → ℕ → ℕ → DerivedMut → List (List ℕ) → Sizes' → Result Sizes' Full' → DerivedMut → List (List ℕ) → Type 0
AppendsIn x room f d stacks₀ e r d' stacks = ImportsFunction x.image.words.now (ReadyF x.offset (module_of x) (Ready x.offset (module_of x) room) (follow_s x.offset (module_of x) room) (function_at (module_of x) f)) (append_s x.offset (module_of x) (follow_s x.offset (module_of x) room) f) d stacks₀ e r d' stacks

-- it is, if its name is not known
abbrev pub FollowsIn : NamedSource → ℕ → ℕ → DerivedMut → List (List ℕ) → Sizes' → Result Sizes' Full' → DerivedMut → List (List ℕ) → Type 0
FollowsIn x room f d stacks₀ e r d' stacks = ImportsFunction x.image.words.now (Ready x.offset (module_of x) room f) (follow_s x.offset (module_of x) room f) d stacks₀ e r d' stacks
