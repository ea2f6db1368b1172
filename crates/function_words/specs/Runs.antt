-- What passing over words of a function does: to the builder, and to the stack of words.
use Rattle.std.specs.Prelude.{◌≡◌, true, false, List, [], ℕ, suc, ◌+◌, ◌≤◌, ◌<◌, length, get_or, take, Result}
use Rattle.std.proofs.Math.Seq.{slice}
use Rattle.model.specs.Table.{FROM, TO, STMT_KIND}
use Rattle.model.specs.Tree.{flat_all}
use Rattle.model.specs.Tables.{Maps, map_at}
use Rattle.model.specs.References.{Place, table, own, function, Node, refs, target}
use Rattle.model.specs.Bodies.{Builder, import_initialiser}
use Rattle.theory_records.specs.RecordLaws.{All}
use Rattle.theory_bodies.specs.Shallow.{need, glance}
use Rattle.theory_passes.specs.Light.{still}
use Rattle.derive_state.specs.Refers.{target_of}
use Rattle.derive_state.specs.Source.{mod_of}
use Rattle.derive_state.specs.Held.{row, table_of, maps_of, size_r, Over, ValidArrays, Same, SameArrays}
use Rattle.derive_state.specs.Marks.{Marks}
use Rattle.derive_state.specs.Sizes.{Sizes, going, told}
use Rattle.function_references.specs.Fits.{Legible}
use Rattle.function_references.specs.Cuts.{exprs_of}
use Rattle.function_builder.specs.Stacks.{making_of, Under}
use Rattle.function_builder.specs.declared.shader_function.ShaderFunction.{ShaderFunction}
use Rattle.derive_state.specs.declared.Full.{Full as Full'}
use Rattle.derive_state.specs.declared.Sizes.{Sizes as Sizes'}
use Rattle.derive_state.specs.declared.DerivedMut.{DerivedMut}

-- ---- how the expressions of a function are imported
-- those of initialisers
abbrev pub unites : ℕ → List ℕ → List ℕ → ℕ → List ℕ → ℕ → ℕ → Builder → Builder
unites o words tags n places k = import_initialiser o (mod_of words n) still (exprs_of words tags places k)

-- at a word of the body
abbrev pub needs : ℕ → List ℕ → List ℕ → ℕ → List ℕ → ℕ → ℕ → Builder → Builder
needs o words tags n places k = need o (mod_of words n) still (exprs_of words tags places k)

-- in an Emit's first pass
abbrev pub glances : ℕ → List ℕ → List ℕ → ℕ → List ℕ → ℕ → ℕ → Builder → Builder
glances o words tags n places k = glance o (mod_of words n) still (exprs_of words tags places k)

-- the same of what is read of a function: those of initialisers
abbrev pub unites_in : ShaderFunction → ℕ → Builder → Builder
unites_in f = unites f.source.offset f.source.image.words.now f.source.image.tags.now f.source.image.n f.places.now f.count

-- at a word of the body
abbrev pub needs_in : ShaderFunction → ℕ → Builder → Builder
needs_in f = needs f.source.offset f.source.image.words.now f.source.image.tags.now f.source.image.n f.places.now f.count

-- in an Emit's first pass
abbrev pub glances_in : ShaderFunction → ℕ → Builder → Builder
glances_in f = glances f.source.offset f.source.image.words.now f.source.image.tags.now f.source.image.n f.places.now f.count

-- ---- words of declarations: no Emit's range, no statement, no function among them
pub record Declares (words tags : List ℕ) (k at end : ℕ) : Type 0 where
  pub legible : Legible words tags k at end
  pub plain : (i : ℕ) → at ≤ i → i < end → (get_or tags i 0 ≡ FROM → ⊥) × (get_or tags i 0 ≡ TO → ⊥) × (get_or tags i 0 ≡ STMT_KIND → ⊥) × (target_of (target (get_or tags i 0)) ≡ 7 → ⊥)

-- words of a body: an Emit's range lies among the expressions
pub record Bodied (words tags : List ℕ) (k at end : ℕ) : Type 0 where
  pub legible : Legible words tags k at end
  pub ranges : (i : ℕ) → at ≤ i → i < end → get_or tags i 0 ≡ FROM → (suc i < end) × (get_or words (suc i) 0 ≤ k)

-- ---- what a first pass leaves of expressions
-- a record of a table is mapped
unfoldable pub Met : Maps → Place → ℕ → Type 0
Met ms (table t) j = map_at ms t j ≡ 0 → ⊥
Met ms own j = Unit {0}
Met ms function j = Unit {0}

abbrev pub MetN : Maps → Node → Type 0
MetN ms j = Met ms j.place j.num

-- where one of the expressions from a to b is not mapped, the records of tables that it refers to are
pub record Drawn (words tags places : List ℕ) (k : ℕ) (maps : List (List ℕ)) (exprmap : List ℕ) (a b : ℕ) : Type 0 where
  pub met : (y : ℕ) → a ≤ y → y < b → get_or exprmap y 0 ≡ 0 → All (MetN (maps_of words maps)) (refs (get_or (exprs_of words tags places k) y []))

-- ---- entry points and pairs are as they were, and the stacks have not shrunk
pub record Along (starts starts' : List (List ℕ)) (e r : Sizes) : Type 0 where
  pub entries_same : (row starts' 7 ≡ row starts 7) × (get_or r.counts 7 0 ≡ get_or e.counts 7 0)
  pub pairs-same : r.pairs ≡ e.pairs
  pub et_more : e.exprtop ≤ r.exprtop
  pub bt_more : e.bodytop ≤ r.bodytop

-- below what a function has on them the stacks are as they were
pub record Deep (exprtop bodytop : ℕ) (stacks stacks' : List (List ℕ)) : Type 0 where
  pub expressions : (t : ℕ) → t < 3 → take exprtop (row stacks' t) ≡ take exprtop (row stacks t)
  pub body : take bodytop (row stacks' 3) ≡ take bodytop (row stacks 3)

-- the arrays now hold f of what they held, and g says which words were pushed; or that is too large, with what waits below it on the stacks
pub record Runs (words : List ℕ) (k : ℕ) (f : Builder → Builder) (g : Builder → List ℕ) (log₀ logtags₀ : List ℕ) (starts₀ maps₀ : List (List ℕ)) (buckets₀ exprmap₀ : List ℕ) (stacks₀ : List (List ℕ)) (e₁ : ℕ) (e : Sizes)
    (r : Sizes) (log logtags : List ℕ) (starts maps : List (List ℕ)) (buckets exprmap : List ℕ) (stacks : List (List ℕ)) : Type 0 where
  pub over : r.full ≡ true → (special : List ℕ)
      → Over (size_r (table_of log₀ logtags₀ starts₀ e.counts 7)
      + (e₁ + e.bodytop + length (flat_all (f (making_of words k log₀ logtags₀ starts₀ maps₀ special e exprmap₀ stacks₀ e₁)).made) + length (g (making_of words k log₀ logtags₀ starts₀ maps₀ special e exprmap₀ stacks₀ e₁))))
      (f (making_of words k log₀ logtags₀ starts₀ maps₀ special e exprmap₀ stacks₀ e₁)).out
  pub is : r.full ≡ false → (special : List ℕ) → f (making_of words k log₀ logtags₀ starts₀ maps₀ special e exprmap₀ stacks₀ e₁) ≡ making_of words k log logtags starts maps special r exprmap stacks e₁
  pub wrote : r.full ≡ false → (special : List ℕ) → slice e.bodytop r.bodytop (row stacks 3) ≡ g (making_of words k log₀ logtags₀ starts₀ maps₀ special e exprmap₀ stacks₀ e₁)
  pub kept : r.full ≡ false → ValidArrays log logtags starts maps buckets r
  pub under : r.full ≡ false → Under k exprmap stacks e₁ r
  pub along : r.full ≡ false → Along starts₀ starts e r
  pub more : r.full ≡ false → e.loglen ≤ r.loglen
  pub deep : r.full ≡ false → Deep e₁ e.bodytop stacks₀ stacks
  pub below : Same e.loglen log₀ logtags₀ log logtags
  pub log_long : length log ≡ 16384
  pub tags_long : length logtags ≡ 16384
  pub marks_stay : Marks buckets₀ buckets

-- Runs of what an operation makes of a derived module and its sizes, in the caller's arrays
pub record Passes (words : List ℕ) (k : ℕ) (f : Builder → Builder) (g : Builder → List ℕ) (d : DerivedMut) (exprmap₀ : List ℕ) (stacks₀ : List (List ℕ)) (e₁ : ℕ) (e : Sizes') (r : Result Sizes' Full') (d' : DerivedMut) (exprmap : List ℕ) (stacks : List (List ℕ)) : Type 0 where
  pub does : Runs words k f g d.log.now d.logtags.now d.starts.now d.maps.now d.buckets.now exprmap₀ stacks₀ e₁ (going e) (told r) d'.log.now d'.logtags.now d'.starts.now d'.maps.now d'.buckets.now exprmap stacks
  pub same : SameArrays d d'

-- `Passes` of what is read of a function
abbrev pub PassesOf : ShaderFunction → (Builder → Builder) → (Builder → List ℕ) → DerivedMut → List ℕ → List (List ℕ) → Sizes' → Result Sizes' Full' → DerivedMut → List ℕ → List (List ℕ) → Type 0
PassesOf f g h d exprmap₀ stacks₀ e r d' exprmap stacks = Passes f.source.image.words.now f.count g h d exprmap₀ stacks₀ f.base e r d' exprmap stacks
