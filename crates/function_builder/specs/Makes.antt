-- What an operation does to a function under construction.
use Rattle.std.specs.Prelude.{◌≡◌, true, false, List, ℕ, ◌+◌, ◌≤◌, ◌<◌, length, get_or, take, Result}
use Rattle.model.specs.Outcome.{Cells}
use Rattle.model.specs.Tree.{flat_all}
use Rattle.model.specs.References.{alike_c}
use Rattle.model.specs.Bodies.{Builder}
use Rattle.derive_state.specs.Held.{row, cell, put, table_of, size_r, Over, ValidArrays, Same, Written, SameArrays}
use Rattle.derive_state.specs.Marks.{Marks}
use Rattle.derive_state.specs.Sizes.{Sizes, going, told}
use Rattle.function_builder.specs.Stacks.{making_of, Under}
use Rattle.derive_state.specs.declared.Full.{Full as Full'}
use Rattle.derive_state.specs.declared.Sizes.{Sizes as Sizes'}
use Rattle.derive_state.specs.declared.DerivedMut.{DerivedMut}

-- functions, entry points and pairs are as they were, and so is the stack of words; that of expressions has not shrunk
pub record Aside (starts starts' : List (List ℕ)) (e r : Sizes) : Type 0 where
  pub functions_same : (row starts' 6 ≡ row starts 6) × (get_or r.counts 6 0 ≡ get_or e.counts 6 0)
  pub entries_same : (row starts' 7 ≡ row starts 7) × (get_or r.counts 7 0 ≡ get_or e.counts 7 0)
  pub pairs-same : r.pairs ≡ e.pairs
  pub bt_same : r.bodytop ≡ e.bodytop
  pub et_more : e.exprtop ≤ r.exprtop

-- what was on the stacks is there: of expressions what lies below `low`
pub record Stays (low : ℕ) (stacks stacks' : List (List ℕ)) : Type 0 where
  pub expressions : (t : ℕ) → t < 3 → take low (row stacks' t) ≡ take low (row stacks t)
  pub body : row stacks' 3 ≡ row stacks 3

-- the arrays now hold f of what they held, or that is too large, with what waits below it on the stacks; what the log held is there
pub record Makes (words : List ℕ) (k : ℕ) (f : Builder → Builder) (log₀ logtags₀ : List ℕ) (starts₀ maps₀ : List (List ℕ)) (buckets₀ exprmap₀ : List ℕ) (stacks₀ : List (List ℕ)) (e₁ : ℕ) (e : Sizes)
    (r : Sizes) (log logtags : List ℕ) (starts maps : List (List ℕ)) (buckets exprmap : List ℕ) (stacks : List (List ℕ)) : Type 0 where
  pub over : r.full ≡ true → (special : List ℕ)
      → Over (size_r (table_of log₀ logtags₀ starts₀ e.counts 7) + (e₁ + e.bodytop + length (flat_all (f (making_of words k log₀ logtags₀ starts₀ maps₀ special e exprmap₀ stacks₀ e₁)).made))) (f (making_of words k log₀ logtags₀ starts₀ maps₀ special e exprmap₀ stacks₀ e₁)).out
  pub is : r.full ≡ false → (special : List ℕ) → f (making_of words k log₀ logtags₀ starts₀ maps₀ special e exprmap₀ stacks₀ e₁) ≡ making_of words k log logtags starts maps special r exprmap stacks e₁
  pub kept : r.full ≡ false → ValidArrays log logtags starts maps buckets r
  pub under : r.full ≡ false → Under k exprmap stacks e₁ r
  pub aside : r.full ≡ false → Aside starts₀ starts e r
  pub more : r.full ≡ false → e.loglen ≤ r.loglen
  pub stays : r.full ≡ false → Stays e₁ stacks₀ stacks
  pub below : Same e.loglen log₀ logtags₀ log logtags
  pub log_long : length log ≡ 16384
  pub tags_long : length logtags ≡ 16384
  pub marks_stay : Marks buckets₀ buckets

-- the same of an operation that writes nothing but the function's own map and the stacks
pub record Lays (words : List ℕ) (k : ℕ) (f : Builder → Builder) (log logtags : List ℕ) (starts maps : List (List ℕ)) (exprmap₀ : List ℕ) (stacks₀ : List (List ℕ)) (e₁ : ℕ) (e r : Sizes) (exprmap : List ℕ) (stacks : List (List ℕ)) : Type 0 where
  pub lays : (buckets : List ℕ) → ValidArrays log logtags starts maps buckets e → Makes words k f log logtags starts maps buckets exprmap₀ stacks₀ e₁ e r log logtags starts maps buckets exprmap stacks

-- an expression's cells are on the top of the stack
pub record Wrote (cs : Cells) (exprtop : ℕ) (stacks₀ stacks : List (List ℕ)) : Type 0 where
  pub cells : Written cs exprtop (row stacks₀ 0) (row stacks₀ 1) (row stacks 0) (row stacks 1)
  pub seats_same : row stacks 2 ≡ row stacks₀ 2
  pub body_same : row stacks 3 ≡ row stacks₀ 3
  pub four : length stacks ≡ 4

-- from expression k on none before r can have, in place i, a cell alike to that of the class s and the word y
pub record Hops (stacks : List (List ℕ)) (e₁ made i s y k r : ℕ) : Type 0 where
  pub low : k ≤ r
  pub high : r ≤ made
  pub not : (j : ℕ) → k ≤ j → j < r → (c : ℕ) → cell stacks 2 (e₁ + j) + i < 16384 → alike_c (c, cell stacks 0 (cell stacks 2 (e₁ + j) + i)) (s, y) ≡ false

-- one word more on the other; where there is no room for it the stacks stay
pub record Pushed (w : ℕ) (stacks₀ : List (List ℕ)) (e r : Sizes) (stacks : List (List ℕ)) : Type 0 where
  pub over : r.full ≡ true → e.bodytop ≡ 16384
  pub stays : r.full ≡ true → stacks ≡ stacks₀
  pub is : r.full ≡ false → stacks ≡ put stacks₀ 3 e.bodytop w
  pub ends : r.full ≡ false → r ≡ record { full = false; loglen = e.loglen; counts = e.counts; pairs = e.pairs; exprtop = e.exprtop; bodytop = e.bodytop + 1; made = e.made }
  pub room : r.full ≡ false → e.bodytop < 16384

-- Makes of what an operation makes of a derived module and its sizes, in the caller's arrays
pub record Builds (words : List ℕ) (k : ℕ) (f : Builder → Builder) (d : DerivedMut) (exprmap₀ : List ℕ) (stacks₀ : List (List ℕ)) (e₁ : ℕ) (e : Sizes') (r : Result Sizes' Full') (d' : DerivedMut) (exprmap : List ℕ) (stacks : List (List ℕ)) : Type 0 where
  pub does : Makes words k f d.log.now d.logtags.now d.starts.now d.maps.now d.buckets.now exprmap₀ stacks₀ e₁ (going e) (told r) d'.log.now d'.logtags.now d'.starts.now d'.maps.now d'.buckets.now exprmap stacks
  pub same : SameArrays d d'
