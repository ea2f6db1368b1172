-- Linking in an order: what appending all functions in output order leaves of a valid session, and what is answered. No import makes the session too large.
use Rattle.std.specs.Prelude.{◌≡◌, true, List, [], ◌∷◌, ℕ, ◌<◌, ◌≤◌, length, take, Result}
use Rattle.std.proofs.lemmas.List.Edits.{sets}
use Rattle.base_words.specs.Words.{bytes_of}
use Rattle.model.specs.Module.{Module, count_at, write}
use Rattle.model.specs.Calls.{ordered}
use Rattle.model.specs.Callees.{order_of}
use Rattle.model.specs.Imports.{Derived}
use Rattle.model.specs.Bodies.{append, follow}
use Rattle.model.specs.Refusals.{done}
use Rattle.model.specs.Link.{append_all, link_by, link_answer}
use Rattle.theory_link.specs.Demand.{Linking}
use Rattle.derive_state.specs.Source.{mod_of, Source}
use Rattle.derive_state.specs.Held.{st_of, Over, SameArrays}
use Rattle.derive_state.specs.Sizes.{Sizes, going, told}
use Rattle.derive_state.specs.declared.Full.{Full as Full'}
use Rattle.derive_state.specs.declared.Sizes.{Sizes as Sizes'}
use Rattle.derive_state.specs.declared.DerivedMut.{DerivedMut}
use Rattle.function_builder.specs.Stacks.{Stacks}
use Rattle.derive_session.specs.Valid.{ValidSession}

-- these are functions, and the state after each is not too large
unfoldable pub Roomy : Module → List ℕ → Derived → Type 0
Roomy m [] s = Unit {0}
Roomy m (i ∷ is) s = (i < length m.functions) × (Over 0 (append 0 m (follow 0 m) i s) → ⊥) × Roomy m is (append 0 m (follow 0 m) i s)

-- the first `all` numbers of `order` are the output order of the source of the first n words
pub record Sequence (words : List ℕ) (n : ℕ) (order : List ℕ) (all : ℕ) : Type 0 where
  pub is : order_of (mod_of words n) ≡ ordered (take all order)
  pub counts : all ≡ count_at 6 words
  pub long : all ≤ length order

-- these functions are appended, and the session is valid: never full
pub record AppendAllEnsures (words tags : List ℕ) (n : ℕ) (is log₀ logtags₀ : List ℕ) (starts₀ maps₀ : List (List ℕ)) (e : Sizes) (r : Sizes) (log logtags : List ℕ) (starts maps : List (List ℕ)) (buckets special : List ℕ) (stacks : List (List ℕ)) : Type 0 where
  pub same : append_all is 0 (mod_of words n) (st_of words log₀ logtags₀ starts₀ maps₀ special e) ≡ st_of words log logtags starts maps special r
  pub live : ValidSession true n 0 words tags log logtags starts maps buckets special r
  pub stacks_are : Stacks stacks r

-- the same of a derived module in the caller's arrays
pub record AppendsAll (words tags : List ℕ) (n : ℕ) (is : List ℕ) (d : DerivedMut) (special : List ℕ) (e : Sizes') (r : Result Sizes' Full') (d' : DerivedMut) (stacks : List (List ℕ)) : Type 0 where
  pub does : AppendAllEnsures words tags n is d.log.now d.logtags.now d.starts.now d.maps.now (going e) (told r) d'.log.now d'.logtags.now d'.starts.now d'.maps.now d'.buckets.now special stacks
  pub same : SameArrays d d'

-- words and tags of an image that passed intake, the order of its functions, and an output that is no shorter
pub record Linkable (words tags : List ℕ) (n : ℕ) (order output : List ℕ) : Type 0 where
  pub source_is : Source words tags n
  pub linking : Linking (take n words) (length output) (mod_of words n)
  pub sequence : Sequence words n order (count_at 6 words)

-- the module that the words hold, linked in that order: how many bytes it has, which are at the start of the output
pub record LinkInOrderEnsures (words : List ℕ) (n : ℕ) (order output₀ : List ℕ) (r : ℕ) (output : List ℕ) : Type 0 where
  pub answer : r ≡ link_answer (done (write (link_by (take (count_at 6 words) order) (mod_of words n))))
  pub left : output ≡ sets output₀ 0 (bytes_of (write (link_by (take (count_at 6 words) order) (mod_of words n))))
