-- The loop of `import`, as its answers cite it: `Turn` for the import of one record of a table, whose number is not mapped.
use mathlib.Core.Path.{◌≡◌}
use mathlib.Core.Bool.{true, false}
use mathlib.Core.List.{List}
use Prim.Native.Nat.{ℕ, ◌+◌, ◌≤◌, ◌<◌}
use lib.ListN.{get_or}
use Rattle.model.specs.Module.{count_at}
use Rattle.model.specs.View.{record_at, record_end}
use Rattle.model.specs.Tables.{rec_at}
use Rattle.model.specs.References.{target, refs, shift}
use Rattle.model.specs.Imports.{intern, import_t}
use Rattle.theory_records.specs.Well.{rank}
use Rattle.derive_state.specs.Refers.{tab_of, went_r}
use Rattle.derive_state.specs.Source.{src_of, Source, refers_to, number_of}
use Rattle.derive_state.specs.Held.{cell, ValidArrays, ImportEnsures, carried_by}
use Rattle.derive_state.specs.Sizes.{Sizes}
use Rattle.derive_imports.proofs.Turns.{Turn, turn_in, turn_number, turn_falls, turn_full, turn-next, turn_skip, turn_settled, ends_in}

module _ {words tags : List ℕ} {n o t k : ℕ} {log₀ logtags₀ : List ℕ} {starts₀ maps₀ : List (List ℕ)} {buckets₀ : List ℕ} {e₀ : Sizes} (src : Source words tags n) (q : (t < 6) × (k < count_at t words) × (e₀.full ≡ false)) (K₀ : ValidArrays log₀ logtags₀ starts₀ maps₀ buckets₀ e₀) (new : cell maps₀ t k ≡ 0) {begin end : ℕ} (hb : begin ≡ record_at t k words) (he : end ≡ record_end t k words) where
  module _ {log logtags : List ℕ} {starts maps : List (List ℕ)} {buckets : List ℕ} {e : Sizes} {i : ℕ} (inv : Turn words tags n o t k (refs (rec_at (src_of words n) (tab_of t) k)) log₀ logtags₀ starts₀ maps₀ buckets₀ e₀ end log logtags starts maps buckets e i) where
    pub word_in : i < end → i < 16384
    word_in less = turn_in words tags n src o t k q.0 q.1 log₀ logtags₀ starts₀ maps₀ buckets₀ e₀ q.2 K₀ (import_t o (src_of words n) (tab_of t) k) (refs (rec_at (src_of words n) (tab_of t) k)) (ends_in words tags n src o t k q.0 q.1 log₀ logtags₀ starts₀ maps₀ buckets₀ e₀ q.2 K₀ new begin end hb he) begin end hb he log logtags starts maps buckets e i inv less

    module _ (less : i < end) {u : ℕ} (hu : u ≡ refers_to (target (get_or tags i 0)) (get_or words i 0)) where
      pub past : 6 ≤ u → Turn words tags n o t k (refs (rec_at (src_of words n) (tab_of t) k)) log₀ logtags₀ starts₀ maps₀ buckets₀ e₀ end log logtags starts maps buckets e (i + 1)
      past = turn_skip words tags n src o t k q.0 q.1 log₀ logtags₀ starts₀ maps₀ buckets₀ e₀ q.2 K₀ (import_t o (src_of words n) (tab_of t) k) (refs (rec_at (src_of words n) (tab_of t) k)) (ends_in words tags n src o t k q.0 q.1 log₀ logtags₀ starts₀ maps₀ buckets₀ e₀ q.2 K₀ new begin end hb he) begin end hb he log logtags starts maps buckets e i inv less u hu

      module _ (lt : u < 6) {m : ℕ} (hm : m ≡ number_of (target (get_or tags i 0)) (get_or words i 0)) where
        pub number_in : m < count_at u words
        number_in = turn_number words tags n src o t k q.0 q.1 log₀ logtags₀ starts₀ maps₀ buckets₀ e₀ q.2 K₀ (import_t o (src_of words n) (tab_of t) k) (refs (rec_at (src_of words n) (tab_of t) k)) (ends_in words tags n src o t k q.0 q.1 log₀ logtags₀ starts₀ maps₀ buckets₀ e₀ q.2 K₀ new begin end hb he) begin end hb he log logtags starts maps buckets e i inv less u hu lt m hm

        pub lower : rank (src_of words n) (tab_of u) m < rank (src_of words n) (tab_of t) k
        lower = turn_falls words tags n src o t k q.0 q.1 log₀ logtags₀ starts₀ maps₀ buckets₀ e₀ q.2 K₀ (import_t o (src_of words n) (tab_of t) k) (refs (rec_at (src_of words n) (tab_of t) k)) (ends_in words tags n src o t k q.0 q.1 log₀ logtags₀ starts₀ maps₀ buckets₀ e₀ q.2 K₀ new begin end hb he) begin end hb he log logtags starts maps buckets e i inv less u hu lt m hm

        module _ {r : Sizes} {log' logtags' : List ℕ} {starts' maps' : List (List ℕ)} {buckets' : List ℕ} (L : ImportEnsures words (import_t o (src_of words n) (tab_of u) m) log logtags starts maps buckets e r log' logtags' starts' maps' buckets') where
          pub fails : r.full ≡ true → ImportEnsures words (import_t o (src_of words n) (tab_of t) k) log₀ logtags₀ starts₀ maps₀ buckets₀ e₀ r log' logtags' starts' maps' buckets'
          fails = turn_full words tags n src o t k q.0 q.1 log₀ logtags₀ starts₀ maps₀ buckets₀ e₀ q.2 K₀ (import_t o (src_of words n) (tab_of t) k) (refs (rec_at (src_of words n) (tab_of t) k)) (ends_in words tags n src o t k q.0 q.1 log₀ logtags₀ starts₀ maps₀ buckets₀ e₀ q.2 K₀ new begin end hb he) begin end hb he log logtags starts maps buckets e i inv less u hu lt m hm r log' logtags' starts' maps' buckets' L

          pub goes_on : r.full ≡ false → Turn words tags n o t k (refs (rec_at (src_of words n) (tab_of t) k)) log₀ logtags₀ starts₀ maps₀ buckets₀ e₀ end log' logtags' starts' maps' buckets' r (i + 1)
          goes_on = turn-next words tags n src o t k q.0 q.1 log₀ logtags₀ starts₀ maps₀ buckets₀ e₀ q.2 K₀ (import_t o (src_of words n) (tab_of t) k) (refs (rec_at (src_of words n) (tab_of t) k)) (ends_in words tags n src o t k q.0 q.1 log₀ logtags₀ starts₀ maps₀ buckets₀ e₀ q.2 K₀ new begin end hb he) begin end hb he log logtags starts maps buckets e i inv less u hu lt m hm r log' logtags' starts' maps' buckets' L

    pub ends : end ≤ i → {r : Sizes} {log' logtags' : List ℕ} {starts' maps' : List (List ℕ)} {buckets' : List ℕ}
        → ImportEnsures words (intern (tab_of t) k (shift (carried_by (went_r maps) tags words begin end) o false)) log logtags starts maps buckets e r log' logtags' starts' maps' buckets'
        → ImportEnsures words (import_t o (src_of words n) (tab_of t) k) log₀ logtags₀ starts₀ maps₀ buckets₀ e₀ r log' logtags' starts' maps' buckets'
    ends done L = turn_settled words tags n src o t k q.0 q.1 log₀ logtags₀ starts₀ maps₀ buckets₀ e₀ q.2 K₀ new begin end hb he log logtags starts maps buckets e i inv done _ _ _ _ _ _ L
