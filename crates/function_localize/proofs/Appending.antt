-- `append` at its places: the function is in the source's table, and its record is appended.
use mathlib.Core.Path.{◌≡◌, refl, sym, ap, ◌∙◌}
use mathlib.Core.Bool.{true, false}
use mathlib.Core.List.{List, [], ◌++◌}
use Prim.Native.Nat.{ℕ, ◌+◌, ◌*◌, ◌-◌, ◌≤◌, ◌<◌}
use native.Mathlib.Omega.{arith}
use lib.ListN.{length, get_or}
use lib.Seq.{slice}
use Rattle.model.specs.Outcome.{Cells}
use Rattle.model.specs.Module.{count_at, flat_module}
use Rattle.model.specs.View.{record_at, record_end}
use Rattle.model.specs.FunctionView.{expressions_at}
use Rattle.model.specs.Between.{between}
use Rattle.model.specs.Redirect.{function as function_at}
use Rattle.model.specs.Scope.{in_scope}
use Rattle.theory_image.specs.Betweens.{between_none}
use Rattle.theory_image.specs.FunctionViews.{taped_length}
use Rattle.base_views.specs.Functions.{Standing, Body}
use Rattle.derive_state.specs.Flats.{function_of}
use Rattle.derive_state.specs.Source.{mod_of}
use Rattle.derive_state.specs.Held.{row, table_of, st_of, size_r, ValidArrays}
use Rattle.derive_state.specs.Sizes.{Sizes}
use Rattle.derive_state.proofs.State.{table_stays}
use Rattle.function_references.specs.Fits.{Ground}
use Rattle.function_builder.specs.Stacks.{Stacks}
use Rattle.function_parts.specs.Part.{Part, Indexed, places_of, function-part, order, long, small, k_few, body-here}
use Rattle.function_names.specs.Named.{pairs_in}
use Rattle.function_record.specs.Closed.{closing, AppendRecordEnsures}
use Rattle.function_nesting.specs.Nested.{follow_s, append_s, Ready, ReadyF}
use Rattle.function_localize.specs.Localized.{Nested, NestedF, LocalizeEnsures, ImportFunctionEnsures}
use Rattle.function_localize.proofs.Starts.{part-function}
use Rattle.function_localize.proofs.Closings.{closing_is, close_low, close-pairs, close_bytes}
use Rattle.function_localize.proofs.Appends.{append_full, append-close}
use Rattle.function_localize.proofs.Few.{made_few}

module _ {words tags : List ℕ} {n : ℕ} (G : Ground words tags n) {f : ℕ} (hf : f < count_at 6 words) {s end : ℕ} (hs : s ≡ record_at 6 f words) (he : end ≡ record_end 6 f words) (six : in_scope (mod_of words n) ≡ true) where
  -- the function
  own : Part words tags n s end (function_at (mod_of words n) f)
  own = rw (hs, he) (function-part G.source six f hf)

  read_as : function_of (between tags words s end) ≡ function_at (mod_of words n) f
  read_as = part-function own

  pub append-part : Part words tags n s end (function_of (between tags words s end))
  append-part = rw read_as own

  pub append-nested : {log logtags : List ℕ} {starts maps : List (List ℕ)} {e : Sizes} {o room : ℕ} → NestedF words n log logtags starts maps e o room (function_at (mod_of words n) f) → Nested words n log logtags starts maps e o room (function_of (between tags words s end))
  append-nested {log} {logtags} {starts} {maps} {e} {o} {room} N = rw read_as whole
    where
      whole : Nested words n log logtags starts maps e o room (function_at (mod_of words n) f)
      whole = record { scopes = N.scopes; special = N.special; ready = unfold ReadyF in N.ready.1 }

  pub append-standing : Standing words tags s
  append-standing = let a = taped_length own.source.taped in let b = small own in record { end = end; function = function_at (mod_of words n) f; cells = flat_module (mod_of words n); small = omega arith; own = own.stands }

  -- where its parts are
  module _ {ea body : ℕ} (ha : ea ≡ expressions_at s words) (hb : Body body words tags s) where
    abbrev places : List ℕ
    places = places_of tags ea end

    abbrev k : ℕ
    k = get_or words ea 0

    abbrev named : ℕ
    named = get_or (places_of tags ea end) (get_or words ea 0) 0

    first : Indexed words tags s end ea places k named (named + 1 + 2 * get_or words named 0)
    first = record { ea_is = ha; places_are = refl; k_is = refl; named_is = refl; body_is = refl }

    x : Indexed words tags s end ea places k named body
    x = record { ea_is = ha; places_are = refl; k_is = refl; named_is = refl; body_is = hb.same own.stands ∙ sym (body-here own first) }

    module _ {o : ℕ} (room : ℕ) {log₀ logtags₀ : List ℕ} {starts₀ maps₀ : List (List ℕ)} {buckets₀ : List ℕ} {stacks₀ : List (List ℕ)} {e₀ : Sizes} (K₀ : ValidArrays log₀ logtags₀ starts₀ maps₀ buckets₀ e₀) {r : Sizes} {log logtags : List ℕ} {starts maps : List (List ℕ)} {buckets : List ℕ} {stacks : List (List ℕ)}
        (L₀ : LocalizeEnsures words n o (Ready o (mod_of words n) room) (follow_s o (mod_of words n) room) (function_of (between tags words s end)) log₀ logtags₀ starts₀ maps₀ buckets₀ stacks₀ e₀ r log logtags starts maps buckets stacks) (z : r.full ≡ false) where
      L : LocalizeEnsures words n o (Ready o (mod_of words n) room) (follow_s o (mod_of words n) room) (function_at (mod_of words n) f) log₀ logtags₀ starts₀ maps₀ buckets₀ stacks₀ e₀ r log logtags starts maps buckets stacks
      L = rw read_as at L₀

      pub close-order : (s ≤ ea) × (ea ≤ body) × (body ≤ end) × (end ≤ 16384) × (length tags ≡ 16384)
      close-order = let a = order own x in (a.to_exprs, omega (arith, a), omega (arith, a), a.in_words, (long own).tags_long)

      pub close_few : (6 < 8) × (256 ≤ 512) × (get_or r.counts 6 0 ≤ 256) × (r.exprtop + 0 ≤ 16384) × (r.made ≤ 16384) × (r.full ≡ false)
      close_few =
          let a = (L.stacks_are z).high in
          let b = L.made z [] in
          let c = made_few own x o (follow_s o (mod_of words n) room) (st_of words log₀ logtags₀ starts₀ maps₀ [] e₀) in
          let d = k_few own x in
          (omega arith, omega arith, (L.kept z).few_functions, omega arith, omega arith, z)

      pub close_stacks : (Stacks stacks r) × (e₀.exprtop ≤ r.exprtop) × (e₀.bodytop + ((ea - s) + (end - body)) ≤ r.bodytop)
      close_stacks = (L.stacks_are z, (L.along z).et_more, close_low own x o _ _ log₀ logtags₀ starts₀ maps₀ buckets₀ stacks₀ e₀ r log logtags starts maps buckets stacks L z)

      pub close_names : length (pairs_in (slice (e₀.bodytop + ((ea - s) + (end - body))) r.bodytop (row stacks 3))) * 2 + (e₀.bodytop + ((ea - s) + (end - body))) ≡ r.bodytop
      close_names = close-pairs own x o _ _ log₀ logtags₀ starts₀ maps₀ buckets₀ stacks₀ e₀ r log logtags starts maps buckets stacks L z

      pub close-classes : (i : ℕ) → e₀.exprtop ≤ i → i < r.exprtop + 0 → get_or (row stacks 1) i 0 < 256
      close-classes = close_bytes own x o _ _ log₀ logtags₀ starts₀ maps₀ buckets₀ stacks₀ e₀ r log logtags starts maps buckets stacks L z

      pub close-room : (23 + 2 * r.pairs + r.loglen ≤ 16384) × (length log ≡ 16384) × (length logtags ≡ 16384) × (length starts ≡ 8) × (length (row starts 6) ≡ 512) × (length r.counts ≡ 8)
      close-room = let K = L.kept z in (K.room, K.log_long, K.tags_long, K.starts_eight, K.rows 6 (omega arith), K.counts_eight)

      entries : size_r (table_of log logtags starts r.counts 7) ≡ size_r (table_of log₀ logtags₀ starts₀ e₀.counts 7)
      entries =
          rw ((L.along z).entries_same.0, (L.along z).entries_same.1)
          (ap size_r (table_stays log₀ logtags₀ log logtags starts₀ maps₀ buckets₀ buckets e₀ K₀ L.below L.log_long L.tags_long L.marks_stay 7 (omega arith)))

      no_head : between (row stacks 1) (row stacks 0) r.exprtop (r.exprtop + 0) ++ closing tags stacks e₀ r s ea body end ≡ closing tags stacks e₀ r s ea body end
      no_head = ap (λ (c : Cells). c ++ closing tags stacks e₀ r s ea body end) (between_none (row stacks 1) (row stacks 0) r.exprtop (r.exprtop + 0) (omega arith))

      pub append_done : NestedF words n log₀ logtags₀ starts₀ maps₀ e₀ o room (function_at (mod_of words n) f) → {r₂ : Sizes} {log₂ logtags₂ : List ℕ} {starts₂ : List (List ℕ)}
          → AppendRecordEnsures (between (row stacks 1) (row stacks 0) r.exprtop (r.exprtop + 0) ++ closing tags stacks e₀ r s ea body end) 256 6 e₀ r log logtags starts r₂ log₂ logtags₂ starts₂
          → ImportFunctionEnsures words (ReadyF o (mod_of words n) (Ready o (mod_of words n) room) (follow_s o (mod_of words n) room) (function_at (mod_of words n) f)) (append_s o (mod_of words n) (follow_s o (mod_of words n) room) f) log₀ logtags₀ starts₀ maps₀ buckets₀ stacks₀ e₀ r₂ log₂ logtags₂ starts₂ maps buckets stacks
      append_done N {r₂} {log₂} {logtags₂} {starts₂} B =
          append-close words n o _ _ f log₀ logtags₀ starts₀ maps₀ buckets₀ stacks₀ e₀ r log logtags starts maps buckets stacks L z (closing tags stacks e₀ r s ea body end) (closing_is own x o _ _ log₀ logtags₀ starts₀ maps₀ buckets₀ stacks₀ e₀ r log logtags starts maps buckets stacks L z) entries N.special N.ready r₂ log₂ logtags₂ starts₂ (rw no_head at B)

  -- it does not fit
  pub append-none : {o : ℕ} (room : ℕ) {log₀ logtags₀ : List ℕ} {starts₀ maps₀ : List (List ℕ)} {buckets₀ : List ℕ} {stacks₀ : List (List ℕ)} {e₀ r : Sizes} {log logtags : List ℕ} {starts maps : List (List ℕ)} {buckets : List ℕ} {stacks : List (List ℕ)}
      → LocalizeEnsures words n o (Ready o (mod_of words n) room) (follow_s o (mod_of words n) room) (function_of (between tags words s end)) log₀ logtags₀ starts₀ maps₀ buckets₀ stacks₀ e₀ r log logtags starts maps buckets stacks → r.full ≡ true
      → ImportFunctionEnsures words (ReadyF o (mod_of words n) (Ready o (mod_of words n) room) (follow_s o (mod_of words n) room) (function_at (mod_of words n) f)) (append_s o (mod_of words n) (follow_s o (mod_of words n) room) f) log₀ logtags₀ starts₀ maps₀ buckets₀ stacks₀ e₀ r log logtags starts maps buckets stacks
  append-none room L₀ z = append_full words n _ (Ready _ (mod_of words n) room) (follow_s _ (mod_of words n) room) f _ _ _ _ _ _ _ _ _ _ _ _ _ _ (rw read_as at L₀) z
