-- `localize` at its places: what the calls require, what each turn of the loop does, and the sizes.
use mathlib.Core.Path.{◌≡◌, refl, ap}
use mathlib.Core.Logic.{⊎_elim}
use mathlib.Core.Bool.{Bool, true, false}
use mathlib.Core.List.{List, [], ◌∷◌, map}
use Prim.Native.Nat.{ℕ, suc, ◌+◌, ◌*◌, ◌≤◌, ◌<◌}
use native.Mathlib.Omega.{arith}
use lib.ListN.{length, get_or, take, replicate, get_or-eq_default}
use lib.Seq.{slice, sets, get_or-take, length-take-le}
use Rattle.std.proofs.lemmas.Bool.{cases_lt}
use Rattle.model.specs.Outcome.{word}
use Rattle.model.specs.Table.{CALLEE}
use Rattle.model.specs.Tree.{Function}
use Rattle.model.specs.Module.{count_at}
use Rattle.model.specs.FunctionView.{expressions_at}
use Rattle.model.specs.Between.{between}
use Rattle.model.specs.References.{target, ref_of, through, first_word, undefined_at, moved}
use Rattle.model.specs.Bodies.{Builder, keep_names}
use Rattle.theory_records.specs.RecordLaws.{All}
use Rattle.intake_initialisers.specs.Marks.{finds}
use Rattle.theory_bodies.specs.Shallow.{need, glance}
use Rattle.theory_passes.specs.Pass.{passed, word_of, after, written}
use Rattle.theory_passes.specs.Light.{still}
use Rattle.derive_state.specs.Flats.{function_of}
use Rattle.derive_state.specs.Source.{mod_of}
use Rattle.derive_state.specs.Held.{row, st_of, ValidArrays}
use Rattle.derive_state.specs.Sizes.{Sizes}
use Rattle.function_references.specs.Fits.{FitN}
use Rattle.function_outside.proofs.Passing.{legible_here}
use Rattle.function_builder.specs.Stacks.{went_of, making_of, Stacks, Under}
use Rattle.function_builder.specs.Makes.{Pushed}
use Rattle.function_builder.proofs.Stack.{made_many}
use Rattle.function_builder.proofs.Then.{kept_tops}
use Rattle.function_parts.specs.Part.{Part, Indexed, indexed, order, long, k_few, body_is}
use Rattle.function_parts.specs.Exprs.{finds_few}
use Rattle.function_parts.specs.Body.{callee_in}
use Rattle.function_words.specs.Runs.{unites, needs, glances, Bodied, Runs}
use Rattle.function_words.proofs.Words.{fits_all}
use Rattle.function_names.specs.Named.{named_records, KeepNamesEnsures, ImportNamesEnsures}
use Rattle.function_nesting.specs.Nested.{follow_s, Ready}
use Rattle.function_nesting.specs.Growth.{follow_grows}
use Rattle.function_localize.specs.Localized.{Nested, NestedAt, LocalizeEnsures, ImportFunctionEnsures}
use Rattle.function_localize.proofs.Calls.{call-put}
use Rattle.function_localize.proofs.Ways.{Turn, turn-callee, call_full, turn_full, turn-next}
use Rattle.function_localize.proofs.Starts.{begun, start_under, ranges, declare_full, turn_start}
use Rattle.function_localize.proofs.Stills.{passed_runs}
use Rattle.function_localize.proofs.Names.{named_exprs}
use Rattle.function_localize.proofs.Finals.{walked, keep_words, keep_full, names_kept, names_high, names_low, names_done}
use Rattle.function_localize.proofs.Few.{made_few}

-- at word i, with what was read of the source
pub record Going (words tags : List ℕ) (n o room s end ea : ℕ) (places : List ℕ) (k named body : ℕ) (log₀ logtags₀ : List ℕ) (starts₀ maps₀ : List (List ℕ)) (buckets₀ : List ℕ) (stacks₀ : List (List ℕ)) (e₀ : Sizes)
    (log logtags : List ℕ) (starts maps : List (List ℕ)) (buckets exprmap : List ℕ) (stacks : List (List ℕ)) (e : Sizes) (i : ℕ) (u : Bool) : Type 0 where
  pub read : Indexed words tags s end ea places k named body
  pub turn : Turn words tags n o (follow_s o (mod_of words n) room) (Ready o (mod_of words n) room) (function_of (between tags words s end)) k body end log₀ logtags₀ starts₀ maps₀ buckets₀ stacks₀ e₀ log logtags starts maps buckets exprmap stacks e i u

-- from one word on to another, whatever came before the first
pub record Onward (words tags : List ℕ) (n o room s end ea : ℕ) (places₁ : List ℕ) (k named body low : ℕ) (log₁ logtags₁ : List ℕ) (starts₁ maps₁ : List (List ℕ)) (buckets₁ exprmap₁ : List ℕ) (stacks₁ : List (List ℕ)) (e₁ : Sizes) (i₁ : ℕ) (u₁ : Bool)
    (places log logtags : List ℕ) (starts maps : List (List ℕ)) (buckets exprmap : List ℕ) (stacks : List (List ℕ)) (e : Sizes) (i : ℕ) (u : Bool) : Type 0 where
  pub on : {log₀ logtags₀ : List ℕ} {starts₀ maps₀ : List (List ℕ)} {buckets₀ : List ℕ} {stacks₀ : List (List ℕ)} {e₀ : Sizes}
      → e₀.exprtop ≡ low → ValidArrays log₀ logtags₀ starts₀ maps₀ buckets₀ e₀
      → Going words tags n o room s end ea places₁ k named body log₀ logtags₀ starts₀ maps₀ buckets₀ stacks₀ e₀ log₁ logtags₁ starts₁ maps₁ buckets₁ exprmap₁ stacks₁ e₁ i₁ u₁
      → Going words tags n o room s end ea places k named body log₀ logtags₀ starts₀ maps₀ buckets₀ stacks₀ e₀ log logtags starts maps buckets exprmap stacks e i u

-- the same values, by other names
pub runs_at : {words : List ℕ} {k : ℕ} {f : Builder → Builder} {g : Builder → List ℕ} {log₀ logtags₀ : List ℕ} {starts₀ maps₀ : List (List ℕ)} {buckets₀ exprmap₀ : List ℕ} {stacks₀ : List (List ℕ)} {e₁ : ℕ} {e r : Sizes} {log logtags : List ℕ} {starts maps : List (List ℕ)} {buckets exprmap : List ℕ} {stacks : List (List ℕ)}
    → Runs words k f g log₀ logtags₀ starts₀ maps₀ buckets₀ exprmap₀ stacks₀ e₁ e r log logtags starts maps buckets exprmap stacks
    → {log' logtags' : List ℕ} {starts' maps' : List (List ℕ)} {buckets' exprmap' : List ℕ} {stacks' : List (List ℕ)} {r' : Sizes}
    → log' ≡ log → logtags' ≡ logtags → starts' ≡ starts → maps' ≡ maps → buckets' ≡ buckets → stacks' ≡ stacks → exprmap' ≡ exprmap → r' ≡ r
    → Runs words k f g log₀ logtags₀ starts₀ maps₀ buckets₀ exprmap₀ stacks₀ e₁ e r' log' logtags' starts' maps' buckets' exprmap' stacks'
runs_at R a b c d h i j q = rw (a, b, c, d, h, i, j, q) R

pub runs_from : {words : List ℕ} {k : ℕ} {f : Builder → Builder} {g : Builder → List ℕ} {log₀ logtags₀ : List ℕ} {starts₀ maps₀ : List (List ℕ)} {buckets₀ exprmap₀ : List ℕ} {stacks₀ : List (List ℕ)} {a b : ℕ} {e r : Sizes} {log logtags : List ℕ} {starts maps : List (List ℕ)} {buckets exprmap : List ℕ} {stacks : List (List ℕ)}
    → a ≡ b → Runs words k f g log₀ logtags₀ starts₀ maps₀ buckets₀ exprmap₀ stacks₀ b e r log logtags starts maps buckets exprmap stacks → Runs words k f g log₀ logtags₀ starts₀ maps₀ buckets₀ exprmap₀ stacks₀ a e r log logtags starts maps buckets exprmap stacks
runs_from q R = rw q R

-- the same places, by another name
pub going_at : {words tags : List ℕ} {n o room s end ea : ℕ} {places places' : List ℕ} {k named body : ℕ} {log₀ logtags₀ : List ℕ} {starts₀ maps₀ : List (List ℕ)} {buckets₀ : List ℕ} {stacks₀ : List (List ℕ)} {e₀ : Sizes} {log logtags : List ℕ} {starts maps : List (List ℕ)} {buckets exprmap : List ℕ} {stacks : List (List ℕ)} {e : Sizes} {i : ℕ} {u : Bool}
    → places' ≡ places → Going words tags n o room s end ea places k named body log₀ logtags₀ starts₀ maps₀ buckets₀ stacks₀ e₀ log logtags starts maps buckets exprmap stacks e i u → Going words tags n o room s end ea places' k named body log₀ logtags₀ starts₀ maps₀ buckets₀ stacks₀ e₀ log logtags starts maps buckets exprmap stacks e i u
going_at q G = rw q G

-- ---- reading the source
module _ {words tags : List ℕ} {n s end : ℕ} (p : Part words tags n s end (function_of (between tags words s end))) where
  pub exprs_in : expressions_at s words < 16384
  exprs_in = omega (arith, order p (indexed words tags s end))

  pub exprs_low : {ea : ℕ} {places : List ℕ} {k named body : ℕ} → Indexed words tags s end ea places k named body → ea < 16384
  exprs_low x = rw x.ea_is exprs_in

  pub index_in : {ea : ℕ} → ea ≡ expressions_at s words → (length tags ≡ 16384) × (ea + 1 ≤ end) × (end ≤ 16384) × (length (finds (ea + 1) (slice (ea + 1) end tags)) ≤ 1025)
  index_in ha = let a = order p (indexed words tags s end) in ((long p).tags_long, omega (arith, a), a.in_words, rw ha (finds_few p (indexed words tags s end)))

  pub count_in : {ea k : ℕ} → ea ≡ expressions_at s words → k ≡ get_or words ea 0 → k ≤ 1024
  count_in ha hk = rw (hk, ha) (k_few p (indexed words tags s end))

  pub reading : {ea : ℕ} {places : List ℕ} {k named c body : ℕ} → ea ≡ expressions_at s words → places ≡ sets (replicate 1025 0) 0 (finds (ea + 1) (slice (ea + 1) end tags)) → k ≡ get_or words ea 0 → named ≡ get_or places k 0 → c ≡ get_or words named 0
      → body ≡ named + 1 + 2 * c → Indexed words tags s end ea places k named body
  reading ha hp hk hn hc hb = record { ea_is = ha; places_are = hp; k_is = hk; named_is = hn; body_is = rw hc at hb }

  -- the count of named expressions, before the body's place is known
  pub named_in : {ea : ℕ} {places : List ℕ} {k named : ℕ} → ea ≡ expressions_at s words → places ≡ sets (replicate 1025 0) 0 (finds (ea + 1) (slice (ea + 1) end tags)) → k ≡ get_or words ea 0 → named ≡ get_or places k 0 → (named < 16384) × (named + 1 + 2 * get_or words named 0 < 16384)
  named_in {ea} {places} {k} {named} ha hp hk hn =
      let a = order p (reading {c = get_or words named 0} ha hp hk hn refl refl) in
      (omega (arith, a), omega (arith, a))

  module _ {ea : ℕ} {places : List ℕ} {k named body : ℕ} (x : Indexed words tags s end ea places k named body) {log₀ logtags₀ : List ℕ} {starts₀ maps₀ : List (List ℕ)} {buckets₀ : List ℕ} {e₀ : Sizes} (K₀ : ValidArrays log₀ logtags₀ starts₀ maps₀ buckets₀ e₀) where
    -- ---- the declarations
    pub begun_kept : {b : Sizes} → b ≡ begun e₀ → ValidArrays log₀ logtags₀ starts₀ maps₀ buckets₀ b
    begun_kept {b} q = kept_tops K₀ b (ap (λ (x : Sizes). x.loglen) q) (ap (λ (x : Sizes). x.counts) q) (ap (λ (x : Sizes). x.pairs) q)

    pub begun-under : {b : Sizes} → b ≡ begun e₀ → (stacks₀ : List (List ℕ)) → Stacks stacks₀ e₀ → Under k (replicate 1024 0) stacks₀ e₀.exprtop b
    begun-under q stacks₀ S = rw q (start_under k stacks₀ e₀ (k_few p x) S)

    module _ {o : ℕ} (room : ℕ) {b : Sizes} (q : b ≡ begun e₀) {stacks₀ : List (List ℕ)} {r : Sizes} {log logtags : List ℕ} {starts maps : List (List ℕ)} {buckets exprmap : List ℕ} {stacks : List (List ℕ)}
        (R : Runs words k (after o (mod_of words n) still (unites o words tags n places k) (unites o words tags n places k) (between tags words s ea)) (λ (m : Builder). map word (written o (mod_of words n) still (unites o words tags n places k) (unites o words tags n places k) (between tags words s ea) false m))
        log₀ logtags₀ starts₀ maps₀ buckets₀ (replicate 1024 0) stacks₀ e₀.exprtop b r log logtags starts maps buckets exprmap stacks) where
      pub declare_none : r.full ≡ true → LocalizeEnsures words n o (Ready o (mod_of words n) room) (follow_s o (mod_of words n) room) (function_of (between tags words s end)) log₀ logtags₀ starts₀ maps₀ buckets₀ stacks₀ e₀ r log logtags starts maps buckets stacks
      declare_none z = declare_full p x o (follow_s o (mod_of words n) room) (follow_grows o (mod_of words n) room) (Ready o (mod_of words n) room) log₀ logtags₀ starts₀ maps₀ buckets₀ stacks₀ e₀ K₀ r log logtags starts maps buckets exprmap stacks (rw q at R) z

      pub going_start : r.full ≡ false → Going words tags n o room s end ea places k named body log₀ logtags₀ starts₀ maps₀ buckets₀ stacks₀ e₀ log logtags starts maps buckets exprmap stacks r body false
      going_start z = record { read = x; turn = turn_start p x o (follow_s o (mod_of words n) room) (follow_grows o (mod_of words n) room) (Ready o (mod_of words n) room) log₀ logtags₀ starts₀ maps₀ buckets₀ stacks₀ e₀ K₀ r log logtags starts maps buckets exprmap stacks (rw q at R) z }

  -- ---- a turn of the loop
  module _ {o room ea : ℕ} {places : List ℕ} {k named body : ℕ} {log₀ logtags₀ : List ℕ} {starts₀ maps₀ : List (List ℕ)} {buckets₀ : List ℕ} {stacks₀ : List (List ℕ)} {e₀ : Sizes} (K₀ : ValidArrays log₀ logtags₀ starts₀ maps₀ buckets₀ e₀)
      {log logtags : List ℕ} {starts maps : List (List ℕ)} {buckets exprmap : List ℕ} {stacks : List (List ℕ)} {e : Sizes} {i : ℕ} {u : Bool} (G : Going words tags n o room s end ea places k named body log₀ logtags₀ starts₀ maps₀ buckets₀ stacks₀ e₀ log logtags starts maps buckets exprmap stacks e i u) where
    abbrev x : Indexed words tags s end ea places k named body
    x = G.read

    abbrev T : Turn words tags n o (follow_s o (mod_of words n) room) (Ready o (mod_of words n) room) (function_of (between tags words s end)) k body end log₀ logtags₀ starts₀ maps₀ buckets₀ stacks₀ e₀ log logtags starts maps buckets exprmap stacks e i u
    T = G.turn

    abbrev F : Function
    F = function_of (between tags words s end)

    low : body ≤ end
    low = omega (arith, order p x)

    hw : end ≤ length words
    hw = let a = (order p x).in_words in let b = (long p).words_long in omega arith

    ht : end ≤ length tags
    ht = let a = (order p x).in_words in let b = (long p).tags_long in omega arith

    module _ (h : i < end) where
      pub word_in : i < 16384
      word_in = let a = (order p x).in_words in omega arith

      pub word_fits : (i < 16384) × All (FitN words 1024) (ref_of (target (get_or tags i 0)) (get_or words i 0) [])
      word_fits = (word_in, fits_all words (target (get_or tags i 0)) (get_or words i 0) (k_few p x) (legible_here T.legible h))

      pub word_bodied : (Bodied words tags k i end) × (i < end)
      word_bodied = (record { legible = T.legible; ranges = λ j a b c. ranges p x j (let f = T.from in omega arith) b c }, h)

      -- a Call
      module _ (q : get_or tags i 0 ≡ CALLEE) {f : ℕ} (hf : f ≡ get_or words i 0) where
        pub callee_low : f < count_at 6 words
        callee_low = rw hf (callee_in p x i T.from h q)

        pub callee-ready : Nested words n log₀ logtags₀ starts₀ maps₀ e₀ o room (function_of (between tags words s end)) → NestedAt words n log logtags starts maps e o room f
        callee-ready N = record {
          scopes = N.scopes;
          special = N.special;
          ready = rw hf (turn-callee words tags n o (follow_s o (mod_of words n) room) (follow_grows o (mod_of words n) room) (Ready o (mod_of words n) room) F k body end low hw ht (body_is p x) log₀ logtags₀ starts₀ maps₀ buckets₀ stacks₀ e₀ K₀ log logtags starts maps buckets exprmap stacks e i u T h N.special N.ready q);
        }

        module _ {d : Sizes} {log' logtags' : List ℕ} {starts' maps' : List (List ℕ)} {buckets' : List ℕ} {stacks' : List (List ℕ)}
            (N : ImportFunctionEnsures words (Ready o (mod_of words n) room f) (follow_s o (mod_of words n) room f) log logtags starts maps buckets stacks e d log' logtags' starts' maps' buckets' stacks') where
          pub callee_full : d.full ≡ true → LocalizeEnsures words n o (Ready o (mod_of words n) room) (follow_s o (mod_of words n) room) (function_of (between tags words s end)) log₀ logtags₀ starts₀ maps₀ buckets₀ stacks₀ e₀ d log' logtags' starts' maps' buckets' stacks'
          callee_full z = call_full words tags n o (follow_s o (mod_of words n) room) (follow_grows o (mod_of words n) room) (Ready o (mod_of words n) room) F k body end low hw ht (body_is p x) log₀ logtags₀ starts₀ maps₀ buckets₀ stacks₀ e₀ K₀ log logtags starts maps buckets exprmap stacks e i u T h q d log' logtags' starts' maps' buckets' stacks' (rw hf at N) z

          pub callee_runs : d.full ≡ false → (v : Bool) {r : Sizes} {stacks'' : List (List ℕ)} → Pushed (moved (target (get_or tags i 0)) (through (went_of words n log' logtags' starts' maps' d exprmap) (get_or tags i 0) (get_or words i 0)) o v) stacks' d r stacks''
              → Runs words k (passed o (mod_of words n) (follow_s o (mod_of words n) room) (need o (mod_of words n) still (function_of (between tags words s end)).exprs) (glance o (mod_of words n) still (function_of (between tags words s end)).exprs) (get_or tags i 0, get_or words i 0) (between tags words (suc i) end)) (λ (m : Builder). word_of o (mod_of words n) (follow_s o (mod_of words n) room) (need o (mod_of words n) still (function_of (between tags words s end)).exprs) (glance o (mod_of words n) still (function_of (between tags words s end)).exprs) (get_or tags i 0, get_or words i 0) (between tags words (suc i) end) v m ∷ []) log logtags starts maps buckets exprmap stacks e₀.exprtop e r log' logtags' starts' maps' buckets' exprmap stacks''
          callee_runs z v {r} {stacks''} B = rw q (call-put words n k o e₀.exprtop (follow_s o (mod_of words n) room) _ _ (get_or words i 0) (between tags words (suc i) end) v log logtags starts maps buckets exprmap stacks e T.way.under T.way.kept d log' logtags' starts' maps' buckets' stacks' _ (rw hf at N) z r stacks'' (rw q at B))

      -- any other word
      pub other_runs : (get_or tags i 0 ≡ CALLEE → ⊥) → (v : Bool) {r : Sizes} {log' logtags' : List ℕ} {starts' maps' : List (List ℕ)} {buckets' exprmap' : List ℕ} {stacks' : List (List ℕ)}
          → Runs words k (passed o (mod_of words n) still (needs o words tags n places k) (glances o words tags n places k) (get_or tags i 0, get_or words i 0) (between tags words (suc i) end)) (λ (m : Builder). word_of o (mod_of words n) still (needs o words tags n places k) (glances o words tags n places k) (get_or tags i 0, get_or words i 0) (between tags words (suc i) end) v m ∷ []) log logtags starts maps buckets exprmap stacks e₀.exprtop e r log' logtags' starts' maps' buckets' exprmap' stacks'
          → Runs words k (passed o (mod_of words n) (follow_s o (mod_of words n) room) (need o (mod_of words n) still (function_of (between tags words s end)).exprs) (glance o (mod_of words n) still (function_of (between tags words s end)).exprs) (get_or tags i 0, get_or words i 0) (between tags words (suc i) end)) (λ (m : Builder). word_of o (mod_of words n) (follow_s o (mod_of words n) room) (need o (mod_of words n) still (function_of (between tags words s end)).exprs) (glance o (mod_of words n) still (function_of (between tags words s end)).exprs) (get_or tags i 0, get_or words i 0) (between tags words (suc i) end) v m ∷ []) log logtags starts maps buckets exprmap stacks e₀.exprtop e r log' logtags' starts' maps' buckets' exprmap' stacks'
      other_runs ne v R = passed_runs p x o (follow_s o (mod_of words n) room) i T.from h ne v T.way.kept R

      -- written, or full
      module _ {v : Bool} (hv : v ≡ undefined_at (target (get_or tags i 0)) (get_or words i 0) (first_word (between tags words (suc i) end)) u) {r : Sizes} {log' logtags' : List ℕ} {starts' maps' : List (List ℕ)} {buckets' exprmap' : List ℕ} {stacks' : List (List ℕ)}
          (R : Runs words k (passed o (mod_of words n) (follow_s o (mod_of words n) room) (need o (mod_of words n) still (function_of (between tags words s end)).exprs) (glance o (mod_of words n) still (function_of (between tags words s end)).exprs) (get_or tags i 0, get_or words i 0) (between tags words (suc i) end)) (λ (m : Builder). word_of o (mod_of words n) (follow_s o (mod_of words n) room) (need o (mod_of words n) still (function_of (between tags words s end)).exprs) (glance o (mod_of words n) still (function_of (between tags words s end)).exprs) (get_or tags i 0, get_or words i 0) (between tags words (suc i) end) v m ∷ []) log logtags starts maps buckets exprmap stacks e₀.exprtop e r log' logtags' starts' maps' buckets' exprmap' stacks') where
        pub going_full : r.full ≡ true → LocalizeEnsures words n o (Ready o (mod_of words n) room) (follow_s o (mod_of words n) room) (function_of (between tags words s end)) log₀ logtags₀ starts₀ maps₀ buckets₀ stacks₀ e₀ r log' logtags' starts' maps' buckets' stacks'
        going_full z = turn_full words tags n o (follow_s o (mod_of words n) room) (follow_grows o (mod_of words n) room) (Ready o (mod_of words n) room) F k body end low hw ht (body_is p x) log₀ logtags₀ starts₀ maps₀ buckets₀ stacks₀ e₀ K₀ log logtags starts maps buckets exprmap stacks e i u T h r log' logtags' starts' maps' buckets' exprmap' stacks' (rw hv at R) z

        pub going_next : r.full ≡ false → Going words tags n o room s end ea places k named body log₀ logtags₀ starts₀ maps₀ buckets₀ stacks₀ e₀ log' logtags' starts' maps' buckets' exprmap' stacks' r (i + 1) v
        going_next z = record { read = x; turn = rw hv (turn-next words tags n o (follow_s o (mod_of words n) room) (follow_grows o (mod_of words n) room) (Ready o (mod_of words n) room) F k body end low hw ht (body_is p x) log₀ logtags₀ starts₀ maps₀ buckets₀ stacks₀ e₀ K₀ log logtags starts maps buckets exprmap stacks e i u T h r log' logtags' starts' maps' buckets' exprmap' stacks' (rw hv at R) z) }

    -- ---- after the last word
    module _ (done : end ≤ i) where
      abbrev ps : List (ℕ × ℕ)
      ps = keep_names (named_records words (named + 1) (get_or words named 0)) (take k exprmap) []

      made_low : e.made ≤ 1024
      unfolding making_of
      made_low =
          let a = ap (λ (m : Builder). length m.made) (walked p x o (follow_s o (mod_of words n) room) (follow_grows o (mod_of words n) room) (Ready o (mod_of words n) room) log₀ logtags₀ starts₀ maps₀ buckets₀ stacks₀ e₀ K₀ log logtags starts maps buckets exprmap stacks e i u T done []) in
          let b = made_many T.way.under in
          let c = made_few p x o (follow_s o (mod_of words n) room) (st_of words log₀ logtags₀ starts₀ maps₀ [] e₀) in
          let d = k_few p x in
          omega arith

      pub keep_in : (named < 16384) × (named + 2 * get_or words named 0 < 16384) × (length words ≡ 16384)
      keep_in = keep_words p x o (follow_s o (mod_of words n) room) (follow_grows o (mod_of words n) room) (Ready o (mod_of words n) room) log₀ logtags₀ starts₀ maps₀ buckets₀ stacks₀ e₀ K₀ log logtags starts maps buckets exprmap stacks e i u T done

      pub keep_long : (k ≤ 1024) × (length exprmap ≡ 1024) × (e.full ≡ false)
      keep_long = (k_few p x, T.way.under.em_long, T.way.going)

      -- of the map, what the function's expressions have
      pub keep_exprs : (j : ℕ) → j < get_or words named 0 → get_or words (named + 1 + 2 * j) 0 < length (take k exprmap)
      keep_exprs j h = let z = keep_long in rw (length-take-le k exprmap (omega arith)) (named_exprs p x j h)

      pub keep_low : (y : ℕ) → get_or (take k exprmap) y 0 ≤ 1024
      keep_low y = let z = keep_long in ⊎_elim (λ (h : y < k). rw (get_or-take k exprmap y 0 h) (let a = T.way.under.within y in let b = made_low in omega arith)) (λ (h : k ≤ y). rw (get_or-eq_default (take k exprmap) 0 {n = y} (rw (length-take-le k exprmap (omega arith)) h)) (omega arith)) (cases_lt y k)

      module _ {r₁ : Sizes} {stacks₁ : List (List ℕ)} (W : KeepNamesEnsures (keep_names (named_records words (named + 1) (get_or words named 0)) (take k exprmap) []) stacks e r₁ stacks₁) where
        pub names_full : r₁.full ≡ true → LocalizeEnsures words n o (Ready o (mod_of words n) room) (follow_s o (mod_of words n) room) (function_of (between tags words s end)) log₀ logtags₀ starts₀ maps₀ buckets₀ stacks₀ e₀ r₁ log logtags starts maps buckets stacks₁
        names_full z = keep_full p x o (follow_s o (mod_of words n) room) (follow_grows o (mod_of words n) room) (Ready o (mod_of words n) room) log₀ logtags₀ starts₀ maps₀ buckets₀ stacks₀ e₀ K₀ log logtags starts maps buckets exprmap stacks e i u T done r₁ stacks₁ W z

        module _ (z : r₁.full ≡ false) where
          pub names_in_lem : (e.bodytop ≤ r₁.bodytop) × (r₁.full ≡ false)
          names_in_lem = (names_high p x o (follow_s o (mod_of words n) room) (follow_grows o (mod_of words n) room) (Ready o (mod_of words n) room) log₀ logtags₀ starts₀ maps₀ buckets₀ stacks₀ e₀ K₀ log logtags starts maps buckets exprmap stacks e i u T done r₁ stacks₁ W z, z)

          pub names_words : (j : ℕ) → e.bodytop + 2 * j < r₁.bodytop → (suc (e.bodytop + 2 * j) < r₁.bodytop) × (get_or (row stacks₁ 3) (suc (e.bodytop + 2 * j)) 0 ≤ count_at 0 words)
          names_words = names_low p x o (follow_s o (mod_of words n) room) (follow_grows o (mod_of words n) room) (Ready o (mod_of words n) room) log₀ logtags₀ starts₀ maps₀ buckets₀ stacks₀ e₀ K₀ log logtags starts maps buckets exprmap stacks e i u T done r₁ stacks₁ W z

          pub names_good : ValidArrays log logtags starts maps buckets r₁
          names_good = names_kept p x o (follow_s o (mod_of words n) room) (follow_grows o (mod_of words n) room) (Ready o (mod_of words n) room) log₀ logtags₀ starts₀ maps₀ buckets₀ stacks₀ e₀ K₀ log logtags starts maps buckets exprmap stacks e i u T done r₁ stacks₁ W z

          pub names_whole : {r : Sizes} {log' logtags' : List ℕ} {starts' maps' : List (List ℕ)} {buckets' : List ℕ} {stacks' : List (List ℕ)} → ImportNamesEnsures words n o e.bodytop log logtags starts maps buckets stacks₁ r₁ r log' logtags' starts' maps' buckets' stacks'
              → LocalizeEnsures words n o (Ready o (mod_of words n) room) (follow_s o (mod_of words n) room) (function_of (between tags words s end)) log₀ logtags₀ starts₀ maps₀ buckets₀ stacks₀ e₀ r log' logtags' starts' maps' buckets' stacks'
          names_whole {r} {log'} {logtags'} {starts'} {maps'} {buckets'} {stacks'} N = names_done p x o (follow_s o (mod_of words n) room) (follow_grows o (mod_of words n) room) (Ready o (mod_of words n) room) log₀ logtags₀ starts₀ maps₀ buckets₀ stacks₀ e₀ K₀ log logtags starts maps buckets exprmap stacks e i u T done r₁ stacks₁ W z r log' logtags' starts' maps' buckets' stacks' N
