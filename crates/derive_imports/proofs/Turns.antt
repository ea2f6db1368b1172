-- The import of a record as the code does it: the loop over the record's words, and its end. What is left of the references, from the state that the arrays hold, gives
-- what all of them give from the first state.
use mathlib.Core.Path.{◌≡◌, refl, sym, ap, ◌∙◌}
use mathlib.Core.Bool.{true, false, cond, false≢true}
use mathlib.Core.List.{List, []}
use Prim.Native.Nat.{ℕ, suc, ◌+◌, ◌≤◌, ◌<◌}
use native.Mathlib.Nat.{le_refl, le_trans}
use native.Mathlib.Numerals.{add-one}
use native.Mathlib.Omega.{arith}
use lib.Dec.{ltb}
use lib.ListN.{get_or, take, get_or-eq_default}
use lib.Seq.{get_or-take}
use borrow.Author.Tests.{lt-ltb, le-ltb}
use Rattle.model.specs.Outcome.{Cells}
use Rattle.model.specs.Module.{count_at}
use Rattle.model.specs.View.{record_at, record_end}
use Rattle.model.specs.Carry.{carry_cells}
use Rattle.model.specs.Between.{between, Stretch}
use Rattle.model.specs.Tables.{Tab, exprs, code_t, Tables, rec_at, count, map_at}
use Rattle.model.specs.References.{Place, table, own, function, target, Node, ref_of, refs, fold_refs, through, shift}
use Rattle.model.specs.Imports.{Derived, unless_mapped, intern, mapped_to_t, made, commit, step_t, import_t}
use Rattle.theory_records.specs.RecordLaws.{All, all_map, carry_same}
use Rattle.theory_records.specs.TableLaws.{at-six}
use Rattle.theory_records.specs.Well.{home, rank, Lower, falls}
use Rattle.theory_records.specs.Trace.{import_is, once_is}
use Rattle.theory_image.specs.Betweens.{between_none, between_next}
use Rattle.derive_state.specs.Refers.{code_p, tab_of, went_r}
use Rattle.derive_state.specs.Source.{src_of, Source, refers_to, number_of}
use Rattle.derive_state.specs.Held.{cell, table_of, maps_of, st_of, size_r, ValidArrays, Same, Beside, ImportEnsures, carried_by}
use Rattle.derive_state.specs.Marks.{Marks}
use Rattle.derive_state.specs.Sizes.{Sizes}
use Rattle.derive_state.proofs.Passes.{all_here, all-next}
use Rattle.derive_state.proofs.State.{code_tab, tab_code, code_low, same_refl, same_then, marks_refl, marks_then, table_stays}
use Rattle.derive_imports.proofs.Steps.{step_is, hit}
use Rattle.derive_imports.proofs.Growth.{Grow, then, over_grow, grow_settle, grow_each, grow_T}
use Rattle.derive_imports.proofs.Sources.{wf, count_is, inside, stretch, record_is, record_lower}

-- ---- what is beside the tables
pub beside_refl : (starts : List (List ℕ)) (e : Sizes) → Beside starts starts e e
beside_refl starts e = record { functions_same = (refl, refl); entries_same = (refl, refl); pairs-same = refl; tops_same = (refl, refl, refl) }

pub beside_then : (a b c : List (List ℕ)) (e f g : Sizes) → Beside a b e f → Beside b c f g → Beside a c e g
beside_then a b c e f g x y = record {
  functions_same = (y.functions_same.0 ∙ x.functions_same.0, y.functions_same.1 ∙ x.functions_same.1);
  entries_same = (y.entries_same.0 ∙ x.entries_same.0, y.entries_same.1 ∙ x.entries_same.1);
  pairs-same = y.pairs-same ∙ x.pairs-same;
  tops_same = (y.tops_same.0 ∙ x.tops_same.0, y.tops_same.1 ∙ x.tops_same.1, y.tops_same.2 ∙ x.tops_same.2);
}

-- one operation after another
pub lands_then : (words log₀ logtags₀ : List ℕ) (starts₀ maps₀ : List (List ℕ)) (buckets₀ : List ℕ) (e₀ : Sizes) → ValidArrays log₀ logtags₀ starts₀ maps₀ buckets₀ e₀
    → (f : Derived → Derived) (e₁ : Sizes) (log₁ logtags₁ : List ℕ) (starts₁ maps₁ : List (List ℕ)) (buckets₁ : List ℕ) → ImportEnsures words f log₀ logtags₀ starts₀ maps₀ buckets₀ e₀ e₁ log₁ logtags₁ starts₁ maps₁ buckets₁ → e₁.full ≡ false
    → (g : Derived → Derived) (r : Sizes) (log logtags : List ℕ) (starts maps : List (List ℕ)) (buckets : List ℕ) → ImportEnsures words g log₁ logtags₁ starts₁ maps₁ buckets₁ e₁ r log logtags starts maps buckets
    → (F : Derived → Derived) → ((special : List ℕ) → F (st_of words log₀ logtags₀ starts₀ maps₀ special e₀) ≡ g (f (st_of words log₀ logtags₀ starts₀ maps₀ special e₀)))
    → ImportEnsures words F log₀ logtags₀ starts₀ maps₀ buckets₀ e₀ r log logtags starts maps buckets
lands_then words log₀ logtags₀ starts₀ maps₀ buckets₀ e₀ K₀ f e₁ log₁ logtags₁ starts₁ maps₁ buckets₁ L q g r log logtags starts maps buckets M F is = record {
  over = λ z special. rw (is special, L.is q special, ← entries) (M.over z special);
  is = λ z special. is special ∙ ap g (L.is q special) ∙ M.is z special;
  kept = M.kept;
  beside = λ z. beside_then starts₀ starts₁ starts e₀ e₁ r (L.beside q) (M.beside z);
  more = λ z. le_trans (L.more q) (M.more z);
  below = same_then e₀.loglen e₁.loglen log₀ logtags₀ log₁ logtags₁ log logtags (L.more q) L.below M.below;
  log_long = M.log_long;
  tags_long = M.tags_long;
  marks_stay = marks_then buckets₀ buckets₁ buckets L.marks_stay M.marks_stay;
}
  where
    entries : size_r (table_of log₁ logtags₁ starts₁ e₁.counts 7) ≡ size_r (table_of log₀ logtags₀ starts₀ e₀.counts 7)
    entries =
        rw ((L.beside q).entries_same.0, (L.beside q).entries_same.1)
        (ap size_r (table_stays log₀ logtags₀ log₁ logtags₁ starts₀ maps₀ buckets₀ buckets₁ e₀ K₀ L.below L.log_long L.tags_long L.marks_stay 7 (omega arith)))

-- ---- the maps as rows
pub map_is : (words log logtags : List ℕ) (starts maps : List (List ℕ)) (special : List ℕ) (e : Sizes) (u : Tab) (k : ℕ) → k < count_at (code_t u) words → map_at (st_of words log logtags starts maps special e).maps u k ≡ cell maps (code_t u) k
unfolding st_of maps_of map_at
map_is words log logtags starts maps special e u k h =
    rw (at-six u (λ t. take (count_at (code_t t) words) (get_or maps (code_t t) []))) (get_or-take (count_at (code_t u) words) (get_or maps (code_t u) []) k 0 h)

-- ---- the loop over words whose references are all that is left of js; f is the whole, which ends with them
pub record Turn (words tags : List ℕ) (n o t k : ℕ) (js : List Node) (log₀ logtags₀ : List ℕ) (starts₀ maps₀ : List (List ℕ)) (buckets₀ : List ℕ) (e₀ : Sizes) (end : ℕ) (log logtags : List ℕ) (starts maps : List (List ℕ)) (buckets : List ℕ) (e : Sizes) (i : ℕ) : Type 0 where
  pub within : i ≤ end
  pub going : e.full ≡ false
  pub kept : ValidArrays log logtags starts maps buckets e
  pub beside : Beside starts₀ starts e₀ e
  pub more : e₀.loglen ≤ e.loglen
  pub below : Same e₀.loglen log₀ logtags₀ log logtags
  pub marks_stay : Marks buckets₀ buckets
  pub lower : All (Lower (src_of words n) (tab_of t) k) (refs (between tags words i end))
  pub same : (special : List ℕ) → fold_refs (refs (between tags words i end)) (step_t (import_t o (src_of words n))) (st_of words log logtags starts maps special e) ≡ fold_refs js (step_t (import_t o (src_of words n))) (st_of words log₀ logtags₀ starts₀ maps₀ special e₀)

module _ (words tags : List ℕ) (n : ℕ) (src : Source words tags n) (o t k : ℕ) (ht : t < 6) (hk : k < count_at t words) (log₀ logtags₀ : List ℕ) (starts₀ maps₀ : List (List ℕ)) (buckets₀ : List ℕ) (e₀ : Sizes) (nf : e₀.full ≡ false) (K₀ : ValidArrays log₀ logtags₀ starts₀ maps₀ buckets₀ e₀) where
  abbrev T : Tables
  T = src_of words n

  abbrev S₀ : List ℕ → Derived
  S₀ special = st_of words log₀ logtags₀ starts₀ maps₀ special e₀

  here : (special : List ℕ) → map_at (S₀ special).maps (tab_of t) k ≡ cell maps₀ t k
  here special = map_is words log₀ logtags₀ starts₀ maps₀ special e₀ (tab_of t) k (rw (code_tab t ht) hk) ∙ rw (code_tab t ht)

  -- what is mapped already stays
  pub lands_known : (f : Derived → Derived) → ((special : List ℕ) → f (S₀ special) ≡ S₀ special) → ImportEnsures words f log₀ logtags₀ starts₀ maps₀ buckets₀ e₀ e₀ log₀ logtags₀ starts₀ maps₀ buckets₀
  lands_known f idle = record {
    over = λ q. absurd (false≢true (sym nf ∙ q));
    is = λ q special. idle special;
    kept = λ q. K₀;
    beside = λ q. beside_refl starts₀ e₀;
    more = λ q. le_refl _;
    below = same_refl e₀.loglen log₀ logtags₀;
    log_long = K₀.log_long;
    tags_long = K₀.tags_long;
    marks_stay = marks_refl buckets₀ K₀.marks_long;
  }

  pub turn-known : (cell maps₀ t k ≡ 0 → ⊥) → ImportEnsures words (import_t o T (tab_of t) k) log₀ logtags₀ starts₀ maps₀ buckets₀ e₀ e₀ log₀ logtags₀ starts₀ maps₀ buckets₀
  turn-known ne = lands_known (import_t o T (tab_of t) k) idle
    where
      idle : (special : List ℕ) → import_t o T (tab_of t) k (S₀ special) ≡ S₀ special
      idle special = import_is o T (wf words tags n src) (tab_of t) k (S₀ special) (inside words tags n src t k ht hk) ∙ once_is o T (λ r. r ≡ S₀ special) (map_at (S₀ special).maps (tab_of t) k) _ (S₀ special) (λ z. absurd (ne (sym (here special) ∙ z))) (λ g. refl)

  -- what all that comes before the record gives
  pub start_is : cell maps₀ t k ≡ 0 → (special : List ℕ) → import_t o T (tab_of t) k (S₀ special) ≡ commit o T (tab_of t) k (fold_refs (refs (rec_at T (tab_of t) k)) (step_t (import_t o T)) (S₀ special))
  unfolding unless_mapped
  start_is new special = import_is o T (wf words tags n src) (tab_of t) k (S₀ special) (inside words tags n src t k ht hk) ∙ ap (λ (v : ℕ). unless_mapped v (λ z. commit o T (tab_of t) k (fold_refs (refs (rec_at T (tab_of t) k)) (step_t (import_t o T)) (S₀ special))) (S₀ special)) (here special ∙ new)

  module _ (f : Derived → Derived) (js : List Node) (ends_in : (special : List ℕ) → Grow (fold_refs js (step_t (import_t o T)) (S₀ special)) (f (S₀ special))) (begin end : ℕ) (hb : begin ≡ record_at t k words) (he : end ≡ record_end t k words) where
    st : Stretch words tags begin end
    st = stretch words tags n src t k ht hk begin end hb he

    module _ (log logtags : List ℕ) (starts maps : List (List ℕ)) (buckets : List ℕ) (e : Sizes) (i : ℕ) (inv : Turn words tags n o t k js log₀ logtags₀ starts₀ maps₀ buckets₀ e₀ end log logtags starts maps buckets e i) where
      abbrev S : List ℕ → Derived
      S special = st_of words log logtags starts maps special e

      entries_stay : size_r (table_of log logtags starts e.counts 7) ≡ size_r (table_of log₀ logtags₀ starts₀ e₀.counts 7)
      entries_stay =
          rw (inv.beside.entries_same.0, inv.beside.entries_same.1)
          (ap size_r (table_stays log₀ logtags₀ log logtags starts₀ maps₀ buckets₀ buckets e₀ K₀ inv.below inv.kept.log_long inv.kept.tags_long inv.marks_stay 7 (omega arith)))

      module _ (less : i < end) where
        pub turn_in : i < 16384
        turn_in = let a = st.small in omega arith

        module _ (u : ℕ) (hu : u ≡ refers_to (target (get_or tags i 0)) (get_or words i 0)) where
          cut : (special : List ℕ) (v : Derived) → v ≡ cond (ltb u 6) (import_t o T (tab_of u) (number_of (target (get_or tags i 0)) (get_or words i 0)) (S special)) (S special)
              → fold_refs (refs (between tags words (suc i) end)) (step_t (import_t o T)) v ≡ fold_refs js (step_t (import_t o T)) (S₀ special)
          unfolding refs
          cut special v hv =
              let b = between_next tags words i end less st.in_tags st.in_words in
              let a : refs (between tags words i end) ≡ ref_of (target (get_or tags i 0)) (get_or words i 0) (refs (between tags words (suc i) end)) = ap refs b in
              ap (λ (x : Derived). fold_refs (refs (between tags words (suc i) end)) (step_t (import_t o T)) x) (hv ∙ rw hu refl)
              ∙ sym (step_is (import_t o T) (target (get_or tags i 0)) (get_or words i 0) (refs (between tags words (suc i) end)) (S special))
              ∙ ap (λ (l : List Node). fold_refs l (step_t (import_t o T)) (S special)) (sym a)
              ∙ inv.same special

          next-lower : All (Lower T (tab_of t) k) (refs (between tags words (suc i) end))
          next-lower = all-next tags words i end less st.in_tags st.in_words (Lower T (tab_of t) k) inv.lower

          lower-here : All (Lower T (tab_of t) k) (ref_of (target (get_or tags i 0)) (get_or words i 0) [])
          lower-here = all_here tags words i end less st.in_tags st.in_words (Lower T (tab_of t) k) inv.lower

          -- a word that refers to nothing
          pub turn_skip : 6 ≤ u → Turn words tags n o t k js log₀ logtags₀ starts₀ maps₀ buckets₀ e₀ end log logtags starts maps buckets e (i + 1)
          turn_skip h = rw (add-one i) (record { more = inv.more; below = inv.below; beside = inv.beside; marks_stay = inv.marks_stay; within = less; going = inv.going; kept = inv.kept; lower = next-lower; same = λ special. cut special (S special) (rw (le-ltb u 6 h)) })

          -- one that refers to a record
          module _ (lt : u < 6) (m : ℕ) (hm : m ≡ number_of (target (get_or tags i 0)) (get_or words i 0)) where
            found : (m < count T (tab_of u)) × (rank T (tab_of u) m < rank T (tab_of t) k)
            found = rw (hm, hu) (hit T (tab_of t) k (target (get_or tags i 0)) (get_or words i 0) lower-here (rw hu at lt))

            pub turn_number : m < count_at u words
            turn_number = let a = count_is words tags n src u lt in let b = found.0 in omega arith

            pub turn_falls : rank T (tab_of u) m < rank T (tab_of t) k
            turn_falls = found.1

            module _ (r : Sizes) (log' logtags' : List ℕ) (starts' maps' : List (List ℕ)) (buckets' : List ℕ) (L : ImportEnsures words (import_t o T (tab_of u) m) log logtags starts maps buckets e r log' logtags' starts' maps' buckets') where
              went : (special : List ℕ) → import_t o T (tab_of u) m (S special) ≡ cond (ltb u 6) (import_t o T (tab_of u) (number_of (target (get_or tags i 0)) (get_or words i 0)) (S special)) (S special)
              went special = rw (lt-ltb u 6 lt, hm)

              pub turn_full : r.full ≡ true → ImportEnsures words f log₀ logtags₀ starts₀ maps₀ buckets₀ e₀ r log' logtags' starts' maps' buckets'
              turn_full q = record {
                over = λ z special. rw (← entries_stay)
                    (over_grow _
                    (then (grow_each (import_t o T) (grow_T o T) (refs (between tags words (suc i) end)) (import_t o T (tab_of u) m (S special))) (rw (cut special (import_t o T (tab_of u) m (S special)) (went special)) (ends_in special)))
                    (L.over q special));
                is = λ z. absurd (false≢true (sym z ∙ q));
                kept = λ z. absurd (false≢true (sym z ∙ q));
                beside = λ z. absurd (false≢true (sym z ∙ q));
                more = λ z. absurd (false≢true (sym z ∙ q));
                below = same_then e₀.loglen e.loglen log₀ logtags₀ log logtags log' logtags' inv.more inv.below L.below;
                log_long = L.log_long;
                tags_long = L.tags_long;
                marks_stay = marks_then buckets₀ buckets buckets' inv.marks_stay L.marks_stay;
              }

              pub turn-next : r.full ≡ false → Turn words tags n o t k js log₀ logtags₀ starts₀ maps₀ buckets₀ e₀ end log' logtags' starts' maps' buckets' r (i + 1)
              turn-next q = rw (add-one i) (record {
                more = le_trans inv.more (L.more q);
                below = same_then e₀.loglen e.loglen log₀ logtags₀ log logtags log' logtags' inv.more inv.below L.below;
                beside = beside_then starts₀ starts starts' e₀ e r inv.beside (L.beside q);
                marks_stay = marks_then buckets₀ buckets buckets' inv.marks_stay L.marks_stay;
                within = less;
                going = q;
                kept = L.kept q;
                lower = next-lower;
                same = λ special. cut special (st_of words log' logtags' starts' maps' special r) (sym (L.is q special) ∙ went special);
              })

      -- the record is interned
      pub turn_done : end ≤ i → (special : List ℕ) → S special ≡ fold_refs js (step_t (import_t o T)) (S₀ special)
      unfolding refs fold_refs
      turn_done h special = rw (between_none tags words i end h) at (inv.same special)

      went-at : (special : List ℕ) (p : Place) (x : ℕ) → x < count T (home p) → mapped_to_t (S special) p x ≡ went_r maps p x
      unfolding mapped_to_t went_r code_p home code_t
      went-at special (table u) x h = map_is words log logtags starts maps special e u x (let a = count_is words tags n src (code_t u) (code_low u) in let b : count_at (code_t u) words ≡ count T u = rw (tab_code u) at a in omega arith)
      went-at special own x h = map_is words log logtags starts maps special e exprs x (let a = count_is words tags n src 5 (omega arith) in let b : count_at 5 words ≡ count T exprs = rw (tab_code exprs) at a in omega arith)
      went-at special function x h = let a = inv.kept.maps-six in rw (get_or-eq_default maps [] {n = 7} (omega arith)) refl

      -- references that lie in the tables go where the rows say
      pub carried-by : (special : List ℕ) (cs : Cells) → All (Lower T (tab_of t) k) (refs cs) → carry_cells (through (went_r maps)) cs ≡ carry_cells (through (mapped_to_t (S special))) cs
      unfolding Lower
      carried-by special cs low = carry_same (mapped_to_t (S special)) (went_r maps) cs (all_map (refs cs) (λ j l. sym (went-at special j.place j.num l.0)) low)

      pub turn_last : (c : Cells) → ((special : List ℕ) → f (S₀ special) ≡ intern (tab_of t) k c (S special)) → (r : Sizes) (log' logtags' : List ℕ) (starts' maps' : List (List ℕ)) (buckets' : List ℕ)
          → ImportEnsures words (intern (tab_of t) k c) log logtags starts maps buckets e r log' logtags' starts' maps' buckets'
          → ImportEnsures words f log₀ logtags₀ starts₀ maps₀ buckets₀ e₀ r log' logtags' starts' maps' buckets'
      turn_last c eq r log' logtags' starts' maps' buckets' L = record {
        over = λ q special. rw (eq special, ← entries_stay) (L.over q special);
        is = λ q special. eq special ∙ L.is q special;
        kept = L.kept;
        beside = λ q. beside_then starts₀ starts starts' e₀ e r inv.beside (L.beside q);
        more = λ q. le_trans inv.more (L.more q);
        below = same_then e₀.loglen e.loglen log₀ logtags₀ log logtags log' logtags' inv.more inv.below L.below;
        log_long = L.log_long;
        tags_long = L.tags_long;
        marks_stay = marks_then buckets₀ buckets buckets' inv.marks_stay L.marks_stay;
      }

  -- ---- the import of record k of table t
  module _ (new : cell maps₀ t k ≡ 0) (begin end : ℕ) (hb : begin ≡ record_at t k words) (he : end ≡ record_end t k words) where
    abbrev J : List Node
    J = refs (rec_at (src_of words n) (tab_of t) k)

    pub ends_in : (special : List ℕ) → Grow (fold_refs J (step_t (import_t o T)) (S₀ special)) (import_t o T (tab_of t) k (S₀ special))
    unfolding commit
    ends_in special = rw (start_is new special) (grow_settle (tab_of t) k _ _)

    pub turn-first : Turn words tags n o t k J log₀ logtags₀ starts₀ maps₀ buckets₀ e₀ end log₀ logtags₀ starts₀ maps₀ buckets₀ e₀ begin
    turn-first = record {
      more = le_refl _;
      below = same_refl e₀.loglen log₀ logtags₀;
      beside = beside_refl starts₀ e₀;
      marks_stay = marks_refl buckets₀ K₀.marks_long;
      within = (stretch words tags n src t k ht hk begin end hb he).rising;
      going = nf;
      kept = K₀;
      lower = record_lower words tags n src t k ht hk begin end hb he;
      same = λ special. rw (record_is words tags n src t k ht hk begin end hb he) refl;
    }

    -- the record is what the words become
    module _ (log logtags : List ℕ) (starts maps : List (List ℕ)) (buckets : List ℕ) (e : Sizes) (i : ℕ) (inv : Turn words tags n o t k J log₀ logtags₀ starts₀ maps₀ buckets₀ e₀ end log logtags starts maps buckets e i) (h : end ≤ i) where
      settled : (special : List ℕ) → import_t o T (tab_of t) k (S₀ special) ≡ intern (tab_of t) k (shift (carried_by (went_r maps) tags words begin end) o false) (st_of words log logtags starts maps special e)
      unfolding commit made carried_by
      settled special =
          start_is new special
          ∙ rw (← turn_done (import_t o T (tab_of t) k) J ends_in begin end hb he log logtags starts maps buckets e i inv h special, record_is words tags n src t k ht hk begin end hb he, carried-by (import_t o T (tab_of t) k) J ends_in begin end hb he log logtags starts maps buckets e i inv special (rec_at T (tab_of t) k) (falls T (wf words tags n src) (tab_of t) k (inside words tags n src t k ht hk))) refl

      pub turn_settled : (r : Sizes) (log' logtags' : List ℕ) (starts' maps' : List (List ℕ)) (buckets' : List ℕ)
          → ImportEnsures words (intern (tab_of t) k (shift (carried_by (went_r maps) tags words begin end) o false)) log logtags starts maps buckets e r log' logtags' starts' maps' buckets'
          → ImportEnsures words (import_t o T (tab_of t) k) log₀ logtags₀ starts₀ maps₀ buckets₀ e₀ r log' logtags' starts' maps' buckets'
      turn_settled = turn_last (import_t o T (tab_of t) k) J ends_in begin end hb he log logtags starts maps buckets e i inv (shift (carried_by (went_r maps) tags words begin end) o false) settled
