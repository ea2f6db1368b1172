-- The words of a stretch, passed from left to right: what those that are left refer to outside the function, from the state that the arrays hold, is what all of them do from the first state.
use mathlib.Core.Path.{◌≡◌, refl, sym, ap, ◌∙◌}
use mathlib.Core.Bool.{true, false, false≢true}
use mathlib.Core.List.{List, [], ◌∷◌}
use Prim.Native.Nat.{ℕ, zero, suc, ◌+◌, ◌≤◌, ◌<◌}
use native.Mathlib.Nat.{le_refl, le_trans}
use native.Mathlib.Numerals.{add-one}
use native.Mathlib.Omega.{arith}
use lib.ListN.{get_or}
use Rattle.model.specs.Outcome.{Cells, class, word}
use Rattle.model.specs.Table.{EXPR}
use Rattle.model.specs.Module.{Module, count_at}
use Rattle.model.specs.Between.{between}
use Rattle.model.specs.Tables.{tables}
use Rattle.model.specs.References.{Place, table, own, function, Target, copied, start, upto, ref, opt, target, ref_of}
use Rattle.model.specs.Imports.{Derived}
use Rattle.theory_records.specs.RecordLaws.{All}
use Rattle.theory_bodies.specs.Context.{outer}
use Rattle.theory_passes.specs.Operands.{outward1, outward}
use Rattle.theory_passes.specs.Light.{still}
use Rattle.theory_image.specs.Betweens.{between_none, between_next}
use Rattle.derive_state.specs.Source.{mod_of, src_of, refers_to, number_of}
use Rattle.derive_state.specs.Held.{table_of, st_of, size_r, ValidArrays, Same, Beside, ImportEnsures}
use Rattle.derive_state.specs.Marks.{Marks}
use Rattle.derive_state.specs.Sizes.{Sizes}
use Rattle.derive_state.proofs.Passes.{all_here, all-next}
use Rattle.derive_state.proofs.State.{same_refl, same_then, marks_refl, marks_then, table_stays}
use Rattle.derive_imports.proofs.Growth.{Grow, stay, then, over_grow, grow_T}
use Rattle.derive_imports.proofs.Turns.{beside_refl, beside_then}
use Rattle.function_references.specs.Fits.{FitN, Legible, record_of}
use Rattle.function_outside.proofs.Cells.{outward-still, fit-table}

-- ---- the references outside only add to a state
module _ (o : ℕ) (M : Module) where
  grow_outer : (p : Place) (n : ℕ) (s : Derived) → Grow s (outer o M still p n s)
  unfolding outer
  grow_outer (table t) n s = grow_T o (tables M) t n s
  grow_outer own n s = stay s
  grow_outer function n s = stay s

  grow_cell : (g : Target) (w : ℕ) (s : Derived) → Grow s (outward1 o M still g w s)
  unfolding outward1
  grow_cell copied w s = stay s
  grow_cell start w s = stay s
  grow_cell upto w s = stay s
  grow_cell (ref p) w s = grow_outer p w s
  grow_cell (opt p) zero s = stay s
  grow_cell (opt p) (suc n) s = grow_outer p n s

  pub grow_outward : (cs : Cells) (s : Derived) → Grow s (outward o M still cs s)
  unfolding outward
  grow_outward [] s = stay s
  grow_outward (c ∷ cs) s = then (grow_cell (target (class c)) (word c) s) (grow_outward cs (outward1 o M still (target (class c)) (word c) s))

-- ---- a stretch without its first word
pub legible_next : {words tags : List ℕ} {k i end : ℕ} → Legible words tags k i end → i < end → Legible words tags k (suc i) end
legible_next {words} {tags} {k} {i} {end} L less = record {
  stretch = record { rising = less; small = L.stretch.small; in_words = L.stretch.in_words; in_tags = L.stretch.in_tags };
  words_long = L.words_long;
  tags_long = L.tags_long;
  fits = all-next tags words i end less L.stretch.in_tags L.stretch.in_words (FitN words k) L.fits;
}

pub legible_here : {words tags : List ℕ} {k i end : ℕ} → Legible words tags k i end → i < end → All (FitN words k) (ref_of (target (get_or tags i 0)) (get_or words i 0) [])
legible_here {words} {tags} {k} {i} {end} L less = all_here tags words i end less L.stretch.in_tags L.stretch.in_words (FitN words k) L.fits

-- ---- the loop
pub record Passing (words tags : List ℕ) (n o at end : ℕ) (log₀ logtags₀ : List ℕ) (starts₀ maps₀ : List (List ℕ)) (buckets₀ : List ℕ) (e₀ : Sizes) (log logtags : List ℕ) (starts maps : List (List ℕ)) (buckets : List ℕ) (e : Sizes) (i : ℕ) : Type 0 where
  pub left : Legible words tags 1024 i end
  pub going : e.full ≡ false
  pub kept : ValidArrays log logtags starts maps buckets e
  pub beside : Beside starts₀ starts e₀ e
  pub more : e₀.loglen ≤ e.loglen
  pub below : Same e₀.loglen log₀ logtags₀ log logtags
  pub marks_stay : Marks buckets₀ buckets
  pub same : (special : List ℕ) → outward o (mod_of words n) still (between tags words i end) (st_of words log logtags starts maps special e) ≡ outward o (mod_of words n) still (between tags words at end) (st_of words log₀ logtags₀ starts₀ maps₀ special e₀)

module _ (words tags : List ℕ) (n o at end : ℕ) (log₀ logtags₀ : List ℕ) (starts₀ maps₀ : List (List ℕ)) (buckets₀ : List ℕ) (e₀ : Sizes) (K₀ : ValidArrays log₀ logtags₀ starts₀ maps₀ buckets₀ e₀) where
  abbrev M : Module
  M = mod_of words n

  abbrev S₀ : List ℕ → Derived
  S₀ special = st_of words log₀ logtags₀ starts₀ maps₀ special e₀

  pub pass-first : Legible words tags 1024 at end → e₀.full ≡ false → Passing words tags n o at end log₀ logtags₀ starts₀ maps₀ buckets₀ e₀ log₀ logtags₀ starts₀ maps₀ buckets₀ e₀ at
  pass-first L nf = record {
    left = L;
    going = nf;
    kept = K₀;
    beside = beside_refl starts₀ e₀;
    more = le_refl _;
    below = same_refl e₀.loglen log₀ logtags₀;
    marks_stay = marks_refl buckets₀ K₀.marks_long;
    same = λ special. refl;
  }

  module _ (log logtags : List ℕ) (starts maps : List (List ℕ)) (buckets : List ℕ) (e : Sizes) (i : ℕ) (inv : Passing words tags n o at end log₀ logtags₀ starts₀ maps₀ buckets₀ e₀ log logtags starts maps buckets e i) where
    abbrev S : List ℕ → Derived
    S special = st_of words log logtags starts maps special e

    entries_stay : size_r (table_of log logtags starts e.counts 7) ≡ size_r (table_of log₀ logtags₀ starts₀ e₀.counts 7)
    entries_stay =
        rw (inv.beside.entries_same.0, inv.beside.entries_same.1)
        (ap size_r (table_stays log₀ logtags₀ log logtags starts₀ maps₀ buckets₀ buckets e₀ K₀ inv.below inv.kept.log_long inv.kept.tags_long inv.marks_stay 7 (omega arith)))

    module _ (less : i < end) where
      cut : (special : List ℕ) (v : Derived) → v ≡ outward1 o M still (target (get_or tags i 0)) (get_or words i 0) (S special) → outward o M still (between tags words (suc i) end) v ≡ outward o M still (between tags words at end) (S₀ special)
      unfolding outward
      cut special v hv =
          ap (λ (x : Derived). outward o M still (between tags words (suc i) end) x) hv
          ∙ ap (λ (cs : Cells). outward o M still cs (S special)) (sym (between_next tags words i end less inv.left.stretch.in_tags inv.left.stretch.in_words))
          ∙ inv.same special

      -- a word that imports nothing
      pub pass_skip : ((s : Derived) → outward1 o M still (target (get_or tags i 0)) (get_or words i 0) s ≡ s) → Passing words tags n o at end log₀ logtags₀ starts₀ maps₀ buckets₀ e₀ log logtags starts maps buckets e (i + 1)
      pass_skip idle = rw (add-one i) (record {
        left = legible_next inv.left less;
        going = inv.going;
        kept = inv.kept;
        beside = inv.beside;
        more = inv.more;
        below = inv.below;
        marks_stay = inv.marks_stay;
        same = λ special. cut special (S special) (sym (idle (S special)));
      })

      -- a reference outside
      module _ (s : ℕ) (hs : s ≡ get_or tags i 0) (low : s < EXPR) (t h : ℕ) (ht : t ≡ refers_to (target s) (get_or words i 0)) (hh : h ≡ number_of (target s) (get_or words i 0)) where
        pub pass_number : t < 6 → h < count_at t words
        pass_number l = rw (ht, hh) (fit-table words 1024 s (get_or words i 0) low (rw ht at l) (rw hs (legible_here inv.left less))).0

        brought : (special : List ℕ) → record_of o (src_of words n) t h (S special) ≡ outward1 o M still (target (get_or tags i 0)) (get_or words i 0) (S special)
        unfolding src_of
        brought special = rw (ht, hh, ← hs) (sym (outward-still o M s (get_or words i 0) (S special) low))

        module _ (r : Sizes) (log' logtags' : List ℕ) (starts' maps' : List (List ℕ)) (buckets' : List ℕ) (L : ImportEnsures words (record_of o (src_of words n) t h) log logtags starts maps buckets e r log' logtags' starts' maps' buckets') where
          pub pass_full : r.full ≡ true → ImportEnsures words (outward o M still (between tags words at end)) log₀ logtags₀ starts₀ maps₀ buckets₀ e₀ r log' logtags' starts' maps' buckets'
          pass_full q = record {
            over = λ z special. rw (← entries_stay, ← cut special (record_of o (src_of words n) t h (S special)) (brought special)) (over_grow _ (grow_outward o M (between tags words (suc i) end) (record_of o (src_of words n) t h (S special))) (L.over q special));
            is = λ z. absurd (false≢true (sym z ∙ q));
            kept = λ z. absurd (false≢true (sym z ∙ q));
            beside = λ z. absurd (false≢true (sym z ∙ q));
            more = λ z. absurd (false≢true (sym z ∙ q));
            below = same_then e₀.loglen e.loglen log₀ logtags₀ log logtags log' logtags' inv.more inv.below L.below;
            log_long = L.log_long;
            tags_long = L.tags_long;
            marks_stay = marks_then buckets₀ buckets buckets' inv.marks_stay L.marks_stay;
          }

          pub pass-next : r.full ≡ false → Passing words tags n o at end log₀ logtags₀ starts₀ maps₀ buckets₀ e₀ log' logtags' starts' maps' buckets' r (i + 1)
          pass-next q = rw (add-one i) (record {
            left = legible_next inv.left less;
            going = q;
            kept = L.kept q;
            beside = beside_then starts₀ starts starts' e₀ e r inv.beside (L.beside q);
            more = le_trans inv.more (L.more q);
            below = same_then e₀.loglen e.loglen log₀ logtags₀ log logtags log' logtags' inv.more inv.below L.below;
            marks_stay = marks_then buckets₀ buckets buckets' inv.marks_stay L.marks_stay;
            same = λ special. cut special (st_of words log' logtags' starts' maps' special r) (sym (L.is q special) ∙ brought special);
          })

    pub pass_done : end ≤ i → ImportEnsures words (outward o M still (between tags words at end)) log₀ logtags₀ starts₀ maps₀ buckets₀ e₀ e log logtags starts maps buckets
    unfolding outward
    pass_done h = record {
      over = λ q. absurd (false≢true (sym inv.going ∙ q));
      is = λ q special. sym (rw (between_none tags words i end h) at (inv.same special));
      kept = λ q. inv.kept;
      beside = λ q. inv.beside;
      more = λ q. inv.more;
      below = inv.below;
      log_long = inv.kept.log_long;
      tags_long = inv.kept.tags_long;
      marks_stay = inv.marks_stay;
    }
