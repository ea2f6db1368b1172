-- Records that are not alike in one word are not alike.
use Rattle.std.proofs.Common.{◌≡◌, ℕ, zero, suc, ◌+◌, ◌-◌, ◌<◌, ◌≤◌, Bool, true, false, List, [], ◌∷◌, length, get_or, sym, refl, ◌∙◌, arith}
use Rattle.model.specs.Outcome.{Cell, Cells}
use Rattle.model.specs.Between.{between, Stretch}
use Rattle.model.specs.References.{Place, Node, target, ref_of, refs, through, alike_c, alike}
use Rattle.theory_records.specs.RecordLaws.{All}
use Rattle.theory_image.specs.Betweens.{between_next}
use Rattle.derive_state.specs.Refers.{Small}
use Rattle.derive_state.specs.Held.{rec_at, carried_by}
use Rattle.derive_state.proofs.Passes.{all_here, all-next, carried-next}

-- ---- one word of a stretch
module _ (tags words : List ℕ) (end : ℕ) (t : end ≤ length tags) (w : end ≤ length words) (P : Node → Type 0) (j : ℕ) (h : j < end) where
  pub all-at : (d i : ℕ) → j ≡ i + d → All P (refs (between tags words i end)) → All P (ref_of (target (get_or tags j 0)) (get_or words j 0) [])
  all-at zero i q a = let z : j ≡ i = omega arith in rw z (all_here tags words i end (omega arith) t w P a)
  all-at (suc d) i q a = all-at d (suc i) (omega arith) (all-next tags words i end (omega arith) t w P a)

-- ---- records that are not alike in one word are not alike
head_not : (c d : Cell) (cs ds : Cells) → alike_c c d ≡ false → alike (c ∷ cs) (d ∷ ds) ≡ false
unfolding alike
head_not c d cs ds e = rw (e, alike)

rest_not : (c d : Cell) (cs ds : Cells) → alike cs ds ≡ false → alike (c ∷ cs) (d ∷ ds) ≡ false
unfolding alike
rest_not c d cs ds e = go (alike_c c d)
  where
    go : (x : Bool) → elim x [ true ↦ alike cs ds | false ↦ false ] ≡ false
    go true = e
    go false = refl

module _ (tags words logtags log : List ℕ) (went : Place → ℕ → ℕ) (end to : ℕ) (t : end ≤ length tags) (w : end ≤ length words) (u : to ≤ length logtags) (v : to ≤ length log) (j q : ℕ) (h : j < end)
    (e : alike_c (get_or logtags q 0, get_or log q 0) (get_or tags j 0, through went (get_or tags j 0) (get_or words j 0)) ≡ false) where
  pub unlike : (d i p : ℕ) → j ≡ i + d → q ≡ p + d → p + (end - i) ≡ to → alike (between logtags log p to) (carried_by went tags words i end) ≡ false
  unlike zero i p hj hq l =
      let x : i ≡ j = omega arith in
      let y : p ≡ q = omega arith in
      rw (x, y) (rw (between_next logtags log q to (omega arith) u v, carried-next tags words j end h t w went) (head_not _ _ _ _ e))
  unlike (suc d) i p hj hq l =
      rw (between_next logtags log p to (omega arith) u v, carried-next tags words i end (omega arith) t w went)
      (rest_not _ _ _ _ (unlike d (suc i) (suc p) (omega arith) (omega arith) (omega arith)))

-- ---- of a record in the log and one of the source that is as long, by the last word
module _ (words tags log logtags : List ℕ) (went : Place → ℕ → ℕ) (at end s : ℕ) (st : Stretch words tags at end) (in_log : s + suc (get_or log s 0) ≤ 16384) (log_long : length log ≡ 16384) (logtags_long : length logtags ≡ 16384) (some : at < end) where
  pub last_small : All Small (refs (between tags words at end)) → All Small (ref_of (target (get_or tags (end - 1) 0)) (get_or words (end - 1) 0) [])
  last_small a = all-at tags words end st.in_tags st.in_words Small (end - 1) (omega arith) (end - 1 - at) at (omega arith) a

  pub last_not : (n : ℕ) → n ≡ get_or log s 0 → n ≡ end - at → (y : ℕ) → y ≡ through went (get_or tags (end - 1) 0) (get_or words (end - 1) 0) → (r : Bool) → r ≡ alike_c (get_or logtags (s + (end - at)) 0, get_or log (s + (end - at)) 0) (get_or tags (end - 1) 0, y) → r ≡ false → false ≡ alike (rec_at log logtags s) (carried_by went tags words at end)
  unfolding rec_at
  last_not n e f y ye r re q =
      sym (unlike tags words logtags log went end (suc s + get_or log s 0) st.in_tags st.in_words (omega arith) (omega arith) (end - 1) (s + (end - at)) (omega arith) (sym (ye_is) ∙ q) (end - 1 - at) at (suc s) (omega arith) (omega arith) (omega arith))
    where
      ye_is : r ≡ alike_c (get_or logtags (s + (end - at)) 0, get_or log (s + (end - at)) 0) (get_or tags (end - 1) 0, through went (get_or tags (end - 1) 0) (get_or words (end - 1) 0))
      ye_is = rw (← ye) re
