-- The passes over words and tags: comparing, searching, writing.
use Rattle.std.proofs.Common.{◌≡◌, ℕ, zero, suc, ◌+◌, ◌-◌, ◌<◌, ◌≤◌, Bool, true, false, List, [], ◌∷◌, map, length, get_or, take, drop, set, sym, refl, ap, subst, ◌∙◌, add-zero, zero-add, add-one, arith, length-set, drop_of_length-le, length-take-le, drop-cons, get_or-take}
use lib.ListN.{length-map}
use lib.Seq.{slice, sets, length-slice}
use Rattle.std.specs.declared.ops.Range.{Range}
use Rattle.std.specs.Iterator.{Yields}
use Rattle.std.specs.List.{fold, range_with_len}
use Rattle.std.proofs.iter.Yields.{nat_range_steps}
use Rattle.model.specs.Outcome.{Cells, class, word}
use Rattle.model.specs.Between.{beside, between, Stretch}
use Rattle.model.specs.Carry.{carry_cell}
use Rattle.model.specs.References.{Place, Target, copied, start, upto, ref, opt, target, Node, ref_of, refs, through, first_word, undefined_at, moved, shift, alike_c, alike, index_of}
use Rattle.theory_records.specs.RecordLaws.{All, rest_of, bare_w, bare}
use Rattle.intake_distinct.specs.Places.{mix, mixed}
use Rattle.theory_image.specs.Betweens.{between_none, between_next}
use Rattle.derive_state.specs.Refers.{Small}
use Rattle.derive_state.specs.Held.{rec_at, recs_at, carried_by, Written}

-- ---- stretches
pub length-beside : (ss ws : List ℕ) → length ss ≡ length ws → length (beside ss ws) ≡ length ss
unfolding beside
length-beside [] ws e = refl
length-beside (s ∷ ss) [] e = absurd (omega arith)
length-beside (s ∷ ss) (w ∷ ws) e = ap suc (length-beside ss ws (omega arith))

pub length-between : (tags words : List ℕ) (i end : ℕ) → end ≤ length tags → end ≤ length words → length (between tags words i end) ≡ end - i
unfolding between
length-between tags words i end t w =
    let a = length-slice i end tags t in
    let b = length-slice i end words w in
    length-beside (slice i end tags) (slice i end words) (a ∙ sym b) ∙ a

pub head_of : (P : Node → Type 0) (t : Target) (w : ℕ) (rest : List Node) → All P (ref_of t w rest) → All P (ref_of t w [])
unfolding ref_of
head_of P copied w rest a = tt
head_of P start w rest a = tt
head_of P upto w rest a = tt
head_of P (ref p) w rest a = (a.0, tt)
head_of P (opt p) zero rest a = tt
head_of P (opt p) (suc n) rest a = (a.0, tt)

module _ (tags words : List ℕ) (i end : ℕ) (h : i < end) (t : end ≤ length tags) (w : end ≤ length words) where
  refs-next : refs (between tags words i end) ≡ ref_of (target (get_or tags i 0)) (get_or words i 0) (refs (between tags words (suc i) end))
  unfolding refs
  refs-next = ap refs (between_next tags words i end h t w)

  pub all_here : (P : Node → Type 0) → All P (refs (between tags words i end)) → All P (ref_of (target (get_or tags i 0)) (get_or words i 0) [])
  all_here P a = head_of P (target (get_or tags i 0)) (get_or words i 0) (refs (between tags words (suc i) end)) (rw refs-next at a)

  pub all-next : (P : Node → Type 0) → All P (refs (between tags words i end)) → All P (refs (between tags words (suc i) end))
  all-next P a = rest_of P (target (get_or tags i 0)) (get_or words i 0) (refs (between tags words (suc i) end)) (rw refs-next at a)

  pub carried-next : (went : Place → ℕ → ℕ) → carried_by went tags words i end ≡ (get_or tags i 0, through went (get_or tags i 0) (get_or words i 0)) ∷ carried_by went tags words (suc i) end
  unfolding carried_by carry_cell
  carried-next went = rw (between_next tags words i end h t w)

pub carried-nothing : (went : Place → ℕ → ℕ) (tags words : List ℕ) (i end : ℕ) → end ≤ i → carried_by went tags words i end ≡ []
unfolding carried_by
carried-nothing went tags words i end h = rw (between_none tags words i end h)

-- ---- the word that follows
pub following_some : (went : Place → ℕ → ℕ) (tags words : List ℕ) (i end : ℕ) → i < end → end ≤ length tags → end ≤ length words → (r : ℕ) → r ≡ through went (get_or tags i 0) (get_or words i 0) → r ≡ first_word (carried_by went tags words i end)
unfolding first_word
following_some went tags words i end h t w r e = rw (carried-next tags words i end h t w went) e

pub following_none : (went : Place → ℕ → ℕ) (tags words : List ℕ) (i end : ℕ) → end ≤ i → 0 ≡ first_word (carried_by went tags words i end)
unfolding first_word
following_none went tags words i end h = rw (carried-nothing went tags words i end h)

-- ---- hashing
module _ (words tags : List ℕ) (went : Place → ℕ → ℕ) where
  -- a hash with the word j in it
  abbrev pub hash_step : ℕ → ℕ → ℕ
  hash_step h j = mix h (bare_w (target (get_or tags j 0)) (through went (get_or tags j 0) (get_or words j 0)))

  module _ (end : ℕ) (t : end ≤ length tags) (w : end ≤ length words) where
    pub hash_fold : (n i h : ℕ) → i + n ≡ end → fold hash_step h (range_with_len i n) ≡ mixed (map word (bare (carried_by went tags words i end))) h
    unfolding mixed bare
    hash_fold zero i h e = rw (carried-nothing went tags words i end (omega arith)) refl
    hash_fold (suc n) i h e = rw (add-one i, carried-next tags words i end (omega arith) t w went) (hash_fold n (suc i) (hash_step h i) (omega arith))

module _ (words tags : List ℕ) (end : ℕ) (t : end ≤ length tags) (w : end ≤ length words) where
  pub hash_small : (at i : ℕ) → at ≤ i → i < end → All Small (refs (between tags words at end)) → All Small (ref_of (target (get_or tags i 0)) (get_or words i 0) [])
  hash_small at i l h a = all_here tags words i end h t w Small (all-from at (i - at) (omega arith) (omega arith) a)
    where
      all-from : (at n : ℕ) → at + n ≤ end → i ≡ at + n → All Small (refs (between tags words at end)) → All Small (refs (between tags words i end))
      all-from at zero l e a = subst (λ k. All Small (refs (between tags words k end))) {x = at} {y = i} (omega arith) a
      all-from at (suc n) l e a = all-from (suc at) n (omega arith) (omega arith) (all-next tags words at end (omega arith) t w Small a)

-- a range that yields has its end, and goes up
pub range_within : (xs : List ℕ) (s t : Range ℕ) → Yields nat_range_steps s xs t → (t.end ≡ s.end) × (s.start ≤ t.start)
range_within [] s t y = (sym (ap (λ k. k.end) y), omega (arith, ap (λ (k : Range ℕ). k.start) y))
range_within (x ∷ xs) s t y = let h = range_within xs y.0 t y.2 in (h.0 ∙ y.1.0, omega (arith, h.1, y.1.1.2))

-- ---- comparing
alike-short : (a b : Cells) → (length a ≡ length b → ⊥) → alike a b ≡ false
unfolding alike
alike-short [] [] ne = absurd (ne refl)
alike-short [] (d ∷ ds) ne = refl
alike-short (c ∷ cs) [] ne = refl
alike-short (c ∷ cs) (d ∷ ds) ne = go (alike_c c d) (alike-short cs ds (λ e. ne (ap suc e)))
  where
    go : (x : Bool) → alike cs ds ≡ false → elim x [ true ↦ alike cs ds | false ↦ false ] ≡ false
    go true e = e
    go false e = refl

-- words and classes from `from` to `to` with what the source's words from `at` to `end` become; P holds of what these refer to
module _ (P : Node → Type 0) (words tags log logtags : List ℕ) (went : Place → ℕ → ℕ) (at end from to : ℕ) where
  pub record Compares (i p : ℕ) : Type 0 where
    pub within : i ≤ end
    pub level : p + (end - i) ≡ to
    pub good : All P (refs (between tags words i end))
    pub same : alike (between logtags log p to) (carried_by went tags words i end) ≡ alike (between logtags log from to) (carried_by went tags words at end)

  module _ (st : Stretch words tags at end) (gd : All P (refs (between tags words at end))) (rising : from ≤ to) (in_log : to ≤ 16384) (log_long : length log ≡ 16384) (logtags_long : length logtags ≡ 16384) where
    pub compares_short : (n : ℕ) → n ≡ to - from → (n ≡ end - at → ⊥) → false ≡ alike (between logtags log from to) (carried_by went tags words at end)
    unfolding carried_by
    compares_short n e ne =
        sym (alike-short (between logtags log from to) (carried_by went tags words at end) (λ q.
        let a = length-between logtags log from to (omega arith) (omega arith) in
        let b = length-between tags words at end st.in_tags st.in_words in
        let c = length-map (between tags words at end) (carry_cell (through went)) in
        ne (omega arith)))

    pub compares_begin : (n : ℕ) → n ≡ to - from → n ≡ end - at → Compares at from
    compares_begin n e f = record { within = st.rising; level = let r = st.rising in omega arith; good = gd; same = refl }

    module _ (i p : ℕ) (inv : Compares i p) (less : i < end) where
      pub compares_in : p < 16384
      compares_in = omega (arith, inv.level)

      pub compares_good : All P (ref_of (target (get_or tags i 0)) (get_or words i 0) [])
      compares_good = all_here tags words i end less st.in_tags st.in_words P inv.good

      module _ (y : ℕ) (ye : y ≡ through went (get_or tags i 0) (get_or words i 0)) (r : Bool) (re : r ≡ alike_c (get_or logtags p 0, get_or log p 0) (get_or tags i 0, y)) where
        cut : elim r [ true ↦ alike (between logtags log (suc p) to) (carried_by went tags words (suc i) end) | false ↦ false ] ≡ alike (between logtags log from to) (carried_by went tags words at end)
        unfolding alike
        cut =
            let b = between_next logtags log p to (omega (arith, inv.level)) (omega arith) (omega arith) in
            let c = carried-next tags words i end less st.in_tags st.in_words went in
            rw (re, ye) (rw (b, c) at inv.same)

        pub compares_not : r ≡ false → false ≡ alike (between logtags log from to) (carried_by went tags words at end)
        compares_not e = rw e at cut

        pub compares_next : r ≡ true → Compares (i + 1) (p + 1)
        compares_next e =
            rw (add-one i, add-one p)
            (record { within = less; level = let l = inv.level in omega arith; good = all-next tags words i end less st.in_tags st.in_words P inv.good; same = rw e at cut })

    pub compares_done : (i p : ℕ) → Compares i p → end ≤ i → true ≡ alike (between logtags log from to) (carried_by went tags words at end)
    unfolding alike
    compares_done i p inv h =
        let a = between_none logtags log p to (omega (arith, inv.level)) in
        let b = carried-nothing went tags words i end h in
        rw (a, b) at inv.same

-- the same of the record at s
module _ (words tags log logtags : List ℕ) (went : Place → ℕ → ℕ) (at end s : ℕ) where
  abbrev pub Comparing : ℕ → ℕ → Type 0
  Comparing i p = Compares Small words tags log logtags went at end (suc s) (suc s + get_or log s 0) i p

  module _ (st : Stretch words tags at end) (sm : All Small (refs (between tags words at end))) (in_log : s + suc (get_or log s 0) ≤ 16384) (log_long : length log ≡ 16384) (logtags_long : length logtags ≡ 16384) where
    pub compare-short : (n : ℕ) → n ≡ get_or log s 0 → (n ≡ end - at → ⊥) → false ≡ alike (rec_at log logtags s) (carried_by went tags words at end)
    unfolding rec_at
    compare-short n e ne = compares_short Small words tags log logtags went at end (suc s) (suc s + get_or log s 0) st sm (omega arith) (omega arith) log_long logtags_long n (omega arith) ne

    pub compare-begin : (n : ℕ) → n ≡ get_or log s 0 → n ≡ end - at → Comparing at (s + 1)
    compare-begin n e f = rw (add-one s) (compares_begin Small words tags log logtags went at end (suc s) (suc s + get_or log s 0) st sm (omega arith) (omega arith) log_long logtags_long n (omega arith) f)

    module _ (i p : ℕ) (inv : Comparing i p) (less : i < end) where
      pub compare_in : p < 16384
      compare_in = compares_in Small words tags log logtags went at end (suc s) (suc s + get_or log s 0) st sm (omega arith) (omega arith) log_long logtags_long i p inv less

      pub compare_small : All Small (ref_of (target (get_or tags i 0)) (get_or words i 0) [])
      compare_small = all_here tags words i end less st.in_tags st.in_words Small inv.good

      module _ (y : ℕ) (ye : y ≡ through went (get_or tags i 0) (get_or words i 0)) (r : Bool) (re : r ≡ alike_c (get_or logtags p 0, get_or log p 0) (get_or tags i 0, y)) where
        pub compare_not : r ≡ false → false ≡ alike (rec_at log logtags s) (carried_by went tags words at end)
        unfolding rec_at
        compare_not e = compares_not Small words tags log logtags went at end (suc s) (suc s + get_or log s 0) st sm (omega arith) (omega arith) log_long logtags_long i p inv less y ye r re e

        pub compare-next : r ≡ true → Comparing (i + 1) (p + 1)
        compare-next e = compares_next Small words tags log logtags went at end (suc s) (suc s + get_or log s 0) st sm (omega arith) (omega arith) log_long logtags_long i p inv less y ye r re e

    pub compare_done : (i p : ℕ) → Comparing i p → end ≤ i → true ≡ alike (rec_at log logtags s) (carried_by went tags words at end)
    unfolding rec_at
    compare_done i p inv h = compares_done Small words tags log logtags went at end (suc s) (suc s + get_or log s 0) st sm (omega arith) (omega arith) log_long logtags_long i p inv h

-- ---- searching
pub record Seeks (log logtags ss : List ℕ) (c : Cells) (n k : ℕ) : Type 0 where
  pub low : k ≤ n
  pub rest : index_of (recs_at log logtags (take n ss)) c ≡ k + index_of (recs_at log logtags (drop k (take n ss))) c

module _ (log logtags ss : List ℕ) (c : Cells) (n : ℕ) (hn : n ≤ length ss) where
  pub seek_first : Seeks log logtags ss c n 0
  seek_first = record { low = omega arith; rest = sym (zero-add _) }

  module _ (k : ℕ) (T : Seeks log logtags ss c n k) where
    cons : k < n → drop k (take n ss) ≡ get_or ss k 0 ∷ drop (k + 1) (take n ss)
    cons h = let l = length-take-le n ss hn in drop-cons (take n ss) k 0 (omega arith) ∙ rw (get_or-take n ss k 0 h, add-one)

    module _ (h : k < n) (s : ℕ) (hs : s ≡ get_or ss k 0) (r : Bool) (re : r ≡ alike (rec_at log logtags s) c) where
      pub seek_found : r ≡ true → k ≡ index_of (recs_at log logtags (take n ss)) c
      unfolding recs_at index_of
      seek_found e = sym (T.rest ∙ rw (cons h, ← hs, sym re ∙ e, index_of) (add-zero k))

      pub seek_more : r ≡ false → Seeks log logtags ss c n (k + 1)
      unfolding recs_at index_of
      seek_more e = record { low = omega arith; rest = T.rest ∙ rw (cons h, ← hs, sym re ∙ e, index_of) (omega arith) }

    pub seek_last : n ≤ k → n ≡ index_of (recs_at log logtags (take n ss)) c
    unfolding recs_at index_of
    seek_last h =
        let l = length-take-le n ss hn in
        let e : k ≡ n = let z = T.low in omega arith in
        let d : drop n (take n ss) ≡ [] = drop_of_length-le (take n ss) {i = n} (omega arith) in
        sym (T.rest ∙ rw (e, d) (add-zero n))

-- ---- writing; P holds of what the source's words refer to
module _ (P : Node → Type 0) (words tags : List ℕ) (went : Place → ℕ → ℕ) (at end to o : ℕ) (log₀ logtags₀ : List ℕ) where
  pub record Writing (log logtags : List ℕ) (i p : ℕ) (u : Bool) : Type 0 where
    pub within : i ≤ end
    pub level : p + (end - i) ≤ 16384
    pub long : length log ≡ 16384
    pub long' : length logtags ≡ 16384
    pub good : All P (refs (between tags words i end))
    pub words_are : sets log p (map word (shift (carried_by went tags words i end) o u)) ≡ sets log₀ to (map word (shift (carried_by went tags words at end) o false))
    pub tags_are : sets logtags p (map class (shift (carried_by went tags words i end) o u)) ≡ sets logtags₀ to (map class (shift (carried_by went tags words at end) o false))

  module _ (st : Stretch words tags at end) (gd : All P (refs (between tags words at end))) (room : to + (end - at) ≤ 16384) (log_long : length log₀ ≡ 16384) (logtags_long : length logtags₀ ≡ 16384) where
    pub write-begin : Writing log₀ logtags₀ at to false
    write-begin = record { within = st.rising; level = room; long = log_long; long' = logtags_long; good = gd; words_are = refl; tags_are = refl }

    module _ (log logtags : List ℕ) (i p : ℕ) (u : Bool) (inv : Writing log logtags i p u) where
      pub write_done : end ≤ i → Written (shift (carried_by went tags words at end) o false) to log₀ logtags₀ log logtags
      unfolding shift
      write_done h =
          let e = carried-nothing went tags words i end h in
          record { words_are = rw e at inv.words_are; tags_are = rw e at inv.tags_are }

      module _ (less : i < end) where
        pub write_good : All P (ref_of (target (get_or tags i 0)) (get_or words i 0) [])
        write_good = all_here tags words i end less st.in_tags st.in_words P inv.good

        pub write_stretch : Stretch words tags (i + 1) end
        write_stretch = record { rising = omega arith; small = st.small; in_words = st.in_words; in_tags = st.in_tags }

        pub write-rest : All P (refs (between tags words (i + 1) end))
        write-rest = rw add-one (all-next tags words i end less st.in_tags st.in_words P inv.good)

        pub write-next : (w : ℕ) → w ≡ through went (get_or tags i 0) (get_or words i 0)
            → (v : Bool) → v ≡ undefined_at (target (get_or tags i 0)) w (first_word (carried_by went tags words (i + 1) end)) u → (x : ℕ) → x ≡ moved (target (get_or tags i 0)) w o v
            → Writing (set log p x) (set logtags p (get_or tags i 0)) (i + 1) (p + 1) v
        unfolding shift
        write-next w we v ve x xe =
            let c = carried-next tags words i end less st.in_tags st.in_words went in
            let a = rw c at inv.words_are in
            let b = rw c at inv.tags_are in
            let ve' : v ≡ undefined_at (target (get_or tags i 0)) w (first_word (carried_by went tags words (suc i) end)) u = rw (add-one i) at ve in
            rw (add-one i, add-one p)
            (record {
              within = less;
              level = let l = inv.level in omega arith;
              long = length-set log p x ∙ inv.long;
              long' = length-set logtags p (get_or tags i 0) ∙ inv.long';
              good = all-next tags words i end less st.in_tags st.in_words P inv.good;
              words_are = rw (xe, ve', we) a;
              tags_are = rw (ve', we) b;
            })
