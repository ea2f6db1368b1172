-- At every point of a walk, what is left to do gives the result of the whole.
use mathlib.Core.Path.{◌≡◌, refl, sym, ap, ◌∙◌}
use mathlib.Core.Bool.{Bool, true, false}
use mathlib.Core.List.{List, [], ◌∷◌, ◌++◌, map, append-nil}
use Prim.Native.Nat.{ℕ, zero, suc, ◌+◌, ◌-◌, ◌*◌, ◌/◌, ◌%◌, ◌^◌, ◌≤◌, ◌<◌}
use native.Mathlib.Numerals.{add-one}
use native.Mathlib.Omega.{arith}
use lib.Dec.{eqb, ltb, leb}
use lib.ListN.{length, get_or, set, drop, take, replicate, length-append, length-map, length-drop, length-replicate}
use borrow.Rule.Slice.PartMut.{put_mid, mid_of}
use Rattle.base_words.proofs.Loops.{put}
use lib.Seq.{slice, sets, slice-cons, drop-drop, length-slice, length-take-le, drop-append_seam}
use Rattle.std.specs.Prelude.{Result, Ok, Err}
use Rattle.std.specs.Result.{IsErrAnd}
use Rattle.std.proofs.lemmas.Result.{err_from_is_err_and}
use borrow.Author.Tests.{le-leb, lt-leb, leb-true, leb-false, lt-ltb, le-ltb, eq-eqb, ne_eqb}
use Rattle.theory_lists.specs.Stores.{sets-append}
use Rattle.theory_lists.specs.Lists.{map-append}
use Rattle.model.specs.Outcome.{Cells, class, word, Outcome, fits, misfit, unknown, eat, map_o}
use Rattle.model.specs.Table.{Row, WORD, EXPR, PAD, TEXT, OPERANDS, brings, over, repeat, text, more, follow, run}
use Rattle.theory_image.specs.Betweens.{slice-none}
use Rattle.intake_fields.specs.Parts.{Reader, join}
use Rattle.intake_fields.specs.Walks.{Walked, Final, next, refused, stopped, seen, final, RowEnsures, Takes, filled, Fills}
use Rattle.intake_fields.specs.declared.Misread.{Misread}
use Rattle.intake_fields.specs.declared.Misread.TheVariants.{Misfit, Strange}
use Rattle.intake_fields.proofs.Flat.{run_none, run-append, plain_more}
use Rattle.intake_fields.proofs.Reading.{Reads, reads, reads-run}

-- the exit of a `?` returns the error that it met
pub exit : {T E : Type 0} (q : Result T E) (e : E) → IsErrAnd q (λ x. x ≡ e) → q ≡ Err e
exit q e h = let p = err_from_is_err_and q h in p.1 ∙ ap Err p.2

-- ---- filling
pub part_filled : (tags part : List ℕ) (at k n c : ℕ) → k ≡ n → at + n ≤ length tags → part ≡ replicate (length (mid_of at k tags)) c → put_mid at k tags part ≡ sets tags at (replicate n c)
part_filled tags part at k n c e h is =
    let long : length (mid_of at k tags) ≡ n = length-take-le k (drop at tags) (omega (arith, length-drop at tags)) ∙ e in
    put at k tags part (replicate n c) (is ∙ ap (λ m. replicate m c) long) (e ∙ sym (length-replicate n c)) (omega arith)

module _ (tags₀ : List ℕ) (at end c n : ℕ) (h : at ≤ end) where
  pub fill_misfit : end - at < n → Fills (Err Misfit) tags₀ tags₀ at end c n
  unfolding seen stopped filled
  fill_misfit k = record { same = rw (filled, lt-leb (at + n) end (omega arith)) }

  pub fill_done : n ≤ end - at → (tags : List ℕ) → tags ≡ sets tags₀ at (replicate n c) → Fills (Ok (at + n)) tags tags₀ at end c n
  unfolding seen filled
  fill_done k tags is = record { same = rw (filled, le-leb (at + n) end (omega arith)) (ap (next (at + n)) is) }

-- ---- outcomes, seen from where they start
pub final-word : (tags : List ℕ) (i end s w : ℕ) (o : Outcome Cells) → final tags i end (map_o ((s, w) ∷◌) o) ≡ final (set tags i s) (i + 1) end o
unfolding final map_o
final-word tags i end s w (fits cs rest) = rw add-one refl
final-word tags i end s w misfit = refl
final-word tags i end s w unknown = refl

final-after : (tags : List ℕ) (i end : ℕ) (cs : Cells) (o : Outcome Cells) → final tags i end (map_o (cs ++◌) o) ≡ final (sets tags i (map class cs)) (i + length cs) end o
unfolding final map_o
final-after tags i end cs (fits ds rest) =
    ap (next (end - length rest)) (ap (sets tags i) (map-append class cs ds) ∙ sets-append (map class cs) tags i (map class ds) ∙ ap (λ k. sets (sets tags i (map class cs)) (i + k) (map class ds)) (length-map cs class))
final-after tags i end cs misfit = refl
final-after tags i end cs unknown = refl

-- ---- one part is walked, and then the others
pub record Onto (words : List ℕ) (i end n : ℕ) (before after : Final) : Type 0 where
  pub forth : i ≤ n
  pub within : n ≤ end
  pub same : before ≡ after

-- the words of a part
pub record Taken (words : List ℕ) (tags : List ℕ) (i end : ℕ) (tags₁ : List ℕ) (n : ℕ) (o : Outcome Cells) : Type 0 where
  pub cells : Cells
  pub is : o ≡ fits cells (slice n end words)
  pub at : i + length cells ≡ n
  pub end-at : n ≤ end
  pub tagged : tags₁ ≡ sets tags i (map class cells)

module _ (words tags : List ℕ) (i end : ℕ) (enough : end ≤ length words) (h : i ≤ end) where
  pub taken : (o : Outcome Cells) → Reads (slice i end words) o → (tags₁ : List ℕ) (n : ℕ) → next n tags₁ ≡ final tags i end o → Taken words tags i end tags₁ n o
  unfolding final
  taken (fits cs rest) (reads e) tags₁ n g =
      let all : length cs + length rest ≡ end - i = rw (length-append, length-map) at (sym (ap length e)) ∙ length-slice i end words enough in
      let n_is : n ≡ end - length rest = cc in
      let k : i + length cs ≡ n = omega (arith, all, n_is, h) in
      let rest_is : rest ≡ slice n end words = sym (rw (length-map) at (drop-append_seam (map word cs) rest)) ∙ (ap (drop (length cs)) (sym e) ∙ drop-drop (length cs) i (take end words) ∙ ap (λ m. slice m end words) k) in
      record { cells = cs; is = ap (fits cs) rest_is; at = k; end-at = omega (arith, n_is); tagged = cc }
  taken misfit rd tags₁ n g = cc
  taken unknown rd tags₁ n g = cc

  module _ (o : Outcome Cells) (rd : Reads (slice i end words) o) (r : Walked) (tags₁ : List ℕ) (got : RowEnsures r tags₁ tags i end o) (p : Reader) where
    pub chain_err : (e : Misread) → r ≡ Err e → final tags i end (join o p) ≡ stopped e
    unfolding seen stopped final join
    chain_err e is = go o e (rw is at got.same)
      where
        go : (o : Outcome Cells) (e : Misread) → stopped e ≡ final tags i end o → final tags i end (join o p) ≡ stopped e
        go (fits cs rest) Misfit g = cc
        go (fits cs rest) Strange g = cc
        go misfit e g = sym g
        go unknown e g = sym g

    onto : (n : ℕ) → Taken words tags i end tags₁ n o → Onto words i end n (final tags i end (join o p)) (final tags₁ n end (p (slice n end words)))
    unfolding join
    onto n t = record {
      forth = omega (arith, t.at);
      within = t.end-at;
      same = ap (λ q. final tags i end (join q p)) t.is
          ∙ final-after tags i end t.cells (p (slice n end words))
          ∙ ap (λ l. final l (i + length t.cells) end (p (slice n end words))) (sym t.tagged)
          ∙ ap (λ k. final tags₁ k end (p (slice n end words))) t.at;
    }

    pub chain_next : (n : ℕ) → r ≡ Ok n → Onto words i end n (final tags i end (join o p)) (final tags₁ n end (p (slice n end words)))
    unfolding seen
    chain_next n e = onto n (taken o rd tags₁ n (rw e at got.same))

-- ---- a word, then
module _ (words : List ℕ) (i end : ℕ) where
  pub eat-none : {B : Type 0} (f : ℕ → List ℕ → Outcome B) → end ≤ i → eat (slice i end words) f ≡ misfit
  unfolding eat
  eat-none f h = rw (slice-none i end words h)

  pub eat_some : {B : Type 0} (f : ℕ → List ℕ → Outcome B) → i < end → end ≤ length words → eat (slice i end words) f ≡ f (get_or words i 0) (slice (i + 1) end words)
  unfolding eat
  eat_some f h k = rw (slice-cons i end words 0 h k, add-one i)

  pub run_short : (s : ℕ) (ss : List ℕ) → end ≤ i → run (slice i end words) (s ∷ ss) ≡ misfit
  unfolding run
  run_short s ss h = rw (slice-none i end words h)

  pub run_some : (s : ℕ) (ss : List ℕ) → i < end → end ≤ length words → run (slice i end words) (s ∷ ss) ≡ map_o ((s, get_or words i 0) ∷◌) (follow (more s (get_or words i 0)) ss (run (slice (i + 1) end words)))
  unfolding run
  run_some s ss h k = rw (slice-cons i end words 0 h k, add-one i)

-- the same outcome, otherwise said
pub told : {r : Walked} {tags₁ tags : List ℕ} {i end : ℕ} (o p : Outcome Cells) → o ≡ p → RowEnsures r tags₁ tags i end p → RowEnsures r tags₁ tags i end o
told {r} {tags₁} {tags} {i} {end} o p e w = record { same = w.same ∙ ap (final tags i end) (sym e) }

-- ---- n words of one class
filled_suc : (tags : List ℕ) (i end c n : ℕ) → filled (set tags i c) (i + 1) end c n ≡ filled tags i end c (suc n)
unfolding filled
filled_suc tags i end c n =
    let e : i + 1 + n ≡ i + suc n = omega arith in
    ap {B = Final} (λ k. elim (leb k end) [ true ↦ next k (sets (set tags i c) (i + 1) (replicate n c)) | false ↦ refused ]) e
    ∙ ap {B = Final} (λ j. elim (leb (i + suc n) end) [ true ↦ next (i + suc n) (sets (set tags i c) j (replicate n c)) | false ↦ refused ]) (add-one i)

pub run_fill : (n : ℕ) (words : List ℕ) (end c : ℕ) → end ≤ length words → c < PAD → (tags : List ℕ) (i : ℕ) → i ≤ end → final tags i end (run (slice i end words) (replicate n c)) ≡ filled tags i end c n
unfolding filled final follow
run_fill zero words end c enough plain tags i h =
    rw (run_none, filled, le-leb (i + 0) end (omega arith)) (ap (λ k. next k tags) (omega (arith, length-slice i end words enough)))
run_fill (suc n) words end c enough plain tags i h = go (leb end i) refl (λ tags i h. run_fill n words end c enough plain tags i h)
  where
    opened : (f : List ℕ → Outcome Cells) (ss : List ℕ) (tags : List ℕ) → final tags (i + 1) end (follow (brings []) ss f) ≡ final tags (i + 1) end (f ss)
    opened f ss tags = refl

    go : (b : Bool) → leb end i ≡ b → ((tags : List ℕ) (i : ℕ) → i ≤ end → final tags i end (run (slice i end words) (replicate n c)) ≡ filled tags i end c n)
        → final tags i end (run (slice i end words) (c ∷ replicate n c)) ≡ filled tags i end c (suc n)
    go true e ih = rw (run_short words i end c (replicate n c) (leb-true end i e), filled, lt-leb (i + suc n) end (omega (arith, leb-true end i e)))
    go false e ih =
        let k : i < end = leb-false end i e in
        ap (final tags i end) (run_some words i end c (replicate n c) k enough ∙ ap (λ q. map_o ((c, get_or words i 0) ∷◌) (follow q (replicate n c) (run (slice (i + 1) end words)))) (plain_more c (get_or words i 0) plain))
        ∙ final-word tags i end c (get_or words i 0) (follow (brings []) (replicate n c) (run (slice (i + 1) end words)))
        ∙ opened (run (slice (i + 1) end words)) (replicate n c) (set tags i c)
        ∙ ih (set tags i c) (i + 1) (omega arith)
        ∙ filled_suc tags i end c n

fill_walks : (words tags : List ℕ) (i end c n : ℕ) → end ≤ length words → c < PAD → i ≤ end → (r : Walked) (tags₁ : List ℕ) → Fills r tags₁ tags i end c n → RowEnsures r tags₁ tags i end (run (slice i end words) (replicate n c))
fill_walks words tags i end c n enough plain h r tags₁ got = record { same = got.same ∙ sym (run_fill n words end c enough plain tags i h) }

-- ---- one word, and the fields that follow because of it
-- where no word is left
pub no_word : {tags₁ tags : List ℕ} {i end : ℕ} (o : Outcome Cells) → o ≡ misfit → (e : Misread) → e ≡ Misfit → RowEnsures (Err e) tags₁ tags i end o
unfolding seen stopped final
no_word o h e f = record { same = rw (h, f) }

module _ (words tags : List ℕ) (i end s : ℕ) where
  pub run_misfit : (e : Misread) (tags₁ : List ℕ) → (end ≤ i) × (e ≡ Misfit) → RowEnsures (Err e) tags₁ tags i end (run (slice i end words) (s ∷ []))
  run_misfit e tags₁ h = no_word _ (run_short words i end s [] h.0) e h.1

  module _ (h : i < end) (enough : end ≤ length words) where
    pub run_opens : final tags i end (run (slice i end words) (s ∷ [])) ≡ final (set tags i s) (i + 1) end (follow (more s (get_or words i 0)) [] (run (slice (i + 1) end words)))
    run_opens = ap (final tags i end) (run_some words i end s [] h enough) ∙ final-word tags i end s (get_or words i 0) _

    pub run_brings : (row : Row) → more s (get_or words i 0) ≡ brings row → final tags i end (run (slice i end words) (s ∷ [])) ≡ final (set tags i s) (i + 1) end (run (slice (i + 1) end words) row)
    unfolding follow
    run_brings row e = run_opens ∙ ap (λ m. final (set tags i s) (i + 1) end (follow m [] (run (slice (i + 1) end words)))) e ∙ ap (λ l. final (set tags i s) (i + 1) end (run (slice (i + 1) end words) l)) (append-nil row)

-- ---- the last word of a name
pad_more : (k w : ℕ) → 0 < k → k < 4 → more (104 + k) w ≡ elim (ltb w (256 ^ k)) [ true ↦ brings [] | false ↦ over ]
unfolding more
pad_more k w h l =
    let e : 104 + k - 104 ≡ k = omega arith in
    rw (more, le-ltb (104 + k) PAD (omega arith), lt-ltb (104 + k) TEXT (omega arith), e)

module _ (words tags : List ℕ) (i end k : ℕ) (low : 0 < k) (high : k < 4) (enough : end ≤ length words) (c most : ℕ) (is_c : c ≡ 104 + k) (is : most ≡ 256 ^ k) (w : ℕ) (tags' : List ℕ) (t : Takes (Ok w) tags' tags words i end c) where
  tagged : tags' ≡ set tags i (104 + k)
  tagged = rw is_c at t.2

  pub pad_wrong : most ≤ w → RowEnsures (Err Misfit) tags' tags i end (run (slice i end words) ((104 + k) ∷ []))
  unfolding seen stopped final follow
  pad_wrong g =
      let e : more (104 + k) (get_or words i 0) ≡ over = pad_more k (get_or words i 0) low high ∙ rw (le-ltb (get_or words i 0) (256 ^ k) (rw (is, t.1) at g)) in
      record { same = sym (run_opens words tags i end (104 + k) t.0 enough ∙ ap (λ m. final (set tags i (104 + k)) (i + 1) end (follow m [] (run (slice (i + 1) end words)))) e) }

  pub pad_right : w < most → RowEnsures (Ok (i + 1)) tags' tags i end (run (slice i end words) ((104 + k) ∷ []))
  unfolding seen final
  pad_right g =
      let e : more (104 + k) (get_or words i 0) ≡ brings [] = pad_more k (get_or words i 0) low high ∙ rw (lt-ltb (get_or words i 0) (256 ^ k) (rw (is, t.1) at g)) in
      let h : i < end = t.0 in
      let z : end - length (slice (i + 1) end words) ≡ i + 1 = omega (arith, length-slice (i + 1) end words enough) in
      record { same = rw tagged (sym (run_brings words tags i end (104 + k) h enough [] e ∙ ap (final (set tags i (104 + k)) (i + 1) end) (run_none (slice (i + 1) end words)) ∙ ap (λ x. next x (set tags i (104 + k))) z)) }

-- ---- operands
repeat-one : (n c : ℕ) → repeat n (c ∷ []) ≡ replicate n c
unfolding repeat
repeat-one zero c = refl
repeat-one (suc n) c = ap (c ∷◌) (repeat-one n c)

operands-bring : (w : ℕ) → more OPERANDS w ≡ brings (replicate w EXPR)
unfolding more
operands-bring w = ap brings (repeat-one w EXPR)

pub operands-walk : (words tags : List ℕ) (i end : ℕ) → end ≤ length words → (w : ℕ) (tags' : List ℕ) → Takes (Ok w) tags' tags words i end 109 → (r : Walked) (tags₁ : List ℕ) → Fills r tags₁ tags' (i + 1) end 93 w → RowEnsures r tags₁ tags i end (run (slice i end words) (109 ∷ []))
operands-walk words tags i end enough w tags' t r tags₁ got =
    let h : i < end = t.0 in
    record {
      same = (rw (t.2, t.1) at got.same) ∙ sym (run_brings words tags i end 109 h enough (replicate (get_or words i 0) 93) (operands-bring (get_or words i 0)) ∙ run_fill (get_or words i 0) words end 93 enough (omega arith) (set tags i 109) (i + 1) (omega arith));
    }

-- ---- the bytes of a name
tail : ℕ → Row
tail b = elim (eqb (b % 4) 0) [ true ↦ [] | false ↦ (PAD + b % 4 - 1) ∷ [] ]

text-more : (b : ℕ) → more TEXT b ≡ brings (replicate (b / 4) WORD ++ tail b)
unfolding more text tail
text-more b = refl

tail_none : (b : ℕ) → b % 4 ≡ 0 → tail b ≡ []
unfolding tail
tail_none b e = rw (tail, eq-eqb (b % 4) 0 e)

tail_some : (b : ℕ) → (b % 4 ≡ 0 → ⊥) → tail b ≡ (104 + b % 4) ∷ []
unfolding tail
tail_some b n = rw (tail, ne_eqb (b % 4) 0 n) (ap (λ (x : ℕ). x ∷ []) (omega arith))

module _ (words tags : List ℕ) (i end w : ℕ) (tags' : List ℕ) (t : Takes (Ok w) tags' tags words i end 108) (enough : end ≤ length words) (r : Walked) (tags₁ : List ℕ) (got : Fills r tags₁ tags' (i + 1) end 80 (w / 4)) where
  h : i < end
  h = t.0

  whole : final tags i end (run (slice i end words) (108 ∷ [])) ≡ final tags' (i + 1) end (join (run (slice (i + 1) end words) (replicate (w / 4) 80)) (λ ws. run ws (tail w)))
  whole = rw (t.2, t.1) (run_brings words tags i end 108 t.0 enough _ (text-more (get_or words i 0)) ∙ ap (final (set tags i 108) (i + 1) end) (run-append (slice (i + 1) end words) (replicate (get_or words i 0 / 4) 80) (tail (get_or words i 0))))

  bytes : RowEnsures r tags₁ tags' (i + 1) end (run (slice (i + 1) end words) (replicate (w / 4) 80))
  bytes = fill_walks words tags' (i + 1) end 80 (w / 4) enough (omega arith) (omega (arith, h)) r tags₁ got

  pub text_err : (e : Misread) → r ≡ Err e → RowEnsures (Err e) tags₁ tags i end (run (slice i end words) (108 ∷ []))
  unfolding seen
  text_err e is = record { same = sym (whole ∙ chain_err words tags' (i + 1) end enough (omega (arith, h)) _ (reads-run _ _) r tags₁ bytes (λ ws. run ws (tail w)) e is) }

  module _ (n : ℕ) (e : r ≡ Ok n) where
    then_tail : Onto words (i + 1) end n (final tags' (i + 1) end (join (run (slice (i + 1) end words) (replicate (w / 4) 80)) (λ ws. run ws (tail w)))) (final tags₁ n end (run (slice n end words) (tail w)))
    then_tail = chain_next words tags' (i + 1) end enough (omega (arith, h)) _ (reads-run _ _) r tags₁ bytes (λ ws. run ws (tail w)) n e

    pub text-within : n ≤ end
    text-within = then_tail.within

    pub text_done : w % 4 ≡ 0 → RowEnsures (Ok n) tags₁ tags i end (run (slice i end words) (108 ∷ []))
    unfolding seen final
    text_done z =
        let k : end - length (slice n end words) ≡ n = omega (arith, length-slice n end words enough, then_tail.within) in
        record { same = sym (whole ∙ then_tail.same ∙ ap (λ l. final tags₁ n end (run (slice n end words) l)) (tail_none w z) ∙ ap (final tags₁ n end) (run_none (slice n end words)) ∙ ap (λ x. next x tags₁) k) }

    pub text-padded : (w % 4 ≡ 0 → ⊥) → (q : Walked) (tags₂ : List ℕ) → RowEnsures q tags₂ tags₁ n end (run (slice n end words) ((104 + w % 4) ∷ [])) → RowEnsures q tags₂ tags i end (run (slice i end words) (108 ∷ []))
    text-padded z q tags₂ padded = record { same = padded.same ∙ sym (whole ∙ then_tail.same ∙ ap (λ l. final tags₁ n end (run (slice n end words) l)) (tail_some w z)) }

-- ---- what a padded word stays below
pub below_pad : (k : ℕ) → 0 < k → k < 4 → 1 * 2 ^ (8 * k) % 2 ^ 32 ≡ 256 ^ k
below_pad zero h l = absurd (omega arith)
below_pad (suc zero) h l = refl
below_pad (suc (suc zero)) h l = refl
below_pad (suc (suc (suc zero))) h l = refl
below_pad (suc (suc (suc (suc k)))) h l = absurd (omega arith)
