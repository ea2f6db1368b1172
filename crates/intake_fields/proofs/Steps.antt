-- The steps of the record walk: one lemma for each return, each turn of a loop and each call.
use mathlib.Core.Path.{◌≡◌, refl, sym, ap, ◌∙◌}
use mathlib.Core.Bool.{Bool, true, false}
use mathlib.Core.List.{List, [], ◌∷◌, map}
use Prim.Native.Nat.{ℕ, suc, ◌+◌, ◌-◌, ◌≤◌, ◌<◌}
use native.Mathlib.Nat.{le_refl}
use native.Mathlib.Numerals.{add-one}
use native.Mathlib.Omega.{arith}
use lib.Dec.{eqb, ltb}
use lib.ListN.{length, get_or, set}
use lib.Seq.{slice, sets, slice-cons, length-slice}
use Rattle.std.specs.Prelude.{Result, Ok, Err}
use Rattle.std.proofs.lemmas.Bool.{eqb-false}
use borrow.Author.Tests.{eq-eqb, ne_eqb, ltb-true, ltb-false, eqb-true}
use Rattle.model.specs.Outcome.{Cells, class, Outcome, fits, misfit, unknown, map_o}
use Rattle.model.specs.Table.{Row, PAD, LENGTH, STMT_KIND, run}
use Rattle.intake_fields.specs.Parts.{join, times, check, statement_of, read_b, piece, pieces, Brings, rows, over, nothing, brings_of, brought, opening}
use Rattle.intake_fields.specs.Rows.{ROWS, numbers, SIZE, KIND_ROW, row, row_at, MoreIs}
use Rattle.intake_fields.specs.Walks.{Walked, next, stopped, seen, final, RowEnsures, Takes}
use Rattle.intake_fields.specs.declared.Misread.{Misread}
use Rattle.intake_fields.specs.declared.Misread.TheVariants.{Misfit, Strange}
use Rattle.intake_fields.proofs.Flat.{piece-field, piece-length, piece_list, piece-variant, piece-cases, piece_stmt_kind, piece_block, piece_block_none, statement-kind, run-word}
use Rattle.intake_fields.proofs.Reading.{Reads, reads-piece, reads-pieces}
use Rattle.intake_fields.proofs.Rows.{ended, further, row_next, symbol, large}
use Rattle.intake_fields.proofs.Walk.{no_word, Taken, taken, chain_err, chain_next, final-word, eat-none, eat_some, run_short, told}

one_word_is : (words : List ℕ) (i end s : ℕ) → i < end → end ≤ length words → s < PAD → run (slice i end words) (s ∷ []) ≡ fits ((s, get_or words i 0) ∷ []) (slice (i + 1) end words)
one_word_is words i end s h enough l = ap (λ ws. run ws (s ∷ [])) (slice-cons i end words 0 h enough) ∙ rw (add-one i) (run-word s (get_or words i 0) (slice (suc i) end words) l)

-- ---- a word, and what follows because of it
final-brought : (tags : List ℕ) (i end s w : ℕ) (m : Brings) (f : ℕ → Row → Outcome Cells) → final tags i end (brought m λ n r. map_o ((s, w) ∷◌) (f n r)) ≡ final (set tags i s) (i + 1) end (brought m f)
unfolding brought final
final-brought tags i end s w (rows n r) f = final-word tags i end s w (f n r)
final-brought tags i end s w over f = refl
final-brought tags i end s w nothing f = refl

module _ (words tags : List ℕ) (i end s left : ℕ) where
  pub opened-short : (e : Misread) (tags₁ : List ℕ) → (end ≤ i) × (e ≡ Misfit) → RowEnsures (Err e) tags₁ tags i end (opening left s (slice i end words))
  unfolding opening
  opened-short e tags₁ h = no_word _ (eat-none words i end _ h.0) e h.1

  module _ (enough : end ≤ length words) (w : ℕ) (tags' : List ℕ) (t : Takes (Ok w) tags' tags words i end s) (m : Result (ℕ × ℕ) Misread) (more : MoreIs s w m) where
    inside : final tags i end (opening left s (slice i end words)) ≡ final tags' (i + 1) end (brought (brings_of s w) λ n r. times n (pieces left r) (slice (i + 1) end words))
    unfolding opening
    inside = rw (t.2, t.1) (ap (final tags i end) (eat_some words i end _ t.0 enough) ∙ final-brought tags i end s (get_or words i 0) (brings_of s (get_or words i 0)) _)

    brought_as : (b : Brings) → brings_of s w ≡ b → final tags i end (opening left s (slice i end words)) ≡ final tags' (i + 1) end (brought b λ n r. times n (pieces left r) (slice (i + 1) end words))
    brought_as b e = inside ∙ ap (λ q. final tags' (i + 1) end (brought q λ n r. times n (pieces left r) (slice (i + 1) end words))) e

    pub opened_err : (e : Misread) → m ≡ Err e → RowEnsures (Err e) tags' tags i end (opening left s (slice i end words))
    unfolding seen stopped final brought
    opened_err Misfit e = record { same = sym (brought_as over (rw e at more)) }
    opened_err Strange e = record { same = sym (brought_as nothing (rw e at more)) }

    module _ (pc n : ℕ) (e : m ≡ Ok (pc, n)) where
      got-rows : (pc < ROWS) × (brings_of s w ≡ rows n (row_at pc))
      got-rows = rw e at more

      pub opened_in : pc < ROWS
      opened_in = got-rows.0

      pub opened_rows : (r : Walked) (tags₁ : List ℕ) → RowEnsures r tags₁ tags' (i + 1) end (times n (pieces left (row_at pc)) (slice (i + 1) end words)) → RowEnsures r tags₁ tags i end (opening left s (slice i end words))
      unfolding brought
      opened_rows r tags₁ got = record { same = got.same ∙ sym (brought_as (rows n (row_at pc)) got-rows.1) }

-- ---- a statement
kind_row : row_at KIND_ROW ≡ STMT_KIND ∷ []
unfolding row_at row SIZE KIND_ROW
kind_row = refl

check_yes : (w : ℕ) (cs : Cells) (rest : List ℕ) → w ≡ suc (length cs) → check w (fits cs rest) ≡ fits ((LENGTH, w) ∷ cs) rest
unfolding check
check_yes w cs rest e = rw (check, eq-eqb w (suc (length cs)) e)

check_no : (w : ℕ) (cs : Cells) (rest : List ℕ) → (w ≡ suc (length cs) → ⊥) → check w (fits cs rest) ≡ misfit
unfolding check
check_no w cs rest e = rw (check, ne_eqb w (suc (length cs)) e)

module _ (words tags : List ℕ) (i end left : ℕ) where
  pub stmt_short : (e : Misread) (tags₁ : List ℕ) → (end ≤ i) × (e ≡ Misfit) → RowEnsures (Err e) tags₁ tags i end (statement_of (read_b left) (slice i end words))
  unfolding statement_of
  stmt_short e tags₁ h = no_word _ (eat-none words i end _ h.0) e h.1

  module _ (enough : end ≤ length words) (w : ℕ) (tags' : List ℕ) (t : Takes (Ok w) tags' tags words i end 124) (r : Walked) (tags₁ : List ℕ) (got : RowEnsures r tags₁ tags' (i + 1) end (pieces left (row_at KIND_ROW) (slice (i + 1) end words))) where
    h : i < end
    h = t.0

    inner : Outcome Cells
    inner = pieces left (STMT_KIND ∷ []) (slice (i + 1) end words)

    stated : statement_of (read_b left) (slice i end words) ≡ check w inner
    unfolding inner
    stated = rw t.1 (ap (statement_of (read_b left)) (slice-cons i end words 0 t.0 enough) ∙ rw (add-one i) (statement-kind left (get_or words i 0) (slice (suc i) end words)))

    head : final tags i end (statement_of (read_b left) (slice i end words)) ≡ final tags i end (check w inner)
    head = ap (final tags i end) stated

    got_same : seen r tags₁ ≡ final tags' (i + 1) end inner
    unfolding inner
    got_same = rw kind_row at got.same

    ended_so : (e : Misread) (o : Outcome Cells) → stopped e ≡ final tags' (i + 1) end o → stopped e ≡ final tags i end (check w o)
    unfolding stopped final check
    ended_so Misfit (fits cs rest) g = cc
    ended_so Strange (fits cs rest) g = cc
    ended_so e misfit g = g
    ended_so e unknown g = g

    pub stmt_err : (e : Misread) → r ≡ Err e → RowEnsures (Err e) tags₁ tags i end (statement_of (read_b left) (slice i end words))
    unfolding seen
    stmt_err e h = record { same = ended_so e inner (sym (ap (λ q. seen q tags₁) h) ∙ got_same) ∙ sym head }

    module _ (k : ℕ) (e : r ≡ Ok k) where
      took : Taken words tags' (i + 1) end tags₁ k inner
      unfolding seen inner
      took = taken words tags' (i + 1) end enough (omega arith) inner (reads-pieces left (STMT_KIND ∷ []) (slice (i + 1) end words)) tags₁ k (rw e at got_same)

      pub stmt_next : (n : ℕ) → n ≡ w → i + n ≡ k → RowEnsures (Ok k) tags₁ tags i end (statement_of (read_b left) (slice i end words))
      unfolding seen final
      stmt_next n is l = good took
        where
          ended_at : (cs : Cells) → end - length (slice k end words) ≡ k → tags₁ ≡ sets tags' (i + 1) (map class cs) → final tags i end (fits ((LENGTH, w) ∷ cs) (slice k end words)) ≡ seen (Ok k) tags₁
          ended_at cs z q = ap (λ x. next x (sets (set tags i 124) (suc i) (map class cs))) z ∙ ap (next k) (sym (rw (add-one i, t.2) at q))

          good : Taken words tags' (i + 1) end tags₁ k inner → RowEnsures (Ok k) tags₁ tags i end (statement_of (read_b left) (slice i end words))
          good g =
              let long : w ≡ suc (length g.cells) = omega (arith, g.at, is, l) in
              let z : end - length (slice k end words) ≡ k = omega (arith, length-slice k end words enough, g.end-at) in
              record { same = sym (head ∙ ap (λ q. final tags i end (check w q)) g.is ∙ ap (final tags i end) (check_yes _ g.cells (slice k end words) long) ∙ ended_at g.cells z g.tagged) }

      pub stmt_wrong : (n : ℕ) → n ≡ w → (i + n ≡ k → ⊥) → RowEnsures (Err Misfit) tags₁ tags i end (statement_of (read_b left) (slice i end words))
      unfolding seen stopped final
      stmt_wrong n is l = bad took
        where
          bad : Taken words tags' (i + 1) end tags₁ k inner → RowEnsures (Err Misfit) tags₁ tags i end (statement_of (read_b left) (slice i end words))
          bad g = record { same = sym (head ∙ ap (λ q. final tags i end (check w q)) g.is ∙ ap (final tags i end) (check_no _ g.cells (slice k end words) (λ e. l (omega (arith, g.at, is, e))))) }

-- ---- a piece
module _ (words tags : List ℕ) (i end s left : ℕ) (r : Walked) (tags₁ : List ℕ) where
  as_piece : (o : Outcome Cells) → piece left s (slice i end words) ≡ o → RowEnsures r tags₁ tags i end o → RowEnsures r tags₁ tags i end (piece left s (slice i end words))
  as_piece o e got = told (piece left s (slice i end words)) o e got

  pub part-text : s ≡ 108 → RowEnsures r tags₁ tags i end (run (slice i end words) (108 ∷ [])) → RowEnsures r tags₁ tags i end (piece left s (slice i end words))
  part-text e got = as_piece _ (rw e (piece-field left 108 (slice i end words) (omega arith))) got

  pub part-operands : s ≡ 109 → RowEnsures r tags₁ tags i end (run (slice i end words) (109 ∷ [])) → RowEnsures r tags₁ tags i end (piece left s (slice i end words))
  part-operands e got = as_piece _ (rw e (piece-field left 109 (slice i end words) (omega arith))) got

  pub part_stmt : s ≡ 124 → RowEnsures r tags₁ tags i end (statement_of (read_b left) (slice i end words)) → RowEnsures r tags₁ tags i end (piece left s (slice i end words))
  part_stmt e got = as_piece _ (rw e (piece-length left (slice i end words))) got

  pub part_block : s ≡ 122 → (left ≡ 0 → ⊥) → RowEnsures r tags₁ tags i end (opening (left - 1) s (slice i end words)) → RowEnsures r tags₁ tags i end (piece left s (slice i end words))
  part_block e n got =
      let m : left ≡ suc (left - 1) = omega arith in
      as_piece _ (rw e (ap (λ d. piece d 122 (slice i end words)) m ∙ piece_block (left - 1) (slice i end words))) got

  other : (s ≡ 108 → ⊥) → (s ≡ 109 → ⊥) → (s ≡ 124 → ⊥) → (s ≡ 122 → ⊥) → 108 ≤ s → s < 126 → piece left s (slice i end words) ≡ opening left s (slice i end words)
  other n₁ n₂ n₃ n₄ low high = go (ltb s 115) refl (ltb s 122) refl (eqb s 123) refl
    where
      ws : List ℕ
      ws = slice i end words

      go : (a : Bool) → ltb s 115 ≡ a → (b : Bool) → ltb s 122 ≡ b → (c : Bool) → eqb s 123 ≡ c → piece left s ws ≡ opening left s ws
      go true a b e₂ c e₃ = piece_list left s ws (omega arith) (ltb-true s 115 a)
      go false a true b c e₃ = piece-variant left s ws (ltb-false s 115 a) (ltb-true s 122 b)
      go false a false b true c = let e : s ≡ 123 = eqb-true s 123 c in rw e (piece-cases left ws)
      go false a false b false c = let e : s ≡ 125 = omega (arith, ltb-false s 122 b, eqb-false s 123 c) in rw e (piece_stmt_kind left ws)

  pub part-other : (s ≡ 108 → ⊥) → (s ≡ 109 → ⊥) → (s ≡ 124 → ⊥) → (s ≡ 122 → ⊥) → 108 ≤ s → s < 126 → RowEnsures r tags₁ tags i end (opening left s (slice i end words)) → RowEnsures r tags₁ tags i end (piece left s (slice i end words))
  part-other n₁ n₂ n₃ n₄ low high got = as_piece _ (other n₁ n₂ n₃ n₄ low high) got

pub part_deep : (words tags : List ℕ) (i end s left : ℕ) → s ≡ 122 → left ≡ 0 → RowEnsures (Err Misfit) tags tags i end (piece left s (slice i end words))
unfolding seen stopped final
part_deep words tags i end s left e z = told (piece left s (slice i end words)) misfit (rw (e, z) (piece_block_none (slice i end words))) (record { same = refl })

-- ---- a row
pub record Rowing (words tags₀ : List ℕ) (at end pc left : ℕ) (tags : List ℕ) (i p : ℕ) : Type 0 where
  pub in_rows : p < ROWS
  pub from : at ≤ i
  pub within : i ≤ end
  pub same : final tags i end (pieces left (row_at p) (slice i end words)) ≡ final tags₀ at end (pieces left (row_at pc) (slice at end words))

module _ (words tags₀ : List ℕ) (at end pc left : ℕ) where
  pub row-begin : at ≤ end → pc < ROWS → Rowing words tags₀ at end pc left tags₀ at pc
  row-begin h k = record { in_rows = k; from = le_refl at; within = h; same = refl }

  module _ (enough : end ≤ length words) (tags : List ℕ) (i p : ℕ) (inv : Rowing words tags₀ at end pc left tags i p) (s : ℕ) (is_s : s ≡ get_or numbers p 0) where
    pub row_done : s ≡ 0 → RowEnsures (Ok i) tags tags₀ at end (pieces left (row_at pc) (slice at end words))
    unfolding seen final pieces
    row_done z =
        let k : end - length (slice i end words) ≡ i = omega (arith, length-slice i end words enough, inv.within) in
        record { same = sym (ap (λ x. next x tags) k) ∙ rw (ended p inv.in_rows (sym is_s ∙ z)) at inv.same }

    module _ (ne : s ≡ 0 → ⊥) where
      ne' : get_or numbers p 0 ≡ 0 → ⊥
      ne' = rw is_s at ne

      pub row_symbol : s < 126
      row_symbol = rw is_s (symbol p inv.in_rows ne')

      pub row_large : 105 ≤ s → 108 ≤ s
      row_large h = rw is_s (large p inv.in_rows ne' (rw is_s at h))

      opened : final tags i end (join (piece left s (slice i end words)) (pieces left (row_at (p + 1)))) ≡ final tags₀ at end (pieces left (row_at pc) (slice at end words))
      unfolding pieces
      opened = rw is_s (rw (further p inv.in_rows ne') at inv.same)

      -- one word
      plain-piece : s < 105 → (ws : List ℕ) → piece left s ws ≡ run ws (s ∷ [])
      plain-piece l ws = piece-field left s ws (omega arith)

      pub row-short : s < 105 → (e : Misread) (tags₁ : List ℕ) → (end ≤ i) × (e ≡ Misfit) → RowEnsures (Err e) tags₁ tags₀ at end (pieces left (row_at pc) (slice at end words))
      unfolding seen stopped final join
      row-short l e tags₁ h = record { same = rw h.1 (sym (ap (λ o. final tags i end (join o (pieces left (row_at (p + 1))))) (plain-piece l (slice i end words) ∙ run_short words i end s [] h.0)) ∙ opened) }

      pub row_plain : s < 105 → (w : ℕ) (tags' : List ℕ) → Takes (Ok w) tags' tags words i end s → Rowing words tags₀ at end pc left tags' (i + 1) (p + 1)
      unfolding join
      row_plain l w tags' t = let h : i < end = t.0 in record {
        in_rows = row_next p inv.in_rows ne';
        from = omega (arith, inv.from);
        within = omega arith;
        same = rw t.2 (sym (ap (λ o. final tags i end (join o (pieces left (row_at (p + 1))))) (plain-piece l (slice i end words) ∙ one_word_is words i end s h enough l) ∙ final-word tags i end s (get_or words i 0) (pieces left (row_at (p + 1)) (slice (i + 1) end words))) ∙ opened);
      }

      module _ (r : Walked) (tags₁ : List ℕ) (got : RowEnsures r tags₁ tags i end (piece left s (slice i end words))) where
        rdp : Reads (slice i end words) (piece left s (slice i end words))
        rdp = reads-piece left s (slice i end words)

        pub row_err : (e : Misread) → r ≡ Err e → RowEnsures (Err e) tags₁ tags₀ at end (pieces left (row_at pc) (slice at end words))
        unfolding seen
        row_err e h = record { same = sym (chain_err words tags i end enough inv.within _ rdp r tags₁ got (pieces left (row_at (p + 1))) e h) ∙ opened }

        pub row-again : (k : ℕ) → r ≡ Ok k → Rowing words tags₀ at end pc left tags₁ k (p + 1)
        row-again k e = let o = chain_next words tags i end enough inv.within _ rdp r tags₁ got (pieces left (row_at (p + 1))) k e in record {
          in_rows = row_next p inv.in_rows ne';
          from = omega (arith, inv.from, o.forth);
          within = o.within;
          same = sym o.same ∙ opened;
        }

-- ---- a row, n times
pub record Timing (words tags₀ : List ℕ) (at count end pc left : ℕ) (tags : List ℕ) (i n : ℕ) : Type 0 where
  pub from : at ≤ i
  pub within : i ≤ end
  pub same : final tags i end (times n (pieces left (row_at pc)) (slice i end words)) ≡ final tags₀ at end (times count (pieces left (row_at pc)) (slice at end words))

module _ (words tags₀ : List ℕ) (at count end pc left : ℕ) where
  pub times-begin : at ≤ end → Timing words tags₀ at count end pc left tags₀ at count
  times-begin h = record { from = le_refl at; within = h; same = refl }

  module _ (enough : end ≤ length words) (tags : List ℕ) (i n : ℕ) (inv : Timing words tags₀ at count end pc left tags i n) where
    pub times_done : n ≤ 0 → RowEnsures (Ok i) tags tags₀ at end (times count (pieces left (row_at pc)) (slice at end words))
    unfolding seen final times
    times_done h =
        let z : n ≡ 0 = omega arith in
        let k : end - length (slice i end words) ≡ i = omega (arith, length-slice i end words enough, inv.within) in
        record { same = sym (ap (λ x. next x tags) k) ∙ rw z at inv.same }

    module _ (h : 0 < n) (r : Walked) (tags₁ : List ℕ) (got : RowEnsures r tags₁ tags i end (pieces left (row_at pc) (slice i end words))) where
      split : final tags i end (times n (pieces left (row_at pc)) (slice i end words)) ≡ final tags i end (join (pieces left (row_at pc) (slice i end words)) (times (n - 1) (pieces left (row_at pc))))
      unfolding times
      split = let e : n ≡ suc (n - 1) = omega arith in ap (λ m. final tags i end (times m (pieces left (row_at pc)) (slice i end words))) e

      rd : Reads (slice i end words) (pieces left (row_at pc) (slice i end words))
      rd = reads-pieces left (row_at pc) (slice i end words)

      pub times_err : (e : Misread) → r ≡ Err e → RowEnsures (Err e) tags₁ tags₀ at end (times count (pieces left (row_at pc)) (slice at end words))
      unfolding seen
      times_err e h = record { same = sym (split ∙ chain_err words tags i end enough inv.within _ rd r tags₁ got (times (n - 1) (pieces left (row_at pc))) e h) ∙ inv.same }

      pub times-next : (k : ℕ) → r ≡ Ok k → Timing words tags₀ at count end pc left tags₁ k (n - 1)
      times-next k e = let o = chain_next words tags i end enough inv.within _ rd r tags₁ got (times (n - 1) (pieces left (row_at pc))) k e in record {
        from = omega (arith, inv.from, o.forth);
        within = o.within;
        same = sym (split ∙ o.same) ∙ inv.same;
      }
