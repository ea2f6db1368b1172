-- The loop over the sections: each is in its place, what is laid fills it, and what is left from here on is the whole.
use mathlib.Core.Path.{◌≡◌, refl, sym, ap, ◌∙◌, subst}
use mathlib.Core.Bool.{Bool, true, false, ◌&&◌}
use mathlib.Core.List.{List, [], ◌∷◌, ◌++◌, map}
use Prim.Native.Nat.{ℕ, zero, suc, ◌+◌, ◌*◌, ◌≤◌, ◌<◌}
use native.Mathlib.Nat.{le_refl, zero-add, add-zero, add-suc, suc-add}
use native.Mathlib.Numerals.{add-one}
use native.Mathlib.Omega.{arith}
use lib.Dec.{eqb, leb}
use lib.ListN.{length, get_or, take, drop, replicate, length-map, length-append, length-replicate}
use lib.Seq.{slice, length-slice, length-take-le, take-take, drop-cons}
use borrow.Author.Tests.{ne_eqb, eqb-true, leb-true}
use Rattle.theory_lists.specs.Booleans.{and_first, and_second}
use Rattle.model.specs.Outcome.{Cells, class, word, Outcome, fits, misfit, unknown, Laid, laid, bad, strange, exact, both, map_l}
use Rattle.model.specs.Table.{Row, PLACE}
use Rattle.model.specs.Tree.{flat_all, DEPTH}
use Rattle.model.specs.Module.{table, rays_row, pair_row, places, flat_table, limits, count_at, offset_at, end_at, placed, section}
use Rattle.intake_fields.specs.Parts.{pieces, table_rows}
use Rattle.intake_fields.specs.Rows.{ROWS, RECORDS, numbers, SIZE, row, row_at}
use Rattle.intake_layout.specs.Extents.{Held, Classes, done, odd, stopped, shown, ending, Covers, after, noted, classes, table_classes, tabled, special_of, special, sections_from}
use Rattle.std.specs.Prelude.{Ok, Err}
use Rattle.intake_fields.specs.declared.Misread.{Misread}
use Rattle.intake_fields.specs.declared.Misread.TheVariants.{Misfit, Strange}
use Rattle.theory_image.specs.Readers.{Good, good, good_misfit, good_unknown, Took}
use Rattle.theory_image.specs.Tables.{laid_of, table_took}
use Rattle.theory_image.specs.Sections.{length-places}
use Rattle.intake_fields.proofs.Reading.{Reads, reads, no_fit, no_code, reads-pieces, reads_times, reads-join}
use Rattle.intake_layout.proofs.Header.{count-word, offset_is, end-last, end-next}
use Rattle.intake_layout.proofs.Extents.{noted_err, noted_ok, then_bad, then_strange, then_fits, after_bad}

-- ---- sections in place
pub record InPlace (ws : List ℕ) (k : ℕ) : Type 0 where
  pub forth : offset_at k ws ≤ end_at k ws
  pub within : end_at k ws ≤ length ws

in_place : (ms : List ℕ) (j at : ℕ) (ws : List ℕ) → placed ms j at ws ≡ true → (i : ℕ) → i < length ms → InPlace ws (j + i)
unfolding placed
in_place [] j at ws h i l = absurd (omega arith)
in_place (m ∷ ms) j at ws h i l = go i l (in_place ms (suc j) (end_at j ws) ws rest)
  where
    b : (leb (count_at j ws) m && (leb at (end_at j ws) && (leb (end_at j ws) (length ws) && placed ms (suc j) (end_at j ws) ws))) ≡ true
    b = and_second (eqb (offset_at j ws) at) _ h

    c : (leb at (end_at j ws) && (leb (end_at j ws) (length ws) && placed ms (suc j) (end_at j ws) ws)) ≡ true
    c = and_second (leb (count_at j ws) m) _ b

    d : (leb (end_at j ws) (length ws) && placed ms (suc j) (end_at j ws) ws) ≡ true
    d = and_second (leb at (end_at j ws)) _ c

    rest : placed ms (suc j) (end_at j ws) ws ≡ true
    rest = and_second (leb (end_at j ws) (length ws)) _ d

    here : InPlace ws j
    here = record {
      forth = omega (arith, eqb-true (offset_at j ws) at (and_first (eqb (offset_at j ws) at) _ h), leb-true at (end_at j ws) (and_first (leb at (end_at j ws)) _ c));
      within = leb-true (end_at j ws) (length ws) (and_first (leb (end_at j ws) (length ws)) _ d);
    }

    go : (i : ℕ) → i < length (m ∷ ms) → ((i : ℕ) → i < length ms → InPlace ws (suc j + i)) → InPlace ws (j + i)
    go zero l ih = subst (InPlace ws) (sym (add-zero j)) here
    go (suc i) l ih = subst (InPlace ws) (suc-add j i ∙ sym (add-suc j i)) (ih i (omega arith))

-- ---- what is laid fills its extent
pub record LaidAs {A B : Type 0} (f : A → B) (x : Laid A) (b : B) : Type 0 where
  pub value : A
  pub laid-at : x ≡ laid value
  pub is : b ≡ f value

pub laid_as : {A B : Type 0} (f : A → B) (x : Laid A) (b : B) → map_l f x ≡ laid b → LaidAs f x b
unfolding map_l
laid_as f (laid a) b q = record { value = a; laid-at = refl; is = cc }
laid_as f bad b q = cc
laid_as f strange b q = cc

exact-length : (ws : List ℕ) (o : Outcome Cells) → Reads ws o → (cs : Cells) → exact o ≡ laid cs → length cs ≡ length ws
unfolding exact
exact-length ws (fits ds []) (reads e) cs q =
    let same : cs ≡ ds = cc in
    let l : length ds + 0 ≡ length ws = rw (length-append, length-map) at (sym (ap length e)) in
    ap length same ∙ omega (arith, l)
exact-length ws (fits ds (v ∷ vs)) r cs q = cc
exact-length ws misfit r cs q = cc
exact-length ws unknown r cs q = cc

abbrev any : Cells → Type 0
any cs = cs ≡ cs

itself : Cells → Cells
itself cs = cs

takes_reads : {ws : List ℕ} {o : Outcome Cells} → Reads ws o → Good (Took any itself ws) o
unfolding itself
takes_reads (reads e) = good (record { fine = refl; words = e })
takes_reads no_fit = good_misfit
takes_reads no_code = good_unknown

map-itself : (l : List Cells) → map itself l ≡ l
unfolding itself
map-itself [] = refl
map-itself (c ∷ l) = ap (c ∷◌) (map-itself l)

pub tabled-length : (r : Row) (n : ℕ) (ws : List ℕ) (cs : Classes) → tabled r n ws ≡ laid cs → length cs ≡ length ws
unfolding tabled flat_table
tabled-length r n ws cs q =
    let a = laid_as (table_classes n) (table (pieces DEPTH r) n ws) cs q in
    let t = laid_of (table_took {ok = any} {flatly = itself} {p = pieces DEPTH r} (λ ws. takes_reads (reads-pieces DEPTH r ws)) n ws) a.laid-at in
    let rs = a.value in
    let l : length ws ≡ length (flat_table rs) = ap length t.words ∙ length-map (flat_table (map itself rs)) word ∙ ap (λ q. length (flat_table q)) (map-itself rs) in
    let k : length (flat_table rs) ≡ length (places (length rs) rs) + length (flat_all rs) = length-append (places (length rs) rs) (flat_all rs) in
    let m : length (table_classes n rs) ≡ n + length (flat_all rs) = length-append (replicate n PLACE) (classes (flat_all rs)) ∙ rw (length-replicate n PLACE, length-map (flat_all rs) class) in
    ap length a.is ∙ omega (arith, l, k, m, length-places rs (length rs), t.many)

pub special-length : (n : ℕ) (ws : List ℕ) (cs : Classes) → special n ws ≡ laid cs → length cs ≡ length ws
unfolding special special_of
special-length n ws cs q =
    let a = laid_as classes (exact (special_of n ws)) cs q in
    ap length a.is ∙ length-map a.value class ∙ exact-length ws (special_of n ws) (reads-join (reads-pieces DEPTH rays_row ws) (reads_times n (reads-pieces DEPTH pair_row))) a.value a.laid-at

-- ---- the rows of the tables
eight : (P : ℕ → Type 0) → P 0 → P 1 → P 2 → P 3 → P 4 → P 5 → P 6 → P 7 → (k : ℕ) → k < 8 → P k
eight P a b c d e f g z zero h = a
eight P a b c d e f g z (suc zero) h = b
eight P a b c d e f g z (suc (suc zero)) h = c
eight P a b c d e f g z (suc (suc (suc zero))) h = d
eight P a b c d e f g z (suc (suc (suc (suc zero)))) h = e
eight P a b c d e f g z (suc (suc (suc (suc (suc zero))))) h = f
eight P a b c d e f g z (suc (suc (suc (suc (suc (suc zero)))))) h = g
eight P a b c d e f g z (suc (suc (suc (suc (suc (suc (suc zero))))))) h = z
eight P a b c d e f g z (suc (suc (suc (suc (suc (suc (suc (suc k)))))))) h = absurd (omega arith)

pub record RowEntry (k : ℕ) : Type 0 where
  pub start : get_or numbers (RECORDS + k) 0 < ROWS
  pub is : row_at (get_or numbers (RECORDS + k) 0) ≡ get_or table_rows k []

row-entry : (k : ℕ) → k < 8 → RowEntry k
unfolding SIZE row row_at
row-entry = eight RowEntry
    (record { start = omega arith; is = refl })
    (record { start = omega arith; is = refl })
    (record { start = omega arith; is = refl })
    (record { start = omega arith; is = refl })
    (record { start = omega arith; is = refl })
    (record { start = omega arith; is = refl })
    (record { start = omega arith; is = refl })
    (record { start = omega arith; is = refl })

rows-length : length table_rows ≡ 8
unfolding table_rows
rows-length = refl

limits-length : length limits ≡ 9
unfolding limits
limits-length = refl

-- ---- the loop
pub record Sectioning (words tags₀ : List ℕ) (total : ℕ) (tags : List ℕ) (k : ℕ) (b : Bool) : Type 0 where
  pub some_left : k ≤ 8
  pub same : ending tags (offset_at k (take total words)) (after b (sections_from (drop k table_rows) k (take total words))) ≡ ending tags₀ 20 (sections_from table_rows 0 (take total words))

module _ (words tags₀ : List ℕ) (total : ℕ) (large : 20 ≤ total) (enough : total ≤ length words) (in_order_lem : placed limits 0 20 (take total words) ≡ true) where
  ws : List ℕ
  ws = take total words

  ws_long : length (take total words) ≡ total
  ws_long = length-take-le total words enough

  stands : (k : ℕ) → k < 9 → InPlace (take total words) k
  stands k h = subst (InPlace (take total words)) (zero-add k) (in_place limits 0 20 (take total words) in_order_lem k (omega (arith, limits-length)))

  first-at : offset_at 0 (take total words) ≡ 20
  unfolding placed limits
  first-at = eqb-true (offset_at 0 (take total words)) 20 (and_first (eqb (offset_at 0 (take total words)) 20) _ in_order_lem)

  onward : (k : ℕ) → k < 8 → end_at k (take total words) ≡ offset_at (suc k) (take total words)
  unfolding end_at
  onward k h = rw (end_at, ne_eqb k 8 (omega arith))

  pub sections-begin : Sectioning words tags₀ total tags₀ 0 false
  unfolding after
  sections-begin = record { some_left = omega arith; same = ap (λ k. ending tags₀ k (sections_from table_rows 0 (take total words))) first-at }

  part_same : (a b : ℕ) → b ≤ total → slice a b (take total words) ≡ slice a b words
  part_same a b h = ap (drop a) (take-take b total words h)

  module _ (k : ℕ) (h : k < 8) where
    pub base_is : (w : ℕ) → w ≡ offset_at k words → w ≡ offset_at k (take total words)
    base_is w e = e ∙ sym (offset_is words total large enough k (omega arith))

    pub stop_is : (w : ℕ) → w ≡ offset_at (k + 1) words → w ≡ end_at k (take total words)
    stop_is w e = e ∙ sym (end-next words total large enough k (omega arith) (omega arith))

    module _ (base stop : ℕ) (is_base : base ≡ offset_at k words) (is_stop : stop ≡ offset_at (k + 1) words) where
      pub sections_forth : base ≤ stop
      sections_forth = omega (arith, base_is base is_base, stop_is stop is_stop, (stands k (omega arith)).forth)

      pub sections-within : stop ≤ length words
      sections-within = omega (arith, stop_is stop is_stop, (stands k (omega arith)).within, ws_long, enough)

      pub sections-total : stop ≤ total
      sections-total = omega (arith, stop_is stop is_stop, (stands k (omega arith)).within, ws_long)

      module _ (pc : ℕ) (is-pc : pc ≡ get_or numbers (500 + k) 0) where
        is_pc : pc ≡ get_or numbers (RECORDS + k) 0
        unfolding SIZE
        is_pc = is-pc

        pub sections-row : pc < ROWS
        sections-row = rw is_pc (row-entry k h).start

        module _ (tags : List ℕ) (b : Bool) (inv : Sectioning words tags₀ total tags k b) (r : Held) (tags₁ : List ℕ) (got : Covers r tags₁ tags base (tabled (row_at pc) (get_or words (2 + 2 * k) 0) (slice base stop words))) where
          here : Laid Classes
          here = tabled (get_or table_rows k []) (count_at k ws) (section k ws)

          rest : Laid Classes
          rest = sections_from (drop (suc k) table_rows) (suc k) ws

          here_is : tabled (row_at pc) (get_or words (2 + 2 * k) 0) (slice base stop words) ≡ here
          unfolding here ws section
          here_is =
              ap (λ q. tabled q (get_or words (2 + 2 * k) 0) (slice base stop words)) (ap row_at is_pc ∙ (row-entry k h).is)
              ∙ ap (λ n. tabled (get_or table_rows k []) n (slice base stop words)) (sym (count-word words total large enough k (omega arith)))
              ∙ ap (tabled (get_or table_rows k []) (count_at k (take total words))) (sym (part_same base stop sections-total) ∙ ap (λ j. slice j stop (take total words)) (base_is base is_base) ∙ ap (λ j. slice (offset_at k (take total words)) j (take total words)) (stop_is stop is_stop))

          opened : sections_from (drop k table_rows) k (take total words) ≡ both ◌++◌ here rest
          unfolding sections_from here rest ws
          opened = rw (drop-cons table_rows k [] (omega (arith, rows-length)))

          got-here : Covers r tags₁ tags (offset_at k (take total words)) here
          got-here = record { same = got.same ∙ ap (ending tags base) here_is ∙ ap (λ j. ending tags j here) (base_is base is_base) }

          whole : ending tags (offset_at k (take total words)) (after b (both ◌++◌ here rest)) ≡ ending tags₀ 20 (sections_from table_rows 0 (take total words))
          whole = ap (λ o. ending tags (offset_at k (take total words)) (after b o)) (sym opened) ∙ inv.same

          fills : (cs : Classes) → here ≡ laid cs → offset_at k (take total words) + length cs ≡ offset_at (suc k) (take total words)
          unfolding here ws section
          fills cs q =
              let l = tabled-length (get_or table_rows k []) (count_at k (take total words)) (section k (take total words)) cs q in
              let m = length-slice (offset_at k (take total words)) (end_at k (take total words)) (take total words) (stands k (omega arith)).within in
              omega (arith, l, m, onward k h, (stands k (omega arith)).forth)

          pub sections_bad : (e : Misread) → Err e ≡ noted b r → Covers (Err e) tags₁ tags₀ 20 (sections_from table_rows 0 (take total words))
          unfolding shown stopped
          sections_bad e g = let q = noted_err b r e g in rw q.1 (record { same = then_bad tags (offset_at k (take total words)) here r tags₁ got-here b rest q.0 ∙ whole })

          sections_fits : r ≡ Ok tt → Sectioning words tags₀ total tags₁ (k + 1) b
          unfolding rest ws
          sections_fits e = record {
            some_left = omega arith;
            same = rw (add-one k) (then_fits tags (offset_at k (take total words)) here r tags₁ got-here b rest e (offset_at (suc k) (take total words)) fills ∙ whole);
          }

          sections_strange : r ≡ Err Strange → Sectioning words tags₀ total tags₁ (k + 1) true
          unfolding rest ws
          sections_strange e = record {
            some_left = omega arith;
            same = rw (add-one k) (then_strange tags (offset_at k (take total words)) here r tags₁ got-here b rest e (offset_at (suc k) (take total words)) ∙ whole);
          }

          pub sections_next : (b' : Bool) → Ok b' ≡ noted b r → Sectioning words tags₀ total tags₁ (k + 1) b'
          sections_next b' g = noted_ok (Sectioning words tags₀ total tags₁ (k + 1)) b r b' g sections_fits sections_strange

  -- ---- the last section
  pub last_forth : (base : ℕ) → base ≡ offset_at 8 words → base ≤ total
  last_forth base e = omega (arith, e, offset_is words total large enough 8 (omega arith), (stands 8 (omega arith)).forth, end-last words total large enough 8 refl)

  module _ (tags : List ℕ) (k : ℕ) (b : Bool) (inv : Sectioning words tags₀ total tags k b) (h : 8 ≤ k) (base : ℕ) (is_base : base ≡ offset_at 8 words) (r : Held) (tags₁ : List ℕ) (got : Covers r tags₁ tags base (special (get_or words 18 0) (slice base total words))) where
    last_is : special (get_or words 18 0) (slice base total words) ≡ sections_from (drop k table_rows) k (take total words)
    unfolding sections_from table_rows section
    last_is =
        let e : k ≡ 8 = omega (arith, inv.some_left) in
        rw e
        (ap (λ n. special n (slice base total words)) (sym (count-word words total large enough 8 (omega arith)))
        ∙ ap (special (count_at 8 (take total words))) (sym (part_same base total (le_refl total)) ∙ ap (λ j. slice j total (take total words)) (is_base ∙ sym (offset_is words total large enough 8 (omega arith))) ∙ ap (λ j. slice (offset_at 8 (take total words)) j (take total words)) (sym (end-last words total large enough 8 refl))))

    base_at : base ≡ offset_at k (take total words)
    base_at = let e : k ≡ 8 = omega (arith, inv.some_left) in rw e (is_base ∙ sym (offset_is words total large enough 8 (omega arith)))

    got_last : Covers r tags₁ tags (offset_at k (take total words)) (sections_from (drop k table_rows) k (take total words))
    got_last = record { same = got.same ∙ ap (ending tags base) last_is ∙ ap (λ j. ending tags j (sections_from (drop k table_rows) k (take total words))) base_at }

    ended_err : (x : Laid Classes) (e : Misread) → stopped e ≡ ending tags (offset_at k (take total words)) x → stopped e ≡ ending tags (offset_at k (take total words)) (after b x)
    unfolding stopped ending after
    ended_err (laid c) Misfit g = cc
    ended_err (laid c) Strange g = cc
    ended_err bad Misfit g = sym (ap (ending tags (offset_at k (take total words))) (after_bad b))
    ended_err bad Strange g = cc
    ended_err strange Misfit g = cc
    ended_err strange Strange g = go b
      where
        go : (b : Bool) → odd ≡ ending tags (offset_at k (take total words)) (after b strange)
        go true = refl
        go false = refl

    pub last_err : (e : Misread) → r ≡ Err e → Covers (Err e) tags₁ tags₀ 20 (sections_from table_rows 0 (take total words))
    unfolding shown
    last_err e f = record { same = ended_err _ e (rw f at got_last.same) ∙ inv.same }

    ended_ok : (x : Laid Classes) → done tags₁ ≡ ending tags (offset_at k (take total words)) x → (b ≡ true → odd ≡ ending tags (offset_at k (take total words)) (after b x)) × (b ≡ false → done tags₁ ≡ ending tags (offset_at k (take total words)) (after b x))
    unfolding ending after
    ended_ok (laid c) g = (λ e. rw e, λ e. rw e g)
    ended_ok bad g = cc
    ended_ok strange g = cc

    pub last-odd : r ≡ Ok tt → b ≡ true → Covers (Err Strange) tags₁ tags₀ 20 (sections_from table_rows 0 (take total words))
    unfolding shown stopped
    last-odd f e = record { same = (ended_ok _ (rw f at got_last.same)).0 e ∙ inv.same }

    pub last_fits : r ≡ Ok tt → b ≡ false → Covers (Ok tt) tags₁ tags₀ 20 (sections_from table_rows 0 (take total words))
    unfolding shown
    last_fits f e = record { same = (ended_ok _ (rw f at got_last.same)).1 e ∙ inv.same }
