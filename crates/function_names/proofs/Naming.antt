-- The names of the pairs on the stack, imported from left to right: what the pairs that are left make of the state that the arrays hold is what all of them make of the first, and the words before them are done.
use mathlib.Core.Path.{◌≡◌, refl, sym, ap, ◌∙◌}
use mathlib.Core.Bool.{true, false, false≢true}
use mathlib.Core.List.{List, [], ◌∷◌, ◌++◌, map, append_assoc, append-nil}
use Prim.Native.Nat.{ℕ, zero, suc, ◌+◌, ◌*◌, ◌-◌, ◌≤◌, ◌<◌}
use native.Mathlib.Nat.{le_refl, le_trans}
use native.Mathlib.Numerals.{add-one}
use native.Mathlib.Omega.{arith}
use lib.ListN.{length, get_or, set, take, drop, length-set}
use lib.Seq.{slice, slice-cons, take-suc, take-suc-set, take-set-le, take-set-lt, drop-set-lt, drop-append-le, length-take-le, set-get_or, get_or-set_same, get_or-set_other}
use Rattle.model.specs.Outcome.{word}
use Rattle.model.specs.Table.{NAME}
use Rattle.model.specs.Module.{Module, count_at}
use Rattle.model.specs.Tables.{names, code_t, tables}
use Rattle.model.specs.References.{target, targets, carry_w, through}
use Rattle.model.specs.Imports.{Derived, import_t}
use Rattle.model.specs.Bodies.{Builder, bring, mapped_to, step}
use Rattle.theory_passes.specs.Pass.{arrive, named, rows}
use Rattle.theory_passes.specs.Light.{still}
use Rattle.theory_image.specs.Betweens.{slice-none}
use Rattle.derive_state.specs.Source.{mod_of, src_of}
use Rattle.derive_state.specs.Held.{row, cell, put, table_of, st_of, size_r, ValidArrays, Same, Beside, ImportEnsures}
use Rattle.derive_state.specs.Marks.{Marks}
use Rattle.derive_state.specs.Sizes.{Sizes}
use Rattle.derive_state.proofs.State.{same_refl, same_then, marks_refl, marks_then, table_stays, row_other, put-row}
use Rattle.derive_imports.proofs.Growth.{Grow, stay, then, over_grow, grow_T}
use Rattle.derive_imports.proofs.Turns.{beside_refl, beside_then, map_is}
use Rattle.function_builder.specs.Stacks.{Stacks}
use Rattle.function_names.specs.Named.{pairs_in, pairs_of, bare, idle, names_out, names_rows, ImportNamesEnsures}

-- ---- one name: 0 for none
module _ (o : ℕ) (M : Module) where
  unfoldable name_in : ℕ → Derived → Derived
  name_in zero s = s
  name_in (suc v) s = import_t o (tables M) names v s

  arrive_is : (w : ℕ) (s : Derived) → arrive o M still idle idle (target NAME) w (bare s) ≡ bare (name_in w s)
  unfolding target targets arrive step bring name_in
  arrive_is zero s = refl
  arrive_is (suc v) s = refl

  grow_name : (w : ℕ) (s : Derived) → Grow s (name_in w s)
  unfolding name_in
  grow_name zero s = stay s
  grow_name (suc v) s = grow_T o (tables M) names v s

  -- what it is mapped to
  went_to : Derived → ℕ → ℕ
  went_to s w = through (mapped_to M (bare s)) NAME w

  out-next : (p : ℕ × ℕ) (ps : List (ℕ × ℕ)) (s : Derived) → names_out o M (p ∷ ps) s ≡ names_out o M ps (name_in p.1 s)
  unfolding names_out named
  out-next p ps s = ap (λ (m : Builder). (named o M still idle idle ps m).out) (arrive_is p.1 s)

  rows_next : (p : ℕ × ℕ) (ps : List (ℕ × ℕ)) (s : Derived) → map word (names_rows o M (p ∷ ps) s) ≡ p.0 ∷ went_to (name_in p.1 s) p.1 ∷ map word (names_rows o M ps (name_in p.1 s))
  unfolding names_rows rows went_to
  rows_next p ps s = ap (λ (m : Builder). p.0 ∷ through (mapped_to M m) NAME p.1 ∷ map word (rows o M still idle idle ps m)) (arrive_is p.1 s)

  grow_names : (ps : List (ℕ × ℕ)) (s : Derived) → Grow s (names_out o M ps s)
  unfolding names_out named
  grow_names [] s = stay s
  grow_names (p ∷ ps) s = then (grow_name p.1 s) (rw (out-next p ps s) (grow_names ps (name_in p.1 s)))

  -- ---- the pair at i, whose second word becomes x
  module _ (R : List ℕ) (b i end : ℕ) (from : b ≤ i) (less : suc i < end) (long : end ≤ length R) where
    pairs_next : pairs_in (slice i end R) ≡ (get_or R i 0, get_or R (suc i) 0) ∷ pairs_in (slice (suc (suc i)) end R)
    unfolding pairs_in
    pairs_next = ap pairs_in (slice-cons i end R 0 (omega arith) long ∙ ap (get_or R i 0 ∷◌) (slice-cons (suc i) end R 0 less long))

    module _ (x : ℕ) where
      rest-same : slice (suc (suc i)) end (set R (suc i) x) ≡ slice (suc (suc i)) end R
      rest-same = ap (drop (suc (suc i))) (take-set-lt end R (suc i) x less) ∙ drop-set-lt (suc (suc i)) (take end R) (suc i) x (omega arith)

      front-next : slice b (suc (suc i)) (set R (suc i) x) ≡ slice b i R ++ (get_or R i 0 ∷ x ∷ [])
      front-next =
          let l = length-take-le i R (omega arith) in
          ap (drop b) (take-suc-set R (suc i) x (omega arith) ∙ ap (λ (l : List ℕ). l ++ (x ∷ [])) (take-suc R i 0 (omega arith)) ∙ append_assoc (take i R) (get_or R i 0 ∷ []) (x ∷ []))
          ∙ drop-append-le b (take i R) (get_or R i 0 ∷ x ∷ []) (omega arith)

      module _ (s s' : Derived) (is : s' ≡ name_in (get_or R (suc i) 0) s) where
        out-turn : names_out o M (pairs_in (slice (suc (suc i)) end (set R (suc i) x))) s' ≡ names_out o M (pairs_in (slice i end R)) s
        out-turn = rw (rest-same, pairs_next, is) (sym (out-next (get_or R i 0, get_or R (suc i) 0) (pairs_in (slice (suc (suc i)) end R)) s))

        rows-turn : x ≡ went_to s' (get_or R (suc i) 0) → slice b (suc (suc i)) (set R (suc i) x) ++ map word (names_rows o M (pairs_in (slice (suc (suc i)) end (set R (suc i) x))) s') ≡ slice b i R ++ map word (names_rows o M (pairs_in (slice i end R)) s)
        rows-turn hx =
            let a = rows_next (get_or R i 0, get_or R (suc i) 0) (pairs_in (slice (suc (suc i)) end R)) s in
            rw (rest-same, front-next, pairs_next, a, append_assoc, ← is, ← hx)

-- ---- the loop
pub record Naming (words : List ℕ) (n o b : ℕ) (log₀ logtags₀ : List ℕ) (starts₀ maps₀ : List (List ℕ)) (buckets₀ : List ℕ) (stacks₀ : List (List ℕ)) (e₀ : Sizes) (log logtags : List ℕ) (starts maps : List (List ℕ)) (buckets : List ℕ) (stacks : List (List ℕ)) (e : Sizes) (i : ℕ) : Type 0 where
  pub from : b ≤ i
  pub within : i ≤ e₀.bodytop
  pub whole : (k : ℕ) → i + 2 * k < e₀.bodytop → (suc (i + 2 * k) < e₀.bodytop) × (get_or (row stacks 3) (suc (i + 2 * k)) 0 ≤ count_at 0 words)
  pub going : e.full ≡ false
  pub kept : ValidArrays log logtags starts maps buckets e
  pub beside : Beside starts₀ starts e₀ e
  pub more : e₀.loglen ≤ e.loglen
  pub below : Same e₀.loglen log₀ logtags₀ log logtags
  pub marks_stay : Marks buckets₀ buckets
  pub stacks_are : Stacks stacks e₀
  pub low : take b (row stacks 3) ≡ take b (row stacks₀ 3)
  pub expressions : (t : ℕ) → t < 3 → row stacks t ≡ row stacks₀ t
  pub same : (special : List ℕ) → names_out o (mod_of words n) (pairs_in (slice i e₀.bodytop (row stacks 3))) (st_of words log logtags starts maps special e) ≡ names_out o (mod_of words n) (pairs_of stacks₀ b e₀) (st_of words log₀ logtags₀ starts₀ maps₀ special e₀)
  pub done : (special : List ℕ) → slice b i (row stacks 3) ++ map word (names_rows o (mod_of words n) (pairs_in (slice i e₀.bodytop (row stacks 3))) (st_of words log logtags starts maps special e)) ≡ map word (names_rows o (mod_of words n) (pairs_of stacks₀ b e₀) (st_of words log₀ logtags₀ starts₀ maps₀ special e₀))

module _ (words : List ℕ) (n o b : ℕ) (log₀ logtags₀ : List ℕ) (starts₀ maps₀ : List (List ℕ)) (buckets₀ : List ℕ) (stacks₀ : List (List ℕ)) (e₀ : Sizes) (K₀ : ValidArrays log₀ logtags₀ starts₀ maps₀ buckets₀ e₀) where
  abbrev M : Module
  M = mod_of words n

  pub name_first : b ≤ e₀.bodytop → ((k : ℕ) → b + 2 * k < e₀.bodytop → (suc (b + 2 * k) < e₀.bodytop) × (get_or (row stacks₀ 3) (suc (b + 2 * k)) 0 ≤ count_at 0 words)) → e₀.full ≡ false → Stacks stacks₀ e₀
      → Naming words n o b log₀ logtags₀ starts₀ maps₀ buckets₀ stacks₀ e₀ log₀ logtags₀ starts₀ maps₀ buckets₀ stacks₀ e₀ b
  unfolding pairs_of
  name_first h w nf S = record {
    from = le_refl _;
    within = h;
    whole = w;
    going = nf;
    kept = K₀;
    beside = beside_refl starts₀ e₀;
    more = le_refl _;
    below = same_refl e₀.loglen log₀ logtags₀;
    marks_stay = marks_refl buckets₀ K₀.marks_long;
    stacks_are = S;
    low = refl;
    expressions = λ t ht. refl;
    same = λ special. refl;
    done = λ special. rw (slice-none b b (row stacks₀ 3) (le_refl _)) refl;
  }

  module _ (log logtags : List ℕ) (starts maps : List (List ℕ)) (buckets : List ℕ) (stacks : List (List ℕ)) (e : Sizes) (i : ℕ) (inv : Naming words n o b log₀ logtags₀ starts₀ maps₀ buckets₀ stacks₀ e₀ log logtags starts maps buckets stacks e i) where
    abbrev R : List ℕ
    R = row stacks 3

    abbrev S : List ℕ → Derived
    S special = st_of words log logtags starts maps special e

    entries_stay : size_r (table_of log logtags starts e.counts 7) ≡ size_r (table_of log₀ logtags₀ starts₀ e₀.counts 7)
    entries_stay =
        rw (inv.beside.entries_same.0, inv.beside.entries_same.1)
        (ap size_r (table_stays log₀ logtags₀ log logtags starts₀ maps₀ buckets₀ buckets e₀ K₀ inv.below inv.kept.log_long inv.kept.tags_long inv.marks_stay 7 (omega arith)))

    module _ (less : i < e₀.bodytop) where
      long : e₀.bodytop ≤ length R
      long = let a = inv.stacks_are.rows 3 (omega arith) in let b = inv.stacks_are.high' in omega arith

      two-more : i + 2 ≡ suc (suc i)
      two-more = omega arith

      zero_twice : i + 2 * 0 ≡ i
      zero_twice = omega arith

      name_pair : suc i < e₀.bodytop
      name_pair = (rw zero_twice at (inv.whole 0 (omega arith))).0

      pub name_in_lem : i + 1 < 16384
      name_in_lem = let a = name_pair in let b = inv.stacks_are.high' in omega arith

      name_low : get_or R (suc i) 0 ≤ count_at 0 words
      name_low = (rw zero_twice at (inv.whole 0 (omega arith))).1

      -- the next pair, with x for this one's word
      module _ (stacks' : List (List ℕ)) (x : ℕ) (put_is : stacks' ≡ put stacks 3 (suc i) x) where
        row_is : row stacks' 3 ≡ set R (suc i) x
        row_is = let a = inv.stacks_are.four in rw put_is (get_or-set_same stacks 3 (set R (suc i) x) [] (omega arith))

        whole-next : (k : ℕ) → suc (suc i) + 2 * k < e₀.bodytop → (suc (suc (suc i) + 2 * k) < e₀.bodytop) × (get_or (row stacks' 3) (suc (suc (suc i) + 2 * k)) 0 ≤ count_at 0 words)
        whole-next k h =
            let z : i + 2 * suc k ≡ suc (suc i) + 2 * k = omega arith in
            let w = rw z at (inv.whole (suc k) (omega arith)) in
            (w.0, rw (row_is, get_or-set_other R (suc i) (suc (suc (suc i) + 2 * k)) x 0 (λ q. omega arith)) w.1)

        stacks_next : Stacks stacks' e₀
        stacks_next = let a = inv.stacks_are.four in rw put_is (record { four = length-set stacks 3 (set R (suc i) x) ∙ a; rows = λ t ht. put-row stacks 3 t (suc i) x (omega arith) ∙ inv.stacks_are.rows t ht; high = inv.stacks_are.high; high' = inv.stacks_are.high' })

        low_next : take b (row stacks' 3) ≡ take b (row stacks₀ 3)
        low_next = let f = inv.from in rw row_is (take-set-le b R (suc i) x (omega arith) ∙ inv.low)

        expressions-next : (t : ℕ) → t < 3 → row stacks' t ≡ row stacks₀ t
        expressions-next t ht = rw put_is (row_other stacks 3 t (suc i) x (λ q. omega arith) ∙ inv.expressions t ht)

        module _ (special : List ℕ) (s' : Derived) (is : s' ≡ name_in o M (get_or R (suc i) 0) (S special)) where
          same_next : names_out o M (pairs_in (slice (suc (suc i)) e₀.bodytop (row stacks' 3))) s' ≡ names_out o M (pairs_of stacks₀ b e₀) (st_of words log₀ logtags₀ starts₀ maps₀ special e₀)
          same_next = rw row_is (out-turn o M R b i e₀.bodytop inv.from name_pair long x (S special) s' is ∙ inv.same special)

          done_next : x ≡ went_to o M s' (get_or R (suc i) 0) → slice b (suc (suc i)) (row stacks' 3) ++ map word (names_rows o M (pairs_in (slice (suc (suc i)) e₀.bodytop (row stacks' 3))) s') ≡ map word (names_rows o M (pairs_of stacks₀ b e₀) (st_of words log₀ logtags₀ starts₀ maps₀ special e₀))
          done_next hx = rw row_is (rows-turn o M R b i e₀.bodytop inv.from name_pair long x (S special) s' is hx ∙ inv.done special)

      -- no name
      pub name_skip : (w : ℕ) → w ≡ get_or R (i + 1) 0 → w ≡ 0 → Naming words n o b log₀ logtags₀ starts₀ maps₀ buckets₀ stacks₀ e₀ log logtags starts maps buckets stacks e (i + 2)
      unfolding name_in went_to through carry_w target targets
      name_skip w hw z = rw two-more (record {
        from = let f = inv.from in omega arith;
        within = name_pair;
        whole = whole-next stacks 0 unchanged;
        going = inv.going;
        kept = inv.kept;
        beside = inv.beside;
        more = inv.more;
        below = inv.below;
        marks_stay = inv.marks_stay;
        stacks_are = inv.stacks_are;
        low = inv.low;
        expressions = inv.expressions;
        same = λ special. same_next stacks 0 unchanged special (S special) (rw none refl);
        done = λ special. done_next stacks 0 unchanged special (S special) (rw none refl) (rw none refl);
      })
        where
          none : get_or R (suc i) 0 ≡ 0
          none = rw (add-one i) at (sym hw ∙ z)

          unchanged : stacks ≡ put stacks 3 (suc i) 0
          unchanged = sym (ap (λ (l : List ℕ). set stacks 3 l) (ap (set R (suc i)) (sym none) ∙ set-get_or R (suc i) 0) ∙ set-get_or stacks 3 [])

      -- a name
      module _ (w v : ℕ) (hw : w ≡ get_or R (i + 1) 0) (some : w ≡ 0 → ⊥) (hv : v ≡ w - 1) where
        is_suc : get_or R (suc i) 0 ≡ suc v
        is_suc = let a = rw (add-one i) at hw in omega arith

        pub name_number : v < count_at 0 words
        name_number = let a = name_low in let b = is_suc in omega arith

        brought : (special : List ℕ) → import_t o (src_of words n) names v (S special) ≡ name_in o M (get_or R (suc i) 0) (S special)
        unfolding src_of name_in
        brought special = rw is_suc refl

        module _ (r : Sizes) (log' logtags' : List ℕ) (starts' maps' : List (List ℕ)) (buckets' : List ℕ) (L : ImportEnsures words (import_t o (src_of words n) names v) log logtags starts maps buckets e r log' logtags' starts' maps' buckets') where
          pub name_full : r.full ≡ true → ImportNamesEnsures words n o b log₀ logtags₀ starts₀ maps₀ buckets₀ stacks₀ e₀ r log' logtags' starts' maps' buckets' stacks
          name_full q = record {
            lands = record {
              over = λ z special. rw (← entries_stay, ← same_next (put stacks 3 (suc i) 0) 0 refl special (import_t o (src_of words n) names v (S special)) (brought special)) (over_grow _ (grow_names o M (pairs_in (slice (suc (suc i)) e₀.bodytop (row (put stacks 3 (suc i) 0) 3))) (import_t o (src_of words n) names v (S special))) (L.over q special));
              is = λ z. absurd (false≢true (sym z ∙ q));
              kept = λ z. absurd (false≢true (sym z ∙ q));
              beside = λ z. absurd (false≢true (sym z ∙ q));
              more = λ z. absurd (false≢true (sym z ∙ q));
              below = same_then e₀.loglen e.loglen log₀ logtags₀ log logtags log' logtags' inv.more inv.below L.below;
              log_long = L.log_long;
              tags_long = L.tags_long;
              marks_stay = marks_then buckets₀ buckets buckets' inv.marks_stay L.marks_stay;
            };
            rows_are = λ z. absurd (false≢true (sym z ∙ q));
            below = λ z. absurd (false≢true (sym z ∙ q));
            expressions = inv.expressions;
            stacks_are = λ z. absurd (false≢true (sym z ∙ q));
          }

          pub name_next : r.full ≡ false → (x : ℕ) → x ≡ v → (stacks' : List (List ℕ)) → stacks' ≡ put stacks 3 (i + 1) (cell maps' 0 x) → Naming words n o b log₀ logtags₀ starts₀ maps₀ buckets₀ stacks₀ e₀ log' logtags' starts' maps' buckets' stacks' r (i + 2)
          unfolding went_to through carry_w target targets mapped_to code_t
          name_next q x hx stacks' is = let put_is : stacks' ≡ put stacks 3 (suc i) (cell maps' 0 v) = rw (add-one i, hx) at is in rw two-more (record {
            from = let f = inv.from in omega arith;
            within = name_pair;
            whole = whole-next stacks' (cell maps' 0 v) put_is;
            going = q;
            kept = L.kept q;
            beside = beside_then starts₀ starts starts' e₀ e r inv.beside (L.beside q);
            more = le_trans inv.more (L.more q);
            below = same_then e₀.loglen e.loglen log₀ logtags₀ log logtags log' logtags' inv.more inv.below L.below;
            marks_stay = marks_then buckets₀ buckets buckets' inv.marks_stay L.marks_stay;
            stacks_are = stacks_next stacks' (cell maps' 0 v) put_is;
            low = low_next stacks' (cell maps' 0 v) put_is;
            expressions = expressions-next stacks' (cell maps' 0 v) put_is;
            same = λ special. same_next stacks' (cell maps' 0 v) put_is special (st_of words log' logtags' starts' maps' special r) (sym (L.is q special) ∙ brought special);
            done = λ special. done_next stacks' (cell maps' 0 v) put_is special (st_of words log' logtags' starts' maps' special r) (sym (L.is q special) ∙ brought special) (rw is_suc (sym (map_is words log' logtags' starts' maps' special r names v name_number)));
          })

    pub name_done : e₀.bodytop ≤ i → ImportNamesEnsures words n o b log₀ logtags₀ starts₀ maps₀ buckets₀ stacks₀ e₀ e log logtags starts maps buckets stacks
    unfolding names_out named names_rows rows pairs_in
    name_done h = record {
      lands = record {
        over = λ q. absurd (false≢true (sym inv.going ∙ q));
        is = λ q special. sym (rw none at (inv.same special));
        kept = λ q. inv.kept;
        beside = λ q. inv.beside;
        more = λ q. inv.more;
        below = inv.below;
        log_long = inv.kept.log_long;
        tags_long = inv.kept.tags_long;
        marks_stay = inv.marks_stay;
      };
      rows_are = λ q special. let w = inv.within in let z : e₀.bodytop ≡ i = omega arith in ap (λ (x : ℕ). slice b x R) z ∙ sym (append-nil (slice b i R)) ∙ rw none at (inv.done special);
      below = λ q. inv.low;
      expressions = inv.expressions;
      stacks_are = λ q. let t = inv.beside.tops_same in let s = inv.stacks_are in record { four = s.four; rows = s.rows; high = rw t.0 s.high; high' = rw t.1 s.high' };
    }
      where
        none : slice i e₀.bodytop R ≡ []
        none = slice-none i e₀.bodytop R h
