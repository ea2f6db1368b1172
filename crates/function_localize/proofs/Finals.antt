-- After the body: the names of the expressions that stay are put on the stack and imported there, and the function is whole.
use mathlib.Core.Path.{◌≡◌, refl, sym, ap, ap₂, ◌∙◌}
use mathlib.Core.Bool.{Bool, true, false}
use mathlib.Core.List.{List, [], map}
use Prim.Native.Nat.{ℕ, suc, ◌+◌, ◌*◌, ◌≤◌, ◌<◌}
use native.Mathlib.Nat.{le_refl}
use native.Mathlib.Omega.{arith}
use lib.ListN.{length, get_or, take}
use lib.Seq.{slice}
use Rattle.theory_lists.specs.Lists.{take_less}
use Rattle.model.specs.Outcome.{word}
use Rattle.model.specs.Tree.{Function, flat_all, flat_block}
use Rattle.model.specs.Module.{count_at}
use Rattle.model.specs.Between.{between}
use Rattle.model.specs.Imports.{Derived}
use Rattle.model.specs.Bodies.{Builder, keep_names}
use Rattle.theory_bodies.specs.Shallow.{need, glance}
use Rattle.theory_passes.specs.Pass.{front}
use Rattle.theory_passes.specs.Light.{still}
use Rattle.derive_state.specs.Source.{mod_of}
use Rattle.derive_state.specs.Held.{row, table_of, st_of, size_r, Over, long, ValidArrays}
use Rattle.derive_state.specs.Sizes.{Sizes}
use Rattle.derive_state.proofs.State.{same_then, marks_then}
use Rattle.derive_imports.proofs.Growth.{Grow}
use Rattle.function_builder.specs.Stacks.{making_of}
use Rattle.function_builder.proofs.Stack.{made_many, made-flat}
use Rattle.function_builder.proofs.Growth.{over_more}
use Rattle.function_builder.proofs.Then.{kept_tops}
use Rattle.function_parts.specs.Part.{Part, Indexed, body_is, order, long as lengths}
use Rattle.function_names.specs.Named.{pairs_in, named_records, names_out, names_rows, pairs_of, KeepNamesEnsures, ImportNamesEnsures}
use Rattle.function_nesting.specs.Nested.{walked_s, kept_s, final_s, front_s, names_s, body_s, cells_s}
use Rattle.function_localize.specs.Localized.{LocalizeEnsures}
use Rattle.function_localize.proofs.Ways.{slice-same, way_entries, Turn, cells_long, way_full, walked_is, body_is as body-words, body_top}
use Rattle.function_localize.proofs.Names.{pairs_back, named-records, kept_low, named_is, rows_is, rows_long}

module _ {words tags : List ℕ} {n s end : ℕ} {F : Function} (p : Part words tags n s end F) {ea : ℕ} {places : List ℕ} {k named body : ℕ} (x : Indexed words tags s end ea places k named body)
    (o : ℕ) (follow : ℕ → Derived → Derived) (calls : (f : ℕ) (s : Derived) → Grow s (follow f s)) (ready : ℕ → Derived → Type 0) (log₀ logtags₀ : List ℕ) (starts₀ maps₀ : List (List ℕ)) (buckets₀ : List ℕ) (stacks₀ : List (List ℕ)) (e₀ : Sizes) (K₀ : ValidArrays log₀ logtags₀ starts₀ maps₀ buckets₀ e₀)
    (log logtags : List ℕ) (starts maps : List (List ℕ)) (buckets exprmap : List ℕ) (stacks : List (List ℕ)) (e : Sizes) (i : ℕ) (u : Bool) (T : Turn words tags n o follow ready F k body end log₀ logtags₀ starts₀ maps₀ buckets₀ stacks₀ e₀ log logtags starts maps buckets exprmap stacks e i u) (done : end ≤ i) where
  abbrev S₀ : List ℕ → Derived
  S₀ special = st_of words log₀ logtags₀ starts₀ maps₀ special e₀

  abbrev size₀ : ℕ
  size₀ = size_r (table_of log₀ logtags₀ starts₀ e₀.counts 7)

  abbrev P : ℕ → Builder → Builder
  P = need o (mod_of words n) still F.exprs

  abbrev Q : ℕ → Builder → Builder
  Q = glance o (mod_of words n) still F.exprs

  -- the pairs that the code keeps
  abbrev ps : List (ℕ × ℕ)
  ps = keep_names (named_records words (named + 1) (get_or words named 0)) (take k exprmap) []

  hw : end ≤ length words
  hw = let a = (order p x).in_words in let b = (lengths p).words_long in omega arith

  ht : end ≤ length tags
  ht = let a = (order p x).in_words in let b = (lengths p).tags_long in omega arith

  low : body ≤ end
  low = let a = (order p x).to_end in omega arith

  pub walked : (special : List ℕ) → walked_s o (mod_of words n) follow F (S₀ special) ≡ making_of words k log logtags starts maps special e exprmap stacks e₀.exprtop
  walked special = walked_is words tags n o follow calls ready F k body end low hw ht (body_is p x) log₀ logtags₀ starts₀ maps₀ buckets₀ stacks₀ e₀ K₀ log logtags starts maps buckets exprmap stacks e i u T done special

  bodies : (special : List ℕ) → slice (e₀.bodytop + length (front F)) e.bodytop (row stacks 3) ≡ map word (body_s o (mod_of words n) follow F (S₀ special))
  bodies special = body-words words tags n o follow calls ready F k body end low hw ht (body_is p x) log₀ logtags₀ starts₀ maps₀ buckets₀ stacks₀ e₀ K₀ log logtags starts maps buckets exprmap stacks e i u T done special

  top : e.bodytop ≡ e₀.bodytop + length (front F) + length (flat_block F.body)
  top = body_top words tags n o follow calls ready F k body end low hw ht (body_is p x) log₀ logtags₀ starts₀ maps₀ buckets₀ stacks₀ e₀ K₀ log logtags starts maps buckets exprmap stacks e i u T done

  cells : (s : Derived) → length (cells_s o (mod_of words n) follow F s) ≡ length (front F) + suc (length (flat_all (walked_s o (mod_of words n) follow F s).made)) + suc (length (names_s o (mod_of words n) follow F s)) + length (flat_block F.body)
  cells s = cells_long words tags n o follow calls ready F k body end low hw ht (body_is p x) log₀ logtags₀ starts₀ maps₀ buckets₀ stacks₀ e₀ K₀ s

  kept_are : (special : List ℕ) → kept_s o (mod_of words n) follow F (S₀ special) ≡ ps
  unfolding kept_s making_of
  kept_are special = rw (walked special, named-records p x) refl

  names_many : (special : List ℕ) → length (names_s o (mod_of words n) follow F (S₀ special)) ≡ 2 * length ps
  unfolding names_s
  names_many special = rows_long o (mod_of words n) still P Q (kept_s o (mod_of words n) follow F (S₀ special)) (walked_s o (mod_of words n) follow F (S₀ special)) ∙ ap (λ (l : List (ℕ × ℕ)). 2 * length l) (kept_are special)

  final-out : (special : List ℕ) → (final_s o (mod_of words n) follow F (S₀ special)).out ≡ names_out o (mod_of words n) ps (st_of words log logtags starts maps special e)
  unfolding final_s making_of
  final-out special = ap (λ (m : Builder). m.out) (named_is o (mod_of words n) P Q (kept_s o (mod_of words n) follow F (S₀ special)) (walked_s o (mod_of words n) follow F (S₀ special)))
      ∙ ap₂ (λ (l : List (ℕ × ℕ)) (m : Builder). names_out o (mod_of words n) l m.out) (kept_are special) (walked special)

  names_are : (special : List ℕ) → names_s o (mod_of words n) follow F (S₀ special) ≡ names_rows o (mod_of words n) ps (st_of words log logtags starts maps special e)
  unfolding names_s making_of
  names_are special = rows_is o (mod_of words n) P Q (kept_s o (mod_of words n) follow F (S₀ special)) (walked_s o (mod_of words n) follow F (S₀ special))
      ∙ ap₂ (λ (l : List (ℕ × ℕ)) (m : Builder). names_rows o (mod_of words n) l m.out) (kept_are special) (walked special)

  -- ---- the pairs on the stack
  pub keep_words : (named < 16384) × (named + 2 * get_or words named 0 < 16384) × (length words ≡ 16384)
  keep_words = let a = order p x in let b = x.body_is in (omega (arith, a), omega (arith, a), (lengths p).words_long)

  module _ (r₁ : Sizes) (stacks₁ : List (List ℕ)) (W : KeepNamesEnsures ps stacks e r₁ stacks₁) where
    pub keep_full : r₁.full ≡ true → LocalizeEnsures words n o ready follow F log₀ logtags₀ starts₀ maps₀ buckets₀ stacks₀ e₀ r₁ log logtags starts maps buckets stacks₁
    keep_full z = way_full words tags n o follow calls ready F k body end low hw ht (body_is p x) log₀ logtags₀ starts₀ maps₀ buckets₀ stacks₀ e₀ K₀ log logtags starts maps buckets stacks₁ r₁ z
        (λ special _. let a = W.over z in let b = top in let c = cells (S₀ special) in let d = names_many special in long (omega arith))
        T.way.below T.way.kept.log_long T.way.kept.tags_long T.way.marks_stay

    module _ (z : r₁.full ≡ false) where
      used_same : r₁.loglen ≡ e.loglen
      used_same = ap (λ (x : Sizes). x.loglen) (W.ends z)

      counts_same : r₁.counts ≡ e.counts
      counts_same = ap (λ (x : Sizes). x.counts) (W.ends z)

      pairs-same : r₁.pairs ≡ e.pairs
      pairs-same = ap (λ (x : Sizes). x.pairs) (W.ends z)

      et_same : r₁.exprtop ≡ e.exprtop
      et_same = ap (λ (x : Sizes). x.exprtop) (W.ends z)

      bt_is : r₁.bodytop ≡ e.bodytop + 2 * length ps
      bt_is = ap (λ (x : Sizes). x.bodytop) (W.ends z)

      made-same : r₁.made ≡ e.made
      made-same = ap (λ (x : Sizes). x.made) (W.ends z)

      pub names_kept : ValidArrays log logtags starts maps buckets r₁
      names_kept = kept_tops T.way.kept r₁ used_same counts_same pairs-same

      pub names_high : e.bodytop ≤ r₁.bodytop
      names_high = let a = bt_is in omega arith

      pub names_low : (j : ℕ) → e.bodytop + 2 * j < r₁.bodytop → (suc (e.bodytop + 2 * j) < r₁.bodytop) × (get_or (row stacks₁ 3) (suc (e.bodytop + 2 * j)) 0 ≤ count_at 0 words)
      names_low = kept_low p x (take k exprmap) (row stacks₁ 3) e.bodytop r₁.bodytop (W.is z) bt_is

      pairs_are : pairs_of stacks₁ e.bodytop r₁ ≡ ps
      unfolding pairs_of
      pairs_are = ap pairs_in (W.is z) ∙ pairs_back ps

      st_same : (special : List ℕ) → st_of words log logtags starts maps special r₁ ≡ st_of words log logtags starts maps special e
      unfolding st_of
      st_same special = rw (counts_same, pairs-same) refl

      module _ (r : Sizes) (log' logtags' : List ℕ) (starts' maps' : List (List ℕ)) (buckets' : List ℕ) (stacks' : List (List ℕ)) (N : ImportNamesEnsures words n o e.bodytop log logtags starts maps buckets stacks₁ r₁ r log' logtags' starts' maps' buckets' stacks') where
        out_is : (special : List ℕ) → names_out o (mod_of words n) (pairs_of stacks₁ e.bodytop r₁) (st_of words log logtags starts maps special r₁) ≡ (final_s o (mod_of words n) follow F (S₀ special)).out
        out_is special = ap₂ (names_out o (mod_of words n)) pairs_are (st_same special) ∙ sym (final-out special)

        entries : size_r (table_of log logtags starts r₁.counts 7) ≡ size₀
        entries = ap (λ (c : List ℕ). size_r (table_of log logtags starts c 7)) counts_same ∙ way_entries T.way maps₀ K₀

        over : r.full ≡ true → (special : List ℕ) → Over (size₀ + (e₀.exprtop + e₀.bodytop + length (cells_s o (mod_of words n) follow F (S₀ special)))) (final_s o (mod_of words n) follow F (S₀ special)).out
        over y special = let a = entries in over_more _ _ (omega arith) (rw (out_is special) at (N.lands.over y special))

        module _ (y : r.full ≡ false) where
          et_is : r.exprtop ≡ e.exprtop
          et_is = (N.lands.beside y).tops_same.0 ∙ et_same

          top_is : r.bodytop ≡ e.bodytop + 2 * length ps
          top_is = (N.lands.beside y).tops_same.1 ∙ bt_is

          made_is : r.made ≡ e.made
          made_is = (N.lands.beside y).tops_same.2 ∙ made-same

          others : (t : ℕ) → t < 3 → row stacks' t ≡ row stacks t
          others t h = N.expressions t h ∙ W.expressions t h

          below : take e.bodytop (row stacks' 3) ≡ take e.bodytop (row stacks 3)
          below = N.below y ∙ W.below z

          exprs : (special : List ℕ) → between (row stacks' 1) (row stacks' 0) e₀.exprtop r.exprtop ≡ flat_all (walked_s o (mod_of words n) follow F (S₀ special)).made
          unfolding making_of
          exprs special = rw (others 1 (omega arith), others 0 (omega arith), et_is) (sym (ap (λ (m : Builder). flat_all m.made) (walked special) ∙ made-flat T.way.under))

          made : (special : List ℕ) → r.made ≡ length (walked_s o (mod_of words n) follow F (S₀ special)).made
          unfolding making_of
          made special = made_is ∙ sym (ap (λ (m : Builder). length m.made) (walked special) ∙ made_many T.way.under)

          fronts : (special : List ℕ) → slice e₀.bodytop (e₀.bodytop + length (front F)) (row stacks' 3) ≡ map word (front_s o (mod_of words n) follow F (S₀ special))
          fronts special = slice-same e₀.bodytop (e₀.bodytop + length (front F)) e.bodytop (row stacks 3) (row stacks' 3) (let a = top in omega arith) below ∙ T.fronts special

          body_there : (special : List ℕ) → slice (e₀.bodytop + length (front F)) (e₀.bodytop + length (front F) + length (flat_block F.body)) (row stacks' 3) ≡ map word (body_s o (mod_of words n) follow F (S₀ special))
          body_there special = rw (← top) (slice-same (e₀.bodytop + length (front F)) e.bodytop e.bodytop (row stacks 3) (row stacks' 3) (le_refl _) below ∙ bodies special)

          names_there : (special : List ℕ) → slice (e₀.bodytop + length (front F) + length (flat_block F.body)) r.bodytop (row stacks' 3) ≡ map word (names_s o (mod_of words n) follow F (S₀ special))
          names_there special =
              rw (← top, (N.lands.beside y).tops_same.1)
              (N.rows_are y special ∙ ap (map word) (ap₂ (names_rows o (mod_of words n)) pairs_are (st_same special) ∙ sym (names_are special)))

        -- the function is whole
        pub names_done : LocalizeEnsures words n o ready follow F log₀ logtags₀ starts₀ maps₀ buckets₀ stacks₀ e₀ r log' logtags' starts' maps' buckets' stacks'
        names_done = record {
          over = λ y special _. over y special;
          is = λ y special. sym (out_is special) ∙ N.lands.is y special;
          exprs = exprs;
          made = made;
          fronts = fronts;
          bodies = body_there;
          names = names_there;
          longer = λ y. let a = top in let b = top_is y in omega arith;
          kept = N.lands.kept;
          along = λ y. let w = T.way.along in let b = N.lands.beside y in record {
            entries_same = (b.entries_same.0 ∙ w.entries_same.0, b.entries_same.1 ∙ ap (λ (c : List ℕ). get_or c 7 0) counts_same ∙ w.entries_same.1);
            pairs-same = b.pairs-same ∙ pairs-same ∙ w.pairs-same;
            et_more = rw (et_is y) w.et_more;
            bt_more = let a = top_is y in let c = w.bt_more in omega arith;
          };
          more = λ y. let a = N.lands.more y in let b = T.way.more in let c = used_same in omega arith;
          deep = λ y. let d = T.way.deep in record {
            expressions = λ t h. ap (take e₀.exprtop) (others y t h) ∙ d.expressions t h;
            body = take_less e₀.bodytop e.bodytop (row stacks' 3) (row stacks 3) T.way.along.bt_more (below y) ∙ d.body;
          };
          stacks_are = λ y. N.stacks_are y;
          below = same_then e₀.loglen e.loglen log₀ logtags₀ log logtags log' logtags' T.way.more T.way.below (rw used_same at N.lands.below);
          log_long = N.lands.log_long;
          tags_long = N.lands.tags_long;
          marks_stay = marks_then buckets₀ buckets buckets' T.way.marks_stay N.lands.marks_stay;
        }
