-- The words of a function are passed from left to right: what is left from a word on is the whole, in the builder and in what is written; after the last word the whole is
-- on the stacks. What is full on the way is full in the end.
use mathlib.Core.Path.{◌≡◌, refl, sym, ap, ap₂, ◌∙◌}
use mathlib.Core.Bool.{Bool, true, false, false≢true}
use mathlib.Core.List.{List, [], ◌∷◌, ◌++◌, map, append-nil, append_assoc}
use Prim.Native.Nat.{ℕ, suc, ◌+◌, ◌-◌, ◌≤◌, ◌<◌}
use native.Mathlib.Nat.{le_refl, le_trans}
use native.Mathlib.Numerals.{add-one}
use native.Mathlib.Omega.{arith}
use lib.ListN.{length, get_or, take, drop, length-append}
use lib.Seq.{slice, length-slice}
use Rattle.theory_lists.specs.Lists.{take_less}
use Rattle.model.specs.Outcome.{Cell, Cells, class, word}
use Rattle.model.specs.Table.{EXPRESSIONS, NAMED, CALLEE}
use Rattle.model.specs.Tree.{Function, flat_all, flat_list, flat_block}
use Rattle.model.specs.Between.{between}
use Rattle.model.specs.References.{target, first_word, undefined_at}
use Rattle.model.specs.Imports.{Derived}
use Rattle.model.specs.Bodies.{Builder}
use Rattle.theory_image.specs.Betweens.{between_none, between_next}
use Rattle.theory_bodies.specs.Shallow.{need, glance}
use Rattle.theory_passes.specs.Pass.{passed, word_of, after, written, front, begin}
use Rattle.theory_passes.proofs.Growth.{grow_names}
use Rattle.theory_passes.specs.Light.{still}
use Rattle.theory_passes.proofs.Light.{still_grow_body}
use Rattle.derive_state.specs.Source.{mod_of}
use Rattle.derive_state.specs.Held.{row, table_of, st_of, size_r, Over, ValidArrays, Same}
use Rattle.derive_state.specs.Marks.{Marks}
use Rattle.derive_state.specs.Sizes.{Sizes}
use Rattle.derive_state.proofs.Passes.{length-between}
use Rattle.derive_state.proofs.State.{same_then, marks_then, table_stays}
use Rattle.derive_imports.proofs.Growth.{Grow, over_grow}
use Rattle.function_references.specs.Fits.{Legible}
use Rattle.function_outside.proofs.Passing.{legible_next}
use Rattle.function_builder.specs.Stacks.{making_of, Under}
use Rattle.function_builder.proofs.Stack.{slice-join, made_words}
use Rattle.function_builder.proofs.Growth.{GrowM, growing_by, growing, over_more, over_grow_m}
use Rattle.function_words.specs.Runs.{Along, Deep, Runs}
use Rattle.function_nesting.specs.Nested.{declared_s, walked_s, kept_s, final_s, front_s, names_s, body_s, cells_s, ReadyFrom}
use Rattle.function_localize.specs.Localized.{LocalizeEnsures, ImportFunctionEnsures}
use Rattle.function_localize.proofs.Calls.{called}

-- ---- stretches
pub slice-same : (a b n : ℕ) (l l' : List ℕ) → b ≤ n → take n l' ≡ take n l → slice a b l' ≡ slice a b l
slice-same a b n l l' h e = ap (drop a) (take_less b n l' l h e)

-- ---- what is written has as many cells
module _ (words : List ℕ) (n o : ℕ) (follow : ℕ → Derived → Derived) (p q : ℕ → Builder → Builder) where
  pub written_long : (cs : Cells) (u : Bool) (m : Builder) → length (written o (mod_of words n) follow p q cs u m) ≡ length cs
  unfolding written
  written_long [] u m = refl
  written_long (c ∷ cs) u m = ap suc (written_long cs (undefined_at (target (class c)) (word c) (first_word cs) u) (passed o (mod_of words n) follow p q c cs m))

-- ---- on the way, since the arrays were as they were
pub record Way (k : ℕ) (log₀ logtags₀ : List ℕ) (starts₀ : List (List ℕ)) (buckets₀ : List ℕ) (stacks₀ : List (List ℕ)) (e₀ : Sizes) (log logtags : List ℕ) (starts maps : List (List ℕ)) (buckets exprmap : List ℕ) (stacks : List (List ℕ)) (e : Sizes) : Type 0 where
  pub going : e.full ≡ false
  pub kept : ValidArrays log logtags starts maps buckets e
  pub under : Under k exprmap stacks e₀.exprtop e
  pub along : Along starts₀ starts e₀ e
  pub more : e₀.loglen ≤ e.loglen
  pub deep : Deep e₀.exprtop e₀.bodytop stacks₀ stacks
  pub below : Same e₀.loglen log₀ logtags₀ log logtags
  pub marks_stay : Marks buckets₀ buckets

module _ {k : ℕ} {log₀ logtags₀ : List ℕ} {starts₀ : List (List ℕ)} {buckets₀ : List ℕ} {stacks₀ : List (List ℕ)} {e₀ : Sizes} {log logtags : List ℕ} {starts maps : List (List ℕ)} {buckets exprmap : List ℕ} {stacks : List (List ℕ)} {e : Sizes}
    (w : Way k log₀ logtags₀ starts₀ buckets₀ stacks₀ e₀ log logtags starts maps buckets exprmap stacks e) where
  -- the words of entry points are as they were
  pub way_entries : (maps₀ : List (List ℕ)) → ValidArrays log₀ logtags₀ starts₀ maps₀ buckets₀ e₀ → size_r (table_of log logtags starts e.counts 7) ≡ size_r (table_of log₀ logtags₀ starts₀ e₀.counts 7)
  way_entries maps₀ K₀ =
      rw (w.along.entries_same.0, w.along.entries_same.1)
      (ap size_r (table_stays log₀ logtags₀ log logtags starts₀ maps₀ buckets₀ buckets e₀ K₀ w.below w.kept.log_long w.kept.tags_long w.marks_stay 7 (omega arith)))

  pub way_then : (words : List ℕ) (f : Builder → Builder) (g : Builder → List ℕ) (r : Sizes) (log' logtags' : List ℕ) (starts' maps' : List (List ℕ)) (buckets' exprmap' : List ℕ) (stacks' : List (List ℕ))
      → Runs words k f g log logtags starts maps buckets exprmap stacks e₀.exprtop e r log' logtags' starts' maps' buckets' exprmap' stacks' → r.full ≡ false → Way k log₀ logtags₀ starts₀ buckets₀ stacks₀ e₀ log' logtags' starts' maps' buckets' exprmap' stacks' r
  way_then words f g r log' logtags' starts' maps' buckets' exprmap' stacks' R z = record {
    going = z;
    kept = R.kept z;
    under = R.under z;
    along = record {
      entries_same = ((R.along z).entries_same.0 ∙ w.along.entries_same.0, (R.along z).entries_same.1 ∙ w.along.entries_same.1);
      pairs-same = (R.along z).pairs-same ∙ w.along.pairs-same;
      et_more = le_trans w.along.et_more (R.along z).et_more;
      bt_more = le_trans w.along.bt_more (R.along z).bt_more;
    };
    more = le_trans w.more (R.more z);
    deep = record { expressions = λ t h. (R.deep z).expressions t h ∙ w.deep.expressions t h; body = take_less e₀.bodytop e.bodytop (row stacks' 3) (row stacks 3) w.along.bt_more (R.deep z).body ∙ w.deep.body };
    below = same_then e₀.loglen e.loglen log₀ logtags₀ log logtags log' logtags' w.more w.below R.below;
    marks_stay = marks_then buckets₀ buckets buckets' w.marks_stay R.marks_stay;
  }

-- ---- at word i of the body; u: whether the span last met is undefined
pub record Turn (words tags : List ℕ) (n o : ℕ) (follow : ℕ → Derived → Derived) (ready : ℕ → Derived → Type 0) (F : Function) (k body end : ℕ) (log₀ logtags₀ : List ℕ) (starts₀ maps₀ : List (List ℕ)) (buckets₀ : List ℕ) (stacks₀ : List (List ℕ)) (e₀ : Sizes)
    (log logtags : List ℕ) (starts maps : List (List ℕ)) (buckets exprmap : List ℕ) (stacks : List (List ℕ)) (e : Sizes) (i : ℕ) (u : Bool) : Type 0 where
  pub from : body ≤ i
  pub within : i ≤ end
  pub legible : Legible words tags k i end
  pub way : Way k log₀ logtags₀ starts₀ buckets₀ stacks₀ e₀ log logtags starts maps buckets exprmap stacks e
  pub top : e.bodytop ≡ e₀.bodytop + length (front F) + (i - body)
  pub fronts : (special : List ℕ) → slice e₀.bodytop (e₀.bodytop + length (front F)) (row stacks 3) ≡ map word (front_s o (mod_of words n) follow F (st_of words log₀ logtags₀ starts₀ maps₀ special e₀))
  pub same : (special : List ℕ) → after o (mod_of words n) follow (need o (mod_of words n) still F.exprs) (glance o (mod_of words n) still F.exprs) (between tags words i end) (making_of words k log logtags starts maps special e exprmap stacks e₀.exprtop)
      ≡ walked_s o (mod_of words n) follow F (st_of words log₀ logtags₀ starts₀ maps₀ special e₀)
  pub wrote : (special : List ℕ)
      → slice (e₀.bodytop + length (front F)) e.bodytop (row stacks 3) ++ map word (written o (mod_of words n) follow (need o (mod_of words n) still F.exprs) (glance o (mod_of words n) still F.exprs) (between tags words i end) u (making_of words k log logtags starts maps special e exprmap stacks e₀.exprtop))
      ≡ map word (body_s o (mod_of words n) follow F (st_of words log₀ logtags₀ starts₀ maps₀ special e₀))
  pub left : (special : List ℕ) → ReadyFrom o (mod_of words n) ready follow F (flat_block F.body) (declared_s o (mod_of words n) follow F (st_of words log₀ logtags₀ starts₀ maps₀ special e₀))
      → ReadyFrom o (mod_of words n) ready follow F (between tags words i end) (making_of words k log logtags starts maps special e exprmap stacks e₀.exprtop)

module _ (words tags : List ℕ) (n o : ℕ) (follow : ℕ → Derived → Derived) (calls : (f : ℕ) (s : Derived) → Grow s (follow f s)) (ready : ℕ → Derived → Type 0) (F : Function) (k body end : ℕ) (low : body ≤ end) (hw : end ≤ length words) (ht : end ≤ length tags)
    (cells : flat_block F.body ≡ between tags words body end) (log₀ logtags₀ : List ℕ) (starts₀ maps₀ : List (List ℕ)) (buckets₀ : List ℕ) (stacks₀ : List (List ℕ)) (e₀ : Sizes) (K₀ : ValidArrays log₀ logtags₀ starts₀ maps₀ buckets₀ e₀) where
  abbrev P : ℕ → Builder → Builder
  P = need o (mod_of words n) still F.exprs

  abbrev Q : ℕ → Builder → Builder
  Q = glance o (mod_of words n) still F.exprs

  abbrev S₀ : List ℕ → Derived
  S₀ special = st_of words log₀ logtags₀ starts₀ maps₀ special e₀

  -- each callee can be imported
  abbrev Begins : List ℕ → Type 0
  Begins special = ReadyFrom o (mod_of words n) ready follow F (flat_block F.body) (declared_s o (mod_of words n) follow F (st_of words log₀ logtags₀ starts₀ maps₀ special e₀))

  abbrev size₀ : ℕ
  size₀ = size_r (table_of log₀ logtags₀ starts₀ e₀.counts 7)

  -- how many cells there are
  pub front_long : (s : Derived) → length (front_s o (mod_of words n) follow F s) ≡ length (front F)
  unfolding front_s
  front_long s = written_long words n o still _ _ (front F) false (begin F s)

  pub body_long : (s : Derived) → length (body_s o (mod_of words n) follow F s) ≡ length (flat_block F.body)
  unfolding body_s
  body_long s = written_long words n o follow P Q (flat_block F.body) false (declared_s o (mod_of words n) follow F s)

  pub cells_long : (s : Derived) → length (cells_s o (mod_of words n) follow F s) ≡ length (front F) + suc (length (flat_all (walked_s o (mod_of words n) follow F s).made)) + suc (length (names_s o (mod_of words n) follow F s)) + length (flat_block F.body)
  unfolding cells_s flat_list
  cells_long s =
      let a = front_s o (mod_of words n) follow F s in
      let b : Cells = flat_list EXPRESSIONS (walked_s o (mod_of words n) follow F s).made in
      let c : Cells = (NAMED, length (kept_s o (mod_of words n) follow F s)) ∷ names_s o (mod_of words n) follow F s in
      let d = body_s o (mod_of words n) follow F s in
      omega (arith, length-append (a ++ b ++ c) d, length-append (a ++ b) c, length-append a b, front_long s, body_long s)

  -- the builder after the body only adds
  final_grows : (s : Derived) → Grow (walked_s o (mod_of words n) follow F s).out (final_s o (mod_of words n) follow F s).out
  unfolding final_s
  final_grows s = (grow_names o (mod_of words n) still F.exprs GrowM (growing o (mod_of words n) F.exprs) (kept_s o (mod_of words n) follow F s) (walked_s o (mod_of words n) follow F s)).out_grows

  pub walked_over : (s : Derived) (m : Builder) (x : ℕ) → GrowM m (walked_s o (mod_of words n) follow F s) → x ≤ e₀.exprtop + e₀.bodytop + (length (front F) + length (flat_block F.body)) → Over (size₀ + (x + length (flat_all m.made))) m.out
      → Over (size₀ + (e₀.exprtop + e₀.bodytop + length (cells_s o (mod_of words n) follow F s))) (final_s o (mod_of words n) follow F s).out
  walked_over s m x g l v =
      let a = cells_long s in
      over_grow _ (final_grows s) (over_more (size₀ + x + length (flat_all (walked_s o (mod_of words n) follow F s).made)) _ (omega arith) (over_grow_m (size₀ + x) g (over_more _ (size₀ + x + length (flat_all m.made)) (omega arith) v)))

  -- full on the way
  pub way_full : (log logtags : List ℕ) (starts maps : List (List ℕ)) (buckets : List ℕ) (stacks : List (List ℕ)) (r : Sizes) → r.full ≡ true
      → ((special : List ℕ) → Begins special → Over (size₀ + (e₀.exprtop + e₀.bodytop + length (cells_s o (mod_of words n) follow F (S₀ special)))) (final_s o (mod_of words n) follow F (S₀ special)).out)
      → Same e₀.loglen log₀ logtags₀ log logtags → length log ≡ 16384 → length logtags ≡ 16384 → Marks buckets₀ buckets
      → LocalizeEnsures words n o ready follow F log₀ logtags₀ starts₀ maps₀ buckets₀ stacks₀ e₀ r log logtags starts maps buckets stacks
  way_full log logtags starts maps buckets stacks r z v s l l' m = record {
    over = λ _. v;
    is = λ y. absurd (false≢true (sym y ∙ z));
    exprs = λ y. absurd (false≢true (sym y ∙ z));
    made = λ y. absurd (false≢true (sym y ∙ z));
    fronts = λ y. absurd (false≢true (sym y ∙ z));
    bodies = λ y. absurd (false≢true (sym y ∙ z));
    names = λ y. absurd (false≢true (sym y ∙ z));
    longer = λ y. absurd (false≢true (sym y ∙ z));
    kept = λ y. absurd (false≢true (sym y ∙ z));
    along = λ y. absurd (false≢true (sym y ∙ z));
    more = λ y. absurd (false≢true (sym y ∙ z));
    deep = λ y. absurd (false≢true (sym y ∙ z));
    stacks_are = λ y. absurd (false≢true (sym y ∙ z));
    below = s;
    log_long = l;
    tags_long = l';
    marks_stay = m;
  }

  module _ (log logtags : List ℕ) (starts maps : List (List ℕ)) (buckets exprmap : List ℕ) (stacks : List (List ℕ)) (e : Sizes) (i : ℕ) (u : Bool)
      (T : Turn words tags n o follow ready F k body end log₀ logtags₀ starts₀ maps₀ buckets₀ stacks₀ e₀ log logtags starts maps buckets exprmap stacks e i u) where
    abbrev m : List ℕ → Builder
    m special = making_of words k log logtags starts maps special e exprmap stacks e₀.exprtop

    abbrev c : Cell
    c = (get_or tags i 0, get_or words i 0)

    abbrev cs : Cells
    cs = between tags words (suc i) end

    abbrev v : Bool
    v = undefined_at (target (get_or tags i 0)) (get_or words i 0) (first_word (between tags words (suc i) end)) u

    module _ (h : i < end) where
      next : between tags words i end ≡ c ∷ cs
      next = between_next tags words i end h ht hw

      turn-ready : (special : List ℕ) → Begins special → ReadyFrom o (mod_of words n) ready follow F (c ∷ cs) (m special)
      turn-ready special b = rw next at (T.left special b)

      pub turn-callee : (special : List ℕ) → Begins special → get_or tags i 0 ≡ CALLEE → ready (get_or words i 0) (st_of words log logtags starts maps special e)
      unfolding ReadyFrom making_of
      turn-callee special b = (turn-ready special b).0

      rest : (special : List ℕ) → Begins special → ReadyFrom o (mod_of words n) ready follow F cs (passed o (mod_of words n) follow P Q c cs (m special))
      unfolding ReadyFrom
      rest special b = (turn-ready special b).1

      same_next : (special : List ℕ) → after o (mod_of words n) follow P Q cs (passed o (mod_of words n) follow P Q c cs (m special)) ≡ walked_s o (mod_of words n) follow F (S₀ special)
      unfolding after
      same_next special = ap (λ (l : Cells). after o (mod_of words n) follow P Q l (m special)) (sym next) ∙ T.same special

      whole : end - body ≡ length (flat_block F.body)
      whole = sym (ap length cells ∙ length-between tags words body end ht hw)

      grows : (special : List ℕ) → GrowM (passed o (mod_of words n) follow P Q c cs (m special)) (walked_s o (mod_of words n) follow F (S₀ special))
      grows special = rw (same_next special) at (still_grow_body o (mod_of words n) follow F.exprs GrowM (growing_by o (mod_of words n) follow F.exprs calls) cs (passed o (mod_of words n) follow P Q c cs (m special)))

      -- the callee does not fit
      pub call_full : get_or tags i 0 ≡ CALLEE → (d : Sizes) (log' logtags' : List ℕ) (starts' maps' : List (List ℕ)) (buckets' : List ℕ) (stacks' : List (List ℕ))
          → ImportFunctionEnsures words (ready (get_or words i 0)) (follow (get_or words i 0)) log logtags starts maps buckets stacks e d log' logtags' starts' maps' buckets' stacks'
          → d.full ≡ true → LocalizeEnsures words n o ready follow F log₀ logtags₀ starts₀ maps₀ buckets₀ stacks₀ e₀ d log' logtags' starts' maps' buckets' stacks'
      unfolding making_of
      call_full q d log' logtags' starts' maps' buckets' stacks' N z =
          way_full log' logtags' starts' maps' buckets' stacks' d z over (same_then e₀.loglen e.loglen log₀ logtags₀ log logtags log' logtags' T.way.more T.way.below N.below) N.log_long N.tags_long (marks_then buckets₀ buckets buckets' T.way.marks_stay N.marks_stay)
        where
          over : (special : List ℕ) → Begins special → Over (size₀ + (e₀.exprtop + e₀.bodytop + length (cells_s o (mod_of words n) follow F (S₀ special)))) (final_s o (mod_of words n) follow F (S₀ special)).out
          over special y =
              let g = rw (q, called words n k o e₀.exprtop follow P Q (get_or words i 0) cs u (m special)) at (grows special) in
              let a = T.top in
              let b = whole in
              let f = T.from in
              let w = made_words T.way.under in
              let t = way_entries T.way maps₀ K₀ in
              walked_over (S₀ special) (record { out = follow (get_or words i 0) (m special).out; memo = (m special).memo; made = (m special).made }) (e₀.exprtop + e.bodytop) g (omega arith) (over_more _ _ (omega arith) (N.over z special (turn-callee special y q)))

      module _ (r : Sizes) (log' logtags' : List ℕ) (starts' maps' : List (List ℕ)) (buckets' exprmap' : List ℕ) (stacks' : List (List ℕ))
          (R : Runs words k (passed o (mod_of words n) follow P Q c cs) (λ (m : Builder). word_of o (mod_of words n) follow P Q c cs v m ∷ []) log logtags starts maps buckets exprmap stacks e₀.exprtop e r log' logtags' starts' maps' buckets' exprmap' stacks') where
        pub turn_full : r.full ≡ true → LocalizeEnsures words n o ready follow F log₀ logtags₀ starts₀ maps₀ buckets₀ stacks₀ e₀ r log' logtags' starts' maps' buckets' stacks'
        turn_full z =
            way_full log' logtags' starts' maps' buckets' stacks' r z (λ special b. over special) (same_then e₀.loglen e.loglen log₀ logtags₀ log logtags log' logtags' T.way.more T.way.below R.below) R.log_long R.tags_long (marks_then buckets₀ buckets buckets' T.way.marks_stay R.marks_stay)
          where
            over : (special : List ℕ) → Over (size₀ + (e₀.exprtop + e₀.bodytop + length (cells_s o (mod_of words n) follow F (S₀ special)))) (final_s o (mod_of words n) follow F (S₀ special)).out
            over special =
                let d : Builder = passed o (mod_of words n) follow P Q c cs (m special) in
                let g = grows special in
                let a = T.top in
                let b = whole in
                let f = T.from in
                walked_over (S₀ special) d (e₀.exprtop + e.bodytop + 1) g (omega arith) (over_more (size_r (table_of log logtags starts e.counts 7) + (e₀.exprtop + e.bodytop + length (flat_all d.made) + 1)) _ (let y = way_entries T.way maps₀ K₀ in omega arith) (R.over z special))

        module _ (z : r.full ≡ false) where
          one : (special : List ℕ) → slice e.bodytop r.bodytop (row stacks' 3) ≡ word_of o (mod_of words n) follow P Q c cs v (m special) ∷ []
          one special = R.wrote z special

          high : r.bodytop ≤ length (row stacks' 3)
          high = let a = (R.under z).stacks_are in let x = a.high' in let y = a.rows 3 (omega arith) in omega arith

          step : r.bodytop ≡ e.bodytop + 1
          step = let a = ap length (one []) in let b = length-slice e.bodytop r.bodytop (row stacks' 3) high in omega (arith, (R.along z).bt_more)

          cons_is : (special : List ℕ) → word_of o (mod_of words n) follow P Q c cs v (m special) ∷ map word (written o (mod_of words n) follow P Q cs v (passed o (mod_of words n) follow P Q c cs (m special)))
              ≡ map word (written o (mod_of words n) follow P Q (between tags words i end) u (m special))
          unfolding written
          cons_is special = ap (λ (l : Cells). map word (written o (mod_of words n) follow P Q l u (m special))) (sym next)

          pub turn-next : Turn words tags n o follow ready F k body end log₀ logtags₀ starts₀ maps₀ buckets₀ stacks₀ e₀ log' logtags' starts' maps' buckets' exprmap' stacks' r (i + 1) v
          turn-next = rw (add-one i) (record {
            from = let a = T.from in omega arith;
            within = omega arith;
            legible = legible_next T.legible h;
            way = way_then T.way words _ _ r log' logtags' starts' maps' buckets' exprmap' stacks' R z;
            top = let a = step in let b = T.top in let f = T.from in omega arith;
            fronts = λ special. slice-same e₀.bodytop (e₀.bodytop + length (front F)) e.bodytop (row stacks 3) (row stacks' 3) (let b = T.top in omega arith) (R.deep z).body ∙ T.fronts special;
            same = λ special. ap (after o (mod_of words n) follow P Q cs) (sym (R.is z special)) ∙ same_next special;
            wrote = wrote;
            left = λ special b. rw (R.is z special) at (rest special b);
          })
            where
              wrote : (special : List ℕ) → slice (e₀.bodytop + length (front F)) r.bodytop (row stacks' 3) ++ map word (written o (mod_of words n) follow P Q cs v (making_of words k log' logtags' starts' maps' special r exprmap' stacks' e₀.exprtop))
                  ≡ map word (body_s o (mod_of words n) follow F (S₀ special))
              wrote special =
                  let b = T.top in
                  let x = slice (e₀.bodytop + length (front F)) e.bodytop (row stacks 3) in
                  let y : List ℕ = word_of o (mod_of words n) follow P Q c cs v (m special) ∷ [] in
                  let t : List ℕ = map word (written o (mod_of words n) follow P Q cs v (passed o (mod_of words n) follow P Q c cs (m special))) in
                  let l : slice (e₀.bodytop + length (front F)) r.bodytop (row stacks' 3) ≡ x ++ y
                  = sym (slice-join (e₀.bodytop + length (front F)) e.bodytop r.bodytop (row stacks' 3) (omega arith) (R.along z).bt_more high)
                  ∙ ap₂ (λ (a b : List ℕ). a ++ b) (slice-same (e₀.bodytop + length (front F)) e.bodytop e.bodytop (row stacks 3) (row stacks' 3) (le_refl _) (R.deep z).body) (one special) in
                  ap₂ (λ (a : List ℕ) (d : Builder). a ++ map word (written o (mod_of words n) follow P Q cs v d)) l (sym (R.is z special))
                  ∙ append_assoc x y t
                  ∙ ap (x ++◌) (cons_is special)
                  ∙ T.wrote special

    -- after the last word
    module _ (h : end ≤ i) where
      none : between tags words i end ≡ []
      none = between_none tags words i end h

      pub walked_is : (special : List ℕ) → walked_s o (mod_of words n) follow F (S₀ special) ≡ m special
      walked_is special = sym (T.same special) ∙ ap (λ (l : Cells). after o (mod_of words n) follow P Q l (m special)) none ∙ (unfold after in refl)

      pub body_is : (special : List ℕ) → slice (e₀.bodytop + length (front F)) e.bodytop (row stacks 3) ≡ map word (body_s o (mod_of words n) follow F (S₀ special))
      body_is special =
          sym (append-nil (slice (e₀.bodytop + length (front F)) e.bodytop (row stacks 3)))
          ∙ ap (slice (e₀.bodytop + length (front F)) e.bodytop (row stacks 3) ++◌) (sym (ap (λ (l : Cells). map word (written o (mod_of words n) follow P Q l u (m special))) none ∙ (unfold written in refl)))
          ∙ T.wrote special

      pub body_top : e.bodytop ≡ e₀.bodytop + length (front F) + length (flat_block F.body)
      body_top = let a = T.top in let b = ap length cells ∙ length-between tags words body end ht hw in let f = T.within in omega arith
