-- Passing over words, one operation after another: an operation that writes no word, one that writes one, two in a row, and what follows one that is full.
use mathlib.Core.Path.{◌≡◌, refl, sym, ap, ◌∙◌}
use mathlib.Core.Bool.{true, false, false≢true}
use mathlib.Core.List.{List, [], ◌∷◌, ◌++◌}
use Prim.Native.Nat.{ℕ, suc, ◌+◌, ◌≤◌, ◌<◌}
use native.Mathlib.Nat.{le_refl, le_trans}
use native.Mathlib.Numerals.{add-one}
use native.Mathlib.Omega.{arith}
use lib.ListN.{length, get_or, take, drop, set, length-append, length-set}
use lib.Seq.{slice, length-slice, slice_empty, take-set-le, take-suc-set, drop_at, length-take-le, get_or-set_same}
use Rattle.theory_lists.specs.Lists.{take_less}
use Rattle.model.specs.Tree.{flat_all}
use Rattle.model.specs.Bodies.{Builder}
use Rattle.derive_state.specs.Held.{row, table_of, st_of, size_r, Over, long, ValidArrays}
use Rattle.derive_state.specs.Sizes.{Sizes}
use Rattle.derive_imports.proofs.Growth.{stay}
use Rattle.derive_state.proofs.State.{same_refl, same_then, marks_refl, marks_then, table_stays, row_other, put-row}
use Rattle.function_builder.specs.Stacks.{making_of, Stacks, Under}
use Rattle.function_builder.specs.Makes.{Makes, Pushed}
use Rattle.function_builder.proofs.Stack.{slice-join, made_low, made_many, made-same, under_same}
use Rattle.function_builder.proofs.Growth.{GrowM, over_more, over_grow_m}
use Rattle.function_builder.proofs.Then.{kept_tops, making_is, makes_none}
use Rattle.function_words.specs.Runs.{Along, Deep, Runs}

-- ---- what is beside the tables, and what lies deep in the stacks
along_then : {a b c : List (List ℕ)} {e f g : Sizes} → Along a b e f → Along b c f g → Along a c e g
along_then x y = record {
  entries_same = (y.entries_same.0 ∙ x.entries_same.0, y.entries_same.1 ∙ x.entries_same.1);
  pairs-same = y.pairs-same ∙ x.pairs-same;
  et_more = le_trans x.et_more y.et_more;
  bt_more = le_trans x.bt_more y.bt_more;
}

deep_then : {exprtop bodytop ct : ℕ} {a b c : List (List ℕ)} → bodytop ≤ ct → Deep exprtop bodytop a b → Deep exprtop ct b c → Deep exprtop bodytop a c
deep_then {bodytop = bodytop} {ct = ct} {b = b} {c = c} l x y = record { expressions = λ t h. y.expressions t h ∙ x.expressions t h; body = take_less bodytop ct (row c 3) (row b 3) l y.body ∙ x.body }

-- no word
pub runs_of : {words : List ℕ} {k e₁ : ℕ} {log₀ logtags₀ : List ℕ} {starts₀ maps₀ : List (List ℕ)} {buckets₀ exprmap₀ : List ℕ} {stacks₀ : List (List ℕ)} {e₀ : Sizes} {f : Builder → Builder} {r : Sizes} {log logtags : List ℕ} {starts maps : List (List ℕ)} {buckets exprmap : List ℕ} {stacks : List (List ℕ)} → Makes words k f log₀ logtags₀ starts₀ maps₀ buckets₀ exprmap₀ stacks₀ e₁ e₀ r log logtags starts maps buckets exprmap stacks
    → Runs words k f (λ m. []) log₀ logtags₀ starts₀ maps₀ buckets₀ exprmap₀ stacks₀ e₁ e₀ r log logtags starts maps buckets exprmap stacks
runs_of {e₀ = e₀} {stacks = stacks} A = record {
  over = λ q special. over_more _ _ (omega arith) (A.over q special);
  is = A.is;
  wrote = λ q special. rw (A.aside q).bt_same (slice_empty e₀.bodytop (row stacks 3));
  kept = A.kept;
  under = A.under;
  along = λ q. let z = A.aside q in record { entries_same = z.entries_same; pairs-same = z.pairs-same; et_more = z.et_more; bt_more = let y = z.bt_same in omega arith };
  more = A.more;
  deep = λ q. let z = A.stays q in record { expressions = z.expressions; body = ap (take e₀.bodytop) z.body };
  below = A.below;
  log_long = A.log_long;
  tags_long = A.tags_long;
  marks_stay = A.marks_stay;
}

-- one word, of the builder
module _ {k : ℕ} {exprmap₀ : List ℕ} {stacks₀ : List (List ℕ)} {e₁ : ℕ} {e₀ : Sizes} (U₀ : Under k exprmap₀ stacks₀ e₁ e₀) {w : ℕ} {r : Sizes} {stacks : List (List ℕ)} (P : Pushed w stacks₀ e₀ r stacks) where
  body_is : r.full ≡ false → row stacks 3 ≡ set (row stacks₀ 3) e₀.bodytop w
  body_is q = let f = U₀.stacks_are.four in rw (P.is q) (get_or-set_same stacks₀ 3 (set (row stacks₀ 3) e₀.bodytop w) [] (omega arith))

  others : r.full ≡ false → (t : ℕ) → t < 3 → row stacks t ≡ row stacks₀ t
  others q t h = rw (P.is q) (row_other stacks₀ 3 t e₀.bodytop w (λ z. omega arith))

  et_same : r.full ≡ false → r.exprtop ≡ e₀.exprtop
  et_same q = rw (P.ends q)

  bt_more : r.full ≡ false → r.bodytop ≡ suc e₀.bodytop
  bt_more q = rw (P.ends q) (add-one e₀.bodytop)

  made_is : r.full ≡ false → r.made ≡ e₀.made
  made_is q = rw (P.ends q)

  counts_same : r.full ≡ false → r.counts ≡ e₀.counts
  counts_same q = rw (P.ends q)

  pairs-same : r.full ≡ false → r.pairs ≡ e₀.pairs
  pairs-same q = rw (P.ends q)

  used_same : r.full ≡ false → r.loglen ≡ e₀.loglen
  used_same q = rw (P.ends q)

  stays : (q : r.full ≡ false) (t : ℕ) → t < 3 → take e₀.exprtop (row stacks t) ≡ take e₀.exprtop (row stacks₀ t)
  stays q t h = ap (take e₀.exprtop) (others q t h)

  tops : r.full ≡ false → Stacks stacks r
  tops q =
      let s = U₀.stacks_are in
      let f = s.four in
      let a = P.room q in
      let b = bt_more q in
      record { four = rw (P.is q) (length-set stacks₀ 3 _ ∙ f); rows = λ t h. rw (P.is q) (put-row stacks₀ 3 t e₀.bodytop w (omega arith) ∙ s.rows t h); high = rw (et_same q) s.high; high' = omega arith }

  wrote : r.full ≡ false → slice e₀.bodytop r.bodytop (row stacks 3) ≡ w ∷ []
  wrote q =
      let a = P.room q in
      let l = U₀.stacks_are.rows 3 (omega arith) in
      rw (bt_more q, body_is q, take-suc-set (row stacks₀ 3) e₀.bodytop w (omega arith)) (drop_at (take e₀.bodytop (row stacks₀ 3)) (w ∷ []) e₀.bodytop (length-take-le e₀.bodytop (row stacks₀ 3) (omega arith)))

  module _ {log₀ logtags₀ : List ℕ} {starts₀ maps₀ : List (List ℕ)} {buckets₀ : List ℕ} (K₀ : ValidArrays log₀ logtags₀ starts₀ maps₀ buckets₀ e₀) where
    held : r.full ≡ false → (words special : List ℕ) → making_of words k log₀ logtags₀ starts₀ maps₀ special e₀ exprmap₀ stacks₀ e₁ ≡ making_of words k log₀ logtags₀ starts₀ maps₀ special r exprmap₀ stacks e₁
    unfolding making_of st_of
    held q words special = rw (P.ends q) (making_is refl refl (sym (made-same U₀ stacks _ (stays q) refl refl)))

    pub runs_push : {words : List ℕ} (v : Builder → ℕ) → ((special : List ℕ) → w ≡ v (making_of words k log₀ logtags₀ starts₀ maps₀ special e₀ exprmap₀ stacks₀ e₁)) → Runs words k (λ m. m) (λ m. v m ∷ []) log₀ logtags₀ starts₀ maps₀ buckets₀ exprmap₀ stacks₀ e₁ e₀ r log₀ logtags₀ starts₀ maps₀ buckets₀ exprmap₀ stacks
    runs_push {words} v is = record {
      over = λ q special. let b = P.over q in long (omega arith);
      is = λ q. held q words;
      wrote = λ q special. wrote q ∙ ap (◌∷ []) (is special);
      kept = λ q. kept_tops K₀ r (used_same q) (counts_same q) (pairs-same q);
      under = λ q. under_same U₀ stacks r (stays q) (et_same q) (made_is q) (tops q);
      along = λ q. record { entries_same = (refl, ap (λ (c : List ℕ). get_or c 7 0) (counts_same q)); pairs-same = pairs-same q; et_more = let z = et_same q in omega arith; bt_more = let z = bt_more q in omega arith };
      more = λ q. let z = used_same q in omega arith;
      deep = λ q. record { expressions = λ t h. ap (take e₁) (others q t h); body = rw (body_is q) (take-set-le e₀.bodytop (row stacks₀ 3) e₀.bodytop w (le_refl _)) };
      below = same_refl e₀.loglen log₀ logtags₀;
      log_long = K₀.log_long;
      tags_long = K₀.tags_long;
      marks_stay = marks_refl buckets₀ K₀.marks_long;
    }

-- ---- after an operation
module _ {log₀ logtags₀ : List ℕ} {starts₀ maps₀ : List (List ℕ)} {buckets₀ : List ℕ} {e₀ : Sizes} (K₀ : ValidArrays log₀ logtags₀ starts₀ maps₀ buckets₀ e₀) {words : List ℕ} {k e₁ : ℕ} {exprmap₀ : List ℕ} {stacks₀ : List (List ℕ)} {f : Builder → Builder} {g : Builder → List ℕ} {e : Sizes} {log logtags : List ℕ} {starts maps : List (List ℕ)} {buckets exprmap : List ℕ} {stacks : List (List ℕ)} (A : Runs words k f g log₀ logtags₀ starts₀ maps₀ buckets₀ exprmap₀ stacks₀ e₁ e₀ e log logtags starts maps buckets exprmap stacks) where
  abbrev m₀ : List ℕ → Builder
  m₀ special = making_of words k log₀ logtags₀ starts₀ maps₀ special e₀ exprmap₀ stacks₀ e₁

  entries : e.full ≡ false → size_r (table_of log logtags starts e.counts 7) ≡ size_r (table_of log₀ logtags₀ starts₀ e₀.counts 7)
  entries q =
      rw ((A.along q).entries_same.0, (A.along q).entries_same.1)
      (ap size_r (table_stays log₀ logtags₀ log logtags starts₀ maps₀ buckets₀ buckets e₀ K₀ A.below A.log_long A.tags_long A.marks_stay 7 (omega arith)))

  -- some words were written
  many : (q : e.full ≡ false) (special : List ℕ) → e₀.bodytop + length (g (m₀ special)) ≡ e.bodytop
  many q special =
      let s = (A.under q).stacks_are in
      let h = s.high' in
      let l = s.rows 3 (omega arith) in
      let b = (A.along q).bt_more in
      let n = length-slice e₀.bodytop e.bodytop (row stacks 3) (omega arith) in
      let m = ap length (A.wrote q special) in
      omega arith

  module _ (f' : Builder → Builder) (g' : Builder → List ℕ) {F : Builder → Builder} {G : Builder → List ℕ} (is_f : (m : Builder) → F m ≡ f' (f m)) (isG : (m : Builder) → G m ≡ g m ++ g' (f m)) where
    pub runs_then : e.full ≡ false → {r : Sizes} {log' logtags' : List ℕ} {starts' maps' : List (List ℕ)} {buckets' exprmap' : List ℕ} {stacks' : List (List ℕ)}
        → Runs words k f' g' log logtags starts maps buckets exprmap stacks e₁ e r log' logtags' starts' maps' buckets' exprmap' stacks'
        → Runs words k F G log₀ logtags₀ starts₀ maps₀ buckets₀ exprmap₀ stacks₀ e₁ e₀ r log' logtags' starts' maps' buckets' exprmap' stacks'
    runs_then q {r} {stacks' = stacks'} B = record {
      over = λ z special. rw (is_f (m₀ special), isG (m₀ special)) (rw (← A.is q special) at (over_wide special (B.over z special)));
      is = λ z special. is_f (m₀ special) ∙ ap f' (A.is q special) ∙ B.is z special;
      wrote = wrote;
      kept = B.kept;
      under = B.under;
      along = λ z. along_then (A.along q) (B.along z);
      more = λ z. le_trans (A.more q) (B.more z);
      deep = λ z. deep_then (A.along q).bt_more (A.deep q) (B.deep z);
      below = same_then e₀.loglen e.loglen log₀ logtags₀ log logtags _ _ (A.more q) A.below B.below;
      log_long = B.log_long;
      tags_long = B.tags_long;
      marks_stay = marks_then buckets₀ buckets _ A.marks_stay B.marks_stay;
    }
      where
        m : List ℕ → Builder
        m special = making_of words k log logtags starts maps special e exprmap stacks e₁

        over_wide : (special : List ℕ) → Over (size_r (table_of log logtags starts e.counts 7) + (e₁ + e.bodytop + length (flat_all (f' (m special)).made) + length (g' (m special)))) (f' (m special)).out
            → Over (size_r (table_of log₀ logtags₀ starts₀ e₀.counts 7) + (e₁ + e₀.bodytop + length (flat_all (f' (m special)).made) + length (g (m₀ special) ++ g' (m special)))) (f' (m special)).out
        over_wide special h = let n = many q special in let s = entries q in let l = length-append (g (m₀ special)) (g' (m special)) in over_more _ _ (omega arith) h

        wrote : r.full ≡ false → (special : List ℕ) → slice e₀.bodytop r.bodytop (row stacks' 3) ≡ G (m₀ special)
        wrote z special =
            let s = (B.under z).stacks_are in
            let h = s.high' in
            let l = s.rows 3 (omega arith) in
            let a : slice e₀.bodytop e.bodytop (row stacks' 3) ≡ g (m₀ special) = ap (drop e₀.bodytop) (B.deep z).body ∙ A.wrote q special in
            let b : slice e.bodytop r.bodytop (row stacks' 3) ≡ g' (f (m₀ special)) = B.wrote z special ∙ ap g' (sym (A.is q special)) in
            sym (slice-join e₀.bodytop e.bodytop r.bodytop (row stacks' 3) (A.along q).bt_more (B.along z).bt_more (omega arith)) ∙ rw (a, b) (sym (isG (m₀ special)))

    -- what follows a full one only adds
    pub runs_full : e.full ≡ true → ((m : Builder) → GrowM m (f' m)) → Runs words k F G log₀ logtags₀ starts₀ maps₀ buckets₀ exprmap₀ stacks₀ e₁ e₀ e log logtags starts maps buckets exprmap stacks
    runs_full q grows = record {
      over = λ z special. rw (is_f (m₀ special), isG (m₀ special)) (over_wide special (grows (f (m₀ special))) (A.over q special));
      is = λ z. absurd (false≢true (sym z ∙ q));
      wrote = λ z. absurd (false≢true (sym z ∙ q));
      kept = λ z. absurd (false≢true (sym z ∙ q));
      under = λ z. absurd (false≢true (sym z ∙ q));
      along = λ z. absurd (false≢true (sym z ∙ q));
      more = λ z. absurd (false≢true (sym z ∙ q));
      deep = λ z. absurd (false≢true (sym z ∙ q));
      below = A.below;
      log_long = A.log_long;
      tags_long = A.tags_long;
      marks_stay = A.marks_stay;
    }
      where
        size : ℕ
        size = size_r (table_of log₀ logtags₀ starts₀ e₀.counts 7)

        over_wide : (special : List ℕ) → GrowM (f (m₀ special)) (f' (f (m₀ special))) → Over (size + (e₁ + e₀.bodytop + length (flat_all (f (m₀ special)).made) + length (g (m₀ special)))) (f (m₀ special)).out
            → Over (size + (e₁ + e₀.bodytop + length (flat_all (f' (f (m₀ special))).made) + length (g (m₀ special) ++ g' (f (m₀ special))))) (f' (f (m₀ special))).out
        over_wide special w h =
            let l = length-append (g (m₀ special)) (g' (f (m₀ special))) in
            let n = length (g (m₀ special)) in
            over_more (size + (e₁ + e₀.bodytop) + n + length (flat_all (f' (f (m₀ special))).made)) _ (omega arith) (over_grow_m (size + (e₁ + e₀.bodytop) + n) w (over_more _ (size + (e₁ + e₀.bodytop) + n + length (flat_all (f (m₀ special)).made)) (omega arith) h))

  -- the last one is named otherwise
  pub runs_as : {F : Builder → Builder} {G : Builder → List ℕ} → ((m : Builder) → F m ≡ f m) → ((m : Builder) → G m ≡ g m) → Runs words k F G log₀ logtags₀ starts₀ maps₀ buckets₀ exprmap₀ stacks₀ e₁ e₀ e log logtags starts maps buckets exprmap stacks
  runs_as is_f isG = record {
    over = λ z special. rw (is_f (m₀ special), isG (m₀ special)) (A.over z special);
    is = λ z special. is_f (m₀ special) ∙ A.is z special;
    wrote = λ z special. A.wrote z special ∙ sym (isG (m₀ special));
    kept = A.kept;
    under = A.under;
    along = A.along;
    more = A.more;
    deep = A.deep;
    below = A.below;
    log_long = A.log_long;
    tags_long = A.tags_long;
    marks_stay = A.marks_stay;
  }

-- ---- an operation, and one word
module _ {log₀ logtags₀ : List ℕ} {starts₀ maps₀ : List (List ℕ)} {buckets₀ : List ℕ} {e₀ : Sizes} (K₀ : ValidArrays log₀ logtags₀ starts₀ maps₀ buckets₀ e₀) {words : List ℕ} {k e₁ : ℕ} {exprmap₀ : List ℕ} {stacks₀ : List (List ℕ)} {f : Builder → Builder} {e : Sizes} {log logtags : List ℕ} {starts maps : List (List ℕ)} {buckets exprmap : List ℕ} {stacks : List (List ℕ)}
    (A : Makes words k f log₀ logtags₀ starts₀ maps₀ buckets₀ exprmap₀ stacks₀ e₁ e₀ e log logtags starts maps buckets exprmap stacks) (v : Builder → ℕ) where
  pub runs_put : (q : e.full ≡ false) {w : ℕ} {r : Sizes} {stacks' : List (List ℕ)} → Pushed w stacks e r stacks' → ((special : List ℕ) → w ≡ v (making_of words k log logtags starts maps special e exprmap stacks e₁))
      → Runs words k f (λ m. v (f m) ∷ []) log₀ logtags₀ starts₀ maps₀ buckets₀ exprmap₀ stacks₀ e₁ e₀ r log logtags starts maps buckets exprmap stacks'
  runs_put q P is = runs_then K₀ (runs_of A) (λ m. m) (λ m. v m ∷ []) (λ m. refl) (λ m. refl) q (runs_push (A.under q) P (A.kept q) v is)

  pub runs_stop : e.full ≡ true → Runs words k f (λ m. v (f m) ∷ []) log₀ logtags₀ starts₀ maps₀ buckets₀ exprmap₀ stacks₀ e₁ e₀ e log logtags starts maps buckets exprmap stacks
  runs_stop q = runs_full K₀ (runs_of A) (λ m. m) (λ m. v m ∷ []) (λ m. refl) (λ m. refl) q (λ m. record { out_grows = stay m.out; made_grows = le_refl _ })

-- the number of expressions made is a word
pub made-count : {k : ℕ} {exprmap : List ℕ} {stacks : List (List ℕ)} {e₁ : ℕ} {e : Sizes} → Under k exprmap stacks e₁ e → (words log logtags : List ℕ) (starts maps : List (List ℕ)) (special : List ℕ) → e.made ≡ length (making_of words k log logtags starts maps special e exprmap stacks e₁).made
unfolding making_of
made-count U words log logtags starts maps special = sym (made_many U)

pub made_small : {k : ℕ} {exprmap : List ℕ} {stacks : List (List ℕ)} {e₁ : ℕ} {e : Sizes} → Under k exprmap stacks e₁ e → e.made ≤ 16384
made_small U = let a = made_low U in let b = U.stacks_are.high in omega arith

-- the same, made another way
pub makes_as : {words : List ℕ} {k : ℕ} {f : Builder → Builder} {log₀ logtags₀ : List ℕ} {starts₀ maps₀ : List (List ℕ)} {buckets₀ exprmap₀ : List ℕ} {stacks₀ : List (List ℕ)} {e₁ : ℕ} {e₀ e : Sizes} {log logtags : List ℕ} {starts maps : List (List ℕ)} {buckets exprmap : List ℕ} {stacks : List (List ℕ)}
    → Makes words k f log₀ logtags₀ starts₀ maps₀ buckets₀ exprmap₀ stacks₀ e₁ e₀ e log logtags starts maps buckets exprmap stacks → {F : Builder → Builder} → ((m : Builder) → F m ≡ f m)
    → Makes words k F log₀ logtags₀ starts₀ maps₀ buckets₀ exprmap₀ stacks₀ e₁ e₀ e log logtags starts maps buckets exprmap stacks
makes_as {words} {k} {log₀ = log₀} {logtags₀ = logtags₀} {starts₀ = starts₀} {maps₀ = maps₀} {exprmap₀ = exprmap₀} {stacks₀ = stacks₀} {e₁ = e₁} {e₀ = e₀} A same = record {
  over = λ q special. rw (same (making_of words k log₀ logtags₀ starts₀ maps₀ special e₀ exprmap₀ stacks₀ e₁)) (A.over q special);
  is = λ q special. same (making_of words k log₀ logtags₀ starts₀ maps₀ special e₀ exprmap₀ stacks₀ e₁) ∙ A.is q special;
  kept = A.kept;
  under = A.under;
  aside = A.aside;
  more = A.more;
  stays = A.stays;
  below = A.below;
  log_long = A.log_long;
  tags_long = A.tags_long;
  marks_stay = A.marks_stay;
}

-- nothing is done
pub makes-idle : {log logtags : List ℕ} {starts maps : List (List ℕ)} {buckets : List ℕ} {e : Sizes} {k : ℕ} {exprmap : List ℕ} {stacks : List (List ℕ)} {e₁ : ℕ} → ValidArrays log logtags starts maps buckets e → Under k exprmap stacks e₁ e → e.full ≡ false
    → {words : List ℕ} {f : Builder → Builder} → ((m : Builder) → f m ≡ m) → Makes words k f log logtags starts maps buckets exprmap stacks e₁ e e log logtags starts maps buckets exprmap stacks
makes-idle {log} {logtags} {starts} {maps} {buckets} {e} {k} {exprmap} {stacks} {e₁} K U nf {words} {f} idle = makes_none words k e₁ log logtags starts maps buckets exprmap stacks e K U nf f (λ special. idle _)
