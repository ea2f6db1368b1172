-- One operation on a function under construction after another; after one that is full; an operation on the tables alone; and none.
use mathlib.Core.Path.{◌≡◌, refl, sym, ap, subst, ◌∙◌}
use mathlib.Core.Bool.{Bool, true, false, false≢true}
use mathlib.Core.List.{List}
use Prim.Native.Nat.{ℕ, ◌+◌}
use native.Mathlib.Nat.{le_refl, le_trans}
use native.Mathlib.Omega.{arith}
use lib.ListN.{length}
use Rattle.model.specs.Outcome.{Cells}
use Rattle.model.specs.Tree.{flat_all}
use Rattle.model.specs.Imports.{Derived}
use Rattle.model.specs.Bodies.{Builder, bring}
use Rattle.derive_state.specs.Held.{table_of, size_r, Over, ValidArrays, Beside, ImportEnsures}
use Rattle.derive_state.specs.Sizes.{Sizes}
use Rattle.derive_state.proofs.State.{same_refl, same_then, marks_refl, marks_then, table_stays}
use Rattle.function_builder.specs.Stacks.{made_of, making_of, Stacks, Under}
use Rattle.function_builder.specs.Makes.{Aside, Stays, Makes}
use Rattle.function_builder.proofs.Stack.{made-same, under_same}
use Rattle.function_builder.proofs.Growth.{GrowM, over_more, over_grow_m}

-- ---- what is beside the tables
pub aside_refl : (starts : List (List ℕ)) (e : Sizes) → Aside starts starts e e
aside_refl starts e = record { functions_same = (refl, refl); entries_same = (refl, refl); pairs-same = refl; bt_same = refl; et_more = le_refl _ }

pub aside_then : (a b c : List (List ℕ)) (e f g : Sizes) → Aside a b e f → Aside b c f g → Aside a c e g
aside_then a b c e f g x y = record {
  functions_same = (y.functions_same.0 ∙ x.functions_same.0, y.functions_same.1 ∙ x.functions_same.1);
  entries_same = (y.entries_same.0 ∙ x.entries_same.0, y.entries_same.1 ∙ x.entries_same.1);
  pairs-same = y.pairs-same ∙ x.pairs-same;
  bt_same = y.bt_same ∙ x.bt_same;
  et_more = le_trans x.et_more y.et_more;
}

pub aside_beside : (a b : List (List ℕ)) (e f : Sizes) → Beside a b e f → Aside a b e f
aside_beside a b e f x = record { functions_same = x.functions_same; entries_same = x.entries_same; pairs-same = x.pairs-same; bt_same = x.tops_same.1; et_more = let z = x.tops_same.0 in omega arith }

-- ---- what was on the stacks
pub stays_refl : (low : ℕ) (a : List (List ℕ)) → Stays low a a
stays_refl low a = record { expressions = λ t h. refl; body = refl }

pub stays_then : (low : ℕ) (a b c : List (List ℕ)) → Stays low a b → Stays low b c → Stays low a c
stays_then low a b c x y = record { expressions = λ t h. y.expressions t h ∙ x.expressions t h; body = y.body ∙ x.body }

-- ---- the tops of the stacks have no part in a good state
kept-beside : {log logtags : List ℕ} {starts maps : List (List ℕ)} {buckets : List ℕ} {e : Sizes} → ValidArrays log logtags starts maps buckets e
    → (full : Bool) (exprtop bodytop made : ℕ) → ValidArrays log logtags starts maps buckets (record { full = full; loglen = e.loglen; counts = e.counts; pairs = e.pairs; exprtop = exprtop; bodytop = bodytop; made = made })
kept-beside K full exprtop bodytop made = record {
  room = K.room;
  few = K.few;
  few_functions = K.few_functions;
  few_entries = K.few_entries;
  few_pairs = K.few_pairs;
  log_long = K.log_long;
  tags_long = K.tags_long;
  marks_long = K.marks_long;
  starts_eight = K.starts_eight;
  maps-six = K.maps-six;
  counts_eight = K.counts_eight;
  rows = K.rows;
  rows' = K.rows';
  within = K.within;
  size = K.size;
  flats = K.flats;
  flats' = K.flats';
  named = K.named;
  plain = K.plain;
  apart = K.apart;
  mapped = K.mapped;
  marked = K.marked;
}

pub kept_tops : {log logtags : List ℕ} {starts maps : List (List ℕ)} {buckets : List ℕ} {e : Sizes} → ValidArrays log logtags starts maps buckets e → (r : Sizes) → r.loglen ≡ e.loglen → r.counts ≡ e.counts → r.pairs ≡ e.pairs → ValidArrays log logtags starts maps buckets r
kept_tops {log} {logtags} {starts} {maps} {buckets} {e} K r u c p = subst (λ (x : Sizes). ValidArrays log logtags starts maps buckets x) (sym parts) (kept-beside K r.full r.exprtop r.bodytop r.made)
  where
    parts : r ≡ record { full = r.full; loglen = e.loglen; counts = e.counts; pairs = e.pairs; exprtop = r.exprtop; bodytop = r.bodytop; made = r.made }
    parts i = record { full = r.full; loglen = u i; counts = c i; pairs = p i; exprtop = r.exprtop; bodytop = r.bodytop; made = r.made }

pub making_is : {s s' : Derived} {a b : List ℕ} {x y : List Cells} → s ≡ s' → a ≡ b → x ≡ y → ◌≡◌ {A = Builder} (record { out = s; memo = a; made = x }) (record { out = s'; memo = b; made = y })
making_is p q r i = record { out = p i; memo = q i; made = r i }

-- ---- from an entry
module _ (words : List ℕ) (k e₁ : ℕ) (log₀ logtags₀ : List ℕ) (starts₀ maps₀ : List (List ℕ)) (buckets₀ exprmap₀ : List ℕ) (stacks₀ : List (List ℕ)) (e₀ : Sizes) (K₀ : ValidArrays log₀ logtags₀ starts₀ maps₀ buckets₀ e₀) where
  abbrev m₀ : List ℕ → Builder
  m₀ special = making_of words k log₀ logtags₀ starts₀ maps₀ special e₀ exprmap₀ stacks₀ e₁

  module _ (f : Builder → Builder) (e : Sizes) (log logtags : List ℕ) (starts maps : List (List ℕ)) (buckets exprmap : List ℕ) (stacks : List (List ℕ)) (A : Makes words k f log₀ logtags₀ starts₀ maps₀ buckets₀ exprmap₀ stacks₀ e₁ e₀ e log logtags starts maps buckets exprmap stacks)
      (g F : Builder → Builder) (is : (special : List ℕ) → F (m₀ special) ≡ g (f (m₀ special))) where
    -- the words of entry points are as they were
    entries : e.full ≡ false → size_r (table_of log logtags starts e.counts 7) ≡ size_r (table_of log₀ logtags₀ starts₀ e₀.counts 7)
    entries q =
        rw ((A.aside q).entries_same.0, (A.aside q).entries_same.1)
        (ap size_r (table_stays log₀ logtags₀ log logtags starts₀ maps₀ buckets₀ buckets e₀ K₀ A.below A.log_long A.tags_long A.marks_stay 7 (omega arith)))

    pub makes_then : e.full ≡ false → (r : Sizes) (log' logtags' : List ℕ) (starts' maps' : List (List ℕ)) (buckets' exprmap' : List ℕ) (stacks' : List (List ℕ))
        → Makes words k g log logtags starts maps buckets exprmap stacks e₁ e r log' logtags' starts' maps' buckets' exprmap' stacks'
        → Makes words k F log₀ logtags₀ starts₀ maps₀ buckets₀ exprmap₀ stacks₀ e₁ e₀ r log' logtags' starts' maps' buckets' exprmap' stacks'
    makes_then q r log' logtags' starts' maps' buckets' exprmap' stacks' B = record {
      over = λ z special. rw (is special, A.is q special, ← entries q, ← (A.aside q).bt_same) (B.over z special);
      is = λ z special. is special ∙ ap g (A.is q special) ∙ B.is z special;
      kept = B.kept;
      under = B.under;
      aside = λ z. aside_then starts₀ starts starts' e₀ e r (A.aside q) (B.aside z);
      more = λ z. le_trans (A.more q) (B.more z);
      stays = λ z. stays_then e₁ stacks₀ stacks stacks' (A.stays q) (B.stays z);
      below = same_then e₀.loglen e.loglen log₀ logtags₀ log logtags log' logtags' (A.more q) A.below B.below;
      log_long = B.log_long;
      tags_long = B.tags_long;
      marks_stay = marks_then buckets₀ buckets buckets' A.marks_stay B.marks_stay;
    }

    -- what follows a full one only adds
    pub makes_full : e.full ≡ true → ((m : Builder) → GrowM m (g m)) → Makes words k F log₀ logtags₀ starts₀ maps₀ buckets₀ exprmap₀ stacks₀ e₁ e₀ e log logtags starts maps buckets exprmap stacks
    makes_full q grows = record {
      over = λ z special. rw (is special) (over_wide (f (m₀ special)) (grows (f (m₀ special))) (A.over q special));
      is = λ z. absurd (false≢true (sym z ∙ q));
      kept = λ z. absurd (false≢true (sym z ∙ q));
      under = λ z. absurd (false≢true (sym z ∙ q));
      aside = λ z. absurd (false≢true (sym z ∙ q));
      more = λ z. absurd (false≢true (sym z ∙ q));
      stays = λ z. absurd (false≢true (sym z ∙ q));
      below = A.below;
      log_long = A.log_long;
      tags_long = A.tags_long;
      marks_stay = A.marks_stay;
    }
      where
        size : ℕ
        size = size_r (table_of log₀ logtags₀ starts₀ e₀.counts 7)

        over_wide : (m : Builder) → GrowM m (g m) → Over (size + (e₁ + e₀.bodytop + length (flat_all m.made))) m.out → Over (size + (e₁ + e₀.bodytop + length (flat_all (g m).made))) (g m).out
        over_wide m w h = over_more (size + (e₁ + e₀.bodytop) + length (flat_all (g m).made)) _ (omega arith) (over_grow_m (size + (e₁ + e₀.bodytop)) w (over_more _ (size + (e₁ + e₀.bodytop) + length (flat_all m.made)) (omega arith) h))

  -- ---- nothing, or the tables alone
  module _ (U₀ : Under k exprmap₀ stacks₀ e₁ e₀) where
    pub makes_none : e₀.full ≡ false → (f : Builder → Builder) → ((special : List ℕ) → f (m₀ special) ≡ m₀ special) → Makes words k f log₀ logtags₀ starts₀ maps₀ buckets₀ exprmap₀ stacks₀ e₁ e₀ e₀ log₀ logtags₀ starts₀ maps₀ buckets₀ exprmap₀ stacks₀
    makes_none nf f idle = record {
      over = λ q. absurd (false≢true (sym nf ∙ q));
      is = λ q special. idle special;
      kept = λ q. K₀;
      under = λ q. U₀;
      aside = λ q. aside_refl starts₀ e₀;
      more = λ q. le_refl _;
      stays = λ q. stays_refl e₁ stacks₀;
      below = same_refl e₀.loglen log₀ logtags₀;
      log_long = K₀.log_long;
      tags_long = K₀.tags_long;
      marks_stay = marks_refl buckets₀ K₀.marks_long;
    }

    pub makes_lift : (f : Derived → Derived) (r : Sizes) (log logtags : List ℕ) (starts maps : List (List ℕ)) (buckets : List ℕ) → ImportEnsures words f log₀ logtags₀ starts₀ maps₀ buckets₀ e₀ r log logtags starts maps buckets
        → Makes words k (bring f) log₀ logtags₀ starts₀ maps₀ buckets₀ exprmap₀ stacks₀ e₁ e₀ r log logtags starts maps buckets exprmap₀ stacks₀
    unfolding bring making_of
    makes_lift f r log logtags starts maps buckets L = record {
      over = λ q special. over_more _ _ (omega arith) (L.over q special);
      is = λ q special. making_is (L.is q special) refl (sym (made q));
      kept = L.kept;
      under = λ q. under_same U₀ stacks₀ r (λ t h. refl) (L.beside q).tops_same.0 (L.beside q).tops_same.2 (tops q);
      aside = λ q. aside_beside starts₀ starts e₀ r (L.beside q);
      more = L.more;
      stays = λ q. stays_refl e₁ stacks₀;
      below = L.below;
      log_long = L.log_long;
      tags_long = L.tags_long;
      marks_stay = L.marks_stay;
    }
      where
        made : r.full ≡ false → made_of stacks₀ e₁ r ≡ made_of stacks₀ e₁ e₀
        made q = made-same U₀ stacks₀ r (λ t h. refl) (L.beside q).tops_same.0 (L.beside q).tops_same.2

        tops : r.full ≡ false → Stacks stacks₀ r
        tops q = let s = U₀.stacks_are in record { four = s.four; rows = s.rows; high = rw (L.beside q).tops_same.0 s.high; high' = rw (L.beside q).tops_same.1 s.high' }
