-- A run of words that import nothing, as turns of a loop: each word is one turn that leaves the builder as it is, and so are all of them.
use mathlib.Core.Path.{◌≡◌, refl, sym, ap, ◌∙◌}
use mathlib.Core.Bool.{Bool, true, false, false≢true}
use mathlib.Core.List.{List, [], ◌∷◌}
use Prim.Native.Nat.{ℕ, zero, suc, ◌+◌, ◌≤◌, ◌<◌}
use native.Mathlib.Nat.{le_refl}
use native.Mathlib.Omega.{arith}
use lib.Dec.{eqb, ltb}
use lib.ListN.{get_or}
use borrow.Author.Tests.{eqb-true, eqb-false, ltb-true, ltb-false}
use Rattle.model.specs.Outcome.{Cells}
use Rattle.model.specs.Table.{EXPR, TO, STMT_KIND}
use Rattle.model.specs.Between.{between}
use Rattle.model.specs.References.{Place, table, own, function, Target, copied, start, upto, ref, opt, targets, target, ref_of, refs, carry_w, through, moved}
use Rattle.model.specs.Bodies.{Builder}
use Rattle.theory_records.specs.RecordLaws.{All, all_map}
use Rattle.theory_passes.specs.Pass.{arrive, passed, word_of}
use Rattle.theory_passes.proofs.Cases.{early-other}
use Rattle.theory_passes.specs.Light.{still}
use Rattle.derive_state.specs.Refers.{target_of, tab_of}
use Rattle.derive_state.specs.Source.{mod_of, src_of, Source, refers_to, number_of}
use Rattle.derive_state.specs.Held.{put, st_of, ValidArrays, ImportEnsures}
use Rattle.derive_state.specs.Sizes.{Sizes}
use Rattle.derive_imports.proofs.Turns.{turn-known}
use Rattle.function_references.specs.Fits.{FitN, Legible, record_of}
use Rattle.function_references.specs.Cuts.{Expressions}
use Rattle.function_outside.proofs.Cells.{fit_own, fit-table}
use Rattle.function_outside.proofs.Records.{lands_record, lands_none}
use Rattle.function_builder.specs.Stacks.{went_by, went_of, Under}
use Rattle.function_builder.specs.Makes.{Makes, Pushed}
use Rattle.function_builder.proofs.Carries.{through-by}
use Rattle.function_builder.proofs.Stack.{fit-more}
use Rattle.function_expressions.proofs.Needs.{need-idle, unique_idle}
use Rattle.function_runs.specs.Copied.{Quiet, becomes, flag_of, flagged, ran, Ran}
use Rattle.function_words.specs.Runs.{unites, needs, Runs}
use Rattle.function_words.proofs.Running.{makes-idle}
use Rattle.function_words.proofs.Words.{brings_record, brings_nothing, brings_expression}
use Rattle.function_words.proofs.Body.{pass-to, kind-put, plain-put}
use Rattle.function_runs.proofs.Quiets.{becomes-made, becomes-other}

-- ---- the sizes with d words more
abbrev pub long : Sizes → ℕ → Sizes
long e d = record { full = false; loglen = e.loglen; counts = e.counts; pairs = e.pairs; exprtop = e.exprtop; bodytop = e.bodytop + d; made = e.made }

pub long_none : (e : Sizes) → e.full ≡ false → e ≡ long e 0
long_none e nf = let z : e.bodytop + 0 ≡ e.bodytop = omega arith in rw (z, ← nf)

-- ---- from turn to turn
module _ (words tags : List ℕ) (maps : List (List ℕ)) (exprmap : List ℕ) (W : Place → ℕ → ℕ) (made o end bodytop : ℕ) (I : ℕ → List (List ℕ) → ℕ → Bool → Type 0)
    (turn : (x : ℕ) (stacks : List (List ℕ)) (i : ℕ) (u : Bool) → I x stacks i u → i < end → bodytop + x < 16384 → Quiet maps exprmap (get_or tags i 0) (get_or words i 0) → I (suc x) (put stacks 3 (bodytop + x) (becomes W made o (get_or tags i 0) (get_or words i 0) (flag_of words tags end i u))) (suc i) (flag_of words tags end i u)) where
  turns : (d x : ℕ) (stacks : List (List ℕ)) (i : ℕ) (u : Bool) → I x stacks i u → i + d ≤ end → bodytop + (x + d) ≤ 16384 → ((j : ℕ) → i ≤ j → j < i + d → Quiet maps exprmap (get_or tags j 0) (get_or words j 0)) → I (x + d) (ran words tags W made o end d i (bodytop + x) u stacks) (i + d) (flagged words tags end d i u)
  unfolding ran flagged
  turns zero x stacks i u h l m q = let a : x + 0 ≡ x = omega arith in let b : i + 0 ≡ i = omega arith in rw (a, b) h
  turns (suc d) x stacks i u h l m q =
      let a : x + suc d ≡ suc x + d = omega arith in
      let b : i + suc d ≡ suc i + d = omega arith in
      let c : suc (bodytop + x) ≡ bodytop + suc x = omega arith in
      let k = turn x stacks i u h (omega arith) (omega arith) (q i (le_refl i) (omega arith)) in
      rw (a, b, c) (turns d (suc x) _ (suc i) _ k (omega arith) (omega arith) (λ j f g. q j (omega arith) (omega arith)))

  pub run-turns : {at : ℕ} {u : Bool} {stacks₀ : List (List ℕ)} {r : ℕ} {v : Bool} {stacks : List (List ℕ)} (R : Ran words tags maps exprmap W made o at end bodytop u stacks₀ r v stacks) → I 0 stacks₀ at u → I R.count stacks r v
  run-turns {at} {u} {stacks₀} R h =
      let a : 0 + R.count ≡ R.count = omega arith in
      let b : bodytop + 0 ≡ bodytop = omega arith in
      let l = R.high in
      let k = R.reach in
      let m = R.room in
      rw (R.is, R.flag, k) (rw (a, b) at (turns R.count 0 stacks₀ at u h (omega arith) (omega arith) (λ j f g. R.quiet j f (omega arith))))

-- ---- a word that imports nothing
through_same : (W X : Place → ℕ → ℕ) → ((p : Place) (j : ℕ) → W p j ≡ X p j) → (s w : ℕ) → through W s w ≡ through X s w
unfolding through carry_w
through_same W X e s w = go (target s) w
  where
    go : (g : Target) (w : ℕ) → carry_w W g w ≡ carry_w X g w
    go copied w = refl
    go start w = refl
    go upto w = refl
    go (ref p) w = rw (e p w)
    go (opt p) zero = refl
    go (opt p) (suc n) = e p n

-- words on the stack change nothing of what numbers are mapped to
pub through_long : (words : List ℕ) (n : ℕ) (log logtags : List ℕ) (starts maps : List (List ℕ)) (e : Sizes) (exprmap : List ℕ) (d s w : ℕ) → through (went_of words n log logtags starts maps (long e d) exprmap) s w ≡ through (went_of words n log logtags starts maps e exprmap) s w
unfolding went_of st_of
through_long words n log logtags starts maps e exprmap d s w = through_same _ _ go s w
  where
    go : (p : Place) (j : ℕ) → went_of words n log logtags starts maps (long e d) exprmap p j ≡ went_of words n log logtags starts maps e exprmap p j
    go (table t) j = refl
    go own j = refl
    go function j = refl

pub becomes_long : (words : List ℕ) (n : ℕ) (log logtags : List ℕ) (starts maps : List (List ℕ)) (e : Sizes) (exprmap : List ℕ) (d made o s w : ℕ) (u : Bool) → becomes (went_of words n log logtags starts maps (long e d) exprmap) made o s w u ≡ becomes (went_of words n log logtags starts maps e exprmap) made o s w u
becomes_long words n log logtags starts maps e exprmap d made o s w u = by (eqb s TO) refl
  where
    by : (b : Bool) → eqb s TO ≡ b → becomes (went_of words n log logtags starts maps (long e d) exprmap) made o s w u ≡ becomes (went_of words n log logtags starts maps e exprmap) made o s w u
    by true z = let is = eqb-true s TO z in sym (becomes-made _ made o s w u is) ∙ becomes-made _ made o s w u is
    by false z = let ne = eqb-false s TO z in sym (becomes-other _ made o s w u ne) ∙ ap (λ (x : ℕ). moved (target s) x o u) (through_long words n log logtags starts maps e exprmap d s w) ∙ becomes-other _ made o s w u ne

-- a word that names no function needs no names
pub becomes-by : (words : List ℕ) (n : ℕ) (log logtags : List ℕ) (starts maps : List (List ℕ)) (e : Sizes) (exprmap : List ℕ) (made o s w : ℕ) (u : Bool) → (target_of (target s) ≡ 7 → ⊥) → becomes (went_by maps exprmap) made o s w u ≡ becomes (went_of words n log logtags starts maps e exprmap) made o s w u
becomes-by words n log logtags starts maps e exprmap made o s w u ne = by (eqb s TO) refl
  where
    by : (b : Bool) → eqb s TO ≡ b → becomes (went_by maps exprmap) made o s w u ≡ becomes (went_of words n log logtags starts maps e exprmap) made o s w u
    by true z = let is = eqb-true s TO z in sym (becomes-made _ made o s w u is) ∙ becomes-made _ made o s w u is
    by false z = let nt = eqb-false s TO z in sym (becomes-other _ made o s w u nt) ∙ ap (λ (x : ℕ). moved (target s) x o u) (through-by words n log logtags starts maps e exprmap s w ne) ∙ becomes-other _ made o s w u nt

-- numbers in a function's range are in the greatest
pub legible_all : {words tags : List ℕ} {k i end : ℕ} → k ≤ 1024 → Legible words tags k i end → Legible words tags 1024 i end
legible_all {words} {tags} {k} {i} {end} l L = record { stretch = L.stretch; words_long = L.words_long; tags_long = L.tags_long; fits = all_map (refs (between tags words i end)) (fit-more words k 1024 l) L.fits }

-- an import of expressions that leaves those that are mapped
pub record Idle (words : List ℕ) (k : ℕ) (p : ℕ → Builder → Builder) : Type 0 where
  pub idle : {log logtags : List ℕ} {starts maps : List (List ℕ)} {buckets exprmap : List ℕ} {stacks : List (List ℕ)} {e₁ : ℕ} {e : Sizes} → ValidArrays log logtags starts maps buckets e → Under k exprmap stacks e₁ e → e.full ≡ false → (x : ℕ) → x < k → (get_or exprmap x 0 ≡ 0 → ⊥)
      → Makes words k (p x) log logtags starts maps buckets exprmap stacks e₁ e e log logtags starts maps buckets exprmap stacks

module _ {words tags places : List ℕ} {k : ℕ} (X : Expressions words tags places k) (n o : ℕ) where
  pub needs-idle : Idle words k (needs o words tags n places k)
  needs-idle = record { idle = λ K U nf x h ne. need-idle X n o nf K U h ne }

  pub unites-idle : Idle words k (unites o words tags n places k)
  unites-idle = record { idle = λ K U nf x h ne. unique_idle X n o nf K U h ne }

-- what it refers to has come
module _ {words tags : List ℕ} {n : ℕ} (src : Source words tags n) {k : ℕ} (o : ℕ) (p q : ℕ → Builder → Builder) (I : Idle words k p) (s w : ℕ) (fits : All (FitN words k) (ref_of (target s) w []))
    {log logtags : List ℕ} {starts maps : List (List ℕ)} {buckets exprmap : List ℕ} {stacks : List (List ℕ)} {e₁ : ℕ} {e : Sizes} (K : ValidArrays log logtags starts maps buckets e) (U : Under k exprmap stacks e₁ e) (nf : e.full ≡ false) (Q : Quiet maps exprmap s w) where
  abbrev t : ℕ
  t = refers_to (target s) w

  abbrev h : ℕ
  h = number_of (target s) w

  pub quiet_arrives : Makes words k (arrive o (mod_of words n) still p q (target s) w) log logtags starts maps buckets exprmap stacks e₁ e e log logtags starts maps buckets exprmap stacks
  quiet_arrives = by (ltb s EXPR) refl
    where
      row : s < EXPR → (b : Bool) → ltb t 6 ≡ b → ImportEnsures words (record_of o (src_of words n) t h) log logtags starts maps buckets e e log logtags starts maps buckets
      row l true z = lands_record o (src_of words n) t h {words = words} (tab_of t) (ltb-true t 6 z) refl (turn-known words tags n src o t h (ltb-true t 6 z) (fit-table words k s w l (ltb-true t 6 z) fits).0 log logtags starts maps buckets e nf K (Q.outside l (ltb-true t 6 z)))
      row l false z = lands_none o (src_of words n) t h words log logtags starts maps buckets e nf K (ltb-false t 6 z)

      own : EXPR ≤ s → (b : Bool) → eqb t 5 ≡ b → Makes words k (arrive o (mod_of words n) still p q (target s) w) log logtags starts maps buckets exprmap stacks e₁ e e log logtags starts maps buckets exprmap stacks
      own l true z = brings_expression words n k o p q s w t h refl refl l (eqb-true t 5 z) refl (I.idle K U nf h (fit_own words k s w l (eqb-true t 5 z) fits) (Q.inside l (eqb-true t 5 z)))
      own l false z = brings_nothing words n k o p q s w t h refl refl K U l (eqb-false t 5 z) nf

      by : (b : Bool) → ltb s EXPR ≡ b → Makes words k (arrive o (mod_of words n) still p q (target s) w) log logtags starts maps buckets exprmap stacks e₁ e e log logtags starts maps buckets exprmap stacks
      by true z = brings_record words n k o p q s w t h refl refl K U (ltb-true s EXPR z) (row (ltb-true s EXPR z) (ltb t 6) refl)
      by false z = own (ltb-false s EXPR z) (eqb t 5) refl

-- ---- it is passed: written as it becomes, and nothing else
becomes-kind : (W : Place → ℕ → ℕ) (made o s w : ℕ) (u : Bool) → s ≡ STMT_KIND → w ≡ becomes W made o s w u
unfolding becomes target targets moved through carry_w
becomes-kind W made o s w u e = rw e

module _ {words tags : List ℕ} {n : ℕ} (src : Source words tags n) {k : ℕ} (o : ℕ) (p q : ℕ → Builder → Builder) (I : Idle words k p) (i end : ℕ) (u : Bool) (fits : All (FitN words k) (ref_of (target (get_or tags i 0)) (get_or words i 0) []))
    {log logtags : List ℕ} {starts maps : List (List ℕ)} {buckets exprmap : List ℕ} {stacks : List (List ℕ)} {e₁ : ℕ} {e : Sizes} (K : ValidArrays log logtags starts maps buckets e) (U : Under k exprmap stacks e₁ e) (nf : e.full ≡ false) (room : e.bodytop < 16384) (Q : Quiet maps exprmap (get_or tags i 0) (get_or words i 0)) where
  abbrev s : ℕ
  s = get_or tags i 0

  abbrev w : ℕ
  w = get_or words i 0

  abbrev cs : Cells
  cs = between tags words (suc i) end

  abbrev W : Place → ℕ → ℕ
  W = went_of words n log logtags starts maps e exprmap

  pushed : (x : ℕ) → Pushed x stacks e (long e 1) (put stacks 3 e.bodytop x)
  pushed x = record { over = λ z. absurd (false≢true z); stays = λ z. absurd (false≢true z); is = λ z. refl; ends = λ z. refl; room = λ z. room }

  pub quiet_runs : Runs words k (passed o (mod_of words n) still p q (s, w) cs) (λ m. word_of o (mod_of words n) still p q (s, w) cs u m ∷ []) log logtags starts maps buckets exprmap stacks e₁ e (long e 1) log logtags starts maps buckets exprmap (put stacks 3 e.bodytop (becomes W e.made o s w u))
  quiet_runs = by (eqb s TO) refl
    where
      plain : (s ≡ TO → ⊥) → (b : Bool) → eqb s STMT_KIND ≡ b → Runs words k (passed o (mod_of words n) still p q (s, w) cs) (λ m. word_of o (mod_of words n) still p q (s, w) cs u m ∷ []) log logtags starts maps buckets exprmap stacks e₁ e (long e 1) log logtags starts maps buckets exprmap (put stacks 3 e.bodytop (becomes W e.made o s w u))
      plain nt true z =
          let is = eqb-true s STMT_KIND z in
          rw (← becomes-kind W e.made o s w u is) (kind-put words tags n k o p q i end u K is (makes-idle K U nf (λ m. early-other o (mod_of words n) still p q w cs m (Q.atomic is))) nf (pushed w))
      plain nt false z = rw (← becomes-other W e.made o s w u nt) (plain-put words tags n k o p q i end u K Q.emit nt (eqb-false s STMT_KIND z) (quiet_arrives src o p q I s w fits K U nf Q) nf fits (pushed (moved (target s) (through W s w) o u)))

      by : (b : Bool) → eqb s TO ≡ b → Runs words k (passed o (mod_of words n) still p q (s, w) cs) (λ m. word_of o (mod_of words n) still p q (s, w) cs u m ∷ []) log logtags starts maps buckets exprmap stacks e₁ e (long e 1) log logtags starts maps buckets exprmap (put stacks 3 e.bodytop (becomes W e.made o s w u))
      by true z = rw (← becomes-made W e.made o s w u (eqb-true s TO z)) (pass-to words tags n k o p q i end u K (eqb-true s TO z) U (pushed e.made))
      by false z = plain (eqb-false s TO z) (eqb s STMT_KIND) refl
