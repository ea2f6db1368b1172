-- A Loop, and the statements by kind.
use mathlib.Core.Path.{◌≡◌, refl, sym, ap, ◌∙◌, subst}
use mathlib.Core.Bool.{Bool, true, false, ◌&&◌, ◌||◌}
use mathlib.Core.List.{List, [], ◌∷◌, ◌++◌, map}
use mathlib.Core.Option.{Option, none, some}
use Prim.Native.Nat.{ℕ, suc, ◌+◌, ◌≤◌, ◌<◌}
use native.Mathlib.Omega.{arith}
use lib.ListN.{length, get_or, length-append}
use borrow.Author.Tests.{ne_eqb}
use Rattle.theory_lists.specs.Booleans.{and_split, and_right}
use Rattle.model.specs.Outcome.{Cells}
use Rattle.model.specs.Table.{EXPR, OPT_EXPR, OPT_RESULT, CALLEE, FROM, TO}
use Rattle.model.specs.Tree.{Stmt, stmt, Form, emit, block, branch, switch, loop, break, continue, return, kill, call, effect, Block, end, ◌then◌, Case, case, Cases, nomore, ◌also◌, Range, opt_of, word_of, kind_of, flat_f, flat_x, flat_block, DEPTH}
use Rattle.model.specs.Carry.{OkF, ok_loop}
use Rattle.model.specs.Operands.{optional, operand, ops_of, result_of, standing}
use Rattle.model.specs.Scope.{Place, XBlock, in_switch, in_loop, in_continuing, in_range, expand_s, expand_f, expand, expand_k, expand_c, effect_result, evals_opt, evals_s, evals_f, evals_b, add_e, add_opt, add_s, add_f, top_b, holds_s, holds_f, holds_b, holds_k, holds_c, cont_b, vis, all_vis, opt_vis}
use Rattle.theory_image.specs.Words.{opt_of_lem}
use Rattle.intake_statements.specs.Fine.{keep_all, done_b, done_s, done_k, fresh, fine_s, fine_f, fine_b, fine_k, fine_c}
use Rattle.intake_statements.specs.Tape.{cells_in, stmt_of, HoldsB, HoldsS, exprs_of, Steps, stepped, marks}
use Rattle.intake_statements.specs.Lasts.{Scope, Kept, visible_at, all_seen, fits_result, range_of, FoundR, FoundL}
use Rattle.std.specs.Prelude.{Some, None}
use Rattle.std.specs.declared.option.Option as code
use Rattle.intake_blocks.specs.declared.Flow.{Flow}
use Rattle.intake_blocks.specs.declared.Flow.TheVariants.{Continues}
use Rattle.std.specs.Bool.{then_some}
use Rattle.intake_blocks.specs.Found.{flow_of, told, Finds, place_of, StmtHere, BlockHere, FindsS, FindsB, FoundS, FoundB}
use Rattle.intake_statements.proofs.Restated.{add_e-append, live_all}
use Rattle.intake_statements.proofs.Leaves.{operand-optional}
use Rattle.intake_statements.proofs.Scopes.{absurd_bool, seen_is, scope_on, scope_less, kept-all, kept_more, kept_then}
use Rattle.intake_blocks.proofs.Trees.{Runs, runs_word, runs_split, between_runs, block_is, block_held, ends_in, skip_low, skip_ok, skip_is}
use Rattle.intake_blocks.proofs.Blocks.{told_yes, told_no, finds-none, leave}
use Rattle.intake_blocks.proofs.Inner.{effect_kind, Header, header}

-- ---- where no Continue is allowed there is none
module _ (xs : List Cells) (dr : ℕ → Bool) where
  mutual
    unfolding fine_s fine_f fine_b fine_k fine_c holds_s holds_f holds_b holds_k holds_c expand_s expand_f expand expand_k expand_c

    none_s : (s : Stmt Range) (p : Place) (ρ δ : List ℕ) → p.continues ≡ false → fine_s xs dr s p ρ δ ≡ true → holds_s (expand_s s dr) ≡ false
    none_s (stmt a b f) p ρ δ c h = none-f f p ρ δ c h

    none-f : (f : Form Range) (p : Place) (ρ δ : List ℕ) → p.continues ≡ false → fine_f xs dr f p ρ δ ≡ true → holds_f (expand_f f dr) ≡ false
    none-f (emit r) p ρ δ c h = refl
    none-f (block b) p ρ δ c h = none-b b p ρ δ c h
    none-f (branch e a b) p ρ δ c h =
        let q = and_split (fine_b xs dr a p ρ δ) (fine_b xs dr b p ρ (done_b a δ)) (and_split (vis (standing xs) ρ e) _ h).1 in
        rw (none-b a p ρ δ c q.0, none-b b p ρ (done_b a δ) c q.1)
    none-f (switch e ks) p ρ δ c h = none-c ks (in_switch p) ρ δ c (and_split (vis (standing xs) ρ e) _ h).1
    none-f (loop a b x) p ρ δ c h = refl
    none-f break p ρ δ c h = refl
    none-f continue p ρ δ c h = absurd_bool h c
    none-f (return x) p ρ δ c h = refl
    none-f kill p ρ δ c h = refl
    none-f (call f ys r) p ρ δ c h = refl
    none-f (effect k cs) p ρ δ c h = refl

    pub none-b : (b : Block Range) (p : Place) (ρ δ : List ℕ) → p.continues ≡ false → fine_b xs dr b p ρ δ ≡ true → holds_b (expand b dr) ≡ false
    none-b end p ρ δ c h = refl
    none-b (s then b) p ρ δ c h =
        let q = and_split (fine_s xs dr s p ρ δ) (fine_b xs dr b p (add_s (expand_s s dr) ρ) (done_s s δ)) h in
        rw (none_s s p ρ δ c q.0, none-b b p (add_s (expand_s s dr) ρ) (done_s s δ) c q.1)

    none-k : (k : Case Range) (p : Place) (ρ δ : List ℕ) → p.continues ≡ false → fine_k xs dr k p ρ δ ≡ true → holds_k (expand_k k dr) ≡ false
    none-k (case v b f) p ρ δ c h = none-b b p ρ δ c h

    none-c : (ks : Cases Range) (p : Place) (ρ δ : List ℕ) → p.continues ≡ false → fine_c xs dr ks p ρ δ ≡ true → holds_c (expand_c ks dr) ≡ false
    none-c nomore p ρ δ c h = refl
    none-c (k also ks) p ρ δ c h =
        let q = and_split (fine_k xs dr k p ρ δ) (fine_c xs dr ks p ρ (done_k k δ)) h in
        rw (none-k k p ρ δ c q.0, none-c ks p ρ (done_k k δ) c q.1)

or_split : (a b : Bool) → (a || b) ≡ false → (a ≡ false) × (b ≡ false)
or_split true b h = absurd_bool refl h
or_split false b h = (refl, h)

cont_top : (b : XBlock) (ρ : List ℕ) → holds_b b ≡ false → cont_b b ρ ≡ top_b b ρ
unfolding holds_b cont_b top_b
cont_top end ρ h = refl
cont_top (s then b) ρ h =
    let q = or_split (holds_s s) (holds_b b) h in
    rw (cont_b, q.0) (cont_top b (add_s s ρ) q.1)

-- ---- a Loop
record Looped (ws ts : List ℕ) (at stop : ℕ) (s : Stmt Range) : Type 0 where
  pub c : ℕ
  pub e : ℕ
  pub a : Block Range
  pub b : Block Range
  pub o : Option ℕ
  pub is : s ≡ stmt c e (loop a b o)
  pub holds-a : HoldsB ws ts (at + 4) (at + 4 + length (flat_block a)) a
  pub holds-b : HoldsB ws ts (at + 4 + length (flat_block a)) (at + 4 + length (flat_block a) + length (flat_block b)) b
  pub tag : get_or ts (at + 4 + length (flat_block a) + length (flat_block b)) 0 ≡ OPT_EXPR
  pub word : get_or ws (at + 4 + length (flat_block a) + length (flat_block b)) 0 ≡ word_of o
  pub long : at + 4 + length (flat_block a) + length (flat_block b) + 1 ≡ stop

loop_of : (ws ts : List ℕ) (at stop : ℕ) (s : Stmt Range) (f : Form Range) (c e : ℕ) → s ≡ stmt c e f → kind_of f ≡ 4 → Runs ws ts (at + 4) (flat_f f) → at + 4 + length (flat_f f) ≡ stop → stop ≤ 16384 → OkF DEPTH f → Looped ws ts at stop s
unfolding kind_of flat_f flat_block
loop_of ws ts at stop s (emit x) c e is k r l h o = absurd (omega arith)
loop_of ws ts at stop s (block x) c e is k r l h o = absurd (omega arith)
loop_of ws ts at stop s (branch x y z) c e is k r l h o = absurd (omega arith)
loop_of ws ts at stop s (switch x y) c e is k r l h o = absurd (omega arith)
loop_of ws ts at stop s (loop a b x) c e is k r l h (ok_loop oa ob) =
    let n₁ = length-append (flat_block a ++ flat_block b) ((OPT_EXPR, word_of x) ∷ []) in
    let n₂ = length-append (flat_block a) (flat_block b) in
    let r₁ = runs_split ws ts (flat_block a ++ flat_block b) ((OPT_EXPR, word_of x) ∷ []) (at + 4) r in
    let r₂ = runs_split ws ts (flat_block a) (flat_block b) (at + 4) r₁.0 in
    let q : at + 4 + length (flat_block a ++ flat_block b) ≡ at + 4 + length (flat_block a) + length (flat_block b) = omega arith in
    let w = runs_word ws ts (at + 4 + length (flat_block a) + length (flat_block b)) (OPT_EXPR, word_of x) [] (rw q at r₁.1) in
    record {
      c = c;
      e = e;
      a = a;
      b = b;
      o = x;
      is = is;
      holds-a = record { cells = between_runs ws ts (at + 4) (at + 4 + length (flat_block a)) (flat_block a) r₂.0 refl; long = refl; within = omega arith; ok = oa };
      holds-b = record { cells = between_runs ws ts (at + 4 + length (flat_block a)) (at + 4 + length (flat_block a) + length (flat_block b)) (flat_block b) r₂.1 refl; long = refl; within = omega arith; ok = ob };
      tag = w.0;
      word = w.1.0;
      long = omega arith;
    }
loop_of ws ts at stop s break c e is k r l h o = absurd (omega arith)
loop_of ws ts at stop s continue c e is k r l h o = absurd (omega arith)
loop_of ws ts at stop s (return x) c e is k r l h o = absurd (omega arith)
loop_of ws ts at stop s kill c e is k r l h o = absurd (omega arith)
loop_of ws ts at stop s (call x y z) c e is k r l h o = absurd (omega arith)
loop_of ws ts at stop s (effect x y) c e is k r l h o = absurd (omega (arith, (effect_kind o).0))

looped : (ws ts : List ℕ) (at stop : ℕ) (s : Stmt Range) → HoldsS ws ts at stop s → get_or ws (at + 1) 0 ≡ 4 → Looped ws ts at stop s
looped ws ts at stop s h k = let g = header ws ts at stop s h in loop_of ws ts at stop s g.f g.a g.b g.is (sym g.kind ∙ k) g.runs g.long h.within g.ok

-- what is read of an optional number
opt_see : (f : ℕ → Bool) (ρ : List ℕ) (o : Option ℕ) → all_vis f ρ (optional (word_of o) []) ≡ opt_vis f ρ o
unfolding all_vis opt_vis optional word_of
opt_see f ρ none = refl
opt_see f ρ (some e) = and_right (vis f ρ e)

module _ (xs : List Cells) (dr : ℕ → Bool) (a b : Block Range) (o : Option ℕ) (c e : ℕ) (p : Place) (ρ δ : List ℕ) where
  loop_stop : fine_b xs dr a (in_loop p) ρ δ ≡ false → fine_s xs dr (stmt c e (loop a b o)) p ρ δ ≡ false
  unfolding fine_s
  loop_stop h = rw h

  loop_stop₂ : fine_b xs dr a (in_loop p) ρ δ ≡ true → fine_b xs dr b in_continuing (cont_b (expand a dr) ρ) (done_b a δ) ≡ false → fine_s xs dr (stmt c e (loop a b o)) p ρ δ ≡ false
  unfolding fine_s
  loop_stop₂ h k = rw (h, k)

  loop_is : fine_b xs dr a (in_loop p) ρ δ ≡ true → fine_b xs dr b in_continuing (cont_b (expand a dr) ρ) (done_b a δ) ≡ true → fine_s xs dr (stmt c e (loop a b o)) p ρ δ ≡ opt_vis (standing xs) (top_b (expand b dr) (cont_b (expand a dr) ρ)) o
  unfolding fine_s
  loop_is h k = rw (h, k)

  loop_holds : holds_s (expand_s (stmt c e (loop a b o)) dr) ≡ false
  unfolding holds_s expand_s
  loop_holds = refl

  loop_adds : add_s (expand_s (stmt c e (loop a b o)) dr) ρ ≡ ρ
  unfolding add_s add_f expand_s
  loop_adds = refl

  loop_done : done_s (stmt c e (loop a b o)) δ ≡ done_b b (done_b a δ)
  unfolding done_s done_b evals_s expand_s
  loop_done = add_e-append (evals_b (expand a keep_all)) (evals_b (expand b keep_all)) δ

module _ (ws ts st : List ℕ) (ini : List Bool) (u₀ : List ℕ) (count at stop keep : ℕ) (ret : Bool) (here : StmtHere ws ts st count at stop keep) (k : get_or ws (at + 1) 0 ≡ 4) where
  abbrev S : Stmt Range
  S = stmt_of ws ts at stop

  abbrev xs : List Cells
  xs = exprs_of ws ts st count

  abbrev dr : ℕ → Bool
  dr = marks ws ts st count ini

  L : Looped ws ts at stop S
  L = looped ws ts at stop S here.holds k

  pub loop_skip : (at + 4 < 16384) × Steps ws (get_or ws (at + 4) 0) (at + 4 + 1)
  loop_skip = (skip_low ws ts (at + 4) _ L.a L.holds-a, skip_ok ws ts (at + 4) _ L.a L.holds-a)

  module _ (fa : ℕ) (fa-is : fa ≡ stepped (get_or ws (at + 4) 0) ws (at + 4 + 1)) where
    fa_at : fa ≡ at + 4 + length (flat_block L.a)
    fa_at = fa-is ∙ skip_is ws ts (at + 4) _ L.a L.holds-a

    held-a : HoldsB ws ts (at + 4) fa L.a
    held-a = subst (λ x. HoldsB ws ts (at + 4) x L.a) (sym fa_at) L.holds-a

    held-b : HoldsB ws ts fa (fa + length (flat_block L.b)) L.b
    held-b = subst (λ x. HoldsB ws ts x (x + length (flat_block L.b)) L.b) (sym fa_at) L.holds-b

    pub loop_mid : (at + 4 < fa) × (fa < stop)
    unfolding flat_block
    loop_mid = (omega (arith, fa_at), omega (arith, fa_at, L.long))

    pub loop_body : BlockHere ws ts st count (at + 4) fa stop
    loop_body = record {
      exprs = here.exprs;
      holds = block_held ws ts (at + 4) fa L.a held-a;
      ends = ends_in ws ts (at + 4) fa here.ends (omega arith) (omega (arith, loop_mid.1));
      later = omega (arith, here.later);
      keeps = omega (arith, loop_mid.1);
    }

    pub loop_skip₂ : (fa < 16384) × Steps ws (get_or ws fa 0) (fa + 1)
    loop_skip₂ = (skip_low ws ts fa _ L.b held-b, skip_ok ws ts fa _ L.b held-b)

    module _ (u₁ : List ℕ) (r : code.Option Flow) (got : FoundB ws ts st ini count (at + 4) fa stop (place_of true true ret) u₀ u₁ r) where
      finds-a : (ρ δ : List ℕ) → Scope count at keep ρ δ u₀ → FindsB ws ts st ini count (at + 4) fa stop (place_of true true ret) u₀ u₁ r L.a ρ δ
      finds-a ρ δ s = subst (λ x. FindsB ws ts st ini count (at + 4) fa stop (place_of true true ret) u₀ u₁ r x ρ δ) (block_is ws ts (at + 4) fa L.a held-a) (got.found ρ δ (scope_on (at + 4) (omega arith) (scope_less stop here.keeps s)))

      pub loop_wrong : r ≡ None → (b c : Bool) → FoundS ws ts st ini count at stop keep (place_of b c ret) u₀ u₁ None
      loop_wrong z b c = record {
        found = λ ρ δ s. finds-none (rw L.is (loop_stop xs dr L.a L.b L.o L.c L.e (place_of b c ret) ρ δ (told_no (fine_b xs dr L.a (place_of true true ret) ρ δ) (holds_b (expand L.a dr)) r (finds-a ρ δ s).says z)));
      }

      module _ (go-a : Flow) (y : r ≡ Some go-a) (fb : ℕ) (fb-is : fb ≡ stepped (get_or ws fa 0) ws (fa + 1)) where
        fb_at : fb ≡ fa + length (flat_block L.b)
        fb_at = fb-is ∙ skip_is ws ts fa _ L.b held-b

        held-c : HoldsB ws ts fa fb L.b
        held-c = subst (λ x. HoldsB ws ts fa x L.b) (sym fb_at) held-b

        pub loop_late : (fa < fb) × (fb < stop)
        unfolding flat_block
        loop_late = (omega (arith, fb_at), omega (arith, fa_at, fb_at, L.long))

        pub loop_continuing : BlockHere ws ts st count fa fb stop
        loop_continuing = record {
          exprs = here.exprs;
          holds = block_held ws ts fa fb L.b held-c;
          ends = ends_in ws ts fa fb here.ends (omega (arith, loop_mid.0)) (omega (arith, loop_late.1));
          later = omega (arith, here.later, loop_mid.0);
          keeps = omega (arith, loop_late.1);
        }

        fine-a : (ρ δ : List ℕ) → Scope count at keep ρ δ u₀ → fine_b xs dr L.a (place_of true true ret) ρ δ ≡ true
        fine-a ρ δ s = (told_yes (fine_b xs dr L.a (place_of true true ret) ρ δ) (holds_b (expand L.a dr)) r go-a (finds-a ρ δ s).says y).0

        module _ (u₂ : List ℕ) (q : code.Option Flow) (got₂ : FoundB ws ts st ini count fa fb stop (place_of false false false) u₁ u₂ q) where
          finds-b : (ρ δ : List ℕ) → Scope count at keep ρ δ u₀ → FindsB ws ts st ini count fa fb stop (place_of false false false) u₁ u₂ q L.b (cont_b (expand L.a dr) ρ) (done_b L.a δ)
          finds-b ρ δ s =
              subst (λ x. FindsB ws ts st ini count fa fb stop (place_of false false false) u₁ u₂ q x (cont_b (expand L.a dr) ρ) (done_b L.a δ)) (block_is ws ts fa fb L.b held-c)
              (got₂.found (cont_b (expand L.a dr) ρ) (done_b L.a δ) ((finds-a ρ δ s).scope (fine-a ρ δ s)))

          pub loop_wrong₂ : q ≡ None → (b c : Bool) → FoundS ws ts st ini count at stop keep (place_of b c ret) u₀ u₂ None
          loop_wrong₂ z b c = record {
            found = λ ρ δ s. finds-none (rw L.is (loop_stop₂ xs dr L.a L.b L.o L.c L.e (place_of b c ret) ρ δ (fine-a ρ δ s) (told_no (fine_b xs dr L.b (place_of false false false) (cont_b (expand L.a dr) ρ) (done_b L.a δ)) (holds_b (expand L.b dr)) q (finds-b ρ δ s).says z)));
          }

          module _ (go-b : Flow) (x : q ≡ Some go-b) (v : Bool) (v-is : v ≡ all_seen (operand (get_or ts fb 0) (get_or ws fb 0) []) (visible_at ws st u₂ count fb)) (n : code.Option Flow) (n_is : n ≡ told v false) where
            module _ (ρ δ : List ℕ) (s : Scope count at keep ρ δ u₀) where
              fine-b : fine_b xs dr L.b (place_of false false false) (cont_b (expand L.a dr) ρ) (done_b L.a δ) ≡ true
              fine-b = (told_yes (fine_b xs dr L.b (place_of false false false) (cont_b (expand L.a dr) ρ) (done_b L.a δ)) (holds_b (expand L.b dr)) q go-b (finds-b ρ δ s).says x).0

              -- a continuing block has no Continue, so break_if sees all of its top level
              top : cont_b (expand L.b dr) (cont_b (expand L.a dr) ρ) ≡ top_b (expand L.b dr) (cont_b (expand L.a dr) ρ)
              top = cont_top (expand L.b dr) (cont_b (expand L.a dr) ρ) (none-b xs dr L.b (place_of false false false) (cont_b (expand L.a dr) ρ) (done_b L.a δ) refl fine-b)

              at_break : fb ≡ at + 4 + length (flat_block L.a) + length (flat_block L.b)
              at_break = omega (arith, fa_at, fb_at)

              scope_b : Scope count fb stop (top_b (expand L.b dr) (cont_b (expand L.a dr) ρ)) (done_b L.b (done_b L.a δ)) u₂
              scope_b = subst (λ l. Scope count fb stop l (done_b L.b (done_b L.a δ)) u₂) top ((finds-b ρ δ s).scope fine-b)

              v_opt : v ≡ opt_vis (standing xs) (top_b (expand L.b dr) (cont_b (expand L.a dr) ρ)) L.o
              v_opt =
                  v-is
                  ∙ seen_is ws ts st count here.exprs u₂ (top_b (expand L.b dr) (cont_b (expand L.a dr) ρ)) (done_b L.b (done_b L.a δ)) fb stop scope_b loop_late.1 (operand (get_or ts fb 0) (get_or ws fb 0) [])
                  ∙ ap (all_vis (standing xs) (top_b (expand L.b dr) (cont_b (expand L.a dr) ρ))) (operand-optional (get_or ts fb 0) (get_or ws fb 0) [] (ap (λ i. get_or ts i 0) at_break ∙ L.tag) ∙ ap (λ w. optional w []) (ap (λ i. get_or ws i 0) at_break ∙ L.word))
                  ∙ opt_see (standing xs) (top_b (expand L.b dr) (cont_b (expand L.a dr) ρ)) L.o

              kept_ab : Kept stop u₀ u₂
              kept_ab = kept_then ((finds-a ρ δ s).kept (fine-a ρ δ s)) ((finds-b ρ δ s).kept fine-b)

              finish : (b c : Bool) → FindsS ws ts st ini count at stop keep (place_of b c ret) u₀ u₂ n (stmt L.c L.e (loop L.a L.b L.o)) ρ δ
              unfolding holds_s expand_s add_s add_f
              finish b c =
                  let is = loop_is xs dr L.a L.b L.o L.c L.e (place_of b c ret) ρ δ (fine-a ρ δ s) fine-b in
                  record {
                    says = n_is ∙ ap (λ z. told z false) (v_opt ∙ sym is);
                    scope = λ g. subst (λ l. Scope count stop keep ρ l u₂) (sym (loop_done xs dr L.a L.b L.o L.c L.e (place_of b c ret) ρ δ)) (leave stop u₂ (top_b (expand L.b dr) (cont_b (expand L.a dr) ρ)) (done_b L.b (done_b L.a δ)) s (omega (arith, loop_mid)) (omega (arith, here.keeps, loop_mid.1)) kept_ab scope_b);
                    kept = λ g. kept_more keep here.keeps kept_ab;
                  }

            pub loop_end : (b c : Bool) → FoundS ws ts st ini count at stop keep (place_of b c ret) u₀ u₂ n
            loop_end b c = record { found = λ ρ δ s. subst (λ z. FindsS ws ts st ini count at stop keep (place_of b c ret) u₀ u₂ n z ρ δ) (sym L.is) (finish ρ δ s b c) }

-- ---- statements by kind
record Emitted (ws ts : List ℕ) (at stop : ℕ) (s : Stmt Range) : Type 0 where
  pub r : Range
  pub a : ℕ
  pub b : ℕ
  pub is : s ≡ stmt a b (emit r)
  pub from_is : get_or ws (at + 4) 0 ≡ r.from
  pub to_is : get_or ws (at + 5) 0 ≡ r.to
  pub to_tag : get_or ts (at + 5) 0 ≡ TO
  pub long : at + 6 ≡ stop

emit_of : (ws ts : List ℕ) (at stop : ℕ) (s : Stmt Range) (f : Form Range) (c e : ℕ) → s ≡ stmt c e f → kind_of f ≡ 0 → Runs ws ts (at + 4) (flat_f f) → at + 4 + length (flat_f f) ≡ stop → OkF DEPTH f → Emitted ws ts at stop s
unfolding kind_of flat_f
emit_of ws ts at stop s (emit x) c e is k r l o =
    let w₁ = runs_word ws ts (at + 4) (FROM, x.from) ((TO, x.to) ∷ []) r in
    let q : suc (at + 4) ≡ at + 5 = omega arith in
    let w₂ = runs_word ws ts (at + 5) (TO, x.to) [] (rw q at w₁.1.1) in
    record { r = x; a = c; b = e; is = is; from_is = w₁.1.0; to_is = w₂.1.0; to_tag = w₂.0; long = omega arith }
emit_of ws ts at stop s (block x) c e is k r l o = absurd (omega arith)
emit_of ws ts at stop s (branch x y z) c e is k r l o = absurd (omega arith)
emit_of ws ts at stop s (switch x y) c e is k r l o = absurd (omega arith)
emit_of ws ts at stop s (loop x y z) c e is k r l o = absurd (omega arith)
emit_of ws ts at stop s break c e is k r l o = absurd (omega arith)
emit_of ws ts at stop s continue c e is k r l o = absurd (omega arith)
emit_of ws ts at stop s (return x) c e is k r l o = absurd (omega arith)
emit_of ws ts at stop s kill c e is k r l o = absurd (omega arith)
emit_of ws ts at stop s (call x y z) c e is k r l o = absurd (omega arith)
emit_of ws ts at stop s (effect x y) c e is k r l o = absurd (omega (arith, (effect_kind o).0))

module _ (ws ts st : List ℕ) (ini : List Bool) (u₀ : List ℕ) (count at stop keep : ℕ) (here : StmtHere ws ts st count at stop keep) where
  top_of : Header ws ts at stop (stmt_of ws ts at stop)
  top_of = header ws ts at stop (stmt_of ws ts at stop) here.holds

  pub stmt_low : at + 4 ≤ stop
  stmt_low = omega (arith, top_of.long)

  module _ (k : get_or ws (at + 1) 0 ≡ 0) where
    E : Emitted ws ts at stop (stmt_of ws ts at stop)
    E = emit_of ws ts at stop (stmt_of ws ts at stop) top_of.f top_of.a top_of.b top_of.is (sym top_of.kind ∙ k) top_of.runs top_of.long top_of.ok

    pub emit_asks : (at < keep) × ((at + 5 < 16384) × (get_or ws (at + 5) 0 ≤ count))
    emit_asks = (omega (arith, E.long, here.keeps), (omega (arith, E.long, here.holds.within), here.ends.low (at + 5) (omega arith) (omega (arith, E.long)) E.to_tag))

    pub stmt_emit : (p : Place) (u : List ℕ) (v : Bool) → FoundR ws ts st ini count at keep (get_or ws (at + 4) 0) (get_or ws (at + 5) 0) u₀ u v → (n : code.Option Flow) → n ≡ told v false → FoundS ws ts st ini count at stop keep p u₀ u n
    unfolding fine_s holds_s expand_s add_s add_f done_s evals_s
    stmt_emit p u v got n n_is = record { found = λ ρ δ s. subst (λ z. FindsS ws ts st ini count at stop keep p u₀ u n z ρ δ) (sym E.is) (made ρ δ s) }
      where
        range : range_of (get_or ws (at + 4) 0) (get_or ws (at + 5) 0) ≡ in_range E.r
        range = ap (λ x. range_of x (get_or ws (at + 5) 0)) E.from_is ∙ ap (range_of E.r.from) E.to_is

        made : (ρ δ : List ℕ) → Scope count at keep ρ δ u₀ → FindsS ws ts st ini count at stop keep p u₀ u n (stmt E.a E.b (emit E.r)) ρ δ
        made ρ δ s =
            let t = rw range at (got.found ρ δ s) in
            record {
              says = n_is ∙ ap (λ z. told z false) t.says;
              scope = λ g. scope_on {q = at} stop (omega (arith, E.long)) (rw (live_all (in_range E.r)) (t.scope g));
              kept = t.kept;
            }

-- ---- Break, Continue, Switch
is_break : (f : Form Range) → OkF DEPTH f → kind_of f ≡ 5 → f ≡ break
unfolding kind_of
is_break (emit x) o k = absurd (omega arith)
is_break (block x) o k = absurd (omega arith)
is_break (branch x y z) o k = absurd (omega arith)
is_break (switch x y) o k = absurd (omega arith)
is_break (loop x y z) o k = absurd (omega arith)
is_break break o k = refl
is_break continue o k = absurd (omega arith)
is_break (return x) o k = absurd (omega arith)
is_break kill o k = absurd (omega arith)
is_break (call x y z) o k = absurd (omega arith)
is_break (effect x y) o k = absurd (omega (arith, (effect_kind o).0))

is_continue : (f : Form Range) → OkF DEPTH f → kind_of f ≡ 6 → f ≡ continue
unfolding kind_of
is_continue (emit x) o k = absurd (omega arith)
is_continue (block x) o k = absurd (omega arith)
is_continue (branch x y z) o k = absurd (omega arith)
is_continue (switch x y) o k = absurd (omega arith)
is_continue (loop x y z) o k = absurd (omega arith)
is_continue break o k = absurd (omega arith)
is_continue continue o k = refl
is_continue (return x) o k = absurd (omega arith)
is_continue kill o k = absurd (omega arith)
is_continue (call x y z) o k = absurd (omega arith)
is_continue (effect x y) o k = absurd (omega (arith, (effect_kind o).0))

-- a Switch requires nothing of a Break around it
switch_place : (xs : List Cells) (dr : ℕ → Bool) (f : Form Range) (b c r : Bool) (ρ δ : List ℕ) → OkF DEPTH f → kind_of f ≡ 3 → fine_f xs dr f (place_of true c r) ρ δ ≡ fine_f xs dr f (place_of b c r) ρ δ
unfolding kind_of fine_f
switch_place xs dr (emit x) b c r ρ δ o k = absurd (omega arith)
switch_place xs dr (block x) b c r ρ δ o k = absurd (omega arith)
switch_place xs dr (branch x y z) b c r ρ δ o k = absurd (omega arith)
switch_place xs dr (switch x y) b c r ρ δ o k = refl
switch_place xs dr (loop x y z) b c r ρ δ o k = absurd (omega arith)
switch_place xs dr break b c r ρ δ o k = absurd (omega arith)
switch_place xs dr continue b c r ρ δ o k = absurd (omega arith)
switch_place xs dr (return x) b c r ρ δ o k = absurd (omega arith)
switch_place xs dr kill b c r ρ δ o k = absurd (omega arith)
switch_place xs dr (call x y z) b c r ρ δ o k = absurd (omega arith)
switch_place xs dr (effect x y) b c r ρ δ o k = absurd (omega (arith, (effect_kind o).0))

fine-form : (xs : List Cells) (dr : ℕ → Bool) (a b : ℕ) (f : Form Range) (p : Place) (ρ δ : List ℕ) → fine_s xs dr (stmt a b f) p ρ δ ≡ fine_f xs dr f p ρ δ
unfolding fine_s
fine-form _ _ a b f p ρ δ = refl

continue_is : (c : Bool) → then_some c Continues ≡ told c true
unfolding told flow_of
continue_is true = refl
continue_is false = refl

module _ (ws ts st : List ℕ) (ini : List Bool) (u₀ : List ℕ) (count at stop keep : ℕ) (here : StmtHere ws ts st count at stop keep) where
  abbrev T : Header ws ts at stop (stmt_of ws ts at stop)
  T = header ws ts at stop (stmt_of ws ts at stop) here.holds

  on : {ρ δ u : List ℕ} → Scope count at keep ρ δ u → Scope count stop keep ρ δ u
  on s = scope_on stop (omega (arith, T.long)) s

  pub stmt_break : get_or ws (at + 1) 0 ≡ 5 → (b c r : Bool) (n : code.Option Flow) → n ≡ told b false → FoundS ws ts st ini count at stop keep (place_of b c r) u₀ u₀ n
  unfolding fine_s holds_s expand_s add_s add_f done_s evals_s add_e
  stmt_break k b c r n is =
      let e : stmt_of ws ts at stop ≡ stmt T.a T.b break = T.is ∙ ap (stmt T.a T.b) (is_break T.f T.ok (sym T.kind ∙ k)) in
      record { found = λ ρ δ s. subst (λ z. FindsS ws ts st ini count at stop keep (place_of b c r) u₀ u₀ n z ρ δ) (sym e) (record { says = is; scope = λ g. on s; kept = λ g. kept-all keep u₀ }) }

  pub stmt_continue : get_or ws (at + 1) 0 ≡ 6 → (b c r : Bool) → FoundS ws ts st ini count at stop keep (place_of b c r) u₀ u₀ (then_some c Continues)
  unfolding fine_s holds_s expand_s add_s add_f done_s evals_s add_e
  stmt_continue k b c r =
      let e : stmt_of ws ts at stop ≡ stmt T.a T.b continue = T.is ∙ ap (stmt T.a T.b) (is_continue T.f T.ok (sym T.kind ∙ k)) in
      record { found = λ ρ δ s. subst (λ z. FindsS ws ts st ini count at stop keep (place_of b c r) u₀ u₀ (then_some c Continues) z ρ δ) (sym e) (record { says = continue_is c; scope = λ g. on s; kept = λ g. kept-all keep u₀ }) }

  pub stmt_switch : get_or ws (at + 1) 0 ≡ 3 → (b c r : Bool) (u : List ℕ) (n : code.Option Flow) → FoundS ws ts st ini count at stop keep (place_of true c r) u₀ u n → FoundS ws ts st ini count at stop keep (place_of b c r) u₀ u n
  stmt_switch k b c r u n got = record { found = λ ρ δ s. subst (λ z. Finds count stop keep u₀ u n z (holds_s (expand_s (stmt_of ws ts at stop) (marks ws ts st count ini))) (add_s (expand_s (stmt_of ws ts at stop) (marks ws ts st count ini)) ρ) (done_s (stmt_of ws ts at stop) δ)) (same ρ δ) (got.found ρ δ s) }
    where
      same : (ρ δ : List ℕ) → fine_s (exprs_of ws ts st count) (marks ws ts st count ini) (stmt_of ws ts at stop) (place_of true c r) ρ δ ≡ fine_s (exprs_of ws ts st count) (marks ws ts st count ini) (stmt_of ws ts at stop) (place_of b c r) ρ δ
      same ρ δ =
          ap (λ z. fine_s (exprs_of ws ts st count) (marks ws ts st count ini) z (place_of true c r) ρ δ) T.is
          ∙ fine-form (exprs_of ws ts st count) (marks ws ts st count ini) T.a T.b T.f (place_of true c r) ρ δ
          ∙ switch_place (exprs_of ws ts st count) (marks ws ts st count ini) T.f b c r ρ δ T.ok (sym T.kind ∙ k)
          ∙ sym (ap (λ z. fine_s (exprs_of ws ts st count) (marks ws ts st count ini) z (place_of b c r) ρ δ) T.is ∙ fine-form (exprs_of ws ts st count) (marks ws ts st count ini) T.a T.b T.f (place_of b c r) ρ δ)

return_no : (xs : List Cells) (dr : ℕ → Bool) (f : Form Range) (b c r : Bool) (ρ δ : List ℕ) → OkF DEPTH f → kind_of f ≡ 7 → r ≡ false → fine_f xs dr f (place_of b c r) ρ δ ≡ false
unfolding kind_of fine_f
return_no xs dr (emit x) b c r ρ δ o k h = absurd (omega arith)
return_no xs dr (block x) b c r ρ δ o k h = absurd (omega arith)
return_no xs dr (branch x y z) b c r ρ δ o k h = absurd (omega arith)
return_no xs dr (switch x y) b c r ρ δ o k h = absurd (omega arith)
return_no xs dr (loop x y z) b c r ρ δ o k h = absurd (omega arith)
return_no xs dr break b c r ρ δ o k h = absurd (omega arith)
return_no xs dr continue b c r ρ δ o k h = absurd (omega arith)
return_no xs dr (return x) b c r ρ δ o k h = rw h
return_no xs dr kill b c r ρ δ o k h = absurd (omega arith)
return_no xs dr (call x y z) b c r ρ δ o k h = absurd (omega arith)
return_no xs dr (effect x y) b c r ρ δ o k h = absurd (omega (arith, (effect_kind o).0))

-- ---- statements without blocks
call-ops : (ys : List ℕ) (w : ℕ) → ops_of (map (λ x. (EXPR, x)) ys ++ (OPT_RESULT, w) ∷ []) ≡ ys
unfolding ops_of operand
call-ops [] w = refl
call-ops (y ∷ ys) w = ap (y ∷◌) (call-ops ys w)

call_result_lem : (ys : List ℕ) (w : ℕ) → result_of (map (λ x. (EXPR, x)) ys ++ (OPT_RESULT, w) ∷ []) ≡ opt_of w
unfolding result_of
call_result_lem [] w = refl
call_result_lem (y ∷ ys) w = call_result_lem ys w

pub record Simple (xs : List Cells) (dr : ℕ → Bool) (f : Form Range) (w : ℕ) : Type 0 where
  pub fine : (p : Place) (ρ δ : List ℕ) → (kind_of f ≡ 7 → p.returns ≡ true) → fine_f xs dr f p ρ δ ≡ (all_vis (standing xs) ρ (ops_of (flat_f f)) && (fits_result xs (kind_of f) w (result_of (flat_f f)) && fresh (evals_opt (result_of (flat_f f))) δ))
  pub holds : holds_f (expand_f f dr) ≡ false
  pub adds : (ρ : List ℕ) → add_f (expand_f f dr) ρ ≡ add_opt (result_of (flat_f f)) ρ
  pub evals : evals_f (expand_f f keep_all) ≡ evals_opt (result_of (flat_f f))

fits_effect : (xs : List Cells) (j w : ℕ) (o : Option ℕ) → (j ≡ 15 → ⊥) → fits_result xs j w o ≡ effect_result xs j o
unfolding fits_result
fits_effect xs j w o n = rw (fits_result, ne_eqb j 15 n)

simple_of : (xs : List Cells) (dr : ℕ → Bool) (ws ts : List ℕ) (i : ℕ) (f : Form Range) → Runs ws ts i (flat_f f) → OkF DEPTH f → 7 ≤ kind_of f → Simple xs dr f (get_or ws i 0)
unfolding kind_of fine_f holds_f expand_f add_f evals_f flat_f flat_x ops_of operand result_of fresh evals_opt add_opt fits_result effect_result all_vis
simple_of xs dr ws ts i (emit x) r o k = absurd (omega arith)
simple_of xs dr ws ts i (block x) r o k = absurd (omega arith)
simple_of xs dr ws ts i (branch x y z) r o k = absurd (omega arith)
simple_of xs dr ws ts i (switch x y) r o k = absurd (omega arith)
simple_of xs dr ws ts i (loop x y z) r o k = absurd (omega arith)
simple_of xs dr ws ts i break r o k = absurd (omega arith)
simple_of xs dr ws ts i continue r o k = absurd (omega arith)
simple_of xs dr ws ts i (return x) r o k = record {
  fine = λ p ρ δ q. rw (q refl) (sym (opt_see (standing xs) ρ x) ∙ sym (and_right (all_vis (standing xs) ρ (optional (word_of x) []))));
  holds = refl;
  adds = λ ρ. refl;
  evals = refl;
}
simple_of xs dr ws ts i kill r o k = record { fine = λ p ρ δ q. refl; holds = refl; adds = λ ρ. refl; evals = refl }
simple_of xs dr ws ts i (call f ys z) r o k =
    let w = (runs_word ws ts i (CALLEE, f) _ r).1.0 in
    let a = call-ops ys (word_of z) in
    let b : result_of (map (λ x. (EXPR, x)) ys ++ (OPT_RESULT, word_of z) ∷ []) ≡ z = call_result_lem ys (word_of z) ∙ opt_of_lem z in
    record {
      fine = λ p ρ δ q. rw (w, a, b) refl;
      holds = refl;
      adds = λ ρ. rw b;
      evals = rw b;
    }
simple_of xs dr ws ts i (effect j cs) r o k = record {
  fine = λ p ρ δ q. ap (λ z. all_vis (standing xs) ρ (ops_of cs) && (z && fresh (evals_opt (result_of cs)) δ)) (sym (fits_effect xs j (get_or ws i 0) (result_of cs) (effect_kind o).1));
  holds = refl;
  adds = λ ρ. refl;
  evals = refl;
}

module _ (ws ts st : List ℕ) (ini : List Bool) (u₀ : List ℕ) (count at stop keep : ℕ) (here : StmtHere ws ts st count at stop keep) (k : 7 ≤ get_or ws (at + 1) 0) where
  abbrev H : Header ws ts at stop (stmt_of ws ts at stop)
  H = header ws ts at stop (stmt_of ws ts at stop) here.holds

  Z : Simple (exprs_of ws ts st count) (marks ws ts st count ini) H.f (get_or ws (at + 4) 0)
  Z = simple_of (exprs_of ws ts st count) (marks ws ts st count ini) ws ts (at + 4) H.f H.runs H.ok (omega (arith, H.kind))

  fields : cells_in ws ts (at + 4) stop ≡ flat_f H.f
  fields = between_runs ws ts (at + 4) stop (flat_f H.f) H.runs H.long

  pub stmt_simple : (b c r : Bool) (u : List ℕ) (v : Bool) → FoundL ws ts st count at stop keep u₀ u v → (n : code.Option Flow) → n ≡ told v false → (get_or ws (at + 1) 0 ≡ 7 → r ≡ true) → FoundS ws ts st ini count at stop keep (place_of b c r) u₀ u n
  unfolding fine_s holds_s expand_s add_s done_s evals_s
  stmt_simple b c r u v got n n_is q = record { found = λ ρ δ s. subst (λ z. FindsS ws ts st ini count at stop keep (place_of b c r) u₀ u n z ρ δ) (sym H.is) (made ρ δ s) }
    where
      made : (ρ δ : List ℕ) → Scope count at keep ρ δ u₀ → FindsS ws ts st ini count at stop keep (place_of b c r) u₀ u n (stmt H.a H.b H.f) ρ δ
      made ρ δ s =
          let t = rw (fields, H.kind) at (got.found ρ δ s) in
          let e = Z.fine (place_of b c r) ρ δ (λ z. q (H.kind ∙ z)) in
          record {
            says = n_is ∙ ap (λ z. told z false) (t.says ∙ sym e) ∙ ap (told (fine_f (exprs_of ws ts st count) (marks ws ts st count ini) H.f (place_of b c r) ρ δ)) (sym Z.holds);
            scope = λ g. rw (Z.adds ρ, Z.evals) (scope_on {q = at} stop (omega (arith, H.long)) (t.scope (sym e ∙ g)));
            kept = λ g. t.kept (sym e ∙ g);
          }

  pub stmt_no_return : (b c r : Bool) → get_or ws (at + 1) 0 ≡ 7 → r ≡ false → FoundS ws ts st ini count at stop keep (place_of b c r) u₀ u₀ None
  stmt_no_return b c r e h = record {
    found = λ ρ δ s. finds-none (ap (λ z. fine_s (exprs_of ws ts st count) (marks ws ts st count ini) z (place_of b c r) ρ δ) H.is ∙ fine-form (exprs_of ws ts st count) (marks ws ts st count ini) H.a H.b H.f (place_of b c r) ρ δ ∙ return_no (exprs_of ws ts st count) (marks ws ts st count ini) H.f b c r ρ δ H.ok (sym H.kind ∙ e) h);
  }
