-- Statements passed cell by cell: each form of statement is passed as the tree is imported, where its parts are. p and q import over the tree, p' and q' in the pass; what they have to agree on is said of each form.
use Rattle.std.specs.Prelude.{◌≡◌, true, [], ◌∷◌, ◌++◌, length}
use Rattle.std.proofs.Math.Path.{refl, ap}
use Rattle.std.proofs.Common.{◌∙◌}
use Rattle.std.proofs.Math.Option.{Option, none, some}
use Prim.Native.Nat.{ℕ, suc}
use Rattle.model.specs.Outcome.{Cells, class, word}
use Rattle.model.specs.Table.{SPAN, UPTO, EXPR, OPT_EXPR, BLOCK, CASES, LENGTH, STMT_KIND}
use Rattle.model.specs.Tree.{Stmt, stmt, Form, emit, block, branch, switch, loop, break, continue, return, kill, call, effect, Block, end, ◌then◌, Case, case, Cases, nomore, ◌also◌, Range, opt_of, word_of, kind_of, size_b, size_c, flat_s, flat_f, flat_b, flat_k, flat_c, flat_block}
use Rattle.model.specs.Module.{Module}
use Rattle.model.specs.Carry.{carry_opt, carry_f}
use Rattle.model.specs.References.{copied, targets, target, through, carry_w, undefined_at, moved}
use Rattle.model.specs.Scope.{in_range}
use Rattle.model.specs.Imports.{Derived}
use Rattle.model.specs.Bodies.{Builder, mapped_to, step, each_e, opt_e, import_stmt, import_form, import_block, import_case, import_cases, carried_form, rebuild_stmt, rebuild_form, rebuild_block, rebuild_case, rebuild_cases}
use Rattle.theory_image.specs.Words.{word_of_lem}
use Rattle.theory_passes.specs.Pass.{arrive, first, both, early, passed, word_of as word_at, after, written}
use Rattle.theory_passes.specs.Passage.{still?, calm?, calm_of, Passage, nothing, join, passage_length, cell, span, range}

-- words that are copied
abbrev pub Copies : Cells → Type 0
Copies [] = Unit {0}
Copies (c ∷ cs) = (calm? (class c) ≡ true) × (target (class c) ≡ copied) × Copies cs

module _ (o : ℕ) (M : Module) (follow : ℕ → Derived → Derived) (p p' q q' : ℕ → Builder → Builder) where
  abbrev pub T : Cells → Builder → Builder → Cells → Type 0
  T = Passage o M follow p' q'

  abbrev pub TF : Form Range → Builder → Builder → Type 0
  TF g st₁ st = T (flat_f g) st₁ (import_form o M follow p q g st) (flat_f (rebuild_form o M follow p q g st))

  abbrev pub TS : Stmt Range → Builder → Type 0
  TS s st = T (flat_s s) st (import_stmt o M follow p q s st) (flat_s (rebuild_stmt o M follow p q s st))

  abbrev pub TB : Block Range → Builder → Type 0
  TB b st = T (flat_b b) st (import_block o M follow p q b st) (flat_b (rebuild_block o M follow p q b st))

  abbrev pub TK : Case Range → Builder → Type 0
  TK k st = T (flat_k k) st (import_case o M follow p q k st) (flat_k (rebuild_case o M follow p q k st))

  abbrev pub TC : Cases Range → Builder → Type 0
  TC ks st = T (flat_c ks) st (import_cases o M follow p q ks st) (flat_c (rebuild_cases o M follow p q ks st))

  -- ---- counts and kinds are kept
  size_b_lem : (b : Block Range) (st : Builder) → size_b (rebuild_block o M follow p q b st) ≡ size_b b
  unfolding size_b rebuild_form
  size_b_lem end st = refl
  size_b_lem (s then b) st = ap suc (size_b_lem b (import_stmt o M follow p q s st))

  size_c_lem : (ks : Cases Range) (st : Builder) → size_c (rebuild_cases o M follow p q ks st) ≡ size_c ks
  unfolding size_c rebuild_form
  size_c_lem nomore st = refl
  size_c_lem (k also ks) st = ap suc (size_c_lem ks (import_case o M follow p q k st))

  kind-f : (g : Form Range) (st : Builder) → kind_of (rebuild_form o M follow p q g st) ≡ kind_of g
  unfolding kind_of rebuild_form carried_form carry_f
  kind-f (emit r) st = refl
  kind-f (block b) st = refl
  kind-f (branch c a b) st = refl
  kind-f (switch c ks) st = refl
  kind-f (loop a b x) st = refl
  kind-f break st = refl
  kind-f continue st = refl
  kind-f (return x) st = refl
  kind-f kill st = refl
  kind-f (call f xs r) st = refl
  kind-f (effect k cs) st = refl

  -- ---- cells
  pub copy : (s n : ℕ) (st : Builder) → calm? s ≡ true → target s ≡ copied → T ((s, n) ∷ []) st st ((s, n) ∷ [])
  unfolding arrive through carry_w
  copy s n st c t = (rw (t, arrive, carry_w) at (cell o M follow p' q' s n st (calm_of s c)))

  pub copies : (v : Cells) (st : Builder) → Copies v → T v st st v
  copies [] st a = nothing o M follow p' q' st
  copies (c ∷ cs) st a = join o M follow p' q' (copy (class c) (word c) st a.0 a.1) (copies cs st a.2)

  expr : (e : ℕ) (st : Builder) → p' e st ≡ p e st → T ((EXPR, e) ∷ []) st (p e st) ((EXPR, through (mapped_to M (p e st)) EXPR e) ∷ [])
  unfolding arrive target targets step
  expr e st h = rw (← h) (cell o M follow p' q' EXPR e st (calm_of EXPR (unfold calm? still? in refl)))

  optional : (x : Option ℕ) (st : Builder) → opt_e x p' st ≡ opt_e x p st → T ((OPT_EXPR, word_of x) ∷ []) st (opt_e x p st) ((OPT_EXPR, word_of (carry_opt (through (mapped_to M (opt_e x p st))) OPT_EXPR x)) ∷ [])
  unfolding arrive target targets step opt_e word_of carry_opt opt_of through carry_w
  optional none st h = cell o M follow p' q' OPT_EXPR 0 st (calm_of OPT_EXPR (unfold calm? still? in refl))
  optional (some e) st h = rw (← h, word_of_lem) (cell o M follow p' q' OPT_EXPR (suc e) st (calm_of OPT_EXPR (unfold calm? still? in refl)))

  -- a statement's kind, with what it imports first
  kind : (k : ℕ) (ws out : Cells) (st st₁ st₂ : Builder) → ((ts : Cells) → early o M follow p' q' k (ws ++ ts) st ≡ st₁) → T ws st₁ st₂ out → T ((STMT_KIND, k) ∷ ws) st st₂ ((STMT_KIND, k) ∷ out)
  unfolding after written passed word_at target targets undefined_at moved through carry_w
  kind k ws out st st₁ st₂ e f = record {
    run = λ ts. ap (after o M follow p' q' (ws ++ ts)) (e ts) ∙ f.run ts;
    last = f.last;
    new = λ ts u. ap (λ (m : Builder). (STMT_KIND, k) ∷ written o M follow p' q' (ws ++ ts) u m) (e ts) ∙ ap ((STMT_KIND, k) ∷◌) (f.new ts u);
  }

  -- ---- forms
  pub t_stmt : (a b : ℕ) (g : Form Range) (st st₁ : Builder) → ((ts : Cells) → early o M follow p' q' (kind_of g) ((SPAN, a) ∷ (UPTO, b) ∷ (flat_f g ++ ts)) st ≡ st₁) → TF g st₁ st → TS (stmt a b g) st
  unfolding flat_f import_form rebuild_form
  t_stmt a b g st st₁ e f =
      rw (passage_length o M follow p' q' f, kind-f g st)
      (join o M follow p' q' (copy LENGTH (suc (suc (suc (suc (length (flat_f g)))))) st (unfold calm? still? target targets in refl) (unfold target targets in refl))
      (kind (kind_of g) ((SPAN, a) ∷ (UPTO, b) ∷ flat_f g) _ st st₁ _ e (join o M follow p' q' (span o M follow p' q' a b st₁) f)))

  pub t_emit : (r : Range) (st : Builder) → each_e (in_range r) q' st ≡ each_e (in_range r) q st → each_e (in_range r) p' (each_e (in_range r) q st) ≡ each_e (in_range r) p (each_e (in_range r) q st) → TF (emit r) st st
  unfolding flat_f import_form rebuild_form first both
  t_emit r st x y = rw (← y, ← x) (range o M follow p' q' r.from r.to st)

  pub t_body : (b : Block Range) (st : Builder) → TB b st → T (flat_block b) st (import_block o M follow p q b st) (flat_block (rebuild_block o M follow p q b st))
  unfolding flat_block
  t_body b st f = rw (size_b_lem b st) (join o M follow p' q' (copy BLOCK (size_b b) st (unfold calm? still? target targets in refl) (unfold target targets in refl)) f)

  pub t_block : (b : Block Range) (st : Builder) → TB b st → TF (block b) st st
  unfolding flat_f import_form rebuild_form flat_block
  t_block b st f = t_body b st f

  pub t_branch : (e : ℕ) (a b : Block Range) (st : Builder) → p' e st ≡ p e st → TB a (p e st) → TB b (import_block o M follow p q a (p e st)) → TF (branch e a b) st st
  unfolding flat_f import_form rebuild_form flat_block
  t_branch e a b st z x y = join o M follow p' q' (expr e st z) (join o M follow p' q' (t_body a (p e st) x) (t_body b (import_block o M follow p q a (p e st)) y))

  pub t_switch : (e : ℕ) (ks : Cases Range) (st : Builder) → p' e st ≡ p e st → TC ks (p e st) → TF (switch e ks) st st
  unfolding flat_f import_form rebuild_form
  t_switch e ks st z x =
      rw (size_c_lem ks (p e st))
      (join o M follow p' q' (expr e st z) (join o M follow p' q' (copy CASES (size_c ks) (p e st) (unfold calm? still? target targets in refl) (unfold target targets in refl)) x))

  pub t_loop : (a b : Block Range) (x : Option ℕ) (st : Builder) → TB a st → TB b (import_block o M follow p q a st) → opt_e x p' (import_block o M follow p q b (import_block o M follow p q a st)) ≡ opt_e x p (import_block o M follow p q b (import_block o M follow p q a st)) → TF (loop a b x) st st
  unfolding flat_f import_form rebuild_form flat_block
  t_loop a b x st u v w =
      join o M follow p' q' (join o M follow p' q' (t_body a st u) (t_body b (import_block o M follow p q a st) v)) (optional x (import_block o M follow p q b (import_block o M follow p q a st)) w)

  pub t_break : (st : Builder) → TF break st st
  unfolding flat_f import_form rebuild_form
  t_break st = nothing o M follow p' q' st

  pub t_continue : (st : Builder) → TF continue st st
  unfolding flat_f import_form rebuild_form
  t_continue st = nothing o M follow p' q' st

  pub t_return : (x : Option ℕ) (st : Builder) → opt_e x p' st ≡ opt_e x p st → TF (return x) st st
  unfolding flat_f import_form rebuild_form carried_form carry_f
  t_return x st z = optional x st z

  pub t_kill : (st : Builder) → TF kill st st
  unfolding flat_f import_form rebuild_form
  t_kill st = nothing o M follow p' q' st

  pub t_end : (st : Builder) → TB end st
  unfolding flat_f import_form rebuild_form
  t_end st = nothing o M follow p' q' st

  pub t_then : (s : Stmt Range) (b : Block Range) (st : Builder) → TS s st → TB b (import_stmt o M follow p q s st) → TB (s then b) st
  unfolding flat_f import_form rebuild_form
  t_then s b st x y = join o M follow p' q' x y

  pub t_case : (v : Cells) (b : Block Range) (f : ℕ) (st : Builder) → Copies v → TB b st → TK (case v b f) st
  unfolding flat_f import_form rebuild_form flat_block
  t_case v b f st a x =
      join o M follow p' q' (join o M follow p' q' (copies v st a) (t_body b st x)) (copy 2 f (import_block o M follow p q b st) (unfold calm? still? target targets in refl) (unfold target targets in refl))

  pub t_nomore : (st : Builder) → TC nomore st
  unfolding flat_f import_form rebuild_form
  t_nomore st = nothing o M follow p' q' st

  pub t_also : (k : Case Range) (ks : Cases Range) (st : Builder) → TK k st → TC ks (import_case o M follow p q k st) → TC (k also ks) st
  unfolding flat_f import_form rebuild_form
  t_also k ks st x y = join o M follow p' q' x y
