-- A block, statement by statement: what is left from here is the whole.
use mathlib.Core.Path.{◌≡◌, refl, sym, ap, ◌∙◌, subst}
use mathlib.Core.Logic.{◌⊎◌, inl, inr}
use mathlib.Core.Bool.{Bool, true, false, ◌||◌}
use Rattle.std.proofs.Math.Bool.{or_assoc}
use mathlib.Core.List.{List, []}
use Prim.Native.Nat.{ℕ, ◌+◌, ◌≤◌, ◌<◌}
use native.Mathlib.Omega.{arith}
use lib.ListN.{length, get_or, length-append}
use Rattle.model.specs.Outcome.{Cells}
use Rattle.model.specs.Tree.{Stmt, stmt, Form, emit, block, branch, switch, loop, break, continue, return, kill, call, effect, Block, end, ◌then◌, Range, flat_s, flat_b}
use Rattle.model.specs.Carry.{OkBs}
use Rattle.model.specs.Scope.{Place, XBlock, expand_s, expand_f, expand, evals_s, evals_b, has, add_e, add_s, add_f, holds_s, holds_f, holds_b, cont_b}
use Rattle.intake_statements.specs.Fine.{keep_all, done_b, done_s, fine_s, fine_b}
use Rattle.intake_statements.specs.Tape.{block_of, HoldsS, exprs_of, marks}
use Rattle.intake_statements.specs.Lasts.{Scope, Kept}
use Rattle.std.specs.Prelude.{Some, None}
use Rattle.std.specs.declared.option.Option as code
use Rattle.intake_blocks.specs.declared.Flow.{Flow}
use Rattle.intake_blocks.specs.declared.Flow.TheVariants.{Through}
use Rattle.std.proofs.lemmas.Option.{none-some, same_Some}
use Rattle.intake_blocks.specs.Found.{flow_of, told, Finds, kept_of, StmtHere, BlockHere, FindsS, FindsB, FoundS, FoundB}
use Rattle.intake_statements.proofs.Restated.{add_e-append}
use Rattle.intake_statements.proofs.Scopes.{either, absurd_bool, scope_on, scope_less, kept-all, kept_more, kept_then}
use Rattle.intake_blocks.proofs.Trees.{Runs, runs_split, between_runs, up_s_lem, down_b, down_bs, stmt_is, stmt_held, ends_in, stmt_long, stmt_length, block_body, block_long}

-- ---- answers
pub told_yes : (ok h : Bool) (r : code.Option Flow) (f : Flow) → r ≡ told ok h → r ≡ Some f → (ok ≡ true) × (f ≡ flow_of h)
unfolding told
told_yes true h r f e n = (refl, same_Some f (flow_of h) (sym n ∙ e))
told_yes false h r f e n = absurd (none-some f (sym e ∙ n))

pub told_no : (ok h : Bool) (r : code.Option Flow) → r ≡ told ok h → r ≡ None → ok ≡ false
unfolding told
told_no true h r e z = absurd (none-some (flow_of h) (sym z ∙ e))
told_no false h r e z = refl

pub told_none : (ok h : Bool) → ok ≡ false → None ≡ told ok h
unfolding told
told_none ok h e = rw e

pub told_some : (h : Bool) (f : Flow) → f ≡ flow_of h → Some f ≡ told true h
unfolding told
told_some h f e = ap Some e

pub finds-none : {count q k : ℕ} {u₀ u : List ℕ} {ok h : Bool} {ρ δ : List ℕ} → ok ≡ false → Finds count q k u₀ u None ok h ρ δ
finds-none {ok = ok} {h = h} e = record { says = told_none ok h e; scope = λ g. absurd_bool g e; kept = λ g. absurd_bool g e }

-- ---- a statement with a Continue adds nothing to the scope of its block
holds_adds : (s : Stmt Range) (dr : ℕ → Bool) (ρ : List ℕ) → holds_s (expand_s s dr) ≡ true → add_s (expand_s s dr) ρ ≡ ρ
unfolding holds_s expand_s add_s add_f
holds_adds (stmt a b f) dr ρ h = go f h
  where
    go : (f : Form Range) → holds_f (expand_f f dr) ≡ true → add_f (expand_f f dr) ρ ≡ ρ
    go (emit r) h = absurd_bool h refl
    go (block b) h = refl
    go (branch c a b) h = refl
    go (switch c ks) h = refl
    go (loop a b x) h = refl
    go break h = refl
    go continue h = refl
    go (return x) h = refl
    go kill h = refl
    go (call f xs r) h = absurd_bool h refl
    go (effect k cs) h = absurd_bool h refl

-- the scope that a Loop's continuing block sees, once the first Continue was met (h) with the scope κ
unfoldable pub cut_b : Bool → XBlock → List ℕ → List ℕ → List ℕ
cut_b true b ρ κ = κ
cut_b false b ρ κ = cont_b b ρ

pub record Goes (ws ts st : List ℕ) (ini : List Bool) (u₀ : List ℕ) (count at fin keep : ℕ) (p : Place) (b rest : Block Range) (ρ δ u : List ℕ) (i : ℕ) (cut : Flow) : Type 0 where
  pub h : Bool
  pub cut_is : cut ≡ flow_of h
  pub ρ' : List ℕ
  pub δ' : List ℕ
  pub κ : List ℕ
  pub scope : Scope count i (kept_of h keep fin) ρ' δ' u
  pub aside_known : (e : ℕ) → has κ e ≡ true → e < count
  pub aside_in : (e : ℕ) → has κ e ≡ true → keep ≤ get_or u e 0
  pub aside_out : (e : ℕ) → e < count → has κ e ≡ false → get_or u e 0 ≤ fin
  pub kept : Kept keep u₀ u
  pub left : fine_b (exprs_of ws ts st count) (marks ws ts st count ini) rest p ρ' δ' ≡ fine_b (exprs_of ws ts st count) (marks ws ts st count ini) b p ρ δ
  pub conts : cut_b h (expand rest (marks ws ts st count ini)) ρ' κ ≡ cont_b (expand b (marks ws ts st count ini)) ρ
  pub uncut : h ≡ false → κ ≡ ρ'
  pub dones : done_b rest δ' ≡ done_b b δ
  pub holds : (h || holds_b (expand rest (marks ws ts st count ini))) ≡ holds_b (expand b (marks ws ts st count ini))

pub record Walking (ws ts st : List ℕ) (ini : List Bool) (u₀ : List ℕ) (count at fin keep : ℕ) (p : Place) (u : List ℕ) (i : ℕ) (cut : Flow) : Type 0 where
  pub rest : Block Range
  pub runs : Runs ws ts i (flat_b rest)
  pub long : i + length (flat_b rest) ≡ fin
  pub ok : OkBs 31 rest
  pub past : at < i
  pub going : (ρ δ : List ℕ) → Scope count at keep ρ δ u₀ → Goes ws ts st ini u₀ count at fin keep p (block_of ws ts at fin) rest ρ δ u i cut

-- the next statement
record Ahead (ws ts : List ℕ) (i fin : ℕ) (rest : Block Range) : Type 0 where
  pub s : Stmt Range
  pub b : Block Range
  pub is : rest ≡ s then b
  pub holds : HoldsS ws ts i (i + length (flat_s s)) s
  pub word : get_or ws i 0 ≡ length (flat_s s)
  pub runs : Runs ws ts (i + length (flat_s s)) (flat_b b)
  pub long : i + length (flat_s s) + length (flat_b b) ≡ fin
  pub ok : OkBs 31 b

ahead : (ws ts : List ℕ) (i fin : ℕ) (rest : Block Range) → Runs ws ts i (flat_b rest) → i + length (flat_b rest) ≡ fin → OkBs 31 rest → fin ≤ 16384 → i < fin → Ahead ws ts i fin rest
unfolding flat_b
ahead ws ts i fin end r l o w h = absurd (omega arith)
ahead ws ts i fin (s then b) r l o w h =
    let q = runs_split ws ts (flat_s s) (flat_b b) i r in
    let a = length-append (flat_s s) (flat_b b) in
    record {
      s = s;
      b = b;
      is = refl;
      holds = record { cells = between_runs ws ts i (i + length (flat_s s)) (flat_s s) q.0 refl; long = refl; within = omega arith; ok = up_s_lem (down_bs o).0 };
      word = stmt_length ws ts s i (flat_b b) r;
      runs = q.1;
      long = omega arith;
      ok = (down_bs o).1;
    }

-- ---- one statement further
module _ (xs : List Cells) (dr : ℕ → Bool) (s : Stmt Range) (b : Block Range) where
  fine_then : (p : Place) (ρ δ : List ℕ) → fine_s xs dr s p ρ δ ≡ true → fine_b xs dr (s then b) p ρ δ ≡ fine_b xs dr b p (add_s (expand_s s dr) ρ) (done_s s δ)
  unfolding fine_b
  fine_then p ρ δ h = rw h

  fine_stop : (p : Place) (ρ δ : List ℕ) → fine_s xs dr s p ρ δ ≡ false → fine_b xs dr (s then b) p ρ δ ≡ false
  unfolding fine_b
  fine_stop p ρ δ h = rw h

  done_then : (δ : List ℕ) → done_b (s then b) δ ≡ done_b b (done_s s δ)
  unfolding done_b done_s evals_b expand
  done_then δ = add_e-append (evals_s (expand_s s keep_all)) (evals_b (expand b keep_all)) δ

  holds_then : holds_b (expand (s then b) dr) ≡ (holds_s (expand_s s dr) || holds_b (expand b dr))
  unfolding holds_b expand
  holds_then = refl

  cont_then : (ρ : List ℕ) → cont_b (expand (s then b) dr) ρ ≡ cut_b (holds_s (expand_s s dr)) (expand b dr) (add_s (expand_s s dr) ρ) (add_s (expand_s s dr) ρ)
  unfolding cont_b expand cut_b
  cont_then ρ = go (holds_s (expand_s s dr)) refl
    where
      go : (h : Bool) → holds_s (expand_s s dr) ≡ h → elim (holds_s (expand_s s dr)) [ true ↦ ρ | false ↦ cont_b (expand b dr) (add_s (expand_s s dr) ρ) ] ≡ cut_b (holds_s (expand_s s dr)) (expand b dr) (add_s (expand_s s dr) ρ) (add_s (expand_s s dr) ρ)
      go true e = rw (e, holds_adds s dr ρ e)
      go false e = rw e

-- ---- at the end
block_nil : (b : Block Range) → length (flat_b b) ≡ 0 → b ≡ end
unfolding flat_b
block_nil end h = refl
block_nil (s then b) h = absurd (omega (arith, length-append (flat_s s) (flat_b b), stmt_long [] [] s))

fine_end : (xs : List Cells) (dr : ℕ → Bool) (p : Place) (ρ δ : List ℕ) → fine_b xs dr end p ρ δ ≡ true
unfolding fine_b
fine_end xs dr p ρ δ = refl

holds-end : (dr : ℕ → Bool) (h : Bool) → (h || holds_b (expand end dr)) ≡ h
unfolding holds_b expand
holds-end dr true = refl
holds-end dr false = refl

done_end : (δ : List ℕ) → done_b end δ ≡ δ
unfolding done_b evals_b expand add_e
done_end δ = refl

cut-end : (dr : ℕ → Bool) (h : Bool) (ρ κ : List ℕ) → (h ≡ false → κ ≡ ρ) → κ ≡ cut_b h (expand end dr) ρ κ
unfolding cut_b cont_b expand
cut-end dr true ρ κ q = refl
cut-end dr false ρ κ q = q refl

-- the scope that is put aside: once a Continue was met it stays
aside : Bool → List ℕ → List ℕ → List ℕ
aside true κ ρ = κ
aside false κ ρ = ρ

-- ---- a block that is left: what lasted lasts on, and what it evaluated does not last longer than its end
pub leave : {count q k : ℕ} {ρ δ u : List ℕ} (q' : ℕ) (u₁ ρ₁ δ₁ : List ℕ) {q₁ k₁ : ℕ} → Scope count q k ρ δ u → q ≤ q' → 0 < k → Kept q' u u₁ → Scope count q₁ k₁ ρ₁ δ₁ u₁ → Scope count q' k ρ δ₁ u₁
leave {count} {q} {k} {ρ} {δ} {u} q' u₁ ρ₁ δ₁ s h l p t = record {
  long = t.long;
  later = omega (arith, s.later);
  known = s.known;
  inside = λ e g. let i : 0 < get_or u e 0 = omega (arith, s.inside e g) in omega (arith, p.same e i, s.inside e g);
  outside = λ e i g. go e i g (either (get_or u e 0) 0);
  done = t.done;
}
  where
    go : (e : ℕ) → e < count → has ρ e ≡ false → (get_or u e 0 ≡ 0) ⊎ (get_or u e 0 ≡ 0 → ⊥) → get_or u₁ e 0 ≤ q'
    go e i g (inl z) = p.most e z
    go e i g (inr n) = let m : 0 < get_or u e 0 = omega arith in omega (arith, p.same e m, s.outside e i g)

-- ---- the loop over a block
module _ (ws ts st : List ℕ) (ini : List Bool) (u₀ : List ℕ) (count at fin keep : ℕ) (p : Place) (here : BlockHere ws ts st count at fin keep) where
  abbrev B : Block Range
  B = block_of ws ts at fin

  abbrev xs : List Cells
  xs = exprs_of ws ts st count

  abbrev dr : ℕ → Bool
  dr = marks ws ts st count ini

  pub block_begin : Walking ws ts st ini u₀ count at fin keep p u₀ (at + 1) Through
  unfolding flow_of kept_of cut_b
  block_begin = record {
    rest = B;
    runs = block_body ws ts at fin B here.holds;
    long = block_long ws ts at fin B here.holds;
    ok = down_b here.holds.ok;
    past = omega arith;
    going = λ ρ δ s. record {
      h = false;
      cut_is = refl;
      ρ' = ρ;
      δ' = δ;
      κ = ρ;
      scope = scope_on (at + 1) (omega arith) s;
      aside_known = s.known;
      aside_in = s.inside;
      aside_out = λ e i g. omega (arith, s.outside e i g, block_long ws ts at fin B here.holds);
      kept = kept-all keep u₀;
      left = refl;
      conts = refl;
      uncut = λ g. refl;
      dones = refl;
      holds = refl;
    };
  }

  module _ (u : List ℕ) (i : ℕ) (cut : Flow) (inv : Walking ws ts st ini u₀ count at fin keep p u i cut) where
    next : i < fin → Ahead ws ts i fin inv.rest
    next l = ahead ws ts i fin inv.rest inv.runs inv.long inv.ok here.holds.within l

    module _ (l : i < fin) (w : ℕ) (w-is : w ≡ get_or ws i 0) where
      w_long : w ≡ length (flat_s (next l).s)
      w_long = w-is ∙ (next l).word

      pub block_far : i + w ≤ fin
      block_far = omega (arith, w_long, (next l).long)

      pub block_on : i < i + w
      block_on = omega (arith, w_long, stmt_long ws ts (next l).s)

      held : HoldsS ws ts i (i + w) (next l).s
      held = subst (λ x. HoldsS ws ts i (i + x) (next l).s) (sym w_long) (next l).holds

      module _ (k : ℕ) (k_is : ((h : Bool) → cut ≡ flow_of h → k ≡ kept_of h keep fin) × (fin ≤ keep → fin ≤ k)) where
        kept_high : (h : Bool) → kept_of h keep fin ≤ keep
        unfolding kept_of
        kept_high true = here.keeps
        kept_high false = omega arith

        pub block_stmt : StmtHere ws ts st count i (i + w) k
        block_stmt =
            let q : fin ≤ k = k_is.1 here.keeps in
            record {
              exprs = here.exprs;
              holds = stmt_held ws ts i (i + w) (next l).s held;
              ends = ends_in ws ts i (i + w) here.ends (omega (arith, inv.past)) block_far;
              later = omega (arith, inv.past);
              keeps = omega (arith, block_far);
            }

        module _ (u₁ : List ℕ) (r : code.Option Flow) (got : FoundS ws ts st ini count i (i + w) k p u u₁ r) where
          finds : (ρ δ : List ℕ) (g : Goes ws ts st ini u₀ count at fin keep p B inv.rest ρ δ u i cut) → FindsS ws ts st ini count i (i + w) (kept_of g.h keep fin) p u u₁ r (next l).s g.ρ' g.δ'
          finds ρ δ g =
              let q : k ≡ kept_of g.h keep fin = k_is.0 g.h g.cut_is in
              subst (λ x. FindsS ws ts st ini count i (i + w) x p u u₁ r (next l).s g.ρ' g.δ') q
              (subst (λ x. FindsS ws ts st ini count i (i + w) k p u u₁ r x g.ρ' g.δ') (stmt_is ws ts i (i + w) (next l).s held) (got.found g.ρ' g.δ' (rw q g.scope)))

          pub block_wrong : r ≡ None → FoundB ws ts st ini count at fin keep p u₀ u₁ None
          block_wrong z = record { found = λ ρ δ s. finds-none (bad ρ δ (inv.going ρ δ s)) }
            where
              bad : (ρ δ : List ℕ) → Goes ws ts st ini u₀ count at fin keep p B inv.rest ρ δ u i cut → fine_b xs dr B p ρ δ ≡ false
              bad ρ δ g =
                  sym g.left
                  ∙ ap (λ b. fine_b xs dr b p g.ρ' g.δ') (next l).is
                  ∙ fine_stop xs dr (next l).s (next l).b p g.ρ' g.δ' (told_no (fine_s xs dr (next l).s p g.ρ' g.δ') (holds_s (expand_s (next l).s dr)) r (finds ρ δ g).says z)

          abbrev hs : Bool
          hs = holds_s (expand_s (next l).s dr)

          module _ (go-on : Flow) (n : r ≡ Some go-on) (ρ δ : List ℕ) (g : Goes ws ts st ini u₀ count at fin keep p B inv.rest ρ δ u i cut) where
            f : FindsS ws ts st ini count i (i + w) (kept_of g.h keep fin) p u u₁ r (next l).s g.ρ' g.δ'
            f = finds ρ δ g

            fine : fine_s xs dr (next l).s p g.ρ' g.δ' ≡ true
            fine = (told_yes (fine_s xs dr (next l).s p g.ρ' g.δ') hs r go-on f.says n).0

            ρ'' : List ℕ
            ρ'' = add_s (expand_s (next l).s dr) g.ρ'

            scope_next : Scope count (i + w) (kept_of (g.h || hs) keep fin) ρ'' (done_s (next l).s g.δ') u₁
            unfolding ρ'' kept_of
            scope_next = go g.h hs (f.scope fine)
              where
                go : (h s : Bool) → Scope count (i + w) (kept_of h keep fin) ρ'' (done_s (next l).s g.δ') u₁ → Scope count (i + w) (kept_of (h || s) keep fin) ρ'' (done_s (next l).s g.δ') u₁
                go true s t = t
                go false true t = scope_less fin here.keeps t
                go false false t = t

            κ' : List ℕ
            κ' = aside g.h g.κ ρ''

            kept_next : Kept keep u u₁
            kept_next = kept_more keep (kept_high g.h) (f.kept fine)

            known_next : (e : ℕ) → has κ' e ≡ true → e < count
            unfolding κ' aside ρ''
            known_next e = go g.h
              where
                go : (h : Bool) → has (aside h g.κ ρ'') e ≡ true → e < count
                go true q = g.aside_known e q
                go false q = (f.scope fine).known e q

            in_next : (e : ℕ) → has κ' e ≡ true → keep ≤ get_or u₁ e 0
            unfolding κ' aside kept_of ρ''
            in_next e = go g.h (f.scope fine)
              where
                go : (h : Bool) → Scope count (i + w) (kept_of h keep fin) ρ'' (done_s (next l).s g.δ') u₁ → has (aside h g.κ ρ'') e ≡ true → keep ≤ get_or u₁ e 0
                go true t q = let z : 0 < get_or u e 0 = omega (arith, g.aside_in e q, here.keeps, l) in omega (arith, g.aside_in e q, (f.kept fine).same e z)
                go false t q = t.inside e q

            out-next : (e : ℕ) → e < count → has κ' e ≡ false → get_or u₁ e 0 ≤ fin
            unfolding κ' aside kept_of ρ''
            out-next e b = go g.h (f.scope fine) (f.kept fine)
              where
                old : Kept fin u u₁ → get_or u e 0 ≤ fin → (get_or u e 0 ≡ 0) ⊎ (get_or u e 0 ≡ 0 → ⊥) → get_or u₁ e 0 ≤ fin
                old t q (inl z) = t.most e z
                old t q (inr m) = let z : 0 < get_or u e 0 = omega arith in omega (arith, t.same e z)

                go : (h : Bool) → Scope count (i + w) (kept_of h keep fin) ρ'' (done_s (next l).s g.δ') u₁ → Kept (kept_of h keep fin) u u₁ → has (aside h g.κ ρ'') e ≡ false → get_or u₁ e 0 ≤ fin
                go true t m q = old m (g.aside_out e b q) (either (get_or u e 0) 0)
                go false t m q = omega (arith, t.outside e b q, block_far)

            conts_next : cut_b (g.h || hs) (expand (next l).b dr) ρ'' κ' ≡ cont_b (expand B dr) ρ
            unfolding κ' aside cut_b ρ''
            conts_next = go g.h g.conts
              where
                go : (h : Bool) → cut_b h (expand inv.rest dr) g.ρ' g.κ ≡ cont_b (expand B dr) ρ → cut_b (h || hs) (expand (next l).b dr) ρ'' (aside h g.κ ρ'') ≡ cont_b (expand B dr) ρ
                go true q = q
                go false q = sym (ap (λ b. cont_b (expand b dr) g.ρ') (next l).is ∙ cont_then xs dr (next l).s (next l).b g.ρ') ∙ q

            uncut_next : (g.h || hs) ≡ false → κ' ≡ ρ''
            unfolding κ' aside
            uncut_next = go g.h
              where
                go : (h : Bool) → (h || hs) ≡ false → aside h g.κ ρ'' ≡ ρ''
                go true q = absurd_bool refl q
                go false q = refl

            step : (cut' : Flow) → ((h g : Bool) → cut ≡ flow_of h → go-on ≡ flow_of g → cut' ≡ flow_of (h || g)) → Goes ws ts st ini u₀ count at fin keep p B (next l).b ρ δ u₁ (i + w) cut'
            unfolding ρ''
            step cut' is = record {
              h = g.h || hs;
              cut_is = is g.h hs g.cut_is (told_yes (fine_s xs dr (next l).s p g.ρ' g.δ') hs r go-on f.says n).1;
              ρ' = ρ'';
              δ' = done_s (next l).s g.δ';
              κ = κ';
              scope = scope_next;
              aside_known = known_next;
              aside_in = in_next;
              aside_out = out-next;
              kept = kept_then g.kept kept_next;
              left = sym (ap (λ b. fine_b xs dr b p g.ρ' g.δ') (next l).is ∙ fine_then xs dr (next l).s (next l).b p g.ρ' g.δ' fine) ∙ g.left;
              conts = conts_next;
              uncut = uncut_next;
              dones = sym (ap (λ b. done_b b g.δ') (next l).is ∙ done_then xs dr (next l).s (next l).b g.δ') ∙ g.dones;
              holds = or_assoc g.h hs (holds_b (expand (next l).b dr)) ∙ sym (ap (λ b. g.h || holds_b (expand b dr)) (next l).is ∙ ap (g.h ||◌) (holds_then xs dr (next l).s (next l).b)) ∙ g.holds;
            }

          pub block_next : (go-on : Flow) → r ≡ Some go-on → (cut' : Flow) → ((h g : Bool) → cut ≡ flow_of h → go-on ≡ flow_of g → cut' ≡ flow_of (h || g)) → Walking ws ts st ini u₀ count at fin keep p u₁ (i + w) cut'
          block_next go-on n cut' is = record {
            rest = (next l).b;
            runs = subst (λ x. Runs ws ts (i + x) (flat_b (next l).b)) (sym w_long) (next l).runs;
            long = omega (arith, (next l).long, w_long);
            ok = (next l).ok;
            past = omega (arith, inv.past);
            going = λ ρ δ s. step go-on n ρ δ (inv.going ρ δ s) cut' is;
          }

    pub block_done : fin ≤ i → FoundB ws ts st ini count at fin keep p u₀ u (Some cut)
    block_done h = record { found = λ ρ δ s. done ρ δ (inv.going ρ δ s) }
      where
        nil : inv.rest ≡ end
        nil = block_nil inv.rest (omega (arith, inv.long))

        done : (ρ δ : List ℕ) → Goes ws ts st ini u₀ count at fin keep p B inv.rest ρ δ u i cut → FindsB ws ts st ini count at fin keep p u₀ u (Some cut) B ρ δ
        done ρ δ g =
            let fine : true ≡ fine_b xs dr B p ρ δ = sym (fine_end xs dr p g.ρ' g.δ') ∙ ap (λ b. fine_b xs dr b p g.ρ' g.δ') (sym nil) ∙ g.left in
            let holding : g.h ≡ holds_b (expand B dr) = sym (holds-end dr g.h) ∙ ap (λ b. g.h || holds_b (expand b dr)) (sym nil) ∙ g.holds in
            let kappa : g.κ ≡ cont_b (expand B dr) ρ = cut-end dr g.h g.ρ' g.κ g.uncut ∙ ap (λ b. cut_b g.h (expand b dr) g.ρ' g.κ) (sym nil) ∙ g.conts in
            let delta : g.δ' ≡ done_b B δ = sym (done_end g.δ') ∙ ap (λ b. done_b b g.δ') (sym nil) ∙ g.dones in
            record {
              says = told_some g.h cut g.cut_is ∙ ap (λ x. told x g.h) fine ∙ ap (told (fine_b xs dr B p ρ δ)) holding;
              scope = λ q. subst (λ x. Scope count fin keep x (done_b B δ) u) kappa (subst (λ x. Scope count fin keep g.κ x u) delta (record {
                long = g.scope.long;
                later = omega (arith, here.later, block_long ws ts at fin B here.holds);
                known = g.aside_known;
                inside = g.aside_in;
                outside = g.aside_out;
                done = g.scope.done;
              }));
              kept = λ q. g.kept;
            }
