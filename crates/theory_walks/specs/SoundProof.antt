-- Scope is sound: in a walk of a body whose reads are in scope nothing is read before it is evaluated.
-- The invariant: what is in scope (ρ) has been evaluated (σ), `Sub ρ σ`. `Runs ρ k`: from whatever has evaluated ρ, the trace of k is sound. A part of a body is sound if what follows it is, each at the scope that it finds: after it, at its Breaks, at its Continues (`Does`).
use Prim.Native.Nat.{ℕ, zero, suc}
use Rattle.std.specs.Prelude.{refl, Bool, ◌||◌, length, eqb}
use Rattle.std.proofs.Math.Bool.{true, false}
use Rattle.std.proofs.lemmas.Bool.{false≢true}
use mathlib.Core.List.{List, [], ◌∷◌}
use Rattle.std.proofs.Math.Option.{Option, none, some}
use Rattle.theory_lists.specs.Booleans.{Yes, and_first, and_second, or_l, or_r, or_later}
use Rattle.model.specs.Outcome.{Cells}
use Rattle.model.specs.Tree.{stmt, emit, block, branch, switch, loop, break, continue, return, kill, call, effect, end, ◌then◌, case, nomore, ◌also◌}
use Rattle.model.specs.Operands.{ops_of, result_of, ops, standing}
use Rattle.model.specs.Scope.{XStmt, XForm, XBlock, XCase, XCases, add_e, add_opt, add_f, add_s, top_b, holds_s, holds_f, holds_b, holds_k, holds_c, cont_b, vis, all_vis, opt_vis, ok_e, ok_s, ok_f, ok_b, ok_k, ok_c}
use Rattle.model.specs.Walk.{End, finished, Trace, Rest, K, ends, only, ▸read, ▸readOpt, ▸evalOpt, ▸emit, choose, pick, round_end, rounds, fall_to, walk_s, walk_f, walk_b, walk_k, walk_c}
use Rattle.theory_walks.specs.Reads.{Sound, s_halt, s_read, s_eval, s_call_lem}

module _ (xs : List Cells) where
  abbrev Vis : List ℕ → ℕ → Bool
  Vis ρ e = vis (standing xs) ρ e

  abbrev Good : Trace → List ℕ → Type 0
  Good t σ = Sound (standing xs) t σ

  -- whatever is visible in ρ is visible in σ
  abbrev Sub : List ℕ → List ℕ → Type 0
  Sub ρ σ = (e : ℕ) → Yes (Vis ρ e) → Yes (Vis σ e)

  abbrev Runs : List ℕ → Rest → Type 0
  Runs ρ k = (σ : List ℕ) → Sub ρ σ → (ds : List ℕ) → Good (k ds) σ

  sub_more : (x : ℕ) (ρ : List ℕ) → Sub ρ (x ∷ ρ)
  unfolding vis
  sub_more x ρ e h = or_r (eqb e x) _ h

  sub_cons : (x : ℕ) (ρ σ : List ℕ) → Sub ρ σ → Sub (x ∷ ρ) (x ∷ σ)
  unfolding vis
  sub_cons x ρ σ h e t = or_later (eqb e x) _ _ (h e) t

  -- ---- the scopes grow
  sub_add_e : (es ρ : List ℕ) → Sub ρ (add_e es ρ)
  unfolding add_e
  sub_add_e [] ρ e h = h
  sub_add_e (x ∷ es) ρ e h = sub_add_e es (x ∷ ρ) e (sub_more x ρ e h)

  sub_add_opt : (r : Option ℕ) (ρ : List ℕ) → Sub ρ (add_opt r ρ)
  unfolding add_opt
  sub_add_opt none ρ e h = h
  sub_add_opt (some x) ρ e h = sub_more x ρ e h

  sub_add_f : (f : XForm) (ρ : List ℕ) → Sub ρ (add_f f ρ)
  unfolding add_f
  sub_add_f (emit es) ρ = sub_add_e es ρ
  sub_add_f (block b) ρ = λ e h. h
  sub_add_f (branch c a b) ρ = λ e h. h
  sub_add_f (switch c ks) ρ = λ e h. h
  sub_add_f (loop a b x) ρ = λ e h. h
  sub_add_f break ρ = λ e h. h
  sub_add_f continue ρ = λ e h. h
  sub_add_f (return x) ρ = λ e h. h
  sub_add_f kill ρ = λ e h. h
  sub_add_f (call f ys r) ρ = sub_add_opt r ρ
  sub_add_f (effect n ws) ρ = sub_add_opt (result_of ws) ρ

  sub_add_s : (s : XStmt) (ρ : List ℕ) → Sub ρ (add_s s ρ)
  unfolding add_s
  sub_add_s (stmt a b f) ρ = sub_add_f f ρ

  sub_top : (b : XBlock) (ρ : List ℕ) → Sub ρ (top_b b ρ)
  unfolding top_b
  sub_top end ρ e h = h
  sub_top (s then b) ρ e h = sub_top b (add_s s ρ) e (sub_add_s s ρ e h)

  -- ρ ⊆ cont_b b ρ ⊆ top_b b ρ
  sub_in : (b : XBlock) (ρ : List ℕ) → Sub ρ (cont_b b ρ)
  unfolding cont_b
  sub_in end ρ = λ e h. h
  sub_in (s then b) ρ = go (holds_s s) (sub_in b (add_s s ρ))
    where
      go : (t : Bool) → Sub (add_s s ρ) (cont_b b (add_s s ρ)) → Sub ρ (elim t [ true ↦ ρ | false ↦ cont_b b (add_s s ρ) ])
      go true ih = λ e h. h
      go false ih = λ e h. ih e (sub_add_s s ρ e h)

  sub_cont : (b : XBlock) (ρ : List ℕ) → Sub (cont_b b ρ) (top_b b ρ)
  unfolding top_b cont_b
  sub_cont end ρ = λ e h. h
  sub_cont (s then b) ρ = go (holds_s s) (sub_cont b (add_s s ρ))
    where
      go : (t : Bool) → Sub (cont_b b (add_s s ρ)) (top_b b (add_s s ρ)) → Sub (elim t [ true ↦ ρ | false ↦ cont_b b (add_s s ρ) ]) (top_b b (add_s s ρ))
      go true ih = λ e h. sub_top b (add_s s ρ) e (sub_add_s s ρ e h)
      go false ih = ih

  -- ---- the parts of a walk
  pub runs_ends : (h : End) (ρ : List ℕ) → Runs ρ (ends h)
  unfolding ends
  runs_ends h ρ σ s ds = s_halt

  good_read : (ys : List ℕ) (t : Trace) (ρ σ : List ℕ) → Sub ρ σ → Yes (all_vis (standing xs) ρ ys) → Good t σ → Good (▸read ys t) σ
  unfolding ▸read all_vis
  good_read [] t ρ σ h v g = g
  good_read (y ∷ ys) t ρ σ h v g = s_read (h y (and_first (Vis ρ y) _ v)) (good_read ys t ρ σ h (and_second (Vis ρ y) _ v) g)

  good_read_opt : (x : Option ℕ) (t : Trace) (ρ σ : List ℕ) → Sub ρ σ → Yes (opt_vis (standing xs) ρ x) → Good t σ → Good (▸readOpt x t) σ
  unfolding ▸readOpt opt_vis
  good_read_opt none t ρ σ h v g = g
  good_read_opt (some e) t ρ σ h v g = s_read (h e v) g

  good_eval_opt : (r : Option ℕ) (k : Rest) (ρ σ : List ℕ) → Sub ρ σ → Runs (add_opt r ρ) k → (cs : List ℕ) → Good (▸evalOpt r (k cs)) σ
  unfolding ▸evalOpt add_opt
  good_eval_opt none k ρ σ h f cs = f σ h cs
  good_eval_opt (some e) k ρ σ h f cs = s_eval (f (e ∷ σ) (sub_cons e ρ σ h) cs)

  good_emit : (es : List ℕ) (k : Rest) (ρ σ : List ℕ) → Sub ρ σ → Yes (ok_e xs es ρ) → Runs (add_e es ρ) k → (cs : List ℕ) → Good (▸emit xs es (k cs)) σ
  unfolding ▸emit ok_e add_e
  good_emit [] k ρ σ h t f cs = f σ h cs
  good_emit (e ∷ es) k ρ σ h t f cs =
      good_read (ops xs e) _ ρ σ h (and_first (all_vis (standing xs) ρ (ops xs e)) _ t)
      (s_eval (good_emit es k (e ∷ ρ) (e ∷ σ) (sub_cons e ρ σ h) (and_second (all_vis (standing xs) ρ (ops xs e)) _ t) f cs))

  good_choose : (k : ℕ → Rest) (σ : List ℕ) → ((n : ℕ) (ds : List ℕ) → Good (k n ds) σ) → (cs : List ℕ) → Good (choose k cs) σ
  unfolding choose
  good_choose k σ f [] = s_halt
  good_choose k σ f (n ∷ cs) = f n cs

  good_pick : (a b : Rest) (σ : List ℕ) → ((ds : List ℕ) → Good (a ds) σ) → ((ds : List ℕ) → Good (b ds) σ) → (n : ℕ) (ds : List ℕ) → Good (pick a b n ds) σ
  unfolding pick
  good_pick a b σ f g zero ds = g ds
  good_pick a b σ f g (suc n) ds = f ds

  runs_end : (x : Option ℕ) (out again : Rest) (ρ : List ℕ) → Yes (opt_vis (standing xs) ρ x) → Runs ρ out → Runs ρ again → Runs ρ (round_end x out again)
  unfolding round_end opt_vis
  runs_end none out again ρ t f g σ h cs = good_choose _ σ (λ n ds. g σ h ds) cs
  runs_end (some e) out again ρ t f g σ h cs = s_read (h e t) (good_choose _ σ (good_pick out again σ (f σ h) (g σ h)) cs)

  runs_fall : (t : ℕ) (k out : Rest) (ρ : List ℕ) → Runs ρ k → Runs ρ out → Runs ρ (fall_to t k out)
  unfolding fall_to
  runs_fall zero k out ρ f g = g
  runs_fall (suc t) k out ρ f g = f

  -- what a part does from a scope ρ: ρn is the scope after it, ρc that at its Continues, of which it has some only if H
  abbrev Does : (ρ ρn ρc : List ℕ) (H : Type 0) → (K → Rest) → Type 0
  Does ρ ρn ρc H w = (k : K) → Runs ρn k.go → Runs ρ k.brk → (H → Runs ρc k.con) → Runs ρ (w k)

  -- a Loop: ρ its scope, ρb after its body, ρc at its continuing block, ρx at its break_if
  runs_rounds : (n : ℕ) (b c : K → Rest) (x : Option ℕ) (out : Rest) (ρ ρb ρc ρx ρd : List ℕ) (H J : Type 0)
      → Sub ρc ρb → Sub ρ ρc → Sub ρc ρx → Yes (opt_vis (standing xs) ρx x) → Does ρ ρb ρc H b → Does ρc ρx ρd J c → Runs ρ out → Runs ρ (rounds n b c x out)
  unfolding rounds only
  runs_rounds zero b c x out ρ ρb ρc ρx ρd H J i₁ i₂ i₃ t fb fc f σ h cs = s_halt
  runs_rounds (suc n) b c x out ρ ρb ρc ρx ρd H J i₁ i₂ i₃ t fb fc f σ h cs =
      let again : Runs ρ (rounds n b c x out) = λ τ s ds. runs_rounds n b c x out ρ ρb ρc ρx ρd H J i₁ i₂ i₃ t fb fc f τ s ds in
      let cont = fc _ (runs_end x out (λ ds. rounds n b c x out ds) ρx t (λ τ s ds. f τ (λ e v. s e (i₃ e (i₂ e v))) ds) (λ τ s ds. again τ (λ e v. s e (i₃ e (i₂ e v))) ds))
      (runs_ends _ ρc) (λ j. runs_ends _ ρd) in
      fb _ (λ τ s ds. cont τ (λ e v. s e (i₁ e v)) ds) f (λ j. cont) σ h cs

  -- a block inside a statement: its scope is given up
  inner : (b : XBlock) (ρ : List ℕ) (w : K → Rest) → Does ρ (top_b b ρ) (cont_b b ρ) (Yes (holds_b b)) w → Does ρ ρ ρ (Yes (holds_b b)) w
  inner b ρ w d k f fb fc = d k (λ τ s ds. f τ (λ e v. s e (sub_top b ρ e v)) ds) fb (λ j τ s ds. fc j τ (λ e v. s e (sub_in b ρ e v)) ds)

  -- the two halves of what a block's Continues may use
  early : (t u : Bool) (ρ ρ' : List ℕ) (k : Rest) → (Yes (t || u) → Runs (elim t [ true ↦ ρ | false ↦ ρ' ]) k) → Yes t → Runs ρ k
  early true u ρ ρ' k f h = f refl
  early false u ρ ρ' k f h = absurd (false≢true h)

  late : (t u : Bool) (ρ ρ' : List ℕ) (k : Rest) → Sub ρ ρ' → (Yes (t || u) → Runs (elim t [ true ↦ ρ | false ↦ ρ' ]) k) → Yes u → Runs ρ' k
  late true u ρ ρ' k s f h = λ σ v ds. f refl σ (λ e w. v e (s e w)) ds
  late false u ρ ρ' k s f h = f h

  mutual
    unfolding walk_s ok_s holds_s add_f add_s top_b cont_b

    sound_s : (s : XStmt) (ρ : List ℕ) → Yes (ok_s s xs ρ) → Does ρ (add_s s ρ) ρ (Yes (holds_s s)) (λ k. walk_s s xs k)
    sound_s (stmt a b f) ρ t k g fb fc σ h cs = sound_f f ρ t k g fb fc σ h cs

    sound_f : (f : XForm) (ρ : List ℕ) → Yes (ok_f f xs ρ) → Does ρ (add_f f ρ) ρ (Yes (holds_f f)) (λ k. walk_f f xs k)
    sound_f (emit es) ρ t k f fb fc σ h cs = good_emit es k.go ρ σ h t f cs
    sound_f (block b) ρ t k f fb fc σ h cs = inner b ρ _ (λ j f₁ f₂ f₃ τ s ys. sound_b b ρ t j f₁ f₂ f₃ τ s ys) k f fb fc σ h cs
    sound_f (branch c a b) ρ t k f fb fc σ h cs =
        let t₁ = and_second (Vis ρ c) _ t in
        s_read (h c (and_first (Vis ρ c) _ t))
        (good_choose _ σ
        (good_pick _ _ σ
        (λ ds. inner a ρ _ (λ j f₁ f₂ f₃ τ s ys. sound_b a ρ (and_first (ok_b a xs ρ) _ t₁) j f₁ f₂ f₃ τ s ys) k f fb (λ j. fc (or_l (holds_b a) _ j)) σ h ds)
        (λ ds. inner b ρ _ (λ j f₁ f₂ f₃ τ s ys. sound_b b ρ (and_second (ok_b a xs ρ) _ t₁) j f₁ f₂ f₃ τ s ys) k f fb (λ j. fc (or_r (holds_b a) _ j)) σ h ds))
        cs)
    sound_f (switch c ks) ρ t k f fb fc σ h cs =
        s_read (h c (and_first (Vis ρ c) _ t)) (good_choose _ σ (λ n ds. sound_c ks ρ (and_second (Vis ρ c) _ t) n _ f f fc σ h ds) cs)
    sound_f (loop a b x) ρ t k f fb fc σ h cs =
        let t₁ = and_second (ok_b a xs ρ) _ t in
        runs_rounds (suc (length cs)) (λ j ds. walk_b a xs j ds) (λ j ds. walk_b b xs j ds) x k.go ρ (top_b a ρ) (cont_b a ρ) (top_b b (cont_b a ρ)) (cont_b b (cont_b a ρ)) (Yes (holds_b a)) (Yes (holds_b b))
        (sub_cont a ρ) (sub_in a ρ) (sub_top b (cont_b a ρ)) (and_second (ok_b b xs (cont_b a ρ)) _ t₁)
        (λ j f₁ f₂ f₃ τ s ds. sound_b a ρ (and_first (ok_b a xs ρ) _ t) j f₁ f₂ f₃ τ s ds)
        (λ j f₁ f₂ f₃ τ s ds. sound_b b (cont_b a ρ) (and_first (ok_b b xs (cont_b a ρ)) _ t₁) j f₁ f₂ f₃ τ s ds)
        f σ h cs
    sound_f break ρ t k f fb fc σ h cs = fb σ h cs
    sound_f continue ρ t k f fb fc σ h cs = fc refl σ h cs
    sound_f (return x) ρ t k f fb fc σ h cs = good_read_opt x _ ρ σ h t s_halt
    sound_f kill ρ t k f fb fc σ h cs = s_halt
    sound_f (call g ys r) ρ t k f fb fc σ h cs = good_read ys _ ρ σ h t (s_call_lem (good_eval_opt r k.go ρ σ h f cs))
    sound_f (effect n ws) ρ t k f fb fc σ h cs = good_read (ops_of ws) _ ρ σ h t (good_eval_opt (result_of ws) k.go ρ σ h f cs)

    pub sound_b : (b : XBlock) (ρ : List ℕ) → Yes (ok_b b xs ρ) → Does ρ (top_b b ρ) (cont_b b ρ) (Yes (holds_b b)) (λ k. walk_b b xs k)
    sound_b end ρ t k f fb fc σ h cs = f σ h cs
    sound_b (s then b) ρ t k f fb fc σ h cs =
        sound_s s ρ (and_first (ok_s s xs ρ) _ t) _
        (λ τ u ds. sound_b b (add_s s ρ) (and_second (ok_s s xs ρ) _ t) k f
        (λ υ w es. fb υ (λ e v. w e (sub_add_s s ρ e v)) es)
        (late (holds_s s) (holds_b b) ρ _ k.con (λ e v. sub_in b (add_s s ρ) e (sub_add_s s ρ e v)) fc)
        τ u ds)
        fb
        (early (holds_s s) (holds_b b) ρ _ k.con fc)
        σ h cs

    sound_k : (c : XCase) (ρ : List ℕ) → Yes (ok_k c xs ρ) → (next : Rest) → Runs ρ next → Does ρ ρ ρ (Yes (holds_k c)) (λ k. walk_k c xs next k)
    sound_k (case v b t) ρ y next n k f fb fc σ h cs = inner b ρ _ (λ j f₁ f₂ f₃ τ s ys. sound_b b ρ y j f₁ f₂ f₃ τ s ys) _ (runs_fall t next k.go ρ n f) fb fc σ h cs

    sound_c : (ks : XCases) (ρ : List ℕ) → Yes (ok_c ks xs ρ) → (n : ℕ) → Does ρ ρ ρ (Yes (holds_c ks)) (λ k. walk_c ks xs k n)
    sound_c nomore ρ t n k f fb fc σ h cs = s_halt
    sound_c (c also ks) ρ t zero k f fb fc σ h cs =
        sound_k c ρ (and_first (ok_k c xs ρ) _ t) _ (λ τ s ds. sound_c ks ρ (and_second (ok_k c xs ρ) _ t) zero k f fb (λ j. fc (or_r (holds_k c) _ j)) τ s ds) k f fb (λ j. fc (or_l (holds_k c) _ j)) σ h cs
    sound_c (c also ks) ρ t (suc n) k f fb fc σ h cs = sound_c ks ρ (and_second (ok_k c xs ρ) _ t) n k f fb (λ j. fc (or_r (holds_k c) _ j)) σ h cs

  pub body-sound : (b : XBlock) → Yes (ok_b b xs []) → (cs : List ℕ) → Good (walk_b b xs (only (ends finished)) cs) []
  unfolding only
  body-sound b t cs = sound_b b [] t _ (runs_ends _ _) (runs_ends _ _) (λ j. runs_ends _ _) [] (λ e v. v) cs
