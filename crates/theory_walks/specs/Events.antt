-- THE EVENTS OF A WALK are of what the body mentions and of the functions that it calls: what holds of each of those holds of every event. So where each is mapped, the walk carried through the maps is carried by mapped numbers alone.
use Rattle.std.specs.Prelude.{◌≡◌, refl, length, get_or}
use Rattle.std.proofs.Common.{sym, ap, ap₂, ◌∙◌, subst}
use mathlib.Core.List.{List, [], ◌∷◌, ◌++◌}
use Rattle.std.proofs.Math.Option.{Option, none, some}
use Prim.Native.Nat.{ℕ, zero, suc, pred}
use Rattle.model.specs.Outcome.{Cells}
use Rattle.model.specs.Tree.{stmt, emit, block, branch, switch, loop, break, continue, return, kill, call, effect, end, ◌then◌, case, nomore, ◌also◌, Function}
use Rattle.model.specs.Operands.{ops_of, result_of, ops}
use Rattle.model.specs.Initial.{here, there}
use Rattle.model.specs.Scope.{XStmt, XForm, XBlock, XCase, XCases, evals_opt, seen}
use Rattle.model.specs.Walk.{read, eval, calls, End, Trace, halt, ◌▸◌, finished, Rest, K, ends, only, ▸read, ▸readOpt, ▸evalOpt, ▸emit, choose, pick, round_end, rounds, fall_to, walk_s, walk_f, walk_b, walk_k, walk_c, walk}
use Rattle.model.specs.Callees.{callees}
use Rattle.model.specs.Agreement.{Mapping}
use Rattle.theory_image.specs.Members.{mem_left, mem_right}
use Rattle.theory_walks.specs.Members.{Each}
use Rattle.theory_walks.specs.Agreement.{mentions_e, mentions_s, mentions_f, mentions_b, mentions_k, mentions_c, mentioned, carry_e, carry_t, end_of, carried-read, carried_eval, carried-call, CarriedT, carried-end, carried_on}
use Rattle.theory_walks.specs.Called.{called_s, called_f, called_b, called_k, called_c, called_is}
use Rattle.theory_walks.specs.WholeWords.{made, to}

-- P of every expression read or evaluated, and Q of every function called
pub data Along (P Q : ℕ → Type 0) : Trace → Type 0 where
  ended : {h : End} → Along P Q (halt h)
  reads : {e : ℕ} {t : Trace} → P e → Along P Q t → Along P Q (read e ▸ t)
  evals : {e : ℕ} {t : Trace} → P e → Along P Q t → Along P Q (eval e ▸ t)
  follows : {h : ℕ} {t : Trace} → Q h → Along P Q t → Along P Q (calls h ▸ t)

module _ (P Q : ℕ → Type 0) where
  abbrev A : Trace → Type 0
  A = Along P Q

  abbrev Is : Rest → Type 0
  Is k = (ds : List ℕ) → A (k ds)

  record IsK (k : K) : Type 0 where
    go : Is k.go
    brk : Is k.brk
    con : Is k.con

  ends-along : (h : End) → Is (ends h)
  unfolding ends
  ends-along h ds = ended

  only-along : (k : Rest) → Is k → IsK (only k)
  unfolding only
  only-along k h = record { go = h; brk = ends-along finished; con = ends-along finished }

  read-along : (xs : List ℕ) (t : Trace) → Each P xs → A t → A (▸read xs t)
  unfolding ▸read
  read-along [] t a h = h
  read-along (x ∷ xs) t a h = reads (a x here) (read-along xs t (λ e m. a e (there m)) h)

  read_opt_along : (x : Option ℕ) (t : Trace) → Each P (evals_opt x) → A t → A (▸readOpt x t)
  unfolding ▸readOpt evals_opt
  read_opt_along none t a h = h
  read_opt_along (some e) t a h = reads (a e here) h

  eval_opt_along : (x : Option ℕ) (t : Trace) → Each P (evals_opt x) → A t → A (▸evalOpt x t)
  unfolding ▸evalOpt evals_opt
  eval_opt_along none t a h = h
  eval_opt_along (some e) t a h = evals (a e here) h

  choose-along : (k : ℕ → Rest) → ((n : ℕ) → Is (k n)) → Is (choose k)
  unfolding choose
  choose-along k h [] = ended
  choose-along k h (n ∷ cs) = h n cs

  pick-along : (a b : Rest) → Is a → Is b → (n : ℕ) → Is (pick a b n)
  unfolding pick
  pick-along a b p q zero ds = q ds
  pick-along a b p q (suc n) ds = p ds

  round-along : (x : Option ℕ) (o k : Rest) → Each P (evals_opt x) → Is o → Is k → Is (round_end x o k)
  unfolding round_end evals_opt
  round-along none o k a p h cs = choose-along _ (λ n ds. h ds) cs
  round-along (some e) o k a p h cs = reads (a e here) (choose-along _ (pick-along o k p h) cs)

  rounds-along : (n : ℕ) (b c : K → Rest) (x : Option ℕ) (o : Rest) → Each P (evals_opt x) → ((k : K) → IsK k → Is (b k)) → ((k : K) → IsK k → Is (c k)) → Is o → Is (rounds n b c x o)
  unfolding rounds
  rounds-along zero b c x o a p q r cs = ended
  rounds-along (suc n) b c x o a p q r cs =
      let cont = q _ (only-along _ (round-along x o _ a r (rounds-along n b c x o a p q r))) in
      p _ (record { go = cont; brk = r; con = cont }) cs

  fall_along : (t : ℕ) (k o : Rest) → Is k → Is o → Is (fall_to t k o)
  unfolding fall_to
  fall_along zero k o p q = q
  fall_along (suc t) k o p q = p

  module _ (xs : List Cells) where
    emit_along : (es : List ℕ) (t : Trace) → Each P (mentions_e es xs) → A t → A (▸emit xs es t)
    unfolding ▸emit mentions_e
    emit_along [] t a h = h
    emit_along (e ∷ es) t a h = read-along (ops xs e) _ (λ d m. a d (there (mem_left (mentions_e es xs) m))) (evals (a e here) (emit_along es t (λ d m. a d (there (mem_right (ops xs e) m))) h))

    mutual
      unfolding walk_s mentions_s called_s

      along_s : (s : XStmt) → Each P (mentions_s s xs) → Each Q (called_s s) → (k : K) → IsK k → Is (walk_s s xs k)
      along_s (stmt p q g) a b k h cs = along_f g a b k h cs

      along_f : (g : XForm) → Each P (mentions_f g xs) → Each Q (called_f g) → (k : K) → IsK k → Is (walk_f g xs k)
      along_f (emit es) a b k h cs = emit_along es (k.go cs) a (h.go cs)
      along_f (block c) a b k h cs = along_b c a b k h cs
      along_f (branch c p q) a b k h cs =
          reads (a c here) (choose-along _ (pick-along _ _
          (λ ds. along_b p (λ d m. a d (there (mem_left (mentions_b q xs) m))) (λ d m. b d (mem_left (called_b q) m)) k h ds)
          (λ ds. along_b q (λ d m. a d (there (mem_right (mentions_b p xs) m))) (λ d m. b d (mem_right (called_b p) m)) k h ds)) cs)
      along_f (switch c ks) a b k h cs = reads (a c here) (choose-along _ (λ n ds. along_c ks (λ d m. a d (there m)) b _ (record { go = h.go; brk = h.go; con = h.con }) n ds) cs)
      along_f (loop p q x) a b k h cs =
          rounds-along (suc (length cs)) _ _ x _ (λ d m. a d (mem_left (mentions_b p xs ++ mentions_b q xs) m))
          (λ j i ds. along_b p (λ d m. a d (mem_right (evals_opt x) (mem_left (mentions_b q xs) m))) (λ d m. b d (mem_left (called_b q) m)) j i ds)
          (λ j i ds. along_b q (λ d m. a d (mem_right (evals_opt x) (mem_right (mentions_b p xs) m))) (λ d m. b d (mem_right (called_b p) m)) j i ds) h.go cs
      along_f break a b k h cs = h.brk cs
      along_f continue a b k h cs = h.con cs
      along_f (return x) a b k h cs = read_opt_along x _ a ended
      along_f kill a b k h cs = ended
      along_f (call e ys r) a b k h cs = read-along ys _ (λ d m. a d (mem_left (evals_opt r) m)) (follows (b e here) (eval_opt_along r _ (λ d m. a d (mem_right ys m)) (h.go cs)))
      along_f (effect n ws) a b k h cs = read-along (ops_of ws) _ (λ d m. a d (mem_left (evals_opt (result_of ws)) m)) (eval_opt_along (result_of ws) _ (λ d m. a d (mem_right (ops_of ws) m)) (h.go cs))

      along_b : (c : XBlock) → Each P (mentions_b c xs) → Each Q (called_b c) → (k : K) → IsK k → Is (walk_b c xs k)
      along_b end a b k h cs = h.go cs
      along_b (s then c) a b k h cs =
          along_s s (λ d m. a d (mem_left (mentions_b c xs) m)) (λ d m. b d (mem_left (called_b c) m)) _ (record { go = λ ds. along_b c (λ d m. a d (mem_right (mentions_s s xs) m)) (λ d m. b d (mem_right (called_s s) m)) k h ds; brk = h.brk; con = h.con }) cs

      along_k : (c : XCase) → Each P (mentions_k c xs) → Each Q (called_k c) → (n : Rest) → Is n → (k : K) → IsK k → Is (walk_k c xs n k)
      along_k (case v c t) a b n p k h cs = along_b c a b _ (record { go = fall_along t _ _ p h.go; brk = h.brk; con = h.con }) cs

      along_c : (ks : XCases) → Each P (mentions_c ks xs) → Each Q (called_c ks) → (k : K) → IsK k → (n : ℕ) → Is (walk_c ks xs k n)
      along_c nomore a b k h n cs = ended
      along_c (c also ks) a b k h zero cs =
          along_k c (λ d m. a d (mem_left (mentions_c ks xs) m)) (λ d m. b d (mem_left (called_c ks) m)) _ (λ ds. along_c ks (λ d m. a d (mem_right (mentions_k c xs) m)) (λ d m. b d (mem_right (called_k c) m)) k h zero ds) k h cs
      along_c (c also ks) a b k h (suc n) cs = along_c ks (λ d m. a d (mem_right (mentions_k c xs) m)) (λ d m. b d (mem_right (called_k c) m)) k h n cs

  -- WHAT HOLDS of each that is mentioned and of each that is called holds of every event
  pub walk-along : (F : Function) → Each P (mentioned F) → Each Q (callees F) → (cs : List ℕ) → A (walk F cs)
  unfolding walk mentioned
  walk-along F a b cs = along_b F.exprs (seen F) a (subst (Each Q) (sym (called_is F)) b) _ (only-along _ (ends-along finished)) cs

-- ---- mapped numbers
abbrev pub MappedIn : List ℕ → ℕ → Type 0
MappedIn o e = (k : ℕ) × (get_or o e 0 ≡ suc k)

-- a trace of mapped numbers, carried through the maps as functions, is carried by the maps
pub carried-by : (μ : Mapping) (o : List ℕ) (t : Trace) → Along (MappedIn o) (MappedIn μ.functions) t → CarriedT μ o t (carry_t (made μ) (to o) t)
unfolding carry_t carry_e made to
carried-by μ o (halt h) ended = carried-end
carried-by μ o (read e ▸ t) (reads p a) = carried_on (carried-read (p.1 ∙ ap suc (sym (ap pred p.1)))) (carried-by μ o t a)
carried-by μ o (eval e ▸ t) (evals p a) = carried_on (carried_eval (p.1 ∙ ap suc (sym (ap pred p.1)))) (carried-by μ o t a)
carried-by μ o (calls h ▸ t) (follows p a) = carried_on (carried-call (p.1 ∙ ap suc (sym (ap pred p.1)))) (carried-by μ o t a)

-- what is carried by the maps is what they make of it as functions, and ends alike
pub carried_is : (μ : Mapping) (o : List ℕ) {t t' : Trace} → CarriedT μ o t t' → (t' ≡ carry_t (made μ) (to o) t) × (end_of t' ≡ end_of t)
unfolding carry_t carry_e made to end_of
carried_is μ o carried-end = (refl, refl)
carried_is μ o (carried_on (carried-read {k = k} q) c) = let r = carried_is μ o c in (ap₂ (λ n t. read n ▸ t) (sym (ap pred q)) r.0, r.1)
carried_is μ o (carried_on (carried_eval {k = k} q) c) = let r = carried_is μ o c in (ap₂ (λ n t. eval n ▸ t) (sym (ap pred q)) r.0, r.1)
carried_is μ o (carried_on (carried-call {k = k} q) c) = let r = carried_is μ o c in (ap₂ (λ n t. calls n ▸ t) (sym (ap pred q)) r.0, r.1)
