-- Agreement carries walks. Each part of a walk commutes with carrying: `Is k k'` says that k' is k carried, for every list of numbers, and a part whose continuations are carried is carried.
use Prim.Native.Nat.{ℕ, zero, suc}
use Rattle.std.proofs.Math.Path.{◌≡◌, refl, ap}
use Rattle.std.proofs.Common.{sym, ◌∙◌, eqb-true}
use Rattle.std.specs.Prelude.{Bool, ◌&&◌, ◌||◌, length}
use Rattle.std.proofs.Math.Bool.{true, false, not}
use Rattle.std.proofs.lemmas.Bool.{false≢true}
use mathlib.Core.List.{List, [], ◌∷◌, map}
use Rattle.std.proofs.Math.Option.{Option, none, some}
use Rattle.std.proofs.Math.Dec.{eqb}
use Rattle.theory_lists.specs.Booleans.{and_first, and_second, by}
use Rattle.model.specs.Outcome.{Cells, class, word}
use Rattle.model.specs.Table.{SPAN, UPTO, NAME, FUNCTION, EXPR, OPT_EXPR, RESULT, OPT_RESULT, EXPR_KIND}
use Rattle.model.specs.Tree.{stmt, emit, block, branch, switch, loop, break, continue, return, kill, call, effect, end, ◌then◌, case, nomore, ◌also◌, Function, opt_of}
use Rattle.model.specs.Module.{Module}
use Rattle.model.specs.Operands.{optional, operand, ops_of, result_of, function_of, NO_KIND, kind, ops}
use Rattle.model.specs.Initial.{here, there}
use Rattle.model.specs.Scope.{XStmt, XForm, XBlock, XCase, XCases, evals_opt, seen}
use Rattle.model.specs.Walk.{read, eval, calls, End, Trace, halt, ◌▸◌, finished, Rest, K, ends, only, ▸read, ▸readOpt, ▸evalOpt, ▸emit, choose, pick, round_end, rounds, fall_to, walk_s, walk_f, walk_b, walk_k, walk_c, walk}
use Rattle.theory_image.specs.Members.{mem_left, mem_right}
use Rattle.theory_walks.specs.Members.{Each}
use Rattle.theory_walks.specs.Agreement.{Maps, opt_word, carriers, through, carried, plain, Alike, start, upto, text, field, AlikeR, over, next, carry_opt, carry_cells, carry_s, carry_f, carry_b, carry_k, carry_c, mentions_e, mentions_s, mentions_f, mentions_b, mentions_k, mentions_c, mentioned, Agrees, carry_e, carry_t, end_of, Carries}

-- no name among the cells
unfoldable pub nameless : Cells → Bool
nameless [] = true
nameless (c ∷ cs) = not (eqb (class c) NAME) && nameless cs

-- ---- cells carried
module _ (μ : Maps) (f : ℕ → ℕ) where
  optional-carry : (w : ℕ) (xs : List ℕ) → optional (opt_word f w) (map f xs) ≡ map f (optional w xs)
  unfolding optional opt_word
  optional-carry zero xs = refl
  optional-carry (suc e) xs = refl

  operand-other : (s w : ℕ) (xs : List ℕ) → eqb s EXPR ≡ false → eqb s OPT_EXPR ≡ false → operand s w xs ≡ xs
  unfolding operand
  operand-other s w xs h i = rw (operand, h, i)

  operand-carry : (s w : ℕ) (xs : List ℕ) → operand s (carried μ f s w) (map f xs) ≡ map f (operand s w xs)
  unfolding operand carried carriers through
  operand-carry s w xs =
      by _ (eqb s EXPR) (λ h. rw (eqb-true s EXPR h))
      (λ h. by _ (eqb s OPT_EXPR) (λ i. rw (eqb-true s OPT_EXPR i) (optional-carry w xs))
      (λ i. operand-other s _ (map f xs) h i ∙ ap (map f) (sym (operand-other s w xs h i))))

  pub ops-carry : (ws : Cells) → ops_of (carry_cells μ f ws) ≡ map f (ops_of ws)
  unfolding ops_of carry_cells
  ops-carry [] = refl
  ops-carry (c ∷ ws) = rw (ops-carry ws) (operand-carry (class c) (word c) (ops_of ws))

  opt_carry : (w : ℕ) → opt_of (opt_word f w) ≡ carry_opt f (opt_of w)
  unfolding opt_of opt_word carry_opt
  opt_carry zero = refl
  opt_carry (suc e) = refl

  pub result_carry : (ws : Cells) → result_of (carry_cells μ f ws) ≡ carry_opt f (result_of ws)
  unfolding result_of carry_cells carry_opt carried carriers through
  result_carry [] = refl
  result_carry ((s, w) ∷ ws) = go (eqb s RESULT) (eqb s OPT_RESULT) refl refl (result_carry ws)
    where
      go : (p q : Bool) → eqb s RESULT ≡ p → eqb s OPT_RESULT ≡ q → result_of (carry_cells μ f ws) ≡ carry_opt f (result_of ws)
          → elim p [ true ↦ some (carried μ f s w) | false ↦ elim q [ true ↦ opt_of (carried μ f s w) | false ↦ result_of (carry_cells μ f ws) ] ]
          ≡ carry_opt f (elim p [ true ↦ some w | false ↦ elim q [ true ↦ opt_of w | false ↦ result_of ws ] ])
      go true q h i ih = rw (eqb-true s RESULT h)
      go false true h i ih = rw (eqb-true s OPT_RESULT i) (opt_carry w)
      go false false h i ih = ih

  module _ (M M' : Module) where
    -- ---- records that agree: the operands are carried, the kind is the same, and the function of a CallResult is carried
    alike-operand : {s w w' : ℕ} → Alike M M' μ f s w w' → (xs : List ℕ) → operand s w' (map f xs) ≡ map f (operand s w xs)
    unfolding operand
    alike-operand start xs = refl
    alike-operand upto xs = refl
    alike-operand (text h) xs = refl
    alike-operand (field {s = s} {w = w} h q) xs = rw q (operand-carry s w xs)

    pub alike-ops : {r r' : Cells} → AlikeR M M' μ f r r' → ops_of r' ≡ map f (ops_of r)
    unfolding ops_of
    alike-ops over = refl
    alike-ops (next {r = r} a b) = rw (alike-ops b) (alike-operand a (ops_of r))

    alike_kind_word : {s w w' : ℕ} → Alike M M' μ f s w w' → eqb s EXPR_KIND ≡ true → w' ≡ w
    unfolding carried carriers through
    alike_kind_word start h = absurd (false≢true h)
    alike_kind_word upto h = absurd (false≢true h)
    alike_kind_word (text q) h = absurd (false≢true h)
    alike_kind_word (field {s = s} {w = w} p q) h = q ∙ rw (eqb-true s EXPR_KIND h)

    pub alike-kind : {r r' : Cells} → AlikeR M M' μ f r r' → kind r' ≡ kind r
    unfolding kind
    alike-kind over = refl
    alike-kind (next {s = s} {w = w} {w' = w'} a b) = go (eqb s EXPR_KIND) refl
      where
        go : (p : Bool) → eqb s EXPR_KIND ≡ p → ◌≡◌ {A = ℕ} (elim p [ true ↦ w' | false ↦ NO_KIND ]) (elim p [ true ↦ w | false ↦ NO_KIND ])
        go true h = alike_kind_word a h
        go false h = refl

    alike_function_word : {s w w' : ℕ} → Alike M M' μ f s w w' → eqb s FUNCTION ≡ true → w' ≡ μ.function w
    unfolding carried carriers through
    alike_function_word start h = absurd (false≢true h)
    alike_function_word upto h = absurd (false≢true h)
    alike_function_word (text q) h = absurd (false≢true h)
    alike_function_word (field {s = s} {w = w} p q) h = q ∙ rw (eqb-true s FUNCTION h)

    pub alike-function : {r r' : Cells} → AlikeR M M' μ f r r' → function_of r' ≡ carry_opt μ.function (function_of r)
    unfolding function_of carry_opt
    alike-function over = refl
    alike-function (next {s = s} {w = w} {w' = w'} {r = r} {r' = r'} a b) = go (eqb s FUNCTION) refl (alike-function b)
      where
        go : (p : Bool) → eqb s FUNCTION ≡ p → function_of r' ≡ carry_opt μ.function (function_of r)
            → elim p [ true ↦ some w' | false ↦ function_of r' ] ≡ carry_opt μ.function (elim p [ true ↦ some w | false ↦ function_of r ])
        go true h ih = ap some (alike_function_word a h)
        go false h ih = ih

    -- a record without names agrees with itself carried
    cell-carried : (s w : ℕ) → not (eqb s NAME) ≡ true → Alike M M' μ f s w (carried μ f s w)
    unfolding plain
    cell-carried s w n =
        by _ (eqb s SPAN) (λ q. rw (eqb-true s SPAN q) start)
        (λ p. by _ (eqb s UPTO) (λ q. rw (eqb-true s UPTO q) upto) (λ q. field (go (eqb s SPAN) (eqb s UPTO) (eqb s NAME) p q n) refl))
      where
        go : (a b c : Bool) → a ≡ false → b ≡ false → not c ≡ true → not (a || (b || c)) ≡ true
        go true b c p q n = absurd (false≢true (sym p))
        go false true c p q n = absurd (false≢true (sym q))
        go false false c p q n = n

    pub alike-carried : (r : Cells) → nameless r ≡ true → AlikeR M M' μ f r (carry_cells μ f r)
    unfolding nameless carry_cells
    alike-carried [] h = over
    alike-carried ((s, w) ∷ r) h = next (cell-carried s w (and_first (not (eqb s NAME)) _ h)) (alike-carried r (and_second (not (eqb s NAME)) _ h))

  -- ---- the parts of a walk
  -- k' is k carried
  abbrev Is : Rest → Rest → Type 0
  Is k k' = (ds : List ℕ) → k' ds ≡ carry_t μ f (k ds)

  record IsK (k k' : K) : Type 0 where
    go : Is k.go k'.go
    brk : Is k.brk k'.brk
    con : Is k.con k'.con

  ends-carry : (h : End) → Is (ends h) (ends h)
  unfolding ends carry_t
  ends-carry h ds = refl

  only-carry : (k k' : Rest) → Is k k' → IsK (only k) (only k')
  unfolding only
  only-carry k k' h = record { go = h; brk = ends-carry finished; con = ends-carry finished }

  read-carry : (xs : List ℕ) (t : Trace) → ▸read (map f xs) (carry_t μ f t) ≡ carry_t μ f (▸read xs t)
  unfolding ▸read carry_t carry_e
  read-carry [] t = refl
  read-carry (x ∷ xs) t = ap (read (f x) ▸◌) (read-carry xs t)

  read_opt_carry : (x : Option ℕ) (t : Trace) → ▸readOpt (carry_opt f x) (carry_t μ f t) ≡ carry_t μ f (▸readOpt x t)
  unfolding ▸readOpt carry_opt carry_t carry_e
  read_opt_carry none t = refl
  read_opt_carry (some e) t = refl

  eval_opt_carry : (x : Option ℕ) (t : Trace) → ▸evalOpt (carry_opt f x) (carry_t μ f t) ≡ carry_t μ f (▸evalOpt x t)
  unfolding ▸evalOpt carry_opt carry_t carry_e
  eval_opt_carry none t = refl
  eval_opt_carry (some e) t = refl

  choose-carry : (k k' : ℕ → Rest) → ((n : ℕ) → Is (k n) (k' n)) → Is (choose k) (choose k')
  unfolding choose carry_t
  choose-carry k k' h [] = refl
  choose-carry k k' h (n ∷ cs) = h n cs

  pick-carry : (a a' b b' : Rest) → Is a a' → Is b b' → (n : ℕ) → Is (pick a b n) (pick a' b' n)
  unfolding pick
  pick-carry a a' b b' p q zero ds = q ds
  pick-carry a a' b b' p q (suc n) ds = p ds

  round-carry : (x : Option ℕ) (o o' k k' : Rest) → Is o o' → Is k k' → Is (round_end x o k) (round_end (carry_opt f x) o' k')
  unfolding round_end carry_opt carry_t carry_e
  round-carry none o o' k k' p h cs = choose-carry _ _ (λ n ds. h ds) cs
  round-carry (some e) o o' k k' p h cs = ap (read (f e) ▸◌) (choose-carry _ _ (pick-carry o o' k k' p h) cs)

  rounds-carry : (n : ℕ) (b b' c c' : K → Rest) (x : Option ℕ) (o o' : Rest)
      → ((k k' : K) → IsK k k' → Is (b k) (b' k')) → ((k k' : K) → IsK k k' → Is (c k) (c' k')) → Is o o'
      → Is (rounds n b c x o) (rounds n b' c' (carry_opt f x) o')
  unfolding rounds carry_t
  rounds-carry zero b b' c c' x o o' p q r cs = refl
  rounds-carry (suc n) b b' c c' x o o' p q r cs =
      let cont = q _ _ (only-carry _ _ (round-carry x o o' _ _ r (rounds-carry n b b' c c' x o o' p q r))) in
      p _ _ (record { go = cont; brk = r; con = cont }) cs

  fall_carry : (t : ℕ) (k k' o o' : Rest) → Is k k' → Is o o' → Is (fall_to t k o) (fall_to t k' o')
  unfolding fall_to
  fall_carry zero k k' o o' p q = q
  fall_carry (suc t) k k' o o' p q = p

  -- ---- a body, over two tables of expressions
  module _ (xs xs' : List Cells) where
    -- the operands of e are carried
    abbrev pub Same : ℕ → Type 0
    Same e = ops xs' (f e) ≡ map f (ops xs e)

    emit_carry : (es : List ℕ) (t : Trace) → Each Same (mentions_e es xs) → ▸emit xs' (map f es) (carry_t μ f t) ≡ carry_t μ f (▸emit xs es t)
    unfolding ▸emit carry_t carry_e mentions_e
    emit_carry [] t a = refl
    emit_carry (e ∷ es) t a = rw (a e here, emit_carry es t (λ d m. a d (there (mem_right (ops xs e) m)))) (read-carry (ops xs e) (eval e ▸ ▸emit xs es t))

    mutual
      unfolding walk_s carry_s carry_t carry_e mentions_s

      agree_s : (s : XStmt) → Each Same (mentions_s s xs) → (k k' : K) → IsK k k' → Is (walk_s s xs k) (walk_s (carry_s s μ f) xs' k')
      agree_s (stmt p q g) a k k' h cs = agree_f g a k k' h cs

      agree_f : (g : XForm) → Each Same (mentions_f g xs) → (k k' : K) → IsK k k' → Is (walk_f g xs k) (walk_f (carry_f g μ f) xs' k')
      agree_f (emit es) a k k' h cs = rw (h.go cs) (emit_carry es (k.go cs) a)
      agree_f (block b) a k k' h cs = agree_b b a k k' h cs
      agree_f (branch c p q) a k k' h cs =
          ap (read (f c) ▸◌) (choose-carry _ _ (pick-carry _ _ _ _
          (λ ds. agree_b p (λ d m. a d (there (mem_left (mentions_b q xs) m))) k k' h ds)
          (λ ds. agree_b q (λ d m. a d (there (mem_right (mentions_b p xs) m))) k k' h ds)) cs)
      agree_f (switch c ks) a k k' h cs = ap (read (f c) ▸◌) (choose-carry _ _ (λ n ds. agree_c ks (λ d m. a d (there m)) _ _ (record { go = h.go; brk = h.go; con = h.con }) n ds) cs)
      agree_f (loop p q x) a k k' h cs =
          rounds-carry (suc (length cs)) _ _ _ _ x _ _
          (λ j j' i ds. agree_b p (λ d m. a d (mem_right (evals_opt x) (mem_left (mentions_b q xs) m))) j j' i ds)
          (λ j j' i ds. agree_b q (λ d m. a d (mem_right (evals_opt x) (mem_right (mentions_b p xs) m))) j j' i ds) h.go cs
      agree_f break a k k' h cs = h.brk cs
      agree_f continue a k k' h cs = h.con cs
      agree_f (return x) a k k' h cs = read_opt_carry x _
      agree_f kill a k k' h cs = refl
      agree_f (call e ys r) a k k' h cs = rw (h.go cs, eval_opt_carry) (read-carry ys (calls e ▸ ▸evalOpt r (k.go cs)))
      agree_f (effect n ws) a k k' h cs = rw (h.go cs, result_carry ws, eval_opt_carry, ops-carry ws) (read-carry (ops_of ws) _)

      agree_b : (b : XBlock) → Each Same (mentions_b b xs) → (k k' : K) → IsK k k' → Is (walk_b b xs k) (walk_b (carry_b b μ f) xs' k')
      agree_b end a k k' h cs = h.go cs
      agree_b (s then b) a k k' h cs =
          agree_s s (λ d m. a d (mem_left (mentions_b b xs) m)) _ _ (record { go = λ ds. agree_b b (λ d m. a d (mem_right (mentions_s s xs) m)) k k' h ds; brk = h.brk; con = h.con }) cs

      agree_k : (c : XCase) → Each Same (mentions_k c xs) → (n n' : Rest) → Is n n' → (k k' : K) → IsK k k' → Is (walk_k c xs n k) (walk_k (carry_k c μ f) xs' n' k')
      agree_k (case v b t) a n n' p k k' h cs = agree_b b a _ _ (record { go = fall_carry t _ _ _ _ p h.go; brk = h.brk; con = h.con }) cs

      agree_c : (ks : XCases) → Each Same (mentions_c ks xs) → (k k' : K) → IsK k k' → (n : ℕ) → Is (walk_c ks xs k n) (walk_c (carry_c ks μ f) xs' k' n)
      agree_c nomore a k k' h n cs = refl
      agree_c (c also ks) a k k' h zero cs =
          agree_k c (λ d m. a d (mem_left (mentions_c ks xs) m)) _ _ (λ ds. agree_c ks (λ d m. a d (mem_right (mentions_k c xs) m)) k k' h zero ds) k k' h cs
      agree_c (c also ks) a k k' h (suc n) cs = agree_c ks (λ d m. a d (mem_right (mentions_k c xs) m)) k k' h n cs

    pub body-carried : (b : XBlock) → Each Same (mentions_b b xs) → (cs : List ℕ)
        → walk_b (carry_b b μ f) xs' (only (ends finished)) cs ≡ carry_t μ f (walk_b b xs (only (ends finished)) cs)
    body-carried b a cs = agree_b b a _ _ (only-carry _ _ (ends-carry finished)) cs

  end-carry : (t : Trace) → end_of (carry_t μ f t) ≡ end_of t
  unfolding end_of carry_t
  end-carry (halt h) = refl
  end-carry (e ▸ t) = end-carry t

  module _ (M M' : Module) (F F' : Function) (a : Agrees M M' μ F F' f) where
    pub walk-carried : (cs : List ℕ) → walk F' cs ≡ carry_t μ f (walk F cs)
    unfolding walk ops mentioned
    walk-carried cs = rw a.body (body-carried F.exprs F'.exprs (seen F) (λ e m. alike-ops M M' (a.records e m)) cs)

    pub carries : (cs : List ℕ) → Carries μ F F' f cs
    carries cs = record { events = walk-carried cs; alike = ap end_of (walk-carried cs) ∙ end-carry (walk F cs) }
