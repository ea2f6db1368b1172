-- Places: a body whose Breaks and Continues have their places never uses what a Break or a Continue without one would do. Two ways on that agree where the place lets them be used give the same walk (`placed_b`).
use Rattle.std.specs.Prelude.{ℕ, zero, suc, ◌≡◌, refl, List, [], ◌∷◌, length}
use Rattle.std.proofs.Common.{ap}
use Rattle.std.proofs.Math.Option.{Option, none, some}
use Rattle.std.proofs.lemmas.Bool.{false≢true}
use Rattle.theory_lists.specs.Booleans.{Yes, and_first, and_second}
use Rattle.model.specs.Outcome.{Cells}
use Rattle.model.specs.Tree.{stmt, emit, block, branch, switch, loop, break, continue, return, kill, call, effect, end, ◌then◌, case, nomore, ◌also◌}
use Rattle.model.specs.Operands.{ops_of, result_of}
use Rattle.model.specs.Scope.{XStmt, XForm, XBlock, XCase, XCases, Place, in_switch, in_loop, in_continuing, shape_s, shape_f, shape_b, shape_k, shape_c}
use Rattle.model.specs.Walk.{read, calls, ◌▸◌, Rest, K, only, ▸read, ▸evalOpt, ▸emit, choose, pick, round_end, rounds, fall_to, walk_s, walk_f, walk_b, walk_k, walk_c}

abbrev Same : Rest → Rest → Type 0
Same k j = (ds : List ℕ) → k ds ≡ j ds

-- k and j agree in all that may be used at the place p
pub record Like (p : Place) (k j : K) : Type 0 where
  pub go : (ds : List ℕ) → k.go ds ≡ j.go ds
  pub brk : Yes p.breaks → (ds : List ℕ) → k.brk ds ≡ j.brk ds
  pub con : Yes p.continues → (ds : List ℕ) → k.con ds ≡ j.con ds

choose_like : (k j : ℕ → Rest) → ((n : ℕ) → Same (k n) (j n)) → Same (choose k) (choose j)
unfolding choose
choose_like k j h [] = refl
choose_like k j h (n ∷ cs) = h n cs

pick_like : (a a' b b' : Rest) → Same a a' → Same b b' → (n : ℕ) → Same (pick a b n) (pick a' b' n)
unfolding pick
pick_like a a' b b' p q zero ds = q ds
pick_like a a' b b' p q (suc n) ds = p ds

round_like : (x : Option ℕ) (o o' k k' : Rest) → Same o o' → Same k k' → Same (round_end x o k) (round_end x o' k')
unfolding round_end
round_like none o o' k k' p q cs = choose_like _ _ (λ n. q) cs
round_like (some e) o o' k k' p q cs = ap (read e ▸◌) (choose_like _ _ (pick_like o o' k k' p q) cs)

rounds_like : (n : ℕ) (p : Place) (b c : K → Rest) (x : Option ℕ) (o o' : Rest)
    → ((k j : K) → Like (in_loop p) k j → Same (b k) (b j)) → ((k j : K) → Like in_continuing k j → Same (c k) (c j)) → Same o o'
    → Same (rounds n b c x o) (rounds n b c x o')
unfolding rounds only
rounds_like zero p b c x o o' f g q cs = refl
rounds_like (suc n) p b c x o o' f g q cs =
    let cont = g _ _ (record { go = round_like x o o' _ _ q (rounds_like n p b c x o o' f g q); brk = λ h. absurd (false≢true h); con = λ h. absurd (false≢true h) }) in
    f _ _ (record { go = cont; brk = λ h. q; con = λ h. cont }) cs

fall_like : (t : ℕ) (k k' o o' : Rest) → Same k k' → Same o o' → Same (fall_to t k o) (fall_to t k' o')
unfolding fall_to
fall_like zero k k' o o' p q = q
fall_like (suc t) k k' o o' p q = p

module _ (xs : List Cells) where
  mutual
    unfolding walk_s shape_s

    placed_s : (s : XStmt) (p : Place) → Yes (shape_s s p) → (k j : K) → Like p k j → Same (walk_s s xs k) (walk_s s xs j)
    placed_s (stmt a b f) p t k j h cs = placed_f f p t k j h cs

    placed_f : (f : XForm) (p : Place) → Yes (shape_f f p) → (k j : K) → Like p k j → Same (walk_f f xs k) (walk_f f xs j)
    placed_f (emit es) p t k j h cs = ap (▸emit xs es) (h.go cs)
    placed_f (block b) p t k j h cs = placed_b b p t k j h cs
    placed_f (branch c a b) p t k j h cs =
        ap (read c ▸◌) (choose_like _ _ (pick_like _ _ _ _ (λ ds. placed_b a p (and_first (shape_b a p) _ t) k j h ds) (λ ds. placed_b b p (and_second (shape_b a p) _ t) k j h ds)) cs)
    placed_f (switch c ks) p t k j h cs =
        ap (read c ▸◌) (choose_like _ _ (λ n ds. placed_c ks (in_switch p) t _ _ (record { go = h.go; brk = λ q. h.go; con = h.con }) n ds) cs)
    placed_f (loop a b x) p t k j h cs =
        rounds_like (suc (length cs)) p _ _ x k.go j.go
        (λ i i' u ds. placed_b a (in_loop p) (and_first (shape_b a (in_loop p)) _ t) i i' u ds) (λ i i' u ds. placed_b b in_continuing (and_second (shape_b a (in_loop p)) _ t) i i' u ds) h.go cs
    placed_f break p t k j h cs = h.brk t cs
    placed_f continue p t k j h cs = h.con t cs
    placed_f (return x) p t k j h cs = refl
    placed_f kill p t k j h cs = refl
    placed_f (call f ys r) p t k j h cs = ap (λ u. ▸read ys (calls f ▸ ▸evalOpt r u)) (h.go cs)
    placed_f (effect n ws) p t k j h cs = ap (λ u. ▸read (ops_of ws) (▸evalOpt (result_of ws) u)) (h.go cs)

    pub placed_b : (b : XBlock) (p : Place) → Yes (shape_b b p) → (k j : K) → Like p k j → (ds : List ℕ) → walk_b b xs k ds ≡ walk_b b xs j ds
    placed_b end p t k j h cs = h.go cs
    placed_b (s then b) p t k j h cs =
        placed_s s p (and_first (shape_s s p) _ t) _ _ (record { go = λ ds. placed_b b p (and_second (shape_s s p) _ t) k j h ds; brk = h.brk; con = h.con }) cs

    placed_k : (c : XCase) (p : Place) → Yes (shape_k c p) → (n m : Rest) → Same n m → (k j : K) → Like p k j → Same (walk_k c xs n k) (walk_k c xs m j)
    placed_k (case v b f) p t n m q k j h cs = placed_b b p t _ _ (record { go = fall_like f _ _ _ _ q h.go; brk = h.brk; con = h.con }) cs

    placed_c : (ks : XCases) (p : Place) → Yes (shape_c ks p) → (k j : K) → Like p k j → (n : ℕ) → Same (walk_c ks xs k n) (walk_c ks xs j n)
    placed_c nomore p t k j h n cs = refl
    placed_c (c also ks) p t k j h zero cs = placed_k c p (and_first (shape_k c p) _ t) _ _ (λ ds. placed_c ks p (and_second (shape_k c p) _ t) k j h zero ds) k j h cs
    placed_c (c also ks) p t k j h (suc n) cs = placed_c ks p (and_second (shape_k c p) _ t) k j h n cs
