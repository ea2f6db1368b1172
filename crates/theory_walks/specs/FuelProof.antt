-- The fuel of a Loop is never met: a Loop is its body, its continuing block, the end of the round, and the Loop again (`loop_unrolls`).
-- Why: what follows is used only at lists of numbers no longer than the walk's own, and at a shorter one after a round. So two walks whose continuations agree on such lists agree (`Resp`), and the fuel that is left after a round is again more than there are numbers.
use Rattle.std.specs.Prelude.{ℕ, zero, suc, ◌<◌, ◌≡◌, refl, List, [], ◌∷◌, length}
use Rattle.std.proofs.Common.{ap, arith}
use Rattle.std.proofs.Math.Option.{Option, none, some}
use Rattle.model.specs.Outcome.{Cells}
use Rattle.model.specs.Tree.{stmt, emit, block, branch, switch, loop, break, continue, return, kill, call, effect, end, ◌then◌, case, nomore, ◌also◌}
use Rattle.model.specs.Operands.{ops_of, result_of}
use Rattle.model.specs.Scope.{XStmt, XForm, XBlock, XCase, XCases}
use Rattle.model.specs.Walk.{read, calls, ◌▸◌, Rest, K, only, ▸read, ▸evalOpt, ▸emit, choose, pick, round_end, rounds, fall_to, walk_s, walk_f, walk_b, walk_k, walk_c}

-- k and j agree on lists shorter than N
abbrev Upto : ℕ → Rest → Rest → Type 0
Upto N k j = (ds : List ℕ) → length ds < N → k ds ≡ j ds

record UptoK (N : ℕ) (k j : K) : Type 0 where
  go : Upto N k.go j.go
  brk : Upto N k.brk j.brk
  con : Upto N k.con j.con

abbrev Resp : (K → Rest) → Type 0
Resp w = (N : ℕ) (k j : K) → UptoK N k j → Upto N (w k) (w j)

only_upto : (N : ℕ) (k j : Rest) → Upto N k j → UptoK N (only k) (only j)
unfolding only
only_upto N k j h = record { go = h; brk = λ ds m. refl; con = λ ds m. refl }

choose_upto : (N : ℕ) (k j : ℕ → Rest) → ((n : ℕ) (ds : List ℕ) → suc (length ds) < N → k n ds ≡ j n ds) → Upto N (choose k) (choose j)
unfolding choose
choose_upto N k j h [] l = refl
choose_upto N k j h (n ∷ cs) l = h n cs l

pick_upto : (a a' b b' : Rest) (n : ℕ) (ds : List ℕ) → a ds ≡ a' ds → b ds ≡ b' ds → pick a b n ds ≡ pick a' b' n ds
unfolding pick
pick_upto a a' b b' zero ds p q = q
pick_upto a a' b b' (suc n) ds p q = p

-- the next round has one number less
round_upto : (N : ℕ) (x : Option ℕ) (o o' k k' : Rest) → Upto N o o' → ((ds : List ℕ) → suc (length ds) < N → k ds ≡ k' ds) → Upto N (round_end x o k) (round_end x o' k')
unfolding round_end
round_upto N none o o' k k' p h cs l = choose_upto N _ _ (λ n ds m. h ds m) cs l
round_upto N (some e) o o' k k' p h cs l = ap (read e ▸◌) (choose_upto N _ _ (λ n ds m. pick_upto o o' k k' n ds (p ds (omega arith)) (h ds m)) cs l)

rounds_upto : (n n' : ℕ) (b c : K → Rest) (x : Option ℕ) (o o' : Rest) → Resp b → Resp c
    → (cs : List ℕ) → Upto (suc (length cs)) o o' → length cs < n → length cs < n' → rounds n b c x o cs ≡ rounds n' b c x o' cs
unfolding rounds
rounds_upto zero n' b c x o o' p q cs r l l' = absurd (omega arith)
rounds_upto (suc n) zero b c x o o' p q cs r l l' = absurd (omega arith)
rounds_upto (suc n) (suc n') b c x o o' p q cs r l l' =
    let again : Upto (suc (length cs)) _ _ =
    round_upto _ x o o' (λ ds. rounds n b c x o ds) (λ ds. rounds n' b c x o' ds) r (λ ds m. rounds_upto n n' b c x o o' p q ds (λ es w. r es (omega arith)) (omega arith) (omega arith)) in
    let cont : Upto (suc (length cs)) _ _ = q _ _ _ (only_upto _ _ _ again) in
    p _ _ _ (record { go = cont; brk = r; con = cont }) cs (omega arith)

fall_upto : (N t : ℕ) (k k' o o' : Rest) → Upto N k k' → Upto N o o' → Upto N (fall_to t k o) (fall_to t k' o')
unfolding fall_to
fall_upto N zero k k' o o' p q = q
fall_upto N (suc t) k k' o o' p q = p

module _ (xs : List Cells) where
  mutual
    unfolding walk_s

    resp_s : (s : XStmt) → Resp (λ k. walk_s s xs k)
    resp_s (stmt a b f) N k j h cs l = resp_f f N k j h cs l

    resp_f : (f : XForm) → Resp (λ k. walk_f f xs k)
    resp_f (emit es) N k j h cs l = ap (▸emit xs es) (h.go cs l)
    resp_f (block b) N k j h cs l = resp_b b N k j h cs l
    resp_f (branch c a b) N k j h cs l =
        ap (read c ▸◌) (choose_upto N _ _ (λ n ds m. pick_upto _ _ _ _ n ds (resp_b a N k j h ds (omega arith)) (resp_b b N k j h ds (omega arith))) cs l)
    resp_f (switch c ks) N k j h cs l =
        ap (read c ▸◌) (choose_upto N _ _ (λ n ds m. resp_c ks n N _ _ (record { go = h.go; brk = h.go; con = h.con }) ds (omega arith)) cs l)
    resp_f (loop a b x) N k j h cs l =
        rounds_upto (suc (length cs)) (suc (length cs)) _ _ x k.go j.go (λ M i i' u ds m. resp_b a M i i' u ds m) (λ M i i' u ds m. resp_b b M i i' u ds m)
        cs (λ ds m. h.go ds (omega arith)) (omega arith) (omega arith)
    resp_f break N k j h cs l = h.brk cs l
    resp_f continue N k j h cs l = h.con cs l
    resp_f (return x) N k j h cs l = refl
    resp_f kill N k j h cs l = refl
    resp_f (call f ys r) N k j h cs l = ap (λ t. ▸read ys (calls f ▸ ▸evalOpt r t)) (h.go cs l)
    resp_f (effect n ws) N k j h cs l = ap (λ t. ▸read (ops_of ws) (▸evalOpt (result_of ws) t)) (h.go cs l)

    resp_b : (b : XBlock) → Resp (λ k. walk_b b xs k)
    resp_b end N k j h cs l = h.go cs l
    resp_b (s then b) N k j h cs l = resp_s s N _ _ (record { go = λ ds m. resp_b b N k j h ds m; brk = h.brk; con = h.con }) cs l

    resp_k : (c : XCase) (N : ℕ) (r r' : Rest) → Upto N r r' → (k j : K) → UptoK N k j → Upto N (walk_k c xs r k) (walk_k c xs r' j)
    resp_k (case v b f) N r r' p k j h cs l = resp_b b N _ _ (record { go = fall_upto N f _ _ _ _ p h.go; brk = h.brk; con = h.con }) cs l

    resp_c : (ks : XCases) (n : ℕ) → Resp (λ k. walk_c ks xs k n)
    resp_c nomore n N k j h cs l = refl
    resp_c (c also ks) zero N k j h cs l = resp_k c N _ _ (λ ds m. resp_c ks zero N k j h ds m) k j h cs l
    resp_c (c also ks) (suc n) N k j h cs l = resp_c ks n N k j h cs l

pub loop_unrolls : (a b : XBlock) (x : Option ℕ) (xs : List Cells) (k : K) (cs : List ℕ)
    → walk_f (loop a b x) xs k cs
    ≡ (let cont : Rest = walk_b b xs (only (round_end x k.go (walk_f (loop a b x) xs k))) in walk_b a xs (record { go = cont; brk = k.go; con = cont }) cs)
unfolding walk_s rounds
loop_unrolls a b x xs k cs =
    let again : (ds : List ℕ) → suc (length ds) < suc (length cs) → rounds (length cs) _ _ x k.go ds ≡ walk_f (loop a b x) xs k ds =
    λ ds m. rounds_upto (length cs) (suc (length ds)) (λ i es. walk_b a xs i es) (λ i es. walk_b b xs i es) x k.go k.go (resp_b xs a) (resp_b xs b) ds (λ es w. refl) (omega arith) (omega arith) in
    let cont : Upto (suc (length cs)) _ _ = resp_b xs b _ _ _ (only_upto _ _ _ (round_upto _ x k.go k.go _ _ (λ ds m. refl) again)) in
    resp_b xs a _ _ _ (record { go = cont; brk = λ ds m. refl; con = cont }) cs (omega arith)
