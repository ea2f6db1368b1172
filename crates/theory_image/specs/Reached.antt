-- The marks of `Initial` are the judgement: `reached` holds of an expression exactly if the locals reach it, and `initial` exactly if it is also not standing.
-- Why the rounds are enough: a round that marks nothing new leaves the marks closed under reading, and any other leaves fewer unmarked, of which there are no more than rounds. No operand has to be lower, and a number outside the table is reached and reads nothing.
use Rattle.std.specs.Prelude.{◌≡◌, ◌⊎◌, Bool, true, false, ◌&&◌, not, List, [], ◌∷◌, eqb, ltb, length, replicate, set}
use Rattle.std.proofs.Math.Path.{refl}
use Rattle.std.proofs.Common.{ap, sym, ◌∙◌, subst, inl, inr, ⊎_elim, arith, length-set, ltb-true, ltb-false, eqb-true}
use Rattle.std.proofs.lemmas.Bool.{false≢true, eqb-false, not-true}
use Prim.Native.Nat.{ℕ, zero, suc, ◌<◌, ◌≤◌}
use Rattle.std.proofs.lemmas.List.{length-replicate}
use Rattle.std.proofs.Math.ListN.{get_or-eq_default}
use Rattle.theory_lists.specs.Booleans.{by, and_split}
use Rattle.model.specs.Outcome.{Cells}
use Rattle.model.specs.Tree.{Function}
use Rattle.model.specs.Operands.{ops_of, ops, kind, constant_kind, kind_at, standing}
use Rattle.model.specs.Initial.{Mem, here, there, root, step, Reached, roots, Marks, marked, mark, unmarked, read_by, close, reached_marks, reached, moving, initials, initial, constant_at, initialised}
use Rattle.theory_image.specs.Members.{no_mem, mem_left, mem_right, mem_cases}

-- ---- tests

-- ---- one mark
set_from : (m : Marks) (e x : ℕ) → marked (set m e true) x ≡ true → (marked m x ≡ true) ⊎ (x ≡ e)
unfolding marked
set_from [] e x h = inl h
set_from (b ∷ m) zero zero h = inr refl
set_from (b ∷ m) zero (suc x) h = inl h
set_from (b ∷ m) (suc e) zero h = inl h
set_from (b ∷ m) (suc e) (suc x) h = ⊎_elim inl (λ q. inr (ap suc q)) (set_from m e x h)

set_keeps : (m : Marks) (e x : ℕ) → marked m x ≡ true → marked (set m e true) x ≡ true
unfolding marked
set_keeps [] e x h = h
set_keeps (b ∷ m) zero zero h = refl
set_keeps (b ∷ m) zero (suc x) h = h
set_keeps (b ∷ m) (suc e) zero h = h
set_keeps (b ∷ m) (suc e) (suc x) h = set_keeps m e x h

set_hits : (m : Marks) (e : ℕ) → e < length m → marked (set m e true) e ≡ true
unfolding marked
set_hits [] e h = absurd (omega arith)
set_hits (b ∷ m) zero h = refl
set_hits (b ∷ m) (suc e) h = set_hits m e (omega arith)

set-less : (m : Marks) (e : ℕ) → (set m e true ≡ m) ⊎ (unmarked (set m e true) < unmarked m)
unfolding unmarked
set-less [] e = inl refl
set-less (true ∷ m) zero = inl refl
set-less (false ∷ m) zero = inr (omega arith)
set-less (true ∷ m) (suc e) = ⊎_elim (λ q. inl (ap (true ∷◌) q)) inr (set-less m e)
set-less (false ∷ m) (suc e) = ⊎_elim (λ q. inl (ap (false ∷◌) q)) (λ l. inr (omega arith)) (set-less m e)

-- ---- many marks
mark_from : (es : List ℕ) (m : Marks) (x : ℕ) → marked (mark es m) x ≡ true → (marked m x ≡ true) ⊎ Mem x es
unfolding mark
mark_from [] m x h = inl h
mark_from (e ∷ es) m x h = ⊎_elim (λ p. ⊎_elim inl (λ q. inr (subst (λ y. Mem x (y ∷ es)) q here)) (set_from m e x p)) (λ p. inr (there p)) (mark_from es (set m e true) x h)

mark_keeps : (es : List ℕ) (m : Marks) (x : ℕ) → marked m x ≡ true → marked (mark es m) x ≡ true
unfolding mark
mark_keeps [] m x h = h
mark_keeps (e ∷ es) m x h = mark_keeps es (set m e true) x (set_keeps m e x h)

mark_hits : {x : ℕ} {es : List ℕ} → Mem x es → (m : Marks) → x < length m → marked (mark es m) x ≡ true
unfolding mark
mark_hits {x = x} (here {xs = es}) m h = mark_keeps es (set m x true) x (set_hits m x h)
mark_hits (there {y = y} p) m h = mark_hits p (set m y true) (rw length-set h)

mark-length : (es : List ℕ) (m : Marks) → length (mark es m) ≡ length m
unfolding mark
mark-length [] m = refl
mark-length (e ∷ es) m = mark-length es (set m e true) ∙ length-set m e true

mark-less : (es : List ℕ) (m : Marks) → (mark es m ≡ m) ⊎ (unmarked (mark es m) < unmarked m)
unfolding mark
mark-less [] m = inl refl
mark-less (e ∷ es) m =
    ⊎_elim
    (λ q. rw q (mark-less es m))
    (λ l. ⊎_elim (λ q. inr (rw q l)) (λ l'. inr (omega arith)) (mark-less es (set m e true)))
    (set-less m e)

unmarked_most : (m : Marks) → unmarked m ≤ length m
unfolding unmarked
unmarked_most [] = omega arith
unmarked_most (true ∷ m) = let h = unmarked_most m in omega arith
unmarked_most (false ∷ m) = let h = unmarked_most m in omega arith

-- with nothing unmarked, all is marked
full : (m : Marks) → unmarked m ≤ 0 → (x : ℕ) → x < length m → marked m x ≡ true
unfolding unmarked marked
full [] h x l = absurd (omega arith)
full (true ∷ m) h zero l = refl
full (true ∷ m) h (suc x) l = full m h x (omega arith)
full (false ∷ m) h x l = absurd (omega arith)

-- ---- what the marked ones read
reads_from : (m : Marks) (xs : List Cells) {x : ℕ} → Mem x (read_by m xs) → (e : ℕ) × (marked m e ≡ true) × Mem x (ops xs e)
unfolding read_by marked ops
reads_from [] xs p = absurd (no_mem p)
reads_from (false ∷ m) [] p = absurd (no_mem p)
reads_from (true ∷ m) [] p = absurd (no_mem p)
reads_from (true ∷ m) (c ∷ xs) p =
    ⊎_elim (λ q. (0, refl, q)) (λ q. let r = reads_from m xs q in (suc r.0, r.1, r.2)) (mem_cases (ops_of c) (read_by m xs) p)
reads_from (false ∷ m) (c ∷ xs) p = let r = reads_from m xs p in (suc r.0, r.1, r.2)

reads_hit : (m : Marks) (xs : List Cells) (e : ℕ) {x : ℕ} → marked m e ≡ true → Mem x (ops xs e) → Mem x (read_by m xs)
unfolding read_by marked ops ops_of
reads_hit [] xs e h p = absurd (false≢true h)
reads_hit (b ∷ m) [] e h p = absurd (no_mem p)
reads_hit (true ∷ m) (c ∷ xs) zero h p = mem_left (read_by m xs) p
reads_hit (true ∷ m) (c ∷ xs) (suc e) h p = mem_right (ops_of c) (reads_hit m xs e h p)
reads_hit (false ∷ m) (c ∷ xs) zero h p = absurd (false≢true h)
reads_hit (false ∷ m) (c ∷ xs) (suc e) h p = reads_hit m xs e h p

-- ---- the rounds
module _ (xs : List Cells) where
  -- nothing is marked that is not reached
  close_from : (P : ℕ → Type 0) → ((e x : ℕ) → P e → Mem x (ops xs e) → P x) → (n : ℕ) (m : Marks) → ((e : ℕ) → marked m e ≡ true → P e) → (e : ℕ) → marked (close n xs m) e ≡ true → P e
  unfolding close
  close_from P s zero m f e h = f e h
  close_from P s (suc n) m f e h = go (eqb (unmarked m') (unmarked m)) (close_from P s n m' g) h
    where
      m' : Marks
      m' = mark (read_by m xs) m

      g : (e : ℕ) → marked m' e ≡ true → P e
      g e q = ⊎_elim (f e) (λ p. let r = reads_from m xs p in s r.0 e (f r.0 r.1) r.2) (mark_from (read_by m xs) m e q)

      go : (t : Bool) → ((e : ℕ) → marked (close n xs m') e ≡ true → P e) → marked (elim t [ true ↦ m | false ↦ close n xs m' ]) e ≡ true → P e
      go true ih q = f e q
      go false ih q = ih e q

  close_keeps : (n : ℕ) (m : Marks) (e : ℕ) → marked m e ≡ true → marked (close n xs m) e ≡ true
  unfolding close
  close_keeps zero m e h = h
  close_keeps (suc n) m e h = go (eqb (unmarked m') (unmarked m)) (close_keeps n m' e (mark_keeps (read_by m xs) m e h))
    where
      m' : Marks
      m' = mark (read_by m xs) m

      go : (t : Bool) → marked (close n xs m') e ≡ true → marked (elim t [ true ↦ m | false ↦ close n xs m' ]) e ≡ true
      go true ih = h
      go false ih = ih

  close-length : (n : ℕ) (m : Marks) → length (close n xs m) ≡ length m
  unfolding close
  close-length zero m = refl
  close-length (suc n) m = go (eqb (unmarked m') (unmarked m)) (close-length n m' ∙ mark-length (read_by m xs) m)
    where
      m' : Marks
      m' = mark (read_by m xs) m

      go : (t : Bool) → length (close n xs m') ≡ length m → length {A = Bool} (elim t [ true ↦ m | false ↦ close n xs m' ]) ≡ length m
      go true ih = refl
      go false ih = ih

  -- closed under reading
  abbrev Closed : Marks → Type 0
  Closed m = (e x : ℕ) → marked m e ≡ true → Mem x (ops xs e) → x < length m → marked m x ≡ true

  close_closed : (n : ℕ) (m : Marks) → unmarked m ≤ n → Closed (close n xs m)
  unfolding close
  close_closed zero m h = λ e x q p l. full m h x l
  close_closed (suc n) m h = go (eqb (unmarked m') (unmarked m)) refl (λ l. close_closed n m' (omega arith))
    where
      m' : Marks
      m' = mark (read_by m xs) m

      stable : m' ≡ m → Closed m
      stable s e x q p l = subst (λ k. marked k x ≡ true) s (mark_hits (reads_hit m xs e q p) m l)

      go : (t : Bool) → eqb (unmarked m') (unmarked m) ≡ t → (unmarked m' < unmarked m → Closed (close n xs m')) → Closed (elim t [ true ↦ m | false ↦ close n xs m' ])
      go true q ih = ⊎_elim stable (λ l. absurd (let z = eqb-true (unmarked m') (unmarked m) q in omega arith)) (mark-less (read_by m xs) m)
      go false q ih = ⊎_elim (λ s. absurd (eqb-false (unmarked m') (unmarked m) q (ap unmarked s))) ih (mark-less (read_by m xs) m)

-- ---- the law
none-marked : (n x : ℕ) → marked (replicate n false) x ≡ true → ⊥
unfolding marked
none-marked zero x h = false≢true h
none-marked (suc n) zero h = false≢true h
none-marked (suc n) (suc x) h = none-marked n x h

-- what is marked is reached
pub reached_is : (F : Function) (e : ℕ) → reached F e ≡ true → Reached F e
unfolding reached reached_marks
reached_is F e h =
    close_from F.exprs (Reached F) (λ e x r p. step r p) (length F.exprs) _
    (λ x q. ⊎_elim (λ z. absurd (none-marked (length F.exprs) x z)) root (mark_from (roots F.locals) (replicate (length F.exprs) false) x q)) e h

-- what is reached is marked, if it is in the table
pub reached-all : (F : Function) (e : ℕ) → e < length F.exprs → Reached F e → reached F e ≡ true
unfolding reached reached_marks ops ops_of
reached-all F e l r = go r l
  where
    xs : List Cells
    xs = F.exprs

    m : Marks
    m = mark (roots F.locals) (replicate (length xs) false)

    size : length m ≡ length xs
    size = mark-length (roots F.locals) (replicate (length xs) false) ∙ length-replicate (length xs) false

    closed : Closed xs (close (length xs) xs m)
    closed = close_closed xs (length xs) m (let a = unmarked_most m in omega (arith, size))

    inside : (d x : ℕ) → Mem x (ops xs d) → d < length xs
    inside d x p = by _ (ltb d (length xs)) (ltb-true d (length xs)) (λ q. absurd (no_mem (rw (get_or-eq_default xs [] (ltb-false d (length xs) q)) at p)))

    go : {e : ℕ} → Reached F e → e < length xs → marked (close (length xs) xs m) e ≡ true
    go {e} (root p) l = close_keeps xs (length xs) m e (mark_hits p _ (rw length-replicate l))
    go {e} (step {e = d} r p) l = closed d e (go r (inside d e p)) p (omega (arith, close-length xs (length xs) m, size))

pub reached_size : (F : Function) → length (reached_marks F) ≡ length F.exprs
unfolding reached_marks
reached_size F = close-length F.exprs (length F.exprs) _ ∙ mark-length (roots F.locals) _ ∙ length-replicate (length F.exprs) false

moving_is : (m : Marks) (xs : List Cells) (e : ℕ) → length m ≡ length xs → marked (moving m xs) e ≡ (marked m e && not (standing xs e))
unfolding marked moving standing kind_at
moving_is [] xs e q = refl
moving_is (b ∷ m) [] e q = absurd (omega arith)
moving_is (b ∷ m) (x ∷ xs) zero q = refl
moving_is (b ∷ m) (x ∷ xs) (suc e) q = moving_is m xs e (omega arith)

-- an initialiser expression is reached, and is not standing
pub initial_is : (F : Function) (e : ℕ) → initial F e ≡ true → Reached F e × (standing F.exprs e ≡ false)
unfolding initial initials reached
initial_is F e h =
    let p = and_split (reached F e) _ (sym (moving_is (reached_marks F) F.exprs e (reached_size F)) ∙ h) in
    (reached_is F e p.0, not-true _ p.1)

pub initial-all : (F : Function) (e : ℕ) → e < length F.exprs → Reached F e → standing F.exprs e ≡ false → initial F e ≡ true
unfolding initial initials reached
initial-all F e l r s = moving_is (reached_marks F) F.exprs e (reached_size F) ∙ rw (reached-all F e l r, s)

constant_is : (m : Marks) (xs : List Cells) (e : ℕ) → constant_at m xs ≡ true → e < length xs → marked m e ≡ true → constant_kind (kind_at xs e) ≡ true
unfolding constant_at marked kind_at
constant_is [] xs e h l q = absurd (false≢true q)
constant_is (b ∷ m) [] e h l q = absurd (omega arith)
constant_is (true ∷ m) (x ∷ xs) zero h l q = (and_split (constant_kind (kind x)) _ h).0
constant_is (true ∷ m) (x ∷ xs) (suc e) h l q = constant_is m xs e (and_split (constant_kind (kind x)) _ h).1 (omega arith) q
constant_is (false ∷ m) (x ∷ xs) zero h l q = absurd (false≢true q)
constant_is (false ∷ m) (x ∷ xs) (suc e) h l q = constant_is m xs e h (omega arith) q

constant-all : (m : Marks) (xs : List Cells) → ((e : ℕ) → e < length xs → marked m e ≡ true → constant_kind (kind_at xs e) ≡ true) → constant_at m xs ≡ true
unfolding constant_at marked kind_at
constant-all [] xs h = refl
constant-all (b ∷ m) [] h = refl
constant-all (true ∷ m) (x ∷ xs) h = rw (h 0 (omega arith) refl) (constant-all m xs (λ e l q. h (suc e) (omega arith) q))
constant-all (false ∷ m) (x ∷ xs) h = constant-all m xs (λ e l q. h (suc e) (omega arith) q)

-- `initialised` is the rule of refusal 3: "initialisers of locals reach only those kinds"
pub initialised_is : (F : Function) → initialised F ≡ true → (e : ℕ) → e < length F.exprs → Reached F e → constant_kind (kind_at F.exprs e) ≡ true
unfolding initialised reached
initialised_is F h e l r = constant_is (reached_marks F) F.exprs e h l (reached-all F e l r)

pub initialised-all : (F : Function) → ((e : ℕ) → e < length F.exprs → Reached F e → constant_kind (kind_at F.exprs e) ≡ true) → initialised F ≡ true
unfolding initialised reached
initialised-all F h = constant-all (reached_marks F) F.exprs (λ e l q. h e l (reached_is F e q))
