-- Numbers in the order of first appearance: `firsts` has no number twice and exactly the numbers of its list; `index_n` finds each of them, so it is one-to-one on them; and the first appearances of numbers so replaced are 0, 1, 2 and so on.
use Rattle.std.specs.Prelude.{◌≡◌, Bool, true, false, ◌⊎◌, eqb, length, get_or}
use Rattle.std.proofs.Math.Path.{refl, ap}
use Rattle.std.proofs.Common.{sym, ap₂, ◌∙◌, inl, inr, arith}
use Rattle.std.proofs.Math.Logic.{⊎_elim}
use mathlib.Core.List.{List, [], ◌∷◌, map}
use Prim.Native.Nat.{ℕ, zero, suc, ◌+◌, ◌<◌}
use borrow.Author.Tests.{eqb-true, eqb-false, eq-eqb, ne_eqb}
use Rattle.model.specs.Initial.{Mem, here, there}
use Rattle.theory_image.specs.Members.{no_mem}
use Rattle.model.specs.Calls.{numbers}
use Rattle.model.specs.Finish.{keep_n, firsts, index_n}

-- no number twice
pub data Once : List ℕ → Type 0 where
  once-none : Once []
  once-next : {x : ℕ} {xs : List ℕ} → (Mem x xs → ⊥) → Once xs → Once (x ∷ xs)

-- both ways that a test can go
pub either : {A : Type 0} (b : Bool) → (b ≡ true → A) → (b ≡ false → A) → A
either true f g = f refl
either false f g = g refl

pub mem_first : {x y : ℕ} {ys : List ℕ} → Mem x (y ∷ ys) → (x ≡ y) ⊎ Mem x ys
mem_first here = inl refl
mem_first (there m) = inr m

-- ---- one more at the end, unless it is there
keep-new : (ys : List ℕ) (x : ℕ) → Mem x (keep_n ys x)
unfolding keep_n
keep-new [] x = here
keep-new (y ∷ ys) x = let i = keep-new ys x in either (eqb y x) (λ e. rw (keep_n, e) (rw (eqb-true y x e) here)) λ e. rw (keep_n, e) (there i)

keep_old : {z : ℕ} {ys : List ℕ} (x : ℕ) → Mem z ys → Mem z (keep_n ys x)
unfolding keep_n
keep_old {z} x (here {xs}) = either (eqb z x) (λ e. rw (keep_n, e) here) λ e. rw (keep_n, e) here
keep_old x (there {y} {xs} m) = let i = keep_old x m in either (eqb y x) (λ e. rw (keep_n, e) (there m)) λ e. rw (keep_n, e) (there i)

keep-cases : {z : ℕ} (ys : List ℕ) (x : ℕ) → Mem z (keep_n ys x) → Mem z ys ⊎ (z ≡ x)
unfolding keep_n
keep-cases [] x m = ⊎_elim inr (λ n. absurd (no_mem n)) (mem_first m)
keep-cases {z} (y ∷ ys) x m =
    let i = keep-cases ys x in
    either (eqb y x) (λ e. inl (rw (keep_n, e) at m)) λ e. ⊎_elim (λ p. inl (rw p here)) (λ n. ⊎_elim (λ k. inl (there k)) inr (i n)) (mem_first (rw (keep_n, e) at m))

once-keep : {ys : List ℕ} (x : ℕ) → Once ys → Once (keep_n ys x)
unfolding keep_n
once-keep x once-none = once-next no_mem once-none
once-keep x (once-next {x = y} {xs = ys} n o) =
    let i = once-keep x o in
    either (eqb y x) (λ e. rw (keep_n, e) (once-next n o)) λ e. rw (keep_n, e) (once-next (λ m. ⊎_elim n (eqb-false y x e) (keep-cases ys x m)) i)

-- ---- THE ORDER has no number twice, and exactly the numbers of the list
pub firsts-once : (xs seen : List ℕ) → Once seen → Once (firsts xs seen)
unfolding firsts
firsts-once [] seen o = o
firsts-once (x ∷ xs) seen o = firsts-once xs (keep_n seen x) (once-keep x o)

firsts-seen : {z : ℕ} (xs seen : List ℕ) → Mem z seen → Mem z (firsts xs seen)
unfolding firsts
firsts-seen [] seen m = m
firsts-seen (x ∷ xs) seen m = firsts-seen xs (keep_n seen x) (keep_old x m)

pub firsts-all : {z : ℕ} (xs seen : List ℕ) → Mem z xs → Mem z (firsts xs seen)
unfolding firsts
firsts-all [] seen p = elim p [ ]
firsts-all (x ∷ xs) seen here = firsts-seen xs (keep_n seen x) (keep-new seen x)
firsts-all (x ∷ xs) seen (there m) = firsts-all xs (keep_n seen x) m

pub firsts-only : {z : ℕ} (xs seen : List ℕ) → Mem z (firsts xs seen) → Mem z xs ⊎ Mem z seen
unfolding firsts
firsts-only [] seen m = inr m
firsts-only (x ∷ xs) seen m = ⊎_elim (λ p. inl (there p)) (λ k. ⊎_elim inr (λ e. inl (rw e here)) (keep-cases seen x k)) (firsts-only xs (keep_n seen x) m)

-- ---- where a number is
pub index_in : {x : ℕ} {ns : List ℕ} → Mem x ns → index_n ns x < length ns
unfolding index_n
index_in {x} (here {xs}) = rw (index_n, eq-eqb x x refl) (omega arith)
index_in {x} (there {y} {xs} m) = let i = index_in m in either (eqb y x) (λ e. rw (index_n, e) (omega arith)) λ e. rw (index_n, e) (omega arith)

pub index_at : {x : ℕ} {ns : List ℕ} → Mem x ns → get_or ns (index_n ns x) 0 ≡ x
unfolding index_n
index_at {x} (here {xs}) = rw (index_n, eq-eqb x x refl)
index_at {x} (there {y} {xs} m) = let i = index_at m in either (eqb y x) (λ e. rw (index_n, e) (eqb-true y x e)) λ e. rw (index_n, e) i

-- ONE-TO-ONE
pub index_apart : {x y : ℕ} {ns : List ℕ} → Mem x ns → Mem y ns → index_n ns x ≡ index_n ns y → x ≡ y
index_apart {ns} m n e = sym (index_at m) ∙ ap (λ i. get_or ns i 0) e ∙ index_at n

map_mem : {A : Type 0} (f g : ℕ → A) (xs : List ℕ) → ((x : ℕ) → Mem x xs → f x ≡ g x) → map f xs ≡ map g xs
map_mem f g [] h = refl
map_mem f g (x ∷ xs) h = ap₂ ◌∷◌ (h x here) (map_mem f g xs λ y m. h y (there m))

index_next : (y x : ℕ) (ys : List ℕ) → (y ≡ x → ⊥) → index_n (y ∷ ys) x ≡ suc (index_n ys x)
unfolding index_n
index_next y x ys h = rw (index_n, ne_eqb y x h)

index_from : {ns : List ℕ} → Once ns → (k : ℕ) → map (λ x. k + index_n ns x) ns ≡ numbers (length ns) k
unfolding numbers
index_from once-none k = refl
index_from (once-next {x = y} {xs = ys} n o) k =
    ap₂ ◌∷◌ (unfold index_n in rw (index_n, eq-eqb y y refl) (omega arith))
    (map_mem (λ x. k + index_n (y ∷ ys) x) (λ x. suc k + index_n ys x) ys (λ x m. ap (k +◌) (index_next y x ys λ e. n (rw e m)) ∙ omega arith) ∙ index_from o (suc k))

-- where the numbers of the order are in it
pub index_all : {ns : List ℕ} → Once ns → map (index_n ns) ns ≡ numbers (length ns) 0
index_all {ns} o = map_mem (index_n ns) (λ x. 0 + index_n ns x) ns (λ x m. omega arith) ∙ index_from o 0

-- ---- numbers replaced, one-to-one
module _ (f : ℕ → ℕ) (ns : List ℕ) (apart : (x y : ℕ) → Mem x ns → Mem y ns → f x ≡ f y → x ≡ y) where
  keep-map : (ys : List ℕ) (x : ℕ) → ((z : ℕ) → Mem z ys → Mem z ns) → Mem x ns → keep_n (map f ys) (f x) ≡ map f (keep_n ys x)
  unfolding keep_n
  keep-map [] x h m = refl
  keep-map (y ∷ ys) x h m =
      let i = keep-map ys x (λ z n. h z (there n)) m in
      either (eqb y x) (λ e. rw (keep_n, e, eq-eqb (f y) (f x) (ap f (eqb-true y x e)))) λ e. rw (keep_n, e, ne_eqb (f y) (f x) λ q. eqb-false y x e (apart y x (h y here) m q)) (ap (f y ∷◌) i)

  pub firsts-map : (xs seen : List ℕ) → ((z : ℕ) → Mem z xs → Mem z ns) → ((z : ℕ) → Mem z seen → Mem z ns) → firsts (map f xs) (map f seen) ≡ map f (firsts xs seen)
  unfolding firsts
  firsts-map [] seen h k = refl
  firsts-map (x ∷ xs) seen h k =
      ap (firsts (map f xs)) (keep-map seen x k (h x here)) ∙ firsts-map xs (keep_n seen x) (λ z m. h z (there m)) λ z m. ⊎_elim (k z) (λ e. rw e (h x here)) (keep-cases seen x m)

-- THE ORDER of what was replaced by where it is
pub firsts-again : (xs : List ℕ) → firsts (map (index_n (firsts xs [])) xs) [] ≡ numbers (length (firsts xs [])) 0
firsts-again xs =
    let ns = firsts xs [] in
    firsts-map (index_n ns) ns (λ x y m n. index_apart m n) xs [] (λ z m. firsts-all xs [] m) (λ z m. absurd (no_mem m)) ∙ index_all (firsts-once xs [] once-none)

-- ---- numbers in their order
pub index_numbers : (n k i : ℕ) → i < n → index_n (numbers n k) (k + i) ≡ i
unfolding index_n numbers
index_numbers zero k i h = absurd (omega arith)
index_numbers (suc n) k zero h = rw (index_n, eq-eqb k (k + zero) (omega arith))
index_numbers (suc n) k (suc i) h =
    let s : k + suc i ≡ suc k + i = omega arith in
    index_next k (k + suc i) (numbers n (suc k)) (λ e. omega arith) ∙ ap suc (ap (index_n (numbers n (suc k))) s ∙ index_numbers n (suc k) i (omega arith))

numbers_suc : {A : Type 0} (f : ℕ → A) (n k : ℕ) → map f (numbers n (suc k)) ≡ map (λ i. f (suc i)) (numbers n k)
unfolding numbers
numbers_suc f zero k = refl
numbers_suc f (suc n) k = ap (f (suc k) ∷◌) (numbers_suc f n (suc k))

pub all-at : {A : Type 0} (l : List A) (d : A) → map (λ n. get_or l n d) (numbers (length l) 0) ≡ l
unfolding numbers
all-at [] d = refl
all-at (x ∷ l) d = ap (x ∷◌) (numbers_suc (λ n. get_or (x ∷ l) n d) (length l) 0 ∙ all-at l d)
