-- Members of lists of numbers (`Mem`), and what holds of each element of a list (`Each`).
use Rattle.std.specs.Prelude.{◌≡◌, ◌⊎◌, List, [], ◌∷◌, ◌++◌, ℕ, zero, suc, ◌<◌, length, get_or}
use Rattle.std.proofs.Math.Option.{some}
use Rattle.std.proofs.Common.{inl, inr, ⊎_elim, arith}
use Rattle.std.proofs.Math.ListN.{get_elem?}
use Rattle.theory_lists.specs.Lists.{looked_length, looked_get_d}
use Rattle.model.specs.Carry.{Each, each_none, each_next}
use Rattle.model.specs.Initial.{Mem, here, there}

pub no_mem : {x : ℕ} → Mem x [] → ⊥
no_mem = elim [ ]

pub mem_left : {x : ℕ} {xs : List ℕ} (ys : List ℕ) → Mem x xs → Mem x (xs ++ ys)
mem_left ys here = here
mem_left ys (there m) = there (mem_left ys m)

pub mem_right : {x : ℕ} (xs : List ℕ) {ys : List ℕ} → Mem x ys → Mem x (xs ++ ys)
mem_right [] m = m
mem_right (x ∷ xs) m = there (mem_right xs m)

pub mem_cases : {x : ℕ} (xs ys : List ℕ) → Mem x (xs ++ ys) → Mem x xs ⊎ Mem x ys
mem_cases [] ys m = inr m
mem_cases (x ∷ xs) ys here = inl here
mem_cases (x ∷ xs) ys (there m) = ⊎_elim (λ p. inl (there p)) inr (mem_cases xs ys m)

pub mem_split : {x : ℕ} (xs ys : List ℕ) {vs ws : List ℕ} → (Mem x xs → Mem x vs) → (Mem x ys → Mem x ws) → Mem x (xs ++ ys) → Mem x (vs ++ ws)
mem_split xs ys {vs} {ws} f g m = ⊎_elim (λ p. mem_left ws (f p)) (λ p. mem_right vs (g p)) (mem_cases xs ys m)

-- ---- what holds of each holds of the one at a place
pub each_at : {A : Type 0} {P : A → Type 0} {l : List A} → Each P l → (i : ℕ) (d : A) → i < length l → P (get_or l i d)
each_at each_none i d h = absurd (omega arith)
each_at (each_next p ps) zero d h = p
each_at (each_next p ps) (suc i) d h = each_at ps i d (omega arith)

pub looked_each : {A : Type 0} {P : A → Type 0} {l : List A} → Each P l → (j : ℕ) {x : A} → get_elem? l j ≡ some x → P x
looked_each {P} {l} ps j {x} e = rw (looked_get_d l j x e) at (each_at ps j x (looked_length l j e))
