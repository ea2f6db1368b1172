-- Lists: a function applied to each element, the element at a place, and the first elements. What the kit has (lib.ListN, lib.Seq) is not repeated.
use Rattle.std.specs.Prelude.{◌≡◌, refl, List, [], ◌∷◌, ◌++◌, map, ℕ, zero, suc, ◌≤◌, ◌<◌, length, get_or, replicate, take}
use Rattle.std.proofs.Common.{sym, ap, ◌∙◌, arith, take-take}
use Rattle.std.proofs.Math.Option.{none, some}
use Rattle.std.proofs.Math.ListN.{get_elem?}

-- ---- a function applied to each element
pub map-append : {A B : Type 0} (f : A → B) (xs ys : List A) → map f (xs ++ ys) ≡ map f xs ++ map f ys
map-append f [] ys = refl
map-append f (x ∷ xs) ys = ap (f x ∷◌) (map-append f xs ys)

pub map_append₃ : {A B : Type 0} (f : A → B) (xs ys zs : List A) → map f (xs ++ ys ++ zs) ≡ map f xs ++ map f ys ++ map f zs
map_append₃ f xs ys zs = map-append f (xs ++ ys) zs ∙ ap (◌++ map f zs) (map-append f xs ys)

pub map-map : {A B C : Type 0} (g : B → C) (f : A → B) (xs : List A) → map g (map f xs) ≡ map (λ x. g (f x)) xs
map-map g f [] = refl
map-map g f (x ∷ xs) = ap (g (f x) ∷◌) (map-map g f xs)

pub map_same : {A B : Type 0} (f g : A → B) → ((a : A) → f a ≡ g a) → (xs : List A) → map f xs ≡ map g xs
map_same f g h [] = refl
map_same f g h (x ∷ xs) = λ i. h x i ∷ map_same f g h xs i

pub map_at_lem : {A B : Type 0} (f : A → B) (l : List A) (k : ℕ) (d : A) (x : B) → k < length l → get_or (map f l) k x ≡ f (get_or l k d)
map_at_lem f [] k d x h = absurd (omega arith)
map_at_lem f (y ∷ l) zero d x h = refl
map_at_lem f (y ∷ l) (suc k) d x h = map_at_lem f l k d x (omega arith)

-- ---- the element at a place
-- zeros are zero at every place
pub zeros : (k n : ℕ) → ◌≡◌ {A = ℕ} (get_or (replicate k 0) n 0) 0
zeros zero n = refl
zeros (suc k) zero = refl
zeros (suc k) (suc n) = zeros k n

-- the list without its first element
abbrev pub behind : {A : Type 0} → List A → List A
behind [] = []
behind (x ∷ xs) = xs

pub get_d_behind : {A : Type 0} (l : List A) (k : ℕ) (d : A) → get_or l (suc k) d ≡ get_or (behind l) k d
get_d_behind [] k d = refl
get_d_behind (x ∷ l) k d = refl

-- there is an element at a place below the length, and none from there on
pub found : {A : Type 0} (l : List A) (i : ℕ) → i < length l → (x : A) × (get_elem? l i ≡ some x)
found [] i h = absurd (omega arith)
found (x ∷ l) zero h = (x, refl)
found (x ∷ l) (suc i) h = found l i (omega arith)

pub missed : {A : Type 0} (l : List A) (i : ℕ) → length l ≤ i → get_elem? l i ≡ none
missed [] i h = refl
missed (x ∷ l) zero h = absurd (omega arith)
missed (x ∷ l) (suc i) h = missed l i (omega arith)

-- the two ways to look at a place agree
pub looked_at : {A : Type 0} (l : List A) (j : ℕ) (d : A) → j < length l → get_elem? l j ≡ some (get_or l j d)
looked_at [] j d h = absurd (omega arith)
looked_at (x ∷ l) zero d h = refl
looked_at (x ∷ l) (suc j) d h = looked_at l j d (omega arith)

pub looked_length : {A : Type 0} (l : List A) (j : ℕ) {x : A} → get_elem? l j ≡ some x → j < length l
looked_length [] j e = let z : ◌≡◌ {A = ℕ} 0 1 = cc in absurd (omega arith)
looked_length (y ∷ l) zero e = omega arith
looked_length (y ∷ l) (suc j) e = omega (arith, looked_length l j e)

pub looked_get_d : {A : Type 0} (l : List A) (j : ℕ) (d : A) {x : A} → get_elem? l j ≡ some x → get_or l j d ≡ x
looked_get_d [] j d e = let z : ◌≡◌ {A = ℕ} 0 1 = cc in absurd (omega arith)
looked_get_d (y ∷ l) zero d e = cc
looked_get_d (y ∷ l) (suc j) d e = looked_get_d l j d e

pub looked_map : {A B : Type 0} (f : A → B) (l : List A) (j : ℕ) {x : A} → get_elem? l j ≡ some x → get_elem? (map f l) j ≡ some (f x)
looked_map f [] j e = let z : ◌≡◌ {A = ℕ} 0 1 = cc in absurd (omega arith)
looked_map f (y ∷ l) zero e = cc
looked_map f (y ∷ l) (suc j) e = looked_map f l j e

-- ---- the first elements
pub length_none : (l : List ℕ) → length l ≡ 0 → l ≡ []
length_none [] e = refl
length_none (x ∷ l) e = absurd (omega arith)

-- lists that agree on their first n elements agree on fewer
pub take_less : {A : Type 0} (m n : ℕ) (a b : List A) → m ≤ n → take n a ≡ take n b → take m a ≡ take m b
take_less m n a b h e = sym (take-take m n a h) ∙ ap (take m) e ∙ take-take m n b h
