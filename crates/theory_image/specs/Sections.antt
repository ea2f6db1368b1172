-- Runs of cells one after the other: where each starts, and that the part between two starts is the run. It serves the sections of an image and the records of a section.
use Rattle.std.specs.Prelude.{◌≡◌, refl, List, [], ◌∷◌, ◌++◌, map, ℕ, zero, suc, ◌+◌, ◌*◌, ◌-◌, ◌≤◌, ◌<◌, length, get_or, take, drop}
use Rattle.std.proofs.Common.{sym, ap, ◌∙◌, append_assoc, add-zero, add_assoc, arith, length-append, length-take-le, get_or-drop, get_or-take, take-take, drop-drop, take-add, drop_at}
use Rattle.std.proofs.Math.Seq.{slice, take-append_seam, drop-append_seam, take-append-add}
use Rattle.model.specs.Outcome.{Cells, word}
use Rattle.model.specs.Tree.{flat_all}
use Rattle.model.specs.Module.{places, Section, pairs_from, bodies}

-- ---- slices
pub slice_middle : {A : Type 0} (pre r rest : List A) → slice (length pre) (length pre + length r) (pre ++ (r ++ rest)) ≡ r
slice_middle pre r rest = rw (take-append-add pre (r ++ rest) (length r), take-append_seam r rest, drop-append_seam pre r)

pub slice-take : {A : Type 0} (l : List A) (o c : ℕ) → o ≤ length l → slice o (o + c) l ≡ take c (drop o l)
slice-take l o c h = rw (take-add o c l) (drop_at (take o l) (take c (drop o l)) o (length-take-le o l h))

-- a slice of a slice
pub slice-slice : {A : Type 0} (l : List A) (o e a b : ℕ) → o ≤ e → e ≤ length l → o + b ≤ e → slice (o + a) (o + b) l ≡ slice a b (slice o e l)
slice-slice l o e a b h k i =
    let q : o + (e - o) ≡ e = omega arith in
    sym (drop-drop a o (take (o + b) l))
    ∙ ap (drop a) (slice-take l o b (omega arith) ∙ sym (take-take b (e - o) (drop o l) (omega arith)) ∙ ap (take b) (sym (slice-take l o (e - o) (omega arith)) ∙ ap (λ n. slice o n l) q))

pub get_d_slice : {A : Type 0} (l : List A) (o e j : ℕ) (d : A) → o + j < e → get_or (slice o e l) j d ≡ get_or l (o + j) d
get_d_slice l o e j d h = get_or-drop o (take e l) j d ∙ get_or-take e l (o + j) d h

pub take-map : {A B : Type 0} (f : A → B) (n : ℕ) (l : List A) → take n (map f l) ≡ map f (take n l)
take-map f zero l = refl
take-map f (suc n) [] = refl
take-map f (suc n) (x ∷ l) = ap (f x ∷◌) (take-map f n l)

pub drop-map : {A B : Type 0} (f : A → B) (n : ℕ) (l : List A) → drop n (map f l) ≡ map f (drop n l)
drop-map f zero l = refl
drop-map f (suc n) [] = refl
drop-map f (suc n) (x ∷ l) = drop-map f n l

pub slice-map : {A B : Type 0} (f : A → B) (o e : ℕ) (l : List A) → slice o e (map f l) ≡ map f (slice o e l)
slice-map f o e l = ap (drop o) (take-map f e l) ∙ drop-map f o (take e l)

-- ---- where run j starts, if the first starts at `at`; after the last it is the end
unfoldable pub start_of : ℕ → List Cells → ℕ → ℕ
start_of at [] j = at
start_of at (r ∷ rs) zero = at
start_of at (r ∷ rs) (suc j) = start_of (at + length r) rs j

pub start_zero : (at : ℕ) (rs : List Cells) → start_of at rs 0 ≡ at
unfolding start_of
start_zero at [] = refl
start_zero at (r ∷ rs) = refl

pub start_end : (rs : List Cells) (at : ℕ) → start_of at rs (length rs) ≡ at + length (flat_all rs)
unfolding start_of flat_all
start_end [] at = sym (add-zero at)
start_end (r ∷ rs) at = start_end rs (at + length r) ∙ add_assoc at (length r) (length (flat_all rs)) ∙ ap (at +◌) (sym (length-append r (flat_all rs)))

pub start_step : (rs : List Cells) (at j : ℕ) → j < length rs → start_of at rs (suc j) ≡ start_of at rs j + length (get_or rs j [])
unfolding start_of
start_step [] at j h = absurd (omega arith)
start_step (r ∷ rs) at zero h = start_zero (at + length r) rs
start_step (r ∷ rs) at (suc j) h = start_step rs (at + length r) j (omega arith)

-- a start is not after the end
pub start_in : (rs : List Cells) (at j : ℕ) → j ≤ length rs → start_of at rs j ≤ at + length (flat_all rs)
unfolding start_of flat_all
start_in [] at j h = omega arith
start_in (r ∷ rs) at zero h = omega arith
start_in (r ∷ rs) at (suc j) h = rw (length-append r (flat_all rs)) (omega (arith, start_in rs (at + length r) j (omega arith)))

pub start_slice : (rs : List Cells) (pre : Cells) (at j : ℕ) → length pre ≡ at → j < length rs → slice (start_of at rs j) (start_of at rs (suc j)) (pre ++ flat_all rs) ≡ get_or rs j []
unfolding start_of flat_all
start_slice [] pre at j e h = absurd (omega arith)
start_slice (r ∷ rs) pre at zero e h = rw (start_zero (at + length r) rs, ← e) (slice_middle pre r (flat_all rs))
start_slice (r ∷ rs) pre at (suc j) e h =
    rw (← append_assoc pre r (flat_all rs)) (start_slice rs (pre ++ r) (at + length r) j (length-append pre r ∙ ap (◌+ length r) e) (omega arith))

-- ---- the offsets of a section's records
pub length-places : (rs : List Cells) (at : ℕ) → length (places at rs) ≡ length rs
unfolding places
length-places [] at = refl
length-places (r ∷ rs) at = ap suc (length-places rs (at + length r))

pub place-word : (rs : List Cells) (at j : ℕ) → j < length rs → get_or (map word (places at rs)) j 0 ≡ start_of at rs j
unfolding places start_of
place-word [] at j h = absurd (omega arith)
place-word (r ∷ rs) at zero h = refl
place-word (r ∷ rs) at (suc j) h = place-word rs (at + length r) j (omega arith)

-- ---- the header's pairs
abbrev pub cells_of : Section → Cells
cells_of s = s.1

pub length_pairs : (ss : List Section) (at : ℕ) → length (pairs_from at ss) ≡ 2 * length ss
unfolding pairs_from
length_pairs [] at = refl
length_pairs (s ∷ ss) at = omega (arith, length_pairs ss (at + length s.1))

pub bodies-all : (ss : List Section) → bodies ss ≡ flat_all (map cells_of ss)
unfolding bodies flat_all
bodies-all [] = refl
bodies-all (s ∷ ss) = ap (s.1 ++◌) (bodies-all ss)

pub pair-count : (ss : List Section) (at k i : ℕ) → k < length ss → i ≡ 2 * k → get_or (map word (pairs_from at ss)) i 0 ≡ (get_or ss k (0, [])).0
unfolding pairs_from
pair-count [] at k i h e = absurd (omega arith)
pair-count (s ∷ ss) at zero zero h e = refl
pair-count (s ∷ ss) at zero (suc i) h e = absurd (omega arith)
pair-count (s ∷ ss) at (suc k) zero h e = absurd (omega arith)
pair-count (s ∷ ss) at (suc k) (suc zero) h e = absurd (omega arith)
pair-count (s ∷ ss) at (suc k) (suc (suc i)) h e = pair-count ss (at + length s.1) k i (omega arith) (omega arith)

pub pair_offset : (ss : List Section) (at k i : ℕ) → k < length ss → i ≡ 1 + 2 * k → get_or (map word (pairs_from at ss)) i 0 ≡ start_of at (map cells_of ss) k
unfolding pairs_from start_of
pair_offset [] at k i h e = absurd (omega arith)
pair_offset (s ∷ ss) at zero zero h e = absurd (omega arith)
pair_offset (s ∷ ss) at zero (suc zero) h e = refl
pair_offset (s ∷ ss) at zero (suc (suc i)) h e = absurd (omega arith)
pair_offset (s ∷ ss) at (suc k) zero h e = absurd (omega arith)
pair_offset (s ∷ ss) at (suc k) (suc zero) h e = absurd (omega arith)
pair_offset (s ∷ ss) at (suc k) (suc (suc i)) h e = pair_offset ss (at + length s.1) k i (omega arith) (omega arith)
