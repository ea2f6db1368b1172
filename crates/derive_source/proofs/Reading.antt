-- The special types of the source as its words hold them: three optional types where their section starts, then the pairs; and their numbers are types of the
-- source.
use mathlib.Core.Path.{◌≡◌, refl, sym, ap, ap₂, ◌∙◌}
use mathlib.Core.Bool.{true}
use mathlib.Core.List.{List, [], ◌∷◌}
use Prim.Native.Nat.{ℕ, zero, suc, ◌+◌, ◌*◌, ◌≤◌, ◌<◌}
use native.Mathlib.Nat.{le_refl}
use native.Mathlib.Omega.{arith}
use lib.Dec.{ltb}
use lib.ListN.{length, get_or}
use borrow.Author.Tests.{ltb-true}
use Rattle.theory_lists.specs.Booleans.{and_split}
use Rattle.model.specs.Outcome.{Cells, word}
use Rattle.model.specs.Table.{OPT_TYPE, KEY, TYPE}
use Rattle.model.specs.Tree.{flat_all}
use Rattle.model.specs.Module.{Module, pair_row, count_at, offset_at, end_at, flat_special, flat_module, write}
use Rattle.model.specs.Carry.{Lays, Each, each_none, each_next}
use Rattle.model.specs.Numbers.{bound, caps, below as under, within, outside}
use Rattle.model.specs.Tables.{at, tables, count}
use Rattle.theory_image.specs.Plain.{plain?, plain_start}
use Rattle.theory_image.specs.Sections.{start_end}
use Rattle.theory_image.specs.Quiet.{Plainly, plain-none, plain-next, plainly}
use Rattle.theory_image.specs.Views.{length-write, ordered, sees_special}
use Rattle.theory_image.specs.FunctionViews.{Held, Part, part_end, part_left, part_right, part-word, taped_length, taped_held, taped_offset, taped_count}
use Rattle.theory_records.specs.Tested.{every-at}
use Rattle.theory_finish.specs.Sessions.{specials_in}
use Rattle.derive_state.specs.Refers.{tab_of}
use Rattle.derive_state.specs.Flats.{pairs_at}
use Rattle.derive_state.specs.Source.{mod_of, src_of, Source}
use Rattle.derive_imports.proofs.Sources.{count_is}

-- ---- cells laid out by their row are the row's classes and the words
pair_long : {r : Cells} → Plainly (KEY ∷ TYPE ∷ []) r → length r ≡ 2
pair_long (plain-next (plain-next plain-none)) = refl

module _ {words tags : List ℕ} {cells : Cells} (o : Held words tags cells) where
  rays-held : {cs : Cells} {p q : ℕ} → Plainly (OPT_TYPE ∷ OPT_TYPE ∷ OPT_TYPE ∷ []) cs → Part cells p q cs → cs ≡ (OPT_TYPE, get_or words p 0) ∷ (OPT_TYPE, get_or words (1 + p) 0) ∷ (OPT_TYPE, get_or words (2 + p) 0) ∷ []
  rays-held {p} (plain-next {w = x} (plain-next {w = y} (plain-next {w = z} plain-none))) v =
      let i : p + 0 ≡ p = omega arith in
      let j : p + 1 ≡ 1 + p = omega arith in
      let k : p + 2 ≡ 2 + p = omega arith in
      let a : get_or words p 0 ≡ x = rw i at (part-word o v 0 (omega arith)) in
      let b : get_or words (1 + p) 0 ≡ y = rw j at (part-word o v 1 (omega arith)) in
      let c : get_or words (2 + p) 0 ≡ z = rw k at (part-word o v 2 (omega arith)) in
      rw (a, b, c)

  pair_held : {r : Cells} {p q : ℕ} → Plainly (KEY ∷ TYPE ∷ []) r → Part cells p q r → r ≡ (KEY, get_or words p 0) ∷ (TYPE, get_or words (1 + p) 0) ∷ []
  pair_held {p} (plain-next {w = x} (plain-next {w = y} plain-none)) v =
      let i : p + 0 ≡ p = omega arith in
      let j : p + 1 ≡ 1 + p = omega arith in
      let a : get_or words p 0 ≡ x = rw i at (part-word o v 0 (omega arith)) in
      let b : get_or words (1 + p) 0 ≡ y = rw j at (part-word o v 1 (omega arith)) in
      rw (a, b)

  pairs-held : {rs : List Cells} {p q : ℕ} → Each (Lays pair_row) rs → Part cells p q (flat_all rs) → rs ≡ pairs_at words p (length rs)
  unfolding pairs_at flat_all plain?
  pairs-held each_none v = refl
  pairs-held {p} (each_next {a = r} {l = rs} l ls) v =
      let s = plainly l refl in
      let n = pair_long s in
      let z : p + length r ≡ 2 + p = omega arith in
      ap₂ (λ (x : Cells) (xs : List Cells). x ∷ xs) (pair_held s (part_left r (flat_all rs) v)) (pairs-held ls (rw z at (part_right r (flat_all rs) v)))

-- pair j of them
pub pairs-at : (ws : List ℕ) (n i j : ℕ) → j < n → get_or (pairs_at ws i n) j [] ≡ (KEY, get_or ws (i + 2 * j) 0) ∷ (TYPE, get_or ws (1 + (i + 2 * j)) 0) ∷ []
unfolding pairs_at
pairs-at ws zero i j h = absurd (omega arith)
pairs-at ws (suc n) i zero h = let z : i + 2 * 0 ≡ i = omega arith in rw z
pairs-at ws (suc n) i (suc j) h = let z : i + 2 * suc j ≡ 2 + i + 2 * j = omega arith in rw z (pairs-at ws n (2 + i) j (omega arith))

module _ (words tags : List ℕ) (n : ℕ) (src : Source words tags n) where
  abbrev M : Module
  M = mod_of words n

  part : Part (flat_module (mod_of words n)) (offset_at 8 words) (end_at 8 (write (mod_of words n))) (flat_special (mod_of words n).special)
  part =
      let t = src.taped in
      let r = ordered (mod_of words n) refl in
      rw (taped_offset t 8 (omega arith))
      (record { rising = r.rising 8 (omega arith); within = omega (arith, r.within 8 (omega arith), length-write (mod_of words n)); cells_are = (sees_special (mod_of words n) refl).cells })

  pub rays_are : (mod_of words n).special.rays ≡ (OPT_TYPE, get_or words (offset_at 8 words) 0) ∷ (OPT_TYPE, get_or words (1 + offset_at 8 words) 0) ∷ (OPT_TYPE, get_or words (2 + offset_at 8 words) 0) ∷ []
  unfolding flat_special plain?
  rays_are = rays-held (taped_held src.taped) (plainly src.taped.well.rays-ok refl) (part_left (mod_of words n).special.rays (flat_all (mod_of words n).special.pairs) part)

  pub three : length (mod_of words n).special.rays ≡ 3
  three = ap length rays_are

  pub ray-word : (k : ℕ) → k < 3 → get_or words (offset_at 8 words + k) 0 ≡ word (get_or (mod_of words n).special.rays k (0, 0))
  unfolding flat_special
  ray-word k h = let l = three in part-word (taped_held src.taped) (part_left (mod_of words n).special.rays (flat_all (mod_of words n).special.pairs) part) k (omega arith)

  pub keys_count : count_at 8 words ≡ length (mod_of words n).special.pairs
  keys_count = taped_count src.taped 8 (omega arith) ∙ (sees_special (mod_of words n) refl).count

  pub pairs_are : (mod_of words n).special.pairs ≡ pairs_at words (offset_at 8 words + 3) (count_at 8 words)
  unfolding flat_special
  pairs_are =
      rw keys_count
      (pairs-held (taped_held src.taped) src.taped.well.pairs-ok.each (rw three at (part_right (mod_of words n).special.rays (flat_all (mod_of words n).special.pairs) part)))

  pub special_in : offset_at 8 words + 3 + 2 * count_at 8 words ≤ n
  unfolding flat_special plain?
  special_in =
      let v = part_right (mod_of words n).special.rays (flat_all (mod_of words n).special.pairs) part in
      let e = part_end v in
      let s = start_end (mod_of words n).special.pairs (offset_at 8 words + 3) in
      let p = plain_start src.taped.well.pairs-ok.each refl (offset_at 8 words + 3) 2 (length (mod_of words n).special.pairs) refl (le_refl _) in
      let a = three in
      let b = keys_count in
      omega (arith, part.within, taped_length src.taped)

  types_many : count_at 1 words ≡ length (mod_of words n).types
  unfolding src_of count tables at tab_of
  types_many = count_is words tags n src 1 (omega arith)

  -- ---- they are types of the source
  within-rays : (x y z : ℕ) → within (outside (mod_of words n)) ((OPT_TYPE, x) ∷ (OPT_TYPE, y) ∷ (OPT_TYPE, z) ∷ []) ≡ true → (x ≤ length (mod_of words n).types) × (y ≤ length (mod_of words n).types) × (z ≤ length (mod_of words n).types)
  unfolding within bound caps under outside
  within-rays x y z q =
      let a = and_split (ltb x (suc (length (mod_of words n).types))) _ q in
      let b = and_split (ltb y (suc (length (mod_of words n).types))) _ a.1 in
      let c = and_split (ltb z (suc (length (mod_of words n).types))) _ b.1 in
      let i : x < suc (length (mod_of words n).types) = ltb-true x (suc (length (mod_of words n).types)) a.0 in
      let j : y < suc (length (mod_of words n).types) = ltb-true y (suc (length (mod_of words n).types)) b.0 in
      let k : z < suc (length (mod_of words n).types) = ltb-true z (suc (length (mod_of words n).types)) c.0 in
      (omega arith, omega arith, omega arith)

  pub ray_low : (k : ℕ) → k < 3 → get_or words (offset_at 8 words + k) 0 ≤ count_at 1 words
  ray_low k h = go k h
    where
      all : (get_or words (offset_at 8 words) 0 ≤ length (mod_of words n).types) × (get_or words (1 + offset_at 8 words) 0 ≤ length (mod_of words n).types) × (get_or words (2 + offset_at 8 words) 0 ≤ length (mod_of words n).types)
      all = within-rays _ _ _ (sym (ap (λ (cs : Cells). within (outside (mod_of words n)) cs) rays_are) ∙ (specials_in (mod_of words n) src.three).0)

      go : (k : ℕ) → k < 3 → get_or words (offset_at 8 words + k) 0 ≤ count_at 1 words
      go zero h = let z : offset_at 8 words + 0 ≡ offset_at 8 words = omega arith in rw (types_many, z) all.0
      go (suc zero) h = let z : offset_at 8 words + 1 ≡ 1 + offset_at 8 words = omega arith in rw (types_many, z) all.1
      go (suc (suc zero)) h = let z : offset_at 8 words + 2 ≡ 2 + offset_at 8 words = omega arith in rw (types_many, z) all.2
      go (suc (suc (suc k))) h = absurd (omega arith)

  within_pair : (x y : ℕ) → within (outside (mod_of words n)) ((KEY, x) ∷ (TYPE, y) ∷ []) ≡ true → y < length (mod_of words n).types
  unfolding within bound caps under outside
  within_pair x y q = ltb-true _ _ (and_split (ltb y (length (mod_of words n).types)) true q).0

  pub pair_low : (j : ℕ) → j < count_at 8 words → get_or words (offset_at 8 words + 3 + 2 * j + 1) 0 < count_at 1 words
  pair_low j h =
      let q = every-at (within (outside (mod_of words n))) (mod_of words n).special.pairs (specials_in (mod_of words n) src.three).1 j [] (rw (← keys_count) h) in
      let e = ap (λ (l : List Cells). get_or l j []) pairs_are ∙ pairs-at words (count_at 8 words) (offset_at 8 words + 3) j h in
      let z : offset_at 8 words + 3 + 2 * j + 1 ≡ 1 + (offset_at 8 words + 3 + 2 * j) = omega arith in
      rw (types_many, z) (within_pair (get_or words (offset_at 8 words + 3 + 2 * j) 0) (get_or words (1 + (offset_at 8 words + 3 + 2 * j)) 0) (rw e at q))
