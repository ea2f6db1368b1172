-- What the methods of `Special` do, as words: one pair is set, the first pair of a key is found, and all are written.
use Rattle.std.proofs.Common.{◌≡◌, refl, sym, ap, ap₂, ◌∙◌, ℕ, zero, suc, ◌+◌, ◌-◌, ◌*◌, ◌≤◌, ◌<◌, List, [], ◌∷◌, ◌++◌, length, get_or, take, drop, replicate, arith, drop-cons, Option, Some, cond, Bool, true, false, eqb, add_comm, add-one, length-append, append_assoc}
use Rattle.std.proofs.Math.ListN.{set, drop_of_length-le}
use Rattle.std.specs.Prelude.{MatchOption}
use Rattle.std.specs.List.{find}
use Rattle.std.proofs.lemmas.List.Edits.{sets}
use Rattle.model.specs.Names.{field}
use Rattle.model.specs.Special.{keyed}
use Rattle.std.specs.Prelude.{not, ltb, ◌||◌}
use Rattle.std.specs.List.{list_any}
use borrow.Author.Tests.{lt-ltb, ne_eqb}
use Rattle.model.specs.Session.{any_ray}
use Rattle.derive_state.specs.Flats.{pairs_at, special_of}
use Rattle.theory_lists.specs.Stores.{sets-append}
use borrow.Rule.Slice.PartMut.{put_mid}
use Rattle.std.proofs.lemmas.Slice.{put_mid-paste}
use lib.Seq.{sets-eq, take-length}
use Rattle.std.proofs.Math.Seq.{take-append-add, get_or-append_seam}
use Rattle.std.proofs.lemmas.List.{set-append_right, get_or-append-add}
use Rattle.derive_state.specs.declared.special_types.KeyedType.{KeyedType}
use Rattle.derive_state.specs.Pairs.{flat}

flat-zeros : (n : ℕ) → flat (replicate n (record { key = 0; number = 0 })) ≡ replicate (2 * n) 0
unfolding flat
flat-zeros zero = refl
flat-zeros (suc n) = let a : 2 * suc n ≡ suc (suc (2 * n)) = omega arith in rw a (ap (λ (l : List ℕ). 0 ∷ 0 ∷ l) (flat-zeros n))

pub words_none : 0 ∷ 0 ∷ 0 ∷ flat (replicate 512 (record { key = 0; number = 0 })) ≡ replicate 1027 0
words_none = ap (λ (l : List ℕ). 0 ∷ 0 ∷ 0 ∷ l) (flat-zeros 512)

flat-set : (ps : List KeyedType) (i key number : ℕ) → i < length ps → flat (set ps i (record { key = key; number = number })) ≡ set (set (flat ps) (2 * i) key) (1 + 2 * i) number
unfolding flat
flat-set [] i key number h = absurd (omega arith)
flat-set (p ∷ ps) zero key number h = refl
flat-set (p ∷ ps) (suc i) key number h =
    let a : 2 * suc i ≡ suc (suc (2 * i)) = omega arith in
    let b : 1 + 2 * suc i ≡ suc (suc (1 + 2 * i)) = omega arith in
    rw (b, a) (ap (λ (l : List ℕ). p.key ∷ p.number ∷ l) (flat-set ps i key number (omega arith)))

pub pair-set : (rays : List ℕ) (ps : List KeyedType) (i key number : ℕ) → length rays ≡ 3 → i < length ps → rays ++ flat (set ps i (record { key = key; number = number })) ≡ set (set (rays ++ flat ps) (3 + 2 * i) key) (4 + 2 * i) number
pair-set rays ps i key number e h =
    let a : 3 + 2 * i - 3 ≡ 2 * i = omega arith in
    let b : 4 + 2 * i - 3 ≡ 1 + 2 * i = omega arith in
    let x : set (rays ++ flat ps) (3 + 2 * i) key ≡ rays ++ set (flat ps) (2 * i) key = rw a at (set-append_right rays (flat ps) 3 (3 + 2 * i) key e (omega arith)) in
    let y : set (rays ++ set (flat ps) (2 * i) key) (4 + 2 * i) number ≡ rays ++ set (set (flat ps) (2 * i) key) (1 + 2 * i) number = rw b at (set-append_right rays (set (flat ps) (2 * i) key) 3 (4 + 2 * i) number e (omega arith)) in
    ap (λ (l : List ℕ). rays ++ l) (flat-set ps i key number h) ∙ sym (ap (λ (l : List ℕ). set l (4 + 2 * i) number) x ∙ y)

flat-take : (ps : List KeyedType) (n : ℕ) → flat (take n ps) ≡ take (2 * n) (flat ps)
unfolding flat
flat-take ps zero = refl
flat-take [] (suc n) = let a : 2 * suc n ≡ suc (suc (2 * n)) = omega arith in rw a refl
flat-take (p ∷ ps) (suc n) = let a : 2 * suc n ≡ suc (suc (2 * n)) = omega arith in rw a (ap (λ (l : List ℕ). p.key ∷ p.number ∷ l) (flat-take ps n))

pub words-take : (rays : List ℕ) (ps : List KeyedType) (n : ℕ) → length rays ≡ 3 → rays ++ flat (take n ps) ≡ take (3 + 2 * n) (rays ++ flat ps)
words-take rays ps n e = ap (λ (l : List ℕ). rays ++ l) (flat-take ps n) ∙ sym (rw e at (take-append-add rays (flat ps) (2 * n)))

pub words_cleared : (rays : List ℕ) (ps : List KeyedType) → length rays ≡ 3 → 0 ∷ 0 ∷ 0 ∷ flat ps ≡ set (set (set (rays ++ flat ps) 0 0) 1 0) 2 0
words_cleared [] ps e = absurd (omega arith)
words_cleared (a ∷ []) ps e = absurd (omega arith)
words_cleared (a ∷ b ∷ []) ps e = absurd (omega arith)
words_cleared (a ∷ b ∷ c ∷ []) ps e = refl
words_cleared (a ∷ b ∷ c ∷ d ∷ rays) ps e = absurd (omega arith)

-- ---- whether one of the three is there
pub any_found : (rays : List ℕ) (ps : List KeyedType) → length rays ≡ 3 → (r : Bool) → r ≡ list_any (λ v. not (eqb v 0)) rays → r ≡ any_ray (special_of (rays ++ flat ps) 0).rays
unfolding any_ray special_of
any_found [] ps e r q = absurd (omega arith)
any_found (a ∷ []) ps e r q = absurd (omega arith)
any_found (a ∷ b ∷ []) ps e r q = absurd (omega arith)
any_found (a ∷ b ∷ c ∷ []) ps e r q = q ∙ ap₂ ◌||◌ (above a) (ap₂ ◌||◌ (above b) (ap (◌|| false) (above c)))
  where
    above : (v : ℕ) → not (eqb v 0) ≡ ltb 0 v
    above zero = refl
    above (suc v) = rw (ne_eqb (suc v) 0 (λ q. omega (arith, q)), lt-ltb 0 (suc v) (omega arith)) refl
any_found (a ∷ b ∷ c ∷ d ∷ rays) ps e r q = absurd (omega arith)

-- ---- the first pair of a key
abbrev pub has_key : ℕ → KeyedType → Bool
has_key key p = eqb p.key key

abbrev Finds : List ℕ → ℕ → ℕ → ℕ → Option KeyedType → Type 0
Finds ws i n key r = MatchOption r (0 ≡ keyed (pairs_at ws i n) key) (λ p. p.number + 1 ≡ keyed (pairs_at ws i n) key)

finds : (before : List ℕ) (ps : List KeyedType) (n key : ℕ) → n ≤ length ps → Finds (before ++ flat ps) (length before) n key (find (has_key key) (take n ps))
unfolding flat keyed pairs_at field
finds before ps zero key h = refl
finds before [] (suc n) key h = absurd (omega arith)
finds before (p ∷ ps) (suc n) key h = go (eqb p.key key) refl (finds (before ++ p.key ∷ p.number ∷ []) ps n key (omega arith))
  where
    ws : List ℕ
    ws = before ++ p.key ∷ p.number ∷ flat ps

    at-key : get_or ws (length before) 0 ≡ p.key
    at-key = get_or-append_seam before p.key (p.number ∷ flat ps) 0

    at-number : get_or ws (1 + length before) 0 ≡ p.number
    at-number = ap (λ k. get_or ws k 0) (add_comm 1 (length before)) ∙ get_or-append-add before (p.key ∷ p.number ∷ flat ps) 1 0

    go : (b : Bool) → eqb p.key key ≡ b → Finds ((before ++ p.key ∷ p.number ∷ []) ++ flat ps) (length (before ++ p.key ∷ p.number ∷ [])) n key (find (has_key key) (take n ps)) → Finds ws (length before) (suc n) key (cond b (Some p) (find (has_key key) (take n ps)))
    go true e r = rw (keyed, at-key, e, at-number) (add-one p.number)
    go false e r =
        let a : length (before ++ p.key ∷ p.number ∷ []) ≡ 2 + length before = length-append before (p.key ∷ p.number ∷ []) ∙ add_comm (length before) 2 in
        let z : Finds ws (2 + length before) n key (find (has_key key) (take n ps)) = rw (append_assoc before (p.key ∷ p.number ∷ []) (flat ps), a) at r in
        rw (keyed, at-key, e) z

pub found_type : (rays : List ℕ) (ps : List KeyedType) (n key : ℕ) → length rays ≡ 3 → n ≤ length ps → (r : Option KeyedType) → r ≡ find (has_key key) (take n ps) → Finds (rays ++ flat ps) 3 n key r
found_type rays ps n key e h r q = rw q (rw e at (finds rays ps n key h))

-- ---- all of them written
pub record Writing (out₀ : List ℕ) (at : ℕ) (ps : List KeyedType) (out : List ℕ) (j : ℕ) : Type 0 where
  pub within : j ≤ length ps
  pub same : sets out (at + 2 * j) (flat (drop j ps)) ≡ sets out₀ at (flat ps)

module _ (out₀ : List ℕ) (at : ℕ) (ps : List KeyedType) where
  pub writing_begin : Writing out₀ at ps out₀ 0
  writing_begin = let a : at + 2 * 0 ≡ at = omega arith in record { within = omega arith; same = rw a refl }

  module _ (out : List ℕ) (j : ℕ) (inv : Writing out₀ at ps out j) where
    pub writing_next : (d : KeyedType) → j < length ps → (i : ℕ) → i ≡ at + 2 * j → (k : ℕ) → k ≡ suc i → Writing out₀ at ps (set (set out i (get_or ps j d).key) k (get_or ps j d).number) (j + 1)
    unfolding flat
    writing_next d h i e k q =
        let p : KeyedType = get_or ps j d in
        let f : drop j ps ≡ p ∷ drop (suc j) ps = drop-cons ps j d h in
        let b : at + 2 * (j + 1) ≡ suc (suc (at + 2 * j)) = omega arith in
        let c : j + 1 ≡ suc j = omega arith in
        record { within = omega arith; same = rw (q, e, b, c) (rw f at inv.same) }

    pub writing_done : length ps ≤ j → out ≡ sets out₀ at (flat ps)
    unfolding flat
    writing_done h = rw (drop_of_length-le ps {i = j} h) at inv.same

-- ---- copy: what a part of a list holds after copy_from_slice
copied : (from out ys : List ℕ) (at k : ℕ) → ys ≡ from → k ≡ length from → at + length from ≤ length out → put_mid at k out ys ≡ sets out at from
copied from out ys at k e q room =
    put_mid-paste at k out ys from (length from) e (sym q) refl
    ∙ ap (λ v. take at out ++ v ++ drop (at + length from) out) (take-length from)
    ∙ sym (sets-eq from out at room)

-- ---- the words before and those of the pairs
pub written : (out₀ rays rays' out : List ℕ) (at : ℕ) (ps : List KeyedType) (n k : ℕ) → length rays ≡ 3 → rays' ≡ rays → k ≡ 3 → at + 3 ≤ length out₀ → out ≡ sets (put_mid at k out₀ rays') (at + 3) (flat (take n ps)) → out ≡ sets out₀ at (take (3 + 2 * n) (rays ++ flat ps))
written out₀ rays rays' out at ps n k e q z h w =
    w
    ∙ ap (λ (l : List ℕ). sets l (at + 3) (flat (take n ps))) (copied rays out₀ rays' at k q (z ∙ sym e) (omega arith))
    ∙ ap (λ (m : ℕ). sets (sets out₀ at rays) (at + m) (flat (take n ps))) (sym e)
    ∙ sym (ap (sets out₀ at) (sym (words-take rays ps n e)) ∙ sets-append rays out₀ at (flat (take n ps)))
