-- Pairs of a key and a type as the words of an image's section of special types.
use Rattle.std.specs.Prelude.{◌≡◌, ℕ, List, [], ◌∷◌, ◌++◌, length, take, drop}
use Rattle.std.proofs.Common.{refl, ap, arith}
use Rattle.derive_state.specs.declared.special_types.KeyedType.{KeyedType}

-- the words of pairs
unfoldable pub flat : List KeyedType → List ℕ
flat [] = []
flat (p ∷ ps) = p.key ∷ p.number ∷ flat ps

-- the words read back
unfoldable pub pairs_in : List ℕ → List KeyedType
pairs_in [] = []
pairs_in (k ∷ []) = []
pairs_in (k ∷ n ∷ ws) = record { key = k; number = n } ∷ pairs_in ws

-- written and read back, pairs are what they were
in_flat : (ps : List KeyedType) → pairs_in (flat ps) ≡ ps
unfolding flat pairs_in
in_flat [] = refl
in_flat (p ∷ ps) = ap (λ (qs : List KeyedType). p ∷ qs) (in_flat ps)

-- of the words of a section, the three optional types are read back
pub rays_back : (rays xs : List ℕ) → length rays ≡ 3 → take 3 (rays ++ xs) ≡ rays
rays_back [] xs e = absurd (omega (arith, e))
rays_back (a ∷ []) xs e = absurd (omega (arith, e))
rays_back (a ∷ b ∷ []) xs e = absurd (omega (arith, e))
rays_back (a ∷ b ∷ c ∷ []) xs e = refl
rays_back (a ∷ b ∷ c ∷ d ∷ rays) xs e = absurd (omega (arith, e))

-- and the pairs
pub pairs_back : (rays : List ℕ) (ps : List KeyedType) → length rays ≡ 3 → pairs_in (drop 3 (rays ++ flat ps)) ≡ ps
pairs_back [] ps e = absurd (omega (arith, e))
pairs_back (a ∷ []) ps e = absurd (omega (arith, e))
pairs_back (a ∷ b ∷ []) ps e = absurd (omega (arith, e))
pairs_back (a ∷ b ∷ c ∷ []) ps e = in_flat ps
pairs_back (a ∷ b ∷ c ∷ d ∷ rays) ps e = absurd (omega (arith, e))
