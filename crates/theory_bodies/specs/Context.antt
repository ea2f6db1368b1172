-- What the import of a body is given, and what it requires of the imports outside the function: after one its number is mapped, what was mapped stays mapped, the derived tables only grow, and one of what is mapped does nothing.
use Rattle.std.specs.Prelude.{ℕ, zero, suc, ◌<◌, ◌≤◌, ◌≡◌, refl, List, [], ◌∷◌, length}
use Rattle.std.proofs.Common.{arith, le_refl, le_trans}
use Rattle.model.specs.Outcome.{Cells}
use Rattle.model.specs.Module.{Module}
use Rattle.model.specs.Tables.{tables, count, map_at}
use Rattle.model.specs.References.{Place, table, own, function, Node}
use Rattle.model.specs.Imports.{Derived, unless_mapped, import_t}
use Rattle.model.specs.Bodies.{known, Builder, mapped_to}
use Rattle.theory_records.specs.RecordLaws.{All as AllN, all_map as alln-map}
use Rattle.theory_records.specs.Theorems.{Grows, grows_trans}
use Rattle.theory_bodies.specs.Lists.{All}

-- ---- outside the function
-- what a number is mapped to; own expressions are no matter of the tables
unfoldable pub look : Module → Derived → Place → ℕ → ℕ
look M s (table t) n = map_at s.maps t n
look M s own n = 1
look M s function n = known M s n

unfoldable pub size_of : Derived → Place → ℕ
size_of s (table t) = count s.recs t
size_of s own = 1
size_of s function = length s.functions

-- a number of the source that may be met: in range of its table; of functions, one of Q, which are those that may be followed
unfoldable pub Inside : Module → (ℕ → Type 0) → Place → ℕ → Type 0
Inside M Q (table t) n = n < count (tables M) t
Inside M Q own n = Unit {0}
Inside M Q function n = Q n

abbrev pub InN : Module → (ℕ → Type 0) → Node → Type 0
InN M Q j = Inside M Q j.place j.num

pub record Grown (s s' : Derived) : Type 0 where
  pub tables : Grows s.recs s'.recs
  pub functions : length s.functions ≤ length s'.functions

pub grown_refl : (s : Derived) → Grown s s
grown_refl s = record { tables = record { longer = λ u. le_refl _; prefix = λ u k h. refl }; functions = le_refl _ }

pub grown_trans : {a b c : Derived} → Grown a b → Grown b c → Grown a c
grown_trans p q = record { tables = grows_trans p.tables q.tables; functions = le_trans p.functions q.functions }

pub grown_size : {s s' : Derived} → Grown s s' → (p : Place) → size_of s p ≤ size_of s' p
unfolding size_of
grown_size g (table t) = g.tables.longer t
grown_size g own = le_refl _
grown_size g function = g.functions

module _ (o : ℕ) (M : Module) (follow : ℕ → Derived → Derived) where
  -- what a reference imports
  unfoldable pub outer : Place → ℕ → Derived → Derived
  outer (table t) n s = import_t o (tables M) t n s
  outer own n s = s
  outer function n s = follow n s

  -- G holds between imports
  pub record Law (Q : ℕ → Type 0) (G : Derived → Type 0) : Type 0 where
    pub good : (p : Place) (n : ℕ) (s : Derived) → Inside M Q p n → G s → G (outer p n s)
    pub maps : (p : Place) (n : ℕ) (s : Derived) → Inside M Q p n → G s → 0 < look M (outer p n s) p n
    pub keeps : (p : Place) (n : ℕ) (s : Derived) → Inside M Q p n → G s → (q : Place) (k : ℕ) → 0 < look M s q k → look M (outer p n s) q k ≡ look M s q k
    pub idle : (p : Place) (n : ℕ) (s : Derived) → Inside M Q p n → G s → 0 < look M s p n → outer p n s ≡ s
    pub grown : (p : Place) (n : ℕ) (s : Derived) → Inside M Q p n → G s → Grown s (outer p n s)
    pub within : (s : Derived) → G s → (p : Place) (n : ℕ) → look M s p n ≤ size_of s p

-- the offset of spans, the source, callees, the function's expressions
pub record Ctx : Type 1 where
  pub o : ℕ
  pub M : Module
  pub follow : ℕ → Derived → Derived
  -- the functions that may be followed, and the expressions that may be imported
  pub calls : ℕ → Type 0
  pub may : ℕ → Type 0
  pub G : Derived → Type 0
  pub law : Law o M follow calls G
  pub xs : List Cells

-- ---- own expressions among references
unfoldable pub OwnP : (ℕ → Type 0) → Place → ℕ → Type 0
OwnP P (table t) n = Unit {0}
OwnP P own n = P n
OwnP P function n = Unit {0}

abbrev pub Own : (ℕ → Type 0) → Node → Type 0
Own P j = OwnP P j.place j.num

pub own_map : {P Q : ℕ → Type 0} → ((x : ℕ) → P x → Q x) → (p : Place) (n : ℕ) → OwnP P p n → OwnP Q p n
unfolding OwnP
own_map f (table t) n a = tt
own_map f own n a = f n a
own_map f function n a = tt

pub owns-map : {P Q : ℕ → Type 0} → ((x : ℕ) → P x → Q x) → (js : List Node) → AllN (Own P) js → AllN (Own Q) js
owns-map f js a = alln-map js (λ j. own_map f j.place j.num) a

pub own_both : {P Q R : ℕ → Type 0} → ((x : ℕ) → P x → Q x → R x) → (p : Place) (n : ℕ) → OwnP P p n → OwnP Q p n → OwnP R p n
unfolding OwnP
own_both f (table t) n a b = tt
own_both f own n a b = f n a b
own_both f function n a b = tt

unfoldable pub own_of : Place → ℕ → List ℕ → List ℕ
own_of (table t) n xs = xs
own_of own n xs = n ∷ xs
own_of function n xs = xs

-- the expressions among the references, in order
unfoldable pub owns : List Node → List ℕ
owns [] = []
owns (j ∷ js) = own_of j.place j.num (owns js)

pub owns-all : (P : ℕ → Type 0) (js : List Node) → All P (owns js) → AllN (Own P) js
unfolding owns
owns-all P [] a = tt
owns-all P (j ∷ js) a = let r = go j.place j.num a in (r.0, owns-all P js r.1)
  where
    go : (p : Place) (n : ℕ) → All P (own_of p n (owns js)) → OwnP P p n × All P (owns js)
    go (table t) n b = unfold own_of OwnP in (tt, b)
    go own n b = unfold own_of OwnP in b
    go function n b = unfold own_of OwnP in (tt, b)

pub all-owns : (P : ℕ → Type 0) (js : List Node) → AllN (Own P) js → All P (owns js)
unfolding owns
all-owns P [] a = tt
all-owns P (j ∷ js) a = go j.place j.num a.0 (all-owns P js a.1)
  where
    go : (p : Place) (n : ℕ) → OwnP P p n → All P (owns js) → All P (own_of p n (owns js))
    go (table t) n x b = unfold own_of OwnP in b
    go own n x b = unfold own_of OwnP in (x, b)
    go function n x b = unfold own_of OwnP in b

-- ---- one reference outside, on the builder
pub went-look : (M : Module) (m : Builder) (p : Place) (n : ℕ) → (own ≡ p → ⊥) → mapped_to M m p n ≡ look M m.out p n
unfolding mapped_to look
went-look M m (table t) n h = refl
went-look M m own n h = absurd (h refl)
went-look M m function n h = refl

pub once_is : {S : Type 0} (P : S → Type 0) (v : ℕ) (k : ℕ → S) (s : S) → (v ≡ 0 → P (k 0)) → (0 < v → P s) → P (unless_mapped v k s)
unfolding unless_mapped
once_is P zero k s f g = f refl
once_is P (suc v) k s f g = g (omega arith)

pub once_cong : {S : Type 0} (v : ℕ) (k k' : ℕ → S) (s : S) → (v ≡ 0 → k 0 ≡ k' 0) → unless_mapped v k s ≡ unless_mapped v k' s
unfolding unless_mapped
once_cong zero k k' s h = h refl
once_cong (suc n) k k' s h = refl
