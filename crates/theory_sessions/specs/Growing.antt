-- WHAT OPERATIONS LEAVE: except at the end of a session, tables and functions only grow; while the source stays, what is mapped stays mapped to the same; and no two derived records of a table are equal, ignoring spans.
use Rattle.std.specs.Prelude.{◌≡◌, ◌⊎◌, Bool, true, false, ℕ, ◌<◌}
use Rattle.std.proofs.Math.Path.{refl}
use Rattle.std.proofs.Common.{inl, inr, arith}
use Rattle.model.specs.Module.{Module}
use Rattle.model.specs.Carry.{WellFormed}
use Rattle.model.specs.Intake.{Passes}
use Rattle.model.specs.Tables.{types, Tables, tables, count}
use Rattle.model.specs.Imports.{Derived, import_t, unmapped, emptied}
use Rattle.model.specs.Special.{force, with_special, put_ray, put_pair, sourced}
use Rattle.model.specs.Session.{Source, Session, Answer, answered, refused, after, clear}
use Rattle.theory_records.specs.Trace.{Keeps}
use Rattle.theory_records.specs.Theorems.{Distinct}
use Rattle.theory_bodies.specs.Context.{Grown, grown_refl, grown_trans}
use Rattle.theory_finish.specs.Sessions.{Setting, sourced-kept}
use Rattle.theory_sessions.specs.Following.{Older, older_same, older_trans, Holds, Next, holds_from, from_import}
use Rattle.theory_sessions.specs.Holding.{same_grown, emptied-holds, holds_setting}
use Rattle.theory_sessions.specs.Operating.{Operation, sets, clears, spans, imports, renames, functions, handles, finishes, finishes_with, does, Set, Good, good_holds, set_after, span_after, import_after, rename-after, function-after, handle_after}

-- tables, and functions, have what they had
pub record Grew (a s : Derived) : Type 0 where
  pub grown : Grown a s
  pub older : Older a s

pub grew_refl : (s : Derived) → Grew s s
grew_refl s = record { grown = grown_refl s; older = older_same s s refl }

grew_trans : {a b c : Derived} → Grew a b → Grew b c → Grew a c
grew_trans {a} {b} {c} p q = record { grown = grown_trans p.grown q.grown; older = older_trans a b c p.grown.functions p.older q.older }

grew_same : (s r : Derived) → r.recs ≡ s.recs → r.functions ≡ s.functions → Grew s r
grew_same s r p q = record { grown = same_grown s r p q; older = older_same s r q }

-- ---- setting a source
module _ (m : Module) (well : WellFormed m) (ok : Passes m) (o : ℕ) (a : Derived) where
  record Both (s : Derived) : Type 0 where
    holds : Holds (tables m) s
    grew : Grew a s

  import_grew : (n : ℕ) (s : Derived) → n < count (tables m) types → Both s → Grew a (import_t o (tables m) types n s)
  import_grew n s l b = let f = from_import m well ok o s types n s l (holds_from b.holds) in grew_trans b.grew (record { grown = f.grown; older = f.older })

  both_setting : Setting m o Both
  both_setting = let z = holds_setting m well ok o in record {
    ray-new = λ j n s l b. record { holds = z.ray-new j n s l b.holds; grew = grew_trans (import_grew n s l b) (unfold put_ray with_special in grew_same _ _ refl refl) };
    ray_old = λ j n v s e b. record { holds = z.ray_old j n v s e b.holds; grew = grew_trans b.grew (unfold force in grew_same _ _ refl refl) };
    pair-new = λ key n s l e b. record { holds = z.pair-new key n s l e b.holds; grew = grew_trans (import_grew n s l b) (unfold put_pair with_special in grew_same _ _ refl refl) };
    pair_old = λ key n v s e b. record { holds = z.pair_old key n v s e b.holds; grew = grew_trans b.grew (unfold force in grew_same _ _ refl refl) };
  }

  sourced_grew : (T : Tables) → Holds T a → Grew a (sourced o m a)
  sourced_grew T h = (sourced-kept m ok.numbers both_setting well a (record { holds = emptied-holds T (tables m) a h; grew = (unfold emptied in grew_same a (emptied (unmapped (tables m)) a) (unfold emptied in refl) (unfold emptied in refl)) })).grew

-- ---- THE THEOREMS
-- the operations that end a session, and those that change its source
unfoldable pub ends : Operation → Bool
ends (sets bytes ws o) = false
ends clears = false
ends (spans p) = false
ends (imports t n) = false
ends (renames n name) = false
ends (functions n) = false
ends (handles n) = false
ends (finishes room) = true
ends (finishes_with room) = true

unfoldable pub turns : Operation → Bool
turns (sets bytes ws o) = true
turns clears = true
turns (spans p) = false
turns (imports t n) = false
turns (renames n name) = false
turns (functions n) = false
turns (handles n) = false
turns (finishes room) = true
turns (finishes_with room) = true

never : {A : Type 0} → true ≡ false → A
never e = let z : ◌≡◌ {A = ℕ} 0 1 = cc in absurd (omega arith)

-- TABLES AND FUNCTIONS ONLY GROW
pub does_grow : (p : Operation) → ends p ≡ false → (s : Session) → Good s → Grew s.state (does p s).state
unfolding does ends clear emptied Good
does_grow p e s g = go p e
  where
    P : Session → Type 0
    P r = Grew s.state r.state

    p₀ : P s
    p₀ = grew_refl s.state

    next : (x : Source) (r : Derived) → Set x s.state → Next x.image s.state r → Grew s.state r
    next x r k n = record { grown = n.grown; older = n.older }

    sets-on : (o : ℕ) (m : Module) → WellFormed m → Passes m → Grew s.state (sourced o m s.state)
    sets-on o m w k = let h = good_holds s.source s.state g in sourced_grew m w k o s.state h.0 h.1

    go : (p : Operation) → ends p ≡ false → P (does p s)
    go (sets bytes ws o) e = set_after P s p₀ bytes ws o (sets-on o)
    go clears e = grew_same s.state (clear s).state refl refl
    go (spans v) e = span_after P s p₀ g v
    go (imports t n) e = import_after P s p₀ g next t n
    go (renames n name) e = rename-after P s p₀ g next n name
    go (functions n) e = function-after P s p₀ g next n
    go (handles n) e = handle_after P s p₀ g next n
    go (finishes room) e = never e
    go (finishes_with room) e = never e

-- WHILE THE SOURCE STAYS what is mapped stays mapped to the same
pub does-keep : (p : Operation) → turns p ≡ false → (s : Session) → Good s → Keeps s.state (does p s).state
unfolding does turns Keeps
does-keep p e s g = go p e
  where
    P : Session → Type 0
    P r = Keeps s.state r.state

    p₀ : P s
    p₀ t n h = refl

    next : (x : Source) (r : Derived) → Set x s.state → Next x.image s.state r → Keeps s.state r
    next x r k n = n.keeps

    go : (p : Operation) → turns p ≡ false → P (does p s)
    go (sets bytes ws o) e = never e
    go clears e = never e
    go (spans v) e = span_after P s p₀ g v
    go (imports t n) e = import_after P s p₀ g next t n
    go (renames n name) e = rename-after P s p₀ g next n name
    go (functions n) e = function-after P s p₀ g next n
    go (handles n) e = handle_after P s p₀ g next n
    go (finishes room) e = never e
    go (finishes_with room) e = never e

-- NO TWO RECORDS of a table are equal, ignoring spans
pub all-distinct : (s : Session) → Good s → Distinct s.state
unfolding Good
all-distinct s g = (good_holds s.source s.state g).1.typed.kept.base.distinct

-- ---- A REFUSAL keeps the session, and there is no third
pub refused_keeps : {A : Type 0} (s : Session) (n : ℕ) (a : Answer A) → a ≡ refused n → after s a ≡ s
unfolding after
refused_keeps s n a e = rw e refl

pub answered_or_refused : {A : Type 0} (a : Answer A) → ((v : A) × (r : Session) × (a ≡ answered v r)) ⊎ ((n : ℕ) × (a ≡ refused n))
answered_or_refused (answered v r) = inl (v, r, refl)
answered_or_refused (refused n) = inr (n, refl)
