-- What is in range stays in range when tables grow: test 3's bounds, of a function or an entry point, are monotone.
use Rattle.std.specs.Prelude.{◌≡◌, refl, Bool, true, ◌&&◌, List, [], ◌∷◌, ◌++◌, ℕ, zero, suc, ◌-◌, ◌≤◌, ltb, get_or}
use Rattle.std.proofs.Math.Option.{Option, none, some}
use Rattle.std.proofs.Common.{suc-le-suc, arith, ltb-true, lt-ltb}
use Rattle.theory_lists.specs.Booleans.{and-true, and_split}
use Rattle.model.specs.Outcome.{Cells, class, word}
use Rattle.model.specs.Table.{WORD}
use Rattle.model.specs.Tree.{Function, Entry, flat, flat_entry}
use Rattle.model.specs.Initial.{initialised}
use Rattle.model.specs.Numbers.{Bounds, caps, bound, below, within, ordered, every, inside, sound, sound_function, sound_entry}
use Rattle.theory_finish.specs.Firsts.{either}

-- more of everything outside functions
pub record Wider (a b : Bounds) : Type 0 where
  pub names : a.names ≤ b.names
  pub types : a.types ≤ b.types
  pub constants : a.constants ≤ b.constants
  pub overrides : a.overrides ≤ b.overrides
  pub globals : a.globals ≤ b.globals
  pub inits : a.inits ≤ b.inits
  pub functions : a.functions ≤ b.functions
  pub exprs : a.exprs ≤ b.exprs
  pub arguments : a.arguments ≤ b.arguments
  pub locals : a.locals ≤ b.locals

data Caps : List (Option ℕ) → List (Option ℕ) → Type 0 where
  caps-none : Caps [] []
  caps-free : {xs ys : List (Option ℕ)} → Caps xs ys → Caps (none ∷ xs) (none ∷ ys)
  caps-more : {a b : ℕ} {xs ys : List (Option ℕ)} → a ≤ b → Caps xs ys → Caps (some a ∷ xs) (some b ∷ ys)

below_more : (a b w : ℕ) → a ≤ b → below (some a) w ≡ true → below (some b) w ≡ true
unfolding below
below_more a b w h e = lt-ltb w b (omega (arith, ltb-true w a e))

caps-at : {xs ys : List (Option ℕ)} → Caps xs ys → (k w : ℕ) → below (get_or xs k none) w ≡ true → below (get_or ys k none) w ≡ true
caps-at caps-none k w h = h
caps-at (caps-free c) zero w h = h
caps-at (caps-free c) (suc k) w h = caps-at c k w h
caps-at (caps-more {a} {b} l c) zero w h = below_more a b w l h
caps-at (caps-more l c) (suc k) w h = caps-at c k w h

caps_wider : {a b : Bounds} → Wider a b → Caps (caps a) (caps b)
unfolding caps
caps_wider w =
    caps-free (caps-free (caps-free
    (caps-more (suc-le-suc w.names)
    (caps-more w.types (caps-more (suc-le-suc w.types)
    (caps-more w.constants (caps-more w.overrides (caps-more w.globals
    (caps-more w.inits (caps-more (suc-le-suc w.inits)
    (caps-more w.functions (caps-more w.functions
    (caps-more w.exprs (caps-more (suc-le-suc w.exprs)
    (caps-more w.arguments (caps-more w.locals
    (caps-free (caps-more (suc-le-suc w.exprs)
    (caps-more w.exprs (caps-more (suc-le-suc w.exprs)
    (caps-more w.exprs (caps-more (suc-le-suc w.exprs) caps-none))))))))))))))))))))))

bound_wider : {a b : Bounds} → Wider a b → (s w : ℕ) → below (bound a s) w ≡ true → below (bound b s) w ≡ true
unfolding bound
bound_wider {a} {b} x s w h = either (ltb s WORD) (λ e. rw (bound, e) (rw (bound, e) at h)) λ e. rw (bound, e) (caps-at (caps_wider x) (s - WORD) w (rw (bound, e) at h))

pub within_wider : {a b : Bounds} → Wider a b → (cs : Cells) → within a cs ≡ true → within b cs ≡ true
unfolding within
within_wider x [] h = refl
within_wider {a} x (c ∷ cs) h = let p = and_split (below (bound a (class c)) (word c)) (within a cs) h in and-true (bound_wider x (class c) (word c) p.0) (within_wider x cs p.1)

inside_wider : {a b : Bounds} (f : Function) → Wider a b → Wider (inside a f) (inside b f)
unfolding inside
inside_wider f x = record { names = x.names; types = x.types; constants = x.constants; overrides = x.overrides; globals = x.globals; inits = x.inits; functions = x.functions; exprs = omega arith; arguments = omega arith; locals = omega arith }

sound_wider : {a b : Bounds} → Wider a b → (f : Function) (cs : Cells) → sound a f cs ≡ true → sound b f cs ≡ true
unfolding sound
sound_wider {a} x f cs h = let p = and_split (within (inside a f) cs) (ordered cs && initialised f) h in and-true (within_wider (inside_wider f x) cs p.0) p.1

pub functions_wider : {a b : Bounds} → Wider a b → (fs : List Function) → every (sound_function a) fs ≡ true → every (sound_function b) fs ≡ true
unfolding every
functions_wider x [] h = refl
functions_wider {a} x (f ∷ fs) h = let p = and_split (sound_function a f) (every (sound_function a) fs) h in and-true (sound_wider x f (flat f) p.0) (functions_wider x fs p.1)

pub entry_wider : {a b : Bounds} → Wider a b → (e : Entry) → sound_entry a e ≡ true → sound_entry b e ≡ true
entry_wider x e h = sound_wider x e.function (flat_entry e) h

pub every_snoc : {A : Type 0} (p : A → Bool) (l : List A) (x : A) → every p l ≡ true → p x ≡ true → every p (l ++ (x ∷ [])) ≡ true
unfolding every
every_snoc p [] x h e = and-true e refl
every_snoc p (y ∷ l) x h e = let q = and_split (p y) (every p l) h in and-true q.0 (every_snoc p l x q.1 e)
