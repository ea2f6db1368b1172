-- Marks and the list of what is still to be visited, as the code has them in a struct, and what visiting a list of numbers does to both.
-- A visit marks a number that is not marked and puts it on the list, so that what is marked besides is on the list, and marks and list together do not grow.
use Rattle.std.specs.Prelude.{◌≡◌, ◌⊎◌, Option, Some, None, Bool, true, false, List, [], ◌∷◌, ℕ, zero, suc, ◌+◌, ◌≤◌, ◌<◌, eqb, length, get_or, take, drop, map, replicate}
use Rattle.std.proofs.lemmas.List.Edits.{sets}
use Rattle.model.specs.Table.{EXPR, OPT_EXPR, NAMED, EXPR_KIND}
use Rattle.model.specs.Tree.{Function}
use Rattle.model.specs.Operands.{optional, ops, kind_at, constant_kind}
use Rattle.model.specs.Initial.{Mem, Reached, roots, initialised}
use Rattle.theory_image.specs.Sections.{start_of}
use Rattle.intake_initialisers.specs.Lists.{Lists}
use Rattle.intake_initialisers.specs.Room.{blank}
use Rattle.intake_initialisers.specs.declared.visited.Visited.{Visited}

-- ---- where records start: the places of kinds, up to the count of named expressions and with it
-- where each record of the words with these classes starts, the first word at `at`, and where the last one ends
unfoldable pub finds : ℕ → List ℕ → List ℕ
finds at [] = []
finds at (s ∷ ss) = elim (eqb s NAMED) [ true ↦ at ∷ [] | false ↦ elim (eqb s EXPR_KIND) [ true ↦ at ∷ finds (suc at) ss | false ↦ finds (suc at) ss ] ]

-- the places xs are written from the first on, as values of a type that `gives` makes of numbers
pub record Found {N : Type 0} (gives : ℕ → N → Type 0) (xs : List ℕ) (before after : List N) : Type 0 where
  pub same : (of : ℕ → N) → ((x : ℕ) (y : N) → gives x y → y ≡ of x) → after ≡ sets before 0 (map of xs)

-- the expression that an optional operand names: it is the number plus 1, or 0 for none
unfoldable pub before : ℕ → Option ℕ
before zero = None
before (suc x) = Some x

-- the expression that a word of a class reads, if it reads one
unfoldable pub reads : ℕ → ℕ → Option ℕ
reads s w = elim (eqb s EXPR) [ true ↦ Some w | false ↦ elim (eqb s OPT_EXPR) [ true ↦ before w | false ↦ None ] ]

-- ---- marks
-- whether expression y has a mark
unfoldable pub on : List Bool → ℕ → Bool
on marks y = get_or marks y false

-- nothing is visited of e expressions, and the list is l
pub record Unvisited (e : ℕ) (l : List ℕ) (v : Visited) : Type 0 where
  pub marks_are : v.marks ≡ replicate 1024 false
  pub list_is : v.list ≡ l
  pub top_is : v.top ≡ 0
  pub count_is : v.count ≡ e

-- what visiting the numbers xs makes of v
pub record Visits (xs : List ℕ) (v v₁ : Visited) : Type 0 where
  pub count_same : v₁.count ≡ v.count
  pub marks_long : length v₁.marks ≡ length v.marks
  pub list_long : length v₁.list ≡ length v.list
  pub moved : v₁.top + blank v₁.count v₁.marks ≡ v.top + blank v.count v.marks
  pub keeps : (y : ℕ) → on v.marks y ≡ true → on v₁.marks y ≡ true
  pub hits : (y : ℕ) → Mem y xs → y < v.count → on v₁.marks y ≡ true
  pub new : (y : ℕ) → on v₁.marks y ≡ true → (on v.marks y ≡ true) ⊎ ((y < v.count) × Mem y xs × Mem y (take v₁.top v₁.list))
  pub lists : (y : ℕ) → Mem y (take v.top v.list) → Mem y (take v₁.top v₁.list)
  pub listed : (y : ℕ) → Mem y (take v₁.top v₁.list) → Mem y (take v.top v.list) ⊎ (on v₁.marks y ≡ true)

-- the initialisers of n locals, each the last of five words
unfoldable pub inits : ℕ → List ℕ → List ℕ
inits zero ws = []
inits (suc n) ws = optional (get_or ws 4 0) (inits n (drop 5 ws))

-- ---- reaching, of a function's expressions
-- an expression whose visit is over: its kind is one of those, and what it reads is marked
pub record Done (f : Function) (v : Visited) (y : ℕ) : Type 0 where
  pub fine : constant_kind (kind_at f.exprs y) ≡ true
  pub closed : (x : ℕ) → Mem x (ops f.exprs y) → x < v.count → on v.marks x ≡ true

-- what is marked is reached, and is on the list or done; the initialisers are marked
pub record Work (f : Function) (v : Visited) : Type 0 where
  pub many : v.count ≡ length f.exprs
  pub only : (y : ℕ) → on v.marks y ≡ true → (y < v.count) × Reached f y
  pub held : (y : ℕ) → Mem y (take v.top v.list) → on v.marks y ≡ true
  pub begun : (y : ℕ) → Mem y (roots f.locals) → y < v.count → on v.marks y ≡ true
  pub settled : (y : ℕ) → on v.marks y ≡ true → Mem y (take v.top v.list) ⊎ Done f v y

-- where the expressions start
pub record Starting (f : Function) (e base : ℕ) (starts : List ℕ) : Type 0 where
  pub each : (x : ℕ) → x ≤ e → get_or starts x 0 ≡ start_of base f.exprs x

-- what is visited so far, of a function whose expressions start at starts
pub record Reaching (words tags starts : List ℕ) (v : Visited) : Type 0 where
  pub function : Function
  pub locals : ℕ
  pub exprs : ℕ
  pub end : ℕ
  pub lists : Lists words tags locals exprs end function
  pub starting : Starting function v.count (exprs + 1) starts
  pub work : Work function v

-- the answer, and where it is good what is left: nothing is on the list any more
pub record Reaches (r : Bool) (words tags starts : List ℕ) (v v₁ : Visited) : Type 0 where
  pub same : (f : Function) (locals exprs end : ℕ) → Lists words tags locals exprs end f → Starting f v.count (exprs + 1) starts → Work f v → r ≡ initialised f
  pub left : r ≡ true → (f : Function) (locals exprs end : ℕ) → Lists words tags locals exprs end f → Starting f v.count (exprs + 1) starts → Work f v → Work f v₁ × (v₁.top ≡ 0)
