-- The initialiser expressions of a function: the expressions that the initialisers of its locals reach and that are not standing. Reaching is a judgement; the marks are computed by rounds, each of which marks what the marked ones read, until a round marks nothing new.
-- `Reached` proves that the marks are the judgement, for operands that run forward as well: intake tests the kinds reached (3) before it tests that operands are lower (4).
-- Document 01, "Expressions": "Initialisers of locals reach only those kinds; the non-standing ones reached are initialiser expressions."
use Rattle.std.specs.Prelude.{Bool, true, false, ◌&&◌, not, List, [], ◌∷◌, ◌++◌, ℕ, zero, suc, eqb, length, get_or, replicate, set}
use Rattle.model.specs.Outcome.{Cells, class, word}
use Rattle.model.specs.Table.{LOCAL-INIT}
use Rattle.model.specs.Tree.{Function}
use Rattle.model.specs.Operands.{optional, ops_of, ops, kind, standing_kind, constant_kind}

-- ---- roots: "locals (span, name, type, optional init)"
unfoldable pub inits_of : Cells → List ℕ → List ℕ
inits_of [] xs = xs
inits_of (c ∷ cs) xs = elim (eqb (class c) LOCAL-INIT) [ true ↦ optional (word c) (inits_of cs xs) | false ↦ inits_of cs xs ]

unfoldable pub roots : List Cells → List ℕ
roots [] = []
roots (l ∷ ls) = inits_of l (roots ls)

-- ---- the judgement
pub data Mem (x : ℕ) : List ℕ → Type 0 where
  here : {xs : List ℕ} → Mem x (x ∷ xs)
  there : {y : ℕ} {xs : List ℕ} → Mem x xs → Mem x (y ∷ xs)

-- along operands as they are, lower or not
pub data Reach (from : List ℕ) (opsAt : ℕ → List ℕ) : ℕ → Type 0 where
  root : {e : ℕ} → Mem e from → Reach from opsAt e
  step : {e x : ℕ} → Reach from opsAt e → Mem x (opsAt e) → Reach from opsAt x

-- what the locals of a function reach
abbrev pub Reached : Function → ℕ → Type 0
Reached F e = Reach (roots F.locals) (ops F.exprs) e

-- ---- marks, one for each expression
abbrev pub Marks : Type 0
Marks = List Bool

unfoldable pub marked : Marks → ℕ → Bool
marked m e = get_or m e false

unfoldable pub mark : List ℕ → Marks → Marks
mark [] m = m
mark (e ∷ es) m = mark es (set m e true)

unfoldable pub unmarked : Marks → ℕ
unmarked [] = 0
unmarked (true ∷ m) = unmarked m
unmarked (false ∷ m) = suc (unmarked m)

-- what the marked records read
unfoldable pub read_by : Marks → List Cells → List ℕ
read_by [] xs = []
read_by (b ∷ m) [] = []
read_by (true ∷ m) (x ∷ xs) = ops_of x ++ read_by m xs
read_by (false ∷ m) (x ∷ xs) = read_by m xs

-- at most n rounds
unfoldable pub close : ℕ → List Cells → Marks → Marks
close zero xs m = m
close (suc n) xs m = let m' = mark (read_by m xs) m in elim (eqb (unmarked m') (unmarked m)) [ true ↦ m | false ↦ close n xs m' ]

-- what the locals reach
unfoldable pub reached_marks : Function → Marks
reached_marks F = close (length F.exprs) F.exprs (mark (roots F.locals) (replicate (length F.exprs) false))

unfoldable pub reached : Function → ℕ → Bool
reached F e = marked (reached_marks F) e

-- the rows that are marked and not standing
unfoldable pub moving : Marks → List Cells → Marks
moving [] xs = []
moving (b ∷ m) [] = []
moving (b ∷ m) (x ∷ xs) = (b && not (standing_kind (kind x))) ∷ moving m xs

-- "the non-standing ones reached are initialiser expressions"
unfoldable pub initials : Function → Marks
initials F = moving (reached_marks F) F.exprs

unfoldable pub initial : Function → ℕ → Bool
initial F e = marked (initials F) e

-- "initialisers of locals reach only those kinds", a rule of refusal 3
unfoldable pub constant_at : Marks → List Cells → Bool
constant_at [] xs = true
constant_at (b ∷ m) [] = true
constant_at (true ∷ m) (x ∷ xs) = constant_kind (kind x) && constant_at m xs
constant_at (false ∷ m) (x ∷ xs) = constant_at m xs

unfoldable pub initialised : Function → Bool
initialised F = constant_at (reached_marks F) F.exprs
