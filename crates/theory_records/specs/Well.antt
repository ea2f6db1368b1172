-- Well-formed tables, what tests 3 and 4 leave of them: every reference is in range and of a kind that its table may have, in its own table it is lower, and an expression's constant or override has an init that is lower than the expression. Ranks, which fall along references.
use Rattle.std.specs.Prelude.{◌≡◌, refl, List, [], ◌∷◌, ℕ, suc, ◌+◌, ◌*◌, ◌<◌, ◌≤◌, max}
use native.Mathlib.Omega.{arith}
use Rattle.model.specs.Tables.{Tab, names, types, constants, overrides, globals, exprs, Tables, rec_at, count}
use Rattle.model.specs.References.{Place, table, own, function, Node, node, refs}
use Rattle.theory_records.specs.RecordLaws.{All, all_map, all_both}

-- the table that a place of a table's record is in; an operand of a global expression is a global expression
unfoldable pub home : Place → Tab
home (table t) = t
home own = exprs
home function = names

-- which table may refer to what
pub data May : Tab → Place → Type 0 where
  type_name : May types (table names)
  type_type : May types (table types)
  const_name : May constants (table names)
  const_type : May constants (table types)
  const_init : May constants (table exprs)
  over_name : May overrides (table names)
  over_type : May overrides (table types)
  over_init : May overrides (table exprs)
  global_name : May globals (table names)
  global_type : May globals (table types)
  global-init : May globals (table exprs)
  expr_type : May exprs (table types)
  expr_const : May exprs (table constants)
  expr_over : May exprs (table overrides)
  expr_own : May exprs own

-- each expression that the record j refers to is lower than n
unfoldable pub InitLow : Tables → ℕ → Node → Type 0
InitLow m n j = All (λ i. home i.place ≡ exprs → i.num < n) (refs (rec_at m (home j.place) j.num))

-- record n of table t may refer to j
pub record Good (m : Tables) (t : Tab) (n : ℕ) (j : Node) : Type 0 where
  pub inside : j.num < count m (home j.place)
  pub may : May t j.place
  pub lower : home j.place ≡ t → j.num < n
  pub init : t ≡ exprs → InitLow m n j

unfoldable pub WF : Tables → Type 0
WF m = (t : Tab) (n : ℕ) → n < count m t → All (Good m t n) (refs (rec_at m t n))

-- ---- ranks
unfoldable pub top_f : Tab → ℕ → ℕ → ℕ
top_f names k rest = rest
top_f types k rest = rest
top_f constants k rest = rest
top_f overrides k rest = rest
top_f globals k rest = rest
top_f exprs k rest = max (suc k) rest

-- above every expression that is referred to
unfoldable pub top : List Node → ℕ
top [] = 0
top (j ∷ js) = top_f (home j.place) j.num (top js)

unfoldable pub rank : Tables → Tab → ℕ → ℕ
rank m names n = 0
rank m types n = suc n
rank m constants n = count m types + (1 + 2 * top (refs (rec_at m constants n)))
rank m overrides n = count m types + (1 + 2 * top (refs (rec_at m overrides n)))
rank m globals n = count m types + (1 + 2 * top (refs (rec_at m globals n)))
rank m exprs n = count m types + (2 + 2 * n)

unfoldable pub Lower : Tables → Tab → ℕ → Node → Type 0
Lower m t n j = (j.num < count m (home j.place)) × (rank m (home j.place) j.num < rank m t n) × May t j.place

top_low : (js : List Node) (n : ℕ) → All (λ i. home i.place ≡ exprs → i.num < n) js → top js ≤ n
unfolding top top_f
top_low [] n a = omega arith
top_low (j ∷ js) n a = go (home j.place) a.0 (top_low js n a.1)
  where
    go : (t : Tab) → (t ≡ exprs → j.num < n) → top js ≤ n → top_f t j.num (top js) ≤ n
    go names f h = h
    go types f h = h
    go constants f h = h
    go overrides f h = h
    go globals f h = h
    go exprs f h = let l : j.num < n = f refl in omega arith

top_high : (js : List Node) → All (λ i. home i.place ≡ exprs → i.num < top js) js
unfolding top top_f
top_high [] = tt
top_high (j ∷ js) = (one (home j.place) refl, all_map js (λ i f e. more (home j.place) i (f e)) (top_high js))
  where
    one : (t : Tab) → home j.place ≡ t → home j.place ≡ exprs → j.num < top_f t j.num (top js)
    one t p q = rw (← p, q) (omega arith)

    more : (t : Tab) (i : Node) → i.num < top js → i.num < top_f t j.num (top js)
    more names i h = h
    more types i h = h
    more constants i h = h
    more overrides i h = h
    more globals i h = h
    more exprs i h = omega arith

module _ (m : Tables) where
  good_lower : {t : Tab} {p : Place} → May t p → (n k : ℕ) → n < count m t → k < count m (home p) → (home p ≡ t → k < n) → (t ≡ exprs → InitLow m n (node p k)) → (home p ≡ exprs → k < top (refs (rec_at m t n)))
      → rank m (home p) k < rank m t n
  unfolding rank InitLow home
  good_lower type_name n k a b low init high = omega arith
  good_lower type_type n k a b low init high = omega (arith, low refl)
  good_lower const_name n k a b low init high = omega arith
  good_lower const_type n k a b low init high = omega arith
  good_lower const_init n k a b low init high = omega (arith, high refl)
  good_lower over_name n k a b low init high = omega arith
  good_lower over_type n k a b low init high = omega arith
  good_lower over_init n k a b low init high = omega (arith, high refl)
  good_lower global_name n k a b low init high = omega arith
  good_lower global_type n k a b low init high = omega arith
  good_lower global-init n k a b low init high = omega (arith, high refl)
  good_lower expr_type n k a b low init high = omega arith
  good_lower expr_const n k a b low init high = omega (arith, top_low (refs (rec_at m constants k)) n (init refl))
  good_lower expr_over n k a b low init high = omega (arith, top_low (refs (rec_at m overrides k)) n (init refl))
  good_lower expr_own n k a b low init high = omega (arith, low refl)

  pub falls : WF m → (t : Tab) (n : ℕ) → n < count m t → All (Lower m t n) (refs (rec_at m t n))
  unfolding WF Lower
  falls wf t n h =
      all_both (refs (rec_at m t n)) (λ j g l. (g.inside, good_lower g.may n j.num h g.inside g.lower g.init l, g.may)) (wf t n h) (top_high (refs (rec_at m t n)))

  -- above every rank of the tables
  top_count : WF m → (t : Tab) (n : ℕ) → n < count m t → top (refs (rec_at m t n)) ≤ count m exprs
  unfolding WF
  top_count wf t n h = top_low (refs (rec_at m t n)) (count m exprs) (all_map (refs (rec_at m t n)) (λ j g e. rw e at g.inside) (wf t n h))

  pub rank_below : WF m → (t : Tab) (n : ℕ) → n < count m t → rank m t n < 2 + (count m types + 2 * count m exprs)
  unfolding rank
  rank_below wf names n h = omega arith
  rank_below wf types n h = omega arith
  rank_below wf constants n h = omega (arith, top_count wf constants n h)
  rank_below wf overrides n h = omega (arith, top_count wf overrides n h)
  rank_below wf globals n h = omega (arith, top_count wf globals n h)
  rank_below wf exprs n h = omega arith
