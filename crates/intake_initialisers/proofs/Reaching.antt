-- What initialisers reach: the places of expressions, what locals begin with, and the loop that takes one expression after the other from the list.
-- When the list is empty, what is marked is closed under reading, so that it is all that is reached; when a kind is barred, it is one that is reached.
use mathlib.Core.Path.{◌≡◌, refl, sym, ap, ◌∙◌, subst}
use mathlib.Core.Logic.{◌⊎◌, inl, inr, ⊎_elim}
use mathlib.Core.Bool.{Bool, true, false, not, false≢true}
use mathlib.Core.List.{List, [], ◌∷◌, ◌++◌, map}
use Prim.Native.Nat.{ℕ, zero, suc, ◌+◌, ◌*◌, ◌-◌, ◌≤◌, ◌<◌}
use native.Mathlib.Numerals.{add-one}
use native.Mathlib.Omega.{arith}
use lib.Dec.{ltb}
use lib.ListN.{length, get_or, take, drop, replicate, length-map, length-replicate, get_or-append, get_or-eq_default}
use lib.Seq.{slice, sets, slice-cons, take-suc, get_or-drop, drop-drop, sets-eq}
use borrow.Author.Tests.{ltb-true, ltb-false, not-true, not-false}
use Rattle.model.specs.Outcome.{Cells, class, word}
use Rattle.model.specs.Table.{SPAN, UPTO, NAME, TYPE, LOCAL-INIT, LOCALS, NAMED, EXPR_KIND, counted, limit}
use Rattle.model.specs.Tree.{Function, flat_all}
use Rattle.model.specs.Carry.{Lays, Each, each_none, each_next}
use Rattle.model.specs.FunctionView.{locals_at, expressions_at}
use Rattle.model.specs.Operands.{constant_kind, optional, ops_of, ops, kind_at}
use Rattle.model.specs.Initial.{Mem, here, root, step, Reached, inits_of, roots, initialised}
use Rattle.theory_image.specs.Reached.{initialised_is, initialised-all}
use Rattle.theory_image.specs.Plain.{plain?, plain-classes}
use Rattle.theory_image.specs.Sections.{start_of}
use Rattle.theory_image.specs.FunctionViews.{Held, Part, part_end, part_left, part_right, part-word, part_tag, field?, field_not, Expression, expression_first, expression_class, expression_field, list_all, locals_count, exprs_count, exprs_all, exprs_shapes, expr_part, expr_kind, named-class, stands-end, parts}
use Rattle.theory_image.specs.Members.{no_mem, mem_left, mem_right, mem_cases}
use Rattle.model.specs.Between.{between}
use Rattle.theory_image.specs.Betweens.{held-between}
use Rattle.intake_initialisers.specs.Lists.{Lists, Listed, Initialised}
use Rattle.intake_initialisers.specs.Room.{blank, Room}
use Rattle.intake_initialisers.specs.declared.visited.Visited.{Visited}
use Rattle.intake_initialisers.specs.Marks.{finds, on, inits, Unvisited, Visits, Done, Work, Starting, Reaching, Reaches}
use Rattle.intake_initialisers.proofs.Visiting.{mem_one, visits_none}

-- ---- the last of the list
mem_last : (l : List ℕ) (t : ℕ) → 0 < t → t ≤ length l → take t l ≡ take (t - 1) l ++ (get_or l (t - 1) 0 ∷ [])
mem_last l zero h k = absurd (omega arith)
mem_last l (suc t) h k = let q : suc t - 1 ≡ t = omega arith in rw q (take-suc l t 0 (omega arith))

-- ---- when the list is empty
module _ (f : Function) (v : Visited) where
  inside : (d x : ℕ) → Mem x (ops f.exprs d) → d < length f.exprs
  unfolding ops ops_of
  inside d x p = go (ltb d (length f.exprs)) refl
    where
      go : (b : Bool) → ltb d (length f.exprs) ≡ b → d < length f.exprs
      go true q = ltb-true d (length f.exprs) q
      go false q = absurd (no_mem (rw (get_or-eq_default f.exprs [] (ltb-false d (length f.exprs) q)) at p))

  module _ (w : Work f v) (z : v.top ≡ 0) where
    done : (y : ℕ) → on v.marks y ≡ true → Done f v y
    done y h = ⊎_elim (λ p. absurd (no_mem (rw z at p))) (λ d. d) (w.settled y h)

    pub all : {y : ℕ} → Reached f y → y < v.count → on v.marks y ≡ true
    all {y} (root p) l = w.begun y p l
    all {y} (step {e = d} r p) l = (done d (all r (omega (arith, inside d y p, w.many)))).closed y p l

    pub reached-fine : true ≡ initialised f
    reached-fine = sym (initialised-all f (λ y l r. (done y (all r (omega (arith, w.many)))).fine))

-- ---- one expression
-- what is left when one is taken from the list
abbrev pub popped : (v : Visited) → Room v.marks v.list (v.top - 1) v.count → Visited
popped v left = record { marks = v.marks; list = v.list; top = v.top - 1; count = v.count; room = left }

pub left_room : (v : Visited) → Room v.marks v.list (v.top - 1) v.count
left_room v = record { marks_long = v.room.marks_long; list_long = v.room.list_long; room = omega (arith, v.room.room); few = v.room.few }

-- the last of the list is one that is reached
module _ (f : Function) (v : Visited) (w : Work f v) (h : 0 < v.top) where
  few : v.top ≤ 1024
  few = omega (arith, v.room.room, v.room.few)

  taken : take v.top v.list ≡ take (v.top - 1) v.list ++ (get_or v.list (v.top - 1) 0 ∷ [])
  taken = mem_last v.list v.top h (omega (arith, few, v.room.list_long))

  is_marked : on v.marks (get_or v.list (v.top - 1) 0) ≡ true
  is_marked = w.held (get_or v.list (v.top - 1) 0) (subst (Mem (get_or v.list (v.top - 1) 0)) (sym taken) (mem_right (take (v.top - 1) v.list) here))

  below : get_or v.list (v.top - 1) 0 < v.count
  below = (w.only (get_or v.list (v.top - 1) 0) is_marked).0

  reached : Reached f (get_or v.list (v.top - 1) 0)
  reached = (w.only (get_or v.list (v.top - 1) 0) is_marked).1

  -- its kind is barred
  barred : constant_kind (kind_at f.exprs (get_or v.list (v.top - 1) 0)) ≡ false → false ≡ initialised f
  barred q = go (initialised f) refl
    where
      go : (b : Bool) → initialised f ≡ b → false ≡ initialised f
      go true i = absurd (false≢true (sym q ∙ initialised_is f i (get_or v.list (v.top - 1) 0) (omega (arith, below, w.many)) reached))
      go false i = sym i

  -- or not, and what it reads is visited
  visited : constant_kind (kind_at f.exprs (get_or v.list (v.top - 1) 0)) ≡ true → (left : Room v.marks v.list (v.top - 1) v.count) (v₁ : Visited) → Visits (ops f.exprs (get_or v.list (v.top - 1) 0)) (popped v left) v₁ → Work f v₁
  visited q left v₁ a = record {
    many = a.count_same ∙ w.many;
    only = λ y p. let u = ⊎_elim (w.only y) (λ u. (u.0, step reached u.1)) (a.new y p) in (omega (arith, u.0, a.count_same), u.1);
    held = λ y p. ⊎_elim (λ u. a.keeps y (w.held y (subst (Mem y) (sym taken) (mem_left (get_or v.list (v.top - 1) 0 ∷ []) u)))) (λ u. u) (a.listed y p);
    begun = λ y p l. a.keeps y (w.begun y p (omega (arith, l, a.count_same)));
    settled = λ y p. ⊎_elim (λ u. ⊎_elim (waiting y) (λ d. inr (later y d)) (w.settled y u)) (λ u. inl u.2) (a.new y p);
  }
    where
      later : (y : ℕ) → Done f v y → Done f v₁ y
      later y d = record { fine = d.fine; closed = λ x p l. a.keeps x (d.closed x p (omega (arith, l, a.count_same))) }

      now_done : Done f v₁ (get_or v.list (v.top - 1) 0)
      now_done = record { fine = q; closed = λ x p l. a.hits x p (omega (arith, l, a.count_same)) }

      waiting : (y : ℕ) → Mem y (take v.top v.list) → Mem y (take v₁.top v₁.list) ⊎ Done f v₁ y
      waiting y p = ⊎_elim (λ u. inl (a.lists y u)) (λ u. inr (subst (Done f v₁) (sym (mem_one {x = y} {y = get_or v.list (v.top - 1) 0} u)) now_done)) (mem_cases (take (v.top - 1) v.list) (get_or v.list (v.top - 1) 0 ∷ []) (subst (Mem y) taken p))

-- ---- the loop
pub record Going (words tags starts : List ℕ) (v₀ v : Visited) : Type 0 where
  pub count_same : v.count ≡ v₀.count
  pub going : (f : Function) (locals exprs end : ℕ) → Lists words tags locals exprs end f → Starting f v₀.count (exprs + 1) starts → Work f v₀ → Work f v

module _ (words tags starts : List ℕ) (v₀ : Visited) where
  pub reach_begin : Going words tags starts v₀ v₀
  reach_begin = record { count_same = refl; going = λ f locals exprs end ls st w. w }

  module _ (v : Visited) (inv : Going words tags starts v₀ v) where
    pub reach_done : v.top ≤ 0 → Reaches true words tags starts v₀ v
    reach_done h = let z : v.top ≡ 0 = omega arith in record { same = λ f locals exprs end ls st w. reached-fine f v (inv.going f locals exprs end ls st w) z; left = λ q f locals exprs end ls st w. (inv.going f locals exprs end ls st w, z) }

    module _ (pre : Reaching words tags starts v₀) (h : 0 < v.top) where
      pub reach_this : Work pre.function v
      reach_this = inv.going pre.function pre.locals pre.exprs pre.end pre.lists pre.starting pre.work

      pub reach_list : v.top - 1 < 1024
      reach_list = omega (arith, few pre.function v reach_this h)

      module _ (x : ℕ) (x_is : x ≡ get_or v.list (v.top - 1) 0) where
        pub reach_below : x < v.count
        reach_below = rw x_is (below pre.function v reach_this h)

        pub reach_start : x < 1024
        reach_start = omega (arith, reach_below, v.room.few)

        module _ (at : ℕ) (at-is : at ≡ get_or starts x 0) where
          -- where the expression is
          here-at : (f : Function) (locals exprs end : ℕ) → Lists words tags locals exprs end f → Starting f v₀.count (exprs + 1) starts → at ≡ start_of (exprs + 1) f.exprs x
          here-at f locals exprs end ls st = at-is ∙ st.each x (omega (arith, reach_below, inv.count_same))

          module _ (f : Function) (locals exprs end : ℕ) (ls : Lists words tags locals exprs end f) (st : Starting f v₀.count (exprs + 1) starts) (w : Work f v) where
            number : x < length f.exprs
            number = omega (arith, reach_below, w.many)

            at_part : Part ls.cells at (start_of (exprs + 1) f.exprs (suc x)) (get_or f.exprs x [])
            at_part = rw (here-at f locals exprs end ls st, ls.exprs_at) (expr_part ls.own x number)

            kind-at : get_or words at 0 ≡ kind_at f.exprs x
            kind-at = rw (here-at f locals exprs end ls st, ls.exprs_at) (expr_kind ls.own x number)

            long_part : 0 < length (get_or f.exprs x [])
            long_part = expression_first (each_shape x number)
              where
                each_shape : (x : ℕ) → x < length f.exprs → Expression (get_or f.exprs x [])
                each_shape x n = Rattle.theory_image.specs.Members.each_at (exprs_shapes ls.own) x [] n

          pub reach_at : at < 16384
          reach_at =
              let f = pre.function in
              let ls = pre.lists in
              let p = at_part f pre.locals pre.exprs pre.end ls pre.starting reach_this in
              omega (arith, part_end p, p.within, long_part f pre.locals pre.exprs pre.end ls pre.starting reach_this, ls.small)

          module _ (b : Bool) (b-is : b ≡ constant_kind (get_or words at 0)) where
            kind_is : (f : Function) (locals exprs end : ℕ) → Lists words tags locals exprs end f → Starting f v₀.count (exprs + 1) starts → Work f v → constant_kind (kind_at f.exprs (get_or v.list (v.top - 1) 0)) ≡ b
            kind_is f locals exprs end ls st w = rw (← x_is) (ap constant_kind (sym (kind-at f locals exprs end ls st w)) ∙ sym b-is)

            pub reach_barred : not b ≡ true → (v₁ : Visited) → Reaches false words tags starts v₀ v₁
            reach_barred q v₁ = record { same = λ f locals exprs end ls st w₀. let w = inv.going f locals exprs end ls st w₀ in barred f v w h (kind_is f locals exprs end ls st w ∙ not-true b q); left = λ z. absurd (false≢true z) }

            module _ (q : not b ≡ false) (to : ℕ) (to_is : to ≡ get_or starts (x + 1) 0) where
              to_at : (f : Function) (locals exprs end : ℕ) → Lists words tags locals exprs end f → Starting f v₀.count (exprs + 1) starts → start_of (exprs + 1) f.exprs (suc x) ≡ to
              to_at f locals exprs end ls st = sym (to_is ∙ rw (add-one x) (st.each (suc x) (omega (arith, reach_below, inv.count_same))))

              part-to : (f : Function) (locals exprs end : ℕ) (ls : Lists words tags locals exprs end f) → Starting f v₀.count (exprs + 1) starts → Work f v → Part ls.cells at to (get_or f.exprs x [])
              part-to f locals exprs end ls st w = rw (to_at f locals exprs end ls st) at (at_part f locals exprs end ls st w)

              this_part : Part pre.lists.cells at to (get_or pre.function.exprs x [])
              this_part = part-to pre.function pre.locals pre.exprs pre.end pre.lists pre.starting reach_this

              pub reach_rising : at ≤ to
              reach_rising = this_part.rising

              pub reach_small : to ≤ 16384
              reach_small = omega (arith, this_part.within, pre.lists.small)

              module _ (left : Room v.marks v.list (v.top - 1) v.count) (v₁ : Visited) (got : Visits (ops_of (between tags words at to)) (popped v left) v₁) where
                pub reach_less : v₁.top + blank v₁.count v₁.marks < v.top + blank v.count v.marks
                reach_less = omega (arith, got.moved)

                pub reach_next : Going words tags starts v₀ v₁
                unfolding ops
                reach_next = record {
                  count_same = got.count_same ∙ inv.count_same;
                  going = λ f locals exprs end ls st w₀.
                      let w = inv.going f locals exprs end ls st w₀ in
                      let p : between tags words at to ≡ get_or f.exprs (get_or v.list (v.top - 1) 0) [] = rw (← x_is) (held-between ls.own.held (part-to f locals exprs end ls st w)) in
                      visited f v w h (kind_is f locals exprs end ls st w ∙ not-false b q) left v₁ (subst (λ cs. Visits (ops_of cs) (popped v left) v₁) p got);
                }

-- ---- where the expressions start: the places that are found
-- the starts of runs, and where the last one ends
unfoldable begins : ℕ → List Cells → List ℕ
begins p [] = p ∷ []
begins p (r ∷ rs) = p ∷ begins (p + length r) rs

begins_long : (p : ℕ) (rs : List Cells) → length (begins p rs) ≡ suc (length rs)
unfolding begins
begins_long p [] = refl
begins_long p (r ∷ rs) = ap suc (begins_long (p + length r) rs)

begins-at : (p : ℕ) (rs : List Cells) (x : ℕ) → x ≤ length rs → get_or (begins p rs) x 0 ≡ start_of p rs x
unfolding begins start_of
begins-at p [] zero h = refl
begins-at p [] (suc x) h = absurd (omega arith)
begins-at p (r ∷ rs) zero h = refl
begins-at p (r ∷ rs) (suc x) h = begins-at (p + length r) rs x (omega arith)

module _ (tags : List ℕ) (end : ℕ) (ok : end ≤ length tags) where
  found_kind : (i : ℕ) → i < end → get_or tags i 0 ≡ EXPR_KIND → finds i (slice i end tags) ≡ i ∷ finds (suc i) (slice (suc i) end tags)
  unfolding finds
  found_kind i h q = ap (finds i) (slice-cons i end tags 0 h ok ∙ ap (◌∷ slice (suc i) end tags) q)

  found_last : (i : ℕ) → i < end → get_or tags i 0 ≡ NAMED → finds i (slice i end tags) ≡ i ∷ []
  unfolding finds
  found_last i h q = ap (finds i) (slice-cons i end tags 0 h ok ∙ ap (◌∷ slice (suc i) end tags) q)

  found_field : (i : ℕ) → i < end → field? (get_or tags i 0) ≡ true → finds i (slice i end tags) ≡ finds (suc i) (slice (suc i) end tags)
  unfolding finds
  found_field i h q = ap (finds i) (slice-cons i end tags 0 h ok) ∙ rw (finds, field_not (get_or tags i 0) NAMED q refl, field_not (get_or tags i 0) EXPR_KIND q refl)

  found_fields : (n i : ℕ) → i + n ≤ end → ((j : ℕ) → j < n → field? (get_or tags (i + j) 0) ≡ true) → finds i (slice i end tags) ≡ finds (i + n) (slice (i + n) end tags)
  found_fields zero i h g = let z : i ≡ i + 0 = omega arith in ap (λ k. finds k (slice k end tags)) z
  found_fields (suc n) i h g =
      let z : i + 0 ≡ i = omega arith in
      let y : suc i + n ≡ i + suc n = omega arith in
      found_field i (omega arith) (rw z at (g 0 (omega arith)))
      ∙ found_fields n (suc i) (omega arith) (λ j l. let u : suc i + j ≡ i + suc j = omega arith in rw u (g (suc j) (omega arith)))
      ∙ ap (λ k. finds k (slice k end tags)) y

  module _ {words : List ℕ} {cells : Cells} (o : Held words tags cells) where
    found_all : (rs : List Cells) (p q : ℕ) → Part cells p q (flat_all rs) → Each Expression rs → q < end → get_or tags q 0 ≡ NAMED → finds p (slice p end tags) ≡ begins p rs
    unfolding begins flat_all
    found_all [] p q v each_none h n =
        let z : q ≡ p = omega (arith, part_end v) in
        found_last p (omega arith) (rw z at n)
    found_all (r ∷ rs) p q v (each_next e es) h n =
        let a = part_left r (flat_all rs) v in
        let b = part_right r (flat_all rs) v in
        let l : 0 < length r = expression_first e in
        let k : get_or tags p 0 ≡ EXPR_KIND = (let z : p + 0 ≡ p = omega arith in rw z at (part_tag o a 0 l)) ∙ expression_class e in
        let s : suc p + (length r - 1) ≡ p + length r = omega arith in
        let g : (j : ℕ) → j < length r - 1 → field? (get_or tags (suc p + j) 0) ≡ true = λ j i. let u : suc p + j ≡ p + suc j = omega arith in rw (u, part_tag o a (suc j) (omega arith)) (expression_field e j (omega arith)) in
        found_kind p (omega (arith, part_end b)) k
        ∙ ap (p ∷◌) (found_fields (length r - 1) (suc p) (omega (arith, part_end b)) g ∙ ap (λ k. finds k (slice k end tags)) s ∙ found_all rs (p + length r) q b es h n)

-- ---- what locals begin with
inits_five : (l : Cells) (xs : List ℕ) → map class l ≡ SPAN ∷ UPTO ∷ NAME ∷ TYPE ∷ LOCAL-INIT ∷ [] → inits_of l xs ≡ optional (word (get_or l 4 (0, 0))) xs
unfolding inits_of
inits_five [] xs e = absurd (omega (arith, ap length e))
inits_five (a ∷ []) xs e = absurd (omega (arith, ap length e))
inits_five (a ∷ b ∷ []) xs e = absurd (omega (arith, ap length e))
inits_five (a ∷ b ∷ c ∷ []) xs e = absurd (omega (arith, ap length e))
inits_five (a ∷ b ∷ c ∷ d ∷ []) xs e = absurd (omega (arith, ap length e))
inits_five (a ∷ b ∷ c ∷ d ∷ f ∷ []) xs e =
    let qa : a.0 ≡ SPAN = cc in
    let qb : b.0 ≡ UPTO = cc in
    let qc : c.0 ≡ NAME = cc in
    let qd : d.0 ≡ TYPE = cc in
    let qf : f.0 ≡ LOCAL-INIT = cc in
    rw (qa, qb, qc, qd, qf)
inits_five (a ∷ b ∷ c ∷ d ∷ f ∷ g ∷ l) xs e = absurd (omega (arith, ap length e))

local-classes : {l : Cells} → Lays (counted LOCALS) l → map class l ≡ SPAN ∷ UPTO ∷ NAME ∷ TYPE ∷ LOCAL-INIT ∷ []
unfolding counted plain?
local-classes w = plain-classes w refl

local_long : {l : Cells} → Lays (counted LOCALS) l → length l ≡ 5
local_long {l} w = sym (length-map l class) ∙ ap length (local-classes w)

inits-all : {words tags : List ℕ} {cells : Cells} → Held words tags cells → (ls : List Cells) (p q : ℕ) → Part cells p q (flat_all ls) → Each (Lays (counted LOCALS)) ls → inits (length ls) (drop p words) ≡ roots ls
unfolding inits roots flat_all
inits-all o [] p q v each_none = refl
inits-all {words} o (l ∷ ls) p q v (each_next w ws) =
    let a = part_left l (flat_all ls) v in
    let b = part_right l (flat_all ls) v in
    let n = local_long w in
    let s : p + 5 ≡ p + length l = omega arith in
    ap (λ x. optional x (inits (length ls) (drop 5 (drop p words)))) (get_or-drop p words 4 0 ∙ part-word o a 4 (omega arith))
    ∙ ap (optional (word (get_or l 4 (0, 0)))) (ap (inits (length ls)) (drop-drop 5 p words ∙ ap (λ k. drop k words) s) ∙ inits-all o ls (p + length l) q b ws)
    ∙ sym (inits_five l (roots ls) (local-classes w))

-- ---- before the loop
blank_most : (e : ℕ) (m : List Bool) → blank e m ≤ e
unfolding blank
blank_most zero m = omega arith
blank_most (suc e) [] = omega arith
blank_most (suc e) (false ∷ m) = omega (arith, blank_most e m)
blank_most (suc e) (true ∷ m) = omega (arith, blank_most e m)

none-on : (n y : ℕ) → on (replicate n false) y ≡ true → ⊥
unfolding on
none-on zero y h = false≢true h
none-on (suc n) zero h = false≢true h
none-on (suc n) (suc y) h = none-on n y h

get_d_sets : (l vs : List ℕ) (x : ℕ) → length vs ≤ length l → x < length vs → get_or (sets l 0 vs) x 0 ≡ get_or vs x 0
get_d_sets l vs x h k = ap (λ s. get_or s x 0) (sets-eq vs l 0 (omega arith)) ∙ get_or-append vs (drop (0 + length vs) l) 0 x k

-- there is room where nothing is on the list
pub room_first : (e : ℕ) (marks : List Bool) (l₀ : List ℕ) → length marks ≡ 1024 → length l₀ ≡ 1024 → e ≤ 1024 → Room marks l₀ 0 e
room_first e marks l₀ long list_long few = record { marks_long = long; list_long = list_long; room = omega (arith, blank_most e marks); few = few }

unvisited : (e : ℕ) → e ≤ 1024 → Visited
unvisited e few = record { marks = replicate 1024 false; list = replicate 1024 0; top = 0; count = e; room = room_first e (replicate 1024 false) (replicate 1024 0) (length-replicate 1024 false) (length-replicate {A = ℕ} 1024 0) few }

pub none_visited : {e : ℕ} {l : List ℕ} {left : Room (replicate 1024 false) l 0 e} → Unvisited e l (record { marks = replicate 1024 false; list = l; top = 0; count = e; room = left })
none_visited = record { marks_are = refl; list_is = refl; top_is = refl; count_is = refl }

-- the places of the two lists
module _ {words tags : List ℕ} {locals exprs end : ℕ} {f : Function} (ls : Lists words tags locals exprs end f) where
  pub end_in : end ≤ 16384
  end_in = omega (arith, ls.own.part.within, ls.small)

  pub exprs_in : exprs + 1 < end
  exprs_in = omega (arith, ls.exprs_at, stands-end ls.own)

  locals_in : (count : ℕ) → count ≡ get_or words locals 0 → locals + 1 + 5 * count ≡ exprs
  unfolding expressions_at
  locals_in count q = rw (q, ls.locals_at_lem) (sym ls.exprs_at)

  module _ (e : ℕ) (is : e ≡ get_or words exprs 0) where
    pub many_is : e ≡ length f.exprs
    many_is = is ∙ ap (λ o. get_or words o 0) ls.exprs_at ∙ exprs_count ls.own

    pub many_few : e ≤ 1024
    unfolding limit
    many_few = let h : length f.exprs ≤ 1024 = ls.own.well.exprs_ok.few in omega (arith, many_is)

    found : finds (exprs + 1) (slice (exprs + 1) end tags) ≡ begins (exprs + 1) f.exprs
    found =
        rw ls.exprs_at
        (found_all tags end (omega (arith, end_in, ls.long.tags_long)) ls.own.held f.exprs (expressions_at ls.start words + 1) (expressions_at ls.start words + 1 + length (flat_all f.exprs)) (exprs_all ls.own) (exprs_shapes ls.own) (omega (arith, stands-end ls.own)) (named-class ls.own))

    found_few : length (finds (exprs + 1) (slice (exprs + 1) end tags)) ≤ 1025
    found_few = omega (arith, ap length found, begins_long (exprs + 1) f.exprs, many_few, many_is)

    pub starting : (starts₀ starts : List ℕ) → length starts₀ ≡ 1025 → starts ≡ sets starts₀ 0 (finds (exprs + 1) (slice (exprs + 1) end tags)) → Starting f e (exprs + 1) starts
    starting starts₀ starts l q = record {
      each = λ x h.
          let b = begins_long (exprs + 1) f.exprs in
          ap (λ s. get_or s x 0) (q ∙ ap (sets starts₀ 0) found) ∙ get_d_sets starts₀ (begins (exprs + 1) f.exprs) x (omega (arith, b, many_few, many_is)) (omega (arith, b, many_is)) ∙ begins-at (exprs + 1) f.exprs x (omega (arith, many_is));
    }

    -- after the initialisers are visited
    rooted : (count : ℕ) → count ≡ get_or words locals 0 → inits count (drop (locals + 1) words) ≡ roots f.locals
    rooted count q =
        let n : count ≡ length f.locals = q ∙ ap (λ o. get_or words o 0) ls.locals_at_lem ∙ locals_count ls.own in
        rw (n, ls.locals_at_lem) (inits-all ls.own.held f.locals (locals_at ls.start words + 1) (expressions_at ls.start words) (list_all LOCALS f.locals (parts ls.own).locals_part) ls.own.well.locals_ok.each)

    pub begun : (count : ℕ) → count ≡ get_or words locals 0 → {l₀ : List ℕ} (v₀ : Visited) → Unvisited e l₀ v₀ → (v : Visited) → Visits (inits count (drop (locals + 1) words)) v₀ v → Work f v
    begun count q v₀ n v a = record {
      many = a.count_same ∙ n.count_is ∙ many_is;
      only = λ y p. ⊎_elim (λ u. absurd (none-on 1024 y (rw n.marks_are at u))) (λ u. (omega (arith, u.0, a.count_same), root (subst (Mem y) r u.1))) (a.new y p);
      held = λ y p. ⊎_elim (λ u. absurd (no_mem (rw n.top_is at u))) (λ u. u) (a.listed y p);
      begun = λ y p l. a.hits y (subst (Mem y) (sym r) p) (omega (arith, l, a.count_same));
      settled = λ y p. ⊎_elim (λ u. absurd (none-on 1024 y (rw n.marks_are at u))) (λ u. inl u.2) (a.new y p);
    }
      where
        r : inits count (drop (locals + 1) words) ≡ roots f.locals
        r = rooted count q

module _ (words tags : List ℕ) (locals exprs end : ℕ) (pre : Listed words tags locals exprs end) where
  pub init_locals : locals < 16384
  init_locals = let ls = pre.lists in omega (arith, exprs_in ls, end_in ls, locals_in ls (get_or words locals 0) refl)

  pub init_exprs : exprs < 16384
  init_exprs = let ls = pre.lists in omega (arith, exprs_in ls, end_in ls)

  pub init-after : exprs + 1 ≤ end
  init-after = omega (arith, exprs_in pre.lists)

  pub init-end : end ≤ 16384
  init-end = end_in pre.lists

  module _ (count e : ℕ) (count_is : count ≡ get_or words locals 0) (e-is : e ≡ get_or words exprs 0) where
    pub init-count : locals + 1 + 5 * count ≤ 16384
    init-count = let ls = pre.lists in omega (arith, exprs_in ls, end_in ls, locals_in ls count count_is)

    pub init_most : e ≤ 1024
    init_most = many_few pre.lists e e-is

    -- without locals nothing is reached
    pub init-empty : count ≡ 0 → Initialised true words tags locals exprs end
    unfolding inits unvisited
    init-empty z = let v = unvisited e init_most in record { same = λ f ls. reached-fine f v (begun ls e e-is count count_is v none_visited v (subst (λ k. Visits (inits k (drop (locals + 1) words)) v v) (sym z) (visits_none v))) refl }

    pub init_few : length (finds (exprs + 1) (slice (exprs + 1) end tags)) ≤ 1025
    init_few = found_few pre.lists e e-is

    module _ {l₀ : List ℕ} (v₀ : Visited) (n : Unvisited e l₀ v₀) (v : Visited) (a : Visits (inits count (drop (locals + 1) words)) v₀ v) where
      pub init-none : v.top ≡ 0 → Initialised true words tags locals exprs end
      init-none z = record { same = λ f ls. reached-fine f v (begun ls e e-is count count_is v₀ n v a) z }

      module _ (starts : List ℕ) (found_at : starts ≡ sets (replicate 1025 0) 0 (finds (exprs + 1) (slice (exprs + 1) end tags))) where
        init_starting : {f : Function} → Lists words tags locals exprs end f → Starting f v.count (exprs + 1) starts
        init_starting {f} ls = subst (λ k. Starting f k (exprs + 1) starts) (sym (a.count_same ∙ n.count_is)) (starting ls e e-is (replicate 1025 0) starts (length-replicate {A = ℕ} 1025 0) found_at)

        pub init_reach : Reaching words tags starts v
        init_reach = record {
          function = pre.function;
          locals = locals;
          exprs = exprs;
          end = end;
          lists = pre.lists;
          starting = init_starting pre.lists;
          work = begun pre.lists e e-is count count_is v₀ n v a;
        }

        pub init_done : (r : Bool) (v₁ : Visited) → Reaches r words tags starts v v₁ → Initialised r words tags locals exprs end
        init_done r v₁ got = record { same = λ f ls. got.same f locals exprs end ls (init_starting ls) (begun ls e e-is count count_is v₀ n v a) }
