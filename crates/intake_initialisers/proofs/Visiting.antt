-- Marks and the list of what is to be visited: one visit, visits one after the other, and the loops that visit what cells read and what locals begin with.
use mathlib.Core.Path.{◌≡◌, refl, sym, ap, ◌∙◌, subst}
use mathlib.Core.Logic.{inl, inr, ⊎_elim}
use mathlib.Core.Bool.{Bool, true, false, false≢true}
use Rattle.std.specs.Prelude.{Option, Some, None, map}
use Rattle.std.specs.Option.{SomeIff}
use mathlib.Core.List.{List, [], ◌∷◌, ◌++◌}
use Prim.Native.Nat.{ℕ, zero, suc, ◌+◌, ◌*◌, ◌-◌, ◌≤◌, ◌<◌}
use native.Mathlib.Numerals.{add-one}
use native.Mathlib.Omega.{arith}
use lib.Dec.{eqb}
use lib.ListN.{length, get_or, set, take, drop, length-set}
use lib.Seq.{slice, sets, slice-cons, slice_empty, take-suc-set, get_or-set_same, get_or-set_other, get_or-drop, drop-drop}
use borrow.Author.Tests.{eq-eqb, ne_eqb, eqb-true, eqb-false}
use Rattle.model.specs.Operands.{optional, operand, ops_of}
use Rattle.model.specs.Initial.{Mem, here, there}
use Rattle.theory_image.specs.Members.{no_mem, mem_left, mem_right, mem_cases}
use Rattle.model.specs.Between.{between, Long}
use Rattle.theory_image.specs.Betweens.{between_none, between_cons}
use Rattle.intake_initialisers.specs.Marks.{finds, Found, before, reads, on, inits, Visits}
use Rattle.intake_initialisers.specs.Room.{blank, Room}
use Rattle.intake_initialisers.specs.declared.visited.Visited.{Visited}

-- ---- what a word reads
-- a number less 1, if it is not 0
pub less_one : (o : Option ℕ) (w : ℕ) → SomeIff o (1 ≤ w) (w - 1) → o ≡ before w
unfolding before
less_one None zero h = refl
less_one None (suc w) h = absurd (h (omega arith))
less_one (Some x) zero h = absurd (omega (arith, h.0))
less_one (Some x) (suc w) h = let q : x ≡ w = omega (arith, h.1) in rw q

-- what is read, before the numbers xs
first : Option ℕ → List ℕ → List ℕ
first (Some x) xs = x ∷ xs
first None xs = xs

optional-first : (v : ℕ) (xs : List ℕ) → optional v xs ≡ first (before v) xs
unfolding optional before first
optional-first zero xs = refl
optional-first (suc v) xs = refl

operand-first : (s w : ℕ) (xs : List ℕ) → operand s w xs ≡ first (reads s w) xs
unfolding operand reads first
operand-first s w xs = go (eqb s 93) (eqb s 94)
  where
    go : (a b : Bool) → ◌≡◌ {A = List ℕ} (elim a [ true ↦ w ∷ xs | false ↦ elim b [ true ↦ optional w xs | false ↦ xs ] ]) (first (elim a [ true ↦ Some w | false ↦ elim b [ true ↦ before w | false ↦ None ] ]) xs)
    go true b = refl
    go false true = optional-first w xs
    go false false = refl

-- ---- membership
pub mem_one : {x y : ℕ} → Mem x (y ∷ []) → x ≡ y
mem_one here = refl
mem_one (there m) = absurd (no_mem m)

-- ---- visits
pub visits_none : (v : Visited) → Visits [] v v
visits_none v = record {
  count_same = refl;
  marks_long = refl;
  list_long = refl;
  moved = refl;
  keeps = λ y h. h;
  hits = λ y h. absurd (no_mem h);
  new = λ y h. inl h;
  lists = λ y h. h;
  listed = λ y h. inl h;
}

pub visits_then : (xs ys : List ℕ) {u v w : Visited} → Visits xs u v → Visits ys v w → Visits (xs ++ ys) u w
visits_then xs ys a b = record {
  count_same = b.count_same ∙ a.count_same;
  marks_long = b.marks_long ∙ a.marks_long;
  list_long = b.list_long ∙ a.list_long;
  moved = b.moved ∙ a.moved;
  keeps = λ y h. b.keeps y (a.keeps y h);
  hits = λ y h i. ⊎_elim (λ p. b.keeps y (a.hits y p i)) (λ p. b.hits y p (omega (arith, a.count_same))) (mem_cases xs ys h);
  new = λ y h. ⊎_elim (λ p. ⊎_elim inl (λ q. inr (q.0, mem_left ys q.1, b.lists y q.2)) (a.new y p)) (λ q. inr (omega (arith, q.0, a.count_same), mem_right xs q.1, q.2)) (b.new y h);
  lists = λ y h. b.lists y (a.lists y h);
  listed = λ y h. ⊎_elim (λ p. ⊎_elim inl (λ q. inr (b.keeps y q)) (a.listed y p)) inr (b.listed y h);
}

-- ---- one visit
on-set : (m : List Bool) (z : ℕ) → z < length m → on (set m z true) z ≡ true
unfolding on
on-set m z h = get_or-set_same m z true false h

on-other : (m : List Bool) (z y : ℕ) → (y ≡ z → ⊥) → on (set m z true) y ≡ on m y
unfolding on
on-other m z y h = get_or-set_other m z y true false h

blank-set : (e : ℕ) (m : List Bool) (z : ℕ) → z < e → z < length m → get_or m z false ≡ false → suc (blank e (set m z true)) ≡ blank e m
unfolding blank
blank-set zero m z h k q = absurd (omega arith)
blank-set (suc e) [] z h k q = absurd (omega arith)
blank-set (suc e) (false ∷ m) zero h k q = refl
blank-set (suc e) (true ∷ m) zero h k q = absurd (false≢true (sym q))
blank-set (suc e) (false ∷ m) (suc z) h k q = ap suc (blank-set e m z (omega arith) (omega arith) q)
blank-set (suc e) (true ∷ m) (suc z) h k q = blank-set e m z (omega arith) (omega arith) q

pub blank_some : (e : ℕ) (m : List Bool) (z : ℕ) → z < e → z < length m → get_or m z false ≡ false → 0 < blank e m
blank_some e m z h k q = omega (arith, blank-set e m z h k q)

cases : (P : Type 0) (a b : ℕ) → (a ≡ b → P) → ((a ≡ b → ⊥) → P) → P
cases P a b f g = go (eqb a b) refl
  where
    go : (t : Bool) → eqb a b ≡ t → P
    go true q = f (eqb-true a b q)
    go false q = g (eqb-false a b q)

module _ (v : Visited) where
  -- nothing new where what is there to hit is marked
  idle : (z : ℕ) → (z < v.count → on v.marks z ≡ true) → Visits (z ∷ []) v v
  idle z h = record {
    count_same = refl;
    marks_long = refl;
    list_long = refl;
    moved = refl;
    keeps = λ y p. p;
    hits = λ y p i. rw (mem_one p) (h (rw (mem_one p) at i));
    new = λ y p. inl p;
    lists = λ y p. p;
    listed = λ y p. inl p;
  }

  pub visit_out : (x : ℕ) → v.count ≤ x → Visits (x ∷ []) v v
  visit_out x h = idle x (λ i. absurd (omega arith))

  pub visit_again : (x : ℕ) → get_or v.marks x false ≡ true → Visits (x ∷ []) v v
  unfolding on
  visit_again x h = idle x (λ i. h)

  pub visit_room : (x : ℕ) → x < v.count → get_or v.marks x false ≡ false → v.top < 1024
  visit_room x h q = omega (arith, blank_some v.count v.marks x h (omega (arith, v.room.marks_long, v.room.few)) q, v.room.room)

  pub visit_left : (z : ℕ) → z < v.count → get_or v.marks z false ≡ false → Room (set v.marks z true) (set v.list v.top z) (v.top + 1) v.count
  visit_left z h q = record {
    marks_long = length-set v.marks z true ∙ v.room.marks_long;
    list_long = length-set v.list v.top z ∙ v.room.list_long;
    room = omega (arith, blank-set v.count v.marks z h (omega (arith, v.room.marks_long, v.room.few)) q, v.room.room);
    few = v.room.few;
  }

  pub visit_push : (z : ℕ) → z < v.count → get_or v.marks z false ≡ false → (left : Room (set v.marks z true) (set v.list v.top z) (v.top + 1) v.count) → Visits (z ∷ []) v (record { marks = set v.marks z true; list = set v.list v.top z; top = v.top + 1; count = v.count; room = left })
  visit_push z h q left = record {
    count_same = refl;
    marks_long = length-set v.marks z true;
    list_long = length-set v.list v.top z;
    moved = omega (arith, blank-set v.count v.marks z h inside q);
    keeps = λ y p. cases (on (set v.marks z true) y ≡ true) y z (λ u. rw u (on-set v.marks z inside)) (λ u. on-other v.marks z y u ∙ p);
    hits = λ y p i. rw (mem_one p) (on-set v.marks z inside);
    new = λ y p. cases _ y z (λ u. inr (rw u h, rw u here, rw u (subst (Mem z) (sym taken) (mem_right (take v.top v.list) here)))) (λ u. inl (sym (on-other v.marks z y u) ∙ p));
    lists = λ y p. subst (Mem y) (sym taken) (mem_left (z ∷ []) p);
    listed = λ y p. ⊎_elim inl (λ u. inr (rw (mem_one {x = y} {y = z} u) (on-set v.marks z inside))) (mem_cases (take v.top v.list) (z ∷ []) (subst (Mem y) taken p));
  }
    where
      inside : z < length v.marks
      inside = omega (arith, v.room.marks_long, v.room.few)

      taken : take (v.top + 1) (set v.list v.top z) ≡ take v.top v.list ++ (z ∷ [])
      taken = rw (add-one v.top) (take-suc-set v.list v.top z (omega (arith, blank_some v.count v.marks z h inside q, v.room.room, v.room.list_long)))

-- ---- what cells read
pub record Spreading (words tags : List ℕ) (at end : ℕ) (v₀ : Visited) (i : ℕ) (v : Visited) : Type 0 where
  pub to : i ≤ end
  pub onward : (v₁ : Visited) → Visits (ops_of (between tags words i end)) v v₁ → Visits (ops_of (between tags words at end)) v₀ v₁

module _ (words tags : List ℕ) (at end : ℕ) (v₀ : Visited) where
  pub spread_begin : at ≤ end → Spreading words tags at end v₀ at v₀
  spread_begin h = record { to = h; onward = λ v a. a }

  module _ (i : ℕ) (v : Visited) (inv : Spreading words tags at end v₀ i v) where
    pub spread_done : end ≤ i → Visits (ops_of (between tags words at end)) v₀ v
    unfolding ops_of
    spread_done h = inv.onward v (rw (between_none tags words i end h) (visits_none v))

    module _ (h : i < end) (long : Long words tags) (ok : end ≤ 16384) where
      read_one : ops_of (between tags words i end) ≡ first (reads (get_or tags i 0) (get_or words i 0)) (ops_of (between tags words (i + 1) end))
      unfolding ops_of
      read_one = ap ops_of (between_cons tags words i end h long ok) ∙ operand-first (get_or tags i 0) (get_or words i 0) (ops_of (between tags words (i + 1) end))

      pub spread_next : (x : ℕ) → Some x ≡ reads (get_or tags i 0) (get_or words i 0) → (v₁ : Visited) → Visits (x ∷ []) v v₁ → Spreading words tags at end v₀ (i + 1) v₁
      unfolding first
      spread_next x is v₁ a = record {
        to = omega arith;
        onward = λ v₂ b. inv.onward v₂ (rw (read_one, ← is) (visits_then (x ∷ []) (ops_of (between tags words (i + 1) end)) a b));
      }

      pub spread_skip : None ≡ reads (get_or tags i 0) (get_or words i 0) → Spreading words tags at end v₀ (i + 1) v
      unfolding first
      spread_skip is = record { to = omega arith; onward = λ v₂ b. inv.onward v₂ (rw (read_one, ← is) b) }

-- ---- what locals begin with
pub record Rooting (words : List ℕ) (at count : ℕ) (v₀ : Visited) (i : ℕ) (v : Visited) : Type 0 where
  pub to : i ≤ count
  pub onward : (v₁ : Visited) → Visits (inits (count - i) (drop (at + 5 * i) words)) v v₁ → Visits (inits count (drop at words)) v₀ v₁

module _ (words : List ℕ) (at count : ℕ) (v₀ : Visited) where
  pub roots-begin : Rooting words at count v₀ 0 v₀
  roots-begin = let a : at + 5 * 0 ≡ at = omega arith in let b : count - 0 ≡ count = omega arith in record { to = omega arith; onward = λ v u. rw (a, b) at u }

  module _ (i : ℕ) (v : Visited) (inv : Rooting words at count v₀ i v) where
    pub roots_done : count ≤ i → Visits (inits count (drop at words)) v₀ v
    unfolding inits
    roots_done h = let z : count - i ≡ 0 = omega arith in inv.onward v (rw z (visits_none v))

    module _ (h : i < count) where
      begin_one : inits (count - i) (drop (at + 5 * i) words) ≡ first (before (get_or words (at + 5 * i + 4) 0)) (inits (count - (i + 1)) (drop (at + 5 * (i + 1)) words))
      unfolding inits
      begin_one =
          let a : count - i ≡ suc (count - (i + 1)) = omega arith in
          let b : at + 5 * i + 5 ≡ at + 5 * (i + 1) = omega arith in
          ap (λ k. inits k (drop (at + 5 * i) words)) a
          ∙ ap (λ w. optional w (inits (count - (i + 1)) (drop 5 (drop (at + 5 * i) words)))) (get_or-drop (at + 5 * i) words 4 0)
          ∙ ap (λ ws. optional (get_or words (at + 5 * i + 4) 0) (inits (count - (i + 1)) ws)) (drop-drop 5 (at + 5 * i) words ∙ ap (λ p. drop p words) b)
          ∙ optional-first (get_or words (at + 5 * i + 4) 0) (inits (count - (i + 1)) (drop (at + 5 * (i + 1)) words))

      pub roots-next : (x : ℕ) → Some x ≡ before (get_or words (at + 5 * i + 4) 0) → (v₁ : Visited) → Visits (x ∷ []) v v₁ → Rooting words at count v₀ (i + 1) v₁
      unfolding first
      roots-next x is v₁ a = record {
        to = omega arith;
        onward = λ v₂ b. inv.onward v₂ (rw (begin_one, ← is) (visits_then (x ∷ []) (inits (count - (i + 1)) (drop (at + 5 * (i + 1)) words)) a b));
      }

      pub roots_skip : None ≡ before (get_or words (at + 5 * i + 4) 0) → Rooting words at count v₀ (i + 1) v
      unfolding first
      roots_skip is = record { to = omega arith; onward = λ v₂ b. inv.onward v₂ (rw (begin_one, ← is) b) }

-- ---- where records start
-- of a type that `gives` says how to make of a place
module _ {N : Type 0} (gives : ℕ → N → Type 0) (tags : List ℕ) (at end : ℕ) (starts₀ : List N) where
  abbrev pub Gives : (ℕ → N) → Type 0
  Gives of = (x : ℕ) (y : N) → gives x y → y ≡ of x

  pub record Finding (k i : ℕ) (starts : List N) : Type 0 where
    pub to : i ≤ end
    pub long : length starts ≡ 1025
    pub few : k + length (finds i (slice i end tags)) ≤ 1025
    pub same : (of : ℕ → N) → Gives of → sets starts k (map of (finds i (slice i end tags))) ≡ sets starts₀ 0 (map of (finds at (slice at end tags)))

  pub places-begin : at ≤ end → length starts₀ ≡ 1025 → length (finds at (slice at end tags)) ≤ 1025 → Finding 0 at starts₀
  places-begin h l f = record { to = h; long = l; few = omega arith; same = λ of g. refl }

  module _ (k i : ℕ) (starts : List N) (inv : Finding k i starts) where
    pub places_done : end ≤ i → Found gives (finds at (slice at end tags)) starts₀ starts
    unfolding finds
    places_done h =
        let q : i ≡ end = omega (arith, inv.to) in
        let z : slice i end tags ≡ [] = ap (λ j. slice j end tags) q ∙ slice_empty end tags in
        record { same = λ of g. rw z at (inv.same of g) }

    module _ (h : i < end) (long : length tags ≡ 16384) (ok : end ≤ 16384) where
      opened : slice i end tags ≡ get_or tags i 0 ∷ slice (i + 1) end tags
      opened = slice-cons i end tags 0 h (omega arith) ∙ rw (add-one i)

      module _ (last : get_or tags i 0 ≡ 114) where
        found_last : finds i (slice i end tags) ≡ i ∷ []
        unfolding finds
        found_last = ap (finds i) opened ∙ rw (finds, eq-eqb (get_or tags i 0) 114 last)

        pub places_last_room : k < 1025
        places_last_room = omega (arith, inv.few, ap length found_last)

        pub places-last : (v : N) → gives i v → Found gives (finds at (slice at end tags)) starts₀ (set starts k v)
        places-last v is = record { same = λ of g. rw (g i v is) (rw found_last at (inv.same of g)) }

      module _ (other : get_or tags i 0 ≡ 114 → ⊥) where
        module _ (kind : get_or tags i 0 ≡ 116) where
          found_next : finds i (slice i end tags) ≡ i ∷ finds (suc i) (slice (i + 1) end tags)
          unfolding finds
          found_next = ap (finds i) opened ∙ rw (finds, ne_eqb (get_or tags i 0) 114 other, eq-eqb (get_or tags i 0) 116 kind)

          pub places-room : k < 1025
          places-room = omega (arith, inv.few, ap length found_next)

          pub places-next : (v : N) → gives i v → Finding (k + 1) (i + 1) (set starts k v)
          places-next v is = record {
            to = omega arith;
            long = length-set starts k v ∙ inv.long;
            few = omega (arith, inv.few, ap length found_next, ap (λ j. length (finds j (slice (i + 1) end tags))) (add-one i));
            same = λ of g. rw (g i v is, add-one k) (sets-next of (inv.same of g));
          }
            where
              sets-next : (of : ℕ → N) → sets starts k (map of (finds i (slice i end tags))) ≡ sets starts₀ 0 (map of (finds at (slice at end tags))) → sets (set starts k (of i)) (suc k) (map of (finds (i + 1) (slice (i + 1) end tags))) ≡ sets starts₀ 0 (map of (finds at (slice at end tags)))
              sets-next of q = ap (λ j. sets (set starts k (of i)) (suc k) (map of (finds j (slice (i + 1) end tags)))) (add-one i) ∙ (rw found_next at q)

        pub places_skip : (get_or tags i 0 ≡ 116 → ⊥) → Finding k (i + 1) starts
        unfolding finds
        places_skip kind = record { to = omega arith; long = inv.long; few = rw q at inv.few; same = λ of g. rw q at (inv.same of g) }
          where
            q : finds i (slice i end tags) ≡ finds (i + 1) (slice (i + 1) end tags)
            q = ap (finds i) opened ∙ skipped ∙ ap (λ j. finds j (slice (i + 1) end tags)) (sym (add-one i))
              where
                skipped : finds i (get_or tags i 0 ∷ slice (i + 1) end tags) ≡ finds (suc i) (slice (i + 1) end tags)
                skipped = rw (finds, ne_eqb (get_or tags i 0) 114 other, ne_eqb (get_or tags i 0) 116 kind)

-- numbers are written as they are
pub found_numbers : {xs before after : List ℕ} → Found (λ x y. y ≡ x) xs before after → after ≡ sets before 0 xs
found_numbers {xs} {before} f = f.same (λ x. x) (λ x y e. e) ∙ ap (sets before 0) (map_same xs)
  where
    map_same : (ys : List ℕ) → map (λ x. x) ys ≡ ys
    map_same [] = refl
    map_same (y ∷ ys) = ap (y ∷◌) (map_same ys)
