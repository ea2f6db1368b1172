-- PLACES: the derived functions are in output order, each has the name of its source and no other does; so the function that `known` finds is the one at its place.
use Rattle.std.specs.Prelude.{◌≡◌, refl, Bool, true, false, ◌||◌, not, ◌⊎◌, eqb, get_or}
use Rattle.std.proofs.Math.Path.{sym}
use Rattle.std.proofs.Common.{ap, ◌∙◌, inr, eqb-true, eq-eqb, ne_eqb}
use Rattle.std.proofs.lemmas.Bool.{false≢true, not-true}
use Rattle.std.proofs.Math.Logic.{inl}
use mathlib.Core.List.{List, [], ◌∷◌, ◌++◌, map, append_assoc, append-nil}
use Rattle.std.proofs.Math.Option.{some}
use Prim.Native.Nat.{ℕ, zero, suc, ◌+◌, ◌<◌, pred}
use native.Mathlib.Omega.{arith}
use Rattle.std.proofs.Math.Decide.{ℕ_discrete}
use Rattle.std.proofs.Math.ListN.{length, get_elem?, get_or-map}
use Rattle.std.proofs.lemmas.List.{length-map}
use Rattle.theory_lists.specs.Booleans.{and_split}
use Rattle.model.specs.Outcome.{Cells, class, word}
use Rattle.model.specs.Table.{SPAN, UPTO, NAME}
use Rattle.model.specs.Tree.{Function}
use Rattle.model.specs.Module.{Module}
use Rattle.model.specs.Carry.{each_next, WellFormed}
use Rattle.model.specs.Intake.{Passes}
use Rattle.model.specs.Initial.{Mem, here, there}
use Rattle.theory_image.specs.Members.{no_mem, mem_left, each_at}
use Rattle.theory_image.specs.Same.{same_self}
use Rattle.model.specs.Names.{field, absent, distinct, same, differ, function_names, named, present, entry_names, functions_named, entries_named}
use Rattle.model.specs.Calls.{here as here_in, ordered}
use Rattle.model.specs.Callees.{order_of}
use Rattle.model.specs.Redirect.{nothing, name_word, function as function_at}
use Rattle.model.specs.Tables.{names, at, tables, rec_at}
use Rattle.model.specs.References.{copied, target, targets, alike_c, alike, index_of}
use Rattle.model.specs.Imports.{Derived, fresh}
use Rattle.model.specs.Special.{sourced}
use Rattle.model.specs.Bodies.{last_of, known, final, localized, appended, append, follow}
use Rattle.model.specs.Link.{append_all}
use Rattle.theory_order.specs.Lists.{in_right}
use Rattle.theory_finish.specs.Firsts.{Once, once-none, once-next}
use Rattle.theory_finish.specs.Finished.{differ-at, names_differ}
use Rattle.theory_finish.specs.Fresh.{state_at}
use Rattle.theory_finish.specs.Ringless.{low}
use Rattle.theory_finish.specs.Known.{name_table, Copied, name_copied}
use Rattle.theory_finish.specs.Known as Known
use Rattle.theory_finish.specs.Output.{Headed, headed, imported_name, imported_follows, follows_keeping, all-follow, source_follows}
use Rattle.theory_finish.specs.Counting.{append_all_snoc, none_functions, order-once}
use Rattle.theory_link.specs.Order.{functions_made}

-- ---- two lists, side by side
pub data Both (R : ℕ → Function → Type 0) : List ℕ → List Function → Type 0 where
  both-none : Both R [] []
  both-next : {i : ℕ} {f : Function} {is : List ℕ} {fs : List Function} → R i f → Both R is fs → Both R (i ∷ is) (f ∷ fs)

both_snoc : {R : ℕ → Function → Type 0} {is : List ℕ} {fs : List Function} {i : ℕ} {f : Function} → Both R is fs → R i f → Both R (is ++ (i ∷ [])) (fs ++ (f ∷ []))
both_snoc both-none r = both-next r both-none
both_snoc (both-next p b) r = both-next p (both_snoc b r)

pub both_at : {R : ℕ → Function → Type 0} {is : List ℕ} {fs : List Function} → Both R is fs → (p i : ℕ) → get_elem? is p ≡ some i → (f : Function) × (get_elem? fs p ≡ some f) × R i f
both_at both-none p i e = let z : ◌≡◌ {A = ℕ} 0 1 = cc in absurd (omega arith)
both_at {R} (both-next {i = x} {f} r b) zero i e = let q : x ≡ i = cc in (f, refl, rw q at r)
both_at (both-next r b) (suc p) i e = both_at b p i e

pub both-length : {R : ℕ → Function → Type 0} {is : List ℕ} {fs : List Function} → Both R is fs → length fs ≡ length is
both-length both-none = refl
both-length (both-next r b) = ap suc (both-length b)

pub all_append : (xs zs : List ℕ) (o : ℕ) (m : Module) (s : Derived) → append_all (xs ++ zs) o m s ≡ append_all zs o m (append_all xs o m s)
unfolding append_all
all_append [] zs o m s = refl
all_append (x ∷ xs) zs o m s = all_append xs zs o m (append o m (follow o m) x s)

append_functions : (m : Module) (i : ℕ) (s : Derived) → (final 0 m (follow 0 m) (function_at m i) s).out.functions ≡ s.functions → (append 0 m (follow 0 m) i s).functions ≡ s.functions ++ (localized 0 m (follow 0 m) (function_at m i) s ∷ [])
unfolding append appended
append_functions m i s e = ap (◌++ (localized 0 m (follow 0 m) (function_at m i) s ∷ [])) e

-- ---- names
-- records that are alike, of which one has no span, have the same words
pub alike_words : (d r : Cells) → Copied r → alike d r ≡ true → map word d ≡ map word r
unfolding alike alike_c
alike_words [] [] k h = refl
alike_words [] (c ∷ cs) k h = absurd (false≢true h)
alike_words (b ∷ ds) [] k h = absurd (false≢true h)
alike_words (b ∷ ds) (c ∷ cs) (each_next k ks) h = go (eqb (class b) (class c)) (eqb (word b) (word c)) (eqb (class b) SPAN) (eqb (class b) UPTO) refl refl refl refl h (alike_words ds cs ks)
  where
    no_span : (s : ℕ) → s ≡ SPAN → target s ≡ copied → ⊥
    no_span s e t = let z : ◌≡◌ {A = ℕ} 0 1 = (unfold target targets in (let q = rw e at t in cc)) in omega arith

    no_upto : (s : ℕ) → s ≡ UPTO → target s ≡ copied → ⊥
    no_upto s e t = let z : ◌≡◌ {A = ℕ} 0 1 = (unfold target targets in (let q = rw e at t in cc)) in omega arith

    go : (p q x y : Bool) → eqb (class b) (class c) ≡ p → eqb (word b) (word c) ≡ q → eqb (class b) SPAN ≡ x → eqb (class b) UPTO ≡ y
        → elim (let t : Bool = elim p [ true ↦ elim q [ true ↦ true | false ↦ x || y ] | false ↦ false ] in t) [ true ↦ alike ds cs | false ↦ false ] ≡ true → (alike ds cs ≡ true → map word ds ≡ map word cs) → map word (b ∷ ds) ≡ map word (c ∷ cs)
    go true true x y e f u v h ih = let w = eqb-true (word b) (word c) f in let i = ih h in cc
    go true false true y e f u v h ih = absurd (no_span (class c) (sym (eqb-true (class b) (class c) e) ∙ eqb-true (class b) SPAN u) k)
    go true false false true e f u v h ih = absurd (no_upto (class c) (sym (eqb-true (class b) (class c) e) ∙ eqb-true (class b) UPTO v) k)
    go true false false false e f u v h ih = absurd (false≢true h)
    go false q x y e f u v h ih = absurd (false≢true h)

pub seat_alike : (ds : List Cells) (r : Cells) → index_of ds r < length ds → alike (get_or ds (index_of ds r) []) r ≡ true
unfolding index_of
seat_alike [] r h = absurd (omega arith)
seat_alike (d ∷ ds) r h = go (alike d r) refl h (seat_alike ds r)
  where
    go : (b : Bool) → alike d r ≡ b → (let n : ℕ = elim b [ true ↦ 0 | false ↦ suc (index_of ds r) ] in n) < suc (length ds) → (index_of ds r < length ds → alike (get_or ds (index_of ds r) []) r ≡ true) → alike (get_or (d ∷ ds) (elim b [ true ↦ 0 | false ↦ suc (index_of ds r) ]) []) r ≡ true
    go true e h ih = e
    go false e h ih = ih (omega arith)

absent_not : (l : List ℕ) (x j : ℕ) → absent l x ≡ true → j < length l → x ≡ get_or l j 0 → ⊥
unfolding absent
absent_not [] x j h l e = omega arith
absent_not (y ∷ ys) x zero h l e = false≢true (sym (not-true (eqb x y) (and_split (not (eqb x y)) (absent ys x) h).0) ∙ eq-eqb x y e)
absent_not (y ∷ ys) x (suc j) h l e = absent_not ys x j (and_split (not (eqb x y)) (absent ys x) h).1 (omega arith) e

distinct-at : (l : List ℕ) (i j : ℕ) → distinct l ≡ true → i < length l → j < length l → get_or l i 0 ≡ get_or l j 0 → i ≡ j
unfolding distinct
distinct-at [] i j h a b e = absurd (omega arith)
distinct-at (x ∷ l) zero zero h a b e = refl
distinct-at (x ∷ l) zero (suc j) h a b e = absurd (absent_not l x j (and_split (absent l x) (distinct l) h).0 (omega arith) e)
distinct-at (x ∷ l) (suc i) zero h a b e = absurd (absent_not l x i (and_split (absent l x) (distinct l) h).0 (omega arith) (sym e))
distinct-at (x ∷ l) (suc i) (suc j) h a b e = ap suc (distinct-at l i j (and_split (absent l x) (distinct l) h).1 (omega arith) (omega arith) e)

names_at : (fs : List Function) (i : ℕ) → i < length fs → get_or (function_names fs) i 0 ≡ field NAME (get_or fs i nothing).head
unfolding function_names
names_at [] i h = absurd (omega arith)
names_at (f ∷ fs) zero h = refl
names_at (f ∷ fs) (suc i) h = names_at fs i (omega arith)

names_length : (fs : List Function) → length (function_names fs) ≡ length fs
unfolding function_names
names_length [] = refl
names_length (f ∷ fs) = ap suc (names_length fs)

module _ (m : Module) (well : WellFormed m) (ok : Passes m) where
  abbrev pub name_of : ℕ → Cells
  name_of i = rec_at (tables m) names (pred (name_word (function_at m i)))

  names_distinct : distinct (function_names m.functions) ≡ true
  unfolding named
  names_distinct =
      let h₁ = and_split (present (function_names m.functions)) _ ok.names in
      let h₂ = and_split (present (entry_names m.entries)) _ h₁.1 in
      let h₃ = and_split (functions_named m.functions) _ h₂.1 in
      let h₄ = and_split (entries_named m.entries) _ h₃.1 in
      let h₅ = and_split (differ (map (map word) m.names)) _ h₄.1 in
      (and_split (distinct (function_names m.functions)) _ h₅.1).0

  head_name : (i : ℕ) → i < length m.functions → (h : Headed m i) × (field NAME (function_at m i).head ≡ suc h.name) × (name_word (function_at m i) ≡ suc h.name)
  head_name i l = let h = headed m well ok.numbers ok.names i l in (h, rw h.is (unfold field in refl), unfold name_word in rw h.is refl)

  -- ONE NAME, one function
  pub name_once : (tbl : List Cells) (i j : ℕ) → i < length m.functions → j < length m.functions → index_of tbl (name_of i) ≡ index_of tbl (name_of j) → index_of tbl (name_of i) < length tbl → i ≡ j
  name_once tbl i j a b e l =
      let p = head_name i a in
      let q = head_name j b in
      let w : map word (get_or m.names p.0.name []) ≡ map word (get_or m.names q.0.name []) = sym (words i l p.0 p.2) ∙ (ap (λ (n : ℕ). map word (get_or tbl n [])) e ∙ words j (rw e at l) q.0 q.2) in
      let k : p.0.name ≡ q.0.name = elim (ℕ_discrete p.0.name q.0.name) [ yes z ↦ z | no z ↦ absurd (false≢true (sym (apart p.0.name q.0.name p.0.in_range_lem q.0.in_range_lem z) ∙ rw w (same_self _))) ] in
      let pi : field NAME (get_or m.functions i nothing).head ≡ suc p.0.name = (unfold function_at in p.1) in
      let qj : field NAME (get_or m.functions j nothing).head ≡ suc q.0.name = (unfold function_at in q.1) in
      distinct-at (function_names m.functions) i j names_distinct (rw (names_length m.functions) a) (rw (names_length m.functions) b)
      (names_at m.functions i a ∙ (pi ∙ (ap suc k ∙ sym (names_at m.functions j b ∙ qj))))
    where
      words : (i : ℕ) → index_of tbl (name_of i) < length tbl → (h : Headed m i) → name_word (function_at m i) ≡ suc h.name → map word (get_or tbl (index_of tbl (name_of i)) []) ≡ map word (get_or m.names h.name [])
      words i l h z = alike_words _ _ (rw z (unfold rec_at tables at in name_copied (each_at well.names_ok.each h.name [] h.in_range_lem))) (seat_alike tbl (name_of i) l) ∙ rw z (unfold rec_at tables at in refl)

      apart : (x y : ℕ) → x < length m.names → y < length m.names → (x ≡ y → ⊥) → same (map word (get_or m.names x [])) (map word (get_or m.names y [])) ≡ false
      apart x y a b z = rw (← get_or-map (map word) m.names x [], ← get_or-map (map word) m.names y []) (differ-at (map (map word) m.names) x y (names_differ m ok.names) (rw (length-map m.names (map word)) a) (rw (length-map m.names (map word)) b) z)

  module _ (os : List ℕ) (e : order_of m ≡ ordered os) where
    -- the functions derived so far, with what holds of each
    pub functions_both : (R : ℕ → Function → Type 0) (xs ys : List ℕ) → os ≡ xs ++ ys → ((us vs : List ℕ) (i : ℕ) → xs ≡ us ++ (i ∷ vs) → R i (localized 0 m (follow 0 m) (function_at m i) (state_at m us))) → Both R xs (state_at m xs).functions
    functions_both R xs ys q h = go xs [] refl (rw none (both-none))
      where
        none : (state_at m []).functions ≡ []
        none = unfold append_all in none_functions m well ok.numbers

        more : (us zs : List ℕ) (z : ℕ) → xs ≡ us ++ (z ∷ zs) → (state_at m (us ++ (z ∷ []))).functions ≡ (state_at m us).functions ++ (localized 0 m (follow 0 m) (function_at m z) (state_at m us) ∷ [])
        more us zs z p =
            let k = functions_made m well ok os e us (zs ++ ys) z (q ∙ (ap (◌++ ys) p ∙ append_assoc us (z ∷ zs) ys)) in
            rw (append_all_snoc us z 0 m (sourced 0 m fresh)) (append_functions m z (state_at m us) k.alone)

        go : (zs us : List ℕ) → xs ≡ us ++ zs → Both R us (state_at m us).functions → Both R xs (state_at m xs).functions
        go [] us p b = let r : xs ≡ us = p ∙ append-nil us in rw r b
        go (z ∷ zs) us p b = go zs (us ++ (z ∷ [])) (p ∙ sym (append_assoc us (z ∷ []) zs)) (rw (more us zs z p) (both_snoc b (h us zs z p)))

    -- function i has its name in whatever state follows its import
    abbrev pub Bearing : Derived → ℕ → Function → Type 0
    Bearing r i f = (i < length m.functions) × (name_word f ≡ suc (index_of (name_table r) (name_of i))) × (index_of (name_table r) (name_of i) < length (name_table r))

    module _ (us vs : List ℕ) (i : ℕ) (q : os ≡ us ++ (i ∷ vs)) where
      abbrev a : Derived
      a = state_at m us

      abbrev out : Derived
      out = (final 0 m (follow 0 m) (function_at m i) a).out

      l : i < length m.functions
      l = low m os e i (rw q (in_right us here_in))

      h : Headed m i
      h = headed m well ok.numbers ok.names i l

      self : Known.Follows (tables m) a a
      self = Known.follows_refl (all-follow m well ok.numbers ok.lowers 0 _ us _ (source_follows m well ok.numbers ok.lowers ok.names os e fresh))

      -- the session goes on from there
      pub goes_on : (zs : List ℕ) → Known.Follows (tables m) out (state_at m (us ++ (i ∷ zs)))
      goes_on zs = rw (all_append us (i ∷ zs) 0 m (sourced 0 m fresh)) (unfold append_all in all-follow m well ok.numbers ok.lowers 0 out zs _ (unfold append in (follows_keeping m well ok.numbers ok.lowers 0 out).appends (localized 0 m (follow 0 m) (function_at m i) a) out (imported_follows m well ok.numbers ok.lowers 0 i a h self)))

      pub bearing : (r : Derived) → Known.Follows (tables m) out r → Bearing r i (localized 0 m (follow 0 m) (function_at m i) a)
      bearing r f =
          let n = imported_name m well ok.numbers ok.lowers 0 i a h self in
          let k = f.seats (name_of i) n.1 in
          (l, n.0 ∙ ap suc (sym k.0), rw k.0 k.1)

    -- at the state xs, and at any that follows it
    pub all_bearing : (xs ys : List ℕ) → os ≡ xs ++ ys → (r : Derived) → Known.Follows (tables m) (state_at m xs) r → Both (Bearing r) xs (state_at m xs).functions
    all_bearing xs ys q r f = functions_both (Bearing r) xs ys q (λ us vs i p. bearing us (vs ++ ys) i (q ∙ (ap (◌++ ys) p ∙ append_assoc us (i ∷ vs) ys)) r (Known.follows_trans (ap_follows p (goes_on us (vs ++ ys) i (q ∙ (ap (◌++ ys) p ∙ append_assoc us (i ∷ vs) ys)) vs)) f))
      where
        ap_follows : {a : Derived} {zs : List ℕ} → xs ≡ zs → Known.Follows (tables m) a (state_at m zs) → Known.Follows (tables m) a (state_at m xs)
        ap_follows p f = rw p f

    -- ---- KNOWN is the place
    mem_at : (l : List ℕ) (p j : ℕ) → get_elem? l p ≡ some j → Mem j l
    mem_at [] p j e = let z : ◌≡◌ {A = ℕ} 0 1 = cc in absurd (omega arith)
    mem_at (x ∷ l) zero j e = let q : x ≡ j = cc in rw q here
    mem_at (x ∷ l) (suc p) j e = there (mem_at l p j e)

    Found : List ℕ → ℕ → ℕ → ℕ → ℕ → Type 0
    Found xs j k v u = ((u ≡ v) × (Mem j xs → ⊥)) ⊎ ((p : ℕ) × (get_elem? xs p ≡ some j) × (u ≡ suc (k + p)))

    found : (r : Derived) (j : ℕ) → j < length m.functions → {xs : List ℕ} {fs : List Function} → Both (Bearing r) xs fs → Once xs → (k v : ℕ) → Found xs j k v (last_of fs k v (suc (index_of (name_table r) (name_of j))))
    unfolding last_of Found
    found r j l both-none o k v = inl (refl, λ n. no_mem n)
    found r j l (both-next {i = x} {f} {is} {fs} b bs) (once-next h o) k v = go (ℕ_discrete x j) (found r j l bs o (suc k) (suc k)) (found r j l bs o (suc k) v)
      where
        w : ℕ
        w = suc (index_of (name_table r) (name_of j))

        not_in : {y : ℕ} → (y ≡ j → ⊥) → (Mem j is → ⊥) → Mem j (y ∷ is) → ⊥
        not_in d n here = d refl
        not_in d n (there k) = n k

        go : Dec (x ≡ j) → Found is j (suc k) (suc k) (last_of fs (suc k) (suc k) w) → Found is j (suc k) v (last_of fs (suc k) v w) → Found (x ∷ is) j k v (last_of (f ∷ fs) k v w)
        go (yes q) (inl a) c = inr (0, ap some q, rw (last_of, eq-eqb (name_word f) w (b.1 ∙ rw q)) (a.0 ∙ omega arith))
        go (yes q) (inr a) c = absurd (h (rw q (mem_at is a.0 j a.1)))
        go (no d) a (inl c) = inl (rw (last_of, ne_eqb (name_word f) w (λ z. d (same_name z))) c.0, not_in d c.1)
          where
            same_name : name_word f ≡ w → x ≡ j
            same_name z = name_once (name_table r) x j b.0 l (ap pred (sym b.1 ∙ z)) b.2
        go (no d) a (inr c) = inr (suc c.0, c.1, rw (last_of, ne_eqb (name_word f) w (λ z. d (same_name z))) (c.2 ∙ omega arith))
          where
            same_name : name_word f ≡ w → x ≡ j
            same_name z = name_once (name_table r) x j b.0 l (ap pred (sym b.1 ∙ z)) b.2

    prefix_once : (xs ys : List ℕ) → Once (xs ++ ys) → Once xs
    prefix_once [] ys o = once-none
    prefix_once (x ∷ xs) ys (once-next h o) = once-next (λ k. h (mem_left ys k)) (prefix_once xs ys o)

    prefix_at : (xs ys : List ℕ) (p j : ℕ) → get_elem? xs p ≡ some j → get_elem? (xs ++ ys) p ≡ some j
    prefix_at [] ys p j h = let z : ◌≡◌ {A = ℕ} 0 1 = cc in absurd (omega arith)
    prefix_at (x ∷ xs) ys zero j h = h
    prefix_at (x ∷ xs) ys (suc p) j h = prefix_at xs ys p j h

    -- where a function is known, it is known at its place in output order
    pub known-place : (xs ys : List ℕ) → os ≡ xs ++ ys → (r : Derived) → Known.Follows (tables m) (state_at m xs) r → r.functions ≡ (state_at m xs).functions → (j : ℕ) → j < length m.functions → 0 < known m r j → (p : ℕ) × (get_elem? os p ≡ some j) × (known m r j ≡ suc p)
    unfolding known Found
    known-place xs ys q r f same j l h = go (found r j l (all_bearing xs ys q r f) (prefix_once xs ys (rw q at (order-once m os e))) 0 0)
      where
        go : Found xs j 0 0 (last_of (state_at m xs).functions 0 0 (suc (index_of (name_table r) (name_of j)))) → (p : ℕ) × (get_elem? os p ≡ some j) × (known m r j ≡ suc p)
        go (inl a) = absurd (let z : 0 < 0 = rw (same, a.0) at h in omega arith)
        go (inr a) = (a.0, rw q (prefix_at xs ys a.0 j a.1), rw (same, a.2) (omega arith))
