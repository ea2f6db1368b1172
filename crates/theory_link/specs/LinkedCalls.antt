-- THE CALLS OF A LINKED MODULE are the source's at their places. So its output order is the order of its functions, and a callee has a lower number than its callers.
use Rattle.std.specs.Prelude.{◌≡◌, refl, Bool, true, false, List, [], ◌∷◌, ◌++◌, map, length, get_or}
use Rattle.std.proofs.Math.Path.{sym, ap}
use Rattle.std.proofs.Common.{ap₂, ◌∙◌, arith, zero-add, eq-eqb, eqb-true, ne_eqb}
use Rattle.std.proofs.Math.Option.{some}
use Prim.Native.Nat.{ℕ, zero, suc, ◌+◌, ◌-◌, ◌<◌, pred}
use Rattle.std.proofs.Math.Dec.{eqb}
use Rattle.std.proofs.Math.ListN.{get_elem?}
use Rattle.std.proofs.lemmas.Bool.{eqb-false}
use Rattle.theory_lists.specs.Lists.{looked_at}
use Rattle.model.specs.Module.{Module}
use Rattle.model.specs.Carry.{Each, each_none, each_next, WellFormed}
use Rattle.model.specs.Intake.{Passes}
use Rattle.model.specs.Calls.{Call, In, here, later, numbers, any, ordered, order}
use Rattle.model.specs.Callees.{callees, callees_at, calls, order_of}
use Rattle.model.specs.Redirect.{nothing, function as function_at}
use Rattle.model.specs.Link.{link_by}
use Rattle.model.specs.LinkMaps.{link_maps}
use Rattle.theory_walks.specs.Agreement.{Maps}
use Rattle.theory_walks.specs.Called.{callees-carried}
use Rattle.theory_walks.specs.WholeWords.{made}
use Rattle.theory_image.specs.Quiet.{each_map}
use Rattle.theory_image.specs.Members.{each_at}
use Rattle.theory_order.specs.Lists.{numbers_in, numbers-append}
use Rattle.theory_order.specs.Numbered.{numbered-known}
use Rattle.theory_order.proofs.Theorems.{claims}
use Rattle.theory_finish.specs.Ringless.{low}
use Rattle.theory_link.specs.Exactly.{placed, order-length}
use Rattle.theory_link.specs.Walking.{function_agrees, places-once, place_is}
use Rattle.theory_link.specs.Again.{order-again}

-- ---- lists
at : (l : List ℕ) (j : ℕ) → j < length l → (get_elem? l j ≡ some (get_or l j 0)) × In (get_or l j 0) l
at [] j h = absurd (omega arith)
at (x ∷ l) zero h = (refl, here)
at (x ∷ l) (suc j) h = let r = at l j (omega arith) in (r.0, later r.1)

any-map : (g : ℕ → ℕ) (p : ℕ → Bool) (ks : List ℕ) → any (map g ks) p ≡ any ks (λ k. p (g k))
unfolding any
any-map g p [] = refl
any-map g p (k ∷ ks) = rw (any-map g p ks)

any_same : (p q : ℕ → Bool) {ks : List ℕ} → Each (λ k. p k ≡ q k) ks → any ks p ≡ any ks q
unfolding any
any_same p q each_none = refl
any_same p q (each_next h hs) = rw (h, any_same p q hs)

split : (n i : ℕ) → i < n → numbers n 0 ≡ numbers i 0 ++ (i ∷ numbers (n - suc i) (suc i))
unfolding numbers
split n i h = ap (λ k. numbers k 0) (let z : n ≡ i + suc (n - suc i) = omega (arith, h) in z) ∙ (numbers-append i (suc (n - suc i)) 0 ∙ ap (λ k. numbers i 0 ++ (k ∷ numbers (n - suc i) (suc k))) (zero-add i))

-- ---- calls between places
module _ (m : Module) (well : WellFormed m) (ok : Passes m) (os : List ℕ) (e : order_of m ≡ ordered os) where
  abbrev n : ℕ
  n = length m.functions

  abbrev μ : Maps
  μ = made (link_maps os m)

  -- what is at place x
  stands : (x : ℕ) → x < n → (get_or os x 0 < n) × (μ.function (get_or os x 0) ≡ x)
  unfolding made
  stands x h = let a = at os x (omega (arith, order-length m os e)) in (low m os e (get_or os x 0) a.1, ap pred (placed m os e x (get_or os x 0) a.0))

  -- functions at different places differ
  apart : (j k : ℕ) → j < n → k < n → eqb (μ.function j) (μ.function k) ≡ eqb j k
  apart j k a b = go (eqb j k) refl
    where
      go : (t : Bool) → eqb j k ≡ t → eqb (μ.function j) (μ.function k) ≡ t
      go true q = eq-eqb (μ.function j) (μ.function k) (ap μ.function (eqb-true j k q))
      go false q = ne_eqb (μ.function j) (μ.function k) λ p. eqb-false j k q (places-once m well ok os e j k a b (place_is m well ok os e j a ∙ ap suc p ∙ sym (place_is m well ok os e k b)))

  calls_at : (i j : ℕ) → i < n → j < n → calls (link_by os m) (μ.function i) (μ.function j) ≡ calls m i j
  unfolding calls callees_at function_at
  calls_at i j a b =
      let F = function_at m i in
      let q : get_elem? m.functions i ≡ some F = looked_at m.functions i nothing a in
      let g = function_agrees m well ok os e i F q in
      let c = callees-carried m (link_by os m) μ F g.0 (μ.in_function i) g.2 in
      let l : Each (λ k. k < n) (callees F) = each_at (numbered-known m well ok.numbers) i nothing a in
      ap (λ x. any (callees_at x) (λ k. eqb (μ.function j) k)) g.1
      ∙ ap (λ x. any x (λ k. eqb (μ.function j) k)) c
      ∙ any-map μ.function (λ k. eqb (μ.function j) k) (callees F)
      ∙ any_same (λ k. eqb (μ.function j) (μ.function k)) (λ k. eqb j k) (each_map (λ k h. apart j k b h) l)
      ∙ sym (ap (λ x. any (callees_at x) (λ k. eqb j k)) q)

  -- CALLS between places are the source's between what is there
  pub linked-calls : (x y : ℕ) → x < n → y < n → calls (link_by os m) x y ≡ calls m (get_or os x 0) (get_or os y 0)
  linked-calls x y a b =
      let s = stands x a in
      let t = stands y b in
      ap₂ (calls (link_by os m)) (sym s.1) (sym t.1) ∙ calls_at (get_or os x 0) (get_or os y 0) s.0 t.0

  -- SO THE OUTPUT ORDER of a linked module is the order of its functions
  pub linked-order : length (link_by os m).functions ≡ n → order_of (link_by os m) ≡ ordered (numbers n 0)
  unfolding order_of
  linked-order k = ap (λ l. order l (calls (link_by os m))) k ∙ order-again n (calls m) (calls (link_by os m)) os e linked-calls

  -- AND A CALLEE comes before its callers
  pub callees-before : length (link_by os m).functions ≡ n → (i j : ℕ) → Call (length (link_by os m).functions) (calls (link_by os m)) i j → j < i
  unfolding order_of
  callees-before k i j c =
      let l : i < n = omega (arith, c.from, k) in
      let a : In j (numbers i 0) = (claims (length (link_by os m).functions) (calls (link_by os m))).callees-first (numbers n 0) (linked-order k) (numbers i 0) (numbers (n - suc i) (suc i)) i j (split n i l) c in
      let b = numbers_in i 0 a in
      omega (arith, b.1)
