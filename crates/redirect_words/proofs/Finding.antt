-- Finding a function by its name, and comparing two functions.
use mathlib.Core.Path.{◌≡◌, refl, sym, ap, ap₂, ◌∙◌}
use mathlib.Core.Bool.{Bool, true, false, ◌&&◌}
use mathlib.Core.Option.{Option, none, some}
use mathlib.Core.List.{List, [], ◌∷◌}
use Prim.Native.Nat.{ℕ, zero, suc, ◌+◌, ◌≤◌, ◌<◌, min}
use native.Mathlib.Omega.{arith}
use lib.Dec.{eqb}
use lib.ListN.{length, get_or, drop, drop_of_length-le}
use lib.Seq.{drop-cons}
use Rattle.model.specs.Tree.{Function}
use Rattle.model.specs.Module.{Module, count_at}
use Rattle.model.specs.View.{record_at}
use Rattle.model.specs.FunctionView.{arguments_at, argument_at, returns_at, expressions_at}
use Rattle.model.specs.Taped.{Taped}
use Rattle.model.specs.Redirect.{name_word, find, argument_types, agree, result_type, same, nothing, function, compared}
use Rattle.base_views.specs.declared.Image.{Image}
use Rattle.base_views.proofs.LaidOut.{tape}
use Rattle.base_views.proofs.Places.{standing-function, standing-inside}
use Rattle.model.specs.Image.{redirect_ended}
use Rattle.redirect_words.specs.Passes.{found_at, both_or, Finds, Agrees, Returns, Compares}
use Rattle.std.specs.Prelude.{Ok, Err, Some, None, MatchOption, IsSomeAnd, cond, Option as Found}
use Rattle.std.specs.Option.{option_map}
use Rattle.std.specs.List.{list_all, range_with_len, find as search_for}
use Rattle.base_refusals.specs.declared.Refusal.TheVariants.{ArgumentTypes, ResultTypes}
use Rattle.redirect_calls.proofs.Places.{many, name_is_lem, types_many, type_in, type_is, result_type_in, result_few, result_none, result_some}
use Rattle.base_handles.specs.declared.FunctionHandle.{FunctionHandle}

-- ---- find
module _ (image : Image) (name : ℕ) where
  abbrev pub has_name : ℕ → Bool
  has_name j = eqb (get_or image.words.now (record_at 6 j image.words.now) 0) (suc name)

  unfoldable number_in : Found ℕ → Option ℕ
  number_in (Some j) = some j
  number_in None = none

  -- what the library's search finds from number j on is what the model finds
  searched : {m : Module} → Taped image.words.now image.tags.now image.n m → (d j : ℕ) → j + d ≡ length m.functions → number_in (search_for has_name (range_with_len j d)) ≡ find (drop j m.functions) j name
  unfolding find function number_in
  searched {m} t zero j e = rw (drop_of_length-le m.functions {i = j} (omega arith)) refl
  searched {m} t (suc d) j e =
      let k : j < length m.functions = omega arith in
      let named : has_name j ≡ eqb (name_word (function m j)) (suc name) = ap (λ w. eqb w (suc name)) (name_is_lem t j (omega (arith, many t))) in
      rw (drop-cons m.functions j nothing k) (go (has_name j) named (searched t d (j + 1) (omega arith)))
    where
      go : (b : Bool) → b ≡ eqb (name_word (function m j)) (suc name) → number_in (search_for has_name (range_with_len (j + 1) d)) ≡ find (drop (j + 1) m.functions) (j + 1) name
          → number_in (cond b (Some j) (search_for has_name (range_with_len (j + 1) d))) ≡ elim (eqb (name_word (get_or m.functions j nothing)) (suc name)) [ true ↦ some j | false ↦ find (drop (suc j) m.functions) (suc j) name ]
      go true q rest = rw (← q) refl
      go false q rest = let one : j + 1 ≡ suc j = omega arith in rw (← q) (rest ∙ ap (λ i. find (drop i m.functions) i name) one)

  pub finds : (count : ℕ) → count ≡ count_at 6 image.words.now → (r : Found ℕ) → option_map (λ x. x) r ≡ search_for has_name (range_with_len 0 count) → (f : Found FunctionHandle) (P : ℕ → FunctionHandle → Type 0) → MatchOption r (f ≡ None) (λ j. IsSomeAnd f (P j)) → ((j : ℕ) (h : FunctionHandle) → P j h → h.0 ≡ j) → Finds f image name
  unfolding found_at number_in
  finds count is r e f P v h = record { same = λ m t. ends r e f v ∙ searched t count 0 (omega (arith, is, many t)) }
    where
      ends : (r : Found ℕ) → option_map (λ x. x) r ≡ search_for has_name (range_with_len 0 count) → (f : Found FunctionHandle) → MatchOption r (f ≡ None) (λ j. IsSomeAnd f (P j)) → found_at f ≡ number_in (search_for has_name (range_with_len 0 count))
      ends None e f v = rw (v, ← e) refl
      ends (Some j) e (Some g) v = ap some (h j g v) ∙ ap number_in e
      ends (Some j) e None v = absurd v

-- what is found is in the table
pub find_in : (fs : List Function) (j name a : ℕ) → find fs j name ≡ some a → a < j + length fs
unfolding find
find_in [] j name a e = let z : ◌≡◌ {A = ℕ} 0 1 = cc in absurd (omega arith)
find_in (f ∷ fs) j name a e = go (eqb (name_word f) (suc name)) e (find_in fs (suc j) name a)
  where
    go : (b : Bool) → elim b [ true ↦ some j | false ↦ find fs (suc j) name ] ≡ some a → (find fs (suc j) name ≡ some a → a < suc j + length fs) → a < j + suc (length fs)
    go true q r = let z : j ≡ a = cc in omega arith
    go false q r = omega (arith, r q)

-- ---- arguments_agree
agree-none : (xs : List ℕ) → agree xs [] ≡ true
unfolding agree
agree-none [] = refl
agree-none (x ∷ xs) = refl

agree-short : (xs ys : List ℕ) (j : ℕ) → min (length xs) (length ys) ≤ j → agree (drop j xs) (drop j ys) ≡ true
unfolding agree
agree-short [] ys zero h = refl
agree-short [] ys (suc j) h = refl
agree-short (x ∷ xs) [] zero h = refl
agree-short (x ∷ xs) [] (suc j) h = agree-none (drop j xs)
agree-short (x ∷ xs) (y ∷ ys) zero h = absurd (omega arith)
agree-short (x ∷ xs) (y ∷ ys) (suc j) h = agree-short xs ys j (omega arith)

module _ (image : Image) (f g : FunctionHandle) (x : f.0 < count_at 6 image.words.now) (y : g.0 < count_at 6 image.words.now) (a b : ℕ) (a-is : a ≡ record_at 6 f.0 image.words.now) (b-is : b ≡ record_at 6 g.0 image.words.now) where
  abbrev pub same_type : ℕ → Bool
  same_type j = eqb (get_or image.words.now (argument_at a j + 1) 0) (get_or image.words.now (argument_at b j + 1) 0)

  module _ (those others : ℕ) (those-is : those ≡ get_or image.words.now (arguments_at a) 0) (others-is : others ≡ get_or image.words.now (arguments_at b) 0) (shorter : ℕ) (shorter-is : shorter ≡ min those others) where
    module _ {m : Module} (t : Taped image.words.now image.tags.now image.n m) where
      those_many : those ≡ length (argument_types (function m f.0))
      those_many = those-is ∙ ap (λ p. get_or image.words.now (arguments_at p) 0) a-is ∙ types_many t f.0 x

      others_many : others ≡ length (argument_types (function m g.0))
      others_many = others-is ∙ ap (λ p. get_or image.words.now (arguments_at p) 0) b-is ∙ types_many t g.0 y

    pub in_a : (j : ℕ) → j < shorter → argument_at a j + 1 < 16384
    in_a j less = omega (arith, type_in (tape image).taped f.0 x j (omega (arith, those_many (tape image).taped)))

    pub in_b : (j : ℕ) → j < shorter → argument_at b j + 1 < 16384
    in_b j less = omega (arith, type_in (tape image).taped g.0 y j (omega (arith, others_many (tape image).taped)))

    -- the types from argument j on agree, up to the shorter list
    from : {m : Module} → Taped image.words.now image.tags.now image.n m → (d j : ℕ) → j + d ≡ shorter → list_all same_type (range_with_len j d) ≡ agree (drop j (argument_types (function m f.0))) (drop j (argument_types (function m g.0)))
    unfolding agree
    from {m} t zero j e = sym (agree-short (argument_types (function m f.0)) (argument_types (function m g.0)) j (omega (arith, those_many t, others_many t)))
    from {m} t (suc d) j e =
        let u : j < length (argument_types (function m f.0)) = omega (arith, those_many t) in
        let v : j < length (argument_types (function m g.0)) = omega (arith, others_many t) in
        let p = ap (λ z. get_or image.words.now (argument_at z j + 1) 0) a-is ∙ type_is t f.0 x j u in
        let q = ap (λ z. get_or image.words.now (argument_at z j + 1) 0) b-is ∙ type_is t g.0 y j v in
        let one : j + 1 ≡ suc j = omega arith in
        let r = from t d (j + 1) (omega arith) ∙ ap (λ o. agree (drop o (argument_types (function m f.0))) (drop o (argument_types (function m g.0)))) one in
        rw (drop-cons (argument_types (function m f.0)) j 0 u, drop-cons (argument_types (function m g.0)) j 0 v) (ap₂ ◌&&◌ (ap₂ eqb p q) r)

    pub agrees : (r : Bool) → r ≡ list_all same_type (range_with_len 0 shorter) → Agrees r image f g
    agrees r e = record { same = λ m t. e ∙ from t shorter 0 (omega arith) }

-- ---- returns_at
pub lists_in : (image : Image) {i : ℕ} → i < count_at 6 image.words.now → (a : ℕ) → a ≡ record_at 6 i image.words.now → expressions_at a image.words.now < 16384
lists_in image x a e = rw e (standing-inside (standing-function (tape image) x))

-- ---- results_agree
module _ (image : Image) (f g : FunctionHandle) (x : f.0 < count_at 6 image.words.now) (y : g.0 < count_at 6 image.words.now) (p q : ℕ) (p-is : p ≡ returns_at (record_at 6 f.0 image.words.now) image.words.now) (q-is : q ≡ returns_at (record_at 6 g.0 image.words.now) image.words.now) where
  module _ {m : Module} (t : Taped image.words.now image.tags.now image.n m) where
    few_a : get_or image.words.now p 0 ≤ 1
    few_a = rw p-is (result_few t f.0 x)

    none-a : get_or image.words.now p 0 ≡ 0 → result_type (function m f.0) ≡ none
    none-a z = result_none t f.0 x (ap (λ o. get_or image.words.now o 0) (sym p-is) ∙ z)

    some_a : get_or image.words.now p 0 ≡ 1 → result_type (function m f.0) ≡ some (get_or image.words.now (p + 1) 0)
    some_a z = result_some t f.0 x (ap (λ o. get_or image.words.now o 0) (sym p-is) ∙ z) ∙ ap (λ o. some (get_or image.words.now (o + 1) 0)) (sym p-is)

    few_b : get_or image.words.now q 0 ≤ 1
    few_b = rw q-is (result_few t g.0 y)

    none-b : get_or image.words.now q 0 ≡ 0 → result_type (function m g.0) ≡ none
    none-b z = result_none t g.0 y (ap (λ o. get_or image.words.now o 0) (sym q-is) ∙ z)

    some_b : get_or image.words.now q 0 ≡ 1 → result_type (function m g.0) ≡ some (get_or image.words.now (q + 1) 0)
    some_b z = result_some t g.0 y (ap (λ o. get_or image.words.now o 0) (sym q-is) ∙ z) ∙ ap (λ o. some (get_or image.words.now (o + 1) 0)) (sym q-is)

    one_none : (get_or image.words.now p 0 ≡ get_or image.words.now q 0 → ⊥) → (u v : ℕ) → get_or image.words.now p 0 ≡ u → get_or image.words.now q 0 ≡ v → false ≡ same (result_type (function m f.0)) (result_type (function m g.0))
    unfolding same
    one_none d zero zero a b = absurd (d (a ∙ sym b))
    one_none d zero (suc v) a b = let z : get_or image.words.now q 0 ≡ 1 = omega (arith, few_b) in rw (none-a a, some_b z)
    one_none d (suc u) zero a b = let z : get_or image.words.now p 0 ≡ 1 = omega (arith, few_a) in rw (some_a z, none-b b)
    one_none d (suc u) (suc v) a b = absurd (d (omega (arith, few_a, few_b)))

  pub differ_presence : (get_or image.words.now p 0 ≡ get_or image.words.now q 0 → ⊥) → Returns false image f g
  differ_presence d = record { same = λ m t. one_none t d (get_or image.words.now p 0) (get_or image.words.now q 0) refl refl }

  module _ (alike : get_or image.words.now p 0 ≡ get_or image.words.now q 0) where
    pub both-none : get_or image.words.now p 0 ≡ 0 → Returns true image f g
    unfolding same
    both-none z = record { same = λ m t. rw (none-a t z, none-b t (sym alike ∙ z)) }

    module _ (z : get_or image.words.now p 0 ≡ 0 → ⊥) where
      one-a : {m : Module} → Taped image.words.now image.tags.now image.n m → get_or image.words.now p 0 ≡ 1
      one-a t = omega (arith, few_a t)

      one_b : {m : Module} → Taped image.words.now image.tags.now image.n m → get_or image.words.now q 0 ≡ 1
      one_b t = sym alike ∙ one-a t

      pub type_a : p + 1 < 16384
      type_a = omega (arith, result_type_in (tape image).taped f.0 x (ap (λ o. get_or image.words.now o 0) (sym p-is) ∙ one-a (tape image).taped))

      pub type_b : q + 1 < 16384
      type_b = omega (arith, result_type_in (tape image).taped g.0 y (ap (λ o. get_or image.words.now o 0) (sym q-is) ∙ one_b (tape image).taped))

      pub types_decide : Returns (eqb (get_or image.words.now (p + 1) 0) (get_or image.words.now (q + 1) 0)) image f g
      unfolding same
      types_decide = record { same = λ m t. rw (some_a t (one-a t), some_b t (one_b t)) }

-- ---- compare
module _ (image : Image) (a b : FunctionHandle) (r : Bool) (arguments : Agrees r image a b) where
  pub differ_arguments : r ≡ false → Compares (Err ArgumentTypes) image a b
  unfolding compared both_or redirect_ended
  differ_arguments e = record { same = λ m t omit. rw (compared, sym (arguments.same m t) ∙ e) }

  module _ (e : r ≡ true) (s : Bool) (d : Returns s image a b) where
    pub differ-results : s ≡ false → Compares (Err ResultTypes) image a b
    unfolding compared both_or redirect_ended
    differ-results z = record { same = λ m t omit. rw (compared, sym (arguments.same m t) ∙ e, sym (d.same m t) ∙ z) }

    pub differ-none : s ≡ true → (u : Unit {0}) → Compares (Ok u) image a b
    unfolding compared both_or redirect_ended
    differ-none z u = record { same = λ m t omit. rw (compared, sym (arguments.same m t) ∙ e, sym (d.same m t) ∙ z) }
