-- The expressions of a function of the source: by the places that the code found they are cut out of the words, one after the other (`Expressions`).
use Rattle.std.specs.Prelude.{◌≡◌, Bool, true, false, ℕ, suc, ◌+◌, ◌≤◌, ◌<◌, eqb, get_or, take, replicate}
use Rattle.std.proofs.Math.Path.{refl, sym, ap}
use Rattle.std.proofs.Common.{◌∙◌, arith, get_or-take, length-take-le}
use mathlib.Core.List.{List, [], ◌∷◌, ◌++◌, map, append_assoc}
use Rattle.std.proofs.Math.ListN.{length}
use Rattle.std.proofs.lemmas.List.{length-replicate}
use Rattle.std.proofs.Math.Seq.{slice, length-sets}
use Rattle.theory_lists.specs.Lists.{map-append}
use Rattle.model.specs.Outcome.{Cells, class}
use Rattle.model.specs.Table.{NAMED, EXPR_KIND}
use Rattle.model.specs.Tree.{Function, flat_all, flat_list, flat_block}
use Rattle.model.specs.Module.{flat_module}
use Rattle.model.specs.Carry.{Each, each_none, each_next}
use Rattle.model.specs.References.{refs}
use Rattle.theory_image.specs.Sections.{start_of, start_zero}
use Rattle.theory_image.specs.Betweens.{held-between}
use Rattle.theory_image.specs.FunctionViews.{Held, Part as Run, part_end, part_left, part_right, part_tags, Field, field_not, Expression, expression, expression_first, exprs_all, exprs_shapes, expr_class}
use Rattle.intake_initialisers.specs.Marks.{finds}
use Rattle.theory_records.specs.RecordLaws.{All}
use Rattle.derive_state.specs.Source.{mod_of}
use Rattle.function_references.specs.Fits.{FitN}
use Rattle.function_references.specs.Cuts.{next_of, cut, Rising, exprs_of, Expressions}
use Rattle.function_parts.specs.Part.{Part, tail, Indexed, long, k_many, k_few, starts, named_here, order}
use Rattle.function_parts.specs.Fitting.{expr_fits}

-- ---- runs of cells, by the places where they start
pub record Starts (base : ℕ) (rs : List Cells) (ss : List ℕ) : Type 0 where
  pub many : length ss ≡ length rs
  pub each : (x : ℕ) → x < length rs → get_or ss x 0 ≡ start_of base rs x

module _ {words tags : List ℕ} {cells : Cells} (o : Held words tags cells) where
  first : (r : Cells) (rs : List Cells) (a : ℕ) (ss : List ℕ) (p : ℕ) → Starts p (r ∷ rs) (a ∷ ss) → a ≡ p
  unfolding start_of
  first r rs a ss p h = h.each 0 (omega arith)

  rest : (r : Cells) (rs : List Cells) (a : ℕ) (ss : List ℕ) (p : ℕ) → Starts p (r ∷ rs) (a ∷ ss) → Starts (p + length r) rs ss
  unfolding start_of
  rest r rs a ss p h = record { many = omega (arith, h.many); each = λ x l. h.each (suc x) (omega arith) }

  next : (rs : List Cells) (ss : List ℕ) (p q : ℕ) → Run cells p q (flat_all rs) → Starts p rs ss → next_of ss q ≡ p
  unfolding next_of flat_all
  next [] [] p q v h = omega (arith, part_end v)
  next [] (b ∷ ss) p q v h = absurd (omega (arith, h.many))
  next (r ∷ rs) [] p q v h = absurd (omega (arith, h.many))
  next (r ∷ rs) (b ∷ ss) p q v h = first r rs b ss p h

  pub cut_is : (rs : List Cells) (ss : List ℕ) (p q : ℕ) → Run cells p q (flat_all rs) → Starts p rs ss → cut ss q tags words ≡ rs
  unfolding cut flat_all
  cut_is [] [] p q v h = refl
  cut_is [] (b ∷ ss) p q v h = absurd (omega (arith, h.many))
  cut_is (r ∷ rs) [] p q v h = absurd (omega (arith, h.many))
  cut_is (r ∷ rs) (a ∷ ss) p q v h =
      let w = part_right r (flat_all rs) v in
      let g = rest r rs a ss p h in
      rw (first r rs a ss p h, next rs ss (p + length r) q w g, held-between o (part_left r (flat_all rs) v), cut_is rs ss (p + length r) q w g)

  pub cut-rising : {rs : List Cells} → Each Expression rs → (ss : List ℕ) (p q : ℕ) → Run cells p q (flat_all rs) → Starts p rs ss → Rising ss p q
  unfolding Rising flat_all
  cut-rising each_none [] p q v h = omega (arith, part_end v)
  cut-rising each_none (b ∷ ss) p q v h = absurd (omega (arith, h.many))
  cut-rising (each_next e es) [] p q v h = absurd (omega (arith, h.many))
  cut-rising (each_next {a = r} {l = rs} e es) (a ∷ ss) p q v h =
      let w = part_right r (flat_all rs) v in
      let g = rest r rs a ss p h in
      let n = next rs ss (p + length r) q w g in
      (first r rs a ss p h, omega (arith, n, expression_first e), rw n (cut-rising es ss (p + length r) q w g))

-- ---- how many places are found: one for each expression, and that of the count after them
free : (a b : ℕ) (ss : List ℕ) → length (finds a ss) ≡ length (finds b ss)
unfolding finds
free a b [] = refl
free a b (s ∷ ss) = go (eqb s NAMED) (eqb s EXPR_KIND) (free (suc a) (suc b) ss)
  where
    go : (x y : Bool) → length (finds (suc a) ss) ≡ length (finds (suc b) ss)
        → length {A = ℕ} (elim x [ true ↦ a ∷ [] | false ↦ elim y [ true ↦ a ∷ finds (suc a) ss | false ↦ finds (suc a) ss ] ]) ≡ length {A = ℕ} (elim x [ true ↦ b ∷ [] | false ↦ elim y [ true ↦ b ∷ finds (suc b) ss | false ↦ finds (suc b) ss ] ])
    go true y h = refl
    go false true h = ap suc h
    go false false h = h

over_fields : {cs : Cells} → Each Field cs → (a : ℕ) (ss : List ℕ) → length (finds a (map class cs ++ ss)) ≡ length (finds a ss)
unfolding finds
over_fields each_none a ss = refl
over_fields (each_next {a = c} {l = cs} f fs) a ss = rw (field_not (class c) NAMED f refl, finds, field_not (class c) EXPR_KIND f refl) (free (suc a) a (map class cs ++ ss) ∙ over_fields fs a ss)

over_exprs : {rs : List Cells} → Each Expression rs → (a : ℕ) (ss : List ℕ) → length (finds a (map class (flat_all rs) ++ (NAMED ∷ ss))) ≡ suc (length rs)
unfolding finds flat_all
over_exprs each_none a ss = refl
over_exprs (each_next {l = rs} (expression {k} {cs = cs} h e l fs) es) a ss =
    let t = map class (flat_all rs) ++ (NAMED ∷ ss) in
    rw (map-append class cs (flat_all rs), append_assoc (map class cs) (map class (flat_all rs)) (NAMED ∷ ss)) (ap suc (over_fields fs (suc a) t ∙ over_exprs es (suc a) ss))

-- ---- of a function
module _ {words tags : List ℕ} {n s end : ℕ} {F : Function} (p : Part words tags n s end F) {ea : ℕ} {places : List ℕ} {k named body : ℕ} (x : Indexed words tags s end ea places k named body) where
  pub places_long : length places ≡ 1025
  places_long = ap length x.places_are ∙ length-sets (replicate 1025 0) 0 (finds (ea + 1) (slice (ea + 1) end tags)) ∙ length-replicate {A = ℕ} 1025 0

  tail_run : Run (flat_module (mod_of words n)) (ea + 1) end (flat_all F.exprs ++ (flat_list NAMED F.named ++ flat_block F.body))
  tail_run = rw x.ea_is (tail p)

  -- LAW: as many as there are expressions, and one
  pub finds_many : length (finds (ea + 1) (slice (ea + 1) end tags)) ≡ k + 1
  unfolding flat_list
  finds_many =
      ap (λ l. length (finds (ea + 1) l)) (part_tags p.stands.held tail_run ∙ map-append class (flat_all F.exprs) (flat_list NAMED F.named ++ flat_block F.body))
      ∙ over_exprs (exprs_shapes p.stands) (ea + 1) (map class (flat_all F.named ++ flat_block F.body))
      ∙ omega (arith, k_many p x)

  pub finds_few : length (finds (ea + 1) (slice (ea + 1) end tags)) ≤ 1025
  finds_few = omega (arith, finds_many, k_few p x)

  taken : Starts (ea + 1) F.exprs (take k places)
  taken = record {
    many = length-take-le k places (omega (arith, places_long, k_few p x)) ∙ k_many p x;
    each = λ i h. get_or-take k places i 0 (omega (arith, k_many p x)) ∙ (starts p x).each i (omega (arith, k_many p x));
  }

  exprs_run : Run (flat_module (mod_of words n)) (ea + 1) (get_or places k 0) (flat_all F.exprs)
  exprs_run = rw (x.ea_is, sym x.named_is ∙ named_here p x) (exprs_all p.stands)

  -- LAW: they are cut out
  pub exprs_are : F.exprs ≡ exprs_of words tags places k
  unfolding exprs_of
  exprs_are = sym (cut_is p.stands.held F.exprs (take k places) (ea + 1) (get_or places k 0) exprs_run taken)

  from_first : get_or places 0 0 ≡ ea + 1
  from_first = (starts p x).each 0 (omega arith) ∙ start_zero (ea + 1) F.exprs

  kind-at : (e : ℕ) → e < k → get_or tags (get_or places e 0) 0 ≡ EXPR_KIND
  kind-at e h = ap (λ i. get_or tags i 0) ((starts p x).each e (omega arith) ∙ ap (λ i. start_of (i + 1) F.exprs e) x.ea_is) ∙ expr_class p.stands e (omega (arith, k_many p x))

  fits_at : (e : ℕ) → e < k → All (FitN words e) (refs (get_or (exprs_of words tags places k) e []))
  fits_at e h = rw (← exprs_are) (expr_fits p e (omega (arith, k_many p x)))

  -- THEOREM
  pub expressions : Expressions words tags places k
  expressions = record {
    few = k_few p x;
    places_long = places_long;
    words_long = (long p).words_long;
    tags_long = (long p).tags_long;
    rising = rw from_first (cut-rising p.stands.held (exprs_shapes p.stands) (take k places) (ea + 1) (get_or places k 0) exprs_run taken);
    inside = omega (arith, x.named_is, order p x);
    kinds = kind-at;
    fits = fits_at;
  }
