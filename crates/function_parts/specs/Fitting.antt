-- The numbers that the words of a function refer to are in range: of a table below its count, of expressions below theirs, of functions below theirs (tests 3 and 4).
-- A class's bound (test 3) and what the class refers to are two lists in the same order, so one check of both lists serves every word.
use Rattle.std.specs.Prelude.{◌≡◌, Bool}
use Rattle.std.proofs.Math.Path.{refl}
use Rattle.std.proofs.Common.{sym, le_of_suc-le-suc}
use Rattle.std.proofs.Math.Bool.{true, false}
use Rattle.std.proofs.Math.Option.{Option, none, some}
use mathlib.Core.List.{List, [], ◌∷◌, ◌++◌}
use Prim.Native.Nat.{ℕ, zero, suc, ◌+◌, ◌-◌, ◌≤◌, ◌<◌}
use native.Mathlib.Omega.{arith}
use Rattle.std.proofs.Math.Dec.{ltb}
use Rattle.std.proofs.Math.ListN.{length, get_or, get_elem?}
use borrow.Author.Tests.{ltb-true, ltb-false, le-ltb}
use Rattle.theory_lists.specs.Lists.{behind, get_d_behind, looked_length, looked_get_d}
use Rattle.theory_lists.specs.Booleans.{and_split}
use Rattle.model.specs.Outcome.{Cells, class, word}
use Rattle.model.specs.Table.{WORD, SPAN, NAME, EXPRESSIONS, NAMED, binding, entry_head, expression_row, counted}
use Rattle.model.specs.Tree.{Function, Entry, flat, flat_all, flat_list, flat_block, flat_entry}
use Rattle.model.specs.Module.{Module}
use Rattle.model.specs.View.{record_at, tables as tablesL}
use Rattle.model.specs.FunctionView.{entry_head_words}
use Rattle.model.specs.Between.{between}
use Rattle.model.specs.Numbers.{Bounds, caps, bound, below as under, within, ordered, every, outside, inside, constant_only, sound, sound_function, sound_entry, numbered}
use Rattle.model.specs.Initial.{initialised}
use Rattle.model.specs.Lower.{below, operands_lower}
use Rattle.model.specs.Operands.{ops_of}
use Rattle.model.specs.Tables.{names, types, constants, overrides, globals, exprs, code_t}
use Rattle.model.specs.References.{Place, table, own, function, Target, copied, start, upto, ref, opt, targets, target, Node, ref_of, refs}
use Rattle.theory_image.specs.Plain.{plain?}
use Rattle.theory_image.specs.Quiet.{Plainly, plain-none, plain-next, plainly}
use Rattle.theory_image.specs.Betweens.{held-between, table-count}
use Rattle.theory_image.specs.FunctionViews.{taped_length, taped_functions, taped_held, taped_entry_head}
use Rattle.theory_image.specs.Members.{each_at, looked_each}
use Rattle.theory_image.specs.Within.{within-append}
use Rattle.theory_records.specs.RecordLaws.{All, all_map, all_both}
use Rattle.theory_records.specs.Tested.{every-at, cons_all}
use Rattle.theory_bodies.specs.Lists.{All as AllE, all_map as alle-map}
use Rattle.theory_bodies.specs.Context.{OwnP, owns-all}
use Rattle.theory_bodies.specs.Classes.{expr_owned}
use Rattle.theory_bodies.specs.Passing.{row_in}
use Rattle.theory_passes.specs.Pass.{front}
use Rattle.derive_state.specs.Source.{mod_of, Source}
use Rattle.function_references.specs.Fits.{Fits, FitN, Legible}
use Rattle.function_parts.specs.Part.{Part, Indexed, k_many, front_is, body_is, front_stretch, body_stretch, long}

-- ---- the counts of the tables
module _ {words tags : List ℕ} {n : ℕ} (src : Source words tags n) where
  abbrev M : Module
  M = mod_of words n

  -- what is in a table's range fits
  abbrev Ranges : ℕ → Place → ℕ → Type 0
  Ranges k q c = (j : ℕ) → j < c → Fits words k q j

  in_names : (k : ℕ) → Ranges k (table names) (length M.names)
  unfolding Fits code_t tablesL
  in_names k j h = (omega (arith, table-count src.taped 0 (omega arith)), omega (arith, src.taped.well.names_ok.few))

  in_types : (k : ℕ) → Ranges k (table types) (length M.types)
  unfolding Fits code_t tablesL
  in_types k j h = (omega (arith, table-count src.taped 1 (omega arith)), omega (arith, src.taped.well.types-ok.few))

  in_constants : (k : ℕ) → Ranges k (table constants) (length M.constants)
  unfolding Fits code_t tablesL
  in_constants k j h = (omega (arith, table-count src.taped 2 (omega arith)), omega (arith, src.taped.well.constants_ok.few))

  in_overrides : (k : ℕ) → Ranges k (table overrides) (length M.overrides)
  unfolding Fits code_t tablesL
  in_overrides k j h = (omega (arith, table-count src.taped 3 (omega arith)), omega (arith, src.taped.well.overrides_ok.few))

  in_globals : (k : ℕ) → Ranges k (table globals) (length M.globals)
  unfolding Fits code_t tablesL
  in_globals k j h = (omega (arith, table-count src.taped 4 (omega arith)), omega (arith, src.taped.well.globals_ok.few))

  in_exprs : (k : ℕ) → Ranges k (table exprs) (length M.exprs)
  unfolding Fits code_t tablesL
  in_exprs k j h = (omega (arith, table-count src.taped 5 (omega arith)), omega (arith, src.taped.well.exprs_ok.few))

  in_functions_lem : (k : ℕ) → Ranges k function (length M.functions)
  unfolding Fits
  in_functions_lem k j h = omega (arith, taped_functions src.taped)

  in_own : (k : ℕ) → Ranges k own k
  unfolding Fits
  in_own k j h = h

-- ---- a word below its class's bound

module _ {words tags : List ℕ} {n : ℕ} (src : Source words tags n) (F : Function) where
  abbrev B : Bounds
  B = inside (outside (mod_of words n)) F

  abbrev k : ℕ
  k = length F.exprs

  abbrev Rel : Target → Option ℕ → Type 0
  Rel t c = (w : ℕ) → under c w ≡ true → All (FitN words k) (ref_of t w [])

  abbrev Rels : List Target → List (Option ℕ) → Type 0
  Rels [] cs = Unit {0}
  Rels (t ∷ ts) [] = ⊥
  Rels (t ∷ ts) (c ∷ cs) = Rel t c × Rels ts cs

  rel_at : (ts : List Target) (cs : List (Option ℕ)) → Rels ts cs → (i : ℕ) → Rel (get_or ts i copied) (get_or cs i none)
  unfolding ref_of
  rel_at [] cs a i w h = tt
  rel_at (t ∷ ts) [] a i w h = absurd a
  rel_at (t ∷ ts) (c ∷ cs) a zero w h = a.0 w h
  rel_at (t ∷ ts) (c ∷ cs) a (suc i) w h = rel_at ts cs a.1 i w h

  free : (c : Option ℕ) → Rel copied c
  unfolding ref_of
  free c w h = tt

  span_free : (c : Option ℕ) → Rel start c × Rel upto c
  unfolding ref_of
  span_free c = (λ w h. tt, λ w h. tt)

  must : (q : Place) (c : ℕ) → ((j : ℕ) → j < c → Fits words k q j) → Rel (ref q) (some c)
  unfolding ref_of under
  must q c f w h = (f w (ltb-true w c h), tt)

  may : (q : Place) (c : ℕ) → ((j : ℕ) → j < c → Fits words k q j) → Rel (opt q) (some (suc c))
  unfolding ref_of under
  may q c f zero h = tt
  may q c f (suc w) h = (f w (le_of_suc-le-suc (ltb-true (suc w) (suc c) h)), tt)

  rels : Rels targets (behind (caps B))
  unfolding targets caps inside outside
  rels =
      ((span_free none).0, ((span_free none).1, (may (table names) _ (in_names src k), (must (table types) _ (in_types src k), (may (table types) _ (in_types src k), (must (table constants) _ (in_constants src k), (must (table overrides) _ (in_overrides src k), (must (table globals) _ (in_globals src k), (must (table exprs) _ (in_exprs src k), (may (table exprs) _ (in_exprs src k), (must function _ (in_functions_lem src k), (must function _ (in_functions_lem src k), (must own _ (in_own src k), (may own _ (in_own src k), (free _, (free _, (free _, (free _, (must own _ (in_own src k), (may own _ (in_own src k), (must own _ (in_own src k), (may own _ (in_own src k), tt))))))))))))))))))))))

  word_fits : (s w : ℕ) → under (bound B s) w ≡ true → All (FitN words k) (ref_of (target s) w [])
  unfolding target bound
  word_fits s w h = go (ltb s SPAN) refl
    where
      go : (b : Bool) → ltb s SPAN ≡ b → All (FitN words k) (ref_of (elim b [ true ↦ copied | false ↦ get_or targets (s - SPAN) copied ]) w [])
      go true e = free none w (unfold under in refl)
      go false e =
          let l : SPAN ≤ s = ltb-false s SPAN e in
          let q : s - WORD ≡ suc (s - SPAN) = omega arith in
          let h' : under (get_or (caps B) (s - WORD) none) w ≡ true = rw (le-ltb s WORD (omega arith), bound) at h in
          rel_at targets (behind (caps B)) rels (s - SPAN) w (rw (q, get_d_behind (caps B) (s - SPAN) none) at h')

  pub cells_fit : (r : Cells) → within B r ≡ true → All (FitN words k) (refs r)
  unfolding within refs
  cells_fit [] h = tt
  cells_fit (c ∷ cs) h =
      let a = and_split (under (bound B (class c)) (word c)) (within B cs) h in
      cons_all (FitN words k) (target (class c)) (word c) (refs cs) (word_fits (class c) (word c) a.0) (cells_fit cs a.1)

-- ---- more expressions
more-fit : (words : List ℕ) (k m : ℕ) → k ≤ m → (q : Place) (j : ℕ) → Fits words k q j → Fits words m q j
unfolding Fits
more-fit words k m h (table t) j f = f
more-fit words k m h own j f = omega arith
more-fit words k m h function j f = f

pub fits_more : (words : List ℕ) (k m : ℕ) → k ≤ m → (js : List Node) → All (FitN words k) js → All (FitN words m) js
fits_more words k m h js a = all_map js (λ j. more-fit words k m h j.place j.num) a

pub legible_more : {words tags : List ℕ} {k a b : ℕ} (m : ℕ) → k ≤ m → Legible words tags k a b → Legible words tags m a b
legible_more {words} {tags} {k} {a} {b} m h l = record { stretch = l.stretch; words_long = l.words_long; tags_long = l.tags_long; fits = fits_more words k m h (refs (between tags words a b)) l.fits }

-- ---- 4: operands are lower
below_all : (xs : List ℕ) (e : ℕ) → below xs e ≡ true → AllE (λ x. x < e) xs
unfolding below
below_all [] e h = tt
below_all (x ∷ xs) e h = let a = and_split (ltb x e) (below xs e) h in (ltb-true x e a.0, below_all xs e a.1)

operands-below : (xs : List Cells) (i : ℕ) → operands_lower xs i ≡ true → (e : ℕ) → e < length xs → AllE (λ x. x < i + e) (ops_of (get_or xs e []))
unfolding operands_lower
operands-below [] i h e l = absurd (omega arith)
operands-below (x ∷ xs) i h zero l = alle-map (ops_of x) (λ y q. omega arith) (below_all (ops_of x) i (and_split (below (ops_of x) i) (operands_lower xs (suc i)) h).0)
operands-below (x ∷ xs) i h (suc e) l = alle-map (ops_of (get_or xs e [])) (λ y q. omega arith) (operands-below xs (suc i) (and_split (below (ops_of x) i) (operands_lower xs (suc i)) h).1 e (omega arith))

lower-fit : (words : List ℕ) (k e : ℕ) (q : Place) (j : ℕ) → Fits words k q j → OwnP (λ x. x < e) q j → Fits words e q j
unfolding Fits OwnP
lower-fit words k e (table t) j f o = f
lower-fit words k e own j f o = o
lower-fit words k e function j f o = f

-- ---- the function
module _ {words tags : List ℕ} {n s end : ℕ} {F : Function} (p : Part words tags n s end F) where
  abbrev b : Bounds
  b = inside (outside (mod_of words n)) F

  pub record Withins : Type 0 where
    pub in_front : within (inside (outside (mod_of words n)) F) (front F) ≡ true
    pub in_exprs : within (inside (outside (mod_of words n)) F) (flat_all F.exprs) ≡ true
    pub in_named : within (inside (outside (mod_of words n)) F) (flat_all F.named) ≡ true
    pub in_body : within (inside (outside (mod_of words n)) F) (flat_block F.body) ≡ true
    pub whole : within (inside (outside (mod_of words n)) F) (flat F) ≡ true
    pub in_order_lem : ordered (flat F) ≡ true

  pub withins : Withins
  unfolding sound flat front flat_list
  withins =
      let w = and_split (within b (flat F)) _ p.pass.three in
      let a₁ = within-append b (front F ++ flat_list EXPRESSIONS F.exprs ++ flat_list NAMED F.named) (flat_block F.body) w.0 in
      let a₂ = within-append b (front F ++ flat_list EXPRESSIONS F.exprs) (flat_list NAMED F.named) a₁.0 in
      let a₃ = within-append b (front F) (flat_list EXPRESSIONS F.exprs) a₂.0 in
      record {
        in_front = a₃.0;
        in_exprs = (within-append b ((EXPRESSIONS, length F.exprs) ∷ []) (flat_all F.exprs) a₃.1).1;
        in_named = (within-append b ((NAMED, length F.named) ∷ []) (flat_all F.named) a₂.1).1;
        in_body = a₁.1;
        whole = w.0;
        in_order_lem = (and_split (ordered (flat F)) (initialised F) w.1).0;
      }

  -- LAW: expression e refers to lower ones
  pub expr_fits : (e : ℕ) → e < length F.exprs → All (FitN words e) (refs (get_or F.exprs e []))
  unfolding counted expression_row
  expr_fits e l =
      let r = get_or F.exprs e [] in
      let q : AllE (λ x. x < e) (ops_of r) = alle-map (ops_of r) (λ y h. omega arith) (operands-below F.exprs 0 p.pass.four e l) in
      let o = rw (← expr_owned (each_at p.pass.well.exprs_ok.each e [] l)) at q in
      all_both (refs r) (λ j. lower-fit words (length F.exprs) e j.place j.num) (cells_fit p.source F r (row_in (mod_of words n) F F.exprs withins.in_exprs e)) (owns-all (λ x. x < e) (refs r) o)

  module _ {ea : ℕ} {places : List ℕ} {k named body : ℕ} (x : Indexed words tags s end ea places k named body) where
    -- LAWS: the declarations and the body
    pub front_fits : All (FitN words k) (refs (front F))
    front_fits = rw (k_many p x) (cells_fit p.source F (front F) withins.in_front)

    pub body_fits : All (FitN words k) (refs (flat_block F.body))
    body_fits = rw (k_many p x) (cells_fit p.source F (flat_block F.body) withins.in_body)

    pub front_legible : Legible words tags k s ea
    front_legible = record { stretch = front_stretch p x; words_long = (long p).words_long; tags_long = (long p).tags_long; fits = rw (← front_is p x) front_fits }

    pub body_legible : Legible words tags k body end
    body_legible = record { stretch = body_stretch p x; words_long = (long p).words_long; tags_long = (long p).tags_long; fits = rw (← body_is p x) body_fits }

-- ---- the head of an entry point: its name refers, and nothing else
module _ {words tags : List ℕ} {n : ℕ} (src : Source words tags n) (j : ℕ) (E : Entry) (e : get_elem? (mod_of words n).entries j ≡ some E) where
  pub head_is : E.head ≡ between tags words (record_at 7 j words) (record_at 7 j words + entry_head_words)
  head_is = sym (held-between (taped_held src.taped) (taped_entry_head src.taped j E e))

  entry-sound : sound_entry (outside (mod_of words n)) E ≡ true
  unfolding numbered
  entry-sound =
      let m = mod_of words n in
      let a = and_split (every (within (outside m)) m.types) _ src.three in
      let b = and_split (every (within (outside m)) m.constants) _ a.1 in
      let c = and_split (every (within (outside m)) m.overrides) _ b.1 in
      let d = and_split (every (within (outside m)) m.globals) _ c.1 in
      let f = and_split (every (within (outside m)) m.exprs) _ d.1 in
      let g = and_split (every constant_only m.exprs) _ f.1 in
      let h = and_split (every (sound_function (outside m)) m.functions) _ g.1 in
      let i = and_split (every (sound_entry (outside m)) m.entries) _ h.1 in
      rw (looked_get_d m.entries j E e) at (every-at (sound_entry (outside m)) m.entries i.0 j E (looked_length m.entries j e))

  only_name : {r : Cells} → Plainly (NAME ∷ binding []) r → All (FitN words (length E.function.exprs)) (refs r) → All (FitN words 0) (refs r)
  unfolding refs ref_of target targets Fits
  only_name (plain-next {w = w} (plain-next (plain-next (plain-next (plain-next (plain-next (plain-next plain-none))))))) a = go w a
    where
      go : (w : ℕ) → All (FitN words (length E.function.exprs)) (ref_of (opt (table names)) w []) → All (FitN words 0) (ref_of (opt (table names)) w [])
      go zero a = tt
      go (suc w) a = (a.0, tt)

  -- LAW
  pub head_fits : All (FitN words 0) (refs E.head)
  unfolding sound flat_entry entry_head
  head_fits =
      let b = inside (outside (mod_of words n)) E.function in
      let a = within-append b E.head (flat E.function) (and_split (within b (flat_entry E)) _ entry-sound).0 in
      only_name (plainly (looked_each src.taped.well.entries_ok.each j e).head_ok (unfold plain? in refl)) (cells_fit src E.function E.head a.0)

  pub head_legible : Legible words tags 0 (record_at 7 j words) (record_at 7 j words + entry_head_words)
  head_legible =
      let v = taped_entry_head src.taped j E e in
      let t = src.taped in
      let h = taped_length t in
      record {
        stretch = record { rising = v.rising; small = omega (arith, v.within, t.small); in_words = omega (arith, v.within, t.small, t.words_long); in_tags = omega (arith, v.within, t.small, t.tags_long) };
        words_long = t.words_long;
        tags_long = t.tags_long;
        fits = rw (← head_is) head_fits;
      }
