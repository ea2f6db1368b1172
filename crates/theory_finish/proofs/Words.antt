-- THE WORDS OF AN IMAGE ARE BELOW 2^32: of a module that is well formed, passes test 3, fits an image and holds nothing large that is taken over (`Small`). What refers to something is below the counts, which are within their limits; what is counted or placed is at most the image's length.
use Rattle.std.specs.Prelude.{◌≡◌, Bool, false, ◌&&◌, ℕ, zero, suc, ◌+◌, ◌*◌, ◌-◌, ◌/◌, ◌%◌, ◌^◌, ◌<◌, ◌≤◌, eqb, get_or, replicate}
use Rattle.std.proofs.Math.Path.{refl}
use Rattle.std.proofs.Common.{sym, ap, ◌∙◌, subst, mod-lt, length-append}
use Rattle.std.proofs.Math.Bool.{true}
use Rattle.std.proofs.lemmas.Bool.{false≢true}
use mathlib.Core.List.{List, [], ◌∷◌, ◌++◌, map, append-nil, append_assoc}
use Rattle.std.proofs.Math.Option.{Option, none, some}
use native.Mathlib.Omega.{arith}
use Rattle.std.proofs.Math.Dec.{ltb, leb}
use Rattle.std.proofs.Math.ListN.{length}
use Rattle.std.proofs.lemmas.List.{length-map}
use borrow.Author.Tests.{ltb-true, ltb-false, leb-true, le-ltb, lt-ltb}
use Rattle.theory_lists.specs.Booleans.{and-true, and_split}
use Rattle.base_words.specs.Words.{AllBelow}
use Rattle.model.specs.Outcome.{Cell, Cells, word, laid}
use Rattle.model.specs.Table.{Row, WORD, SPAN, PAD, TEXT, EXPR, ARGUMENTS, LOCALS, EXPRESSIONS, NAMED, name_row, text, more, limit}
use Rattle.model.specs.Tree.{Stmt, Form, Block, Cases, Case, stmt, emit, block, branch, switch, loop, break, continue, return, kill, call, effect, end, ◌then◌, nomore, ◌also◌, case, Range, Function, Entry, word_of, kind_of, size_b, size_c, flat_all, flat_list, flat_x, flat_s, flat_f, flat_b, flat_k, flat_c, flat_block, flat, flat_entry}
use Rattle.model.specs.Module.{Module, places, flat_table, flat_special, Section, sections, pairs_from, bodies, flat_module, HEADER, read, write, sized}
use Rattle.model.specs.Carry.{Lays, lays_none, lays_next, Each, each_none, each_next, WellFunction, WellEntry, WellFormed}
use Rattle.model.specs.Numbers.{Bounds, caps, bound, below, within, rising, ordered, every, outside, inside, sound, sound_function, sound_entry, constant_only, numbered}
use Rattle.model.specs.Initial.{initialised}
use Rattle.model.specs.Intake.{intake_of}
use Rattle.model.specs.Tables.{Tab, names, types, constants, overrides, globals, exprs, at, tables}
use Rattle.model.specs.References.{Target, copied, target, targets}
use Rattle.theory_image.specs.Writing.{flat_right}
use Rattle.theory_image.specs.Modules.{read_well}
use Rattle.theory_image.specs.Views.{length-write}
use Rattle.theory_image.specs.Quiet.{each_append, each_map}
use Rattle.theory_image.specs.Within.{within-append}
use Rattle.theory_finish.specs.Classes.{small_more}
use Rattle.theory_finish.specs.Numbering.{Cellwise}
use Rattle.theory_finish.specs.Cellwise.{each_rest, each_both, all_of, all-to, cellwise, function_cells}
use Rattle.theory_finish.specs.Size.{source_is}
use Rattle.theory_finish.specs.Small.{fixed, Small, Rows, SmallS, SmallF, SmallB, SmallK, SmallC, small_stmt, small_emit, small_block, small_branch, small_switch, small_loop, small_break, small_continue, small_return, small_kill, small_call, small_effect, small_end, small_then, small_case, small_nomore, small_also, SmallFunction, SmallEntry, SmallModule}

pub record Word (c : Cell) : Type 0 where
  pub below : c.1 < 2 ^ 32

word_small : {cs : Cells} → Each Word cs → Each Small cs
word_small = each_map λ c h. record { below = λ f. h.below }

words_small : {rs : List Cells} → Each (Each Word) rs → Rows rs
words_small = each_map λ r h. word_small h

-- ---- FROM AN IMAGE: where its words are words, what it holds is small
mutual
  unfolding flat_s kind_of

  read_s : (s : Stmt Range) → Each Word (flat_s s) → SmallS s
  read_s (stmt a b x) (each_next l (each_next k (each_next h (each_next g e)))) = small_stmt h.below g.below (read-f x k.below e)

  read-f : (x : Form Range) → kind_of x < 2 ^ 32 → Each Word (flat_f x) → SmallF x
  read-f (emit r) k e = small_emit
  read-f (block b) k e = small_block (read-b b (each_rest e))
  read-f (branch c a b) k e = let p = each_both ((122, size_b a) ∷ flat_b a) (each_rest e) in small_branch (read-b a (each_rest p.0)) (read-b b (each_rest p.1))
  read-f (switch c ks) k e = small_switch (read-c ks (each_rest (each_rest e)))
  read-f (loop a b o) k e = let p = each_both (((122, size_b a) ∷ flat_b a) ++ ((122, size_b b) ∷ flat_b b)) e in let q = each_both ((122, size_b a) ∷ flat_b a) p.0 in small_loop (read-b a (each_rest q.0)) (read-b b (each_rest q.1))
  read-f break k e = small_break
  read-f continue k e = small_continue
  read-f (return o) k e = small_return
  read-f kill k e = small_kill
  read-f (call f xs r) k e = small_call
  read-f (effect n cs) k e = small_effect k (word_small e)

  read-b : (b : Block Range) → Each Word (flat_b b) → SmallB b
  read-b end e = small_end
  read-b (s then b) e = let p = each_both (flat_s s) e in small_then (read_s s p.0) (read-b b p.1)

  read-k : (k : Case Range) → Each Word (flat_k k) → SmallK k
  read-k (case v b f) e = let p = each_both (v ++ ((122, size_b b) ∷ flat_b b)) e in let q = each_both v p.0 in small_case (word_small q.0) (read-b b (each_rest q.1))

  read-c : (ks : Cases Range) → Each Word (flat_c ks) → SmallC ks
  read-c nomore e = small_nomore
  read-c (k also ks) e = let p = each_both (flat_k k) e in small_also (read-k k p.0) (read-c ks p.1)

front : Function → Cells
front f = f.head ++ (flat_list ARGUMENTS f.arguments ++ (f.result ++ (flat_list LOCALS f.locals ++ (flat_list EXPRESSIONS f.exprs ++ flat_list NAMED f.named))))

flat-front : (f : Function) → flat f ≡ front f ++ flat_block f.body
unfolding front
flat-front f = flat_right f ∙ simp append_assoc

function_small : (f : Function) → Each Word (flat f) → SmallFunction f
unfolding flat_block
function_small f e =
    let c = function_cells f e in
    record { in_head = word_small c.in_head; in_arguments = words_small c.in_arguments; in_result = word_small c.in_result; in_locals = words_small c.in_locals; in_exprs = words_small c.in_exprs; in_named = words_small c.in_named; in_body = read-b f.body (each_rest (each_both (front f) (rw (flat-front f) at e)).1) }

entry_small : (e : Entry) → Each Word (flat_entry e) → SmallEntry e
unfolding flat_entry
entry_small e h = let p = each_both e.head h in record { in_head = word_small p.0; in_function_lem = function_small e.function p.1 }

names_of : (t : Module) → Each Word (flat_module t) → Each (Each Word) t.names
unfolding flat_module sections bodies flat_table
names_of t e =
    let e₀ = (each_both (pairs_from HEADER (sections t)) (each_rest (each_rest e))).1 in
    let e₁ = (each_both (places (length t.names) t.names ++ flat_all t.names) e₀).0 in
    all_of t.names (each_both (places (length t.names) t.names) e₁).1

pub image_small : (t : Module) → Each Word (flat_module t) → SmallModule t
unfolding at tables
image_small t e = record { in_tables_lem = rows; in_functions_lem = each_map function_small c.in_functions_lem; in_entries_lem = each_map entry_small c.in_entries_lem; in_rays = word_small c.in_rays; in_pairs = words_small c.in_pairs }
  where
    c : Cellwise Word t
    c = cellwise t e

    rows : (u : Tab) → Rows (at u (tables t))
    rows names = words_small (names_of t e)
    rows types = words_small c.in_types
    rows constants = words_small c.in_constants
    rows overrides = words_small c.in_overrides
    rows globals = words_small c.in_globals
    rows exprs = words_small c.in_exprs

-- ---- TO AN IMAGE. A cell in range
pub record Bounded (b : Bounds) : Type 0 where
  pub names : b.names ≤ 1024
  pub types : b.types ≤ 1024
  pub constants : b.constants ≤ 1024
  pub overrides : b.overrides ≤ 1024
  pub globals : b.globals ≤ 1024
  pub inits : b.inits ≤ 1024
  pub functions : b.functions ≤ 1024
  pub exprs : b.exprs ≤ 1024

data Cap : Option ℕ → Type 0 where
  cap : {n : ℕ} → n ≤ 1025 → Cap (some n)

-- what refers to something has a bound
data Match : List Target → List (Option ℕ) → Type 0 where
  match_none : Match [] []
  match_free : {t : Target} {c : Option ℕ} {ts : List Target} {cs : List (Option ℕ)} → fixed t ≡ true → Match ts cs → Match (t ∷ ts) (c ∷ cs)
  match_cap : {t : Target} {c : Option ℕ} {ts : List Target} {cs : List (Option ℕ)} → Cap c → Match ts cs → Match (t ∷ ts) (c ∷ cs)

match_at : {ts : List Target} {cs : List (Option ℕ)} → Match ts cs → (k : ℕ) → fixed (get_or ts k copied) ≡ false → Cap (get_or cs k none)
unfolding fixed
match_at match_none k h = absurd (false≢true (sym h))
match_at (match_free f m) zero h = absurd (false≢true (sym h ∙ f))
match_at (match_free f m) (suc k) h = match_at m k h
match_at (match_cap c m) zero h = c
match_at (match_cap c m) (suc k) h = match_at m k h

unfoldable behind : List (Option ℕ) → List (Option ℕ)
behind [] = []
behind (c ∷ cs) = cs

plain-cap : {n : ℕ} → n ≤ 1024 → Cap (some n)
plain-cap {n} h = cap {n = n} (omega arith)

opt_cap : {n : ℕ} → n ≤ 1024 → Cap (some (suc n))
opt_cap {n} h = cap {n = suc n} (omega arith)

caps_match : {b : Bounds} → Bounded b → Match targets (behind (caps b))
unfolding targets caps fixed behind
caps_match {b} k =
    match_free refl (match_free refl (match_cap (opt_cap k.names)
    (match_cap (plain-cap k.types) (match_cap (opt_cap k.types) (match_cap (plain-cap k.constants) (match_cap (plain-cap k.overrides) (match_cap (plain-cap k.globals) (match_cap (plain-cap k.inits) (match_cap (opt_cap k.inits)
    (match_cap (plain-cap k.functions) (match_cap (plain-cap k.functions)
    (match_cap (plain-cap k.exprs) (match_cap (opt_cap k.exprs)
    (match_free refl (match_free refl (match_free refl (match_free refl
    (match_cap (plain-cap k.exprs) (match_cap (opt_cap k.exprs) (match_cap (plain-cap k.exprs) (match_cap (opt_cap k.exprs) match_none)))))))))))))))))))))

module _ {b : Bounds} (k : Bounded b) where
  cell_below : (s w : ℕ) → below (bound b s) w ≡ true → (fixed (target s) ≡ true → w < 2 ^ 32) → w < 2 ^ 32
  unfolding bound target below caps behind fixed
  cell_below s w h f = go (fixed (target s)) refl
    where
      low : (c : Option ℕ) → Cap c → below c w ≡ true → w < 2 ^ 32
      low none k e = elim k [ ]
      low (some n) (cap l) e = omega (arith, ltb-true w n e)

      far : (r : Bool) → ltb s SPAN ≡ r → fixed (target s) ≡ false → w < 2 ^ 32
      far true e q = absurd (false≢true (sym q ∙ rw (target, e)))
      far false e q =
          let l = ltb-false s SPAN e in
          let d : s - WORD ≡ suc (s - SPAN) = omega arith in
          let x : ltb s WORD ≡ false = le-ltb s WORD (omega arith) in
          let t : fixed (get_or targets (s - SPAN) copied) ≡ false = sym (rw (target, e)) ∙ q in
          let g : bound b s ≡ get_or (behind (caps b)) (s - SPAN) none = rw (bound, x, d) in
          low (get_or (behind (caps b)) (s - SPAN) none) (match_at (caps_match k) (s - SPAN) t) (rw g at h)

      go : (r : Bool) → fixed (target s) ≡ r → w < 2 ^ 32
      go true e = f e
      go false e = far (ltb s SPAN) refl e

  cells_below : (cs : Cells) → within b cs ≡ true → Each Small cs → Each Word cs
  unfolding within
  cells_below [] h e = each_none
  cells_below (c ∷ cs) h (each_next s e) = let p = and_split (below (bound b c.0) c.1) (within b cs) h in each_next (record { below = cell_below c.0 c.1 p.0 s.below }) (cells_below cs p.1 e)

  rows-below : (rs : List Cells) → every (within b) rs ≡ true → Rows rs → Each (Each Word) rs
  unfolding every
  rows-below [] h e = each_none
  rows-below (r ∷ rs) h (each_next s e) = let p = and_split (within b r) (every (within b) rs) h in each_next (cells_below r p.0 s) (rows-below rs p.1 e)

-- ---- bodies
record Fine (b : Bounds) (cs : Cells) : Type 0 where
  inside_of : within b cs ≡ true
  rises : ordered cs ≡ true
  short : length cs ≤ 65536

rises_left : (xs ys : Cells) → ordered (xs ++ ys) ≡ true → ordered xs ≡ true
unfolding ordered rising
rises_left [] ys h = refl
rises_left (c ∷ []) ys h = refl
rises_left (c ∷ d ∷ xs) ys h = let p = and_split (rising c (d ∷ xs ++ ys)) (ordered (d ∷ xs ++ ys)) h in and-true p.0 (rises_left (d ∷ xs) ys p.1)

pub rises_right : (xs ys : Cells) → ordered (xs ++ ys) ≡ true → ordered ys ≡ true
unfolding ordered
rises_right [] ys h = h
rises_right (c ∷ xs) ys h = rises_right xs ys (and_split (rising c (xs ++ ys)) (ordered (xs ++ ys)) h).1

size_b_lem : (x : Block Range) → size_b x ≤ length (flat_b x)
unfolding size_b flat_s
size_b_lem end = omega arith
size_b_lem (stmt a b f then x) = omega (arith, size_b_lem x, length-append (flat_f f) (flat_b x))

size_c_lem : (ks : Cases Range) → size_c ks ≤ length (flat_c ks)
unfolding size_c flat_s
size_c_lem nomore = omega arith
size_c_lem (case v x f also ks) = omega (arith, size_c_lem ks, length-append (v ++ ((122, size_b x) ∷ flat_b x) ++ (2, f) ∷ []) (flat_c ks), length-append (v ++ ((122, size_b x) ∷ flat_b x)) ((2, f) ∷ []), length-append v ((122, size_b x) ∷ flat_b x))

kind-below : {x : Form Range} → SmallF x → kind_of x < 2 ^ 32
unfolding kind_of
kind-below small_emit = omega arith
kind-below (small_block a) = omega arith
kind-below (small_branch a c) = omega arith
kind-below (small_switch ks) = omega arith
kind-below (small_loop a c) = omega arith
kind-below small_break = omega arith
kind-below small_continue = omega arith
kind-below small_return = omega arith
kind-below small_kill = omega arith
kind-below small_call = omega arith
kind-below (small_effect k h) = k

-- a cell that refers to something
free : (s w : ℕ) → fixed (target s) ≡ false → Small (s, w)
free s w e = record { below = λ f. absurd (false≢true (sym e ∙ f)) }

given : (s w : ℕ) → w < 2 ^ 32 → Small (s, w)
given s w h = record { below = λ f. h }

abbrev operand_cells : List ℕ → Cells
operand_cells xs = map (λ x. (EXPR, x)) xs

operands_small : (xs : List ℕ) → Each Small (operand_cells xs)
unfolding target targets fixed
operands_small [] = each_none
operands_small (x ∷ xs) = each_next (free 93 x refl) (operands_small xs)

module _ {b : Bounds} where
  fine-both : (xs : Cells) {ys : Cells} → Fine b (xs ++ ys) → Fine b xs × Fine b ys
  fine-both xs {ys} f =
      let p = within-append b xs ys f.inside_of in
      let l = length-append xs ys in
      let n = f.short in
      (record { inside_of = p.0; rises = rises_left xs ys f.rises; short = omega arith }, record { inside_of = p.1; rises = rises_right xs ys f.rises; short = omega arith })

  fine-rest : (c : Cell) {cs : Cells} → Fine b (c ∷ cs) → Fine b cs
  fine-rest c {cs} f = (fine-both (c ∷ []) f).1

  emit_small : (v w : ℕ) → Fine b ((97, v) ∷ (98, w) ∷ []) → Bounded b → Each Small ((97, v) ∷ (98, w) ∷ [])
  unfolding within ordered rising bound caps below
  emit_small v w f k =
      let p : ltb w (suc b.exprs) ≡ true = (and_split (ltb w (suc b.exprs)) true (and_split true _ f.inside_of).1).0 in
      let q : leb v w ≡ true = (and_split (leb v w) _ f.rises).0 in
      let x = ltb-true w (suc b.exprs) p in
      let y = leb-true v w q in
      let z = k.exprs in
      each_next (given 97 v (omega arith)) (each_next (given 98 w (omega arith)) each_none)

  fall_below : (f : ℕ) → Fine b ((2, f) ∷ []) → f < 2 ^ 32
  unfolding within bound below
  fall_below f k = omega (arith, ltb-true f 2 (and_split (ltb f 2) true k.inside_of).0)

  counted_block : (x : Block Range) → Fine b ((122, size_b x) ∷ flat_b x) → (Fine b (flat_b x) → Each Small (flat_b x)) → Each Small ((122, size_b x) ∷ flat_b x)
  counted_block x f g = let n = f.short in each_next (given 122 (size_b x) (omega (arith, size_b_lem x))) (g (fine-rest _ f))

  module _ (k : Bounded b) where
    mutual
      unfolding flat_s flat_x target targets fixed

      flat_s_lem : {s : Stmt Range} → SmallS s → Fine b (flat_s s) → Each Small (flat_s s)
      flat_s_lem (small_stmt {a} {b} {x} h l s) f =
          let n = f.short in
          each_next (given 124 (suc (suc (suc (suc (length (flat_f x)))))) (omega arith)) (each_next (given 125 (kind_of x) (kind-below s)) (each_next (given 81 a h) (each_next (given 82 b l) (flat-f s (fine-rest _ (fine-rest _ (fine-rest _ (fine-rest _ f))))))))

      flat-f : {x : Form Range} → SmallF x → Fine b (flat_f x) → Each Small (flat_f x)
      flat-f (small_emit {r}) f = emit_small r.from r.to f k
      flat-f (small_block {b = y} x) f = counted_block y f (λ g. flat-b x g)
      flat-f (small_branch {c} {a} {b = d} x y) f = let h = fine-both ((122, size_b a) ∷ flat_b a) (fine-rest _ f) in each_next (free 93 c refl) (each_append (counted_block a h.0 (λ g. flat-b x g)) (counted_block d h.1 (λ g. flat-b y g)))
      flat-f (small_switch {c} {ks} x) f = let n = f.short in each_next (free 93 c refl) (each_next (given 123 (size_c ks) (omega (arith, size_c_lem ks))) (flat-c x (fine-rest _ (fine-rest _ f))))
      flat-f (small_loop {a} {b = d} x y) f =
          let g = (fine-both (((122, size_b a) ∷ flat_b a) ++ ((122, size_b d) ∷ flat_b d)) f).0 in
          let h = fine-both ((122, size_b a) ∷ flat_b a) g in
          each_append (each_append (counted_block a h.0 (λ g. flat-b x g)) (counted_block d h.1 (λ g. flat-b y g))) (each_next (free 94 _ refl) each_none)
      flat-f small_break f = each_none
      flat-f small_continue f = each_none
      flat-f small_return f = each_next (free 94 _ refl) each_none
      flat-f small_kill f = each_none
      flat-f (small_call {f = g} {xs} {r}) f =
          let n = f.short in
          each_next (free 92 g refl) (each_next (given 109 (length xs) (omega (arith, length-append (operand_cells xs) ((100, word_of r) ∷ []), length-map {B = Cell} xs (λ x. (EXPR, x))))) (each_append (operands_small xs) (each_next (free 100 _ refl) each_none)))
      flat-f (small_effect l h) f = h

      flat-b : {x : Block Range} → SmallB x → Fine b (flat_b x) → Each Small (flat_b x)
      flat-b small_end f = each_none
      flat-b (small_then {s} x y) f = each_append (flat_s_lem x (fine-both (flat_s s) f).0) (flat-b y (fine-both (flat_s s) f).1)

      flat-k : {c : Case Range} → SmallK c → Fine b (flat_k c) → Each Small (flat_k c)
      flat-k (small_case {v} {b = x} {f = t} h s) f =
          let g = fine-both (v ++ ((122, size_b x) ∷ flat_b x)) f in
          let i = fine-both v g.0 in
          each_append (each_append h (counted_block x i.1 (λ g. flat-b s g))) (each_next (given 2 t (fall_below t g.1)) each_none)

      flat-c : {ks : Cases Range} → SmallC ks → Fine b (flat_c ks) → Each Small (flat_c ks)
      flat-c small_nomore f = each_none
      flat-c (small_also {k = c} x y) f = each_append (flat-k x (fine-both (flat_k c) f).0) (flat-c y (fine-both (flat_k c) f).1)

-- ---- functions and entry points
counted-rows : (s : ℕ) {rs : List Cells} → length rs ≤ 1024 → Rows rs → Each Small (flat_list s rs)
unfolding flat_list
counted-rows s {rs} l h = each_next (given s (length rs) (omega arith)) (all-to h)

front_small : {f : Function} → WellFunction f → SmallFunction f → Each Small (front f)
unfolding front limit
front_small w f =
    each_append f.in_head
    (each_append (counted-rows ARGUMENTS (let n = w.arguments_ok.few in omega arith) f.in_arguments)
    (each_append f.in_result
    (each_append (counted-rows LOCALS (let n = w.locals_ok.few in omega arith) f.in_locals)
    (each_append (counted-rows EXPRESSIONS (let n = w.exprs_ok.few in omega arith) f.in_exprs)
    (counted-rows NAMED (let n = w.named_ok.few in omega arith) f.in_named)))))

-- what fits an image is words
pub record Fit (r : Cells) : Type 0 where
  pub words : length r ≤ 65536 → Each Word r

module _ {b : Bounds} (k : Bounded b) where
  inside_bounded : {f : Function} → WellFunction f → Bounded (inside b f)
  unfolding inside limit
  inside_bounded w = record { names = k.names; types = k.types; constants = k.constants; overrides = k.overrides; globals = k.globals; inits = k.inits; functions = k.functions; exprs = w.exprs_ok.few }

  record_fits : (h : Cells) (f : Function) → Each Small h → WellFunction f → SmallFunction f → sound b f (h ++ flat f) ≡ true → Fit (h ++ flat f)
  unfolding sound flat_block
  record_fits h f hs w fs e = record { words = λ l. cells_below (inside_bounded w) (h ++ flat f) p.0 (small l) }
    where
      p : (within (inside b f) (h ++ flat f) ≡ true) × (ordered (h ++ flat f) && initialised f ≡ true)
      p = and_split (within (inside b f) (h ++ flat f)) _ e

      small : length (h ++ flat f) ≤ 65536 → Each Small (h ++ flat f)
      small l =
          let x : Fine (inside b f) (h ++ flat f) = record { inside_of = p.0; rises = (and_split (ordered (h ++ flat f)) (initialised f) p.1).0; short = l } in
          let y : Fine (inside b f) (front f ++ flat_block f.body) = rw (flat-front f) at (fine-both h x).1 in
          each_append hs (rw (flat-front f) (each_append (front_small w fs) (counted_block f.body (fine-both (front f) y).1 λ g. flat-b (inside_bounded w) fs.in_body g)))

  functions_fit : {fs : List Function} → Each WellFunction fs → Each SmallFunction fs → every (sound_function b) fs ≡ true → Each Fit (map flat fs)
  unfolding every
  functions_fit each_none each_none e = each_none
  functions_fit (each_next {a = f} w ws) (each_next s ss) e = let p = and_split (sound_function b f) _ e in each_next (record_fits [] f each_none w s p.0) (functions_fit ws ss p.1)

  entries_fit : {es : List Entry} → Each WellEntry es → Each SmallEntry es → every (sound_entry b) es ≡ true → Each Fit (map flat_entry es)
  unfolding every flat_entry
  entries_fit each_none each_none e = each_none
  entries_fit (each_next {a = d} w ws) (each_next s ss) e = let p = and_split (sound_entry b d) _ e in each_next (record_fits d.head d.function s.in_head w.function-ok s.in_function_lem p.0) (entries_fit ws ss p.1)

-- ---- names hold no number
record Takeable (s : ℕ) : Type 0 where
  low : s < TEXT
  is : fixed (target s) ≡ true

lays_words : {ss : Row} {cs : Cells} → Lays ss cs → Each Takeable ss → Each Small cs → Each Word cs
lays_words lays_none t e = each_none
lays_words (lays_next {s} {w} {xs} {ss} {cs} m l) (each_next t ts) (each_next h hs) =
    let q : xs ≡ [] = small_more s w xs (lt-ltb s TEXT t.low) m in
    each_next (record { below = h.below t.is }) (lays_words l (rw q ts) hs)

words_takeable : (n : ℕ) → Each Takeable (replicate n WORD)
unfolding target targets fixed
words_takeable zero = each_none
words_takeable (suc n) = each_next {a = 80} (record { low = omega arith; is = refl }) (words_takeable n)

pad_takeable : (r : ℕ) → r < 4 → Takeable (PAD + r - 1)
unfolding target targets fixed
pad_takeable zero h = record { low = omega arith; is = refl }
pad_takeable (suc zero) h = record { low = omega arith; is = refl }
pad_takeable (suc (suc zero)) h = record { low = omega arith; is = refl }
pad_takeable (suc (suc (suc zero))) h = record { low = omega arith; is = refl }
pad_takeable (suc (suc (suc (suc n)))) h = absurd (omega arith)

text_takeable : (w : ℕ) → Each Takeable (text w)
unfolding text
text_takeable w = each_append (words_takeable (w / 4)) (last (eqb (w % 4) 0))
  where
    last : (b : Bool) → Each Takeable (elim b [ true ↦ [] | false ↦ (PAD + w % 4 - 1) ∷ [] ])
    last true = each_none
    last false = each_next (pad_takeable (w % 4) (mod-lt w (omega arith))) each_none

name_words_lem : {r : Cells} → Lays (TEXT ∷ []) r → Each Small r → Each Word r
unfolding more target targets fixed
name_words_lem (lays_next {w} {xs} {cs} m l) (each_next h hs) =
    let q : xs ++ [] ≡ text w = append-nil xs ∙ cc in
    let l' : Lays (text w) cs = rw q at l in
    each_next (record { below = h.below refl }) (lays_words l' (text_takeable w) hs)

names_words : {rs : List Cells} → Each (Lays (TEXT ∷ [])) rs → Rows rs → Each (Each Word) rs
names_words each_none each_none = each_none
names_words (each_next l ls) (each_next h hs) = each_next (name_words_lem l h) (names_words ls hs)

-- ---- sections and the header
length-places : (at : ℕ) (rs : List Cells) → length (places at rs) ≡ length rs
unfolding places
length-places at [] = refl
length-places at (r ∷ rs) = ap suc (length-places (at + length r) rs)

places-below : (at : ℕ) (rs : List Cells) → at + length (flat_all rs) ≤ 65536 → Each Word (places at rs)
unfolding places flat_all
places-below at [] h = each_none
places-below at (r ∷ rs) h = let l = length-append r (flat_all rs) in each_next {a = (104, at)} (record { below = omega arith }) (places-below (at + length r) rs (omega arith))

all_fit : (rs : List Cells) → Each Fit rs → length (flat_all rs) ≤ 65536 → Each Word (flat_all rs)
unfolding flat_all
all_fit [] e h = each_none
all_fit (r ∷ rs) (each_next f e) h = let l = length-append r (flat_all rs) in each_append (f.words (omega arith)) (all_fit rs e (omega arith))

table_fits : (rs : List Cells) → Each Fit rs → Fit (flat_table rs)
unfolding flat_table
table_fits rs e = record { words = λ h. let l = length-append (places (length rs) rs) (flat_all rs) in let p = length-places (length rs) rs in each_append (places-below (length rs) rs (omega arith)) (all_fit rs e (omega arith)) }

fit : {rs : List Cells} → Each (Each Word) rs → Each Fit rs
fit = each_map λ r h. record { words = λ l. h }

record Holds (s : Section) : Type 0 where
  few : s.0 ≤ 512
  fits : Fit s.1

bodies-below : (ss : List Section) → Each Holds ss → length (bodies ss) ≤ 65536 → Each Word (bodies ss)
unfolding bodies
bodies-below [] e h = each_none
bodies-below (s ∷ ss) (each_next f e) h = let l = length-append s.1 (bodies ss) in each_append (f.fits.words (omega arith)) (bodies-below ss e (omega arith))

pairs_below : (at : ℕ) (ss : List Section) → Each Holds ss → at + length (bodies ss) ≤ 65536 → Each Word (pairs_from at ss)
unfolding pairs_from bodies
pairs_below at [] e h = each_none
pairs_below at (s ∷ ss) (each_next f e) h = let l = length-append s.1 (bodies ss) in let n = f.few in each_next {a = (104, s.0)} (record { below = omega arith }) (each_next {a = (104, at)} (record { below = omega arith }) (pairs_below (at + length s.1) ss e (omega arith)))

length_pairs : (at : ℕ) (ss : List Section) → length (pairs_from at ss) ≡ 2 * length ss
unfolding pairs_from
length_pairs at [] = refl
length_pairs at (s ∷ ss) = let l = length_pairs (at + length s.1) ss in omega arith

outside_bounded : {t : Module} → WellFormed t → Bounded (outside t)
unfolding outside
outside_bounded w =
    let z : (n : ℕ) → n ≤ 512 → n ≤ 1024 = λ n h. omega arith in
    record {
      names = z _ w.names_ok.few;
      types = z _ w.types-ok.few;
      constants = z _ w.constants_ok.few;
      overrides = z _ w.overrides_ok.few;
      globals = z _ w.globals_ok.few;
      inits = z _ w.exprs_ok.few;
      functions = (let n = w.functions_ok.few in omega arith);
      exprs = z _ w.exprs_ok.few;
    }

all_hold : {t : Module} → WellFormed t → numbered t ≡ true → SmallModule t → Each Holds (sections t)
unfolding sections numbered name_row tables at flat_special
all_hold {t} w h k =
    let b = outside t in
    let o = outside_bounded w in
    let h₁ = and_split (every (within b) t.types) _ h in
    let h₂ = and_split (every (within b) t.constants) _ h₁.1 in
    let h₃ = and_split (every (within b) t.overrides) _ h₂.1 in
    let h₄ = and_split (every (within b) t.globals) _ h₃.1 in
    let h₅ = and_split (every (within b) t.exprs) _ h₄.1 in
    let h₆ = and_split (every constant_only t.exprs) _ h₅.1 in
    let h₇ = and_split (every (sound_function b) t.functions) _ h₆.1 in
    let h₈ = and_split (every (sound_entry b) t.entries) _ h₇.1 in
    let h₉ = and_split (within b t.special.rays) _ h₈.1 in
    let f = w.functions_ok.few in
    let g = w.entries_ok.few in
    each_next (record { few = w.names_ok.few; fits = table_fits t.names (fit (names_words w.names_ok.each (k.in_tables_lem names))) })
    (each_next (record { few = w.types-ok.few; fits = table_fits t.types (fit (rows-below o t.types h₁.0 (k.in_tables_lem types))) })
    (each_next (record { few = w.constants_ok.few; fits = table_fits t.constants (fit (rows-below o t.constants h₂.0 (k.in_tables_lem constants))) })
    (each_next (record { few = w.overrides_ok.few; fits = table_fits t.overrides (fit (rows-below o t.overrides h₃.0 (k.in_tables_lem overrides))) })
    (each_next (record { few = w.globals_ok.few; fits = table_fits t.globals (fit (rows-below o t.globals h₄.0 (k.in_tables_lem globals))) })
    (each_next (record { few = w.exprs_ok.few; fits = table_fits t.exprs (fit (rows-below o t.exprs h₅.0 (k.in_tables_lem exprs))) })
    (each_next {a = (length t.functions, flat_table (map flat t.functions))} (record { few = omega arith; fits = table_fits (map flat t.functions) (functions_fit o w.functions_ok.each k.in_functions_lem h₇.0) })
    (each_next {a = (length t.entries, flat_table (map flat_entry t.entries))} (record { few = omega arith; fits = table_fits (map flat_entry t.entries) (entries_fit o w.entries_ok.each k.in_entries_lem h₈.0) })
    (each_next (record { few = w.pairs-ok.few; fits = record { words = λ l. each_append (cells_below o t.special.rays h₉.0 k.in_rays) (all-to (rows-below o t.special.pairs h₉.1 k.in_pairs)) } })
    each_none))))))))

-- THE IMAGE'S WORDS
pub image_words_lem : {t : Module} → WellFormed t → numbered t ≡ true → SmallModule t → length (flat_module t) ≤ 65536 → Each Word (flat_module t)
unfolding flat_module
image_words_lem {t} w n k l =
    let p = length-append (pairs_from HEADER (sections t)) (bodies (sections t)) in
    let q = length_pairs HEADER (sections t) in
    let r : length (sections t) ≡ 9 = (unfold sections in refl) in
    let long : HEADER + length (bodies (sections t)) ≤ 65536 = omega arith in
    each_next {a = (104, 1)} (record { below = omega arith })
    (each_next {a = (104, HEADER + length (bodies (sections t)))} (record { below = omega arith })
    (each_append (pairs_below HEADER (sections t) (all_hold w n k) long) (bodies-below (sections t) (all_hold w n k) (omega arith))))

-- ---- in terms of the words alone
pub words_cells : (cs : Cells) → AllBelow (2 ^ 32) (map word cs) → Each Word cs
words_cells [] h = each_none
words_cells (c ∷ cs) h = each_next (record { below = h 0 (omega arith) }) (words_cells cs λ i l. h (suc i) (omega arith))

pub cells_words : {cs : Cells} → Each Word cs → AllBelow (2 ^ 32) (map word cs)
cells_words each_none i l = absurd (omega arith)
cells_words (each_next h hs) zero l = h.below
cells_words (each_next h hs) (suc i) l = cells_words hs i (omega arith)

-- A SOURCE that intake passes is small if its words are words
pub read_small : (bytes : ℕ) (ws : List ℕ) (t : Module) → intake_of bytes ws ≡ 0 → read ws ≡ laid t → bytes ≡ 4 * length ws → AllBelow (2 ^ 32) ws → SmallModule t
unfolding write
read_small bytes ws t p r e h = image_small t (words_cells (flat_module t) (subst (λ xs. AllBelow (2 ^ 32) xs) (source_is bytes ws t p r e) h))

-- WHAT IS WRITTEN of a small module, where it is read back and passes tests 1 and 3, is words
pub written_words : (t : Module) → SmallModule t → numbered t ≡ true → read (write t) ≡ laid t → sized (4 * length (write t)) (write t) ≡ true → AllBelow (2 ^ 32) (write t)
unfolding write sized
written_words t k n r s =
    let l = leb-true (4 * length (write t)) 65536 (and_split (leb (4 * length (write t)) 65536) _ (and_split (leb 80 (4 * length (write t))) _ s).1).0 in
    let e = length-write t in
    cells_words (image_words_lem (read_well (write t) t r) n k (omega arith))
