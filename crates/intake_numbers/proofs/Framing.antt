-- A function in words and tags, and the loops over table functions and entry points.
use denote.Ref.{MutBor}
use mathlib.Core.Path.{◌≡◌, refl, sym, ap, ◌∙◌}
use mathlib.Core.Bool.{Bool, true, false, ◌&&◌, not}
use mathlib.Core.Option.{some}
use mathlib.Core.List.{List, []}
use Prim.Native.Nat.{ℕ, suc, ◌+◌, ◌^◌, ◌≤◌, ◌<◌}
use native.Mathlib.Numerals.{add-one}
use native.Mathlib.Omega.{arith}
use lib.ListN.{length, get_or, get_elem?, drop}
use lib.Seq.{drop-cons, drop-length}
use borrow.Author.Tests.{not-true, not-false}
use Rattle.theory_lists.specs.Lists.{looked_at}
use Rattle.model.specs.Outcome.{Cells}
use Rattle.model.specs.Tree.{Function, Entry, end, flat, flat_entry}
use Rattle.model.specs.Module.{Module, count_at, flat_module}
use Rattle.model.specs.View.{record_at, record_end}
use Rattle.model.specs.FunctionView.{arguments_at, locals_at, expressions_at}
use Rattle.model.specs.Taped.{Taped, Tape}
use Rattle.model.specs.Initial.{initialised}
use Rattle.model.specs.Numbers.{Bounds, within, ordered, every, outside, inside, sound, sound_function, sound_entry, constant_only, numbered}
use Rattle.theory_image.specs.Views.{sees_entry}
use Rattle.theory_image.specs.FunctionViews.{arguments_count, locals_count, exprs_count, stands-end, taped_part, taped_function, taped_entry, taped_functions, taped_entries}
use Rattle.theory_image.specs.Betweens.{held-between}
use Rattle.model.specs.Between.{Long}
use Rattle.intake_ranges.specs.declared.Bounds as code
use Rattle.intake_ranges.specs.Ranges.{table, headed, owned, FunctionInRangeEnsures, Owned}
use Rattle.intake_numbers.specs.declared.FunctionTable.{FunctionTable}
use Rattle.intake_numbers.specs.declared.FunctionTable.TheVariants.{Functions, Entries}
use Rattle.intake_numbers.specs.Passes.{TestEnsures, Tabled, Frame, Framed, Sound, Loose, Loosely, Tests, Passed, done, fails, next, section_of, head_of, fine_of, tables_fine, kinds_fine, functions_fine, entries_fine}
use Rattle.intake_initialisers.specs.Lists.{Lists, Listed, Initialised}
use Rattle.intake_numbers.proofs.Tabling.{and_next, taped_long, cells_few, headed_is}

-- ---- where its counts are
module _ {words tags : List ℕ} {at from end : ℕ} {f : Function} {cs : Cells} (fr : Frame words tags at from end f cs) where
  exprs_below : expressions_at from words + 1 < end
  exprs_below = omega (arith, stands-end fr.own)

  end_small : end ≤ 16384
  end_small = omega (arith, fr.own.part.within, fr.small)

  module _ (locals exprs : ℕ) (locals_is : locals ≡ locals_at from words) (exprs-is : exprs ≡ expressions_at from words) where
    -- the bounds are the function's
    bounds_are : (e u v : ℕ) → e ≡ get_or words exprs 0 → u ≡ get_or words (arguments_at from) 0 → v ≡ get_or words locals 0 → (b : Bounds) → owned b e u v ≡ inside b f
    unfolding owned inside
    bounds_are e u v e-is u-is v-is b =
        let x : e ≡ length f.exprs = e-is ∙ ap (λ o. get_or words o 0) exprs-is ∙ exprs_count fr.own in
        let y : u ≡ length f.arguments = u-is ∙ arguments_count fr.own in
        let z : v ≡ length f.locals = v-is ∙ ap (λ o. get_or words o 0) locals_is ∙ locals_count fr.own in
        rw (x, y, z)

    pub lists_are : Lists words tags locals exprs end f
    lists_are = record { start = from; long = fr.long; cells = fr.cells; small = fr.small; own = fr.own; locals_at_lem = locals_is; exprs_at = exprs-is }

-- ---- what is tested of it
abbrev pub Word : ℕ → ℕ → Type 0
Word v w = (v ≡ w) × (v < 2 ^ 32)

module _ (words tags : List ℕ) (at from end : ℕ) (pre : Framed words tags at from end) where
  abbrev frame : Frame words tags at from end pre.function pre.record_cells
  frame = pre.frame

  pub function-inside : expressions_at from words < 16384
  function-inside = omega (arith, exprs_below frame, end_small frame)

  pub function_long : Long words tags
  function_long = frame.long

  pub function-rising : at ≤ end
  function-rising = frame.whole.rising

  pub function_small : end ≤ 16384
  function_small = end_small frame

  module _ (locals exprs : ℕ) (locals_is : locals ≡ locals_at from words) (exprs-is : exprs ≡ expressions_at from words) where
    pub function-listed : Listed words tags locals exprs end
    function-listed = record { function = pre.function; lists = lists_are frame locals exprs locals_is exprs-is }

    module _ (e u v : ℕ) (e-is : e ≡ get_or words exprs 0) (u-is : u ≡ get_or words (arguments_at from) 0) (v-is : v ≡ get_or words locals 0) (t t₁ : List ℕ) (got : Owned t₁ t e u v) where
      now_is : (f : Function) (cs : Cells) → Frame words tags at from end f cs → (b : Bounds) → t ≡ table b → t₁ ≡ table (inside b f)
      now_is f cs fr b q = got.same b q ∙ ap table (bounds_are fr locals exprs locals_is exprs-is e u v e-is u-is v-is b)

      module _ (r₁ : Bool) (checked : FunctionInRangeEnsures r₁ words tags t₁ at end) where
        both : (f : Function) (cs : Cells) → Frame words tags at from end f cs → (b : Bounds) → t ≡ table b → within (inside b f) cs && ordered cs ≡ r₁
        both f cs fr b q = sym (checked.same (inside b f) (now_is f cs fr b q) ∙ ap (λ cs. within (inside b f) cs && ordered cs) (held-between fr.own.held fr.whole))

        split : (f : Function) (cs : Cells) → Frame words tags at from end f cs → (b : Bounds) → t ≡ table b → (v : Bool) → r₁ ≡ v → sound b f cs ≡ v && initialised f
        unfolding sound
        split f cs fr b q v z = and_next (within (inside b f) cs) (ordered cs) (initialised f) ∙ ap (◌&& initialised f) (both f cs fr b q ∙ z)

        pub function_over : r₁ ≡ false → Sound r₁ t₁ t words tags at from end
        function_over z = record { same = λ f cs fr b q. z ∙ sym (split f cs fr b q false z); kept = now_is }

        pub function_done : r₁ ≡ true → (r₃ : Bool) → Initialised r₃ words tags locals exprs end → Sound r₃ t₁ t words tags at from end
        function_done z r₃ reached = record { same = λ f cs fr b q. reached.same f (lists_are fr locals exprs locals_is exprs-is) ∙ sym (split f cs fr b q true z); kept = now_is }

-- ---- one after the other: records of section k, whose functions start at `from` of the record's start
module _ {A : Type 0} (k : ℕ) (items : Module → List A) (fn : A → Function) (cells : A → Cells) (from : ℕ → ℕ) (d : Module → A) where
  pub record Looping (words tags : List ℕ) (n : ℕ) (t₀ : List ℕ) (j : ℕ) (t : List ℕ) : Type 0 where
    pub to : j ≤ count_at k words
    pub same : (m : Module) → Taped words tags n m → Loose t₀ m → every (λ x. sound (outside m) (fn x) (cells x)) (drop j (items m)) ≡ every (λ x. sound (outside m) (fn x) (cells x)) (items m)
    pub kept : (m : Module) → Taped words tags n m → Loose t₀ m → Loose t m

  -- where they are
  pub record Framing (words tags : List ℕ) (n : ℕ) : Type 0 where
    pub count : (m : Module) → Taped words tags n m → count_at k words ≡ length (items m)
    pub frames : (m : Module) → Taped words tags n m → (j : ℕ) (x : A) → get_elem? (items m) j ≡ some x → Frame words tags (record_at k j words) (from (record_at k j words)) (record_end k j words) (fn x) (cells x)

  module _ (words tags : List ℕ) (n : ℕ) (fg : Framing words tags n) (j : ℕ) (h : j < count_at k words) where
    number : (m : Module) → Taped words tags n m → j < length (items m)
    number m tp = omega (arith, fg.count m tp)

    looping_frame : (m : Module) (tp : Taped words tags n m) → Frame words tags (record_at k j words) (from (record_at k j words)) (record_end k j words) (fn (get_or (items m) j (d m))) (cells (get_or (items m) j (d m)))
    looping_frame m tp = fg.frames m tp j (get_or (items m) j (d m)) (looked_at (items m) j (d m) (number m tp))

    looping_framed : Tape words tags n → Framed words tags (record_at k j words) (from (record_at k j words)) (record_end k j words)
    looping_framed tape = record { function = _; record_cells = _; frame = looping_frame tape.holds tape.taped }

  module _ (words tags : List ℕ) (n : ℕ) (fg : Framing words tags n) (t₀ : List ℕ) where
    looping-begin : Looping words tags n t₀ 0 t₀
    looping-begin = record { to = omega arith; same = λ m tp lo. refl; kept = λ m tp lo. lo }

    module _ (j : ℕ) (t : List ℕ) (inv : Looping words tags n t₀ j t) where
      looping_done : count_at k words ≤ j → Loosely true t words tags n t₀ (λ m. every (λ x. sound (outside m) (fn x) (cells x)) (items m))
      unfolding every
      looping_done h = record {
        same = λ m tp lo.
            let q : j ≡ length (items m) = omega (arith, inv.to, fg.count m tp) in
            sym (ap (λ i. every (λ x. sound (outside m) (fn x) (cells x)) (drop i (items m))) q ∙ ap (every (λ x. sound (outside m) (fn x) (cells x))) (drop-length (items m))) ∙ inv.same m tp lo;
        kept = inv.kept;
      }

      module _ (h : j < count_at k words) (r : Bool) (t₁ : List ℕ) (got : Sound r t₁ t words tags (record_at k j words) (from (record_at k j words)) (record_end k j words)) where
        here : (m : Module) → Taped words tags n m → Loose t₀ m → sound (outside m) (fn (get_or (items m) j (d m))) (cells (get_or (items m) j (d m))) ≡ r
        unfolding sound
        here m tp lo =
            let u = inv.kept m tp lo in
            let x = get_or (items m) j (d m) in
            sym (got.same (fn x) (cells x) (looping_frame words tags n fg j h m tp) u.bounds u.is ∙ ap (λ b. within b (cells x) && (ordered (cells x) && initialised (fn x))) (u.alike (fn x)))

        turn : (m : Module) → Taped words tags n m → Loose t₀ m → (r && every (λ x. sound (outside m) (fn x) (cells x)) (drop (j + 1) (items m))) ≡ every (λ x. sound (outside m) (fn x) (cells x)) (items m)
        unfolding every
        turn m tp lo =
            rw (add-one j)
            (ap (◌&& every (λ x. sound (outside m) (fn x) (cells x)) (drop (suc j) (items m))) (sym (here m tp lo))
            ∙ sym (ap (every (λ x. sound (outside m) (fn x) (cells x))) (drop-cons (items m) j (d m) (number words tags n fg j h m tp)))
            ∙ inv.same m tp lo)

        loosened : (m : Module) → Taped words tags n m → Loose t₀ m → Loose t₁ m
        unfolding inside
        loosened m tp lo =
            let u = inv.kept m tp lo in
            let x = get_or (items m) j (d m) in
            record { bounds = inside u.bounds (fn x); is = got.kept (fn x) (cells x) (looping_frame words tags n fg j h m tp) u.bounds u.is; alike = λ f. u.alike f }

        looping_over : not r ≡ true → Loosely false t₁ words tags n t₀ (λ m. every (λ x. sound (outside m) (fn x) (cells x)) (items m))
        looping_over q = record { same = λ m tp lo. rw (not-true r q) at (turn m tp lo); kept = loosened }

        looping-next : not r ≡ false → Looping words tags n t₀ (j + 1) t₁
        looping-next q = record { to = omega arith; same = λ m tp lo. rw (not-false r q) at (turn m tp lo); kept = loosened }

-- ---- table functions, and entry points
pub no_function : Function
no_function = record { head = []; arguments = []; result = []; locals = []; exprs = []; named = []; body = end }

pub no_entry : Entry
no_entry = record { head = []; function = no_function }

abbrev pub InFunctions : List ℕ → List ℕ → ℕ → List ℕ → ℕ → List ℕ → Type 0
InFunctions = Looping 6 (λ m. m.functions) (λ f. f) flat (λ p. p) (λ m. no_function)

abbrev pub InEntries : List ℕ → List ℕ → ℕ → List ℕ → ℕ → List ℕ → Type 0
InEntries = Looping 7 (λ m. m.entries) (λ e. e.function) flat_entry (λ p. p + 7) (λ m. no_entry)

pub framing_functions : (words tags : List ℕ) (n : ℕ) → Framing 6 (λ m. m.functions) (λ f. f) flat (λ p. p) (λ m. no_function) words tags n
framing_functions words tags n = record {
  count = λ m tp. taped_functions tp;
  frames = λ m tp j f e. record { long = taped_long tp; cells = flat_module m; small = cells_few tp; whole = (taped_function tp j f e).part; own = taped_function tp j f e };
}

pub framing_entries : (words tags : List ℕ) (n : ℕ) → Framing 7 (λ m. m.entries) (λ e. e.function) flat_entry (λ p. p + 7) (λ m. no_entry) words tags n
framing_entries words tags n = record {
  count = λ m tp. taped_entries tp;
  frames = λ m tp j x e. record { long = taped_long tp; cells = flat_module m; small = cells_few tp; whole = taped_part tp (omega arith) (sees_entry m refl j x e); own = taped_entry tp j x e };
}

pub functions_in_lem : (words : List ℕ) (count j : ℕ) → Word count (count_at 6 words) → j < count → j < count_at 6 words
functions_in_lem words count j is h = omega (arith, is.0)

pub entries_in : (words : List ℕ) (count j : ℕ) → Word count (count_at 7 words) → j < count → j < count_at 7 words
entries_in words count j is h = omega (arith, is.0)

-- a call is a test of the record whose places it is told
pub tested : {S : Type 0} {post : MutBor S → ℕ → ℕ → ℕ → Bool → MutBor S → Type 0} {words : List ℕ} {tb : FunctionTable} {i at head end : ℕ} (shown left : MutBor S) {r b : Bool} (k : ℕ) → k ≡ section_of tb → post shown at (at + head) end r left → at ≡ record_at k i words → head ≡ head_of tb → end ≡ record_end k i words → r ≡ b
    → Tests post words tb i shown.now b left.now
tested shown left k k_is p at-is head_is end_is is = record { shown = shown; shows = refl; left = left; met = rw (at-is, head_is, end_is, is, k_is) at p; leaves = refl }

pub table_in : (words : List ℕ) (tb : FunctionTable) (k count i : ℕ) → k ≡ section_of tb → Word count (count_at k words) → i < count → i < count_at (section_of tb) words
table_in words tb k count i k_is is h = let l : i < count_at k words = omega (arith, h, is.0) in rw k_is at l

pub table_out : (words : List ℕ) (tb : FunctionTable) (k count i : ℕ) → k ≡ section_of tb → Word count (count_at k words) → count ≤ i → count_at (section_of tb) words ≤ i
table_out words tb k count i k_is is h = let l : count_at k words ≤ i = omega (arith, h, is.0) in rw k_is at l

-- either of them, as the code goes over a table
abbrev pub InTable : FunctionTable → List ℕ → List ℕ → ℕ → List ℕ → ℕ → List ℕ → Type 0
InTable Functions = InFunctions
InTable Entries = InEntries

-- their functions stand there
pub framed_at : (words tags : List ℕ) (n : ℕ) → Tape words tags n → (tb : FunctionTable) (i : ℕ) → i < count_at (section_of tb) words → Framed words tags (record_at (section_of tb) i words) (record_at (section_of tb) i words + head_of tb) (record_end (section_of tb) i words)
framed_at words tags n tape Functions i l = let z : record_at 6 i words + 0 ≡ record_at 6 i words = omega arith in rw z (looping_framed 6 _ _ _ _ _ words tags n (framing_functions words tags n) i l tape)
framed_at words tags n tape Entries i l = looping_framed 7 _ _ _ _ _ words tags n (framing_entries words tags n) i l tape

pub framed_small : (words tags : List ℕ) (n : ℕ) → Tape words tags n → (tb : FunctionTable) (i : ℕ) → i < count_at (section_of tb) words → (k at head : ℕ) → k ≡ section_of tb → at ≡ record_at k i words → head ≡ head_of tb → at + head ≤ 16384
framed_small words tags n tape tb i l k at head k_is at_is head_is =
    let p = framed_at words tags n tape tb i l in
    let q : record_at (section_of tb) i words + head_of tb ≤ 16384 = omega (arith, p.frame.own.part.rising, function_small words tags (record_at (section_of tb) i words) (record_at (section_of tb) i words + head_of tb) (record_end (section_of tb) i words) p) in
    rw (at_is, head_is, k_is) q

module _ (words tags : List ℕ) (n : ℕ) (t₀ : List ℕ) where
  pub table_begin : (tb : FunctionTable) → InTable tb words tags n t₀ 0 t₀
  table_begin Functions = looping-begin 6 _ _ _ _ _ words tags n (framing_functions words tags n) t₀
  table_begin Entries = looping-begin 7 _ _ _ _ _ words tags n (framing_entries words tags n) t₀

  module _ (j : ℕ) (t : List ℕ) where
    table_done : (tb : FunctionTable) → InTable tb words tags n t₀ j t → count_at (section_of tb) words ≤ j → Loosely true t words tags n t₀ (fine_of tb)
    unfolding functions_fine entries_fine
    table_done Functions inv h = looping_done 6 _ _ _ _ _ words tags n (framing_functions words tags n) t₀ j t inv h
    table_done Entries inv h = looping_done 7 _ _ _ _ _ words tags n (framing_entries words tags n) t₀ j t inv h

    module _ (r : Bool) (t₁ : List ℕ) where
      over_there : (tb : FunctionTable) → InTable tb words tags n t₀ j t → j < count_at (section_of tb) words → Sound r t₁ t words tags (record_at (section_of tb) j words) (record_at (section_of tb) j words + head_of tb) (record_end (section_of tb) j words) → not r ≡ true → Loosely false t₁ words tags n t₀ (fine_of tb)
      unfolding functions_fine entries_fine
      over_there Functions inv h got q = let z : record_at 6 j words + 0 ≡ record_at 6 j words = omega arith in looping_over 6 _ _ _ _ _ words tags n (framing_functions words tags n) t₀ j t inv h r t₁ (rw z at got) q
      over_there Entries inv h got q = looping_over 7 _ _ _ _ _ words tags n (framing_entries words tags n) t₀ j t inv h r t₁ got q

      next_there : (tb : FunctionTable) → InTable tb words tags n t₀ j t → j < count_at (section_of tb) words → Sound r t₁ t words tags (record_at (section_of tb) j words) (record_at (section_of tb) j words + head_of tb) (record_end (section_of tb) j words) → not r ≡ false → InTable tb words tags n t₀ (j + 1) t₁
      next_there Functions inv h got q = let z : record_at 6 j words + 0 ≡ record_at 6 j words = omega arith in looping-next 6 _ _ _ _ _ words tags n (framing_functions words tags n) t₀ j t inv h r t₁ (rw z at got) q
      next_there Entries inv h got q = looping-next 7 _ _ _ _ _ words tags n (framing_entries words tags n) t₀ j t inv h r t₁ got q

  -- one after the other, from record j on
  pub passed_table : {post : MutBor code.Bounds → ℕ → ℕ → ℕ → Bool → MutBor code.Bounds → Type 0} {tb : FunctionTable} {j : ℕ} {t t₁ : code.Bounds} {r : Bool}
      → Passed post words tb j t r t₁ → InTable tb words tags n t₀ j t.below
      → ((i : ℕ) (t t₁ : code.Bounds) (r : Bool) → i < count_at (section_of tb) words → Tests post words tb i t r t₁ → Sound r t₁.below t.below words tags (record_at (section_of tb) i words) (record_at (section_of tb) i words + head_of tb) (record_end (section_of tb) i words))
      → Loosely r t₁.below words tags n t₀ (fine_of tb)
  passed_table {tb = tb} {j} {t} (done h) inv tests = table_done j t.below tb inv h
  passed_table {tb = tb} {j} {t} {t₁} (fails h p) inv tests = over_there j t.below false t₁.below tb inv h (tests j t t₁ false h p) refl
  passed_table {tb = tb} {j} {t} (next {s₁ = t₁} h p q) inv tests = passed_table q (next_there j t.below true t₁.below tb inv h (tests j t t₁ true h p) refl) tests

-- ---- the whole
last-first : (k f e r p : Bool) → (k && (f && (e && (r && p)))) ≡ ((r && p) && (k && (f && e)))
last-first true true true true true = refl
last-first true true true true false = refl
last-first true true true false p = refl
last-first true true false true true = refl
last-first true true false true false = refl
last-first true true false false p = refl
last-first true false e true true = refl
last-first true false e true false = refl
last-first true false e false p = refl
last-first false f e true true = refl
last-first false f e true false = refl
last-first false f e false p = refl

regroup : (a b c d x k f e r p : Bool) → (a && (b && (c && (d && (x && (k && (f && (e && (r && p))))))))) ≡ ((a && (b && (c && (d && (x && (r && p)))))) && (k && (f && e)))
regroup true true true true true k f e r p = last-first k f e r p
regroup true true true true false k f e r p = refl
regroup true true true false x k f e r p = refl
regroup true true false d x k f e r p = refl
regroup true false c d x k f e r p = refl
regroup false b c d x k f e r p = refl

pub numbered_is : (m : Module) → numbered m ≡ (tables_fine m && (kinds_fine m && (functions_fine m && entries_fine m)))
unfolding numbered tables_fine kinds_fine functions_fine entries_fine
numbered_is m =
    let b = outside m in
    regroup (every (within b) m.types) (every (within b) m.constants) (every (within b) m.overrides) (every (within b) m.globals) (every (within b) m.exprs) (every constant_only m.exprs) (every (sound_function b) m.functions) (every (sound_entry b) m.entries) (within b m.special.rays) (every (within b) m.special.pairs)

module _ (words tags : List ℕ) (n : ℕ) (t : List ℕ) (t-is : t ≡ table (headed words)) where
  table_is : (m : Module) → Taped words tags n m → t ≡ table (outside m)
  table_is m tp = t-is ∙ ap table (headed_is tp)

  loose : (m : Module) → Taped words tags n m → Loose t m
  loose m tp = record { bounds = outside m; is = table_is m tp; alike = λ f. refl }

  module _ (r₁ : Bool) (g₁ : Tabled r₁ words tags n t tables_fine) where
    pub numbered-tables : r₁ ≡ false → TestEnsures false words tags n numbered
    numbered-tables q = record { same = λ m tp. sym (numbered_is m ∙ rw (sym (g₁.same m tp (table_is m tp)) ∙ q)) }

    module _ (q₁ : r₁ ≡ true) (r₂ : Bool) (g₂ : TestEnsures r₂ words tags n kinds_fine) where
      pub numbered_kinds : r₂ ≡ false → TestEnsures false words tags n numbered
      numbered_kinds q = record { same = λ m tp. sym (numbered_is m ∙ rw (sym (g₁.same m tp (table_is m tp)) ∙ q₁, sym (g₂.same m tp) ∙ q)) }

      module _ (q₂ : r₂ ≡ true) (r₃ : Bool) (t₁ : List ℕ) (g₃ : Loosely r₃ t₁ words tags n t functions_fine) where
        pub numbered_functions : r₃ ≡ false → TestEnsures false words tags n numbered
        numbered_functions q = record { same = λ m tp. sym (numbered_is m ∙ rw (sym (g₁.same m tp (table_is m tp)) ∙ q₁, sym (g₂.same m tp) ∙ q₂, sym (g₃.same m tp (loose m tp)) ∙ q)) }

        pub numbered_entries : r₃ ≡ true → (r₄ : Bool) (t₂ : List ℕ) → Loosely r₄ t₂ words tags n t₁ entries_fine → TestEnsures r₄ words tags n numbered
        numbered_entries q r₄ t₂ g₄ = record { same = λ m tp. sym (numbered_is m ∙ rw (sym (g₁.same m tp (table_is m tp)) ∙ q₁, sym (g₂.same m tp) ∙ q₂, sym (g₃.same m tp (loose m tp)) ∙ q) (sym (g₄.same m tp (g₃.kept m tp (loose m tp))))) }
