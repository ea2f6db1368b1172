-- Every function and every entry point, one after the other: what is left from here is the whole.
use denote.Ref.{MutBor}
use mathlib.Core.Path.{◌≡◌, refl, sym, ap, ◌∙◌, subst}
use mathlib.Core.Bool.{Bool, true, false, ◌&&◌}
use mathlib.Core.List.{List, [], ◌∷◌}
use Prim.Native.Nat.{ℕ, zero, suc, ◌+◌, ◌≤◌, ◌<◌}
use native.Mathlib.Numerals.{add-one}
use native.Mathlib.Omega.{arith}
use lib.Dec.{ltb}
use lib.ListN.{length, get_or, drop}
use lib.Seq.{drop-cons, drop-length}
use borrow.Author.Tests.{ltb-true, ltb-false}
use Rattle.theory_lists.specs.Lists.{looked_at}
use Rattle.theory_lists.specs.Booleans.{and_split}
use Rattle.model.specs.Outcome.{Cells, class, word}
use Rattle.model.specs.Table.{TO}
use Rattle.model.specs.Tree.{Function, Entry, flat, flat_entry}
use Rattle.model.specs.Module.{Module, count_at}
use Rattle.model.specs.View.{record_at, record_end}
use Rattle.model.specs.Taped.{Tape, Taped}
use Rattle.model.specs.Initial.{initialised}
use Rattle.model.specs.Numbers.{Bounds, caps, bound, below, within, ordered, every, outside, inside, sound}
use Rattle.model.specs.Scope.{scoped, all_scoped, entries_scoped, in_scope}
use Rattle.theory_image.specs.FunctionViews.{part_end}
use Rattle.intake_numbers.specs.declared.FunctionTable.{FunctionTable}
use Rattle.intake_numbers.specs.declared.FunctionTable.TheVariants.{Functions, Entries}
use Rattle.intake_numbers.specs.Passes.{TestEnsures, Frame, Tests, Passed, done, fails, next, section_of, head_of, tables_fine, kinds_fine, functions_fine, entries_fine}
use Rattle.intake_numbers.proofs.Framing.{no_function, no_entry, Framing, framing_functions, framing_entries, numbered_is}
use Rattle.intake_scope.specs.Functions.{Stated, Scoped, InRange, functions_scoped, entry_points_scoped, scoped_of}
use Rattle.intake_blocks.proofs.Trees.{Runs, runs_word}
use Rattle.intake_scope.proofs.Whole.{part_runs}

-- ---- numbers in range: an Emit ends at most at the number of expressions
to-bound : (b : Bounds) (w : ℕ) → below (bound b TO) w ≡ true → w ≤ b.exprs
unfolding bound caps below
to-bound b w h = omega (arith, ltb-true w (suc b.exprs) h)

ends_of : (ws ts : List ℕ) (b : Bounds) (cs : Cells) (p : ℕ) → Runs ws ts p cs → within b cs ≡ true → (i : ℕ) → p ≤ i → i < p + length cs → get_or ts i 0 ≡ TO → get_or ws i 0 ≤ b.exprs
unfolding within
ends_of ws ts b [] p r h i low high t = absurd (omega arith)
ends_of ws ts b (c ∷ cs) p r h i low high t =
    let q = and_split (below (bound b (class c)) (word c)) (within b cs) h in
    let w = runs_word ws ts p c cs r in
    go (ltb p i) refl q w (λ x y. ends_of ws ts b cs (suc p) w.1.1 q.1 i x y t)
  where
    go : (x : Bool) → ltb p i ≡ x → (below (bound b (class c)) (word c) ≡ true) × (within b cs ≡ true) → (get_or ts p 0 ≡ class c) × ((get_or ws p 0 ≡ word c) × Runs ws ts (suc p) cs) → (suc p ≤ i → i < suc p + length cs → get_or ws i 0 ≤ b.exprs) → get_or ws i 0 ≤ b.exprs
    go true e q w ih = ih (omega (arith, ltb-true p i e)) (omega arith)
    go false e q w ih =
        let z : i ≡ p = omega (arith, ltb-false p i e) in
        let k : class c ≡ TO = sym w.0 ∙ ap (λ j. get_or ts j 0) (sym z) ∙ t in
        let v : get_or ws i 0 ≡ word c = ap (λ j. get_or ws j 0) z ∙ w.1.0 in
        omega (arith, v, to-bound b (word c) (subst (λ x. below (bound b x) (word c) ≡ true) k q.0))

-- what is sound is stated
stated : (words tags : List ℕ) (at from end : ℕ) (f : Function) (cs : Cells) (b : Bounds) → Frame words tags at from end f cs → at ≤ from → sound b f cs ≡ true → Stated words tags at from end
unfolding sound inside
stated words tags at from end f cs b fr low h =
    let p = and_split (within (inside b f) cs) (ordered cs && initialised f) h in
    let q = and_split (ordered cs) (initialised f) p.1 in
    record {
      function = f;
      cells = cs;
      frame = fr;
      inits = q.1;
      ends = record { low = λ i x y t. ends_of words tags (inside b f) cs at (part_runs fr.own.held cs fr.whole) p.0 i (omega arith) (omega (arith, part_end fr.whole)) t };
    }

every-at : {A : Type 0} (p : A → Bool) (xs : List A) (j : ℕ) (d : A) → every p xs ≡ true → j < length xs → p (get_or xs j d) ≡ true
unfolding every
every-at p [] j d h k = absurd (omega arith)
every-at p (x ∷ xs) zero d h k = (and_split (p x) (every p xs) h).0
every-at p (x ∷ xs) (suc j) d h k = every-at p xs j d (and_split (p x) (every p xs) h).1 (omega arith)

-- ---- one after the other
module _ {A : Type 0} (k : ℕ) (items : Module → List A) (fn : A → Function) (cells : A → Cells) (from : ℕ → ℕ) (d : A) where
  pub record Onward (words tags : List ℕ) (n j : ℕ) : Type 0 where
    pub to : j ≤ count_at k words
    pub same : (m : Module) → Taped words tags n m → every (λ x. scoped (fn x)) (drop j (items m)) ≡ every (λ x. scoped (fn x)) (items m)

  module _ (words tags : List ℕ) (n : ℕ) (fg : Framing k items fn cells from (λ m. d) words tags n) where
    module _ (j : ℕ) (h : j < count_at k words) where
      here : (m : Module) → A
      here m = get_or (items m) j d

      frame : (m : Module) → Taped words tags n m → Frame words tags (record_at k j words) (from (record_at k j words)) (record_end k j words) (fn (here m)) (cells (here m))
      unfolding here
      frame m tp = fg.frames m tp j (here m) (looked_at (items m) j d (omega (arith, fg.count m tp)))

      onward_stated : ((m : Module) → Taped words tags n m → every (λ x. sound (outside m) (fn x) (cells x)) (items m) ≡ true) → ((p : ℕ) → p ≤ from p) → Tape words tags n → Stated words tags (record_at k j words) (from (record_at k j words)) (record_end k j words)
      unfolding here
      onward_stated good low tape =
          let m = tape.holds in
          let tp = tape.taped in
          stated words tags (record_at k j words) (from (record_at k j words)) (record_end k j words) (fn (here m)) (cells (here m)) (outside m) (frame m tp) (low (record_at k j words)) (every-at (λ x. sound (outside m) (fn x) (cells x)) (items m) j d (good m tp) (omega (arith, fg.count m tp)))

    onward_begin : Onward words tags n 0
    onward_begin = record { to = omega arith; same = λ m tp. refl }

    module _ (j : ℕ) (inv : Onward words tags n j) where
      onward_done : count_at k words ≤ j → (m : Module) → Taped words tags n m → true ≡ every (λ x. scoped (fn x)) (items m)
      unfolding every
      onward_done h m tp =
          let q : j ≡ length (items m) = omega (arith, inv.to, fg.count m tp) in
          sym (ap (λ i. every (λ x. scoped (fn x)) (drop i (items m))) q ∙ ap (every (λ x. scoped (fn x))) (drop-length (items m))) ∙ inv.same m tp

      module _ (h : j < count_at k words) (good : (m : Module) → Taped words tags n m → every (λ x. sound (outside m) (fn x) (cells x)) (items m) ≡ true) (r : Bool) (got : Scoped r words tags (record_at k j words) (from (record_at k j words)) (record_end k j words)) where
        fine : (m : Module) → Taped words tags n m → initialised (fn (here j h m)) ≡ true
        unfolding here sound
        fine m tp =
            let s = every-at (λ x. sound (outside m) (fn x) (cells x)) (items m) j d (good m tp) (omega (arith, fg.count m tp)) in
            (and_split (ordered (cells (here j h m))) (initialised (fn (here j h m))) (and_split (within (inside (outside m) (fn (here j h m))) (cells (here j h m))) (ordered (cells (here j h m)) && initialised (fn (here j h m))) s).1).1

        turn : (m : Module) → Taped words tags n m → (r && every (λ x. scoped (fn x)) (drop (j + 1) (items m))) ≡ every (λ x. scoped (fn x)) (items m)
        unfolding every here
        turn m tp =
            rw (add-one j)
            (ap (◌&& every (λ x. scoped (fn x)) (drop (suc j) (items m))) (got.same (fn (here j h m)) (cells (here j h m)) (frame j h m tp) (fine m tp))
            ∙ sym (ap (every (λ x. scoped (fn x))) (drop-cons (items m) j d (omega (arith, fg.count m tp))))
            ∙ inv.same m tp)

        onward_over : r ≡ false → (m : Module) → Taped words tags n m → false ≡ every (λ x. scoped (fn x)) (items m)
        onward_over q m tp = ap (◌&& every (λ x. scoped (fn x)) (drop (j + 1) (items m))) (sym q) ∙ turn m tp

        onward_next : r ≡ true → Onward words tags n (j + 1)
        onward_next q = record { to = omega arith; same = λ m tp. ap (◌&& every (λ x. scoped (fn x)) (drop (j + 1) (items m))) (sym q) ∙ turn m tp }

-- ---- functions, and entry points
all-every : (fs : List Function) → every (λ x. scoped x) fs ≡ all_scoped fs
unfolding every all_scoped
all-every [] = refl
all-every (f ∷ fs) = ap (scoped f &&◌) (all-every fs)

entries_every : (es : List Entry) → every (λ x. scoped x.function) es ≡ entries_scoped es
unfolding every entries_scoped
entries_every [] = refl
entries_every (e ∷ es) = ap (scoped e.function &&◌) (entries_every es)

abbrev pub InFunctions : List ℕ → List ℕ → ℕ → ℕ → Type 0
InFunctions = Onward 6 (λ m. m.functions) (λ f. f) flat (λ p. p) no_function

abbrev pub InEntries : List ℕ → List ℕ → ℕ → ℕ → Type 0
InEntries = Onward 7 (λ m. m.entries) (λ e. e.function) flat_entry (λ p. p + 7) no_entry

abbrev pub InTable : FunctionTable → List ℕ → List ℕ → ℕ → ℕ → Type 0
InTable Functions = InFunctions
InTable Entries = InEntries

module _ (words tags : List ℕ) (n : ℕ) (nb : InRange words tags n) where
  functions_good : (m : Module) → Taped words tags n m → every (λ x. sound (outside m) x (flat x)) m.functions ≡ true
  unfolding functions_fine
  functions_good m tp = (and_split (functions_fine m) (entries_fine m) (and_split (kinds_fine m) (functions_fine m && entries_fine m) (and_split (tables_fine m) (kinds_fine m && (functions_fine m && entries_fine m)) (sym (numbered_is m) ∙ nb.holds m tp)).1).1).0

  entries_good : (m : Module) → Taped words tags n m → every (λ x. sound (outside m) x.function (flat_entry x)) m.entries ≡ true
  unfolding entries_fine
  entries_good m tp = (and_split (functions_fine m) (entries_fine m) (and_split (kinds_fine m) (functions_fine m && entries_fine m) (and_split (tables_fine m) (kinds_fine m && (functions_fine m && entries_fine m)) (sym (numbered_is m) ∙ nb.holds m tp)).1).1).1

  functions_begin : InFunctions words tags n 0
  functions_begin = onward_begin 6 _ _ _ _ _ words tags n (framing_functions words tags n)

  entries_begin : InEntries words tags n 0
  entries_begin = onward_begin 7 _ _ _ _ _ words tags n (framing_entries words tags n)

  -- ---- either of them
  pub table_begin : (s : FunctionTable) → InTable s words tags n 0
  table_begin Functions = functions_begin
  table_begin Entries = entries_begin

  module _ (i : ℕ) where
    table_done : (s : FunctionTable) → InTable s words tags n i → count_at (section_of s) words ≤ i → TestEnsures true words tags n (scoped_of s)
    table_done Functions inv h = record { same = λ m tp. onward_done 6 _ _ _ _ _ words tags n (framing_functions words tags n) i inv h m tp ∙ all-every m.functions }
    table_done Entries inv h = record { same = λ m tp. onward_done 7 _ _ _ _ _ words tags n (framing_entries words tags n) i inv h m tp ∙ entries_every m.entries }

    pub table_stated : (s : FunctionTable) → i < count_at (section_of s) words → Tape words tags n → Stated words tags (record_at (section_of s) i words) (record_at (section_of s) i words + head_of s) (record_end (section_of s) i words)
    table_stated Functions h tape = let z : record_at 6 i words + 0 ≡ record_at 6 i words = omega arith in rw z (onward_stated 6 _ _ _ _ _ words tags n (framing_functions words tags n) i h functions_good (λ p. omega arith) tape)
    table_stated Entries h tape = onward_stated 7 _ _ _ _ _ words tags n (framing_entries words tags n) i h entries_good (λ p. omega arith) tape

    module _ (r : Bool) where
      table_over : (s : FunctionTable) → InTable s words tags n i → i < count_at (section_of s) words → Scoped r words tags (record_at (section_of s) i words) (record_at (section_of s) i words + head_of s) (record_end (section_of s) i words) → r ≡ false → TestEnsures false words tags n (scoped_of s)
      table_over Functions inv h got q = let z : record_at 6 i words + 0 ≡ record_at 6 i words = omega arith in record { same = λ m tp. onward_over 6 _ _ _ _ _ words tags n (framing_functions words tags n) i inv h functions_good r (rw z at got) q m tp ∙ all-every m.functions }
      table_over Entries inv h got q = record { same = λ m tp. onward_over 7 _ _ _ _ _ words tags n (framing_entries words tags n) i inv h entries_good r got q m tp ∙ entries_every m.entries }

      table_next : (s : FunctionTable) → InTable s words tags n i → i < count_at (section_of s) words → Scoped r words tags (record_at (section_of s) i words) (record_at (section_of s) i words + head_of s) (record_end (section_of s) i words) → r ≡ true → InTable s words tags n (i + 1)
      table_next Functions inv h got q = let z : record_at 6 i words + 0 ≡ record_at 6 i words = omega arith in onward_next 6 _ _ _ _ _ words tags n (framing_functions words tags n) i inv h functions_good r (rw z at got) q
      table_next Entries inv h got q = onward_next 7 _ _ _ _ _ words tags n (framing_entries words tags n) i inv h entries_good r got q

  -- one after the other, from record j on
  pub passed_table : {S : Type 0} {post : MutBor S → ℕ → ℕ → ℕ → Bool → MutBor S → Type 0} (s : FunctionTable) {j : ℕ} {t t₁ : S} {r : Bool}
      → Passed post words s j t r t₁ → InTable s words tags n j
      → ((i : ℕ) (t t₁ : S) (r : Bool) → i < count_at (section_of s) words → Tests post words s i t r t₁ → Scoped r words tags (record_at (section_of s) i words) (record_at (section_of s) i words + head_of s) (record_end (section_of s) i words))
      → TestEnsures r words tags n (scoped_of s)
  passed_table s {j = j} (done h) inv tests = table_done j s inv h
  passed_table s {j = j} {t} {t₁} (fails h p) inv tests = table_over j false s inv h (tests j t t₁ false h p) refl
  passed_table s {j = j} {t} (next {s₁ = t₁} h p q) inv tests = passed_table s q (table_next j true s inv h (tests j t t₁ true h p) refl) tests

  module _ (a : Bool) (got : TestEnsures a words tags n functions_scoped) where
    pub image_functions : a ≡ false → TestEnsures false words tags n in_scope
    unfolding in_scope
    image_functions q = record { same = λ m tp. sym (rw (sym (got.same m tp) ∙ q)) }

    pub image_entries : a ≡ true → (r : Bool) → TestEnsures r words tags n entry_points_scoped → TestEnsures r words tags n in_scope
    unfolding in_scope
    image_entries q r more = record { same = λ m tp. sym (rw (sym (got.same m tp) ∙ q) (sym (more.same m tp))) }
