-- A function record: where its expressions start, what its initialisers reach and where its body starts are what the pass over the body requires, and what it answers is the model's test.
use mathlib.Core.Path.{◌≡◌, refl, sym, ap, ◌∙◌, subst, fun_ext}
use mathlib.Core.Bool.{Bool, true, false, ◌&&◌, not}
use mathlib.Core.List.{List, [], ◌∷◌}
use Prim.Native.Nat.{ℕ, zero, suc, ◌+◌, ◌*◌, ◌≤◌, ◌<◌}
use native.Mathlib.Numerals.{add-one}
use native.Mathlib.Omega.{arith}
use lib.ListN.{length, get_or, drop}
use lib.Seq.{slice, sets, ext_get_or}
use borrow.Author.Tests.{not-true}
use Rattle.theory_lists.specs.Booleans.{and_split, bool_same}
use Rattle.model.specs.Outcome.{Cells, class, word}
use Rattle.model.specs.Table.{counted, expression_row}
use Rattle.model.specs.Tree.{Function, flat_all, flat_block}
use Rattle.model.specs.Operands.{standing}
use Rattle.model.specs.FunctionView.{returns_at, locals_at, expressions_at}
use Rattle.model.specs.Initial.{Marks, marked, moving, initials, initial, reached_marks, initialised}
use Rattle.theory_image.specs.Reached.{initial_is, initial-all}
use Rattle.model.specs.Scope.{in_body, all_of, seen, scoped}
use Rattle.theory_image.specs.Sections.{start_of, start_end}
use Rattle.theory_image.specs.FunctionViews.{Held, Part, part_end, part_right, part-word, part_tag, named_at, body_at, expression_first, expr_part, expr_shape, named_count, parts, stands-end}
use Rattle.theory_image.specs.Members.{each_at}
use Rattle.intake_initialisers.specs.Lists.{Lists, Listed}
use Rattle.intake_numbers.specs.Passes.{Framed}
use Rattle.intake_initialisers.specs.Marks.{finds, on, inits, Unvisited, Visits, Work, Starting, Reaching, Reaches}
use Rattle.intake_initialisers.specs.declared.visited.Visited.{Visited}
use Rattle.intake_initialisers.proofs.Reaching.{init_locals, init_exprs, init-after, init-end, all, starting, begun, many_is, many_few, end_in}
use Rattle.intake_numbers.proofs.Framing.{lists_are}
use Rattle.intake_statements.specs.Fine.{fine_b}
use Rattle.intake_statements.specs.Tape.{cells_from, cells_in, block_of, HoldsB, Ends, record_of, table_from, exprs_of, Placed, Exprs, marks}
use Rattle.intake_blocks.specs.Found.{BlockHere}
use Rattle.intake_scope.specs.Functions.{Known, Tested, Stated, Scoped}
use Rattle.intake_statements.proofs.Restated.{restated}
use Rattle.intake_statements.proofs.Scopes.{absurd_bool, expr_in}
use Rattle.intake_blocks.proofs.Trees.{Runs, between_runs, block_is, block_held, ends_in}

-- a part of the cells, as the pass sees it
pub part_runs : {ws ts : List ℕ} {cells : Cells} (o : Held ws ts cells) (cs : Cells) {p q : ℕ} → Part cells p q cs → Runs ws ts p cs
unfolding cells_from
part_runs o [] v = refl
part_runs {ws} {ts} o (c ∷ cs) {p} {q} v =
    let z : p + 0 ≡ p = omega arith in
    let a : get_or ts p 0 ≡ class c = rw z at (part_tag o v 0 (omega arith)) in
    let b : get_or ws p 0 ≡ word c = rw z at (part-word o v 0 (omega arith)) in
    let r = part_runs o cs (part_right (c ∷ []) cs v) in
    let y : Runs ws ts (suc p) cs = rw (add-one p) at r in
    let h : (get_or ts p 0, get_or ws p 0) ≡ c = ap (λ x. (x, get_or ws p 0)) a ∙ ap (λ x. (class c, x)) b in
    ap ((get_or ts p 0, get_or ws p 0) ∷◌) y ∙ ap (◌∷ cs) h

part_cells : {ws ts : List ℕ} {cells : Cells} (o : Held ws ts cells) {cs : Cells} {p q : ℕ} → Part cells p q cs → cells_in ws ts p q ≡ cs
part_cells {ws} {ts} o {cs} {p} {q} v = between_runs ws ts p q cs (part_runs o cs v) (sym (part_end v))

-- a mark is one of an expression
marked_in : (m : Marks) (xs : List Cells) (e : ℕ) → marked (moving m xs) e ≡ true → e < length xs
unfolding marked moving
marked_in [] xs e h = absurd_bool h refl
marked_in (b ∷ m) [] e h = absurd_bool h refl
marked_in (b ∷ m) (x ∷ xs) zero h = omega arith
marked_in (b ∷ m) (x ∷ xs) (suc e) h = omega (arith, marked_in m xs e h)

length-table : (n : ℕ) (ws ts st : List ℕ) (e : ℕ) → length (table_from n ws ts st e) ≡ n
unfolding table_from
length-table zero ws ts st e = refl
length-table (suc n) ws ts st e = ap suc (length-table n ws ts st (suc e))

-- ---- a function whose expressions start at the words st
module _ {ws ts : List ℕ} {locals exprs end e : ℕ} {st : List ℕ} (f : Function) (ls : Lists ws ts locals exprs end f) (e-is : e ≡ get_or ws exprs 0) (sg : Starting f e (exprs + 1) st) where
  many : e ≡ length f.exprs
  many = many_is ls e e-is

  piece : (x : ℕ) → x < e → Part ls.cells (get_or st x 0) (get_or st (suc x) 0) (get_or f.exprs x [])
  piece x h = rw (sg.each x (omega arith), sg.each (suc x) h, ls.exprs_at) (expr_part ls.own x (omega (arith, many)))

  piece_is : (x : ℕ) → x < e → record_of ws ts st x ≡ get_or f.exprs x []
  unfolding record_of
  piece_is x h = part_cells ls.own.held (piece x h)

  placed : Placed st e
  placed = record {
    few = many_few ls e e-is;
    rising = λ x h. omega (arith, part_end (piece x h), expression_first (expr_shape ls.own x (omega (arith, many))));
    within = λ x h. omega (arith, (piece x h).within, ls.small);
  }

  pub exprs_here : Exprs ws ts st e
  unfolding counted expression_row
  exprs_here = record { placed = placed; lays = λ x h. rw (piece_is x h) (each_at ls.own.well.exprs_ok.each x [] (omega (arith, many))) }

  exprs_are : exprs_of ws ts st e ≡ f.exprs
  exprs_are = ext_get_or [] (exprs_of ws ts st e) f.exprs (length-table e ws ts st 0 ∙ many) (λ x h. let i : x < e = omega (arith, length-table e ws ts st 0) in expr_in ws ts st e x i ∙ piece_is x i)

  -- the body
  named-at : get_or st e 0 ≡ named_at ls.start ws f
  named-at = sg.each e (omega arith) ∙ ap (start_of (exprs + 1) f.exprs) many ∙ start_end f.exprs (exprs + 1) ∙ ap (λ x. x + 1 + length (flat_all f.exprs)) ls.exprs_at

  module _ (named : ℕ) (named_is : named ≡ get_or st e 0) where
    pub named_in : named < 16384
    named_in = omega (arith, named_is, named-at, stands-end ls.own, end_in ls)

    module _ (k : ℕ) (k_is : k ≡ get_or ws named 0) where
      body-at : named + 1 + 2 * k ≡ body_at ls.start ws f
      body-at =
          let a : named ≡ named_at ls.start ws f = named_is ∙ named-at in
          let b : k ≡ length f.named = k_is ∙ ap (λ i. get_or ws i 0) a ∙ named_count ls.own in
          ap (λ x. x + 1 + 2 * k) a ∙ ap (λ x. named_at ls.start ws f + 1 + 2 * x) b

      body-held : HoldsB ws ts (named + 1 + 2 * k) end f.body
      body-held =
          let v : Part ls.cells (named + 1 + 2 * k) end (flat_block f.body) = rw body-at (parts ls.own).body-part in
          record { cells = part_cells ls.own.held v; long = sym (part_end v); within = end_in ls; ok = ls.own.well.body_ok }

      body-after : exprs < named + 1 + 2 * k
      body-after = omega (arith, named_is, named-at, ls.exprs_at)

      pub body-here : Ends ws ts (length f.exprs) exprs end → BlockHere ws ts st e (named + 1 + 2 * k) end end
      body-here en = record {
        exprs = exprs_here;
        holds = block_held ws ts (named + 1 + 2 * k) end f.body body-held;
        ends = record { low = λ i p q t. omega (arith, many, en.low i (omega (arith, body-after)) q t) };
        later = omega (arith, body-after);
        keeps = omega arith;
      }

      -- ---- the answer is the model's
      module _ (v : Visited) (w : Work f v) (z : v.top ≡ 0) where
        marks_are : (y : ℕ) → marks ws ts st e v.marks y ≡ marked (initials f) y
        unfolding marks initial initials on
        marks_are y = rw exprs_are (bool_same (get_or v.marks y false && not (standing f.exprs y)) (marked (initials f) y) forth back)
          where
            forth : (get_or v.marks y false && not (standing f.exprs y)) ≡ true → marked (initials f) y ≡ true
            forth h =
                let p = and_split (get_or v.marks y false) (not (standing f.exprs y)) h in
                let q = w.only y p.0 in
                initial-all f y (omega (arith, q.0, w.many)) q.1 (not-true (standing f.exprs y) p.1)

            back : marked (initials f) y ≡ true → (get_or v.marks y false && not (standing f.exprs y)) ≡ true
            back h =
                let i : y < length f.exprs = marked_in (reached_marks f) f.exprs y h in
                let p = initial_is f y h in
                let q : get_or v.marks y false ≡ true = all f v w z p.0 (omega (arith, w.many)) in
                rw (q, p.1)

        pub scoped_is : (r : Bool) → r ≡ fine_b (exprs_of ws ts st e) (marks ws ts st e v.marks) (block_of ws ts (named + 1 + 2 * k) end) in_body [] [] → r ≡ scoped f
        unfolding scoped all_of seen
        scoped_is r h =
            h
            ∙ ap (λ x. fine_b x (marks ws ts st e v.marks) (block_of ws ts (named + 1 + 2 * k) end) in_body [] []) exprs_are
            ∙ ap (λ x. fine_b f.exprs x (block_of ws ts (named + 1 + 2 * k) end) in_body [] []) (fun_ext marks_are)
            ∙ ap (λ x. fine_b f.exprs (marked (initials f)) x in_body [] []) (block_is ws ts (named + 1 + 2 * k) end f.body body-held)
            ∙ sym (restated f.exprs (marked (initials f)) f.body)

-- ---- from the lists on
module _ (words tags : List ℕ) (locals exprs end : ℕ) (pre : Known words tags locals exprs end) where
  pub known-listed : Listed words tags locals exprs end
  known-listed = record { function = pre.function; lists = pre.lists }

  pub known_low : (locals < 16384) × (exprs < 16384)
  known_low = (init_locals words tags locals exprs end known-listed, init_exprs words tags locals exprs end known-listed)

  pub known_ends : (exprs + 1 ≤ end) × (end ≤ 16384)
  known_ends = (init-after words tags locals exprs end known-listed, init-end words tags locals exprs end known-listed)

  module _ (count e : ℕ) (count_is : count ≡ get_or words locals 0) (e-is : e ≡ get_or words exprs 0) where
    pub known_few : e ≤ 1024
    known_few = many_few pre.lists e e-is

    module _ (st₀ : List ℕ) (starts_long : length st₀ ≡ 1025) (st : List ℕ) (st_is : st ≡ sets st₀ 0 (finds (exprs + 1) (slice (exprs + 1) end tags))) where
      starts : (f : Function) → Lists words tags locals exprs end f → Starting f e (exprs + 1) st
      starts f ls = starting ls e e-is st₀ st starts_long st_is

      pub known-laid : Exprs words tags st e
      known-laid = exprs_here pre.function pre.lists e-is (starts pre.function pre.lists)

      pub known-named : (named : ℕ) → (named ≡ get_or st e 0) → named < 16384
      known-named named is = named_in pre.function pre.lists e-is (starts pre.function pre.lists) named is

      module _ {l₀ : List ℕ} (v₀ : Visited) (n : Unvisited e l₀ v₀) (v : Visited) (a : Visits (inits count (drop (locals + 1) words)) v₀ v) where
        starts_of : (f : Function) → Lists words tags locals exprs end f → Starting f v.count (exprs + 1) st
        starts_of f ls = subst (λ k. Starting f k (exprs + 1) st) (sym (a.count_same ∙ n.count_is)) (starts f ls)

        work : (f : Function) → Lists words tags locals exprs end f → Work f v
        work f ls = begun ls e e-is count count_is v₀ n v a

        pub known_reach : Reaching words tags st v
        known_reach = record {
          function = pre.function;
          locals = locals;
          exprs = exprs;
          end = end;
          lists = pre.lists;
          starting = starts_of pre.function pre.lists;
          work = work pre.function pre.lists;
        }

        module _ (named : ℕ) (named_is : named ≡ get_or st e 0) (k : ℕ) (k_is : k ≡ get_or words named 0) where
          pub known-body : BlockHere words tags st e (named + 1 + 2 * k) end end
          known-body = body-here pre.function pre.lists e-is (starts pre.function pre.lists) named named_is k k_is pre.ends

          module _ (q : Bool) (v₁ : Visited) (got : Reaches q words tags st v v₁) where
            left : (f : Function) → Lists words tags locals exprs end f → initialised f ≡ true → Work f v₁ × (v₁.top ≡ 0)
            left f ls i = got.left (got.same f locals exprs end ls (starts_of f ls) (work f ls) ∙ i) f locals exprs end ls (starts_of f ls) (work f ls)

            pub known-scoped : (r : Bool) → r ≡ fine_b (exprs_of words tags st e) (marks words tags st e v₁.marks) (block_of words tags (named + 1 + 2 * k) end) in_body [] [] → Tested r words tags locals exprs end
            known-scoped r is = record { same = λ f ls i. scoped_is f ls e-is (starts f ls) named named_is k k_is v₁ (left f ls i).0 (left f ls i).1 r is }

-- ---- from the record's start on
module _ (words tags : List ℕ) (at from end : ℕ) (pre : Stated words tags at from end) where
  pub stated_framed : Framed words tags at from end
  stated_framed = record { function = pre.function; record_cells = pre.cells; frame = pre.frame }

  module _ (locals exprs : ℕ) (locals_is : locals ≡ locals_at from words) (exprs-is : exprs ≡ expressions_at from words) where
    pub stated-known : Known words tags locals exprs end
    unfolding expressions_at locals_at returns_at
    stated-known = record {
      function = pre.function;
      lists = lists_are pre.frame locals exprs locals_is exprs-is;
      inits = pre.inits;
      ends = ends_in words tags exprs end pre.ends (omega arith) (omega arith);
    }

    pub stated-scoped : (q : Bool) → Tested q words tags locals exprs end → Scoped q words tags at from end
    stated-scoped q got = record { same = λ f cs fr i. got.same f (lists_are fr locals exprs locals_is exprs-is) i }
