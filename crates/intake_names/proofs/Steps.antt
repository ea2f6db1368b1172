-- The steps of the passes: one lemma for each return, each turn of a loop and each call.
use mathlib.Core.Path.{◌≡◌, refl, sym, ap, ◌∙◌}
use mathlib.Core.Bool.{Bool, true, false, ◌&&◌, not}
use mathlib.Core.List.{List, ◌∷◌}
use Prim.Native.Nat.{ℕ, zero, suc, ◌+◌, ◌≤◌, ◌<◌}
use native.Mathlib.Numerals.{add-one}
use lib.Dec.{eqb}
use lib.ListN.{length, get_or, set, length-set, length-replicate}
use borrow.Author.Tests.{eq-eqb, ne_eqb}
use Rattle.std.specs.List.{list_all, range_with_len}
use Rattle.model.specs.Table.{NAMED-EXPR, NAMED}
use Rattle.model.specs.Between.{between, Stretch}
use Rattle.model.specs.Carry.{Each, each_next}
use Rattle.model.specs.Names.{present}
use Rattle.theory_image.specs.Betweens.{between_none, between_next}
use Rattle.intake_distinct.specs.Listed.{listing}
use Rattle.intake_names.specs.Passes.{unnamed, NONE, marking, Small}

-- ---- names that are there
pub present_is : (at : ℕ → ℕ) (n from : ℕ) → list_all (λ j. not (eqb (at j) 0)) (range_with_len from n) ≡ present (listing at n from)
unfolding present listing
present_is at zero from = refl
present_is at (suc n) from = ap (not (eqb (at from) 0) &&◌) (rw (← add-one from) (present_is at n (from + 1)))

-- ---- named expressions
each_first : {A : Type 0} {P : A → Type 0} {x : A} {xs : List A} → Each P (x ∷ xs) → P x
each_first (each_next p ps) = p

each_rest : {A : Type 0} {P : A → Type 0} {x : A} {xs : List A} → Each P (x ∷ xs) → Each P xs
each_rest (each_next p ps) = ps

-- what is left from word i on, with the class before and the marks, is the whole
pub record Marked (words tags : List ℕ) (end : ℕ) (whole : Bool) (marks : List Bool) (b i : ℕ) : Type 0 where
  pub within : i ≤ end
  pub long : length marks ≡ 1024
  pub few : Each Small (between tags words i end)
  pub same : marking (between tags words i end) b marks ≡ whole

module _ (words tags : List ℕ) (at end : ℕ) (st : Stretch words tags at end) where
  pub marked_all : Each Small (between tags words at end) → Marked words tags end (marking (between tags words at end) 0 NONE) NONE 0 at
  marked_all f = record { within = st.rising; long = length-replicate 1024 false; few = f; same = refl }

  module _ (whole : Bool) (marks : List Bool) (b i : ℕ) (l : Marked words tags end whole marks b i) where
    pub marked-none : end ≤ i → true ≡ whole
    unfolding marking
    marked-none h = rw (between_none tags words i end h) at l.same

    module _ (h : i < end) where
      here : between tags words i end ≡ (get_or tags i 0, get_or words i 0) ∷ between tags words (suc i) end
      here = between_next tags words i end h st.in_tags st.in_words

      first : Each Small ((get_or tags i 0, get_or words i 0) ∷ between tags words (suc i) end)
      first = rw here at l.few

      opened-cell : not (unnamed b (get_or tags i 0) (get_or words i 0)) && elim (eqb (get_or tags i 0) NAMED) [ true ↦ marking (between tags words (suc i) end) (get_or tags i 0) NONE | false ↦ elim (eqb (get_or tags i 0) NAMED-EXPR) [ true ↦ not (get_or marks (get_or words i 0) false) && marking (between tags words (suc i) end) (get_or tags i 0) (set marks (get_or words i 0) true) | false ↦ marking (between tags words (suc i) end) (get_or tags i 0) marks ] ] ≡ whole
      unfolding marking
      opened-cell = rw here at l.same

      pub unnamed_fails : (u : Bool) → u ≡ unnamed b (get_or tags i 0) (get_or words i 0) → u ≡ true → false ≡ whole
      unnamed_fails u is t = rw (sym is ∙ t) at opened-cell

      module _ (u : Bool) (is : u ≡ unnamed b (get_or tags i 0) (get_or words i 0)) (ok : u ≡ false) where
        passed : elim (eqb (get_or tags i 0) NAMED) [ true ↦ marking (between tags words (suc i) end) (get_or tags i 0) NONE | false ↦ elim (eqb (get_or tags i 0) NAMED-EXPR) [ true ↦ not (get_or marks (get_or words i 0) false) && marking (between tags words (suc i) end) (get_or tags i 0) (set marks (get_or words i 0) true) | false ↦ marking (between tags words (suc i) end) (get_or tags i 0) marks ] ] ≡ whole
        passed = rw (sym is ∙ ok) at opened-cell

        -- the cells after this one, with other marks
        on : (ms : List Bool) → length ms ≡ 1024 → marking (between tags words (suc i) end) (get_or tags i 0) ms ≡ whole → Marked words tags end whole ms (get_or tags i 0) (i + 1)
        on ms n e = rw (add-one i) (record { within = h; long = n; few = each_rest first; same = e })

        pub list_next : (get_or tags i 0) ≡ NAMED → Marked words tags end whole NONE (get_or tags i 0) (i + 1)
        list_next e = on NONE (length-replicate 1024 false) (rw (eq-eqb (get_or tags i 0) NAMED e) at passed)

        module _ (d : (get_or tags i 0) ≡ NAMED → ⊥) where
          unlisted : elim (eqb (get_or tags i 0) NAMED-EXPR) [ true ↦ not (get_or marks (get_or words i 0) false) && marking (between tags words (suc i) end) (get_or tags i 0) (set marks (get_or words i 0) true) | false ↦ marking (between tags words (suc i) end) (get_or tags i 0) marks ] ≡ whole
          unlisted = rw (ne_eqb (get_or tags i 0) NAMED d) at passed

          pub other-next : ((get_or tags i 0) ≡ NAMED-EXPR → ⊥) → Marked words tags end whole marks (get_or tags i 0) (i + 1)
          other-next e = on marks l.long (rw (ne_eqb (get_or tags i 0) NAMED-EXPR e) at unlisted)

          module _ (x : (get_or tags i 0) ≡ NAMED-EXPR) (e : ℕ) (number : e ≡ (get_or words i 0)) where
            pub in_marks : e < 1024
            in_marks = rw number ((each_first first).small x)

            expr_left : not (get_or marks e false) && marking (between tags words (suc i) end) (get_or tags i 0) (set marks e true) ≡ whole
            expr_left = rw number (rw (eq-eqb (get_or tags i 0) NAMED-EXPR x) at unlisted)

            pub twice : get_or marks e false ≡ true → false ≡ whole
            twice q = rw q at expr_left

            pub mark-next : get_or marks e false ≡ false → Marked words tags end whole (set marks e true) (get_or tags i 0) (i + 1)
            mark-next q = on (set marks e true) (length-set marks e true ∙ l.long) (rw q at expr_left)
