-- A section of records: what is written is read, and what is read is well formed and is the words. The reader of one record is a parameter.
use Rattle.std.specs.Prelude.{◌≡◌, Bool, ◌&&◌, ℕ, ◌+◌, ◌-◌, ◌≤◌, drop}
use Rattle.std.proofs.Math.Path.{refl, sym, ap, ap₂}
use Rattle.std.proofs.Common.{◌∙◌, subst, length-drop, take-append-drop}
use Rattle.std.proofs.Math.Bool.{true, false}
use mathlib.Core.List.{List, [], ◌∷◌, ◌++◌, map, append-nil}
use Rattle.std.proofs.Math.Nat.{add-zero}
use native.Mathlib.Omega.{arith}
use Rattle.std.proofs.Math.Dec.{eqb, leb}
use Rattle.std.proofs.Math.ListN.{length, take, length-append, length-map}
use Rattle.std.proofs.Math.Seq.{take_at, drop_at, length-take-le}
use borrow.Author.Tests.{eqb-true, eq-eqb, leb-true, le-leb}
use Rattle.theory_lists.specs.Lists.{map-append, length_none}
use Rattle.theory_lists.specs.Booleans.{if_true, and-true, and_split}
use Rattle.model.specs.Outcome.{Cells, word, Outcome, fits, Laid, laid, bad, strange, exact, both}
use Rattle.model.specs.Tree.{flat_all}
use Rattle.model.specs.Module.{next, records, table, places, flat_table}
use Rattle.model.specs.Carry.{Each, each_none, each_next}
use Rattle.theory_image.specs.Sections.{length-places}
use Rattle.theory_image.specs.Readers.{Good, good, good_misfit, good_unknown, Took, Takes}

-- ---- extents
pub data Fine {A : Type 0} (P : A → Type 0) : Laid A → Type 0 where
  fine : {a : A} → P a → Fine P (laid a)
  fine_bad : Fine P bad
  fine_strange : Fine P strange

pub fine-both : {A B C : Type 0} {P : A → Type 0} {Q : B → Type 0} {R : C → Type 0} (f : A → B → C) {x : Laid A} {y : Laid B} → Fine P x → Fine Q y → ((a : A) (b : B) → P a → Q b → R (f a b)) → Fine R (both f x y)
unfolding both
fine-both f (fine {a} p) (fine {a = b} q) h = fine (h a b p q)
fine-both f (fine p) fine_bad h = fine_bad
fine-both f (fine p) fine_strange h = fine_strange
fine-both f fine_bad q h = fine_bad
fine-both f fine_strange (fine q) h = fine_strange
fine-both f fine_strange fine_bad h = fine_bad
fine-both f fine_strange fine_strange h = fine_strange

pub fine-exact : {A : Type 0} {P : A → List ℕ → Type 0} {o : Outcome A} → Good P o → Fine (λ a. P a []) (exact o)
unfolding exact
fine-exact (good {ws = []} p) = fine p
fine-exact (good {ws = w ∷ ws} p) = fine_bad
fine-exact good_misfit = fine_bad
fine-exact good_unknown = fine_strange

pub laid_of : {A : Type 0} {P : A → Type 0} {l : Laid A} {a : A} → Fine P l → l ≡ laid a → P a
laid_of {P} {a} f e = inside (subst (Fine P) e f)
  where
    inside : Fine P (laid a) → P a
    inside (fine p) = p

-- ---- written, and read
-- a record is read from exactly its own words
pub record Fills {A : Type 0} (p : List ℕ → Outcome A) (flatly : A → Cells) (a : A) : Type 0 where
  pub fills : p (map word (flatly a)) ≡ fits a []

module _ {A : Type 0} (p : List ℕ → Outcome A) (flatly : A → Cells) where
  next_place : (l : List A) (at stop : ℕ) → stop ≡ at + length (flat_all (map flatly l)) → next (map word (places at (map flatly l))) stop ≡ at
  unfolding next places flat_all
  next_place [] at stop e = e ∙ add-zero at
  next_place (a ∷ l) at stop e = refl

  step : (os ws : List ℕ) (at stop to : ℕ) (a : A) (l : List A) → next os stop ≡ to → at ≤ to → to ≤ stop
      → p (take (to - at) ws) ≡ fits a [] → records p stop to os (drop (to - at) ws) ≡ laid l → records p stop at (at ∷ os) ws ≡ laid (a ∷ l)
  unfolding records both exact
  step os ws at stop to a l n i j e f =
      if_true (eqb at at && (leb at (next os stop) && leb (next os stop) stop)) (both ◌∷◌ (exact (p (take (next os stop - at) ws))) (records p stop (next os stop) os (drop (next os stop - at) ws))) bad
      (rw n (and-true (eq-eqb at at refl) (and-true (le-leb at to i) (le-leb to stop j))))
      ∙ rw (n, e, f)

  write-records : {l : List A} → Each (Fills p flatly) l → (at stop : ℕ) → stop ≡ at + length (flat_all (map flatly l))
      → records p stop at (map word (places at (map flatly l))) (map word (flat_all (map flatly l))) ≡ laid l
  unfolding records places flat_all
  write-records each_none at stop e = if_true (eqb at stop) (laid []) bad (eq-eqb at stop (omega arith))
  write-records (each_next {a} {l} f fs) at stop e =
      let s : length (flat_all (map flatly (a ∷ l))) ≡ length (flatly a) + length (flat_all (map flatly l)) = length-append (flatly a) (flat_all (map flatly l)) in
      let q : stop ≡ at + length (flatly a) + length (flat_all (map flatly l)) = omega arith in
      let w : length (map word (flatly a)) ≡ at + length (flatly a) - at = length-map (flatly a) word ∙ omega arith in
      rw (map-append word (flatly a) (flat_all (map flatly l)))
      (step (map word (places (at + length (flatly a)) (map flatly l))) (map word (flatly a) ++ map word (flat_all (map flatly l))) at stop (at + length (flatly a)) a l (next_place l (at + length (flatly a)) stop q) (omega arith) (omega arith)
      (ap p (take_at (map word (flatly a)) (map word (flat_all (map flatly l))) (at + length (flatly a) - at) w) ∙ f.fills)
      (ap (records p stop (at + length (flatly a)) (map word (places (at + length (flatly a)) (map flatly l)))) (drop_at (map word (flatly a)) (map word (flat_all (map flatly l))) (at + length (flatly a) - at) w) ∙ write-records fs (at + length (flatly a)) stop q))

  -- a section of n offsets and what follows them
  table_of : (os ws : List ℕ) (n : ℕ) (x : Laid (List A)) → length os ≡ n → records p (n + length ws) n os ws ≡ x → table p n (os ++ ws) ≡ x
  unfolding table
  table_of os ws n x m e =
      let s : length (os ++ ws) ≡ n + length ws = length-append os ws ∙ ap (◌+ length ws) m in
      if_true (leb n (length (os ++ ws))) (records p (length (os ++ ws)) n (take n (os ++ ws)) (drop n (os ++ ws))) bad (le-leb n (length (os ++ ws)) (omega arith)) ∙ rw (s, take_at os ws n m, drop_at os ws n m) e

  -- LAW, of a section: what is written is read
  pub write-table : {l : List A} → Each (Fills p flatly) l → table p (length l) (map word (flat_table (map flatly l))) ≡ laid l
  unfolding flat_table
  write-table {l} fs =
      let rs = map flatly l in
      let n : length rs ≡ length l = length-map l flatly in
      rw (n, map-append word (places (length l) rs) (flat_all rs))
      (table_of (map word (places (length l) rs)) (map word (flat_all rs)) (length l) (laid l) (length-map (places (length l) rs) word ∙ length-places rs (length l) ∙ n)
      (write-records fs (length l) (length l + length (map word (flat_all rs))) (ap (length l +◌) (length-map (flat_all rs) word))))

-- ---- read, and written

-- offsets and words of records of which the first starts at `at`
record Held {A : Type 0} (ok : A → Type 0) (flatly : A → Cells) (at : ℕ) (os ws : List ℕ) (l : List A) : Type 0 where
  each : Each ok l
  offsets : os ≡ map word (places at (map flatly l))
  content : ws ≡ map word (flat_all (map flatly l))

-- a section of n records
pub record TableTook {A : Type 0} (ok : A → Type 0) (flatly : A → Cells) (n : ℕ) (ws : List ℕ) (l : List A) : Type 0 where
  pub many : length l ≡ n
  pub each : Each ok l
  pub words : ws ≡ map word (flat_table (map flatly l))

module _ {A : Type 0} {ok : A → Type 0} {flatly : A → Cells} {p : List ℕ → Outcome A} (takes : Takes ok flatly p) where
  -- one more record in front
  held_next : (os ws : List ℕ) (o at to : ℕ) (a : A) (l : List A) → o ≡ at → at ≤ to → to - at ≤ length ws → Took ok flatly (take (to - at) ws) a [] → Held ok flatly to os (drop (to - at) ws) l → Held ok flatly at (o ∷ os) ws (a ∷ l)
  unfolding places flat_all
  held_next os ws o at to a l q i j t h =
      let w : take (to - at) ws ≡ map word (flatly a) = t.words ∙ append-nil (map word (flatly a)) in
      let n : to ≡ at + length (flatly a) = omega (arith, sym (length-take-le (to - at) ws j) ∙ ap length w ∙ length-map (flatly a) word) in
      record {
        each = each_next t.fine h.each;
        offsets = ap₂ ◌∷◌ q (h.offsets ∙ ap (λ x. map word (places x (map flatly l))) n);
        content = sym (take-append-drop (to - at) ws) ∙ ap₂ ◌++◌ w h.content ∙ sym (map-append word (flatly a) (flat_all (map flatly l)));
      }

  records_took : (os ws : List ℕ) (at stop : ℕ) → at + length ws ≡ stop → Fine (Held ok flatly at os ws) (records p stop at os ws)
  unfolding records places flat_all
  records_took [] ws at stop e = go (eqb at stop) refl
    where
      go : (b : Bool) → eqb at stop ≡ b → Fine (Held ok flatly at [] ws) (elim b [ true ↦ laid [] | false ↦ bad ])
      go true q = let n : length ws ≡ 0 = omega (arith, eqb-true at stop q) in fine (record { each = each_none; offsets = refl; content = length_none ws n })
      go false q = fine_bad
  records_took (o ∷ os) ws at stop e = go (eqb o at && (leb at (next os stop) && leb (next os stop) stop)) refl (λ vs i f. records_took os vs i stop f)
    where
      go : (b : Bool) → eqb o at && (leb at (next os stop) && leb (next os stop) stop) ≡ b → ((vs : List ℕ) (i : ℕ) → i + length vs ≡ stop → Fine (Held ok flatly i os vs) (records p stop i os vs))
          → Fine (Held ok flatly at (o ∷ os) ws) (elim b [ true ↦ both ◌∷◌ (exact (p (take (next os stop - at) ws))) (records p stop (next os stop) os (drop (next os stop - at) ws)) | false ↦ bad ])
      go true q ih =
          let x = and_split (eqb o at) (leb at (next os stop) && leb (next os stop) stop) q in
          let y = and_split (leb at (next os stop)) (leb (next os stop) stop) x.1 in
          let i : at ≤ next os stop = leb-true at (next os stop) y.0 in
          let j : next os stop ≤ stop = leb-true (next os stop) stop y.1 in
          let n : next os stop + length (drop (next os stop - at) ws) ≡ stop = rw (length-drop (next os stop - at) ws) (omega arith) in
          fine-both ◌∷◌ (fine-exact (takes (take (next os stop - at) ws))) (ih (drop (next os stop - at) ws) (next os stop) n) λ a l t h. held_next os ws o at (next os stop) a l (eqb-true o at x.0) i (omega arith) t h
      go false q ih = fine_bad

  -- LAW, of a section: what is read is well formed and is the words
  pub table_took : (n : ℕ) (ws : List ℕ) → Fine (TableTook ok flatly n ws) (table p n ws)
  unfolding table flat_table
  table_took n ws = go (leb n (length ws)) refl
    where
      put : n ≤ length ws → {x : Laid (List A)} → Fine (Held ok flatly n (take n ws) (drop n ws)) x → Fine (TableTook ok flatly n ws) x
      put h (fine {a = l} t) =
          let m : length (map flatly l) ≡ n = sym (length-places (map flatly l) n) ∙ sym (length-map (places n (map flatly l)) word) ∙ sym (ap length t.offsets) ∙ length-take-le n ws h in
          fine (record {
            many = sym (length-map l flatly) ∙ m;
            each = t.each;
            words = sym (take-append-drop n ws) ∙ ap₂ ◌++◌ t.offsets t.content ∙ sym (map-append word (places n (map flatly l)) (flat_all (map flatly l))) ∙ ap (λ x. map word (places x (map flatly l) ++ flat_all (map flatly l))) (sym m);
          })
      put h fine_bad = fine_bad
      put h fine_strange = fine_strange

      go : (b : Bool) → leb n (length ws) ≡ b → Fine (TableTook ok flatly n ws) (elim b [ true ↦ records p (length ws) n (take n ws) (drop n ws) | false ↦ bad ])
      go true e = let h = leb-true n (length ws) e in put h (records_took (take n ws) (drop n ws) n (length ws) (rw (length-drop n ws) (omega arith)))
      go false e = fine_bad
