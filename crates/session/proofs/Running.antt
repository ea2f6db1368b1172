-- The steps in sequence: what is left from here is the whole.
use mathlib.Core.Path.{◌≡◌, refl, sym, ap, ◌∙◌, subst}
use mathlib.Core.Bool.{Bool, true, false}
use mathlib.Core.List.{List, [], ◌∷◌}
use Prim.Native.Nat.{ℕ, zero, suc, ◌+◌, ◌-◌, ◌*◌, ◌%◌, ◌≤◌, ◌<◌, min}
use native.Mathlib.Nat.{add-zero}
use native.Mathlib.Omega.{arith}
use lib.Dec.{ltb}
use lib.ListN.{length, get_or, set, take, drop, length-take, length-drop, length-set, drop_of_length-le}
use lib.Seq.{sets, set_out, slice, slice-cons, drop-cons, length-sets}
use borrow.Author.Tests.{ltb-true, ltb-false}
use Rattle.base_words.specs.Words.{bytes_of}
use Rattle.model.specs.Session.{Session, new}
use Rattle.model.specs.Steps.{Said, Operation, operations, sets-source, clears_source, maps_span, types, renames, constants, overrides, globals, expressions, functions, new_functions, handles, required, finishes, finishes_entries, unknown, perform, part, run, answers_of, output_of, first_refused, session}
use Rattle.model.specs.Image.{wuldgisp_session, SessionEnsures}
use Rattle.session_steps.specs.Stepped.{saying, PerformEnsures}
use Rattle.session.specs.Sessions.{or_else, numbered}

-- ---- the first refusal
first_there : (x y : ℕ) → 0 < x → or_else x y ≡ x
unfolding or_else
first_there zero y h = absurd (omega arith)
first_there (suc x) y h = refl

halves : (k i : ℕ) → k < 4294967296 → (k + i * 4294967296) % 18446744073709551616 ≡ k + i % 4294967296 * 4294967296
halves k i h = omega arith

next-first : (x : Said) (xs : List Said) (f i : ℕ) → x.refusal < 4294967296 → or_else (or_else f (numbered x.refusal i)) (first_refused xs (suc i) % 18446744073709551616) ≡ or_else f (first_refused (x ∷ xs) i % 18446744073709551616)
unfolding or_else numbered first_refused
next-first x xs (suc f) i h = refl
next-first x xs zero i h = go x.refusal h
  where
    go : (k : ℕ) → k < 4294967296 → or_else (numbered k i) (first_refused xs (suc i) % 18446744073709551616) ≡ elim k [ zero ↦ first_refused xs (suc i) | suc n ↦ suc n + i * 4294967296 ] % 18446744073709551616
    go zero h = refl
    go (suc k) h = first_there (suc k + i % 4294967296 * 4294967296) _ (omega arith) ∙ sym (halves (suc k) i h)

-- ---- the output is given for its length alone
part_long : (a b : ℕ) (l l' : List ℕ) → length l ≡ length l' → length (part a b l) ≡ length (part a b l')
unfolding part
part_long a b l l' e = length-take b (drop a l) ∙ ap (min b) (length-drop a l ∙ ap (λ (n : ℕ). n - a) e ∙ sym (length-drop a l')) ∙ sym (length-take b (drop a l'))

same_said : (p : Operation) (a b c : ℕ) (sources l l' : List ℕ) (s : Session) → length l ≡ length l' → perform p a b c sources l s ≡ perform p a b c sources l' s
unfolding perform
same_said sets-source a b c sources l l' s e = refl
same_said clears_source a b c sources l l' s e = refl
same_said maps_span a b c sources l l' s e = refl
same_said types a b c sources l l' s e = refl
same_said renames a b c sources l l' s e = refl
same_said constants a b c sources l l' s e = refl
same_said overrides a b c sources l l' s e = refl
same_said globals a b c sources l l' s e = refl
same_said expressions a b c sources l l' s e = refl
same_said functions a b c sources l l' s e = refl
same_said new_functions a b c sources l l' s e = refl
same_said handles a b c sources l l' s e = refl
same_said required a b c sources l l' s e = refl
same_said finishes a b c sources l l' s e = rw (part_long a b l l' e)
same_said finishes_entries a b c sources l l' s e = rw (part_long a b l l' e)
same_said unknown a b c sources l l' s e = refl

-- ---- four words are a step
run-next : (steps : List ℕ) (j : ℕ) (sources output : List ℕ) (s : Session) → 4 * j + 3 < length steps → run (drop (4 * j) steps) sources output s ≡ (let x = saying (get_or steps (4 * j) 0) (get_or steps (4 * j + 1) 0) (get_or steps (4 * j + 2) 0) (get_or steps (4 * j + 3) 0) sources output s in x ∷ run (drop (4 * suc j) steps) sources output x.session)
unfolding run
run-next steps j sources output s h = ap (λ (l : List ℕ). run l sources output s) four
  where
    at : (i k : ℕ) → i < length steps → suc i ≡ k → drop i steps ≡ get_or steps i 0 ∷ drop k steps
    at i k l e = drop-cons steps i 0 l ∙ ap (λ (n : ℕ). get_or steps i 0 ∷ drop n steps) e

    four : drop (4 * j) steps ≡ get_or steps (4 * j) 0 ∷ get_or steps (4 * j + 1) 0 ∷ get_or steps (4 * j + 2) 0 ∷ get_or steps (4 * j + 3) 0 ∷ drop (4 * suc j) steps
    four =
        at (4 * j) (4 * j + 1) (omega arith) (omega arith)
        ∙ ap (λ (l : List ℕ). get_or steps (4 * j) 0 ∷ l)
        (at (4 * j + 1) (4 * j + 2) (omega arith) (omega arith)
        ∙ ap (λ (l : List ℕ). get_or steps (4 * j + 1) 0 ∷ l)
        (at (4 * j + 2) (4 * j + 3) (omega arith) (omega arith)
        ∙ ap (λ (l : List ℕ). get_or steps (4 * j + 2) 0 ∷ l)
        (at (4 * j + 3) (4 * suc j) (omega arith) (omega arith))))

run_short : (l sources output : List ℕ) (s : Session) → length l < 4 → run l sources output s ≡ []
unfolding run
run_short [] sources output s h = refl
run_short (a ∷ []) sources output s h = refl
run_short (a ∷ b ∷ []) sources output s h = refl
run_short (a ∷ b ∷ c ∷ []) sources output s h = refl
run_short (a ∷ b ∷ c ∷ d ∷ l) sources output s h = absurd (omega arith)

-- ---- what is written as far as there is room
sets_past : (vs l : List ℕ) (i : ℕ) → length l ≤ i → sets l i vs ≡ l
sets_past [] l i h = refl
sets_past (a ∷ vs) l i h = ap (λ (k : List ℕ). sets k (suc i) vs) (set_out l i a h) ∙ sets_past vs l (suc i) (omega arith)

-- what is written past the end is not written
sets_cut : (vs l : List ℕ) (i n : ℕ) → min (length vs) (length l - i) ≤ n → sets l i (take n vs) ≡ sets l i vs
sets_cut [] l i zero h = refl
sets_cut [] l i (suc n) h = refl
sets_cut (a ∷ vs) l i zero h = sym (sets_past (a ∷ vs) l i (omega arith))
sets_cut (a ∷ vs) l i (suc n) h = sets_cut vs (set l i a) (suc i) n (omega (arith, length-set l i a))

-- what is left to write from here is the whole
pub record Telling (vs l : List ℕ) (f n : ℕ) (out : List ℕ) (j : ℕ) : Type 0 where
  pub within : j ≤ n
  pub long : length out ≡ length l
  pub same : sets out (f + j) (slice j n vs) ≡ sets l f (slice 0 n vs)

module _ (vs l : List ℕ) (f n : ℕ) where
  pub telling_begin : Telling vs l f n l 0
  telling_begin = record { within = omega arith; long = refl; same = rw (add-zero f) }

  module _ (out : List ℕ) (j : ℕ) (inv : Telling vs l f n out j) where
    pub telling_next : n ≤ length vs → j < n → Telling vs l f n (set out (f + j) (get_or vs j 0)) (j + 1)
    telling_next k h =
        let e = slice-cons j n vs 0 h k in
        let y : j + 1 ≡ suc j = omega arith in
        let z : f + (j + 1) ≡ suc (f + j) = omega arith in
        record { within = omega arith; long = length-set out (f + j) (get_or vs j 0) ∙ inv.long; same = rw (z, y) (rw e at inv.same) }

    telling_done : n ≤ j → out ≡ sets l f (take n vs)
    telling_done h = rw (drop_of_length-le (take n vs) {i = j} (omega (arith, length-take n vs))) at inv.same

    pub told : (at : ℕ) → f ≡ min at (length l) → n ≡ min (length vs) (length l - f) → n ≤ j → out ≡ sets l at vs
    told at hf hn h = telling_done h ∙ sets_cut vs l f n (omega (arith, hn)) ∙ go (ltb (length l) at) refl
      where
        go : (b : Bool) → ltb (length l) at ≡ b → sets l f vs ≡ sets l at vs
        go true e = let h = ltb-true (length l) at e in sets_past vs l f (omega (arith, hf, h)) ∙ sym (sets_past vs l at (omega (arith, h)))
        go false e = let h = ltb-false (length l) at e in let k : f ≡ at = omega (arith, hf, h) in ap (λ (i : ℕ). sets l i vs) k

words_of : (x : Said) (xs : List Said) (k u v : ℕ) → k ≡ x.refusal → u ≡ x.first → v ≡ x.second → k ∷ u ∷ v ∷ answers_of xs ≡ answers_of (x ∷ xs)
unfolding answers_of
words_of x xs k u v a b c =
    ap (λ (y : ℕ). y ∷ u ∷ v ∷ answers_of xs) a ∙ ap (λ (y : ℕ). x.refusal ∷ y ∷ v ∷ answers_of xs) b ∙ ap (λ (y : ℕ). x.refusal ∷ x.first ∷ y ∷ answers_of xs) c

-- ---- what is left from step i on is the whole
pub record Left (sources steps answers₀ output₀ : List ℕ) (i first : ℕ) (answers output : List ℕ) (s : Session) : Type 0 where
  pub long : length output ≡ length output₀
  pub answers_long : length answers ≡ length answers₀
  pub result_so : or_else first (first_refused (run (drop (4 * i) steps) sources output₀ s) i % 18446744073709551616) ≡ (session sources steps answers₀ output₀).result % 18446744073709551616
  pub answers_so : sets answers (3 * i) (answers_of (run (drop (4 * i) steps) sources output₀ s)) ≡ (session sources steps answers₀ output₀).answers
  pub output_so : output_of (run (drop (4 * i) steps) sources output₀ s) output ≡ (session sources steps answers₀ output₀).output

module _ (sources steps answers₀ output₀ : List ℕ) where
  pub left_start : (s : Session) → s ≡ new → Left sources steps answers₀ output₀ 0 0 answers₀ output₀ s
  unfolding or_else session
  left_start s e = rw (e) (record { long = refl; answers_long = refl; result_so = refl; answers_so = refl; output_so = refl })

  pub left_end : (i first : ℕ) (answers output : List ℕ) (s : Session) → length steps < 4 * i + 4 → Left sources steps answers₀ output₀ i first answers output s → SessionEnsures sources steps answers₀ output₀ first answers output
  unfolding wuldgisp_session answers_of output_of first_refused or_else
  left_end i first answers output s h L =
      let none = run_short (drop (4 * i) steps) sources output₀ s (let p = length-drop (4 * i) steps in omega arith) in
      record {
        result_is = sym (or_none first) ∙ ap (λ (xs : List Said). or_else first (first_refused xs i % 18446744073709551616)) (sym none) ∙ L.result_so;
        answers_is = ap (λ (xs : List Said). sets answers (3 * i) (answers_of xs)) (sym none) ∙ L.answers_so;
        output_is = ap (λ (xs : List Said). output_of xs output) (sym none) ∙ L.output_so;
      }
    where
      or_none : (x : ℕ) → or_else x 0 ≡ x
      or_none zero = refl
      or_none (suc x) = refl

  -- a step
  module _ (j first : ℕ) (answers output : List ℕ) (s : Session) (L : Left sources steps answers₀ output₀ j first answers output s) (h : 4 * j + 3 < length steps) where
    abbrev said : List ℕ → Said
    said l = saying (get_or steps (4 * j) 0) (get_or steps (4 * j + 1) 0) (get_or steps (4 * j + 2) 0) (get_or steps (4 * j + 3) 0) sources l s

    module _ (k u v : ℕ) (output' : List ℕ) (s' : Session) (d : PerformEnsures (said output) k u v output output' s') (low : k < 4294967296) where
      abbrev answers' : List ℕ
      answers' = sets answers (3 * j) (k ∷ u ∷ v ∷ [])

      pub left_next : (first' : ℕ) → first' ≡ or_else first (numbered k j) → Left sources steps answers₀ output₀ (suc j) first' answers' output' s'
      unfolding answers_of output_of
      left_next first' f = record {
        long = ap length d₀.output_is ∙ length-sets output (said output₀).at (bytes_of (said output₀).written) ∙ L.long;
        answers_long = length-sets answers (3 * j) (k ∷ u ∷ v ∷ []) ∙ L.answers_long;
        result_so =
            ap (λ (y : ℕ). or_else y (first_refused rest (suc j) % 18446744073709551616)) (f ∙ ap (λ (y : ℕ). or_else first (numbered y j)) d₀.refusal_is)
            ∙ next-first (said output₀) rest first j (subst (λ (y : ℕ). y < 4294967296) d₀.refusal_is low)
            ∙ ap (λ (xs : List Said). or_else first (first_refused xs j % 18446744073709551616)) (sym whole)
            ∙ L.result_so;
        answers_so =
            ap (λ (i : ℕ). sets answers' i (answers_of rest)) next
            ∙ ap (sets answers (3 * j)) (words_of (said output₀) rest k u v d₀.refusal_is d₀.first_is d₀.second_is ∙ ap answers_of (sym whole))
            ∙ L.answers_so;
        output_so = ap (output_of rest) d₀.output_is ∙ ap (λ (xs : List Said). output_of xs output) (sym whole) ∙ L.output_so;
      }
        where
          d₀ : PerformEnsures (said output₀) k u v output output' s'
          d₀ = subst (λ (x : Said). PerformEnsures x k u v output output' s') (same_said (get_or operations (get_or steps (4 * j) 0) unknown) (get_or steps (4 * j + 1) 0) (get_or steps (4 * j + 2) 0) (get_or steps (4 * j + 3) 0) sources output output₀ s L.long) d

          next : 3 * suc j ≡ suc (suc (suc (3 * j)))
          next = omega arith

          rest : List Said
          rest = run (drop (4 * suc j) steps) sources output₀ s'

          whole : run (drop (4 * j) steps) sources output₀ s ≡ said output₀ ∷ rest
          whole = run-next steps j sources output₀ s h ∙ ap (λ (y : Session). said output₀ ∷ run (drop (4 * suc j) steps) sources output₀ y) (sym d₀.session_is)
