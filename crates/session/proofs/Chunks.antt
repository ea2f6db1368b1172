-- The steps by fours: the words of a chunk are those of the step.
use Rattle.std.proofs.Common.{refl, sym, ap, ◌∙◌, arith, get_or-take, get_or-drop}
use Rattle.std.specs.Prelude.{◌≡◌, ℕ, zero, suc, ◌<◌, ◌+◌, ◌*◌, List, get_or, drop}
use Rattle.std.specs.Simd.{first_chunks}
use Rattle.model.specs.Session.{Session}
use Rattle.session_steps.specs.Stepped.{saying, PerformEnsures}

word_at : (steps : List ℕ) (k j : ℕ) (d : List ℕ) (i m : ℕ) → j < k → i < 4 → m ≡ 4 * j + i → get_or (get_or (first_chunks 4 k steps) j d) i 0 ≡ get_or steps m 0
word_at steps zero j d i m h l e = absurd (omega arith)
word_at steps (suc k) zero d i m h l e = get_or-take 4 steps i 0 l ∙ ap (λ (n : ℕ). get_or steps n 0) (omega arith)
word_at steps (suc k) (suc j) d i m h l e =
    word_at (drop 4 steps) k j d i (4 * j + i) (omega arith) l refl
    ∙ get_or-drop 4 steps (4 * j + i) 0
    ∙ ap (λ (n : ℕ). get_or steps n 0) (omega arith)

module _ (steps : List ℕ) (cs : List (List ℕ)) (n j : ℕ) (d : List ℕ) (e : cs ≡ first_chunks 4 n steps) (h : j < n) where
  abbrev word : ℕ → ℕ
  word i = get_or (get_or cs j d) i 0

  pub says : (sources output : List ℕ) (s : Session) (k u v : ℕ) (output' : List ℕ) (s' : Session) → PerformEnsures (saying (word 0) (word 1) (word 2) (word 3) sources output s) k u v output output' s'
      → PerformEnsures (saying (get_or steps (4 * j) 0) (get_or steps (4 * j + 1) 0) (get_or steps (4 * j + 2) 0) (get_or steps (4 * j + 3) 0) sources output s) k u v output output' s'
  says sources output s k u v output' s' d' =
      rw (← word_at steps n j d 0 (4 * j) h (omega arith) (omega arith), ← word_at steps n j d 1 (4 * j + 1) h (omega arith) refl, ← word_at steps n j d 2 (4 * j + 2) h (omega arith) refl, ← word_at steps n j d 3 (4 * j + 3) h (omega arith) refl, ← e) d'
