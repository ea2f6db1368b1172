-- Words of a function that need no import, and what copying a run of them leaves on the stack of words.
use Rattle.std.specs.Prelude.{◌≡◌, Bool, true, false, List, ℕ, zero, suc, ◌+◌, ◌-◌, ◌≤◌, ◌<◌, eqb, get_or}
use Rattle.model.specs.Table.{EXPR, FROM, TO, STMT_KIND}
use Rattle.model.specs.Between.{between}
use Rattle.model.specs.References.{Place, target, through, first_word, undefined_at, moved}
use Rattle.theory_passes.specs.Pass.{atomic_kind}
use Rattle.derive_state.specs.Refers.{target_of}
use Rattle.derive_state.specs.Source.{refers_to, number_of}
use Rattle.derive_state.specs.Held.{cell, put}
use Rattle.derive_state.specs.declared.Sizes.{Sizes}
use Rattle.function_builder.specs.Stacks.{went_by}
use Rattle.function_runs.specs.declared.Reach.{Reach}

-- ---- words that bring nothing: they name no function, start no Emit and no atomic statement, and what they refer to is mapped
pub record Quiet (maps : List (List ℕ)) (exprmap : List ℕ) (s w : ℕ) : Type 0 where
  pub callee : target_of (target s) ≡ 7 → ⊥
  pub emit : s ≡ FROM → ⊥
  pub atomic : s ≡ STMT_KIND → atomic_kind w ≡ false
  pub outside : s < EXPR → refers_to (target s) w < 6 → cell maps (refers_to (target s) w) (number_of (target s) w) ≡ 0 → ⊥
  pub inside : EXPR ≤ s → refers_to (target s) w ≡ 5 → get_or exprmap (number_of (target s) w) 0 ≡ 0 → ⊥

-- what such a word becomes, where so many expressions are made
unfoldable pub becomes : (Place → ℕ → ℕ) → ℕ → ℕ → ℕ → ℕ → Bool → ℕ
becomes W made o s w u = elim (eqb s TO) [ true ↦ made | false ↦ moved (target s) (through W s w) o u ]

-- whether the span last met is undefined after word i, and after d words from i on
abbrev pub flag_of : List ℕ → List ℕ → ℕ → ℕ → Bool → Bool
flag_of words tags end i u = undefined_at (target (get_or tags i 0)) (get_or words i 0) (first_word (between tags words (suc i) end)) u

unfoldable pub flagged : List ℕ → List ℕ → ℕ → ℕ → ℕ → Bool → Bool
flagged words tags end zero i u = u
flagged words tags end (suc d) i u = flagged words tags end d (suc i) (flag_of words tags end i u)

module _ (words tags : List ℕ) (W : Place → ℕ → ℕ) (made o end : ℕ) where
  -- the stacks once d words from i on are written, from p on
  unfoldable pub ran : ℕ → ℕ → ℕ → Bool → List (List ℕ) → List (List ℕ)
  ran zero i p u stacks = stacks
  ran (suc d) i p u stacks = ran d (suc i) (suc p) (flag_of words tags end i u) (put stacks 3 p (becomes W made o (get_or tags i 0) (get_or words i 0) (flag_of words tags end i u)))

-- `count` words from `at` on were written, and none of them needs an import
pub record Ran (words tags : List ℕ) (maps : List (List ℕ)) (exprmap : List ℕ) (W : Place → ℕ → ℕ) (made o at end bodytop : ℕ) (u : Bool) (stacks₀ : List (List ℕ)) (r : ℕ) (v : Bool) (stacks : List (List ℕ)) : Type 0 where
  pub count : ℕ
  pub reach : r ≡ at + count
  pub high : r ≤ end
  pub room : bodytop + count ≤ 16384
  pub quiet : (i : ℕ) → at ≤ i → i < r → Quiet maps exprmap (get_or tags i 0) (get_or words i 0)
  pub is : stacks ≡ ran words tags W made o end count at bodytop u stacks₀
  pub flag : v ≡ flagged words tags end count at u

-- what lies from where e is up to word r was copied; the sizes are z then, and v says whether the span last met is undefined
pub record Copied (words tags : List ℕ) (maps : List (List ℕ)) (exprmap : List ℕ) (o end : ℕ) (e : Reach) (stacks₀ : List (List ℕ)) (r : ℕ) (v : Bool) (z : Sizes) (stacks : List (List ℕ)) : Type 0 where
  pub ran : Ran words tags maps exprmap (went_by maps exprmap) e.sizes.made o e.at end e.sizes.bodytop e.undefined stacks₀ r v stacks
  pub sizes : z ≡ record { loglen = e.sizes.loglen; counts = e.sizes.counts; pairs = e.sizes.pairs; exprtop = e.sizes.exprtop; bodytop = e.sizes.bodytop + (r - e.at); made = e.sizes.made }

-- it was copied up to word j, which is passed as well
pub record Stopped (words tags : List ℕ) (maps : List (List ℕ)) (exprmap : List ℕ) (o end : ℕ) (e : Reach) (stacks₀ : List (List ℕ)) (j : ℕ) (r : Reach) (stacks : List (List ℕ)) : Type 0 where
  pub before : Bool
  pub copied : Copied words tags maps exprmap o end e stacks₀ j before r.sizes stacks
  pub less : j < end
  pub at : r.at ≡ j + 1
  pub flag : r.undefined ≡ flag_of words tags end j before
