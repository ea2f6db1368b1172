-- What the pass does to words, in terms of the module that words and tags hold.
use Rattle.std.specs.Prelude.{◌≡◌, Bool, true, false, List, ℕ, drop, set}
use Rattle.model.specs.Tree.{Function}
use Rattle.model.specs.Module.{Module}
use Rattle.model.specs.Taped.{Taped}
use Rattle.model.specs.Redirect.{name_word, redirecting, redirect_fn, stays, redirect_fns, with_functions, redirect, function}
use Rattle.redirect_calls.specs.declared.Redirection.{Redirection}

-- words that held m hold f m, with the same tags, and the words after them stay
pub record RedirectAllEnsures (words₁ words tags : List ℕ) (n : ℕ) (f : Module → Module) : Type 0 where
  pub holds : (m : Module) → Taped words tags n m → Taped words₁ tags n (f m)
  pub rest : drop n words₁ ≡ drop n words

-- what a word of a class becomes
abbrev pub redirecting_by : Redirection → ℕ → ℕ → ℕ
redirecting_by r = redirecting r.original.0 r.replacement.0

-- whether function j, whose name is w, stays as it is
abbrev pub stays_by : Redirection → ℕ → ℕ → Bool
stays_by r = stays r.replacement.0 r.omit.now

-- function j, redirected or as it is
unfoldable pub turned : ℕ → ℕ → List ℕ → ℕ → Function → Function
turned a b omit j f = elim (stays b omit j (name_word f)) [ true ↦ f | false ↦ redirect_fn a b f ]

-- the same, of a redirecting
abbrev pub turned_by : Redirection → ℕ → Function → Function
turned_by r = turned r.original.0 r.replacement.0 r.omit.now

-- a module with function j redirected
unfoldable pub turn_one : ℕ → Redirection → Module → Module
turn_one j r m = with_functions m (set m.functions j (turned_by r j (function m j)))

-- with all functions redirected
unfoldable pub turn_all : Redirection → Module → Module
turn_all r m = with_functions m (redirect_fns m.functions 0 r.original.0 r.replacement.0 r.omit.now)

-- and with the entry points redirected, too
unfoldable pub redirected_by : Redirection → Module → Module
redirected_by r m = redirect m r.original.0 r.replacement.0 r.omit.now
