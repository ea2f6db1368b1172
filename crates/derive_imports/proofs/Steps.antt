-- What a word refers to: the step of the import, and that ranks fall.
use mathlib.Core.Path.{◌≡◌, refl, ◌∙◌}
use mathlib.Core.Bool.{Bool, true, false, cond}
use mathlib.Core.List.{List, []}
use Prim.Native.Nat.{ℕ, zero, suc, ◌+◌, ◌-◌, ◌≤◌, ◌<◌, pred}
use native.Mathlib.Omega.{arith}
use lib.Dec.{ltb}
use borrow.Author.Tests.{lt-ltb, le-ltb}
use Rattle.model.specs.Tables.{Tab, names, types, constants, overrides, globals, exprs, code_t, Tables, count}
use Rattle.model.specs.References.{Place, table, own, function, Target, copied, start, upto, ref, opt, target, Node, ref_of, fold_refs}
use Rattle.model.specs.Imports.{Derived, step_t}
use Rattle.theory_records.specs.RecordLaws.{All}
use Rattle.theory_records.specs.Well.{home, rank, Lower}
use Rattle.derive_state.specs.Refers.{code_p, target_of, unspanned, tab_of}
use Rattle.derive_state.specs.Source.{if_some, refers_to, less, number_of}
use Rattle.derive_state.proofs.Classes.{code_meant}

pub step_is : (imp : Tab → ℕ → Derived → Derived) (g : Target) (w : ℕ) (rest : List Node) (s : Derived) → fold_refs (ref_of g w rest) (step_t imp) s ≡ fold_refs rest (step_t imp) (cond (ltb (refers_to g w) 6) (imp (tab_of (refers_to g w)) (number_of g w) s) s)
unfolding ref_of fold_refs step_t refers_to if_some number_of less target_of code_p code_t tab_of
step_is imp copied w rest s = refl
step_is imp start w rest s = refl
step_is imp upto w rest s = refl
step_is imp (ref (table names)) w rest s = refl
step_is imp (ref (table types)) w rest s = refl
step_is imp (ref (table constants)) w rest s = refl
step_is imp (ref (table overrides)) w rest s = refl
step_is imp (ref (table globals)) w rest s = refl
step_is imp (ref (table exprs)) w rest s = refl
step_is imp (ref own) w rest s = refl
step_is imp (ref function) w rest s = refl
step_is imp (opt (table names)) zero rest s = refl
step_is imp (opt (table names)) (suc w) rest s = refl
step_is imp (opt (table types)) zero rest s = refl
step_is imp (opt (table types)) (suc w) rest s = refl
step_is imp (opt (table constants)) zero rest s = refl
step_is imp (opt (table constants)) (suc w) rest s = refl
step_is imp (opt (table overrides)) zero rest s = refl
step_is imp (opt (table overrides)) (suc w) rest s = refl
step_is imp (opt (table globals)) zero rest s = refl
step_is imp (opt (table globals)) (suc w) rest s = refl
step_is imp (opt (table exprs)) zero rest s = refl
step_is imp (opt (table exprs)) (suc w) rest s = refl
step_is imp (opt own) zero rest s = refl
step_is imp (opt own) (suc w) rest s = refl
step_is imp (opt function) zero rest s = refl
step_is imp (opt function) (suc w) rest s = refl

pub hit : (T : Tables) (t : Tab) (k : ℕ) (g : Target) (w : ℕ) → All (Lower T t k) (ref_of g w []) → refers_to g w < 6 → (number_of g w < count T (tab_of (refers_to g w))) × (rank T (tab_of (refers_to g w)) (number_of g w) < rank T t k)
unfolding ref_of refers_to if_some number_of less target_of code_p code_t tab_of Lower home
hit T t k copied w a h = absurd (omega arith)
hit T t k start w a h = absurd (omega arith)
hit T t k upto w a h = absurd (omega arith)
hit T t k (ref (table names)) w a h = (a.0.0, a.0.1)
hit T t k (ref (table types)) w a h = (a.0.0, a.0.1)
hit T t k (ref (table constants)) w a h = (a.0.0, a.0.1)
hit T t k (ref (table overrides)) w a h = (a.0.0, a.0.1)
hit T t k (ref (table globals)) w a h = (a.0.0, a.0.1)
hit T t k (ref (table exprs)) w a h = (a.0.0, a.0.1)
hit T t k (ref own) w a h = (a.0.0, a.0.1)
hit T t k (ref function) w a h = absurd (omega arith)
hit T t k (opt (table names)) zero a h = absurd (omega arith)
hit T t k (opt (table names)) (suc w) a h = (a.0.0, a.0.1)
hit T t k (opt (table types)) zero a h = absurd (omega arith)
hit T t k (opt (table types)) (suc w) a h = (a.0.0, a.0.1)
hit T t k (opt (table constants)) zero a h = absurd (omega arith)
hit T t k (opt (table constants)) (suc w) a h = (a.0.0, a.0.1)
hit T t k (opt (table overrides)) zero a h = absurd (omega arith)
hit T t k (opt (table overrides)) (suc w) a h = (a.0.0, a.0.1)
hit T t k (opt (table globals)) zero a h = absurd (omega arith)
hit T t k (opt (table globals)) (suc w) a h = (a.0.0, a.0.1)
hit T t k (opt (table exprs)) zero a h = absurd (omega arith)
hit T t k (opt (table exprs)) (suc w) a h = (a.0.0, a.0.1)
hit T t k (opt own) zero a h = absurd (omega arith)
hit T t k (opt own) (suc w) a h = (a.0.0, a.0.1)
hit T t k (opt function) zero a h = absurd (omega arith)
hit T t k (opt function) (suc w) a h = absurd (omega arith)

-- the code of what a word refers to where it refers to nothing
pub code_none : (s w : ℕ) → copied ≡ unspanned (target s) → 6 ≡ target_of (target s)
unfolding target_of
code_none s w is = code_meant s w is
