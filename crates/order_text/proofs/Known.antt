-- Tests 3 and 5 give what lines need: every table function has a name, and it is in the table of names.
use mathlib.Core.Path.{◌≡◌, refl, subst}
use mathlib.Core.Bool.{true, not, ◌&&◌}
use mathlib.Core.List.{List, ◌++◌, map}
use Prim.Native.Nat.{ℕ, suc, ◌≤◌, ◌<◌}
use native.Mathlib.Omega.{arith}
use lib.Dec.{eqb}
use lib.ListN.{get_or}
use borrow.Author.Tests.{ltb-true, eqb-false, not-true}
use Rattle.theory_lists.specs.Booleans.{and_split}
use Rattle.model.specs.Outcome.{Cells, word}
use Rattle.model.specs.Table.{NAME, ARGUMENTS, LOCALS, EXPRESSIONS, NAMED, function_head}
use Rattle.model.specs.Tree.{Function, flat_list, flat_block, flat}
use Rattle.model.specs.Module.{Module}
use Rattle.model.specs.Taped.{Taped}
use Rattle.model.specs.Carry.{Lays, lays_next, Each, each_none, each_next, WellFunction, WellFormed}
use Rattle.model.specs.Initial.{initialised}
use Rattle.model.specs.Numbers.{Bounds, caps, bound, below, within, ordered, every, outside, inside, sound, sound_function, numbered}
use Rattle.model.specs.Names.{field, present, distinct, differ, function_names, entry_names, functions_named, entries_named, named}
use Rattle.theory_image.specs.Tapes.{taped_same}
use Rattle.order_callees.specs.Gathering.{Known}
use Rattle.theory_order.specs.Numbered.{functions_sound}
use Rattle.order_callees.proofs.Numbered.{passed-known}
use Rattle.model.specs.Redirect.{name_word}
use Rattle.theory_image.specs.Writing.{flat_right}
use Rattle.order_text.specs.Telling.{NamesKnown, Naming, Passed}

-- ---- in the table
head_below : (b : Bounds) (h rest : Cells) → Lays function_head h → within b (h ++ rest) ≡ true → word (get_or h 0 (0, 0)) ≤ b.names
unfolding function_head within below bound caps
head_below b h rest (lays_next {w} {cs} e l) k =
    let a : w < suc b.names = ltb-true w (suc b.names) (and_split (below (bound b NAME) w) (within b (cs ++ rest)) k).0 in
    omega arith

sound_name : (b : Bounds) (f : Function) → WellFunction f → sound_function b f ≡ true → name_word f ≤ b.names
unfolding sound inside name_word
sound_name b f w h =
    head_below (inside b f) f.head (flat_list ARGUMENTS f.arguments ++ (f.result ++ (flat_list LOCALS f.locals ++ (flat_list EXPRESSIONS f.exprs ++ (flat_list NAMED f.named ++ flat_block f.body))))) w.head_ok
    (subst (λ c. within (inside b f) c ≡ true) (flat_right f) (and_split (within (inside b f) (flat f)) (ordered (flat f) && initialised f) h).0)

-- ---- present
pub head_field : {h : Cells} → Lays function_head h → field NAME h ≡ word (get_or h 0 (0, 0))
unfolding function_head field
head_field (lays_next e l) = refl

not_zero : (x : ℕ) → not (eqb x 0) ≡ true → 0 < x
not_zero x h = let n : x ≡ 0 → ⊥ = eqb-false x 0 (not-true (eqb x 0) h) in omega arith

both : (b : Bounds) {fs : List Function} → Each WellFunction fs → every (sound_function b) fs ≡ true → present (function_names fs) ≡ true → Each (λ f. (0 < name_word f) × (name_word f ≤ b.names)) fs
unfolding every present function_names name_word
both b each_none h k = each_none
both b (each_next {a = f} {l = fs} w ws) h k =
    let a = and_split (sound_function b f) (every (sound_function b) fs) h in
    let c = and_split (not (eqb (field NAME f.head) 0)) (present (function_names fs)) k in
    let n : 0 < name_word f = rw (head_field w.head_ok) at (not_zero (field NAME f.head) c.0) in
    each_next {a = f} (n, sound_name b f w a.0) (both b ws a.1 c.1)

pub names_known : (m : Module) → WellFormed m → numbered m ≡ true → named m ≡ true → NamesKnown m
unfolding named outside
names_known m w h k = both (outside m) w.functions_ok.each (functions_sound m h) (and_split (present (function_names m.functions)) _ k).0

-- no two table functions have one name
pub functions_distinct : (m : Module) → named m ≡ true → distinct (function_names m.functions) ≡ true
unfolding named
functions_distinct m k =
    let a = (and_split (present (function_names m.functions)) _ k).1 in
    let b = (and_split (present (entry_names m.entries)) _ a).1 in
    let c = (and_split (functions_named m.functions) _ b).1 in
    let d = (and_split (entries_named m.entries) _ c).1 in
    let e = (and_split (differ (map (map word) m.names)) _ d).1 in
    (and_split (distinct (function_names m.functions)) _ e).0

pub passed-naming : {words tags : List ℕ} {n : ℕ} → Passed words tags n → Naming words tags n
passed-naming p m t = names_known m t.well (p.numbers m t) (p.names m t)

pub passed-callees : {words tags : List ℕ} {n : ℕ} → Passed words tags n → Known words tags n
passed-callees p = passed-known p.numbers

-- words and tags hold one module, so what is shown of one that they hold is shown of it
pub passed-one : {words tags : List ℕ} {n : ℕ} {m : Module} → Taped words tags n m → numbered m ≡ true → named m ≡ true → Passed words tags n
passed-one t h k = record { numbers = λ o u. subst (λ x. numbered x ≡ true) (taped_same t u) h; names = λ o u. subst (λ x. named x ≡ true) (taped_same t u) k }
