-- Test 3 gives what test 5 needs: a named number is the number of an expression of its function, so it is below their limit.
use mathlib.Core.Path.{◌≡◌, refl, sym, ap, ◌∙◌, subst}
use mathlib.Core.Bool.{Bool, true, false, ◌&&◌}
use mathlib.Core.List.{List, [], ◌∷◌, ◌++◌}
use Prim.Native.Nat.{ℕ, ◌≤◌, ◌<◌}
use native.Mathlib.Omega.{arith}
use lib.Dec.{eqb}
use lib.ListN.{length}
use borrow.Author.Tests.{eqb-true, ltb-true}
use Rattle.theory_lists.specs.Booleans.{and_split}
use Rattle.model.specs.Outcome.{Cells, class, word}
use Rattle.model.specs.Table.{ARGUMENTS, LOCALS, EXPRESSIONS, NAMED, NAMED-EXPR, limit}
use Rattle.model.specs.Tree.{Function, Entry, flat, flat_entry, flat_all, flat_list, flat_block}
use Rattle.model.specs.Module.{Module}
use Rattle.model.specs.Carry.{Each, each_none, each_next, WellFunction, WellEntry, WellFormed}
use Rattle.model.specs.Initial.{initialised}
use Rattle.model.specs.Numbers.{Bounds, caps, bound, below, within, ordered, every, outside, inside, sound, sound_function, sound_entry, constant_only, numbered}
use Rattle.model.specs.Names.{field, Few, NumbersFew}
use Rattle.theory_image.specs.Writing.{flat_right}
use Rattle.theory_image.specs.Within.{within-append}

named-below : (b : Bounds) (w : ℕ) → below (bound b NAMED-EXPR) w ≡ true → w < b.exprs
unfolding below bound caps
named-below b w h = ltb-true w b.exprs h

field_below : (b : Bounds) (cs : Cells) → b.exprs ≤ 1024 → within b cs ≡ true → field NAMED-EXPR cs < 1024
unfolding field within
field_below b [] few h = omega arith
field_below b (c ∷ cs) few h =
    let a = and_split (below (bound b (class c)) (word c)) (within b cs) h in
    go (eqb (class c) NAMED-EXPR) refl a.0 (field_below b cs few a.1)
  where
    go : (x : Bool) → eqb (class c) NAMED-EXPR ≡ x → below (bound b (class c)) (word c) ≡ true → field NAMED-EXPR cs < 1024 → elim x [ true ↦ word c | false ↦ field NAMED-EXPR cs ] < 1024
    go true e f rest = let l = named-below b (word c) (subst (λ s. below (bound b s) (word c) ≡ true) (eqb-true (class c) NAMED-EXPR e) f) in omega (arith, l, few)
    go false e f rest = rest

rows-below : (b : Bounds) (rs : List Cells) → b.exprs ≤ 1024 → within b (flat_all rs) ≡ true → Each (λ r. field NAMED-EXPR r < limit EXPRESSIONS) rs
unfolding flat_all limit
rows-below b [] few h = each_none
rows-below b (r ∷ rs) few h = let a = within-append b r (flat_all rs) h in each_next (field_below b r few a.0) (rows-below b rs few a.1)

tail_of : (b : Bounds) (xs ys : Cells) → within b (xs ++ ys) ≡ true → within b ys ≡ true
tail_of b xs ys h = (within-append b xs ys h).1

few_in : (b : Bounds) (f : Function) → WellFunction f → within (inside b f) (flat f) ≡ true → Few f
unfolding flat_list inside within limit
few_in b f w h =
    let i = inside b f in
    let t₅ : Cells = flat_list NAMED f.named ++ flat_block f.body in
    let t₄ : Cells = flat_list EXPRESSIONS f.exprs ++ t₅ in
    let t₃ : Cells = flat_list LOCALS f.locals ++ t₄ in
    let t₂ : Cells = f.result ++ t₃ in
    let t₁ : Cells = flat_list ARGUMENTS f.arguments ++ t₂ in
    let g = tail_of i (flat_list EXPRESSIONS f.exprs) t₅ (tail_of i (flat_list LOCALS f.locals) t₄ (tail_of i f.result t₃ (tail_of i (flat_list ARGUMENTS f.arguments) t₂ (tail_of i f.head t₁ (sym (ap (within i) (flat_right f)) ∙ h))))) in
    let k = (within-append i (flat_list NAMED f.named) (flat_block f.body) g).0 in
    let l = (and_split (below (bound i NAMED) (length f.named)) (within i (flat_all f.named)) k).1 in
    rows-below i f.named w.exprs_ok.few l

functions_few : (b : Bounds) {fs : List Function} → Each WellFunction fs → every (sound_function b) fs ≡ true → Each Few fs
unfolding every sound
functions_few b each_none h = each_none
functions_few b (each_next {a = f} {l = fs} w ws) h =
    let a = and_split (sound_function b f) (every (sound_function b) fs) h in
    each_next (few_in b f w (and_split (within (inside b f) (flat f)) (ordered (flat f) && initialised f) a.0).0) (functions_few b ws a.1)

entries_few : (b : Bounds) {es : List Entry} → Each WellEntry es → every (sound_entry b) es ≡ true → Each (λ p. Few p.function) es
unfolding every sound flat_entry
entries_few b each_none h = each_none
entries_few b (each_next {a = e} {l = es} w ws) h =
    let a = and_split (sound_entry b e) (every (sound_entry b) es) h in
    let k = (and_split (within (inside b e.function) (flat_entry e)) (ordered (flat_entry e) && initialised e.function) a.0).0 in
    each_next (few_in b e.function w.function-ok (tail_of (inside b e.function) e.head (flat e.function) k)) (entries_few b ws a.1)

pub numbers_few : (m : Module) → WellFormed m → numbered m ≡ true → NumbersFew m
unfolding numbered
numbers_few m w h =
    let a = and_split (every (within (outside m)) m.types) _ h in
    let b = and_split (every (within (outside m)) m.constants) _ a.1 in
    let c = and_split (every (within (outside m)) m.overrides) _ b.1 in
    let d = and_split (every (within (outside m)) m.globals) _ c.1 in
    let e = and_split (every (within (outside m)) m.exprs) _ d.1 in
    let f = and_split (every constant_only m.exprs) _ e.1 in
    let g = and_split (every (sound_function (outside m)) m.functions) _ f.1 in
    let k = and_split (every (sound_entry (outside m)) m.entries) _ g.1 in
    record { in_functions_lem = functions_few (outside m) w.functions_ok.each g.0; in_entries_lem = entries_few (outside m) w.entries_ok.each k.0 }
