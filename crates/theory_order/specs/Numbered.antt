-- What test 3 shows of callees: where every number is in range, every callee of a table function is a table function.
use Rattle.std.specs.Prelude.{◌≡◌, refl, Bool, true, false, cond, ◌&&◌, List, [], ◌∷◌, ◌++◌, ℕ, ◌<◌, eqb, length}
use Rattle.std.proofs.Common.{subst, eqb-true, ltb-true}
use Rattle.theory_lists.specs.Booleans.{and_split}
use Rattle.model.specs.Outcome.{Cells, class, word}
use Rattle.model.specs.Table.{CALLEE}
use Rattle.model.specs.Tree.{Function, Entry, flat, flat_entry}
use Rattle.model.specs.Module.{Module}
use Rattle.model.specs.Carry.{Each, each_none, each_next, WellFunction, WellEntry, WellFormed}
use Rattle.model.specs.Initial.{initialised}
use Rattle.model.specs.Numbers.{Bounds, caps, bound, below, within, ordered, every, outside, inside, sound, sound_function, sound_entry, constant_only, numbered}
use Rattle.model.specs.Callees.{callees, CalleesKnown}
use Rattle.theory_order.specs.Cells.{picks, callees_in, cells_function}

callee-below : (b : Bounds) (w : ℕ) → below (bound b CALLEE) w ≡ true → w < b.functions
unfolding below bound caps
callee-below b w h = ltb-true w b.functions h

pub cells_below : (b : Bounds) (cs : Cells) → within b cs ≡ true → Each (λ j. j < b.functions) (callees_in cs)
unfolding within picks
cells_below b [] h = each_none
cells_below b (c ∷ cs) h =
    let a = and_split (below (bound b (class c)) (word c)) (within b cs) h in
    go (eqb (class c) CALLEE) refl a.0 (cells_below b cs a.1)
  where
    go : (x : Bool) → eqb (class c) CALLEE ≡ x → below (bound b (class c)) (word c) ≡ true → Each (λ j. j < b.functions) (callees_in cs) → Each (λ j. j < b.functions) (cond x (word c ∷ callees_in cs) (callees_in cs))
    go true e f rest = each_next (callee-below b (word c) (subst (λ s. below (bound b s) (word c) ≡ true) (eqb-true (class c) CALLEE e) f)) rest
    go false e f rest = rest

pub sound-below : (b : Bounds) (f : Function) → WellFunction f → sound_function b f ≡ true → Each (λ j. j < b.functions) (callees f)
unfolding sound inside
sound-below b f w h =
    subst (Each (λ j. j < b.functions)) (cells_function w) (cells_below (inside b f) (flat f) (and_split (within (inside b f) (flat f)) (ordered (flat f) && initialised f) h).0)

each_below : (b : Bounds) {fs : List Function} → Each WellFunction fs → every (sound_function b) fs ≡ true → Each (λ f. Each (λ j. j < b.functions) (callees f)) fs
unfolding every
each_below b each_none h = each_none
each_below b (each_next {a = f} {l = fs} w ws) h =
    let a = and_split (sound_function b f) (every (sound_function b) fs) h in
    each_next (sound-below b f w a.0) (each_below b ws a.1)

-- test 3 of the table functions
pub functions_sound : (m : Module) → numbered m ≡ true → every (sound_function (outside m)) m.functions ≡ true
unfolding numbered
functions_sound m h =
    let a = and_split (every (within (outside m)) m.types) _ h in
    let b = and_split (every (within (outside m)) m.constants) _ a.1 in
    let c = and_split (every (within (outside m)) m.overrides) _ b.1 in
    let d = and_split (every (within (outside m)) m.globals) _ c.1 in
    let e = and_split (every (within (outside m)) m.exprs) _ d.1 in
    let f = and_split (every constant_only m.exprs) _ e.1 in
    (and_split (every (sound_function (outside m)) m.functions) _ f.1).0

-- and of the functions of entry points
pub entries_sound : (m : Module) → numbered m ≡ true → every (sound_entry (outside m)) m.entries ≡ true
unfolding numbered
entries_sound m h =
    let a = and_split (every (within (outside m)) m.types) _ h in
    let b = and_split (every (within (outside m)) m.constants) _ a.1 in
    let c = and_split (every (within (outside m)) m.overrides) _ b.1 in
    let d = and_split (every (within (outside m)) m.globals) _ c.1 in
    let e = and_split (every (within (outside m)) m.exprs) _ d.1 in
    let f = and_split (every constant_only m.exprs) _ e.1 in
    let g = and_split (every (sound_function (outside m)) m.functions) _ f.1 in
    (and_split (every (sound_entry (outside m)) m.entries) _ g.1).0

within-behind : (b : Bounds) (xs ys : Cells) → within b (xs ++ ys) ≡ true → within b ys ≡ true
unfolding within
within-behind b [] ys h = h
within-behind b (x ∷ xs) ys h = within-behind b xs ys (and_split (below (bound b (class x)) (word x)) (within b (xs ++ ys)) h).1

each_entry : (b : Bounds) {es : List Entry} → Each WellEntry es → every (sound_entry b) es ≡ true → Each (λ e. Each (λ j. j < b.functions) (callees e.function)) es
unfolding every sound inside flat_entry
each_entry b each_none h = each_none
each_entry b (each_next {a = e} {l = es} w ws) h =
    let a = and_split (sound_entry b e) (every (sound_entry b) es) h in
    let i = (and_split (within (inside b e.function) (flat_entry e)) (ordered (flat_entry e) && initialised e.function) a.0).0 in
    let c = cells_below (inside b e.function) (flat e.function) (within-behind (inside b e.function) e.head (flat e.function) i) in
    each_next (subst (Each (λ j. j < b.functions)) (cells_function w.function-ok) c) (each_entry b ws a.1)

pub entries_known : (m : Module) → WellFormed m → numbered m ≡ true → Each (λ e. Each (λ j. j < length m.functions) (callees e.function)) m.entries
unfolding outside
entries_known m w h = each_entry (outside m) w.entries_ok.each (entries_sound m h)

pub numbered-known : (m : Module) → WellFormed m → numbered m ≡ true → CalleesKnown m
unfolding outside
numbered-known m w h = each_below (outside m) w.functions_ok.each (functions_sound m h)
