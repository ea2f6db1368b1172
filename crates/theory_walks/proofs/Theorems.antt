-- The theorems on walks, each with its statement in full; the proofs are in the files that end in `Proof`. They are about definitions alone and name no linker: what they say of two functions that agree holds however the second came about.
use Rattle.std.specs.Prelude.{◌≡◌, refl, true, false, List, [], map, ℕ, ◌<◌, length, get_or}
use Rattle.std.proofs.Common.{sym, subst}
use Rattle.std.proofs.lemmas.Bool.{false≢true}
use Rattle.std.proofs.Math.Option.{Option, some}
use Rattle.std.proofs.Math.ListN.{get_elem?}
use Rattle.theory_lists.specs.Lists.{looked_at}
use Rattle.theory_lists.specs.Booleans.{and_first, and_second}
use Rattle.model.specs.Outcome.{Cells}
use Rattle.model.specs.Tree.{Function, Entry, loop}
use Rattle.model.specs.Module.{Module}
use Rattle.model.specs.Operands.{function_of, ops, kind_at, standing}
use Rattle.model.specs.Initial.{Mem, initial, initialised}
use Rattle.model.specs.Scope.{XBlock, Place, shape_b, seen, scoped_as, scoped, all_scoped, in_scope}
use Rattle.model.specs.Walk.{Rest, K, only, round_end, walk_f, walk_b, walk}
use Rattle.model.specs.Carry.{OkB, WellFormed}
use Rattle.model.specs.Numbers.{numbered}
use Rattle.model.specs.Callees.{callees}
use Rattle.model.specs.Redirect.{nothing}
use Rattle.model.specs.Agreement.{Mapping}
use Rattle.model.specs.Agreement as Whole
use Rattle.theory_walks.specs.Members.{Each}
use Rattle.theory_walks.specs.Reads.{Sound}
use Rattle.theory_walks.specs.Events.{MappedIn, walk-along, carried-by}
use Rattle.theory_walks.specs.Agreement.{Maps, carry_opt, mentioned, Agrees, Agreement, Carries, CarriedT}
use Rattle.theory_walks.specs.FuelProof as FuelProof
use Rattle.theory_walks.specs.PlaceProof.{placed_b}
use Rattle.theory_walks.proofs.AgreementProof as AgreementProof
use Rattle.theory_walks.specs.WholeWords.{made, to}
use Rattle.theory_walks.proofs.WholeProof.{mentions_kept, function_walks, module_walks, Plain, numbered-initialised, target_in_scope}
use Rattle.theory_walks.proofs.FunctionProof.{function-sound, function-unread, agreed_sound, agreed_scope, scoped_at, entry_at}

-- ---- walks
-- A Loop is its body, from which a Break leaves; its continuing block; the end of a round; and the Loop again. There is no fuel in it.
pub loop_unrolls : (a b : XBlock) (x : Option ℕ) (xs : List Cells) (k : K) (cs : List ℕ)
    → walk_f (loop a b x) xs k cs
    ≡ (let cont : Rest = walk_b b xs (only (round_end x k.go (walk_f (loop a b x) xs k))) in walk_b a xs (record { go = cont; brk = k.go; con = cont }) cs)
loop_unrolls = FuelProof.loop_unrolls

-- Where Breaks and Continues have their places, what one without a place would do is never used: of a function's body, and of a continuing block.
pub places : (b : XBlock) (p : Place) → p.breaks ≡ false → p.continues ≡ false → shape_b b p ≡ true
    → (xs : List Cells) (go brk con : Rest) (cs : List ℕ) → walk_b b xs (record { go = go; brk = brk; con = con }) cs ≡ walk_b b xs (only go) cs
unfolding only
places b p n m h xs go brk con cs = placed_b xs b p h _ _ (record { go = λ ds. refl; brk = λ q. absurd (false≢true (cc)); con = λ q. absurd (false≢true (cc)) }) cs

-- ---- scope is sound
-- Of a function that passes test 6 every walk by every list reads, apart from standing expressions, only what it has already evaluated. Tests 3 and 4 add nothing to it.
pub sound : (F : Function) → scoped F ≡ true → (cs : List ℕ) → Sound (standing F.exprs) (walk F cs) []
sound = function-sound

-- So of every function and every entry point of a module that passes.
pub sound_functions : (M : Module) → in_scope M ≡ true → (i : ℕ) (F : Function) → get_elem? M.functions i ≡ some F → (cs : List ℕ) → Sound (standing F.exprs) (walk F cs) []
unfolding in_scope
sound_functions M h i F q = sound F (scoped_at M.functions (and_first (all_scoped M.functions) _ h) i F q)

pub sound_entries : (M : Module) → in_scope M ≡ true → (i : ℕ) (E : Entry) → get_elem? M.entries i ≡ some E → (cs : List ℕ) → Sound (standing E.function.exprs) (walk E.function cs) []
unfolding in_scope
sound_entries M h i E q = sound E.function (entry_at M.entries (and_second (all_scoped M.functions) _ h) i E q)

-- "Outside initialisers nothing reads an initialiser expression": nothing that the body reads or evaluates is one. `initialised` is a rule of test 3: "initialisers of locals reach only those kinds".
pub unread : (F : Function) → scoped F ≡ true → initialised F ≡ true → (e : ℕ) → Mem e (mentioned F) → initial F e ≡ false
unread = function-unread

-- ---- agreement carries walks
-- For every list the target's walk is the source's with its events carried through the maps, and both end alike.
pub carries : (M M' : Module) (μ : Maps) (F F' : Function) (f : ℕ → ℕ) → Agrees M M' μ F F' f → (cs : List ℕ) → Carries μ F F' f cs
carries M M' μ F F' f a cs = AgreementProof.carries μ f M M' F F' a cs

-- The record of what is mentioned has the same kind, its operands are the source's carried, and a CallResult is that of the function carried.
pub agrees_kind : (M M' : Module) (μ : Maps) (F F' : Function) (f : ℕ → ℕ) → Agrees M M' μ F F' f → (e : ℕ) → Mem e (mentioned F) → kind_at F'.exprs (f e) ≡ kind_at F.exprs e
unfolding kind_at
agrees_kind M M' μ F F' f a e m = AgreementProof.alike-kind μ f M M' (a.records e m)

pub agrees_operands : (M M' : Module) (μ : Maps) (F F' : Function) (f : ℕ → ℕ) → Agrees M M' μ F F' f → (e : ℕ) → Mem e (mentioned F) → ops F'.exprs (f e) ≡ map f (ops F.exprs e)
unfolding ops
agrees_operands M M' μ F F' f a e m = AgreementProof.alike-ops μ f M M' (a.records e m)

pub agrees_callee : (M M' : Module) (μ : Maps) (F F' : Function) (f : ℕ → ℕ) → Agrees M M' μ F F' f → (e : ℕ) → Mem e (mentioned F)
    → function_of (get_or F'.exprs (f e) []) ≡ carry_opt μ.function (function_of (get_or F.exprs e []))
agrees_callee M M' μ F F' f a e m = AgreementProof.alike-function μ f M M' (a.records e m)

-- So of every function and every entry point of two modules that agree.
pub carries_functions : (M M' : Module) (μ : Maps) → Agreement M M' μ → (i : ℕ) (F : Function) → get_elem? M.functions i ≡ some F
    → (F' : Function) × (get_elem? M'.functions (μ.function i) ≡ some F') × ((cs : List ℕ) → Carries μ F F' (μ.in_function i) cs)
carries_functions M M' μ a i F q = let r = a.functions i F q in (r.0, r.1, carries M M' μ F r.0 (μ.in_function i) r.2)

pub carries_entries : (M M' : Module) (μ : Maps) → Agreement M M' μ → (i : ℕ) (E : Entry) → get_elem? M.entries i ≡ some E
    → (E' : Entry) × (get_elem? M'.entries i ≡ some E') × ((cs : List ℕ) → Carries μ E.function E'.function (μ.in_entry i) cs)
carries_entries M M' μ a i E q = let r = a.entries i E q in (r.0, r.1, carries M M' μ E.function r.0.function (μ.in_entry i) r.2)

-- And so the target's walk reads, apart from standing expressions, only what it has already evaluated.
pub carries_sound : (M M' : Module) (μ : Maps) (F F' : Function) (f : ℕ → ℕ) → Agrees M M' μ F F' f → scoped F ≡ true → (cs : List ℕ) → Sound (standing F'.exprs) (walk F' cs) []
carries_sound = agreed_sound

-- The target's body, as walks see it, meets every rule of the Scope paragraph again. Here it matters that only standing or initialiser expressions share a record.
pub carries_scope : (M M' : Module) (μ : Maps) (F F' : Function) (f : ℕ → ℕ) → Agrees M M' μ F F' f → scoped F ≡ true → initialised F ≡ true → scoped_as (seen F') (seen F') F'.exprs ≡ true
carries_scope = agreed_scope

-- ---- agreement in full (`Agreement` of the crate model)
-- It is agreement as it is above, of modules that are well formed, as all are that are read from an image (`read_well` of the crate theory_image). So for every function and every entry point, and every list of numbers, the target's walk is the source's carried through the maps, and both end alike.
pub whole : (M M' : Module) (μ : Mapping) → WellFormed M → WellFormed M' → Whole.Agreement M M' μ → Agreement M M' (made μ)
whole = module_walks

pub whole_functions : (M M' : Module) (μ : Mapping) → WellFormed M → WellFormed M' → Whole.Agreement M M' μ → (i : ℕ) (F : Function) → get_elem? M.functions i ≡ some F
    → (F' : Function) × (get_elem? M'.functions ((made μ).function i) ≡ some F') × ((cs : List ℕ) → Carries (made μ) F F' ((made μ).in_function i) cs)
whole_functions M M' μ w w' a = carries_functions M M' (made μ) (module_walks M M' μ w w' a)

pub whole_entries : (M M' : Module) (μ : Mapping) → WellFormed M → WellFormed M' → Whole.Agreement M M' μ → (i : ℕ) (E : Entry) → get_elem? M.entries i ≡ some E
    → (E' : Entry) × (get_elem? M'.entries i ≡ some E') × ((cs : List ℕ) → Carries (made μ) E.function E'.function ((made μ).in_entry i) cs)
whole_entries M M' μ w w' a = carries_entries M M' (made μ) (module_walks M M' μ w w' a)

-- And no event is carried by an unmapped number: every number that the walk of the source reads, evaluates or calls is mapped, and the target's walk has what it is mapped to, event by event, to the same end (`CarriedT`). The callees of F are mapped, which agreement in full gives where they are functions of the source.
pub whole-carried : (M M' : Module) (μ : Mapping) (o : List ℕ) (F F' : Function) {d d' : ℕ} → OkB d F.body → OkB d' F'.body → Whole.Agrees M M' μ o F F' → Each (MappedIn μ.functions) (callees F) → (cs : List ℕ) → CarriedT μ o (walk F cs) (walk F' cs)
whole-carried M M' μ o F F' p p' a b cs =
    subst (CarriedT μ o (walk F cs)) (sym (carries M M' (made μ) F F' (to o) (function_walks M M' μ o F F' a p p') cs).events)
    (carried-by μ o (walk F cs) (walk-along (MappedIn o) (MappedIn μ.functions) F (mentions_kept M M' μ o F F' a p p') b cs))

-- every function of the source has a place
pub all_placed : (M M' : Module) (μ : Mapping) → Whole.Agreement M M' μ → (ks : List ℕ) → Each (λ h. h < length M.functions) ks → Each (MappedIn μ.functions) ks
all_placed M M' μ a ks l h m = let r = a.functions h _ (looked_at M.functions h nothing (l h m)) in (r.0, r.2)

-- Of a source that passes test 6, the target's walks read only what is standing or has been evaluated.
pub whole-sound : (M M' : Module) (μ : Mapping) (o : List ℕ) (F F' : Function) {d d' : ℕ} → OkB d F.body → OkB d' F'.body → Whole.Agrees M M' μ o F F' → scoped F ≡ true → (cs : List ℕ) → Sound (standing F'.exprs) (walk F' cs) []
whole-sound M M' μ o F F' p p' a = carries_sound M M' (made μ) F F' (to o) (function_walks M M' μ o F F' a p p')

-- And the target passes test 6, whole, where leaving out initialiser expressions leaves out nothing of its bodies: no Emit holds one (`nothing_left`).
pub whole_scope : (M M' : Module) (μ : Mapping) → WellFormed M → WellFormed M' → Whole.Agreement M M' μ → numbered M ≡ true → in_scope M ≡ true → Plain M' → in_scope M' ≡ true
whole_scope M M' μ w w' a n s = target_in_scope M M' μ w w' a s (numbered-initialised M n)
