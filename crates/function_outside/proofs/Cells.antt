-- One cell of a function: what its class may refer to, what it imports, and that its number is in range. Classes below EXPR refer to tables and functions, those from there on to the function's own expressions.
use mathlib.Core.Path.{◌≡◌, refl, sym, subst, ◌∙◌}
use mathlib.Core.Bool.{Bool, true, false}
use mathlib.Core.List.{List, [], ◌∷◌}
use Rattle.std.specs.Prelude.{Option, None, Some}
use Prim.Native.Nat.{ℕ, zero, suc, ◌+◌, ◌-◌, ◌≤◌, ◌<◌}
use native.Mathlib.Omega.{arith}
use lib.Dec.{ltb}
use lib.ListN.{get_or, take, drop}
use lib.Seq.{get_or-take, get_or-drop}
use borrow.Author.Tests.{ltb-true, ltb-false, lt-ltb, le-ltb}
use Rattle.model.specs.Table.{SPAN, EXPR}
use Rattle.model.specs.Module.{Module, count_at}
use Rattle.model.specs.Tables.{Tab, code_t, Tables, tables}
use Rattle.model.specs.References.{Place, table, own, function, Target, copied, start, upto, ref, opt, targets, target, Node, node, ref_of}
use Rattle.model.specs.Imports.{Derived, import_t}
use Rattle.model.specs.Bodies.{Builder, bring, step}
use Rattle.theory_records.specs.RecordLaws.{All}
use Rattle.theory_bodies.specs.Context.{outer}
use Rattle.theory_passes.specs.Pass.{arrive}
use Rattle.theory_passes.specs.Operands.{outward1}
use Rattle.theory_passes.specs.Light.{still}
use Rattle.derive_state.specs.Refers.{code_p, target_of}
use Rattle.derive_state.specs.Source.{if_some, refers_to, less, number_of}
use Rattle.derive_state.proofs.State.{tab_code, code_low}
use Rattle.derive_state.specs.declared.Reference.{Reference}
use Rattle.derive_imports.specs.declared.Referent.{Referent}
use Rattle.derive_imports.specs.declared.Referent.TheVariants as code
use Rattle.derive_imports.specs.Referents.{at_place, referent_of}
use Rattle.derive_imports.proofs.Referring.{refers_ref, refers_opt, refers_zero, record_told, own_told, none_told}
use Rattle.function_references.specs.Fits.{Fits, FitN, record_of}

-- ---- the two halves of the classes
-- what a class below EXPR may refer to
pub data Away : Target → Type 0 where
  away_copied : Away copied
  away_start : Away start
  away_upto : Away upto
  away_ref : (t : Tab) → Away (ref (table t))
  away_opt : (t : Tab) → Away (opt (table t))
  away_function : Away (ref function)

-- and one from there on
pub data Inner : Target → Type 0 where
  inner_copied : Inner copied
  inner_ref : Inner (ref own)
  inner_opt : Inner (opt own)

-- a word that names an expression of the function
pub data Names : Target → ℕ → ℕ → Type 0 where
  names_ref : {w : ℕ} → Names (ref own) w w
  names_opt : {e : ℕ} → Names (opt own) (suc e) e

abbrev Every : (Target → Type 0) → List Target → Type 0
Every P [] = Unit {0}
Every P (g ∷ gs) = P g × Every P gs

every-at : (P : Target → Type 0) (gs : List Target) (i : ℕ) → P copied → Every P gs → P (get_or gs i copied)
every-at P [] i c a = c
every-at P (g ∷ gs) zero c a = a.0
every-at P (g ∷ gs) (suc i) c a = every-at P gs i c a.1

aways : Every Away (take 12 targets)
unfolding targets
aways = (away_start, (away_upto, (away_opt _, (away_ref _, (away_opt _, (away_ref _, (away_ref _, (away_ref _, (away_ref _, (away_opt _, (away_function, (away_function, tt))))))))))))

inners : Every Inner (drop 12 targets)
unfolding targets
inners = (inner_ref, (inner_opt, (inner_copied, (inner_copied, (inner_copied, (inner_copied, (inner_ref, (inner_opt, (inner_ref, (inner_opt, tt))))))))))

pub away : (s : ℕ) → s < EXPR → Away (target s)
away s h = go (ltb s SPAN) refl
  where
    go : (b : Bool) → ltb s SPAN ≡ b → Away (target s)
    go true e = unfold target in rw (e, target) away_copied
    go false e = let l = ltb-false s SPAN e in unfold target in rw (e, target, ← get_or-take 12 targets (s - SPAN) copied (omega arith)) (every-at Away (take 12 targets) (s - SPAN) away_copied aways)

pub inner : (s : ℕ) → EXPR ≤ s → Inner (target s)
unfolding target
inner s h = let q : s - SPAN ≡ 12 + (s - EXPR) = omega arith in rw (le-ltb s SPAN (omega arith), target, q, ← get_or-drop 12 targets (s - EXPR) copied) (every-at Inner (drop 12 targets) (s - EXPR) inner_copied inners)

-- ---- expressions, by the code 5
pub named_refers : {g : Target} {w e : ℕ} → Names g w e → (refers_to g w ≡ 5) × (number_of g w ≡ e)
unfolding refers_to number_of target_of code_p if_some less
named_refers names_ref = (refl, refl)
named_refers names_opt = (refl, refl)

inner_names : {g : Target} (w : ℕ) → Inner g → refers_to g w ≡ 5 → Names g w (number_of g w)
unfolding refers_to number_of target_of code_p if_some less
inner_names w inner_copied e = absurd (omega arith)
inner_names w inner_ref e = names_ref
inner_names zero inner_opt e = absurd (omega arith)
inner_names (suc n) inner_opt e = names_opt

pub reference_own : (c w : ℕ) → EXPR ≤ c → refers_to (target c) w ≡ 5 → Names (target c) w (number_of (target c) w)
reference_own c w h e = inner_names w (inner c h) e

-- ---- records
module _ (o : ℕ) (T : Tables) (s : Derived) where
  record_is : (t : Tab) (n : ℕ) → import_t o T t n s ≡ record_of o T (code_t t) n s
  unfolding record_of
  record_is t n = rw (lt-ltb (code_t t) 6 (code_low t), record_of, tab_code t)

  pub record_none : (u n : ℕ) → 6 ≤ u → s ≡ record_of o T u n s
  unfolding record_of
  record_none u n h = rw (le-ltb u 6 h, record_of)

-- ---- what the code finds
-- in the lower half of the classes there are no expressions, and in the upper one no records
abbrev Low : Option Referent → Type 0
Low None = Unit {0}
Low (Some (code.Record r)) = Unit {0}
Low (Some (code.Own e)) = ⊥

abbrev High : Option Referent → Type 0
High None = Unit {0}
High (Some (code.Record r)) = ⊥
High (Some (code.Own e)) = Unit {0}

low_found : {g : Target} (w : ℕ) → Away g → Low (referent_of g w)
unfolding referent_of at_place
low_found w away_copied = tt
low_found w away_start = tt
low_found w away_upto = tt
low_found w (away_ref t) = tt
low_found zero (away_opt t) = tt
low_found (suc n) (away_opt t) = tt
low_found w away_function = tt

high_found : {g : Target} (w : ℕ) → Inner g → High (referent_of g w)
unfolding referent_of at_place
high_found w inner_copied = tt
high_found w inner_ref = tt
high_found zero inner_opt = tt
high_found (suc n) inner_opt = tt

module _ (s w : ℕ) where
  pub record_found : {x : Referent} {r : Reference} → x ≡ code.Record r → Some x ≡ referent_of (target s) w → (s < EXPR) × (r.table ≡ refers_to (target s) w) × (r.number ≡ number_of (target s) w) × (r.table < 6)
  record_found {x} {r} is found = go (ltb s EXPR) refl
    where
      e : Some (code.Record r) ≡ referent_of (target s) w
      e = rw is at found

      go : (b : Bool) → ltb s EXPR ≡ b → (s < EXPR) × (r.table ≡ refers_to (target s) w) × (r.number ≡ number_of (target s) w) × (r.table < 6)
      go true q = let f = record_told (target s) w e in (ltb-true s EXPR q, f.0, f.1, f.2)
      go false q = absurd (subst High (sym e) (high_found w (inner s (ltb-false s EXPR q))))

  pub own_found : {x : Referent} {n : ℕ} → x ≡ code.Own n → Some x ≡ referent_of (target s) w → (EXPR ≤ s) × (5 ≡ refers_to (target s) w) × (n ≡ number_of (target s) w)
  own_found {x} {n} is found = go (ltb s EXPR) refl
    where
      e : Some (code.Own n) ≡ referent_of (target s) w
      e = rw is at found

      go : (b : Bool) → ltb s EXPR ≡ b → (EXPR ≤ s) × (5 ≡ refers_to (target s) w) × (n ≡ number_of (target s) w)
      go true q = absurd (subst Low (sym e) (low_found w (away s (ltb-true s EXPR q))))
      go false q = let f = own_told (target s) w e in (ltb-false s EXPR q, f.0, f.1)

  pub nothing_found : None ≡ referent_of (target s) w → 6 ≤ refers_to (target s) w
  nothing_found = none_told (target s) w

-- ---- what a cell imports
module _ (o : ℕ) (M : Module) (follow : ℕ → Derived → Derived) where
  -- a record of a table, where functions that are met import nothing
  away_record : {g : Target} (w : ℕ) (s : Derived) → Away g → (target_of g ≡ 7 → (n : ℕ) → follow n s ≡ s) → outward1 o M follow g w s ≡ record_of o (tables M) (refers_to g w) (number_of g w) s
  unfolding outward1 outer refers_to target_of code_p
  away_record w s away_copied f = record_none o (tables M) s 6 _ (omega arith)
  away_record w s away_start f = record_none o (tables M) s 6 _ (omega arith)
  away_record w s away_upto f = record_none o (tables M) s 6 _ (omega arith)
  away_record w s (away_ref t) f = rw ((refers_ref t w).0, (refers_ref t w).1) (record_is o (tables M) s t w)
  away_record zero s (away_opt t) f = rw (refers_zero t) (record_none o (tables M) s 6 _ (omega arith))
  away_record (suc n) s (away_opt t) f = rw ((refers_opt t n).0, (refers_opt t n).1) (record_is o (tables M) s t n)
  away_record w s away_function f = f refl w ∙ record_none o (tables M) s 6 _ (omega arith)

  inner_nothing : {g : Target} (w : ℕ) (s : Derived) → Inner g → outward1 o M follow g w s ≡ s
  unfolding outward1 outer
  inner_nothing w s inner_copied = refl
  inner_nothing w s inner_ref = refl
  inner_nothing zero s inner_opt = refl
  inner_nothing (suc n) s inner_opt = refl

  pub outward_inner : (c w : ℕ) (s : Derived) → EXPR ≤ c → outward1 o M follow (target c) w s ≡ s
  outward_inner c w s h = inner_nothing w s (inner c h)

  pub outward-other : (c w : ℕ) (s : Derived) → c < EXPR → (target_of (target c) ≡ 7 → ⊥) → outward1 o M follow (target c) w s ≡ record_of o (tables M) (refers_to (target c) w) (number_of (target c) w) s
  outward-other c w s h ne = away_record w s (away c h) (λ e. absurd (ne e))

  -- ---- in a pass: p imports an expression
  module _ (p q : ℕ → Builder → Builder) where
    away_arrive : {g : Target} (w : ℕ) (m : Builder) → Away g → arrive o M follow p q g w m ≡ bring (outward1 o M follow g w) m
    unfolding arrive step outward1 outer bring
    away_arrive w m away_copied = refl
    away_arrive w m away_start = refl
    away_arrive w m away_upto = refl
    away_arrive w m (away_ref t) = refl
    away_arrive zero m (away_opt t) = refl
    away_arrive (suc n) m (away_opt t) = refl
    away_arrive w m away_function = refl

    names_arrive : {g : Target} {w e : ℕ} (m : Builder) → Names g w e → arrive o M follow p q g w m ≡ p e m
    unfolding arrive step
    names_arrive m names_ref = refl
    names_arrive m names_opt = refl

    inner_none : {g : Target} (w : ℕ) (m : Builder) → Inner g → (refers_to g w ≡ 5 → ⊥) → arrive o M follow p q g w m ≡ m
    unfolding arrive refers_to target_of code_p if_some
    inner_none w m inner_copied ne = refl
    inner_none w m inner_ref ne = absurd (ne refl)
    inner_none zero m inner_opt ne = refl
    inner_none (suc n) m inner_opt ne = absurd (ne refl)

    pub arrive_own : (c w : ℕ) (m : Builder) → EXPR ≤ c → refers_to (target c) w ≡ 5 → arrive o M follow p q (target c) w m ≡ p (number_of (target c) w) m
    arrive_own c w m h e = names_arrive m (reference_own c w h e)

    pub arrive_none : (c w : ℕ) (m : Builder) → EXPR ≤ c → (refers_to (target c) w ≡ 5 → ⊥) → arrive o M follow p q (target c) w m ≡ m
    arrive_none c w m h ne = inner_none w m (inner c h) ne

    pub arrive-outward : (c w : ℕ) (m : Builder) → c < EXPR → arrive o M follow p q (target c) w m ≡ bring (outward1 o M follow (target c) w) m
    arrive-outward c w m h = away_arrive w m (away c h)

    pub arrive-other : (c w : ℕ) (m : Builder) → c < EXPR → (target_of (target c) ≡ 7 → ⊥) → arrive o M follow p q (target c) w m ≡ bring (record_of o (tables M) (refers_to (target c) w) (number_of (target c) w)) m
    unfolding bring
    arrive-other c w m h ne = arrive-outward c w m h ∙ rw (outward-other c w m.out h ne)

-- ---- where functions are not followed
module _ (o : ℕ) (M : Module) where
  pub outward-still : (c w : ℕ) (s : Derived) → c < EXPR → outward1 o M still (target c) w s ≡ record_of o (tables M) (refers_to (target c) w) (number_of (target c) w) s
  outward-still c w s h = away_record o M still w s (away c h) (λ e n. refl)

  -- what imports nothing
  pub outward_none : (c w : ℕ) → 6 ≤ refers_to (target c) w → (s : Derived) → outward1 o M still (target c) w s ≡ s
  outward_none c w h s = go (ltb c EXPR) refl
    where
      go : (b : Bool) → ltb c EXPR ≡ b → outward1 o M still (target c) w s ≡ s
      go true e = outward-still c w s (ltb-true c EXPR e) ∙ sym (record_none o (tables M) s (refers_to (target c) w) (number_of (target c) w) h)
      go false e = outward_inner o M still c w s (ltb-false c EXPR e)

  pub arrive-still : (p q : ℕ → Builder → Builder) (c w : ℕ) (m : Builder) → c < EXPR → arrive o M still p q (target c) w m ≡ bring (record_of o (tables M) (refers_to (target c) w) (number_of (target c) w)) m
  unfolding bring
  arrive-still p q c w m h = arrive-outward o M still p q c w m h ∙ rw (outward-still c w m.out h)

-- a function's class
pub arrive-function : (o : ℕ) (M : Module) (follow : ℕ → Derived → Derived) (p q : ℕ → Builder → Builder) (c w : ℕ) (m : Builder) → target_of (target c) ≡ 7 → arrive o M follow p q (target c) w m ≡ bring (follow w) m
unfolding code_p step target_of arrive
arrive-function o M follow p q c w m e = go (target c) e
  where
    place : (s : Place) → code_p s ≡ 7 → step o M follow p s w m ≡ bring (follow w) m
    place (table t) e = absurd (omega (arith, code_low t))
    place own e = absurd (omega arith)
    place function e = refl

    go : (g : Target) → target_of g ≡ 7 → arrive o M follow p q g w m ≡ bring (follow w) m
    go copied e = absurd (omega arith)
    go start e = absurd (omega arith)
    go upto e = absurd (omega arith)
    go (ref s) e = place s e
    go (opt s) e = absurd (omega arith)

-- ---- the references of a cell
names_refs : {g : Target} {w e : ℕ} (rest : List Node) → Names g w e → ref_of g w rest ≡ node own e ∷ rest
unfolding ref_of
names_refs rest names_ref = refl
names_refs rest names_opt = refl

inner_no_refs : {g : Target} (w : ℕ) (rest : List Node) → Inner g → (refers_to g w ≡ 5 → ⊥) → ref_of g w rest ≡ rest
unfolding ref_of refers_to target_of code_p if_some
inner_no_refs w rest inner_copied ne = refl
inner_no_refs w rest inner_ref ne = absurd (ne refl)
inner_no_refs zero rest inner_opt ne = refl
inner_no_refs (suc n) rest inner_opt ne = absurd (ne refl)

pub refs_own : (c w : ℕ) (rest : List Node) → EXPR ≤ c → refers_to (target c) w ≡ 5 → ref_of (target c) w rest ≡ node own (number_of (target c) w) ∷ rest
refs_own c w rest h e = names_refs rest (reference_own c w h e)

pub refs-none : (c w : ℕ) (rest : List Node) → EXPR ≤ c → (refers_to (target c) w ≡ 5 → ⊥) → ref_of (target c) w rest ≡ rest
refs-none c w rest h ne = inner_no_refs w rest (inner c h) ne

-- ---- numbers in range
module _ (words : List ℕ) (k : ℕ) where
  -- an expression of the function
  pub fit_own : (c w : ℕ) → EXPR ≤ c → refers_to (target c) w ≡ 5 → All (FitN words k) (ref_of (target c) w []) → number_of (target c) w < k
  unfolding Fits
  fit_own c w h e a = (rw (refs_own c w [] h e) at a).0

  away_fit : {g : Target} (w : ℕ) → Away g → refers_to g w < 6 → All (FitN words k) (ref_of g w []) → (number_of g w < count_at (refers_to g w) words) × (number_of g w < 512)
  unfolding ref_of Fits refers_to target_of code_p
  away_fit w away_copied l a = absurd (omega arith)
  away_fit w away_start l a = absurd (omega arith)
  away_fit w away_upto l a = absurd (omega arith)
  away_fit w (away_ref t) l a = rw ((refers_ref t w).0, (refers_ref t w).1) a.0
  away_fit zero (away_opt t) l a = absurd (omega (arith, refers_zero t))
  away_fit (suc n) (away_opt t) l a = rw ((refers_opt t n).0, (refers_opt t n).1) a.0
  away_fit w away_function l a = absurd (omega arith)

  -- a record of a table
  pub fit-table : (c w : ℕ) → c < EXPR → refers_to (target c) w < 6 → All (FitN words k) (ref_of (target c) w []) → (number_of (target c) w < count_at (refers_to (target c) w) words) × (number_of (target c) w < 512)
  fit-table c w h l a = away_fit w (away c h) l a

  -- a function
  pub fit-function : (c w : ℕ) → target_of (target c) ≡ 7 → All (FitN words k) (ref_of (target c) w []) → w < count_at 6 words
  unfolding code_p target_of ref_of Fits
  fit-function c w e a = go (target c) e a
    where
      place : (s : Place) → code_p s ≡ 7 → Fits words k s w → w < count_at 6 words
      place (table t) e f = absurd (omega (arith, code_low t))
      place own e f = absurd (omega arith)
      place function e f = f

      go : (g : Target) → target_of g ≡ 7 → All (FitN words k) (ref_of g w []) → w < count_at 6 words
      go copied e a = absurd (omega arith)
      go start e a = absurd (omega arith)
      go upto e a = absurd (omega arith)
      go (ref s) e a = place s e a.0
      go (opt s) e a = absurd (omega arith)
