-- THE FUNCTIONS OF UNKNOWN NAME that calls import: where they have heights, the nested `follow` does what the import of a body requires of it (`Follows` of the crate theory_bodies), whatever its bound is, as long as that is no less than the height. Each function that it appends passes, and takes nobody's name away.
use Rattle.std.specs.Prelude.{◌≡◌, Bool, true, false, get_or}
use Rattle.std.proofs.Math.Path.{refl, sym}
use Rattle.std.proofs.Common.{ap, subst, ◌∙◌, inl, inr, le_trans, not-suc-le-zero, arith, ne_eqb}
use mathlib.Core.List.{List, [], ◌∷◌, ◌++◌}
use Rattle.std.proofs.Math.Option.{some}
use Prim.Native.Nat.{ℕ, zero, suc, ◌<◌, ◌≤◌, pred}
use Rattle.std.proofs.Math.Nat.{le_refl}
use Rattle.std.proofs.Math.ListN.{length, get_elem?, length-append, get_or-append}
use Rattle.std.proofs.Math.Seq.{get_or-append_seam}
use Rattle.theory_lists.specs.Lists.{looked_at}
use Rattle.theory_lists.specs.Booleans.{and_split}
use Rattle.model.specs.Outcome.{Cells}
use Rattle.model.specs.Table.{NAME}
use Rattle.model.specs.Tree.{Function, Entry, flat_all}
use Rattle.model.specs.Module.{Module}
use Rattle.model.specs.Carry.{Each, each_none, each_next, WellFormed}
use Rattle.model.specs.Intake.{Passes}
use Rattle.model.specs.Names.{expressions_named, functions_named, present, function_names, entry_names, named}
use Rattle.model.specs.Numbers.{outside}
use Rattle.model.specs.Callees.{callees}
use Rattle.model.specs.Redirect.{nothing, name_word, function as function_at}
use Rattle.model.specs.Tables.{Tab, names, at, Tables, tables, rec_at, count, map_at}
use Rattle.model.specs.References.{table, node, ref_of, refs, target, targets, alike, index_of}
use Rattle.model.specs.References as References
use Rattle.model.specs.Walk.{walk}
use Rattle.model.specs.Imports.{Derived, import_t, unless_mapped}
use Rattle.model.specs.Bodies.{known, Builder, mapped_to, declarations, declared, derived, final, localized, appended, append, follow_f}
use Rattle.model.specs.Finish.{gathered}
use Rattle.theory_bodies.specs.Names.{name_low, derived-named, last_miss}
use Rattle.theory_image.specs.Quiet.{each_append, each_map}
use Rattle.theory_walks.specs.Members as Members
use Rattle.theory_walks.specs.Agreement.{mentioned, Agrees, Carries}
use Rattle.theory_walks.specs.Events.{Along, walk-along}
use Rattle.theory_walks.proofs.Theorems.{carries}
use Rattle.theory_records.specs.RecordLaws.{All as AllN, Has as HasN}
use Rattle.theory_records.specs.Trace.{Keeps, keeps_trans}
use Rattle.theory_records.specs.Imported.{gathered-tables, import_keeps}
use Rattle.theory_bodies.specs.Context.{Grown, grown_refl, grown_trans, once_is}
use Rattle.theory_bodies.specs.Lists.{All, all_map, mem_all}
use Rattle.theory_bodies.specs.Inv.{place}
use Rattle.theory_bodies.specs.Function as Function
use Rattle.theory_bodies.specs.Function.{maps_of, maps_match}
use Rattle.theory_bodies.specs.Passing as Bodies
use Rattle.theory_bodies.specs.Lawful as Lawful
use Rattle.theory_bodies.specs.Source.{function-passes}
use Rattle.theory_bodies.specs.Theorems as Theorems
use Rattle.theory_finish.specs.Known as Known
use Rattle.theory_finish.specs.Known.{name_table}
use Rattle.theory_finish.specs.Output.{headed, carried_name, follows_keeping}
use Rattle.theory_finish.specs.Specials.{Typed, typed_keeping}
use Rattle.theory_finish.specs.Counting.{type_functions}
use Rattle.theory_sessions.specs.Height.{Low, low_on}

-- ---- where a derived function comes from
-- a function of the module: one of the table, or an entry point's
pub data Of (m : Module) : Function → Type 0 where
  of_table : (n : ℕ) → n < length m.functions → Of m (function_at m n)
  of_entry : {E : Entry} (i : ℕ) → get_elem? m.entries i ≡ some E → Of m E.function

-- a function of a source that passed, with which it agrees, through the maps as they were at the end of its import; what these name is still there
pub record Origin (s : Derived) (f : Function) : Type 0 where
  pub source : Module
  pub well : WellFormed source
  pub passes : Passes source
  pub function : Function
  pub is : Of source function
  pub under : Builder
  pub kept : Typed (tables source) under.out
  pub grown : Grown under.out s
  pub agrees : (D : Module) → Agrees source D (maps_of (mapped_to source under)) function f (place under.memo)

pub origin_grown : {s r : Derived} {f : Function} → Grown s r → Origin s f → Origin r f
origin_grown g p = record { source = p.source; well = p.well; passes = p.passes; function = p.function; is = p.is; under = p.under; kept = p.kept; grown = grown_trans p.grown g; agrees = p.agrees }

-- so every walk of it is its source's, carried
pub origin_walks : {s : Derived} {f : Function} (p : Origin s f) → (D : Module) (cs : List ℕ) → Carries (maps_of (mapped_to p.source p.under)) p.function f (place p.under.memo) cs
origin_walks {s} {f} p D cs = carries p.source D (maps_of (mapped_to p.source p.under)) p.function f (place p.under.memo) (p.agrees D) cs

-- ---- a derived function: it passes in every module that has at least what s has, it has a name, and so have its named expressions
pub record Piece (s : Derived) (f : Function) : Type 0 where
  pub passes : (D : Module) → ((t : Tab) → count s.recs t ≤ count (tables D) t) → length s.functions ≤ length D.functions → Bodies.Passes D f
  pub called : 0 < name_word f
  pub names : expressions_named f ≡ true
  pub origin : Origin s f

pub piece_grown : {s r : Derived} {f : Function} → Grown s r → Piece s f → Piece r f
piece_grown g p = record { passes = λ D t l. p.passes D (λ u. le_trans (g.tables.longer u) (t u)) (le_trans g.functions l); called = p.called; names = p.names; origin = origin_grown g p.origin }

pub pieces_grown : {s r : Derived} {fs : List Function} → Grown s r → Each (Piece s) fs → Each (Piece r) fs
pieces_grown g ps = each_map (λ f p. piece_grown g p) ps

pub each_same : {P : Function → Type 0} {fs gs : List Function} → fs ≡ gs → Each P fs → Each P gs
each_same {P} q ps = subst (λ l. Each P l) q ps

-- in the module that is derived
pub piece-here : {s : Derived} {f : Function} → Piece s f → Bodies.Passes (gathered s []) f
piece-here {s} p = p.passes (gathered s []) (λ t. rw (gathered-tables s []) (le_refl _)) (unfold gathered in le_refl _)

pub pieces-named : {s : Derived} {fs : List Function} → Each (Piece s) fs → Lawful.NamesTo (count s.recs names) fs
pieces-named each_none = tt
pieces-named {s} (each_next {a = f} p ps) = (low, pieces-named ps)
  where
    low : name_word f ≤ count s.recs names
    low = unfold outside gathered count at in name_low (outside (gathered s [])) f (piece-here p).well (piece-here p).three

-- functions that were derived stay as they are
unfoldable pub Older : Derived → Derived → Type 0
Older a s = (i : ℕ) → i < length a.functions → get_or s.functions i nothing ≡ get_or a.functions i nothing

pub older_same : (a s : Derived) → s.functions ≡ a.functions → Older a s
unfolding Older
older_same a s q i h = ap (λ (l : List Function). get_or l i nothing) q

pub older_trans : (a b c : Derived) → length a.functions ≤ length b.functions → Older a b → Older b c → Older a c
unfolding Older
older_trans a b c l p q i h = q i (omega arith) ∙ p i h

-- ---- what holds of a state s that came from a, the source m being set
pub record From (m : Module) (a s : Derived) : Type 0 where
  pub typed : Typed (tables m) s
  pub after : Known.Follows (tables m) a s
  pub keeps : Keeps a s
  pub knows : (k : ℕ) → 0 < known m a k → known m s k ≡ known m a k
  pub grown : Grown a s
  pub older : Older a s
  pub pieces : Each (Piece s) s.functions

pub from_good : {m : Module} {a s : Derived} → From m a s → Lawful.Good m s
from_good f = record { kept = f.typed.kept; named = pieces-named f.pieces }

keeps_self : (s : Derived) → Keeps s s
unfolding Keeps
keeps_self s t n h = refl

pub from_self : {m : Module} {s : Derived} → Typed (tables m) s → Known.Follows (tables m) s s → Each (Piece s) s.functions → From m s s
from_self {s} t f p = record { typed = t; after = f; keeps = keeps_self s; knows = λ k h. refl; grown = grown_refl s; older = older_same s s refl; pieces = p }

pub from_refl : {m : Module} {a s : Derived} → From m a s → From m s s
from_refl f = from_self f.typed (Known.follows_refl f.after) f.pieces

pub from_trans : {m : Module} {a b c : Derived} → From m a b → From m b c → From m a c
from_trans {m} {a} {b} {c} f g = record {
  typed = g.typed;
  after = Known.follows_trans f.after g.after;
  keeps = keeps_trans a b c f.keeps g.keeps;
  knows = λ k h. let e = f.knows k h in g.knows k (rw e h) ∙ e;
  grown = grown_trans f.grown g.grown;
  older = older_trans a b c f.grown.functions f.older g.older;
  pieces = g.pieces;
}

-- the same of one state alone, which is what a session keeps, and of what an operation does beside it
pub record Holds (T : Tables) (s : Derived) : Type 0 where
  pub typed : Typed T s
  pub names : Known.Follows T s s
  pub pieces : Each (Piece s) s.functions

pub record Next (m : Module) (s r : Derived) : Type 0 where
  pub holds : Holds (tables m) r
  pub keeps : Keeps s r
  pub grown : Grown s r
  pub older : Older s r

pub holds_from : {m : Module} {s : Derived} → Holds (tables m) s → From m s s
holds_from h = from_self h.typed h.names h.pieces

pub from_next : {m : Module} {s r : Derived} → From m s r → Next m s r
from_next f = record { holds = record { typed = f.typed; names = Known.follows_refl f.after; pieces = f.pieces }; keeps = f.keeps; grown = f.grown; older = f.older }

-- ---- the last function of a name

-- a record whose place is among those that were there had it before
seat_back : (ds es : List Cells) (r : Cells) → length ds ≤ length es → ((k : ℕ) → k < length ds → get_or es k [] ≡ get_or ds k []) → index_of es r < length ds → index_of ds r ≡ index_of es r
unfolding index_of
seat_back [] es r l p h = absurd (not-suc-le-zero h)
seat_back (d ∷ ds) [] r l p h = absurd (omega arith)
seat_back (d ∷ ds) (e ∷ es) r l p h = let q : e ≡ d = p 0 (omega arith) in rw q (go (alike d r) (rw q at h) (λ z. seat_back ds es r (omega arith) (λ k w. p (suc k) (omega arith)) z))
  where
    go : (b : Bool) → (let n : ℕ = elim b [ true ↦ 0 | false ↦ suc (index_of es r) ] in n) < suc (length ds) → (index_of es r < length ds → index_of ds r ≡ index_of es r)
        → ◌≡◌ {A = ℕ} (elim b [ true ↦ 0 | false ↦ suc (index_of ds r) ]) (elim b [ true ↦ 0 | false ↦ suc (index_of es r) ])
    go true h f = refl
    go false h f = ap suc (f (omega arith))

-- the name of function n, by text
abbrev text : Module → ℕ → Cells
text m n = rec_at (tables m) names (pred (name_word (function_at m n)))

named-at : (fs : List Function) → functions_named fs ≡ true → (i : ℕ) → i < length fs → expressions_named (get_or fs i nothing) ≡ true
unfolding functions_named
named-at [] h i l = absurd (omega arith)
named-at (g ∷ fs) h zero l = (and_split (expressions_named g) (functions_named fs) h).0
named-at (g ∷ fs) h (suc i) l = named-at fs (and_split (expressions_named g) (functions_named fs) h).1 i (omega arith)

module _ (m : Module) (well : WellFormed m) (ok : Passes m) (o : ℕ) where
  -- ---- an import of a table's record
  pub from_import : (a : Derived) (t : Tab) (n : ℕ) (s : Derived) → n < count (tables m) t → From m a s → From m a (import_t o (tables m) t n s)
  from_import a t n s h f =
      let r : Derived = import_t o (tables m) t n s in
      let g = Lawful.import_grown m well ok.numbers ok.lowers o t n s h (from_good f) in
      from_trans f (record {
        typed = (typed_keeping m well ok.numbers ok.lowers o).imports t n s h f.typed;
        after = (follows_keeping m well ok.numbers ok.lowers o s).imports t n s h (Known.follows_refl f.after);
        keeps = import_keeps m well ok.numbers ok.lowers o t n s h f.typed.kept;
        knows = λ k w. Lawful.known-stays m s r (from_good f) g.tables (type_functions o (tables m) t n s) k w;
        grown = g;
        older = older_same s r (type_functions o (tables m) t n s);
        pieces = each_same (sym (type_functions o (tables m) t n s)) (pieces_grown g f.pieces);
      })

  pub follow-idle : (d : ℕ) (s : Derived) (n : ℕ) → 0 < known m s n → follow_f d o m n s ≡ s
  unfolding follow_f
  follow-idle zero s n h = refl
  follow-idle (suc d) s n h = once_is (λ r. r ≡ s) (known m s n) _ s (λ e. absurd (omega arith)) (λ e. refl)

  pub source-passes : (n : ℕ) → n < length m.functions → Bodies.Passes m (function_at m n)
  source-passes n l = function-passes m well ok.numbers ok.lowers ok.scope n (function_at m n) (unfold function_at in looked_at m.functions n nothing l)

  source-named : functions_named m.functions ≡ true
  unfolding named
  source-named =
      let h₁ = and_split (present (function_names m.functions)) _ ok.names in
      let h₂ = and_split (present (entry_names m.entries)) _ h₁.1 in
      (and_split (functions_named m.functions) _ h₂.1).0

  -- ---- a function that passed, with a way to follow what it calls
  module _ (fol : ℕ → Derived → Derived) (Q : ℕ → Type 0) (s : Derived) (follows : Lawful.Follows o m fol Q (From m s)) (F : Function) (pass : Bodies.Passes m F) (calls : All Q (callees F)) (f : From m s s) where
    abbrev e : Derived
    e = (final o m fol F s).out

    abbrev F' : Function
    F' = localized o m fol F s

    pub ends : From m s e
    ends = Theorems.out_good m well ok.numbers ok.lowers o fol Q (From m s) follows F pass calls s f

    pub again : (D : Module) → ((t : Tab) → count e.recs t ≤ count (tables D) t) → length e.functions ≤ length D.functions → Bodies.Passes D F'
    again = Theorems.passes-again m well ok.numbers ok.lowers o fol Q (From m s) follows F pass calls s f

    pub names_again : expressions_named F ≡ true → expressions_named F' ≡ true
    names_again h = derived-named o m fol F s h (Theorems.names_mapped m well ok.numbers ok.lowers o fol Q (From m s) follows F pass calls s f)

    pub origin : Of m F → Origin e F'
    origin q = record {
      source = m;
      well = well;
      passes = ok;
      function = F;
      is = q;
      under = final o m fol F s;
      kept = ends.typed;
      grown = grown_refl e;
      agrees = λ D. Theorems.agrees m well ok.numbers ok.lowers o fol Q (From m s) follows F pass calls s f D (maps_of (mapped_to m (final o m fol F s))) (maps_match m Q (final o m fol F s));
    }

    -- its name
    module _ (k : ℕ) (rest : Cells) (is : F.head ≡ (NAME, suc k) ∷ rest) (low : k < length m.names) where
      declared_name : 0 < map_at (declared o m fol F s).out.maps names k
      unfolding declarations
      declared_name = first F.head is (Function.decl_has o m fol Q (From m s) (Lawful.lawful m well ok.numbers ok.lowers o fol Q (From m s) follows) F (Bodies.fine o m fol Q (From m s) (Lawful.lawful m well ok.numbers ok.lowers o fol Q (From m s) follows) F pass calls) s f)
        where
          first : (cs : Cells) → cs ≡ (NAME, suc k) ∷ rest → AllN (HasN (mapped_to m (declared o m fol F s))) (refs (cs ++ flat_all F.arguments ++ F.result ++ flat_all F.locals)) → 0 < map_at (declared o m fol F s).out.maps names k
          first cs q a = unfold mapped_to in seen (rw q at a)
            where
              seen : AllN (HasN (mapped_to m (declared o m fol F s))) (refs (((NAME, suc k) ∷ rest) ++ flat_all F.arguments ++ F.result ++ flat_all F.locals)) → 0 < mapped_to m (declared o m fol F s) (table names) k
              seen b = let c : AllN (HasN (mapped_to m (declared o m fol F s))) (node (table names) k ∷ refs (rest ++ flat_all F.arguments ++ F.result ++ flat_all F.locals)) = (unfold refs ref_of target targets in b) in c.0

      pub derived_name : (name_word F' ≡ suc (index_of (name_table e) (rec_at (tables m) names k))) × (index_of (name_table e) (rec_at (tables m) names k) < length (name_table e))
      derived_name =
          let w : name_word F' ≡ map_at (declared o m fol F s).out.maps names k = (unfold name_word localized derived in carried_name m o (declared o m fol F s) F.head k rest is) in
          let x : map_at e.maps names k ≡ map_at (declared o m fol F s).out.maps names k = (unfold mapped_to in (Theorems.grows m well ok.numbers ok.lowers o fol Q (From m s) follows F pass calls s f).keeps (table names) k (unfold mapped_to in declared_name)) in
          let y = ends.after.sound k (rw x declared_name) (unfold count tables at in low) in
          (w ∙ sym x ∙ y.0, y.1)

  -- ---- a function of the table, whose name is unknown, is appended
  module _ (fol : ℕ → Derived → Derived) (Q : ℕ → Type 0) (s : Derived) (follows : Lawful.Follows o m fol Q (From m s)) (n : ℕ) (l : n < length m.functions) (calls : All Q (callees (function_at m n))) (f : From m s s) where
    abbrev G : Function
    G = function_at m n

    pass : Bodies.Passes m G
    pass = source-passes n l

    abbrev E : Derived
    E = (final o m fol G s).out

    abbrev G' : Function
    G' = localized o m fol G s

    abbrev R : Derived
    R = append o m fol n s

    -- it has its name
    name : (name_word G' ≡ suc (index_of (name_table E) (text m n))) × (index_of (name_table E) (text m n) < length (name_table E))
    name =
        let h = headed m well ok.numbers ok.names n l in
        let q : name_word G ≡ suc h.name = (unfold name_word in rw h.is refl) in
        rw q (derived_name fol Q s follows G pass calls f h.name h.rest h.is h.in_range_lem)

    longer : Grown E R
    unfolding append appended
    longer = record { tables = (grown_refl E).tables; functions = simp length-append (omega arith) }

    later : Older E R
    unfolding append appended Older
    later i h = get_or-append E.functions (G' ∷ []) nothing i h

    pub piece : Piece R G'
    piece = record {
      passes = λ D t w. again fol Q s follows G pass calls f D (λ u. le_trans (longer.tables.longer u) (t u)) (le_trans longer.functions w);
      called = rw name.0 (omega arith);
      names = names_again fol Q s follows G pass calls f (unfold function_at in named-at m.functions source-named n l);
      origin = origin_grown longer (origin fol Q s follows G pass calls f (of_table n l));
    }

    -- from this function, through the maps of the state that it is appended to
    pub piece_from : (piece.origin.source ≡ m) × (piece.origin.function ≡ G) × (piece.origin.under.out.maps ≡ R.maps)
    unfolding piece origin_grown origin append appended
    piece_from = (refl, refl, refl)

    pub found : 0 < known m R n
    unfolding known append appended
    found = rw (← name.0) (Known.last_hit E.functions G' 0 0)

    -- and takes no other's
    others : known m s n ≡ 0 → (k : ℕ) → 0 < known m s k → known m R k ≡ known m s k
    others z k h = stays ∙ (ends fol Q s follows G pass calls f).knows k h
      where
        fe : From m s E
        fe = ends fol Q s follows G pass calls f

        there : index_of (name_table s) (text m k) < length (name_table s)
        there = unfold known count in Lawful.last-named (count s.recs names) s.functions 0 0 (suc (index_of (name_table s) (text m k))) (from_good f).named (λ x. absurd (omega arith)) (unfold known in h)

        same : index_of (name_table E) (text m n) ≡ index_of (name_table E) (text m k) → index_of (name_table s) (text m n) ≡ index_of (name_table s) (text m k)
        same q =
            let a = fe.after.seats (text m k) there in
            seat_back (name_table s) (name_table E) (text m n) (unfold count in fe.grown.tables.longer names) (unfold rec_at count in fe.grown.tables.prefix names) (omega (arith, a.0, q, there)) ∙ q ∙ a.0

        same_known : index_of (name_table s) (text m n) ≡ index_of (name_table s) (text m k) → known m s n ≡ known m s k
        same_known q = unfold known in rw q refl

        apart : name_word G' ≡ suc (index_of (name_table E) (text m k)) → ⊥
        apart q =
            let p : index_of (name_table E) (text m n) ≡ index_of (name_table E) (text m k) = omega (arith, q, name.0) in
            let w : known m s n ≡ known m s k = same_known (same p) in
            omega arith

        stays : known m R k ≡ known m E k
        stays = unfold known append appended in last_miss E.functions G' 0 0 (suc (index_of (name_table E) (text m k))) (ne_eqb (name_word G') (suc (index_of (name_table E) (text m k))) apart)

    -- it is the last of the functions
    pub last : (suc (length E.functions) ≡ length R.functions) × (get_or R.functions (length E.functions) nothing ≡ G')
    unfolding append appended
    last = (sym (simp length-append (omega arith)), get_or-append_seam E.functions G' [] nothing)

    -- and its name finds it
    pub found_last : known m R n ≡ length R.functions
    unfolding known append appended
    found_last = rw (← name.0) (let p = Known.last_place E.functions G' 0 0 in let q : suc (length E.functions) ≡ length R.functions = last.0 in omega (arith, p, q))

    -- whether its name was known or not
    pub append-next : Next m s R
    unfolding append appended Keeps
    append-next =
        let fe = ends fol Q s follows G pass calls f in
        record {
          holds = record {
            typed = (typed_keeping m well ok.numbers ok.lowers o).appends G' E fe.typed;
            names = Known.follows_refl ((follows_keeping m well ok.numbers ok.lowers o s).appends G' E fe.after);
            pieces = each_append (pieces_grown longer fe.pieces) (each_next piece each_none);
          };
          keeps = fe.keeps;
          grown = grown_trans fe.grown longer;
          older = older_trans s E R fe.grown.functions fe.older later;
        }

    pub append_from : known m s n ≡ 0 → From m s R
    unfolding append appended Keeps
    append_from z =
        let fe = ends fol Q s follows G pass calls f in
        record {
          typed = append-next.holds.typed;
          after = (follows_keeping m well ok.numbers ok.lowers o s).appends G' E fe.after;
          keeps = append-next.keeps;
          knows = others z;
          grown = append-next.grown;
          older = append-next.older;
          pieces = append-next.holds.pieces;
        }

  -- ---- THE NESTED FOLLOW
  record Step (a s r : Derived) (n : ℕ) : Type 0 where
    on : From m s r
    maps : 0 < known m r n

  step_follows : (fol : ℕ → Derived → Derived) (d : ℕ) (a : Derived) → ((n : ℕ) (s : Derived) → Low d m a n → From m a s → Step a s (fol n s) n) → ((n : ℕ) (s : Derived) → 0 < known m s n → fol n s ≡ s) → Lawful.Follows o m fol (λ n. Low d m a n) (From m a)
  step_follows fol d a step idle = record {
    is_good = λ s f. from_good f;
    imports = λ t n s h f. from_import a t n s h f;
    good = λ n s q f. from_trans f (step n s q f).on;
    maps = λ n s q f. (step n s q f).maps;
    keeps = λ n s q f. (step n s q f).on.keeps;
    knows = λ n s q f. (step n s q f).on.knows;
    idle = idle;
    grown = λ n s q f. (step n s q f).on.grown;
  }

  known_step : (k : ℕ) (a : Derived) (n : ℕ) (s : Derived) → 0 < known m s n → From m a s → Step a s (follow_f k o m n s) n
  known_step k a n s h f = rw (follow-idle k s n h) (record { on = from_refl f; maps = h })

  pub follows : (d k : ℕ) → d ≤ k → (a : Derived) → Lawful.Follows o m (follow_f k o m) (λ n. Low d m a n) (From m a)
  unfolding follow_f Low
  follows zero k l a = step_follows (follow_f k o m) zero a (λ n s q f. known_step k a n s (rw (f.knows n (unfold Low in q)) (unfold Low in q)) f) (λ n s h. follow-idle k s n h)
  follows (suc d) zero l a = absurd (not-suc-le-zero l)
  follows (suc d) (suc k) l a = step_follows (follow_f (suc k) o m) (suc d) a (λ n s q f. go n s q f (follows d k (omega arith) s)) (λ n s h. follow-idle (suc k) s n h)
    where
      new : (n : ℕ) (s : Derived) → From m a s → Lawful.Follows o m (follow_f k o m) (λ j. Low d m s j) (From m s) → known m s n ≡ 0 → (n < length m.functions) × All (λ j. Low d m a j) (callees (function_at m n)) → Step a s (append o m (follow_f k o m) n s) n
      new n s f ih z w =
          let c = all_map (callees (function_at m n)) (λ j. low_on d m a s (λ x h. rw (f.knows x h) h) j) w.1 in
          record { on = append_from (follow_f k o m) (λ j. Low d m s j) s ih n w.0 c (from_refl f) z; maps = found (follow_f k o m) (λ j. Low d m s j) s ih n w.0 c (from_refl f) }

      side : (n : ℕ) (s : Derived) → From m a s → known m s n ≡ 0 → Low (suc d) m a n → (n < length m.functions) × All (λ j. Low d m a j) (callees (function_at m n))
      side n s f z (inl h) = absurd (let q = f.knows n h in omega arith)
      side n s f z (inr w) = w

      go : (n : ℕ) (s : Derived) → Low (suc d) m a n → From m a s → Lawful.Follows o m (follow_f k o m) (λ j. Low d m s j) (From m s) → Step a s (follow_f (suc k) o m n s) n
      go n s q f ih = once_is (λ r. Step a s r n) (known m s n) _ s (λ z. new n s f ih z (side n s f z q)) (λ h. record { on = from_refl f; maps = h })

  -- a function of unknown name, followed, is the last one, and its name finds it
  pub followed_last : (d k : ℕ) → d ≤ k → (n : ℕ) (s : Derived) → Low d m s n → From m s s → known m s n ≡ 0 → known m (follow_f k o m n s) n ≡ length (follow_f k o m n s).functions
  unfolding follow_f Low unless_mapped
  followed_last zero k l n s h f z = absurd (omega arith)
  followed_last (suc d) zero l n s h f z = absurd (not-suc-le-zero l)
  followed_last (suc d) (suc k) l n s (inl h) f z = absurd (omega arith)
  followed_last (suc d) (suc k) l n s (inr w) f z = rw z (found_last (follow_f k o m) (λ j. Low d m s j) s (follows d k (omega arith) s) n w.0 w.1 f)
