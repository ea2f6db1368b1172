-- WALKS: the maps of link are those of every import where it has mapped, since what is mapped stays mapped; so every function and every entry point of the linked module agrees with its source, as walks need it.
use Rattle.std.proofs.Math.Path.{◌≡◌, refl, sym, ap}
use Rattle.std.proofs.Common.{◌∙◌, arith, length-set, get_or-set_same, get_or-set_other}
use Rattle.std.proofs.Math.Bool.{true}
use mathlib.Core.List.{List, [], ◌∷◌, ◌++◌, append-nil}
use Rattle.std.proofs.Math.Option.{some}
use Prim.Native.Nat.{ℕ, zero, suc, ◌<◌, pred}
use Rattle.std.specs.Prelude.{length, replicate, ◌⊎◌}
use Rattle.std.proofs.Math.ListN.{get_or, get_elem?, length-map}
use Rattle.std.proofs.lemmas.List.{length-replicate}
use Rattle.theory_lists.specs.Lists.{looked_map, looked_at, looked_get_d, looked_length}
use Rattle.theory_lists.specs.Booleans.{and_split}
use Rattle.model.specs.Tree.{Function, Entry, flat, flat_entry}
use Rattle.model.specs.Module.{Module}
use Rattle.model.specs.Carry.{carry_function, carry_entry, carry, WellFunction, WellFormed}
use Rattle.model.specs.Intake.{Passes}
use Rattle.model.specs.Initial.{Mem, here, there}
use Rattle.model.specs.Numbers.{every, within, outside, inside, sound, sound_entry}
use Rattle.theory_bodies.specs.Names.{renamed_agrees}
use Rattle.theory_image.specs.Within.{within-append}
use Rattle.theory_records.specs.Functions.{cells_in}
use Rattle.theory_finish.specs.Lifted.{each_kept}
use Rattle.model.specs.Calls.{In, here as here_in, later as later-in, ordered}
use Rattle.model.specs.Callees.{calls, order_of}
use Rattle.model.specs.Redirect.{nothing, function as function_at}
use Rattle.model.specs.Tables.{types, constants, overrides, globals, exprs, tables}
use Rattle.model.specs.References.{Place, table, own, function, Node, refs, fold_refs}
use Rattle.model.specs.Imports.{Derived, import_t, fresh}
use Rattle.model.specs.Special.{sourced}
use Rattle.model.specs.Bodies.{Builder, bring, mapped_to, step, final, localized, appended, append, follow, entered, entry_made, enter_all, entries_made}
use Rattle.model.specs.Finish.{renumber, with_names, named_by, appearing, gathered, finished}
use Rattle.model.specs.Session.{with_entries}
use Rattle.model.specs.Link.{append_all, link_by}
use Rattle.model.specs.LinkMaps.{memos_of, memos_in, link_maps}
use Rattle.model.specs.Agreement.{MayShare, Among, first, later}
use Rattle.theory_walks.specs.Agreement.{Maps, Agrees}
use Rattle.theory_walks.specs.WholeWords.{made}
use Rattle.theory_order.specs.Lists.{in_right}
use Rattle.theory_order.specs.Theorems.{each_once, times_in}
use Rattle.theory_records.specs.Trace.{Keeps, keeps_trans}
use Rattle.theory_records.specs.Imported.{Kept, import_kept, import_keeps}
use Rattle.theory_bodies.specs.Inv.{place}
use Rattle.theory_bodies.specs.Carried.{Match}
use Rattle.theory_bodies.specs.Theorems as Theorems
use Rattle.theory_finish.specs.Finished.{renumber-only}
use Rattle.theory_finish.specs.Firsts.{Once, once-next}
use Rattle.theory_finish.specs.Fresh.{state_at}
use Rattle.theory_finish.specs.Ringless.{low}
use Rattle.theory_finish.specs.Sessions.{Keeping, specials_in, follow-kept, functions_kept, enter_all_kept, entries_kept}
use Rattle.theory_finish.specs.Specials.{kept-appended}
use Rattle.theory_finish.specs.Counting.{order-once}
use Rattle.theory_link.specs.Exactly.{placed}
use Rattle.theory_link.specs.Function.{Going, keeps_self, Called, pass, calls-all, follows, start, ends}
use Rattle.theory_link.specs.Order.{good_at, functions_made, last, Any, any_follows, at-end, Sound, calls-any, entry_going, entry-made, entry-sound}
use Rattle.theory_link.specs.Places.{Both, both_at, functions_both, all_append, known-place}

-- ---- the expressions' maps
memos_other : (is : List ℕ) (m : Module) (s : Derived) (ms : List (List ℕ)) (i : ℕ) → (Mem i is → ⊥) → get_or (memos_of is m s ms) i [] ≡ get_or ms i []
unfolding memos_of
memos_other [] m s ms i h = refl
memos_other (x ∷ is) m s ms i h = memos_other is m _ _ i (λ k. h (there k)) ∙ get_or-set_other ms x i _ [] (λ q. h (rw q here))

memos_at : (us vs : List ℕ) (i : ℕ) (m : Module) (s : Derived) (ms : List (List ℕ)) → Once (us ++ (i ∷ vs)) → i < length ms → get_or (memos_of (us ++ (i ∷ vs)) m s ms) i [] ≡ (final 0 m (follow 0 m) (function_at m i) (append_all us 0 m s)).memo
unfolding memos_of append_all
memos_at [] vs i m s ms (once-next h o) l = memos_other vs m _ _ i h ∙ get_or-set_same ms i _ [] l
memos_at (x ∷ us) vs i m s ms (once-next h o) l = memos_at us vs i m (append 0 m (follow 0 m) x s) _ o (rw (length-set ms x (final 0 m (follow 0 m) (function_at m x) s).memo) l)

-- "within a function only standing or initialiser expressions may share a record"
abbrev pub Apart : List ℕ → Function → Type 0
Apart o F = (x y k : ℕ) → get_or o x 0 ≡ suc k → get_or o y 0 ≡ suc k → (x ≡ y) ⊎ (MayShare F x × MayShare F y)

-- ---- a function whose names are numbered again agrees as it did

module _ (m : Module) (well : WellFormed m) (ok : Passes m) where
  -- what is mapped stays mapped
  Stays : Derived → Derived → Type 0
  Stays a r = Kept (tables m) r × Keeps a r

  stays_keeping : (a : Derived) → Keeping m 0 (Stays a)
  unfolding Stays
  stays_keeping a = record {
    imports = λ t n s l k. ((import_kept m well ok.numbers ok.lowers 0 t n s l k.0).0, keeps_trans a s (import_t 0 (tables m) t n s) k.1 (import_keeps m well ok.numbers ok.lowers 0 t n s l k.0));
    appends = λ f s k. (kept-appended m well ok.numbers ok.lowers 0 f s k.0, unfold appended Keeps in (unfold Keeps in k.1));
  }

  module _ (os : List ℕ) (e : order_of m ≡ ordered os) where
    abbrev z : Derived
    z = last m well ok os e

    -- the state in the end
    abbrev pub end : Derived
    end = enter_all m.entries 0 m z

    abbrev m' : Module
    m' = link_by os m

    abbrev μ : Maps
    μ = made (link_maps os m)

    entries_going : (es : List Entry) → ((E : Entry) → Among E es → Sound m E) → (s : Derived) → Going m z s → Going m z (enter_all es 0 m s)
    unfolding enter_all
    entries_going [] h s g = g
    entries_going (E ∷ es) h s g = entries_going es (λ D k. h D (later k)) (entered 0 m E s).out (entry_going m well ok os e E (h E first) s g)

    pub end_going : Going m z end
    end_going = entries_going m.entries (entry-sound m well ok os e) z (at-end m well ok os e)

    module _ (us vs : List ℕ) (i : ℕ) (q : os ≡ us ++ (i ∷ vs)) where
      abbrev a : Derived
      a = state_at m us

      abbrev F : Function
      F = function_at m i

      abbrev fin : Builder
      fin = final 0 m (follow 0 m) F a

      abbrev F' : Function
      F' = localized 0 m (follow 0 m) F a

      l : i < length m.functions
      l = low m os e i (rw q (in_right us here_in))

      pub going : Going m a fin.out
      going = ends m well ok os e us vs i q (good_at m well ok os e us (i ∷ vs) q)

      pub keeps_end : Keeps fin.out end
      unfolding Stays
      keeps_end = (entries_kept m ok.numbers (stays_keeping fin.out) z at_last).1
        where
          at_last : Stays fin.out (state_at m os)
          at_last = rw (q, all_append us (i ∷ vs) 0 m (sourced 0 m fresh)) (unfold append_all in functions_kept m ok.numbers (stays_keeping fin.out) vs (append 0 m (follow 0 m) i a) (unfold append in (stays_keeping fin.out).appends F' fin.out (going.good.kept, keeps_self fin.out)))

      pub memo_is : get_or (link_maps os m).in_functions i [] ≡ fin.memo
      unfolding link_maps
      memo_is = memo
        where
          memo : get_or (memos_of os m (sourced 0 m fresh) (replicate (length m.functions) [])) i [] ≡ fin.memo
          memo = rw q (memos_at us vs i m (sourced 0 m fresh) (replicate (length m.functions) []) (rw q at (order-once m os e)) (rw (length-replicate {A = List ℕ} (length m.functions) []) l))

      own_map : μ.in_function i ≡ place fin.memo
      unfolding made place
      own_map = ap {B = ℕ → ℕ} (λ (o : List ℕ). λ (x : ℕ). pred (get_or o x 0)) memo_is

      pub apart-at : Apart (get_or (link_maps os m).in_functions i []) F
      unfolding place
      apart-at = rw memo_is (λ x y k g h. Theorems.shares m well ok.numbers ok.lowers 0 (follow 0 m) (Called m well ok os e i) (Going m a) (follows m well ok os e us vs i q) F (pass m well ok os e us vs i q) (calls-all m well ok os e us vs i q) a (start m well ok os e us vs i q (good_at m well ok os e us (i ∷ vs) q)) x y (omega arith) (omega arith) (ap pred (g ∙ sym h)))

      match : Match μ (place fin.memo) (Called m well ok os e i) (mapped_to m fin)
      unfolding made link_maps mapped_to Keeps place
      match = record {
        of_types_lem = λ n h. ap pred (keeps_end types n h);
        of_constants_lem = λ n h. ap pred (keeps_end constants n h);
        of_overrides_lem = λ n h. ap pred (keeps_end overrides n h);
        of_globals_lem = λ n h. ap pred (keeps_end globals n h);
        of_inits = λ n h. ap pred (keeps_end exprs n h);
        of_functions = λ n c h. let p = known-place m well ok os e us (i ∷ vs) q fin.out going.after going.same n c.to h in ap pred (placed m os e p.0 n p.1 ∙ sym p.2);
        of_own = λ n h. refl;
      }

      pub agrees_at : Agrees m m' μ F F' (μ.in_function i) × WellFunction F'
      agrees_at = (rw own_map (Theorems.agrees m well ok.numbers ok.lowers 0 (follow 0 m) (Called m well ok os e i) (Going m a) (follows m well ok os e us vs i q) F (pass m well ok os e us vs i q) (calls-all m well ok os e us vs i q) a (start m well ok os e us vs i q (good_at m well ok os e us (i ∷ vs) q)) m' μ match), (functions_made m well ok os e us vs i q).well)

    abbrev R : ℕ → Function → Type 0
    R i f = Agrees m m' μ (function_at m i) f (μ.in_function i) × WellFunction f × Apart (get_or (link_maps os m).in_functions i []) (function_at m i)

    pub all-agree : Both R os z.functions
    all-agree = functions_both m well ok os e R os [] (rw (append-nil os)) (λ us vs i q. ((agrees_at us vs i q).0, (agrees_at us vs i q).1, apart-at us vs i q))

    in_at : (l : List ℕ) (i : ℕ) → In i l → (p : ℕ) × (get_elem? l p ≡ some i)
    in_at [] i k = elim k [ ]
    in_at (x ∷ l) i here_in = (0, refl)
    in_at (x ∷ l) i (later-in k) = let r = in_at l i k in (suc r.0, r.1)

    pub place_of : (i : ℕ) → i < length m.functions → (p : ℕ) × (get_elem? os p ≡ some i)
    place_of i h = in_at os i (times_in os i (omega (arith, each_once (length m.functions) (calls m) os (unfold order_of in e) i h)))

    pub function-apart : (i : ℕ) (F : Function) → get_elem? m.functions i ≡ some F → Apart (get_or (link_maps os m).in_functions i []) F
    function-apart i F q =
        let p = place_of i (looked_length m.functions i q) in
        let f : function_at m i ≡ F = (unfold function_at in looked_get_d m.functions i nothing q) in
        rw f at (both_at all-agree p.0 i p.1).2.2

    -- each function has its place, no two have one, and every place is one of these
    pub place_is : (i : ℕ) → i < length m.functions → get_or (link_maps os m).functions i 0 ≡ suc (μ.function i)
    unfolding made
    place_is i h = let p = place_of i h in let k = placed m os e p.0 i p.1 in let u : μ.function i ≡ p.0 = ap pred k in k ∙ ap suc (sym u)

    pub places-once : (i j : ℕ) → i < length m.functions → j < length m.functions → get_or (link_maps os m).functions i 0 ≡ get_or (link_maps os m).functions j 0 → i ≡ j
    places-once i j a b q =
        let p = place_of i a in
        let r = place_of j b in
        let k : p.0 ≡ r.0 = (let x = placed m os e p.0 i p.1 in let y = placed m os e r.0 j r.1 in omega arith) in
        let g : get_elem? os r.0 ≡ some i = rw (← k) p.1 in
        let h = r.1 in cc

    some_at : (l : List ℕ) (j : ℕ) → j < length l → (i : ℕ) × (get_elem? l j ≡ some i) × In i l
    some_at [] j h = absurd (omega arith)
    some_at (x ∷ l) zero h = (x, refl, here_in)
    some_at (x ∷ l) (suc j) h = let r = some_at l j (omega arith) in (r.0, r.1, later-in r.2)

    pub places_onto : (j : ℕ) → j < length os → (i : ℕ) × (F : Function) × (get_elem? m.functions i ≡ some F) × (get_or (link_maps os m).functions i 0 ≡ suc j)
    places_onto j h = let r = some_at os j h in (r.0, function_at m r.0, unfold function_at in looked_at m.functions r.0 nothing (low m os e r.0 r.2), placed m os e j r.0 r.1)

    entries_length : (ds : List Entry) (s : Derived) → length (entries_made ds 0 m s) ≡ length ds
    unfolding entries_made
    entries_length [] s = refl
    entries_length (E ∷ ds) s = ap suc (entries_length ds (entered 0 m E s).out)

    pub entries_count : length m'.entries ≡ length m.entries
    unfolding link_by with_entries finished named_by with_names carry gathered
    entries_count = length-map (entries_made m.entries 0 m z) (carry_entry (renumber (appearing (gathered end (entries_made m.entries 0 m z))))) ∙ entries_length m.entries z

    -- a derived function and a derived entry point in the linked module: their names are numbered again
    pub linked-function : (p : ℕ) (f : Function) → get_elem? end.functions p ≡ some f → get_elem? m'.functions p ≡ some (carry_function (renumber (appearing (gathered end (entries_made m.entries 0 m z)))) f)
    unfolding link_by with_entries finished named_by with_names carry gathered
    linked-function p f g = looked_map (carry_function (renumber (appearing (gathered end (entries_made m.entries 0 m z))))) end.functions p {x = f} g

    pub linked-entry : (p : ℕ) (f : Entry) → get_elem? (entries_made m.entries 0 m z) p ≡ some f → get_elem? m'.entries p ≡ some (carry_entry (renumber (appearing (gathered end (entries_made m.entries 0 m z)))) f)
    unfolding link_by with_entries finished named_by with_names carry gathered
    linked-entry p f g = looked_map (carry_entry (renumber (appearing (gathered end (entries_made m.entries 0 m z))))) (entries_made m.entries 0 m z) p {x = f} g

    pub function_agrees : (i : ℕ) (F : Function) → get_elem? m.functions i ≡ some F → (F'' : Function) × (get_elem? m'.functions (μ.function i) ≡ some F'') × Agrees m m' μ F F'' (μ.in_function i)
    function_agrees i F q =
        let l = looked_length m.functions i q in
        let p = place_of i l in
        let b = both_at all-agree p.0 i p.1 in
        let f : function_at m i ≡ F = (unfold function_at in looked_get_d m.functions i nothing q) in
        let es : List Entry = entries_made m.entries 0 m z in
        let ns : List ℕ = appearing (gathered end es) in
        let k : μ.function i ≡ p.0 = (unfold made in ap pred (placed m os e p.0 i p.1)) in
        let g : get_elem? end.functions p.0 ≡ some b.0 = rw end_going.same b.1 in
        (carry_function (renumber ns) b.0, rw k (linked-function p.0 b.0 g), renamed_agrees (renumber-only ns) m m' μ F b.0 (μ.in_function i) b.2.1 (rw f at b.2.0))

    -- ---- entry points
    abbrev Fin : Entry → Derived → Builder
    Fin E s = final 0 m (follow 0 m) E.function s

    pub head_within : (E : Entry) → Sound m E → within (inside (outside m) E.function) E.head ≡ true
    unfolding sound flat_entry
    head_within E k = (within-append (inside (outside m) E.function) E.head (flat E.function) (and_split (within (inside (outside m) E.function) (E.head ++ flat E.function)) _ k.three).0).0

    pub body_good : (E : Entry) → Sound m E → (s : Derived) → Going m z s → Kept (tables m) (Fin E s).out
    body_good E k s g = (Theorems.out_good m well ok.numbers ok.lowers 0 (follow 0 m) (Any m well ok os e) (Going m z) (any_follows m well ok os e) E.function k.pass (calls-any m well ok os e E k s g) s g).good.kept

    each_memo : (js : List Node) (x : Builder) → (fold_refs js (step 0 m (follow 0 m) (λ y n. n)) x).memo ≡ x.memo
    unfolding fold_refs
    each_memo [] x = refl
    each_memo (j ∷ js) x = each_memo js _ ∙ one j.place j.num
      where
        one : (p : Place) (n : ℕ) → (step 0 m (follow 0 m) (λ y n. n) p n x).memo ≡ x.memo
        one (table t) n = unfold step bring in refl
        one own n = unfold step bring in refl
        one function n = unfold step bring in refl

    -- the name of an entry point, after its function
    head_stays : (E : Entry) → Sound m E → (s : Derived) → Going m z s → Stays (Fin E s).out (entered 0 m E s).out
    unfolding entered Stays
    head_stays E k s g = each_kept m 0 (Stays (Fin E s).out) (stays_keeping (Fin E s).out).imports (follow 0 m) (λ n r h. follow-kept m ok.numbers (stays_keeping (Fin E s).out) n r h) (λ x y. y) (λ x y h. h) (refs E.head) (cells_in m E.function E.head (head_within E k)) (Fin E s) (body_good E k s g, keeps_self (Fin E s).out)

    -- entry point p of es is imported in some state of the session
    pub record Turn (es : List Entry) (s : Derived) (p : ℕ) (E : Entry) : Type 0 where
      pub state : Derived
      pub sound : Sound m E
      pub going : Going m z state
      pub is : get_elem? (entries_made es 0 m s) p ≡ some (entry_made 0 m E state)
      pub memo : get_or (memos_in es m s) p [] ≡ (Fin E state).memo
      pub keeps : Keeps (Fin E state).out (enter_all es 0 m s)
      -- with its name
      pub head_keeps : Keeps (entered 0 m E state).out (enter_all es 0 m s)

    turn : (es : List Entry) → ((E : Entry) → Among E es → Sound m E) → every (sound_entry (outside m)) es ≡ true → (s : Derived) → Going m z s → (p : ℕ) (E : Entry) → get_elem? es p ≡ some E → Turn es s p E
    unfolding entries_made memos_in enter_all every Stays
    turn [] h v s g p E q = let y : ◌≡◌ {A = ℕ} 0 1 = cc in absurd (omega arith)
    turn (D ∷ es) h v s g zero E q = let r : D ≡ E = cc in now r (h E (rw r first)) (and_split (sound_entry (outside m) D) _ v).1
      where
        now : D ≡ E → Sound m E → every (sound_entry (outside m)) es ≡ true → Turn (D ∷ es) s 0 E
        now r k v = rw r (record {
          state = s;
          sound = k;
          going = g;
          is = refl;
          memo = unfold entered in each_memo (refs E.head) (Fin E s);
          keeps = (enter_all_kept m ok.numbers (stays_keeping (Fin E s).out) es v (entered 0 m E s).out (head_stays E k s g)).1;
          head_keeps = (enter_all_kept m ok.numbers (stays_keeping (entered 0 m E s).out) es v (entered 0 m E s).out ((head_stays E k s g).0, keeps_self (entered 0 m E s).out)).1;
        })
    turn (D ∷ es) h v s g (suc p) E q =
        let t = turn es (λ C k. h C (later k)) (and_split (sound_entry (outside m) D) _ v).1 (entered 0 m D s).out (entry_going m well ok os e D (h D first) s g) p E q in
        record { state = t.state; sound = t.sound; going = t.going; is = t.is; memo = t.memo; keeps = t.keeps; head_keeps = t.head_keeps }

    pub the_turn : (p : ℕ) (E : Entry) → get_elem? m.entries p ≡ some E → Turn m.entries z p E
    the_turn p E q = turn m.entries (entry-sound m well ok os e) (specials_in m ok.numbers).2 z (at-end m well ok os e) p E q

    module _ (p : ℕ) (E : Entry) (t : Turn m.entries z p E) where
      abbrev fin' : Builder
      fin' = Fin E t.state

      pub body_going : Going m z fin'.out
      body_going = Theorems.out_good m well ok.numbers ok.lowers 0 (follow 0 m) (Any m well ok os e) (Going m z) (any_follows m well ok os e) E.function t.sound.pass (calls-any m well ok os e E t.sound t.state t.going) t.state t.going

      entry-map : μ.in_entry p ≡ place fin'.memo
      unfolding made link_maps place
      entry-map = ap {B = ℕ → ℕ} (λ (o : List ℕ). λ (x : ℕ). pred (get_or o x 0)) t.memo

      pub entry-apart : Apart (get_or (link_maps os m).in_entries p []) E.function
      unfolding link_maps place
      entry-apart = rw t.memo (λ x y k g h. Theorems.shares m well ok.numbers ok.lowers 0 (follow 0 m) (Any m well ok os e) (Going m z) (any_follows m well ok os e) E.function t.sound.pass (calls-any m well ok os e E t.sound t.state t.going) t.state t.going x y (omega arith) (omega arith) (ap pred (g ∙ sym h)))

      entry_match : Match μ (place fin'.memo) (Any m well ok os e) (mapped_to m fin')
      unfolding made link_maps mapped_to Keeps place
      entry_match = record {
        of_types_lem = λ n h. ap pred (t.keeps types n h);
        of_constants_lem = λ n h. ap pred (t.keeps constants n h);
        of_overrides_lem = λ n h. ap pred (t.keeps overrides n h);
        of_globals_lem = λ n h. ap pred (t.keeps globals n h);
        of_inits = λ n h. ap pred (t.keeps exprs n h);
        of_functions = λ n c h. let p = known-place m well ok os e os [] (rw (append-nil os)) fin'.out body_going.after body_going.same n c h in ap pred (placed m os e p.0 n p.1 ∙ sym p.2);
        of_own = λ n h. refl;
      }

      pub entry_well : WellFunction (localized 0 m (follow 0 m) E.function t.state)
      unfolding entry_made
      entry_well = (entry-made m well ok os e E t.sound t.state t.going).well.function-ok

      pub entry_agrees_at : Agrees m m' μ E.function (localized 0 m (follow 0 m) E.function t.state) (μ.in_entry p)
      entry_agrees_at = rw entry-map (Theorems.agrees m well ok.numbers ok.lowers 0 (follow 0 m) (Any m well ok os e) (Going m z) (any_follows m well ok os e) E.function t.sound.pass (calls-any m well ok os e E t.sound t.state t.going) t.state t.going m' μ entry_match)

    pub entry_agrees : (p : ℕ) (E : Entry) → get_elem? m.entries p ≡ some E → (E'' : Entry) × (get_elem? m'.entries p ≡ some E'') × Agrees m m' μ E.function E''.function (μ.in_entry p)
    entry_agrees p E q =
        let t = the_turn p E q in
        let ns : List ℕ = appearing (gathered end (entries_made m.entries 0 m z)) in
        (carry_entry (renumber ns) (entry_made 0 m E t.state), linked-entry p (entry_made 0 m E t.state) t.is, carried_agrees t)
      where
        carried_agrees : (t : Turn m.entries z p E) → Agrees m m' μ E.function (carry_entry (renumber (appearing (gathered end (entries_made m.entries 0 m z)))) (entry_made 0 m E t.state)).function (μ.in_entry p)
        carried_agrees t = unfold carry_entry entry_made in renamed_agrees (renumber-only (appearing (gathered end (entries_made m.entries 0 m z)))) m m' μ E.function (localized 0 m (follow 0 m) E.function t.state) (μ.in_entry p) (entry_well p E t) (entry_agrees_at p E t)
