-- EVERY FUNCTION and every entry point of the linked module has the cells of its source (`SameCells`): in output order each is imported in a state of the session, which goes on to the end.
use Rattle.std.specs.Prelude.{◌≡◌, List, [], ◌∷◌, ◌++◌, get_or}
use Rattle.std.proofs.Common.{sym, ◌∙◌, append-nil}
use Rattle.std.proofs.Math.Path.{ap}
use Rattle.std.proofs.Math.Option.{some}
use Prim.Native.Nat.{ℕ, pred}
use Rattle.std.proofs.Math.ListN.{get_elem?}
use Rattle.theory_lists.specs.Lists.{looked_get_d, looked_length}
use Rattle.model.specs.Tree.{Function, Entry, flat, flat_entry}
use Rattle.model.specs.Module.{Module}
use Rattle.model.specs.Carry.{carry_function, carry_entry, Each, WellFormed}
use Rattle.model.specs.Intake.{Passes}
use Rattle.model.specs.Calls.{ordered}
use Rattle.model.specs.Callees.{callees, order_of}
use Rattle.model.specs.Redirect.{nothing, function as function_at}
use Rattle.model.specs.Imports.{Derived}
use Rattle.model.specs.Bodies.{Builder, final, localized, follow, entry_made}
use Rattle.model.specs.Finish.{renumber, gathered}
use Rattle.model.specs.Link.{link_by}
use Rattle.model.specs.LinkMaps.{link_maps}
use Rattle.model.specs.Agreement.{Mapping}
use Rattle.theory_image.specs.Members.{looked_each}
use Rattle.theory_walks.specs.WholeWords.{made}
use Rattle.theory_bodies.specs.Lists.{all_map}
use Rattle.theory_finish.specs.Fresh.{state_at}
use Rattle.theory_finish.specs.Finished.{Seen}
use Rattle.theory_finish.specs.Cellwise.{each_both}
use Rattle.theory_link.specs.Exactly.{placed}
use Rattle.theory_link.specs.Function.{Going, Called, pass, calls-all, callee_known, follows, start}
use Rattle.theory_link.specs.Order.{good_at, functions_made, last, Any, known_at, any_follows, calls-any}
use Rattle.theory_link.specs.Places.{Both, both_at, functions_both, known-place}
use Rattle.theory_link.specs.Walking.{end, end_going, keeps_end, memo_is, going, place_of, Turn, the_turn, body_going, entry_well, linked-function, linked-entry}
use Rattle.theory_link.specs.NameTexts.{ns, whole-seen}
use Rattle.theory_link.specs.SameCells.{SameCells, Lasts, same_cells}

module _ (m : Module) (well : WellFormed m) (ok : Passes m) (os : List ℕ) (e : order_of m ≡ ordered os) where
  abbrev m' : Module
  m' = link_by os m

  abbrev μ : Mapping
  μ = link_maps os m

  abbrev names' : List ℕ
  names' = ns m well ok os e

  abbrev z : Derived
  z = last m well ok os e

  seen_at : (p : ℕ) (f : Function) → get_elem? (end m well ok os e).functions p ≡ some f → Each (Seen names') (flat f)
  unfolding gathered
  seen_at p f g = looked_each (whole-seen m well ok os e).in_functions_lem p g

  -- ---- functions
  -- when its turn comes
  module _ (us vs : List ℕ) (i : ℕ) (q : os ≡ us ++ (i ∷ vs)) where
    abbrev a : Derived
    a = state_at m us

    abbrev F : Function
    F = function_at m i

    abbrev fin : Builder
    fin = final 0 m (follow 0 m) F a

    lasts : Lasts m well ok os e (Called m well ok os e i) (Going m a) (follows m well ok os e us vs i q) F (pass m well ok os e us vs i q) (calls-all m well ok os e us vs i q) a (start m well ok os e us vs i q (good_at m well ok os e us (i ∷ vs) q))
    lasts = let g = going m well ok os e us vs i q in record {
      keeps = keeps_end m well ok os e us vs i q;
      places = λ n c h. let p = known-place m well ok os e us (i ∷ vs) q fin.out g.after g.same n c.to h in placed m os e p.0 n p.1 ∙ sym p.2;
      knows = all_map (callees F) (λ j c. callee_known m well ok os e us vs i q j fin.out c g.after) (calls-all m well ok os e us vs i q);
    }

  -- what is derived of function i, once it is finished
  abbrev R : ℕ → Function → Type 0
  R i f = Each (Seen names') (flat f) → SameCells m m' μ (get_or (link_maps os m).in_functions i []) (function_at m i) (carry_function (renumber names') f)

  all_same : Both R os z.functions
  all_same = functions_both m well ok os e R os [] (rw (append-nil os)) (λ us vs i q v. rw (memo_is m well ok os e us vs i q) (same_cells m well ok os e (Called m well ok os e i) (Going m (state_at m us)) (follows m well ok os e us vs i q) (function_at m i) (pass m well ok os e us vs i q) (calls-all m well ok os e us vs i q) (state_at m us) (start m well ok os e us vs i q (good_at m well ok os e us (i ∷ vs) q)) (lasts us vs i q) (functions_made m well ok os e us vs i q).well v))

  -- FUNCTIONS
  pub functions_same : (i : ℕ) (F F' : Function) → get_elem? m.functions i ≡ some F → get_elem? m'.functions ((made μ).function i) ≡ some F' → SameCells m m' μ (get_or (link_maps os m).in_functions i []) F F'
  functions_same i F F' q r =
      let p = place_of m well ok os e i (looked_length m.functions i q) in
      let b = both_at all_same p.0 i p.1 in
      let f : function_at m i ≡ F = (unfold function_at in looked_get_d m.functions i nothing q) in
      let k : (made μ).function i ≡ p.0 = (unfold made in ap pred (placed m os e p.0 i p.1)) in
      let g : get_elem? (end m well ok os e).functions p.0 ≡ some b.0 = rw (end_going m well ok os e).same b.1 in
      let h : get_elem? m'.functions ((made μ).function i) ≡ some (carry_function (renumber names') b.0) = rw k (linked-function m well ok os e p.0 b.0 g) in
      let same : carry_function (renumber names') b.0 ≡ F' = cc in
      rw (← same) (rw f at (b.2 (seen_at p.0 b.0 g)))

  -- ---- entry points
  module _ (p : ℕ) (E : Entry) (t : Turn m well ok os e m.entries z p E) where
    abbrev fin' : Builder
    fin' = final 0 m (follow 0 m) E.function t.state

    entry_lasts : Lasts m well ok os e (Any m well ok os e) (Going m z) (any_follows m well ok os e) E.function t.sound.pass (calls-any m well ok os e E t.sound t.state t.going) t.state t.going
    entry_lasts = let g = body_going m well ok os e p E t in record {
      keeps = t.keeps;
      places = λ n c h. let r = known-place m well ok os e os [] (rw (append-nil os)) fin'.out g.after g.same n c h in placed m os e r.0 n r.1 ∙ sym r.2;
      knows = all_map (callees E.function) (λ j c. known_at m well ok os e j fin'.out c g.after) (calls-any m well ok os e E t.sound t.state t.going);
    }

    entry_seen : Each (Seen names') (flat (localized 0 m (follow 0 m) E.function t.state))
    unfolding flat_entry entry_made gathered
    entry_seen = (each_both (entry_made 0 m E t.state).head (looked_each (whole-seen m well ok os e).in_entries_lem p t.is)).1

    entry-same : SameCells m m' μ (get_or (link_maps os m).in_entries p []) E.function (carry_function (renumber names') (localized 0 m (follow 0 m) E.function t.state))
    unfolding link_maps
    entry-same = rw t.memo (same_cells m well ok os e (Any m well ok os e) (Going m z) (any_follows m well ok os e) E.function t.sound.pass (calls-any m well ok os e E t.sound t.state t.going) t.state t.going entry_lasts (entry_well m well ok os e p E t) entry_seen)

  -- ENTRY POINTS
  pub entries_same : (i : ℕ) (E E' : Entry) → get_elem? m.entries i ≡ some E → get_elem? m'.entries i ≡ some E' → SameCells m m' μ (get_or (link_maps os m).in_entries i []) E.function E'.function
  entries_same i E E' q r =
      let t = the_turn m well ok os e i E q in
      let h : get_elem? m'.entries i ≡ some (carry_entry (renumber names') (entry_made 0 m E t.state)) = linked-entry m well ok os e i (entry_made 0 m E t.state) t.is in
      let same : carry_entry (renumber names') (entry_made 0 m E t.state) ≡ E' = cc in
      rw (← same) (unfold carry_entry entry_made in entry-same i E t)
