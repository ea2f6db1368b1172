-- IN OUTPUT ORDER every callee is known when its caller is imported: what is imported has its name from then on, and the order has callees first.
use Rattle.std.proofs.Math.Path.{◌≡◌, refl}
use Rattle.std.proofs.Common.{sym, ap, ◌∙◌, arith, length-set}
use Rattle.std.specs.Prelude.{Bool, true, false, not, eqb, length, get_or, set, replicate}
use mathlib.Core.List.{List, [], ◌∷◌, ◌++◌}
use Prim.Native.Nat.{ℕ, zero, suc, ◌<◌, pred}
use Rattle.std.proofs.Math.Nat.{le_of_suc-le-suc}
use Rattle.std.proofs.lemmas.List.{length-replicate}
use Rattle.std.proofs.lemmas.Bool.{not-true}
use Rattle.theory_lists.specs.Lists.{zeros}
use Rattle.theory_lists.specs.Booleans.{and_split}
use Rattle.model.specs.Outcome.{Cells, word}
use Rattle.model.specs.Table.{NAME, SPAN, UPTO, function_head}
use Rattle.model.specs.Tree.{Function, flat_all}
use Rattle.model.specs.Module.{Special, Module}
use Rattle.model.specs.Carry.{carry_cell, Lays, Each, WellFormed}
use Rattle.model.specs.Numbers.{numbered}
use Rattle.model.specs.Lower.{lower}
use Rattle.model.specs.Names.{field, present, function_names, named}
use Rattle.model.specs.Calls.{Call, In, here, later, ordered}
use Rattle.model.specs.Callees.{calls, order_of}
use Rattle.model.specs.Redirect.{nothing, name_word, function as function_at}
use Rattle.model.specs.Tables.{Tab, names, types, code_t, is_t, at, upd, six, Tables, tables, rec_at, count, map_at}
use Rattle.model.specs.References.{table, Node, node, ref_of, refs, target, targets, carry_w, through, moved, shift, index_of}
use Rattle.model.specs.Imports.{Derived, unless_mapped, import_t, unmapped, emptied}
use Rattle.model.specs.Special.{force, with_special, put_ray, put_pair, sourced}
use Rattle.model.specs.Bodies.{known, Builder, bring, mapped_to, carried, step, declarations, declared, derived, final, localized, appended, append, follow_f, follow}
use Rattle.model.specs.Link.{append_all}
use Rattle.theory_image.specs.Plain.{plain?}
use Rattle.theory_image.specs.Quiet.{Plainly, plain-next, plainly}
use Rattle.theory_image.specs.Members.{each_at}
use Rattle.theory_order.specs.Lists.{in_left}
use Rattle.theory_order.specs.Theorems.{callees-first}
use Rattle.theory_records.specs.TableLaws.{Tab_dec, at_same, at_other, at-six, apart}
use Rattle.theory_records.specs.Well.{WF}
use Rattle.theory_records.specs.Trace.{Sized, import_trace}
use Rattle.theory_records.specs.Tested.{tested_wf}
use Rattle.theory_finish.specs.Cellwise.{each_first, function_cells}
use Rattle.theory_finish.specs.Finished.{Low, numbered_low}
use Rattle.theory_finish.specs.Ringless.{low}
use Rattle.theory_finish.specs.Lifted.{declared-after, declared-kept, rest-kept}
use Rattle.theory_finish.specs.Sessions.{Keeping, Setting, function_in_lem, follow-kept, function-kept, functions_kept, sourced-kept}
use Rattle.theory_finish.specs.Known.{Copied, name_copied, last-append, last_hit, name_table, Follows, follows_refl, import_follows}

-- ---- the head of a table function: its name, and a span
pub record Headed (m : Module) (n : ℕ) : Type 0 where
  pub name : ℕ
  pub rest : Cells
  pub is : (function_at m n).head ≡ (NAME, suc name) ∷ rest
  pub in_range_lem : name < length m.names

-- function n has its name in the state s
pub record Bears (m : Module) (s : Derived) (n : ℕ) : Type 0 where
  pub seated : index_of (name_table s) (rec_at (tables m) names (pred (name_word (function_at m n)))) < length (name_table s)
  pub found : 0 < known m s n

pub carried_name : (m : Module) (o : ℕ) (x : Builder) (cs : Cells) (k : ℕ) (r : Cells) → cs ≡ (NAME, suc k) ∷ r → word (get_or (carried o m x cs) 0 (0, 0)) ≡ map_at x.out.maps names k
unfolding carried shift carry_cell through carry_w target targets mapped_to moved
carried_name m o x cs k r q = rw q

module _ (m : Module) (well : WellFormed m) (three : numbered m ≡ true) (four : lower m ≡ true) (o : ℕ) where
  abbrev T : Tables
  T = tables m

  wf : WF T
  wf = tested_wf m well three four

  plain : (k : ℕ) → k < count T names → Copied (rec_at T names k)
  unfolding rec_at count tables at
  plain k h = name_copied (each_at well.names_ok.each k [] h)

  ik : (a : Derived) (t : Tab) (n : ℕ) (s : Derived) → n < count T t → Follows T a s → Follows T a (import_t o T t n s)
  ik a t n s h f = import_follows o T plain wf a s t n h f

  -- ---- a session keeps it
  force_follows : (a s : Derived) (n v : ℕ) → Follows T a s → Follows T a (force n v s)
  unfolding force map_at Sized
  force_follows a s n v k =
      let map : at names (upd types (set (at types s.maps) n v) s.maps) ≡ at names s.maps = at_other types names (set (at types s.maps) n v) s.maps (λ p. differ p) in
      record { sized = sizes; seats = k.seats; mapped = λ j h. rw map (k.mapped j h); sound = λ j h l. rw map (k.sound j (rw map at h) l); borne = k.borne }
    where
      differ : types ≡ names → ⊥
      differ p = unfold is_t code_t in apart types names refl p

      sizes : (u : Tab) → length (at u (upd types (set (at types s.maps) n v) s.maps)) ≡ count (tables m) u
      sizes u =
          elim (Tab_dec types u) [
            | yes p ↦ rw (← p, at_same types (set (at types s.maps) n v) s.maps) (length-set (at types s.maps) n v ∙ k.sized types)
            | no p ↦ rw (at_other types u (set (at types s.maps) n v) s.maps p) (k.sized u)
          ]

  pub follows_keeping : (a : Derived) → Keeping m o (Follows T a)
  follows_keeping a = record {
    imports = ik a;
    appends = λ f s k. unfold appended Sized in record { sized = k.sized; seats = k.seats; mapped = k.mapped; sound = k.sound; borne = λ w h. last-append s.functions (f ∷ []) 0 0 w (k.borne w h) };
  }

  special_follows : (a : Derived) (p : Special) (s : Derived) → Follows T a s → Follows T a (with_special p s)
  unfolding with_special Sized
  special_follows a p s k = record { sized = k.sized; seats = k.seats; mapped = k.mapped; sound = k.sound; borne = k.borne }

  pub follows_setting : (a : Derived) → Setting m o (Follows T a)
  follows_setting a = record {
    ray-new = λ j n s l k. unfold put_ray in special_follows a _ _ (ik a types n s l k);
    ray_old = λ j n v s e k. force_follows a s n (suc v) k;
    pair-new = λ key n s l e k. unfold put_pair in special_follows a _ _ (ik a types n s l k);
    pair_old = λ key n v s e k. force_follows a s n (suc v) k;
  }

  follow_follows : (a : Derived) (n : ℕ) (s : Derived) → Follows T a s → Follows T a (follow o m n s)
  follow_follows a n s k = follow-kept m three (follows_keeping a) n s k

  pub function_follows : (a : Derived) (n : ℕ) (s : Derived) → Follows T a s → Follows T a (append o m (follow o m) n s)
  function_follows a n s k = function-kept m three (follows_keeping a) n s k

  pub all-follow : (a : Derived) (is : List ℕ) (s : Derived) → Follows T a s → Follows T a (append_all is o m s)
  all-follow a is s k = functions_kept m three (follows_keeping a) is s k

  -- ---- a function that has its name keeps it
  pub bears_kept : {a s : Derived} (n : ℕ) → Follows T a s → Bears m a n → Bears m s n
  bears_kept {a} {s} n f b = go (f.seats _ b.seated)
    where
      r : Cells
      r = rec_at (tables m) names (pred (name_word (function_at m n)))

      go : (index_of (name_table s) r ≡ index_of (name_table a) r) × (index_of (name_table a) r < length (name_table s)) → Bears m s n
      go p = record { seated = rw p.0 p.1; found = unfold known in rw p.0 (f.borne (suc (index_of (name_table a) r)) (unfold known in b.found)) }

  -- ---- what is imported has its name
  module _ (n : ℕ) (s : Derived) (h : Headed m n) (k : Follows T s s) where
    abbrev F : Function
    F = function_at m n

    abbrev d : Derived
    d = (declared o m (follow o m) F s).out

    abbrev e : Derived
    e = (final o m (follow o m) F s).out

    first_ref : (cs : Cells) → cs ≡ (NAME, suc h.name) ∷ h.rest → (xs ys zs : Cells) → (js : List Node) × (refs (cs ++ xs ++ ys ++ zs) ≡ node (table names) h.name ∷ js)
    first_ref cs q xs ys zs = (refs (h.rest ++ xs ++ ys ++ zs), rw q (unfold refs ref_of target targets in refl))

    low_name : h.name < count T names
    low_name = unfold count tables at in h.in_range_lem

    start_follows : Follows T s d
    start_follows = declared-kept m o (Follows T s) (ik s) (follow o m) (follow_follows s) F (function_in_lem m three n) s k

    end_follows : Follows T d e
    end_follows = rest-kept m o (Follows T d) (ik d) (follow o m) (follow_follows d) F (function_in_lem m three n) s (follows_refl start_follows)

    name_mapped : 0 < map_at d.maps names h.name
    name_mapped =
        let s₁ : Derived = import_t o T names h.name s in
        let j = first_ref F.head h.is (flat_all F.arguments) F.result (flat_all F.locals) in
        let g : Follows T s₁ s₁ = follows_refl (ik s names h.name s low_name k) in
        (declared-after m o (Follows T s₁) (ik s₁) (follow o m) (follow_follows s₁) F (function_in_lem m three n) s (node (table names) h.name) j.0 (unfold declarations in j.1) (unfold step bring in g)).mapped h.name
        (import_trace o T wf names h.name s low_name k.sized).1

    derived_name : name_word (localized o m (follow o m) F s) ≡ map_at d.maps names h.name
    unfolding name_word localized derived
    derived_name = carried_name m o (declared o m (follow o m) F s) F.head h.name h.rest h.is

    source_name : name_word F ≡ suc h.name
    unfolding name_word
    source_name = rw h.is

    pub imported_name : (name_word (localized o m (follow o m) F s) ≡ suc (index_of (name_table e) (rec_at T names (pred (name_word F))))) × (index_of (name_table e) (rec_at T names (pred (name_word F))) < length (name_table e))
    imported_name =
        let p = start_follows.sound h.name name_mapped low_name in
        let q = end_follows.seats (rec_at T names h.name) p.1 in
        rw source_name (derived_name ∙ p.0 ∙ ap suc (sym q.0), rw q.0 q.1)

    pub imported_follows : Follows T e e
    imported_follows = follows_refl end_follows

    pub imported_bears : Bears m (append o m (follow o m) n s) n
    imported_bears =
        let p = start_follows.sound h.name name_mapped low_name in
        let q = end_follows.seats (rec_at T names h.name) p.1 in
        let w : name_word (localized o m (follow o m) F s) ≡ suc (index_of (name_table e) (rec_at T names h.name)) = derived_name ∙ p.0 ∙ ap suc (sym q.0) in
        joined w (rw q.0 q.1)
      where
        joined : name_word (localized o m (follow o m) F s) ≡ suc (index_of (name_table e) (rec_at T names h.name)) → index_of (name_table e) (rec_at T names h.name) < length (name_table e) → Bears m (append o m (follow o m) n s) n
        joined w l = record {
          seated = unfold append appended in rw source_name l;
          found = unfold known append appended in rw (source_name, ← w) (last_hit e.functions (localized o m (follow o m) F s) 0 0);
        }

  -- ---- along a list of functions
  pub along : (is : List ℕ) (s : Derived) → ((i : ℕ) → In i is → Headed m i) → Follows T s s → (j : ℕ) → In j is → Bears m (append_all is o m s) j
  unfolding append_all
  along [] s h k j p = elim p [ ]
  along (i ∷ is) s h k j here = bears_kept i (all-follow _ is _ (follows_refl (function_follows s i s k))) (imported_bears i s (h i here) k)
  along (i ∷ is) s h k j (later g) = along is _ (λ i p. h i (later p)) (follows_refl (function_follows s i s k)) j g

  -- ---- a known callee is not imported
  pub follow-idle : (s : Derived) (n : ℕ) → 0 < known m s n → follow o m n s ≡ s
  unfolding follow
  follow-idle s n h = go (length m.functions)
    where
      stop : (v : ℕ) (f : ℕ → Derived) → 0 < v → unless_mapped v f s ≡ s
      stop zero f h = absurd (omega arith)
      stop (suc v) f h = unfold unless_mapped in refl

      go : (d : ℕ) → follow_f d o m n s ≡ s
      go zero = unfold follow_f in refl
      go (suc d) = unfold follow_f in stop (known m s n) _ h

-- ---- heads, of a module that passes
pub named_head : {cs : Cells} → Plainly (NAME ∷ SPAN ∷ UPTO ∷ []) cs → (w : ℕ) × (r : Cells) × (cs ≡ (NAME, w) ∷ r)
named_head (plain-next {w} {cs} p) = (w, cs, refl)

present-at : (fs : List Function) (n : ℕ) → n < length fs → present (function_names fs) ≡ true → eqb (field NAME (get_or fs n nothing).head) 0 ≡ false
unfolding present function_names
present-at [] n l h = absurd (omega arith)
present-at (f ∷ fs) zero l h = not-true _ (and_split (not (eqb (field NAME f.head) 0)) (present (function_names fs)) h).0
present-at (f ∷ fs) (suc n) l h = present-at fs n (omega arith) (and_split (not (eqb (field NAME f.head) 0)) (present (function_names fs)) h).1

module _ (m : Module) (well : WellFormed m) (three : numbered m ≡ true) (five : named m ≡ true) where
  functions_named_lem : present (function_names m.functions) ≡ true
  unfolding named
  functions_named_lem = (and_split (present (function_names m.functions)) _ five).0

  pub headed : (n : ℕ) → n < length m.functions → Headed m n
  headed n l = let a = named_head head_plain in go a.0 a.1 a.2
    where
      head_lays : Lays function_head (function_at m n).head
      head_lays = unfold function_at in (each_at well.functions_ok.each n nothing l).head_ok

      head_plain : Plainly (NAME ∷ SPAN ∷ UPTO ∷ []) (function_at m n).head
      head_plain = unfold function_head plain? in plainly head_lays refl

      named-at : eqb (field NAME (function_at m n).head) 0 ≡ false
      named-at = unfold function_at in present-at m.functions n l functions_named_lem

      low_at : Each (Low (length m.names)) (function_at m n).head
      low_at = unfold function_at in (function_cells (get_or m.functions n nothing) (each_at (numbered_low m three).in_functions_lem n nothing l)).in_head

      go : (w : ℕ) (r : Cells) → (function_at m n).head ≡ (NAME, w) ∷ r → Headed m n
      go zero r e = let z : ◌≡◌ {A = Bool} true false = (unfold field in rw e at named-at) in let y : ◌≡◌ {A = ℕ} 0 1 = cc in absurd (omega arith)
      go (suc k) r e = let a : Each (Low (length m.names)) ((NAME, suc k) ∷ r) = rw e at low_at in record { name = k; rest = r; is = e; in_range_lem = le_of_suc-le-suc (each_first a refl) }

-- with a new source nothing is mapped
pub emptied_follows : (T : Tables) (s : Derived) → Follows T (emptied (unmapped T) s) (emptied (unmapped T) s)
unfolding emptied unmapped map_at count Sized six at
emptied_follows T s = record {
  sized = λ u. rw (at-six u (λ t. replicate {A = ℕ} (count T t) 0)) (length-replicate {A = ℕ} (count T u) 0);
  seats = λ r h. (refl, h);
  mapped = λ k h. h;
  sound = λ k h l. absurd (let z : 0 < 0 = rw (zeros (length T.of_names) k) at h in omega arith);
  borne = λ w h. h;
}

-- ---- THE THEOREM
module _ (m : Module) (well : WellFormed m) (three : numbered m ≡ true) (four : lower m ≡ true) (five : named m ≡ true) (os : List ℕ) (e : order_of m ≡ ordered os) where
  pub source_follows : (s : Derived) → Follows (tables m) (sourced 0 m s) (sourced 0 m s)
  source_follows s = follows_refl (sourced-kept m three (follows_setting m well three four 0 (emptied (unmapped (tables m)) s)) well s (emptied_follows (tables m) s))

  -- when function i comes, every callee has its name, whatever the session had before the source was set
  pub callees-known : (s : Derived) (xs ys : List ℕ) (i j : ℕ) → os ≡ xs ++ (i ∷ ys) → Call (length m.functions) (calls m) i j → Bears m (append_all xs 0 m (sourced 0 m s)) j
  callees-known s xs ys i j q c =
      along m well three four 0 xs (sourced 0 m s) (λ k g. headed m well three five k (low m os e k (rw q (in_left (i ∷ ys) g)))) (source_follows s) j
      (callees-first (length m.functions) (calls m) os (unfold order_of in e) xs ys i j q c)

  -- so it is not imported by the call
  pub callees-idle : (s : Derived) (xs ys : List ℕ) (i j : ℕ) → os ≡ xs ++ (i ∷ ys) → Call (length m.functions) (calls m) i j → follow 0 m j (append_all xs 0 m (sourced 0 m s)) ≡ append_all xs 0 m (sourced 0 m s)
  callees-idle s xs ys i j q c = follow-idle m well three four 0 _ j (callees-known s xs ys i j q c).found

  -- nor at any state that follows, as long as the import of i lasts and after it
  pub callees_idle_on : (s r : Derived) (xs ys : List ℕ) (i j : ℕ) → os ≡ xs ++ (i ∷ ys) → Call (length m.functions) (calls m) i j → Follows (tables m) (append_all xs 0 m (sourced 0 m s)) r → follow 0 m j r ≡ r
  callees_idle_on s r xs ys i j q c f = follow-idle m well three four 0 r j (bears_kept m well three four 0 j f (callees-known s xs ys i j q c)).found

  -- at the end every function has its name, so that entry points import none
  pub all_known : (s : Derived) (j : ℕ) → In j os → Bears m (append_all os 0 m (sourced 0 m s)) j
  all_known s j g = along m well three four 0 os (sourced 0 m s) (λ k g. headed m well three five k (low m os e k g)) (source_follows s) j g
