-- NAMES BY TEXT. A name that is mapped in the end has, in the linked module, the text that it has in the source: its derived record has the source's words, and to number names by first appearance keeps the text of each that appears.
-- So a record of the gathered module that is, ignoring spans, its source's carried through maps that lead where link's maps say, agrees with it once it is finished (`carried_agrees`); for lists of records `rows_agree`, for the name of a named expression `name_agrees`.
use Rattle.std.proofs.Math.Path.{◌≡◌, refl, ap}
use Rattle.std.proofs.Common.{sym, ◌∙◌}
use Rattle.std.specs.Prelude.{Bool, false, ◌&&◌, not, eqb, ltb, get_or}
use Rattle.std.proofs.Math.Bool.{true}
use mathlib.Core.List.{List, [], ◌∷◌, map}
use Prim.Native.Nat.{ℕ, zero, suc, ◌-◌, ◌<◌, ◌≤◌, pred}
use native.Mathlib.Omega.{arith}
use Rattle.std.proofs.Math.ListN.{length}
use borrow.Author.Tests.{eqb-true, eqb-false, eq-eqb, ltb-false, not-true}
use Rattle.theory_lists.specs.Booleans.{and-true, and_split}
use Rattle.model.specs.Outcome.{Cells, class, word}
use Rattle.model.specs.Table.{SPAN, NAME}
use Rattle.model.specs.Module.{Module, flat_module}
use Rattle.model.specs.Carry.{carry_cell, carry_cells, Each, each_none, each_next, WellFormed}
use Rattle.model.specs.Initial.{Mem}
use Rattle.model.specs.Intake.{Passes}
use Rattle.model.specs.Names.{same}
use Rattle.model.specs.Calls.{ordered}
use Rattle.model.specs.Callees.{order_of}
use Rattle.model.specs.Tables.{names, code_t, is_t, at, tables, rec_at, count, map_at}
use Rattle.model.specs.References.{Place, table, own, function, Target, copied, start, upto, ref, opt, targets, target, Node, node, ref_of, refs, carry_w, through, alike, index_of}
use Rattle.model.specs.Bodies.{entries_made}
use Rattle.model.specs.Finish.{names_in, firsts, index_n, appearing, renumber, named_by, gathered, finished}
use Rattle.model.specs.Session.{with_entries}
use Rattle.model.specs.Link.{link_by}
use Rattle.model.specs.LinkMaps.{link_maps}
use Rattle.model.specs.Agreement.{becomes, agrees_w, agrees_r, agrees_l}
use Rattle.theory_image.specs.Same.{same_self}
use Rattle.theory_image.specs.Members.{each_at}
use Rattle.theory_records.specs.RecordLaws.{All, rest_of, Went, bare_w, bare}
use Rattle.theory_records.specs.Trace.{Sized}
use Rattle.theory_finish.specs.Firsts.{either, firsts-all}
use Rattle.theory_finish.specs.Numbering.{Cellwise}
use Rattle.theory_finish.specs.Cellwise.{cellwise}
use Rattle.theory_finish.specs.Finished.{Seen, all_seen_lem, renumber-only, text_of, text-kept}
use Rattle.theory_finish.specs.Known.{Copied, name_copied}
use Rattle.theory_finish.specs.Fresh.{state_at}
use Rattle.theory_link.specs.Cells.{Becomes, word_agrees, bare_agrees}
use Rattle.theory_link.specs.Places.{alike_words, seat_alike}
use Rattle.theory_link.specs.Walking.{end, end_going}

-- ---- NAME is the one class that refers to names
unfoldable elsewhere : Place → Bool
elsewhere (table t) = not (is_t t names)
elsewhere own = true
elsewhere function = true

unfoldable unnamed : Target → Bool
unnamed copied = true
unnamed start = true
unnamed upto = true
unnamed (ref p) = elsewhere p
unnamed (opt p) = elsewhere p

unfoldable all_unnamed : List Target → Bool
all_unnamed [] = true
all_unnamed (t ∷ ts) = unnamed t && all_unnamed ts

unnamed-at : (ts : List Target) → all_unnamed ts ≡ true → (j : ℕ) → unnamed (get_or ts j copied) ≡ true
unfolding all_unnamed unnamed
unnamed-at [] h j = refl
unnamed-at (t ∷ ts) h zero = (and_split (unnamed t) (all_unnamed ts) h).0
unnamed-at (t ∷ ts) h (suc j) = unnamed-at ts (and_split (unnamed t) (all_unnamed ts) h).1 j

abbrev behind : List Target → List Target
behind [] = []
behind (t ∷ ts) = ts

other-unnamed : (s : ℕ) → eqb s NAME ≡ false → unnamed (target s) ≡ true
unfolding target targets unnamed all_unnamed elsewhere is_t code_t
other-unnamed s e = go (ltb s SPAN) refl
  where
    past : (k : ℕ) → s - SPAN ≡ k → SPAN ≤ s → unnamed (get_or targets k copied) ≡ true
    past zero q h = refl
    past (suc zero) q h = refl
    past (suc (suc zero)) q h = absurd (eqb-false s NAME e (omega arith))
    past (suc (suc (suc j))) q h = unnamed-at (behind (behind (behind targets))) refl j

    go : (b : Bool) → ltb s SPAN ≡ b → unnamed (elim b [ true ↦ copied | false ↦ get_or targets (s - SPAN) copied ]) ≡ true
    go true q = refl
    go false q = past (s - SPAN) refl (ltb-false s SPAN q)

name_target : target NAME ≡ opt (table names)
unfolding target targets
name_target = refl

-- a number that is mapped has a place in its map
mapped_in : (l : List ℕ) (n : ℕ) → 0 < get_or l n 0 → n < length l
mapped_in [] n h = absurd (omega arith)
mapped_in (x ∷ l) zero h = omega arith
mapped_in (x ∷ l) (suc n) h = let r = mapped_in l n h in omega arith

-- every name of a module appears
pub appearing-seen : (t : Module) → Each (Seen (appearing t)) (flat_module t)
unfolding appearing
appearing-seen t = all_seen_lem (flat_module t) (firsts (names_in (flat_module t)) []) (λ n k. firsts-all (names_in (flat_module t)) [] k)

module _ (m : Module) (well : WellFormed m) (ok : Passes m) (os : List ℕ) (e : order_of m ≡ ordered os) where
  -- what is derived in the end, before its names are numbered again
  abbrev pub whole : Module
  whole = gathered (end m well ok os e) (entries_made m.entries 0 m (state_at m os))

  -- the order of its names
  abbrev pub ns : List ℕ
  ns = appearing whole

  pub linked_is : link_by os m ≡ named_by ns whole
  unfolding link_by with_entries finished
  linked_is = refl

  -- every name in it appears
  pub whole-seen : Cellwise (Seen ns) whole
  whole-seen = cellwise whole (appearing-seen whole)

  -- ---- texts
  -- A NAME THAT IS MAPPED has the source's words
  pub name_words_lem : (n : ℕ) → 0 < map_at (end m well ok os e).maps names n → map word (get_or whole.names (pred (map_at (end m well ok os e).maps names n)) []) ≡ map word (get_or m.names n [])
  unfolding gathered
  name_words_lem n h =
      let f = (end_going m well ok os e).after in
      let z : length (at names (end m well ok os e).maps) ≡ count (tables m) names = (unfold Sized in f.sized names) in
      let l : n < count (tables m) names = rw (← z) (mapped_in (at names (end m well ok os e).maps) n (unfold map_at in h)) in
      let p = f.sound n h l in
      rw p.0 (words (index_of (at names (end m well ok os e).recs) (rec_at (tables m) names n)) (copied_name n l) (seat_alike (at names (end m well ok os e).recs) (rec_at (tables m) names n) p.1))
    where
      copied_name : (n : ℕ) → n < count (tables m) names → Copied (get_or m.names n [])
      copied_name n l = unfold count tables at in name_copied (each_at well.names_ok.each n [] l)

      words : (k : ℕ) → Copied (get_or m.names n []) → alike (get_or (at names (end m well ok os e).recs) k []) (rec_at (tables m) names n) ≡ true → map word (get_or (end m well ok os e).recs.of_names k []) ≡ map word (get_or m.names n [])
      words k c a = let b : alike (get_or (end m well ok os e).recs.of_names k []) (get_or m.names n []) ≡ true = (unfold rec_at tables at in a) in alike_words _ _ c b

  -- and has them in the linked module, where it appears
  pub name_text_lem : (n k : ℕ) → map_at (end m well ok os e).maps names n ≡ suc k → Mem k ns → same (map word (get_or m.names n [])) (map word (get_or (link_by os m).names (index_n ns k) [])) ≡ true
  name_text_lem n k h a =
      let t : get_or (named_by ns whole).names (index_n ns k) [] ≡ get_or whole.names k [] = (unfold text_of renumber in text-kept ns whole (suc k) (λ j q. (let r : k ≡ j = omega arith in rw r at a))) in
      let w = name_words_lem n (omega arith) in
      rw (linked_is, t, ← (let x : map word (get_or whole.names k []) ≡ map word (get_or m.names n []) = rw h at w in x)) (same_self _)

  -- ---- words
  -- what a reference is mapped to in the end; q is the map of the record's own expressions
  unfoldable pub went_to : List ℕ → Place → ℕ → ℕ
  went_to q (table t) n = map_at (end m well ok os e).maps t n
  went_to q own n = get_or q n 0
  went_to q function n = get_or (link_maps os m).functions n 0

  module _ (q : List ℕ) (w : Went) where
    -- it is mapped, and to what link's maps say
    abbrev pub Leads : Node → Type 0
    Leads j = (0 < w j.place j.num) × (went_to q j.place j.num ≡ w j.place j.num)

    led_becomes : (p : Place) (n : ℕ) → elsewhere p ≡ true → Leads (node p n) → Becomes m (link_by os m) (link_maps os m) q w (node p n)
    unfolding elsewhere becomes went_to link_maps
    led_becomes (table t) n h l = (l.0, rw (becomes, not-true (is_t t names) h) (eq-eqb _ _ (l.1 ∙ omega (arith, l.0))))
    led_becomes own n h l = (l.0, eq-eqb _ _ (l.1 ∙ omega (arith, l.0)))
    led_becomes function n h l = (l.0, eq-eqb _ _ (l.1 ∙ omega (arith, l.0)))

    led_one : (t : Target) (v : ℕ) (rest : List Node) → unnamed t ≡ true → All Leads (ref_of t v rest) → All (Becomes m (link_by os m) (link_maps os m) q w) (ref_of t v [])
    unfolding unnamed ref_of
    led_one copied v rest h a = tt
    led_one start v rest h a = tt
    led_one upto v rest h a = tt
    led_one (ref p) v rest h a = (led_becomes p v h a.0, tt)
    led_one (opt p) zero rest h a = tt
    led_one (opt p) (suc n) rest h a = (led_becomes p n h a.0, tt)

    -- THE WORD OF A NAME, numbered again
    pub name_agrees : (v : ℕ) (rest : List Node) → All Leads (ref_of (opt (table names)) v rest) → ((k : ℕ) → carry_w w (opt (table names)) v ≡ suc k → Mem k ns)
        → agrees_w m (link_by os m) (link_maps os m) q (opt (table names)) v (renumber ns NAME (carry_w w (opt (table names)) v)) ≡ true
    unfolding ref_of carry_w renumber agrees_w
    name_agrees zero rest a s = refl
    name_agrees (suc n) rest a s = go (w (table names) n) refl a.0.0 a.0.1
      where
        go : (x : ℕ) → w (table names) n ≡ x → 0 < x → went_to q (table names) n ≡ x → agrees_w m (link_by os m) (link_maps os m) q (opt (table names)) (suc n) (renumber ns NAME x) ≡ true
        go zero i h l = absurd (omega arith)
        go (suc k) i h l = unfold went_to becomes is_t code_t in name_text_lem n k l (s k i)

    -- ---- A RECORD CARRIED, and finished, agrees
    pub carried_agrees : (r r' : Cells) → All Leads (refs r) → bare r' ≡ bare (carry_cells (through w) r) → Each (Seen ns) r' → agrees_r m (link_by os m) (link_maps os m) q r (carry_cells (renumber ns) r') ≡ true
    unfolding agrees_r bare carry_cell refs through
    carried_agrees [] [] a i s = refl
    carried_agrees [] (d ∷ ds) a i s = let z : ◌≡◌ {A = ℕ} 0 1 = cc in absurd (omega arith)
    carried_agrees (c ∷ cs) [] a i s = let z : ◌≡◌ {A = ℕ} 0 1 = cc in absurd (omega arith)
    carried_agrees (c ∷ cs) (d ∷ ds) a i (each_next s ss) =
        let k : class d ≡ class c = ap class (first i) in
        let b : bare_w (target (class d)) (word d) ≡ bare_w (target (class c)) (carry_w w (target (class c)) (word c)) = ap word (first i) in
        let b' : bare_w (target (class c)) (word d) ≡ bare_w (target (class c)) (carry_w w (target (class c)) (word c)) = rw k at b in
        let more = carried_agrees cs ds (rest_of Leads (target (class c)) (word c) (refs cs) a) (cc) ss in
        let here : agrees_w m (link_by os m) (link_maps os m) q (target (class c)) (word c) (renumber ns (class d) (word d)) ≡ true = rw k (one (class c) (word c) (word d) a b' (λ n u g. s n (rw k u) g)) in
        and-true (eq-eqb (class c) (class d) (sym k)) (and-true here more)
      where
        first : {x y : ℕ × ℕ} {xs ys : Cells} → ◌≡◌ {A = Cells} (x ∷ xs) (y ∷ ys) → x ≡ y
        first i = cc

        one : (s v x : ℕ) → All Leads (ref_of (target s) v (refs cs)) → bare_w (target s) x ≡ bare_w (target s) (carry_w w (target s) v) → Seen ns (s, x) → agrees_w m (link_by os m) (link_maps os m) q (target s) v (renumber ns s x) ≡ true
        one s v x a b g = either (eqb s NAME) (λ u. named (eqb-true s NAME u) u) λ u. rw ((renumber-only ns).only s x u) (bare_agrees m (link_by os m) (link_maps os m) q w (target s) v x _ b ∙ word_agrees m (link_by os m) (link_maps os m) q w (target s) v [] (led_one (target s) v (refs cs) (other-unnamed s u) a))
          where
            named : s ≡ NAME → eqb s NAME ≡ true → agrees_w m (link_by os m) (link_maps os m) q (target s) v (renumber ns s x) ≡ true
            named z u =
                let a' : All Leads (ref_of (opt (table names)) v (refs cs)) = rw (z, name_target) at a in
                let x_is : x ≡ carry_w w (opt (table names)) v = (unfold bare_w in rw (z, name_target, bare_w) at b) in
                rw (z, name_target, x_is) (name_agrees v (refs cs) a' (λ k j. g k u (x_is ∙ j)))

    -- lists of records
    pub rows_agree : (f : Cells → Cells) → ((r : Cells) → bare (f r) ≡ bare (carry_cells (through w) r)) → {rs : List Cells} → Each (λ r. All Leads (refs r)) rs → Each (Each (Seen ns)) (map f rs)
        → agrees_l m (link_by os m) (link_maps os m) q rs (map (carry_cells (renumber ns)) (map f rs)) ≡ true
    unfolding agrees_l
    rows_agree f h each_none s = refl
    rows_agree f h (each_next {a = r} l ls) (each_next s ss) = and-true (carried_agrees r (f r) l (h r) s) (rows_agree f h ls ss)
