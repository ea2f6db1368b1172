-- IN OUTPUT ORDER every callee is known when its caller is imported. A name, once in the derived table, keeps its place there, and what is mapped to it is that place; so a function that was imported is found by its name from then on.
use Rattle.std.specs.Prelude.{◌≡◌, refl, Bool, true, eqb, ltb, replicate}
use Rattle.std.proofs.Common.{sym, ◌∙◌, mod-lt, arith, eqb-true, eq-eqb, lt-ltb}
use Rattle.std.proofs.Math.Path.{ap}
use Rattle.std.proofs.Math.Bool.{false}
use mathlib.Core.List.{List, [], ◌∷◌, ◌++◌}
use Prim.Native.Nat.{ℕ, zero, suc, ◌+◌, ◌-◌, ◌/◌, ◌%◌, ◌<◌, ◌≤◌}
use Rattle.std.proofs.Math.ListN.{length, get_or, set}
use Rattle.std.proofs.Math.Seq.{get_or-set_same, get_or-set_other}
use Rattle.std.proofs.lemmas.Bool.{eqb-false}
use Rattle.model.specs.Outcome.{Cells, class}
use Rattle.model.specs.Table.{Row, WORD, PAD, TEXT, name_row, text, more}
use Rattle.model.specs.Tree.{Function}
use Rattle.model.specs.Carry.{carry_cell, carry_cells, Lays, lays_none, lays_next, Each, each_none, each_next}
use Rattle.model.specs.Tables.{Tab, names, at, upd, Tables, rec_at, count, map_at}
use Rattle.model.specs.References.{copied, target, targets, carry_w, through, undefined_at, moved, shift, alike, index_of, interned}
use Rattle.model.specs.Imports.{Derived, intern, made, commit, mapped_to_t, import_t}
use Rattle.model.specs.Redirect.{name_word}
use Rattle.model.specs.Bodies.{last_of}
use Rattle.theory_image.specs.Quiet.{each_append}
use Rattle.theory_records.specs.TableLaws.{Tab_dec, at_same, at_other}
use Rattle.theory_records.specs.RecordLaws.{Went, alike_self}
use Rattle.theory_records.specs.Kinds.{far_copied}
use Rattle.theory_records.specs.Well.{WF}
use Rattle.theory_records.specs.Trace.{Ready, keep_rule, Sized, commit-sized, import_trace}
use Rattle.theory_finish.specs.Firsts.{either}
use Rattle.theory_finish.specs.Classes.{small_more}

-- ---- a name record is copied as it is
abbrev pub Copied : Cells → Type 0
Copied r = Each (λ c. target (class c) ≡ copied) r

abbrev Byte : ℕ → Type 0
Byte s = (ltb s TEXT ≡ true) × (target s ≡ copied)

each_words : (n : ℕ) → Each Byte (replicate n WORD)
unfolding target
each_words zero = each_none
each_words (suc n) = each_next (refl, refl) (each_words n)

last_byte : (w : ℕ) → (w % 4 ≡ 0 → ⊥) → Byte (PAD + w % 4 - 1)
last_byte w z = let n : w % 4 < 4 = mod-lt w (omega arith) in (lt-ltb (PAD + w % 4 - 1) TEXT (omega arith), far_copied (PAD + w % 4 - 1) (omega arith))

text_bytes : (w : ℕ) → Each Byte (text w)
unfolding text
text_bytes w = either (eqb (w % 4) 0) (λ e. rw e (each_append (each_words (w / 4)) each_none)) λ e. rw e (each_append (each_words (w / 4)) (each_next (last_byte w (eqb-false (w % 4) 0 e)) each_none))

lays_bytes : {ss : Row} {cs : Cells} → Lays ss cs → Each Byte ss → Copied cs
lays_bytes lays_none b = each_none
lays_bytes (lays_next {s} {w} {xs} {ss} e l) (each_next b bs) = each_next b.1 (lays_bytes l (rw (small_more s w xs b.0 e) bs))

pub name_copied : {r : Cells} → Lays name_row r → Copied r
unfolding name_row more target targets
name_copied (lays_next {w} {xs} e l) = let n : text w ≡ xs = cc in each_next refl (lays_bytes l (rw (← n) (each_append (text_bytes w) each_none)))

copied_carried : (f : Went) {r : Cells} → Copied r → carry_cells (through f) r ≡ r
unfolding carry_cell through carry_w
copied_carried f each_none = refl
copied_carried f (each_next {a = c} h hs) = rw (through, h, copied_carried f hs)

copied_shifted : {r : Cells} → Copied r → (o : ℕ) (u : Bool) → shift r o u ≡ r
unfolding shift undefined_at moved
copied_shifted each_none o u = refl
copied_shifted (each_next {a = c} h hs) o u = rw (h, copied_shifted hs o u)

-- ---- where a record is in its table (`index_of`)
seat_old : (ds : List Cells) (c r : Cells) → index_of ds r < length ds → index_of (interned ds c) r ≡ index_of ds r
unfolding index_of interned
seat_old [] c r h = absurd (omega arith)
seat_old (d ∷ ds) c r h =
    let i = seat_old ds c r in
    either (alike d c) (λ e. rw (interned, e)) λ e. either (alike d r) (λ f. rw (interned, e, index_of, f)) λ f. rw (interned, e, index_of, f) (ap suc (i (below f h)))
  where
    below : alike d r ≡ false → index_of (d ∷ ds) r < suc (length ds) → index_of ds r < length ds
    below f h = let k : suc (index_of ds r) < suc (length ds) = rw (index_of, f) at h in omega arith

merged_longer : (ds : List Cells) (c : Cells) → length ds ≤ length (interned ds c)
unfolding interned
merged_longer [] c = omega arith
merged_longer (d ∷ ds) c = let i = merged_longer ds c in either (alike d c) (λ e. rw (interned, e) (omega arith)) λ e. rw (interned, e) (omega arith)

seat_new : (ds : List Cells) (c : Cells) → (index_of (interned ds c) c ≡ index_of ds c) × (index_of ds c < length (interned ds c))
unfolding index_of interned
seat_new [] c = (rw (index_of, alike_self c c refl), omega arith)
seat_new (d ∷ ds) c = let i = seat_new ds c in (either (alike d c) (λ e. rw (interned, e, index_of, e)) λ e. rw (interned, e, index_of, e) (ap suc i.0), either (alike d c) (λ e. rw (interned, index_of, e) (omega arith)) λ e. rw (interned, index_of, e) (omega arith))

-- ---- the derived functions by name
last-kept : (fs : List Function) (j v w : ℕ) → 0 < v → 0 < last_of fs j v w
unfolding last_of
last-kept [] j v w h = h
last-kept (f ∷ fs) j v w h = either (eqb (name_word f) w) (λ e. rw (last_of, e) (last-kept fs (suc j) (suc j) w (omega arith))) λ e. rw (last_of, e) (last-kept fs (suc j) v w h)

pub last-append : (fs gs : List Function) (j v w : ℕ) → 0 < last_of fs j v w → 0 < last_of (fs ++ gs) j v w
unfolding last_of
last-append [] gs j v w h = last-kept gs j v w h
last-append (f ∷ fs) gs j v w h =
    either (eqb (name_word f) w) (λ e. rw (last_of, e) (last-append fs gs (suc j) (suc j) w (rw (last_of, e) at h))) λ e. rw (last_of, e) (last-append fs gs (suc j) v w (rw (last_of, e) at h))

pub last_hit : (fs : List Function) (f : Function) (j v : ℕ) → 0 < last_of (fs ++ (f ∷ [])) j v (name_word f)
unfolding last_of
last_hit [] f j v = rw (last_of, eq-eqb (name_word f) (name_word f) refl) (omega arith)
last_hit (g ∷ fs) f j v = either (eqb (name_word g) (name_word f)) (λ e. rw (last_of, e) (last_hit fs f (suc j) (suc j))) λ e. rw (last_of, e) (last_hit fs f (suc j) v)

-- it is found in the last place
pub last_place : (fs : List Function) (f : Function) (j v : ℕ) → last_of (fs ++ (f ∷ [])) j v (name_word f) ≡ j + suc (length fs)
unfolding last_of
last_place [] f j v = rw (last_of, eq-eqb (name_word f) (name_word f) refl) (omega arith)
last_place (g ∷ fs) f j v = either (eqb (name_word g) (name_word f)) (λ e. rw (last_of, e) (last_place fs f (suc j) (suc j) ∙ omega arith)) λ e. rw (last_of, e) (last_place fs f (suc j) v ∙ omega arith)

-- ---- what holds of a state s that came from a
abbrev pub name_table : Derived → List Cells
name_table s = at names s.recs

pub record Follows (T : Tables) (a s : Derived) : Type 0 where
  pub sized : Sized T s
  -- names keep their places
  pub seats : (r : Cells) → index_of (name_table a) r < length (name_table a) → (index_of (name_table s) r ≡ index_of (name_table a) r) × (index_of (name_table a) r < length (name_table s))
  -- what is mapped stays mapped
  pub mapped : (k : ℕ) → 0 < map_at a.maps names k → 0 < map_at s.maps names k
  -- and is mapped to its place
  pub sound : (k : ℕ) → 0 < map_at s.maps names k → k < count T names → (map_at s.maps names k ≡ suc (index_of (name_table s) (rec_at T names k))) × (index_of (name_table s) (rec_at T names k) < length (name_table s))
  -- a name that some function of a has, some function of s has
  pub borne : (w : ℕ) → 0 < last_of a.functions 0 0 w → 0 < last_of s.functions 0 0 w

pub follows_refl : {T : Tables} {a s : Derived} → Follows T a s → Follows T s s
follows_refl f = record { sized = f.sized; seats = λ r h. (refl, h); mapped = λ k h. h; sound = f.sound; borne = λ w h. h }

pub follows_trans : {T : Tables} {a b c : Derived} → Follows T a b → Follows T b c → Follows T a c
follows_trans {a} {b} {c} f g = record {
  sized = g.sized;
  seats = λ r h. let p = f.seats r h in let q = g.seats r (rw p.0 p.1) in (q.0 ∙ p.0, rw p.0 at q.1);
  mapped = λ k h. g.mapped k (f.mapped k h);
  sound = g.sound;
  borne = λ w h. g.borne w (f.borne w h);
}

-- ---- a commit
module _ (o : ℕ) (T : Tables) (plain : (k : ℕ) → k < count T names → Copied (rec_at T names k)) where
  pub made_name : (n : ℕ) (s : Derived) → n < count T names → made o T names n s ≡ rec_at T names n
  unfolding made
  made_name n s h = ap (λ r. shift r o false) (copied_carried (mapped_to_t s) (plain n h)) ∙ copied_shifted (plain n h) o false

  settle_name : (a s : Derived) (n : ℕ) (r : Cells) → Ready T s names n → r ≡ rec_at T names n → Sized T (intern names n r s) → Follows T a s → Follows T a (intern names n r s)
  unfolding intern map_at
  settle_name a s n r rd e z f =
      let tab : at names (upd names (interned (name_table s) r) s.recs) ≡ interned (name_table s) r = at_same names (interned (name_table s) r) s.recs in
      let new : List ℕ = set (at names s.maps) n (suc (index_of (name_table s) r)) in
      let map : at names (upd names new s.maps) ≡ new = at_same names new s.maps in
      let hit : get_or new n 0 ≡ suc (index_of (name_table s) r) = get_or-set_same (at names s.maps) n (suc (index_of (name_table s) r)) 0 rd.room in
      let miss : (k : ℕ) → (k ≡ n → ⊥) → get_or new k 0 ≡ get_or (at names s.maps) k 0 = λ k h. get_or-set_other (at names s.maps) n k (suc (index_of (name_table s) r)) 0 h in
      record {
        sized = z;
        seats = λ x h. rw tab (kept x (f.seats x h));
        mapped = λ k h. rw map (either (eqb k n) (λ q. rw (eqb-true k n q, hit) (omega arith)) λ q. rw (miss k (eqb-false k n q)) (f.mapped k h));
        sound = λ k h l. rw (tab, map) (either (eqb k n) (λ q. first k (eqb-true k n q) hit) λ q. other k (miss k (eqb-false k n q)) (rw (map, miss k (eqb-false k n q)) at h) l);
        borne = f.borne;
      }
    where
      kept : (x : Cells) → (index_of (name_table s) x ≡ index_of (name_table a) x) × (index_of (name_table a) x < length (name_table s)) → (index_of (interned (name_table s) r) x ≡ index_of (name_table a) x) × (index_of (name_table a) x < length (interned (name_table s) r))
      kept x p = (seat_old (name_table s) r x (rw p.0 p.1) ∙ p.0, omega (arith, p.1, merged_longer (name_table s) r))

      first : (k : ℕ) → k ≡ n → get_or (set (at names s.maps) n (suc (index_of (name_table s) r))) n 0 ≡ suc (index_of (name_table s) r) → (get_or (set (at names s.maps) n (suc (index_of (name_table s) r))) k 0 ≡ suc (index_of (interned (name_table s) r) (rec_at T names k))) × (index_of (interned (name_table s) r) (rec_at T names k) < length (interned (name_table s) r))
      first k q hit = let p = seat_new (name_table s) r in rw (q, ← e) (hit ∙ ap suc (sym p.0), rw p.0 p.1)

      other : (k : ℕ) → get_or (set (at names s.maps) n (suc (index_of (name_table s) r))) k 0 ≡ get_or (at names s.maps) k 0 → 0 < get_or (at names s.maps) k 0 → k < count T names → (get_or (set (at names s.maps) n (suc (index_of (name_table s) r))) k 0 ≡ suc (index_of (interned (name_table s) r) (rec_at T names k))) × (index_of (interned (name_table s) r) (rec_at T names k) < length (interned (name_table s) r))
      other k q h l =
          let p = f.sound k (unfold map_at in h) l in
          let u = seat_old (name_table s) r (rec_at T names k) p.1 in
          (q ∙ (unfold map_at in p.0) ∙ ap suc (sym u), rw u (omega (arith, p.1, merged_longer (name_table s) r)))

  settle_other : (a s : Derived) (t : Tab) (n : ℕ) (r : Cells) → (t ≡ names → ⊥) → Sized T (intern t n r s) → Follows T a s → Follows T a (intern t n r s)
  unfolding intern map_at
  settle_other a s t n r p z f =
      let tab : at names (upd t (interned (at t s.recs) r) s.recs) ≡ name_table s = at_other t names (interned (at t s.recs) r) s.recs p in
      let map : at names (upd t (set (at t s.maps) n (suc (index_of (at t s.recs) r))) s.maps) ≡ at names s.maps = at_other t names (set (at t s.maps) n (suc (index_of (at t s.recs) r))) s.maps p in
      record { sized = z; seats = λ x h. rw tab (f.seats x h); mapped = λ k h. rw map (f.mapped k h); sound = λ k h l. rw (tab, map) (f.sound k (rw map at h) l); borne = f.borne }

  commit_follows : (a s : Derived) (t : Tab) (n : ℕ) → Ready T s t n → Follows T a s → Follows T a (commit o T t n s)
  commit_follows a s t n rd f =
      elim (Tab_dec t names) [
        | yes p ↦ at_names t p rd
        | no p ↦ unfold commit in settle_other a s t n (made o T t n s) p (unfold commit in commit-sized o T s t n rd f.sized) f
      ]
    where
      at_names : (t : Tab) → t ≡ names → Ready T s t n → Follows T a (commit o T t n s)
      at_names t p rd = rw p (named (rw p at rd))
        where
          named : Ready T s names n → Follows T a (commit o T names n s)
          named rd = unfold commit in settle_name a s n (made o T names n s) rd (made_name n s rd.range) (unfold commit in commit-sized o T s names n rd f.sized) f

  pub import_follows : WF T → (a s : Derived) (t : Tab) (n : ℕ) → n < count T t → Follows T a s → Follows T a (import_t o T t n s)
  import_follows wf a s t n h f = keep_rule (Follows T a) (λ s t n rd g. commit_follows a s t n rd g) (import_trace o T wf t n s h f.sized).0 f
