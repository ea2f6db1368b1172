-- WHERE A MAPPING IS MADE BY HAND: a special type whose place or key is taken is mapped to what was derived for it, whatever mapping it had, and a renamed type to a record that has another name. Every other number that is mapped is mapped to its source's record, carried through the maps as they were; these are the maps as they are, but for references to types that were mapped by hand.
use Rattle.std.specs.Prelude.{◌≡◌, ◌⊎◌, List, [], ◌∷◌, ℕ, ◌<◌, ◌≤◌, pred, set}
use Rattle.std.proofs.Math.Path.{refl}
use Rattle.std.proofs.Common.{sym, ap, subst, ◌∙◌, le_trans, arith, get_or-set_other}
use Rattle.std.proofs.Math.Logic.{inl, inr, ⊎_elim}
use Rattle.std.proofs.Math.Bool.{false}
use Rattle.model.specs.Outcome.{Cells}
use Rattle.model.specs.Carry.{carry_cells}
use Rattle.model.specs.Initial.{Mem}
use Rattle.model.specs.Tables.{Tab, names, types, constants, overrides, globals, exprs, code_t, is_t, at, Tables, rec_at, count, map_at}
use Rattle.model.specs.References.{Place, table, own, function, Node, refs, through}
use Rattle.model.specs.Imports.{Derived, made, commit, mapped_to_t}
use Rattle.model.specs.Special.{force}
use Rattle.theory_records.specs.TableLaws.{Tab_dec, at_same, at_other, apart}
use Rattle.theory_records.specs.RecordLaws.{All, all_map, all_both, Has, bare, bare-shift, carry_same, kept, kept_at}
use Rattle.theory_records.specs.Well.{home}
use Rattle.theory_records.specs.Trace.{Other, node-cases, settle_here, settle_other, Ready, Keeps, keeps_went, commit_keeps}
use Rattle.theory_records.specs.Theorems.{Grows, commit_grows, settle_at, Inside, Entry, Sound}

-- one of these types
unfoldable pub Hand : List ℕ → Tab → ℕ → Type 0
Hand hs names n = ⊥
Hand hs types n = Mem n hs
Hand hs constants n = ⊥
Hand hs overrides n = ⊥
Hand hs globals n = ⊥
Hand hs exprs n = ⊥

abbrev pub HandP : List ℕ → Place → ℕ → Type 0
HandP hs p n = Hand hs (home p) n

hand_more : (hs ks : List ℕ) → ((n : ℕ) → Mem n hs → Mem n ks) → (t : Tab) (n : ℕ) → Hand hs t n → Hand ks t n
unfolding Hand
hand_more hs ks f names n h = h
hand_more hs ks f types n h = f n h
hand_more hs ks f constants n h = h
hand_more hs ks f overrides n h = h
hand_more hs ks f globals n h = h
hand_more hs ks f exprs n h = h

-- number n of table t: its derived record is the source's, carried through the maps as they were, whose numbers are in range
pub record Came (hs : List ℕ) (T : Tables) (s : Derived) (t : Tab) (n : ℕ) : Type 0 where
  pub was : Place → ℕ → ℕ
  pub alike : bare (rec_at s.recs t (pred (map_at s.maps t n))) ≡ bare (carry_cells (through was) (rec_at T t n))
  pub closed : All (Has was) (refs (rec_at T t n))
  pub ranged : All (λ j. was j.place j.num ≤ count s.recs (home j.place)) (refs (rec_at T t n))
  -- they are the maps as they are, but for references to types that were mapped by hand
  pub now : All (λ j. (mapped_to_t s j.place j.num ≡ was j.place j.num) ⊎ HandP hs j.place j.num) (refs (rec_at T t n))

unfoldable pub SoundBut : List ℕ → Tables → Derived → Type 0
SoundBut hs T s = (t : Tab) (n : ℕ) → 0 < map_at s.maps t n → Hand hs t n ⊎ Came hs T s t n

-- ---- a later state
came_stays : (hs : List ℕ) (T : Tables) (s r : Derived) (t : Tab) (n : ℕ) → map_at s.maps t n ≤ count s.recs t → Grows s.recs r.recs → Keeps s r → 0 < map_at s.maps t n → Came hs T s t n → Came hs T r t n
unfolding Keeps
came_stays hs T s r t n in-s g k h c = record {
  was = c.was;
  alike = rw (k t n h, g.prefix t (pred (map_at s.maps t n)) (omega arith)) c.alike;
  closed = c.closed;
  ranged = all_map (refs (rec_at T t n)) (λ j l. le_trans l (g.longer (home j.place))) c.ranged;
  now = all_both (refs (rec_at T t n)) (λ j e w. ⊎_elim (λ q. inl (keeps_went s r k j.place j.num (rw q w) ∙ q)) (λ q. inr q) e) c.now c.closed;
}

-- more numbers
pub but_more : (hs ks : List ℕ) (T : Tables) (s : Derived) → ((n : ℕ) → Mem n hs → Mem n ks) → SoundBut hs T s → SoundBut ks T s
unfolding SoundBut
but_more hs ks T s f b t n h = ⊎_elim (λ q. inl (hand_more hs ks f t n q)) (λ c. inr (more c)) (b t n h)
  where
    more : Came hs T s t n → Came ks T s t n
    more c = record {
      was = c.was;
      alike = c.alike;
      closed = c.closed;
      ranged = c.ranged;
      now = all_map (refs (rec_at T t n)) (λ j e. ⊎_elim (λ q. inl q) (λ q. inr (hand_more hs ks f (home j.place) j.num q)) e) c.now;
    }

-- the same tables and maps
pub but_same : (hs : List ℕ) (T : Tables) (s r : Derived) → r.recs ≡ s.recs → r.maps ≡ s.maps → Inside s → SoundBut hs T s → SoundBut hs T r
unfolding SoundBut Inside
but_same hs T s r p q i b t n h =
    let w : 0 < map_at s.maps t n = rw q at h in
    ⊎_elim (λ x. inl x) (λ c. inr (came_stays hs T s r t n (i t n) (record { longer = λ u. rw p (omega arith); prefix = λ u k l. rw p refl }) keeps w c)) (b t n w)
  where
    keeps : Keeps s r
    keeps = unfold Keeps in λ u k l. rw q refl

-- with a new source nothing is mapped
pub but_none : (hs : List ℕ) (T : Tables) (s : Derived) → ((t : Tab) (n : ℕ) → map_at s.maps t n ≡ 0) → SoundBut hs T s
unfolding SoundBut
but_none hs T s z t n h = absurd (omega (arith, z t n))

went_in : (s : Derived) → Inside s → (p : Place) (n : ℕ) → mapped_to_t s p n ≤ count s.recs (home p)
unfolding mapped_to_t home Inside
went_in s i (table t) n = i t n
went_in s i own n = i exprs n
went_in s i function n = omega arith

all_any : {P : Node → Type 0} (js : List Node) → ((j : Node) → P j) → All P js
all_any [] f = tt
all_any (j ∷ js) f = (f j, all_any js f)

-- ---- a commit from a source that has the records of T but for those types
module _ (hs : List ℕ) (o : ℕ) (T S : Tables) (agree : (t : Tab) (n : ℕ) → Hand hs t n ⊎ (rec_at S t n ≡ rec_at T t n)) where
  pub commit_but : (s : Derived) (t : Tab) (n : ℕ) → Ready S s t n → Inside s → SoundBut hs T s → SoundBut hs T (commit o S t n s)
  unfolding SoundBut Keeps commit rec_at count Inside
  commit_but s t n rd I b =
      node-cases (λ u k. 0 < map_at (commit o S t n s).maps u k → Hand hs u k ⊎ Came hs T (commit o S t n s) u k) t n (λ h. ⊎_elim (λ x. inl x) (λ e. inr (new e)) (agree t n))
      (λ u k a h.
      let w : 0 < map_at s.maps u k = rw (settle_other t n c s u k a) at h in
      ⊎_elim (λ x. inl x) (λ y. inr (came_stays hs T s (commit o S t n s) u k (I u k) (commit_grows o S s t n) K w y)) (b u k w))
    where
      c : Cells
      c = made o S t n s

      K : Keeps s (commit o S t n s)
      K = commit_keeps o S s t n rd

      G : Grows s.recs (commit o S t n s).recs
      G = commit_grows o S s t n

      new : rec_at S t n ≡ rec_at T t n → Came hs T (commit o S t n s) t n
      new e = record {
        was = mapped_to_t s;
        alike = rw (settle_here t n c s rd.room, settle_at t n c s) (kept_at (kept c (at t s.recs)) ∙ made-bare ∙ ap (λ (r : Cells). bare (carry_cells (through (mapped_to_t s)) r)) e);
        closed = subst (λ (r : Cells). All (Has (mapped_to_t s)) (refs r)) e rd.refs_in;
        ranged = all_any (refs (rec_at T t n)) (λ j. le_trans (went_in s I j.place j.num) (G.longer (home j.place)));
        now = all_map (refs (rec_at T t n)) (λ j h. inl (keeps_went s (commit o S t n s) K j.place j.num h)) (subst (λ (r : Cells). All (Has (mapped_to_t s)) (refs r)) e rd.refs_in);
      }
        where
          made-bare : bare c ≡ bare (carry_cells (through (mapped_to_t s)) (rec_at S t n))
          made-bare = unfold made in bare-shift (carry_cells (through (mapped_to_t s)) (rec_at S t n)) o false

-- ---- a type that is mapped by hand
module _ (hs : List ℕ) (T : Tables) (n v : ℕ) (s : Derived) where
  force-other : (u : Tab) (k : ℕ) → Other types n u k → map_at (force n v s).maps u k ≡ map_at s.maps u k
  unfolding force map_at Other
  force-other u k a =
      elim (Tab_dec types u) [
        | yes p ↦ rw (← p, at_same types (set (at types s.maps) n v) s.maps) (get_or-set_other (at types s.maps) n k v 0 (a (sym p)))
        | no p ↦ rw (at_other types u (set (at types s.maps) n v) s.maps p) refl
      ]

  -- what a reference is mapped to stays, or it is to that type
  force-went : Mem n hs → (p : Place) (k : ℕ) → (mapped_to_t (force n v s) p k ≡ mapped_to_t s p k) ⊎ HandP hs p k
  unfolding mapped_to_t home Other
  force-went m (table u) k = node-cases (λ u k. (map_at (force n v s).maps u k ≡ map_at s.maps u k) ⊎ Hand hs u k) types n (inr (unfold Hand in m)) (λ u k a. inl (force-other u k a)) u k
  force-went m own k = inl (force-other exprs k (λ p q. unfold is_t code_t in apart exprs types refl p))
  force-went m function k = inl refl

  pub force_but : Mem n hs → SoundBut hs T s → SoundBut hs T (force n v s)
  unfolding SoundBut
  force_but m b =
      node-cases (λ u k. 0 < map_at (force n v s).maps u k → Hand hs u k ⊎ Came hs T (force n v s) u k) types n (λ h. inl (unfold Hand in m))
      (λ u k a h. ⊎_elim (λ x. inl x) (λ c. inr (on u k a c)) (b u k (rw (force-other u k a) at h)))
    where
      on : (u : Tab) (k : ℕ) → Other types n u k → Came hs T s u k → Came hs T (force n v s) u k
      on u k a c = record {
        was = c.was;
        alike = rw (force-other u k a) (unfold force in c.alike);
        closed = c.closed;
        ranged = unfold force in c.ranged;
        now = all_map (refs (rec_at T u k)) (λ j e. ⊎_elim (λ q. ⊎_elim (λ z. inl (z ∙ q)) (λ z. inr z) (force-went m j.place j.num)) (λ q. inr q) e) c.now;
      }

-- ---- WHERE NONE IS MAPPED BY HAND every mapped record is its source's, through the maps as they are
no_hand : (t : Tab) (n : ℕ) → Hand [] t n → ⊥
unfolding Hand
no_hand names n h = h
no_hand types n h = elim h [ ]
no_hand constants n h = h
no_hand overrides n h = h
no_hand globals n h = h
no_hand exprs n h = h

pub sound-all : (T : Tables) (s : Derived) → SoundBut [] T s → Sound T s
unfolding SoundBut Sound
sound-all T s b t n h = ⊎_elim (λ q. absurd (no_hand t n q)) (λ c. entry c) (b t n h)
  where
    entry : Came [] T s t n → Entry T s t n
    entry c =
        let e = all_map (refs (rec_at T t n)) (λ j q. ⊎_elim (λ z. z) (λ z. absurd (no_hand (home j.place) j.num z)) q) c.now in
        record {
          alike = rw (carry_same c.was (mapped_to_t s) (rec_at T t n) e) c.alike;
          closed = all_both (refs (rec_at T t n)) (λ j q w. rw q w) e c.closed;
        }
