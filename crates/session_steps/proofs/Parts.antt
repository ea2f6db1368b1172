-- A part of the sources or of the output, cut at the end as the code cuts it; and a finish into such a part of the output.
use mathlib.Core.Path.{◌≡◌, refl, sym, ap, ◌∙◌}
use mathlib.Core.Bool.{Bool, true, false}
use mathlib.Core.List.{List, [], ◌∷◌, ◌++◌}
use mathlib.Core.Option.{Option, none, some}
use Prim.Native.Nat.{ℕ, zero, suc, ◌+◌, ◌-◌, ◌*◌, ◌≤◌, ◌<◌, min}
use native.Mathlib.Nat.{suc-min-suc, zero-min, min-zero, min-le_left, min-le_right, le-min, le-add_right, add-zero, add-suc}
use native.Mathlib.Omega.{arith}
use lib.Dec.{ltb}
use lib.ListN.{length, set, take, drop, length-take, length-drop, length-set, take-append-drop}
use lib.Seq.{sets, take-set-le, drop-set-add, set-append_left}
use borrow.Author.Tests.{ltb-false}
use borrow.Rule.Slice.PartMut.{mid_of, post_of, put_mid, put_same}
use Rattle.base_words.specs.Words.{bytes_of}
use Rattle.base_words.proofs.Laws.{length_bytes_of}
use Rattle.model.specs.Module.{Module, write}
use Rattle.model.specs.Finish.{finished, too_large}
use Rattle.model.specs.Session.{Source, Session, Answer, answered, refused, new, with_source, meets_ring, callees_of, with_entries, write_if_fits, finish, finish_with_entry_points}
use Rattle.model.specs.Steps.{operations, writes, perform, part}
use Rattle.derive_finish.specs.Told.{told}
use Rattle.session_operations.specs.Operations.{FinishEnsures}
use Rattle.session_steps.specs.Stepped.{PerformEnsures, Wrote}

-- ---- what is cut
drop-cut : (a : ℕ) (l : List ℕ) → drop a l ≡ drop (min a (length l)) l
drop-cut zero l = rw (zero-min (length l))
drop-cut (suc a) [] = rw (min-zero (suc a))
drop-cut (suc a) (x ∷ l) = rw (suc-min-suc a (length l)) (drop-cut a l)

take-cut : (b : ℕ) (l : List ℕ) → take b l ≡ take (min b (length l)) l
take-cut zero l = rw (zero-min (length l))
take-cut (suc b) [] = rw (min-zero (suc b))
take-cut (suc b) (x ∷ l) = rw (suc-min-suc b (length l)) (ap (λ (r : List ℕ). x ∷ r) (take-cut b l))

-- ---- what is written into a part
sets_left : (vs l r : List ℕ) (j : ℕ) → j + length vs ≤ length l → sets l j vs ++ r ≡ sets (l ++ r) j vs
sets_left [] l r j h = refl
sets_left (v ∷ vs) l r j h =
    let n = length-set l j v in
    sets_left vs (set l j v) r (suc j) (omega arith) ∙ ap (λ (z : List ℕ). sets z (suc j) vs) (sym (set-append_left l r j v (omega arith)))

sets_behind : (vs xs : List ℕ) (a j : ℕ) → take a xs ++ sets (drop a xs) j vs ≡ sets xs (a + j) vs
sets_behind [] xs a j = take-append-drop a xs
sets_behind (v ∷ vs) xs a j =
    ap (λ (l : List ℕ). l ++ sets (set (drop a xs) j v) (suc j) vs) (sym (take-set-le a xs (a + j) v (le-add_right a j)))
    ∙ ap (λ (l : List ℕ). take a (set xs (a + j) v) ++ sets l (suc j) vs) (sym (drop-set-add a xs j v))
    ∙ sets_behind vs (set xs (a + j) v) a (suc j)
    ∙ ap (λ (n : ℕ). sets (set xs (a + j) v) n vs) (add-suc a j)

put-sets : (vs xs : List ℕ) (a k : ℕ) → length vs ≤ length (mid_of a k xs) → put_mid a k xs (sets (mid_of a k xs) 0 vs) ≡ sets xs a vs
put-sets vs xs a k h =
    ap (λ (l : List ℕ). take a xs ++ l) (sets_left vs (mid_of a k xs) (post_of a k xs) 0 (omega arith) ∙ ap (λ (l : List ℕ). sets l 0 vs) (take-append-drop k (drop a xs)))
    ∙ sets_behind vs xs a 0
    ∙ ap (λ (n : ℕ). sets xs n vs) (add-zero a)

-- ---- what a finish answers: what it writes has room, and a new session follows
unfoldable EndsSo : ℕ → Answer (List ℕ) → Type 0
EndsSo room (answered ws s) = (4 * length ws ≤ room) × (s ≡ new)
EndsSo room (refused k) = 0 < k

by-room : (room : ℕ) (ws : List ℕ) (t : Bool) → ltb room (4 * length ws) ≡ t → EndsSo room (elim t [ true ↦ refused 7 | false ↦ answered ws new ])
unfolding EndsSo
by-room room ws true e = omega arith
by-room room ws false e = (ltb-false room (4 * length ws) e, refl)

ending_so : (m : Module) (room : ℕ) → EndsSo room (write_if_fits m room)
unfolding EndsSo write_if_fits
ending_so m room = go (too_large m)
  where
    go : (t : Bool) → EndsSo room (elim t [ true ↦ refused 21 | false ↦ elim (ltb room (4 * length (write m))) [ true ↦ refused 7 | false ↦ answered (write m) new ] ])
    go true = omega arith
    go false = by-room room (write m) (ltb room (4 * length (write m))) refl

finish_so : (room : ℕ) (s : Session) → EndsSo room (finish room s)
unfolding finish
finish_so room s = ending_so (finished s.state []) room

entries_so : (room : ℕ) (s : Session) → EndsSo room (finish_with_entry_points room s)
unfolding EndsSo finish_with_entry_points with_source
entries_so room s = go s.source
  where
    by_ring : (x : Source) (t : Bool) → EndsSo room (elim t [ true ↦ refused 22 | false ↦ write_if_fits (with_entries x s.state) room ])
    by_ring x true = omega arith
    by_ring x false = ending_so (with_entries x s.state) room

    go : (y : Option Source) → EndsSo room (with_source y λ x. elim (meets_ring (callees_of x.image.entries) x.image s.state) [ true ↦ refused 22 | false ↦ write_if_fits (with_entries x s.state) room ])
    go none = omega arith
    go (some x) = by_ring x (meets_ring (callees_of x.image.entries) x.image s.state)

-- ---- the part of l of b bytes from a on is that from f to t
module _ (a b : ℕ) (l : List ℕ) (f t : ℕ) (cut : (f ≡ min a (length l)) × (t ≡ f + min b (length l - f))) where
  pub part-mid : part a b l ≡ mid_of f (t - f) l
  unfolding part
  part-mid =
      ap (λ (r : List ℕ). take b r) (drop-cut a l ∙ ap (λ (n : ℕ). drop n l) (sym cut.0))
      ∙ take-cut b (drop f l)
      ∙ ap (λ (n : ℕ). take n (drop f l)) (ap (min b) (length-drop f l) ∙ omega (arith, cut))

  mid_size : (length (mid_of f (t - f) l) ≤ b) × (length (mid_of f (t - f) l) ≤ length l - f)
  mid_size =
      let p = length-take (t - f) (drop f l) in
      let q = min-le_left (t - f) (length (drop f l)) in
      let u = min-le_right (t - f) (length (drop f l)) in
      let w = length-drop f l in
      let x = min-le_left b (length l - f) in
      (omega (arith, cut), omega arith)

  moved : (vs : List ℕ) → length vs ≤ length l - f → sets l f vs ≡ sets l a vs
  moved [] h = refl
  moved (v ∷ vs) h =
      let p = min-le_left a (length l) in
      let not : f < a → ⊥ = λ q. let u = le-min {k = suc f} {a = a} {b = length l} q (omega arith) in omega (arith, cut) in
      let same : f ≡ a = omega (arith, cut, not) in
      ap (λ (n : ℕ). sets l n (v ∷ vs)) same

  module _ (s s' : Session) (r n : ℕ) (left : List ℕ) where
    wrote : (answer : Answer (List ℕ)) → EndsSo (length (mid_of f (t - f) l)) answer → FinishEnsures answer s r n (mid_of f (t - f) l) left s' → PerformEnsures (writes s a answer) r n 0 l (put_mid f (t - f) l left) s'
    unfolding EndsSo told writes bytes_of
    wrote (answered ws s'') e h =
        let z = length_bytes_of ws in
        let m = mid_size.1 in
        let g = e.0 in
        record {
          refusal_is = ap (λ (p : ℕ × ℕ × List ℕ). p.0) h.is;
          first_is = ap (λ (p : ℕ × ℕ × List ℕ). p.1) h.is;
          second_is = refl;
          output_is = ap (λ (p : ℕ × ℕ × List ℕ). put_mid f (t - f) l p.2) h.is ∙ put-sets (bytes_of ws) l f (t - f) (omega arith) ∙ moved (bytes_of ws) (omega arith);
          session_is = h.done (ap (λ (p : ℕ × ℕ × List ℕ). p.0) h.is) ∙ sym e.1;
        }
    wrote (refused j) e h =
        let z = ap (λ (p : ℕ × ℕ × List ℕ). p.0) h.is in
        record {
          refusal_is = z;
          first_is = ap (λ (p : ℕ × ℕ × List ℕ). p.1) h.is;
          second_is = refl;
          output_is = ap (λ (p : ℕ × ℕ × List ℕ). put_mid f (t - f) l p.2) h.is ∙ put_same f (t - f) l;
          session_is = h.stays (omega (arith, z, e));
        }

    small : (answer : Answer (List ℕ)) → EndsSo (length (mid_of f (t - f) l)) answer → FinishEnsures answer s r n (mid_of f (t - f) l) left s' → n ≤ b
    unfolding EndsSo told
    small (answered ws s'') e h = let z = ap (λ (p : ℕ × ℕ × List ℕ). p.1) h.is in let m = mid_size.0 in let g = e.0 in omega arith
    small (refused j) e h = let z = ap (λ (p : ℕ × ℕ × List ℕ). p.1) h.is in omega arith

    pub plain-wrote : (c : ℕ) → FinishEnsures (finish (length (mid_of f (t - f) l)) s) s r n (mid_of f (t - f) l) left s' → Wrote 13 a b c s (record { refusal = r; first = n; second = 0 }) l (put_mid f (t - f) l left) s'
    unfolding operations perform
    plain-wrote c h = record { is = λ sources. rw (part-mid) (wrote (finish (length (mid_of f (t - f) l)) s) (finish_so (length (mid_of f (t - f) l)) s) h) }

    pub plain_small : FinishEnsures (finish (length (mid_of f (t - f) l)) s) s r n (mid_of f (t - f) l) left s' → n ≤ b
    plain_small = small (finish (length (mid_of f (t - f) l)) s) (finish_so (length (mid_of f (t - f) l)) s)

    pub entries_wrote : (c : ℕ) → FinishEnsures (finish_with_entry_points (length (mid_of f (t - f) l)) s) s r n (mid_of f (t - f) l) left s' → Wrote 14 a b c s (record { refusal = r; first = n; second = 0 }) l (put_mid f (t - f) l left) s'
    unfolding operations perform
    entries_wrote c h = record { is = λ sources. rw (part-mid) (wrote (finish_with_entry_points (length (mid_of f (t - f) l)) s) (entries_so (length (mid_of f (t - f) l)) s) h) }

    pub entries_small : FinishEnsures (finish_with_entry_points (length (mid_of f (t - f) l)) s) s r n (mid_of f (t - f) l) left s' → n ≤ b
    entries_small = small (finish_with_entry_points (length (mid_of f (t - f) l)) s) (entries_so (length (mid_of f (t - f) l)) s)
