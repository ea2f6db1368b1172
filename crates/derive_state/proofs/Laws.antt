-- What a good state gives to those who write it out: flat records read back are the functions and entry points that they came from, names' records have no names, and
-- the words of special types are theirs.
use Rattle.std.proofs.Common.{◌≡◌, ℕ, zero, suc, ◌+◌, ◌*◌, ◌<◌, ◌≤◌, List, [], ◌∷◌, map, length, get_or, take, sym, refl, ap, ◌∙◌, ⊎_elim, append-nil, arith, ne_eqb}
use lib.Seq.{slice, slice-cons}
use Rattle.model.specs.Outcome.{Cells, class, word}
use Rattle.model.specs.Table.{NAME}
use Rattle.model.specs.Tree.{Function, Entry, flat, flat_entry, flat_all}
use Rattle.model.specs.Module.{flat_special}
use Rattle.model.specs.Between.{between}
use Rattle.model.specs.Carry.{each_none, each_next, WellFunction, WellEntry}
use Rattle.model.specs.Finish.{names_in}
use Rattle.theory_image.specs.Writing.{write-function, write-entry}
use Rattle.theory_image.specs.Betweens.{between_next, slice-none}
use Rattle.derive_state.specs.Flats.{function_in, function_of, entry_in, entry_of, pairs_at, special_of}
use Rattle.derive_state.specs.Held.{rec_at, recs_at, table_of, entries_of, size_r, Named, Nameless}
use Rattle.derive_state.proofs.State.{same_or}

-- ---- flat records
pub function-flat : (f : Function) → WellFunction f → function_of (flat f) ≡ f
unfolding function_of function_in
function-flat f w = ap function_in (rw append-nil at (write-function f w []))

pub entry-flat : (e : Entry) → WellEntry e → entry_of (flat_entry e) ≡ e
unfolding entry_of entry_in
entry-flat e w = ap entry_in (rw append-nil at (write-entry e w []))

-- ---- names
pub nameless-none : {cs : Cells} → Nameless cs → names_in cs ≡ []
unfolding names_in
nameless-none each_none = refl
nameless-none (each_next {a = c} f q) = rw (ne_eqb (class c) NAME f, names_in) (nameless-none q)

named-at : (logtags words : List ℕ) (n i end : ℕ) → end ≤ length logtags → end ≤ length words → (d : ℕ) → i + d ≡ end → Named n (between logtags words i end) → (j : ℕ) → i ≤ j → j < end → get_or logtags j 0 ≡ NAME → get_or words j 0 ≤ n
named-at logtags words n i end t w zero e q j a b c = absurd (omega arith)
named-at logtags words n i end t w (suc d) e q j a b c =
    go (rw (between_next logtags words i end (omega arith) t w) at q) (λ r h. named-at logtags words n (suc i) end t w d (omega arith) r j h b c)
  where
    go : Named n ((get_or logtags i 0, get_or words i 0) ∷ between logtags words (suc i) end) → (Named n (between logtags words (suc i) end) → suc i ≤ j → get_or words j 0 ≤ n) → get_or words j 0 ≤ n
    go (each_next f r) there = ⊎_elim
        (λ (p : i ≡ j). let f' : get_or logtags j 0 ≡ NAME → get_or words j 0 ≤ n = rw p at f in f' c)
        (λ (ne : i ≡ j → ⊥). there r (omega arith))
        (same_or i j)

-- a name in a record, by its place in the log
pub name_low : (log logtags : List ℕ) (n s : ℕ) → length log ≡ 16384 → length logtags ≡ 16384 → s + suc (get_or log s 0) ≤ 16384 → Named n (rec_at log logtags s) → (i : ℕ) → s < i → i < suc s + get_or log s 0 → get_or logtags i 0 ≡ NAME → get_or log i 0 ≤ n
unfolding rec_at
name_low log logtags n s hl ht h q i a b c = named-at logtags log n (suc s) (suc s + get_or log s 0) (omega arith) (omega arith) (get_or log s 0) refl q i a b c

-- ---- special types
pairs_words : (ws : List ℕ) (n i : ℕ) → i + 2 * n ≤ length ws → map word (flat_all (pairs_at ws i n)) ≡ slice i (i + 2 * n) ws
unfolding pairs_at flat_all
pairs_words ws zero i h = let z : i + 2 * 0 ≡ i = omega arith in rw z (sym (slice-none i i ws (omega arith)))
pairs_words ws (suc n) i h =
    let z : i + 2 * suc n ≡ suc (suc i) + 2 * n = omega arith in
    let a = slice-cons i (suc (suc i) + 2 * n) ws 0 (omega arith) (omega arith) in
    let b = slice-cons (suc i) (suc (suc i) + 2 * n) ws 0 (omega arith) (omega arith) in
    let x : 1 + i ≡ suc i = omega arith in
    let y : 2 + i ≡ suc (suc i) = omega arith in
    rw (z, a, b, x, y, pairs_words ws n (suc (suc i)) (omega arith))

pub special_words : (ws : List ℕ) (n : ℕ) → 3 + 2 * n ≤ length ws → map word (flat_special (special_of ws n)) ≡ take (3 + 2 * n) ws
unfolding special_of flat_special
special_words ws n h =
    let a = slice-cons 0 (3 + 2 * n) ws 0 (omega arith) h in
    let b = slice-cons 1 (3 + 2 * n) ws 0 (omega arith) h in
    let c = slice-cons 2 (3 + 2 * n) ws 0 (omega arith) h in
    rw (pairs_words ws n 3 h) (sym (a ∙ rw (b, c)))

-- ---- arrays that hold no entry points
pub none-held : (log logtags : List ℕ) (starts : List (List ℕ)) (counts : List ℕ) → get_or counts 7 0 ≡ 0 → (entries_of log logtags starts counts ≡ []) × (size_r (table_of log logtags starts counts 7) ≡ 0)
unfolding entries_of size_r recs_at
none-held log logtags starts counts e = (rw e, rw e)
