-- 21 is exact: `Exactly` holds of each state that a session reaches, and of what an operation makes of it.
use Rattle.std.specs.Prelude.{◌≡◌, refl, Bool, true, false, List, [], map, ℕ, ◌≤◌, length, get_or}
use Rattle.std.proofs.Common.{sym, ap, ◌∙◌, arith}
use Rattle.std.proofs.Math.Option.{Option, none, some}
use Rattle.std.proofs.lemmas.List.{length-map}
use Rattle.model.specs.Tree.{Entry, flat_entry, flat_all}
use Rattle.model.specs.Carry.{Each, each_none}
use Rattle.model.specs.Initial.{Mem}
use Rattle.model.specs.Tables.{Tab, code_t, Tables, count}
use Rattle.model.specs.Imports.{Derived}
use Rattle.model.specs.Bodies.{enter_all, entries_made}
use Rattle.model.specs.Finish.{names_in, gathered, finished, too_large}
use Rattle.model.specs.Refusals.{FULL}
use Rattle.model.specs.Session.{Source, Session, answered, refused, unless_full, meets_ring, callees_of}
use Rattle.theory_records.specs.TableLaws.{at-six}
use Rattle.theory_finish.specs.Finished.{appearing_low}
use Rattle.theory_finish.specs.Shown.{Shown, held-map}
use Rattle.theory_finish.specs.ShownSource.{None, end-shown}
use Rattle.theory_finish.specs.NamedSession.{NamedBy}
use Rattle.theory_finish.specs.Exact.{exact}
use Rattle.theory_sessions.specs.Following.{Holds, holds_from, from_next}
use Rattle.theory_sessions.specs.Entering.{EntryPiece, all-entered, entries_sound}
use Rattle.theory_sessions.specs.Ending.{parts, three}
use Rattle.theory_sessions.specs.Operating.{GoodBy, Good, good_holds}
use Rattle.derive_state.specs.Flats.{function_of, entry_of, special_of}
use Rattle.derive_state.specs.Held.{table_of, recs_of, functions_of, entries_of, st_of, size_r, Over, long, many, crowd, keys, ValidArrays}
use Rattle.derive_state.specs.Sizes.{Sizes}
use Rattle.derive_state.proofs.State.{code_low, table_long, pairs_long, words_are}
use Rattle.derive_state.proofs.Laws.{none-held}
use Rattle.derive_limits.specs.Full.{Full, over, entries}
use Rattle.derive_limits.proofs.Full.{full_large, large_full}
use Rattle.derive_limits.specs.Reached.{Reached, At}
use Rattle.derive_limits.specs.Theorems.{Exactly}

-- of a state that holds, all of whose names appear
exactly : {T U : Tables} {s : Derived} {es : List Entry} → Holds T s → Each (EntryPiece s) es → Shown U None (λ j. Mem j (names_in (flat_all (map flat_entry es)))) s → Exactly s es
exactly {s} {es} h ps v = record { full = λ f. same ∙ full_large s es (parts h ps) f; only = only; fits = λ f. go (too_large (finished s es)) f only }
  where
    same : too_large (finished s es) ≡ too_large (gathered s es)
    same = exact s es v (appearing_low (parts h ps) (three h ps))

    only : too_large (finished s es) ≡ true → Full s es
    only e = large_full s es (parts h ps) (sym same ∙ e)

    go : (b : Bool) → (Full s es → ⊥) → (b ≡ true → Full s es) → b ≡ false
    go true f g = absurd (f (g refl))
    go false f g = refl

-- ---- WITHOUT ENTRY POINTS
-- at every state of a session
pub exact_now : {s : Session} → Reached s → Exactly s.state []
unfolding Good GoodBy NamedBy
exact_now {s} r = go s.source r.named
  where
    h : (T : Tables) × Holds T s.state
    h = good_holds s.source s.state r.good

    go : (y : Option Source) → NamedBy y s.state → Exactly s.state []
    go none v = exactly h.1 each_none (held-map (λ j z. absurd z) v)
    go (some x) v = exactly h.1 each_none (held-map (λ j z. absurd z) v.2)

-- and of what an operation makes of one (`import_at`, `rename-at`, `function-at`, `handle_at`, `sourced-at`)
pub exact-at : {x : Source} {s : Derived} → At x s → Exactly s []
exact-at a = exactly a.set.holds each_none (held-map (λ j z. absurd z) a.shown)

-- that is `Over`, with no words beside it
pub now_over : {s : Derived} → Exactly s [] → too_large (finished s []) ≡ true → Over 0 s
unfolding size_r
now_over {s} x e = go (x.only e)
  where
    go : Full s [] → Over 0 s
    go (over h) = h
    go (entries h) = absurd (omega arith)

pub over_now : {s : Derived} → Exactly s [] → Over 0 s → too_large (finished s []) ≡ true
unfolding size_r
over_now x h = x.full (over h)

-- so an operation that makes it of a session's state is refused exactly there
pub kept_full : {A : Type 0} (x : Source) {r : Derived} (a : A) → Exactly r [] → Over 0 r → unless_full x r a ≡ refused FULL
unfolding unless_full
kept_full x a y h = rw (unless_full, over_now y h)

pub kept-room : {A : Type 0} (x : Source) {r : Derived} (a : A) → Exactly r [] → (Over 0 r → ⊥) → unless_full x r a ≡ answered a (record { source = some x; state = r })
unfolding unless_full size_r
kept-room x {r} a y h = rw (unless_full, y.fits none_over)
  where
    none_over : Full r [] → ⊥
    none_over (over z) = h z
    none_over (entries z) = omega arith

-- ---- WITH THE SOURCE'S, where 22 is not met
pub exact-end : {x : Source} {s : Derived} → At x s → meets_ring (callees_of x.image.entries) x.image s ≡ false → Exactly (enter_all x.image.entries x.offset x.image s) (entries_made x.image.entries x.offset x.image s)
exact-end {x} {s} a e =
    let w = a.set.well in
    let p = a.set.passes in
    let i = all-entered x.image w p x.offset s (entries_sound x.image w p x.offset s e) s (holds_from a.set.holds) in
    exactly (from_next i.from).holds i.pieces (end-shown x.image w p.numbers x.offset s a.shown)

-- ---- ARRAYS THAT ARE KEPT hold a state that is not full, with the entry points that they hold
pub kept_fits : {log logtags : List ℕ} {starts maps : List (List ℕ)} {buckets : List ℕ} {e : Sizes} → ValidArrays log logtags starts maps buckets e → (words special : List ℕ) → Full (st_of words log logtags starts maps special e) (entries_of log logtags starts e.counts) → ⊥
unfolding st_of functions_of entries_of recs_of special_of count
kept_fits {log} {logtags} {starts} {maps} {buckets} {e} K words special = go
  where
    table : (t : ℕ) → t ≤ 7 → length (table_of log logtags starts e.counts t) ≡ get_or e.counts t 0
    table t h = table_long log logtags starts maps buckets e K t (omega arith)

    row : (t : Tab) → count (recs_of log logtags starts e.counts) t ≤ 512
    row t = let c = code_low t in let f = K.few (code_t t) (omega arith) in omega (arith, ap length (at-six t (λ u. table_of log logtags starts e.counts (code_t u))), table (code_t t) (omega arith))

    go : Full (st_of words log logtags starts maps special e) (entries_of log logtags starts e.counts) → ⊥
    go (over (long h)) = omega (arith, words_are log logtags starts maps buckets e K words special, ap size_r K.flats', K.room)
    go (over (many t h)) = omega (arith, row t)
    go (over (crowd h)) = omega (arith, length-map (table_of log logtags starts e.counts 6) function_of, table 6 (omega arith), K.few_functions)
    go (over (keys h)) = omega (arith, pairs_long special e.pairs 3, K.few_pairs)
    go (entries h) = omega (arith, length-map (table_of log logtags starts e.counts 7) entry_of, table 7 (omega arith), K.few_entries)

-- where they hold no entry points, that is `Over` with no words beside it
pub kept_not_over : {log logtags : List ℕ} {starts maps : List (List ℕ)} {buckets : List ℕ} {e : Sizes} → ValidArrays log logtags starts maps buckets e → get_or e.counts 7 0 ≡ 0 → (words special : List ℕ) → Over 0 (st_of words log logtags starts maps special e) → ⊥
unfolding size_r
kept_not_over {log} {logtags} {starts} {maps} {e} K z words special h = kept_fits K words special (rw (none-held log logtags starts e.counts z).0 (over h))
