-- The theorems on what is defined in `specs/Words.antt`.
use Rattle.std.specs.Prelude.{◌≡◌, true, List, [], ◌∷◌, eqb, leb, length, get_or, set as set_at}
use Rattle.std.proofs.Math.Path.{refl}
use Rattle.std.proofs.Common.{sym, subst, arith, eqb-true}
use Rattle.std.proofs.Math.Option.{some}
use Prim.Native.Nat.{ℕ, zero, suc, ◌*◌, ◌^◌, ◌<◌}
use Rattle.theory_lists.specs.Booleans.{and_split}
use Rattle.base_words.specs.Words.{AllBelow, words_of}
use Rattle.base_words.proofs.Laws.{length_words_of, words_below}
use Rattle.model.specs.Outcome.{Cells, Laid, laid, bad, strange}
use Rattle.model.specs.Module.{Module, read, sized}
use Rattle.model.specs.Carry.{Each, each_none, each_next}
use Rattle.model.specs.Intake.{intake_of, of_laid, after_intake, on_words}
use Rattle.model.specs.Callees.{callees}
use Rattle.model.specs.Redirect.{function}
use Rattle.model.specs.Tables.{Tab, names, types, at, upd, Tables, tables, rec_at, count}
use Rattle.model.specs.Imports.{Derived, rename, renamed, emptied}
use Rattle.model.specs.Special.{sourced}
use Rattle.model.specs.Bodies.{follow}
use Rattle.model.specs.Finish.{finished}
use Rattle.model.specs.Session.{Source, Session, Answer, answered, refused, after, new, meets_ring, set_module, set, clear, importing, rename_type, import_function, map_function_handle, finish, with_entries, finish_with_entry_points}
use Rattle.theory_records.specs.TableLaws.{Tab_dec, at_same, at_other}
use Rattle.theory_finish.specs.Small.{Small, Rows, SmallModule, SmallState}
use Rattle.theory_finish.proofs.Small.{at_row, import_small, append_small, follow_small, enter_small, entries_small, sourced_small, fresh_small, finished_small}
use Rattle.theory_finish.proofs.Words.{read_small, written_words}
use Rattle.theory_finish.specs.Size.{intake_sized}
use Rattle.theory_sessions.specs.Ending.{Written}
use Rattle.theory_sessions.specs.Operating.{Operation, sets, clears, spans, imports, renames, functions, handles, finishes, finishes_with, does, run, Good, kept-after, ranged_after, ringless_after, ending-after, needing_after, span_after, finish_with_after, new_good, does_good}
use Rattle.theory_sessions.proofs.Operating.{finish-written}
use Rattle.theory_sessions.proofs.Theorems.{written-with}
use Rattle.theory_sessions.specs.Words.{Given, GivenBy, given-source, SmallBy, SmallSession}

-- every list of bytes is so
pub bytes_given : (image : List ℕ) → AllBelow 256 image → Given (length image) (words_of image)
unfolding sized
bytes_given image h = record {
  below = words_below image h;
  whole = λ p.
      let s = intake_sized (length image) (words_of image) p in
      let e = (and_split (eqb (get_or (words_of image) 0 0) 1) _ (and_split (leb (length image) 65536) _ (and_split (leb 80 (length image)) _ s).1).1).1 in
      omega (arith, eqb-true (length image) (4 * get_or (words_of image) 1 0) e, length_words_of image);
}

with-source : (x : Source) (r : Derived) → SmallModule x.image → SmallState r → SmallSession (record { source = some x; state = r })
unfolding SmallBy
with-source x r m k = record { in_source = m; in_state = k }

source_of : (s : Session) → SmallSession s → (x : Source) → s.source ≡ some x → SmallModule x.image
unfolding SmallBy
source_of s k x e = subst SmallBy e k.in_source

pub new_small : SmallSession new
unfolding new SmallBy
new_small = record { in_source = tt; in_state = fresh_small }

clear_small : (s : Session) → SmallSession s → SmallSession (clear s)
unfolding clear emptied SmallBy
clear_small s k = let g = k.in_state in record { in_source = tt; in_state = record { in_tables_lem = g.in_tables_lem; in_functions_lem = g.in_functions_lem; in_rays = g.in_rays; in_pairs = g.in_pairs } }

-- ---- a type that is renamed
put-row : {rs : List Cells} → Rows rs → (n : ℕ) (r : Cells) → Each Small r → Rows (set_at rs n r)
put-row each_none n r h = each_none
put-row (each_next g gs) zero r h = each_next h gs
put-row (each_next g gs) (suc n) r h = each_next g (put-row gs n r h)

rename-row : (name : ℕ) → name < 512 → {r : Cells} → Each Small r → Each Small (rename name r)
unfolding rename
rename-row name l each_none = each_none
rename-row name l (each_next {a = c} h hs) = each_next {a = (c.0, suc name)} (record { below = λ f. omega arith }) hs

rename-tables : (T : Tables) (n name : ℕ) → name < 512 → ((u : Tab) → Rows (at u T)) → (u : Tab) → Rows (at u (renamed T n name))
unfolding renamed rec_at
rename-tables T n name l h u = go (Tab_dec types u)
  where
    new-types : Rows (set_at (at types T) n (rename name (get_or (at types T) n [])))
    new-types = put-row (h types) n _ (rename-row name l (at_row (h types) each_none n))

    go : Dec (types ≡ u) → Rows (at u (upd types (set_at (at types T) n (rename name (get_or (at types T) n []))) T))
    go (yes e) = rw (← e, at_same types (set_at (at types T) n (rename name (get_or (at types T) n []))) T) new-types
    go (no d) = rw (at_other types u (set_at (at types T) n (rename name (get_or (at types T) n []))) T d) (h u)

-- ---- EVERY OPERATION KEEPS IT
module _ (s : Session) (g : Good s) (k : SmallSession s) where
  set_small : (bytes : ℕ) (ws : List ℕ) (o : ℕ) → Given bytes ws → SmallSession (after s (set bytes ws o s))
  unfolding set on_words after_intake of_laid set_module after
  set_small bytes ws o h = go (intake_of bytes ws) refl (read ws) refl
    where
      go : (n : ℕ) → intake_of bytes ws ≡ n → (r : Laid Module) → read ws ≡ r → SmallSession (after s (let v : Answer (Unit {0}) = elim n [ zero ↦ of_laid (set_module o s) refused r | suc n ↦ refused (suc n) ] in v))
      go zero e (laid m) q =
          let x : SmallModule m = read_small bytes ws m e q (h.whole e) h.below in
          kept-after SmallSession s k (record { image = m; offset = o }) (sourced o m s.state) tt (with-source _ _ x (sourced_small o m x s.state k.in_state))
      go zero e bad q = k
      go zero e strange q = k
      go (suc n) e r q = k

  imports_small : (t : Tab) (n : ℕ) → SmallSession (after s (importing t n s))
  unfolding importing
  imports_small t n =
      needing_after SmallSession s k g _ λ x q y.
      ranged_after SmallSession s k n (count (tables x.image) t) _ λ l.
      kept-after SmallSession s k x _ _ (with-source x _ (source_of s k x q) (import_small x.offset (tables x.image) (source_of s k x q).in_tables_lem t n s.state k.in_state))

  renames_small : (n name : ℕ) → SmallSession (after s (rename_type n name s))
  unfolding rename_type count tables at
  renames_small n name =
      needing_after SmallSession s k g _ λ x q y.
      ranged_after SmallSession s k n (count (tables x.image) types) _ λ l.
      ranged_after SmallSession s k name (count (tables x.image) names) _ λ w.
      let f = y.well.names_ok.few in
      kept-after SmallSession s k x _ _ (with-source x _ (source_of s k x q) (import_small x.offset (renamed (tables x.image) n name) (rename-tables (tables x.image) n name (omega arith) (source_of s k x q).in_tables_lem) types n s.state k.in_state))

  functions_small : (n : ℕ) → SmallSession (after s (import_function n s))
  unfolding import_function
  functions_small n =
      needing_after SmallSession s k g _ λ x q y.
      ranged_after SmallSession s k n (length x.image.functions) _ λ l.
      ringless_after SmallSession s k (meets_ring (n ∷ callees (function x.image n)) x.image s.state) _ λ e.
      let m = source_of s k x q in
      kept-after SmallSession s k x _ _ (with-source x _ m (append_small x.offset x.image m (follow x.offset x.image) (follow_small x.offset x.image m) n s.state k.in_state))

  handles_small : (n : ℕ) → SmallSession (after s (map_function_handle n s))
  unfolding map_function_handle
  handles_small n =
      needing_after SmallSession s k g _ λ x q y.
      ranged_after SmallSession s k n (length x.image.functions) _ λ l.
      ringless_after SmallSession s k (meets_ring (n ∷ []) x.image s.state) _ λ e.
      let m = source_of s k x q in
      kept-after SmallSession s k x _ _ (with-source x _ m (follow_small x.offset x.image m n s.state k.in_state))

pub does_small : (p : Operation) → GivenBy p → (s : Session) → Good s → SmallSession s → SmallSession (does p s)
unfolding does finish
does_small (sets bytes ws o) (given-source h) s g k = set_small s g k bytes ws o h
does_small clears h s g k = clear_small s k
does_small (spans v) h s g k = span_after SmallSession s k g v
does_small (imports t n) h s g k = imports_small s g k t n
does_small (renames n name) h s g k = renames_small s g k n name
does_small (functions n) h s g k = functions_small s g k n
does_small (handles n) h s g k = handles_small s g k n
does_small (finishes room) h s g k = ending-after SmallSession s k (finished s.state []) room new_small
does_small (finishes_with room) h s g k = finish_with_after SmallSession s k g room new_small

pub run_small : (ps : List Operation) → Each GivenBy ps → (s : Session) → Good s → SmallSession s → SmallSession (run ps s)
unfolding run
run_small [] h s g k = k
run_small (p ∷ ps) (each_next h hs) s g k = run_small ps hs (does p s) (does_good p s g) (does_small p h s g k)

pub session_small : (ps : List Operation) → Each GivenBy ps → SmallSession (run ps new)
session_small ps h = run_small ps h new new_good new_small

-- ---- WHAT IS WRITTEN is words
of_written : {m : Module} {ws : List ℕ} → Written m ws → SmallModule m → AllBelow (2 ^ 32) ws
of_written {m} {ws} w k = subst (λ xs. AllBelow (2 ^ 32) xs) (sym w.words) (written_words m k w.three (subst (λ xs. read xs ≡ laid m) w.words w.reads) (subst (λ xs. sized (4 * length xs) xs ≡ true) w.words w.one))

pub finish_words : (s : Session) → Good s → SmallSession s → (room : ℕ) (ws : List ℕ) (r : Session) → finish room s ≡ answered ws r → AllBelow (2 ^ 32) ws
finish_words s g k room ws r e = of_written (finish-written s g room ws r e) (finished_small s.state [] k.in_state each_none)

pub finish_with_words : (s : Session) → Good s → SmallSession s → (x : Source) → s.source ≡ some x → (room : ℕ) (ws : List ℕ) (r : Session) → finish_with_entry_points room s ≡ answered ws r → AllBelow (2 ^ 32) ws
unfolding with_entries
finish_with_words s g k x q room ws r e =
    let m = source_of s k x q in
    of_written (written-with s g x q room ws r e) (finished_small _ _ (enter_small x.offset x.image m m.in_entries_lem s.state k.in_state) (entries_small x.offset x.image m m.in_entries_lem s.state k.in_state))
