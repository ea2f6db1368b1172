-- THE LAW OF NAMES in a session: whatever operations were done, every derived name appears. So what is derived is too large for an image (21) exactly if the log of all that was derived is, names included.
use Rattle.std.specs.Prelude.{◌≡◌, Bool, ℕ, zero, suc, ◌*◌, ◌<◌, ltb}
use Rattle.std.proofs.Math.Path.{refl}
use Rattle.std.proofs.Math.Bool.{true, false}
use Rattle.std.proofs.Math.Option.{Option, none, some}
use mathlib.Core.List.{List, []}
use Rattle.std.proofs.Math.ListN.{length}
use Rattle.std.proofs.Common.{ltb-true}
use Rattle.model.specs.Outcome.{Laid, laid, bad, strange}
use Rattle.model.specs.Tree.{Entry}
use Rattle.model.specs.Module.{Module, read, write}
use Rattle.model.specs.Carry.{WellFormed}
use Rattle.model.specs.Initial.{Mem}
use Rattle.model.specs.Intake.{intake_of, of_laid, after_intake, on_words}
use Rattle.model.specs.Numbers.{numbered}
use Rattle.model.specs.Tables.{Tab, names, types, is_t, tables, count}
use Rattle.model.specs.Imports.{Derived}
use Rattle.model.specs.Bodies.{enter_all, entries_made}
use Rattle.model.specs.Special.{sourced}
use Rattle.model.specs.Finish.{appearing, gathered, finished, too_large}
use Rattle.model.specs.Session.{Source, Session, Answer, answered, refused, after, new, with_source, unless_full, meets_ring, set_module, set, clear, map_span, importing, rename_type, import_function, map_function_handle, write_if_fits, finish, with_entries, finish_with_entry_points}
use Rattle.theory_image.specs.Modules.{read_well}
use Rattle.theory_finish.specs.Shown.{Shown, held-map}
use Rattle.theory_finish.specs.ShownSource.{None, nowhere, source_sound, rename-shown, record_shown, call-shown, import_function_shown, end-shown, sourced-shown, fresh-shown, cleared_shown}
use Rattle.theory_finish.specs.Exact.{exact}
use Rattle.theory_finish.specs.Linking.{intake_passes}

-- every derived name appears, and a source that is set passed layout and test 3
unfoldable pub NamedBy : Option Source → Derived → Type 0
NamedBy none s = Shown nowhere None None s
NamedBy (some x) s = WellFormed x.image × (numbered x.image ≡ true) × Shown (tables x.image) None None s

abbrev pub Named : Session → Type 0
Named s = NamedBy s.source s.state

pub new-named : Named new
unfolding new NamedBy
new-named = fresh-shown None

-- ---- what an operation answers
module _ (s : Session) (v : Named s) where
  kept-named : {A : Type 0} (x : Source) (r : Derived) (a : A) → NamedBy (some x) r → Named (after s (unless_full x r a))
  unfolding unless_full
  kept-named {A} x r a w = go (too_large (finished r []))
    where
      go : (b : Bool) → Named (after {A = A} s (elim b [ true ↦ refused 21 | false ↦ answered a (record { source = some x; state = r }) ]))
      go true = unfold after in v
      go false = unfold after in w

  -- of a number in its table
  in_range_lem : {A : Type 0} (n k : ℕ) (y : Answer A) → (n < k → Named (after s y)) → Named (after {A = A} s (elim (ltb n k) [ true ↦ y | false ↦ refused 13 ]))
  in_range_lem {A} n k y f = go (ltb n k) refl
    where
      go : (b : Bool) → ltb n k ≡ b → Named (after {A = A} s (elim b [ true ↦ y | false ↦ refused 13 ]))
      go true e = f (ltb-true n k e)
      go false e = unfold after in v

  no_ring : {A : Type 0} (b : Bool) (y : Answer A) → Named (after s y) → Named (after {A = A} s (elim b [ true ↦ refused 22 | false ↦ y ]))
  no_ring true y w = unfold after in v
  no_ring false y w = w

  needing_named : {A : Type 0} (o : Option Source) (f : Source → Answer A) → NamedBy o s.state → ((x : Source) → NamedBy (some x) s.state → Named (after s (f x))) → Named (after s (with_source o f))
  unfolding with_source
  needing_named none f w g = unfold after in v
  needing_named (some x) f w g = g x w

  -- ---- THE OPERATIONS
  pub set-named : (bytes : ℕ) (ws : List ℕ) (o : ℕ) → Named (after s (set bytes ws o s))
  unfolding set on_words after_intake of_laid set_module NamedBy
  set-named bytes ws o = go (intake_of bytes ws) refl
    where
      shown : (y : Option Source) → NamedBy y s.state → (m : Module) → WellFormed m → numbered m ≡ true → Shown (tables m) None None (sourced o m s.state)
      shown none w m a b = sourced-shown m a b o nowhere None s.state w
      shown (some x) w m a b = sourced-shown m a b o (tables x.image) None s.state w.2

      laid-named : (l : Laid Module) → read ws ≡ l → intake_of bytes ws ≡ 0 → Named (after s (of_laid (set_module o s) refused l))
      laid-named (laid m) r e =
          let a = read_well ws m r in
          let b = (intake_passes bytes ws m e r).numbers in
          kept-named (record { image = m; offset = o }) (sourced o m s.state) tt (a, b, shown s.source v m a b)
      laid-named bad r e = unfold after in v
      laid-named strange r e = unfold after in v

      go : (n : ℕ) → intake_of bytes ws ≡ n → Named (after {A = Unit {0}} s (elim n [ zero ↦ of_laid (set_module o s) refused (read ws) | suc k ↦ refused (suc k) ]))
      go zero e = laid-named (read ws) refl e
      go (suc k) e = unfold after in v

  pub clear-named : Named (clear s)
  unfolding clear NamedBy
  clear-named = go s.source v
    where
      go : (y : Option Source) → NamedBy y s.state → Named (clear s)
      go none w = cleared_shown nowhere None s.state w
      go (some x) w = cleared_shown (tables x.image) None s.state w.2

  pub span_named : (p : ℕ × ℕ) → Named (after s (map_span p s))
  unfolding map_span
  span_named p = needing_named s.source _ v λ x w. unfold after in v

  pub import_named : (t : Tab) → is_t t names ≡ false → (n : ℕ) → Named (after s (importing t n s))
  unfolding importing NamedBy
  import_named t q n = needing_named s.source _ v λ x w. in_range_lem n (count (tables x.image) t) _ λ l. kept-named x _ _ (w.0, w.1, record_shown x.image w.0 w.1 x.offset None t n s.state q w.2)

  pub rename-named : (n name : ℕ) → Named (after s (rename_type n name s))
  unfolding rename_type NamedBy
  rename-named n name =
      needing_named s.source _ v λ x w.
      in_range_lem n (count (tables x.image) types) _ λ l. in_range_lem name (count (tables x.image) names) _ λ k. kept-named x _ _ (w.0, w.1, rename-shown (tables x.image) (source_sound x.image w.0 w.1) n name k x.offset None None s.state w.2)

  pub function-named : (n : ℕ) → Named (after s (import_function n s))
  unfolding import_function NamedBy
  function-named n =
      needing_named s.source _ v λ x w.
      in_range_lem n (length x.image.functions) _ λ l. no_ring (meets_ring _ x.image s.state) _ (kept-named x _ _ (w.0, w.1, import_function_shown x.image w.0 w.1 x.offset None n s.state w.2))

  pub handle_named : (n : ℕ) → Named (after s (map_function_handle n s))
  unfolding map_function_handle NamedBy
  handle_named n =
      needing_named s.source _ v λ x w.
      in_range_lem n (length x.image.functions) _ λ l. no_ring (meets_ring _ x.image s.state) _ (kept-named x _ _ (w.0, w.1, call-shown x.image w.0 w.1 x.offset None n s.state w.2))

  ending-named : (m : Module) (room : ℕ) → Named (after s (write_if_fits m room))
  unfolding write_if_fits
  ending-named m room = go (too_large m)
    where
      open_room : (b : Bool) (ws : List ℕ) → Named (after {A = List ℕ} s (elim b [ true ↦ refused 7 | false ↦ answered ws new ]))
      open_room true ws = unfold after in v
      open_room false ws = unfold after in new-named

      go : (b : Bool) → Named (after {A = List ℕ} s (elim b [ true ↦ refused 21 | false ↦ let ws = write m in elim (ltb room (4 * length ws)) [ true ↦ refused 7 | false ↦ answered ws new ] ]))
      go true = unfold after in v
      go false = open_room (ltb room (4 * length (write m))) (write m)

  pub finish-named : (room : ℕ) → Named (after s (finish room s))
  unfolding finish
  finish-named room = ending-named (finished s.state []) room

  pub end-named : (room : ℕ) → Named (after s (finish_with_entry_points room s))
  unfolding finish_with_entry_points
  end-named room = needing_named s.source _ v λ x w. no_ring (meets_ring _ x.image s.state) _ (ending-named (with_entries x s.state) room)

-- ---- 21 IS EXACT, of states whose name words are in range: at the end without entry points, and with them
module _ (x : Source) (s : Derived) (v : NamedBy (some x) s) where
  abbrev es : List Entry
  es = entries_made x.image.entries x.offset x.image s

  abbrev e : Derived
  e = enter_all x.image.entries x.offset x.image s

  pub exact_now : ((n : ℕ) → Mem n (appearing (gathered s [])) → n < length (gathered s []).names) → too_large (finished s []) ≡ too_large (gathered s [])
  unfolding NamedBy
  exact_now low = exact s [] (held-map (λ j h. absurd h) v.2) low

  pub exact-end : ((n : ℕ) → Mem n (appearing (gathered e es)) → n < length (gathered e es).names) → too_large (with_entries x s) ≡ too_large (gathered e es)
  unfolding NamedBy with_entries
  exact-end low = exact e es (end-shown x.image v.0 v.1 x.offset s v.2) low
