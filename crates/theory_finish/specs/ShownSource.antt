-- THE LAW OF NAMES for a source that passed layout and test 3: after every step of a session with it, each derived name appears in a record or a function, and at the end with the entry points in these too.
use Rattle.std.specs.Prelude.{◌≡◌, true, false, set}
use Rattle.std.proofs.Math.Path.{refl, ap}
use Rattle.std.proofs.Common.{◌∙◌, arith, get_or-set_other}
use Rattle.std.proofs.Math.Logic.{⊎_elim}
use mathlib.Core.List.{List, [], ◌∷◌, ◌++◌, map}
use Prim.Native.Nat.{ℕ, zero, suc, ◌≤◌, ◌<◌}
use Rattle.std.proofs.Math.Decide.{ℕ_discrete, dec_lt}
use Rattle.std.proofs.Math.ListN.{length, get_or, replicate, length-replicate}
use Rattle.std.proofs.Math.Seq.{set_out, get_or-set_same}
use Rattle.theory_lists.specs.Booleans.{and_split}
use Rattle.model.specs.Outcome.{Cells}
use Rattle.model.specs.Tree.{Function, Entry, flat, flat_all, flat_b, flat_entry}
use Rattle.model.specs.Module.{Module, Special}
use Rattle.model.specs.Table.{NAME, name_row}
use Rattle.model.specs.Carry.{Lays, Each, each_none, each_next, WellFormed, WellFunction, WellEntry}
use Rattle.model.specs.Initial.{Mem}
use Rattle.theory_image.specs.Members.{no_mem}
use Rattle.model.specs.Numbers.{numbered, within, every, outside, inside, sound, sound_entry}
use Rattle.model.specs.Redirect.{nothing, function as function_at}
use Rattle.model.specs.Tables.{Tab, names, types, constants, overrides, globals, exprs, is_t, code_t, at, six, Tables, tables, rec_at, count}
use Rattle.model.specs.References.{table, ref_of, refs}
use Rattle.model.specs.Imports.{Derived, import_t, rename, renamed, unmapped, emptied, fresh}
use Rattle.model.specs.Special.{force, with_special, put_ray, put_pair, sourced}
use Rattle.model.specs.Bodies.{append, follow, enter_all, entries_made}
use Rattle.model.specs.Finish.{names_in}
use Rattle.theory_records.specs.TableLaws.{Tab_dec, at_same, at_other, at-six, apart}
use Rattle.theory_finish.specs.Classes.{Not}
use Rattle.theory_finish.specs.Numbering.{Cellwise}
use Rattle.theory_finish.specs.Finished.{no_names, Low, low_names, numbered_low, names_nameless}
use Rattle.theory_finish.specs.Known.{Copied, name_copied}
use Rattle.theory_finish.specs.Borne.{behind-cell, cell-cases, Allowed, a_record}
use Rattle.theory_finish.specs.Sessions.{Setting, function_in_lem, specials_in, sourced-kept}
use Rattle.theory_finish.specs.Shown.{in_table, in_function_lem, Where, appears, waits, held, Shown, held-map, import_shown}
use Rattle.theory_finish.specs.ShownSteps.{Nameless, row_any, well_nameless, follow-shown, function-shown, FitEntries, no_more, one_more, entries_shown}

abbrev pub None : ℕ → Type 0
None n = ⊥

-- no source
unfoldable pub nowhere : Tables
nowhere = six (λ t. [])

-- ---- names refer to nothing
copied_refs : {r : Cells} → Copied r → refs r ≡ []
unfolding refs ref_of
copied_refs each_none = refl
copied_refs (each_next {a = c} h hs) = rw h (copied_refs hs)

-- ---- another source, or none
module _ {J : ℕ → Type 0} {s : Derived} where
  still : {j : ℕ} (x : Derived) → x.recs ≡ s.recs → x.functions ≡ s.functions → Where None J s j → Where None J x j
  still x e f (appears (in_table t q m)) = appears (in_table t q (rw e m))
  still x e f (appears (in_function_lem m)) = appears (in_function_lem (rw f m))
  still x e f (waits n l p) = absurd l
  still x e f (held h) = held h

  pub other-source : {T : Tables} (U : Tables) (x : Derived) → x.recs ≡ s.recs → x.functions ≡ s.functions → count U names ≤ length (at names x.maps) → Shown T None J s → Shown U None J x
  other-source {T} U x e f r v = record { room = r; range = λ n l. absurd l; all = λ j l. still x e f (v.all j (rw e at l)) }

-- ---- a source whose names refer to nothing, and whose records have names in range
pub record Sound (T : Tables) : Type 0 where
  pub plain : (k : ℕ) → refs (rec_at T names k) ≡ []
  pub low : (t : Tab) (n k : ℕ) → Mem k (names_in (rec_at T t n)) → k < count T names

a_type : (L : ℕ → Type 0) (n : ℕ) → Allowed L (table types) n
unfolding is_t code_t
a_type L n = a_record refl

-- ---- rename_type: the same source but for one name
module _ (T : Tables) (d : Sound T) (n name : ℕ) (h : name < count T names) where
  abbrev U : Tables
  U = renamed T n name

  others_same : (t : Tab) → (types ≡ t → ⊥) → at t U ≡ at t T
  unfolding renamed
  others_same t p = at_other types t (set (at types T) n (rename name (rec_at T types n))) T p

  same_count : count U names ≡ count T names
  unfolding count is_t code_t
  same_count = ap length (others_same names (apart types names refl))

  new_low : (r : Cells) → ((k : ℕ) → Mem k (names_in r) → k < count T names) → (k : ℕ) → Mem k (names_in (rename name r)) → k < count T names
  unfolding rename
  new_low [] f k m = f k m
  new_low ((s, w) ∷ cs) f k m = ⊎_elim (λ p. let z = p.1 in omega arith) (λ q. f k (behind-cell (s, w) cs q)) (cell-cases s (suc name) cs m)

  types_low : (j k : ℕ) → Mem k (names_in (rec_at U types j)) → k < count T names
  unfolding rec_at renamed
  types_low j k m = go (rw (at_same types (set (at types T) n (rename name (rec_at T types n))) T) at m)
    where
      go : Mem k (names_in (get_or (set (at types T) n (rename name (get_or (at types T) n []))) j [])) → k < count T names
      go m =
          elim (ℕ_discrete j n) [
            | yes q ↦ elim (dec_lt n (length (at types T))) [
              | yes l ↦ new_low (get_or (at types T) n []) (λ i b. d.low types n i (unfold rec_at in b)) k (rw (q, get_or-set_same (at types T) n (rename name (get_or (at types T) n [])) [] l) at m)
              | no l ↦ d.low types j k (unfold rec_at in rw (set_out (at types T) n (rename name (get_or (at types T) n [])) (omega arith)) at m)
            ]
            | no q ↦ d.low types j k (unfold rec_at in rw (get_or-set_other (at types T) n j (rename name (get_or (at types T) n [])) [] q) at m)
          ]

  names_same : (k : ℕ) → rec_at U names k ≡ rec_at T names k
  unfolding rec_at is_t code_t
  names_same k = ap (λ (l : List Cells). get_or l k []) (others_same names (apart types names refl))

  others_low : (t : Tab) → (types ≡ t → ⊥) → (j k : ℕ) → Mem k (names_in (rec_at U t j)) → k < count T names
  others_low t p j k m = d.low t j k (unfold rec_at in rw (others_same t p) at m)

  renamed-sound : Sound U
  renamed-sound = record {
    plain = λ k. ap refs (names_same k) ∙ d.plain k;
    low = λ t j k m. rw same_count (elim (Tab_dec types t) [
      | yes p ↦ types_low j k (rw (← p) at m)
      | no p ↦ others_low t p j k m
    ]);
  }

  -- A TYPE RENAMED
  pub rename-shown : (o : ℕ) (L J : ℕ → Type 0) (s : Derived) → Shown T L J s → Shown T L J (import_t o (renamed T n name) types n s)
  rename-shown o L J s v =
      let w : Shown U L J s = record { room = rw same_count v.room; range = λ k l. rw same_count (v.range k l); all = v.all } in
      let x = import_shown o U renamed-sound.plain renamed-sound.low L J types n s (a_type L n) w in
      record { room = rw same_count at x.room; range = v.range; all = x.all }

-- ---- a module that passed layout and test 3
module _ (m : Module) (well : WellFormed m) (three : numbered m ≡ true) where
  abbrev T : Tables
  T = tables m

  cells_low : {rs : List Cells} → Each (Each (Low (length m.names))) rs → (n k : ℕ) → Mem k (names_in (get_or rs n [])) → k < length m.names
  cells_low a n k h = low_names (row_any {P = λ r. Each (Low (length m.names)) r} each_none a n) k h

  pub source_sound : Sound T
  unfolding rec_at count tables at
  source_sound = record {
    plain = λ k. row_any {P = λ r. refs r ≡ []} (unfold refs in refl) (names_plain well.names_ok.each) k;
    low = low_all;
  }
    where
      names_plain : {rs : List Cells} → Each (Lays name_row) rs → Each (λ r. refs r ≡ []) rs
      names_plain each_none = each_none
      names_plain (each_next l ls) = each_next (copied_refs (name_copied l)) (names_plain ls)

      c : Cellwise (Low (length m.names)) m
      c = numbered_low m three

      low_all : (t : Tab) (n k : ℕ) → Mem k (names_in (rec_at T t n)) → k < count T names
      low_all names n k h = absurd (no_mem (rw (no_names (row_any {P = λ r. Each (Not NAME) r} each_none (names_nameless well.names_ok.each) n)) at h))
      low_all types n k h = cells_low c.in_types n k h
      low_all constants n k h = cells_low c.in_constants n k h
      low_all overrides n k h = cells_low c.in_overrides n k h
      low_all globals n k h = cells_low c.in_globals n k h
      low_all exprs n k h = cells_low c.in_exprs n k h

  module _ (o : ℕ) where
    -- AN IMPORT of a record that is no name
    pub record_shown : (J : ℕ → Type 0) (t : Tab) (n : ℕ) (s : Derived) → is_t t names ≡ false → Shown T None J s → Shown T None J (import_t o T t n s)
    record_shown J t n s q v = import_shown o T source_sound.plain source_sound.low None J t n s (a_record q) v

    -- ---- functions
    bare : (n : ℕ) → Nameless (function_at m n)
    unfolding function_at
    bare n = go well.functions_ok.each n
      where
        go : {fs : List Function} → Each WellFunction fs → (n : ℕ) → Nameless (get_or fs n nothing)
        go each_none n = unfold nothing names_in flat_b in record { rows = λ e. refl; body = refl }
        go (each_next w ws) zero = well_nameless w
        go (each_next w ws) (suc n) = go ws n

    -- A CALL FOLLOWED
    pub call-shown : (J : ℕ → Type 0) (n : ℕ) (s : Derived) → Shown T None J s → Shown T None J (follow o m n s)
    call-shown J n s v = follow-shown m o source_sound.plain source_sound.low (function_in_lem m three) bare None J n s v

    -- A FUNCTION IMPORTED
    pub import_function_shown : (J : ℕ → Type 0) (n : ℕ) (s : Derived) → Shown T None J s → Shown T None J (append o m (follow o m) n s)
    import_function_shown J n s v = function-shown m o source_sound.plain source_sound.low (function_in_lem m three) bare None J n s v

    -- ---- entry points
    entries_fit : {es : List Entry} → Each WellEntry es → every (sound_entry (outside m)) es ≡ true → FitEntries m o source_sound.plain source_sound.low (function_in_lem m three) bare es
    unfolding every sound flat_entry
    entries_fit each_none q = no_more
    entries_fit (each_next {a = e} {l = es} w ws) q =
        let a = and_split (sound_entry (outside m) e) (every (sound_entry (outside m)) es) q in
        one_more (and_split (within (inside (outside m) e.function) (e.head ++ flat e.function)) _ a.0).0 (well_nameless w.function-ok) (entries_fit ws a.1)

    -- THE END with entry points
    pub end-shown : (s : Derived) → Shown T None None s → Shown T None (λ j. Mem j (names_in (flat_all (map flat_entry (entries_made m.entries o m s))))) (enter_all m.entries o m s)
    end-shown s v =
        held-map (λ j. ⊎_elim (λ h. absurd h) (λ h. h)) (entries_shown m o source_sound.plain source_sound.low (function_in_lem m three) bare (entries_fit well.entries_ok.each (specials_in m three).2) None None s v)

    -- ---- setting the source
    special-shown : (J : ℕ → Type 0) (p : Special) (x : Derived) → Shown T None J x → Shown T None J (with_special p x)
    unfolding with_special
    special-shown J p x v = other-source T (with_special p x) refl refl v.room v

    force-shown : (J : ℕ → Type 0) (n k : ℕ) (x : Derived) → Shown T None J x → Shown T None J (force n k x)
    unfolding force is_t code_t
    force-shown J n k x v = other-source T (force n k x) refl refl (rw (at_other types names (set (at types x.maps) n k) x.maps (apart types names refl)) v.room) v

    setting_shown : (J : ℕ → Type 0) → Setting m o (Shown T None J)
    setting_shown J = record {
      ray-new = λ j n s l v. unfold put_ray in special-shown J _ _ (import_type_lem J n s v);
      ray_old = λ j n k s e v. force-shown J n (suc k) s v;
      pair-new = λ key n s l e v. unfold put_pair in special-shown J _ _ (import_type_lem J n s v);
      pair_old = λ key n k s e v. force-shown J n (suc k) s v;
    }
      where
        import_type_lem : (J : ℕ → Type 0) (n : ℕ) (s : Derived) → Shown T None J s → Shown T None J (import_t o T types n s)
        import_type_lem J n s v = import_shown o T source_sound.plain source_sound.low None J types n s (a_type None n) v

    -- A SOURCE SET, after whatever was before
    pub sourced-shown : (U : Tables) (J : ℕ → Type 0) (s : Derived) → Shown U None J s → Shown T None J (sourced o m s)
    unfolding emptied unmapped
    sourced-shown U J s v =
        sourced-kept m three (setting_shown J) well s
        (other-source T (emptied (unmapped T) s) refl refl (rw (at-six names (λ t. replicate {A = ℕ} (count T t) 0), length-replicate {A = ℕ} (count T names) 0) (omega arith)) v)

-- ---- at the start, and after clearing
pub fresh-shown : (J : ℕ → Type 0) → Shown nowhere None J fresh
unfolding nowhere fresh six count at
fresh-shown J = record { room = omega arith; range = λ n l. absurd l; all = λ j l. absurd (omega arith) }

pub cleared_shown : (U : Tables) (J : ℕ → Type 0) (s : Derived) → Shown U None J s → Shown nowhere None J (emptied (six (λ t. [])) s)
unfolding emptied nowhere six count at
cleared_shown U J s v = other-source nowhere (emptied (six (λ t. [])) s) refl refl (omega arith) v
