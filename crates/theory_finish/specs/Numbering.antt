-- A module carried by a map that touches only NAME, and given other names, passes test 3 if it did: every name word goes below the count of the names that it is given.
use Rattle.std.specs.Prelude.{◌≡◌, Bool, true, false, ℕ, zero, suc, ◌-◌, ◌<◌, eqb, ltb, get_or}
use Rattle.std.proofs.Math.Path.{refl, sym, ap}
use Rattle.std.proofs.Common.{ap₂, ◌∙◌, arith}
use Rattle.std.proofs.Math.Bool.{◌&&◌}
use Rattle.std.proofs.Math.Option.{none}
use mathlib.Core.List.{List, [], ◌∷◌, ◌++◌, map, append_assoc}
use Rattle.std.proofs.Math.ListN.{length, length-map}
use borrow.Author.Tests.{eqb-true, eqb-false, lt-ltb, ltb-false}
use Rattle.theory_lists.specs.Booleans.{and-true, and_split}
use Rattle.model.specs.Outcome.{Cell, Cells, class, word}
use Rattle.model.specs.Table.{NAME, FROM, WORD, ARGUMENTS, LOCALS, EXPRESSIONS, NAMED, function_head, entry_head, counted}
use Rattle.model.specs.Tree.{Function, Entry, flat_list, flat_block, flat, flat_entry}
use Rattle.model.specs.Module.{Module}
use Rattle.model.specs.Carry.{carry_cell, carry_cells, carry_function, carry_entry, carry_special, carry, Each, each_none, each_next, WellFunction, WellEntry}
use Rattle.model.specs.Initial.{initialised}
use Rattle.model.specs.Numbers.{Bounds, caps, bound, below, within, rising, ordered, every, outside, inside, sound, sound_function, sound_entry, constant_only, numbered}
use Rattle.model.specs.Finish.{with_names}
use Rattle.theory_image.specs.Writing.{flat_right}
use Rattle.theory_image.specs.Quiet.{each_append}
use Rattle.theory_image.specs.Carries.{flat_carry_function, flat_carry_entry, carry_well_function, carry_well_entry}
use Rattle.theory_finish.specs.Firsts.{either}
use Rattle.theory_finish.specs.Classes.{Not, calm?, calms?, fromless, all_not, expression_not}
use Rattle.theory_finish.specs.Touching.{Only, only_keeps, same-b}
use Rattle.theory_finish.specs.Kept.{Parts, initialised-kept, table_same}

-- ---- an Emit's start is in the body, so only the body is looked at
ordered-behind : {cs : Cells} → Each (Not FROM) cs → (ds : Cells) → ordered (cs ++ ds) ≡ ordered ds
unfolding ordered
ordered-behind each_none ds = refl
ordered-behind (each_next {a = c} {l = cs} h hs) ds = ap₂ ◌&&◌ (flatly (cs ++ ds)) (ordered-behind hs ds)
  where
    flatly : (xs : Cells) → rising c xs ≡ true
    flatly [] = unfold rising in refl
    flatly (d ∷ xs) = unfold rising in rw (rising, h)

front : Function → Cells
front f = f.head ++ (flat_list ARGUMENTS f.arguments ++ (f.result ++ (flat_list LOCALS f.locals ++ (flat_list EXPRESSIONS f.exprs ++ flat_list NAMED f.named))))

front_fromless : {f : Function} → WellFunction f → Each (Not FROM) (front f)
unfolding front flat_list function_head counted calms? calm?
front_fromless w =
    each_append (fromless w.head_ok refl)
    (each_append (each_next refl (all_not FROM (λ cs l. fromless l refl) w.arguments_ok.each))
    (each_append (fromless w.result_ok_lem refl)
    (each_append (each_next refl (all_not FROM (λ cs l. fromless l refl) w.locals_ok.each))
    (each_append (each_next refl (all_not FROM (λ cs l. expression_not FROM refl refl l) w.exprs_ok.each))
    (each_next refl (all_not FROM (λ cs l. fromless l refl) w.named_ok.each))))))

flat-front : (f : Function) → flat f ≡ front f ++ flat_block f.body
unfolding front
flat-front f = flat_right f ∙ simp append_assoc

ordered-body : {f : Function} → WellFunction f → ordered (flat f) ≡ ordered (flat_block f.body)
ordered-body {f} w = ap ordered (flat-front f) ∙ ordered-behind (front_fromless w) (flat_block f.body)

ordered-entry : {e : Entry} → WellEntry e → ordered (flat_entry e) ≡ ordered (flat_block e.function.body)
unfolding flat_entry entry_head calms? calm?
ordered-entry {e} w = ordered-behind (fromless w.head_ok refl) (flat e.function) ∙ ordered-body w.function-ok

-- ---- bounds that differ in how many names there are
unfoldable named : Bounds → ℕ → Bounds
named b n = record { names = n; types = b.types; constants = b.constants; overrides = b.overrides; globals = b.globals; inits = b.inits; functions = b.functions; exprs = b.exprs; arguments = b.arguments; locals = b.locals }

caps-same : (b : Bounds) (n k : ℕ) → (k ≡ 3 → ⊥) → get_or (caps (named b n)) k none ≡ get_or (caps b) k none
unfolding caps named
caps-same b n zero h = refl
caps-same b n (suc zero) h = refl
caps-same b n (suc (suc zero)) h = refl
caps-same b n (suc (suc (suc zero))) h = absurd (h refl)
caps-same b n (suc (suc (suc (suc k)))) h = refl

bound-same : (b : Bounds) (n s : ℕ) → eqb s NAME ≡ false → bound (named b n) s ≡ bound b s
unfolding bound
bound-same b n s e =
    either (ltb s WORD) (λ l. rw (bound, l)) λ l. rw (bound, l) (caps-same b n (s - WORD) λ q. eqb-false s NAME e (omega (arith, ltb-false s WORD l)))

module _ {m : ℕ → ℕ → ℕ} (o : Only m) (n : ℕ) where
  -- a name word that goes below n, or to none
  abbrev pub Goes : Cell → Type 0
  Goes c = eqb (class c) NAME ≡ true → m NAME (word c) < suc n

  word_kept : (b : Bounds) (s w : ℕ) → Goes (s, w) → below (bound b s) w ≡ true → below (bound (named b n) s) (m s w) ≡ true
  word_kept b s w g h = either (eqb s NAME) (λ e. rw (eqb-true s NAME e) (unfold bound caps below named in lt-ltb (m NAME w) (suc n) (g e))) λ e. rw (o.only s w e, bound-same b n s e) h

  within-kept : (b : Bounds) (cs : Cells) → Each Goes cs → within b cs ≡ true → within (named b n) (carry_cells m cs) ≡ true
  unfolding within carry_cell
  within-kept b [] g h = refl
  within-kept b ((s, w) ∷ cs) (each_next g gs) h = let p = and_split (below (bound b s) w) (within b cs) h in and-true (word_kept b s w g p.0) (within-kept b cs gs p.1)

  every-kept : (b : Bounds) (rs : List Cells) → Each (Each Goes) rs → every (within b) rs ≡ true → every (within (named b n)) (map (carry_cells m) rs) ≡ true
  unfolding every
  every-kept b [] g h = refl
  every-kept b (r ∷ rs) (each_next g gs) h = let p = and_split (within b r) (every (within b) rs) h in and-true (within-kept b r g p.0) (every-kept b rs gs p.1)

  inside-kept : (b : Bounds) (f : Function) → inside (named b n) (carry_function m f) ≡ named (inside b f) n
  unfolding inside named carry_function
  inside-kept b f = rw (length-map f.exprs (carry_cells m), length-map f.arguments (carry_cells m), length-map f.locals (carry_cells m))

  sound-kept : (b : Bounds) (f : Function) (cs : Cells) → WellFunction f → Each Goes cs → ordered (carry_cells m cs) ≡ ordered cs → sound b f cs ≡ true → sound (named b n) (carry_function m f) (carry_cells m cs) ≡ true
  unfolding sound
  sound-kept b f cs w g q h =
      let p = and_split (within (inside b f) cs) (ordered cs && initialised f) h in
      and-true (ap (λ x. within x (carry_cells m cs)) (inside-kept b f) ∙ within-kept (inside b f) cs g p.0) (ap₂ ◌&&◌ q (initialised-kept o w) ∙ p.1)

  ordered-kept : {f : Function} → WellFunction f → ordered (carry_cells m (flat f)) ≡ ordered (flat f)
  unfolding carry_function
  ordered-kept {f} w =
      ap ordered (sym (flat_carry_function m (only_keeps o) f))
      ∙ ordered-body (carry_well_function m (only_keeps o) f w)
      ∙ ap (λ b. ordered (flat_block b)) (same-b o w.body_ok)
      ∙ sym (ordered-body w)

  ordered-point : {e : Entry} → WellEntry e → ordered (carry_cells m (flat_entry e)) ≡ ordered (flat_entry e)
  unfolding carry_entry carry_function
  ordered-point {e} w =
      ap ordered (sym (flat_carry_entry m (only_keeps o) e))
      ∙ ordered-entry (carry_well_entry m (only_keeps o) e w)
      ∙ ap (λ b. ordered (flat_block b)) (same-b o w.function-ok.body_ok)
      ∙ sym (ordered-entry w)

  functions_kept : (b : Bounds) {fs : List Function} → Each WellFunction fs → Each (λ f. Each Goes (flat f)) fs → every (sound_function b) fs ≡ true → every (sound_function (named b n)) (map (carry_function m) fs) ≡ true
  unfolding every
  functions_kept b each_none g h = refl
  functions_kept b (each_next {a = f} {l = fs} w ws) (each_next g gs) h =
      let p = and_split (sound_function b f) (every (sound_function b) fs) h in
      and-true (ap (sound (named b n) (carry_function m f)) (flat_carry_function m (only_keeps o) f) ∙ sound-kept b f (flat f) w g (ordered-kept w) p.0) (functions_kept b ws gs p.1)

  entries_kept : (b : Bounds) {es : List Entry} → Each WellEntry es → Each (λ e. Each Goes (flat_entry e)) es → every (sound_entry b) es ≡ true → every (sound_entry (named b n)) (map (carry_entry m) es) ≡ true
  unfolding every carry_entry
  entries_kept b each_none g h = refl
  entries_kept b (each_next {a = e} {l = es} w ws) (each_next g gs) h =
      let p = and_split (sound_entry b e) (every (sound_entry b) es) h in
      and-true (ap (sound (named b n) (carry_function m e.function)) (flat_carry_entry m (only_keeps o) e) ∙ sound-kept b e.function (flat_entry e) w.function-ok g (ordered-point w) p.0) (entries_kept b ws gs p.1)

-- ---- the module
-- every cell of every part, names apart
pub record Cellwise (P : Cell → Type 0) (t : Module) : Type 0 where
  pub in_types : Each (Each P) t.types
  pub in_constants : Each (Each P) t.constants
  pub in_overrides : Each (Each P) t.overrides
  pub in_globals : Each (Each P) t.globals
  pub in_exprs : Each (Each P) t.exprs
  pub in_functions_lem : Each (λ f. Each P (flat f)) t.functions
  pub in_entries_lem : Each (λ e. Each P (flat_entry e)) t.entries
  pub in_rays : Each P t.special.rays
  pub in_pairs : Each (Each P) t.special.pairs

both : (x x' y y' : Bool) → (x ≡ true → x' ≡ true) → (y ≡ true → y' ≡ true) → x && y ≡ true → x' && y' ≡ true
both x x' y y' f g h = let p = and_split x y h in and-true (f p.0) (g p.1)

module _ {m : ℕ → ℕ → ℕ} (o : Only m) (ns : List Cells) {t : Module} (p : Parts t) where
  outside_kept : outside (with_names ns (carry m t)) ≡ named (outside t) (length ns)
  unfolding outside with_names carry named
  outside_kept =
      rw (
        length-map t.types (carry_cells m),
        length-map t.constants (carry_cells m),
        length-map t.overrides (carry_cells m),
        length-map t.globals (carry_cells m),
        length-map t.exprs (carry_cells m),
        length-map t.functions (carry_function m),
      )

  -- LAW: test 3 is passed again
  pub carried-numbered : Cellwise (Goes o (length ns)) t → numbered t ≡ true → numbered (with_names ns (carry m t)) ≡ true
  unfolding numbered with_names carry carry_special
  carried-numbered g h =
      let n = length ns in
      let b = outside t in
      rw outside_kept
      (both _ _ _ _ (every-kept o n b t.types g.in_types)
      (both _ _ _ _ (every-kept o n b t.constants g.in_constants)
      (both _ _ _ _ (every-kept o n b t.overrides g.in_overrides)
      (both _ _ _ _ (every-kept o n b t.globals g.in_globals)
      (both _ _ _ _ (every-kept o n b t.exprs g.in_exprs)
      (both _ _ _ _ (λ e. ap (every constant_only) (table_same o ns p) ∙ e)
      (both _ _ _ _ (functions_kept o n b p.functions_each g.in_functions_lem)
      (both _ _ _ _ (entries_kept o n b p.entries_each g.in_entries_lem)
      (both _ _ _ _ (within-kept o n b t.special.rays g.in_rays) (every-kept o n b t.special.pairs g.in_pairs)))))))))
      h)
