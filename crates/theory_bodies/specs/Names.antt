-- Names of what is derived: the named expressions that stay each have a name and none is named twice, as test 5 asks; a function's name is in range where
-- the function is; what test 5 says of the keys of special types; and the last function of a name. Assumes nothing.
use Rattle.std.specs.Prelude.{◌≡◌, Bool, true, false, ◌&&◌, List, [], ◌∷◌, ◌++◌, map, ℕ, zero, suc, ◌≤◌, eqb, get_or}
use Rattle.std.proofs.Math.Path.{refl}
use Rattle.std.proofs.Common.{ap, ◌∙◌, le_of_suc-le-suc, arith, eqb-true, ne_eqb}
use Rattle.std.proofs.Math.Bool.{not}
use Rattle.std.proofs.lemmas.Bool.{false≢true, not-true}
use Rattle.theory_lists.specs.Booleans.{and-true, and_split}
use Rattle.model.specs.Outcome.{Cells, word}
use Rattle.model.specs.Table.{KEY, NAME, SPAN, UPTO, NAMED-EXPR, function_head}
use Rattle.model.specs.Tree.{Function, flat}
use Rattle.model.specs.Module.{Module}
use Rattle.model.specs.Carry.{carry_function, Each, WellFunction}
use Rattle.model.specs.Numbers.{Bounds, within, inside, sound, sound_function}
use Rattle.model.specs.Names.{field, present, absent, distinct, differ, expressions_named, functions_named, entries_named, function_names, entry_names, named}
use Rattle.model.specs.Redirect.{name_word}
use Rattle.model.specs.Tables.{names}
use Rattle.model.specs.References.{Place, table, opt, target, targets, node, ref_of, refs, carry_w, through}
use Rattle.model.specs.Imports.{Derived}
use Rattle.model.specs.Bodies.{mapped_to, put_name, name_if, keep_names, name_cells, named_rows, kept_names, final, derived, last_of, localized}
use Rattle.model.specs.Scope.{seen}
use Rattle.theory_finish.specs.Kept.{exprs_same, initials-kept}
use Rattle.theory_finish.specs.Touching.{Only, same-b}
use Rattle.theory_walks.specs.Agreement.{Maps, Agrees}
use Rattle.theory_image.specs.Plain.{plain?}
use Rattle.theory_image.specs.Quiet.{Plainly, plainly}
use Rattle.theory_records.specs.RecordLaws.{All as AllN, Has as HasN}
use Rattle.theory_finish.specs.Cellwise.{each_first, function_cells}
use Rattle.theory_finish.specs.Finished.{Low, within_low}
use Rattle.theory_finish.specs.Output.{named_head}

plain_head : (f : Function) → WellFunction f → Plainly (NAME ∷ SPAN ∷ UPTO ∷ []) f.head
plain_head f w = unfold function_head plain? in plainly w.head_ok refl

-- the first word of a function's head is its name
pub head_field : (f : Function) → WellFunction f → field NAME f.head ≡ name_word f
head_field f w = go (named_head (plain_head f w))
  where
    go : (v : ℕ) × (r : Cells) × (f.head ≡ (NAME, v) ∷ r) → field NAME f.head ≡ name_word f
    go a = unfold field name_word in rw a.2 refl

-- it is in range where the function is
pub name_low : (b : Bounds) (f : Function) → WellFunction f → sound_function b f ≡ true → name_word f ≤ b.names
unfolding sound inside
name_low b f w h = go (named_head (plain_head f w))
  where
    cells : Each (Low b.names) f.head
    cells = (function_cells f (within_low (inside b f) (flat f) (and_split (within (inside b f) (flat f)) _ h).0)).in_head

    go : (v : ℕ) × (r : Cells) × (f.head ≡ (NAME, v) ∷ r) → name_word f ≤ b.names
    go a = let c : Each (Low b.names) ((NAME, a.0) ∷ a.1) = rw a.2 at cells in unfold name_word in rw a.2 (le_of_suc-le-suc (each_first c refl))

-- ---- the pairs that are kept: each has a name, and no expression is there twice
abbrev Keys : List (ℕ × ℕ) → List ℕ
Keys ps = map (λ p. p.0) ps

abbrev Words : List (ℕ × ℕ) → List ℕ
Words ps = map (λ p. p.1) ps

put-absent : (ps : List (ℕ × ℕ)) (k w x : ℕ) → absent (Keys ps) x ≡ true → eqb x k ≡ false → absent (Keys (put_name ps k w)) x ≡ true
unfolding put_name absent
put-absent [] k w x h n = and-true {a = not (eqb x k)} (rw n refl) refl
put-absent (p ∷ ps) k w x h n = go (eqb p.0 k) refl (put-absent ps k w x (and_split (not (eqb x p.0)) (absent (Keys ps) x) h).1 n)
  where
    go : (b : Bool) → eqb p.0 k ≡ b → absent (Keys (put_name ps k w)) x ≡ true → absent (Keys (elim b [ true ↦ (k, w) ∷ ps | false ↦ p ∷ put_name ps k w ])) x ≡ true
    go true e ih = and-true {a = not (eqb x k)} (rw n refl) (and_split (not (eqb x p.0)) (absent (Keys ps) x) h).1
    go false e ih = and-true (and_split (not (eqb x p.0)) (absent (Keys ps) x) h).0 ih

put-distinct : (ps : List (ℕ × ℕ)) (k w : ℕ) → distinct (Keys ps) ≡ true → distinct (Keys (put_name ps k w)) ≡ true
unfolding put_name distinct absent
put-distinct [] k w h = refl
put-distinct (p ∷ ps) k w h = go (eqb p.0 k) refl (put-distinct ps k w (and_split (absent (Keys ps) p.0) (distinct (Keys ps)) h).1) (put-absent ps k w p.0 (and_split (absent (Keys ps) p.0) (distinct (Keys ps)) h).0)
  where
    go : (b : Bool) → eqb p.0 k ≡ b → distinct (Keys (put_name ps k w)) ≡ true → (eqb p.0 k ≡ false → absent (Keys (put_name ps k w)) p.0 ≡ true) → distinct (Keys (elim b [ true ↦ (k, w) ∷ ps | false ↦ p ∷ put_name ps k w ])) ≡ true
    go true e ih f = let q = eqb-true p.0 k e in rw q at h
    go false e ih f = and-true (f e) ih

put-present : (ps : List (ℕ × ℕ)) (k w : ℕ) → present (Words ps) ≡ true → eqb w 0 ≡ false → present (Words (put_name ps k w)) ≡ true
unfolding put_name present
put-present [] k w h n = and-true {a = not (eqb w 0)} (rw n refl) refl
put-present (p ∷ ps) k w h n = let a = and_split (not (eqb p.1 0)) (present (Words ps)) h in go (eqb p.0 k) a (put-present ps k w a.1 n)
  where
    go : (b : Bool) → (not (eqb p.1 0) ≡ true) × (present (Words ps) ≡ true) → present (Words (put_name ps k w)) ≡ true → present (Words (elim b [ true ↦ (k, w) ∷ ps | false ↦ p ∷ put_name ps k w ])) ≡ true
    go true a ih = and-true {a = not (eqb w 0)} (rw n refl) a.1
    go false a ih = and-true a.0 ih

keep-fine : (rs : List Cells) (memo : List ℕ) (ps : List (ℕ × ℕ)) → present (map (field NAME) rs) ≡ true → (distinct (Keys ps) ≡ true) × (present (Words ps) ≡ true) → (distinct (Keys (keep_names rs memo ps)) ≡ true) × (present (Words (keep_names rs memo ps)) ≡ true)
unfolding keep_names present
keep-fine [] memo ps h k = k
keep-fine (r ∷ rs) memo ps h k = let a = and_split (not (eqb (field NAME r) 0)) (present (map (field NAME) rs)) h in keep-fine rs memo _ a.1 (one (get_or memo (field NAMED-EXPR r) 0) (not-true (eqb (field NAME r) 0) a.0))
  where
    one : (v : ℕ) → eqb (field NAME r) 0 ≡ false → (distinct (Keys (name_if v (field NAME r) ps)) ≡ true) × (present (Words (name_if v (field NAME r) ps)) ≡ true)
    one zero n = unfold name_if in k
    one (suc v) n = unfold name_if in (put-distinct ps v (field NAME r) k.0, put-present ps v (field NAME r) k.1 n)

rows_keys : (ps : List (ℕ × ℕ)) (f : ℕ → ℕ) → map (field NAMED-EXPR) (named_rows ps f) ≡ Keys ps
unfolding named_rows field
rows_keys [] f = refl
rows_keys (p ∷ ps) f = ap (p.0 ∷◌) (rows_keys ps f)

rows-present : (ps : List (ℕ × ℕ)) (W : Place → ℕ → ℕ) → present (Words ps) ≡ true → AllN (HasN W) (refs (name_cells ps)) → present (map (field NAME) (named_rows ps (through W NAME))) ≡ true
unfolding named_rows field present name_cells refs target targets through carry_w
rows-present [] W h a = refl
rows-present (p ∷ ps) W h a = let b = and_split (not (eqb p.1 0)) (present (Words ps)) h in go p.1 b.0 a (rows-present ps W b.1)
  where
    go : (w : ℕ) → not (eqb w 0) ≡ true → AllN (HasN W) (ref_of (opt (table names)) w (refs (name_cells ps))) → (AllN (HasN W) (refs (name_cells ps)) → present (map (field NAME) (named_rows ps (through W NAME))) ≡ true)
        → (not (eqb (carry_w W (opt (table names)) w) 0) && present (map (field NAME) (named_rows ps (through W NAME)))) ≡ true
    go zero n a ih = absurd (false≢true n)
    go (suc n) k a ih = unfold carry_w in (let r : AllN (HasN W) (node (table names) n ∷ refs (name_cells ps)) = (unfold ref_of in a) in and-true {a = not (eqb (W (table names) n) 0)} (ap not (ne_eqb (W (table names) n) 0 (λ q. (let y = r.0 in omega arith)))) (ih r.1))

pub derived-named : (o : ℕ) (m : Module) (fol : ℕ → Derived → Derived) (F : Function) (s : Derived) → expressions_named F ≡ true → AllN (HasN (mapped_to m (final o m fol F s))) (refs (name_cells (kept_names o m fol F (final o m fol F s)))) → expressions_named (localized o m fol F s) ≡ true
unfolding expressions_named localized derived kept_names
derived-named o m fol F s h a =
    let ps = keep_names F.named (final o m fol F s).memo [] in
    let k = keep-fine F.named (final o m fol F s).memo [] (and_split (present (map (field NAME) F.named)) _ h).0 (unfold distinct present in (refl, refl)) in
    and-true (rows-present ps (mapped_to m (final o m fol F s)) k.1 a) (rw (rows_keys ps (through (mapped_to m (final o m fol F s)) NAME)) k.0)

-- ---- what test 5 has shown
pub keys_distinct : (m : Module) → named m ≡ true → distinct (map (field KEY) m.special.pairs) ≡ true
unfolding named
keys_distinct m h =
    let h₁ = and_split (present (function_names m.functions)) _ h in
    let h₂ = and_split (present (entry_names m.entries)) _ h₁.1 in
    let h₃ = and_split (functions_named m.functions) _ h₂.1 in
    let h₄ = and_split (entries_named m.entries) _ h₃.1 in
    let h₅ = and_split (differ (map (map word) m.names)) _ h₄.1 in
    (and_split (distinct (function_names m.functions)) _ h₅.1).1

-- ---- the last function of a name: one of another name does not count
pub last_miss : (fs : List Function) (f : Function) (j v w : ℕ) → eqb (name_word f) w ≡ false → last_of (fs ++ (f ∷ [])) j v w ≡ last_of fs j v w
unfolding last_of
last_miss [] f j v w h = rw (last_of, h) refl
last_miss (g ∷ fs) f j v w h = go (eqb (name_word g) w) (last_miss fs f (suc j) (suc j) w h) (last_miss fs f (suc j) v w h)
  where
    go : (b : Bool) → last_of (fs ++ (f ∷ [])) (suc j) (suc j) w ≡ last_of fs (suc j) (suc j) w → last_of (fs ++ (f ∷ [])) (suc j) v w ≡ last_of fs (suc j) v w
        → ◌≡◌ {A = ℕ} (elim b [ true ↦ last_of (fs ++ (f ∷ [])) (suc j) (suc j) w | false ↦ last_of (fs ++ (f ∷ [])) (suc j) v w ]) (elim b [ true ↦ last_of fs (suc j) (suc j) w | false ↦ last_of fs (suc j) v w ])
    go true p q = p
    go false p q = q

-- ---- names are no matter of walks: a function whose names are numbered again agrees as it did
pub renamed_agrees : {ρ : ℕ → ℕ → ℕ} → Only ρ → (M M' : Module) (μ : Maps) (F F' : Function) (f : ℕ → ℕ) → WellFunction F' → Agrees M M' μ F F' f → Agrees M M' μ F (carry_function ρ F') f
renamed_agrees {ρ} o M M' μ F F' f w a = record { body = same_seen ∙ a.body; records = λ e m. rw same_rows (a.records e m); apart = a.apart }
  where
    same_seen : seen (carry_function ρ F') ≡ seen F'
    same_seen = unfold seen in (let i = initials-kept o w in let b = same-b o w.body_ok in unfold carry_function in rw (i, b) refl)

    same_rows : (carry_function ρ F').exprs ≡ F'.exprs
    same_rows = unfold carry_function in exprs_same o w
