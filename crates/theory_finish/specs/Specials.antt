-- THE SPECIAL TYPES of a session are laid out by their rows, their numbers are in range, and those that one source adds are no more than the source's. Beside them: what imports keep of the tables (Kept), at every state.
use Rattle.std.specs.Prelude.{◌≡◌, true, false, not, List, [], ◌∷◌, ◌++◌, map, ℕ, zero, suc, ◌+◌, ◌<◌, ◌≤◌, pred, eqb, ltb, get_or, set}
use Rattle.std.proofs.Math.Path.{refl, ap}
use Rattle.std.proofs.Common.{◌∙◌, arith, length-append, lt-ltb}
use Rattle.std.proofs.Math.Nat.{le_trans}
use Rattle.std.proofs.Math.ListN.{length}
use Rattle.theory_lists.specs.Lists.{map-append}
use Rattle.theory_lists.specs.Booleans.{and-true, and_split}
use Rattle.model.specs.Outcome.{Cell, Cells, word}
use Rattle.model.specs.Table.{Row, OPT_TYPE, KEY, TYPE, PAD}
use Rattle.model.specs.Tree.{Function, flat_all}
use Rattle.model.specs.Module.{Special, Module, rays_row, pair_row}
use Rattle.model.specs.Carry.{Lays, lays_none, lays_next, Each, each_none, each_next, WellFormed}
use Rattle.model.specs.Names.{field, absent, distinct}
use Rattle.model.specs.Numbers.{Bounds, bound, caps, below as under, within, every, numbered}
use Rattle.model.specs.Lower.{lower}
use Rattle.model.specs.Tables.{Tab, types, Tables, tables, rec_at, count, map_at}
use Rattle.model.specs.References.{Place, table, own, function, Node, refs, fold_refs}
use Rattle.model.specs.Imports.{Derived, unless_mapped, intern, commit, step_t, import_f, import_t, unmapped, emptied, fresh}
use Rattle.model.specs.Special.{force, with_special, put_ray, ray_to, ray, rays, keyed, put_pair, pair_to, pairs, sourced}
use Rattle.model.specs.Bodies.{appended, enter_all}
use Rattle.model.specs.Link.{append_all}
use Rattle.theory_image.specs.Plain.{plain?, plain_more}
use Rattle.theory_image.specs.Quiet.{Plainly, plain-none, plain-next, plainly, each_append, each_map}
use Rattle.theory_records.specs.Trace.{Sized, import_trace}
use Rattle.theory_records.specs.Theorems.{Inside, Distinct, trace_grows}
use Rattle.theory_records.specs.Imported.{Kept, emptied-kept, fresh_kept, import_kept, force-kept}
use Rattle.theory_records.specs.Tested.{tested_wf}
use Rattle.theory_finish.specs.Firsts.{either}
use Rattle.theory_finish.specs.Size.{Smaller}
use Rattle.theory_finish.specs.Sessions.{Keeping, Setting, functions_kept, entries_kept, sourced-kept}

-- ---- imports leave the special types
each_special : (step : Place → ℕ → Derived → Derived) → ((p : Place) (n : ℕ) (s : Derived) → (step p n s).special ≡ s.special) → (js : List Node) (s : Derived) → (fold_refs js step s).special ≡ s.special
unfolding fold_refs
each_special step h [] s = refl
each_special step h (j ∷ js) s = each_special step h js (step j.place j.num s) ∙ h j.place j.num s

pub import_special : (f o : ℕ) (T : Tables) (t : Tab) (n : ℕ) (s : Derived) → (import_f f o T t n s).special ≡ s.special
unfolding import_f
import_special zero o T t n s = refl
import_special (suc f) o T t n s = go (map_at s.maps t n) (λ js s. each_special (step_t (import_f f o T)) (λ p n s. stepped p n s (import_special f o T)) js s)
  where
    stepped : (p : Place) (n : ℕ) (s : Derived) → ((t : Tab) (n : ℕ) (s : Derived) → (import_f f o T t n s).special ≡ s.special) → (step_t (import_f f o T) p n s).special ≡ s.special
    stepped (table t) n s h = unfold step_t in h t n s
    stepped own n s h = unfold step_t in h _ n s
    stepped function n s h = unfold step_t in refl

    go : (v : ℕ) → ((js : List Node) (s : Derived) → (fold_refs js (step_t (import_f f o T)) s).special ≡ s.special) → (unless_mapped v (λ z. commit o T t n (fold_refs (refs (rec_at T t n)) (step_t (import_f f o T)) s)) s).special ≡ s.special
    go zero h = unfold unless_mapped commit intern in h _ s
    go (suc v) h = unfold unless_mapped in refl

-- ---- what holds of the special types
pub record Pair (n : ℕ) (r : Cells) : Type 0 where
  pub shaped : Plainly (KEY ∷ TYPE ∷ []) r
  pub low : field TYPE r < n

pub record Typed (T : Tables) (s : Derived) : Type 0 where
  pub kept : Kept T s
  pub shaped : Plainly (OPT_TYPE ∷ OPT_TYPE ∷ OPT_TYPE ∷ []) s.special.rays
  pub low : Each (λ c. word c ≤ count s.recs types) s.special.rays
  pub paired : Each (Pair (count s.recs types)) s.special.pairs
  pub keys : distinct (map (field KEY) s.special.pairs) ≡ true

-- a key that has no type yet is a new one
absent_snoc : (ys : List ℕ) (x y : ℕ) → absent ys y ≡ true → eqb y x ≡ false → absent (ys ++ (x ∷ [])) y ≡ true
unfolding absent
absent_snoc [] x y h e = rw e
absent_snoc (z ∷ ys) x y h e = let p = and_split (not (eqb y z)) (absent ys y) h in and-true p.0 (absent_snoc ys x y p.1 e)

distinct_snoc : (ys : List ℕ) (x : ℕ) → Each (λ y. eqb y x ≡ false) ys → distinct ys ≡ true → distinct (ys ++ (x ∷ [])) ≡ true
unfolding distinct absent
distinct_snoc [] x e h = refl
distinct_snoc (y ∷ ys) x (each_next e es) h = let p = and_split (absent ys y) (distinct ys) h in and-true (absent_snoc ys x y p.0 e) (distinct_snoc ys x es p.1)

unkeyed : (rs : List Cells) (key : ℕ) → keyed rs key ≡ 0 → Each (λ y. eqb y key ≡ false) (map (field KEY) rs)
unfolding keyed
unkeyed [] key h = each_none
unkeyed (r ∷ rs) key h = let i = unkeyed rs key in either (eqb (field KEY r) key) (λ e. absurd (never (rw (keyed, e) at h))) λ e. each_next e (i (rw (keyed, e) at h))
  where
    never : suc (field TYPE r) ≡ 0 → ⊥
    never e = omega arith

keys_new : (rs : List Cells) (key t : ℕ) → keyed rs key ≡ 0 → distinct (map (field KEY) rs) ≡ true → distinct (map (field KEY) (rs ++ (((KEY, key) ∷ (TYPE, t) ∷ []) ∷ []))) ≡ true
unfolding field
keys_new rs key t h d = ap distinct (map-append (field KEY) rs (((KEY, key) ∷ (TYPE, t) ∷ []) ∷ [])) ∙ distinct_snoc (map (field KEY) rs) key (unkeyed rs key h) d

plain-set : {ss : Row} {cs : Cells} (j s v : ℕ) → Each (λ x. x ≡ s) ss → Plainly ss cs → Plainly ss (set cs j (s, v))
plain-set j s v e plain-none = plain-none
plain-set zero s v (each_next q qs) (plain-next p) = rw (← q) (plain-next p)
plain-set (suc j) s v (each_next q qs) (plain-next p) = plain-next (plain-set j s v qs p)

each_set : {P : Cell → Type 0} {cs : Cells} (j : ℕ) (c : Cell) → P c → Each P cs → Each P (set cs j c)
each_set j c p each_none = each_none
each_set zero c p (each_next q qs) = each_next p qs
each_set (suc j) c p (each_next q qs) = each_next q (each_set j c p qs)

each_get_d : {n : ℕ} {cs : Cells} → Each (λ c. word c ≤ n) cs → (j : ℕ) → word (get_or cs j (0, 0)) ≤ n
each_get_d each_none j = omega arith
each_get_d (each_next p ps) zero = p
each_get_d (each_next p ps) (suc j) = each_get_d ps j

keyed_low : {n : ℕ} {rs : List Cells} → Each (Pair n) rs → (key : ℕ) → keyed rs key ≤ n
unfolding keyed
keyed_low each_none key = omega arith
keyed_low (each_next {a = r} p ps) key = let i = keyed_low ps key in either (eqb (field KEY r) key) (λ e. rw (keyed, e) p.low) λ e. rw (keyed, e) i

new-pair : (key t n : ℕ) → t < n → Pair n ((KEY, key) ∷ (TYPE, t) ∷ [])
unfolding field
new-pair key t n h = record { shaped = plain-next (plain-next plain-none); low = h }

pub no_rays : (n : ℕ) → Each (λ c. word c ≤ n) ((OPT_TYPE, 0) ∷ (OPT_TYPE, 0) ∷ (OPT_TYPE, 0) ∷ [])
no_rays n = each_next zero_low (each_next zero_low (each_next zero_low each_none))
  where
    zero_low : 0 ≤ n
    zero_low = omega arith

-- ---- a session keeps it
module _ (m : Module) (well : WellFormed m) (three : numbered m ≡ true) (four : lower m ≡ true) (o : ℕ) where
  abbrev T : Tables
  T = tables m

  import_typed : (t : Tab) (n : ℕ) (s : Derived) → n < count T t → Typed T s → Typed T (import_t o T t n s)
  import_typed t n s h k =
      let e : (import_t o T t n s).special ≡ s.special = (unfold import_t in import_special _ o T t n s) in
      let g : count s.recs types ≤ count (import_t o T t n s).recs types = (trace_grows o T (tested_wf m well three four) (import_trace o T (tested_wf m well three four) t n s h k.kept.base.sized).0).longer types in
      record {
        kept = (import_kept m well three four o t n s h k.kept).0;
        shaped = rw e k.shaped;
        low = rw e (each_map (λ c l. le_trans l g) k.low);
        paired = rw e (each_map (λ r p. record { shaped = p.shaped; low = le_trans p.low g }) k.paired);
        keys = rw e k.keys;
      }

  kept-special : (p : Special) (s : Derived) → Kept T s → Kept T (with_special p s)
  unfolding with_special Sized Inside Distinct
  kept-special p s k = record { base = record { sized = k.base.sized; inside = k.base.inside; wf = k.base.wf; distinct = k.base.distinct }; fit = k.fit }

  pub kept-appended : (f : Function) (s : Derived) → Kept T s → Kept T (appended f s)
  unfolding appended Sized Inside Distinct
  kept-appended f s k = record { base = record { sized = k.base.sized; inside = k.base.inside; wf = k.base.wf; distinct = k.base.distinct }; fit = k.fit }

  mapped_low : (n : ℕ) (s : Derived) → Kept T s → map_at s.maps types n ≤ count s.recs types
  mapped_low n s k = unfold Inside in k.base.inside types n

  put-ray : (j n : ℕ) (s : Derived) → Typed T s → Typed T (put_ray j n s)
  unfolding put_ray with_special
  put-ray j n s k = record {
    kept = (unfold with_special in kept-special _ s k.kept);
    shaped = plain-set j OPT_TYPE (map_at s.maps types n) (each_next refl (each_next refl (each_next refl each_none))) k.shaped;
    low = each_set j (OPT_TYPE, map_at s.maps types n) (mapped_low n s k.kept) k.low;
    paired = k.paired;
    keys = k.keys;
  }

  put-pair : (key n : ℕ) (s : Derived) → 0 < map_at s.maps types n → keyed s.special.pairs key ≡ 0 → Typed T s → Typed T (put_pair key n s)
  unfolding put_pair with_special
  put-pair key n s h z k = record {
    kept = (unfold with_special in kept-special _ s k.kept);
    shaped = k.shaped;
    low = k.low;
    paired = each_append k.paired (each_next (new-pair key (pred (map_at s.maps types n)) (count s.recs types) (omega (arith, mapped_low n s k.kept))) each_none);
    keys = keys_new s.special.pairs key (pred (map_at s.maps types n)) z k.keys;
  }

  force-typed : (n v : ℕ) (s : Derived) → v ≤ count s.recs types → Typed T s → Typed T (force n v s)
  unfolding force
  force-typed n v s l k = record { kept = (unfold force in force-kept T n v s l k.kept); shaped = k.shaped; low = k.low; paired = k.paired; keys = k.keys }

  pub typed_keeping : Keeping m o (Typed T)
  typed_keeping = record { imports = import_typed; appends = λ f s k. unfold appended in record { kept = (unfold appended in kept-appended f s k.kept); shaped = k.shaped; low = k.low; paired = k.paired; keys = k.keys } }

  same-keyed : (key n : ℕ) (s : Derived) → keyed s.special.pairs key ≡ 0 → keyed (import_t o T types n s).special.pairs key ≡ 0
  same-keyed key n s h = let e : (import_t o T types n s).special ≡ s.special = (unfold import_t in import_special _ o T types n s) in rw e h

  pub typed_setting : Setting m o (Typed T)
  typed_setting = record {
    ray-new = λ j n s l k. put-ray j n _ (import_typed types n s l k);
    ray_old = λ j n v s e k. force-typed n (suc v) s (rw e at (each_get_d k.low j)) k;
    pair-new = λ key n s l e k. put-pair key n _ (import_kept m well three four o types n s l k.kept).1 (same-keyed key n s e) (import_typed types n s l k);
    pair_old = λ key n v s e k. force-typed n (suc v) s (rw e at (keyed_low k.paired key)) k;
  }

  fresh-typed : Typed T (emptied (unmapped T) fresh)
  unfolding emptied fresh
  fresh-typed = record {
    kept = (unfold emptied fresh in emptied-kept fresh.recs T _ fresh_kept);
    shaped = plain-next (plain-next (plain-next plain-none));
    low = no_rays _;
    paired = each_none;
    keys = (unfold distinct in refl);
  }

  pub state-typed : (is : List ℕ) → Typed T (append_all is o m (sourced o m fresh))
  state-typed is = functions_kept m three typed_keeping is _ (sourced-kept m three typed_setting well fresh fresh-typed)

  pub end-typed : (is : List ℕ) → Typed T (enter_all m.entries o m (append_all is o m (sourced o m fresh)))
  end-typed is = entries_kept m three typed_keeping _ (state-typed is)

-- ---- in the words of layout and test 3
plain_lays : {ss : Row} {cs : Cells} → Each (λ s. ltb s PAD ≡ true) ss → Plainly ss cs → Lays ss cs
plain_lays each_none plain-none = lays_none
plain_lays (each_next e es) (plain-next {s} {w} p) = lays_next (plain_more s w e) (plain_lays es p)

pub typed-rays : {T : Tables} {s : Derived} → Typed T s → Lays rays_row s.special.rays
typed-rays k = plain_lays (each_next refl (each_next refl (each_next refl each_none))) k.shaped

pub typed-pairs : {T : Tables} {s : Derived} → Typed T s → Each (Lays pair_row) s.special.pairs
typed-pairs k = each_map (λ r p. plain_lays (each_next refl (each_next refl each_none)) p.shaped) k.paired

within-rays : (b : Bounds) {cs : Cells} → Plainly (OPT_TYPE ∷ OPT_TYPE ∷ OPT_TYPE ∷ []) cs → Each (λ c. word c ≤ b.types) cs → within b cs ≡ true
unfolding within bound caps under
within-rays b (plain-next {w = x} (plain-next {w = y} (plain-next {w = z} plain-none))) (each_next p (each_next q (each_next r each_none))) =
    and-true (lt-ltb x (suc b.types) (omega arith)) (and-true (lt-ltb y (suc b.types) (omega arith)) (and-true (lt-ltb z (suc b.types) (omega arith)) refl))

within_pair : (b : Bounds) {r : Cells} → Plainly (KEY ∷ TYPE ∷ []) r → field TYPE r < b.types → within b r ≡ true
unfolding within bound caps under field
within_pair b (plain-next (plain-next {w = y} plain-none)) h = and-true refl (and-true (lt-ltb y b.types h) refl)

within-pairs : (b : Bounds) {rs : List Cells} → Each (Pair b.types) rs → every (within b) rs ≡ true
unfolding every
within-pairs b each_none = refl
within-pairs b (each_next p ps) = and-true (within_pair b p.shaped p.low) (within-pairs b ps)

pub typed-within : {T : Tables} {s : Derived} (b : Bounds) → count s.recs types ≡ b.types → Typed T s → (within b s.special.rays ≡ true) × (every (within b) s.special.pairs ≡ true)
typed-within b e k = (within-rays b k.shaped (rw e at k.low), within-pairs b (rw e at k.paired))

-- ---- how many pairs
rays-pairs : (cs : Cells) (k o : ℕ) (T : Tables) (s : Derived) → (rays cs k o T s).special.pairs ≡ s.special.pairs
unfolding rays
rays-pairs [] k o T s = refl
rays-pairs (c ∷ cs) k o T s = rays-pairs cs (suc k) o T (ray (word c) k o T s) ∙ one (word c)
  where
    put : (v n : ℕ) → (ray_to v k n o T s).special.pairs ≡ s.special.pairs
    put zero n = unfold ray_to put_ray with_special import_t in ap (λ (p : Special). p.pairs) (import_special _ o T types n s)
    put (suc v) n = unfold ray_to force in refl

    one : (w : ℕ) → (ray w k o T s).special.pairs ≡ s.special.pairs
    one zero = unfold ray in refl
    one (suc n) = unfold ray in put (word (get_or s.special.rays k (0, 0))) n

type_special : (o : ℕ) (T : Tables) (t : Tab) (n : ℕ) (s : Derived) → (import_t o T t n s).special ≡ s.special
unfolding import_t
type_special o T t n s = import_special _ o T t n s

pair_few : (v key n o : ℕ) (T : Tables) (s : Derived) → length (pair_to v key n o T s).special.pairs ≤ suc (length s.special.pairs)
unfolding pair_to put_pair with_special force
pair_few zero key n o T s = rw (type_special o T types n s, length-append s.special.pairs (((KEY, key) ∷ (TYPE, pred (map_at (import_t o T types n s).maps types n)) ∷ []) ∷ [])) (omega arith)
pair_few (suc v) key n o T s = omega arith

pairs_few : (rs : List Cells) (o : ℕ) (T : Tables) (s : Derived) → length (pairs rs o T s).special.pairs ≤ length s.special.pairs + length rs
unfolding pairs
pairs_few [] o T s = omega arith
pairs_few (r ∷ rs) o T s =
    let v = keyed s.special.pairs (field KEY r) in
    omega (arith, pairs_few rs o T (pair_to v (field KEY r) (field TYPE r) o T s), pair_few v (field KEY r) (field TYPE r) o T s)

sourced_few : (m : Module) (o : ℕ) → length (sourced o m fresh).special.pairs ≤ length m.special.pairs
unfolding sourced
sourced_few m o =
    let s = emptied (unmapped (tables m)) fresh in
    let e : (rays m.special.rays 0 o (tables m) s).special.pairs ≡ [] = rays-pairs m.special.rays 0 o (tables m) s ∙ (unfold emptied fresh in refl) in
    let l : length (rays m.special.rays 0 o (tables m) s).special.pairs ≡ 0 = ap length e in
    omega (arith, pairs_few m.special.pairs o (tables m) (rays m.special.rays 0 o (tables m) s))

-- functions and entry points leave the special types
same_keeping : (m : Module) (o : ℕ) (p : Special) → Keeping m o (λ s. s.special ≡ p)
same_keeping m o p = record { imports = λ t n s l e. type_special o (tables m) t n s ∙ e; appends = λ f s e. unfold appended in e }

pair_words_lem : {rs : List Cells} → Each (Plainly (KEY ∷ TYPE ∷ [])) rs → length (flat_all rs) ≡ length rs + length rs
unfolding flat_all
pair_words_lem each_none = refl
pair_words_lem (each_next {l = rs} p ps) = two p (pair_words_lem ps)
  where
    two : {r : Cells} → Plainly (KEY ∷ TYPE ∷ []) r → length (flat_all rs) ≡ length rs + length rs → length (r ++ flat_all rs) ≡ suc (length rs) + suc (length rs)
    two (plain-next (plain-next plain-none)) h = omega arith

pair-plain : {r : Cells} → Lays pair_row r → Plainly (KEY ∷ TYPE ∷ []) r
unfolding plain?
pair-plain l = plainly l refl

module _ (m : Module) (well : WellFormed m) (three : numbered m ≡ true) (o : ℕ) where
  fewer : (s : Derived) → s.special ≡ (sourced o m fresh).special → {T : Tables} → Typed T s → Smaller s.special.pairs m.special.pairs
  fewer s e k =
      let f : length s.special.pairs ≤ length m.special.pairs = rw e (sourced_few m o) in
      record { few = f; short = omega (arith, pair_words_lem (each_map (λ r p. p.shaped) k.paired), pair_words_lem source-pairs) }
    where
      source-pairs : Each (Plainly (KEY ∷ TYPE ∷ [])) m.special.pairs
      source-pairs = each_map (λ r l. pair-plain l) well.pairs-ok.each

  -- NO MORE PAIRS than the source has
  pub state-pairs : (is : List ℕ) {T : Tables} → Typed T (append_all is o m (sourced o m fresh)) → Smaller (append_all is o m (sourced o m fresh)).special.pairs m.special.pairs
  state-pairs is k = fewer _ (functions_kept m three (same_keeping m o _) is _ refl) k

  pub end-pairs : (is : List ℕ) {T : Tables} → Typed T (enter_all m.entries o m (append_all is o m (sourced o m fresh))) → Smaller (enter_all m.entries o m (append_all is o m (sourced o m fresh))).special.pairs m.special.pairs
  end-pairs is k = fewer _ (entries_kept m three (same_keeping m o _) _ (functions_kept m three (same_keeping m o _) is _ refl)) k
