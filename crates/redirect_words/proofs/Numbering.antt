-- Test 3: the replacement is a table function, so every number stays in range; and no Emit's start is directly followed by a Call's or a CallResult's function.
use mathlib.Core.Path.{◌≡◌, refl, sym, ap, ap₂, ◌∙◌}
use mathlib.Core.Bool.{Bool, true, false, ◌&&◌, ◌||◌, not}
use mathlib.Core.Option.{some}
use mathlib.Core.List.{List, [], ◌∷◌, ◌++◌, map}
use Prim.Native.Nat.{ℕ, zero, suc, ◌<◌}
use native.Mathlib.Omega.{arith}
use lib.Dec.{eqb, ltb, leb}
use lib.ListN.{length, get_elem?, length-map}
use borrow.Author.Tests.{eqb-true, lt-ltb}
use Rattle.theory_lists.specs.Booleans.{and-true, and_split}
use Rattle.model.specs.Outcome.{Cell, Cells, class}
use Rattle.model.specs.Table.{Row, EXPR, FROM, TO, PAD, VALUE, ATOMIC, RETURNS, Shape, s_emit, s_block, s_if, s_switch, s_loop, s_break, s_continue, s_return, s_kill, s_call, s_effect, values, atomics, results, statements, function_head, entry_head, counted, variants, brings, more}
use Rattle.model.specs.Tree.{Stmt, Form, Block, Cases, Case, Range, Function, Entry, flat_s, flat_f, flat_b, flat_k, flat_c, flat_x, flat_all, flat_list, flat_block, flat, flat_entry}
use Rattle.model.specs.Module.{Module}
use Rattle.model.specs.Carry.{carry_cell, carry_cells, carry_function, carry_entry, Lays, lays_none, lays_next, Each, each_none, each_next, OkS, OkF, OkB, OkBs, OkK, OkC, ok_stmt, ok_emit, ok_block, ok_branch, ok_switch, ok_loop, ok_break, ok_continue, ok_return, ok_kill, ok-call, ok_effect, ok_deeper, ok_end, ok_then, ok_case, ok_nomore, ok_also, WellFunction, WellEntry, WellFormed}
use Rattle.model.specs.Initial.{initialised}
use Rattle.model.specs.Numbers.{Bounds, bound, caps, below, within, rising, ordered, every, outside, inside, sound, sound_function, sound_entry, constant_only, numbered}
use Rattle.model.specs.Redirect.{name_word, redirecting, redirect_fn, redirect_entry, stays, redirect_fns, with_functions, with_entries, redirect}
use Rattle.theory_image.specs.Plain.{plain_more}
use Rattle.theory_image.specs.Carries.{flat_carry_function, flat_carry_entry}
use Rattle.theory_image.specs.FunctionViews.{Field, field_not, Expression, expression, each_expression, variant_brings}
use Rattle.redirect_calls.proofs.Turning.{redirecting_keeps}
use Rattle.redirect_words.proofs.Differing.{by-class, by_word, fns_long}
use Rattle.redirect_words.proofs.Kept.{turn, pick, initialised-kept}

-- ---- bounds
module _ (a b : ℕ) (n : Bounds) (low : b < n.functions) where
  word-within : (s w : ℕ) → below (bound n s) w ≡ true → below (bound n s) (turn a b s w) ≡ true
  unfolding bound below caps redirecting
  word-within s w h =
      by-class a b s w (λ e. ap (below (bound n s)) e ∙ h)
      (λ e. rw e (by_word a b w (λ p q. rw q (lt-ltb b n.functions low)) λ q. rw q (rw e at h)))
      (λ e. rw e (by_word a b w (λ p q. rw q (lt-ltb b n.functions low)) λ q. rw q (rw e at h)))

  pub within-kept : (cs : Cells) → within n cs ≡ true → within n (carry_cells (turn a b) cs) ≡ true
  unfolding within carry_cell
  within-kept [] h = refl
  within-kept ((s, w) ∷ cs) h = let p = and_split (below (bound n s) w) (within n cs) h in and-true (word-within s w p.0) (within-kept cs p.1)

-- ---- cells in which every Emit's start is directly followed by its end
data Tidy : Cells → Type 0 where
  tidy_none : Tidy []
  tidy_emit : {x y : ℕ} {cs : Cells} → Tidy cs → Tidy ((FROM, x) ∷ (TO, y) ∷ cs)
  tidy_cell : {c : Cell} {cs : Cells} → eqb (class c) FROM ≡ false → Tidy cs → Tidy (c ∷ cs)

tidy_append : {cs ds : Cells} → Tidy cs → Tidy ds → Tidy (cs ++ ds)
tidy_append tidy_none q = q
tidy_append (tidy_emit p) q = tidy_emit (tidy_append p q)
tidy_append (tidy_cell e p) q = tidy_cell e (tidy_append p q)

module _ (a b : ℕ) where
  rising-other : (c : Cell) (cs : Cells) → eqb (class c) FROM ≡ false → rising c cs ≡ true
  unfolding rising
  rising-other c [] e = refl
  rising-other c (d ∷ cs) e = rw (rising, e)

  ordered-kept : {cs : Cells} → Tidy cs → ordered (carry_cells (turn a b) cs) ≡ ordered cs
  unfolding ordered rising carry_cell redirecting
  ordered-kept tidy_none = refl
  ordered-kept (tidy_emit {x} {y} {cs} p) = emits x y cs (ordered-kept p)
    where
      emits : (x y : ℕ) (cs : Cells) → ordered (carry_cells (turn a b) cs) ≡ ordered cs → ordered (carry_cells (turn a b) ((FROM, x) ∷ (TO, y) ∷ cs)) ≡ ordered ((FROM, x) ∷ (TO, y) ∷ cs)
      emits x y cs i =
          ap₂ (λ u v. leb x y && (u && v)) (rising-other (TO, y) (carry_cells (turn a b) cs) refl ∙ sym (rising-other (TO, y) cs refl)) i
  ordered-kept (tidy_cell {c} {cs} e p) =
      ap₂ ◌&&◌ (rising-other (carry_cell (turn a b) c) (carry_cells (turn a b) cs) e ∙ sym (rising-other c cs e)) (ordered-kept p)

-- ---- rows without an Emit
-- the classes of effects, values, results, heads and lists
unfoldable calm? : ℕ → Bool
calm? s = (ltb s PAD && not (eqb s FROM)) || (eqb s ATOMIC || (eqb s VALUE || eqb s RETURNS))

unfoldable calms? : Row → Bool
calms? [] = true
calms? (s ∷ ss) = calm? s && calms? ss

rows? : List Row → Bool
rows? [] = true
rows? (r ∷ rs) = calms? r && rows? rs

either : {A : Type 0} (x y : Bool) → x || y ≡ true → (x ≡ true → A) → (y ≡ true → A) → A
either true y h f g = f refl
either false y h f g = g h

calm-class : (s : ℕ) → calm? s ≡ true → eqb s FROM ≡ false
unfolding calm?
calm-class s h =
    either (ltb s PAD && not (eqb s FROM)) (eqb s ATOMIC || (eqb s VALUE || eqb s RETURNS)) h (λ x. negated (eqb s FROM) (and_split (ltb s PAD) (not (eqb s FROM)) x).1) λ x.
    either (eqb s ATOMIC) (eqb s VALUE || eqb s RETURNS) x (λ e. ap (λ z. eqb z FROM) (eqb-true s ATOMIC e)) λ x.
    either (eqb s VALUE) (eqb s RETURNS) x (λ e. ap (λ z. eqb z FROM) (eqb-true s VALUE e)) λ e. ap (λ z. eqb z FROM) (eqb-true s RETURNS e)
  where
    negated : (x : Bool) → not x ≡ true → x ≡ false
    negated true e = sym e
    negated false e = refl

calms_append : (xs ss : Row) → calms? xs ≡ true → calms? ss ≡ true → calms? (xs ++ ss) ≡ true
unfolding calms?
calms_append [] ss h k = k
calms_append (x ∷ xs) ss h k = let p = and_split (calm? x) (calms? xs) h in and-true p.0 (calms_append xs ss p.1 k)

rows_at : (l : List Row) (k : ℕ) {r : Row} → rows? l ≡ true → get_elem? l k ≡ some r → calms? r ≡ true
unfolding rows?
rows_at [] k h e = let z : ◌≡◌ {A = ℕ} 0 1 = cc in absurd (omega arith)
rows_at (x ∷ l) zero {r} h e = let q : x ≡ r = cc in rw q at (and_split (calms? x) (rows? l) h).0
rows_at (x ∷ l) (suc k) h e = rows_at l k (and_split (calms? x) (rows? l) h).1 e

at-atomic : (w : ℕ) (xs : Row) → more ATOMIC w ≡ brings xs → calms? xs ≡ true
unfolding more variants rows? calms? calm? atomics
at-atomic w xs e = rows_at atomics w refl (variant_brings (get_elem? atomics w) e)

at_value : (w : ℕ) (xs : Row) → more VALUE w ≡ brings xs → calms? xs ≡ true
unfolding more variants rows? calms? calm? values
at_value w xs e = rows_at values w refl (variant_brings (get_elem? values w) e)

at-returns : (w : ℕ) (xs : Row) → more RETURNS w ≡ brings xs → calms? xs ≡ true
unfolding more variants rows? calms? calm? results
at-returns w xs e = rows_at results w refl (variant_brings (get_elem? results w) e)

calm_more : (s w : ℕ) (xs : Row) → calm? s ≡ true → more s w ≡ brings xs → calms? xs ≡ true
unfolding calm? calms?
calm_more s w xs h e =
    either (ltb s PAD && not (eqb s FROM)) (eqb s ATOMIC || (eqb s VALUE || eqb s RETURNS)) h (λ x. let n : xs ≡ [] = cc (plain_more s w (and_split (ltb s PAD) (not (eqb s FROM)) x).0) in rw n refl) λ x.
    either (eqb s ATOMIC) (eqb s VALUE || eqb s RETURNS) x (λ q. at-atomic w xs (rw (eqb-true s ATOMIC q) at e)) λ x.
    either (eqb s VALUE) (eqb s RETURNS) x (λ q. at_value w xs (rw (eqb-true s VALUE q) at e)) λ q. at-returns w xs (rw (eqb-true s RETURNS q) at e)

tidy_lays : {ss : Row} {cs : Cells} → Lays ss cs → calms? ss ≡ true → Tidy cs
unfolding calms?
tidy_lays lays_none h = tidy_none
tidy_lays (lays_next {s} {w} {xs} {ss} e l) h =
    let p = and_split (calm? s) (calms? ss) h in
    tidy_cell (calm-class s p.0) (tidy_lays l (calms_append xs ss (calm_more s w xs p.0 e) p.1))

-- ---- the cells of a function
tidy_all : {ss : Row} {rs : List Cells} → Each (Lays ss) rs → calms? ss ≡ true → Tidy (flat_all rs)
unfolding flat_all
tidy_all each_none h = tidy_none
tidy_all (each_next l ls) h = tidy_append (tidy_lays l h) (tidy_all ls h)

tidy_fields : {cs : Cells} → Each Field cs → Tidy cs
tidy_fields each_none = tidy_none
tidy_fields (each_next {a = c} h hs) = tidy_cell (field_not (class c) FROM h refl) (tidy_fields hs)

tidy_expression : {r : Cells} → Expression r → Tidy r
tidy_expression (expression h e l q) = tidy_cell refl (tidy_fields q)

tidy_expressions : {rs : List Cells} → Each Expression rs → Tidy (flat_all rs)
unfolding flat_all
tidy_expressions each_none = tidy_none
tidy_expressions (each_next x xs) = tidy_append (tidy_expression x) (tidy_expressions xs)

-- the rows of effects
calm_shape : Shape → Bool
calm_shape s_emit = true
calm_shape s_block = true
calm_shape s_if = true
calm_shape s_switch = true
calm_shape s_loop = true
calm_shape s_break = true
calm_shape s_continue = true
calm_shape s_return = true
calm_shape s_kill = true
calm_shape s_call = true
calm_shape (s_effect r) = calms? r

shapes? : List Shape → Bool
shapes? [] = true
shapes? (x ∷ xs) = calm_shape x && shapes? xs

shapes_at : (l : List Shape) (k : ℕ) {r : Row} → shapes? l ≡ true → get_elem? l k ≡ some (s_effect r) → calms? r ≡ true
unfolding shapes? calm_shape
shapes_at [] k h e = let z : ◌≡◌ {A = ℕ} 0 1 = cc in absurd (omega arith)
shapes_at (x ∷ l) zero {r} h e = let q : x ≡ s_effect r = cc in rw q at (and_split (calm_shape x) (shapes? l) h).0
shapes_at (x ∷ l) (suc k) h e = shapes_at l k (and_split (calm_shape x) (shapes? l) h).1 e

effect_calm : (k : ℕ) {r : Row} → get_elem? statements k ≡ some (s_effect r) → calms? r ≡ true
unfolding statements shapes? calm_shape calms? calm?
effect_calm k e = shapes_at statements k refl e

tidy_operands : (xs : List ℕ) → Tidy (map (λ x. (EXPR, x)) xs)
tidy_operands [] = tidy_none
tidy_operands (x ∷ xs) = tidy_cell refl (tidy_operands xs)

mutual
  unfolding flat_s flat_x calms? calm?

  tidy_s : {d : ℕ} {s : Stmt Range} → OkS d s → Tidy (flat_s s)
  tidy_s (ok_stmt x) = tidy_cell refl (tidy_cell refl (tidy_cell refl (tidy_cell refl (tidy_f x))))

  tidy_f : {d : ℕ} {x : Form Range} → OkF d x → Tidy (flat_f x)
  tidy_f ok_emit = tidy_emit tidy_none
  tidy_f (ok_block x) = tidy_cell refl (tidy_b x)
  tidy_f (ok_branch x y) = tidy_cell refl (tidy_append (tidy_cell refl (tidy_b x)) (tidy_cell refl (tidy_b y)))
  tidy_f (ok_switch ks) = tidy_cell refl (tidy_cell refl (tidy_c ks))
  tidy_f (ok_loop x y) = tidy_append (tidy_append (tidy_cell refl (tidy_b x)) (tidy_cell refl (tidy_b y))) (tidy_cell refl tidy_none)
  tidy_f ok_break = tidy_none
  tidy_f ok_continue = tidy_none
  tidy_f ok_return = tidy_cell refl tidy_none
  tidy_f ok_kill = tidy_none
  tidy_f (ok-call {xs}) = tidy_cell refl (tidy_append (tidy_cell refl (tidy_operands xs)) (tidy_cell refl tidy_none))
  tidy_f (ok_effect {k} e l) = tidy_lays l (effect_calm k e)

  tidy_b : {d : ℕ} {x : Block Range} → OkB d x → Tidy (flat_b x)
  tidy_b (ok_deeper x) = tidy_bs x

  tidy_bs : {d : ℕ} {x : Block Range} → OkBs d x → Tidy (flat_b x)
  tidy_bs ok_end = tidy_none
  tidy_bs (ok_then s x) = tidy_append (tidy_s s) (tidy_bs x)

  tidy_k : {d : ℕ} {k : Case Range} → OkK d k → Tidy (flat_k k)
  tidy_k (ok_case v x) = tidy_append (tidy_append (tidy_lays v refl) (tidy_cell refl (tidy_b x))) (tidy_cell refl tidy_none)

  tidy_c : {d : ℕ} {ks : Cases Range} → OkC d ks → Tidy (flat_c ks)
  tidy_c ok_nomore = tidy_none
  tidy_c (ok_also k ks) = tidy_append (tidy_k k) (tidy_c ks)

tidy_flat : {f : Function} → WellFunction f → Tidy (flat f)
unfolding flat flat_list flat_block function_head counted calms? calm?
tidy_flat {f} w =
    tidy_append
    (tidy_append
    (tidy_append
    (tidy_append
    (tidy_append
    (tidy_append (tidy_lays w.head_ok refl) (tidy_cell refl (tidy_all w.arguments_ok.each refl)))
    (tidy_lays w.result_ok_lem refl))
    (tidy_cell refl (tidy_all w.locals_ok.each refl)))
    (tidy_cell refl (tidy_expressions (each_expression w.exprs_ok.each))))
    (tidy_cell refl (tidy_all w.named_ok.each refl)))
    (tidy_cell refl (tidy_b w.body_ok))

tidy_entry : {e : Entry} → WellEntry e → Tidy (flat_entry e)
unfolding flat_entry entry_head calms? calm?
tidy_entry w = tidy_append (tidy_lays w.head_ok refl) (tidy_flat w.function-ok)

-- ---- functions and entry points
module _ (a b : ℕ) (n : Bounds) (low : b < n.functions) where
  inside-kept : (f : Function) → inside n (carry_function (turn a b) f) ≡ inside n f
  unfolding inside carry_function
  inside-kept f = rw (length-map f.exprs (carry_cells (turn a b)), length-map f.arguments (carry_cells (turn a b)), length-map f.locals (carry_cells (turn a b)))

  sound-kept : (f : Function) (cs : Cells) → Tidy cs → sound n f cs ≡ true → sound n (carry_function (turn a b) f) (carry_cells (turn a b) cs) ≡ true
  unfolding sound inside
  sound-kept f cs t h =
      let p = and_split (within (inside n f) cs) (ordered cs && initialised f) h in
      and-true (ap (λ m. within m (carry_cells (turn a b) cs)) (inside-kept f) ∙ within-kept a b (inside n f) low cs p.0) (ap₂ ◌&&◌ (ordered-kept a b t) (initialised-kept a b f) ∙ p.1)

  sound_fn : (x : Bool) (f : Function) → WellFunction f → sound_function n f ≡ true → sound_function n (pick a b x f) ≡ true
  unfolding redirect_fn
  sound_fn true f w h = h
  sound_fn false f w h = ap (sound n (carry_function (turn a b) f)) (flat_carry_function (turn a b) (redirecting_keeps a b) f) ∙ sound-kept f (flat f) (tidy_flat w) h

  sound-point : (e : Entry) → WellEntry e → sound_entry n e ≡ true → sound_entry n (redirect_entry a b e) ≡ true
  unfolding redirect_entry carry_entry
  sound-point e w h = ap (sound n (carry_function (turn a b) e.function)) (flat_carry_entry (turn a b) (redirecting_keeps a b) e) ∙ sound-kept e.function (flat_entry e) (tidy_entry w) h

  sound_fns : {fs : List Function} → Each WellFunction fs → (j : ℕ) (omit : List ℕ) → every (sound_function n) fs ≡ true → every (sound_function n) (redirect_fns fs j a b omit) ≡ true
  unfolding every redirect_fns
  sound_fns each_none j omit h = refl
  sound_fns (each_next {a = f} {l = fs} w ws) j omit h =
      let p = and_split (sound_function n f) (every (sound_function n) fs) h in
      and-true (sound_fn (stays b omit j (name_word f)) f w p.0) (sound_fns ws (suc j) omit p.1)

  sound_points : {es : List Entry} → Each WellEntry es → every (sound_entry n) es ≡ true → every (sound_entry n) (map (redirect_entry a b) es) ≡ true
  unfolding every
  sound_points each_none h = refl
  sound_points (each_next {a = e} {l = es} w ws) h =
      let p = and_split (sound_entry n e) (every (sound_entry n) es) h in
      and-true (sound-point e w p.0) (sound_points ws p.1)

-- ---- the module
both : (x x' y y' : Bool) → (x ≡ true → x' ≡ true) → (y ≡ true → y' ≡ true) → x && y ≡ true → x' && y' ≡ true
both x x' y y' f g h = let p = and_split x y h in and-true (f p.0) (g p.1)

kept : (x y y' : Bool) → (y ≡ true → y' ≡ true) → x && y ≡ true → x && y' ≡ true
kept x y y' g h = both x x y y' (λ e. e) g h

outside_kept : (m : Module) (a b : ℕ) (omit : List ℕ) → outside (redirect m a b omit) ≡ outside m
unfolding outside redirect with_functions with_entries
outside_kept m a b omit = rw (fns_long a b m.functions 0 omit)

below_all : (m : Module) {b : ℕ} → b < length m.functions → b < (outside m).functions
unfolding outside
below_all m h = h

-- LAW
pub redirect-numbered : (m : Module) (a b : ℕ) (omit : List ℕ) → WellFormed m → b < length m.functions → numbered m ≡ true → numbered (redirect m a b omit) ≡ true
unfolding numbered redirect with_functions with_entries
redirect-numbered m a b omit w low h =
    let n = outside m in
    let R = within n m.special.rays && every (within n) m.special.pairs in
    let P = every (sound_entry n) m.entries in
    let P' = every (sound_entry n) (map (redirect_entry a b) m.entries) in
    let F = every (sound_function n) m.functions in
    let F' = every (sound_function n) (redirect_fns m.functions 0 a b omit) in
    let K = every constant_only m.exprs in
    let E = every (within n) m.exprs in
    let G = every (within n) m.globals in
    let O = every (within n) m.overrides in
    let C = every (within n) m.constants in
    let T = every (within n) m.types in
    let l : b < n.functions = below_all m low in
    rw (outside_kept m a b omit)
    (kept T (C && (O && (G && (E && (K && (F && (P && R))))))) (C && (O && (G && (E && (K && (F' && (P' && R)))))))
    (kept C (O && (G && (E && (K && (F && (P && R)))))) (O && (G && (E && (K && (F' && (P' && R))))))
    (kept O (G && (E && (K && (F && (P && R))))) (G && (E && (K && (F' && (P' && R)))))
    (kept G (E && (K && (F && (P && R)))) (E && (K && (F' && (P' && R))))
    (kept E (K && (F && (P && R))) (K && (F' && (P' && R)))
    (kept K (F && (P && R)) (F' && (P' && R))
    (both F F' (P && R) (P' && R) (sound_fns a b n l w.functions_ok.each 0 omit) (both P P' R R (sound_points a b n l w.entries_ok.each) λ e. e)))))))
    h)
