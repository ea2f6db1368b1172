-- What passing a run of cells does, whatever follows them (`Passage`), and how runs follow one another. A run of fields becomes its cells carried by later maps, where each number is mapped at its turn to what it is mapped to later (`Steady`).
use Rattle.std.specs.Prelude.{◌≡◌, Bool, true, ◌&&◌, not, eqb, length}
use Rattle.std.proofs.Math.Path.{refl, ap, subst}
use Rattle.std.proofs.Common.{sym, ◌∙◌}
use Rattle.std.proofs.Math.Bool.{false}
use Rattle.std.proofs.lemmas.Bool.{false≢true, not-true}
use mathlib.Core.List.{List, [], ◌∷◌, ◌++◌, map, append_assoc, append-nil}
use Prim.Native.Nat.{ℕ, zero, suc}
use Rattle.theory_lists.specs.Booleans.{and_split}
use Rattle.model.specs.Outcome.{Cells, class, word}
use Rattle.model.specs.Table.{SPAN, UPTO, FROM, TO, STMT_KIND}
use Rattle.model.specs.Module.{Module}
use Rattle.model.specs.Carry.{carry_cell, carry_cells}
use Rattle.model.specs.References.{Place, Target, copied, start, upto, ref, opt, targets, target, Node, ref_of, refs, fold_refs, carry_w, through, undefined, span_by, first_word, undefined_at, moved, shift}
use Rattle.model.specs.Imports.{Derived}
use Rattle.model.specs.Bodies.{Builder, mapped_to, carried, step}
use Rattle.theory_passes.specs.Pass.{arrive, first, both, passed, word_of, after, written}

-- ---- classes
-- a class that is no part of a span, no part of an Emit's range, and no statement's kind
pub record Calm (s : ℕ) : Type 0 where
  pub no_from : eqb s FROM ≡ false
  pub no_to : eqb s TO ≡ false
  pub no_kind : eqb s STMT_KIND ≡ false
  pub flag : (w n : ℕ) (u : Bool) → undefined_at (target s) w n u ≡ u
  pub stays : (w o : ℕ) (u : Bool) → moved (target s) w o u ≡ w

unfoldable pub still? : Target → Bool
still? copied = true
still? start = false
still? upto = false
still? (ref s) = true
still? (opt s) = true

unfoldable pub calm? : ℕ → Bool
calm? s = not (eqb s FROM) && (not (eqb s TO) && (not (eqb s STMT_KIND) && still? (target s)))

still_flag : (t : Target) → still? t ≡ true → (w n : ℕ) (u : Bool) → undefined_at t w n u ≡ u
unfolding still? undefined_at
still_flag copied h w n u = refl
still_flag start h w n u = absurd (false≢true h)
still_flag upto h w n u = absurd (false≢true h)
still_flag (ref s) h w n u = refl
still_flag (opt s) h w n u = refl

still-stays : (t : Target) → still? t ≡ true → (w o : ℕ) (u : Bool) → moved t w o u ≡ w
unfolding still? moved
still-stays copied h w o u = refl
still-stays start h w o u = absurd (false≢true h)
still-stays upto h w o u = absurd (false≢true h)
still-stays (ref s) h w o u = refl
still-stays (opt s) h w o u = refl

pub calm_of : (s : ℕ) → calm? s ≡ true → Calm s
unfolding calm?
calm_of s h =
    let a = and_split (not (eqb s FROM)) _ h in
    let b = and_split (not (eqb s TO)) _ a.1 in
    let c = and_split (not (eqb s STMT_KIND)) _ b.1 in
    record { no_from = not-true (eqb s FROM) a.0; no_to = not-true (eqb s TO) b.0; no_kind = not-true (eqb s STMT_KIND) c.0; flag = still_flag (target s) c.1; stays = still-stays (target s) c.1 }

-- fields: a span is a start and, after it, an end
pub data Fields : Cells → Type 0 where
  f-none : Fields []
  f_span : {a b : ℕ} {cs : Cells} → Fields cs → Fields ((SPAN, a) ∷ (UPTO, b) ∷ cs)
  f-cell : {s w : ℕ} {cs : Cells} → Calm s → Fields cs → Fields ((s, w) ∷ cs)

pub fields-append : {a b : Cells} → Fields a → Fields b → Fields (a ++ b)
fields-append f-none g = g
fields-append (f_span f) g = f_span (fields-append f g)
fields-append (f-cell c f) g = f-cell c (fields-append f g)

module _ (o : ℕ) (M : Module) (follow : ℕ → Derived → Derived) (p q : ℕ → Builder → Builder) where
  abbrev step_p : Place → ℕ → Builder → Builder
  step_p = step o M follow p

  -- ---- what is written is as long as what is passed
  pub written-length : (cs : Cells) (u : Bool) (m : Builder) → length (written o M follow p q cs u m) ≡ length cs
  unfolding written
  written-length [] u m = refl
  written-length (c ∷ cs) u m = ap suc (written-length cs _ _)

  -- cell by cell of the same class
  pub written-classes : (cs : Cells) (u : Bool) (m : Builder) → map class (written o M follow p q cs u m) ≡ map class cs
  unfolding written
  written-classes [] u m = refl
  written-classes (c ∷ cs) u m = ap (class c ∷◌) (written-classes cs _ _)

  -- ---- ws, passed from st, leave st' and become out
  pub record Passage (ws : Cells) (st st' : Builder) (out : Cells) : Type 0 where
    pub run : (ts : Cells) → after o M follow p q (ws ++ ts) st ≡ after o M follow p q ts st'
    -- whether the span last met is undefined
    pub last : Bool → Bool
    pub new : (ts : Cells) (u : Bool) → written o M follow p q (ws ++ ts) u st ≡ out ++ written o M follow p q ts (last u) st'

  pub nothing : (st : Builder) → Passage [] st st []
  nothing st = record { run = λ ts. refl; last = λ u. u; new = λ ts u. refl }

  pub join : {a b x y : Cells} {r s t : Builder} → Passage a r s x → Passage b s t y → Passage (a ++ b) r t (x ++ y)
  join {a} {b} {x} {y} {r} {s} {t} f g = record {
    run = λ ts. rw (append_assoc a b ts) (f.run (b ++ ts) ∙ g.run ts);
    last = λ u. g.last (f.last u);
    new = λ ts u. rw (append_assoc a b ts, append_assoc x y (written o M follow p q ts (g.last (f.last u)) t)) (f.new (b ++ ts) u ∙ ap (x ++◌) (g.new ts (f.last u)));
  }

  -- alone
  pub alone-after : {ws out : Cells} {st st' : Builder} → Passage ws st st' out → after o M follow p q ws st ≡ st'
  unfolding after
  alone-after {ws} {st = st} f = ap (λ (l : Cells). after o M follow p q l st) (sym (append-nil ws)) ∙ f.run []

  pub alone-written : {ws out : Cells} {st st' : Builder} → Passage ws st st' out → (u : Bool) → written o M follow p q ws u st ≡ out
  unfolding written
  alone-written {ws} {out} {st} f u = ap (λ (l : Cells). written o M follow p q l u st) (sym (append-nil ws)) ∙ (f.new [] u ∙ append-nil out)

  pub passage_length : {ws out : Cells} {st st' : Builder} → Passage ws st st' out → length out ≡ length ws
  passage_length {ws} {st = st} f = ap length (sym (alone-written f false)) ∙ written-length ws false st

  -- ---- one cell
  pub calm-passed : {s : ℕ} (w : ℕ) (cs : Cells) (m : Builder) → Calm s → passed o M follow p q (s, w) cs m ≡ arrive o M follow p q (target s) w m
  unfolding passed
  calm-passed w cs m c = rw (c.no_from, c.no_kind, passed)

  pub calm-word : {s : ℕ} (w : ℕ) (cs : Cells) (u : Bool) (m : Builder) → Calm s → word_of o M follow p q (s, w) cs u m ≡ through (mapped_to M (arrive o M follow p q (target s) w m)) s w
  unfolding word_of
  calm-word {s} w cs u m c = rw (c.no_from, c.no_to, word_of, calm-passed w cs m c) (c.stays (through (mapped_to M (arrive o M follow p q (target s) w m)) s w) o u)

  pub cell : (s w : ℕ) (st : Builder) → Calm s → Passage ((s, w) ∷ []) st (arrive o M follow p q (target s) w st) ((s, through (mapped_to M (arrive o M follow p q (target s) w st)) s w) ∷ [])
  unfolding after written
  cell s w st c = record {
    run = λ ts. ap (after o M follow p q ts) (calm-passed w ts st c);
    last = λ u. u;
    new = λ ts u. rw (c.flag w (first_word ts) u, calm-word w ts u st c, calm-passed w ts st c);
  }

  pub span : (a b : ℕ) (st : Builder) → Passage ((SPAN, a) ∷ (UPTO, b) ∷ []) st st ((SPAN, (span_by o (a, b)).0) ∷ (UPTO, (span_by o (a, b)).1) ∷ [])
  unfolding after written passed word_of target targets arrive undefined_at first_word moved through carry_w span_by
  span a b st = record { run = λ ts. refl; last = λ u. undefined a b; new = λ ts u. refl }

  pub range : (a b : ℕ) (st : Builder)
      → Passage ((FROM, a) ∷ (TO, b) ∷ []) st (both o M follow p q a b st) ((FROM, length (first o M follow p q a b st).made) ∷ (TO, length (both o M follow p q a b st).made) ∷ [])
  unfolding after written passed word_of target targets arrive undefined_at first_word
  range a b st = record { run = λ ts. refl; last = λ u. u; new = λ ts u. refl }

  -- ---- fields
  -- each word through the maps of its turn
  unfoldable pub carry_on : Cells → Builder → Cells
  carry_on [] st = []
  carry_on (c ∷ cs) st = let s = arrive o M follow p q (target (class c)) (word c) st in (class c, through (mapped_to M s) (class c) (word c)) ∷ carry_on cs s

  pub arrive_each : (t : Target) (w : ℕ) (js : List Node) (st : Builder) → fold_refs (ref_of t w js) step_p st ≡ fold_refs js step_p (arrive o M follow p q t w st)
  unfolding ref_of fold_refs arrive
  arrive_each copied w js st = refl
  arrive_each start w js st = refl
  arrive_each upto w js st = refl
  arrive_each (ref s) w js st = refl
  arrive_each (opt s) zero js st = refl
  arrive_each (opt s) (suc n) js st = refl

  shift-free : {cs : Cells} → Fields cs → (st : Builder) (u v : Bool) → shift (carry_on cs st) o u ≡ shift (carry_on cs st) o v
  unfolding carry_on shift target targets arrive undefined_at first_word moved through carry_w
  shift-free f-none st u v = refl
  shift-free (f_span f) st u v = refl
  shift-free (f-cell {s} {w} {cs} c f) st u v =
      let m = arrive o M follow p q (target s) w st in
      let x : ℕ = carry_w (mapped_to M m) (target s) w in
      rw (c.flag x (first_word (carry_on cs m)) u, c.flag x (first_word (carry_on cs m)) v, c.stays x o u, c.stays x o v, shift-free f m u v)

  fields_span : (a b : ℕ) {cs : Cells} → Fields cs → (st : Builder) → Passage cs st (fold_refs (refs cs) step_p st) (shift (carry_on cs st) o false)
      → Passage ((SPAN, a) ∷ (UPTO, b) ∷ cs) st (fold_refs (refs ((SPAN, a) ∷ (UPTO, b) ∷ cs)) step_p st) (shift (carry_on ((SPAN, a) ∷ (UPTO, b) ∷ cs) st) o false)
  unfolding refs ref_of carry_on shift target targets arrive undefined_at first_word moved through carry_w span_by
  fields_span a b {cs} f st h =
      subst (λ (l : Cells). Passage ((SPAN, a) ∷ (UPTO, b) ∷ cs) st (fold_refs (refs cs) step_p st) ((SPAN, (span_by o (a, b)).0) ∷ (UPTO, (span_by o (a, b)).1) ∷ l)) (shift-free f st false (undefined a b)) (join (span a b st) h)

  fields-cell : {s : ℕ} (w : ℕ) (cs : Cells) (st : Builder) → Calm s
      → Passage cs (arrive o M follow p q (target s) w st) (fold_refs (refs cs) step_p (arrive o M follow p q (target s) w st)) (shift (carry_on cs (arrive o M follow p q (target s) w st)) o false)
      → Passage ((s, w) ∷ cs) st (fold_refs (refs ((s, w) ∷ cs)) step_p st) (shift (carry_on ((s, w) ∷ cs) st) o false)
  unfolding refs carry_on shift
  fields-cell {s} w cs st c h =
      let m = arrive o M follow p q (target s) w st in
      let x : ℕ = through (mapped_to M m) s w in
      rw (arrive_each (target s) w (refs cs) st, c.flag x (first_word (carry_on cs m)) false, c.stays x o false) (join (cell s w st c) h)

  pub fields : {cs : Cells} → Fields cs → (st : Builder) → Passage cs st (fold_refs (refs cs) step_p st) (shift (carry_on cs st) o false)
  fields f-none st = unfold refs fold_refs carry_on shift in nothing st
  fields (f_span {a} {b} {cs} f) st = fields_span a b f st (fields f st)
  fields (f-cell {s} {w} {cs} c f) st = fields-cell w cs st c (fields f (arrive o M follow p q (target s) w st))

  -- each number is mapped at its turn to what it is mapped to in d
  unfoldable pub Steady : List Node → Builder → Builder → Type 0
  Steady [] d st = Unit {0}
  Steady (j ∷ js) d st = (mapped_to M (step_p j.place j.num st) j.place j.num ≡ mapped_to M d j.place j.num) × Steady js d (step_p j.place j.num st)

  pub steady_word : (t : Target) (w : ℕ) (js : List Node) (d st : Builder) → Steady (ref_of t w js) d st → (carry_w (mapped_to M (arrive o M follow p q t w st)) t w ≡ carry_w (mapped_to M d) t w) × Steady js d (arrive o M follow p q t w st)
  unfolding ref_of Steady arrive carry_w
  steady_word copied w js d st h = (refl, h)
  steady_word start w js d st h = (refl, h)
  steady_word upto w js d st h = (refl, h)
  steady_word (ref s) w js d st h = (rw h.0, h.1)
  steady_word (opt s) zero js d st h = (refl, h)
  steady_word (opt s) (suc n) js d st h = (h.0, h.1)

  carry_steady : (cs : Cells) (d st : Builder) → Steady (refs cs) d st → carry_on cs st ≡ carry_cells (through (mapped_to M d)) cs
  unfolding refs carry_on carry_cell through
  carry_steady [] d st h = refl
  carry_steady (c ∷ cs) d st h =
      let a = steady_word (target (class c)) (word c) (refs cs) d st h in
      rw (a.0, carry_steady cs d _ a.1)

  -- FIELDS become what they are carried by later maps
  pub fields-carried : {cs : Cells} → Fields cs → (d st : Builder) → Steady (refs cs) d st → Passage cs st (fold_refs (refs cs) step_p st) (carried o M d cs)
  unfolding carried
  fields-carried {cs} f d st h = rw (← carry_steady cs d st h) (fields f st)
