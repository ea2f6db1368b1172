-- RENAMED TYPES: the source in which a type has another name is well formed as the source is, so an import from it keeps what an import keeps. Its counts and its names are the source's.
use Rattle.std.specs.Prelude.{◌≡◌, ◌⊎◌, ℕ, suc, ◌<◌, set}
use Rattle.std.proofs.Math.Path.{refl, sym, ap, subst}
use Rattle.std.proofs.Common.{◌∙◌, inl, inr, arith, length-set, get_or-set_same, get_or-set_other}
use Rattle.std.proofs.Math.Bool.{true}
use mathlib.Core.List.{List, [], ◌∷◌}
use Rattle.std.proofs.Math.Nat.{le_trans}
use Rattle.std.proofs.Math.Decide.{ℕ_discrete}
use Rattle.std.proofs.Math.ListN.{length, get_or}
use Rattle.model.specs.Outcome.{Cells}
use Rattle.model.specs.Table.{NAME, type_row}
use Rattle.model.specs.Module.{Module}
use Rattle.model.specs.Carry.{Lays, lays_next, WellFormed}
use Rattle.model.specs.Intake.{Passes}
use Rattle.model.specs.Tables.{Tab, names, types, exprs, code_t, is_t, at, Tables, tables, rec_at, count, map_at}
use Rattle.model.specs.References.{table, Node, node, ref_of, refs, target, targets, index_of}
use Rattle.model.specs.Imports.{Derived, import_t, rename, renamed}
use Rattle.theory_image.specs.Plain.{plain_more}
use Rattle.theory_image.specs.Quiet.{each_map}
use Rattle.theory_image.specs.Members.{each_at}
use Rattle.theory_records.specs.TableLaws.{Tab_dec, at_same, at_other, apart}
use Rattle.theory_records.specs.RecordLaws.{All, all_map, rest_of}
use Rattle.theory_records.specs.Well.{home, type_name, InitLow, Good, WF}
use Rattle.theory_records.specs.Trace.{Trace, Sized, trace_keeps, import_trace}
use Rattle.theory_records.specs.Theorems.{Grows, trace_base, trace_grows}
use Rattle.theory_records.specs.Kinds.{row_of}
use Rattle.theory_records.specs.Passing.{code_ok, codes, FitR, Fit, trace_fit, tested-fit}
use Rattle.theory_records.specs.Tested.{tested_wf}
use Rattle.theory_records.specs.Imported.{Kept}
use Rattle.theory_bodies.specs.Context.{Grown}
use Rattle.theory_bodies.specs.Lawful as Lawful
use Rattle.theory_finish.specs.Known as Known
use Rattle.theory_finish.specs.Known.{Copied, name_copied, name_table, import_follows}
use Rattle.theory_finish.specs.Counting.{type_functions}
use Rattle.theory_finish.specs.Specials.{Typed, import_special}
use Rattle.theory_sessions.specs.Following.{pieces_grown, older_same, each_same, From, from_good}

-- a type's record begins with its name
pub type_head : {r : Cells} → Lays type_row r → (v : ℕ) × (cs : Cells) × (r ≡ (NAME, v) ∷ cs) × ((w : ℕ) → Lays type_row ((NAME, w) ∷ cs))
unfolding type_row
type_head (lays_next {w} {cs} e l) = (w, cs, refl, λ v. lays_next (plain_more NAME v refl ∙ sym (plain_more NAME w refl) ∙ e) l)

module _ (T : Tables) (n name : ℕ) (in_types : n < count T types) (in_names : name < count T names) (fit : Fit T) where
  abbrev T' : Tables
  T' = renamed T n name

  fit_at : FitR types (rec_at T types n)
  unfolding Fit
  fit_at = fit types n in_types

  laid-at : Lays type_row (rec_at T types n)
  laid-at = unfold row_of in fit_at.laid

  -- ---- its records
  here : rec_at T' types n ≡ rename name (rec_at T types n)
  unfolding renamed rec_at
  here = rw (at_same types (set (at types T) n (rename name (rec_at T types n))) T) (get_or-set_same (at types T) n (rename name (rec_at T types n)) [] (unfold count in in_types))

  other_type : (k : ℕ) → (k ≡ n → ⊥) → rec_at T' types k ≡ rec_at T types k
  unfolding renamed rec_at
  other_type k h = rw (at_same types (set (at types T) n (rename name (rec_at T types n))) T) (get_or-set_other (at types T) n k (rename name (rec_at T types n)) [] h)

  other-table : (t : Tab) → (types ≡ t → ⊥) → at t T' ≡ at t T
  unfolding renamed
  other-table t h = at_other types t (set (at types T) n (rename name (rec_at T types n))) T h

  pub same_count : (t : Tab) → count T' t ≡ count T t
  unfolding count
  same_count t = elim (Tab_dec types t) [ yes p ↦ rw (← p) sized | no p ↦ ap length (other-table t p) ]
    where
      sized : length (at types T') ≡ length (at types T)
      sized = unfold renamed in rw (at_same types (set (at types T) n (rename name (rec_at T types n))) T) (length-set (at types T) n (rename name (rec_at T types n)))

  pub same_names : at names T' ≡ at names T
  same_names = other-table names (λ p. unfold is_t code_t in apart types names refl p)

  -- what holds of the source's records, and of that name's number, holds of it
  all_renamed_lem : (P : Cells → Type 0) → (P (rec_at T types n) → P (rename name (rec_at T types n))) → (t : Tab) (k : ℕ) → P (rec_at T t k) → P (rec_at T' t k)
  all_renamed_lem P f t k h =
      elim (Tab_dec types t) [
        | yes p ↦ elim (ℕ_discrete k n) [ yes q ↦ at_n t p q h | no q ↦ at_type t p q h ]
        | no p ↦ (let e : rec_at T' t k ≡ rec_at T t k = (unfold rec_at in ap (λ (l : List Cells). get_or l k []) (other-table t p)) in subst P (sym e) h)
      ]
    where
      at_n : (t : Tab) → types ≡ t → k ≡ n → P (rec_at T t k) → P (rec_at T' t k)
      at_n t p q h = rw (← p, q) (subst P (sym here) (f (rw (← p, q) at h)))

      at_type : (t : Tab) → types ≡ t → (k ≡ n → ⊥) → P (rec_at T t k) → P (rec_at T' t k)
      at_type t p q h = rw (← p) (subst P (sym (other_type k q)) (rw (← p) at h))

  named-refs : (Q : Node → Type 0) → Q (node (table names) name) → All Q (refs (rec_at T types n)) → All Q (refs (rename name (rec_at T types n)))
  named-refs Q q a = let h = type_head laid-at in go h.0 h.1 (rec_at T types n) h.2 a
    where
      go : (v : ℕ) (cs r : Cells) → r ≡ (NAME, v) ∷ cs → All Q (refs r) → All Q (refs (rename name r))
      go v cs r e a = rw e (front (rw e at a))
        where
          front : All Q (refs ((NAME, v) ∷ cs)) → All Q (refs (rename name ((NAME, v) ∷ cs)))
          front b = unfold rename refs ref_of target targets in (q, rest_of Q (target NAME) v (refs cs) (unfold refs in b))

  -- ---- well formed
  good_renamed : (t : Tab) (k : ℕ) (j : Node) → Good T t k j → Good T' t k j
  good_renamed t k j g = record {
    inside = rw (same_count (home j.place)) g.inside;
    may = g.may;
    lower = g.lower;
    init = λ e. unfold InitLow in all_renamed_lem (λ r. All (λ i. home i.place ≡ exprs → i.num < k) (refs r)) (named-refs (λ i. home i.place ≡ exprs → i.num < k) (λ p. absurd (unfold home is_t code_t in apart names exprs refl p))) (home j.place) j.num (unfold InitLow in g.init e);
  }

  name_good : Good T' types n (node (table names) name)
  unfolding home is_t code_t
  name_good = record {
    inside = rw (same_count names) in_names;
    may = type_name;
    lower = λ p. absurd (apart names types refl p);
    init = λ p. absurd (apart types exprs refl p);
  }

  -- one by one
  each_renamed : (P : Tab → ℕ → Cells → Type 0) → P types n (rename name (rec_at T types n)) → ((t : Tab) (k : ℕ) → P t k (rec_at T t k)) → (t : Tab) (k : ℕ) → P t k (rec_at T' t k)
  each_renamed P new old t k = elim (Tab_dec types t) [
    | yes p ↦ at-types t p
    | no p ↦ (let e : rec_at T' t k ≡ rec_at T t k = (unfold rec_at in ap (λ (l : List Cells). get_or l k []) (other-table t p)) in subst (P t k) (sym e) (old t k))
  ]
    where
      at-types : (t : Tab) → types ≡ t → P t k (rec_at T' t k)
      at-types t p = rw (← p) (elim (ℕ_discrete k n) [ yes q ↦ rw q (subst (P types n) (sym here) new) | no q ↦ subst (P types k) (sym (other_type k q)) (old types k) ])

  -- every other record is the source's
  pub renamed-elsewhere : (t : Tab) (k : ℕ) → ((types ≡ t) × (k ≡ n)) ⊎ (rec_at T' t k ≡ rec_at T t k)
  renamed-elsewhere t k = each_renamed (λ t k r. ((types ≡ t) × (k ≡ n)) ⊎ (r ≡ rec_at T t k)) (inl (refl, refl)) (λ t k. inr refl) t k

  pub renamed_wf : WF T → WF T'
  unfolding WF
  renamed_wf wf t k h =
      each_renamed (λ t k r. k < count T' t → All (Good T' t k) (refs r))
      (λ l. named-refs (Good T' types n) name_good (all_map (refs (rec_at T types n)) (good_renamed types n) (wf types n in_types)))
      (λ t k l. all_map (refs (rec_at T t k)) (good_renamed t k) (wf t k (rw (same_count t) at l))) t k h

  pub renamed-fit : Fit T'
  unfolding Fit
  renamed-fit t k h = each_renamed (λ t k r. k < count T' t → FitR t r) (λ l. again) (λ t k l. fit t k (rw (same_count t) at l)) t k h
    where
      again : FitR types (rename name (rec_at T types n))
      again = let h = type_head laid-at in go h.0 h.1 (rec_at T types n) h.2 h.3 fit_at
        where
          go : (v : ℕ) (cs r : Cells) → r ≡ (NAME, v) ∷ cs → ((w : ℕ) → Lays type_row ((NAME, w) ∷ cs)) → FitR types r → FitR types (rename name r)
          go v cs r e l f = rw e (record {
            laid = unfold rename row_of in l (suc name);
            coded = λ q. unfold rename codes code_ok target targets in (let c : codes ((NAME, v) ∷ cs) ≡ true = rw e at (f.coded q) in (unfold codes code_ok target targets in c));
            constant = λ p. absurd (unfold is_t code_t in apart types exprs refl p);
          })

-- ---- of a module that passed
module _ (m : Module) (well : WellFormed m) (ok : Passes m) (o n name : ℕ) (in_types : n < count (tables m) types) (in_names : name < count (tables m) names) where
  abbrev S : Tables
  S = tables m

  abbrev S' : Tables
  S' = renamed S n name

  pub source-fit : Fit S
  source-fit = tested-fit m well ok.numbers ok.lowers

  pub source_wf : WF S'
  source_wf = renamed_wf S n name in_types in_names source-fit (tested_wf m well ok.numbers ok.lowers)

  counts : (t : Tab) → count S' t ≡ count S t
  counts = same_count S n name in_types in_names source-fit

  plain : (k : ℕ) → k < count S' names → Copied (rec_at S' names k)
  unfolding rec_at count
  plain k h = rw (same_names S n name in_types in_names source-fit) (unfold tables at in name_copied (each_at well.names_ok.each k [] (unfold tables at in rw (same_names S n name in_types in_names source-fit) at h)))

  same_name : (k : ℕ) → rec_at S' names k ≡ rec_at S names k
  unfolding rec_at
  same_name k = ap (λ (l : List Cells). get_or l k []) (same_names S n name in_types in_names source-fit)

  -- name k is mapped to the place of these words
  abbrev Seated : Derived → ℕ → Cells → Type 0
  Seated s k w = (map_at s.maps names k ≡ suc (index_of (name_table s) w)) × (index_of (name_table s) w < length (name_table s))

  -- to the renamed source and back
  pub sized-to : (s : Derived) → Sized S s → Sized S' s
  unfolding Sized
  sized-to s z u = z u ∙ sym (counts u)

  sized_back : (s : Derived) → Sized S' s → Sized S s
  unfolding Sized
  sized_back s z u = z u ∙ counts u

  follows_to : {a s : Derived} → Known.Follows S a s → Known.Follows S' a s
  follows_to {a} {s} f = record { sized = sized-to s f.sized; seats = f.seats; mapped = f.mapped; sound = λ k h l. subst (Seated s k) (sym (same_name k)) (f.sound k h (rw (counts names) at l)); borne = f.borne }

  follows_back : {a s : Derived} → Known.Follows S' a s → Known.Follows S a s
  follows_back {a} {s} f = record { sized = sized_back s f.sized; seats = f.seats; mapped = f.mapped; sound = λ k h l. subst (Seated s k) (same_name k) (f.sound k h (rw (counts names) l)); borne = f.borne }

  module _ (s : Derived) (f : From m s s) where
    abbrev r : Derived
    r = import_t o S' types n s

    pub renamed_trace : Trace o S' s r × (0 < map_at r.maps types n)
    renamed_trace = import_trace o S' source_wf types n s (rw (counts types) in_types) (sized-to s f.typed.kept.base.sized)

    grows : Grows s.recs r.recs
    grows = trace_grows o S' source_wf renamed_trace.0

    longer : Grown s r
    longer = record { tables = grows; functions = omega (arith, ap length (type_functions o S' types n s)) }

    kept : Kept S r
    kept =
        let b = f.typed.kept.base in
        let c = trace_base o S' source_wf renamed_trace.0 (record { sized = sized-to s b.sized; inside = b.inside; wf = b.wf; distinct = b.distinct }) in
        record { base = record { sized = sized_back r c.sized; inside = c.inside; wf = c.wf; distinct = c.distinct }; fit = trace_fit o S' (renamed-fit S n name in_types in_names source-fit) renamed_trace.0 f.typed.kept.fit }

    typed : Typed S r
    typed =
        let e : r.special ≡ s.special = (unfold import_t in import_special _ o S' types n s) in
        record {
          kept = kept;
          shaped = rw e f.typed.shaped;
          low = rw e (each_map (λ c l. le_trans l (grows.longer types)) f.typed.low);
          paired = rw e (each_map (λ c p. record { shaped = p.shaped; low = le_trans p.low (grows.longer types) }) f.typed.paired);
          keys = rw e f.typed.keys;
        }

    pub from_rename : From m s r
    from_rename = record {
      typed = typed;
      after = follows_back (import_follows o S' plain source_wf s s types n (rw (counts types) in_types) (follows_to f.after));
      keeps = trace_keeps o S' renamed_trace.0;
      knows = λ k h. Lawful.known-stays m s r (from_good f) grows (type_functions o S' types n s) k h;
      grown = longer;
      older = older_same s r (type_functions o S' types n s);
      pieces = each_same (sym (type_functions o S' types n s)) (pieces_grown longer f.pieces);
    }

    pub renamed-mapped : 0 < map_at r.maps types n
    renamed-mapped = renamed_trace.1
