-- THE CELLS OF A DERIVED FUNCTION, cell by cell: head, arguments, result, locals, body, kept expressions and named expressions of a function of the linked module agree with those of its source, through link's maps.
-- Before names are numbered again its records are its source's carried, by the maps as they are after its declarations or at the end of its import (the crate theory_bodies); what is mapped then is mapped so in the end; and a record carried agrees once it is finished (`NameTexts`).
use Rattle.std.specs.Prelude.{◌≡◌, get_or}
use Rattle.std.proofs.Math.Path.{refl, ap}
use Rattle.std.proofs.Common.{sym, ap₂, ◌∙◌, arith}
use Rattle.std.proofs.Math.Bool.{true}
use mathlib.Core.List.{List, [], ◌∷◌, ◌++◌, map}
use Prim.Native.Nat.{ℕ, suc, ◌<◌, pred}
use Rattle.std.proofs.Math.ListN.{length, get_or-map}
use Rattle.std.proofs.lemmas.List.{length-map}
use Rattle.std.proofs.Math.Dec.{eqb}
use borrow.Author.Tests.{eq-eqb, lt-ltb}
use Rattle.theory_lists.specs.Booleans.{and-true}
use Rattle.model.specs.Outcome.{Cells}
use Rattle.model.specs.Table.{NAME, NAMED-EXPR}
use Rattle.model.specs.Tree.{Block, Range, Function, flat, flat_all, flat_block}
use Rattle.model.specs.Module.{Module}
use Rattle.model.specs.Carry.{carry_cell, carry_cells, carry_function, Each, each_none, each_next, WellFunction, WellFormed}
use Rattle.model.specs.Intake.{Passes}
use Rattle.model.specs.Initial.{Marks, marked, initial}
use Rattle.model.specs.Names.{field}
use Rattle.model.specs.Calls.{ordered}
use Rattle.model.specs.Callees.{callees, order_of}
use Rattle.model.specs.Tables.{names}
use Rattle.model.specs.References.{Place, table, own, function, opt, target, targets, Node, node, refs, through}
use Rattle.model.specs.Imports.{Derived}
use Rattle.model.specs.Bodies.{known, Builder, mapped_to, carried, keep_names, name_cells, named_rows, kept_names, declarations, declared, derived, final, localized, follow}
use Rattle.model.specs.Finish.{renumber}
use Rattle.model.specs.Link.{link_by}
use Rattle.model.specs.LinkMaps.{link_maps}
use Rattle.model.specs.Agreement.{Mapping, becomes, agrees_w, agrees_r, agrees_l, agrees_n, stands, opened, body_of}
use Rattle.theory_image.specs.Members.{each_at}
use Rattle.theory_walks.specs.Agreement.{mentioned}
use Rattle.theory_records.specs.RecordLaws.{All as AllN, all_map as alln-map, rest_of, Has as HasN}
use Rattle.theory_records.specs.Trace.{Keeps}
use Rattle.theory_bodies.specs.Context.{Inside, InN}
use Rattle.theory_bodies.specs.Lists.{All, all_map, all_both}
use Rattle.theory_bodies.specs.Inv.{Has, place, bare-carried}
use Rattle.theory_bodies.specs.Passing as Bodies
use Rattle.theory_bodies.specs.Lawful as Lawful
use Rattle.theory_bodies.specs.Opened.{body-refs}
use Rattle.theory_bodies.specs.Function.{refs-append}
use Rattle.theory_bodies.specs.Theorems as Theorems
use Rattle.theory_bodies.proofs.Theorems as TheoremsProved
use Rattle.theory_finish.specs.Touching.{Only, same-b}
use Rattle.theory_finish.specs.Kept.{initials-kept}
use Rattle.theory_finish.specs.Finished.{Seen, renumber-only}
use Rattle.theory_finish.specs.Cellwise.{CellsOf, function_cells, each_first, each_rest}
use Rattle.theory_link.specs.Cells.{Becomes, cells_agree}
use Rattle.theory_link.specs.Walking.{end}
use Rattle.theory_link.specs.NameTexts.{ns, went_to, Leads, name_agrees, carried_agrees, rows_agree}

-- the cells of a function, `Agrees` of the crate model but for `apart`
pub record SameCells (M M' : Module) (μ : Mapping) (o : List ℕ) (F F' : Function) : Type 0 where
  pub head : agrees_r M M' μ o F.head F'.head ≡ true
  pub arguments : agrees_l M M' μ o F.arguments F'.arguments ≡ true
  pub result : agrees_r M M' μ o F.result F'.result ≡ true
  pub locals : agrees_l M M' μ o F.locals F'.locals ≡ true
  pub body : agrees_r M M' μ o (body_of F) (body_of F') ≡ true
  pub kept : (e k : ℕ) → get_or o e 0 ≡ suc k → stands M M' μ o F'.exprs (suc k) (get_or F.exprs e []) ≡ true
  pub named : agrees_n M M' μ o (keep_names F.named o []) F'.named ≡ true

each_refs : (P : Node → Type 0) (rs : List Cells) → AllN P (refs (flat_all rs)) → Each (λ r. AllN P (refs r)) rs
unfolding flat_all
each_refs P [] a = each_none
each_refs P (r ∷ rs) a = let b = refs-append P r (flat_all rs) a in each_next b.0 (each_refs P rs b.1)

-- names are no part of a body
body-renamed : {ρ : ℕ → ℕ → ℕ} → Only ρ → (F : Function) → WellFunction F → body_of (carry_function ρ F) ≡ body_of F
unfolding body_of initial carry_function
body-renamed o F w = ap₂ (λ (b : Block Range) (i : Marks). opened (flat_block b) (λ x. marked i x)) (same-b o w.body_ok) (initials-kept o w)

module _ (m : Module) (well : WellFormed m) (ok : Passes m) (os : List ℕ) (e : order_of m ≡ ordered os) where
  abbrev m' : Module
  m' = link_by os m

  abbrev μ : Mapping
  μ = link_maps os m

  abbrev names' : List ℕ
  names' = ns m well ok os e

  abbrev ρ : ℕ → ℕ → ℕ
  ρ = renumber names'

  -- F, imported where s is derived: what it may call is Q
  module _ (Q : ℕ → Type 0) (G : Derived → Type 0) (follows : Lawful.Follows 0 m (follow 0 m) Q G) (F : Function) (pass : Bodies.Passes m F) (calls : All Q (callees F)) (s : Derived) (good : G s) where
    abbrev dec : Builder
    dec = declared 0 m (follow 0 m) F s

    abbrev fin : Builder
    fin = final 0 m (follow 0 m) F s

    abbrev F' : Function
    F' = localized 0 m (follow 0 m) F s

    abbrev o : List ℕ
    o = fin.memo

    -- link's maps are its maps where it has mapped; what it calls is known
    pub record Lasts : Type 0 where
      pub keeps : Keeps fin.out (end m well ok os e)
      pub places : (n : ℕ) → Q n → 0 < known m fin.out n → get_or (link_maps os m).functions n 0 ≡ known m fin.out n
      pub knows : All (λ f. 0 < known m fin.out f) (callees F)

    module _ (l : Lasts) (w : WellFunction F') (seen : Each (Seen names') (flat F')) where
      abbrev T : Builder → Node → Type 0
      T x = Leads m well ok os e o (mapped_to m x)

      leads : (p : Place) (n : ℕ) → 0 < mapped_to m fin p n → Inside m Q p n → went_to m well ok os e o p n ≡ mapped_to m fin p n
      unfolding went_to mapped_to Inside Keeps
      leads (table t) n h i = l.keeps t n h
      leads own n h i = refl
      leads function n h i = l.places n i h

      fin_leads : (js : List Node) → AllN (λ j. HasN (mapped_to m fin) j × InN m Q j) js → AllN (T fin) js
      fin_leads js a = alln-map js (λ j h. (h.0, leads j.place j.num h.0 h.1)) a

      dec_leads : AllN (T dec) (refs (declarations 0 m (follow 0 m) F))
      dec_leads =
          let x = Theorems.grows m well ok.numbers ok.lowers 0 (follow 0 m) Q G follows F pass calls s good in
          alln-map (refs (declarations 0 m (follow 0 m) F)) (λ j h. let k = x.keeps j.place j.num h.0 in (h.0, leads j.place j.num (rw k h.0) h.1 ∙ k)) (Theorems.declared_met m well ok.numbers ok.lowers 0 (follow 0 m) Q G follows F pass calls s good)

      parts : AllN (T dec) (refs F.head) × AllN (T dec) (refs (flat_all F.arguments)) × AllN (T dec) (refs F.result) × AllN (T dec) (refs (flat_all F.locals))
      unfolding declarations
      parts =
          let a = refs-append (T dec) (F.head ++ flat_all F.arguments ++ F.result) (flat_all F.locals) dec_leads in
          let b = refs-append (T dec) (F.head ++ flat_all F.arguments) F.result a.0 in
          let c = refs-append (T dec) F.head (flat_all F.arguments) b.0 in
          (c.0, c.1, b.1, a.1)

      cells : CellsOf (Seen names') F'
      cells = function_cells F' seen

      record_agrees : (r : Cells) → AllN (T dec) (refs r) → Each (Seen names') (carried 0 m dec r) → agrees_r m m' μ o r (carry_cells ρ (carried 0 m dec r)) ≡ true
      record_agrees r a v = carried_agrees m well ok os e o (mapped_to m dec) r (carried 0 m dec r) a (bare-carried 0 m dec r) v

      list_agrees : (rs : List Cells) → AllN (T dec) (refs (flat_all rs)) → Each (Each (Seen names')) (map (carried 0 m dec) rs) → agrees_l m m' μ o rs (map (carry_cells ρ) (map (carried 0 m dec) rs)) ≡ true
      list_agrees rs a v = rows_agree m well ok os e o (mapped_to m dec) (carried 0 m dec) (bare-carried 0 m dec) (each_refs (T dec) rs a) v

      -- ---- the body refers to expressions of the function and to functions
      body-becomes : AllN (Becomes m m' μ o (mapped_to m fin)) (refs (body_of F))
      body-becomes =
          body-refs (Becomes m m' μ o (mapped_to m fin)) F pass.well.body_ok
          (all_map (mentioned F) mine (Theorems.mapped m well ok.numbers ok.lowers 0 (follow 0 m) Q G follows F pass calls s good))
          (all_both (callees F) called l.knows calls)
        where
          mine : (x : ℕ) → Has o x → Becomes m m' μ o (mapped_to m fin) (node own x)
          mine x h = unfold mapped_to becomes in (h, eq-eqb (get_or o x 0) (suc (pred (get_or o x 0))) (omega arith))

          called : (f : ℕ) → 0 < known m fin.out f → Q f → Becomes m m' μ o (mapped_to m fin) (node function f)
          called f h c = unfold mapped_to becomes in (h, eq-eqb (get_or (link_maps os m).functions f 0) (suc (pred (known m fin.out f))) (omega (arith, l.places f c h)))

      body_agrees : agrees_r m m' μ o (body_of F) (body_of (carry_function ρ F')) ≡ true
      body_agrees = rw (body-renamed (renumber-only names') F' w) (cells_agree m m' μ o (mapped_to m fin) (body_of F) (body_of F') body-becomes (TheoremsProved.body_same m well ok.numbers ok.lowers 0 (follow 0 m) Q G follows F pass calls s good))

      -- ---- expressions
      kept-stands : (x k : ℕ) → get_or o x 0 ≡ suc k → stands m m' μ o (map (carry_cells ρ) F'.exprs) (suc k) (get_or F.exprs x []) ≡ true
      unfolding stands place
      kept-stands x k q =
          let n = Theorems.kept m well ok.numbers ok.lowers 0 (follow 0 m) Q G follows F pass calls s good x (omega arith) in
          let z : pred (get_or o x 0) ≡ k = ap pred q in
          let b : k < length F'.exprs = rw z at n.below in
          and-true (lt-ltb k (length (map (carry_cells ρ) F'.exprs)) (rw (length-map F'.exprs (carry_cells ρ)) b))
          (rw (get_or-map (carry_cells ρ) F'.exprs k []) (carried_agrees m well ok os e o (mapped_to m fin) (get_or F.exprs x []) (get_or F'.exprs k []) (fin_leads (refs (get_or F.exprs x [])) n.met) (rw z at n.same) (each_at cells.in_exprs k [] b)))

      -- ---- names of expressions
      names_agree : (ps : List (ℕ × ℕ)) → AllN (T fin) (refs (name_cells ps)) → Each (Each (Seen names')) (named_rows ps (through (mapped_to m fin) NAME)) → agrees_n m m' μ o ps (map (carry_cells ρ) (named_rows ps (through (mapped_to m fin) NAME))) ≡ true
      unfolding agrees_n named_rows name_cells refs target targets
      names_agree [] a v = refl
      names_agree (p ∷ ps) a v = and-true expression (and-true text (names_agree ps (rest_of (T fin) (opt (table names)) p.1 (refs (name_cells ps)) a) (each_rest v)))
        where
          expression : eqb p.0 (field NAMED-EXPR (carry_cells ρ ((NAMED-EXPR, p.0) ∷ (NAME, through (mapped_to m fin) NAME p.1) ∷ []))) ≡ true
          expression = unfold field carry_cell in eq-eqb p.0 _ (sym ((renumber-only names').only NAMED-EXPR p.0 refl))

          text : agrees_w m m' μ o (target NAME) p.1 (field NAME (carry_cells ρ ((NAMED-EXPR, p.0) ∷ (NAME, through (mapped_to m fin) NAME p.1) ∷ []))) ≡ true
          text = unfold field carry_cell through in name_agrees m well ok os e o (mapped_to m fin) p.1 (refs (name_cells ps)) a (λ k h. each_first (each_rest (each_first v)) k refl (unfold through in h))

      named_agrees : agrees_n m m' μ o (keep_names F.named o []) (map (carry_cells ρ) F'.named) ≡ true
      unfolding localized derived kept_names
      named_agrees = names_agree (keep_names F.named o []) (fin_leads (refs (name_cells (keep_names F.named o []))) (unfold kept_names in Theorems.names_met m well ok.numbers ok.lowers 0 (follow 0 m) Q G follows F pass calls s good)) cells.in_named

      -- THE FUNCTION
      pub same_cells : SameCells m m' μ o F (carry_function ρ F')
      unfolding carry_function localized derived
      same_cells = record {
        head = record_agrees F.head parts.0 cells.in_head;
        arguments = list_agrees F.arguments parts.1 cells.in_arguments;
        result = record_agrees F.result parts.2 cells.in_result;
        locals = list_agrees F.locals parts.3 cells.in_locals;
        body = body_agrees;
        kept = kept-stands;
        named = named_agrees;
      }
