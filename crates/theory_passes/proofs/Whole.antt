-- The theorems on the passes over a function's cells, each with its statement in full, for a source that passed intake's tests 3, 4 and 6 and a way to follow calls (`Follows`): what the passes write is the flat list of the derived function, and what they leave is the model's state after its import.
use Prim.Native.Nat.{ℕ, suc, ◌+◌, ◌*◌, ◌<◌}
use Rattle.std.specs.Prelude.{◌≡◌, true, length}
use Rattle.std.proofs.Math.Path.{refl, ap}
use Rattle.std.proofs.Common.{sym, arith}
use Rattle.std.proofs.Math.Bool.{false}
use mathlib.Core.List.{List, ◌++◌}
use Rattle.std.proofs.Math.ListN.{length-append}
use Rattle.model.specs.Outcome.{Cells}
use Rattle.model.specs.Table.{EXPRESSIONS, NAMED}
use Rattle.model.specs.Tree.{Function, flat_all, flat_list, flat_block, flat}
use Rattle.model.specs.Module.{Module}
use Rattle.model.specs.Carry.{WellFormed}
use Rattle.model.specs.Numbers.{numbered}
use Rattle.model.specs.Lower.{lower}
use Rattle.model.specs.Callees.{callees}
use Rattle.model.specs.Imports.{Derived}
use Rattle.model.specs.Bodies.{Builder, import_initialiser, kept_names, declared, walked, rebuilt, derived, final, localized}
use Rattle.theory_bodies.specs.Lists.{All}
use Rattle.theory_bodies.specs.Context.{Law}
use Rattle.theory_bodies.specs.Shallow.{need, glance}
use Rattle.theory_bodies.specs.Steps.{own_ops}
use Rattle.theory_bodies.specs.Passing.{Passes, fine}
use Rattle.theory_bodies.specs.Lawful.{Follows, lawful}
use Rattle.theory_bodies.specs.Function.{Fine, ctx}
use Rattle.theory_passes.specs.Pass.{after, written, front, begin, front_after, front_written, body_after, body_written, names_after, names_written, whole_after, whole_written}
use Rattle.theory_passes.specs.Passage.{written-length, alone-after, alone-written}
use Rattle.theory_passes.specs.Operands.{Lower}
use Rattle.theory_passes.specs.Light.{still}
use Rattle.theory_passes.proofs.Still.{still-front, still-body}
use Rattle.theory_passes.proofs.Body as Body
use Rattle.theory_passes.proofs.Declarations as Declarations
use Rattle.theory_passes.specs.Names as Names

-- ---- lengths, of any function and from any state
module _ (o : ℕ) (M : Module) (follow : ℕ → Derived → Derived) (F : Function) where
  pub front_length : (s : Derived) → length (front_written o M follow F s) ≡ length (front F)
  unfolding front_written
  front_length s = written-length o M follow _ _ (front F) false _

  pub body-length : (m : Builder) → length (body_written o M follow F m) ≡ length (flat_block F.body)
  unfolding body_written
  body-length m = written-length o M follow _ _ (flat_block F.body) false m

  pub names_length : (m : Builder) → length (names_written o M follow F m) ≡ suc (2 * length (kept_names o M follow F m))
  unfolding names_written
  names_length m = ap suc (Names.rows-length o M follow _ _ (kept_names o M follow F m) m)

  -- so the record is as long as these
  pub whole_length : (s : Derived) → length (whole_written o M follow F s)
      ≡ length (front F) + suc (length (flat_all (body_after o M follow F (front_after o M follow F s)).made)) + suc (2 * length (kept_names o M follow F (body_after o M follow F (front_after o M follow F s)))) + length (flat_block F.body)
  unfolding whole_written flat_list
  whole_length s =
      let m = body_after o M follow F (front_after o M follow F s) in
      let a = front_written o M follow F s in
      let b = flat_list EXPRESSIONS m.made in
      let c = names_written o M follow F m in
      let d = body_written o M follow F (front_after o M follow F s) in
      omega (arith, length-append (a ++ b ++ c) d, length-append (a ++ b) c, length-append a b, front_length s, names_length m, body-length (front_after o M follow F s))

module _ (M : Module) (well : WellFormed M) (three : numbered M ≡ true) (four : lower M ≡ true) (o : ℕ) (follow : ℕ → Derived → Derived) (Q : ℕ → Type 0) (G : Derived → Type 0) (follows : Follows o M follow Q G)
    (F : Function) (pass : Passes M F) (calls : All Q (callees F)) (s : Derived) (good : G s) where
  abbrev law : Law o M follow Q G
  law = lawful M well three four o follow Q G follows

  abbrev fit : Fine (ctx o M follow Q G law F) F
  fit = fine o M follow Q G law F pass calls

  abbrev pub F' : Function
  F' = localized o M follow F s

  -- after the declarations, the body, and the names
  abbrev pub dec : Builder
  dec = declared o M follow F s

  abbrev pub mid : Builder
  mid = walked o M follow F dec

  abbrev pub fin : Builder
  fin = final o M follow F s

  -- ---- the declarations; an initialiser's operands have lower numbers, so `import_initialiser` is without levels (Operands, `unique_new`)
  pub operands-lower : Lower o M follow F.exprs
  operands-lower e l = own_ops (ctx o M follow Q G law F) fit.exprs (λ x. x < e) e (fit.exprs.lower e l)

  pub front-after : front_after o M follow F s ≡ dec
  front-after = Declarations.front-after o M follow Q G law F fit s good pass.well

  pub front-written : front_written o M follow F s ≡ front F'
  front-written = Declarations.front-written o M follow Q G law F fit s good pass.well

  -- ---- the body
  pub body-after : body_after o M follow F dec ≡ mid
  body-after = Body.body-after o M follow Q G law F fit pass.well.body_ok pass.six s good

  pub body-written : body_written o M follow F dec ≡ flat_block (rebuilt o M follow F dec)
  body-written = Body.body-written o M follow Q G law F fit pass.well.body_ok pass.six s good

  -- ---- the named expressions, and the expressions made
  pub names_after_lem : names_after o M follow F mid ≡ fin
  names_after_lem = Names.names_after_lem o M follow Q G law F fit s good

  pub names_written_lem : names_written o M follow F mid ≡ flat_list NAMED F'.named
  names_written_lem = Names.names_written_lem o M follow Q G law F fit s good

  pub made-same : F'.exprs ≡ mid.made
  unfolding localized derived
  made-same = Names.made-same o M follow Q G law F fit s good

  -- ---- THE WHOLE
  pub whole-after : whole_after o M follow F s ≡ fin
  unfolding whole_after
  whole-after = rw (front-after, body-after) names_after_lem

  -- the flat list in its four parts
  pub parts : flat F' ≡ front F' ++ flat_list EXPRESSIONS F'.exprs ++ flat_list NAMED F'.named ++ flat_block F'.body
  unfolding flat front
  parts = refl

  pub whole-written : whole_written o M follow F s ≡ flat F'
  unfolding whole_written
  whole-written =
      rw (front-after, body-after, front-written, names_written_lem, body-written, parts)
      (unfold localized derived in ap (λ (e : List Cells). front F' ++ flat_list EXPRESSIONS e ++ flat_list NAMED F'.named ++ flat_block (rebuilt o M follow F dec)) (sym made-same))

  -- ---- CALLS ARE FOLLOWED AT A CALL'S WORD ALONE: expressions are imported with a follow that does nothing
  pub still_front_after : after o M follow (import_initialiser o M still F.exprs) (import_initialiser o M still F.exprs) (front F) (begin F s) ≡ dec
  still_front_after = alone-after o M follow _ _ (still-front o M follow Q G law F pass calls s good)

  pub still_front_written : written o M follow (import_initialiser o M still F.exprs) (import_initialiser o M still F.exprs) (front F) false (begin F s) ≡ front F'
  still_front_written = alone-written o M follow _ _ (still-front o M follow Q G law F pass calls s good) false

  pub still_body_after : after o M follow (need o M still F.exprs) (glance o M still F.exprs) (flat_block F.body) dec ≡ mid
  still_body_after = alone-after o M follow _ _ (still-body o M follow Q G law F pass calls s good)

  pub still_body_written : written o M follow (need o M still F.exprs) (glance o M still F.exprs) (flat_block F.body) false dec ≡ flat_block F'.body
  unfolding localized derived
  still_body_written = alone-written o M follow _ _ (still-body o M follow Q G law F pass calls s good) false
