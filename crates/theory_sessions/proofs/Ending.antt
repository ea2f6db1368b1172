-- What is finished is a module that is read back from the words that it is written in, and passes (`Written`).
use Rattle.std.specs.Prelude.{◌≡◌, Bool, true, false, List, length}
use Rattle.std.proofs.Math.Path.{refl}
use Rattle.std.proofs.Common.{◌∙◌, arith}
use Prim.Native.Nat.{ℕ, ◌*◌}
use Rattle.model.specs.Outcome.{laid}
use Rattle.model.specs.Tree.{Entry}
use Rattle.model.specs.Module.{Module, read, write, sized}
use Rattle.model.specs.Carry.{Each}
use Rattle.model.specs.Intake.{tested, verdict, intake_of}
use Rattle.model.specs.Numbers.{numbered}
use Rattle.model.specs.Lower.{lower}
use Rattle.model.specs.Names.{distinct, function_names, named}
use Rattle.model.specs.Scope.{in_scope}
use Rattle.model.specs.Tables.{Tables}
use Rattle.model.specs.Imports.{Derived}
use Rattle.model.specs.Finish.{appearing, named_by, gathered, finished, too_large}
use Rattle.theory_finish.specs.Finished.{finished-parts, finished-numbered, finished-lower, finished_scope}
use Rattle.theory_finish.specs.Images.{image-read, image-sized}
use Rattle.theory_sessions.specs.Following.{Holds}
use Rattle.theory_sessions.specs.Entering.{EntryPiece}
use Rattle.theory_sessions.specs.Ending.{Fifth, fifth_named, fifth_again, parts, three, four, fifth, six, Written}

-- tests 5 and 6, the last two
by_names : (a b c : Bool) → a ≡ b → c ≡ true → ◌≡◌ {A = ℕ} (elim a [ true ↦ elim c [ true ↦ 0 | false ↦ 6 ] | false ↦ 5 ]) (elim b [ true ↦ 0 | false ↦ 5 ])
by_names a true true p q = rw p refl
by_names a false true p q = rw p refl
by_names a b false p q = let z : ◌≡◌ {A = ℕ} 0 1 = cc in absurd (omega arith)

pub all-written : {T : Tables} {s : Derived} {es : List Entry} → Holds T s → Each (EntryPiece s) es → too_large (finished s es) ≡ false → Written (finished s es) (write (finished s es))
unfolding finished
all-written {s} {es} h ps e = record {
  words = refl;
  reads = reads;
  one = one;
  three = three';
  four = four';
  fifth = fifth';
  five = five';
  six = six';
  intake = unfold intake_of verdict tested in rw (intake_of, one, reads, tested, three', four') (by_names (named t) (distinct (function_names t.functions)) (in_scope t) five' six');
}
  where
    t : Module
    t = named_by (appearing (gathered s es)) (gathered s es)

    one : sized (4 * length (write t)) (write t) ≡ true
    one = image-sized t e

    reads : read (write t) ≡ laid t
    reads = image-read (finished-parts (parts h ps) (three h ps)) e

    three' : numbered t ≡ true
    three' = finished-numbered (parts h ps) (three h ps)

    four' : lower t ≡ true
    four' = finished-lower (parts h ps) (three h ps) ∙ four h ps

    fifth' : Fifth t
    fifth' = fifth_again (parts h ps) (three h ps) (fifth h ps)

    five' : named t ≡ distinct (function_names t.functions)
    five' = fifth_named fifth'

    six' : in_scope t ≡ true
    six' = finished_scope (parts h ps) (three h ps) ∙ six h ps
