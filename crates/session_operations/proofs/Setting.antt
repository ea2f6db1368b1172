-- What setting a source does to a session whose state the arrays hold: intake's refusals, 21 exactly where it is full, else the session with that source; and the
-- arrays hold the session that is left.
use Rattle.std.proofs.Common.{◌≡◌, ℕ, suc, Bool, true, false, List, [], length, sym, refl, ap, ◌∙◌, subst, arith}
use mathlib.Core.Bool.{false≢true}
use mathlib.Core.Option.{none, some}
use Rattle.base_words.specs.Words.{words_of}
use Rattle.model.specs.Outcome.{laid}
use Rattle.model.specs.Module.{Module, read}
use Rattle.model.specs.Taped.{Taped}
use Rattle.model.specs.Intake.{Passes, intake_of}
use Rattle.model.specs.Tables.{six}
use Rattle.model.specs.Imports.{Derived, emptied}
use Rattle.theory_image.specs.OnWords.{on_refused, on_module}
use Rattle.model.specs.Session.{Session, Answer, answered, refused, after, set_module, set as setOf}
use Rattle.theory_sessions.specs.Operating.{sets, does}
use Rattle.derive_limits.specs.Reached.{Public, Reached}
use Rattle.derive_limits.proofs.Reached.{does-reached}
use Rattle.intake.specs.Taken.{number_of, Accepts, TakeInEnsures}
use Rattle.std.specs.Prelude.{Result, Ok, Err}
use Rattle.base_refusals.specs.declared.Refusal.{Refusal}
use Rattle.intake.proofs.Refusals.{refused_by}
use Rattle.derive_state.specs.Source.{mod_of, Source}
use Rattle.derive_state.specs.Held.{st_of}
use Rattle.function_references.specs.Fits.{Ground}
use Rattle.model.specs.Names.{named}
use Rattle.derive_state.specs.Sizes.{Sizes}
use Rattle.derive_imports.proofs.Sources.{mod_is, source_of}
use Rattle.derive_source.specs.SourceSet.{SetSourceEnsures}
use Rattle.derive_source.specs.Theorems.{Holding, holding-set, holding_cleared, set_full, set_room}
use Rattle.derive_session.specs.Valid.{session_of, ValidSession}
use Rattle.session_operations.specs.Operations.{OperationEnsures}
use Rattle.session_operations.proofs.Plain.{refuses, answers}

-- what the arrays hold, with a source or without, is the state, apart from the maps
held_so : (set : Bool) (n o : ℕ) (words log logtags : List ℕ) (starts maps : List (List ℕ)) (special : List ℕ) (e : Sizes) → Holding (session_of set n o words log logtags starts maps special e).state log logtags starts special e
unfolding session_of
held_so true n o words log logtags starts maps special e = holding-set words log logtags starts maps special e
held_so false n o words log logtags starts maps special e = holding_cleared words log logtags starts maps special e

-- arrays that hold the same state hold the same session
session-same : (set : Bool) (n o : ℕ) (words log logtags log' logtags' : List ℕ) (starts maps starts' maps' : List (List ℕ)) (special special' : List ℕ) (e : Sizes)
    → st_of words log' logtags' starts' maps' special' e ≡ st_of words log logtags starts maps special e → session_of set n o words log' logtags' starts' maps' special' e ≡ session_of set n o words log logtags starts maps special e
unfolding session_of
session-same true n o words log logtags log' logtags' starts maps starts' maps' special special' e h = ap (λ (s : Derived). record { source = some (record { image = mod_of words n; offset = o }); state = s }) h
session-same false n o words log logtags log' logtags' starts maps starts' maps' special special' e h = ap (λ (s : Derived). record { source = none; state = emptied (six (λ t. [])) s }) h

-- without a source, other words and other tags hold the same session
pub elsewhere : {op : Session → Answer (Unit {0})} {s : Session} {k n o : ℕ} {words tags w t log logtags : List ℕ} {starts maps : List (List ℕ)} {buckets special : List ℕ} {e : Sizes} → length w ≡ 16384 → length t ≡ 16384
    → OperationEnsures op s k tt (session_of false n o words log logtags starts maps special e) × ValidSession false n o words tags log logtags starts maps buckets special e → OperationEnsures op s k tt (session_of false n o w log logtags starts maps special e) × ValidSession false n o w t log logtags starts maps buckets special e
unfolding session_of emptied st_of
elsewhere hw ht p = (
  p.0,
  record {
    reached = p.1.reached;
    kept = p.1.kept;
    specials = p.1.specials;
    words_long = hw;
    tape_long = ht;
    taped = λ q. absurd (false≢true q);
    passes = λ q. absurd (false≢true q);
    no_entries = p.1.no_entries;
    lowest = p.1.lowest;
    going = p.1.going;
  },
)

-- ---- by what intake answers
by-refusal : (bytes : ℕ) (ws : List ℕ) (o : ℕ) (s : Session) (k : ℕ) → intake_of bytes ws ≡ suc k → setOf bytes ws o s ≡ refused (suc k)
unfolding setOf
by-refusal bytes ws o s k h = on_refused (set_module o s) refused bytes ws k h

by_module : (bytes : ℕ) (ws : List ℕ) (o : ℕ) (s : Session) (m : Module) → intake_of bytes ws ≡ 0 → read ws ≡ laid m → setOf bytes ws o s ≡ set_module o s m
unfolding setOf
by_module bytes ws o s m h q = on_module (set_module o s) refused bytes ws m h q

-- ---- the image that intake is given, and what it answers
module _ (image w t : List ℕ) (taken : Result ℕ Refusal) (got : TakeInEnsures taken w t image) where
  module _ (m : ℕ) (ok : taken ≡ Ok m) where
    accepts : Accepts image w t m
    accepts = got.held m ok

    is : mod_of w m ≡ accepts.holds
    is = mod_is accepts.taped

    pub accepted_source : Source w t m
    accepted_source = source_of accepts.taped accepts.passes.numbers accepts.passes.lowers

    pub accepted_ground : Ground w t m
    accepted_ground = record { source = accepted_source; names = subst (λ x. named x ≡ true) (sym is) accepts.passes.names }

    passes : Passes (mod_of w m)
    passes = subst Passes (sym is) accepts.passes

    taped : Taped w t m (mod_of w m)
    taped = subst (Taped w t m) (sym is) accepts.taped

    goes : (o : ℕ) (s : Session) → setOf (length image) (words_of image) o s ≡ set_module o s (mod_of w m)
    goes o s = by_module (length image) (words_of image) o s (mod_of w m) (sym got.same ∙ ap number_of ok) (accepts.reads ∙ ap (λ (y : Module). laid y) (sym is))

  module _ (set : Bool) (n offset : ℕ) (words tags log logtags : List ℕ) (starts maps : List (List ℕ)) (buckets special : List ℕ) (e : Sizes) (L : ValidSession set n offset words tags log logtags starts maps buckets special e) (o : ℕ) where
    abbrev before : Session
    before = session_of set n offset words log logtags starts maps special e

    abbrev op : Session → Answer (Unit {0})
    op = setOf (length image) (words_of image) o

    -- 1 to 6
    pub set_refused : (d : Refusal) → taken ≡ Err d → (k : ℕ) → k ≡ number_of (Err d) → OperationEnsures {A = Unit {0}} op before k tt before × ValidSession set n offset words tags log logtags starts maps buckets special e
    set_refused d h k hk =
        let y = refused_by d in
        let z : k ≡ suc y.0 = hk ∙ y.1 in
        (refuses op before before k tt (omega arith) (rw z (by-refusal (length image) (words_of image) o before y.0 (sym got.same ∙ ap number_of h ∙ y.1))) refl, L)

    module _ (m : ℕ) (ok : taken ≡ Ok m) (r : Sizes) (log' logtags' : List ℕ) (starts' maps' : List (List ℕ)) (buckets' special' : List ℕ) (d : SetSourceEnsures w m o log logtags starts maps special e r log' logtags' starts' maps' buckets' special') where
      holding : Holding before.state log logtags starts special e
      holding = held_so set n offset words log logtags starts maps special e

      -- 21
      pub set_not : r.full ≡ true → OperationEnsures {A = Unit {0}} op before 21 tt (session_of set n offset words log' logtags' starts' maps' special' e) × ValidSession set n offset words tags log' logtags' starts' maps' buckets' special' e
      set_not q =
          let same = session-same set n offset words log logtags log' logtags' starts maps starts' maps' special special' e ((d.stays q).0 words) in (
            refuses op before _ 21 tt (omega arith) (goes m ok o before ∙ set_full L.reached (taped m ok).well (passes m ok) holding L.no_entries d q) same,
            record {
              reached = subst Reached (sym same) L.reached;
              kept = (d.stays q).1;
              specials = (d.stays q).2;
              words_long = L.words_long;
              tape_long = L.tape_long;
              taped = L.taped;
              passes = L.passes;
              no_entries = L.no_entries;
              lowest = L.lowest;
              going = L.going;
            },
          )

      -- it is set
      module _ (q : r.full ≡ false) where
        said : op before ≡ answered tt (session_of true m o w log' logtags' starts' maps' special' r)
        unfolding session_of
        said = goes m ok o before ∙ set_room L.reached (taped m ok).well (passes m ok) holding L.no_entries d q

        reached' : Reached (session_of true m o w log' logtags' starts' maps' special' r)
        unfolding does Public after
        reached' = subst Reached (ap (after before) said) (does-reached (sets (length image) (words_of image) o) tt before L.reached)

        pub set_so : OperationEnsures {A = Unit {0}} op before 0 tt (session_of true m o w log' logtags' starts' maps' special' r) × ValidSession true m o w t log' logtags' starts' maps' buckets' special' r
        set_so = (
          answers op before _ tt said,
          record {
            reached = reached';
            kept = (d.is q).1;
            specials = (d.is q).2;
            words_long = (taped m ok).words_long;
            tape_long = (taped m ok).tags_long;
            taped = λ z. taped m ok;
            passes = λ z. passes m ok;
            no_entries = (d.aside q).entries_same.1 ∙ L.no_entries;
            lowest = ((d.aside q).tops_same.0 ∙ L.lowest.0, (d.aside q).tops_same.1 ∙ L.lowest.1);
            going = q;
          },
        )
