-- A session in arrays of the caller: the model's session that it means, when it is valid between two operations, and what an operation on it promises and leaves.
use Rattle.std.specs.Prelude.{◌≡◌, ◌<◌, ◌≤◌, ◌⊎◌, ℕ, Bool, true, false, List, Option, None, Some, replicate, slice_set}
use Rattle.base_refusals.specs.declared.Refusal.{Refusal}
use Rattle.base_refusals.specs.declared.Refusal.TheVariants.{NoSource, NumberGiven}
use Rattle.model.specs.Session.{Session as Session', Answer}
use Rattle.derive_state.specs.Sizes.{going}
use Rattle.derive_state.specs.Held.{SameArrays}
use Rattle.function_builder.specs.Stacks.{Stacks}
use Rattle.derive_session.specs.Valid.{session_of, ValidSession}
use Rattle.session_operations.specs.Operations.{OperationEnsures, FinishEnsures}
use Rattle.session_operations.specs.declared.SetSource.{SetSource}
use Rattle.session_operations.specs.declared.Session.{Session}

-- ---- the source
-- whether one is set
abbrev pub is_set : Option SetSource → Bool
is_set None = false
is_set (Some s) = true

-- how many words it has
abbrev pub n_in : Option SetSource → ℕ
n_in None = 0
n_in (Some s) = s.n

-- its offset in spans
abbrev pub offset_in : Option SetSource → ℕ
offset_in None = 0
offset_in (Some s) = s.offset

-- why a source has no record of the number h, where the table has c: none is set, or the number is no less than c
abbrev pub Absent : Option SetSource → ℕ → ℕ → Refusal → Type 0
Absent source c h e = ((source ≡ None) × (e ≡ NoSource)) ⊎ ((is_set source ≡ true) × (c ≤ h) × (e ≡ NumberGiven))

-- ---- the session
-- the model's session that it means
abbrev pub meant : Session → Session'
meant s = session_of (is_set s.source) (n_in s.source) (offset_in s.source) s.words.now s.derived.log.now s.derived.logtags.now s.derived.starts.now s.derived.maps.now s.special.now (going s.sizes)

-- what an operation on records asks and leaves: the source, the derived module and the sizes are a session between two operations; nothing is said of the stacks. A clause and no ghost
-- field: an operation writes the arrays, then the sizes and the source that is set, and between these writes it does not hold
abbrev pub ValidRecords : Session → Type 0
ValidRecords s = ValidSession (is_set s.source) (n_in s.source) (offset_in s.source) s.words.now s.tags.now s.derived.log.now s.derived.logtags.now s.derived.starts.now s.derived.maps.now s.derived.buckets.now s.special.now (going s.sizes)

-- what an operation on functions asks and leaves: the stacks have their lengths besides; a clause for the same reason
pub record Valid (s : Session) : Type 0 where
  pub session : ValidRecords s
  pub stacks : Stacks s.stacks.now (going s.sizes)

-- the arrays are the caller's, as they were
pub record SameMemory (s s' : Session) : Type 0 where
  pub words_same : s'.words.ghost_name ≡ s.words.ghost_name
  pub tags_same : s'.tags.ghost_name ≡ s.tags.ghost_name
  pub derived_same : SameArrays s.derived s'.derived
  pub special_same : s'.special.ghost_name ≡ s.special.ghost_name
  pub stacks_same : s'.stacks.ghost_name ≡ s.stacks.ghost_name

-- ---- what an operation does
-- on records: the session after it means what the model's operation leaves, with its refusal and its value; it is valid but for its stacks, in the same arrays
pub record OperatesOnRecords {A : Type 0} (op : Session' → Answer A) (s : Session) (refusal : ℕ) (value : A) (s' : Session) : Type 0 where
  pub does : OperationEnsures op (meant s) refusal value (meant s')
  pub valid : ValidRecords s'
  pub same : SameMemory s s'

-- the same of a finish without entry points, whose value is the image: its bytes go to the start of the output
pub record FinishesRecords (op : Session' → Answer (List ℕ)) (s : Session) (refusal bytes : ℕ) (output₀ output : List ℕ) (s' : Session) : Type 0 where
  pub does : FinishEnsures (op (meant s)) (meant s) refusal bytes output₀ output (meant s')
  pub valid : ValidRecords s'
  pub same : SameMemory s s'

-- on functions, and on records of a session whose stacks are valid, by the clause `valid` of each operation: it is valid, stacks too
pub record Operates {A : Type 0} (op : Session' → Answer A) (s : Session) (refusal : ℕ) (value : A) (s' : Session) : Type 0 where
  pub does : OperationEnsures op (meant s) refusal value (meant s')
  pub valid : Valid s'
  pub same : SameMemory s s'

-- the same of a finish
pub record Finishes (op : Session' → Answer (List ℕ)) (s : Session) (refusal bytes : ℕ) (output₀ output : List ℕ) (s' : Session) : Type 0 where
  pub does : FinishEnsures (op (meant s)) (meant s) refusal bytes output₀ output (meant s')
  pub valid : Valid s'
  pub same : SameMemory s s'

-- ---- what an operation leaves as it was
-- an import leaves the source that is set, its words and their classes, and the special types
pub record ImportStays (s s' : Session) : Type 0 where
  pub source : s'.source ≡ s.source
  pub words : s'.words.now ≡ s.words.now
  pub tags : s'.tags.now ≡ s.tags.now
  pub special : s'.special.now ≡ s.special.now

-- a finish leaves the words of the source, their classes and where records start; refused, the source that is set, too
pub record FinishStays (s : Session) (refusal : ℕ) (s' : Session) : Type 0 where
  pub words : s'.words.now ≡ s.words.now
  pub tags : s'.tags.now ≡ s.tags.now
  pub starts : s'.derived.starts.now ≡ s.derived.starts.now
  pub source : 0 < refusal → s'.source ≡ s.source

-- ---- what follows a session that is finished
-- no source, nothing mapped, no special types and no sizes, in the same arrays
abbrev pub renewed : Session → Session
renewed s = record {
  source = None;
  words = s.words;
  tags = s.tags;
  derived = record { log = s.derived.log; logtags = s.derived.logtags; starts = s.derived.starts; maps = record { ref_ptr = s.derived.maps.ref_ptr; ghost_name = s.derived.maps.ghost_name; now = replicate 6 (replicate 512 0) }; buckets = s.derived.buckets };
  special = record { ref_ptr = s.special.ref_ptr; ghost_name = s.special.ghost_name; now = slice_set (slice_set (slice_set s.special.now 0 0) 1 0) 2 0 };
  stacks = s.stacks;
  sizes = record { loglen = 0; counts = replicate 8 0; pairs = 0; exprtop = 0; bodytop = 0; made = 0 };
}
