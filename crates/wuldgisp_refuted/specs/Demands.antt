-- WRONG ANSWERS THAT THE THEOREMS ON THE EXPORTED CONTRACTS RULE OUT: each contradicts what crates/wuldgisp/specs/Meaning.antt, or a statement that it leads to, says of whatever keeps the contracts. Two or more of each.
use Rattle.std.specs.Prelude.{◌≡◌, Bool, true, false, List, [], ◌∷◌, ℕ, zero, suc, ◌+◌, ◌*◌, ◌<◌, ◌≤◌, ltb, length, get_or}
use Rattle.std.proofs.Math.Path.{refl}
use Rattle.std.proofs.Common.{sym, ap, ◌∙◌, subst, arith}
use Rattle.std.proofs.Math.Bool.{false≢true}
use Rattle.std.proofs.Math.Option.{some}
use borrow.Author.Tests.{ltb-true}
use Rattle.theory_lists.specs.Booleans.{and_first, and_second}
use Rattle.base_words.specs.Words.{AllBelow, words_of}
use Rattle.model.specs.Module.{Module}
use Rattle.model.specs.Names.{distinct, function_names}
use Rattle.model.specs.Intake.{intake_of}
use Rattle.model.specs.Calls.{Call, Chain, one, more, on, leads, In, here, later}
use Rattle.model.specs.Callees.{callees, calls}
use Rattle.model.specs.Redirect.{function}
use Rattle.model.specs.Tables.{Tab, names, is_t, at, tables, rec_at, map_at}
use Rattle.model.specs.Imports.{Derived}
use Rattle.model.specs.Session.{Source, Session, answered, refused, unknown, import_function, map_function_handle}
use Rattle.model.specs.Steps.{Said, part}
use Rattle.model.specs.Walk.{read, Trace, ◌▸◌}
use Rattle.model.specs.Walk as Walk
use Rattle.model.specs.Agreement.{Mapping, agrees_r, stands}
use Rattle.model.specs.LinkMaps.{link_maps}
use Rattle.model.specs.Image.{wuldgisp_link, LinkEnsures, SessionEnsures}
use Rattle.model_vectors.specs.Marked.{P9, P12, image, output, marked}
use Rattle.theory_order.specs.Lists.{in_nil}
use Rattle.theory_order.specs.Among.{among}
use Rattle.theory_walks.specs.Agreement.{end_of, CarriedT, carried_on, carried-read, carried-call}
use Rattle.theory_walks.specs.Events.{carried_is}
use Rattle.theory_sessions.specs.Steps.{Stepped}
use Rattle.theory_sessions.specs.StepBytes as StepBytes
use Rattle.theory_sessions.specs.Stuck.{LeadsToRing, OneLeads, function_22, handle_22}
use Rattle.theory_link.specs.OnBytes as OnBytes
use Rattle.theory_link.specs.Session.{link_steps}
use Rattle.link.specs.Theorems.{Halves}
use Rattle.wuldgisp.specs.Meaning.{same_bytes}

-- ---- SESSIONS: the images that steps write (`every-image`), and refused steps (`every-step`)
-- an image that intake refuses by another test than 5, or by 5 though all functions' names differ, or accepts though two are equal
module _ (out : List ℕ) (at n : ℕ) (m : Module) (h : StepBytes.ImageAt out at n m) where
  pub refused_otherwise : (k : ℕ) → (k ≡ 0 → ⊥) → (k ≡ 5 → ⊥) → intake_of n (words_of (part at n out)) ≡ k → ⊥
  refused_otherwise k a b e = go (distinct (function_names m.functions)) (sym e ∙ h.intake)
    where
      go : (d : Bool) → k ≡ (let v : ℕ = elim d [ true ↦ 0 | false ↦ 5 ] in v) → ⊥
      go true q = a q
      go false q = b q

  pub twice_accepted : distinct (function_names m.functions) ≡ false → intake_of n (words_of (part at n out)) ≡ 0 → ⊥
  twice_accepted d e = go (distinct (function_names m.functions)) d (sym e ∙ h.intake)
    where
      go : (b : Bool) → b ≡ false → 0 ≡ (let v : ℕ = elim b [ true ↦ 0 | false ↦ 5 ] in v) → ⊥
      go true p q = absurd (false≢true (sym p))
      go false p q = omega (arith, q)

-- a step that is refused and writes, or changes the session
module _ (room : ℕ) (s : Session) (x : Said) (h : Stepped room s x) (refused_by : 0 < x.refusal) where
  pub refused_writes : (w : ℕ) (ws : List ℕ) → x.written ≡ w ∷ ws → ⊥
  refused_writes w ws e = let q : ◌≡◌ {A = ℕ} 0 (suc (length ws)) = ap length (sym (h.keeps refused_by).1 ∙ e) in omega (arith, q)

  pub refused_changes : (x.session ≡ s → ⊥) → ⊥
  refused_changes f = f (h.keeps refused_by).0

-- ---- LINK AND SESSION (`same_bytes`): a session, given the steps of linking, that leaves another byte than link, or refuses a step
module _ (image output₀ out : List ℕ) (r n : ℕ) (l : LinkEnsures r output₀ out image) (b : AllBelow 256 image) (h : Halves r 0 n) (answers₀ answers out' : List ℕ) (r' : ℕ) where
  abbrev given : List ℕ
  given = link_steps (same_bytes image output₀ out r n l b h).1 (length image) (length output₀)

  pub another_byte : SessionEnsures image given answers₀ output₀ r' answers out' → (i : ℕ) → (get_or out' i 0 ≡ get_or out i 0 → ⊥) → ⊥
  another_byte s i f = f (ap (λ y. get_or y i 0) ((same_bytes image output₀ out r n l b h).4 answers₀ answers out' r' s).0)

  pub link_step_refused : SessionEnsures image given answers₀ output₀ r' answers out' → 0 < r' → ⊥
  link_step_refused s k = let z = ((same_bytes image output₀ out r n l b h).4 answers₀ answers out' r' s).1 in omega (arith, k, z)

-- ---- REFUSAL 22 (`function_22`, `handle_22`): a function imported though calls through unknown names lead to a ring; and one refused by 22 though none do
module _ (x : Source) (s : Derived) (n : ℕ) where
  abbrev now_set : Session
  now_set = record { source = some x; state = s }

  pub ring_followed : n < length x.image.functions → OneLeads (n ∷ callees (function x.image n)) x.image s → (v : ℕ) (t : Session) → import_function n now_set ≡ answered v t → ⊥
  ring_followed l o v t e = let a : refused 22 ≡ answered v t = sym ((function_22 x s n).1 (l, o)) ∙ e in let z : ◌≡◌ {A = ℕ} 0 1 = cc in omega (arith, z)

  pub no_ring_refused : (OneLeads (n ∷ []) x.image s → ⊥) → map_function_handle n now_set ≡ refused 22 → ⊥
  no_ring_refused f e = f ((handle_22 x s n).0 e).1

  -- a function of known name is on no such ring: its own ring does not count
  pub known_refused : unknown x.image s n ≡ false → map_function_handle n now_set ≡ refused 22 → ⊥
  unfolding among
  known_refused k e = go ((handle_22 x s n).0 e).1
    where
      only_one : {i : ℕ} → In i (n ∷ []) → i ≡ n
      only_one here = refl
      only_one (later p) = absurd (in_nil p)

      first : (c : ℕ → ℕ → Bool) {i j : ℕ} → Call (length x.image.functions) (among (unknown x.image s) c) i j → unknown x.image s i ≡ true
      first c {i} {j} q = and_first (unknown x.image s i) _ q.is

      begins : (c : ℕ → ℕ → Bool) {i j : ℕ} → Chain (length x.image.functions) (among (unknown x.image s) c) i j → unknown x.image s i ≡ true
      begins c (one q) = first c q
      begins c (more q r) = first c q

      leads_on : (i : ℕ) → unknown x.image s i ≡ false → LeadsToRing x.image s i → ⊥
      leads_on i u (on r) = false≢true (sym u ∙ begins (calls x.image) r)
      leads_on i u (leads r g) = false≢true (sym u ∙ begins (calls x.image) r)

      go : OneLeads (n ∷ []) x.image s → ⊥
      go (i, p, l) = leads_on i (subst (λ (j : ℕ). unknown x.image s j ≡ false) (sym (only_one p)) k) l

-- ---- THE LINKED MODULE, as the output's bytes hold it (`HeldMapped`)
module _ (m : Module) (os : List ℕ) (m' : Module) (h : OnBytes.HeldMapped m os m') where
  -- a linker that writes a caller before its callee, or leaves a function that calls itself
  pub caller-before : Call (length m'.functions) (calls m') 0 1 → ⊥
  caller-before c = omega (arith, h.callees-before 0 1 c)

  pub calls-itself : (i : ℕ) → Call (length m'.functions) (calls m') i i → ⊥
  calls-itself i c = omega (arith, h.callees-before i i c)

  -- one whose maps lead past a table, or to a record that is not the source's
  pub mapped_past : (t : Tab) (i k : ℕ) → is_t t names ≡ false → map_at (link_maps os m).in_tables t i ≡ suc k → length (at t (tables m')) ≤ k → ⊥
  unfolding stands
  mapped_past t i k e q l = omega (arith, ltb-true k (length (at t (tables m'))) (and_first (ltb k (length (at t (tables m')))) _ (h.records-agree t i k e q)), l)

  pub mapped_to_another : (t : Tab) (i k : ℕ) → is_t t names ≡ false → map_at (link_maps os m).in_tables t i ≡ suc k
      → agrees_r m m' (link_maps os m) (link_maps os m).in_tables.of_exprs (rec_at (tables m) t i) (get_or (at t (tables m')) k []) ≡ false → ⊥
  unfolding stands
  mapped_to_another t i k e q d = false≢true (sym d ∙ and_second (ltb k (length (at t (tables m')))) _ (h.records-agree t i k e q))

-- ---- WALKS (`CarriedT`): one that carries an event of a number without a mapping, or ends otherwise
module _ (μ : Mapping) (o : List ℕ) where
  pub unmapped-read : (e : ℕ) (t t' : Trace) → get_or o e 0 ≡ 0 → CarriedT μ o (read e ▸ t) t' → ⊥
  unmapped-read e t t' q (carried_on (carried-read p) c) = omega (arith, q, p)

  pub unmapped-call : (f : ℕ) (t t' : Trace) → get_or μ.functions f 0 ≡ 0 → CarriedT μ o (Walk.calls f ▸ t) t' → ⊥
  unmapped-call f t t' q (carried_on (carried-call p) c) = omega (arith, q, p)

  pub ends_otherwise : (t t' : Trace) → (end_of t' ≡ end_of t → ⊥) → CarriedT μ o t t' → ⊥
  ends_otherwise t t' f c = f (carried_is μ o c).1

-- ---- MARKED CASES ON IMAGES: a linker that accepts P9, or refuses P12
module _ (r : ℕ) (out : List ℕ) where
  pub p9_linked : LinkEnsures r (output P9) out (image P9) → (n : ℕ) → r ≡ n * 4294967296 → ⊥
  p9_linked l n e = let a : r ≡ 4294967308 = l.answer ∙ ap (λ p. p.0) marked.p9 in omega (arith, a, e)

  pub p12_refused : LinkEnsures r (output P12) out (image P12) → (k n : ℕ) → 0 < k → k < 4294967296 → r ≡ k + n * 4294967296 → ⊥
  p12_refused l k n a b e = let q = l.answer ∙ ap (λ p. p.0) marked.p12 in omega (arith, q, a, b, e)
