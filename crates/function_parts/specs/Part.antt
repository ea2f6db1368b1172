-- A function of a source that passed intake, where its words are: a function of the table, or the function of an entry point. Its declarations and its body are the cells
-- of the words; the words are read as the code reads them, by the counts and by the places of the expressions (`Indexed`).
use Rattle.std.specs.Prelude.{◌≡◌, true, ℕ, ◌+◌, ◌*◌, ◌≤◌, ◌<◌, get_or, replicate}
use Rattle.std.proofs.Math.Path.{refl}
use Rattle.std.proofs.Common.{sym, ap, ◌∙◌, arith}
use Rattle.std.proofs.Math.Option.{some}
use mathlib.Core.List.{List, [], ◌∷◌, ◌++◌, append_assoc}
use Rattle.std.proofs.Math.ListN.{length, get_elem?, length-append}
use Rattle.std.proofs.lemmas.List.{length-replicate}
use Rattle.std.proofs.Math.Seq.{slice}
use Rattle.std.proofs.lemmas.List.Edits.{sets}
use Rattle.theory_lists.specs.Lists.{looked_at}
use Rattle.model.specs.Outcome.{Cells}
use Rattle.model.specs.Table.{ARGUMENTS, LOCALS, EXPRESSIONS, NAMED}
use Rattle.model.specs.Tree.{Function, Entry, flat, flat_all, flat_list, flat_block}
use Rattle.model.specs.Module.{Module, count_at, flat_module}
use Rattle.model.specs.View.{record_at, record_end}
use Rattle.model.specs.FunctionView.{entry_head_words, locals_at, expressions_at}
use Rattle.model.specs.Between.{between, Long, Stretch}
use Rattle.model.specs.Redirect.{nothing, function as function_at}
use Rattle.model.specs.Scope.{in_scope}
use Rattle.theory_image.specs.Sections.{start_of, start_end}
use Rattle.theory_image.specs.Betweens.{held-between}
use Rattle.theory_image.specs.FunctionViews.{Part as Run, part_end, part_left, part_right, Stands, named_at, body_at, parts, named_count, stands-end, taped_length, taped_functions, taped_entries, taped_function, taped_entry}
use Rattle.intake_initialisers.specs.Lists.{Lists}
use Rattle.intake_initialisers.specs.Marks.{finds, Starting}
use Rattle.intake_initialisers.proofs.Reaching.{starting, many_is, many_few}
use Rattle.theory_bodies.specs.Passing.{Passes}
use Rattle.theory_bodies.specs.Source.{function-passes, entry-passes}
use Rattle.theory_passes.specs.Pass.{front}
use Rattle.derive_state.specs.Flats.{no_entry}
use Rattle.derive_state.specs.Source.{mod_of, Source}

-- F reaches from s to end in a source that passed intake
pub record Part (words tags : List ℕ) (n s end : ℕ) (F : Function) : Type 0 where
  pub source : Source words tags n
  pub stands : Stands words tags (flat_module (mod_of words n)) s end F
  pub pass : Passes (mod_of words n) F

-- ---- what there is
unfoldable pub entry : Module → ℕ → Entry
entry m j = get_or m.entries j no_entry

pub entry_there : {words tags : List ℕ} {n : ℕ} → Source words tags n → (j : ℕ) → j < count_at 7 words → get_elem? (mod_of words n).entries j ≡ some (entry (mod_of words n) j)
unfolding entry
entry_there {words} {n = n} src j h = looked_at (mod_of words n).entries j no_entry (omega (arith, taped_entries src.taped))

module _ {words tags : List ℕ} {n : ℕ} (src : Source words tags n) (six : in_scope (mod_of words n) ≡ true) where
  pub part_of_function : (j : ℕ) (F : Function) → get_elem? (mod_of words n).functions j ≡ some F → Part words tags n (record_at 6 j words) (record_end 6 j words) F
  part_of_function j F e = record {
    source = src;
    stands = taped_function src.taped j F e;
    pass = function-passes (mod_of words n) src.taped.well src.three src.four six j F e;
  }

  pub function-part : (j : ℕ) → j < count_at 6 words → Part words tags n (record_at 6 j words) (record_end 6 j words) (function_at (mod_of words n) j)
  unfolding function_at
  function-part j h = part_of_function j _ (looked_at (mod_of words n).functions j nothing (omega (arith, taped_functions src.taped)))

  pub part_of_entry : (j : ℕ) (E : Entry) → get_elem? (mod_of words n).entries j ≡ some E → Part words tags n (record_at 7 j words + entry_head_words) (record_end 7 j words) E.function
  part_of_entry j E e = record {
    source = src;
    stands = taped_entry src.taped j E e;
    pass = entry-passes (mod_of words n) src.taped.well src.three src.four six j E e;
  }

  pub entry-part : (j : ℕ) → j < count_at 7 words → Part words tags n (record_at 7 j words + entry_head_words) (record_end 7 j words) (entry (mod_of words n) j).function
  entry-part j h = part_of_entry j _ (entry_there src j h)

-- ---- as the code reads the words: the count of expressions is at ea, the places where they start are found in the tags, and the last is followed by the count of named expressions
-- the places
abbrev pub places_of : List ℕ → ℕ → ℕ → List ℕ
places_of tags ea end = sets (replicate 1025 0) 0 (finds (ea + 1) (slice (ea + 1) end tags))

-- what is read so
pub record Indexed (words tags : List ℕ) (s end ea : ℕ) (places : List ℕ) (k named body : ℕ) : Type 0 where
  pub ea_is : ea ≡ expressions_at s words
  pub places_are : places ≡ places_of tags ea end
  pub k_is : k ≡ get_or words ea 0
  pub named_is : named ≡ get_or places k 0
  pub body_is : body ≡ named + 1 + 2 * get_or words named 0

-- what it is, of any words
abbrev pub named_of : List ℕ → List ℕ → ℕ → ℕ → ℕ
named_of words tags s end = get_or (places_of tags (expressions_at s words) end) (get_or words (expressions_at s words) 0) 0

pub indexed : (words tags : List ℕ) (s end : ℕ)
    → Indexed words tags s end (expressions_at s words) (places_of tags (expressions_at s words) end) (get_or words (expressions_at s words) 0) (named_of words tags s end) (named_of words tags s end + 1 + 2 * get_or words (named_of words tags s end) 0)
indexed words tags s end = record { ea_is = refl; places_are = refl; k_is = refl; named_is = refl; body_is = refl }

-- where its parts are
pub record InOrder (s ea named body end : ℕ) : Type 0 where
  pub to_exprs : s ≤ ea
  pub to_named : ea < named
  pub to-body : named < body
  pub to_end : body < end
  pub in_words : end ≤ 16384

-- ---- where they are
module _ {words tags : List ℕ} {n s end : ℕ} {F : Function} (p : Part words tags n s end F) where
  pub long : Long words tags
  long = record { words_long = p.source.taped.words_long; tags_long = p.source.taped.tags_long }

  pub inside : end ≤ n
  inside = omega (arith, p.stands.part.within, taped_length p.source.taped)

  pub small : n ≤ 16384
  small = p.source.taped.small

  -- a part of them
  pub stretch : {a b : ℕ} {cs : Cells} → Run (flat_module (mod_of words n)) a b cs → Stretch words tags a b
  stretch {a} {b} v =
      let h : b ≤ n = omega (arith, v.within, taped_length p.source.taped) in
      record { rising = v.rising; small = omega (arith, small); in_words = omega (arith, small, long.words_long); in_tags = omega (arith, small, long.tags_long) }

  pub lists : Lists words tags (locals_at s words) (expressions_at s words) end F
  lists = record { start = s; long = long; cells = flat_module (mod_of words n); small = omega (arith, taped_length p.source.taped, small); own = p.stands; locals_at_lem = refl; exprs_at = refl }

  -- the declarations
  split : flat F ≡ front F ++ flat_list EXPRESSIONS F.exprs ++ flat_list NAMED F.named ++ flat_block F.body
  unfolding flat front
  split = refl

  front-end : s + length (front F) ≡ expressions_at s words
  unfolding front
  front-end =
      let v = parts p.stands in
      let a = F.head in
      let b = flat_list ARGUMENTS F.arguments in
      let c = flat_list LOCALS F.locals in
      omega (arith, length-append (a ++ b ++ F.result) c, length-append (a ++ b) F.result, length-append a b, part_end v.head_part, part_end v.arguments_part, part_end v.result_part, part_end v.locals_part)

  pub front-run : Run (flat_module (mod_of words n)) s (expressions_at s words) (front F)
  front-run =
      let a = front F in
      let b = flat_list EXPRESSIONS F.exprs in
      let c = flat_list NAMED F.named in
      rw front-end at (part_left a b (part_left (a ++ b) c (part_left (a ++ b ++ c) (flat_block F.body) (rw split at p.stands.part))))

  -- after the count of expressions
  pub tail : Run (flat_module (mod_of words n)) (expressions_at s words + 1) end (flat_all F.exprs ++ (flat_list NAMED F.named ++ flat_block F.body))
  unfolding flat_list
  tail =
      let a = front F in
      let b = flat_list EXPRESSIONS F.exprs in
      let c = flat_list NAMED F.named in
      let q : flat F ≡ a ++ (b ++ (c ++ flat_block F.body)) = split ∙ append_assoc (a ++ b) c (flat_block F.body) ∙ append_assoc a b (c ++ flat_block F.body) in
      part_right ((EXPRESSIONS, length F.exprs) ∷ []) (flat_all F.exprs ++ (c ++ flat_block F.body)) (rw front-end at (part_right a (b ++ (c ++ flat_block F.body)) (rw q at p.stands.part)))

-- ---- the parts of F, by what the code read
module _ {words tags : List ℕ} {n s end : ℕ} {F : Function} (p : Part words tags n s end F) {ea : ℕ} {places : List ℕ} {k named body : ℕ} (x : Indexed words tags s end ea places k named body) where
  -- how many expressions there are, and where they start
  k-word : k ≡ get_or words (expressions_at s words) 0
  k-word = x.k_is ∙ ap (λ i. get_or words i 0) x.ea_is

  pub k_many : k ≡ length F.exprs
  k_many = many_is (lists p) k k-word

  pub k_few : k ≤ 1024
  k_few = many_few (lists p) k k-word

  pub starts : Starting F k (ea + 1) places
  starts = rw x.ea_is (starting (lists p) k k-word (replicate 1025 0) places (length-replicate {A = ℕ} 1025 0) (x.places_are ∙ ap (λ i. places_of tags i end) x.ea_is))

  -- the count of named expressions, and the body
  pub named_here : named ≡ named_at s words F
  named_here = x.named_is ∙ starts.each k (omega arith) ∙ ap (start_of (ea + 1) F.exprs) k_many ∙ start_end F.exprs (ea + 1) ∙ ap (λ i. i + 1 + length (flat_all F.exprs)) x.ea_is

  pub named_many : get_or words named 0 ≡ length F.named
  named_many = ap (λ i. get_or words i 0) named_here ∙ named_count p.stands

  pub body-here : body ≡ body_at s words F
  body-here = x.body_is ∙ ap (λ c. named + 1 + 2 * c) named_many ∙ ap (λ i. i + 1 + 2 * length F.named) named_here

  -- LAWS: the cells of the words
  pub front_is : front F ≡ between tags words s ea
  front_is = rw x.ea_is (sym (held-between p.stands.held (front-run p)))

  pub body_run : Run (flat_module (mod_of words n)) body end (flat_block F.body)
  body_run = rw body-here (parts p.stands).body-part

  pub body_is : flat_block F.body ≡ between tags words body end
  body_is = sym (held-between p.stands.held body_run)

  pub front_stretch : Stretch words tags s ea
  front_stretch = rw x.ea_is (stretch p (front-run p))

  pub body_stretch : Stretch words tags body end
  body_stretch = stretch p body_run

  -- in the order of the words
  pub order : InOrder s ea named body end
  order = record {
    to_exprs = front_stretch.rising;
    to_named = omega (arith, named_here, x.ea_is);
    to-body = omega (arith, x.body_is);
    to_end = omega (arith, body-here, stands-end p.stands);
    in_words = body_stretch.small;
  }
