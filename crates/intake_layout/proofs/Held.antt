-- What laying out leaves where an image fits: words and tags that hold a module, with which every later pass begins.
use mathlib.Core.Path.{◌≡◌, refl, sym, ap, ◌∙◌}
use mathlib.Core.Bool.{Bool, true, false, ◌&&◌}
use mathlib.Core.List.{List, map}
use Prim.Native.Nat.{ℕ, ◌*◌, ◌≤◌}
use native.Mathlib.Omega.{arith}
use lib.Dec.{eqb, leb}
use lib.ListN.{length, get_or, take, drop, length-map}
use lib.Seq.{sets, length-sets, take_at}
use borrow.Author.Tests.{eqb-true, leb-true}
use Rattle.theory_lists.specs.Booleans.{and_first, and_second}
use Rattle.base_words.specs.Words.{words_of}
use Rattle.base_words.proofs.Laws.{length_words_of, sets-front}
use Rattle.model.specs.Outcome.{class, Laid, laid, bad, strange}
use Rattle.model.specs.Module.{Module, read, write, flat_module, sized}
use Rattle.model.specs.Taped.{Taped}
use Rattle.theory_image.specs.Modules.{read-write, read_well}
use Rattle.theory_image.specs.Views.{length-write}
use Rattle.intake_layout.specs.Layout.{Answer, fits, refused, size, shows, held, layout_of, LayOutEnsures}
use Rattle.std.specs.Prelude.{Ok, Err}
use Rattle.model.specs.Intake.{intake_of, verdict}
use Rattle.base_refusals.specs.Numbers.{number_of}
use Rattle.base_refusals.specs.declared.Refusal.{Refusal}
use Rattle.base_refusals.specs.declared.Refusal.TheVariants.{BadSize, BadLayout, BadRange}

-- the image is sized, and its words hold a module
pub record HoldsImage (bytes words tags : List ℕ) (n : ℕ) : Type 0 where
  pub module_of_lem : Module
  pub sized_right : sized (length bytes) (words_of bytes) ≡ true
  pub reads : read (words_of bytes) ≡ laid module_of_lem
  pub long : n ≡ length (words_of bytes)
  pub taped : Taped words tags n module_of_lem

module _ (bytes words tags words₁ tags₁ : List ℕ) (n : ℕ) (words_long : length words ≡ 16384) (tags_long : length tags ≡ 16384) where
  module _ (s : sized (length bytes) (words_of bytes) ≡ true) (m : Module) (r : read (words_of bytes) ≡ laid m) (a : n ≡ length (words_of bytes)) (b : words₁ ≡ sets words 0 (words_of bytes)) (c : tags₁ ≡ sets tags 0 (map class (flat_module m))) where
    ws : List ℕ
    ws = words_of bytes

    s₂ : (leb (length bytes) 65536 && (eqb (get_or ws 0 0) 1 && eqb (length bytes) (4 * get_or ws 1 0))) ≡ true
    unfolding sized ws
    s₂ = and_second (leb 80 (length bytes)) _ s

    s₃ : (eqb (get_or ws 0 0) 1 && eqb (length bytes) (4 * get_or ws 1 0)) ≡ true
    s₃ = and_second (leb (length bytes) 65536) _ s₂

    few : length bytes ≤ 65536
    few = leb-true (length bytes) 65536 (and_first (leb (length bytes) 65536) _ s₂)

    edition : get_or (words_of bytes) 0 0 ≡ 1
    unfolding ws
    edition = eqb-true (get_or ws 0 0) 1 (and_first (eqb (get_or ws 0 0) 1) _ s₃)

    whole : length bytes ≡ 4 * get_or (words_of bytes) 1 0
    unfolding ws
    whole = eqb-true (length bytes) (4 * get_or ws 1 0) (and_second (eqb (get_or ws 0 0) 1) _ s₃)

    total : get_or (words_of bytes) 1 0 ≡ length (words_of bytes)
    total = omega (arith, whole, length_words_of bytes)

    written : words_of bytes ≡ write m
    written = read-write (words_of bytes) m r edition total

    small : n ≤ 16384
    small = omega (arith, a, length_words_of bytes, few)

    cells_long : length (map class (flat_module m)) ≡ n
    cells_long = length-map (flat_module m) class ∙ sym (length-write m) ∙ sym (ap length written) ∙ sym a

    pub held_is : Taped words₁ tags₁ n m
    held_is = record {
      small = small;
      words_long = ap length b ∙ length-sets words 0 (words_of bytes) ∙ words_long;
      tags_long = ap length c ∙ length-sets tags 0 (map class (flat_module m)) ∙ tags_long;
      words_are = ap (take n) (b ∙ sets-front (words_of bytes) words (omega (arith, small, a, words_long))) ∙ take_at (words_of bytes) (drop (length (words_of bytes)) words) n (sym a) ∙ written;
      tags_are = ap (take n) (c ∙ sets-front (map class (flat_module m)) tags (omega (arith, small, cells_long, tags_long))) ∙ take_at (map class (flat_module m)) (drop (length (map class (flat_module m))) tags) n cells_long;
      well = read_well (words_of bytes) m r;
    }

  inside-laid : sized (length bytes) (words_of bytes) ≡ true → (m : Module) → read (words_of bytes) ≡ laid m → fits n words₁ tags₁ ≡ held (words_of bytes) words tags (laid m) → HoldsImage bytes words₁ tags₁ n
  unfolding held
  inside-laid s m r g = record { module_of_lem = m; sized_right = s; reads = r; long = cc; taped = held_is s m r (cc) (cc) (cc) }

  inside_bad : fits n words₁ tags₁ ≡ held (words_of bytes) words tags bad → HoldsImage bytes words₁ tags₁ n
  unfolding held
  inside_bad g = cc

  inside_strange : fits n words₁ tags₁ ≡ held (words_of bytes) words tags strange → HoldsImage bytes words₁ tags₁ n
  unfolding held
  inside_strange g = cc

  -- an image that fits is held by words and tags
  pub holds : LayOutEnsures (Ok n) words₁ tags₁ bytes words tags → HoldsImage bytes words₁ tags₁ n
  unfolding shows layout_of
  holds l = go (sized (length bytes) (words_of bytes)) refl l.same
    where
      inside : sized (length bytes) (words_of bytes) ≡ true → (x : Laid Module) → read (words_of bytes) ≡ x → fits n words₁ tags₁ ≡ held (words_of bytes) words tags x → HoldsImage bytes words₁ tags₁ n
      inside s (laid m) r g = inside-laid s m r g
      inside s bad r g = inside_bad g
      inside s strange r g = inside_strange g

      go : (b : Bool) → sized (length bytes) (words_of bytes) ≡ b → ◌≡◌ {A = Answer} (fits n words₁ tags₁) (elim b [ true ↦ held (words_of bytes) words tags (read (words_of bytes)) | false ↦ size ]) → HoldsImage bytes words₁ tags₁ n
      go true s g = inside s (read (words_of bytes)) refl g
      go false s g = cc

  -- the refusal of an image that does not fit is intake's
  pub refused_by : (e : Refusal) → LayOutEnsures (Err e) words₁ tags₁ bytes words tags → number_of e ≡ intake_of (length bytes) (words_of bytes)
  unfolding shows layout_of held intake_of verdict
  refused_by e l = go (sized (length bytes) (words_of bytes)) refl l.same
    where
      inside : (x : Laid Module) → ◌≡◌ {A = Answer} (refused e) (held (words_of bytes) words tags x) → number_of e ≡ verdict x
      inside (laid m) g = cc
      inside bad g = let k : e ≡ BadLayout = cc in ap number_of k
      inside strange g = let k : e ≡ BadRange = cc in ap number_of k

      go : (b : Bool) → sized (length bytes) (words_of bytes) ≡ b → ◌≡◌ {A = Answer} (refused e) (elim b [ true ↦ held (words_of bytes) words tags (read (words_of bytes)) | false ↦ size ]) → number_of e ≡ intake_of (length bytes) (words_of bytes)
      go true s g = rw (intake_of, s) (inside (read (words_of bytes)) g)
      go false s g = let k : e ≡ BadSize = cc in rw (intake_of, s) (ap number_of k)
