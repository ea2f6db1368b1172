-- From bytes to words and tags: the public operation, case by case.
use mathlib.Core.Path.{◌≡◌, refl, sym, ap, ◌∙◌}
use mathlib.Core.Bool.{Bool, true, false}
use mathlib.Core.List.{List, ◌++◌, map}
use borrow.Rule.Slice.PartMut.{post_of}
use Rattle.intake_fields.proofs.Walk.{part_filled}
use Prim.Native.Nat.{ℕ, ◌*◌, ◌/◌, ◌≤◌, ◌<◌}
use native.Mathlib.Omega.{arith}
use lib.ListN.{length, get_or, take, drop, replicate}
use lib.Seq.{sets, length-sets, take_at, length-take-le}
use borrow.Author.Tests.{eq-eqb, ne_eqb, le-leb, lt-leb}
use Rattle.theory_lists.specs.Stores.{sets-append}
use Rattle.base_words.specs.Words.{words_of, word_at}
use Rattle.base_words.proofs.Laws.{length_words_of, word_is, sets-front}
use Rattle.model.specs.Outcome.{class, Laid, laid, bad, strange, map_l}
use Rattle.model.specs.Table.{PLACE}
use Rattle.model.specs.Module.{Module, limits, placed, read, flat_module, sized}
use Rattle.intake_fields.specs.Parts.{table_rows}
use Rattle.std.specs.Prelude.{Ok, Err}
use Rattle.base_refusals.specs.declared.Refusal.TheVariants.{BadSize, BadLayout}
use Rattle.intake_fields.specs.Walks.{refusal_of}
use Rattle.intake_layout.specs.Extents.{Held, done, stopped, shown, ending, Covers, sections_from}
use Rattle.intake_layout.specs.Layout.{Layout, fits, shows, held, layout_of, LayOutEnsures, layed, laying, Laying}
use Rattle.intake_fields.specs.declared.Misread.{Misread}
use Rattle.intake_fields.specs.declared.Misread.TheVariants.{Misfit, Strange}
use Rattle.intake_layout.proofs.Whole.{body_classes, read-sections, read_misplaced, module_classes}

-- ---- the header's classes
pub header_filled : (tags part : List ℕ) → length tags ≡ 16384 → part ≡ replicate (length (take 20 tags)) 104 → part ++ post_of 0 20 tags ≡ sets tags 0 (replicate 20 PLACE)
header_filled tags part long is = part_filled tags part 0 20 20 104 refl (omega arith) is

-- ---- words that are there
module _ (words tags tags₁ : List ℕ) (total : ℕ) (large : 20 ≤ total) (enough : total ≤ length words) (headed : tags₁ ≡ sets tags 0 (replicate 20 PLACE)) (b : Bool) (is : b ≡ placed limits 0 20 (take total words)) where
  pub lay_misplaced : b ≡ false → Laying (Err BadLayout) tags₁ tags (take total words)
  unfolding layed shows laying
  lay_misplaced e = record { same = sym (ap (laying (take total words) tags) (read_misplaced (take total words) (sym is ∙ e))) }

  pub lay_placed : b ≡ true → placed limits 0 20 (take total words) ≡ true
  lay_placed e = sym is ∙ e

  answer : Held → Layout
  answer (Ok u) = Ok total
  answer (Err e) = Err (refusal_of e)

  module _ (yes-placed : b ≡ true) (r : Held) (tags₂ : List ℕ) (got : Covers r tags₂ tags₁ 20 (sections_from table_rows 0 (take total words))) where
    all : shown r tags₂ ≡ ending (sets tags 0 (replicate 20 PLACE)) 20 (map_l (body_classes (take total words)) (read (take total words)))
    all = got.same ∙ ap (λ l. ending l 20 (sections_from table_rows 0 (take total words))) headed ∙ ap (ending (sets tags 0 (replicate 20 PLACE)) 20) (sym (read-sections (take total words) (sym is ∙ yes-placed)))

    joined : (m : Module) → sets (sets tags 0 (replicate 20 PLACE)) 20 (body_classes (take total words) m) ≡ sets tags 0 (map class (flat_module m))
    joined m = sym (ap (sets tags 0) (module_classes m) ∙ sets-append (replicate 20 PLACE) tags 0 (body_classes (take total words) m))

    long : length (take total words) ≡ total
    long = length-take-le total words enough

    shape : (x : Laid Module) (r : Held) → shown r tags₂ ≡ ending (sets tags 0 (replicate 20 PLACE)) 20 (map_l (body_classes (take total words)) x) → layed (answer r) tags₂ ≡ laying (take total words) tags x
    unfolding layed shows laying shown stopped ending map_l answer
    shape (laid m) (Ok u) g =
        let t : tags₂ ≡ sets tags 0 (map class (flat_module m)) = same_tags (joined m) g in
        ap (λ k. fits k tags₂ tags₂) (sym long) ∙ ap (λ l. fits (length (take total words)) l l) t
      where
        same_tags : {l : List ℕ} → sets (sets tags 0 (replicate 20 PLACE)) 20 (body_classes (take total words) m) ≡ l → done tags₂ ≡ done (sets (sets tags 0 (replicate 20 PLACE)) 20 (body_classes (take total words) m)) → tags₂ ≡ l
        same_tags e g = cc
    shape (laid m) (Err Misfit) g = cc
    shape (laid m) (Err Strange) g = cc
    shape bad (Ok u) g = cc
    shape bad (Err Misfit) g = refl
    shape bad (Err Strange) g = cc
    shape strange (Ok u) g = cc
    shape strange (Err Misfit) g = cc
    shape strange (Err Strange) g = refl

    pub lay_fits : r ≡ Ok tt → Laying (Ok total) tags₂ tags (take total words)
    unfolding answer
    lay_fits e = record { same = shape (read (take total words)) (Ok tt) (rw e at all) }

    pub lay_err : (e : Misread) → r ≡ Err e → Laying (Err (refusal_of e)) tags₂ tags (take total words)
    unfolding answer
    lay_err e h = record { same = shape (read (take total words)) (Err e) (rw h at all) }

-- ---- sizes
module _ (bytes words tags words₁ tags₁ : List ℕ) where
  size_is : sized (length bytes) (words_of bytes) ≡ false → LayOutEnsures (Err BadSize) words₁ tags₁ bytes words tags
  unfolding shows layout_of
  size_is e = record { same = rw (layout_of, e) }

  pub size_short : length bytes < 80 → LayOutEnsures (Err BadSize) words₁ tags₁ bytes words tags
  unfolding sized
  size_short h = size_is (rw (sized, lt-leb 80 (length bytes) h))

  pub size_long : 80 ≤ length bytes → 65536 < length bytes → LayOutEnsures (Err BadSize) words₁ tags₁ bytes words tags
  unfolding sized
  size_long h k = size_is (rw (sized, le-leb 80 (length bytes) h, lt-leb (length bytes) 65536 k))

  module _ (h : 80 ≤ length bytes) (k : length bytes ≤ 65536) where
    edition : get_or (words_of bytes) 0 0 ≡ word_at bytes 0
    edition = word_is bytes 0 (omega arith)

    total : get_or (words_of bytes) 1 0 ≡ word_at bytes 4
    total = word_is bytes 1 (omega arith)

    module _ (w : ℕ) (is : w ≡ word_at bytes 0) (v : ℕ) (is-v : v ≡ word_at bytes 4) where
      pub size_edition : (w ≡ 1 → ⊥) → LayOutEnsures (Err BadSize) words₁ tags₁ bytes words tags
      unfolding sized
      size_edition n = size_is (rw (sized, le-leb 80 (length bytes) h, le-leb (length bytes) 65536 k, ne_eqb (get_or (words_of bytes) 0 0) 1 (λ q. n (is ∙ sym edition ∙ q))))

      pub size_total : w ≡ 1 → (4 * v ≡ length bytes → ⊥) → LayOutEnsures (Err BadSize) words₁ tags₁ bytes words tags
      unfolding sized
      size_total one n = size_is (rw (sized, le-leb 80 (length bytes) h, le-leb (length bytes) 65536 k, eq-eqb (get_or (words_of bytes) 0 0) 1 (edition ∙ sym is ∙ one), ne_eqb (length bytes) (4 * get_or (words_of bytes) 1 0) (λ q. n (ap (4 *◌) (is-v ∙ sym total) ∙ sym q))))

      module _ (one : w ≡ 1) (whole : 4 * v ≡ length bytes) where
        right : sized (length bytes) (words_of bytes) ≡ true
        unfolding sized
        right = rw (sized, le-leb 80 (length bytes) h, le-leb (length bytes) 65536 k, eq-eqb (get_or (words_of bytes) 0 0) 1 (edition ∙ sym is ∙ one), eq-eqb (length bytes) (4 * get_or (words_of bytes) 1 0) (sym whole ∙ ap (4 *◌) (is-v ∙ sym total)))

        module _ (room : length words ≡ 16384) (loaded : words₁ ≡ sets words 0 (words_of bytes)) where
          n : ℕ
          n = length bytes / 4

          front : take (length bytes / 4) words₁ ≡ words_of bytes
          front =
              let l = length_words_of bytes in
              ap (take (length bytes / 4)) (loaded ∙ sets-front (words_of bytes) words (omega (arith, l, room))) ∙ take_at (words_of bytes) (drop (length (words_of bytes)) words) (length bytes / 4) l

          pub loaded_large : 20 ≤ length bytes / 4
          loaded_large = omega arith

          pub loaded_enough : length bytes / 4 ≤ length words₁
          loaded_enough = omega (arith, ap length loaded ∙ length-sets words 0 (words_of bytes), room)

          relabel : (x : Laid Module) (r : Layout) → shows r tags₁ tags₁ ≡ laying (words_of bytes) tags x → shows r words₁ tags₁ ≡ held (words_of bytes) words tags x
          unfolding shows laying held
          relabel (laid m) (Ok k) g =
              let a : k ≡ length (words_of bytes) = cc in
              let b : tags₁ ≡ sets tags 0 (map class (flat_module m)) = cc in
              ap (λ j. fits j words₁ tags₁) a ∙ ap (λ l. fits (length (words_of bytes)) l tags₁) loaded ∙ ap (fits (length (words_of bytes)) (sets words 0 (words_of bytes))) b
          relabel (laid m) (Err e) g = cc
          relabel bad (Ok k) g = cc
          relabel bad (Err e) g = g
          relabel strange (Ok k) g = cc
          relabel strange (Err e) g = g

          pub laid_out : (r : Layout) → Laying r tags₁ tags (take (length bytes / 4) words₁) → LayOutEnsures r words₁ tags₁ bytes words tags
          unfolding layed layout_of
          laid_out r got = record { same = relabel (read (words_of bytes)) r (rw front at got.same) ∙ sym (rw (layout_of, right)) }
