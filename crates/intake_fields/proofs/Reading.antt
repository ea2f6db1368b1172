-- What is read are the words: the flat list's words and the rest are the words that were there.
use mathlib.Core.Path.{◌≡◌, refl, sym, ap, ◌∙◌}
use mathlib.Core.Bool.{Bool, true, false}
use mathlib.Core.Option.{Option, none, some}
use mathlib.Core.List.{List, [], ◌∷◌, ◌++◌, map, append_assoc}
use Prim.Native.Nat.{ℕ, zero, suc}
use lib.Dec.{eqb, ltb}
use lib.ListN.{length, get_elem?}
use Rattle.model.specs.Outcome.{Cells, word, Outcome, fits, misfit, unknown, eat, map_o}
use Rattle.model.specs.Table.{Row, VALUE, BLOCK, CASES, LENGTH, STMT_KIND, More, brings, over, nothing, more, follow, run}
use Rattle.intake_fields.specs.Parts.{Reader, join, times, list_of, case_of, part, parts, statement_rows, chosen, kinded, check, statement_of, block_of, read_b, piece, pieces}
use Rattle.intake_fields.proofs.Flat.{block_none, block_some}

pub data Reads (ws : List ℕ) : Outcome Cells → Type 0 where
  reads : {cs : Cells} {rest : List ℕ} → ws ≡ map word cs ++ rest → Reads ws (fits cs rest)
  no_fit : Reads ws misfit
  no_code : Reads ws unknown

abbrev pub Reading : Reader → Type 0
Reading p = (ws : List ℕ) → Reads ws (p ws)

words_append : (cs ds : Cells) → map word (cs ++ ds) ≡ map word cs ++ map word ds
words_append [] ds = refl
words_append (c ∷ cs) ds = ap (word c ∷◌) (words_append cs ds)

pub reads_none : Reading (λ ws. fits [] ws)
reads_none ws = reads refl

pub reads-after : {ws vs : List ℕ} (cs : Cells) {o : Outcome Cells} → vs ≡ map word cs ++ ws → Reads ws o → Reads vs (map_o (cs ++◌) o)
unfolding map_o
reads-after cs e (reads {cs = ds} {rest} f) = reads (e ∙ ap (map word cs ++◌) f ∙ sym (append_assoc (map word cs) (map word ds) rest) ∙ ap (◌++ rest) (sym (words_append cs ds)))
reads-after cs e no_fit = no_fit
reads-after cs e no_code = no_code

pub reads-join : {ws : List ℕ} {o : Outcome Cells} {p : Reader} → Reads ws o → Reading p → Reads ws (join o p)
unfolding join
reads-join (reads {cs} {rest} e) h = reads-after cs e (h rest)
reads-join no_fit h = no_fit
reads-join no_code h = no_code

pub reads_word : {ws : List ℕ} (s w : ℕ) {o : Outcome Cells} → Reads ws o → Reads (w ∷ ws) (map_o ((s, w) ∷◌) o)
unfolding map_o
reads_word s w (reads e) = reads (ap (w ∷◌) e)
reads_word s w no_fit = no_fit
reads_word s w no_code = no_code

pub reads-run : (ws ss : List ℕ) → Reads ws (run ws ss)
unfolding run follow map_o
reads-run [] [] = reads refl
reads-run [] (s ∷ ss) = no_fit
reads-run (w ∷ ws) [] = reads refl
reads-run (w ∷ ws) (s ∷ ss) = go (more s w) (λ ss. reads-run ws ss)
  where
    go : (o : More) → ((ss : List ℕ) → Reads ws (run ws ss)) → Reads (w ∷ ws) (map_o ((s, w) ∷◌) (follow o ss (run ws)))
    go (brings xs) ih = reads_word s w (ih (xs ++ ss))
    go over ih = no_fit
    go nothing ih = no_code

pub reads_times : (n : ℕ) {p : Reader} → Reading p → Reading (times n p)
unfolding times
reads_times zero h ws = reads refl
reads_times (suc n) h ws = reads-join (h ws) (reads_times n h)

pub reads_list : (s : ℕ) {p : Reader} → Reading p → Reading (list_of s p)
unfolding list_of eat
reads_list s h [] = no_fit
reads_list s h (n ∷ ws) = reads_word s n (reads_times n h ws)

module _ {B : Reader} (b : Reading B) where
  reads_case : Reading (case_of B)
  unfolding case_of
  reads_case ws = reads-join (reads-run ws (VALUE ∷ [])) λ ws. reads-join (b ws) λ ws. reads-join (reads-run ws (2 ∷ [])) reads_none

  pub reads-part : (s : ℕ) → Reading (part B s)
  unfolding part
  reads-part s ws = go (ltb s BLOCK) (eqb s BLOCK)
    where
      go : (x y : Bool) → Reads ws (elim x [ true ↦ run ws (s ∷ []) | false ↦ elim y [ true ↦ B ws | false ↦ list_of CASES (case_of B) ws ] ])
      go true y = reads-run ws (s ∷ [])
      go false true = b ws
      go false false = reads_list CASES reads_case ws

  pub reads-parts : (ss : List ℕ) → Reading (parts B ss)
  unfolding parts
  reads-parts [] ws = reads refl
  reads-parts (s ∷ ss) ws = reads-join (reads-part s ws) (reads-parts ss)

  reads-check : (n : ℕ) {ws : List ℕ} {o : Outcome Cells} → Reads ws o → Reads (n ∷ ws) (check n o)
  unfolding check
  reads-check n {ws} (reads {cs} {rest} e) = go (eqb n (suc (length cs)))
    where
      go : (x : Bool) → Reads (n ∷ ws) (elim x [ true ↦ fits ((LENGTH, n) ∷ cs) rest | false ↦ misfit ])
      go true = reads (ap (n ∷◌) e)
      go false = no_fit
  reads-check n no_fit = no_fit
  reads-check n no_code = no_code

  pub reads-kinded : Reading (kinded B)
  unfolding kinded eat chosen
  reads-kinded [] = no_fit
  reads-kinded (k ∷ ws) = go (get_elem? statement_rows k)
    where
      go : (o : Option (List ℕ)) → Reads (k ∷ ws) (chosen o λ ss. map_o ((STMT_KIND, k) ∷◌) (parts B ss ws))
      go none = no_code
      go (some ss) = reads_word STMT_KIND k (reads-parts ss ws)

  pub reads-statement : Reading (statement_of B)
  unfolding statement_of eat
  reads-statement [] = no_fit
  reads-statement (n ∷ ws) = reads-check n (reads-kinded ws)

block_of_lem : {B : Reader} → Reading B → Reading (block_of B)
unfolding block_of
block_of_lem b = reads_list BLOCK (reads-statement b)

pub reads_block : (d : ℕ) → Reading (read_b d)
reads_block zero ws = rw block_none no_fit
reads_block (suc d) ws = rw block_some (block_of_lem (reads_block d) ws)

pub reads-piece : (d s : ℕ) → Reading (piece d s)
unfolding piece
reads-piece d s ws = go (eqb s LENGTH) (eqb s STMT_KIND)
  where
    go : (x y : Bool) → Reads ws (elim x [ true ↦ statement_of (read_b d) ws | false ↦ elim y [ true ↦ kinded (read_b d) ws | false ↦ part (read_b d) s ws ] ])
    go true y = reads-statement (reads_block d) ws
    go false true = reads-kinded (reads_block d) ws
    go false false = reads-part (reads_block d) s ws

pub reads-pieces : (d : ℕ) (ss : Row) → Reading (pieces d ss)
unfolding pieces
reads-pieces d [] ws = reads refl
reads-pieces d (s ∷ ss) ws = reads-join (reads-piece d s ws) (reads-pieces d ss)
