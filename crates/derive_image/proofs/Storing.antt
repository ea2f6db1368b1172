-- Finish in bytes: limits, room, and the words' bytes.
use mathlib.Core.Path.{◌≡◌, refl, sym, ap, ◌∙◌}
use mathlib.Core.List.{List, [], ◌∷◌, ◌++◌}
use Prim.Native.Nat.{ℕ, zero, suc, ◌+◌, ◌*◌, ◌≤◌, ◌<◌}
use native.Mathlib.Omega.{arith}
use lib.ListN.{length, get_or, take, drop, length-append}
use lib.Seq.{sets, sets-eq, length-sets, length-take-le, take-append_seam}
use Rattle.model.specs.Outcome.{Cells}
use Rattle.base_words.specs.Words.{bytes_of}
use Rattle.derive_state.proofs.State.{recs_long}
use Rattle.derive_sections.specs.Flat.{firsts_t, heads, tables, total, image_words, new_name, ordered, finished_words}
use Rattle.derive_state.specs.Held.{recs_at}
use Rattle.derive_sections.specs.Rows.{tabs_of}
use Rattle.std.specs.Prelude.{Result, Ok, Err}
use Rattle.derive_state.specs.declared.Full.{Full as TooLarge}
use Rattle.base_refusals.specs.declared.Refusal.TheVariants.{Full, ShortOutput}
use Rattle.derive_image.specs.Held.{ValidTables, Finishes, Fits, Stored, long, functions, entries, large, short, done}
use Rattle.derive_image.proofs.Whole.{length-tables, length-heads, length_tabs}
use Rattle.derive_image.proofs.Finishing.{finished-image, length-ordered}

pub tabs_at : (log logtags : List ℕ) (starts : List (List ℕ)) (counts : List ℕ) (t : ℕ) → t < length starts → t < length counts → get_or (tabs_of log logtags starts counts) t [] ≡ recs_at log logtags (take (get_or counts t 0) (get_or starts t []))
unfolding tabs_of
tabs_at log logtags [] counts t h g = absurd (omega arith)
tabs_at log logtags (ss ∷ sss) [] t h g = absurd (omega arith)
tabs_at log logtags (ss ∷ sss) (c ∷ cs) zero h g = refl
tabs_at log logtags (ss ∷ sss) (c ∷ cs) (suc t) h g = tabs_at log logtags sss cs t (omega arith) (omega arith)

pub length-finished : (rss : List (List Cells)) (pairs : ℕ) (sp : List ℕ) → length rss ≡ 8 → length (finished_words rss pairs sp) ≡ total (ordered rss) sp
unfolding image_words total
length-finished rss pairs sp e =
    let f = new_name (firsts_t (drop 1 rss) []) in
    let a = ap length (finished-image rss pairs sp (omega arith)) in
    let b = length-append (heads (ordered rss) 20 pairs) (tables f (ordered rss) ++ sp) in
    let c = length-append (tables f (ordered rss)) sp in
    let g = length-heads (ordered rss) 20 pairs in
    let h = length-tables f (ordered rss) in
    let i = length-ordered rss in
    a ∙ omega arith

front : (l vs : List ℕ) (k : ℕ) → k ≡ length vs → k ≤ length l → take k (sets l 0 vs) ≡ vs
front l vs k e h = rw e (ap (take (length vs)) (sets-eq vs l 0 (omega arith)) ∙ take-append_seam vs (drop (0 + length vs) l))

module _ (log logtags : List ℕ) (starts : List (List ℕ)) (counts : List ℕ) (d : ValidTables log logtags starts counts) (pairs : ℕ) (sp bytes₀ : List ℕ) where
  abbrev Tabs : List (List Cells)
  Tabs = tabs_of log logtags starts counts

  count_of : (t : ℕ) → t < 8 → length (get_or Tabs t []) ≡ get_or counts t 0
  count_of t h =
      let r = d.rows.rows t h in
      let a = r.row_long in
      let b = r.few in
      ap length (tabs_at log logtags starts counts t (let z = d.rows.eight in omega arith) (let z = d.rows.eight' in omega arith)) ∙ recs_long log logtags (take (get_or counts t 0) (get_or starts t [])) ∙ length-take-le (get_or counts t 0) (get_or starts t []) (omega arith)

  pub many_functions : 256 < get_or counts 6 0 → Stored Tabs pairs sp bytes₀ (Err Full) bytes₀
  many_functions h = large (functions (let z = count_of 6 (omega arith) in omega arith))

  pub many_entries : 16 < get_or counts 7 0 → Stored Tabs pairs sp bytes₀ (Err Full) bytes₀
  many_entries h = large (entries (let z = count_of 7 (omega arith) in omega arith))

  module _ (out₀ : List ℕ) (r : Result ℕ TooLarge) (out : List ℕ) (w : Finishes Tabs pairs sp out₀ r out) where
    pub too_long : (e : TooLarge) → r ≡ Err e → Stored Tabs pairs sp bytes₀ (Err Full) bytes₀
    too_long e q = large (long (w.over e q).0)

    module _ (few : get_or counts 6 0 ≤ 256) (few' : get_or counts 7 0 ≤ 16) (k : ℕ) (some : r ≡ Ok k) where
      fits_all : Fits Tabs sp
      fits_all = let y = w.size k some in record { short = (let z = w.fits k some in omega arith); names = w.names k some; functions = (let z = count_of 6 (omega arith) in omega arith); entries = (let z = count_of 7 (omega arith) in omega arith) }

      pub no_room : length bytes₀ < 4 * k → Stored Tabs pairs sp bytes₀ (Err ShortOutput) bytes₀
      no_room h = short fits_all (let y = w.size k some in omega arith)

      pub stored : length out₀ ≡ 16384 → 4 * k ≤ length bytes₀ → (bytes : List ℕ) → bytes ≡ sets bytes₀ 0 (bytes_of (take k out)) → Stored Tabs pairs sp bytes₀ (Ok (4 * k)) bytes
      stored z h bytes e =
          let y = w.size k some in
          let eight : length Tabs ≡ 8 = length_tabs log logtags starts counts (d.rows.eight ∙ sym d.rows.eight') ∙ d.rows.eight in
          let t : take k out ≡ finished_words Tabs pairs sp = ap (take k) (w.is k some) ∙ front out₀ (finished_words Tabs pairs sp) k (y ∙ sym (length-finished Tabs pairs sp eight)) (let x = w.fits k some in omega arith) in
          rw (e, t, y) (done fits_all (let x = y in omega arith))

      pub out_long : length out₀ ≡ 16384 → length out ≡ 16384
      out_long z = ap length (w.is k some) ∙ length-sets out₀ 0 (finished_words Tabs pairs sp) ∙ z

      pub small : 4 * k ≤ 65536
      small = let x = w.fits k some in omega arith

      pub store-room : length out₀ ≡ 16384 → 4 * k ≤ length bytes₀ → 4 * length (take k out) ≤ length bytes₀
      store-room z h = let x = w.fits k some in omega (arith, length-take-le k out (omega (arith, out_long z)))
