use Rattle.derive_lookup.specs.Bearing.{plus_one}
use Rattle.derive_lookup.proofs.Counted.{counted, not_counted}
-- The cycle of calls: localize follows a callee with the same room, follow appends it with less, append localizes with the same.
use mathlib.Core.Path.{refl, sym, ap, ◌∙◌}
use mathlib.Core.Bool.{false≢true}
use native.Mathlib.Nat.{le_refl}
use native.Mathlib.Omega.{arith}
use Rattle.derive_lookup.proofs.Bears.{bearing}
use Rattle.function_references.proofs.Sources.{ground}
use Rattle.function_parts.specs.Exprs.{expressions}
use Rattle.function_parts.specs.Part.{k_few}
use Rattle.function_words.proofs.Running.{made_small}
use Rattle.function_words.proofs.Calm.{legible_all}
use Rattle.function_localize.proofs.Sums.{place_4, place-next}
use Rattle.function_localize.proofs.Calms.{going_run}
use Rattle.function_localize.proofs.Starts.{declares}
use Rattle.function_localize.proofs.Locals.{exprs_low, runs_from, going_at, index_in, begun_kept, begun-under, declare_none, going_start, word_in, word_fits, word_bodied, callee_low, callee-ready, callee_full, callee_runs, other_runs, going_full, going_next, keep_in, keep_exprs, keep_low, names_full, names_in_lem, names_words, names_good, names_whole}
use Rattle.function_localize.proofs.Follows.{follow-none, follow_old, follow-ready, follow-append}
use Rattle.function_localize.proofs.Appending.{append-part, append-nested, append-standing, close-order, close_few, close_stacks, close_names, close-classes, close-room, append_done, append-none}
use Rattle.derive_state.specs.Sizes.{going}
use Rattle.std.proofs.lemmas.Result.{err_from_is_err_and}
use Rattle.derive_state.proofs.State.{arrays_same, arrays_then}
use Rattle.function_localize.proofs.+append_follow_localize.Goals as goal

pub append-record-s-requires : goal.append-record-s-requires
append-record-s-requires t c = let a = c.args in record { k_bound = omega arith; j_bound = c.requires.f_bound }

pub append-localize-requires : goal.append-localize-requires
append-localize-requires t c = let a = c.args in let q = c.decreases in (omega arith, (append-part (ground c.args.source) c.requires.f_bound c.record-s.ensures.0 c.record-s.ensures.1 c.requires.nested_f.scopes, (append-nested (ground c.args.source) c.requires.f_bound c.record-s.ensures.0 c.record-s.ensures.1 c.requires.nested_f.scopes c.requires.nested_f, (c.requires.stacks, c.requires.valid_arrays))))

pub append-returns-in_err-got : goal.append-returns-in_err-got
append-returns-in_err-got t c = let p = err_from_is_err_and c.from_residual.result c.from_residual.ensures.1 in rw (p.1, p.2) (record { does = let a = c.args in append-none (ground c.args.source) c.requires.f_bound c.record-s.ensures.0 c.record-s.ensures.1 c.requires.nested_f.scopes a.room c.in_err-got.ensures.does refl; same = c.in_err-got.ensures.same })

pub append-of-place-requires : goal.append-of-place-requires
append-of-place-requires t c = let a = c.args in rw (c.cells.ensures.0, c.cells.ensures.1) (append-standing (ground c.args.source) c.requires.f_bound c.record-s.ensures.0 c.record-s.ensures.1 c.requires.nested_f.scopes)

pub append-append_record-requires : goal.append-append_record-requires
append-append_record-requires t c = let a = c.args in let P = rw (c.cells.ensures.0, c.cells.ensures.1) at c.of-place.ensures in rw (P.0, P.3) (record { s_le_exprs = close-order (ground c.args.source) c.requires.f_bound c.record-s.ensures.0 c.record-s.ensures.1 c.requires.nested_f.scopes P.1 P.2 a.room c.requires.valid_arrays c.in_ok-got.ensures.does refl; t_bound = (let z = close_few (ground c.args.source) c.requires.f_bound c.record-s.ensures.0 c.record-s.ensures.1 c.requires.nested_f.scopes P.1 P.2 a.room c.requires.valid_arrays c.in_ok-got.ensures.does refl in (z.0, z.1, z.2, z.3, z.4)); stacks = close_stacks (ground c.args.source) c.requires.f_bound c.record-s.ensures.0 c.record-s.ensures.1 c.requires.nested_f.scopes P.1 P.2 a.room c.requires.valid_arrays c.in_ok-got.ensures.does refl; body_len = close_names (ground c.args.source) c.requires.f_bound c.record-s.ensures.0 c.record-s.ensures.1 c.requires.nested_f.scopes P.1 P.2 a.room c.requires.valid_arrays c.in_ok-got.ensures.does refl; by_index = close-classes (ground c.args.source) c.requires.f_bound c.record-s.ensures.0 c.record-s.ensures.1 c.requires.nested_f.scopes P.1 P.2 a.room c.requires.valid_arrays c.in_ok-got.ensures.does refl; loglen_bound = close-room (ground c.args.source) c.requires.f_bound c.record-s.ensures.0 c.record-s.ensures.1 c.requires.nested_f.scopes P.1 P.2 a.room c.requires.valid_arrays c.in_ok-got.ensures.does refl })

pub append-returns : goal.append-returns
append-returns t c = let P = rw (c.cells.ensures.0, c.cells.ensures.1) at c.of-place.ensures in record { does = let a = c.args in append_done (ground c.args.source) c.requires.f_bound c.record-s.ensures.0 c.record-s.ensures.1 c.requires.nested_f.scopes P.1 P.2 a.room c.requires.valid_arrays c.in_ok-got.ensures.does refl c.requires.nested_f (rw (P.0, P.3) at c.append_record.ensures); same = (let S = c.in_ok-got.ensures.same in record { log_same = S.log_same; logtags_same = S.logtags_same; starts_same = S.starts_same; maps_same = S.maps_same; buckets_same = S.buckets_same }) }

pub follow-returns-then-room-eq0 : goal.follow-returns-then-room-eq0
follow-returns-then-room-eq0 t c = let a = c.args in record { import_function_ensures = record { does = follow-none a.source.image.words.now a.source.image.n a.source.offset a.f a.derived.now.log.now a.derived.now.logtags.now a.derived.now.starts.now a.derived.now.maps.now a.derived.now.buckets.now a.stacks.now (going a.ends) a.room c.if-room-eq0.true refl c.requires.stacks c.requires.valid_arrays; same = arrays_same _ }; places_after = λ _. c.requires.places_value }

pub follow-invariant_of-now : goal.follow-invariant_of-now
follow-invariant_of-now t c = let v = c.view.ensures in let a = c.args in record { bearing = rw (v.0, v.1, v.2, v.5) (bearing c.requires.valid_arrays) }

pub follow-known-requires : goal.follow-known-requires
follow-known-requires t c = let v = c.view.ensures in let a = c.args in record { f_bound = c.requires.f_bound }

pub follow-returns-then-is_some : goal.follow-returns-then-is_some
follow-returns-then-is_some t c = let v = c.view.ensures in let a = c.args in record { import_function_ensures = record { does = follow_old a.source.image.words.now a.source.image.n a.source.offset a.f a.derived.now.log.now a.derived.now.logtags.now a.derived.now.starts.now a.derived.now.maps.now a.derived.now.buckets.now a.stacks.now (going a.ends) a.room c.if-room-eq0.false (plus_one c.known.result) (rw (v.0, v.1, v.2, v.5) at c.known.ensures) (counted c.known.result (sym c.is_some.ensures ∙ c.if-is_some.true)) refl c.requires.stacks c.requires.valid_arrays; same = arrays_same _ }; places_after = λ _. c.requires.places_value }

pub follow-overflow_sub-room : goal.follow-overflow_sub-room
follow-overflow_sub-room t c = let h = c.if-room-eq0.false in omega arith

pub follow-append-requires : goal.follow-append-requires
follow-append-requires t c = let v = c.view.ensures in let a = c.args in let h = c.if-room-eq0.false in let q = c.decreases in (omega arith, (c.requires.f_bound, (follow-ready a.source.image.words.now a.source.image.n a.source.offset a.f a.derived.now.log.now a.derived.now.logtags.now a.derived.now.starts.now a.derived.now.maps.now a.derived.now.buckets.now a.stacks.now (going a.ends) a.room c.if-room-eq0.false (plus_one c.known.result) (rw (v.0, v.1, v.2, v.5) at c.known.ensures) (not_counted c.known.result (sym c.is_some.ensures ∙ c.if-is_some.false)) c.requires.nested_at, (c.requires.stacks, c.requires.valid_arrays))))

pub follow-returns-in_err-got : goal.follow-returns-in_err-got
follow-returns-in_err-got t c = let p = err_from_is_err_and c.from_residual.result c.from_residual.ensures.1 in rw (p.1, p.2) (let v = c.view.ensures in let a = c.args in record { import_function_ensures = record { does = follow-append a.source.image.words.now a.source.image.n a.source.offset a.f a.derived.now.log.now a.derived.now.logtags.now a.derived.now.starts.now a.derived.now.maps.now a.derived.now.buckets.now a.stacks.now (going a.ends) a.room c.if-room-eq0.false (plus_one c.known.result) (rw (v.0, v.1, v.2, v.5) at c.known.ensures) (not_counted c.known.result (sym c.is_some.ensures ∙ c.if-is_some.false)) c.in_err-got.ensures.does; same = c.in_err-got.ensures.same }; places_after = λ q. absurd (false≢true (sym q)) })

pub follow-index_expressions-requires : goal.follow-index_expressions-requires
follow-index_expressions-requires t c = c.requires.tags_len

pub follow-returns : goal.follow-returns
follow-returns t c = let v = c.view.ensures in let a = c.args in record { import_function_ensures = record { does = follow-append a.source.image.words.now a.source.image.n a.source.offset a.f a.derived.now.log.now a.derived.now.logtags.now a.derived.now.starts.now a.derived.now.maps.now a.derived.now.buckets.now a.stacks.now (going a.ends) a.room c.if-room-eq0.false (plus_one c.known.result) (rw (v.0, v.1, v.2, v.5) at c.known.ensures) (not_counted c.known.result (sym c.is_some.ensures ∙ c.if-is_some.false)) c.in_ok-got.ensures.does; same = c.in_ok-got.ensures.same }; places_after = λ _. c.index_expressions.ensures }

pub localize-index_parts-parts-requires : goal.localize-index_parts-parts-requires
localize-index_parts-parts-requires t c = c.requires.part

pub localize-no_expressions-requires : goal.localize-no_expressions-requires
localize-no_expressions-requires t c = tt

pub localize-invariant_of-declare : goal.localize-invariant_of-declare
localize-invariant_of-declare t c = record { expressions = expressions c.requires.part c.index_parts-parts.ensures }

pub localize-declare-requires : goal.localize-declare-requires
localize-declare-requires t c = let a = c.args in let x = c.index_parts-parts.ensures in let b = (ap going c.no_expressions.ensures) in record { declares = declares c.requires.part x; valid_arrays = begun_kept c.requires.part x c.requires.valid_arrays b; under = begun-under c.requires.part x c.requires.valid_arrays b a.stacks.now c.requires.stacks }

pub localize-returns-in_err-declared : goal.localize-returns-in_err-declared
localize-returns-in_err-declared t c = let p = err_from_is_err_and c.from_residual.result c.from_residual.ensures.1 in rw (p.1, p.2) (record { does = let a = c.args in declare_none c.requires.part c.index_parts-parts.ensures c.requires.valid_arrays a.room (ap going c.no_expressions.ensures) c.in_err-declared.ensures.does refl; same = c.in_err-declared.ensures.same })

pub localize-loop-j-init : goal.localize-loop-j-init
localize-loop-j-init t c = (record { on = λ _ _ g. g }, arrays_same _)

pub localize-next_word-requires : goal.localize-next_word-requires
localize-next_word-requires t c = let a = c.args in let g = c.loop-j.invariant.0.on refl c.requires.valid_arrays (going_start c.requires.part c.index_parts-parts.ensures c.requires.valid_arrays a.room (ap going c.no_expressions.ensures) c.in_ok-declared.ensures.does refl) in let K = g.turn.way.kept in let U = g.turn.way.under in record { legible = (rw (c.cells-cells.ensures.0, c.cells-cells.ensures.1) (legible_all (k_few c.requires.part g.read) g.turn.legible), U.stacks_are.high', made_small U) }

pub localize-bounds-source-j : goal.localize-bounds-source-j
localize-bounds-source-j t c = let a = c.args in let g = c.loop-j.invariant.0.on refl c.requires.valid_arrays (going_start c.requires.part c.index_parts-parts.ensures c.requires.valid_arrays a.room (ap going c.no_expressions.ensures) c.in_ok-declared.ensures.does refl) in let l = c.loop-j in let N = rw (c.cells-cells.ensures.0, c.cells-cells.ensures.1) at c.in-Some.ensures in let k = going_run (ground c.args.source).source c.requires.part a.source.offset a.room _ (expressions c.requires.part g.read) _ _ c.requires.valid_arrays a.stacks.now l.derived.log.now l.derived.logtags.now l.derived.starts.now l.derived.maps.now l.derived.buckets.now l.exprmap (going l.r.sizes) g N.copied.ran (ap going N.copied.sizes) in let h = word_in c.requires.part c.requires.valid_arrays k N.less in h

pub localize-offset_bounds-source-j : goal.localize-offset_bounds-source-j
localize-offset_bounds-source-j t c = let a = c.args in let g = c.loop-j.invariant.0.on refl c.requires.valid_arrays (going_start c.requires.part c.index_parts-parts.ensures c.requires.valid_arrays a.room (ap going c.no_expressions.ensures) c.in_ok-declared.ensures.does refl) in let l = c.loop-j in let N = rw (c.cells-cells.ensures.0, c.cells-cells.ensures.1) at c.in-Some.ensures in let k = going_run (ground c.args.source).source c.requires.part a.source.offset a.room _ (expressions c.requires.part g.read) _ _ c.requires.valid_arrays a.stacks.now l.derived.log.now l.derived.logtags.now l.derived.starts.now l.derived.maps.now l.derived.buckets.now l.exprmap (going l.r.sizes) g N.copied.ran (ap going N.copied.sizes) in let h = word_in c.requires.part c.requires.valid_arrays k N.less in place_4 h

pub localize-bounds-source-j-then-source-j-eq-CALLEE : goal.localize-bounds-source-j-then-source-j-eq-CALLEE
localize-bounds-source-j-then-source-j-eq-CALLEE t c = let a = c.args in let g = c.loop-j.invariant.0.on refl c.requires.valid_arrays (going_start c.requires.part c.index_parts-parts.ensures c.requires.valid_arrays a.room (ap going c.no_expressions.ensures) c.in_ok-declared.ensures.does refl) in let l = c.loop-j in let N = rw (c.cells-cells.ensures.0, c.cells-cells.ensures.1) at c.in-Some.ensures in let k = going_run (ground c.args.source).source c.requires.part a.source.offset a.room _ (expressions c.requires.part g.read) _ _ c.requires.valid_arrays a.stacks.now l.derived.log.now l.derived.logtags.now l.derived.starts.now l.derived.maps.now l.derived.buckets.now l.exprmap (going l.r.sizes) g N.copied.ran (ap going N.copied.sizes) in let h = word_in c.requires.part c.requires.valid_arrays k N.less in h

pub localize-overflow_add-parts : goal.localize-overflow_add-parts
localize-overflow_add-parts t c = place-next (exprs_low c.requires.part c.index_parts-parts.ensures)

pub localize-follow-requires : goal.localize-follow-requires
localize-follow-requires t c = let a = c.args in let g = c.loop-j.invariant.0.on refl c.requires.valid_arrays (going_start c.requires.part c.index_parts-parts.ensures c.requires.valid_arrays a.room (ap going c.no_expressions.ensures) c.in_ok-declared.ensures.does refl) in let l = c.loop-j in let N = rw (c.cells-cells.ensures.0, c.cells-cells.ensures.1) at c.in-Some.ensures in let k = going_run (ground c.args.source).source c.requires.part a.source.offset a.room _ (expressions c.requires.part g.read) _ _ c.requires.valid_arrays a.stacks.now l.derived.log.now l.derived.logtags.now l.derived.starts.now l.derived.maps.now l.derived.buckets.now l.exprmap (going l.r.sizes) g N.copied.ran (ap going N.copied.sizes) in let q = c.decreases in (omega arith, (callee_low c.requires.part c.requires.valid_arrays k N.less c.if-source-j-eq-CALLEE.true refl, (callee-ready c.requires.part c.requires.valid_arrays k N.less c.if-source-j-eq-CALLEE.true refl c.requires.nested, (k.turn.way.under.stacks_are, (k.turn.way.kept, (index_in c.requires.part k.read.ea_is, k.read.places_are))))))

pub localize-returns-in_err-e : goal.localize-returns-in_err-e
localize-returns-in_err-e t c = let p = err_from_is_err_and c.from_residual-in_err-e.result c.from_residual-in_err-e.ensures.1 in rw (p.1, p.2) (record { does = let a = c.args in let g = c.loop-j.invariant.0.on refl c.requires.valid_arrays (going_start c.requires.part c.index_parts-parts.ensures c.requires.valid_arrays a.room (ap going c.no_expressions.ensures) c.in_ok-declared.ensures.does refl) in let l = c.loop-j in let N = rw (c.cells-cells.ensures.0, c.cells-cells.ensures.1) at c.in-Some.ensures in let k = going_run (ground c.args.source).source c.requires.part a.source.offset a.room _ (expressions c.requires.part g.read) _ _ c.requires.valid_arrays a.stacks.now l.derived.log.now l.derived.logtags.now l.derived.starts.now l.derived.maps.now l.derived.buckets.now l.exprmap (going l.r.sizes) g N.copied.ran (ap going N.copied.sizes) in callee_full c.requires.part c.requires.valid_arrays k N.less c.if-source-j-eq-CALLEE.true refl c.in_err-e.ensures.import_function_ensures.does refl; same = arrays_then c.in_ok-declared.ensures.same (arrays_then c.loop-j.invariant.1 c.in_err-e.ensures.import_function_ensures.same) })

pub localize-invariant_of-put_word : goal.localize-invariant_of-put_word
localize-invariant_of-put_word t c = let v = c.view.ensures in let a = c.args in let g = c.loop-j.invariant.0.on refl c.requires.valid_arrays (going_start c.requires.part c.index_parts-parts.ensures c.requires.valid_arrays a.room (ap going c.no_expressions.ensures) c.in_ok-declared.ensures.does refl) in let l = c.loop-j in let N = rw (c.cells-cells.ensures.0, c.cells-cells.ensures.1) at c.in-Some.ensures in let k = going_run (ground c.args.source).source c.requires.part a.source.offset a.room _ (expressions c.requires.part g.read) _ _ c.requires.valid_arrays a.stacks.now l.derived.log.now l.derived.logtags.now l.derived.starts.now l.derived.maps.now l.derived.buckets.now l.exprmap (going l.r.sizes) g N.copied.ran (ap going N.copied.sizes) in let w = c.in_ok-e.ensures.import_function_ensures.does in let z = refl in record { bearing = rw (v.0, v.1, v.2, v.5) (bearing (w.kept z)) }

pub localize-put_word-requires : goal.localize-put_word-requires
localize-put_word-requires t c = let v = c.view.ensures in let a = c.args in let g = c.loop-j.invariant.0.on refl c.requires.valid_arrays (going_start c.requires.part c.index_parts-parts.ensures c.requires.valid_arrays a.room (ap going c.no_expressions.ensures) c.in_ok-declared.ensures.does refl) in let l = c.loop-j in let N = rw (c.cells-cells.ensures.0, c.cells-cells.ensures.1) at c.in-Some.ensures in let k = going_run (ground c.args.source).source c.requires.part a.source.offset a.room _ (expressions c.requires.part g.read) _ _ c.requires.valid_arrays a.stacks.now l.derived.log.now l.derived.logtags.now l.derived.starts.now l.derived.maps.now l.derived.buckets.now l.exprmap (going l.r.sizes) g N.copied.ran (ap going N.copied.sizes) in let w = c.in_ok-e.ensures.import_function_ensures.does in let z = refl in record { i_bound = word_fits c.requires.part c.requires.valid_arrays k N.less; stacks = rw v.5 (w.stacks_are z) }

pub localize-invariant_of-import_word : goal.localize-invariant_of-import_word
localize-invariant_of-import_word t c = let a = c.args in let g = c.loop-j.invariant.0.on refl c.requires.valid_arrays (going_start c.requires.part c.index_parts-parts.ensures c.requires.valid_arrays a.room (ap going c.no_expressions.ensures) c.in_ok-declared.ensures.does refl) in let l = c.loop-j in let N = rw (c.cells-cells.ensures.0, c.cells-cells.ensures.1) at c.in-Some.ensures in let k = going_run (ground c.args.source).source c.requires.part a.source.offset a.room _ (expressions c.requires.part g.read) _ _ c.requires.valid_arrays a.stacks.now l.derived.log.now l.derived.logtags.now l.derived.starts.now l.derived.maps.now l.derived.buckets.now l.exprmap (going l.r.sizes) g N.copied.ran (ap going N.copied.sizes) in record { expressions = expressions c.requires.part k.read }

pub localize-import_word-requires : goal.localize-import_word-requires
localize-import_word-requires t c = let a = c.args in let g = c.loop-j.invariant.0.on refl c.requires.valid_arrays (going_start c.requires.part c.index_parts-parts.ensures c.requires.valid_arrays a.room (ap going c.no_expressions.ensures) c.in_ok-declared.ensures.does refl) in let l = c.loop-j in let N = rw (c.cells-cells.ensures.0, c.cells-cells.ensures.1) at c.in-Some.ensures in let k = going_run (ground c.args.source).source c.requires.part a.source.offset a.room _ (expressions c.requires.part g.read) _ _ c.requires.valid_arrays a.stacks.now l.derived.log.now l.derived.logtags.now l.derived.starts.now l.derived.maps.now l.derived.buckets.now l.exprmap (going l.r.sizes) g N.copied.ran (ap going N.copied.sizes) in record { bodied = word_bodied c.requires.part c.requires.valid_arrays k N.less; valid_arrays = k.turn.way.kept; under = k.turn.way.under }

pub localize-returns-in_err-r : goal.localize-returns-in_err-r
localize-returns-in_err-r t c = let v = c.view.ensures in let p = err_from_is_err_and c.from_residual-in_err-r.result c.from_residual-in_err-r.ensures.1 in rw (p.1, p.2) (record { does = let a = c.args in let g = c.loop-j.invariant.0.on refl c.requires.valid_arrays (going_start c.requires.part c.index_parts-parts.ensures c.requires.valid_arrays a.room (ap going c.no_expressions.ensures) c.in_ok-declared.ensures.does refl) in let l = c.loop-j in let N = rw (c.cells-cells.ensures.0, c.cells-cells.ensures.1) at c.in-Some.ensures in let k = going_run (ground c.args.source).source c.requires.part a.source.offset a.room _ (expressions c.requires.part g.read) _ _ c.requires.valid_arrays a.stacks.now l.derived.log.now l.derived.logtags.now l.derived.starts.now l.derived.maps.now l.derived.buckets.now l.exprmap (going l.r.sizes) g N.copied.ran (ap going N.copied.sizes) in going_full c.requires.part c.requires.valid_arrays k N.less N.flag (callee_runs c.requires.part c.requires.valid_arrays k N.less c.if-source-j-eq-CALLEE.true refl c.in_ok-e.ensures.import_function_ensures.does refl c.next_word.new.reach.undefined (rw (v.0, v.1, v.2, v.3, v.5) at c.in_err-r.ensures)) refl; same = arrays_then c.in_ok-declared.ensures.same (arrays_then c.loop-j.invariant.1 c.in_ok-e.ensures.import_function_ensures.same) })

pub localize-returns-in_err-r-2 : goal.localize-returns-in_err-r-2
localize-returns-in_err-r-2 t c = let p = err_from_is_err_and c.from_residual-in_err-r-2.result c.from_residual-in_err-r-2.ensures.1 in rw (p.1, p.2) (record { does = let a = c.args in let g = c.loop-j.invariant.0.on refl c.requires.valid_arrays (going_start c.requires.part c.index_parts-parts.ensures c.requires.valid_arrays a.room (ap going c.no_expressions.ensures) c.in_ok-declared.ensures.does refl) in let l = c.loop-j in let N = rw (c.cells-cells.ensures.0, c.cells-cells.ensures.1) at c.in-Some.ensures in let k = going_run (ground c.args.source).source c.requires.part a.source.offset a.room _ (expressions c.requires.part g.read) _ _ c.requires.valid_arrays a.stacks.now l.derived.log.now l.derived.logtags.now l.derived.starts.now l.derived.maps.now l.derived.buckets.now l.exprmap (going l.r.sizes) g N.copied.ran (ap going N.copied.sizes) in going_full c.requires.part c.requires.valid_arrays k N.less N.flag (other_runs c.requires.part c.requires.valid_arrays k N.less c.if-source-j-eq-CALLEE.false c.next_word.new.reach.undefined (runs_from refl c.in_err-r-2.ensures.does)) refl; same = arrays_then c.in_ok-declared.ensures.same (arrays_then c.loop-j.invariant.1 c.in_err-r-2.ensures.same) })

pub localize-loop-j-preserved-then-source-j-eq-CALLEE : goal.localize-loop-j-preserved-then-source-j-eq-CALLEE
localize-loop-j-preserved-then-source-j-eq-CALLEE t c = let v = c.view.ensures in (let a = c.args in record { on = λ q K₀ g₀. let g = c.loop-j.invariant.0.on q K₀ g₀ in let l = c.loop-j in let N = rw (c.cells-cells.ensures.0, c.cells-cells.ensures.1) at c.in-Some.ensures in let k = going_run (ground c.args.source).source c.requires.part a.source.offset a.room _ (expressions c.requires.part g.read) _ _ K₀ _ l.derived.log.now l.derived.logtags.now l.derived.starts.now l.derived.maps.now l.derived.buckets.now l.exprmap (going l.r.sizes) g N.copied.ran (ap going N.copied.sizes) in rw N.at (going_at (c.in_ok-e.ensures.places_after refl ∙ sym k.read.places_are) (going_next c.requires.part K₀ k N.less N.flag (callee_runs c.requires.part K₀ k N.less c.if-source-j-eq-CALLEE.true refl c.in_ok-e.ensures.import_function_ensures.does refl c.next_word.new.reach.undefined (rw (v.0, v.1, v.2, v.3, v.5) at c.in_ok-r.ensures)) refl)) }, arrays_then c.loop-j.invariant.1 c.in_ok-e.ensures.import_function_ensures.same)

pub localize-loop-j-preserved : goal.localize-loop-j-preserved
localize-loop-j-preserved t c = (let a = c.args in record { on = λ q K₀ g₀. let g = c.loop-j.invariant.0.on q K₀ g₀ in let l = c.loop-j in let N = rw (c.cells-cells.ensures.0, c.cells-cells.ensures.1) at c.in-Some.ensures in let k = going_run (ground c.args.source).source c.requires.part a.source.offset a.room _ (expressions c.requires.part g.read) _ _ K₀ _ l.derived.log.now l.derived.logtags.now l.derived.starts.now l.derived.maps.now l.derived.buckets.now l.exprmap (going l.r.sizes) g N.copied.ran (ap going N.copied.sizes) in rw N.at (going_at refl (going_next c.requires.part K₀ k N.less N.flag (other_runs c.requires.part K₀ k N.less c.if-source-j-eq-CALLEE.false c.next_word.new.reach.undefined (runs_from q c.in_ok-r-2.ensures.does)) refl)) }, arrays_then c.loop-j.invariant.1 c.in_ok-r-2.ensures.same)

pub localize-keep_names-requires : goal.localize-keep_names-requires
localize-keep_names-requires t c = let a = c.args in let g₀ = c.loop-j.invariant.0.on refl c.requires.valid_arrays (going_start c.requires.part c.index_parts-parts.ensures c.requires.valid_arrays a.room (ap going c.no_expressions.ensures) c.in_ok-declared.ensures.does refl) in let l = c.loop-j in let N = rw (c.cells-cells.ensures.0, c.cells-cells.ensures.1) at c.in_default.ensures in let g = going_run (ground c.args.source).source c.requires.part a.source.offset a.room _ (expressions c.requires.part g₀.read) _ _ c.requires.valid_arrays a.stacks.now l.derived.log.now l.derived.logtags.now l.derived.starts.now l.derived.maps.now l.derived.buckets.now l.exprmap (going l.r.sizes) g₀ N.ran (ap going N.sizes) in record { at_bound = keep_in c.requires.part c.requires.valid_arrays g (le_refl _); by_index = keep_exprs c.requires.part c.requires.valid_arrays g (le_refl _); by_index_2 = keep_low c.requires.part c.requires.valid_arrays g (le_refl _); stacks = g.turn.way.under.stacks_are }

pub localize-returns-in_err-kept : goal.localize-returns-in_err-kept
localize-returns-in_err-kept t c = let p = err_from_is_err_and c.from_residual-in_err-kept.result c.from_residual-in_err-kept.ensures.1 in rw (p.1, p.2) (record { does = let a = c.args in let g₀ = c.loop-j.invariant.0.on refl c.requires.valid_arrays (going_start c.requires.part c.index_parts-parts.ensures c.requires.valid_arrays a.room (ap going c.no_expressions.ensures) c.in_ok-declared.ensures.does refl) in let l = c.loop-j in let N = rw (c.cells-cells.ensures.0, c.cells-cells.ensures.1) at c.in_default.ensures in let g = going_run (ground c.args.source).source c.requires.part a.source.offset a.room _ (expressions c.requires.part g₀.read) _ _ c.requires.valid_arrays a.stacks.now l.derived.log.now l.derived.logtags.now l.derived.starts.now l.derived.maps.now l.derived.buckets.now l.exprmap (going l.r.sizes) g₀ N.ran (ap going N.sizes) in names_full c.requires.part c.requires.valid_arrays g (le_refl _) c.in_err-kept.ensures refl; same = arrays_then c.in_ok-declared.ensures.same c.loop-j.invariant.1 })

pub localize-import_names-requires : goal.localize-import_names-requires
localize-import_names-requires t c = let a = c.args in let g₀ = c.loop-j.invariant.0.on refl c.requires.valid_arrays (going_start c.requires.part c.index_parts-parts.ensures c.requires.valid_arrays a.room (ap going c.no_expressions.ensures) c.in_ok-declared.ensures.does refl) in let l = c.loop-j in let N = rw (c.cells-cells.ensures.0, c.cells-cells.ensures.1) at c.in_default.ensures in let g = going_run (ground c.args.source).source c.requires.part a.source.offset a.room _ (expressions c.requires.part g₀.read) _ _ c.requires.valid_arrays a.stacks.now l.derived.log.now l.derived.logtags.now l.derived.starts.now l.derived.maps.now l.derived.buckets.now l.exprmap (going l.r.sizes) g₀ N.ran (ap going N.sizes) in record { b_le_bodytop = (names_in_lem c.requires.part c.requires.valid_arrays g (le_refl _) c.in_ok-kept.ensures refl).0; by_index = names_words c.requires.part c.requires.valid_arrays g (le_refl _) c.in_ok-kept.ensures refl; stacks = c.in_ok-kept.ensures.stacks_are refl; valid_arrays = names_good c.requires.part c.requires.valid_arrays g (le_refl _) c.in_ok-kept.ensures refl }

pub localize-returns : goal.localize-returns
localize-returns t c = record { does = let a = c.args in let g₀ = c.loop-j.invariant.0.on refl c.requires.valid_arrays (going_start c.requires.part c.index_parts-parts.ensures c.requires.valid_arrays a.room (ap going c.no_expressions.ensures) c.in_ok-declared.ensures.does refl) in let l = c.loop-j in let N = rw (c.cells-cells.ensures.0, c.cells-cells.ensures.1) at c.in_default.ensures in let g = going_run (ground c.args.source).source c.requires.part a.source.offset a.room _ (expressions c.requires.part g₀.read) _ _ c.requires.valid_arrays a.stacks.now l.derived.log.now l.derived.logtags.now l.derived.starts.now l.derived.maps.now l.derived.buckets.now l.exprmap (going l.r.sizes) g₀ N.ran (ap going N.sizes) in names_whole c.requires.part c.requires.valid_arrays g (le_refl _) c.in_ok-kept.ensures refl c.import_names.ensures.does; same = arrays_then c.in_ok-declared.ensures.same (arrays_then c.loop-j.invariant.1 c.import_names.ensures.same) }
