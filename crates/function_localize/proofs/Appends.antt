-- import_function: the function that is whole on the stacks is appended, one record more in the table of functions; or it does not fit.
use mathlib.Core.Path.{◌≡◌, sym, ap, ap₂, ◌∙◌}
use mathlib.Core.Logic.{⊎_elim}
use mathlib.Core.Bool.{true, false, false≢true}
use mathlib.Core.List.{List, [], ◌∷◌, ◌++◌, map}
use Prim.Native.Nat.{ℕ, suc, ◌+◌, ◌*◌, ◌≤◌, ◌<◌}
use native.Mathlib.Omega.{arith}
use lib.ListN.{length, get_or, length-append, length-map}
use lib.Seq.{get_or-set_other}
use Rattle.theory_lists.specs.Lists.{map-append}
use Rattle.model.specs.Outcome.{Cells}
use Rattle.model.specs.Tree.{Function, flat, flat_block}
use Rattle.model.specs.Module.{Special}
use Rattle.model.specs.Redirect.{function as function_at}
use Rattle.model.specs.Tables.{names, code_t, Tables, count, Maps}
use Rattle.model.specs.Imports.{Derived}
use Rattle.model.specs.Bodies.{appended}
use Rattle.theory_records.specs.TableLaws.{at-six}
use Rattle.derive_state.specs.Flats.{function_of, special_of}
use Rattle.derive_state.specs.Refers.{tab_of}
use Rattle.derive_state.specs.Source.{mod_of}
use Rattle.derive_state.specs.Held.{row, table_of, recs_of, functions_of, st_of, size_r, Over, long, many, crowd, keys, Named, ValidArrays}
use Rattle.derive_state.specs.Sizes.{Sizes}
use Rattle.derive_state.proofs.State.{Joins, code_low, six_ext, row_other, tab_long, table_long, table_more, table_same, words_are, kept_more, same_then, marks_refl}
use Rattle.function_builder.proofs.Growth.{over_more}
use Rattle.function_builder.proofs.Then.{kept_tops}
use Rattle.function_record.specs.Closed.{AppendRecordEnsures}
use Rattle.function_nesting.specs.Nested.{declared_s, final_s, cells_s, append_s, Reads, ReadyFrom, ReadyF}
use Rattle.function_nesting.specs.Growth.{appended_words}
use Rattle.function_localize.specs.Localized.{LocalizeEnsures, ImportFunctionEnsures}

-- ---- what is too large without its record is too large with it
over_appended : (f : Function) (c : Cells) (rest : ℕ) (s : Derived) → flat f ≡ c → Over (rest + length c) s → Over rest (appended f s)
unfolding appended
over_appended f c rest s e (long h) = let a = appended_words f s in let b = ap (λ (x : Cells). length x) e in long (omega arith)
over_appended f c rest s e (many t h) = many t h
over_appended f c rest s e (crowd h) = crowd (let a = length-append s.functions (f ∷ []) in omega arith)
over_appended f c rest s e (keys h) = keys h

module _ (words : List ℕ) (n o : ℕ) (ready : ℕ → Derived → Type 0) (follow : ℕ → Derived → Derived) (f : ℕ) (log₀ logtags₀ : List ℕ) (starts₀ maps₀ : List (List ℕ)) (buckets₀ : List ℕ) (stacks₀ : List (List ℕ)) (e₀ : Sizes)
    (r : Sizes) (log logtags : List ℕ) (starts maps : List (List ℕ)) (buckets : List ℕ) (stacks : List (List ℕ))
    (L : LocalizeEnsures words n o ready follow (function_at (mod_of words n) f) log₀ logtags₀ starts₀ maps₀ buckets₀ stacks₀ e₀ r log logtags starts maps buckets stacks) where
  abbrev F : Function
  F = function_at (mod_of words n) f

  abbrev S₀ : List ℕ → Derived
  S₀ special = st_of words log₀ logtags₀ starts₀ maps₀ special e₀

  abbrev size₀ : ℕ
  size₀ = size_r (table_of log₀ logtags₀ starts₀ e₀.counts 7)

  abbrev Readies : Derived → Type 0
  Readies = ReadyF o (mod_of words n) ready follow (function_at (mod_of words n) f)

  can_read : (special : List ℕ) → Readies (S₀ special) → Reads o (mod_of words n) (count (final_s o (mod_of words n) follow F (S₀ special)).out.recs names) (cells_s o (mod_of words n) follow F (S₀ special))
  unfolding ReadyF
  can_read special y = y.0

  can_follow : (special : List ℕ) → Readies (S₀ special) → ReadyFrom o (mod_of words n) ready follow F (flat_block F.body) (declared_s o (mod_of words n) follow F (S₀ special))
  unfolding ReadyF
  can_follow special y = y.1

  -- the function does not fit on the stacks
  pub append_full : r.full ≡ true → ImportFunctionEnsures words Readies (append_s o (mod_of words n) follow f) log₀ logtags₀ starts₀ maps₀ buckets₀ stacks₀ e₀ r log logtags starts maps buckets stacks
  unfolding append_s
  append_full z = record {
    over = λ _ special y. over_appended _ (cells_s o (mod_of words n) follow F (S₀ special)) _ _ (can_read special y).whole (over_more _ _ (omega arith) (L.over z special (can_follow special y)));
    is = λ y. absurd (false≢true (sym y ∙ z));
    kept = λ y. absurd (false≢true (sym y ∙ z));
    along = λ y. absurd (false≢true (sym y ∙ z));
    tops = λ y. absurd (false≢true (sym y ∙ z));
    more = λ y. absurd (false≢true (sym y ∙ z));
    deep = λ y. absurd (false≢true (sym y ∙ z));
    stacks_are = λ y. absurd (false≢true (sym y ∙ z));
    below = L.below;
    log_long = L.log_long;
    tags_long = L.tags_long;
    marks_stay = L.marks_stay;
  }

  module _ (z : r.full ≡ false) (C : Cells) (is : (special : List ℕ) → C ≡ cells_s o (mod_of words n) follow F (S₀ special)) (entries : size_r (table_of log logtags starts r.counts 7) ≡ size₀) (special₀ : List ℕ) (y₀ : Readies (S₀ special₀))
      (r₂ : Sizes) (log₂ logtags₂ : List ℕ) (starts₂ : List (List ℕ)) (B : AppendRecordEnsures C 256 6 e₀ r log logtags starts r₂ log₂ logtags₂ starts₂) where
    K : ValidArrays log logtags starts maps buckets r
    K = L.kept z

    -- the record can be read, and its names are derived by then
    whole : flat (function_of C) ≡ C
    whole = rw (is special₀) (can_read special₀ y₀).whole

    named : Named (get_or r.counts 0 0) C
    unfolding st_of count tab_of
    named =
        let c : count (final_s o (mod_of words n) follow F (S₀ special₀)).out.recs names ≡ get_or r.counts 0 0
        = ap (λ (x : Derived). count x.recs names) (L.is z special₀) ∙ tab_long log logtags starts maps buckets r K 0 (omega arith) in
        rw (is special₀, ← c) (can_read special₀ y₀).named

    app_is : (special : List ℕ) → append_s o (mod_of words n) follow f (S₀ special) ≡ appended (function_of C) (st_of words log logtags starts maps special r)
    unfolding append_s
    app_is special = ap₂ (λ (c : Cells) (x : Derived). appended (function_of c) x) (sym (is special)) (L.is z special)

    over : r₂.full ≡ true → (special : List ℕ) → Over (size₀ + (e₀.exprtop + e₀.bodytop)) (append_s o (mod_of words n) follow f (S₀ special))
    over y special = rw (app_is special) (⊎_elim few wide (B.over y))
      where
        st : Derived
        st = st_of words log logtags starts maps special r

        few : get_or r.counts 6 0 ≡ 256 → Over (size₀ + (e₀.exprtop + e₀.bodytop)) (appended (function_of C) st)
        few q = crowd (unfold appended st_of functions_of in (let a = length-append (map function_of (table_of log logtags starts r.counts 6)) (function_of C ∷ []) in let b = length-map (table_of log logtags starts r.counts 6) function_of in let c = table_long log logtags starts maps buckets r K 6 (omega arith) in omega arith))

        wide : 16384 < 23 + 2 * r.pairs + (r.loglen + suc (length C)) → Over (size₀ + (e₀.exprtop + e₀.bodytop)) (appended (function_of C) st)
        wide q = let a = appended_words (function_of C) st in let b = ap (λ (x : Cells). length x) whole in let c = words_are log logtags starts maps buckets r K words special in let d = entries in long (omega arith)

    module _ (y : r₂.full ≡ false) where
      room : get_or r.counts 6 0 < 256
      room = (B.room y).0

      fits : 23 + 2 * r.pairs + (r.loglen + suc (length C)) ≤ 16384
      fits = (B.room y).1

      joins : Joins 6 (get_or r.counts 6 0) (get_or r.counts 0 0) (table_of log logtags starts r.counts 6) C buckets
      joins = record {
        few = let a = room in omega arith;
        few_functions = λ q. room;
        few_entries = λ q. absurd (omega arith);
        named = named;
        plain = λ q. absurd (omega arith);
        apart = λ q. absurd (omega arith);
        marked = λ q. absurd (omega arith);
        flats = λ q. whole;
        flats' = λ q. absurd (omega arith);
      }

      few : get_or r.counts 6 0 < 512
      few = let a = room in omega arith

      kept : ValidArrays log₂ logtags₂ starts₂ maps buckets r₂
      kept = rw (B.starts_are y) (kept_tops (kept_more log logtags log₂ logtags₂ starts maps buckets buckets r K B.below B.log_long B.tags_long (marks_refl buckets K.marks_long) 6 (omega arith) C (B.is y) (B.size y) fits few joins) r₂
          (ap (λ (x : Sizes). x.loglen) (B.ends y)) (ap (λ (x : Sizes). x.counts) (B.ends y)) (ap (λ (x : Sizes). x.pairs) (B.ends y)))

      table_is : (u : ℕ) → u < 8 → (u ≡ 6 → ⊥) → table_of log₂ logtags₂ starts₂ r₂.counts u ≡ table_of log logtags starts r.counts u
      table_is u hu ne = rw (B.starts_are y, B.ends y) (table_same log logtags log₂ logtags₂ starts maps buckets buckets r K B.below B.log_long B.tags_long (marks_refl buckets K.marks_long) 6 (omega arith) C (B.is y) (B.size y) fits few u hu ne)

      functions_are : table_of log₂ logtags₂ starts₂ r₂.counts 6 ≡ table_of log logtags starts r.counts 6 ++ (C ∷ [])
      functions_are = rw (B.starts_are y, B.ends y) (table_more log logtags log₂ logtags₂ starts maps buckets buckets r K B.below B.log_long B.tags_long (marks_refl buckets K.marks_long) 6 (omega arith) C (B.is y) (B.size y) fits few)

      recs_are : recs_of log logtags starts r.counts ≡ recs_of log₂ logtags₂ starts₂ r₂.counts
      unfolding recs_of
      recs_are = six_ext _ _ (λ u. at-six u (λ t. table_of log logtags starts r.counts (code_t t)) ∙ sym (at-six u (λ t. table_of log₂ logtags₂ starts₂ r₂.counts (code_t t)) ∙ table_is (code_t u) (omega (arith, code_low u)) (λ q. omega (arith, code_low u))))

      st_is : (special : List ℕ) → appended (function_of C) (st_of words log logtags starts maps special r) ≡ st_of words log₂ logtags₂ starts₂ maps special r₂
      unfolding appended st_of functions_of
      st_is special = parts recs_are (sym (ap (map function_of) functions_are ∙ map-append function_of (table_of log logtags starts r.counts 6) (C ∷ []))) (ap (special_of special) (sym (ap (λ (x : Sizes). x.pairs) (B.ends y))))
        where
          parts : {R R' : Tables} {M : Maps} {fs fs' : List Function} {sp sp' : Special} → R ≡ R' → fs ≡ fs' → sp ≡ sp' → ◌≡◌ {A = Derived} (record { recs = R; maps = M; functions = fs; special = sp }) (record { recs = R'; maps = M; functions = fs'; special = sp' })
          parts {M} a b c i = record { recs = a i; maps = M; functions = b i; special = c i }

    -- one function more
    pub append-close : ImportFunctionEnsures words Readies (append_s o (mod_of words n) follow f) log₀ logtags₀ starts₀ maps₀ buckets₀ stacks₀ e₀ r₂ log₂ logtags₂ starts₂ maps buckets stacks
    append-close = record {
      over = λ y special _. over y special;
      is = λ y special. app_is special ∙ st_is y special;
      kept = kept;
      along = λ y. let a = L.along z in record {
        entries_same = (ap (λ (m : List (List ℕ)). row m 7) (B.starts_are y) ∙ row_other starts 6 7 (get_or r.counts 6 0) r.loglen (λ q. omega arith) ∙ a.entries_same.0, ap (λ (x : Sizes). get_or x.counts 7 0) (B.ends y) ∙ get_or-set_other r.counts 6 7 (get_or r.counts 6 0 + 1) 0 (λ q. omega arith) ∙ a.entries_same.1);
        pairs-same = ap (λ (x : Sizes). x.pairs) (B.ends y) ∙ a.pairs-same;
        et_more = let b = ap (λ (x : Sizes). x.exprtop) (B.ends y) in omega arith;
        bt_more = let b = ap (λ (x : Sizes). x.bodytop) (B.ends y) in omega arith;
      };
      tops = λ y. (ap (λ (x : Sizes). x.exprtop) (B.ends y), ap (λ (x : Sizes). x.bodytop) (B.ends y), ap (λ (x : Sizes). x.made) (B.ends y));
      more = λ y. let a = L.more z in let b = ap (λ (x : Sizes). x.loglen) (B.ends y) in omega arith;
      deep = λ y. L.deep z;
      stacks_are = λ y. let s = L.stacks_are z in let a = L.along z in let b = ap (λ (x : Sizes). x.exprtop) (B.ends y) in let c = ap (λ (x : Sizes). x.bodytop) (B.ends y) in let g = s.high in let h = s.high' in let i = a.et_more in let j = a.bt_more in record { four = s.four; rows = s.rows; high = omega arith; high' = omega arith };
      below = same_then e₀.loglen r.loglen log₀ logtags₀ log logtags log₂ logtags₂ (L.more z) L.below B.below;
      log_long = B.log_long;
      tags_long = B.tags_long;
      marks_stay = L.marks_stay;
    }
