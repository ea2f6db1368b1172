-- The record of a function that is whole on the stacks is what the passes wrote: its declarations and its body have the classes of the source.
use mathlib.Core.Path.{◌≡◌, refl, sym, ap, ap₂, ◌∙◌}
use mathlib.Core.Bool.{Bool, false}
use mathlib.Core.List.{List, [], ◌∷◌, ◌++◌, map}
use Prim.Native.Nat.{ℕ, zero, suc, ◌+◌, ◌*◌, ◌-◌, ◌≤◌, ◌<◌}
use native.Mathlib.Omega.{arith}
use lib.ListN.{length, get_or, length-map}
use lib.Seq.{slice, length-slice}
use Rattle.model.specs.Outcome.{Cells, class, word}
use Rattle.model.specs.Table.{NAME, NAMED-EXPR, EXPRESSIONS, NAMED}
use Rattle.model.specs.Tree.{Function, flat_list, flat_block}
use Rattle.model.specs.Module.{Module}
use Rattle.model.specs.Between.{beside, between}
use Rattle.model.specs.References.{target, through, first_word, undefined_at}
use Rattle.model.specs.Imports.{Derived}
use Rattle.model.specs.Bodies.{Builder, mapped_to}
use Rattle.theory_image.specs.Betweens.{beside_cells, between_next}
use Rattle.theory_image.specs.FunctionViews.{part_tags}
use Rattle.theory_image.specs.Members.{each_at}
use Rattle.theory_passes.specs.Pass.{arrive, passed, written, rows, front}
use Rattle.derive_state.specs.Source.{mod_of}
use Rattle.derive_state.specs.Held.{row, st_of}
use Rattle.derive_state.specs.Sizes.{Sizes}
use Rattle.derive_state.proofs.Passes.{length-between}
use Rattle.function_parts.specs.Part.{Part, Indexed, front_is, front-run, body_is, body_run, order, long}
use Rattle.function_names.specs.Named.{pairs_in}
use Rattle.function_record.specs.Closed.{name_cells, closing}
use Rattle.function_nesting.specs.Nested.{walked_s, kept_s, front_s, names_s, body_s, cells_s}
use Rattle.function_nesting.specs.Classes.{made_bytes}
use Rattle.function_localize.specs.Localized.{LocalizeEnsures}
use Rattle.function_localize.proofs.Names.{rows_long}

-- ---- classes stay
written-classes : (o : ℕ) (M : Module) (follow : ℕ → Derived → Derived) (p q : ℕ → Builder → Builder) (cs : Cells) (u : Bool) (m : Builder) → map class (written o M follow p q cs u m) ≡ map class cs
unfolding written
written-classes o M follow p q [] u m = refl
written-classes o M follow p q (c ∷ cs) u m = ap (class c ∷◌) (written-classes o M follow p q cs (undefined_at (target (class c)) (word c) (first_word cs) u) (passed o M follow p q c cs m))

-- cells by their classes and their words
by_parts : (cs ds : Cells) (ss ws : List ℕ) → ss ≡ map class ds → map class cs ≡ map class ds → ws ≡ map word cs → beside ss ws ≡ cs
by_parts cs ds ss ws a b c = ap₂ beside (a ∙ sym b) c ∙ beside_cells cs

-- named expressions by their words
module _ (o : ℕ) (M : Module) (follow : ℕ → Derived → Derived) (p q : ℕ → Builder → Builder) where
  names_back : (ks : List (ℕ × ℕ)) (m : Builder) → name_cells (map word (rows o M follow p q ks m)) ≡ rows o M follow p q ks m
  unfolding rows name_cells
  names_back [] m = refl
  names_back (k ∷ ks) m = ap (λ (l : Cells). (NAMED-EXPR, k.0) ∷ (NAME, through (mapped_to M (arrive o M follow p q (target NAME) k.1 m)) NAME k.1) ∷ l) (names_back ks (arrive o M follow p q (target NAME) k.1 m))

  names_count : (ks : List (ℕ × ℕ)) (m : Builder) → length (pairs_in (map word (rows o M follow p q ks m))) ≡ length ks
  unfolding rows pairs_in
  names_count [] m = refl
  names_count (k ∷ ks) m = ap suc (names_count ks (arrive o M follow p q (target NAME) k.1 m))

-- a stretch at its places
pub between-at : (tags words : List ℕ) (j a b : ℕ) → a + j < b → b ≤ length tags → b ≤ length words → class (get_or (between tags words a b) j (0, 0)) ≡ get_or tags (a + j) 0
between-at tags words zero a b h t w = let q : a + 0 ≡ a = omega arith in rw (q, between_next tags words a b (omega arith) t w) refl
between-at tags words (suc j) a b h t w = let q : a + suc j ≡ suc a + j = omega arith in rw (q, between_next tags words a b (omega arith) t w) (between-at tags words j (suc a) b (omega arith) t w)

join_four : {a a' b b' c c' d d' : Cells} → a ≡ a' → b ≡ b' → c ≡ c' → d ≡ d' → a ++ b ++ c ++ d ≡ a' ++ b' ++ c' ++ d'
join_four p q r s i = p i ++ q i ++ r i ++ s i

module _ {words tags : List ℕ} {n s end : ℕ} {F : Function} (p : Part words tags n s end F) {ea : ℕ} {places : List ℕ} {k named body : ℕ} (x : Indexed words tags s end ea places k named body)
    (o : ℕ) (ready : ℕ → Derived → Type 0) (follow : ℕ → Derived → Derived) (log₀ logtags₀ : List ℕ) (starts₀ maps₀ : List (List ℕ)) (buckets₀ : List ℕ) (stacks₀ : List (List ℕ)) (e₀ : Sizes)
    (r : Sizes) (log logtags : List ℕ) (starts maps : List (List ℕ)) (buckets : List ℕ) (stacks : List (List ℕ)) (L : LocalizeEnsures words n o ready follow F log₀ logtags₀ starts₀ maps₀ buckets₀ stacks₀ e₀ r log logtags starts maps buckets stacks) (z : r.full ≡ false) where
  abbrev S₀ : List ℕ → Derived
  S₀ special = st_of words log₀ logtags₀ starts₀ maps₀ special e₀

  hw : end ≤ length words
  hw = let a = (order p x).in_words in let b = (long p).words_long in omega arith

  ht : end ≤ length tags
  ht = let a = (order p x).in_words in let b = (long p).tags_long in omega arith

  pub front_size : ea - s ≡ length (front F)
  front_size = let a = order p x in let v = hw in let w = ht in sym (ap length (front_is p x) ∙ length-between tags words s ea (omega (arith, a)) (omega (arith, a)))

  pub body_size : end - body ≡ length (flat_block F.body)
  body_size = sym (ap length (body_is p x) ∙ length-between tags words body end ht hw)

  abbrev start : ℕ
  start = e₀.bodytop + (ea - s) + (end - body)

  names_there : (special : List ℕ) → slice start r.bodytop (row stacks 3) ≡ map word (names_s o (mod_of words n) follow F (S₀ special))
  names_there special = rw (front_size, body_size) (L.names z special)

  front_cells : (special : List ℕ) → beside (slice s ea tags) (slice e₀.bodytop (e₀.bodytop + (ea - s)) (row stacks 3)) ≡ front_s o (mod_of words n) follow F (S₀ special)
  unfolding front_s
  front_cells special = by_parts _ (front F) _ _ (rw x.ea_is (part_tags p.stands.held (front-run p))) (written-classes o (mod_of words n) _ _ _ (front F) false _) (rw front_size (L.fronts z special))

  body_cells : (special : List ℕ) → beside (slice body end tags) (slice (e₀.bodytop + (ea - s)) start (row stacks 3)) ≡ body_s o (mod_of words n) follow F (S₀ special)
  unfolding body_s
  body_cells special = by_parts _ (flat_block F.body) _ _ (part_tags p.stands.held (body_run p x)) (written-classes o (mod_of words n) _ _ _ (flat_block F.body) false _) (rw (front_size, body_size) (L.bodies z special))

  name_cells_lem : (special : List ℕ) → ◌≡◌ {A = Cells} ((NAMED, length (pairs_in (slice start r.bodytop (row stacks 3)))) ∷ name_cells (slice start r.bodytop (row stacks 3))) ((NAMED, length (kept_s o (mod_of words n) follow F (S₀ special))) ∷ names_s o (mod_of words n) follow F (S₀ special))
  unfolding names_s
  name_cells_lem special =
      let t = names_there special in
      ap₂ (λ (c : ℕ) (l : Cells). (NAMED, c) ∷ l) (ap (λ (l : List ℕ). length (pairs_in l)) t ∙ names_count o (mod_of words n) _ _ _ (kept_s o (mod_of words n) follow F (S₀ special)) _) (ap name_cells t ∙ names_back o (mod_of words n) _ _ _ (kept_s o (mod_of words n) follow F (S₀ special)) _)

  expr_cells : (special : List ℕ) → ◌≡◌ {A = Cells} ((EXPRESSIONS, r.made) ∷ between (row stacks 1) (row stacks 0) e₀.exprtop r.exprtop) (flat_list EXPRESSIONS (walked_s o (mod_of words n) follow F (S₀ special)).made)
  unfolding flat_list
  expr_cells special = ap₂ (λ (c : ℕ) (l : Cells). (EXPRESSIONS, c) ∷ l) (L.made z special) (L.exprs z special)

  -- LAW: the record
  pub closing_is : (special : List ℕ) → closing tags stacks e₀ r s ea body end ≡ cells_s o (mod_of words n) follow F (S₀ special)
  unfolding closing cells_s
  closing_is special = join_four (front_cells special) (expr_cells special) (name_cells_lem special) (body_cells special)

  -- what `append_record` requires
  pub close_low : e₀.bodytop + ((ea - s) + (end - body)) ≤ r.bodytop
  close_low = let a = front_size in let b = body_size in let c = L.longer z in omega arith

  pub close-pairs : length (pairs_in (slice (e₀.bodytop + ((ea - s) + (end - body))) r.bodytop (row stacks 3))) * 2 + (e₀.bodytop + ((ea - s) + (end - body))) ≡ r.bodytop
  unfolding names_s
  close-pairs =
      let q : e₀.bodytop + ((ea - s) + (end - body)) ≡ start = omega arith in
      let t = names_there [] in
      let ks = kept_s o (mod_of words n) follow F (S₀ []) in
      let a = ap (λ (l : List ℕ). length (pairs_in l)) t ∙ names_count o (mod_of words n) _ _ _ ks _ in
      let b = ap length t ∙ length-map (names_s o (mod_of words n) follow F (S₀ [])) word ∙ rows_long o (mod_of words n) _ _ _ ks _ in
      let st = L.stacks_are z in
      let h = st.high' in
      let g = st.rows 3 (omega arith) in
      let c = length-slice start r.bodytop (row stacks 3) (omega arith) in
      let d = close_low in
      rw q (omega arith)

  pub close_bytes : (i : ℕ) → e₀.exprtop ≤ i → i < r.exprtop + 0 → get_or (row stacks 1) i 0 < 256
  close_bytes i h l =
      let st = L.stacks_are z in
      let g = st.high in
      let a = st.rows 0 (omega arith) in
      let b = st.rows 1 (omega arith) in
      let q : e₀.exprtop + (i - e₀.exprtop) ≡ i = omega arith in
      let c = length-between (row stacks 1) (row stacks 0) e₀.exprtop r.exprtop (omega arith) (omega arith) in
      let d = rw (← L.exprs z []) at (made_bytes o (mod_of words n) follow F p.pass.well (S₀ [])) in
      rw (← q) (rw (between-at (row stacks 1) (row stacks 0) (i - e₀.exprtop) e₀.exprtop r.exprtop (omega arith) (omega arith) (omega arith)) at (each_at d (i - e₀.exprtop) (0, 0) (omega arith)))
