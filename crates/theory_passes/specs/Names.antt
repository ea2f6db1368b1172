-- THE NAMED EXPRESSIONS: the names of those that stay are imported one after the other, and each row is written at its turn. Names are records of a table, so neither the memo nor the expressions made change.
use Prim.Native.Nat.{ℕ, zero, suc, ◌*◌}
use Rattle.std.specs.Prelude.{◌≡◌, false, length}
use Rattle.std.proofs.Math.Path.{refl, ap, subst}
use Rattle.std.proofs.Common.{sym, ◌∙◌, arith}
use mathlib.Core.List.{List, [], ◌∷◌}
use Rattle.model.specs.Table.{NAME, NAMED}
use Rattle.model.specs.Tree.{Function, flat_all, flat_list}
use Rattle.model.specs.Module.{Module}
use Rattle.model.specs.Tables.{names}
use Rattle.model.specs.References.{table, opt, targets, target, ref_of, refs, fold_refs, through}
use Rattle.model.specs.Initial.{marked, initials}
use Rattle.model.specs.Scope.{seen}
use Rattle.model.specs.Imports.{Derived}
use Rattle.model.specs.Bodies.{Builder, bring, mapped_to, step, import_body, keep_names, name_cells, named_rows, declared, walked, kept_names, named_after, derived, final, localized}
use Rattle.theory_records.specs.RecordLaws.{All as AllN}
use Rattle.theory_bodies.specs.Context.{Law, Ctx, OwnP, Own}
use Rattle.theory_bodies.specs.Inv.{Inv}
use Rattle.theory_bodies.specs.Body.{no_room, does_b}
use Rattle.theory_bodies.specs.Shallow.{need, glance}
use Rattle.theory_bodies.specs.Function.{Fine, ctx, maps_of, maps_match, before, keep_in, names_in_lem}
use Rattle.theory_passes.specs.Pass.{arrive, named, rows, names_after, names_written}
use Rattle.theory_passes.specs.Passage.{Steady, steady_word}
use Rattle.theory_passes.specs.Ready.{steadily}

module _ (o : ℕ) (M : Module) (follow : ℕ → Derived → Derived) (p q : ℕ → Builder → Builder) where
  -- whichever way expressions are imported
  pub named-run : (r : ℕ → Builder → Builder) (ks : List (ℕ × ℕ)) (m : Builder) → named o M follow p q ks m ≡ fold_refs (refs (name_cells ks)) (step o M follow r) m
  unfolding named name_cells refs fold_refs
  named-run r [] m = refl
  named-run r (k ∷ ks) m = go k.1 (named-run r ks)
    where
      go : (w : ℕ) → ((m : Builder) → named o M follow p q ks m ≡ fold_refs (refs (name_cells ks)) (step o M follow r) m) → named o M follow p q ks (arrive o M follow p q (target NAME) w m) ≡ fold_refs (ref_of (target NAME) w (refs (name_cells ks))) (step o M follow r) m
      go zero f = unfold arrive target targets ref_of in f m
      go (suc n) f = unfold arrive target targets ref_of fold_refs step in f _

  arrive_memo : (w : ℕ) (m : Builder) → (arrive o M follow p q (target NAME) w m).memo ≡ m.memo
  unfolding arrive target targets step bring
  arrive_memo zero m = refl
  arrive_memo (suc n) m = refl

  arrive-made : (w : ℕ) (m : Builder) → (arrive o M follow p q (target NAME) w m).made ≡ m.made
  unfolding arrive target targets step bring
  arrive-made zero m = refl
  arrive-made (suc n) m = refl

  pub named_memo : (ks : List (ℕ × ℕ)) (m : Builder) → (named o M follow p q ks m).memo ≡ m.memo
  unfolding named
  named_memo [] m = refl
  named_memo (k ∷ ks) m = named_memo ks _ ∙ arrive_memo k.1 m

  pub named-made : (ks : List (ℕ × ℕ)) (m : Builder) → (named o M follow p q ks m).made ≡ m.made
  unfolding named
  named-made [] m = refl
  named-made (k ∷ ks) m = named-made ks _ ∙ arrive-made k.1 m

  -- each row is the model's
  rows_steady : (ks : List (ℕ × ℕ)) (d m : Builder) → Steady o M follow p q (refs (name_cells ks)) d m → rows o M follow p q ks m ≡ flat_all (named_rows ks (through (mapped_to M d) NAME))
  unfolding rows name_cells refs named_rows flat_all through
  rows_steady [] d m h = refl
  rows_steady (k ∷ ks) d m h =
      let a = steady_word o M follow p q (target NAME) k.1 (refs (name_cells ks)) d m h in
      rw (a.0, rows_steady ks d _ a.1)

  pub rows-length : (ks : List (ℕ × ℕ)) (m : Builder) → length (rows o M follow p q ks m) ≡ 2 * length ks
  unfolding rows
  rows-length [] m = refl
  rows-length (k ∷ ks) m = omega (arith, rows-length ks (arrive o M follow p q (target NAME) k.1 m))

names_own : (P : ℕ → Type 0) (ks : List (ℕ × ℕ)) → AllN (Own P) (refs (name_cells ks))
unfolding name_cells refs target targets
names_own P [] = tt
names_own P (k ∷ ks) = go k.1 (names_own P ks)
  where
    go : (w : ℕ) → AllN (Own P) (refs (name_cells ks)) → AllN (Own P) (ref_of (opt (table names)) w (refs (name_cells ks)))
    go zero b = unfold ref_of in b
    go (suc n) b = unfold ref_of OwnP in (tt, b)

pub rows_many : (ks : List (ℕ × ℕ)) (f : ℕ → ℕ) → length (named_rows ks f) ≡ length ks
unfolding named_rows
rows_many [] f = refl
rows_many (k ∷ ks) f = ap suc (rows_many ks f)

-- ---- of a function that passed intake
module _ (o : ℕ) (M : Module) (follow : ℕ → Derived → Derived) (Q : ℕ → Type 0) (G : Derived → Type 0) (law : Law o M follow Q G) (F : Function) (fine : Fine (ctx o M follow Q G law F) F) (s : Derived) (good : G s) where
  abbrev c : Ctx
  c = ctx o M follow Q G law F

  abbrev dec : Builder
  dec = declared o M follow F s

  abbrev fin : Builder
  fin = final o M follow F s

  -- after the body
  abbrev mid : Builder
  mid = walked o M follow F dec

  abbrev p : ℕ → Builder → Builder
  p = need o M follow F.exprs

  abbrev q : ℕ → Builder → Builder
  q = glance o M follow F.exprs

  mid-inv : Inv c mid
  unfolding walked seen
  mid-inv =
      (does_b c fine.exprs (marked (initials F)) (λ k. false) (length dec.made) fin (maps_of (mapped_to M fin)) (maps_match M Q fin) (λ k l. refl) (λ cs. Unit {0}) (no_room c fin (maps_of (mapped_to M fin)))
      F.body [] dec fine.fit (before o M follow Q G law F fine s good (λ k. false)) fine.scope).inv

  pub names_after_lem : names_after o M follow F mid ≡ fin
  unfolding names_after final named_after
  names_after_lem = named-run o M follow p q (import_body o M follow F.exprs) (kept_names o M follow F mid) mid

  -- what stays is the same before and after the names
  pub kept_same : kept_names o M follow F fin ≡ kept_names o M follow F mid
  unfolding kept_names
  kept_same = ap (λ (m : List ℕ). keep_names F.named m []) (ap (λ (m : Builder). m.memo) (sym names_after_lem) ∙ unfold names_after in named_memo o M follow p q (kept_names o M follow F mid) mid)

  pub made-same : fin.made ≡ mid.made
  made-same = ap (λ (m : Builder). m.made) (sym names_after_lem) ∙ unfold names_after in named-made o M follow p q (kept_names o M follow F mid) mid

  steady : Steady o M follow p q (refs (name_cells (kept_names o M follow F mid))) fin mid
  unfolding kept_names
  steady =
      let ks = keep_names F.named mid.memo [] in
      let js = refs (name_cells ks) in
      let z = (steadily c fine.exprs js mid mid-inv (names_in_lem M Q ks (keep_in M Q F.named mid.memo [] fine.named_in tt)) (names_own _ ks)).steady in
      subst (λ (d : Builder). Steady o M follow p q js d mid) (sym (named-run o M follow p q p ks mid) ∙ (unfold names_after kept_names in names_after_lem)) z

  pub names_written_lem : names_written o M follow F mid ≡ flat_list NAMED (localized o M follow F s).named
  unfolding names_written localized derived flat_list
  names_written_lem = rw (kept_same, rows_many (kept_names o M follow F mid) (through (mapped_to M fin) NAME), rows_steady o M follow p q (kept_names o M follow F mid) fin mid steady)
