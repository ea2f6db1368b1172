-- The import of a function as the code does it: its cells are passed from left to right, each is written at once, by the maps as they are at that moment. `after` is the builder after the cells, `written` is what they become.
-- What a cell needs of those after it is read ahead: of a span's start whether the span is undefined, of an Emit's start its end, of an Atomic its compare.
use Rattle.std.specs.Prelude.{Bool, true, false, ◌||◌, List, [], ◌∷◌, ◌++◌, ℕ, zero, suc, eqb, length, replicate}
use Rattle.model.specs.Outcome.{Cell, Cells, class, word}
use Rattle.model.specs.Table.{FROM, TO, STMT_KIND, NAME, NAMED-EXPR, ARGUMENTS, LOCALS, EXPRESSIONS, NAMED}
use Rattle.model.specs.Tree.{Function, flat_list, flat_block}
use Rattle.model.specs.Module.{Module}
use Rattle.model.specs.References.{Target, copied, start, upto, ref, opt, target, through, first_word, undefined_at, moved}
use Rattle.model.specs.Scope.{in_range}
use Rattle.model.specs.Imports.{Derived}
use Rattle.model.specs.Bodies.{Builder, mapped_to, step, compares_of, each_e, import_initialiser, kept_names}
use Rattle.theory_bodies.specs.Shallow.{need, glance}

-- Atomic and ImageAtomic: "Atomic kinds import the compare operand first"
unfoldable pub atomic_kind : ℕ → Bool
atomic_kind k = eqb k 13 || eqb k 16

-- ---- o is the offset of spans, M the source, `follow` imports a callee, p imports an expression, q is an Emit's first pass
module _ (o : ℕ) (M : Module) (follow : ℕ → Derived → Derived) (p q : ℕ → Builder → Builder) where
  -- what a word refers to is imported
  unfoldable pub arrive : Target → ℕ → Builder → Builder
  arrive copied w m = m
  arrive start w m = m
  arrive upto w m = m
  arrive (ref s) w m = step o M follow p s w m
  arrive (opt s) zero m = m
  arrive (opt s) (suc n) m = step o M follow p s n m

  -- an Emit's first pass over a .. b, and both
  unfoldable pub first : ℕ → ℕ → Builder → Builder
  first a b m = each_e (in_range (record { from = a; to = b })) q m

  unfoldable pub both : ℕ → ℕ → Builder → Builder
  both a b m = each_e (in_range (record { from = a; to = b })) p (first a b m)

  -- a statement's kind, with cs after it: the first code of an atomic function after it is its own
  unfoldable pub early : ℕ → Cells → Builder → Builder
  early k cs m = elim (atomic_kind k) [ true ↦ each_e (compares_of cs) p m | false ↦ m ]

  -- ---- one cell, with cs after it
  unfoldable pub passed : Cell → Cells → Builder → Builder
  passed c cs m =
      elim (eqb (class c) FROM) [
        | true ↦ both (word c) (first_word cs) m
        | false ↦ elim (eqb (class c) STMT_KIND) [
          | true ↦ early (word c) cs m
          | false ↦ arrive (target (class c)) (word c) m
        ]
      ]

  -- u: whether the span last met is undefined. An Emit's start is what was made before its second pass, its end what is made after it
  unfoldable pub word_of : Cell → Cells → Bool → Builder → ℕ
  word_of c cs u m =
      elim (eqb (class c) FROM) [
        | true ↦ length (first (word c) (first_word cs) m).made
        | false ↦ elim (eqb (class c) TO) [
          | true ↦ length m.made
          | false ↦ moved (target (class c)) (through (mapped_to M (passed c cs m)) (class c) (word c)) o u
        ]
      ]

  -- ---- the cells
  unfoldable pub after : Cells → Builder → Builder
  after [] m = m
  after (c ∷ cs) m = after cs (passed c cs m)

  unfoldable pub written : Cells → Bool → Builder → Cells
  written [] u m = []
  written (c ∷ cs) u m = let v = undefined_at (target (class c)) (word c) (first_word cs) u in (class c, word_of c cs v m) ∷ written cs v (passed c cs m)

  -- ---- named expressions, as pairs of a derived expression and a name's word
  unfoldable pub named : List (ℕ × ℕ) → Builder → Builder
  named [] m = m
  named (k ∷ ks) m = named ks (arrive (target NAME) k.1 m)

  unfoldable pub rows : List (ℕ × ℕ) → Builder → Cells
  rows [] m = []
  rows (k ∷ ks) m = (NAMED-EXPR, k.0) ∷ (NAME, through (mapped_to M (arrive (target NAME) k.1 m)) NAME k.1) ∷ rows ks (arrive (target NAME) k.1 m)

-- ---- a function: its declarations, its body, its named expressions
-- name and span, arguments, result, locals
unfoldable pub front : Function → Cells
front F = F.head ++ flat_list ARGUMENTS F.arguments ++ F.result ++ flat_list LOCALS F.locals

unfoldable pub begin : Function → Derived → Builder
begin F s = record { out = s; memo = replicate (length F.exprs) 0; made = [] }

module _ (o : ℕ) (M : Module) (follow : ℕ → Derived → Derived) (F : Function) where
  -- an initialiser's expressions merge, and their operands are imported first
  unfoldable pub front_after : Derived → Builder
  front_after s = after o M follow (import_initialiser o M follow F.exprs) (import_initialiser o M follow F.exprs) (front F) (begin F s)

  unfoldable pub front_written : Derived → Cells
  front_written s = written o M follow (import_initialiser o M follow F.exprs) (import_initialiser o M follow F.exprs) (front F) false (begin F s)

  unfoldable pub body_after : Builder → Builder
  body_after m = after o M follow (need o M follow F.exprs) (glance o M follow F.exprs) (flat_block F.body) m

  unfoldable pub body_written : Builder → Cells
  body_written m = written o M follow (need o M follow F.exprs) (glance o M follow F.exprs) (flat_block F.body) false m

  unfoldable pub names_after : Builder → Builder
  names_after m = named o M follow (need o M follow F.exprs) (glance o M follow F.exprs) (kept_names o M follow F m) m

  -- "each list after its count"
  unfoldable pub names_written : Builder → Cells
  names_written m = (NAMED, length (kept_names o M follow F m)) ∷ rows o M follow (need o M follow F.exprs) (glance o M follow F.exprs) (kept_names o M follow F m) m

  unfoldable pub whole_after : Derived → Builder
  whole_after s = names_after (body_after (front_after s))

  unfoldable pub whole_written : Derived → Cells
  whole_written s = front_written s ++ flat_list EXPRESSIONS (body_after (front_after s)).made ++ names_written (body_after (front_after s)) ++ body_written (front_after s)
