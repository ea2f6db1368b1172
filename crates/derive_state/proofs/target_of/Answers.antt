-- `target_of` meets its contract: each class by computing, and those that refer to nothing by their ranges.
use native.Mathlib.Omega.{arith}
use Rattle.model.specs.References.{target, targets}
use Rattle.derive_state.specs.Refers.{unspanned, tab_of}
use Rattle.derive_state.proofs.Classes.{nothing_of}
use Rattle.derive_state.proofs.target_of.Goals as goal

pub returns-in-83 : goal.returns-in-83
unfolding target targets unspanned tab_of
returns-in-83 c = (rw c.in-83.is, omega arith)

pub returns-in-84 : goal.returns-in-84
unfolding target targets unspanned tab_of
returns-in-84 c = (rw c.in-84.is, omega arith)

pub returns-in-85 : goal.returns-in-85
unfolding target targets unspanned tab_of
returns-in-85 c = (rw c.in-85.is, omega arith)

pub returns-in-86 : goal.returns-in-86
unfolding target targets unspanned tab_of
returns-in-86 c = (rw c.in-86.is, omega arith)

pub returns-in-87 : goal.returns-in-87
unfolding target targets unspanned tab_of
returns-in-87 c = (rw c.in-87.is, omega arith)

pub returns-in-88 : goal.returns-in-88
unfolding target targets unspanned tab_of
returns-in-88 c = (rw c.in-88.is, omega arith)

pub returns-in-89 : goal.returns-in-89
unfolding target targets unspanned tab_of
returns-in-89 c = (rw c.in-89.is, omega arith)

pub returns-in-90 : goal.returns-in-90
unfolding target targets unspanned tab_of
returns-in-90 c = (rw c.in-90.is, omega arith)

pub returns-in-91 : goal.returns-in-91
unfolding target targets unspanned tab_of
returns-in-91 c = (rw c.in-91.is, tt)

pub returns-in-92 : goal.returns-in-92
unfolding target targets unspanned tab_of
returns-in-92 c = (rw c.in-92.is, tt)

pub returns-in-93 : goal.returns-in-93
unfolding target targets unspanned tab_of
returns-in-93 c = (rw c.in-93.is, tt)

pub returns-in-94 : goal.returns-in-94
unfolding target targets unspanned tab_of
returns-in-94 c = (rw c.in-94.is, tt)

pub returns-in-99 : goal.returns-in-99
unfolding target targets unspanned tab_of
returns-in-99 c = (rw c.in-99.is, tt)

pub returns-in-100 : goal.returns-in-100
unfolding target targets unspanned tab_of
returns-in-100 c = (rw c.in-100.is, tt)

pub returns-in-101 : goal.returns-in-101
unfolding target targets unspanned tab_of
returns-in-101 c = (rw c.in-101.is, tt)

pub returns-in-102 : goal.returns-in-102
unfolding target targets unspanned tab_of
returns-in-102 c = (rw c.in-102.is, tt)

pub returns-in_default : goal.returns-in_default
returns-in_default c = (nothing_of c.args.class (let h = c.ranges.class.fits in omega arith) (λ a b. omega (arith, c.in_default)) (λ a b. omega (arith, c.in_default)), tt)
