-- `set_shader_source` meets its contract: as the first source, refused by intake, full, or set.
use mathlib.Core.Path.{refl}
use Rattle.std.proofs.lemmas.Result.{err_from_is_err_and}
use Rattle.session_operations.proofs.Memory.{memory_same}
use Rattle.session_operations.proofs.Setting.{accepted_ground, set_refused, set_not, set_so}
use Rattle.session_operations.specs.Theorems.{operates_valid}
use Rattle.session_operations.proofs.set_shader_source.Goals as goal

pub returns-in_err-n-clause-operates : goal.returns-in_err-n-clause-operates
returns-in_err-n-clause-operates c = let a = c.args in let p = err_from_is_err_and c.from_residual.result c.from_residual.ensures.1 in let zz = set_refused a.image.now c.take_in.new.words c.take_in.new.tags c.take_in.result c.take_in.ensures _ _ _ _ _ _ _ _ _ _ _ _ c.requires a.offset _ c.in_err-n.was _ refl in rw (p.1, p.2) (record { does = zz.0; valid = c.requires; same = memory_same _ })

pub over-source-requires : goal.over-source-requires
over-source-requires c = let a = c.args in accepted_ground a.image.now c.take_in.new.words c.take_in.new.tags c.take_in.result c.take_in.ensures c.in_ok-n.n c.in_ok-n.was

pub returns-in_err-sizes-clause-operates : goal.returns-in_err-sizes-clause-operates
returns-in_err-sizes-clause-operates c = let p = err_from_is_err_and c.from_residual-in_err-sizes.result c.from_residual-in_err-sizes.ensures.1 in let o = c.over-source.ensures in let a = c.args in let zz = set_not a.image.now c.take_in.new.words c.take_in.new.tags c.take_in.result c.take_in.ensures _ _ _ _ _ _ _ _ _ _ _ _ c.requires a.offset c.in_ok-n.n c.in_ok-n.was _ _ _ _ _ _ _ (rw (c.source.ensures.0, c.source.ensures.1, o.0, o.2, o.3) at c.in_err-sizes.ensures.does) refl in rw (p.1, p.2) (record { does = zz.0; valid = zz.1; same = record { words_same = refl; tags_same = refl; derived_same = c.set_source.ensures.same; special_same = refl; stacks_same = refl } })

pub returns-clause-operates : goal.returns-clause-operates
returns-clause-operates c = let o = c.over-source.ensures in let a = c.args in let zz = set_so a.image.now c.take_in.new.words c.take_in.new.tags c.take_in.result c.take_in.ensures _ _ _ _ _ _ _ _ _ _ _ _ c.requires a.offset c.in_ok-n.n c.in_ok-n.was _ _ _ _ _ _ _ (rw (c.source.ensures.0, c.source.ensures.1, o.0, o.2, o.3) at c.in_ok-sizes.ensures.does) refl in rw (c.replace.ensures.0, c.replace.ensures.1) (record { does = zz.0; valid = zz.1; same = record { words_same = refl; tags_same = refl; derived_same = c.set_source.ensures.same; special_same = refl; stacks_same = refl } })

pub returns-in_err-n-clause-valid : goal.returns-in_err-n-clause-valid
returns-in_err-n-clause-valid c = λ v. operates_valid v refl (returns-in_err-n-clause-operates c)

pub returns-in_err-sizes-clause-valid : goal.returns-in_err-sizes-clause-valid
returns-in_err-sizes-clause-valid c = λ v. operates_valid v refl (returns-in_err-sizes-clause-operates c)

pub returns-clause-valid : goal.returns-clause-valid
returns-clause-valid c = λ v. operates_valid v refl (returns-clause-operates c)
