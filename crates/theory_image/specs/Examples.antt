-- Well-formedness is not vacuous: a module with every form is well formed, by the laws, and modules that are not read are not.
use Rattle.std.specs.Prelude.{◌≡◌, ℕ}
use Rattle.std.proofs.Common.{sym, ◌∙◌, arith, le-ltb}
use Rattle.model.specs.Outcome.{Laid, laid, bad, strange}
use Rattle.model.specs.Table.{PLACE}
use Rattle.model.specs.Module.{Module, read, write}
use Rattle.model.specs.Carry.{Keeps, carry, WellFormed}
use Rattle.model.specs.Sample.{sample, moved, padded, short, odd}
use Rattle.model.proofs.Sample.{shown}
use Rattle.theory_image.specs.Carries.{carry_well}
use Rattle.theory_image.specs.Modules.{read_well, write_read}

pub sample_well : WellFormed sample
sample_well = read_well (write sample) sample shown.sample-read

-- a map that moves every number and keeps the rest
pub moved_keeps : Keeps moved
unfolding moved
moved_keeps = record { kept = λ s w h. rw (moved, le-ltb s PLACE h) }

pub carried_well : WellFormed (carry moved sample)
carried_well = carry_well moved moved_keeps sample sample_well

-- what is refused when read is not well formed
unread : (m : Module) (l : Laid Module) → read (write m) ≡ l → (l ≡ laid m → ⊥) → WellFormed m → ⊥
unread m l e h w = h (sym e ∙ write_read m w)

pub padded_ill : WellFormed padded → ⊥
padded_ill = unread padded bad shown.padded-read λ e. let z : ◌≡◌ {A = ℕ} 0 1 = cc in omega arith

pub short_ill : WellFormed short → ⊥
short_ill = unread short bad shown.short-read λ e. let z : ◌≡◌ {A = ℕ} 0 1 = cc in omega arith

pub odd_ill : WellFormed odd → ⊥
odd_ill = unread odd strange shown.odd-read λ e. let z : ◌≡◌ {A = ℕ} 0 1 = cc in omega arith
