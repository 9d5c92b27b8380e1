use Rattle.bed_meaning.proofs.Steady.{more_fuel}
use Rattle.bed_meaning.proofs.laws.more_fuel_keeps.Goals as goal

pub returns : goal.returns
returns c = λ w p. more_fuel w p
