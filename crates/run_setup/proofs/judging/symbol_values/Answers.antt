use Rattle.run_setup.proofs.laws.Places.{symbols_done}
use Rattle.run_setup.proofs.judging.symbol_values.Goals as goal

pub returns : goal.returns
returns c = symbols_done c.each.kinds_left.now c.each.args_left.now c.each.values _ c.in_default.len_below c.each.invariant.left
