use Rattle.run_setup.proofs.laws.Places.{values_done}
use Rattle.run_setup.proofs.loading.argument_values.Goals as goal

pub returns : goal.returns
returns c = values_done c.each.end c.each.kinds_left.now c.each.args_left.now c.each.values _ c.in_default.len_below
    c.each.invariant.left
