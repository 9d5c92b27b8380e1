use Rattle.run_setup.proofs.laws.Places.{total_done}
use Rattle.run_setup.proofs.judging.total_size.Goals as goal

pub returns : goal.returns
returns c = total_done c.each.total c.each.left.now c.args.args.now c.in_default.len_below c.each.invariant.small
    c.each.invariant.left
