use Rattle.std.proofs.Common.{arith}
use Rattle.run_setup.proofs.laws.Places.{judged_small}
use Rattle.rup_top.proofs.commands.run.bound_at.Goals as goal

pub symbol_values-requires : goal.symbol_values-requires
symbol_values-requires c = rw c.as_slice-2.ensures (omega (arith, (judged_small c.args.image.now c.args.args.now c.requires).1))
