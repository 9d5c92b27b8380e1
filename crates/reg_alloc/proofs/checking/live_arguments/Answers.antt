use Rattle.std.proofs.Common.{rules}
use Rattle.reg_alloc.proofs.Answered.{are_live}
use Rattle.reg_alloc.proofs.checking.live_arguments.Goals as goal

pub returns : goal.returns
returns c = are_live c.args.f.now c.requires c.marked_arguments.result (search rules)
