use Rattle.std.proofs.Common.{rules}
use Rattle.reg_alloc.proofs.Answered.{is_liveness}
use Rattle.reg_alloc.proofs.checking.live.Goals as goal

pub returns : goal.returns
returns c = is_liveness c.args.f.now c.walked_lists.result (search rules)
