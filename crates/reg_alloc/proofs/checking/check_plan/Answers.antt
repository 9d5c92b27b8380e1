use Rattle.std.proofs.Common.{rules}
use Rattle.reg_alloc.proofs.Answered.{fits_plan}
use Rattle.reg_alloc.proofs.checking.check_plan.Goals as goal

pub returns : goal.returns
returns c = fits_plan c.args.f.now c.args.p.now c.is_fitting.result (search rules)
