use Rattle.std.proofs.Common.{rules}
use Rattle.reg_alloc.proofs.Own.{shared}
use Rattle.reg_alloc.proofs.sharing.shared_plan.Goals as goal

pub returns : goal.returns
returns c = shared c.args.f.now.vars c.as_slice.result.now c.places_of.result (search rules)
