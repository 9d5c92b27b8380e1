use Rattle.std.proofs.Common.{rules}
use Rattle.reg_alloc.proofs.Own.{serves, registers}
use Rattle.reg_alloc.proofs.allocation.allocate.Goals as goal

pub returns-clause-serves : goal.returns-clause-serves
returns-clause-serves c = serves c.args.f.now c.own_plan.result (search rules)

pub returns-clause-registers : goal.returns-clause-registers
returns-clause-registers c = registers c.args.f.now c.own_plan.result (search rules)
