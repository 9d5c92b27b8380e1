use Rattle.reg_alloc.specs.declared.plan.At.TheVariants.{Reg}
use Rattle.rv_emit.proofs.Plans.{placed_entry, near_entry}
use Rattle.rv_emit.proofs.statements.place.Goals as goal

pub returns-clause-place : goal.returns-clause-place
returns-clause-place c = placed_entry c.args.plan.now c.requires.plan c.as_slice.result.now c.args.x (Reg 0) c.as_slice.ensures
    c.requires.known

pub returns-clause-near : goal.returns-clause-near
returns-clause-near c = near_entry c.args.plan.now c.requires.plan c.as_slice.result.now c.args.x (Reg 0) c.as_slice.ensures
    c.requires.known
