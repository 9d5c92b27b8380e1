use Rattle.rup_top.proofs.Steps.{args_stop}
use Rattle.rup_top.proofs.frame.take_args.Goals as goal

pub returns-in-Err-clause-err : goal.returns-in-Err-clause-err
returns-in-Err-clause-err g c =
    rw (c.into.ensures) (args_stop _ _ _ _ _ _ _ _ c.in-Err.fail c.in-Err.ensures.reads c.in-Err.ensures.cause)
