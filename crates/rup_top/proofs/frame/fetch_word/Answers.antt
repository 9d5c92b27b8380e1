use Rattle.std.proofs.Common.{refl}
use Rattle.rup_top.proofs.Steps.{fault_answers}
use Rattle.rup_top.proofs.frame.fetch_word.Goals as goal

pub returns-in-Err-Failed-clause-err : goal.returns-in-Err-Failed-clause-err
returns-in-Err-Failed-clause-err g c =
    let cause = rw c.in-Err-Failed.field-0-is at c.in-Err-Failed.ensures.cause in
    fault_answers _ _ _ _ _ cause.1 cause.2 refl
