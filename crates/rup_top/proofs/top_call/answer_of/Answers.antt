use Rattle.rup_top.proofs.Steps.{tells_so}
use Rattle.rup_top.proofs.top_call.answer_of.Goals as goal

pub returns-clause-answers : goal.returns-clause-answers
returns-clause-answers g c = tells_so _ c.commanded-ended.result c.answered.result c.commanded-ended.ensures.follows
    c.answered.ensures
