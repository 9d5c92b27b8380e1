use Rattle.std.proofs.Common.{arith}
use Rattle.std.proofs.lemmas.Result.{err_from_is_err_and}
use Rattle.image_layout.proofs.Listed.{filling_wrong, code_wrong}
use Rattle.image_layout.proofs.reading.rest.judge_rest.Goals as goal

pub returns-in_err-judge_filling-clause-answer : goal.returns-in_err-judge_filling-clause-answer
returns-in_err-judge_filling-clause-answer c =
    let p = err_from_is_err_and c.from_residual.result c.from_residual.ensures.1 in
    rw (p.1, p.2) (filling_wrong c.args.bytes.now c.args.header c.word_of-offset.result c.in_err-judge_filling.field-0.0
    c.word_of-offset.ensures.number c.in_err-judge_filling.ensures.answer)

pub returns-in_err-judge_whole-clause-answer : goal.returns-in_err-judge_whole-clause-answer
returns-in_err-judge_whole-clause-answer c =
    let p = err_from_is_err_and c.from_residual-in_err-judge_whole.result c.from_residual-in_err-judge_whole.ensures.1 in
    rw (p.1, p.2) (code_wrong c.args.bytes.now c.args.header c.word_of-offset.result _ c.in_err-judge_whole.field-0.0
    c.word_of-offset.ensures.number (omega (arith, c.word_of.ensures.number))
    c.in_ok-judge_filling.ensures.answer c.in_err-judge_whole.ensures.answer)
