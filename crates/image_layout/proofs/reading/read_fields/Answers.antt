use Rattle.std.proofs.lemmas.Result.{err_from_is_err_and}
use Rattle.image_layout.specs.Reading.{image_of}
use Rattle.image_layout.proofs.Read.{start_wrong, with_right_lists, wrong_middle, wrong_lists}
use Rattle.image_layout.proofs.reading.read_fields.Goals as goal

pub returns-in_err-judge_start : goal.returns-in_err-judge_start
returns-in_err-judge_start c =
    let p = err_from_is_err_and c.from_residual.result c.from_residual.ensures.1 in
    rw (p.1, p.2) (start_wrong c.args.bytes.now c.in_err-judge_start.field-0.0 (image_of c.args.bytes.now)
    c.in_err-judge_start.ensures.answer)

pub returns-in-Ok : goal.returns-in-Ok
returns-in-Ok c = with_right_lists c.args.bytes.now c.in-Ok.lists c.with_lists.result c.in_ok-judge_start.ensures.answer
    c.in-Ok.ensures.answer c.with_lists.ensures

pub returns-in_err-judge_middle-in-Err-Refused : goal.returns-in_err-judge_middle-in-Err-Refused
returns-in_err-judge_middle-in-Err-Refused c =
    let p = err_from_is_err_and c.from_residual-in_err-judge_middle-in-Err-Refused.result
    c.from_residual-in_err-judge_middle-in-Err-Refused.ensures.1 in
    rw (p.1, p.2) (wrong_middle c.args.bytes.now c.in-Err-Refused.refusal c.in_err-judge_middle-in-Err-Refused.field-0.0
    (image_of c.args.bytes.now) c.in_ok-judge_start.ensures.answer
    (rw c.in-Err-Refused.field-0-is at c.in-Err-Refused.ensures.answer) c.in_err-judge_middle-in-Err-Refused.ensures)

pub returns-in_ok-judge_middle-in-Err-Refused : goal.returns-in_ok-judge_middle-in-Err-Refused
returns-in_ok-judge_middle-in-Err-Refused c =
    rw c.in-Err-Refused.field-0-is
    (wrong_lists c.args.bytes.now c.in-Err-Refused.refusal (image_of c.args.bytes.now) c.in_ok-judge_start.ensures.answer
    (rw c.in-Err-Refused.field-0-is at c.in-Err-Refused.ensures.answer) c.in_ok-judge_middle-in-Err-Refused.ensures)
