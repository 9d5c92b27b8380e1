use Rattle.std.proofs.Common.{◌∙◌, map}
use Rattle.model_reader.specs.Reading.{reading}
use Rattle.model_reader.proofs.Blocks.{if_read, for_read}
use Rattle.model_reader.proofs.statements.+stmt.Goals as goal

pub for_of-returns : goal.for_of-returns
for_of-returns t c =
    let carried = c.in_ok-range-2 in
    let body = c.in_ok-x in
    for_read c.args.p (map reading c.args.args.now) c.finished.result c.in_ok-range.range (body.x, body.low, body.high)
    (carried.names, carried.keep) body.body c.in_ok-range.ensures (body.ensures.both.0 ∙ carried.ensures.both.0)
    (rw carried.ensures.both.1 at c.carried.ensures) (rw body.ensures.both.1 at c.block_at.ensures) c.finished.ensures

pub if_of-returns : goal.if_of-returns
if_of-returns t c =
    let first = c.in_ok-choice-2 in
    let second = c.in_ok-test in
    if_read c.args.p (map reading c.args.args.now) c.finished.result c.in_ok-choice.choice
    (second.test, second.names, second.keep) first.first second.second c.in_ok-choice.ensures
    (second.ensures.both.0 ∙ first.ensures.both.0) (rw first.ensures.both.1 at c.block_at.ensures)
    (rw second.ensures.both.1 at c.block_at-2.ensures) c.finished.ensures
