use Rattle.std.proofs.Common.{rules}
use Rattle.expr_rules.proofs.Folded.{multiple_row}
use Rattle.expr_rules.proofs.rules.mulk.multiple.Goals as goal

pub returns : goal.returns
returns c =
    multiple_row c.args.certs.now c.args.at c.args.p c.args.q c.args.ctx.now c.product.result c.args.ctx.now c.args.factor
    c.args.op c.room-goal.result c.scale-form.result c.in_ok-code.code
    (search rules) (search rules) (search rules) c.product.ensures
