use Rattle.std.proofs.Common.{rules, w64, of_z, to_z}
use Rattle.expr_rules.proofs.Folded.{mulk_row}
use Rattle.expr_rules.proofs.rules.mulk.after.Goals as goal

pub returns : goal.returns
returns c = mulk_row c.args.certs.now c.args.at c.args.p c.args.q c.args.ctx.now c.multiple.result c.args.ctx.now c.in-Some.factor
    (to_z w64 (of_z w64 c.in-Some.factor)) (search rules) (search rules) c.multiple.ensures
