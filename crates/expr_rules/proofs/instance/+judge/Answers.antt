use Rattle.std.proofs.Common.{rules}
use Rattle.expr_rules.proofs.Folded.{judged_row}
use Rattle.expr_rules.proofs.instance.+judge.Goals as goal

pub judge-returns-clause-row : goal.judge-returns-clause-row
judge-returns-clause-row g t c =
    judged_row (g.B.Book.turn c.args.book.now) c.args.node.now c.args.next.now c.args.e.now c.args.ctx.now c.by_rule.result
    c.by_rule.new.ctx (search rules) (search rules) (search rules)
