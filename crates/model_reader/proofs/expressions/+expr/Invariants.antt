use Rattle.std.proofs.Common.{◌+◌, ◌*◌}
use Rattle.model_reader.specs.Sizes.{size, sizes}
use Rattle.model_reader.proofs.expressions.+expr.Given as goal

abbrev pub decreases-read_expr : goal.decreases-read_expr
decreases-read_expr l = 2 * size l.form.now

abbrev pub decreases-worded_expr : goal.decreases-worded_expr
decreases-worded_expr l = 2 * sizes l.args.now + 3

abbrev pub decreases-one_of : goal.decreases-one_of
decreases-one_of l = 2 * sizes l.args.now + 2

abbrev pub decreases-two_of : goal.decreases-two_of
decreases-two_of l = 2 * sizes l.args.now + 2

abbrev pub decreases-get_of : goal.decreases-get_of
decreases-get_of l = 2 * sizes l.args.now + 2

abbrev pub decreases-tab_of : goal.decreases-tab_of
decreases-tab_of l = 2 * sizes l.args.now + 2

abbrev pub decreases-operand_at : goal.decreases-operand_at
decreases-operand_at l = 2 * sizes l.args.now + 1
