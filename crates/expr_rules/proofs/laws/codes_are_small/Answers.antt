use Rattle.expr_rules.proofs.SmallRows as rows
use Rattle.expr_rules.proofs.laws.codes_are_small.Goals as goal

pub returns : goal.returns
returns c = rows.codes_are_small
