use Rattle.stmt_rules.proofs.Small as small
use Rattle.stmt_rules.proofs.laws.commands_are_small.Goals as goal

pub returns : goal.returns
returns c = small.commands_are_small c.codes_are_small.ensures
