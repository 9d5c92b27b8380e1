use Rattle.stmt_rules.proofs.Trees as trees
use Rattle.stmt_rules.proofs.laws.statements_are_sound.Goals as goal

pub returns : goal.returns
returns c = trees.statements_are_sound c.instances_are_sound.ensures
