use Rattle.expr_rules.proofs.Rows as rows
use Rattle.expr_rules.proofs.laws.instances_are_sound.Goals as goal

pub returns : goal.returns
returns c = rows.instances_are_sound
