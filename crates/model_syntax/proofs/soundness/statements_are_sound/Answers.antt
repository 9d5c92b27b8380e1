use Rattle.model_syntax.proofs.laws.Statements.{statements_sound}
use Rattle.model_syntax.proofs.soundness.statements_are_sound.Goals as goal

pub returns : goal.returns
returns c = statements_sound
