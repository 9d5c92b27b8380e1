use Rattle.model_syntax.proofs.laws.Expressions.{expressions_sound}
use Rattle.model_syntax.proofs.soundness.expressions_are_sound.Goals as goal

pub returns : goal.returns
returns c = expressions_sound
