use Rattle.model_syntax.proofs.laws.Models.{models_sound}
use Rattle.model_syntax.proofs.soundness.models_are_sound.Goals as goal

pub returns : goal.returns
returns c = models_sound
