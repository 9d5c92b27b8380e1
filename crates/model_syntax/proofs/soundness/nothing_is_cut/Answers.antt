use Rattle.model_syntax.proofs.laws.Models.{nothing_is_cut}
use Rattle.model_syntax.proofs.soundness.nothing_is_cut.Goals as goal

pub returns : goal.returns
returns c = nothing_is_cut
