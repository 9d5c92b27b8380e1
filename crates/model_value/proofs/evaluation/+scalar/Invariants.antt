use Rattle.std.proofs.Common.{length}
use Rattle.model_value.proofs.evaluation.+scalar.Given as goal

abbrev pub decreases-scalar : goal.decreases-scalar
decreases-scalar l = length l.locals.now
