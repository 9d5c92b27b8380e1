use Rattle.std.proofs.Common.{length}
use Rattle.model_value.proofs.evaluation.+array.Given as goal

abbrev pub decreases-array : goal.decreases-array
decreases-array l = length l.locals.now
