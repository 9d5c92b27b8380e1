use Rattle.std.proofs.Common.{◌≡◌, length}
use Rattle.model_syntax.specs.Value as spec
use Rattle.model_value.specs.Formed.{Formed}
use Rattle.model_value.proofs.requirements.all_met.Given as goal

abbrev pub invariant-loop-left : goal.invariant-loop-left
invariant-loop-left l = record {
  formed : Formed l.left;
  judged : spec.all_met l.k l.left l.env ≡ spec.all_met 0 l.requirements l.env;
}

abbrev pub decreases-loop-left : goal.decreases-loop-left
decreases-loop-left l = length l.left
