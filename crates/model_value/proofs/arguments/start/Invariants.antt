use Rattle.std.proofs.Common.{◌≡◌, [], drop}
use Rattle.model_syntax.specs.Value as spec
use Rattle.model_value.proofs.arguments.start.Given as goal

abbrev pub invariant-loop-i : goal.invariant-loop-i
invariant-loop-i l = spec.start (drop l.i l.params) (drop l.i l.args) l.env ≡ spec.start l.params l.args []
