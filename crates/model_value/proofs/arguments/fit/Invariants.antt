use Rattle.std.proofs.Common.{◌≡◌, drop}
use Rattle.model_syntax.specs.Value as spec
use Rattle.model_value.proofs.arguments.fit.Given as goal

abbrev pub invariant-loop-i : goal.invariant-loop-i
invariant-loop-i l = spec.fit l.k (drop l.i l.params) (drop l.i l.args) ≡ spec.fit 0 l.params l.args
