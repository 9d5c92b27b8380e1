use Rattle.std.proofs.Common.{◌≡◌, drop}
use Rattle.model_syntax.specs.Types as spec
use Rattle.model_types.proofs.carried.kept.Given as goal

abbrev pub invariant-loop-x : goal.invariant-loop-x
invariant-loop-x l = spec.kept (drop l.x-index l.names) l.scope l.end ≡ spec.kept l.names l.scope l.end
