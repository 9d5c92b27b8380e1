use Rattle.std.proofs.Common.{◌≡◌, [], drop}
use Rattle.model_syntax.specs.Types as spec
use Rattle.model_types.proofs.carried.distinct_known.Given as goal

abbrev pub invariant-loop-x : goal.invariant-loop-x
invariant-loop-x l = spec.at l.place (spec.distinct_known l.scope l.seen.keys (drop l.x-index l.names))
    ≡ spec.at l.place (spec.distinct_known l.scope [] l.names)
