use Rattle.std.proofs.Common.{◌≡◌, drop}
use Rattle.model_syntax.specs.Types as spec
use Rattle.model_types.proofs.facts.facts.Given as goal

abbrev pub invariant-loop-r : goal.invariant-loop-r
invariant-loop-r l = spec.at l.place (spec.facts (drop l.r-index l.rs) l.scope) ≡ spec.at l.place (spec.facts l.rs l.scope)
