use Rattle.std.proofs.Common.{◌≡◌, drop}
use Rattle.model_syntax.specs.Types as spec
use Rattle.model_types.proofs.facts.requirements.Given as goal

abbrev pub invariant-loop-r : goal.invariant-loop-r
invariant-loop-r l = spec.requirements l.k (drop l.r-index l.rs) l.scope ≡ spec.requirements 0 l.rs l.scope
