use Rattle.std.proofs.Common.{◌≡◌, drop}
use Rattle.model_syntax.specs.Linear as spec
use Rattle.model_types.proofs.linear.added.Given as goal

abbrev pub invariant-loop-term : goal.invariant-loop-term
invariant-loop-term l = spec.added l.sum (drop l.term-index l.further) ≡ spec.added l.terms l.further
