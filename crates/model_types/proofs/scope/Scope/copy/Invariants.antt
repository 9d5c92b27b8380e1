use Rattle.std.proofs.Common.{◌≡◌, ◌++◌, drop}
use Rattle.model_types.proofs.scope.Scope.copy.Given as goal

abbrev pub invariant-loop-entry : goal.invariant-loop-entry
invariant-loop-entry l = l.copy ++ drop l.entry-index l.entry-items ≡ l.self
