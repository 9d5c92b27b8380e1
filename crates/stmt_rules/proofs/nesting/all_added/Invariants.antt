use Rattle.std.proofs.Common.{◌≡◌, drop}
use Rattle.stmt_rules.specs.Nesting as spec
use Rattle.stmt_rules.proofs.nesting.all_added.Given as goal

abbrev pub invariant-loop-form : goal.invariant-loop-form
invariant-loop-form l = spec.all_added l.at (drop l.form-index l.facts) l.ctx ≡ spec.all_added l.at l.facts l.fn.ctx
