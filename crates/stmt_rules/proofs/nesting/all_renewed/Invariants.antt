use Rattle.std.proofs.Common.{◌≡◌, drop}
use Rattle.stmt_rules.specs.Nesting as spec
use Rattle.stmt_rules.proofs.nesting.all_renewed.Given as goal

abbrev pub invariant-loop-y : goal.invariant-loop-y
invariant-loop-y l = spec.all_renewed l.at (drop l.y-index l.names) l.ends l.ctx ≡ spec.all_renewed l.at l.names l.ends l.fn.ctx
