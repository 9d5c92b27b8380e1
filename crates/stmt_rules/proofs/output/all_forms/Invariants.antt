use Rattle.std.proofs.Common.{◌≡◌, ◌++◌}
use Rattle.stmt_rules.proofs.output.all_forms.Given as goal

abbrev pub invariant-loop-form : goal.invariant-loop-form
invariant-loop-form l = l.all ≡ l.fn.first ++ l.yielded
