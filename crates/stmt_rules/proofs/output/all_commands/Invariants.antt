use Rattle.std.proofs.Common.{◌≡◌, ◌++◌}
use Rattle.stmt_rules.proofs.output.all_commands.Given as goal

abbrev pub invariant-loop-command : goal.invariant-loop-command
invariant-loop-command l = l.all ≡ l.fn.first ++ l.yielded
