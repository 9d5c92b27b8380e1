use Rattle.std.proofs.Common.{◌≡◌, ◌++◌}
use Rattle.rup_top.proofs.commands.compile.append.Given as goal

abbrev pub invariant-loop-lemma : goal.invariant-loop-lemma
invariant-loop-lemma l = l.all ≡ l.fn.first ++ l.yielded
