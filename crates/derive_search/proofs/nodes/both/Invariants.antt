use Rattle.std.proofs.Common.{◌≡◌, ◌++◌}
use Rattle.derive_search.proofs.nodes.both.Given as goal

abbrev pub invariant-loop-element : goal.invariant-loop-element
invariant-loop-element g l = l.all ≡ l.fn.first ++ l.yielded
