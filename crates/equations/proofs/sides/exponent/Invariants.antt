use Rattle.std.proofs.Common.{◌≡◌}
use Rattle.equations.specs.Equations.{exponent}
use Rattle.equations.specs.laws.Powers.{searched}
use Rattle.equations.proofs.sides.exponent.Given as goal

abbrev pub invariant-loop-k : goal.invariant-loop-k
invariant-loop-k l = searched l.n l.k ≡ exponent l.n
