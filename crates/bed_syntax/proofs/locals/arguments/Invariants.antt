use Rattle.std.proofs.Common.{◌≡◌, length}
use Rattle.bed_syntax.specs.Shape.{numbers}
use Rattle.bed_syntax.proofs.locals.arguments.Given as goal

abbrev pub invariant-loop-x : goal.invariant-loop-x
invariant-loop-x l = (l.names ≡ numbers l.x) × (length l.names ≡ l.x)
