use Rattle.std.proofs.Common.{◌≡◌, drop}
use Rattle.bed_syntax.specs.Shape as shape
use Rattle.bed_syntax.proofs.locals.is_known.Given as goal

abbrev pub invariant-loop-name : goal.invariant-loop-name
invariant-loop-name l = shape.is_known (drop l.name-index l.names) l.x ≡ shape.is_known l.names l.x
