use Rattle.std.proofs.Common.{◌≡◌, ◌+◌, ◌≤◌, drop, length}
use Rattle.bed_syntax.specs.Shape.{all_noted}
use Rattle.bed_syntax.proofs.locals.note_all.Given as goal

abbrev pub invariant-loop-x : goal.invariant-loop-x
invariant-loop-x l = (all_noted (drop l.x-index l.xs) l.names ≡ all_noted l.xs l.fn.names)
    × (length l.names ≤ length l.fn.names + l.x-index)
