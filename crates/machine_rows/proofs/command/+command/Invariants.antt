use Rattle.std.proofs.Common.{◌+◌, ◌≤◌, map, sum}
use Rattle.bed_syntax.specs.Shape.{cmd_size}
use Rattle.bed_syntax.specs.Weight.{cmd_weight}
use Rattle.bed_syntax.specs.declared.weights.TheConstants as weights
use Rattle.machine_rows.proofs.command.+command.Given as goal

abbrev pub invariant-commands-loop-form : goal.invariant-commands-loop-form
invariant-commands-loop-form l =
    sum (map cmd_size l.commands) + sum (map (cmd_weight weights.Weights.LARGE) l.commands) + l.room ≤ l.fn.room
