use Rattle.std.proofs.Common.{◌≡◌, ◌+◌, ◌*◌, ◌≤◌, drop, map, sum}
use Rattle.bed_syntax.specs.Shape.{cmd_size}
use Rattle.bed_syntax.specs.Weight.{cmd_weight}
use Rattle.bed_syntax.specs.declared.weights.TheConstants as weights
use Rattle.replayer.proofs.weights.+weight.Given as goal

abbrev pub invariant-weight_of_cmds-loop-c : goal.invariant-weight_of_cmds-loop-c
invariant-weight_of_cmds-loop-c l =
    (l.weight + sum (map (cmd_weight weights.Weights.LARGE) (drop l.c-index l.cs))
    ≡ sum (map (cmd_weight weights.Weights.LARGE) l.cs))
    × (l.weight + 8 * sum (map cmd_size (drop l.c-index l.cs)) ≤ 8 * sum (map cmd_size l.cs))
