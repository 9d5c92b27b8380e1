use Rattle.std.proofs.Common.{◌≡◌, ◌+◌, ◌≤◌, max, drop, map, sum}
use Rattle.rup_base.specs.Gather.{greatest}
use Rattle.bed_syntax.specs.Shape.{cmd_size, cmd_depth}
use Rattle.bed_syntax.proofs.depth.+depth.Given as goal

abbrev pub invariant-depth_of_cmds-loop-c : goal.invariant-depth_of_cmds-loop-c
invariant-depth_of_cmds-loop-c l =
    (max l.deepest (greatest (map cmd_depth (drop l.c-index l.cs))) ≡ greatest (map cmd_depth l.cs))
    × (l.deepest + sum (map cmd_size (drop l.c-index l.cs)) ≤ sum (map cmd_size l.cs))
