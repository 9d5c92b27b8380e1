use Rattle.std.proofs.Common.{◌≡◌, ◌+◌, ◌≤◌, drop, map, sum, length}
use Rattle.bed_syntax.specs.Shape.{cmd_locals, cmd_size, in_turn}
use Rattle.bed_syntax.proofs.locals.+note.Given as goal

abbrev pub invariant-note_cmds-loop-c : goal.invariant-note_cmds-loop-c
invariant-note_cmds-loop-c l =
    (in_turn (map cmd_locals (drop l.c-index l.cs)) l.names ≡ in_turn (map cmd_locals l.cs) l.fn.names)
    × (length l.names + sum (map cmd_size (drop l.c-index l.cs)) ≤ length l.fn.names + sum (map cmd_size l.cs))
