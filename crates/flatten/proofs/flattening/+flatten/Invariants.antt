use Rattle.std.proofs.Common.{◌≡◌, ◌+◌, ◌++◌, ◌≤◌, drop, map, sum, length}
use Rattle.bed_syntax.specs.Shape.{cmd_size}
use Rattle.flatten.specs.Code.{cmd_code, in_turn}
use Rattle.flatten.proofs.flattening.+flatten.Given as goal

abbrev pub invariant-flatten_cmds-loop-c : goal.invariant-flatten_cmds-loop-c
invariant-flatten_cmds-loop-c l =
    (l.out ++ (in_turn (map (cmd_code l.names) (drop l.c-index l.cs))).code (length l.tables)
    ≡ l.fn.out ++ (in_turn (map (cmd_code l.names) l.cs)).code (length l.fn.tables))
    × (l.tables ++ (in_turn (map (cmd_code l.names) (drop l.c-index l.cs))).tables
    ≡ l.fn.tables ++ (in_turn (map (cmd_code l.names) l.cs)).tables)
    × (length l.tables + sum (map cmd_size (drop l.c-index l.cs)) ≤ length l.fn.tables + sum (map cmd_size l.cs))
    × (sum (map cmd_size (drop l.c-index l.cs)) ≤ sum (map cmd_size l.cs))
