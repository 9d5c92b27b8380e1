use Rattle.std.proofs.Common.{◌≡◌, ◌++◌, map, drop}
use Rattle.rup_base.specs.Spelling as texts
use Rattle.bed_syntax.specs.Spelling as spelling
use Rattle.bed_syntax.proofs.printer.+write.Given as goal

abbrev pub invariant-write_cmds-loop-c : goal.invariant-write_cmds-loop-c
invariant-write_cmds-loop-c l =
    l.out ++ texts.behind_spaces (map spelling.cmd_text (drop l.c-index l.cs))
    ≡ l.fn.out ++ texts.behind_spaces (map spelling.cmd_text l.cs)
