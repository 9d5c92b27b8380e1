use Rattle.std.proofs.Common.{◌≡◌, ◌≤◌, ◌+◌, map, sum, drop}
use Rattle.rup_base.specs.Word as words
use Rattle.model_syntax.specs.Limits as spec
use Rattle.model_syntax.proofs.limits.+tables.Given as goal

abbrev pub invariant-block_tables-loop-s : goal.invariant-block_tables-loop-s
invariant-block_tables-loop-s l = record {
  fits : l.bytes ≤ 4294967295;
  total : words.counted (l.bytes + sum (map spec.stmt_tables (drop l.s-index l.stmts)))
      ≡ words.counted (sum (map spec.stmt_tables l.stmts));
}
