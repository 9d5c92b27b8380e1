use Rattle.std.proofs.Common.{◌≡◌, ◌≤◌, ◌+◌, map, sum, drop}
use Rattle.rup_base.specs.Word as words
use Rattle.model_syntax.specs.Limits as spec
use Rattle.model_syntax.proofs.limits.+count.Given as goal

abbrev pub invariant-block_count-loop-s : goal.invariant-block_count-loop-s
invariant-block_count-loop-s l = record {
  fits : l.count ≤ 4294967295;
  total : words.counted (l.count + sum (map spec.stmt_count (drop l.s-index l.stmts)))
      ≡ words.counted (sum (map spec.stmt_count l.stmts));
}
