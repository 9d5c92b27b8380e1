use Rattle.std.proofs.Common.{◌≡◌, ◌≤◌, max, map, drop}
use Rattle.rup_base.specs.Word as words
use Rattle.rup_base.specs.Gather.{greatest}
use Rattle.model_syntax.specs.Limits as spec
use Rattle.model_syntax.proofs.limits.+depth.Given as goal

abbrev pub invariant-block_expr_depth-loop-s : goal.invariant-block_expr_depth-loop-s
invariant-block_expr_depth-loop-s l = record {
  fits : l.depth ≤ 4294967295;
  total : words.counted (max l.depth (greatest (map spec.stmt_depth (drop l.s-index l.stmts))))
      ≡ words.counted (greatest (map spec.stmt_depth l.stmts));
}
