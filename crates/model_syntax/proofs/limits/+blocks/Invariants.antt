use Rattle.std.proofs.Common.{◌≡◌, ◌≤◌, max, map, drop}
use Rattle.rup_base.specs.Word as words
use Rattle.rup_base.specs.Gather.{greatest}
use Rattle.model_syntax.specs.Limits as spec
use Rattle.model_syntax.proofs.limits.+blocks.Given as goal

abbrev pub invariant-deepest_block-loop-s : goal.invariant-deepest_block-loop-s
invariant-deepest_block-loop-s l = record {
  fits : l.depth ≤ 4294967295;
  total : words.counted (max l.depth (greatest (map spec.stmt_blocks (drop l.s-index l.stmts))))
      ≡ words.counted (greatest (map spec.stmt_blocks l.stmts));
}
