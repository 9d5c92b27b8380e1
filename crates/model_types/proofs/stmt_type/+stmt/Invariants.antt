use Rattle.std.proofs.Common.{◌≡◌, ◌+◌, ◌*◌, ◌≤◌, map, sum, drop}
use Rattle.model_syntax.specs.Limits.{stmt_count}
use Rattle.model_syntax.specs.Types as spec
use Rattle.model_types.proofs.stmt_type.+stmt.Given as goal

abbrev pub decreases-check_stmt : goal.decreases-check_stmt
decreases-check_stmt l = 2 * stmt_count l.stmt.now

abbrev pub decreases-check_block : goal.decreases-check_block
decreases-check_block l = 2 * sum (map stmt_count l.stmts.now) + 1

abbrev pub invariant-check_block-loop-stmt : goal.invariant-check_block-loop-stmt
invariant-check_block-loop-stmt l = record {
  same : spec.in_turn (map spec.stmt (drop l.stmt-index l.stmts)) l.state ≡ spec.in_turn (map spec.stmt l.stmts) l.initial.state;
  fewer : sum (map stmt_count (drop l.stmt-index l.stmts)) ≤ sum (map stmt_count l.stmts);
}
