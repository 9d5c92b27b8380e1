use Rattle.std.proofs.Common.{◌≡◌, ◌≤◌, ◌+◌, ◌*◌, true, drop, map, sum}
use Rattle.model_syntax.specs.Limits.{stmt_count}
use Rattle.stmt_rules.specs.Narrow.{are_narrow}
use Rattle.derive_search.specs.Guide.{guided}
use Rattle.derive_search.specs.Nodes.{in_order}
use Rattle.derive_search.specs.Statements as spec
use Rattle.derive_search.proofs.statements.+statements.Given as goal

-- the statements that are left give what all of them do
abbrev pub invariant-seek_block-loop-t : goal.invariant-seek_block-loop-t
invariant-seek_block-loop-t g l = record {
  found : in_order (map (spec.seek_stmt (guided g.B.Book.turn l.guide) l.deep) (drop l.t-index l.block)) l.nodes l.s
      ≡ spec.seek_block (guided g.B.Book.turn l.guide) l.deep l.block l.fn.s;
  fewer : l.s.stmts ≤ l.s.entered;
  narrow : are_narrow (drop l.t-index l.block) ≡ true;
  counted : sum (map stmt_count (drop l.t-index l.block)) ≤ sum (map stmt_count l.block);
}

-- Each call takes a statement or statements inside the one that it was called for, or the same one step further.

abbrev pub decreases-seek_stmt : goal.decreases-seek_stmt
decreases-seek_stmt g l = 7 * stmt_count l.t.now + 3

abbrev pub decreases-own_node : goal.decreases-own_node
decreases-own_node g l = 7 * stmt_count l.t.now + 2

abbrev pub decreases-own_goal : goal.decreases-own_goal
decreases-own_goal g l = 7 * stmt_count l.t.now + 1

abbrev pub decreases-statement : goal.decreases-statement
decreases-statement g l = 7 * stmt_count l.t.now

abbrev pub decreases-seek_if : goal.decreases-seek_if
decreases-seek_if g l = 7 * (sum (map stmt_count l.first.now) + sum (map stmt_count l.second.now)) + 6

abbrev pub decreases-seek_for : goal.decreases-seek_for
decreases-seek_for g l = 7 * sum (map stmt_count l.body.now) + 6

abbrev pub decreases-seek_side : goal.decreases-seek_side
decreases-seek_side g l = 7 * sum (map stmt_count l.block.now) + 5

abbrev pub decreases-seek_block : goal.decreases-seek_block
decreases-seek_block g l = 7 * sum (map stmt_count l.block.now) + 4
