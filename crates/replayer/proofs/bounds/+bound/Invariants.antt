use Rattle.std.proofs.Common.{◌≡◌, ◌≤◌, ◌<◌, ◌+◌, ◌*◌, ◌^◌, length, map, sum}
use Rattle.deriv_tree.specs.Measure.{stmt_size}
use Rattle.bed_syntax.specs.Shape.{cmd_size}
use Rattle.bed_syntax.specs.declared.weights.TheConstants as weights
use Rattle.replayer.specs.Bounds as spec
use Rattle.replayer.proofs.bounds.+bound.Given as goal

-- the nodes and commands that are left give what all of them do
abbrev pub invariant-in_order-nodes : goal.invariant-in_order-nodes
invariant-in_order-nodes l = record {
  row : spec.in_order l.at l.more l.next l.left (map (spec.priced weights.Weights.LARGE) l.cmds) l.sum l.trips.left.now
      ≡ spec.in_order l.fn.at l.fn.more l.fn.first l.fn.nodes (map (spec.priced weights.Weights.LARGE) l.fn.cmds) l.fn.so_far
      l.fn.trips.left.now;
  few : l.next + sum (map stmt_size l.left) ≤ 20_000;
  small : l.more + 8 * sum (map cmd_size l.cmds) < 2 ^ 31;
  fewer : sum (map cmd_size l.cmds) ≤ sum (map cmd_size l.fn.cmds);
}

abbrev pub decreases-in_order-nodes : goal.decreases-in_order-nodes
decreases-in_order-nodes l = length l.left

abbrev pub decreases-bound_of : goal.decreases-bound_of
decreases-bound_of l = 4 * cmd_size l.c.now

abbrev pub decreases-choice : goal.decreases-choice
decreases-choice l = 4 * (cmd_size l.p.now + cmd_size l.q.now) + 1

abbrev pub decreases-turns : goal.decreases-turns
decreases-turns l = 4 * cmd_size l.p.now + 1

abbrev pub decreases-last_bound : goal.decreases-last_bound
decreases-last_bound l = 4 * sum (map cmd_size l.cmds.now) + 1

abbrev pub decreases-own : goal.decreases-own
decreases-own l = 4 * sum (map cmd_size l.cmds.now) + 1

abbrev pub decreases-in_order : goal.decreases-in_order
decreases-in_order l = 4 * sum (map cmd_size l.cmds.now) + 2
