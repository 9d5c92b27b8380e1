use Rattle.std.proofs.Common.{◌≡◌, ◌≤◌, ◌+◌, ◌*◌, true, length, map, sum}
use Rattle.stmt_rules.specs.Narrow.{are_narrow}
use Rattle.stmt_rules.specs.Row as spec
use Rattle.stmt_rules.proofs.instance.+judge.Given as goal

-- the nodes that are left give what all of them do
abbrev pub invariant-walk-nodes : goal.invariant-walk-nodes
invariant-walk-nodes g l = record {
  row : spec.walk l.owner l.cond (map (spec.judged (g.B.Book.turn l.book)) l.nodes) l.next l.left l.out l.ctx
      ≡ (spec.block_judged (g.B.Book.turn l.book) l.block).row l.fn.next l.owner l.cond l.stmts l.fn.ctx;
  counted : l.next + sum (map (λ n. n.size) (map (spec.judged (g.B.Book.turn l.book)) l.nodes))
      ≡ l.fn.next + (spec.block_judged (g.B.Book.turn l.book) l.block).size;
  small : l.next + sum (map (λ n. n.size) (map (spec.judged (g.B.Book.turn l.book)) l.nodes)) ≤ 20_000;
  behind : l.fn.next ≤ l.next;
  narrow : are_narrow l.left ≡ true;
}

abbrev pub decreases-walk-nodes : goal.decreases-walk-nodes
decreases-walk-nodes g l = length l.nodes

-- Each call takes a part of the tree with fewer nodes, or the same part one step further.

abbrev pub decreases-judge : goal.decreases-judge
decreases-judge g l = 6 * (spec.judged (g.B.Book.turn l.book.now) l.node.now).size

abbrev pub decreases-walk : goal.decreases-walk
decreases-walk g l = 6 * (spec.block_judged (g.B.Book.turn l.book.now) l.block.now).size + 1

abbrev pub decreases-side : goal.decreases-side
decreases-side g l = 6 * (spec.block_judged (g.B.Book.turn l.book.now) l.block.now).size + 2

abbrev pub decreases-sides : goal.decreases-sides
decreases-sides g l = 6 * ((spec.block_judged (g.B.Book.turn l.book.now) l.one.now).size
    + (spec.block_judged (g.B.Book.turn l.book.now) l.two.now).size) + 3

abbrev pub decreases-turns : goal.decreases-turns
decreases-turns g l = 6 * (spec.block_judged (g.B.Book.turn l.book.now) l.block.now).size + 2

abbrev pub decreases-looping : goal.decreases-looping
decreases-looping g l = 6 * spec.block_sizes (map (spec.block_judged (g.B.Book.turn l.book.now)) l.blocks.now) + 4

abbrev pub decreases-branching : goal.decreases-branching
decreases-branching g l = 6 * spec.block_sizes (map (spec.block_judged (g.B.Book.turn l.book.now)) l.blocks.now) + 4

abbrev pub decreases-parts : goal.decreases-parts
decreases-parts g l = 6 * spec.block_sizes (map (spec.block_judged (g.B.Book.turn l.book.now)) l.blocks.now) + 5
