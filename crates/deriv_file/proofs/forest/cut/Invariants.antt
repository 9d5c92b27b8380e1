use Rattle.std.proofs.Common.{◌≡◌, ◌++◌, length, drop, reverse, sum}
use Rattle.deriv_file.specs.Forest as spec
use Rattle.deriv_file.proofs.forest.cut.Given as goal

abbrev pub invariant-loop-left : goal.invariant-loop-left
invariant-loop-left l = record {
  cut : l.blocks ++ spec.cut l.left (reverse l.stmts.items) ≡ spec.cut l.counts (reverse l.fn.stmts.items);
  left : drop (sum l.left) (reverse l.stmts.items) ≡ drop (sum l.counts) (reverse l.fn.stmts.items);
}

abbrev pub decreases-loop-left : goal.decreases-loop-left
decreases-loop-left l = length l.left
