use Rattle.std.proofs.Common.{◌≡◌, ◌≤◌, ◌+◌, map, sum, drop}
use Rattle.rup_base.specs.Word as words
use Rattle.deriv_tree.specs.Measure as spec
use Rattle.deriv_tree.proofs.measure.+expr_size.Given as goal

abbrev pub invariant-loop-kid : goal.invariant-loop-kid
invariant-loop-kid l = record {
  fits : l.size ≤ 4294967295;
  total : words.counted (l.size + sum (map spec.expr_size (drop l.kid-index l.kid-items)))
      ≡ words.counted (spec.expr_size l.node);
}
