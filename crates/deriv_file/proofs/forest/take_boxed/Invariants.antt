use Rattle.std.proofs.Common.{◌≡◌, ◌-◌, ◌++◌, length, take, drop, reverse}
use Rattle.deriv_file.proofs.forest.take_boxed.Given as goal

abbrev pub invariant-trees : goal.invariant-trees
invariant-trees l = record {
  taken : l.taken ++ take (l.count - length l.taken) (reverse l.stack.items) ≡ take l.count (reverse l.fn.stack.items);
  left : drop (l.count - length l.taken) (reverse l.stack.items) ≡ drop l.count (reverse l.fn.stack.items);
}

abbrev pub decreases-trees : goal.decreases-trees
decreases-trees l = l.count - length l.taken
