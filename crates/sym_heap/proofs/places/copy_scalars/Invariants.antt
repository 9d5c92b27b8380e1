use Rattle.std.proofs.Common.{◌≡◌, ◌++◌, drop}
use Rattle.sym_heap.proofs.places.copy_scalars.Given as goal

abbrev pub invariant-loop-held : goal.invariant-loop-held
invariant-loop-held l = l.copies.items ++ drop l.held-index l.scalars ≡ l.scalars
