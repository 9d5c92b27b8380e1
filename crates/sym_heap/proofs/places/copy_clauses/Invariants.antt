use Rattle.std.proofs.Common.{◌≡◌, ◌++◌, drop}
use Rattle.sym_heap.proofs.places.copy_clauses.Given as goal

abbrev pub invariant-loop-clause : goal.invariant-loop-clause
invariant-loop-clause l = l.copies.items ++ drop l.clause-index l.clauses ≡ l.clauses
