use Rattle.std.proofs.Common.{◌≡◌, ◌++◌, drop, map}
use Rattle.sym_heap.specs.Ends as spec
use Rattle.sym_heap.proofs.context.Ctx.take_over.Given as goal

abbrev pub invariant-loop-clause : goal.invariant-loop-clause
invariant-loop-clause l = l.clauses.items
    ++ map (spec.at_ends l.fn.names l.fn.one l.fn.two) (drop l.clause-index l.fn.self.clauses)
    ≡ map (spec.at_ends l.fn.names l.fn.one l.fn.two) l.fn.self.clauses
