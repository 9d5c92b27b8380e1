use Rattle.std.proofs.Common.{◌≡◌, drop}
use Rattle.sym_heap.specs.Turns.{reserving, unlisted_locals}
use Rattle.stmt_rules.proofs.nesting.unlisted_reserved.Given as goal

abbrev pub invariant-loop-held : goal.invariant-loop-held
invariant-loop-held l =
    reserving (unlisted_locals l.names (drop l.held-index l.scalars)) l.ctx
    ≡ reserving (unlisted_locals l.names l.scalars) l.fn.ctx
