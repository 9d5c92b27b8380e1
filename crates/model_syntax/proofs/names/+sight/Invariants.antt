use Rattle.std.proofs.Common.{◌≡◌, map, drop}
use Rattle.std.specs.Prelude.{fold}
use Rattle.rup_base.specs.Gather.{joined}
use Rattle.model_syntax.specs.Names as spec
use Rattle.model_syntax.proofs.names.+sight.Given as goal

abbrev pub invariant-sight_block-loop-s : goal.invariant-sight_block-loop-s
invariant-sight_block-loop-s l = fold (spec.sight l.params) l.names.keys (joined (map spec.binds (drop l.s-index l.stmts)))
    ≡ fold (spec.sight l.params) l.fn.names.keys (joined (map spec.binds l.stmts))
