use Rattle.std.proofs.Common.{◌≡◌, fold, drop}
use Rattle.model_value.specs.Blocks as spec
use Rattle.model_value.proofs.blocks.come_back.Given as goal

abbrev pub invariant-loop-stmt : goal.invariant-loop-stmt
invariant-loop-stmt l =
    fold (λ back w. fold (spec.add l.names) back (spec.changes w)) l.back (drop l.stmt-index l.block)
    ≡ spec.come_back l.names l.block
