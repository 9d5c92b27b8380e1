use Rattle.std.proofs.Common.{◌≡◌, fold, drop}
use Rattle.model_value.specs.Blocks as spec
use Rattle.model_value.proofs.blocks.add_all.Given as goal

abbrev pub invariant-loop-x : goal.invariant-loop-x
invariant-loop-x l = fold (spec.add l.names) l.back (drop l.x-index l.inner) ≡ fold (spec.add l.names) l.fn.back l.inner
