use Rattle.std.proofs.Common.{◌≡◌, ◌++◌, map, drop}
use Rattle.model_syntax.specs.Environment.{value_of}
use Rattle.model_value.proofs.blocks.aside.Given as goal

abbrev pub invariant-loop-x : goal.invariant-loop-x
invariant-loop-x l = l.kept ++ map (value_of l.env) (drop l.x-index l.back) ≡ map (value_of l.env) l.back
