use Rattle.std.proofs.Common.{◌≡◌, length, drop}
use Rattle.model_syntax.specs.Environment.{value_of}
use Rattle.model_syntax.specs.Names.{Name}
use Rattle.model_value.specs.Blocks as spec
use Rattle.model_value.proofs.blocks.restore.Given as goal

abbrev pub invariant-loop-i : goal.invariant-loop-i
invariant-loop-i l = record {
  same_length : length l.kept.items ≡ length l.back;
  gives : (y : Name) → spec.handed_back (drop l.i l.back) (drop l.i l.kept.items) (value_of l.env) y
      ≡ spec.handed_back l.back l.fn.kept (value_of l.fn.env) y;
}
