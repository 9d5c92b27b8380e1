use Rattle.std.proofs.Common.{◌≡◌, fold, drop}
use Rattle.std.specs.Option.{option_copied}
use Rattle.model_syntax.specs.Environment.{elements}
use Rattle.model_syntax.specs.Value as spec
use Rattle.model_value.proofs.execution.folded.Given as goal

abbrev pub invariant-loop-i : goal.invariant-loop-i
invariant-loop-i l =
    fold (spec.fold_turn l.t l.x l.e l.env) l.so_far (drop l.i (elements (option_copied l.array)))
    ≡ fold (spec.fold_turn l.t l.x l.e l.env) l.start (elements (option_copied l.array))
