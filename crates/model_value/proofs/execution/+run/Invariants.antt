use Rattle.std.proofs.Common.{map, drop}
use Rattle.model_syntax.specs.Value as spec
use Rattle.model_value.specs.Bindings.{SameValues}
use Rattle.model_value.proofs.Runs.{MidLoop}
use Rattle.model_value.proofs.execution.+run.Given as goal

abbrev pub invariant-run_block-loop-stmt : goal.invariant-run_block-loop-stmt
invariant-run_block-loop-stmt l =
    SameValues (spec.in_turn (map spec.run (drop l.stmt-index l.stmts)) l.env) (spec.in_turn (map spec.run l.stmts) l.fn.env)

abbrev pub invariant-run_loop-loop-i : goal.invariant-run_loop-loop-i
invariant-run_loop-loop-i l =
    MidLoop l.x l.names l.body l.high l.fn.env
    (spec.folded (spec.loop_turn l.x l.names (map spec.run l.body)) (spec.numbers l.low l.high) l.fn.env) l.i l.env
