use Rattle.std.proofs.Common.{◌≡◌, ◌++◌, map, drop}
use Rattle.serde_json.specs.View.{view}
use Rattle.deriv_file.specs.FileText as spec
use Rattle.deriv_file.proofs.node_value.args_value.Given as goal

abbrev pub invariant-loop-arg : goal.invariant-loop-arg
invariant-loop-arg l = map view l.values.items ++ map spec.integer (drop l.arg-index l.args) ≡ map spec.integer l.args
