use Rattle.std.proofs.Common.{◌≡◌, ◌++◌, map, drop}
use Rattle.serde_json.specs.View.{view}
use Rattle.deriv_file.specs.FileText as spec
use Rattle.deriv_file.proofs.node_value.entries_value.Given as goal

abbrev pub invariant-loop-entry : goal.invariant-loop-entry
invariant-loop-entry l = map view l.values.items ++ map spec.entry_data (drop l.entry-index l.entries)
    ≡ map spec.entry_data l.entries
