use Rattle.std.proofs.Common.{◌≡◌, ◌++◌, map, drop}
use Rattle.serde_json.specs.View.{view}
use Rattle.deriv_file.specs.FileText as spec
use Rattle.deriv_file.proofs.node_value.certs_value.Given as goal

abbrev pub invariant-loop-cert : goal.invariant-loop-cert
invariant-loop-cert l = map view l.values.items ++ map spec.cert_data (drop l.cert-index l.certs) ≡ map spec.cert_data l.certs
