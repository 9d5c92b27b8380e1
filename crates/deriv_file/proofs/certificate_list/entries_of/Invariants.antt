use Rattle.std.proofs.Common.{◌≡◌, ◌++◌, length, option_map}
use Rattle.serde_json.specs.View.{items_view}
use Rattle.deriv_file.specs.CertificateList as spec
use Rattle.deriv_file.proofs.certificate_list.entries_of.Given as goal

abbrev pub invariant-loop-left : goal.invariant-loop-left
invariant-loop-left l = option_map (λ rest. l.entries ++ rest) (spec.entries_of (items_view l.left))
    ≡ spec.entries_of (items_view l.items)

abbrev pub decreases-loop-left : goal.decreases-loop-left
decreases-loop-left l = length l.left
