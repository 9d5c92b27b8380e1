use Rattle.std.proofs.Common.{◌≡◌, length}
use Rattle.side_certs.specs.Closes as certificate
use Rattle.side_certs.proofs.closing.all_named.Given as goal

-- what is left decides
abbrev pub invariant-entries : goal.invariant-entries
invariant-entries l = certificate.all_named l.facts l.tops l.left ≡ certificate.all_named l.facts l.tops l.entries

abbrev pub decreases-entries : goal.decreases-entries
decreases-entries l = length l.left
