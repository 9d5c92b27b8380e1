use Rattle.std.proofs.Common.{◌≡◌, length}
use Rattle.side_certs.specs.Closes as certificate
use Rattle.side_certs.proofs.closing.cancels_all.Given as goal

-- what is left decides
abbrev pub invariant-entries : goal.invariant-entries
invariant-entries l =
    certificate.cancels_all (certificate.rest_of l.facts l.tops l.goal l.cert) l.facts l.tops l.after
    ≡ certificate.cancels_all (certificate.rest_of l.facts l.tops l.goal l.cert) l.facts l.tops l.cert.entries

abbrev pub decreases-entries : goal.decreases-entries
decreases-entries l = length l.after
