use Rattle.std.proofs.Common.{◌≡◌, length}
use Rattle.side_certs.specs.Closes as certificate
use Rattle.side_certs.proofs.closing.cancels.Given as goal

-- what is left decides
abbrev pub invariant-terms : goal.invariant-terms
invariant-terms l = certificate.cancels (certificate.rest_of l.facts l.tops l.goal l.cert) l.after
    ≡ certificate.cancels (certificate.rest_of l.facts l.tops l.goal l.cert) l.terms

abbrev pub decreases-terms : goal.decreases-terms
decreases-terms l = length l.after
