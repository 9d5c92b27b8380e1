use Rattle.std.proofs.Common.{◌≡◌, ◌≤◌}
use Rattle.cert_search.specs.Search as spec
use Rattle.cert_search.proofs.candidates.newest_fact.Given as goal

-- none of the facts that were passed fits
abbrev pub invariant-facts : goal.invariant-facts
invariant-facts l = record {
  within : l.older ≤ l.count;
  passed : spec.fitting l.facts l.term l.older ≡ spec.fitting l.facts l.term l.count;
}

abbrev pub decreases-facts : goal.decreases-facts
decreases-facts l = l.older
