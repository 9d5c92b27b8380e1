-- A certificate that the search finds closes its goal, and keeps the search's limits.
use Rattle.cert_search.specs.Limits.{FoundCloses}
use Rattle.cert_search.proofs.Closing.{found_leads}

pub found_closes : FoundCloses
found_closes = found_leads
