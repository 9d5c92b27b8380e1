use Rattle.cert_search.proofs.laws.Found.{found_closes}
use Rattle.cert_search.proofs.laws.found_closes.Goals as goal

pub returns : goal.returns
returns c = found_closes
