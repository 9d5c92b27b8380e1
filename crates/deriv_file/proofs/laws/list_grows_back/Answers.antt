use Rattle.deriv_file.proofs.ReadBack.{body_back}
use Rattle.deriv_file.proofs.laws.list_grows_back.Goals as goal

pub returns : goal.returns
returns c = body_back
