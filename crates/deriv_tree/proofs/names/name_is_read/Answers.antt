use Rattle.deriv_tree.proofs.laws.NamesRead.{name_is_read}
use Rattle.deriv_tree.proofs.names.name_is_read.Goals as goal

pub returns : goal.returns
returns c = name_is_read
