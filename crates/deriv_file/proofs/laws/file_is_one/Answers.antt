use Rattle.deriv_file.proofs.laws.FileOf as lemma
use Rattle.deriv_file.proofs.laws.file_is_one.Goals as goal

pub returns : goal.returns
returns c = lemma.file_is_one
