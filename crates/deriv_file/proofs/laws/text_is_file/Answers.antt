use Rattle.deriv_file.proofs.laws.FileReread as lemma
use Rattle.deriv_file.proofs.laws.text_is_file.Goals as goal

pub returns : goal.returns
returns c = lemma.text_is_file
