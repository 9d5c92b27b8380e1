use Rattle.rv_code.proofs.laws.Same.{same}
use Rattle.rv_code.proofs.encoding.one_instruction_a_word.Goals as goal

pub returns : goal.returns
returns c = same
