use Rattle.model_reader.proofs.laws.Exact.{text_is_fine}
use Rattle.model_reader.proofs.reader.text_is_of_formed_model.Goals as goal

pub returns : goal.returns
returns c = λ bytes m reads. let h = text_is_fine bytes m reads in (h.1, h.0)
