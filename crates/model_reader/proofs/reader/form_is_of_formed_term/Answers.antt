use Rattle.model_reader.proofs.Read.{expr_is_fine, fact_is_fine}
use Rattle.model_reader.proofs.reader.form_is_of_formed_term.Goals as goal

pub returns : goal.returns
returns c = record {
  expression = λ form a is. let h = expr_is_fine form a is in (h.1, h.0);
  fact = fact_is_fine;
}
