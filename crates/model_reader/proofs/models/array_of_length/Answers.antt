use Rattle.model_reader.proofs.models.array_of_length.Goals as goal

pub returns : goal.returns
returns c = rw (c.in_ok-form_at.ensures.form, c.in_ok-length.ensures) (rw c.array_param.ensures at c.finished.ensures)
