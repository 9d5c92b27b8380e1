use Rattle.std.proofs.Common.{sym, subst}
use Rattle.model_reader.specs.Parts.{Reading}
use Rattle.model_reader.specs.Yields.{Yields}
use Rattle.lemma_files.proofs.AsModel.{as_model}
use Rattle.lemma_files.proofs.lemmas.fact_of.Goals as goal

pub returns : goal.returns
returns c =
    subst (λ (r : Reading). Yields c.read_fact.result r.fact) (sym (as_model c.args.form.now)) c.read_fact.ensures
