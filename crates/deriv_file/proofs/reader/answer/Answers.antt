use Rattle.serde_json.specs.View.{view}
use Rattle.deriv_file.proofs.Counted.{nodes_countable}
use Rattle.deriv_file.proofs.reader.answer.Goals as goal

pub derivation_of-requires : goal.derivation_of-requires
derivation_of-requires c = nodes_countable c.args.bytes.now (view c.in-Some.value) c.requires
    (rw c.in-Some.is at c.in_ok-value.ensures)
