use Rattle.image_layout.proofs.laws.Length.{image_small}
use Rattle.run_setup.proofs.loading.image_bytes.Goals as goal

pub returns-clause-small : goal.returns-clause-small
returns-clause-small c = rw c.in_ok-bytes.ensures.bytes_are (image_small c.args.i.now c.requires)
