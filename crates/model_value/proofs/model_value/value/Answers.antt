use Rattle.model_value.proofs.Soundness.{answer_sound}
use Rattle.model_value.proofs.model_value.value.Goals as goal

pub returns-clause-sound : goal.returns-clause-sound
returns-clause-sound c =
    answer_sound c.args.m.now.inner c.args.args.now c.evaluate.result c.args.m.now.well c.args.m.now.formed c.args.m.now.spellable
    c.evaluate.ensures
