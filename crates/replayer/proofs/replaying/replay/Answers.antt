use Rattle.bed_syntax.specs.declared.weights.TheConstants as weights
use Rattle.model_command.specs.Computes.{Computes}
use Rattle.model_command.specs.Measures.{IsMeasured, IsSmall}
use Rattle.replayer.proofs.Fulfilled.{answer_fulfils}
use Rattle.replayer.proofs.replaying.replay.Goals as goal

pub returns-clause-computes : goal.returns-clause-computes
returns-clause-computes g c =
    answer_fulfils (λ m answer. Computes weights.Weights.LARGE m answer.command) (λ m answer all. all.computes)
    (record {
      sound = c.blocks_are_sound.ensures;
      small = c.commands_are_small.ensures;
      starts_fit = c.start_fits.ensures;
      start_scoped = c.start_is_scoped.ensures;
    })
    (g.B.Book.turn c.args.book.now) (g.met.B.Book.laws c.args.book.now) c.args.m.now.inner c.model.result.now
    c.model.ensures.model c.model.ensures.well c.model.ensures.within c.model.ensures.spellable c.model.ensures.formed
    c.args.d.now c.requires.whole c.args.most c.requires.size c.check.result c.check.ensures

pub returns-clause-measured : goal.returns-clause-measured
returns-clause-measured g c =
    answer_fulfils (λ m answer. IsMeasured weights.Weights.LARGE m answer.command) (λ m answer all. all.measured)
    (record {
      sound = c.blocks_are_sound.ensures;
      small = c.commands_are_small.ensures;
      starts_fit = c.start_fits.ensures;
      start_scoped = c.start_is_scoped.ensures;
    })
    (g.B.Book.turn c.args.book.now) (g.met.B.Book.laws c.args.book.now) c.args.m.now.inner c.model.result.now
    c.model.ensures.model c.model.ensures.well c.model.ensures.within c.model.ensures.spellable c.model.ensures.formed
    c.args.d.now c.requires.whole c.args.most c.requires.size c.check.result c.check.ensures

pub returns-clause-small : goal.returns-clause-small
returns-clause-small g c =
    answer_fulfils (λ m answer. IsSmall answer.command) (λ m answer all. all.small)
    (record {
      sound = c.blocks_are_sound.ensures;
      small = c.commands_are_small.ensures;
      starts_fit = c.start_fits.ensures;
      start_scoped = c.start_is_scoped.ensures;
    })
    (g.B.Book.turn c.args.book.now) (g.met.B.Book.laws c.args.book.now) c.args.m.now.inner c.model.result.now
    c.model.ensures.model c.model.ensures.well c.model.ensures.within c.model.ensures.spellable c.model.ensures.formed
    c.args.d.now c.requires.whole c.args.most c.requires.size c.check.result c.check.ensures
