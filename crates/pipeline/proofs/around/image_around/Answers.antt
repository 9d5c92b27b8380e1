use Rattle.bed_syntax.specs.declared.weights.TheConstants as weights
use Rattle.pipeline.proofs.Finished.{image_within, written}
use Rattle.pipeline.proofs.around.image_around.Goals as goal

pub write_image-requires : goal.write_image-requires
write_image-requires c =
    let m = c.args.m.now in
    image_within weights.Weights.LARGE m.inner c.args.c.now c.args.e.now c.in_ok-image.image m.well m.formed c.requires.measured
    c.requires.small
    c.requires.some c.requires.counted c.requires.tables c.requires.stack_aligned c.requires.stack_small
    c.in_ok-image.ensures.image c.in_ok-image.ensures.limited

pub returns : goal.returns
returns c = written c.args.m.now.inner c.args.c.now c.args.e.now c.in_ok-image.image c.in_ok-bytes.bytes c.args.m.now.well
    c.args.m.now.formed
    c.requires.serves c.requires.counted c.requires.names c.in_ok-image.ensures.image c.in_ok-bytes.ensures
